-- The maps of statements that are made here go into all their parts.
use Rattle.std.proofs.Common.{ℕ, List, [], ◌++◌, map, refl, ap, ◌∙◌}
use Rattle.std.proofs.lemmas.List.{map-append}
use Rattle.chp_syntax.specs.declared.tree.Decl.{Decl}
use Rattle.chp_syntax.specs.Trees.{Expressions, Links, Statement, Statements, Arms, Procedure}
use Rattle.width_check.specs.Places.{Use, reads_in, reads_in_join, reads_in_links, uses_in, uses_in_each, uses_in_arms}
use Rattle.call_merge.specs.CallSites.{calls_in, calls_in_each, calls_in_arms, zero_expression, call_sends, call_sends_each, call_sends_arms}
use Rattle.call_merge.specs.CallSplits.{names_read, own_readers, own_readers_each, own_readers_arms}
use Rattle.call_merge.specs.Inlining.{inlined_statement, inlined_members, inlined_arms}
use Rattle.call_merge.proofs.Copying.{GoesInto}
use Rattle.call_merge.proofs.Collecting.{Collects, CollectsReads}

pub goes_sends : GoesInto call_sends call_sends_each call_sends_arms (λ e. zero_expression)
goes_sends = record {
  no_member = refl;
  one_member = λ s more. refl;
  no_arm = refl;
  one_arm = λ g s more. refl;
  turns = λ members. refl;
  sides = λ members. refl;
  choices = λ again xs. refl;
}

pub goes_inlined : (procs : List Procedure) → GoesInto (inlined_statement procs) (inlined_members procs) (inlined_arms procs) (λ e. e)
goes_inlined procs = record {
  no_member = refl;
  one_member = λ s more. refl;
  no_arm = refl;
  one_arm = λ g s more. refl;
  turns = λ members. refl;
  sides = λ members. refl;
  choices = λ again xs. refl;
}

pub collects_calls : Collects calls_in calls_in_each calls_in_arms (λ e. [])
collects_calls = record {
  no_member = refl;
  one_member = λ s more. refl;
  no_arm = refl;
  one_arm = λ g s more. refl;
  turns = λ members. refl;
  sides = λ members. refl;
  choices = λ again xs. refl;
}

pub collects_own_readers : (decls : List Decl) → Collects (own_readers decls) (own_readers_each decls) (own_readers_arms decls) (λ e. [])
collects_own_readers decls = record {
  no_member = refl;
  one_member = λ s more. refl;
  no_arm = refl;
  one_arm = λ g s more. refl;
  turns = λ members. refl;
  sides = λ members. refl;
  choices = λ again xs. refl;
}

abbrev pub names_used : Statement → List (List ℕ)
names_used s = map (λ (u : Use). u.name) (uses_in s)

abbrev pub names_used_each : Statements → List (List ℕ)
names_used_each us = map (λ (u : Use). u.name) (uses_in_each us)

abbrev pub names_used_arms : Arms → List (List ℕ)
names_used_arms xs = map (λ (u : Use). u.name) (uses_in_arms xs)

pub collects_uses : Collects names_used names_used_each names_used_arms names_read
collects_uses = record {
  no_member = refl;
  one_member = λ s more. map-append (λ (u : Use). u.name) (uses_in s) (uses_in_each more);
  no_arm = refl;
  one_arm = λ g s more. map-append (λ (u : Use). u.name) (reads_in g) (uses_in s ++ uses_in_arms more)
      ∙ ap (λ z. names_read g ++ z) (map-append (λ (u : Use). u.name) (uses_in s) (uses_in_arms more));
  turns = λ members. refl;
  sides = λ members. refl;
  choices = λ again xs. refl;
}

abbrev pub names_read_join : Expressions → List (List ℕ)
names_read_join parts = map (λ (u : Use). u.name) (reads_in_join parts)

abbrev pub names_read_links : Links → List (List ℕ)
names_read_links links = map (λ (u : Use). u.name) (reads_in_links links)

pub collects_reads : CollectsReads names_read names_read_join names_read_links
collects_reads = record {
  no_part = refl;
  one_part = λ e more. map-append (λ (u : Use). u.name) (reads_in e) (reads_in_join more);
  no_link = refl;
  one_link = λ op e more. map-append (λ (u : Use). u.name) (reads_in e) (reads_in_links more);
  joins = λ parts at. refl;
  chains = λ e more at. map-append (λ (u : Use). u.name) (reads_in e) (reads_in_links more);
}
