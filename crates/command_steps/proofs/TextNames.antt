-- A text has no more names than bytes: a token for each of them, and a byte or more for each token.
use Rattle.std.proofs.Common.{◌≡◌, ℕ, ◌+◌, ◌≤◌, List, [], ◌∷◌, ◌++◌, length, map, ◌∙◌, arith, length-append}
use Rattle.std.specs.List.{flat_map}
use Rattle.std.proofs.lemmas.List.{length-map}
use Rattle.chp_base.specs.declared.span.Span.{Span}
use Rattle.chp_syntax.specs.declared.token.Token.{Token}
use Rattle.chp_syntax.specs.declared.tree.Decl.{Decl}
use Rattle.chp_syntax.specs.declared.tree.Ident.{Ident}
use Rattle.chp_syntax.specs.Trees.{Expression, Expressions, and_part, Links, no_links, and_link, Statement, Statements, no_members, and_member, Arms, and_arm, Procedure, ProgramTree}
use Rattle.chp_syntax.specs.Tokens.{InOrder}
use Rattle.chp_syntax.specs.Grammar.{from_to, end_of, chain_of, longer, no_tail, Covered, Tail, chained, sequence_of, parallel_of, Guarded, Primary, a_number, a_name, a_bit, a_slice, a_join, in_brackets, Parts, the_parts, MoreParts, no_more_parts, one_more_part, Negated, plain, negated, Sum, the_sum, MoreSum, no_more_sum, one_more_sum, Comparison, not_compared, compared, Conjunction, the_conjunction, MoreConjunction, no_more_conjunction, one_more_conjunction, Exclusive, the_exclusive, MoreExclusive, no_more_exclusive, one_more_exclusive, Disjunction, the_disjunction, MoreDisjunction, no_more_disjunction, one_more_disjunction, Atom, a_skip, an_assignment, a_send, a_receive, a_call, in_round, a_loop, a_guarded_loop, a_selection, GuardedCommand, the_branch, GuardedCommands, the_choices, MoreChoices, no_more_choices, one_more_choice, Both, the_both, MoreBoth, no_more_both, one_more_both, Seq, the_seq, MoreSeq, no_more_seq, one_more_seq, Par, the_par, MorePar, no_more_par, one_more_par, Declared, Item, valued, defined, and_item, Declaration, a_channel, a_variable, a_variable_with_first, a_procedure, Declarations, no_declaration, one_more_declaration, Derives, the_program}
use Rattle.chp_syntax.specs.Reading.{Reads}
use Rattle.chp_syntax.proofs.Cutting.{in_order}
use Rattle.width_check.specs.Places.{Use, reads_in, reads_in_join, reads_in_links, uses_in, uses_in_each, uses_in_arms}
use Rattle.call_merge.specs.CallSites.{calls_in, calls_in_each, calls_in_arms, nested_calls, all_calls}
use Rattle.call_merge.specs.CallSplits.{program_names, all_uses, all_names}

-- ---- the names that an expression reads

abbrev reads : Expression → ℕ
reads e = length (reads_in e)

abbrev reads_behind : Links → ℕ
reads_behind ls = length (reads_in_links ls)

chain_reads : (e : Expression) (ls : Links) (s : Span) → reads (chained e ls s) ≡ reads e + reads_behind ls
chain_reads e no_links s = omega arith
chain_reads e (and_link o f more) s = length-append (reads_in e) (reads_in_links (and_link o f more))

tail_reads : (c : Covered) (us : Tail) → reads (chain_of c us).expression ≡ reads c.expression + reads_behind us.links
tail_reads c us = chain_reads c.expression us.links (from_to c.at (end_of c.at us.last))

part_reads : (e : Expression) (es : Expressions) → length (reads_in_join (and_part e es)) ≡ reads e + length (reads_in_join es)
part_reads e es = length-append (reads_in e) (reads_in_join es)

link_reads : (o : _) (e : Expression) (ls : Links) → reads_behind (and_link o e ls) ≡ reads e + reads_behind ls
link_reads o e ls = length-append (reads_in e) (reads_in_links ls)

mutual
  primary : {ts rest : List Token} {c : Covered} → Primary ts rest c → reads c.expression + length rest ≤ length ts
  primary a_number = omega arith
  primary a_name = omega arith
  primary a_bit = omega arith
  primary a_slice = omega arith
  primary (a_join p) = omega (arith, parts p)
  primary (in_brackets d) = omega (arith, disjunction d)

  parts : {ts rest : List Token} {es : Expressions} → Parts ts rest es → length (reads_in_join es) + length rest ≤ length ts
  parts (the_parts {e = e} {es = es} d m) = omega (arith, disjunction d, more_parts m, part_reads e es)

  more_parts : {ts rest : List Token} {es : Expressions} → MoreParts ts rest es → length (reads_in_join es) + length rest ≤ length ts
  more_parts no_more_parts = omega arith
  more_parts (one_more_part {e = e} {es = es} d m) = omega (arith, disjunction d, more_parts m, part_reads e es)

  negation_of : {ts rest : List Token} {c : Covered} → Negated ts rest c → reads c.expression + length rest ≤ length ts
  negation_of (plain p) = primary p
  negation_of (negated p) = omega (arith, primary p)

  sum : {ts rest : List Token} {c : Covered} → Sum ts rest c → reads c.expression + length rest ≤ length ts
  sum (the_sum {c = c} {us = us} n m) = omega (arith, negation_of n, more_sum m, tail_reads c us)

  more_sum : {ts rest : List Token} {us : Tail} → MoreSum ts rest us → reads_behind us.links + length rest ≤ length ts
  more_sum no_more_sum = omega arith
  more_sum (one_more_sum {o = o} {c = c} {us = us} e n m) = omega (arith, negation_of n, more_sum m, link_reads o c.expression us.links)

  comparison : {ts rest : List Token} {c : Covered} → Comparison ts rest c → reads c.expression + length rest ≤ length ts
  comparison (not_compared s) = sum s
  comparison (compared {o = o} {c = c} {d = d} s e t) =
      omega (arith, sum s, sum t, tail_reads c (longer o d no_tail), link_reads o d.expression no_links)

  conjunction : {ts rest : List Token} {c : Covered} → Conjunction ts rest c → reads c.expression + length rest ≤ length ts
  conjunction (the_conjunction {c = c} {us = us} p m) = omega (arith, comparison p, more_conjunction m, tail_reads c us)

  more_conjunction : {ts rest : List Token} {us : Tail} → MoreConjunction ts rest us → reads_behind us.links + length rest ≤ length ts
  more_conjunction no_more_conjunction = omega arith
  more_conjunction (one_more_conjunction {o = o} {c = c} {us = us} e p m) =
      omega (arith, comparison p, more_conjunction m, link_reads o c.expression us.links)

  exclusive : {ts rest : List Token} {c : Covered} → Exclusive ts rest c → reads c.expression + length rest ≤ length ts
  exclusive (the_exclusive {c = c} {us = us} p m) = omega (arith, conjunction p, more_exclusive m, tail_reads c us)

  more_exclusive : {ts rest : List Token} {us : Tail} → MoreExclusive ts rest us → reads_behind us.links + length rest ≤ length ts
  more_exclusive no_more_exclusive = omega arith
  more_exclusive (one_more_exclusive {o = o} {c = c} {us = us} e p m) =
      omega (arith, conjunction p, more_exclusive m, link_reads o c.expression us.links)

  disjunction : {ts rest : List Token} {c : Covered} → Disjunction ts rest c → reads c.expression + length rest ≤ length ts
  disjunction (the_disjunction {c = c} {us = us} p m) = omega (arith, exclusive p, more_disjunction m, tail_reads c us)

  more_disjunction : {ts rest : List Token} {us : Tail} → MoreDisjunction ts rest us → reads_behind us.links + length rest ≤ length ts
  more_disjunction no_more_disjunction = omega arith
  more_disjunction (one_more_disjunction {o = o} {c = c} {us = us} e p m) =
      omega (arith, exclusive p, more_disjunction m, link_reads o c.expression us.links)

-- ---- the names that a statement uses and calls

abbrev named : Statement → ℕ
named s = length (uses_in s) + length (calls_in s)

abbrev named_each : Statements → ℕ
named_each us = length (uses_in_each us) + length (calls_in_each us)

abbrev named_arms : Arms → ℕ
named_arms bs = length (uses_in_arms bs) + length (calls_in_arms bs)

member_named : (t : Statement) (us : Statements) → named_each (and_member t us) ≡ named t + named_each us
member_named t us = omega (arith, length-append (uses_in t) (uses_in_each us), length-append (calls_in t) (calls_in_each us))

arm_named : (g : Expression) (t : Statement) (bs : Arms) → named_arms (and_arm g t bs) ≡ reads g + named t + named_arms bs
arm_named g t bs = omega (
  arith,
  length-append (reads_in g) (uses_in t ++ uses_in_arms bs),
  length-append (uses_in t) (uses_in_arms bs),
  length-append (calls_in t) (calls_in_arms bs),
)

sequence_named : (t : Statement) (us : Statements) → named (sequence_of t us) ≡ named t + named_each us
sequence_named t no_members = omega arith
sequence_named t (and_member u us) = member_named t (and_member u us)

parallel_named : (t : Statement) (us : Statements) → named (parallel_of t us) ≡ named t + named_each us
parallel_named t no_members = omega arith
parallel_named t (and_member u us) = member_named t (and_member u us)

mutual
  atom : {ts rest : List Token} {t : Statement} → Atom ts rest t → named t + length rest ≤ length ts
  atom a_skip = omega arith
  atom (an_assignment d) = omega (arith, disjunction d)
  atom (a_send d) = omega (arith, disjunction d)
  atom a_receive = omega arith
  atom a_call = omega arith
  atom (in_round p) = omega (arith, par p)
  atom (a_loop p) = omega (arith, par p)
  atom (a_guarded_loop g) = omega (arith, guarded_commands g)
  atom (a_selection g) = omega (arith, guarded_commands g)

  guarded_command : {ts rest : List Token} {g : Guarded} → GuardedCommand ts rest g → reads g.guard + named g.body + length rest ≤ length ts
  guarded_command (the_branch d p) = omega (arith, disjunction d, par p)

  guarded_commands : {ts rest : List Token} {bs : Arms} → GuardedCommands ts rest bs → named_arms bs + length rest ≤ length ts
  guarded_commands (the_choices {e = e} {t = t} {bs = bs} g m) = omega (arith, guarded_command g, more_choices m, arm_named e t bs)

  more_choices : {ts rest : List Token} {bs : Arms} → MoreChoices ts rest bs → named_arms bs + length rest ≤ length ts
  more_choices no_more_choices = omega arith
  more_choices (one_more_choice {e = e} {t = t} {bs = bs} g m) = omega (arith, guarded_command g, more_choices m, arm_named e t bs)

  both : {ts rest : List Token} {t : Statement} → Both ts rest t → named t + length rest ≤ length ts
  both (the_both {t = t} {us = us} a m) = omega (arith, atom a, more_both m, parallel_named t us)

  more_both : {ts rest : List Token} {us : Statements} → MoreBoth ts rest us → named_each us + length rest ≤ length ts
  more_both no_more_both = omega arith
  more_both (one_more_both {t = t} {us = us} a m) = omega (arith, atom a, more_both m, member_named t us)

  seq : {ts rest : List Token} {t : Statement} → Seq ts rest t → named t + length rest ≤ length ts
  seq (the_seq {t = t} {us = us} b m) = omega (arith, both b, more_seq m, sequence_named t us)

  more_seq : {ts rest : List Token} {us : Statements} → MoreSeq ts rest us → named_each us + length rest ≤ length ts
  more_seq no_more_seq = omega arith
  more_seq (one_more_seq {t = t} {us = us} b m) = omega (arith, both b, more_seq m, member_named t us)

  par : {ts rest : List Token} {t : Statement} → Par ts rest t → named t + length rest ≤ length ts
  par (the_par {t = t} {us = us} s m) = omega (arith, seq s, more_par m, parallel_named t us)

  more_par : {ts rest : List Token} {us : Statements} → MorePar ts rest us → named_each us + length rest ≤ length ts
  more_par no_more_par = omega arith
  more_par (one_more_par {t = t} {us = us} s m) = omega (arith, seq s, more_par m, member_named t us)

-- ---- all names of a program

-- with the names of the procedures
abbrev pub named_in_procs : List Procedure → ℕ
named_in_procs [] = 0
named_in_procs (q ∷ qs) = 1 + named q.body + named_in_procs qs

abbrev declared_named : Declared → ℕ
declared_named d = length d.decls + named_in_procs d.procs

abbrev item_named : Item → ℕ
item_named (valued d) = 1
item_named (defined q) = 1 + named q.body

one_item : (i : Item) (more : Declared) → declared_named (and_item i more) ≡ item_named i + declared_named more
one_item (valued d) more = omega arith
one_item (defined q) more = omega arith

declaration : {ts rest : List Token} {i : Item} → Declaration ts rest i → item_named i + length rest ≤ length ts
declaration (a_channel e) = omega arith
declaration a_variable = omega arith
declaration a_variable_with_first = omega arith
declaration (a_procedure a) = omega (arith, atom a)

declarations : {ts rest : List Token} {d : Declared} → Declarations ts rest d → declared_named d + length rest ≤ length ts
declarations no_declaration = omega arith
declarations (one_more_declaration {d = i} {more = more} h hs) = omega (arith, declaration h, declarations hs, one_item i more)

abbrev tree_named : ProgramTree → ℕ
tree_named p = length p.decls + named_in_procs p.procs + named p.body

program : (ts : List Token) (p : ProgramTree) → Derives ts p → tree_named p ≤ length ts
program ts p (the_program ds s) = omega (arith, declarations ds, par s)

bytes : (from : ℕ) (ts : List Token) (to : ℕ) → InOrder from ts to → from + length ts ≤ to
bytes from [] to h = omega (arith, h)
bytes from (t ∷ ts) to h = omega (arith, h.0, h.1, bytes t.at.to ts to h.2)

abbrev uses_of : List Procedure → List Use
uses_of qs = flat_map (λ (q : Procedure). uses_in q.body) qs

procs_named : (qs : List Procedure) → length qs + length (uses_of qs) + length (nested_calls qs) ≡ named_in_procs qs
procs_named [] = omega arith
procs_named (q ∷ qs) =
    omega (arith, procs_named qs, length-append (uses_in q.body) (uses_of qs), length-append (calls_in q.body) (nested_calls qs))

abbrev uses_named : ProgramTree → List (List ℕ)
uses_named p = map (λ (u : Use). u.name) (all_uses p)

abbrev calls_named : ProgramTree → List (List ℕ)
calls_named p = map (λ (i : Ident). i.name) (all_calls p)

program_counted : (p : ProgramTree) → length (program_names p) ≡ length p.decls + length p.procs
program_counted p = omega (
  arith,
  length-append (map (λ (d : Decl). d.name.name) p.decls) (map (λ (q : Procedure). q.name.name) p.procs),
  length-map p.decls (λ (d : Decl). d.name.name),
  length-map p.procs (λ (q : Procedure). q.name.name),
)

uses_counted : (p : ProgramTree) → length (uses_named p) ≡ length (uses_of p.procs) + length (uses_in p.body)
uses_counted p = length-map (all_uses p) (λ (u : Use). u.name) ∙ length-append (uses_of p.procs) (uses_in p.body)

calls_counted : (p : ProgramTree) → length (calls_named p) ≡ length (nested_calls p.procs) + length (calls_in p.body)
calls_counted p = length-map (all_calls p) (λ (i : Ident). i.name) ∙ length-append (nested_calls p.procs) (calls_in p.body)

three_counted : {X : Type 0} (xs ys zs : List X) (x y z : ℕ) → length xs ≡ x → length ys ≡ y → length zs ≡ z → length (xs ++ ys ++ zs) ≡ x + y + z
three_counted xs ys zs x y z e f g = omega (arith, e, f, g, length-append (xs ++ ys) zs, length-append xs ys)

names_counted : (p : ProgramTree) → length (all_names p) ≡ tree_named p
names_counted p =
    let all : length (all_names p) ≡ (length p.decls + length p.procs) + (length (uses_of p.procs) + length (uses_in p.body))
    + (length (nested_calls p.procs) + length (calls_in p.body)) =
    three_counted (program_names p) (uses_named p) (calls_named p) _ _ _ (program_counted p) (uses_counted p) (calls_counted p) in
    let procs = procs_named p.procs in
    omega (arith, all, procs)

tree_few : (text : List ℕ) (p : ProgramTree) → Reads text p → tree_named p ≤ length text
tree_few text p r = omega (arith, program r.tokens p r.derives, bytes 0 r.tokens (length text) (in_order r.cut))

pub few_names : (text : List ℕ) (p : ProgramTree) → Reads text p → length (all_names p) ≤ length text
few_names text p r = omega (arith, tree_few text p r, names_counted p)

pub procs_few : (text : List ℕ) (p : ProgramTree) → Reads text p → named_in_procs p.procs ≤ length text
procs_few text p r = omega (arith, tree_few text p r)
