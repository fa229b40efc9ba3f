-- The programs that texts read as have the grammar's shape, and what they declare are names.
use Rattle.std.proofs.Common.{◌≡◌, ℕ, suc, ◌≤◌, Bool, true, false, List, [], ◌∷◌, Some, refl, sym, ap, ◌∙◌, subst, arith}
use Rattle.std.specs.Prelude.{◌&&◌, ◌||◌, nat_le, All}
use Rattle.std.specs.List.{list_all}
use Rattle.std.proofs.lemmas.Bool.Decides.{nat_tests}
use Rattle.std.proofs.lemmas.Bool.{leb-true}
use Rattle.std.proofs.lemmas.List.Elements.{All-nil, All-cons}
use Rattle.chp_base.specs.Names.{IsName}
use Rattle.chp_syntax.specs.declared.token.Token.{Token}
use Rattle.chp_syntax.specs.declared.token.TokenKind.{TokenKind}
use Rattle.chp_syntax.specs.declared.token.TokenKind.TheVariants.{Word, Ident, Number, Sign}
use Rattle.chp_syntax.specs.declared.token.Mark.TheVariants as mark
use Rattle.chp_syntax.specs.declared.tree.Decl.{Decl}
use Rattle.chp_syntax.specs.declared.tree.Op.{Op}
use Rattle.chp_syntax.specs.Spelling.{Spells}
use Rattle.chp_syntax.specs.Tokens.{Tokens, Cuts, so_far, a_gap, a_token}
use Rattle.chp_syntax.specs.Trees.{Expression, Expressions, Links, no_links, and_link, Statement, Statements, no_members, and_member, Arms, Procedure, ProgramTree}
use Rattle.chp_syntax.specs.Grammar.{or_operator, xor_of, and_of, sum_of, Covered, Tail, chained, Guarded, parallel_of, sequence_of, Primary, a_number, a_name, a_bit, a_slice, a_join, in_brackets, Parts, the_parts, MoreParts, no_more_parts, one_more_part, Negated, plain, negated, Sum, the_sum, MoreSum, no_more_sum, one_more_sum, Comparison, not_compared, compared, Conjunction, the_conjunction, MoreConjunction, no_more_conjunction, one_more_conjunction, Exclusive, the_exclusive, MoreExclusive, no_more_exclusive, one_more_exclusive, Disjunction, the_disjunction, MoreDisjunction, no_more_disjunction, one_more_disjunction, Atom, a_skip, an_assignment, a_send, a_receive, a_call, in_round, a_loop, a_guarded_loop, a_selection, GuardedCommand, the_branch, GuardedCommands, the_choices, MoreChoices, no_more_choices, one_more_choice, Both, the_both, MoreBoth, no_more_both, one_more_both, Seq, the_seq, MoreSeq, no_more_seq, one_more_seq, Par, the_par, MorePar, no_more_par, one_more_par, Declared, Item, valued, defined, and_item, Declaration, a_channel, a_variable, a_variable_with_first, a_procedure, Declarations, no_declaration, one_more_declaration, the_program, Derives}
use Rattle.chp_syntax.specs.Reading.{Reads, arm_count, few_arms, few_arms_each, few_arms_in}
use Rattle.chp_syntax.specs.Shape.{is_comparison, some_compares, link_count, expression_count, IsShapedExpression, AreShapedParts, AreShapedLinks, IsShapedStatement, AreShapedMembers, AreShapedArms, IsShapedDecl, IsShapedProcedure, IsShaped}

both_true : (a b : Bool) → (a && b) ≡ true → (a ≡ true) × (b ≡ true)
both_true true b h = (refl, h)
both_true false b h = absurd (cc h)

-- expressions

sum_plain : (j : TokenKind) (o : Op) → sum_of j ≡ Some o → is_comparison o ≡ false
sum_plain (Sign mark.Plus) o e = cc
sum_plain (Sign mark.Minus) o e = cc
sum_plain (Sign _) o e = absurd (cc e)
sum_plain (Word w) o e = absurd (cc e)
sum_plain (Ident w) o e = absurd (cc e)
sum_plain (Number w) o e = absurd (cc e)

and_plain : (j : TokenKind) (o : Op) → and_of j ≡ Some o → is_comparison o ≡ false
and_plain (Sign mark.Amp) o e = cc
and_plain (Sign _) o e = absurd (cc e)
and_plain (Word w) o e = absurd (cc e)
and_plain (Ident w) o e = absurd (cc e)
and_plain (Number w) o e = absurd (cc e)

xor_plain : (j : TokenKind) (o : Op) → xor_of j ≡ Some o → is_comparison o ≡ false
xor_plain (Sign mark.Caret) o e = cc
xor_plain (Sign _) o e = absurd (cc e)
xor_plain (Word w) o e = absurd (cc e)
xor_plain (Ident w) o e = absurd (cc e)
xor_plain (Number w) o e = absurd (cc e)

or_plain : (j : TokenKind) (o : Op) → or_operator j ≡ Some o → is_comparison o ≡ false
or_plain (Sign mark.Bar) o e = cc
or_plain (Sign _) o e = absurd (cc e)
or_plain (Word w) o e = absurd (cc e)
or_plain (Ident w) o e = absurd (cc e)
or_plain (Number w) o e = absurd (cc e)

-- links of which none compares
abbrev PlainLinks : Links → Type 0
PlainLinks ls = (some_compares ls ≡ false) × AreShapedLinks ls

plain_more : (o : Op) (e : Expression) (ls : Links) → is_comparison o ≡ false → IsShapedExpression e → PlainLinks ls → PlainLinks (and_link o e ls)
plain_more o e ls quiet here more = (ap (λ (b : Bool). b || some_compares ls) quiet ∙ more.0, (here, more.1))

chain_shaped : (e : Expression) (ls : Links) (s : _) → IsShapedExpression e → PlainLinks ls → IsShapedExpression (chained e ls s)
chain_shaped e no_links s here more = here
chain_shaped e (and_link o f ls) s here more = (omega arith, λ c. absurd (let x : true ≡ false = sym c ∙ more.0 in cc x), here, more.1)

one_link : (o : Op) (e f : Expression) (s : _) → IsShapedExpression e → IsShapedExpression f → IsShapedExpression (chained e (and_link o f no_links) s)
one_link o e f s left right = (omega arith, λ c. refl, left, (right, tt))

mutual
  primary_shaped : {ts rest : List Token} {c : Covered} → Primary ts rest c → IsShapedExpression c.expression
  primary_shaped a_number = tt
  primary_shaped a_name = tt
  primary_shaped a_bit = tt
  primary_shaped a_slice = tt
  primary_shaped (a_join p) = some_parts_shaped p
  primary_shaped (in_brackets p) = disjunction_shaped p

  some_parts_shaped : {ts rest : List Token} {es : Expressions} → Parts ts rest es → (1 ≤ expression_count es) × AreShapedParts es
  some_parts_shaped (the_parts d m) = (omega arith, (disjunction_shaped d, more_parts_shaped m))

  more_parts_shaped : {ts rest : List Token} {es : Expressions} → MoreParts ts rest es → AreShapedParts es
  more_parts_shaped no_more_parts = tt
  more_parts_shaped (one_more_part d m) = (disjunction_shaped d, more_parts_shaped m)

  negated_shaped : {ts rest : List Token} {c : Covered} → Negated ts rest c → IsShapedExpression c.expression
  negated_shaped (plain p) = primary_shaped p
  negated_shaped (negated p) = primary_shaped p

  sum_shaped : {ts rest : List Token} {c : Covered} → Sum ts rest c → IsShapedExpression c.expression
  sum_shaped (the_sum {c = c} {us = us} p m) = chain_shaped c.expression us.links _ (negated_shaped p) (more_sum_shaped m)

  more_sum_shaped : {ts rest : List Token} {us : Tail} → MoreSum ts rest us → PlainLinks us.links
  more_sum_shaped no_more_sum = (refl, tt)
  more_sum_shaped (one_more_sum {t = t} {o = o} {c = c} {us = us} e p m) =
      plain_more o c.expression us.links (sum_plain t.kind o e) (negated_shaped p) (more_sum_shaped m)

  comparison_shaped : {ts rest : List Token} {c : Covered} → Comparison ts rest c → IsShapedExpression c.expression
  comparison_shaped (not_compared p) = sum_shaped p
  comparison_shaped (compared {o = o} {c = c} {d = d} p e q) = one_link o c.expression d.expression c.at (sum_shaped p) (sum_shaped q)

  conjunction_shaped : {ts rest : List Token} {c : Covered} → Conjunction ts rest c → IsShapedExpression c.expression
  conjunction_shaped (the_conjunction {c = c} {us = us} p m) = chain_shaped c.expression us.links _ (comparison_shaped p) (more_conjunction_shaped m)

  more_conjunction_shaped : {ts rest : List Token} {us : Tail} → MoreConjunction ts rest us → PlainLinks us.links
  more_conjunction_shaped no_more_conjunction = (refl, tt)
  more_conjunction_shaped (one_more_conjunction {t = t} {o = o} {c = c} {us = us} e p m) =
      plain_more o c.expression us.links (and_plain t.kind o e) (comparison_shaped p) (more_conjunction_shaped m)

  exclusive_shaped : {ts rest : List Token} {c : Covered} → Exclusive ts rest c → IsShapedExpression c.expression
  exclusive_shaped (the_exclusive {c = c} {us = us} p m) = chain_shaped c.expression us.links _ (conjunction_shaped p) (more_exclusive_shaped m)

  more_exclusive_shaped : {ts rest : List Token} {us : Tail} → MoreExclusive ts rest us → PlainLinks us.links
  more_exclusive_shaped no_more_exclusive = (refl, tt)
  more_exclusive_shaped (one_more_exclusive {t = t} {o = o} {c = c} {us = us} e p m) =
      plain_more o c.expression us.links (xor_plain t.kind o e) (conjunction_shaped p) (more_exclusive_shaped m)

  disjunction_shaped : {ts rest : List Token} {c : Covered} → Disjunction ts rest c → IsShapedExpression c.expression
  disjunction_shaped (the_disjunction {c = c} {us = us} p m) = chain_shaped c.expression us.links _ (exclusive_shaped p) (more_disjunction_shaped m)

  more_disjunction_shaped : {ts rest : List Token} {us : Tail} → MoreDisjunction ts rest us → PlainLinks us.links
  more_disjunction_shaped no_more_disjunction = (refl, tt)
  more_disjunction_shaped (one_more_disjunction {t = t} {o = o} {c = c} {us = us} e p m) =
      plain_more o c.expression us.links (or_plain t.kind o e) (exclusive_shaped p) (more_disjunction_shaped m)

-- statements with few arms

sequence_shaped : (t : Statement) (us : Statements) → (few_arms t ≡ true → IsShapedStatement t) → (few_arms_each us ≡ true → AreShapedMembers us) →
    few_arms (sequence_of t us) ≡ true → IsShapedStatement (sequence_of t us)
sequence_shaped t no_members here more few = here few
sequence_shaped t (and_member u us) here more few =
    let each = both_true (few_arms t) (few_arms_each (and_member u us)) few in
    (omega arith, (here each.0, more each.1))

parallel_shaped : (t : Statement) (us : Statements) → (few_arms t ≡ true → IsShapedStatement t) → (few_arms_each us ≡ true → AreShapedMembers us) →
    few_arms (parallel_of t us) ≡ true → IsShapedStatement (parallel_of t us)
parallel_shaped t no_members here more few = here few
parallel_shaped t (and_member u us) here more few =
    let each = both_true (few_arms t) (few_arms_each (and_member u us)) few in
    (omega arith, (here each.0, more each.1))

at_most_sixteen : (n : ℕ) → nat_le n 16 ≡ true → n ≤ 16
at_most_sixteen n h = leb-true n 16 h

mutual
  atom_shaped : {ts rest : List Token} {t : Statement} → Atom ts rest t → few_arms t ≡ true → IsShapedStatement t
  atom_shaped a_skip few = tt
  atom_shaped (an_assignment d) few = disjunction_shaped d
  atom_shaped (a_send d) few = disjunction_shaped d
  atom_shaped a_receive few = tt
  atom_shaped a_call few = tt
  atom_shaped (in_round p) few = par_shaped p few
  atom_shaped (a_loop p) few = par_shaped p few
  atom_shaped (a_guarded_loop p) few = choices_shaped p few
  atom_shaped (a_selection p) few = choices_shaped p few

  choices_shaped : {ts rest : List Token} {bs : Arms} → GuardedCommands ts rest bs → (nat_le (arm_count bs) 16 && few_arms_in bs) ≡ true →
      (1 ≤ arm_count bs) × (arm_count bs ≤ 16) × AreShapedArms bs
  choices_shaped (the_choices {t = t} {bs = bs} b m) few =
      let most = both_true (nat_le (suc (arm_count bs)) 16) (few_arms t && few_arms_in bs) few in
      let each = both_true (few_arms t) (few_arms_in bs) most.1 in
      let here = branch_shaped b each.0 in
      (omega arith, at_most_sixteen (suc (arm_count bs)) most.0, (here.0, here.1, more_choices_shaped m each.1))

  branch_shaped : {ts rest : List Token} {b : Guarded} → GuardedCommand ts rest b → few_arms b.body ≡ true →
      IsShapedExpression b.guard × IsShapedStatement b.body
  branch_shaped (the_branch d p) few = (disjunction_shaped d, par_shaped p few)

  more_choices_shaped : {ts rest : List Token} {bs : Arms} → MoreChoices ts rest bs → few_arms_in bs ≡ true → AreShapedArms bs
  more_choices_shaped no_more_choices few = tt
  more_choices_shaped (one_more_choice {t = t} {bs = bs} b m) few =
      let each = both_true (few_arms t) (few_arms_in bs) few in
      let here = branch_shaped b each.0 in
      (here.0, here.1, more_choices_shaped m each.1)

  both_shaped : {ts rest : List Token} {t : Statement} → Both ts rest t → few_arms t ≡ true → IsShapedStatement t
  both_shaped (the_both {t = t} {us = us} a m) few = parallel_shaped t us (λ f. atom_shaped a f) (λ f. more_both_shaped m f) few

  more_both_shaped : {ts rest : List Token} {us : Statements} → MoreBoth ts rest us → few_arms_each us ≡ true → AreShapedMembers us
  more_both_shaped no_more_both few = tt
  more_both_shaped (one_more_both {t = t} {us = us} a m) few = let each = both_true (few_arms t) (few_arms_each us) few in
      (atom_shaped a each.0, more_both_shaped m each.1)

  seq_shaped : {ts rest : List Token} {t : Statement} → Seq ts rest t → few_arms t ≡ true → IsShapedStatement t
  seq_shaped (the_seq {t = t} {us = us} a m) few = sequence_shaped t us (λ f. both_shaped a f) (λ f. more_seq_shaped m f) few

  more_seq_shaped : {ts rest : List Token} {us : Statements} → MoreSeq ts rest us → few_arms_each us ≡ true → AreShapedMembers us
  more_seq_shaped no_more_seq few = tt
  more_seq_shaped (one_more_seq {t = t} {us = us} a m) few = let each = both_true (few_arms t) (few_arms_each us) few in
      (both_shaped a each.0, more_seq_shaped m each.1)

  par_shaped : {ts rest : List Token} {t : Statement} → Par ts rest t → few_arms t ≡ true → IsShapedStatement t
  par_shaped (the_par {t = t} {us = us} a m) few = parallel_shaped t us (λ f. seq_shaped a f) (λ f. more_par_shaped m f) few

  more_par_shaped : {ts rest : List Token} {us : Statements} → MorePar ts rest us → few_arms_each us ≡ true → AreShapedMembers us
  more_par_shaped no_more_par few = tt
  more_par_shaped (one_more_par {t = t} {us = us} a m) few = let each = both_true (few_arms t) (few_arms_each us) few in
      (seq_shaped a each.0, more_par_shaped m each.1)

-- names among tokens

abbrev IsNamed : TokenKind → Type 0
IsNamed (Ident n) = IsName n
IsNamed _ = Unit {0}

abbrev AreNamed : List Token → Type 0
AreNamed [] = Unit {0}
AreNamed (t ∷ ts) = IsNamed t.kind × AreNamed ts

spelled_name : (kind : TokenKind) (bs : List ℕ) → Spells kind bs → IsNamed kind
spelled_name (Ident n) bs (same, is) = let P : List ℕ → Type 0 = λ m. IsName m in subst P same is
spelled_name (Word w) bs h = tt
spelled_name (Number w) bs h = tt
spelled_name (Sign m) bs h = tt

cut_named : {at to : ℕ} {ts : List Token} {text rest : List ℕ} → Cuts at ts text to rest → AreNamed ts
cut_named so_far = tt
cut_named (a_gap n g more) = cut_named more
cut_named (a_token kind n is more) = (spelled_name kind _ is.spells, cut_named more)

mutual
  primary_left : {ts rest : List Token} {c : Covered} → Primary ts rest c → AreNamed ts → AreNamed rest
  primary_left a_number h = h.1
  primary_left a_name h = h.1
  primary_left a_bit h = h.1.1.1.1
  primary_left a_slice h = h.1.1.1.1.1.1
  primary_left (a_join p) h = (parts_left p h.1).1
  primary_left (in_brackets p) h = (disjunction_left p h.1).1

  parts_left : {ts rest : List Token} {es : Expressions} → Parts ts rest es → AreNamed ts → AreNamed rest
  parts_left (the_parts d m) h = more_parts_left m (disjunction_left d h)

  more_parts_left : {ts rest : List Token} {es : Expressions} → MoreParts ts rest es → AreNamed ts → AreNamed rest
  more_parts_left no_more_parts h = h
  more_parts_left (one_more_part d m) h = more_parts_left m (disjunction_left d h.1)

  negated_left : {ts rest : List Token} {c : Covered} → Negated ts rest c → AreNamed ts → AreNamed rest
  negated_left (plain p) h = primary_left p h
  negated_left (negated p) h = primary_left p h.1

  sum_left : {ts rest : List Token} {c : Covered} → Sum ts rest c → AreNamed ts → AreNamed rest
  sum_left (the_sum p m) h = more_sum_left m (negated_left p h)

  more_sum_left : {ts rest : List Token} {us : Tail} → MoreSum ts rest us → AreNamed ts → AreNamed rest
  more_sum_left no_more_sum h = h
  more_sum_left (one_more_sum e p m) h = more_sum_left m (negated_left p h.1)

  comparison_left : {ts rest : List Token} {c : Covered} → Comparison ts rest c → AreNamed ts → AreNamed rest
  comparison_left (not_compared p) h = sum_left p h
  comparison_left (compared p e q) h = sum_left q (sum_left p h).1

  conjunction_left : {ts rest : List Token} {c : Covered} → Conjunction ts rest c → AreNamed ts → AreNamed rest
  conjunction_left (the_conjunction p m) h = more_conjunction_left m (comparison_left p h)

  more_conjunction_left : {ts rest : List Token} {us : Tail} → MoreConjunction ts rest us → AreNamed ts → AreNamed rest
  more_conjunction_left no_more_conjunction h = h
  more_conjunction_left (one_more_conjunction e p m) h = more_conjunction_left m (comparison_left p h.1)

  exclusive_left : {ts rest : List Token} {c : Covered} → Exclusive ts rest c → AreNamed ts → AreNamed rest
  exclusive_left (the_exclusive p m) h = more_exclusive_left m (conjunction_left p h)

  more_exclusive_left : {ts rest : List Token} {us : Tail} → MoreExclusive ts rest us → AreNamed ts → AreNamed rest
  more_exclusive_left no_more_exclusive h = h
  more_exclusive_left (one_more_exclusive e p m) h = more_exclusive_left m (conjunction_left p h.1)

  disjunction_left : {ts rest : List Token} {c : Covered} → Disjunction ts rest c → AreNamed ts → AreNamed rest
  disjunction_left (the_disjunction p m) h = more_disjunction_left m (exclusive_left p h)

  more_disjunction_left : {ts rest : List Token} {us : Tail} → MoreDisjunction ts rest us → AreNamed ts → AreNamed rest
  more_disjunction_left no_more_disjunction h = h
  more_disjunction_left (one_more_disjunction e p m) h = more_disjunction_left m (exclusive_left p h.1)

mutual
  atom_left : {ts rest : List Token} {t : Statement} → Atom ts rest t → AreNamed ts → AreNamed rest
  atom_left a_skip h = h.1
  atom_left (an_assignment d) h = disjunction_left d h.1.1
  atom_left (a_send d) h = disjunction_left d h.1.1
  atom_left a_receive h = h.1.1.1
  atom_left a_call h = h.1.1
  atom_left (in_round p) h = (par_left p h.1).1
  atom_left (a_loop p) h = (par_left p h.1.1).1
  atom_left (a_guarded_loop p) h = (choices_left p h.1.1).1
  atom_left (a_selection p) h = (choices_left p h.1).1

  branch_left : {ts rest : List Token} {b : Guarded} → GuardedCommand ts rest b → AreNamed ts → AreNamed rest
  branch_left (the_branch d p) h = par_left p (disjunction_left d h).1

  choices_left : {ts rest : List Token} {bs : Arms} → GuardedCommands ts rest bs → AreNamed ts → AreNamed rest
  choices_left (the_choices b m) h = more_choices_left m (branch_left b h)

  more_choices_left : {ts rest : List Token} {bs : Arms} → MoreChoices ts rest bs → AreNamed ts → AreNamed rest
  more_choices_left no_more_choices h = h
  more_choices_left (one_more_choice b m) h = more_choices_left m (branch_left b h.1)

  both_left : {ts rest : List Token} {t : Statement} → Both ts rest t → AreNamed ts → AreNamed rest
  both_left (the_both a m) h = more_both_left m (atom_left a h)

  more_both_left : {ts rest : List Token} {us : Statements} → MoreBoth ts rest us → AreNamed ts → AreNamed rest
  more_both_left no_more_both h = h
  more_both_left (one_more_both a m) h = more_both_left m (atom_left a h.1)

  seq_left : {ts rest : List Token} {t : Statement} → Seq ts rest t → AreNamed ts → AreNamed rest
  seq_left (the_seq a m) h = more_seq_left m (both_left a h)

  more_seq_left : {ts rest : List Token} {us : Statements} → MoreSeq ts rest us → AreNamed ts → AreNamed rest
  more_seq_left no_more_seq h = h
  more_seq_left (one_more_seq a m) h = more_seq_left m (both_left a h.1)

  par_left : {ts rest : List Token} {t : Statement} → Par ts rest t → AreNamed ts → AreNamed rest
  par_left (the_par a m) h = more_par_left m (seq_left a h)

  more_par_left : {ts rest : List Token} {us : Statements} → MorePar ts rest us → AreNamed ts → AreNamed rest
  more_par_left no_more_par h = h
  more_par_left (one_more_par a m) h = more_par_left m (seq_left a h.1)

-- declarations

abbrev FewIn : Item → Type 0
FewIn (valued d) = Unit {0}
FewIn (defined p) = few_arms p.body ≡ true

abbrev IsShapedItem : Item → Type 0
IsShapedItem (valued d) = IsShapedDecl d
IsShapedItem (defined p) = IsShapedProcedure p

declaration_left : {ts rest : List Token} {d : Item} → Declaration ts rest d → AreNamed ts → AreNamed rest
declaration_left (a_channel e) h = h.1.1.1.1.1
declaration_left a_variable h = h.1.1.1.1.1
declaration_left a_variable_with_first h = h.1.1.1.1.1.1.1
declaration_left (a_procedure p) h = (atom_left p h.1.1.1).1

declaration_shaped : {ts rest : List Token} {d : Item} → Declaration ts rest d → AreNamed ts → FewIn d → IsShapedItem d
declaration_shaped (a_channel e) h few = record { name = h.1.0; first = λ not. refl; first_at = λ not. refl }
declaration_shaped a_variable h few = record { name = h.1.0; first = λ not. refl; first_at = λ not. refl }
declaration_shaped a_variable_with_first h few = record { name = h.1.0; first = λ not. absurd (not refl); first_at = λ not. absurd (not refl) }
declaration_shaped (a_procedure p) h few = record { name = h.1.0; body = atom_shaped p few }

abbrev FewInProcs : List Procedure → Type 0
FewInProcs ps = list_all (λ (q : Procedure). few_arms q.body) ps ≡ true

pub record AllShaped (d : Declared) : Type 0 where
  pub decls : All IsShapedDecl d.decls
  pub procs : All IsShapedProcedure d.procs

item_shaped : (d : Item) (more : Declared) → (FewIn d → IsShapedItem d) → (FewInProcs more.procs → AllShaped more) → FewInProcs (and_item d more).procs →
    AllShaped (and_item d more)
item_shaped (valued d) more here rest few = let all = rest few in record { decls = All-cons IsShapedDecl d more.decls (here tt) all.decls; procs = all.procs }
item_shaped (defined p) more here rest few =
    let each = both_true (few_arms p.body) (list_all (λ (q : Procedure). few_arms q.body) more.procs) few in
    let all = rest each.1 in
    record { decls = all.decls; procs = All-cons IsShapedProcedure p more.procs (here each.0) all.procs }

declarations_shaped : {ts rest : List Token} {d : Declared} → Declarations ts rest d → AreNamed ts → FewInProcs d.procs → AllShaped d
declarations_shaped no_declaration h few = record { decls = All-nil IsShapedDecl; procs = All-nil IsShapedProcedure }
declarations_shaped (one_more_declaration {d = d} {more = more} r m) h few =
    item_shaped d more (λ f. declaration_shaped r h f) (λ f. declarations_shaped m (declaration_left r h) f) few

derived_shaped : {ts : List Token} {p : ProgramTree} → Derives ts p → AreNamed ts → FewInProcs p.procs → few_arms p.body ≡ true → IsShaped p
derived_shaped (the_program r p) h procs body = let all = declarations_shaped r h procs in
    record { decls = all.decls; procs = all.procs; body = par_shaped p body }

pub read_shaped : (text : List ℕ) (p : ProgramTree) → Reads text p → IsShaped p
read_shaped text p r = derived_shaped r.derives (cut_named r.cut) r.few_in_procs r.few_in_body
