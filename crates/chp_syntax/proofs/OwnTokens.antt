-- No program holds a token that the grammar doesn't have.
use Rattle.std.proofs.Common.{◌≡◌, Bool, true, false, List, [], ◌∷◌, Some, refl, ◌∙◌}
use Rattle.chp_base.specs.declared.span.Span.{Span}
use Rattle.chp_syntax.specs.declared.token.Token.{Token}
use Rattle.chp_syntax.specs.declared.token.TokenKind.{TokenKind}
use Rattle.chp_syntax.specs.declared.token.TokenKind.TheVariants.{Word, Ident, Number, Sign}
use Rattle.chp_syntax.specs.declared.token.Mark.TheVariants as mark
use Rattle.chp_syntax.specs.declared.tree.DeclKind.{DeclKind}
use Rattle.chp_syntax.specs.declared.tree.Op.{Op}
use Rattle.chp_syntax.specs.Trees.{Expressions, Statement, Statements, Arms, ProgramTree}
use Rattle.chp_syntax.specs.Grammar.{or_operator, xor_of, and_of, sum_of, comparison_of}
use Rattle.chp_syntax.specs.Grammar.{sign, name, numeral, kind_of_channel, Covered, Tail, Guarded, Primary, a_number, a_name, a_bit, a_slice, a_join, in_brackets, Parts, the_parts, MoreParts, no_more_parts, one_more_part, Negated, plain, negated, Sum, the_sum, MoreSum, no_more_sum, one_more_sum, Comparison, not_compared, compared, Conjunction, the_conjunction, MoreConjunction, no_more_conjunction, one_more_conjunction, Exclusive, the_exclusive, MoreExclusive, no_more_exclusive, one_more_exclusive, Disjunction, the_disjunction, MoreDisjunction, no_more_disjunction, one_more_disjunction, Atom, a_skip, an_assignment, a_send, a_receive, a_call, in_round, a_loop, a_guarded_loop, a_selection, GuardedCommand, the_branch, GuardedCommands, the_choices, MoreChoices, no_more_choices, one_more_choice, Both, the_both, MoreBoth, no_more_both, one_more_both, Seq, the_seq, MoreSeq, no_more_seq, one_more_seq, Par, the_par, MorePar, no_more_par, one_more_par, Declared, Item, Declaration, a_channel, a_variable, a_variable_with_first, a_procedure, Declarations, no_declaration, one_more_declaration, the_program, Derives}
use Rattle.chp_syntax.specs.Limits.{is_probe, is_arbiter, has_kind}

-- a token of the language
abbrev is_foreign : TokenKind → Bool
is_foreign (Sign mark.Hash) = true
is_foreign (Sign mark.BracketBar) = true
is_foreign _ = false

abbrev has_foreign : List Token → Bool
has_foreign ts = has_kind is_foreign ts

over_token : (j : TokenKind) (at : Span) (ts : List Token) → is_foreign j ≡ false → has_foreign (record { kind = j; at = at } ∷ ts) ≡ has_foreign ts
over_token (Sign mark.Hash) at ts h = absurd (cc h)
over_token (Sign mark.BracketBar) at ts h = absurd (cc h)
over_token (Sign _) at ts h = refl
over_token (Word w) at ts h = refl
over_token (Ident w) at ts h = refl
over_token (Number w) at ts h = refl

sum_own : (j : TokenKind) (o : Op) → sum_of j ≡ Some o → is_foreign j ≡ false
sum_own (Sign mark.Hash) o e = absurd (cc e)
sum_own (Sign mark.BracketBar) o e = absurd (cc e)
sum_own (Sign _) o e = refl
sum_own (Word w) o e = refl
sum_own (Ident w) o e = refl
sum_own (Number w) o e = refl

conjunction_own : (j : TokenKind) (o : Op) → and_of j ≡ Some o → is_foreign j ≡ false
conjunction_own (Sign mark.Hash) o e = absurd (cc e)
conjunction_own (Sign mark.BracketBar) o e = absurd (cc e)
conjunction_own (Sign _) o e = refl
conjunction_own (Word w) o e = refl
conjunction_own (Ident w) o e = refl
conjunction_own (Number w) o e = refl

exclusive_own : (j : TokenKind) (o : Op) → xor_of j ≡ Some o → is_foreign j ≡ false
exclusive_own (Sign mark.Hash) o e = absurd (cc e)
exclusive_own (Sign mark.BracketBar) o e = absurd (cc e)
exclusive_own (Sign _) o e = refl
exclusive_own (Word w) o e = refl
exclusive_own (Ident w) o e = refl
exclusive_own (Number w) o e = refl

disjunction_own : (j : TokenKind) (o : Op) → or_operator j ≡ Some o → is_foreign j ≡ false
disjunction_own (Sign mark.Hash) o e = absurd (cc e)
disjunction_own (Sign mark.BracketBar) o e = absurd (cc e)
disjunction_own (Sign _) o e = refl
disjunction_own (Word w) o e = refl
disjunction_own (Ident w) o e = refl
disjunction_own (Number w) o e = refl

comparison_own : (j : TokenKind) (o : Op) → comparison_of j ≡ Some o → is_foreign j ≡ false
comparison_own (Sign mark.Hash) o e = absurd (cc e)
comparison_own (Sign mark.BracketBar) o e = absurd (cc e)
comparison_own (Sign _) o e = refl
comparison_own (Word w) o e = refl
comparison_own (Ident w) o e = refl
comparison_own (Number w) o e = refl

channel_own : (j : TokenKind) (k : DeclKind) → kind_of_channel j ≡ Some k → is_foreign j ≡ false
channel_own (Sign m) k e = absurd (cc e)
channel_own (Word w) k e = refl
channel_own (Ident w) k e = refl
channel_own (Number w) k e = refl

mutual
  primary_own : {ts rest : List Token} {v : Covered} → Primary ts rest v → has_foreign ts ≡ has_foreign rest
  primary_own a_number = refl
  primary_own a_name = refl
  primary_own a_bit = refl
  primary_own a_slice = refl
  primary_own (a_join p) = parts_own p
  primary_own (in_brackets p) = bar_own p

  parts_own : {ts rest : List Token} {v : Expressions} → Parts ts rest v → has_foreign ts ≡ has_foreign rest
  parts_own (the_parts d m) = bar_own d ∙ more_parts_own m

  more_parts_own : {ts rest : List Token} {v : Expressions} → MoreParts ts rest v → has_foreign ts ≡ has_foreign rest
  more_parts_own no_more_parts = refl
  more_parts_own (one_more_part d m) = bar_own d ∙ more_parts_own m

  tilde_own : {ts rest : List Token} {v : Covered} → Negated ts rest v → has_foreign ts ≡ has_foreign rest
  tilde_own (plain p) = primary_own p
  tilde_own (negated p) = primary_own p

  plus_own : {ts rest : List Token} {v : Covered} → Sum ts rest v → has_foreign ts ≡ has_foreign rest
  plus_own (the_sum p m) = tilde_own p ∙ more_plus_own m

  more_plus_own : {ts rest : List Token} {v : Tail} → MoreSum ts rest v → has_foreign ts ≡ has_foreign rest
  more_plus_own no_more_sum = refl
  more_plus_own (one_more_sum {ts = ts} {t = t} {o = o} e p m) = over_token t.kind t.at ts (sum_own t.kind o e) ∙ (tilde_own p ∙ more_plus_own m)

  amp_own : {ts rest : List Token} {v : Covered} → Conjunction ts rest v → has_foreign ts ≡ has_foreign rest
  amp_own (the_conjunction p m) = compared_own p ∙ more_amp_own m

  more_amp_own : {ts rest : List Token} {v : Tail} → MoreConjunction ts rest v → has_foreign ts ≡ has_foreign rest
  more_amp_own no_more_conjunction = refl
  more_amp_own (one_more_conjunction {ts = ts} {t = t} {o = o} e p m) = over_token t.kind t.at ts (conjunction_own t.kind o e)
      ∙ (compared_own p ∙ more_amp_own m)

  caret_own : {ts rest : List Token} {v : Covered} → Exclusive ts rest v → has_foreign ts ≡ has_foreign rest
  caret_own (the_exclusive p m) = amp_own p ∙ more_caret_own m

  more_caret_own : {ts rest : List Token} {v : Tail} → MoreExclusive ts rest v → has_foreign ts ≡ has_foreign rest
  more_caret_own no_more_exclusive = refl
  more_caret_own (one_more_exclusive {ts = ts} {t = t} {o = o} e p m) = over_token t.kind t.at ts (exclusive_own t.kind o e) ∙ (amp_own p ∙ more_caret_own m)

  bar_own : {ts rest : List Token} {v : Covered} → Disjunction ts rest v → has_foreign ts ≡ has_foreign rest
  bar_own (the_disjunction p m) = caret_own p ∙ more_bar_own m

  more_bar_own : {ts rest : List Token} {v : Tail} → MoreDisjunction ts rest v → has_foreign ts ≡ has_foreign rest
  more_bar_own no_more_disjunction = refl
  more_bar_own (one_more_disjunction {ts = ts} {t = t} {o = o} e p m) = over_token t.kind t.at ts (disjunction_own t.kind o e) ∙ (caret_own p ∙ more_bar_own m)

  compared_own : {ts rest : List Token} {v : Covered} → Comparison ts rest v → has_foreign ts ≡ has_foreign rest
  compared_own (not_compared p) = plus_own p
  compared_own (compared {mid = mid} {t = t} {o = o} p e q) = plus_own p ∙ (over_token t.kind t.at mid (comparison_own t.kind o e) ∙ plus_own q)

mutual
  atom_own : {ts rest : List Token} {v : Statement} → Atom ts rest v → has_foreign ts ≡ has_foreign rest
  atom_own a_skip = refl
  atom_own (an_assignment d) = bar_own d
  atom_own (a_send d) = bar_own d
  atom_own a_receive = refl
  atom_own a_call = refl
  atom_own (in_round p) = par_own p
  atom_own (a_loop p) = par_own p
  atom_own (a_guarded_loop p) = choices_own p
  atom_own (a_selection p) = choices_own p

  branch_own : {ts rest : List Token} {v : Guarded} → GuardedCommand ts rest v → has_foreign ts ≡ has_foreign rest
  branch_own (the_branch d p) = bar_own d ∙ par_own p

  choices_own : {ts rest : List Token} {v : Arms} → GuardedCommands ts rest v → has_foreign ts ≡ has_foreign rest
  choices_own (the_choices b m) = branch_own b ∙ more_choices_own m

  more_choices_own : {ts rest : List Token} {v : Arms} → MoreChoices ts rest v → has_foreign ts ≡ has_foreign rest
  more_choices_own no_more_choices = refl
  more_choices_own (one_more_choice b m) = branch_own b ∙ more_choices_own m

  both_own : {ts rest : List Token} {v : Statement} → Both ts rest v → has_foreign ts ≡ has_foreign rest
  both_own (the_both a m) = atom_own a ∙ more_both_own m

  more_both_own : {ts rest : List Token} {v : Statements} → MoreBoth ts rest v → has_foreign ts ≡ has_foreign rest
  more_both_own no_more_both = refl
  more_both_own (one_more_both a m) = atom_own a ∙ more_both_own m

  seq_own : {ts rest : List Token} {v : Statement} → Seq ts rest v → has_foreign ts ≡ has_foreign rest
  seq_own (the_seq a m) = both_own a ∙ more_seq_own m

  more_seq_own : {ts rest : List Token} {v : Statements} → MoreSeq ts rest v → has_foreign ts ≡ has_foreign rest
  more_seq_own no_more_seq = refl
  more_seq_own (one_more_seq a m) = both_own a ∙ more_seq_own m

  par_own : {ts rest : List Token} {v : Statement} → Par ts rest v → has_foreign ts ≡ has_foreign rest
  par_own (the_par a m) = seq_own a ∙ more_par_own m

  more_par_own : {ts rest : List Token} {v : Statements} → MorePar ts rest v → has_foreign ts ≡ has_foreign rest
  more_par_own no_more_par = refl
  more_par_own (one_more_par a m) = seq_own a ∙ more_par_own m

declaration_own : {ts rest : List Token} {d : Item} → Declaration ts rest d → has_foreign ts ≡ has_foreign rest
declaration_own (a_channel {rest = rest} {t = t} {kind = k} {n = n} {w = w} {s = s} {c = c} {p = p} {e = q} e) =
    over_token t.kind t.at (name n s ∷ sign mark.Colon c ∷ numeral w p ∷ sign mark.Semicolon q ∷ rest) (channel_own t.kind k e)
declaration_own a_variable = refl
declaration_own a_variable_with_first = refl
declaration_own (a_procedure p) = atom_own p

declarations_own : {ts rest : List Token} {d : Declared} → Declarations ts rest d → has_foreign ts ≡ has_foreign rest
declarations_own no_declaration = refl
declarations_own (one_more_declaration r m) = declaration_own r ∙ declarations_own m

program_own : {ts : List Token} {p : ProgramTree} → Derives ts p → has_foreign ts ≡ false
program_own (the_program r p) = declarations_own r ∙ par_own p

front_probe : (j : TokenKind) (at : Span) (ts : List Token) → (has_foreign ts ≡ false → has_kind is_probe ts ≡ false) →
    has_foreign (record { kind = j; at = at } ∷ ts) ≡ false → has_kind is_probe (record { kind = j; at = at } ∷ ts) ≡ false
front_probe (Sign mark.Hash) at ts rec h = absurd (cc h)
front_probe (Sign mark.BracketBar) at ts rec h = absurd (cc h)
front_probe (Sign _) at ts rec h = rec h
front_probe (Word w) at ts rec h = rec h
front_probe (Ident w) at ts rec h = rec h
front_probe (Number w) at ts rec h = rec h

own_probe : (ts : List Token) → has_foreign ts ≡ false → has_kind is_probe ts ≡ false
own_probe [] h = refl
own_probe (t ∷ ts) h = front_probe t.kind t.at ts (λ k. own_probe ts k) h

pub no_probe : {ts : List Token} {p : ProgramTree} → Derives ts p → has_kind is_probe ts ≡ false
no_probe {ts} d = own_probe ts (program_own d)

front_arbiter : (j : TokenKind) (at : Span) (ts : List Token) → (has_foreign ts ≡ false → has_kind is_arbiter ts ≡ false) →
    has_foreign (record { kind = j; at = at } ∷ ts) ≡ false → has_kind is_arbiter (record { kind = j; at = at } ∷ ts) ≡ false
front_arbiter (Sign mark.Hash) at ts rec h = absurd (cc h)
front_arbiter (Sign mark.BracketBar) at ts rec h = absurd (cc h)
front_arbiter (Sign _) at ts rec h = rec h
front_arbiter (Word w) at ts rec h = rec h
front_arbiter (Ident w) at ts rec h = rec h
front_arbiter (Number w) at ts rec h = rec h

own_arbiter : (ts : List Token) → has_foreign ts ≡ false → has_kind is_arbiter ts ≡ false
own_arbiter [] h = refl
own_arbiter (t ∷ ts) h = front_arbiter t.kind t.at ts (λ k. own_arbiter ts k) h

pub no_arbiter : {ts : List Token} {p : ProgramTree} → Derives ts p → has_kind is_arbiter ts ≡ false
no_arbiter {ts} d = own_arbiter ts (program_own d)
