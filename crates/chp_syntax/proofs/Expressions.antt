-- Expressions: what is to come after each of their parts.
use Rattle.std.proofs.Common.{◌≡◌, ℕ, suc, ◌<◌, List, [], ◌∷◌, ◌++◌, map, Option, Some, None, Result, Ok, Err, IfOk, IsOkAnd, refl, sym, ap, ◌∙◌, subst, arith}
use Rattle.std.proofs.lemmas.List.{map-append}
use Rattle.chp_base.specs.declared.span.Span.{Span}
use Rattle.chp_syntax.specs.declared.token.Token.{Token}
use Rattle.chp_syntax.specs.declared.token.TokenKind.{TokenKind}
use Rattle.chp_syntax.specs.declared.token.TokenKind.TheVariants.{Word, Ident, Number, Sign}
use Rattle.chp_syntax.specs.declared.token.Mark.{Mark}
use Rattle.chp_syntax.specs.declared.token.Mark.TheVariants as mark
use Rattle.chp_syntax.specs.declared.tree.Ident.{Ident as Named}
use Rattle.chp_syntax.specs.declared.tree.Op.{Op}
use Rattle.chp_syntax.specs.declared.tree.Op.TheVariants as op
use Rattle.chp_syntax.specs.declared.parser.sight.Numeral.{Numeral}
use Rattle.chp_syntax.specs.declared.parser.sight.PrimaryFront.TheVariants as primary
use Rattle.chp_syntax.specs.declared.parser.sight.Level.{Level}
use Rattle.chp_syntax.specs.declared.parser.sight.Level.TheVariants as level
use Rattle.chp_syntax.specs.Trees.{Expression, number, whole, slice, bit, join, negation, Expressions, no_parts, and_part, Links, no_links, and_link}
use Rattle.chp_syntax.specs.Grammar.{named, numeral, from_to, or_operator, xor_of, and_of, sum_of, comparison_of, Covered, cover, Tail, no_tail, end_of, longer, chain_of, Primary, a_number, a_name, a_bit, a_slice, a_join, in_brackets, Parts, the_parts, MoreParts, no_more_parts, one_more_part, Negated, plain, negated, Sum, the_sum, MoreSum, no_more_sum, one_more_sum, Comparison, not_compared, compared, Conjunction, the_conjunction, MoreConjunction, no_more_conjunction, one_more_conjunction, Exclusive, the_exclusive, MoreExclusive, no_more_exclusive, one_more_exclusive, Disjunction, the_disjunction, MoreDisjunction, no_more_disjunction, one_more_disjunction}
use Rattle.chp_syntax.specs.Parts.{GrammarPart, sees, IsKind, kind_read, rank, StopsAt, Anything, Exactly, exactly, Operator, operator, AName, the_name, ANumber, the_number, Good, Bad, primary_front, level_part, operand_part, links_part, level_operator, level_rank}
use Rattle.chp_syntax.specs.declared.parser.expression.Covered as C
use Rattle.chp_syntax.specs.declared.parser.sight.Stop.{Stop}
use Rattle.chp_syntax.specs.View.{onto, and_pair, expression_of, covered_of}
use Rattle.chp_syntax.proofs.Steps.{zero_span, SoFar, Ends, Seam, Then, and_then, Done, all_done, Either, one, other, start, instead, bad_here, not_one, not_other, exactly_seen, operator_seen, ends_exactly, ends_number, ends_done, ends_then, ends_one, any_seam, kind_seam, last_seam, last_any, stops_more, stops_done, then_kind}
use Rattle.chp_syntax.proofs.Group.{Further, no_further, a_further, Grouping, SoMany, links_first, group_more, group_bad, group_end, group_ends}

pub ends_primary : Ends Primary
ends_primary = (numeral 0 zero_span ∷ [], cover (number 0 zero_span) zero_span, λ rest. a_number)

pub ends_negated : Ends Negated
ends_negated = (numeral 0 zero_span ∷ [], cover (number 0 zero_span) zero_span, λ rest. plain a_number)

abbrev pub some_sign : Mark → Token
some_sign m = record { kind = Sign m; at = zero_span }

pub sum_ranked : (j : TokenKind) (o : Op) → sum_of j ≡ Some o → rank j ≡ 9
sum_ranked (Sign mark.Plus) o e = refl
sum_ranked (Sign mark.Minus) o e = refl
sum_ranked (Sign _) o e = absurd (cc e)
sum_ranked (Word w) o e = absurd (cc e)
sum_ranked (Ident w) o e = absurd (cc e)
sum_ranked (Number w) o e = absurd (cc e)

pub sum_out : {l rest : List Token} {a : Covered} → Sum l rest a → (mid : List Token) × (c : Covered) × (us : Tail) × Negated l mid c × MoreSum mid rest us
    × (a ≡ chain_of c us)
sum_out (the_sum {mid = mid} {c = c} {us = us} a n) = (mid, c, us, a, n, refl)

pub sum_more : {l rest : List Token} {us : Tail} → MoreSum l rest us → Further Negated MoreSum (Operator sum_of) (λ o c. let p : Op × Covered = (o, c) in
    p) no_tail (λ x us. longer x.0 x.1 us) l rest us
sum_more no_more_sum = no_further
sum_more (one_more_sum e a n) = a_further (operator e) a n

pub sum_in : {l x mid rest : List Token} {o : Op} {c : Covered} {us : Tail} → Operator sum_of l x o → Negated x mid c → MoreSum mid rest us →
    MoreSum l rest (longer o c us)
sum_in (operator e) a n = one_more_sum e a n

pub conjunction_ranked : (j : TokenKind) (o : Op) → and_of j ≡ Some o → rank j ≡ 7
conjunction_ranked (Sign mark.Amp) o e = refl
conjunction_ranked (Sign _) o e = absurd (cc e)
conjunction_ranked (Word w) o e = absurd (cc e)
conjunction_ranked (Ident w) o e = absurd (cc e)
conjunction_ranked (Number w) o e = absurd (cc e)

pub conjunction_out : {l rest : List Token} {a : Covered} → Conjunction l rest a → (mid : List Token) × (c : Covered) × (us : Tail) × Comparison l mid c
    × MoreConjunction mid rest us × (a ≡ chain_of c us)
conjunction_out (the_conjunction {mid = mid} {c = c} {us = us} a n) = (mid, c, us, a, n, refl)

pub conjunction_more : {l rest : List Token} {us : Tail} → MoreConjunction l rest us →
    Further Comparison MoreConjunction (Operator and_of) (λ o c. let p : Op × Covered = (o, c) in p) no_tail (λ x us. longer x.0 x.1 us) l rest us
conjunction_more no_more_conjunction = no_further
conjunction_more (one_more_conjunction e a n) = a_further (operator e) a n

pub conjunction_in : {l x mid rest : List Token} {o : Op} {c : Covered} {us : Tail} → Operator and_of l x o → Comparison x mid c → MoreConjunction mid rest us →
    MoreConjunction l rest (longer o c us)
conjunction_in (operator e) a n = one_more_conjunction e a n

pub exclusive_ranked : (j : TokenKind) (o : Op) → xor_of j ≡ Some o → rank j ≡ 6
exclusive_ranked (Sign mark.Caret) o e = refl
exclusive_ranked (Sign _) o e = absurd (cc e)
exclusive_ranked (Word w) o e = absurd (cc e)
exclusive_ranked (Ident w) o e = absurd (cc e)
exclusive_ranked (Number w) o e = absurd (cc e)

pub exclusive_out : {l rest : List Token} {a : Covered} → Exclusive l rest a → (mid : List Token) × (c : Covered) × (us : Tail) × Conjunction l mid c
    × MoreExclusive mid rest us × (a ≡ chain_of c us)
exclusive_out (the_exclusive {mid = mid} {c = c} {us = us} a n) = (mid, c, us, a, n, refl)

pub exclusive_more : {l rest : List Token} {us : Tail} → MoreExclusive l rest us →
    Further Conjunction MoreExclusive (Operator xor_of) (λ o c. let p : Op × Covered = (o, c) in p) no_tail (λ x us. longer x.0 x.1 us) l rest us
exclusive_more no_more_exclusive = no_further
exclusive_more (one_more_exclusive e a n) = a_further (operator e) a n

pub exclusive_in : {l x mid rest : List Token} {o : Op} {c : Covered} {us : Tail} → Operator xor_of l x o → Conjunction x mid c → MoreExclusive mid rest us →
    MoreExclusive l rest (longer o c us)
exclusive_in (operator e) a n = one_more_exclusive e a n

pub disjunction_ranked : (j : TokenKind) (o : Op) → or_operator j ≡ Some o → rank j ≡ 5
disjunction_ranked (Sign mark.Bar) o e = refl
disjunction_ranked (Sign _) o e = absurd (cc e)
disjunction_ranked (Word w) o e = absurd (cc e)
disjunction_ranked (Ident w) o e = absurd (cc e)
disjunction_ranked (Number w) o e = absurd (cc e)

pub disjunction_out : {l rest : List Token} {a : Covered} → Disjunction l rest a → (mid : List Token) × (c : Covered) × (us : Tail) × Exclusive l mid c
    × MoreDisjunction mid rest us × (a ≡ chain_of c us)
disjunction_out (the_disjunction {mid = mid} {c = c} {us = us} a n) = (mid, c, us, a, n, refl)

pub disjunction_more : {l rest : List Token} {us : Tail} → MoreDisjunction l rest us →
    Further Exclusive MoreDisjunction (Operator or_operator) (λ o c. let p : Op × Covered = (o, c) in p) no_tail (λ x us. longer x.0 x.1 us) l rest us
disjunction_more no_more_disjunction = no_further
disjunction_more (one_more_disjunction e a n) = a_further (operator e) a n

pub disjunction_in : {l x mid rest : List Token} {o : Op} {c : Covered} {us : Tail} → Operator or_operator l x o → Exclusive x mid c →
    MoreDisjunction mid rest us →
    MoreDisjunction l rest (longer o c us)
disjunction_in (operator e) a n = one_more_disjunction e a n

pub ends_sum : Ends Sum
ends_sum = (ends_negated.0, chain_of ends_negated.1 no_tail, λ rest. the_sum (ends_negated.2 rest) no_more_sum)

pub ends_comparison : Ends Comparison
ends_comparison = (ends_sum.0, ends_sum.1, λ rest. not_compared (ends_sum.2 rest))

pub ends_conjunction : Ends Conjunction
ends_conjunction = (ends_comparison.0, chain_of ends_comparison.1 no_tail, λ rest. the_conjunction (ends_comparison.2 rest) no_more_conjunction)

pub ends_exclusive : Ends Exclusive
ends_exclusive = (ends_conjunction.0, chain_of ends_conjunction.1 no_tail, λ rest. the_exclusive (ends_conjunction.2 rest) no_more_exclusive)

pub ends_disjunction : Ends Disjunction
ends_disjunction = (ends_exclusive.0, chain_of ends_exclusive.1 no_tail, λ rest. the_disjunction (ends_exclusive.2 rest) no_more_disjunction)

-- the levels of operators, each as a group
pub level_in : (v : Level) (l mid rest : List Token) (c : Covered) (us : Tail) → operand_part v l mid c → links_part v mid rest us →
    level_part v l rest (chain_of c us)
level_in level.Sum l mid rest c us a n = the_sum a n
level_in level.Conjunction l mid rest c us a n = the_conjunction a n
level_in level.Exclusive l mid rest c us a n = the_exclusive a n
level_in level.Disjunction l mid rest c us a n = the_disjunction a n

pub level_out : (v : Level) (l rest : List Token) (a : Covered) → level_part v l rest a → (mid : List Token) × (c : Covered) × (us : Tail)
    × operand_part v l mid c × links_part v mid rest us × (a ≡ chain_of c us)
level_out level.Sum l rest a w = sum_out w
level_out level.Conjunction l rest a w = conjunction_out w
level_out level.Exclusive l rest a w = exclusive_out w
level_out level.Disjunction l rest a w = disjunction_out w

pub no_links_in : (v : Level) (l : List Token) → links_part v l l no_tail
no_links_in level.Sum l = no_more_sum
no_links_in level.Conjunction l = no_more_conjunction
no_links_in level.Exclusive l = no_more_exclusive
no_links_in level.Disjunction l = no_more_disjunction

pub links_in : (v : Level) (l x mid rest : List Token) (o : Op) (c : Covered) (us : Tail) → Operator (level_operator v) l x o → operand_part v x mid c →
    links_part v mid rest us → links_part v l rest (longer o c us)
links_in level.Sum l x mid rest o c us s a n = sum_in s a n
links_in level.Conjunction l x mid rest o c us s a n = conjunction_in s a n
links_in level.Exclusive l x mid rest o c us s a n = exclusive_in s a n
links_in level.Disjunction l x mid rest o c us s a n = disjunction_in s a n

pub links_out : (v : Level) (l rest : List Token) (us : Tail) → links_part v l rest us →
    Further (operand_part v) (links_part v) (Operator (level_operator v)) (λ o c. let p : Op × Covered = (o, c) in p) no_tail (λ x us. longer x.0 x.1 us) l rest
    us
links_out level.Sum l rest us n = sum_more n
links_out level.Conjunction l rest us n = conjunction_more n
links_out level.Exclusive l rest us n = exclusive_more n
links_out level.Disjunction l rest us n = disjunction_more n

pub level_ranked : (v : Level) (j : TokenKind) (o : Op) → level_operator v j ≡ Some o → rank j ≡ level_rank v
level_ranked level.Sum j o e = sum_ranked j o e
level_ranked level.Conjunction j o e = conjunction_ranked j o e
level_ranked level.Exclusive j o e = exclusive_ranked j o e
level_ranked level.Disjunction j o e = disjunction_ranked j o e

pub operand_ends : (v : Level) → Ends (operand_part v)
operand_ends level.Sum = ends_negated
operand_ends level.Conjunction = ends_comparison
operand_ends level.Exclusive = ends_conjunction
operand_ends level.Disjunction = ends_exclusive

pub sign_ends : (v : Level) → Ends (Operator (level_operator v))
sign_ends level.Sum = (some_sign mark.Plus ∷ [], op.Add, λ rest. operator refl)
sign_ends level.Conjunction = (some_sign mark.Amp ∷ [], op.And, λ rest. operator refl)
sign_ends level.Exclusive = (some_sign mark.Caret ∷ [], op.Xor, λ rest. operator refl)
sign_ends level.Disjunction = (some_sign mark.Bar ∷ [], op.Or, λ rest. operator refl)

abbrev pub Stands : Level → Option Token → Type 0
Stands v t = (o : Op) × (kind_read (level_operator v) t ≡ Some o)

pub level_marked : (v : Level) (t : Option Token) → Stands v t → StopsAt (suc (level_rank v)) t
level_marked v None h = tt
level_marked v (Some t) h = omega (arith, level_ranked v t.kind h.0 h.1)

pub level_apart : (v : Level) (t : Option Token) → Stands v t → StopsAt (level_rank v) t → ⊥
level_apart v None h f = let e : ◌≡◌ {A = Option Op} None (Some h.0) = h.1 in cc e
level_apart v (Some t) h f = let lt : rank t.kind < level_rank v = f in omega (arith, lt, level_ranked v t.kind h.0 h.1)

abbrev pub grouping_of : Level → Grouping
grouping_of v = record {
  A = Covered;
  B = Covered;
  U = Tail;
  O = Op;
  I = Op × Covered;
  W = level_part v;
  F = StopsAt (level_rank v);
  R = operand_part v;
  G = StopsAt (suc (level_rank v));
  M = links_part v;
  S = Operator (level_operator v);
  H = Stands v;
  item = λ o c. (o, c);
  none = no_tail;
  more = λ x us. longer x.0 x.1 us;
  build = chain_of;
  w_in = level_in v;
  w_out = level_out v;
  m_none = no_links_in v;
  m_more = links_in v;
  m_out = links_out v;
  seen = λ l rest o s. (o, operator_seen s);
  marked = level_marked v;
  apart = level_apart v;
  weaker = λ t f. stops_more (level_rank v) (suc (level_rank v)) t (omega arith) f;
  ends = operand_ends v;
  ends_sign = sign_ends v;
}

-- how many calls of the recursion are below an operand of the level, at least
abbrev pub height : Level → ℕ
height level.Sum = 2
height level.Conjunction = 5
height level.Exclusive = 7
height level.Disjunction = 9

-- the links of some members, and where the last of them ends
abbrev pub link_plain : Op × Covered → Op × Expression
link_plain x = (x.0, x.1.expression)

abbrev pub last_of : Covered → List (Op × Covered) → Span
last_of c [] = c.at
last_of c (x ∷ got) = last_of x.1 got

abbrev pub last_in : List (Op × Covered) → Option Span
last_in [] = None
last_in (x ∷ got) = Some (last_of x.1 got)

abbrev all_links : List (Op × Covered) → Tail
all_links got = onto (λ x us. longer x.0 x.1 us) got no_tail

links_are : (got : List (Op × Covered)) → (all_links got).links ≡ onto and_pair (map link_plain got) no_links
links_are [] = refl
links_are (x ∷ got) = ap (λ us. and_link x.0 x.1.expression us) (links_are got)

end_is : (c : Covered) (got : List (Op × Covered)) → end_of c.at (all_links got).last ≡ last_of c got
end_is c [] = refl
end_is c (x ∷ got) = end_is x.1 got

last_is : (got : List (Op × Covered)) → (all_links got).last ≡ last_in got
last_is [] = refl
last_is (x ∷ got) = ap (λ (s : Span). Some s) (end_is x.1 got)

last_more : (c : Covered) (got : List (Op × Covered)) (o : Op) (n : Covered) → last_of c (got ++ ((o, n) ∷ [])) ≡ n.at
last_more c [] o n = refl
last_more c (x ∷ got) o n = last_more x.1 got o n

last_then : (got : List (Op × Covered)) (o : Op) (n : Covered) → last_in (got ++ ((o, n) ∷ [])) ≡ Some n.at
last_then [] o n = refl
last_then (x ∷ got) o n = ap (λ (s : Span). Some s) (last_more x.1 got o n)

-- what holds at each round of the loop over a level's links
pub record Linked (v : Level) (xs left : List Token) (links : List (Op × Expression)) (last : Option Span) : Type 0 where
  pub got : List (Op × Covered)
  pub so : SoMany (grouping_of v) (links_part v) (λ us. us) xs left got
  pub same : map link_plain got ≡ links
  pub ends : last_in got ≡ last

pub linked_none : (v : Level) (xs : List Token) → Linked v xs xs [] None
linked_none v xs = record { got = []; so = links_first (grouping_of v) xs; same = refl; ends = refl }

pub linked_more : (v : Level) {xs left mid to : List Token} {n : Covered} {links : List (Op × Expression)} {last : Option Span} {o : Op} →
    Linked v xs left links last → Good (Operator (level_operator v)) Anything left mid o → Good (operand_part v) (StopsAt (suc (level_rank v))) mid to n →
    Linked v xs to (links ++ ((o, n.expression) ∷ [])) (Some n.at)
linked_more v {n = n} {o = o} s sign good = record {
  got = s.got ++ ((o, n) ∷ []);
  so = group_more (grouping_of v) s.so sign good;
  same = map-append link_plain s.got ((o, n) ∷ []) ∙ ap (λ (ls : List (Op × Expression)). ls ++ ((o, n.expression) ∷ [])) s.same;
  ends = last_then s.got o n;
}

-- an operand is added as it was read
pub linked_added : (v : Level) {xs left mid to : List Token} {links more : List (Op × Expression)} {last end : Option Span} {o : Op}
    (right : Result C.Covered Stop) → Linked v xs left links last → Good (Operator (level_operator v)) Anything left mid o →
    IsOkAnd right (λ c. more ≡ links ++ ((o, expression_of c.value) ∷ [])) → IsOkAnd right (λ c. end ≡ Some c.at) →
    IfOk right (λ c. Good (operand_part v) (StopsAt (suc (level_rank v))) mid to (covered_of c)) → Linked v xs to more end
linked_added v {xs} {to = to} {links = links} {end = end} {o = o} (Ok c) s sign e f good =
    subst (λ (ls : List (Op × Expression)). Linked v xs to ls end) (sym e)
    (subst (λ (p : Option Span). Linked v xs to (links ++ ((o, expression_of c.value) ∷ [])) p) (sym f) (linked_more v s sign good))
linked_added v (Err y) s sign e f good = absurd e

pub linked_bad : (v : Level) {xs left mid to : List Token} {links : List (Op × Expression)} {last : Option Span} {o : Op} → Linked v xs left links last →
    Good (Operator (level_operator v)) Anything left mid o → Bad (operand_part v) (StopsAt (suc (level_rank v))) mid to →
    Bad (links_part v) (StopsAt (level_rank v)) xs to
linked_bad v s sign bad = group_bad (grouping_of v) s.so sign bad

pub linked_end : (v : Level) {xs left : List Token} {links : List (Op × Expression)} {last : Option Span} → Linked v xs left links last →
    kind_read (level_operator v) (sees left) ≡ None →
    Good (links_part v) (StopsAt (level_rank v)) xs left (record { links = onto and_pair links no_links; last = last })
linked_end v {xs} {left} {links} {last} s none =
    subst (λ (us : Tail). Good (links_part v) (StopsAt (level_rank v)) xs left us)
    (ap (λ (ls : Links). let us : Tail = record { links = ls; last = (all_links s.got).last } in us) (links_are s.got)
    ∙ (ap (λ (e : Option Span). let us : Tail = record { links = onto and_pair (map link_plain s.got) no_links; last = e } in us) (last_is s.got ∙ s.ends)
    ∙ ap (λ (ls : List (Op × Expression)). let us : Tail = record { links = onto and_pair ls no_links; last = last } in us) s.same))
    (group_end (grouping_of v) s.so (λ h. let x : ◌≡◌ {A = Option Op} None (Some h.0) = sym none ∙ h.1 in cc x))

-- the comparison
abbrev pub Compared : Covered → GrammarPart Covered
Compared c = Then (Operator comparison_of) (λ o. Then Sum (λ d. Done (chain_of c (longer o d no_tail))))

abbrev pub After_sum : Covered → GrammarPart Covered
After_sum c = Either (Done c) (Compared c)

comparison_in : {l rest : List Token} {a : Covered} → Then Sum After_sum l rest a → Comparison l rest a
comparison_in (and_then s (one all_done)) = not_compared s
comparison_in (and_then s (other (and_then (operator e) (and_then r all_done)))) = compared s e r

comparison_out : {l rest : List Token} {a : Covered} → Comparison l rest a → Then Sum After_sum l rest a
comparison_out (not_compared s) = and_then s (one all_done)
comparison_out (compared s e r) = and_then s (other (and_then (operator e) (and_then r all_done)))

pub comparison_start : (xs : List Token) → SoFar Comparison (StopsAt 8) xs xs (Then Sum After_sum)
comparison_start xs = instead (Then Sum After_sum) (start Comparison (StopsAt 8) xs) (λ l rest a q. comparison_in q) (λ l rest a s f w. comparison_out w)

pub compared_ranked : (j : TokenKind) (o : Op) → comparison_of j ≡ Some o → rank j ≡ 8
compared_ranked (Sign mark.Equal) o e = refl
compared_ranked (Sign mark.NotEqual) o e = refl
compared_ranked (Sign mark.Less) o e = refl
compared_ranked (Sign mark.AtMost) o e = refl
compared_ranked (Sign mark.Greater) o e = refl
compared_ranked (Sign mark.AtLeast) o e = refl
compared_ranked (Sign _) o e = absurd (cc e)
compared_ranked (Word w) o e = absurd (cc e)
compared_ranked (Ident w) o e = absurd (cc e)
compared_ranked (Number w) o e = absurd (cc e)

compared_9 : (t : Option Token) (o : Op) → kind_read comparison_of t ≡ Some o → StopsAt 9 t
compared_9 None o h = tt
compared_9 (Some t) o h = omega (arith, compared_ranked t.kind o h)

compared_8 : (t : Option Token) (o : Op) → kind_read comparison_of t ≡ Some o → StopsAt 8 t → ⊥
compared_8 None o h f = let e : ◌≡◌ {A = Option Op} None (Some o) = h in cc e
compared_8 (Some t) o h f = let lt : rank t.kind < 8 = f in omega (arith, lt, compared_ranked t.kind o h)

sum_before : (c : Covered) (l rest : List Token) (a : Covered) → StopsAt 8 (sees rest) → After_sum c l rest a → StopsAt 9 (sees l)
sum_before c l rest a f (one q) = stops_more 8 9 (sees l) (omega arith) (stops_done (StopsAt 8) l rest f q)
sum_before c l rest a f (other (and_then {b = o} s q)) = compared_9 (sees l) o (operator_seen s)

pub sum_seam : Seam Sum (StopsAt 9) (StopsAt 8) After_sum
sum_seam = record { stops = sum_before; ends = λ c. ends_one (ends_done c) }

pub compared_seam : (c : Covered) → Seam (Operator comparison_of) Anything (StopsAt 8) (λ o. Then Sum (λ d. Done (chain_of c (longer o d no_tail))))
compared_seam c = any_seam (λ o. ends_then ends_sum (λ d. ends_done (chain_of c (longer o d no_tail))))

pub right_seam : (c : Covered) (o : Op) → Seam Sum (StopsAt 9) (StopsAt 8) (λ d. Done (chain_of c (longer o d no_tail)))
right_seam c o = record {
  stops = λ d l rest a f q. stops_more 8 9 (sees l) (omega arith) (stops_done (StopsAt 8) l rest f q);
  ends = λ d. ends_done (chain_of c (longer o d no_tail));
}

pub uncompared : {xs left : List Token} {c : Covered} → SoFar Comparison (StopsAt 8) xs left (After_sum c) → kind_read comparison_of (sees left) ≡ None →
    SoFar Comparison (StopsAt 8) xs left (Done c)
uncompared {xs} {left} {c} so none = not_other so never
  where
    never : (l rest : List Token) (a : Covered) → sees l ≡ sees left → StopsAt 8 (sees rest) → Compared c l rest a → ⊥
    never l rest a s f (and_then {b = o} p q) = let x : ◌≡◌ {A = Option Op} None (Some o) =
        sym none ∙ (sym (ap (λ (t : Option Token). kind_read comparison_of t) s) ∙ operator_seen p) in cc x

pub with_comparison : {xs left : List Token} {c : Covered} (o : Op) → SoFar Comparison (StopsAt 8) xs left (After_sum c) →
    kind_read comparison_of (sees left) ≡ Some o → SoFar Comparison (StopsAt 8) xs left (Compared c)
with_comparison {xs} {left} {c} o so h = not_one so (λ l rest a s f q. compared_8 (sees l) o (ap (λ (t : Option Token). kind_read comparison_of t) s ∙ h)
    (stops_done (StopsAt 8) l rest f q))

-- the negation
abbrev pub Plain : GrammarPart Covered
Plain = Then Primary (λ c. Done c)

abbrev pub Tilded : GrammarPart Covered
Tilded = Then (Exactly (Sign mark.Tilde)) (λ t. Then Primary (λ c. Done (cover (negation c.expression (from_to t c.at)) (from_to t c.at))))

negated_in : {l rest : List Token} {a : Covered} → Either Plain Tilded l rest a → Negated l rest a
negated_in (one (and_then p all_done)) = plain p
negated_in (other (and_then exactly (and_then p all_done))) = negated p

negated_out : {l rest : List Token} {a : Covered} → Negated l rest a → Either Plain Tilded l rest a
negated_out (plain p) = one (and_then p all_done)
negated_out (negated p) = other (and_then exactly (and_then p all_done))

negated_start : (xs : List Token) → SoFar Negated (StopsAt 10) xs xs (Either Plain Tilded)
negated_start xs = instead (Either Plain Tilded) (start Negated (StopsAt 10) xs) (λ l rest a q. negated_in q) (λ l rest a s f w. negated_out w)

tilde_first : {l rest : List Token} {a : Covered} → Primary l rest a → IsKind (Sign mark.Tilde) (sees l) → ⊥
tilde_first a_number h = cc h
tilde_first a_name h = cc h
tilde_first a_bit h = cc h
tilde_first a_slice h = cc h
tilde_first (a_join p) h = cc h
tilde_first (in_brackets p) h = cc h

pub plain_start : (xs : List Token) → (IsKind (Sign mark.Tilde) (sees xs) → ⊥) → SoFar Negated (StopsAt 10) xs xs Plain
plain_start xs never = not_other (negated_start xs) (λ l rest a s f q. never (subst (λ (t : Option Token). IsKind (Sign mark.Tilde) t) s (then_kind q)))

pub tilde_start : (xs : List Token) → IsKind (Sign mark.Tilde) (sees xs) → SoFar Negated (StopsAt 10) xs xs Tilded
tilde_start xs h = not_one (negated_start xs) never
  where
    never : (l rest : List Token) (a : Covered) → sees l ≡ sees xs → StopsAt 10 (sees rest) → Plain l rest a → ⊥
    never l rest a s f (and_then p q) = tilde_first p (subst (λ (t : Option Token). IsKind (Sign mark.Tilde) t) (sym s) h)

pub plain_seam : Seam Primary (StopsAt 10) (StopsAt 10) (λ c. Done c)
plain_seam = last_seam (λ c. c)

abbrev negation_of : Span → Covered → Covered
negation_of t c = cover (negation c.expression (from_to t c.at)) (from_to t c.at)

pub tilde_seam : Seam (Exactly (Sign mark.Tilde)) Anything (StopsAt 10)
    (λ t. Then Primary (λ c. Done (cover (negation c.expression (from_to t c.at)) (from_to t c.at))))
tilde_seam = any_seam (λ t. ends_then ends_primary (λ c. ends_done (negation_of t c)))

pub inner_seam : (t : Span) → Seam Primary (StopsAt 10) (StopsAt 10) (λ c. Done (cover (negation c.expression (from_to t c.at)) (from_to t c.at)))
inner_seam t = last_seam (negation_of t)

-- what is innermost, by its first token
abbrev F10 : Option Token → Type 0
F10 = StopsAt 10

abbrev pub Numbered : GrammarPart Covered
Numbered = Then ANumber (λ n. Done (cover (number n.value n.at) n.at))

numbered_in : {l rest : List Token} {a : Covered} → Numbered l rest a → Primary l rest a
numbered_in (and_then the_number all_done) = a_number

numbered_out : {l rest : List Token} {a : Covered} → primary_front (sees l) ≡ primary.Number → Primary l rest a → Numbered l rest a
numbered_out h (a_number {n = n} {s = s}) = and_then {b = record { value = n; at = s }} the_number all_done
numbered_out h _ = absurd (cc h)

pub numbered_start : (xs : List Token) → primary_front (sees xs) ≡ primary.Number → SoFar Primary F10 xs xs Numbered
numbered_start xs h = instead Numbered (start Primary F10 xs) (λ l rest a q. numbered_in q) (λ l rest a s f w. numbered_out (ap primary_front s ∙ h) w)

pub number_seam : Seam ANumber Anything F10 (λ n. Done (cover (number n.value n.at) n.at))
number_seam = last_any (λ n. cover (number n.value n.at) n.at)

abbrev pub bit_cover : Named → Numeral → Span → Covered
bit_cover i n c = cover (bit i n.value (from_to i.at c)) (from_to i.at c)

abbrev pub slice_cover : Named → Numeral → Numeral → Span → Covered
slice_cover i n m c = cover (slice i n.value m.value (from_to i.at c)) (from_to i.at c)

abbrev pub Bitten : Named → Numeral → GrammarPart Covered
Bitten i n = Then (Exactly (Sign mark.CloseSquare)) (λ c. Done (bit_cover i n c))

abbrev pub Slice_end : Named → Numeral → Numeral → GrammarPart Covered
Slice_end i n m = Then (Exactly (Sign mark.CloseSquare)) (λ c. Done (slice_cover i n m c))

abbrev pub Sliced : Named → Numeral → GrammarPart Covered
Sliced i n = Then (Exactly (Sign mark.Colon)) (λ d. Then ANumber (Slice_end i n))

abbrev pub Placed : Named → Numeral → GrammarPart Covered
Placed i n = Either (Bitten i n) (Sliced i n)

abbrev pub Indexed : Named → GrammarPart Covered
Indexed i = Then (Exactly (Sign mark.OpenSquare)) (λ o. Then ANumber (Placed i))

abbrev pub After_name : Named → GrammarPart Covered
After_name i = Either (Done (cover (whole i) i.at)) (Indexed i)

named_in : {l rest : List Token} {a : Covered} → Then AName After_name l rest a → Primary l rest a
named_in (and_then the_name (one all_done)) = a_name
named_in (and_then the_name (other (and_then exactly (and_then the_number (one (and_then exactly all_done)))))) = a_bit
named_in (and_then the_name (other (and_then exactly (and_then the_number (other (and_then exactly (and_then the_number (and_then exactly all_done)))))))) =
    a_slice

named_out : {l rest : List Token} {a : Covered} → primary_front (sees l) ≡ primary.Name → Primary l rest a → Then AName After_name l rest a
named_out h (a_name {n = n} {s = s}) = and_then {b = named n s} the_name (one all_done)
named_out h (a_bit {n = n} {i = i} {s = s} {p = p}) =
    and_then {b = named n s} the_name (other (and_then exactly (and_then {b = record { value = i; at = p }} the_number (one (and_then exactly all_done)))))
named_out h (a_slice {n = n} {h = i} {l = j} {s = s} {p = p} {q = q}) =
    and_then {b = named n s} the_name (other (and_then exactly
    (and_then {b = record { value = i; at = p }} the_number
    (other (and_then exactly (and_then {b = record { value = j; at = q }} the_number (and_then exactly all_done)))))))
named_out h _ = absurd (cc h)

pub named_start : (xs : List Token) → primary_front (sees xs) ≡ primary.Name → SoFar Primary F10 xs xs (Then AName After_name)
named_start xs h = instead (Then AName After_name) (start Primary F10 xs) (λ l rest a q. named_in q) (λ l rest a s f w. named_out (ap primary_front s ∙ h) w)

pub name_seam : Seam AName Anything F10 After_name
name_seam = any_seam (λ i. ends_one (ends_done (cover (whole i) i.at)))

bit_ends : (i : Named) (n : Numeral) → Ends (Bitten i n)
bit_ends i n = ends_then (ends_exactly (Sign mark.CloseSquare)) (λ c. ends_done (bit_cover i n c))

slice_ends : (i : Named) (n m : Numeral) → Ends (Slice_end i n m)
slice_ends i n m = ends_then (ends_exactly (Sign mark.CloseSquare)) (λ c. ends_done (slice_cover i n m c))

pub open_seam : (i : Named) → Seam (Exactly (Sign mark.OpenSquare)) Anything F10 (λ o. Then ANumber (Placed i))
open_seam i = any_seam (λ o. ends_then ends_number (λ n. ends_one (bit_ends i n)))

pub place_seam : (i : Named) → Seam ANumber Anything F10 (Placed i)
place_seam i = any_seam (λ n. ends_one (bit_ends i n))

pub bit_seam : (i : Named) (n : Numeral) → Seam (Exactly (Sign mark.CloseSquare)) Anything F10 (λ c. Done (bit_cover i n c))
bit_seam i n = last_any (bit_cover i n)

pub colon_seam : (i : Named) (n : Numeral) → Seam (Exactly (Sign mark.Colon)) Anything F10 (λ d. Then ANumber (Slice_end i n))
colon_seam i n = any_seam (λ d. ends_then ends_number (slice_ends i n))

pub low_seam : (i : Named) (n : Numeral) → Seam ANumber Anything F10 (Slice_end i n)
low_seam i n = any_seam (slice_ends i n)

pub slice_seam : (i : Named) (n m : Numeral) → Seam (Exactly (Sign mark.CloseSquare)) Anything F10 (λ c. Done (slice_cover i n m c))
slice_seam i n m = last_any (slice_cover i n m)

pub unindexed : {xs left : List Token} {i : Named} → SoFar Primary F10 xs left (After_name i) → (IsKind (Sign mark.OpenSquare) (sees left) → ⊥) →
    SoFar Primary F10 xs left (Done (cover (whole i) i.at))
unindexed so never = not_other so (λ l rest a s f q. never (subst (λ (t : Option Token). IsKind (Sign mark.OpenSquare) t) s (then_kind q)))

square_10 : (t : Option Token) → IsKind (Sign mark.OpenSquare) t → StopsAt 10 t → ⊥
square_10 None h f = h
square_10 (Some t) h f = let lt : rank t.kind < 10 = f in let e : rank t.kind ≡ 10 = ap rank h in omega (arith, lt, e)

pub indexed : {xs left : List Token} {i : Named} → SoFar Primary F10 xs left (After_name i) → IsKind (Sign mark.OpenSquare) (sees left) →
    SoFar Primary F10 xs left (Indexed i)
indexed so h = not_one so (λ l rest a s f q. square_10 (sees l) (subst (λ (t : Option Token). IsKind (Sign mark.OpenSquare) t) (sym s) h)
    (stops_done F10 l rest f q))

pub unsliced : {xs left : List Token} (i : Named) (n : Numeral) → SoFar Primary F10 xs left (Placed i n) → (IsKind (Sign mark.Colon) (sees left) → ⊥) →
    SoFar Primary F10 xs left (Bitten i n)
unsliced i n so never = not_other so (λ l rest a s f q. never (subst (λ (t : Option Token). IsKind (Sign mark.Colon) t) s (then_kind q)))

not_both : (t : Option Token) → IsKind (Sign mark.Colon) t → IsKind (Sign mark.CloseSquare) t → ⊥
not_both None h k = h
not_both (Some t) h k = let e : Sign mark.Colon ≡ Sign mark.CloseSquare = sym h ∙ k in cc e

pub sliced : {xs left : List Token} (i : Named) (n : Numeral) → SoFar Primary F10 xs left (Placed i n) → IsKind (Sign mark.Colon) (sees left) →
    SoFar Primary F10 xs left (Sliced i n)
sliced i n so h = not_one so (λ l rest a s f q. not_both (sees l) (subst (λ (t : Option Token). IsKind (Sign mark.Colon) t) (sym s) h) (then_kind q))

abbrev pub join_cover : Span → Expressions → Span → Covered
join_cover o es c = cover (join es (from_to o c)) (from_to o c)

abbrev pub Curly_end : Span → Expressions → GrammarPart Covered
Curly_end o es = Then (Exactly (Sign mark.CloseCurly)) (λ c. Done (join_cover o es c))

abbrev pub Joined : GrammarPart Covered
Joined = Then (Exactly (Sign mark.OpenCurly)) (λ o. Then Parts (Curly_end o))

joined_in : {l rest : List Token} {a : Covered} → Joined l rest a → Primary l rest a
joined_in (and_then exactly (and_then p (and_then exactly all_done))) = a_join p

joined_out : {l rest : List Token} {a : Covered} → primary_front (sees l) ≡ primary.Curly → Primary l rest a → Joined l rest a
joined_out h (a_join p) = and_then exactly (and_then p (and_then exactly all_done))
joined_out h _ = absurd (cc h)

pub joined_start : (xs : List Token) → primary_front (sees xs) ≡ primary.Curly → SoFar Primary F10 xs xs Joined
joined_start xs h = instead Joined (start Primary F10 xs) (λ l rest a q. joined_in q) (λ l rest a s f w. joined_out (ap primary_front s ∙ h) w)

abbrev pub Round_end : Span → Covered → GrammarPart Covered
Round_end o e = Then (Exactly (Sign mark.CloseRound)) (λ c. Done (cover e.expression (from_to o c)))

abbrev pub Rounded : GrammarPart Covered
Rounded = Then (Exactly (Sign mark.OpenRound)) (λ o. Then Disjunction (Round_end o))

rounded_in : {l rest : List Token} {a : Covered} → Rounded l rest a → Primary l rest a
rounded_in (and_then exactly (and_then p (and_then exactly all_done))) = in_brackets p

rounded_out : {l rest : List Token} {a : Covered} → primary_front (sees l) ≡ primary.Round → Primary l rest a → Rounded l rest a
rounded_out h (in_brackets p) = and_then exactly (and_then p (and_then exactly all_done))
rounded_out h _ = absurd (cc h)

pub rounded_start : (xs : List Token) → primary_front (sees xs) ≡ primary.Round → SoFar Primary F10 xs xs Rounded
rounded_start xs h = instead Rounded (start Primary F10 xs) (λ l rest a q. rounded_in q) (λ l rest a s f w. rounded_out (ap primary_front s ∙ h) w)

round_ends : (o : Span) (e : Covered) → Ends (Round_end o e)
round_ends o e = ends_then (ends_exactly (Sign mark.CloseRound)) (λ c. ends_done (cover e.expression (from_to o c)))

pub round_1 : Seam (Exactly (Sign mark.OpenRound)) Anything F10 (λ o. Then Disjunction (Round_end o))
round_1 = any_seam (λ o. ends_then ends_disjunction (round_ends o))

pub round_2 : (o : Span) → Seam Disjunction (StopsAt 5) F10 (Round_end o)
round_2 o = kind_seam (Sign mark.CloseRound) 5 (omega arith) (λ e c. ends_done (cover e.expression (from_to o c)))

pub round_3 : (o : Span) (e : Covered) → Seam (Exactly (Sign mark.CloseRound)) Anything F10 (λ c. Done (cover e.expression (from_to o c)))
round_3 o e = last_any (λ c. cover e.expression (from_to o c))

-- nothing else begins one
no_primary : {l rest : List Token} {a : Covered} → primary_front (sees l) ≡ primary.Other → Primary l rest a → ⊥
no_primary h a_number = cc h
no_primary h a_name = cc h
no_primary h a_bit = cc h
no_primary h a_slice = cc h
no_primary h (a_join p) = cc h
no_primary h (in_brackets p) = cc h

pub primary_bad : (xs : List Token) → primary_front (sees xs) ≡ primary.Other → Bad Primary F10 xs xs
primary_bad xs h = bad_here (start Primary F10 xs) (λ l rest a s f w. no_primary (ap primary_front s ∙ h) w) ends_primary

-- expr { "," expr }
pub parts_out : {l rest : List Token} {a : Expressions} → Parts l rest a → (mid : List Token) × (c : Covered) × (es : Expressions) × Disjunction l mid c
    × MoreParts mid rest es × (a ≡ and_part c.expression es)
parts_out (the_parts {mid = mid} {e = e} {es = es} {s = s} d n) = (mid, cover e s, es, d, n, refl)

pub parts_more : {l rest : List Token} {es : Expressions} → MoreParts l rest es →
    Further Disjunction MoreParts (Exactly (Sign mark.Comma)) (λ p c. c.expression) no_parts and_part l rest es
parts_more no_more_parts = no_further
parts_more (one_more_part {e = e} {s = s} d n) = a_further {b = cover e s} exactly d n

pub parts_in : {l x mid rest : List Token} {o : Span} {c : Covered} {es : Expressions} → Exactly (Sign mark.Comma) l x o → Disjunction x mid c →
    MoreParts mid rest es → MoreParts l rest (and_part c.expression es)
parts_in exactly d n = one_more_part d n

pub comma_5 : (t : Option Token) → IsKind (Sign mark.Comma) t → StopsAt 5 t
comma_5 None h = tt
comma_5 (Some t) h = let e : rank t.kind ≡ 4 = ap rank h in omega (arith, e)

pub comma_4 : (t : Option Token) → IsKind (Sign mark.Comma) t → StopsAt 4 t → ⊥
comma_4 None h f = h
comma_4 (Some t) h f = let e : rank t.kind ≡ 4 = ap rank h in let lt : rank t.kind < 4 = f in omega (arith, e, lt)

abbrev pub parts_group : Grouping
parts_group = record {
  A = Expressions;
  B = Covered;
  U = Expressions;
  O = Span;
  I = Expression;
  W = Parts;
  F = StopsAt 4;
  R = Disjunction;
  G = StopsAt 5;
  M = MoreParts;
  S = Exactly (Sign mark.Comma);
  H = IsKind (Sign mark.Comma);
  item = λ p c. c.expression;
  none = no_parts;
  more = and_part;
  build = λ c es. and_part c.expression es;
  w_in = λ l mid rest c es d n. the_parts d n;
  w_out = λ l rest a w. parts_out w;
  m_none = λ l. no_more_parts;
  m_more = λ l x mid rest o c es s d n. parts_in s d n;
  m_out = λ l rest es n. parts_more n;
  seen = λ l rest o s. exactly_seen s;
  marked = comma_5;
  apart = comma_4;
  weaker = λ t f. stops_more 4 5 t (omega arith) f;
  ends = ends_disjunction;
  ends_sign = ends_exactly (Sign mark.Comma);
}

pub ends_parts : Ends Parts
ends_parts = group_ends parts_group

join_ends : (o : Span) (es : Expressions) → Ends (Curly_end o es)
join_ends o es = ends_then (ends_exactly (Sign mark.CloseCurly)) (λ c. ends_done (join_cover o es c))

pub curly_1 : Seam (Exactly (Sign mark.OpenCurly)) Anything F10 (λ o. Then Parts (Curly_end o))
curly_1 = any_seam (λ o. ends_then ends_parts (join_ends o))

pub curly_2 : (o : Span) → Seam Parts (StopsAt 4) F10 (Curly_end o)
curly_2 o = kind_seam (Sign mark.CloseCurly) 4 (omega arith) (λ es c. ends_done (join_cover o es c))

pub curly_3 : (o : Span) (es : Expressions) → Seam (Exactly (Sign mark.CloseCurly)) Anything F10 (λ c. Done (join_cover o es c))
curly_3 o es = last_any (join_cover o es)
