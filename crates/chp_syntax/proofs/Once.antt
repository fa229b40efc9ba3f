-- A text reads as at most one program.
use Rattle.std.proofs.Common.{◌≡◌, ℕ, ◌<◌, List, ◌∷◌, true, false, drop, Option, Some, refl, sym, ap, ◌∙◌, subst, arith}
use Rattle.chp_base.specs.declared.span.Span.{Span}
use Rattle.chp_syntax.specs.declared.token.Token.{Token}
use Rattle.chp_syntax.specs.declared.token.TokenKind.{TokenKind}
use Rattle.chp_syntax.specs.declared.token.Key.TheVariants as key
use Rattle.chp_syntax.specs.declared.token.Mark.TheVariants as mark
use Rattle.chp_syntax.specs.declared.tree.DeclKind.{DeclKind}
use Rattle.chp_syntax.specs.declared.tree.Op.{Op}
use Rattle.chp_syntax.specs.Trees.{negation, Expressions, and_part, Statement, assigns, sends, selects, repeats, Statements, and_member, Arms, and_arm, ProgramTree}
use Rattle.chp_syntax.specs.Grammar.{named, sign, word, from_to, or_operator, xor_of, and_of, sum_of, comparison_of, kind_of_channel, Covered, cover, Tail, no_tail, longer, chain_of, sequence_of, parallel_of, Guarded, guarded, Primary, a_number, a_name, a_bit, a_slice, a_join, in_brackets, Parts, the_parts, MoreParts, no_more_parts, one_more_part, Negated, plain, negated, Sum, the_sum, MoreSum, no_more_sum, one_more_sum, Comparison, not_compared, compared, Conjunction, the_conjunction, MoreConjunction, no_more_conjunction, one_more_conjunction, Exclusive, the_exclusive, MoreExclusive, no_more_exclusive, one_more_exclusive, Disjunction, the_disjunction, MoreDisjunction, no_more_disjunction, one_more_disjunction, Atom, a_skip, an_assignment, a_send, a_receive, a_call, in_round, a_loop, a_guarded_loop, a_selection, GuardedCommand, the_branch, GuardedCommands, the_choices, MoreChoices, no_more_choices, one_more_choice, Both, the_both, MoreBoth, no_more_both, one_more_both, Seq, the_seq, MoreSeq, no_more_seq, one_more_seq, Par, the_par, MorePar, no_more_par, one_more_par, Declared, Item, valued, and_item, unset, Declaration, a_channel, a_variable, a_variable_with_first, a_procedure, Declarations, no_declaration, one_more_declaration, Programs, the_program, Derives}
use Rattle.chp_syntax.specs.Reading.{Reads}
use Rattle.chp_syntax.specs.Parts.{sees, here, rank, StopsAt, Undeclared}
use Rattle.chp_syntax.proofs.Steps.{stops_more}
use Rattle.chp_syntax.proofs.Expressions.{sum_ranked, compared_ranked, conjunction_ranked, exclusive_ranked, disjunction_ranked, join_cover}
use Rattle.chp_syntax.proofs.Insides.{par_begins, choices_begin}
use Rattle.chp_syntax.proofs.Programs.{declaration_bad, proc_of, whole_of}
use Rattle.chp_syntax.proofs.Cutting.{one_cut}

-- the same rest and the same value
abbrev Same : {A : Type 0} → List Token → A → List Token → A → Type 0
Same {A} r a q b = (r ≡ q) × (a ≡ b)

both_same : {A B C : Type 0} (V : A → B → C) {a c : A} {b d : B} → a ≡ c → b ≡ d → V a b ≡ V c d
both_same V {a} {c} {b} {d} h w = ap (λ x. V x b) h ∙ ap (λ y. V c y) w

behind_same : {t u : Token} {r q : List Token} → t ∷ r ≡ u ∷ q → r ≡ q
behind_same e = ap (λ (x : List Token). drop 1 x) e

kind_same : {t u : Token} {r q : List Token} → t ∷ r ≡ u ∷ q → t.kind ≡ u.kind
kind_same {t} {u} e = let x : t ≡ u = cc e in ap (λ (y : Token). y.kind) x

one_value : {A : Type 0} (f : TokenKind → Option A) (k : TokenKind) {o p : A} → f k ≡ Some o → f k ≡ Some p → o ≡ p
one_value {A} f k {o} {p} e i = let x : ◌≡◌ {A = Option A} (Some o) (Some p) = sym e ∙ i in cc x

longer_same : {o p : Op} {c d : Covered} {us vs : Tail} → o ≡ p → c ≡ d → us ≡ vs → longer o c us ≡ longer p d vs
longer_same {o} {p} {c} {d} {us} {vs} e h w = ap (λ x. longer x c us) e ∙ both_same (λ x y. longer p x y) h w

-- a token of the rank from which on what stands before it isn't gone on with
ranked_apart : (k : ℕ) (t : Token) (ts : List Token) → rank t.kind ≡ k → StopsAt k (sees (t ∷ ts)) → ⊥
ranked_apart k t ts e f = let lt : rank t.kind < k = f in omega (arith, e, lt)

no_tilde : {ts rest : List Token} {p : Span} {c : Covered} → Primary (sign mark.Tilde p ∷ ts) rest c → ⊥
no_tilde p = elim p [ ]

-- where further members begin, the member before them ends
sum_stops : {ts rest : List Token} {us : Tail} → MoreSum ts rest us → StopsAt 9 (sees rest) → StopsAt 10 (sees ts)
sum_stops (no_more_sum {rest = rest}) f = stops_more 9 10 (sees rest) (omega arith) f
sum_stops (one_more_sum {t = t} {o = o} e a m) f = omega (arith, sum_ranked t.kind o e)

conjunction_stops : {ts rest : List Token} {us : Tail} → MoreConjunction ts rest us → StopsAt 7 (sees rest) → StopsAt 8 (sees ts)
conjunction_stops (no_more_conjunction {rest = rest}) f = stops_more 7 8 (sees rest) (omega arith) f
conjunction_stops (one_more_conjunction {t = t} {o = o} e a m) f = omega (arith, conjunction_ranked t.kind o e)

exclusive_stops : {ts rest : List Token} {us : Tail} → MoreExclusive ts rest us → StopsAt 6 (sees rest) → StopsAt 7 (sees ts)
exclusive_stops (no_more_exclusive {rest = rest}) f = stops_more 6 7 (sees rest) (omega arith) f
exclusive_stops (one_more_exclusive {t = t} {o = o} e a m) f = omega (arith, exclusive_ranked t.kind o e)

disjunction_stops : {ts rest : List Token} {us : Tail} → MoreDisjunction ts rest us → StopsAt 5 (sees rest) → StopsAt 6 (sees ts)
disjunction_stops (no_more_disjunction {rest = rest}) f = stops_more 5 6 (sees rest) (omega arith) f
disjunction_stops (one_more_disjunction {t = t} {o = o} e a m) f = omega (arith, disjunction_ranked t.kind o e)

parts_stops : {ts rest : List Token} {es : Expressions} → MoreParts ts rest es → StopsAt 4 (sees rest) → StopsAt 5 (sees ts)
parts_stops (no_more_parts {rest = rest}) f = stops_more 4 5 (sees rest) (omega arith) f
parts_stops (one_more_part a m) f = omega arith

both_stops : {ts rest : List Token} {us : Statements} → MoreBoth ts rest us → StopsAt 4 (sees rest) → StopsAt 5 (sees ts)
both_stops (no_more_both {rest = rest}) f = stops_more 4 5 (sees rest) (omega arith) f
both_stops (one_more_both a m) f = omega arith

seq_stops : {ts rest : List Token} {us : Statements} → MoreSeq ts rest us → StopsAt 3 (sees rest) → StopsAt 4 (sees ts)
seq_stops (no_more_seq {rest = rest}) f = stops_more 3 4 (sees rest) (omega arith) f
seq_stops (one_more_seq a m) f = omega arith

par_stops : {ts rest : List Token} {us : Statements} → MorePar ts rest us → StopsAt 2 (sees rest) → StopsAt 3 (sees ts)
par_stops (no_more_par {rest = rest}) f = stops_more 2 3 (sees rest) (omega arith) f
par_stops (one_more_par a m) f = omega arith

choices_stops : {ts rest : List Token} {bs : Arms} → MoreChoices ts rest bs → StopsAt 1 (sees rest) → StopsAt 2 (sees ts)
choices_stops (no_more_choices {rest = rest}) f = stops_more 1 2 (sees rest) (omega arith) f
choices_stops (one_more_choice a m) f = omega arith

-- two readings of the same tokens; both calls go on with parts of the second one
mutual
  primary_once : {ts r q : List Token} {a b : Covered} → Primary ts r a → Primary ts q b → StopsAt 10 (sees r) → StopsAt 10 (sees q) → Same r a q b
  primary_once a_number a_number f g = (refl, refl)
  primary_once a_name a_name f g = (refl, refl)
  primary_once a_name a_bit f g = absurd (omega (arith, f))
  primary_once a_name a_slice f g = absurd (omega (arith, f))
  primary_once a_bit a_name f g = absurd (omega (arith, g))
  primary_once a_slice a_name f g = absurd (omega (arith, g))
  primary_once a_bit a_bit f g = (refl, refl)
  primary_once a_slice a_slice f g = (refl, refl)
  primary_once (a_join {o = o} p) (a_join x) f g =
      let h = parts_once p x (omega arith) (omega arith) in
      (behind_same h.0, both_same (λ (es : Expressions) (c : Span). join_cover o es c) h.1 (ap here h.0))
  primary_once (in_brackets {o = o} p) (in_brackets x) f g =
      let h = disjunction_once p x (omega arith) (omega arith) in
      (behind_same h.0, both_same (λ (e : Covered) (c : Span). cover e.expression (from_to o c)) h.1 (ap here h.0))

  parts_once : {ts r q : List Token} {es ds : Expressions} → Parts ts r es → Parts ts q ds → StopsAt 4 (sees r) → StopsAt 4 (sees q) → Same r es q ds
  parts_once {r = r} (the_parts {es = es} a n) (the_parts b m) f g =
      let h = disjunction_once a b (parts_stops n f) (parts_stops m g) in
      let w = more_parts_once (subst (λ (x : List Token). MoreParts x r es) h.0 n) m f g in
      (w.0, both_same (λ (c : Covered) (us : Expressions). and_part c.expression us) h.1 w.1)

  more_parts_once : {ts r q : List Token} {es ds : Expressions} → MoreParts ts r es → MoreParts ts q ds → StopsAt 4 (sees r) → StopsAt 4 (sees q) →
      Same r es q ds
  more_parts_once no_more_parts no_more_parts f g = (refl, refl)
  more_parts_once no_more_parts (one_more_part b m) f g = absurd (omega (arith, f))
  more_parts_once (one_more_part a n) no_more_parts f g = absurd (omega (arith, g))
  more_parts_once {r = r} (one_more_part {es = es} a n) (one_more_part b m) f g =
      let h = disjunction_once a b (parts_stops n f) (parts_stops m g) in
      let w = more_parts_once (subst (λ (x : List Token). MoreParts x r es) h.0 n) m f g in
      (w.0, both_same (λ (c : Covered) (us : Expressions). and_part c.expression us) h.1 w.1)

  negated_once : {ts r q : List Token} {a b : Covered} → Negated ts r a → Negated ts q b → StopsAt 10 (sees r) → StopsAt 10 (sees q) → Same r a q b
  negated_once (plain p) (plain x) f g = primary_once p x f g
  negated_once (plain p) (negated x) f g = absurd (no_tilde p)
  negated_once (negated p) (plain x) f g = absurd (no_tilde x)
  negated_once (negated {t = t} p) (negated x) f g =
      let h = primary_once p x f g in
      (h.0, ap (λ (c : Covered). cover (negation c.expression (from_to t c.at)) (from_to t c.at)) h.1)

  sum_once : {ts r q : List Token} {a b : Covered} → Sum ts r a → Sum ts q b → StopsAt 9 (sees r) → StopsAt 9 (sees q) → Same r a q b
  sum_once {r = r} (the_sum {us = us} a n) (the_sum b m) f g =
      let h = negated_once a b (sum_stops n f) (sum_stops m g) in
      let w = more_sum_once (subst (λ (x : List Token). MoreSum x r us) h.0 n) m f g in
      (w.0, both_same (λ (c : Covered) (us : Tail). chain_of c us) h.1 w.1)

  more_sum_once : {ts r q : List Token} {us vs : Tail} → MoreSum ts r us → MoreSum ts q vs → StopsAt 9 (sees r) → StopsAt 9 (sees q) → Same r us q vs
  more_sum_once no_more_sum no_more_sum f g = (refl, refl)
  more_sum_once no_more_sum (one_more_sum {ts = ts} {t = t} {o = o} e b m) f g = absurd (ranked_apart 9 t ts (sum_ranked t.kind o e) f)
  more_sum_once (one_more_sum {ts = ts} {t = t} {o = o} e a n) no_more_sum f g = absurd (ranked_apart 9 t ts (sum_ranked t.kind o e) g)
  more_sum_once {r = r} (one_more_sum {t = t} {us = us} e a n) (one_more_sum i b m) f g =
      let h = negated_once a b (sum_stops n f) (sum_stops m g) in
      let w = more_sum_once (subst (λ (x : List Token). MoreSum x r us) h.0 n) m f g in
      (w.0, longer_same (one_value sum_of t.kind e i) h.1 w.1)

  comparison_once : {ts r q : List Token} {a b : Covered} → Comparison ts r a → Comparison ts q b → StopsAt 8 (sees r) → StopsAt 8 (sees q) → Same r a q b
  comparison_once {r = r} {q = q} (not_compared a) (not_compared b) f g =
      sum_once a b (stops_more 8 9 (sees r) (omega arith) f) (stops_more 8 9 (sees q) (omega arith) g)
  comparison_once {r = r} (not_compared a) (compared {mid = mid} {t = t} {o = o} b e y) f g =
      let ranked = compared_ranked t.kind o e in
      let h = sum_once a b (stops_more 8 9 (sees r) (omega arith) f) (omega (arith, ranked)) in
      absurd (ranked_apart 8 t mid ranked (subst (λ (x : List Token). StopsAt 8 (sees x)) h.0 f))
  comparison_once {q = q} (compared {mid = mid} {t = t} {o = o} a e x) (not_compared b) f g =
      let ranked = compared_ranked t.kind o e in
      let h = sum_once a b (omega (arith, ranked)) (stops_more 8 9 (sees q) (omega arith) g) in
      absurd (ranked_apart 8 t mid ranked (subst (λ (x : List Token). StopsAt 8 (sees x)) (sym h.0) g))
  comparison_once {r = r} {q = q} (compared {t = t} {o = o} {d = d} a e x) (compared {t = u} {o = p} b i y) f g =
      let h = sum_once a b (omega (arith, compared_ranked t.kind o e)) (omega (arith, compared_ranked u.kind p i)) in
      let w = sum_once (subst (λ (l : List Token). Sum l r d) (behind_same h.0) x) y (stops_more 8 9 (sees r) (omega arith) f)
      (stops_more 8 9 (sees q) (omega arith) g) in
      let same = one_value comparison_of u.kind (subst (λ (k : TokenKind). comparison_of k ≡ Some o) (kind_same h.0) e) i in
      (w.0, both_same (λ (c : Covered) (us : Tail). chain_of c us) h.1 (longer_same {us = no_tail} {vs = no_tail} same w.1 refl))

  conjunction_once : {ts r q : List Token} {a b : Covered} → Conjunction ts r a → Conjunction ts q b → StopsAt 7 (sees r) → StopsAt 7 (sees q) → Same r a q b
  conjunction_once {r = r} (the_conjunction {us = us} a n) (the_conjunction b m) f g =
      let h = comparison_once a b (conjunction_stops n f) (conjunction_stops m g) in
      let w = more_conjunction_once (subst (λ (x : List Token). MoreConjunction x r us) h.0 n) m f g in
      (w.0, both_same (λ (c : Covered) (us : Tail). chain_of c us) h.1 w.1)

  more_conjunction_once : {ts r q : List Token} {us vs : Tail} → MoreConjunction ts r us → MoreConjunction ts q vs → StopsAt 7 (sees r) → StopsAt 7 (sees q) →
      Same r us q vs
  more_conjunction_once no_more_conjunction no_more_conjunction f g = (refl, refl)
  more_conjunction_once no_more_conjunction (one_more_conjunction {ts = ts} {t = t} {o = o} e b m) f g =
      absurd (ranked_apart 7 t ts (conjunction_ranked t.kind o e) f)
  more_conjunction_once (one_more_conjunction {ts = ts} {t = t} {o = o} e a n) no_more_conjunction f g =
      absurd (ranked_apart 7 t ts (conjunction_ranked t.kind o e) g)
  more_conjunction_once {r = r} (one_more_conjunction {t = t} {us = us} e a n) (one_more_conjunction i b m) f g =
      let h = comparison_once a b (conjunction_stops n f) (conjunction_stops m g) in
      let w = more_conjunction_once (subst (λ (x : List Token). MoreConjunction x r us) h.0 n) m f g in
      (w.0, longer_same (one_value and_of t.kind e i) h.1 w.1)

  exclusive_once : {ts r q : List Token} {a b : Covered} → Exclusive ts r a → Exclusive ts q b → StopsAt 6 (sees r) → StopsAt 6 (sees q) → Same r a q b
  exclusive_once {r = r} (the_exclusive {us = us} a n) (the_exclusive b m) f g =
      let h = conjunction_once a b (exclusive_stops n f) (exclusive_stops m g) in
      let w = more_exclusive_once (subst (λ (x : List Token). MoreExclusive x r us) h.0 n) m f g in
      (w.0, both_same (λ (c : Covered) (us : Tail). chain_of c us) h.1 w.1)

  more_exclusive_once : {ts r q : List Token} {us vs : Tail} → MoreExclusive ts r us → MoreExclusive ts q vs → StopsAt 6 (sees r) → StopsAt 6 (sees q) →
      Same r us q vs
  more_exclusive_once no_more_exclusive no_more_exclusive f g = (refl, refl)
  more_exclusive_once no_more_exclusive (one_more_exclusive {ts = ts} {t = t} {o = o} e b m) f g = absurd (ranked_apart 6 t ts (exclusive_ranked t.kind o e) f)
  more_exclusive_once (one_more_exclusive {ts = ts} {t = t} {o = o} e a n) no_more_exclusive f g = absurd (ranked_apart 6 t ts (exclusive_ranked t.kind o e) g)
  more_exclusive_once {r = r} (one_more_exclusive {t = t} {us = us} e a n) (one_more_exclusive i b m) f g =
      let h = conjunction_once a b (exclusive_stops n f) (exclusive_stops m g) in
      let w = more_exclusive_once (subst (λ (x : List Token). MoreExclusive x r us) h.0 n) m f g in
      (w.0, longer_same (one_value xor_of t.kind e i) h.1 w.1)

  disjunction_once : {ts r q : List Token} {a b : Covered} → Disjunction ts r a → Disjunction ts q b → StopsAt 5 (sees r) → StopsAt 5 (sees q) → Same r a q b
  disjunction_once {r = r} (the_disjunction {us = us} a n) (the_disjunction b m) f g =
      let h = exclusive_once a b (disjunction_stops n f) (disjunction_stops m g) in
      let w = more_disjunction_once (subst (λ (x : List Token). MoreDisjunction x r us) h.0 n) m f g in
      (w.0, both_same (λ (c : Covered) (us : Tail). chain_of c us) h.1 w.1)

  more_disjunction_once : {ts r q : List Token} {us vs : Tail} → MoreDisjunction ts r us → MoreDisjunction ts q vs → StopsAt 5 (sees r) → StopsAt 5 (sees q) →
      Same r us q vs
  more_disjunction_once no_more_disjunction no_more_disjunction f g = (refl, refl)
  more_disjunction_once no_more_disjunction (one_more_disjunction {ts = ts} {t = t} {o = o} e b m) f g =
      absurd (ranked_apart 5 t ts (disjunction_ranked t.kind o e) f)
  more_disjunction_once (one_more_disjunction {ts = ts} {t = t} {o = o} e a n) no_more_disjunction f g =
      absurd (ranked_apart 5 t ts (disjunction_ranked t.kind o e) g)
  more_disjunction_once {r = r} (one_more_disjunction {t = t} {us = us} e a n) (one_more_disjunction i b m) f g =
      let h = exclusive_once a b (disjunction_stops n f) (disjunction_stops m g) in
      let w = more_disjunction_once (subst (λ (x : List Token). MoreDisjunction x r us) h.0 n) m f g in
      (w.0, longer_same (one_value or_operator t.kind e i) h.1 w.1)

mutual
  atom_once : {ts r q : List Token} {a b : Statement} → Atom ts r a → Atom ts q b → StopsAt 5 (sees r) → StopsAt 5 (sees q) → Same r a q b
  atom_once a_skip a_skip f g = (refl, refl)
  atom_once (an_assignment {n = n} {s = s} p) (an_assignment x) f g =
      let h = disjunction_once p x f g in
      (h.0, ap (λ (c : Covered). assigns (named n s) c.expression) h.1)
  atom_once (a_send {n = n} {s = s} p) (a_send x) f g =
      let h = disjunction_once p x f g in
      (h.0, ap (λ (c : Covered). sends (named n s) c.expression) h.1)
  atom_once a_receive a_receive f g = (refl, refl)
  atom_once a_call a_call f g = (refl, refl)
  atom_once (in_round p) (in_round x) f g =
      let h = par_once p x (omega arith) (omega arith) in
      (behind_same h.0, h.1)
  atom_once (a_loop p) (a_loop x) f g =
      let h = par_once p x (omega arith) (omega arith) in
      (behind_same h.0, ap repeats h.1)
  atom_once (a_loop p) (a_guarded_loop x) f g = absurd (let e : true ≡ false = sym (par_begins p) ∙ choices_begin x in cc e)
  atom_once (a_guarded_loop p) (a_loop x) f g = absurd (let e : true ≡ false = sym (par_begins x) ∙ choices_begin p in cc e)
  atom_once (a_guarded_loop p) (a_guarded_loop x) f g =
      let h = choices_once p x (omega arith) (omega arith) in
      (behind_same h.0, ap (λ (bs : Arms). selects true bs) h.1)
  atom_once (a_selection p) (a_selection x) f g =
      let h = choices_once p x (omega arith) (omega arith) in
      (behind_same h.0, ap (λ (bs : Arms). selects false bs) h.1)

  branch_once : {ts r q : List Token} {a b : Guarded} → GuardedCommand ts r a → GuardedCommand ts q b → StopsAt 2 (sees r) → StopsAt 2 (sees q) → Same r a q b
  branch_once {r = r} (the_branch {t = t} p o) (the_branch x y) f g =
      let h = disjunction_once p x (omega arith) (omega arith) in
      let w = par_once (subst (λ (l : List Token). Par l r t) (behind_same h.0) o) y f g in
      (w.0, both_same (λ (c : Covered) (u : Statement). guarded c.expression u) h.1 w.1)

  choices_once : {ts r q : List Token} {bs cs : Arms} → GuardedCommands ts r bs → GuardedCommands ts q cs →
      StopsAt 1 (sees r) → StopsAt 1 (sees q) → Same r bs q cs
  choices_once {r = r} (the_choices {bs = bs} a n) (the_choices b m) f g =
      let h = branch_once a b (choices_stops n f) (choices_stops m g) in
      let w = more_choices_once (subst (λ (x : List Token). MoreChoices x r bs) h.0 n) m f g in
      (w.0, both_same (λ (c : Guarded) (ds : Arms). and_arm c.guard c.body ds) h.1 w.1)

  more_choices_once : {ts r q : List Token} {bs cs : Arms} → MoreChoices ts r bs → MoreChoices ts q cs → StopsAt 1 (sees r) → StopsAt 1 (sees q) →
      Same r bs q cs
  more_choices_once no_more_choices no_more_choices f g = (refl, refl)
  more_choices_once no_more_choices (one_more_choice b m) f g = absurd (omega (arith, f))
  more_choices_once (one_more_choice a n) no_more_choices f g = absurd (omega (arith, g))
  more_choices_once {r = r} (one_more_choice {bs = bs} a n) (one_more_choice b m) f g =
      let h = branch_once a b (choices_stops n f) (choices_stops m g) in
      let w = more_choices_once (subst (λ (x : List Token). MoreChoices x r bs) h.0 n) m f g in
      (w.0, both_same (λ (c : Guarded) (ds : Arms). and_arm c.guard c.body ds) h.1 w.1)

  both_once : {ts r q : List Token} {a b : Statement} → Both ts r a → Both ts q b → StopsAt 4 (sees r) → StopsAt 4 (sees q) → Same r a q b
  both_once {r = r} (the_both {us = us} a n) (the_both b m) f g =
      let h = atom_once a b (both_stops n f) (both_stops m g) in
      let w = more_both_once (subst (λ (x : List Token). MoreBoth x r us) h.0 n) m f g in
      (w.0, both_same parallel_of h.1 w.1)

  more_both_once : {ts r q : List Token} {us vs : Statements} → MoreBoth ts r us → MoreBoth ts q vs → StopsAt 4 (sees r) → StopsAt 4 (sees q) → Same r us q vs
  more_both_once no_more_both no_more_both f g = (refl, refl)
  more_both_once no_more_both (one_more_both b m) f g = absurd (omega (arith, f))
  more_both_once (one_more_both a n) no_more_both f g = absurd (omega (arith, g))
  more_both_once {r = r} (one_more_both {us = us} a n) (one_more_both b m) f g =
      let h = atom_once a b (both_stops n f) (both_stops m g) in
      let w = more_both_once (subst (λ (x : List Token). MoreBoth x r us) h.0 n) m f g in
      (w.0, both_same and_member h.1 w.1)

  seq_once : {ts r q : List Token} {a b : Statement} → Seq ts r a → Seq ts q b → StopsAt 3 (sees r) → StopsAt 3 (sees q) → Same r a q b
  seq_once {r = r} (the_seq {us = us} a n) (the_seq b m) f g =
      let h = both_once a b (seq_stops n f) (seq_stops m g) in
      let w = more_seq_once (subst (λ (x : List Token). MoreSeq x r us) h.0 n) m f g in
      (w.0, both_same sequence_of h.1 w.1)

  more_seq_once : {ts r q : List Token} {us vs : Statements} → MoreSeq ts r us → MoreSeq ts q vs → StopsAt 3 (sees r) → StopsAt 3 (sees q) → Same r us q vs
  more_seq_once no_more_seq no_more_seq f g = (refl, refl)
  more_seq_once no_more_seq (one_more_seq b m) f g = absurd (omega (arith, f))
  more_seq_once (one_more_seq a n) no_more_seq f g = absurd (omega (arith, g))
  more_seq_once {r = r} (one_more_seq {us = us} a n) (one_more_seq b m) f g =
      let h = both_once a b (seq_stops n f) (seq_stops m g) in
      let w = more_seq_once (subst (λ (x : List Token). MoreSeq x r us) h.0 n) m f g in
      (w.0, both_same and_member h.1 w.1)

  par_once : {ts r q : List Token} {a b : Statement} → Par ts r a → Par ts q b → StopsAt 2 (sees r) → StopsAt 2 (sees q) → Same r a q b
  par_once {r = r} (the_par {us = us} a n) (the_par b m) f g =
      let h = seq_once a b (par_stops n f) (par_stops m g) in
      let w = more_par_once (subst (λ (x : List Token). MorePar x r us) h.0 n) m f g in
      (w.0, both_same parallel_of h.1 w.1)

  more_par_once : {ts r q : List Token} {us vs : Statements} → MorePar ts r us → MorePar ts q vs → StopsAt 2 (sees r) → StopsAt 2 (sees q) → Same r us q vs
  more_par_once no_more_par no_more_par f g = (refl, refl)
  more_par_once no_more_par (one_more_par b m) f g = absurd (omega (arith, f))
  more_par_once (one_more_par a n) no_more_par f g = absurd (omega (arith, g))
  more_par_once {r = r} (one_more_par {us = us} a n) (one_more_par b m) f g =
      let h = seq_once a b (par_stops n f) (par_stops m g) in
      let w = more_par_once (subst (λ (x : List Token). MorePar x r us) h.0 n) m f g in
      (w.0, both_same and_member h.1 w.1)

declaration_once : {ts r q : List Token} {a b : Item} → Declaration ts r a → Declaration ts q b → Same r a q b
declaration_once (a_channel {t = t} {n = n} {w = w} {s = s} {p = p} e) (a_channel i) =
    (refl, ap (λ (k : DeclKind). valued (unset k (named n s) w p)) (one_value kind_of_channel t.kind e i))
declaration_once (a_channel e) a_variable = absurd (cc e)
declaration_once a_variable (a_channel i) = absurd (cc i)
declaration_once a_variable a_variable = (refl, refl)
declaration_once a_variable_with_first a_variable_with_first = (refl, refl)
declaration_once (a_procedure {n = n} {s = s} p) (a_procedure x) =
    let h = atom_once p x (omega arith) (omega arith) in
    (behind_same h.0, ap (λ (t : Statement). proc_of (named n s) t) h.1)

declares_nothing : {ts rest : List Token} {d : Item} → Undeclared (sees ts) → Declaration ts rest d → ⊥
declares_nothing {ts} {rest} {d} u x = let bad = declaration_bad ts u in bad.stuck ts rest d refl tt (subst (λ (l : List Token). Declaration l rest d) bad.is x)

declarations_once : {ts r q : List Token} {d c : Declared} → Declarations ts r d → Declarations ts q c → Undeclared (sees r) → Undeclared (sees q) →
    Same r d q c
declarations_once no_declaration no_declaration f g = (refl, refl)
declarations_once no_declaration (one_more_declaration b m) f g = absurd (declares_nothing f b)
declarations_once (one_more_declaration a n) no_declaration f g = absurd (declares_nothing g a)
declarations_once {r = r} (one_more_declaration {more = more} a n) (one_more_declaration b m) f g =
    let h = declaration_once a b in
    let w = declarations_once (subst (λ (x : List Token). Declarations x r more) h.0 n) m f g in
    (w.0, both_same and_item h.1 w.1)

programs_once : {ts r q : List Token} {a b : ProgramTree} → Programs ts r a → Programs ts q b → a ≡ b
programs_once {r = r} (the_program {t = t} {e = e} d p) (the_program c x) =
    let h = declarations_once d c refl refl in
    let w = par_once (subst (λ (l : List Token). Par l (word key.End e ∷ r) t) (behind_same h.0) p) x (omega arith) (omega arith) in
    both_same whole_of h.1 w.1

pub derives_once : {ts : List Token} {p q : ProgramTree} → Derives ts p → Derives ts q → p ≡ q
derives_once d c = programs_once d c

pub program_once : (text : List ℕ) (p q : ProgramTree) → Reads text p → Reads text q → p ≡ q
program_once text p q a b =
    let e = one_cut text a.tokens b.tokens a.cut b.cut in
    derives_once (subst (λ (ts : List Token). Derives ts p) e a.derives) b.derives
