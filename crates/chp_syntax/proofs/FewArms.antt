-- Trees with few arms are those of tokens in which no seventeenth arm begins.
use Rattle.std.proofs.Common.{◌≡◌, ℕ, suc, ◌+◌, ◌<◌, ◌≤◌, Bool, true, false, List, [], ◌∷◌, ◌++◌, length, get_or, take, drop, Some, refl, sym, ap, ◌∙◌, arith}
use Rattle.std.specs.Prelude.{◌&&◌, nat_le, not}
use Rattle.std.specs.List.{list_all}
use Rattle.std.proofs.lemmas.List.{take-append-drop, drop_more, take_more}
use Rattle.std.proofs.lemmas.Bool.Decides.{nat_tests}
use Rattle.std.proofs.lemmas.Bool.{cases_lt}
use Rattle.std.proofs.Common.{inl, inr}
use Rattle.chp_base.specs.declared.span.Span.{Span}
use Rattle.chp_syntax.specs.declared.token.Token.{Token}
use Rattle.chp_syntax.specs.declared.token.TokenKind.{TokenKind}
use Rattle.chp_syntax.specs.declared.token.TokenKind.TheVariants.{Word, Ident, Number, Sign}
use Rattle.chp_syntax.specs.declared.token.Mark.TheVariants as mark
use Rattle.chp_syntax.specs.declared.tree.DeclKind.{DeclKind}
use Rattle.chp_syntax.specs.Trees.{Expressions, Statement, Statements, no_members, and_member, Arms, Procedure, ProgramTree}
use Rattle.chp_syntax.specs.Grammar.{sign, name, numeral, kind_of_channel, Covered, Tail, Guarded, parallel_of, sequence_of, Primary, a_number, a_name, a_bit, a_slice, a_join, in_brackets, Parts, the_parts, MoreParts, no_more_parts, one_more_part, Negated, plain, negated, Sum, the_sum, MoreSum, no_more_sum, one_more_sum, Comparison, not_compared, compared, Conjunction, the_conjunction, MoreConjunction, no_more_conjunction, one_more_conjunction, Exclusive, the_exclusive, MoreExclusive, no_more_exclusive, one_more_exclusive, Disjunction, the_disjunction, MoreDisjunction, no_more_disjunction, one_more_disjunction, Atom, a_skip, an_assignment, a_send, a_receive, a_call, in_round, a_loop, a_guarded_loop, a_selection, GuardedCommand, the_branch, GuardedCommands, the_choices, MoreChoices, no_more_choices, one_more_choice, Both, the_both, MoreBoth, no_more_both, one_more_both, Seq, the_seq, MoreSeq, no_more_seq, one_more_seq, Par, the_par, MorePar, no_more_par, one_more_par, Declared, Item, valued, defined, and_item, Declaration, a_channel, a_variable, a_variable_with_first, a_procedure, Declarations, no_declaration, one_more_declaration, the_program, Derives}
use Rattle.chp_syntax.specs.Reading.{few_arms, few_arms_each, few_arms_in, arm_count}
use Rattle.chp_syntax.specs.Parts.{rank}
use Rattle.chp_syntax.specs.Seventeenth.{bar_counted, counted, counts, is_full, is_seventeenth, is_narrow, IsSeventeenth}
use Rattle.chp_syntax.proofs.Expressions.{sum_ranked, conjunction_ranked, exclusive_ranked, disjunction_ranked, compared_ranked}

-- operators count nothing
ranked_counted : (j : TokenKind) (ns : List ℕ) → 5 ≤ rank j → rank j ≤ 9 → counted ns j ≡ ns
ranked_counted (Sign mark.OpenRound) ns a b = absurd (omega (arith, a))
ranked_counted (Sign mark.OpenSquare) ns a b = absurd (omega (arith, b))
ranked_counted (Sign mark.OpenCurly) ns a b = absurd (omega (arith, a))
ranked_counted (Sign mark.CloseRound) ns a b = absurd (omega (arith, a))
ranked_counted (Sign mark.CloseSquare) ns a b = absurd (omega (arith, a))
ranked_counted (Sign mark.CloseCurly) ns a b = absurd (omega (arith, a))
ranked_counted (Sign mark.Choice) ns a b = absurd (omega (arith, a))
ranked_counted (Sign _) ns a b = refl
ranked_counted (Word w) ns a b = refl
ranked_counted (Ident w) ns a b = refl
ranked_counted (Number w) ns a b = refl

ranked_passes : (j : TokenKind) (ns : List ℕ) → 5 ≤ rank j → is_seventeenth ns j ≡ false
ranked_passes (Sign mark.Choice) ns a = absurd (omega (arith, a))
ranked_passes (Sign _) ns a = refl
ranked_passes (Word w) ns a = refl
ranked_passes (Ident w) ns a = refl
ranked_passes (Number w) ns a = refl

over_ranked : (ns : List ℕ) (t : Token) (ts : List Token) (k : ℕ) → 5 ≤ k → k ≤ 9 → rank t.kind ≡ k → is_narrow ns (t ∷ ts) ≡ is_narrow ns ts
over_ranked ns t ts k a b e =
    ap (λ (x : Bool). not x && is_narrow (counted ns t.kind) ts) (ranked_passes t.kind ns (omega (arith, a, e)))
    ∙ ap (λ (ms : List ℕ). is_narrow ms ts) (ranked_counted t.kind ns (omega (arith, a, e)) (omega (arith, b, e)))

mutual
  primary_narrow : {ts rest : List Token} {c : Covered} → Primary ts rest c → (ns : List ℕ) → is_narrow ns ts ≡ is_narrow ns rest
  primary_narrow a_number ns = refl
  primary_narrow a_name ns = refl
  primary_narrow a_bit ns = refl
  primary_narrow a_slice ns = refl
  primary_narrow (a_join p) ns = parts_narrow p (0 ∷ ns)
  primary_narrow (in_brackets p) ns = disjunction_narrow p (0 ∷ ns)

  parts_narrow : {ts rest : List Token} {es : Expressions} → Parts ts rest es → (ns : List ℕ) → is_narrow ns ts ≡ is_narrow ns rest
  parts_narrow (the_parts d m) ns = disjunction_narrow d ns ∙ more_parts_narrow m ns

  more_parts_narrow : {ts rest : List Token} {es : Expressions} → MoreParts ts rest es → (ns : List ℕ) → is_narrow ns ts ≡ is_narrow ns rest
  more_parts_narrow no_more_parts ns = refl
  more_parts_narrow (one_more_part d m) ns = disjunction_narrow d ns ∙ more_parts_narrow m ns

  negated_narrow : {ts rest : List Token} {c : Covered} → Negated ts rest c → (ns : List ℕ) → is_narrow ns ts ≡ is_narrow ns rest
  negated_narrow (plain p) ns = primary_narrow p ns
  negated_narrow (negated p) ns = primary_narrow p ns

  sum_narrow : {ts rest : List Token} {c : Covered} → Sum ts rest c → (ns : List ℕ) → is_narrow ns ts ≡ is_narrow ns rest
  sum_narrow (the_sum p m) ns = negated_narrow p ns ∙ more_sum_narrow m ns

  more_sum_narrow : {ts rest : List Token} {us : Tail} → MoreSum ts rest us → (ns : List ℕ) → is_narrow ns ts ≡ is_narrow ns rest
  more_sum_narrow no_more_sum ns = refl
  more_sum_narrow (one_more_sum {ts = ts} {t = t} {o = o} e p m) ns = over_ranked ns t ts 9 (omega arith) (omega arith) (sum_ranked t.kind o e)
      ∙ (negated_narrow p ns ∙ more_sum_narrow m ns)

  conjunction_narrow : {ts rest : List Token} {c : Covered} → Conjunction ts rest c → (ns : List ℕ) → is_narrow ns ts ≡ is_narrow ns rest
  conjunction_narrow (the_conjunction p m) ns = comparison_narrow p ns ∙ more_conjunction_narrow m ns

  more_conjunction_narrow : {ts rest : List Token} {us : Tail} → MoreConjunction ts rest us → (ns : List ℕ) → is_narrow ns ts ≡ is_narrow ns rest
  more_conjunction_narrow no_more_conjunction ns = refl
  more_conjunction_narrow (one_more_conjunction {ts = ts} {t = t} {o = o} e p m) ns =
      over_ranked ns t ts 7 (omega arith) (omega arith) (conjunction_ranked t.kind o e) ∙ (comparison_narrow p ns ∙ more_conjunction_narrow m ns)

  exclusive_narrow : {ts rest : List Token} {c : Covered} → Exclusive ts rest c → (ns : List ℕ) → is_narrow ns ts ≡ is_narrow ns rest
  exclusive_narrow (the_exclusive p m) ns = conjunction_narrow p ns ∙ more_exclusive_narrow m ns

  more_exclusive_narrow : {ts rest : List Token} {us : Tail} → MoreExclusive ts rest us → (ns : List ℕ) → is_narrow ns ts ≡ is_narrow ns rest
  more_exclusive_narrow no_more_exclusive ns = refl
  more_exclusive_narrow (one_more_exclusive {ts = ts} {t = t} {o = o} e p m) ns =
      over_ranked ns t ts 6 (omega arith) (omega arith) (exclusive_ranked t.kind o e) ∙ (conjunction_narrow p ns ∙ more_exclusive_narrow m ns)

  disjunction_narrow : {ts rest : List Token} {c : Covered} → Disjunction ts rest c → (ns : List ℕ) → is_narrow ns ts ≡ is_narrow ns rest
  disjunction_narrow (the_disjunction p m) ns = exclusive_narrow p ns ∙ more_disjunction_narrow m ns

  more_disjunction_narrow : {ts rest : List Token} {us : Tail} → MoreDisjunction ts rest us → (ns : List ℕ) → is_narrow ns ts ≡ is_narrow ns rest
  more_disjunction_narrow no_more_disjunction ns = refl
  more_disjunction_narrow (one_more_disjunction {ts = ts} {t = t} {o = o} e p m) ns =
      over_ranked ns t ts 5 (omega arith) (omega arith) (disjunction_ranked t.kind o e) ∙ (exclusive_narrow p ns ∙ more_disjunction_narrow m ns)

  comparison_narrow : {ts rest : List Token} {c : Covered} → Comparison ts rest c → (ns : List ℕ) → is_narrow ns ts ≡ is_narrow ns rest
  comparison_narrow (not_compared p) ns = sum_narrow p ns
  comparison_narrow (compared {mid = mid} {t = t} {o = o} p e q) ns =
      sum_narrow p ns ∙ (over_ranked ns t mid 8 (omega arith) (omega arith) (compared_ranked t.kind o e) ∙ sum_narrow q ns)

and_assoc : (a b c : Bool) → ((a && b) && c) ≡ (a && (b && c))
and_assoc true b c = refl
and_assoc false b c = refl

and_true : (a : Bool) → (a && true) ≡ a
and_true true = refl
and_true false = refl

and_swap : (a b c z : Bool) → (a && ((b && c) && z)) ≡ ((b && (a && c)) && z)
and_swap true b c z = refl
and_swap false true c z = refl
and_swap false false c z = refl

few_parallel : (t : Statement) (us : Statements) → (few_arms t && few_arms_each us) ≡ few_arms (parallel_of t us)
few_parallel t no_members = and_true (few_arms t)
few_parallel t (and_member u us) = refl

few_sequence : (t : Statement) (us : Statements) → (few_arms t && few_arms_each us) ≡ few_arms (sequence_of t us)
few_sequence t no_members = and_true (few_arms t)
few_sequence t (and_member u us) = refl

-- a member, and those behind it
both_parts : (a b c z x y : Bool) → x ≡ (a && y) → y ≡ (b && z) → (a && b) ≡ c → x ≡ (c && z)
both_parts a b c z x y h k e = h ∙ (ap (λ (v : Bool). a && v) k ∙ (sym (and_assoc a b z) ∙ ap (λ (v : Bool). v && z) e))

le_zero : (c : ℕ) → nat_le (0 + c) 15 ≡ nat_le (suc c) 16
le_zero c = grind (arith, nat_tests)

le_sum : (n c : ℕ) → nat_le (suc n + c) 15 ≡ nat_le (n + suc c) 15
le_sum n c = let e : suc n + c ≡ n + suc c = omega arith in ap (λ m. nat_le m 15) e

le_here : (n : ℕ) → n ≤ 15 → nat_le (n + 0) 15 ≡ true
le_here n h = grind (arith, nat_tests)

le_full : (n : ℕ) → 15 ≤ n → nat_le 15 n ≡ true
le_full n h = grind (arith, nat_tests)

le_over : (n c : ℕ) → 15 ≤ n → nat_le (n + suc c) 15 ≡ false
le_over n c h = grind (arith, nat_tests)

le_short : (n : ℕ) → n < 15 → nat_le 15 n ≡ false
le_short n h = grind (arith, nat_tests)

-- one arm more, or one too many
one_arm : (n c : ℕ) (t f z x y : Bool) → n ≤ 15 → x ≡ (not (nat_le 15 n) && y) → (n < 15 → y ≡ (t && ((nat_le (suc n + c) 15 && f) && z))) →
    x ≡ ((nat_le (n + suc c) 15 && (t && f)) && z)
one_arm n c t f z x y le h k = elim (cases_lt n 15) [ inl lt ↦ few lt | inr ge ↦ many ge ]
  where
    few : n < 15 → x ≡ ((nat_le (n + suc c) 15 && (t && f)) && z)
    few lt = h ∙ (ap (λ (v : Bool). not v && y) (le_short n lt)
        ∙ (k lt ∙ (and_swap t (nat_le (suc n + c) 15) f z ∙ ap (λ (v : Bool). (v && (t && f)) && z) (le_sum n c))))

    many : 15 ≤ n → x ≡ ((nat_le (n + suc c) 15 && (t && f)) && z)
    many ge = h ∙ (ap (λ (v : Bool). not v && y) (le_full n ge) ∙ sym (ap (λ (v : Bool). (v && (t && f)) && z) (le_over n c ge)))

mutual
  atom_narrow : {ts rest : List Token} {t : Statement} → Atom ts rest t → (ns : List ℕ) → is_narrow ns ts ≡ (few_arms t && is_narrow ns rest)
  atom_narrow a_skip ns = refl
  atom_narrow (an_assignment d) ns = disjunction_narrow d ns
  atom_narrow (a_send d) ns = disjunction_narrow d ns
  atom_narrow a_receive ns = refl
  atom_narrow a_call ns = refl
  atom_narrow (in_round p) ns = par_narrow p (0 ∷ ns)
  atom_narrow (a_loop p) ns = par_narrow p (0 ∷ ns)
  atom_narrow (a_guarded_loop {rest = rest} p) ns = choices_narrow p ns (is_narrow ns rest) (λ c. refl)
  atom_narrow (a_selection {rest = rest} p) ns = choices_narrow p ns (is_narrow ns rest) (λ c. refl)

  branch_narrow : {ts rest : List Token} {b : Guarded} → GuardedCommand ts rest b → (ns : List ℕ) → is_narrow ns ts ≡ (few_arms b.body && is_narrow ns rest)
  branch_narrow (the_branch d p) ns = disjunction_narrow d ns ∙ par_narrow p ns

  choices_narrow : {ts rest : List Token} {bs : Arms} → GuardedCommands ts rest bs → (ns : List ℕ) (z : Bool) → ((c : ℕ) → is_narrow (c ∷ ns) rest ≡ z) →
      is_narrow (0 ∷ ns) ts ≡ ((nat_le (arm_count bs) 16 && few_arms_in bs) && z)
  choices_narrow (the_choices {t = t} {bs = bs} b m) ns z h =
      branch_narrow b (0 ∷ ns) ∙ (ap (λ (v : Bool). few_arms t && v) (more_choices_narrow m 0 ns z h (omega arith))
      ∙ (and_swap (few_arms t) (nat_le (0 + arm_count bs) 15) (few_arms_in bs) z
      ∙ ap (λ (v : Bool). (v && (few_arms t && few_arms_in bs)) && z) (le_zero (arm_count bs))))

  more_choices_narrow : {ts rest : List Token} {bs : Arms} → MoreChoices ts rest bs → (n : ℕ) (ns : List ℕ) (z : Bool) →
      ((c : ℕ) → is_narrow (c ∷ ns) rest ≡ z) → n ≤ 15 → is_narrow (n ∷ ns) ts ≡ ((nat_le (n + arm_count bs) 15 && few_arms_in bs) && z)
  more_choices_narrow no_more_choices n ns z h le = h n ∙ sym (ap (λ (v : Bool). (v && true) && z) (le_here n le))
  more_choices_narrow (one_more_choice {ts = ts} {mid = mid} {t = t} {bs = bs} b m) n ns z h le =
      one_arm n (arm_count bs) (few_arms t) (few_arms_in bs) z _ (is_narrow (suc n ∷ ns) ts) le refl
      (λ lt. branch_narrow b (suc n ∷ ns) ∙ ap (λ (v : Bool). few_arms t && v) (more_choices_narrow m (suc n) ns z h (omega (arith, lt))))

  both_narrow : {ts rest : List Token} {t : Statement} → Both ts rest t → (ns : List ℕ) → is_narrow ns ts ≡ (few_arms t && is_narrow ns rest)
  both_narrow (the_both {mid = mid} {rest = rest} {t = t} {us = us} a m) ns =
      both_parts (few_arms t) (few_arms_each us) (few_arms (parallel_of t us)) (is_narrow ns rest) _ (is_narrow ns mid) (atom_narrow a ns)
      (more_both_narrow m ns) (few_parallel t us)

  more_both_narrow : {ts rest : List Token} {us : Statements} → MoreBoth ts rest us → (ns : List ℕ) → is_narrow ns ts ≡ (few_arms_each us && is_narrow ns rest)
  more_both_narrow no_more_both ns = refl
  more_both_narrow (one_more_both {mid = mid} {rest = rest} {t = t} {us = us} a m) ns =
      both_parts (few_arms t) (few_arms_each us) _ (is_narrow ns rest) _ (is_narrow ns mid) (atom_narrow a ns) (more_both_narrow m ns) refl

  seq_narrow : {ts rest : List Token} {t : Statement} → Seq ts rest t → (ns : List ℕ) → is_narrow ns ts ≡ (few_arms t && is_narrow ns rest)
  seq_narrow (the_seq {mid = mid} {rest = rest} {t = t} {us = us} a m) ns =
      both_parts (few_arms t) (few_arms_each us) (few_arms (sequence_of t us)) (is_narrow ns rest) _ (is_narrow ns mid) (both_narrow a ns)
      (more_seq_narrow m ns) (few_sequence t us)

  more_seq_narrow : {ts rest : List Token} {us : Statements} → MoreSeq ts rest us → (ns : List ℕ) → is_narrow ns ts ≡ (few_arms_each us && is_narrow ns rest)
  more_seq_narrow no_more_seq ns = refl
  more_seq_narrow (one_more_seq {mid = mid} {rest = rest} {t = t} {us = us} a m) ns =
      both_parts (few_arms t) (few_arms_each us) _ (is_narrow ns rest) _ (is_narrow ns mid) (both_narrow a ns) (more_seq_narrow m ns) refl

  pub par_narrow : {ts rest : List Token} {t : Statement} → Par ts rest t → (ns : List ℕ) → is_narrow ns ts ≡ (few_arms t && is_narrow ns rest)
  par_narrow (the_par {mid = mid} {rest = rest} {t = t} {us = us} a m) ns =
      both_parts (few_arms t) (few_arms_each us) (few_arms (parallel_of t us)) (is_narrow ns rest) _ (is_narrow ns mid) (seq_narrow a ns) (more_par_narrow m ns)
      (few_parallel t us)

  more_par_narrow : {ts rest : List Token} {us : Statements} → MorePar ts rest us → (ns : List ℕ) → is_narrow ns ts ≡ (few_arms_each us && is_narrow ns rest)
  more_par_narrow no_more_par ns = refl
  more_par_narrow (one_more_par {mid = mid} {rest = rest} {t = t} {us = us} a m) ns =
      both_parts (few_arms t) (few_arms_each us) _ (is_narrow ns rest) _ (is_narrow ns mid) (seq_narrow a ns) (more_par_narrow m ns) refl

-- declarations
abbrev few_in_item : Item → Bool
few_in_item (valued d) = true
few_in_item (defined p) = few_arms p.body

abbrev few_in_procs : List Procedure → Bool
few_in_procs ps = list_all (λ (q : Procedure). few_arms q.body) ps

over_channel : (j : TokenKind) (k : DeclKind) (at : Span) (ns : List ℕ) (ts : List Token) → kind_of_channel j ≡ Some k →
    is_narrow ns (record { kind = j; at = at } ∷ ts) ≡ is_narrow ns ts
over_channel (Word w) k at ns ts e = refl
over_channel (Ident w) k at ns ts e = refl
over_channel (Number w) k at ns ts e = refl
over_channel (Sign m) k at ns ts e = absurd (cc e)

declaration_narrow : {ts rest : List Token} {d : Item} → Declaration ts rest d → (ns : List ℕ) → is_narrow ns ts ≡ (few_in_item d && is_narrow ns rest)
declaration_narrow (a_channel {rest = rest} {t = t} {kind = k} {n = n} {w = w} {s = s} {c = c} {p = p} {e = q} e) ns =
    over_channel t.kind k t.at ns (name n s ∷ sign mark.Colon c ∷ numeral w p ∷ sign mark.Semicolon q ∷ rest) e
declaration_narrow a_variable ns = refl
declaration_narrow a_variable_with_first ns = refl
declaration_narrow (a_procedure p) ns = atom_narrow p ns

few_items : (d : Item) (more : Declared) → (few_in_item d && few_in_procs more.procs) ≡ few_in_procs (and_item d more).procs
few_items (valued d) more = refl
few_items (defined p) more = refl

declarations_narrow : {ts rest : List Token} {d : Declared} → Declarations ts rest d → (ns : List ℕ) →
    is_narrow ns ts ≡ (few_in_procs d.procs && is_narrow ns rest)
declarations_narrow no_declaration ns = refl
declarations_narrow (one_more_declaration {mid = mid} {rest = rest} {d = d} {more = more} r m) ns =
    both_parts (few_in_item d) (few_in_procs more.procs) (few_in_procs (and_item d more).procs) (is_narrow ns rest) _ (is_narrow ns mid)
    (declaration_narrow r ns) (declarations_narrow m ns) (few_items d more)

pub program_narrow : {ts : List Token} {p : ProgramTree} → Derives ts p →
    is_narrow [] ts ≡ (list_all (λ (q : Procedure). few_arms q.body) p.procs && (few_arms p.body && true))
program_narrow (the_program {d = d} {t = t} r p) = declarations_narrow r [] ∙ ap (λ (v : Bool). few_in_procs d.procs && v) (par_narrow p [])

-- the tokens up to one
counts-append : (ns : List ℕ) (ts us : List Token) → counts ns (ts ++ us) ≡ counts (counts ns ts) us
counts-append ns [] us = refl
counts-append ns (t ∷ ts) us = counts-append (counted ns t.kind) ts us

narrow-append : (ns : List ℕ) (ts us : List Token) → is_narrow ns (ts ++ us) ≡ (is_narrow ns ts && is_narrow (counts ns ts) us)
narrow-append ns [] us = refl
narrow-append ns (t ∷ ts) us =
    ap (λ (v : Bool). not (is_seventeenth ns t.kind) && v) (narrow-append (counted ns t.kind) ts us)
    ∙ sym (and_assoc (not (is_seventeenth ns t.kind)) (is_narrow (counted ns t.kind) ts) (is_narrow (counts (counted ns t.kind) ts) us))

-- a list is what stands before a token, the token, and what stands behind it
split_at : (ts : List Token) (i : ℕ) (t : Token) → i < length ts → t ≡ get_or ts i t → ts ≡ take i ts ++ t ∷ drop (i + 1) ts
split_at ts i t lt is =
    sym (take-append-drop i ts) ∙ ap (λ us. take i ts ++ us) (drop_more ts i t lt ∙ ap (λ u. u ∷ drop (i + 1) ts) (sym is))

seventeenth_kind : (j : TokenKind) (ns : List ℕ) → is_seventeenth ns j ≡ true → (j ≡ Sign mark.Choice) × (is_full ns ≡ true)
seventeenth_kind (Sign mark.Choice) ns h = (refl, h)
seventeenth_kind (Sign _) ns h = absurd (cc h)
seventeenth_kind (Word w) ns h = absurd (cc h)
seventeenth_kind (Ident w) ns h = absurd (cc h)
seventeenth_kind (Number w) ns h = absurd (cc h)

pub seventeenth_at : (ts : List Token) (i : ℕ) (t : Token) (ns : List ℕ) → i < length ts → t ≡ get_or ts i t → ns ≡ counts [] (take i ts) →
    is_narrow [] (take i ts) ≡ true → is_seventeenth ns t.kind ≡ true → IsSeventeenth ts t.at
seventeenth_at ts i t ns lt is so narrow h =
    let x = seventeenth_kind t.kind ns h in
    record {
      before = take i ts;
      behind = drop (i + 1) ts;
      is = split_at ts i t lt is ∙ ap (λ (j : TokenKind). let u : Token = record { kind = j; at = t.at } in take i ts ++ u ∷ drop (i + 1) ts) x.0;
      narrow = narrow;
      full = ap is_full (sym so) ∙ x.1;
    }

pub counted_more : (ts : List Token) (i : ℕ) (t : Token) (ns ms : List ℕ) → i < length ts → t ≡ get_or ts i t → ns ≡ counts [] (take i ts) →
    ms ≡ counted ns t.kind → ms ≡ counts [] (take (i + 1) ts)
counted_more ts i t ns ms lt is so e =
    let more : take (i + 1) ts ≡ take i ts ++ t ∷ [] = take_more ts i t lt ∙ ap (λ u. take i ts ++ u ∷ []) (sym is) in
    e ∙ (ap (λ (ks : List ℕ). counted ks t.kind) so ∙ (sym (counts-append [] (take i ts) (t ∷ [])) ∙ sym (ap (λ (us : List Token). counts [] us) more)))

pub narrow_more : (ts : List Token) (i : ℕ) (t : Token) (ns : List ℕ) → i < length ts → t ≡ get_or ts i t → ns ≡ counts [] (take i ts) →
    is_narrow [] (take i ts) ≡ true → is_seventeenth ns t.kind ≡ false → is_narrow [] (take (i + 1) ts) ≡ true
narrow_more ts i t ns lt is so narrow h =
    let more : take (i + 1) ts ≡ take i ts ++ t ∷ [] = take_more ts i t lt ∙ ap (λ u. take i ts ++ u ∷ []) (sym is) in
    let passes : is_seventeenth (counts [] (take i ts)) t.kind ≡ false = ap (λ (ks : List ℕ). is_seventeenth ks t.kind) (sym so) ∙ h in
    ap (λ (us : List Token). is_narrow [] us) more ∙ (narrow-append [] (take i ts) (t ∷ [])
    ∙ (ap (λ (v : Bool). v && (not (is_seventeenth (counts [] (take i ts)) t.kind) && true)) narrow
    ∙ ap (λ (v : Bool). not v && true) passes))

-- tokens with a seventeenth arm are not narrow
pub not_narrow : {ts : List Token} {place : Span} → IsSeventeenth ts place → is_narrow [] ts ≡ false
not_narrow {ts} {place} s =
    ap (λ (us : List Token). is_narrow [] us) s.is ∙ (narrow-append [] s.before (sign mark.Choice place ∷ s.behind)
    ∙ (ap (λ (v : Bool). v && (not (is_full (counts [] s.before)) && is_narrow (bar_counted (counts [] s.before)) s.behind)) s.narrow
    ∙ ap (λ (v : Bool). not v && is_narrow (bar_counted (counts [] s.before)) s.behind) s.full))

both_true : (a b : Bool) → (a && (b && true)) ≡ true → (a ≡ true) × (b ≡ true)
both_true true true h = (refl, refl)
both_true true false h = absurd (cc h)
both_true false b h = absurd (cc h)

-- the trees of narrow tokens have few arms
pub few_in_program : {ts : List Token} {p : ProgramTree} → Derives ts p → is_narrow [] ts ≡ true →
    (list_all (λ (q : Procedure). few_arms q.body) p.procs ≡ true) × (few_arms p.body ≡ true)
few_in_program {ts} {p} d h = both_true (list_all (λ (q : Procedure). few_arms q.body) p.procs) (few_arms p.body) (sym (program_narrow d) ∙ h)

-- and those of others haven't
pub many_in_program : {ts : List Token} {p : ProgramTree} {place : Span} → Derives ts p → IsSeventeenth ts place →
    list_all (λ (q : Procedure). few_arms q.body) p.procs ≡ true → few_arms p.body ≡ true → ⊥
many_in_program {ts} {p} d s a b =
    let e : true ≡ false = sym (program_narrow d ∙ (ap (λ (v : Bool). v && (few_arms p.body && true)) a ∙ ap (λ (v : Bool). v && true) b)) ∙ not_narrow s in
    cc e
