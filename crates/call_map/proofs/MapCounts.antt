-- How many moves the net with copies is owed: one of each procedure whose request differs from its call's, or whose answer
-- does. A move that is none there adds one, any other takes away one or none.
--
-- M, A, S, cur, st, far: as in MapStates; c: a call; p, q: procedures; s: the node of A that moves; to: the node of B that does;
-- f, g: what each number from 0 on counts for.
use Rattle.std.proofs.Common.{◌≡◌, ◌≢◌, ℕ, zero, suc, ◌+◌, ◌<◌, ◌≤◌, Bool, true, false, refl, sym, ap, ◌∙◌, subst, arith, ⊎_elim}
use Rattle.std.specs.Prelude.{not}
use Rattle.std.proofs.lemmas.Bool.{cases_eq}
use Rattle.prs_core.specs.Nets.{NetValue}
use Rattle.env_script.specs.Runs.{RunState, moved}
use Rattle.call_map.specs.Shared.{Here, plain, asks, answers, enters, body, There, IsHere, body_end}
use Rattle.call_map.proofs.Truths.{not_not, true_false}
use Rattle.call_map.proofs.MapNodes.{level, asking, giving, v, back, never_asks, never_result}
use Rattle.call_map.proofs.MapStates.{Mapping, shared_net, may, PhaseOf, Tells, within_end}
use Rattle.call_map.proofs.MapEnabled.{same_here, enters_even, answers_even, others_idle}

abbrev pub sum_below : (ℕ → ℕ) → (count : ℕ) → ℕ
sum_below f zero = 0
sum_below f (suc n) = sum_below f n + f n

module _ (f g : ℕ → ℕ) where
  sum_grows : (n : ℕ) → ((q : ℕ) → q < n → f q ≤ g q) → sum_below f n ≤ sum_below g n
  sum_grows zero h = omega arith
  sum_grows (suc n) h =
      let a = sum_grows n (λ q l. h q (omega (arith, l))) in
      let b = h n (omega arith) in
      omega (arith, a, b)

  module _ (p : ℕ) where
    -- all but one stay
    sum_more : (n : ℕ) → p < n → ((q : ℕ) → q < n → q ≢ p → f q ≤ g q) → suc (f p) ≤ g p → suc (sum_below f n) ≤ sum_below g n
    sum_more zero l others more = absurd (omega (arith, l))
    sum_more (suc n) l others more = ⊎_elim
        (λ (same : p ≡ n).
        let a = sum_grows n (λ q less. others q (omega (arith, less)) (λ e. below q less (e ∙ same))) in
        let b : suc (f n) ≤ g n = subst (λ z. suc (f z) ≤ g z) same more in
        omega (arith, a, b))
        (λ (ne : p ≢ n).
        let a = sum_more n (omega (arith, l, ne)) (λ q less. others q (omega (arith, less))) more in
        let b = others n (omega arith) (λ e. ne (sym e)) in
        omega (arith, a, b))
        (cases_eq p n)
      where
        below : (q : ℕ) → q < n → q ≡ n → ⊥
        below q less e = omega (arith, less, e)

    sum_one : (n : ℕ) → ((q : ℕ) → q < n → q ≢ p → f q ≤ g q) → (p < n → f p ≤ suc (g p)) → sum_below f n ≤ suc (sum_below g n)
    sum_one zero others less = omega arith
    sum_one (suc n) others fewer = ⊎_elim
        (λ (same : p ≡ n).
        let a = sum_grows n (λ q less. others q (omega (arith, less)) (λ e. below q less (e ∙ same))) in
        let b : f n ≤ suc (g n) = subst (λ z. f z ≤ suc (g z)) same (fewer (omega (arith, same))) in
        omega (arith, a, b))
        (λ (ne : p ≢ n).
        let a = sum_one n (λ q less. others q (omega (arith, less))) (λ less. fewer (omega (arith, less))) in
        let b = others n (omega arith) (λ e. ne (sym e)) in
        omega (arith, a, b))
        (cases_eq p n)
      where
        below : (q : ℕ) → q < n → q ≡ n → ⊥
        below q less e = omega (arith, less, e)

pub sum_none : (f : ℕ → ℕ) (n : ℕ) → ((q : ℕ) → q < n → f q ≡ 0) → sum_below f n ≡ 0
sum_none f zero h = refl
sum_none f (suc n) h =
    let a = sum_none f n (λ q l. h q (omega (arith, l))) in
    let b = h n (omega arith) in
    omega (arith, a, b)

-- 1 where two values differ
abbrev pub differing : (a b : Bool) → ℕ
differing true true = 0
differing true false = 1
differing false true = 1
differing false false = 0

alike_none : (a b : Bool) → a ≡ b → differing a b ≡ 0
alike_none true true e = refl
alike_none true false e = absurd (cc e)
alike_none false true e = absurd (cc e)
alike_none false false e = refl

apart_one : (a b : Bool) → a ≡ not b → differing a b ≡ 1
apart_one true true e = absurd (cc e)
apart_one true false e = refl
apart_one false true e = refl
apart_one false false e = absurd (cc e)

module _ (M : Mapping) where
  open M use {S, is}

  abbrev A : NetValue
  A = shared_net M

  -- what is owed of a call under way, and of all procedures
  abbrev pub owed : RunState → (c : ℕ) → ℕ
  owed st c = differing (v S st (asks c)) (v S st (enters (S.of c))) + differing (v S st (body_end S c)) (v S st (answers c))

  abbrev pub all_owed : (cur : ℕ → ℕ) → RunState → ℕ
  all_owed cur st = sum_below (λ p. owed st (cur p)) S.procs

  module _ (st : RunState) (c : ℕ) where
    pub level_owes : v S st (asks c) ≡ v S st (enters (S.of c)) → v S st (body_end S c) ≡ v S st (answers c) → owed st c ≡ 0
    level_owes rq da =
        let a = alike_none (v S st (asks c)) (v S st (enters (S.of c))) rq in
        let b = alike_none (v S st (body_end S c)) (v S st (answers c)) da in
        omega (arith, a, b)

    pub asking_owes : v S st (asks c) ≡ not (v S st (enters (S.of c))) → v S st (body_end S c) ≡ v S st (answers c) → owed st c ≡ 1
    asking_owes rq da =
        let a = apart_one (v S st (asks c)) (v S st (enters (S.of c))) rq in
        let b = alike_none (v S st (body_end S c)) (v S st (answers c)) da in
        omega (arith, a, b)

    pub giving_owes : v S st (asks c) ≡ v S st (enters (S.of c)) → v S st (body_end S c) ≡ not (v S st (answers c)) → owed st c ≡ 1
    giving_owes rq da =
        let a = alike_none (v S st (asks c)) (v S st (enters (S.of c))) rq in
        let b = apart_one (v S st (body_end S c)) (v S st (answers c)) da in
        omega (arith, a, b)

    owed_few : (far : RunState) → PhaseOf M st far c → owed st c ≤ 1
    owed_few far (level rq da) = let e = level_owes rq da in omega (arith, e)
    owed_few far (asking rq dq aq o) = let e = asking_owes rq (dq ∙ sym aq) in omega (arith, e)
    owed_few far (giving rq dq aq o) =
        let e = giving_owes rq (dq ∙ (sym (not_not (v S st (enters (S.of c)))) ∙ ap not (sym aq))) in
        omega (arith, e)

  -- the procedure that a node belongs to
  abbrev pub proc_at : Here → ℕ
  proc_at (plain k) = 0
  proc_at (asks c) = S.of c
  proc_at (answers c) = S.of c
  proc_at (enters p) = p
  proc_at (body p x) = p

  module _ (st : RunState) (s : Here) (h : IsHere S s) (c : ℕ) (l : c < S.calls) (ne : S.of c ≢ proc_at s) where
    abbrev then : RunState
    then = moved A st (S.here s)

    stay : (z : Here) → IsHere S z → S.of c ≡ proc_at z → v S then z ≡ v S st z
    stay z hz e = same_here M st s z h hz (λ same. ne (e ∙ ap proc_at same))

    -- what is owed of a call of another procedure stays
    others_owe : owed then c ≡ owed st c
    others_owe =
        ap (λ z. differing z (v S then (enters (S.of c))) + differing (v S then (body_end S c)) (v S then (answers c))) (stay (asks c) l refl)
        ∙ (ap (λ z. differing (v S st (asks c)) z + differing (v S then (body_end S c)) (v S then (answers c)))
        (stay (enters (S.of c)) (is.of_below c l) refl)
        ∙ (ap (λ z. differing (v S st (asks c)) (v S st (enters (S.of c))) + differing z (v S then (answers c)))
        (stay (body_end S c) (is.of_below c l, within_end M c l) refl)
        ∙ ap (λ z. differing (v S st (asks c)) (v S st (enters (S.of c))) + differing (v S st (body_end S c)) z) (stay (answers c) l refl)))

  -- a move that is none there: one more is owed, of the procedure that it belongs to
  pub record OwesOne (cur more : ℕ → ℕ) (st : RunState) (s : Here) : Type 0 where
    pub below : proc_at s < S.procs
    pub before : owed st (cur (proc_at s)) ≡ 0
    pub since : owed (moved A st (S.here s)) (more (proc_at s)) ≡ 1
    pub others : (q : ℕ) → q ≢ proc_at s → more q ≡ cur q

  -- where the call was under way before
  pub owes_kept : (cur : ℕ → ℕ) (st : RunState) (s : Here) (c : ℕ) → proc_at s ≡ S.of c → c < S.calls → cur (S.of c) ≡ c
      → owed st c ≡ 0 → owed (moved A st (S.here s)) c ≡ 1 → OwesOne cur cur st s
  owes_kept cur st s c same l on before since =
      let e : cur (proc_at s) ≡ c = ap cur same ∙ on in
      record {
        below = subst (λ p. p < S.procs) (sym same) (is.of_below c l);
        before = ap (owed st) e ∙ before;
        since = ap (owed (moved A st (S.here s))) e ∙ since;
        others = λ q ne. refl;
      }

  module _ (cur : ℕ → ℕ) (st far : RunState) (t : Tells M cur st far) where
    of_proc : (p : ℕ) → p < S.procs → owed st (cur p) ≤ 1
    of_proc p l = let z = t.current p l in owed_few st (cur p) far (t.phase (cur p) z.0 (ap cur z.1))

  module _ (cur : ℕ → ℕ) (st far : RunState) (t : Tells M cur st far) (s : Here) (h : IsHere S s) where
    abbrev next : RunState
    next = moved A st (S.here s)

    other_owes : (q : ℕ) → q < S.procs → q ≢ proc_at s → owed next (cur q) ≡ owed st (cur q)
    other_owes q l ne = let z = t.current q l in others_owe st s h (cur q) z.0 (λ e. ne (sym z.1 ∙ e))

    pub one_more_owed : (more : ℕ → ℕ) → OwesOne cur more st s → suc (all_owed cur st) ≤ all_owed more next
    one_more_owed more o =
        sum_more (λ p. owed st (cur p)) (λ p. owed next (more p)) (proc_at s) S.procs o.below
        (λ q l ne. let e = ap (owed next) (o.others q ne) ∙ other_owes q l ne in omega (arith, e))
        (let a = o.before in let b = o.since in omega (arith, a, b))

    pub only_one_owed : (more : ℕ → ℕ) → OwesOne cur more st s → all_owed more next ≤ suc (all_owed cur st)
    only_one_owed more o =
        sum_one (λ p. owed next (more p)) (λ p. owed st (cur p)) (proc_at s) S.procs
        (λ q l ne. let e = ap (owed next) (o.others q ne) ∙ other_owes q l ne in omega (arith, e))
        (λ l. let a = o.since in omega (arith, a))

    pub one_less_owed : all_owed cur st ≤ suc (all_owed cur next)
    one_less_owed =
        sum_one (λ p. owed st (cur p)) (λ p. owed next (cur p)) (proc_at s) S.procs
        (λ q l ne. let e = other_owes q l ne in omega (arith, e))
        (λ l. let e = of_proc cur st far t (proc_at s) l in omega (arith, e))

  -- a move that is one there
  module _ (cur : ℕ → ℕ) (st far later : RunState) (t : Tells M cur st far) (to : There) (h : IsHere S (back S to)) (on : may M st (back S to) ≡ true)
      (tells : Tells M cur (moved A st (S.here (back S to))) later) where
    abbrev gone : RunState
    gone = moved A st (S.here (back S to))

    others_stay : (z : Here) → IsHere S z → z ≢ back S to → v S gone z ≡ v S st z
    others_stay z hz ne = same_here M st (back S to) z h hz ne

    owes_no_more : (c : ℕ) → c < S.calls → cur (S.of c) ≡ c → owed gone c ≤ owed st c
    owes_no_more c l now = by (t.phase c l now) (owed_few gone c later (tells.phase c l now))
      where
        by : PhaseOf M st far c → owed gone c ≤ 1 → owed gone c ≤ owed st c
        by (asking rq dq aq o) few = let e = asking_owes st c rq (dq ∙ sym aq) in omega (arith, e, few)
        by (giving rq dq aq o) few =
            let e = giving_owes st c rq (dq ∙ (sym (not_not (v S st (enters (S.of c)))) ∙ ap not (sym aq))) in
            omega (arith, e, few)
        by (level rq da) few =
            let asks_is = others_stay (asks c) l (λ e. never_asks S to c (sym e)) in
            let enters_is = others_stay (enters (S.of c)) (is.of_below c l)
            (λ e. true_false (may M st (back S to)) on (ap (may M st) (sym e) ∙ enters_even M st c l (others_idle M cur st far t c now) rq)) in
            let end_is = others_stay (body_end S c) (is.of_below c l, within_end M c l) (λ e. never_result S to (S.of c) (sym e)) in
            let answers_is = others_stay (answers c) l (λ e. true_false (may M st (back S to)) on (ap (may M st) (sym e) ∙ answers_even M st c l da)) in
            let e = level_owes gone c (asks_is ∙ (rq ∙ sym enters_is)) (end_is ∙ (da ∙ sym answers_is)) in
            omega (arith, e)

    pub no_more_owed : all_owed cur gone ≤ all_owed cur st
    no_more_owed =
        sum_grows (λ p. owed gone (cur p)) (λ p. owed st (cur p)) S.procs
        (λ p l. let z = t.current p l in owes_no_more (cur p) z.0 (ap cur z.1))
