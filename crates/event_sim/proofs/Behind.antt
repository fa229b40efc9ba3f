-- The set of the nodes that have a move, behind a move.
use Rattle.std.proofs.Common.{◌≡◌, ◌≢◌, ℕ, zero, suc, ◌<◌, ◌≤◌, Bool, true, false, cond, List, [], ◌∷◌, ◌++◌, length, get_or, set, refl, sym, ap, subst, ◌∙◌, inl, inr, arith}
use Rattle.std.specs.Prelude.{◌⊎◌, not, ◌&&◌, ◌||◌, ◌==◌, nat_lt, if◌then◌else◌, All, slice_index, Option, Some, None}
use Rattle.std.specs.List.{list_any, range_with_len}
use Rattle.std.proofs.lemmas.Bool.{eqb-true, eqb-false, eq-eqb, ne_eqb, or_parts, or_from, or_left, or_right, and_parts, and_from, and_left, and_right, cases_eq, cases_lt, lt-ltb, le-ltb, both_ways, not-true, not_from_true, not_from_false}
use Rattle.std.proofs.lemmas.List.{length-set, get_or-set_same, get_or-set_other, get_or_default}
use Rattle.std.proofs.lemmas.List.Folds.{list_any-append}
use Rattle.std.proofs.lemmas.List.Elements.{filter_passes, All-filter}
use Rattle.prs_core.specs.declared.wires.Wires.{Wires}
use Rattle.prs_core.specs.Nets.{NetValue, IsNet, IsChannel, IsReset, IsResetNode, first_at, up_of, down_of}
use Rattle.prs_core.specs.Moves.{high, fired, guard_holds, rule_enabled}
use Rattle.prs_core.specs.Fans.{is_reader, readers_below}
use Rattle.env_script.specs.Scripts.{nothing, offer_at}
use Rattle.env_script.specs.Environment.{all_below, in_reset, is_reset, rules_rest, raises_go, channels_move}
use Rattle.env_script.specs.Hazards.{least_below, or_else}
use Rattle.event_sim.specs.Locality.{IndexedValue, is_wire, is_ready, has_move, is_member, members, is_among, lesser, IsShared, IsPassing, IsRetested, IsRetestedNear, IsNear, IsCountedMove, IsListedBehind}
use Rattle.event_sim.proofs.Lists.{least_some, least_none, least_agrees, among_is}
use Rattle.event_sim.proofs.Following.{range_below}
use Rattle.event_sim.proofs.Near.{ready_near, reset_kept, not_offered}
use Rattle.event_sim.proofs.HomeLemmas.{channels_none}

-- the least number that passes, and another

pub least_absent : (count : ℕ) (p : ℕ → Bool) → least_below count p ≡ None → (k : ℕ) → k < count → p k ≡ false
least_absent zero p none k within = absurd (omega arith)
least_absent (suc n) p none k within = by_first (least_below n p) (p n) refl (λ is less. least_absent n p is k less) none
  where
    by_first : (o : Option ℕ) (b : Bool) → p n ≡ b → (o ≡ None → k < n → p k ≡ false) → or_else o (if b then Some n else None) ≡ None → p k ≡ false
    by_first (Some j) b here below e = absurd (cc e)
    by_first None true here below e = absurd (cc e)
    by_first None false here below e = by_place (cases_eq k n)
      where
        by_place : (k ≡ n) ⊎ (k ≡ n → ⊥) → p k ≡ false
        by_place (inl same) = ap p same ∙ here
        by_place (inr apart) = below refl (omega arith)

least_found : (count k : ℕ) (p : ℕ → Bool) → least_below count p ≡ Some k → (k < count) × (p k ≡ true) × ((j : ℕ) → j < k → p j ≡ false)
least_found zero k p found = absurd (cc found)
least_found (suc n) k p found = by_first (least_below n p) refl (p n) refl (λ is. least_found n k p is) found
  where
    by_first : (o : Option ℕ) → least_below n p ≡ o → (b : Bool) → p n ≡ b →
        (least_below n p ≡ Some k → (k < n) × (p k ≡ true) × ((j : ℕ) → j < k → p j ≡ false)) → or_else o (if b then Some n else None) ≡ Some k →
        (k < suc n) × (p k ≡ true) × ((j : ℕ) → j < k → p j ≡ false)
    by_first (Some j) is b here below e = let found = below (is ∙ e) in (omega (arith, found.0), found.1, found.2)
    by_first None is true here below e =
        let same : n ≡ k = cc in
        (omega arith, ap p (sym same) ∙ here, λ j less. least_absent n p is j (omega arith))
    by_first None is false here below e = absurd (cc e)

least_with : (count n : ℕ) (f : ℕ → Bool) → n < count → lesser (least_below count f) n ≡ least_below count (λ k. f k || (k == n))
least_with count n f within = by_first (least_below count f) refl
  where
    by_first : (o : Option ℕ) → least_below count f ≡ o → lesser o n ≡ least_below count (λ k. f k || (k == n))
    by_first None is =
        sym (least_some count n (λ k. f k || (k == n)) within (or_right _ _ (eq-eqb n n refl))
        (λ j less. or_from _ _ (least_absent count f is j (omega arith)) (ne_eqb j n (omega arith))))
    by_first (Some k) is = by_order (cases_lt k n)
      where
        found : (k < count) × (f k ≡ true) × ((j : ℕ) → j < k → f j ≡ false)
        found = least_found count k f is

        by_order : (k < n) ⊎ (n ≤ k) → (if nat_lt k n then Some k else Some n) ≡ least_below count (λ j. f j || (j == n))
        by_order (inl less) =
            ap (λ b. cond b (Some k) (Some n)) (lt-ltb k n less)
            ∙ sym (least_some count k (λ j. f j || (j == n)) found.0 (or_left _ _ found.1)
            (λ j before. or_from _ _ (found.2 j before) (ne_eqb j n (omega arith))))
        by_order (inr past) =
            ap (λ b. cond b (Some k) (Some n)) (le-ltb k n past)
            ∙ sym (least_some count n (λ j. f j || (j == n)) within (or_right _ _ (eq-eqb n n refl))
            (λ j before. or_from _ _ (found.2 j (omega arith)) (ne_eqb j n (omega arith))))

-- nodes that are tested again, one after the other

pub retested_more : (passes : ℕ → Bool) (xs ys : List ℕ) (old mid new : List Bool) (before between now : Option ℕ) →
    IsRetested passes xs old mid before between → IsRetested passes ys mid new between now → IsRetested passes (xs ++ ys) old new before now
retested_more passes xs ys old mid new before between now one two = record {
  count_is = two.count_is ∙ one.count_is;
  each = λ n within. join (is_among xs n) (is_among ys n) (passes n) (is_member old n) (is_member mid n) (is_member new n) (one.each n within)
      (two.each n (omega (arith, one.count_is))) ∙ ap (λ b. cond b (passes n) (is_member old n)) (sym (both n));
  least = λ f e. two.least (grown f) (one.least f e ∙ ap (λ count. least_below count (grown f)) (sym one.count_is))
      ∙ ap (λ count. least_below count (λ n. grown f n || (is_among ys n && (is_member mid n && not (passes n))))) one.count_is
      ∙ least_agrees (length old) _ _ (λ n within. gone (f n) (is_among xs n) (is_among ys n) (passes n) (is_member old n) (is_member mid n) (one.each n within)
      ∙ ap (λ b. f n || (b && (is_member old n && not (passes n)))) (sym (both n)));
}
  where
    grown : (ℕ → Bool) → ℕ → Bool
    grown f n = f n || (is_among xs n && (is_member old n && not (passes n)))

    both : (n : ℕ) → is_among (xs ++ ys) n ≡ (is_among xs n || is_among ys n)
    both n = list_any-append (λ m. m == n) xs ys

    join : (a b p o m n : Bool) → m ≡ cond a p o → n ≡ cond b p m → n ≡ cond (a || b) p o
    join true true p o m n first second = second
    join true false p o m n first second = second ∙ first
    join false true p o m n first second = second
    join false false p o m n first second = second ∙ first

    gone : (f a b p o m : Bool) → m ≡ cond a p o → ((f || (a && (o && not p))) || (b && (m && not p))) ≡ (f || ((a || b) && (o && not p)))
    gone f a b p o m first = ap (λ k. (f || (a && (o && not p))) || (b && (k && not p))) first ∙ decide f a b p o
      where
        decide : (f a b p o : Bool) → ((f || (a && (o && not p))) || (b && (cond a p o && not p))) ≡ (f || ((a || b) && (o && not p)))
        decide true a b p o = refl
        decide false true true true true = refl
        decide false true true true false = refl
        decide false true true false true = refl
        decide false true true false false = refl
        decide false true false true true = refl
        decide false true false true false = refl
        decide false true false false true = refl
        decide false true false false false = refl
        decide false false b p o = refl

pub retested_one : (passes : ℕ → Bool) (n : ℕ) (old new : List Bool) (before now : Option ℕ) (ready : Bool) → n < length old → ready ≡ passes n →
    new ≡ set old n ready → now ≡ cond (is_member old n && not ready) (lesser before n) before → IsRetested passes (n ∷ []) old new before now
retested_one passes n old new before now ready within is made told = record {
  count_is = ap length made ∙ length-set old n ready;
  each = λ m less. ap (λ (xs : List Bool). is_member xs m) made ∙ by_place m (cases_eq m n);
  least = λ f e. told ∙ by_gone f e (is_member old n && not ready) refl;
}
  where
    by_place : (m : ℕ) → (m ≡ n) ⊎ (m ≡ n → ⊥) → is_member (set old n ready) m ≡ (if (n == m) || false then passes m else is_member old m)
    by_place m (inl same) =
        ap (λ k. is_member (set old n ready) k) same ∙ get_or-set_same old n ready false within ∙ is
        ∙ sym (ap (λ b. cond (b || false) (passes m) (is_member old m)) (eq-eqb n m (sym same)) ∙ ap passes same)
    by_place m (inr apart) =
        get_or-set_other old n m ready false apart ∙ sym (ap (λ b. cond (b || false) (passes m) (is_member old m)) (ne_eqb n m (λ e. apart (sym e))))

    tested : (f : ℕ → Bool) (k : ℕ) (b : Bool) → (is_member old n && not ready) ≡ b → (f k || (b && (k == n))) ≡ (f k || (is_among (n ∷ []) k
        && (is_member old k && not (passes k))))
    tested f k b gone = ap (λ t. f k || t) (by_same (cases_eq k n))
      where
        by_same : (k ≡ n) ⊎ (k ≡ n → ⊥) → (b && (k == n)) ≡ (((n == k) || false) && (is_member old k && not (passes k)))
        by_same (inl same) =
            ap (λ t. b && t) (eq-eqb k n same) ∙ and_true b ∙ sym gone ∙ ap (λ t. is_member old n && not t) is
            ∙ ap (λ j. is_member old j && not (passes j)) (sym same)
            ∙ sym (ap (λ t. (t || false) && (is_member old k && not (passes k))) (eq-eqb n k (sym same)))
          where
            and_true : (a : Bool) → (a && true) ≡ a
            and_true true = refl
            and_true false = refl
        by_same (inr apart) =
            and_right b _ (ne_eqb k n apart) ∙ sym (and_left _ _ (or_from _ _ (ne_eqb n k (λ e. apart (sym e))) refl))

    by_gone : (f : ℕ → Bool) → before ≡ least_below (length old) f → (b : Bool) → (is_member old n && not ready) ≡ b →
        cond (is_member old n && not ready) (lesser before n) before ≡ least_below (length old) (λ k. f k || (is_among (n ∷ []) k
        && (is_member old k && not (passes k))))
    by_gone f e true gone =
        ap (λ b. cond b (lesser before n) before) gone ∙ ap (λ o. lesser o n) e ∙ least_with (length old) n f within
        ∙ least_agrees (length old) _ _ (λ k less. tested f k true gone)
    by_gone f e false gone =
        ap (λ b. cond b (lesser before n) before) gone ∙ e
        ∙ least_agrees (length old) _ _ (λ k less. or_nothing (f k) ∙ tested f k false gone)
      where
        or_nothing : (b : Bool) → b ≡ (b || false)
        or_nothing true = refl
        or_nothing false = refl

-- whom a move concerns

pub turned : (m : ℕ) (xs : List ℕ) → list_any (λ r. r == m) xs ≡ false → list_any (λ r. m == r) xs ≡ false
turned m [] none = refl
turned m (x ∷ xs) none =
    let parts = or_parts (x == m) (list_any (λ r. r == m) xs) none in
    or_from _ _ (ne_eqb m x (λ e. eqb-false x m parts.0 (sym e))) (turned m xs parts.1)

unread : (net : NetValue) (n : ℕ) (readers : List ℕ) → readers ≡ readers_below net (length net.first) n → (m : ℕ) → m < length net.first →
    is_among readers m ≡ false → is_reader net n m ≡ false
unread net n readers are m within apart =
    sym (among_is (is_reader net n) (length net.first) m within) ∙ ap (λ (xs : List ℕ). is_among xs m) (sym are) ∙ apart

pub near_alone : (x : IndexedValue) (n : ℕ) (readers : List ℕ) → readers ≡ readers_below x.net (length x.net.first) n → IsShared x.net x.script n None →
    IsNear x n readers
near_alone x n readers are shared = record {
  readers = unread x.net n readers are;
  wires = λ m c d apart less is. by_case c m d (shared.only c d less is);
}
  where
    by_case : (c m : ℕ) (d : Wires) → (offer_at x.script c ≡ nothing) ⊎ (None ≡ Some c) →
        (offer_at x.script c ≡ nothing) ⊎ (is_wire (get_or x.net.channels c d) m ≡ false)
    by_case c m d (inl none) = inl none
    by_case c m d (inr e) = absurd (cc e)

pub near_wires : (x : IndexedValue) (n c : ℕ) (w : Wires) (readers : List ℕ) → readers ≡ readers_below x.net (length x.net.first) n →
    IsShared x.net x.script n (Some c) → w ≡ get_or x.net.channels c w → IsNear x n (readers ++ w.rails ++ w.ack ∷ [])
near_wires x n c w readers are shared here = record {
  readers = λ m within apart. unread x.net n readers are m within (parts m apart).0;
  wires = λ m k d apart less is. by_case m k d apart less (shared.only k d less is);
}
  where
    parts : (m : ℕ) → is_among (readers ++ w.rails ++ w.ack ∷ []) m ≡ false → (is_among readers m ≡ false) × (is_among w.rails m ≡ false)
        × ((w.ack == m) ≡ false)
    parts m apart =
        let one = or_parts _ _ (sym (list_any-append (λ k. k == m) (readers ++ w.rails) (w.ack ∷ [])) ∙ apart) in
        let two = or_parts _ _ (sym (list_any-append (λ k. k == m) readers w.rails) ∙ one.0) in
        (two.0, two.1, (or_parts (w.ack == m) false one.1).0)

    same_of : (k : ℕ) → Some c ≡ Some k → c ≡ k
    same_of k e = cc

    by_case : (m k : ℕ) (d : Wires) → is_among (readers ++ w.rails ++ w.ack ∷ []) m ≡ false → k < length x.net.channels →
        (offer_at x.script k ≡ nothing) ⊎ (Some c ≡ Some k) → (offer_at x.script k ≡ nothing) ⊎ (is_wire (get_or x.net.channels k d) m ≡ false)
    by_case m k d apart less (inl none) = inl none
    by_case m k d apart less (inr e) =
        let at : get_or x.net.channels k d ≡ w =
        get_or_default x.net.channels k d w less ∙ ap (λ j. get_or x.net.channels j w) (sym (same_of k e)) ∙ sym here in
        let all = parts m apart in
        inr (ap (λ (v : Wires). is_wire v m) at ∙ or_from _ _ (ne_eqb m w.ack (λ same. eqb-false w.ack m all.2 (sym same))) (turned m w.rails all.1))

-- whether rules rest

not_all : (count n : ℕ) (p : ℕ → Bool) → n < count → p n ≡ false → all_below count p ≡ false
not_all zero n p within fails = absurd (omega arith)
not_all (suc m) n p within fails = by_place (cases_eq n m) (λ less. not_all m n p less fails)
  where
    by_place : (n ≡ m) ⊎ (n ≡ m → ⊥) → (n < m → all_below m p ≡ false) → (all_below m p && p m) ≡ false
    by_place (inl same) below = and_right _ _ (ap p (sym same) ∙ fails)
    by_place (inr apart) below = and_left _ _ (below (omega arith))

every : (count : ℕ) (p : ℕ → Bool) → ((n : ℕ) → n < count → p n ≡ true) → all_below count p ≡ true
every zero p all = refl
every (suc m) p all = and_from _ _ (every m p (λ n less. all n (omega arith))) (all m (omega arith))

all_at : (count n : ℕ) (p : ℕ → Bool) → all_below count p ≡ true → n < count → p n ≡ true
all_at zero n p all within = absurd (omega arith)
all_at (suc m) n p all within = by_place (cases_eq n m) (λ less. all_at m n p (and_parts (all_below m p) (p m) all).0 less)
  where
    by_place : (n ≡ m) ⊎ (n ≡ m → ⊥) → (n < m → p n ≡ true) → p n ≡ true
    by_place (inl same) below = ap p same ∙ (and_parts (all_below m p) (p m) all).1
    by_place (inr apart) below = below (omega arith)

goes : (net : NetValue) (v : ℕ → Bool) (n : ℕ) → n < length net.first → rule_enabled net v n ≡ true → rules_rest net v ≡ false
goes net v n within enabled = not_all (length net.first) n (λ m. not (rule_enabled net v m)) within (not_from_true _ enabled)

-- the reset node has no rule

reset_node : (net : NetValue) (n : ℕ) → IsNet net → is_reset net.reset n ≡ true → IsResetNode net n
reset_node net n is same = by_reset net.reset is.reset same
  where
    by_reset : (o : Option ℕ) → IsReset net o → is_reset o n ≡ true → IsResetNode net n
    by_reset None reset same = absurd (cc same)
    by_reset (Some r) reset same = subst (IsResetNode net) (sym (eqb-true n r same)) reset

no_rule : (net : NetValue) (v : ℕ → Bool) (n : ℕ) → IsResetNode net n → rule_enabled net v n ≡ false
no_rule net v n is = by_value (v n)
  where
    by_value : (b : Bool) → (if b then guard_holds v (down_of net n) else guard_holds v (up_of net n)) ≡ false
    by_value true = ap (guard_holds v) is.undriven.down
    by_value false = ap (guard_holds v) is.undriven.up

-- what may move, and what may move but for the reset node

same_off : (rule i rest free b : Bool) → b ≡ false → (rule || cond b (i && rest) free) ≡ (rule || (not b && free))
same_off rule i rest free true off = absurd (cc off)
same_off rule i rest free false off = refl

same_on : (rule i rest free b : Bool) → b ≡ true → (i && rest) ≡ false → (rule || cond b (i && rest) free) ≡ (rule || (not b && free))
same_on rule i rest free true on none = ap (λ t. rule || t) none
same_on rule i rest free false on none = absurd (cc on)

ruled : (rule i rest free b : Bool) → b ≡ true → i ≡ false → (rule || cond b (i && rest) free) ≡ true → rule ≡ true
ruled true i rest free b on other enabled = refl
ruled false true rest free b on other enabled = absurd (cc other)
ruled false false rest free true on other enabled = absurd (cc enabled)
ruled false false rest free false on other enabled = absurd (cc on)

unruled : (rule free b : Bool) → b ≡ true → rule ≡ false → (rule || (not b && free)) ≡ false
unruled true free b on none = absurd (cc none)
unruled false free true on none = refl
unruled false free false on none = absurd (cc on)

-- what the environment may do while no reset is on
abbrev free_at : IndexedValue → List ℕ → List Bool → ℕ → Bool
free_at x done values m = raises_go (high values) m || channels_move (high values) (offer_at x.script) (slice_index done) 0 x.net.channels m

pub ready_off : (x : IndexedValue) (done : List ℕ) (values : List Bool) (m : ℕ) → in_reset x.net.reset (high values) ≡ false →
    has_move x.net x.script done values m ≡ is_ready x done values m
ready_off x done values m off =
    same_off (rule_enabled x.net (high values) m) (is_reset x.net.reset m) (rules_rest x.net (high values)) (free_at x done values m)
    (in_reset x.net.reset (high values)) off

ready_on : (x : IndexedValue) (done : List ℕ) (values : List Bool) (m : ℕ) → in_reset x.net.reset (high values) ≡ true →
    (is_reset x.net.reset m && rules_rest x.net (high values)) ≡ false → has_move x.net x.script done values m ≡ is_ready x done values m
ready_on x done values m on none =
    same_on (rule_enabled x.net (high values) m) (is_reset x.net.reset m) (rules_rest x.net (high values)) (free_at x done values m)
    (in_reset x.net.reset (high values)) on none

-- before the move of another node than the reset node
ready_before : (x : IndexedValue) (was : List ℕ) (before : List Bool) (n m : ℕ) → n < length x.net.first → is_reset x.net.reset n ≡ false →
    has_move x.net x.script was before n ≡ true → has_move x.net x.script was before m ≡ is_ready x was before m
ready_before x was before n m within other enabled = by_reset (in_reset x.net.reset (high before)) refl
  where
    by_reset : (b : Bool) → in_reset x.net.reset (high before) ≡ b → has_move x.net x.script was before m ≡ is_ready x was before m
    by_reset false off = ready_off x was before m off
    by_reset true on =
        ready_on x was before m on (and_right _ _ (goes x.net (high before) n within (ruled (rule_enabled x.net (high before) n) (is_reset x.net.reset n)
        (rules_rest x.net (high before)) (free_at x was before n) (in_reset x.net.reset (high before)) on other enabled)))

-- behind it, of a node that could move before
ready_behind : (x : IndexedValue) (was done : List ℕ) (before : List Bool) (n m : ℕ) → IsNet x.net → is_reset x.net.reset n ≡ false →
    is_ready x was before m ≡ true → has_move x.net x.script done (fired before n) m ≡ is_ready x done (fired before n) m
ready_behind x was done before n m is other could = by_reset (in_reset x.net.reset (high (fired before n))) refl
  where
    not_reset : in_reset x.net.reset (high (fired before n)) ≡ true → (b : Bool) → is_reset x.net.reset m ≡ b → b ≡ false
    not_reset on false e = refl
    not_reset on true e =
        absurd (both_ways _ (unruled (rule_enabled x.net (high before) m) (free_at x was before m) (in_reset x.net.reset (high before))
        (sym (reset_kept x.net.reset before n other) ∙ on)
        (no_rule x.net (high before) m (reset_node x.net m is e))) could)

    by_reset : (b : Bool) → in_reset x.net.reset (high (fired before n)) ≡ b →
        has_move x.net x.script done (fired before n) m ≡ is_ready x done (fired before n) m
    by_reset false off = ready_off x done (fired before n) m off
    by_reset true on = ready_on x done (fired before n) m on (and_left _ _ (not_reset on (is_reset x.net.reset m) refl))

none_first : (count : ℕ) → None ≡ least_below count (λ k. false)
none_first count = sym (least_none count (λ k. false) (λ k less. refl))

-- behind a move of another node than the reset node
pub behind_near : (x : IndexedValue) (n : ℕ) (was done : List ℕ) (before values old new : List Bool) (lost : Option ℕ) → IsNet x.net → n < length x.net.first →
    is_reset x.net.reset n ≡ false → IsCountedMove x n was done before values old → IsRetestedNear x done values n old new lost →
    IsListedBehind x n was done before values new lost
behind_near x n was done before values old new lost is within other move tested =
    subst (λ (vs : List Bool). IsRetestedNear x done vs n old new lost → IsListedBehind x n was done before vs new lost) (sym move.values_are) listed tested
  where
    N : ℕ
    N = length x.net.first

    listed : IsRetestedNear x done (fired before n) n old new lost → IsListedBehind x n was done before (fired before n) new lost
    listed tested = record {
      set_is = record {
        count_is = tested.retested.count_is ∙ count;
        each = λ m less. tested.retested.each m (omega (arith, count)) ∙ settled m less (is_among tested.nodes m) refl;
      };
      lost_is = tested.retested.least (λ k. false) (none_first (length (set old n (Q n)))) ∙ ap (λ k. least_below k lost_one) count
          ∙ least_agrees (length x.net.first) lost_one _ (λ m less. taken m less (is_among tested.nodes m) refl (cases_eq m n));
    }
      where
        Q : ℕ → Bool
        Q = is_ready x done (fired before n)

        P : ℕ → Bool
        P = has_move x.net x.script was before

        H : ℕ → Bool
        H = has_move x.net x.script done (fired before n)

        lost_one : ℕ → Bool
        lost_one m = false || (is_among tested.nodes m && (is_member (set old n (Q n)) m && not (Q m)))

        count : length (set old n (Q n)) ≡ length x.net.first
        count = length-set old n (Q n) ∙ move.set_is.count_is

        same : (m : ℕ) → m < length x.net.first → m ≢ n → is_among tested.nodes m ≡ false → Q m ≡ P m
        same m less apart out =
            ready_near x was done before n m other apart (tested.near.readers m less out) (λ c d less is. tested.near.wires m c d out less is) move.counts_are
            ∙ sym (ready_before x was before n m within other move.enabled)

        based : (m : ℕ) → m < length x.net.first → m ≢ n → is_member (set old n (Q n)) m ≡ P m
        based m less apart = get_or-set_other old n m (Q n) false apart ∙ move.set_is.each m less

        settled : (m : ℕ) → m < length x.net.first → (b : Bool) → is_among tested.nodes m ≡ b → (if is_among tested.nodes m then Q m else is_member
            (set old n (Q n)) m) ≡ Q m
        settled m less true in_them = ap (λ b. cond b (Q m) (is_member (set old n (Q n)) m)) in_them
        settled m less false out =
            ap (λ b. cond b (Q m) (is_member (set old n (Q n)) m)) out ∙ by_place (cases_eq m n)
          where
            by_place : (m ≡ n) ⊎ (m ≡ n → ⊥) → is_member (set old n (Q n)) m ≡ Q m
            by_place (inl e) =
                ap (λ k. is_member (set old n (Q n)) k) e ∙ get_or-set_same old n (Q n) false (omega (arith, move.set_is.count_is)) ∙ ap Q (sym e)
            by_place (inr apart) = based m less apart ∙ sym (same m less apart out)

        still : (m : ℕ) → m < length x.net.first → (b : Bool) → P m ≡ b → (b && not (Q m)) ≡ (b && not (H m))
        still m less false e = refl
        still m less true e =
            ap not (sym (ready_behind x was done before n m is other (sym (ready_before x was before n m within other move.enabled) ∙ e)))

        taken : (m : ℕ) → m < length x.net.first → (b : Bool) → is_among tested.nodes m ≡ b → (m ≡ n) ⊎ (m ≡ n → ⊥) →
            (false || (is_among tested.nodes m && (is_member (set old n (Q n)) m && not (Q m)))) ≡ (not (m == n) && (P m && not (H m)))
        taken m less b in_them (inl e) =
            and_right _ _ (ap (λ k. is_member (set old n (Q n)) k && not (Q k)) e
            ∙ ap (λ t. t && not (Q n)) (get_or-set_same old n (Q n) false (omega (arith, move.set_is.count_is))) ∙ never (Q n))
            ∙ sym (and_left _ _ (not_from_true _ (eq-eqb m n e)))
          where
            never : (t : Bool) → (t && not t) ≡ false
            never true = refl
            never false = refl
        taken m less true in_them (inr apart) =
            ap (λ t. t && (is_member (set old n (Q n)) m && not (Q m))) in_them ∙ ap (λ t. t && not (Q m)) (based m less apart) ∙ still m less (P m) refl
            ∙ sym (ap (λ t. not t && (P m && not (H m))) (ne_eqb m n apart))
        taken m less false out (inr apart) =
            ap (λ t. t && (is_member (set old n (Q n)) m && not (Q m))) out ∙ sym (and_right _ _ (sym (still m less (P m) refl)
            ∙ ap (λ t. P m && not t) (same m less apart out) ∙ never (P m)))
          where
            never : (t : Bool) → (t && not t) ≡ false
            never true = refl
            never false = refl

-- the reset node is no wire

no_wire : (net : NetValue) (n : ℕ) (w : Wires) → first_at net n ≡ true → IsChannel net w → is_wire w n ≡ false
no_wire net n w up is = or_from _ _ (ne_eqb n w.ack (λ e. both_ways (first_at net n) (ap (first_at net) e ∙ is.ack_low) up)) (no_rail w.rails is.rails_low)
  where
    no_rail : (rails : List ℕ) → All (λ rail. first_at net rail ≡ false) rails → list_any (λ rail. n == rail) rails ≡ false
    no_rail [] low = refl
    no_rail (r ∷ rails) low =
        or_from _ _ (ne_eqb n r (λ e. both_ways (first_at net n) (ap (first_at net) e ∙ low 0 0 (omega arith)) up))
        (no_rail rails (λ k d less. low (suc k) d (omega arith)))

-- behind the move of the reset node nothing is lost, since nothing else could move
pub behind_reset : (x : IndexedValue) (n : ℕ) (was done : List ℕ) (before values old new : List Bool) → IsNet x.net → is_reset x.net.reset n ≡ true →
    IsCountedMove x n was done before values old → IsPassing (length x.net.first) (is_ready x done values) new →
    IsListedBehind x n was done before values new None
behind_reset x n was done before values old new is reset move passing = record {
  set_is = passing;
  lost_is = sym (least_none (length x.net.first) _ (λ m less. none m less (cases_eq m n)));
}
  where
    node : IsResetNode x.net n
    node = reset_node x.net n is reset

    v : ℕ → Bool
    v = high before

    unfree : free_at x was before n ≡ false
    unfree = or_from _ _ (and_left _ _ (ne_eqb n 0 (λ e. both_ways (first_at x.net n) (ap (first_at x.net) e ∙ is.go_low) node.high)))
        (channels_none v (offer_at x.script) (slice_index was) n 0 x.net.channels
        (λ k d less. not_offered v (get_or x.net.channels k d) _ _ n (no_wire x.net n (get_or x.net.channels k d) node.high (is.channels k d less))))

    held : (rule b i rest : Bool) → rule ≡ false → (rule || cond b (i && rest) (free_at x was before n)) ≡ true → (b ≡ true) × (rest ≡ true)
    held true b i rest none enabled = absurd (cc none)
    held false true true true none enabled = (refl, refl)
    held false true true false none enabled = absurd (cc enabled)
    held false true false rest none enabled = absurd (cc enabled)
    held false false i rest none enabled = absurd (both_ways (free_at x was before n) unfree enabled)

    resting : (in_reset x.net.reset v ≡ true) × (rules_rest x.net v ≡ true)
    resting = held (rule_enabled x.net v n) (in_reset x.net.reset v) (is_reset x.net.reset n) (rules_rest x.net v) (no_rule x.net v n node) move.enabled

    other_reset : (m : ℕ) → m ≢ n → is_reset x.net.reset m ≡ false
    other_reset m apart = by_reset x.net.reset reset
      where
        by_reset : (o : Option ℕ) → is_reset o n ≡ true → is_reset o m ≡ false
        by_reset None e = refl
        by_reset (Some r) e = ne_eqb m r (λ same. apart (same ∙ sym (eqb-true n r e)))

    unmoved : (rule b i rest f : Bool) → rule ≡ false → b ≡ true → i ≡ false → (rule || cond b (i && rest) f) ≡ false
    unmoved true b i rest f none on other = absurd (cc none)
    unmoved false true true rest f none on other = absurd (cc other)
    unmoved false true false rest f none on other = refl
    unmoved false false i rest f none on other = absurd (cc on)

    none : (m : ℕ) → m < length x.net.first → (m ≡ n) ⊎ (m ≡ n → ⊥) →
        (not (m == n) && (has_move x.net x.script was before m && not (has_move x.net x.script done values m))) ≡ false
    none m less (inl e) = and_left _ _ (not_from_true _ (eq-eqb m n e))
    none m less (inr apart) =
        and_right _ _ (and_left _ _ (unmoved (rule_enabled x.net v m) (in_reset x.net.reset v) (is_reset x.net.reset m)
        (rules_rest x.net v) (free_at x was before m)
        (not-true _ (all_at (length x.net.first) m (λ k. not (rule_enabled x.net v k)) resting.1 less)) resting.0 (other_reset m apart)))

-- the reset node's own move

pub reset_low : (x : IndexedValue) (done : List ℕ) (values marks : List Bool) → in_reset x.net.reset (high values) ≡ false →
    IsPassing (length x.net.first) (is_ready x done values) marks → IsPassing (length x.net.first) (has_move x.net x.script done values) marks
reset_low x done values marks off passing = record {
  count_is = passing.count_is;
  each = λ n less. passing.each n less ∙ sym (ready_off x done values n off);
}

not_empty : (marks : List Bool) → 0 < length (members marks) → (k : ℕ) × (k < length marks) × (is_member marks k ≡ true)
not_empty marks some = (
  get_or (members marks) 0 0,
  All-filter (is_member marks) (λ k. k < length marks) (range_with_len 0 (length marks)) (range_below (length marks)) 0 0 some,
  filter_passes (is_member marks) (range_with_len 0 (length marks)) 0 0 some,
)

pub reset_waits : (x : IndexedValue) (done : List ℕ) (values marks : List Bool) → in_reset x.net.reset (high values) ≡ true → 0 < length (members marks) →
    IsPassing (length x.net.first) (is_ready x done values) marks → IsPassing (length x.net.first) (has_move x.net x.script done values) marks
reset_waits x done values marks on some passing = record {
  count_is = passing.count_is;
  each = λ n less. passing.each n less ∙ sym (ready_on x done values n on (and_right _ _ going));
}
  where
    one : (k : ℕ) × (k < length marks) × (is_member marks k ≡ true)
    one = not_empty marks some

    ruled_there : (rule free b : Bool) → b ≡ true → (rule || (not b && free)) ≡ true → rule ≡ true
    ruled_there true free b on e = refl
    ruled_there false free true on e = absurd (cc e)
    ruled_there false free false on e = absurd (cc on)

    going : rules_rest x.net (high values) ≡ false
    going =
        goes x.net (high values) one.0 (omega (arith, one.1, passing.count_is))
        (ruled_there (rule_enabled x.net (high values) one.0) (free_at x done values one.0) (in_reset x.net.reset (high values)) on
        (sym (passing.each one.0 (omega (arith, one.1, passing.count_is))) ∙ one.2))

pub reset_falls : (x : IndexedValue) (done : List ℕ) (values marks : List Bool) (r : ℕ) → x.net.reset ≡ Some r → r < length x.net.first →
    high values r ≡ true → members marks ≡ [] → IsPassing (length x.net.first) (is_ready x done values) marks →
    IsPassing (length x.net.first) (has_move x.net x.script done values) (set marks r true)
reset_falls x done values marks r is within up empty passing = record {
  count_is = length-set marks r true ∙ passing.count_is;
  each = λ n less. by_place n less (cases_eq n r);
}
  where
    on : in_reset x.net.reset (high values) ≡ true
    on = ap (λ o. in_reset o (high values)) is ∙ up

    out : (n : ℕ) → n < length x.net.first → is_member marks n ≡ false
    out n less = sym (among_is (is_member marks) (length marks) n (omega (arith, passing.count_is))) ∙ ap (λ (xs : List ℕ). is_among xs n) empty

    unruled_there : (rule free b : Bool) → (rule || (not b && free)) ≡ false → rule ≡ false
    unruled_there rule free b none = (or_parts rule (not b && free) none).0

    still : (n : ℕ) → n < length x.net.first → rule_enabled x.net (high values) n ≡ false
    still n less = unruled_there (rule_enabled x.net (high values) n) (free_at x done values n) (in_reset x.net.reset (high values)) (sym (passing.each n less)
        ∙ out n less)

    resting : rules_rest x.net (high values) ≡ true
    resting = every (length x.net.first) (λ n. not (rule_enabled x.net (high values) n)) (λ n less. not_from_false _ (still n less))

    told : (rule b i rest f : Bool) → rule ≡ false → b ≡ true → rest ≡ true → i ≡ (rule || cond b (i && rest) f)
    told true b i rest f none on rests = absurd (cc none)
    told false true true true f none on rests = refl
    told false true false true f none on rests = refl
    told false true i false f none on rests = absurd (cc rests)
    told false false i rest f none on rests = absurd (cc on)

    moves : (n : ℕ) → n < length x.net.first → is_reset x.net.reset n ≡ has_move x.net x.script done values n
    moves n less = told (rule_enabled x.net (high values) n) (in_reset x.net.reset (high values)) (is_reset x.net.reset n) (rules_rest x.net (high values))
        (free_at x done values n) (still n less) on resting

    by_place : (n : ℕ) → n < length x.net.first → (n ≡ r) ⊎ (n ≡ r → ⊥) → is_member (set marks r true) n ≡ has_move x.net x.script done values n
    by_place n less (inl e) =
        ap (λ k. is_member (set marks r true) k) e ∙ get_or-set_same marks r true false (omega (arith, passing.count_is))
        ∙ sym (ap (λ o. is_reset o n) is ∙ eq-eqb n r e) ∙ moves n less
    by_place n less (inr apart) =
        get_or-set_other marks r n true false apart ∙ out n less ∙ sym (ap (λ o. is_reset o n) is ∙ ne_eqb n r apart) ∙ moves n less

pub reset_within : (net : NetValue) (r : ℕ) → IsNet net → net.reset ≡ Some r → r < length net.first
reset_within net r is at = let node = reset_node net r is (ap (λ o. is_reset o r) at ∙ eq-eqb r r refl) in omega (arith, node.last)
