-- From power-up two sweeps bring down reset: in the first each node goes to its first value, in the second reset falls.
--
-- ns, xs: moves; st: a state in which reset is high; k: a node.
use Rattle.std.proofs.Common.{◌≡◌, ◌≢◌, ◌⊎◌, ℕ, zero, suc, ◌<◌, ◌≤◌, Bool, true, false, None, List, [], ◌∷◌, ◌++◌, length, refl, sym, ap, ◌∙◌, subst, inl, inr, arith}
use Rattle.std.specs.Prelude.{◌==◌, ◌&&◌, not, Some, if◌then◌else◌}
use Rattle.std.proofs.lemmas.Bool.{cases_eq, cases_lt, eq-eqb, ne_eqb, both_ways, and_parts, or_left}
use Rattle.std.proofs.lemmas.List.{get_or-set_same, append_assoc}
use Rattle.prs_core.specs.Nets.{NetValue, IsNet, first_at}
use Rattle.prs_core.specs.Moves.{high}
use Rattle.reset_net.specs.Resets.{reset_of}
use Rattle.env_script.specs.Scripts.{OfferValue}
use Rattle.env_script.specs.Runs.{RunState, move_enabled, moved, after, IsRun, IsAtRest, IsPowered, begin_at, run_start, until_reset}
use Rattle.env_script.specs.OneLength.{AllSafe}
use Rattle.env_script.specs.Sweeps.{IsSweep, Sweeps}
use Rattle.env_script.proofs.Commuting.{kept}
use Rattle.env_script.proofs.Overtakes.{Among, among, after_on, run_parts}
use Rattle.reset_runs.specs.Power.{with_low, IsBefore, AfterReset, EachFromPower}
use Rattle.reset_runs.proofs.Driving.{driven, differs, strays, undriven_past, rule_high}
use Rattle.reset_runs.proofs.High.{IsHigh, high_at_first, stray_not_fall, goes_high, stray_next}
use Rattle.reset_runs.proofs.Fallen.{count_after, enabled_low, after_low}
use Rattle.net_pace.proofs.SweepLemmas.{among_first, among_last, sweeps_behind}

is_among : (xs : List ℕ) (x : ℕ) → Among xs x ⊎ (Among xs x → ⊥)
is_among [] x = inr (λ i. i)
is_among (y ∷ xs) x = by (cases_eq y x) (is_among xs x)
  where
    by : (y ≡ x) ⊎ (y ≡ x → ⊥) → Among xs x ⊎ (Among xs x → ⊥) → Among (y ∷ xs) x ⊎ (Among (y ∷ xs) x → ⊥)
    by (inl e) more = inl (inl e)
    by (inr ne) (inl i) = inl (inr i)
    by (inr ne) (inr off) = inr (λ i. neither i)
      where
        neither : Among (y ∷ xs) x → ⊥
        neither (inl e) = ne e
        neither (inr i) = off i

-- the value of a node that strays, turned
turned : (x y : Bool) → differs x y ≡ true → differs (not x) y ≡ false
turned true true e = absurd (cc e)
turned true false e = refl
turned false true e = refl
turned false false e = absurd (cc e)

neither : (b : Bool) → (b && false) ≡ false
neither true = refl
neither false = refl

module _ (net : NetValue) (is : IsNet net) (script : List OfferValue) where
  -- only nodes that stray move while reset is high
  abbrev Strays : RunState → ℕ → Type 0
  Strays st k = strays net (high st.values) k ≡ true

  abbrev Still : RunState → ℕ → Type 0
  Still st k = strays net (high st.values) k ≡ false

  moves_stray : (st : RunState) → IsHigh net st → (n : ℕ) → n ≢ length net.first → move_enabled (reset_of net) script st n ≡ true → Strays st n
  moves_stray st h n other on = stray_not_fall net is script st h n (ne_eqb n (length net.first) other) on

  next_high : (st : RunState) → IsHigh net st → (n : ℕ) → n ≢ length net.first → move_enabled (reset_of net) script st n ≡ true
      → IsHigh net (moved (reset_of net) st n)
  next_high st h n other on = stray_next net is script st h n (moves_stray st h n other on)

  runs_high : (ns : List ℕ) (st : RunState) → IsHigh net st → (Among ns (length net.first) → ⊥) → IsRun (reset_of net) script st ns
      → IsHigh net (after (reset_of net) st ns)
  runs_high [] st h off run = h
  runs_high (n ∷ ns) st h off run =
      runs_high ns (moved (reset_of net) st n) (next_high st h n (λ e. off (inl e)) run.0) (λ i. off (inr i)) run.1

  -- a node at its first value stays there
  stays_first : (ns : List ℕ) (st : RunState) → IsHigh net st → (Among ns (length net.first) → ⊥) → IsRun (reset_of net) script st ns → (k : ℕ) → Still st k
      → Still (after (reset_of net) st ns) k
  stays_first [] st h off run k still = still
  stays_first (n ∷ ns) st h off run k still =
      stays_first ns (moved (reset_of net) st n) (next_high st h n (λ e. off (inl e)) run.0) (λ i. off (inr i)) run.1 k
      (ap (λ b. driven net k && differs b (first_at net k)) (kept st.values n k apart) ∙ still)
    where
      apart : k ≢ n
      apart same = both_ways _ still (subst (λ m. Strays st m) (sym same) (moves_stray st h n (λ e. off (inl e)) run.0))

  -- a node that moves goes to its first value
  goes_first : (ns : List ℕ) (st : RunState) → IsHigh net st → (Among ns (length net.first) → ⊥) → IsRun (reset_of net) script st ns → (k : ℕ) → Among ns k
      → Still (after (reset_of net) st ns) k
  goes_first [] st h off run k i = absurd i
  goes_first (n ∷ ns) st h off run k (inl e) =
      subst (λ m. Still (after (reset_of net) st (n ∷ ns)) m) e
      (stays_first ns (moved (reset_of net) st n) (next_high st h n (λ e. off (inl e)) run.0) (λ i. off (inr i)) run.1 n there)
    where
      there : Still (moved (reset_of net) st n) n
      there = by (cases_lt n (length net.first)) (and_parts _ _ (moves_stray st h n (λ e. off (inl e)) run.0))
        where
          by : (n < length net.first) ⊎ (length net.first ≤ n) → (driven net n ≡ true) × (differs (high st.values n) (first_at net n) ≡ true)
              → Still (moved (reset_of net) st n) n
          by (inl within) on =
              ap (λ b. driven net n && differs b (first_at net n))
              (get_or-set_same st.values n (not (high st.values n)) false (let c = h.count in omega (arith, within, c)))
              ∙ (ap (λ b. driven net n && b) (turned (high st.values n) (first_at net n) on.1) ∙ neither (driven net n))
          by (inr past) on = absurd (both_ways (driven net n) (undriven_past net is n past) on.0)
  goes_first (n ∷ ns) st h off run k (inr i) =
      goes_first ns (moved (reset_of net) st n) (next_high st h n (λ e. off (inl e)) run.0) (λ i. off (inr i)) run.1 k i

  -- behind a sweep all nodes have their first values
  none_stray : (ns : List ℕ) (st : RunState) → IsHigh net st → (Among ns (length net.first) → ⊥) → IsRun (reset_of net) script st ns
      → IsSweep (reset_of net) script st ns → (k : ℕ) → Still (after (reset_of net) st ns) k
  none_stray ns st h off run sweep k = by (strays net (high st.values) k) refl
    where
      by : (b : Bool) → strays net (high st.values) k ≡ b → Still (after (reset_of net) st ns) k
      by false e = stays_first ns st h off run k e
      by true e = goes_first ns st h off run k (among ns k (sweep k (or_left _ _ (rule_high net is (high st.values) h.up k ∙ e))))

  -- so that reset may fall
  falls_next : (st : RunState) → IsHigh net st → ((k : ℕ) → Still st k) → move_enabled (reset_of net) script st (length net.first) ≡ true
  falls_next st h none = by (move_enabled (reset_of net) script st (length net.first)) refl
    where
      rests : move_enabled (reset_of net) script st (length net.first) ≡ false → IsAtRest (reset_of net) script st
      rests low k = at (move_enabled (reset_of net) script st k) refl (cases_eq k (length net.first))
        where
          at : (b : Bool) → move_enabled (reset_of net) script st k ≡ b → (k ≡ length net.first) ⊎ (k ≡ length net.first → ⊥) → b ≡ false
          at false e place = refl
          at true e (inl same) = absurd (both_ways _ low (subst (λ m. move_enabled (reset_of net) script st m ≡ true) same e))
          at true e (inr other) = absurd (both_ways _ (none k) (moves_stray st h k other e))

      by : (b : Bool) → move_enabled (reset_of net) script st (length net.first) ≡ b → b ≡ true
      by true e = refl
      by false e = absurd (goes_high net is script st h (rests e))

  two_sweeps : (xs ys : List ℕ) (st : RunState) → IsHigh net st → IsRun (reset_of net) script st (xs ++ ys) → IsSweep (reset_of net) script st xs
      → IsSweep (reset_of net) script (after (reset_of net) st xs) ys → Among (xs ++ ys) (length net.first)
  two_sweeps xs ys st h run first second = by (is_among xs (length net.first))
    where
      by : Among xs (length net.first) ⊎ (Among xs (length net.first) → ⊥) → Among (xs ++ ys) (length net.first)
      by (inl i) = among_first xs ys (length net.first) i
      by (inr off) =
          let one = (run_parts (reset_of net) script st xs ys run).0 in
          let there = runs_high xs st h off one in
          among_last xs ys (length net.first)
          (among ys (length net.first)
          (second (length net.first) (falls_next (after (reset_of net) st xs) there (none_stray xs st h off one first))))

-- where reset falls the moves before it are cut off
cut : (r : ℕ) (xs ys : List ℕ) → Among xs r → until_reset (Some r) (xs ++ ys) ≡ until_reset (Some r) xs
cut r [] ys i = absurd i
cut r (x ∷ xs) ys i = by (x == r) refl i (cut r xs ys)
  where
    by : (b : Bool) → (x == r) ≡ b → Among (x ∷ xs) r → (Among xs r → until_reset (Some r) (xs ++ ys) ≡ until_reset (Some r) xs)
        → (if b then [] else x ∷ until_reset (Some r) (xs ++ ys)) ≡ (if b then [] else x ∷ until_reset (Some r) xs)
    by true e j later = refl
    by false e (inl same) later = absurd (both_ways (x == r) e (eq-eqb x r same))
    by false e (inr j) later = ap (λ l. x ∷ l) (later j)

not_whole : (r : ℕ) (xs : List ℕ) → Among xs r → until_reset (Some r) xs ≢ xs
not_whole r [] i = absurd i
not_whole r (x ∷ xs) i = by (x == r) refl i (not_whole r xs)
  where
    by : (b : Bool) → (x == r) ≡ b → Among (x ∷ xs) r → (Among xs r → until_reset (Some r) xs ≢ xs) → (if b then [] else x ∷ until_reset (Some r) xs) ≢ x ∷ xs
    by true e j later same = absurd (cc same)
    by false e (inl here) later same = absurd (both_ways (x == r) e (eq-eqb x r here))
    by false e (inr j) later same = let z : until_reset (Some r) xs ≡ xs = cc same in later j z

cancelled : (xs ys zs : List ℕ) → xs ++ ys ≡ xs ++ zs → ys ≡ zs
cancelled [] ys zs e = e
cancelled (x ∷ xs) ys zs e = let z : xs ++ ys ≡ xs ++ zs = cc e in cancelled xs ys zs z

module _ (net : NetValue) (is : IsNet net) (plain : net.reset ≡ None) (script : List OfferValue) where
  -- sweeps when reset has fallen are those of the net without it
  sweeps_low : (k : ℕ) (ns : List ℕ) (st : RunState) → length st.values ≡ length net.first → IsRun net script st ns
      → Sweeps (reset_of net) script (with_low st) k ns → Sweeps net script st k ns
  sweeps_low zero ns st count run s = tt
  sweeps_low (suc k) ns st count run s =
      let parts = run_parts net script st s.0 s.1 (subst (λ l. IsRun net script st l) s.2 run) in (
        s.0,
        s.1,
        s.2,
        (λ n on. s.3 n (enabled_low net is plain script st count n ∙ on)),
        sweeps_low k s.1 (after net st s.0) (count_after net s.0 st ∙ count) parts.1
            (subst (λ (x : RunState). Sweeps (reset_of net) script x k s.1) (after_low net is plain script s.0 st count parts.0) s.4),
      )

  -- the run since reset fell, with as many sweeps
  pub record Since (values : List Bool) (moves : List ℕ) (k : ℕ) : Type 0 where
    pub since : List ℕ
    pub run : IsRun net script (run_start net) since
    pub ends : after (reset_of net) (begin_at (reset_of net) values) moves ≡ with_low (after net (run_start net) since)
    pub sweeps : Sweeps net script (run_start net) k since

  pub since_reset : EachFromPower net → AllSafe net script (run_start net) → (values : List Bool) → IsPowered (reset_of net) values → (moves : List ℕ)
      → IsRun (reset_of net) script (begin_at (reset_of net) values) moves → (k : ℕ)
      → Sweeps (reset_of net) script (begin_at (reset_of net) values) (suc (suc k)) moves → Since values moves k
  since_reset each safe values powered moves run k (xs, more, e, first, (ys, later, f, second, rest)) =
      by (each script values powered moves run).course (each script values powered front front_run).course
    where
      R : NetValue
      R = reset_of net

      st : RunState
      st = begin_at R values

      front : List ℕ
      front = xs ++ ys

      whole : moves ≡ front ++ later
      whole = e ∙ (ap (λ l. xs ++ l) f ∙ sym (append_assoc xs ys later))

      parts : IsRun R script st front × IsRun R script (after R st front) later
      parts = run_parts R script st front later (subst (λ l. IsRun R script st l) whole run)

      front_run : IsRun R script st front
      front_run = parts.0

      fell : Among front (length net.first)
      fell = two_sweeps net is script xs ys st (high_at_first net is values powered) front_run first second

      by : IsBefore net script st moves ⊎ AfterReset net script st moves → IsBefore net script st front ⊎ AfterReset net script st front → Since values moves k
      by (inl b) other = absurd (not_whole (length net.first) moves
          (subst (λ l. Among l (length net.first)) (sym whole) (among_first front later (length net.first) fell)) b.whole)
      by (inr b) (inl c) = absurd (not_whole (length net.first) front fell c.whole)
      by (inr b) (inr c) =
          let until = until_reset (Some (length net.first)) front in
          let same : until ++ length net.first ∷ b.since ≡ until ++ length net.first ∷ (c.since ++ later) =
          ap (λ l. l ++ length net.first ∷ b.since) (sym (ap (until_reset (Some (length net.first))) whole ∙ cut (length net.first) front later fell))
          ∙ (sym b.whole ∙ (whole ∙ (ap (λ l. l ++ later) c.whole ∙ append_assoc until (length net.first ∷ c.since) later))) in
          let tail : length net.first ∷ b.since ≡ length net.first ∷ (c.since ++ later) =
          cancelled until (length net.first ∷ b.since) (length net.first ∷ (c.since ++ later)) same in
          let parted : b.since ≡ c.since ++ later = cc tail in
          let later_run = (run_parts net script (run_start net) c.since later (subst (λ l. IsRun net script (run_start net) l) parted b.run)).1 in
          let there = subst (λ (x : RunState). Sweeps R script x k later) (sym (after_on R script st xs ys) ∙ c.ends) rest in
          record {
            since = b.since;
            run = b.run;
            ends = b.ends;
            sweeps = subst (λ l. Sweeps net script (run_start net) k l) (sym parted)
                (sweeps_behind net script k c.since later (run_start net) safe c.run
                (sweeps_low k later (after net (run_start net) c.since) (count_after net c.since (run_start net)) later_run there));
          }
