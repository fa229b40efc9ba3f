-- In two states of which the one stands for the other the guards of a node say the same in both nets, and so the same nodes
-- are enabled.
--
-- M, A, B, S, cur, st, far: as in MapStates; vv, uu: values of the nodes of A and of B; n, m: numbers of nodes there;
-- r: a node that has one number in both nets; s, t: nodes of A and of B.
use Rattle.std.proofs.Common.{◌≡◌, ◌≢◌, ℕ, ◌<◌, ◌==◌, Bool, true, false, sym, ap, ◌∙◌, ⊎_elim}
use Rattle.std.specs.Prelude.{not, ◌&&◌, ◌||◌, if◌then◌else◌}
use Rattle.std.proofs.lemmas.Bool.{cases_eq, eq-eqb, ne_eqb}
use Rattle.prs_core.specs.Nets.{NetValue, up_of, down_of}
use Rattle.prs_core.specs.Moves.{high, guard_holds, rule_enabled}
use Rattle.env_script.specs.Scripts.{offer_at}
use Rattle.env_script.specs.Environment.{env_enabled, raises_go, channels_move}
use Rattle.env_script.specs.Runs.{RunState, completed}
use Rattle.call_map.specs.Shared.{Here, plain, asks, enters, body, There, plainly, asked, copied, IsHere, IsThere, IsInStep, IsBodyAlike, SameGuards}
use Rattle.call_map.proofs.Truths.{or_false}
use Rattle.net_compose.proofs.Renamed.{channels_same, go_same, quiet}
use Rattle.call_map.proofs.MapNodes.{no_return, plain_key, plainly_key, v, u, back, IsOwn, IsFar, not_plain, not_plainly, own_back}
use Rattle.call_map.proofs.MapStates.{Mapping, shared_net, copies_net, may, may_there, is_back}

module _ (M : Mapping) where
  open M use {S, is, script, ws, Reached, next, safe, keeps}

  abbrev A : NetValue
  A = shared_net M

  abbrev B : NetValue
  B = copies_net M

  pub beyond_here : (s : Here) → IsHere S s → IsOwn S s → (r : ℕ) → r < S.low → (S.here s == r) ≡ false
  beyond_here s h own r l =
      let z = is.low_plain r l in
      ne_eqb (S.here s) r (λ e. not_plain S s r own (is.here_apart s (plain r) h z.0 (e ∙ sym z.1)))

  pub beyond_there : (t : There) → IsThere S t → IsFar S t → (r : ℕ) → r < S.low → (S.there t == r) ≡ false
  beyond_there t h own r l =
      let z = is.low_plain r l in
      ne_eqb (S.there t) r (λ e. not_plainly S t r own (is.there_apart t (plainly r) h z.0 (e ∙ sym z.2)))

  plain_tests : (k : ℕ) → S.is_plain k ≡ true → (r : ℕ) → r < S.low → (S.here (plain k) == r) ≡ (S.there (plainly k) == r)
  plain_tests k h r l =
      let z = is.low_plain r l in
      ⊎_elim
      (λ (e : k ≡ r). eq-eqb (S.here (plain k)) r (ap (λ j. S.here (plain j)) e ∙ z.1)
      ∙ sym (eq-eqb (S.there (plainly k)) r (ap (λ j. S.there (plainly j)) e ∙ z.2)))
      (λ (ne : k ≢ r). ne_eqb (S.here (plain k)) r (λ e. ne (plain_key k r (is.here_apart (plain k) (plain r) h z.0 (e ∙ sym z.1))))
      ∙ sym (ne_eqb (S.there (plainly k)) r (λ e. ne (plainly_key k r (is.there_apart (plainly k) (plainly r) h z.0 (e ∙ sym z.2))))))
      (cases_eq k r)

  pub back_tests : (t : There) → IsThere S t → (r : ℕ) → r < S.low → (S.here (back S t) == r) ≡ (S.there t == r)
  back_tests (plainly k) h r l = plain_tests k h r l
  back_tests (asked c) h r l = beyond_here (enters (S.of c)) (is.of_below c h) tt r l ∙ sym (beyond_there (asked c) h tt r l)
  back_tests (copied c x) h r l = beyond_here (back S (copied c x)) (is_back M (copied c x) h) (own_back S (copied c x) tt) r l
      ∙ sym (beyond_there (copied c x) h tt r l)

  -- the environment moves no others
  pub env_none : (vv : ℕ → Bool) (done : ℕ → ℕ) (n : ℕ) → ((r : ℕ) → r < S.low → (n == r) ≡ false)
      → (raises_go vv n || channels_move vv (offer_at script) done 0 ws n) ≡ false
  env_none vv done n beyond =
      ap (λ z. (z && not (vv 0)) || channels_move vv (offer_at script) done 0 ws n) (beyond 0 is.some)
      ∙ quiet vv S.low n beyond (offer_at script) done 0 ws is.wires

  pub rule_here : (st : RunState) (s : Here) → IsHere S s → IsOwn S s → may M st s ≡ rule_enabled A (high st.values) (S.here s)
  rule_here st s h own =
      ap (λ z. rule_enabled A (high st.values) (S.here s) || z) (env_none (high st.values) (completed st.histories) (S.here s) (beyond_here s h own))
      ∙ or_false (rule_enabled A (high st.values) (S.here s))

  rule_there : (far : RunState) (t : There) → IsThere S t → IsFar S t → may_there M far t ≡ rule_enabled B (high far.values) (S.there t)
  rule_there far t h own =
      ap (λ z. rule_enabled B (high far.values) (S.there t) || z) (env_none (high far.values) (completed far.histories) (S.there t) (beyond_there t h own))
      ∙ or_false (rule_enabled B (high far.values) (S.there t))

  rules_alike : (vv uu : ℕ → Bool) (n m : ℕ) → vv n ≡ uu m → SameGuards A B vv uu n m → rule_enabled A vv n ≡ rule_enabled B uu m
  rules_alike vv uu n m e g =
      ap (λ z. if z then guard_holds vv (down_of A n) else guard_holds vv (up_of A n)) e
      ∙ (ap (λ z. if uu m then z else guard_holds vv (up_of A n)) g.1 ∙ ap (λ z. if uu m then guard_holds uu (down_of B m) else z) g.0)

  pub low_alike : (cur : ℕ → ℕ) (vv uu : ℕ → Bool) → IsInStep S cur vv uu → (r : ℕ) → r < S.low → vv r ≡ uu r
  low_alike cur vv uu a r l = let z = is.low_plain r l in ap vv (sym z.1) ∙ (a.plain r z.0 ∙ ap uu z.2)

  pub plain_same : (cur : ℕ → ℕ) (st far : RunState) → IsInStep S cur (high st.values) (high far.values) → st.histories ≡ far.histories
      → (k : ℕ) → S.is_plain k ≡ true → may M st (plain k) ≡ may_there M far (plainly k)
  plain_same cur st far a hist k h =
      let vv = high st.values in
      let uu = high far.values in
      let n = S.here (plain k) in
      let m = S.there (plainly k) in
      ap (λ z. z || env_enabled A script (completed st.histories) vv n) (rules_alike vv uu n m (a.plain k h) (is.plain_rules cur vv uu a k h))
      ∙ (ap (λ hs. rule_enabled B uu m || env_enabled A script (completed hs) vv n) hist
      ∙ (ap (λ z. rule_enabled B uu m || (z || channels_move vv (offer_at script) (completed far.histories) 0 ws n))
      (go_same vv uu S.low n m (low_alike cur vv uu a) (a.plain k h) (plain_tests k h) is.some)
      ∙ ap (λ z. rule_enabled B uu m || (raises_go uu m || z))
      (channels_same vv uu S.low n m (low_alike cur vv uu a) (a.plain k h) (plain_tests k h) (offer_at script) (completed far.histories) 0 ws is.wires)))

  pub asks_same : (cur : ℕ → ℕ) (st far : RunState) → IsInStep S cur (high st.values) (high far.values) → (c : ℕ) → c < S.calls
      → v S st (asks c) ≡ u S far (asked c) → may M st (asks c) ≡ may_there M far (asked c)
  asks_same cur st far a c l e =
      rule_here st (asks c) l tt ∙ (rules_alike (high st.values) (high far.values) (S.here (asks c)) (S.there (asked c)) e
      (is.asks_rules cur (high st.values) (high far.values) a c l) ∙ sym (rule_there far (asked c) l tt))

  pub asks_late : (cur : ℕ → ℕ) (st far : RunState) → Reached far → IsInStep S cur (high st.values) (high far.values) → (c : ℕ) → c < S.calls
      → v S st (asks c) ≡ not (u S far (asked c)) → may_there M far (asked c) ≡ true → may M st (asks c) ≡ false
  asks_late cur st far re a c l e on =
      let vv = high st.values in
      let uu = high far.values in
      let n = S.here (asks c) in
      let m = S.there (asked c) in
      let g = is.asks_rules cur vv uu a c l in
      rule_here st (asks c) l tt
      ∙ no_return (vv n) (uu m) (guard_holds vv (up_of A n)) (guard_holds vv (down_of A n)) (guard_holds uu (up_of B m))
      (guard_holds uu (down_of B m)) e g.0 g.1
      (sym (rule_there far (asked c) l tt) ∙ on) ((safe far re).apart m)

  pub body_same : (st far : RunState) (c x : ℕ) → c < S.calls → IsBodyAlike S c (high st.values) (high far.values) → x < S.size (S.of c)
      → may M st (body (S.of c) x) ≡ may_there M far (copied c x)
  body_same st far c x l a h =
      rule_here st (body (S.of c) x) (is.of_below c l, h) tt
      ∙ (rules_alike (high st.values) (high far.values) (S.here (body (S.of c) x)) (S.there (copied c x)) (a.inside x h)
      (is.body_rules c (high st.values) (high far.values) l a x h) ∙ sym (rule_there far (copied c x) (l, h) tt))
