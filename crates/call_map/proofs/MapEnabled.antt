-- Which nodes of a call may move, by how far it is: where its answer is owed the body is still, where its request is owed
-- nothing in the body moves, and another call of the procedure is asked only where all is low.
--
-- M, A, B, S, cur, st, far: as in MapStates; c: the call under way; j: another one of its procedure; in hypotheses rq, dq,
-- aq: what its request, the body's answer and its own are beside the body's request.
use Rattle.std.proofs.Common.{◌≡◌, ◌≢◌, ℕ, ◌<◌, Bool, true, false, length, refl, sym, ap, ◌∙◌, arith, length-set, get_or-set_same, get_or-set_other, ⊎_elim}
use Rattle.std.specs.Prelude.{not, ◌&&◌, ◌||◌, if◌then◌else◌}
use Rattle.std.proofs.lemmas.Bool.{cases_eq}
use Rattle.prs_core.specs.Nets.{NetValue, up_of, down_of}
use Rattle.prs_core.specs.Moves.{high, guard_holds, rule_enabled}
use Rattle.env_script.specs.Runs.{RunState, moved}
use Rattle.call_map.specs.Shared.{Here, asks, answers, enters, body, There, plainly, asked, copied, IsHere, IsThere, IsBodyAlike, IsBusy, body_end, pulled_up, pulled_down}
use Rattle.call_map.proofs.Truths.{or_low, and_false, not_not, no_not, true_false, is_false}
use Rattle.call_map.proofs.MapNodes.{asked_same, level, asking, giving, v, u, end}
use Rattle.call_map.proofs.MapStates.{Mapping, shared_net, copies_net, may, may_there, PhaseOf, Tells, within_end, passed, given, inside, body_alike, alike}
use Rattle.call_map.proofs.MapGuards.{rule_here, asks_same, asks_late, body_same}

module _ (M : Mapping) where
  open M use {S, is, script, ws, Reached, next, safe, keeps}

  abbrev A : NetValue
  A = shared_net M

  abbrev B : NetValue
  B = copies_net M

  -- one node moves, all others stay
  pub same_here : (st : RunState) (s t : Here) → IsHere S s → IsHere S t → t ≢ s → v S (moved A st (S.here s)) t ≡ v S st t
  same_here st s t hs ht ne = get_or-set_other st.values (S.here s) (S.here t) (not (high st.values (S.here s))) false
      (λ e. ne (is.here_apart t s ht hs e))

  pub turned_here : (st : RunState) (s : Here) → length st.values ≡ S.count → IsHere S s → v S (moved A st (S.here s)) s ≡ not (v S st s)
  turned_here st s long h = get_or-set_same st.values (S.here s) (not (high st.values (S.here s))) false
      (let a = is.here_below s h in omega (arith, a, long))

  pub same_there : (far : RunState) (s t : There) → IsThere S s → IsThere S t → t ≢ s → u S (moved B far (S.there s)) t ≡ u S far t
  same_there far s t hs ht ne = get_or-set_other far.values (S.there s) (S.there t) (not (high far.values (S.there s))) false
      (λ e. ne (is.there_apart t s ht hs e))

  pub turned_there : (far : RunState) (t : There) → length far.values ≡ S.count_there → IsThere S t → u S (moved B far (S.there t)) t ≡ not (u S far t)
  turned_there far t long h = get_or-set_same far.values (S.there t) (not (high far.values (S.there t))) false
      (let a = is.there_below t h in omega (arith, a, long))

  pub stays_on : (far : RunState) → Reached far → (s t : There) → IsThere S s → IsThere S t → may_there M far s ≡ true → t ≢ s → may_there M far t ≡ true
      → may_there M (moved B far (S.there s)) t ≡ true
  stays_on far re s t hs ht on ne more = let z = (safe far re).each (S.there s) on in z.stable (S.there t) (λ e. ne (is.there_apart t s ht hs e)) more

  -- a call whose answer is owed: its body is still, and its request stays
  module _ (cur : ℕ → ℕ) (st far : RunState) (t : Tells M cur st far) (c : ℕ) (l : c < S.calls) (on : cur (S.of c) ≡ c)
      (rq : v S st (asks c) ≡ v S st (enters (S.of c))) (dq : v S st (body_end S c) ≡ v S st (enters (S.of c)))
      (aq : v S st (answers c) ≡ not (v S st (enters (S.of c)))) (owes : may_there M far (copied c (end S c)) ≡ true) where
    abbrev fired_there : RunState
    fired_there = moved B far (S.there (copied c (end S c)))

    pub giving_alike : IsBodyAlike S c (high st.values) (high fired_there.values)
    giving_alike =
        let w = within_end M c l in
        let is_copy : IsThere S (copied c (end S c)) = (l, w) in
        record {
          plain = λ k h. sym (same_there far (copied c (end S c)) (plainly k) is_copy h (λ e. cc) ∙ t.shows (plainly k) h tt);
          request = sym (same_there far (copied c (end S c)) (asked c) is_copy l (λ e. cc) ∙ passed M cur st far t c l on);
          inside = λ x h. ⊎_elim
              (λ (at : x ≡ end S c). ap (λ y. v S st (body (S.of c) y)) at ∙ (dq ∙ (sym (turned_there far (copied c (end S c)) t.long_there is_copy
              ∙ (ap not (given M cur st far t c l on ∙ aq) ∙ not_not (v S st (enters (S.of c))))) ∙ ap (λ y. u S fired_there (copied c y)) (sym at))))
              (λ (ne : x ≢ end S c). sym (same_there far (copied c (end S c)) (copied c x) is_copy (l, h) (λ e. ne (node_same c x (end S c) e))
              ∙ inside M cur st far t c l on x h ne))
              (cases_eq x (end S c));
        }
      where
        node_same : (k x y : ℕ) → copied k x ≡ copied k y → x ≡ y
        node_same k x y e = cc

    pub giving_still : (x : ℕ) → x < S.size (S.of c) → may M st (body (S.of c) x) ≡ false
    giving_still x h =
        let is_copy : IsThere S (copied c (end S c)) = (l, within_end M c l) in
        let far_on = next far (S.there (copied c (end S c))) t.reached owes in
        let even : u S fired_there (asked c) ≡ u S fired_there (copied c (end S c)) =
        sym giving_alike.request ∙ (sym dq ∙ giving_alike.inside (end S c) (within_end M c l)) in
        body_same M st fired_there c x l giving_alike h ∙ (keeps fired_there far_on).quiet c x l h even

    pub giving_asked : may M st (asks c) ≡ false
    giving_asked =
        let a = alike M cur st far t in
        let p = passed M cur st far t c l on in
        let g = given M cur st far t c l on in
        is_false (may M st (asks c)) (λ e.
        let turn = (keeps far t.reached).turn c l (sym (asks_same M cur st far a c l (rq ∙ sym p)) ∙ e) in
        no_not (v S st (enters (S.of c))) (sym p ∙ (turn ∙ (g ∙ aq))))

  -- a call whose request is owed: nothing in its body moves
  pub asking_still : (cur : ℕ → ℕ) (st far : RunState) (t : Tells M cur st far) (c : ℕ) (l : c < S.calls) (on : cur (S.of c) ≡ c)
      → v S st (body_end S c) ≡ v S st (enters (S.of c)) → v S st (answers c) ≡ v S st (enters (S.of c))
      → (x : ℕ) → x < S.size (S.of c) → may M st (body (S.of c) x) ≡ false
  asking_still cur st far t c l on dq aq x h =
      body_same M st far c x l (body_alike M cur st far t c l on (dq ∙ sym aq)) h
      ∙ (keeps far t.reached).quiet c x l h (passed M cur st far t c l on ∙ (sym aq ∙ sym (given M cur st far t c l on)))

  pub asking_asked : (cur : ℕ → ℕ) (st far : RunState) (t : Tells M cur st far) (c : ℕ) (l : c < S.calls) (on : cur (S.of c) ≡ c)
      → v S st (asks c) ≡ not (v S st (enters (S.of c))) → may_there M far (asked c) ≡ true → may M st (asks c) ≡ false
  asking_asked cur st far t c l on rq owes = asks_late M cur st far t.reached (alike M cur st far t) c l (rq ∙ ap not (sym (passed M cur st far t c l on))) owes

  -- another call of the procedure is asked only where all in this one is low
  pub record AllLow (st : RunState) (c : ℕ) : Type 0 where
    pub asked : v S st (asks c) ≡ false
    pub entered : v S st (enters (S.of c)) ≡ false
    pub ended : v S st (body_end S c) ≡ false
    pub answered : v S st (answers c) ≡ false

  module _ (cur : ℕ → ℕ) (st far : RunState) (t : Tells M cur st far) (c j : ℕ) (l : c < S.calls) (m : j < S.calls)
      (on : cur (S.of c) ≡ c) (together : S.of j ≡ S.of c) (ne : j ≢ c) where
    other_off : cur (S.of j) ≢ j
    other_off e = ne (sym e ∙ (ap cur together ∙ on))

    pub other_may : may M st (asks j) ≡ may_there M far (asked j)
    other_may = asks_same M cur st far (alike M cur st far t) j m ((t.idle j m other_off).0 ∙ sym (t.blank (asked j) m other_off))

    -- where a state has the copies of both busy
    both_busy : (x : RunState) → Reached x → IsBusy S x c → IsBusy S x j → ⊥
    both_busy x re a b = ne (sym ((keeps x re).alone c j l m (sym together) a b))

    busy_asked : (x : RunState) (k : ℕ) → u S x (asked k) ≡ true → IsBusy S x k
    busy_asked x k e = ap (λ z. z || u S x (copied k (end S k))) e

    abbrev far_j : RunState
    far_j = moved B far (S.there (asked j))

    pub other_low : may M st (asks j) ≡ true → AllLow st c
    other_low e =
        let far_on : may_there M far (asked j) ≡ true = sym other_may ∙ e in
        let low : (u S far (asked c) || u S far (copied c (end S c))) ≡ false = is_false _ (λ busy. by_busy far_on busy) in
        let both = or_low (u S far (asked c)) (u S far (copied c (end S c))) low in
        let q : v S st (enters (S.of c)) ≡ false = sym (passed M cur st far t c l on) ∙ both.0 in
        let a : v S st (answers c) ≡ false = sym (given M cur st far t c l on) ∙ both.1 in
        by_phase far_on q a (t.phase c l on)
      where
        is_copy : IsThere S (copied c (end S c))
        is_copy = (l, within_end M c l)

        up_j : u S far_j (asked j) ≡ true
        up_j = turned_there far (asked j) t.long_there m ∙ ap not (t.blank (asked j) m other_off)

        by_busy : may_there M far (asked j) ≡ true → IsBusy S far c → ⊥
        by_busy far_on busy = both_busy far_j (next far (S.there (asked j)) t.reached far_on)
            (ap (λ z. z || u S far_j (copied c (end S c))) (same_there far (asked j) (asked c) m l (λ e. ne (sym (asked_same c j e))))
            ∙ (ap (λ z. u S far (asked c) || z) (same_there far (asked j) (copied c (end S c)) m is_copy (λ e. cc)) ∙ busy))
            (busy_asked far_j j up_j)

        by_phase : may_there M far (asked j) ≡ true → v S st (enters (S.of c)) ≡ false → v S st (answers c) ≡ false
            → PhaseOf M st far c
            → AllLow st c
        by_phase far_on q a (level rq da) = record { asked = rq ∙ q; entered = q; ended = da ∙ a; answered = a }
        by_phase far_on q a (giving rq dq aq o) = absurd (true_false (v S st (answers c)) (aq ∙ ap not q) a)
        by_phase far_on q a (asking rq dq aq o) =
            let far_c = moved B far (S.there (asked c)) in
            let re_c = next far (S.there (asked c)) t.reached o in
            let j_on : may_there M far_c (asked j) ≡ true = stays_on far t.reached (asked c) (asked j) l m o (λ e. ne (asked_same j c e)) far_on in
            let far_cj = moved B far_c (S.there (asked j)) in
            let up_c : u S far_c (asked c) ≡ true = turned_there far (asked c) t.long_there l ∙ ap not (passed M cur st far t c l on ∙ q) in
            let up_cj : u S far_cj (asked c) ≡ true = same_there far_c (asked j) (asked c) m l (λ e. ne (sym (asked_same c j e))) ∙ up_c in
            let low_j : u S far_c (asked j) ≡ false = same_there far (asked c) (asked j) l m (λ e. ne (asked_same j c e)) ∙ t.blank (asked j) m other_off in
            let long_c : length far_c.values ≡ S.count_there = length-set far.values (S.there (asked c)) (not (u S far (asked c))) ∙ t.long_there in
            let up_j : u S far_cj (asked j) ≡ true = turned_there far_c (asked j) long_c m ∙ ap not low_j in
            absurd (both_busy far_cj (next far_c (S.there (asked j)) re_c j_on) (busy_asked far_cj c up_cj) (busy_asked far_cj j up_j))

  -- the request of a body moves exactly where one is owed
  enters_rule : (st : RunState) (c : ℕ) → c < S.calls → may M st (enters (S.of c)) ≡ rule_enabled A (high st.values) (S.here (enters (S.of c)))
  enters_rule st c l = rule_here M st (enters (S.of c)) (is.of_below c l) tt

  enters_at : (b : Bool) (st : RunState) (c : ℕ) → c < S.calls → v S st (enters (S.of c)) ≡ b → may M st (enters (S.of c))
      ≡ (if b then pulled_down A (high st.values) (S.here (enters (S.of c))) else pulled_up A (high st.values) (S.here (enters (S.of c))))
  enters_at b st c l e =
      let vv = high st.values in
      let n = S.here (enters (S.of c)) in
      enters_rule st c l ∙ ap (λ z. if z then pulled_down A vv n else pulled_up A vv n) e

  module _ (st : RunState) (c : ℕ) (l : c < S.calls) (others : (j : ℕ) → j < S.calls → S.of j ≡ S.of c → j ≢ c → v S st (asks j) ≡ false) where
    pub all_low : v S st (asks c) ≡ false → (j : ℕ) → j < S.calls → S.of j ≡ S.of c → v S st (asks j) ≡ false
    all_low low j m e = ⊎_elim (λ (same : j ≡ c). ap (λ k. v S st (asks k)) same ∙ low) (λ (ne : j ≢ c). others j m e ne) (cases_eq j c)

    pub enters_owed : v S st (asks c) ≡ not (v S st (enters (S.of c))) → may M st (enters (S.of c)) ≡ true
    enters_owed e = by (v S st (enters (S.of c))) refl
      where
        by : (b : Bool) → v S st (enters (S.of c)) ≡ b → may M st (enters (S.of c)) ≡ true
        by true q = enters_at true st c l q ∙ (is.enters_off (high st.values) (S.of c) (is.of_below c l) (all_low (e ∙ ap not q))).1
        by false q = enters_at false st c l q ∙ (is.enters_on (high st.values) c l (e ∙ ap not q)).0

    pub enters_even : v S st (asks c) ≡ v S st (enters (S.of c)) → may M st (enters (S.of c)) ≡ false
    enters_even e = by (v S st (enters (S.of c))) refl
      where
        by : (b : Bool) → v S st (enters (S.of c)) ≡ b → may M st (enters (S.of c)) ≡ false
        by true q = enters_at true st c l q ∙ (is.enters_on (high st.values) c l (e ∙ q)).1
        by false q = enters_at false st c l q ∙ (is.enters_off (high st.values) (S.of c) (is.of_below c l) (all_low (e ∙ q))).0

  -- the answer of a call moves exactly where it is owed
  answers_at : (a d r : Bool) (st : RunState) (c : ℕ) → c < S.calls → v S st (answers c) ≡ a → v S st (body_end S c) ≡ d → v S st (asks c) ≡ r
      → may M st (answers c) ≡ (if a then not d else r && d)
  answers_at a d r st c l ea ed er =
      let g = is.answers_rules (high st.values) c l in
      let vv = high st.values in
      let n = S.here (answers c) in
      rule_here M st (answers c) l tt
      ∙ (ap (λ z. if z then guard_holds vv (down_of A n) else guard_holds vv (up_of A n)) ea
      ∙ (ap (λ z. if a then z else guard_holds vv (up_of A n)) (g.1 ∙ ap not ed)
      ∙ ap (λ z. if a then not d else z) (g.0 ∙ (ap (λ z. z && v S st (body_end S c)) er ∙ ap (λ z. r && z) ed))))

  pub answers_owed : (st : RunState) (c : ℕ) → c < S.calls → v S st (asks c) ≡ v S st (body_end S c) → v S st (answers c) ≡ not (v S st (body_end S c))
      → may M st (answers c) ≡ true
  answers_owed st c l er ea =
      answers_at (not (v S st (body_end S c))) (v S st (body_end S c)) (v S st (body_end S c)) st c l ea refl er ∙ by (v S st (body_end S c))
    where
      by : (b : Bool) → (if not b then not b else b && b) ≡ true
      by true = refl
      by false = refl

  pub answers_even : (st : RunState) (c : ℕ) → c < S.calls → v S st (body_end S c) ≡ v S st (answers c) → may M st (answers c) ≡ false
  answers_even st c l e = answers_at (v S st (answers c)) (v S st (answers c)) (v S st (asks c)) st c l refl e refl ∙ by (v S st (answers c)) (v S st (asks c))
    where
      by : (b r : Bool) → (if b then not b else r && b) ≡ false
      by true r = refl
      by false r = and_false r

  pub answers_idle : (st : RunState) (c : ℕ) → c < S.calls → v S st (asks c) ≡ false → v S st (answers c) ≡ false → may M st (answers c) ≡ false
  answers_idle st c l er ea = answers_at false (v S st (body_end S c)) false st c l ea refl er

  pub others_idle : (cur : ℕ → ℕ) (st far : RunState) → Tells M cur st far → (c : ℕ) → cur (S.of c) ≡ c
      → (j : ℕ) → j < S.calls → S.of j ≡ S.of c → j ≢ c → v S st (asks j) ≡ false
  others_idle cur st far t c on j m e ne = (t.idle j m (λ f. ne (sym f ∙ (ap cur e ∙ on)))).0
