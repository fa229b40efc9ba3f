-- No move of the net with shared bodies takes another away, and none breaks a handshake with the environment.
--
-- M, A, B, S, cur, st, far: as in MapStates; s: the node that moves; c, j: calls; z: another node.
use Rattle.std.proofs.Common.{◌≡◌, ◌≢◌, ℕ, ◌<◌, true, false, None, sym, ap, ◌∙◌, subst, ⊎_elim}
use Rattle.std.specs.Prelude.{not}
use Rattle.std.proofs.lemmas.Bool.{cases_eq}
use Rattle.prs_core.specs.Nets.{NetValue}
use Rattle.prs_core.specs.Moves.{high}
use Rattle.env_script.specs.Phases.{phase_fault}
use Rattle.env_script.specs.Runs.{RunState, moved}
use Rattle.call_map.specs.Shared.{Here, plain, asks, answers, enters, body, There, plainly, asked, copied, IsHere, IsThere, body_end}
use Rattle.call_map.proofs.Truths.{no_not, true_false, is_false, differ}
use Rattle.net_compose.proofs.Renamed.{fault_same}
use Rattle.call_map.proofs.MapNodes.{level, asking, giving, body_apart, copied_same, v, u, end, back, Current, back_end, back_inner, never_result, not_plain, Drops, request, answer}
use Rattle.call_map.proofs.MapStates.{Mapping, shared_net, copies_net, may, may_there, PhaseOf, Tells, within_end, passed, given, body_alike, alike}
use Rattle.call_map.proofs.MapGuards.{beyond_here, beyond_there, back_tests, low_alike, plain_same, asks_same, body_same}
use Rattle.call_map.proofs.MapEnabled.{same_here, same_there, turned_there, stays_on, giving_still, giving_asked, asking_still, asking_asked, other_low, enters_owed, enters_even, answers_owed, answers_even, answers_idle, others_idle}
use Rattle.call_map.proofs.MapMoved.{Went, goes, stays}
use Rattle.call_map.proofs.MapWent.{at_proc, went}

module _ (M : Mapping) where
  open M use {S, is, script, ws, Reached, next, safe, keeps}

  abbrev A : NetValue
  A = shared_net M

  abbrev B : NetValue
  B = copies_net M

  module _ (cur : ℕ → ℕ) (st far : RunState) (t : Tells M cur st far) where
    -- no other move is taken away
    module _ (s : Here) (hs : IsHere S s) (s_on : may M st s ≡ true) where
      abbrev then_here : RunState
      then_here = moved A st (S.here s)

      still_here : (z : Here) → IsHere S z → z ≢ s → v S then_here z ≡ v S st z
      still_here z hz ne = same_here M st s z hs hz ne

      -- a node that may not move isn't the one that does
      not_it : (z : Here) → may M st z ≡ false → z ≢ s
      not_it z low e = true_false (may M st s) s_on (ap (may M st) (sym e) ∙ low)

      plain_stable : (k : ℕ) → S.is_plain k ≡ true → plain k ≢ s → may M st (plain k) ≡ true → Went M cur st far s → may M then_here (plain k) ≡ true
      plain_stable k h ne on (goes to ht now is_s far_on tells) =
          plain_same M cur then_here (moved B far (S.there to)) (alike M cur then_here (moved B far (S.there to)) tells) tells.histories k h
          ∙ stays_on M far t.reached to (plainly k) ht h far_on (λ e. ne (ap (back S) e ∙ is_s))
          (sym (plain_same M cur st far (alike M cur st far t) t.histories k h) ∙ on)
      plain_stable k h ne on (stays more drops owing to ht is_far own far_on same tells) =
          plain_same M more then_here far (alike M more then_here far tells) tells.histories k h
          ∙ (sym (plain_same M cur st far (alike M cur st far t) t.histories k h) ∙ on)

      asks_even : (j : ℕ) → j < S.calls → may M st (asks j) ≡ true → v S st (asks j) ≡ u S far (asked j)
      asks_even j m on = ⊎_elim
          (λ (now : cur (S.of j) ≡ j). by now (t.phase j m now))
          (λ (off : cur (S.of j) ≢ j). (t.idle j m off).0 ∙ sym (t.blank (asked j) m off))
          (cases_eq (cur (S.of j)) j)
        where
          by : (now : cur (S.of j) ≡ j) → PhaseOf M st far j
              → v S st (asks j) ≡ u S far (asked j)
          by now (level rq da) = rq ∙ sym (passed M cur st far t j m now)
          by now (giving rq dq aq o) = rq ∙ sym (passed M cur st far t j m now)
          by now (asking rq dq aq o) = absurd (true_false (may M st (asks j)) on (asking_asked M cur st far t j m now rq o))

      asks_stable : (j : ℕ) → j < S.calls → asks j ≢ s → may M st (asks j) ≡ true → Went M cur st far s → may M then_here (asks j) ≡ true
      asks_stable j m ne on w = by w
        where
          even : v S st (asks j) ≡ u S far (asked j)
          even = asks_even j m on

          on_there : may_there M far (asked j) ≡ true
          on_there = sym (asks_same M cur st far (alike M cur st far t) j m even) ∙ on

          apart : (to : There) → Current S cur to → back S to ≡ s → asked j ≢ to
          apart to now is_s e =
              let here_now : cur (S.of j) ≡ j = subst (λ z. Current S cur z) (sym e) now in
              not_it (enters (S.of j)) (enters_even M st j m (others_idle M cur st far t j here_now) (even ∙ passed M cur st far t j m here_now))
              (ap (back S) e ∙ is_s)

          by : Went M cur st far s → may M then_here (asks j) ≡ true
          by (goes to ht now is_s far_on tells) =
              let ap_there = apart to now is_s in
              asks_same M cur then_here (moved B far (S.there to)) (alike M cur then_here (moved B far (S.there to)) tells) j m
              (still_here (asks j) m ne ∙ (even ∙ sym (same_there M far to (asked j) ht m ap_there)))
              ∙ stays_on M far t.reached to (asked j) ht m far_on ap_there on_there
          by (stays more drops owing to ht is_far own far_on same tells) =
              asks_same M more then_here far (alike M more then_here far tells) j m (still_here (asks j) m ne ∙ even) ∙ on_there

      enters_stable : (c : ℕ) → c < S.calls → cur (S.of c) ≡ c → enters (S.of c) ≢ s → may M st (enters (S.of c)) ≡ true
          → may M then_here (enters (S.of c)) ≡ true
      enters_stable c l now ne on = by (t.phase c l now)
        where
          even : v S st (asks c) ≡ v S st (enters (S.of c)) → may M then_here (enters (S.of c)) ≡ true
          even rq = absurd (true_false (may M st (enters (S.of c))) on (enters_even M st c l (others_idle M cur st far t c now) rq))

          other_still : v S st (asks c) ≡ not (v S st (enters (S.of c))) → (j : ℕ) → j < S.calls → S.of j ≡ S.of c → j ≢ c → asks j ≢ s
          other_still rq j m together apart = not_it (asks j) (is_false (may M st (asks j)) (λ e.
              let low = other_low M cur st far t c j l m now together apart e in
              no_not (v S st (enters (S.of c))) (low.entered ∙ (sym low.asked ∙ rq))))

          by : PhaseOf M st far c → may M then_here (enters (S.of c)) ≡ true
          by (level rq da) = even rq
          by (giving rq dq aq o) = even rq
          by (asking rq dq aq o) = enters_owed M then_here c l
              (λ j m together apart. still_here (asks j) m (other_still rq j m together apart) ∙ others_idle M cur st far t c now j m together apart)
              (still_here (asks c) l (not_it (asks c) (asking_asked M cur st far t c l now rq o))
              ∙ (rq ∙ ap not (sym (still_here (enters (S.of c)) (is.of_below c l) ne))))

      answers_stable : (c : ℕ) → c < S.calls → cur (S.of c) ≡ c → answers c ≢ s → may M st (answers c) ≡ true → may M then_here (answers c) ≡ true
      answers_stable c l now ne on = by (t.phase c l now)
        where
          even : v S st (body_end S c) ≡ v S st (answers c) → may M then_here (answers c) ≡ true
          even da = absurd (true_false (may M st (answers c)) on (answers_even M st c l da))

          by : PhaseOf M st far c → may M then_here (answers c) ≡ true
          by (level rq da) = even da
          by (asking rq dq aq o) = even (dq ∙ sym aq)
          by (giving rq dq aq o) =
              let w = within_end M c l in
              let r = still_here (asks c) l (not_it (asks c) (giving_asked M cur st far t c l now rq dq aq o)) in
              let d = still_here (body_end S c) (is.of_below c l, w) (not_it (body_end S c) (giving_still M cur st far t c l now rq dq aq o (end S c) w)) in
              answers_owed M then_here c l (r ∙ (rq ∙ (sym dq ∙ sym d))) (still_here (answers c) l ne ∙ (aq ∙ ap not (sym dq ∙ sym d)))

      body_stable : (c x : ℕ) → c < S.calls → cur (S.of c) ≡ c → x < S.size (S.of c) → body (S.of c) x ≢ s → may M st (body (S.of c) x) ≡ true
          → Went M cur st far s → may M then_here (body (S.of c) x) ≡ true
      body_stable c x l now h ne on w = by (t.phase c l now)
        where
          is_copy : IsThere S (copied c (end S c))
          is_copy = (l, within_end M c l)

          -- where the body answers nothing else in it may move
          not_both : v S st (body_end S c) ≡ v S st (answers c) → may_there M far (copied c x) ≡ true → body_end S c ≢ s
          not_both da on_there e = ⊎_elim
              (λ (same : x ≡ end S c). ne (ap (λ y. body (S.of c) y) same ∙ e))
              (λ (apart : x ≢ end S c).
              let p = passed M cur st far t c l now in
              let g = given M cur st far t c l now in
              let a = body_alike M cur st far t c l now da in
              let far_on : may_there M far (copied c (end S c)) ≡ true =
              sym (body_same M st far c (end S c) l a (within_end M c l)) ∙ (ap (may M st) e ∙ s_on) in
              let re = next far (S.there (copied c (end S c))) t.reached far_on in
              let other : v S st (enters (S.of c)) ≡ not (v S st (answers c)) = differ (v S st (enters (S.of c))) (v S st (answers c)) (λ same.
              true_false (may_there M far (copied c (end S c))) far_on ((keeps far t.reached).quiet c (end S c) l (within_end M c l) (p ∙ (same ∙ sym g)))) in
              true_false (may_there M (moved B far (S.there (copied c (end S c)))) (copied c x))
              (stays_on M far t.reached (copied c (end S c)) (copied c x) is_copy (l, h) far_on (λ z. apart (copied_same c c x (end S c) z).1) on_there)
              ((keeps (moved B far (S.there (copied c (end S c)))) re).quiet c x l h
              (same_there M far (copied c (end S c)) (asked c) is_copy l (λ z. cc)
              ∙ (p ∙ (other ∙ (ap not (sym g) ∙ sym (turned_there M far (copied c (end S c)) t.long_there is_copy)))))))
              (cases_eq x (end S c))

          -- what has no part in this body
          free : Drops S s → body_end S c ≢ s → (y : ℕ) → body (S.of c) y ≢ s
          free (request k m e) no_result y z = cases (z ∙ e)
            where
              cases : body (S.of c) y ≡ asks k → ⊥
              cases z = cc
          free (answer k m e) no_result y z =
              let together : S.of c ≡ S.of k = body_apart (S.of c) (S.of k) y (end S k) (z ∙ e) in
              no_result (ap (λ p. body p (S.last p)) together ∙ sym e)

          unentered : Drops S s → enters (S.of c) ≢ s
          unentered (request k m e) z = cases (z ∙ e)
            where
              cases : enters (S.of c) ≡ asks k → ⊥
              cases z = cc
          unentered (answer k m e) z = cases (z ∙ e)
            where
              cases : enters (S.of c) ≡ body_end S k → ⊥
              cases z = cc

          by_went : v S st (body_end S c) ≡ v S st (answers c) → Went M cur st far s → may M then_here (body (S.of c) x) ≡ true
          by_went da (goes to ht now_to is_s far_on tells) =
              let on_there : may_there M far (copied c x) ≡ true = sym (body_same M st far c x l (body_alike M cur st far t c l now da) h) ∙ on in
              let no_answer : answers c ≢ s = not_it (answers c) (answers_even M st c l da) in
              let r = still_here (body_end S c) (is.of_below c l, within_end M c l) (λ e. never_result S to (S.of c) (is_s ∙ sym e)) in
              let a = still_here (answers c) l no_answer in
              body_same M then_here (moved B far (S.there to)) c x l (body_alike M cur then_here (moved B far (S.there to)) tells c l now (r ∙ (da ∙ sym a))) h
              ∙ stays_on M far t.reached to (copied c x) ht (l, h) far_on
              (λ e. ⊎_elim
              (λ (same : x ≡ end S c). no_answer (sym (back_end S c) ∙ (ap (λ y. back S (copied c y)) (sym same) ∙ (ap (back S) e ∙ is_s))))
              (λ (apart : x ≢ end S c). ne (sym (back_inner S c x apart) ∙ (ap (back S) e ∙ is_s)))
              (cases_eq x (end S c))) on_there
          by_went da (stays more drops owing to ht is_far own far_on same tells) =
              let a = body_alike M cur st far t c l now da in
              let on_there : may_there M far (copied c x) ≡ true = sym (body_same M st far c x l a h) ∙ on in
              let no_result = not_both da on_there in
              body_same M then_here far c x l (record {
                plain = λ k hk. still_here (plain k) hk (λ e. not_plain S s k own (sym e)) ∙ a.plain k hk;
                request = still_here (enters (S.of c)) (is.of_below c l) (unentered drops) ∙ a.request;
                inside = λ y hy. still_here (body (S.of c) y) (is.of_below c l, hy) (free drops no_result y) ∙ a.inside y hy;
              }) h ∙ on_there

          by : PhaseOf M st far c → may M then_here (body (S.of c) x) ≡ true
          by (level rq da) = by_went da w
          by (asking rq dq aq o) = absurd (true_false (may M st (body (S.of c) x)) on (asking_still M cur st far t c l now dq aq x h))
          by (giving rq dq aq o) = absurd (true_false (may M st (body (S.of c) x)) on (giving_still M cur st far t c l now rq dq aq o x h))

      pub stable : (z : Here) → IsHere S z → z ≢ s → may M st z ≡ true → may M then_here z ≡ true
      stable (plain k) hz ne on = plain_stable k hz ne on (went M cur st far t s hs s_on)
      stable (asks j) hz ne on = asks_stable j hz ne on (went M cur st far t s hs s_on)
      stable (enters p) hz ne on =
          at_proc M cur st far t (λ q. enters q ≢ s → may M st (enters q) ≡ true → may M then_here (enters q) ≡ true) enters_stable p hz ne on
      stable (answers c) hz ne on = ⊎_elim
          (λ (now : cur (S.of c) ≡ c). answers_stable c hz now ne on)
          (λ (off : cur (S.of c) ≢ c). let i = t.idle c hz off in absurd (true_false (may M st (answers c)) on (answers_idle M st c hz i.0 i.1)))
          (cases_eq (cur (S.of c)) c)
      stable (body p x) hz ne on = at_proc M cur st far t (λ q. x < S.size q → body q x ≢ s → may M st (body q x) ≡ true → may M then_here (body q x) ≡ true)
          (λ c l now h no_s more. body_stable c x l now h no_s more (went M cur st far t s hs s_on)) p hz.0 hz.1 ne on

      pub no_fault : Went M cur st far s → phase_fault A (high st.values) (S.here s) ≡ None
      no_fault (goes to ht now is_s far_on tells) =
          let z = (safe far t.reached).each (S.there to) far_on in
          subst (λ i. phase_fault A (high st.values) (S.here i) ≡ None) is_s
          (fault_same (high st.values) (high far.values) S.low (S.here (back S to)) (S.there to)
          (low_alike M cur (high st.values) (high far.values) (alike M cur st far t))
          (sym (t.shows to ht now)) (back_tests M to ht) ws is.wires ∙ z.phases)
      no_fault (stays more drops owing to ht is_far own far_on same tells) =
          let z = (safe far t.reached).each (S.there to) far_on in
          fault_same (high st.values) (high far.values) S.low (S.here s) (S.there to)
          (low_alike M cur (high st.values) (high far.values) (alike M cur st far t))
          same (λ r l. beyond_here M s hs own r l ∙ sym (beyond_there M to ht is_far r l)) ws is.wires ∙ z.phases
