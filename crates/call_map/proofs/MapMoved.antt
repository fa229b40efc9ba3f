-- A move of the net with shared bodies that is one of the net with copies, and a move that is none there, each leave a
-- state that stands for one of the net with copies.
--
-- M, A, B, S, cur, st, far: as in MapStates; to: the node of B that moves; s: the node of A that does.
use Rattle.std.proofs.Common.{◌≡◌, ◌≢◌, ℕ, ◌<◌, true, false, sym, ap, ◌∙◌, subst, length-set, ⊎_elim}
use Rattle.std.specs.Prelude.{not}
use Rattle.std.proofs.lemmas.Bool.{cases_eq}
use Rattle.prs_core.specs.Nets.{NetValue}
use Rattle.prs_core.specs.Moves.{high}
use Rattle.env_script.specs.Runs.{RunState, with_values, moved}
use Rattle.call_map.specs.Shared.{Here, asks, answers, enters, There, asked, copied, IsHere, IsThere, body_end}
use Rattle.call_map.proofs.Truths.{not_not}
use Rattle.net_compose.proofs.Renamed.{values_same, values_stay}
use Rattle.call_map.proofs.MapNodes.{level, phase_same, v, u, end, back, Current, IsOther, back_end, image, image_back, back_one, never_asks, never_result, not_current, IsOwn, IsFar, Drops}
use Rattle.call_map.proofs.MapStates.{Mapping, shared_net, copies_net, may_there, PhaseOf, Tells, within_end, is_back, alike}
use Rattle.call_map.proofs.MapGuards.{beyond_here, back_tests, low_alike}
use Rattle.call_map.proofs.MapCounts.{OwesOne}
use Rattle.call_map.proofs.MapEnabled.{same_here, turned_here, same_there, turned_there, stays_on}

module _ (M : Mapping) where
  open M use {S, is, script, ws, Reached, next, safe, keeps}

  abbrev A : NetValue
  A = shared_net M

  abbrev B : NetValue
  B = copies_net M

  -- a move that is a move there
  module _ (cur : ℕ → ℕ) (st far : RunState) (t : Tells M cur st far) (to : There) (h : IsThere S to) (on : Current S cur to)
      (far_on : may_there M far to ≡ true)
      (asking_here : (c : ℕ) → c < S.calls → cur (S.of c) ≡ c → to ≡ asked c
      → (v S st (asks c) ≡ not (v S st (enters (S.of c)))) × (v S st (body_end S c) ≡ v S st (answers c)))
      (giving_here : (c : ℕ) → c < S.calls → cur (S.of c) ≡ c → to ≡ copied c (end S c)
      → (v S st (asks c) ≡ v S st (enters (S.of c))) × (v S st (answers c) ≡ not (v S st (body_end S c)))) where
    abbrev one_on : RunState
    one_on = moved A st (S.here (back S to))

    abbrev one_there : RunState
    one_there = moved B far (S.there to)

    others_stay : (s : Here) → IsHere S s → s ≢ back S to → v S one_on s ≡ v S st s
    others_stay s hs ne = same_here M st (back S to) s (is_back M to h) hs ne

    itself : v S one_on (back S to) ≡ not (v S st (back S to))
    itself = turned_here M st (back S to) t.long (is_back M to h)

    kept_histories : one_on.histories ≡ one_there.histories
    kept_histories =
        ap (λ hs. with_values (high st.values) (S.here (back S to)) ws hs) t.histories
        ∙ values_same (high st.values) (high far.values) S.low (S.here (back S to)) (S.there to)
        (low_alike M cur (high st.values) (high far.values) (alike M cur st far t))
        (sym (t.shows to h on)) (back_tests M to h) ws far.histories is.wires

    kept_shows : (s : There) → IsThere S s → Current S cur s → u S one_there s ≡ v S one_on (back S s)
    kept_shows s hs more = ⊎_elim
        (λ (e : S.there s ≡ S.there to). subst (λ z. u S one_there z ≡ v S one_on (back S z)) (sym (is.there_apart s to hs h e))
        (turned_there M far to t.long_there h ∙ (ap not (t.shows to h on) ∙ sym itself)))
        (λ (ne : S.there s ≢ S.there to).
        let apart : s ≢ to = λ e. ne (ap S.there e) in
        same_there M far to s h hs apart ∙ (t.shows s hs more ∙ sym (others_stay (back S s) (is_back M s hs) (λ e. apart (back_one S cur s to more on e)))))
        (cases_eq (S.there s) (S.there to))

    kept_blank : (s : There) → IsThere S s → IsOther S cur s → u S one_there s ≡ false
    kept_blank s hs off = same_there M far to s h hs (λ e. not_current S cur to on (subst (λ z. IsOther S cur z) e off)) ∙ t.blank s hs off

    -- which node of the copies is meant
    is_image : (s : Here) → back S to ≡ s → to ≡ image S cur s
    is_image s e = sym (image_back S cur to on) ∙ ap (image S cur) e

    not_idle : (c : ℕ) → cur (S.of c) ≢ c → answers c ≢ back S to
    not_idle c off e = not_current S cur (copied c (end S c)) (subst (λ z. Current S cur z) (is_image (answers c) (sym e)) on) off

    kept_idle : (c : ℕ) → c < S.calls → cur (S.of c) ≢ c → (v S one_on (asks c) ≡ false) × (v S one_on (answers c) ≡ false)
    kept_idle c l off =
        let i = t.idle c l off in
        (others_stay (asks c) l (λ e. never_asks S to c (sym e)) ∙ i.0, others_stay (answers c) l (not_idle c off) ∙ i.1)

    kept_phase : (c : ℕ) → c < S.calls → cur (S.of c) ≡ c → PhaseOf M one_on one_there c
    kept_phase c l now = ⊎_elim
        (λ (e : S.there to ≡ S.there (asked c)). at_asked (is.there_apart to (asked c) h l e))
        (λ (ne : S.there to ≢ S.there (asked c)). ⊎_elim
        (λ (e : S.there to ≡ S.there (copied c (end S c))). at_copied (is.there_apart to (copied c (end S c)) h is_copy e))
        (λ (nor : S.there to ≢ S.there (copied c (end S c))). at_others (λ e. ne (ap S.there e)) (λ e. nor (ap S.there e)))
        (cases_eq (S.there to) (S.there (copied c (end S c)))))
        (cases_eq (S.there to) (S.there (asked c)))
      where
        is_copy : IsThere S (copied c (end S c))
        is_copy = (l, within_end M c l)

        is_body : IsHere S (body_end S c)
        is_body = (is.of_below c l, within_end M c l)

        is_entry : IsHere S (enters (S.of c))
        is_entry = is.of_below c l

        asks_stays : v S one_on (asks c) ≡ v S st (asks c)
        asks_stays = others_stay (asks c) l (λ e. never_asks S to c (sym e))

        result_stays : v S one_on (body_end S c) ≡ v S st (body_end S c)
        result_stays = others_stay (body_end S c) is_body (λ e. never_result S to (S.of c) (sym e))

        at_asked : to ≡ asked c → PhaseOf M one_on one_there c
        at_asked e =
            let k = asking_here c l now e in
            let back_is : back S to ≡ enters (S.of c) = ap (back S) e in
            let entered : v S one_on (enters (S.of c)) ≡ not (v S st (enters (S.of c))) = subst (λ z. v S one_on z ≡ not (v S st z)) back_is itself in
            let answered : v S one_on (answers c) ≡ v S st (answers c) = others_stay (answers c) l (λ z. apart (z ∙ back_is)) in
            level (asks_stays ∙ (k.0 ∙ sym entered)) (result_stays ∙ (k.1 ∙ sym answered))
          where
            apart : answers c ≡ enters (S.of c) → ⊥
            apart z = cc

        at_copied : to ≡ copied c (end S c) → PhaseOf M one_on one_there c
        at_copied e =
            let k = giving_here c l now e in
            let back_is : back S to ≡ answers c = ap (back S) e ∙ back_end S c in
            let answered : v S one_on (answers c) ≡ not (v S st (answers c)) = subst (λ z. v S one_on z ≡ not (v S st z)) back_is itself in
            let entered : v S one_on (enters (S.of c)) ≡ v S st (enters (S.of c)) = others_stay (enters (S.of c)) is_entry (λ z. apart (z ∙ back_is)) in
            level (asks_stays ∙ (k.0 ∙ sym entered)) (result_stays ∙ (sym (not_not (v S st (body_end S c))) ∙ (ap not (sym k.1) ∙ sym answered)))
          where
            apart : enters (S.of c) ≡ answers c → ⊥
            apart z = cc

        at_others : to ≢ asked c → to ≢ copied c (end S c) → PhaseOf M one_on one_there c
        at_others ne nor =
            let entered : v S one_on (enters (S.of c)) ≡ v S st (enters (S.of c)) =
            others_stay (enters (S.of c)) is_entry (λ e. ne (is_image (enters (S.of c)) (sym e) ∙ ap (λ z. asked z) now)) in
            let answered : v S one_on (answers c) ≡ v S st (answers c) = others_stay (answers c) l (λ e. nor (is_image (answers c) (sym e))) in
            phase_same (v S one_on (asks c)) (v S one_on (enters (S.of c))) (v S one_on (body_end S c)) (v S one_on (answers c))
            (may_there M one_there (asked c))
            (may_there M one_there (copied c (end S c))) asks_stays entered result_stays answered
            (λ o. stays_on M far t.reached to (asked c) h l far_on (λ e. ne (sym e)) o)
            (λ o. stays_on M far t.reached to (copied c (end S c)) h is_copy far_on (λ e. nor (sym e)) o)
            (t.phase c l now)

    pub kept : Tells M cur one_on one_there
    kept = record {
      long = length-set st.values (S.here (back S to)) (not (v S st (back S to))) ∙ t.long;
      long_there = length-set far.values (S.there to) (not (u S far to)) ∙ t.long_there;
      histories = kept_histories;
      reached = next far (S.there to) t.reached far_on;
      current = t.current;
      shows = kept_shows;
      blank = kept_blank;
      idle = kept_idle;
      phase = kept_phase;
    }

  -- a move that is none there
  module _ (cur : ℕ → ℕ) (st far : RunState) (t : Tells M cur st far) (s : Here) (h : IsHere S s) (own : IsOwn S s) (never : (to : There) → back S to ≢ s) where
    abbrev alone_on : RunState
    alone_on = moved A st (S.here s)

    pub all_stay : (z : Here) → IsHere S z → z ≢ s → v S alone_on z ≡ v S st z
    all_stay z hz ne = same_here M st s z h hz ne

    pub dropped_histories : alone_on.histories ≡ far.histories
    dropped_histories = values_stay (high st.values) S.low (S.here s) (beyond_here M s h own) ws st.histories is.wires ∙ t.histories

    pub back_stays : (to : There) → IsThere S to → v S alone_on (back S to) ≡ v S st (back S to)
    back_stays to ht = all_stay (back S to) (is_back M to ht) (never to)

    pub dropped : ((c : ℕ) → c < S.calls → cur (S.of c) ≢ c → (asks c ≢ s) × (answers c ≢ s))
        → ((c : ℕ) → c < S.calls → cur (S.of c) ≡ c → PhaseOf M alone_on far c) → Tells M cur alone_on far
    dropped others phases = record {
      long = length-set st.values (S.here s) (not (v S st s)) ∙ t.long;
      long_there = t.long_there;
      histories = dropped_histories;
      reached = t.reached;
      current = t.current;
      shows = λ to ht on. t.shows to ht on ∙ sym (back_stays to ht);
      blank = t.blank;
      idle = λ c l off. let o = others c l off in let i = t.idle c l off in (all_stay (asks c) l o.0 ∙ i.0, all_stay (answers c) l o.1 ∙ i.1);
      phase = phases;
    }

    -- the phase of a call that has nothing to do with the move
    pub untouched : (c : ℕ) → c < S.calls → cur (S.of c) ≡ c → asks c ≢ s → enters (S.of c) ≢ s → body_end S c ≢ s → answers c ≢ s
        → PhaseOf M alone_on far c
    untouched c l on one two three four =
        phase_same (v S alone_on (asks c)) (v S alone_on (enters (S.of c))) (v S alone_on (body_end S c)) (v S alone_on (answers c)) (may_there M far (asked c))
        (may_there M far (copied c (end S c)))
        (all_stay (asks c) l one) (all_stay (enters (S.of c)) (is.of_below c l) two) (all_stay (body_end S c) (is.of_below c l, within_end M c l) three)
        (all_stay (answers c) l four) (λ o. o) (λ o. o) (t.phase c l on)

    pub itself_turned : v S alone_on s ≡ not (v S st s)
    itself_turned = turned_here M st s t.long h

  -- each move of the shared net is one there, or none; but then one there waits to be made
  pub data Went (cur : ℕ → ℕ) (st far : RunState) (s : Here) : Type 0 where
    goes : (to : There) → IsThere S to → Current S cur to → back S to ≡ s → may_there M far to ≡ true
        → Tells M cur (moved A st (S.here s)) (moved B far (S.there to)) → Went cur st far s
    stays : (more : ℕ → ℕ) → Drops S s → OwesOne M cur more st s → (to : There) → IsThere S to → IsFar S to → IsOwn S s → may_there M far to ≡ true
        → v S st s ≡ u S far to
        → Tells M more (moved A st (S.here s)) far → Went cur st far s
