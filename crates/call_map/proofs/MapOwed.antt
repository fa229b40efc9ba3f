-- The two moves that are none in the net with copies: a call's request, and the answer of a body. From then on the same move
-- of the copy is owed. Where another call of the procedure is asked, that is now the one under way.
--
-- M, A, B, S, cur, st, far: as in MapStates; c: the call under way; j: the one that is asked in its place; k: any call.
use Rattle.std.proofs.Common.{◌≡◌, ◌≢◌, ℕ, ◌<◌, ◌==◌, true, false, refl, sym, ap, ◌∙◌, subst, length-set, ⊎_elim}
use Rattle.std.specs.Prelude.{not, if◌then◌else◌}
use Rattle.std.proofs.lemmas.Bool.{cases_eq, eq-eqb, ne_eqb}
use Rattle.prs_core.specs.Nets.{NetValue}
use Rattle.env_script.specs.Runs.{RunState, moved}
use Rattle.call_map.specs.Shared.{Here, asks, answers, enters, body, There, plainly, asked, copied, IsHere, IsThere, body_end}
use Rattle.call_map.proofs.Truths.{not_not, true_false, differ}
use Rattle.call_map.proofs.MapNodes.{level, asking, giving, asks_apart, body_apart, v, u, end, back, Current, IsOther, back_end, back_inner, never_asks, never_result, request, answer}
use Rattle.call_map.proofs.MapStates.{Mapping, shared_net, copies_net, may, may_there, PhaseOf, Tells, within_end, passed, given, inside, body_alike, alike}
use Rattle.call_map.proofs.MapGuards.{asks_same, body_same}
use Rattle.call_map.proofs.MapEnabled.{giving_still, giving_asked, asking_still, asking_asked, AllLow, other_may, other_low}
use Rattle.call_map.proofs.MapCounts.{owed, level_owes, asking_owes, giving_owes, OwesOne, owes_kept}
use Rattle.call_map.proofs.MapMoved.{all_stay, dropped_histories, back_stays, dropped, untouched, itself_turned, Went, stays}

module _ (M : Mapping) where
  open M use {S, is, script, ws, Reached, next, safe, keeps}

  abbrev A : NetValue
  A = shared_net M

  abbrev B : NetValue
  B = copies_net M

  module _ (cur : ℕ → ℕ) (st far : RunState) (t : Tells M cur st far) (c : ℕ) (l : c < S.calls) (on : cur (S.of c) ≡ c) where
    -- two calls of one procedure aren't both under way
    one_current : (k : ℕ) → cur (S.of k) ≡ k → S.of k ≡ S.of c → k ≡ c
    one_current k now e = sym now ∙ (ap cur e ∙ on)

    -- the body answers
    pub result_went : may M st (body_end S c) ≡ true → Went M cur st far (body_end S c)
    result_went e = by (t.phase c l on)
      where
        is_body : IsHere S (body_end S c)
        is_body = (is.of_below c l, within_end M c l)

        is_copy : IsThere S (copied c (end S c))
        is_copy = (l, within_end M c l)

        by : PhaseOf M st far c → Went M cur st far (body_end S c)
        by (asking rq dq aq o) = absurd (true_false (may M st (body_end S c)) e (asking_still M cur st far t c l on dq aq (end S c) (within_end M c l)))
        by (giving rq dq aq o) = absurd (true_false (may M st (body_end S c)) e (giving_still M cur st far t c l on rq dq aq o (end S c) (within_end M c l)))
        by (level rq da) =
            let far_on : may_there M far (copied c (end S c)) ≡ true =
            sym (body_same M st far c (end S c) l (body_alike M cur st far t c l on da) (within_end M c l)) ∙ e in
            let p = passed M cur st far t c l on in
            let g = given M cur st far t c l on in
            let apart : v S st (enters (S.of c)) ≡ not (v S st (answers c)) = differ (v S st (enters (S.of c))) (v S st (answers c)) (λ same.
            true_false (may_there M far (copied c (end S c))) far_on ((keeps far t.reached).quiet c (end S c) l (within_end M c l) (p ∙ (same ∙ sym g)))) in
            let never : (to : There) → back S to ≢ body_end S c = λ to. never_result S to (S.of c) in
            let turned = itself_turned M cur st far t (body_end S c) is_body tt never in
            let asks_is = all_stay M cur st far t (body_end S c) is_body tt never (asks c) l (λ z. cc) in
            let enters_is = all_stay M cur st far t (body_end S c) is_body tt never (enters (S.of c)) (is.of_below c l) (λ z. cc) in
            let answers_is = all_stay M cur st far t (body_end S c) is_body tt never (answers c) l (λ z. cc) in
            let since = giving_owes M (moved A st (S.here (body_end S c))) c (asks_is ∙ (rq ∙ sym enters_is)) (turned ∙ ap not (da ∙ sym answers_is)) in
            stays cur (answer c l refl) (owes_kept M cur st (body_end S c) c refl l on (level_owes M st c rq da) since)
            (copied c (end S c)) is_copy tt tt far_on (da ∙ sym g)
            (dropped M cur st far t (body_end S c) is_body tt never (λ k m off. (λ z. cc, λ z. cc))
            (λ k m now. ⊎_elim
            (λ (same : k ≡ c). subst (λ z. PhaseOf M (moved A st (S.here (body_end S c))) far z) (sym same)
            (giving (asks_is ∙ (rq ∙ sym enters_is)) (turned ∙ (ap not da ∙ (sym apart ∙ sym enters_is)))
            (answers_is ∙ (sym (not_not (v S st (answers c))) ∙ ap not (sym apart ∙ sym enters_is))) far_on))
            (λ (other : k ≢ c). untouched M cur st far t (body_end S c) is_body tt never k m now (λ z. cc) (λ z. cc)
            (λ z. other (one_current k now (body_apart (S.of k) (S.of c) (end S k) (end S c) z))) (λ z. cc))
            (cases_eq k c)))

    -- the call is asked, or asked no more
    pub asks_went : may M st (asks c) ≡ true → Went M cur st far (asks c)
    asks_went e = by (t.phase c l on)
      where
        by : PhaseOf M st far c → Went M cur st far (asks c)
        by (asking rq dq aq o) = absurd (true_false (may M st (asks c)) e (asking_asked M cur st far t c l on rq o))
        by (giving rq dq aq o) = absurd (true_false (may M st (asks c)) e (giving_asked M cur st far t c l on rq dq aq o))
        by (level rq da) =
            let p = passed M cur st far t c l on in
            let g = given M cur st far t c l on in
            let far_on : may_there M far (asked c) ≡ true = sym (asks_same M cur st far (alike M cur st far t) c l (rq ∙ sym p)) ∙ e in
            let turn : v S st (enters (S.of c)) ≡ v S st (answers c) = sym p ∙ ((keeps far t.reached).turn c l far_on ∙ g) in
            let never : (to : There) → back S to ≢ asks c = λ to. never_asks S to c in
            let turned = itself_turned M cur st far t (asks c) l tt never in
            let result_is = all_stay M cur st far t (asks c) l tt never (body_end S c) (is.of_below c l, within_end M c l) (λ z. cc) in
            let enters_is = all_stay M cur st far t (asks c) l tt never (enters (S.of c)) (is.of_below c l) (λ z. cc) in
            let answers_is = all_stay M cur st far t (asks c) l tt never (answers c) l (λ z. cc) in
            let since = asking_owes M (moved A st (S.here (asks c))) c (turned ∙ ap not (rq ∙ sym enters_is)) (result_is ∙ (da ∙ sym answers_is)) in
            stays cur (request c l refl) (owes_kept M cur st (asks c) c refl l on (level_owes M st c rq da) since) (asked c) l tt tt far_on (rq ∙ sym p)
            (dropped M cur st far t (asks c) l tt never
            (λ k m off. (λ z. let same = asks_apart k c z in off (subst (λ i. cur (S.of i) ≡ i) (sym same) on), λ z. cc))
            (λ k m now. ⊎_elim
            (λ (same : k ≡ c). subst (λ z. PhaseOf M (moved A st (S.here (asks c))) far z) (sym same)
            (asking (turned ∙ ap not (rq ∙ sym enters_is)) (result_is ∙ (da ∙ (sym turn ∙ sym enters_is)))
            (answers_is ∙ (sym turn ∙ sym enters_is)) far_on))
            (λ (other : k ≢ c). untouched M cur st far t (asks c) l tt never k m now (λ z. other (asks_apart k c z)) (λ z. cc) (λ z. cc) (λ z. cc))
            (cases_eq k c)))

  -- another call of the procedure is asked: from now on that is the one under way
  module _ (cur : ℕ → ℕ) (st far : RunState) (t : Tells M cur st far) (j : ℕ) (m : j < S.calls) (off : cur (S.of j) ≢ j)
      (asked_on : may M st (asks j) ≡ true) where
    abbrev before : ℕ
    before = cur (S.of j)

    before_below : before < S.calls
    before_below = (t.current (S.of j) (is.of_below j m)).0

    before_of : S.of before ≡ S.of j
    before_of = (t.current (S.of j) (is.of_below j m)).1

    before_now : cur (S.of before) ≡ before
    before_now = ap cur before_of

    before_low : AllLow M st before
    before_low = other_low M cur st far t before j before_below m before_now (sym before_of) (λ e. off (sym e)) asked_on

    switch_on : may_there M far (asked j) ≡ true
    switch_on = sym (other_may M cur st far t before j before_below m before_now (sym before_of) (λ e. off (sym e))) ∙ asked_on

    entry_low : (p : ℕ) → p ≡ S.of j → v S st (enters p) ≡ false
    entry_low p e = ap (λ z. v S st (enters z)) (e ∙ sym before_of) ∙ before_low.entered

    body_low : (p x : ℕ) → p ≡ S.of j → x < S.size p → v S st (body p x) ≡ false
    body_low p x e h = subst (λ z. (x < S.size z → v S st (body z x) ≡ false)) (before_of ∙ sym e) at_before h
      where
        at_before : x < S.size (S.of before) → v S st (body (S.of before) x) ≡ false
        at_before h = ⊎_elim
            (λ (same : x ≡ end S before). ap (λ y. v S st (body (S.of before) y)) same ∙ before_low.ended)
            (λ (ne : x ≢ end S before). sym (inside M cur st far t before before_below before_now x h ne)
            ∙ (keeps far t.reached).clear before x before_below h (passed M cur st far t before before_below before_now ∙ before_low.entered)
            (given M cur st far t before before_below before_now ∙ before_low.answered))
            (cases_eq x (end S before))

    is_before : (k : ℕ) → cur (S.of k) ≡ k → S.of k ≡ S.of j → k ≡ before
    is_before k now e = sym now ∙ ap cur e

    back_low : (k x : ℕ) → S.of k ≡ S.of j → x < S.size (S.of k) → v S st (answers k) ≡ false → v S st (back S (copied k x)) ≡ false
    back_low k x e h low = ⊎_elim
        (λ (same : x ≡ end S k). ap (λ y. v S st (back S (copied k y))) same ∙ (ap (v S st) (back_end S k) ∙ low))
        (λ (ne : x ≢ end S k). ap (v S st) (back_inner S k x ne) ∙ body_low (S.of k) x e h)
        (cases_eq x (end S k))

    abbrev pick : ℕ → ℕ
    pick p = if p == S.of j then j else cur p

    pick_same : (p : ℕ) → p ≡ S.of j → pick p ≡ j
    pick_same p e = ap (λ b. if b then j else cur p) (eq-eqb p (S.of j) e)

    pick_other : (p : ℕ) → p ≢ S.of j → pick p ≡ cur p
    pick_other p ne = ap (λ b. if b then j else cur p) (ne_eqb p (S.of j) ne)

    abbrev switched : RunState
    switched = moved A st (S.here (asks j))

    no_back : (to : There) → back S to ≢ asks j
    no_back to = never_asks S to j

    pub stay : (z : Here) → IsHere S z → z ≢ asks j → v S switched z ≡ v S st z
    stay = all_stay M cur st far t (asks j) m tt no_back

    stay_back : (to : There) → IsThere S to → v S switched (back S to) ≡ v S st (back S to)
    stay_back = back_stays M cur st far t (asks j) m tt no_back

    switch_shows : (to : There) → IsThere S to → Current S pick to → u S far to ≡ v S switched (back S to)
    switch_shows (plainly k) h on = t.shows (plainly k) h tt ∙ sym (stay_back (plainly k) h)
    switch_shows (asked k) h on = ⊎_elim
        (λ (e : S.of k ≡ S.of j).
        let same : k ≡ j = sym on ∙ pick_same (S.of k) e in
        ap (λ z. u S far (asked z)) same ∙ (t.blank (asked j) m off ∙ sym (stay_back (asked k) h ∙ entry_low (S.of k) e)))
        (λ (ne : S.of k ≢ S.of j). t.shows (asked k) h (sym (pick_other (S.of k) ne) ∙ on) ∙ sym (stay_back (asked k) h))
        (cases_eq (S.of k) (S.of j))
    switch_shows (copied k x) h on = ⊎_elim
        (λ (e : S.of k ≡ S.of j).
        let same : k ≡ j = sym on ∙ pick_same (S.of k) e in
        let within : x < S.size (S.of j) = subst (λ z. x < S.size z) e h.1 in
        ap (λ z. u S far (copied z x)) same ∙ (t.blank (copied j x) (m, within) off
        ∙ sym (stay_back (copied k x) h ∙ back_low k x e h.1 (ap (λ z. v S st (answers z)) same ∙ (t.idle j m off).1))))
        (λ (ne : S.of k ≢ S.of j). t.shows (copied k x) h (sym (pick_other (S.of k) ne) ∙ on) ∙ sym (stay_back (copied k x) h))
        (cases_eq (S.of k) (S.of j))

    switch_blank : (to : There) → IsThere S to → IsOther S pick to → u S far to ≡ false
    switch_blank (plainly k) h more = absurd more
    switch_blank (asked k) h more = ⊎_elim
        (λ (e : S.of k ≡ S.of j). ⊎_elim
        (λ (now : cur (S.of k) ≡ k). t.shows (asked k) h now ∙ entry_low (S.of k) e)
        (λ (late : cur (S.of k) ≢ k). t.blank (asked k) h late)
        (cases_eq (cur (S.of k)) k))
        (λ (ne : S.of k ≢ S.of j). t.blank (asked k) h (λ f. more (pick_other (S.of k) ne ∙ f)))
        (cases_eq (S.of k) (S.of j))
    switch_blank (copied k x) h more = ⊎_elim
        (λ (e : S.of k ≡ S.of j). ⊎_elim
        (λ (now : cur (S.of k) ≡ k). t.shows (copied k x) h now
        ∙ back_low k x e h.1 (ap (λ z. v S st (answers z)) (is_before k now e) ∙ before_low.answered))
        (λ (late : cur (S.of k) ≢ k). t.blank (copied k x) h late)
        (cases_eq (cur (S.of k)) k))
        (λ (ne : S.of k ≢ S.of j). t.blank (copied k x) h (λ f. more (pick_other (S.of k) ne ∙ f)))
        (cases_eq (S.of k) (S.of j))

    switch_idle : (k : ℕ) → k < S.calls → pick (S.of k) ≢ k → (v S switched (asks k) ≡ false) × (v S switched (answers k) ≡ false)
    switch_idle k l more = (stay (asks k) l (λ e. other (asks_apart k j e)) ∙ low.0, stay (answers k) l (λ e. cc) ∙ low.1)
      where
        other : k ≢ j
        other e = more (pick_same (S.of k) (ap S.of e) ∙ sym e)

        low : (v S st (asks k) ≡ false) × (v S st (answers k) ≡ false)
        low = ⊎_elim
            (λ (e : S.of k ≡ S.of j). ⊎_elim
            (λ (now : cur (S.of k) ≡ k).
            let same = is_before k now e in
            (ap (λ z. v S st (asks z)) same ∙ before_low.asked, ap (λ z. v S st (answers z)) same ∙ before_low.answered))
            (λ (late : cur (S.of k) ≢ k). t.idle k l late)
            (cases_eq (cur (S.of k)) k))
            (λ (ne : S.of k ≢ S.of j). t.idle k l (λ f. more (pick_other (S.of k) ne ∙ f)))
            (cases_eq (S.of k) (S.of j))

    switch_entered : v S switched (enters (S.of j)) ≡ false
    switch_entered = stay (enters (S.of j)) (is.of_below j m) (λ e. cc) ∙ entry_low (S.of j) refl

    switch_ended : v S switched (body_end S j) ≡ false
    switch_ended = stay (body_end S j) (is.of_below j m, within_end M j m) (λ e. cc) ∙ body_low (S.of j) (end S j) refl (within_end M j m)

    switch_answered : v S switched (answers j) ≡ false
    switch_answered = stay (answers j) m (λ e. cc) ∙ (t.idle j m off).1

    switch_asked : v S switched (asks j) ≡ not (v S switched (enters (S.of j)))
    switch_asked = itself_turned M cur st far t (asks j) m tt no_back ∙ ap not ((t.idle j m off).0 ∙ sym switch_entered)

    abbrev SwitchPhase : ℕ → Type 0
    SwitchPhase k = PhaseOf M switched far k

    switch_phase : (k : ℕ) → k < S.calls → pick (S.of k) ≡ k → SwitchPhase k
    switch_phase k l on = ⊎_elim
        (λ (e : S.of k ≡ S.of j). subst SwitchPhase (sym (sym on ∙ pick_same (S.of k) e)) mine)
        (λ (ne : S.of k ≢ S.of j).
        untouched M cur st far t (asks j) m tt no_back k l (sym (pick_other (S.of k) ne) ∙ on) (λ e. ne (ap S.of (asks_apart k j e))) (λ e. cc) (λ e. cc)
        (λ e. cc))
        (cases_eq (S.of k) (S.of j))
      where
        mine : SwitchPhase j
        mine = asking switch_asked (switch_ended ∙ sym switch_entered) (switch_answered ∙ sym switch_entered) switch_on

    switch_current : (p : ℕ) → p < S.procs → (pick p < S.calls) × (S.of (pick p) ≡ p)
    switch_current p l = ⊎_elim
        (λ (e : p ≡ S.of j). subst (λ k. (k < S.calls) × (S.of k ≡ p)) (sym (pick_same p e)) (m, sym e))
        (λ (ne : p ≢ S.of j). subst (λ k. (k < S.calls) × (S.of k ≡ p)) (sym (pick_other p ne)) (t.current p l))
        (cases_eq p (S.of j))

    switch_owes : OwesOne M cur pick st (asks j)
    switch_owes = record {
      below = is.of_below j m;
      before = level_owes M st before (before_low.asked ∙ sym before_low.entered) (before_low.ended ∙ sym before_low.answered);
      since = ap (owed M switched) (pick_same (S.of j) refl) ∙ asking_owes M switched j switch_asked (switch_ended ∙ sym switch_answered);
      others = pick_other;
    }

    pub switch_went : Went M cur st far (asks j)
    switch_went = stays pick (request j m refl) switch_owes (asked j) m tt tt switch_on ((t.idle j m off).0 ∙ sym (t.blank (asked j) m off)) (record {
      long = length-set st.values (S.here (asks j)) (not (v S st (asks j))) ∙ t.long;
      long_there = t.long_there;
      histories = dropped_histories M cur st far t (asks j) m tt no_back;
      reached = t.reached;
      current = switch_current;
      shows = switch_shows;
      blank = switch_blank;
      idle = switch_idle;
      phase = switch_phase;
    })
