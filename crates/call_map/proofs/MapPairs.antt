-- Where nothing is owed to a call, a move of the net with copies is made by one move of the net with shared bodies or by two,
-- and then nothing is owed again.
--
-- M, A, B, S, cur, st, far: as in MapStates; to: the node of B that moves; c: its call; k: any call; x: a node of a body.
use Rattle.std.proofs.Common.{◌≡◌, ◌≢◌, ℕ, ◌<◌, ◌==◌, Bool, true, false, List, [], ◌∷◌, refl, sym, ap, ◌∙◌, subst, ⊎_elim}
use Rattle.std.specs.Prelude.{not}
use Rattle.std.proofs.lemmas.Bool.{cases_eq, eq-eqb, ne_eqb}
use Rattle.prs_core.specs.Nets.{NetValue}
use Rattle.env_script.specs.Runs.{RunState, moved, IsRun, after}
use Rattle.call_map.specs.Shared.{plain, asks, answers, enters, body, There, plainly, asked, copied, IsHere, IsThere, body_end}
use Rattle.call_map.proofs.Truths.{true_false, no_not}
use Rattle.call_map.proofs.MapNodes.{level, asking, giving, asks_apart, body_apart, asked_same, copied_same, v, u, end, back_at, back, Current, back_end, back_inner, back_one, never_asks, never_result}
use Rattle.call_map.proofs.MapStates.{Mapping, shared_net, copies_net, may, may_there, PhaseOf, Tells, within_end, passed}
use Rattle.call_map.proofs.MapEnabled.{same_here, turned_here, turned_there, stays_on, other_low, enters_owed, answers_owed, others_idle}
use Rattle.call_map.proofs.MapMoved.{kept, Went, goes, stays}
use Rattle.call_map.proofs.MapWent.{went}
use Rattle.call_map.proofs.MapBegins.{begins, ends_at, ends, IsLate, LevelCall, NoneOwed, level_kept, now_copied, asks_even, may_begin}

entered_apart : (p q : ℕ) → enters p ≡ enters q → p ≡ q
entered_apart p q e = cc

body_same_node : (p q x y : ℕ) → body p x ≡ body q y → x ≡ y
body_same_node p q x y e = cc

module _ (M : Mapping) where
  open M use {S, is, script, ws, Reached, next, safe, keeps}

  abbrev A : NetValue
  A = shared_net M

  abbrev B : NetValue
  B = copies_net M

  -- the moves of the net with shared bodies that make the move of the node
  pub record Paired (st far : RunState) (to : There) : Type 0 where
    pub more : ℕ → ℕ
    pub now : Current S more to
    pub owes_none : NoneOwed M more (after A st (S.here (begins S to) ∷ ends S to)) (moved B far (S.there to))
    pub run : IsRun A script st (S.here (begins S to) ∷ ends S to)

  paired_by : (st far : RunState) (to : There) (es : List ℕ) → ends S to ≡ es → (more : ℕ → ℕ) → Current S more to
      → NoneOwed M more (after A st (S.here (begins S to) ∷ es)) (moved B far (S.there to)) → IsRun A script st (S.here (begins S to) ∷ es) → Paired st far to
  paired_by st far to es e more now s run = record {
    more = more;
    now = now;
    owes_none = subst (λ l. NoneOwed M more (after A st (S.here (begins S to) ∷ l)) (moved B far (S.there to))) (sym e) s;
    run = subst (λ l. IsRun A script st (S.here (begins S to) ∷ l)) (sym e) run;
  }

  module _ (cur : ℕ → ℕ) (st far : RunState) (s : NoneOwed M cur st far) where
    -- a node that both nets have
    paired_plain : (k : ℕ) → S.is_plain k ≡ true → may_there M far (plainly k) ≡ true → Paired st far (plainly k)
    paired_plain k h on = record {
      more = cur;
      now = tt;
      owes_none = record {
        tells = kept M cur st far s.tells (plainly k) h tt on (λ c l now z. absurd (by_asked c z)) (λ c l now z. absurd (by_copied c z));
        levels = λ c l now. level_kept M st (plain k) h c l (λ z. cc) (λ z. cc) (λ z. cc) (λ z. cc) (s.levels c l now);
      };
      run = (may_begin M cur st far s (plainly k) h on, tt);
    }
      where
        by_asked : (c : ℕ) → plainly k ≡ asked c → ⊥
        by_asked c z = cc

        by_copied : (c : ℕ) → plainly k ≡ copied c (end S c) → ⊥
        by_copied c z = cc

    -- a node of a body that isn't its answer
    paired_inner : (c x : ℕ) → c < S.calls → x < S.size (S.of c) → x ≢ end S c → may_there M far (copied c x) ≡ true → Paired st far (copied c x)
    paired_inner c x l h ne on =
        let now = now_copied M cur st far s.tells c x l h on in
        paired_by st far (copied c x) [] (ap (λ b. ends_at S b c) (ne_eqb x (end S c) ne)) cur now (record {
          tells = subst (λ z. Tells M cur (moved A st (S.here z)) (moved B far (S.there (copied c x)))) (back_inner S c x ne)
              (kept M cur st far s.tells (copied c x) (l, h) now on (λ k m e z. absurd (by_asked k z)) (λ k m e z. absurd (by_copied k z)));
          levels = λ k m e. level_kept M st (body (S.of c) x) (is.of_below c l, h) k m (λ z. cc) (λ z. cc) (by_end k) (λ z. cc) (s.levels k m e);
        }) (may_begin M cur st far s (copied c x) (l, h) on, tt)
      where
        by_asked : (k : ℕ) → copied c x ≡ asked k → ⊥
        by_asked k z = cc

        by_copied : (k : ℕ) → copied c x ≡ copied k (end S k) → ⊥
        by_copied k z = let e = copied_same c k x (end S k) z in ne (e.1 ∙ ap (end S) (sym e.0))

        by_end : (k : ℕ) → body_end S k ≢ body (S.of c) x
        by_end k z = ne (sym (body_same_node (S.of k) (S.of c) (end S k) x z) ∙ ap S.last (body_apart (S.of k) (S.of c) (end S k) x z))

    -- a move of the call c: then that call is the one under way of its procedure, and in all others nothing changes
    call_level : (c : ℕ) (more : ℕ → ℕ) → more (S.of c) ≡ c → ((q : ℕ) → q ≢ S.of c → more q ≡ cur q) → (then : RunState) → LevelCall M then c
        → ((k : ℕ) → k < S.calls → S.of k ≢ S.of c → LevelCall M st k → LevelCall M then k)
        → (k : ℕ) → k < S.calls → more (S.of k) ≡ k → LevelCall M then k
    call_level c more now others then mine theirs k m on = ⊎_elim
        (λ (e : S.of k ≡ S.of c). subst (λ j. LevelCall M then j) (sym (sym on ∙ (ap more e ∙ now))) mine)
        (λ (ne : S.of k ≢ S.of c). theirs k m ne (s.levels k m (sym (others (S.of k) ne) ∙ on)))
        (cases_eq (S.of k) (S.of c))

    -- the request of a call, and then that of its procedure
    module _ (c : ℕ) (l : c < S.calls) (far_on : may_there M far (asked c) ≡ true) where
      abbrev asked_on : RunState
      asked_on = moved A st (S.here (asks c))

      abbrev entered_on : RunState
      entered_on = moved A asked_on (S.here (enters (S.of c)))

      asks_on : may M st (asks c) ≡ true
      asks_on = may_begin M cur st far s (asked c) l far_on

      asks_turned : v S asked_on (asks c) ≡ not (u S far (asked c))
      asks_turned = turned_here M st (asks c) s.tells.long l ∙ ap not (asks_even M cur st far s c l)

      module _ (more : ℕ → ℕ) (t : Tells M more asked_on far) (others : (q : ℕ) → q ≢ S.of c → more q ≡ cur q) where
        now_asked : more (S.of c) ≡ c
        now_asked = ⊎_elim
            (λ (on : more (S.of c) ≡ c). on)
            (λ (off : more (S.of c) ≢ c). absurd (true_false (v S asked_on (asks c)) (asks_turned ∙ ap not (t.blank (asked c) l off)) (t.idle c l off).0))
            (cases_eq (more (S.of c)) c)

        unentered : v S asked_on (asks c) ≡ not (v S asked_on (enters (S.of c)))
        unentered = asks_turned ∙ ap not (passed M more asked_on far t c l now_asked)

        owed_request : v S asked_on (body_end S c) ≡ v S asked_on (answers c) → (k : ℕ) → k ≡ c
            → (v S asked_on (asks k) ≡ not (v S asked_on (enters (S.of k)))) × (v S asked_on (body_end S k) ≡ v S asked_on (answers k))
        owed_request da k same =
            subst (λ z. (v S asked_on (asks z) ≡ not (v S asked_on (enters (S.of z)))) × (v S asked_on (body_end S z) ≡ v S asked_on (answers z))) (sym same)
            (unentered, da)

        by_copied : (k : ℕ) → asked c ≡ copied k (end S k) → ⊥
        by_copied k z = cc

        entered_level : v S asked_on (body_end S c) ≡ v S asked_on (answers c) → LevelCall M entered_on c
        entered_level da =
            let h = is.of_below c l in (
              same_here M asked_on (enters (S.of c)) (asks c) h l (λ z. cc) ∙ (unentered ∙ sym (turned_here M asked_on (enters (S.of c)) t.long h)),
              same_here M asked_on (enters (S.of c)) (body_end S c) h (h, within_end M c l) (λ z. cc)
                  ∙ (da ∙ sym (same_here M asked_on (enters (S.of c)) (answers c) h l (λ z. cc))),
            )

        asked_level : (k : ℕ) → k < S.calls → S.of k ≢ S.of c → LevelCall M st k → LevelCall M entered_on k
        asked_level k m ne e =
            level_kept M asked_on (enters (S.of c)) (is.of_below c l) k m (λ z. cc) (λ z. ne (entered_apart (S.of k) (S.of c) z)) (λ z. cc) (λ z. cc)
            (level_kept M st (asks c) l k m (λ z. ne (ap S.of (asks_apart k c z))) (λ z. cc) (λ z. cc) (λ z. cc) e)

        asked_phase : PhaseOf M asked_on far c → Paired st far (asked c)
        asked_phase (level rq da) = absurd (no_not (v S asked_on (enters (S.of c))) (sym rq ∙ unentered))
        asked_phase (giving rq dq aq o) = absurd (no_not (v S asked_on (enters (S.of c))) (sym rq ∙ unentered))
        asked_phase (asking rq dq aq o) = record {
          more = more;
          now = now_asked;
          owes_none = record {
            tells = kept M more asked_on far t (asked c) l now_asked far_on (λ k m on z. owed_request (dq ∙ sym aq) k (sym (asked_same c k z)))
                (λ k m on z. absurd (by_copied k z));
            levels = call_level c more now_asked others entered_on (entered_level (dq ∙ sym aq)) asked_level;
          };
          run = (asks_on, (enters_owed M asked_on c l (others_idle M more asked_on far t c now_asked) rq, tt));
        }

        asked_made : Paired st far (asked c)
        asked_made = asked_phase (t.phase c l now_asked)

      paired_asked : Paired st far (asked c)
      paired_asked = by (went M cur st far s.tells (asks c) l asks_on)
        where
          by : Went M cur st far (asks c) → Paired st far (asked c)
          by (goes to h on is_s on_there tells) = absurd (never_asks S to c is_s)
          by (stays more drops owing to h is_far own on_there same tells) = asked_made more tells owing.others

    -- the answer of a body, and then that of the call
    module _ (c : ℕ) (l : c < S.calls) (far_on : may_there M far (copied c (end S c)) ≡ true) where
      abbrev ended_on : RunState
      ended_on = moved A st (S.here (body_end S c))

      abbrev answered_on : RunState
      answered_on = moved A ended_on (S.here (answers c))

      is_copy : IsThere S (copied c (end S c))
      is_copy = (l, within_end M c l)

      is_body : IsHere S (body_end S c)
      is_body = (is.of_below c l, within_end M c l)

      end_on : may M st (body_end S c) ≡ true
      end_on = may_begin M cur st far s (copied c (end S c)) is_copy far_on

      unanswered : v S ended_on (body_end S c) ≡ not (v S ended_on (answers c))
      unanswered =
          let now = now_copied M cur st far s.tells c (end S c) l (within_end M c l) far_on in
          turned_here M st (body_end S c) s.tells.long is_body
          ∙ ap not ((s.levels c l now).1 ∙ sym (same_here M st (body_end S c) (answers c) is_body l (λ z. cc)))

      module _ (more : ℕ → ℕ) (t : Tells M more ended_on far) (others : (q : ℕ) → q ≢ S.of c → more q ≡ cur q) where
        now_ended : more (S.of c) ≡ c
        now_ended = now_copied M more ended_on far t c (end S c) l (within_end M c l) far_on

        owed_answer : v S ended_on (asks c) ≡ v S ended_on (enters (S.of c)) → v S ended_on (answers c) ≡ not (v S ended_on (body_end S c)) → (k : ℕ) → k ≡ c
            → (v S ended_on (asks k) ≡ v S ended_on (enters (S.of k))) × (v S ended_on (answers k) ≡ not (v S ended_on (body_end S k)))
        owed_answer rq ad k same =
            subst (λ z. (v S ended_on (asks z) ≡ v S ended_on (enters (S.of z))) × (v S ended_on (answers z) ≡ not (v S ended_on (body_end S z)))) (sym same)
            (rq, ad)

        by_asked : (k : ℕ) → copied c (end S c) ≡ asked k → ⊥
        by_asked k z = cc

        answered_level : v S ended_on (asks c) ≡ v S ended_on (enters (S.of c)) → LevelCall M answered_on c
        answered_level rq = (
          same_here M ended_on (answers c) (asks c) l l (λ z. cc)
              ∙ (rq ∙ sym (same_here M ended_on (answers c) (enters (S.of c)) l (is.of_below c l) (λ z. cc))),
          same_here M ended_on (answers c) (body_end S c) l is_body (λ z. cc) ∙ (unanswered ∙ sym (turned_here M ended_on (answers c) t.long l)),
        )

        ended_level : (k : ℕ) → k < S.calls → S.of k ≢ S.of c → LevelCall M st k → LevelCall M answered_on k
        ended_level k m ne e =
            level_kept M ended_on (answers c) l k m (λ z. cc) (λ z. cc) (λ z. cc) (λ z. ne (ap S.of (answers_apart k z)))
            (level_kept M st (body_end S c) is_body k m (λ z. cc) (λ z. cc) (λ z. ne (body_apart (S.of k) (S.of c) (end S k) (end S c) z)) (λ z. cc) e)
          where
            answers_apart : (k : ℕ) → answers k ≡ answers c → k ≡ c
            answers_apart k z = cc

        ended_phase : PhaseOf M ended_on far c → Paired st far (copied c (end S c))
        ended_phase (level rq da) = absurd (no_not (v S ended_on (answers c)) (sym da ∙ unanswered))
        ended_phase (asking rq dq aq o) = absurd (no_not (v S ended_on (answers c)) (aq ∙ (sym dq ∙ unanswered)))
        ended_phase (giving rq dq aq o) =
            paired_by st far (copied c (end S c)) (S.here (answers c) ∷ []) (ap (λ b. ends_at S b c) (eq-eqb (end S c) (end S c) refl)) more now_ended (record {
              tells = subst (λ z. Tells M more (moved A ended_on (S.here z)) (moved B far (S.there (copied c (end S c))))) (back_end S c)
                  (kept M more ended_on far t (copied c (end S c)) is_copy now_ended far_on (λ k m on z. absurd (by_asked k z))
                  (λ k m on z. owed_answer rq (aq ∙ ap not (sym dq)) k (sym (copied_same c k (end S c) (end S k) z).0)));
              levels = call_level c more now_ended others answered_on (answered_level rq) ended_level;
            }) (end_on, (answers_owed M ended_on c l (rq ∙ sym dq) (aq ∙ ap not (sym dq)), tt))

        ended_made : Paired st far (copied c (end S c))
        ended_made = ended_phase (t.phase c l now_ended)

      paired_end : Paired st far (copied c (end S c))
      paired_end = by (went M cur st far s.tells (body_end S c) is_body end_on)
        where
          by : Went M cur st far (body_end S c) → Paired st far (copied c (end S c))
          by (goes to h on is_s on_there tells) = absurd (never_result S to (S.of c) is_s)
          by (stays more drops owing to h is_far own on_there same tells) = ended_made more tells owing.others

    pub pair : (to : There) → IsThere S to → may_there M far to ≡ true → Paired st far to
    pair (plainly k) h on = paired_plain k h on
    pair (asked c) h on = paired_asked c h on
    pair (copied c x) h on = ⊎_elim
        (λ (e : x ≡ end S c). subst (λ y. may_there M far (copied c y) ≡ true → Paired st far (copied c y)) (sym e) (λ f. paired_end c h.0 f) on)
        (λ (ne : x ≢ end S c). paired_inner c x h.0 h.1 ne on)
        (cases_eq x (end S c))

    -- of two calls of a procedure that may be asked the one is under way
    asked_before : (c j : ℕ) → c < S.calls → j < S.calls → S.of j ≡ S.of c → j ≢ c → may_there M far (asked c) ≡ true → may_there M far (asked j) ≡ true
        → cur (S.of c) ≡ c
    asked_before c j l m together ne on j_on =
        let p = paired_asked c l on in
        let far_c = moved B far (S.there (asked c)) in
        let st_c = after A st (S.here (asks c) ∷ S.here (enters (S.of c)) ∷ []) in
        let still = stays_on M far s.tells.reached (asked c) (asked j) l m on (λ e. ne (asked_same j c e)) j_on in
        let low = other_low M p.more st_c far_c p.owes_none.tells c j l m p.now together ne (may_begin M p.more st_c far_c p.owes_none (asked j) m still) in
        let fell : not (u S far (asked c)) ≡ false =
        sym (turned_there M far (asked c) s.tells.long_there l) ∙ (passed M p.more st_c far_c p.owes_none.tells c l p.now ∙ low.entered) in
        ⊎_elim
        (λ (now : cur (S.of c) ≡ c). now)
        (λ (off : cur (S.of c) ≢ c). absurd (true_false (not (u S far (asked c))) (ap not (s.tells.blank (asked c) l off)) fell))
        (cases_eq (cur (S.of c)) c)

    -- no two moves have the same second one
    pub end_one : (to more : There) → IsThere S to → IsThere S more → may_there M far to ≡ true → may_there M far more ≡ true → IsLate S (back S to)
        → back S to ≡ back S more → to ≡ more
    end_one (plainly k) more h hm on on_more late e = absurd late
    end_one (asked c) (plainly k) h hm on on_more late e = absurd (subst (IsLate S) e late)
    end_one (asked c) (asked j) h hm on on_more late e =
        let together : S.of c ≡ S.of j = entered_apart (S.of c) (S.of j) e in
        ⊎_elim
        (λ (same : c ≡ j). ap (λ z. asked z) same)
        (λ (ne : c ≢ j).
        let one = asked_before c j h hm (sym together) (λ z. ne (sym z)) on on_more in
        let two = asked_before j c hm h together ne on_more on in
        absurd (ne (sym one ∙ (ap cur together ∙ two))))
        (cases_eq c j)
    end_one (asked c) (copied j x) h hm on on_more late e = absurd (by (x == end S j) e)
      where
        by : (b : Bool) → enters (S.of c) ≡ back_at S b j x → ⊥
        by true z = cc
        by false z = cc
    end_one (copied c x) (plainly k) h hm on on_more late e = absurd (subst (IsLate S) e late)
    end_one (copied c x) (asked j) h hm on on_more late e = absurd (by (x == end S c) e)
      where
        by : (b : Bool) → back_at S b c x ≡ enters (S.of j) → ⊥
        by true z = cc
        by false z = cc
    end_one (copied c x) (copied j y) h hm on on_more late e =
        back_one S cur (copied c x) (copied j y) (now_copied M cur st far s.tells c x h.0 h.1 on) (now_copied M cur st far s.tells j y hm.0 hm.1 on_more) e
