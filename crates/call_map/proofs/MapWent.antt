-- Each move of the net with shared bodies is one of the net with copies, or none.
--
-- M, A, B, S, cur, st, far: as in MapStates; c: a call under way; x: a node of its body; p: a procedure.
use Rattle.std.proofs.Common.{◌≡◌, ◌≢◌, ℕ, ◌<◌, true, refl, sym, ap, ◌∙◌, subst, ⊎_elim}
use Rattle.std.specs.Prelude.{not}
use Rattle.std.proofs.lemmas.Bool.{cases_eq}
use Rattle.prs_core.specs.Nets.{NetValue}
use Rattle.env_script.specs.Runs.{RunState, moved}
use Rattle.call_map.specs.Shared.{Here, plain, asks, answers, enters, body, plainly, asked, copied, IsHere, body_end}
use Rattle.call_map.proofs.Truths.{true_false}
use Rattle.call_map.proofs.MapNodes.{level, asking, giving, asked_same, copied_same, v, end, back_end, back_inner}
use Rattle.call_map.proofs.MapStates.{Mapping, shared_net, copies_net, may, may_there, PhaseOf, Tells, within_end, body_alike, alike}
use Rattle.call_map.proofs.MapGuards.{plain_same, body_same}
use Rattle.call_map.proofs.MapEnabled.{giving_still, asking_still, enters_even, answers_even, answers_idle, others_idle}
use Rattle.call_map.proofs.MapMoved.{kept, Went, goes}
use Rattle.call_map.proofs.MapOwed.{result_went, asks_went, switch_went}

module _ (M : Mapping) where
  open M use {S, is, script, ws, Reached, next, safe, keeps}

  abbrev A : NetValue
  A = shared_net M

  abbrev B : NetValue
  B = copies_net M

  -- every move
  module _ (cur : ℕ → ℕ) (st far : RunState) (t : Tells M cur st far) where
    plain_went : (k : ℕ) → S.is_plain k ≡ true → may M st (plain k) ≡ true → Went M cur st far (plain k)
    plain_went k h e =
        let far_on = sym (plain_same M cur st far (alike M cur st far t) t.histories k h) ∙ e in
        goes (plainly k) h tt refl far_on (kept M cur st far t (plainly k) h tt far_on (λ c l on z. absurd (by_asked c z)) (λ c l on z. absurd (by_copied c z)))
      where
        by_asked : (c : ℕ) → plainly k ≡ asked c → ⊥
        by_asked c z = cc

        by_copied : (c : ℕ) → plainly k ≡ copied c (end S c) → ⊥
        by_copied c z = cc

    module _ (c : ℕ) (l : c < S.calls) (on : cur (S.of c) ≡ c) where
      enters_went : may M st (enters (S.of c)) ≡ true → Went M cur st far (enters (S.of c))
      enters_went e = by (t.phase c l on)
        where
          even : v S st (asks c) ≡ v S st (enters (S.of c)) → Went M cur st far (enters (S.of c))
          even rq = absurd (true_false (may M st (enters (S.of c))) e (enters_even M st c l (others_idle M cur st far t c on) rq))

          late : (k : ℕ) → k ≡ c → v S st (asks c) ≡ not (v S st (enters (S.of c))) → v S st (body_end S c) ≡ v S st (answers c)
              → (v S st (asks k) ≡ not (v S st (enters (S.of k)))) × (v S st (body_end S k) ≡ v S st (answers k))
          late k same a b = subst (λ z. (v S st (asks z) ≡ not (v S st (enters (S.of z)))) × (v S st (body_end S z) ≡ v S st (answers z))) (sym same) (a, b)

          by_copied : (k : ℕ) → asked c ≡ copied k (end S k) → ⊥
          by_copied k z = cc

          by : PhaseOf M st far c → Went M cur st far (enters (S.of c))
          by (level rq da) = even rq
          by (giving rq dq aq o) = even rq
          by (asking rq dq aq o) = goes (asked c) l on refl o (kept M cur st far t (asked c) l on o
              (λ k m now z. late k (sym (asked_same c k z)) rq (dq ∙ sym aq)) (λ k m now z. absurd (by_copied k z)))

      answers_went : may M st (answers c) ≡ true → Went M cur st far (answers c)
      answers_went e = by (t.phase c l on)
        where
          even : v S st (body_end S c) ≡ v S st (answers c) → Went M cur st far (answers c)
          even da = absurd (true_false (may M st (answers c)) e (answers_even M st c l da))

          late : (k : ℕ) → k ≡ c → v S st (asks c) ≡ v S st (enters (S.of c)) → v S st (answers c) ≡ not (v S st (body_end S c))
              → (v S st (asks k) ≡ v S st (enters (S.of k))) × (v S st (answers k) ≡ not (v S st (body_end S k)))
          late k same a b = subst (λ z. (v S st (asks z) ≡ v S st (enters (S.of z))) × (v S st (answers z) ≡ not (v S st (body_end S z)))) (sym same) (a, b)

          by_asked : (k : ℕ) → copied c (end S c) ≡ asked k → ⊥
          by_asked k z = cc

          by : PhaseOf M st far c → Went M cur st far (answers c)
          by (level rq da) = even da
          by (asking rq dq aq o) = even (dq ∙ sym aq)
          by (giving rq dq aq o) =
              subst (λ s. Tells M cur (moved A st (S.here s)) (moved B far (S.there (copied c (end S c)))) → Went M cur st far (answers c)) (sym (back_end S c))
              (λ tells. goes (copied c (end S c)) (l, within_end M c l) on (back_end S c) o tells)
              (kept M cur st far t (copied c (end S c)) (l, within_end M c l) on o (λ k m now z. absurd (by_asked k z))
              (λ k m now z. late k (sym (copied_same c k (end S c) (end S k) z).0) rq (aq ∙ ap not (sym dq))))

      body_went : (x : ℕ) → x < S.size (S.of c) → x ≢ end S c → may M st (body (S.of c) x) ≡ true → Went M cur st far (body (S.of c) x)
      body_went x h ne e = by (t.phase c l on)
        where
          by_asked : (k : ℕ) → copied c x ≡ asked k → ⊥
          by_asked k z = cc

          by_copied : (k : ℕ) → copied c x ≡ copied k (end S k) → ⊥
          by_copied k z = let s = copied_same c k x (end S k) z in ne (s.1 ∙ ap (end S) (sym s.0))

          by : PhaseOf M st far c → Went M cur st far (body (S.of c) x)
          by (asking rq dq aq o) = absurd (true_false (may M st (body (S.of c) x)) e (asking_still M cur st far t c l on dq aq x h))
          by (giving rq dq aq o) = absurd (true_false (may M st (body (S.of c) x)) e (giving_still M cur st far t c l on rq dq aq o x h))
          by (level rq da) =
              let far_on : may_there M far (copied c x) ≡ true = sym (body_same M st far c x l (body_alike M cur st far t c l on da) h) ∙ e in
              subst (λ s. Tells M cur (moved A st (S.here s)) (moved B far (S.there (copied c x))) → Went M cur st far (body (S.of c) x))
              (sym (back_inner S c x ne))
              (λ tells. goes (copied c x) (l, h) on (back_inner S c x ne) far_on tells)
              (kept M cur st far t (copied c x) (l, h) on far_on (λ k m now z. absurd (by_asked k z)) (λ k m now z. absurd (by_copied k z)))

    -- what holds of a procedure's call under way holds of the procedure
    pub at_proc : (P : ℕ → Type 0) → ((c : ℕ) → c < S.calls → cur (S.of c) ≡ c → P (S.of c)) → (p : ℕ) → p < S.procs → P p
    at_proc P each p l = let z = t.current p l in subst P z.1 (each (cur p) z.0 (ap cur z.1))

    pub went : (s : Here) → IsHere S s → may M st s ≡ true → Went M cur st far s
    went (plain k) h e = plain_went k h e
    went (asks c) h e = ⊎_elim (λ (on : cur (S.of c) ≡ c). asks_went M cur st far t c h on e) (λ (off : cur (S.of c) ≢ c). switch_went M cur st far t c h off e)
        (cases_eq (cur (S.of c)) c)
    went (answers c) h e = ⊎_elim
        (λ (on : cur (S.of c) ≡ c). answers_went c h on e)
        (λ (off : cur (S.of c) ≢ c). let i = t.idle c h off in absurd (true_false (may M st (answers c)) e (answers_idle M st c h i.0 i.1)))
        (cases_eq (cur (S.of c)) c)
    went (enters p) h e = at_proc (λ q. may M st (enters q) ≡ true → Went M cur st far (enters q)) enters_went p h e
    went (body p x) h e = at_proc (λ q. x < S.size q → may M st (body q x) ≡ true → Went M cur st far (body q x)) at_call p h.0 h.1 e
      where
        at_call : (c : ℕ) → c < S.calls → cur (S.of c) ≡ c → x < S.size (S.of c) → may M st (body (S.of c) x) ≡ true → Went M cur st far (body (S.of c) x)
        at_call c l on more f = ⊎_elim
            (λ (same : x ≡ end S c).
            subst (λ y. may M st (body (S.of c) y) ≡ true → Went M cur st far (body (S.of c) y)) (sym same) (result_went M cur st far t c l on) f)
            (λ (ne : x ≢ end S c). body_went c l on x more ne f)
            (cases_eq x (end S c))
