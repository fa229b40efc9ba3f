-- States in which nothing is owed to a call, and the moves of the net with shared bodies that make a move of the net with
-- copies there: the first is enabled exactly where that move is, and the second, of a procedure's request or of a call's answer,
-- where a call's request or a body's answer was the first.
--
-- M, A, B, S, cur, st, far: as in MapStates; to: a node of B; s: a node of A; c, j, k: calls; x: a node of a body.
use Rattle.std.proofs.Common.{◌≡◌, ◌≢◌, ℕ, ◌<◌, ◌==◌, Bool, true, false, List, [], ◌∷◌, refl, sym, ap, ◌∙◌, subst, ⊎_elim}
use Rattle.std.proofs.lemmas.Bool.{cases_eq, eq-eqb, ne_eqb}
use Rattle.prs_core.specs.Nets.{NetValue}
use Rattle.env_script.specs.Runs.{RunState, moved}
use Rattle.call_map.specs.Shared.{Here, plain, asks, answers, enters, body, There, plainly, asked, copied, Sharing, IsHere, IsThere, body_end}
use Rattle.call_map.proofs.Truths.{true_false}
use Rattle.call_map.proofs.MapNodes.{v, u, end, back_at, back, image, IsOwn}
use Rattle.call_map.proofs.MapStates.{Mapping, shared_net, copies_net, may, may_there, Tells, within_end, passed, body_alike, alike}
use Rattle.call_map.proofs.MapGuards.{plain_same, asks_same, body_same}
use Rattle.call_map.proofs.MapEnabled.{same_here}

module _ (S : Sharing) where
  -- the node that moves first
  abbrev pub begins : There → Here
  begins (plainly k) = plain k
  begins (asked c) = asks c
  begins (copied c x) = body (S.of c) x

  -- those that move afterwards, one or none
  abbrev pub ends_at : Bool → (call : ℕ) → List ℕ
  ends_at true c = S.here (answers c) ∷ []
  ends_at false c = []

  abbrev pub ends : There → List ℕ
  ends (plainly k) = []
  ends (asked c) = S.here (enters (S.of c)) ∷ []
  ends (copied c x) = ends_at (x == end S c) c

  -- the nodes that move afterwards never move first
  abbrev pub IsLate : Here → Type 0
  IsLate (plain k) = ⊥
  IsLate (asks c) = ⊥
  IsLate (answers c) = Unit {0}
  IsLate (enters p) = Unit {0}
  IsLate (body p x) = ⊥

  pub never_late : (to : There) (s : Here) → IsLate s → begins to ≢ s
  never_late (plainly k) s late e = subst IsLate (sym e) late
  never_late (asked c) s late e = subst IsLate (sym e) late
  never_late (copied c x) s late e = subst IsLate (sym e) late

  -- which of both it is
  pub data Ending (to : There) : Type 0 where
    single : ends to ≡ [] → Ending to
    paired : ends to ≡ S.here (back S to) ∷ [] → IsLate (back S to) → IsOwn S (begins to) → Ending to

  pub ending : (to : There) → Ending to
  ending (plainly k) = single refl
  ending (asked c) = paired refl tt tt
  ending (copied c x) = ⊎_elim
      (λ (e : x ≡ end S c).
      let at : back S (copied c x) ≡ answers c = ap (λ b. back_at S b c x) (eq-eqb x (end S c) e) in
      paired (ap (λ b. ends_at b c) (eq-eqb x (end S c) e) ∙ ap (λ s. S.here s ∷ []) (sym at)) (subst IsLate (sym at) tt) tt)
      (λ (ne : x ≢ end S c). single (ap (λ b. ends_at b c) (ne_eqb x (end S c) ne)))
      (cases_eq x (end S c))

module _ (M : Mapping) where
  open M use {S, is, script, ws, Reached, next, safe, keeps}

  abbrev A : NetValue
  A = shared_net M

  abbrev B : NetValue
  B = copies_net M

  -- nothing is owed to a call
  abbrev pub LevelCall : RunState → (call : ℕ) → Type 0
  LevelCall st c = (v S st (asks c) ≡ v S st (enters (S.of c))) × (v S st (body_end S c) ≡ v S st (answers c))

  -- a state of the shared net in which that is so, and the state of the other that it stands for
  pub record NoneOwed (cur : ℕ → ℕ) (st far : RunState) : Type 0 where
    pub tells : Tells M cur st far
    pub levels : (c : ℕ) → c < S.calls → cur (S.of c) ≡ c → LevelCall st c

  -- a move of no node of the call leaves it so
  pub level_kept : (st : RunState) (s : Here) → IsHere S s → (k : ℕ) → k < S.calls → asks k ≢ s → enters (S.of k) ≢ s → body_end S k ≢ s → answers k ≢ s
      → LevelCall st k → LevelCall (moved A st (S.here s)) k
  level_kept st s h k l one two three four e = (
    same_here M st s (asks k) h l one ∙ (e.0 ∙ sym (same_here M st s (enters (S.of k)) h (is.of_below k l) two)),
    same_here M st s (body_end S k) h (is.of_below k l, within_end M k l) three ∙ (e.1 ∙ sym (same_here M st s (answers k) h l four)),
  )

  pub is_begin : (to : There) → IsThere S to → IsHere S (begins S to)
  is_begin (plainly k) h = h
  is_begin (asked c) h = h
  is_begin (copied c x) h = (is.of_below c h.0, h.1)

  -- a node of a copy may move only where its call is under way
  pub now_copied : (cur : ℕ → ℕ) (st far : RunState) → Tells M cur st far → (c x : ℕ) → c < S.calls → x < S.size (S.of c)
      → may_there M far (copied c x) ≡ true → cur (S.of c) ≡ c
  now_copied cur st far t c x l h on = ⊎_elim
      (λ (now : cur (S.of c) ≡ c). now)
      (λ (off : cur (S.of c) ≢ c). absurd (true_false (may_there M far (copied c x)) on ((keeps far t.reached).quiet c x l h
      (t.blank (asked c) l off ∙ sym (t.blank (copied c (end S c)) (l, within_end M c l) off)))))
      (cases_eq (cur (S.of c)) c)

  module _ (cur : ℕ → ℕ) (st far : RunState) (s : NoneOwed cur st far) where
    pub asks_even : (c : ℕ) → c < S.calls → v S st (asks c) ≡ u S far (asked c)
    asks_even c l = ⊎_elim
        (λ (now : cur (S.of c) ≡ c). (s.levels c l now).0 ∙ sym (passed M cur st far s.tells c l now))
        (λ (off : cur (S.of c) ≢ c). (s.tells.idle c l off).0 ∙ sym (s.tells.blank (asked c) l off))
        (cases_eq (cur (S.of c)) c)

    -- a move of the net with copies can begin
    pub may_begin : (to : There) → IsThere S to → may_there M far to ≡ true → may M st (begins S to) ≡ true
    may_begin (plainly k) h on = plain_same M cur st far (alike M cur st far s.tells) s.tells.histories k h ∙ on
    may_begin (asked c) h on = asks_same M cur st far (alike M cur st far s.tells) c h (asks_even c h) ∙ on
    may_begin (copied c x) h on =
        let now = now_copied cur st far s.tells c x h.0 h.1 on in
        body_same M st far c x h.0 (body_alike M cur st far s.tells c h.0 now (s.levels c h.0 now).1) h.1 ∙ on

    image_begin : (to : There) → IsThere S to → may_there M far to ≡ true → image S cur (begins S to) ≡ to
    image_begin (plainly k) h on = refl
    image_begin (asked c) h on = refl
    image_begin (copied c x) h on = ap (λ j. copied j x) (now_copied cur st far s.tells c x h.0 h.1 on)

    -- no two of them begin with one node
    pub begin_one : (to more : There) → IsThere S to → IsThere S more → may_there M far to ≡ true → may_there M far more ≡ true
        → begins S to ≡ begins S more → to ≡ more
    begin_one to more h hm on on_more e = sym (image_begin to h on) ∙ (ap (image S cur) e ∙ image_begin more hm on_more)
