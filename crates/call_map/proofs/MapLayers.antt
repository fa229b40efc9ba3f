-- A layer of the net with copies is made by two layers of the net with shared bodies: all first moves, and then all second ones.
-- A second move is one of a node that is no wire, so it leads to the same state before the first moves of others and behind them.
--
-- M, A, B, S, cur, st, far: as in MapStates; t, ts: nodes of B that move; s: a node of A; m, ms: numbers of nodes of A; x: any
-- state of A.
use Rattle.std.proofs.Common.{◌≡◌, ◌≢◌, ◌⊎◌, ℕ, true, List, [], ◌∷◌, ◌++◌, inl, inr, refl, sym, ap, ◌∙◌, subst, ⊎_elim}
use Rattle.std.specs.Prelude.{not}
use Rattle.std.proofs.lemmas.Bool.{cases_eq, eqb-false}
use Rattle.std.proofs.lemmas.List.{set_comm}
use Rattle.prs_core.specs.Nets.{NetValue}
use Rattle.prs_core.specs.Moves.{high, fired}
use Rattle.env_script.specs.Runs.{RunState, move_enabled, histories_after, with_values, moved, after}
use Rattle.env_script.specs.OneLength.{AllSafe}
use Rattle.env_script.specs.Sweeps.{IsLayer}
use Rattle.env_script.proofs.Commuting.{kept}
use Rattle.env_script.proofs.Fronts.{safe_move, safe_behind}
use Rattle.env_script.proofs.Overtakes.{Among, after_on}
use Rattle.net_compose.proofs.Renamed.{values_same, values_stay}
use Rattle.call_map.specs.Shared.{Here, plain, asks, answers, enters, body, There, IsHere, IsThere}
use Rattle.call_map.proofs.LayerMoves.{behind, apart_first, stays_behind, in_layer}
use Rattle.call_map.proofs.MapNodes.{back, IsOwn}
use Rattle.call_map.proofs.MapStates.{Mapping, shared_net, copies_net, may_there, is_back}
use Rattle.call_map.proofs.MapGuards.{beyond_here}
use Rattle.call_map.proofs.MapEnabled.{stays_on}
use Rattle.call_map.proofs.MapBegins.{begins, ends, IsLate, never_late, Ending, single, paired, ending, NoneOwed, is_begin}
use Rattle.call_map.proofs.MapPairs.{pair}

-- it stands in the list
abbrev pub Within : List There → There → Type 0
Within [] t = ⊥
Within (y ∷ ys) t = (y ≡ t) ⊎ Within ys t

module _ (M : Mapping) where
  open M use {S, is, script, ws, Reached, next, safe, keeps}

  abbrev A : NetValue
  A = shared_net M

  abbrev B : NetValue
  B = copies_net M

  -- a node that is no wire moves before another node or behind it
  module _ (s : Here) (h : IsHere S s) (own : IsOwn S s) where
    commutes : (x : RunState) (m : ℕ) → m ≢ S.here s → moved A (moved A x (S.here s)) m ≡ moved A (moved A x m) (S.here s)
    commutes x m ne =
        let n = S.here s in
        let beyond = beyond_here M s h own in
        let m_kept : high (fired x.values n) m ≡ high x.values m = kept x.values n m ne in
        let n_kept : high (fired x.values m) n ≡ high x.values n = kept x.values m n (λ e. ne (sym e)) in
        let values : fired (fired x.values n) m ≡ fired (fired x.values m) n =
        rw (m_kept, n_kept) (set_comm x.values n m (not (high x.values n)) (not (high x.values m)) (λ e. ne (sym e))) in
        let first : with_values (high (fired x.values n)) m ws (with_values (high x.values) n ws x.histories) ≡ with_values (high x.values) m ws x.histories =
        ap (with_values (high (fired x.values n)) m ws) (values_stay (high x.values) S.low n beyond ws x.histories is.wires)
        ∙ values_same (high (fired x.values n)) (high x.values) S.low m m (λ r l. kept x.values n r (λ e. eqb-false n r (beyond r l) (sym e))) m_kept
        (λ r l. refl) ws x.histories is.wires in
        let second : with_values (high (fired x.values m)) n ws (with_values (high x.values) m ws x.histories) ≡ with_values (high x.values) m ws x.histories =
        values_stay (high (fired x.values m)) S.low n beyond ws (with_values (high x.values) m ws x.histories) is.wires in
        let histories : histories_after A (moved A x n) m ≡ histories_after A (moved A x m) n = first ∙ sym second in
        cc

    passes_by : (ms : List ℕ) → (Among ms (S.here s) → ⊥) → (x : RunState) → after A (moved A x (S.here s)) ms ≡ moved A (after A x ms) (S.here s)
    passes_by [] out x = refl
    passes_by (m ∷ ms) out x = ap (λ z. after A z ms) (commutes x m (λ e. out (inl e))) ∙ passes_by ms (λ i. out (inr i)) (moved A x m)

    -- what its move enables is enabled behind a layer that has the node
    pub enabled_later : (b : ℕ) (ms : List ℕ) (st : RunState) → AllSafe A script st → IsLayer A script st ms → Among ms (S.here s) → (Among ms b → ⊥)
        → move_enabled A script (moved A st (S.here s)) b ≡ true → move_enabled A script (after A st ms) b ≡ true
    enabled_later b [] st all layer i out on = absurd i
    enabled_later b (m ∷ ms) st all layer i out on = ⊎_elim
        (λ (e : m ≡ S.here s). stays_behind A script b ms (moved A st m) rest_safe rest_layer (λ j. out (inr j))
        (subst (λ n. move_enabled A script (moved A st n) b ≡ true) (sym e) on))
        (λ (ne : m ≢ S.here s). enabled_later b ms (moved A st m) rest_safe rest_layer (later ne i) (λ j. out (inr j)) (still ne))
        (cases_eq m (S.here s))
      where
        rest_safe : AllSafe A script (moved A st m)
        rest_safe = safe_behind A script st m all layer.0

        rest_layer : IsLayer A script (moved A st m) ms
        rest_layer = behind A script m ms st all layer.0 (apart_first A script m ms layer.1) layer.2

        later : m ≢ S.here s → Among (m ∷ ms) (S.here s) → Among ms (S.here s)
        later ne (inl e) = absurd (ne e)
        later ne (inr j) = j

        still : m ≢ S.here s → move_enabled A script (moved A (moved A st m) (S.here s)) b ≡ true
        still ne =
            let s_on = in_layer A script (S.here s) (m ∷ ms) st layer i in
            let m_on = (safe_move A script st (S.here s) all s_on).stable m ne layer.0 in
            subst (λ z. move_enabled A script z b ≡ true) (commutes st m ne)
            ((safe_move A script (moved A st (S.here s)) m (safe_behind A script st (S.here s) all s_on) m_on).stable b (λ e. out (inl (sym e))) on)

  -- the first moves, the second ones, and both in turn
  abbrev pub theres : List There → List ℕ
  theres [] = []
  theres (t ∷ ts) = S.there t ∷ theres ts

  abbrev pub first_moves : List There → List ℕ
  first_moves [] = []
  first_moves (t ∷ ts) = S.here (begins S t) ∷ first_moves ts

  abbrev pub second_moves : List There → List ℕ
  second_moves [] = []
  second_moves (t ∷ ts) = ends S t ++ second_moves ts

  abbrev pub in_turn : List There → List ℕ
  in_turn [] = []
  in_turn (t ∷ ts) = (S.here (begins S t) ∷ ends S t) ++ in_turn ts

  -- a layer of the net with copies
  abbrev pub Moving : RunState → List There → Type 0
  Moving far [] = Unit {0}
  Moving far (t ∷ ts) = IsThere S t × (may_there M far t ≡ true) × (Within ts t → ⊥) × Moving far ts

  pub moving_at : (far : RunState) (ts : List There) (t : There) → Moving far ts → Within ts t → IsThere S t × (may_there M far t ≡ true)
  moving_at far [] t m i = absurd i
  moving_at far (y ∷ ys) t m (inl e) = subst (λ z. IsThere S z × (may_there M far z ≡ true)) e (m.0, m.1)
  moving_at far (y ∷ ys) t m (inr i) = moving_at far ys t m.3 i

  moving_behind : (far : RunState) → Reached far → (t : There) → IsThere S t → may_there M far t ≡ true → (ts : List There) → (Within ts t → ⊥) → Moving far ts
      → Moving (moved B far (S.there t)) ts
  moving_behind far re t h on [] out m = tt
  moving_behind far re t h on (y ∷ ys) out m = (
    m.0,
    stays_on M far re t y h m.0 on (λ e. out (inl e)) m.1,
    m.2,
    moving_behind far re t h on ys (λ i. out (inr i)) m.3,
  )

  -- behind all of them, made in turn, nothing is owed either
  pub record Comes (st far : RunState) : Type 0 where
    pub more : ℕ → ℕ
    pub owes_none : NoneOwed M more st far

  pub turns : (ts : List There) (cur : ℕ → ℕ) (st far : RunState) → NoneOwed M cur st far → Moving far ts
      → Comes (after A st (in_turn ts)) (after B far (theres ts))
  turns [] cur st far s m = record { more = cur; owes_none = s }
  turns (t ∷ ts) cur st far s m =
      let p = pair M cur st far s t m.0 m.1 in
      let far_t = moved B far (S.there t) in
      let st_t = after A st (S.here (begins S t) ∷ ends S t) in
      subst (λ z. Comes z (after B far_t (theres ts))) (sym (after_on A script st (S.here (begins S t) ∷ ends S t) (in_turn ts)))
      (turns ts p.more st_t far_t p.owes_none (moving_behind far s.tells.reached t m.0 m.1 ts m.2 m.3))

  -- a second move is none of the first ones
  pub late_apart : (far : RunState) (ts : List There) → Moving far ts → (s : Here) → IsHere S s → IsLate S s → Among (first_moves ts) (S.here s) → ⊥
  late_apart far [] m s h late i = i
  late_apart far (t ∷ ts) m s h late (inl e) = never_late S t s late (is.here_apart (begins S t) s (is_begin M t m.0) h e)
  late_apart far (t ∷ ts) m s h late (inr i) = late_apart far ts m.3 s h late i

  late_own : (s : Here) → IsLate S s → IsOwn S s
  late_own (plain k) late = late
  late_own (asks c) late = tt
  late_own (answers c) late = tt
  late_own (enters p) late = tt
  late_own (body p y) late = tt

  -- the second ones may be made behind all first ones
  abbrev Swaps : RunState → List There → List ℕ → Type 0
  Swaps x ts es = after A x (es ++ in_turn ts) ≡ after A (after A x (first_moves ts)) (es ++ second_moves ts)

  swapped : (far : RunState) (t : There) (ts : List There) → IsThere S t → Moving far ts → (x : RunState) → ((z : RunState) → Swaps z ts []) → Ending S t
      → Swaps x ts (ends S t)
  swapped far t ts h m x rest (single e) = subst (Swaps x ts) (sym e) (rest x)
  swapped far t ts h m x rest (paired e late own) =
      let s = back S t in
      let hs = is_back M t h in
      subst (Swaps x ts) (sym e) (rest (moved A x (S.here s))
      ∙ ap (λ z. after A z (second_moves ts)) (passes_by s hs (late_own s late) (first_moves ts) (late_apart far ts m s hs late) x))

  pub reordered : (far : RunState) (ts : List There) → Moving far ts → (x : RunState)
      → after A x (in_turn ts) ≡ after A (after A x (first_moves ts)) (second_moves ts)
  reordered far [] m x = refl
  reordered far (t ∷ ts) m x = swapped far t ts m.0 m.3 (moved A x (S.here (begins S t))) (λ z. reordered far ts m.3 z) (ending S t)
