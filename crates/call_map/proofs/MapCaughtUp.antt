-- What the net with copies is owed it can make: each of these moves is enabled, and stays so while others of them are made.
-- Nothing passes by them, and no other nodes than those of calls move.
--
-- M, B, S, cur, st, far: as in MapStates; x, y: states of B, in which some of what it is owed is made; n: how many procedures
-- are left; k: the last of them; p: another one; c: a call; to: a node of B that is owed.
use Rattle.std.proofs.Common.{◌≡◌, ◌≢◌, ℕ, zero, suc, ◌<◌, ◌≤◌, true, List, [], ◌∷◌, length, refl, sym, ap, ◌∙◌, arith}
use Rattle.std.specs.Prelude.{not}
use Rattle.prs_core.specs.Nets.{NetValue}
use Rattle.prs_core.specs.Moves.{high}
use Rattle.env_script.specs.Runs.{RunState, moved, IsRun, after}
use Rattle.net_compose.proofs.Renamed.{values_stay}
use Rattle.call_map.specs.Shared.{asks, answers, enters, There, plainly, asked, copied, IsThere, body_end}
use Rattle.call_map.proofs.Truths.{not_not}
use Rattle.call_map.proofs.MapNodes.{level, asking, giving, phase_same, v, u, end, not_plainly, IsFar}
use Rattle.call_map.proofs.MapStates.{Mapping, copies_net, may_there, PhaseOf, Tells, within_end}
use Rattle.call_map.proofs.MapGuards.{beyond_there}
use Rattle.call_map.proofs.MapEnabled.{same_there, stays_on}
use Rattle.call_map.proofs.MapCounts.{sum_below, owed, level_owes, asking_owes, giving_owes}

-- the call that a node belongs to
abbrev call_at : There → ℕ
call_at (plainly k) = 0
call_at (asked c) = c
call_at (copied c x) = c

module _ (M : Mapping) where
  open M use {S, is, script, ws, Reached, next, safe, keeps}

  abbrev B : NetValue
  B = copies_net M

  module _ (cur : ℕ → ℕ) (st : RunState) where
    -- a run that makes what is owed of the first n procedures
    pub record CaughtUp (n : ℕ) (x : RunState) : Type 0 where
      pub moves : List ℕ
      pub run : IsRun B script x moves
      pub count : length moves ≡ sum_below (λ p. owed M st (cur p)) n
      pub histories : (after B x moves).histories ≡ x.histories
      pub plain : (k : ℕ) → S.is_plain k ≡ true → u S (after B x moves) (plainly k) ≡ u S x (plainly k)

    none_more : (k : ℕ) (x : RunState) → owed M st (cur k) ≡ 0 → CaughtUp k x → CaughtUp (suc k) x
    none_more k x e r = record {
      moves = r.moves;
      run = r.run;
      count = (let a = r.count in omega (arith, a, e));
      histories = r.histories;
      plain = r.plain;
    }

    one_more : (k : ℕ) (x : RunState) (to : There) → IsThere S to → IsFar S to → may_there M x to ≡ true → owed M st (cur k) ≡ 1
        → CaughtUp k (moved B x (S.there to)) → CaughtUp (suc k) x
    one_more k x to h own on e r = record {
      moves = S.there to ∷ r.moves;
      run = (on, r.run);
      count = (let a = r.count in omega (arith, a, e));
      histories = r.histories ∙ values_stay (high x.values) S.low (S.there to) (beyond_there M to h own) ws x.histories is.wires;
      plain = λ j g. r.plain j g ∙ same_there M x to (plainly j) h g (λ same. not_plainly S to j own (sym same));
    }

    module _ (current : (p : ℕ) → p < S.procs → (cur p < S.calls) × (S.of (cur p) ≡ p)) where
      apart : (p k : ℕ) → p < k → k < S.procs → cur p ≢ cur k
      apart p k less l e =
          let a = (current p (omega (arith, less, l))).1 in
          let b = (current k l).1 in
          let same : p ≡ k = sym a ∙ (ap S.of e ∙ b) in
          omega (arith, less, same)

      -- what is owed of other procedures stays so
      makes : (k : ℕ) → k < S.procs → (x : RunState) → Reached x → ((p : ℕ) → p < suc k → PhaseOf M st x (cur p))
          → ((y : RunState) → Reached y → ((p : ℕ) → p < k → PhaseOf M st y (cur p)) → CaughtUp k y)
          → (to : There) → IsThere S to → IsFar S to → call_at to ≡ cur k → may_there M x to ≡ true → owed M st (cur k) ≡ 1 → CaughtUp (suc k) x
      makes k l x re phases rest to h own at on e =
          one_more k x to h own on e (rest (moved B x (S.there to)) (next x (S.there to) re on) (λ p less. later p less))
        where
          later : (p : ℕ) → p < k → PhaseOf M st (moved B x (S.there to)) (cur p)
          later p less =
              let c = cur p in
              let is_call : c < S.calls = (current p (omega (arith, less, l))).0 in
              phase_same (v S st (asks c)) (v S st (enters (S.of c))) (v S st (body_end S c)) (v S st (answers c))
              (may_there M (moved B x (S.there to)) (asked c)) (may_there M (moved B x (S.there to)) (copied c (end S c))) refl refl refl refl
              (λ o. stays_on M x re to (asked c) h is_call on (λ same. apart p k less l (ap call_at same ∙ at)) o)
              (λ o. stays_on M x re to (copied c (end S c)) h (is_call, within_end M c is_call) on (λ same. apart p k less l (ap call_at same ∙ at)) o)
              (phases p (omega (arith, less)))

      one_procedure : (k : ℕ) → k < S.procs → (x : RunState) → Reached x → ((p : ℕ) → p < suc k → PhaseOf M st x (cur p))
          → ((y : RunState) → Reached y → ((p : ℕ) → p < k → PhaseOf M st y (cur p)) → CaughtUp k y)
          → PhaseOf M st x (cur k) → CaughtUp (suc k) x
      one_procedure k l x re phases rest (level rq da) =
          none_more k x (level_owes M st (cur k) rq da) (rest x re (λ p less. phases p (omega (arith, less))))
      one_procedure k l x re phases rest (asking rq dq aq o) =
          makes k l x re phases rest (asked (cur k)) (current k l).0 tt refl o (asking_owes M st (cur k) rq (dq ∙ sym aq))
      one_procedure k l x re phases rest (giving rq dq aq o) =
          let is_call : cur k < S.calls = (current k l).0 in
          makes k l x re phases rest (copied (cur k) (end S (cur k))) (is_call, within_end M (cur k) is_call) tt refl o
          (giving_owes M st (cur k) rq (dq ∙ (sym (not_not (v S st (enters (S.of (cur k))))) ∙ ap not (sym aq))))

      catch_up : (n : ℕ) → n ≤ S.procs → (x : RunState) → Reached x → ((p : ℕ) → p < n → PhaseOf M st x (cur p)) → CaughtUp n x
      catch_up zero le x re phases = record { moves = []; run = tt; count = refl; histories = refl; plain = λ j g. refl }
      catch_up (suc k) le x re phases =
          one_procedure k (omega (arith, le)) x re phases (λ y again kept. catch_up k (omega (arith, le)) y again kept) (phases k (omega arith))

    pub caught_up : (far : RunState) → Tells M cur st far → CaughtUp S.procs far
    caught_up far t =
        catch_up t.current S.procs (omega arith) far t.reached (λ p l. let z = t.current p l in t.phase (cur p) z.0 (ap cur z.1))
