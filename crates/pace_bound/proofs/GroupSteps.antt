-- The first and the last step of a sequence are those of one of its members.
use Rattle.std.proofs.Common.{◌≡◌, ℕ, zero, suc, ◌+◌, ◌*◌, ◌<◌, ◌≤◌, ◌-◌, ◌^◌, List, [], ◌∷◌, length, get_or, drop, sym, ap, ◌∙◌, arith}
use Rattle.width_check.specs.declared.typed.TStmt.{TStmt}
use Rattle.width_check.specs.Processes.{Process, in_turn, Processes, no_members, and_member, TypedProgram}
use Rattle.width_check.specs.View.{process_of, members_in}
use Rattle.handshake_expand.proofs.Rows as rows
use Rattle.round_time.specs.Longest.{first, turn_first, low}
use Rattle.round_time.specs.Ways.{first_step, turn_first_step, last_step, turn_last_step}
use Rattle.pace_bound.proofs.Members.{turn_low_is}

-- the step of a part, where the way that it is on isn't too long
pub record IsStepOf (step whole : Process) (moves : ℕ) : Type 0 where
  pub small : moves < 2 ^ 64 - 1
  pub same : step ≡ whole

module _ (P : TypedProgram) where
  pub turn_first_more : (p : Process) (more : Processes) → first P p ≤ turn_first P (and_member p more)
  turn_first_more p no_members = omega arith
  turn_first_more p (and_member q more) = omega arith

  pub turn_begins : (ss : List TStmt) (s : TStmt) → 0 < length ss → s ≡ get_or ss 0 s → first P (in_turn (members_in ss)) < 2 ^ 64 - 1
      → IsStepOf (first_step P (process_of s)) (first_step P (in_turn (members_in ss))) (first P (process_of s))
  turn_begins ss s some is small =
      let at = rows.member_at ss 0 s some is in
      let moves = ap (turn_first P) at in
      let least = turn_first_more (process_of s) (members_in (drop 1 ss)) in
      record { small = omega arith; same = sym (ap (turn_first_step P (in_turn (members_in ss))) at) }

  turn_last_is : (itself : Process) (held i : ℕ) (ss : List TStmt) (s : TStmt) → i + 1 ≡ length ss → s ≡ get_or ss i s
      → turn_last_step P itself held (members_in ss) ≡ last_step P (held + 2 * i) (process_of s)
  turn_last_is itself held i [] s all is = absurd (omega arith)
  turn_last_is itself held zero (a ∷ []) s all is = ap (λ x. last_step P held (process_of x)) (sym is) ∙ ap (λ h. last_step P h (process_of s)) (omega arith)
  turn_last_is itself held zero (a ∷ b ∷ ss) s all is = absurd (omega arith)
  turn_last_is itself held (suc i) (a ∷ []) s all is = absurd (omega arith)
  turn_last_is itself held (suc i) (a ∷ b ∷ ss) s all is =
      turn_last_is itself (held + 2) i (b ∷ ss) s (omega arith) is ∙ ap (λ h. last_step P h (process_of s)) (omega arith)

  pub turn_ends : (held i : ℕ) (ss : List TStmt) (s : TStmt) → i + 1 ≡ length ss → s ≡ get_or ss i s → low P held (in_turn (members_in ss)) < 2 ^ 64 - 1
      → IsStepOf (last_step P (held + 2 * i) (process_of s)) (last_step P held (in_turn (members_in ss))) (low P (held + 2 * i) (process_of s))
  turn_ends held i ss s all is small =
      let moves = turn_low_is P held i ss s all is in
      record { small = omega arith; same = sym (turn_last_is (in_turn (members_in ss)) held i ss s all is) }
