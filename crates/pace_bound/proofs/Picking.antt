-- The part of a statement that is the farthest, as it is looked for: the first one of the most moves so far.
use Rattle.std.proofs.Common.{◌≡◌, ℕ, ◌+◌, ◌<◌, ◌≤◌, ◌-◌, ◌^◌, Bool, false, List, [], ◌∷◌, length, drop, get_or, sym, ap, subst, ◌∙◌, arith}
use Rattle.std.specs.Prelude.{nat_lt, if◌then◌else◌}
use Rattle.chp_base.specs.declared.channel.Channel.{Channel}
use Rattle.width_check.specs.declared.typed.Var.{Var}
use Rattle.width_check.specs.declared.typed.TArm.{TArm}
use Rattle.width_check.specs.Processes.{Process, TypedProgram}
use Rattle.width_check.specs.Typing.{IsProcess, AreChoices}
use Rattle.width_check.specs.View.{process_of, choices_in}
use Rattle.handshake_expand.specs.Layout.{capped}
use Rattle.handshake_expand.proofs.Rows.{arm_at}
use Rattle.round_time.specs.Longest.{first}
use Rattle.round_time.specs.Ways as told
use Rattle.round_time.specs.Ways.{first_greatest, farthest}
use Rattle.pace_bound.specs.declared.away.StepAway.{StepAway}
use Rattle.pace_bound.specs.Halving.{first_by}
use Rattle.pace_bound.specs.Whereabouts.{away_of}
use Rattle.pace_bound.proofs.Whole.{first_whole}

abbrev moves_of : told.StepAway → ℕ
moves_of s = s.1

abbrev with_moves : ℕ → Process → told.StepAway
with_moves n p = (p, n)

-- the farthest of all of some parts is that of the best so far and of those that are left
abbrev pub IsPicked : (best : StepAway) → (left all : List told.StepAway) → Type 0
IsPicked best left all = (itself : Process) → (first_greatest moves_of (away_of best) left).0 ≡ farthest itself all

pub picked_first : (best : StepAway) (p : Process) (n : ℕ) (left all : List told.StepAway) → process_of best.statement.now ≡ p → best.moves ≡ n
    → all ≡ with_moves n p ∷ left → IsPicked best left all
picked_first best p n left all there moves is itself =
    ap (λ (q : Process). (first_greatest moves_of (with_moves best.moves q) left).0) there
    ∙ (ap (λ (m : ℕ). (first_greatest moves_of (with_moves m p) left).0) moves ∙ sym (ap (farthest itself) is))

pub picked_more : (best here next : StepAway) (p : Process) (n : ℕ) (left before all : List told.StepAway)
    → away_of next ≡ (if nat_lt best.moves here.moves then away_of here else away_of best) → process_of here.statement.now ≡ p → here.moves ≡ n
    → before ≡ with_moves n p ∷ left → IsPicked best before all → IsPicked next left all
picked_more best here next p n left before all is there moves parts h itself =
    ap (λ (s : told.StepAway). (first_greatest moves_of s left).0) is
    ∙ (ap (λ (s : told.StepAway). (first_greatest moves_of (if nat_lt best.moves here.moves then s else away_of best) left).0)
    (ap (with_moves here.moves) there)
    ∙ (ap (λ (m : ℕ). (first_greatest moves_of (if nat_lt best.moves m then with_moves m p else away_of best) left).0) moves
    ∙ (ap (λ (l : List told.StepAway). (first_greatest moves_of (away_of best) l).0) (sym parts) ∙ h itself)))

pub picked_all : (best : StepAway) (left all : List told.StepAway) (itself : Process) → left ≡ [] → IsPicked best left all
    → process_of best.statement.now ≡ farthest itself all
picked_all best left all itself none h = ap (λ (l : List told.StepAway). (first_greatest moves_of (away_of best) l).0) (sym none) ∙ h itself

-- what is counted is exact where no number is saturated
pub exact_of : (r n other all : ℕ) → r ≡ capped other → capped other ≡ capped n → n ≤ all → all < 2 ^ 64 - 1 → r ≡ n
exact_of r n other all is same below small = omega arith

pub exact_first : (P : TypedProgram) (p : Process) (halved : Bool) (r : ℕ) → halved ≡ false → r ≡ capped (first_by halved P p) → first P p < 2 ^ 64 - 1
    → r ≡ first P p
exact_first P p halved r whole is small =
    let own = ap (λ b. first_by b P p) whole ∙ first_whole P p in omega (arith, own, is, small)

-- from a branch on
pub arm_typed : (channels : List Channel) (vars : List Var) (arms : List TArm) (i : ℕ) (a : TArm) → i < length arms → a ≡ get_or arms i a
    → AreChoices channels vars (choices_in (drop i arms))
    → IsProcess channels vars (process_of a.body) × AreChoices channels vars (choices_in (drop (i + 1) arms))
arm_typed channels vars arms i a inside is h = let facts = subst (AreChoices channels vars) (arm_at arms i a inside is) h in (facts.1, facts.2)
