-- The net with shared bodies and a reset node carries the program from every power-up state, and keeps pace with it.
use Rattle.std.proofs.Common.{ℕ, ◌+◌, refl, arith}
use Rattle.std.specs.Prelude.{◌≢◌, All, List, codes}
use Rattle.prs_core.specs.Nets.{NetValue}
use Rattle.width_check.specs.Processes.{TypedProgram}
use Rattle.net_compose.specs.Carries.{ResetCarries}
use Rattle.net_compose.specs.Progress.{ResetProgresses}
use Rattle.net_compose.proofs.NamesFree.{some_names_free}
use Rattle.call_map.specs.Calling.{called_size}
use Rattle.call_map.specs.CallNet.{CallProgram, inlined_program, procs_size, call_net, call_names, SharedBodiesCarry, SharedBodiesHold, SharedBodiesCarryReset}
use Rattle.call_map.specs.CallPace.{SharedBodiesProgress, SharedBodiesProgressReset, call_most_moves}
use Rattle.call_map.proofs.CallHolds.{firsts_long}

-- no node is named reset
free : (C : CallProgram) → All (λ (name : List ℕ). name ≢ codes "reset") (call_net C (call_names C)).names
free C =
    let P = inlined_program C in
    some_names_free P (procs_size P C.procs + (2 + called_size C.procs P C.body))

pub call_net_resets : ((net : NetValue) (p : TypedProgram) → ResetCarries net p) → SharedBodiesCarry → SharedBodiesHold → SharedBodiesCarryReset
call_net_resets resets carries holds C is t small =
    resets (call_net C (call_names C)) (inlined_program C) (carries C is t (call_names C)) (holds C is t small) refl
    (let e = firsts_long C is t in omega (arith, e, small)) (free C)

pub call_net_progresses : ((net : NetValue) (p : TypedProgram) (most : ℕ → ℕ) → ResetProgresses net p most) → SharedBodiesProgress → SharedBodiesHold
    → SharedBodiesProgressReset
call_net_progresses resets progresses holds C is t most bound small =
    resets (call_net C (call_names C)) (inlined_program C) (call_most_moves most) (progresses C is t most bound (call_names C)) (holds C is t small) refl
    (free C)
