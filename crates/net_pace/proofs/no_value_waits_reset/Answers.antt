use Rattle.std.proofs.Common.{◌*◌, refl}
use Rattle.reset_net.specs.Resets.{reset_of}
use Rattle.net_compose.specs.Translation.{translation}
use Rattle.call_map.specs.CallNet.{inlined_program, call_names, call_net}
use Rattle.net_pace.proofs.ValuesKept.{no_value_waits_reset}
use Rattle.net_pace.proofs.no_value_waits_reset.Goals as goal

pub returns-clause-copied : goal.returns-clause-copied
returns-clause-copied c = λ p is small sweeps bound.
    no_value_waits_reset (reset_of (translation p)) p sweeps (c.keeps_time_reset.ensures.every p is small sweeps bound)
    (c.keeps_timed_pace_reset.ensures.every p is small sweeps bound)

pub returns-clause-shared : goal.returns-clause-shared
returns-clause-shared c = λ C is t small few sweeps bound.
    let P = inlined_program C in
    let net = call_net C (call_names C) in
    let whole = c.shared_bodies_hold.ensures C is t few in
    let carries = c.shared_bodies_carry.ensures C is t (call_names C) in
    let keeps = c.shared_bodies_keep_time.ensures C is t small few sweeps bound in
    no_value_waits_reset (reset_of net) P (2 * sweeps) (c.keeps_time_reset.ensures.net net P (2 * sweeps) whole refl carries keeps)
    (c.keeps_timed_pace_reset.ensures.net net P (2 * sweeps) whole refl carries keeps)

pub returns-clause-net : goal.returns-clause-net
returns-clause-net c = λ net p sweeps whole plain carries keeps.
    no_value_waits_reset (reset_of net) p sweeps (c.keeps_time_reset.ensures.net net p sweeps whole plain carries keeps)
    (c.keeps_timed_pace_reset.ensures.net net p sweeps whole plain carries keeps)
