-- The net of each covered program keeps its time in `longest` sweeps for each round where no assignment reads its own target, and else in twice those
-- of the program in halves; and it has a run of as many layers as the rounds come to together.
use Rattle.std.proofs.Common.{ℕ, ◌≤◌, ◌*◌, List}
use Rattle.prs_core.specs.Nets.{IsNet}
use Rattle.env_script.specs.Scripts.{OfferValue, IsScript}
use Rattle.width_check.specs.Processes.{TypedProgram}
use Rattle.width_check.specs.Typing.{IsTyped}
use Rattle.width_check.specs.Sharing.{MeetsSharing}
use Rattle.chp_meaning.specs.Halves.{halved_program, ReadsNoTarget, HalvesArePlain}
use Rattle.round_time.specs.Longest.{longest}
use Rattle.round_time.specs.Sums.{rounds_sum}
use Rattle.circuit_ranks.proofs.Layers.{RoundsInLayers}
use Rattle.circuit_ranks.proofs.HalvedLongest.{halved_longest}
use Rattle.circuit_sums.proofs.Sums.{RoundsInSums}
use Rattle.net_compose.specs.Translation.{translation}
use Rattle.net_compose.specs.Carries.{Carries}
use Rattle.net_compose.specs.Time.{PassesInLayers, HasLayers, KeepsTime}
use Rattle.net_compose.proofs.TimeKept.{keeps_time_by_layers}
use Rattle.net_compose.proofs.TranslationTime.{plainly_given, plainly_is, halves_given, halves_pass, HalvesKeepRounds, halved_passes, halved_layers}
use Rattle.net_rounds.proofs.SpreadTime.{longest_layers, keeps_longest, sums_layers}

-- no assignment of the program reads its own target
pub plainly_keeps_longest : RoundsInLayers → (P : TypedProgram) → IsTyped P.channels P.vars P.body → MeetsSharing P.body → ReadsNoTarget P.body
    → IsNet (translation P) → Carries (translation P) P → KeepsTime (translation P) P (longest P)
plainly_keeps_longest law P typed meets plain net carries =
    keeps_longest law P (plainly_given P typed plain) (plainly_is P typed meets plain) net carries

pub plainly_sums : RoundsInSums → (P : TypedProgram) → IsTyped P.channels P.vars P.body → MeetsSharing P.body → ReadsNoTarget P.body
    → (script : List OfferValue) → IsScript P.channels script → (n : ℕ) → PassesInLayers (translation P) P script n (rounds_sum P script n)
plainly_sums law P typed meets plain = sums_layers law P (plainly_given P typed plain) (plainly_is P typed meets plain)

-- its net as that of the program in halves
longest_halves : HalvesArePlain → RoundsInLayers → (P : TypedProgram) → IsTyped P.channels P.vars P.body → MeetsSharing P.body
    → HasLayers (translation P) (halved_program P) (longest (halved_program P))
longest_halves halves law P typed meets script fits n =
    let Q = halved_program P in
    halves_pass halves P typed meets script n (n * longest Q)
    (longest_layers law Q (halves_given halves P typed meets) (halves P typed meets) script fits n)

sums_halves : HalvesArePlain → RoundsInSums → (P : TypedProgram) → IsTyped P.channels P.vars P.body → MeetsSharing P.body
    → (script : List OfferValue) → IsScript P.channels script → (n : ℕ)
    → PassesInLayers (translation P) (halved_program P) script n (rounds_sum (halved_program P) script n)
sums_halves halves law P typed meets script fits n =
    let Q = halved_program P in
    halves_pass halves P typed meets script n (rounds_sum Q script n)
    (sums_layers law Q (halves_given halves P typed meets) (halves P typed meets) script fits n)

-- of each program, whose rounds take two of the program in halves
pub keeps_in_halves : HalvesArePlain → HalvesKeepRounds → RoundsInLayers → (P : TypedProgram) → IsTyped P.channels P.vars P.body → MeetsSharing P.body
    → IsNet (translation P) → Carries (translation P) P → KeepsTime (translation P) P (2 * longest (halved_program P))
keeps_in_halves halves twice law P typed meets net carries =
    let most = longest (halved_program P) in
    keeps_time_by_layers (translation P) P (2 * most) net carries (halved_layers (translation P) P typed meets twice most
    (longest_halves halves law P typed meets))

pub sums_in_halves : HalvesArePlain → HalvesKeepRounds → RoundsInSums → (P : TypedProgram) → IsTyped P.channels P.vars P.body → MeetsSharing P.body
    → (script : List OfferValue) → IsScript P.channels script → (n : ℕ)
    → PassesInLayers (translation P) P script n (rounds_sum (halved_program P) script (n * 2))
sums_in_halves halves twice law P typed meets script fits n =
    halved_passes (translation P) P typed meets twice script fits n (rounds_sum (halved_program P) script (n * 2))
    (sums_halves halves law P typed meets script fits (n * 2))

-- `longest` of the program in halves is no greater than its own
pub halves_no_longer : HalvesArePlain → (P : TypedProgram) → IsTyped P.channels P.vars P.body → MeetsSharing P.body
    → longest (halved_program P) ≤ longest P
halves_no_longer halves P typed meets = halved_longest P typed.body_is (halves P typed meets).sized.body_is
