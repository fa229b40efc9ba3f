-- The net of each covered program keeps the time of the program in halves, and so the program's, where two rounds of that one pass
-- what a round of the program passes.
use Rattle.std.proofs.Common.{◌≡◌, ℕ, suc, ◌*◌, List, ◌++◌, sym, ap, ◌∙◌, subst, arith, append_assoc}
use Rattle.prs_core.specs.Nets.{NetValue, IsNet}
use Rattle.env_script.specs.Scripts.{OfferValue, IsScript}
use Rattle.env_script.specs.Runs.{history_at}
use Rattle.width_check.specs.Processes.{TypedProgram}
use Rattle.width_check.specs.Typing.{IsTyped}
use Rattle.width_check.specs.Sharing.{MeetsSharing}
use Rattle.handshake_expand.specs.Layout.{root_request, nodes_of}
use Rattle.handshake_expand.specs.Named.{node_names}
use Rattle.chp_meaning.specs.Rounds.{rounds}
use Rattle.chp_meaning.specs.Laws.{IsBehind}
use Rattle.chp_meaning.specs.Halves.{halved_program, ReadsNoTarget, IsPlain, HalvesArePlain}
use Rattle.chp_meaning.proofs.HalvedTyping.{typed_sized}
use Rattle.circuit_places.specs.Bounds.{circuit_most}
use Rattle.circuit_places.proofs.Settle.{CellsKeepTime}
use Rattle.net_compose.specs.Translation.{translation, composed, first_values, wires_from}
use Rattle.net_compose.specs.Carries.{Carries}
use Rattle.net_compose.specs.Time.{PassesInLayers, HasLayers, KeepsTime, sweeps_for_round}
use Rattle.net_compose.proofs.CircuitSizes.{two_each}
use Rattle.net_compose.proofs.Sizes.{first_length}
use Rattle.net_compose.proofs.FlatNet.{Given}
use Rattle.net_compose.proofs.HalvedNet.{renamed}
use Rattle.net_compose.proofs.HalvedRenamed.{net_there, translation_there, is_renaming}
use Rattle.net_compose.proofs.HalvedCarried.{declared_bits, sized_bits, counted}
use Rattle.net_compose.proofs.RenamedLayers.{renamed_passes}
use Rattle.net_compose.proofs.TimeKept.{carried_safe, keeps_time_by_safe, keeps_time_by_layers, keeps_more}
use Rattle.net_compose.proofs.PlainTime.{plain_layers, plain_keeps_time}

-- no assignment of the program reads its own target
pub plainly_given : (P : TypedProgram) → IsTyped P.channels P.vars P.body → ReadsNoTarget P.body → Given P
plainly_given P typed plain = record { typed = typed.body_is; covered = plain; some = declared_bits P.vars typed.each_var }

pub plainly_is : (P : TypedProgram) → IsTyped P.channels P.vars P.body → MeetsSharing P.body → ReadsNoTarget P.body → IsPlain P
plainly_is P typed meets plain = record { sized = typed_sized P.channels P.vars P.body typed; unshared = meets; plain = plain }

pub plainly_keeps_time : CellsKeepTime → (P : TypedProgram) → IsTyped P.channels P.vars P.body → MeetsSharing P.body → ReadsNoTarget P.body
    → IsNet (translation P) → Carries (translation P) P → KeepsTime (translation P) P (sweeps_for_round P)
plainly_keeps_time law P typed meets plain net carries =
    plain_keeps_time law P (plainly_given P typed plain) (plainly_is P typed meets plain) net carries (two_each P)

-- the program in halves
pub halves_given : (halves : HalvesArePlain) (P : TypedProgram) → IsTyped P.channels P.vars P.body → MeetsSharing P.body → Given (halved_program P)
halves_given halves P typed meets =
    let h = halves P typed meets in
    record { typed = h.sized.body_is; covered = h.plain; some = sized_bits (halved_program P).vars h.sized.each_var }

-- its net passes what that of the program in halves does, in as many layers
pub halves_pass : HalvesArePlain → (P : TypedProgram) → IsTyped P.channels P.vars P.body → MeetsSharing P.body → (script : List OfferValue) (n k : ℕ)
    → PassesInLayers (translation (halved_program P)) (halved_program P) script n k → PassesInLayers (translation P) (halved_program P) script n k
halves_pass halves P typed meets script n k passes =
    let Q = halved_program P in
    let h = halves P typed meets in
    let plainly = h.plain in
    let some = declared_bits P.vars typed.each_var in
    let numbered : PassesInLayers (net_there counted P typed.body_is h.plain some plainly) Q script n k = subst (λ net. PassesInLayers net Q script n k)
    (translation_there counted P typed.body_is h.plain some plainly) passes in
    renamed_passes (node_names P) (node_names Q) (first_values P) (first_values Q) (composed P) (composed Q) (wires_from P 0 P.channels)
    (renamed counted P typed.body_is h.plain some) (nodes_of P) (root_request P)
    (is_renaming counted P typed.body_is h.plain some plainly h.sized.body_is) Q script n k numbered

halves_layers : HalvesArePlain → CellsKeepTime → (P : TypedProgram) → IsTyped P.channels P.vars P.body → MeetsSharing P.body
    → HasLayers (translation P) (halved_program P) (suc (circuit_most (halved_program P)))
halves_layers halves law P typed meets script fits n =
    let Q = halved_program P in
    halves_pass halves P typed meets script n (n * suc (circuit_most Q))
    (plain_layers law Q (halves_given halves P typed meets) (halves P typed meets) script fits n)

as_many : HalvesArePlain → (P : TypedProgram) → IsTyped P.channels P.vars P.body → MeetsSharing P.body → nodes_of (halved_program P) ≡ nodes_of P
as_many halves P typed meets =
    let h = halves P typed meets in
    let plainly = h.plain in
    let renaming = is_renaming counted P typed.body_is h.plain (declared_bits P.vars typed.each_var) plainly h.sized.body_is in
    sym (first_length (halved_program P)) ∙ renaming.long_there

-- of each program, counted in rounds of the program in halves
pub halves_keep_time : HalvesArePlain → CellsKeepTime → (P : TypedProgram) → IsTyped P.channels P.vars P.body → MeetsSharing P.body
    → IsNet (translation P) → Carries (translation P) P → KeepsTime (translation P) (halved_program P) (sweeps_for_round P)
halves_keep_time halves law P typed meets net carries =
    let Q = halved_program P in
    let two = two_each Q in
    keeps_more (translation P) Q (suc (circuit_most Q)) (sweeps_for_round P) (omega (arith, two, as_many halves P typed meets))
    (keeps_time_by_safe (translation P) Q (suc (circuit_most Q)) net (carried_safe (translation P) P carries)
    (halves_layers halves law P typed meets))

-- two rounds of the program in halves have passed what a round of the program has
abbrev pub HalvesKeepRounds : Type 0
HalvesKeepRounds = (P : TypedProgram) (script : List OfferValue) → IsTyped P.channels P.vars P.body → MeetsSharing P.body → IsScript P.channels script
    → (n : ℕ) → IsBehind (rounds P script n) (rounds (halved_program P) script (n * 2))

pub halved_passes : (net : NetValue) (P : TypedProgram) → IsTyped P.channels P.vars P.body → MeetsSharing P.body → HalvesKeepRounds
    → (script : List OfferValue) → IsScript P.channels script → (n k : ℕ) → PassesInLayers net (halved_program P) script (n * 2) k
    → PassesInLayers net P script n k
halved_passes net P typed meets twice script fits n k r = (
  r.0,
  r.1,
  λ c.
      let z = r.2 c in
      let y = twice P script typed meets fits n c in (
        y.0 ++ z.0,
        z.1 ∙ (ap (λ h. h ++ z.0) y.1 ∙ append_assoc (history_at (rounds P script n).histories c) y.0 z.0),
      ),
)

pub halved_layers : (net : NetValue) (P : TypedProgram) → IsTyped P.channels P.vars P.body → MeetsSharing P.body → HalvesKeepRounds → (k : ℕ)
    → HasLayers net (halved_program P) k → HasLayers net P (2 * k)
halved_layers net P typed meets twice k has script fits n = halved_passes net P typed meets twice script fits n (n * (2 * k))
    (subst (λ (j : ℕ). PassesInLayers net (halved_program P) script (n * 2) j) (times n k) (has script fits (n * 2)))
  where
    times : (n k : ℕ) → n * 2 * k ≡ n * (2 * k)
    times n k = omega arith

pub translation_keeps_time : HalvesArePlain → HalvesKeepRounds → CellsKeepTime → (P : TypedProgram) → IsTyped P.channels P.vars P.body → MeetsSharing P.body
    → IsNet (translation P) → Carries (translation P) P → KeepsTime (translation P) P (2 * sweeps_for_round P)
translation_keeps_time halves twice law P typed meets net carries =
    let Q = halved_program P in
    let two = two_each Q in
    keeps_more (translation P) P (2 * suc (circuit_most Q)) (2 * sweeps_for_round P) (omega (arith, two, as_many halves P typed meets))
    (keeps_time_by_layers (translation P) P (2 * suc (circuit_most Q)) net carries
    (halved_layers (translation P) P typed meets twice (suc (circuit_most Q)) (halves_layers halves law P typed meets)))
