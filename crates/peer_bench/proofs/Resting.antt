-- Rest under the script of the last moment is rest under the script of all notes.
use Rattle.std.proofs.Common.{◌≡◌, ℕ, List, [], ◌∷◌, ◌++◌, length, ap, subst, ◌∙◌}
use Rattle.std.specs.Prelude.{◌==◌, Some}
use Rattle.prs_core.specs.Nets.{NetValue, IsNet}
use Rattle.env_script.specs.Scripts.{OfferValue}
use Rattle.env_script.specs.Runs.{RunState, after, IsAtRest}
use Rattle.event_sim.specs.declared.ran.End.TheVariants.{AtRest}
use Rattle.event_sim.specs.Following.{enabled_moves}
use Rattle.event_sim.specs.Simulating.{RanValue}
use Rattle.event_sim.proofs.Ranges.{rests}
use Rattle.peer_bench.specs.declared.note.Note.{Note}
use Rattle.peer_bench.specs.declared.note.Note.TheVariants.{Offered, Ready, Took}
use Rattle.peer_bench.specs.Growing.{script_by, script_after}
use Rattle.peer_bench.specs.Running.{hazard_under}
use Rattle.peer_bench.specs.Asking.{PeerValue}
use Rattle.peer_bench.specs.Benches.{SetupValue, bench_start, bench_moves, IsBenchRun}
use Rattle.peer_bench.specs.Instants.{AreNotesAt}
use Rattle.peer_bench.proofs.Ending.{rest_empties}
use Rattle.peer_bench.proofs.Growth.{AreUntil, script_now}
use Rattle.peer_bench.proofs.Placed.{along_placed}
use Rattle.peer_bench.proofs.Seen.{itself}

pub until_placed : (net : NetValue) (start : RunState) (moves : List ℕ) (before notes : List Note) → AreNotesAt net start moves before notes →
    AreUntil (length moves) notes
until_placed net start moves before [] are = tt
until_placed net start moves before (Offered at chan value ∷ notes) are =
    (are.0.within, until_placed net start moves (before ++ Offered at chan value ∷ []) notes are.1)
until_placed net start moves before (Ready at chan ∷ notes) are =
    (are.0.within, until_placed net start moves (before ++ Ready at chan ∷ []) notes are.1)
until_placed net start moves before (Took at chan value ∷ notes) are =
    (are.0, until_placed net start moves (before ++ Took at chan value ∷ []) notes are.1)

pub rests_under : (s : SetupValue) (picks : List ℕ) (notes : List Note) (was is : PeerValue) (ran : RanValue) → IsNet s.net →
    IsBenchRun (λ p. p) s picks notes was is ran → ran.end ≡ AtRest →
    IsAtRest s.net (script_by s.net notes) (after s.net (bench_start s.net) (bench_moves s.net notes picks))
rests_under s picks notes was is ran net by rest =
    subst (λ (script : List OfferValue). IsAtRest s.net script (after s.net (bench_start s.net) moves)) now
    (rests s.net (script_after s.net notes (length moves)) (after s.net (bench_start s.net) moves) net
    (rest_empties (hazard_under s.net (script_after s.net notes) (bench_start s.net) moves)
    (enabled_moves s.net (script_after s.net notes (length moves)) (after s.net (bench_start s.net) moves)) (length moves == s.steps)
    (by.ends.ended ∙ ap Some rest)))
  where
    moves : List ℕ
    moves = bench_moves s.net notes picks

    now : script_after s.net notes (length moves) ≡ script_by s.net notes
    now =
        script_now s.net notes (length moves)
        (until_placed s.net (bench_start s.net) moves [] notes (along_placed itself s.net (bench_start s.net) was by.noted).placed)
