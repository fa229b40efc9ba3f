-- The net with shared bodies keeps pace with its program, and comes to rest where that does.
use Rattle.std.specs.Prelude.{ℕ, ◌*◌, ◌≤◌, Bool, List}
use Rattle.reset_net.specs.Resets.{reset_of}
use Rattle.env_script.specs.Scripts.{OfferValue, IsScript}
use Rattle.env_script.specs.Runs.{IsPowered}
use Rattle.width_check.specs.Processes.{TypedProgram}
use Rattle.chp_meaning.specs.Halves.{ReadsNoTarget}
use Rattle.net_compose.specs.Translation.{translation}
use Rattle.net_compose.specs.Points.{IsTranslated}
use Rattle.net_compose.specs.Progress.{ProgressesFrom, most_moves, plain_most_moves}
use Rattle.net_compose.specs.Time.{PassesInLayers}
use Rattle.call_map.specs.CallNet.{CallProgram, IsCallProgram, inlined_program, call_count, call_names, call_net}

-- a bound of the moves that runs of a program's net make by m steps: that of any program, and a lower one where no
-- assignment reads its own target
pub data IsMost (p : TypedProgram) : (most : ℕ → ℕ) → Type 0 where
  always : IsMost p (most_moves p)
  targets_unread : ReadsNoTarget p.body → IsMost p (plain_most_moves p)

-- for each move of the net with copies there is at most one more, a call's request or the answer of a body
abbrev pub call_most_moves : (most : ℕ → ℕ) → (m : ℕ) → ℕ
call_most_moves most m = 2 * most m

-- every run from the net's first values makes progress with the program with copies
abbrev pub SharedBodiesProgress : Type 0
SharedBodiesProgress = (C : CallProgram) → IsCallProgram C → IsTranslated (inlined_program C)
    → (most : ℕ → ℕ) → IsMost (inlined_program C) most → (names : List (List ℕ))
    → ProgressesFrom (call_net C names) (inlined_program C) (call_most_moves most) (call_net C names).first

-- and with a reset node so does every run from power-up, where only moves count that come after reset has fallen
abbrev pub SharedBodiesProgressReset : Type 0
SharedBodiesProgressReset = (C : CallProgram) → IsCallProgram C → IsTranslated (inlined_program C)
    → (most : ℕ → ℕ) → IsMost (inlined_program C) most → call_count C ≤ 65536
    → (values : List Bool) → IsPowered (reset_of (call_net C (call_names C))) values
    → ProgressesFrom (reset_of (call_net C (call_names C))) (inlined_program C) (call_most_moves most) values

-- Where the net with copies has a run of so many layers that has passed what n rounds pass under a script, that with
-- shared bodies has one of twice as many.
abbrev pub SharedBodiesLayers : Type 0
SharedBodiesLayers = (C : CallProgram) → IsCallProgram C → IsTranslated (inlined_program C)
    → (names : List (List ℕ)) (script : List OfferValue) → IsScript (inlined_program C).channels script
    → (n layers : ℕ) → PassesInLayers (translation (inlined_program C)) (inlined_program C) script n layers
    → PassesInLayers (call_net C names) (inlined_program C) script n (2 * layers)
