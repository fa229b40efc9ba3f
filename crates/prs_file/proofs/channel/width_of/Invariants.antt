use Rattle.std.proofs.Common.{◌≡◌, ℕ, ◌<◌, ◌≤◌, false}
use Rattle.std.specs.Prelude.{bytes_eq}
use Rattle.prs_file.specs.Channels.{line_of}
use Rattle.prs_file.proofs.channel.width_of.Given as goal

abbrev pub invariant-loop-width : goal.invariant-loop-width
invariant-loop-width l = (k : ℕ) → 1 ≤ k → k < l.width → bytes_eq l.line (line_of l.kind l.name k) ≡ false
