use Rattle.std.proofs.Common.{◌≡◌, ℕ, ◌<◌, ◌≤◌, length}
use Rattle.std.specs.Prelude.{slice_index}
use Rattle.width_check.specs.Typed.{program_of}
use Rattle.width_check.specs.Typing.{kind_at}
use Rattle.handshake_expand.specs.Layout.{capped}
use Rattle.round_time.specs.Longest.{over_sites, receive_clears, channel_low}
use Rattle.pace_bound.proofs.table.settle_ends.Given as goal

abbrev pub invariant-loop-place : goal.invariant-loop-place
invariant-loop-place l =
    let P = program_of l.program in record {
      sized : length l.table ≡ length P.channels;
      done : (k : ℕ) → k < l.place → slice_index l.table k ≡ capped (channel_low P (kind_at P.channels k) k);
      left : (k : ℕ) → l.place ≤ k → k < length P.channels → slice_index l.table k ≡ capped (over_sites (receive_clears P k) 2 P.body);
    }
