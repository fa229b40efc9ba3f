use Rattle.std.proofs.Common.{◌≡◌, ◌+◌, ◌≤◌, ◌++◌, length, take, drop, vec_len, vec_capacity}
use Rattle.std.specs.List.{flat_map}
use Rattle.prs_file.proofs.forms.append.Given as goal

abbrev pub invariant-loop-piece : goal.invariant-loop-piece
invariant-loop-piece l = record {
  done : l.to.items ≡ l.fn.to.items ++ flat_map (λ piece. piece.now) (take l.piece-index l.pieces);
  room : vec_len l.to + length (flat_map (λ piece. piece.now) (drop l.piece-index l.pieces)) ≤ vec_capacity l.to;
  capacity : vec_capacity l.fn.to ≤ vec_capacity l.to;
}
