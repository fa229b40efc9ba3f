use Rattle.std.proofs.Common.{◌≡◌, take}
use Rattle.prs_file.specs.Indexes.{hash_of}
use Rattle.prs_file.proofs.index.hash.Given as goal

abbrev pub invariant-loop-byte : goal.invariant-loop-byte
invariant-loop-byte l = l.hash ≡ hash_of (take l.byte-index l.name)
