use Rattle.std.proofs.Common.{◌≡◌, ◌==◌, ℕ, ◌<◌, get_or, false}
use Rattle.prs_file.proofs.channel.word_len.Given as goal

abbrev pub invariant-loop-byte : goal.invariant-loop-byte
invariant-loop-byte l = record {
  count : l.count ≡ l.byte-index;
  before : (k : ℕ) → k < l.byte-index → (get_or l.text k 0 == 32) ≡ false;
}
