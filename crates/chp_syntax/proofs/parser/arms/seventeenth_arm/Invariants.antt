use Rattle.std.proofs.Common.{◌≡◌, [], true, take, reverse}
use Rattle.chp_syntax.specs.Seventeenth.{counts, is_narrow}
use Rattle.chp_syntax.proofs.parser.arms.seventeenth_arm.Given as goal

abbrev pub invariant-loop-token : goal.invariant-loop-token
invariant-loop-token l = record {
  counts : reverse l.open.items ≡ counts [] (take l.token-index l.tokens);
  narrow : is_narrow [] (take l.token-index l.tokens) ≡ true;
}
