use Rattle.width_check.specs.View.{choices_in}
use Rattle.std.proofs.Common.{◌≡◌, ◌+◌, ◌++◌, drop}
use Rattle.width_check.specs.Typed.{program_of}
use Rattle.width_check.specs.Typing.{AreChoices}
use Rattle.handshake_expand.specs.Layout.{guards_size}
use Rattle.net_compose.specs.Translation.{guard_pairs, guards_rules}
use Rattle.net_compose.proofs.choice.guards.Given as goal

abbrev pub invariant-loop-arm : goal.invariant-loop-arm
invariant-loop-arm l =
    let p = program_of l.program in
    let behind = choices_in (drop l.arm-index l.arms) in
    record {
      made : l.drivers.items ++ guards_rules p behind l.request l.next ≡ l.fn.drivers.items ++ guards_rules p (choices_in l.arms) l.request l.from;
      bits : l.bits.items ++ guard_pairs behind l.next ≡ guard_pairs (choices_in l.arms) l.from;
      size : l.next + guards_size behind ≡ l.from + guards_size (choices_in l.arms);
      formed : AreChoices l.program.channels l.program.vars behind;
    }
