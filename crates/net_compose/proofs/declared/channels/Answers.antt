use Rattle.std.proofs.Common.{ap, length, arith}
use Rattle.net_compose.specs.SortedContacts.{listed_at}
use Rattle.net_compose.proofs.DeclaredDriven.{channels_on, channels_driven}
use Rattle.net_compose.proofs.declared.channels.Goals as goal

pub loop-chan-preserved : goal.loop-chan-preserved
loop-chan-preserved c = channels_on (λ k. listed_at c.args.sorted.now.sent.items k) (λ k. listed_at c.args.sorted.now.taken.items k)
    c.args.program.now.channels c.loop-chan.chan c.loop-chan.drivers.items _ _
    (omega (arith, c.loop-chan-test.true, ap length c.channels-chan-end.ensures)) c.in_ok-channel.ensures c.loop-chan.invariant

pub returns : goal.returns
returns c = channels_driven (λ k. listed_at c.args.sorted.now.sent.items k) (λ k. listed_at c.args.sorted.now.taken.items k)
    c.args.program.now.channels c.loop-chan.chan c.loop-chan.drivers.items _
    (omega (arith, c.loop-chan-test.false, ap length c.channels-chan-end.ensures)) c.loop-chan.invariant
