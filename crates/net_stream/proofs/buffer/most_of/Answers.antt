use Rattle.std.proofs.Common.{All, take, subst}
use Rattle.std.proofs.lemmas.List.{take_all}
use Rattle.std.proofs.lemmas.List.Elements.{All-nil, All-more, All-weaker}
use Rattle.net_stream.specs.Rooms.{IsFew}
use Rattle.net_stream.proofs.FewLiterals.{few_more}
use Rattle.net_stream.proofs.buffer.most_of.Goals as goal

pub loop-driver-init : goal.loop-driver-init
loop-driver-init c = All-nil (IsFew 0)

pub loop-driver-preserved : goal.loop-driver-preserved
loop-driver-preserved c =
    let old = c.loop-driver.most in
    let new = c.larger-most.result in
    let i = c.loop-driver.driver-index in
    All-more (IsFew new) c.args.drivers.now i c.driver-item.result c.loop-driver-test.true
    (All-weaker (IsFew old) (IsFew new) (few_more old new c.larger-most.ensures.first) (take i c.args.drivers.now) c.loop-driver.invariant)
    (subst (IsFew new) c.driver-item.is (few_more c.most_literals.result new c.larger-most.ensures.second c.driver-item.result c.most_literals.ensures))

pub returns : goal.returns
returns c = subst (All (IsFew c.loop-driver.most)) (take_all c.loop-driver.driver-index c.args.drivers.now c.loop-driver-test.false) c.loop-driver.invariant
