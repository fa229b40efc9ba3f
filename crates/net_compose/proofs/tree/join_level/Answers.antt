use Rattle.std.proofs.Common.{◌∙◌, ◌+◌, ◌<◌, [], ◌∷◌, ◌++◌, length, refl, ap, arith}
use Rattle.cell_parallel.specs.Trees.{next_level}
use Rattle.net_compose.proofs.TreeDriven.{level_more, above_more, level_over, above_over}
use Rattle.net_compose.proofs.tree.join_level.Goals as goal

pub loop-place-init : goal.loop-place-init
loop-place-init c = record {
  made = refl;
  above = ap (λ xs. xs ++ next_level c.args.nodes.now c.args.from) c.new-above.ensures.items;
  room = omega arith;
  within = omega arith;
}

pub loop-place-preserved : goal.loop-place-preserved
loop-place-preserved c =
    let ns = c.args.nodes.now in
    let i = c.loop-place.place in
    let within : i + 1 < length ns = omega (arith, c.loop-place-test.true) in
    record {
      made = level_more ns i c.loop-place.drivers.items c.push.new.self.items _ within
          (c.in_ok-push.ensures.items ∙ ap (λ d. c.loop-place.drivers.items ++ d ∷ []) c.both.ensures) c.loop-place.invariant.made;
      above = above_more ns i c.loop-place.node c.loop-place.above.items _ _ within c.in_ok-push-2.ensures.items c.loop-place.invariant.above;
      room = omega (arith, c.loop-place.invariant.room);
      within = omega (arith, within);
    }

pub returns-clause-made : goal.returns-clause-made
returns-clause-made c =
    level_over c.args.nodes.now c.loop-place.place c.loop-place.drivers.items _ (omega (arith, c.loop-place-test.false)) c.loop-place.invariant.made

pub returns-clause-above : goal.returns-clause-above
returns-clause-above c =
    above_over c.args.nodes.now c.loop-place.place c.loop-place.node c.loop-place.above.items _ _ (omega (arith, c.loop-place-test.false))
    c.loop-place.invariant.within c.in_ok-extend_from_slice.ensures.items c.loop-place.invariant.above
