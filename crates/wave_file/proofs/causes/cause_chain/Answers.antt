use Rattle.std.proofs.Common.{ℕ, ◌-◌, List, get_or, sym, subst, refl, arith}
use Rattle.delay_script.specs.declared.noted.NotedMove.{NotedMove}
use Rattle.wave_file.proofs.Chains.{IsBackTo, back_more, back_whole, cause_below}
use Rattle.wave_file.proofs.causes.cause_chain.Goals as goal

pub loop-number-smaller : goal.loop-number-smaller
loop-number-smaller c = cause_below c.args.moves.now c.loop-number.number _ c.requires c.loop-number-test.true c.loop-number.invariant.within

pub loop-number-preserved : goal.loop-number-preserved
loop-number-preserved c =
    let ms = c.args.moves.now in
    let n = c.loop-number.number in
    let none : NotedMove = record { time = 0; node = 0; cause = 0 } in
    let m : NotedMove = get_or ms (n - 1) none in
    let below = cause_below ms n none c.requires c.loop-number-test.true c.loop-number.invariant.within in
    record {
      within = omega (arith, below, c.loop-number.invariant.within);
      back = subst (λ (xs : List ℕ). IsBackTo ms m.cause xs) (sym c.in_ok-push.ensures.items)
          (back_more ms n c.loop-number.places.items m none c.loop-number-test.true c.loop-number.invariant.within refl c.loop-number.invariant.back);
    }

pub returns : goal.returns
returns c =
    back_whole c.args.moves.now c.loop-number.number c.loop-number.places.items (omega (arith, c.loop-number-test.false)) c.loop-number.invariant.back
