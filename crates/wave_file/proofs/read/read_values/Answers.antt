use Rattle.std.proofs.Common.{◌+◌, length, sym, ap, subst, arith, length-append}
use Rattle.wave_file.specs.Waves.{value_spelling_of, id_of}
use Rattle.wave_file.specs.WaveReading.{IsToldTo}
use Rattle.wave_file.proofs.Readings.{place_of_values, values_begin, values_more, values_refused, values_over}
use Rattle.wave_file.proofs.read.read_values.Goals as goal

pub loop-node-init : goal.loop-node-init
loop-node-init c =
    let names = c.args.names.now in
    record {
      count = omega (arith, ap length c.new-first.ensures.items);
      told = λ whole so_far. subst (λ fs. IsToldTo whole (length names + 0 + 5) (place_of_values names fs) c.args.text.now) (sym c.new-first.ensures.items)
          (values_begin whole c.args.text.now names so_far);
      short = omega arith;
    }

pub loop-node-preserved : goal.loop-node-preserved
loop-node-preserved c =
    let names = c.args.names.now in
    let l = c.loop-node in
    let some = rw c.in-Some.is at c.in_ok-value.ensures.some in
    let after = c.in-Some.after.now in
    record {
      count = omega (arith, l.invariant.count, c.in_ok-push.ensures.len);
      told = λ whole so_far. subst (λ fs. IsToldTo whole (length names + (l.node + 1) + 5) (place_of_values names fs) after) (sym c.in_ok-push.ensures.items)
          (values_more whole l.rest.now after names l.first.items c.in-Some.value l.node l.invariant.count c.loop-node-test.true
          (l.invariant.told whole so_far) some);
      short = omega (arith, l.invariant.short, ap length some, length-append (value_spelling_of c.in-Some.value (id_of l.node)) after);
    }

pub returns-in_default-clause-refused : goal.returns-in_default-clause-refused
returns-in_default-clause-refused c = λ whole so_far.
    let l = c.loop-node in
    values_refused whole l.rest.now c.args.names.now l.first.items l.node _ l.invariant.count c.loop-node-test.true (l.invariant.told whole so_far)
    (rw c.in_default.is at c.in_ok-value.ensures.none) (omega arith)

pub returns-clause-told : goal.returns-clause-told
returns-clause-told c = λ whole so_far.
    let l = c.loop-node in
    values_over whole l.rest.now c.args.names.now l.first.items l.node l.invariant.count (omega (arith, c.loop-node-test.false)) (l.invariant.told whole so_far)
