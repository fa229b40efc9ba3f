use Rattle.std.proofs.Common.{◌≡◌, ◌+◌, ◌*◌, ◌-◌, ◌≤◌, ◌<◌, ◌∙◌, ap, sym, length, arith}
use Rattle.std.proofs.lemmas.List.{drop_all}
use Rattle.chp_base.specs.NameKeys.{packed}
use Rattle.chp_base.proofs.NameKeyLemmas.{one_more_digit, digit_fits, room_for_a_digit, some_power}
use Rattle.chp_base.proofs.symbols.packed.Goals as goal

pub loop-place-init : goal.loop-place-init
loop-place-init c = record {
  number = sym (ap packed (drop_all (length c.args.bytes.now) c.args.bytes.now (omega arith)));
  small = some_power (8 * (16 - length c.args.bytes.now));
}

pub overflow_mul-number : goal.overflow_mul-number
overflow_mul-number c =
    omega (arith, room_for_a_digit c.loop-place.number c.loop-place.place c.loop-place-test.true c.loop-place.invariant.small)

pub overflow_add-number : goal.overflow_add-number
overflow_add-number c =
    omega (
      arith,
      room_for_a_digit c.loop-place.number c.loop-place.place c.loop-place-test.true c.loop-place.invariant.small,
      c.from.ensures,
      c.type_inv.bytes (c.loop-place.place - 1),
    )

pub loop-place-preserved : goal.loop-place-preserved
loop-place-preserved c =
    let bytes = c.args.bytes.now in
    let within : c.loop-place.place ≤ length bytes = omega arith in
    let byte : c.from.result < 256 = omega (arith, c.from.ensures, c.type_inv.bytes (c.loop-place.place - 1)) in
    record {
      number = ap (λ b. 256 * c.loop-place.number + b) c.from.ensures
          ∙ one_more_digit bytes c.loop-place.place c.loop-place.number c.loop-place-test.true within c.loop-place.invariant.number;
      small = digit_fits c.loop-place.number c.from.result c.loop-place.place c.loop-place-test.true (omega arith) byte c.loop-place.invariant.small;
    }

pub returns : goal.returns
returns c =
    let done : c.loop-place.place ≡ 0 = omega arith in
    rw done at c.loop-place.invariant.number
