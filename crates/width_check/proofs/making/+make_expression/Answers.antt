use Rattle.std.proofs.lemmas.List.{get_or_read}
use Rattle.chp_syntax.specs.declared.tree.Expr.{the_lemmas}
use Rattle.std.proofs.Common.{rules, refl, sym, drop, arith}
use Rattle.chp_syntax.specs.Trees.{slice, bit}
use Rattle.chp_syntax.specs.View.{expression_of}
use Rattle.width_check.specs.Places.{declared_width, use_of, read}
use Rattle.width_check.specs.Form.{parts_form, operations_form}
use Rattle.width_check.specs.Walk.{join_parts, links_in}
use Rattle.width_check.proofs.Makings.{nothing_made, before_parts, before_links}
use Rattle.width_check.proofs.Leaves.{good_slice, declared_most}
use Rattle.width_check.proofs.Soundness.{number_fits, bit_within, sound_inner}
use Rattle.width_check.proofs.Ready.{ArePartsLeft, part_ready, part_added, parts_next, join_left, parts_joined, first_ready, links_left, links_next, link_ready, link_added, links_chained, not_made, comparison_ready, sides_made}
use Rattle.width_check.proofs.making.+make_expression.Goals as goal

pub constant-requires-clause-fits : goal.constant-requires-clause-fits
constant-requires-clause-fits t c =
    let s = rw c.in-Number.is at c.requires.sound in
    number_fits c.args.scope.now.decls.now c.args.width c.in-Number.value c.in-Number.at c.requires.most s

pub read_whole-requires-clause-var : goal.read_whole-requires-clause-var
read_whole-requires-clause-var t c =
    let s = rw c.in-Whole.is at c.requires.sound in
    s.uses (use_of c.in-Whole.of read) (0, omega arith, refl)

pub overflow_cast-high : goal.overflow_cast-high
overflow_cast-high t c =
    let s = rw c.in-Slice.is at c.requires.sound in
    let bits = good_slice (declared_width c.args.scope.now.decls.now c.in-Slice.of.name) c.in-Slice.high c.in-Slice.low
    (s.parts (slice c.in-Slice.of c.in-Slice.high c.in-Slice.low c.in-Slice.at) (0, omega arith, refl)) in
    let most = declared_most c.args.scope.now.decls.now c.requires.ranged c.in-Slice.of.name in
    omega (arith, bits.1, most)

pub overflow_cast-low : goal.overflow_cast-low
overflow_cast-low t c =
    let s = rw c.in-Slice.is at c.requires.sound in
    let bits = good_slice (declared_width c.args.scope.now.decls.now c.in-Slice.of.name) c.in-Slice.high c.in-Slice.low
    (s.parts (slice c.in-Slice.of c.in-Slice.high c.in-Slice.low c.in-Slice.at) (0, omega arith, refl)) in
    let most = declared_most c.args.scope.now.decls.now c.requires.ranged c.in-Slice.of.name in
    omega (arith, bits.0, bits.1, most)

pub read-requires : goal.read-requires
read-requires t c =
    let s = rw c.in-Slice.is at c.requires.sound in
    s.uses (use_of c.in-Slice.of read) (0, omega arith, refl)

pub overflow_cast-place : goal.overflow_cast-place
overflow_cast-place t c =
    let s = rw c.in-Bit.is at c.requires.sound in
    let here = bit_within (declared_width c.args.scope.now.decls.now c.in-Bit.of.name) c.in-Bit.place (s.parts (bit c.in-Bit.of c.in-Bit.place c.in-Bit.at) (
      0,
      omega arith,
      refl,
    )) in
    let most = declared_most c.args.scope.now.decls.now c.requires.ranged c.in-Bit.of.name in
    omega (arith, here, most)

pub read-requires-in-Bit : goal.read-requires-in-Bit
read-requires-in-Bit t c =
    let s = rw c.in-Bit.is at c.requires.sound in
    s.uses (use_of c.in-Bit.of read) (0, omega arith, refl)

pub loop-part-init : goal.loop-part-init
loop-part-init t c =
    let left = join_left c.args.scope.now.decls.now c.args.width c.args.e.now c.in-Join.parts c.in-Join.at c.deref-part-items.result.now c.in-Join.is
    c.deref-part-items.ensures.value c.requires.shaped c.requires.sound in
    record { made = nothing_made c.with_capacity-made.result (λ made. before_parts made (parts_form c.args.scope.now.decls.now (join_parts c.deref-part-items.result.now))) c.with_capacity-made.ensures.items; shaped = left.shaped; full = left.full; sound = left.sound }

pub make_expression-requires : goal.make_expression-requires
make_expression-requires t c =
    let r = part_ready c.args.scope.now.decls.now c.requires.ranged c.deref-part-items.result.now c.loop-part.part-index c.part-item.result c.own_width.result
    c.unwrap_or-own.result c.loop-part-test.true c.part-item.is (record {
      shaped = c.loop-part.invariant.shaped;
      full = c.loop-part.invariant.full;
      sound =
          c.loop-part.invariant.sound;
    }) c.own_width.ensures c.unwrap_or-own.ensures in
    (search (rules, the_lemmas, get_or_read), (r.some, (r.most, (c.requires.ranged, (r.shaped, r.sound)))))

pub loop-part-preserved : goal.loop-part-preserved
loop-part-preserved t c =
    let here : ArePartsLeft c.args.scope.now.decls.now (join_parts (drop c.loop-part.part-index c.deref-part-items.result.now)) =
    (record { shaped = c.loop-part.invariant.shaped; full = c.loop-part.invariant.full; sound = c.loop-part.invariant.sound }) in
    let left = parts_next c.args.scope.now.decls.now c.deref-part-items.result.now c.loop-part.part-index c.part-item.result c.loop-part-test.true
    c.part-item.is here in
    record {
      made = part_added c.args.scope.now.decls.now c.requires.ranged c.deref-part-items.result.now c.loop-part.part-index c.part-item.result c.own_width.result
          c.unwrap_or-own.result c.loop-part.made c.extended-made.result c.make_expression.result _ c.loop-part-test.true c.part-item.is
          here c.own_width.ensures c.unwrap_or-own.ensures c.make_expression.ensures c.extended-made.ensures c.loop-part.invariant.made;
      shaped = left.shaped;
      full = left.full;
      sound = left.sound;
    }

pub make_expression-requires-in-Not : goal.make_expression-requires-in-Not
make_expression-requires-in-Not t c =
    let s = rw c.in-Not.is at c.requires.sound in
    let shaped = rw c.in-Not.is at c.requires.shaped in (
      search (rules, the_lemmas, get_or_read),
      (
        c.requires.some,
        (
          c.requires.most,
          (
            c.requires.ranged,
            (
              rw c.deref.ensures shaped,
              rw c.deref.ensures (sound_inner c.args.scope.now.decls.now c.args.width (expression_of c.in-Not.inner.value) c.in-Not.at
                  s),
            ),
          ),
        ),
      ),
    )

pub make_expression-front-requires : goal.make_expression-front-requires
make_expression-front-requires t c =
    let r = first_ready c.args.scope.now.decls.now c.args.width c.args.e.now c.in-Chain.first c.in-Chain.rest c.in-Chain.at c.deref-in-Chain.result.now
    c.deref-in-Chain-2.result.now c.in-Chain.is c.deref-in-Chain.ensures.value c.deref-in-Chain-2.ensures (sym c.if-compares.ensures) c.requires.some
    c.requires.most c.requires.shaped c.requires.sound in
    (search (rules, the_lemmas, get_or_read), (r.some, (r.most, (c.requires.ranged, (r.shaped, r.sound)))))

pub make_expression-right-requires-in-loop-link : goal.make_expression-right-requires-in-loop-link
make_expression-right-requires-in-loop-link t c =
    let r = link_ready c.args.scope.now.decls.now c.args.width c.deref-link-items.result.now c.loop-link.link-index c.link-item.result c.loop-link-test.true
    c.link-item.is c.requires.some c.requires.most (record { shaped = c.loop-link.invariant.shaped; sound = c.loop-link.invariant.sound }) in
    (search (rules, the_lemmas, get_or_read), (r.some, (r.most, (c.requires.ranged, (r.shaped, r.sound)))))

pub make_expression-left-requires : goal.make_expression-left-requires
make_expression-left-requires t c =
    let so = rw c.deref-in-Chain.ensures.value at (sym c.if-compares.ensures) in
    let found = rw (c.deref-then-compares.ensures, c.deref-then-compares-2.ensures.value) at c.side_width.ensures in
    let facts = comparison_ready c.args.scope.now.decls.now c.requires.ranged c.args.width c.args.e.now c.in-Chain.first c.in-Chain.rest c.in-Chain.at
    c.index-link.result.now c.side_width.result c.unwrap_or-side.result c.in-Chain.is so c.index-link.ensures c.requires.shaped c.requires.sound found
    c.unwrap_or-side.ensures in (
      search (rules, the_lemmas, get_or_read),
      (
        facts.left.some,
        (
          facts.left.most,
          (
            c.requires.ranged,
            (rw c.deref-then-compares-3.ensures facts.left.shaped, rw c.deref-then-compares-3.ensures facts.left.sound),
          ),
        ),
      ),
    )

pub make_expression-right-requires : goal.make_expression-right-requires
make_expression-right-requires t c =
    let so = rw c.deref-in-Chain.ensures.value at (sym c.if-compares.ensures) in
    let found = rw (c.deref-then-compares.ensures, c.deref-then-compares-2.ensures.value) at c.side_width.ensures in
    let facts = comparison_ready c.args.scope.now.decls.now c.requires.ranged c.args.width c.args.e.now c.in-Chain.first c.in-Chain.rest c.in-Chain.at
    c.index-link.result.now c.side_width.result c.unwrap_or-side.result c.in-Chain.is so c.index-link.ensures c.requires.shaped c.requires.sound found
    c.unwrap_or-side.ensures in
    (search (rules, the_lemmas, get_or_read), (facts.right.some, (facts.right.most, (c.requires.ranged, (facts.right.shaped, facts.right.sound)))))

pub returns-then-compares : goal.returns-then-compares
returns-then-compares t c =
    let so = rw c.deref-in-Chain.ensures.value at (sym c.if-compares.ensures) in
    let found = rw (c.deref-then-compares.ensures, c.deref-then-compares-2.ensures.value) at c.side_width.ensures in
    let facts = comparison_ready c.args.scope.now.decls.now c.requires.ranged c.args.width c.args.e.now c.in-Chain.first c.in-Chain.rest c.in-Chain.at
    c.index-link.result.now c.side_width.result c.unwrap_or-side.result c.in-Chain.is so c.index-link.ensures c.requires.shaped c.requires.sound found
    c.unwrap_or-side.ensures in
    sides_made c.args.scope.now.decls.now c.args.width c.unwrap_or-side.result c.args.e.now c.in-Chain.first c.in-Chain.rest c.in-Chain.at
    c.index-link.result.now c.deref-then-compares-3.result.now c.make_expression-left.result c.make_expression-right.result c.comparison.result c.in-Chain.is so
    facts c.deref-then-compares-3.ensures c.make_expression-left.ensures c.make_expression-right.ensures c.comparison.ensures

pub loop-link-init : goal.loop-link-init
loop-link-init t c =
    let left = links_left c.args.scope.now.decls.now c.args.width c.args.e.now c.in-Chain.first c.in-Chain.rest c.in-Chain.at c.deref-in-Chain.result.now
    c.deref-link-items.result.now c.in-Chain.is c.deref-in-Chain.ensures.value c.deref-link-items.ensures.value (sym c.if-compares.ensures)
    c.requires.shaped c.requires.sound in
    record { made = nothing_made c.with_capacity-made-in-Chain.result (λ made. before_links made (operations_form c.args.scope.now.decls.now c.args.width (links_in c.deref-link-items.result.now))) c.with_capacity-made-in-Chain.ensures.items; shaped = left.shaped; sound = left.sound }

pub loop-link-preserved : goal.loop-link-preserved
loop-link-preserved t c =
    let left = links_next c.args.scope.now.decls.now c.args.width c.deref-link-items.result.now c.loop-link.link-index c.link-item.result c.loop-link-test.true
    c.link-item.is (record { shaped = c.loop-link.invariant.shaped; sound = c.loop-link.invariant.sound }) in
    record {
      made = link_added c.args.scope.now.decls.now c.args.width c.deref-link-items.result.now c.loop-link.link-index c.link-item.result c.loop-link.made
          c.extended-made-in-loop-link.result c.linked.result c.make_expression-right-in-loop-link.result _ c.loop-link-test.true c.link-item.is
          c.make_expression-right-in-loop-link.ensures c.linked.ensures c.extended-made-in-loop-link.ensures c.loop-link.invariant.made;
      shaped = left.shaped;
      sound = left.sound;
    }

pub returns-after-loop-part : goal.returns-after-loop-part
returns-after-loop-part t c = parts_joined c.args.scope.now.decls.now c.args.width c.args.e.now c.in-Join.parts c.in-Join.at c.deref-part-items.result.now
    c.loop-part.part-index c.loop-part.made c.joined.result c.in-Join.is c.deref-part-items.ensures.value c.loop-part-test.false c.loop-part.invariant.made
    c.joined.ensures

pub returns-after-loop-link : goal.returns-after-loop-link
returns-after-loop-link t c =
    links_chained c.args.scope.now.decls.now c.args.width c.args.e.now c.in-Chain.first c.in-Chain.rest c.in-Chain.at c.deref-in-Chain.result.now
    c.deref-link-items.result.now c.loop-link.link-index c.deref-in-Chain-2.result.now c.make_expression-front.result c.boxed.result c.loop-link.made
    c.chained.result c.in-Chain.is c.deref-in-Chain.ensures.value c.deref-link-items.ensures.value (sym c.if-compares.ensures) c.deref-in-Chain-2.ensures
    c.make_expression-front.ensures c.boxed.ensures c.loop-link-test.false c.loop-link.invariant.made c.chained.ensures

pub returns-in-Not : goal.returns-in-Not
returns-in-Not t c = not_made c.args.scope.now.decls.now c.args.width _ _ _ _ c.make_expression-in-Not.result c.inverted.result c.in-Not.is c.deref.ensures
    c.make_expression-in-Not.ensures c.inverted.ensures

pub returns-in-Bit : goal.returns-in-Bit
returns-in-Bit t c = rw c.in-Bit.is c.read-in-Bit.ensures

pub returns-in-Number : goal.returns-in-Number
returns-in-Number t c = rw (c.in-Number.is, c.constant.ensures.width, c.constant.ensures.value) refl

pub returns-in-Slice : goal.returns-in-Slice
returns-in-Slice t c = rw c.in-Slice.is c.read.ensures

pub returns-in-Whole : goal.returns-in-Whole
returns-in-Whole t c = rw c.in-Whole.is c.read_whole.ensures
