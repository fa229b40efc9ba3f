use Rattle.std.proofs.Common.{◌≡◌, ◌+◌, ◌++◌, map, length, rules, ap, sym, ◌∙◌, arith}
use Rattle.std.proofs.lemmas.List.{get_or_read}
use Rattle.prs_core.specs.Pairs.{exchanged}
use Rattle.width_check.specs.declared.typed.TExpr.{the_lemmas}
use Rattle.width_check.specs.View.{formula_of}
use Rattle.width_check.specs.Processes.{chained}
use Rattle.handshake_expand.proofs.Rows.{parts_of, links_of, join_is, chain_is}
use Rattle.handshake_expand.proofs.Taken.{taken, asked, told}
use Rattle.function_blocks.specs.Blocks.{bits_in_blocks}
use Rattle.function_blocks.specs.Expressions.{formula_result, formula_rules}
use Rattle.function_blocks.proofs.Emission.{done, join_begin, part_left, join_more, chain_begin, link_left, chain_fits, chain_more, compare_is, compare_second, compare_fits, compare_end, not_is}
use Rattle.function_blocks.proofs.expression.+expr_drivers.Goals as goal

pub loop-part-init : goal.loop-part-init
loop-part-init t c =
    rw (c.deref-part-items.ensures.value, c.new-bits.ensures.items)
    (join_begin c.args.vars.now c.args.request c.args.from c.args.drivers.now.items (formula_of c.args.e.now) (parts_of c.in-Join.parts.items)
    (join_is _ _ c.in-Join.is) c.requires.formed c.requires.read c.requires.room)

pub loop-part-preserved : goal.loop-part-preserved
loop-part-preserved t c =
    let here = part_left c.args.vars.now c.args.request c.args.from c.args.drivers.now.items (formula_of c.args.e.now) c.deref-part-items.result.now
    c.loop-part.part-index c.part-item.result _ _ c.loop-part.invariant c.loop-part-test.true c.part-item.is in
    let lower = taken c.expr_drivers-lower.result _ _ _ c.expr_drivers-lower.ensures.made c.expr_drivers-lower.ensures.bits c.in_ok-bits-in-Join.ensures in
    join_more c.args.vars.now c.args.request c.args.from c.args.drivers.now.items (formula_of c.args.e.now) (formula_of c.part-item.result) _ _ _ _ _ _ here
    lower.1 lower.2 lower.3

pub expr_drivers-lower-requires : goal.expr_drivers-lower-requires
expr_drivers-lower-requires t c =
    let here = part_left c.args.vars.now c.args.request c.args.from c.args.drivers.now.items (formula_of c.args.e.now) c.deref-part-items.result.now
    c.loop-part.part-index c.part-item.result _ _ c.loop-part.invariant c.loop-part-test.true c.part-item.is in
    let room = here.room in
    (search (rules, the_lemmas, get_or_read), (here.formed.0, (here.read.0, omega (arith, room))))

pub loop-link-init : goal.loop-link-init
loop-link-init t c =
    let is : formula_of c.args.e.now ≡ chained (formula_of c.deref-in-Chain.result.now) (links_of c.in-Chain.rest.items) =
    chain_is _ _ _ c.in-Chain.is ∙ ap (λ x. chained (formula_of x) (links_of c.in-Chain.rest.items)) (sym c.deref-in-Chain.ensures) in
    rw c.deref-link-items.ensures.value
    (chain_begin c.args.vars.now c.args.request c.args.from c.args.drivers.now.items (formula_of c.args.e.now) (formula_of c.deref-in-Chain.result.now)
    (links_of c.in-Chain.rest.items) _ _ is c.requires.formed c.requires.read c.requires.room
    (done c.args.vars.now c.args.request c.args.from _ _ _ _ c.in_ok-bits-in-Chain.ensures.made c.in_ok-bits-in-Chain.ensures.bits))

pub expr_drivers-right-requires : goal.expr_drivers-right-requires
expr_drivers-right-requires t c =
    let here = link_left c.args.vars.now c.args.request c.args.from c.args.drivers.now.items (formula_of c.args.e.now) c.deref-link-items.result.now
    c.loop-link.link-index c.link-item.result _ _ c.loop-link.invariant c.loop-link-test.true c.link-item.is in
    let room = here.room in
    (search (rules, the_lemmas, get_or_read), (here.formed.2, (here.read.0, omega (arith, room))))

pub applied-requires : goal.applied-requires
applied-requires t c =
    let here = link_left c.args.vars.now c.args.request c.args.from c.args.drivers.now.items (formula_of c.args.e.now) c.deref-link-items.result.now
    c.loop-link.link-index c.link-item.result _ _ c.loop-link.invariant c.loop-link-test.true c.link-item.is in
    asked c.expr_drivers-right.result _ _ _
    (λ right made bits. chain_fits c.args.vars.now c.args.request c.args.from c.args.drivers.now.items (formula_of c.args.e.now)
    (formula_of c.link-item.result.right)
    c.link-item.result.op _ _ _ _ _ here made bits)
    c.expr_drivers-right.ensures.made c.expr_drivers-right.ensures.bits

pub loop-link-preserved : goal.loop-link-preserved
loop-link-preserved t c =
    let here = link_left c.args.vars.now c.args.request c.args.from c.args.drivers.now.items (formula_of c.args.e.now) c.deref-link-items.result.now
    c.loop-link.link-index c.link-item.result _ _ c.loop-link.invariant c.loop-link-test.true c.link-item.is in
    let right = taken c.expr_drivers-right.result _ _ _ c.expr_drivers-right.ensures.made c.expr_drivers-right.ensures.bits c.in_ok-bits-in-Chain-2.ensures in
    chain_more c.args.vars.now c.args.request c.args.from c.args.drivers.now.items (formula_of c.args.e.now) (formula_of c.link-item.result.right)
    c.link-item.result.op _ _ _ _ _ _ _ here right.1 right.2 right.3.0 right.3.1

-- a comparison: its left side, then its right one, then the operator
pub expr_drivers-right-requires-in-Compare : goal.expr_drivers-right-requires-in-Compare
expr_drivers-right-requires-in-Compare t c =
    let is = compare_is _ _ _ _ _ _ c.in-Compare.is c.deref-in-Compare.ensures c.deref-in-Compare-2.ensures in
    let left = done c.args.vars.now c.args.request c.args.from _ _ _ _ c.in_ok-left-in-Compare.ensures.made c.in_ok-left-in-Compare.ensures.bits in
    let second = compare_second c.args.vars.now c.args.request c.args.from c.args.drivers.now.items (formula_of c.args.e.now) _ _ c.in-Compare.op _ _ is
    c.requires.formed c.requires.read c.requires.room left in
    (search (rules, the_lemmas), (second.formed, (second.read, second.room)))

pub applied-requires-in-Compare : goal.applied-requires-in-Compare
applied-requires-in-Compare t c =
    let is = compare_is _ _ _ _ _ _ c.in-Compare.is c.deref-in-Compare.ensures c.deref-in-Compare-2.ensures in
    let left = done c.args.vars.now c.args.request c.args.from _ _ _ _ c.in_ok-left-in-Compare.ensures.made c.in_ok-left-in-Compare.ensures.bits in
    asked c.expr_drivers-right-in-Compare.result _ _ _
    (λ right made bits. compare_fits c.args.vars.now c.args.request c.args.from c.args.drivers.now.items (formula_of c.args.e.now)
    _ _ c.in-Compare.op _ _ _ _ is
    c.requires.formed c.requires.read c.requires.room left (done c.args.vars.now c.args.request c.args.from _ _ _ _ made bits))
    c.expr_drivers-right-in-Compare.ensures.made c.expr_drivers-right-in-Compare.ensures.bits

pub returns-in_ok-left-in-Compare : goal.returns-in_ok-left-in-Compare
returns-in_ok-left-in-Compare t c =
    let is = compare_is _ _ _ _ _ _ c.in-Compare.is c.deref-in-Compare.ensures c.deref-in-Compare-2.ensures in
    let left = done c.args.vars.now c.args.request c.args.from _ _ _ _ c.in_ok-left-in-Compare.ensures.made c.in_ok-left-in-Compare.ensures.bits in
    record {
      made = told c.applied-in-Compare.result c.expr_drivers-right-in-Compare.result _ _ _ _
          (λ all right made bits h. (compare_end c.args.vars.now c.args.request c.args.from c.args.drivers.now.items (formula_of c.args.e.now)
          _ _ c.in-Compare.op _ _ _ _ _ _ is
          c.requires.formed c.requires.read left (done c.args.vars.now c.args.request c.args.from _ _ _ _ made bits) h.0 h.1).made_is)
          c.expr_drivers-right-in-Compare.ensures.made c.expr_drivers-right-in-Compare.ensures.bits c.applied-in-Compare.ensures;
      bits = told c.applied-in-Compare.result c.expr_drivers-right-in-Compare.result _ _ _ _
          (λ all right made bits h. (compare_end c.args.vars.now c.args.request c.args.from c.args.drivers.now.items (formula_of c.args.e.now)
          _ _ c.in-Compare.op _ _ _ _ _ _ is
          c.requires.formed c.requires.read left (done c.args.vars.now c.args.request c.args.from _ _ _ _ made bits) h.0 h.1).bits_are)
          c.expr_drivers-right-in-Compare.ensures.made c.expr_drivers-right-in-Compare.ensures.bits c.applied-in-Compare.ensures;
    }

-- numbers, what is read, and negations
pub returns-in-Number : goal.returns-in-Number
returns-in-Number t c = record {
  made = rw c.in-Number.is c.number.ensures.made;
  bits = rw c.in-Number.is c.number.ensures.bits;
}

pub returns-in-Not : goal.returns-in-Not
returns-in-Not t c =
    let is = not_is _ _ _ c.in-Not.is c.deref.ensures in
    let old = c.args.drivers.now.items in
    let at = c.args.from + length old in
    record {
      made = told c.exchanged.result c.expr_drivers.result _ _ _ _
          (λ all inner made bits h. made ∙ ap (λ f. old ++ formula_rules (bits_in_blocks c.args.vars.now) f c.args.request at) (sym is))
          c.expr_drivers.ensures.made c.expr_drivers.ensures.bits c.exchanged.ensures;
      bits = told c.exchanged.result c.expr_drivers.result _ _ _ _
          (λ all inner made bits h. h ∙ (ap (map exchanged) bits ∙ ap (λ f. formula_result f at) (sym is)))
          c.expr_drivers.ensures.made c.expr_drivers.ensures.bits c.exchanged.ensures;
    }
