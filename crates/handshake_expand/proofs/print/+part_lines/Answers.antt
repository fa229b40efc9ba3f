use Rattle.std.proofs.Common.{◌≡◌, ◌-◌, suc, ◌++◌, length, take, ap, sym, ◌∙◌, subst, rules, arith, length-append}
use Rattle.std.specs.Prelude.{codes}
use Rattle.std.proofs.lemmas.List.{get_or_read, take-append-le, take_all}
use Rattle.width_check.specs.Typed.{program_of}
use Rattle.handshake_expand.specs.declared.parts.Part.{out-Part, the_lemmas}
use Rattle.handshake_expand.specs.Layout.{nodes_of}
use Rattle.handshake_expand.specs.PartText.{part_line, HaveNodesBelow}
use Rattle.handshake_expand.specs.PartTree.{each_tree}
use Rattle.handshake_expand.proofs.Lines.{opened_below, indent_more, first_line, next_lines, last_lines, child_below}
use Rattle.handshake_expand.proofs.print.+part_lines.Goals as goal

pub part_line-requires-clause-request : goal.part_line-requires-clause-request
part_line-requires-clause-request t c = (opened_below (nodes_of (program_of c.args.program.now)) c.args.part.now c.requires.nodes).0

pub part_line-requires-clause-answer : goal.part_line-requires-clause-answer
part_line-requires-clause-answer t c = (opened_below (nodes_of (program_of c.args.program.now)) c.args.part.now c.requires.nodes).1

pub loop-child-init : goal.loop-child-init
loop-child-init t c =
    let p = program_of c.args.program.now in
    let o = out-Part c.args.part.now in
    record {
      lines = λ level is. first_line p level c.args.part.now c.args.margin.now.items c.args.to.now.items c.part_line.new.to.items c.deref-child-items.result.now
          c.deref-child-items.ensures.value is
          (c.in_ok-part_line.ensures ∙ ap (λ m. c.args.to.now.items ++ part_line p m o.kind o.request o.answer o.from o.count) c.deref.ensures.value);
      margin = c.in_ok-extend_from_slice.ensures.items;
      nodes = subst (λ xs. HaveNodesBelow (nodes_of p) (each_tree xs)) (sym c.deref-child-items.ensures.value)
          (opened_below (nodes_of p) c.args.part.now c.requires.nodes).2;
    }

pub part_lines-requires : goal.part_lines-requires
part_lines-requires t c = (
  search (rules, the_lemmas, get_or_read),
  (
    c.requires.root,
    (child_below (nodes_of (program_of c.args.program.now)) c.deref-child-items.result.now c.loop-child.child-index c.child-item.result
        c.loop-child-test.true c.child-item.is c.loop-child.invariant.nodes).0,
  ),
)

pub loop-child-preserved : goal.loop-child-preserved
loop-child-preserved t c =
    let p = program_of c.args.program.now in
    let xs = c.deref-child-items.result.now in
    record {
      lines = λ level is. next_lines p (suc level) xs c.loop-child.child-index c.child-item.result c.loop-child.to.items c.part_lines.new.to.items _
          c.loop-child-test.true c.child-item.is
          (c.in_ok-part_lines.ensures.lines (suc level) (c.loop-child.invariant.margin ∙ indent_more level c.args.margin.now.items is))
          (c.loop-child.invariant.lines level is);
      margin = c.in_ok-part_lines.ensures.margin ∙ c.loop-child.invariant.margin;
      nodes = (child_below (nodes_of p) xs c.loop-child.child-index c.child-item.result c.loop-child-test.true c.child-item.is c.loop-child.invariant.nodes).1;
    }

pub returns-clause-lines : goal.returns-clause-lines
returns-clause-lines t c level is = last_lines (program_of c.args.program.now) (suc level) c.deref-child-items.result.now c.loop-child.child-index
    c.loop-child.to.items _ c.loop-child-test.false (c.loop-child.invariant.lines level is)

pub returns-clause-margin : goal.returns-clause-margin
returns-clause-margin t c =
    let old = c.args.margin.now.items in
    let count : c.len.result - 2 ≡ length old = omega (
      arith,
      c.len.ensures,
      c.loop-child.margin.ok.0,
      ap length c.loop-child.invariant.margin,
      length-append old (codes "  "),
    ) in
    c.truncate.ensures.items
    ∙ (ap (take (c.len.result - 2)) c.loop-child.invariant.margin
    ∙ (ap (λ n. take n (old ++ codes "  ")) count
    ∙ (take-append-le (length old) old (codes "  ") (omega arith) ∙ take_all (length old) old (omega arith))))
