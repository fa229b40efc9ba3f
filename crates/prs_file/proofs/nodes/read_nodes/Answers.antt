use Rattle.std.proofs.Common.{◌==◌, Some, sym, ap, ◌∙◌, arith}
use Rattle.prs_file.specs.NodesTold.{node_fault_of}
use Rattle.prs_file.specs.Openings.{opening, text_behind}
use Rattle.prs_file.specs.Reading.{ends_nodes}
use Rattle.prs_file.specs.Reading.Form.{node}
use Rattle.prs_file.proofs.NodesRead.{nodes_begin, node_refused, nodes_more, nodes_refused, most_small}
use Rattle.prs_file.proofs.nodes.read_nodes.Goals as goal

pub loop-nodes-init : goal.loop-nodes-init
loop-nodes-init c = record {
  version = c.in_ok-nodes.ensures.version;
  read =
      nodes_begin c.args.version c.in_ok-nodes.nodes.index c.in_ok-nodes.nodes.first.items c.may_be_last-ends.result c.args.text.now c.in_ok-nodes.ensures.names
      c.in_ok-nodes.ensures.low c.may_be_last-ends.ensures c.requires;
}

pub returns-in-Some-node_fault-clause-refused : goal.returns-in-Some-node_fault-clause-refused
returns-in-Some-node_fault-clause-refused c =
    let l = c.loop-nodes in
    let small = most_small c.args.version in
    node_refused c.args.version l.nodes.index l.nodes.first.items l.ends (text_behind (opening c.args.version) c.args.text.now) l.rest.now c.in-Some.name
    c.in-Some.first c.in-Some-node_fault.fault _ l.invariant.read (rw c.in-Some.is at c.in_ok-name.ensures.line)
    (rw c.in-Some.is at c.in_ok-name.ensures.name) (ap (λ n. node_fault_of c.args.version l.nodes.index n) (sym c.bytes.ensures.bytes)
    ∙ sym c.node_fault.ensures ∙ c.in-Some-node_fault.is) (omega (arith, c.len.ensures))

pub loop-nodes-preserved : goal.loop-nodes-preserved
loop-nodes-preserved c =
    let l = c.loop-nodes in
    let read = nodes_more c.args.version l.nodes.index l.nodes.first.items l.ends c.may_be_last-ends-in-Some.result
    (text_behind (opening c.args.version) c.args.text.now) l.rest.now c.in-Some.name c.in-Some.behind.now c.in-Some.first l.invariant.read
    (rw c.in-Some.is at c.in_ok-name.ensures.line) (rw c.in-Some.is at c.in_ok-name.ensures.rest) (rw c.in-Some.is at c.in_ok-name.ensures.name)
    (ap (λ n. node_fault_of c.args.version l.nodes.index n) (sym c.bytes.ensures.bytes) ∙ sym c.node_fault.ensures ∙ c.in_default-node_fault.is)
    (c.may_be_last-ends-in-Some.ensures ∙ ap (λ n. ends_nodes (c.args.version == 2) (Some (node n c.in-Some.first))) c.bytes-in-Some.ensures.bytes) in
    record { read = rw (c.in_ok-add.ensures.ok, c.in_ok-push.ensures.items) read; version = l.invariant.version }

pub overflow_cast-line-then-not-ends : goal.overflow_cast-line-then-not-ends
overflow_cast-line-then-not-ends c = omega (arith, most_small c.args.version, c.loop-nodes.invariant.read.nodes.most)

pub overflow_add-line-then-not-ends : goal.overflow_add-line-then-not-ends
overflow_add-line-then-not-ends c = omega (arith, most_small c.args.version, c.loop-nodes.invariant.read.nodes.most)

pub returns-then-not-ends-clause-refused : goal.returns-then-not-ends-clause-refused
returns-then-not-ends-clause-refused c =
    let l = c.loop-nodes in
    nodes_refused c.args.version l.nodes.index l.nodes.first.items (text_behind (opening c.args.version) c.args.text.now) l.rest.now _
    (rw c.if-not-ends.true at l.invariant.read) (rw c.in_default.is at c.in_ok-name.ensures.none) (omega (arith, c.len-then-not-ends.ensures))

pub returns-clause-read : goal.returns-clause-read
returns-clause-read c = rw c.if-not-ends.false at c.loop-nodes.invariant.read
