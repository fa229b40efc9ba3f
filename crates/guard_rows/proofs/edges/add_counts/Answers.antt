use Rattle.std.proofs.Common.{◌≡◌, ℕ, ◌+◌, List, get_or, take, ap, refl, arith}
use Rattle.std.proofs.lemmas.List.{take_all, length-take-le}
use Rattle.guard_rows.specs.Places.{times_in, is_one_of}
use Rattle.guard_rows.proofs.Counting.{times_few, times_more}
use Rattle.guard_rows.proofs.Added.{none_added, added_as, added_room, input_step}
use Rattle.guard_rows.proofs.edges.add_counts.Goals as goal

pub add-requires : goal.add-requires
add-requires c =
    let ns = c.args.nodes.now in
    let i = c.loop-node.node-index in
    let old = c.args.edges.now in
    let added = c.loop-node.invariant in
    added_room c.args.row 1 4294967296 (get_or ns i 0) (is_one_of (take i ns)) (λ m. times_in m (take i ns)) old.items c.loop-node.edges.items
    c.index_mut.result.now added
    (λ m within. omega (
      arith,
      c.requires.fresh m (omega (arith, within, old.ok.0)),
      times_few m (take i ns),
      length-take-le i ns (omega (arith, c.loop-node-test.true)),
      c.requires.few,
      c.loop-node-test.true,
    ))
    (omega (arith, c.requires.within i 0 c.loop-node-test.true, added.count, old.ok.0)) c.index_mut.ensures.value

pub loop-node-init : goal.loop-node-init
loop-node-init c = none_added c.args.row _ _ c.args.edges.now.items (λ m. refl) (λ m. refl)

pub loop-node-preserved : goal.loop-node-preserved
loop-node-preserved c =
    let ns = c.args.nodes.now in
    let i = c.loop-node.node-index in
    let old = c.args.edges.now in
    let added = c.loop-node.invariant in
    input_step c.args.row 1 i ns (λ m. times_in m (take i ns)) (λ m. times_in m (take (i + 1) ns)) old.items c.loop-node.edges.items
    c.index_mut.result.now c.add.new.self c.loop-node-test.true
    (omega (arith, c.requires.within i 0 c.loop-node-test.true, added.count, old.ok.0)) c.index_mut.ensures.value
    c.in_ok-add.ensures.total c.in_ok-add.ensures.readers (λ m. times_more m ns i c.loop-node-test.true) added

pub returns-clause-added : goal.returns-clause-added
returns-clause-added c =
    let ns = c.args.nodes.now in
    let i = c.loop-node.node-index in
    let all : take i ns ≡ ns = take_all i ns c.loop-node-test.false in
    added_as c.args.row (is_one_of (take i ns)) (is_one_of ns) (λ m. times_in m (take i ns)) (λ m. times_in m ns) c.args.edges.now.items
    c.loop-node.edges.items (λ m. ap (λ (xs : List ℕ). is_one_of xs m) all) (λ m. ap (times_in m) all) c.loop-node.invariant
