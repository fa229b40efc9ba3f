use Rattle.std.proofs.Common.{◌≡◌, ◌+◌, ◌-◌, ◌*◌, ◌≤◌, [], length, get_or, drop, ap, sym, ◌∙◌, arith}
use Rattle.width_check.specs.Typed.{program_of}
use Rattle.handshake_expand.specs.Layout.{wires_size, block_size, wires_before, blocks_before, vars_from, root_request}
use Rattle.handshake_expand.proofs.NameLists.{names_from_wires, names_from_blocks, first_named, no_wires_before, no_blocks_before, next_wires, next_blocks, wire_here, wire_behind, wires_over, bit_here, tree_here, block_behind, blocks_over, some_width}
use Rattle.handshake_expand.proofs.name.node_name.Goals as goal

pub loop-channel-init : goal.loop-channel-init
loop-channel-init c =
    let p = program_of c.args.program.now in
    let low : 2 ≤ c.args.node = omega arith in
    record {
      name = ap (λ cs. get_or (names_from_wires p cs) (c.args.node - 2) []) c.channels-channel-items.ensures ∙ sym (first_named p c.args.node low);
      at = omega (arith, low, no_wires_before c.channels-channel-items.result.now);
    }

pub returns-then-place-wires-clause-name : goal.returns-then-place-wires-clause-name
returns-then-place-wires-clause-name c =
    c.wire_name.ensures.name
    ∙ (sym (wire_here (program_of c.args.program.now) c.channels-channel-items.result.now c.loop-channel.channel-index c.loop-channel.place _
    c.loop-channel-test.true c.channel-item.is (omega (arith, c.if-place-wires.true, c.from.ensures)))
    ∙ c.loop-channel.invariant.name)

pub returns-then-place-wires-clause-length : goal.returns-then-place-wires-clause-length
returns-then-place-wires-clause-length c =
    c.wire_name.ensures.length
    ∙ ap length (sym (wire_here (program_of c.args.program.now) c.channels-channel-items.result.now c.loop-channel.channel-index c.loop-channel.place _
    c.loop-channel-test.true c.channel-item.is (omega (arith, c.if-place-wires.true, c.from.ensures)))
    ∙ c.loop-channel.invariant.name)

pub loop-channel-preserved : goal.loop-channel-preserved
loop-channel-preserved c =
    let p = program_of c.args.program.now in
    let items = c.channels-channel-items.result.now in
    let i = c.loop-channel.channel-index in
    let place = c.loop-channel.place in
    let over : wires_size c.channel-item.result.width ≤ place = omega (arith, c.if-place-wires.false, c.from.ensures) in
    let left : place - wires_size c.channel-item.result.width ≡ place - (2 * c.from.result + 1) = ap (λ n. place - (2 * n + 1)) (sym c.from.ensures) in
    record {
      name = sym (wire_behind p items i place _ c.loop-channel-test.true c.channel-item.is over
          ∙ ap (λ n. get_or (names_from_wires p (drop (i + 1) items)) n []) left) ∙ c.loop-channel.invariant.name;
      at = omega (arith, next_wires items i _ c.loop-channel-test.true c.channel-item.is, c.loop-channel.invariant.at, over, c.from.ensures);
    }

pub loop-var-init : goal.loop-var-init
loop-var-init c =
    let p = program_of c.args.program.now in
    let channels = c.channels-channel-items.result.now in
    let vars = c.vars-var-items.result.now in
    let place = c.loop-channel.place in
    let none : vars_from p + blocks_before vars 0 ≡ vars_from p = omega (arith, no_blocks_before vars) in
    let end : c.loop-channel.channel-index ≡ length channels = omega (arith, c.loop-channel-test.false, c.loop-channel.auto.channel-index-end) in
    let whole : wires_before channels c.loop-channel.channel-index ≡ wires_before p.channels (length p.channels) =
    ap (wires_before channels) end ∙ ap (λ cs. wires_before cs (length cs)) c.channels-channel-items.ensures in
    record {
      name = ap (λ n. get_or (names_from_blocks p vars n) place []) none
          ∙ (ap (λ vs. get_or (names_from_blocks p vs (vars_from p)) place []) c.vars-var-items.ensures
          ∙ (sym (wires_over p channels c.loop-channel.channel-index place c.loop-channel-test.false)
          ∙ c.loop-channel.invariant.name));
      at = omega (arith, none, whole, c.loop-channel.invariant.at);
    }

pub returns-then-place-width-clause-name : goal.returns-then-place-width-clause-name
returns-then-place-width-clause-name c =
    let p = program_of c.args.program.now in
    let items = c.vars-var-items.result.now in
    let i = c.loop-var.var-index in
    let some = some_width p.vars items i _ c.vars-var-items.ensures c.loop-var-test.true c.var-item.is c.body-body.ensures.typed.each_var in
    c.var_name.ensures.name
    ∙ (sym (bit_here p items i (vars_from p + blocks_before items i) c.loop-var.place _ c.loop-var-test.true c.var-item.is some
    (omega (arith, c.if-place-width.true, c.from-width.ensures)))
    ∙ c.loop-var.invariant.name)

pub returns-then-place-width-clause-length : goal.returns-then-place-width-clause-length
returns-then-place-width-clause-length c =
    let p = program_of c.args.program.now in
    let items = c.vars-var-items.result.now in
    let i = c.loop-var.var-index in
    let some = some_width p.vars items i _ c.vars-var-items.ensures c.loop-var-test.true c.var-item.is c.body-body.ensures.typed.each_var in
    c.var_name.ensures.length
    ∙ ap length (sym (bit_here p items i (vars_from p + blocks_before items i) c.loop-var.place _ c.loop-var-test.true c.var-item.is some
    (omega (arith, c.if-place-width.true, c.from-width.ensures)))
    ∙ c.loop-var.invariant.name)

pub returns-then-place-width-2-clause-name : goal.returns-then-place-width-2-clause-name
returns-then-place-width-2-clause-name c =
    let p = program_of c.args.program.now in
    let items = c.vars-var-items.result.now in
    let i = c.loop-var.var-index in
    let some = some_width p.vars items i _ c.vars-var-items.ensures c.loop-var-test.true c.var-item.is c.body-body.ensures.typed.each_var in
    c.numbered_name.ensures.name
    ∙ (sym (tree_here p items i (vars_from p + blocks_before items i) c.loop-var.place _ c.loop-var-test.true c.var-item.is some c.args.node
    (omega (arith, c.if-place-width.false, c.from-width.ensures)) (omega (arith, c.if-place-width-2.true, c.from-width.ensures)) c.loop-var.invariant.at)
    ∙ c.loop-var.invariant.name)

pub returns-then-place-width-2-clause-length : goal.returns-then-place-width-2-clause-length
returns-then-place-width-2-clause-length c =
    let p = program_of c.args.program.now in
    let items = c.vars-var-items.result.now in
    let i = c.loop-var.var-index in
    let some = some_width p.vars items i _ c.vars-var-items.ensures c.loop-var-test.true c.var-item.is c.body-body.ensures.typed.each_var in
    c.numbered_name.ensures.length
    ∙ ap length (sym (tree_here p items i (vars_from p + blocks_before items i) c.loop-var.place _ c.loop-var-test.true c.var-item.is some c.args.node
    (omega (arith, c.if-place-width.false, c.from-width.ensures)) (omega (arith, c.if-place-width-2.true, c.from-width.ensures)) c.loop-var.invariant.at)
    ∙ c.loop-var.invariant.name)

pub loop-var-preserved : goal.loop-var-preserved
loop-var-preserved c =
    let p = program_of c.args.program.now in
    let items = c.vars-var-items.result.now in
    let i = c.loop-var.var-index in
    let place = c.loop-var.place in
    let rest = drop (i + 1) items in
    let w = c.var-item.result.width in
    let from = vars_from p + blocks_before items i in
    let some = some_width p.vars items i _ c.vars-var-items.ensures c.loop-var-test.true c.var-item.is c.body-body.ensures.typed.each_var in
    let step = next_blocks items i _ c.loop-var-test.true c.var-item.is in
    let next : vars_from p + blocks_before items (i + 1) ≡ from + block_size w = omega (arith, step) in
    let over : block_size w ≤ place = omega (arith, c.if-place-width-2.false, c.from-width.ensures) in
    let left : place - (6 * c.from-width.result - 1) ≡ place - block_size w = ap (λ n. place - (6 * n - 1)) c.from-width.ensures in
    record {
      name = ap (λ n. get_or (names_from_blocks p rest n) (place - (6 * c.from-width.result - 1)) []) next
          ∙ (ap (λ n. get_or (names_from_blocks p rest (from + block_size w)) n []) left
          ∙ (sym (block_behind p items i from place _ c.loop-var-test.true c.var-item.is some over)
          ∙ c.loop-var.invariant.name));
      at = omega (arith, next, over, left, c.loop-var.invariant.at);
    }

pub returns-clause-name : goal.returns-clause-name
returns-clause-name c =
    let p = program_of c.args.program.now in
    let items = c.vars-var-items.result.now in
    let i = c.loop-var.var-index in
    let end : i ≡ length items = omega (arith, c.loop-var-test.false, c.loop-var.auto.var-index-end) in
    let whole : blocks_before items i ≡ blocks_before p.vars (length p.vars) =
    ap (blocks_before items) end ∙ ap (λ vs. blocks_before vs (length vs)) c.vars-var-items.ensures in
    let from : vars_from p + blocks_before items i ≡ root_request p = omega (arith, whole) in
    c.numbered_name-2.ensures.name
    ∙ (sym (blocks_over p items i (vars_from p + blocks_before items i) c.loop-var.place c.args.node c.loop-var-test.false
    (omega (arith, whole, c.loop-var.invariant.at)) c.requires from)
    ∙ c.loop-var.invariant.name)

pub returns-clause-length : goal.returns-clause-length
returns-clause-length c =
    let p = program_of c.args.program.now in
    let items = c.vars-var-items.result.now in
    let i = c.loop-var.var-index in
    let end : i ≡ length items = omega (arith, c.loop-var-test.false, c.loop-var.auto.var-index-end) in
    let whole : blocks_before items i ≡ blocks_before p.vars (length p.vars) =
    ap (blocks_before items) end ∙ ap (λ vs. blocks_before vs (length vs)) c.vars-var-items.ensures in
    let from : vars_from p + blocks_before items i ≡ root_request p = omega (arith, whole) in
    c.numbered_name-2.ensures.length
    ∙ ap length (sym (blocks_over p items i (vars_from p + blocks_before items i) c.loop-var.place c.args.node c.loop-var-test.false
    (omega (arith, whole, c.loop-var.invariant.at)) c.requires from)
    ∙ c.loop-var.invariant.name)
