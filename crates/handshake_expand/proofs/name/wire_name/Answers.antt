use Rattle.std.proofs.Common.{◌≡◌, ◌*◌, ◌/◌, ◌%◌, ◌<◌, ◌++◌, [], length, get_or, ap, sym, ◌∙◌, arith, length-append}
use Rattle.std.specs.Prelude.{codes, decimal}
use Rattle.chp_base.specs.declared.channel.Channel.{Channel}
use Rattle.handshake_expand.specs.Named.{wires_named}
use Rattle.handshake_expand.proofs.NameLists.{ack_named, true_named, false_named}
use Rattle.handshake_expand.proofs.name.wire_name.Goals as goal

true_side : (c : Channel) (name : _) (wire : _) → name ≡ c.name → wire < 2 * c.width → wire % 2 ≡ 0 →
    name ++ codes "." ++ decimal (wire / 2) ++ codes ".t" ≡ get_or (wires_named c) wire []
true_side c name wire is within side = ap (λ n. n ++ codes "." ++ decimal (wire / 2) ++ codes ".t") is ∙ sym (true_named c wire within side)

false_side : (c : Channel) (name : _) (wire : _) → name ≡ c.name → wire < 2 * c.width → 0 < wire % 2 →
    name ++ codes "." ++ decimal (wire / 2) ++ codes ".f" ≡ get_or (wires_named c) wire []
false_side c name wire is within side = ap (λ n. n ++ codes "." ++ decimal (wire / 2) ++ codes ".f") is ∙ sym (false_named c wire within side)

pub returns-then-wire-from-clause-name : goal.returns-then-wire-from-clause-name
returns-then-wire-from-clause-name c =
    c.put.ensures.text
    ∙ (ap (λ n. n ++ codes ".a") (c.put-at.ensures.text ∙ c.bytes-name.ensures.bytes)
    ∙ sym (ack_named c.args.channel.now c.args.wire (omega (arith, c.if-wire-from.true, c.from.ensures))))

pub returns-then-wire-from-clause-length : goal.returns-then-wire-from-clause-length
returns-then-wire-from-clause-length c =
    let name = c.args.channel.now.name in
    let whole = ap length (ack_named c.args.channel.now c.args.wire (omega (arith, c.if-wire-from.true, c.from.ensures))) in
    omega (arith, whole, length-append name (codes ".a"), ap length c.bytes-name.ensures.bytes)

pub returns-then-wire-eq0-clause-name : goal.returns-then-wire-eq0-clause-name
returns-then-wire-eq0-clause-name c =
    c.bit_name.ensures.name ∙ true_side c.args.channel.now _ c.args.wire c.bytes-name.ensures.bytes (omega arith) c.if-wire-eq0.true

pub returns-then-wire-eq0-clause-length : goal.returns-then-wire-eq0-clause-length
returns-then-wire-eq0-clause-length c =
    c.bit_name.ensures.length ∙ ap length (true_side c.args.channel.now _ c.args.wire c.bytes-name.ensures.bytes (omega arith) c.if-wire-eq0.true)

pub returns-else-wire-eq0-clause-name : goal.returns-else-wire-eq0-clause-name
returns-else-wire-eq0-clause-name c =
    c.bit_name-else-wire-eq0.ensures.name ∙ false_side c.args.channel.now _ c.args.wire c.bytes-name.ensures.bytes (omega arith) (omega arith)

pub returns-else-wire-eq0-clause-length : goal.returns-else-wire-eq0-clause-length
returns-else-wire-eq0-clause-length c =
    c.bit_name-else-wire-eq0.ensures.length ∙ ap length (false_side c.args.channel.now _ c.args.wire c.bytes-name.ensures.bytes (omega arith) (omega arith))
