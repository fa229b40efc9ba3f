use Rattle.std.proofs.Common.{◌∙◌, ◌++◌, ap}
use Rattle.handshake_expand.specs.Named.{bit_names}
use Rattle.net_compose.proofs.NamesPushed.{bits_more}
use Rattle.net_compose.proofs.names.Names.push_bits.Goals as goal

pub loop-bit-preserved : goal.loop-bit-preserved
loop-bit-preserved c =
    bits_more (bit_names c.args.var.now.name) c.loop-bit.bit _ c.loop-bit.self _ c.loop-bit.invariant
    (c.in_ok-push_bit.ensures ∙ ap (λ name. c.loop-bit.self ++ bit_names name c.loop-bit.bit) c.bytes-name.ensures.bytes)
