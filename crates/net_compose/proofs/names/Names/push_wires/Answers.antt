use Rattle.std.proofs.Common.{◌∙◌, ◌++◌, [], ◌∷◌, ap}
use Rattle.prs_core.specs.Nets.{true_rail, false_rail}
use Rattle.net_compose.proofs.NamesPushed.{bits_more}
use Rattle.net_compose.proofs.names.Names.push_wires.Goals as goal

pub loop-bit-preserved : goal.loop-bit-preserved
loop-bit-preserved c =
    let bit = c.loop-bit.bit in
    bits_more (λ bit. true_rail c.args.channel.now.name bit ∷ false_rail c.args.channel.now.name bit ∷ []) bit _ c.loop-bit.self _ c.loop-bit.invariant
    (c.in_ok-push_rails.ensures ∙ ap (λ name. c.loop-bit.self ++ true_rail name bit ∷ false_rail name bit ∷ []) c.bytes-name.ensures.bytes)
