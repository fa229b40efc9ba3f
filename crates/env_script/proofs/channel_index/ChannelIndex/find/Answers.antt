use Rattle.std.proofs.Common.{ap, ◌∙◌}
use Rattle.std.specs.Prelude.{position, bytes_eq}
use Rattle.chp_base.specs.declared.channel.Channel.{Channel}
use Rattle.env_script.proofs.channel_index.ChannelIndex.find.Goals as goal

pub returns : goal.returns
returns c = c.copied.ensures ∙ (c.get.ensures.value ∙ (c.self.invariant c.args.name.now
    ∙ ap (position (λ (d : Channel). bytes_eq d.name c.args.name.now)) c.self.view_is))
