use Rattle.std.proofs.Common.{◌≢◌, ◌≤◌, List, sym, subst}
use Rattle.std.specs.Prelude.{All, AllPairs}
use Rattle.chp_base.specs.declared.channel.Channel.{Channel}
use Rattle.command_steps.proofs.RunChannels.{channels_distinct, channels_wide}
use Rattle.command_words.proofs.Results.{ok_in}
use Rattle.command_steps.proofs.run_files.channels_of.Goals as goal

pub returns-clause-distinct : goal.returns-clause-distinct
returns-clause-distinct c =
    ok_in c.copied_channels.result _ (λ channels. AllPairs (λ (a b : Channel). a.name ≢ b.name) channels.items)
    (λ channels are. subst (λ (cs : List Channel). AllPairs (λ (a b : Channel). a.name ≢ b.name) cs) (sym are) (channels_distinct _ c.first-kept.ensures.net))
    c.copied_channels.ensures

pub returns-clause-widths : goal.returns-clause-widths
returns-clause-widths c =
    ok_in c.copied_channels.result _ (λ channels. All (λ (channel : Channel). (1 ≤ channel.width) × (channel.width ≤ 64)) channels.items)
    (λ channels are. subst (λ (cs : List Channel). All (λ (channel : Channel). (1 ≤ channel.width) × (channel.width ≤ 64)) cs) (sym are)
    (channels_wide _ c.first-kept.ensures.net))
    c.copied_channels.ensures
