use Rattle.std.proofs.Common.{◌≢◌, ◌≤◌, List, sym, subst, ◌∙◌}
use Rattle.std.specs.Prelude.{All, AllPairs}
use Rattle.chp_base.specs.declared.channel.Channel.{Channel}
use Rattle.net_rows.proofs.ScriptChannels.{script_distinct, script_wide}
use Rattle.net_rows.proofs.runs.script_of.Goals as goal

pub read_script-requires-clause-distinct : goal.read_script-requires-clause-distinct
read_script-requires-clause-distinct c =
    subst (λ (cs : List Channel). AllPairs (λ (a b : Channel). a.name ≢ b.name) cs) (sym (c.deref.ensures.value ∙ c.in_ok-channels.ensures))
    (script_distinct _ c.first-net.ensures.net)

pub read_script-requires-clause-widths : goal.read_script-requires-clause-widths
read_script-requires-clause-widths c =
    subst (λ (cs : List Channel). All (λ (channel : Channel). (1 ≤ channel.width) × (channel.width ≤ 64)) cs)
    (sym (c.deref.ensures.value ∙ c.in_ok-channels.ensures)) (script_wide _ c.first-net.ensures.net)
