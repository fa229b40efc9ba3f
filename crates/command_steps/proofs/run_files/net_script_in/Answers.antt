use Rattle.std.proofs.Common.{◌≡◌, ◌∙◌}
use Rattle.env_script.specs.Environment.{net_channels}
use Rattle.command_steps.proofs.run_files.net_script_in.Goals as goal

pub returns-in-Ok-clause-read : goal.returns-in-Ok-clause-read
returns-in-Ok-clause-read g c =
    let same : c.deref.result.now ≡ net_channels c.args.net.now = c.deref.ensures.value ∙ c.in-Ok.ensures.channels in
    rw same at c.script_in.ensures.read

pub returns-in-Ok-clause-stopped : goal.returns-in-Ok-clause-stopped
returns-in-Ok-clause-stopped g c =
    let same : c.deref.result.now ≡ net_channels c.args.net.now = c.deref.ensures.value ∙ c.in-Ok.ensures.channels in
    rw same at c.script_in.ensures.stopped
