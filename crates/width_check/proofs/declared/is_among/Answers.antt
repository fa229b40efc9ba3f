use Rattle.width_check.proofs.Declaring.{among}
use Rattle.width_check.proofs.declared.is_among.Goals as goal

pub returns-then-has_channel : goal.returns-then-has_channel
returns-then-has_channel c =
    let e = among c.args.name.now c.args.channels.now c.args.vars.now in
    rw (e, ← c.has_channel.ensures, c.if-has_channel.true) (search)

pub returns-else-has_channel : goal.returns-else-has_channel
returns-else-has_channel c =
    let e = among c.args.name.now c.args.channels.now c.args.vars.now in
    rw (e, ← c.has_channel.ensures, c.if-has_channel.false) c.has_var.ensures
