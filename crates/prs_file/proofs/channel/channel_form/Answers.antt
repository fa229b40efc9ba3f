use Rattle.prs_file.proofs.ChannelLines.{no_channel, no_channel_name}
use Rattle.prs_file.proofs.channel.channel_form.Goals as goal

pub returns-in_default-clause-none : goal.returns-in_default-clause-none
returns-in_default-clause-none c =
    no_channel c.args.line.now c.word_of-word.result.now c.kind_of-kind.result c.kind_of-kind.ensures c.word_of-word.ensures c.in_default.ensures.none

pub returns-in_default-2-clause-none : goal.returns-in_default-2-clause-none
returns-in_default-2-clause-none c =
    no_channel_name c.args.line.now c.word_of-word.result.now c.kind_of-kind.result c.kind_of-kind.ensures c.word_of-word.ensures
    (rw c.in_default-2.is at c.in_ok-name.ensures.none)
