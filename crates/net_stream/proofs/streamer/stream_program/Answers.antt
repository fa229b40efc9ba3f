use Rattle.std.proofs.Common.{subst}
use Rattle.prs_file.specs.Spelling.{NetText}
use Rattle.width_check.specs.Typed.{program_of}
use Rattle.net_stream.proofs.streamer.stream_program.Goals as goal

pub returns-in-Ok-clause-text : goal.returns-in-Ok-clause-text
returns-in-Ok-clause-text c = subst (NetText c.in-Ok.streamer) c.in_ok-net.ensures.net c.in-Ok.ensures

pub returns-in-Ok-clause-carries : goal.returns-in-Ok-clause-carries
returns-in-Ok-clause-carries c = c.carries.ensures (program_of c.args.program.now) c.in_ok-net.ensures.translated

pub returns-in-Ok-clause-net : goal.returns-in-Ok-clause-net
returns-in-Ok-clause-net c = c.whole_nets.ensures (program_of c.args.program.now) c.in_ok-net.ensures.translated.typed c.in_ok-net.ensures.fits

pub returns-in-Ok-clause-progresses : goal.returns-in-Ok-clause-progresses
returns-in-Ok-clause-progresses c = c.runs_end.ensures.every (program_of c.args.program.now) c.in_ok-net.ensures.translated
