use Rattle.std.proofs.Common.{◌≡◌, ◌<◌, ◌∙◌, ℕ, sym, ap, subst, length, get_or}
use Rattle.std.specs.Prelude.{IfSome, Option}
use Rattle.prs_core.specs.Nets.{NetValue}
use Rattle.peer_bench.specs.Along.{is_external, chan_is}
use Rattle.peer_bench.proofs.Suiting.{read_at, kind_at}
use Rattle.peer_bench.proofs.course.is_external_ack.Goals as goal

pub returns-in-Some-clause-ack : goal.returns-in-Some-clause-ack
returns-in-Some-clause-ack c =
    let net = c.args.stage.now.net in
    let k = c.in-Some.chan in
    let w = get_or c.channels-channels.result.now k c.index-channels-chan.result in
    let all : c.channels-channels.result.now ≡ net.channels = c.channels-channels.ensures.channels ∙ ap (λ (n : NetValue). n.channels) c.net.ensures.net in
    let within : k < length net.channels = subst (λ (o : Option ℕ). IfSome o (λ chan. chan < length net.channels)) c.in-Some.is c.requires in
    c.is_external.ensures
    ∙ kind_at net is_external k w within (read_at net.channels c.channels-channels.result.now k c.index-channels-chan.result all within)
    ∙ ap (chan_is is_external net) (sym c.in-Some.is)
