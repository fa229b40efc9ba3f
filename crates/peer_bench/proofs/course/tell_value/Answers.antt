use Rattle.std.proofs.Common.{◌≡◌, ◌∙◌, sym, ap, get_or}
use Rattle.std.specs.Prelude.{Some}
use Rattle.prs_core.specs.Nets.{NetValue}
use Rattle.peer_bench.specs.Along.{is_out, chan_is}
use Rattle.peer_bench.proofs.Known.{took_noted, took_nothing, told_some}
use Rattle.peer_bench.proofs.Suiting.{read_at, kind_at}
use Rattle.peer_bench.proofs.course.tell_value.Goals as goal

pub returns-then-is_taken-clause-noted : goal.returns-then-is_taken-clause-noted
returns-then-is_taken-clause-noted g c =
    let net = c.args.stage.now.net in
    let k = c.args.chan in
    let w = get_or c.channels.result.now k c.index-channels-chan.result in
    let all : c.channels.result.now ≡ net.channels = c.channels.ensures.channels ∙ ap (λ (n : NetValue). n.channels) c.net.ensures.net in
    let kind : c.is_out-is_taken.result ≡ chan_is is_out net (Some k) = c.is_out-is_taken.ensures
    ∙ kind_at net is_out k w c.requires.chan (read_at net.channels c.channels.result.now k c.index-channels-chan.result all c.requires.chan) in
    took_noted _ _ c.args.at k c.args.value (chan_is is_out net (Some k)) (sym kind ∙ c.if-is_taken.true) c.tell_taken.ensures.noted

pub returns-else-is_taken-clause-noted : goal.returns-else-is_taken-clause-noted
returns-else-is_taken-clause-noted g c =
    let net = c.args.stage.now.net in
    let k = c.args.chan in
    let w = get_or c.channels.result.now k c.index-channels-chan.result in
    let all : c.channels.result.now ≡ net.channels = c.channels.ensures.channels ∙ ap (λ (n : NetValue). n.channels) c.net.ensures.net in
    let kind : c.is_out-is_taken.result ≡ chan_is is_out net (Some k) = c.is_out-is_taken.ensures
    ∙ kind_at net is_out k w c.requires.chan (read_at net.channels c.channels.result.now k c.index-channels-chan.result all c.requires.chan) in
    took_nothing _ c.args.at k c.args.value (chan_is is_out net (Some k)) (sym kind ∙ c.if-is_taken.false)

pub returns-then-is_taken-clause-told : goal.returns-then-is_taken-clause-told
returns-then-is_taken-clause-told g c =
    let net = c.args.stage.now.net in
    let k = c.args.chan in
    let w = get_or c.channels.result.now k c.index-channels-chan.result in
    let all : c.channels.result.now ≡ net.channels = c.channels.ensures.channels ∙ ap (λ (n : NetValue). n.channels) c.net.ensures.net in
    c.is_out-is_taken.ensures
    ∙ kind_at net is_out k w c.requires.chan (read_at net.channels c.channels.result.now k c.index-channels-chan.result all c.requires.chan)
    ∙ told_some c.args.at k c.args.value (chan_is is_out net (Some k))

pub returns-else-is_taken-clause-told : goal.returns-else-is_taken-clause-told
returns-else-is_taken-clause-told g c =
    let net = c.args.stage.now.net in
    let k = c.args.chan in
    let w = get_or c.channels.result.now k c.index-channels-chan.result in
    let all : c.channels.result.now ≡ net.channels = c.channels.ensures.channels ∙ ap (λ (n : NetValue). n.channels) c.net.ensures.net in
    c.is_out-is_taken.ensures
    ∙ kind_at net is_out k w c.requires.chan (read_at net.channels c.channels.result.now k c.index-channels-chan.result all c.requires.chan)
    ∙ told_some c.args.at k c.args.value (chan_is is_out net (Some k))
