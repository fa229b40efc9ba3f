use Rattle.std.proofs.Common.{◌≡◌, ◌∙◌, sym, ap, subst, refl, length, get_or, List}
use Rattle.std.specs.Prelude.{nat_lt}
use Rattle.chp_base.specs.declared.channel.Kind.TheVariants.{In, Out, Chan}
use Rattle.prs_core.specs.Nets.{NetValue}
use Rattle.event_sim.specs.Stages.{now_of}
use Rattle.peer_bench.specs.declared.note.Note.{Note}
use Rattle.peer_bench.specs.Asking.{PeerValue, peer_value, HasNoted, answer}
use Rattle.peer_bench.specs.Steps.{script_noting, asked_under}
use Rattle.peer_bench.proofs.Known.{noted_none}
use Rattle.peer_bench.proofs.Suiting.{read_at, script_adds, asked_is, came_offer, came_ready}
use Rattle.peer_bench.proofs.ask.ask.Goals as goal

pub ask_value-requires-clause-script : goal.ask_value-requires-clause-script
ask_value-requires-clause-script g c = λ value less.
    let net = c.args.stage.now.net in
    let k = c.args.chan in
    let w = get_or c.channels.result.now k c.index-channels-chan.result in
    let all : c.channels.result.now ≡ net.channels = c.channels.ensures.channels ∙ ap (λ (x : NetValue). x.channels) c.net.ensures.net in
    script_adds net.channels c.args.stage.now.script k value w c.requires.chan (read_at net.channels c.channels.result.now k c.index-channels-chan.result all
    c.requires.chan) (λ kind. less) c.net.ensures.script

pub ask_ready-requires-clause-script : goal.ask_ready-requires-clause-script
ask_ready-requires-clause-script g c =
    let net = c.args.stage.now.net in
    let k = c.args.chan in
    let w = get_or c.channels.result.now k c.index-channels-chan.result in
    let all : c.channels.result.now ≡ net.channels = c.channels.ensures.channels ∙ ap (λ (x : NetValue). x.channels) c.net.ensures.net in
    script_adds net.channels c.args.stage.now.script k 0 w c.requires.chan (read_at net.channels c.channels.result.now k c.index-channels-chan.result all
    c.requires.chan) (λ kind. absurd (cc (kind, c.in-Out.is))) c.net.ensures.script

pub returns-in-In : goal.returns-in-In
returns-in-In g c =
    let stage = c.args.stage.now in
    let net = stage.net in
    let st = now_of stage in
    let k = c.args.chan in
    let at = c.args.at in
    let q = goal.Peer-dyn g (c.args.peer.now.vtable, c.args.peer.now.value) in
    let v = c.args.peer.now.value in
    let p : PeerValue = peer_value (q.name v) (q.log v) (q.spare v) (q.due v) (q.willing v) in
    let w = get_or c.channels.result.now k c.index-channels-chan.result in
    let all : c.channels.result.now ≡ net.channels = c.channels.ensures.channels ∙ ap (λ (x : NetValue). x.channels) c.net.ensures.net in
    let same : asked_under net stage.script st p at k ≡ answer p In w.channel.width at k =
    asked_is net stage.script st p at k w In c.requires.idle c.requires.chan
    (read_at net.channels c.channels.result.now k c.index-channels-chan.result all c.requires.chan) c.in-In.is in
    let r = goal.Peer-dyn g (c.ask_value.new.peer.vtable, c.ask_value.new.peer.value) in
    let u = c.ask_value.new.peer.value in
    let now : PeerValue = peer_value (r.name u) (r.log u) (r.spare u) (r.due u) (r.willing u) in
    record {
      stage = c.ask_value.ensures.stage ∙ ap (λ (xs : List Note). record stage { script = script_noting xs stage.script }) (sym same);
      noted = subst (λ (xs : List Note). HasNoted xs p now) (sym same) c.ask_value.ensures.noted;
      came = c.ask_value.ensures.came ∙ came_offer at k (q.due v k w.channel.width) ∙ ap (λ (xs : List Note). nat_lt 0 (length xs)) (sym same);
      kind = c.ask_value.ensures.kind;
    }

pub returns-in-Out : goal.returns-in-Out
returns-in-Out g c =
    let stage = c.args.stage.now in
    let net = stage.net in
    let st = now_of stage in
    let k = c.args.chan in
    let at = c.args.at in
    let q = goal.Peer-dyn g (c.args.peer.now.vtable, c.args.peer.now.value) in
    let v = c.args.peer.now.value in
    let p : PeerValue = peer_value (q.name v) (q.log v) (q.spare v) (q.due v) (q.willing v) in
    let w = get_or c.channels.result.now k c.index-channels-chan.result in
    let all : c.channels.result.now ≡ net.channels = c.channels.ensures.channels ∙ ap (λ (x : NetValue). x.channels) c.net.ensures.net in
    let same : asked_under net stage.script st p at k ≡ answer p Out w.channel.width at k =
    asked_is net stage.script st p at k w Out c.requires.idle c.requires.chan
    (read_at net.channels c.channels.result.now k c.index-channels-chan.result all c.requires.chan) c.in-Out.is in
    let r = goal.Peer-dyn g (c.ask_ready.new.peer.vtable, c.ask_ready.new.peer.value) in
    let u = c.ask_ready.new.peer.value in
    let now : PeerValue = peer_value (r.name u) (r.log u) (r.spare u) (r.due u) (r.willing u) in
    record {
      stage = c.ask_ready.ensures.stage ∙ ap (λ (xs : List Note). record stage { script = script_noting xs stage.script }) (sym same);
      noted = subst (λ (xs : List Note). HasNoted xs p now) (sym same) c.ask_ready.ensures.noted;
      came = c.ask_ready.ensures.came ∙ came_ready at k (q.willing v k) ∙ ap (λ (xs : List Note). nat_lt 0 (length xs)) (sym same);
      kind = c.ask_ready.ensures.kind;
    }

pub returns-in-Chan : goal.returns-in-Chan
returns-in-Chan g c =
    let stage = c.args.stage.now in
    let net = stage.net in
    let st = now_of stage in
    let k = c.args.chan in
    let at = c.args.at in
    let q = goal.Peer-dyn g (c.args.peer.now.vtable, c.args.peer.now.value) in
    let v = c.args.peer.now.value in
    let p : PeerValue = peer_value (q.name v) (q.log v) (q.spare v) (q.due v) (q.willing v) in
    let w = get_or c.channels.result.now k c.index-channels-chan.result in
    let all : c.channels.result.now ≡ net.channels = c.channels.ensures.channels ∙ ap (λ (x : NetValue). x.channels) c.net.ensures.net in
    let same : asked_under net stage.script st p at k ≡ answer p Chan w.channel.width at k =
    asked_is net stage.script st p at k w Chan c.requires.idle c.requires.chan
    (read_at net.channels c.channels.result.now k c.index-channels-chan.result all c.requires.chan) c.in-Chan.is in
    record {
      stage = ap (λ (xs : List Note). record stage { script = script_noting xs stage.script }) (sym same);
      noted = subst (λ (xs : List Note). HasNoted xs p p) (sym same) (noted_none p p refl);
      came = ap (λ (xs : List Note). nat_lt 0 (length xs)) (sym same);
      kind = refl;
    }
