use Rattle.std.proofs.Common.{◌≡◌, ◌<◌, ◌++◌, ◌∙◌, Bool, sym, ap, subst, length, List, arith}
use Rattle.std.specs.Prelude.{nat_lt, ◌||◌}
use Rattle.env_script.specs.Scripts.{OfferValue}
use Rattle.env_script.specs.Runs.{RunState}
use Rattle.event_sim.specs.Stages.{StageValue, now_of}
use Rattle.peer_bench.specs.declared.note.Note.{Note}
use Rattle.peer_bench.specs.Asking.{PeerValue, peer_value, HasNoted}
use Rattle.peer_bench.specs.Steps.{script_noting, asked_under, AreOffered, free_on}
use Rattle.peer_bench.specs.Sets.{HasIdle}
use Rattle.peer_bench.proofs.Idle.{not_listed}
use Rattle.peer_bench.proofs.Turns.{some_both, pass_up, pass_rests, fewer_on}
use Rattle.peer_bench.proofs.ask.ask_from.Goals as goal

pub overflow_add-first : goal.overflow_add-first
overflow_add-first g c = omega (arith, c.in-Some.ensures.within, c.in-Some.ensures.few)

pub loop-chan-preserved : goal.loop-chan-preserved
loop-chan-preserved g c =
    let i = c.loop-chan.invariant in
    let fs = c.args.stage.now in
    let net = fs.net in
    let st = now_of fs in
    let ls = c.loop-chan.stage in
    let ns = c.ask_in-came.new.stage in
    let q = goal.Peer-dyn g (c.loop-chan.peer.vtable, c.loop-chan.peer.value) in
    let v = c.loop-chan.peer.value in
    let p : PeerValue = peer_value (q.name v) (q.log v) (q.spare v) (q.due v) (q.willing v) in
    let r = goal.Peer-dyn g (c.ask_in-came.new.peer.vtable, c.ask_in-came.new.peer.value) in
    let u = c.ask_in-came.new.peer.value in
    let now : PeerValue = peer_value (r.name u) (r.log u) (r.spare u) (r.due u) (r.willing u) in
    let first = goal.Peer-dyn g (c.args.peer.now.vtable, c.args.peer.now.value) in
    let k = c.in-Some.chan in
    let at = c.args.at in
    let given : List Note = asked_under net ls.script st p at k in
    let same : asked_under ls.net ls.script (now_of ls) p at k ≡ given = ap (λ (s : StageValue). asked_under s.net ls.script (now_of s) p at k) i.stage in
    let script : ns.script ≡ script_noting given ls.script =
    ap (λ (s : StageValue). s.script) c.ask_in-came.ensures.stage ∙ ap (λ (xs : List Note). script_noting xs ls.script) same in
    let noted : HasNoted given p now = subst (λ (xs : List Note). HasNoted xs p now) same c.ask_in-came.ensures.noted in
    let came : c.ask_in-came.result ≡ nat_lt 0 (length given) = c.ask_in-came.ensures.came ∙ ap (λ (xs : List Note). nat_lt 0 (length xs)) same in
    let within : k < length net.channels = omega (arith, c.in-Some.ensures.within, i.idle.count) in
    let whole : ns ≡ record fs { script = ns.script } = c.ask_in-came.ensures.stage
    ∙ ap (λ (s : StageValue). record s { script = script_noting (asked_under ls.net ls.script (now_of ls) p at k) ls.script }) i.stage
    ∙ ap (λ (x : List OfferValue). record fs { script = x }) (sym (ap (λ (s : StageValue). s.script) c.ask_in-came.ensures.stage)) in
    record {
      stage = whole;
      behind = omega (arith, i.behind, c.in-Some.ensures.from);
      within = omega (arith, within);
      asked = (
        i.asked.0 ++ given,
        ap (λ (b : Bool). b || c.ask_in-came.result) i.asked.1 ∙ ap (λ (b : Bool). nat_lt 0 (length i.asked.0) || b) came ∙ sym (some_both i.asked.0 given),
        pass_up _ net st at c.args.from c.loop-chan.first k fs.script ls.script ns.script i.asked.0 c.args.peer.now c.loop-chan.peer c.ask_in-came.new.peer
            i.behind c.in-Some.ensures.from i.asked.2
            (λ j past less. not_listed net ls.script st p c.loop-chan.idle at j i.idle (c.in-Some.ensures.first j past less)) script noted,
      );
      idle = subst (λ (s : StageValue). HasIdle s.net ns.script (now_of s) c.ask_in-came.new.idle) whole c.ask_in-came.ensures.idle;
      offered = subst (λ (r : RunState). AreOffered ns.script r) (ap now_of whole) c.ask_in-came.ensures.offered;
      room = let free = ap (λ (s : StageValue). free_on s.net ls.script (now_of s)) i.stage in
          let behind = ap (λ (s : StageValue). free_on s.net ns.script (now_of s)) whole in
          omega (arith, c.ask_in-came.ensures.room, i.room, free, behind);
      most = omega (arith, noted.spare, i.most);
      fewer = fewer_on c.loop-chan.came c.ask_in-came.result given now.spare p.spare (first.spare c.args.peer.now.value) came
          noted.spare i.most i.fewer;
      kind = c.ask_in-came.ensures.kind ∙ i.kind;
    }

pub returns-clause-asked : goal.returns-clause-asked
returns-clause-asked g c =
    let i = c.loop-chan.invariant in
    let fs = c.args.stage.now in
    let net = fs.net in
    let ls = c.loop-chan.stage in
    let q = goal.Peer-dyn g (c.loop-chan.peer.vtable, c.loop-chan.peer.value) in
    let v = c.loop-chan.peer.value in
    let p : PeerValue = peer_value (q.name v) (q.log v) (q.spare v) (q.due v) (q.willing v) in (
      i.asked.0,
      i.asked.1,
      pass_rests _ net (now_of fs) c.args.at c.args.from c.loop-chan.first (length net.channels) fs.script ls.script i.asked.0 c.args.peer.now c.loop-chan.peer
          i.behind i.within i.asked.2
          (λ j past less. not_listed net ls.script (now_of fs) p c.loop-chan.idle c.args.at j i.idle (c.next.ensures.none c.in_default.is j past)),
    )
