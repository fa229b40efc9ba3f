use Rattle.std.proofs.Common.{◌≡◌, [], ◌∙◌, sym, ap, length, List, arith}
use Rattle.event_sim.specs.Stages.{StageValue, now_of}
use Rattle.peer_bench.specs.declared.note.Note.{Note}
use Rattle.peer_bench.specs.Asking.{PeerValue, peer_value}
use Rattle.peer_bench.specs.Steps.{asked_under}
use Rattle.peer_bench.proofs.Turns.{asked_first, asked_silent, nothing_came}
use Rattle.peer_bench.proofs.ask.ask_one.Goals as goal

pub overflow_add-chan : goal.overflow_add-chan
overflow_add-chan g c = omega (arith, c.requires.chan, c.ask_in.ensures.few c.if-ask_in.true)

pub ask_from-requires-clause-from : goal.ask_from-requires-clause-from
ask_from-requires-clause-from g c = omega (arith, c.requires.chan, ap (λ (s : StageValue). length s.net.channels) c.ask_in.ensures.stage)

pub ask_from-requires-clause-room : goal.ask_from-requires-clause-room
ask_from-requires-clause-room g c = omega (arith, c.ask_in.ensures.room, c.requires.room)

pub ask_all-requires-clause-room : goal.ask_all-requires-clause-room
ask_all-requires-clause-room g c = omega (arith, c.ask_from.ensures.room, c.ask_in.ensures.room, c.requires.room)

pub returns-then-ask_in-clause-room : goal.returns-then-ask_in-clause-room
returns-then-ask_in-clause-room g c = omega (arith, c.ask_all.ensures.room, c.ask_from.ensures.room, c.ask_in.ensures.room)

pub returns-then-ask_in-clause-asked : goal.returns-then-ask_in-clause-asked
returns-then-ask_in-clause-asked g c = (
  _,
  asked_first _ c.args.stage.now c.ask_in.new.stage c.ask_from.new.stage c.args.at c.args.chan c.ask_all.new.stage.script c.ask_from.ensures.asked.0
      c.ask_all.ensures.asked.0 c.args.peer.now c.ask_in.new.peer c.ask_from.new.peer c.ask_all.new.peer c.requires.chan c.requires.quiet
      c.ask_in.ensures.stage c.ask_in.ensures.noted c.ask_from.ensures.stage c.ask_from.ensures.asked.2 c.ask_all.ensures.asked.1,
)

pub returns-else-ask_in-clause-asked : goal.returns-else-ask_in-clause-asked
returns-else-ask_in-clause-asked g c =
    let s = c.args.stage.now in
    let was = c.args.peer.now in
    let q = goal.Peer-dyn g (was.vtable, was.value) in
    let v = was.value in
    let p : PeerValue = peer_value (q.name v) (q.log v) (q.spare v) (q.due v) (q.willing v) in
    let given : List Note = asked_under s.net s.script (now_of s) p c.args.at c.args.chan in
    let none : given ≡ [] = nothing_came given (sym c.if-ask_in.false ∙ c.ask_in.ensures.came) in (
      [],
      asked_silent _ s.net (now_of s) c.args.at c.args.chan s.script c.ask_in.new.stage.script was c.ask_in.new.peer c.requires.chan c.requires.quiet
          none (ap (λ (t : StageValue). t.script) c.ask_in.ensures.stage) c.ask_in.ensures.noted,
    )
