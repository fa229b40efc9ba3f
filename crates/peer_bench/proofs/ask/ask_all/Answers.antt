use Rattle.std.proofs.Common.{◌≡◌, ◌∙◌, ◌++◌, [], sym, ap, subst, refl, false, length, arith}
use Rattle.std.specs.Prelude.{nat_lt}
use Rattle.prs_core.specs.Moves.{high}
use Rattle.env_script.specs.Environment.{in_reset}
use Rattle.env_script.specs.Runs.{RunState}
use Rattle.event_sim.specs.Stages.{StageValue, now_of}
use Rattle.peer_bench.specs.Steps.{no_pass_by, AreOffered, free_on}
use Rattle.peer_bench.specs.Sets.{HasIdle}
use Rattle.peer_bench.proofs.Turns.{whole_pass, pass_then, pass_last}
use Rattle.peer_bench.proofs.ask.ask_all.Goals as goal

pub loop-init : goal.loop-init
loop-init g c = record {
  stage = refl;
  asked = ([], no_pass_by);
  idle = c.requires.idle;
  offered = c.requires.offered;
  room = refl;
  kind = refl;
}

pub ask_from-requires-clause-low : goal.ask_from-requires-clause-low
ask_from-requires-clause-low g c = ap (λ (s : StageValue). in_reset s.net.reset (high s.values)) c.loop.invariant.stage ∙ c.requires.low

pub ask_from-requires-clause-offered : goal.ask_from-requires-clause-offered
ask_from-requires-clause-offered g c =
    subst (λ (s : StageValue). AreOffered c.loop.stage.script (now_of s)) (sym c.loop.invariant.stage) c.loop.invariant.offered

pub ask_from-requires-clause-idle : goal.ask_from-requires-clause-idle
ask_from-requires-clause-idle g c =
    subst (λ (s : StageValue). HasIdle s.net c.loop.stage.script (now_of s) c.loop.idle) (sym c.loop.invariant.stage) c.loop.invariant.idle

pub ask_from-requires-clause-room : goal.ask_from-requires-clause-room
ask_from-requires-clause-room g c =
    let room = c.loop.invariant.room in
    let free = ap (λ (s : StageValue). free_on s.net c.loop.stage.script (now_of s)) c.loop.invariant.stage in
    omega (arith, room, free, c.requires.room)

pub loop-preserved : goal.loop-preserved
loop-preserved g c =
    let i = c.loop.invariant in
    let fs = c.args.stage.now in
    let ls = c.loop.stage in
    let ns = c.ask_from.new.stage in
    let e = c.ask_from.ensures in
    let whole : ns ≡ record fs { script = ns.script } = e.stage ∙ ap (λ (s : StageValue). record s { script = ns.script }) i.stage in
    let free = ap (λ (s : StageValue). free_on s.net ls.script (now_of s)) i.stage in
    let behind = ap (λ (s : StageValue). free_on s.net ns.script (now_of s)) whole in
    record {
      stage = whole;
      asked = (
        i.asked.0 ++ e.asked.0,
        pass_then _ fs ls c.args.at fs.script ns.script i.asked.0 e.asked.0 c.args.peer.now c.loop.peer c.ask_from.new.peer i.stage i.asked.1
            (whole_pass _ ls.net (now_of ls) c.args.at ls.script ns.script e.asked.0 c.loop.peer c.ask_from.new.peer e.asked.2),
      );
      idle = subst (λ (s : StageValue). HasIdle s.net ns.script (now_of s) c.ask_from.new.idle) whole e.idle;
      offered = subst (λ (st : RunState). AreOffered ns.script st) (ap now_of whole) e.offered;
      room = omega (arith, e.room, i.room, free, behind);
      kind = e.kind ∙ i.kind;
    }

pub returns : goal.returns
returns g c =
    let i = c.loop.invariant in
    let fs = c.args.stage.now in
    let ls = c.loop.stage in
    let ns = c.ask_from.new.stage in
    let e = c.ask_from.ensures in
    let free = ap (λ (s : StageValue). free_on s.net ls.script (now_of s)) i.stage in
    let none : false ≡ nat_lt 0 (length e.asked.0) = sym c.loop-test.false ∙ e.asked.1 in
    record {
      stage = e.stage ∙ ap (λ (s : StageValue). record s { script = ns.script }) i.stage;
      asked = (
        i.asked.0,
        pass_last _ fs ls c.args.at fs.script ns.script i.asked.0 e.asked.0 c.args.peer.now c.loop.peer c.ask_from.new.peer i.stage i.asked.1
            (whole_pass _ ls.net (now_of ls) c.args.at ls.script ns.script e.asked.0 c.loop.peer c.ask_from.new.peer e.asked.2) none,
      );
      idle = e.idle;
      offered = e.offered;
      room = omega (arith, e.room, i.room, free);
      kind = e.kind ∙ i.kind;
    }
