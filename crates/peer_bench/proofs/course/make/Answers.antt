use Rattle.std.proofs.Common.{◌≡◌, ◌∙◌, ℕ, Bool, true, false, List, length, refl, sym, ap, subst, arith}
use Rattle.std.specs.Prelude.{not, ◌&&◌}
use Rattle.std.proofs.lemmas.Option.{IfSome_then}
use Rattle.prs_core.specs.Nets.{NetValue}
use Rattle.env_script.specs.Scripts.{OfferValue}
use Rattle.env_script.specs.Runs.{RunState, moved}
use Rattle.prs_core.specs.Moves.{high}
use Rattle.event_sim.proofs.Passed.{completion_within}
use Rattle.event_sim.specs.Stages.{StageValue, now_of}
use Rattle.peer_bench.specs.Steps.{AreOffered, free_on}
use Rattle.peer_bench.specs.Along.{is_external, chan_is}
use Rattle.peer_bench.proofs.Idle.{IsBehind, listed_behind, quiet_behind}
use Rattle.peer_bench.proofs.Moments.{asked_then, told_then}
use Rattle.peer_bench.proofs.Rails.{offered_moved}
use Rattle.peer_bench.proofs.Room.{free_moved, told_few}
use Rattle.peer_bench.proofs.Turns.{nothing_came}
use Rattle.peer_bench.proofs.course.make.Goals as goal

is_low : (b c : Bool) → (not b && c) ≡ true → b ≡ false
is_low true c both = absurd (cc both)
is_low false c both = refl

pub tell-told-requires-clause-chan : goal.tell-told-requires-clause-chan
tell-told-requires-clause-chan g c =
    let s = c.args.stage.now in
    completion_within s.net (high s.values) c.args.node c.completion-passed.result (length c.make-hazard.new.self.net.channels) c.completion-passed.ensures
    (ap (λ (w : NetValue). length w.channels) c.make-hazard.ensures.net)

pub tell-told-requires-clause-room : goal.tell-told-requires-clause-room
tell-told-requires-clause-room g c = omega (arith, c.requires.spare)

behind_it : (s l : StageValue) (n : ℕ) → l.net ≡ s.net → l.script ≡ s.script → now_of l ≡ moved s.net (now_of s) n → IsBehind s l n
behind_it s l n net script now = record { net = net; script = script; now = now }

pub list_idle-requires-clause-others : goal.list_idle-requires-clause-others
list_idle-requires-clause-others g c = λ chan apart.
    let s = c.args.stage.now in
    let e = c.make-hazard.ensures in
    listed_behind s c.make-hazard.new.self c.args.node c.args.idle.now c.is_external_ack-is_ack.ensures.net
    (behind_it s c.make-hazard.new.self c.args.node e.net e.script e.moved) c.requires.idle chan (λ found. apart (c.acknowledged-acked.ensures ∙ found))

pub ask_if-requires-clause-quiet : goal.ask_if-requires-clause-quiet
ask_if-requires-clause-quiet g c =
    let s = c.args.stage.now in
    let l = c.make-hazard.new.self in
    let e = c.make-hazard.ensures in
    IfSome_then c.only_one-only.result c.only_one-only.ensures (λ chan is. quiet_behind s l c.args.node chan _ _ c.is_external_ack-is_ack.ensures.net
    (behind_it s l c.args.node e.net e.script e.moved)
    (c.tell-told.ensures.noted.same (nothing_came _ (sym is.1 ∙ c.tell-told.ensures.told))) (sym c.acknowledged-acked.ensures ∙ is.0)
    (c.requires.quiet (sym c.in_reset-was_in_reset.ensures ∙ is.2)))

pub ask_if-requires-clause-low : goal.ask_if-requires-clause-low
ask_if-requires-clause-low g c = λ asked. sym c.in_reset.ensures ∙ is_low c.in_reset.result _ (sym c.may_ask-asks.ensures ∙ asked)

pub ask_if-requires-clause-offered : goal.ask_if-requires-clause-offered
ask_if-requires-clause-offered g c =
    let s = c.args.stage.now in
    let e = c.make-hazard.ensures in
    subst (λ (st : RunState). AreOffered c.make-hazard.new.self.script st) (sym e.moved)
    (subst (λ (script : List OfferValue). AreOffered script (moved s.net (now_of s) c.args.node)) (sym e.script)
    (offered_moved s c.args.node s.script c.is_external_ack-is_ack.ensures.net c.is_external_ack-is_ack.ensures.script c.requires.enabled
    c.requires.rails c.requires.offered))

pub ask_if-requires-clause-room : goal.ask_if-requires-clause-room
ask_if-requires-clause-room g c =
    let s = c.args.stage.now in
    let l = c.make-hazard.new.self in
    let e = c.make-hazard.ensures in
    let free : free_on l.net l.script (now_of l) ≡ free_on s.net s.script (moved s.net (now_of s) c.args.node) =
    ap (λ (w : NetValue). free_on w l.script (now_of l)) e.net ∙ ap (λ (script : List OfferValue). free_on s.net script (now_of l)) e.script
    ∙ ap (free_on s.net s.script) e.moved in
    let more = free_moved s c.args.node s.script c.is_external_ack-is_ack.ensures.net in
    let few = told_few l.net c.args.at c.completion-passed.result in
    omega (arith, c.tell-told.ensures.noted.spare, c.requires.spare)

pub returns-clause-kind : goal.returns-clause-kind
returns-clause-kind g c = c.ask_if.ensures.kind ∙ c.tell-told.ensures.kind

pub returns-clause-net : goal.returns-clause-net
returns-clause-net g c = ap (λ (t : StageValue). t.net) c.ask_if.ensures.stage ∙ c.make-hazard.ensures.net

pub returns-clause-moved : goal.returns-clause-moved
returns-clause-moved g c = ap now_of c.ask_if.ensures.stage ∙ c.make-hazard.ensures.moved

pub returns-clause-fits : goal.returns-clause-fits
returns-clause-fits g c = c.net-kept.ensures.script

pub returns-clause-passed : goal.returns-clause-passed
returns-clause-passed g c = ap (λ (t : StageValue). t.passed) c.ask_if.ensures.stage ∙ c.make-hazard.ensures.passed

pub returns-clause-room : goal.returns-clause-room
returns-clause-room g c = omega (arith, ap (λ (t : StageValue). t.room) c.ask_if.ensures.stage, c.make-hazard.ensures.room)

pub returns-clause-hazard : goal.returns-clause-hazard
returns-clause-hazard g c = c.make-hazard.ensures.hazard

pub returns-clause-offered : goal.returns-clause-offered
returns-clause-offered g c = c.ask_if.ensures.offered

pub returns-clause-noted : goal.returns-clause-noted
returns-clause-noted g c =
    let s = c.args.stage.now in
    let l = c.make-hazard.new.self in
    let now = c.ask_if.new.stage in
    let e = c.make-hazard.ensures in
    record {
      mid = c.tell-told.new.peer;
      more = c.ask_if.ensures.asked.0;
      told_is = told_then s.net l.net c.args.at c.completion-passed.result _ _ _ e.net c.completion-passed.ensures c.tell-told.ensures.noted;
      asked = asked_then _ s l now c.args.node c.args.at c.may_ask-asks.result c.in_reset.result c.in_reset-was_in_reset.result c.is_external_ack-is_ack.result
          c.ask_if.ensures.asked.0 c.tell-told.new.peer c.ask_if.new.peer e.net e.script c.ask_if.ensures.stage c.may_ask-asks.ensures c.in_reset.ensures
          c.in_reset-was_in_reset.ensures
          (c.is_external_ack-is_ack.ensures.ack ∙ ap (chan_is is_external s.net) c.acknowledged-acked.ensures) c.ask_if.ensures.asked.1;
    }

pub returns-clause-spare : goal.returns-clause-spare
returns-clause-spare g c =
    let s = c.args.stage.now in
    let l = c.make-hazard.new.self in
    let now = c.ask_if.new.stage in
    let e = c.make-hazard.ensures in
    let free : free_on l.net l.script (now_of l) ≡ free_on s.net s.script (moved s.net (now_of s) c.args.node) =
    ap (λ (w : NetValue). free_on w l.script (now_of l)) e.net ∙ ap (λ (script : List OfferValue). free_on s.net script (now_of l)) e.script
    ∙ ap (free_on s.net s.script) e.moved in
    let more = free_moved s c.args.node s.script c.is_external_ack-is_ack.ensures.net in
    let few = told_few l.net c.args.at c.completion-passed.result in
    let same : free_on now.net now.script (now_of now) ≡ free_on s.net now.script (now_of now) =
    ap (λ (w : NetValue). free_on w now.script (now_of now)) (ap (λ (t : StageValue). t.net) c.ask_if.ensures.stage ∙ e.net) in
    omega (arith, c.tell-told.ensures.noted.spare, c.ask_if.ensures.room)
