use Rattle.std.proofs.Common.{◌≡◌, ◌≤◌, ◌<◌, ◌+◌, ◌∙◌, ℕ, List, Some, None, true, false, length, get_or, refl, sym, ap, subst, arith}
use Rattle.std.specs.Prelude.{◌==◌}
use Rattle.std.proofs.lemmas.Bool.{ne_eqb, eq-eqb}
use Rattle.prs_core.specs.Nets.{NetValue, IsNet}
use Rattle.event_sim.specs.Ends.{end_with}
use Rattle.event_sim.specs.Simulating.{IsEndIn}
use Rattle.event_sim.specs.Stages.{StageValue, moves_now}
use Rattle.event_sim.proofs.Finishing.{picked_enabled}
use Rattle.peer_bench.specs.Benches.{SetupValue, external_channels}
use Rattle.peer_bench.proofs.Beginning.{offered_first, free_begun, begins}
use Rattle.peer_bench.proofs.Ending.{goes_on, choice_list, any_default, picked_within, is_ready, over}
use Rattle.peer_bench.proofs.course.drive.Goals as goal

pub ask_if-requires-clause-offered : goal.ask_if-requires-clause-offered
ask_if-requires-clause-offered g c = offered_first c.setup.inside.stage c.setup.inside.steps c.setup.invariant.0

pub ask_if-requires-clause-room : goal.ask_if-requires-clause-room
ask_if-requires-clause-room g c =
    let free = free_begun c.setup.inside.stage c.setup.inside.steps c.setup.invariant.0 in
    let all : external_channels c.setup.inside.stage.net ≡ external_channels c.args.setup.net =
    ap (λ (v : SetupValue). external_channels v.net) c.setup.view_is in
    omega (arith, c.requires.room)

pub loop-made-init : goal.loop-made-init
loop-made-init g c =
    let stage = c.setup.inside.stage in
    let here : IsNet stage.net = subst (λ (w : NetValue). IsNet w) (ap (λ (t : StageValue). t.net) c.ask_if.ensures.stage) c.first_hazard-hazard.ensures.net in
    record {
      steps = ap (λ (v : SetupValue). v.steps) c.setup.view_is;
      net = subst (λ (v : SetupValue). IsNet v.net) c.setup.view_is here;
      driven = begins _ _ c.args.setup stage c.ask_if.new.stage c.setup.inside.steps c.in_reset-is_in_reset.result c.ask_if.ensures.asked.0 c.args.peer.now
          c.ask_if.new.peer c.args.picker.now c.first_hazard-hazard.result _ here c.setup.view_is c.setup.invariant.0 c.in_reset-is_in_reset.ensures
          c.ask_if.ensures.stage c.ask_if.ensures.asked.1 c.ask_if.ensures.offered c.ask_if.ensures.room c.requires.room c.first_hazard-hazard.ensures.hazard
          c.net-kept.ensures.script;
      spare = omega arith;
      name = refl;
      nodes = refl;
      seeded = refl;
      kind = refl;
      device_kind = c.ask_if.ensures.kind;
      idle = c.ask_if.ensures.idle;
    }

pub ran-requires : goal.ran-requires
ran-requires g c =
    let i = c.loop-made.invariant in
    let ended : end_with c.loop-made.hazard (moves_now c.loop-made.stage) false ≡ Some c.in-Some.end =
    ap (λ (xs : List ℕ). end_with c.loop-made.hazard xs false) (sym c.moves.ensures) ∙ sym c.early_end.ensures ∙ c.in-Some.is in
    let goes : (c.loop-made.made == c.args.setup.steps) ≡ false = ne_eqb _ _ (omega (arith, i.steps, c.loop-made-test.true)) in
    let fin = over _ _ c.args.setup _ _ c.loop-made.made c.loop-made.made _ _ _ _ c.loop-made.stage c.loop-made.hazard false c.in-Some.end i.net i.driven refl
    goes ended in
    subst (λ (w : NetValue). IsEndIn w c.in-Some.end) (sym fin.net) fin.within

pub ran-requires-2 : goal.ran-requires-2
ran-requires-2 g c =
    let i = c.loop-made.invariant in
    let ended : end_with c.loop-made.hazard (moves_now c.loop-made.stage) true ≡ Some c.last_end-end.result =
    ap (λ (xs : List ℕ). end_with c.loop-made.hazard xs true) (sym c.moves-2.ensures) ∙ c.last_end-end.ensures in
    let spent : (c.loop-made.made == c.args.setup.steps) ≡ true = eq-eqb _ _ (omega (arith, i.steps, c.loop-made-test.false)) in
    let fin = over _ _ c.args.setup _ _ c.loop-made.made c.loop-made.made _ _ _ _ c.loop-made.stage c.loop-made.hazard true c.last_end-end.result i.net i.driven
    refl spent ended in
    subst (λ (w : NetValue). IsEndIn w c.last_end-end.result) (sym fin.net) fin.within

pub choose-place-requires-clause-list : goal.choose-place-requires-clause-list
choose-place-requires-clause-list g c =
    let i = c.loop-made.invariant in
    let none : end_with c.loop-made.hazard c.moves-in-None.result.now false ≡ None =
    ap (λ (xs : List ℕ). end_with c.loop-made.hazard xs false) (c.moves-in-None.ensures ∙ sym c.moves.ensures) ∙ sym c.early_end.ensures ∙ c.in-None.is in
    choice_list c.loop-made.stage c.args.setup.net c.loop-made.hazard _ c.moves-in-None.result.now i.driven.driven.net_is c.moves-in-None.ensures none
    (subst (λ (n : ℕ). length c.args.setup.net.first ≤ n) (sym i.nodes) c.requires.nodes)

pub make-hazard-requires-clause-node : goal.make-hazard-requires-clause-node
make-hazard-requires-clause-node g c =
    rw c.moves_at.ensures (picked_within c.loop-made.stage c.moves-in-None-2.result.now c.choose-place.result 0 c.moves-in-None-2.ensures
    (omega (arith, c.choose-place.ensures.within, ap length c.moves-in-None.ensures, ap length c.moves-in-None-2.ensures)))

pub make-hazard-requires-clause-enabled : goal.make-hazard-requires-clause-enabled
make-hazard-requires-clause-enabled g c =
    rw c.moves_at.ensures (picked_enabled c.loop-made.stage c.moves-in-None-2.result.now c.choose-place.result 0 c.moves-in-None-2.ensures
    (omega (arith, c.choose-place.ensures.within, ap length c.moves-in-None.ensures, ap length c.moves-in-None-2.ensures)))

pub make-hazard-requires-clause-room : goal.make-hazard-requires-clause-room
make-hazard-requires-clause-room g c =
    let i = c.loop-made.invariant in
    rw c.moves_at.ensures (omega (arith, i.driven.driven.room, i.driven.counted, i.steps, c.loop-made-test.true))

pub make-hazard-requires-clause-rails : goal.make-hazard-requires-clause-rails
make-hazard-requires-clause-rails g c =
    let i = c.loop-made.invariant in
    let none : end_with c.loop-made.hazard (moves_now c.loop-made.stage) false ≡ None =
    ap (λ (xs : List ℕ). end_with c.loop-made.hazard xs false) (sym c.moves.ensures) ∙ sym c.early_end.ensures ∙ c.in-None.is in
    rw c.moves_at.ensures ((is_ready _ _ c.args.setup.net c.args.setup.steps _ _ c.loop-made.made _ _ _ _ c.loop-made.stage c.loop-made.hazard i.driven
    (omega (arith, i.steps, c.loop-made-test.true)) none).rails)

pub make-hazard-requires-clause-offered : goal.make-hazard-requires-clause-offered
make-hazard-requires-clause-offered g c = rw c.moves_at.ensures c.loop-made.invariant.driven.driven.offered

pub make-hazard-requires-clause-spare : goal.make-hazard-requires-clause-spare
make-hazard-requires-clause-spare g c =
    let i = c.loop-made.invariant in
    let none : end_with c.loop-made.hazard (moves_now c.loop-made.stage) false ≡ None =
    ap (λ (xs : List ℕ). end_with c.loop-made.hazard xs false) (sym c.moves.ensures) ∙ sym c.early_end.ensures ∙ c.in-None.is in
    rw c.moves_at.ensures ((is_ready _ _ c.args.setup.net c.args.setup.steps _ _ c.loop-made.made _ _ _ _ c.loop-made.stage c.loop-made.hazard i.driven
    (omega (arith, i.steps, c.loop-made-test.true)) none).spare)

pub make-hazard-requires-clause-idle : goal.make-hazard-requires-clause-idle
make-hazard-requires-clause-idle g c = rw c.moves_at.ensures c.loop-made.invariant.idle

pub make-hazard-requires-clause-quiet : goal.make-hazard-requires-clause-quiet
make-hazard-requires-clause-quiet g c =
    let i = c.loop-made.invariant in
    let none : end_with c.loop-made.hazard (moves_now c.loop-made.stage) false ≡ None =
    ap (λ (xs : List ℕ). end_with c.loop-made.hazard xs false) (sym c.moves.ensures) ∙ sym c.early_end.ensures ∙ c.in-None.is in
    rw c.moves_at.ensures ((is_ready _ _ c.args.setup.net c.args.setup.steps _ _ c.loop-made.made _ _ _ _ c.loop-made.stage c.loop-made.hazard i.driven
    (omega (arith, i.steps, c.loop-made-test.true)) none).quiet)

pub loop-made-preserved : goal.loop-made-preserved
loop-made-preserved g c =
    let i = c.loop-made.invariant in
    let p = c.choose-place.result in
    let xs = c.moves-in-None-2.result.now in
    let e = rw c.moves_at.ensures at c.make-hazard.ensures in
    let mid = goal.Picker-dyn g (c.loop-made.picker.vtable, c.loop-made.picker.value) in
    let none : end_with c.loop-made.hazard (moves_now c.loop-made.stage) false ≡ None =
    ap (λ (xs : List ℕ). end_with c.loop-made.hazard xs false) (sym c.moves.ensures) ∙ sym c.early_end.ensures ∙ c.in-None.is in
    let within : p < length (moves_now c.loop-made.stage) = omega (arith, c.choose-place.ensures.within, ap length c.moves-in-None.ensures) in
    let at : get_or xs p 0 ≡ get_or (moves_now c.loop-made.stage) p (get_or xs p 0) = ap (λ (ys : List ℕ). get_or ys p 0) c.moves-in-None-2.ensures
    ∙ any_default (moves_now c.loop-made.stage) p 0 (get_or xs p 0) within in
    record {
      steps = i.steps;
      net = i.net;
      driven = goes_on _ _ c.args.setup.net c.loop-made.stage c.make-hazard.new.stage c.args.setup.steps _ _ _ c.loop-made.made _ _ _ _ _
          c.choose-place.new.picker c.loop-made.hazard c.make-hazard.result p (get_or xs p 0) (c.loop-made.made + 1) i.net i.driven
          c.choose-place.ensures.log (record {
            kind = c.choose-place.ensures.kind;
            choice = c.choose-place.ensures.choice ∙ ap (mid.choice c.loop-made.picker.value) c.moves-in-None.ensures;
            log = c.choose-place.ensures.log;
            spare = c.choose-place.ensures.spare;
            name = c.choose-place.ensures.name;
            nodes = c.choose-place.ensures.nodes;
            seeded = c.choose-place.ensures.seeded;
          })
          (omega (arith, i.steps, c.loop-made-test.true)) none within at
          (record { net = e.net; now = e.moved; fits = e.fits; passed = e.passed; room = e.room; hazard = e.hazard }) refl e.noted e.offered e.spare;
      spare = omega (arith, c.choose-place.ensures.spare, i.spare);
      name = c.choose-place.ensures.name ∙ i.name;
      nodes = c.choose-place.ensures.nodes ∙ i.nodes;
      seeded = c.choose-place.ensures.seeded ∙ i.seeded;
      kind = c.choose-place.ensures.kind ∙ i.kind;
      device_kind = e.kind ∙ i.device_kind;
      idle = e.idle;
    }

pub returns-in-Some : goal.returns-in-Some
returns-in-Some g c =
    let i = c.loop-made.invariant in
    let ended : end_with c.loop-made.hazard (moves_now c.loop-made.stage) false ≡ Some c.in-Some.end =
    ap (λ (xs : List ℕ). end_with c.loop-made.hazard xs false) (sym c.moves.ensures) ∙ sym c.early_end.ensures ∙ c.in-Some.is in
    let goes : (c.loop-made.made == c.args.setup.steps) ≡ false = ne_eqb _ _ (omega (arith, i.steps, c.loop-made-test.true)) in
    let fin = over _ _ c.args.setup _ _ c.loop-made.made c.loop-made.made _ _ _ _ c.loop-made.stage c.loop-made.hazard false c.in-Some.end i.net i.driven refl
    goes ended in
    record {
      log = fin.log;
      noted = fin.noted;
      run = rw c.ran.ensures fin.run;
      asked = fin.asked;
      device = fin.name;
      device_kind = i.device_kind;
      spare = rw c.ran.ensures i.spare;
      name = i.name;
      nodes = i.nodes;
      seeded = i.seeded;
      kind = i.kind;
    }

pub returns : goal.returns
returns g c =
    let i = c.loop-made.invariant in
    let ended : end_with c.loop-made.hazard (moves_now c.loop-made.stage) true ≡ Some c.last_end-end.result =
    ap (λ (xs : List ℕ). end_with c.loop-made.hazard xs true) (sym c.moves-2.ensures) ∙ c.last_end-end.ensures in
    let all : c.setup.inside.steps ≡ c.loop-made.made = omega (arith, c.loop-made-test.false, c.loop-made.auto.made-end) in
    let spent : (c.loop-made.made == c.args.setup.steps) ≡ true = eq-eqb _ _ (omega (arith, i.steps, all)) in
    let fin = over _ _ c.args.setup _ _ c.loop-made.made c.setup.inside.steps _ _ _ _ c.loop-made.stage c.loop-made.hazard true c.last_end-end.result i.net
    i.driven all spent ended in
    record {
      log = fin.log;
      noted = fin.noted;
      run = rw c.ran-2.ensures fin.run;
      asked = fin.asked;
      device = fin.name;
      device_kind = i.device_kind;
      spare = rw c.ran-2.ensures (omega (arith, i.spare, all));
      name = i.name;
      nodes = i.nodes;
      seeded = i.seeded;
      kind = i.kind;
    }
