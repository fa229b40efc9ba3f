use Rattle.std.proofs.Common.{◌≡◌, ◌<◌, ◌≤◌, ◌+◌, zero, suc, get_or, ◌∙◌, ◌++◌, ℕ, List, [], ◌∷◌, Some, None, true, false, length, refl, ap, sym, subst, arith}
use Rattle.std.specs.Prelude.{◌==◌}
use Rattle.std.proofs.lemmas.Bool.{ne_eqb, eq-eqb}
use Rattle.std.proofs.lemmas.List.{append_assoc, length_push}
use Rattle.prs_core.specs.Nets.{NetValue}
use Rattle.event_sim.specs.Asking.{enabled_after}
use Rattle.event_sim.specs.Ends.{end_with}
use Rattle.event_sim.specs.Simulating.{SimValue, IsEndIn, start_at}
use Rattle.event_sim.specs.Stages.{moves_now}
use Rattle.event_sim.proofs.Underway.{step, moves_are}
use Rattle.event_sim.proofs.Finishing.{begun, choice_list, picked_within, picked_enabled, finish}
use Rattle.event_sim.proofs.Asking.{asked_not, asked_on}
use Rattle.event_sim.proofs.sim.Sim.run.Goals as goal

-- within a list the default plays no part
any_default : (xs : List ℕ) (k d e : ℕ) → k < length xs → get_or xs k d ≡ get_or xs k e
any_default [] k d e within = absurd (omega arith)
any_default (x ∷ xs) zero d e within = refl
any_default (x ∷ xs) (suc k) d e within = any_default xs k d e (omega arith)

pub loop-made-init : goal.loop-made-init
loop-made-init g c =
    let s = c.self.inside in
    let first = goal.Picker-dyn g (c.args.picker.now.vtable, c.args.picker.now.value) in
    record {
      steps = ap (λ (v : SimValue). v.steps) c.self.view_is;
      net = rw (← c.self.view_is) c.first_hazard-hazard.ensures.net;
      picked = rw (← c.self.view_is) (begun s.stage s.steps s.high c.first_hazard-hazard.result _ c.self.invariant c.first_hazard-hazard.ensures.hazard);
      asked = asked_not _ (enabled_after c.args.self.net c.args.self.script (start_at c.args.self)) (first.log c.args.picker.now.value) c.args.picker.now;
      spare = omega arith;
      name = refl;
      nodes = refl;
      seeded = refl;
      kind = refl;
    }

pub ran-requires : goal.ran-requires
ran-requires g c =
    let i = c.loop-made.invariant in
    let ended : end_with c.loop-made.hazard (moves_now c.loop-made.stage) false ≡ Some c.in-Some.end =
    ap (λ (xs : List ℕ). end_with c.loop-made.hazard xs false) (sym c.moves.ensures) ∙ sym c.early_end.ensures ∙ c.in-Some.is in
    let goes : (c.loop-made.made == c.args.self.steps) ≡ false = ne_eqb _ _ (omega (arith, i.steps, c.loop-made-test.true)) in
    let fin = finish c.args.self _ _ c.loop-made.made c.loop-made.stage c.loop-made.hazard false c.in-Some.end i.net i.picked goes ended in
    subst (λ (w : NetValue). IsEndIn w c.in-Some.end) (sym fin.net) fin.within

pub ran-requires-2 : goal.ran-requires-2
ran-requires-2 g c =
    let i = c.loop-made.invariant in
    let ended : end_with c.loop-made.hazard (moves_now c.loop-made.stage) true ≡ Some c.last_end-end.result =
    ap (λ (xs : List ℕ). end_with c.loop-made.hazard xs true) (sym c.moves-2.ensures) ∙ c.last_end-end.ensures in
    let spent : (c.loop-made.made == c.args.self.steps) ≡ true = eq-eqb _ _ (omega (arith, i.steps, c.loop-made-test.false)) in
    let fin = finish c.args.self _ _ c.loop-made.made c.loop-made.stage c.loop-made.hazard true c.last_end-end.result i.net i.picked spent ended in
    subst (λ (w : NetValue). IsEndIn w c.last_end-end.result) (sym fin.net) fin.within

pub choose-place-requires-clause-list : goal.choose-place-requires-clause-list
choose-place-requires-clause-list g c =
    let i = c.loop-made.invariant in
    let none : end_with c.loop-made.hazard c.moves-in-None.result.now false ≡ None =
    ap (λ (xs : List ℕ). end_with c.loop-made.hazard xs false) (c.moves-in-None.ensures ∙ sym c.moves.ensures) ∙ sym c.early_end.ensures ∙ c.in-None.is in
    choice_list c.args.self i.picked.picks c.loop-made.stage c.loop-made.hazard _ c.moves-in-None.result.now i.picked.underway c.moves-in-None.ensures none
    (subst (λ (n : ℕ). length c.args.self.net.first ≤ n) (sym i.nodes) c.requires.nodes)

pub make-hazard-requires-clause-node : goal.make-hazard-requires-clause-node
make-hazard-requires-clause-node g c =
    let i = c.loop-made.invariant in
    rw c.moves_at.ensures (picked_within c.args.self i.picked.picks c.loop-made.stage c.loop-made.hazard c.moves-in-None-2.result.now c.choose-place.result 0
    i.picked.underway c.moves-in-None-2.ensures
    (omega (arith, c.choose-place.ensures.within, ap length c.moves-in-None.ensures, ap length c.moves-in-None-2.ensures)))

pub make-hazard-requires-clause-enabled : goal.make-hazard-requires-clause-enabled
make-hazard-requires-clause-enabled g c =
    rw c.moves_at.ensures (picked_enabled c.loop-made.stage c.moves-in-None-2.result.now c.choose-place.result 0 c.moves-in-None-2.ensures
    (omega (arith, c.choose-place.ensures.within, ap length c.moves-in-None.ensures, ap length c.moves-in-None-2.ensures)))

pub loop-made-preserved : goal.loop-made-preserved
loop-made-preserved g c =
    let i = c.loop-made.invariant in
    let p = c.choose-place.result in
    let xs = c.moves-in-None-2.result.now in
    let none : end_with c.loop-made.hazard (moves_now c.loop-made.stage) false ≡ None =
    ap (λ (xs : List ℕ). end_with c.loop-made.hazard xs false) (sym c.moves.ensures) ∙ sym c.early_end.ensures ∙ c.in-None.is in
    let first = goal.Picker-dyn g (c.args.picker.now.vtable, c.args.picker.now.value) in
    let later = goal.Picker-dyn g (c.choose-place.new.picker.vtable, c.choose-place.new.picker.value) in
    let mid = goal.Picker-dyn g (c.loop-made.picker.vtable, c.loop-made.picker.value) in
    let made = rw c.moves_at.ensures at c.make-hazard.ensures in
    let listed = moves_are c.args.self i.picked.picks c.loop-made.stage c.loop-made.hazard i.picked.underway in
    let few : length i.picked.picks < c.args.self.steps = omega (arith, i.picked.counted, i.steps, c.loop-made-test.true) in
    let within : p < length (moves_now c.loop-made.stage) = omega (arith, c.choose-place.ensures.within, ap length c.moves-in-None.ensures) in
    let at : get_or xs p 0 ≡ get_or (moves_now c.loop-made.stage) p (get_or xs p 0) = ap (λ (ys : List ℕ). get_or ys p 0) c.moves-in-None-2.ensures
    ∙ any_default (moves_now c.loop-made.stage) p 0 (get_or xs p 0) within in
    record {
      steps = i.steps;
      net = i.net;
      picked = record {
        picks = i.picked.picks ++ p ∷ [];
        grown = c.choose-place.ensures.log ∙ ap (λ (ys : List ℕ). ys ++ p ∷ []) i.picked.grown ∙ append_assoc _ i.picked.picks (p ∷ []);
        counted = length_push i.picked.picks p ∙ ap (λ (k : ℕ). k + 1) i.picked.counted;
        underway = step c.args.self i.picked.picks c.loop-made.stage c.make-hazard.new.self c.loop-made.hazard c.make-hazard.result p (get_or xs p 0)
            i.picked.underway few none within at made.net made.script made.moved made.passed made.room made.hazard;
      };
      asked = asked_on _ (enabled_after c.args.self.net c.args.self.script (start_at c.args.self)) (first.log c.args.picker.now.value)
          (mid.log c.loop-made.picker.value) (later.log c.choose-place.new.picker.value) i.picked.picks p c.args.picker.now c.loop-made.picker
          c.choose-place.new.picker i.picked.grown c.choose-place.ensures.log i.asked (record {
            kind = c.choose-place.ensures.kind;
            choice = c.choose-place.ensures.choice ∙ ap (mid.choice c.loop-made.picker.value) (c.moves-in-None.ensures ∙ listed);
            log = c.choose-place.ensures.log;
            spare = c.choose-place.ensures.spare;
            name = c.choose-place.ensures.name;
            nodes = c.choose-place.ensures.nodes;
            seeded = c.choose-place.ensures.seeded;
          });
      spare = omega (arith, c.choose-place.ensures.spare, i.spare);
      name = c.choose-place.ensures.name ∙ i.name;
      nodes = c.choose-place.ensures.nodes ∙ i.nodes;
      seeded = c.choose-place.ensures.seeded ∙ i.seeded;
      kind = c.choose-place.ensures.kind ∙ i.kind;
    }

pub returns-in-Some : goal.returns-in-Some
returns-in-Some g c =
    let i = c.loop-made.invariant in
    let ended : end_with c.loop-made.hazard (moves_now c.loop-made.stage) false ≡ Some c.in-Some.end =
    ap (λ (xs : List ℕ). end_with c.loop-made.hazard xs false) (sym c.moves.ensures) ∙ sym c.early_end.ensures ∙ c.in-Some.is in
    let goes : (c.loop-made.made == c.args.self.steps) ≡ false = ne_eqb _ _ (omega (arith, i.steps, c.loop-made-test.true)) in
    let fin = finish c.args.self _ _ c.loop-made.made c.loop-made.stage c.loop-made.hazard false c.in-Some.end i.net i.picked goes ended in
    record {
      log = fin.log;
      picks = fin.picks;
      asked = i.asked;
      run = fin.run;
      ends = rw c.ran.ensures fin.ends;
      net = rw c.ran.ensures fin.net;
      moves = rw c.ran.ensures fin.moves;
      done = rw c.ran.ensures fin.done;
      passed = rw c.ran.ensures fin.passed;
      one_length = rw c.ran.ensures fin.one_length;
      spare = rw c.ran.ensures i.spare;
      name = i.name;
      nodes = i.nodes;
      seeded = i.seeded;
      kind = i.kind;
    }

pub returns : goal.returns
returns g c =
    let i = c.loop-made.invariant in
    let ended : end_with c.loop-made.hazard (moves_now c.loop-made.stage) true ≡ Some c.last_end-end.result =
    ap (λ (xs : List ℕ). end_with c.loop-made.hazard xs true) (sym c.moves-2.ensures) ∙ c.last_end-end.ensures in
    let all : c.self.inside.steps ≡ c.loop-made.made = omega (arith, c.loop-made-test.false, c.loop-made.auto.made-end) in
    let spent : (c.loop-made.made == c.args.self.steps) ≡ true = eq-eqb _ _ (omega (arith, i.steps, all)) in
    let fin = finish c.args.self _ _ c.loop-made.made c.loop-made.stage c.loop-made.hazard true c.last_end-end.result i.net i.picked spent ended in
    record {
      log = fin.log;
      picks = fin.picks;
      asked = i.asked;
      run = fin.run;
      ends = rw c.ran-2.ensures fin.ends;
      net = rw c.ran-2.ensures fin.net;
      moves = rw c.ran-2.ensures (all ∙ fin.moves);
      done = rw c.ran-2.ensures fin.done;
      passed = rw c.ran-2.ensures fin.passed;
      one_length = rw c.ran-2.ensures fin.one_length;
      spare = rw c.ran-2.ensures (omega (arith, i.spare, all));
      name = i.name;
      nodes = i.nodes;
      seeded = i.seeded;
      kind = i.kind;
    }
