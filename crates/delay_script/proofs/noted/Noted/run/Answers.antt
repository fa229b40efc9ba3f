use Rattle.std.proofs.Common.{◌≡◌, ◌<◌, ◌≤◌, ◌+◌, ◌*◌, ◌∙◌, ℕ, true, false, Some, None, length, set, ap, sym, subst, arith}
use Rattle.std.specs.Prelude.{◌==◌, vec_len, Option, List}
use Rattle.std.proofs.lemmas.Bool.{ne_eqb, eq-eqb}
use Rattle.std.proofs.lemmas.List.{length_push, length-set}
use Rattle.prs_core.specs.Nets.{NetValue}
use Rattle.delay_script.specs.DelayTables.{DelayTable, IsDelayTable}
use Rattle.delay_script.specs.TimedRuns.{TimedValue, time_behind}
use Rattle.delay_script.specs.declared.due.Due.{Due}
use Rattle.delay_script.specs.declared.due.Next.{Next}
use Rattle.delay_script.specs.Dues.{IsFirstOf, AreFilled, without}
use Rattle.delay_script.proofs.OnTheWay.{begun, next_enabled, step, within_end, finish, due_soon}
use Rattle.delay_script.proofs.noted.Noted.run.Goals as goal

pub loop-made-init : goal.loop-made-init
loop-made-init c =
    let s = c.self.inside in
    record {
      steps = ap (λ (v : TimedValue). v.steps) c.self.view_is;
      net = rw (← c.self.view_is) c.first_hazard-hazard.ensures.net;
      few = rw (← c.self.view_is) c.self.invariant.steps_few;
      table = rw (← c.self.view_is) c.self.invariant.delays;
      delays = ap (λ (v : TimedValue). v.delays) c.self.view_is;
      slots = rw (← c.self.view_is) c.self.invariant.slots_are;
      count = ap length c.self.invariant.none_made;
      way = rw (← c.self.view_is) (begun s.course.stage s.course.delays s.course.queue s.course.moves.items _ s.steps s.high
          c.first_hazard-hazard.result c.self.invariant c.first_hazard-hazard.ensures.hazard);
    }

pub ran-requires-clause-end : goal.ran-requires-clause-end
ran-requires-clause-end c =
    let i = c.loop-made.invariant in
    within_end c.args.self c.loop-made.course.moves.items c.loop-made.course.stage c.loop-made.course.queue c.loop-made.hazard c.take.result false
    c.in-Err.end i.way c.take.ensures.first c.in-Err.ensures.end

pub returns-in-Err-clause-ran : goal.returns-in-Err-clause-ran
returns-in-Err-clause-ran c =
    let i = c.loop-made.invariant in
    let ms = c.loop-made.course.moves.items in
    let goes : (length ms == c.args.self.steps) ≡ false = ne_eqb _ _ (omega (arith, i.count, i.steps, c.loop-made-test.true)) in
    let same : vec_len c.loop-made.course.moves ≡ length ms = omega (arith, c.loop-made.course.moves.ok.0) in
    rw (c.ran.ensures.moves, c.ran.ensures.ran)
    (finish c.args.self ms c.loop-made.course.stage c.loop-made.course.queue c.loop-made.hazard c.take.result false c.in-Err.end _ _ i.way
    c.take.ensures.first goes c.in-Err.ensures.end same (c.ran.ensures.time ∙ ap (time_behind ms) same))

pub returns-in-Err-clause-timed : goal.returns-in-Err-clause-timed
returns-in-Err-clause-timed c = (returns-in-Err-clause-ran c).timed

pub returns-in-Err-clause-run : goal.returns-in-Err-clause-run
returns-in-Err-clause-run c = (returns-in-Err-clause-ran c).run

pub returns-in-Err-clause-ends : goal.returns-in-Err-clause-ends
returns-in-Err-clause-ends c = (returns-in-Err-clause-ran c).ends

pub returns-in-Err-clause-time : goal.returns-in-Err-clause-time
returns-in-Err-clause-time c = (returns-in-Err-clause-ran c).time

pub ran-requires-2-clause-end : goal.ran-requires-2-clause-end
ran-requires-2-clause-end c =
    let i = c.loop-made.invariant in
    within_end c.args.self c.loop-made.course.moves.items c.loop-made.course.stage c.loop-made.course.queue c.loop-made.hazard c.take-2.result true
    c.last_end-end.result i.way c.take-2.ensures.first c.last_end-end.ensures

pub returns-clause-ran : goal.returns-clause-ran
returns-clause-ran c =
    let i = c.loop-made.invariant in
    let ms = c.loop-made.course.moves.items in
    let all : c.self.inside.steps ≡ c.loop-made._made = omega (arith, c.loop-made-test.false, c.loop-made.auto._made-end) in
    let spent : (length ms == c.args.self.steps) ≡ true = eq-eqb _ _ (omega (arith, i.count, i.steps, all)) in
    let same : vec_len c.loop-made.course.moves ≡ length ms = omega (arith, c.loop-made.course.moves.ok.0) in
    rw (c.ran-2.ensures.moves, c.ran-2.ensures.ran)
    (finish c.args.self ms c.loop-made.course.stage c.loop-made.course.queue c.loop-made.hazard c.take-2.result true c.last_end-end.result _ _ i.way
    c.take-2.ensures.first spent c.last_end-end.ensures same (c.ran-2.ensures.time ∙ ap (time_behind ms) same))

pub returns-clause-timed : goal.returns-clause-timed
returns-clause-timed c = (returns-clause-ran c).timed

pub returns-clause-run : goal.returns-clause-run
returns-clause-run c = (returns-clause-ran c).run

pub returns-clause-ends : goal.returns-clause-ends
returns-clause-ends c = (returns-clause-ran c).ends

pub returns-clause-time : goal.returns-clause-time
returns-clause-time c = (returns-clause-ran c).time

pub make-hazard-requires-clause-node : goal.make-hazard-requires-clause-node
make-hazard-requires-clause-node c =
    let i = c.loop-made.invariant in
    let m = c.in-Ok.next in
    let first : IsFirstOf c.loop-made.course.queue (length c.loop-made.course.queue) (Some m) =
    subst (λ (o : Option Next). IsFirstOf c.loop-made.course.queue (length c.loop-made.course.queue) o) c.in-Ok.ensures.next c.take.ensures.first in
    subst (λ (w : NetValue). m.node < length w.first) (sym i.way.net) (omega (arith, first.within, i.way.count))

pub make-hazard-requires-clause-enabled : goal.make-hazard-requires-clause-enabled
make-hazard-requires-clause-enabled c =
    let i = c.loop-made.invariant in
    let m = c.in-Ok.next in
    let first : IsFirstOf c.loop-made.course.queue (length c.loop-made.course.queue) (Some m) =
    subst (λ (o : Option Next). IsFirstOf c.loop-made.course.queue (length c.loop-made.course.queue) o) c.in-Ok.ensures.next c.take.ensures.first in
    next_enabled c.args.self c.loop-made.course.moves.items c.loop-made.course.stage c.loop-made.course.queue c.loop-made.hazard m i.way
    c.in-Ok.ensures.calm first

pub make-hazard-requires-clause-queue : goal.make-hazard-requires-clause-queue
make-hazard-requires-clause-queue c =
    let i = c.loop-made.invariant in
    let m = c.in-Ok.next in
    let rest : c.take.new.self ≡ set c.loop-made.course.queue m.node None =
    c.take.ensures.rest ∙ ap (without c.loop-made.course.queue) c.in-Ok.ensures.next in
    ap length rest ∙ length-set c.loop-made.course.queue m.node None ∙ i.way.count ∙ ap (λ (w : NetValue). length w.first) (sym i.way.net)

pub make-hazard-requires-clause-delays : goal.make-hazard-requires-clause-delays
make-hazard-requires-clause-delays c =
    let i = c.loop-made.invariant in
    subst (λ (d : DelayTable). IsDelayTable (length c.loop-made.course.stage.net.first) d) (sym i.delays)
    (subst (λ (w : NetValue). IsDelayTable (length w.first) c.args.self.delays) (sym i.way.net) i.table)

pub make-hazard-requires-clause-time : goal.make-hazard-requires-clause-time
make-hazard-requires-clause-time c =
    let i = c.loop-made.invariant in
    let m = c.in-Ok.next in
    let ms = c.loop-made.course.moves.items in
    let first : IsFirstOf c.loop-made.course.queue (length c.loop-made.course.queue) (Some m) =
    subst (λ (o : Option Next). IsFirstOf c.loop-made.course.queue (length c.loop-made.course.queue) o) c.in-Ok.ensures.next c.take.ensures.first in
    let soon : m.due.time ≤ (length ms + 1) * 1000000 =
    due_soon c.args.self ms c.loop-made.course.stage c.loop-made.course.queue c.loop-made.hazard m i.way c.in-Ok.ensures.calm first in
    let small : length ms ≤ 1000000 = omega (arith, i.count, i.steps, i.few, c.loop-made-test.true) in
    omega arith

pub loop-made-preserved : goal.loop-made-preserved
loop-made-preserved c =
    let i = c.loop-made.invariant in
    let ms = c.loop-made.course.moves.items in
    let m = c.in-Ok.next in
    let first : IsFirstOf c.loop-made.course.queue (length c.loop-made.course.queue) (Some m) =
    subst (λ (o : Option Next). IsFirstOf c.loop-made.course.queue (length c.loop-made.course.queue) o) c.in-Ok.ensures.next c.take.ensures.first in
    let rest : c.take.new.self ≡ set c.loop-made.course.queue m.node None =
    c.take.ensures.rest ∙ ap (without c.loop-made.course.queue) c.in-Ok.ensures.next in
    let same : vec_len c.loop-made.course.moves ≡ length ms = omega (arith, c.loop-made.course.moves.ok.0) in
    let later = c.make-hazard.new.self.stage in
    let nodes : List ℕ = c.make-hazard.ensures.queue.0 in
    let few : length ms < c.args.self.steps = omega (arith, i.count, i.steps, c.loop-made-test.true) in
    let filled : AreFilled later c.loop-made.course.delays (record { cause = length ms + 1; time = m.due.time }) nodes
    (set c.loop-made.course.queue m.node None) c.make-hazard.new.self.queue =
    subst (λ (was : List (Option Due)). AreFilled later c.loop-made.course.delays (record { cause = length ms + 1; time = m.due.time }) nodes was
    c.make-hazard.new.self.queue) rest
    (subst (λ (k : ℕ). AreFilled later c.loop-made.course.delays (record { cause = k + 1; time = m.due.time }) nodes c.take.new.self
    c.make-hazard.new.self.queue) same c.make-hazard.ensures.queue.2) in
    record {
      steps = i.steps;
      net = i.net;
      few = i.few;
      table = i.table;
      delays = c.make-hazard.ensures.delays ∙ i.delays;
      slots = omega (arith, i.slots, c.make-hazard.ensures.slots);
      count = ap length c.make-hazard.ensures.moves ∙ length_push ms _ ∙ ap (λ (k : ℕ). k + 1) i.count;
      way = rw c.make-hazard.ensures.moves (step c.args.self ms c.loop-made.course.stage later c.loop-made.course.queue c.make-hazard.new.self.queue
          c.loop-made.hazard c.make-hazard.result m i.net i.table i.way few c.in-Ok.ensures.calm first
          (record {
            net = c.make-hazard.ensures.net;
            script = c.make-hazard.ensures.script;
            moves = c.make-hazard.ensures.moved;
            passed = c.make-hazard.ensures.passed;
            room = c.make-hazard.ensures.room;
            nodes = nodes;
            concerned = c.make-hazard.ensures.queue.1;
            filled = subst (λ (d : DelayTable). AreFilled later d (record { cause = length ms + 1; time = m.due.time }) nodes
                (set c.loop-made.course.queue m.node None) c.make-hazard.new.self.queue) i.delays filled;
            hazard = c.make-hazard.ensures.hazard;
          }));
    }
