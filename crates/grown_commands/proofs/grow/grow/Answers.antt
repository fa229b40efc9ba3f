use Rattle.std.proofs.Common.{◌≡◌, List, true, sym, subst}
use Rattle.event_sim.specs.Asking.{PickerValue}
use Rattle.command_answers.specs.declared.answer.Stop.{Stop}
use Rattle.command_words.specs.declared.grow_words.Growth.{Growth}
use Rattle.command_answers.specs.Answers.{Answer}
use Rattle.grown_commands.specs.Growing.{AsksGrown, Grows, GrowsTo}
use Rattle.command_steps.specs.Orders.{Played}
use Rattle.command_answers.specs.Replies.{Halts}
use Rattle.grown_commands.specs.Summing.{AsksSum, Summarizes}
use Rattle.simulation_commands.proofs.Keeping.{unplayed}
use Rattle.command_steps.proofs.Stopping.{err_in, halts_in}
use Rattle.command_words.proofs.Results.{ok_in}
use Rattle.grown_commands.proofs.grow.grow.Goals as goal

-- where a summary is wanted, it is what `grow` answers
sums : (growth : Growth) (played : Played) (answer : Answer) → growth.sum ≡ true → Summarizes growth played answer → Grows growth played answer
sums growth played answer wanted is = subst (λ sum. GrowsTo sum growth played answer) (sym wanted) is

sums_halt : (growth : Growth) (played : Played) (stop : Stop) → growth.sum ≡ true → Halts (Summarizes growth played) stop → Halts (Grows growth played) stop
sums_halt growth played stop wanted =
    halts_in (Summarizes growth played) (Grows growth played) (λ answer is. sums growth played answer wanted is) stop

sums_ask : {P K : Type 0} (known : P → PickerValue K) (growth : Growth) (before after : List P) → growth.sum ≡ true → AsksSum known growth before after →
    AsksGrown growth.sum known growth before after
sums_ask known growth before after wanted is = subst (λ sum. AsksGrown sum known growth before after) (sym wanted) is

pub returns-then-growth-clause-answered : goal.returns-then-growth-clause-answered
returns-then-growth-clause-answered g c =
    ok_in c.sum_up.result _ _ (λ output is. sums c.args.growth.now _ _ c.if-growth.true is) c.sum_up.ensures.answered

pub returns-then-growth-clause-stopped : goal.returns-then-growth-clause-stopped
returns-then-growth-clause-stopped g c =
    err_in c.sum_up.result _ _ (λ stop halts. sums_halt c.args.growth.now _ stop c.if-growth.true halts) c.sum_up.ensures.stopped

pub returns-then-growth-clause-orders : goal.returns-then-growth-clause-orders
returns-then-growth-clause-orders g c = rw c.if-growth.true c.sum_up.ensures.orders

pub returns-else-growth-clause-answered : goal.returns-else-growth-clause-answered
returns-else-growth-clause-answered g c = rw c.if-growth.false c.grown.ensures.answered

pub returns-else-growth-clause-stopped : goal.returns-else-growth-clause-stopped
returns-else-growth-clause-stopped g c = rw c.if-growth.false c.grown.ensures.stopped

pub returns-else-growth-clause-orders : goal.returns-else-growth-clause-orders
returns-else-growth-clause-orders g c = unplayed _ _

pub returns-then-growth-clause-objects : goal.returns-then-growth-clause-objects
returns-then-growth-clause-objects g c = rw c.if-growth.true c.sum_up.ensures.objects

pub returns-then-growth-clause-asked : goal.returns-then-growth-clause-asked
returns-then-growth-clause-asked g c =
    ok_in c.sum_up.result _ _ (λ output asks. sums_ask _ c.args.growth.now _ _ c.if-growth.true asks) c.sum_up.ensures.asked

pub returns-else-growth-clause-asked : goal.returns-else-growth-clause-asked
returns-else-growth-clause-asked g c = ok_in c.grown.result _ _ (λ output is. rw c.if-growth.false tt) c.grown.ensures.answered
