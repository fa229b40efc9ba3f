use Rattle.std.proofs.Common.{◌≡◌, ℕ, [], refl, subst}
use Rattle.command_answers.specs.declared.answer.Stop.{Stop}
use Rattle.command_words.specs.declared.grow_words.Growth.{Growth}
use Rattle.command_words.specs.CommandWords.{asked, compiles}
use Rattle.command_words.specs.CompileWords.{AskedCompilation, compilation_asked}
use Rattle.command_words.proofs.Results.{ok_in}
use Rattle.program_commands.specs.Compiling.{IsFaithfulFile}
use Rattle.program_commands.specs.RepliesTold.{reply_bytes}
use Rattle.command_answers.specs.Answers.{Given, given_by}
use Rattle.grown_commands.specs.Growing.{Grows}
use Rattle.command_steps.specs.Orders.{Played}
use Rattle.command_answers.specs.Replies.{Halts, Stops}
use Rattle.command_steps.proofs.Stopping.{passed_on, stops_where}
use Rattle.bench_commands.proofs.Staying.{all_stay, orders_stay}
use Rattle.chp_cli.proofs.main_call.answer.Goals as goal

-- `grow` has no file
grow_stops : (growth : Growth) (played : Played) (given : Given) (before after : ℕ) (stop : Stop) → Halts (Grows growth played) stop →
    Stops (Grows growth played) [] given before after stop
grow_stops growth played given before after = stops_where (Grows growth played) (Grows growth played) (λ answer is. is) [] given before after

pub returns-in-Compile-clause-answered : goal.returns-in-Compile-clause-answered
returns-in-Compile-clause-answered g c = rw c.in-Compile.is c.compile.ensures.answered

pub returns-in-Compile-clause-carried : goal.returns-in-Compile-clause-carried
returns-in-Compile-clause-carried g c =
    let given = given_by (g.S.Shelf.tells c.args.shelf.now) (g.S.Shelf.holds c.args.shelf.now) in
    let own : asked c.args.command.now ≡ compiles (compilation_asked c.in-Compile.asked) = rw c.in-Compile.is refl in
    ok_in c.compile.result _ _
    (λ reply is compilation named.
    let same : compilation_asked c.in-Compile.asked ≡ compilation = cc (own, named) in
    subst (λ (x : AskedCompilation). IsFaithfulFile x given (reply_bytes reply)) same is)
    c.compile.ensures.carried

pub returns-in-Compile-clause-stopped : goal.returns-in-Compile-clause-stopped
returns-in-Compile-clause-stopped g c = rw c.in-Compile.is c.compile.ensures.stopped

pub returns-in_ok-migrate-in-Migrate-clause-answered : goal.returns-in_ok-migrate-in-Migrate-clause-answered
returns-in_ok-migrate-in-Migrate-clause-answered g c = rw c.in-Migrate.is c.in_ok-migrate-in-Migrate.ensures.answered

pub returns-in_err-migrate-in-Migrate-clause-stopped : goal.returns-in_err-migrate-in-Migrate-clause-stopped
returns-in_err-migrate-in-Migrate-clause-stopped g c =
    rw c.in-Migrate.is (passed_on c.from_residual.result _ _ c.from_residual.ensures.1 c.in_err-migrate-in-Migrate.ensures.stopped)

pub returns-in_ok-check-in-Check-clause-answered : goal.returns-in_ok-check-in-Check-clause-answered
returns-in_ok-check-in-Check-clause-answered g c = rw c.in-Check.is c.in_ok-check-in-Check.ensures.answered

pub returns-in_err-check-in-Check-clause-stopped : goal.returns-in_err-check-in-Check-clause-stopped
returns-in_err-check-in-Check-clause-stopped g c =
    rw c.in-Check.is
    (passed_on c.from_residual-in_err-check-in-Check.result _ _ c.from_residual-in_err-check-in-Check.ensures.1
    c.in_err-check-in-Check.ensures.stopped)

pub returns-in_ok-expand-in-Expand-clause-answered : goal.returns-in_ok-expand-in-Expand-clause-answered
returns-in_ok-expand-in-Expand-clause-answered g c = rw c.in-Expand.is c.in_ok-expand-in-Expand.ensures.answered

pub returns-in_err-expand-in-Expand-clause-stopped : goal.returns-in_err-expand-in-Expand-clause-stopped
returns-in_err-expand-in-Expand-clause-stopped g c =
    rw c.in-Expand.is
    (passed_on c.from_residual-in_err-expand-in-Expand.result _ _ c.from_residual-in_err-expand-in-Expand.ensures.1
    c.in_err-expand-in-Expand.ensures.stopped)

pub returns-in_ok-simulate-in-Simulate-clause-answered : goal.returns-in_ok-simulate-in-Simulate-clause-answered
returns-in_ok-simulate-in-Simulate-clause-answered g c = rw c.in-Simulate.is c.in_ok-simulate-in-Simulate.ensures.answered

pub returns-in_err-simulate-in-Simulate-clause-stopped : goal.returns-in_err-simulate-in-Simulate-clause-stopped
returns-in_err-simulate-in-Simulate-clause-stopped g c =
    rw c.in-Simulate.is
    (passed_on c.from_residual-in_err-simulate-in-Simulate.result _ _ c.from_residual-in_err-simulate-in-Simulate.ensures.1
    c.in_err-simulate-in-Simulate.ensures.stopped)

pub returns-in_ok-simulate-in-Simulate-clause-stay : goal.returns-in_ok-simulate-in-Simulate-clause-stay
returns-in_ok-simulate-in-Simulate-clause-stay g c =
    rw c.in-Simulate.is (orders_stay _ _ _ _ _ _ _ c.simulate.ensures.orders c.simulate.ensures.objects)

pub returns-in_err-simulate-in-Simulate-clause-stay : goal.returns-in_err-simulate-in-Simulate-clause-stay
returns-in_err-simulate-in-Simulate-clause-stay g c =
    rw c.in-Simulate.is (orders_stay _ _ _ _ _ _ _ c.simulate.ensures.orders c.simulate.ensures.objects)

pub simulate-requires : goal.simulate-requires
simulate-requires g c = rw c.in-Simulate.is at c.requires

pub returns-in_ok-time-in-Time-clause-answered : goal.returns-in_ok-time-in-Time-clause-answered
returns-in_ok-time-in-Time-clause-answered g c = rw c.in-Time.is c.in_ok-time-in-Time.ensures.answered

pub returns-in_err-time-in-Time-clause-stopped : goal.returns-in_err-time-in-Time-clause-stopped
returns-in_err-time-in-Time-clause-stopped g c =
    rw c.in-Time.is
    (passed_on c.from_residual-in_err-time-in-Time.result _ _ c.from_residual-in_err-time-in-Time.ensures.1
    c.in_err-time-in-Time.ensures.stopped)

pub time-requires : goal.time-requires
time-requires g c = rw c.in-Time.is at c.requires

pub returns-in_ok-waves-in-Waves-clause-answered : goal.returns-in_ok-waves-in-Waves-clause-answered
returns-in_ok-waves-in-Waves-clause-answered g c = rw c.in-Waves.is c.in_ok-waves-in-Waves.ensures.answered

pub returns-in_err-waves-in-Waves-clause-stopped : goal.returns-in_err-waves-in-Waves-clause-stopped
returns-in_err-waves-in-Waves-clause-stopped g c =
    rw c.in-Waves.is
    (passed_on c.from_residual-in_err-waves-in-Waves.result _ _ c.from_residual-in_err-waves-in-Waves.ensures.1
    c.in_err-waves-in-Waves.ensures.stopped)

pub waves-requires : goal.waves-requires
waves-requires g c = rw c.in-Waves.is at c.requires

pub returns-in_ok-unwave-in-Unwave-clause-answered : goal.returns-in_ok-unwave-in-Unwave-clause-answered
returns-in_ok-unwave-in-Unwave-clause-answered g c = rw c.in-Unwave.is c.in_ok-unwave-in-Unwave.ensures.answered

pub returns-in_err-unwave-in-Unwave-clause-stopped : goal.returns-in_err-unwave-in-Unwave-clause-stopped
returns-in_err-unwave-in-Unwave-clause-stopped g c =
    rw c.in-Unwave.is
    (passed_on c.from_residual-in_err-unwave-in-Unwave.result _ _ c.from_residual-in_err-unwave-in-Unwave.ensures.1
    c.in_err-unwave-in-Unwave.ensures.stopped)

pub returns-in_ok-rounds-in-Run-clause-answered : goal.returns-in_ok-rounds-in-Run-clause-answered
returns-in_ok-rounds-in-Run-clause-answered g c = rw c.in-Run.is c.in_ok-rounds-in-Run.ensures.answered

pub returns-in_err-rounds-in-Run-clause-stopped : goal.returns-in_err-rounds-in-Run-clause-stopped
returns-in_err-rounds-in-Run-clause-stopped g c =
    rw c.in-Run.is
    (passed_on c.from_residual-in_err-rounds-in-Run.result _ _ c.from_residual-in_err-rounds-in-Run.ensures.1
    c.in_err-rounds-in-Run.ensures.stopped)

pub grow-requires : goal.grow-requires
grow-requires g c = rw c.in-Grow.is at c.requires

pub returns-in_ok-grow-in-Grow-clause-answered : goal.returns-in_ok-grow-in-Grow-clause-answered
returns-in_ok-grow-in-Grow-clause-answered g c = rw c.in-Grow.is c.in_ok-grow-in-Grow.ensures.answered

pub returns-in_err-grow-in-Grow-clause-stopped : goal.returns-in_err-grow-in-Grow-clause-stopped
returns-in_err-grow-in-Grow-clause-stopped g c =
    let S = g.S.Shelf in
    let given = given_by (S.tells c.args.shelf.now) (S.holds c.args.shelf.now) in
    let faults = S.faults c.args.shelf.now in
    rw c.in-Grow.is
    (passed_on c.from_residual-in_err-grow-in-Grow.result _ _ c.from_residual-in_err-grow-in-Grow.ensures.1
    (grow_stops c.in-Grow.growth _ given faults faults c.in_err-grow-in-Grow.field-0.0 c.in_err-grow-in-Grow.ensures.stopped))

pub returns-in_ok-grow-in-Grow-clause-stay : goal.returns-in_ok-grow-in-Grow-clause-stay
returns-in_ok-grow-in-Grow-clause-stay g c =
    rw c.in-Grow.is (orders_stay _ _ _ _ _ _ _ c.grow.ensures.orders c.grow.ensures.objects)

pub returns-in_err-grow-in-Grow-clause-stay : goal.returns-in_err-grow-in-Grow-clause-stay
returns-in_err-grow-in-Grow-clause-stay g c =
    rw c.in-Grow.is (orders_stay _ _ _ _ _ _ _ c.grow.ensures.orders c.grow.ensures.objects)

pub bench-requires : goal.bench-requires
bench-requires g c = rw c.in-Bench.is at c.requires

pub returns-in_ok-bench-in-Bench-clause-answered : goal.returns-in_ok-bench-in-Bench-clause-answered
returns-in_ok-bench-in-Bench-clause-answered g c = rw c.in-Bench.is c.in_ok-bench-in-Bench.ensures.answered

pub returns-in_err-bench-in-Bench-clause-stopped : goal.returns-in_err-bench-in-Bench-clause-stopped
returns-in_err-bench-in-Bench-clause-stopped g c =
    rw c.in-Bench.is
    (passed_on c.from_residual-in_err-bench-in-Bench.result _ _ c.from_residual-in_err-bench-in-Bench.ensures.1
    c.in_err-bench-in-Bench.ensures.stopped)

pub returns-in_ok-bench-in-Bench-clause-stay : goal.returns-in_ok-bench-in-Bench-clause-stay
returns-in_ok-bench-in-Bench-clause-stay g c = rw c.in-Bench.is c.bench.ensures.stay

pub returns-in_err-bench-in-Bench-clause-stay : goal.returns-in_err-bench-in-Bench-clause-stay
returns-in_err-bench-in-Bench-clause-stay g c = rw c.in-Bench.is c.bench.ensures.stay

pub returns-in-Compile-clause-stay : goal.returns-in-Compile-clause-stay
returns-in-Compile-clause-stay g c = all_stay _ _ _ _ _ _

pub returns-in_ok-migrate-in-Migrate-clause-stay : goal.returns-in_ok-migrate-in-Migrate-clause-stay
returns-in_ok-migrate-in-Migrate-clause-stay g c = all_stay _ _ _ _ _ _

pub returns-in_err-migrate-in-Migrate-clause-stay : goal.returns-in_err-migrate-in-Migrate-clause-stay
returns-in_err-migrate-in-Migrate-clause-stay g c = all_stay _ _ _ _ _ _

pub returns-in_ok-check-in-Check-clause-stay : goal.returns-in_ok-check-in-Check-clause-stay
returns-in_ok-check-in-Check-clause-stay g c = all_stay _ _ _ _ _ _

pub returns-in_err-check-in-Check-clause-stay : goal.returns-in_err-check-in-Check-clause-stay
returns-in_err-check-in-Check-clause-stay g c = all_stay _ _ _ _ _ _

pub returns-in_ok-expand-in-Expand-clause-stay : goal.returns-in_ok-expand-in-Expand-clause-stay
returns-in_ok-expand-in-Expand-clause-stay g c = all_stay _ _ _ _ _ _

pub returns-in_err-expand-in-Expand-clause-stay : goal.returns-in_err-expand-in-Expand-clause-stay
returns-in_err-expand-in-Expand-clause-stay g c = all_stay _ _ _ _ _ _

pub returns-in_ok-time-in-Time-clause-stay : goal.returns-in_ok-time-in-Time-clause-stay
returns-in_ok-time-in-Time-clause-stay g c = all_stay _ _ _ _ _ _

pub returns-in_err-time-in-Time-clause-stay : goal.returns-in_err-time-in-Time-clause-stay
returns-in_err-time-in-Time-clause-stay g c = all_stay _ _ _ _ _ _

pub returns-in_ok-waves-in-Waves-clause-stay : goal.returns-in_ok-waves-in-Waves-clause-stay
returns-in_ok-waves-in-Waves-clause-stay g c = all_stay _ _ _ _ _ _

pub returns-in_err-waves-in-Waves-clause-stay : goal.returns-in_err-waves-in-Waves-clause-stay
returns-in_err-waves-in-Waves-clause-stay g c = all_stay _ _ _ _ _ _

pub returns-in_ok-unwave-in-Unwave-clause-stay : goal.returns-in_ok-unwave-in-Unwave-clause-stay
returns-in_ok-unwave-in-Unwave-clause-stay g c = all_stay _ _ _ _ _ _

pub returns-in_err-unwave-in-Unwave-clause-stay : goal.returns-in_err-unwave-in-Unwave-clause-stay
returns-in_err-unwave-in-Unwave-clause-stay g c = all_stay _ _ _ _ _ _

pub returns-in_ok-rounds-in-Run-clause-stay : goal.returns-in_ok-rounds-in-Run-clause-stay
returns-in_ok-rounds-in-Run-clause-stay g c = all_stay _ _ _ _ _ _

pub returns-in_err-rounds-in-Run-clause-stay : goal.returns-in_err-rounds-in-Run-clause-stay
returns-in_err-rounds-in-Run-clause-stay g c = all_stay _ _ _ _ _ _

pub returns-in_ok-migrate-in-Migrate-clause-shown : goal.returns-in_ok-migrate-in-Migrate-clause-shown
returns-in_ok-migrate-in-Migrate-clause-shown g c = rw c.in-Migrate.is tt

pub returns-in_ok-check-in-Check-clause-shown : goal.returns-in_ok-check-in-Check-clause-shown
returns-in_ok-check-in-Check-clause-shown g c = rw c.in-Check.is tt

pub returns-in_ok-expand-in-Expand-clause-shown : goal.returns-in_ok-expand-in-Expand-clause-shown
returns-in_ok-expand-in-Expand-clause-shown g c = rw c.in-Expand.is tt

pub returns-in_ok-time-in-Time-clause-shown : goal.returns-in_ok-time-in-Time-clause-shown
returns-in_ok-time-in-Time-clause-shown g c = rw c.in-Time.is tt

pub returns-in_ok-waves-in-Waves-clause-shown : goal.returns-in_ok-waves-in-Waves-clause-shown
returns-in_ok-waves-in-Waves-clause-shown g c = rw c.in-Waves.is tt

pub returns-in_ok-unwave-in-Unwave-clause-shown : goal.returns-in_ok-unwave-in-Unwave-clause-shown
returns-in_ok-unwave-in-Unwave-clause-shown g c = rw c.in-Unwave.is tt

pub returns-in_ok-rounds-in-Run-clause-shown : goal.returns-in_ok-rounds-in-Run-clause-shown
returns-in_ok-rounds-in-Run-clause-shown g c = rw c.in-Run.is tt

pub returns-in-Compile-clause-shown : goal.returns-in-Compile-clause-shown
returns-in-Compile-clause-shown g c = ok_in c.compile.result _ _ (λ reply is. rw c.in-Compile.is tt) c.compile.ensures.carried

pub returns-in_ok-simulate-in-Simulate-clause-shown : goal.returns-in_ok-simulate-in-Simulate-clause-shown
returns-in_ok-simulate-in-Simulate-clause-shown g c = rw c.in-Simulate.is c.in_ok-simulate-in-Simulate.ensures.asked

pub returns-in_ok-bench-in-Bench-clause-shown : goal.returns-in_ok-bench-in-Bench-clause-shown
returns-in_ok-bench-in-Bench-clause-shown g c = rw c.in-Bench.is c.in_ok-bench-in-Bench.ensures.asked

pub returns-in_ok-grow-in-Grow-clause-shown : goal.returns-in_ok-grow-in-Grow-clause-shown
returns-in_ok-grow-in-Grow-clause-shown g c = rw c.in-Grow.is c.in_ok-grow-in-Grow.ensures.asked
