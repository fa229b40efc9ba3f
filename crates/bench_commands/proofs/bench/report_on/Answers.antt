use Rattle.std.proofs.Common.{◌∙◌, ◌<◌, None, length, refl, sym, ap, subst, arith}
use Rattle.peer_bench.specs.Benches.{SetupValue}
use Rattle.simulation_commands.proofs.Keeping.{log_same}
use Rattle.event_sim.specs.Simulating.{RanValue}
use Rattle.command_answers.specs.Replies.{told_answer}
use Rattle.command_words.proofs.Results.{ok_in}
use Rattle.run_reports.specs.RunReporting.{IsReported}
use Rattle.bench_commands.proofs.Running.{asked_as, keeps_as, objects_as, reported_as, run_asked, run_keeps, run_objects, run_reported}
use Rattle.bench_commands.proofs.bench.report_on.Goals as goal

pub returns-clause-answered : goal.returns-clause-answered
returns-clause-answered g c =
    let bench = c.in-Ok.bench in
    let benched = c.run-benched.result in
    let e = c.run-benched.ensures in
    let within : bench.which < length bench.peers.items = omega (arith, bench.within, bench.peers.ok.0) in
    let first = goal.Picker-dyn g (c.args.picker.now.vtable, c.args.picker.now.value) in
    let last = goal.Picker-dyn g (c.run-benched.new.picker.vtable, c.run-benched.new.picker.value) in
    ok_in c.uncompared-output.result _ _
    (λ output is. reported_as _ (ap (λ v. v.items) (sym c.replace-taken.ensures.value) ∙ sym c.in-Ok.ensures.peers) c.into_peers.ensures
    (sym c.in-Ok.ensures.which) (sym c.in-Ok.ensures.setup)
    (run_reported _ bench.peers.items benched.peers.items bench.which within e.count bench.setup (first.log c.args.picker.now.value)
    (last.log c.run-benched.new.picker.value) benched.ran e.noted e.run (told_answer output) e.log
    (λ script. subst (λ (r : RanValue). IsReported script None r None (told_answer output)) c.ran.ensures (is script)))) c.uncompared-output.ensures

pub returns-clause-peers : goal.returns-clause-peers
returns-clause-peers g c =
    let bench = c.in-Ok.bench in
    let benched = c.run-benched.result in
    let e = c.run-benched.ensures in
    let within : bench.which < length bench.peers.items = omega (arith, bench.within, bench.peers.ok.0) in
    let first = goal.Picker-dyn g (c.args.picker.now.vtable, c.args.picker.now.value) in
    let last = goal.Picker-dyn g (c.run-benched.new.picker.vtable, c.run-benched.new.picker.value) in
    keeps_as _ (ap (λ v. v.items) (sym c.replace-taken.ensures.value) ∙ sym c.in-Ok.ensures.peers) c.into_peers.ensures (sym c.in-Ok.ensures.which)
    (run_keeps _ bench.peers.items benched.peers.items bench.which within e.count bench.setup
    (first.log c.args.picker.now.value) (last.log c.run-benched.new.picker.value) benched.ran e.noted e.run e.others)

pub returns-clause-peer_objects : goal.returns-clause-peer_objects
returns-clause-peer_objects g c =
    let bench = c.in-Ok.bench in
    let benched = c.run-benched.result in
    objects_as bench.peers.items benched.peers.items _ _ bench.which _ (ap (λ v. v.items) (sym c.replace-taken.ensures.value) ∙ sym c.in-Ok.ensures.peers)
    c.into_peers.ensures (sym c.in-Ok.ensures.which)
    (run_objects bench.peers.items benched.peers.items bench.which c.run-benched.ensures.kinds c.run-benched.ensures.others)

pub returns-clause-asked : goal.returns-clause-asked
returns-clause-asked g c =
    let bench = c.in-Ok.bench in
    let benched = c.run-benched.result in
    let e = c.run-benched.ensures in
    let within : bench.which < length bench.peers.items = omega (arith, bench.within, bench.peers.ok.0) in
    ok_in c.uncompared-output.result _ _
    (λ output is. asked_as _ (ap (λ v. v.items) (sym c.replace-taken.ensures.value) ∙ sym c.in-Ok.ensures.peers) c.into_peers.ensures
    (sym c.in-Ok.ensures.which) (ap (λ (v : SetupValue). v.net) (sym c.in-Ok.ensures.setup)) _
    (run_asked _ bench.peers.items benched.peers.items bench.which within e.count bench.setup.net _ e.asked)) c.uncompared-output.ensures

pub returns-clause-grown : goal.returns-clause-grown
returns-clause-grown g c = c.run-benched.ensures.log

pub returns-in-Err-clause-grown : goal.returns-in-Err-clause-grown
returns-in-Err-clause-grown g c = log_same _ _ refl
