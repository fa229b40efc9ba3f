use Rattle.chp_cli.proofs.RestingRuns.{benched_rests, simulated_rests, timed_rests, traced_rests}
use Rattle.chp_cli.proofs.FilesCompiled.{are_translated}
use Rattle.chp_cli.proofs.FilesPaced.{are_paced, are_paced_reset}
use Rattle.chp_cli.proofs.laws.compiled_runs_rest.Goals as goal

pub returns-clause-simulated : goal.returns-clause-simulated
returns-clause-simulated c =
    simulated_rests c.power_is_powered.ensures c.safe_moves_bring_no_hazard.ensures c.files_as_promised.ensures c.compiled_files_carry.ensures

pub returns-clause-timed : goal.returns-clause-timed
returns-clause-timed c =
    let translated = are_translated c.form_is_typed.ensures in
    timed_rests c.power_is_powered.ensures c.safe_moves_bring_no_hazard.ensures c.files_as_promised.ensures c.compiled_files_carry.ensures
    c.timed_runs_end_in_time.ensures
    (are_paced translated c.shared_nets_are_faithful.ensures c.shared_bodies_keep_time.ensures c.calls_asked.ensures c.calls_typed.ensures
    c.keeps_timed_pace.ensures.every c.keeps_timed_pace.ensures.net)
    (are_paced_reset translated c.shared_nets_are_faithful.ensures c.shared_bodies_keep_time.ensures c.calls_asked.ensures c.calls_typed.ensures
    c.keeps_timed_pace_reset.ensures.every c.keeps_timed_pace_reset.ensures.net)

pub returns-clause-traced : goal.returns-clause-traced
returns-clause-traced c =
    let translated = are_translated c.form_is_typed.ensures in
    traced_rests c.power_is_powered.ensures c.safe_moves_bring_no_hazard.ensures c.files_as_promised.ensures c.compiled_files_carry.ensures
    c.timed_runs_end_in_time.ensures
    (are_paced translated c.shared_nets_are_faithful.ensures c.shared_bodies_keep_time.ensures c.calls_asked.ensures c.calls_typed.ensures
    c.keeps_timed_pace.ensures.every c.keeps_timed_pace.ensures.net)
    (are_paced_reset translated c.shared_nets_are_faithful.ensures c.shared_bodies_keep_time.ensures c.calls_asked.ensures c.calls_typed.ensures
    c.keeps_timed_pace_reset.ensures.every c.keeps_timed_pace_reset.ensures.net)

pub returns-clause-benched : goal.returns-clause-benched
returns-clause-benched c =
    benched_rests c.power_is_powered.ensures c.safe_moves_bring_no_hazard.ensures c.files_as_promised.ensures c.compiled_files_carry.ensures
    c.bench_runs_are_calm.ensures c.bench_rests_are_rests.ensures
