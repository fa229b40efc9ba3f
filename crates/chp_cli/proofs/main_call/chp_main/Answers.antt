use Rattle.std.proofs.Common.{◌≢◌, ◌∙◌, ◌++◌, ℕ, List, ap, sym}
use Rattle.command_answers.specs.declared.status.Status.TheVariants as status
use Rattle.command_answers.specs.Replies.{end_line}
use Rattle.command_answers.specs.Statuses.{has_output, is_whole}
use Rattle.width_check.specs.Processes.{TypedProgram}
use Rattle.chp_cli.specs.CompiledRuns.{IsComparedWith, RunsCompiled}
use Rattle.chp_cli.specs.MadeRuns.{EndsAllAtRest, FollowsRounds}
use Rattle.chp_cli.specs.Resting.{KeepsPaceWith}
use Rattle.chp_cli.specs.Simulated.{HoldsCarrying, HoldsCompiled}
use Rattle.chp_cli.proofs.Ending.{complete_of, read_of, served_of, setting_of, silent_of, usage_of, write_of}
use Rattle.chp_cli.proofs.Calm.{agreed_for, calm_for, reported_for}
use Rattle.chp_cli.proofs.EachCommand.{each_report, run_compiled}
use Rattle.chp_cli.proofs.ServedCompiled.{compiled_done}
use Rattle.chp_cli.proofs.Uncompared.{benched_well, traced_well}
use Rattle.chp_cli.proofs.main_call.chp_main.Goals as goal

pub returns : goal.returns
returns g c =
    let (appended, ends, put) = c.run-end.ensures.ended in
    let s = setting_of ends in
    let same = c.status.ensures in
    let carry : (file : List ℕ) (p : TypedProgram) → HoldsCompiled s.given file p → HoldsCarrying s.given file p = c.compiled_files_carry.ensures s.given in
    let one_length = c.carried_runs_have_one_length.ensures in
    let follow = c.compiled_runs_follow.ensures in
    let rest = c.compiled_runs_rest.ensures in
    let right = c.compiled_files_are_simulated.ensures in
    let calm : (p : TypedProgram) → RunsCompiled s p → c.status.result ≢ status.Hazard = λ p runs is.
    calm_for s.given s.handed s.read s.put p (λ file. carry file p) s.asked runs.file runs.made runs.holds _ _ _
    (λ r carries end text are. c.carried_runs_are_safe.ensures r _ _ p carries end text (c.simulated_right.ensures r _ _ runs.tells end text are))
    (λ t carries end text are. c.timed_runs_are_safe.ensures t _ p carries end text (c.timed_right.ensures t _ runs.tells end text are))
    (λ b carries end text are. c.benched_runs_are_safe.ensures b _ _ p carries end text (c.benched_right.ensures b _ _ runs.tells end text are))
    (λ w carries end text are. c.traced_runs_are_safe.ensures w _ p carries end text (c.traced_right.ensures w _ runs.tells end text are))
    ends (sym same ∙ is) in
    let agreed : (p : TypedProgram) → RunsCompiled s p → IsComparedWith s.asked s.given p → c.status.result ≢ status.Differs = λ p runs compared is.
    agreed_for s.given s.handed s.read s.put p (λ file. carry file p) s.asked runs.file runs.made runs.holds _ _ _
    (λ r carries refers end text are.
    c.carried_runs_agree.ensures r _ _ p runs.tells carries refers end text (c.simulated_right.ensures r _ _ runs.tells end text are))
    (λ t carries refers end text are. c.timed_runs_agree.ensures t _ p runs.tells carries refers end text (c.timed_right.ensures t _ runs.tells end text are))
    (λ b carries end text are.
    let run = c.benched_right.ensures b _ _ runs.tells end text are in
    benched_well run (c.benched_runs_are_safe.ensures b _ _ p carries end text run))
    (λ w carries end text are.
    let run = c.traced_right.ensures w _ runs.tells end text are in
    traced_well run (c.traced_runs_are_safe.ensures w _ p carries end text run))
    compared ends (sym same ∙ is) in
    record {
      promised = record {
        ended = (appended, end_line c.run-end.result, rw same ends, put, c.tell.ensures.said);
        complete = λ answer well are.
            rw same (complete_of s (λ command. c.one_answer.ensures command _ _ well.tells) ends answer are well.read well.written);
        served = λ command well named served.
            rw same (served_of s command named (c.serves_all.ensures command _ _ well.tells served) ends well.read well.written);
        compiled = λ p well served compared.
            let (file, made, holds) = run_compiled s.given p s.handed s.asked served in
            let runs : RunsCompiled s p = record { tells = well.tells; file = file; made = made; holds = holds } in
            compiled_done s.given s.handed p well.tells _ (calm p runs) (agreed p runs compared) (λ r. right.simulated r _ _ p) (λ t. right.timed t _ p)
            (λ b. right.benched b _ _ p) (λ w. right.traced w _ p) s.asked file made holds served compared
            (λ command named is. rw same (served_of s command named (c.serves_all.ensures command _ _ well.tells is) ends well.read well.written));
        usage = λ is. usage_of s ends (sym same ∙ is);
        read = λ is. read_of s ends (sym same ∙ is);
        write = λ is. write_of s ends (sym same ∙ is);
        silent = λ not cut told.
            let none = silent_of s ends (ap is_whole (sym same) ∙ not) (λ is. cut (same ∙ is)) in
            put told ∙ ap (λ xs. g.K.Sink.written c.args.out.now ++ xs) none;
        stay = c.run-end.ensures.stay;
        unasked = rw same c.run-end.ensures.unasked;
        shown = λ command named output. c.run-end.ensures.shown command named (ap has_output (sym same) ∙ output);
        carried = λ compilation named done. c.run-end.ensures.carried compilation named (sym same ∙ done);
        calm = calm;
        agreed = agreed;
        reported = λ p runs whole.
            let (run, is) = reported_for s.given s.handed s.read s.put p (λ file. carry file p) s.asked runs.file runs.made runs.holds _ _ _
            (λ r end text are. c.simulated_right.ensures r _ _ runs.tells end text are) (λ t end text are. c.timed_right.ensures t _ runs.tells end text are)
            (λ b end text are. c.benched_right.ensures b _ _ runs.tells end text are) (λ w end text are. c.traced_right.ensures w _ runs.tells end text are)
            ends (ap is_whole (sym same) ∙ whole) in
            (appended, run, put, record { runs = runs; report = record { end = is.end; ended = same ∙ is.ended; reports = is.reports } });
        longest = λ p text run is.
            each_report s.given p s.handed (λ file h r. EndsAllAtRest r) (λ r h a f. one_length.simulated r _ _ p (carry _ p h) a f)
            (λ t h a f. one_length.timed t _ p (carry _ p h) a f) (λ b h a f. one_length.benched b _ _ p (carry _ p h) a f)
            (λ w h a f. one_length.traced w _ p (carry _ p h) a f) s.asked is.runs.file is.runs.made is.runs.holds _ run is.report.reports;
        follows = λ p text run is.
            each_report s.given p s.handed (λ file h r. FollowsRounds p r) (λ r h a f. follow.simulated r _ _ p h a f) (λ t h a f. follow.timed t _ p h a f)
            (λ b h a f. c.benched_runs_follow.ensures b _ _ p h a f) (λ w h a f. follow.traced w _ p h a f) s.asked is.runs.file is.runs.made
            is.runs.holds _ run is.report.reports;
        keeps_pace = λ p text run is.
            each_report s.given p s.handed (λ file h r. KeepsPaceWith h.reset h.bodies r) (λ r h a f. rest.simulated r _ _ p h a f)
            (λ t h a f. rest.timed t _ p h a f) (λ b h a f. rest.benched b _ _ p h a f) (λ w h a f. rest.traced w _ p h a f) s.asked is.runs.file
            is.runs.made is.runs.holds _ run is.report.reports;
        shelf = c.run-end.ensures.shelf;
        out = c.run-end.ensures.out;
        say = record { same = c.tell.ensures.same; counted = c.tell.ensures.faults };
      };
    }
