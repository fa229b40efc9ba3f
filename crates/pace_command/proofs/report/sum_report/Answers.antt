use Rattle.width_check.specs.Typed.{program_of as typed_of}
use Rattle.pace_command.specs.Pacing.{pace_text, whole_sum}
use Rattle.pace_command.proofs.Bounds.{told_behind}
use Rattle.pace_command.proofs.report.sum_report.Goals as goal

pub returns : goal.returns
returns c =
    let plain = typed_of c.args.plain.now in
    let script = c.args.script.now in
    let rounds = c.in_ok-run.run'.rounds in
    let before = c.in_ok-text.ensures in
    record {
      of = record {
        count = rounds;
        sum = c.compiled.result;
        made = record { few = c.in_ok-run.ensures.few; ends = c.in_ok-run.ensures.ends; goes_on = c.in_ok-run.ensures.goes_on };
        sums = c.compiled.ensures (whole_sum plain script rounds) (c.whole_sum-sum.ensures script c.in_ok-run.ensures.sum);
      };
      report = record {
        bound = before.bound;
        bounds = before.bounds;
        way = before.way;
        lies = before.lies;
        told = told_behind _ _ _ (pace_text plain before.bound before.way) c.in_ok-add_sum.ensures before.told;
      };
    }
