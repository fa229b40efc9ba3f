use Rattle.std.proofs.Common.{◌≡◌, [], Some, take, sym, append-nil}
use Rattle.pace_command.specs.Ends.{words_ask, formless}
use Rattle.pace_command.specs.Names.{pace_asked}
use Rattle.pace_command.proofs.Ending.{stopped_ends, whole_ends, cut_ends}
use Rattle.pace_command.proofs.main_call.run.Goals as goal

pub returns-in_default-clause-ended : goal.returns-in_default-clause-ended
returns-in_default-clause-ended g c = ([], formless (sym c.in_default.ensures), λ told. sym (append-nil _))

pub returns-in-Err-clause-ended : goal.returns-in-Err-clause-ended
returns-in-Err-clause-ended g c =
    let named : words_ask c.args.words.now ≡ Some (pace_asked c.in-Some.asked) = sym c.in-Some.ensures in
    ([], stopped_ends _ _ _ _ (pace_asked c.in-Some.asked) named c.in-Err.stop c.in-Err.ensures.stopped, λ told. sym (append-nil _))

pub returns-in-Ok-write_all-clause-ended : goal.returns-in-Ok-write_all-clause-ended
returns-in-Ok-write_all-clause-ended g c =
    let named : words_ask c.args.words.now ≡ Some (pace_asked c.in-Some.asked) = sym c.in-Some.ensures in
    let output = c.in-Ok.output in
    let text = output.text.items in (
      text,
      whole_ends _ _ _ _ (pace_asked c.in-Some.asked) named output.end text c.in-Ok.ensures.answered,
      rw c.deref.ensures.value at c.in-Ok-write_all.ensures.whole,
    )

pub returns-clause-ended : goal.returns-clause-ended
returns-clause-ended g c =
    let named : words_ask c.args.words.now ≡ Some (pace_asked c.in-Some.asked) = sym c.in-Some.ensures in
    let output = c.in-Ok.output in
    let text = output.text.items in
    let (n, less, put) = rw c.deref.ensures.value at c.in-Err-write_all.ensures.prefix in (
      take n text,
      cut_ends _ _ _ _ (pace_asked c.in-Some.asked) named output.end text n c.in-Ok.ensures.answered less c.in-Err-write_all.ensures.failed,
      put,
    )
