use Rattle.std.proofs.Common.{◌≡◌, ◌≢◌, [], Some, None, true, rules, take, refl, sym, append-nil}
use Rattle.command_words.specs.CommandWords.{asked, asked_by, compiles}
use Rattle.command_answers.specs.declared.answer.Stop.{Stop}
use Rattle.command_answers.specs.declared.answer.Stop.TheVariants as stopped
use Rattle.command_answers.specs.declared.status.Status.{Status}
use Rattle.command_answers.specs.declared.status.Status.TheVariants.{Done, RefusedText, Usage, Read, Write, Hazard, NoMemory, TooLarge, BadFile, NoOrder, NoChannel, NoPeer, Differs}
use Rattle.command_answers.specs.Replies.{refusal_status, stop_status}
use Rattle.chp_cli.specs.Ends.{formless, whole, cut_off, no_memory}
use Rattle.program_commands.specs.RepliesTold.{reply_bytes, reply_end, told_reply}
use Rattle.command_answers.specs.Statuses.{has_output, is_refusing}
use Rattle.command_answers.proofs.StatusKinds.{no_refusal, refusing_status}
use Rattle.chp_cli.proofs.Ending.{answers_of, stopped_ends}
use Rattle.bench_commands.proofs.Staying.{all_stay}
use Rattle.chp_cli.proofs.main_call.run.Goals as goal

pub returns-in-Ok-None-clause-ended : goal.returns-in-Ok-None-clause-ended
returns-in-Ok-None-clause-ended g c =
    let none : asked_by c.args.words.now ≡ None = search rules in
    ([], formless none, λ told. sym (append-nil _))

pub returns-in-Err-clause-ended : goal.returns-in-Err-clause-ended
returns-in-Err-clause-ended g c = ([], no_memory, λ told. sym (append-nil _))

pub returns-in-Err-answer-clause-ended : goal.returns-in-Err-answer-clause-ended
returns-in-Err-answer-clause-ended g c =
    let named : asked_by c.args.words.now ≡ Some (asked c.in-Ok-Some.command) = search rules in
    ([], stopped_ends _ (asked c.in-Ok-Some.command) named c.in-Err-answer.stop c.in-Err-answer.ensures.stopped, λ told. sym (append-nil _))

pub returns-in-Ok-write-clause-ended : goal.returns-in-Ok-write-clause-ended
returns-in-Ok-write-clause-ended g c =
    let named : asked_by c.args.words.now ≡ Some (asked c.in-Ok-Some.command) = search rules in
    let reply = c.in-Ok.reply in
    let bytes = reply_bytes reply in (
      bytes,
      rw c.end-end.ensures (whole (reply_end reply) bytes (answers_of _ _ _ (asked c.in-Ok-Some.command) (told_reply reply) named c.in-Ok.ensures.answered)),
      c.in-Ok-write.ensures.whole,
    )

pub returns-clause-ended : goal.returns-clause-ended
returns-clause-ended g c =
    let K = g.K.Sink in
    let named : asked_by c.args.words.now ≡ Some (asked c.in-Ok-Some.command) = search rules in
    let reply = c.in-Ok.reply in
    let bytes = reply_bytes reply in
    let prefix = c.in-Err-write.ensures.prefix in (
      take prefix.0 bytes,
      cut_off (reply_end reply) bytes prefix.0 (answers_of _ _ _ (asked c.in-Ok-Some.command) (told_reply reply) named c.in-Ok.ensures.answered)
          prefix.1 c.in-Err-write.ensures.failed,
      prefix.2,
    )

-- where it isn't all written, it doesn't end well
stop_not_done : (stop : Stop) → stop_status stop ≢ Done
stop_not_done (stopped.Refused r) = no_refusal (refusal_status r) Done (refusing_status r) refl
stop_not_done (stopped.Unread name) = λ e. cc
stop_not_done stopped.NoMemory = λ e. cc

pub returns-in-Err-answer-clause-carried : goal.returns-in-Err-answer-clause-carried
returns-in-Err-answer-clause-carried g c = λ compilation named done. absurd (stop_not_done c.in-Err-answer.stop done)

pub returns-in-Ok-write-clause-carried : goal.returns-in-Ok-write-clause-carried
returns-in-Ok-write-clause-carried g c = λ compilation named done.
    let own : asked_by c.args.words.now ≡ Some (asked c.in-Ok-Some.command) = search rules in
    let same : asked c.in-Ok-Some.command ≡ compiles compilation = cc (own, named) in
    (reply_bytes c.in-Ok.reply, c.in-Ok-write.ensures.whole, c.in-Ok.ensures.carried compilation same)

-- nor is there an output where it stops
refuses_no_output : (status : Status) → is_refusing status ≡ true → ¬ (has_output status ≡ true)
refuses_no_output Done r w = cc r
refuses_no_output Hazard r w = cc r
refuses_no_output Differs r w = cc r
refuses_no_output Write r w = cc r
refuses_no_output RefusedText r w = cc w
refuses_no_output TooLarge r w = cc w
refuses_no_output BadFile r w = cc w
refuses_no_output NoOrder r w = cc w
refuses_no_output NoChannel r w = cc w
refuses_no_output NoPeer r w = cc w
refuses_no_output Usage r w = cc w
refuses_no_output Read r w = cc w
refuses_no_output NoMemory r w = cc w

no_output : (stop : Stop) → ¬ (has_output (stop_status stop) ≡ true)
no_output (stopped.Refused r) = refuses_no_output (refusal_status r) (refusing_status r)
no_output (stopped.Unread name) = λ w. cc
no_output stopped.NoMemory = λ w. cc

pub returns-in-Err-answer-clause-shown : goal.returns-in-Err-answer-clause-shown
returns-in-Err-answer-clause-shown g c = λ command named output. absurd (no_output c.in-Err-answer.stop output)

pub returns-clause-shown : goal.returns-clause-shown
returns-clause-shown g c = λ command named output.
    let own : asked_by c.args.words.now ≡ Some (asked c.in-Ok-Some.command) = search rules in
    let same : asked c.in-Ok-Some.command ≡ command = cc (own, named) in
    rw (← same) c.in-Ok.ensures.shown

pub returns-in-Ok-write-clause-shown : goal.returns-in-Ok-write-clause-shown
returns-in-Ok-write-clause-shown g c = λ command named output.
    let own : asked_by c.args.words.now ≡ Some (asked c.in-Ok-Some.command) = search rules in
    let same : asked c.in-Ok-Some.command ≡ command = cc (own, named) in
    rw (← same) c.in-Ok.ensures.shown

pub returns-in-Err-answer-clause-stay : goal.returns-in-Err-answer-clause-stay
returns-in-Err-answer-clause-stay g c =
    let named : asked_by c.args.words.now ≡ Some (asked c.in-Ok-Some.command) = search rules in
    rw named c.answer.ensures.stay

pub returns-in-Ok-write-clause-stay : goal.returns-in-Ok-write-clause-stay
returns-in-Ok-write-clause-stay g c =
    let named : asked_by c.args.words.now ≡ Some (asked c.in-Ok-Some.command) = search rules in
    rw named c.answer.ensures.stay

pub returns-clause-stay : goal.returns-clause-stay
returns-clause-stay g c =
    let named : asked_by c.args.words.now ≡ Some (asked c.in-Ok-Some.command) = search rules in
    rw named c.answer.ensures.stay

pub returns-in-Ok-None-clause-stay : goal.returns-in-Ok-None-clause-stay
returns-in-Ok-None-clause-stay g c = all_stay _ _ _ _ _ _

pub returns-in-Err-clause-stay : goal.returns-in-Err-clause-stay
returns-in-Err-clause-stay g c = all_stay _ _ _ _ _ _
