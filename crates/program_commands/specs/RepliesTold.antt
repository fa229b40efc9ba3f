-- What is written of a reply, and the answer that it amounts to. A rule file, which is made while it is written, always
-- ends well.
use Rattle.std.specs.Prelude.{◌≡◌, ℕ, List, Result, Ok, Err}
use Rattle.command_answers.specs.declared.answer.Ending.{Ending}
use Rattle.command_answers.specs.declared.answer.Ending.TheVariants.{Done}
use Rattle.command_answers.specs.declared.answer.Refusal.TheVariants as refusal
use Rattle.command_answers.specs.declared.answer.Stop.{Stop}
use Rattle.command_answers.specs.declared.answer.Stop.TheVariants as stop
use Rattle.net_compose.specs.declared.net.NetError.{NetError}
use Rattle.net_compose.specs.declared.net.NetError.TheVariants as error
use Rattle.program_commands.specs.declared.reply.Reply.{Reply}
use Rattle.program_commands.specs.declared.reply.Reply.TheVariants.{Held, Made}
use Rattle.command_answers.specs.Answers.{Answer, writes}

abbrev pub reply_bytes : Reply → List ℕ
reply_bytes (Held output) = output.text.items
reply_bytes (Made streamer piece) = streamer

abbrev pub reply_end : Reply → Ending
reply_end (Held output) = output.end
reply_end (Made streamer piece) = Done

abbrev pub told_reply : Reply → Answer
told_reply reply = writes (reply_end reply) (reply_bytes reply)

-- what stops a command for which there is no net, or no memory to write it
abbrev pub StopsFor : {T : Type 0} → Result T NetError → Stop → Type 0
StopsFor (Err (error.TooManyNodes count)) s = s ≡ stop.Refused (refusal.TooManyNodes count)
StopsFor _ s = s ≡ stop.NoMemory
