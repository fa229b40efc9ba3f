use Rattle.std.proofs.Common.{ap, Err}
use Rattle.command_steps.proofs.Stopping.{unread_file, longer_file}
use Rattle.command_steps.proofs.files.text_of_file.Goals as goal

pub returns-in-Err-Failed-clause-stopped : goal.returns-in-Err-Failed-clause-stopped
returns-in-Err-Failed-clause-stopped g c = unread_file _ _ c.args.most _ _ (c.in-Err-Failed.ensures.failed (ap (λ e. Err e) c.in-Err-Failed.field-0-is))

pub returns-in-Err-TooLong-clause-stopped : goal.returns-in-Err-TooLong-clause-stopped
returns-in-Err-TooLong-clause-stopped g c = longer_file _ _ c.args.most (c.in-Err-TooLong.ensures.too_long (ap (λ e. Err e) c.in-Err-TooLong.field-0-is))
