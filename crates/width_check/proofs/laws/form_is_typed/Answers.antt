use Rattle.width_check.proofs.TypedForm.{program_typed}
use Rattle.width_check.proofs.laws.form_is_typed.Goals as goal

pub returns : goal.returns
returns r p shaped none = program_typed p shaped none
