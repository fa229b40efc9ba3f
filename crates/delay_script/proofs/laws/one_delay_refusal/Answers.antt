use Rattle.delay_script.proofs.OneDelays.{no_text, one_refusal}
use Rattle.delay_script.proofs.laws.one_delay_refusal.Goals as goal

pub returns-clause-none : goal.returns-clause-none
returns-clause-none c = no_text

pub returns-clause-only : goal.returns-clause-only
returns-clause-only c = one_refusal
