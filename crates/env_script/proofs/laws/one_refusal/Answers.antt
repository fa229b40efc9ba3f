use Rattle.env_script.proofs.OneReading.{no_script, one_refusal}
use Rattle.env_script.proofs.laws.one_refusal.Goals as goal

pub returns-clause-none : goal.returns-clause-none
returns-clause-none c = no_script

pub returns-clause-only : goal.returns-clause-only
returns-clause-only c = one_refusal
