use Rattle.chp_cli.proofs.Written.{migrate_writes}
use Rattle.chp_cli.proofs.laws.migrates_all.Goals as goal

pub returns : goal.returns
returns c = λ given file told t a is. migrate_writes given file told t a is
