use Rattle.prs_file.proofs.NetTaken.{never_refused}
use Rattle.prs_file.proofs.NotRefused.{one_cause}
use Rattle.prs_file.proofs.laws.one_refusal.Goals as goal

pub returns-clause-once : goal.returns-clause-once
returns-clause-once c = λ text f g l m one two. one_cause text f g l m one two

pub returns-clause-never : goal.returns-clause-never
returns-clause-never c = λ text net f l is spelled refused. never_refused net text f l is spelled refused
