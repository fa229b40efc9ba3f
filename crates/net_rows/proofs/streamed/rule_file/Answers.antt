use Rattle.width_check.specs.Typed.{program_of}
use Rattle.net_rows.proofs.MadeNets.{made_plain, made_free}
use Rattle.net_rows.proofs.streamed.rule_file.Goals as goal

pub printed-requires-clause-plain : goal.printed-requires-clause-plain
printed-requires-clause-plain c = made_plain (program_of c.deref.result.now) c.translate.result c.translate.ensures.net

pub printed-requires-clause-free : goal.printed-requires-clause-free
printed-requires-clause-free c = made_free (program_of c.deref.result.now) c.translate.result c.translate.ensures.net
