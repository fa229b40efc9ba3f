use Rattle.std.proofs.Common.{arith}
use Rattle.std.proofs.lemmas.List.{drop_all}
use Rattle.chp_syntax.proofs.Programs.{first_fault, none_at_all, reads_it, reads_only}
use Rattle.chp_syntax.proofs.parser.parse_tokens.Goals as goal

pub returns-in-Ok-clause-reads : goal.returns-in-Ok-clause-reads
returns-in-Ok-clause-reads c =
    reads_it (drop_all c.program.new.at c.args.tokens.now (omega (arith, c.in-Ok.ensures.whole))) c.in-Ok.ensures.good

pub returns-in-Ok-clause-only : goal.returns-in-Ok-clause-only
returns-in-Ok-clause-only c =
    reads_only (drop_all c.program.new.at c.args.tokens.now (omega (arith, c.in-Ok.ensures.whole))) c.in-Ok.ensures.good

pub returns-in-Err-Fault-clause-fault : goal.returns-in-Err-Fault-clause-fault
returns-in-Err-Fault-clause-fault c =
    first_fault c.program.new.at c.args.tokens.now c.in-Err-Fault.ensures.within (rw c.in-Err-Fault.field-0-is at c.in-Err-Fault.ensures.bad)

pub returns-in-Err-Fault-clause-none : goal.returns-in-Err-Fault-clause-none
returns-in-Err-Fault-clause-none c = none_at_all (rw c.in-Err-Fault.field-0-is at c.in-Err-Fault.ensures.bad)
