use Rattle.std.proofs.Common.{rules}
use Rattle.delay_script.proofs.OneDelays.{one_table, told_once, told_of_none}
use Rattle.delay_script.proofs.DelayReads.{text_table}
use Rattle.delay_script.proofs.reader.read_delays.Goals as goal

pub new-requires : goal.new-requires
new-requires c = text_table _ c.args.text.now _ _ c.in_ok-read_lines.ensures.read

pub returns-clause-read : goal.returns-clause-read
returns-clause-read c = search rules

pub returns-clause-only : goal.returns-clause-only
returns-clause-only c = λ other is. one_table c.args.net.now.names c.args.text.now other _ is (returns-clause-read c)

pub returns-in_err-read_lines-clause-refused : goal.returns-in_err-read_lines-clause-refused
returns-in_err-read_lines-clause-refused c = search rules

pub returns-in_err-read_lines-clause-first : goal.returns-in_err-read_lines-clause-first
returns-in_err-read_lines-clause-first c = told_once c.args.net.now.names c.args.text.now _ (returns-in_err-read_lines-clause-refused c)

pub returns-in_err-read_lines-clause-none : goal.returns-in_err-read_lines-clause-none
returns-in_err-read_lines-clause-none c = told_of_none c.args.net.now.names c.args.text.now _ (returns-in_err-read_lines-clause-refused c)
