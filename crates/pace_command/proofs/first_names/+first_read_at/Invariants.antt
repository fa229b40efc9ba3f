use Rattle.std.proofs.Common.{◌≡◌, drop}
use Rattle.width_check.specs.View.{formula_of}
use Rattle.handshake_expand.proofs.Rows.{parts_of, links_of}
use Rattle.pace_command.specs.FirstNames.{first_read_at, part_read_at, operand_read_at}
use Rattle.pace_command.proofs.first_names.+first_read_at.Given as goal

abbrev pub invariant-loop-part : goal.invariant-loop-part
invariant-loop-part l = first_read_at (formula_of l.fn.e) ≡ part_read_at (parts_of (drop l.part-index l.part-items))

abbrev pub invariant-loop-link : goal.invariant-loop-link
invariant-loop-link l = first_read_at (formula_of l.fn.e) ≡ operand_read_at (links_of (drop l.link-index l.link-items))
