use Rattle.std.proofs.Common.{take, ap, ◌∙◌}
use Rattle.chp_edge.proofs.Left.{left_on}
use Rattle.chp_edge.proofs.memory.MemShelfShelf.next.Goals as goal

pub returns-clause-bytes : goal.returns-clause-bytes
returns-clause-bytes c =
    left_on c.args.self.now.files.items c.args.self.now.begun c.args.self.now.done c.copy_front-n.result c.copy_front-n.new.piece (c.copy_front-n.ensures.bytes
    ∙ ap (λ xs. take c.copy_front-n.result xs) c.left.ensures)
