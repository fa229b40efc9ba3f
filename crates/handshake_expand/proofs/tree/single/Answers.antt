use Rattle.std.proofs.Common.{◌≡◌, ap, ◌∙◌, arith}
use Rattle.width_check.specs.Typed.{program_of}
use Rattle.width_check.specs.View.{process_of}
use Rattle.handshake_expand.specs.Layout.{size_of}
use Rattle.handshake_expand.specs.Answers.{answer_of}
use Rattle.handshake_expand.specs.PartTree.{part, part_kind, each_tree}
use Rattle.handshake_expand.proofs.Trees.{made_tree}
use Rattle.handshake_expand.proofs.tree.single.Goals as goal

pub returns-clause-part : goal.returns-clause-part
returns-clause-part c =
    let p = program_of c.args.program.now in
    let s = process_of c.args.s.now in
    let count : c.statement_nodes.result ≡ size_of p s = omega (arith, c.statement_nodes.ensures, c.requires.room) in
    made_tree _ c.args.request _ c.args.from _ c.new.result
    ∙ (ap (λ k. part k c.args.request c.answer_node.result c.args.from c.statement_nodes.result (each_tree c.new.result.items)) c.part_kind.ensures
    ∙ (ap (λ n. part (part_kind s) c.args.request n c.args.from c.statement_nodes.result (each_tree c.new.result.items)) c.answer_node.ensures
    ∙ (ap (λ n. part (part_kind s) c.args.request (answer_of p s c.args.from) c.args.from n (each_tree c.new.result.items)) count
    ∙ ap (λ xs. part (part_kind s) c.args.request (answer_of p s c.args.from) c.args.from (size_of p s) (each_tree xs)) c.new.ensures.items)))
