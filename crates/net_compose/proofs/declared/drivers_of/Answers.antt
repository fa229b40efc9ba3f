use Rattle.std.proofs.Common.{◌≡◌, ◌-◌, ap, arith}
use Rattle.width_check.specs.Typed.{program_of}
use Rattle.width_check.specs.View.{process_of}
use Rattle.handshake_expand.specs.Layout.{size_of, body_from}
use Rattle.net_compose.specs.Translation.{body_answer}
use Rattle.net_compose.proofs.Composed.{root_answer}
use Rattle.net_compose.proofs.AllDriven.{all_driven}
use Rattle.net_compose.proofs.declared.drivers_of.Goals as goal

pub returns-clause-made : goal.returns-clause-made
returns-clause-made c =
    let p = program_of c.args.program.now in
    let is : process_of c.body-statement.result.now ≡ p.body = ap process_of c.body-statement.ensures.body in
    let from = c.count_nodes.result - c.statement_nodes.result in
    let at : from ≡ body_from p = omega (arith, ap (size_of p) is, c.count_nodes.ensures, c.statement_nodes.ensures, c.requires.own, c.requires.few) in
    let answered : c.answer_node-answer.result ≡ body_answer p =
    root_answer p (process_of c.body-statement.result.now) from c.answer_node-answer.result is at c.answer_node-answer.ensures in
    all_driven p (from - 1) c.answer_node-answer.result c.len-own.result c.in_ok-drivers.drivers.items c.declare.new.drivers.items
    c.rotate_left.new.self.items (omega (arith, at)) answered c.in_ok-drivers.ensures.made
    (omega (arith, c.len-own.ensures, c.in_ok-drivers.drivers.ok.0)) c.in_ok-declare.ensures c.rotate_left.ensures.items
