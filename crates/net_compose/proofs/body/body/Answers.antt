use Rattle.std.proofs.Common.{◌≡◌, ◌-◌, ◌++◌, sym, ap, ◌∙◌, subst, arith}
use Rattle.width_check.specs.Typed.{program_of}
use Rattle.width_check.specs.Typing.{IsProcess}
use Rattle.width_check.specs.View.{process_of}
use Rattle.handshake_expand.specs.Layout.{size_of, root_request, body_from}
use Rattle.handshake_expand.specs.Sites.{sites_in}
use Rattle.net_compose.specs.Translation.{rules_of, hidden_high}
use Rattle.net_compose.proofs.Raised.{with_raised}
use Rattle.net_compose.specs.Contacts.{every_contact}
use Rattle.net_compose.proofs.body.body.Goals as goal

pub overflow_sub-from : goal.overflow_sub-from
overflow_sub-from c =
    let p = program_of c.args.program.now in
    let is : process_of c.body-body.result.now ≡ p.body = ap process_of c.body-body.ensures.body in
    omega (arith, ap (size_of p) is, c.count_nodes-count.ensures, c.statement_nodes.ensures, c.requires.own, c.requires.few)

pub overflow_cast-from : goal.overflow_cast-from
overflow_cast-from c = omega (arith, c.count_nodes-count.ensures, c.requires.own, c.requires.few)

pub overflow_sub-from-2 : goal.overflow_sub-from-2
overflow_sub-from-2 c =
    let p = program_of c.args.program.now in
    let is : process_of c.body-body.result.now ≡ p.body = ap process_of c.body-body.ensures.body in
    omega (arith, ap (size_of p) is, c.count_nodes-count.ensures, c.statement_nodes.ensures, c.requires.own, c.requires.few)

pub statement-requires-clause-process : goal.statement-requires-clause-process
statement-requires-clause-process c =
    subst (λ s. IsProcess c.args.program.now.channels c.args.program.now.vars (process_of s)) (sym c.body-body.ensures.body) c.body-body.ensures.typed.body_is

pub statement-requires-clause-root : goal.statement-requires-clause-root
statement-requires-clause-root c =
    let p = program_of c.args.program.now in
    let is : process_of c.body-body.result.now ≡ p.body = ap process_of c.body-body.ensures.body in
    omega (arith, ap (size_of p) is, c.count_nodes-count.ensures, c.statement_nodes.ensures, c.requires.own, c.requires.few)

pub statement-requires-clause-own : goal.statement-requires-clause-own
statement-requires-clause-own c =
    let p = program_of c.args.program.now in
    let is : process_of c.body-body.result.now ≡ p.body = ap process_of c.body-body.ensures.body in
    omega (arith, ap (size_of p) is, c.count_nodes-count.ensures, c.statement_nodes.ensures, c.requires.own, c.requires.few)

pub returns-clause-made : goal.returns-clause-made
returns-clause-made c =
    let p = program_of c.args.program.now in
    let is : process_of c.body-body.result.now ≡ p.body = ap process_of c.body-body.ensures.body in
    let from = c.count_nodes-count.result - c.statement_nodes.result in
    let at : from ≡ body_from p = omega (arith, ap (size_of p) is, c.count_nodes-count.ensures, c.statement_nodes.ensures, c.requires.own, c.requires.few) in
    let asked : from - 2 ≡ root_request p = omega (arith, at) in
    c.in_ok-statement.ensures.made
    ∙ (ap (λ l. l ++ rules_of p (process_of c.body-body.result.now) (from - 2) from) c.in_ok-drivers.ensures.items
    ∙ (ap (λ q. rules_of p q (from - 2) from) is
    ∙ (ap (λ n. rules_of p p.body n from) asked
    ∙ ap (rules_of p p.body (root_request p)) at)))

pub returns-clause-contacts : goal.returns-clause-contacts
returns-clause-contacts c =
    let p = program_of c.args.program.now in
    let is : process_of c.body-body.result.now ≡ p.body = ap process_of c.body-body.ensures.body in
    let from = c.count_nodes-count.result - c.statement_nodes.result in
    let at : from ≡ body_from p = omega (arith, ap (size_of p) is, c.count_nodes-count.ensures, c.statement_nodes.ensures, c.requires.own, c.requires.few) in
    c.in_ok-statement.ensures.contacts
    ∙ (ap (λ l. l ++ sites_in p (every_contact p) (process_of c.body-body.result.now) from) c.requires.none
    ∙ (ap (λ q. sites_in p (every_contact p) q from) is
    ∙ ap (sites_in p (every_contact p) p.body) at))

pub returns-clause-first : goal.returns-clause-first
returns-clause-first c =
    let p = program_of c.args.program.now in
    let is : process_of c.body-body.result.now ≡ p.body = ap process_of c.body-body.ensures.body in
    let from = c.count_nodes-count.result - c.statement_nodes.result in
    let at : from ≡ body_from p = omega (arith, ap (size_of p) is, c.count_nodes-count.ensures, c.statement_nodes.ensures, c.requires.own, c.requires.few) in
    c.in_ok-statement.ensures.first
    ∙ (ap (λ q. with_raised c.args.first.now (sites_in p (hidden_high p) q from)) is
    ∙ ap (λ n. with_raised c.args.first.now (sites_in p (hidden_high p) p.body n)) at)
