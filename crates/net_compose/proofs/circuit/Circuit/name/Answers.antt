use Rattle.std.proofs.Common.{◌∙◌, [], length, ap, sym, subst, arith}
use Rattle.chp_base.specs.Names.{IsNodeName}
use Rattle.prs_core.specs.Nets.{NetValue, name_at}
use Rattle.net_compose.proofs.circuit.Circuit.name.Goals as goal

pub at-requires : goal.at-requires
at-requires c =
    let count = ap (λ (n : NetValue). length n.first) c.self.view_is in
    omega (arith, count, c.self.invariant.1.named, c.requires)

pub returns-clause-value : goal.returns-clause-value
returns-clause-value c = c.at.ensures ∙ ap (λ (n : NetValue). name_at n c.args.node) c.self.view_is

pub returns-clause-name : goal.returns-clause-name
returns-clause-name c =
    let count = ap (λ (n : NetValue). length n.first) c.self.view_is in
    subst IsNodeName (sym c.at.ensures) (c.self.invariant.1.names c.args.node [] (omega (arith, count, c.self.invariant.1.named, c.requires)))
