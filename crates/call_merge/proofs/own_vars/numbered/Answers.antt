use Rattle.std.proofs.Common.{List, ℕ, sym, subst}
use Rattle.chp_base.specs.Names.{IsName}
use Rattle.call_merge.proofs.OwnNames.{own_name_is_name}
use Rattle.call_merge.proofs.own_vars.numbered.Goals as goal

pub invariant_of-result-clause-is_name : goal.invariant_of-result-clause-is_name
invariant_of-result-clause-is_name c =
    subst (λ (n : List ℕ). IsName n) (sym c.in_ok-own_name.ensures) (own_name_is_name c.args.number c.ranges.number.fits)
