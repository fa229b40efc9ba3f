use Rattle.std.proofs.Common.{sym, subst}
use Rattle.sharing_check.specs.declared.deeds.Deeds.{Deeds}
use Rattle.sharing_check.specs.Tells.{Merges}
use Rattle.sharing_check.proofs.Orders.{pair_trans}
use Rattle.sharing_check.proofs.LeastLemmas.{least_more}
use Rattle.sharing_check.proofs.deeds.merged.Goals as goal

pub returns : goal.returns
returns c =
    let both : Merges c.into_inner-one.result c.into_inner-other.result c.args.across
    (record { exclusive = c.in_ok-exclusive.exclusive; common = c.in_ok-common.common; clash = c.sooner-clash.result }) = record {
      exclusive = c.in_ok-exclusive.ensures;
      common = c.in_ok-common.ensures;
      clash = least_more pair_trans c.sooner.ensures c.sooner-clash.ensures;
    } in
    subst (λ (d : Deeds). Merges c.args.one.value c.args.other.value c.args.across d) (sym c.in_ok-new.ensures.ok)
    (rw (sym c.into_inner-one.ensures, sym c.into_inner-other.ensures) both)
