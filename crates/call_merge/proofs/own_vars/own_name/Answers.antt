use Rattle.std.proofs.Common.{rules}
use Rattle.call_merge.specs.CallSplits.{own_name}
use Rattle.call_merge.proofs.OwnNames.{own_name_is_name, made_name}
use Rattle.call_merge.proofs.own_vars.own_name.Goals as goal

pub unwrap-requires : goal.unwrap-requires
unwrap-requires c = made_name c.in_ok-name_of.field-0 c.deref.result.now (own_name c.args.number) c.in_ok-name_of.ensures.none (search rules)
    (own_name_is_name c.args.number c.ranges.number.fits)
