use Rattle.std.proofs.Common.{◌∷◌, rules}
use Rattle.std.specs.Prelude.{decimal}
use Rattle.slack_buffer.proofs.FreeNames.{numbered_is_name, made_name}
use Rattle.slack_buffer.proofs.names.numbered.Goals as goal

pub unwrap-requires : goal.unwrap-requires
unwrap-requires c = made_name c.in_ok-name_of.field-0 c.deref.result.now (c.args.first ∷ decimal c.args.number) c.in_ok-name_of.ensures.none (search rules)
    (numbered_is_name c.args.first c.args.number c.requires c.ranges.number.fits)
