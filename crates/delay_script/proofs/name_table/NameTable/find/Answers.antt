use Rattle.std.proofs.Common.{◌∙◌}
use Rattle.delay_script.proofs.TableNames.{none_found}
use Rattle.delay_script.proofs.name_table.NameTable.find.Goals as goal

pub returns-clause-none : goal.returns-clause-none
returns-clause-none c =
    none_found c.self.inside.names.now c.args.self.now c.args.name.now c.bytes.result.now c.copied.result _ c.self.view_is c.bytes.ensures.bytes
    (c.copied.ensures ∙ c.get.ensures.value) (c.self.invariant c.bytes.result.now)
