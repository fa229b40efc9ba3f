use Rattle.chp_base.proofs.NameKeyLemmas.{begun}
use Rattle.chp_base.proofs.symbols.Symbols.new.Goals as goal

pub invariant_of-result : goal.invariant_of-result
invariant_of-result c = begun c.new.result c.new-2.result c.new.ensures.empty c.new-2.ensures.empty
