use Rattle.std.proofs.Common.{◌≡◌, drop}
use Rattle.std.specs.Prelude.{option_map}
use Rattle.width_check.specs.Places.{first_width}
use Rattle.width_check.specs.Walk.{capped_width, links_in}
use Rattle.width_check.proofs.scope.Scope.first_width.Given as goal

abbrev pub invariant-loop-link : goal.invariant-loop-link
invariant-loop-link l = option_map capped_width (first_width l.self.decls.now (links_in (drop l.link-index l.links))) ≡
    option_map capped_width (first_width l.self.decls.now (links_in l.links))
