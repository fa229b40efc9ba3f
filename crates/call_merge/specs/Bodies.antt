-- Procedures by name, with the numbers of their bodies' forms.
use Rattle.std.specs.Prelude.{List, map}
use Rattle.chp_syntax.specs.Trees.{Procedure}
use Rattle.chp_syntax.specs.View.{procedure_of}
use Rattle.call_merge.specs.declared.bodies.Body.{Body}
use Rattle.call_merge.specs.declared.bodies.Procedures.{Procedures}

abbrev pub procedures_of : List Body → List Procedure
procedures_of bodies = map (λ (b : Body). procedure_of b.procedure) bodies

abbrev pub procedures_in : Procedures → List Procedure
procedures_in p = procedures_of p.bodies.items
