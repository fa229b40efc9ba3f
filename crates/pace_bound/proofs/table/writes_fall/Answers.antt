use Rattle.std.proofs.lemmas.Result.{IfOk-weaker}
use Rattle.width_check.specs.Typed.{program_of}
use Rattle.pace_bound.proofs.Holding.{write_sites}
use Rattle.pace_bound.proofs.Ending.{same_table}
use Rattle.pace_bound.proofs.table.writes_fall.Goals as goal

pub returns : goal.returns
returns c =
    let P = program_of c.args.program.now in
    IfOk-weaker c.noted_table.result _ _ (λ v is. same_table _ _ _ v.items is (λ k. write_sites P k 2 1 P.body)) (rw c.vars.ensures at c.noted_table.ensures)
