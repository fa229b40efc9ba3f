use Rattle.std.proofs.Common.{suc, ap, ◌∙◌, Bor}
use Rattle.width_check.specs.declared.typed.TStmt.{TStmt}
use Rattle.width_check.specs.Typed.{program_of}
use Rattle.width_check.specs.View.{process_of}
use Rattle.handshake_expand.specs.Layout.{capped}
use Rattle.chp_meaning.specs.Ends.{seen}
use Rattle.pace_bound.proofs.Summed.{phases_listed}
use Rattle.pace_bound.proofs.rounds.round_moves.Goals as goal

pub returns-clause-moves : goal.returns-clause-moves
returns-clause-moves c =
    let t = c.args.program.now in
    rw c.deref.ensures.value at c.moves_of.ensures
    ∙ ap (λ n. capped (suc n)) (phases_listed (program_of t) (seen t c.args.config.now) (λ (s : Bor TStmt). process_of s.now) c.in_ok-steps.steps.items
    c.in_ok-steps.ensures.steps)
