use Rattle.std.proofs.Common.{◌++◌, List, ℕ, codes, subst}
use Rattle.command_answers.specs.Saying.{IsSaid}
use Rattle.command_answers.proofs.say.say_nodes.Goals as goal

pub returns-clause-said : goal.returns-clause-said
returns-clause-said g c =
    let line : List ℕ → List ℕ = λ digits. codes "chp: 7 nodes " ++ (digits ++ codes "\n") in
    subst (λ (digits : List ℕ). IsSaid g.W.Sink c.args.say.now c.say_pieces.new.say (line digits)) c.format-number.ensures.text c.say_pieces.ensures.said
