use Rattle.std.proofs.Common.{ap, arith, ◌∙◌, refl, rules}
use Rattle.std.proofs.lemmas.Result.{on_ok_weaker}
use Rattle.prs_core.specs.Nets.{with_rules}
use Rattle.prs_core.specs.Pairs.{or_of}
use Rattle.prs_core.specs.Parts.{owned}
use Rattle.prs_core.specs.Partly.{IsPartly, partly_none, then_one, then_none}
use Rattle.cell_select.specs.Selections.{joined_answer, evaluation}
use Rattle.cell_select.specs.Contract.{shared_owned}
use Rattle.cell_select.proofs.Emitted.{then_either}
use Rattle.cell_select.proofs.Lent.{below_still, lent_within}
use Rattle.cell_select.proofs.emit.emit_shared.Goals as goal
use Rattle.cell_select.proofs.emit.emit_shared.Goals.{In_ok-emit_joined}

pub emit_evaluation-requires-clause-node : goal.emit_evaluation-requires-clause-node
emit_evaluation-requires-clause-node c = below_still c.args.eval _ _ c.emit_joined.ensures.nodes c.requires.eval

pub emit_evaluation-requires-clause-request : goal.emit_evaluation-requires-clause-request
emit_evaluation-requires-clause-request c = below_still c.args.request _ _ c.emit_joined.ensures.nodes c.requires.request

pub emit_evaluation-requires-clause-any : goal.emit_evaluation-requires-clause-any
emit_evaluation-requires-clause-any c = below_still c.args.any _ _ c.emit_joined.ensures.nodes c.requires.any

pub emit_any-requires-clause-node : goal.emit_any-requires-clause-node
emit_any-requires-clause-node c = below_still c.args.any _ _ (c.emit_evaluation.ensures.nodes ∙ c.emit_joined.ensures.nodes) c.requires.any

pub emit_any-requires-clause-inputs : goal.emit_any-requires-clause-inputs
emit_any-requires-clause-inputs c =
    lent_within _ _ c.args.latched.now _ (c.emit_evaluation.ensures.nodes ∙ c.emit_joined.ensures.nodes) refl c.requires.latched

-- what is written once one call is done
joined_written : (c : In_ok-emit_joined) → IsPartly (shared_owned c.args.joined c.args.eval c.args.any c.args.request c.args.answers.now c.args.latched.now)
    c.args.rules.now c.emit_joined.new.rules
joined_written c = then_one _ _ _ _ (owned c.args.joined (joined_answer c.args.any c.args.answers.now)) (partly_none _ _ _ refl) (0, omega arith, refl)
    c.in_ok-emit_joined.ensures.made

pub returns-in_err-emit_joined : goal.returns-in_err-emit_joined
returns-in_err-emit_joined c = record {
  made = search rules;
  partly = partly_none _ _ _ c.in_err-emit_joined.ensures.kept;
  nodes = c.emit_joined.ensures.nodes;
}

pub returns-in_err-emit_evaluation : goal.returns-in_err-emit_evaluation
returns-in_err-emit_evaluation c = record {
  made = search rules;
  partly = then_none _ _ _ _ (joined_written (goal.at.returns-in_err-emit_evaluation c).In_ok-emit_joined) c.in_err-emit_evaluation.ensures.kept;
  nodes = c.emit_evaluation.ensures.nodes ∙ c.emit_joined.ensures.nodes;
}

pub returns : goal.returns
returns c =
    let wanted = or_of c.args.latched.now in
    let evaluated = evaluation c.args.request c.args.any in
    let first = joined_written (goal.at.returns c).In_ok-emit_joined in
    let second = then_one _ _ _ _ (owned c.args.eval evaluated) first (1, omega arith, refl) c.in_ok-emit_evaluation.ensures.made in
    record {
      made = on_ok_weaker c.emit_any.result (λ made. made ∙ ap (with_rules c.args.any wanted) (c.in_ok-emit_evaluation.ensures.made
          ∙ ap (with_rules c.args.eval evaluated) c.in_ok-emit_joined.ensures.made)) c.emit_any.ensures.made;
      partly = then_either _ _ _ _ (owned c.args.any wanted) c.emit_any.result second (2, omega arith, refl) c.emit_any.ensures.made c.emit_any.ensures.kept;
      nodes = c.emit_any.ensures.nodes ∙ c.emit_evaluation.ensures.nodes ∙ c.emit_joined.ensures.nodes;
    }
