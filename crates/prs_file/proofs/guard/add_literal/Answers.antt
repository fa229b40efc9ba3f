use Rattle.std.proofs.Common.{◌∷◌, [], ◌++◌, ap, ◌∙◌}
use Rattle.prs_file.proofs.GuardsNamed.{added_last, added_new}
use Rattle.prs_file.proofs.guard.add_literal.Goals as goal
use Rattle.prs_file.proofs.guard.add_literal.Goals.{in-Rule, in-Or+in_ok-push-in-Or}

pub returns-clause-guard : goal.returns-clause-guard
returns-clause-guard c =
    elim c.match-lead.branch [
      | in-Rule w ↦ added_last c.args.lead c.args.literal c.args.terms.now.items c.args.last.now.items c.match-lead.terms.items c.push-2.new.self.items
          w.in-Rule.is (ap (λ v. v.items) w.terms-is) (c.in_ok-push.ensures.items ∙ ap (λ v. v.items ++ c.args.literal ∷ []) w.last-is)
      | in-Or+in_ok-push-in-Or w ↦
          added_new c.args.lead c.args.literal c.args.terms.now.items c.args.last.now.items c.match-lead.terms.items c.push-2.new.self.items w.in-Or.is
          (ap (λ v. v.items) w.terms-is ∙ w.in_ok-push-in-Or.ensures.items
          ∙ ap (λ u. c.args.terms.now.items ++ u ∷ []) (rw w.unwrap.ensures at w.new-in-Or.ensures.value ∙ ap (λ v. v.items) w.replace-whole.ensures.value))
          (c.in_ok-push.ensures.items ∙ ap (λ xs. xs ++ c.args.literal ∷ []) (ap (λ v. v.items) w.last-is ∙ ap (λ v. v.items) w.replace-whole.ensures.after
          ∙ w.new.ensures.items))
    ]
