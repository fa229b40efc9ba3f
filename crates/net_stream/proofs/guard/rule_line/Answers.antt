use Rattle.std.proofs.Common.{◌∙◌, ◌++◌, ap, sym, subst, vec_len}
use Rattle.std.specs.Prelude.{if◌then◌else◌}
use Rattle.std.proofs.lemmas.Result.{on_ok_weaker}
use Rattle.prs_core.specs.Nets.{up_of, down_of}
use Rattle.prs_file.specs.Spelling.{end_spelling}
use Rattle.prs_file.specs.declared.forms.Lead.TheVariants.{Rule}
use Rattle.net_stream.specs.Led.{IsPut}
use Rattle.net_stream.proofs.RuleTexts.{line_is, no_line, filled_at}
use Rattle.net_stream.proofs.guard.rule_line.Goals as goal

pub returns-then-has_begun-clause-ok : goal.returns-then-has_begun-clause-ok
returns-then-has_begun-clause-ok c =
    let net = c.args.net.now in
    let g = if c.args.up then up_of net c.args.node else down_of net c.args.node in
    let put = subst (λ g. IsPut net Rule c.in_ok-lead.lead g c.args.to.now.items c.guard_text.new.to.items (vec_len c.args.to.now)
    (vec_len c.guard_text.new.to)) (sym c.rule-ending.ensures.rule) c.in_ok-lead.ensures.put in
    let filled = filled_at net c.args.node c.args.up c.first-net.ensures.net c.requires.node in
    on_ok_weaker c.rule_end.result (λ e. line_is net c.in_ok-lead.lead g c.args.node c.args.up _ _ _ _ _ filled put
    (sym c.has_begun.ensures ∙ c.if-has_begun.true)
    (e ∙ ap (λ name. c.guard_text.new.to.items ++ end_spelling name c.args.up) c.name.ensures.value)) c.rule_end.ensures.ok

pub returns-clause-ok : goal.returns-clause-ok
returns-clause-ok c =
    let net = c.args.net.now in
    let g = if c.args.up then up_of net c.args.node else down_of net c.args.node in
    let put = subst (λ g. IsPut net Rule c.in_ok-lead.lead g c.args.to.now.items c.guard_text.new.to.items (vec_len c.args.to.now)
    (vec_len c.guard_text.new.to)) (sym c.rule-ending.ensures.rule) c.in_ok-lead.ensures.put in
    no_line net c.in_ok-lead.lead g c.args.node c.args.up _ _ _ _ put (sym c.has_begun.ensures ∙ c.if-has_begun.false)
