use Rattle.std.proofs.Common.{◌∙◌, refl, rules}
use Rattle.std.proofs.lemmas.List.Elements.{Contains-append_left, Contains-append_right}
use Rattle.std.proofs.lemmas.Result.{on_ok_weaker}
use Rattle.prs_core.specs.Parts.{owned_at}
use Rattle.prs_core.specs.Partly.{partly_of, partly_on}
use Rattle.cell_select.specs.Selections.{latches, starts}
use Rattle.cell_select.specs.PortNodes.{pairs_of}
use Rattle.cell_select.specs.Contract.{branches_owned}
use Rattle.cell_select.proofs.Emitted.{then_owned}
use Rattle.cell_select.proofs.Lent.{lent_within}
use Rattle.cell_select.proofs.emit.emit_branches.Goals as goal

pub emit_starts-requires-clause-nodes : goal.emit_starts-requires-clause-nodes
emit_starts-requires-clause-nodes c = lent_within _ _ c.args.begun.now _ c.emit_latches.ensures.nodes refl c.requires.begun

pub emit_starts-requires-clause-latched : goal.emit_starts-requires-clause-latched
emit_starts-requires-clause-latched c = lent_within _ _ c.args.latched.now _ c.emit_latches.ensures.nodes refl c.requires.latched

pub emit_starts-requires-clause-rails : goal.emit_starts-requires-clause-rails
emit_starts-requires-clause-rails c = lent_within _ _ c.args.rails.now _ c.emit_latches.ensures.nodes refl c.requires.rails

pub returns-in_err-emit_latches : goal.returns-in_err-emit_latches
returns-in_err-emit_latches c =
    let hs = pairs_of c.args.rails.now in
    let ls = owned_at c.args.latched.now (latches c.args.request hs) in
    let ss = owned_at c.args.begun.now (starts c.args.latched.now hs) in
    record {
      made = search rules;
      partly = partly_of ls (branches_owned c.args.request c.args.latched.now c.args.begun.now hs) _ _ (λ o k. Contains-append_left ls ss o k)
          c.emit_latches.ensures.partly;
      nodes = c.emit_latches.ensures.nodes;
    }

pub returns : goal.returns
returns c =
    let hs = pairs_of c.args.rails.now in
    let ls = owned_at c.args.latched.now (latches c.args.request hs) in
    let ss = owned_at c.args.begun.now (starts c.args.latched.now hs) in
    let all = branches_owned c.args.request c.args.latched.now c.args.begun.now hs in
    record {
      made = on_ok_weaker c.emit_starts.result (then_owned ls ss _ _ _ c.in_ok-emit_latches.ensures.made) c.emit_starts.ensures.made;
      partly = partly_on all _ _ _ (partly_of ls all _ _ (λ o k. Contains-append_left ls ss o k) c.emit_latches.ensures.partly)
          (partly_of ss all _ _ (λ o k. Contains-append_right ls ss o k) c.emit_starts.ensures.partly);
      nodes = c.emit_starts.ensures.nodes ∙ c.emit_latches.ensures.nodes;
    }
