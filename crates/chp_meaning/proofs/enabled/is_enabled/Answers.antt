use Rattle.std.proofs.Common.{◌≡◌, ℕ, List, sym, ap, ◌∙◌}
use Rattle.std.specs.Prelude.{is_some}
use Rattle.width_check.specs.View.{choices_in}
use Rattle.chp_meaning.specs.AtOnce.{guards_counted, true_guards}
use Rattle.chp_meaning.specs.Standing.{outset_of}
use Rattle.chp_meaning.proofs.Planning.{guards_have, select_move}
use Rattle.chp_meaning.proofs.enabled.is_enabled.Goals as goal

pub chosen-requires : goal.chosen-requires
chosen-requires c = guards_have _ _ c.args.stmt.now c.in-Select.again c.in-Select.arms _ c.in-Select.is c.deref.ensures.value c.requires.numbers

pub returns-in-Select : goal.returns-in-Select
returns-in-Select c =
    let found : c.chosen.result ≡ guards_counted (true_guards c.args.config.now.store.items 0 (choices_in c.deref.result.now)) =
    c.chosen.ensures ∙ ap (λ (xs : List ℕ). guards_counted (true_guards xs 0 (choices_in c.deref.result.now))) c.deref-in-Select.ensures.value in
    c.chooses.ensures
    ∙ sym (ap is_some (select_move (outset_of c.args.config.now) c.args.stmt.now c.in-Select.again c.in-Select.arms _ _ c.in-Select.is
    c.deref.ensures.value found))
