use Rattle.std.proofs.Common.{◌≡◌, ℕ, List, ap, ◌∙◌}
use Rattle.width_check.specs.View.{choices_in}
use Rattle.chp_meaning.specs.AtOnce.{guards_counted, true_guards}
use Rattle.chp_meaning.specs.Standing.{outset_of}
use Rattle.chp_meaning.proofs.Planning.{guards_have, has_branch, select_remains, select_move}
use Rattle.chp_meaning.proofs.plan.stepped.Goals as goal

pub chosen-found-requires : goal.chosen-found-requires
chosen-found-requires c = guards_have _ _ c.args.stmt.now c.in-Select.again c.in-Select.arms _ c.in-Select.is c.deref.ensures.value c.requires.numbers.numbers

pub chosen_change-requires-clause-within : goal.chosen_change-requires-clause-within
chosen_change-requires-clause-within c =
    has_branch _ c.args.stmt.now c.in-Select.again c.in-Select.arms _ _ c.in-Select.is c.deref.ensures.value c.chosen-found.ensures

pub returns-in-Select-clause-left : goal.returns-in-Select-clause-left
returns-in-Select-clause-left c =
    let found : c.chosen-found.result ≡ guards_counted (true_guards c.args.config.now.store.items 0 (choices_in c.deref.result.now)) =
    c.chosen-found.ensures ∙ ap (λ (xs : List ℕ). guards_counted (true_guards xs 0 (choices_in c.deref.result.now))) c.deref-in-Select.ensures.value in
    rw (select_remains (outset_of c.args.config.now) c.args.stmt.now c.in-Select.again c.in-Select.arms _ _ c.in-Select.is c.deref.ensures.value found)
    c.chosen_change.ensures.left

pub returns-in-Select-clause-moves : goal.returns-in-Select-clause-moves
returns-in-Select-clause-moves c =
    let found : c.chosen-found.result ≡ guards_counted (true_guards c.args.config.now.store.items 0 (choices_in c.deref.result.now)) =
    c.chosen-found.ensures ∙ ap (λ (xs : List ℕ). guards_counted (true_guards xs 0 (choices_in c.deref.result.now))) c.deref-in-Select.ensures.value in
    rw (select_move (outset_of c.args.config.now) c.args.stmt.now c.in-Select.again c.in-Select.arms _ _ c.in-Select.is c.deref.ensures.value found)
    c.chosen_change.ensures.moves
