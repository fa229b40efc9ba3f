-- The parts with what they promise of single moments, whatever was before: for the invariants of their values.
use Rattle.std.specs.Prelude.{◌&&◌, not, ◌∷◌, map}
use Rattle.prs_core.specs.Parts.{Part, Wire, wire}
use Rattle.cell_select.specs.Contract.{SelectNodes, select_part, select_answer, AgainNodes, again_part, guards_false, guards_neutral, branches_idle, rises_under, eval_wire, start_wires, as_evaluated}

abbrev pub plain_select : SelectNodes → Part
plain_select c = record (select_part c) {
  promises = select_answer c ∷ eval_wire c.request c.answer c.eval c.branches ∷ start_wires c.request c.answer c.eval c.branches;
  notes = as_evaluated c.eval;
}

abbrev pub plain_answer : AgainNodes → Wire
plain_answer c =
    wire c.answer
    (λ m. m.value c.request && (guards_false m.noted c.branches
    && (not (m.value c.eval) && (guards_neutral m.value c.branches && branches_idle m.value c.branches))))
    (λ m. not (m.value c.request) && (not (m.value c.eval) && (guards_neutral m.value c.branches && branches_idle m.value c.branches)))

abbrev pub plain_again : AgainNodes → Part
plain_again c = record (again_part c) {
  promises = plain_answer c ∷ map (rises_under c.request) (eval_wire c.turn c.answer c.eval c.branches ∷ start_wires c.turn c.answer c.eval c.branches);
  notes = as_evaluated c.eval;
}
