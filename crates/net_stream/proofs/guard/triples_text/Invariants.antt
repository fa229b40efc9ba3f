use Rattle.std.proofs.Common.{◌≤◌, [], ◌∷◌, drop, vec_len, vec_capacity}
use Rattle.prs_file.specs.declared.forms.Lead.TheVariants.{Rule}
use Rattle.function_blocks.specs.Functions.{truth}
use Rattle.function_blocks.specs.Gates.{gate_rail, table}
use Rattle.function_blocks.specs.Waves.{rows_of}
use Rattle.net_compose.specs.Circuits.{with_ends}
use Rattle.net_stream.specs.Led.{on_rows}
use Rattle.net_stream.proofs.Puts.{IsLeft}
use Rattle.net_stream.proofs.guard.triples_text.Given as goal

abbrev pub invariant-loop-number : goal.invariant-loop-number
invariant-loop-number l = record {
  left : IsLeft l.net Rule l.lead (with_ends l.ending (gate_rail (l.left ∷ l.right ∷ l.carried ∷ []) (rows_of l.one (truth l.function))).up)
      (with_ends l.ending (on_rows (l.left ∷ l.right ∷ l.carried ∷ []) (rows_of l.one (truth l.function)) (drop l.number (table 3))))
      l.initial.to.items l.to.items (vec_len l.initial.to) (vec_len l.to);
  capacity : vec_capacity l.initial.to ≤ vec_capacity l.to;
}
