use Rattle.std.proofs.Common.{◌+◌, [], ◌∷◌, drop, ap, refl, arith}
use Rattle.std.proofs.lemmas.Result.{err_from_is_err_and}
use Rattle.std.proofs.lemmas.List.{drop_all}
use Rattle.prs_file.specs.declared.forms.Lead.TheVariants.{Rule}
use Rattle.function_blocks.specs.Functions.{truth}
use Rattle.function_blocks.specs.Gates.{gate_rail, table}
use Rattle.function_blocks.specs.Waves.{rows_of}
use Rattle.net_compose.specs.Circuits.{with_ends}
use Rattle.net_stream.specs.Led.{on_row, on_rows, row_at}
use Rattle.net_stream.proofs.Puts.{begins, left_more, left_over, left_room}
use Rattle.net_stream.proofs.RowsPut.{next_triple, row_more}
use Rattle.net_stream.proofs.guard.triples_text.Goals as goal

pub loop-number-init : goal.loop-number-init
loop-number-init c = record {
  left = begins c.args.net.now Rule (with_ends c.args.ending (gate_rail (c.args.left ∷ c.args.right ∷ c.args.carried ∷ []) (rows_of c.args.one
      (truth c.args.function))).up) _ _ _ refl;
  capacity = omega arith;
}

pub loop-number-preserved : goal.loop-number-preserved
loop-number-preserved c =
    let inputs = c.args.left ∷ c.args.right ∷ c.args.carried ∷ [] in
    let f = rows_of c.args.one (truth c.args.function) in
    let n = c.loop-number.number in
    let rest = drop (n + 1) (table 3) in
    let at = row_more inputs f c.args.ending (row_at 3 n) rest (drop n (table 3)) (next_triple n (omega arith)) in
    record {
      left = left_more c.args.net.now Rule c.loop-number.lead _ (with_ends c.args.ending (gate_rail inputs f).up) _
          (with_ends c.args.ending (on_row inputs f (row_at 3 n))) (with_ends c.args.ending (on_rows inputs f rest)) _ _ _ _ _ _ at
          c.loop-number.invariant.left c.in_ok-lead.ensures.put;
      capacity = omega arith;
    }

pub returns-in_err-lead-clause-room : goal.returns-in_err-lead-clause-room
returns-in_err-lead-clause-room c =
    let p = err_from_is_err_and c.from_residual.result c.from_residual.ensures.1 in
    let inputs = c.args.left ∷ c.args.right ∷ c.args.carried ∷ [] in
    let f = rows_of c.args.one (truth c.args.function) in
    let n = c.loop-number.number in
    let rest = drop (n + 1) (table 3) in
    let at = row_more inputs f c.args.ending (row_at 3 n) rest (drop n (table 3)) (next_triple n (omega arith)) in
    rw p.1
    (left_room c.args.net.now Rule c.loop-number.lead (with_ends c.args.ending (gate_rail inputs f).up) _
    (with_ends c.args.ending (on_row inputs f (row_at 3 n))) (with_ends c.args.ending (on_rows inputs f rest)) _ _ _ _ _ _ at
    c.loop-number.invariant.left c.in_err-lead.ensures.room c.loop-number.invariant.capacity)

pub returns-clause-put : goal.returns-clause-put
returns-clause-put c =
    let inputs = c.args.left ∷ c.args.right ∷ c.args.carried ∷ [] in
    let f = rows_of c.args.one (truth c.args.function) in
    left_over c.args.net.now Rule c.loop-number.lead (with_ends c.args.ending (gate_rail inputs f).up) _ _ _ _ _
    (ap (λ rows. with_ends c.args.ending (on_rows inputs f rows)) (drop_all c.loop-number.number (table 3) (omega arith))) c.loop-number.invariant.left
