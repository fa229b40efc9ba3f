use Rattle.std.proofs.Common.{[], ◌∷◌, length, sym, subst, vec_len}
use Rattle.function_blocks.specs.Functions.{truth}
use Rattle.function_blocks.specs.Waves.{rows_of}
use Rattle.net_compose.specs.Circuits.{with_ends}
use Rattle.net_stream.specs.Led.{IsPut, row_at}
use Rattle.net_stream.proofs.Puts.{no_terms}
use Rattle.net_stream.proofs.RowsPut.{row_holds, row_fails, has_value, has_another, minterm_below}
use Rattle.net_stream.proofs.guard.pair_text.Goals as goal

-- the term is that of the row
pub term_text-requires-clause-within : goal.term_text-requires-clause-within
term_text-requires-clause-within c =
    rw (c.rail.ensures, c.rail-then-value-one.ensures) (minterm_below (length c.args.net.now.first) (c.args.left ∷ c.args.right ∷ [])
    (row_at 2 c.args.number) c.requires.within)

pub returns-then-value-one-clause-put : goal.returns-then-value-one-clause-put
returns-then-value-one-clause-put c =
    let inputs = c.args.left ∷ c.args.right ∷ [] in
    let f = rows_of c.args.one (truth c.args.function) in
    let row = row_at 2 c.args.number in
    let e = row_holds inputs f row (has_value c.args.one c.value.result (truth c.args.function) row c.value.ensures c.if-value-one.true) in
    rw e (rw (c.rail.ensures, c.rail-then-value-one.ensures) at c.term_text.ensures.put)

pub returns-then-value-one-clause-room : goal.returns-then-value-one-clause-room
returns-then-value-one-clause-room c =
    let inputs = c.args.left ∷ c.args.right ∷ [] in
    let f = rows_of c.args.one (truth c.args.function) in
    let row = row_at 2 c.args.number in
    let e = row_holds inputs f row (has_value c.args.one c.value.result (truth c.args.function) row c.value.ensures c.if-value-one.true) in
    rw e c.term_text.ensures.room

pub returns-else-value-one-clause-put : goal.returns-else-value-one-clause-put
returns-else-value-one-clause-put c =
    let inputs = c.args.left ∷ c.args.right ∷ [] in
    let f = rows_of c.args.one (truth c.args.function) in
    let row = row_at 2 c.args.number in
    let e = row_fails inputs f row (has_another c.args.one c.value.result (truth c.args.function) row c.value.ensures
    c.if-value-one.false) in
    subst (λ g. IsPut c.args.net.now c.args.lead c.args.lead (with_ends c.args.ending g) c.args.to.now.items c.args.to.now.items
    (vec_len c.args.to.now) (vec_len c.args.to.now)) (sym e) (no_terms c.args.net.now c.args.lead _ _)
