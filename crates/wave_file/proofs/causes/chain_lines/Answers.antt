use Rattle.std.proofs.Common.{Result, Ok, Err}
use Rattle.std.specs.Prelude.{OnOk}
use Rattle.wave_file.proofs.Chains.{chain_within}
use Rattle.wave_file.proofs.causes.chain_lines.Goals as goal

on_ok : {T E A B : Type 0} (r : Result T E) → (A → B) → OnOk r A → OnOk r B
on_ok (Ok x) more told = more told
on_ok (Err e) more told = tt

pub lines_back-requires-clause-places : goal.lines_back-requires-clause-places
lines_back-requires-clause-places c =
    rw c.deref.ensures.value (λ k d below. chain_within c.args.moves.now _ c.in_ok-places.places.items c.in_ok-places.ensures k d below)

pub returns : goal.returns
returns c =
    on_ok c.lines_back.result (λ told. (c.in_ok-places.places.items, c.in_ok-places.ensures, rw c.deref.ensures.value at told)) c.lines_back.ensures
