use Rattle.std.proofs.Common.{true, false, sym, ap, ◌∙◌, arith}
use Rattle.prs_core.specs.Moves.{fired}
use Rattle.wave_file.specs.WaveReading.{has_value}
use Rattle.wave_file.proofs.Readings.{turn_unknown, turn_known, written_back}
use Rattle.wave_file.proofs.read.turn.Goals as goal

pub returns-in_default-clause-refused : goal.returns-in_default-clause-refused
returns-in_default-clause-refused c =
    let t = c.args.told.now in
    turn_unknown _ t.values.items c.args.value c.args.id.now (omega (arith, c.in_default.ensures.none, c.len.ensures, t.names.ok.0))

pub returns-then-has_value-clause-refused : goal.returns-then-has_value-clause-refused
returns-then-has_value-clause-refused c =
    let t = c.args.told.now in
    let has = ap (λ vs. has_value vs c.in-Some.node c.args.value) (sym c.deref.ensures.value) ∙ sym c.has_value.ensures ∙ c.if-has_value.true in
    turn_known _ t.values.items c.args.value c.args.id.now c.in-Some.node true c.in-Some.ensures.some
    (omega (arith, c.in-Some.ensures.below, c.len.ensures, t.names.ok.0)) has

pub returns-clause-told : goal.returns-clause-told
returns-clause-told c =
    let t = c.args.told.now in
    let has = ap (λ vs. has_value vs c.in-Some.node c.args.value) (sym c.deref.ensures.value) ∙ sym c.has_value.ensures ∙ c.if-has_value.false in
    turn_known _ t.values.items c.args.value c.args.id.now c.in-Some.node false c.in-Some.ensures.some
    (omega (arith, c.in-Some.ensures.below, c.len.ensures, t.names.ok.0)) has

pub returns-clause-values : goal.returns-clause-values
returns-clause-values c =
    let t = c.args.told.now in
    written_back t.values.len t.values.items _ c.in-Some.node t.values.ok.0
    (c.turn.ensures.values ∙ ap (λ vs. fired vs c.in-Some.node) c.deref_mut.ensures.value)
