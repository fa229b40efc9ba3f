use Rattle.std.proofs.Common.{◌<◌, ◌++◌, ◌+◌, ℕ, List, [], length, sym, ap, ◌∙◌, subst, arith}
use Rattle.std.proofs.lemmas.List.{length_push}
use Rattle.wave_file.specs.Waves.{var_spelling}
use Rattle.wave_file.specs.WaveReading.{IsToldTo, at_names, named, begins_name, upscope_line}
use Rattle.wave_file.proofs.Readings.{NamesNone, names_more, names_many, names_few, upscope_refused, upscope_told, refused_from, shorter, line_short}
use Rattle.wave_file.proofs.read.read_names.Goals as goal

pub returns-then-len-ge-MOST_NODES-clause-refused : goal.returns-then-len-ge-MOST_NODES-clause-refused
returns-then-len-ge-MOST_NODES-clause-refused c = λ whole so_far.
    let l = c.loop-names in
    let name = c.in-Some.name in
    let some = (rw c.in-Some.is at c.in_ok-name.ensures.some) ∙ ap (λ k. var_spelling k name ++ c.in-Some.after.now) (c.len.ensures ∙ l.names.ok.0) in
    names_many whole l.rest.now c.in-Some.after.now l.names.items name _ (l.invariant.told whole so_far)
    (omega (arith, c.len-in-Some.ensures, c.if-len-ge-MOST_NODES.true, l.names.ok.0)) (rw c.in-Some.is at c.in_ok-name.ensures.name) some
    (omega (arith, c.len-then-len-ge-MOST_NODES.ensures, l.names.ok.0))

pub loop-names-smaller : goal.loop-names-smaller
loop-names-smaller c =
    let l = c.loop-names in
    let name = c.in-Some.name in
    let some = (rw c.in-Some.is at c.in_ok-name.ensures.some) ∙ ap (λ k. var_spelling k name ++ c.in-Some.after.now) (c.len.ensures ∙ l.names.ok.0) in
    shorter l.rest.now c.in-Some.after.now (at_names l.names.items) (named name) (begins_name (rw c.in-Some.is at c.in_ok-name.ensures.name) some)

pub loop-names-preserved : goal.loop-names-preserved
loop-names-preserved c =
    let l = c.loop-names in
    let name = c.in-Some.name in
    let some = (rw c.in-Some.is at c.in_ok-name.ensures.some) ∙ ap (λ k. var_spelling k name ++ c.in-Some.after.now) (c.len.ensures ∙ l.names.ok.0) in
    let few : length l.names.items < 65537 = omega (arith, c.len-in-Some.ensures, c.if-len-ge-MOST_NODES.false, l.names.ok.0) in
    record {
      few = omega (arith, ap length c.in_ok-push.ensures.items, length_push l.names.items name, few);
      told = λ whole so_far. subst (λ (ns : List (List ℕ)). IsToldTo whole (length ns + 2) (at_names ns) c.in-Some.after.now)
          (sym c.in_ok-push.ensures.items)
          (names_more whole l.rest.now c.in-Some.after.now l.names.items name (l.invariant.told whole so_far) few
          (rw c.in-Some.is at c.in_ok-name.ensures.name) some);
      short = omega (arith, l.invariant.short, line_short (var_spelling (length l.names.items) name) l.rest.now c.in-Some.after.now some);
    }

pub returns-then-len-lt2-clause-refused : goal.returns-then-len-lt2-clause-refused
returns-then-len-lt2-clause-refused c = λ whole so_far.
    let l = c.loop-names in
    let none = rw c.in_default.is at c.in_ok-name.ensures.none in
    let over : NamesNone l.names.items l.rest.now =
    λ name rest is e. none name rest is (e ∙ ap (λ k. var_spelling k name ++ rest) (sym (c.len.ensures ∙ l.names.ok.0))) in
    names_few whole l.rest.now l.names.items _ (l.invariant.told whole so_far) (omega (arith, c.len-3.ensures, c.if-len-lt2.true, l.names.ok.0)) over
    (omega (arith, c.len-2.ensures, l.names.ok.0))

pub returns-in_err-after-clause-refused : goal.returns-in_err-after-clause-refused
returns-in_err-after-clause-refused c =
    let l = c.loop-names in
    let none = rw c.in_default.is at c.in_ok-name.ensures.none in
    let over : NamesNone l.names.items l.rest.now =
    λ name rest is e. none name rest is (e ∙ ap (λ k. var_spelling k name ++ rest) (sym (c.len.ensures ∙ l.names.ok.0))) in
    refused_from c.from_residual-in_err-after.result c.in_err-after.field-0.0 2 (at_names []) c.args.text.now c.from_residual-in_err-after.ensures.1
    (λ whole so_far. upscope_refused whole l.rest.now l.names.items _ _ (l.invariant.told whole so_far) over
    (omega (arith, c.len-2.ensures, l.names.ok.0)) c.in_err-after.ensures.refused)

pub returns-clause-told : goal.returns-clause-told
returns-clause-told c = λ whole so_far.
    let l = c.loop-names in
    upscope_told whole l.rest.now c.in_ok-after.after.now l.names.items (l.invariant.told whole so_far)
    (omega (arith, c.len-3.ensures, c.if-len-lt2.false, l.names.ok.0)) c.in_ok-after.ensures.told

pub returns-clause-short : goal.returns-clause-short
returns-clause-short c =
    omega (arith, c.loop-names.invariant.short, line_short upscope_line c.loop-names.rest.now c.in_ok-after.after.now c.in_ok-after.ensures.told)
