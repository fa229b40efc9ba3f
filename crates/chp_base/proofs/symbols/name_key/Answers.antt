use Rattle.std.proofs.Common.{◌≡◌, ◌≤◌, ◌∙◌, ap, sym, take, drop, length, arith}
use Rattle.std.proofs.lemmas.List.{take_all, drop_all}
use Rattle.chp_base.specs.NameKeys.{packed}
use Rattle.chp_base.proofs.symbols.name_key.Goals as goal

pub returns-in-Some-clause-key : goal.returns-in-Some-clause-key
returns-in-Some-clause-key c =
    let name = c.args.name.now in
    let front : c.packed.result ≡ packed (take 16 name) =
    c.packed.ensures ∙ ap packed (c.in-Some.ensures.cases.1 ∙ ap (take 16) c.bytes-bytes.ensures.bytes) in
    let back : c.packed-in-Some.result ≡ packed (drop 16 name) =
    c.packed-in-Some.ensures ∙ ap packed (c.in-Some.ensures.cases.2 ∙ ap (drop 16) c.bytes-bytes.ensures.bytes) in
    λ i. (front i, back i)

pub returns-in-None-clause-key : goal.returns-in-None-clause-key
returns-in-None-clause-key c =
    let name = c.args.name.now in
    let short : length name ≤ 16 = omega (arith, ap length c.bytes-bytes.ensures.bytes, c.in-None.ensures.cases) in
    let front : c.packed-in-None.result ≡ packed (take 16 name) =
    c.packed-in-None.ensures ∙ ap packed (c.bytes-bytes.ensures.bytes ∙ sym (take_all 16 name short)) in
    let back : 0 ≡ packed (drop 16 name) = ap packed (sym (drop_all 16 name short)) in
    λ i. (front i, back i)
