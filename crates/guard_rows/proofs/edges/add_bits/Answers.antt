use Rattle.std.proofs.Common.{◌≡◌, ℕ, ◌+◌, ◌*◌, ◌≤◌, ◌∙◌, List, length, get_or, take, sym, ap, refl, arith}
use Rattle.std.specs.Prelude.{◌==◌}
use Rattle.std.proofs.lemmas.List.{take_all, length-take-le}
use Rattle.guard_rows.specs.Places.{as_bit, weight_of, is_one_of}
use Rattle.guard_rows.proofs.Indexes.{index_small, power_small}
use Rattle.guard_rows.proofs.Totals.{weight_small, weight_more, power_more}
use Rattle.guard_rows.proofs.Added.{none_added, added_as, added_room, input_step}
use Rattle.guard_rows.proofs.edges.add_bits.Goals as goal

pub add-requires : goal.add-requires
add-requires c =
    let ns = c.args.inputs.now in
    let i = c.loop-input.input-index in
    let old = c.args.edges.now in
    let is = c.loop-input.invariant in
    let few : i ≤ 6 = omega (arith, c.requires.few, c.loop-input-test.true) in
    let part : length (take i ns) ≡ i = length-take-le i ns (omega (arith, c.loop-input-test.true)) in
    added_room c.args.row c.loop-input.weight 4294967296 (get_or ns i 0) (is_one_of (take i ns)) (λ m. weight_of m (take i ns)) old.items
    c.loop-input.edges.items c.index_mut.result.now is.added
    (λ m within. omega (
      arith,
      c.requires.fresh m (omega (arith, within, old.ok.0)),
      weight_small m (take i ns),
      index_small (λ n. n == m) (take i ns) (omega (arith, part, few)),
      is.weight,
      power_small i few,
    ))
    (omega (arith, c.requires.within i 0 c.loop-input-test.true, is.added.count, old.ok.0)) c.index_mut.ensures.value

pub loop-input-init : goal.loop-input-init
loop-input-init c = record { weight = refl; added = none_added c.args.row _ _ c.args.edges.now.items (λ m. refl) (λ m. refl) }

pub loop-input-preserved : goal.loop-input-preserved
loop-input-preserved c =
    let ns = c.args.inputs.now in
    let i = c.loop-input.input-index in
    let weight = c.loop-input.weight in
    let old = c.args.edges.now in
    let is = c.loop-input.invariant in
    record {
      weight = ap (λ k. k * 2) is.weight ∙ power_more i;
      added = input_step c.args.row weight i ns (λ m. weight_of m (take i ns)) (λ m. weight_of m (take (i + 1) ns)) old.items c.loop-input.edges.items
          c.index_mut.result.now c.add.new.self c.loop-input-test.true
          (omega (arith, c.requires.within i 0 c.loop-input-test.true, is.added.count, old.ok.0)) c.index_mut.ensures.value
          c.in_ok-add.ensures.total c.in_ok-add.ensures.readers
          (λ m. weight_more m ns i c.loop-input-test.true ∙ ap (λ k. weight_of m (take i ns) + k * as_bit (get_or ns i 0 == m)) (sym is.weight)) is.added;
    }

pub returns-clause-added : goal.returns-clause-added
returns-clause-added c =
    let ns = c.args.inputs.now in
    let i = c.loop-input.input-index in
    let all : take i ns ≡ ns = take_all i ns c.loop-input-test.false in
    added_as c.args.row (is_one_of (take i ns)) (is_one_of ns) (λ m. weight_of m (take i ns)) (λ m. weight_of m ns) c.args.edges.now.items
    c.loop-input.edges.items (λ m. ap (λ (xs : List ℕ). is_one_of xs m) all) (λ m. ap (weight_of m) all) c.loop-input.invariant.added
