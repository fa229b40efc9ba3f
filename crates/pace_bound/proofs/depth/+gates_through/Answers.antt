use Rattle.std.proofs.Common.{◌≡◌, suc, ◌+◌, ◌-◌, ◌<◌, length, take, drop, get_or, sym, ap, subst, ◌∙◌, rules, arith}
use Rattle.std.specs.Prelude.{max}
use Rattle.std.proofs.lemmas.List.{get_or_read}
use Rattle.width_check.specs.declared.typed.TExpr.{the_lemmas}
use Rattle.width_check.specs.Values.{width_of, IsWellFormed}
use Rattle.width_check.specs.View.{formula_of}
use Rattle.handshake_expand.proofs.Rows.{join_is, chain_is, parts_of, links_of}
use Rattle.function_blocks.proofs.PartSizes.{some_width}
use Rattle.pace_bound.specs.Bits.{bits, joined_bits, chained_bits}
use Rattle.pace_bound.specs.Behind.{reached_over}
use Rattle.pace_bound.proofs.Lengths.{bits_length, parts_counted, formed_here, bits_here, link_formed, links_until, until_length}
use Rattle.pace_bound.proofs.Chains.{regrouped, some_after, last_bits, take_whole, zero_max}
use Rattle.pace_bound.proofs.depth.+gates_through.Goals as goal

pub overflow_sub-last : goal.overflow_sub-last
overflow_sub-last t c =
    let facts = subst IsWellFormed (join_is _ _ c.in-Join.is) c.requires in
    let count = parts_counted c.in-Join.parts.items in
    omega (arith, facts.0, count, c.len-last.ensures, c.in-Join.parts.ok.0)

pub loop-place-init : goal.loop-place-init
loop-place-init t c =
    let is = join_is _ _ c.in-Join.is in
    let facts = subst IsWellFormed is c.requires in
    record { reached = zero_max _ ∙ ap (λ f. reached_over c.args.behind (bits f)) (sym is); formed = facts.2 }

pub loop-place-preserved : goal.loop-place-preserved
loop-place-preserved t c =
    let items = c.in-Join.parts.items in
    let i = c.loop-place.place in
    let part = c.index-part.result.now in
    let within : i + 1 < length items = omega (arith, c.len-last.ensures, c.in-Join.parts.ok.0) in
    let at = c.index-part.ensures in
    let here = formed_here items i part (omega (arith, within)) at c.loop-place.invariant.formed in
    let parts = bits_here items i part (omega (arith, within)) at in
    let wide : length (bits (formula_of part)) ≡ c.width_of.result = bits_length (formula_of part) here.0 ∙ sym c.width_of.ensures in
    let divided : reached_over c.loop-place.rest (joined_bits (parts_of (drop i items))) ≡
    max (reached_over c.divided.result.0 (joined_bits (parts_of (drop (i + 1) items)))) (reached_over c.divided.result.1 (bits (formula_of part))) =
    ap (reached_over c.loop-place.rest) parts
    ∙ c.divided.ensures (joined_bits (parts_of (drop (i + 1) items))) (bits (formula_of part)) (some_after items i within here.1) wide in record {
      reached = regrouped c.loop-place.most _ _ _ _ _ _ c.loop-place.invariant.reached divided c.gates_through.ensures c.max-most.ensures;
      formed = here.1;
    }

pub index-requires : goal.index-requires
index-requires t c =
    let facts = subst IsWellFormed (join_is _ _ c.in-Join.is) c.requires in
    let count = parts_counted c.in-Join.parts.items in
    omega (arith, facts.0, count, c.len-last.ensures, c.in-Join.parts.ok.0)

pub gates_through-requires-in-Join : goal.gates_through-requires-in-Join
gates_through-requires-in-Join t c =
    let items = c.in-Join.parts.items in
    let i = c.loop-place.place in
    let facts = subst IsWellFormed (join_is _ _ c.in-Join.is) c.requires in
    let count = parts_counted items in
    let end : c.len-last.result - 1 ≡ i = omega arith in
    let all : i + 1 ≡ length items = omega (arith, facts.0, count, end, c.len-last.ensures, c.in-Join.parts.ok.0) in
    let last = c.index.result.now in
    let at : last ≡ get_or items i last = c.index.ensures ∙ ap (λ n. get_or items n last) end in
    (search (rules, the_lemmas, get_or_read), (formed_here items i last (omega (arith, all)) at c.loop-place.invariant.formed).0)

pub loop-done-init : goal.loop-done-init
loop-done-init t c =
    let is = chain_is _ _ _ c.in-Chain.is in
    let items = c.in-Chain.rest.items in
    let all : take (c.len-count.result - 0) items ≡ items = take_whole _ items (omega (arith, c.len-count.ensures, c.in-Chain.rest.ok.0)) in
    zero_max _ ∙ (ap (λ ls. reached_over c.args.behind (chained_bits (bits (formula_of c.in-Chain.first.value)) (links_of ls))) all
    ∙ ap (λ f. reached_over c.args.behind (bits f)) (sym is))

pub operands-result-requires : goal.operands-result-requires
operands-result-requires t c =
    let facts = subst IsWellFormed (chain_is _ _ _ c.in-Chain.is) c.requires in
    let some = some_width (formula_of c.in-Chain.first.value) facts.0 in
    let width : c.width_of-width.result ≡ width_of (formula_of c.in-Chain.first.value) =
    c.width_of-width.ensures ∙ ap (λ x. width_of (formula_of x)) c.deref-in-Chain.ensures in
    omega (arith, some, width)

pub gates_through-requires-in-loop-done : goal.gates_through-requires-in-loop-done
gates_through-requires-in-loop-done t c =
    let facts = subst IsWellFormed (chain_is _ _ _ c.in-Chain.is) c.requires in
    let items = c.in-Chain.rest.items in
    let link = c.index-link.result.now in
    let within : c.len-count.result - 1 - c.loop-done.done < length items = omega (arith, c.len-count.ensures, c.in-Chain.rest.ok.0) in
    (search (rules, the_lemmas, get_or_read), (link_formed _ _ items link within c.index-link.ensures facts.2).2)

pub loop-done-preserved : goal.loop-done-preserved
loop-done-preserved t c =
    let facts = subst IsWellFormed (chain_is _ _ _ c.in-Chain.is) c.requires in
    let items = c.in-Chain.rest.items in
    let left = bits (formula_of c.in-Chain.first.value) in
    let link = c.index-link.result.now in
    let w = width_of (formula_of c.in-Chain.first.value) in
    let j = c.len-count.result - 1 - c.loop-done.done in
    let within : j < length items = omega (arith, c.len-count.ensures, c.in-Chain.rest.ok.0) in
    let now : c.len-count.result - c.loop-done.done ≡ suc j = omega arith in
    let next : c.len-count.result - (c.loop-done.done + 1) ≡ j = omega arith in
    let width : c.width_of-width.result ≡ w = c.width_of-width.ensures ∙ ap (λ x. width_of (formula_of x)) c.deref-in-Chain.ensures in
    let formed = link_formed w j items link within c.index-link.ensures facts.2 in
    let before = chained_bits left (links_of (take j items)) in
    let late = bits (formula_of link.right) in
    let long : length before ≡ c.width_of-width.result =
    until_length w left j items (bits_length (formula_of c.in-Chain.first.value) facts.0) facts.2 ∙ sym width in
    let wide : length late ≡ c.width_of-width.result = bits_length (formula_of link.right) formed.2 ∙ (formed.1 ∙ sym width) in
    let result : reached_over c.loop-done.result (chained_bits left (links_of (take (c.len-count.result - c.loop-done.done) items))) ≡
    max (reached_over c.operands-result.result (chained_bits left (links_of (take (c.len-count.result - (c.loop-done.done + 1)) items))))
    (reached_over c.operands-result.result late) =
    ap (λ n. reached_over c.loop-done.result (chained_bits left (links_of (take n items)))) now
    ∙ (ap (reached_over c.loop-done.result) (links_until left j items link within c.index-link.ensures)
    ∙ (c.operands-result.ensures before late long wide
    ∙ ap (λ n. max (reached_over c.operands-result.result (chained_bits left (links_of (take n items)))) (reached_over c.operands-result.result late))
    (sym next))) in
    regrouped c.loop-done.most _ _ _ _ _ _ c.loop-done.invariant result c.gates_through-in-loop-done.ensures c.max-most-in-loop-done.ensures

pub operands-sides-requires : goal.operands-sides-requires
operands-sides-requires t c =
    let facts = subst IsWellFormed (ap formula_of c.in-Compare.is) c.requires in
    let some = some_width (formula_of c.in-Compare.left.value) facts.2 in
    let width : c.width_of-in-Compare.result ≡ width_of (formula_of c.in-Compare.left.value) =
    c.width_of-in-Compare.ensures ∙ ap (λ x. width_of (formula_of x)) c.deref-in-Compare.ensures in
    omega (arith, some, width)

pub returns-after-loop-place : goal.returns-after-loop-place
returns-after-loop-place t c =
    let items = c.in-Join.parts.items in
    let i = c.loop-place.place in
    let facts = subst IsWellFormed (join_is _ _ c.in-Join.is) c.requires in
    let count = parts_counted items in
    let end : c.len-last.result - 1 ≡ i = omega arith in
    let all : i + 1 ≡ length items = omega (arith, facts.0, count, end, c.len-last.ensures, c.in-Join.parts.ok.0) in
    let last = c.index.result.now in
    let at : last ≡ get_or items i last = c.index.ensures ∙ ap (λ n. get_or items n last) end in
    c.max.ensures ∙ (ap (max c.loop-place.most) (c.gates_through-in-Join.ensures
    ∙ ap (reached_over c.loop-place.rest) (sym (last_bits items i last all at))) ∙ c.loop-place.invariant.reached)

pub returns-in-Compare : goal.returns-in-Compare
returns-in-Compare t c =
    let is = ap formula_of c.in-Compare.is in
    let facts = subst IsWellFormed is c.requires in
    let e = formula_of c.in-Compare.left.value in
    let f = formula_of c.in-Compare.right.value in
    let width : c.width_of-in-Compare.result ≡ width_of e = c.width_of-in-Compare.ensures ∙ ap (λ x. width_of (formula_of x)) c.deref-in-Compare.ensures in
    let left : length (bits e) ≡ c.width_of-in-Compare.result = bits_length e facts.2 ∙ sym width in
    let right : length (bits f) ≡ c.width_of-in-Compare.result = bits_length f facts.3 ∙ (facts.1 ∙ sym width) in
    let sides = c.operands-sides.result in
    c.max-in-Compare.ensures
    ∙ (ap (λ k. max k c.gates_through-in-Compare-2.result)
    (c.gates_through-in-Compare.ensures ∙ ap (λ x. reached_over sides (bits (formula_of x))) c.deref-in-Compare-2.ensures)
    ∙ (ap (max (reached_over sides (bits e))) (c.gates_through-in-Compare-2.ensures
    ∙ ap (λ x. reached_over sides (bits (formula_of x))) c.deref-in-Compare-3.ensures)
    ∙ (sym (c.operands-sides.ensures (bits e) (bits f) left right) ∙ ap (λ g. reached_over c.args.behind (bits g)) (sym is))))

pub returns-after-loop-done : goal.returns-after-loop-done
returns-after-loop-done t c =
    let items = c.in-Chain.rest.items in
    let left = bits (formula_of c.in-Chain.first.value) in
    let none : c.len-count.result - c.loop-done.done ≡ 0 = omega arith in
    c.max-in-Chain.ensures ∙ (ap (max c.loop-done.most) (c.gates_through-in-Chain.ensures
    ∙ (ap (λ x. reached_over c.loop-done.result (bits (formula_of x))) c.deref-in-Chain-2.ensures
    ∙ ap (λ n. reached_over c.loop-done.result (chained_bits left (links_of (take n items)))) (sym none))) ∙ c.loop-done.invariant)
