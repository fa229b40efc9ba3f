use Rattle.std.proofs.Common.{◌≡◌, ℕ, ◌+◌, ◌-◌, ◌<◌, ◌∙◌, [], List, length, get_or, take, drop, sym, ap, arith}
use Rattle.std.proofs.lemmas.List.{get_or_read}
use Rattle.guard_rows.proofs.Parts.{parts_count, part_is}
use Rattle.guard_rows.proofs.edges.Edges.node.Goals as goal

pub index-requires : goal.index-requires
index-requires c =
    let s = c.self.inside in
    omega (arith, c.requires, ap (λ (es : List (List (ℕ × ℕ))). length es) c.self.view_is, parts_count s.starts.items s.list.items, s.starts.ok.0)

pub index-requires-2 : goal.index-requires-2
index-requires-2 c =
    let s = c.self.inside in
    omega (arith, c.requires, ap (λ (es : List (List (ℕ × ℕ))). length es) c.self.view_is, parts_count s.starts.items s.list.items, s.starts.ok.0)

pub part-requires-clause-ascend : goal.part-requires-clause-ascend
part-requires-clause-ascend c =
    let s = c.self.inside in
    let starts = s.starts.items in
    let n = c.args.node in
    let inside : n + 1 < length starts =
    omega (arith, c.requires, ap (λ (es : List (List (ℕ × ℕ))). length es) c.self.view_is, parts_count starts s.list.items) in
    omega (
      arith,
      c.self.invariant.ascend n inside,
      get_or_read starts n c.index.result.now (omega arith) c.index.ensures 0,
      get_or_read starts (n + 1) c.index-2.result.now inside c.index-2.ensures 0,
    )

pub part-requires-clause-within : goal.part-requires-clause-within
part-requires-clause-within c =
    let s = c.self.inside in
    let starts = s.starts.items in
    let n = c.args.node in
    let inside : n + 1 < length starts =
    omega (arith, c.requires, ap (λ (es : List (List (ℕ × ℕ))). length es) c.self.view_is, parts_count starts s.list.items) in
    omega (
      arith,
      c.self.invariant.within (n + 1) inside,
      get_or_read starts (n + 1) c.index-2.result.now inside c.index-2.ensures 0,
      ap length c.deref.ensures.value,
    )

pub returns : goal.returns
returns c =
    let s = c.self.inside in
    let starts = s.starts.items in
    let n = c.args.node in
    let inside : n + 1 < length starts =
    omega (arith, c.requires, ap (λ (es : List (List (ℕ × ℕ))). length es) c.self.view_is, parts_count starts s.list.items) in
    let from : c.index.result.now ≡ get_or starts n 0 = get_or_read starts n c.index.result.now (omega arith) c.index.ensures 0 in
    let to : c.index-2.result.now ≡ get_or starts (n + 1) 0 = get_or_read starts (n + 1) c.index-2.result.now inside c.index-2.ensures 0 in
    c.part.ensures ∙ ap (λ (es : List (ℕ × ℕ)). take (c.index-2.result.now - c.index.result.now) (drop c.index.result.now es)) c.deref.ensures.value
    ∙ ap (λ k. take (k - c.index.result.now) (drop c.index.result.now s.list.items)) to
    ∙ ap (λ k. take (get_or starts (n + 1) 0 - k) (drop k s.list.items)) from
    ∙ sym (part_is starts s.list.items n (omega (arith, inside, parts_count starts s.list.items)))
    ∙ ap (λ (es : List (List (ℕ × ℕ))). get_or es n []) c.self.view_is
