use Rattle.std.proofs.Common.{◌≡◌, ◌∙◌, ◌-◌, ◌<◌, ℕ, List, [], length, get_or, take, drop, ap, sym, arith}
use Rattle.std.specs.Prelude.{slice_index_or}
use Rattle.std.proofs.lemmas.List.{get_or_read}
use Rattle.net_compose.specs.Cuts.{cut_begin}
use Rattle.net_compose.proofs.NamesCut.{cut_at, cut_length, start_within}
use Rattle.net_compose.proofs.names.Names.at.Goals as goal

pub cut_begin-from-requires : goal.cut_begin-from-requires
cut_begin-from-requires c =
    let ends = c.self.inside.ends.items in
    let count = cut_length c.self.inside.bytes.items 0 ends in
    let all = ap (λ (l : List (List ℕ)). length l) c.self.view_is in
    let same = ap (λ (l : List ℕ). length l) c.deref.ensures.value in
    omega (arith, count, all, same, c.requires)

pub index-end-requires : goal.index-end-requires
index-end-requires c =
    let ends = c.self.inside.ends.items in
    let count = cut_length c.self.inside.bytes.items 0 ends in
    let all = ap (λ (l : List (List ℕ)). length l) c.self.view_is in
    omega (arith, count, all, c.requires, c.self.inside.ends.ok)

pub slice_bounds-result-count : goal.slice_bounds-result-count
slice_bounds-result-count c =
    let bytes = c.self.inside.bytes.items in
    let ends = c.self.inside.ends.items in
    let place = c.args.place in
    let count = cut_length bytes 0 ends in
    let all = ap (λ (l : List (List ℕ)). length l) c.self.view_is in
    let within : place < length ends = omega (arith, count, all, c.requires) in
    let from = c.cut_begin-from.result in
    let begins : from ≡ cut_begin 0 ends place = c.cut_begin-from.ensures ∙ ap (λ (l : List ℕ). cut_begin 0 l place) c.deref.ensures.value in
    let end : c.index-end.result.now ≡ get_or ends place 0 = get_or_read ends place c.index-end.result.now within c.index-end.ensures 0 in
    let fits = start_within (length bytes) 0 ends place 0 c.self.invariant within in
    omega (arith, begins, end, fits.0, fits.1, c.self.inside.bytes.ok)

pub slice_bounds-result-start : goal.slice_bounds-result-start
slice_bounds-result-start c =
    let bytes = c.self.inside.bytes.items in
    let ends = c.self.inside.ends.items in
    let place = c.args.place in
    let count = cut_length bytes 0 ends in
    let all = ap (λ (l : List (List ℕ)). length l) c.self.view_is in
    let within : place < length ends = omega (arith, count, all, c.requires) in
    let from = c.cut_begin-from.result in
    let begins : from ≡ cut_begin 0 ends place = c.cut_begin-from.ensures ∙ ap (λ (l : List ℕ). cut_begin 0 l place) c.deref.ensures.value in
    let end : c.index-end.result.now ≡ get_or ends place 0 = get_or_read ends place c.index-end.result.now within c.index-end.ensures 0 in
    let fits = start_within (length bytes) 0 ends place 0 c.self.invariant within in
    omega (arith, begins, end, fits.0, fits.1, c.self.inside.bytes.ok)

pub slice_bounds-result-end : goal.slice_bounds-result-end
slice_bounds-result-end c =
    let bytes = c.self.inside.bytes.items in
    let ends = c.self.inside.ends.items in
    let place = c.args.place in
    let count = cut_length bytes 0 ends in
    let all = ap (λ (l : List (List ℕ)). length l) c.self.view_is in
    let within : place < length ends = omega (arith, count, all, c.requires) in
    let from = c.cut_begin-from.result in
    let begins : from ≡ cut_begin 0 ends place = c.cut_begin-from.ensures ∙ ap (λ (l : List ℕ). cut_begin 0 l place) c.deref.ensures.value in
    let end : c.index-end.result.now ≡ get_or ends place 0 = get_or_read ends place c.index-end.result.now within c.index-end.ensures 0 in
    let fits = start_within (length bytes) 0 ends place 0 c.self.invariant within in
    omega (arith, begins, end, fits.0, fits.1, c.self.inside.bytes.ok)

pub returns : goal.returns
returns c =
    let bytes = c.self.inside.bytes.items in
    let ends = c.self.inside.ends.items in
    let place = c.args.place in
    let count = cut_length bytes 0 ends in
    let all = ap (λ (l : List (List ℕ)). length l) c.self.view_is in
    let within : place < length ends = omega (arith, count, all, c.requires) in
    let from = c.cut_begin-from.result in
    let begins : from ≡ cut_begin 0 ends place = c.cut_begin-from.ensures ∙ ap (λ (l : List ℕ). cut_begin 0 l place) c.deref.ensures.value in
    let end : c.index-end.result.now ≡ get_or ends place 0 = get_or_read ends place c.index-end.result.now within c.index-end.ensures 0 in
    ap (λ l. take (c.index-end.result.now - from) (drop from l)) c.deref-2.ensures.value
    ∙ (ap (λ n. take (n - from) (drop from bytes)) end
    ∙ (ap (λ n. take (get_or ends place 0 - n) (drop n bytes)) begins
    ∙ (sym (cut_at bytes 0 ends place 0 within) ∙ ap (λ (l : List (List ℕ)). slice_index_or l place []) c.self.view_is)))
