use Rattle.std.proofs.Common.{◌≡◌, ℕ, ◌+◌, ◌-◌, ◌<◌, ◌∙◌, cond, true, false, List, length, get_or, set, sym, ap, arith}
use Rattle.std.specs.Prelude.{◌==◌, nat_lt}
use Rattle.std.proofs.lemmas.Bool.{and_parts, ltb-true, eqb-true}
use Rattle.std.proofs.lemmas.List.{get_or_read}
use Rattle.guard_rows.specs.Places.{total_to, readers_in, ends_at}
use Rattle.guard_rows.proofs.Totals.{total_push, total_set, one_weight}
use Rattle.guard_rows.proofs.Added.{readers_kept, reader_again, reader_first}
use Rattle.guard_rows.proofs.edges.NodeEdges.add.Goals as goal

record IsLast (es : List (ℕ × ℕ)) (reader last : ℕ) (here : ℕ × ℕ) : Type 0 where
  inside : last < length es
  leads : (get_or es last (0, 0)).0 ≡ reader
  is : here ≡ get_or es last (0, 0)

last_is : (es : List (ℕ × ℕ)) (reader count : ℕ) (here : ℕ × ℕ) → ends_at reader es ≡ true → count ≡ length es → here ≡ get_or es (count - 1) here →
    IsLast es reader (count - 1) here
last_is es reader count here ends all is =
    let both = and_parts (nat_lt 0 (length es)) ((get_or es (length es - 1) (0, 0)).0 == reader) ends in
    let some : 0 < length es = ltb-true 0 (length es) both.0 in
    let inside : count - 1 < length es = omega arith in
    record {
      inside = inside;
      leads = ap (λ k. (get_or es (k - 1) (0, 0)).0) all ∙ eqb-true _ reader both.1;
      is = get_or_read es (count - 1) here inside is (0, 0);
    }

pub overflow_add-index_mut : goal.overflow_add-index_mut
overflow_add-index_mut c =
    let es = c.self.inside.list.items in
    let ends : ends_at c.args.reader es ≡ true =
    ap (λ (xs : List (ℕ × ℕ)). ends_at c.args.reader xs) (sym c.deref.ensures.value) ∙ sym c.is_last.ensures ∙ c.if-is_last.true in
    let last = last_is es c.args.reader c.len-last.result c.index_mut.result.now ends (omega (arith, c.len-last.ensures, c.self.inside.list.ok.0))
    c.index_mut.ensures.value in
    omega (
      arith,
      c.requires,
      ap (λ (xs : List (ℕ × ℕ)). total_to c.args.reader xs) c.self.view_is,
      one_weight c.args.reader es (c.len-last.result - 1) last.inside last.leads,
      ap (λ (e : ℕ × ℕ). e.1) last.is,
    )

pub returns-then-is_last-clause-total : goal.returns-then-is_last-clause-total
returns-then-is_last-clause-total c = λ r.
    let es = c.self.inside.list.items in
    let reader = c.args.reader in
    let place = c.len-last.result - 1 in
    let ends : ends_at reader es ≡ true =
    ap (λ (xs : List (ℕ × ℕ)). ends_at reader xs) (sym c.deref.ensures.value) ∙ sym c.is_last.ensures ∙ c.if-is_last.true in
    let last = last_is es reader c.len-last.result c.index_mut.result.now ends (omega (arith, c.len-last.ensures, c.self.inside.list.ok.0))
    c.index_mut.ensures.value in
    ap (λ (e : ℕ × ℕ). total_to r (set es place (e.0, e.1 + c.args.weight))) last.is ∙ total_set r es place c.args.weight last.inside
    ∙ ap (λ k. total_to r es + cond (k == r) c.args.weight 0) last.leads
    ∙ ap (λ (xs : List (ℕ × ℕ)). total_to r xs + cond (reader == r) c.args.weight 0) c.self.view_is

pub returns-then-is_last-clause-readers : goal.returns-then-is_last-clause-readers
returns-then-is_last-clause-readers c = λ below is_there less are.
    let es = c.self.inside.list.items in
    let reader = c.args.reader in
    let place = c.len-last.result - 1 in
    let ends : ends_at reader es ≡ true =
    ap (λ (xs : List (ℕ × ℕ)). ends_at reader xs) (sym c.deref.ensures.value) ∙ sym c.is_last.ensures ∙ c.if-is_last.true in
    let last = last_is es reader c.len-last.result c.index_mut.result.now ends (omega (arith, c.len-last.ensures, c.self.inside.list.ok.0))
    c.index_mut.ensures.value in
    ap (λ (e : ℕ × ℕ). readers_in (set es place (e.0, e.1 + c.args.weight))) last.is
    ∙ readers_kept es place ((get_or es place (0, 0)).1 + c.args.weight) last.inside
    ∙ reader_again reader es below is_there ends less (ap readers_in c.self.view_is ∙ are)

pub returns-in_ok-push-clause-total : goal.returns-in_ok-push-clause-total
returns-in_ok-push-clause-total c = λ r.
    let es = c.self.inside.list.items in
    ap (total_to r) c.in_ok-push.ensures.items ∙ total_push r es (c.args.reader, c.args.weight)
    ∙ ap (λ (xs : List (ℕ × ℕ)). total_to r xs + cond (c.args.reader == r) c.args.weight 0) c.self.view_is

pub returns-in_ok-push-clause-readers : goal.returns-in_ok-push-clause-readers
returns-in_ok-push-clause-readers c = λ below is_there less are.
    let es = c.self.inside.list.items in
    let ends : ends_at c.args.reader es ≡ false =
    ap (λ (xs : List (ℕ × ℕ)). ends_at c.args.reader xs) (sym c.deref.ensures.value) ∙ sym c.is_last.ensures ∙ c.if-is_last.false in
    ap readers_in c.in_ok-push.ensures.items
    ∙ reader_first c.args.reader es below is_there c.args.weight ends (ap readers_in c.self.view_is ∙ are)
