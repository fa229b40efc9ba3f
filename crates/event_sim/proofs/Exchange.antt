-- The list of a set where one node comes in place of another.
use Rattle.std.proofs.Common.{◌≡◌, ◌≢◌, ℕ, ◌+◌, ◌-◌, ◌<◌, ◌≤◌, Bool, true, false, List, length, get_or, set, drop, sym, ap, subst, ◌∙◌, inl, inr, arith}
use Rattle.std.specs.Prelude.{◌⊎◌, Err}
use Rattle.std.specs.List.{insert, remove}
use Rattle.std.proofs.lemmas.Bool.{cases_lt, cases_order, both_ways}
use Rattle.std.proofs.lemmas.List.{ext_get_or, length-set, length-drop, get_or-drop, get_or-set_same, get_or-set_other, drop-set-add}
use Rattle.std.proofs.lemmas.List.Edits.{length-insert, get_or-insert_below, get_or-insert_at, get_or-insert_above, length-remove, get_or-remove_below, get_or-remove_above}
use Rattle.event_sim.specs.Locality.{is_member, members, IsListPlace}
use Rattle.event_sim.proofs.Members.{put_there, take_there, rises_as}

-- what stood between the two places has moved by one
moved_over : (xs ys : List ℕ) (place to node : ℕ) → place < length xs → to < length xs → length ys ≡ length xs →
    ((k : ℕ) → k < place → k < to → get_or ys k 0 ≡ get_or xs k 0) → ((k : ℕ) → place < k → to < k → get_or ys k 0 ≡ get_or xs k 0) →
    ((k : ℕ) → place ≤ k → k < to → get_or ys k 0 ≡ get_or xs (k + 1) 0) → ((k : ℕ) → to ≤ k → k < place → get_or ys (k + 1) 0 ≡ get_or xs k 0) →
    set ys to node ≡ insert (remove xs place) to node
moved_over xs ys place to node there here count before behind down up =
    ext_get_or 0 (set ys to node) (insert rest to node) counts (λ k within. by_order k (cases_order k to))
  where
    rest : List ℕ
    rest = remove xs place

    left : length rest + 1 ≡ length xs
    left = length-remove xs place there

    at : to ≤ length rest
    at = omega (arith, left)

    counts : length (set ys to node) ≡ length (insert rest to node)
    counts = omega (arith, length-set ys to node, length-insert rest to node at, left)

    near : (k : ℕ) → k < to → (k < place) ⊎ (place ≤ k) → get_or ys k 0 ≡ get_or rest k 0
    near k less (inl front) = before k front less ∙ sym (get_or-remove_below xs place 0 k front there)
    near k less (inr past) = down k past less ∙ sym (get_or-remove_above xs place 0 k past there)

    far : (j : ℕ) → to ≤ j → (j < place) ⊎ (place ≤ j) → get_or ys (j + 1) 0 ≡ get_or rest j 0
    far j from (inl front) = up j from front ∙ sym (get_or-remove_below xs place 0 j front there)
    far j from (inr past) = behind (j + 1) (omega arith) (omega arith) ∙ sym (get_or-remove_above xs place 0 j past there)

    later : (j : ℕ) → to ≤ j → get_or (set ys to node) (j + 1) 0 ≡ get_or (insert rest to node) (j + 1) 0
    later j from =
        get_or-set_other ys to (j + 1) node 0 (omega arith) ∙ far j from (cases_lt j place) ∙ sym (get_or-insert_above rest to node 0 j from at)

    by_order : (k : ℕ) → (k ≡ to) ⊎ ((k < to) ⊎ (to < k)) → get_or (set ys to node) k 0 ≡ get_or (insert rest to node) k 0
    by_order k (inl same) =
        ap (λ j. get_or (set ys to node) j 0) same ∙ get_or-set_same ys to node 0 (omega (arith, count))
        ∙ sym (get_or-insert_at rest to node 0 at) ∙ ap (λ j. get_or (insert rest to node) j 0) (sym same)
    by_order k (inr (inl less)) =
        get_or-set_other ys to k node 0 (omega arith) ∙ near k less (cases_lt k place) ∙ sym (get_or-insert_below rest to node 0 k less at)
    by_order k (inr (inr more)) =
        let back : k ≡ k - 1 + 1 = omega arith in
        subst (λ i. get_or (set ys to node) i 0 ≡ get_or (insert rest to node) i 0) (sym back) (later (k - 1) (omega arith))

-- the same of a list that begins at some slot
pub put_at : (xs ys : List ℕ) (from place to node : ℕ) → from + place < length xs → from + to < length xs → length ys ≡ length xs →
    ((k : ℕ) → k < from + place → k < from + to → get_or ys k 0 ≡ get_or xs k 0) →
    ((k : ℕ) → from + place < k → from + to < k → get_or ys k 0 ≡ get_or xs k 0) →
    ((k : ℕ) → from + place ≤ k → k < from + to → get_or ys k 0 ≡ get_or xs (k + 1) 0) →
    ((k : ℕ) → from + to ≤ k → k < from + place → get_or ys (k + 1) 0 ≡ get_or xs k 0) →
    drop from (set ys (from + to) node) ≡ insert (remove (drop from xs) place) to node
put_at xs ys from place to node there here count before behind down up =
    drop-set-add from ys to node
    ∙ moved_over (drop from xs) (drop from ys) place to node (omega (arith, length-drop from xs)) (omega (arith, length-drop from xs))
    (omega (arith, length-drop from xs, length-drop from ys))
    (λ k front less. get_or-drop from ys k 0 ∙ before (from + k) (omega arith) (omega arith) ∙ sym (get_or-drop from xs k 0))
    (λ k past more. get_or-drop from ys k 0 ∙ behind (from + k) (omega arith) (omega arith) ∙ sym (get_or-drop from xs k 0))
    (λ k past less. get_or-drop from ys k 0 ∙ down (from + k) (omega arith) (omega arith) ∙ next xs k ∙ sym (get_or-drop from xs (k + 1) 0))
    (λ k more front. get_or-drop from ys (k + 1) 0 ∙ sym (next ys k) ∙ up (from + k) (omega arith) (omega arith) ∙ sym (get_or-drop from xs k 0))
  where
    next : (zs : List ℕ) (k : ℕ) → get_or zs (from + k + 1) 0 ≡ get_or zs (from + (k + 1)) 0
    next zs k = ap (λ i. get_or zs i 0) (omega arith)

-- where a node is inserted once another one is gone

pub stays_here : (marks : List Bool) (list : List ℕ) (place node : ℕ) → list ≡ members marks → place < length list →
    (0 < place → get_or list (place - 1) 0 < node) → (place + 1 < length list → node < get_or list (place + 1) 0) →
    IsListPlace (remove list place) node (Err place)
stays_here marks list place node are within before behind = (
  omega (arith, length-remove list place within),
  λ k less. let up = rises_as marks list are k (place - 1) (omega arith) (omega arith) in
      let under = before (omega arith) in
      omega (arith, get_or-remove_below list place 0 k less within),
  λ k from bound. let up = rises_as marks list are (place + 1) (k + 1) (omega arith) (omega (arith, length-remove list place within)) in
      let over = behind (omega (arith, length-remove list place within)) in
      omega (arith, get_or-remove_above list place 0 k from within),
)

pub before_gone : (list : List ℕ) (place node to : ℕ) → place < length list → to ≤ place → IsListPlace list node (Err to) →
    IsListPlace (remove list place) node (Err to)
before_gone list place node to within front found = (
  omega (arith, length-remove list place within),
  λ k less. let under = found.1 k less in omega (arith, get_or-remove_below list place 0 k (omega arith) within),
  λ k from bound. above k from bound (cases_lt k place),
)
  where
    above : (k : ℕ) → to ≤ k → k < length (remove list place) → (k < place) ⊎ (place ≤ k) → node < get_or (remove list place) k 0
    above k from bound (inl less) =
        let over = found.2 k from (omega (arith, length-remove list place within)) in
        omega (arith, get_or-remove_below list place 0 k less within)
    above k from bound (inr past) =
        let over = found.2 (k + 1) (omega arith) (omega (arith, length-remove list place within)) in
        omega (arith, get_or-remove_above list place 0 k past within)

pub past_gone : (list : List ℕ) (place node to : ℕ) → place < length list → place < to → IsListPlace list node (Err to) →
    IsListPlace (remove list place) node (Err (to - 1))
past_gone list place node to within behind found = (
  omega (arith, length-remove list place within, found.0),
  λ k less. under k less (cases_lt k place),
  λ k from bound. let over = found.2 (k + 1) (omega arith) (omega (arith, length-remove list place within)) in
      omega (arith, get_or-remove_above list place 0 k (omega arith) within),
)
  where
    under : (k : ℕ) → k < to - 1 → (k < place) ⊎ (place ≤ k) → get_or (remove list place) k 0 < node
    under k less (inl front) = let here = found.1 k (omega arith) in omega (arith, get_or-remove_below list place 0 k front within)
    under k less (inr past) = let here = found.1 (k + 1) (omega arith) in omega (arith, get_or-remove_above list place 0 k past within)

pub exchanged : (marks : List Bool) (list : List ℕ) (gone node place to : ℕ) → list ≡ members marks → gone < length marks → is_member marks gone ≡ true →
    node < length marks → is_member marks node ≡ false → place < length list → get_or list place 0 ≡ gone → IsListPlace (remove list place) node (Err to) →
    insert (remove list place) to node ≡ members (set (set marks gone false) node true)
exchanged marks list gone node place to are there is within isnt bound here found =
    put_there (set marks gone false) (remove list place) node to (take_there marks list gone place are there is bound here)
    (omega (arith, length-set marks gone false)) (get_or-set_other marks gone node false false apart ∙ isnt) found.0 found.1 found.2
  where
    apart : node ≢ gone
    apart same = both_ways (is_member marks gone) (ap (is_member marks) (sym same) ∙ isnt) is
