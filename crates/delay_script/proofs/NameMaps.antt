-- Lists by names, and what one more line changes in them.
use Rattle.std.proofs.Common.{◌≡◌, ◌≢◌, ℕ, zero, suc, ◌<◌, Bool, true, false, List, [], ◌∷◌, ◌++◌, length, get_or, set, map, refl, sym, ap, ◌∙◌, inl, inr, arith, Contains}
use Rattle.std.specs.Prelude.{◌⊎◌, ◌||◌, AllPairs, bytes_eq, if◌then◌else◌}
use Rattle.std.proofs.lemmas.Bool.{cases_order, or_parts, or_right}
use Rattle.std.proofs.lemmas.List.{get_or-map, get_or_default}
use Rattle.env_script.proofs.OneMore.{same, differ}
use Rattle.delay_script.specs.declared.line.DelayLine.{DelayLine}
use Rattle.delay_script.specs.DelayText.{has_line, rise_said, fall_said}
use Rattle.delay_script.specs.DelaySteps.{marked_at}
use Rattle.delay_script.specs.NameTables.{IsNodePlace}

abbrev pub AreDistinctNames : List (List ℕ) → Type 0
AreDistinctNames names = AllPairs (λ (a b : List ℕ). a ≢ b) names

-- places

pub place_contains : (names : List (List ℕ)) (name : List ℕ) (k : ℕ) → IsNodePlace names name k → Contains names name
place_contains names name k here = (k, here.within, get_or_default names k name [] here.within ∙ here.is)

-- a map that differs at one place

map_same : {X : Type 0} (f g : List ℕ → X) (names : List (List ℕ)) → ((j : ℕ) → j < length names → g (get_or names j []) ≡ f (get_or names j [])) →
    map g names ≡ map f names
map_same f g [] agree = refl
map_same {X} f g (n ∷ names) agree =
    let head : g n ≡ f n = agree 0 (omega arith) in
    let tail : map g names ≡ map f names = map_same f g names (λ j within. agree (suc j) (omega arith)) in
    ap (λ (x : X). x ∷ map g names) head ∙ ap (λ (xs : List X). f n ∷ xs) tail

map_set : {X : Type 0} (f g : List ℕ → X) (names : List (List ℕ)) (k : ℕ) (y : X) → k < length names → g (get_or names k []) ≡ y →
    ((j : ℕ) → j < length names → j ≢ k → g (get_or names j []) ≡ f (get_or names j [])) → map g names ≡ set (map f names) k y
map_set f g [] k y within here others = absurd (omega arith)
map_set {X} f g (n ∷ names) zero y within here others =
    let tail : map g names ≡ map f names = map_same f g names (λ j in_range. others (suc j) (omega arith) (omega arith)) in
    ap (λ (x : X). x ∷ map g names) here ∙ ap (λ (xs : List X). y ∷ xs) tail
map_set {X} f g (n ∷ names) (suc k) y within here others =
    let head : g n ≡ f n = others 0 (omega arith) (omega arith) in
    let tail : map g names ≡ set (map f names) k y =
    map_set f g names k y (omega arith) here (λ j in_range apart. others (suc j) (omega arith) (λ e. apart (omega arith))) in
    ap (λ (x : X). x ∷ map g names) head ∙ ap (λ (xs : List X). f n ∷ xs) tail

other_place : (names : List (List ℕ)) (name : List ℕ) (k j : ℕ) → AreDistinctNames names → IsNodePlace names name k → j < length names → j ≢ k →
    get_or names j [] ≢ name
other_place names name k j distinct here within apart e = by_order (cases_order j k)
  where
    by_order : (j ≡ k) ⊎ ((j < k) ⊎ (k < j)) → ⊥
    by_order (inl one) = apart one
    by_order (inr (inl before)) = distinct j k [] before here.within (e ∙ sym here.is)
    by_order (inr (inr behind)) = distinct k j [] behind within (here.is ∙ sym e)

changed_at : {X : Type 0} (f g : List ℕ → X) (names : List (List ℕ)) (name : List ℕ) (k : ℕ) (y : X) → AreDistinctNames names → IsNodePlace names name k →
    g name ≡ y → ((other : List ℕ) → other ≢ name → g other ≡ f other) → map g names ≡ set (map f names) k y
changed_at f g names name k y distinct here now others =
    map_set f g names k y here.within (ap g here.is ∙ now)
    (λ j within apart. others (get_or names j []) (other_place names name k j distinct here within apart))

-- what is said of a name behind one more line

rise_new : (ls : List DelayLine) (l : DelayLine) → has_line ls l.node ≡ false → rise_said (ls ++ l ∷ []) l.node ≡ l.up
rise_new [] l fresh = rw (same l.node l.node refl) refl
rise_new (m ∷ ls) l fresh =
    let parts = or_parts (bytes_eq m.node l.node) (has_line ls l.node) fresh in
    rw parts.0 (rise_new ls l parts.1)

rise_other : (ls : List DelayLine) (l : DelayLine) (name : List ℕ) → name ≢ l.node → rise_said (ls ++ l ∷ []) name ≡ rise_said ls name
rise_other [] l name apart = rw (differ l.node name (λ e. apart (sym e))) refl
rise_other (m ∷ ls) l name apart = ap (λ (n : ℕ). if bytes_eq m.node name then m.up else n) (rise_other ls l name apart)

fall_new : (ls : List DelayLine) (l : DelayLine) → has_line ls l.node ≡ false → fall_said (ls ++ l ∷ []) l.node ≡ l.down
fall_new [] l fresh = rw (same l.node l.node refl) refl
fall_new (m ∷ ls) l fresh =
    let parts = or_parts (bytes_eq m.node l.node) (has_line ls l.node) fresh in
    rw parts.0 (fall_new ls l parts.1)

fall_other : (ls : List DelayLine) (l : DelayLine) (name : List ℕ) → name ≢ l.node → fall_said (ls ++ l ∷ []) name ≡ fall_said ls name
fall_other [] l name apart = rw (differ l.node name (λ e. apart (sym e))) refl
fall_other (m ∷ ls) l name apart = ap (λ (n : ℕ). if bytes_eq m.node name then m.down else n) (fall_other ls l name apart)

line_new : (ls : List DelayLine) (l : DelayLine) → has_line (ls ++ l ∷ []) l.node ≡ true
line_new [] l = rw (same l.node l.node refl) refl
line_new (m ∷ ls) l = or_right (bytes_eq m.node l.node) _ (line_new ls l)

line_other : (ls : List DelayLine) (l : DelayLine) (name : List ℕ) → name ≢ l.node → has_line (ls ++ l ∷ []) name ≡ has_line ls name
line_other [] l name apart = rw (differ l.node name (λ e. apart (sym e))) refl
line_other (m ∷ ls) l name apart = ap (λ (b : Bool). bytes_eq m.node name || b) (line_other ls l name apart)

-- and of all names

pub rises_more : (names : List (List ℕ)) (ls : List DelayLine) (l : DelayLine) (k : ℕ) → AreDistinctNames names → IsNodePlace names l.node k →
    has_line ls l.node ≡ false → map (rise_said (ls ++ l ∷ [])) names ≡ set (map (rise_said ls) names) k l.up
rises_more names ls l k distinct here fresh =
    changed_at (rise_said ls) (rise_said (ls ++ l ∷ [])) names l.node k l.up distinct here (rise_new ls l fresh) (rise_other ls l)

pub falls_more : (names : List (List ℕ)) (ls : List DelayLine) (l : DelayLine) (k : ℕ) → AreDistinctNames names → IsNodePlace names l.node k →
    has_line ls l.node ≡ false → map (fall_said (ls ++ l ∷ [])) names ≡ set (map (fall_said ls) names) k l.down
falls_more names ls l k distinct here fresh =
    changed_at (fall_said ls) (fall_said (ls ++ l ∷ [])) names l.node k l.down distinct here (fall_new ls l fresh) (fall_other ls l)

pub marks_more : (names : List (List ℕ)) (ls : List DelayLine) (l : DelayLine) (k : ℕ) → AreDistinctNames names → IsNodePlace names l.node k →
    map (has_line (ls ++ l ∷ [])) names ≡ set (map (has_line ls) names) k true
marks_more names ls l k distinct here =
    changed_at (has_line ls) (has_line (ls ++ l ∷ [])) names l.node k true distinct here (line_new ls l) (line_other ls l)

-- whether the node had a line
pub mark_is : (names : List (List ℕ)) (ls : List DelayLine) (marks : List Bool) (name : List ℕ) (k : ℕ) → marks ≡ map (has_line ls) names →
    IsNodePlace names name k → marked_at marks k ≡ has_line ls name
mark_is names ls marks name k is here =
    ap (λ (bs : List Bool). marked_at bs k) is ∙ get_or-map (has_line ls) names k [] false here.within ∙ ap (has_line ls) here.is
