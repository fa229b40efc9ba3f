-- The nodes that the environment moves, by number and by name.
use Rattle.std.proofs.Common.{◌≡◌, ◌≢◌, ℕ, ◌+◌, ◌-◌, ◌<◌, ◌≤◌, inl, inr, Bool, true, false, Some, List, [], ◌∷◌, ◌++◌, length, map, get_or, take, drop, set, refl, ap, sym, ◌∙◌, subst, arith}
use Rattle.std.specs.Prelude.{◌||◌, ◌&&◌, ◌==◌, ◌⊎◌, All, AllPairs, bytes_eq, codes, replicate}
use Rattle.std.specs.List.{list_any}
use Rattle.std.specs.Cmp.Lexicographic.{bytes_decides}
use Rattle.std.proofs.lemmas.Bool.{cases_lt, eq-eqb, ne_eqb, false_from_ne_true}
use Rattle.std.proofs.lemmas.List.{get_or-set_same, get_or-set_other, get_or-replicate, length-set, length-replicate, take_more, take_all, drop_all, append-nil, map_push}
use Rattle.std.proofs.lemmas.List.Elements.{All-get_or}
use Rattle.std.proofs.lemmas.List.Folds.{list_any-append}
use Rattle.chp_base.specs.declared.channel.Channel.{Channel}
use Rattle.chp_base.specs.declared.channel.Kind.{Kind}
use Rattle.chp_base.specs.declared.channel.Kind.TheVariants.{In, Out, Chan}
use Rattle.prs_core.specs.declared.wires.Wires.{Wires}
use Rattle.prs_core.specs.Nets.{wires_from_outside, rail_names, ack_name}
use Rattle.prs_file.specs.DrivenTold.{AreDriven, HasItsReset}
use Rattle.prs_file.specs.Indexes.{place_in}
use Rattle.prs_file.specs.NodesTold.{IsNodes}
use Rattle.prs_file.specs.Reading.{outside_of}
use Rattle.prs_file.specs.RulesTold.{is_driven}
use Rattle.prs_file.specs.WiresFound.{AreFound, IsWiredAmong}
use Rattle.prs_file.proofs.Wirings.{place_found, numbers_within}

abbrev Distinct : List (List ℕ) → Type 0
Distinct names = AllPairs (λ (a b : List ℕ). a ≢ b) names

-- distinct names at different places
pub apart_at : (names : List (List ℕ)) (i j : ℕ) → Distinct names → i < length names → j < length names → i ≢ j → get_or names i [] ≢ get_or names j []
apart_at names i j all within below apart = by_order (cases_lt i j)
  where
    by_order : (i < j) ⊎ (j ≤ i) → get_or names i [] ≢ get_or names j []
    by_order (inl less) = all i j [] less below
    by_order (inr more) = λ e. all j i [] (omega (arith, apart)) within (sym e)

-- a wire by name and by number
same_wire : (names : List (List ℕ)) (w : List ℕ) (k n : ℕ) → Distinct names → n < length names → place_in names w ≡ Some k →
    bytes_eq (get_or names n []) w ≡ (k == n)
same_wire names w k n all within at = by_order (cases_lt k n) (cases_lt n k)
  where
    found : (k < length names) × (get_or names k [] ≡ w)
    found = place_found names w k at

    other : k ≢ n → bytes_eq (get_or names n []) w ≡ (k == n)
    other apart = false_from_ne_true _ (λ e. apart_at names n k all within found.0 (λ is. apart (sym is)) ((bytes_decides (get_or names n []) w).0 e
        ∙ sym found.1)) ∙ sym (ne_eqb k n apart)

    by_order : (k < n) ⊎ (n ≤ k) → (n < k) ⊎ (k ≤ n) → bytes_eq (get_or names n []) w ≡ (k == n)
    by_order (inl less) o = other (λ is. absurd (omega arith))
    by_order (inr more) (inl less) = other (λ is. absurd (omega arith))
    by_order (inr more) (inr most) =
        let is : k ≡ n = omega arith in
        (bytes_decides (get_or names n []) w).1 (ap (λ m. get_or names m []) (sym is) ∙ found.1) ∙ sym (eq-eqb k n is)

same_wires : (names wires : List (List ℕ)) (numbers : List ℕ) (n : ℕ) → Distinct names → n < length names → AreFound names wires numbers →
    list_any (bytes_eq (get_or names n [])) wires ≡ list_any (λ k. k == n) numbers
same_wires names [] [] n all within found = refl
same_wires names [] (k ∷ numbers) n all within found = absurd (cc found)
same_wires names (w ∷ wires) [] n all within found = absurd (cc found)
same_wires names (w ∷ wires) (k ∷ numbers) n all within found =
    let at : place_in names w ≡ Some k = cc found in
    let rest : AreFound names wires numbers = cc found in
    rw (same_wire names w k n all within at, same_wires names wires numbers n all within rest) refl

-- the rails and the acknowledge, found together
found_parts : (names rails : List (List ℕ)) (ack : List ℕ) (numbers : List ℕ) (n : ℕ) → AreFound names (rails ++ ack ∷ []) (numbers ++ n ∷ []) →
    AreFound names rails numbers × (place_in names ack ≡ Some n)
found_parts names [] ack [] n found = (refl, cc found)
found_parts names [] ack (m ∷ []) n found = absurd (cc found)
found_parts names [] ack (m ∷ k ∷ numbers) n found = absurd (cc found)
found_parts names (r ∷ []) ack [] n found = absurd (cc found)
found_parts names (r ∷ s ∷ rails) ack [] n found = absurd (cc found)
found_parts names (r ∷ rails) ack (m ∷ numbers) n found =
    let at : place_in names r ≡ Some m = cc found in
    let rest : AreFound names (rails ++ ack ∷ []) (numbers ++ n ∷ []) = cc found in
    let parts = found_parts names rails ack numbers n rest in
    (ap (λ o. o ∷ map (place_in names) rails) at ∙ ap (λ os. Some m ∷ os) parts.0, parts.1)

pub wired_parts : (names : List (List ℕ)) (first : List Bool) (w : Wires) → IsWiredAmong names first w →
    AreFound names (rail_names w.channel.name w.channel.width) w.rails × (place_in names (ack_name w.channel.name) ≡ Some w.ack)
wired_parts names first w wired = found_parts names (rail_names w.channel.name w.channel.width) (ack_name w.channel.name) w.rails w.ack wired.found

pub outside_found : (names : List (List ℕ)) (first : List Bool) (w : Wires) → IsWiredAmong names first w →
    AreFound names (outside_of w.channel) (wires_from_outside w.channel.kind w.rails w.ack)
outside_found names first w wired = by_kind w.channel.kind refl
  where
    parts : AreFound names (rail_names w.channel.name w.channel.width) w.rails × (place_in names (ack_name w.channel.name) ≡ Some w.ack)
    parts = wired_parts names first w wired

    by_kind : (k : Kind) → w.channel.kind ≡ k → AreFound names (outside_of w.channel) (wires_from_outside w.channel.kind w.rails w.ack)
    by_kind In is = rw is parts.0
    by_kind Out is = rw is (ap (λ o. o ∷ []) parts.1)
    by_kind Chan is = rw is refl

or_more : (a b x y : Bool) → ((a || (b || x)) || y) ≡ (a || (b || (x || y)))
or_more true b x y = refl
or_more false true x y = refl
or_more false false x y = refl

or_nothing : (x : Bool) → (x || false) ≡ x
or_nothing true = refl
or_nothing false = refl

driven_push : (reset : Bool) (cs : List Channel) (c : Channel) (name : List ℕ) →
    is_driven reset (cs ++ c ∷ []) name ≡ (is_driven reset cs name || list_any (bytes_eq name) (outside_of c))
driven_push reset cs c name =
    let p : Channel → Bool = λ c. list_any (bytes_eq name) (outside_of c) in
    ap (λ b. bytes_eq name (codes "go") || ((reset && bytes_eq name (codes "reset")) || b)) (list_any-append p cs (c ∷ [])
    ∙ ap (λ b. list_any p cs || b) (or_nothing (p c)))
    ∙ sym (or_more (bytes_eq name (codes "go")) (reset && bytes_eq name (codes "reset")) (list_any p cs) (p c))

-- one channel more
pub driven_more : (reset : Bool) (names : List (List ℕ)) (first : List Bool) (ws : List Wires) (w : Wires) (old new : List Bool) → Distinct names →
    IsWiredAmong names first w → AreDriven reset (map (λ (w : Wires). w.channel) ws) names old → length new ≡ length old →
    ((n : ℕ) → get_or new n false ≡ (get_or old n false || list_any (λ k. k == n) (wires_from_outside w.channel.kind w.rails w.ack))) →
    AreDriven reset (map (λ (w : Wires). w.channel) (ws ++ w ∷ [])) names new
driven_more reset names first ws w old new all wired driven same more = record {
  count = same ∙ driven.count;
  each = λ n within.
      more n ∙ ap (λ b. b || list_any (λ k. k == n) (wires_from_outside w.channel.kind w.rails w.ack)) (driven.each n within)
      ∙ ap (λ b. is_driven reset (map (λ (w : Wires). w.channel) ws) (get_or names n []) || b)
      (sym (same_wires names (outside_of w.channel) (wires_from_outside w.channel.kind w.rails w.ack) n all within (outside_found names first w wired)))
      ∙ sym (driven_push reset (map (λ (w : Wires). w.channel) ws) w.channel (get_or names n []))
      ∙ ap (λ cs. is_driven reset cs (get_or names n [])) (sym (map_push (λ (w : Wires). w.channel) ws w));
}

pub wires_within : (names : List (List ℕ)) (first : List Bool) (w : Wires) → IsWiredAmong names first w →
    All (λ n. n < length names) w.rails × (w.ack < length names)
wires_within names first w wired =
    let parts = wired_parts names first w wired in
    (numbers_within names (rail_names w.channel.name w.channel.width) w.rails parts.0, (place_found names (ack_name w.channel.name) w.ack parts.1).0)

-- one node marked
pub set_true : (xs : List Bool) (i n : ℕ) → i < length xs → get_or (set xs i true) n false ≡ ((i == n) || get_or xs n false)
set_true xs i n within = by_order (cases_lt i n) (cases_lt n i)
  where
    other : n ≢ i → get_or (set xs i true) n false ≡ ((i == n) || get_or xs n false)
    other apart = get_or-set_other xs i n true false apart ∙ ap (λ b. b || get_or xs n false) (sym (ne_eqb i n (λ e. apart (sym e))))

    by_order : (i < n) ⊎ (n ≤ i) → (n < i) ⊎ (i ≤ n) → get_or (set xs i true) n false ≡ ((i == n) || get_or xs n false)
    by_order (inl less) o = other (λ is. absurd (omega arith))
    by_order (inr more) (inl less) = other (λ is. absurd (omega arith))
    by_order (inr more) (inr most) =
        let is : i ≡ n = omega arith in
        ap (λ m. get_or (set xs i true) m false) (sym is) ∙ get_or-set_same xs i true false within ∙ ap (λ b. b || get_or xs n false) (sym (eq-eqb i n is))

swap_or : (a b x : Bool) → (a || (b || x)) ≡ (b || (x || (a || false)))
swap_or true true x = refl
swap_or true false true = refl
swap_or true false false = refl
swap_or false true x = refl
swap_or false false true = refl
swap_or false false false = refl

pub mark_more : (old now : List Bool) (nodes : List ℕ) (i node n : ℕ) → i < length nodes → node ≡ get_or nodes i 0 → node < length now →
    get_or now n false ≡ (get_or old n false || list_any (λ k. k == n) (take i nodes)) →
    get_or (set now node true) n false ≡ (get_or old n false || list_any (λ k. k == n) (take (i + 1) nodes))
mark_more old now nodes i node n within is below so_far =
    let p : ℕ → Bool = λ k. k == n in
    let more : list_any p (take (i + 1) nodes) ≡ (list_any p (take i nodes) || (p node || false)) =
    ap (list_any p) (take_more nodes i 0 within ∙ ap (λ k. take i nodes ++ k ∷ []) (sym is)) ∙ list_any-append p (take i nodes) (node ∷ []) in
    set_true now node n below ∙ ap (λ b. p node || b) so_far ∙ swap_or (p node) (get_or old n false) (list_any p (take i nodes))
    ∙ ap (λ b. get_or old n false || b) (sym more)

-- the nodes of the file itself
pub name_at_is : (names : List (List ℕ)) (m n : ℕ) (name : List ℕ) → Distinct names → m < length names → n < length names → get_or names m [] ≡ name →
    bytes_eq (get_or names n []) name ≡ (m == n)
name_at_is names m n name all below within is = by_order (cases_lt m n) (cases_lt n m)
  where
    other : m ≢ n → bytes_eq (get_or names n []) name ≡ (m == n)
    other apart = false_from_ne_true _ (λ e. apart_at names n m all within below (λ is. apart (sym is)) ((bytes_decides (get_or names n []) name).0 e ∙ sym is))
        ∙ sym (ne_eqb m n apart)

    by_order : (m < n) ⊎ (n ≤ m) → (n < m) ⊎ (m ≤ n) → bytes_eq (get_or names n []) name ≡ (m == n)
    by_order (inl less) o = other (λ is. absurd (omega arith))
    by_order (inr more) (inl less) = other (λ is. absurd (omega arith))
    by_order (inr more) (inr most) =
        let same : m ≡ n = omega arith in
        (bytes_decides (get_or names n []) name).1 (ap (λ k. get_or names k []) (sym same) ∙ is) ∙ sym (eq-eqb m n same)

go_alone : (names : List (List ℕ)) (n : ℕ) → n < length names → get_or (set (replicate (length names) false) 0 true) n false ≡ (0 == n)
go_alone names n within =
    set_true (replicate (length names) false) 0 n (omega (arith, length-replicate (length names) false))
    ∙ ap (λ b. (0 == n) || b) (get_or-replicate (length names) n false false within) ∙ or_nothing (0 == n)

pub own_plain : (version : ℕ) (names : List (List ℕ)) (first driven : List Bool) → IsNodes version names first → (version == 2) ≡ false →
    driven ≡ set (replicate (length names) false) 0 true → AreDriven (version == 2) [] names driven
own_plain version names first driven nodes plain is = subst (AreDriven (version == 2) [] names) (sym is) (record {
  count = omega (arith, length-set (replicate (length names) false) 0 true, length-replicate (length names) false);
  each = λ n within.
      go_alone names n within ∙ sym (name_at_is names 0 n (codes "go") nodes.distinct (omega (arith, nodes.some)) within nodes.go)
      ∙ sym (ap (λ b. bytes_eq (get_or names n []) (codes "go") || ((b && bytes_eq (get_or names n []) (codes "reset")) || false)) plain
      ∙ or_nothing (bytes_eq (get_or names n []) (codes "go")));
})

swap_two : (a b : Bool) → (a || b) ≡ (b || (a || false))
swap_two true true = refl
swap_two true false = refl
swap_two false true = refl
swap_two false false = refl

pub own_reset : (version : ℕ) (names : List (List ℕ)) (first driven : List Bool) → IsNodes version names first → HasItsReset version names first →
    (version == 2) ≡ true → driven ≡ set (set (replicate (length names) false) 0 true) (length names - 1) true → AreDriven (version == 2) [] names driven
own_reset version names first driven nodes reset with is = subst (AreDriven (version == 2) [] names) (sym is) (record {
  count = omega (
    arith,
    length-set (set (replicate (length names) false) 0 true) (length names - 1) true,
    length-set (replicate (length names) false) 0 true,
    length-replicate (length names) false,
  );
  each = λ n within.
      set_true (set (replicate (length names) false) 0 true) (length names - 1) n (omega (
        arith,
        nodes.some,
        length-set (replicate (length names) false) 0 true,
        length-replicate (length names) false,
      ))
      ∙ ap (λ b. (length names - 1 == n) || b) (go_alone names n within)
      ∙ swap_two (length names - 1 == n) (0 == n)
      ∙ ap (λ b. b || ((length names - 1 == n) || false)) (sym (name_at_is names 0 n (codes "go") nodes.distinct (omega (arith, nodes.some)) within nodes.go))
      ∙ ap (λ b. bytes_eq (get_or names n []) (codes "go") || (b || false))
      (sym (name_at_is names (length names - 1) n (codes "reset") nodes.distinct (omega (arith, nodes.some)) within (reset with).name))
      ∙ sym (ap (λ b. bytes_eq (get_or names n []) (codes "go") || ((b && bytes_eq (get_or names n []) (codes "reset")) || false)) with);
})

pub written : (n : ℕ) (new old : List Bool) → length new ≡ length old → n ≡ length old → take n (new ++ drop (length new) old) ≡ new
written n new old same count =
    ap (λ xs. take n (new ++ xs)) (drop_all (length new) old (omega (arith, same))) ∙ ap (take n) (append-nil new) ∙ take_all n new (omega (arith, same, count))

pub wired_item : (names : List (List ℕ)) (first : List Bool) (ws : List Wires) (i : ℕ) (w : Wires) → All (IsWiredAmong names first) ws → i < length ws →
    w ≡ get_or ws i w → IsWiredAmong names first w
wired_item names first ws i w all within is = subst (IsWiredAmong names first) (sym is) (All-get_or (IsWiredAmong names first) ws i w within all)
