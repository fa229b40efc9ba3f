-- How many literals the guards of drivers have, and so how much room a line takes.
use Rattle.std.proofs.Common.{◌≡◌, ◌∙◌, ℕ, suc, ◌+◌, ◌*◌, ◌≤◌, Bool, true, false, List, [], ◌∷◌, ◌++◌, length, map, All, refl, sym, ap, subst, arith}
use Rattle.std.specs.Prelude.{not, filter, if◌then◌else◌, Option, Some, None}
use Rattle.std.proofs.lemmas.List.{length-append, length-map}
use Rattle.std.proofs.lemmas.List.Elements.{All-nil, All-cons, All-head, All-tail, All-weaker, All-map}
use Rattle.std.proofs.lemmas.List.Sums.{sum_by-append, sum_by-cons}
use Rattle.prs_core.specs.declared.rule.Literal.{Literal}
use Rattle.prs_core.specs.declared.wires.Wires.{Wires}
use Rattle.prs_core.specs.Nets.{GuardValue, NodeRules, guard_literals, is_high, is_low}
use Rattle.prs_core.specs.Pairs.{Pair, no_rules, or_of, lows, rails_of}
use Rattle.reset_net.specs.Resets.{has_rules, held, forced, reset_guard, reset_literal}
use Rattle.function_blocks.specs.Functions.{truth, carried_on}
use Rattle.function_blocks.specs.Gates.{minterm, table, gate_rail}
use Rattle.function_blocks.specs.Waves.{rows_of}
use Rattle.function_blocks.specs.declared.rail.RailPattern.{RailPattern}
use Rattle.function_blocks.specs.declared.rail.RailPattern.TheVariants.{Undriven, Follow, Read, Gate}
use Rattle.function_blocks.specs.Drivers.{rail_driven}
use Rattle.net_compose.specs.declared.driver.Pattern.{Pattern}
use Rattle.net_compose.specs.declared.driver.Pattern.TheVariants.{Rail, Until, Latch, Behind, Site, Both, Kept, Written, Any, Joined, Wanted, Started, Turn}
use Rattle.net_compose.specs.Circuits.{reset_rules, each_reset, circuit_rules, circuit_net, side}
use Rattle.net_compose.specs.Drivers.{driven}
use Rattle.net_stream.specs.Rooms.{IsFew, IsRoomFor, HasRoomForLines}
use Rattle.net_compose.specs.Shapes.{listed}
use Rattle.net_stream.proofs.Puts.{one_count}

cons_count : (t : List Literal) (g : GuardValue) → guard_literals (t ∷ g) ≡ length t + guard_literals g
cons_count t g = sum_by-cons (λ (t : List Literal). length t) t g

two_count : (t u : List Literal) → guard_literals (t ∷ u ∷ []) ≡ length t + length u
two_count t u = cons_count t (u ∷ []) ∙ ap (λ n. length t + n) (one_count u)

-- one guard
pub record IsSmall (most : ℕ) (g : GuardValue) : Type 0 where
  pub literals : guard_literals g ≤ most
  pub terms : length g ≤ most

none_small : (most : ℕ) → IsSmall most []
none_small most = record { literals = omega arith; terms = omega arith }

one_small : (most : ℕ) (t : List Literal) → length t ≤ most → 1 ≤ most → IsSmall most (t ∷ [])
one_small most t few some = let count = one_count t in record { literals = omega (arith, count, few); terms = some }

singles_count : (ns : List ℕ) → guard_literals (map (λ k. is_high k ∷ []) ns) ≡ length ns
singles_count [] = refl
singles_count (n ∷ ns) =
    let e = cons_count (is_high n ∷ []) (map (λ k. is_high k ∷ []) ns) in
    let f = singles_count ns in
    omega (arith, e, f)

singles_small : (ns : List ℕ) (most : ℕ) → length ns ≤ most → IsSmall most (map (λ k. is_high k ∷ []) ns)
singles_small ns most few =
    let count = singles_count ns in
    let terms = length-map ns (λ k. is_high k ∷ []) in
    record { literals = omega (arith, count, few); terms = omega (arith, terms, few) }

or_small : (ns : List ℕ) (most : ℕ) → length ns + 24 ≤ most → IsSmall most (or_of ns).up × IsSmall most (or_of ns).down
or_small [] most few = (none_small most, none_small most)
or_small (n ∷ ns) most few =
    let count = length-map (n ∷ ns) is_low in
    (singles_small (n ∷ ns) most (omega (arith, few)), one_small most (lows (n ∷ ns)) (omega (arith, count, few)) (omega (arith, few)))

-- gates
minterm_count : (ps : List Pair) (bs : List Bool) → length (minterm ps bs) ≤ length ps
minterm_count [] bs = omega arith
minterm_count (p ∷ ps) [] = omega arith
minterm_count (p ∷ ps) (b ∷ bs) = let e = minterm_count ps bs in omega (arith, e)

rows_count : (ps : List Pair) (rows : List (List Bool)) → length ps ≤ 3 → guard_literals (map (minterm ps) rows) ≤ 3 * length rows
rows_count ps [] l = omega arith
rows_count ps (row ∷ rows) l =
    let e = cons_count (minterm ps row) (map (minterm ps) rows) in
    let here = minterm_count ps row in
    let rest = rows_count ps rows l in
    omega (arith, e, here, rest, l)

chosen_count : (b : Bool) (row : List Bool) (kept : List (List Bool)) (n : ℕ) → length kept ≤ n → length (if b then row ∷ kept else kept) ≤ suc n
chosen_count true row kept n l = omega (arith, l)
chosen_count false row kept n l = omega (arith, l)

kept_count : (f : List Bool → Bool) (rows : List (List Bool)) → length (filter f rows) ≤ length rows
kept_count f [] = omega arith
kept_count f (row ∷ rows) = chosen_count (f row) row (filter f rows) (length rows) (kept_count f rows)

gate_small : (left right : Pair) (below : Option Pair) (f : List Bool → Bool) (most : ℕ) → 24 ≤ most
    → IsSmall most (gate_rail (left ∷ right ∷ carried_on below) f).up × IsSmall most (gate_rail (left ∷ right ∷ carried_on below) f).down
gate_small left right None f most few =
    let kept : length (filter f (table 2)) ≤ 4 = kept_count f (table 2) in
    let count = rows_count (left ∷ right ∷ []) (filter f (table 2)) (omega arith) in
    let terms = length-map (filter f (table 2)) (minterm (left ∷ right ∷ [])) in (
      record { literals = omega (arith, count, kept, few); terms = omega (arith, terms, kept, few) },
      one_small most (lows (rails_of (left ∷ right ∷ []))) (omega (arith, few)) (omega (arith, few)),
    )
gate_small left right (Some carried) f most few =
    let kept : length (filter f (table 3)) ≤ 8 = kept_count f (table 3) in
    let count = rows_count (left ∷ right ∷ carried ∷ []) (filter f (table 3)) (omega arith) in
    let terms = length-map (filter f (table 3)) (minterm (left ∷ right ∷ carried ∷ [])) in (
      record { literals = omega (arith, count, kept, few); terms = omega (arith, terms, kept, few) },
      one_small most (lows (rails_of (left ∷ right ∷ carried ∷ []))) (omega (arith, few)) (omega (arith, few)),
    )

-- drivers
few_of : (most : ℕ) (r : NodeRules) → IsSmall most r.up → IsSmall most r.down → IsFew most r
few_of most r h k = record { up = h.literals; up_terms = h.terms; down = k.literals; down_terms = k.terms }

module _ (most : ℕ) where
  short : (g h : GuardValue) (t u : List Literal) → g ≡ t ∷ [] → h ≡ u ∷ [] → length t ≤ 2 → length u ≤ 2 → 24 ≤ most → IsFew most (record { up = g; down = h })
  short g h t u e f few least some =
      few_of most (record { up = g; down = h })
      (subst (IsSmall most) (sym e) (one_small most t (omega (arith, few, some)) (omega (arith, some))))
      (subst (IsSmall most) (sym f) (one_small most u (omega (arith, least, some)) (omega (arith, some))))

few_rail_is : (r : RailPattern) → IsFew 24 (rail_driven r)
few_rail_is Undriven = few_of 24 no_rules (none_small 24) (none_small 24)
few_rail_is (Follow request) = short 24 _ _ (is_high request ∷ []) (is_low request ∷ []) refl refl (omega arith) (omega arith) (omega arith)
few_rail_is (Read request rail) = short 24 _ _ (is_high request ∷ is_high rail ∷ []) (is_low request ∷ []) refl refl (omega arith) (omega arith) (omega arith)
few_rail_is (Gate function one left right below) =
    let both = gate_small left right below (rows_of one (truth function)) 24 (omega arith) in
    few_of 24 (rail_driven (Gate function one left right below)) both.0 both.1

pub few_is : (d : Pattern) → IsFew (length (listed d) + 24) (driven d)
few_is (Rail rail) = few_rail_is rail
few_is (Until request over) = short 24 _ _ (is_high request ∷ is_low over ∷ []) (is_high over ∷ []) refl refl (omega arith) (omega arith) (omega arith)
few_is (Latch set held) = short 24 _ _ (is_high set ∷ []) (is_low held ∷ []) refl refl (omega arith) (omega arith) (omega arith)
few_is (Behind latch answer) = short 24 _ _ (is_high latch ∷ is_low answer ∷ []) (is_low latch ∷ []) refl refl (omega arith) (omega arith) (omega arith)
few_is (Site request ack) = short 24 _ _ (is_high request ∷ is_high ack ∷ []) (is_low ack ∷ []) refl refl (omega arith) (omega arith) (omega arith)
few_is (Both left right) =
    short 24 _ _ (is_high left ∷ is_high right ∷ []) (is_low left ∷ is_low right ∷ []) refl refl (omega arith) (omega arith) (omega arith)
few_is (Kept set other reset) = short 24 _ _ (is_high set ∷ is_low other ∷ []) (is_high reset ∷ []) refl refl (omega arith) (omega arith) (omega arith)
few_is (Written x w) =
    let count = two_count (is_high w.t ∷ is_high x.t ∷ []) (is_high w.f ∷ is_high x.f ∷ []) in
    few_of 24 (driven (Written x w)) (record { literals = omega (arith, count); terms = omega arith })
    (one_small 24 (is_low w.t ∷ is_low w.f ∷ []) (omega arith) (omega arith))
few_is (Any inputs) =
    let most = length inputs.items + 24 in
    let both = or_small inputs.items most (omega arith) in
    few_of most (or_of inputs.items) both.0 both.1
few_is (Joined any answers) =
    let most = length answers.items + 24 in
    let count = length-map answers.items is_low in
    few_of most (driven (Joined any answers)) (singles_small answers.items most (omega arith))
    (one_small most (is_low any ∷ lows answers.items) (omega (arith, count)) (omega arith))
few_is (Wanted request wanted) =
    let most = length wanted.items + 24 in
    let count = length-map wanted.items is_high in
    few_of most (driven (Wanted request wanted)) (one_small most (map is_high wanted.items) (omega (arith, count)) (omega arith))
    (one_small most (is_low request ∷ []) (omega arith) (omega arith))
few_is (Started latch until rails) =
    let most = length rails.items + 24 in
    let count = length-map rails.items is_low in
    few_of most (driven (Started latch until rails)) (one_small most (is_high latch ∷ lows rails.items) (omega (arith, count)) (omega arith))
    (one_small most (is_low until ∷ []) (omega arith) (omega arith))
few_is (Turn request joined) =
    let count = two_count (is_high joined ∷ []) (is_low request ∷ []) in
    few_of 24 (driven (Turn request joined)) (one_small 24 (is_high request ∷ is_low joined ∷ []) (omega arith) (omega arith))
    (record { literals = omega (arith, count); terms = omega arith })

pub few_more : (most more : ℕ) → most ≤ more → (r : NodeRules) → IsFew most r → IsFew more r
few_more most more l r h =
    let a = h.up in
    let b = h.up_terms in
    let c = h.down in
    let d = h.down_terms in
    record {
      up = omega (arith, a, l);
      up_terms = omega (arith, b, l);
      down = omega (arith, c, l);
      down_terms = omega (arith, d, l);
    }

-- rooms
module _ (most capacity : ℕ) (room : 128 * (most + 1) ≤ capacity) where
  abbrev HasBoth : NodeRules → Type 0
  HasBoth r = IsRoomFor capacity r.up × IsRoomFor capacity r.down

  plain_room : (r : NodeRules) → IsFew most r → HasBoth r
  plain_room r h = let a = h.up in let b = h.down in (omega (arith, a, room), omega (arith, b, room))

  held_count : (reset : ℕ) (g : GuardValue) → guard_literals (held reset g) ≡ guard_literals g + length g
  held_count reset [] = refl
  held_count reset (t ∷ g) =
      let e = cons_count (t ++ reset_literal reset false ∷ []) (held reset g) in
      let f = cons_count t g in
      let n = length-append t (reset_literal reset false ∷ []) in
      let rest = held_count reset g in
      omega (arith, e, f, n, rest)

  forced_count : (reset : ℕ) (g : GuardValue) → guard_literals (forced reset g) ≡ guard_literals g + 1
  forced_count reset g =
      let e = sum_by-append (λ (t : List Literal). length t) g ((reset_literal reset true ∷ []) ∷ []) in
      let one = one_count (reset_literal reset true ∷ []) in
      omega (arith, e, one)

  reset_room : (reset : ℕ) (back : Bool) (g : GuardValue) → guard_literals g ≤ most → length g ≤ most → IsRoomFor capacity (reset_guard reset back g)
  reset_room reset true g few short = let e = forced_count reset g in omega (arith, e, few, room)
  reset_room reset false g few short = let e = held_count reset g in omega (arith, e, few, short, room)

  none_room : IsRoomFor capacity []
  none_room = omega (arith, room)

  rules_room : (reset : ℕ) (high : Bool) (r : NodeRules) → IsFew most r → HasBoth (reset_rules reset high r)
  rules_room reset high r h = chosen (has_rules r.up r.down)
    where
      chosen : (b : Bool) → HasBoth (if b then record { up = reset_guard reset high r.up; down = reset_guard reset (not high) r.down } else no_rules)
      chosen true = (reset_room reset high r.up h.up h.up_terms, reset_room reset (not high) r.down h.down h.down_terms)
      chosen false = (none_room, none_room)

  each_room : (reset : ℕ) (first : List Bool) (rs : List NodeRules) → All (IsFew most) rs → All HasBoth (each_reset reset first rs)
  each_room reset [] rs h = All-nil HasBoth
  each_room reset (b ∷ first) [] h = All-nil HasBoth
  each_room reset (b ∷ first) (r ∷ rs) h =
      All-cons HasBoth (reset_rules reset b r) (each_reset reset first rs) (rules_room reset b r (All-head (IsFew most) r rs h))
      (each_room reset first rs (All-tail (IsFew most) r rs h))

  all_room : (reset : Option ℕ) (first : List Bool) (rs : List NodeRules) → All (IsFew most) rs → All HasBoth (circuit_rules reset first rs)
  all_room None first rs h = All-weaker (IsFew most) HasBoth plain_room rs h
  all_room (Some reset) first rs h = each_room reset first rs h

  pub has_room : (names : List (List ℕ)) (first : List Bool) (rs : List NodeRules) (channels : List Wires) (reset : Option ℕ) → All (IsFew most) rs
      → HasRoomForLines (circuit_net names first rs channels reset) capacity
  has_room names first rs channels reset h =
      let all = all_room reset first rs h in
      record {
        lines = omega (arith, room);
        up = All-map (IsRoomFor capacity) (side true) (circuit_rules reset first rs)
            (All-weaker HasBoth (λ (r : NodeRules). IsRoomFor capacity r.up) (λ r k. k.0) (circuit_rules reset first rs) all);
        down = All-map (IsRoomFor capacity) (side false) (circuit_rules reset first rs)
            (All-weaker HasBoth (λ (r : NodeRules). IsRoomFor capacity r.down) (λ r k. k.1) (circuit_rules reset first rs) all);
      }
