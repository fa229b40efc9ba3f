-- The guards of drivers, by their forms.
use Rattle.std.proofs.Common.{◌≡◌, ℕ, ◌<◌, Bool, true, false, List, [], ◌∷◌, map, All, refl}
use Rattle.std.proofs.lemmas.List.Elements.{All-nil, All-cons, All-head, All-tail, All-weaker, All-map}
use Rattle.prs_core.specs.declared.rule.Literal.{Literal}
use Rattle.prs_core.specs.Nets.{IsBelow, is_high, is_low}
use Rattle.prs_core.specs.Pairs.{lows, rails_of, or_of}
use Rattle.function_blocks.specs.Functions.{carried_on}
use Rattle.function_blocks.specs.declared.rail.RailPattern.{RailPattern}
use Rattle.function_blocks.specs.declared.rail.RailPattern.TheVariants.{Undriven, Follow, Read, Gate}
use Rattle.function_blocks.specs.Drivers.{rail_driven}
use Rattle.net_compose.specs.declared.driver.Pattern.{Pattern}
use Rattle.net_compose.specs.declared.driver.Pattern.TheVariants.{Rail, Until, Latch, Behind, Site, Both, Kept, Written, Any, Joined, Wanted, Started, Turn}
use Rattle.net_compose.specs.Circuits.{side}
use Rattle.net_compose.specs.Drivers.{driven}
use Rattle.net_compose.specs.Shapes.{ShapeWithin, shaped, listed, up_shape, down_shape, lows_or_never, shape_of, up_rail_shape, down_rail_shape}

-- each form is that of the driver's guard
any_up : (ns : List ℕ) → map (λ k. is_high k ∷ []) ns ≡ (or_of ns).up
any_up [] = refl
any_up (n ∷ ns) = refl

any_down : (ns : List ℕ) → shaped (lows_or_never ns) ns ≡ (or_of ns).down
any_down [] = refl
any_down (n ∷ ns) = refl

up_rail_is : (r : RailPattern) → shaped (up_rail_shape r) [] ≡ (rail_driven r).up
up_rail_is Undriven = refl
up_rail_is (Follow request) = refl
up_rail_is (Read request rail) = refl
up_rail_is (Gate function one left right below) = refl

up_is : (d : Pattern) → shaped (up_shape d) (listed d) ≡ (driven d).up
up_is (Rail rail) = up_rail_is rail
up_is (Until request over) = refl
up_is (Latch set held) = refl
up_is (Behind latch answer) = refl
up_is (Site request ack) = refl
up_is (Both left right) = refl
up_is (Kept set other reset) = refl
up_is (Written x w) = refl
up_is (Any inputs) = any_up inputs.items
up_is (Joined any answers) = refl
up_is (Wanted request wanted) = refl
up_is (Started latch until rails) = refl
up_is (Turn request joined) = refl

down_rail_is : (r : RailPattern) → shaped (down_rail_shape r) [] ≡ (rail_driven r).down
down_rail_is Undriven = refl
down_rail_is (Follow request) = refl
down_rail_is (Read request rail) = refl
down_rail_is (Gate function one left right below) = refl

down_is : (d : Pattern) → shaped (down_shape d) (listed d) ≡ (driven d).down
down_is (Rail rail) = down_rail_is rail
down_is (Until request over) = refl
down_is (Latch set held) = refl
down_is (Behind latch answer) = refl
down_is (Site request ack) = refl
down_is (Both left right) = refl
down_is (Kept set other reset) = refl
down_is (Written x w) = refl
down_is (Any inputs) = any_down inputs.items
down_is (Joined any answers) = refl
down_is (Wanted request wanted) = refl
down_is (Started latch until rails) = refl
down_is (Turn request joined) = refl

pub shape_is : (up : Bool) (d : Pattern) → shaped (shape_of up d) (listed d) ≡ side up (driven d)
shape_is true d = up_is d
shape_is false d = down_is d

-- and all its nodes are near where those of both guards are
pub all_back : {X Y : Type 0} (P : Y → Type 0) (f : X → Y) (xs : List X) → All P (map f xs) → All (λ x. P (f x)) xs
all_back P f [] h = All-nil (λ x. P (f x))
all_back P f (x ∷ xs) h = All-cons (λ x. P (f x)) x xs (All-head P (f x) (map f xs) h) (all_back P f xs (All-tail P (f x) (map f xs) h))

module _ (count : ℕ) where
  abbrev Near : Literal → Type 0
  Near l = l.node < count

  abbrev Term : List Literal → Type 0
  Term t = All Near t

  lows_near : (ns : List ℕ) → IsBelow count (lows ns ∷ []) → All (λ n. n < count) ns
  lows_near ns h = all_back Near is_low ns (All-head Term (lows ns) [] h)

  each_near : (ns : List ℕ) → IsBelow count (map (λ k. is_high k ∷ []) ns) → All (λ n. n < count) ns
  each_near ns h = All-weaker (λ k. Term (is_high k ∷ [])) (λ n. n < count) (λ k t. All-head Near (is_high k) [] t) ns
      (all_back Term (λ k. is_high k ∷ []) ns h)

  any_near : (ns : List ℕ) → IsBelow count (or_of ns).up → All (λ n. n < count) ns
  any_near [] h = All-nil (λ n. n < count)
  any_near (n ∷ ns) h = each_near (n ∷ ns) h

  any_low : (ns : List ℕ) → IsBelow count (or_of ns).down → ShapeWithin count (lows_or_never ns) ns
  any_low [] h = h
  any_low (n ∷ ns) h = h

  up_rail_near : (r : RailPattern) → IsBelow count (rail_driven r).up → IsBelow count (rail_driven r).down → ShapeWithin count (up_rail_shape r) []
  up_rail_near Undriven h k = h
  up_rail_near (Follow request) h k = h
  up_rail_near (Read request rail) h k = h
  up_rail_near (Gate function one left right below) h k = lows_near (rails_of (left ∷ right ∷ carried_on below)) k

  up_near : (d : Pattern) → IsBelow count (driven d).up → IsBelow count (driven d).down → ShapeWithin count (up_shape d) (listed d)
  up_near (Rail rail) h k = up_rail_near rail h k
  up_near (Until request over) h k = h
  up_near (Latch set held) h k = h
  up_near (Behind latch answer) h k = h
  up_near (Site request ack) h k = h
  up_near (Both left right) h k = h
  up_near (Kept set other reset) h k = h
  up_near (Written x w) h k = h
  up_near (Any inputs) h k = any_near inputs.items h
  up_near (Joined any answers) h k = each_near answers.items h
  up_near (Wanted request wanted) h k = h
  up_near (Started latch until rails) h k = h
  up_near (Turn request joined) h k = h

  down_rail_near : (r : RailPattern) → IsBelow count (rail_driven r).down → ShapeWithin count (down_rail_shape r) []
  down_rail_near Undriven k = k
  down_rail_near (Follow request) k = k
  down_rail_near (Read request rail) k = k
  down_rail_near (Gate function one left right below) k = lows_near (rails_of (left ∷ right ∷ carried_on below)) k

  down_near : (d : Pattern) → IsBelow count (driven d).down → ShapeWithin count (down_shape d) (listed d)
  down_near (Rail rail) k = down_rail_near rail k
  down_near (Until request over) k = k
  down_near (Latch set held) k = k
  down_near (Behind latch answer) k = k
  down_near (Site request ack) k = k
  down_near (Both left right) k = k
  down_near (Kept set other reset) k = k
  down_near (Written x w) k = k
  down_near (Any inputs) k = any_low inputs.items k
  down_near (Joined any answers) k = k
  down_near (Wanted request wanted) k = k
  down_near (Started latch until rails) k = k
  down_near (Turn request joined) k = k

  pub shape_near : (up : Bool) (d : Pattern) → IsBelow count (driven d).up → IsBelow count (driven d).down → ShapeWithin count (shape_of up d) (listed d)
  shape_near true d h k = up_near d h k
  shape_near false d h k = down_near d k

  pub one_near : (node : ℕ) → node < count → IsBelow count ((is_high node ∷ []) ∷ [])
  one_near node l = All-cons Term (is_high node ∷ []) [] (All-cons Near (is_high node) [] l (All-nil Near)) (All-nil Term)

  pub lows_below : (ns : List ℕ) → All (λ n. n < count) ns → IsBelow count (lows ns ∷ [])
  lows_below ns h = All-cons Term (lows ns) [] (All-map Near is_low ns h) (All-nil Term)
