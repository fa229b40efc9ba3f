-- The forms of guards, and those of the guards of each kind of driver.
use Rattle.std.specs.Prelude.{ℕ, ◌<◌, Bool, List, [], ◌∷◌, map, All, if◌then◌else◌}
use Rattle.prs_core.specs.declared.rule.Literal.{Literal}
use Rattle.prs_core.specs.Nets.{GuardValue, IsBelow, is_high, is_low}
use Rattle.prs_core.specs.Pairs.{lows, rails_of}
use Rattle.function_blocks.specs.Functions.{truth, carried_on}
use Rattle.function_blocks.specs.Gates.{gate_rail}
use Rattle.function_blocks.specs.Waves.{rows_of}
use Rattle.function_blocks.specs.declared.rail.RailPattern.{RailPattern}
use Rattle.function_blocks.specs.declared.rail.RailPattern.TheVariants.{Undriven, Follow, Read, Gate}
use Rattle.net_compose.specs.declared.driver.Pattern.{Pattern}
use Rattle.net_compose.specs.declared.driver.Pattern.TheVariants.{Rail, Until, Latch, Behind, Site, Both, Kept, Written, Any, Joined, Wanted, Started, Turn}
use Rattle.net_compose.specs.declared.shape.Shape.{Shape}
use Rattle.net_compose.specs.declared.shape.Shape.TheVariants.{Never, One, Two, Either, Alike, Each, Highs, Lows, With, Rows, Neutral}

-- nodes that are all wanted high, or low
abbrev pub all_wanted : (high : Bool) → List ℕ → List Literal
all_wanted high nodes = map (λ n. record { node = n; high = high }) nodes

-- the guard of this form over these nodes
abbrev pub shaped : Shape → List ℕ → GuardValue
shaped Never ns = []
shaped (One l) ns = (l ∷ []) ∷ []
shaped (Two l m) ns = (l ∷ m ∷ []) ∷ []
shaped (Either l m) ns = (l ∷ []) ∷ (m ∷ []) ∷ []
shaped (Alike a b) ns = (is_high a.t ∷ is_high b.t ∷ []) ∷ (is_high a.f ∷ is_high b.f ∷ []) ∷ []
shaped Each ns = map (λ k. is_high k ∷ []) ns
shaped Highs ns = map is_high ns ∷ []
shaped Lows ns = lows ns ∷ []
shaped (With l) ns = (l ∷ lows ns) ∷ []
shaped (Rows function one left right below) ns =
    (gate_rail (left ∷ right ∷ carried_on below) (rows_of one (truth function))).up
shaped (Neutral left right below) ns = lows (rails_of (left ∷ right ∷ carried_on below)) ∷ []

-- all its nodes are among so many; of a gate, all rails of its inputs
abbrev pub ShapeWithin : ℕ → Shape → List ℕ → Type 0
ShapeWithin count (Rows function one left right below) ns =
    All (λ n. n < count) (rails_of (left ∷ right ∷ carried_on below))
ShapeWithin count (Neutral left right below) ns = All (λ n. n < count) (rails_of (left ∷ right ∷ carried_on below))
ShapeWithin count Each ns = All (λ n. n < count) ns
ShapeWithin count s ns = IsBelow count (shaped s ns)

-- the list of a driver
abbrev pub listed : Pattern → List ℕ
listed (Any inputs) = inputs.items
listed (Joined any answers) = answers.items
listed (Wanted request wanted) = wanted.items
listed (Started latch until rails) = rails.items
listed (Rail rail) = []
listed (Until request over) = []
listed (Latch set held) = []
listed (Behind latch answer) = []
listed (Site request ack) = []
listed (Both left right) = []
listed (Kept set other reset) = []
listed (Written x w) = []
listed (Turn request joined) = []

-- the form of the guard by which a node of an expression rises
abbrev pub up_rail_shape : RailPattern → Shape
up_rail_shape Undriven = Never
up_rail_shape (Follow request) = One (is_high request)
up_rail_shape (Read request rail) = Two (is_high request) (is_high rail)
up_rail_shape (Gate function one left right below) = Rows function one left right below

-- the form of the guard by which a node rises
abbrev pub up_shape : Pattern → Shape
up_shape (Rail rail) = up_rail_shape rail
up_shape (Until request over) = Two (is_high request) (is_low over)
up_shape (Latch set held) = One (is_high set)
up_shape (Behind latch answer) = Two (is_high latch) (is_low answer)
up_shape (Site request ack) = Two (is_high request) (is_high ack)
up_shape (Both left right) = Two (is_high left) (is_high right)
up_shape (Kept set other reset) = Two (is_high set) (is_low other)
up_shape (Written x w) = Alike w x
up_shape (Any inputs) = Each
up_shape (Joined any answers) = Each
up_shape (Wanted request wanted) = Highs
up_shape (Started latch until rails) = With (is_high latch)
up_shape (Turn request joined) = Two (is_high request) (is_low joined)

-- all listed nodes are low; no term, where none is listed
abbrev pub lows_or_never : List ℕ → Shape
lows_or_never [] = Never
lows_or_never (n ∷ ns) = Lows

-- the form of the guard by which a node of an expression falls
abbrev pub down_rail_shape : RailPattern → Shape
down_rail_shape Undriven = Never
down_rail_shape (Follow request) = One (is_low request)
down_rail_shape (Read request rail) = One (is_low request)
down_rail_shape (Gate function one left right below) = Neutral left right below

-- the form of the guard by which a node falls
abbrev pub down_shape : Pattern → Shape
down_shape (Rail rail) = down_rail_shape rail
down_shape (Until request over) = One (is_high over)
down_shape (Latch set held) = One (is_low held)
down_shape (Behind latch answer) = One (is_low latch)
down_shape (Site request ack) = One (is_low ack)
down_shape (Both left right) = Two (is_low left) (is_low right)
down_shape (Kept set other reset) = One (is_high reset)
down_shape (Written x w) = Two (is_low w.t) (is_low w.f)
down_shape (Any inputs) = lows_or_never inputs.items
down_shape (Joined any answers) = With (is_low any)
down_shape (Wanted request wanted) = One (is_low request)
down_shape (Started latch until rails) = One (is_low until)
down_shape (Turn request joined) = Either (is_high joined) (is_low request)

-- the form of the guard by which a node rises, or falls
abbrev pub shape_of : (up : Bool) → Pattern → Shape
shape_of up d = if up then up_shape d else down_shape d
