-- Where parts lie: the nodes of each are a range, and those of one part aren't those of another.
use Rattle.std.specs.Prelude.{◌≡◌, ℕ, ◌+◌, ◌<◌, ◌≤◌, List, [], ◌∷◌, ◌++◌, map, All, AllPairs, Contains}
use Rattle.width_check.specs.Processes.{Process, TypedProgram}
use Rattle.handshake_expand.specs.Answers.{answer_of}
use Rattle.handshake_expand.specs.Expansions.{BlockValue, Expansion, expansion}
use Rattle.handshake_expand.specs.Layout.{size_of, nodes_of}
use Rattle.handshake_expand.specs.PartTree.{PartTree, part, PartTrees, no_children, and_child}

-- `count` nodes from `from` on
pub record Range : Type 0 where
  pub from : ℕ
  pub count : ℕ

abbrev pub range : (from count : ℕ) → Range
range from count = record { from = from; count = count }

abbrev pub Has : Range → (node : ℕ) → Type 0
Has r node = (r.from ≤ node) × (node < r.from + r.count)

-- the whole range lies within the other one; the whole range lies before the other one
abbrev pub LiesIn : Range → Range → Type 0
LiesIn r outer = (outer.from ≤ r.from) × (r.from + r.count ≤ outer.from + outer.count)

abbrev pub LiesBefore : Range → Range → Type 0
LiesBefore r next = r.from + r.count ≤ next.from

abbrev pub range_of : PartTree → Range
range_of (part kind request answer from count _) = range from count

abbrev pub ranges_of : PartTrees → List Range
ranges_of no_children = []
ranges_of (and_child child more) = range_of child ∷ ranges_of more

-- the children of each part lie within it, one after another
abbrev mutual
  pub IsNested : PartTree → Type 0
  IsNested (part kind request answer from count children) =
      All (λ (r : Range). LiesIn r (range from count)) (ranges_of children) × AllPairs LiesBefore (ranges_of children)
      × AreNested children

  pub AreNested : PartTrees → Type 0
  AreNested no_children = Unit {0}
  AreNested (and_child child more) = IsNested child × AreNested more

-- the blocks of the channels and of the variables, and the root
abbrev pub block_range : BlockValue → Range
block_range b = range b.from b.count

abbrev pub outer_ranges : Expansion → List Range
outer_ranges x = map block_range x.channels ++ (map block_range x.vars ++ range_of x.root ∷ [])

-- each begins where the one before it ends
abbrev pub Follow : (from : ℕ) → List Range → (end : ℕ) → Type 0
Follow from [] end = from ≡ end
Follow from (r ∷ rs) end = (r.from ≡ from) × Follow (r.from + r.count) rs end

-- some range has the node
abbrev pub IsIn : List Range → (node : ℕ) → Type 0
IsIn rs node = (r : Range) × Contains rs r × Has r node
