-- Nodes by the times at which they are due: in buckets of one time each, and in a heap.
use Rattle.std.specs.Prelude.{◌≡◌, ℕ, ◌+◌, ◌-◌, ◌<◌, ◌≤◌, ◌%◌, Bool, not, ◌&&◌, ◌==◌, nat_lt, List, [], ◌∷◌, ◌++◌, length, map, slice_index, slice_index_or, All, Option, Some, None}
use Rattle.std.specs.BinaryHeap.{IsHeap}
use Rattle.std.specs.List.{sum_by}
use Rattle.std.specs.Ordering.{nat_cmp, ordering_then}
use Rattle.std.specs.declared.cmp.Ordering.{Ordering}
use Rattle.std.specs.declared.cmp.Reverse.{Reverse}
use Rattle.delay_script.specs.TimedRuns.{ComesNoLater}

-- nodes that are due at one time, and for how many there is room
pub record BucketValue : Type 0 where
  pub time : ℕ
  pub nodes : List ℕ
  pub room : ℕ

abbrev pub bucket_of : ℕ → List (Reverse ℕ) → ℕ → BucketValue
bucket_of time nodes room = record { time = time; nodes = map (λ (n : Reverse ℕ). n.0) nodes; room = room }

-- the time of each node beside it
abbrev pub entries_of : BucketValue → List (ℕ × ℕ)
entries_of b = map (λ (n : ℕ). (b.time, n)) b.nodes

abbrev pub entries_in : List BucketValue → List (ℕ × ℕ)
entries_in [] = []
entries_in (b ∷ bs) = entries_of b ++ entries_in bs

-- in descending order
abbrev pub IsDescending : List ℕ → Type 0
IsDescending ns = (k : ℕ) → k + 1 < length ns → slice_index ns (k + 1) ≤ slice_index ns k

abbrev pub last_node : List ℕ → ℕ
last_node ns = slice_index ns (length ns - 1)

abbrev pub bucket_at : List BucketValue → ℕ → BucketValue
bucket_at bs place = slice_index_or bs place (record { time = 0; nodes = []; room = 0 })

-- the bucket at this place has nodes, and they are due before those of that other one, if there is one
abbrev pub is_before : List BucketValue → ℕ → Option ℕ → Bool
is_before bs place None = not (length (bucket_at bs place).nodes == 0)
is_before bs place (Some other) =
    not (length (bucket_at bs place).nodes == 0) && nat_lt (bucket_at bs place).time (bucket_at bs other).time

-- of so many buckets the nodes of this one are due first
pub record IsFirstBucket (bs : List BucketValue) (count place : ℕ) : Type 0 where
  pub within : place < count
  pub some : 0 < length (bucket_at bs place).nodes
  pub first : (p : ℕ) → p < count → 0 < length (bucket_at bs p).nodes →
      (bucket_at bs place).time ≤ (bucket_at bs p).time

-- so many buckets have no nodes
abbrev pub AreEmpty : List BucketValue → ℕ → Type 0
AreEmpty bs count = (p : ℕ) → p < count → (bucket_at bs p).nodes ≡ []

-- one of the later times, if it has nodes: its place is the remainder of its time
pub record IsLater (reached_time place room : ℕ) (b : BucketValue) : Type 0 where
  pub room_is : room ≤ b.room
  pub after : 0 < length b.nodes → reached_time < b.time
  pub home : 0 < length b.nodes → b.time % 16 ≡ place

-- the bucket of the time that is reached, and those of the later times
pub record AreBuckets (reached : BucketValue) (later : List BucketValue) (room : ℕ) : Type 0 where
  pub descends : IsDescending reached.nodes
  pub room_is : room ≤ reached.room
  pub count : length later ≡ 16
  pub each : (place : ℕ) → place < 16 → IsLater reached.time place room (bucket_at later place)

-- the order of the heap: an earlier time, and at equal times a lesser node, is greater
abbrev pub sooner : Reverse (ℕ × ℕ) → Reverse (ℕ × ℕ) → Ordering
sooner x y = ordering_then (nat_cmp y.0.0 x.0.0) (nat_cmp y.0.1 x.0.1)

-- the buckets, and the heap in its order, with room for so many nodes in each
pub record IsCalendar (reached : BucketValue) (later : List BucketValue) (others : List (Reverse (ℕ × ℕ)))
    (slots room : ℕ) : Type 0 where
  pub buckets : AreBuckets reached later room
  pub ordered : IsHeap sooner others
  pub slots_are : room ≤ slots

-- the times and the nodes, and for how many there is room
pub record CalendarValue : Type 0 where
  pub entries : List (ℕ × ℕ)
  pub room : ℕ

abbrev pub others_of : List (Reverse (ℕ × ℕ)) → List (ℕ × ℕ)
others_of others = map (λ (e : Reverse (ℕ × ℕ)). e.0) others

abbrev pub calendar_of : BucketValue → List BucketValue → List (Reverse (ℕ × ℕ)) → ℕ → CalendarValue
calendar_of reached later others room =
    record { entries = entries_of reached ++ (entries_in later ++ others_of others); room = room }

-- the last node of the bucket comes before all of the heap
pub record LeadsAll (b : BucketValue) (others : List (Reverse (ℕ × ℕ))) : Type 0 where
  pub some : 0 < length b.nodes
  pub first : All (λ (e : Reverse (ℕ × ℕ)). ComesNoLater b.time (last_node b.nodes) e.0.0 e.0.1) others

-- the last node of the bucket, if there is one, comes no earlier than the first of the heap
abbrev pub FollowsFirst : BucketValue → List (Reverse (ℕ × ℕ)) → Type 0
FollowsFirst b others = 0 < length b.nodes → (0 < length others) × ((none : Reverse (ℕ × ℕ)) →
    ComesNoLater (slice_index_or others 0 none).0.0 (slice_index_or others 0 none).0.1 b.time (last_node b.nodes))

-- the heap's first is due before this time
abbrev pub IsDueBefore : List (Reverse (ℕ × ℕ)) → ℕ → Type 0
IsDueBefore others time =
    (0 < length others) × ((none : Reverse (ℕ × ℕ)) → (slice_index_or others 0 none).0.0 < time)

-- it is due before all nodes of these buckets
abbrev pub LeadsBuckets : List (Reverse (ℕ × ℕ)) → List BucketValue → Type 0
LeadsBuckets others bs = (place : ℕ) → place < length bs → 0 < length (bucket_at bs place).nodes →
    IsDueBefore others (bucket_at bs place).time

-- the first entry by time and node is taken, and all others stay, each as often (all sums over them agree)
pub record TakesFirst (e : ℕ × ℕ) (old new : List (ℕ × ℕ)) : Type 0 where
  pub first : All (λ (o : ℕ × ℕ). ComesNoLater e.0 e.1 o.0 o.1) old
  pub sums : (f : ℕ × ℕ → ℕ) → sum_by f old ≡ f e + sum_by f new
