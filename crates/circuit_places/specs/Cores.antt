-- The own nodes of a selection and of a guarded repetition, and their rules.
use Rattle.std.specs.Prelude.{ℕ, Bool, not, ◌&&◌, ◌||◌}
use Rattle.function_blocks.specs.Rails.{Pairs, Rule, rule_of}
use Rattle.circuit_places.specs.Heads.{Index, Bits, bit_of, some_bit, turned_bit, all_neutral, alone, over}

-- The core: the branches' answers joined, the guards' request, that a latch is up, the latches and the starts; the
-- nodes of the guards and of the branches.
pub record Core (n : ℕ) (G B : Type 0) : Type 0 where
  pub answer : Bool
  pub ask : Bool
  pub any : Bool
  pub latched : Bits n
  pub started : Bits n
  pub guards : G
  pub branches : B

-- round the core of a repetition: its answer, the request of a turn, and the latch of the end
pub record Turning (A : Type 0) : Type 0 where
  pub answer : Bool
  pub turn : Bool
  pub leave : Bool
  pub core : A

pub data OwnSpot : ℕ → Type 0 where
  of_joined of_ask of_any : {n : ℕ} → OwnSpot n
  of_latch of_start : {n : ℕ} → Index n → OwnSpot n

pub data RoundSpot : Type 0 where
  of_answer of_turn of_leave : RoundSpot

-- The core's rules under the request r, where the latch of the end is v (low in a selection):
--   joined    some a_i -> d+                   ~m & no a_i -> d-
--   ask       r & ~m -> e+                     m -> e-
--   any       v | some l_i -> m+               ~v & no l_i -> m-
--   latch i   h_i.t & all other h_j.f -> l_i+  ~r -> l_i-
--   start i   l_i & no rail -> s_i+            ~l_i -> s_i-
abbrev pub core_rule : {n : ℕ} {G B : Type 0} → (r v : Bool) → (hs : Pairs n) → (answers : Bits n) → Core n G B
    → OwnSpot n → Rule
core_rule {n = n} r v hs answers x of_joined =
    rule_of x.answer (some_bit n answers) (not x.any && not (some_bit n answers))
core_rule {n = n} r v hs answers x of_ask = rule_of x.ask (r && not x.any) x.any
core_rule {n = n} r v hs answers x of_any =
    rule_of x.any (v || some_bit n x.latched) (not v && not (some_bit n x.latched))
core_rule {n = n} r v hs answers x (of_latch i) = rule_of (bit_of i x.latched) (alone i hs) (not r)
core_rule {n = n} r v hs answers x (of_start i) =
    rule_of (bit_of i x.started) (bit_of i x.latched && all_neutral n hs) (not (bit_of i x.latched))

-- Round it, under the request r:
--   turn      r & ~d -> lr+                    d | ~r -> lr-
--   leave     all h_i.f -> v+                  ~lr -> v-
--   answer    v & no rail -> a+                ~m -> a-
abbrev pub turning_rule : {n : ℕ} {G B : Type 0} → (r : Bool) → (hs : Pairs n) → Turning (Core n G B) → RoundSpot → Rule
turning_rule {n = n} r hs x of_answer = rule_of x.answer (x.leave && all_neutral n hs) (not x.core.any)
turning_rule {n = n} r hs x of_turn = rule_of x.turn (r && not x.core.answer) (x.core.answer || not r)
turning_rule {n = n} r hs x of_leave = rule_of x.leave (over n hs) (not x.turn)

abbrev pub turned_own : {n : ℕ} {G B : Type 0} → Core n G B → OwnSpot n → Core n G B
turned_own x of_joined = record x { answer = not x.answer }
turned_own x of_ask = record x { ask = not x.ask }
turned_own x of_any = record x { any = not x.any }
turned_own x (of_latch i) = record x { latched = turned_bit i x.latched }
turned_own x (of_start i) = record x { started = turned_bit i x.started }

abbrev pub turned_turning : {A : Type 0} → Turning A → RoundSpot → Turning A
turned_turning x of_answer = record x { answer = not x.answer }
turned_turning x of_turn = record x { turn = not x.turn }
turned_turning x of_leave = record x { leave = not x.leave }

abbrev pub core_of : {n : ℕ} {G B : Type 0} → (answer ask any : Bool) → (latched started : Bits n) → G → B → Core n G B
core_of d e m l s g b = record { answer = d; ask = e; any = m; latched = l; started = s; guards = g; branches = b }

abbrev pub turning_of : {A : Type 0} → (answer turn leave : Bool) → A → Turning A
turning_of a lr v x = record { answer = a; turn = lr; leave = v; core = x }
