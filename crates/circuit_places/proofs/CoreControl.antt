-- Where the control of a core is, its values there, and which of its own nodes may move.
use Rattle.std.proofs.Common.{◌≡◌, ℕ, Bool, true, false, refl, ap, ◌∙◌}
use Rattle.std.specs.Prelude.{not, ◌&&◌, ◌||◌, if◌then◌else◌}
use Rattle.prs_core.specs.Deciding.{implies}
use Rattle.function_blocks.specs.Rails.{Pairs, one_rule_fires, is_apart}
use Rattle.circuit_places.specs.Heads.{Index, Bits, low_bits, bit_of, some_bit, hot, nothing_true, all_neutral, alone, told, over}
use Rattle.circuit_places.specs.Cores.{Core, Turning, OwnSpot, of_joined, of_ask, of_any, of_latch, of_start, RoundSpot, of_answer, of_turn, of_leave, core_rule, turning_rule, core_of, turning_of}
pub use Rattle.circuit_places.proofs.Modes.{Mode, idle, running, answered, returning, asks, acks, goes}
use Rattle.circuit_places.proofs.HeadFacts.{fst_true, snd_true, bit_none, some_none, hot_low, some_hot, bit_hot, none_alone, told_alone, told_over, neutral_alone, neutral_over}

-- How far a latch that is up has come: nobody knows of it, the guards' request doesn't know of it, the guards are let go.
pub data Lock : Type 0 where
  noted spread freed : Lock

abbrev pub lock_any : Lock → Bool
lock_any noted = false
lock_any spread = true
lock_any freed = true

abbrev pub lock_ask : Lock → Bool
lock_ask noted = true
lock_ask spread = true
lock_ask freed = false

abbrev pub lock_may : Lock → (alone told : Bool) → Bool
lock_may l alone told = told && implies (lock_ask l) alone

-- where the control of a core is while no branch is under way
pub data Control (again : Bool) (n : ℕ) (G : Type 0) (heads : G → Pairs n) : Mode → Type 0 where
  uncalled : Control again n G heads idle
  called : Control again n G heads running
  evaluating : (g : G) → Control again n G heads running
  latched : (l : Lock) (i : Index n) (g : G) → lock_may l (alone i (heads g)) (told i (heads g)) ≡ true → Control again n G heads running
  leaving : again ≡ true → (l : Lock) (g : G) → lock_may l (over n (heads g)) (nothing_true n (heads g)) ≡ true → Control again n G heads running

abbrev pub isnt_running : Mode → Bool
isnt_running running = false
isnt_running _ = true

-- where it is while a branch is under way, by the modes of the core's port and of the branch's
pub data Way : Mode → Mode → Type 0 where
  works : Way running running
  worked : Way running answered
  reported : Way answered answered
  letting : Way returning answered
  backs : (any : Bool) {k : Mode} → isnt_running k ≡ true → Way returning k

-- where a repetition is that goes no further turn
pub data Closing : Mode → Type 0 where
  told_all : Closing answered
  lets_turn lets_leave lets_any lets_answer : Closing returning

abbrev pub way_latch : {m k : Mode} → Way m k → Bool
way_latch (backs any h) = false
way_latch _ = true

abbrev pub way_any : {m k : Mode} → Way m k → Bool
way_any (backs any h) = any
way_any _ = true

abbrev pub closing_turn : {m : Mode} → Closing m → Bool
closing_turn told_all = true
closing_turn lets_turn = true
closing_turn _ = false

abbrev pub closing_leave : {m : Mode} → Closing m → Bool
closing_leave told_all = true
closing_leave lets_turn = true
closing_leave lets_leave = true
closing_leave _ = false

abbrev pub closing_any : {m : Mode} → Closing m → Bool
closing_any lets_answer = false
closing_any _ = true

pub lock_told : (l : Lock) (a t : Bool) → lock_may l a t ≡ true → t ≡ true
lock_told l a t h = fst_true t (implies (lock_ask l) a) h

pub lock_alone : (l : Lock) (a t : Bool) → lock_may l a t ≡ true → lock_ask l ≡ true → a ≡ true
lock_alone l a t h e = here (lock_ask l) e (snd_true t (implies (lock_ask l) a) h)
  where
    here : (b : Bool) → b ≡ true → implies b a ≡ true → a ≡ true
    here true e h = h
    here false e h = absurd (cc e)

pub lock_asks : (l : Lock) → (if lock_ask l then lock_any l else not (lock_any l)) ≡ (lock_ask l && lock_any l)
lock_asks noted = refl
lock_asks spread = refl
lock_asks freed = refl

pub if_not : (m : Bool) → (if m then false else true) ≡ not m
if_not true = refl
if_not false = refl

-- a latch that is low stays so where its guard isn't true alone, and no start moves where no latch is up
latch_none : {n : ℕ} (k : Index n) (r : Bool) (hs : Pairs n) → alone k hs ≡ false → (if bit_of k (low_bits n) then not r else alone k hs) ≡ false
latch_none k r hs e = ap (λ x. if x then not r else alone k hs) (bit_none k) ∙ e

start_none : {n : ℕ} (k : Index n) (z : Bool) → (if bit_of k (low_bits n) then not (bit_of k (low_bits n)) else (bit_of k (low_bits n) && z)) ≡ false
start_none k z = ap (λ x. if x then not x else (x && z)) (bit_none k)

-- where a guard is told, no other's latch moves, and its own only falls
latch_told : {n : ℕ} (i k : Index n) (hs : Pairs n) → told i hs ≡ true → (if bit_of k (hot i true) then false else alone k hs) ≡ false
latch_told i k hs h = here (bit_of k (hot i true)) (alone k hs) refl refl
  where
    here : (b a : Bool) → bit_of k (hot i true) ≡ b → alone k hs ≡ a → (if b then false else a) ≡ false
    here true a e f = refl
    here false false e f = refl
    here false true e f = absurd (cc (bit_hot i true, e, ap (λ j. bit_of j (hot i true)) (told_alone i k hs h f)))

any_hot : {n : ℕ} (i : Index n) (m : Bool) → (if m then not (some_bit n (hot i true)) else some_bit n (hot i true)) ≡ not m
any_hot {n = n} i m = ap (λ s. if m then not s else s) (some_hot i true) ∙ if_not m

module _ {again : Bool} {n : ℕ} {G : Type 0} {heads : G → Pairs n} where
  abbrev pub control_leave : {m : Mode} → Control again n G heads m → Bool
  control_leave (leaving y l g h) = true
  control_leave _ = false

  abbrev pub control_ask : {m : Mode} → Control again n G heads m → Bool
  control_ask (evaluating g) = true
  control_ask (latched l i g h) = lock_ask l
  control_ask (leaving y l g h) = lock_ask l
  control_ask _ = false

  abbrev pub control_guards : {m : Mode} → (low : G) → Control again n G heads m → G
  control_guards low (evaluating g) = g
  control_guards low (latched l i g h) = g
  control_guards low (leaving y l g h) = g
  control_guards low _ = low

  abbrev pub control_any : {m : Mode} → Control again n G heads m → Bool
  control_any (latched l i g h) = lock_any l
  control_any (leaving y l g h) = lock_any l
  control_any _ = false

  abbrev pub control_latches : {m : Mode} → Control again n G heads m → Bits n
  control_latches (latched l i g h) = hot i true
  control_latches _ = low_bits n

  abbrev pub control_cells : {m : Mode} {B : Type 0} → (low : G) → B → Control again n G heads m → Core n G B
  control_cells low b c = core_of false (control_ask c) (control_any c) (control_latches c) (low_bits n) (control_guards low c) b

  -- the own nodes that may move
  abbrev pub control_moves : {m : Mode} → Control again n G heads m → OwnSpot n → Bool
  control_moves called of_ask = true
  control_moves (evaluating g) (of_latch k) = alone k (heads g)
  control_moves (latched l i g h) of_any = not (lock_any l)
  control_moves (latched l i g h) of_ask = lock_ask l && lock_any l
  control_moves (latched l i g h) (of_start k) = bit_of k (hot i true) && all_neutral n (heads g)
  control_moves (leaving y l g h) of_any = not (lock_any l)
  control_moves (leaving y l g h) of_ask = lock_ask l && lock_any l
  control_moves _ _ = false

  -- and of those round it, in a repetition that is called and hasn't answered
  abbrev pub turning_moves : {m : Mode} → Control again n G heads m → RoundSpot → Bool
  turning_moves uncalled of_turn = true
  turning_moves (evaluating g) of_leave = over n (heads g)
  turning_moves (leaving y l g h) of_answer = all_neutral n (heads g)
  turning_moves _ _ = false

  -- and which of their moves are steps: the rise of a latch, and of the latch of the end
  abbrev pub control_steps : {m : Mode} → Control again n G heads m → OwnSpot n → Bool
  control_steps (evaluating g) (of_latch k) = true
  control_steps _ _ = false

  abbrev pub turning_steps : {m : Mode} → Control again n G heads m → RoundSpot → Bool
  turning_steps (evaluating g) of_leave = true
  turning_steps _ _ = false

  pub control_can_is : {m : Mode} {B : Type 0} (low : G) (b : B) → all_neutral n (heads low) ≡ true → (c : Control again n G heads m) (s : OwnSpot n)
      → one_rule_fires (core_rule (asks m) (control_leave c) (heads (control_guards low c)) (low_bits n) (control_cells low b c) s) ≡ control_moves c s
  control_can_is low b z uncalled of_joined = some_none n
  control_can_is low b z uncalled of_ask = refl
  control_can_is low b z uncalled of_any = some_none n
  control_can_is low b z uncalled (of_latch k) = latch_none k false (heads low) (neutral_alone k (heads low) z)
  control_can_is low b z uncalled (of_start k) = start_none k (all_neutral n (heads low))
  control_can_is low b z called of_joined = some_none n
  control_can_is low b z called of_ask = refl
  control_can_is low b z called of_any = some_none n
  control_can_is low b z called (of_latch k) = latch_none k true (heads low) (neutral_alone k (heads low) z)
  control_can_is low b z called (of_start k) = start_none k (all_neutral n (heads low))
  control_can_is low b z (evaluating g) of_joined = some_none n
  control_can_is low b z (evaluating g) of_ask = refl
  control_can_is low b z (evaluating g) of_any = some_none n
  control_can_is low b z (evaluating g) (of_latch k) = ap (λ x. if x then false else alone k (heads g)) (bit_none k)
  control_can_is low b z (evaluating g) (of_start k) = start_none k (all_neutral n (heads g))
  control_can_is low b z (latched l i g h) of_joined = some_none n
  control_can_is low b z (latched l i g h) of_ask = lock_asks l
  control_can_is low b z (latched l i g h) of_any = any_hot i (lock_any l)
  control_can_is low b z (latched l i g h) (of_latch k) = latch_told i k (heads g) (lock_told l _ _ h)
  control_can_is low b z (latched l i g h) (of_start k) =
      ap (λ x. if x then not (bit_of k (hot i true)) else (bit_of k (hot i true) && all_neutral n (heads g))) (bit_none k)
  control_can_is low b z (leaving y l g h) of_joined = some_none n
  control_can_is low b z (leaving y l g h) of_ask = lock_asks l
  control_can_is low b z (leaving y l g h) of_any = if_not (lock_any l)
  control_can_is low b z (leaving y l g h) (of_latch k) = latch_none k true (heads g) (none_alone k (heads g) (lock_told l _ _ h))
  control_can_is low b z (leaving y l g h) (of_start k) = start_none k (all_neutral n (heads g))

  -- round the core of a repetition that is called and hasn't answered
  pub turning_can_is : {m : Mode} {B : Type 0} (low : G) (b : B) → all_neutral n (heads low) ≡ true → (c : Control again n G heads m) (s : RoundSpot)
      → one_rule_fires (turning_rule true (heads (control_guards low c)) (turning_of false (asks m) (control_leave c) (control_cells low b c)) s) ≡
      turning_moves c s
  turning_can_is low b z uncalled of_answer = refl
  turning_can_is low b z uncalled of_turn = refl
  turning_can_is low b z uncalled of_leave = neutral_over n (heads low) z
  turning_can_is low b z called of_answer = refl
  turning_can_is low b z called of_turn = refl
  turning_can_is low b z called of_leave = neutral_over n (heads low) z
  turning_can_is low b z (evaluating g) of_answer = refl
  turning_can_is low b z (evaluating g) of_turn = refl
  turning_can_is low b z (evaluating g) of_leave = refl
  turning_can_is low b z (latched l i g h) of_answer = refl
  turning_can_is low b z (latched l i g h) of_turn = refl
  turning_can_is low b z (latched l i g h) of_leave = told_over i (heads g) (lock_told l _ _ h)
  turning_can_is low b z (leaving y l g h) of_answer = refl
  turning_can_is low b z (leaving y l g h) of_turn = refl
  turning_can_is low b z (leaving y l g h) of_leave = refl

-- of a core with a branch under way: guards at rest, one latch and one start
module _ {n : ℕ} {G B : Type 0} where
  abbrev pub way_cells : {m k : Mode} → (low : G) → Index n → B → Way m k → Core n G B
  way_cells {m = m} {k = k} low i b w = core_of (acks m) false (way_any w) (hot i (way_latch w)) (hot i (asks k)) low b

  abbrev pub closing_cells : {m : Mode} → (low : G) → B → Closing m → Turning (Core n G B)
  closing_cells {m = m} low b c = turning_of (acks m) (closing_turn c) (closing_leave c) (core_of false false (closing_any c) (low_bits n) (low_bits n) low b)

abbrev pub way_moves : {m k : Mode} {n : ℕ} → Way m k → Index n → OwnSpot n → Bool
way_moves worked i of_joined = true
way_moves letting i (of_latch j) = bit_of j (hot i true)
way_moves (backs any {k = k} h) i of_joined = not any && not (acks k)
way_moves (backs any h) i of_any = any
way_moves (backs any {k = k} h) i (of_start j) = bit_of j (hot i (asks k))
way_moves _ _ _ = false

abbrev pub way_turning : {m k : Mode} → Way m k → RoundSpot → Bool
way_turning reported of_turn = true
way_turning _ _ = false

abbrev pub closing_own : {m : Mode} {n : ℕ} → Closing m → OwnSpot n → Bool
closing_own c of_any = closing_any c && not (closing_leave c)
closing_own _ _ = false

abbrev pub closing_moves : {m : Mode} → Closing m → RoundSpot → Bool
closing_moves {m = m} c of_turn = closing_turn c && not (asks m)
closing_moves c of_leave = closing_leave c && not (closing_turn c)
closing_moves c of_answer = not (closing_any c)

start_hot : {n : ℕ} (i j : Index n) (z : Bool) → (if bit_of j (hot i true) then not (bit_of j (hot i true)) else (bit_of j (hot i true) && z)) ≡ false
start_hot i j z = here (bit_of j (hot i true))
  where
    here : (b : Bool) → (if b then not b else (b && z)) ≡ false
    here true = refl
    here false = refl

start_back : {n : ℕ} (i j : Index n) (s z : Bool)
    → (if bit_of j (hot i s) then not (bit_of j (hot i false)) else (bit_of j (hot i false) && z)) ≡ bit_of j (hot i s)
start_back {n = n} i j s z = ap (λ (x : Bits n). if bit_of j (hot i s) then not (bit_of j x) else (bit_of j x && z)) (hot_low i)
    ∙ (ap (λ b. if bit_of j (hot i s) then not b else (b && z)) (bit_none j) ∙ here (bit_of j (hot i s)))
  where
    here : (b : Bool) → (if b then true else false) ≡ b
    here true = refl
    here false = refl

latch_back : {n : ℕ} (i j : Index n) (hs : Pairs n) → all_neutral n hs ≡ true → (if bit_of j (hot i false) then true else alone j hs) ≡ false
latch_back {n = n} i j hs z = ap (λ (x : Bits n). if bit_of j x then true else alone j hs) (hot_low i) ∙ latch_none j false hs (neutral_alone j hs z)

latch_still : {n : ℕ} (i j : Index n) (hs : Pairs n) → all_neutral n hs ≡ true → (if bit_of j (hot i true) then false else alone j hs) ≡ false
latch_still i j hs z = ap (λ a. if bit_of j (hot i true) then false else a) (neutral_alone j hs z) ∙ here (bit_of j (hot i true))
  where
    here : (b : Bool) → (if b then false else false) ≡ false
    here true = refl
    here false = refl

latch_lets : {n : ℕ} (i j : Index n) (hs : Pairs n) → all_neutral n hs ≡ true → (if bit_of j (hot i true) then true else alone j hs) ≡ bit_of j (hot i true)
latch_lets i j hs z = ap (λ a. if bit_of j (hot i true) then true else a) (neutral_alone j hs z) ∙ here (bit_of j (hot i true))
  where
    here : (b : Bool) → (if b then true else false) ≡ b
    here true = refl
    here false = refl

joins : {n : ℕ} (i : Index n) (a m s : Bool) → (if a then not m && not (some_bit n (hot i s)) else some_bit n (hot i s)) ≡ (if a then not m && not s else s)
joins {n = n} i a m s = ap (λ x. if a then not m && not x else x) (some_hot i s)

pub way_can_is : {m k : Mode} {n : ℕ} {G B : Type 0} (low : G) (hs : Pairs n) (b : B) → all_neutral n hs ≡ true → (w : Way m k) (i : Index n) (s : OwnSpot n)
    → one_rule_fires (core_rule (asks m) false hs (hot i (acks k)) (way_cells low i b w) s) ≡ way_moves w i s
way_can_is low hs b z works i of_joined = joins i false true false
way_can_is low hs b z works i of_ask = refl
way_can_is low hs b z works i of_any = any_hot i true
way_can_is low hs b z works i (of_latch j) = latch_still i j hs z
way_can_is {n = n} low hs b z works i (of_start j) = start_hot i j (all_neutral n hs)
way_can_is low hs b z worked i of_joined = joins i false true true
way_can_is low hs b z worked i of_ask = refl
way_can_is low hs b z worked i of_any = any_hot i true
way_can_is low hs b z worked i (of_latch j) = latch_still i j hs z
way_can_is {n = n} low hs b z worked i (of_start j) = start_hot i j (all_neutral n hs)
way_can_is low hs b z reported i of_joined = joins i true true true
way_can_is low hs b z reported i of_ask = refl
way_can_is low hs b z reported i of_any = any_hot i true
way_can_is low hs b z reported i (of_latch j) = latch_still i j hs z
way_can_is {n = n} low hs b z reported i (of_start j) = start_hot i j (all_neutral n hs)
way_can_is low hs b z letting i of_joined = joins i true true true
way_can_is low hs b z letting i of_ask = refl
way_can_is low hs b z letting i of_any = any_hot i true
way_can_is low hs b z letting i (of_latch j) = latch_lets i j hs z
way_can_is {n = n} low hs b z letting i (of_start j) = start_hot i j (all_neutral n hs)
way_can_is low hs b z (backs any {k = k} h) i of_joined = joins i true any (acks k)
way_can_is low hs b z (backs any h) i of_ask = refl
way_can_is {n = n} low hs b z (backs any h) i of_any = ap (λ s. if any then not s else s) (some_hot i false) ∙ here any
  where
    here : (m : Bool) → (if m then true else false) ≡ m
    here true = refl
    here false = refl
way_can_is low hs b z (backs any h) i (of_latch j) = latch_back i j hs z
way_can_is {n = n} low hs b z (backs any {k = k} h) i (of_start j) = start_back i j (asks k) (all_neutral n hs)

pub way_turning_is : {m k : Mode} {n : ℕ} {G B : Type 0} (low : G) (hs : Pairs n) (b : B) → all_neutral n hs ≡ true
    → (w : Way m k) (i : Index n) (s : RoundSpot)
    → one_rule_fires (turning_rule true hs (turning_of false (asks m) false (way_cells low i b w)) s) ≡ way_turning w s
way_turning_is low hs b z works i of_answer = refl
way_turning_is low hs b z works i of_turn = refl
way_turning_is {n = n} low hs b z works i of_leave = neutral_over n hs z
way_turning_is low hs b z worked i of_answer = refl
way_turning_is low hs b z worked i of_turn = refl
way_turning_is {n = n} low hs b z worked i of_leave = neutral_over n hs z
way_turning_is low hs b z reported i of_answer = refl
way_turning_is low hs b z reported i of_turn = refl
way_turning_is {n = n} low hs b z reported i of_leave = neutral_over n hs z
way_turning_is low hs b z letting i of_answer = refl
way_turning_is low hs b z letting i of_turn = refl
way_turning_is {n = n} low hs b z letting i of_leave = neutral_over n hs z
way_turning_is low hs b z (backs any h) i of_answer = refl
way_turning_is low hs b z (backs any h) i of_turn = refl
way_turning_is {n = n} low hs b z (backs any h) i of_leave = neutral_over n hs z

pub closing_own_is : {m : Mode} {n : ℕ} {G B : Type 0} (low : G) (hs : Pairs n) (b : B) → all_neutral n hs ≡ true → (c : Closing m) (s : OwnSpot n)
    → one_rule_fires (core_rule (closing_turn c) (closing_leave c) hs (low_bits n) (closing_cells low b c).core s) ≡ closing_own c s
closing_own_is {n = n} low hs b z c of_joined = some_none n
closing_own_is low hs b z told_all of_ask = refl
closing_own_is low hs b z lets_turn of_ask = refl
closing_own_is low hs b z lets_leave of_ask = refl
closing_own_is low hs b z lets_any of_ask = refl
closing_own_is low hs b z lets_answer of_ask = refl
closing_own_is {n = n} low hs b z c of_any = ap (λ s. if closing_any c then not (closing_leave c) && not s else (closing_leave c || s)) (some_none n) ∙ here c
  where
    here : {m : Mode} (c : Closing m)
        → (if closing_any c then not (closing_leave c) && true else (closing_leave c || false)) ≡ (closing_any c && not (closing_leave c))
    here told_all = refl
    here lets_turn = refl
    here lets_leave = refl
    here lets_any = refl
    here lets_answer = refl
closing_own_is low hs b z c (of_latch j) = latch_none j (closing_turn c) hs (neutral_alone j hs z)
closing_own_is {n = n} low hs b z c (of_start j) = start_none j (all_neutral n hs)

pub closing_can_is : {m : Mode} (n : ℕ) {G B : Type 0} (low : G) (hs : Pairs n) (b : B) → all_neutral n hs ≡ true → (c : Closing m) (s : RoundSpot)
    → one_rule_fires (turning_rule (asks m) hs (closing_cells low b c) s) ≡ closing_moves c s
closing_can_is n low hs b z told_all of_answer = refl
closing_can_is n low hs b z told_all of_turn = refl
closing_can_is n low hs b z told_all of_leave = refl
closing_can_is n low hs b z lets_turn of_answer = refl
closing_can_is n low hs b z lets_turn of_turn = refl
closing_can_is n low hs b z lets_turn of_leave = refl
closing_can_is n low hs b z lets_leave of_answer = refl
closing_can_is n low hs b z lets_leave of_turn = refl
closing_can_is n low hs b z lets_leave of_leave = refl
closing_can_is n low hs b z lets_any of_answer = refl
closing_can_is n low hs b z lets_any of_turn = refl
closing_can_is n low hs b z lets_any of_leave = neutral_over n hs z
closing_can_is n low hs b z lets_answer of_answer = refl
closing_can_is n low hs b z lets_answer of_turn = refl
closing_can_is n low hs b z lets_answer of_leave = neutral_over n hs z

-- No own node is pulled both ways: most by their rules alone, a latch since no guard is true alone where no request is.
either : (x a : Bool) → not (x && (not a && not x)) ≡ true
either true true = refl
either true false = refl
either false a = refl

ask_apart : (r m : Bool) → not ((r && not m) && m) ≡ true
ask_apart true true = refl
ask_apart true false = refl
ask_apart false m = refl

any_apart : (v x : Bool) → not ((v || x) && (not v && not x)) ≡ true
any_apart true x = refl
any_apart false true = refl
any_apart false false = refl

start_apart : (l z : Bool) → not ((l && z) && not l) ≡ true
start_apart true true = refl
start_apart true false = refl
start_apart false z = refl

latch_apart : (r a : Bool) → (r ≡ false → a ≡ false) → not (a && not r) ≡ true
latch_apart true true f = refl
latch_apart true false f = refl
latch_apart false true f = absurd (cc (f refl))
latch_apart false false f = refl

turn_apart : (r d : Bool) → not ((r && not d) && (d || not r)) ≡ true
turn_apart true true = refl
turn_apart true false = refl
turn_apart false d = refl

pub core_apart : {n : ℕ} {G B : Type 0} (r v : Bool) (hs : Pairs n) (answers : Bits n) (x : Core n G B) → (r ≡ false → all_neutral n hs ≡ true)
    → (s : OwnSpot n) → is_apart (core_rule r v hs answers x s) ≡ true
core_apart {n = n} r v hs answers x low of_joined = either (some_bit n answers) x.any
core_apart r v hs answers x low of_ask = ask_apart r x.any
core_apart {n = n} r v hs answers x low of_any = any_apart v (some_bit n x.latched)
core_apart r v hs answers x low (of_latch j) = latch_apart r (alone j hs) (λ e. neutral_alone j hs (low e))
core_apart {n = n} r v hs answers x low (of_start j) = start_apart (bit_of j x.latched) (all_neutral n hs)

-- where the latch of the end is up and the guards are let go, a latch is known to be up
pub turning_apart : {n : ℕ} {G B : Type 0} (r : Bool) (hs : Pairs n) (x : Turning (Core n G B)) → (x.turn ≡ false → all_neutral n hs ≡ true)
    → (x.leave ≡ true → all_neutral n hs ≡ true → x.core.any ≡ true) → (s : RoundSpot) → is_apart (turning_rule r hs x s) ≡ true
turning_apart {n = n} r hs x low known of_answer = here x.leave (all_neutral n hs) x.core.any known
  where
    here : (v z m : Bool) → (v ≡ true → z ≡ true → m ≡ true) → not ((v && z) && not m) ≡ true
    here true true true f = refl
    here true true false f = absurd (cc (f refl refl))
    here true false m f = refl
    here false z m f = refl
turning_apart r hs x low known of_turn = turn_apart r x.core.answer
turning_apart {n = n} r hs x low known of_leave = latch_apart x.turn (over n hs) (λ e. neutral_over n hs (low e))
