-- The own nodes of a core as a list, by numbers.
use Rattle.std.proofs.Common.{◌≡◌, ℕ, zero, suc, ◌+◌, ◌-◌, ◌<◌, ◌≤◌, Bool, false, List, [], ◌∷◌, ◌++◌, map, length, get_or, set, refl, sym, ap, ◌∙◌, arith, get_or-append-add, ⊎_elim, length-append, replicate}
use Rattle.std.proofs.lemmas.List.{get_or_append_left, set-append_left, set-append_right, replicate-append-replicate}
use Rattle.std.specs.Prelude.{not}
use Rattle.std.proofs.lemmas.Bool.{cases_lt}
use Rattle.circuit_places.specs.Heads.{Index, top, under, Bits, turned_bit, low_bits, bit_of}
use Rattle.circuit_places.specs.Cores.{Core, Turning, RoundSpot, of_answer, of_turn, of_leave, turned_turning, turning_rule, OwnSpot, of_joined, of_ask, of_any, of_latch, of_start, turned_own, core_rule}
use Rattle.function_blocks.specs.Rails.{Pairs, Rule}
use Rattle.prs_core.specs.Moves.{guard_holds}
use Rattle.net_compose.proofs.Templates.{number_of, BitsAt, HeadsAt, SaysSo, joined_told, ask_told, any_told, any_again_told, turn_told, leave_told, answer_told, latch_told, start_told}
use Rattle.prs_core.specs.Nets.{NodeRules}
use Rattle.prs_core.specs.Pairs.{no_rules}
use Rattle.prs_core.specs.Pairs as net
use Rattle.cell_select.specs.Selections.{Choosing, Repeating, select_rules, again_rules, only_one_true, latches, starts}
use Rattle.std.specs.List.{range_with_len}

abbrev pub list_of : (n : ℕ) → Bits n → List Bool
list_of zero x = []
list_of (suc n) x = x.0 ∷ list_of n x.1

pub length-list_of : (n : ℕ) (x : Bits n) → length (list_of n x) ≡ n
length-list_of zero x = refl
length-list_of (suc n) x = ap (λ k. suc k) (length-list_of n x.1)

pub number_lt : {n : ℕ} (i : Index n) → number_of i < n
number_lt (top {n = n}) = omega arith
number_lt (under {n = n} i) = omega (arith, number_lt i)

pub record AtNumber (n k : ℕ) : Type 0 where
  pub index : Index n
  pub is : number_of index ≡ k

pub index_of : (n k : ℕ) → k < n → AtNumber n k
index_of zero k h = absurd (let g : ⊥ = omega (arith, h) in g)
index_of (suc n) zero h = record { index = top; is = refl }
index_of (suc n) (suc k) h = let r = index_of n k (omega (arith, h)) in record { index = under r.index; is = ap (λ j. suc j) r.is }

pub bit_turned_is : {n : ℕ} (i : Index n) (x : Bits n)
    → set (list_of n x) (number_of i) (not (get_or (list_of n x) (number_of i) false)) ≡ list_of n (turned_bit i x)
bit_turned_is top x = refl
bit_turned_is (under i) x = ap (λ l. x.0 ∷ l) (bit_turned_is i x.1)

abbrev pub own_list : {n : ℕ} {G B : Type 0} → Core n G B → List Bool
own_list {n = n} x = x.answer ∷ x.ask ∷ x.any ∷ (list_of n x.latched ++ list_of n x.started)

abbrev pub own_place : {n : ℕ} → OwnSpot n → ℕ
own_place of_joined = 0
own_place of_ask = 1
own_place of_any = 2
own_place (of_latch i) = suc (suc (suc (number_of i)))
own_place {n = n} (of_start i) = suc (suc (suc (n + number_of i)))

pub own_place_lt : {n : ℕ} (s : OwnSpot n) → own_place s < 3 + (n + n)
own_place_lt of_joined = omega arith
own_place_lt of_ask = omega arith
own_place_lt of_any = omega arith
own_place_lt (of_latch i) = omega (arith, number_lt i)
own_place_lt (of_start i) = omega (arith, number_lt i)

pub record AtOwn (n k : ℕ) : Type 0 where
  pub spot : OwnSpot n
  pub is : own_place spot ≡ k

pub own_spot_of : (n k : ℕ) → k < 3 + (n + n) → AtOwn n k
own_spot_of n zero h = record { spot = of_joined; is = refl }
own_spot_of n (suc zero) h = record { spot = of_ask; is = refl }
own_spot_of n (suc (suc zero)) h = record { spot = of_any; is = refl }
own_spot_of n (suc (suc (suc k))) h =
    ⊎_elim
    (λ (lt : k < n). let r = index_of n k lt in let here : AtOwn n (suc (suc (suc k))) = record
    { spot = of_latch r.index; is = ap (λ j. suc (suc (suc j))) r.is } in here)
    (λ (le : n ≤ k).
    let r = index_of n (k - n) (omega (arith, h, le)) in
    let here : AtOwn n (suc (suc (suc k))) = record { spot = of_start r.index; is = omega (arith, r.is, le) } in
    here)
    (cases_lt k n)

-- in a list of two parts
pub set_first : (a b : List Bool) (k : ℕ) → k < length a → set (a ++ b) k (not (get_or (a ++ b) k false)) ≡ set a k (not (get_or a k false)) ++ b
set_first a b k h = ap (λ z. set (a ++ b) k (not z)) (get_or_append_left a b false k h) ∙ set-append_left a b k (not (get_or a k false)) h

pub set_second : (a b : List Bool) (n k : ℕ) → length a ≡ n → set (a ++ b) (n + k) (not (get_or (a ++ b) (n + k) false)) ≡ a ++ set b k (not (get_or b k false))
set_second a b n k e =
    let g : get_or (a ++ b) (n + k) false ≡ get_or b k false = ap (λ m. get_or (a ++ b) (m + k) false) (sym e) ∙ get_or-append-add a b k false in
    let d : n + k - n ≡ k = omega arith in
    ap (λ z. set (a ++ b) (n + k) (not z)) g
    ∙ (set-append_right a b n (n + k) (not (get_or b k false)) e (omega arith) ∙ ap (λ m. a ++ set b m (not (get_or b k false))) d)

pub own_turned_is : {n : ℕ} {G B : Type 0} (x : Core n G B) (s : OwnSpot n)
    → set (own_list x) (own_place s) (not (get_or (own_list x) (own_place s) false)) ≡ own_list (turned_own x s)
own_turned_is x of_joined = refl
own_turned_is x of_ask = refl
own_turned_is x of_any = refl
own_turned_is {n = n} x (of_latch i) =
    ap (λ l. x.answer ∷ x.ask ∷ x.any ∷ l)
    (set_first (list_of n x.latched) (list_of n x.started) (number_of i) (omega (arith, number_lt i, length-list_of n x.latched))
    ∙ ap (λ l. l ++ list_of n x.started) (bit_turned_is i x.latched))
own_turned_is {n = n} x (of_start i) =
    ap (λ l. x.answer ∷ x.ask ∷ x.any ∷ l)
    (set_second (list_of n x.latched) (list_of n x.started) n (number_of i) (length-list_of n x.latched)
    ∙ ap (λ l. list_of n x.latched ++ l) (bit_turned_is i x.started))

-- the guards and the branches stay
pub own_guards : {n : ℕ} {G B : Type 0} (x : Core n G B) (s : OwnSpot n) → (turned_own x s).guards ≡ x.guards
own_guards x of_joined = refl
own_guards x of_ask = refl
own_guards x of_any = refl
own_guards x (of_latch i) = refl
own_guards x (of_start i) = refl

pub own_branches : {n : ℕ} {G B : Type 0} (x : Core n G B) (s : OwnSpot n) → (turned_own x s).branches ≡ x.branches
own_branches x of_joined = refl
own_branches x of_ask = refl
own_branches x of_any = refl
own_branches x (of_latch i) = refl
own_branches x (of_start i) = refl

pub round_core : {A : Type 0} (x : Turning A) (s : RoundSpot) → (turned_turning x s).core ≡ x.core
round_core x of_answer = refl
round_core x of_turn = refl
round_core x of_leave = refl

-- how many own nodes there are, and that they are low at first
pub length-own_list : {n : ℕ} {G B : Type 0} (x : Core n G B) → length (own_list x) ≡ 3 + (n + n)
length-own_list {n = n} x = omega (arith, length-append (list_of n x.latched) (list_of n x.started), length-list_of n x.latched, length-list_of n x.started)

low_list : (n : ℕ) → list_of n (low_bits n) ≡ replicate n false
low_list zero = refl
low_list (suc n) = ap (λ l. false ∷ l) (low_list n)

pub low_lists : (n : ℕ) → list_of n (low_bits n) ++ list_of n (low_bits n) ≡ replicate (n + n) false
low_lists n = ap (λ l. l ++ list_of n (low_bits n)) (low_list n) ∙ (ap (λ l. replicate n false ++ l) (low_list n) ∙ replicate-append-replicate n n false)

-- the values of the nodes in the list
pub list_at : {n : ℕ} (i : Index n) (x : Bits n) → get_or (list_of n x) (number_of i) false ≡ bit_of i x
list_at top x = refl
list_at (under i) x = list_at i x.1

two_lists : {n : ℕ} (i : Index n) (a b : Bits n) → (get_or (list_of n a ++ list_of n b) (number_of i) false ≡ bit_of i a)
    × (get_or (list_of n a ++ list_of n b) (n + number_of i) false ≡ bit_of i b)
two_lists {n = n} i a b = (
  get_or_append_left (list_of n a) (list_of n b) false (number_of i) (omega (arith, number_lt i, length-list_of n a)) ∙ list_at i a,
  ap (λ m. get_or (list_of n a ++ list_of n b) (m + number_of i) false) (sym (length-list_of n a))
      ∙ (get_or-append-add (list_of n a) (list_of n b) (number_of i) false ∙ list_at i b),
)

pub own_now : {n : ℕ} {G B : Type 0} (r v : Bool) (hs : Pairs n) (ans : Bits n) (x : Core n G B) (s : OwnSpot n)
    → get_or (own_list x) (own_place s) false ≡ (core_rule r v hs ans x s).now
own_now r v hs ans x of_joined = refl
own_now r v hs ans x of_ask = refl
own_now r v hs ans x of_any = refl
own_now r v hs ans x (of_latch i) = (two_lists i x.latched x.started).0
own_now r v hs ans x (of_start i) = (two_lists i x.latched x.started).1

-- nodes one behind another have these values
pub bits_at_range : (n a : ℕ) (v : ℕ → Bool) (x : Bits n) → ((k : ℕ) → k < n → v (a + k) ≡ get_or (list_of n x) k false) → BitsAt n v (range_with_len a n) x
bits_at_range zero a v x h = tt
bits_at_range (suc n) a v x h = (
  ap v (let e : a ≡ a + 0 = omega arith in e) ∙ h 0 (omega arith),
  bits_at_range n (a + 1) v x.1 (λ k less. ap v (let e : a + 1 + k ≡ a + suc k = omega arith in e) ∙ h (suc k) (omega (arith, less))),
)

pub some_range : (a n : ℕ) → 1 ≤ n → (k : ℕ) × ((ks : List ℕ) × (range_with_len a n ≡ k ∷ ks))
some_range a zero h = absurd (let g : ⊥ = omega (arith, h) in g)
some_range a (suc n) h = (a, (range_with_len (a + 1) n, refl))

-- how many latches there are
length-only : (before hs : List net.Pair) → length (only_one_true before hs) ≡ length hs
length-only before [] = refl
length-only before (h ∷ hs) = ap (λ k. suc k) (length-only (before ++ h ∷ []) hs)

length-mapped : {X Y : Type 0} (f : X → Y) (xs : List X) → length (map f xs) ≡ length xs
length-mapped f [] = refl
length-mapped f (x ∷ xs) = ap (λ k. suc k) (length-mapped f xs)

length-heads : (n : ℕ) (v : ℕ → Bool) (hs : List net.Pair) (x : Pairs n) → HeadsAt n v hs x → length hs ≡ n
length-heads zero v [] x h = refl
length-heads (suc n) v (k ∷ hs) x h = ap (λ k. suc k) (length-heads n v hs x.1 h.2)
length-heads zero v (k ∷ hs) x h = absurd h
length-heads (suc n) v [] x h = absurd h

length-latches : {n : ℕ} (v : ℕ → Bool) (request : ℕ) (guards : List net.Pair) (hs : Pairs n) → HeadsAt n v guards hs → length (latches request guards) ≡ n
length-latches {n = n} v request guards hs h = length-mapped _ (only_one_true [] guards) ∙ (length-only [] guards ∙ length-heads n v guards hs h)

told_at : {v : ℕ → Bool} {a b : NodeRules} {r : Rule} → a ≡ b → SaysSo v b r → SaysSo v a r
told_at {v = v} e s = record { up = ap (λ (x : NodeRules). guard_holds v x.up) e ∙ s.up; down = ap (λ (x : NodeRules). guard_holds v x.down) e ∙ s.down }

-- each own node of a selection stands in its rules where it stands in the list
pub select_told : {n : ℕ} {G B : Type 0} (v : ℕ → Bool) (c : Choosing) (x : Core n G B) (hs : Pairs n) (ans : Bits n) (k : ℕ) (ks : List ℕ) → c.latched ≡ k ∷ ks
    → v c.any ≡ x.any → BitsAt n v c.latched x.latched → BitsAt n v c.answers ans → HeadsAt n v c.guards hs
    → (s : OwnSpot n) → SaysSo v (get_or (select_rules c) (own_place s) no_rules) (core_rule (v c.request) false hs ans x s)
select_told v c x hs ans k ks e at_any at_latched at_answers at_guards of_joined =
    joined_told v c.request c.any c.latched c.answers c.guards x hs ans at_any at_latched at_answers at_guards (v c.request) false
select_told v c x hs ans k ks e at_any at_latched at_answers at_guards of_ask =
    ask_told v c.request c.any c.latched c.answers c.guards x hs ans at_any at_latched at_answers at_guards false
select_told v c x hs ans k ks e at_any at_latched at_answers at_guards of_any =
    any_told v c.request c.any c.latched c.answers c.guards x hs ans at_any at_latched at_answers at_guards (v c.request) k ks e
select_told {n = n} v c x hs ans k ks e at_any at_latched at_answers at_guards (of_latch i) =
    told_at (get_or_append_left (latches c.request c.guards) (starts c.latched c.guards) no_rules (number_of i)
    (omega (arith, number_lt i, length-latches v c.request c.guards hs at_guards)))
    (latch_told v c.request c.any c.latched c.answers c.guards x hs ans at_any at_latched at_answers at_guards false i)
select_told {n = n} v c x hs ans k ks e at_any at_latched at_answers at_guards (of_start i) =
    told_at (ap (λ m. get_or (latches c.request c.guards ++ starts c.latched c.guards) (m + number_of i) no_rules)
    (sym (length-latches v c.request c.guards hs at_guards)) ∙ get_or-append-add (latches c.request c.guards) (starts c.latched c.guards) (number_of i)
    no_rules)
    (start_told v c.request c.any c.latched c.answers c.guards x hs ans at_any at_latched at_answers at_guards (v c.request) false i)

-- Of a repetition.
abbrev pub again_list : {n : ℕ} {G B : Type 0} → Turning (Core n G B) → List Bool
again_list {n = n} x = x.answer ∷ x.turn ∷ x.core.answer ∷ x.core.ask ∷ x.core.any ∷ x.leave ∷ (list_of n x.core.latched ++ list_of n x.core.started)

abbrev pub round_place : RoundSpot → ℕ
round_place of_answer = 0
round_place of_turn = 1
round_place of_leave = 5

abbrev pub again_place : {n : ℕ} → OwnSpot n → ℕ
again_place of_joined = 2
again_place of_ask = 3
again_place of_any = 4
again_place (of_latch i) = suc (suc (suc (suc (suc (suc (number_of i))))))
again_place {n = n} (of_start i) = suc (suc (suc (suc (suc (suc (n + number_of i))))))

pub round_turned_is : {n : ℕ} {G B : Type 0} (x : Turning (Core n G B)) (s : RoundSpot)
    → set (again_list x) (round_place s) (not (get_or (again_list x) (round_place s) false)) ≡ again_list (turned_turning x s)
round_turned_is x of_answer = refl
round_turned_is x of_turn = refl
round_turned_is x of_leave = refl

pub again_turned_is : {n : ℕ} {G B : Type 0} (x : Turning (Core n G B)) (s : OwnSpot n)
    → set (again_list x) (again_place s) (not (get_or (again_list x) (again_place s) false)) ≡ again_list (record x { core = turned_own x.core s })
again_turned_is x of_joined = refl
again_turned_is x of_ask = refl
again_turned_is x of_any = refl
again_turned_is {n = n} x (of_latch i) =
    ap (λ l. x.answer ∷ x.turn ∷ x.core.answer ∷ x.core.ask ∷ x.core.any ∷ x.leave ∷ l)
    (set_first (list_of n x.core.latched) (list_of n x.core.started) (number_of i) (omega (arith, number_lt i, length-list_of n x.core.latched))
    ∙ ap (λ l. l ++ list_of n x.core.started) (bit_turned_is i x.core.latched))
again_turned_is {n = n} x (of_start i) =
    ap (λ l. x.answer ∷ x.turn ∷ x.core.answer ∷ x.core.ask ∷ x.core.any ∷ x.leave ∷ l)
    (set_second (list_of n x.core.latched) (list_of n x.core.started) n (number_of i) (length-list_of n x.core.latched)
    ∙ ap (λ l. list_of n x.core.latched ++ l) (bit_turned_is i x.core.started))

pub length-again_list : {n : ℕ} {G B : Type 0} (x : Turning (Core n G B)) → length (again_list x) ≡ 6 + (n + n)
length-again_list {n = n} x = omega (
  arith,
  length-append (list_of n x.core.latched) (list_of n x.core.started),
  length-list_of n x.core.latched,
  length-list_of n x.core.started,
)

pub again_place_lt : {n : ℕ} (s : OwnSpot n) → again_place s < 6 + (n + n)
again_place_lt of_joined = omega arith
again_place_lt of_ask = omega arith
again_place_lt of_any = omega arith
again_place_lt (of_latch i) = omega (arith, number_lt i)
again_place_lt (of_start i) = omega (arith, number_lt i)

pub round_place_lt : (n : ℕ) (s : RoundSpot) → round_place s < 6 + (n + n)
round_place_lt n of_answer = omega arith
round_place_lt n of_turn = omega arith
round_place_lt n of_leave = omega arith

-- which node a number is
pub data AtAgain (n k : ℕ) : Type 0 where
  a_round : (s : RoundSpot) → round_place s ≡ k → AtAgain n k
  an_own : (s : OwnSpot n) → again_place s ≡ k → AtAgain n k

pub again_spot_of : (n k : ℕ) → k < 6 + (n + n) → AtAgain n k
again_spot_of n zero h = a_round of_answer refl
again_spot_of n (suc zero) h = a_round of_turn refl
again_spot_of n (suc (suc zero)) h = an_own of_joined refl
again_spot_of n (suc (suc (suc zero))) h = an_own of_ask refl
again_spot_of n (suc (suc (suc (suc zero)))) h = an_own of_any refl
again_spot_of n (suc (suc (suc (suc (suc zero))))) h = a_round of_leave refl
again_spot_of n (suc (suc (suc (suc (suc (suc k)))))) h =
    ⊎_elim
    (λ (lt : k < n). let r = index_of n k lt in let here : AtAgain n (suc (suc (suc (suc (suc (suc k)))))) = an_own (of_latch r.index)
    (ap (λ j. suc (suc (suc (suc (suc (suc j)))))) r.is) in here)
    (λ (le : n ≤ k).
    let r = index_of n (k - n) (omega (arith, h, le)) in
    let here : AtAgain n (suc (suc (suc (suc (suc (suc k)))))) = an_own (of_start r.index) (omega (arith, r.is, le)) in
    here)
    (cases_lt k n)

pub again_now : {n : ℕ} {G B : Type 0} (r v : Bool) (hs : Pairs n) (ans : Bits n) (x : Turning (Core n G B)) (s : OwnSpot n)
    → get_or (again_list x) (again_place s) false ≡ (core_rule r v hs ans x.core s).now
again_now r v hs ans x of_joined = refl
again_now r v hs ans x of_ask = refl
again_now r v hs ans x of_any = refl
again_now r v hs ans x (of_latch i) = (two_lists i x.core.latched x.core.started).0
again_now r v hs ans x (of_start i) = (two_lists i x.core.latched x.core.started).1

pub round_now : {n : ℕ} {G B : Type 0} (r : Bool) (hs : Pairs n) (x : Turning (Core n G B)) (s : RoundSpot)
    → get_or (again_list x) (round_place s) false ≡ (turning_rule r hs x s).now
round_now r hs x of_answer = refl
round_now r hs x of_turn = refl
round_now r hs x of_leave = refl

-- each own node of a repetition in its rules
module _ {n : ℕ} {G B : Type 0} (v : ℕ → Bool) (p : Repeating) (x : Turning (Core (suc n) G B)) (hs : Pairs (suc n)) (ans : Bits (suc n))
    (at_joined : v p.joined ≡ x.core.answer) (at_leave : v p.leave ≡ x.leave) (at_turn : v p.turn.request ≡ x.turn) (at_any : v p.turn.any ≡ x.core.any)
    (at_latched : BitsAt (suc n) v p.turn.latched x.core.latched) (at_answers : BitsAt (suc n) v p.turn.answers ans)
    (at_guards : HeadsAt (suc n) v p.turn.guards hs) where
  pub round_told : (s : RoundSpot) → SaysSo v (get_or (again_rules p) (round_place s) no_rules) (turning_rule (v p.request) hs x s)
  round_told of_answer = answer_told v p.request p.joined p.leave p.turn.request p.turn.any p.turn.guards x hs at_joined at_leave at_turn at_any at_guards
  round_told of_turn = turn_told v p.request p.joined p.leave p.turn.request p.turn.any p.turn.guards x hs at_joined at_leave at_turn at_any at_guards
  round_told of_leave = leave_told v p.request p.joined p.leave p.turn.request p.turn.any p.turn.guards x hs at_joined at_leave at_turn at_any at_guards

  pub again_told : (s : OwnSpot (suc n)) → SaysSo v (get_or (again_rules p) (again_place s) no_rules) (core_rule (v p.turn.request) (v p.leave) hs ans x.core s)
  again_told of_joined = joined_told v p.turn.request p.turn.any p.turn.latched p.turn.answers p.turn.guards x.core hs ans at_any at_latched at_answers
      at_guards (v p.turn.request) (v p.leave)
  again_told of_ask =
      ask_told v p.turn.request p.turn.any p.turn.latched p.turn.answers p.turn.guards x.core hs ans at_any at_latched at_answers at_guards (v p.leave)
  again_told of_any = any_again_told v p.turn.request p.turn.any p.turn.latched p.turn.answers p.turn.guards x.core hs ans at_any at_latched at_answers
      at_guards (v p.turn.request) p.leave
  again_told (of_latch i) =
      told_at (get_or_append_left (latches p.turn.request p.turn.guards) (starts p.turn.latched p.turn.guards) no_rules (number_of i)
      (omega (arith, number_lt i, length-latches {n = suc n} v p.turn.request p.turn.guards hs at_guards)))
      (latch_told v p.turn.request p.turn.any p.turn.latched p.turn.answers p.turn.guards x.core hs ans at_any at_latched at_answers at_guards (v p.leave) i)
  again_told (of_start i) =
      told_at (ap (λ m. get_or (latches p.turn.request p.turn.guards ++ starts p.turn.latched p.turn.guards) (m + number_of i) no_rules)
      (sym (length-latches {n = suc n} v p.turn.request p.turn.guards hs at_guards))
      ∙ get_or-append-add (latches p.turn.request p.turn.guards) (starts p.turn.latched p.turn.guards) (number_of i) no_rules)
      (start_told v p.turn.request p.turn.any p.turn.latched p.turn.answers p.turn.guards x.core hs ans at_any at_latched at_answers at_guards
      (v p.turn.request) (v p.leave) i)
