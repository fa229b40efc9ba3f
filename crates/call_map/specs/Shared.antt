-- Two nets: in the one each procedure has one body, which its calls share; in the other each call has a copy of its
-- own.
use Rattle.std.specs.Prelude.{◌≡◌, ◌≢◌, ℕ, ◌<◌, ◌≤◌, Bool, true, false, not, ◌&&◌, ◌||◌, List, [], length}
use Rattle.prs_core.specs.Nets.{NetValue, up_of, down_of}
use Rattle.prs_core.specs.Moves.{high, guard_holds}
use Rattle.env_script.specs.Scripts.{OfferValue}
use Rattle.env_script.specs.Runs.{RunState, move_enabled, IsApart, IsSafeMove}
use Rattle.net_compose.specs.WiresBelow.{WiresBelow}

-- a node of the net with shared bodies
pub data Here : Type 0 where
  -- one that is no request and no answer of a call and belongs to no procedure
  plain : (key : ℕ) → Here
  -- the request of a call, and its answer
  asks : (call : ℕ) → Here
  answers : (call : ℕ) → Here
  -- the request of a procedure, and a node of its body
  enters : (proc : ℕ) → Here
  body : (proc node : ℕ) → Here

-- a node of the net with copies
pub data There : Type 0 where
  plainly : (key : ℕ) → There
  asked : (call : ℕ) → There
  copied : (call node : ℕ) → There

-- how the nodes of both nets are numbered
pub record Sharing : Type 0 where
  pub is_plain : ℕ → Bool
  pub calls : ℕ
  pub procs : ℕ
  -- the procedure of a call, and a call of a procedure
  pub of : ℕ → ℕ
  pub one_call : ℕ → ℕ
  -- how many nodes a body has, and which of them is its answer
  pub size : ℕ → ℕ
  pub last : ℕ → ℕ
  pub here : Here → ℕ
  pub there : There → ℕ
  pub count : ℕ
  pub count_there : ℕ
  -- the nodes below this number have the same numbers in both nets; among them are go and all wires
  pub low : ℕ

abbrev pub IsHere : Sharing → Here → Type 0
IsHere S (plain k) = S.is_plain k ≡ true
IsHere S (asks c) = c < S.calls
IsHere S (answers c) = c < S.calls
IsHere S (enters p) = p < S.procs
IsHere S (body p x) = (p < S.procs) × (x < S.size p)

abbrev pub IsThere : Sharing → There → Type 0
IsThere S (plainly k) = S.is_plain k ≡ true
IsThere S (asked c) = c < S.calls
IsThere S (copied c x) = (c < S.calls) × (x < S.size (S.of c))

-- the node of a body that answers a call, and that of the call's copy
abbrev pub body_end : Sharing → (call : ℕ) → Here
body_end S c = body (S.of c) (S.last (S.of c))

abbrev pub copy_end : Sharing → (call : ℕ) → There
copy_end S c = copied c (S.last (S.of c))

-- Values of all nodes but requests, v in the net with shared bodies and u in that with copies: the copy of one call of
-- each procedure, cur, has the values of the body, except that its answer is the call's; every other copy is low.
pub record IsInStep (S : Sharing) (cur : ℕ → ℕ) (v u : ℕ → Bool) : Type 0 where
  pub current : (p : ℕ) → p < S.procs → (cur p < S.calls) × (S.of (cur p) ≡ p)
  pub plain : (k : ℕ) → S.is_plain k ≡ true → v (S.here (plain k)) ≡ u (S.there (plainly k))
  pub answers : (c : ℕ) → c < S.calls → v (S.here (answers c)) ≡ u (S.there (copy_end S c))
  pub inside : (c x : ℕ) → c < S.calls → cur (S.of c) ≡ c → x < S.size (S.of c) → x ≢ S.last (S.of c)
      → v (S.here (body (S.of c) x)) ≡ u (S.there (copied c x))
  pub blank : (c x : ℕ) → c < S.calls → cur (S.of c) ≢ c → x < S.size (S.of c) → u (S.there (copied c x)) ≡ false

-- values that the body and the copy of the call c have in common, its request and its answer among them
pub record IsBodyAlike (S : Sharing) (c : ℕ) (v u : ℕ → Bool) : Type 0 where
  pub plain : (k : ℕ) → S.is_plain k ≡ true → v (S.here (plain k)) ≡ u (S.there (plainly k))
  pub request : v (S.here (enters (S.of c))) ≡ u (S.there (asked c))
  pub inside : (x : ℕ) → x < S.size (S.of c) → v (S.here (body (S.of c) x)) ≡ u (S.there (copied c x))

-- a node's guard by which it rises holds, and that by which it falls
abbrev pub pulled_up : NetValue → (ℕ → Bool) → ℕ → Bool
pulled_up net v n = guard_holds v (up_of net n)

abbrev pub pulled_down : NetValue → (ℕ → Bool) → ℕ → Bool
pulled_down net v n = guard_holds v (down_of net n)

-- the two guards of a node of the one net agree with those of a node of the other
abbrev pub SameGuards : (A B : NetValue) → (v u : ℕ → Bool) → (n m : ℕ) → Type 0
SameGuards A B v u n m = (pulled_up A v n ≡ pulled_up B u m) × (pulled_down A v n ≡ pulled_down B u m)

-- Net A is net B with one body for all calls of a procedure. What is left open is how either net is laid out: S says
-- which node has which number.
pub record SharesBodies (A B : NetValue) (S : Sharing) : Type 0 where
  -- each node has one number
  pub here_below : (s : Here) → IsHere S s → S.here s < S.count
  pub here_back : (n : ℕ) → n < S.count → (s : Here) × IsHere S s × (S.here s ≡ n)
  pub here_apart : (s t : Here) → IsHere S s → IsHere S t → S.here s ≡ S.here t → s ≡ t
  pub there_below : (t : There) → IsThere S t → S.there t < S.count_there
  pub there_back : (n : ℕ) → n < S.count_there → (t : There) × IsThere S t × (S.there t ≡ n)
  pub there_apart : (s t : There) → IsThere S s → IsThere S t → S.there s ≡ S.there t → s ≡ t
  pub long : length A.first ≡ S.count
  pub long_there : length B.first ≡ S.count_there
  pub within : S.low ≤ S.count
  pub within_there : S.low ≤ S.count_there
  -- calls and procedures
  pub of_below : (c : ℕ) → c < S.calls → S.of c < S.procs
  pub called : (p : ℕ) → p < S.procs → (S.one_call p < S.calls) × (S.of (S.one_call p) ≡ p)
  pub last_within : (p : ℕ) → p < S.procs → S.last p < S.size p
  -- low nodes
  pub some : 0 < S.low
  pub low_plain : (r : ℕ) → r < S.low → (S.is_plain r ≡ true) × (S.here (plain r) ≡ r) × (S.there (plainly r) ≡ r)
  pub wires : WiresBelow S.low A.channels
  -- first values
  pub first_plain : (k : ℕ) → S.is_plain k ≡ true → high A.first (S.here (plain k)) ≡ high B.first (S.there (plainly k))
  pub first_asks : (c : ℕ) → c < S.calls → high A.first (S.here (asks c)) ≡ false
  pub first_answers : (c : ℕ) → c < S.calls → high A.first (S.here (answers c)) ≡ false
  pub first_enters : (p : ℕ) → p < S.procs → high A.first (S.here (enters p)) ≡ false
  pub first_body : (p x : ℕ) → p < S.procs → x < S.size p → high A.first (S.here (body p x)) ≡ false
  pub first_asked : (c : ℕ) → c < S.calls → high B.first (S.there (asked c)) ≡ false
  pub first_copied : (c x : ℕ) → c < S.calls → x < S.size (S.of c) → high B.first (S.there (copied c x)) ≡ false
  -- rules: none of these but those of bodies and calls reads a request
  pub plain_rules : (cur : ℕ → ℕ) (v u : ℕ → Bool) → IsInStep S cur v u → (k : ℕ) → S.is_plain k ≡ true
      → SameGuards A B v u (S.here (plain k)) (S.there (plainly k))
  pub asks_rules : (cur : ℕ → ℕ) (v u : ℕ → Bool) → IsInStep S cur v u → (c : ℕ) → c < S.calls
      → SameGuards A B v u (S.here (asks c)) (S.there (asked c))
  pub body_rules : (c : ℕ) (v u : ℕ → Bool) → c < S.calls → IsBodyAlike S c v u → (x : ℕ) → x < S.size (S.of c)
      → SameGuards A B v u (S.here (body (S.of c) x)) (S.there (copied c x))
  -- the request of a body is the OR of those of its calls
  pub enters_on : (v : ℕ → Bool) (c : ℕ) → c < S.calls → v (S.here (asks c)) ≡ true
      → (pulled_up A v (S.here (enters (S.of c))) ≡ true) × (pulled_down A v (S.here (enters (S.of c))) ≡ false)
  pub enters_off : (v : ℕ → Bool) (p : ℕ) → p < S.procs
      → ((c : ℕ) → c < S.calls → S.of c ≡ p → v (S.here (asks c)) ≡ false)
      → (pulled_up A v (S.here (enters p)) ≡ false) × (pulled_down A v (S.here (enters p)) ≡ true)
  -- a call answers where it is requested and the body answers, until the body answers no more
  pub answers_rules : (v : ℕ → Bool) (c : ℕ) → c < S.calls
      → (pulled_up A v (S.here (answers c)) ≡ (v (S.here (asks c)) && v (S.here (body_end S c))))
      × (pulled_down A v (S.here (answers c)) ≡ not (v (S.here (body_end S c))))
  pub past : (n : ℕ) → S.count ≤ n → (up_of A n ≡ []) × (down_of A n ≡ [])
  pub past_there : (n : ℕ) → S.count_there ≤ n → (up_of B n ≡ []) × (down_of B n ≡ [])

-- in a state of the net with copies the request of a call's copy is high, and its answer
abbrev pub copy_asked : Sharing → RunState → (call : ℕ) → Bool
copy_asked S st c = high st.values (S.there (asked c))

abbrev pub copy_answers : Sharing → RunState → (call : ℕ) → Bool
copy_answers S st c = high st.values (S.there (copy_end S c))

abbrev pub IsBusy : Sharing → RunState → ℕ → Type 0
IsBusy S st c = (copy_asked S st c || copy_answers S st c) ≡ true

-- What copies keep in a state of their net. A request rises only where the answer is low, and falls only where it is
-- high. Where both are high or both are low nothing in the copy may move, and in the second case all in it is low. Of
-- the copies of one procedure at most one is busy.
pub record CopiesKeep (B : NetValue) (S : Sharing) (script : List OfferValue) (st : RunState) : Type 0 where
  pub turn : (c : ℕ) → c < S.calls → move_enabled B script st (S.there (asked c)) ≡ true
      → copy_asked S st c ≡ copy_answers S st c
  pub quiet : (c x : ℕ) → c < S.calls → x < S.size (S.of c) → copy_asked S st c ≡ copy_answers S st c
      → move_enabled B script st (S.there (copied c x)) ≡ false
  pub clear : (c x : ℕ) → c < S.calls → x < S.size (S.of c) → copy_asked S st c ≡ false → copy_answers S st c ≡ false
      → high st.values (S.there (copied c x)) ≡ false
  pub alone : (c j : ℕ) → c < S.calls → j < S.calls → S.of c ≡ S.of j → IsBusy S st c → IsBusy S st j → c ≡ j

-- no node has interference (both guards holding), and each enabled move is safe
pub record IsSafeAt (net : NetValue) (script : List OfferValue) (st : RunState) : Type 0 where
  pub apart : IsApart net st
  pub each : (n : ℕ) → move_enabled net script st n ≡ true → IsSafeMove net script st n
