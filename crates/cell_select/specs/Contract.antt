-- What a selection and a guarded repetition keep alone, against every neighbour that keeps its own side (Martin;
-- four-phase handshakes). The guards answer their request by their rails, each branch answers its start.
use Rattle.std.specs.Prelude.{◌||◌, ◌≢◌, ℕ, Bool, false, not, ◌&&◌, ◌==◌, if◌then◌else◌, List, [], ◌∷◌, ◌++◌, map, AllPairs}
use Rattle.std.specs.List.{list_all}
use Rattle.prs_core.specs.Pairs.{Pair, rails_of, or_of}
use Rattle.prs_core.specs.Parts.{Owned, owned, owned_at, Part, Wire, wire, Moment, all_low, is_valid}
use Rattle.cell_select.specs.Selections.{Choosing, Repeating, joined_answer, evaluation, latches, starts, select_rules, again_rules}

-- a branch: its latch, its start, its answer, and the rails of its guard
pub record Branch : Type 0 where
  pub latch : ℕ
  pub start : ℕ
  pub answer : ℕ
  pub guard : Pair

abbrev pub latches_of : List Branch → List ℕ
latches_of bs = map (λ (b : Branch). b.latch) bs

abbrev pub starts_of : List Branch → List ℕ
starts_of bs = map (λ (b : Branch). b.start) bs

abbrev pub answers_of : List Branch → List ℕ
answers_of bs = map (λ (b : Branch). b.answer) bs

abbrev pub guards_of : List Branch → List Pair
guards_of bs = map (λ (b : Branch). b.guard) bs

abbrev pub choosing_of : (request any : ℕ) → List Branch → Choosing
choosing_of request any bs =
    record { request = request; any = any; latched = latches_of bs; guards = guards_of bs; answers = answers_of bs }

-- of each branch its latch, its start and its answer
abbrev pub controls_of : List Branch → List ℕ
controls_of [] = []
controls_of (b ∷ bs) = b.latch ∷ b.start ∷ b.answer ∷ controls_of bs

-- the nodes at a selection
pub record SelectNodes : Type 0 where
  pub request : ℕ
  pub answer : ℕ
  pub eval : ℕ
  pub any : ℕ
  pub branches : List Branch

-- all nodes in it
abbrev pub select_nodes : SelectNodes → List ℕ
select_nodes c = c.request ∷ c.answer ∷ c.eval ∷ c.any ∷ (controls_of c.branches ++ rails_of (guards_of c.branches))

-- its own nodes: the answer, the request of the guards, whether a latch is up, the latches and the starts
abbrev pub select_inner : SelectNodes → List ℕ
select_inner c = c.answer ∷ c.eval ∷ c.any ∷ (latches_of c.branches ++ starts_of c.branches)

abbrev pub select_owned : SelectNodes → List Owned
select_owned c = owned_at (select_inner c) (select_rules (choosing_of c.request c.any c.branches))

-- the nodes at a guarded repetition: also the request of one turn, the joined answers, and the latch by which it ends
pub record AgainNodes : Type 0 where
  pub request : ℕ
  pub answer : ℕ
  pub turn : ℕ
  pub joined : ℕ
  pub eval : ℕ
  pub any : ℕ
  pub leave : ℕ
  pub branches : List Branch

abbrev pub again_nodes : AgainNodes → List ℕ
again_nodes c =
    c.request ∷ c.answer ∷ c.turn ∷ c.joined ∷ c.eval ∷ c.any ∷ c.leave
    ∷ (controls_of c.branches ++ rails_of (guards_of c.branches))

abbrev pub again_inner : AgainNodes → List ℕ
again_inner c =
    c.answer ∷ c.turn ∷ c.joined ∷ c.eval ∷ c.any ∷ c.leave ∷ (latches_of c.branches ++ starts_of c.branches)

abbrev pub repeating_of : AgainNodes → Repeating
repeating_of c =
    record { request = c.request; joined = c.joined; leave = c.leave; turn = choosing_of c.turn c.any c.branches }

abbrev pub again_owned : AgainNodes → List Owned
again_owned c = owned_at (again_inner c) (again_rules (repeating_of c))

-- of a selection's own nodes, or of those of a guarded repetition: what all branches share, and the latches and starts
abbrev pub shared_owned : (joined eval any request : ℕ) → (answers latched : List ℕ) → List Owned
shared_owned joined eval any request answers latched =
    owned joined (joined_answer any answers) ∷ owned eval (evaluation request any) ∷ owned any (or_of latched) ∷ []

abbrev pub branches_owned : (request : ℕ) → (latched begun : List ℕ) → List Pair → List Owned
branches_owned request latched begun hs = owned_at latched (latches request hs) ++ owned_at begun (starts latched hs)

-- no rail of a guard is high
abbrev pub guards_neutral : (ℕ → Bool) → List Branch → Bool
guards_neutral v bs = all_low v (rails_of (guards_of bs))

-- each guard has exactly one rail high
abbrev pub guards_valid : (ℕ → Bool) → List Branch → Bool
guards_valid v bs = list_all (is_valid v) (guards_of bs)

-- no branch is under way: all starts and all answers are low
abbrev pub branches_idle : (ℕ → Bool) → List Branch → Bool
branches_idle v bs = all_low v (starts_of bs) && all_low v (answers_of bs)

-- the guards are false, by their rails
abbrev pub guards_false : (ℕ → Bool) → List Branch → Bool
guards_false v bs = list_all (λ (b : Branch). v b.guard.f) bs

-- A branch with those before it and those after it, since a guard is judged beside all others. Below: each branch of a
-- list so.
pub record BranchPlace : Type 0 where
  pub before : List Branch
  pub this : Branch
  pub behind : List Branch

abbrev pub places_from : (before behind : List Branch) → List BranchPlace
places_from before [] = []
places_from before (b ∷ behind) = record { before = before; this = b; behind = behind }
    ∷ places_from (before ++ b ∷ []) behind

-- its guard is true, and those of all others are false
abbrev pub alone_true : (ℕ → Bool) → BranchPlace → Bool
alone_true v p = v p.this.guard.t && (guards_false v p.before && guards_false v p.behind)

-- exactly one guard is true, by the rails that are high for true
abbrev pub one_true : (ℕ → Bool) → List Branch → Bool
one_true v [] = false
one_true v (b ∷ bs) = if v b.guard.t then list_all (λ (b : Branch). not (v b.guard.t)) bs else one_true v bs

-- no guard is true
abbrev pub none_true : (ℕ → Bool) → List Branch → Bool
none_true v bs = list_all (λ (b : Branch). not (v b.guard.t)) bs

-- what was on a node when the guards' request last fell: by then the guards are evaluated, and after it their rails
-- fall
abbrev pub as_evaluated : (eval : ℕ) → Moment → ℕ → ℕ → Bool
as_evaluated eval m moved node = if moved == eval && m.value eval then m.value node else m.noted node

-- whether a node is a rail of a guard
abbrev pub is_rail : List Branch → ℕ → Bool
is_rail [] node = false
is_rail (b ∷ bs) node = node == b.guard.t || (node == b.guard.f || is_rail bs node)

-- The contract notes of the guards' rails what they were when the guards' request last fell; of that request, whether
-- it has moved since the request last did; and of every other node, whether it has moved since the guards' request last
-- did.
abbrev pub noting : (request eval : ℕ) → List Branch → Moment → ℕ → ℕ → Bool
noting request eval bs m moved node =
    if is_rail bs node then as_evaluated eval m moved node
    else if moved == (if node == eval then request else eval) then false
    else moved == node || m.noted node

-- as a wire that rises only where it hasn't moved since
abbrev pub once : Wire → Wire
once w = wire w.node (λ m. w.rises m && not (m.noted w.node)) w.falls

-- A rail rises where the guards are requested and neither rail of its guard is high, and falls where they aren't.
abbrev pub guard_wire : (eval : ℕ) → Pair → ℕ → Wire
guard_wire eval p rail = wire rail (λ m. m.value eval && (not (m.value p.t) && not (m.value p.f)))
    (λ m. not (m.value eval))

-- A branch's answer follows its start.
abbrev pub answer_wire : Branch → Wire
answer_wire b = wire b.answer (λ m. m.value b.start) (λ m. not (m.value b.start))

abbrev pub branch_wires : (eval : ℕ) → List Branch → List Wire
branch_wires eval [] = []
branch_wires eval (b ∷ bs) = guard_wire eval b.guard b.guard.t ∷ guard_wire eval b.guard b.guard.f ∷ answer_wire b
    ∷ branch_wires eval bs

-- The request is raised where the answer is low, and lowered where it is high.
abbrev pub request_wire : (request answer : ℕ) → Wire
request_wire request answer = wire request (λ m. not (m.value answer)) (λ m. m.value answer)

-- The guards are requested under the request (of a turn), where the answer, all their rails, all starts and the
-- branches' answers are low; they are released where all of them are valid and no branch is under way.
abbrev pub eval_wire : (request answer eval : ℕ) → List Branch → Wire
eval_wire request answer eval bs =
    wire eval
    (λ m. m.value request && (not (m.value answer) && (guards_neutral m.value bs && branches_idle m.value bs)))
    (λ m. guards_valid m.value bs && branches_idle m.value bs)

-- The one branch whose guard alone was true is started, under the request, once the guards are released and no branch
-- is under way; its start falls where it has answered.
abbrev pub start_wire : (request answer eval : ℕ) → List Branch → BranchPlace → Wire
start_wire request answer eval bs p =
    wire p.this.start
    (λ m. m.value request && (alone_true m.noted p
    && (not (m.value eval) && (not (m.value answer) && (guards_neutral m.value bs && branches_idle m.value bs)))))
    (λ m. m.value p.this.answer)

abbrev pub start_wires : (request answer eval : ℕ) → List Branch → List Wire
start_wires request answer eval bs = map (start_wire request answer eval bs) (places_from [] bs)

-- A selection answers once its branch has, and takes its answer back once it has released the guards and the branches.
abbrev pub select_answer : SelectNodes → Wire
select_answer c =
    wire c.answer
    (λ m. m.value c.request && not (all_low m.value (answers_of c.branches)))
    (λ m. not (m.value c.request) && (not (m.value c.eval) && branches_idle m.value c.branches))

-- It requests the guards once for each of its requests, and starts a branch once for each time that they were
-- requested. It may wait for ever where all guards are evaluated and not exactly one of them is true.
abbrev pub select_part : SelectNodes → Part
select_part c = record {
  own = select_owned c;
  promises = select_answer c ∷ map once (eval_wire c.request c.answer c.eval c.branches
      ∷ start_wires c.request c.answer c.eval c.branches);
  allows = request_wire c.request c.answer ∷ branch_wires c.eval c.branches;
  lows = select_inner c;
  bits = [];
  ports = c.request ∷ c.answer ∷ [];
  blocked = λ v. guards_valid v c.branches && not (one_true v c.branches);
  notes = noting c.request c.eval c.branches;
}

-- A guarded repetition answers once the guards were requested under its request and all were false, and moves its
-- answer only where the guards are released and no branch is under way.
abbrev pub again_answer : AgainNodes → Wire
again_answer c =
    wire c.answer
    (λ m. m.value c.request && (m.noted c.eval
    && (guards_false m.noted c.branches
    && (not (m.value c.eval) && (guards_neutral m.value c.branches && branches_idle m.value c.branches)))))
    (λ m. not (m.value c.request) &&
    (not (m.value c.eval) && (guards_neutral m.value c.branches && branches_idle m.value c.branches)))

-- as wires that move only where the request is high too
abbrev pub rises_under : (request : ℕ) → Wire → Wire
rises_under request w = wire w.node (λ m. m.value request && w.rises m) w.falls

-- In each turn it does as a selection does, under the request of the turn: it starts a branch once for each time that
-- the guards were requested. It may wait for ever where all guards are evaluated and two or more of them are true.
abbrev pub again_part : AgainNodes → Part
again_part c = record {
  own = again_owned c;
  promises = again_answer c ∷ map (rises_under c.request) (eval_wire c.turn c.answer c.eval c.branches
      ∷ map once (start_wires c.turn c.answer c.eval c.branches));
  allows = request_wire c.request c.answer ∷ branch_wires c.eval c.branches;
  lows = again_inner c;
  bits = [];
  ports = c.request ∷ c.answer ∷ [];
  blocked = λ v. guards_valid v c.branches && (not (none_true v c.branches) && not (one_true v c.branches));
  notes = noting c.request c.eval c.branches;
}

-- all nodes are distinct numbers
abbrev pub AreApart : List ℕ → Type 0
AreApart nodes = AllPairs (λ (a b : ℕ). a ≢ b) nodes
