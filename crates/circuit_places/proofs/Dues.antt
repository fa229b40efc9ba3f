-- How many moves the nodes of a statement make at most before the program's next step, by their values: a number that falls
-- with each own move that is no step.
use Rattle.std.proofs.Common.{◌≡◌, ℕ, zero, suc, ◌+◌, ◌*◌, ◌<◌, ◌≤◌, Bool, true, false, refl, ap, arith, ◌≢◌}
use Rattle.std.specs.Prelude.{not, ◌||◌}
use Rattle.std.proofs.Math.Path.{fun_ext}
use Rattle.width_check.specs.Processes.{Process, skipping, assigning, sending, receiving, in_turn, side_by_side, choosing, repeating, Processes, no_members, and_member, member_count, Choices, no_choices, and_choice, choice_count, TypedProgram}
use Rattle.width_check.specs.Typing.{channel_width}
use Rattle.function_blocks.specs.Rails.{pair_in}
use Rattle.circuit_places.specs.Bounds.{moves_most, turn_most, choice_most, gates_in}
use Rattle.circuit_places.specs.Lines.{Rails}
use Rattle.circuit_places.specs.Heads.{Bits, some_bit}
use Rattle.circuit_places.specs.Circuit.{QElementCells, Cells, TurnCells, BranchCells, ChoiceCells, GuardCells, Pairs, gate_count, joint_count, cell_bit, side_of, turned_pairs}

-- one for a node that is high
abbrev pub mark : Bool → ℕ
mark true = 1
mark false = 0

abbrev pub lack : Bool → ℕ
lack true = 0
lack false = 1

-- Of a node that rises under a request and falls without it: before it rises both are left, then one.
abbrev pub weigh : (asked high : Bool) → ℕ
weigh true true = 1
weigh true false = 2
weigh false true = 1
weigh false false = 0

-- over the rails of gates, and over numbered nodes
abbrev pub pairs_sum : (Bool → ℕ) → (n : ℕ) → Pairs n → ℕ
pairs_sum f zero u = 0
pairs_sum f (suc n) u = f u.0.t + (f u.0.f + pairs_sum f n u.1)

abbrev pub bits_sum : (Bool → ℕ) → (n : ℕ) → (ℕ → Bool) → ℕ
bits_sum f zero v = 0
bits_sum f (suc n) v = f (v zero) + bits_sum f n (λ i. v (suc i))

-- a move of one of them
pub pairs_turned : (f : Bool → ℕ) (n : ℕ) (u : Pairs n) (k : ℕ) (one : Bool) → k < n
    → suc (f (not (side_of (pair_in n u k) one))) ≡ f (side_of (pair_in n u k) one) → suc (pairs_sum f n (turned_pairs n u k one)) ≡ pairs_sum f n u
pairs_turned f zero u k one less h = absurd (omega (arith, less))
pairs_turned f (suc n) u zero true less h = omega (arith, h)
pairs_turned f (suc n) u zero false less h = omega (arith, h)
pairs_turned f (suc n) u (suc k) one less h =
    let e : suc (pairs_sum f n (turned_pairs n u.1 k one)) ≡ pairs_sum f n u.1 = pairs_turned f n u.1 k one (omega (arith, less)) h in
    omega (arith, e)

pub bits_turned : (f : Bool → ℕ) (n : ℕ) (v w : ℕ → Bool) (i : ℕ) → i < n → suc (f (w i)) ≡ f (v i) → ((j : ℕ) → j ≢ i → w j ≡ v j)
    → suc (bits_sum f n w) ≡ bits_sum f n v
bits_turned f zero v w i less h same = absurd (omega (arith, less))
bits_turned f (suc n) v w zero less h same =
    let e : bits_sum f n (λ j. w (suc j)) ≡ bits_sum f n (λ j. v (suc j)) = ap (bits_sum f n) (fun_ext (λ j. same (suc j) (λ z. cc z))) in
    omega (arith, h, e)
bits_turned f (suc n) v w (suc i) less h same =
    let e : suc (bits_sum f n (λ j. w (suc j))) ≡ bits_sum f n (λ j. v (suc j)) =
    bits_turned f n (λ j. v (suc j)) (λ j. w (suc j)) i (omega (arith, less)) h (λ j ne. same (suc j) (λ z. ne (cc z))) in
    let d : f (w zero) ≡ f (v zero) = ap f (same zero (λ z. cc z)) in
    omega (arith, e, d)

-- bounds
pub pairs_below : (f g : Bool → ℕ) → ((b : Bool) → f b ≤ g b) → (n : ℕ) (u : Pairs n) → pairs_sum f n u ≤ pairs_sum g n u
pairs_below f g h zero u = omega arith
pairs_below f g h (suc n) u = omega (arith, h u.0.t, h u.0.f, pairs_below f g h n u.1)

pub bits_below : (f g : Bool → ℕ) → ((b : Bool) → f b ≤ g b) → (n : ℕ) (v : ℕ → Bool) → bits_sum f n v ≤ bits_sum g n v
bits_below f g h zero v = omega arith
bits_below f g h (suc n) v = omega (arith, h (v zero), bits_below f g h n (λ i. v (suc i)))

pub pairs_most : (f : Bool → ℕ) → ((b : Bool) → f b ≤ 1) → (n : ℕ) (u : Pairs n) → pairs_sum f n u ≤ 2 * n
pairs_most f h zero u = omega arith
pairs_most f h (suc n) u = omega (arith, h u.0.t, h u.0.f, pairs_most f h n u.1)

pub pairs_twice : (f : Bool → ℕ) → ((b : Bool) → f b ≤ 2) → (n : ℕ) (u : Pairs n) → pairs_sum f n u ≤ 4 * n
pairs_twice f h zero u = omega arith
pairs_twice f h (suc n) u = omega (arith, h u.0.t, h u.0.f, pairs_twice f h n u.1)

pub bits_twice : (f : Bool → ℕ) → ((b : Bool) → f b ≤ 2) → (n : ℕ) (v : ℕ → Bool) → bits_sum f n v ≤ 2 * n
bits_twice f h zero v = omega arith
bits_twice f h (suc n) v = omega (arith, h (v zero), bits_twice f h n (λ i. v (suc i)))

pub mark_most : (b : Bool) → mark b ≤ 1
mark_most true = omega arith
mark_most false = omega arith

pub lack_most : (b : Bool) → lack b ≤ 1
lack_most true = omega arith
lack_most false = omega arith

pub weigh_most : (r b : Bool) → weigh r b ≤ 2
weigh_most true true = omega arith
weigh_most true false = omega arith
weigh_most false true = omega arith
weigh_most false false = omega arith

pub weigh_eases : (b : Bool) → weigh false b ≤ weigh true b
weigh_eases true = omega arith
weigh_eases false = omega arith

-- a node that moves with its request
pub weigh_falls : (r b : Bool) → b ≡ not r → suc (weigh r (not b)) ≡ weigh r b
weigh_falls true true e = absurd (cc e)
weigh_falls true false e = refl
weigh_falls false true e = refl
weigh_falls false false e = absurd (cc e)

-- gates of all guards
abbrev pub guards_sum : (Bool → ℕ) → (choices : Choices) → GuardCells choices → ℕ
guards_sum f no_choices x = 0
guards_sum f (and_choice g p more) x = pairs_sum f (gate_count g) x.0 + guards_sum f more x.1

pub guards_most : (f : Bool → ℕ) → ((b : Bool) → f b ≤ 1) → (choices : Choices) (x : GuardCells choices) → guards_sum f choices x ≤ 2 * gates_in choices
guards_most f h no_choices x = omega arith
guards_most f h (and_choice g p more) x = omega (arith, pairs_most f h (gate_count g) x.0, guards_most f h more x.1)

-- A child that is still to be called, under its request's request, or how much is left of it (`inner`); and so of what stands
-- behind a member of a sequence.
abbrev pub call_due : (asked child latch : Bool) → (full inner : ℕ) → ℕ
call_due true false false full inner = 2 + full
call_due r c u full inner = mark c + inner

abbrev pub later_due : (asked next : Bool) → (full inner : ℕ) → ℕ
later_due true false full inner = full
later_due r b full inner = inner

abbrev pub guarded_due : (asked child latch next : Bool) → (full inner : ℕ) → ℕ
guarded_due r c u b full inner = weigh r u + (weigh r b + call_due r c u full inner)

-- Of a core in which a latch is up, or a branch under way: before the start rises, before the latch falls, and then. Before that a
-- selection asks for its guards, which rise; a repetition calls for a turn, too, and once its branch is done it does so again.
abbrev pub core_due : (ask any latched started joined : Bool) → (high opened inner : ℕ) → ℕ
core_due e m true false d high opened inner = weigh true m + (mark e + (high + (5 + opened)))
core_due e m true true d high opened inner = mark m + (2 + (weigh true d + inner))
core_due e m false s true high opened inner = mark m + (mark s + (1 + inner))
core_due e m false s false high opened inner = 0

-- And what is due before, of the statement whose core is asked so, and while the core is busy: a repetition calls for a further turn.
abbrev pub held_due : (again asked : Bool) → (gates : ℕ) → ℕ
held_due false r gates = 0
held_due true r gates = mark r + (2 + gates)

abbrev pub rest_due : (again asked ask busy : Bool) → (gates low : ℕ) → ℕ
rest_due again r e true gates low = held_due again r gates
rest_due again true true false gates low = low
rest_due again true false false gates low = suc gates
rest_due true false e false gates low = 2 + gates
rest_due false false e false gates low = 0

abbrev pub total_due : (again asked ask any latched started joined : Bool) → (high opened inner gates low : ℕ) → ℕ
total_due again r e m l s d high opened inner gates low = core_due e m l s d high opened inner + rest_due again r e (l || d) gates low

abbrev pub again_due : (asked answer turn leave ask any : Bool) → (high core : ℕ) → ℕ
again_due r true t v e m high core = mark t + (mark v + (mark m + 1))
again_due true false t true e m high core = lack m + (mark e + (high + 5))
again_due true false t false e m high core = core
again_due false false t v e m high core = 0

-- the rails that a receive takes over
abbrev pub rails_sum : (Bool → ℕ) → (width : ℕ) → Rails → ℕ
rails_sum f w q = bits_sum f w (λ i. q i true) + bits_sum f w (λ i. q i false)

abbrev mutual
  pub due : (P : TypedProgram) (p : Process) → Bool → Cells p → ℕ
  due P skipping r x = weigh r x
  due P (assigning y at e) r x = weigh r x.answer + pairs_sum (weigh r) (gate_count e) x.gates
  due P (sending c at e) r x = weigh r x.answer + pairs_sum (weigh r) (gate_count e) x.gates
  due P (receiving c at y to) r x = weigh r x.answer + (weigh r x.kept + rails_sum (weigh r) (channel_width P.channels c) x.taken)
  due P (in_turn members) r x = turn_due P members r x
  due P (side_by_side members) r x =
      bits_sum (weigh r) (joint_count (member_count members)) (cell_bit (joint_count (member_count members)) x.tree) + each_due P members r x.branches
  due P (repeating p) r x = mark x.ask + due P p x.ask x.inner
  due P (choosing false choices) r x =
      total_due false r x.ask x.any (some_bit (choice_count choices) x.latched) (some_bit (choice_count choices) x.started) x.answer
      (guards_sum mark choices x.guards) (choice_most P choices) (choice_due P choices x.started x.branches) (2 * gates_in choices)
      (guards_sum lack choices x.guards)
  due P (choosing true choices) r x =
      again_due r x.answer x.turn x.leave x.core.ask x.core.any (guards_sum mark choices x.core.guards)
      (total_due true x.turn x.core.ask x.core.any (some_bit (choice_count choices) x.core.latched) (some_bit (choice_count choices) x.core.started)
      x.core.answer (guards_sum mark choices x.core.guards) (choice_most P choices) (choice_due P choices x.core.started x.core.branches)
      (2 * gates_in choices) (guards_sum lack choices x.core.guards))

  pub turn_due : (P : TypedProgram) (members : Processes) → Bool → TurnCells members → ℕ
  turn_due P no_members r x = 0
  turn_due P (and_member p no_members) r x = due P p r x
  turn_due P (and_member p (and_member q more)) r x =
      guarded_due r x.member.child x.member.latch x.member.next (moves_most P p) (due P p x.member.child x.member.inner)
      + later_due r x.member.next (turn_most P (and_member q more)) (turn_due P (and_member q more) x.member.next x.later)

  pub each_due : (P : TypedProgram) (members : Processes) → Bool → BranchCells members → ℕ
  each_due P no_members r x = 0
  each_due P (and_member p more) r x = guarded_due r x.0.child x.0.latch x.0.next (moves_most P p) (due P p x.0.child x.0.inner) + each_due P more r x.1

  pub choice_due : (P : TypedProgram) (choices : Choices) → Bits (choice_count choices) → ChoiceCells choices → ℕ
  choice_due P no_choices b x = 0
  choice_due P (and_choice g p more) b x = due P p b.0 x.0 + choice_due P more b.1 x.1

-- a statement in its Q-element
abbrev pub guarded_of_due : (P : TypedProgram) (p : Process) → Bool → QElementCells (Cells p) → ℕ
guarded_of_due P p r x = guarded_due r x.child x.latch x.next (moves_most P p) (due P p x.child x.inner)
