-- What is due of a statement is two moves for each node at most, and without its request no more than with it.
--
-- r: the request; c, u, b: the nodes of a Q-element; all, inner: what is due in full and now; w, q: the width and the rails of a receive; e, m, l, s, d:
-- as in the core (whether guards are asked for, any guard has a rail, a latch, a start and the answer are high); n: how many branches.
use Rattle.std.proofs.Common.{◌≡◌, ℕ, zero, suc, ◌+◌, ◌*◌, ◌≤◌, Bool, true, false, refl, arith}
use Rattle.std.specs.Prelude.{◌||◌}
use Rattle.width_check.specs.Processes.{Process, skipping, assigning, sending, receiving, in_turn, side_by_side, choosing, repeating, Processes, no_members, and_member, member_count, Choices, no_choices, and_choice, choice_count, TypedProgram}
use Rattle.width_check.specs.Typing.{channel_width}
use Rattle.circuit_places.specs.Lines.{Rails}
use Rattle.circuit_places.specs.Heads.{Bits, some_bit}
use Rattle.circuit_places.specs.Circuit.{Cells, TurnCells, BranchCells, ChoiceCells, gate_count, joint_count, cell_bit}
use Rattle.circuit_places.specs.Bounds.{gates_in, moves_most, turn_most, each_most, choice_most}
use Rattle.circuit_places.proofs.Dues.{mark, lack, weigh, pairs_below, bits_below, pairs_twice, bits_twice, mark_most, lack_most, weigh_most, weigh_eases, guards_sum, guards_most, call_due, later_due, guarded_due, core_due, held_due, rest_due, total_due, again_due, rails_sum, due, turn_due, each_due, choice_due}

-- parts
pub guarded_most : (r c u b : Bool) (all inner : ℕ) → inner ≤ all → guarded_due r c u b all inner ≤ 6 + all
guarded_most r c u b all inner h = omega (arith, weigh_most r u, weigh_most r b, here r c u)
  where
    here : (r c u : Bool) → call_due r c u all inner ≤ 2 + all
    here true false false = omega arith
    here true true u = omega (arith, h)
    here true false true = omega (arith, h)
    here false true u = omega (arith, h)
    here false false u = omega (arith, h)

guarded_eases : (c u b : Bool) (all inner : ℕ) → inner ≤ all → guarded_due false c u b all inner ≤ guarded_due true c u b all inner
guarded_eases c u b all inner h = omega (arith, weigh_eases u, weigh_eases b, here c u)
  where
    here : (c u : Bool) → call_due false c u all inner ≤ call_due true c u all inner
    here true u = omega arith
    here false true = omega arith
    here false false = omega (arith, h)

later_most : (r b : Bool) (all inner : ℕ) → inner ≤ all → later_due r b all inner ≤ all
later_most true false all inner h = omega arith
later_most true true all inner h = h
later_most false b all inner h = h

later_eases : (b : Bool) (all inner : ℕ) → inner ≤ all → later_due false b all inner ≤ later_due true b all inner
later_eases true all inner h = omega arith
later_eases false all inner h = h

rails_twice : (r : Bool) (w : ℕ) (q : Rails) → rails_sum (weigh r) w q ≤ 4 * w
rails_twice r w q = omega (arith, bits_twice (weigh r) (weigh_most r) w (λ i. q i true), bits_twice (weigh r) (weigh_most r) w (λ i. q i false))

rails_eases : (w : ℕ) (q : Rails) → rails_sum (weigh false) w q ≤ rails_sum (weigh true) w q
rails_eases w q = omega (
  arith,
  bits_below (weigh false) (weigh true) weigh_eases w (λ i. q i true),
  bits_below (weigh false) (weigh true) weigh_eases w (λ i. q i false),
)

-- cores
core_most : (e m l s d : Bool) (high opened inner gates : ℕ) → high ≤ 2 * gates → inner ≤ opened
    → core_due e m l s d high opened inner ≤ 8 + (2 * gates + opened)
core_most e m true false d high opened inner gates h k = omega (arith, weigh_most true m, mark_most e, h)
core_most e m true true d high opened inner gates h k = omega (arith, mark_most m, weigh_most true d, k)
core_most e m false s true high opened inner gates h k = omega (arith, mark_most m, mark_most s, k)
core_most e m false s false high opened inner gates h k = omega arith

held_most : (again r : Bool) (gates : ℕ) → held_due again r gates ≤ 3 + gates
held_most false r gates = omega arith
held_most true r gates = omega (arith, mark_most r)

select_most : (n : ℕ) (r e m l s d : Bool) (high low opened inner gates : ℕ) → (l ≡ true → 1 ≤ n) → high ≤ 2 * gates → low ≤ 2 * gates → inner ≤ opened
    → total_due false r e m l s d high opened inner (2 * gates) low ≤ 6 + (4 * n + (4 * gates + opened))
select_most n r e m true s d high low opened inner gates some h g k = omega (arith, core_most e m true s d high opened inner gates h k, some refl)
select_most n r e m false s true high low opened inner gates some h g k = omega (arith, mark_most m, mark_most s, k)
select_most n true true m false s false high low opened inner gates some h g k = omega (arith, g)
select_most n true false m false s false high low opened inner gates some h g k = omega arith
select_most n false e m false s false high low opened inner gates some h g k = omega arith

rest_most : (r e b : Bool) (gates low : ℕ) → low ≤ gates → rest_due true r e b gates low ≤ 3 + gates
rest_most r e true gates low g = held_most true r gates
rest_most true true false gates low g = omega (arith, g)
rest_most true false false gates low g = omega arith
rest_most false e false gates low g = omega arith

again_most : (n : ℕ) (r a t v e m l s d : Bool) (high low opened inner gates : ℕ) → high ≤ 2 * gates → low ≤ 2 * gates → inner ≤ opened
    → again_due r a t v e m high (total_due true t e m l s d high opened inner (2 * gates) low) ≤ 12 + (4 * n + (4 * gates + opened))
again_most n r true t v e m l s d high low opened inner gates h g k = omega (arith, mark_most t, mark_most v, mark_most m)
again_most n true false t true e m l s d high low opened inner gates h g k = omega (arith, lack_most m, mark_most e, h)
again_most n true false t false e m l s d high low opened inner gates h g k =
    omega (arith, core_most e m l s d high opened inner gates h k, rest_most t e (l || d) (2 * gates) low g)
again_most n false false t v e m l s d high low opened inner gates h g k = omega arith

rest_eases : (e b : Bool) (gates low : ℕ) → rest_due false false e b gates low ≤ rest_due false true e b gates low
rest_eases e true gates low = omega arith
rest_eases true false gates low = omega arith
rest_eases false false gates low = omega arith

again_eases : (a t v e m : Bool) (high core : ℕ) → again_due false a t v e m high core ≤ again_due true a t v e m high core
again_eases true t v e m high core = omega arith
again_eases false t true e m high core = omega arith
again_eases false t false e m high core = omega arith

some_high : (n : ℕ) (b : Bits n) → some_bit n b ≡ true → 1 ≤ n
some_high zero b h = absurd (cc h)
some_high (suc n) b h = omega arith

mutual
  pub due_within : (P : TypedProgram) (p : Process) (r : Bool) (x : Cells p) → due P p r x ≤ moves_most P p
  due_within P skipping r x = weigh_most r x
  due_within P (assigning y at e) r x = omega (arith, weigh_most r x.answer, pairs_twice (weigh r) (weigh_most r) (gate_count e) x.gates)
  due_within P (sending c at e) r x = omega (arith, weigh_most r x.answer, pairs_twice (weigh r) (weigh_most r) (gate_count e) x.gates)
  due_within P (receiving c at y to) r x =
      omega (arith, weigh_most r x.answer, weigh_most r x.kept, rails_twice r (channel_width P.channels c) x.taken)
  due_within P (in_turn members) r x = turn_within P members r x
  due_within P (side_by_side members) r x =
      omega (
        arith,
        each_within P members r x.branches,
        bits_twice (weigh r) (weigh_most r) (joint_count (member_count members)) (cell_bit (joint_count (member_count members)) x.tree),
      )
  due_within P (repeating p) r x = omega (arith, mark_most x.ask, due_within P p x.ask x.inner)
  due_within P (choosing false choices) r x =
      select_most (choice_count choices) r x.ask x.any (some_bit (choice_count choices) x.latched) (some_bit (choice_count choices) x.started) x.answer
      (guards_sum mark choices x.guards) (guards_sum lack choices x.guards) (choice_most P choices) (choice_due P choices x.started x.branches)
      (gates_in choices) (some_high (choice_count choices) x.latched) (guards_most mark mark_most choices x.guards)
      (guards_most lack lack_most choices x.guards)
      (choice_within P choices x.started x.branches)
  due_within P (choosing true choices) r x =
      again_most (choice_count choices) r x.answer x.turn x.leave x.core.ask x.core.any (some_bit (choice_count choices) x.core.latched)
      (some_bit (choice_count choices) x.core.started) x.core.answer
      (guards_sum mark choices x.core.guards) (guards_sum lack choices x.core.guards) (choice_most P choices)
      (choice_due P choices x.core.started x.core.branches)
      (gates_in choices) (guards_most mark mark_most choices x.core.guards) (guards_most lack lack_most choices x.core.guards)
      (choice_within P choices x.core.started x.core.branches)

  pub turn_within : (P : TypedProgram) (members : Processes) (r : Bool) (x : TurnCells members) → turn_due P members r x ≤ turn_most P members
  turn_within P no_members r x = omega arith
  turn_within P (and_member p no_members) r x = due_within P p r x
  turn_within P (and_member p (and_member q more)) r x =
      omega (
        arith,
        guarded_most r x.member.child x.member.latch x.member.next (moves_most P p) (due P p x.member.child x.member.inner)
            (due_within P p x.member.child x.member.inner),
        later_most r x.member.next (turn_most P (and_member q more)) (turn_due P (and_member q more) x.member.next x.later)
            (turn_within P (and_member q more) x.member.next x.later),
      )

  pub each_within : (P : TypedProgram) (members : Processes) (r : Bool) (x : BranchCells members) → each_due P members r x ≤ each_most P members
  each_within P no_members r x = omega arith
  each_within P (and_member p more) r x =
      omega (
        arith,
        guarded_most r x.0.child x.0.latch x.0.next (moves_most P p) (due P p x.0.child x.0.inner) (due_within P p x.0.child x.0.inner),
        each_within P more r x.1,
      )

  pub choice_within : (P : TypedProgram) (choices : Choices) (b : Bits (choice_count choices)) (x : ChoiceCells choices)
      → choice_due P choices b x ≤ choice_most P choices
  choice_within P no_choices b x = omega arith
  choice_within P (and_choice g p more) b x = omega (arith, due_within P p b.0 x.0, choice_within P more b.1 x.1)

mutual
  pub due_eases : (P : TypedProgram) (p : Process) (x : Cells p) → due P p false x ≤ due P p true x
  due_eases P skipping x = weigh_eases x
  due_eases P (assigning y at e) x = omega (arith, weigh_eases x.answer, pairs_below (weigh false) (weigh true) weigh_eases (gate_count e) x.gates)
  due_eases P (sending c at e) x = omega (arith, weigh_eases x.answer, pairs_below (weigh false) (weigh true) weigh_eases (gate_count e) x.gates)
  due_eases P (receiving c at y to) x = omega (arith, weigh_eases x.answer, weigh_eases x.kept, rails_eases (channel_width P.channels c) x.taken)
  due_eases P (in_turn members) x = turn_eases P members x
  due_eases P (side_by_side members) x =
      omega (
        arith,
        each_eases P members x.branches,
        bits_below (weigh false) (weigh true) weigh_eases (joint_count (member_count members)) (cell_bit (joint_count (member_count members)) x.tree),
      )
  due_eases P (repeating p) x = omega arith
  due_eases P (choosing false choices) x =
      omega (arith, rest_eases x.ask (some_bit (choice_count choices) x.latched || x.answer) (2 * gates_in choices) (guards_sum lack choices x.guards))
  due_eases P (choosing true choices) x =
      again_eases x.answer x.turn x.leave x.core.ask x.core.any (guards_sum mark choices x.core.guards)
      (total_due true x.turn x.core.ask x.core.any (some_bit (choice_count choices) x.core.latched) (some_bit (choice_count choices) x.core.started)
      x.core.answer (guards_sum mark choices x.core.guards) (choice_most P choices) (choice_due P choices x.core.started x.core.branches)
      (2 * gates_in choices) (guards_sum lack choices x.core.guards))

  pub turn_eases : (P : TypedProgram) (members : Processes) (x : TurnCells members) → turn_due P members false x ≤ turn_due P members true x
  turn_eases P no_members x = omega arith
  turn_eases P (and_member p no_members) x = due_eases P p x
  turn_eases P (and_member p (and_member q more)) x =
      omega (
        arith,
        guarded_eases x.member.child x.member.latch x.member.next (moves_most P p) (due P p x.member.child x.member.inner)
            (due_within P p x.member.child x.member.inner),
        later_eases x.member.next (turn_most P (and_member q more)) (turn_due P (and_member q more) x.member.next x.later)
            (turn_within P (and_member q more) x.member.next x.later),
      )

  pub each_eases : (P : TypedProgram) (members : Processes) (x : BranchCells members) → each_due P members false x ≤ each_due P members true x
  each_eases P no_members x = omega arith
  each_eases P (and_member p more) x =
      omega (
        arith,
        guarded_eases x.0.child x.0.latch x.0.next (moves_most P p) (due P p x.0.child x.0.inner) (due_within P p x.0.child x.0.inner),
        each_eases P more x.1,
      )
