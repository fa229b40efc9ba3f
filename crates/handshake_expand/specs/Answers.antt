-- Which node answers a statement's request, and where its parts begin, if its own nodes are numbered from `from` on.
use Rattle.std.specs.Prelude.{ℕ, ◌+◌, ◌-◌, ◌*◌, if◌then◌else◌}
use Rattle.width_check.specs.Processes.{Process, assigning, in_turn, side_by_side, Processes, no_members, and_member, Choices, choice_count, TypedProgram}
use Rattle.width_check.specs.Typing.{var_width}
use Rattle.handshake_expand.specs.Layout.{formula_size, block_size, size_of, guards_size}
use Rattle.width_check.specs.Reads.{reads}

-- the second answer of an assignment through a hidden variable comes after its block, its Q-element, and its first
-- answer with the expression
abbrev pub second_answer : TypedProgram → (x from size : ℕ) → ℕ
second_answer p x from size = from + block_size (var_width p.vars x) + 3 + 1 + size

-- the q rails of a receive come after its two answers
abbrev pub written_from : ℕ → ℕ
written_from from = from + 2

-- the guards of a selection come after its own nodes and each guard's latch and start, its branches after the guards
abbrev pub guards_from : Choices → (own from : ℕ) → ℕ
guards_from choices own from = from + own + 2 * choice_count choices

abbrev pub bodies_from : Choices → (own from : ℕ) → ℕ
bodies_from choices own from = guards_from choices own from + guards_size choices

-- the number of own nodes of a selection, and of a guarded repetition, not counting a latch and a start for each guard
abbrev pub select_own : ℕ
select_own = 3

abbrev pub again_own : ℕ
again_own = 6

abbrev mutual
  pub answer_of : TypedProgram → Process → (from : ℕ) → ℕ
  answer_of p (in_turn members) from = turn_answer p members from
  answer_of p (side_by_side members) from = from + size_of p (side_by_side members) - 1
  answer_of p (assigning x at e) from = if reads x e then second_answer p x from (formula_size e) else from
  answer_of p s from = from

  -- that of the last member
  pub turn_answer : TypedProgram → Processes → (from : ℕ) → ℕ
  turn_answer p no_members from = from
  turn_answer p (and_member s no_members) from = answer_of p s from
  turn_answer p (and_member s (and_member t more)) from = turn_answer p (and_member t more) (from + 3 + size_of p s)
