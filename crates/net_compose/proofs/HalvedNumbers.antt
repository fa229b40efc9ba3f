-- How many nodes a statement has: as many as in halves, and those of the blocks of its hidden variables.
use Rattle.std.proofs.Common.{◌≡◌, ℕ, suc, ◌+◌, ◌-◌, ◌*◌, ◌≤◌, Bool, true, false, List, [], ◌∷◌, ◌++◌, length, refl, ap, arith}
use Rattle.std.specs.Prelude.{if◌then◌else◌}
use Rattle.chp_base.specs.declared.span.Span.{Span}
use Rattle.width_check.specs.declared.typed.Var.{Var}
use Rattle.width_check.specs.Processes.{Formula, Process, skipping, assigning, sending, receiving, in_turn, side_by_side, choosing, repeating, Processes, no_members, and_member, member_count, Choices, no_choices, and_choice, choice_count, TypedProgram}
use Rattle.width_check.specs.Values.{width_of}
use Rattle.width_check.proofs.Bounds.{width_some}
use Rattle.width_check.specs.Typing.{channel_width, var_width, IsProcess, AreProcesses, AreChoices}
use Rattle.width_check.specs.Reads.{reads}
use Rattle.handshake_expand.specs.Layout.{formula_size, block_size, through_size, size_of, turn_size, branches_size, guards_size, bodies_size}
use Rattle.chp_meaning.specs.Halves.{hidden_of, hidden_vars, hidden_in_each, hidden_in_choices, read_through, halved_assign, halved, halved_each, halved_choices, ReadsNoTarget, EachReadsNoTarget, ChoicesReadNoTarget}

-- how many nodes the blocks of some variables have
abbrev pub blocks : List Var → ℕ
blocks [] = 0
blocks (v ∷ vs) = block_size v.width + blocks vs

pub blocks_append : (xs ys : List Var) → blocks (xs ++ ys) ≡ blocks xs + blocks ys
blocks_append [] ys = omega arith
blocks_append (x ∷ xs) ys = let e = blocks_append xs ys in omega arith

-- in halves a statement has as many nodes, with the blocks of its hidden variables

assign_halved : (P Q : TypedProgram) (n x : ℕ) (at : Span) (e : Formula) (b : Bool) → reads x e ≡ b → width_of e ≡ var_width P.vars x → 1 ≤ width_of e
    → ReadsNoTarget (halved_assign b n x at e)
    → (if b then through_size (var_width P.vars x) e else 1 + formula_size e) ≡ size_of Q (halved_assign b n x at e) + blocks (hidden_of b e)
assign_halved P Q n x at e false none wide some plain =
    let s : size_of Q (assigning x at e) ≡ 1 + formula_size e = ap (λ (b : Bool). if b then through_size
    (var_width Q.vars x) e else 1 + formula_size e) none in omega arith
assign_halved P Q n x at e true self wide some plain =
    let first : size_of Q (assigning n at e) ≡ 1 + formula_size e = ap (λ (b : Bool). if b then through_size
    (var_width Q.vars n) e else 1 + formula_size e) plain.0 in
    let second : size_of Q (assigning x at (read_through n e at)) ≡ 1 + 2 * (width_of e - 1 + 1 - 0) = ap
    (λ (b : Bool). if b then through_size (var_width Q.vars x) (read_through n e at) else 1 + formula_size (read_through n e at)) plain.1.0 in
    let same : block_size (width_of e) ≡ block_size (var_width P.vars x) = ap block_size wide in
    omega arith

pub each_count : (n : ℕ) (members : Processes) → member_count (halved_each n members) ≡ member_count members
each_count n no_members = refl
each_count n (and_member p more) = ap suc (each_count (n + length (hidden_vars p)) more)

pub choices_count : (n : ℕ) (choices : Choices) → choice_count (halved_choices n choices) ≡ choice_count choices
choices_count n no_choices = refl
choices_count n (and_choice g p more) = ap suc (choices_count (n + length (hidden_vars p)) more)

pub guards_same : (n : ℕ) (choices : Choices) → guards_size (halved_choices n choices) ≡ guards_size choices
guards_same n no_choices = refl
guards_same n (and_choice g p more) = ap (λ k. formula_size g + k) (guards_same (n + length (hidden_vars p)) more)

mutual
  pub halved_size : (P Q : TypedProgram) → P.channels ≡ Q.channels → (n : ℕ) (p : Process) → IsProcess P.channels P.vars p → ReadsNoTarget (halved n p)
      → size_of P p ≡ size_of Q (halved n p) + blocks (hidden_vars p)
  halved_size P Q same n skipping typed plain = omega arith
  halved_size P Q same n (assigning x at e) typed plain = assign_halved P Q n x at e (reads x e) refl typed.1.agrees (width_some e typed.1.formed) plain
  halved_size P Q same n (sending k at e) typed plain = omega arith
  halved_size P Q same n (receiving k s x t) typed plain = let e = ap (λ cs. channel_width cs k) same in omega arith
  halved_size P Q same n (in_turn members) typed plain = turn_halved P Q same n members typed.1 plain
  halved_size P Q same n (side_by_side members) typed plain =
      let e = each_count n members in
      let more = branches_halved P Q same n members typed.1 plain in
      let some = typed.0 in
      omega arith
  halved_size P Q same n (choosing false choices) typed plain =
      let e = choices_count n choices in
      let g = guards_same n choices in
      let more = bodies_halved P Q same n choices typed.2 plain in
      omega arith
  halved_size P Q same n (choosing true choices) typed plain =
      let e = choices_count n choices in
      let g = guards_same n choices in
      let more = bodies_halved P Q same n choices typed.2 plain in
      omega arith
  halved_size P Q same n (repeating p) typed plain = let e = halved_size P Q same n p typed plain in omega arith

  pub turn_halved : (P Q : TypedProgram) → P.channels ≡ Q.channels → (n : ℕ) (members : Processes) → AreProcesses P.channels P.vars members
      → EachReadsNoTarget (halved_each n members) → turn_size P members ≡ turn_size Q (halved_each n members) + blocks (hidden_in_each members)
  turn_halved P Q same n no_members typed plain = omega arith
  turn_halved P Q same n (and_member p no_members) typed plain =
      let e = halved_size P Q same n p typed.0 plain.0 in
      let l = blocks_append (hidden_vars p) [] in
      omega arith
  turn_halved P Q same n (and_member p (and_member q more)) typed plain =
      let e = halved_size P Q same n p typed.0 plain.0 in
      let f = turn_halved P Q same (n + length (hidden_vars p)) (and_member q more) typed.1 plain.1 in
      let l = blocks_append (hidden_vars p) (hidden_in_each (and_member q more)) in
      omega arith

  pub branches_halved : (P Q : TypedProgram) → P.channels ≡ Q.channels → (n : ℕ) (members : Processes) → AreProcesses P.channels P.vars members
      → EachReadsNoTarget (halved_each n members) → branches_size P members ≡ branches_size Q (halved_each n members) + blocks (hidden_in_each members)
  branches_halved P Q same n no_members typed plain = omega arith
  branches_halved P Q same n (and_member p more) typed plain =
      let e = halved_size P Q same n p typed.0 plain.0 in
      let f = branches_halved P Q same (n + length (hidden_vars p)) more typed.1 plain.1 in
      let l = blocks_append (hidden_vars p) (hidden_in_each more) in
      omega arith

  pub bodies_halved : (P Q : TypedProgram) → P.channels ≡ Q.channels → (n : ℕ) (choices : Choices) → AreChoices P.channels P.vars choices
      → ChoicesReadNoTarget (halved_choices n choices) → bodies_size P choices ≡ bodies_size Q (halved_choices n choices) + blocks (hidden_in_choices choices)
  bodies_halved P Q same n no_choices typed plain = omega arith
  bodies_halved P Q same n (and_choice g p more) typed plain =
      let e = halved_size P Q same n p typed.1 plain.0 in
      let f = bodies_halved P Q same (n + length (hidden_vars p)) more typed.2 plain.1 in
      let l = blocks_append (hidden_vars p) (hidden_in_choices more) in
      omega arith
