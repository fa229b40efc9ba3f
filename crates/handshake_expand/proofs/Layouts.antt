-- Where the nodes of some programs stand, by hand from the table of own nodes.
use Rattle.std.proofs.Common.{◌≡◌, ℕ, true, false, List, [], ◌∷◌, ◌++◌, refl}
use Rattle.std.specs.Prelude.{codes, decimal}
use Rattle.chp_base.specs.declared.span.Span.{Span}
use Rattle.chp_base.specs.declared.channel.Kind.TheVariants.{In, Out}
use Rattle.chp_syntax.specs.declared.tree.Op.TheVariants as op
use Rattle.width_check.specs.Processes.{Formula, constant, reading, chained, compared, no_operations, and_operation, Process, skipping, assigning, sending, receiving, in_turn, side_by_side, choosing, repeating, no_members, and_member, Choices, no_choices, and_choice, TypedProgram}
use Rattle.handshake_expand.specs.Layout.{channel_from, var_from, root_request, root_latch, body_from, size_of}
use Rattle.handshake_expand.specs.Named.{node_names}
use Rattle.handshake_expand.specs.Answers.{answer_of, guards_from, bodies_from, select_own, again_own}

abbrev at : Span
at = record { from = 0; to = 1 }

-- in L : 2; out R : 1; var x : 2; var y : 1
abbrev declares : Process → TypedProgram
declares body = record {
  channels = record { name = []; kind = In; width = 2 } ∷ record { name = []; kind = Out; width = 1 } ∷ [];
  vars = record { name = []; width = 2; first = 0 } ∷ record { name = []; width = 1; first = 0 } ∷ [];
  body = body;
}

-- the wires of L are 2 to 6, those of R 7 to 9; x has 10 to 20, y 21 to 25
abbrev p : TypedProgram
p = declares skipping

wires_of_L : channel_from p 0 ≡ 2
wires_of_L = refl

wires_of_R : channel_from p 1 ≡ 7
wires_of_R = refl

block_of_x : var_from p 0 ≡ 10
block_of_x = refl

block_of_y : var_from p 1 ≡ 21
block_of_y = refl

root : root_request p ≡ 26
root = refl

latch : root_latch p ≡ 27
latch = refl

body : body_from p ≡ 28
body = refl

abbrev x : Formula
x = reading 0 1 0 at

-- L?x; R!1; skip from 28 on: 28, 29, 30, and L?x is 31 to 36; 37, 38, 39, and R!1 is 40 to 42; skip is 43
in_turn_size : size_of p (in_turn (and_member (receiving 0 at 0 at) (and_member (sending 1 at (constant 1 1)) (and_member skipping no_members)))) ≡ 16
in_turn_size = refl

in_turn_answer : answer_of p (in_turn (and_member (receiving 0 at 0 at) (and_member (sending 1 at (constant 1 1)) (and_member skipping no_members)))) 28 ≡ 43
in_turn_answer = refl

-- skip, skip, skip from 28 on: 28 to 31, 32 to 35, 36 to 39, and the tree 40 and 41
beside_answer : answer_of p (side_by_side (and_member skipping (and_member skipping (and_member skipping no_members)))) 28 ≡ 41
beside_answer = refl

-- x := x + 1 from 28 on: h is 28 to 38; 39, 40, 41; 42, and x + 1 is 43 to 56; 57, and what is read of h 58 to 61
abbrev more : Formula
more = chained x (and_operation op.Add (constant 2 1) no_operations)

through_answer : answer_of p (assigning 0 at more) 28 ≡ 57
through_answer = refl

through_nodes : size_of p (assigning 0 at more) ≡ 34
through_nodes = refl

-- y := x < 1 from 28 on: 28, and the comparison 29 to 40
assignment_answer : answer_of p (assigning 1 at (compared op.Lt x (constant 2 1))) 28 ≡ 28
assignment_answer = refl

assignment_nodes : size_of p (assigning 1 at (compared op.Lt x (constant 2 1))) ≡ 13
assignment_nodes = refl

-- two guards of 2 nodes each: a selection's own nodes from 28 on are 28 to 30, the latches 31 and 32, the starts 33 and
-- 34; then come the guards and the branches. A guarded repetition has three more of its own.
abbrev bits : Choices
bits = and_choice (reading 0 0 0 at) skipping (and_choice (reading 0 1 1 at) skipping no_choices)

select_guards : guards_from bits select_own 28 ≡ 35
select_guards = refl

select_branches : bodies_from bits select_own 28 ≡ 39
select_branches = refl

select_size : size_of p (choosing false bits) ≡ 13
select_size = refl

again_guards : guards_from bits again_own 28 ≡ 38
again_guards = refl

again_branches : bodies_from bits again_own 28 ≡ 42
again_branches = refl

again_size : size_of p (choosing true bits) ≡ 16
again_size = refl

select_answer : answer_of p (choosing true bits) 28 ≡ 28
select_answer = refl

loop_answer : answer_of p (repeating (choosing true bits)) 28 ≡ 28
loop_answer = refl

-- the names of the nodes of out X : 1; var v : 2; begin skip end
abbrev named : TypedProgram
named = record {
  channels = record { name = codes "X"; kind = Out; width = 1 } ∷ [];
  vars = record { name = codes "v"; width = 2; first = 0 } ∷ [];
  body = skipping;
}

abbrev numbered : ℕ → List ℕ
numbered node = codes "n" ++ decimal node

abbrev of_bit : List ℕ → ℕ → List ℕ → List ℕ
of_bit name bit tail = name ++ (codes "." ++ (decimal bit ++ tail))

names : node_names named ≡
    codes "go" ∷ codes "done"
    ∷ of_bit (codes "X") 0 (codes ".t") ∷ of_bit (codes "X") 0 (codes ".f") ∷ codes "X.a"
    ∷ of_bit (codes "v") 0 (codes ".t") ∷ of_bit (codes "v") 0 (codes ".f") ∷ of_bit (codes "v") 0 (codes ".wt") ∷ of_bit (codes "v") 0 (codes ".wf")
    ∷ of_bit (codes "v") 0 (codes ".wa")
    ∷ of_bit (codes "v") 1 (codes ".t") ∷ of_bit (codes "v") 1 (codes ".f") ∷ of_bit (codes "v") 1 (codes ".wt") ∷ of_bit (codes "v") 1 (codes ".wf")
    ∷ of_bit (codes "v") 1 (codes ".wa")
    ∷ numbered 15 ∷ numbered 16 ∷ numbered 17 ∷ numbered 18 ∷ []
names = refl
