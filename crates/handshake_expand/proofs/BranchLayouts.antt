-- Where the nodes of branches of many nodes stand, by hand from the table of own nodes.
use Rattle.std.proofs.Common.{◌≡◌, Bool, true, false, [], ◌∷◌, refl}
use Rattle.chp_base.specs.declared.span.Span.{Span}
use Rattle.chp_base.specs.declared.channel.Kind.TheVariants.{In, Out}
use Rattle.chp_syntax.specs.declared.tree.Op.TheVariants as op
use Rattle.width_check.specs.Processes.{constant, reading, joined, inverted, compared, no_parts, and_part, Process, skipping, assigning, sending, receiving, in_turn, side_by_side, choosing, no_members, and_member, Choices, no_choices, and_choice, TypedProgram}
use Rattle.handshake_expand.specs.Layout.{body_from, size_of, bodies_size, nodes_of}
use Rattle.handshake_expand.specs.Answers.{answer_of, guards_from, bodies_from, select_own, again_own}

abbrev at : Span
at = record { from = 0; to = 1 }

-- L?x; R!y
abbrev first_branch : Process
first_branch = in_turn (and_member (receiving 0 at 0 at) (and_member (sending 1 at (reading 1 1 0 at)) no_members))

-- y := ~y; L?x; R!{x, y[1]}
abbrev second_branch : Process
second_branch =
    in_turn (and_member (assigning 1 at (inverted (reading 1 1 0 at))) (and_member (receiving 0 at 0 at)
    (and_member (sending 1 at (joined (and_part (reading 0 0 0 at) (and_part (reading 1 1 1 at) no_parts)))) no_members)))

abbrev arms : Choices
arms =
    and_choice (compared op.Eq (reading 0 0 0 at) (constant 1 0)) first_branch
    (and_choice (compared op.Eq (reading 0 0 0 at) (constant 1 1)) second_branch no_choices)

-- in L : 1; out R : 2; var x : 1 = 1; var y : 2 = 2: L has 2 to 4, R 5 to 9, x 10 to 14, y 15 to 25, the root 26 and 27
abbrev chooses : (again : Bool) → TypedProgram
chooses again = record {
  channels = record { name = []; kind = In; width = 1 } ∷ record { name = []; kind = Out; width = 2 } ∷ [];
  vars = record { name = []; width = 1; first = 1 } ∷ record { name = []; width = 2; first = 2 } ∷ [];
  body = choosing again arms;
}

begins : body_from (chooses false) ≡ 28
begins = refl

-- 47 to 49, L?x at 50 to 53, R!y at 54 to 58
first_answer : answer_of (chooses false) first_branch 47 ≡ 54
first_answer = refl

first_size : size_of (chooses false) first_branch ≡ 12
first_size = refl

-- 59 to 61, the hidden variable at 62 to 72, its element at 73 to 75, 76 with ~y at 77 to 80, 81 with what is read at 82 to 85;
-- 86 to 88, L?x at 89 to 92, R at 93 to 97
second_answer : answer_of (chooses false) second_branch 59 ≡ 93
second_answer = refl

second_size : size_of (chooses false) second_branch ≡ 39
second_size = refl

-- 28 to 30, the latches 31 and 32, the starts 33 and 34, the guards 35 to 40 and 41 to 46, and then the branches
select_guards : guards_from arms select_own 28 ≡ 35
select_guards = refl

select_branches : bodies_from arms select_own 28 ≡ 47
select_branches = refl

branches_are : bodies_size (chooses false) arms ≡ 51
branches_are = refl

select_nodes : nodes_of (chooses false) ≡ 98
select_nodes = refl

-- the same with three own nodes more
again_guards : guards_from arms again_own 28 ≡ 38
again_guards = refl

again_branches : bodies_from arms again_own 28 ≡ 50
again_branches = refl

again_nodes : nodes_of (chooses true) ≡ 101
again_nodes = refl

-- out X : 1; out Y : 1; var x : 1; begin (X!1; x := 1) || skip || Y!0 end: X has 2 to 4, Y 5 to 7, x 8 to 12, the root 13 and 14;
-- 15 to 17, and 18 to 20, X!1 at 21 to 23, x := 1 at 24 to 26; 27 to 29, and skip at 30; 31 to 33, and Y!0 at 34 to 36; the tree
-- 37 and 38
abbrev beside : Process
beside =
    side_by_side (and_member (in_turn (and_member (sending 0 at (constant 1 1)) (and_member (assigning 0 at (constant 1 1)) no_members)))
    (and_member skipping (and_member (sending 1 at (constant 1 0)) no_members)))

abbrev branches : TypedProgram
branches = record {
  channels = record { name = []; kind = Out; width = 1 } ∷ record { name = []; kind = Out; width = 1 } ∷ [];
  vars = record { name = []; width = 1; first = 0 } ∷ [];
  body = beside;
}

beside_answer : answer_of branches beside 15 ≡ 38
beside_answer = refl

beside_nodes : nodes_of branches ≡ 39
beside_nodes = refl
