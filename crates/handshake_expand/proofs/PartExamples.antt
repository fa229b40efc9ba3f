-- The parts of some programs, by hand.
use Rattle.std.proofs.Common.{◌≡◌, ℕ, true, false, List, [], ◌∷◌, ◌++◌, refl}
use Rattle.std.specs.Prelude.{codes, decimal}
use Rattle.std.specs.List.{concat}
use Rattle.std.proofs.lemmas.List.{append-nil}
use Rattle.chp_base.specs.declared.span.Span.{Span}
use Rattle.chp_base.specs.declared.channel.Channel.{Channel}
use Rattle.chp_base.specs.declared.channel.Kind.TheVariants.{In, Out, Chan}
use Rattle.chp_syntax.specs.declared.tree.Op.TheVariants as op
use Rattle.width_check.specs.declared.typed.Var.{Var}
use Rattle.width_check.specs.Processes.{Formula, constant, reading, chained, no_operations, and_operation, Process, skipping, assigning, sending, receiving, in_turn, side_by_side, choosing, repeating, no_members, and_member, no_choices, and_choice, TypedProgram}
use Rattle.handshake_expand.specs.declared.parts.PartKind.TheVariants as kind
use Rattle.handshake_expand.specs.Expansions.{BlockValue, expansion}
use Rattle.handshake_expand.specs.PartText.{parts_text}
use Rattle.handshake_expand.specs.PartTree.{PartTree, part, PartTrees, no_children, and_child, expanded, root_part}

abbrev at : Span
at = record { from = 0; to = 1 }

-- in L : 2; out R : 1; var x : 2; var y : 1
abbrev declares : Process → TypedProgram
declares body = record {
  channels = record { name = codes "L"; kind = In; width = 2 } ∷ record { name = codes "R"; kind = Out; width = 1 } ∷ [];
  vars = record { name = codes "x"; width = 2; first = 0 } ∷ record { name = codes "y"; width = 1; first = 0 } ∷ [];
  body = body;
}

abbrev p : TypedProgram
p = declares skipping

abbrev send : Process
send = sending 1 at (constant 1 1)

abbrev alone : PartTree → PartTrees
alone t = and_child t no_children

abbrev both : PartTree → PartTree → PartTrees
both t u = and_child t (alone u)

-- L?x; R!1; skip under 9, from 28 on: L?x stands under 28, R!1 under 37, and skip under 39
in_turn_parts : expanded p (in_turn (and_member (receiving 0 at 0 at) (and_member send (and_member skipping no_members)))) 9 28 ≡
    part kind.Sequence 9 43 28 16
    (and_child (part kind.Receive 28 31 31 6 no_children) (both (part kind.Send 37 40 40 3 no_children) (part kind.Skip 39 43 43 1 no_children)))
in_turn_parts = refl

-- skip, R!1 under 9, from 28 on: each branch has a request of its own
beside_parts : expanded p (side_by_side (and_member skipping (and_member send no_members))) 9 28 ≡
    part kind.Parallel 9 38 28 11 (both (part kind.Skip 28 31 31 1 no_children) (part kind.Send 32 35 35 3 no_children))
beside_parts = refl

-- *[R!1] under 9, from 28 on
loop_parts : expanded p (repeating send) 9 28 ≡ part kind.Loop 9 28 28 5 (alone (part kind.Send 29 30 30 3 no_children))
loop_parts = refl

-- x := x + 1 and y := 1 under 9, from 28 on: one goes through a hidden variable
through_part : expanded p (assigning 0 at (chained (reading 0 1 0 at) (and_operation op.Add (constant 2 1) no_operations))) 9 28 ≡
    part kind.Through 9 57 28 34 no_children
through_part = refl

assign_part : expanded p (assigning 1 at (constant 1 1)) 9 28 ≡ part kind.Assign 9 28 28 3 no_children
assign_part = refl

-- two guards, of one bit of x each, under 9, from 28 on: a selection's starts are 33 and 34 and its branches 39 to 42,
-- those of a guarded repetition 36 and 37, and 42 to 45
select_parts : expanded p (choosing false (and_choice (reading 0 0 0 at) skipping (and_choice (reading 0 1 1 at) send no_choices))) 9 28 ≡
    part kind.Select 9 28 28 15 (both (part kind.Skip 33 39 39 1 no_children) (part kind.Send 34 40 40 3 no_children))
select_parts = refl

again_parts : expanded p (choosing true (and_choice (reading 0 0 0 at) skipping (and_choice (reading 0 1 1 at) send no_choices))) 9 28 ≡
    part kind.Again 9 28 28 18 (both (part kind.Skip 36 42 42 1 no_children) (part kind.Send 37 43 43 3 no_children))
again_parts = refl

-- begin L?x, [x[0] -> R!1 [] x[1] -> R!0]; x := x + 1 end, as far as the sites go: the first own nodes of the receive, of the
-- write in it, of both sends, and of the second assignment of x := x + 1
abbrev several : TypedProgram
several = declares (side_by_side (and_member (receiving 0 at 0 at) (and_member
    (in_turn (and_member (choosing false (and_choice (reading 0 0 0 at) send (and_choice (reading 0 1 1 at) send no_choices)))
    (and_member (assigning 0 at (chained (reading 0 1 0 at) (and_operation op.Add (constant 2 1) no_operations))) no_members)))
    no_members)))

sites : (expansion several).channels ≡
    record { from = 2; count = 5; sends = []; receives = 31 ∷ []; writes = [] }
    ∷ record { from = 7; count = 3; sends = 54 ∷ 57 ∷ []; receives = []; writes = [] } ∷ []
sites = refl

writes : (expansion several).vars ≡
    record { from = 10; count = 11; sends = []; receives = []; writes = 32 ∷ 89 ∷ [] }
    ∷ record { from = 21; count = 5; sends = []; receives = []; writes = [] } ∷ []
writes = refl

-- out X : 1; begin X!1 end
abbrev sends_once : TypedProgram
sends_once = record { channels = record { name = codes "X"; kind = Out; width = 1 } ∷ []; vars = []; body = sending 0 at (constant 1 1) }

sends_once_root : root_part sends_once ≡ part kind.Root 0 1 5 5 (alone (part kind.Send 5 7 7 3 no_children))
sends_once_root = refl

-- its lines
abbrev channel_line : List ℕ
channel_line = concat (codes "channel X " ∷ decimal 2 ∷ codes " " ∷ decimal 3 ∷ codes "\n" ∷ [])

abbrev root_line : List ℕ
root_line = concat (codes "root go done " ∷ decimal 5 ∷ codes " " ∷ decimal 5 ∷ codes "\n" ∷ [])

abbrev send_line : List ℕ
send_line = concat (codes "  send n" ∷ decimal 5 ∷ codes " n" ∷ decimal 7 ∷ codes " " ∷ decimal 7 ∷ codes " " ∷ decimal 3 ∷ codes "\n" ∷ [])

nothing_else : (a b c : List ℕ) → a ++ [] ++ [] ++ (b ++ (c ++ [] ++ [])) ≡ a ++ (b ++ c)
nothing_else a b c = simp append-nil

sends_once_text : parts_text sends_once (expansion sends_once) ≡ channel_line ++ (root_line ++ send_line)
sends_once_text = nothing_else channel_line root_line send_line
