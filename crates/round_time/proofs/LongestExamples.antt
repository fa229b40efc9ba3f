-- How long a round takes at most, computed for programs of examples/ and for three small ones.
use Rattle.std.proofs.Common.{◌≡◌, ℕ, [], ◌∷◌, refl}
use Rattle.std.specs.Prelude.{zero, suc, true, false}
use Rattle.chp_base.specs.declared.span.Span.{Span}
use Rattle.chp_base.specs.declared.channel.Channel.{Channel}
use Rattle.chp_base.specs.declared.channel.Kind.{Kind}
use Rattle.chp_base.specs.declared.channel.Kind.TheVariants.{In, Out, Chan}
use Rattle.chp_syntax.specs.declared.tree.Op.TheVariants as op
use Rattle.width_check.specs.declared.typed.Var.{Var}
use Rattle.width_check.specs.Processes.{Formula, constant, reading, joined, chained, compared, no_parts, and_part, no_operations, and_operation, Process, skipping, assigning, sending, receiving, in_turn, side_by_side, choosing, repeating, Processes, no_members, and_member, no_choices, and_choice, TypedProgram}
use Rattle.round_time.specs.Longest.{longest}

abbrev pub here : Span
here = record { from = 0; to = 1 }

abbrev pub channel : Kind → (width : ℕ) → Channel
channel kind width = record { name = []; kind = kind; width = width }

abbrev pub var : (width : ℕ) → Var
var width = record { name = []; width = width; first = 0 }

-- all of a variable of a width
abbrev pub all_of : (width var : ℕ) → Formula
all_of zero x = joined no_parts
all_of (suc n) x = reading x n 0 here

abbrev pub sum : Formula → Formula → Formula
sum e f = chained e (and_operation op.Add f no_operations)

abbrev pub take : (channel var : ℕ) → Process
take c x = receiving c here x here

abbrev pub give : (channel : ℕ) → Formula → Process
give c e = sending c here e

abbrev pub two : Process → Process → Processes
two p q = and_member p (and_member q no_members)

abbrev pub three : Process → Process → Process → Processes
three p q r = and_member p (two q r)

-- *[p; q] and *[p; q; r]
abbrev pub loop_of : Process → Process → Process
loop_of p q = repeating (in_turn (two p q))

abbrev long_loop_of : Process → Process → Process → Process
long_loop_of p q r = repeating (in_turn (three p q r))

-- *[L?x; M!x + 1] || *[M?y; R!y + y]
pipeline : longest (record {
  channels = channel In 8 ∷ channel Chan 8 ∷ channel Out 8 ∷ [];
  vars = var 8 ∷ var 8 ∷ [];
  body =
      side_by_side (two (loop_of (take 0 0) (give 1 (sum (all_of 8 0) (constant 8 1))))
      (loop_of (take 1 1) (give 2 (sum (all_of 8 1) (all_of 8 1)))));
}) ≡ 35
pipeline = refl

-- *[L?w; a!w] || *[a?x; b!x] || *[b?y; c!y] || *[c?z; R!z]
fifo4 : longest (record {
  channels = channel In 8 ∷ channel Chan 8 ∷ channel Chan 8 ∷ channel Chan 8 ∷ channel Out 8 ∷ [];
  vars = var 8 ∷ var 8 ∷ var 8 ∷ var 8 ∷ [];
  body =
      side_by_side (and_member (loop_of (take 0 0) (give 1 (all_of 8 0)))
      (three (loop_of (take 1 1) (give 2 (all_of 8 1))) (loop_of (take 2 2) (give 3 (all_of 8 2))) (loop_of (take 3 3) (give 4 (all_of 8 3)))));
}) ≡ 28
fifo4 = refl

-- *[A?a, B?b; p!a + b] || *[p?part, C?c; q!part + c] || *[q?sum; S!sum]
abbrev pub adder_program : TypedProgram
adder_program = record {
  channels = channel In 8 ∷ channel In 8 ∷ channel In 8 ∷ channel Chan 8 ∷ channel Chan 8 ∷ channel Out 8 ∷ [];
  vars = var 8 ∷ var 8 ∷ var 8 ∷ var 8 ∷ var 8 ∷ [];
  body =
      side_by_side (three (loop_of (side_by_side (two (take 0 0) (take 1 1))) (give 3 (sum (all_of 8 0) (all_of 8 1))))
      (loop_of (side_by_side (two (take 3 3) (take 2 2))) (give 4 (sum (all_of 8 3) (all_of 8 2))))
      (loop_of (take 4 4) (give 5 (all_of 8 4))));
}

adder : longest adder_program ≡ 51
adder = refl

-- r := {r[6:0], i}
abbrev pub shift_in : Process
shift_in = assigning 1 here (joined (and_part (reading 1 6 0 here) (and_part (all_of 1 0) no_parts)))

-- *[I?i; r := {r[6:0], i}; Q!r]
abbrev pub shift_program : TypedProgram
shift_program = record {
  channels = channel In 1 ∷ channel Out 8 ∷ [];
  vars = var 1 ∷ var 8 ∷ [];
  body = long_loop_of (take 0 0) shift_in (give 1 (all_of 8 1));
}

shift : longest shift_program ≡ 39
shift = refl

-- *[C!n; n := n + 1]
counter : longest (record {
  channels = channel Out 4 ∷ [];
  vars = var 4 ∷ [];
  body = loop_of (give 0 (all_of 4 0)) (assigning 0 here (sum (all_of 4 0) (constant 4 1)));
}) ≡ 41
counter = refl

-- *[C?c; [c = 0 -> A?x [] c = 1 -> B?x]; R!x]
merge : longest (record {
  channels = channel In 1 ∷ channel In 8 ∷ channel In 8 ∷ channel Out 8 ∷ [];
  vars = var 1 ∷ var 8 ∷ [];
  body =
      long_loop_of (take 0 0)
      (choosing false (and_choice (compared op.Eq (all_of 1 0) (constant 1 0)) (take 1 1)
      (and_choice (compared op.Eq (all_of 1 0) (constant 1 1)) (take 2 1) no_choices)))
      (give 3 (all_of 8 1));
}) ≡ 20
merge = refl

-- *[L?x]: from the loop's step, behind which the receive lets go, to its next one
abbrev pub taken_program : TypedProgram
taken_program = record {
  channels = channel In 1 ∷ [];
  vars = var 1 ∷ [];
  body = repeating (take 0 0);
}

taken : longest taken_program ≡ 9
taken = refl

-- *[C?c; [c = 0 -> skip [] c = 1 -> skip]]: to the latch of the selection, behind its guards
chosen : longest (record {
  channels = channel In 1 ∷ [];
  vars = var 1 ∷ [];
  body =
      loop_of (take 0 0)
      (choosing false (and_choice (compared op.Eq (all_of 1 0) (constant 1 0)) skipping
      (and_choice (compared op.Eq (all_of 1 0) (constant 1 1)) skipping no_choices)));
}) ≡ 14
chosen = refl

-- *[C?c; *[c = 1 -> c := 0]]: from a turn of the repetition to its end, or from that to the next value
cleared : longest (record {
  channels = channel In 1 ∷ [];
  vars = var 1 ∷ [];
  body =
      loop_of (take 0 0)
      (choosing true (and_choice (compared op.Eq (all_of 1 0) (constant 1 1)) (assigning 0 here (constant 1 0)) no_choices));
}) ≡ 17
cleared = refl
