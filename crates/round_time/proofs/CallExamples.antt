-- How long a round takes at most, computed for the programs of examples/ that have procedures: each call is a copy of its procedure's
-- body, in which an assignment that reads its own target is two, by a hidden variable.
use Rattle.std.proofs.Common.{◌≡◌, ℕ, [], ◌∷◌, refl}
use Rattle.std.specs.Prelude.{true, false}
use Rattle.chp_base.specs.declared.channel.Kind.TheVariants.{In, Out}
use Rattle.chp_syntax.specs.declared.tree.Op.TheVariants as op
use Rattle.width_check.specs.Processes.{Formula, constant, reading, joined, chained, compared, no_parts, and_part, no_operations, and_operation, Process, skipping, assigning, in_turn, side_by_side, choosing, repeating, no_members, and_member, Choices, no_choices, and_choice}
use Rattle.round_time.specs.Longest.{longest}
use Rattle.round_time.proofs.LongestExamples.{here, channel, var, all_of, sum, take, give, two, three}

abbrev is : Formula → (width value : ℕ) → Formula
is e width value = compared op.Eq e (constant width value)

abbrev set : (var : ℕ) → Formula → Process
set x e = assigning x here e

abbrev pair : Formula → Formula → Formula
pair e f = joined (and_part e (and_part f no_parts))

-- [c = 0 -> p [] c = 1 -> q]
abbrev either : (var : ℕ) → Process → Process → Process
either c p q = choosing false (and_choice (is (all_of 1 c) 1 0) p (and_choice (is (all_of 1 c) 1 1) q no_choices))

-- (h := e; n := h; N!n)
abbrev step : (channel var hidden width : ℕ) → Formula → Process
step c n h width e = in_turn (two (in_turn (two (set h e) (set n (all_of width h)))) (give c (all_of width n)))

-- *[C?c; [c = 0 -> skip [] c = 1 -> p]; p]
abbrev once_or_twice : (channel var : ℕ) → Process → Process
once_or_twice c x p = repeating (in_turn (three (take c x) (either x skipping p) p))

abbrev counted : Process
counted = step 1 1 2 4 (sum (all_of 4 1) (constant 4 1))

steps : longest (record {
  channels = channel In 1 ∷ channel Out 4 ∷ [];
  vars = var 1 ∷ var 4 ∷ var 4 ∷ [];
  body = once_or_twice 0 0 counted;
}) ≡ 27
steps = refl

abbrev up : Process
up = step 2 2 4 3 (sum (all_of 3 2) (constant 3 1))

abbrev down : Process
down = step 3 3 5 3 (chained (all_of 3 3) (and_operation op.Sub (constant 3 1) no_operations))

lanes : longest (record {
  channels = channel In 1 ∷ channel In 1 ∷ channel Out 3 ∷ channel Out 3 ∷ [];
  vars = var 1 ∷ var 1 ∷ var 3 ∷ var 3 ∷ var 3 ∷ var 3 ∷ [];
  body = side_by_side (two (once_or_twice 0 0 up) (once_or_twice 1 1 down));
}) ≡ 26
lanes = refl

-- (Q!{write, address}; [write = 0 -> R?word [] write = 1 -> W!word])
abbrev transfer : Process
transfer = in_turn (two (give 1 (pair (all_of 1 4) (all_of 4 5))) (either 4 (take 3 6) (give 2 (all_of 8 6))))

abbrev more : (var : ℕ) → Process
more x = set x (sum (all_of 4 x) (constant 4 1))

bus : longest (record {
  channels = channel In 12 ∷ channel Out 5 ∷ channel Out 8 ∷ channel In 8 ∷ [];
  vars = var 12 ∷ var 4 ∷ var 4 ∷ var 4 ∷ var 1 ∷ var 4 ∷ var 8 ∷ [];
  body =
      repeating (in_turn (and_member (take 0 0)
      (and_member (side_by_side (three (set 1 (reading 0 11 8 here)) (set 2 (reading 0 7 4 here)) (set 3 (reading 0 3 0 here))))
      (three
      (choosing true (and_choice (compared op.Gt (all_of 4 3) (constant 4 0))
      (in_turn (and_member (side_by_side (two (set 4 (constant 1 0)) (set 5 (all_of 4 1))))
      (and_member transfer
      (three (side_by_side (two (set 4 (constant 1 1)) (set 5 (all_of 4 2)))) transfer
      (side_by_side (three (more 1) (more 2) (set 3 (chained (all_of 4 3) (and_operation op.Sub (constant 4 1) no_operations)))))))))
      no_choices))
      (side_by_side (three (set 4 (constant 1 1)) (set 5 (constant 4 15)) (set 6 (pair (all_of 4 3) (reading 0 3 0 here)))))
      transfer))));
}) ≡ 60
bus = refl

abbrev low_bits : Formula
low_bits = reading 2 4 0 here

-- {run & 0, e}
abbrev asking : Formula → Formula
asking e = pair (chained (all_of 1 0) (and_operation op.And (constant 1 0) no_operations)) e

-- (Q!{run & 0, it[4:0]}; R?byte); sum := e
abbrev fetched : Formula → Process
fetched e = in_turn (two (in_turn (two (give 0 (asking low_bits)) (take 1 3))) (set 4 e))

abbrev arm : (code : ℕ) → Process → Choices → Choices
arm code p rest = and_choice (is (reading 2 7 5 here) 3 code) p rest

machine : longest (record {
  channels = channel Out 6 ∷ channel In 8 ∷ channel Out 8 ∷ channel Out 8 ∷ [];
  vars = var 1 ∷ var 5 ∷ var 8 ∷ var 8 ∷ var 8 ∷ [];
  body =
      choosing true (and_choice (is (all_of 1 0) 1 1)
      (in_turn (and_member (give 0 (asking (all_of 5 1)))
      (three (take 1 2) (set 1 (sum (all_of 5 1) (constant 5 1)))
      (choosing false (arm 0 (set 0 (constant 1 0))
      (arm 1 (fetched (all_of 8 3))
      (arm 2 (fetched (sum (all_of 8 4) (all_of 8 3)))
      (arm 3 (fetched (chained (all_of 8 4) (and_operation op.Sub (all_of 8 3) no_operations)))
      (arm 4 (in_turn (two (give 0 (pair (all_of 1 0) low_bits)) (give 2 (all_of 8 4))))
      (arm 5 (set 1 low_bits)
      (arm 6 (choosing false (and_choice (is (all_of 8 4) 8 0) skipping
      (and_choice (compared op.Ne (all_of 8 4) (constant 8 0)) (set 1 low_bits) no_choices)))
      (arm 7 (give 3 (all_of 8 4)) no_choices)))))))))))) no_choices);
}) ≡ 59
machine = refl
