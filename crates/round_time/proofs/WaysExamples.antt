-- Where the longest way lies, computed for two programs of examples/, and all ways of a small one.
use Rattle.std.proofs.Common.{◌≡◌, [], ◌∷◌, map, refl}
use Rattle.width_check.specs.Processes.{repeating}
use Rattle.round_time.specs.Ways.{started, step_of, ended, way, ways, longest_way, loops}
use Rattle.round_time.proofs.LongestExamples.{all_of, sum, take, give, adder_program, shift_in, shift_program, taken_program}

-- from the part that is received beside the third number to the sum that is sent
adder : longest_way adder_program ≡ way (step_of (take 3 3)) (step_of (give 4 (sum (all_of 8 3) (all_of 8 2)))) 51
adder = refl

-- of its three loops
adder_loops : map (λ l. l.length) (loops adder_program) ≡ 40 ∷ 51 ∷ 27 ∷ []
adder_loops = refl

-- from the bit that is received to the register
shift : longest_way shift_program ≡ way (step_of (take 0 0)) (step_of shift_in) 39
shift = refl

-- *[L?x]: to the loop's step, to the receive, back, and, as if the loop ended, to `done`
taken : ways taken_program ≡
    way started (step_of (repeating (take 0 0))) 3 ∷ way (step_of (repeating (take 0 0))) (step_of (take 0 0)) 8
    ∷ way (step_of (take 0 0)) (step_of (repeating (take 0 0))) 9 ∷ way (step_of (repeating (take 0 0))) ended 5 ∷ []
taken = refl
