-- How long the rounds of small programs take together at most, computed: under a script, up to the last round that has a step. Each sum is given by
-- rounds: what leads to its step, and the step.
use Rattle.std.proofs.Common.{◌≡◌, ◌+◌, [], ◌∷◌, refl}
use Rattle.std.specs.Prelude.{true, false}
use Rattle.chp_base.specs.declared.channel.Kind.TheVariants.{In, Out, Chan}
use Rattle.chp_syntax.specs.declared.tree.Op.TheVariants as op
use Rattle.env_script.specs.declared.script.Count.TheVariants.{All}
use Rattle.env_script.specs.Scripts.{gives, takes, nothing}
use Rattle.width_check.specs.Processes.{constant, compared, skipping, assigning, in_turn, side_by_side, choosing, no_choices, and_choice, TypedProgram}
use Rattle.round_time.specs.Sums.{rounds_sum}
use Rattle.round_time.proofs.LongestExamples.{here, channel, var, all_of, sum, take, give, two, three, loop_of}

-- *[L?x; R!x]
abbrev copies : TypedProgram
copies = record {
  channels = channel In 4 ∷ channel Out 4 ∷ [];
  vars = var 4 ∷ [];
  body = loop_of (take 0 0) (give 1 (all_of 4 0));
}

-- the loop asks for its body, and a value comes and goes, three times; then the loop asks for its body once more
copied : rounds_sum copies (gives (3 ∷ 15 ∷ 0 ∷ []) ∷ takes All ∷ []) 10 ≡
    (2 + 1) + (10 + 1) + (14 + 1) + ((8 + 1) + (10 + 1) + (14 + 1)) + ((8 + 1) + (10 + 1) + (14 + 1)) + (8 + 1)
copied = refl

-- *[L?x; M!x + 1] || *[M?y; R!y + y]
abbrev pipeline : TypedProgram
pipeline = record {
  channels = channel In 8 ∷ channel Chan 8 ∷ channel Out 8 ∷ [];
  vars = var 8 ∷ var 8 ∷ [];
  body =
      side_by_side (two (loop_of (take 0 0) (give 1 (sum (all_of 8 0) (constant 8 1))))
      (loop_of (take 1 1) (give 2 (sum (all_of 8 1) (all_of 8 1)))));
}

-- Both loops ask. A value comes, goes on inside of the program, and goes while the first loop asks again; the next one comes while the second loop does.
piped : rounds_sum pipeline (gives (1 ∷ 2 ∷ []) ∷ nothing ∷ takes All ∷ []) 8 ≡
    (3 + 1) + (11 + 1) + (32 + 1) + (34 + 1) + (16 + 1) + (32 + 1) + (34 + 1) + (16 + 1)
piped = refl

-- n := 1; *[n = 1 -> n := 0; skip]; [n = 0 -> R!n [] n = 1 -> skip]
abbrev ending : TypedProgram
ending = record {
  channels = channel Out 1 ∷ [];
  vars = var 1 ∷ [];
  body =
      in_turn (three (assigning 0 here (constant 1 1))
      (choosing true
      (and_choice (compared op.Eq (all_of 1 0) (constant 1 1)) (in_turn (two (assigning 0 here (constant 1 0)) skipping)) no_choices))
      (choosing false (and_choice (compared op.Eq (all_of 1 0) (constant 1 0)) (give 0 (all_of 1 0))
      (and_choice (compared op.Eq (all_of 1 0) (constant 1 1)) skipping no_choices))));
}

-- an assignment, a turn, an assignment, a skip, the repetition's end, the selection, and a value that goes
ended : rounds_sum ending (takes All ∷ []) 7 ≡ (7 + 1) + (13 + 1) + (15 + 1) + (13 + 1) + (12 + 1) + (15 + 1) + (7 + 1)
ended = refl
