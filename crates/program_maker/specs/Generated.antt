-- The text of the program that a seed and a number of stages give: a pipeline of loops over channels of eight bits,
-- each of which receives a value and sends what its expression makes of it. Stages are counted from 1.
use Rattle.std.specs.Prelude.{ℕ, ◌-◌, ◌/◌, ◌%◌, ◌==◌, List, [], ◌∷◌, ◌++◌, codes, decimal, if◌then◌else◌}
use Rattle.std.specs.List.{concat, flat_map, range_with_len}
use Rattle.program_maker.specs.Drawn.{word_at}

-- a declaration of eight bits: its word, and the letter and the number of its name
abbrev pub byte_line : (word : List ℕ) → (number : ℕ) → List ℕ
byte_line word number = concat (word ∷ decimal number ∷ codes " : 8;\n" ∷ [])

-- by a stage's word, what it sends of its variable: a sum, an exclusive or, a difference, or the complement
abbrev pub stage_sends : (word stage : ℕ) → List ℕ
stage_sends word stage =
    let constant = decimal (word / 4 % 256) in
    let variable = codes "v" ++ decimal stage in
    if word % 4 == 0 then variable ++ codes " + " ++ constant
    else (if word % 4 == 1 then variable ++ codes " ^ " ++ constant
    else (if word % 4 == 2 then variable ++ codes " - " ++ constant
    else codes "~" ++ variable))

-- what comes before a stage's loop: from the second stage on, the sign for parallel composition
abbrev pub stage_begins : (stage : ℕ) → List ℕ
stage_begins stage = if stage == 1 then [] else codes "|| "

-- a stage receives from the channel before it, and sends on its own
abbrev pub stage_line : (word stage : ℕ) → List ℕ
stage_line word stage =
    concat (
    stage_begins stage
    ∷ codes "*[c" ∷ decimal (stage - 1) ∷ codes "?v" ∷ decimal stage
    ∷ codes "; c" ∷ decimal stage ∷ codes "!" ∷ stage_sends word stage
    ∷ codes "]\n"
    ∷ [])

-- the first channel comes from outside, the last one leads out, and those between join two stages
abbrev pub generated_channels : (stages : ℕ) → List ℕ
generated_channels stages =
    concat (
    byte_line (codes "in c") 0
    ∷ flat_map (byte_line (codes "chan c")) (range_with_len 1 (stages - 1))
    ∷ byte_line (codes "out c") stages
    ∷ [])

abbrev pub generated_variables : (stages : ℕ) → List ℕ
generated_variables stages = flat_map (byte_line (codes "var v")) (range_with_len 1 stages)

-- each stage takes a word of the seed, in order
abbrev pub generated_stages : (seed stages : ℕ) → List ℕ
generated_stages seed stages = flat_map (λ stage. stage_line (word_at seed (stage - 1)) stage) (range_with_len 1 stages)

abbrev pub generated_text : (seed stages : ℕ) → List ℕ
generated_text seed stages =
    concat (
    generated_channels stages
    ∷ generated_variables stages
    ∷ codes "begin\n" ∷ generated_stages seed stages ∷ codes "end\n"
    ∷ [])
