-- The report of a program's rounds.
use Rattle.std.specs.Prelude.{ℕ, List, [], ◌∷◌, zip, codes, decimal}
use Rattle.std.specs.List.{concat, flat_map}
use Rattle.chp_base.specs.declared.channel.Channel.{Channel}
use Rattle.chp_meaning.specs.declared.run.RunEnd.{RunEnd}
use Rattle.chp_meaning.specs.declared.run.RunEnd.TheVariants.{Rest, Spent, TooMany}
use Rattle.chp_meaning.specs.Terms.{is_finished}
use Rattle.chp_meaning.specs.Steps.{Configuration}
use Rattle.history_report.specs.Reports.{done_line, channel_line}

-- how the rounds ended; of rounds that would bring too many values there is no report
abbrev pub rounds_ending : RunEnd → List ℕ
rounds_ending Rest = codes "end rest\n"
rounds_ending Spent = codes "end spent\n"
rounds_ending TooMany = []

-- so many were asked for
abbrev pub rounds_line : ℕ → List ℕ
rounds_line n = concat (codes "rounds " ∷ decimal n ∷ codes "\n" ∷ [])

-- a line for each channel, with the values that have passed on it
abbrev pub passed_lines : List Channel → List (List ℕ) → List ℕ
passed_lines channels histories =
    flat_map (λ (p : Channel × List ℕ). channel_line p.0.name p.1) (zip channels histories)

-- n rounds were asked for, they ended so, and led to this configuration of a program with these channels
abbrev pub rounds_report_of : List Channel → ℕ → RunEnd → Configuration → List ℕ
rounds_report_of channels n end c =
    concat (rounds_ending end ∷ rounds_line n ∷ done_line (is_finished c.term) ∷ passed_lines channels c.histories ∷ [])
