-- The parts of a channel's line.
use Rattle.std.specs.Prelude.{ℕ, List, [], ◌∷◌, length, take, drop, ◌==◌, codes, decimal, if◌then◌else◌}
use Rattle.std.specs.List.{concat, position_or_len}
use Rattle.chp_base.specs.declared.channel.Kind.{Kind}
use Rattle.chp_base.specs.declared.channel.Kind.TheVariants.{In, Out, Chan}
use Rattle.prs_file.specs.Spelling.{kind_spelling}

-- the kind given by the first letter of a channel's line
abbrev pub kind_by_letter : List ℕ → Kind
kind_by_letter [] = Chan
kind_by_letter (b ∷ bs) = if b == 105 then In else (if b == 111 then Out else Chan)

abbrev pub line_of : Kind → List ℕ → ℕ → List ℕ
line_of kind name width = concat (kind_spelling kind ∷ name ∷ codes " " ∷ decimal width ∷ codes "\n" ∷ [])

abbrev pub word_behind : Kind → List ℕ → List ℕ
word_behind kind line =
    let text = drop (length (kind_spelling kind)) line in take (position_or_len (λ b. b == 32) text) text
