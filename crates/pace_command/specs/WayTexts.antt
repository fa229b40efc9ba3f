-- How a way is printed, and the loops of a program: each statement by the word for its kind in the tree of parts, and
-- by the place of the first name in it.
use Rattle.std.specs.Prelude.{ℕ, List, [], ◌∷◌, ◌++◌, map, Option, Some, None, codes, decimal}
use Rattle.std.specs.List.{concat}
use Rattle.chp_base.specs.declared.span.Span.{Span}
use Rattle.handshake_expand.specs.PartText.{kind_word}
use Rattle.handshake_expand.specs.PartTree.{part_kind}
use Rattle.round_time.specs.Ways.{Point, started, step_of, ended, Way, Loop}
use Rattle.command_answers.specs.Lines.{span_text}
use Rattle.pace_command.specs.FirstNames.{first_name_at}

abbrev pub place_text : Option Span → List ℕ
place_text None = []
place_text (Some at) = codes " at " ++ span_text at

abbrev pub point_text : Point → List ℕ
point_text started = codes "start"
point_text (step_of p) = kind_word (part_kind p) ++ place_text (first_name_at p)
point_text ended = codes "end"

-- its two ends
abbrev pub way_text : Way → List ℕ
way_text w = concat (codes "from " ∷ point_text w.from ∷ codes "\nto " ∷ point_text w.to ∷ codes "\n" ∷ [])

-- how long the longest way inside of a loop is
abbrev pub loop_line : Loop → List ℕ
loop_line l = concat (codes "loop " ∷ decimal l.length ∷ place_text (first_name_at l.statement) ∷ codes "\n" ∷ [])

abbrev pub loops_text : List Loop → List ℕ
loops_text ls = concat (map loop_line ls)
