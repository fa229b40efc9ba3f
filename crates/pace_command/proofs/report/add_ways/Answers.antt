use Rattle.std.proofs.Common.{◌∙◌, map, ap}
use Rattle.std.proofs.lemmas.Result.{on_ok_weaker}
use Rattle.width_check.specs.Typed.{program_of as typed_of}
use Rattle.pace_bound.specs.Whereabouts.{way_of, loop_of}
use Rattle.pace_command.specs.WayTexts.{way_text}
use Rattle.pace_command.proofs.Bounds.{lies_there, ways_told}
use Rattle.pace_command.proofs.report.add_ways.Goals as goal

pub returns : goal.returns
returns c =
    let way = c.args.way.now in
    let before = c.args.text.now.items in
    let found = ap (map loop_of) c.deref.ensures.value ∙ c.in_ok-loops.ensures in
    on_ok_weaker c.add_loops.result (λ is. (
      way_of way,
      lies_there (typed_of c.args.plain.now) way c.requires.way c.requires.longest,
      ways_told _ _ before (way_text (way_of way)) _ _ is found c.in_ok-add_way.ensures,
    ))
    c.add_loops.ensures
