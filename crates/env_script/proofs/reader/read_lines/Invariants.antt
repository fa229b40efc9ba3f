use Rattle.std.proofs.Common.{List, map, take}
use Rattle.env_script.specs.declared.line.Line.{Line}
use Rattle.env_script.specs.Offers.{offered}
use Rattle.env_script.specs.LineSteps.{IsReadSoFar}
use Rattle.env_script.proofs.Sayings.{texts}
use Rattle.env_script.proofs.reader.read_lines.Given as goal

abbrev pub invariant-loop-at : goal.invariant-loop-at
invariant-loop-at l = (ls : List Line) × IsReadSoFar l.channels (texts (take l.at l.lines)) ls (map offered l.offers) l.told l.values
