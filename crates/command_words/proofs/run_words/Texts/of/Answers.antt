use Rattle.std.proofs.Common.{ap}
use Rattle.command_words.specs.SimulateWords.{simulation_with}
use Rattle.command_words.proofs.GivenTexts.{texts_are}
use Rattle.command_words.proofs.run_words.Texts.of.Goals as goal

pub returns : goal.returns
returns c = ap simulation_with
    (texts_are c.get_str.ensures c.get_str-2.ensures c.get_str-3.ensures c.get_str-4.ensures c.get_str-5.ensures c.get_str-6.ensures c.get_str-7.ensures
    c.get_str-8.ensures)
