-- The names that the code has, as their bytes.
use Rattle.command_words.specs.SimulateWords.{text_given}
use Rattle.pace_command.specs.declared.asked.Asked.{Asked}
use Rattle.pace_command.specs.Pacing.{AskedPace}

abbrev pub pace_asked : Asked → AskedPace
pace_asked asked = record { file = asked.file.now; script = text_given asked.script }
