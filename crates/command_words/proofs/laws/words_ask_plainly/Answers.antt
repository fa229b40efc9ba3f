use Rattle.command_words.proofs.PlainCommands.{command_is}
use Rattle.command_words.proofs.laws.words_ask_plainly.Goals as goal

pub returns : goal.returns
returns c = command_is
