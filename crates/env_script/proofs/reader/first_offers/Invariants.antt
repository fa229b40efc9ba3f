use Rattle.std.proofs.Common.{◌≡◌, [], map, take}
use Rattle.env_script.specs.Offers.{offered}
use Rattle.env_script.specs.ScriptText.{script_of}
use Rattle.env_script.proofs.reader.first_offers.Given as goal

abbrev pub invariant-loop-channel : goal.invariant-loop-channel
invariant-loop-channel l = map offered l.offers.items ≡ script_of (take l.channel-index l.channels) []
