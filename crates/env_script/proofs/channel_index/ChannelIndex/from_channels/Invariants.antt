use Rattle.std.proofs.Common.{take}
use Rattle.env_script.specs.NamePlaces.{IsPlaceTable}
use Rattle.env_script.proofs.channel_index.ChannelIndex.from_channels.Given as goal

abbrev pub invariant-loop-place : goal.invariant-loop-place
invariant-loop-place l = IsPlaceTable (take l.place l.channels) l.places
