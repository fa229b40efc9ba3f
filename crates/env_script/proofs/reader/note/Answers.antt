use Rattle.std.proofs.lemmas.List.{map-set}
use Rattle.env_script.specs.Offers.{offered}
use Rattle.env_script.proofs.reader.note.Goals as goal

pub returns-clause-offers : goal.returns-clause-offers
returns-clause-offers c = map-set offered c.args.offers.now c.args.taken.place c.args.taken.offer
