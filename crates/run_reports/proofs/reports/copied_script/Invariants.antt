use Rattle.std.proofs.Common.{◌≡◌, map, take}
use Rattle.env_script.specs.Offers.{offered}
use Rattle.run_reports.proofs.reports.copied_script.Given as goal

abbrev pub invariant-loop-offer : goal.invariant-loop-offer
invariant-loop-offer l = map offered l.offers.items ≡ map offered (take l.offer-index l.offer-items)
