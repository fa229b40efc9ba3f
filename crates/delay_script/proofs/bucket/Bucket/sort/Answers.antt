use Rattle.std.proofs.Common.{ℕ, map, subst}
use Rattle.std.specs.declared.cmp.Reverse.{Reverse}
use Rattle.std.specs.List.Sorted.{IsPermutation}
use Rattle.std.proofs.lemmas.List.Sorted.{IsPermutation-map}
use Rattle.delay_script.specs.Calendars.{BucketValue}
use Rattle.delay_script.proofs.Bucketed.{descending_of}
use Rattle.delay_script.proofs.bucket.Bucket.sort.Goals as goal

pub returns-clause-same : goal.returns-clause-same
returns-clause-same c =
    let new = c.sort_unstable.new.self.items in
    subst (λ (b : BucketValue). IsPermutation b.nodes (map (λ (n : Reverse ℕ). n.0) new)) c.self.view_is
    (IsPermutation-map (λ (n : Reverse ℕ). n.0) c.self.inside.nodes.items new c.sort_unstable.ensures.permutation)

pub returns-clause-descends : goal.returns-clause-descends
returns-clause-descends c = descending_of c.sort_unstable.new.self.items c.sort_unstable.ensures.sorted
