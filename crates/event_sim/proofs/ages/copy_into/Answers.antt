use Rattle.std.proofs.Common.{◌≡◌, ◌+◌, ◌≤◌, ◌∙◌, Bool, true, List, ℕ, ◌++◌, length, ap, arith}
use Rattle.std.specs.Prelude.{if◌then◌else◌, is_ok, vec_len, vec_capacity}
use Rattle.event_sim.proofs.ages.copy_into.Goals as goal

pub returns-clause-items : goal.returns-clause-items
returns-clause-items c =
    let room : vec_len c.clear.new.self + length c.args.list.now ≤ vec_capacity c.clear.new.self = omega (
      arith,
      c.clear.ensures.len,
      c.clear.ensures.capacity,
      c.requires,
    ) in
    let ok : is_ok c.extend_from_slice.result ≡ true = c.extend_from_slice.ensures.succeeds room in
    c.extend_from_slice.ensures.items
    ∙ ap (λ (b : Bool). if b then c.clear.new.self.items ++ c.args.list.now else c.clear.new.self.items) ok
    ∙ ap (λ (xs : List ℕ). xs ++ c.args.list.now) c.clear.ensures.items
