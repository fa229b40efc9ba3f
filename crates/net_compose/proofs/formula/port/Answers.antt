use Rattle.std.proofs.Common.{◌≡◌, ◌∙◌, ◌+◌, ◌-◌, ◌<◌, ℕ, suc, [], ◌∷◌, ◌++◌, List, ap, arith}
use Rattle.prs_core.specs.Nets.{NodeRules}
use Rattle.prs_core.specs.Pairs.{pairs_from}
use Rattle.cell_parallel.specs.Trees.{c_element}
use Rattle.cell_channel.specs.Ends.{port_rules}
use Rattle.net_compose.proofs.BodyDriven.{element_then}
use Rattle.net_compose.proofs.formula.port.Goals as goal

port_more : (request : ℕ) (now mid new whole : List NodeRules) (width bit rail : ℕ) → bit < width → mid ≡ now ++ c_element request rail ∷ []
    → new ≡ mid ++ c_element request (rail + 1) ∷ [] → now ++ port_rules request (pairs_from (width - bit) rail) ≡ whole
    → new ++ port_rules request (pairs_from (width - (bit + 1)) (rail + 2)) ≡ whole
port_more request now mid new whole width bit rail within first then so_far =
    let e : width - bit ≡ suc (width - (bit + 1)) = omega arith in
    element_then now mid new whole (c_element request rail ∷ []) (c_element request (rail + 1) ∷ [])
    (port_rules request (pairs_from (width - (bit + 1)) (rail + 2))) (port_rules request (pairs_from (width - bit) rail)) first then
    (ap (λ n. port_rules request (pairs_from n rail)) e) so_far

pub loop-bit-preserved : goal.loop-bit-preserved
loop-bit-preserved c = record {
  made = port_more c.args.request c.loop-bit.drivers.items c.push.new.self.items c.push-in-loop-bit.new.self.items _ c.args.width c.loop-bit._bit
      c.loop-bit.rail c.loop-bit-test.true (c.in_ok-push.ensures.items ∙ ap (λ d. c.loop-bit.drivers.items ++ d ∷ []) c.both.ensures)
      (c.in_ok-push-2.ensures.items ∙ ap (λ d. c.push.new.self.items ++ d ∷ []) c.both-in-loop-bit.ensures) c.loop-bit.invariant.made;
  rail = omega (arith, c.loop-bit.invariant.rail);
}
