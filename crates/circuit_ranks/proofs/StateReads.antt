-- What is read off the own nodes of a state that is reached is what the place tells where these are.
--
-- P: the program; r: how the state x is reached; f: what is asked of a site; c: a channel; k: a line; i, one: a rail.
use Rattle.std.proofs.Common.{◌≡◌, ℕ, Bool, List, ap, ◌∙◌}
use Rattle.env_script.specs.Scripts.{OfferValue}
use Rattle.width_check.specs.Processes.{TypedProgram}
use Rattle.chp_meaning.specs.Steps.{Configuration}
use Rattle.circuit_places.specs.Lines.{Line}
use Rattle.circuit_places.specs.Circuit.{QElementCells, Cells, site_rails, takers}
use Rattle.circuit_places.specs.Whole.{Whole}
use Rattle.circuit_places.proofs.Places.{guarded_cells, guarded_shown}
use Rattle.circuit_places.proofs.Sites.{any, guarded_offered, guarded_taken}
use Rattle.circuit_places.proofs.Carry.{Reached}
use Rattle.circuit_ranks.proofs.Ranks.{Asked, is_asked}

module _ (P : TypedProgram) (script : List OfferValue) {from : Configuration} {moves : ℕ} {x : Whole P.body} (r : Reached P script from moves x) where
  pub asked_is : (f : Asked) → is_asked f P.body x.root.child x.root.inner ≡ is_asked f P.body (guarded_cells r.place).child (guarded_cells r.place).inner
  asked_is f = ap (λ (y : QElementCells (Cells P.body)). is_asked f P.body y.child y.inner) r.same

  pub taken_is : (c : ℕ) → any (takers P.body x.root.inner c) ≡ (guarded_shown r.place).take c
  taken_is c = ap (λ (y : QElementCells (Cells P.body)). any (takers P.body y.inner c)) r.same ∙ guarded_taken r.place c

  pub offered_is : (k : Line) (i : ℕ) (one : Bool) → any (site_rails P.body x.root.inner k i one) ≡ (guarded_shown r.place).offer k i one
  offered_is k i one = ap (λ (y : QElementCells (Cells P.body)). any (site_rails P.body y.inner k i one)) r.same ∙ guarded_offered r.place k i one
