-- Configurations and their steps (Martin).
use Rattle.std.specs.Prelude.{◌≡◌, ℕ, zero, suc, ◌-◌, true, false, ◌==◌, if◌then◌else◌, List, [], ◌∷◌, ◌++◌, map, length, replicate, slice_index, slice_set, Some}
use Rattle.chp_base.specs.declared.span.Span.{Span}
use Rattle.env_script.specs.declared.script.Count.{Count}
use Rattle.env_script.specs.declared.script.Count.TheVariants.{All, Times}
use Rattle.env_script.specs.Scripts.{OfferValue, gives, takes, nothing, offer_at, is_over}
use Rattle.env_script.specs.Runs.{history_at}
use Rattle.width_check.specs.Processes.{Formula, Process, skipping, assigning, sending, receiving, choosing, repeating, no_members, and_member, Choices, no_choices, and_choice, TypedProgram}
use Rattle.width_check.specs.declared.typed.Var.{Var}
use Rattle.width_check.specs.Values.{value}
use Rattle.chp_meaning.specs.Terms.{Term, finished, opened, followed, Place, statement_at, with_left}

-- what is left of the program, a value for each variable, the rest of the script, and for each channel the values that
-- have passed, the first one first
pub record Configuration : Type 0 where
  pub term : Term
  pub store : List ℕ
  pub rests : List OfferValue
  pub histories : List (List ℕ)

-- the value of an expression in a configuration
abbrev pub value_in : Configuration → Formula → ℕ
value_in c e = value (slice_index c.store) e

-- the branches whose guards have the value 1
abbrev pub open_branches : Configuration → Choices → List Process
open_branches c no_choices = []
open_branches c (and_choice g p more) = if value_in c g == 1 then p ∷ open_branches c more else open_branches c more

-- one acceptance fewer
abbrev pub one_fewer : Count → Count
one_fewer All = All
one_fewer (Times n) = Times (n - 1)

-- the configuration in which this is left of the statement at the place
abbrev pub leaving : Configuration → Place → Term → Configuration
leaving c at left = record {
  term = with_left c.term at left;
  store = c.store;
  rests = c.rests;
  histories =
      c.histories;
}

abbrev pub storing : Configuration → ℕ → ℕ → Configuration
storing c var v = record { term = c.term; store = slice_set c.store var v; rests = c.rests; histories = c.histories }

-- the value has passed on the channel
abbrev pub passing : Configuration → ℕ → ℕ → Configuration
passing c chan v = record {
  term = c.term;
  store = c.store;
  rests = c.rests;
  histories =
      slice_set c.histories chan (history_at c.histories chan ++ v ∷ []);
}

-- this is left of the script on the channel
abbrev pub offering : Configuration → ℕ → OfferValue → Configuration
offering c chan rest = record {
  term = c.term;
  store = c.store;
  rests = slice_set c.rests chan rest;
  histories =
      c.histories;
}

-- The steps, each at its place: that of the sender in a communication, and the program's own end where the environment
-- is at the other one. A channel on which the environment has no part is inside of the program.
pub data Step : Configuration → Place → Configuration → Type 0 where
  a_skip : {c : Configuration} {at : Place} → statement_at c.term at ≡ Some skipping → Step c at (leaving c at finished)
  an_assignment : {c : Configuration} {at : Place} {x : ℕ} {s : Span} {e : Formula} →
      statement_at c.term at ≡ Some (assigning x s e) → Step c at (storing (leaving c at finished) x (value_in c e))
  a_selection : {c : Configuration} {at : Place} {choices : Choices} {p : Process} →
      statement_at c.term at ≡ Some (choosing false choices) → open_branches c choices ≡ p ∷ [] →
      Step c at (leaving c at (opened p))
  a_turn : {c : Configuration} {at : Place} {choices : Choices} {p : Process} →
      statement_at c.term at ≡ Some (choosing true choices) → open_branches c choices ≡ p ∷ [] →
      Step c at (leaving c at (followed (opened p) (and_member (choosing true choices) no_members)))
  an_end : {c : Configuration} {at : Place} {choices : Choices} → statement_at c.term at ≡ Some (choosing true choices)
      → open_branches c choices ≡ [] → Step c at (leaving c at finished)
  a_repetition : {c : Configuration} {at : Place} {p : Process} → statement_at c.term at ≡ Some (repeating p) →
      Step c at (leaving c at (followed (opened p) (and_member (repeating p) no_members)))
  a_communication : {c : Configuration} {at : Place} (other : Place) {k x : ℕ} {s t u : Span} {e : Formula} →
      statement_at c.term at ≡ Some (sending k s e) → statement_at c.term other ≡ Some (receiving k t x u) →
      offer_at c.rests k ≡ nothing → Step c at
      (passing (storing (leaving (leaving c at finished) other finished) x (value_in c e)) k (value_in c e))
  a_delivery : {c : Configuration} {at : Place} {k : ℕ} {s : Span} {e : Formula} {count : Count} →
      statement_at c.term at ≡ Some (sending k s e) → offer_at c.rests k ≡ takes count → is_over count 0 ≡ true →
      Step c at (passing (offering (leaving c at finished) k (takes (one_fewer count))) k (value_in c e))
  an_arrival : {c : Configuration} {at : Place} {k x v : ℕ} {s t : Span} {more : List ℕ} →
      statement_at c.term at ≡ Some (receiving k s x t) → offer_at c.rests k ≡ gives (v ∷ more) →
      Step c at (passing (storing (offering (leaving c at finished) k (gives more)) x v) k v)

-- a CHP run of so many steps leads from one configuration to another
pub data Leads : Configuration → ℕ → Configuration → Type 0 where
  no_step : {c : Configuration} → Leads c zero c
  one_step : {c d e : Configuration} {at : Place} {n : ℕ} → Step c at d → Leads d n e → Leads c (suc n) e

-- before the first step: all is still to be done and to be offered, and nothing has passed
abbrev pub start_of : TypedProgram → List OfferValue → Configuration
start_of p script = record {
  term = opened p.body;
  store = map (λ (v : Var). v.first) p.vars;
  rests = script;
  histories = replicate (length p.channels) [];
}
