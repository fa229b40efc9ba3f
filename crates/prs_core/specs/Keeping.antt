-- How a part is proved to keep its contract: by what every move keeps.
use Rattle.std.specs.Prelude.{◌≡◌, ◌≢◌, ℕ, Bool, true, false, ◌&&◌, ◌⊎◌, slice_index_or, All, Contains}
use Rattle.std.specs.List.{list_all}
use Rattle.std.proofs.Common.{◌∙◌, sym, subst, inl, inr}
use Rattle.std.proofs.lemmas.List.Elements.{All-contains, Contains-get_or}
use Rattle.prs_core.specs.Moves.{guard_holds}
use Rattle.prs_core.specs.Parts.{Part, Owned, Wire, Moment, IsFirstState, IsMove, IsKept, Keeps, Reached, at_first, and_then, moment_after, fires, may_move, turned, all_low, is_valid}

-- what first moments have and every move keeps, each moment has that is reached
pub held_in_each : (p : Part) (Holds : Moment → Type 0) →
    ((v : ℕ → Bool) → IsFirstState p v → Holds (record { value = v; noted = λ n. false })) →
    ((m : Moment) (node : ℕ) → Holds m → IsMove p m node → Holds (moment_after p m node)) → (m : Moment) → Reached p m →
    Holds m
held_in_each p Holds first kept m (at_first v is) = first v is
held_in_each p Holds first kept m (and_then before node reached move) =
    kept before node (held_in_each p Holds first kept before reached) move

-- and where each such moment is as the contract says, the part keeps it
pub kept_by : (p : Part) (Holds : Moment → Type 0) →
    ((v : ℕ → Bool) → IsFirstState p v → Holds (record { value = v; noted = λ n. false })) →
    ((m : Moment) (node : ℕ) → Holds m → IsMove p m node → Holds (moment_after p m node)) →
    ((m : Moment) → Holds m → IsKept p m) → Keeps p
kept_by p Holds first kept holds m reached = holds m (held_in_each p Holds first kept m reached)

-- What a contract's proof gives for one enabled rule of the part, and for each moment: member by member.
pub record OwnKeeps (p : Part) (Holds : Moment → Type 0) (m : Moment) (o : Owned) : Type 0 where
  pub goes : Holds (moment_after p m o.node)
  pub promised : All (λ (w : Wire). w.node ≡ o.node → may_move m w ≡ true) p.promises
  pub firm : All (λ (other : Owned). fires m.value other ≡ true → other.node ≢ o.node →
      fires (turned m.value other.node) o ≡ true) p.own
  pub firm_outside : All (λ (w : Wire). may_move m w ≡ true → w.node ≢ o.node →
      fires (turned m.value w.node) o ≡ true) p.allows

pub record EachKeeps (p : Part) (Holds : Moment → Type 0) (m : Moment) : Type 0 where
  pub own : All (λ (o : Owned). fires m.value o ≡ true → OwnKeeps p Holds m o) p.own
  pub outside : All (λ (w : Wire). may_move m w ≡ true → Holds (moment_after p m w.node)) p.allows
  pub apart : All (λ (o : Owned). (guard_holds m.value o.rules.up && guard_holds m.value o.rules.down) ≡ false) p.own
  pub lows : all_low m.value p.ports ≡ true → all_low m.value p.lows ≡ true
  pub bits : all_low m.value p.ports ≡ true → list_all (is_valid m.value) p.bits ≡ true
  pub waits : All (λ (o : Owned). fires m.value o ≡ false) p.own →
      ((w : Wire) × Contains p.allows w × (may_move m w ≡ true)) ⊎ (p.blocked m.value ≡ true)

goes_by : (p : Part) (Holds : Moment → Type 0) (m : Moment) (node : ℕ) → EachKeeps p Holds m → IsMove p m node →
    Holds (moment_after p m node)
goes_by p Holds m node each (inl own) =
    subst (λ n. Holds (moment_after p m n)) (sym own.at) (All-contains (λ (o : Owned). fires m.value o ≡ true →
    OwnKeeps p Holds m o) p.own own.o each.own own.among own.enabled).goes
goes_by p Holds m node each (inr outside) =
    subst (λ n. Holds (moment_after p m n)) (sym outside.at) (All-contains (λ (w : Wire). may_move m w ≡ true →
    Holds (moment_after p m w.node)) p.allows outside.w each.outside outside.among outside.may)

firm_by : (p : Part) (Holds : Moment → Type 0) (m : Moment) (o : Owned) → OwnKeeps p Holds m o → (node : ℕ) →
    IsMove p m node → node ≢ o.node → fires (turned m.value node) o ≡ true
firm_by p Holds m o keeps node (inl own) ne =
    subst (λ n. fires (turned m.value n) o ≡ true) (sym own.at)
    (All-contains (λ (other : Owned). fires m.value other ≡ true → other.node ≢ o.node →
    fires (turned m.value other.node) o ≡ true) p.own own.o keeps.firm own.among own.enabled (λ e. ne (own.at ∙ e)))
firm_by p Holds m o keeps node (inr outside) ne =
    subst (λ n. fires (turned m.value n) o ≡ true) (sym outside.at)
    (All-contains (λ (w : Wire). may_move m w ≡ true → w.node ≢ o.node →
    fires (turned m.value w.node) o ≡ true) p.allows outside.w keeps.firm_outside outside.among outside.may
    (λ e. ne (outside.at ∙ e)))

kept_each : (p : Part) (Holds : Moment → Type 0) (m : Moment) → EachKeeps p Holds m → IsKept p m
kept_each p Holds m each =
    let keeps : (o : Owned) → Contains p.own o → fires m.value o ≡ true → OwnKeeps p Holds m o =
    λ o among. All-contains (λ (o : Owned). fires m.value o ≡ true → OwnKeeps p Holds m o) p.own o each.own among in
    record {
      promised = λ o among enabled w within. All-contains (λ (w : Wire). w.node ≡ o.node →
          may_move m w ≡ true) p.promises w (keeps o among enabled).promised within;
      firm = λ o among enabled. firm_by p Holds m o (keeps o among enabled);
      apart = λ o among. All-contains
          (λ (o : Owned). (guard_holds m.value o.rules.up && guard_holds m.value o.rules.down) ≡ false) p.own o
          each.apart among;
      lows = each.lows;
      bits = each.bits;
      waits = λ none. each.waits (λ k d within. none (slice_index_or p.own k d) (Contains-get_or p.own k d within));
    }

pub kept_by_each : (p : Part) (Holds : Moment → Type 0) →
    ((v : ℕ → Bool) → IsFirstState p v → Holds (record { value = v; noted = λ n. false })) →
    ((m : Moment) → Holds m → EachKeeps p Holds m) → Keeps p
kept_by_each p Holds first each =
    kept_by p Holds first (λ m node holds move. goes_by p Holds m node (each m holds) move)
    (λ m holds. kept_each p Holds m (each m holds))
