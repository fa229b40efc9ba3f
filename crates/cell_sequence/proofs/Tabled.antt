-- A part whose contract is decided by trying all values of its nodes.
use Rattle.std.proofs.Common.{◌≡◌, ◌≢◌, ℕ, Bool, true, false, not, List, [], ◌∷◌, map, sym, ◌∙◌, inl, inr}
use Rattle.std.specs.Prelude.{◌&&◌, ◌||◌, ◌==◌, ◌⊎◌, All, Contains}
use Rattle.std.specs.List.{list_any, list_all}
use Rattle.std.proofs.Math.Logic.{⊎_elim}
use Rattle.std.proofs.lemmas.Bool.{true≢false, or_cases, not-true, eqb-true, eq-eqb}
use Rattle.std.proofs.lemmas.List.Elements.{All-nil, All-cons}
use Rattle.std.proofs.lemmas.List.Folds.{Any-from_list_any}
use Rattle.prs_core.specs.Moves.{guard_holds}
use Rattle.prs_core.specs.Parts.{Part, Owned, Wire, Moment, IsFirstState, Keeps, all_low, is_valid, turned, moment_after, fires, may_move}
use Rattle.prs_core.specs.Keeping.{OwnKeeps, EachKeeps, kept_by_each}
use Rattle.prs_core.specs.Deciding.{implies, implies_at, left_of, right_of, both_of}

-- an enabled rule moves only a wire that is to move, goes to a legal moment, and no other move disables it
abbrev pub own_test : (p : Part) (legal : Moment → Bool) (m : Moment) → Owned → Bool
own_test p legal m o =
    legal (moment_after p m o.node)
    && (list_all (λ (w : Wire). implies (w.node == o.node) (may_move m w)) p.promises
    && (list_all (λ (other : Owned). implies (fires m.value other) (other.node == o.node || fires (turned m.value other.node) o)) p.own
    && list_all (λ (w : Wire). implies (may_move m w) (w.node == o.node || fires (turned m.value w.node) o)) p.allows))

abbrev pub waits_test : (p : Part) (m : Moment) → Bool
waits_test p m = list_any (λ o. fires m.value o) p.own || (list_any (λ w. may_move m w) p.allows || p.blocked m.value)

-- all that a contract asks of a legal moment
abbrev pub moment_test : (p : Part) (legal : Moment → Bool) (m : Moment) → Bool
moment_test p legal m =
    list_all (λ (o : Owned). implies (fires m.value o) (own_test p legal m o)) p.own
    && (list_all (λ (w : Wire). implies (may_move m w) (legal (moment_after p m w.node))) p.allows
    && (list_all (λ (o : Owned). not (guard_holds m.value o.rules.up && guard_holds m.value o.rules.down)) p.own
    && (implies (all_low m.value p.ports) (all_low m.value p.lows)
    && (implies (all_low m.value p.ports) (list_all (is_valid m.value) p.bits)
    && waits_test p m))))

abbrev pub first_test : (p : Part) (legal : Moment → Bool) (v : ℕ → Bool) → Bool
first_test p legal v =
    implies (all_low v (map (λ (w : Wire). w.node) p.allows) && (all_low v p.lows && list_all (is_valid v) p.bits))
    (legal (record { value = v; noted = λ n. false }))

all_of : {X : Type 0} (p : X → Bool) (P : X → Type 0) → ((x : X) → p x ≡ true → P x) → (xs : List X) → list_all p xs ≡ true → All P xs
all_of p P each [] h = All-nil P
all_of p P each (x ∷ xs) h = All-cons P x xs (each x (left_of _ _ h)) (all_of p P each xs (right_of (p x) _ h))

-- where it has moved nothing itself
same_node : (a b : ℕ) (t : Bool) → (a == b || t) ≡ true → a ≢ b → t ≡ true
same_node a b t h ne = ⊎_elim (λ (e : (a == b) ≡ true). absurd (ne (eqb-true a b e))) (λ (e : t ≡ true). e) (or_cases _ _ h)

own_from : (p : Part) (legal : Moment → Bool) (m : Moment) (o : Owned) → own_test p legal m o ≡ true → OwnKeeps p (λ m. legal m ≡ true) m o
own_from p legal m o h =
    let promises = list_all (λ (w : Wire). implies (w.node == o.node) (may_move m w)) p.promises in
    let own = list_all (λ (other : Owned). implies (fires m.value other) (other.node == o.node || fires (turned m.value other.node) o)) p.own in
    let h2 = right_of (legal (moment_after p m o.node)) _ h in
    let h3 = right_of promises _ h2 in record {
      goes = left_of _ _ h;
      promised = all_of (λ (w : Wire). implies (w.node == o.node) (may_move m w)) (λ (w : Wire). w.node ≡ o.node →
          may_move m w ≡ true) (λ w t e. implies_at _ _ t (eq-eqb _ _ e)) p.promises (left_of _ _ h2);
      firm = all_of (λ (other : Owned). implies (fires m.value other) (other.node == o.node || fires (turned m.value other.node) o))
          (λ (other : Owned). fires m.value other ≡ true → other.node ≢ o.node → fires (turned m.value other.node) o ≡ true)
          (λ other t f ne. same_node _ _ _ (implies_at _ _ t f) ne) p.own (left_of _ _ h3);
      firm_outside = all_of (λ (w : Wire). implies (may_move m w) (w.node == o.node || fires (turned m.value w.node) o))
          (λ (w : Wire). may_move m w ≡ true → w.node ≢ o.node →
          fires (turned m.value w.node) o ≡ true) (λ w t may ne. same_node _ _ _ (implies_at _ _ t may) ne) p.allows (right_of own _ h3);
    }

waits_from : (p : Part) (m : Moment) → waits_test p m ≡ true → All (λ (o : Owned). fires m.value o ≡ false) p.own →
    ((w : Wire) × Contains p.allows w × (may_move m w ≡ true)) ⊎ (p.blocked m.value ≡ true)
waits_from p m h none =
    ⊎_elim
    (λ (own : list_any (λ o. fires m.value o) p.own ≡ true).
    let (k, o, within, is, fire) = Any-from_list_any (λ (o : Owned). fires m.value o) p.own own in
    absurd (true≢false (sym fire ∙ cc (is, none k o within))))
    (λ rest.
    ⊎_elim
    (λ (outside : list_any (λ w. may_move m w) p.allows ≡ true).
    let (k, w, within, is, may) = Any-from_list_any (λ (w : Wire). may_move m w) p.allows outside in
    inl (w, (k, within, is), may))
    (λ blocked. inr blocked)
    (or_cases _ _ rest))
    (or_cases (list_any (λ o. fires m.value o) p.own) _ h)

each_from : (p : Part) (legal : Moment → Bool) (m : Moment) → moment_test p legal m ≡ true → EachKeeps p (λ m. legal m ≡ true) m
each_from p legal m h =
    let own = λ (o : Owned). implies (fires m.value o) (own_test p legal m o) in
    let outside = λ (w : Wire). implies (may_move m w) (legal (moment_after p m w.node)) in
    let apart = λ (o : Owned). not (guard_holds m.value o.rules.up && guard_holds m.value o.rules.down) in
    let lows = implies (all_low m.value p.ports) (all_low m.value p.lows) in
    let bits = implies (all_low m.value p.ports) (list_all (is_valid m.value) p.bits) in
    let h2 = right_of (list_all own p.own) _ h in
    let h3 = right_of (list_all outside p.allows) _ h2 in
    let h4 = right_of (list_all apart p.own) _ h3 in
    let h5 = right_of lows _ h4 in record {
      own = all_of own (λ (o : Owned). fires m.value o ≡ true → OwnKeeps p (λ m. legal m ≡ true) m o) (λ o t fire. own_from p legal m o (implies_at _ _ t fire))
          p.own (left_of _ _ h);
      outside = all_of outside (λ (w : Wire). may_move m w ≡ true → legal (moment_after p m w.node) ≡ true) (λ w t may. implies_at _ _ t may) p.allows
          (left_of _ _ h2);
      apart = all_of apart (λ (o : Owned). (guard_holds m.value o.rules.up && guard_holds m.value o.rules.down) ≡ false) (λ o t. not-true _ t) p.own
          (left_of _ _ h3);
      lows = λ low. implies_at _ _ (left_of _ _ h4) low;
      bits = λ low. implies_at _ _ (left_of _ _ h5) low;
      waits = waits_from p m (right_of bits _ h5);
    }

first_from : (p : Part) (legal : Moment → Bool) (v : ℕ → Bool) → first_test p legal v ≡ true → IsFirstState p v →
    legal (record { value = v; noted = λ n. false }) ≡ true
first_from p legal v h is = implies_at _ _ h (both_of _ _ is.outside (both_of _ _ is.own is.bits))

-- A part keeps its contract where it does so in each legal moment, from which no move leads out.
pub tabled : (p : Part) (legal : Moment → Bool) → ((v : ℕ → Bool) → first_test p legal v ≡ true) →
    ((m : Moment) → implies (legal m) (moment_test p legal m) ≡ true) → Keeps p
tabled p legal first table = kept_by_each p (λ m. legal m ≡ true) (λ v is. first_from p legal v (first v) is)
    (λ m h. each_from p legal m (implies_at _ _ (table m) h))
