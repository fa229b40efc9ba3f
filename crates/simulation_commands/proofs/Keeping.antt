-- Which of the handed-in orders change in a call.
use Rattle.std.proofs.Common.{◌≡◌, ◌≢◌, ◌∙◌, ◌⊎◌, ℕ, zero, suc, ◌<◌, List, [], ◌∷◌, ◌++◌, length, map, set, get_or, slice_get, Option, Some, None}
use Rattle.std.proofs.Common.{refl, sym, ap, subst, inl, inr, arith}
use Rattle.std.specs.declared.alloc.Global.{Global}
use Rattle.std.specs.declared.dyn_box.DynBox.{DynBox}
use Rattle.std.proofs.lemmas.Bool.{cases_eq}
use Rattle.std.proofs.lemmas.List.{append-nil}
use Rattle.std.specs.Option.{option_map, unwrap_or}
use Rattle.std.proofs.lemmas.List.{map-set, set-get_or}
use Rattle.std.proofs.lemmas.Option.{get_or_from_slice_get, slice_get-get_or, slice_get-map, slice_get_within, unwrap_or-slice_get}
use Rattle.std.proofs.Math.Seq.{map-set_same}
use Rattle.event_sim.specs.Simulating.{SimValue, RanValue, growth}
use Rattle.event_sim.proofs.Finishing.{growth_is}
use Rattle.event_sim.proofs.KindsKept.{kinds_kept}
use Rattle.command_steps.specs.Orders.{OrderState, Played, IsPlayedAt, KeepsOrders, order_state, place_named, played_by}
use Rattle.simulation_commands.specs.Simulating.{HasPlayed, IsPlayed, SameObjects, ran_value}

-- ---- lists with one item changed

pub get_same : {X : Type 0} (xs : List X) (k : ℕ) (x : X) → k < length xs → slice_get (set xs k x) k ≡ Some x
get_same [] k x within = absurd (omega arith)
get_same (y ∷ ys) zero x within = refl
get_same (y ∷ ys) (suc k) x within = get_same ys k x (omega arith)

get_other : {X : Type 0} (xs : List X) (k i : ℕ) (x : X) → k ≢ i → slice_get (set xs k x) i ≡ slice_get xs i
get_other [] k i x apart = refl
get_other (y ∷ ys) zero zero x apart = absurd (apart refl)
get_other (y ∷ ys) zero (suc i) x apart = refl
get_other (y ∷ ys) (suc k) zero x apart = refl
get_other (y ∷ ys) (suc k) (suc i) x apart = get_other ys k i x (λ e. apart (ap suc e))

one_item : {X : Type 0} {o : Option X} {a b : X} → o ≡ Some a → o ≡ Some b → a ≡ b
one_item e f = cc (e, f)

-- ---- logs

-- nothing was appended
pub log_still : (log : List ℕ) → log ≡ log ++ growth log log
log_still log = sym (append-nil log) ∙ ap (λ (more : List ℕ). log ++ more) (sym (growth_is log log [] (sym (append-nil log))))

pub log_same : (was is : List ℕ) → is ≡ was → is ≡ was ++ growth was is
log_same was is same = subst (λ (log : List ℕ). log ≡ was ++ growth was log) (sym same) (log_still was)

-- appended after something that left the log as it was
pub log_after : (was mid is : List ℕ) → mid ≡ was → is ≡ mid ++ growth mid is → is ≡ was ++ growth was is
log_after was mid is same grown = subst (λ (log : List ℕ). is ≡ log ++ growth log is) same grown

state_still : {o : Option OrderState} (was is : OrderState) → o ≡ Some was → o ≡ Some is → is.log ≡ was.log ++ growth was.log is.log
state_still was is e f = log_same was.log is.log (ap (λ (o : OrderState). o.log) (one_item f e))

logs_kept : (before : List OrderState) (place : ℕ) (order : OrderState)
    → ((was : OrderState) → slice_get before place ≡ Some was → order.log ≡ was.log ++ growth was.log order.log)
    → (k : ℕ) (was is : OrderState) → slice_get before k ≡ Some was → slice_get (set before place order) k ≡ Some is
    → is.log ≡ was.log ++ growth was.log is.log
logs_kept before place order grown k was is held holds = by_place (cases_eq k place)
  where
    by_place : (k ≡ place) ⊎ (k ≢ place) → is.log ≡ was.log ++ growth was.log is.log
    by_place (inl same) =
        let here : slice_get before place ≡ Some was = subst (λ (j : ℕ). slice_get before j ≡ Some was) same held in
        let new : order ≡ is = one_item (get_same before place order (slice_get_within before place was here))
        (subst (λ (j : ℕ). slice_get (set before place order) j ≡ Some is) same holds) in
        subst (λ (o : OrderState). o.log ≡ was.log ++ growth was.log o.log) new (grown was here)
    by_place (inr apart) = state_still was is held (sym (get_other before place k order (λ e. apart (sym e))) ∙ holds)

-- ---- no order was used, or one

pub unplayed : (asked : Option ℕ) (orders : List OrderState) → KeepsOrders asked (played_by orders orders)
unplayed asked orders = record { names = refl; others = λ place other. refl; logs = λ place was is held holds. state_still was is held holds }

abbrev name_of : OrderState → List ℕ
name_of o = o.name

name_kept : (orders : List OrderState) (place : ℕ) (order : OrderState) → ((was : OrderState) → slice_get orders place ≡ Some was → order.name ≡ was.name) →
    order.name ≡ name_of (get_or orders place order)
name_kept orders place order name = go (slice_get orders place) refl
  where
    go : (o : Option OrderState) → slice_get orders place ≡ o → order.name ≡ name_of (get_or orders place order)
    go None e = ap name_of (sym (ap (λ o. unwrap_or o order) e) ∙ unwrap_or-slice_get orders place order)
    go (Some was) e = name was e ∙ ap name_of (sym (ap (λ o. unwrap_or o order) e) ∙ unwrap_or-slice_get orders place order)

pub only_played : (place : ℕ) (played : Played) → IsPlayedAt place played → KeepsOrders (Some place) played
only_played place played is = record {
  names = ap (λ orders. map name_of orders) is.changed
      ∙ map-set_same name_of played.before place is.order is.order (name_kept played.before place is.order is.name);
  others = λ k other. ap (λ orders. slice_get orders k) is.changed ∙ get_other played.before place k is.order (λ e. other (ap (λ n. Some n) e));
  logs = λ k was now held holds.
      logs_kept played.before place is.order is.log k was now held (sym (ap (λ orders. slice_get orders k) is.changed) ∙ holds);
}

pub only_named : (played : Played) (name : List ℕ) (place : ℕ) → place_named played.before name ≡ Some place → IsPlayedAt place played →
    KeepsOrders (place_named played.before name) played
only_named played name place named is = subst (λ asked. KeepsOrders asked played) (sym named) (only_played place played is)

-- ---- one order, at its place, goes on

module _ {X : Type 0} (f : X → OrderState) (xs : List X) (place : ℕ) (item x : X) (within : place < length xs) (there : item ≡ get_or xs place item) where
  was_there : slice_get (map f xs) place ≡ Some (f item)
  was_there = slice_get-map f xs place ∙ ap (option_map f) (slice_get-get_or xs place item within ∙ ap (λ y. Some y) (sym there))

  is_there : slice_get (map f (set xs place x)) place ≡ Some (f x)
  is_there = slice_get-map f (set xs place x) place ∙ ap (option_map f) (get_same xs place x within)

  pub led_at : (seed : ℕ) (s : SimValue) (r : RanValue) → IsPlayed s seed (f item) (f x) r.end → r ≡ ran_value s (f item).log (f x).log r.end →
      HasPlayed (played_by (map f xs) (map f (set xs place x))) place seed s r
  led_at seed s r run led = record { was = f item; is = f x; before = was_there; after = is_there; run = run; led = led }

  pub played_at : name_of (f x) ≡ name_of (f item) → (f x).log ≡ (f item).log ++ growth (f item).log (f x).log
      → IsPlayedAt place (played_by (map f xs) (map f (set xs place x)))
  played_at same grown = record {
    order = f x;
    changed = map-set f xs place x;
    name = λ was e. same ∙ ap name_of (one_item was_there e);
    log = λ was e. subst (λ (o : OrderState). (f x).log ≡ o.log ++ growth o.log (f x).log) (one_item was_there e) grown;
  }

-- the order wasn't used
pub still_at : (orders : List OrderState) (place : ℕ) → IsPlayedAt place (played_by orders orders)
still_at orders place =
    let d : OrderState = order_state [] [] None in
    record {
      order = get_or orders place d;
      changed = sym (set-get_or orders place d);
      name = λ was e. ap name_of (get_or_from_slice_get orders place was d e);
      log = λ was e. log_same was.log (get_or orders place d).log (ap (λ (o : OrderState). o.log) (get_or_from_slice_get orders place was d e));
    }

-- ---- the objects

module _ {B : Type 0} {Object : B → Type 0} where
  pub objects_still : (asked : Option ℕ) (xs : List (DynBox B Global Object)) → SameObjects asked xs xs
  objects_still asked xs = record { kinds = refl; others = λ k other. refl }

  -- one was used
  pub objects_at : (xs : List (DynBox B Global Object)) (place : ℕ) (item x : DynBox B Global Object) → place < length xs → item ≡ get_or xs place item
      → x.vtable ≡ item.vtable → SameObjects (Some place) xs (set xs place x)
  objects_at xs place item x within there kind = record {
    kinds = kinds_kept (λ (box : DynBox B Global Object). box.vtable) xs place item x within there kind;
    others = λ k other. get_other xs place k x (λ e. other (ap (λ n. Some n) e));
  }

  pub objects_named : (xs ys : List (DynBox B Global Object)) (asked : Option ℕ) (place : ℕ) → asked ≡ Some place → SameObjects (Some place) xs ys
      → SameObjects asked xs ys
  objects_named xs ys asked place named stay = subst (λ o. SameObjects o xs ys) (sym named) stay
