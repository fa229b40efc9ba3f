-- Which of the handed-in orders and devices change in a call.
use Rattle.std.proofs.Common.{◌≡◌, ◌≢◌, ◌∙◌, ℕ, suc, List, [], ◌∷◌, ◌++◌, length, drop, map, slice_get, Option, Some, None, inl, inr, ◌⊎◌, refl, sym, ap, subst}
use Rattle.std.specs.declared.alloc.Global.{Global}
use Rattle.std.specs.declared.dyn_box.DynBox.{DynBox}
use Rattle.std.proofs.lemmas.List.{append-nil, append_assoc}
use Rattle.std.proofs.lemmas.Bool.{cases_eq}
use Rattle.std.specs.Option.{option_map}
use Rattle.std.proofs.lemmas.Option.{slice_get-map}
use Rattle.peer_bench.specs.Asking.{PeerValue}
use Rattle.peer_bench.specs.Benches.{noted_since}
use Rattle.peer_bench.specs.declared.note.Note.{Note}
use Rattle.command_steps.specs.Orders.{OrderState, KeepsOrders, played_by}
use Rattle.simulation_commands.specs.Simulating.{SameObjects}
use Rattle.simulation_commands.proofs.Keeping.{objects_still, unplayed}
use Rattle.bench_commands.specs.HandedIn.{StayHandedIn}
use Rattle.bench_commands.specs.Peers.{KeepsPeers, peered_by}

-- lists with the same item at each place are the same
pub all_items : {X : Type 0} (xs ys : List X) → ((k : ℕ) → slice_get xs k ≡ slice_get ys k) → xs ≡ ys
all_items [] [] each = refl
all_items [] (y ∷ ys) each = absurd (cc (each 0))
all_items (x ∷ xs) [] each = absurd (cc (each 0))
all_items (x ∷ xs) (y ∷ ys) each =
    let first : x ≡ y = same_head (each 0) in
    let rest : xs ≡ ys = all_items xs ys (λ k. each (suc k)) in
    rw (first, rest) refl
  where
    same_head : Some x ≡ Some y → x ≡ y
    same_head e = cc e

abbrev peer_name : PeerValue → List ℕ
peer_name p = p.name

-- ---- notes

drop_front : (xs ys : List Note) → drop (length xs) (xs ++ ys) ≡ ys
drop_front [] ys = refl
drop_front (x ∷ xs) ys = drop_front xs ys

-- what was appended is what is new
pub notes_new : (was more is : List Note) → is ≡ was ++ more → is ≡ was ++ noted_since was is
notes_new was more is e = e ∙ ap (λ (ns : List Note). was ++ ns) (sym (ap (drop (length was)) e ∙ drop_front was more))

pub notes_same : (was is : List Note) → is ≡ was → is ≡ was ++ noted_since was is
notes_same was is same = notes_new was [] is (same ∙ sym (append-nil was))

notes_both : (a b c : List Note) → b ≡ a ++ noted_since a b → c ≡ b ++ noted_since b c → c ≡ a ++ noted_since a c
notes_both a b c one two =
    notes_new a (noted_since a b ++ noted_since b c) c
    (two ∙ ap (λ (ns : List Note). ns ++ noted_since b c) one ∙ append_assoc a (noted_since a b) (noted_since b c))

one_item : {X : Type 0} {o : Option X} {a b : X} → o ≡ Some a → o ≡ Some b → a ≡ b
one_item e f = cc (e, f)

notes_still : {o : Option PeerValue} (was is : PeerValue) → o ≡ Some was → o ≡ Some is → is.log ≡ was.log ++ noted_since was.log is.log
notes_still was is e f = notes_same was.log is.log (ap (λ (p : PeerValue). p.log) (one_item f e))

-- one change after another
pub keeps_both : (which : Option ℕ) (a b c : List PeerValue) → KeepsPeers which (peered_by a b) → KeepsPeers which (peered_by b c)
    → KeepsPeers which (peered_by a c)
keeps_both which a b c one two = record {
  names = two.names ∙ one.names;
  others = λ k other. two.others k other ∙ one.others k other;
  logs = λ k was is held holds. by_mid k was is held holds (slice_get b k) refl;
}
  where
    named : (k : ℕ) → option_map peer_name (slice_get b k) ≡ option_map peer_name (slice_get a k)
    named k = sym (slice_get-map peer_name b k) ∙ (ap (λ ns. slice_get ns k) one.names ∙ slice_get-map peer_name a k)

    by_mid : (k : ℕ) (was is : PeerValue) → slice_get a k ≡ Some was → slice_get c k ≡ Some is → (o : Option PeerValue) → slice_get b k ≡ o →
        is.log ≡ was.log ++ noted_since was.log is.log
    by_mid k was is held holds None none = absurd (cc (named k, none, held))
    by_mid k was is held holds (Some mid) there =
        notes_both was.log mid.log is.log (one.logs k was mid held there) (two.logs k mid is there holds)

module _ {P : Type 0} (f : P → PeerValue) where
  pub unasked : (which : Option ℕ) (ps : List P) → KeepsPeers which (peered_by (map f ps) (map f ps))
  unasked which ps = record { names = refl; others = λ place other. refl; logs = λ place was is held holds. notes_still was is held holds }

  -- one device, at its place, goes on with its name, and notes more
  pub kept_peers : (xs ys : List P) (k : ℕ) → ((place : ℕ) → Some k ≢ Some place → slice_get ys place ≡ slice_get xs place) →
      option_map (λ x. (f x).name) (slice_get ys k) ≡ option_map (λ x. (f x).name) (slice_get xs k) →
      ((was is : P) → slice_get xs k ≡ Some was → slice_get ys k ≡ Some is → (f is).log ≡ (f was).log ++ noted_since (f was).log (f is).log) →
      KeepsPeers (Some k) (peered_by (map f xs) (map f ys))
  kept_peers xs ys k stay named noted = record {
    names = all_items (map peer_name (map f ys)) (map peer_name (map f xs)) (λ i. names i);
    others = λ i other. others i other;
    logs = λ i was is held holds. logs i was is held holds (cases_eq i k);
  }
    where
      others : (i : ℕ) → Some k ≢ Some i → slice_get (map f ys) i ≡ slice_get (map f xs) i
      others i other = slice_get-map f ys i ∙ (ap (option_map f) (stay i other) ∙ sym (slice_get-map f xs i))

      -- what stands at the place, of which this is known
      seen : (zs : List P) (v : PeerValue) → slice_get (map f zs) k ≡ Some v → (z : P) × ((slice_get zs k ≡ Some z) × (f z ≡ v))
      seen zs v there = by_item (slice_get zs k) refl
        where
          by_item : (o : Option P) → slice_get zs k ≡ o → (z : P) × ((slice_get zs k ≡ Some z) × (f z ≡ v))
          by_item None none = absurd (cc (slice_get-map f zs k, ap (option_map f) none, there))
          by_item (Some z) some = (z, (some, cc (slice_get-map f zs k, ap (option_map f) some, there)))

      logs : (i : ℕ) (was is : PeerValue) → slice_get (map f xs) i ≡ Some was → slice_get (map f ys) i ≡ Some is → (i ≡ k) ⊎ (i ≢ k) →
          is.log ≡ was.log ++ noted_since was.log is.log
      logs i was is held holds (inl same) =
          let old = seen xs was (subst (λ (j : ℕ). slice_get (map f xs) j ≡ Some was) same held) in
          let new = seen ys is (subst (λ (j : ℕ). slice_get (map f ys) j ≡ Some is) same holds) in
          subst (λ (v : PeerValue). is.log ≡ v.log ++ noted_since v.log is.log) old.1.1
          (subst (λ (v : PeerValue). v.log ≡ (f old.0).log ++ noted_since (f old.0).log v.log) new.1.1 (noted old.0 new.0 old.1.0 new.1.0))
      logs i was is held holds (inr apart) = notes_still was is held (sym (others i (λ e. apart (place_of e))) ∙ holds)
        where
          place_of : Some k ≡ Some i → i ≡ k
          place_of e = cc e

      at : (zs : List P) (i : ℕ) → slice_get (map peer_name (map f zs)) i ≡ option_map (λ x. (f x).name) (slice_get zs i)
      at zs i = slice_get-map peer_name (map f zs) i ∙ (ap (option_map peer_name) (slice_get-map f zs i) ∙ twice (slice_get zs i))
        where
          twice : (o : Option P) → option_map peer_name (option_map f o) ≡ option_map (λ x. (f x).name) o
          twice None = refl
          twice (Some x) = refl

      by_place : (i : ℕ) → (i ≡ k) ⊎ (i ≡ k → ⊥) → option_map (λ x. (f x).name) (slice_get ys i) ≡ option_map (λ x. (f x).name) (slice_get xs i)
      by_place i (inl same) = ap (λ j. option_map (λ x. (f x).name) (slice_get ys j)) same
          ∙ (named ∙ ap (λ j. option_map (λ x. (f x).name) (slice_get xs j)) (sym same))
      by_place i (inr apart) = ap (option_map (λ x. (f x).name)) (stay i (λ e. apart (same_place e)))
        where
          same_place : Some k ≡ Some i → i ≡ k
          same_place e = cc e

      names : (i : ℕ) → slice_get (map peer_name (map f ys)) i ≡ slice_get (map peer_name (map f xs)) i
      names i = at ys i ∙ (by_place i (cases_eq i k) ∙ sym (at xs i))

-- ---- all of them

module _ {B : Type 0} {Order : B → Type 0} {D : Type 0} {Device : D → Type 0} (order : DynBox B Global Order → OrderState)
    (peer : DynBox D Global Device → PeerValue) where
  -- nothing was used
  pub all_stay : (place which : Option ℕ) (os : List (DynBox B Global Order)) (ps : List (DynBox D Global Device)) →
      StayHandedIn order peer place which os os ps ps
  all_stay place which os ps = record {
    orders = unplayed place (map order os);
    order_objects = objects_still place os;
    peers = unasked peer which ps;
    peer_objects = objects_still which ps;
  }

  -- an order was used, and no device
  pub orders_stay : (place which : Option ℕ) (os qs : List (DynBox B Global Order)) (ps : List (DynBox D Global Device)) →
      KeepsOrders place (played_by (map order os) (map order qs)) → SameObjects place os qs → StayHandedIn order peer place which os qs ps ps
  orders_stay place which os qs ps keeps stay = record {
    orders = keeps;
    order_objects = stay;
    peers = unasked peer which ps;
    peer_objects = objects_still which ps;
  }

  -- at places that are known by names
  pub stay_named : (place which : Option ℕ) (k l : ℕ) (os qs : List (DynBox B Global Order)) (ps rs : List (DynBox D Global Device)) →
      place ≡ Some k → which ≡ Some l →
      StayHandedIn order peer (Some k) (Some l) os qs ps rs → StayHandedIn order peer place which os qs ps rs
  stay_named place which k l os qs ps rs at there stay =
      subst (λ o. StayHandedIn order peer o which os qs ps rs) (sym at) (subst (λ o. StayHandedIn order peer (Some k) o os qs ps rs) (sym there) stay)
