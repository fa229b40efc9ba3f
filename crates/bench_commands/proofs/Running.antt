-- A run on a bench, as what is known of the orders and devices that led to it.
use Rattle.std.proofs.Common.{◌≡◌, ◌∙◌, ℕ, zero, suc, ◌<◌, List, [], ◌∷◌, ◌++◌, length, map, set, get_or, slice_get, Option, Some, None, refl, sym, ap, subst, arith}
use Rattle.std.specs.Prelude.{IfSome}
use Rattle.std.specs.Option.{option_map}
use Rattle.std.proofs.lemmas.Option.{slice_get-get_or, slice_get-map}
use Rattle.env_script.specs.Scripts.{OfferValue}
use Rattle.event_sim.specs.Simulating.{RanValue, growth}
use Rattle.peer_bench.specs.Asking.{PeerValue}
use Rattle.peer_bench.specs.declared.note.Note.{Note}
use Rattle.peer_bench.specs.Benches.{SetupValue, IsBenchRun, noted_since}
use Rattle.peer_bench.specs.Growing.{script_by}
use Rattle.command_answers.specs.Answers.{Answer}
use Rattle.command_steps.specs.Orders.{OrderState, order_state, played_by}
use Rattle.run_reports.specs.RunReporting.{IsReported}
use Rattle.simulation_commands.specs.Simulating.{SameObjects}
use Rattle.simulation_commands.proofs.Keeping.{get_same, objects_at, only_played, played_at}
use Rattle.std.specs.declared.alloc.Global.{Global}
use Rattle.std.specs.declared.dyn_box.DynBox.{DynBox}
use Rattle.event_sim.specs.Asking.{PickerValue}
use Rattle.prs_core.specs.Nets.{NetValue}
use Rattle.peer_bench.proofs.Listed.{set_apart}
use Rattle.peer_bench.specs.Benches.{bench_enabled}
use Rattle.bench_commands.specs.Asked.{WithNotesOf}
use Rattle.bench_commands.specs.HandedIn.{StayHandedIn, handed_over}
use Rattle.bench_commands.specs.OnBench.{AgainstPeer, BenchesNet, notes_grown}
use Rattle.bench_commands.specs.Peers.{KeepsPeers, Peered, peered_by}
use Rattle.bench_commands.specs.PreparedRuns.{RunsAgainst}
use Rattle.bench_commands.proofs.Named.{along_named}
use Rattle.bench_commands.proofs.Staying.{keeps_both, kept_peers, notes_same}

-- ---- an item of a list

pub item_there : {X : Type 0} (xs : List X) (k : ℕ) → k < length xs → (x : X) × (slice_get xs k ≡ Some x)
item_there [] k within = absurd (omega arith)
item_there (x ∷ xs) zero within = (x, refl)
item_there (x ∷ xs) (suc k) within = item_there xs k (omega arith)

some_of : {X : Type 0} {o : Option X} {x : X} (Q : X → Type 0) → o ≡ Some x → IfSome o Q → Q x
some_of Q is holds = subst (λ p. IfSome p Q) is holds

module _ {X Y : Type 0} (f : X → Y) (xs : List X) (place : ℕ) where
  pub known_there : (x : X) → slice_get xs place ≡ Some x → slice_get (map f xs) place ≡ Some (f x)
  known_there x there = slice_get-map f xs place ∙ ap (option_map f) there

  pub known_was : (item : X) → place < length xs → item ≡ get_or xs place item → slice_get (map f xs) place ≡ Some (f item)
  known_was item within there = known_there item (slice_get-get_or xs place item within ∙ ap (λ y. Some y) (sym there))

  pub known_is : (x : X) → place < length xs → slice_get (map f (set xs place x)) place ≡ Some (f x)
  known_is x within = slice_get-map f (set xs place x) place ∙ ap (option_map f) (get_same xs place x within)

-- ---- behind the run

module _ {P : Type 0} (f : P → PeerValue) (xs ys : List P) (which : ℕ) (within : which < length xs) (count : length ys ≡ length xs)
    (s : SetupValue) (was is : List ℕ) (ran : RanValue)
    (noted : IfSome (slice_get xs which) (λ p. IfSome (slice_get ys which) (λ q. (f q).log ≡ (f p).log ++ notes_grown (f p) (f q))))
    (run : IfSome (slice_get xs which) (λ p. IfSome (slice_get ys which)
    (λ q. IsBenchRun (λ (v : PeerValue). v) s (growth was is) (notes_grown (f p) (f q)) (f p) (f q) ran))) where
  abbrev pub old_there : (p : P) × (slice_get xs which ≡ Some p)
  old_there = item_there xs which within

  abbrev pub new_there : (q : P) × (slice_get ys which ≡ Some q)
  new_there = item_there ys which (omega (arith, within, count))

  pub the_run : IsBenchRun (λ (v : PeerValue). v) s (growth was is) (notes_grown (f old_there.0) (f new_there.0)) (f old_there.0) (f new_there.0) ran
  the_run = some_of _ new_there.1 (some_of _ old_there.1 run)

  -- the device keeps its name
  pub run_keeps : ((k : ℕ) → (k ≡ which → ⊥) → slice_get ys k ≡ slice_get xs k) → KeepsPeers (Some which) (peered_by (map f xs) (map f ys))
  run_keeps stay = kept_peers f xs ys which (λ k other. stay k (λ same. other (ap (λ n. Some n) (sym same))))
      (named new_there.0 old_there.0 new_there.1 old_there.1 (along_named s.net _ (f old_there.0) the_run.noted))
      (λ p q here there. some_of _ there (some_of _ here noted))
    where
      named : (q p : P) → slice_get ys which ≡ Some q → slice_get xs which ≡ Some p → (f q).name ≡ (f p).name →
          option_map (λ x. (f x).name) (slice_get ys which) ≡ option_map (λ x. (f x).name) (slice_get xs which)
      named q p there here same =
          ap (option_map (λ x. (f x).name)) there ∙ (ap (λ n. Some n) same ∙ sym (ap (option_map (λ x. (f x).name)) here))

  pub run_reported : (answer : Answer) → is ≡ was ++ growth was is →
      ((script : List OfferValue) → IsReported script None ran None answer) →
      RunsAgainst s was is (peered_by (map f xs) (map f ys)) which answer
  run_reported answer grown written = record {
    peer_was = f old_there.0;
    peer_is = f new_there.0;
    before = known_there f xs which old_there.0 old_there.1;
    after = known_there f ys which new_there.0 new_there.1;
    ran = ran;
    grown = grown;
    noted = some_of _ new_there.1 (some_of _ old_there.1 noted);
    run = the_run;
    written = written (script_by s.net (notes_grown (f old_there.0) (f new_there.0)));
  }

-- the lists with which the order is asked
pub run_asked : {P : Type 0} (f : P → PeerValue) (xs ys : List P) (which : ℕ) → which < length xs → length ys ≡ length xs → (net : NetValue)
    (Holds : (List ℕ → List ℕ) → Type 0) →
    IfSome (slice_get xs which) (λ p. IfSome (slice_get ys which) (λ q. Holds (bench_enabled net (noted_since (f p).log (f q).log)))) →
    WithNotesOf net (peered_by (map f xs) (map f ys)) which Holds
run_asked f xs ys which within count net Holds both =
    let old = item_there xs which within in
    let new = item_there ys which (omega (arith, within, count)) in
    record {
      was = f old.0;
      is = f new.0;
      before = known_there f xs which old.0 old.1;
      after = known_there f ys which new.0 new.1;
      holds = some_of _ new.1 (some_of _ old.1 both);
    }

pub asked_then : {net : NetValue} {peers : Peered} {which : ℕ} (Then Holds : (List ℕ → List ℕ) → Type 0) →
    ((enabled : List ℕ → List ℕ) → Holds enabled → Then enabled) → WithNotesOf net peers which Holds → WithNotesOf net peers which Then
asked_then Then Holds next w = record { was = w.was; is = w.is; before = w.before; after = w.after; holds = next _ w.holds }

one_of : {X : Type 0} {o : Option X} {a b : X} → o ≡ Some a → o ≡ Some b → b ≡ a
one_of e g = cc (e, g)

-- ---- before it: the order got its seed, and both got room

peer_ready : (was is : PeerValue) → is.name ≡ was.name → is.log ≡ was.log → is.due ≡ was.due → is.willing ≡ was.willing →
    is ≡ record was { spare = is.spare }
peer_ready was is name log due willing = rw (← name, ← log, ← due, ← willing) refl

one_known : {o : Option PeerValue} {a b : PeerValue} → o ≡ Some a → o ≡ Some b → a ≡ b
one_known e g = cc (e, g)

module _ {P : Type 0} (f : P → PeerValue) (xs ys : List P) (which : ℕ) (item ready : P) (within : which < length xs) (there : item ≡ get_or xs which item)
    (name : (f ready).name ≡ (f item).name) (log : (f ready).log ≡ (f item).log) (due : (f ready).due ≡ (f item).due)
    (willing : (f ready).willing ≡ (f item).willing) where
  pub prepared_against : (s : SetupValue) (seed : ℕ) (order_name other was mid now : List ℕ) (old new : Option (ℕ × ℕ)) (answer : Answer) →
      new ≡ Some (seed, length was) → mid ≡ was → RunsAgainst s mid now (peered_by (map f (set xs which ready)) (map f ys)) which answer →
      AgainstPeer s seed (order_state order_name was old) (order_state other now new) (peered_by (map f xs) (map f ys)) which answer
  prepared_against s seed order_name other was mid now old new answer seeded same r =
      let is_ready : r.peer_was ≡ f ready = one_known r.before (known_is f xs which ready within) in
      let changed : f ready ≡ record (f item) { spare = (f ready).spare } = peer_ready (f item) (f ready) name log due willing in
      let all : r.peer_was ≡ record (f item) { spare = (f ready).spare } = is_ready ∙ changed in
      let logs : r.peer_was.log ≡ (f item).log = ap (λ (p : PeerValue). p.log) all in
      let moved = subst (λ (log : List ℕ). Ran s log now r.peer_was r.peer_is r.ran (f item).log) same
      (subst (λ (l : List Note). Ran s mid now r.peer_was r.peer_is r.ran l) logs (r.grown, r.noted, r.run)) in
      record {
        peer_was = f item;
        peer_is = r.peer_is;
        before = known_was f xs which item within there;
        after = r.after;
        ran = r.ran;
        run = record {
          seeded = seeded;
          grown = moved.0;
          noted = moved.1;
          room = (f ready).spare;
          run = subst (λ (p : PeerValue). IsBenchRun (λ (v : PeerValue). v) s (growth was now) (notes_grown (f item) r.peer_is) p r.peer_is r.ran) all moved.2;
        };
        written = subst (λ (l : List Note). IsReported (script_by s.net (noted_since l r.peer_is.log)) None r.ran None answer) logs r.written;
      }
    where
      Ran : SetupValue → (was now : List ℕ) → PeerValue → PeerValue → RanValue → List Note → Type 0
      Ran s was now p q ran log = (now ≡ was ++ growth was now) × (q.log ≡ log ++ noted_since log q.log)
          × IsBenchRun (λ (v : PeerValue). v) s (growth was now) (noted_since log q.log) p q ran

  pub prepared_asked : (net : NetValue) (Then Holds : (List ℕ → List ℕ) → Type 0) → ((enabled : List ℕ → List ℕ) → Holds enabled → Then enabled) →
      WithNotesOf net (peered_by (map f (set xs which ready)) (map f ys)) which Holds → WithNotesOf net (peered_by (map f xs) (map f ys)) which Then
  prepared_asked net Then Holds next w =
      let logs : w.was.log ≡ (f item).log = ap (λ (p : PeerValue). p.log) (one_known w.before (known_is f xs which ready within)) ∙ log in
      record {
        was = f item;
        is = w.is;
        before = known_was f xs which item within there;
        after = w.after;
        holds = next _ (subst (λ (l : List Note). Holds (bench_enabled net (noted_since l w.is.log))) logs w.holds);
      }

  -- a device that got room, and no run
  pub ready_keeps : KeepsPeers (Some which) (peered_by (map f xs) (map f (set xs which ready)))
  ready_keeps = kept_peers f xs (set xs which ready) which (λ k other. set_apart xs which k ready (λ same. other (ap (λ n. Some n) (sym same))))
      (ap (option_map (λ x. (f x).name)) (get_same xs which ready within)
      ∙ (ap (λ n. Some n) name
      ∙ sym (ap (option_map (λ x. (f x).name)) is_item)))
      (λ was is held holds. notes_same (f was).log (f is).log (ap (λ x. (f x).log) (one_of (get_same xs which ready within) holds)
      ∙ log ∙ ap (λ x. (f x).log) (one_of held is_item)))
    where
      is_item : slice_get xs which ≡ Some item
      is_item = slice_get-get_or xs which item within ∙ ap (λ y. Some y) (sym there)

-- ---- one change after another

pub objects_both : {D : Type 0} {Device : D → Type 0} (which : Option ℕ) (a b c : List (DynBox D Global Device)) → SameObjects which a b →
    SameObjects which b c → SameObjects which a c
objects_both which a b c one two = record { kinds = two.kinds ∙ one.kinds; others = λ k other. two.others k other ∙ one.others k other }

pub keeps_then : {P : Type 0} (f : P → PeerValue) (which : Option ℕ) (xs ys zs : List P) → KeepsPeers which (peered_by (map f xs) (map f ys)) →
    KeepsPeers which (peered_by (map f ys) (map f zs)) → KeepsPeers which (peered_by (map f xs) (map f zs))
keeps_then f which xs ys zs one two = keeps_both which (map f xs) (map f ys) (map f zs) one two

-- ---- the order is one of those that are handed in

module _ {B : Type 0} {Order : B → Type 0} {D : Type 0} {Device : D → Type 0} (order : DynBox B Global Order → OrderState)
    (peer : DynBox D Global Device → PeerValue) (os : List (DynBox B Global Order)) (ps rs : List (DynBox D Global Device)) (place which : ℕ)
    (item now : DynBox B Global Order) (within : place < length os) (there : item ≡ get_or os place item) where
  pub net_benched : (seed : ℕ) (s : SetupValue) (answer : Answer) →
      AgainstPeer s seed (order item) (order now) (peered_by (map peer ps) (map peer rs)) which answer →
      BenchesNet (handed_over order peer os (set os place now) ps rs) place which seed s answer
  net_benched seed s answer against = record {
    was = order item;
    is = order now;
    before = known_was order os place item within there;
    after = known_is order os place now within;
    against = against;
  }

  pub net_stays : (order now).name ≡ (order item).name → (order now).log ≡ (order item).log ++ growth (order item).log (order now).log →
      now.vtable ≡ item.vtable → KeepsPeers (Some which) (peered_by (map peer ps) (map peer rs)) → SameObjects (Some which) ps rs →
      StayHandedIn order peer (Some place) (Some which) os (set os place now) ps rs
  net_stays name grown kind keeps stay = record {
    orders = only_played place (played_by (map order os) (map order (set os place now))) (played_at order os place item now within there name grown);
    order_objects = objects_at os place item now within there kind;
    peers = keeps;
    peer_objects = stay;
  }

-- ---- the same, where lists, places and nets are called otherwise

pub run_objects : {D : Type 0} {Device : D → Type 0} (xs ys : List (DynBox D Global Device)) (which : ℕ) →
    map (λ (box : DynBox D Global Device). box.vtable) ys ≡ map (λ (box : DynBox D Global Device). box.vtable) xs →
    ((k : ℕ) → (k ≡ which → ⊥) → slice_get ys k ≡ slice_get xs k) → SameObjects (Some which) xs ys
run_objects xs ys which kinds stay = record { kinds = kinds; others = λ k other. stay k (λ same. other (ap (λ n. Some n) (sym same))) }

module _ {P : Type 0} (f : P → PeerValue) {xs ys old new : List P} {which place : ℕ} (same_old : old ≡ xs) (same_new : new ≡ ys)
    (same_place : place ≡ which) where
  pub reported_as : {s t : SetupValue} {was is : List ℕ} {answer : Answer} → t ≡ s → RunsAgainst s was is (peered_by (map f xs) (map f ys)) which answer →
      RunsAgainst t was is (peered_by (map f old) (map f new)) place answer
  reported_as same_setup r = rw (same_old, same_new, same_place, same_setup) r

  pub keeps_as : KeepsPeers (Some which) (peered_by (map f xs) (map f ys)) → KeepsPeers (Some place) (peered_by (map f old) (map f new))
  keeps_as k = rw (same_old, same_new, same_place) k

  pub asked_as : {net own : NetValue} → own ≡ net → (Holds : (List ℕ → List ℕ) → Type 0) →
      WithNotesOf net (peered_by (map f xs) (map f ys)) which Holds → WithNotesOf own (peered_by (map f old) (map f new)) place Holds
  asked_as same_net Holds w = rw (same_old, same_new, same_place, same_net) w

pub objects_as : {D : Type 0} {Device : D → Type 0} (xs ys old new : List (DynBox D Global Device)) (which place : ℕ) → old ≡ xs → new ≡ ys →
    place ≡ which → SameObjects (Some which) xs ys → SameObjects (Some place) old new
objects_as xs ys old new which place same_old same_new same_place k = rw (same_old, same_new, same_place) k

pub holds_in : {X : Type 0} (xs : List X) (k : ℕ) (x : X) (Q : X → Type 0) → k < length xs → Q x → IfSome (slice_get (set xs k x) k) Q
holds_in xs k x Q within holds = subst (λ o. IfSome o Q) (sym (get_same xs k x within)) holds
