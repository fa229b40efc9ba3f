-- A step of the program is one of it in halves at the same place, or a first half one further inside, behind which comes a second one.
--
-- N, M: how many variables the program has, and with the hidden ones; c, d: a configuration of the program and of its halves; a: a place.
use Rattle.std.proofs.Common.{◌≡◌, ◌⊎◌, ℕ, ◌+◌, ◌-◌, ◌/◌, ◌%◌, ◌^◌, ◌<◌, ◌≤◌, Bool, true, false, List, [], ◌∷◌, ◌++◌, length, refl, sym, ap, ◌∙◌, subst, inl, inr, arith}
use Rattle.std.specs.Prelude.{if◌then◌else◌, ◌==◌, slice_index, slice_set, Some}
use Rattle.std.proofs.Math.Nat.{div-one, mod-eq_of_lt}
use Rattle.std.proofs.lemmas.List.{get_or-set_other, get_or-set_same, length-set}
use Rattle.std.proofs.lemmas.Bool.{cases_eq}
use Rattle.chp_base.specs.declared.span.Span.{Span}
use Rattle.env_script.specs.Scripts.{gives, takes, nothing, offer_at}
use Rattle.env_script.specs.Runs.{history_at}
use Rattle.width_check.specs.Processes.{Formula, Process, skipping, assigning, sending, receiving, choosing, repeating, no_members, and_member, Choices, and_choice}
use Rattle.width_check.specs.Values.{value, width_of}
use Rattle.width_check.proofs.Bounds.{value_fits, width_some}
use Rattle.width_check.specs.Sharing.{writes_var, reads_var, done_at, occurrences}
use Rattle.chp_meaning.specs.Terms.{Term, finished, active, opened, followed, Place, statement_at, with_left}
use Rattle.chp_meaning.specs.Steps.{Configuration, value_in, open_branches, one_fewer, leaving, storing, passing, offering, Step, a_skip, an_assignment, a_selection, a_turn, an_end, a_repetition, a_communication, a_delivery, an_arrival}
use Rattle.chp_meaning.specs.Halves.{read_through}
use Rattle.chp_meaning.proofs.Places.{In, still}
use Rattle.chp_meaning.proofs.Fitting.{Fits, places_apart, left_fits}
use Rattle.chp_meaning.proofs.Moves.{value_same, own_apart}
use Rattle.chp_meaning.proofs.Meeting.{step_fits}
use Rattle.chp_meaning.proofs.Alike.{ReadsBelow, Halving, Same, same_skip, same_assign, same_send, same_receive, same_choice, same_repeat, Like, alone, each_none, each_more, ChoicesLike, choice_none, choice_more, Alike, both_finished, at_second, like_opened, followed_alike, OthersKept, Pair, pair_same, pair_first, pair_second, behind, put_back}
use Rattle.chp_meaning.proofs.Halves.{Near}
use Rattle.net_pace.proofs.HalfPlaces.{inside, IsPlaced, Puts, Image, image, Assigns, next_half}

-- the step of the program's at the place, in halves
pub data Matched (N M : ℕ) (c d : Configuration) (a : Place) (after : Configuration) : Type 0 where
  at_once : {to : Configuration} → Step d a to → Near N M after to → Matched N M c d a after
  half_way : {to end : Configuration} → Step d (inside a) to → Near N M c to → Step to a end → Matched N M c d a after

-- values

same_value : (N M : ℕ) (c d : Configuration) → Near N M c d → (e : Formula) → ReadsBelow N e → value_in c e ≡ value_in d e
same_value N M c d n e below = value_same (slice_index c.store) (slice_index d.store) e (λ y t i. n.stores y (below y t i))

all_of_it : (v w : ℕ) → 1 ≤ w → v < 2 ^ w → v / 2 ^ 0 % 2 ^ (w - 1 + 1 - 0) ≡ v
all_of_it v w some small =
    let e : w - 1 + 1 - 0 ≡ w = omega arith in
    subst (λ k. v / 2 ^ 0 % 2 ^ k ≡ v) (sym e) (ap (λ n. n % 2 ^ w) (div-one v) ∙ mod-eq_of_lt small)

-- the branches whose guards are true

data EachIs (N M : ℕ) : List Process → List Process → Type 0 where
  is_none : EachIs N M [] []
  is_more : {p q : Process} {ps qs : List Process} → Like N M p q → EachIs N M ps qs → EachIs N M (p ∷ ps) (q ∷ qs)

open_same : (N M : ℕ) (c d : Configuration) → Near N M c d → {cs ds : Choices} → ChoicesLike N M cs ds → EachIs N M (open_branches c cs) (open_branches d ds)
open_same N M c d n choice_none = is_none
open_same N M c d n (choice_more {g = g} {p = p} {q = q} {cs = cs} {ds = ds} below l more) =
    subst (λ v. EachIs N M (open_branches c (and_choice g p cs)) (if v == 1 then q ∷ open_branches d ds else open_branches d ds))
    (same_value N M c d n g below)
    (by (value_in c g == 1) (open_same N M c d n more))
  where
    by : (b : Bool) → EachIs N M (open_branches c cs) (open_branches d ds) →
        EachIs N M (if b then p ∷ open_branches c cs else open_branches c cs) (if b then q ∷ open_branches d ds else open_branches d ds)
    by true rest = is_more l rest
    by false rest = rest

one_is : {N M : ℕ} {ps qs : List Process} {p : Process} → EachIs N M ps qs → ps ≡ p ∷ [] → (q : Process) × (qs ≡ q ∷ []) × Like N M p q
one_is is_none e = absurd (cc e)
one_is {N = N} {M = M} {p = p} (is_more {p = r} {q = q} l is_none) e = let same : r ≡ p = cc e in (q, refl, subst (λ z. Like N M z q) same l)
one_is (is_more l (is_more k rest)) e = absurd (cc e)

none_is : {N M : ℕ} {ps qs : List Process} → EachIs N M ps qs → ps ≡ [] → qs ≡ []
none_is is_none e = refl
none_is (is_more l rest) e = absurd (cc e)

-- stores

all_kept : (store : List ℕ) (t : Term) (a : Place) → OthersKept store store t a
all_kept store t a w p n h x at i = refl

-- a written variable is read at no other place
others_kept : (store : List ℕ) (t : Term) (a : Place) (q : Process) (y v : ℕ) (s : Span) → Fits t → statement_at t a ≡ Some q →
    In (occurrences q) (done_at (writes_var y) s) → OthersKept store (slice_set store y v) t a
others_kept store t a q y v s f on i w p n h x at j =
    get_or-set_other store y x v 0 (λ e. places_apart t w a p q f n h on (done_at (reads_var x) at) (done_at (writes_var y) s) j i e)

both_written : (N M x v : ℕ) (c d : Configuration) → Near N M c d → x < N → (y : ℕ) → y < N →
    slice_index (slice_set c.store x v) y ≡ slice_index (slice_set d.store x v) y
both_written N M x v c d n within y below = by (cases_eq y x)
  where
    by : (y ≡ x) ⊎ (y ≡ x → ⊥) → slice_index (slice_set c.store x v) y ≡ slice_index (slice_set d.store x v) y
    by (inl e) =
        let first : x < length c.store = let l = n.old_length in omega (arith, l, within) in
        let second : x < length d.store = let l = n.new_length in let m = n.more in omega (arith, l, m, within) in
        ap (λ k. slice_index (slice_set c.store x v) k) e
        ∙ (get_or-set_same c.store x v 0 first ∙ (sym (get_or-set_same d.store x v 0 second) ∙ sym (ap (λ k. slice_index (slice_set d.store x v) k) e)))
    by (inr ne) = get_or-set_other c.store x y v 0 ne ∙ (n.stores y below ∙ sym (get_or-set_other d.store x y v 0 ne))

-- statements that are no assignments have the same place in halves

abbrev is_assigning : Process → Bool
is_assigning (assigning x at e) = true
is_assigning _ = false

record Level (N M : ℕ) (old new : List ℕ) (t u : Term) (a : Place) (p : Process) : Type 0 where
  process : Process
  on : statement_at u a ≡ Some process
  same : Same N M p process
  put : Puts N M old new t u a a (λ l. l)

level : (N M : ℕ) (old new : List ℕ) (t u : Term) (a : Place) (p : Process) → is_assigning p ≡ false → Alike N M old new t u → statement_at t a ≡ Some p
    → Level N M old new t u a p
level N M old new t u a p calm alike on = let r = image alike a p on in by p calm r.place r.process r.on r.pair r.placed r.put
  where
    by : (p : Process) → is_assigning p ≡ false → (b : Place) (q : Process) → statement_at u b ≡ Some q → (pair : Pair N M old new p q)
        → IsPlaced pair a b → Puts N M old new t u a b (behind pair) → Level N M old new t u a p
    by p calm b q there (pair_same s) e put =
        record { process = q; on = subst (λ z. statement_at u z ≡ Some q) e there; same = s; put = subst (λ z. Puts N M old new t u a z (λ l. l)) e put }
    by p calm b q there (pair_first i) e put = absurd (cc calm)
    by p calm b q there (pair_second i v) e put = absurd (cc calm)

skip_is : {N M : ℕ} {q : Process} → Same N M skipping q → q ≡ skipping
skip_is same_skip = refl

send_is : {N M k : ℕ} {s : Span} {e : Formula} {q : Process} → Same N M (sending k s e) q → (q ≡ sending k s e) × ReadsBelow N e
send_is (same_send r) = (refl, r)

receive_is : {N M k x : ℕ} {s t : Span} {q : Process} → Same N M (receiving k s x t) q → (q ≡ receiving k s x t) × (x < N)
receive_is (same_receive x) = (refl, x)

choice_is : {N M : ℕ} {again : Bool} {cs : Choices} {q : Process} → Same N M (choosing again cs) q → (ds : Choices) × (q ≡ choosing again ds)
    × ChoicesLike N M cs ds
choice_is (same_choice {ds = ds} l) = (ds, refl, l)

repeat_is : {N M : ℕ} {p q : Process} → Same N M (repeating p) q → (r : Process) × (q ≡ repeating r) × Like N M p r
repeat_is (same_repeat {q = q} l) = (q, refl, l)

-- steps that leave the stores as they are
leave_both : (N M : ℕ) (c d : Configuration) → Near N M c d → (a : Place) (l m : Term) → Step c a (leaving c a l) → Step d a (leaving d a m) →
    Alike N M c.store d.store (with_left c.term a l) (with_left d.term a m) → Matched N M c d a (leaving c a l)
leave_both N M c d n a l m s u alike = at_once u (record {
  alike = alike;
  stores = n.stores;
  old_length = n.old_length;
  new_length = n.new_length;
  more = n.more;
  rests = n.rests;
  histories = n.histories;
  fits = step_fits n.fits s;
  new_fits = step_fits n.new_fits u;
})

-- assignments

write_both : (N M : ℕ) (c d : Configuration) → Near N M c d → (a : Place) (x : ℕ) (s : Span) (e f : Formula) → x < N →
    statement_at c.term a ≡ Some (assigning x s e) → statement_at d.term a ≡ Some (assigning x s f) → value_in d f ≡ value_in c e
    → Puts N M c.store d.store c.term d.term a a (λ l. l) → Matched N M c d a (storing (leaving c a finished) x (value_in c e))
write_both N M c d n a x s e f below on there same put =
    let v = value_in c e in
    let first : Step c a (storing (leaving c a finished) x v) = an_assignment on in
    let second : Step d a (storing (leaving d a finished) x v) = subst (λ w. Step d a (storing (leaving d a finished) x w)) same (an_assignment there) in
    at_once second (record {
      alike = put (slice_set c.store x v) (slice_set d.store x v) finished finished
          (others_kept c.store c.term a (assigning x s e) x v s n.fits on (inl refl))
          (others_kept d.store d.term a (assigning x s f) x v s n.new_fits there (inl refl)) both_finished;
      stores = both_written N M x v c d n below;
      old_length = length-set c.store x v ∙ n.old_length;
      new_length = length-set d.store x v ∙ n.new_length;
      more = n.more;
      rests = n.rests;
      histories = n.histories;
      fits = step_fits n.fits first;
      new_fits = step_fits n.new_fits second;
    })

-- a first half: the program's assignment is still to come
begin : (N M : ℕ) (c d after : Configuration) → Near N M c d → (a : Place) (x h : ℕ) (at : Span) (e : Formula) (i : Halving N M x h e) →
    statement_at c.term a ≡ Some (assigning x at e) → statement_at d.term (inside a) ≡ Some (assigning h at e)
    → Puts N M c.store d.store c.term d.term a (inside a) (λ m. followed m (and_member (assigning x at (read_through h e at)) no_members))
    → Matched N M c d a after
begin N M c d after n a x h at e i on there put =
    let next : Assigns (with_left d.term (inside a) finished) a = next_half n.alike a on there in
    half_way (an_assignment there) (record {
      alike = subst (λ t. Alike N M c.store (slice_set d.store h (value_in d e)) t (with_left d.term (inside a) finished))
          (put_back c.term a (assigning x at e) on)
          (put c.store (slice_set d.store h (value_in d e)) (active (assigning x at e)) finished (all_kept c.store c.term a)
          (others_kept d.store d.term (inside a) (assigning h at e) h (value_in d e) at n.new_fits there (inl refl)) (at_second i full));
      stores = λ y below. n.stores y below ∙ sym (get_or-set_other d.store h y (value_in d e) 0 (λ same. absurd (let k = i.hidden in omega arith)));
      old_length = n.old_length;
      new_length = length-set d.store h (value_in d e) ∙ n.new_length;
      more = n.more;
      rests = n.rests;
      histories = n.histories;
      fits = n.fits;
      new_fits = step_fits {c = d} {at = inside a} n.new_fits (an_assignment there);
    }) (an_assignment next.on)
  where
    full : value (slice_index (slice_set d.store h (value_in d e))) (read_through h e at) ≡ value (slice_index c.store) e
    full =
        let l : h < length d.store = let k = i.within in let m = n.new_length in omega arith in
        ap (λ v. v / 2 ^ 0 % 2 ^ (width_of e - 1 + 1 - 0)) (get_or-set_same d.store h (value_in d e) 0 l)
        ∙ (all_of_it (value_in d e) (width_of e) (width_some e i.formed) (value_fits (slice_index d.store) e i.formed)
        ∙ sym (same_value N M c d n e i.below))

assigned : (N M : ℕ) (c d : Configuration) → Near N M c d → (a : Place) (x : ℕ) (s : Span) (e : Formula) → statement_at c.term a ≡ Some (assigning x s e)
    → Image N M c.store d.store c.term d.term a (assigning x s e) → Matched N M c d a (storing (leaving c a finished) x (value_in c e))
assigned N M c d n a x s e on r = by x e on r.place r.process r.on r.pair r.placed r.put
  where
    by : (x : ℕ) (e : Formula) → statement_at c.term a ≡ Some (assigning x s e) → (b : Place) (q : Process) → statement_at d.term b ≡ Some q
        → (pair : Pair N M c.store d.store (assigning x s e) q) → IsPlaced pair a b → Puts N M c.store d.store c.term d.term a b (behind pair)
        → Matched N M c d a (storing (leaving c a finished) x (value_in c e))
    by x e on b q there (pair_same (same_assign below reads)) i put =
        write_both N M c d n a x s e e below on (subst (λ z. statement_at d.term z ≡ Some (assigning x s e)) i there) (sym (same_value N M c d n e reads))
        (subst (λ z. Puts N M c.store d.store c.term d.term a z (λ l. l)) i put)
    by x e on b q there (pair_first {h = h} k) i put =
        begin N M c d (storing (leaving c a finished) x (value_in c e)) n a x h s e k on
        (subst (λ z. statement_at d.term z ≡ Some (assigning h s e)) i there)
        (subst (λ z. Puts N M c.store d.store c.term d.term a z (λ m. followed m (and_member (assigning x s (read_through h e s)) no_members))) i put)
    by x e on b q there (pair_second {h = h} k v) i put =
        write_both N M c d n a x s e (read_through h e s) k.target on (subst (λ z. statement_at d.term z ≡ Some (assigning x s (read_through h e s))) i there) v
        (subst (λ z. Puts N M c.store d.store c.term d.term a z (λ l. l)) i put)

-- communications inside of the program
communicated : (N M : ℕ) (c d : Configuration) → Near N M c d → (a other : Place) (k x : ℕ) (s t u : Span) (e : Formula) →
    statement_at c.term a ≡ Some (sending k s e) → statement_at c.term other ≡ Some (receiving k t x u) → offer_at c.rests k ≡ nothing
    → Matched N M c d a (passing (storing (leaving (leaving c a finished) other finished) x (value_in c e)) k (value_in c e))
communicated N M c d n a other k x s t u e on there inner =
    let v = value_in c e in
    let first : Step c a (passing (storing (leaving (leaving c a finished) other finished) x v) k v) = a_communication other on there inner in
    let r = level N M c.store d.store c.term d.term a (sending k s e) refl n.alike on in
    let w = level N M c.store d.store c.term d.term other (receiving k t x u) refl n.alike there in
    let sends = send_is r.same in
    let hears = receive_is w.same in
    let on_d : statement_at d.term a ≡ Some (sending k s e) = r.on ∙ ap Some sends.0 in
    let there_d : statement_at d.term other ≡ Some (receiving k t x u) = w.on ∙ ap Some hears.0 in
    let second : Step d a (passing (storing (leaving (leaving d a finished) other finished) x v) k v) =
    subst (λ z. Step d a (passing (storing (leaving (leaving d a finished) other finished) x z) k z)) (sym (same_value N M c d n e sends.1))
    (a_communication other on_d there_d (sym (ap (λ z. offer_at z k) n.rests) ∙ inner)) in
    let left_c = with_left c.term a finished in
    let left_d = with_left d.term a finished in
    let alike : Alike N M c.store d.store left_c left_d =
    r.put c.store d.store finished finished (all_kept c.store c.term a) (all_kept d.store d.term a) both_finished in
    let fits_c : Fits left_c = left_fits c.term a finished (sending k s e) n.fits on tt (λ z h. absurd h) in
    let fits_d : Fits left_d = left_fits d.term a finished (sending k s e) n.new_fits on_d tt (λ z h. absurd h) in
    let still_c : statement_at left_c other ≡ Some (receiving k t x u) = still c.term a other finished (receiving k t x u) (own_apart first other refl) there in
    let z = level N M c.store d.store left_c left_d other (receiving k t x u) refl alike still_c in
    let still_d : statement_at left_d other ≡ Some (receiving k t x u) = z.on ∙ ap Some (receive_is z.same).0 in
    at_once second (record {
      alike = z.put (slice_set c.store x v) (slice_set d.store x v) finished finished
          (others_kept c.store left_c other (receiving k t x u) x v u fits_c still_c (inr (inl refl)))
          (others_kept d.store left_d other (receiving k t x u) x v u fits_d still_d (inr (inl refl))) both_finished;
      stores = both_written N M x v c d n hears.1;
      old_length = length-set c.store x v ∙ n.old_length;
      new_length = length-set d.store x v ∙ n.new_length;
      more = n.more;
      rests = n.rests;
      histories = ap (λ hs. slice_set hs k (history_at hs k ++ v ∷ [])) n.histories;
      fits = step_fits n.fits first;
      new_fits = step_fits n.new_fits second;
    })

pub matched : (N M : ℕ) {c d e : Configuration} {a : Place} → Near N M c d → Step c a e → Matched N M c d a e
matched N M {c = c} {d = d} {a = a} n (a_skip on) =
    let r = level N M c.store d.store c.term d.term a skipping refl n.alike on in
    leave_both N M c d n a finished finished (a_skip on) (a_skip (r.on ∙ ap Some (skip_is r.same)))
    (r.put c.store d.store finished finished (all_kept c.store c.term a) (all_kept d.store d.term a) both_finished)
matched N M {c = c} {d = d} {a = a} n (an_assignment {x = x} {s = s} {e = e} on) =
    assigned N M c d n a x s e on (image n.alike a (assigning x s e) on)
matched N M {c = c} {d = d} {a = a} n (a_selection {choices = cs} {p = p} on true_ones) =
    let r = level N M c.store d.store c.term d.term a (choosing false cs) refl n.alike on in
    let ds = choice_is r.same in
    let q = one_is (open_same N M c d n ds.2) true_ones in
    leave_both N M c d n a (opened p) (opened q.0) (a_selection on true_ones) (a_selection (r.on ∙ ap Some ds.1) q.1)
    (r.put c.store d.store (opened p) (opened q.0) (all_kept c.store c.term a) (all_kept d.store d.term a) (like_opened q.2))
matched N M {c = c} {d = d} {a = a} n (a_turn {choices = cs} {p = p} on true_ones) =
    let r = level N M c.store d.store c.term d.term a (choosing true cs) refl n.alike on in
    let ds = choice_is r.same in
    let q = one_is (open_same N M c d n ds.2) true_ones in
    let l = followed (opened p) (and_member (choosing true cs) no_members) in
    let m = followed (opened q.0) (and_member (choosing true ds.0) no_members) in
    leave_both N M c d n a l m (a_turn on true_ones) (a_turn (r.on ∙ ap Some ds.1) q.1)
    (r.put c.store d.store l m (all_kept c.store c.term a) (all_kept d.store d.term a)
    (followed_alike (like_opened q.2) (each_more (alone (same_choice ds.2)) each_none)))
matched N M {c = c} {d = d} {a = a} n (an_end {choices = cs} on true_ones) =
    let r = level N M c.store d.store c.term d.term a (choosing true cs) refl n.alike on in
    let ds = choice_is r.same in
    leave_both N M c d n a finished finished (an_end on true_ones) (an_end (r.on ∙ ap Some ds.1) (none_is (open_same N M c d n ds.2) true_ones))
    (r.put c.store d.store finished finished (all_kept c.store c.term a) (all_kept d.store d.term a) both_finished)
matched N M {c = c} {d = d} {a = a} n (a_repetition {p = p} on) =
    let r = level N M c.store d.store c.term d.term a (repeating p) refl n.alike on in
    let q = repeat_is r.same in
    let l = followed (opened p) (and_member (repeating p) no_members) in
    let m = followed (opened q.0) (and_member (repeating q.0) no_members) in
    leave_both N M c d n a l m (a_repetition on) (a_repetition (r.on ∙ ap Some q.1))
    (r.put c.store d.store l m (all_kept c.store c.term a) (all_kept d.store d.term a)
    (followed_alike (like_opened q.2) (each_more (alone (same_repeat q.2)) each_none)))
matched N M {c = c} {d = d} {a = a} n (a_communication other {k = k} {x = x} {s = s} {t = t} {u = u} {e = e} on there inner) =
    communicated N M c d n a other k x s t u e on there inner
matched N M {c = c} {d = d} {a = a} n (a_delivery {k = k} {s = s} {e = e} {count = count} on offered more) =
    let r = level N M c.store d.store c.term d.term a (sending k s e) refl n.alike on in
    let sends = send_is r.same in
    let v = value_in c e in
    let first : Step c a (passing (offering (leaving c a finished) k (takes (one_fewer count))) k v) = a_delivery on offered more in
    let second : Step d a (passing (offering (leaving d a finished) k (takes (one_fewer count))) k v) =
    subst (λ z. Step d a (passing (offering (leaving d a finished) k (takes (one_fewer count))) k z)) (sym (same_value N M c d n e sends.1))
    (a_delivery (r.on ∙ ap Some sends.0) (sym (ap (λ z. offer_at z k) n.rests) ∙ offered) more) in
    at_once second (record {
      alike = r.put c.store d.store finished finished (all_kept c.store c.term a) (all_kept d.store d.term a) both_finished;
      stores = n.stores;
      old_length = n.old_length;
      new_length = n.new_length;
      more = n.more;
      rests = ap (λ z. slice_set z k (takes (one_fewer count))) n.rests;
      histories = ap (λ hs. slice_set hs k (history_at hs k ++ v ∷ [])) n.histories;
      fits = step_fits n.fits first;
      new_fits = step_fits n.new_fits second;
    })
matched N M {c = c} {d = d} {a = a} n (an_arrival {k = k} {x = x} {v = v} {s = s} {t = t} {more = more} on offered) =
    let r = level N M c.store d.store c.term d.term a (receiving k s x t) refl n.alike on in
    let hears = receive_is r.same in
    let on_d : statement_at d.term a ≡ Some (receiving k s x t) = r.on ∙ ap Some hears.0 in
    let first : Step c a (passing (storing (offering (leaving c a finished) k (gives more)) x v) k v) = an_arrival on offered in
    let second : Step d a (passing (storing (offering (leaving d a finished) k (gives more)) x v) k v) =
    an_arrival on_d (sym (ap (λ z. offer_at z k) n.rests) ∙ offered) in
    at_once second (record {
      alike = r.put (slice_set c.store x v) (slice_set d.store x v) finished finished
          (others_kept c.store c.term a (receiving k s x t) x v t n.fits on (inr (inl refl)))
          (others_kept d.store d.term a (receiving k s x t) x v t n.new_fits on_d (inr (inl refl))) both_finished;
      stores = both_written N M x v c d n hears.1;
      old_length = length-set c.store x v ∙ n.old_length;
      new_length = length-set d.store x v ∙ n.new_length;
      more = n.more;
      rests = ap (λ z. slice_set z k (gives more)) n.rests;
      histories = ap (λ hs. slice_set hs k (history_at hs k ++ v ∷ [])) n.histories;
      fits = step_fits n.fits first;
      new_fits = step_fits n.new_fits second;
    })
