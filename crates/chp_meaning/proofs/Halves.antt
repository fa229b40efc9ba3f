-- A run of a program goes along with each run of the program in halves.
use Rattle.std.proofs.Common.{◌≡◌, ◌≢◌, ◌⊎◌, ℕ, ◌+◌, ◌-◌, ◌/◌, ◌%◌, ◌^◌, ◌<◌, ◌≤◌, Bool, true, false, List, [], ◌∷◌, ◌++◌, length, refl, sym, ap, ◌∙◌, subst, inl, inr, arith}
use Rattle.std.specs.Prelude.{if◌then◌else◌, ◌==◌, slice_index, slice_set, Some}
use Rattle.std.proofs.Math.Nat.{div-one, mod-eq_of_lt}
use Rattle.std.proofs.lemmas.List.{get_or-set_other, get_or-set_same, length-set}
use Rattle.std.proofs.lemmas.Bool.{cases_eq}
use Rattle.chp_base.specs.declared.span.Span.{Span}
use Rattle.env_script.specs.Scripts.{gives, takes, nothing, offer_at}
use Rattle.env_script.specs.Runs.{history_at}
use Rattle.width_check.specs.Processes.{Formula, Process, skipping, assigning, sending, receiving, choosing, repeating, no_members, and_member, Choices, and_choice}
use Rattle.width_check.specs.Values.{value, width_of}
use Rattle.width_check.proofs.Bounds.{value_fits, width_some}
use Rattle.width_check.specs.Sharing.{reads_var, writes_var, receives_on, done_at, occurrences}
use Rattle.chp_meaning.specs.Terms.{Term, finished, active, opened, followed, Place, statement_at, with_left}
use Rattle.chp_meaning.specs.Steps.{Configuration, value_in, open_branches, one_fewer, leaving, storing, passing, offering, Step, a_skip, an_assignment, a_selection, a_turn, an_end, a_repetition, a_communication, a_delivery, an_arrival, Leads, no_step, one_step}
use Rattle.chp_meaning.specs.Ends.{CanStep}
use Rattle.chp_meaning.specs.Halves.{read_through, IsAbreast}
use Rattle.chp_meaning.proofs.Places.{In, same_place, still}
use Rattle.chp_meaning.proofs.Fitting.{Fits, places_apart, left_fits}
use Rattle.chp_meaning.proofs.Moves.{value_same, own_apart}
use Rattle.chp_meaning.proofs.Meeting.{step_fits, lead_on}
use Rattle.chp_meaning.proofs.Alike.{ReadsBelow, Halving, Same, same_skip, same_assign, same_send, same_receive, same_choice, same_repeat, Like, alone, each_none, each_more, ChoicesLike, choice_none, choice_more, Alike, both_finished, at_second, ends_alike, ends_before, like_opened, followed_alike, OthersKept, Pair, pair_same, pair_first, pair_second, behind, find, standing, put_back}

-- the program stands like the program in halves, of which numbers below N are the program's variables
pub record Near (N M : ℕ) (c d : Configuration) : Type 0 where
  pub alike : Alike N M c.store d.store c.term d.term
  pub stores : (x : ℕ) → x < N → slice_index c.store x ≡ slice_index d.store x
  pub old_length : length c.store ≡ N
  pub new_length : length d.store ≡ M
  pub more : N ≤ M
  pub rests : c.rests ≡ d.rests
  pub histories : c.histories ≡ d.histories
  pub fits : Fits c.term
  pub new_fits : Fits d.term

-- at the place an assignment to a hidden variable stands
pub record IsFirst (N : ℕ) (d : Configuration) (b : Place) : Type 0 where
  pub var : ℕ
  pub at : Span
  pub from : Formula
  pub stands : statement_at d.term b ≡ Some (assigning var at from)
  pub hidden : N ≤ var
  pub below : ReadsBelow N from

-- no step, of such an assignment, or one, and it stands so again
pub record Followed (N M : ℕ) (c : Configuration) (first : Type 0) (d : Configuration) : Type 0 where
  pub to : Configuration
  pub steps : ℕ
  pub few : steps ≤ 1
  pub none : steps ≡ 0 → first
  pub leads : Leads c steps to
  pub near : Near N M to d

-- values

values_near : (N M : ℕ) (c d : Configuration) → Near N M c d → (e : Formula) → ReadsBelow N e → value_in c e ≡ value_in d e
values_near N M c d n e below = value_same (slice_index c.store) (slice_index d.store) e (λ y t i. n.stores y (below y t i))

whole_value : (v w : ℕ) → 1 ≤ w → v < 2 ^ w → v / 2 ^ 0 % 2 ^ (w - 1 + 1 - 0) ≡ v
whole_value v w some small =
    let e : w - 1 + 1 - 0 ≡ w = omega arith in
    subst (λ k. v / 2 ^ 0 % 2 ^ k ≡ v) (sym e) (ap (λ n. n % 2 ^ w) (div-one v) ∙ mod-eq_of_lt small)

-- the branches whose guards are true

data AllLike (N M : ℕ) : List Process → List Process → Type 0 where
  like_none : AllLike N M [] []
  like_more : {p q : Process} {ps qs : List Process} → Like N M p q → AllLike N M ps qs → AllLike N M (p ∷ ps) (q ∷ qs)

open_alike : (N M : ℕ) (c d : Configuration) → Near N M c d → {cs ds : Choices} → ChoicesLike N M cs ds → AllLike N M (open_branches c cs) (open_branches d ds)
open_alike N M c d n choice_none = like_none
open_alike N M c d n (choice_more {g = g} {p = p} {q = q} {cs = cs} {ds = ds} below l more) =
    subst (λ v. AllLike N M (open_branches c (and_choice g p cs)) (if v == 1 then q ∷ open_branches d ds else open_branches d ds))
    (values_near N M c d n g below)
    (by_test (value_in c g == 1) (open_alike N M c d n more))
  where
    by_test : (b : Bool) → AllLike N M (open_branches c cs) (open_branches d ds) →
        AllLike N M (if b then p ∷ open_branches c cs else open_branches c cs) (if b then q ∷ open_branches d ds else open_branches d ds)
    by_test true rest = like_more l rest
    by_test false rest = rest

one_before : {N M : ℕ} {ps qs : List Process} {q : Process} → AllLike N M ps qs → qs ≡ q ∷ [] → (p : Process) × (ps ≡ p ∷ []) × Like N M p q
one_before like_none e = absurd (cc e)
one_before {N = N} {M = M} {q = q} (like_more {p = p} {q = r} l like_none) e = let same : r ≡ q = cc e in (p, refl, subst (λ z. Like N M p z) same l)
one_before (like_more l (like_more k rest)) e = absurd (cc e)

one_after : {N M : ℕ} {ps qs : List Process} {p : Process} → AllLike N M ps qs → ps ≡ p ∷ [] → (q : Process) × (qs ≡ q ∷ []) × Like N M p q
one_after like_none e = absurd (cc e)
one_after {N = N} {M = M} {p = p} (like_more {p = r} {q = q} l like_none) e = let same : r ≡ p = cc e in (q, refl, subst (λ z. Like N M z q) same l)
one_after (like_more l (like_more k rest)) e = absurd (cc e)

none_before : {N M : ℕ} {ps qs : List Process} → AllLike N M ps qs → qs ≡ [] → ps ≡ []
none_before like_none e = refl
none_before (like_more l rest) e = absurd (cc e)

none_after : {N M : ℕ} {ps qs : List Process} → AllLike N M ps qs → ps ≡ [] → qs ≡ []
none_after like_none e = refl
none_after (like_more l rest) e = absurd (cc e)

-- stores

nothing_kept : (store : List ℕ) (t : Term) (a : Place) → OthersKept store store t a
nothing_kept store t a w p n h x at i = refl

-- a written variable is read at no other place
write_kept : (store : List ℕ) (t : Term) (a : Place) (q : Process) (y v : ℕ) (s : Span) → Fits t → statement_at t a ≡ Some q →
    In (occurrences q) (done_at (writes_var y) s) → OthersKept store (slice_set store y v) t a
write_kept store t a q y v s f on i w p n h x at j =
    get_or-set_other store y x v 0 (λ e. places_apart t w a p q f n h on (done_at (reads_var x) at) (done_at (writes_var y) s) j i e)

written_both : (old new : List ℕ) (N x v : ℕ) → x < length old → x < length new → ((y : ℕ) → y < N → slice_index old y ≡ slice_index new y) → (y : ℕ) → y < N →
    slice_index (slice_set old x v) y ≡ slice_index (slice_set new x v) y
written_both old new N x v first second same y below = by_number (cases_eq y x)
  where
    by_number : (y ≡ x) ⊎ (y ≡ x → ⊥) → slice_index (slice_set old x v) y ≡ slice_index (slice_set new x v) y
    by_number (inl e) = ap (λ k. slice_index (slice_set old x v) k) e
        ∙ (get_or-set_same old x v 0 first ∙ (sym (get_or-set_same new x v 0 second) ∙ sym (ap (λ k. slice_index (slice_set new x v) k) e)))
    by_number (inr n) = get_or-set_other old x y v 0 n ∙ (same y below ∙ sym (get_or-set_other new x y v 0 n))

-- steps that leave the stores as they are
quiet : {first : Type 0} (N M : ℕ) (c d : Configuration) → Near N M c d → (a b : Place) (l m : Term) → Step c a (leaving c a l) → Step d b (leaving d b m) →
    Alike N M c.store d.store (with_left c.term a l) (with_left d.term b m) → Followed N M c first (leaving d b m)
quiet N M c d n a b l m s u alike = record {
  to = leaving c a l;
  steps = 1;
  few = omega arith;
  none = λ z. absurd (cc z);
  leads = one_step s no_step;
  near = record {
    alike = alike;
    stores = n.stores;
    old_length = n.old_length;
    new_length = n.new_length;
    more = n.more;
    rests = n.rests;
    histories =
        n.histories;
    fits = step_fits n.fits s;
    new_fits = step_fits n.new_fits u;
  };
}

-- both write one value
wrote : {first : Type 0} (N M : ℕ) (c d : Configuration) → Near N M c d → (a b : Place) (x v : ℕ) → x < N → Step c a (storing (leaving c a finished) x v) →
    Step d b (storing (leaving d b finished) x v) →
    Alike N M (slice_set c.store x v) (slice_set d.store x v) (with_left c.term a finished) (with_left d.term b finished) →
    Followed N M c first (storing (leaving d b finished) x v)
wrote N M c d n a b x v below s u alike = record {
  to = storing (leaving c a finished) x v;
  steps = 1;
  few = omega arith;
  none = λ z. absurd (cc z);
  leads = one_step s no_step;
  near = record {
    alike = alike;
    stores = written_both c.store d.store N x v (let l = n.old_length in omega arith) (let l = n.new_length in let m = n.more in omega arith) n.stores;
    old_length = length-set c.store x v ∙ n.old_length;
    new_length = length-set d.store x v ∙ n.new_length;
    more = n.more;
    rests = n.rests;
    histories = n.histories;
    fits = step_fits n.fits s;
    new_fits = step_fits n.new_fits u;
  };
}

-- a first half: the program makes no step
begun : (N M : ℕ) (c d : Configuration) → Near N M c d → (b : Place) (x h : ℕ) (at : Span) (e : Formula) (i : Halving N M x h e) →
    statement_at d.term b ≡ Some (assigning h at e) → (a : Place) → statement_at c.term a ≡ Some (assigning x at e)
    → ((old' new' : List ℕ) (l m : Term) → OthersKept c.store old' c.term a → OthersKept d.store new' d.term b →
    Alike N M old' new' l (followed m (and_member (assigning x at (read_through h e at)) no_members)) →
    Alike N M old' new' (with_left c.term a l) (with_left d.term b m))
    → Followed N M c (IsFirst N d b) (storing (leaving d b finished) h (value_in d e))
begun N M c d n b x h at e i there a on put = record {
  to = c;
  steps = 0;
  few = omega arith;
  none = λ z. record { var = h; at = at; from = e; stands = there; hidden = i.hidden; below = i.below };
  leads = no_step;
  near = record {
    alike = subst (λ t. Alike N M c.store (slice_set d.store h (value_in d e)) t (with_left d.term b finished)) (put_back c.term a (assigning x at e) on)
        (put c.store (slice_set d.store h (value_in d e)) (active (assigning x at e)) finished (nothing_kept c.store c.term a)
        (write_kept d.store d.term b (assigning h at e) h (value_in d e) at n.new_fits there (inl refl)) (at_second i full));
    stores = λ y below. n.stores y below ∙ sym (get_or-set_other d.store h y (value_in d e) 0 (λ same. absurd (let k = i.hidden in omega arith)));
    old_length = n.old_length;
    new_length = length-set d.store h (value_in d e) ∙ n.new_length;
    more = n.more;
    rests = n.rests;
    histories = n.histories;
    fits = n.fits;
    new_fits = step_fits {c = d} {at = b} n.new_fits (an_assignment there);
  };
}
  where
    full : value (slice_index (slice_set d.store h (value_in d e))) (read_through h e at) ≡ value (slice_index c.store) e
    full =
        let l : h < length d.store = let k = i.within in let m = n.new_length in omega arith in
        ap (λ v. v / 2 ^ 0 % 2 ^ (width_of e - 1 + 1 - 0)) (get_or-set_same d.store h (value_in d e) 0 l)
        ∙ (whole_value (value_in d e) (width_of e) (width_some e i.formed) (value_fits (slice_index d.store) e i.formed)
        ∙ sym (values_near N M c d n e i.below))

-- statements that are no assignments go along with their own kind

abbrev is_assigning : Process → Bool
is_assigning (assigning x at e) = true
is_assigning _ = false

same_of : {N M : ℕ} {old new : List ℕ} {p q : Process} → Pair N M old new p q → is_assigning p ≡ false → Same N M p q
same_of (pair_same s) e = s
same_of (pair_first i) e = absurd (cc e)
same_of (pair_second i v) e = absurd (cc e)

record Plainly (N M : ℕ) (old new : List ℕ) (t u : Term) (b : Place) (q : Process) : Type 0 where
  place : Place
  process : Process
  on : statement_at t place ≡ Some process
  same : Same N M process q
  put : (old' new' : List ℕ) (l m : Term) → OthersKept old old' t place → OthersKept new new' u b → Alike N M old' new' l m →
      Alike N M old' new' (with_left t place l) (with_left u b m)

plainly_by : (N M : ℕ) (old new : List ℕ) (t u : Term) (b : Place) (q : Process) → is_assigning q ≡ false → (w : Place) (p : Process) →
    statement_at t w ≡ Some p → (pair : Pair N M old new p q)
    → ((old' new' : List ℕ) (l m : Term) → OthersKept old old' t w → OthersKept new new' u b → Alike N M old' new' l (behind pair m) →
    Alike N M old' new' (with_left t w l) (with_left u b m)) → Plainly N M old new t u b q
plainly_by N M old new t u b q calm w p there (pair_same s) put = record { place = w; process = p; on = there; same = s; put = put }
plainly_by N M old new t u b q calm w p there (pair_first i) put = absurd (cc calm)
plainly_by N M old new t u b q calm w p there (pair_second i v) put = absurd (cc calm)

plainly : (N M : ℕ) (old new : List ℕ) (t u : Term) (b : Place) (q : Process) → is_assigning q ≡ false → Alike N M old new t u → statement_at u b ≡ Some q →
    Plainly N M old new t u b q
plainly N M old new t u b q calm a on = let r = find a b q on in plainly_by N M old new t u b q calm r.place r.process r.on r.pair r.put

skip_before : {N M : ℕ} {p : Process} → Same N M p skipping → p ≡ skipping
skip_before same_skip = refl

skip_after : {N M : ℕ} {q : Process} → Same N M skipping q → q ≡ skipping
skip_after same_skip = refl

send_before : {N M k : ℕ} {s : Span} {e : Formula} {p : Process} → Same N M p (sending k s e) → (p ≡ sending k s e) × ReadsBelow N e
send_before (same_send r) = (refl, r)

send_after : {N M k : ℕ} {s : Span} {e : Formula} {q : Process} → Same N M (sending k s e) q → (q ≡ sending k s e) × ReadsBelow N e
send_after (same_send r) = (refl, r)

receive_before : {N M k x : ℕ} {s t : Span} {p : Process} → Same N M p (receiving k s x t) → (p ≡ receiving k s x t) × (x < N)
receive_before (same_receive x) = (refl, x)

receive_after : {N M k x : ℕ} {s t : Span} {q : Process} → Same N M (receiving k s x t) q → (q ≡ receiving k s x t) × (x < N)
receive_after (same_receive x) = (refl, x)

choice_before : {N M : ℕ} {again : Bool} {ds : Choices} {p : Process} → Same N M p (choosing again ds) → (cs : Choices) × (p ≡ choosing again cs)
    × ChoicesLike N M cs ds
choice_before (same_choice {cs = cs} l) = (cs, refl, l)

choice_after : {N M : ℕ} {again : Bool} {cs : Choices} {q : Process} → Same N M (choosing again cs) q → (ds : Choices) × (q ≡ choosing again ds)
    × ChoicesLike N M cs ds
choice_after (same_choice {ds = ds} l) = (ds, refl, l)

repeat_before : {N M : ℕ} {q p : Process} → Same N M p (repeating q) → (r : Process) × (p ≡ repeating r) × Like N M r q
repeat_before (same_repeat {p = p} l) = (p, refl, l)

repeat_after : {N M : ℕ} {p q : Process} → Same N M (repeating p) q → (r : Process) × (q ≡ repeating r) × Like N M p r
repeat_after (same_repeat {q = q} l) = (q, refl, l)

-- a step of the program in halves, by the statement that it is of

assigned : {first : Type 0} (N M : ℕ) (c d : Configuration) → Near N M c d → (a b : Place) (x : ℕ) (s : Span) (e f : Formula) → x < N →
    statement_at c.term a ≡ Some (assigning x s e) → statement_at d.term b ≡ Some (assigning x s f) → value_in c e ≡ value_in d f
    → ((old' new' : List ℕ) (l m : Term) → OthersKept c.store old' c.term a → OthersKept d.store new' d.term b → Alike N M old' new' l m →
    Alike N M old' new' (with_left c.term a l) (with_left d.term b m))
    → Followed N M c first (storing (leaving d b finished) x (value_in d f))
assigned N M c d n a b x s e f below on there same put =
    let v = value_in d f in
    let first : Step c a (storing (leaving c a finished) x v) = subst (λ w. Step c a (storing (leaving c a finished) x w)) same (an_assignment on) in
    wrote N M c d n a b x v below first (an_assignment there)
    (put (slice_set c.store x v) (slice_set d.store x v) finished finished
    (write_kept c.store c.term a (assigning x s e) x v s n.fits on (inl refl)) (write_kept d.store d.term b (assigning x s f) x v s n.new_fits there (inl refl))
    both_finished)

assign_by : (N M : ℕ) (c d : Configuration) → Near N M c d → (a b : Place) (x : ℕ) (s : Span) (e : Formula) (p : Process) → statement_at c.term a ≡ Some p →
    statement_at d.term b ≡ Some (assigning x s e) → (pair : Pair N M c.store d.store p (assigning x s e))
    → ((old' new' : List ℕ) (l m : Term) → OthersKept c.store old' c.term a → OthersKept d.store new' d.term b → Alike N M old' new' l (behind pair m) →
    Alike N M old' new' (with_left c.term a l) (with_left d.term b m))
    → Followed N M c (IsFirst N d b) (storing (leaving d b finished) x (value_in d e))
assign_by N M c d n a b x s e p on there (pair_same (same_assign below reads)) put =
    assigned N M c d n a b x s e e below on there (values_near N M c d n e reads) put
assign_by N M c d n a b x s e p on there (pair_first {x = y} i) put = begun N M c d n b y x s e i there a on put
assign_by N M c d n a b x s e p on there (pair_second {h = h} {e = f} i v) put = assigned N M c d n a b x s f (read_through h f s) i.target on there (sym v) put

communicated : {first : Type 0} (N M : ℕ) (c d : Configuration) → Near N M c d → (b other : Place) (k x : ℕ) (s t u : Span) (e : Formula) →
    statement_at d.term b ≡ Some (sending k s e) → statement_at d.term other ≡ Some (receiving k t x u) → offer_at d.rests k ≡ nothing
    → Followed N M c first (passing (storing (leaving (leaving d b finished) other finished) x (value_in d e)) k (value_in d e))
communicated N M c d n b other k x s t u e on there inside =
    let step : Step d b (passing (storing (leaving (leaving d b finished) other finished) x (value_in d e)) k (value_in d e)) =
    a_communication other on there inside in
    let r = plainly N M c.store d.store c.term d.term b (sending k s e) refl n.alike on in
    let sends = send_before r.same in
    let on_c : statement_at c.term r.place ≡ Some (sending k s e) = r.on ∙ ap Some sends.0 in
    let left_c = with_left c.term r.place finished in
    let left_d = with_left d.term b finished in
    let alike : Alike N M c.store d.store left_c left_d =
    r.put c.store d.store finished finished (nothing_kept c.store c.term r.place) (nothing_kept d.store d.term b) both_finished in
    let fits_c : Fits left_c = left_fits c.term r.place finished (sending k s e) n.fits on_c tt (λ z h. absurd h) in
    let fits_d : Fits left_d = left_fits d.term b finished (sending k s e) n.new_fits on tt (λ z h. absurd h) in
    let there_d : statement_at left_d other ≡ Some (receiving k t x u) = still d.term b other finished (receiving k t x u) (own_apart step other refl) there in
    let o = plainly N M c.store d.store c.term d.term other (receiving k t x u) refl n.alike there in
    let hears : statement_at c.term o.place ≡ Some (receiving k t x u) = o.on ∙ ap Some (receive_before o.same).0 in
    let w = plainly N M c.store d.store left_c left_d other (receiving k t x u) refl alike there_d in
    let below = (receive_before w.same).1 in
    let there_c : statement_at left_c w.place ≡ Some (receiving k t x u) = w.on ∙ ap Some (receive_before w.same).0 in
    let apart : r.place ≢ o.place = λ same. absurd (cc (sym (ap (λ z. statement_at c.term z) same) ∙ on_c, hears)) in
    let hears_left : statement_at left_c o.place ≡ Some (receiving k t x u) = still c.term r.place o.place finished (receiving k t x u) apart hears in
    let one : w.place ≡ o.place = one_place left_c w.place o.place fits_c there_c hears_left (same_place w.place o.place) in
    let on_w : statement_at c.term w.place ≡ Some (receiving k t x u) = subst (λ z. statement_at c.term z ≡ Some (receiving k t x u)) (sym one) hears in
    let same : value_in c e ≡ value_in d e = values_near N M c d n e sends.1 in
    let v = value_in d e in
    let first : Step c r.place (passing (storing (leaving (leaving c r.place finished) w.place finished) x v) k v) =
    subst (λ z. Step c r.place (passing (storing (leaving (leaving c r.place finished) w.place finished) x z) k z)) same
    (a_communication w.place on_c on_w (ap (λ z. offer_at z k) n.rests ∙ inside)) in
    record {
      to = passing (storing (leaving (leaving c r.place finished) w.place finished) x v) k v;
      steps = 1;
      few = omega arith;
      none = λ z. absurd (cc z);
      leads = one_step first no_step;
      near = record {
        alike = w.put (slice_set c.store x v) (slice_set d.store x v) finished finished
            (write_kept c.store left_c w.place (receiving k t x u) x v u fits_c there_c (inr (inl refl)))
            (write_kept d.store left_d other (receiving k t x u) x v u fits_d there_d (inr (inl refl))) both_finished;
        stores = written_both c.store d.store N x v (let l = n.old_length in omega arith) (let l = n.new_length in let m = n.more in omega arith) n.stores;
        old_length = length-set c.store x v ∙ n.old_length;
        new_length = length-set d.store x v ∙ n.new_length;
        more = n.more;
        rests = n.rests;
        histories = ap (λ hs. slice_set hs k (history_at hs k ++ v ∷ [])) n.histories;
        fits = step_fits n.fits first;
        new_fits = step_fits n.new_fits step;
      };
    }
  where
    one_place : (l : Term) (w o : Place) → Fits l → statement_at l w ≡ Some (receiving k t x u) → statement_at l o ≡ Some (receiving k t x u) →
        (w ≡ o) ⊎ (w ≢ o) → w ≡ o
    one_place l w o f g h (inl same) = same
    one_place l w o f g h (inr ne) = absurd (places_apart l w o (receiving k t x u) (receiving k t x u) f ne g h (done_at (receives_on k) t)
        (done_at (receives_on k) t) (inl refl) (inl refl) refl)

pub follow : (N M : ℕ) {c d e : Configuration} {b : Place} → Near N M c d → Step d b e → Followed N M c (IsFirst N d b) e
follow N M {c = c} {d = d} {b = b} n (a_skip on) =
    let r = plainly N M c.store d.store c.term d.term b skipping refl n.alike on in
    quiet N M c d n r.place b finished finished (a_skip (r.on ∙ ap Some (skip_before r.same))) (a_skip on)
    (r.put c.store d.store finished finished (nothing_kept c.store c.term r.place) (nothing_kept d.store d.term b) both_finished)
follow N M {c = c} {d = d} {b = b} n (an_assignment {x = x} {s = s} {e = e} on) =
    let r = find n.alike b (assigning x s e) on in
    assign_by N M c d n r.place b x s e r.process r.on on r.pair r.put
follow N M {c = c} {d = d} {b = b} n (a_selection {choices = ds} {p = q} on true_ones) =
    let r = plainly N M c.store d.store c.term d.term b (choosing false ds) refl n.alike on in
    let cs = choice_before r.same in
    let p = one_before (open_alike N M c d n cs.2) true_ones in
    quiet N M c d n r.place b (opened p.0) (opened q) (a_selection (r.on ∙ ap Some cs.1) p.1) (a_selection on true_ones)
    (r.put c.store d.store (opened p.0) (opened q) (nothing_kept c.store c.term r.place) (nothing_kept d.store d.term b) (like_opened p.2))
follow N M {c = c} {d = d} {b = b} n (a_turn {choices = ds} {p = q} on true_ones) =
    let r = plainly N M c.store d.store c.term d.term b (choosing true ds) refl n.alike on in
    let cs = choice_before r.same in
    let p = one_before (open_alike N M c d n cs.2) true_ones in
    let l = followed (opened p.0) (and_member (choosing true cs.0) no_members) in
    let m = followed (opened q) (and_member (choosing true ds) no_members) in
    quiet N M c d n r.place b l m (a_turn (r.on ∙ ap Some cs.1) p.1) (a_turn on true_ones)
    (r.put c.store d.store l m (nothing_kept c.store c.term r.place) (nothing_kept d.store d.term b)
    (followed_alike (like_opened p.2) (each_more (alone (same_choice cs.2)) each_none)))
follow N M {c = c} {d = d} {b = b} n (an_end {choices = ds} on true_ones) =
    let r = plainly N M c.store d.store c.term d.term b (choosing true ds) refl n.alike on in
    let cs = choice_before r.same in
    quiet N M c d n r.place b finished finished (an_end (r.on ∙ ap Some cs.1) (none_before (open_alike N M c d n cs.2) true_ones)) (an_end on true_ones)
    (r.put c.store d.store finished finished (nothing_kept c.store c.term r.place) (nothing_kept d.store d.term b) both_finished)
follow N M {c = c} {d = d} {b = b} n (a_repetition {p = q} on) =
    let r = plainly N M c.store d.store c.term d.term b (repeating q) refl n.alike on in
    let p = repeat_before r.same in
    let l = followed (opened p.0) (and_member (repeating p.0) no_members) in
    let m = followed (opened q) (and_member (repeating q) no_members) in
    quiet N M c d n r.place b l m (a_repetition (r.on ∙ ap Some p.1)) (a_repetition on)
    (r.put c.store d.store l m (nothing_kept c.store c.term r.place) (nothing_kept d.store d.term b)
    (followed_alike (like_opened p.2) (each_more (alone (same_repeat p.2)) each_none)))
follow N M {c = c} {d = d} {b = b} n (a_communication other {k = k} {x = x} {s = s} {t = t} {u = u} {e = e} on there inside) =
    communicated N M c d n b other k x s t u e on there inside
follow N M {c = c} {d = d} {b = b} n (a_delivery {k = k} {s = s} {e = e} {count = count} on offered more) =
    let r = plainly N M c.store d.store c.term d.term b (sending k s e) refl n.alike on in
    let sends = send_before r.same in
    let v = value_in d e in
    let first : Step c r.place (passing (offering (leaving c r.place finished) k (takes (one_fewer count))) k v) =
    subst (λ z. Step c r.place (passing (offering (leaving c r.place finished) k (takes (one_fewer count))) k z)) (values_near N M c d n e sends.1)
    (a_delivery (r.on ∙ ap Some sends.0) (ap (λ z. offer_at z k) n.rests ∙ offered) more) in
    let second : Step d b (passing (offering (leaving d b finished) k (takes (one_fewer count))) k v) = a_delivery on offered more in
    record {
      to = passing (offering (leaving c r.place finished) k (takes (one_fewer count))) k v;
      steps = 1;
      few = omega arith;
      none = λ z. absurd (cc z);
      leads = one_step first no_step;
      near = record {
        alike = r.put c.store d.store finished finished (nothing_kept c.store c.term r.place) (nothing_kept d.store d.term b) both_finished;
        stores = n.stores;
        old_length = n.old_length;
        new_length = n.new_length;
        more = n.more;
        rests = ap (λ z. slice_set z k (takes (one_fewer count))) n.rests;
        histories = ap (λ hs. slice_set hs k (history_at hs k ++ v ∷ [])) n.histories;
        fits = step_fits n.fits first;
        new_fits = step_fits n.new_fits second;
      };
    }
follow N M {c = c} {d = d} {b = b} n (an_arrival {k = k} {x = x} {v = v} {s = s} {t = t} {more = more} on offered) =
    let r = plainly N M c.store d.store c.term d.term b (receiving k s x t) refl n.alike on in
    let hears = receive_before r.same in
    let below : x < N = hears.1 in
    let on_c : statement_at c.term r.place ≡ Some (receiving k s x t) = r.on ∙ ap Some hears.0 in
    let first : Step c r.place (passing (storing (offering (leaving c r.place finished) k (gives more)) x v) k v) =
    an_arrival on_c (ap (λ z. offer_at z k) n.rests ∙ offered) in
    let second : Step d b (passing (storing (offering (leaving d b finished) k (gives more)) x v) k v) = an_arrival on offered in
    record {
      to = passing (storing (offering (leaving c r.place finished) k (gives more)) x v) k v;
      steps = 1;
      few = omega arith;
      none = λ z. absurd (cc z);
      leads = one_step first no_step;
      near = record {
        alike = r.put (slice_set c.store x v) (slice_set d.store x v) finished finished
            (write_kept c.store c.term r.place (receiving k s x t) x v t n.fits on_c (inr (inl refl)))
            (write_kept d.store d.term b (receiving k s x t) x v t n.new_fits on (inr (inl refl))) both_finished;
        stores = written_both c.store d.store N x v (let l = n.old_length in omega arith) (let l = n.new_length in let m = n.more in omega arith) n.stores;
        old_length = length-set c.store x v ∙ n.old_length;
        new_length = length-set d.store x v ∙ n.new_length;
        more = n.more;
        rests = ap (λ z. slice_set z k (gives more)) n.rests;
        histories = ap (λ hs. slice_set hs k (history_at hs k ++ v ∷ [])) n.histories;
        fits = step_fits n.fits first;
        new_fits = step_fits n.new_fits second;
      };
    }

-- a step of the program: the program in halves can go on too

assign_after : {N M : ℕ} {old new : List ℕ} {x : ℕ} {s : Span} {e : Formula} {q : Process} → Pair N M old new (assigning x s e) q →
    (y : ℕ) × (t : Span) × (f : Formula) × (q ≡ assigning y t f)
assign_after {x = x} {s = s} {e = e} (pair_same (same_assign below reads)) = (x, s, e, refl)
assign_after {s = s} {e = e} (pair_first {h = h} i) = (h, s, e, refl)
assign_after {x = x} {s = s} {e = e} (pair_second {h = h} i v) = (x, s, read_through h e s, refl)

goes_on : (N M : ℕ) {c d e : Configuration} {a : Place} → Near N M c d → Step c a e → CanStep d
goes_on N M {a = a} n (a_skip on) =
    let r = standing n.alike a skipping on in
    (r.place, _, a_skip (r.on ∙ ap Some (skip_after (same_of r.pair refl))))
goes_on N M {a = a} n (an_assignment {x = x} {s = s} {e = e} on) =
    let r = standing n.alike a (assigning x s e) on in
    let q = assign_after r.pair in
    (r.place, _, an_assignment (r.on ∙ ap Some q.3))
goes_on N M {c = c} {d = d} {a = a} n (a_selection {choices = cs} on true_ones) =
    let r = standing n.alike a (choosing false cs) on in
    let ds = choice_after (same_of r.pair refl) in
    let q = one_after (open_alike N M c d n ds.2) true_ones in
    (r.place, _, a_selection (r.on ∙ ap Some ds.1) q.1)
goes_on N M {c = c} {d = d} {a = a} n (a_turn {choices = cs} on true_ones) =
    let r = standing n.alike a (choosing true cs) on in
    let ds = choice_after (same_of r.pair refl) in
    let q = one_after (open_alike N M c d n ds.2) true_ones in
    (r.place, _, a_turn (r.on ∙ ap Some ds.1) q.1)
goes_on N M {c = c} {d = d} {a = a} n (an_end {choices = cs} on true_ones) =
    let r = standing n.alike a (choosing true cs) on in
    let ds = choice_after (same_of r.pair refl) in
    (r.place, _, an_end (r.on ∙ ap Some ds.1) (none_after (open_alike N M c d n ds.2) true_ones))
goes_on N M {a = a} n (a_repetition {p = p} on) =
    let r = standing n.alike a (repeating p) on in
    let q = repeat_after (same_of r.pair refl) in
    (r.place, _, a_repetition (r.on ∙ ap Some q.1))
goes_on N M {a = a} n (a_communication other {k = k} {x = x} {s = s} {t = t} {u = u} {e = e} on there inside) =
    let r = standing n.alike a (sending k s e) on in
    let w = standing n.alike other (receiving k t x u) there in (
      r.place,
      _,
      a_communication w.place (r.on ∙ ap Some (send_after (same_of r.pair refl)).0) (w.on ∙ ap Some (receive_after (same_of w.pair refl)).0)
          (sym (ap (λ z. offer_at z k) n.rests) ∙ inside),
    )
goes_on N M {a = a} n (a_delivery {k = k} {s = s} {e = e} on offered more) =
    let r = standing n.alike a (sending k s e) on in
    (r.place, _, a_delivery (r.on ∙ ap Some (send_after (same_of r.pair refl)).0) (sym (ap (λ z. offer_at z k) n.rests) ∙ offered) more)
goes_on N M {a = a} n (an_arrival {k = k} {x = x} {s = s} {t = t} on offered) =
    let r = standing n.alike a (receiving k s x t) on in
    (r.place, _, an_arrival (r.on ∙ ap Some (receive_after (same_of r.pair refl)).0) (sym (ap (λ z. offer_at z k) n.rests) ∙ offered))

pub abreast : (N M : ℕ) (c d : Configuration) → Near N M c d → IsAbreast c d
abreast N M c d n = record {
  histories = n.histories;
  goes_on = λ can. goes_on N M n can.2;
  ends = (ends_alike n.alike, ends_before n.alike);
}

-- runs
pub follow_run : (N M : ℕ) {d e : Configuration} {m : ℕ} (c : Configuration) → Near N M c d → Leads d m e → (to : Configuration) × (n : ℕ) × (n ≤ m)
    × Leads c n to × Near N M to e
follow_run N M c n no_step = (c, 0, omega arith, no_step, n)
follow_run N M c n (one_step s l) =
    let a = follow N M n s in
    let b = follow_run N M a.to a.near l in
    let few = a.few in
    let most = b.2 in
    (b.0, a.steps + b.1, omega arith, lead_on a.leads b.3, b.4)
