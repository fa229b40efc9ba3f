-- What a step does, part by part, and that steps at two places don't disturb one another.
use Rattle.std.proofs.Common.{◌≡◌, ◌≢◌, ◌⊎◌, ℕ, true, List, [], ◌∷◌, ◌++◌, refl, sym, ap, ◌∙◌, subst, inl, inr}
use Rattle.std.specs.Prelude.{if◌then◌else◌, ◌==◌, slice_index, slice_set, Option, Some, None}
use Rattle.std.proofs.lemmas.List.{get_or-set_other, set_comm}
use Rattle.chp_base.specs.declared.span.Span.{Span}
use Rattle.env_script.specs.Scripts.{OfferValue, gives, takes, nothing, offer_at}
use Rattle.env_script.specs.Runs.{history_at}
use Rattle.width_check.specs.Processes.{Formula, constant, reading, joined, inverted, chained, compared, Formulas, no_parts, and_part, Operations, no_operations, and_operation, Process, assigning, sending, receiving, choosing, repeating, no_members, and_member, Choices, no_choices, and_choice}
use Rattle.width_check.specs.Values.{value, joined_value, chained_value, width_of, operated}
use Rattle.width_check.specs.Sharing.{reads_var, writes_var, sends_on, receives_on, Occurrence, done_at, reads_of, reads_of_parts, reads_of_operations, occurrences, occurrences_of_choices}
use Rattle.chp_meaning.specs.Terms.{Term, finished, opened, followed, Place, statement_at, with_left}
use Rattle.chp_meaning.specs.Steps.{Configuration, value_in, open_branches, one_fewer, leaving, storing, passing, offering, Step, a_skip, an_assignment, a_selection, a_turn, an_end, a_repetition, a_communication, a_delivery, an_arrival}
use Rattle.chp_meaning.proofs.Places.{In, in_left, in_right, still, swapped}
use Rattle.chp_meaning.proofs.Fitting.{Fits, places_apart}

-- something of a number
pub data Entry (A : Type 0) : Type 0 where
  entry : ℕ → A → Entry A

-- what is left at the place; the place of the other side of a communication; a variable's new value; what is left of the
-- script on a channel; a value that passes
pub record Deal : Type 0 where
  pub left : Term
  pub other : Option Place
  pub write : Option (Entry ℕ)
  pub offer : Option (Entry OfferValue)
  pub pass : Option (Entry ℕ)

abbrev pub leave : Term → Place → Term → Option Place → Term
leave t at left None = with_left t at left
leave t at left (Some other) = with_left (with_left t at left) other finished

abbrev pub written : List ℕ → Option (Entry ℕ) → List ℕ
written store None = store
written store (Some (entry x v)) = slice_set store x v

abbrev pub put : List OfferValue → Option (Entry OfferValue) → List OfferValue
put rests None = rests
put rests (Some (entry k o)) = slice_set rests k o

abbrev pub appended : List (List ℕ) → Option (Entry ℕ) → List (List ℕ)
appended histories None = histories
appended histories (Some (entry k v)) = slice_set histories k (history_at histories k ++ v ∷ [])

abbrev pub dealt : Configuration → Place → Deal → Configuration
dealt c at x = record {
  term = leave c.term at x.left x.other;
  store = written c.store x.write;
  rests = put c.rests x.offer;
  histories =
      appended c.histories x.pass;
}

abbrev becoming : Term → Deal
becoming left = record { left = left; other = None; write = None; offer = None; pass = None }

abbrev pub deal : {c d : Configuration} {at : Place} → Step c at d → Deal
deal (a_skip on) = becoming finished
deal (an_assignment {c = c} {x = x} {e = e} on) = record { left = finished; other = None; write = Some (entry x (value_in c e)); offer = None; pass = None }
deal (a_selection {p = p} on true_ones) = becoming (opened p)
deal (a_turn {choices = choices} {p = p} on true_ones) = becoming (followed (opened p) (and_member (choosing true choices) no_members))
deal (an_end on true_ones) = becoming finished
deal (a_repetition {p = p} on) = becoming (followed (opened p) (and_member (repeating p) no_members))
deal (a_communication {c = c} other {k = k} {x = x} {e = e} on there inside) =
    record { left = finished; other = Some other; write = Some (entry x (value_in c e)); offer = None; pass = Some (entry k (value_in c e)) }
deal (a_delivery {c = c} {k = k} {e = e} {count = count} on offered more) =
    record { left = finished; other = None; write = None; offer = Some (entry k (takes (one_fewer count))); pass = Some (entry k (value_in c e)) }
deal (an_arrival {k = k} {x = x} {v = v} {more = more} on offered) =
    record { left = finished; other = None; write = Some (entry x v); offer = Some (entry k (gives more)); pass = Some (entry k v) }

pub step_deals : {c d : Configuration} {at : Place} (s : Step c at d) → dealt c at (deal s) ≡ d
step_deals (a_skip on) = refl
step_deals (an_assignment on) = refl
step_deals (a_selection on true_ones) = refl
step_deals (a_turn on true_ones) = refl
step_deals (an_end on true_ones) = refl
step_deals (a_repetition on) = refl
step_deals (a_communication other on there inside) = refl
step_deals (a_delivery on offered more) = refl
step_deals (an_arrival on offered) = refl

-- the statement at the place sends or receives on the channel in a step
pub data Port (c : Configuration) (at : Place) (k : ℕ) : Type 0 where
  sends : {s : Span} {e : Formula} → statement_at c.term at ≡ Some (sending k s e) → ((vs : List ℕ) → offer_at c.rests k ≢ gives vs) → Port c at k
  receives : {s t : Span} {x : ℕ} {vs : List ℕ} → statement_at c.term at ≡ Some (receiving k s x t) → offer_at c.rests k ≡ gives vs → Port c at k

pub ports_apart : (c : Configuration) (a b : Place) (k : ℕ) → Fits c.term → a ≢ b → Port c a k → Port c b k → ⊥
ports_apart c a b k f ne (sends {s = s} {e = e} g n) (sends {s = t} {e = i} h m) =
    places_apart c.term a b (sending k s e) (sending k t i) f ne g h (done_at (sends_on k) s) (done_at (sends_on k) t) (inl refl) (inl refl) refl
ports_apart c a b k f ne (sends g n) (receives {vs = vs} h m) = n vs m
ports_apart c a b k f ne (receives {vs = vs} g n) (sends h m) = m vs n
ports_apart c a b k f ne (receives {s = s} {t = t} {x = x} g n) (receives {s = s'} {t = t'} {x = x'} h m) =
    places_apart c.term a b (receiving k s x t) (receiving k s' x' t') f ne g h (done_at (receives_on k) s) (done_at (receives_on k) s') (inl refl) (inl refl)
    refl

pub record Receiver (c : Configuration) (o : Place) (k : ℕ) : Type 0 where
  pub chan_at : Span
  pub var : ℕ
  pub var_at : Span
  pub is : statement_at c.term o ≡ Some (receiving k chan_at var var_at)

pub other_port : {c d : Configuration} {at : Place} (s : Step c at d) (o : Place) → (deal s).other ≡ Some o → (k : ℕ) × Receiver c o k × Port c at k
other_port (a_communication {c = c} other {k = k} {x = x} {t = t} {u = u} on there inside) o e =
    let same : other ≡ o = cc e in (
      k,
      record { chan_at = t; var = x; var_at = u; is = subst (λ w. statement_at c.term w ≡ Some (receiving k t x u)) same there },
      sends on (λ vs g. absurd (cc (inside, g))),
    )
other_port _ o e = absurd (cc e)

receive_port : {c d : Configuration} {at : Place} (s : Step c at d) (k x : ℕ) (t u : Span) → statement_at c.term at ≡ Some (receiving k t x u) → Port c at k
receive_port (a_skip on) k x t u h = absurd (cc (on, h))
receive_port (an_assignment on) k x t u h = absurd (cc (on, h))
receive_port (a_selection on true_ones) k x t u h = absurd (cc (on, h))
receive_port (a_turn on true_ones) k x t u h = absurd (cc (on, h))
receive_port (an_end on true_ones) k x t u h = absurd (cc (on, h))
receive_port (a_repetition on) k x t u h = absurd (cc (on, h))
receive_port (a_communication other on there inside) k x t u h = absurd (cc (on, h))
receive_port (a_delivery on offered more) k x t u h = absurd (cc (on, h))
receive_port (an_arrival {c = c} {k = l} {v = v} {more = more} on offered) k x t u h =
    let same : l ≡ k = cc (on, h) in
    receives h (subst (λ n. offer_at c.rests n ≡ gives (v ∷ more)) same offered)

pass_port : {c d : Configuration} {at : Place} (s : Step c at d) (k v : ℕ) → (deal s).pass ≡ Some (entry k v) → Port c at k
pass_port (a_communication {c = c} {at = at} other {k = l} on there inside) k v e = let same : l ≡ k = cc e in
    subst (λ n. Port c at n) same (sends on (λ vs g. absurd (cc (inside, g))))
pass_port (a_delivery {c = c} {at = at} {k = l} on offered more) k v e = let same : l ≡ k = cc e in
    subst (λ n. Port c at n) same (sends on (λ vs g. absurd (cc (offered, g))))
pass_port (an_arrival {c = c} {at = at} {k = l} on offered) k v e = let same : l ≡ k = cc e in subst (λ n. Port c at n) same (receives on offered)
pass_port _ k v e = absurd (cc e)

pub offer_port : {c d : Configuration} {at : Place} (s : Step c at d) (k : ℕ) (o : OfferValue) → (deal s).offer ≡ Some (entry k o) → Port c at k
offer_port (a_delivery {c = c} {at = at} {k = l} on offered more) k o e = let same : l ≡ k = cc e in
    subst (λ n. Port c at n) same (sends on (λ vs g. absurd (cc (offered, g))))
offer_port (an_arrival {c = c} {at = at} {k = l} on offered) k o e = let same : l ≡ k = cc e in subst (λ n. Port c at n) same (receives on offered)
offer_port _ k o e = absurd (cc e)

-- the place takes part in the step
abbrev pub Part : {c d : Configuration} {at : Place} → Step c at d → Place → Type 0
Part {at = at} s w = (at ≡ w) ⊎ ((deal s).other ≡ Some w)

pub record Writer {c d : Configuration} {at : Place} (s : Step c at d) (x : ℕ) : Type 0 where
  pub place : Place
  pub process : Process
  pub var_at : Span
  pub part : Part s place
  pub is : statement_at c.term place ≡ Some process
  pub writes : In (occurrences process) (done_at (writes_var x) var_at)

pub writer : {c d : Configuration} {at : Place} (s : Step c at d) (x v : ℕ) → (deal s).write ≡ Some (entry x v) → Writer s x
writer (an_assignment {c = c} {at = at} {x = y} {s = sp} {e = e} on) x v h =
    let same : y ≡ x = cc h in
    record { place = at; process = assigning y sp e; var_at = sp; part = inl refl; is = on; writes = inl (ap (λ z. done_at (writes_var z) sp) same) }
writer (a_communication {c = c} {at = at} other {k = k} {x = y} {t = t} {u = u} on there inside) x v h =
    let same : y ≡ x = cc h in
    record { place = other; process = receiving k t y u; var_at = u; part = inr refl; is = there; writes = inr (inl (ap (λ z. done_at (writes_var z) u) same)) }
writer (an_arrival {c = c} {at = at} {k = k} {x = y} {s = s} {t = t} on offered) x v h =
    let same : y ≡ x = cc h in
    record { place = at; process = receiving k s y t; var_at = t; part = inl refl; is = on; writes = inr (inl (ap (λ z. done_at (writes_var z) t) same)) }
writer _ x v h = absurd (cc h)

-- a statement is active at a step's place, and at each place that takes part
pub stands : {c d : Configuration} {at : Place} (s : Step c at d) → (p : Process) × (statement_at c.term at ≡ Some p)
stands (a_skip on) = (_, on)
stands (an_assignment on) = (_, on)
stands (a_selection on true_ones) = (_, on)
stands (a_turn on true_ones) = (_, on)
stands (an_end on true_ones) = (_, on)
stands (a_repetition on) = (_, on)
stands (a_communication other on there inside) = (_, on)
stands (a_delivery on offered more) = (_, on)
stands (an_arrival on offered) = (_, on)

pub part_stands : {c d : Configuration} {at : Place} (s : Step c at d) (w : Place) → Part s w → (p : Process) × (statement_at c.term w ≡ Some p)
part_stands {c = c} s w (inr e) = let r = other_port s w e in (receiving r.0 r.1.chan_at r.1.var r.1.var_at, r.1.is)
part_stands {c = c} {at = at} s w (inl e) = let r = stands s in (r.0, subst (λ a. statement_at c.term a ≡ Some r.0) e r.1)

-- no place takes part in steps at two places
pub parts_apart : {c d e : Configuration} {a b : Place} (s : Step c a d) (u : Step c b e) → Fits c.term → a ≢ b → (w x : Place) → Part s w → Part u x → w ≢ x
parts_apart {a = a} {b = b} s u f ne w x (inl g) (inl h) same = ne (g ∙ (same ∙ sym h))
parts_apart {c = c} {a = a} {b = b} s u f ne w x (inl g) (inr h) same =
    let r = other_port u x h in
    let on = subst (λ p. statement_at c.term p ≡ Some (receiving r.0 r.1.chan_at r.1.var r.1.var_at)) (sym (g ∙ same)) r.1.is in
    ports_apart c a b r.0 f ne (receive_port s r.0 r.1.var r.1.chan_at r.1.var_at on) r.2
parts_apart {c = c} {a = a} {b = b} s u f ne w x (inr g) (inl h) same =
    let r = other_port s w g in
    let on = subst (λ p. statement_at c.term p ≡ Some (receiving r.0 r.1.chan_at r.1.var r.1.var_at)) (same ∙ sym h) r.1.is in
    ports_apart c a b r.0 f ne r.2 (receive_port u r.0 r.1.var r.1.chan_at r.1.var_at on)
parts_apart {c = c} {a = a} {b = b} s u f ne w x (inr g) (inr h) same =
    let r = other_port s w g in
    let q = other_port u x h in
    let on = subst (λ p. statement_at c.term p ≡ Some (receiving r.0 r.1.chan_at r.1.var r.1.var_at)) same r.1.is in
    let k : r.0 ≡ q.0 = channel r.0 r.1.chan_at r.1.var r.1.var_at q.0 q.1.chan_at q.1.var q.1.var_at (sym on ∙ q.1.is) in
    ports_apart c a b q.0 f ne (subst (λ n. Port c a n) k r.2) q.2
  where
    channel : (k : ℕ) (s : Span) (x : ℕ) (t : Span) (l : ℕ) (u : Span) (y : ℕ) (v : Span) → Some (receiving k s x t) ≡ Some (receiving l u y v) → k ≡ l
    channel k s x t l u y v h = cc h

-- an expression has one value in two stores that agree where it reads
abbrev pub Agree : (ℕ → ℕ) → (ℕ → ℕ) → List Occurrence → Type 0
Agree f g reads = (x : ℕ) (at : Span) → In reads (done_at (reads_var x) at) → f x ≡ g x

agree_left : (f g : ℕ → ℕ) (xs ys : List Occurrence) → Agree f g (xs ++ ys) → Agree f g xs
agree_left f g xs ys h x at i = h x at (in_left xs ys (done_at (reads_var x) at) i)

agree_right : (f g : ℕ → ℕ) (xs ys : List Occurrence) → Agree f g (xs ++ ys) → Agree f g ys
agree_right f g xs ys h x at i = h x at (in_right xs ys (done_at (reads_var x) at) i)

mutual
  pub value_same : (f g : ℕ → ℕ) (e : Formula) → Agree f g (reads_of e) → value f e ≡ value g e
  value_same f g (constant width v) h = refl
  value_same f g (reading var high low at) h = rw (h var at (inl refl)) refl
  value_same f g (joined parts) h = joined_same f g parts h
  value_same f g (inverted e) h = rw (value_same f g e h) refl
  value_same f g (chained e more) h =
      ap (λ v. chained_value f (width_of e) v more) (value_same f g e (agree_left f g (reads_of e) (reads_of_operations more) h))
      ∙ chained_same f g (width_of e) (value g e) more (agree_right f g (reads_of e) (reads_of_operations more) h)
  value_same f g (compared op d e) h =
      ap (λ v. operated op (width_of d) v (value f e)) (value_same f g d (agree_left f g (reads_of d) (reads_of e) h))
      ∙ ap (λ v. operated op (width_of d) (value g d) v) (value_same f g e (agree_right f g (reads_of d) (reads_of e) h))

  joined_same : (f g : ℕ → ℕ) (parts : Formulas) → Agree f g (reads_of_parts parts) → joined_value f parts ≡ joined_value g parts
  joined_same f g no_parts h = refl
  joined_same f g (and_part e more) h =
      rw (value_same f g e (agree_left f g (reads_of e) (reads_of_parts more) h), joined_same f g more (agree_right f g (reads_of e) (reads_of_parts more) h))
      refl

  chained_same : (f g : ℕ → ℕ) (width v : ℕ) (more : Operations) → Agree f g (reads_of_operations more) →
      chained_value f width v more ≡ chained_value g width v more
  chained_same f g width v no_operations h = refl
  chained_same f g width v (and_operation op e more) h =
      ap (λ n. chained_value f width (operated op width v n) more) (value_same f g e (agree_left f g (reads_of e) (reads_of_operations more) h))
      ∙ chained_same f g width (operated op width v (value g e)) more (agree_right f g (reads_of e) (reads_of_operations more) h)

open_same : (c d : Configuration) (options : Choices) → Agree (slice_index c.store) (slice_index d.store) (occurrences_of_choices options) →
    open_branches c options ≡ open_branches d options
open_same c d no_choices h = refl
open_same c d (and_choice g p more) h =
    let here_same = value_same (slice_index c.store) (slice_index d.store) g (agree_left (slice_index c.store) (slice_index d.store) (reads_of g) (occurrences p
    ++ occurrences_of_choices more) h) in
    let more_same = open_same c d more (agree_right (slice_index c.store) (slice_index d.store) (occurrences p) (occurrences_of_choices more)
    (agree_right (slice_index c.store) (slice_index d.store) (reads_of g) (occurrences p ++ occurrences_of_choices more) h)) in
    ap (λ v. if v == 1 then p ∷ open_branches c more else open_branches c more) here_same
    ∙ ap (λ ps. if value_in d g == 1 then p ∷ ps else ps) more_same

-- all that a step needs stands in another configuration too
pub record Kept {c d : Configuration} {at : Place} (s : Step c at d) (e : Configuration) : Type 0 where
  pub stays : (w : Place) (p : Process) → Part s w → statement_at c.term w ≡ Some p → statement_at e.term w ≡ Some p
  pub agrees : (p : Process) → statement_at c.term at ≡ Some p → Agree (slice_index e.store) (slice_index c.store) (occurrences p)
  pub offers : (k : ℕ) → Port c at k → offer_at e.rests k ≡ offer_at c.rests k

pub again : {c d : Configuration} {at : Place} (s : Step c at d) (e : Configuration) → Kept s e → Step e at (dealt e at (deal s))
again (a_skip {at = at} on) e kept = a_skip (kept.stays at _ (inl refl) on)
again (an_assignment {c = c} {at = at} {x = x} {s = sp} {e = f} on) e kept =
    let same : value_in e f ≡ value_in c f = value_same (slice_index e.store) (slice_index c.store) f (λ y t i. kept.agrees _ on y t (inr i)) in
    subst (λ v. Step e at (storing (leaving e at finished) x v)) same (an_assignment (kept.stays at _ (inl refl) on))
again (a_selection {c = c} {at = at} {choices = options} on true_ones) e kept =
    a_selection (kept.stays at _ (inl refl) on) (open_same e c options (kept.agrees _ on) ∙ true_ones)
again (a_turn {c = c} {at = at} {choices = options} on true_ones) e kept =
    a_turn (kept.stays at _ (inl refl) on) (open_same e c options (kept.agrees _ on) ∙ true_ones)
again (an_end {c = c} {at = at} {choices = options} on true_ones) e kept =
    an_end (kept.stays at _ (inl refl) on) (open_same e c options (kept.agrees _ on) ∙ true_ones)
again (a_repetition {at = at} on) e kept = a_repetition (kept.stays at _ (inl refl) on)
again (a_communication {c = c} {at = at} other {k = k} {x = x} {s = s} {t = t} {u = u} {e = f} on there inside) e kept =
    let same : value_in e f ≡ value_in c f = value_same (slice_index e.store) (slice_index c.store) f (λ y z i. kept.agrees _ on y z (inr i)) in
    subst (λ v. Step e at (passing (storing (leaving (leaving e at finished) other finished) x v) k v)) same
    (a_communication other (kept.stays at _ (inl refl) on) (kept.stays other _ (inr refl) there) (kept.offers k (sends on (λ vs g. absurd (cc (inside, g))))
    ∙ inside))
again (a_delivery {c = c} {at = at} {k = k} {e = f} {count = count} on offered more) e kept =
    let same : value_in e f ≡ value_in c f = value_same (slice_index e.store) (slice_index c.store) f (λ y z i. kept.agrees _ on y z (inr i)) in
    subst (λ v. Step e at (passing (offering (leaving e at finished) k (takes (one_fewer count))) k v)) same
    (a_delivery (kept.stays at _ (inl refl) on) (kept.offers k (sends on (λ vs g. absurd (cc (offered, g)))) ∙ offered) more)
again (an_arrival {at = at} {k = k} on offered) e kept =
    an_arrival (kept.stays at _ (inl refl) on) (kept.offers k (receives on offered) ∙ offered)

-- what a step at another place leaves alone

pub left_stays : (t : Term) (a : Place) (l : Term) (o : Option Place) (b : Place) (q : Process) → a ≢ b → ((w : Place) → o ≡ Some w → w ≢ b) →
    statement_at t b ≡ Some q → statement_at (leave t a l o) b ≡ Some q
left_stays t a l None b q ne other h = still t a b l q ne h
left_stays t a l (Some w) b q ne other h = still (with_left t a l) w b finished q (other w refl) (still t a b l q ne h)

pub unwritten : (store : List ℕ) (w : Option (Entry ℕ)) (x : ℕ) → ((v : ℕ) → w ≢ Some (entry x v)) → slice_index (written store w) x ≡ slice_index store x
unwritten store None x h = refl
unwritten store (Some (entry y v)) x h = get_or-set_other store y x v 0 (λ e. h v (ap (λ z. Some (entry z v)) (sym e)))

pub unoffered : (rests : List OfferValue) (o : Option (Entry OfferValue)) (k : ℕ) → ((v : OfferValue) → o ≢ Some (entry k v)) →
    offer_at (put rests o) k ≡ offer_at rests k
unoffered rests None k h = refl
unoffered rests (Some (entry l v)) k h = get_or-set_other rests l k v nothing (λ e. h v (ap (λ z. Some (entry z v)) (sym e)))

pub undisturbed : {c d e : Configuration} {a b : Place} (s : Step c a d) (u : Step c b e) → Fits c.term → a ≢ b → Kept u (dealt c a (deal s))
undisturbed {c = c} {a = a} {b = b} s u f ne = record {
  stays = λ w p part h. left_stays c.term a (deal s).left (deal s).other w p (parts_apart s u f ne a w (inl refl) part)
      (λ o e. parts_apart s u f ne o w (inr e) part) h;
  agrees = λ q h x t i. unwritten c.store (deal s).write x (λ v e.
      let r = writer s x v e in
      places_apart c.term r.place b r.process q f (parts_apart s u f ne r.place b r.part (inl refl)) r.is h (done_at (writes_var x) r.var_at)
      (done_at (reads_var x) t) r.writes i refl);
  offers = λ k port. unoffered c.rests (deal s).offer k (λ v e. ports_apart c a b k f ne (offer_port s k v e) port);
}

-- two steps in either order come to the same

pair_swapped : (t : Term) (a : Place) (l : Term) (o : Place) (b : Place) (m : Term) (p r q : Process) → a ≢ b → o ≢ b → a ≢ o → statement_at t a ≡ Some p →
    statement_at t o ≡ Some r → statement_at t b ≡ Some q
    → with_left (with_left (with_left t a l) o finished) b m ≡ with_left (with_left (with_left t b m) a l) o finished
pair_swapped t a l o b m p r q ab ob ao ha ho hb =
    swapped (with_left t a l) o b finished m r q ob (still t a o l r ao ho) (still t a b l q ab hb)
    ∙ ap (λ x. with_left x o finished) (swapped t a b l m p q ab ha hb)

leaves_swap : (t : Term) (a : Place) (l : Term) (o : Option Place) (b : Place) (m : Term) (w : Option Place)
    → ((x : Place) → (a ≡ x) ⊎ (o ≡ Some x) → (p : Process) × (statement_at t x ≡ Some p))
    → ((x : Place) → (b ≡ x) ⊎ (w ≡ Some x) → (p : Process) × (statement_at t x ≡ Some p))
    → ((x y : Place) → (a ≡ x) ⊎ (o ≡ Some x) → (b ≡ y) ⊎ (w ≡ Some y) → x ≢ y)
    → ((x : Place) → o ≡ Some x → a ≢ x) → ((x : Place) → w ≡ Some x → b ≢ x)
    → leave (leave t a l o) b m w ≡ leave (leave t b m w) a l o
leaves_swap t a l None b m None first second apart own own' =
    let p = first a (inl refl) in
    let q = second b (inl refl) in
    swapped t a b l m p.0 q.0 (apart a b (inl refl) (inl refl)) p.1 q.1
leaves_swap t a l (Some o) b m None first second apart own own' =
    let p = first a (inl refl) in
    let r = first o (inr refl) in
    let q = second b (inl refl) in
    pair_swapped t a l o b m p.0 r.0 q.0 (apart a b (inl refl) (inl refl)) (apart o b (inr refl) (inl refl)) (own o refl) p.1 r.1 q.1
leaves_swap t a l None b m (Some w) first second apart own own' =
    let p = first a (inl refl) in
    let q = second b (inl refl) in
    let r = second w (inr refl) in
    sym (pair_swapped t b m w a l q.0 r.0 p.0 (λ e. apart a b (inl refl) (inl refl) (sym e)) (λ e. apart a w (inl refl) (inr refl) (sym e)) (own' w refl) q.1
    r.1 p.1)
leaves_swap t a l (Some o) b m (Some w) first second apart own own' =
    let p = first a (inl refl) in
    let r = first o (inr refl) in
    let q = second b (inl refl) in
    let z = second w (inr refl) in
    let ab = apart a b (inl refl) (inl refl) in
    let ob = apart o b (inr refl) (inl refl) in
    let bb : (x : Place) (n : Process) → b ≢ x → statement_at t x ≡ Some n → statement_at (with_left t b m) x ≡ Some n = λ x n ne h. still t b x m n ne h in
    ap (λ x. with_left x w finished) (pair_swapped t a l o b m p.0 r.0 q.0 ab ob (own o refl) p.1 r.1 q.1)
    ∙ pair_swapped (with_left t b m) a l o w finished p.0 r.0 z.0 (apart a w (inl refl) (inr refl)) (apart o w (inr refl) (inr refl)) (own o refl)
    (bb a p.0 (λ e. ab (sym e)) p.1) (bb o r.0 (λ e. ob (sym e)) r.1) (bb w z.0 (own' w refl) z.1)

writes_swap : (store : List ℕ) (w z : Option (Entry ℕ)) → ((x u v : ℕ) → w ≡ Some (entry x u) → z ≢ Some (entry x v)) →
    written (written store w) z ≡ written (written store z) w
writes_swap store None z apart = refl
writes_swap store (Some w) None apart = refl
writes_swap store (Some (entry x u)) (Some (entry y v)) apart = set_comm store x y u v (λ e. apart x u v refl (ap (λ n. Some (entry n v)) (sym e)))

offers_swap : (rests : List OfferValue) (w z : Option (Entry OfferValue)) → ((x : ℕ) (u v : OfferValue) → w ≡ Some (entry x u) → z ≢ Some (entry x v)) →
    put (put rests w) z ≡ put (put rests z) w
offers_swap rests None z apart = refl
offers_swap rests (Some w) None apart = refl
offers_swap rests (Some (entry x u)) (Some (entry y v)) apart = set_comm rests x y u v (λ e. apart x u v refl (ap (λ n. Some (entry n v)) (sym e)))

passes_swap : (histories : List (List ℕ)) (w z : Option (Entry ℕ)) → ((x u v : ℕ) → w ≡ Some (entry x u) → z ≢ Some (entry x v)) →
    appended (appended histories w) z ≡ appended (appended histories z) w
passes_swap histories None z apart = refl
passes_swap histories (Some w) None apart = refl
passes_swap histories (Some (entry x u)) (Some (entry y v)) apart =
    let ne : x ≢ y = λ e. apart x u v refl (ap (λ n. Some (entry n v)) (sym e)) in
    let first = history_at histories x ++ u ∷ [] in
    let second = history_at histories y ++ v ∷ [] in
    ap (λ h. slice_set (slice_set histories x first) y (h ++ v ∷ [])) (get_or-set_other histories x y first [] (λ e. ne (sym e)))
    ∙ (set_comm histories x y first second ne
    ∙ sym (ap (λ h. slice_set (slice_set histories y second) x (h ++ u ∷ [])) (get_or-set_other histories y x second [] ne)))

pub own_apart : {c d : Configuration} {at : Place} (s : Step c at d) (w : Place) → (deal s).other ≡ Some w → at ≢ w
own_apart (a_communication {c = c} {at = at} other on there inside) w h e =
    let same : at ≡ other = cc (h, e) in
    absurd (cc (sym (ap (λ x. statement_at c.term x) same) ∙ on, there))
own_apart _ w h e = cc h

same_configuration : (c d : Configuration) → c.term ≡ d.term → c.store ≡ d.store → c.rests ≡ d.rests → c.histories ≡ d.histories → c ≡ d
same_configuration c d e f g h = λ i. record { term = e i; store = f i; rests = g i; histories = h i }

pub either_order : {c d e : Configuration} {a b : Place} (s : Step c a d) (u : Step c b e) → Fits c.term → a ≢ b →
    dealt (dealt c a (deal s)) b (deal u) ≡ dealt (dealt c b (deal u)) a (deal s)
either_order {c = c} {a = a} {b = b} s u f ne = same_configuration (dealt (dealt c a (deal s)) b (deal u)) (dealt (dealt c b (deal u)) a (deal s))
    (leaves_swap c.term a (deal s).left (deal s).other b (deal u).left (deal u).other (part_stands s) (part_stands u) (parts_apart s u f ne) (own_apart s)
    (own_apart u))
    (writes_swap c.store (deal s).write (deal u).write (λ x m n g h.
    let r = writer s x m g in
    let q = writer u x n h in
    places_apart c.term r.place q.place r.process q.process f (parts_apart s u f ne r.place q.place r.part q.part) r.is q.is (done_at (writes_var x) r.var_at)
    (done_at (writes_var x) q.var_at) r.writes q.writes refl))
    (offers_swap c.rests (deal s).offer (deal u).offer (λ k m n g h. ports_apart c a b k f ne (offer_port s k m g) (offer_port u k n h)))
    (passes_swap c.histories (deal s).pass (deal u).pass (λ k m n g h. ports_apart c a b k f ne (pass_port s k m g) (pass_port u k n h)))
