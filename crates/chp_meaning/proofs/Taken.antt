-- What is taken at a place is a step there.
use Rattle.std.proofs.Common.{◌≡◌, ℕ, Bool, true, false, List, [], ◌∷◌, refl, ap, ◌∙◌, subst}
use Rattle.std.specs.Prelude.{◌==◌, if◌then◌else◌, Option, Some, None}
use Rattle.std.proofs.lemmas.Bool.{eqb-true}
use Rattle.chp_base.specs.declared.span.Span.{Span}
use Rattle.env_script.specs.Scripts.{OfferValue, gives, takes, nothing, offer_at, is_over}
use Rattle.width_check.specs.Processes.{Formula, Process, skipping, assigning, sending, receiving, in_turn, side_by_side, choosing, repeating, Choices}
use Rattle.chp_meaning.specs.Terms.{Term, finished, Place, statement_at, places}
use Rattle.chp_meaning.specs.Steps.{Configuration, value_in, open_branches, one_fewer, leaving, passing, offering, Step, a_skip, an_assignment, a_selection, a_turn, an_end, a_repetition, a_communication, a_delivery, an_arrival}
use Rattle.chp_meaning.specs.Rounds.{Waiting, waits_on, or_later, receiver_among, receiver_on, communicated, sent, received, chosen, stepped, step_at}

one_step : {c : Configuration} {at : Place} (x d : Configuration) → Some x ≡ Some d → Step c at x → Step c at d
one_step {c} {at} x d same step = let e : x ≡ d = cc in subst (λ (y : Configuration). Step c at y) e step

-- a receive on the channel stands at the place
pub record IsReceiver (t : Term) (k : ℕ) (w : Waiting) : Type 0 where
  pub chan_at : Span
  pub var_at : Span
  pub is : statement_at t w.at ≡ Some (receiving k chan_at w.var var_at)

pub waiting_is : (t : Term) (k : ℕ) (at : Place) (o : Option Process) (w : Waiting) → statement_at t at ≡ o → waits_on k at o ≡ Some w → IsReceiver t k w
waiting_is t k at (Some (receiving chan s x u)) w here found = by_channel (chan == k) refl found
  where
    by_channel : (b : Bool) → (chan == k) ≡ b → (if b then Some (record { at = at; var = x }) else None) ≡ Some w → IsReceiver t k w
    by_channel true e same =
        let it : ◌≡◌ {A = Waiting} (record { at = at; var = x }) w = cc in
        let same_channel = eqb-true chan k e in
        subst (λ (y : Waiting). IsReceiver t k y) it (record { chan_at = s; var_at = u; is = here ∙ ap (λ c. Some (receiving c s x u)) same_channel })
    by_channel false e same = absurd (cc same)
waiting_is t k at (Some skipping) w here found = absurd (cc found)
waiting_is t k at (Some (assigning x s e)) w here found = absurd (cc found)
waiting_is t k at (Some (sending x s e)) w here found = absurd (cc found)
waiting_is t k at (Some (in_turn ms)) w here found = absurd (cc found)
waiting_is t k at (Some (side_by_side ms)) w here found = absurd (cc found)
waiting_is t k at (Some (choosing again cs)) w here found = absurd (cc found)
waiting_is t k at (Some (repeating p)) w here found = absurd (cc found)
waiting_is t k at None w here found = absurd (cc found)

among_is : (t : Term) (k : ℕ) (ps : List Place) (w : Waiting) → receiver_among t k ps ≡ Some w → IsReceiver t k w
among_is t k [] w found = absurd (cc found)
among_is t k (at ∷ more) w found = by_place (waits_on k at (statement_at t at)) refl found (among_is t k more w)
  where
    by_place : (o : Option Waiting) → waits_on k at (statement_at t at) ≡ o → or_later o (receiver_among t k more) ≡ Some w →
        (receiver_among t k more ≡ Some w → IsReceiver t k w) → IsReceiver t k w
    by_place None e same later = later same
    by_place (Some v) e same later = waiting_is t k at (statement_at t at) w refl (e ∙ same)

sent_is : (c d : Configuration) (at : Place) (k : ℕ) (s : Span) (e : Formula) → statement_at c.term at ≡ Some (sending k s e) → (offer : OfferValue) →
    offer_at c.rests k ≡ offer → sent c at k (value_in c e) offer ≡ Some d → Step c at d
sent_is c d at k s e here (gives values) offered taken = absurd (cc taken)
sent_is c d at k s e here (takes count) offered taken = by_count (is_over count 0) refl taken
  where
    by_count : (b : Bool) → is_over count 0 ≡ b →
        (if b then Some (passing (offering (leaving c at finished) k (takes (one_fewer count))) k (value_in c e)) else None) ≡ Some d → Step c at d
    by_count true more same = one_step _ d same (a_delivery here offered more)
    by_count false more same = absurd (cc same)
sent_is c d at k s e here nothing offered taken = by_receiver (receiver_on c.term k) refl taken
  where
    by_receiver : (o : Option Waiting) → receiver_on c.term k ≡ o → communicated c at k (value_in c e) o ≡ Some d → Step c at d
    by_receiver None found same = absurd (cc same)
    by_receiver (Some w) found same =
        let r = among_is c.term k (places c.term) w found in
        one_step _ d same (a_communication w.at here r.is offered)

received_is : (c d : Configuration) (at : Place) (k x : ℕ) (s t : Span) → statement_at c.term at ≡ Some (receiving k s x t) → (offer : OfferValue) →
    offer_at c.rests k ≡ offer → received c at k x offer ≡ Some d → Step c at d
received_is c d at k x s t here (gives []) offered taken = absurd (cc taken)
received_is c d at k x s t here (gives (v ∷ more)) offered taken = one_step _ d taken (an_arrival here offered)
received_is c d at k x s t here (takes count) offered taken = absurd (cc taken)
received_is c d at k x s t here nothing offered taken = absurd (cc taken)

chosen_is : (c d : Configuration) (at : Place) (again : Bool) (options : Choices) → statement_at c.term at ≡ Some (choosing again options) →
    (ps : List Process) → open_branches c options ≡ ps → chosen c at again options ps ≡ Some d → Step c at d
chosen_is c d at true options here [] true_ones taken = one_step _ d taken (an_end here true_ones)
chosen_is c d at false options here [] true_ones taken = absurd (cc taken)
chosen_is c d at true options here (p ∷ []) true_ones taken = one_step _ d taken (a_turn here true_ones)
chosen_is c d at false options here (p ∷ []) true_ones taken = one_step _ d taken (a_selection here true_ones)
chosen_is c d at true options here (p ∷ q ∷ ps) true_ones taken = absurd (cc taken)
chosen_is c d at false options here (p ∷ q ∷ ps) true_ones taken = absurd (cc taken)

stepped_is : (c d : Configuration) (at : Place) (o : Option Process) → statement_at c.term at ≡ o → stepped c at o ≡ Some d → Step c at d
stepped_is c d at None here taken = absurd (cc taken)
stepped_is c d at (Some skipping) here taken = one_step _ d taken (a_skip here)
stepped_is c d at (Some (assigning x s e)) here taken = one_step _ d taken (an_assignment here)
stepped_is c d at (Some (sending k s e)) here taken = sent_is c d at k s e here (offer_at c.rests k) refl taken
stepped_is c d at (Some (receiving k s x t)) here taken = received_is c d at k x s t here (offer_at c.rests k) refl taken
stepped_is c d at (Some (in_turn ms)) here taken = absurd (cc taken)
stepped_is c d at (Some (side_by_side ms)) here taken = absurd (cc taken)
stepped_is c d at (Some (choosing again options)) here taken = chosen_is c d at again options here (open_branches c options) refl taken
stepped_is c d at (Some (repeating p)) here taken = one_step _ d taken (a_repetition here)

pub step_is : (c d : Configuration) (at : Place) → step_at c at ≡ Some d → Step c at d
step_is c d at taken = stepped_is c d at (statement_at c.term at) refl taken
