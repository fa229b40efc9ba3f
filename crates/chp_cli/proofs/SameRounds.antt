-- Typed programs that are the same but for places do the same, round by round.
--
-- t: a term; at: a place of it; c: a configuration.
use Rattle.std.proofs.Common.{◌≡◌, ℕ, zero, suc, Bool, true, false, List, [], ◌∷◌, map, refl, sym, ap, ◌∙◌}
use Rattle.std.specs.Prelude.{if◌then◌else◌, ◌==◌, slice_index, filter, fold, unwrap_or, is_some, option_map, Option, Some, None}
use Rattle.env_script.specs.Scripts.{OfferValue, gives, takes, nothing, offer_at, is_over}
use Rattle.width_check.specs.Processes.{Formula, constant, reading, joined, inverted, chained, compared, Formulas, no_parts, and_part, Operations, no_operations, and_operation, Process, skipping, assigning, sending, receiving, in_turn, side_by_side, choosing, repeating, Processes, no_members, and_member, Choices, no_choices, and_choice, TypedProgram}
use Rattle.width_check.specs.Values.{width_of, operated, value, joined_value, chained_value}
use Rattle.chp_meaning.specs.Terms.{Term, finished, active, in_sequence, in_parallel, Terms, no_branches, and_branch, is_finished, all_finished, together, opened, opened_turn, opened_each, followed, Place, here, in_first, in_branch, statement_at, branch_at, with_left, with_branch, places, branch_places}
use Rattle.chp_meaning.specs.Steps.{Configuration, value_in, open_branches, one_fewer, leaving, storing, passing, offering, start_of}
use Rattle.chp_meaning.specs.Rounds.{Waiting, waits_on, or_later, receiver_among, receiver_on, communicated, sent, received, chosen, stepped, step_at, is_enabled, enabled_places, taken, round, rounds_from, rounds}
use Rattle.chp_cli.specs.UnplacedForms.{unplaced_formula, unplaced_formulas, unplaced_operations, unplaced_process, unplaced_processes, unplaced_choices, unplaced_form, AreFormedAlike}
use Rattle.chp_cli.specs.UnplacedMeanings.{MeanTheSame}
use Rattle.chp_cli.proofs.SameNets.{width_same, widths_same}

-- values

mutual
  value_same : (store : ℕ → ℕ) (e : Formula) → value store (unplaced_formula e) ≡ value store e
  value_same store (constant width v) = refl
  value_same store (reading var high low at) = refl
  value_same store (joined parts) = joined_same store parts
  value_same store (inverted e) =
      let w = width_same e in
      let v = value_same store e in
      rw (w, v) refl
  value_same store (chained e more) =
      let w = width_same e in
      let v = value_same store e in
      rw (w, v) (chained_same store (width_of e) (value store e) more)
  value_same store (compared op e f) =
      let w = width_same e in
      let v = value_same store e in
      let u = value_same store f in
      rw (w, v, u) refl

  joined_same : (store : ℕ → ℕ) (parts : Formulas) → joined_value store (unplaced_formulas parts) ≡ joined_value store parts
  joined_same store no_parts = refl
  joined_same store (and_part e more) =
      let w = widths_same more in
      let v = value_same store e in
      let rest = joined_same store more in
      rw (w, v, rest) refl

  chained_same : (store : ℕ → ℕ) (w v : ℕ) (more : Operations) → chained_value store w v (unplaced_operations more) ≡ chained_value store w v more
  chained_same store w v no_operations = refl
  chained_same store w v (and_operation op e more) =
      let u = value_same store e in
      rw u (chained_same store w (operated op w v (value store e)) more)

-- terms without places

abbrev mutual
  unplaced_term : Term → Term
  unplaced_term finished = finished
  unplaced_term (active p) = active (unplaced_process p)
  unplaced_term (in_sequence t more) = in_sequence (unplaced_term t) (unplaced_processes more)
  unplaced_term (in_parallel ts) = in_parallel (unplaced_terms ts)

  unplaced_terms : Terms → Terms
  unplaced_terms no_branches = no_branches
  unplaced_terms (and_branch t more) = and_branch (unplaced_term t) (unplaced_terms more)

abbrev unplaced_state : Configuration → Configuration
unplaced_state c = record { term = unplaced_term c.term; store = c.store; rests = c.rests; histories = c.histories }

finished_same : (t : Term) → is_finished (unplaced_term t) ≡ is_finished t
finished_same finished = refl
finished_same (active p) = refl
finished_same (in_sequence t more) = refl
finished_same (in_parallel ts) = refl

all_same : (ts : Terms) → all_finished (unplaced_terms ts) ≡ all_finished ts
all_same no_branches = refl
all_same (and_branch t more) =
    let first = finished_same t in
    let rest = all_same more in
    rw (first, rest) refl

together_same : (ts : Terms) → together (unplaced_terms ts) ≡ unplaced_term (together ts)
together_same ts = ap (λ b. if b then finished else in_parallel (unplaced_terms ts)) (all_same ts) ∙ by (all_finished ts)
  where
    by : (b : Bool) → (if b then finished else in_parallel (unplaced_terms ts)) ≡ unplaced_term (if b then finished else in_parallel ts)
    by true = refl
    by false = refl

mutual
  opened_same : (p : Process) → opened (unplaced_process p) ≡ unplaced_term (opened p)
  opened_same skipping = refl
  opened_same (assigning x at e) = refl
  opened_same (sending chan at e) = refl
  opened_same (receiving chan chan_at x var_at) = refl
  opened_same (in_turn members) = turn_same members
  opened_same (side_by_side members) = ap together (each_same members) ∙ together_same (opened_each members)
  opened_same (choosing again _) = refl
  opened_same (repeating p) = refl

  turn_same : (members : Processes) → opened_turn (unplaced_processes members) ≡ unplaced_term (opened_turn members)
  turn_same no_members = refl
  turn_same (and_member p no_members) = opened_same p
  turn_same (and_member p (and_member q more)) = ap (λ t. in_sequence t (unplaced_processes (and_member q more))) (opened_same p)

  each_same : (members : Processes) → opened_each (unplaced_processes members) ≡ unplaced_terms (opened_each members)
  each_same no_members = refl
  each_same (and_member p more) =
      let first = opened_same p in
      let rest = each_same more in
      rw (first, rest) refl

followed_same : (t : Term) (more : Processes) → followed (unplaced_term t) (unplaced_processes more) ≡ unplaced_term (followed t more)
followed_same finished more = turn_same more
followed_same (active p) more = refl
followed_same (in_sequence t rest) more = refl
followed_same (in_parallel ts) more = refl

-- places of terms

mutual
  statement_same : (t : Term) (at : Place) → statement_at (unplaced_term t) at ≡ option_map unplaced_process (statement_at t at)
  statement_same finished at = refl
  statement_same (active p) here = refl
  statement_same (active p) (in_first at) = refl
  statement_same (active p) (in_branch k at) = refl
  statement_same (in_sequence t more) here = refl
  statement_same (in_sequence t more) (in_first at) = statement_same t at
  statement_same (in_sequence t more) (in_branch k at) = refl
  statement_same (in_parallel ts) here = refl
  statement_same (in_parallel ts) (in_first at) = refl
  statement_same (in_parallel ts) (in_branch k at) = branch_same ts k at

  branch_same : (ts : Terms) (k : ℕ) (at : Place) → branch_at (unplaced_terms ts) k at ≡ option_map unplaced_process (branch_at ts k at)
  branch_same no_branches k at = refl
  branch_same (and_branch t more) zero at = statement_same t at
  branch_same (and_branch t more) (suc k) at = branch_same more k at

mutual
  left_same : (t : Term) (at : Place) (left : Term) → with_left (unplaced_term t) at (unplaced_term left) ≡ unplaced_term (with_left t at left)
  left_same finished at left = refl
  left_same (active p) here left = refl
  left_same (active p) (in_first at) left = refl
  left_same (active p) (in_branch k at) left = refl
  left_same (in_sequence t more) here left = refl
  left_same (in_sequence t more) (in_first at) left =
      ap (λ u. followed u (unplaced_processes more)) (left_same t at left) ∙ followed_same (with_left t at left) more
  left_same (in_sequence t more) (in_branch k at) left = refl
  left_same (in_parallel ts) here left = refl
  left_same (in_parallel ts) (in_first at) left = refl
  left_same (in_parallel ts) (in_branch k at) left = ap together (branch_left_same ts k at left) ∙ together_same (with_branch ts k at left)

  branch_left_same : (ts : Terms) (k : ℕ) (at : Place) (left : Term)
      → with_branch (unplaced_terms ts) k at (unplaced_term left) ≡ unplaced_terms (with_branch ts k at left)
  branch_left_same no_branches k at left = refl
  branch_left_same (and_branch t more) zero at left = ap (λ u. and_branch u (unplaced_terms more)) (left_same t at left)
  branch_left_same (and_branch t more) (suc k) at left = ap (and_branch (unplaced_term t)) (branch_left_same more k at left)

mutual
  places_same : (t : Term) → places (unplaced_term t) ≡ places t
  places_same finished = refl
  places_same (active p) = refl
  places_same (in_sequence t more) = ap (map in_first) (places_same t)
  places_same (in_parallel ts) = branch_places_same 0 ts

  branch_places_same : (k : ℕ) (ts : Terms) → branch_places k (unplaced_terms ts) ≡ branch_places k ts
  branch_places_same k no_branches = refl
  branch_places_same k (and_branch t more) =
      let first = places_same t in
      let rest = branch_places_same (suc k) more in
      rw (first, rest) refl

-- steps

leaving_same : (c : Configuration) (at : Place) (left : Term) → leaving (unplaced_state c) at (unplaced_term left) ≡ unplaced_state (leaving c at left)
leaving_same c at left = ap (λ t. record { term = t; store = c.store; rests = c.rests; histories = c.histories }) (left_same c.term at left)

open_same : (c : Configuration) (options : Choices) → open_branches (unplaced_state c) (unplaced_choices options)
    ≡ map unplaced_process (open_branches c options)
open_same c no_choices = refl
open_same c (and_choice g p more) =
    let v = value_same (slice_index c.store) g in
    rw v (ap (λ ps. if value (slice_index c.store) g == 1 then unplaced_process p ∷ ps else ps) (open_same c more)
    ∙ by (value (slice_index c.store) g == 1))
  where
    by : (b : Bool) → (if b then unplaced_process p ∷ map unplaced_process (open_branches c more) else map unplaced_process (open_branches c more))
        ≡ map unplaced_process (if b then p ∷ open_branches c more else open_branches c more)
    by true = refl
    by false = refl

waits_same : (k : ℕ) (at : Place) (o : Option Process) → waits_on k at (option_map unplaced_process o) ≡ waits_on k at o
waits_same k at None = refl
waits_same k at (Some skipping) = refl
waits_same k at (Some (assigning x s e)) = refl
waits_same k at (Some (sending chan s e)) = refl
waits_same k at (Some (receiving chan s x t)) = refl
waits_same k at (Some (in_turn _)) = refl
waits_same k at (Some (side_by_side _)) = refl
waits_same k at (Some (choosing again _)) = refl
waits_same k at (Some (repeating p)) = refl

among_same : (t : Term) (k : ℕ) (ats : List Place) → receiver_among (unplaced_term t) k ats ≡ receiver_among t k ats
among_same t k [] = refl
among_same t k (at ∷ more) =
    ap (λ o. or_later (waits_on k at o) (receiver_among (unplaced_term t) k more)) (statement_same t at)
    ∙ (ap (λ w. or_later w (receiver_among (unplaced_term t) k more)) (waits_same k at (statement_at t at))
    ∙ ap (or_later (waits_on k at (statement_at t at))) (among_same t k more))

receiver_same : (t : Term) (k : ℕ) → receiver_on (unplaced_term t) k ≡ receiver_on t k
receiver_same t k = ap (receiver_among (unplaced_term t) k) (places_same t) ∙ among_same t k (places t)

communicated_same : (c : Configuration) (at : Place) (k v : ℕ) (o : Option Waiting)
    → communicated (unplaced_state c) at k v o ≡ option_map unplaced_state (communicated c at k v o)
communicated_same c at k v None = refl
communicated_same c at k v (Some w) =
    ap (λ (d : Configuration). Some (passing (storing d w.var v) k v))
    (ap (λ (d : Configuration). leaving d w.at finished) (leaving_same c at finished) ∙ leaving_same (leaving c at finished) w.at finished)

sent_same : (c : Configuration) (at : Place) (k v : ℕ) (o : OfferValue) → sent (unplaced_state c) at k v o ≡ option_map unplaced_state (sent c at k v o)
sent_same c at k v nothing = ap (communicated (unplaced_state c) at k v) (receiver_same c.term k) ∙ communicated_same c at k v (receiver_on c.term k)
sent_same c at k v (takes count) = by (is_over count 0)
  where
    by : (b : Bool) → (if b then Some (passing (offering (leaving (unplaced_state c) at finished) k (takes (one_fewer count))) k v) else None)
        ≡ option_map unplaced_state (if b then Some (passing (offering (leaving c at finished) k (takes (one_fewer count))) k v) else None)
    by true = ap (λ (d : Configuration). Some (passing (offering d k (takes (one_fewer count))) k v)) (leaving_same c at finished)
    by false = refl
sent_same c at k v (gives values) = refl

received_same : (c : Configuration) (at : Place) (k x : ℕ) (o : OfferValue)
    → received (unplaced_state c) at k x o ≡ option_map unplaced_state (received c at k x o)
received_same c at k x (gives []) = refl
received_same c at k x (gives (v ∷ more)) =
    ap (λ (d : Configuration). Some (passing (storing (offering d k (gives more)) x v) k v)) (leaving_same c at finished)
received_same c at k x (takes count) = refl
received_same c at k x nothing = refl

chosen_same : (c : Configuration) (at : Place) (again : Bool) (options : Choices) (ps : List Process)
    → chosen (unplaced_state c) at again (unplaced_choices options) (map unplaced_process ps) ≡ option_map unplaced_state (chosen c at again options ps)
chosen_same c at true options [] = ap (λ (d : Configuration). Some d) (leaving_same c at finished)
chosen_same c at false options [] = refl
chosen_same c at true options (p ∷ []) =
    ap (λ (d : Configuration). Some d)
    (ap (leaving (unplaced_state c) at)
    (ap (λ t. followed t (and_member (choosing true (unplaced_choices options)) no_members)) (opened_same p)
    ∙ followed_same (opened p) (and_member (choosing true options) no_members))
    ∙ leaving_same c at (followed (opened p) (and_member (choosing true options) no_members)))
chosen_same c at false options (p ∷ []) =
    ap (λ (d : Configuration). Some d) (ap (leaving (unplaced_state c) at) (opened_same p) ∙ leaving_same c at (opened p))
chosen_same c at true options (p ∷ r ∷ more) = refl
chosen_same c at false options (p ∷ r ∷ more) = refl

stepped_same : (c : Configuration) (at : Place) (o : Option Process)
    → stepped (unplaced_state c) at (option_map unplaced_process o) ≡ option_map unplaced_state (stepped c at o)
stepped_same c at None = refl
stepped_same c at (Some skipping) = ap (λ (d : Configuration). Some d) (leaving_same c at finished)
stepped_same c at (Some (assigning x s e)) =
    ap (λ v. Some (storing (leaving (unplaced_state c) at finished) x v)) (value_same (slice_index c.store) e)
    ∙ ap (λ (d : Configuration). Some (storing d x (value_in c e))) (leaving_same c at finished)
stepped_same c at (Some (sending k s e)) =
    ap (λ v. sent (unplaced_state c) at k v (offer_at c.rests k)) (value_same (slice_index c.store) e)
    ∙ sent_same c at k (value_in c e) (offer_at c.rests k)
stepped_same c at (Some (receiving k s x t)) = received_same c at k x (offer_at c.rests k)
stepped_same c at (Some (in_turn _)) = refl
stepped_same c at (Some (side_by_side _)) = refl
stepped_same c at (Some (choosing again options)) =
    ap (chosen (unplaced_state c) at again (unplaced_choices options)) (open_same c options) ∙ chosen_same c at again options (open_branches c options)
stepped_same c at (Some (repeating p)) =
    ap (λ (d : Configuration). Some d)
    (ap (leaving (unplaced_state c) at)
    (ap (λ t. followed t (and_member (repeating (unplaced_process p)) no_members)) (opened_same p)
    ∙ followed_same (opened p) (and_member (repeating p) no_members))
    ∙ leaving_same c at (followed (opened p) (and_member (repeating p) no_members)))

step_same : (c : Configuration) (at : Place) → step_at (unplaced_state c) at ≡ option_map unplaced_state (step_at c at)
step_same c at = ap (stepped (unplaced_state c) at) (statement_same c.term at) ∙ stepped_same c at (statement_at c.term at)

-- rounds

some_same : (o : Option Configuration) → is_some (option_map unplaced_state o) ≡ is_some o
some_same None = refl
some_same (Some c) = refl

enabled_same : (c : Configuration) (at : Place) → is_enabled (unplaced_state c) at ≡ is_enabled c at
enabled_same c at = ap is_some (step_same c at) ∙ some_same (step_at c at)

filter_same : (f g : Place → Bool) → ((at : Place) → f at ≡ g at) → (ats : List Place) → filter f ats ≡ filter g ats
filter_same f g h [] = refl
filter_same f g h (at ∷ ats) =
    let first = h at in
    let rest = filter_same f g h ats in
    rw (first, rest) refl

or_else_same : (c : Configuration) (o : Option Configuration) → unwrap_or (option_map unplaced_state o) (unplaced_state c) ≡ unplaced_state (unwrap_or o c)
or_else_same c None = refl
or_else_same c (Some d) = refl

taken_same : (c : Configuration) (at : Place) → taken (unplaced_state c) at ≡ unplaced_state (taken c at)
taken_same c at = ap (λ o. unwrap_or o (unplaced_state c)) (step_same c at) ∙ or_else_same c (step_at c at)

all_taken_same : (c : Configuration) (ats : List Place) → fold taken (unplaced_state c) ats ≡ unplaced_state (fold taken c ats)
all_taken_same c [] = refl
all_taken_same c (at ∷ ats) = ap (λ (d : Configuration). fold taken d ats) (taken_same c at) ∙ all_taken_same (taken c at) ats

round_same : (c : Configuration) → round (unplaced_state c) ≡ unplaced_state (round c)
round_same c =
    ap (fold taken (unplaced_state c))
    (ap (filter (is_enabled (unplaced_state c))) (places_same c.term)
    ∙ filter_same (is_enabled (unplaced_state c)) (is_enabled c) (enabled_same c) (places c.term))
    ∙ all_taken_same c (enabled_places c)

rounds_from_same : (c : Configuration) (n : ℕ) → rounds_from (unplaced_state c) n ≡ unplaced_state (rounds_from c n)
rounds_from_same c zero = refl
rounds_from_same c (suc n) = ap (λ (d : Configuration). rounds_from d n) (round_same c) ∙ rounds_from_same (round c) n

rounds_same : (p : TypedProgram) (script : List OfferValue) (n : ℕ) → rounds (unplaced_form p) script n ≡ unplaced_state (rounds p script n)
rounds_same p script n =
    ap (λ t. rounds_from (record { term = t; store = (start_of p script).store; rests = script; histories = (start_of p script).histories }) n)
    (opened_same p.body)
    ∙ rounds_from_same (start_of p script) n

states_same : (p q : TypedProgram) → AreFormedAlike p q → (script : List OfferValue) (n : ℕ)
    → unplaced_state (rounds p script n) ≡ unplaced_state (rounds q script n)
states_same p q alike script n = sym (rounds_same p script n) ∙ (ap (λ r. rounds r script n) alike ∙ rounds_same q script n)

pub mean_the_same : (p q : TypedProgram) → AreFormedAlike p q → MeanTheSame p q
mean_the_same p q alike = record {
  passed = λ script n. ap (λ (c : Configuration). c.histories) (states_same p q alike script n);
  stored = λ script n. ap (λ (c : Configuration). c.store) (states_same p q alike script n);
  ended = λ script n. sym (finished_same (rounds p script n).term)
      ∙ (ap (λ (c : Configuration). is_finished c.term) (states_same p q alike script n) ∙ finished_same (rounds q script n).term);
}
