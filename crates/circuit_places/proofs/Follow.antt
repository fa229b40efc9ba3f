-- How far the program has come: a run of it, with as many steps as moves at most, that has passed the same values.
use Rattle.std.proofs.Common.{◌≡◌, ℕ, zero, suc, ◌-◌, ◌+◌, ◌*◌, ◌≤◌, ◌<◌, ◌==◌, Bool, true, false, List, [], ◌∷◌, ◌++◌, length, refl, sym, ap, ◌∙◌, subst, inl, inr, ◌⊎◌, arith, set, replicate}
use Rattle.std.proofs.lemmas.List.{get_or-set_other, get_or-set_same, length-set}
use Rattle.std.proofs.lemmas.Bool.Decides.{nat_tests}
use Rattle.std.specs.Prelude.{slice_index, slice_get, map, Option, Some, None, if◌then◌else◌}
use mathlib.Core.Path.{path_j, subst_refl}
use Rattle.env_script.specs.declared.script.Count.{Count}
use Rattle.env_script.specs.declared.script.Count.TheVariants.{All, Times}
use Rattle.env_script.specs.Scripts.{OfferValue, gives, takes, nothing, offer_at, is_over}
use Rattle.env_script.specs.Runs.{history_at, completed}
use Rattle.width_check.specs.Processes.{Process, skipping, repeating, TypedProgram, choosing, Choices, no_choices, and_choice}
use Rattle.width_check.specs.Typing.{kind_at, channel_width, var_width}
use Rattle.width_check.specs.declared.typed.Var.{Var}
use Rattle.circuit_places.proofs.Writing.{number_told}
use Rattle.chp_meaning.specs.Terms.{Term, finished, opened, Place, statement_at, with_left}
use Rattle.chp_meaning.specs.Steps.{Configuration, one_fewer, leaving, value_in, storing, an_assignment, passing, offering, Step, a_skip, a_repetition, a_communication, a_delivery, an_arrival, Leads, no_step, one_step, start_of, open_branches, a_selection, a_turn, an_end}
use Rattle.function_blocks.specs.Rails.{number_on}
use Rattle.circuit_places.specs.Lines.{of_channel, of_var, Rails}
use Rattle.circuit_places.specs.Whole.{wires_seen, line_ack, is_heard, first_bits, wires_after, rail_turned, bit_turned, Wires, wrote_turned, joint_turned, value_on, Node, go_node, own_node, rail_node, ack_node, bit_node, wrote_node, joint_node, answers, cells_passed, passed_after}
use Rattle.circuit_places.proofs.Left.{Act, skips, goes_on, Follows, open_by, Goes, chooses, ends, body_at}
use Rattle.circuit_places.proofs.Flow.{cases}
use Rattle.circuit_places.proofs.LineNames.{self_number, same_number}
use Rattle.circuit_places.proofs.Fires.{Passes}
use Rattle.circuit_places.proofs.System.{Passing, Others, Arrival, Lands, Arrives, Exchanges, Acks, taken_out, taken_in, taken_over, released, Freed, Rises, Stored, no_store, cleared, stores, takes_in, Moves, Fitted, takes_of, may_low, Decided}
use Rattle.circuit_places.proofs.Arriving.{Arriving, next_value}
use Rattle.width_check.specs.Values.{value}
use Rattle.circuit_places.specs.Bounds.{circuit_most}
use Rattle.circuit_places.proofs.Unrisen.{Unrisen, Stays}

-- what is left of an offer when so many values have passed
abbrev pub fewer : Count → ℕ → Count
fewer All n = All
fewer (Times m) n = Times (m - n)

abbrev pub behind : List ℕ → ℕ → List ℕ
behind values zero = values
behind [] (suc n) = []
behind (v ∷ vs) (suc n) = behind vs n

abbrev pub left_over : OfferValue → ℕ → OfferValue
left_over (takes count) n = takes (fewer count n)
left_over (gives values) n = gives (behind values n)
left_over nothing n = nothing

-- the next value comes first
pub behind_some : (values : List ℕ) (n v : ℕ) → slice_get values n ≡ Some v → behind values n ≡ v ∷ behind values (suc n)
behind_some [] zero v e = absurd (cc e)
behind_some [] (suc n) v e = absurd (cc e)
behind_some (x ∷ xs) zero v e = ap (λ y. y ∷ xs) (same e)
  where
    same : Some x ≡ Some v → x ≡ v
    same e = cc e
behind_some (x ∷ xs) (suc n) v e = behind_some xs n v e

pub behind_none : (values : List ℕ) (n : ℕ) → slice_get values n ≡ None → behind values n ≡ []
behind_none [] zero e = refl
behind_none [] (suc n) e = refl
behind_none (x ∷ xs) zero e = absurd (cc e)
behind_none (x ∷ xs) (suc n) e = behind_none xs n e

pub record Followed (P : TypedProgram) (script : List OfferValue) (from : Configuration) (most : ℕ) (hs : List (List ℕ)) (t : Term) (bits : ℕ → Rails)
    (busy : ℕ → Bool)
    (due : ℕ) : Type 0 where
  pub to : Configuration
  pub steps : ℕ
  pub within : steps ≤ most
  pub paid : most + due ≤ circuit_most P * suc steps
  pub leads : Leads from steps to
  pub term : to.term ≡ t
  pub passed : to.histories ≡ hs
  pub rests : (k : ℕ) → offer_at to.rests k ≡ left_over (offer_at script k) (completed hs k)
  pub as_many : length to.rests ≡ length P.channels
  pub as_long : length hs ≡ length P.channels
  pub as_stored : length to.store ≡ length P.vars
  pub stored : (x : ℕ) → x < length P.vars → busy x ≡ false → number_on (var_width P.vars x) (bits x) ≡ slice_index to.store x

-- one more step at a run's end
pub leads_on : {c d e : Configuration} {at : Place} {n : ℕ} → Leads c n d → Step d at e → Leads c (suc n) e
leads_on no_step s = one_step s no_step
leads_on (one_step r l) s = one_step r (leads_on l s)

none_yet : (n k : ℕ) → completed (replicate n []) k ≡ 0
none_yet zero k = refl
none_yet (suc n) zero = refl
none_yet (suc n) (suc k) = none_yet n k

whole_yet : (offer : OfferValue) (n : ℕ) → n ≡ 0 → offer ≡ left_over offer n
whole_yet (takes All) n e = refl
whole_yet (takes (Times m)) n e = ap (λ k. takes (Times k)) (let g : m ≡ m - n = omega (arith, e) in g)
whole_yet (gives values) n e = ap (λ k. gives (behind values k)) (sym e)
whole_yet nothing n e = refl

pub started : (P : TypedProgram) (script : List OfferValue) → Fitted P script → (due : ℕ) → due ≤ circuit_most P
    → Followed P script (start_of P script) 0 (replicate (length P.channels) []) (opened P.body) (first_bits P.vars) (λ x. false) due
started P script fitted due few = record {
  to = start_of P script;
  steps = 0;
  within = omega arith;
  paid = omega (arith, few);
  leads = no_step;
  term = refl;
  passed = refl;
  rests = λ k. whole_yet (offer_at script k) (completed (replicate (length P.channels) []) k) (none_yet (length P.channels) k);
  as_many = fitted.same;
  as_long = long (length P.channels);
  as_stored = each (λ (v : Var). v.first) P.vars;
  stored = λ x less e. fitted.firsts x less;
}
  where
    each : (f : Var → ℕ) (vs : List Var) → length (map f vs) ≡ length vs
    each f [] = refl
    each f (v ∷ vs) = ap (λ k. suc k) (each f vs)

    long : (n : ℕ) → length (replicate {A = List ℕ} n []) ≡ n
    long zero = refl
    long (suc n) = ap (λ k. suc k) (long n)

-- what has passed, said otherwise, leaves where the run has come to
same_run : {P : TypedProgram} {script : List OfferValue} {from : Configuration} {most : ℕ} {y : Term} {bits : ℕ → Rails} {busy : ℕ → Bool} {due : ℕ}
    (hs : Bool → List (List ℕ)) {a b : Bool} (e : a ≡ b) (z : Followed P script from most (hs a) y bits busy due)
    → (subst (λ (c : Bool). Followed P script from most (hs c) y bits busy due) e z).to ≡ z.to
same_run {P} {script} {from} {most} {y} {bits} {busy} {due} hs {a} e z = path_j
    (λ (b : Bool) (p : a ≡ b). (subst (λ (c : Bool). Followed P script from most (hs c) y bits busy due) p z).to ≡ z.to)
    (ap (λ (f : Followed P script from most (hs a) y bits busy due). f.to)
    (subst_refl (λ (c : Bool). Followed P script from most (hs c) y bits busy due) z)) e

-- the branches that are open are those of the store
pub open_is : (c : Configuration) (choices : Choices) → open_branches c choices ≡ open_by (slice_index c.store) choices
open_is c no_choices = refl
open_is c (and_choice g p more) = ap (λ (ps : List Process). if value (slice_index c.store) g == 1 then p ∷ ps else ps) (open_is c more)

module _ {P : TypedProgram} {script : List OfferValue} {from : Configuration} {most : ℕ} {hs : List (List ℕ)} {t : Term} {bits : ℕ → Rails} {busy : ℕ → Bool}
    {due : ℕ}
    (r : Followed P script from most hs t bits busy due) (left_due : ℕ) (now : ℕ → Rails) (after : ℕ → Bool)
    (free : (x : ℕ) → after x ≡ false → (now x ≡ bits x) × (busy x ≡ false)) where
  pub kept_so : (x : ℕ) → x < length P.vars → after x ≡ false → number_on (var_width P.vars x) (now x) ≡ slice_index r.to.store x
  kept_so x less e = ap (number_on (var_width P.vars x)) (free x e).0 ∙ r.stored x less (free x e).1

  -- no step
  stays : suc left_due ≤ due → (y : Term) → y ≡ t → Followed P script from (suc most) hs y now after left_due
  stays less y e = record {
    to = r.to;
    steps = r.steps;
    within = omega (arith, r.within);
    paid = omega (arith, r.paid, less);
    leads = r.leads;
    term = r.term ∙ sym e;
    passed = r.passed;
    rests = r.rests;
    as_many = r.as_many;
    as_long = r.as_long;
    as_stored = r.as_stored;
    stored = kept_so;
  }

  -- a step that no channel sees
  leaves : suc left_due ≤ circuit_most P → (s : Process) (left y : Term) (a : Act t s left y) → Step r.to a.at (leaving r.to a.at left)
      → Followed P script from (suc most) hs y now after left_due
  leaves few s left y a step = record {
    to = leaving r.to a.at left;
    steps = suc r.steps;
    within = omega (arith, r.within);
    paid = omega (arith, r.paid, few);
    leads = leads_on r.leads step;
    term = ap (λ x. with_left x a.at left) r.term ∙ sym a.then_is;
    passed = r.passed;
    rests = r.rests;
    as_many = r.as_many;
    as_long = r.as_long;
    as_stored = r.as_stored;
    stored = kept_so;
  }

  stands : (s : Process) (left y : Term) (a : Act t s left y) → statement_at r.to.term a.at ≡ Some s
  stands s left y a = ap (λ x. statement_at x a.at) r.term ∙ a.stands

  -- the branches that are open
  pub decided : (choices : Choices) (ps : List Process) → Decided P bits busy choices ps → open_branches r.to choices ≡ ps
  decided choices ps d = open_is r.to choices ∙ d (slice_index r.to.store) r.stored

  silent : (step : Bool) → suc left_due ≤ circuit_most P → (step ≡ false → suc left_due ≤ due) → (y : Term) → Follows (Decided P bits busy) step t y
      → Followed P script from (suc most) hs y now after left_due
  silent step few less y (inl e) = stays (less e.0) y e.1
  silent step few less y (inr (does, s)) = by s.statement s.rest s.goes s.act
    where
      by : (s : Process) (l : Term) → Goes (Decided P bits busy) s l → Act t s l y → Followed P script from (suc most) hs y now after left_due
      by _ _ skips a = leaves few skipping finished y a (a_skip (stands skipping finished y a))
      by _ _ (goes_on {p = p}) a = leaves few (repeating p) _ y a (a_repetition (stands (repeating p) _ y a))
      by _ _ (chooses {again = false} {choices = choices} i d) a =
          leaves few (choosing false choices) _ y a (a_selection (stands (choosing false choices) _ y a) (decided choices (body_at choices i ∷ []) d))
      by _ _ (chooses {again = true} {choices = choices} i d) a =
          leaves few (choosing true choices) _ y a (a_turn (stands (choosing true choices) _ y a) (decided choices (body_at choices i ∷ []) d))
      by _ _ (ends {choices = choices} d) a = leaves few (choosing true choices) _ y a (an_end (stands (choosing true choices) _ y a) (decided choices [] d))

-- an acceptance is used up
one_more : (count : Count) (n k : ℕ) → k ≡ suc n → takes (one_fewer (fewer count n)) ≡ left_over (takes count) k
one_more All n k e = refl
one_more (Times m) n k e = ap (λ i. takes (Times i)) (let g : m - n - 1 ≡ m - k = omega (arith, e) in g)

still_over : (count : Count) (n : ℕ) → is_over count n ≡ true → is_over (fewer count n) 0 ≡ true
still_over All n e = refl
still_over (Times m) n e = grind (arith, nat_tests)

pub over_before : (count : Count) (n : ℕ) → is_over (fewer count n) 0 ≡ true → is_over count n ≡ true
over_before All n e = refl
over_before (Times m) n e = grind (arith, nat_tests)

one_longer : (xs : List ℕ) (v : ℕ) → length (xs ++ v ∷ []) ≡ suc (length xs)
one_longer [] v = refl
one_longer (x ∷ xs) v = ap (λ k. suc k) (one_longer xs v)

module _ {P : TypedProgram} {script : List OfferValue} {from : Configuration} {most : ℕ} {hs : List (List ℕ)} {t : Term} (w : Wires) {busy : ℕ → Bool} {due : ℕ}
    (fitted : Fitted P script) (r : Followed P script from most hs t w.bit busy due) (left_due : ℕ) (few : suc left_due ≤ circuit_most P) (now : ℕ → Rails)
    (after : ℕ → Bool) (free : (x : ℕ) → after x ≡ false → (now x ≡ w.bit x) × (busy x ≡ false))
    (k : ℕ) where
  -- a value passes
  module _ (y : Term) (count : Count) (offered : offer_at script k ≡ takes count) (more : is_over count (completed hs k) ≡ true)
      (pass : Passes P (wires_seen P w) busy (of_channel k) t y) where
    read : value_on (channel_width P.channels k) (w.rail (of_channel k)) ≡ Some (value_in r.to pass.expression)
    read = pass.read (slice_index r.to.store) (λ v less calm. r.stored v less calm)

    abbrev now_rests : List OfferValue
    now_rests = set r.to.rests k (takes (one_fewer (fewer count (completed hs k))))

    abbrev now_histories : List (List ℕ)
    now_histories = set hs k (history_at hs k ++ value_in r.to pass.expression ∷ [])

    rest_at : offer_at r.to.rests k ≡ takes (fewer count (completed hs k))
    rest_at = r.rests k ∙ ap (λ o. left_over o (completed hs k)) offered

    below : k < length P.channels
    below = fitted.within k (λ z. cc (offered, z))

    step : Step r.to pass.act.at (passing (offering (leaving r.to pass.act.at finished) k (takes (one_fewer (fewer count (completed hs k))))) k
        (value_in r.to pass.expression))
    step = a_delivery (ap (λ x. statement_at x pass.act.at) r.term ∙ pass.act.stands) rest_at (still_over count (completed hs k) more)

    long : completed now_histories k ≡ suc (completed hs k)
    long = ap length (get_or-set_same hs k (history_at hs k ++ value_in r.to pass.expression ∷ []) []
        (let g : k < length hs = subst (λ (n : ℕ). k < n) (sym r.as_long) below in g)) ∙ one_longer (history_at hs k) (value_in r.to pass.expression)

    now_rest : (c : ℕ) → offer_at now_rests c ≡ left_over (offer_at script c) (completed now_histories c)
    now_rest c = cases (c == k)
        (λ (e : (c == k) ≡ true).
        let same : c ≡ k = same_number c k e in
        subst (λ (i : ℕ). offer_at now_rests i ≡ left_over (offer_at script i) (completed now_histories i)) (sym same)
        (get_or-set_same r.to.rests k (takes (one_fewer (fewer count (completed hs k)))) nothing
        (let g : k < length r.to.rests = subst (λ (n : ℕ). k < n) (sym r.as_many) below in g)
        ∙ (one_more count (completed hs k) (completed now_histories k) long ∙ sym (ap (λ o. left_over o (completed now_histories k)) offered))))
        (λ (e : (c == k) ≡ false).
        let ne : c ≡ k → ⊥ = λ (same : c ≡ k). absurd (cc (e, ap (λ x. x == k) same, self_number k)) in
        get_or-set_other r.to.rests k c (takes (one_fewer (fewer count (completed hs k)))) nothing ne
        ∙ (r.rests c ∙ sym (ap (λ h. left_over (offer_at script c) (length h))
        (get_or-set_other hs k c (history_at hs k ++ value_in r.to pass.expression ∷ []) [] ne))))

    passes_on : Followed P script from (suc most) (cells_passed hs k (value_on (channel_width P.channels k) (w.rail (of_channel k)))) y now after left_due
    passes_on = subst (λ (o : Option ℕ). Followed P script from (suc most) (cells_passed hs k o) y now after left_due) (sym read) (record {
      to = passing (offering (leaving r.to pass.act.at finished) k (takes (one_fewer (fewer count (completed hs k))))) k (value_in r.to pass.expression);
      steps = suc r.steps;
      within = omega (arith, r.within);
      paid = omega (arith, r.paid, few);
      leads = leads_on r.leads step;
      term = ap (λ x. with_left x pass.act.at finished) r.term ∙ sym pass.act.then_is;
      passed = ap (λ h. set h k (history_at h k ++ value_in r.to pass.expression ∷ [])) r.passed;
      rests = now_rest;
      as_many = length-set r.to.rests k (takes (one_fewer (fewer count (completed hs k)))) ∙ r.as_many;
      as_long = length-set hs k (history_at hs k ++ value_in r.to pass.expression ∷ []) ∙ r.as_long;
      as_stored = r.as_stored;
      stored = kept_so r left_due now after free;
    })

  acknowledged : (w.ack k ≡ true → suc left_due ≤ due) → (y : Term) → answers (channel_width P.channels k) w k (completed hs k) (offer_at script k) ≡ true
      → (b : Bool) → w.ack k ≡ b
      → Passing P (wires_seen P w) busy (of_channel k) b t y
      → Followed P script from (suc most) (if b then hs else cells_passed hs k (value_on (channel_width P.channels k) (w.rail (of_channel k)))) y now after
      left_due
  acknowledged less y e true h move = stays r left_due now after free (less h) y move
  acknowledged less y e false h move =
      let o = takes_of (channel_width P.channels k) w k (completed hs k) (offer_at script k) e in
      passes_on y o.count o.is (may_low (channel_width P.channels k) w k (is_over o.count (completed hs k)) h o.may).1 move

module _ {P : TypedProgram} {script : List OfferValue} {from : Configuration} {most : ℕ} {hs : List (List ℕ)} {t : Term} (w : Wires) {busy : ℕ → Bool} {due : ℕ}
    (fitted : Fitted P script) (r : Followed P script from most hs t w.bit busy due) (left_due : ℕ) (few : suc left_due ≤ circuit_most P) (now : ℕ → Rails)
    (after : ℕ → Bool) (k : ℕ) where
  -- a value lands in a variable
  landed : (var v : ℕ) → Lands P busy after k var w → value_on (channel_width P.channels k) (w.rail (of_channel k)) ≡ Some v
      → ((x : ℕ) → after x ≡ false → now x ≡ w.bit x) → (z : ℕ) → z < length P.vars → after z ≡ false
      → number_on (var_width P.vars z) (now z) ≡ slice_index (set r.to.store var v) z
  landed var v a told bits z less f = ap (number_on (var_width P.vars z)) (bits z f) ∙ cases (z == var)
      (λ (h : (z == var) ≡ true). let e = same_number z var h in
      ap (λ x. number_on (var_width P.vars x) (w.bit x)) e
      ∙ (number_told (var_width P.vars var) (w.bit var) v (ap (λ n. value_on n (w.bit var)) a.widths ∙ (a.told ∙ told))
      ∙ sym (ap (slice_index (set r.to.store var v)) e ∙ get_or-set_same r.to.store var v 0
      (let g : var < length r.to.store = subst (λ (n : ℕ). var < n) (sym r.as_stored) a.into in g))))
      (λ (h : (z == var) ≡ false).
      let ne : z ≡ var → ⊥ = λ (e : z ≡ var). absurd (cc (h, ap (λ x. x == var) e, self_number var)) in
      r.stored z less (a.frees z ne f) ∙ sym (get_or-set_other r.to.store var z v 0 ne))

  -- a value arrives
  module _ (y : Term) (values : List ℕ) (offered : offer_at script k ≡ gives values) (a : Arrives P busy after k w t y) (v : ℕ)
      (next : slice_get values (completed hs k) ≡ Some v) (told : value_on (channel_width P.channels k) (w.rail (of_channel k)) ≡ Some v)
      (bits : (x : ℕ) → after x ≡ false → now x ≡ w.bit x) where
    abbrev here_rests : List OfferValue
    here_rests = set r.to.rests k (gives (behind values (suc (completed hs k))))

    abbrev here_histories : List (List ℕ)
    here_histories = set hs k (history_at hs k ++ v ∷ [])

    here_rest : offer_at r.to.rests k ≡ gives (v ∷ behind values (suc (completed hs k)))
    here_rest = r.rests k ∙ (ap (λ o. left_over o (completed hs k)) offered ∙ ap (λ x. gives x) (behind_some values (completed hs k) v next))

    arrival : Step r.to a.act.at (passing (storing (offering (leaving r.to a.act.at finished) k (gives (behind values (suc (completed hs k))))) a.var v) k v)
    arrival = an_arrival (ap (λ x. statement_at x a.act.at) r.term ∙ a.act.stands) here_rest

    here_long : completed here_histories k ≡ suc (completed hs k)
    here_long = ap length (get_or-set_same hs k (history_at hs k ++ v ∷ []) []
        (let g : k < length hs = subst (λ (n : ℕ). k < n) (sym r.as_long) a.lands.within in g))
        ∙ one_longer (history_at hs k) v

    rest_here : (c : ℕ) → offer_at here_rests c ≡ left_over (offer_at script c) (completed here_histories c)
    rest_here c = cases (c == k)
        (λ (e : (c == k) ≡ true).
        let same : c ≡ k = same_number c k e in
        subst (λ (i : ℕ). offer_at here_rests i ≡ left_over (offer_at script i) (completed here_histories i)) (sym same)
        (get_or-set_same r.to.rests k (gives (behind values (suc (completed hs k)))) nothing
        (let g : k < length r.to.rests = subst (λ (n : ℕ). k < n) (sym r.as_many) a.lands.within in g)
        ∙ (ap (λ n. gives (behind values n)) (sym here_long) ∙ sym (ap (λ o. left_over o (completed here_histories k)) offered))))
        (λ (e : (c == k) ≡ false).
        let ne : c ≡ k → ⊥ = λ (same : c ≡ k). absurd (cc (e, ap (λ x. x == k) same, self_number k)) in
        get_or-set_other r.to.rests k c (gives (behind values (suc (completed hs k)))) nothing ne
        ∙ (r.rests c ∙ sym (ap (λ h. left_over (offer_at script c) (length h)) (get_or-set_other hs k c (history_at hs k ++ v ∷ []) [] ne))))

    arrives_on : Followed P script from (suc most) (cells_passed hs k (value_on (channel_width P.channels k) (w.rail (of_channel k)))) y now after left_due
    arrives_on = subst (λ (o : Option ℕ). Followed P script from (suc most) (cells_passed hs k o) y now after left_due) (sym told) (record {
      to = passing (storing (offering (leaving r.to a.act.at finished) k (gives (behind values (suc (completed hs k))))) a.var v) k v;
      steps = suc r.steps;
      within = omega (arith, r.within);
      paid = omega (arith, r.paid, few);
      leads = leads_on r.leads arrival;
      term = ap (λ x. with_left x a.act.at finished) r.term ∙ sym a.act.then_is;
      passed = ap (λ h. set h k (history_at h k ++ v ∷ [])) r.passed;
      rests = rest_here;
      as_many = length-set r.to.rests k (gives (behind values (suc (completed hs k)))) ∙ r.as_many;
      as_long = length-set hs k (history_at hs k ++ v ∷ []) ∙ r.as_long;
      as_stored = length-set r.to.store a.var v ∙ r.as_stored;
      stored = landed a.var v a.lands told bits;
    })

  -- a value passes inside of the program
  module _ (y : Term) (offered : offer_at script k ≡ nothing) (a : Exchanges P busy after k w t y)
      (bits : (x : ℕ) → after x ≡ false → now x ≡ w.bit x) where
    abbrev sent : ℕ
    sent = value_in r.to a.expression

    given : value_on (channel_width P.channels k) (w.rail (of_channel k)) ≡ Some sent
    given = a.read (slice_index r.to.store) (λ v less calm. r.stored v less calm)

    none_left : (n : ℕ) → left_over (offer_at script k) n ≡ nothing
    none_left n = ap (λ o. left_over o n) offered

    communication : Step r.to a.act.at (passing (storing (leaving (leaving r.to a.act.at finished) a.act.other finished) a.var sent) k sent)
    communication = a_communication a.act.other (ap (λ x. statement_at x a.act.at) r.term ∙ a.act.gives)
        (ap (λ x. statement_at x a.act.other) r.term ∙ a.act.takes) (r.rests k ∙ none_left (completed hs k))

    abbrev longer : List (List ℕ)
    longer = set hs k (history_at hs k ++ sent ∷ [])

    same_rest : (c : ℕ) → offer_at r.to.rests c ≡ left_over (offer_at script c) (completed longer c)
    same_rest c = r.rests c ∙ cases (c == k)
        (λ (e : (c == k) ≡ true).
        subst (λ (i : ℕ). left_over (offer_at script i) (completed hs i) ≡ left_over (offer_at script i) (completed longer i))
        (sym (same_number c k e)) (none_left (completed hs k) ∙ sym (none_left (completed longer k))))
        (λ (e : (c == k) ≡ false).
        let ne : c ≡ k → ⊥ = λ (same : c ≡ k). absurd (cc (e, ap (λ x. x == k) same, self_number k)) in
        sym (ap (λ h. left_over (offer_at script c) (length h)) (get_or-set_other hs k c (history_at hs k ++ sent ∷ []) [] ne)))

    exchanges_on : Followed P script from (suc most) (cells_passed hs k (value_on (channel_width P.channels k) (w.rail (of_channel k)))) y now after left_due
    exchanges_on = subst (λ (o : Option ℕ). Followed P script from (suc most) (cells_passed hs k o) y now after left_due) (sym given) (record {
      to = passing (storing (leaving (leaving r.to a.act.at finished) a.act.other finished) a.var sent) k sent;
      steps = suc r.steps;
      within = omega (arith, r.within);
      paid = omega (arith, r.paid, few);
      leads = leads_on r.leads communication;
      term = ap (λ x. with_left (with_left x a.act.at finished) a.act.other finished) r.term ∙ sym a.act.then_is;
      passed = ap (λ h. set h k (history_at h k ++ sent ∷ [])) r.passed;
      rests = same_rest;
      as_many = r.as_many;
      as_long = length-set hs k (history_at hs k ++ sent ∷ []) ∙ r.as_long;
      as_stored = length-set r.to.store a.var sent ∙ r.as_stored;
      stored = landed a.var sent a.lands given bits;
    })

-- where no variable's acknowledge rises
pub calm : {P : TypedProgram} (w now : Wires) (before after : ℕ → Bool) → ((x : ℕ) → line_ack P now (of_var x) ≡ line_ack P w (of_var x))
    → ((x : ℕ) → Freed P w now (before x) (after x) x ⊥) → (x : ℕ) → after x ≡ false → (now.bit x ≡ w.bit x) × (before x ≡ false)
calm {P = P} w now before after same frees x e = ((frees x e).0, here (frees x e).1)
  where
    here : (before x ≡ false) ⊎ (Rises P w now x ⊎ ⊥) → before x ≡ false
    here (inl b) = b
    here (inr (inl r)) = absurd (cc (same x, r.low, r.high))
    here (inr (inr z)) = absurd z

-- a variable's acknowledge turns over, or it stays: where it rises the value is stored
module _ {P : TypedProgram} {script : List OfferValue} {from : Configuration} {most : ℕ} {hs : List (List ℕ)} {t : Term} (x : ℕ) (w now : Wires)
    (busy after : ℕ → Bool)
    {due : ℕ} (r : Followed P script from most hs t w.bit busy due) (left_due : ℕ) (few : suc left_due ≤ circuit_most P)
    (less : Unrisen P x w now after → suc left_due ≤ due) (others : Others P x w now) (frees : (y : ℕ) → Freed P w now (busy y) (after y) y ⊥) where
  all_same : line_ack P now (of_var x) ≡ line_ack P w (of_var x) → (y : ℕ) → line_ack P now (of_var y) ≡ line_ack P w (of_var y)
  all_same e y = cases (y == x)
      (λ (h : (y == x) ≡ true). ap (λ v. line_ack P now (of_var v)) (same_number y x h) ∙ (e ∙ ap (λ v. line_ack P w (of_var v)) (sym (same_number y x h))))
      (λ (h : (y == x) ≡ false). others y h)

  never_rises : line_ack P now (of_var x) ≡ false → (y : ℕ) → Rises P w now y → ⊥
  never_rises e y z = cases (y == x)
      (λ (h : (y == x) ≡ true). cc (ap (λ v. line_ack P now (of_var v)) (same_number y x h), e, z.high))
      (λ (h : (y == x) ≡ false). cc (others y h, z.low, z.high))

  free_of : ((y : ℕ) → Rises P w now y → ⊥) → (y : ℕ) → after y ≡ false → (now.bit y ≡ w.bit y) × (busy y ≡ false)
  free_of none y e = ((frees y e).0, here (frees y e).1)
    where
      here : (busy y ≡ false) ⊎ (Rises P w now y ⊎ ⊥) → busy y ≡ false
      here (inl b) = b
      here (inr (inl z)) = absurd (none y z)
      here (inr (inr z)) = absurd z

  kept : (y : Term) → Stored P busy after x w now t y → Followed P script from (suc most) hs y now.bit after left_due
  kept y (no_store e s) = stays r left_due now.bit after (calm w now busy after (all_same e) frees) (less (inl e)) y s
  kept y (cleared e h s) = stays r left_due now.bit after (free_of (never_rises h)) (less (inr (inl h))) y s
  kept y (takes_in e h under s) = stays r left_due now.bit after free (less (inr (inr under))) y s
    where
      free : (z : ℕ) → after z ≡ false → (now.bit z ≡ w.bit z) × (busy z ≡ false)
      free z f = ((frees z f).0, here (frees z f).1)
        where
          here : (busy z ≡ false) ⊎ (Rises P w now z ⊎ ⊥) → busy z ≡ false
          here (inl b) = b
          here (inr (inr q)) = absurd q
          here (inr (inl q)) = cases (z == x)
              (λ (e : (z == x) ≡ true). absurd (cc (ap after (same_number z x e), under, f)))
              (λ (e : (z == x) ≡ false). absurd (cc (others z e, q.low, q.high)))
  kept y (stores e h same pass) = record {
    to = storing (leaving r.to pass.act.at finished) x (value_in r.to pass.expression);
    steps = suc r.steps;
    within = omega (arith, r.within);
    paid = omega (arith, r.paid, few);
    leads = leads_on r.leads (an_assignment (ap (λ z. statement_at z pass.act.at) r.term ∙ pass.act.stands));
    term = ap (λ z. with_left z pass.act.at finished) r.term ∙ sym pass.act.then_is;
    passed = r.passed;
    rests = r.rests;
    as_many = r.as_many;
    as_long = r.as_long;
    as_stored = length-set r.to.store x (value_in r.to pass.expression) ∙ r.as_stored;
    stored = here;
  }
    where
      here : (z : ℕ) → z < length P.vars → after z ≡ false → number_on (var_width P.vars z) (now.bit z) ≡ slice_index
          (set r.to.store x (value_in r.to pass.expression)) z
      here z less f = ap (number_on (var_width P.vars z)) (frees z f).0 ∙ cases (z == x)
          (λ (h : (z == x) ≡ true). let e = same_number z x h in
          ap (λ v. number_on (var_width P.vars v) (w.bit v)) e
          ∙ (number_told (var_width P.vars x) (w.bit x) (value_in r.to pass.expression)
          (same ∙ pass.read (slice_index r.to.store) (λ v below calm. r.stored v below calm))
          ∙ sym (ap (slice_index (set r.to.store x (value_in r.to pass.expression))) e
          ∙ get_or-set_same r.to.store x (value_in r.to pass.expression) 0
          (let g : x < length r.to.store = subst (λ (n : ℕ). x < n) (sym r.as_stored) (subst (λ (v : ℕ). v < length P.vars) e less) in g))))
          (λ (h : (z == x) ≡ false).
          r.stored z less (still h (frees z f).1)
          ∙ sym (get_or-set_other r.to.store x z (value_in r.to pass.expression) 0 (λ (e : z ≡ x). absurd (cc (h, ap (λ v. v == x) e, self_number x)))))
        where
          still : (z == x) ≡ false → (busy z ≡ false) ⊎ (Rises P w now z ⊎ ⊥) → busy z ≡ false
          still h (inl b) = b
          still h (inr (inl q)) = absurd (cc (others z h, q.low, q.high))
          still h (inr (inr q)) = absurd q

-- an acknowledge moves
acks : {P : TypedProgram} {script : List OfferValue} {from : Configuration} {most : ℕ} {hs : List (List ℕ)} {t : Term} (w : Wires) (busy after : ℕ → Bool)
    (fitted : Fitted P script)
    {due : ℕ} (r : Followed P script from most hs t w.bit busy due) (left_due : ℕ) → suc left_due ≤ circuit_most P → (y : Term) (k : ℕ)
    → (w.ack k ≡ true → suc left_due ≤ due)
    → (is_heard (kind_at P.channels k) ≡ false → answers (channel_width P.channels k) w k (completed hs k) (offer_at script k) ≡ true) → Arriving P script hs w
    → Acks P busy after k w t y
    → Followed P script from (suc most) (if w.ack k then hs else cells_passed hs k (value_on (channel_width P.channels k) (w.rail (of_channel k)))) y w.bit
    after
    left_due
acks w busy after fitted r left_due few y k less e brought (taken_out out move free) =
    acknowledged w fitted r left_due few w.bit after (λ x f. (refl, free x f)) k less y (e out)
    (w.ack k) refl move
acks {P = P} {script = script} {from = from} {most = most} {hs = hs} w busy after fitted r left_due few y k less e brought (released heard high same free) =
    subst (λ (b : Bool). Followed P script from (suc most) (if b then hs else cells_passed hs k
    (value_on (channel_width P.channels k) (w.rail (of_channel k)))) y w.bit after left_due) (sym high)
    (stays r left_due w.bit after (λ x f. (refl, free x f)) (less high) y same)
acks {P = P} {script = script} {from = from} {most = most} {hs = hs} w busy after fitted r left_due few y k less e brought (taken_in heard alone a) =
    let o = fitted.hears k a.lands.within alone heard in
    let v = next_value (channel_width P.channels k) (completed hs k) (w.rail (of_channel k)) o.0 (fitted.wide k a.lands.within) (fitted.bounded k o.0 o.1)
    (brought k o.0 o.1 a.lands.low) a.lands.some in
    subst (λ (b : Bool). Followed P script from (suc most) (if b then hs else cells_passed hs k
    (value_on (channel_width P.channels k) (w.rail (of_channel k)))) y w.bit after left_due) (sym a.lands.low)
    (arrives_on w fitted r left_due few w.bit after k y o.0 o.1 a v.next v.is v.told (λ x f. refl))
acks {P = P} {script = script} {from = from} {most = most} {hs = hs} w busy after fitted r left_due few y k less e brought (taken_over heard merged a) =
    subst (λ (b : Bool). Followed P script from (suc most) (if b then hs else cells_passed hs k
    (value_on (channel_width P.channels k) (w.rail (of_channel k)))) y w.bit after left_due) (sym a.lands.low)
    (exchanges_on w fitted r left_due few w.bit after k y (fitted.inside k a.lands.within merged heard) a (λ x f. refl))

-- each move of the circuit is a step of the program or none
pub follows : {P : TypedProgram} {script : List OfferValue} {from : Configuration} {most : ℕ} {hs : List (List ℕ)} {t : Term} (w : Wires)
    (busy after : ℕ → Bool) → Fitted P script
    → {due : ℕ} → Followed P script from most hs t w.bit busy due → Arriving P script hs w → (y : Term) (n : Node P.body)
    → ((k : ℕ) → n ≡ ack_node k → is_heard (kind_at P.channels k) ≡ false
    → answers (channel_width P.channels k) w k (completed hs k) (offer_at script k) ≡ true)
    → ((x : ℕ) → Freed P w (wires_after w n) (busy x) (after x) x (Arrival P w n)) → (left_due : ℕ) → suc left_due ≤ circuit_most P → (step : Bool)
    → (Stays P w after step n → suc left_due ≤ due) → Moves P w busy after step t y n
    → Followed P script from (suc most) (passed_after P.channels w hs n) y (wires_after w n).bit after left_due
follows w busy after fitted r brought y go_node e frees left_due few step less move =
    silent r left_due w.bit after (calm w w busy after (λ x. refl) frees) step few less y move
follows w busy after fitted r brought y (own_node s) e frees left_due few step less move =
    silent r left_due w.bit after (calm w w busy after (λ x. refl) frees) step few less y move
follows w busy after fitted r brought y (rail_node k i one) e frees left_due few step less move =
    silent r left_due w.bit after (calm w (rail_turned w k i one) busy after (λ x. refl) frees) step few less y move
follows w busy after fitted r brought y (ack_node k) e frees left_due few step less move =
    acks w busy after fitted r left_due few y k less (e k refl) brought move
follows w busy after fitted r brought y (bit_node x i one) e frees left_due few step less move =
    silent r left_due (bit_turned w x i one).bit after (calm w (bit_turned w x i one) busy after (λ x. refl) frees) step few less y move
follows w busy after fitted r brought y (wrote_node x i) e frees left_due few step less move =
    kept x w (wrote_turned w x i) busy after r left_due few less move.0 frees y move.1
follows w busy after fitted r brought y (joint_node x k) e frees left_due few step less move =
    kept x w (joint_turned w x k) busy after r left_due few less move.0 frees y move.1

-- no assignment is made by the move
abbrev pub NotStored : {P : TypedProgram} {busy after : ℕ → Bool} {x : ℕ} {w now : Wires} {t y : Term} → Stored P busy after x w now t y → Type 0
NotStored (no_store same e) = Unit {0}
NotStored (cleared high low e) = Unit {0}
NotStored (takes_in low high a e) = Unit {0}
NotStored (stores low high told pass) = ⊥

-- the move is no step
abbrev pub NoStep : (P : TypedProgram) (w : Wires) (busy after : ℕ → Bool) (does : Bool) (t y : Term) (n : Node P.body)
    → Moves P w busy after does t y n → Type 0
NoStep P w busy after does t y (ack_node k) move = w.ack k ≡ true
NoStep P w busy after does t y (wrote_node x i) move = NotStored move.1
NoStep P w busy after does t y (joint_node x k) move = NotStored move.1
NoStep P w busy after does t y n move = does ≡ false

module _ {P : TypedProgram} {script : List OfferValue} {from : Configuration} {most : ℕ} {hs : List (List ℕ)} {t : Term} (w : Wires) (busy after : ℕ → Bool)
    {due : ℕ} (r : Followed P script from most hs t w.bit busy due) (left_due : ℕ) (few : suc left_due ≤ circuit_most P) where
  silent_stays : (now : ℕ → Rails) (free : (x : ℕ) → after x ≡ false → (now x ≡ w.bit x) × (busy x ≡ false)) (step : Bool)
      (less : step ≡ false → suc left_due ≤ due) (y : Term) (move : Follows (Decided P w.bit busy) step t y) → step ≡ false
      → (silent r left_due now after free step few less y move).to ≡ r.to
  unfolding silent stays
  silent_stays now free step less y (inl e) still = refl
  silent_stays now free step less y (inr (does, s)) still = absurd (cc (does, still))

  kept_stays : (x : ℕ) (now : Wires) (less : Unrisen P x w now after → suc left_due ≤ due) (others : Others P x w now)
      (frees : (y : ℕ) → Freed P w now (busy y) (after y) y ⊥) (y : Term) (move : Stored P busy after x w now t y) → NotStored move
      → (kept x w now busy after r left_due few less others frees y move).to ≡ r.to
  unfolding kept stays
  kept_stays x now less others frees y (no_store same e) still = refl
  kept_stays x now less others frees y (cleared high low e) still = refl
  kept_stays x now less others frees y (takes_in low high a e) still = refl
  kept_stays x now less others frees y (stores low high told pass) still = absurd still

  module _ (fitted : Fitted P script) (y : Term) (k : ℕ) (less : w.ack k ≡ true → suc left_due ≤ due) (high : w.ack k ≡ true) where
    acknowledged_stays : (free : (x : ℕ) → after x ≡ false → (w.bit x ≡ w.bit x) × (busy x ≡ false))
        (e : answers (channel_width P.channels k) w k (completed hs k) (offer_at script k) ≡ true) (b : Bool) (h : w.ack k ≡ b)
        (move : Passing P (wires_seen P w) busy (of_channel k) b t y)
        → (acknowledged w fitted r left_due few w.bit after free k less y e b h move).to ≡ r.to
    unfolding acknowledged stays
    acknowledged_stays free e true h move = refl
    acknowledged_stays free e false h move = absurd (cc (high, h))

    acks_stay : (e : is_heard (kind_at P.channels k) ≡ false → answers (channel_width P.channels k) w k (completed hs k) (offer_at script k) ≡ true)
        (brought : Arriving P script hs w) (move : Acks P busy after k w t y)
        → (acks w busy after fitted r left_due few y k less e brought move).to ≡ r.to
    unfolding acks stays
    acks_stay e brought (taken_out out move free) = acknowledged_stays (λ x f. (refl, free x f)) (e out) (w.ack k) refl move
    acks_stay e brought (released heard up same free) =
        same_run (λ (b : Bool). if b then hs else cells_passed hs k (value_on (channel_width P.channels k) (w.rail (of_channel k)))) (sym up)
        (stays r left_due w.bit after (λ x f. (refl, free x f)) (less up) y same)
    acks_stay e brought (taken_in heard alone a) = absurd (cc (high, a.lands.low))
    acks_stay e brought (taken_over heard merged a) = absurd (cc (high, a.lands.low))

  -- the program stays where it is by a move that is no step of it
  pub follows_stays : (fitted : Fitted P script) (brought : Arriving P script hs w) (y : Term) (n : Node P.body)
      (e : (k : ℕ) → n ≡ ack_node k → is_heard (kind_at P.channels k) ≡ false
      → answers (channel_width P.channels k) w k (completed hs k) (offer_at script k) ≡ true)
      (frees : (x : ℕ) → Freed P w (wires_after w n) (busy x) (after x) x (Arrival P w n)) (step : Bool)
      (less : Stays P w after step n → suc left_due ≤ due) (move : Moves P w busy after step t y n) → NoStep P w busy after step t y n move
      → (follows w busy after fitted r brought y n e frees left_due few step less move).to ≡ r.to
  unfolding follows
  follows_stays fitted brought y go_node e frees step less move still =
      silent_stays w.bit (calm w w busy after (λ x. refl) frees) step less y move still
  follows_stays fitted brought y (own_node s) e frees step less move still =
      silent_stays w.bit (calm w w busy after (λ x. refl) frees) step less y move still
  follows_stays fitted brought y (rail_node k i one) e frees step less move still =
      silent_stays w.bit (calm w (rail_turned w k i one) busy after (λ x. refl) frees) step less y move still
  follows_stays fitted brought y (ack_node k) e frees step less move still = acks_stay fitted y k less still (e k refl) brought move
  follows_stays fitted brought y (bit_node x i one) e frees step less move still =
      silent_stays (bit_turned w x i one).bit (calm w (bit_turned w x i one) busy after (λ x. refl) frees) step less y move still
  follows_stays fitted brought y (wrote_node x i) e frees step less move still =
      kept_stays x (wrote_turned w x i) less move.0 frees y move.1 still
  follows_stays fitted brought y (joint_node x k) e frees step less move still =
      kept_stays x (joint_turned w x k) less move.0 frees y move.1 still
