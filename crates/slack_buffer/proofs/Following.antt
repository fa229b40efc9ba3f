-- Each run of a program is gone along with by a run of the program with a buffer, of up to three times as many steps.
use Rattle.std.proofs.Common.{◌≡◌, ◌≢◌, ◌⊎◌, ℕ, zero, ◌+◌, ◌*◌, ◌<◌, ◌≤◌, Bool, true, false, List, [], ◌∷◌, ◌++◌, map, length, refl, sym, ap, ◌∙◌, subst, inl, inr, arith}
use Rattle.std.specs.Prelude.{Some}
use Rattle.std.proofs.lemmas.List.{length-set, get_or-set_other}
use Rattle.std.proofs.lemmas.Bool.{cases_eq}
use Rattle.chp_base.specs.declared.span.Span.{Span}
use Rattle.chp_base.specs.declared.channel.Channel.{Channel}
use Rattle.env_script.specs.declared.script.Count.{Count}
use Rattle.env_script.specs.Scripts.{OfferValue, gives, takes, nothing, offer_at, is_over}
use Rattle.env_script.specs.Runs.{history_at}
use Rattle.width_check.specs.declared.typed.Var.{Var}
use Rattle.width_check.specs.Processes.{Formula, Process, skipping, assigning, sending, receiving, choosing, repeating, no_members, and_member, Choices}
use Rattle.width_check.specs.Typing.{IsOfWidth, IsSend, IsReceive, IsProcess}
use Rattle.chp_meaning.specs.Terms.{Term, finished, opened, followed, Place, in_branch, statement_at}
use Rattle.chp_meaning.specs.Steps.{Configuration, value_in, open_branches, one_fewer, leaving, storing, passing, offering, Step, a_skip, an_assignment, a_selection, a_turn, an_end, a_repetition, a_communication, a_delivery, an_arrival, Leads, no_step, one_step}
use Rattle.chp_meaning.proofs.Meeting.{lead_on}
use Rattle.slack_buffer.specs.Buffers.{rerouted, rerouted_choices}
use Rattle.slack_buffer.proofs.Rerouting.{opened_same, followed_same, at_same}
use Rattle.slack_buffer.proofs.Holding.{HoldsChoices, opened_holds, followed_holds, left_holds, at_holds, one_holds}
use Rattle.slack_buffer.proofs.Beside.{Made, IsOn, beside, Ahead, value_more, kept_channel, left_beside, stored_beside, offered_beside, passed_beside, offer_beside, open_beside, at_once, left_at_once, elsewhere}
use Rattle.slack_buffer.proofs.Filling.{through}

-- it stays a configuration of the program

left_on : (cs : List Channel) (vs : List Var) (x : ℕ) (c : Configuration) (w : Place) (l : Term) → IsOn cs vs x c → Made cs vs l → IsOn cs vs x (leaving c w l)
left_on cs vs x c w l is made = record {
  made = left_holds (IsProcess cs vs) (IsOfWidth vs 1) c.term w l is.made made;
  store = is.store;
  rests = is.rests;
  histories = is.histories;
  inner = is.inner;
}

stored_on : (cs : List Channel) (vs : List Var) (x : ℕ) (c : Configuration) (y v : ℕ) → IsOn cs vs x c → IsOn cs vs x (storing c y v)
stored_on cs vs x c y v is = record {
  made = is.made;
  store = length-set c.store y v ∙ is.store;
  rests = is.rests;
  histories = is.histories;
  inner = is.inner;
}

passed_on : (cs : List Channel) (vs : List Var) (x : ℕ) (c : Configuration) (k v : ℕ) → IsOn cs vs x c → IsOn cs vs x (passing c k v)
passed_on cs vs x c k v is = record {
  made = is.made;
  store = is.store;
  rests = is.rests;
  histories = length-set c.histories k (history_at c.histories k ++ v ∷ []) ∙ is.histories;
  inner = is.inner;
}

offered_on : (cs : List Channel) (vs : List Var) (x : ℕ) (c : Configuration) (k : ℕ) (o : OfferValue) → IsOn cs vs x c → k ≢ x → IsOn cs vs x (offering c k o)
offered_on cs vs x c k o is ne = record {
  made = is.made;
  store = is.store;
  rests = length-set c.rests k o ∙ is.rests;
  histories = is.histories;
  inner = get_or-set_other c.rests k x o nothing (λ e. ne (sym e)) ∙ is.inner;
}

-- the environment has a part in another channel alone
given_elsewhere : (cs : List Channel) (vs : List Var) (x : ℕ) (c : Configuration) (k : ℕ) (values : List ℕ) → IsOn cs vs x c →
    offer_at c.rests k ≡ gives values → k ≢ x
given_elsewhere cs vs x c k values is offered same = absurd (cc (is.inner, offered, ap (λ z. offer_at c.rests z) same))

taken_elsewhere : (cs : List Channel) (vs : List Var) (x : ℕ) (c : Configuration) (k : ℕ) (count : Count) → IsOn cs vs x c → offer_at c.rests k ≡ takes count →
    k ≢ x
taken_elsewhere cs vs x c k count is offered same = absurd (cc (is.inner, offered, ap (λ z. offer_at c.rests z) same))

pub step_on : (cs : List Channel) (vs : List Var) (x : ℕ) {c d : Configuration} {at : Place} → IsOn cs vs x c → Step c at d → IsOn cs vs x d
step_on cs vs x {c = c} {at = at} is (a_skip on) = left_on cs vs x c at finished is tt
step_on cs vs x {c = c} {at = at} is (an_assignment {x = y} {e = e} on) =
    stored_on cs vs x (leaving c at finished) y (value_in c e) (left_on cs vs x c at finished is tt)
step_on cs vs x {c = c} {at = at} is (a_selection {choices = choices} {p = p} on true_ones) =
    left_on cs vs x c at (opened p) is (opened_holds (IsProcess cs vs) (IsOfWidth vs 1) p
    (one_holds (IsProcess cs vs) (IsOfWidth vs 1) c choices p
    (at_holds (IsProcess cs vs) (IsOfWidth vs 1) c.term at (choosing false choices) is.made on) true_ones))
step_on cs vs x {c = c} {at = at} is (a_turn {choices = choices} {p = p} on true_ones) =
    let all : HoldsChoices (IsProcess cs vs) (IsOfWidth vs 1) choices =
    at_holds (IsProcess cs vs) (IsOfWidth vs 1) c.term at (choosing true choices) is.made on in
    left_on cs vs x c at (followed (opened p) (and_member (choosing true choices) no_members)) is
    (followed_holds (IsProcess cs vs) (IsOfWidth vs 1) (opened p) (and_member (choosing true choices) no_members)
    (opened_holds (IsProcess cs vs) (IsOfWidth vs 1) p (one_holds (IsProcess cs vs) (IsOfWidth vs 1) c choices p all true_ones)) (all, tt))
step_on cs vs x {c = c} {at = at} is (an_end on true_ones) = left_on cs vs x c at finished is tt
step_on cs vs x {c = c} {at = at} is (a_repetition {p = p} on) =
    let all = at_holds (IsProcess cs vs) (IsOfWidth vs 1) c.term at (repeating p) is.made on in
    left_on cs vs x c at (followed (opened p) (and_member (repeating p) no_members)) is
    (followed_holds (IsProcess cs vs) (IsOfWidth vs 1) (opened p) (and_member (repeating p) no_members)
    (opened_holds (IsProcess cs vs) (IsOfWidth vs 1) p all) (all, tt))
step_on cs vs x {c = c} {at = at} is (a_communication other {k = k} {x = y} {e = e} on there inside) =
    passed_on cs vs x (storing (leaving (leaving c at finished) other finished) y (value_in c e)) k (value_in c e)
    (stored_on cs vs x (leaving (leaving c at finished) other finished) y (value_in c e)
    (left_on cs vs x (leaving c at finished) other finished (left_on cs vs x c at finished is tt) tt))
step_on cs vs x {c = c} {at = at} is (a_delivery {k = k} {e = e} {count = count} on offered more) =
    passed_on cs vs x (offering (leaving c at finished) k (takes (one_fewer count))) k (value_in c e)
    (offered_on cs vs x (leaving c at finished) k (takes (one_fewer count)) (left_on cs vs x c at finished is tt)
    (taken_elsewhere cs vs x c k count is offered))
step_on cs vs x {c = c} {at = at} is (an_arrival {k = k} {x = y} {v = v} {more = more} on offered) =
    passed_on cs vs x (storing (offering (leaving c at finished) k (gives more)) y v) k v
    (stored_on cs vs x (offering (leaving c at finished) k (gives more)) y v
    (offered_on cs vs x (leaving c at finished) k (gives more) (left_on cs vs x c at finished is tt)
    (given_elsewhere cs vs x c k (v ∷ more) is offered)))

-- a step, by its kind

chosen_beside : (cs : List Channel) (vs : List Var) (x v : ℕ) (c : Configuration) → IsOn cs vs x c →
    (at : Place) (again : Bool) (choices : Choices) (ps : List Process) →
    statement_at c.term at ≡ Some (choosing again choices) → open_branches c choices ≡ ps →
    open_branches (beside cs vs x v c) (rerouted_choices x (length cs) choices) ≡ map (rerouted x (length cs)) ps
chosen_beside cs vs x v c is at again choices ps on true_ones =
    open_beside cs vs x v c choices is.store (at_holds (IsProcess cs vs) (IsOfWidth vs 1) c.term at (choosing again choices) is.made on)
    ∙ ap (λ qs. map (rerouted x (length cs)) qs) true_ones

communicated_beside : (cs : List Channel) (vs : List Var) (x v : ℕ) (c : Configuration) → IsOn cs vs x c → x < length cs →
    (at other : Place) (k y : ℕ) (s t u : Span)
    (e : Formula) → statement_at c.term at ≡ Some (sending k s e) → statement_at c.term other ≡ Some (receiving k t y u) → offer_at c.rests k ≡ nothing →
    Ahead cs vs x v c (passing (storing (leaving (leaving c at finished) other finished) y (value_in c e)) k (value_in c e))
communicated_beside cs vs x v c is within at other k y s t u e on there inside = by_number (cases_eq k x)
  where
    by_number : (k ≡ x) ⊎ (k ≡ x → ⊥) → Ahead cs vs x v c (passing (storing (leaving (leaving c at finished) other finished) y (value_in c e)) k (value_in c e))
    by_number (inl same) =
        subst (λ z. Ahead cs vs x v c (passing (storing (leaving (leaving c at finished) other finished) y (value_in c e)) z (value_in c e))) (sym same)
        (through cs vs x v c is within at other y s t u e (on ∙ ap (λ z. Some (sending z s e)) same) (there ∙ ap (λ z. Some (receiving z t y u)) same))
    by_number (inr ne) = elsewhere cs vs x v c is at other k y s t u e ne on there inside

delivered_beside : (cs : List Channel) (vs : List Var) (x v : ℕ) (c : Configuration) → IsOn cs vs x c →
    (at : Place) (k : ℕ) (s : Span) (e : Formula) (count : Count) →
    statement_at c.term at ≡ Some (sending k s e) → offer_at c.rests k ≡ takes count → is_over count 0 ≡ true →
    Ahead cs vs x v c (passing (offering (leaving c at finished) k (takes (one_fewer count))) k (value_in c e))
delivered_beside cs vs x v c is at k s e count on offered more =
    at_once cs vs x v c (passing (offering (leaving c at finished) k (takes (one_fewer count))) k (value_in c e))
    (passing (offering (leaving (beside cs vs x v c) (in_branch zero at) finished) k (takes (one_fewer count))) k (value_in (beside cs vs x v c) e))
    (in_branch zero at)
    (a_delivery (at_same x (length cs) c.term at (sending k s e) on) (offer_beside cs vs x v c k offers ∙ offered) more)
    (ap (λ z. passing (offering z k (takes (one_fewer count))) k (value_in (beside cs vs x v c) e)) (left_beside cs vs x v c at finished)
    ∙ (ap (λ n. passing (offering (beside cs vs x v (leaving c at finished)) k (takes (one_fewer count))) k n)
    (value_more vs c.store v e is.store sends.sent.reads)
    ∙ (ap (λ z. passing z k (value_in c e)) (offered_beside cs vs x v (leaving c at finished) k (takes (one_fewer count)) offers)
    ∙ passed_beside cs vs x v (offering (leaving c at finished) k (takes (one_fewer count))) k (value_in c e) passes
    (taken_elsewhere cs vs x c k count is offered))))
  where
    sends : IsSend cs vs k e
    sends = at_holds (IsProcess cs vs) (IsOfWidth vs 1) c.term at (sending k s e) is.made on

    offers : k < length c.rests
    offers = let a = sends.within in let b = is.rests in omega arith

    passes : k < length c.histories
    passes = let a = sends.within in let b = is.histories in omega arith

arrived_beside : (cs : List Channel) (vs : List Var) (x v : ℕ) (c : Configuration) → IsOn cs vs x c → (at : Place) (k y n : ℕ) (s t : Span) (more : List ℕ) →
    statement_at c.term at ≡ Some (receiving k s y t) → offer_at c.rests k ≡ gives (n ∷ more) →
    Ahead cs vs x v c (passing (storing (offering (leaving c at finished) k (gives more)) y n) k n)
arrived_beside cs vs x v c is at k y n s t more on offered =
    at_once cs vs x v c (passing (storing (offering (leaving c at finished) k (gives more)) y n) k n)
    (passing (storing (offering (leaving (beside cs vs x v c) (in_branch zero at) finished) k (gives more)) y n) k n)
    (in_branch zero at)
    (an_arrival (at_same x (length cs) c.term at (receiving k s y t) on ∙ ap (λ z. Some (receiving z s y t)) (kept_channel x (length cs) k ne))
    (offer_beside cs vs x v c k offers ∙ offered))
    (ap (λ z. passing (storing (offering z k (gives more)) y n) k n) (left_beside cs vs x v c at finished)
    ∙ (ap (λ z. passing (storing z y n) k n) (offered_beside cs vs x v (leaving c at finished) k (gives more) offers)
    ∙ (ap (λ z. passing z k n) (stored_beside cs vs x v (offering (leaving c at finished) k (gives more)) y n writes)
    ∙ passed_beside cs vs x v (storing (offering (leaving c at finished) k (gives more)) y n) k n passes ne)))
  where
    ne : k ≢ x
    ne = given_elsewhere cs vs x c k (n ∷ more) is offered

    receives : IsReceive cs vs k y
    receives = at_holds (IsProcess cs vs) (IsOfWidth vs 1) c.term at (receiving k s y t) is.made on

    offers : k < length c.rests
    offers = let a = receives.within in let b = is.rests in omega arith

    writes : y < length c.store
    writes = let a = receives.target in let b = is.store in omega arith

    passes : k < length c.histories
    passes = let a = receives.within in let b = is.histories in omega arith

pub step_beside : (cs : List Channel) (vs : List Var) (x v : ℕ) {c d : Configuration} {at : Place} → IsOn cs vs x c → x < length cs → Step c at d →
    Ahead cs vs x v c d
step_beside cs vs x v {c = c} {at = at} is within (a_skip on) =
    left_at_once cs vs x v c at finished finished refl (a_skip (at_same x (length cs) c.term at skipping on))
step_beside cs vs x v {c = c} {at = at} is within (an_assignment {x = y} {s = s} {e = e} on) =
    let typed = at_holds (IsProcess cs vs) (IsOfWidth vs 1) c.term at (assigning y s e) is.made on in
    at_once cs vs x v c (storing (leaving c at finished) y (value_in c e))
    (storing (leaving (beside cs vs x v c) (in_branch zero at) finished) y (value_in (beside cs vs x v c) e)) (in_branch zero at)
    (an_assignment (at_same x (length cs) c.term at (assigning y s e) on))
    (ap (λ z. storing z y (value_in (beside cs vs x v c) e)) (left_beside cs vs x v c at finished)
    ∙ (ap (λ n. storing (beside cs vs x v (leaving c at finished)) y n) (value_more vs c.store v e is.store typed.1.reads)
    ∙ stored_beside cs vs x v (leaving c at finished) y (value_in c e) (let a = typed.0 in let b = is.store in omega arith)))
step_beside cs vs x v {c = c} {at = at} is within (a_selection {choices = choices} {p = p} on true_ones) =
    left_at_once cs vs x v c at (opened p) (opened (rerouted x (length cs) p)) (opened_same x (length cs) p)
    (a_selection (at_same x (length cs) c.term at (choosing false choices) on) (chosen_beside cs vs x v c is at false choices (p ∷ []) on true_ones))
step_beside cs vs x v {c = c} {at = at} is within (a_turn {choices = choices} {p = p} on true_ones) =
    left_at_once cs vs x v c at (followed (opened p) (and_member (choosing true choices) no_members))
    (followed (opened (rerouted x (length cs) p)) (and_member (choosing true (rerouted_choices x (length cs) choices)) no_members))
    (ap (λ z. followed z (and_member (choosing true (rerouted_choices x (length cs) choices)) no_members)) (opened_same x (length cs) p)
    ∙ followed_same x (length cs) (opened p) (and_member (choosing true choices) no_members))
    (a_turn (at_same x (length cs) c.term at (choosing true choices) on) (chosen_beside cs vs x v c is at true choices (p ∷ []) on true_ones))
step_beside cs vs x v {c = c} {at = at} is within (an_end {choices = choices} on true_ones) =
    left_at_once cs vs x v c at finished finished refl
    (an_end (at_same x (length cs) c.term at (choosing true choices) on) (chosen_beside cs vs x v c is at true choices [] on true_ones))
step_beside cs vs x v {c = c} {at = at} is within (a_repetition {p = p} on) =
    left_at_once cs vs x v c at (followed (opened p) (and_member (repeating p) no_members))
    (followed (opened (rerouted x (length cs) p)) (and_member (repeating (rerouted x (length cs) p)) no_members))
    (ap (λ z. followed z (and_member (repeating (rerouted x (length cs) p)) no_members)) (opened_same x (length cs) p)
    ∙ followed_same x (length cs) (opened p) (and_member (repeating p) no_members))
    (a_repetition (at_same x (length cs) c.term at (repeating p) on))
step_beside cs vs x v {c = c} {at = at} is within (a_communication other {k = k} {x = y} {s = s} {t = t} {u = u} {e = e} on there inside) =
    communicated_beside cs vs x v c is within at other k y s t u e on there inside
step_beside cs vs x v {c = c} {at = at} is within (a_delivery {k = k} {s = s} {e = e} {count = count} on offered more) =
    delivered_beside cs vs x v c is at k s e count on offered more
step_beside cs vs x v {c = c} {at = at} is within (an_arrival {k = k} {x = y} {v = n} {s = s} {t = t} {more = more} on offered) =
    arrived_beside cs vs x v c is at k y n s t more on offered

-- runs

pub record RunsAhead (cs : List Channel) (vs : List Var) (x v m : ℕ) (c d : Configuration) : Type 0 where
  pub last : ℕ
  pub steps : ℕ
  pub few : steps ≤ 3 * m
  pub leads : Leads (beside cs vs x v c) steps (beside cs vs x last d)
  pub on : IsOn cs vs x d

pub run_beside : (cs : List Channel) (vs : List Var) (x v : ℕ) {m : ℕ} {c d : Configuration} → IsOn cs vs x c → x < length cs → Leads c m d →
    RunsAhead cs vs x v m c d
run_beside cs vs x v is within no_step = record { last = v; steps = 0; few = omega arith; leads = no_step; on = is }
run_beside cs vs x v is within (one_step s l) =
    let a = step_beside cs vs x v is within s in
    let b = run_beside cs vs x a.last (step_on cs vs x is s) within l in
    record { last = b.last; steps = a.steps + b.steps; few = (let f = a.few in let g = b.few in omega arith); leads = lead_on a.leads b.leads; on = b.on }
