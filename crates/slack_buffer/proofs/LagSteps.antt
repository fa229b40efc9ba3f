-- Each step of a program with a buffer leaves the buffer behind by one value at most.
use Rattle.std.proofs.Common.{◌≡◌, ◌≢◌, ℕ, zero, suc, ◌-◌, ◌^◌, ◌<◌, ◌≤◌, true, false, List, [], ◌∷◌, ◌++◌, map, length, refl, sym, ap, ◌∙◌, subst, inl, inr, arith}
use Rattle.std.specs.Prelude.{slice_index, slice_set, replicate, Some}
use Rattle.std.proofs.lemmas.List.{length-set, length-map, length-append, length-replicate, get_or-set_other, get_or-set_same}
use Rattle.chp_base.specs.declared.span.Span.{Span}
use Rattle.chp_base.specs.declared.channel.Channel.{Channel}
use Rattle.chp_base.specs.declared.channel.Kind.TheVariants.{Chan}
use Rattle.env_script.specs.declared.script.Count.{Count}
use Rattle.env_script.specs.Scripts.{OfferValue, gives, takes, nothing, offer_at, IsScript}
use Rattle.env_script.specs.Runs.{history_at}
use Rattle.width_check.specs.declared.typed.Var.{Var}
use Rattle.width_check.specs.Processes.{Formula, reading, Process, skipping, assigning, sending, receiving, in_turn, choosing, repeating, no_members, and_member, TypedProgram}
use Rattle.width_check.specs.Typing.{kind_at, channel_width, IsProcess}
use Rattle.width_check.proofs.Bounds.{value_fits, width_some}
use Rattle.chp_meaning.specs.Terms.{Term, finished, active, in_parallel, no_branches, and_branch, is_finished, opened, followed, Place, in_branch, statement_at, with_left}
use Rattle.chp_meaning.specs.Steps.{Configuration, value_in, one_fewer, leaving, storing, passing, offering, Step, a_skip, an_assignment, a_selection, a_turn, an_end, a_repetition, a_communication, a_delivery, an_arrival, Leads, no_step, one_step, start_of}
use Rattle.slack_buffer.specs.Buffers.{nowhere, copy_name, slot_name, rerouted, passing_on, buffered, LagsByOne}
use Rattle.slack_buffer.proofs.Rerouting.{together_open}
use Rattle.slack_buffer.proofs.Holding.{HoldsChoices, opened_holds, followed_holds, left_holds, at_holds, one_holds}
use Rattle.slack_buffer.proofs.Beside.{whole_value}
use Rattle.slack_buffer.proofs.Filling.{taking, giving, empty, full}
use Rattle.slack_buffer.proofs.Lagging.{Leaves, AnyGuard, Calm, rerouted_leaves, Stage, resting, is_empty, is_full, stage_open, stage_lags, Lags, Sides, side_of, resting_at, empty_at, full_at, kind_of, not_buffer}
use Rattle.slack_buffer.proofs.Passing.{inner_offer, no_history}

sides : {x w n b : ℕ} {c : Configuration} (l : Lags x w n b c) (at : Place) (p : Process) → statement_at c.term at ≡ Some p → Sides l.main l.turn at p
sides l at p on = side_of l.main l.turn at p (ap (λ t. statement_at t at) (sym l.stands) ∙ on)

-- the parts of a step

main_left : {x w n b : ℕ} {c : Configuration} → Lags x w n b c → (at : Place) (t : Term) → Calm x w n b t → Lags x w n b (leaving c (in_branch zero at) t)
main_left {x = x} {w = w} {n = n} {b = b} l at t calm = record {
  main = with_left l.main at t;
  turn = l.turn;
  stands = ap (λ z. with_left z (in_branch zero at) t) l.stands ∙ together_open (with_left l.main at t) l.turn (stage_open l.stage);
  calm = left_holds (Leaves x w n b) AnyGuard l.main at t l.calm calm;
  stage = l.stage;
  store = l.store;
  chan = l.chan;
  copy = l.copy;
  inner = l.inner;
  new_inner = l.new_inner;
}

stored_lags : {x w n b : ℕ} {c : Configuration} → Lags x w n b c → (y v : ℕ) → y < b → Lags x w n b (storing c y v)
stored_lags {x = x} {w = w} {n = n} {b = b} {c = c} l y v below = record {
  main = l.main;
  turn = l.turn;
  stands = l.stands;
  calm = l.calm;
  stage = subst (λ z. Stage x w n b l.turn (history_at c.histories x) (history_at c.histories n) z)
      (sym (get_or-set_other c.store y b v 0 (λ e. omega (arith, e, below)))) l.stage;
  store = (let e = length-set c.store y v in let h = l.store in omega arith);
  chan = l.chan;
  copy = l.copy;
  inner = l.inner;
  new_inner = l.new_inner;
}

passed_lags : {x w n b : ℕ} {c : Configuration} → Lags x w n b c → (k v : ℕ) → k ≢ x → k ≢ n → Lags x w n b (passing c k v)
passed_lags {x = x} {w = w} {n = n} {b = b} {c = c} l k v ne new_ne = record {
  main = l.main;
  turn = l.turn;
  stands = l.stands;
  calm = l.calm;
  stage = subst (λ z. Stage x w n b l.turn z (history_at (slice_set c.histories k grown) n) (slice_index c.store b))
      (sym (get_or-set_other c.histories k x grown [] (λ e. ne (sym e))))
      (subst (λ z. Stage x w n b l.turn (history_at c.histories x) z (slice_index c.store b))
      (sym (get_or-set_other c.histories k n grown [] (λ e. new_ne (sym e))))
      l.stage);
  store = l.store;
  chan = (let e = length-set c.histories k grown in let h = l.chan in omega arith);
  copy = (let e = length-set c.histories k grown in let h = l.copy in omega arith);
  inner = l.inner;
  new_inner = l.new_inner;
}
  where
    grown : List ℕ
    grown = history_at c.histories k ++ v ∷ []

offered_lags : {x w n b : ℕ} {c : Configuration} → Lags x w n b c → (k : ℕ) (o : OfferValue) → k ≢ x → k ≢ n → Lags x w n b (offering c k o)
offered_lags {x = x} {n = n} {c = c} l k o ne new_ne = record {
  main = l.main;
  turn = l.turn;
  stands = l.stands;
  calm = l.calm;
  stage = l.stage;
  store = l.store;
  chan = l.chan;
  copy = l.copy;
  inner = get_or-set_other c.rests k x o nothing (λ e. ne (sym e)) ∙ l.inner;
  new_inner = get_or-set_other c.rests k n o nothing (λ e. new_ne (sym e)) ∙ l.new_inner;
}

-- a statement that the buffer doesn't have is one of the program
on_main : {x w n b : ℕ} {c : Configuration} (l : Lags x w n b c) (at : Place) (p : Process) → statement_at c.term at ≡ Some p →
    kind_of p ≢ 7 → kind_of p ≢ 3 → kind_of p ≢ 2 → (v : Place) × (at ≡ in_branch zero v) × (statement_at l.main v ≡ Some p)
on_main l at p on f g h = by_side (sides l at p on)
  where
    by_side : Sides l.main l.turn at p → (v : Place) × (at ≡ in_branch zero v) × (statement_at l.main v ≡ Some p)
    by_side (inl r) = r
    by_side (inr r) = absurd (not_buffer r.0 p l.stage r.2 f g h)

-- the program leaves something at a place of its own
leaves_at : {x w n b : ℕ} {c : Configuration} → Lags x w n b c → (at v : Place) (t : Term) → at ≡ in_branch zero v → Calm x w n b t →
    Lags x w n b (leaving c at t)
leaves_at {x = x} {w = w} {n = n} {b = b} {c = c} l at v t same calm = subst (λ z. Lags x w n b (leaving c z t)) (sym same) (main_left l v t calm)

-- the buffer begins a turn

stage_begins : {x w n b v : ℕ} {u : Term} {h g : List ℕ} (at : Place) (p : Process) → Stage x w n b u h g v → statement_at u at ≡ Some (repeating p) →
    Stage x w n b (with_left u at (followed (opened p) (and_member (repeating p) no_members))) h g v
stage_begins {x = x} {w = w} {n = n} {b = b} at p (resting {h = h} {v = v}) on =
    let r = resting_at x w n b at (repeating p) on in
    let body : p ≡ in_turn (and_member (taking x w n b) (and_member (giving x w n b) no_members)) = cc r.1 in
    subst (λ z. Stage x w n b (with_left (active (passing_on x w n b)) z (followed (opened p) (and_member (repeating p) no_members))) h h v) (sym r.0)
    (subst (λ q. Stage x w n b (followed (opened q) (and_member (repeating q) no_members)) h h v) (sym body) is_empty)
stage_begins {x = x} {w = w} {n = n} {b = b} at p is_empty on = absurd (cc (empty_at x w n b at (repeating p) on).1)
stage_begins {x = x} {w = w} {n = n} {b = b} at p (is_full some small) on = absurd (cc (full_at x w n b at (repeating p) on).1)

turn_begins : {x w n b : ℕ} {c : Configuration} (l : Lags x w n b c) (v : Place) (p : Process) → statement_at l.turn v ≡ Some (repeating p) →
    Lags x w n b (leaving c (in_branch (suc zero) v) (followed (opened p) (and_member (repeating p) no_members)))
turn_begins l v p on =
    let t = followed (opened p) (and_member (repeating p) no_members) in
    let stage = stage_begins v p l.stage on in record {
      main = l.main;
      turn = with_left l.turn v t;
      stands = ap (λ z. with_left z (in_branch (suc zero) v) t) l.stands ∙ together_open l.main (with_left l.turn v t) (stage_open stage);
      calm = l.calm;
      stage = stage;
      store = l.store;
      chan = l.chan;
      copy = l.copy;
      inner = l.inner;
      new_inner = l.new_inner;
    }

-- the buffer takes a value

pub record Takes (x w n b : ℕ) (u : Term) (h g : List ℕ) (at : Place) (k y : ℕ) : Type 0 where
  pub chan : k ≡ x
  pub var : y ≡ b
  pub same : h ≡ g
  pub next : with_left u at finished ≡ full x w n b

stage_takes : {x w n b v : ℕ} {u : Term} {h g : List ℕ} (at : Place) (k y : ℕ) (s t : Span) → Stage x w n b u h g v →
    statement_at u at ≡ Some (receiving k s y t) →
    Takes x w n b u h g at k y
stage_takes {x = x} {w = w} {n = n} {b = b} at k y s t resting on = absurd (cc (resting_at x w n b at (receiving k s y t) on).1)
stage_takes {x = x} {w = w} {n = n} {b = b} at k y s t is_empty on =
    let r = empty_at x w n b at (receiving k s y t) on in
    record { chan = cc r.1; var = cc r.1; same = refl; next = ap (λ z. with_left (empty x w n b) z finished) r.0 }
stage_takes {x = x} {w = w} {n = n} {b = b} at k y s t (is_full some small) on = absurd (cc (full_at x w n b at (receiving k s y t) on).1)

-- the buffer gives its value on

pub record Gives (x w n b v : ℕ) (u : Term) (h g : List ℕ) (at : Place) (k : ℕ) (e : Formula) : Type 0 where
  pub chan : k ≡ n
  pub sent : e ≡ reading b (w - 1) 0 nowhere
  pub one_more : h ≡ g ++ v ∷ []
  pub some : 1 ≤ w
  pub small : v < 2 ^ w
  pub next : with_left u at finished ≡ active (passing_on x w n b)

stage_gives : {x w n b v : ℕ} {u : Term} {h g : List ℕ} (at : Place) (k : ℕ) (s : Span) (e : Formula) → Stage x w n b u h g v →
    statement_at u at ≡ Some (sending k s e) →
    Gives x w n b v u h g at k e
stage_gives {x = x} {w = w} {n = n} {b = b} at k s e resting on = absurd (cc (resting_at x w n b at (sending k s e) on).1)
stage_gives {x = x} {w = w} {n = n} {b = b} at k s e is_empty on = absurd (cc (empty_at x w n b at (sending k s e) on).1)
stage_gives {x = x} {w = w} {n = n} {b = b} at k s e (is_full some small) on =
    let r = full_at x w n b at (sending k s e) on in
    record { chan = cc r.1; sent = cc r.1; one_more = refl; some = some; small = small; next = ap (λ z. with_left (full x w n b) z finished) r.0 }

-- something is left at a place of the program, and something at one of the buffer

abbrev Both : Configuration → Place → Place → Configuration
Both c v u = leaving (leaving c (in_branch zero v) finished) (in_branch (suc zero) u) finished

abbrev BothBack : Configuration → Place → Place → Configuration
BothBack c v u = leaving (leaving c (in_branch (suc zero) u) finished) (in_branch zero v) finished

fills : {x w n b : ℕ} {c : Configuration} → x < n → (l : Lags x w n b c) (at other : Place) (k y val : ℕ) → Takes x w n b l.turn (history_at c.histories x)
    (history_at c.histories n) other k y → 1 ≤ w → val < 2 ^ w → Lags x w n b (passing (storing (Both c at other) y val) k val)
fills {x = x} {w = w} {n = n} {b = b} {c = c} within l at other k y val r some small =
    subst (λ z. Lags x w n b (passing (storing (Both c at other) z val) k val)) (sym r.var)
    (subst (λ z. Lags x w n b (passing (storing (Both c at other) b val) z val)) (sym r.chan) (record {
      main = with_left l.main at finished;
      turn = full x w n b;
      stands = ap (λ z. with_left z (in_branch (suc zero) other) finished)
          (ap (λ z. with_left z (in_branch zero at) finished) l.stands ∙ together_open (with_left l.main at finished) l.turn (stage_open l.stage))
          ∙ (together_open (with_left l.main at finished) (with_left l.turn other finished) (ap (λ z. is_finished z) r.next)
          ∙ ap (λ z. in_parallel (and_branch (with_left l.main at finished) (and_branch z no_branches))) r.next);
      calm = left_holds (Leaves x w n b) AnyGuard l.main at finished l.calm tt;
      stage = stage;
      store = (let e = length-set c.store b val in let h = l.store in omega arith);
      chan = (let e = length-set c.histories x grown in let h = l.chan in omega arith);
      copy = (let e = length-set c.histories x grown in let h = l.copy in omega arith);
      inner = l.inner;
      new_inner = l.new_inner;
    }))
  where
    grown : List ℕ
    grown = history_at c.histories x ++ val ∷ []

    stage : Stage x w n b (full x w n b) (history_at (slice_set c.histories x grown) x) (history_at (slice_set c.histories x grown) n)
        (slice_index (slice_set c.store b val) b)
    stage =
        subst (λ z. Stage x w n b (full x w n b) z (history_at (slice_set c.histories x grown) n) (slice_index (slice_set c.store b val) b))
        (sym (get_or-set_same c.histories x grown [] l.chan))
        (subst (λ z. Stage x w n b (full x w n b) grown z (slice_index (slice_set c.store b val) b))
        (r.same ∙ sym (get_or-set_other c.histories x n grown [] (λ e. omega (arith, e, within))))
        (subst (λ z. Stage x w n b (full x w n b) grown (history_at c.histories x) z) (sym (get_or-set_same c.store b val 0 l.store)) (is_full some small)))

gives_on : {x w n b : ℕ} {c : Configuration} → x < n → (l : Lags x w n b c) (at other : Place) (k y val : ℕ) (e : Formula) →
    Gives x w n b (slice_index c.store b) l.turn
    (history_at c.histories x) (history_at c.histories n) other k e → val ≡ slice_index c.store b → y < b →
    Lags x w n b (passing (storing (BothBack c at other) y val) k val)
gives_on {x = x} {w = w} {n = n} {b = b} {c = c} within l at other k y val e r same below =
    subst (λ z. Lags x w n b (passing (storing (BothBack c at other) y val) z val)) (sym r.chan) (record {
      main = with_left l.main at finished;
      turn = active (passing_on x w n b);
      stands = ap (λ z. with_left z (in_branch zero at) finished)
          (ap (λ z. with_left z (in_branch (suc zero) other) finished) l.stands
          ∙ (together_open l.main (with_left l.turn other finished) (ap (λ z. is_finished z) r.next)
          ∙ ap (λ z. in_parallel (and_branch l.main (and_branch z no_branches))) r.next))
          ∙ together_open (with_left l.main at finished) (active (passing_on x w n b)) refl;
      calm = left_holds (Leaves x w n b) AnyGuard l.main at finished l.calm tt;
      stage = stage;
      store = (let q = length-set c.store y val in let h = l.store in omega arith);
      chan = (let q = length-set c.histories n grown in let h = l.chan in omega arith);
      copy = (let q = length-set c.histories n grown in let h = l.copy in omega arith);
      inner = l.inner;
      new_inner = l.new_inner;
    })
  where
    grown : List ℕ
    grown = history_at c.histories n ++ val ∷ []

    now_same : history_at (slice_set c.histories n grown) n ≡ history_at (slice_set c.histories n grown) x
    now_same = get_or-set_same c.histories n grown [] l.copy
        ∙ (ap (λ z. history_at c.histories n ++ z ∷ []) same
        ∙ (sym r.one_more ∙ sym (get_or-set_other c.histories n x grown [] (λ q. omega (arith, q, within)))))

    stage : Stage x w n b (active (passing_on x w n b)) (history_at (slice_set c.histories n grown) x) (history_at (slice_set c.histories n grown) n)
        (slice_index (slice_set c.store y val) b)
    stage = subst (λ z. Stage x w n b (active (passing_on x w n b)) (history_at (slice_set c.histories n grown) x) z (slice_index (slice_set c.store y val) b))
        (sym now_same) resting

-- a communication, by where its two sides stand
communicates : {x w n b : ℕ} {c : Configuration} → x < n → (l : Lags x w n b c) (at other : Place) (k y : ℕ) (s t u : Span) (e : Formula) →
    statement_at c.term at ≡ Some (sending k s e) → statement_at c.term other ≡ Some (receiving k t y u) →
    Lags x w n b (passing (storing (leaving (leaving c at finished) other finished) y (value_in c e)) k (value_in c e))
communicates {x = x} {w = w} {n = n} {b = b} {c = c} within l at other k y s t u e on there =
    by_sides (sides l at (sending k s e) on) (sides l other (receiving k t y u) there)
  where
    Goal : Place → Place → Type 0
    Goal p q = Lags x w n b (passing (storing (leaving (leaving c p finished) q finished) y (value_in c e)) k (value_in c e))

    placed : (v q : Place) → at ≡ v → other ≡ q → Goal v q → Goal at other
    placed v q f g h = subst (λ z. Goal z other) (sym f) (subst (λ z. Goal v z) (sym g) h)

    by_sides : Sides l.main l.turn at (sending k s e) → Sides l.main l.turn other (receiving k t y u) → Goal at other
    by_sides (inl r) (inl q) =
        let f = at_holds (Leaves x w n b) AnyGuard l.main r.0 (sending k s e) l.calm r.2 in
        let g = at_holds (Leaves x w n b) AnyGuard l.main q.0 (receiving k t y u) l.calm q.2 in
        placed (in_branch zero r.0) (in_branch zero q.0) r.1 q.1
        (passed_lags (stored_lags (main_left (main_left l r.0 finished tt) q.0 finished tt) y (value_in c e) g.1) k (value_in c e) g.0
        (λ h. omega (arith, h, f.0)))
    by_sides (inl r) (inr q) =
        let f = at_holds (Leaves x w n b) AnyGuard l.main r.0 (sending k s e) l.calm r.2 in
        let g = stage_takes q.0 k y t u l.stage q.2 in
        let formed = f.1 g.chan in
        placed (in_branch zero r.0) (in_branch (suc zero) q.0) r.1 q.1
        (fills within l r.0 q.0 k y (value_in c e) g (subst (λ z. 1 ≤ z) formed.1 (width_some e formed.0))
        (subst (λ z. value_in c e < 2 ^ z) formed.1 (value_fits (slice_index c.store) e formed.0)))
    by_sides (inr r) (inl q) =
        let f = stage_gives r.0 k s e l.stage r.2 in
        let g = at_holds (Leaves x w n b) AnyGuard l.main q.0 (receiving k t y u) l.calm q.2 in
        placed (in_branch (suc zero) r.0) (in_branch zero q.0) r.1 q.1
        (gives_on within l q.0 r.0 k y (value_in c e) e f
        (ap (λ z. value_in c z) f.sent ∙ whole_value (slice_index c.store b) w f.some f.small) g.1)
    by_sides (inr r) (inr q) =
        let f = stage_gives r.0 k s e l.stage r.2 in
        let g = stage_takes q.0 k y t u l.stage q.2 in
        absurd (omega (arith, f.chan, g.chan, within))

given_apart : (rests : List OfferValue) (j k : ℕ) (values : List ℕ) → offer_at rests j ≡ nothing → offer_at rests k ≡ gives values → k ≢ j
given_apart rests j k values none some same = absurd (cc (none, some, ap (λ z. offer_at rests z) same))

taken_apart : (rests : List OfferValue) (j k : ℕ) (count : Count) → offer_at rests j ≡ nothing → offer_at rests k ≡ takes count → k ≢ j
taken_apart rests j k count none some same = absurd (cc (none, some, ap (λ z. offer_at rests z) same))

pub step_lags : {x w n b : ℕ} {c d : Configuration} {at : Place} → x < n → Lags x w n b c → Step c at d → Lags x w n b d
step_lags {at = at} within l (a_skip on) =
    let r = on_main l at skipping on (λ e. omega (arith, e)) (λ e. omega (arith, e)) (λ e. omega (arith, e)) in leaves_at l at r.0 finished r.1 tt
step_lags {x = x} {w = w} {n = n} {b = b} {c = c} {at = at} within l (an_assignment {x = y} {s = s} {e = e} on) =
    let r = on_main l at (assigning y s e) on (λ q. omega (arith, q)) (λ q. omega (arith, q)) (λ q. omega (arith, q)) in
    stored_lags (leaves_at l at r.0 finished r.1 tt) y (value_in c e) (at_holds (Leaves x w n b) AnyGuard l.main r.0 (assigning y s e) l.calm r.2)
step_lags {x = x} {w = w} {n = n} {b = b} {c = c} {at = at} within l (a_selection {choices = choices} {p = p} on true_ones) =
    let r = on_main l at (choosing false choices) on (λ q. omega (arith, q)) (λ q. omega (arith, q)) (λ q. omega (arith, q)) in
    let all : HoldsChoices (Leaves x w n b) AnyGuard choices = at_holds (Leaves x w n b) AnyGuard l.main r.0 (choosing false choices) l.calm r.2 in
    leaves_at l at r.0 (opened p) r.1 (opened_holds (Leaves x w n b) AnyGuard p (one_holds (Leaves x w n b) AnyGuard c choices p all true_ones))
step_lags {x = x} {w = w} {n = n} {b = b} {c = c} {at = at} within l (a_turn {choices = choices} {p = p} on true_ones) =
    let r = on_main l at (choosing true choices) on (λ q. omega (arith, q)) (λ q. omega (arith, q)) (λ q. omega (arith, q)) in
    let all : HoldsChoices (Leaves x w n b) AnyGuard choices = at_holds (Leaves x w n b) AnyGuard l.main r.0 (choosing true choices) l.calm r.2 in
    leaves_at l at r.0 (followed (opened p) (and_member (choosing true choices) no_members)) r.1
    (followed_holds (Leaves x w n b) AnyGuard (opened p) (and_member (choosing true choices) no_members)
    (opened_holds (Leaves x w n b) AnyGuard p (one_holds (Leaves x w n b) AnyGuard c choices p all true_ones)) (all, tt))
step_lags {at = at} within l (an_end {choices = choices} on true_ones) =
    let r = on_main l at (choosing true choices) on (λ q. omega (arith, q)) (λ q. omega (arith, q)) (λ q. omega (arith, q)) in
    leaves_at l at r.0 finished r.1 tt
step_lags {x = x} {w = w} {n = n} {b = b} {c = c} {at = at} within l (a_repetition {p = p} on) = by_side (sides l at (repeating p) on)
  where
    by_side : Sides l.main l.turn at (repeating p) → Lags x w n b (leaving c at (followed (opened p) (and_member (repeating p) no_members)))
    by_side (inl r) =
        let all = at_holds (Leaves x w n b) AnyGuard l.main r.0 (repeating p) l.calm r.2 in
        leaves_at l at r.0 (followed (opened p) (and_member (repeating p) no_members)) r.1
        (followed_holds (Leaves x w n b) AnyGuard (opened p) (and_member (repeating p) no_members) (opened_holds (Leaves x w n b) AnyGuard p all) (all, tt))
    by_side (inr r) =
        subst (λ z. Lags x w n b (leaving c z (followed (opened p) (and_member (repeating p) no_members)))) (sym r.1) (turn_begins l r.0 p r.2)
step_lags {at = at} within l (a_communication other {k = k} {x = y} {s = s} {t = t} {u = u} {e = e} on there inside) =
    communicates within l at other k y s t u e on there
step_lags {x = x} {w = w} {n = n} {b = b} {c = c} {at = at} within l (a_delivery {k = k} {s = s} {e = e} {count = count} on offered more) =
    by_side (sides l at (sending k s e) on)
  where
    by_side : Sides l.main l.turn at (sending k s e) → Lags x w n b (passing (offering (leaving c at finished) k (takes (one_fewer count))) k (value_in c e))
    by_side (inl r) =
        passed_lags (offered_lags (leaves_at l at r.0 finished r.1 tt) k (takes (one_fewer count)) (taken_apart c.rests x k count l.inner offered)
        (taken_apart c.rests n k count l.new_inner offered)) k (value_in c e) (taken_apart c.rests x k count l.inner offered)
        (taken_apart c.rests n k count l.new_inner offered)
    by_side (inr r) = absurd (taken_apart c.rests n k count l.new_inner offered (stage_gives r.0 k s e l.stage r.2).chan)
step_lags {x = x} {w = w} {n = n} {b = b} {c = c} {at = at} within l (an_arrival {k = k} {x = y} {v = v} {s = s} {t = t} {more = more} on offered) =
    by_side (sides l at (receiving k s y t) on)
  where
    by_side : Sides l.main l.turn at (receiving k s y t) → Lags x w n b (passing (storing (offering (leaving c at finished) k (gives more)) y v) k v)
    by_side (inl r) =
        let g = at_holds (Leaves x w n b) AnyGuard l.main r.0 (receiving k s y t) l.calm r.2 in
        let old_ne = given_apart c.rests x k (v ∷ more) l.inner offered in
        let new_ne = given_apart c.rests n k (v ∷ more) l.new_inner offered in
        passed_lags (stored_lags (offered_lags (leaves_at l at r.0 finished r.1 tt) k (gives more) old_ne new_ne) y v g.1) k v old_ne new_ne
    by_side (inr r) = absurd (given_apart c.rests x k (v ∷ more) l.inner offered (stage_takes r.0 k y s t l.stage r.2).chan)

run_lags : {x w n b m : ℕ} {c d : Configuration} → x < n → Lags x w n b c → Leads c m d → Lags x w n b d
run_lags within l no_step = l
run_lags within l (one_step s more) = run_lags within (step_lags within l s) more

-- the start

kind_before : (cs : List Channel) (d : Channel) (x : ℕ) → x < length cs → kind_at (cs ++ d ∷ []) x ≡ kind_at cs x
kind_before [] d x h = absurd (omega (arith, h))
kind_before (c ∷ cs) d zero h = refl
kind_before (c ∷ cs) d (suc x) h = kind_before cs d x (omega (arith, h))

kind_last : (cs : List Channel) (d : Channel) → kind_at (cs ++ d ∷ []) (length cs) ≡ d.kind
kind_last [] d = refl
kind_last (c ∷ cs) d = kind_last cs d

start_lags : (p : TypedProgram) (x k : ℕ) (script : List OfferValue) → IsProcess p.channels p.vars p.body → x < length p.channels →
    kind_at p.channels x ≡ Chan →
    IsScript (buffered p x k).channels script → Lags x (channel_width p.channels x) (length p.channels) (length p.vars) (start_of (buffered p x k) script)
start_lags p x k script typed within inner is = record {
  main = opened (rerouted x n p.body);
  turn = active (passing_on x w n b);
  stands = together_open (opened (rerouted x n p.body)) (active (passing_on x w n b)) refl;
  calm = opened_holds (Leaves x w n b) AnyGuard (rerouted x n p.body) (rerouted_leaves p.channels p.vars x p.body within typed);
  stage = stage;
  store = (let e = length-map q.vars (λ (v : Var). v.first) in let f = length-append p.vars (last_var ∷ []) in omega arith);
  chan = (let e = histories_many in omega arith);
  copy = (let e = histories_many in omega arith);
  inner = inner_offer q.channels script x is (kind_before p.channels last_chan x within ∙ inner);
  new_inner = inner_offer q.channels script n is (kind_last p.channels last_chan);
}
  where
    q : TypedProgram
    q = buffered p x k

    w : ℕ
    w = channel_width p.channels x

    n : ℕ
    n = length p.channels

    b : ℕ
    b = length p.vars

    last_chan : Channel
    last_chan = record { name = copy_name k; kind = Chan; width = w }

    last_var : Var
    last_var = record { name = slot_name k; width = w; first = 0 }

    none : List (List ℕ)
    none = replicate (length q.channels) []

    histories_many : length none ≡ suc n
    histories_many = let e : length none ≡ length q.channels = length-replicate (length q.channels) [] in
        let f = length-append p.channels (last_chan ∷ []) in omega arith

    stage : Stage x w n b (active (passing_on x w n b)) (history_at none x) (history_at none n) (slice_index (map (λ (v : Var). v.first) q.vars) b)
    stage = subst (λ z. Stage x w n b (active (passing_on x w n b)) z (history_at none n) (slice_index (map (λ (v : Var). v.first) q.vars) b))
        (sym (no_history (length q.channels) x))
        (subst (λ z. Stage x w n b (active (passing_on x w n b)) [] z (slice_index (map (λ (v : Var). v.first) q.vars) b))
        (sym (no_history (length q.channels) n)) resting)

pub lags_by_one : (p : TypedProgram) (x k : ℕ) → IsProcess p.channels p.vars p.body → x < length p.channels → kind_at p.channels x ≡ Chan → LagsByOne p x k
lags_by_one p x k typed within inner script m c is l = stage_lags (run_lags within (start_lags p x k script typed within inner is) l).stage
