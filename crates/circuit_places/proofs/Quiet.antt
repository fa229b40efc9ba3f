-- Where each enabled move of the whole circuit is a step, each step that the program has is the move of a node that is enabled.
--
-- P: the program; g: where its body is, guarded by the root; w: what its wires show; hs: what has passed; c, k: a channel; x, v: a variable.
use Rattle.std.proofs.Common.{◌≡◌, ◌≢◌, ℕ, zero, suc, ◌<◌, ◌≤◌, Bool, true, false, List, [], ◌∷◌, refl, sym, ap, ◌∙◌, subst, inl, inr, arith}
use Rattle.std.specs.Prelude.{◌⊎◌, not, ◌&&◌, ◌||◌, if◌then◌else◌, length, slice_get, slice_index, Option, Some, None, is_some}
use Rattle.std.proofs.lemmas.Bool.{cases_lt, cases_eq}
use Rattle.chp_base.specs.declared.span.Span.{Span}
use Rattle.env_script.specs.declared.script.Count.{Count}
use Rattle.env_script.specs.Scripts.{OfferValue, gives, takes, offer_at, is_over}
use Rattle.env_script.specs.Runs.{completed}
use Rattle.width_check.specs.Processes.{Formula, Process, skipping, assigning, sending, receiving, choosing, repeating, TypedProgram, Choices}
use Rattle.width_check.specs.Typing.{kind_at, channel_width, var_width}
use Rattle.chp_meaning.specs.Terms.{Term, finished, Place, statement_at}
use Rattle.chp_meaning.specs.Steps.{Configuration, Step, a_skip, an_assignment, a_selection, a_turn, an_end, a_repetition, a_communication, a_delivery, an_arrival, open_branches}
use Rattle.function_blocks.specs.Rails.{number_on}
use Rattle.circuit_places.specs.Lines.{Line, of_channel, of_var, Rails, Seen}
use Rattle.circuit_places.specs.Circuit.{turns, GuardedSpot, joint_count}
use Rattle.circuit_places.specs.Whole.{Wires, wires_seen, line_ack, is_heard, is_merged, number_rail, brings, drives, offers, value_on, neutral_on, Node, go_node, own_node, rail_node, ack_node, bit_node, wrote_node, joint_node, wrote_turned, joint_turned, answers}
use Rattle.circuit_places.proofs.RailLemmas.{lows_neutral, value_same, each_bit, never_and, both_true}
use Rattle.circuit_places.proofs.Flow.{low_of, cases, or_left, or_right, neither_left, neither_right}
use Rattle.circuit_places.proofs.Talks.{either, guarded_reads_uses}
use Rattle.circuit_places.proofs.Arriving.{number_some}
use Rattle.circuit_places.proofs.BitTable.{Now, may, write_t, write_f, some_bit}
use Rattle.circuit_places.proofs.Trees.{joint_absent}
use Rattle.circuit_places.proofs.Blocks.{now_at, block_waits}
use Rattle.circuit_places.proofs.Places.{Mode, idle, running, answered, returning, asks, acks, Shown, GuardedAt, guarded_shown, guarded_writing}
use Rattle.circuit_places.proofs.Left.{guarded_left, guarded_left_past}
use Rattle.circuit_places.proofs.Rest.{Full, Listening, Releasing, Valid, Undecided}
use Rattle.circuit_places.proofs.Stepping.{guarded_steps}
use Rattle.circuit_places.proofs.StepPlaces.{guarded_place}
use Rattle.circuit_places.proofs.Poised.{off, Awaits, sends, stores, hears, asks_on, is_own, Lagging, still_up, still_held, GuardedReady, Stands, Poise, settled, poised, lagging, guarded_poise}
use Rattle.circuit_places.proofs.Held.{Held, guarded_held}
use Rattle.circuit_places.proofs.Fires.{guarded_site}
use Rattle.circuit_places.proofs.System.{Good, clean_of, can, driven, sent_turns, heard_turns, root_left, Fitted}
use Rattle.circuit_places.proofs.Follow.{fewer, left_over, behind, behind_none, Followed, over_before, open_is}
use Rattle.circuit_places.proofs.Meets.{uses_within}
use Rattle.circuit_places.proofs.Writing.{guarded_writing_unread}

-- Which moves are steps: an own node's silent step, an acknowledge that rises, and the rise of a variable's acknowledge under
-- an assignment.
abbrev pub is_step : (P : TypedProgram) → {m : Mode} → GuardedAt P.body m → Wires → Node P.body → Bool
is_step P g w (own_node s) = guarded_steps g s
is_step P g w (ack_node k) = not (w.ack k)
is_step P g w (wrote_node x i) =
    not (line_ack P w (of_var x)) && ((guarded_shown g).says (of_var x) && line_ack P (wrote_turned w x i) (of_var x))
is_step P g w (joint_node x k) =
    not (line_ack P w (of_var x)) && ((guarded_shown g).says (of_var x) && line_ack P (joint_turned w x k) (of_var x))
is_step P g w _ = false

-- the node's move is the step of the statement at the place
pub data Makes {p : Process} (t : Term) (at : Place) : Node p → Type 0 where
  by_own : (s : GuardedSpot p) (q : Process) → statement_at t at ≡ Some q → is_own q ≡ true → guarded_place s ≡ at → Makes t at (own_node s)
  by_sender : (k : ℕ) (s : Span) (e : Formula) → statement_at t at ≡ Some (sending k s e) → Makes t at (ack_node k)
  by_receiver : (k x : ℕ) (s u : Span) → statement_at t at ≡ Some (receiving k s x u) → Makes t at (ack_node k)
  by_bit : (x : ℕ) (s : Span) (e : Formula) (i : ℕ) → statement_at t at ≡ Some (assigning x s e) → Makes t at (wrote_node x i)
  by_joint : (x : ℕ) (s : Span) (e : Formula) (i : ℕ) → statement_at t at ≡ Some (assigning x s e) → Makes t at (joint_node x i)

-- the first numbers with a property, or none
pub search : (n : ℕ) (f : ℕ → Bool) → ((i : ℕ) × (f i ≡ true)) ⊎ ((i : ℕ) → i < n → f i ≡ false)
search zero f = inr (λ i less. absurd (omega (arith, less)))
search (suc n) f = by (f n) refl (search n f)
  where
    by : (b : Bool) → f n ≡ b → ((i : ℕ) × (f i ≡ true)) ⊎ ((i : ℕ) → i < n → f i ≡ false)
        → ((i : ℕ) × (f i ≡ true)) ⊎ ((i : ℕ) → i < suc n → f i ≡ false)
    by true e r = inl (n, e)
    by false e (inl r) = inl r
    by false e (inr none) = inr (λ i less. at i (cases_eq i n) less)
      where
        at : (i : ℕ) → (i ≡ n) ⊎ (i ≡ n → ⊥) → i < suc n → f i ≡ false
        at i (inl same) less = ap f same ∙ e
        at i (inr ne) less = none i (omega (arith, less, ne))

high_waits : (n : Now) → n.va ≡ true → n.wt ≡ false → n.wf ≡ false → (may write_t n || may write_f n) ≡ true → ⊥
high_waits n a t f e = cc (
  ap (λ b. (if b then n.va else not n.va && not n.wf) || (if n.wf then n.va else not n.va && not b)) t,
  ap (λ b. (if false then n.va else not n.va && not b) || (if b then n.va else not n.va && not false)) f,
  ap (λ b. (if false then b else not b && not false) || (if false then b else not b && not false)) a,
  e,
)

low_waits : (n : Now) → n.va ≡ false → (n.wt || n.wf) ≡ true → (may write_t n || may write_f n) ≡ true → ⊥
low_waits n a o e = here n.wt n.wf n.va a o e
  where
    here : (t f v : Bool) → v ≡ false → (t || f) ≡ true → ((if t then v else not v && not f) || (if f then v else not v && not t)) ≡ true → ⊥
    here true true false a o e = cc e
    here true false false a o e = cc e
    here false true false a o e = cc e
    here false false v a o e = cc o
    here true true true a o e = cc a
    here true false true a o e = cc a
    here false true true a o e = cc a

some_side : (n : Rails) (i : ℕ) → (one : Bool) × (n i one ≡ true) → (n i true || n i false) ≡ true
some_side n i (true, h) = or_left (n i true) (n i false) h
some_side n i (false, h) = or_right (n i true) (n i false) h

module _ (P : TypedProgram) {script : List OfferValue} (fitted : Fitted P script) (w : Wires) (hs : List (List ℕ)) {m : Mode} (g : GuardedAt P.body m)
    (good : Good P m g w) (quiet : (n : Node P.body) → can P script g w hs n ≡ true → is_step P g w n ≡ true) where
  -- a rail doesn't move
  no_rail : (k : Line) (i : ℕ) (one : Bool) → can P script g w hs (rail_node k i one) ≡ false
  no_rail k i one = off _ (quiet (rail_node k i one))

  rails_are : (k : Line) (i : ℕ) (one : Bool) → is_merged P k ≡ true → w.rail k i one ≡ (guarded_shown g).offer k i one
  rails_are k i one n = here (w.rail k i one) ((guarded_shown g).offer k i one)
      (sym (ap (λ b. b && turns (w.rail k i one) ((guarded_shown g).offer k i one) (not ((guarded_shown g).offer k i one))) n)
      ∙ neither_left (sent_turns P w k i one ((guarded_shown g).offer k i one)) (driven P script w hs k i one) (no_rail k i one))
    where
      here : (v o : Bool) → turns v o (not o) ≡ false → v ≡ o
      here true true e = refl
      here false false e = refl
      here true false e = absurd (cc e)
      here false true e = absurd (cc e)

  not_driven : (c : ℕ) (values : List ℕ) → offer_at script c ≡ gives values → (i : ℕ) (one : Bool)
      → drives (channel_width P.channels c) w c (slice_get values (completed hs c)) i one ≡ false
  not_driven c values is i one =
      sym (ap (λ o. offers (channel_width P.channels c) w c (completed hs c) o i one) is)
      ∙ neither_right (sent_turns P w (of_channel c) i one ((guarded_shown g).offer (of_channel c) i one)) (driven P script w hs (of_channel c) i one)
      (no_rail (of_channel c) i one)

  -- a high acknowledge doesn't fall
  no_fall : (c : ℕ) → w.ack c ≡ true → can P script g w hs (ack_node c) ≡ false
  no_fall c high = off _ (λ e. sym (ap not high) ∙ quiet (ack_node c) e)

  not_answered : (c : ℕ) → w.ack c ≡ true → answers (channel_width P.channels c) w c (completed hs c) (offer_at script c) ≡ false
  not_answered c high = neither_right (heard_turns P w c ((guarded_shown g).take c))
      (answers (channel_width P.channels c) w c (completed hs c) (offer_at script c)) (no_fall c high)

  not_turned : (c : ℕ) → is_heard (kind_at P.channels c) ≡ true → w.ack c ≡ true
      → turns (w.ack c) ((guarded_shown g).take c) (not ((guarded_shown g).take c)) ≡ false
  not_turned c heard high =
      sym (ap (λ b. b && turns (w.ack c) ((guarded_shown g).take c) (not ((guarded_shown g).take c))) heard)
      ∙ neither_left (heard_turns P w c ((guarded_shown g).take c)) (answers (channel_width P.channels c) w c (completed hs c) (offer_at script c))
      (no_fall c high)

  -- A variable's block waits for a rail by which it is written, where its acknowledge is high, and where no assignment to it is
  -- under way.
  block_rest : (x : ℕ) → 1 ≤ var_width P.vars x → ((i : ℕ) → can P script g w hs (wrote_node x i) ≡ false)
      → ((k : ℕ) → can P script g w hs (joint_node x k) ≡ false) → (i : ℕ) × (i < var_width P.vars x) ×
      ((may write_t (now_at (w.bit x) (w.rail (of_var x)) (w.wrote x) (line_ack P w (of_var x)) i) || may write_f
      (now_at (w.bit x) (w.rail (of_var x)) (w.wrote x) (line_ack P w (of_var x)) i)) ≡ true)
  block_rest x some no_wrote no_joint = block_waits (var_width P.vars x) (w.bit x) (w.rail (of_var x)) (w.wrote x) (w.joint x) (good.block x some)
      (λ i one. off _ (quiet (bit_node x i one))) no_wrote no_joint

  high_rest : (x : ℕ) → 1 ≤ var_width P.vars x → line_ack P w (of_var x) ≡ true → (i : ℕ) × (i < var_width P.vars x) ×
      ((may write_t (now_at (w.bit x) (w.rail (of_var x)) (w.wrote x) (line_ack P w (of_var x)) i) || may write_f
      (now_at (w.bit x) (w.rail (of_var x)) (w.wrote x) (line_ack P w (of_var x)) i)) ≡ true)
  high_rest x some high = block_rest x some
      (λ i. off _ (λ e. sym (ap (λ b. not b && ((guarded_shown g).says (of_var x) && line_ack P (wrote_turned w x i) (of_var x))) high)
      ∙ quiet (wrote_node x i) e))
      (λ k. off _ (λ e. sym (ap (λ b. not b && ((guarded_shown g).says (of_var x) && line_ack P (joint_turned w x k) (of_var x))) high)
      ∙ quiet (joint_node x k) e))

  unsaid_rest : (x : ℕ) → 1 ≤ var_width P.vars x → (guarded_shown g).says (of_var x) ≡ false → (i : ℕ) × (i < var_width P.vars x) ×
      ((may write_t (now_at (w.bit x) (w.rail (of_var x)) (w.wrote x) (line_ack P w (of_var x)) i) || may write_f
      (now_at (w.bit x) (w.rail (of_var x)) (w.wrote x) (line_ack P w (of_var x)) i)) ≡ true)
  unsaid_rest x some none = block_rest x some
      (λ i. off _ (λ e. sym (unsaid (line_ack P (wrote_turned w x i) (of_var x))) ∙ quiet (wrote_node x i) e))
      (λ k. off _ (λ e. sym (unsaid (line_ack P (joint_turned w x k) (of_var x))) ∙ quiet (joint_node x k) e))
    where
      unsaid : (b : Bool) → (not (line_ack P w (of_var x)) && ((guarded_shown g).says (of_var x) && b)) ≡ false
      unsaid b = ap (λ z. not (line_ack P w (of_var x)) && (z && b)) none ∙ never_and (not (line_ack P w (of_var x)))

  -- over a high acknowledge of a channel on which the program receives all rails are low
  held : (c : ℕ) → w.ack c ≡ true → Held P c (wires_seen P w) (guarded_shown g)
  held c high = guarded_held P (wires_seen P w) c high g good.meets good.fits (λ s. quiet (own_node s))

  rails_down : (c : ℕ) → c < length P.channels → is_heard (kind_at P.channels c) ≡ true → w.ack c ≡ true → (i : ℕ) (one : Bool)
      → w.rail (of_channel c) i one ≡ false
  rails_down c within heard high i one = cases (is_merged P (of_channel c))
      (λ (u : is_merged P (of_channel c) ≡ true). rails_are (of_channel c) i one u ∙ (held c high).gone i one)
      (λ (u : is_merged P (of_channel c) ≡ false).
      let o = fitted.hears c within u heard in
      sym (ap (λ b. if b then w.rail (of_channel c) i one else brings (channel_width P.channels c) (slice_get o.0 (completed hs c)) i one &&
      (not (w.rail (of_channel c) i true) && not (w.rail (of_channel c) i false))) high)
      ∙ not_driven c o.0 o.1 i one)

  -- so nothing that lets go waits
  not_held : (c v : ℕ) → Releasing P c v (wires_seen P w) (guarded_shown g) → ⊥
  not_held c v r = cases (line_ack P w (of_var v))
      (λ (h : line_ack P w (of_var v) ≡ true).
      let (i, less, e) = high_rest v r.meets.some h in
      high_waits (now_at (w.bit v) (w.rail (of_var v)) (w.wrote v) (line_ack P w (of_var v)) i) h (rails_are (of_var v) i true refl ∙ gone i true)
      (rails_are (of_var v) i false refl ∙ gone i false) e)
      (λ (h : line_ack P w (of_var v) ≡ false).
      let free : (guarded_shown g).take c ≡ false = low_of ((guarded_shown g).take c) r.has h in
      cc (not_turned c r.meets.heard r.high, ap (λ b. turns b ((guarded_shown g).take c) (not ((guarded_shown g).take c))) r.high, ap not free))
    where
      gone : (i : ℕ) (one : Bool) → (guarded_shown g).offer (of_var v) i one ≡ false
      gone i one = low_of ((guarded_shown g).offer (of_var v) i one) (r.all i one) (rails_down c r.meets.within r.meets.heard r.high i one)

  no_lagging : Lagging P (wires_seen P w) (guarded_shown g) → ⊥
  no_lagging (still_up (of_channel c) high talks gone) = cases (is_heard (kind_at P.channels c))
      (λ (u : is_heard (kind_at P.channels c) ≡ true). let r = (held c high).lets_go (good.listen c u high) in not_held c r.0 r.1)
      (λ (u : is_heard (kind_at P.channels c) ≡ false).
      let x = guarded_site P (wires_seen P w) (clean_of good) g good.meets good.fits (of_channel c) talks in
      let o = fitted.sends c x.within x.merged u in
      let neutral : neutral_on (channel_width P.channels c) (w.rail (of_channel c)) ≡ true = lows_neutral (channel_width P.channels c) (w.rail (of_channel c))
      (λ i one. rails_are (of_channel c) i one x.merged ∙ gone i one) in
      let may : answers (channel_width P.channels c) w c (completed hs c) (offer_at script c) ≡ true =
      ap (answers (channel_width P.channels c) w c (completed hs c)) o.1
      ∙ (ap (λ b. if b then neutral_on (channel_width P.channels c) (w.rail (of_channel c)) else is_some
      (value_on (channel_width P.channels c) (w.rail (of_channel c))) && is_over o.0 (completed hs c)) high ∙ neutral) in
      cc (may, not_answered c high))
  no_lagging (still_up (of_var v) high talks gone) =
      let x = guarded_site P (wires_seen P w) (clean_of good) g good.meets good.fits (of_var v) talks in
      let (i, less, e) = high_rest v x.some high in
      high_waits (now_at (w.bit v) (w.rail (of_var v)) (w.wrote v) (line_ack P w (of_var v)) i) high (rails_are (of_var v) i true refl ∙ gone i true)
      (rails_are (of_var v) i false refl ∙ gone i false) e
  no_lagging (still_held c v r) = not_held c v r

  -- each bit of each variable has a value
  valid : Valid P (wires_seen P w)
  valid v i less = some_bit (now_at (w.bit v) (w.rail (of_var v)) (w.wrote v) (line_ack P w (of_var v)) i) ((good.block v (some_of less)).bits i less)
      (off _ (quiet (bit_node v i true))) (off _ (quiet (bit_node v i false)))
    where
      some_of : {i n : ℕ} → i < n → 1 ≤ n
      some_of less = omega (arith, less)

  -- each statement of what is left of the program awaits something, or its own node is enabled
  pub all_poised : m ≢ returning → (at : Place) (s : Process) → statement_at (root_left (line_ack P w) g) at ≡ Some s
      → Stands P s (wires_seen P w) (guarded_shown g) (GuardedReady (wires_seen P w) g at)
  all_poised ne = by m g ne (quiet go_node)
      (guarded_poise P (wires_seen P w) (clean_of good) valid g good.meets good.fits (λ s. quiet (own_node s))) no_lagging
    where
      by : (m : Mode) (g : GuardedAt P.body m) → m ≢ returning → (can P script g w hs go_node ≡ true → false ≡ true)
          → Poise P m (guarded_left (line_ack P w) g) (wires_seen P w) (guarded_shown g) (GuardedReady (wires_seen P w) g)
          → (Lagging P (wires_seen P w) (guarded_shown g) → ⊥) → (at : Place) (s : Process) → statement_at (root_left (line_ack P w) g) at ≡ Some s
          → Stands P s (wires_seen P w) (guarded_shown g) (GuardedReady (wires_seen P w) g at)
      by idle g ne go p none at s e = absurd (cc (go refl))
      by running g ne go (settled z) none at s e = absurd (cc z)
      by running g ne go (poised z p) none at s e = p.each at s e
      by running g ne go (lagging l) none at s e = absurd (none l)
      by answered g ne go p none at s e =
          let over : statement_at finished at ≡ Some s = sym (ap (λ t. statement_at t at) (guarded_left_past (line_ack P w) g)) ∙ e in absurd (cc over)
      by returning g ne go p none at s e = absurd (ne refl)

  -- and while the root is under way so is the program
  pub on_way : m ≡ running → guarded_left (line_ack P w) g ≢ finished
  on_way is = by (guarded_poise P (wires_seen P w) (clean_of good) valid g good.meets good.fits (λ s. quiet (own_node s)))
    where
      apart : (m : Mode) → m ≡ running → acks m ≡ asks m → ⊥
      apart running is e = cc e
      apart idle is e = cc is
      apart answered is e = cc is
      apart returning is e = cc is

      by : Poise P m (guarded_left (line_ack P w) g) (wires_seen P w) (guarded_shown g) (GuardedReady (wires_seen P w) g)
          → guarded_left (line_ack P w) g ≢ finished
      by (settled e) = absurd (apart m is e)
      by (poised e p) = p.going
      by (lagging l) = absurd (no_lagging l)

-- what a statement awaits, by its kind
abbrev may_await : Process → Bool
may_await skipping = false
may_await (repeating p) = false
may_await _ = true

module _ {P : TypedProgram} {env : Seen} {x : Shown} where
  awaits_kind : (s : Process) → Awaits P s env x → may_await s ≡ true
  awaits_kind s (sends c at e f is) = ap may_await is
  awaits_kind s (stores v at e f is) = ap may_await is
  awaits_kind s (hears c v at to l n is) = ap may_await is
  awaits_kind s (asks_on again choices b is) = ap may_await is

  full_of : (k : ℕ) (s : Span) (e : Formula) → Awaits P (sending k s e) env x → Full P (of_channel k) env x
  full_of k s e (sends c at d f is) = let same : c ≡ k = cc is in subst (λ (i : ℕ). Full P (of_channel i) env x) same f
  full_of k s e (stores v at d f is) = absurd (cc is)
  full_of k s e (hears c v at to l n is) = absurd (cc is)
  full_of k s e (asks_on again choices b is) = absurd (cc is)

  written_of : (v : ℕ) (s : Span) (e : Formula) → Awaits P (assigning v s e) env x → Full P (of_var v) env x
  written_of v s e (stores c at d f is) = let same : c ≡ v = cc is in subst (λ (i : ℕ). Full P (of_var i) env x) same f
  written_of v s e (sends c at d f is) = absurd (cc is)
  written_of v s e (hears c k at to l n is) = absurd (cc is)
  written_of v s e (asks_on again choices b is) = absurd (cc is)

  heard_of : (k v : ℕ) (s u : Span) → Awaits P (receiving k s v u) env x → Listening P k v env x × (x.says (of_var v) ≡ false)
  heard_of k v s u (hears c z at to l n is) =
      let one : c ≡ k = cc is in
      let other : z ≡ v = cc is in
      subst (λ (i : ℕ). Listening P i v env x × (x.says (of_var v) ≡ false)) one
      (subst (λ (j : ℕ). Listening P c j env x × (x.says (of_var j) ≡ false)) other (l, n))
  heard_of k v s u (sends c at d f is) = absurd (cc is)
  heard_of k v s u (stores c at d f is) = absurd (cc is)
  heard_of k v s u (asks_on again choices b is) = absurd (cc is)

  asked_of : (again : Bool) (choices : Choices) → Awaits P (choosing again choices) env x → Undecided again choices env x.read
  asked_of again choices (asks_on y cs b is) =
      let one : y ≡ again = cc is in
      let other : cs ≡ choices = cc is in
      subst (λ (z : Bool). Undecided z choices env x.read) one (subst (λ (z : Choices). Undecided y z env x.read) other b)
  asked_of again choices (sends c at d f is) = absurd (cc is)
  asked_of again choices (stores c at d f is) = absurd (cc is)
  asked_of again choices (hears c z at to l n is) = absurd (cc is)

-- an acceptance is left
over_left : (whole count : Count) (n : ℕ) → takes count ≡ left_over (takes whole) n → is_over count 0 ≡ true → is_over whole n ≡ true
over_left whole count n both more = over_before whole n (sym (ap (λ (c : Count). is_over c 0) (same both)) ∙ more)
  where
    same : takes count ≡ takes (fewer whole n) → count ≡ fewer whole n
    same both = cc both

module _ (P : TypedProgram) {script : List OfferValue} (fitted : Fitted P script) (w : Wires) (hs : List (List ℕ)) {m : Mode} (g : GuardedAt P.body m)
    (good : Good P m g w) (quiet : (n : Node P.body) → can P script g w hs n ≡ true → is_step P g w n ≡ true) where
  -- each bit of a channel on which a send waits has a rail high
  sent_there : (c : ℕ) → Full P (of_channel c) (wires_seen P w) (guarded_shown g) →
      is_some (value_on (channel_width P.channels c) (w.rail (of_channel c))) ≡ true
  sent_there c b = ap is_some (value_same (channel_width P.channels c) (w.rail (of_channel c)) ((guarded_shown g).offer (of_channel c))
      (λ i one. rails_are P fitted w hs g good quiet (of_channel c) i one b.merged)) ∙ b.whole

  -- where all rails have come the receive has stored
  stored : (c v : ℕ) → Listening P c v (wires_seen P w) (guarded_shown g) → (guarded_shown g).says (of_var v) ≡ false
      → ((i : ℕ) → i < channel_width P.channels c → (w.rail (of_channel c) i true || w.rail (of_channel c) i false) ≡ true)
      → (guarded_shown g).take c ≡ true
  stored c v l none brought = cases (line_ack P w (of_var v)) (λ (h : line_ack P w (of_var v) ≡ true). l.has h)
      (λ (h : line_ack P w (of_var v) ≡ false).
      let (i, less, e) = unsaid_rest P fitted w hs g good quiet v l.meets.some none in
      absurd (low_waits (now_at (w.bit v) (w.rail (of_var v)) (w.wrote v) (line_ack P w (of_var v)) i) h (taken i less) e))
    where
      is : (i : ℕ) (one : Bool) → w.rail (of_var v) i one ≡ (guarded_shown g).offer (of_var v) i one
      is i one = rails_are P fitted w hs g good quiet (of_var v) i one refl

      taken : (i : ℕ) → i < var_width P.vars v → (w.rail (of_var v) i true || w.rail (of_var v) i false) ≡ true
      taken i less = either (w.rail (of_channel c) i true) (w.rail (of_channel c) i false) (brought i (subst (λ (n : ℕ). i < n) l.meets.widths less))
          (λ z. or_left (w.rail (of_var v) i true) (w.rail (of_var v) i false) (is i true ∙ l.all i true z))
          (λ z. or_right (w.rail (of_var v) i true) (w.rail (of_var v) i false) (is i false ∙ l.all i false z))

  -- so the channel's acknowledge may rise
  rises : (c v : ℕ) → Listening P c v (wires_seen P w) (guarded_shown g) → (guarded_shown g).says (of_var v) ≡ false
      → ((i : ℕ) → i < channel_width P.channels c → (w.rail (of_channel c) i true || w.rail (of_channel c) i false) ≡ true)
      → can P script g w hs (ack_node c) ≡ true
  rises c v l none brought = or_left (heard_turns P w c ((guarded_shown g).take c))
      (answers (channel_width P.channels c) w c (completed hs c) (offer_at script c))
      (ap (λ b. b && turns (w.ack c) ((guarded_shown g).take c) (not ((guarded_shown g).take c))) l.meets.heard
      ∙ (ap (λ a. turns a ((guarded_shown g).take c) (not ((guarded_shown g).take c))) l.low ∙ stored c v l none brought))

  -- the environment brings a value that is left
  brought_by : (c x : ℕ) (values : List ℕ) → offer_at script c ≡ gives values → slice_get values (completed hs c) ≡ Some x → w.ack c ≡ false
      → (i : ℕ) → i < channel_width P.channels c → (w.rail (of_channel c) i true || w.rail (of_channel c) i false) ≡ true
  brought_by c x values is e low i less = let (one, h) = number_some (channel_width P.channels c) x i less in low_both one h
    where
      by : (t f : Bool) → (not t && not f) ≡ false → (t || f) ≡ true
      by true f z = refl
      by false true z = refl
      by false false z = absurd (cc z)

      low_both : (one : Bool) → number_rail (channel_width P.channels c) x i one ≡ true → (w.rail (of_channel c) i true || w.rail (of_channel c) i false) ≡ true
      low_both one h = by (w.rail (of_channel c) i true) (w.rail (of_channel c) i false)
          (sym (ap (λ b. b && (not (w.rail (of_channel c) i true) && not (w.rail (of_channel c) i false))) h)
          ∙ (sym (ap (λ o. brings (channel_width P.channels c) o i one && (not (w.rail (of_channel c) i true) && not (w.rail (of_channel c) i false))) e)
          ∙ (sym (ap (λ b. if b then w.rail (of_channel c) i one else brings (channel_width P.channels c) (slice_get values (completed hs c)) i one &&
          (not (w.rail (of_channel c) i true) && not (w.rail (of_channel c) i false))) low) ∙ not_driven P fitted w hs g good quiet c values is i one)))

  -- what isn't a node of a variable's block doesn't move
  low_rail : (v i : ℕ) (one : Bool) → var_width P.vars v ≤ i → w.rail (of_var v) i one ≡ false
  low_rail v i one far = cases (w.rail (of_var v) i one)
      (λ (h : w.rail (of_var v) i one ≡ true). let less = good.wide (of_var v) i one h in absurd (omega (arith, far, less)))
      (λ (h : w.rail (of_var v) i one ≡ false). h)

  past_wrote : (v i : ℕ) → var_width P.vars v ≤ i → can P script g w hs (wrote_node v i) ≡ false
  past_wrote v i far =
      ap (λ b. if b then not (w.rail (of_var v) i true) && not (w.rail (of_var v) i false) else
      (w.rail (of_var v) i true && w.bit v i true) || (w.rail (of_var v) i false && w.bit v i false))
      (cases (w.wrote v i) (λ (e : w.wrote v i ≡ true). let less = good.no_wrote v i e in absurd (omega (arith, far, less)))
      (λ (e : w.wrote v i ≡ false). e))
      ∙ (ap (λ b. (b && w.bit v i true) || (w.rail (of_var v) i false && w.bit v i false)) (low_rail v i true far)
      ∙ ap (λ b. b && w.bit v i false) (low_rail v i false far))

  abbrev NodeFor : Term → Place → Type 0
  NodeFor t at = (n : Node P.body) × (can P script g w hs n ≡ true) × Makes t at n

  -- of the block of a variable that an assignment writes a node moves
  stores_up : (t : Term) (at : Place) (v : ℕ) (s : Span) (e : Formula) → statement_at t at ≡ Some (assigning v s e)
      → Full P (of_var v) (wires_seen P w) (guarded_shown g) → NodeFor t at
  stores_up t at v s e stands f = by_wrote (search (var_width P.vars v) (λ i. can P script g w hs (wrote_node v i)))
    where
      is : (i : ℕ) (one : Bool) → w.rail (of_var v) i one ≡ (guarded_shown g).offer (of_var v) i one
      is i one = rails_are P fitted w hs g good quiet (of_var v) i one refl

      none : ((i : ℕ) → i < var_width P.vars v → can P script g w hs (wrote_node v i) ≡ false)
          → ((k : ℕ) → k < joint_count (var_width P.vars v) → can P script g w hs (joint_node v k) ≡ false) → ⊥
      none a b =
          let (i, less, z) = block_rest P fitted w hs g good quiet v f.some wrote joints in
          low_waits (now_at (w.bit v) (w.rail (of_var v)) (w.wrote v) (line_ack P w (of_var v)) i) f.low
          (ap (λ b. b || w.rail (of_var v) i false) (is i true) ∙ (ap (λ b. (guarded_shown g).offer (of_var v) i true || b) (is i false)
          ∙ some_side ((guarded_shown g).offer (of_var v)) i (each_bit (var_width P.vars v) ((guarded_shown g).offer (of_var v)) f.whole i less)))
          z
        where
          wrote : (i : ℕ) → can P script g w hs (wrote_node v i) ≡ false
          wrote i = at_place (cases_lt i (var_width P.vars v))
            where
              at_place : (i < var_width P.vars v) ⊎ (var_width P.vars v ≤ i) → can P script g w hs (wrote_node v i) ≡ false
              at_place (inl less) = a i less
              at_place (inr far) = past_wrote v i far

          joints : (k : ℕ) → can P script g w hs (joint_node v k) ≡ false
          joints k = at_place (cases_lt k (joint_count (var_width P.vars v)))
            where
              at_place : (k < joint_count (var_width P.vars v)) ⊎ (joint_count (var_width P.vars v) ≤ k) → can P script g w hs (joint_node v k) ≡ false
              at_place (inl less) = b k less
              at_place (inr far) = joint_absent (var_width P.vars v) (w.wrote v) (w.joint v) k far

      by_joints : ((i : ℕ) → i < var_width P.vars v → can P script g w hs (wrote_node v i) ≡ false)
          → ((k : ℕ) × (can P script g w hs (joint_node v k) ≡ true))
          ⊎ ((k : ℕ) → k < joint_count (var_width P.vars v) → can P script g w hs (joint_node v k) ≡ false) → NodeFor t at
      by_joints a (inl r) = (joint_node v r.0, r.1, by_joint v s e r.0 stands)
      by_joints a (inr b) = absurd (none a b)

      by_wrote : ((i : ℕ) × (can P script g w hs (wrote_node v i) ≡ true))
          ⊎ ((i : ℕ) → i < var_width P.vars v → can P script g w hs (wrote_node v i) ≡ false) → NodeFor t at
      by_wrote (inl r) = (wrote_node v r.0, r.1, by_bit v s e r.0 stands)
      by_wrote (inr a) = by_joints a (search (joint_count (var_width P.vars v)) (λ k. can P script g w hs (joint_node v k)))

  module _ (ne : m ≢ returning) {from : Configuration} {most due : ℕ}
      (r : Followed P script from most hs (root_left (line_ack P w) g) w.bit (guarded_writing (line_ack P w) g) due) where
    there : (at : Place) (s : Process) → statement_at r.to.term at ≡ Some s
        → Stands P s (wires_seen P w) (guarded_shown g) (GuardedReady (wires_seen P w) g at)
    there at s e = all_poised P fitted w hs g good quiet ne at s (sym (ap (λ t. statement_at t at) r.term) ∙ e)

    own : (at : Place) (s : Process) → statement_at r.to.term at ≡ Some s → is_own s ≡ true → GuardedReady (wires_seen P w) g at → NodeFor r.to.term at
    own at s e o z = (own_node z.0, z.1, by_own z.0 s e o z.3)

    agree : (x : ℕ) → (guarded_shown g).read x ≡ true → number_on (var_width P.vars x) (w.bit x) ≡ slice_index r.to.store x
    agree x read = r.stored x (uses_within P P.body good.meets x (guarded_reads_uses g x read)) (cases (guarded_writing (line_ack P w) g x)
        (λ (e : guarded_writing (line_ack P w) g x ≡ true). absurd (cc (guarded_writing_unread P (line_ack P w) g good.meets x e, read)))
        (λ (e : guarded_writing (line_ack P w) g x ≡ false). e))

    -- a statement that makes its own step
    moves_alone : (at : Place) (s : Process) → statement_at r.to.term at ≡ Some s → may_await s ≡ false
        → Stands P s (wires_seen P w) (guarded_shown g) (GuardedReady (wires_seen P w) g at) → NodeFor r.to.term at
    moves_alone at s e alone (inl a) = absurd (cc (awaits_kind s a, alone))
    moves_alone at s e alone (inr z) = own at s e z.0 z.1

    chooses : (at : Place) (again : Bool) (choices : Choices) → statement_at r.to.term at ≡ Some (choosing again choices)
        → (Undecided again choices (wires_seen P w) (guarded_shown g).read → ⊥)
        → Stands P (choosing again choices) (wires_seen P w) (guarded_shown g) (GuardedReady (wires_seen P w) g at) → NodeFor r.to.term at
    chooses at again choices e decided (inl a) = absurd (decided (asked_of again choices a))
    chooses at again choices e decided (inr z) = own at (choosing again choices) e z.0 z.1

    one_is_open : (again : Bool) (choices : Choices) (p : Process) → open_branches r.to choices ≡ p ∷ []
        → Undecided again choices (wires_seen P w) (guarded_shown g).read → ⊥
    one_is_open again choices p o b = b.one (slice_index r.to.store) agree p (sym (open_is r.to choices) ∙ o)

    assigns : (at : Place) (v : ℕ) (s : Span) (e : Formula) → statement_at r.to.term at ≡ Some (assigning v s e)
        → Stands P (assigning v s e) (wires_seen P w) (guarded_shown g) (GuardedReady (wires_seen P w) g at) → NodeFor r.to.term at
    assigns at v s e z (inl a) = stores_up r.to.term at v s e z (written_of v s e a)
    assigns at v s e z (inr q) = absurd (cc q.0)

    meets : (at other : Place) (k x : ℕ) (s t u : Span) (e : Formula) → statement_at r.to.term at ≡ Some (sending k s e)
        → Stands P (sending k s e) (wires_seen P w) (guarded_shown g) (GuardedReady (wires_seen P w) g at)
        → Stands P (receiving k t x u) (wires_seen P w) (guarded_shown g) (GuardedReady (wires_seen P w) g other) → NodeFor r.to.term at
    meets at other k x s t u e z (inr q) b = absurd (cc q.0)
    meets at other k x s t u e z (inl a) (inr q) = absurd (cc q.0)
    meets at other k x s t u e z (inl a) (inl b) =
        let f = full_of k s e a in
        let l = heard_of k x t u b in
        let some = sent_there k f in (
          ack_node k,
          rises k x l.0 l.1 (λ i less. some_side (w.rail (of_channel k)) i (each_bit (channel_width P.channels k) (w.rail (of_channel k)) some i less)),
          by_sender k s e z,
        )

    delivers : (at : Place) (k : ℕ) (s : Span) (e : Formula) (count : Count) → statement_at r.to.term at ≡ Some (sending k s e)
        → offer_at r.to.rests k ≡ takes count → is_over count 0 ≡ true
        → Stands P (sending k s e) (wires_seen P w) (guarded_shown g) (GuardedReady (wires_seen P w) g at) → NodeFor r.to.term at
    delivers at k s e count z offered more (inr q) = absurd (cc q.0)
    delivers at k s e count z offered more (inl a) =
        let f = full_of k s e a in
        cases (is_heard (kind_at P.channels k))
        (λ (u : is_heard (kind_at P.channels k) ≡ true).
        absurd (cc (offered, r.rests k ∙ ap (λ x. left_over x (completed hs k)) (fitted.inside k f.within f.merged u))))
        (λ (u : is_heard (kind_at P.channels k) ≡ false).
        let o = fitted.sends k f.within f.merged u in
        let both : takes count ≡ left_over (takes o.0) (completed hs k) =
        sym offered ∙ (r.rests k ∙ ap (λ x. left_over x (completed hs k)) o.1) in
        let over : is_over o.0 (completed hs k) ≡ true = over_left o.0 count (completed hs k) both more in
        let up : answers (channel_width P.channels k) w k (completed hs k) (offer_at script k) ≡ true =
        ap (answers (channel_width P.channels k) w k (completed hs k)) o.1
        ∙ (ap (λ b. if b then neutral_on (channel_width P.channels k) (w.rail (of_channel k)) else is_some
        (value_on (channel_width P.channels k) (w.rail (of_channel k))) && is_over o.0 (completed hs k)) f.low
        ∙ both_true (is_some (value_on (channel_width P.channels k) (w.rail (of_channel k)))) (is_over o.0 (completed hs k)) (sent_there k f) over) in (
          ack_node k,
          or_right (heard_turns P w k ((guarded_shown g).take k)) (answers (channel_width P.channels k) w k (completed hs k) (offer_at script k)) up,
          by_sender k s e z,
        ))

    arrives : (at : Place) (k x v : ℕ) (s t : Span) (more : List ℕ) → statement_at r.to.term at ≡ Some (receiving k s x t)
        → offer_at r.to.rests k ≡ gives (v ∷ more)
        → Stands P (receiving k s x t) (wires_seen P w) (guarded_shown g) (GuardedReady (wires_seen P w) g at) → NodeFor r.to.term at
    arrives at k x v s t more z offered (inr q) = absurd (cc q.0)
    arrives at k x v s t more z offered (inl a) =
        let l = heard_of k x s t a in
        cases (is_merged P (of_channel k))
        (λ (u : is_merged P (of_channel k) ≡ true).
        absurd (cc (offered, r.rests k ∙ ap (λ y. left_over y (completed hs k)) (fitted.inside k l.0.meets.within u l.0.meets.heard))))
        (λ (u : is_merged P (of_channel k) ≡ false).
        let o = fitted.hears k l.0.meets.within u l.0.meets.heard in
        let both : gives (v ∷ more) ≡ gives (behind o.0 (completed hs k)) = sym offered ∙ (r.rests k ∙ ap (λ y. left_over y (completed hs k)) o.1) in
        by_value o.0 o.1 both l (slice_get o.0 (completed hs k)) refl)
      where
        by_value : (values : List ℕ) → offer_at script k ≡ gives values → gives (v ∷ more) ≡ gives (behind values (completed hs k))
            → Listening P k x (wires_seen P w) (guarded_shown g) × ((guarded_shown g).says (of_var x) ≡ false) → (y : Option ℕ)
            → slice_get values (completed hs k) ≡ y → NodeFor r.to.term at
        by_value values is both l None e =
            let lists : v ∷ more ≡ [] = same both ∙ behind_none values (completed hs k) e in absurd (cc lists)
          where
            same : gives (v ∷ more) ≡ gives (behind values (completed hs k)) → v ∷ more ≡ behind values (completed hs k)
            same both = cc both
        by_value values is both l (Some y) e = (ack_node k, rises k x l.0 l.1 (brought_by k y values is e l.0.low), by_receiver k x s t z)

    -- each step that the program has is the move of a node that is enabled
    pub each_made : {at : Place} {d : Configuration} → Step r.to at d → NodeFor r.to.term at
    each_made (a_skip {at = at} e) = moves_alone at skipping e refl (there at skipping e)
    each_made (a_repetition {at = at} {p = p} e) = moves_alone at (repeating p) e refl (there at (repeating p) e)
    each_made (an_assignment {at = at} {x = x} {s = s} {e = d} e) = assigns at x s d e (there at (assigning x s d) e)
    each_made (a_selection {at = at} {choices = choices} {p = p} e o) =
        chooses at false choices e (one_is_open false choices p o) (there at (choosing false choices) e)
    each_made (a_turn {at = at} {choices = choices} {p = p} e o) =
        chooses at true choices e (one_is_open true choices p o) (there at (choosing true choices) e)
    each_made (an_end {at = at} {choices = choices} e o) =
        chooses at true choices e (λ b. b.some refl (slice_index r.to.store) agree (sym (open_is r.to choices) ∙ o)) (there at (choosing true choices) e)
    each_made (a_communication {at = at} other {k = k} {x = x} {s = s} {t = t} {u = u} {e = d} e f offered) =
        meets at other k x s t u d e (there at (sending k s d) e) (there other (receiving k t x u) f)
    each_made (a_delivery {at = at} {k = k} {s = s} {e = d} {count = count} e offered more) =
        delivers at k s d count e offered more (there at (sending k s d) e)
    each_made (an_arrival {at = at} {k = k} {x = x} {v = v} {s = s} {t = t} {more = more} e offered) =
        arrives at k x v s t more e offered (there at (receiving k s x t) e)
