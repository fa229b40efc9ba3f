-- A move that is a step leads to the very configuration in which the statement at its place has made the step.
--
-- P: the program; g: where its body is, guarded by the root; w: what its wires show; hs: what has passed; f: the run of the program so far.
use Rattle.std.proofs.Common.{◌≡◌, ◌≢◌, ℕ, suc, ◌<◌, ◌≤◌, ◌==◌, Bool, true, false, List, [], ◌∷◌, ◌++◌, length, refl, sym, ap, ◌∙◌, subst, inl, inr, arith, set}
use Rattle.std.specs.Prelude.{◌⊎◌, not, if◌then◌else◌, slice_index, Option, Some, None, is_some}
use Rattle.std.proofs.lemmas.List.{get_or-set_other, get_or-set_same, length-set}
use Rattle.std.proofs.lemmas.Bool.{cases_eq}
use Rattle.std.proofs.lemmas.Bool.Decides.{nat_tests}
use Rattle.chp_base.specs.declared.span.Span.{Span}
use Rattle.env_script.specs.Scripts.{OfferValue, gives, offer_at}
use Rattle.env_script.specs.Runs.{history_at}
use Rattle.width_check.specs.Processes.{Formula, Process, assigning, sending, receiving, TypedProgram, Choices}
use Rattle.width_check.specs.Typing.{channel_width, var_width}
use Rattle.width_check.specs.Sharing.{writes_var, done_at}
use Rattle.chp_meaning.specs.Terms.{Term, finished, Place, statement_at, with_left}
use Rattle.chp_meaning.specs.Steps.{Configuration, Step, a_skip, an_assignment, a_selection, a_turn, an_end, a_repetition, a_communication, a_delivery, an_arrival, value_in, leaving, storing, Leads, no_step, one_step}
use Rattle.chp_meaning.proofs.Places.{same_place}
use Rattle.chp_meaning.proofs.Fitting.{Fits, places_apart}
use Rattle.chp_meaning.proofs.Moves.{Entry, entry, Port, sends, receives, ports_apart, deal, step_deals, appended}
use Rattle.chp_meaning.proofs.Meeting.{found}
use Rattle.function_blocks.specs.Rails.{number_on}
use Rattle.circuit_places.specs.Bounds.{circuit_most}
use Rattle.circuit_places.specs.Lines.{Line, of_channel, of_var, same_line, Rails}
use Rattle.circuit_places.specs.Circuit.{QElementCells, Cells, GuardedSpot, turned_guarded}
use Rattle.circuit_places.specs.Whole.{Wires, wires_seen, line_ack, value_on, cells_passed, Whole, own_node, ack_node, enabled, cells_moved}
use Rattle.circuit_places.proofs.Places.{Mode, idle, running, answered, returning, asks, GuardedAt, g_past, guarded_cells, guarded_shown, guarded_writing, guarded_moves, next_is}
use Rattle.circuit_places.proofs.Stepping.{guarded_steps}
use Rattle.circuit_places.proofs.StepPlaces.{guarded_place}
use Rattle.circuit_places.proofs.TermOf.{guarded_still, guarded_is}
use Rattle.circuit_places.proofs.OwnSteps.{SilentAt, same_step, step_wider, guarded_step, guarded_next}
use Rattle.circuit_places.proofs.Left.{guarded_left, Goes, skips, goes_on, chooses, ends, ToldBy, body_at}
use Rattle.circuit_places.proofs.Flow.{cases}
use Rattle.circuit_places.proofs.LineNames.{self_number, same_number}
use Rattle.circuit_places.proofs.Change.{AckTurned}
use Rattle.circuit_places.proofs.Fires.{Passes, passes_of}
use Rattle.circuit_places.proofs.Writing.{number_told, guarded_writing_unread, guarded_writing_there}
use Rattle.circuit_places.proofs.Talks.{guarded_reads_uses}
use Rattle.circuit_places.proofs.Writers.{Writes, guarded_writes}
use Rattle.circuit_places.proofs.RailLemmas.{each_bit}
use Rattle.circuit_places.proofs.Meets.{sends_merged, receives_heard, uses_within}
use Rattle.circuit_places.proofs.Blocks.{Acked, ack_stays, ack_turns, ready_valid}
use Rattle.circuit_places.proofs.System.{Good, clean_of, root_left, Next, Freed, Rises, Fitted, Decided}
use Rattle.circuit_places.proofs.LineMoves.{line_fires}
use Rattle.circuit_places.proofs.CircuitDue.{due_fits}
use Rattle.circuit_places.proofs.Follow.{Followed, leads_on, kept_so, decided, calm}
use Rattle.circuit_places.proofs.Carry.{Reached, next_reached, present, safe}

-- the same state, seen as the beginning of a run of the program
abbrev pub restart : (P : TypedProgram) (script : List OfferValue) {from : Configuration} {moves : ℕ} {x : Whole P.body} (r : Reached P script from moves x)
    → Reached P script r.followed.to 0 x
restart P script {x = x} r = record {
  mode = r.mode;
  place = r.place;
  root = r.root;
  go = r.go;
  same = r.same;
  good = r.good;
  brought = r.brought;
  followed = record {
    to = r.followed.to;
    steps = 0;
    within = omega arith;
    paid = (let z = due_fits P r.place x.wires in omega (arith, z));
    leads = no_step;
    term = r.followed.term;
    passed = r.followed.passed;
    rests = r.followed.rests;
    as_many = r.followed.as_many;
    as_long = r.followed.as_long;
    as_stored = r.followed.as_stored;
    stored = r.followed.stored;
  };
}

-- what is done at one place of a configuration is one
one_found : {c d e : Configuration} {p : Place} → Fits c.term → Step c p d → Step c p e → d ≡ e
one_found f s u = same (sym (found f s) ∙ found f u)
  where
    same : {d e : Configuration} → Some d ≡ Some e → d ≡ e
    same z = cc z

-- the term of a root that is asked and hasn't answered, by its cells alone
left_by_cells : {p : Process} (m : Mode) (g : GuardedAt p m) (ack : Line → Bool) → asks m ≡ true → (guarded_cells g).next ≡ false
    → root_left ack g ≡ guarded_still p ack (guarded_cells g)
left_by_cells running g ack a low = guarded_is ack g
left_by_cells answered g_past ack a low = absurd (cc low)
left_by_cells idle g ack a low = absurd (cc a)
left_by_cells returning g ack a low = absurd (cc a)

-- An own node's silent step.
module _ (P : TypedProgram) {script : List OfferValue} {c : Configuration} (g : GuardedAt P.body running) (w : Wires) (hs : List (List ℕ)) {due : ℕ}
    (good : Good P running g w)
    (f : Followed P script c 0 hs (guarded_left (line_ack P w) g) w.bit (guarded_writing (line_ack P w) g) due) where
  abbrev busy : ℕ → Bool
  busy = guarded_writing (line_ack P w) g

  told : (choices : Choices) (ps : List Process) → ToldBy (wires_seen P w) (guarded_shown g).read choices ps → Decided P w.bit busy choices ps
  told choices ps t store agree = t store (λ x read. agree x (uses_within P P.body good.meets x (guarded_reads_uses g x read)) (unwritten x read))
    where
      unwritten : (x : ℕ) → (guarded_shown g).read x ≡ true → guarded_writing (line_ack P w) g x ≡ false
      unwritten x read = cases (guarded_writing (line_ack P w) g x)
          (λ (e : guarded_writing (line_ack P w) g x ≡ true). absurd (cc (guarded_writing_unread P (line_ack P w) g good.meets x e, read)))
          (λ (e : guarded_writing (line_ack P w) g x ≡ false). e)

  module _ (s : GuardedSpot P.body) (e : guarded_moves (wires_seen P w) g s ≡ true) (z : guarded_steps g s ≡ true)
      (y : Next P script running g w hs (own_node s)) where
    -- the step that the term makes
    moved_left : SilentAt (Decided P w.bit busy) (guarded_left (line_ack P w) g) (root_left (line_ack P w) y.to) (guarded_place s)
    moved_left =
        let stays : (guarded_cells y.to).next ≡ false =
        ap (λ (q : QElementCells (Cells P.body)). q.next) y.same ∙ (guarded_next g s z ∙ next_is g) in
        same_step (Decided P w.bit busy) (guarded_still P.body (line_ack P w) (guarded_cells g)) (guarded_left (line_ack P w) g)
        (guarded_still P.body (line_ack P w) (turned_guarded P.body (guarded_cells g) s)) (root_left (line_ack P w) y.to) (guarded_place s)
        (guarded_is (line_ack P w) g)
        (left_by_cells y.mode y.to (line_ack P w) y.go stays ∙ ap (guarded_still P.body (line_ack P w)) y.same)
        (step_wider (ToldBy (wires_seen P w) (guarded_shown g).read) (Decided P w.bit busy) told
        (guarded_still P.body (line_ack P w) (guarded_cells g)) (guarded_still P.body (line_ack P w) (turned_guarded P.body (guarded_cells g) s))
        (guarded_place s)
        (guarded_step P (wires_seen P w) (clean_of good) g good.meets good.fits record {
          send = λ k i h. good.talk k (sends_merged P P.body good.meets k i) h;
          receive = λ k i h. good.listen k (receives_heard P P.body good.meets k i) h;
        } s e z))

    free : (x : ℕ) → guarded_writing (line_ack P w) y.to x ≡ false → (w.bit x ≡ w.bit x) × (busy x ≡ false)
    free x o = calm w w busy (guarded_writing (line_ack P w) y.to) (λ v. refl) y.frees x o

    silent_is : (q : Process) (l : Term) → Goes (Decided P w.bit busy) q l → statement_at f.to.term (guarded_place s) ≡ Some q
        → Step f.to (guarded_place s) (leaving f.to (guarded_place s) l)
    silent_is _ _ skips h = a_skip h
    silent_is _ _ goes_on h = a_repetition h
    silent_is _ _ (chooses {again = false} {choices = choices} i d) h =
        a_selection h (decided f 0 w.bit (guarded_writing (line_ack P w) y.to) free choices (body_at choices i ∷ []) d)
    silent_is _ _ (chooses {again = true} {choices = choices} i d) h =
        a_turn h (decided f 0 w.bit (guarded_writing (line_ack P w) y.to) free choices (body_at choices i ∷ []) d)
    silent_is _ _ (ends {choices = choices} d) h = an_end h (decided f 0 w.bit (guarded_writing (line_ack P w) y.to) free choices [] d)

    pub own_made : {d : Configuration} → Fits f.to.term → Step f.to (guarded_place s) d → (left_due : ℕ) → suc left_due ≤ circuit_most P
        → (u : Followed P script c 1 hs (root_left (line_ack P w) y.to) w.bit (guarded_writing (line_ack P w) y.to) left_due) × (u.to ≡ d)
    own_made fit made left_due few =
        let a = moved_left in
        let step = silent_is a.statement a.rest a.goes (ap (λ t. statement_at t (guarded_place s)) f.term ∙ a.stands) in (
          record {
            to = leaving f.to (guarded_place s) a.rest;
            steps = suc f.steps;
            within = (let n = f.within in omega (arith, n));
            paid = (let n = f.paid in omega (arith, n, few));
            leads = leads_on f.leads step;
            term = ap (λ t. with_left t (guarded_place s) a.rest) f.term ∙ sym a.then_is;
            passed = f.passed;
            rests = f.rests;
            as_many = f.as_many;
            as_long = f.as_long;
            as_stored = f.as_stored;
            stored = kept_so f left_due w.bit (guarded_writing (line_ack P w) y.to) free;
          },
          one_found fit step made,
        )

-- The rise of a variable's acknowledge under an assignment, by a node of its block.
module _ (P : TypedProgram) (script : List OfferValue) {c : Configuration} (g : GuardedAt P.body running) (w : Wires) (hs : List (List ℕ)) {due : ℕ}
    (good : Good P running g w)
    (f : Followed P script c 0 hs (guarded_left (line_ack P w) g) w.bit (guarded_writing (line_ack P w) g) due)
    (v : ℕ) (now : Wires) (rails : now.rail ≡ w.rail) (bits : now.bit ≡ w.bit) (acks_stay : (k : ℕ) → now.ack k ≡ w.ack k)
    (far : (y : ℕ) → (y == v) ≡ false → line_ack P now (of_var y) ≡ line_ack P w (of_var y)) (low : line_ack P w (of_var v) ≡ false)
    (high : line_ack P now (of_var v) ≡ true) (some : 1 ≤ var_width P.vars v)
    (acked : Acked (var_width P.vars v) (w.bit v) (w.rail (of_var v)) (w.wrote v) (line_ack P w (of_var v)) (line_ack P now (of_var v)))
    {m : Mode} (h : GuardedAt P.body m) (cells_stay : guarded_cells h ≡ guarded_cells g) (asked : asks m ≡ true)
    (frees : (x : ℕ) → Freed P w now (guarded_writing (line_ack P w) g x) (guarded_writing (line_ack P now) h x) x ⊥)
    (p : Place) (at : Span) (e : Formula) (stands : statement_at f.to.term p ≡ Some (assigning v at e)) (fit : Fits f.to.term) where
  -- all its bits have what is on the rails
  valid : (is_some (value_on (var_width P.vars v) (w.rail (of_var v))) ≡ true)
      × (value_on (var_width P.vars v) (w.bit v) ≡ value_on (var_width P.vars v) (w.rail (of_var v)))
  valid = by acked
    where
      by : Acked (var_width P.vars v) (w.bit v) (w.rail (of_var v)) (w.wrote v) (line_ack P w (of_var v)) (line_ack P now (of_var v))
          → (is_some (value_on (var_width P.vars v) (w.rail (of_var v))) ≡ true)
          × (value_on (var_width P.vars v) (w.bit v) ≡ value_on (var_width P.vars v) (w.rail (of_var v)))
      by (ack_stays same) = absurd (cc (same, low, high))
      by (ack_turns over ready) = ready_valid (var_width P.vars v) (w.bit v) (w.rail (of_var v)) (w.wrote v) (line_ack P w (of_var v)) low ready

  -- an assignment writes it, for no receive that does stands beside that
  says : (guarded_shown g).says (of_var v) ≡ true
  says =
      let z : 0 < var_width P.vars v = omega (arith, some) in
      let (side, up) = each_bit (var_width P.vars v) (w.rail (of_var v)) valid.0 0 z in
      by (guarded_writes (line_ack P w) g v (guarded_writing_there (wires_seen P w) g good.fits v 0 side low (good.rising (of_var v) 0 side refl low up)))
    where
      by : Writes (guarded_shown g) (guarded_left (line_ack P w) g) v → (guarded_shown g).says (of_var v) ≡ true
      by (inl i) = i
      by (inr (q, k, s, u, i)) = by_place (same_place p q) (ap (λ t. statement_at t q) f.term ∙ i)
        where
          by_place : (p ≡ q) ⊎ (p ≢ q) → statement_at f.to.term q ≡ Some (receiving k s v u) → (guarded_shown g).says (of_var v) ≡ true
          by_place (inl same) j = absurd (cc (ap (statement_at f.to.term) same, stands, j))
          by_place (inr ne) j = absurd (places_apart f.to.term p q (assigning v at e) (receiving k s v u) fit ne stands j (done_at (writes_var v) at)
              (done_at (writes_var v) u) (inl refl) (inr (inl refl)) refl)

  far_of : (l : Line) → same_line l (of_var v) ≡ false → line_ack P now l ≡ line_ack P w l
  far_of (of_channel k) i = acks_stay k
  far_of (of_var y) i = far y i

  turns_up : AckTurned P (wires_seen P w) (wires_seen P now) (of_var v)
  turns_up = record {
    here = high ∙ sym (ap not low);
    far = far_of;
    bits = bits;
    rails = λ k i. ap (λ (r : Line → Rails). r (of_channel k)) rails;
    widths = refl;
  }

  pass : Passes P (wires_seen P w) (guarded_writing (line_ack P w) g) (of_var v) (root_left (line_ack P w) g) (root_left (line_ack P now) g)
  pass = passes_of P (wires_seen P w) (guarded_writing (line_ack P w) g) (of_var v) (root_left (line_ack P w) g) (root_left (line_ack P now) g)
      (line_fires P script hs good (of_var v) now turns_up rails low valid.0 (λ d i u. absurd (cc i)) some true false says refl)

  same_left : root_left (line_ack P now) h ≡ root_left (line_ack P now) g
  same_left = left_by_cells m h (line_ack P now) asked (ap (λ (q : QElementCells (Cells P.body)). q.next) cells_stay ∙ next_is g)
      ∙ (ap (guarded_still P.body (line_ack P now)) cells_stay ∙ sym (guarded_is (line_ack P now) g))

  there : statement_at f.to.term pass.act.at ≡ Some (assigning v pass.span pass.expression)
  there = ap (λ t. statement_at t pass.act.at) f.term ∙ pass.act.stands

  one : pass.act.at ≡ p
  one = by (same_place pass.act.at p)
    where
      by : (pass.act.at ≡ p) ⊎ (pass.act.at ≢ p) → pass.act.at ≡ p
      by (inl same) = same
      by (inr ne) = absurd (places_apart f.to.term pass.act.at p (assigning v pass.span pass.expression) (assigning v at e) fit ne there stands
          (done_at (writes_var v) pass.span) (done_at (writes_var v) at) (inl refl) (inl refl) refl)

  kept : (z : ℕ) → z < length P.vars → guarded_writing (line_ack P now) h z ≡ false
      → number_on (var_width P.vars z) (now.bit z) ≡ slice_index (set f.to.store v (value_in f.to pass.expression)) z
  kept z less o = ap (number_on (var_width P.vars z)) (frees z o).0 ∙ cases (z == v)
      (λ (i : (z == v) ≡ true). let same = same_number z v i in
      ap (λ x. number_on (var_width P.vars x) (w.bit x)) same
      ∙ (number_told (var_width P.vars v) (w.bit v) (value_in f.to pass.expression)
      (valid.1 ∙ pass.read (slice_index f.to.store) (λ x below calm. f.stored x below calm))
      ∙ sym (ap (slice_index (set f.to.store v (value_in f.to pass.expression))) same
      ∙ get_or-set_same f.to.store v (value_in f.to pass.expression) 0
      (let b : v < length f.to.store = subst (λ (n : ℕ). v < n) (sym f.as_stored) (subst (λ (x : ℕ). x < length P.vars) same less) in b))))
      (λ (i : (z == v) ≡ false).
      f.stored z less (still i (frees z o).1)
      ∙ sym (get_or-set_other f.to.store v z (value_in f.to pass.expression) 0 (λ (same : z ≡ v). absurd (cc (i, ap (λ x. x == v) same, self_number v)))))
    where
      still : (z == v) ≡ false → (guarded_writing (line_ack P w) g z ≡ false) ⊎ (Rises P w now z ⊎ ⊥) → guarded_writing (line_ack P w) g z ≡ false
      still i (inl b) = b
      still i (inr (inl q)) = absurd (cc (far z i, q.low, q.high))
      still i (inr (inr q)) = absurd q

  pub var_made : {d : Configuration} → Step f.to p d → (left_due : ℕ) → suc left_due ≤ circuit_most P
      → (u : Followed P script c 1 hs (root_left (line_ack P now) h) now.bit (guarded_writing (line_ack P now) h) left_due) × (u.to ≡ d)
  var_made made left_due few =
      let step = an_assignment there in (
        record {
          to = storing (leaving f.to pass.act.at finished) v (value_in f.to pass.expression);
          steps = suc f.steps;
          within = (let n = f.within in omega (arith, n));
          paid = (let n = f.paid in omega (arith, n, few));
          leads = leads_on f.leads step;
          term = ap (λ z. with_left z pass.act.at finished) f.term ∙ (sym pass.act.then_is ∙ sym same_left);
          passed = f.passed;
          rests = f.rests;
          as_many = f.as_many;
          as_long = f.as_long;
          as_stored = length-set f.to.store v (value_in f.to pass.expression) ∙ f.as_stored;
          stored = kept;
        },
        one_found fit (subst (λ q. Step f.to q (storing (leaving f.to pass.act.at finished) v (value_in f.to pass.expression))) one step) made,
      )

-- The rise of a channel's acknowledge.
pub has_port : {c d : Configuration} {p : Place} (s : Step c p d) (k : ℕ) (at : Span) (e : Formula) → statement_at c.term p ≡ Some (sending k at e) → Port c p k
has_port (a_skip on) k at e h = absurd (cc (on, h))
has_port (an_assignment on) k at e h = absurd (cc (on, h))
has_port (a_selection on true_ones) k at e h = absurd (cc (on, h))
has_port (a_turn on true_ones) k at e h = absurd (cc (on, h))
has_port (an_end on true_ones) k at e h = absurd (cc (on, h))
has_port (a_repetition on) k at e h = absurd (cc (on, h))
has_port (a_communication {c = c} {at = p} other {k = l} on there inside) k at e h =
    let same : l ≡ k = cc (on, h) in subst (λ n. Port c p n) same (sends on (λ vs g. absurd (cc (inside, g))))
has_port (a_delivery {c = c} {at = p} {k = l} on offered more) k at e h =
    let same : l ≡ k = cc (on, h) in subst (λ n. Port c p n) same (sends on (λ vs g. absurd (cc (offered, g))))
has_port (an_arrival on offered) k at e h = absurd (cc (on, h))

pub hears_port : {c d : Configuration} {p : Place} (s : Step c p d) (k x : ℕ) (at to : Span) → statement_at c.term p ≡ Some (receiving k at x to) → Port c p k
hears_port (a_skip on) k x at to h = absurd (cc (on, h))
hears_port (an_assignment on) k x at to h = absurd (cc (on, h))
hears_port (a_selection on true_ones) k x at to h = absurd (cc (on, h))
hears_port (a_turn on true_ones) k x at to h = absurd (cc (on, h))
hears_port (an_end on true_ones) k x at to h = absurd (cc (on, h))
hears_port (a_repetition on) k x at to h = absurd (cc (on, h))
hears_port (a_communication other on there inside) k x at to h = absurd (cc (on, h))
hears_port (a_delivery on offered more) k x at to h = absurd (cc (on, h))
hears_port (an_arrival {c = c} {k = l} {v = v} {more = more} on offered) k x at to h =
    let same : l ≡ k = cc (on, h) in receives h (subst (λ n. offer_at c.rests n ≡ gives (v ∷ more)) same offered)

passes_port : {c d : Configuration} {p : Place} (s : Step c p d) (k v : ℕ) → (deal s).pass ≡ Some (entry k v) → Port c p k
passes_port (a_communication {c = c} {at = p} other {k = l} on there inside) k v e = let same : l ≡ k = cc e in
    subst (λ n. Port c p n) same (sends on (λ vs g. absurd (cc (inside, g))))
passes_port (a_delivery {c = c} {at = p} {k = l} on offered more) k v e = let same : l ≡ k = cc e in
    subst (λ n. Port c p n) same (sends on (λ vs g. absurd (cc (offered, g))))
passes_port (an_arrival {c = c} {at = p} {k = l} on offered) k v e = let same : l ≡ k = cc e in subst (λ n. Port c p n) same (receives on offered)
passes_port (a_skip on) k v e = absurd (cc e)
passes_port (an_assignment on) k v e = absurd (cc e)
passes_port (a_selection on true_ones) k v e = absurd (cc e)
passes_port (a_turn on true_ones) k v e = absurd (cc e)
passes_port (an_end on true_ones) k v e = absurd (cc e)
passes_port (a_repetition on) k v e = absurd (cc e)

longer : (h : List ℕ) (v : ℕ) → h ≡ h ++ v ∷ [] → ⊥
longer [] v e = cc e
longer (x ∷ h) v e = longer h v (tail e)
  where
    tail : x ∷ h ≡ x ∷ h ++ v ∷ [] → h ≡ h ++ v ∷ []
    tail e = cc e

-- of a step by which a value passes on the channel
port_of : {c e : Configuration} {q : Place} (s : Step c q e) (k v : ℕ) → k < length c.histories
    → e.histories ≡ set c.histories k (history_at c.histories k ++ v ∷ []) → Port c q k
port_of {c = c} {e = e} {q = q} s k v less same = by (deal s).pass refl
  where
    here : history_at e.histories k ≡ history_at c.histories k ++ v ∷ []
    here = ap (λ x. history_at x k) same ∙ get_or-set_same c.histories k (history_at c.histories k ++ v ∷ []) [] less

    dealt_so : e.histories ≡ appended c.histories (deal s).pass
    dealt_so = sym (ap (λ (x : Configuration). x.histories) (step_deals s))

    by : (o : Option (Entry ℕ)) → (deal s).pass ≡ o → Port c q k
    by None h = absurd (longer (history_at c.histories k) v (sym (ap (λ x. history_at x k) (dealt_so ∙ ap (appended c.histories) h)) ∙ here))
    by (Some (entry j x)) h = by_number (cases_eq k j)
      where
        by_number : (k ≡ j) ⊎ (k ≡ j → ⊥) → Port c q k
        by_number (inl eq) = subst (λ n. Port c q n) (sym eq) (passes_port s j x h)
        by_number (inr ne) = absurd (longer (history_at c.histories k) v
            (sym (get_or-set_other c.histories j k (history_at c.histories j ++ x ∷ []) [] ne)
            ∙ (sym (ap (λ y. history_at y k) (dealt_so ∙ ap (appended c.histories) h)) ∙ here)))

pub ack_made : (P : TypedProgram) (script : List OfferValue) (fitted : Fitted P script) {c d : Configuration} {x : Whole P.body}
    (r : Reached P script c 0 x) → r.followed.to ≡ c → Fits c.term → (k : ℕ) (e : enabled P script x (ack_node k) ≡ true) → x.wires.ack k ≡ false
    → {p : Place} → Step c p d → Port c p k → (next_reached P script fitted r (ack_node k) e).followed.to ≡ d
ack_made P script fitted {c = c} {d = d} {x = x} r begins fit k e low {p = p} made port =
    let y = next_reached P script fitted r (ack_node k) e in
    let o = some_of (value_on (channel_width P.channels k) (x.wires.rail (of_channel k))) ((safe P script fitted x r).ack_up k low e) in
    by y.followed.steps y.followed.to y.followed.leads y.followed.within o.0 (passed_so o.0 o.1 y.followed.to y.followed.passed)
  where
    hs_are : c.histories ≡ x.histories
    hs_are = ap (λ (y : Configuration). y.histories) (sym begins) ∙ r.followed.passed

    less : k < length c.histories
    less =
        let there = present P script fitted r (ack_node k) e in
        let long = r.followed.as_long in
        let same : length c.histories ≡ length x.histories = ap length hs_are in
        grind (arith, nat_tests)

    some_of : (o : Option ℕ) → is_some o ≡ true → (v : ℕ) × (o ≡ Some v)
    some_of (Some v) i = (v, refl)
    some_of None i = absurd (cc i)

    passed_so : (v : ℕ) → value_on (channel_width P.channels k) (x.wires.rail (of_channel k)) ≡ Some v → (y : Configuration)
        → y.histories ≡ (cells_moved P x (ack_node k)).histories → y.histories ≡ set c.histories k (history_at c.histories k ++ v ∷ [])
    passed_so v i y same = same
        ∙ (ap (λ b. if b then x.histories else cells_passed x.histories k (value_on (channel_width P.channels k) (x.wires.rail (of_channel k)))) low
        ∙ (ap (cells_passed x.histories k) i ∙ ap (λ hs. set hs k (history_at hs k ++ v ∷ [])) (sym hs_are)))

    one_of : (q : Place) (y : Configuration) → Step c q y → (v : ℕ) → y.histories ≡ set c.histories k (history_at c.histories k ++ v ∷ []) → y ≡ d
    one_of q y s v same = by_place (same_place q p)
      where
        by_place : (q ≡ p) ⊎ (q ≢ p) → y ≡ d
        by_place (inl eq) = one_found fit (subst (λ a. Step c a y) eq s) made
        by_place (inr ne) = absurd (ports_apart c q p k fit ne (port_of s k v less same) port)

    by : (n : ℕ) (y : Configuration) → Leads c n y → n ≤ 1 → (v : ℕ) → y.histories ≡ set c.histories k (history_at c.histories k ++ v ∷ []) → y ≡ d
    by n y no_step w v same = absurd (longer (history_at c.histories k) v (ap (λ hs. history_at hs k) same
        ∙ get_or-set_same c.histories k (history_at c.histories k ++ v ∷ []) [] less))
    by n y (one_step {at = q} s no_step) w v same = one_of q y s v same
    by n y (one_step s (one_step t l)) w v same = absurd (omega (arith, w))
