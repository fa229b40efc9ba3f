-- The circuit of each covered program whose assignments don't read their own target carries it.
use Rattle.std.proofs.Common.{◌≡◌, ◌≢◌, ℕ, zero, suc, ◌/◌, ◌^◌, ◌<◌, ◌≤◌, ◌⊎◌, inl, inr, Bool, true, false, List, [], ◌∷◌, length, refl, sym, ap, ◌∙◌, subst, arith}
use Rattle.std.proofs.Math.ListN.{get_or-eq_default}
use Rattle.std.proofs.lemmas.Bool.Decides.{nat_tests}
use Rattle.std.proofs.lemmas.List.Elements.{All-head, All-tail}
use Rattle.std.specs.Prelude.{not, nat_lt, ◌&&◌, ◌||◌, if◌then◌else◌, slice_get, Some, All}
use Rattle.chp_base.specs.declared.channel.Channel.{Channel}
use Rattle.chp_base.specs.declared.channel.Kind.{Kind}
use Rattle.chp_base.specs.declared.channel.Kind.TheVariants.{In, Out, Chan}
use Rattle.env_script.specs.declared.script.Count.{Count}
use Rattle.env_script.specs.Scripts.{OfferValue, gives, takes, nothing, offer_at, IsScript, Suits}
use Rattle.env_script.specs.Runs.{completed}
use Rattle.width_check.specs.Processes.{TypedProgram}
use Rattle.width_check.specs.Typing.{kind_at, channel_width, var_width, IsDeclaredChannel}
use Rattle.width_check.specs.declared.typed.Var.{Var}
use Rattle.width_check.specs.Sharing.{Occurrence, Parallel}
use Rattle.env_script.specs.Environment.{is_odd}
use Rattle.cell_parallel.specs.Trees.{tree_top}
use Rattle.std.specs.List.{range_with_len}
use Rattle.std.proofs.lemmas.Bool.{cases_lt}
use Rattle.circuit_places.specs.Lines.{Line, of_channel, of_var, line_width}
use Rattle.circuit_places.specs.Circuit.{joint_count, tree_answer, same_bit, QElementCells, Cells, turns, one_rule_fires, no_rule, is_apart, guarded_rule, site_rails, takers}
use Rattle.circuit_places.specs.Whole.{wires_seen, line_ack, is_sent, is_heard, is_merged, merged, brings, drives, offers, bit_rule, wrote_rule, number_rail, first_bits, Whole, Node, go_node, own_node, rail_node, ack_node, bit_node, wrote_node, joint_node, is_node, rule_in, answers, enabled, wires_after, go_after, root_after, cells_moved, first_cells, Reaches, at_first, by_move}
use Rattle.chp_meaning.specs.Halves.{IsSized, IsSizedVar, IsPlain}
use Rattle.chp_meaning.specs.Steps.{Configuration, start_of}
use Rattle.circuit_places.specs.Carried.{IsSafe, IsCarried, CircuitsCarry}
use Rattle.circuit_places.proofs.Places.{Mode, idle, running, answered, returning, asks, is_idle, GuardedAt, g_rests, guarded_cells, guarded_shown, guarded_writing, guarded_can_is}
use Rattle.circuit_places.proofs.Writing.{first_numbers}
use Rattle.circuit_places.proofs.Meets.{ExpressionsHold, Meets, Clash, meets, receives_within}
use Rattle.circuit_places.proofs.Trees.{TreesSettle, tree_over, all_low_value, settling_low, joint_apart, joint_absent}
use Rattle.circuit_places.proofs.BitTable.{valid, legal_at_first}
use Rattle.circuit_places.proofs.Blocks.{Block, now_at, bit_apart, wrote_apart}
use Rattle.circuit_places.proofs.Sites.{any, is_nil, merged_can, merged_apart, same_sites, guarded_offered, same_takers, guarded_taken}
use Rattle.circuit_places.proofs.Talks.{either, guarded_takes_listens, guarded_listens_receives}
use Rattle.circuit_places.proofs.Arriving.{Arriving, arriving, none_arrives}
use Rattle.circuit_places.proofs.System.{node_steps, Good, clean_of, can, driven, sent_turns, heard_turns, root_left, Fitted, takes_of, may_low, may_high}
use Rattle.circuit_places.proofs.LineMoves.{offered_below, gives_of, brings_below, drives_up, phase_up, phase_down}
use Rattle.circuit_places.proofs.BlockMoves.{some_of, next_of}
use Rattle.circuit_places.proofs.Apart.{guarded_apart}
use Rattle.circuit_places.proofs.Follow.{Followed, started, follows}
use Rattle.circuit_places.proofs.CircuitDue.{circuit_due, due_fits}
use Rattle.circuit_places.proofs.CircuitFalls.{circuit_falls}
use Rattle.circuit_places.proofs.Flow.{cases, not_both}
use Rattle.circuit_places.proofs.RailLemmas.{fst_true, snd_true, not_true, never_and}
use Rattle.circuit_places.proofs.Absent.{guarded_absent}
use Rattle.circuit_places.proofs.Ended.{at_end}

-- an offer suits the kind of its channel
suited : (channels : List Channel) (script : List OfferValue) → IsScript channels script → (k : ℕ) → k < length channels
    → Suits (kind_at channels k) (channel_width channels k) (offer_at script k)
suited [] script s k below = absurd (let g : ⊥ = omega (arith, below) in g)
suited (c ∷ cs) [] s k below = absurd s
suited (c ∷ cs) (o ∷ os) s zero below = s.0
suited (c ∷ cs) (o ∷ os) s (suc k) below = suited cs os s.1 k (let g : k < length cs = omega (arith, below) in g)

sent_takes : (k : Kind) (n : ℕ) (o : OfferValue) → Suits k n o → is_sent k ≡ true → is_heard k ≡ false → (count : Count) × (o ≡ takes count)
sent_takes In n o s h u = absurd (cc h)
sent_takes Chan n o s h u = absurd (cc u)
sent_takes Out n (takes count) s h u = (count, refl)
sent_takes Out n (gives values) s h u = absurd s
sent_takes Out n nothing s h u = absurd s

heard_gives : (k : Kind) (n : ℕ) (o : OfferValue) → Suits k n o → is_sent k ≡ false → is_heard k ≡ true → (values : List ℕ) × (o ≡ gives values)
heard_gives Out n o s u h = absurd (cc h)
heard_gives Chan n o s u h = absurd (cc u)
heard_gives In n (gives values) s u h = (values, refl)
heard_gives In n (takes count) s u h = absurd s
heard_gives In n nothing s u h = absurd s

inside_nothing : (k : Kind) (n : ℕ) (o : OfferValue) → Suits k n o → is_sent k ≡ true → is_heard k ≡ true → o ≡ nothing
inside_nothing In n o s u h = absurd (cc u)
inside_nothing Out n o s u h = absurd (cc h)
inside_nothing Chan n nothing s u h = refl
inside_nothing Chan n (gives values) s u h = absurd s
inside_nothing Chan n (takes count) s u h = absurd s

takes_kind : (k : Kind) (n : ℕ) (count : Count) → Suits k n (takes count) → (is_sent k ≡ true) × (is_heard k ≡ false)
takes_kind In n count s = absurd s
takes_kind Out n count s = (refl, refl)
takes_kind Chan n count s = absurd s

gives_kind : (k : Kind) (n : ℕ) (values : List ℕ) → Suits k n (gives values) → (is_sent k ≡ false) × (is_heard k ≡ true) × All (λ v. v < 2 ^ n) values
gives_kind In n values s = (refl, refl, s)
gives_kind Out n values s = absurd s
gives_kind Chan n values s = absurd s

all_at : (p : ℕ → Type 0) (values : List ℕ) → All p values → (n v : ℕ) → slice_get values n ≡ Some v → p v
all_at p [] each zero v e = absurd (cc e)
all_at p [] each (suc n) v e = absurd (cc e)
all_at p (x ∷ xs) each zero v e = subst p (same e) (All-head p x xs each)
  where
    same : Some x ≡ Some v → x ≡ v
    same e = cc e
all_at p (x ∷ xs) each (suc n) v e = all_at p xs (All-tail p x xs each) n v e

as_many : (channels : List Channel) (script : List OfferValue) → IsScript channels script → length script ≡ length channels
as_many [] [] s = refl
as_many [] (o ∷ os) s = absurd s
as_many (c ∷ cs) [] s = absurd s
as_many (c ∷ cs) (o ∷ os) s = ap (λ k. suc k) (as_many cs os s.1)

has_bits : (channels : List Channel) → All IsDeclaredChannel channels → (k : ℕ) → k < length channels → 1 ≤ channel_width channels k
has_bits [] each k below = absurd (let g : ⊥ = omega (arith, below) in g)
has_bits (c ∷ cs) each zero below = (All-head IsDeclaredChannel c cs each).some
has_bits (c ∷ cs) each (suc k) below = has_bits cs (All-tail IsDeclaredChannel c cs each) k (let g : k < length cs = omega (arith, below) in g)

offers_within : (script : List OfferValue) (k : ℕ) → offer_at script k ≢ nothing → k < length script
offers_within [] k e = absurd (e refl)
offers_within (o ∷ os) zero e = omega arith
offers_within (o ∷ os) (suc k) e = let g : k < length os = offers_within os k e in omega (arith, g)

-- each variable has a bit
var_bits : (vars : List Var) → All IsSizedVar vars → (x : ℕ) → x < length vars → 1 ≤ var_width vars x
var_bits [] each x below = absurd (let g : ⊥ = omega (arith, below) in g)
var_bits (v ∷ vs) each zero below = (All-head IsSizedVar v vs each).some
var_bits (v ∷ vs) each (suc x) below = var_bits vs (All-tail IsSizedVar v vs each) x (let g : x < length vs = omega (arith, below) in g)

module _ (P : TypedProgram) (script : List OfferValue) (typed : IsSized P.channels P.vars P.body) (s : IsScript P.channels script) where
  within : (k : ℕ) → offer_at script k ≢ nothing → k < length P.channels
  within k e = subst (λ (n : ℕ). k < n) (as_many P.channels script s) (offers_within script k e)

  suits : (k : ℕ) (o : OfferValue) → offer_at script k ≡ o → o ≢ nothing → Suits (kind_at P.channels k) (channel_width P.channels k) o
  suits k o e ne = subst (Suits (kind_at P.channels k) (channel_width P.channels k)) e (suited P.channels script s k (within k (λ z. ne (sym e ∙ z))))

  pub fits : Fitted P script
  fits = record {
    within = within;
    wide = has_bits P.channels typed.each_channel;
    sends = λ k below. sent_takes (kind_at P.channels k) (channel_width P.channels k) (offer_at script k) (suited P.channels script s k below);
    hears = λ k below. heard_gives (kind_at P.channels k) (channel_width P.channels k) (offer_at script k) (suited P.channels script s k below);
    inside = λ k below. inside_nothing (kind_at P.channels k) (channel_width P.channels k) (offer_at script k) (suited P.channels script s k below);
    out = λ k count e. takes_kind (kind_at P.channels k) (channel_width P.channels k) count (suits k (takes count) e (λ z. cc z));
    brought = λ k values e. let x = gives_kind (kind_at P.channels k) (channel_width P.channels k) values (suits k (gives values) e (λ z. cc z)) in (x.0, x.1);
    bounded = λ k values e n v. all_at (λ v. v < 2 ^ channel_width P.channels k) values
        (gives_kind (kind_at P.channels k) (channel_width P.channels k) values (suits k (gives values) e (λ z. cc z))).2 n v;
    same = as_many P.channels script s;
    firsts = first_numbers P.vars typed.each_var;
  }

-- where a state stands
pub record Reached (P : TypedProgram) (script : List OfferValue) (from : Configuration) (moves : ℕ) (x : Whole P.body) : Type 0 where
  pub mode : Mode
  pub place : GuardedAt P.body mode
  pub root : mode ≢ returning
  pub go : x.go ≡ asks mode
  pub same : x.root ≡ guarded_cells place
  pub good : Good P mode place x.wires
  pub brought : Arriving P script x.histories x.wires
  pub followed : Followed P script from moves x.histories (root_left (line_ack P x.wires) place) x.wires.bit (guarded_writing (line_ack P x.wires) place)
      (circuit_due P place x.wires)

or_false : (b : Bool) → (b || false) ≡ b
or_false true = refl
or_false false = refl

no_fire : (b : Bool) → one_rule_fires (no_rule b) ≡ false
no_fire true = refl
no_fire false = refl

go_is : (m : Mode) → m ≢ returning → (one_rule_fires (no_rule (asks m)) || not (asks m)) ≡ is_idle m
go_is idle ne = refl
go_is running ne = refl
go_is answered ne = refl
go_is returning ne = absurd (ne refl)

module _ (P : TypedProgram) (script : List OfferValue) {from : Configuration} {moves : ℕ} {x : Whole P.body} (r : Reached P script from moves x) where
  rail_is : (k : Line) (i : ℕ) (one : Bool) →
      one_rule_fires (rule_in P x (rail_node k i one)) ≡ sent_turns P x.wires k i one ((guarded_shown r.place).offer k i one)
  rail_is k i one = here (is_merged P k) refl
    where
      here : (b : Bool) → is_merged P k ≡ b → one_rule_fires (if b then merged (x.wires.rail k i one) (site_rails P.body x.root.inner k i one) else no_rule
          (x.wires.rail k i one)) ≡ (b && turns (x.wires.rail k i one) ((guarded_shown r.place).offer k i one) (not ((guarded_shown r.place).offer k i one)))
      here true u =
          merged_can (x.wires.rail k i one) (site_rails P.body x.root.inner k i one)
          (λ e. ap (λ (g : QElementCells (Cells P.body)). is_nil (site_rails P.body g.inner k i one)) r.same
          ∙ (same_sites r.place k i one ∙ r.good.sited k i one u e))
          ∙ ap (λ b. turns (x.wires.rail k i one) b (not b)) (ap (λ (g : QElementCells (Cells P.body)). any (site_rails P.body g.inner k i one)) r.same
          ∙ guarded_offered r.place k i one)
      here false u = no_fire (x.wires.rail k i one)

  ack_is : (k : ℕ) → one_rule_fires (rule_in P x (ack_node k)) ≡ heard_turns P x.wires k ((guarded_shown r.place).take k)
  ack_is k = here (is_heard (kind_at P.channels k)) refl
    where
      here : (b : Bool) → is_heard (kind_at P.channels k) ≡ b → one_rule_fires (if b then merged (x.wires.ack k) (takers P.body x.root.inner k) else no_rule
          (x.wires.ack k)) ≡ (b && turns (x.wires.ack k) ((guarded_shown r.place).take k) (not ((guarded_shown r.place).take k)))
      here true u =
          merged_can (x.wires.ack k) (takers P.body x.root.inner k)
          (λ e. ap (λ (g : QElementCells (Cells P.body)). is_nil (takers P.body g.inner k)) r.same ∙ (same_takers r.place k ∙ r.good.heard_sited k e u))
          ∙ ap (λ b. turns (x.wires.ack k) b (not b)) (ap (λ (g : QElementCells (Cells P.body)). any (takers P.body g.inner k)) r.same
          ∙ guarded_taken r.place k)
      here false u = no_fire (x.wires.ack k)

  by_bits : (v i : ℕ) {A : Type 0} → (i < var_width P.vars v → A) → ((i < var_width P.vars v → ⊥) → A) → A
  by_bits v i {A = A} f g = here (cases_lt i (var_width P.vars v))
    where
      here : (i < var_width P.vars v) ⊎ (var_width P.vars v ≤ i) → A
      here (inl less) = f less
      here (inr out) = g (λ less. omega (arith, less, out))

  low_rail : (v i : ℕ) (one : Bool) → (i < var_width P.vars v → ⊥) → x.wires.rail (of_var v) i one ≡ false
  low_rail v i one out = cases (x.wires.rail (of_var v) i one) (λ (h : x.wires.rail (of_var v) i one ≡ true). absurd (out (r.good.wide (of_var v) i one h)))
      (λ (h : x.wires.rail (of_var v) i one ≡ false). h)

  -- which moves are enabled in it
  pub enabled_is : (n : Node P.body) → enabled P script x n ≡ can P script r.place x.wires x.histories n
  enabled_is go_node = ap (λ b. one_rule_fires (no_rule b) || not b) r.go ∙ go_is r.mode r.root
  enabled_is (own_node s) =
      or_false (one_rule_fires (guarded_rule P.body (wires_seen P x.wires) x.go x.root s))
      ∙ (ap (λ b. one_rule_fires (guarded_rule P.body (wires_seen P x.wires) b x.root s)) r.go
      ∙ (ap (λ g. one_rule_fires (guarded_rule P.body (wires_seen P x.wires) (asks r.mode) g s)) r.same ∙ guarded_can_is (wires_seen P x.wires) r.place s))
  enabled_is (rail_node (of_channel c) i one) = ap (λ b. b || driven P script x.wires x.histories (of_channel c) i one) (rail_is (of_channel c) i one)
  enabled_is (rail_node (of_var v) i one) = ap (λ b. b || false) (rail_is (of_var v) i one)
  enabled_is (ack_node k) = ap (λ b. b || answers (channel_width P.channels k) x.wires k (completed x.histories k) (offer_at script k)) (ack_is k)
  enabled_is (bit_node v i one) = or_false (one_rule_fires (rule_in P x (bit_node v i one)))
  enabled_is (wrote_node v i) = or_false (one_rule_fires (rule_in P x (wrote_node v i)))
  enabled_is (joint_node v k) = or_false (one_rule_fires (rule_in P x (joint_node v k)))

  pub may : (n : Node P.body) → enabled P script x n ≡ true → can P script r.place x.wires x.histories n ≡ true
  may n e = sym (enabled_is n) ∙ e

  pub ack_may : (n : Node P.body) → enabled P script x n ≡ true → (k : ℕ) → n ≡ ack_node k → is_heard (kind_at P.channels k) ≡ false
      → answers (channel_width P.channels k) x.wires k (completed x.histories k) (offer_at script k) ≡ true
  ack_may n e k is unheard =
      sym (ap (λ b. (b && turns (x.wires.ack k) ((guarded_shown r.place).take k) (not ((guarded_shown r.place).take k))) || answers
      (channel_width P.channels k) x.wires k (completed x.histories k) (offer_at script k)) unheard)
      ∙ may (ack_node k) (ap (enabled P script x) (sym is) ∙ e)

  apart : (n : Node P.body) → is_apart (rule_in P x n) ≡ true
  apart go_node = refl
  apart (own_node s) =
      ap (λ b. is_apart (guarded_rule P.body (wires_seen P x.wires) b x.root s)) r.go
      ∙ (ap (λ g. is_apart (guarded_rule P.body (wires_seen P x.wires) (asks r.mode) g s)) r.same ∙ guarded_apart (wires_seen P x.wires) r.place s)
  apart (rail_node k i one) = here (is_merged P k)
    where
      here : (b : Bool) → is_apart (if b then merged (x.wires.rail k i one) (site_rails P.body x.root.inner k i one) else no_rule (x.wires.rail k i one)) ≡ true
      here true = merged_apart (x.wires.rail k i one) (site_rails P.body x.root.inner k i one)
      here false = refl
  apart (ack_node k) = here (is_heard (kind_at P.channels k))
    where
      here : (b : Bool) → is_apart (if b then merged (x.wires.ack k) (takers P.body x.root.inner k) else no_rule (x.wires.ack k)) ≡ true
      here true = merged_apart (x.wires.ack k) (takers P.body x.root.inner k)
      here false = refl
  apart (bit_node v i one) = by_bits v i
      (λ less. bit_apart (var_width P.vars v) (x.wires.bit v) (x.wires.rail (of_var v)) (x.wires.wrote v) (x.wires.joint v)
      (r.good.block v (some_of less)) i one less)
      (λ out. ap (λ b. not ((b && not (x.wires.bit v i (not one))) && x.wires.rail (of_var v) i (not one))) (low_rail v i one out))
  apart (wrote_node v i) = by_bits v i
      (λ less. wrote_apart (var_width P.vars v) (x.wires.bit v) (x.wires.rail (of_var v)) (x.wires.wrote v) (x.wires.joint v)
      (r.good.block v (some_of less)) i less)
      (λ out. ap (λ b. not (((b && x.wires.bit v i true) || (x.wires.rail (of_var v) i false && x.wires.bit v i false)) &&
      (not b && not (x.wires.rail (of_var v) i false)))) (low_rail v i true out)
      ∙ ap (λ b. not ((b && x.wires.bit v i false) && not b)) (low_rail v i false out))
  apart (joint_node v k) = joint_apart (var_width P.vars v) (x.wires.wrote v) (x.wires.joint v) k

-- what isn't a node of the circuit doesn't move
module _ (P : TypedProgram) (script : List OfferValue) (fitted : Fitted P script) {from : Configuration} {moves : ℕ} {x : Whole P.body}
    (r : Reached P script from moves x) where
  not_there : (i n : ℕ) → nat_lt i n ≡ false → i < n → ⊥
  not_there i n h below = let g : nat_lt i n ≡ true = grind (arith, nat_tests) in cc (g, h)

  no_rail : (k : Line) (i : ℕ) (one : Bool) → nat_lt i (line_width P k) ≡ false → enabled P script x (rail_node k i one) ≡ false
  no_rail k i one h = enabled_is P script r (rail_node k i one) ∙ neither (sent_turns P x.wires k i one ((guarded_shown r.place).offer k i one))
      (driven P script x.wires x.histories k i one) sent (drive k h)
    where
      neither : (a b : Bool) → a ≡ false → b ≡ false → (a || b) ≡ false
      neither a b e f = ap (λ z. z || b) e ∙ f

      here : (v o : Bool) → x.wires.rail k i one ≡ v → (guarded_shown r.place).offer k i one ≡ o
          → turns (x.wires.rail k i one) ((guarded_shown r.place).offer k i one) (not ((guarded_shown r.place).offer k i one)) ≡ false
      here true o hv ho = absurd (not_there i (line_width P k) h (r.good.wide k i one hv))
      here false true hv ho = absurd (not_there i (line_width P k) h (offered_below P script x.histories r.good k i one ho))
      here false false hv ho = ap (λ v. turns v ((guarded_shown r.place).offer k i one) (not ((guarded_shown r.place).offer k i one))) hv ∙ ho

      sent : sent_turns P x.wires k i one ((guarded_shown r.place).offer k i one) ≡ false
      sent = ap (λ b. is_merged P k && b) (here (x.wires.rail k i one) ((guarded_shown r.place).offer k i one) refl refl) ∙ never_and (is_merged P k)

      drive : (l : Line) → nat_lt i (line_width P l) ≡ false → driven P script x.wires x.histories l i one ≡ false
      drive (of_var v) z = refl
      drive (of_channel c) z = cases (driven P script x.wires x.histories (of_channel c) i one)
          (λ (d : driven P script x.wires x.histories (of_channel c) i one ≡ true).
          let o = gives_of (channel_width P.channels c) x.wires c (completed x.histories c) (offer_at script c) i one d in
          let e : drives (channel_width P.channels c) x.wires c (slice_get o.0 (completed x.histories c)) i one ≡ true = sym
          (ap (λ y. offers (channel_width P.channels c) x.wires c (completed x.histories c) y i one) o.1) ∙ d in
          absurd (not_there i (channel_width P.channels c) z (cases (x.wires.ack c)
          (λ (a : x.wires.ack c ≡ true).
          r.good.wide (of_channel c) i one (sym (ap (λ b. if b then x.wires.rail (of_channel c) i one else brings (channel_width P.channels c)
          (slice_get o.0 (completed x.histories c)) i one && (not (x.wires.rail (of_channel c) i true) && not (x.wires.rail (of_channel c) i false))) a)
          ∙ e))
          (λ (a : x.wires.ack c ≡ false). brings_below (channel_width P.channels c) (slice_get o.0 (completed x.histories c)) i one
          (drives_up (channel_width P.channels c) x.wires c (slice_get o.0 (completed x.histories c)) i one a e).0))))
          (λ (d : driven P script x.wires x.histories (of_channel c) i one ≡ false). d)

  no_bit : (v i : ℕ) (one : Bool) → nat_lt i (var_width P.vars v) ≡ false → one_rule_fires (bit_rule (x.wires.rail (of_var v)) (x.wires.bit v) i one) ≡ false
  no_bit v i one h =
      ap (λ b. if b then x.wires.rail (of_var v) i (not one) else x.wires.rail (of_var v) i one && not (x.wires.bit v i (not one)))
      (cases (x.wires.bit v i one) (λ (e : x.wires.bit v i one ≡ true). absurd (not_there i (var_width P.vars v) h (r.good.no_bit v i one e)))
      (λ (e : x.wires.bit v i one ≡ false). e))
      ∙ ap (λ b. b && not (x.wires.bit v i (not one))) (low_rail P script r v i one (not_there i (var_width P.vars v) h))

  no_wrote : (v i : ℕ) → nat_lt i (var_width P.vars v) ≡ false → one_rule_fires (wrote_rule (x.wires.rail (of_var v)) (x.wires.bit v) (x.wires.wrote v) i) ≡
      false
  no_wrote v i h =
      ap (λ b. if b then not (x.wires.rail (of_var v) i true) && not (x.wires.rail (of_var v) i false) else
      (x.wires.rail (of_var v) i true && x.wires.bit v i true) || (x.wires.rail (of_var v) i false && x.wires.bit v i false))
      (cases (x.wires.wrote v i) (λ (e : x.wires.wrote v i ≡ true). absurd (not_there i (var_width P.vars v) h (r.good.no_wrote v i e)))
      (λ (e : x.wires.wrote v i ≡ false). e))
      ∙ (ap (λ b. (b && x.wires.bit v i true) || (x.wires.rail (of_var v) i false && x.wires.bit v i false))
      (low_rail P script r v i true (not_there i (var_width P.vars v) h))
      ∙ ap (λ b. b && x.wires.bit v i false) (low_rail P script r v i false (not_there i (var_width P.vars v) h)))

  no_ack : (k : ℕ) → nat_lt k (length P.channels) ≡ false → enabled P script x (ack_node k) ≡ false
  no_ack k h =
      let out : length script ≤ k = let e = fitted.same in grind (arith, nat_tests) in
      enabled_is P script r (ack_node k) ∙ (ap (λ b. b || answers (channel_width P.channels k) x.wires k (completed x.histories k) (offer_at script k))
      (here (is_heard (kind_at P.channels k)) refl)
      ∙ ap (answers (channel_width P.channels k) x.wires k (completed x.histories k)) (get_or-eq_default script nothing out))
    where
      deaf : (guarded_shown r.place).listen k ≡ true → ⊥
      deaf z = not_there k (length P.channels) h (receives_within P P.body r.good.meets k (guarded_listens_receives r.place k z))

      low_ack : is_heard (kind_at P.channels k) ≡ true → x.wires.ack k ≡ false
      low_ack u = cases (x.wires.ack k) (λ (a : x.wires.ack k ≡ true). absurd (deaf (r.good.listen k u a))) (λ (a : x.wires.ack k ≡ false). a)

      no_take : (guarded_shown r.place).take k ≡ false
      no_take = cases ((guarded_shown r.place).take k) (λ (a : (guarded_shown r.place).take k ≡ true). absurd (deaf (guarded_takes_listens r.place k a)))
          (λ (a : (guarded_shown r.place).take k ≡ false). a)

      here : (b : Bool) → is_heard (kind_at P.channels k) ≡ b → (b && turns (x.wires.ack k) ((guarded_shown r.place).take k)
          (not ((guarded_shown r.place).take k))) ≡ false
      here false u = refl
      here true u = ap (λ a. turns a ((guarded_shown r.place).take k) (not ((guarded_shown r.place).take k))) (low_ack u) ∙ no_take

  pub absent : (n : Node P.body) → is_node P n ≡ false → enabled P script x n ≡ false
  absent go_node h = absurd (cc h)
  absent (own_node s) h = enabled_is P script r (own_node s) ∙ guarded_absent P (wires_seen P x.wires) (clean_of r.good) r.place r.good.meets r.good.fits s h
  absent (rail_node k i one) h = no_rail k i one h
  absent (ack_node k) h = no_ack k h
  absent (bit_node v i one) h = or_false (one_rule_fires (rule_in P x (bit_node v i one))) ∙ no_bit v i one h
  absent (wrote_node v i) h = or_false (one_rule_fires (rule_in P x (wrote_node v i))) ∙ no_wrote v i h
  absent (joint_node v k) h = or_false (one_rule_fires (rule_in P x (joint_node v k)))
      ∙ joint_absent (var_width P.vars v) (x.wires.wrote v) (x.wires.joint v) k (let g : joint_count (var_width P.vars v) ≤ k = grind (arith, nat_tests) in g)

  all_rest : ((n : Node P.body) → is_node P n ≡ true → enabled P script x n ≡ false) → (n : Node P.body) → can P script r.place x.wires x.histories n ≡ false
  all_rest none n = sym (enabled_is P script r n) ∙ cases (is_node P n) (λ (h : is_node P n ≡ true). none n h) (λ (h : is_node P n ≡ false). absent n h)

-- a state after one more move
module _ (P : TypedProgram) (script : List OfferValue) (fitted : Fitted P script) {from : Configuration} {moves : ℕ} {x : Whole P.body}
    (r : Reached P script from moves x) where
  pub present : (n : Node P.body) → enabled P script x n ≡ true → is_node P n ≡ true
  present n e = cases (is_node P n) (λ (h : is_node P n ≡ true). h) (λ (h : is_node P n ≡ false). absurd (not_both (absent P script fitted r n h) e))

  abbrev pub next_reached : (n : Node P.body) → enabled P script x n ≡ true → Reached P script from (suc moves) (cells_moved P x n)
  next_reached n e =
      let y = next_of P script fitted x.histories r.good n (may P script r n e) in
      record {
        mode = y.mode;
        place = y.to;
        root = y.way r.root;
        go = ap (λ b. go_after b n) r.go ∙ sym y.go;
        same = ap (λ g. root_after P.body g n) r.same ∙ sym y.same;
        good = y.good;
        brought = arriving P script fitted x.histories r.good n (may P script r n e) r.brought;
        followed = follows x.wires (guarded_writing (line_ack P x.wires) r.place)
            (guarded_writing (line_ack P (wires_after x.wires n)) y.to) fitted r.followed r.brought (root_left (line_ack P (wires_after x.wires n)) y.to) n
            (ack_may P script r n e) y.frees (circuit_due P y.to (wires_after x.wires n)) (due_fits P y.to (wires_after x.wires n)) (node_steps r.place n)
            (λ stays. circuit_falls P script r.place x.wires x.histories r.good n r.root (present n e) (may P script r n e) y stays) (y.term r.root);
      }

pub stable : (P : TypedProgram) (script : List OfferValue) → Fitted P script → {from : Configuration} {moves : ℕ} (x : Whole P.body)
    → Reached P script from moves x → (n m : Node P.body)
    → n ≢ m → enabled P script x n ≡ true → enabled P script x m ≡ true → enabled P script (cells_moved P x m) n ≡ true
stable P script fitted x r n m ne hn hm =
    let y = next_of P script fitted x.histories r.good m (may P script r m hm) in
    enabled_is P script (next_reached P script fitted r m hm) n ∙ y.keeps n ne (may P script r n hn)

pub safe : (P : TypedProgram) (script : List OfferValue) → Fitted P script → {from : Configuration} {moves : ℕ} (x : Whole P.body)
    → Reached P script from moves x → IsSafe P script x
safe P script fitted x r = record {
  stable = stable P script fitted x r;
  apart = apart P script r;
  rail_up = λ k i one h e. phase_up P script x.histories r.good k i one h (may P script r (rail_node (of_channel k) i one) e);
  rail_down = λ k i one h e. phase_down P script x.histories r.good k i one h (may P script r (rail_node (of_channel k) i one) e);
  ack_up = λ k h e. either (heard_turns P x.wires k ((guarded_shown r.place).take k))
      (answers (channel_width P.channels k) x.wires k (completed x.histories k) (offer_at script k)) (may P script r (ack_node k) e)
      (λ z. r.good.valid k (heard k z) h (sym (ap (λ b. turns b ((guarded_shown r.place).take k) (not ((guarded_shown r.place).take k))) h) ∙ turning k z))
      (λ z. let t = takes_of (channel_width P.channels k) x.wires k (completed x.histories k) (offer_at script k) z in
      (may_low (channel_width P.channels k) x.wires k _ h t.may).0);
  ack_down = λ k h e. either (heard_turns P x.wires k ((guarded_shown r.place).take k))
      (answers (channel_width P.channels k) x.wires k (completed x.histories k) (offer_at script k)) (may P script r (ack_node k) e)
      (λ z. r.good.neutral k (heard k z) h (not_true ((guarded_shown r.place).take k)
      (sym (ap (λ b. turns b ((guarded_shown r.place).take k) (not ((guarded_shown r.place).take k))) h) ∙ turning k z)))
      (λ z. let t = takes_of (channel_width P.channels k) x.wires k (completed x.histories k) (offer_at script k) z in may_high
      (channel_width P.channels k) x.wires k _ h t.may);
}
  where
    heard : (k : ℕ) → heard_turns P x.wires k ((guarded_shown r.place).take k) ≡ true → is_heard (kind_at P.channels k) ≡ true
    heard k z = fst_true (is_heard (kind_at P.channels k)) (turns (x.wires.ack k) ((guarded_shown r.place).take k) (not ((guarded_shown r.place).take k))) z

    turning : (k : ℕ) → heard_turns P x.wires k ((guarded_shown r.place).take k) ≡ true
        → turns (x.wires.ack k) ((guarded_shown r.place).take k) (not ((guarded_shown r.place).take k)) ≡ true
    turning k z = snd_true (is_heard (kind_at P.channels k)) (turns (x.wires.ack k) ((guarded_shown r.place).take k) (not ((guarded_shown r.place).take k))) z

-- the first values of variables
first_bit_valid : (n v i : ℕ) → i < n → valid (number_rail n v i true) (number_rail n v i false) ≡ true
first_bit_valid zero v i less = absurd (let g : ⊥ = omega (arith, less) in g)
first_bit_valid (suc n) v zero less = here (is_odd v)
  where
    here : (o : Bool) → valid (same_bit o true) (same_bit o false) ≡ true
    here true = refl
    here false = refl
first_bit_valid (suc n) v (suc i) less = first_bit_valid n (v / 2) i (omega (arith, less))

first_bit_below : (n v i : ℕ) (one : Bool) → number_rail n v i one ≡ true → i < n
first_bit_below zero v i one e = absurd (cc e)
first_bit_below (suc n) v zero one e = omega arith
first_bit_below (suc n) v (suc i) one e = let g : i < n = first_bit_below n (v / 2) i one e in omega (arith, g)

first_valid : (vars : List Var) (x i : ℕ) → i < var_width vars x → valid (first_bits vars x i true) (first_bits vars x i false) ≡ true
first_valid [] x i less = absurd (let g : ⊥ = omega (arith, less) in g)
first_valid (v ∷ vs) zero i less = first_bit_valid v.width v.first i less
first_valid (v ∷ vs) (suc x) i less = first_valid vs x i less

first_below : (vars : List Var) (x i : ℕ) (one : Bool) → first_bits vars x i one ≡ true → i < var_width vars x
first_below [] x i one e = absurd (cc e)
first_below (v ∷ vs) zero i one e = first_bit_below v.width v.first i one e
first_below (v ∷ vs) (suc x) i one e = first_below vs x i one e

none_high : (n : ℕ) → tree_answer n (λ (i : ℕ). false) (λ (k : ℕ). false) ≡ false
none_high n = all_low_value n (λ i. false) (λ k. false) (λ i. refl) (λ k. refl) (tree_top (range_with_len 0 n) n)

first_low : (P : TypedProgram) (k : Line) → line_ack P (first_cells P).wires k ≡ false
first_low P (of_channel c) = refl
first_low P (of_var x) = none_high (var_width P.vars x)

first_block : TreesSettle → (P : TypedProgram) (x : ℕ) → 1 ≤ var_width P.vars x
    → Block (var_width P.vars x) (first_bits P.vars x) (λ i one. false) (λ i. false) (λ k. false)
first_block law P x some =
    let n = var_width P.vars x in
    record {
      known = tree_over n law some;
      bits = λ i less. legal_at_first (now_at (first_bits P.vars x) (λ i one. false) (λ i. false) (tree_answer n (λ i. false) (λ k. false)) i)
          (first_valid P.vars x i less) refl refl (none_high n) refl;
      tree = settling_low n (tree_over n law some) (λ i. false) (λ k. false) (λ i. refl) (λ k. refl);
    }

pub first_reached : TreesSettle → (P : TypedProgram) (script : List OfferValue) → Fitted P script → Meets P P.body
    → Reached P script (start_of P script) 0 (first_cells P)
first_reached law P script fitted meets = record {
  mode = idle;
  place = g_rests;
  root = λ e. cc e;
  go = refl;
  same = refl;
  good = record {
    meets = meets;
    fits = tt;
    talk = λ k n h. absurd (cc (first_low P k, h));
    rising = λ k i one n h z. absurd (cc z);
    falling = λ k i one h z. absurd (cc z);
    wide = λ k i one z. absurd (cc z);
    sited = λ k i one u z. absurd (cc z);
    block = first_block law P;
    no_bit = first_below P.vars;
    no_wrote = λ x i z. absurd (cc z);
    single = λ c i p q. absurd (cc p);
    listen = λ c u h. absurd (cc h);
    valid = λ c u h t. absurd (cc t);
    neutral = λ c u h t. absurd (cc h);
    heard_sited = λ c h u. absurd (cc h);
  };
  brought = none_arrives P script (first_cells P).histories (first_cells P).wires (λ k i one. refl);
  followed = started P script fitted (circuit_due P {m = idle} g_rests (first_cells P).wires)
      (let z = due_fits P {m = idle} g_rests (first_cells P).wires in omega (arith, z));
}

reach : TreesSettle → (P : TypedProgram) (script : List OfferValue) → Fitted P script → Meets P P.body → (moves : ℕ) (x : Whole P.body)
    → Reaches P script moves x → Reached P script (start_of P script) moves x
reach law P script fitted meets _ _ at_first = first_reached law P script fitted meets
reach law P script fitted meets _ _ (by_move {k = k} {x = x} n run e) = next_reached P script fitted (reach law P script fitted meets k x run) n e

carried : (P : TypedProgram) (script : List OfferValue) → Fitted P script → {moves : ℕ} (x : Whole P.body) → Reached P script (start_of P script) moves x
    → IsCarried P script moves x
carried P script fitted x r = record {
  safe = safe P script fitted x r;
  to = r.followed.to;
  steps = r.followed.steps;
  within = r.followed.within;
  paid = (let z = r.followed.paid in omega (arith, z));
  leads = r.followed.leads;
  passed = r.followed.passed;
  rest = λ none.
      let z = at_end P fitted x.wires x.histories r.place r.root r.good (all_rest P script fitted r none) r.followed in
      record {
        still = z.still;
        ended = λ e. z.ended (sym (ap (λ (g : QElementCells (Cells P.body)). g.next) r.same) ∙ e);
        going = λ e. z.going (sym (ap (λ (g : QElementCells (Cells P.body)). g.next) r.same) ∙ e);
      };
}

-- each state that is reached stands somewhere
pub reached : TreesSettle → ExpressionsHold → (P : TypedProgram) → IsPlain P → (script : List OfferValue) → IsScript P.channels script → (moves : ℕ)
    (x : Whole P.body) → Reaches P script moves x → Reached P script (start_of P script) moves x
reached law hold P is script s moves x run =
    let there = meets law hold P (var_bits P.vars is.sized.each_var) P.body unshared is.sized.body_is is.plain in
    reach law P script (fits P script is.sized s) there moves x run
  where
    unshared : (a b : Occurrence) → Parallel P.body a b → ¬ Clash a.deed b.deed
    unshared a b h (inl c) = is.unshared.sends a b h c
    unshared a b h (inr (inl c)) = is.unshared.variables a b h c
    unshared a b h (inr (inr c)) = is.unshared.receives a b h c

pub circuits_carry : TreesSettle → ExpressionsHold → CircuitsCarry
circuits_carry law hold P is script s moves x run = carried P script (fits P script is.sized s) x (reached law hold P is script s moves x run)
