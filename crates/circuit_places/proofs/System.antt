-- The whole circuit: what holds of each state that is reached, and that each move keeps it and takes no other away.
use Rattle.std.proofs.Common.{◌≡◌, ◌≢◌, ℕ, ◌<◌, ◌≤◌, ◌==◌, ◌⊎◌, inl, arith, ◌^◌, Bool, true, false, List, [], ◌∷◌, ◌++◌, refl, sym, ap, ◌∙◌}
use Rattle.std.proofs.lemmas.List.{get_or-set_other}
use Rattle.std.specs.Prelude.{slice_index, map, not, ◌&&◌, ◌||◌, if◌then◌else◌, length, slice_get, Option, Some, None, is_some}
use Rattle.chp_base.specs.declared.span.Span.{Span}
use Rattle.env_script.specs.declared.script.Count.{Count}
use Rattle.env_script.specs.Scripts.{OfferValue, gives, takes, nothing, offer_at, is_over}
use Rattle.env_script.specs.Runs.{history_at, completed}
use Rattle.width_check.specs.Processes.{Formula, Process, sending, receiving, TypedProgram, Choices}
use Rattle.width_check.specs.Values.{value}
use Rattle.function_blocks.specs.Waves.{store_of}
use Rattle.width_check.specs.Typing.{kind_at, channel_width, var_width}
use Rattle.width_check.specs.declared.typed.Var.{Var}
use Rattle.function_blocks.specs.Rails.{number_on}
use Rattle.circuit_places.specs.Lines.{Line, of_channel, of_var, line_width, Seen, Rails}
use Rattle.chp_meaning.specs.Terms.{Term, finished, opened}
use Rattle.circuit_places.specs.Circuit.{low, GuardedSpot, turns, one_rule_fires, site_rails, takers}
use Rattle.circuit_places.specs.Whole.{first_bits, Wires, wires_seen, line_ack, is_heard, is_merged, bit_rule, wrote_rule, value_on, neutral_on, Node, go_node, own_node, rail_node, ack_node, bit_node, wrote_node, joint_node, wrote_turned, joint_turned, receives, answers, offers, cells_passed, passed_after, wires_after, go_after, root_after}
use Rattle.circuit_places.proofs.RailLemmas.{fst_true, snd_true, both_true}
use Rattle.circuit_places.proofs.Trees.{node_moves}
use Rattle.circuit_places.proofs.Blocks.{Block, now_at}
use Rattle.circuit_places.proofs.BitTable.{single_bit}
use Rattle.circuit_places.proofs.Places.{Mode, idle, running, answered, returning, asks, is_idle, GuardedAt, guarded_cells, guarded_shown, guarded_writing, GuardedFits, guarded_moves}
use Rattle.circuit_places.proofs.Meets.{Meets, uses_within}
use Rattle.circuit_places.proofs.Stepping.{guarded_steps}
use Rattle.circuit_places.proofs.Left.{guarded_left, Act, Follows, open_by, ToldBy, follows_wider}
use Rattle.circuit_places.proofs.Flow.{goes, goes_asks, or_map, Clean, GuardedAfter, cases}
use Rattle.circuit_places.proofs.Begin.{guarded_idle_moves}
use Rattle.circuit_places.proofs.Sites.{is_nil}
use Rattle.circuit_places.proofs.Exchange.{Exchange}
use Rattle.circuit_places.proofs.Fires.{Passes}
use Rattle.circuit_places.proofs.Writing.{guarded_writing_unread}
use Rattle.circuit_places.proofs.Talks.{guarded_reads_uses}

-- Where the whole is: the root's place fits what is seen, a high acknowledge has its site under way, a rail of a line that
-- is high over a low acknowledge is held by a site, one that is held over a high acknowledge is high, and a rail that is
-- high is one of the line's width, and has sites; each variable's block keeps what it does, and no more is high of it.
-- Of no bit of a channel both rails are high. A high acknowledge on which the program receives has its receive under way, and
-- has receives; what has stored has a value before its acknowledge, and what lets go none.
pub record Good (P : TypedProgram) (m : Mode) (g : GuardedAt P.body m) (w : Wires) : Type 0 where
  pub meets : Meets P P.body
  pub fits : GuardedFits g (wires_seen P w)
  pub talk : (k : Line) → is_merged P k ≡ true → line_ack P w k ≡ true → (guarded_shown g).talk k ≡ true
  pub rising : (k : Line) (i : ℕ) (one : Bool) → is_merged P k ≡ true → line_ack P w k ≡ false → w.rail k i one ≡ true → (guarded_shown g).offer k i one ≡ true
  pub falling : (k : Line) (i : ℕ) (one : Bool) → line_ack P w k ≡ true → (guarded_shown g).offer k i one ≡ true → w.rail k i one ≡ true
  pub wide : (k : Line) (i : ℕ) (one : Bool) → w.rail k i one ≡ true → i < line_width P k
  pub sited : (k : Line) (i : ℕ) (one : Bool) → is_merged P k ≡ true → w.rail k i one ≡ true → is_nil (site_rails P.body (low P.body) k i one) ≡ false
  pub block : (x : ℕ) → 1 ≤ var_width P.vars x → Block (var_width P.vars x) (w.bit x) (w.rail (of_var x)) (w.wrote x) (w.joint x)
  pub no_bit : (x i : ℕ) (one : Bool) → w.bit x i one ≡ true → i < var_width P.vars x
  pub no_wrote : (x i : ℕ) → w.wrote x i ≡ true → i < var_width P.vars x
  pub single : (c i : ℕ) → w.rail (of_channel c) i true ≡ true → w.rail (of_channel c) i false ≡ true → ⊥
  pub listen : (c : ℕ) → is_heard (kind_at P.channels c) ≡ true → w.ack c ≡ true → (guarded_shown g).listen c ≡ true
  pub valid : (c : ℕ) → is_heard (kind_at P.channels c) ≡ true → w.ack c ≡ false → (guarded_shown g).take c ≡ true
      → is_some (value_on (channel_width P.channels c) (w.rail (of_channel c))) ≡ true
  pub neutral : (c : ℕ) → is_heard (kind_at P.channels c) ≡ true → w.ack c ≡ true → (guarded_shown g).take c ≡ false
      → neutral_on (channel_width P.channels c) (w.rail (of_channel c)) ≡ true
  pub heard_sited : (c : ℕ) → w.ack c ≡ true → is_heard (kind_at P.channels c) ≡ true → is_nil (takers P.body (low P.body) c) ≡ false

-- so no bit of a variable has both rails high
pub clean_of : {P : TypedProgram} {m : Mode} {g : GuardedAt P.body m} {w : Wires} → Good P m g w → Clean P (wires_seen P w)
clean_of {P = P} {w = w} good = record {
  single = λ x i. here x i (w.bit x i true)
      (w.bit x i false) refl refl;
  wide = λ k. refl;
  rails = good.single;
  below = λ c i one h. good.wide (of_channel c) i one h;
}
  where
    here : (x i : ℕ) (t f : Bool) → w.bit x i true ≡ t → w.bit x i false ≡ f → not (w.bit x i true && w.bit x i false) ≡ true
    here x i false f ht hf = ap (λ b. not (b && w.bit x i false)) ht
    here x i true false ht hf = ap (λ b. not (b && w.bit x i false)) ht ∙ ap not hf
    here x i true true ht hf =
        let less = good.no_bit x i true ht in
        single_bit (now_at (w.bit x) (w.rail (of_var x)) (w.wrote x) (line_ack P w (of_var x)) i)
        ((good.block x (let g : 1 ≤ var_width P.vars x = omega (arith, less) in g)).bits i less)

-- the environment moves a rail of an `in` channel
abbrev pub driven : TypedProgram → List OfferValue → Wires → List (List ℕ) → Line → ℕ → Bool → Bool
driven P script w hs (of_channel c) i one = offers (channel_width P.channels c) w c (completed hs c) (offer_at script c) i one
driven P script w hs (of_var x) i one = false

-- the program moves the acknowledge of a channel on which it receives
abbrev pub heard_turns : TypedProgram → Wires → (chan : ℕ) → (take : Bool) → Bool
heard_turns P w c take = is_heard (kind_at P.channels c) && turns (w.ack c) take (not take)

-- and a rail of a line of which it has sites
abbrev pub sent_turns : TypedProgram → Wires → Line → ℕ → Bool → (offer : Bool) → Bool
sent_turns P w k i one offer = is_merged P k && turns (w.rail k i one) offer (not offer)

-- which moves are enabled there
abbrev pub can : (P : TypedProgram) → List OfferValue → {m : Mode} → GuardedAt P.body m → Wires → List (List ℕ) → Node P.body → Bool
can P script {m = m} g w hs go_node = is_idle m
can P script g w hs (own_node s) = guarded_moves (wires_seen P w) g s
can P script g w hs (rail_node k i one) = sent_turns P w k i one ((guarded_shown g).offer k i one) || driven P script w hs k i one
can P script g w hs (ack_node k) = heard_turns P w k ((guarded_shown g).take k) || answers (channel_width P.channels k) w k (completed hs k) (offer_at script k)
can P script g w hs (bit_node x i one) = one_rule_fires (bit_rule (w.rail (of_var x)) (w.bit x) i one)
can P script g w hs (wrote_node x i) = one_rule_fires (wrote_rule (w.rail (of_var x)) (w.bit x) (w.wrote x) i)
can P script g w hs (joint_node x k) = node_moves (var_width P.vars x) (w.wrote x) (w.joint x) k

-- what is left of the program
abbrev pub root_left : {p : Process} {m : Mode} → (Line → Bool) → GuardedAt p m → Term
root_left {p = p} {m = idle} ack g = opened p
root_left ack g = guarded_left ack g

abbrev pub Passing : TypedProgram → Seen → (ℕ → Bool) → Line → Bool → Term → Term → Type 0
Passing P env busy k true x y = y ≡ x
Passing P env busy k false x y = Passes P env busy k x y

-- What a move does to the term: an acknowledge that rises is a step of its line, or under a receive none yet; any other
-- move is a silent step or none.
pub data Stored (P : TypedProgram) (busy after : ℕ → Bool) (x : ℕ) (w now : Wires) (t y : Term) : Type 0 where
  no_store : line_ack P now (of_var x) ≡ line_ack P w (of_var x) → y ≡ t → Stored P busy after x w now t y
  cleared : line_ack P w (of_var x) ≡ true → line_ack P now (of_var x) ≡ false → y ≡ t → Stored P busy after x w now t y
  stores : line_ack P w (of_var x) ≡ false → line_ack P now (of_var x) ≡ true
      → value_on (var_width P.vars x) (w.bit x) ≡ value_on (var_width P.vars x) (w.rail (of_var x)) → Passes P (wires_seen P w) busy (of_var x) t y
      → Stored P busy after x w now t y
  -- under a receive, whose variable is written until the channel's acknowledge rises
  takes_in : line_ack P w (of_var x) ≡ false → line_ack P now (of_var x) ≡ true → after x ≡ true → y ≡ t → Stored P busy after x w now t y

-- the acknowledges of other variables stay
abbrev pub Others : TypedProgram → ℕ → Wires → Wires → Type 0
Others P x w now = (y : ℕ) → (y == x) ≡ false → line_ack P now (of_var y) ≡ line_ack P w (of_var y)

-- The acknowledge of a channel rises on which the program receives: the bits of a variable have what is on its rails, and
-- no other variable ceases to be written.
pub record Lands (P : TypedProgram) (busy after : ℕ → Bool) (c var : ℕ) (w : Wires) : Type 0 where
  pub within : c < length P.channels
  pub into : var < length P.vars
  pub widths : var_width P.vars var ≡ channel_width P.channels c
  pub told : value_on (channel_width P.channels c) (w.bit var) ≡ value_on (channel_width P.channels c) (w.rail (of_channel c))
  pub low : w.ack c ≡ false
  pub some : is_some (value_on (channel_width P.channels c) (w.rail (of_channel c))) ≡ true
  pub frees : (z : ℕ) → (z ≡ var → ⊥) → after z ≡ false → busy z ≡ false

-- the environment's value arrives in it
pub record Arrives (P : TypedProgram) (busy after : ℕ → Bool) (c : ℕ) (w : Wires) (t y : Term) : Type 0 where
  pub at : Span
  pub var : ℕ
  pub to : Span
  pub act : Act t (receiving c at var to) finished y
  pub lands : Lands P busy after c var w

-- or one of the program itself, whose two ends go on at once
pub record Exchanges (P : TypedProgram) (busy after : ℕ → Bool) (c : ℕ) (w : Wires) (t y : Term) : Type 0 where
  pub from : Span
  pub expression : Formula
  pub at : Span
  pub var : ℕ
  pub to : Span
  pub act : Exchange t (sending c from expression) (receiving c at var to) y
  pub read : (store : ℕ → ℕ) → ((v : ℕ) → v < length P.vars → busy v ≡ false → store_of P.vars w.bit v ≡ store v)
      → value_on (channel_width P.channels c) (w.rail (of_channel c)) ≡ Some (value store expression)
  pub lands : Lands P busy after c var w

-- the environment acknowledges, or the program does
pub data Acks (P : TypedProgram) (busy after : ℕ → Bool) (k : ℕ) (w : Wires) (t y : Term) : Type 0 where
  taken_out : is_heard (kind_at P.channels k) ≡ false → Passing P (wires_seen P w) busy (of_channel k) (w.ack k) t y →
      ((z : ℕ) → after z ≡ false → busy z ≡ false)
      → Acks P busy after k w t y
  taken_in : is_heard (kind_at P.channels k) ≡ true → is_merged P (of_channel k) ≡ false → Arrives P busy after k w t y → Acks P busy after k w t y
  taken_over : is_heard (kind_at P.channels k) ≡ true → is_merged P (of_channel k) ≡ true → Exchanges P busy after k w t y → Acks P busy after k w t y
  released : is_heard (kind_at P.channels k) ≡ true → w.ack k ≡ true → y ≡ t → ((z : ℕ) → after z ≡ false → busy z ≡ false) → Acks P busy after k w t y

-- which branches are open where the store has the numbers of what isn't being written
abbrev pub Decided : (P : TypedProgram) → (bits : ℕ → Rails) → (busy : ℕ → Bool) → Choices → List Process → Type 0
Decided P bits busy choices ps = (store : ℕ → ℕ) → ((x : ℕ) → x < length P.vars → busy x ≡ false → number_on (var_width P.vars x) (bits x) ≡ store x)
    → open_by store choices ≡ ps

abbrev pub Moves : (P : TypedProgram) → Wires → (busy after : ℕ → Bool) → (step : Bool) → Term → Term → Node P.body → Type 0
Moves P w busy after step t y (ack_node k) = Acks P busy after k w t y
Moves P w busy after step t y (wrote_node x i) = Others P x w (wrote_turned w x i) × Stored P busy after x w (wrote_turned w x i) t y
Moves P w busy after step t y (joint_node x k) = Others P x w (joint_turned w x k) × Stored P busy after x w (joint_turned w x k) t y
Moves P w busy after step t y _ = Follows (Decided P w.bit busy) step t y

-- whether an own move is a silent step
abbrev pub node_steps : {p : Process} {m : Mode} → GuardedAt p m → Node p → Bool
node_steps g (own_node s) = guarded_steps g s
node_steps g _ = false

-- a variable's acknowledge rises
pub record Rises (P : TypedProgram) (w now : Wires) (x : ℕ) : Type 0 where
  pub low : line_ack P w (of_var x) ≡ false
  pub high : line_ack P now (of_var x) ≡ true

-- the acknowledge of a channel rises on which the program receives
abbrev pub Arrival : {p : Process} → (P : TypedProgram) → Wires → Node p → Type 0
Arrival P w (ack_node k) = (is_heard (kind_at P.channels k) ≡ true) × (w.ack k ≡ false)
Arrival P w _ = ⊥

-- What isn't being written afterwards has the value that it had, and wasn't before, but where its acknowledge rises, or a
-- value arrives.
abbrev pub Freed : (P : TypedProgram) → Wires → Wires → (before after : Bool) → ℕ → Type 0 → Type 0
Freed P w now before after x arrival = after ≡ false → (now.bit x ≡ w.bit x) × ((before ≡ false) ⊎ (Rises P w now x ⊎ arrival))

pub record Next (P : TypedProgram) (script : List OfferValue) (m : Mode) (g : GuardedAt P.body m) (w : Wires) (hs : List (List ℕ))
    (n : Node P.body) : Type 0 where
  pub mode : Mode
  pub to : GuardedAt P.body mode
  pub same : guarded_cells to ≡ root_after P.body (guarded_cells g) n
  pub go : asks mode ≡ go_after (asks m) n
  pub way : m ≢ returning → mode ≢ returning
  pub good : Good P mode to (wires_after w n)
  pub term : m ≢ returning → Moves P w (guarded_writing (line_ack P w) g) (guarded_writing (line_ack P (wires_after w n)) to) (node_steps g n)
      (root_left (line_ack P w) g)
      (root_left (line_ack P (wires_after w n)) to) n
  pub frees : (x : ℕ) → Freed P w (wires_after w n) (guarded_writing (line_ack P w) g x) (guarded_writing (line_ack P (wires_after w n)) to x) x (Arrival P w n)
  pub keeps : (k : Node P.body) → k ≢ n → can P script g w hs k ≡ true → can P script to (wires_after w n) (passed_after P.channels w hs n) k ≡ true

-- an acknowledge that may move is one that the environment has
pub record Takes (width : ℕ) (env : Wires) (k done : ℕ) (offer : OfferValue) : Type 0 where
  pub count : Count
  pub is : offer ≡ takes count
  pub may : receives width env k (is_over count done) ≡ true

pub takes_of : (width : ℕ) (env : Wires) (k done : ℕ) (offer : OfferValue) → answers width env k done offer ≡ true → Takes width env k done offer
takes_of width env k done (gives values) e = absurd (cc e)
takes_of width env k done (takes count) e = record { count = count; is = refl; may = e }
takes_of width env k done nothing e = absurd (cc e)

pub may_low : (n : ℕ) (env : Wires) (k : ℕ) (more : Bool) → env.ack k ≡ false → receives n env k more ≡ true
    → (is_some (value_on n (env.rail (of_channel k))) ≡ true) × (more ≡ true)
may_low n env k more low e =
    let both : (is_some (value_on n (env.rail (of_channel k))) && more) ≡ true = sym
    (ap (λ b. if b then neutral_on n (env.rail (of_channel k)) else is_some (value_on n (env.rail (of_channel k))) && more) low) ∙ e in
    (fst_true (is_some (value_on n (env.rail (of_channel k)))) more both, snd_true (is_some (value_on n (env.rail (of_channel k)))) more both)

pub may_high : (n : ℕ) (env : Wires) (k : ℕ) (more : Bool) → env.ack k ≡ true → receives n env k more ≡ true → neutral_on n (env.rail (of_channel k)) ≡ true
may_high n env k more high e = sym (ap (λ b. if b then neutral_on n (env.rail (of_channel k)) else is_some (value_on n (env.rail (of_channel k))) && more) high)
    ∙ e

-- The script fits the channels: an offer for each that the program and the environment share, and none for the others.
pub record Fitted (P : TypedProgram) (script : List OfferValue) : Type 0 where
  pub within : (k : ℕ) → offer_at script k ≢ nothing → k < length P.channels
  pub wide : (k : ℕ) → k < length P.channels → 1 ≤ channel_width P.channels k
  pub sends : (k : ℕ) → k < length P.channels → is_merged P (of_channel k) ≡ true → is_heard (kind_at P.channels k) ≡ false
      → (count : Count) × (offer_at script k ≡ takes count)
  pub hears : (k : ℕ) → k < length P.channels → is_merged P (of_channel k) ≡ false → is_heard (kind_at P.channels k) ≡ true
      → (values : List ℕ) × (offer_at script k ≡ gives values)
  pub inside : (k : ℕ) → k < length P.channels → is_merged P (of_channel k) ≡ true → is_heard (kind_at P.channels k) ≡ true → offer_at script k ≡ nothing
  pub out : (k : ℕ) (count : Count) → offer_at script k ≡ takes count → (is_merged P (of_channel k) ≡ true) × (is_heard (kind_at P.channels k) ≡ false)
  pub brought : (k : ℕ) (values : List ℕ) → offer_at script k ≡ gives values → (is_merged P (of_channel k) ≡ false) × (is_heard (kind_at P.channels k) ≡ true)
  pub bounded : (k : ℕ) (values : List ℕ) → offer_at script k ≡ gives values → (n v : ℕ) → slice_get values n ≡ Some v → v < 2 ^ channel_width P.channels k
  pub same : length script ≡ length P.channels
  pub firsts : (x : ℕ) → x < length P.vars → number_on (var_width P.vars x) (first_bits P.vars x) ≡ slice_index (map (λ (v : Var). v.first) P.vars) x

-- what has passed on another channel stays
pub passed_far : (hs : List (List ℕ)) (k : ℕ) (value : Option ℕ) (c : ℕ) → (c ≡ k → ⊥) → completed (cells_passed hs k value) c ≡ completed hs c
passed_far hs k None c ne = refl
passed_far hs k (Some v) c ne = ap length (get_or-set_other hs k c (history_at hs k ++ v ∷ []) [] ne)

module _ (P : TypedProgram) (script : List OfferValue) {m : Mode} {g : GuardedAt P.body m} {w : Wires} (hs : List (List ℕ)) (good : Good P m g w) where
  pub up_low : (k : Line) (i : ℕ) (one : Bool) → w.rail k i one ≡ false → (guarded_shown g).offer k i one ≡ true → line_ack P w k ≡ false
  up_low k i one r o = cases (line_ack P w k) (λ (h : line_ack P w k ≡ true). absurd (cc (good.falling k i one h o, r))) (λ (h : line_ack P w k ≡ false). h)

  pub down_high : (k : Line) (i : ℕ) (one : Bool) → is_merged P k ≡ true → w.rail k i one ≡ true → (guarded_shown g).offer k i one ≡ false
      → line_ack P w k ≡ true
  down_high k i one n r o = cases (line_ack P w k) (λ (h : line_ack P w k ≡ true). h)
      (λ (h : line_ack P w k ≡ false). absurd (cc (good.rising k i one n h r, o)))

  -- a move of the root or the body
  module _ (s : GuardedSpot P.body) (e : guarded_moves (wires_seen P w) g s ≡ true) (r : GuardedAfter P.body m (wires_seen P w) g s) where
    own_keeps : (k : Node P.body) → k ≢ own_node s → can P script g w hs k ≡ true → can P script r.to w hs k ≡ true
    own_keeps go_node ne z = absurd (here m g e z)
      where
        here : (m : Mode) (g : GuardedAt P.body m) → guarded_moves (wires_seen P w) g s ≡ true → is_idle m ≡ true → ⊥
        here idle g e z = cc (guarded_idle_moves (wires_seen P w) g s, e)
        here running g e z = cc z
        here answered g e z = cc z
        here returning g e z = cc z
    own_keeps (own_node q) ne z = r.keeps q (λ (i : q ≡ s). ne (ap (λ y. own_node y) i)) z
    own_keeps (rail_node k i one) ne z =
        or_map (sent_turns P w k i one ((guarded_shown g).offer k i one)) (driven P script w hs k i one)
        (sent_turns P w k i one ((guarded_shown r.to).offer k i one)) (driven P script w hs k i one)
        (λ z. both_true (is_merged P k) (turns (w.rail k i one) ((guarded_shown r.to).offer k i one) (not ((guarded_shown r.to).offer k i one)))
        (fst_true (is_merged P k) _ z) (here (fst_true (is_merged P k) _ z) (w.rail k i one) ((guarded_shown g).offer k i one)
        ((guarded_shown r.to).offer k i one) refl refl refl (snd_true (is_merged P k) _ z)))
        (λ z. z) z
      where
        here : is_merged P k ≡ true → (v o n : Bool) → w.rail k i one ≡ v → (guarded_shown g).offer k i one ≡ o → (guarded_shown r.to).offer k i one ≡ n
            → turns v o (not o) ≡ true → turns v n (not n) ≡ true
        here u true true n hv ho hn z = absurd (cc z)
        here u true false true hv ho hn y = absurd (cc (r.flow.falls k i one (down_high k i one u hv ho) hn, ho))
        here u true false false hv ho hn z = refl
        here u false true n hv ho hn z = cc (r.flow.rises k i one (up_low k i one hv ho) ho, hn)
        here u false false n hv ho hn z = absurd (cc z)
    own_keeps (ack_node k) ne z =
        or_map (heard_turns P w k ((guarded_shown g).take k)) (answers (channel_width P.channels k) w k (completed hs k) (offer_at script k))
        (heard_turns P w k ((guarded_shown r.to).take k)) (answers (channel_width P.channels k) w k (completed hs k) (offer_at script k))
        (λ z. both_true (is_heard (kind_at P.channels k)) (turns (w.ack k) ((guarded_shown r.to).take k) (not ((guarded_shown r.to).take k)))
        (fst_true (is_heard (kind_at P.channels k)) _ z) (here (w.ack k) ((guarded_shown g).take k) ((guarded_shown r.to).take k) refl refl refl
        (snd_true (is_heard (kind_at P.channels k)) _ z)))
        (λ z. z) z
      where
        here : (v o n : Bool) → w.ack k ≡ v → (guarded_shown g).take k ≡ o → (guarded_shown r.to).take k ≡ n → turns v o (not o) ≡ true
            → turns v n (not n) ≡ true
        here true true n hv ho hn z = absurd (cc z)
        here true false true hv ho hn y = absurd (cc (r.flow.drops k hv hn, ho))
        here true false false hv ho hn z = refl
        here false true n hv ho hn z = sym hn ∙ r.flow.holds k hv ho
        here false false n hv ho hn z = absurd (cc z)
    own_keeps (bit_node x i one) ne z = z
    own_keeps (wrote_node x i) ne z = z
    own_keeps (joint_node x k) ne z = z

    stays : (m n : Mode) → goes m n ≡ true → m ≢ returning → n ≢ returning
    stays running running h ne = λ e. cc e
    stays running answered h ne = λ e. cc e
    stays running idle h ne = absurd (cc h)
    stays running returning h ne = absurd (cc h)
    stays returning n h ne = absurd (ne refl)
    stays idle n h ne = absurd (cc h)
    stays answered n h ne = absurd (cc h)

    told : (choices : Choices) (ps : List Process) → ToldBy (wires_seen P w) (guarded_shown g).read choices ps
        → Decided P w.bit (guarded_writing (line_ack P w) g) choices ps
    told choices ps t store agree = t store (λ x read. agree x (uses_within P P.body good.meets x (guarded_reads_uses g x read)) (unwritten x read))
      where
        unwritten : (x : ℕ) → (guarded_shown g).read x ≡ true → guarded_writing (line_ack P w) g x ≡ false
        unwritten x read = cases (guarded_writing (line_ack P w) g x)
            (λ (e : guarded_writing (line_ack P w) g x ≡ true). absurd (cc (guarded_writing_unread P (line_ack P w) g good.meets x e, read)))
            (λ (e : guarded_writing (line_ack P w) g x ≡ false). e)

    own_term : m ≢ returning → Follows (Decided P w.bit (guarded_writing (line_ack P w) g)) (guarded_steps g s) (root_left (line_ack P w) g)
        (root_left (line_ack P w) r.to)
    own_term ne = here m r.mode g r.to r.way ne
        (follows_wider (ToldBy (wires_seen P w) (guarded_shown g).read) (Decided P w.bit (guarded_writing (line_ack P w) g))
        told (guarded_steps g s) (guarded_left (line_ack P w) g) (guarded_left (line_ack P w) r.to) r.term)
      where
        here : (m n : Mode) (a : GuardedAt P.body m) (b : GuardedAt P.body n) → goes m n ≡ true → m ≢ returning
            → Follows (Decided P w.bit (guarded_writing (line_ack P w) g)) (guarded_steps g s) (guarded_left (line_ack P w) a) (guarded_left (line_ack P w) b)
            → Follows (Decided P w.bit (guarded_writing (line_ack P w) g)) (guarded_steps g s) (root_left (line_ack P w) a) (root_left (line_ack P w) b)
        here running running a b h ne f = f
        here running answered a b h ne f = f
        here running idle a b h ne f = absurd (cc h)
        here running returning a b h ne f = absurd (cc h)
        here returning n a b h ne f = absurd (ne refl)
        here idle n a b h ne f = absurd (cc h)
        here answered n a b h ne f = absurd (cc h)

    pub own_next : Next P script m g w hs (own_node s)
    own_next = record {
      mode = r.mode;
      to = r.to;
      same = r.same;
      go = goes_asks m r.mode r.way;
      way = stays m r.mode r.way;
      good = record {
        meets = good.meets;
        fits = r.fits;
        talk = λ k n h. r.flow.talk k h (good.talk k n h);
        rising = λ k i one n h z. r.flow.rises k i one h (good.rising k i one n h z);
        falling = λ k i one h z. good.falling k i one h (r.flow.falls k i one h z);
        wide = good.wide;
        sited = good.sited;
        block = good.block;
        no_bit = good.no_bit;
        no_wrote = good.no_wrote;
        single = good.single;
        listen = λ c u h. r.flow.listen c h (good.listen c u h);
        valid = λ c u h z. cases ((guarded_shown g).take c) (λ (o : (guarded_shown g).take c ≡ true). good.valid c u h o)
            (λ (o : (guarded_shown g).take c ≡ false). r.flow.taken c o z);
        neutral = λ c u h z. cases ((guarded_shown g).take c) (λ (o : (guarded_shown g).take c ≡ true). r.flow.left c o z)
            (λ (o : (guarded_shown g).take c ≡ false). good.neutral c u h o);
        heard_sited = good.heard_sited;
      };
      term = own_term;
      frees = λ x e. (refl, inl (r.frees x e));
      keeps = own_keeps;
    }
