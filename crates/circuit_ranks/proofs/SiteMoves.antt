-- What an own move does to the rails of a line's sites, and to the nodes that say that a receive has stored: where a rail rises or falls, so many
-- moves follow as are to come from there on, and so where such a node falls.
--
-- P: the program; K: how many moves follow the falls of lines; k: a line; v: a variable; c: a channel; i, one: a rail; p, q, more: statements;
-- x: values of its nodes; s: a spot; own: that a site is the line's; b: a rail's value before; e, f: what it is before, and after.
use Rattle.std.proofs.Common.{◌≡◌, ℕ, zero, suc, ◌+◌, ◌≤◌, ◌==◌, Bool, true, false, List, [], ◌∷◌, ◌++◌, refl, sym, ap, ◌∙◌, subst, arith}
use Rattle.std.specs.Prelude.{not, ◌&&◌, ◌||◌, if◌then◌else◌}
use Rattle.width_check.specs.Processes.{Formula, Process, skipping, assigning, sending, receiving, in_turn, side_by_side, choosing, repeating, Processes, no_members, and_member, Choices, no_choices, and_choice, TypedProgram}
use Rattle.width_check.specs.Typing.{kind_at, channel_width}
use Rattle.function_blocks.specs.Rails.{RailLevels, side_of, cross, turned_side, Pairs, pair_in, turned_pairs, same_bit}
use Rattle.function_blocks.specs.Parts.{Input, gate_count, outs_of}
use Rattle.function_blocks.specs.Waves.{input_rails, out_rail}
use Rattle.circuit_places.specs.Lines.{Line, of_channel, of_var, same_line, Rails}
use Rattle.circuit_places.specs.Circuit.{Site, Port, QElementCells, Cells, TurnCells, BranchCells, ChoiceCells, SiteSpot, done, gate, PortSpot, heard, stored, taking, GuardedSpot, Spot, of_assign, of_send, of_receive, turned_site, turned_port, rails_turned, turned_guarded, flipped, rails_of_site, rails_of_port, site_rails, choice_rails, branch_rails, turn_rails, takers_of_port, takers, choice_takers, branch_takers, turn_takers}
use Rattle.circuit_places.proofs.RailLemmas.{fst_true}
use Rattle.circuit_places.proofs.LineNames.{same_number, same_line_is}
use Rattle.circuit_places.proofs.Flow.{or_map, or_left, not_both}
use Rattle.circuit_places.proofs.Talks.{or_false_right}
use Rattle.circuit_places.proofs.Sites.{any, any_append}
use Rattle.circuit_places.proofs.Meets.{Meets}
use Rattle.circuit_places.proofs.StillSteps.{guarded_rises, guarded_value}
use Rattle.round_time.specs.Longest.{tree_height, var_height}
use Rattle.circuit_time.proofs.Trails.{Clearing, rail_left, rail_ahead, back, site_trail, port_trail, guarded_trail, trail}
use Rattle.circuit_ranks.proofs.SiteReads.{Reading, Spread, never, is_site, guarded_turns}

-- ---- rails that turn over

same_value : (a b : Bool) → not a ≡ not b → a ≡ b
same_value true true e = refl
same_value false false e = refl
same_value true false e = absurd (cc e)
same_value false true e = absurd (cc e)

or_none : (a b : Bool) → (a || false) ≡ b → a ≡ b
or_none a b e = sym (or_false_right a false refl) ∙ e

-- the rail of a gate that turns over is that of the move
side_moves : (b : Bool) (x : RailLevels) (side one : Bool) → side_of x one ≡ b → side_of (turned_side x side) one ≡ not b → side_of x side ≡ b
side_moves b x true true e f = e
side_moves b x false false e f = e
side_moves b x true false e f = never b (side_of x false) e f
side_moves b x false true e f = never b (side_of x true) e f

pair_moves : (b : Bool) (n : ℕ) (u : Pairs n) (j : ℕ) (side : Bool) (i : ℕ) (one : Bool) → side_of (pair_in n u i) one ≡ b
    → side_of (pair_in n (turned_pairs n u j side) i) one ≡ not b → side_of (pair_in n u j) side ≡ b
pair_moves b zero u j side i one e f = never b (side_of (pair_in zero u i) one) e f
pair_moves b (suc n) u zero side zero one e f = side_moves b u.0 side one e f
pair_moves b (suc n) u zero side (suc i) one e f = never b (side_of (pair_in n u.1 i) one) e f
pair_moves b (suc n) u (suc j) side zero one e f = never b (side_of u.0 one) e f
pair_moves b (suc n) u (suc j) side (suc i) one e f = pair_moves b n u.1 j side i one e f

-- rails exchanged are rails
crossed_side : (crossed : Bool) (x : RailLevels) (one : Bool) → side_of (cross crossed x) one ≡ side_of x (same_bit (not crossed) one)
crossed_side true x true = refl
crossed_side true x false = refl
crossed_side false x one = refl

input_moves : (b : Bool) (n : ℕ) (u : Pairs n) (j : ℕ) (side : Bool) (us : List Input) (i : ℕ) (one : Bool) → input_rails us (pair_in n u) i one ≡ b
    → input_rails us (pair_in n (turned_pairs n u j side)) i one ≡ not b → side_of (pair_in n u j) side ≡ b
input_moves b n u j side [] i one e f = never b false e f
input_moves b n u j side (k ∷ ks) zero one e f = pair_moves b n u j side k.at (same_bit (not k.crossed) one)
    (sym (crossed_side k.crossed (pair_in n u k.at) one) ∙ e) (sym (crossed_side k.crossed (pair_in n (turned_pairs n u j side) k.at) one) ∙ f)
input_moves b n u j side (k ∷ ks) (suc i) one e f = input_moves b n u j side ks i one e f

-- so of a rail that a receive takes over
taken_moves : (b : Bool) (q : Rails) (j : ℕ) (side : Bool) (i : ℕ) (one : Bool) → q i one ≡ b → rails_turned q j side i one ≡ not b → q j side ≡ b
taken_moves b q j side i one e f = by ((i == j) && same_bit one side) f
  where
    by : (c : Bool) → (if c then not (q j side) else q i one) ≡ not b → q j side ≡ b
    by true f = same_value (q j side) b f
    by false f = never b (q i one) e f

-- ---- sites and receives

abbrev left_ahead : (b : Bool) → (left ahead : ℕ) → ℕ
left_ahead b left ahead = if b then left else ahead

site_moves : (own : Bool) (d : Formula) (b : Bool) (up down left ahead : ℕ) (x : Site (gate_count d)) (s : SiteSpot d) (i : ℕ) (one : Bool)
    → any (rails_of_site own d x i one) ≡ b → any (rails_of_site own d (turned_site d x s) i one) ≡ not b
    → (own ≡ true) × (left_ahead b left ahead ≤ site_trail d up down left ahead x s)
site_moves false d b up down left ahead x s i one e f = never b false e f
site_moves true d b up down left ahead x done i one e f = never b (any (rails_of_site true d x i one)) e f
site_moves true d b up down left ahead x (gate j side) i one e f =
    let z = input_moves b (gate_count d) x.gates j side (outs_of d 0) i one (or_none (out_rail d x.gates i one) b e)
    (or_none (out_rail d (turned_pairs (gate_count d) x.gates j side) i one) (not b) f) in
    let g : (if side_of (pair_in (gate_count d) x.gates j) side then left else ahead) ≡ left_ahead b left ahead =
    ap (λ (c : Bool). if c then left else ahead) z in
    (refl, omega (arith, g))

port_moves : (own b : Bool) (up down h f v : ℕ) (x : Port) (s : PortSpot) (i : ℕ) (one : Bool) → any (rails_of_port own x i one) ≡ b
    → any (rails_of_port own (turned_port x s) i one) ≡ not b → (own ≡ true) × (left_ahead b (2 + h + v) (5 + h) ≤ port_trail up down h f v x s)
port_moves false b up down h f v x s i one e g = never b false e g
port_moves true b up down h f v x heard i one e g = never b (any (rails_of_port true x i one)) e g
port_moves true b up down h f v x stored i one e g = never b (any (rails_of_port true x i one)) e g
port_moves true b up down h f v x (taking j side) i one e g =
    let z = taken_moves b x.taken j side i one (or_none (x.taken i one) b e) (or_none (rails_turned x.taken j side i one) (not b) g) in
    let w : (if x.taken j side then 2 + h + v else 5 + h) ≡ left_ahead b (2 + h + v) (5 + h) = ap (λ (c : Bool). if c then 2 + h + v else 5 + h) z in
    (refl, omega (arith, w))

less_ahead : (b : Bool) (left low high : ℕ) → low ≤ high → left_ahead b left low ≤ left_ahead b left high
less_ahead true left low high less = omega arith
less_ahead false left low high less = less

-- the node that says that a receive has stored falls
stored_falls : (own : Bool) (up down h f v : ℕ) (x : Port) (s : PortSpot) → any (takers_of_port own x) ≡ true
    → any (takers_of_port own (turned_port x s)) ≡ false
    → (own ≡ true) × (1 + f ≤ port_trail up down h f v x s)
stored_falls false up down h f v x s e g = absurd (cc e)
stored_falls true up down h f v x heard e g = absurd (not_both g e)
stored_falls true up down h f v x (taking j side) e g = absurd (not_both g e)
stored_falls true up down h f v x stored e g =
    let z : (if x.kept then 1 + f else 0) ≡ 1 + f = ap (λ (c : Bool). if c then 1 + f else 0) (or_none x.kept true e) in
    (refl, omega (arith, z))

-- ---- the rails of a line's sites

abbrev pub rails_read : Line → ℕ → Bool → Reading
rails_read k i one p r x = any (site_rails p x k i one)

pub rails_spread : (k : Line) (i : ℕ) (one : Bool) → Spread (rails_read k i one)
rails_spread k i one = record {
  turn = λ ms r x. any (turn_rails ms x k i one);
  branch = λ ms x. any (branch_rails ms x k i one);
  choice = λ cs b x. any (choice_rails cs x k i one);
  skips = λ r x y. refl;
  turns = λ ms r x. refl;
  sides = λ ms r x. refl;
  loops = λ p r x. refl;
  selects = λ cs r x. refl;
  repeats = λ cs r x. refl;
  last_turn = λ p r x. refl;
  more_turns = λ p q more r x. any_append (site_rails p x.member.inner k i one) (turn_rails (and_member q more) x.later k i one);
  no_branch = λ x. refl;
  more_branches = λ p more x. any_append (site_rails p x.0.inner k i one) (branch_rails more x.1 k i one);
  no_choice = λ b x. refl;
  more_choices = λ g p more b x. any_append (site_rails p x.0 k i one) (choice_rails more x.1 k i one);
}

-- the rails that receives take over into a variable
abbrev mutual
  pub got_rail : (p : Process) → Cells p → (var bit : ℕ) → Bool → Bool
  got_rail (receiving c at y to) x v i one = (y == v) && x.taken i one
  got_rail (in_turn ms) x v i one = turn_got ms x v i one
  got_rail (side_by_side ms) x v i one = branch_got ms x.branches v i one
  got_rail (repeating p) x v i one = got_rail p x.inner v i one
  got_rail (choosing false cs) x v i one = choice_got cs x.branches v i one
  got_rail (choosing true cs) x v i one = choice_got cs x.core.branches v i one
  got_rail _ x v i one = false

  pub turn_got : (ms : Processes) → TurnCells ms → (var bit : ℕ) → Bool → Bool
  turn_got no_members x v i one = false
  turn_got (and_member p no_members) x v i one = got_rail p x v i one
  turn_got (and_member p (and_member q more)) x v i one = got_rail p x.member.inner v i one || turn_got (and_member q more) x.later v i one

  pub branch_got : (ms : Processes) → BranchCells ms → (var bit : ℕ) → Bool → Bool
  branch_got no_members x v i one = false
  branch_got (and_member p more) x v i one = got_rail p x.0.inner v i one || branch_got more x.1 v i one

  pub choice_got : (cs : Choices) → ChoiceCells cs → (var bit : ℕ) → Bool → Bool
  choice_got no_choices x v i one = false
  choice_got (and_choice g p more) x v i one = got_rail p x.0 v i one || choice_got more x.1 v i one

-- which are among those of the variable's sites
module _ (v i : ℕ) (one : Bool) where
  both_high : (a b : List Bool) (c d : Bool) → (c ≡ true → any a ≡ true) → (d ≡ true → any b ≡ true) → (c || d) ≡ true → any (a ++ b) ≡ true
  both_high a b c d f g e = any_append a b ∙ or_map c d (any a) (any b) f g e

  port_held : (own : Bool) (x : Port) → (own && x.taken i one) ≡ true → any (rails_of_port own x i one) ≡ true
  port_held true x e = or_left (x.taken i one) false e
  port_held false x e = absurd (cc e)

  mutual
    pub got_held : (p : Process) (x : Cells p) → got_rail p x v i one ≡ true → any (site_rails p x (of_var v) i one) ≡ true
    got_held (receiving c at y to) x e = port_held (y == v) x e
    got_held (in_turn ms) x e = turn_held ms x e
    got_held (side_by_side ms) x e = branches_held ms x.branches e
    got_held (repeating p) x e = got_held p x.inner e
    got_held (choosing false cs) x e = choices_held cs x.branches e
    got_held (choosing true cs) x e = choices_held cs x.core.branches e
    got_held skipping x e = absurd (cc e)
    got_held (assigning y at d) x e = absurd (cc e)
    got_held (sending c at d) x e = absurd (cc e)

    turn_held : (ms : Processes) (x : TurnCells ms) → turn_got ms x v i one ≡ true → any (turn_rails ms x (of_var v) i one) ≡ true
    turn_held no_members x e = absurd (cc e)
    turn_held (and_member p no_members) x e = got_held p x e
    turn_held (and_member p (and_member q more)) x e =
        both_high (site_rails p x.member.inner (of_var v) i one) (turn_rails (and_member q more) x.later (of_var v) i one) (got_rail p x.member.inner v i one)
        (turn_got (and_member q more) x.later v i one) (got_held p x.member.inner) (turn_held (and_member q more) x.later) e

    branches_held : (ms : Processes) (x : BranchCells ms) → branch_got ms x v i one ≡ true → any (branch_rails ms x (of_var v) i one) ≡ true
    branches_held no_members x e = absurd (cc e)
    branches_held (and_member p more) x e =
        both_high (site_rails p x.0.inner (of_var v) i one) (branch_rails more x.1 (of_var v) i one) (got_rail p x.0.inner v i one)
        (branch_got more x.1 v i one) (got_held p x.0.inner) (branches_held more x.1) e

    choices_held : (cs : Choices) (x : ChoiceCells cs) → choice_got cs x v i one ≡ true → any (choice_rails cs x (of_var v) i one) ≡ true
    choices_held no_choices x e = absurd (cc e)
    choices_held (and_choice g p more) x e =
        both_high (site_rails p x.0 (of_var v) i one) (choice_rails more x.1 (of_var v) i one) (got_rail p x.0 v i one) (choice_got more x.1 v i one)
        (got_held p x.0) (choices_held more x.1) e

abbrev pub got_read : ℕ → ℕ → Bool → Reading
got_read v i one p r x = got_rail p x v i one

got_spread : (v i : ℕ) (one : Bool) → Spread (got_read v i one)
got_spread v i one = record {
  turn = λ ms r x. turn_got ms x v i one;
  branch = λ ms x. branch_got ms x v i one;
  choice = λ cs b x. choice_got cs x v i one;
  skips = λ r x y. refl;
  turns = λ ms r x. refl;
  sides = λ ms r x. refl;
  loops = λ p r x. refl;
  selects = λ cs r x. refl;
  repeats = λ cs r x. refl;
  last_turn = λ p r x. refl;
  more_turns = λ p q more r x. refl;
  no_branch = λ x. refl;
  more_branches = λ p more x. refl;
  no_choice = λ b x. refl;
  more_choices = λ g p more b x. refl;
}

-- the nodes that say that a receive on a channel has stored
abbrev pub takers_read : ℕ → Reading
takers_read c p r x = any (takers p x c)

pub takers_spread : (c : ℕ) → Spread (takers_read c)
takers_spread c = record {
  turn = λ ms r x. any (turn_takers ms x c);
  branch = λ ms x. any (branch_takers ms x c);
  choice = λ cs b x. any (choice_takers cs x c);
  skips = λ r x y. refl;
  turns = λ ms r x. refl;
  sides = λ ms r x. refl;
  loops = λ p r x. refl;
  selects = λ cs r x. refl;
  repeats = λ cs r x. refl;
  last_turn = λ p r x. refl;
  more_turns = λ p q more r x. any_append (takers p x.member.inner c) (turn_takers (and_member q more) x.later c);
  no_branch = λ x. refl;
  more_branches = λ p more x. any_append (takers p x.0.inner c) (branch_takers more x.1 c);
  no_choice = λ b x. refl;
  more_choices = λ g p more b x. any_append (takers p x.0 c) (choice_takers more x.1 c);
}

module _ (P : TypedProgram) (K : Clearing) where
  -- how many moves follow at least the own move by which a rail of the line begins to fall, and by which it begins to rise
  abbrev pub site_left : Line → ℕ
  site_left (of_channel c) = rail_left (kind_at P.channels c) (K.acked c) (K.taken c)
  site_left (of_var v) = 2 + var_height P v + K.written v

  abbrev pub site_ahead : Line → ℕ
  site_ahead (of_channel c) = rail_ahead (kind_at P.channels c) (tree_height (channel_width P.channels c))
  site_ahead (of_var v) = 3 + var_height P v

  abbrev told : Bool → Line → ℕ
  told b k = left_ahead b (site_left k) (site_ahead k)

  rails_leaf : (b : Bool) (k : Line) (i : ℕ) (one : Bool) (held down : ℕ) (p : Process) → is_site p ≡ true → (r : Bool) (x : Cells p) (s : Spot p)
      → any (site_rails p x k i one) ≡ b → any (site_rails p (flipped p x s) k i one) ≡ not b → told b k ≤ trail P K held down p x s
  rails_leaf b k i one held down (assigning y at d) h r x (of_assign s) e f =
      let z = site_moves (same_line (of_var y) k) d b (held + back P K down (assigning y at d) x) down (site_left (of_var y)) (site_ahead (of_var y)) x s i one
      e f in
      subst (λ (j : Line). told b j ≤ trail P K held down (assigning y at d) x (of_assign s)) (same_line_is (of_var y) k z.0) z.1
  rails_leaf b k i one held down (sending c at d) h r x (of_send s) e f =
      let z = site_moves (same_line (of_channel c) k) d b (held + back P K down (sending c at d) x) down (site_left (of_channel c)) (site_ahead (of_channel c))
      x s i one e f in
      subst (λ (j : Line). told b j ≤ trail P K held down (sending c at d) x (of_send s)) (same_line_is (of_channel c) k z.0) z.1
  rails_leaf b k i one held down (receiving c at y to) h r x (of_receive s) e f =
      let z = port_moves (same_line (of_var y) k) b (held + back P K down (receiving c at y to) x) down (var_height P y) (K.acked c) (K.written y) x s i one
      e f in
      let a = less_ahead b (2 + var_height P y + K.written y) (3 + var_height P y) (5 + var_height P y) (omega arith) in
      let t = z.1 in
      subst (λ (j : Line). told b j ≤ trail P K held down (receiving c at y to) x (of_receive s)) (same_line_is (of_var y) k z.0) (omega (arith, a, t))
  rails_leaf b k i one held down skipping h r x s e f = absurd (cc h)
  rails_leaf b k i one held down (in_turn ms) h r x s e f = absurd (cc h)
  rails_leaf b k i one held down (side_by_side ms) h r x s e f = absurd (cc h)
  rails_leaf b k i one held down (repeating p) h r x s e f = absurd (cc h)
  rails_leaf b k i one held down (choosing again cs) h r x s e f = absurd (cc h)

  rails_move : (b : Bool) (k : Line) (i : ℕ) (one : Bool) (plus minus : ℕ) (p : Process) → Meets P p → (x : QElementCells (Cells p)) (s : GuardedSpot p)
      → any (site_rails p x.inner k i one) ≡ b → any (site_rails p (turned_guarded p x s).inner k i one) ≡ not b
      → (guarded_rises s ≡ true → guarded_value p x s ≡ true) → told b k ≤ guarded_trail P K plus minus p x s
  rails_move b k i one = guarded_turns P K (rails_read k i one) (rails_spread k i one) b (told b k) (rails_leaf b k i one)
      (λ p meets x e f. never b (any (site_rails p x k i one)) e f) (λ down p x e f. never b (any (site_rails p x k i one)) e f)

  module _ (plus minus : ℕ) (p : Process) (meets : Meets P p) (x : QElementCells (Cells p)) (s : GuardedSpot p)
      (plain : guarded_rises s ≡ true → guarded_value p x s ≡ true) where
    -- a line's rail is let go by all of its sites, and by one held
    pub rail_falls_by : (k : Line) (i : ℕ) (one : Bool) → any (site_rails p x.inner k i one) ≡ true
        → any (site_rails p (turned_guarded p x s).inner k i one) ≡ false → site_left k ≤ guarded_trail P K plus minus p x s
    rail_falls_by k i one e f = rails_move true k i one plus minus p meets x s e f plain

    pub rail_rises_by : (k : Line) (i : ℕ) (one : Bool) → any (site_rails p x.inner k i one) ≡ false
        → any (site_rails p (turned_guarded p x s).inner k i one) ≡ true → site_ahead k ≤ guarded_trail P K plus minus p x s
    rail_rises_by k i one e f = rails_move false k i one plus minus p meets x s e f plain

    -- a receive takes it over
    pub got_by : (v i : ℕ) (one : Bool) → got_rail p x.inner v i one ≡ false → got_rail p (turned_guarded p x s).inner v i one ≡ true
        → 5 + var_height P v ≤ guarded_trail P K plus minus p x s
    got_by v i one e f = guarded_turns P K (got_read v i one) (got_spread v i one) false (5 + var_height P v) leaf
        (λ p meets x e f. absurd (not_both e f)) (λ down p x e f. absurd (not_both e f)) plus minus p meets x s e f plain
      where
        port : (up down h f v : ℕ) (x : Port) (s : PortSpot) (own : Bool) → (own && x.taken i one) ≡ false → (own && (turned_port x s).taken i one) ≡ true
            → 5 + h ≤ port_trail up down h f v x s
        port up down h f v x s false e g = absurd (cc g)
        port up down h f v x heard true e g = absurd (not_both e g)
        port up down h f v x stored true e g = absurd (not_both e g)
        port up down h f v x (taking j side) true e g =
            let z = taken_moves false x.taken j side i one e g in
            let w : (if x.taken j side then 2 + h + v else 5 + h) ≡ 5 + h = ap (λ (c : Bool). if c then 2 + h + v else 5 + h) z in
            omega (arith, w)

        leaf : (held down : ℕ) (p : Process) → is_site p ≡ true → (r : Bool) (x : Cells p) (s : Spot p) → got_rail p x v i one ≡ false
            → got_rail p (flipped p x s) v i one ≡ true → 5 + var_height P v ≤ trail P K held down p x s
        leaf held down (receiving c at y to) h r x (of_receive s) e f =
            let z = port (held + back P K down (receiving c at y to) x) down (var_height P y) (K.acked c) (K.written y) x s (y == v) e f in
            let w : var_height P y ≡ var_height P v = ap (λ (j : ℕ). var_height P j)
            (same_number y v (fst_true (y == v) ((turned_port x s).taken i one) f)) in
            omega (arith, z, w)
        leaf held down (assigning y at d) h r x s e f = absurd (cc f)
        leaf held down (sending c at d) h r x s e f = absurd (cc f)
        leaf held down skipping h r x s e f = absurd (cc h)
        leaf held down (in_turn ms) h r x s e f = absurd (cc h)
        leaf held down (side_by_side ms) h r x s e f = absurd (cc h)
        leaf held down (repeating p) h r x s e f = absurd (cc h)
        leaf held down (choosing again cs) h r x s e f = absurd (cc h)

    -- a channel's acknowledge is let go by all receives on it
    pub stored_by : (c : ℕ) → any (takers p x.inner c) ≡ true → any (takers p (turned_guarded p x s).inner c) ≡ false
        → 1 + K.acked c ≤ guarded_trail P K plus minus p x s
    stored_by c e f = guarded_turns P K (takers_read c) (takers_spread c) true (1 + K.acked c) leaf
        (λ p meets x e f. absurd (not_both f e)) (λ down p x e f. absurd (not_both f e)) plus minus p meets x s e f plain
      where
        leaf : (held down : ℕ) (p : Process) → is_site p ≡ true → (r : Bool) (x : Cells p) (s : Spot p) → any (takers p x c) ≡ true
            → any (takers p (flipped p x s) c) ≡ false → 1 + K.acked c ≤ trail P K held down p x s
        leaf held down (receiving d at y to) h r x (of_receive s) e f =
            let z = stored_falls (d == c) (held + back P K down (receiving d at y to) x) down (var_height P y) (K.acked d) (K.written y) x s e f in
            let t = z.1 in
            let w : K.acked d ≡ K.acked c = ap K.acked (same_number d c z.0) in
            omega (arith, t, w)
        leaf held down (assigning y at d) h r x s e f = absurd (cc e)
        leaf held down (sending k at d) h r x s e f = absurd (cc e)
        leaf held down skipping h r x s e f = absurd (cc h)
        leaf held down (in_turn ms) h r x s e f = absurd (cc h)
        leaf held down (side_by_side ms) h r x s e f = absurd (cc h)
        leaf held down (repeating p) h r x s e f = absurd (cc h)
        leaf held down (choosing again cs) h r x s e f = absurd (cc h)
