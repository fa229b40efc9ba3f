-- What is said of a step of a statement: it lets no own silent move begin but of a shorter trail than the step's phase; and where it raises the statement's
-- answer, that trail is long enough for what comes until the answer is low. Here of skips and loops, and of statements round the one that steps.
--
-- P: the program; K: how many moves follow the falls of lines; env: what the statement sees; a, g, t, b: where it is; s, q, w: spots; n: how many moves;
-- z: that a rule fires; l: what is said of the step of a part.
use Rattle.std.proofs.Common.{◌≡◌, ℕ, zero, suc, ◌+◌, ◌-◌, ◌<◌, ◌≤◌, Bool, true, false, List, ◌∷◌, refl, sym, ap, ◌∙◌, subst, inl, inr, arith}
use Rattle.std.proofs.Math.Path.{fun_ext}
use Rattle.width_check.specs.Processes.{Process, skipping, in_turn, side_by_side, repeating, Processes, no_members, and_member, member_count, TypedProgram}
use Rattle.function_blocks.specs.Rails.{one_rule_fires}
use Rattle.circuit_places.specs.Lines.{Seen}
use Rattle.circuit_places.specs.Circuit.{Cells, Bits, low, low_turn, joint_count, cell_bit, tree_rule, tree_answer, branches_answered, answer, last_answer, GuardedSpot, child, latch, next, inner, Spot, of_skip, in_members, of_branch, joint, of_loop, ask, in_body, BranchSpot, in_this, in_others, TurnSpot, in_last, in_member, in_later, guarded_rule, rule, branch_rule, turn_rule, flipped, turned_guarded, turned_branches, turned_turn}
use Rattle.circuit_places.proofs.Flow.{Backed, Quiet, quiet_of, not_both}
use Rattle.circuit_places.proofs.Meets.{Meets}
use Rattle.circuit_places.proofs.Begin.{idle_is}
use Rattle.circuit_places.proofs.Places.{Mode, idle, running, answered, asks, is_idle, inner_may, all_ask, link, SideMay, GuardedAt, g_in, g_past, At, at_skip, at_turn, at_side, at_body, BranchesAt, and_at, TurnAt, at_last, at_member, at_later, guarded_cells, cells, branch_cells, turn_cells, shown, guarded_moves, moves, branch_moves, turn_moves, answer_is, next_is, low_turn_answer, low_turn_quiet, can_is, guarded_can_is, branch_can_is}
use Rattle.circuit_places.proofs.StillSteps.{guarded_rises, guarded_value, branch_rises, branch_value, turn_rises, turn_value}
use Rattle.round_time.specs.Longest.{tree_height, first, turn_first}
use Rattle.circuit_time.proofs.Trails.{Clearing, back, turn_back, guarded_trail, trail, branch_trail, turn_trail}
use Rattle.circuit_time.proofs.Requests.{Plain, asked}
use Rattle.circuit_time.proofs.Spots.{inner_apart, members_apart, branch_apart, body_apart, this_apart, others_apart, last_apart, member_apart, later_apart}
use Rattle.circuit_time.proofs.OwnTrails.{Shorter}
use Rattle.circuit_time.proofs.TurnTrails.{wrapped}
use Rattle.circuit_pace.proofs.Never.{never}

pub record Stepped (P : TypedProgram) (K : Clearing) (held down : ℕ) (p : Process) (env : Seen) (a : At p running) (s : Spot p) (n : ℕ) : Type 0 where
  pub each : (q : Spot p) → one_rule_fires (rule p env true (flipped p (cells a) s) q) ≡ true → Plain p (flipped p (cells a) s) q
      → Shorter s q (moves env a q) (trail P K held down p (flipped p (cells a) s) q) (trail P K held down p (cells a) q) n
  pub up : answer p (flipped p (cells a) s) ≡ true → (held + back P K down p (flipped p (cells a) s) ≤ n)
      × (suc down ≤ back P K down p (flipped p (cells a) s))

-- of a statement in its Q-element, whose next request doesn't move then
pub record GuardedStepped (P : TypedProgram) (K : Clearing) (plus minus : ℕ) (p : Process) (env : Seen) (g : GuardedAt p running) (s : GuardedSpot p)
    (n : ℕ) : Type 0 where
  pub each : (q : GuardedSpot p) → one_rule_fires (guarded_rule p env true (turned_guarded p (guarded_cells g) s) q) ≡ true
      → (guarded_rises q ≡ true → guarded_value p (turned_guarded p (guarded_cells g) s) q ≡ true)
      → Shorter s q (guarded_moves env g q) (guarded_trail P K plus minus p (turned_guarded p (guarded_cells g) s) q)
      (guarded_trail P K plus minus p (guarded_cells g) q) n
  pub stays : (turned_guarded p (guarded_cells g) s).next ≡ false

pub record TurnStepped (P : TypedProgram) (K : Clearing) (held down : ℕ) (ms : Processes) (env : Seen) (t : TurnAt ms running) (s : TurnSpot ms)
    (n : ℕ) : Type 0 where
  pub each : (q : TurnSpot ms) → one_rule_fires (turn_rule ms env true (turned_turn ms (turn_cells t) s) q) ≡ true
      → (turn_rises q ≡ true → turn_value ms (turned_turn ms (turn_cells t) s) q ≡ true)
      → Shorter s q (turn_moves env t q) (turn_trail P K held down ms (turned_turn ms (turn_cells t) s) q) (turn_trail P K held down ms (turn_cells t) q) n
  pub up : last_answer ms (turned_turn ms (turn_cells t) s) ≡ true → (held + turn_back P K down ms (turned_turn ms (turn_cells t) s) ≤ n)
      × (suc down ≤ turn_back P K down ms (turned_turn ms (turn_cells t) s))

pub record BranchStepped (P : TypedProgram) (K : Clearing) (plus minus : ℕ) (ms : Processes) (ks : List Mode) (env : Seen) (b : BranchesAt ms ks)
    (s : BranchSpot ms) (n : ℕ) : Type 0 where
  pub each : (q : BranchSpot ms) → one_rule_fires (branch_rule ms env true (turned_branches ms (branch_cells b) s) q) ≡ true
      → (branch_rises q ≡ true → branch_value ms (turned_branches ms (branch_cells b) s) q ≡ true)
      → Shorter s q (branch_moves env b q) (branch_trail P K plus minus ms (turned_branches ms (branch_cells b) s) q)
      (branch_trail P K plus minus ms (branch_cells b) q) n
  pub ends : (i : ℕ) → branches_answered ms (turned_branches ms (branch_cells b) s) i ≡ branches_answered ms (branch_cells b) i

module _ (P : TypedProgram) (K : Clearing) (env : Seen) where
  -- a skip answers
  pub skip_stepped : (held down : ℕ) (h : is_idle running ≡ false) → Stepped P K held down skipping env (at_skip running h) of_skip (held + suc down)
  skip_stepped held down h = record { each = here; up = λ e. (omega arith, omega arith) }
    where
      here : (q : Spot skipping) → one_rule_fires (rule skipping env true (flipped skipping false of_skip) q) ≡ true
          → Plain skipping (flipped skipping false of_skip) q
          → Shorter of_skip q (moves env (at_skip running h) q) (trail P K held down skipping (flipped skipping false of_skip) q)
          (trail P K held down skipping false q) (held + suc down)
      here of_skip z plain = never z

  -- a loop asks its body
  pub ask_stepped : (held down : ℕ) {p : Process} (a : At p idle) → Meets P p → Backed p (shown a) env
      → Stepped P K held down (repeating p) env (at_body a) ask (first P p - 1)
  ask_stepped held down {p = p} a meets behind = record { each = here; up = λ e. never e }
    where
      quiet : Quiet p env
      quiet = quiet_of env (shown a) (idle_is a).1 behind

      inside : (x : Cells p) → x ≡ low p → (q : Spot p) → one_rule_fires (rule p env true x q) ≡ true → Plain p x q
          → trail P K 1 0 p x q < first P p - 1
      inside x e q z plain = subst (λ (y : Cells p). one_rule_fires (rule p env true y q) ≡ true → Plain p y q → trail P K 1 0 p y q < first P p - 1)
          (sym e) (λ z plain. let w = asked P K 1 0 p env meets quiet q z plain in omega (arith, w)) z plain

      here : (q : Spot (repeating p)) → one_rule_fires (rule (repeating p) env true (flipped (repeating p) (cells (at_body a)) ask) q) ≡ true
          → Plain (repeating p) (flipped (repeating p) (cells (at_body a)) ask) q
          → Shorter ask q (moves env (at_body a) q) (trail P K held down (repeating p) (flipped (repeating p) (cells (at_body a)) ask) q)
          (trail P K held down (repeating p) (cells (at_body a)) q) (first P p - 1)
      here of_loop z plain = never z
      here ask z plain = absurd (not_both (answer_is a) z)
      here (in_body q) z plain = inl (inside (cells a) (idle_is a).0 q z plain)

  -- ---- a part steps

  pub body_stepped : (held down : ℕ) {p : Process} (a : At p running) (s : Spot p) (n : ℕ) → Stepped P K 1 0 p env a s n
      → Stepped P K held down (repeating p) env (at_body a) (in_body s) n
  body_stepped held down {p = p} a s n l = record { each = here; up = λ e. never e }
    where
      here : (q : Spot (repeating p)) → one_rule_fires (rule (repeating p) env true (flipped (repeating p) (cells (at_body a)) (in_body s)) q) ≡ true
          → Plain (repeating p) (flipped (repeating p) (cells (at_body a)) (in_body s)) q
          → Shorter (in_body s) q (moves env (at_body a) q) (trail P K held down (repeating p) (flipped (repeating p) (cells (at_body a)) (in_body s)) q)
          (trail P K held down (repeating p) (cells (at_body a)) q) n
      here of_loop z plain = never z
      here ask z plain = let w = (l.up z).0 in inl (omega (arith, w))
      here (in_body q) z plain = wrapped s q (in_body s) (in_body q) body_apart (moves env a q) _ _ _ (l.each q z plain)

  pub inner_stepped : (plus minus : ℕ) {p : Process} (a : At p running) (h : inner_may false running ≡ true) (s : Spot p) (n : ℕ)
      → Stepped P K 2 (1 + plus) p env a s n → GuardedStepped P K plus minus p env (g_in false a h) (inner s) n
  inner_stepped plus minus {p = p} a h s n l = record { each = here; stays = refl }
    where
      here : (q : GuardedSpot p) → one_rule_fires (guarded_rule p env true (turned_guarded p (guarded_cells (g_in false a h)) (inner s)) q) ≡ true
          → (guarded_rises q ≡ true → guarded_value p (turned_guarded p (guarded_cells (g_in false a h)) (inner s)) q ≡ true)
          → Shorter (inner s) q (guarded_moves env (g_in false a h) q)
          (guarded_trail P K plus minus p (turned_guarded p (guarded_cells (g_in false a h)) (inner s)) q)
          (guarded_trail P K plus minus p (guarded_cells (g_in false a h)) q) n
      here child z plain = never z
      here latch z plain = let w = (l.up z).0 in inl (omega (arith, w))
      here next z plain = never z
      here (inner q) z plain = wrapped s q (inner s) (inner q) inner_apart _ _ _ _ (l.each q z plain)

  -- sequences
  pub last_stepped : (held down : ℕ) {p : Process} (a : At p running) (s : Spot p) (n : ℕ) → Stepped P K held down p env a s n
      → TurnStepped P K held down (and_member p no_members) env (at_last a) (in_last s) n
  last_stepped held down {p = p} a s n l = record { each = here; up = l.up }
    where
      here : (w : TurnSpot (and_member p no_members))
          → one_rule_fires (turn_rule (and_member p no_members) env true (turned_turn (and_member p no_members) (turn_cells (at_last a)) (in_last s)) w) ≡ true
          → (turn_rises w ≡ true → turn_value (and_member p no_members) (turned_turn (and_member p no_members) (turn_cells (at_last a)) (in_last s)) w ≡ true)
          → Shorter (in_last s) w (turn_moves env (at_last a) w)
          (turn_trail P K held down (and_member p no_members) (turned_turn (and_member p no_members) (turn_cells (at_last a)) (in_last s)) w)
          (turn_trail P K held down (and_member p no_members) (turn_cells (at_last a)) w) n
      here (in_last w) z plain = wrapped s w (in_last s) (in_last w) last_apart (moves env a w) _ _ _ (l.each w z plain)

  module _ (held down : ℕ) {p q : Process} {more : Processes} where
    pub member_stepped : (g : GuardedAt p running) (s : GuardedSpot p) (n : ℕ)
        → GuardedStepped P K (turn_first P (and_member q more) - 1) (turn_back P K down (and_member q more) (low_turn (and_member q more))) p env g s n
        → TurnStepped P K held down (and_member p (and_member q more)) env (at_member g) (in_member s) n
    member_stepped g s n l = record { each = here; up = λ e. absurd (not_both (low_turn_answer (and_member q more)) e) }
      where
        still : (b : Bool) → b ≡ false → (w : TurnSpot (and_member q more))
            → one_rule_fires (turn_rule (and_member q more) env b (low_turn (and_member q more)) w) ≡ true → ⊥
        still true e w z = absurd (cc e)
        still false e w z = not_both (low_turn_quiet (and_member q more) env w) z

        here : (w : TurnSpot (and_member p (and_member q more)))
            → one_rule_fires (turn_rule (and_member p (and_member q more)) env true (turned_turn (and_member p (and_member q more)) (turn_cells
            (at_member {q = q} {more = more} g)) (in_member s)) w) ≡ true
            → (turn_rises w ≡ true → turn_value (and_member p (and_member q more)) (turned_turn (and_member p (and_member q more)) (turn_cells
            (at_member {q = q} {more = more} g)) (in_member s)) w ≡ true)
            → Shorter (in_member s) w (turn_moves env (at_member {q = q} {more = more} g) w)
            (turn_trail P K held down (and_member p (and_member q more)) (turned_turn (and_member p (and_member q more)) (turn_cells
            (at_member {q = q} {more = more} g)) (in_member s)) w)
            (turn_trail P K held down (and_member p (and_member q more)) (turn_cells (at_member {q = q} {more = more} g)) w) n
        here (in_member w) z plain = wrapped s w (in_member s) (in_member w) member_apart (guarded_moves env g w) _ _ _ (l.each w z plain)
        here (in_later w) z plain = absurd (still (turned_guarded p (guarded_cells g) s).next l.stays w z)

    pub later_stepped : (g : GuardedAt p answered) (t : TurnAt (and_member q more) running) (h : link running answered running ≡ true)
        (s : TurnSpot (and_member q more)) (n : ℕ) → TurnStepped P K (held + 2) down (and_member q more) env t s n
        → TurnStepped P K held down (and_member p (and_member q more)) env (at_later g t h) (in_later s) n
    later_stepped g t h s n l = record {
      each = here;
      up = λ e.
          let u = l.up e in
          let b = u.0 in
          let c = u.1 in
          (omega (arith, b), omega (arith, c));
    }
      where
        past : (g : GuardedAt p answered) (w : GuardedSpot p) → guarded_moves env g w ≡ true → ⊥
        past g_past w e = cc e

        here : (w : TurnSpot (and_member p (and_member q more)))
            → one_rule_fires (turn_rule (and_member p (and_member q more)) env true (turned_turn (and_member p (and_member q more)) (turn_cells
            (at_later {m = running} g t h)) (in_later s)) w) ≡ true
            → (turn_rises w ≡ true → turn_value (and_member p (and_member q more)) (turned_turn (and_member p (and_member q more)) (turn_cells
            (at_later {m = running} g t h)) (in_later s)) w ≡ true)
            → Shorter (in_later s) w (turn_moves env (at_later {m = running} g t h) w)
            (turn_trail P K held down (and_member p (and_member q more)) (turned_turn (and_member p (and_member q more))
            (turn_cells (at_later {m = running} g t h)) (in_later s)) w)
            (turn_trail P K held down (and_member p (and_member q more)) (turn_cells (at_later {m = running} g t h)) w) n
        here (in_member w) z plain = absurd (past g w (sym (guarded_can_is env g w) ∙ z))
        here (in_later w) z plain = wrapped s w (in_later s) (in_later w) later_apart (turn_moves env t w) _ _ _ (l.each w
            (subst (λ (b : Bool). one_rule_fires (turn_rule (and_member q more) env b (turned_turn (and_member q more) (turn_cells t) s) w)
            ≡ true) (next_is g) z) plain)

  pub turn_stepped : (held down : ℕ) {ms : Processes} (t : TurnAt ms running) (s : TurnSpot ms) (n : ℕ) → TurnStepped P K held down ms env t s n
      → Stepped P K held down (in_turn ms) env (at_turn t) (in_members s) n
  turn_stepped held down {ms = ms} t s n l = record { each = here; up = l.up }
    where
      here : (w : Spot (in_turn ms)) → one_rule_fires (rule (in_turn ms) env true (flipped (in_turn ms) (cells (at_turn t)) (in_members s)) w) ≡ true
          → Plain (in_turn ms) (flipped (in_turn ms) (cells (at_turn t)) (in_members s)) w
          → Shorter (in_members s) w (moves env (at_turn t) w) (trail P K held down (in_turn ms) (flipped (in_turn ms) (cells (at_turn t)) (in_members s)) w)
          (trail P K held down (in_turn ms) (cells (at_turn t)) w) n
      here (in_members w) z plain = wrapped s w (in_members s) (in_members w) members_apart (turn_moves env t w) _ _ _ (l.each w z plain)

  -- branches side by side
  module _ (plus minus : ℕ) {p : Process} {more : Processes} where
    pub this_stepped : {ks : List Mode} (g : GuardedAt p running) (b : BranchesAt more ks) → all_ask true ks ≡ true → (s : GuardedSpot p) (n : ℕ)
        → GuardedStepped P K plus minus p env g s n → BranchStepped P K plus minus (and_member p more) (running ∷ ks) env (and_at g b) (in_this s) n
    this_stepped g b h s n l = record { each = here; ends = same }
      where
        same : (i : ℕ) → branches_answered (and_member p more) (turned_branches (and_member p more) (branch_cells (and_at g b)) (in_this s)) i
            ≡ branches_answered (and_member p more) (branch_cells (and_at g b)) i
        same zero = l.stays ∙ sym (next_is g)
        same (suc i) = refl

        here : (q : BranchSpot (and_member p more))
            → one_rule_fires (branch_rule (and_member p more) env true (turned_branches (and_member p more) (branch_cells (and_at g b)) (in_this s)) q) ≡ true
            → (branch_rises q ≡ true → branch_value (and_member p more) (turned_branches (and_member p more) (branch_cells (and_at g b)) (in_this s)) q ≡ true)
            → Shorter (in_this s) q (branch_moves env (and_at g b) q)
            (branch_trail P K plus minus (and_member p more) (turned_branches (and_member p more) (branch_cells (and_at g b)) (in_this s)) q)
            (branch_trail P K plus minus (and_member p more) (branch_cells (and_at g b)) q) n
        here (in_this q) z plain = wrapped s q (in_this s) (in_this q) this_apart (guarded_moves env g q) _ _ _ (l.each q z plain)
        here (in_others q) z plain = inr ((λ e. cc e), sym (branch_can_is env true b h q) ∙ z, omega arith)

    pub others_stepped : {k : Mode} {ks : List Mode} (g : GuardedAt p k) (b : BranchesAt more ks) → asks k ≡ true → (s : BranchSpot more) (n : ℕ)
        → BranchStepped P K plus minus more ks env b s n → BranchStepped P K plus minus (and_member p more) (k ∷ ks) env (and_at g b) (in_others s) n
    others_stepped {k = k} g b asked s n l = record { each = here; ends = same }
      where
        same : (i : ℕ) → branches_answered (and_member p more) (turned_branches (and_member p more) (branch_cells (and_at g b)) (in_others s)) i
            ≡ branches_answered (and_member p more) (branch_cells (and_at g b)) i
        same zero = refl
        same (suc i) = l.ends i

        here : (q : BranchSpot (and_member p more))
            → one_rule_fires (branch_rule (and_member p more) env true (turned_branches (and_member p more) (branch_cells (and_at g b)) (in_others s)) q)
            ≡ true
            → (branch_rises q ≡ true
            → branch_value (and_member p more) (turned_branches (and_member p more) (branch_cells (and_at g b)) (in_others s)) q ≡ true)
            → Shorter (in_others s) q (branch_moves env (and_at g b) q)
            (branch_trail P K plus minus (and_member p more) (turned_branches (and_member p more) (branch_cells (and_at g b)) (in_others s)) q)
            (branch_trail P K plus minus (and_member p more) (branch_cells (and_at g b)) q) n
        here (in_this q) z plain = inr (
          (λ e. cc e),
          sym (guarded_can_is env g q) ∙ (ap (λ c. one_rule_fires (guarded_rule p env c (guarded_cells g) q)) asked ∙ z),
          omega arith,
        )
        here (in_others q) z plain = wrapped s q (in_others s) (in_others q) others_apart (branch_moves env b q) _ _ _ (l.each q z plain)

  pub side_stepped : (held down : ℕ) {ms : Processes} {ks : List Mode} (t : Bits (joint_count (member_count ms))) (b : BranchesAt ms ks)
      (h : SideMay (member_count ms) running ks t) (s : BranchSpot ms) (n : ℕ)
      → BranchStepped P K (tree_height (member_count ms) + (held + (2 + tree_height (member_count ms) + down))) (tree_height (member_count ms) + down) ms ks
      env b s n
      → Stepped P K held down (side_by_side ms) env (at_side running t b h) (of_branch s) n
  side_stepped held down {ms = ms} {ks = ks} t b h s n l = record { each = here; up = λ e. absurd (not_both answers e) }
    where
      same : branches_answered ms (turned_branches ms (branch_cells b) s) ≡ branches_answered ms (branch_cells b)
      same = fun_ext l.ends

      answers : answer (side_by_side ms) (flipped (side_by_side ms) (cells (at_side running t b h)) (of_branch s)) ≡ false
      answers = ap (λ (f : ℕ → Bool). tree_answer (member_count ms) f (cell_bit (joint_count (member_count ms)) t)) same ∙ answer_is (at_side running t b h)

      here : (q : Spot (side_by_side ms))
          → one_rule_fires (rule (side_by_side ms) env true (flipped (side_by_side ms) (cells (at_side running t b h)) (of_branch s)) q) ≡ true
          → Plain (side_by_side ms) (flipped (side_by_side ms) (cells (at_side running t b h)) (of_branch s)) q
          → Shorter (of_branch s) q (moves env (at_side running t b h) q)
          (trail P K held down (side_by_side ms) (flipped (side_by_side ms) (cells (at_side running t b h)) (of_branch s)) q)
          (trail P K held down (side_by_side ms) (cells (at_side running t b h)) q) n
      here (of_branch q) z plain = wrapped s q (of_branch s) (of_branch q) branch_apart (branch_moves env b q) _ _ _ (l.each q z plain)
      here (joint k) z plain = inr (
        (λ e. cc e),
        sym (can_is env (at_side running t b h) (joint k))
            ∙ (ap (λ (f : ℕ → Bool). one_rule_fires (tree_rule (member_count ms) f (cell_bit (joint_count (member_count ms)) t) k)) (sym same) ∙ z),
        omega arith,
      )
