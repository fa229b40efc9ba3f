-- Own moves of the branch of a selection or of a repetition that is under way.
--
-- P: the program; K: how many moves follow the falls of lines; a: where the branch is; x: values of all branches; s, q: spots; z: that a rule
-- fires; l: what is said of a move of the branch.
use Rattle.std.proofs.Common.{◌≡◌, ◌≢◌, ℕ, suc, ◌+◌, ◌-◌, ◌<◌, ◌≤◌, Bool, true, false, ap, ◌∙◌, arith}
use Rattle.std.specs.Prelude.{if◌then◌else◌, max}
use Rattle.std.proofs.Math.Nat.{le-max_left, le-max_right, max-le}
use Rattle.width_check.specs.Processes.{Formula, Process, Choices, no_choices, and_choice, choice_count, TypedProgram}
use Rattle.function_blocks.specs.Rails.{one_rule_fires}
use Rattle.circuit_places.specs.Lines.{Seen}
use Rattle.circuit_places.specs.Heads.{Index, top, under, Bits, low_bits, hot}
use Rattle.circuit_places.specs.Circuit.{ChoiceCells, Spot, ChoiceSpot, this_choice, other_choice, answer, choice_answers, choice_rule, flipped, turned_choice, low, low_choices}
use Rattle.circuit_places.proofs.Flow.{not_both}
use Rattle.circuit_places.proofs.Places.{Mode, asks, acks, At, ChosenAt, this_one, another, chosen_index, chosen_cells, cells, chosen_moves, moves, low_choice_answers, low_answer, low_quiet, low_choice_quiet}
use Rattle.circuit_places.proofs.StillSteps.{choice_rises, choice_value}
use Rattle.round_time.specs.Longest.{first}
use Rattle.circuit_time.proofs.Trails.{Clearing, back, choice_back, latch_trail, start_trail, choice_trail}
use Rattle.circuit_time.proofs.OwnTrails.{Shorter, Led}
use Rattle.circuit_time.proofs.TurnTrails.{wrapped}

-- two spots of a branch are two of all
abbrev this_of : {g : Formula} {p : Process} {more : Choices} → Spot p → ChoiceSpot (and_choice g p more) → Spot p
this_of d (this_choice s) = s
this_of d (other_choice s) = d

pub this_apart : {g : Formula} {p : Process} {more : Choices} {s q : Spot p} → s ≢ q → this_choice {g = g} {more = more} s ≢ this_choice q
this_apart {s = s} ne e = ne (ap (this_of s) e)

abbrev other_of : {g : Formula} {p : Process} {more : Choices} → ChoiceSpot more → ChoiceSpot (and_choice g p more) → ChoiceSpot more
other_of d (this_choice s) = d
other_of d (other_choice s) = s

pub other_apart : {g : Formula} {p : Process} {more : Choices} {s q : ChoiceSpot more} → s ≢ q → other_choice {g = g} {p = p} s ≢ other_choice q
other_apart {s = s} ne e = ne (ap (other_of s) e)

-- what follows the fall of a branch's start
abbrev pub arm_back : TypedProgram → Clearing → (down : ℕ) → (cs : Choices) → ChoiceCells cs → Index (choice_count cs) → ℕ
arm_back P K down no_choices x i = 0
arm_back P K down (and_choice g p more) x top = back P K down p x.0
arm_back P K down (and_choice g p more) x (under i) = arm_back P K down more x.1 i

-- where that branch's latch alone is up, it alone is let go of
pub one_latch : (P : TypedProgram) (K : Clearing) (any down : ℕ) (cs : Choices) (i : Index (choice_count cs)) (x : ChoiceCells cs)
    → choice_back P K any down cs (hot i true) x ≤ max (2 + arm_back P K down cs x i) (2 + any)
one_latch P K any down no_choices i x = elim i [ ]
one_latch P K any down (and_choice g p more) top x =
    let n = no_latch more x.1 in
    let a = le-max_left (2 + back P K down p x.0) (2 + any) in
    let b = le-max_right (2 + back P K down p x.0) (2 + any) in
    max-le a (omega (arith, n, b))
  where
    no_latch : (cs : Choices) (x : ChoiceCells cs) → choice_back P K any down cs (low_bits (choice_count cs)) x ≤ 2 + any
    no_latch no_choices x = omega arith
    no_latch (and_choice g p more) x = max-le (omega arith) (no_latch more x.1)
one_latch P K any down (and_choice g p more) (under i) x = max-le (omega arith) (one_latch P K any down more i x.1)

-- where no more follows the falls of starts
module _ (P : TypedProgram) (K : Clearing) (down : ℕ) where
  pub backs_less : (any : ℕ) (cs : Choices) (b : Bits (choice_count cs)) (x y : ChoiceCells cs)
      → ((i : Index (choice_count cs)) → arm_back P K down cs y i ≤ arm_back P K down cs x i)
      → choice_back P K any down cs b y ≤ choice_back P K any down cs b x
  backs_less any no_choices b x y f = omega arith
  backs_less any (and_choice g p more) b x y f = max-le (by b.0) (let a = backs_less any more b.1 x.1 y.1 (λ i. f (under i)) in
      let m = le-max_right (if b.0 then 2 + back P K down p x.0 else 0) (choice_back P K any down more b.1 x.1) in omega (arith, a, m))
    where
      by : (c : Bool) → (if c then 2 + back P K down p y.0 else 0) ≤ max (if c then 2 + back P K down p x.0 else 0) (choice_back P K any down more b.1 x.1)
      by true = let a = f top in let m = le-max_left (2 + back P K down p x.0) (choice_back P K any down more b.1 x.1) in omega (arith, a, m)
      by false = omega arith

  pub latches_less : (any : ℕ) (cs : Choices) (x y : ChoiceCells cs) → ((i : Index (choice_count cs)) → arm_back P K down cs y i ≤ arm_back P K down cs x i)
      → (i : Index (choice_count cs)) → latch_trail P K any down cs y i ≤ latch_trail P K any down cs x i
  latches_less any no_choices x y f i = omega arith
  latches_less any (and_choice g p more) x y f top =
      let a = f top in
      let m = le-max_left (1 + any) (1 + back P K down p x.0) in
      let n = le-max_right (1 + any) (1 + back P K down p x.0) in
      max-le m (omega (arith, a, n))
  latches_less any (and_choice g p more) x y f (under i) = latches_less any more x.1 y.1 (λ i. f (under i)) i

  pub starts_less : (cs : Choices) (b : Bits (choice_count cs)) (x y : ChoiceCells cs) → ((i : Index (choice_count cs))
      → arm_back P K down cs y i ≤ arm_back P K down cs x i)
      → (i : Index (choice_count cs)) → start_trail P K down cs b y i ≤ start_trail P K down cs b x i
  starts_less no_choices b x y f i = omega arith
  starts_less (and_choice g p more) b x y f top = by b.0
    where
      by : (c : Bool) → (if c then back P K down p y.0 else first P p - 1) ≤ (if c then back P K down p x.0 else first P p - 1)
      by true = f top
      by false = omega arith
  starts_less (and_choice g p more) b x y f (under i) = starts_less more b.1 x.1 y.1 (λ i. f (under i)) i

-- what is said of a move of the branch
pub record ChosenLed (P : TypedProgram) (K : Clearing) (held down : ℕ) (cs : Choices) (k : Mode) (env : Seen) (a : ChosenAt cs k)
    (s : ChoiceSpot cs) : Type 0 where
  pub each : (q : ChoiceSpot cs) → one_rule_fires (choice_rule cs env (hot (chosen_index a) (asks k)) (turned_choice cs (chosen_cells a) s) q) ≡ true
      → (choice_rises q ≡ true → choice_value cs (turned_choice cs (chosen_cells a) s) q ≡ true)
      → Shorter s q (chosen_moves env a q) (choice_trail P K held down cs (turned_choice cs (chosen_cells a) s) q)
      (choice_trail P K held down cs (chosen_cells a) q) (choice_trail P K held down cs (chosen_cells a) s)
  pub says : Bool
  pub only : choice_answers cs (turned_choice cs (chosen_cells a) s) ≡ hot (chosen_index a) says
  pub up : acks k ≡ false → says ≡ true
      → (held + arm_back P K down cs (turned_choice cs (chosen_cells a) s) (chosen_index a) ≤ choice_trail P K held down cs (chosen_cells a) s)
      × (suc down ≤ arm_back P K down cs (turned_choice cs (chosen_cells a) s) (chosen_index a))
  pub falls : acks k ≡ true → says ≡ false → down ≤ choice_trail P K held down cs (chosen_cells a) s
  pub less : (i : Index (choice_count cs)) → arm_back P K down cs (turned_choice cs (chosen_cells a) s) i ≤ arm_back P K down cs (chosen_cells a) i

module _ (P : TypedProgram) (K : Clearing) (held down : ℕ) (env : Seen) where
  pub this_led : {g : Formula} {p : Process} {more : Choices} {k : Mode} (a : At p k) (s : Spot p) → Led P K held down p k env a s
      → ChosenLed P K held down (and_choice g p more) k env (this_one a) (this_choice s)
  this_led {g = g} {p = p} {more = more} {k = k} a s l = record {
    each = here;
    says = answer p (flipped p (cells a) s);
    only = ap (λ (y : Bits (choice_count more)). (answer p (flipped p (cells a) s), y)) (low_choice_answers more);
    up = l.up;
    falls = l.falls;
    less = lesser;
  }
    where
      lesser : (i : Index (suc (choice_count more))) → arm_back P K down (and_choice g p more) (flipped p (cells a) s, low_choices more) i
          ≤ arm_back P K down (and_choice g p more) (cells a, low_choices more) i
      lesser top = l.less
      lesser (under i) = omega arith

      here : (q : ChoiceSpot (and_choice g p more))
          → one_rule_fires (choice_rule (and_choice g p more) env (hot (chosen_index (this_one {g = g} {more = more} a)) (asks k))
          (turned_choice (and_choice g p more) (chosen_cells (this_one {g = g} {more = more} a)) (this_choice s)) q) ≡ true
          → (choice_rises q ≡ true → choice_value (and_choice g p more) (turned_choice (and_choice g p more)
          (chosen_cells (this_one {g = g} {more = more} a)) (this_choice s)) q ≡ true)
          → Shorter (this_choice s) q (chosen_moves env (this_one {g = g} {more = more} a) q)
          (choice_trail P K held down (and_choice g p more) (turned_choice (and_choice g p more) (chosen_cells (this_one {g = g} {more = more} a))
          (this_choice s)) q)
          (choice_trail P K held down (and_choice g p more) (chosen_cells (this_one {g = g} {more = more} a)) q)
          (choice_trail P K held down (and_choice g p more) (chosen_cells (this_one {g = g} {more = more} a)) (this_choice s))
      here (this_choice q) z plain = wrapped s q (this_choice s) (this_choice q) this_apart (moves env a q) _ _ _ (l.each q z plain)
      here (other_choice q) z plain = absurd (not_both (low_choice_quiet more env q) z)

  pub other_led : {g : Formula} {p : Process} {more : Choices} {k : Mode} (a : ChosenAt more k) (s : ChoiceSpot more) → ChosenLed P K held down more k env a s
      → ChosenLed P K held down (and_choice g p more) k env (another a) (other_choice s)
  other_led {g = g} {p = p} {more = more} {k = k} a s l = record {
    each = here;
    says = l.says;
    only = ap (λ (b : Bool). (b, choice_answers more (turned_choice more (chosen_cells a) s))) (low_answer p)
        ∙ ap (λ (y : Bits (choice_count more)). (false, y)) l.only;
    up = l.up;
    falls = l.falls;
    less = lesser;
  }
    where
      lesser : (i : Index (suc (choice_count more))) → arm_back P K down (and_choice g p more) (low p, turned_choice more (chosen_cells a) s) i
          ≤ arm_back P K down (and_choice g p more) (low p, chosen_cells a) i
      lesser top = omega arith
      lesser (under i) = l.less i

      here : (q : ChoiceSpot (and_choice g p more))
          → one_rule_fires (choice_rule (and_choice g p more) env (hot (chosen_index (another {g = g} {p = p} a)) (asks k))
          (turned_choice (and_choice g p more) (chosen_cells (another {g = g} {p = p} a)) (other_choice s)) q) ≡ true
          → (choice_rises q ≡ true → choice_value (and_choice g p more) (turned_choice (and_choice g p more)
          (chosen_cells (another {g = g} {p = p} a)) (other_choice s)) q ≡ true)
          → Shorter (other_choice s) q (chosen_moves env (another {g = g} {p = p} a) q)
          (choice_trail P K held down (and_choice g p more) (turned_choice (and_choice g p more) (chosen_cells (another {g = g} {p = p} a)) (other_choice s)) q)
          (choice_trail P K held down (and_choice g p more) (chosen_cells (another {g = g} {p = p} a)) q)
          (choice_trail P K held down (and_choice g p more) (chosen_cells (another {g = g} {p = p} a)) (other_choice s))
      here (this_choice q) z plain = absurd (not_both (low_quiet p env q) z)
      here (other_choice q) z plain = wrapped s q (other_choice s) (other_choice q) other_apart (chosen_moves env a q) _ _ _ (l.each q z plain)

-- so, where its answer rises, what the answer of its core is followed by is less
pub joined_less : (P : TypedProgram) (K : Clearing) (joins holds any down : ℕ) {cs : Choices} {k : Mode} (env : Seen) (a : ChosenAt cs k) (s : ChoiceSpot cs)
    (l : ChosenLed P K holds down cs k env a s) → joins + 3 ≤ holds → any ≤ down → acks k ≡ false → l.says ≡ true
    → joins + choice_back P K any down cs (hot (chosen_index a) true) (turned_choice cs (chosen_cells a) s) < choice_trail P K holds down cs (chosen_cells a) s
joined_less P K joins holds any down {cs = cs} env a s l more room e z =
    let u = l.up e z in
    let b = u.0 in
    let c = u.1 in
    let o = one_latch P K any down cs (chosen_index a) (turned_choice cs (chosen_cells a) s) in
    let m : max (2 + arm_back P K down cs (turned_choice cs (chosen_cells a) s) (chosen_index a)) (2 + any)
    ≤ 2 + arm_back P K down cs (turned_choice cs (chosen_cells a) s) (chosen_index a) = max-le (omega arith) (omega (arith, c, room)) in
    omega (arith, b, o, m, more)
