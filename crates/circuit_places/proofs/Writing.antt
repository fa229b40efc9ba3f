-- Which variables are being written: where a site offers a rail of one under a low acknowledge it is; where an acknowledge
-- falls nothing ceases to be, and other acknowledges don't matter; what is being written isn't read. What the rails of its
-- value say as a number.
use Rattle.std.proofs.Common.{◌≡◌, ℕ, zero, suc, ◌+◌, ◌*◌, ◌/◌, ◌%◌, ◌^◌, ◌<◌, ◌==◌, Bool, true, false, List, [], ◌∷◌, length, map, refl, sym, ap, ◌∙◌, arith, All, ◌⊎◌, inl, inr}
use Rattle.std.proofs.lemmas.Bool.{eqb-true}
use Rattle.std.proofs.lemmas.List.Elements.{All-head, All-tail}
use Rattle.std.specs.Prelude.{not, ◌&&◌, ◌||◌, Option, Some, None, slice_index, is_some}
use Rattle.prs_core.specs.Moves.{bit_value, with_bit}
use Rattle.env_script.specs.Environment.{is_odd}
use Rattle.width_check.specs.declared.typed.Var.{Var}
use Rattle.width_check.specs.Processes.{Formula, Process, Processes, TypedProgram}
use Rattle.width_check.specs.Typing.{var_width}
use Rattle.chp_meaning.specs.Halves.{IsSizedVar}
use Rattle.width_check.specs.Values.{one_if}
use Rattle.circuit_places.specs.Lines.{Line, of_channel, of_var, same_line, Rails, Seen}
use Rattle.circuit_places.specs.Circuit.{Pairs, gate_count, same_bit}
use Rattle.circuit_places.specs.Whole.{value_on, neutral_on, number_rail, first_bits}
use Rattle.circuit_places.proofs.LineNames.{same_number, same_line_is}
use Rattle.width_check.specs.Reads.{reads}
use Rattle.function_blocks.specs.Rails.{number_on}
use Rattle.function_blocks.specs.Waves.{out_rail, full, empty}
use Rattle.circuit_places.proofs.Meets.{turn_sends, uses, Meets, TurnMeets, EachMeets, ChoiceMeets}
use Rattle.circuit_places.proofs.RailLemmas.{fst_true, snd_true, both_true, never_and, empty_low}
use Rattle.circuit_places.proofs.Places.{Mode, idle, running, answered, returning, wave_may, SiteMay, SiteFits, port_may, PortFits, send_fits, under_way, GuardedAt, BranchesAt, guarded_shown, branches_shown, GuardedFits, guarded_writing, branches_writing}
use Rattle.circuit_places.proofs.Flow.{neither_left, neither_right, low_of, or_left, or_right, or_free, cases}
use Rattle.circuit_places.proofs.Begin.{answered_va}
use Rattle.circuit_places.proofs.PortLeaf.{runs_kept, runs_va, back_none, low_by, port_none}
use Rattle.circuit_places.proofs.Everywhere.{View, GoesUp, IsSeen, guarded_seen, branches_seen, guarded_everywhere}
use Rattle.circuit_places.proofs.Talks.{either, or_false_left, or_false_right, guarded_honest, branches_honest, guarded_stands, branches_stand, guarded_reads_uses}

-- a site that holds a rail under a low acknowledge runs
held_runs : (m : Mode) (f n a : Bool) → wave_may m f ≡ true → send_fits m f n a ≡ true → n ≡ false → a ≡ false → under_way m a ≡ true
held_runs idle f n a h k e l = absurd (cc h)
held_runs running f n a h k e l = ap (λ b. under_way running b) l
held_runs answered f n a h k e l = absurd (cc (k, l))
held_runs returning f true a h k e l = absurd (cc e)
held_runs returning f false a h k e l = absurd (cc (k, l))

site_there : (env : Seen) (y : ℕ) (e : Formula) (m : Mode) (u : Pairs (gate_count e)) → SiteMay e m u → SiteFits (of_var y) e m u env → (x i : ℕ) (one : Bool)
    → env.ack (of_var x) ≡ false → ((y == x) && out_rail e u i one) ≡ true → ((y == x) && under_way m (env.ack (of_var y))) ≡ true
site_there env y e m u h f x i one low z =
    let same = fst_true (y == x) (out_rail e u i one) z in
    let some : empty e u ≡ false = cases (empty e u)
    (λ (n : empty e u ≡ true). absurd (cc (empty_low e h.known u n i one, snd_true (y == x) (out_rail e u i one) z)))
    (λ (n : empty e u ≡ false). n) in
    both_true (y == x) (under_way m (env.ack (of_var y))) same (held_runs m (full e u) (empty e u) (env.ack (of_var y)) h.may f.0 some
    (ap (λ v. env.ack (of_var v)) (same_number y x same) ∙ low))

port_there : (env : Seen) (c y : ℕ) (m : Mode) (k : Bool) (q : Rails) → port_may m k ≡ true → PortFits c y m k q env → (x i : ℕ) (one : Bool)
    → env.ack (of_var x) ≡ false → ((y == x) && q i one) ≡ true → ((y == x) && under_way m (env.ack (of_channel c))) ≡ true
port_there env c y m k q h f x i one low z =
    let same = fst_true (y == x) (q i one) z in
    both_true (y == x) (under_way m (env.ack (of_channel c))) same (by m h f (ap (λ v. env.ack (of_var v)) (same_number y x same) ∙ low)
    (snd_true (y == x) (q i one) z))
  where
    by : (m : Mode) → port_may m k ≡ true → PortFits c y m k q env → env.ack (of_var y) ≡ false → q i one ≡ true → under_way m (env.ack (of_channel c)) ≡ true
    by idle h f v o = absurd (cc h)
    by answered h f v o = absurd (cc (
      answered_va k (env.ack (of_channel c)) (env.ack (of_var y)) (is_some (value_on (env.width (of_var y)) q))
          (neutral_on (env.width (of_var y)) q) f.ends,
      v,
    ))
    by returning h f v o = absurd (cc (
      port_none c y returning k q env f (back_none k (env.ack (of_channel c)) (env.ack (of_var y))
          (is_some (value_on (env.width (of_var y)) q)) (neutral_on (env.width (of_var y)) q) f.ends v) i one,
      o,
    ))
    by running h f v o =
        let gone = low_by k (env.ack (of_var y)) (runs_va k (env.ack (of_channel c)) (env.ack (of_var y)) (is_some (value_on (env.width (of_var y)) q))
        (neutral_on (env.width (of_var y)) q) f.ends) v in
        ap not (low_by (env.ack (of_channel c)) k (runs_kept k (env.ack (of_channel c)) (env.ack (of_var y)) (is_some (value_on (env.width (of_var y)) q))
        (neutral_on (env.width (of_var y)) q) f.ends) gone)

there : (env : Seen)
    → IsSeen (λ v. v.fits env → (x i : ℕ) (one : Bool) → env.ack (of_var x) ≡ false → v.shown.offer (of_var x) i one ≡ true → v.writing env.ack x ≡ true)
there env = record {
  silent = λ F f x i one l e. absurd (cc e);
  guards = λ asked choices F f x i one l e. absurd (cc e);
  assign = λ y d m u h f x i one l e. site_there env y d m u h f x i one l e;
  send = λ c d m u h f x i one l e. absurd (cc e);
  receive = λ c y m k q h f x i one l e. port_there env c y m k q h f x i one l e;
  both = λ v w g b f x i one l e. either (v.shown.offer (of_var x) i one) (w.shown.offer (of_var x) i one) e
      (λ z. or_left (v.writing env.ack x) (w.writing env.ack x) (g f.0 x i one l z))
      (λ z. or_right (v.writing env.ack x) (w.writing env.ack x) (b f.1 x i one l z));
}

pub guarded_writing_there : {p : Process} {m : Mode} (env : Seen) (g : GuardedAt p m) → GuardedFits g env → (x i : ℕ) (one : Bool)
    → env.ack (of_var x) ≡ false → (guarded_shown g).offer (of_var x) i one ≡ true → guarded_writing env.ack g x ≡ true
guarded_writing_there env g =
    guarded_seen (λ v. v.fits env → (x i : ℕ) (one : Bool) → env.ack (of_var x) ≡ false → v.shown.offer (of_var x) i one ≡ true → v.writing env.ack x ≡ true)
    (there env) g

-- under a high acknowledge nothing is being written
under_high : (m : Mode) → under_way m true ≡ false
under_high idle = refl
under_high running = refl
under_high answered = refl
under_high returning = refl

-- one acknowledge turns over at most
pub record OneTurned (ack now : Line → Bool) (k : Line) : Type 0 where
  pub far : (l : Line) → same_line l k ≡ false → now l ≡ ack l

-- where it falls, what isn't being written afterwards wasn't before
site_falls : (ack now : Line → Bool) (k l : Line) (b : Bool) (m : Mode) → OneTurned ack now k → ack k ≡ true → (b && under_way m (now l)) ≡ false
    → (b && under_way m (ack l)) ≡ false
site_falls ack now k l b m t high h = cases (same_line l k)
    (λ (e : same_line l k ≡ true). ap (λ z. b && under_way m z) (ap ack (same_line_is l k e) ∙ high) ∙ (ap (λ z. b && z) (under_high m) ∙ never_and b))
    (λ (e : same_line l k ≡ false). ap (λ z. b && under_way m z) (sym (t.far l e)) ∙ h)

falls : (ack now : Line → Bool) (k : Line) → OneTurned ack now k → ack k ≡ true → IsSeen (λ v. (x : ℕ) → v.writing now x ≡ false → v.writing ack x ≡ false)
falls ack now k t high = record {
  silent = λ f x e. refl;
  guards = λ asked choices f x e. refl;
  assign = λ y d m u h x e. site_falls ack now k (of_var y) (y == x) m t high e;
  send = λ c d m u h x e. refl;
  receive = λ c y m l q h x e. site_falls ack now k (of_channel c) (y == x) m t high e;
  both = λ v w g b x e. or_free (v.writing ack x) (w.writing ack x) (v.writing now x) (w.writing now x) (g x) (b x) e;
}

pub guarded_writing_falls : {p : Process} {m : Mode} (ack now : Line → Bool) (k : Line) → OneTurned ack now k → ack k ≡ true → (g : GuardedAt p m) (x : ℕ)
    → guarded_writing now g x ≡ false → guarded_writing ack g x ≡ false
guarded_writing_falls ack now k t high g = guarded_seen (λ v. (x : ℕ) → v.writing now x ≡ false → v.writing ack x ≡ false) (falls ack now k t high) g

-- where a variable's acknowledge turns over, only what is assigned to it notices
-- of both where of either
of_first : {A : Type 0} (a b : Bool) → A ⊎ ((a || b) ≡ false) → A ⊎ (a ≡ false)
of_first a b (inl e) = inl e
of_first a b (inr e) = inr (neither_left a b e)

of_second : {A : Type 0} (a b : Bool) → A ⊎ ((a || b) ≡ false) → A ⊎ (b ≡ false)
of_second a b (inl e) = inl e
of_second a b (inr e) = inr (neither_right a b e)

site_other : (ack now : Line → Bool) (v y x : ℕ) (m : Mode) → OneTurned ack now (of_var v) → (x == v) ≡ false ⊎ ((y == x) ≡ false)
    → ((y == x) && under_way m (now (of_var y))) ≡ ((y == x) && under_way m (ack (of_var y)))
site_other ack now v y x m t (inr e) = ap (λ b. b && under_way m (now (of_var y))) e ∙ sym (ap (λ b. b && under_way m (ack (of_var y))) e)
site_other ack now v y x m t (inl e) = cases (y == x)
    (λ (z : (y == x) ≡ true). ap (λ b. (y == x) && under_way m b) (t.far (of_var y) (ap (λ n. n == v) (same_number y x z) ∙ e)))
    (λ (z : (y == x) ≡ false). ap (λ b. b && under_way m (now (of_var y))) z ∙ sym (ap (λ b. b && under_way m (ack (of_var y))) z))

other : (ack now : Line → Bool) (n : ℕ) → OneTurned ack now (of_var n)
    → IsSeen (λ v. (x : ℕ) → (x == n) ≡ false ⊎ (v.shown.says (of_var x) ≡ false) → v.writing now x ≡ v.writing ack x)
other ack now n t = record {
  silent = λ f x e. refl;
  guards = λ asked choices f x e. refl;
  assign = λ y d m u h x e. site_other ack now n y x m t e;
  send = λ c d m u h x e. refl;
  receive = λ c y m l q h x e. ap (λ b. (y == x) && under_way m b) (t.far (of_channel c) refl);
  both = λ v w g b x e. ap (λ z. z || w.writing now x) (g x (of_first (v.shown.says (of_var x)) (w.shown.says (of_var x)) e))
      ∙ ap (λ z. v.writing ack x || z) (b x (of_second (v.shown.says (of_var x)) (w.shown.says (of_var x)) e));
}

pub guarded_writing_other : {p : Process} {m : Mode} (ack now : Line → Bool) (v : ℕ) → OneTurned ack now (of_var v) → (g : GuardedAt p m) (x : ℕ)
    → (x == v) ≡ false ⊎ ((guarded_shown g).says (of_var x) ≡ false) → guarded_writing now g x ≡ guarded_writing ack g x
guarded_writing_other ack now n t g =
    guarded_seen (λ v. (x : ℕ) → (x == n) ≡ false ⊎ (v.shown.says (of_var x) ≡ false) → v.writing now x ≡ v.writing ack x) (other ack now n t) g

-- who doesn't listen on a channel doesn't notice its acknowledge
deaf : (ack now : Line → Bool) (c : ℕ) → OneTurned ack now (of_channel c)
    → IsSeen (λ v. v.shown.listen c ≡ false → (x : ℕ) → v.writing now x ≡ v.writing ack x)
deaf ack now c t = record {
  silent = λ f e x. refl;
  guards = λ asked choices f e x. refl;
  assign = λ y d m u h e x. ap (λ b. (y == x) && under_way m b) (t.far (of_var y) refl);
  send = λ b d m u h e x. refl;
  receive = λ d y m l q h e x. ap (λ b. (y == x) && under_way m b) (t.far (of_channel d) e);
  both = λ v w g b e x. ap (λ z. z || w.writing now x) (g (neither_left (v.shown.listen c) (w.shown.listen c) e) x)
      ∙ ap (λ z. v.writing ack x || z) (b (neither_right (v.shown.listen c) (w.shown.listen c) e) x);
}

pub guarded_writing_deaf : {p : Process} {m : Mode} (ack now : Line → Bool) (c : ℕ) → OneTurned ack now (of_channel c) → (g : GuardedAt p m)
    → (guarded_shown g).listen c ≡ false → (x : ℕ) → guarded_writing now g x ≡ guarded_writing ack g x
guarded_writing_deaf ack now c t g = guarded_seen (λ v. v.shown.listen c ≡ false → (x : ℕ) → v.writing now x ≡ v.writing ack x) (deaf ack now c t) g

pub branches_writing_deaf : {members : Processes} {ks : List Mode} (ack now : Line → Bool) (c : ℕ) → OneTurned ack now (of_channel c)
    → (b : BranchesAt members ks) → (branches_shown b).listen c ≡ false → (x : ℕ) → branches_writing now b x ≡ branches_writing ack b x
branches_writing_deaf ack now c t b = branches_seen (λ v. v.shown.listen c ≡ false → (x : ℕ) → v.writing now x ≡ v.writing ack x) (deaf ack now c t) b

no_use : (u s : Bool) → (u ≡ true → s ≡ false) → s ≡ true → u ≡ false
no_use true s f h = absurd (cc (f refl, h))
no_use false s f h = refl

-- what is being written isn't read
module _ (P : TypedProgram) where
  abbrev IsUnread : Type 0 → View → Type 0
  IsUnread M v = M → (ack : Line → Bool) (x : ℕ) → v.writing ack x ≡ true → v.shown.read x ≡ false

  unread : GoesUp (λ p r x. IsUnread (Meets P p)) (λ ms r x. IsUnread (TurnMeets P ms)) (λ ms x. IsUnread (EachMeets P ms))
      (λ cs s y. IsUnread (ChoiceMeets P cs)) (λ cs s y. IsUnread (ChoiceMeets P cs))
  unread = record {
    silent = λ p f meets ack x e. refl;
    skip = λ r a f meets ack x e. refl;
    assign = λ y at d m u h meets ack x e. ap (λ n. reads n d) (sym (same_number y x (fst_true (y == x) (under_way m (ack (of_var y))) e))) ∙ meets.plain;
    send = λ c at d m u h meets ack x e. absurd (cc e);
    receive = λ c y at to m l q h meets ack x e. refl;
    turn = λ ms r z v h. h;
    turn_silent = λ ms f meets ack x e. refl;
    last = λ p r z v h. h;
    first = λ p q more r z v n h meets. h meets.0;
    later = λ p q more r z y v low h meets. h meets.1;
    side = λ ms r z t v h meets. h meets.2;
    none = λ f meets ack x e. refl;
    beside = λ {p} {more} {k} {ks} g b one rest meets ack x e. either (guarded_writing ack g x) (branches_writing ack b x) e
        (λ z. or_false_left ((guarded_shown g).read x) ((branches_shown b).read x) (one meets.0 ack x z)
        ∙ low_of ((branches_shown b).read x) ((branches_stand b).reads x)
        (meets.1.read x ((guarded_stands g).talks (of_var x) ((guarded_honest g).writes ack x z))))
        (λ z. or_false_right ((guarded_shown g).read x) ((branches_shown b).read x) (rest meets.2 ack x z)
        ∙ low_of ((guarded_shown g).read x) (guarded_reads_uses g x)
        (no_use (uses p x) (turn_sends more (of_var x)) (meets.1.reader x) ((branches_stand b).talks (of_var x) ((branches_honest b).writes ack x z))));
    body = λ p r b z v h. h;
    choice = λ cs r z v h meets. h meets.2;
    turning = λ cs r z v h meets. h meets.2;
    guards = λ cs asked f meets ack x e. absurd (cc e);
    inside = λ cs s y v h. h;
    this = λ g p more r z v h meets. h meets.0;
    others = λ g p more s y v h meets. h meets.1;
  }

  pub guarded_writing_unread : {p : Process} {m : Mode} (ack : Line → Bool) (g : GuardedAt p m) → Meets P p → (x : ℕ)
      → guarded_writing ack g x ≡ true → (guarded_shown g).read x ≡ false
  guarded_writing_unread ack g meets =
      guarded_everywhere (λ p r x. IsUnread (Meets P p)) (λ ms r x. IsUnread (TurnMeets P ms)) (λ ms x. IsUnread (EachMeets P ms))
      (λ cs s y. IsUnread (ChoiceMeets P cs)) (λ cs s y. IsUnread (ChoiceMeets P cs)) unread g meets ack

-- numbers on rails
pub number_told : (n : ℕ) (rail : Rails) (v : ℕ) → value_on n rail ≡ Some v → number_on n rail ≡ v
number_told zero rail v e = cc e
number_told (suc n) rail v e = by (rail zero true) (rail zero false) (value_on n (λ i. rail (suc i))) (λ k h. number_told n (λ i. rail (suc i)) k h) refl e
  where
    by : (t f : Bool) (r : Option ℕ) → ((k : ℕ) → value_on n (λ i. rail (suc i)) ≡ Some k → number_on n (λ i. rail (suc i)) ≡ k)
        → value_on n (λ i. rail (suc i)) ≡ r → with_bit (bit_value t f) r ≡ Some v → one_if t + 2 * number_on n (λ i. rail (suc i)) ≡ v
    by true false (Some k) g h e = ap (λ z. 1 + 2 * z) (g k h) ∙ some_is e
      where
        some_is : Some (1 + 2 * k) ≡ Some v → 1 + 2 * k ≡ v
        some_is e = cc e
    by false true (Some k) g h e = ap (λ z. 0 + 2 * z) (g k h) ∙ some_is e
      where
        some_is : Some (0 + 2 * k) ≡ Some v → 0 + 2 * k ≡ v
        some_is e = cc e
    by true true r g h e = absurd (cc e)
    by false false r g h e = absurd (cc e)
    by true false None g h e = absurd (cc e)
    by false true None g h e = absurd (cc e)

-- the first values of variables
half_below : (v n : ℕ) → v < 2 ^ suc n → v / 2 < 2 ^ n
half_below v n h = grind arith

halves : (v : ℕ) (o : Bool) → is_odd v ≡ o → one_if (same_bit o true) + 2 * (v / 2) ≡ v
halves v true h = odd_is (eqb-true (v % 2) 1 h)
  where
    odd_is : v % 2 ≡ 1 → 1 + 2 * (v / 2) ≡ v
    odd_is e = grind arith
halves v false h = even_is h
  where
    even_is : (v % 2 == 1) ≡ false → 0 + 2 * (v / 2) ≡ v
    even_is e = grind arith

pub first_number : (n v : ℕ) → v < 2 ^ n → number_on n (number_rail n v) ≡ v
first_number zero v h = omega (arith, h)
first_number (suc n) v h = ap (λ z. one_if (same_bit (is_odd v) true) + 2 * z) (first_number n (v / 2) (half_below v n h)) ∙ halves v (is_odd v) refl

pub first_numbers : (vars : List Var) → All IsSizedVar vars → (x : ℕ) → x < length vars
    → number_on (var_width vars x) (first_bits vars x) ≡ slice_index (map (λ (v : Var). v.first) vars) x
first_numbers [] each x less = absurd (let g : ⊥ = omega (arith, less) in g)
first_numbers (v ∷ vs) each zero less = first_number v.width v.first (All-head IsSizedVar v vs each).first
first_numbers (v ∷ vs) each (suc x) less = first_numbers vs (All-tail IsSizedVar v vs each) x (let g : x < length vs = omega (arith, less) in g)
