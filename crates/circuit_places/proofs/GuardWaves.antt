-- The guards of a choice as one wave, from the law of each guard.
use Rattle.std.proofs.Common.{◌≡◌, ◌≢◌, ℕ, zero, suc, ◌<◌, Bool, true, false, refl, sym, ap, ◌∙◌}
use Rattle.std.specs.Prelude.{not, ◌&&◌, ◌||◌, Some, is_some}
use Rattle.prs_core.specs.Deciding.{implies}
use Rattle.prs_core.specs.Moves.{bit_value, with_bit}
use Rattle.width_check.specs.Processes.{Formula, Process, Choices, no_choices, and_choice, choice_count, TypedProgram}
use Rattle.width_check.specs.Typing.{var_width}
use Rattle.width_check.specs.Reads.{reads}
use Rattle.function_blocks.specs.Rails.{Pairs, Rails, Single, low_pairs, turned_pairs, one_rule_fires, is_apart, value_on, neutral_on}
use Rattle.function_blocks.specs.Parts.{gate_count}
use Rattle.function_blocks.specs.Waves.{gate_rule, good, out_rail, full, empty}
use Rattle.circuit_places.specs.Heads.{all_neutral, all_valid, all_single, below}
use Rattle.circuit_places.specs.Circuit.{GuardCells, low_guards, GuardSpot, this_gate, other_gate, guard_head, guards_read, heads, guards_rule, guards_good, turned_guards}
use Rattle.circuit_places.proofs.HeadFacts.{fst_true, snd_true, both_true}
use Rattle.circuit_places.proofs.CoreMoves.{Guards, Arrives}
use Rattle.circuit_places.proofs.Places.{low_guards_quiet, low_neutral}
use Rattle.circuit_places.proofs.Meets.{GuardMeets, GuardsMeet}

-- the one bit of a guard: its rails say a number where one of them is high alone
one_single : (t f : Bool) → (t ≡ true → f ≡ true → ⊥) → not (t && f) ≡ true
one_single true true h = absurd (h refl refl)
one_single true false h = refl
one_single false f h = refl

one_full : (t f : Bool) → not (t && f) ≡ true → (t || f) ≡ true → is_some (with_bit (bit_value t f) (Some 0)) ≡ true
one_full true true h v = absurd (cc h)
one_full true false h v = refl
one_full false true h v = refl
one_full false false h v = absurd (cc v)

full_one : (t f : Bool) → is_some (with_bit (bit_value t f) (Some 0)) ≡ true → (t || f) ≡ true
full_one true f h = refl
full_one false true h = refl
full_one false false h = absurd (cc h)

implied : (a b : Bool) → (a ≡ true → b ≡ true) → implies a b ≡ true
implied true b f = f refl
implied false b f = refl

module _ (P : TypedProgram) (e : Formula) (meets : GuardMeets P e) (u : Pairs (gate_count e)) where
  abbrev T : Bool
  T = out_rail e u 0 true

  abbrev N : Bool
  N = out_rail e u 0 false

  head_full : not (T && N) ≡ true → (T || N) ≡ true → full e u ≡ true
  head_full h v = ap (λ n. is_some (value_on n (out_rail e u))) meets.one ∙ one_full T N h v

  full_head : full e u ≡ true → (T || N) ≡ true
  full_head h = full_one T N (ap (λ n. is_some (value_on n (out_rail e u))) (sym meets.one) ∙ h)

  head_empty : not T ≡ true → not N ≡ true → empty e u ≡ true
  head_empty h k = ap (λ n. neutral_on n (out_rail e u)) meets.one ∙ both_true (not T && not N) true (both_true (not T) (not N) h k) refl

  empty_head : empty e u ≡ true → (not T ≡ true) × (not N ≡ true)
  empty_head h =
      let z : ((not T && not N) && true) ≡ true = ap (λ n. neutral_on n (out_rail e u)) (sym meets.one) ∙ h in
      let y = fst_true (not T && not N) true z in
      (fst_true (not T) (not N) y, snd_true (not T) (not N) y)

  pub head_single : (bits : ℕ → Rails) (r : Bool) → good r bits e u ≡ true → not (T && N) ≡ true
  head_single bits r g = one_single T N (meets.known.one_rail r bits u 0 g)

below_same : (n : ℕ) (hs : Pairs n) → below n hs hs ≡ true
below_same zero hs = refl
below_same (suc n) hs = both_true (implies hs.0.t hs.0.t) _ (implied hs.0.t hs.0.t (λ e. e))
    (both_true (implies hs.0.f hs.0.f) _ (implied hs.0.f hs.0.f (λ e. e)) (below_same n hs.1))

pub guards_idle : (P : TypedProgram) (bits : ℕ → Rails) (choices : Choices) → GuardsMeet P choices → guards_good choices bits false (low_guards choices) ≡ true
guards_idle P bits no_choices h = refl
guards_idle P bits (and_choice g p more) h = both_true (good false bits g (low_pairs (gate_count g))) _ (h.0.known.idle bits) (guards_idle P bits more h.1)

module _ (P : TypedProgram) (bits : ℕ → Rails) (lone : Single bits) where
  all_begin_true : (choices : Choices) → GuardsMeet P choices → guards_good choices bits true (low_guards choices) ≡ true
  all_begin_true no_choices h = refl
  all_begin_true (and_choice g p more) h = both_true (good true bits g (low_pairs (gate_count g))) _ (h.0.known.begins bits) (all_begin_true more h.1)

  pub all_begin : (choices : Choices) → GuardsMeet P choices → (r : Bool) → guards_good choices bits r (low_guards choices) ≡ true
  all_begin choices h true = all_begin_true choices h
  all_begin choices h false = guards_idle P bits choices h

  pub all_own : (choices : Choices) → GuardsMeet P choices → (r : Bool) (x : GuardCells choices) (q : GuardSpot choices) → guards_good choices bits r x ≡ true
      → one_rule_fires (guards_rule choices bits r x q) ≡ true → guards_good choices bits r (turned_guards choices x q) ≡ true
  all_own (and_choice g p more) h r x (this_gate i one) f e = both_true (good r bits g (turned_pairs (gate_count g) x.0 i one)) _
      (h.0.known.own r bits x.0 i one lone (fst_true (good r bits g x.0) _ f) e) (snd_true (good r bits g x.0) _ f)
  all_own (and_choice g p more) h r x (other_gate q) f e = both_true (good r bits g x.0) _ (fst_true (good r bits g x.0) _ f)
      (all_own more h.1 r x.1 q (snd_true (good r bits g x.0) _ f) e)
  all_own no_choices h r x q f e = elim q [ ]

  pub all_firm : (choices : Choices) → GuardsMeet P choices → (r : Bool) (x : GuardCells choices) (q p : GuardSpot choices)
      → guards_good choices bits r x ≡ true → one_rule_fires (guards_rule choices bits r x q) ≡ true → p ≢ q →
      one_rule_fires (guards_rule choices bits r x p) ≡ true
      → one_rule_fires (guards_rule choices bits r (turned_guards choices x q) p) ≡ true
  all_firm (and_choice g p more) h r x (this_gate i one) (this_gate j side) f e ne z =
      h.0.known.firm r bits x.0 i one j side lone (λ (a : j ≡ i) (b : side ≡ one). ne (ap (λ k. this_gate k side) a ∙ ap (λ k. this_gate i k) b))
      (fst_true (good r bits g x.0) _ f) e z
  all_firm (and_choice g p more) h r x (this_gate i one) (other_gate s) f e ne z = z
  all_firm (and_choice g p more) h r x (other_gate q) (this_gate j side) f e ne z = z
  all_firm (and_choice g p more) h r x (other_gate q) (other_gate s) f e ne z =
      all_firm more h.1 r x.1 q s (snd_true (good r bits g x.0) _ f) e (λ (a : s ≡ q). ne (ap (λ k. other_gate k) a)) z
  all_firm no_choices h r x q p f e ne z = elim q [ ]

  pub all_apart : (choices : Choices) → GuardsMeet P choices → (r : Bool) (x : GuardCells choices) (q : GuardSpot choices) → guards_good choices bits r x ≡ true
      → is_apart (guards_rule choices bits r x q) ≡ true
  all_apart (and_choice g p more) h r x (this_gate i one) f = h.0.known.apart r bits x.0 i one lone (fst_true (good r bits g x.0) _ f)
  all_apart (and_choice g p more) h r x (other_gate q) f = all_apart more h.1 r x.1 q (snd_true (good r bits g x.0) _ f)
  all_apart no_choices h r x q f = elim q [ ]

  pub are_single : (choices : Choices) → GuardsMeet P choices → (x : GuardCells choices) → guards_good choices bits true x ≡ true
      → all_single (choice_count choices) (heads choices x) ≡ true
  are_single no_choices h x f = refl
  are_single (and_choice g p more) h x f = both_true (not ((guard_head g x.0).t && (guard_head g x.0).f)) _
      (head_single P g h.0 x.0 bits true (fst_true (good true bits g x.0) _ f)) (are_single more h.1 x.1 (snd_true (good true bits g x.0) _ f))

  pub all_ease : (choices : Choices) → GuardsMeet P choices → (x : GuardCells choices) → guards_good choices bits true x ≡ true
      → all_valid (choice_count choices) (heads choices x) ≡ true → guards_good choices bits false x ≡ true
  all_ease no_choices h x f v = refl
  all_ease (and_choice g p more) h x f v =
      let this = fst_true (good true bits g x.0) _ f in
      both_true (good false bits g x.0) _
      (h.0.known.ease bits x.0 lone this
      (head_full P g h.0 x.0 (head_single P g h.0 x.0 bits true this) (fst_true ((guard_head g x.0).t || (guard_head g x.0).f) _ v)))
      (all_ease more h.1 x.1 (snd_true (good true bits g x.0) _ f) (snd_true ((guard_head g x.0).t || (guard_head g x.0).f) _ v))

  pub all_full : (choices : Choices) → GuardsMeet P choices → (x : GuardCells choices) (q : GuardSpot choices) → guards_good choices bits true x ≡ true
      → all_valid (choice_count choices) (heads choices x) ≡ true → one_rule_fires (guards_rule choices bits true x q) ≡ false
  all_full (and_choice g p more) h x (this_gate i one) f v =
      let this = fst_true (good true bits g x.0) _ f in
      h.0.known.quiet_full bits x.0 lone this
      (head_full P g h.0 x.0 (head_single P g h.0 x.0 bits true this) (fst_true ((guard_head g x.0).t || (guard_head g x.0).f) _ v)) i one
  all_full (and_choice g p more) h x (other_gate q) f v =
      all_full more h.1 x.1 q (snd_true (good true bits g x.0) _ f) (snd_true ((guard_head g x.0).t || (guard_head g x.0).f) _ v)
  all_full no_choices h x q f v = elim q [ ]

  pub all_empty : (choices : Choices) → GuardsMeet P choices → (x : GuardCells choices) → guards_good choices bits false x ≡ true
      → all_neutral (choice_count choices) (heads choices x) ≡ true → x ≡ low_guards choices
  all_empty no_choices h x f z = refl
  all_empty (and_choice g p more) h x f z =
      let behind = snd_true (not (guard_head g x.0).t) _ z in
      ap (λ (y : Pairs (gate_count g)). (y, x.1)) (h.0.known.inner_empty bits x.0 (fst_true (good false bits g x.0) _ f)
      (head_empty P g h.0 x.0 (fst_true (not (guard_head g x.0).t) _ z) (fst_true (not (guard_head g x.0).f) _ behind)))
      ∙ ap (λ (y : GuardCells more). (low_pairs (gate_count g), y))
      (all_empty more h.1 x.1 (snd_true (good false bits g x.0) _ f) (snd_true (not (guard_head g x.0).f) _ behind))

  pub all_falls : (choices : Choices) → GuardsMeet P choices → (x : GuardCells choices) (q : GuardSpot choices) → guards_good choices bits false x ≡ true
      → one_rule_fires (guards_rule choices bits false x q) ≡ true
      → below (choice_count choices) (heads choices (turned_guards choices x q)) (heads choices x) ≡ true
  all_falls (and_choice g p more) h x (this_gate i one) f e =
      let after = turned_pairs (gate_count g) x.0 i one in
      let falls = h.0.known.falls bits x.0 i one lone (fst_true (good false bits g x.0) _ f) e 0 in
      both_true (implies (guard_head g after).t (guard_head g x.0).t) _ (implied (guard_head g after).t (guard_head g x.0).t (falls true))
      (both_true (implies (guard_head g after).f (guard_head g x.0).f) _ (implied (guard_head g after).f (guard_head g x.0).f (falls false))
      (below_same (choice_count more) (heads more x.1)))
  all_falls (and_choice g p more) h x (other_gate q) f e =
      both_true (implies (guard_head g x.0).t (guard_head g x.0).t) _ (implied (guard_head g x.0).t (guard_head g x.0).t (λ z. z))
      (both_true (implies (guard_head g x.0).f (guard_head g x.0).f) _ (implied (guard_head g x.0).f (guard_head g x.0).f (λ z. z))
      (all_falls more h.1 x.1 q (snd_true (good false bits g x.0) _ f) e))
  all_falls no_choices h x q f e = elim q [ ]

  abbrev pub guards_of : (choices : Choices) → GuardsMeet P choices → Guards (choice_count choices) (GuardCells choices) (GuardSpot choices)
  guards_of choices h = record {
    heads = heads choices;
    low = low_guards choices;
    turned = turned_guards choices;
    rule = guards_rule choices bits;
    good = guards_good choices bits;
    low_neutral = low_neutral choices;
    low_quiet = low_guards_quiet choices bits;
    begins = all_begin choices h;
    own = all_own choices h;
    firm = all_firm choices h;
    apart = all_apart choices h;
    single = are_single choices h;
    ease = all_ease choices h;
    full = all_full choices h;
    empty = all_empty choices h;
    falls = all_falls choices h;
  }

  -- where each bit of each variable has a rail high, the waves arrive
  module _ (valid : (v i : ℕ) → i < var_width P.vars v → (bits v i true || bits v i false) ≡ true) where
    all_up : (choices : Choices) → GuardsMeet P choices → (x : GuardCells choices) → guards_good choices bits true x ≡ true
        → ((q : GuardSpot choices) → one_rule_fires (guards_rule choices bits true x q) ≡ false) → all_valid (choice_count choices) (heads choices x) ≡ true
    all_up no_choices h x f n = refl
    all_up (and_choice g p more) h x f n = both_true ((guard_head g x.0).t || (guard_head g x.0).f) _
        (full_head P g h.0 x.0 (h.0.known.rest_up P.vars bits x.0 h.0.reads (λ v i r less. valid v i less) (fst_true (good true bits g x.0) _ f)
        (λ i one. n (this_gate i one))))
        (all_up more h.1 x.1 (snd_true (good true bits g x.0) _ f) (λ q. n (other_gate q)))

    all_down : (choices : Choices) → GuardsMeet P choices → (x : GuardCells choices) → guards_good choices bits false x ≡ true
        → ((q : GuardSpot choices) → one_rule_fires (guards_rule choices bits false x q) ≡ false) → all_neutral (choice_count choices) (heads choices x) ≡ true
    all_down no_choices h x f n = refl
    all_down (and_choice g p more) h x f n =
        let r = empty_head P g h.0 x.0 (h.0.known.rest_down bits x.0 (fst_true (good false bits g x.0) _ f) (λ i one. n (this_gate i one))) in
        both_true (not (guard_head g x.0).t) _ r.0
        (both_true (not (guard_head g x.0).f) _ r.1 (all_down more h.1 x.1 (snd_true (good false bits g x.0) _ f) (λ q. n (other_gate q))))

    pub guards_arrive : (choices : Choices) (h : GuardsMeet P choices) → Arrives (guards_of choices h)
    guards_arrive choices h = record { up = all_up choices h; down = all_down choices h }

or_so : (a b : Bool) → b ≡ true → (a || b) ≡ true
or_so true b h = refl
or_so false b h = h

both_spots : (g : Formula) (p : Process) (more : Choices) (bits now : ℕ → Rails) (r : Bool) (x : GuardCells (and_choice g p more))
    → ((i : ℕ) (one : Bool) → gate_rule g bits r x.0 i one ≡ gate_rule g now r x.0 i one)
    → ((q : GuardSpot more) → guards_rule more bits r x.1 q ≡ guards_rule more now r x.1 q)
    → (q : GuardSpot (and_choice g p more)) → guards_rule (and_choice g p more) bits r x q ≡ guards_rule (and_choice g p more) now r x q
both_spots g p more bits now r x a b (this_gate i one) = a i one
both_spots g p more bits now r x a b (other_gate q) = b q

-- bits move that no guard under a request reads; without one none does
pub guards_unread : (P : TypedProgram) (bits now : ℕ → Rails) (r : Bool) (choices : Choices) → GuardsMeet P choices → (x : GuardCells choices)
    → ((v i : ℕ) (one : Bool) → guards_read choices v ≡ true → bits v i one ≡ now v i one)
    → (guards_good choices bits r x ≡ guards_good choices now r x) × ((q : GuardSpot choices) → guards_rule choices bits r x q ≡ guards_rule choices now r x q)
guards_unread P bits now r no_choices h x same = (refl, λ q. elim q [ ])
guards_unread P bits now r (and_choice g p more) h x same =
    let a = h.0.known.unread r bits now x.0 (λ v i one z. same v i one (ap (λ b. b || guards_read more v) z)) in
    let b = guards_unread P bits now r more h.1 x.1 (λ v i one z. same v i one (or_so (reads v g) (guards_read more v) z)) in
    (ap (λ y. y && guards_good more bits r x.1) a.0 ∙ ap (λ y. good r now g x.0 && y) b.0, both_spots g p more bits now r x a.1 b.1)

pub guards_asleep : (P : TypedProgram) (bits now : ℕ → Rails) (choices : Choices) → GuardsMeet P choices → (x : GuardCells choices)
    → (guards_good choices bits false x ≡ guards_good choices now false x)
    × ((q : GuardSpot choices) → guards_rule choices bits false x q ≡ guards_rule choices now false x q)
guards_asleep P bits now no_choices h x = (refl, λ q. elim q [ ])
guards_asleep P bits now (and_choice g p more) h x =
    let a = h.0.known.asleep bits now x.0 in
    let b = guards_asleep P bits now more h.1 x.1 in
    (ap (λ y. y && guards_good more bits false x.1) a.0 ∙ ap (λ y. good false now g x.0 && y) b.0, both_spots g p more bits now false x a.1 b.1)
