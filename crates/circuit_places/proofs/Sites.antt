-- The rails of a channel's sites, and the channel's own that are their merges.
use Rattle.std.proofs.Common.{◌≡◌, ℕ, ◌==◌, Bool, true, false, List, [], ◌∷◌, ◌++◌, refl, sym, ap, ◌∙◌}
use Rattle.std.specs.Prelude.{not, ◌&&◌, ◌||◌}
use Rattle.std.specs.List.{list_any, list_all}
use Rattle.width_check.specs.Processes.{Formula, Process, skipping, assigning, sending, receiving, in_turn, side_by_side, choosing, repeating, Processes, no_members, and_member, Choices, no_choices, and_choice}
use Rattle.circuit_places.specs.Lines.{Line, of_channel, of_var, same_line, Rails}
use Rattle.circuit_places.specs.Circuit.{low_port, rails_of_port, takers_of_port, takers, branch_takers, turn_takers, low_site, rails_of_site, Pairs, low_pairs, gate_count, Cells, TurnCells, BranchCells, low, low_turn, low_branches, one_rule_fires, is_apart, turns, out_rail, site_rails, turn_rails, branch_rails, ChoiceCells, low_choices, choice_rails, choice_takers}
use Rattle.circuit_places.specs.Whole.{lows_only, merged}
use Rattle.circuit_places.proofs.RailLemmas.{low_out}
use Rattle.circuit_places.proofs.Meets.{sends, turn_sends, choice_sends, receives, each_receives, choice_receives}
use Rattle.circuit_places.proofs.Everywhere.{GoesUp, guarded_everywhere}
use Rattle.circuit_places.proofs.Places.{Mode, Shown, none_shown, acks, site_of, port_of, GuardedAt, guarded_cells, guarded_shown}

abbrev pub any : List Bool → Bool
any xs = list_any (λ b. b) xs

abbrev pub is_nil : List Bool → Bool
is_nil [] = true
is_nil (x ∷ xs) = false

pub any_append : (xs ys : List Bool) → any (xs ++ ys) ≡ (any xs || any ys)
any_append [] ys = refl
any_append (true ∷ xs) ys = refl
any_append (false ∷ xs) ys = any_append xs ys

nil_append : (xs ys : List Bool) → is_nil (xs ++ ys) ≡ (is_nil xs && is_nil ys)
nil_append [] ys = refl
nil_append (x ∷ xs) ys = refl

pub any_not_nil : (xs : List Bool) → any xs ≡ true → is_nil xs ≡ false
any_not_nil [] h = absurd (cc h)
any_not_nil (x ∷ xs) h = refl

all_not : (xs : List Bool) → list_all not xs ≡ not (any xs)
all_not [] = refl
all_not (true ∷ xs) = refl
all_not (false ∷ xs) = all_not xs

pub low_is : (xs : List Bool) → is_nil xs ≡ false → lows_only xs ≡ not (any xs)
low_is [] h = absurd (cc h)
low_is (true ∷ xs) h = refl
low_is (false ∷ xs) h = all_not xs

pub merged_can : (now : Bool) (xs : List Bool) → (now ≡ true → is_nil xs ≡ false) → one_rule_fires (merged now xs) ≡ turns now (any xs) (not (any xs))
merged_can true xs h = low_is xs (h refl)
merged_can false xs h = refl

pub merged_apart : (now : Bool) (xs : List Bool) → is_apart (merged now xs) ≡ true
merged_apart now [] = refl
merged_apart now (true ∷ xs) = refl
merged_apart now (false ∷ xs) = ap (λ b. not (any xs && b)) (all_not xs) ∙ here (any xs)
  where
    here : (b : Bool) → not (b && not b) ≡ true
    here true = refl
    here false = refl

-- whether one of the values is high, and whether there is any
record Gathered (xs : List Bool) (high some : Bool) : Type 0 where
  high_is : any xs ≡ high
  some_is : is_nil xs ≡ not some

nothing : Gathered [] false false
nothing = record { high_is = refl; some_is = refl }

joined : {xs ys : List Bool} {a b s t : Bool} → Gathered xs a s → Gathered ys b t → Gathered (xs ++ ys) (a || b) (s || t)
joined {xs = xs} {ys = ys} {a = a} {s = s} {t = t} f g = record {
  high_is = any_append xs ys ∙ (ap (λ z. z || any ys) f.high_is ∙ ap (λ z. a || z) g.high_is);
  some_is = nil_append xs ys ∙ (ap (λ z. z && is_nil ys) f.some_is ∙ (ap (λ z. not s && z) g.some_is ∙ neither s t));
}
  where
    neither : (s t : Bool) → (not s && not t) ≡ not (s || t)
    neither true t = refl
    neither false t = refl

or_false : (b : Bool) → (b || false) ≡ b
or_false true = refl
or_false false = refl

joined_low : {xs ys : List Bool} {a s t : Bool} → Gathered xs a s → Gathered ys false t → Gathered (xs ++ ys) a (s || t)
joined_low {a = a} f g = let j = joined f g in record { high_is = j.high_is ∙ or_false a; some_is = j.some_is }

-- of one list alone
alone : {xs : List Bool} {a s : Bool} → Gathered xs a s → Gathered xs a (s || false)
alone {s = s} f = record { high_is = f.high_is; some_is = f.some_is ∙ ap not (sym (or_false s)) }

-- of a site, and of a receive
of_rails : (b : Bool) (e : Formula) (a : Bool) (u : Pairs (gate_count e)) (i : ℕ) (one : Bool)
    → Gathered (rails_of_site b e (site_of e a u) i one) (b && out_rail e u i one) b
of_rails true e a u i one = record { high_is = or_false (out_rail e u i one); some_is = refl }
of_rails false e a u i one = nothing

of_low_rails : (b : Bool) (e : Formula) (i : ℕ) (one : Bool) → Gathered (rails_of_site b e (low_site e) i one) false b
of_low_rails true e i one = record { high_is = or_false (out_rail e (low_pairs (gate_count e)) i one) ∙ low_out e i one; some_is = refl }
of_low_rails false e i one = nothing

of_taken : (b a l : Bool) (q : Rails) (i : ℕ) (one : Bool) → Gathered (rails_of_port b (port_of a l q) i one) (b && q i one) b
of_taken true a l q i one = record { high_is = or_false (q i one); some_is = refl }
of_taken false a l q i one = nothing

of_low_taken : (b : Bool) (i : ℕ) (one : Bool) → Gathered (rails_of_port b low_port i one) false b
of_low_taken true i one = record { high_is = refl; some_is = refl }
of_low_taken false i one = nothing

of_taker : (b a l : Bool) (q : Rails) → Gathered (takers_of_port b (port_of a l q)) (b && l) b
of_taker true a l q = record { high_is = or_false l; some_is = refl }
of_taker false a l q = nothing

of_low_taker : (b : Bool) → Gathered (takers_of_port b low_port) false b
of_low_taker true = record { high_is = refl; some_is = refl }
of_low_taker false = nothing

-- Of the sites of each rail one is high where the place holds it, and there are sites of the lines that the statement sends on. Of the nodes that say
-- that a receive has stored one is high where the place has, and there are some where the statement receives.
record Told (sites : Line → ℕ → Bool → List Bool) (heard : ℕ → List Bool) (x : Shown) (sent : Line → Bool) (had : ℕ → Bool) : Type 0 where
  rails : (k : Line) (i : ℕ) (one : Bool) → Gathered (sites k i one) (x.offer k i one) (sent k)
  takes : (c : ℕ) → Gathered (heard c) (x.take c) (had c)

abbrev IsTold : (p : Process) → Cells p → Shown → Type 0
IsTold p x s = Told (λ k i one. site_rails p x k i one) (λ c. takers p x c) s (λ k. sends p k) (λ c. receives p c)

abbrev IsTurnTold : (members : Processes) → TurnCells members → Shown → Type 0
IsTurnTold ms x s = Told (λ k i one. turn_rails ms x k i one) (λ c. turn_takers ms x c) s (λ k. turn_sends ms k) (λ c. each_receives ms c)

abbrev AreTold : (members : Processes) → BranchCells members → Shown → Type 0
AreTold ms x s = Told (λ k i one. branch_rails ms x k i one) (λ c. branch_takers ms x c) s (λ k. turn_sends ms k) (λ c. each_receives ms c)

abbrev IsChoiceTold : (choices : Choices) → ChoiceCells choices → Shown → Type 0
IsChoiceTold cs x s = Told (λ k i one. choice_rails cs x k i one) (λ c. choice_takers cs x c) s (λ k. choice_sends cs k) (λ c. choice_receives cs c)

-- at rest
mutual
  low_told : (p : Process) → IsTold p (low p) none_shown
  low_told skipping = record { rails = λ k i one. nothing; takes = λ c. nothing }
  low_told (assigning y at e) = record { rails = λ k i one. of_low_rails (same_line (of_var y) k) e i one; takes = λ c. nothing }
  low_told (sending d at e) = record { rails = λ k i one. of_low_rails (same_line (of_channel d) k) e i one; takes = λ c. nothing }
  low_told (receiving d at y to) = record { rails = λ k i one. of_low_taken (same_line (of_var y) k) i one; takes = λ c. of_low_taker (d == c) }
  low_told (in_turn members) = let h = low_turn_told members in record { rails = h.rails; takes = h.takes }
  low_told (side_by_side members) = let h = low_branches_told members in record { rails = h.rails; takes = h.takes }
  low_told (repeating p) = let h = low_told p in record { rails = h.rails; takes = h.takes }
  low_told (choosing false choices) = let h = low_choice_told choices in record { rails = h.rails; takes = h.takes }
  low_told (choosing true choices) = let h = low_choice_told choices in record { rails = h.rails; takes = h.takes }

  low_choice_told : (choices : Choices) → IsChoiceTold choices (low_choices choices) none_shown
  low_choice_told no_choices = record { rails = λ k i one. nothing; takes = λ c. nothing }
  low_choice_told (and_choice g p more) =
      let h = low_told p in
      let j = low_choice_told more in
      record { rails = λ k i one. joined (h.rails k i one) (j.rails k i one); takes = λ c. joined (h.takes c) (j.takes c) }

  low_branches_told : (members : Processes) → AreTold members (low_branches members) none_shown
  low_branches_told no_members = record { rails = λ k i one. nothing; takes = λ c. nothing }
  low_branches_told (and_member p more) =
      let h = low_told p in
      let j = low_branches_told more in
      record { rails = λ k i one. joined (h.rails k i one) (j.rails k i one); takes = λ c. joined (h.takes c) (j.takes c) }

  low_turn_told : (members : Processes) → IsTurnTold members (low_turn members) none_shown
  low_turn_told no_members = record { rails = λ k i one. nothing; takes = λ c. nothing }
  low_turn_told (and_member p no_members) = let h = low_told p in
      record { rails = λ k i one. alone (h.rails k i one); takes = λ c. alone (h.takes c) }
  low_turn_told (and_member p (and_member q more)) =
      let h = low_told p in
      let j = low_turn_told (and_member q more) in
      record { rails = λ k i one. joined (h.rails k i one) (j.rails k i one); takes = λ c. joined (h.takes c) (j.takes c) }

told : GoesUp (λ p r x v. IsTold p x v.shown) (λ ms r x v. IsTurnTold ms x v.shown) (λ ms x v. AreTold ms x v.shown)
    (λ cs s y v. IsChoiceTold cs y v.shown) (λ cs s y v. IsChoiceTold cs y v.shown)
told = record {
  silent = λ p f. low_told p;
  skip = λ r a f. record { rails = λ k i one. nothing; takes = λ c. nothing };
  assign = λ y at e m u h. record { rails = λ k i one. of_rails (same_line (of_var y) k) e (acks m) u i one; takes = λ c. nothing };
  send = λ d at e m u h. record { rails = λ k i one. of_rails (same_line (of_channel d) k) e (acks m) u i one; takes = λ c. nothing };
  receive = λ d y at to m l q h. record {
    rails = λ k i one. of_taken (same_line (of_var y) k) (acks m) l q i one;
    takes = λ c. of_taker (d == c) (acks m) l q;
  };
  turn = λ ms r x v h. record { rails = h.rails; takes = h.takes };
  turn_silent = λ ms f. low_turn_told ms;
  last = λ p r x v h. record { rails = λ k i one. alone (h.rails k i one); takes = λ c. alone (h.takes c) };
  first = λ p q more r x v n h. let j = low_turn_told (and_member q more) in
      record { rails = λ k i one. joined_low (h.rails k i one) (j.rails k i one); takes = λ c. joined_low (h.takes c) (j.takes c) };
  later = λ p q more r x y v low j. let h = low (λ env. Unit {0}) in
      record { rails = λ k i one. joined (h.rails k i one) (j.rails k i one); takes = λ c. joined (h.takes c) (j.takes c) };
  side = λ ms r x t v h. record { rails = h.rails; takes = h.takes };
  none = λ f. record { rails = λ k i one. nothing; takes = λ c. nothing };
  beside = λ {p} {more} {k} {ks} g b h j. record { rails = λ k i one. joined (h.rails k i one) (j.rails k i one); takes = λ c. joined (h.takes c) (j.takes c) };
  body = λ p r b x v h. record { rails = h.rails; takes = h.takes };
  choice = λ cs r x v h. record { rails = h.rails; takes = h.takes };
  turning = λ cs r x v h. record { rails = h.rails; takes = h.takes };
  guards = λ cs asked f. let h = low_choice_told cs in record { rails = h.rails; takes = h.takes };
  inside = λ cs s y v h. h;
  this = λ g p more r x v h. let j = low_choice_told more in
      record { rails = λ k i one. joined_low (h.rails k i one) (j.rails k i one); takes = λ c. joined_low (h.takes c) (j.takes c) };
  others = λ g p more s y v j. let h = low_told p in
      record { rails = λ k i one. joined (h.rails k i one) (j.rails k i one); takes = λ c. joined (h.takes c) (j.takes c) };
}

guarded_told : {p : Process} {m : Mode} (g : GuardedAt p m) → IsTold p (guarded_cells g).inner (guarded_shown g)
guarded_told g = guarded_everywhere (λ p r x v. IsTold p x v.shown) (λ ms r x v. IsTurnTold ms x v.shown) (λ ms x v. AreTold ms x v.shown)
    (λ cs s y v. IsChoiceTold cs y v.shown) (λ cs s y v. IsChoiceTold cs y v.shown) told g

pub guarded_offered : {p : Process} {m : Mode} (g : GuardedAt p m) (k : Line) (i : ℕ) (one : Bool)
    → any (site_rails p (guarded_cells g).inner k i one) ≡ (guarded_shown g).offer k i one
guarded_offered g k i one = ((guarded_told g).rails k i one).high_is

pub guarded_taken : {p : Process} {m : Mode} (g : GuardedAt p m) (c : ℕ) → any (takers p (guarded_cells g).inner c) ≡ (guarded_shown g).take c
guarded_taken g c = ((guarded_told g).takes c).high_is

-- which rails have sites, and which channels receives, doesn't change
pub same_sites : {p : Process} {m : Mode} (g : GuardedAt p m) (k : Line) (i : ℕ) (one : Bool)
    → is_nil (site_rails p (guarded_cells g).inner k i one) ≡ is_nil (site_rails p (low p) k i one)
same_sites {p = p} g k i one = ((guarded_told g).rails k i one).some_is ∙ sym (((low_told p).rails k i one).some_is)

pub same_takers : {p : Process} {m : Mode} (g : GuardedAt p m) (c : ℕ) → is_nil (takers p (guarded_cells g).inner c) ≡ is_nil (takers p (low p) c)
same_takers {p = p} g c = ((guarded_told g).takes c).some_is ∙ sym (((low_told p).takes c).some_is)
