-- The law of an expression's two waves.
use Rattle.std.proofs.Common.{◌≡◌, ℕ, zero, ◌+◌, ◌/◌, ◌%◌, ◌^◌, ◌<◌, ◌==◌, Bool, true, false, List, [], ◌∷◌, length, get_or, refl, sym, ap, ◌∙◌, arith}
use Rattle.std.specs.Prelude.{◌&&◌, ◌||◌, Some, is_some}
use Rattle.std.specs.List.{list_all}
use Rattle.prs_core.specs.Deciding.{left_of, right_of, both_of}
use Rattle.width_check.specs.Processes.{Formula}
use Rattle.width_check.specs.Values.{width_of, IsWellFormed}
use Rattle.width_check.specs.Typing.{var_width}
use Rattle.function_blocks.specs.Rails.{one_rule_fires, Pairs, low_pairs, pair_in, turned_pairs, Rails, value_on, neutral_on, Single}
use Rattle.function_blocks.specs.Parts.{Input, BlockPart, fixed, read_bit, made, gate_count, outs_of, block_parts}
use Rattle.function_blocks.specs.BitsRead.{EachRead}
use Rattle.function_blocks.specs.Waves.{inputs_taken, all_fit, cold, gate_rule, good, out_rail, full, empty, Waves}
use Rattle.function_blocks.proofs.Guards.{arrived, bits_in}
use Rattle.function_blocks.proofs.GateLists.{singles, there_in, own_all, grows_all, law_all, apart_all, firm_all, cold_stays, all_arrived, named_in, arrived_all, arrived_at, all_low, low_in, begins_in, idle_in, cold_low, ease_all, answered_all, quiet_in}
use Rattle.function_blocks.proofs.GateRest.{Only, only_more, only_all, Alike, fit_same, rule_same, earlier, rest_all, agrees_all}
use Rattle.function_blocks.proofs.PartSizes.{outs_length, parts_length}
use Rattle.function_blocks.proofs.Ordered.{below, outs_below, parts_ordered}
use Rattle.function_blocks.proofs.Used.{member, parts_used}
use Rattle.function_blocks.proofs.Readings.{parts_only, parts_within, parts_read}
use Rattle.function_blocks.proofs.BitNumbers.{number_of}
use Rattle.function_blocks.proofs.PartValues.{value_at, bits_length}
use Rattle.function_blocks.proofs.Right.{result_bits, agrees_with, right_all, right_out, bit_of, head_of}
use Rattle.function_blocks.proofs.ValueAgrees.{value_agrees}
use Rattle.function_blocks.proofs.Outputs.{neutral_arrived, arrived_neutral, full_arrived, number_told, one_out, wide_out, rails_up}

pub only_both : (P Q : ℕ → ℕ → Type 0) (gs : List BlockPart) → Only P gs → Only Q gs → Only (λ x i. P x i × Q x i) gs
only_both P Q [] h k = tt
only_both P Q (fixed v ∷ gs) h k = only_both P Q gs h k
only_both P Q (read_bit x i ∷ gs) h k = ((h.0, k.0), only_both P Q gs h.1 k.1)
only_both P Q (made f i more ∷ gs) h k = only_both P Q gs h k

module _ (e : Formula) (w : IsWellFormed e) where
  abbrev n : ℕ
  n = gate_count e

  abbrev gs : List BlockPart
  gs = block_parts e 0

  abbrev us : List Input
  us = outs_of e 0

  full_at : (u : Pairs n) → full e u ≡ true → list_all (arrived true) (inputs_taken (pair_in n u) us) ≡ true
  full_at u f = full_arrived (pair_in n u) us (ap (λ k. is_some (value_on k (out_rail e u))) (outs_length e 0 w) ∙ f)

  empty_at : (u : Pairs n) → empty e u ≡ true → list_all (arrived false) (inputs_taken (pair_in n u) us) ≡ true
  empty_at u f = neutral_arrived (pair_in n u) us (ap (λ k. neutral_on k (out_rail e u)) (outs_length e 0 w) ∙ f)

  inner : (r : Bool) (bits : ℕ → Rails) (u : Pairs n) → good r bits e u ≡ true → list_all (arrived r) (inputs_taken (pair_in n u) us) ≡ true →
      all_arrived r n u ≡ true
  inner r bits u h o = arrived_all r bits (member us) gs n u (left_of _ _ h) (parts_used e 0 w) (λ k m. named_in r (pair_in n u) k us m o)

  outer : (r : Bool) (u : Pairs n) → all_arrived r n u ≡ true → list_all (arrived r) (inputs_taken (pair_in n u) us) ≡ true
  outer r u a =
      earlier r (pair_in n u) n (λ k l. arrived_at r n u k a l) us (let z : zero + n ≡ n = omega arith in ap (λ k. below k us) (sym z) ∙ outs_below e 0 w)

  pub told : (bits : ℕ → Rails) (u : Pairs n) → good true bits e u ≡ true → list_all (arrived true) (inputs_taken (pair_in n u) us) ≡ true
      → value_on (width_of e) (out_rail e u) ≡ Some (number_of (bits_in (λ k. (pair_in n u k).t) us))
  told bits u h o =
      ap (λ k. value_on k (out_rail e u)) (sym (outs_length e 0 w)) ∙ number_told (pair_in n u) (singles true (pair_in n u) bits gs n u (left_of _ _ h)) us o

  right_rail : (bits : ℕ → Rails) (u : Pairs n) → Single bits → good true bits e u ≡ true → (i : ℕ) (one : Bool) → out_rail e u i one ≡ true
      → get_or (bits_in (result_bits bits gs) us) i false ≡ one
  right_rail bits u x h i one p =
      let z : zero + n ≡ n = omega arith in
      right_out (result_bits bits gs) (pair_in n u) n (singles true (pair_in n u) bits gs n u (left_of _ _ h))
      (right_all (result_bits bits gs) bits gs n u x (agrees_with bits gs (parts_ordered e 0 w)) (parts_ordered e 0 w) (left_of _ _ h)) us
      (ap (λ k. below k us) (sym z) ∙ outs_below e 0 w) i one p

  -- while the request is high only the bits that are read matter
  pub read_alone : (r : Bool) (bits now : ℕ → Rails) (u : Pairs n) → EachRead (λ x i. (one : Bool) → bits x i one ≡ now x i one) e
      → (good r bits e u ≡ good r now e u) × ((k : ℕ) (one : Bool) → gate_rule e bits r u k one ≡ gate_rule e now r u k one)
  read_alone r bits now u f =
      let o = only_more _ (Alike r bits now) (λ x i h one. ap (λ z. r && z) (h one)) gs (parts_read _ e 0 f) in
      (ap (λ z. z && cold gs n u) (fit_same r (pair_in n u) bits now gs n u o), rule_same r (pair_in n u) bits now gs n u o)

  -- and only these are waited for
  pub rest_read : (bits : ℕ → Rails) (u : Pairs n) → EachRead (λ x i. (bits x i true || bits x i false) ≡ true) e → good true bits e u ≡ true
      → ((k : ℕ) (one : Bool) → one_rule_fires (gate_rule e bits true u k one) ≡ false) → full e u ≡ true
  rest_read bits u y h m =
      let a = rest_all true bits gs n u (left_of _ _ h) (parts_ordered e 0 w) (parts_read _ e 0 y) m in
      ap is_some (told bits u h (outer true u a))

  pub expression_holds : Waves e
  expression_holds = record {
    begins = λ bits. both_of _ _ (begins_in (pair_in n (low_pairs n)) bits gs n (parts_length e 0 w)) (cold_low gs n);
    idle = λ bits. both_of _ _ (idle_in (pair_in n (low_pairs n)) bits (low_in n) gs n (parts_length e 0 w)) (cold_low gs n);
    ease = λ bits u x h f. both_of _ _ (ease_all bits gs n u x (left_of _ _ h) (inner true bits u h (full_at u f)))
        (right_of (all_fit true (pair_in n u) bits gs n u) _ h);
    own = λ r bits u k one x h m. both_of _ _ (own_all r bits gs n u k one x (left_of _ _ h) m)
        (cold_stays r (pair_in n u) bits gs n u k one (right_of (all_fit r (pair_in n u) bits gs n u) _ h) m);
    law = λ r bits u k one x h m. law_all r bits gs n u k one x (left_of _ _ h) m;
    firm = λ r bits u k one j side x ne h m l. firm_all r bits gs n u k one j side x ne (left_of _ _ h) m l;
    apart = λ r bits u k one x h. apart_all r bits gs n u k one x (left_of _ _ h);
    there = λ r bits u k one m. there_in r (pair_in n u) bits gs n u k one m;
    unread = λ r bits now u f.
        let o = parts_only (Alike r bits now) e 0 (λ x i h one. ap (λ z. r && z) (f x i one h)) in
        (ap (λ z. z && cold gs n u) (fit_same r (pair_in n u) bits now gs n u o), rule_same r (pair_in n u) bits now gs n u o);
    asleep = λ bits now u.
        let o = only_all (Alike false bits now) (λ x i one. refl) gs in
        (ap (λ z. z && cold gs n u) (fit_same false (pair_in n u) bits now gs n u o), rule_same false (pair_in n u) bits now gs n u o);
    quiet_full = λ bits u x h f k one. answered_all bits gs n u k one x (left_of _ _ h) (inner true bits u h (full_at u f));
    inner_full =
        λ bits u h f k l. both_of _ _ (arrived_at true n u k (inner true bits u h (full_at u f)) l) (singles true (pair_in n u) bits gs n u (left_of _ _ h) k);
    quiet_low = λ bits k one. quiet_in (pair_in n (low_pairs n)) bits (low_in n) gs n k one;
    inner_empty = λ bits u h f. all_low n u (inner false bits u h (empty_at u f));
    rest_up = λ vars bits u r y h m.
        let o = only_both _ _ gs (parts_only (λ x i. i < var_width vars x → (bits x i true || bits x i false) ≡ true) e 0 (λ x i h. y x i h))
        (parts_within vars e 0 w r) in
        let a = rest_all true bits gs n u (left_of _ _ h) (parts_ordered e 0 w) (only_more _ _ (λ x i both. both.0 both.1) gs o) m in
        ap is_some (told bits u h (outer true u a));
    rest_down = λ bits u h m.
        let a = rest_all false bits gs n u (left_of _ _ h) (parts_ordered e 0 w) (right_of (all_fit false (pair_in n u) bits gs n u) _ h) m in
        ap (λ k. neutral_on k (out_rail e u)) (sym (outs_length e 0 w)) ∙ arrived_neutral (pair_in n u) us (outer false u a);
    one_rail = λ r bits u i h p q. one_out (pair_in n u) (singles r (pair_in n u) bits gs n u (left_of _ _ h)) us i p q;
    wide = λ u i one p. let l : i < length us = wide_out (pair_in n u) us i one p in let z = outs_length e 0 w in omega (arith, l, z);
    rises = λ bits u k one x h m i side p. rails_up (pair_in n u) (pair_in n (turned_pairs n u k one)) (grows_all true bits gs n u k one x (left_of _ _ h) m) us
        i side p;
    falls = λ bits u k one x h m i side p. rails_up (pair_in n (turned_pairs n u k one)) (pair_in n u) (grows_all false bits gs n u k one x (left_of _ _ h) m)
        us i side p;
    right = λ vars bits u r x h i one p.
        let v = result_bits bits gs in
        let is = value_at v bits vars e 0 w r (agrees_with bits gs (parts_ordered e 0 w)) in
        ap (λ k. k / 2 ^ i % 2 == 1) (sym is) ∙ (bit_of (bits_in v us) i ∙ right_rail bits u x h i one p);
    head = λ vars bits u z r x h one p.
        let v = result_bits bits gs in
        let is = value_at v bits vars e 0 w r (agrees_with bits gs (parts_ordered e 0 w)) in
        ap (λ k. k == 1) (sym is) ∙ (head_of (bits_in v us) (bits_length v bits us ∙ (outs_length e 0 w ∙ z)) ∙ right_rail bits u x h 0 one p);
    agrees = λ f g h. value_agrees f g e h;
    value_is = λ vars bits u r x h f.
        let o = full_at u f in
        told bits u h o ∙ ap (λ (k : ℕ). Some k) (value_at (λ k. (pair_in n u k).t) bits vars e 0 w r
        (agrees_all bits gs n u x (left_of _ _ h) (inner true bits u h o)));
  }
