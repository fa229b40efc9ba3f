-- Two circuits whose nodes have the same values, one by one: what the guards say is the same in both.
use Rattle.std.proofs.Common.{◌≡◌, ℕ, zero, suc, ◌+◌, ◌<◌, ◌≤◌, Bool, true, false, List, [], ◌∷◌, map, length, get_or, refl, sym, ap, ◌∙◌, subst, arith}
use Rattle.std.specs.Prelude.{not, ◌&&◌, ◌||◌}
use Rattle.std.specs.List.{list_any}
use Rattle.prs_core.specs.Nets.{NodeRules, is_high, is_low, one_term}
use Rattle.prs_core.specs.Pairs.{Pair, pair_of, pairs_from, no_rules, or_of}
use Rattle.prs_core.specs.Sites.{site_answer}
use Rattle.prs_core.specs.Moves.{guard_holds}
use Rattle.width_check.specs.Processes.{Formula, TypedProgram}
use Rattle.width_check.specs.Values.{IsWellFormed, width_of}
use Rattle.width_check.specs.Typing.{ReadsFrom, var_width}
use Rattle.handshake_expand.specs.Layout.{formula_size, block_size}
use Rattle.cell_channel.specs.Ends.{port_rules}
use Rattle.cell_variable.specs.Variables.{all_written, variable_rules}
use Rattle.function_blocks.specs.Rails.{Pairs, side_of, pair_in}
use Rattle.function_blocks.specs.Expressions.{HasBits, read_bits, formula_rules, formula_result}
use Rattle.function_blocks.specs.Listed.{node_of, rail_place}
use Rattle.function_blocks.proofs.Sizes.{rules_length}
use Rattle.function_blocks.proofs.PartSizes.{count_doubled}
use Rattle.function_blocks.proofs.GatesTold.{listed}
use Rattle.circuit_places.proofs.Meets.{read_declared}
use Rattle.circuit_places.specs.Lines.{Rails}
use Rattle.circuit_places.specs.Circuit.{gate_count}
use Rattle.circuit_places.specs.Whole.{lows_only}
use Rattle.net_compose.specs.Translation.{block_bits, q_rules}
use Rattle.net_compose.proofs.FlatTrees.{RulesAlike}
use Rattle.net_compose.proofs.FlatCells.{Rail, rail_of, rail_place_lt}
use Rattle.net_compose.proofs.FlatRules.{or_up, or_down}
use Rattle.net_compose.proofs.FlatSites.{at_site}
use Rattle.net_compose.proofs.FlatBlocks.{Part, a_bit, a_put, a_mark, a_joint, offset, IsPart, offset_lt, PartAt, part_of, BlockIs, bit_says, put_says, mark_says, joint_says, written_is, bit_number, length-variable_rules}

-- gates of these values
abbrev gates_of : (n : ℕ) → (ℕ → Bool → Bool) → Pairs n
gates_of zero r = tt
gates_of (suc n) r = (record { t = r 0 true; f = r 0 false }, gates_of n (λ k. r (suc k)))

gates_are : (n : ℕ) (r : ℕ → Bool → Bool) (k : ℕ) (one : Bool) → k < n → side_of (pair_in n (gates_of n r) k) one ≡ r k one
gates_are zero r k one h = absurd (omega (arith, h))
gates_are (suc n) r zero true h = refl
gates_are (suc n) r zero false h = refl
gates_are (suc n) r (suc k) one h = gates_are n (λ j. r (suc j)) k one (omega (arith, h))

module _ (v u : ℕ → Bool) where
  -- guards of one term
  pub same_high : (a c : ℕ) → v a ≡ u c → guard_holds v (one_term (is_high a ∷ [])) ≡ guard_holds u (one_term (is_high c ∷ []))
  same_high a c e = ap (λ z. (z && true) || false) e

  pub same_low : (a c : ℕ) → v a ≡ u c → guard_holds v (one_term (is_low a ∷ [])) ≡ guard_holds u (one_term (is_low c ∷ []))
  same_low a c e = ap (λ z. (not z && true) || false) e

  pub same_highs : (a b c d : ℕ) → v a ≡ u c → v b ≡ u d → guard_holds v (one_term (is_high a ∷ is_high b ∷ [])) ≡ guard_holds u
      (one_term (is_high c ∷ is_high d ∷ []))
  same_highs a b c d e f = ap (λ z. (z && (v b && true)) || false) e ∙ ap (λ z. (u c && (z && true)) || false) f

  pub same_lows : (a b c d : ℕ) → v a ≡ u c → v b ≡ u d → guard_holds v (one_term (is_low a ∷ is_low b ∷ [])) ≡ guard_holds u
      (one_term (is_low c ∷ is_low d ∷ []))
  same_lows a b c d e f = ap (λ z. (not z && (not (v b) && true)) || false) e ∙ ap (λ z. (not (u c) && (not z && true)) || false) f

  pub same_mixed : (a b c d : ℕ) → v a ≡ u c → v b ≡ u d → guard_holds v (one_term (is_high a ∷ is_low b ∷ [])) ≡ guard_holds u
      (one_term (is_high c ∷ is_low d ∷ []))
  same_mixed a b c d e f = ap (λ z. (z && (not (v b) && true)) || false) e ∙ ap (λ z. (u c && (not z && true)) || false) f

  -- the answer of a site
  pub answers_alike : (r a s b : ℕ) (rs ss : List NodeRules) → v r ≡ u s → v a ≡ u b → RulesAlike v u rs ss
      → RulesAlike v u (site_answer r a ∷ rs) (site_answer s b ∷ ss)
  answers_alike r a s b rs ss e f h = (same_highs r a s b e f, same_low a b f, h)

  -- a Q-element
  pub elements_alike : (r a from s b to : ℕ) → v r ≡ u s → v a ≡ u b → v (from + 1) ≡ u (to + 1) → RulesAlike v u (q_rules r a from) (q_rules s b to)
  elements_alike r a from s b to e f l = (
    same_mixed r (from + 1) s (to + 1) e l,
    same_high (from + 1) (to + 1) l,
    (same_high a b f, same_low r s e, (same_mixed (from + 1) a (to + 1) b l f, same_low (from + 1) (to + 1) l, tt)),
  )

  -- a merge
  pub merges_alike : (ns ms : List ℕ) (rs ss : List NodeRules) → map v ns ≡ map u ms → RulesAlike v u rs ss → RulesAlike v u (or_of ns ∷ rs) (or_of ms ∷ ss)
  merges_alike ns ms rs ss e h = (
    or_up v ns ∙ (ap (list_any (λ b. b)) e ∙ sym (or_up u ms)),
    or_down v ns ∙ (ap lows_only e ∙ sym (or_down u ms)),
    h,
  )

  -- two lists of one length whose rules say the same at each place
  abbrev pub SameAt : List NodeRules → List NodeRules → ℕ → Type 0
  SameAt rs ss k = (guard_holds v (get_or rs k no_rules).up ≡ guard_holds u (get_or ss k no_rules).up) ×
      (guard_holds v (get_or rs k no_rules).down ≡ guard_holds u (get_or ss k no_rules).down)

  pub alike_by_places : (rs ss : List NodeRules) → length rs ≡ length ss → ((k : ℕ) → k < length rs → SameAt rs ss k) → RulesAlike v u rs ss
  alike_by_places [] [] e h = tt
  alike_by_places (r ∷ rs) (s ∷ ss) e h =
      let here = h 0 (omega arith) in
      (here.0, here.1, alike_by_places rs ss (omega (arith, e)) (λ k l. h (suc k) (omega (arith, l))))
  alike_by_places [] (s ∷ ss) e h = absurd (omega (arith, e))
  alike_by_places (r ∷ rs) [] e h = absurd (omega (arith, e))

  pub alike_length : (rs ss : List NodeRules) → RulesAlike v u rs ss → length rs ≡ length ss
  alike_length [] [] h = refl
  alike_length (r ∷ rs) (s ∷ ss) h = ap (λ k. suc k) (alike_length rs ss h.2)
  alike_length [] (s ∷ ss) h = absurd h
  alike_length (r ∷ rs) [] h = absurd h

  -- an expression
  module _ (P : TypedProgram) (e : Formula) (formed : IsWellFormed e) (from_vars : ReadsFrom P.vars e) (from to : ℕ)
      (same : (i : ℕ) → i < formula_size e → v (from + i) ≡ u (to + i)) where
    abbrev gates : Pairs (gate_count e)
    gates = gates_of (gate_count e) (λ k one. u (to + rail_place k one))

    gates_here : (k : ℕ) (one : Bool) → k < gate_count e → v (from + rail_place k one) ≡ side_of (pair_in (gate_count e) gates k) one
    gates_here k one l =
        same (rail_place k one) (omega (arith, rail_place_lt k (gate_count e) one l, count_doubled e))
        ∙ sym (gates_are (gate_count e) (λ k one. u (to + rail_place k one)) k one l)

    gates_there : (k : ℕ) (one : Bool) → k < gate_count e → u (to + rail_place k one) ≡ side_of (pair_in (gate_count e) gates k) one
    gates_there k one l = sym (gates_are (gate_count e) (λ k one. u (to + rail_place k one)) k one l)

    pub results_alike : (i : ℕ) (one : Bool) → i < width_of e
        → v (node_of (pair_of (formula_result e from) i) one) ≡ u (node_of (pair_of (formula_result e to) i) one)
    results_alike i one l =
        let none : ℕ → List Pair = λ x. [] in
        (listed P.vars e formed from_vars).outputs none 0 from v (v 0) (λ y k side. v (node_of (pair_of (none y) k) side)) gates
        (record { asked = refl; gates = gates_here; read = λ y k side z less. refl }) i one l
        ∙ sym ((listed P.vars e formed from_vars).outputs none 0 to u (u 0) (λ y k side. u (node_of (pair_of (none y) k) side)) gates
        (record { asked = refl; gates = gates_there; read = λ y k side z less. refl }) i one l)

    module _ (bits more : ℕ → List Pair) (has : HasBits P.vars bits) (also : HasBits P.vars more)
        (same_bits : (x i : ℕ) (one : Bool) → x < length P.vars → i < var_width P.vars x
        → v (node_of (pair_of (bits x) i) one) ≡ u (node_of (pair_of (more x) i) one))
        (r s : ℕ) (asked : v r ≡ u s) where
      place_alike : (k : ℕ) (one : Bool) → k < gate_count e
          → SameAt (formula_rules bits e r from) (formula_rules more e s to) (rail_place k one)
      place_alike k one l =
          let now : ℕ → Rails = λ x i side. u (node_of (pair_of (more x) i) side) in
          let a = (listed P.vars e formed from_vars).told bits has r from v (u s) now gates
          (record { asked = asked; gates = gates_here; read = λ x i side z less. same_bits x i side (read_declared P e from_vars x z) less }) k one l in
          let b = (listed P.vars e formed from_vars).told more also s to u (u s) now gates
          (record { asked = refl; gates = gates_there; read = λ x i side z less. refl }) k one l in
          (a.up ∙ sym b.up, a.down ∙ sym b.down)

      pub formulas_alike : RulesAlike v u (formula_rules bits e r from) (formula_rules more e s to)
      formulas_alike =
          let m = rules_length P.vars bits has e r from formed from_vars in
          let n = rules_length P.vars more also e s to formed from_vars in
          alike_by_places (formula_rules bits e r from) (formula_rules more e s to) (m ∙ sym n)
          (λ k l. at_rail k (rail_of (gate_count e) k (omega (arith, l, m, count_doubled e))))
        where
          at_rail : (k : ℕ) → Rail (gate_count e) k → SameAt (formula_rules bits e r from) (formula_rules more e s to) k
          at_rail k z = subst (λ j. SameAt (formula_rules bits e r from) (formula_rules more e s to) j) z.is (place_alike z.bit z.one z.below)

  -- the block of a variable
  module _ (n from to : ℕ) (same : (i : ℕ) → i < block_size n → v (from + i) ≡ u (to + i)) where
    abbrev x : Rails
    x i one = u (to + offset n (a_bit i one))

    abbrev w : Rails
    w i one = u (to + offset n (a_put i one))

    abbrev wrote : ℕ → Bool
    wrote i = u (to + offset n (a_mark i))

    abbrev node : ℕ → Bool
    node k = u (to + offset n (a_joint k))

    here : BlockIs v n from x w wrote node
    here = record {
      bits = λ i one l. same (offset n (a_bit i one)) (offset_lt n (a_bit i one) l);
      puts = λ i one l. same (offset n (a_put i one)) (offset_lt n (a_put i one) l);
      marks = λ i l. same (offset n (a_mark i)) (offset_lt n (a_mark i) l);
      joints = λ k l. same (offset n (a_joint k)) (offset_lt n (a_joint k) l);
    }

    there : BlockIs u n to x w wrote node
    there = record { bits = λ i one l. refl; puts = λ i one l. refl; marks = λ i l. refl; joints = λ k l. refl }

    pub same_written : 1 ≤ n → v (all_written n from) ≡ u (all_written n to)
    same_written some = written_is v n from x w wrote node here [] some ∙ sym (written_is u n to x w wrote node there [] some)

    pub same_bit_rails : (i : ℕ) (one : Bool) → i < n → v (node_of (pair_of (block_bits n from) i) one) ≡ u (node_of (pair_of (block_bits n to) i) one)
    same_bit_rails i one l =
        ap v (bit_number n from i one l) ∙ (same (offset n (a_bit i one)) (offset_lt n (a_bit i one) l) ∙ ap u (sym (bit_number n to i one l)))

    pub blocks_alike : (sites more : List (List Pair)) → ((i : ℕ) (one : Bool) → i < n → map v (map (at_site i one) sites) ≡ map u (map (at_site i one) more))
        → RulesAlike v u (variable_rules n from sites) (variable_rules n to more)
    blocks_alike sites more h =
        let m = length-variable_rules n from sites in
        alike_by_places (variable_rules n from sites) (variable_rules n to more) (m ∙ sym (length-variable_rules n to more))
        (λ k l. at_part k (part_of n k (omega (arith, l, m))))
      where
        by_part : (b : Part) → IsPart n b → SameAt (variable_rules n from sites) (variable_rules n to more) (offset n b)
        by_part (a_bit i one) l =
            let a = bit_says v n from x w wrote node here sites i one l in
            let b = bit_says u n to x w wrote node there more i one l in
            (a.up ∙ sym b.up, a.down ∙ sym b.down)
        by_part (a_put i one) l =
            let a = put_says v n from x w wrote node here sites i one (map u (map (at_site i one) more)) l (h i one l) in
            let b = put_says u n to x w wrote node there more i one (map u (map (at_site i one) more)) l refl in
            (a.up ∙ sym b.up, a.down ∙ sym b.down)
        by_part (a_mark i) l =
            let a = mark_says v n from x w wrote node here sites i l in
            let b = mark_says u n to x w wrote node there more i l in
            (a.up ∙ sym b.up, a.down ∙ sym b.down)
        by_part (a_joint k) l =
            let a = joint_says v n from x w wrote node here sites k l in
            let b = joint_says u n to x w wrote node there more k l in
            (a.up ∙ sym b.up, a.down ∙ sym b.down)

        at_part : (k : ℕ) → PartAt n k → SameAt (variable_rules n from sites) (variable_rules n to more) k
        at_part k z = subst (λ j. SameAt (variable_rules n from sites) (variable_rules n to more) j) z.is (by_part z.part z.fine)

  -- what is read of a block
  pub reads_alike : (n from to r s : ℕ) → v r ≡ u s
      → ((i : ℕ) (one : Bool) → i < n → v (node_of (pair_of (block_bits n from) i) one) ≡ u (node_of (pair_of (block_bits n to) i) one))
      → RulesAlike v u (read_bits r (block_bits n from)) (read_bits s (block_bits n to))
  reads_alike zero from to r s e h = tt
  reads_alike (suc n) from to r s e h = (
    same_highs r from s to e (h 0 true (omega arith)),
    same_low r s e,
    (
      same_highs r (from + 1) s (to + 1) e (h 0 false (omega arith)),
      same_low r s e,
      reads_alike n (from + 5) (to + 5) r s e (λ i one l. h (suc i) one (omega (arith, l))),
    ),
  )

  -- the rails of a receive
  pub ports_alike : (n from r s : ℕ) → v r ≡ u s → ((i : ℕ) (one : Bool) → i < n → v (from + rail_place i one) ≡ u (from + rail_place i one))
      → RulesAlike v u (port_rules r (pairs_from n from)) (port_rules s (pairs_from n from))
  ports_alike zero from r s e h = tt
  ports_alike (suc n) from r s e h =
      let z : from + 0 ≡ from = omega arith in
      let first : v from ≡ u from = subst (λ k. v k ≡ u k) z (h 0 true (omega arith)) in
      let second : v (from + 1) ≡ u (from + 1) = h 0 false (omega arith) in (
        same_highs r from s from e first,
        same_lows r from s from e first,
        (
          same_highs r (from + 1) s (from + 1) e second,
          same_lows r (from + 1) s (from + 1) e second,
          ports_alike n (from + 2) r s e (λ i one l.
              let q : from + suc (suc (rail_place i one)) ≡ from + 2 + rail_place i one = omega arith in
              subst (λ k. v k ≡ u k) q (h (suc i) one (omega (arith, l)))),
        ),
      )
