-- A statement that is made of no others, and whose nodes stand in one net from one number on and in another from another:
-- where its nodes have the same values in both, its rules say the same.
--
-- P: the program with copies; v, u: values of the nodes of the one net and of the other; r, s: the request of a statement in
-- either; from, to: its first node; x, e: a variable, and what is assigned to it.
use Rattle.std.proofs.Common.{◌≡◌, ℕ, ◌+◌, ◌*◌, ◌<◌, ◌≤◌, Bool, true, false, [], ◌∷◌, ◌++◌, length, refl, sym, ap, ◌∙◌, subst, arith}
use Rattle.std.specs.Prelude.{if◌then◌else◌}
use Rattle.prs_core.specs.Pairs.{pair_of, pairs_from}
use Rattle.prs_core.specs.Sites.{site_answer}
use Rattle.chp_base.specs.declared.span.Span.{Span}
use Rattle.cell_channel.specs.Ends.{port_rules}
use Rattle.width_check.specs.Processes.{Formula, Process, skipping, assigning, sending, receiving, in_turn, side_by_side, choosing, repeating, TypedProgram}
use Rattle.width_check.specs.Reads.{reads}
use Rattle.width_check.specs.Typing.{channel_width, var_width, IsOfWidth, IsProcess}
use Rattle.handshake_expand.specs.Layout.{formula_size, block_size, through_size, size_of, channel_from, var_from, root_request}
use Rattle.handshake_expand.specs.Answers.{answer_of, second_answer}
use Rattle.cell_variable.specs.Variables.{all_written, variable_rules, write_answer}
use Rattle.function_blocks.specs.Expressions.{read_bits, formula_rules, formula_result}
use Rattle.function_blocks.specs.Listed.{node_of, rail_place}
use Rattle.net_compose.specs.Translation.{bits_at, block_bits, written_at, ack_at, q_rules, through_rules, rules_of}
use Rattle.net_compose.proofs.Sizes.{has_bits}
use Rattle.net_compose.proofs.FlatTrees.{RulesAlike, rules_append}
use Rattle.net_compose.proofs.FlatRules.{plain_rules}
use Rattle.net_compose.proofs.FlatWires.{ack_bounds, rail_bounds}
use Rattle.net_compose.proofs.FlatBlocks.{blocks_below}
use Rattle.net_compose.proofs.SameValues.{same_high, same_low, answers_alike, elements_alike, formulas_alike, same_written, same_bit_rails, blocks_alike, reads_alike, ports_alike, results_alike}
use Rattle.call_map.specs.Calling.{IsAtom}

module _ (P : TypedProgram) (some : (y : ℕ) → y < length P.vars → 1 ≤ var_width P.vars y) (v u : ℕ → Bool)
    (low : (m : ℕ) → m < root_request P → v m ≡ u m) where
  same_block : (y : ℕ) → y < length P.vars → (i : ℕ) → i < block_size (var_width P.vars y) → v (var_from P y + i) ≡ u (var_from P y + i)
  same_block y l i h = low (var_from P y + i) (let b = blocks_below P.vars y l in omega (arith, h, b))

  same_puts : (y : ℕ) → y < length P.vars → v (written_at P y) ≡ u (written_at P y)
  same_puts y l = same_written v u (var_width P.vars y) (var_from P y) (var_from P y) (same_block y l) (some y l)

  same_bits : (y i : ℕ) (one : Bool) → y < length P.vars → i < var_width P.vars y
      → v (node_of (pair_of (bits_at P y) i) one) ≡ u (node_of (pair_of (bits_at P y) i) one)
  same_bits y i one l h = same_bit_rails v u (var_width P.vars y) (var_from P y) (var_from P y) (same_block y l) i one h

  same_ack : (k : ℕ) → k < length P.channels → v (ack_at P k) ≡ u (ack_at P k)
  same_ack k l = let b = ack_bounds P k l in low (ack_at P k) (omega (arith, b.1))

  same_rail : (k i : ℕ) (one : Bool) → k < length P.channels → i < channel_width P.channels k
      → v (channel_from P k + rail_place i one) ≡ u (channel_from P k + rail_place i one)
  same_rail k i one l h = let b = rail_bounds P k i one l h in low (channel_from P k + rail_place i one) (omega (arith, b.1))

  pub expression_alike : (w : ℕ) (e : Formula) → IsOfWidth P.vars w e → (r from s to : ℕ) → v r ≡ u s
      → ((i : ℕ) → i < formula_size e → v (from + i) ≡ u (to + i))
      → RulesAlike v u (formula_rules (bits_at P) e r from) (formula_rules (bits_at P) e s to)
  expression_alike w e t r from s to asked same =
      formulas_alike v u P e t.formed t.reads from to same (bits_at P) (bits_at P) (has_bits P) (has_bits P) same_bits r s asked

  pub shifted : (from to k n : ℕ) → ((i : ℕ) → i < k + n → v (from + i) ≡ u (to + i)) → (i : ℕ) → i < n → v (from + k + i) ≡ u (to + k + i)
  shifted from to k n same i l =
      ap v (let z : from + k + i ≡ from + (k + i) = omega arith in z)
      ∙ (same (k + i) (omega (arith, l)) ∙ ap u (let z : to + (k + i) ≡ to + k + i = omega arith in z))

  pub at_start : (from to n : ℕ) → 0 < n → ((i : ℕ) → i < n → v (from + i) ≡ u (to + i)) → v from ≡ u to
  at_start from to n l same = ap v (let z : from ≡ from + 0 = omega arith in z) ∙ (same 0 l ∙ ap u (let z : to + 0 ≡ to = omega arith in z))

  site_alike : (w : ℕ) (e : Formula) → IsOfWidth P.vars w e → (a b : ℕ) → v a ≡ u b → (r from s to : ℕ) → v r ≡ u s
      → ((i : ℕ) → i < 1 + formula_size e → v (from + i) ≡ u (to + i))
      → RulesAlike v u (site_answer r a ∷ formula_rules (bits_at P) e r (from + 1)) (site_answer s b ∷ formula_rules (bits_at P) e s (to + 1))
  site_alike w e typed a b far r from s to asked same =
      answers_alike v u r a s b (formula_rules (bits_at P) e r (from + 1)) (formula_rules (bits_at P) e s (to + 1)) asked far
      (expression_alike w e typed r (from + 1) s (to + 1) asked (shifted from to 1 (formula_size e) same))

  -- an assignment through a hidden variable
  module _ (x : ℕ) (e : Formula) (declared : x < length P.vars) (typed : IsOfWidth P.vars (var_width P.vars x) e) (r from s to : ℕ) (asked : v r ≡ u s)
      (same : (i : ℕ) → i < through_size (var_width P.vars x) e → v (from + i) ≡ u (to + i)) where
    abbrev w : ℕ
    w = var_width P.vars x

    abbrev here : ℕ
    here = from + block_size w

    abbrev there : ℕ
    there = to + block_size w

    in_block : (i : ℕ) → i < block_size w → v (from + i) ≡ u (to + i)
    in_block i l = same i (omega (arith, l))

    behind : (i : ℕ) → i < 3 + (1 + formula_size e) + (1 + 2 * w) → v (here + i) ≡ u (there + i)
    behind i l = shifted from to (block_size w) (3 + (1 + formula_size e) + (1 + 2 * w)) (λ j h. same j (omega (arith, h))) i l

    starts : v here ≡ u there
    starts = at_start here there (3 + (1 + formula_size e) + (1 + 2 * w)) (omega arith) behind

    in_value : (i : ℕ) → i < formula_size e → v (here + 3 + 1 + i) ≡ u (there + 3 + 1 + i)
    in_value i l =
        ap v (let z : here + 3 + 1 + i ≡ here + (4 + i) = omega arith in z)
        ∙ (behind (4 + i) (omega (arith, l)) ∙ ap u (let z : there + (4 + i) ≡ there + 3 + 1 + i = omega arith in z))

    block_alike : RulesAlike v u (variable_rules w from (formula_result e (here + 3 + 1) ∷ [])) (variable_rules w to (formula_result e (there + 3 + 1) ∷ []))
    block_alike = blocks_alike v u w from to in_block (formula_result e (here + 3 + 1) ∷ []) (formula_result e (there + 3 + 1) ∷ [])
        (λ i one l. ap (λ b. b ∷ []) (results_alike v u P e typed.formed typed.reads (here + 3 + 1) (there + 3 + 1) in_value i one
        (let z = typed.agrees in omega (arith, l, z))))

    through_alike : RulesAlike v u (through_rules P x e r from) (through_rules P x e s to)
    through_alike =
        let back = reads_alike v u w from to (here + 2) (there + 2) (behind 2 (omega arith)) (λ i one l. same_bit_rails v u w from to in_block i one l) in
        let second = answers_alike v u (here + 2) (written_at P x) (there + 2) (written_at P x) (read_bits (here + 2) (block_bits w from))
        (read_bits (there + 2) (block_bits w to)) (behind 2 (omega arith)) (same_puts x declared) back in
        let value = expression_alike w e typed here (here + 3 + 1) there (there + 3 + 1) starts in_value in
        let rest_here = write_answer (here + 2) (written_at P x) ∷ read_bits (here + 2) (block_bits w from) in
        let rest_there = write_answer (there + 2) (written_at P x) ∷ read_bits (there + 2) (block_bits w to) in
        let first = answers_alike v u here (all_written w from) there (all_written w to) (formula_rules (bits_at P) e here (here + 3 + 1) ++ rest_here)
        (formula_rules (bits_at P) e there (there + 3 + 1) ++ rest_there) starts (same_written v u w from to in_block (some x declared))
        (rules_append v u (formula_rules (bits_at P) e here (here + 3 + 1))
        (formula_rules (bits_at P) e there (there + 3 + 1)) rest_here rest_there value second) in
        rules_append v u (variable_rules w from (formula_result e (here + 3 + 1) ∷ [])) (variable_rules w to (formula_result e (there + 3 + 1) ∷ []))
        (q_rules r (here + 3) here ++ (write_answer here (all_written w from) ∷ (formula_rules (bits_at P) e here (here + 3 + 1) ++ rest_here)))
        (q_rules s (there + 3) there ++ (write_answer there (all_written w to) ∷ (formula_rules (bits_at P) e there (there + 3 + 1) ++ rest_there)))
        block_alike
        (rules_append v u (q_rules r (here + 3) here) (q_rules s (there + 3) there)
        (write_answer here (all_written w from) ∷ (formula_rules (bits_at P) e here (here + 3 + 1) ++ rest_here))
        (write_answer there (all_written w to) ∷ (formula_rules (bits_at P) e there (there + 3 + 1) ++ rest_there))
        (elements_alike v u r (here + 3) here s (there + 3) there asked (behind 3 (omega arith)) (behind 1 (omega arith))) first)

    through_answer : v (second_answer P x from (formula_size e)) ≡ u (second_answer P x to (formula_size e))
    through_answer =
        ap v (let z : second_answer P x from (formula_size e) ≡ here + (3 + (1 + formula_size e)) = omega arith in z)
        ∙ (behind (3 + (1 + formula_size e)) (omega arith)
        ∙ ap u (let z : there + (3 + (1 + formula_size e)) ≡ second_answer P x to (formula_size e) = omega arith in z))

  assign_alike : (x : ℕ) (at : Span) (e : Formula) (b : Bool) → reads x e ≡ b → x < length P.vars → IsOfWidth P.vars (var_width P.vars x) e → (r from s to : ℕ)
      → v r ≡ u s
      → ((i : ℕ) → i < (if b then through_size (var_width P.vars x) e else 1 + formula_size e) → v (from + i) ≡ u (to + i))
      → RulesAlike v u (rules_of P (assigning x at e) r from) (rules_of P (assigning x at e) s to)
  assign_alike x at e false is declared typed r from s to asked same =
      subst (λ l. RulesAlike v u l (rules_of P (assigning x at e) s to)) (sym (plain_rules P x at e is r from))
      (subst (λ l. RulesAlike v u (write_answer r (written_at P x) ∷ formula_rules (bits_at P) e r (from + 1)) l) (sym (plain_rules P x at e is s to))
      (site_alike (var_width P.vars x) e typed (written_at P x) (written_at P x) (same_puts x declared) r from s to asked same))
  assign_alike x at e true is declared typed r from s to asked same =
      let told : (r from : ℕ) → rules_of P (assigning x at e) r from ≡ through_rules P x e r from = λ r from.
      ap (λ (b : Bool). if b then through_rules P x e r from else (write_answer r (written_at P x) ∷ formula_rules (bits_at P) e r (from + 1))) is in
      subst (λ l. RulesAlike v u l (rules_of P (assigning x at e) s to)) (sym (told r from))
      (subst (λ l. RulesAlike v u (through_rules P x e r from) l) (sym (told s to)) (through_alike x e declared typed r from s to asked same))

  pub atom_alike : (p : Process) → IsAtom p → IsProcess P.channels P.vars p → (r from s to : ℕ) → v r ≡ u s
      → ((i : ℕ) → i < size_of P p → v (from + i) ≡ u (to + i)) → RulesAlike v u (rules_of P p r from) (rules_of P p s to)
  atom_alike skipping is t r from s to asked same = (same_high v u r s asked, same_low v u r s asked, tt)
  atom_alike (assigning x at e) is t r from s to asked same = assign_alike x at e (reads x e) refl t.0 t.1 r from s to asked same
  atom_alike (sending chan at e) is t r from s to asked same =
      site_alike (channel_width P.channels chan) e t.sent (ack_at P chan) (ack_at P chan) (same_ack chan t.within) r from s to asked same
  atom_alike (receiving chan at x into) is t r from s to asked same =
      let rails = pairs_from (channel_width P.channels chan) (channel_from P chan) in
      answers_alike v u r (ack_at P chan) s (ack_at P chan) (write_answer r (written_at P x) ∷ port_rules r rails)
      (write_answer s (written_at P x) ∷ port_rules s rails) asked (same_ack chan t.within)
      (answers_alike v u r (written_at P x) s (written_at P x) (port_rules r rails) (port_rules s rails) asked (same_puts x t.target)
      (ports_alike v u (channel_width P.channels chan) (channel_from P chan) r s asked (λ i one l. same_rail chan i one t.within l)))
  atom_alike (in_turn _) is t r from s to asked same = absurd is
  atom_alike (side_by_side _) is t r from s to asked same = absurd is
  atom_alike (choosing _ _) is t r from s to asked same = absurd is
  atom_alike (repeating _) is t r from s to asked same = absurd is

  assign_answer : (x : ℕ) (e : Formula) (b : Bool) → x < length P.vars → IsOfWidth P.vars (var_width P.vars x) e → (r from s to : ℕ) → v r ≡ u s
      → ((i : ℕ) → i < (if b then through_size (var_width P.vars x) e else 1 + formula_size e) → v (from + i) ≡ u (to + i))
      → v (if b then second_answer P x from (formula_size e) else from) ≡ u (if b then second_answer P x to (formula_size e) else to)
  assign_answer x e false declared typed r from s to asked same = at_start from to (1 + formula_size e) (omega arith) same
  assign_answer x e true declared typed r from s to asked same = through_answer x e declared typed r from s to asked same

  pub atom_answer : (p : Process) → IsAtom p → IsProcess P.channels P.vars p → (r from s to : ℕ) → v r ≡ u s
      → ((i : ℕ) → i < size_of P p → v (from + i) ≡ u (to + i)) → v (answer_of P p from) ≡ u (answer_of P p to)
  atom_answer skipping is t r from s to asked same = at_start from to 1 (omega arith) same
  atom_answer (assigning x at e) is t r from s to asked same = assign_answer x e (reads x e) t.0 t.1 r from s to asked same
  atom_answer (sending chan at e) is t r from s to asked same = at_start from to (1 + formula_size e) (omega arith) same
  atom_answer (receiving chan at x into) is t r from s to asked same = at_start from to (2 + 2 * channel_width P.channels chan) (omega arith) same
  atom_answer (in_turn _) is t r from s to asked same = absurd is
  atom_answer (side_by_side _) is t r from s to asked same = absurd is
  atom_answer (choosing _ _) is t r from s to asked same = absurd is
  atom_answer (repeating _) is t r from s to asked same = absurd is
