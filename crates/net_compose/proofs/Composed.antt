-- The parts of a program's circuit make all of its rules, and these with names, first values and wires its net.
use Rattle.std.proofs.Common.{◌≡◌, ℕ, suc, ◌+◌, ◌*◌, ◌<◌, ◌≤◌, Bool, true, false, List, [], ◌∷◌, ◌++◌, length, get_or, take, drop, sym, ap, ◌∙◌, arith, append_assoc}
use Rattle.std.specs.Prelude.{replicate, slice_set}
use Rattle.std.proofs.lemmas.List.{drop_more, drop_all, take_at}
use Rattle.std.proofs.lemmas.List.Sums.{fold-append}
use Rattle.prs_core.specs.Nets.{NodeRules}
use Rattle.width_check.specs.declared.typed.Var.{Var}
use Rattle.width_check.specs.Processes.{Process, TypedProgram}
use Rattle.handshake_expand.specs.Layout.{blocks_before, go_node, vars_from, var_from, root_request, root_latch, body_from, nodes_of}
use Rattle.handshake_expand.specs.Answers.{answer_of}
use Rattle.handshake_expand.proofs.Rows.{var_found}
use Rattle.cell_sequence.specs.Sequence.{q_child, q_latch}
use Rattle.cell_variable.specs.Variables.{high_first}
use Rattle.handshake_expand.specs.Sites.{in_body}
use Rattle.net_compose.specs.Translation.{rules_of, channels_rules, vars_rules, all_rules, body_answer, vars_high, hidden_high, first_values}
use Rattle.net_compose.proofs.FlatBlocks.{blocks_below}
use Rattle.net_compose.proofs.Raised.{with_raised}

pub root_answer : (p : TypedProgram) (s : Process) (from answer : ℕ) → s ≡ p.body → from ≡ body_from p → answer ≡ answer_of p s from → answer ≡ body_answer p
root_answer p s from answer same start is = is ∙ (ap (λ (t : Process). answer_of p t from) same ∙ ap (answer_of p p.body) start)

-- all rules

module _ (p : TypedProgram) (count : length (all_rules p) ≡ nodes_of p) where
  abbrev body_rules : List NodeRules
  body_rules = rules_of p p.body (root_request p) (body_from p)

  abbrev front : List NodeRules
  front = channels_rules p 0 p.channels ++ vars_rules p 0 p.vars

  abbrev root_rules : List NodeRules
  root_rules = q_child go_node (root_latch p) ∷ q_latch go_node (body_answer p) ∷ []

  abbrev behind_done : List NodeRules
  behind_done = channels_rules p 0 p.channels ++ (vars_rules p 0 p.vars ++ (root_rules ++ body_rules))

  joined : ((front ++ root_rules) ++ body_rules) ≡ behind_done
  joined =
      append_assoc front root_rules body_rules
      ∙ append_assoc (channels_rules p 0 p.channels) (vars_rules p 0 p.vars) (root_rules ++ body_rules)

-- first values

-- a list that was written over another one of its length
pub written_over : (new items : List Bool) (len : ℕ) → length new ≡ len → take len (new ++ drop (length new) items) ≡ new
written_over new items len same = take_at new (drop (length new) items) len same

module _ (p : TypedProgram) where
  pub high_wrote : (v : Var) (from x : ℕ) (now seen new : List Bool) → from ≡ var_from p x → seen ≡ now → new ≡ with_raised seen
      (high_first v.width v.first from) → new ≡ with_raised now (high_first v.width v.first (var_from p x))
  high_wrote v from x now seen new at same wrote =
      wrote ∙ (ap (λ n. with_raised seen (high_first v.width v.first n)) at ∙ ap (λ vs. with_raised vs (high_first v.width v.first (var_from p x))) same)

  pub high_step : (vs : List Var) (x : ℕ) (v : Var) (now new all : List Bool) → x < length vs → v ≡ get_or vs x v
      → new ≡ with_raised now (high_first v.width v.first (var_from p x)) → with_raised now (vars_high p x (drop x vs)) ≡ all → with_raised new (vars_high p
      (x + 1) (drop (x + 1) vs)) ≡ all
  high_step vs x v now new all within is wrote so_far =
      let rest = drop (x + 1) vs in
      let one : x + 1 ≡ suc x = omega arith in
      let step : vars_high p x (drop x vs) ≡ high_first v.width v.first (var_from p x) ++ vars_high p (x + 1) rest =
      ap (vars_high p x) (drop_more vs x v within ∙ ap (λ (u : Var). u ∷ rest) (sym is)) ∙ ap (λ n. high_first v.width v.first
      (var_from p x) ++ vars_high p n rest) (sym one) in
      ap (λ vs. with_raised vs (vars_high p (x + 1) rest)) wrote
      ∙ (sym (fold-append (λ vs node. slice_set vs node true) now (high_first v.width v.first (var_from p x)) (vars_high p (x + 1) rest))
      ∙ (ap (with_raised now) (sym step) ∙ so_far))

  pub high_end : (vs : List Var) (x : ℕ) (now all : List Bool) → length vs ≤ x → with_raised now (vars_high p x (drop x vs)) ≡ all → now ≡ all
  high_end vs x now all end so_far = ap (λ us. with_raised now (vars_high p x us)) (sym (drop_all x vs end)) ∙ so_far

  pub high_room : (vs : List Var) (x from : ℕ) (v : Var) → vs ≡ p.vars → x < length vs → v ≡ get_or vs x v → from ≡ var_from p x
      → from + 5 * v.width ≤ root_request p
  high_room vs x from v same within is at =
      let wide = var_found vs x v within is in
      let below = blocks_below vs x within in
      let whole : root_request p ≡ vars_from p + blocks_before vs (length vs) = ap (λ us. vars_from p + blocks_before us (length us)) (sym same) in
      let here : var_from p x ≡ vars_from p + blocks_before vs x = ap (λ us. vars_from p + blocks_before us x) (sym same) in
      omega (arith, wide, below, whole, here, at)

  pub all_values : (raised all : List Bool) → raised ≡ with_raised (replicate (nodes_of p) false) (vars_high p 0 p.vars) → all ≡ with_raised raised (in_body p
      (hidden_high p)) → all ≡ first_values p
  all_values raised all first then =
      then ∙ (ap (λ vs. with_raised vs (in_body p (hidden_high p))) first
      ∙ sym (fold-append (λ vs node. slice_set vs node true) (replicate (nodes_of p) false) (vars_high p 0 p.vars) (in_body p (hidden_high p))))
