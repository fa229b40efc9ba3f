-- An assignment through a hidden variable, piece by piece.
use Rattle.std.proofs.Common.{◌≡◌, ◌∙◌, ℕ, ◌+◌, ◌-◌, ◌≤◌, List, [], ◌∷◌, ◌++◌, sym, ap, arith}
use Rattle.prs_core.specs.Nets.{NodeRules}
use Rattle.prs_core.specs.Pairs.{Pair}
use Rattle.prs_core.specs.Sites.{site_answer}
use Rattle.width_check.specs.Processes.{Formula, TypedProgram}
use Rattle.width_check.specs.Typing.{var_width}
use Rattle.handshake_expand.specs.Layout.{block_size}
use Rattle.cell_variable.specs.Variables.{all_written, variable_rules, write_answer}
use Rattle.function_blocks.specs.Expressions.{formula_rules, formula_result, read_bits}
use Rattle.net_compose.specs.Translation.{bits_at, block_bits, q_rules, through_rules, written_at}
use Rattle.net_compose.proofs.EndsReady.{all_written_is}
use Rattle.net_compose.proofs.BodyDriven.{two_on}

module _ (p : TypedProgram) (x : ℕ) (e : Formula) (request from element first : ℕ)
    (at_element : element ≡ from + block_size (var_width p.vars x)) (at_first : first ≡ element + 3) (some : 1 ≤ var_width p.vars x) where
  abbrev width : ℕ
  width = var_width p.vars x

  abbrev Block : List NodeRules
  Block = variable_rules width from (formula_result e (first + 1) ∷ [])

  abbrev Element : List NodeRules
  Element = q_rules request first element

  abbrev Value : List NodeRules
  Value = formula_rules (bits_at p) e element (first + 1)

  abbrev Back : List NodeRules
  Back = read_bits (element + 2) (block_bits width from)

  abbrev FirstAnswer : NodeRules
  FirstAnswer = write_answer element (all_written width from)

  abbrev SecondAnswer : NodeRules
  SecondAnswer = write_answer (element + 2) (written_at p x)

  all_as : (b : ℕ) → b ≡ element → (f : ℕ) → f ≡ first →
      variable_rules width from (formula_result e (f + 1) ∷ [])
      ++ (q_rules request f b ++ (write_answer b (all_written width from)
      ∷ (formula_rules (bits_at p) e b (f + 1) ++ (write_answer (b + 2) (written_at p x) ∷ read_bits (b + 2) (block_bits width from)))))
      ≡ Block ++ (Element ++ (FirstAnswer ∷ (Value ++ (SecondAnswer ∷ Back))))
  all_as b e1 f e2 =
      ap (λ k. variable_rules width from (formula_result e (f + 1) ∷ [])
      ++ (q_rules request f k ++ (write_answer k (all_written width from)
      ∷ (formula_rules (bits_at p) e k (f + 1) ++ (write_answer (k + 2) (written_at p x) ∷ read_bits (k + 2) (block_bits width from)))))) e1
      ∙ ap (λ k. variable_rules width from (formula_result e (k + 1) ∷ [])
      ++ (q_rules request k element ++ (FirstAnswer ∷ (formula_rules (bits_at p) e element (k + 1) ++ (SecondAnswer ∷ Back))))) e2

  pub through_made : (hidden written : ℕ) (bits : List Pair) (inner d0 d1 d2 d3 d4 d5 d6 : List NodeRules) → hidden ≡ element - 1
      → written ≡ written_at p x → bits ≡ formula_result e (first + 1) → inner ≡ Value → d1 ≡ d0 ++ variable_rules width from (bits ∷ [])
      → d2 ≡ d1 ++ Element → d3 ≡ d2 ++ site_answer element hidden ∷ [] → d4 ≡ d3 ++ inner → d5 ≡ d4 ++ site_answer (element + 2) written ∷ []
      → d6 ≡ d5 ++ Back → d6 ≡ d0 ++ through_rules p x e request from
  through_made hidden written bits inner d0 d1 d2 d3 d4 d5 d6 stored kept are values w1 w2 w3 w4 w5 w6 =
      let here : hidden ≡ all_written width from = let n = all_written_is width from some in omega (arith, stored, at_element, n, some) in
      let a1 : d1 ≡ d0 ++ Block = w1 ∙ ap (λ (ps : List Pair). d0 ++ variable_rules width from (ps ∷ [])) are in
      let a3 : d3 ≡ d2 ++ FirstAnswer ∷ [] = w3 ∙ ap (λ k. d2 ++ site_answer element k ∷ []) here in
      let a4 : d4 ≡ d3 ++ Value = w4 ∙ ap (λ l. d3 ++ l) values in
      let a5 : d5 ≡ d4 ++ SecondAnswer ∷ [] = w5 ∙ ap (λ k. d4 ++ site_answer (element + 2) k ∷ []) kept in
      let b5 : d6 ≡ d4 ++ (SecondAnswer ∷ Back) = two_on d4 d5 d6 (SecondAnswer ∷ []) Back a5 w6 in
      let b4 : d6 ≡ d3 ++ (Value ++ (SecondAnswer ∷ Back)) = two_on d3 d4 d6 Value (SecondAnswer ∷ Back) a4 b5 in
      let b3 : d6 ≡ d2 ++ (FirstAnswer ∷ (Value ++ (SecondAnswer ∷ Back))) =
      two_on d2 d3 d6 (FirstAnswer ∷ []) (Value ++ (SecondAnswer ∷ Back)) a3 b4 in
      let b2 : d6 ≡ d1 ++ (Element ++ (FirstAnswer ∷ (Value ++ (SecondAnswer ∷ Back)))) =
      two_on d1 d2 d6 Element (FirstAnswer ∷ (Value ++ (SecondAnswer ∷ Back))) w2 b3 in
      let b1 : d6 ≡ d0 ++ (Block ++ (Element ++ (FirstAnswer ∷ (Value ++ (SecondAnswer ∷ Back))))) =
      two_on d0 d1 d6 Block (Element ++ (FirstAnswer ∷ (Value ++ (SecondAnswer ∷ Back)))) a1 b2 in
      b1 ∙ ap (λ rs. d0 ++ rs) (sym (all_as (from + block_size width) (sym at_element) (from + block_size width + 3)
      (let f : from + block_size width + 3 ≡ first = omega (arith, at_first, at_element) in f)))
