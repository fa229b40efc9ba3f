-- The rails of guards are all apart, and lie among the guards' own nodes.
use Rattle.std.proofs.Common.{◌≡◌, ℕ, ◌+◌, ◌*◌, ◌<◌, ◌≤◌, List, [], ◌∷◌, length, All, refl, sym, subst, arith}
use Rattle.std.proofs.lemmas.List.Elements.{All-nil, All-cons, All-append}
use Rattle.prs_core.specs.Pairs.{Pair, rails_of}
use Rattle.width_check.specs.Processes.{Choices, no_choices, and_choice, TypedProgram}
use Rattle.width_check.specs.Typing.{AreChoices}
use Rattle.handshake_expand.specs.Layout.{formula_size, guards_size}
use Rattle.function_blocks.specs.Expressions.{formula_result}
use Rattle.net_compose.specs.Translation.{guard_pairs}
use Rattle.net_compose.proofs.GuardsWritten.{rails_append}
use Rattle.net_compose.proofs.ResultsOwn.{LieIn, result_own}

pub rails_length : (ps : List Pair) → length (rails_of ps) ≡ 2 * length ps
rails_length [] = refl
rails_length (p ∷ ps) = let e = rails_length ps in omega (arith, e)

lie_among : (P : ℕ → Type 0) (low high : ℕ) (ps : List Pair) → LieIn low high ps → ((x : ℕ) → low ≤ x → x < high → P x) → All P (rails_of ps)
lie_among P low high [] h k = All-nil P
lie_among P low high (p ∷ ps) h k =
    All-cons P p.t (p.f ∷ rails_of ps) (k p.t h.0.0 h.0.1) (All-cons P p.f (rails_of ps) (k p.f h.0.2 h.0.3) (lie_among P low high ps h.1 k))

module _ (p : TypedProgram) where
  pub rails_among : (P : ℕ → Type 0) (choices : Choices) (from : ℕ) → AreChoices p.channels p.vars choices →
      ((x : ℕ) → from ≤ x → x < from + guards_size choices → P x)
      → All P (rails_of (guard_pairs choices from))
  rails_among P no_choices from h k = All-nil P
  rails_among P (and_choice g s more) from h k =
      let next = from + formula_size g in
      subst (All P) (sym (rails_append (formula_result g from) (guard_pairs more next)))
      (All-append P (rails_of (formula_result g from)) (rails_of (guard_pairs more next))
      (lie_among P from next (formula_result g from) (result_own g from h.0.formed) (λ x low high. k x low (omega (arith, high))))
      (rails_among P more next h.2 (λ x low high. k x (omega (arith, low)) (omega (arith, high)))))
