-- Circuits of expressions that are wrong don't keep the contract.
use Rattle.std.proofs.Common.{◌≡◌, ℕ, Bool, true, false, List, [], ◌∷◌, ◌++◌, refl, sym, ◌∙◌, ◌⊎◌, inl, inr}
use Rattle.std.specs.Prelude.{not, ◌&&◌, ◌==◌, if◌then◌else◌}
use Rattle.std.specs.List.{list_any}
use Rattle.std.proofs.lemmas.Bool.{true≢false, and_parts, or_cases, eqb-true, not-true}
use Rattle.std.proofs.lemmas.List.Folds.{Any-from_list_any}
use Rattle.chp_base.specs.declared.span.Span.{Span}
use Rattle.chp_syntax.specs.declared.tree.Op.TheVariants.{Add}
use Rattle.prs_core.specs.Pairs.{Pair, pair_at}
use Rattle.prs_core.specs.Parts.{Part, Owned, Wire, Moment, IsMove, Keeps, Reached, at_first, and_then, moment_after, all_low, fires, may_move, owned_from}
use Rattle.prs_core.specs.Breaking.{can_move}
use Rattle.width_check.specs.Processes.{Formula, reading, chained, no_operations, and_operation}
use Rattle.function_blocks.specs.Gates.{gate, carries}
use Rattle.function_blocks.specs.Expressions.{formula_rules}
use Rattle.function_blocks.specs.ExpressionParts.{expression_part}

-- after these moves the requests and the answers are low, and a node that was low at first is not
abbrev left_high : Part → Moment → List ℕ → Bool
left_high p m [] = all_low m.value p.ports && not (all_low m.value p.lows)
left_high p m (node ∷ nodes) = can_move p m node && left_high p (moment_after p m node) nodes

move_of : (p : Part) (m : Moment) (node : ℕ) → can_move p m node ≡ true → IsMove p m node
move_of p m node can = either (or_cases _ _ can)
  where
    either : (list_any (λ (o : Owned). o.node == node && fires m.value o) p.own ≡ true) ⊎
        (list_any (λ (w : Wire). w.node == node && may_move m w) p.allows ≡ true) → IsMove p m node
    either (inl own) =
        let (k, o, within, is, holds) = Any-from_list_any (λ (o : Owned). o.node == node && fires m.value o) p.own own in
        let (same, enabled) = and_parts _ _ holds in
        inl (record { o = o; among = (k, within, is); enabled = enabled; at = sym (eqb-true _ _ same) })
    either (inr outside) =
        let (k, w, within, is, holds) = Any-from_list_any (λ (w : Wire). w.node == node && may_move m w) p.allows outside in
        let (same, may) = and_parts _ _ holds in
        inr (record { w = w; among = (k, within, is); may = may; at = sym (eqb-true _ _ same) })

breaks : (p : Part) (m : Moment) (nodes : List ℕ) → Reached p m → left_high p m nodes ≡ true → ¬ Keeps p
breaks p m [] reached high keeps =
    let (ports, lows) = and_parts _ _ high in
    true≢false (sym ((keeps m reached).lows ports) ∙ not-true _ lows)
breaks p m (node ∷ nodes) reached high keeps =
    let (can, rest) = and_parts _ _ high in
    breaks p (moment_after p m node) nodes (and_then m node reached (move_of p m node can)) rest keeps

abbrev at : Span
at = record { from = 0; to = 1 }

-- x + y on one bit each
abbrev sum : Formula
sum = chained (reading 0 0 0 at) (and_operation Add (reading 1 0 0 at) no_operations)

-- the rails of x are the nodes 1 and 2, those of y 3 and 4
abbrev bits : ℕ → List Pair
bits x = (if x == 0 then pair_at 1 else pair_at 3) ∷ []

-- the adder under the request 0 has the nodes 5 to 10: here with a carry, 11 and 12, that nobody reads
abbrev with_carry : Part
with_carry =
    let own = owned_from 5 (formula_rules bits sum 0 5 ++ gate (pair_at 5 ∷ pair_at 7 ∷ []) carries) in
    record (expression_part bits sum 0 5) { own = own; lows = 5 ∷ 6 ∷ 7 ∷ 8 ∷ 9 ∷ 10 ∷ 11 ∷ 12 ∷ [] }

abbrev all_low_at_first : Moment
all_low_at_first = record { value = λ n. false; noted = λ n. false }

-- The carry rises, and the whole wave comes and goes before it has fallen: nothing waits for it.
pub carry_breaks : ¬ (Keeps with_carry)
carry_breaks = breaks with_carry all_low_at_first (1 ∷ 4 ∷ 0 ∷ 5 ∷ 8 ∷ 9 ∷ 12 ∷ 0 ∷ 5 ∷ 8 ∷ 9 ∷ [])
    (at_first (λ n. false) (record { outside = refl; own = refl; bits = refl })) refl
