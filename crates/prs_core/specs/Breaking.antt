-- How a part is shown not to keep its contract: by moves after which it does what it has promised not to do.
use Rattle.std.specs.Prelude.{◌≡◌, ℕ, Bool, true, not, ◌&&◌, ◌||◌, ◌==◌, ◌⊎◌, List, [], ◌∷◌}
use Rattle.std.specs.List.{list_any}
use Rattle.std.proofs.Common.{sym, ◌∙◌, inl, inr}
use Rattle.std.proofs.lemmas.Bool.{true≢false, and_parts, or_cases, eqb-true, not-true}
use Rattle.std.proofs.lemmas.List.Folds.{Any-from_list_any}
use Rattle.prs_core.specs.Parts.{Part, Owned, Wire, Moment, IsMove, Keeps, Reached, and_then, moment_after, fires, may_move}

-- an enabled rule of the part turns the node over, or a neighbour may
abbrev pub can_move : Part → Moment → ℕ → Bool
can_move p m node =
    list_any (λ (o : Owned). o.node == node && fires m.value o) p.own
    || list_any (λ (w : Wire). w.node == node && may_move m w) p.allows

-- an enabled rule of the part moves a wire that is not to move
abbrev pub breaks_promise : Part → Moment → Bool
breaks_promise p m = list_any (λ (o : Owned). fires m.value o
    && list_any (λ (w : Wire). w.node == o.node && not (may_move m w)) p.promises) p.own

-- it does so after these moves
abbrev pub broken_by : Part → Moment → List ℕ → Bool
broken_by p m [] = breaks_promise p m
broken_by p m (node ∷ nodes) = can_move p m node && broken_by p (moment_after p m node) nodes

move_of : (p : Part) (m : Moment) (node : ℕ) → can_move p m node ≡ true → IsMove p m node
move_of p m node can = either (or_cases _ _ can)
  where
    either : (list_any (λ (o : Owned). o.node == node && fires m.value o) p.own ≡ true) ⊎
        (list_any (λ (w : Wire). w.node == node && may_move m w) p.allows ≡ true) → IsMove p m node
    either (inl own) =
        let (k, o, within, is, holds) =
        Any-from_list_any (λ (o : Owned). o.node == node && fires m.value o) p.own own in
        let (same, enabled) = and_parts _ _ holds in
        inl (record { o = o; among = (k, within, is); enabled = enabled; at = sym (eqb-true _ _ same) })
    either (inr outside) =
        let (k, w, within, is, holds) =
        Any-from_list_any (λ (w : Wire). w.node == node && may_move m w) p.allows outside in
        let (same, may) = and_parts _ _ holds in
        inr (record { w = w; among = (k, within, is); may = may; at = sym (eqb-true _ _ same) })

pub broken : (p : Part) (m : Moment) (nodes : List ℕ) → Reached p m → broken_by p m nodes ≡ true → ¬ Keeps p
broken p m [] reached breaks keeps =
    let (k, o, within, is, holds) =
    Any-from_list_any (λ (o : Owned). fires m.value o
    && list_any (λ (w : Wire). w.node == o.node && not (may_move m w)) p.promises) p.own breaks in
    let (enabled, promise) = and_parts _ _ holds in
    let (at, w, inside, same, not_so) =
    Any-from_list_any (λ (w : Wire). w.node == o.node && not (may_move m w)) p.promises promise in
    let (here, may_not) = and_parts _ _ not_so in
    true≢false (sym ((keeps m reached).promised o (k, within, is) enabled w (at, inside, same) (eqb-true _ _ here))
    ∙ not-true _ may_not)
broken p m (node ∷ nodes) reached breaks keeps =
    let (can, rest) = and_parts _ _ breaks in
    broken p (moment_after p m node) nodes (and_then m node reached (move_of p m node can)) rest keeps
