-- Moves of a net without hazards that are enabled where a layer begins: they stay so until they are made.
--
-- st: a state of the net; n, b: nodes; ns: a layer.
use Rattle.std.proofs.Common.{◌≡◌, ℕ, true, List, [], ◌∷◌, inl, inr, sym, subst}
use Rattle.std.specs.Prelude.{Contains}
use Rattle.prs_core.specs.Nets.{NetValue}
use Rattle.env_script.specs.Scripts.{OfferValue}
use Rattle.env_script.specs.Runs.{RunState, move_enabled, moved, IsRun, after}
use Rattle.env_script.specs.OneLength.{AllSafe}
use Rattle.env_script.specs.Sweeps.{IsLayer}
use Rattle.env_script.proofs.Fronts.{safe_move, safe_behind}
use Rattle.env_script.proofs.Overtakes.{Among, contained}

module _ (net : NetValue) (script : List OfferValue) where
  -- the others of a layer behind its first move
  pub behind : (n : ℕ) (ns : List ℕ) (st : RunState) → AllSafe net script st → move_enabled net script st n ≡ true → (Among ns n → ⊥)
      → IsLayer net script st ns → IsLayer net script (moved net st n) ns
  behind n [] st all on out layer = tt
  behind n (m ∷ ns) st all on out layer = (
    (safe_move net script st n all on).stable m (λ e. out (inl e)) layer.0,
    layer.1,
    behind n ns st all on (λ i. out (inr i)) layer.2,
  )

  pub apart_first : (n : ℕ) (ns : List ℕ) → (¬ Contains ns n) → Among ns n → ⊥
  apart_first n ns out i = out (contained ns n i)

  pub stays_behind : (b : ℕ) (ns : List ℕ) (st : RunState) → AllSafe net script st → IsLayer net script st ns → (Among ns b → ⊥)
      → move_enabled net script st b ≡ true → move_enabled net script (after net st ns) b ≡ true
  stays_behind b [] st all layer out on = on
  stays_behind b (n ∷ ns) st all layer out on =
      stays_behind b ns (moved net st n) (safe_behind net script st n all layer.0) (behind n ns st all layer.0 (apart_first n ns layer.1) layer.2)
      (λ i. out (inr i)) ((safe_move net script st n all layer.0).stable b (λ e. out (inl (sym e))) on)

  pub in_layer : (n : ℕ) (ns : List ℕ) (st : RunState) → IsLayer net script st ns → Among ns n → move_enabled net script st n ≡ true
  in_layer n [] st layer i = absurd i
  in_layer n (m ∷ ns) st layer (inl e) = subst (λ j. move_enabled net script st j ≡ true) e layer.0
  in_layer n (m ∷ ns) st layer (inr i) = in_layer n ns st layer.2 i

  -- a layer is a run
  pub layer_runs : (ns : List ℕ) (st : RunState) → AllSafe net script st → IsLayer net script st ns → IsRun net script st ns
  layer_runs [] st all layer = tt
  layer_runs (n ∷ ns) st all layer = (
    layer.0,
    layer_runs ns (moved net st n) (safe_behind net script st n all layer.0) (behind n ns st all layer.0 (apart_first n ns layer.1) layer.2),
  )
