-- The listed guards of a gate have the values that its rule speaks of.
use Rattle.std.proofs.Common.{◌≡◌, ℕ, Bool, true, false, List, [], ◌∷◌, length, map, refl, ap, ◌∙◌}
use Rattle.std.specs.Prelude.{not, ◌&&◌, ◌||◌, if◌then◌else◌, filter, flat_map}
use Rattle.std.specs.List.{list_any, list_all}
use Rattle.prs_core.specs.Pairs as nodes
use Rattle.prs_core.specs.Moves.{term_holds, guard_holds}
use Rattle.function_blocks.specs.Gates.{table, minterm, gate_rail}
use Rattle.function_blocks.specs.Rails.{RailLevels, levels_of, levels_neutral}
use Rattle.function_blocks.specs.Waves.{holds}
use Rattle.function_blocks.proofs.Tables.{or_false}

-- what two nodes say
abbrev pub value_at : (ℕ → Bool) → nodes.Pair → RailLevels
value_at v p = levels_of (v p.t) (v p.f)

module _ (v : ℕ → Bool) where
  any_filter : (f : List Bool → Bool) (ps : List nodes.Pair) (ys : List (List Bool))
      → guard_holds v (map (minterm ps) (filter f ys)) ≡ list_any (λ y. f y && term_holds v (minterm ps y)) ys
  any_filter f ps [] = refl
  any_filter f ps (y ∷ ys) = one (f y) refl (any_filter f ps ys)
    where
      one : (b : Bool) → f y ≡ b → guard_holds v (map (minterm ps) (filter f ys)) ≡ list_any (λ y. f y && term_holds v (minterm ps y)) ys
          → guard_holds v (map (minterm ps) (if b then y ∷ filter f ys else filter f ys)) ≡ ((b && term_holds v (minterm ps y)) || list_any
          (λ y. f y && term_holds v (minterm ps y)) ys)
      one true h e = ap (λ r. term_holds v (minterm ps y) || r) e
      one false h e = e

  regroup : (a b x y : Bool) → (a || (b || (x || y))) ≡ ((a || x) || (b || y))
  regroup true b x y = refl
  regroup false true true y = refl
  regroup false true false y = refl
  regroup false false x y = refl

  any_doubled : (g : List Bool → Bool) (ys : List (List Bool)) → list_any g
      (flat_map (λ y. (false ∷ y) ∷ (true ∷ y) ∷ []) ys) ≡ (list_any (λ y. g (false ∷ y)) ys || list_any (λ y. g (true ∷ y)) ys)
  any_doubled g [] = refl
  any_doubled g (y ∷ ys) = ap (λ r. g (false ∷ y) || (g (true ∷ y) || r)) (any_doubled g ys)
      ∙ regroup (g (false ∷ y)) (g (true ∷ y)) (list_any (λ y. g (false ∷ y)) ys) (list_any (λ y. g (true ∷ y)) ys)

  taken_out : (r : Bool) (h m : List Bool → Bool) (ys : List (List Bool)) → list_any (λ y. h y && (r && m y)) ys ≡ (r && list_any (λ y. h y && m y) ys)
  taken_out true h m ys = refl
  taken_out false h m [] = refl
  taken_out false h m (y ∷ ys) = ap (λ b. b || list_any (λ y. h y && (false && m y)) ys) (and_false (h y)) ∙ taken_out false h m ys
    where
      and_false : (b : Bool) → (b && false) ≡ false
      and_false true = refl
      and_false false = refl

  swapped : (a b : Bool) → (a || b) ≡ (b || a)
  swapped true true = refl
  swapped true false = refl
  swapped false true = refl
  swapped false false = refl

  any_met : (f : List Bool → Bool) (ps : List nodes.Pair) → list_any (λ y. f y && term_holds v (minterm ps y)) (table (length ps)) ≡ holds f
      (map (value_at v) ps)
  any_met f [] = one (f [])
    where
      one : (b : Bool) → ((b && true) || false) ≡ b
      one true = refl
      one false = refl
  any_met f (p ∷ ps) =
      any_doubled (λ y. f y && term_holds v (minterm (p ∷ ps) y)) (table (length ps))
      ∙ (ap (λ r. r || list_any (λ y. f (true ∷ y) && (v p.t && term_holds v (minterm ps y))) (table (length ps)))
      (taken_out (v p.f) (λ y. f (false ∷ y)) (λ y. term_holds v (minterm ps y)) (table (length ps))
      ∙ ap (λ r. v p.f && r) (any_met (λ y. f (false ∷ y)) ps))
      ∙ (ap (λ r. (v p.f && holds (λ y. f (false ∷ y)) (map (value_at v) ps)) || r)
      (taken_out (v p.t) (λ y. f (true ∷ y)) (λ y. term_holds v (minterm ps y)) (table (length ps)) ∙ ap (λ r. v p.t && r) (any_met (λ y. f (true ∷ y)) ps))
      ∙ swapped (v p.f && holds (λ y. f (false ∷ y)) (map (value_at v) ps)) (v p.t && holds (λ y. f (true ∷ y)) (map (value_at v) ps))))

  pub up_told : (ps : List nodes.Pair) (f : List Bool → Bool) → guard_holds v (gate_rail ps f).up ≡ holds f (map (value_at v) ps)
  up_told ps f = any_filter f ps (table (length ps)) ∙ any_met f ps

  lows_told : (ps : List nodes.Pair) → term_holds v (nodes.lows (nodes.rails_of ps)) ≡ list_all levels_neutral (map (value_at v) ps)
  lows_told [] = refl
  lows_told (p ∷ ps) = both (not (v p.t)) (not (v p.f)) (lows_told ps)
    where
      both : (a b : Bool) {x y : Bool} → x ≡ y → (a && (b && x)) ≡ ((a && b) && y)
      both true b e = ap (λ z. b && z) e
      both false b e = refl

  pub down_told : (ps : List nodes.Pair) (f : List Bool → Bool) → guard_holds v (gate_rail ps f).down ≡ list_all levels_neutral (map (value_at v) ps)
  down_told ps f = or_false (term_holds v (nodes.lows (nodes.rails_of ps))) ∙ lows_told ps
