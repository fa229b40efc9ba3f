-- Selections and guarded repetitions whose nodes have the same values: their rules say the same.
use Rattle.std.proofs.Common.{◌≡◌, ℕ, zero, suc, ◌+◌, ◌<◌, Bool, true, false, List, [], ◌∷◌, ◌++◌, map, length, refl, sym, ap, ◌∙◌, arith}
use Rattle.std.specs.Prelude.{not, ◌&&◌, ◌||◌}
use Rattle.std.specs.List.{range_with_len}
use Rattle.prs_core.specs.declared.rule.Literal.{Literal}
use Rattle.prs_core.specs.Nets.{NodeRules, is_high, is_low, one_term}
use Rattle.prs_core.specs.Pairs.{Pair, pair_of, rails_of, lows}
use Rattle.prs_core.specs.Moves.{literal_holds, term_holds, guard_holds}
use Rattle.cell_select.specs.Selections.{all_false, only_one_true, latches, starts, Choosing, select_rules, leave_latch, Repeating, again_rules}
use Rattle.function_blocks.specs.Listed.{node_of}
use Rattle.net_compose.proofs.FlatTrees.{Alike, RulesAlike, rules_append}
use Rattle.net_compose.proofs.SameValues.{same_high, same_low, same_mixed, merges_alike}

module _ (v u : ℕ → Bool) where
  abbrev pub PairsAlike : List Pair → List Pair → Type 0
  PairsAlike [] [] = Unit {0}
  PairsAlike (h ∷ hs) (k ∷ ks) = (v h.t ≡ u k.t) × (v h.f ≡ u k.f) × PairsAlike hs ks
  PairsAlike _ _ = ⊥

  pub pairs_append : (hs ks gs ls : List Pair) → PairsAlike hs ks → PairsAlike gs ls → PairsAlike (hs ++ gs) (ks ++ ls)
  pairs_append [] [] gs ls e f = f
  pairs_append (h ∷ hs) (k ∷ ks) gs ls e f = (e.0, e.1, pairs_append hs ks gs ls e.2 f)
  pairs_append [] (k ∷ ks) gs ls e f = absurd e
  pairs_append (h ∷ hs) [] gs ls e f = absurd e

  pub pairs_by_places : (hs ks : List Pair) → length hs ≡ length ks
      → ((i : ℕ) (one : Bool) → i < length hs → v (node_of (pair_of hs i) one) ≡ u (node_of (pair_of ks i) one)) → PairsAlike hs ks
  pairs_by_places [] [] e h = tt
  pairs_by_places (p ∷ hs) (q ∷ ks) e h = (
    h 0 true (omega arith),
    h 0 false (omega arith),
    pairs_by_places hs ks (omega (arith, e)) (λ i one l. h (suc i) one (omega (arith, l))),
  )
  pairs_by_places [] (q ∷ ks) e h = absurd (omega (arith, e))
  pairs_by_places (p ∷ hs) [] e h = absurd (omega (arith, e))

  pub range_alike : (a b n m : ℕ) → n ≡ m → ((i : ℕ) → i < n → v (a + i) ≡ u (b + i)) → Alike v u (range_with_len a n) (range_with_len b m)
  range_alike a b zero zero e h = tt
  range_alike a b (suc n) (suc m) e h = (
    ap v (let z : a ≡ a + 0 = omega arith in z) ∙ (h 0 (omega arith) ∙ ap u (let z : b + 0 ≡ b = omega arith in z)),
    range_alike (a + 1) (b + 1) n m (omega (arith, e)) (λ i l. ap v (let z : a + 1 + i ≡ a + suc i = omega arith in z)
        ∙ (h (suc i) (omega (arith, l)) ∙ ap u (let z : b + suc i ≡ b + 1 + i = omega arith in z))),
  )
  range_alike a b zero (suc m) e h = absurd (omega (arith, e))
  range_alike a b (suc n) zero e h = absurd (omega (arith, e))

  alike_values : (ns ms : List ℕ) → Alike v u ns ms → map v ns ≡ map u ms
  alike_values [] [] e = refl
  alike_values (n ∷ ns) (m ∷ ms) e = ap (λ b. b ∷ map v ns) e.0 ∙ ap (λ l. u m ∷ l) (alike_values ns ms e.1)
  alike_values [] (m ∷ ms) e = absurd e
  alike_values (n ∷ ns) [] e = absurd e

  -- terms
  terms_append : (s s' t t' : List Literal) → term_holds v s ≡ term_holds u s' → term_holds v t ≡ term_holds u t' →
      term_holds v (s ++ t) ≡ term_holds u (s' ++ t')
  terms_append s s' t t' e f = both v s t ∙ (ap (λ b. b && term_holds v t) e ∙ (ap (λ b. term_holds u s' && b) f ∙ sym (both u s' t')))
    where
      apart : (a b c : Bool) → (a && (b && c)) ≡ ((a && b) && c)
      apart true b c = refl
      apart false b c = refl

      both : (w : ℕ → Bool) (s t : List Literal) → term_holds w (s ++ t) ≡ (term_holds w s && term_holds w t)
      both w [] t = refl
      both w (l ∷ s) t = ap (λ b. literal_holds w l && b) (both w s t) ∙ apart (literal_holds w l) (term_holds w s) (term_holds w t)

  one_alike : (s t : List Literal) → term_holds v s ≡ term_holds u t → guard_holds v (one_term s) ≡ guard_holds u (one_term t)
  one_alike s t e = ap (λ b. b || false) e

  falses_alike : (hs ks : List Pair) → PairsAlike hs ks → term_holds v (all_false hs) ≡ term_holds u (all_false ks)
  falses_alike [] [] e = refl
  falses_alike (h ∷ hs) (k ∷ ks) e = ap (λ b. b && term_holds v (all_false hs)) e.1 ∙ ap (λ b. u k.f && b) (falses_alike hs ks e.2)
  falses_alike [] (k ∷ ks) e = absurd e
  falses_alike (h ∷ hs) [] e = absurd e

  lows_alike : (ns ms : List ℕ) → Alike v u ns ms → term_holds v (lows ns) ≡ term_holds u (lows ms)
  lows_alike [] [] e = refl
  lows_alike (n ∷ ns) (m ∷ ms) e = ap (λ b. not b && term_holds v (lows ns)) e.0 ∙ ap (λ b. not (u m) && b) (lows_alike ns ms e.1)
  lows_alike [] (m ∷ ms) e = absurd e
  lows_alike (n ∷ ns) [] e = absurd e

  rails_low : (hs ks : List Pair) → PairsAlike hs ks → term_holds v (lows (rails_of hs)) ≡ term_holds u (lows (rails_of ks))
  rails_low [] [] e = refl
  rails_low (h ∷ hs) (k ∷ ks) e =
      ap (λ b. not b && (not (v h.f) && term_holds v (lows (rails_of hs)))) e.0
      ∙ (ap (λ b. not (u k.t) && (not b && term_holds v (lows (rails_of hs)))) e.1 ∙ ap (λ b. not (u k.t) && (not (u k.f) && b)) (rails_low hs ks e.2))
  rails_low [] (k ∷ ks) e = absurd e
  rails_low (h ∷ hs) [] e = absurd e

  some_alike : (ns ms : List ℕ) → Alike v u ns ms → guard_holds v (map (λ k. is_high k ∷ []) ns) ≡ guard_holds u (map (λ k. is_high k ∷ []) ms)
  some_alike [] [] e = refl
  some_alike (n ∷ ns) (m ∷ ms) e =
      ap (λ b. (b && true) || guard_holds v (map (λ k. is_high k ∷ []) ns)) e.0 ∙ ap (λ b. (u m && true) || b) (some_alike ns ms e.1)
  some_alike [] (m ∷ ms) e = absurd e
  some_alike (n ∷ ns) [] e = absurd e

  -- the latches and the starts
  abbrev latches_of : (request : ℕ) → List (List Literal) → List NodeRules
  latches_of request ts = map (λ (wanted : List Literal). record { up = one_term wanted; down = one_term (is_low request ∷ []) }) ts

  ones_alike : (r s : ℕ) → v r ≡ u s → (before other hs ks : List Pair) → PairsAlike before other → PairsAlike hs ks
      → RulesAlike v u (latches_of r (only_one_true before hs)) (latches_of s (only_one_true other ks))
  ones_alike r s asked before other [] [] e f = tt
  ones_alike r s asked before other (h ∷ hs) (k ∷ ks) e f = (
    one_alike (all_false before ++ is_high h.t ∷ all_false hs) (all_false other ++ is_high k.t ∷ all_false ks)
        (terms_append (all_false before) (all_false other) (is_high h.t ∷ all_false hs) (is_high k.t ∷ all_false ks) (falses_alike before other e)
        (ap (λ b. b && term_holds v (all_false hs)) f.0 ∙ ap (λ b. u k.t && b) (falses_alike hs ks f.2))),
    same_low v u r s asked,
    ones_alike r s asked (before ++ h ∷ []) (other ++ k ∷ []) hs ks (pairs_append before other (h ∷ []) (k ∷ []) e (f.0, f.1, tt)) f.2,
  )
  ones_alike r s asked before other [] (k ∷ ks) e f = absurd f
  ones_alike r s asked before other (h ∷ hs) [] e f = absurd f

  starts_alike : (ls ms : List ℕ) (hs ks : List Pair) → Alike v u ls ms → PairsAlike hs ks → RulesAlike v u (starts ls hs) (starts ms ks)
  starts_alike [] [] hs ks e f = tt
  starts_alike (l ∷ ls) (m ∷ ms) hs ks e f = (
    one_alike (is_high l ∷ lows (rails_of hs)) (is_high m ∷ lows (rails_of ks))
        (ap (λ b. b && term_holds v (lows (rails_of hs))) e.0 ∙ ap (λ b. u m && b) (rails_low hs ks f)),
    same_low v u l m e.0,
    starts_alike ls ms hs ks e.1 f,
  )
  starts_alike [] (m ∷ ms) hs ks e f = absurd e
  starts_alike (l ∷ ls) [] hs ks e f = absurd e

  -- the nodes of two selections have the same values
  pub record SameChoosing (c d : Choosing) : Type 0 where
    pub request : v c.request ≡ u d.request
    pub any : v c.any ≡ u d.any
    pub latched : Alike v u c.latched d.latched
    pub guards : PairsAlike c.guards d.guards
    pub answers : Alike v u c.answers d.answers

  behind : (c d : Choosing) → SameChoosing c d
      → RulesAlike v u (latches c.request c.guards ++ starts c.latched c.guards) (latches d.request d.guards ++ starts d.latched d.guards)
  behind c d e = rules_append v u (latches c.request c.guards) (latches d.request d.guards) (starts c.latched c.guards) (starts d.latched d.guards)
      (ones_alike c.request d.request e.request [] [] c.guards d.guards tt e.guards) (starts_alike c.latched d.latched c.guards d.guards e.latched e.guards)

  joined_down : (a b : ℕ) (ns ms : List ℕ) → v a ≡ u b → Alike v u ns ms
      → guard_holds v (one_term (is_low a ∷ lows ns)) ≡ guard_holds u (one_term (is_low b ∷ lows ms))
  joined_down a b ns ms e f = one_alike (is_low a ∷ lows ns) (is_low b ∷ lows ms) (ap (λ z. not z && term_holds v (lows ns)) e
      ∙ ap (λ z. not (u b) && z) (lows_alike ns ms f))

  pub selects_alike : (c d : Choosing) → SameChoosing c d → RulesAlike v u (select_rules c) (select_rules d)
  selects_alike c d e = (
    some_alike c.answers d.answers e.answers,
    joined_down c.any d.any c.answers d.answers e.any e.answers,
    (
      same_mixed v u c.request c.any d.request d.any e.request e.any,
      same_high v u c.any d.any e.any,
      merges_alike v u c.latched d.latched (latches c.request c.guards ++ starts c.latched c.guards) (latches d.request d.guards ++ starts d.latched d.guards)
          (alike_values c.latched d.latched e.latched) (behind c d e),
    ),
  )

  pub agains_alike : (p q : Repeating) → v p.request ≡ u q.request → v p.joined ≡ u q.joined → v p.leave ≡ u q.leave → SameChoosing p.turn q.turn
      → RulesAlike v u (again_rules p) (again_rules q)
  agains_alike p q asked joined leave e =
      let c = p.turn in
      let d = q.turn in
      let rest = behind c d e in (
        one_alike (is_high p.leave ∷ lows (rails_of c.guards)) (is_high q.leave ∷ lows (rails_of d.guards))
            (ap (λ b. b && term_holds v (lows (rails_of c.guards))) leave ∙ ap (λ b. u q.leave && b) (rails_low c.guards d.guards e.guards)),
        same_low v u c.any d.any e.any,
        (
          same_mixed v u p.request p.joined q.request q.joined asked joined,
          ap (λ b. (b && true) || ((not (v p.request) && true) || false)) joined ∙ ap (λ b. (u q.joined && true) || ((not b && true) || false)) asked,
          (
            some_alike c.answers d.answers e.answers,
            joined_down c.any d.any c.answers d.answers e.any e.answers,
            (
              same_mixed v u c.request c.any d.request d.any e.request e.any,
              same_high v u c.any d.any e.any,
              merges_alike v u (p.leave ∷ c.latched) (q.leave ∷ d.latched)
                  (leave_latch c.request c.guards ∷ (latches c.request c.guards ++ starts c.latched c.guards))
                  (leave_latch d.request d.guards ∷ (latches d.request d.guards ++ starts d.latched d.guards))
                  (alike_values (p.leave ∷ c.latched) (q.leave ∷ d.latched) (leave, e.latched)) (
                    one_alike (all_false c.guards) (all_false d.guards) (falses_alike c.guards d.guards e.guards),
                    same_low v u c.request d.request e.request,
                    rest,
                  ),
            ),
          ),
        ),
      )
