-- The layers of a net are those of the same net with its nodes numbered otherwise.
--
-- A: the net; B: the same net with its nodes numbered otherwise; f: the number in A of a node of B; ns: moves of B.
use Rattle.std.proofs.Common.{◌≡◌, ℕ, zero, suc, ◌<◌, ◌≤◌, ◌⊎◌, inl, inr, Bool, true, List, [], ◌∷◌, ◌++◌, None, refl, sym, ap, ◌∙◌, subst}
use Rattle.std.proofs.lemmas.Bool.{cases_lt}
use Rattle.prs_core.specs.Nets.{RulesValue, NetValue, net_of}
use Rattle.prs_core.specs.declared.wires.Wires.{Wires}
use Rattle.env_script.specs.Scripts.{OfferValue}
use Rattle.env_script.specs.Runs.{RunState, history_at, begin_at, after, moved, move_enabled}
use Rattle.env_script.specs.Sweeps.{IsLayer, Layers}
use Rattle.env_script.proofs.Overtakes.{Among, among, contained, after_on}
use Rattle.width_check.specs.Processes.{TypedProgram}
use Rattle.net_compose.specs.Time.{PassesInLayers}
use Rattle.net_compose.proofs.Renamed.{IsRenaming, Mirrors, enabled_same, moved_same, past_other, mirrors_first}

module _ (names more_names : List (List ℕ)) (firsts more_firsts : List Bool) (rules more_rules : RulesValue) (ws : List Wires) (f : ℕ → ℕ) (count low : ℕ) where
  abbrev A : NetValue
  A = net_of names firsts rules ws None

  abbrev B : NetValue
  B = net_of more_names more_firsts more_rules ws None

  abbrev named : List ℕ → List ℕ
  named [] = []
  named (n ∷ ns) = f n ∷ named ns

  named_on : (xs ys : List ℕ) → named (xs ++ ys) ≡ named xs ++ named ys
  named_on [] ys = refl
  named_on (x ∷ xs) ys = ap (λ l. f x ∷ l) (named_on xs ys)

  module _ (is : IsRenaming A B f count low) (script : List OfferValue) where
    abbrev Same : RunState → RunState → Type 0
    Same st there = Mirrors names more_names firsts more_firsts rules more_rules ws f count low is script st there

    counted : (there : RunState) (n : ℕ) → move_enabled B script there n ≡ true → n < count
    counted there n on = by (cases_lt n count)
      where
        by : (n < count) ⊎ (count ≤ n) → n < count
        by (inl less) = less
        by (inr far) = absurd (cc (past_other names more_names firsts more_firsts rules more_rules ws f count low is script there n far, on))

    back : (there : RunState) (ns : List ℕ) → IsLayer B script there ns → (n : ℕ) → n < count → Among (named ns) (f n) → Among ns n
    back there [] l n less a = absurd a
    back there (m ∷ ms) l n less (inl e) = inl (is.apart m n (counted there m l.0) less e)
    back there (m ∷ ms) l n less (inr a) = inr (back there ms l.2 n less a)

    layer : (st there : RunState) → Same st there → (ns : List ℕ) → IsLayer B script there ns → IsLayer A script st (named ns)
    layer st there m [] l = tt
    layer st there m (n ∷ ns) l =
        let less = counted there n l.0 in (
          enabled_same names more_names firsts more_firsts rules more_rules ws f count low is script st there m n less ∙ l.0,
          λ c. l.1 (contained ns n (back there ns l.2 n less (among (named ns) (f n) c))),
          layer st there m ns l.2,
        )

    -- moves that are a layer where the moves begin
    same_after : (st there begin : RunState) → Same st there → (ns : List ℕ) → IsLayer B script begin ns → Same (after A st (named ns)) (after B there ns)
    same_after st there begin m [] l = m
    same_after st there begin m (n ∷ ns) l = same_after (moved A st (f n)) (moved B there n) begin
        (moved_same names more_names firsts more_firsts rules more_rules ws f count low is script st there m n (counted begin n l.0)) ns l.2

    layers : (k : ℕ) (st there : RunState) → Same st there → (ns : List ℕ) → Layers B script there k ns → Layers A script st k (named ns)
    layers zero st there m ns l = ap named l
    layers (suc k) st there m ns l = (
      named l.0,
      named l.1,
      ap named l.2 ∙ named_on l.0 l.1,
      layer st there m l.0 l.3,
      layers k (after A st (named l.0)) (after B there l.0) (same_after st there there m l.0 l.3) l.1 l.4,
    )

    same_behind : (k : ℕ) (st there : RunState) → Same st there → (ns : List ℕ) → Layers B script there k ns → Same (after A st (named ns)) (after B there ns)
    same_behind zero st there m ns l = subst (λ (z : List ℕ). Same (after A st (named z)) (after B there z)) (sym l) m
    same_behind (suc k) st there m ns l =
        let r = same_behind k (after A st (named l.0)) (after B there l.0) (same_after st there there m l.0 l.3) l.1 l.4 in
        let a : after A st (named ns) ≡ after A (after A st (named l.0)) (named l.1) = ap (after A st) (ap named l.2 ∙ named_on l.0 l.1)
        ∙ after_on A script st (named l.0) (named l.1) in
        let b : after B there ns ≡ after B (after B there l.0) l.1 = ap (after B there) l.2 ∙ after_on B script there l.0 l.1 in
        subst (λ (z : RunState). Same z (after B there ns)) (sym a) (subst (λ (z : RunState). Same (after A (after A st (named l.0)) (named l.1)) z) (sym b) r)

  pub renamed_passes : IsRenaming A B f count low → (P : TypedProgram) (script : List OfferValue) (n k : ℕ) → PassesInLayers B P script n k
      → PassesInLayers A P script n k
  renamed_passes is P script n k r =
      let first = mirrors_first names more_names firsts more_firsts rules more_rules ws f count low is script in
      let last = same_behind is script k (begin_at A firsts) (begin_at B more_firsts) first r.0 r.1 in (
        named r.0,
        layers is script k (begin_at A firsts) (begin_at B more_firsts) first r.0 r.1,
        λ c. let z = r.2 c in (z.0, ap (λ hs. history_at hs c) last.histories ∙ z.1),
      )
