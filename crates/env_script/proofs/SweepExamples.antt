-- Sweeps and layers of a small net, computed: go raises a and b, and b raises c.
use Rattle.std.proofs.Common.{◌≡◌, ℕ, zero, suc, ◌≤◌, Bool, true, false, List, [], ◌∷◌, refl, sym, ap, ◌∙◌, arith}
use Rattle.std.specs.Prelude.{if◌then◌else◌, Contains, None}
use Rattle.std.proofs.lemmas.Bool.{or_from, and_left, ne_eqb}
use Rattle.std.proofs.lemmas.List.{get_or_past}
use Rattle.prs_core.specs.declared.rule.Literal.{Literal}
use Rattle.prs_core.specs.Nets.{NetValue, GuardValue}
use Rattle.prs_core.specs.Moves.{high, guard_holds}
use Rattle.env_script.specs.Runs.{RunState, move_enabled, after, run_start, IsRun}
use Rattle.env_script.specs.Sweeps.{IsSweep, Sweeps, IsLayer, Layers}

abbrev hi : ℕ → Literal
hi n = record { node = n; high = true }

-- the nodes are go, a, b and c
abbrev raises : NetValue
raises = record {
  names = [];
  first = false ∷ false ∷ false ∷ false ∷ [];
  up = [] ∷ ((hi 0 ∷ []) ∷ []) ∷ ((hi 0 ∷ []) ∷ []) ∷ ((hi 2 ∷ []) ∷ []) ∷ [];
  down = [] ∷ [] ∷ [] ∷ [] ∷ [];
  channels = [];
  reset = None;
}

-- go, then b, c and a
abbrev b_first : List ℕ
b_first = 0 ∷ 2 ∷ 3 ∷ 1 ∷ []

is_run : IsRun raises [] (run_start raises) b_first
is_run = (refl, (refl, (refl, (refl, tt))))

never : {A : Type 0} → false ≡ true → A
never e = absurd (cc e)

-- no other node has a rule
far : (st : RunState) (n : ℕ) → 4 ≤ n → move_enabled raises [] st n ≡ false
far st n h = or_from _ _ (by (high st.values n) _ _ (get_or_past raises.down n [] h) (get_or_past raises.up n [] h))
    (or_from _ _ (and_left _ _ (ne_eqb n 0 (λ e. omega (arith, e, h)))) refl)
  where
    by : (b : Bool) (d u : GuardValue) → d ≡ [] → u ≡ [] → (if b then guard_holds (high st.values) d else guard_holds (high st.values) u) ≡ false
    by true d u e f = ap (guard_holds (high st.values)) e
    by false d u e f = ap (guard_holds (high st.values)) f

-- the first sweep is go's move alone
go_sweeps : IsSweep raises [] (run_start raises) (0 ∷ [])
go_sweeps zero e = (0, omega arith, refl)
go_sweeps (suc zero) e = never e
go_sweeps (suc (suc zero)) e = never e
go_sweeps (suc (suc (suc zero))) e = never e
go_sweeps (suc (suc (suc (suc n)))) e = never (sym (far (run_start raises) (suc (suc (suc (suc n)))) (omega arith)) ∙ e)

-- the second ends with a's move, which was enabled by go
others_sweep : IsSweep raises [] (after raises (run_start raises) (0 ∷ [])) (2 ∷ 3 ∷ 1 ∷ [])
others_sweep zero e = never e
others_sweep (suc zero) e = (2, omega arith, refl)
others_sweep (suc (suc zero)) e = (0, omega arith, refl)
others_sweep (suc (suc (suc zero))) e = (1, omega arith, refl)
others_sweep (suc (suc (suc (suc n)))) e = never (sym (far (after raises (run_start raises) (0 ∷ [])) (suc (suc (suc (suc n)))) (omega arith)) ∙ e)

pub two_sweeps : Sweeps raises [] (run_start raises) 2 b_first
two_sweeps = (0 ∷ [], 2 ∷ 3 ∷ 1 ∷ [], refl, go_sweeps, (2 ∷ 3 ∷ 1 ∷ [], [], refl, others_sweep, tt))

-- without it there is no second sweep
pub no_sweep : ¬ IsSweep raises [] (after raises (run_start raises) (0 ∷ [])) (2 ∷ 3 ∷ [])
no_sweep h = by (h 1 refl)
  where
    by : ¬ Contains {X = ℕ} (2 ∷ 3 ∷ []) 1
    by (zero, less, e) = cc e
    by (suc zero, less, e) = cc e
    by (suc (suc k), less, e) = absurd (omega (arith, less))

-- the layers are go, then a and b, then c
pub two_layers : Layers raises [] (run_start raises) 2 (0 ∷ 1 ∷ 2 ∷ [])
two_layers = (0 ∷ [], 1 ∷ 2 ∷ [], refl, (refl, none 0, tt), (1 ∷ 2 ∷ [], [], refl, (refl, not_two, (refl, none 2, tt)), refl))
  where
    none : (n : ℕ) → ¬ Contains {X = ℕ} [] n
    none n (k, less, e) = absurd (omega (arith, less))

    not_two : ¬ Contains {X = ℕ} (2 ∷ []) 1
    not_two (zero, less, e) = cc e
    not_two (suc k, less, e) = absurd (omega (arith, less))

-- c isn't of the second layer: it is enabled by b's move there
pub no_layer : ¬ IsLayer raises [] (after raises (run_start raises) (0 ∷ [])) (2 ∷ 3 ∷ [])
no_layer l = never l.2.0

-- two sweeps overtake two layers: with c behind these they make the same moves, and come to the same state
pub one_state : after raises (run_start raises) (0 ∷ 1 ∷ 2 ∷ 3 ∷ []) ≡ after raises (run_start raises) b_first
one_state = refl
