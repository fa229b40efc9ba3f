-- Sweeps behind moves that come before them, in a run that has come to rest, and in a timed run that has lasted.
use Rattle.std.proofs.Common.{◌≡◌, ◌⊎◌, ℕ, zero, suc, ◌*◌, true, List, [], ◌∷◌, ◌++◌, refl, sym, ap, ◌∙◌, subst, inl, inr, append-nil, append_assoc}
use Rattle.std.specs.Prelude.{Contains}
use Rattle.std.proofs.lemmas.Bool.{cases_eq}
use Rattle.prs_core.specs.Nets.{NetValue}
use Rattle.env_script.specs.Scripts.{OfferValue}
use Rattle.env_script.specs.Runs.{RunState, move_enabled, moved, after, IsRun, IsAtRest}
use Rattle.env_script.specs.OneLength.{AllSafe}
use Rattle.env_script.specs.Sweeps.{IsSweep, Sweeps}
use Rattle.env_script.proofs.Fronts.{safe_move, safe_behind}
use Rattle.env_script.proofs.Overtakes.{Among, among, contained, after_on}
use Rattle.delay_script.specs.declared.noted.NotedMove.{NotedMove}
use Rattle.delay_script.specs.DelayTables.{DelayTable, TakesAtMost}
use Rattle.delay_script.specs.TimedRuns.{moved_nodes, ComeNext, IsTimedRun}
use Rattle.delay_script.proofs.Sinces.{is_enabled}
use Rattle.delay_script.proofs.Coming.{nodes_more}
use Rattle.delay_script.proofs.TimedSweeps.{timed_sweeps}
use Rattle.net_pace.specs.Lasting.{HasLasted}

pub among_first : (xs ys : List ℕ) (x : ℕ) → Among xs x → Among (xs ++ ys) x
among_first [] ys x i = absurd i
among_first (y ∷ xs) ys x (inl e) = inl e
among_first (y ∷ xs) ys x (inr i) = inr (among_first xs ys x i)

pub among_last : (xs ys : List ℕ) (x : ℕ) → Among ys x → Among (xs ++ ys) x
among_last [] ys x i = i
among_last (y ∷ xs) ys x i = inr (among_last xs ys x i)

module _ (net : NetValue) (script : List OfferValue) where
  -- an enabled node moves in the run, or is enabled behind it
  moves_or_stays : (n : ℕ) (ns : List ℕ) (st : RunState) → AllSafe net script st → IsRun net script st ns → move_enabled net script st n ≡ true →
      Among ns n ⊎ (move_enabled net script (after net st ns) n ≡ true)
  moves_or_stays n [] st all run on = inr on
  moves_or_stays n (m ∷ ns) st all run on =
      by (cases_eq m n) (λ apart. moves_or_stays n ns (moved net st m) (safe_behind net script st m all run.0) run.1
      ((safe_move net script st m all run.0).stable n (λ e. apart (sym e)) on))
    where
      by : (m ≡ n) ⊎ (m ≡ n → ⊥) → ((m ≡ n → ⊥) → Among ns n ⊎ (move_enabled net script (after net st (m ∷ ns)) n ≡ true)) →
          Among (m ∷ ns) n ⊎ (move_enabled net script (after net st (m ∷ ns)) n ≡ true)
      by (inl same) later = inl (inl same)
      by (inr apart) later = and_then (later apart)
        where
          and_then : Among ns n ⊎ (move_enabled net script (after net st (m ∷ ns)) n ≡ true) →
              Among (m ∷ ns) n ⊎ (move_enabled net script (after net st (m ∷ ns)) n ≡ true)
          and_then (inl i) = inl (inr i)
          and_then (inr still) = inr still

  -- a sweep with moves before it is one
  longer_sweep : (xs ns : List ℕ) (st : RunState) → AllSafe net script st → IsRun net script st xs → IsSweep net script (after net st xs) ns
      → IsSweep net script st (xs ++ ns)
  longer_sweep xs ns st all run is n on = by (moves_or_stays n xs st all run on)
    where
      by : Among xs n ⊎ (move_enabled net script (after net st xs) n ≡ true) → Contains (xs ++ ns) n
      by (inl i) = contained (xs ++ ns) n (among_first xs ns n i)
      by (inr still) = contained (xs ++ ns) n (among_last xs ns n (among ns n (is n still)))

  pub sweeps_behind : (k : ℕ) (xs ns : List ℕ) (st : RunState) → AllSafe net script st → IsRun net script st xs → Sweeps net script (after net st xs) k ns
      → Sweeps net script st k (xs ++ ns)
  sweeps_behind zero xs ns st all run s = tt
  sweeps_behind (suc k) xs ns st all run s = (
    xs ++ s.0,
    s.1,
    ap (λ l. xs ++ l) s.2 ∙ sym (append_assoc xs s.0 s.1),
    longer_sweep xs s.0 st all run s.3,
    subst (λ (x : RunState). Sweeps net script x k s.1) (sym (after_on net script st xs s.0)) s.4,
  )

  -- where nothing is enabled a sweep has no moves
  none_sweep : (k : ℕ) (st : RunState) → IsAtRest net script st → Sweeps net script st k []
  none_sweep zero st rests = tt
  none_sweep (suc k) st rests = ([], [], refl, (λ n on. absurd (cc (on, rests n))), none_sweep k st rests)

  pub resting_sweeps : (k : ℕ) (ns : List ℕ) (st : RunState) → AllSafe net script st → IsRun net script st ns → IsAtRest net script (after net st ns)
      → Sweeps net script st k ns
  resting_sweeps k ns st all run rests =
      subst (λ (l : List ℕ). Sweeps net script st k l) (append-nil ns) (sweeps_behind k ns [] st all run (none_sweep k (after net st ns) rests))

  -- timed runs are runs
  module _ (d : DelayTable) (st : RunState) where
    come_run : (before ms : List NotedMove) → ComeNext d net script st before ms → IsRun net script (after net st (moved_nodes before)) (moved_nodes ms)
    come_run before [] next = tt
    come_run before (m ∷ ms) next = (
      is_enabled net script st (moved_nodes before) m.node m.cause next.0.cause,
      subst (λ (x : RunState). IsRun net script x (moved_nodes ms))
          (ap (after net st) (nodes_more before m) ∙ after_on net script st (moved_nodes before) (m.node ∷ [])) (come_run (before ++ m ∷ []) ms next.1),
    )

    pub timed_run : (ms : List NotedMove) → IsTimedRun d net script st ms → IsRun net script st (moved_nodes ms)
    timed_run ms timed = come_run [] ms timed

  -- one that has lasted so many delays begins with as many sweeps
  pub lasting_sweeps : (most : ℕ) (d : DelayTable) → TakesAtMost most d → (st : RunState) → AllSafe net script st → (ms : List NotedMove)
      → IsTimedRun d net script st ms → (k : ℕ) → HasLasted net script st ms (k * most) → Sweeps net script st k (moved_nodes ms)
  lasting_sweeps most d few st all ms timed k (inl far) = timed_sweeps most d few net script st all ms timed k far
  lasting_sweeps most d few st all ms timed k (inr rests) = resting_sweeps k (moved_nodes ms) st all (timed_run d st ms timed) rests
