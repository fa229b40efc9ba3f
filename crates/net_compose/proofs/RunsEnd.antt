-- Where a program comes to rest, each run of its net does: within a bound, and level with the program.
use Rattle.std.proofs.Common.{◌≡◌, ℕ, suc, ◌*◌, ◌≤◌, List, length, Some, sym, ap, ◌∙◌, subst, arith}
use Rattle.env_script.specs.Scripts.{OfferValue}
use Rattle.env_script.specs.Runs.{history_at, begin_at, after}
use Rattle.width_check.specs.Processes.{TypedProgram}
use Rattle.width_check.specs.Sharing.{MeetsSharing}
use Rattle.handshake_expand.specs.Layout.{nodes_of}
use Rattle.chp_meaning.specs.Terms.{Place}
use Rattle.chp_meaning.specs.Steps.{Configuration, Step, Leads}
use Rattle.chp_meaning.specs.Rounds.{step_at}
use Rattle.chp_meaning.specs.Laws.{IsBehind, OneHistory, RoundsHold, OneEnd}
use Rattle.chp_meaning.specs.Halves.{ReadsNoTarget, HalvesArePlain, HalvesKeepPace}
use Rattle.circuit_places.specs.Carried.{CircuitsCarry}
use Rattle.net_compose.specs.Translation.{translation}
use Rattle.net_compose.specs.Carries.{Carries}
use Rattle.net_compose.specs.Points.{IsTranslated}
use Rattle.net_compose.specs.Progress.{IsLevel, KeepsPace, WhereItRests, ProgressesFrom, Progresses, most_moves, plain_most_moves}
use Rattle.net_compose.proofs.Passing.{same_end}
use Rattle.net_compose.proofs.HalvedCarried.{scaled, translation_paid, translation_past, plainly_paid}
use Rattle.net_compose.proofs.RunsOn.{goes_on}

more_steps : (l b n k : ℕ) → l ≤ b * suc n → n ≤ k → l ≤ b * suc k
more_steps l b n k long few =
    let e : suc n * b ≤ suc k * b = scaled (suc n) (suc k) b (omega (arith, few)) in
    omega (arith, long, e)

-- what is assumed here are laws of steps and rounds, of programs in halves, and that of circuits as trees of cells
module _ (steps_taken : (c d : Configuration) (at : Place) → step_at c at ≡ Some d → Step c at d)
    (append : (c d : Configuration) (n : ℕ) → Leads c n d → IsBehind c d)
    (one : (p : TypedProgram) (script : List OfferValue) → MeetsSharing p.body → OneHistory p script)
    (hold : (p : TypedProgram) (script : List OfferValue) → MeetsSharing p.body → RoundsHold p script)
    (one_end : (p : TypedProgram) (script : List OfferValue) → MeetsSharing p.body → OneEnd p script)
    (halves : HalvesArePlain) (circuits : CircuitsCarry) (P : TypedProgram) (is : IsTranslated P) (carries : Carries (translation P) P) where
  -- a net that keeps pace, and carries its program
  keeping : (most : ℕ → ℕ) → ((n k : ℕ) → n ≤ k → most n ≤ most k) → KeepsPace (translation P) P most (translation P).first
      → ProgressesFrom (translation P) P most (translation P).first
  keeping most grows pace = record {
    pace = pace;
    bounded = bounded;
    rests = λ script fits m c over moves run.
        goes_on (translation P) script (nodes_of P) (translation_past halves P is.typed is.sharing script) (most m) (most m)
        (begin_at (translation P) (translation P).first) (bounded script fits m c over) moves run (omega arith);
    level = λ script fits m c over moves run still.
        let z = (carries.runs script fits moves run).rest still in
        let same = same_end steps_taken append one hold P script is.sharing m (length moves) c over.leads over.still z.still in
        subst (λ d. IsLevel (after (translation P) (begin_at (translation P) (translation P).first) moves) d) same
        (record { whole = z.whole; answer = z.answer });
  }
    where
      bounded : WhereItRests (translation P) P (translation P).first (λ m c script moves. length moves ≤ most m)
      bounded script fits m c over moves run =
          let r = pace script fits moves run in
          let few = r.4 in
          let more = grows r.0 m (one_end P script is.sharing m r.0 c r.1 over.leads over.still r.2) in
          omega (arith, few, more)

  pub translation_progresses : HalvesKeepPace → Progresses (translation P) P
  translation_progresses keep = keeping (most_moves P) (λ n k few. more_steps _ (2 * nodes_of P) (2 * n) (2 * k) (omega arith) (omega (arith, few))) pace
    where
      pace : KeepsPace (translation P) P (most_moves P) (translation P).first
      pace script fits moves run =
          let r = translation_paid halves circuits P is.typed is.sharing script fits moves run in
          let s = keep P script is.typed is.sharing r.0 r.1 r.2 in (
            s.0,
            s.1,
            s.2,
            (λ k. ap (λ hs. history_at hs k) (sym (s.3 ∙ r.3))),
            more_steps (length moves) (2 * nodes_of P) r.0 (2 * s.0) r.4 s.4,
          )

  pub plain_translation_progresses : ReadsNoTarget P.body → ProgressesFrom (translation P) P (plain_most_moves P) (translation P).first
  plain_translation_progresses plain =
      keeping (plain_most_moves P) (λ n k few. more_steps _ (2 * nodes_of P) n k (omega arith) few) pace
    where
      pace : KeepsPace (translation P) P (plain_most_moves P) (translation P).first
      pace script fits moves run =
          let r = plainly_paid circuits P is.typed is.sharing plain script fits moves run in
          (r.0, r.1, r.2, (λ k. ap (λ hs. history_at hs k) (sym r.3)), r.4)
