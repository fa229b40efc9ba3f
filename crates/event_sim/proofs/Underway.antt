-- A simulation that is underway, and how it ends.
use Rattle.std.proofs.Common.{◌≡◌, ℕ, zero, suc, ◌+◌, ◌<◌, ◌≤◌, Bool, false, List, [], ◌∷◌, ◌++◌, length, get_or, take, sym, ap, subst, ◌∙◌, inl, inr, arith}
use Rattle.std.specs.Prelude.{◌⊎◌, ◌==◌, Option, None, option_to_list}
use Rattle.std.proofs.lemmas.Bool.{ne_eqb, cases_lt}
use Rattle.std.proofs.lemmas.List.{length_push, take-append-le, take_all}
use Rattle.prs_core.specs.Nets.{NetValue}
use Rattle.prs_core.specs.Moves.{high}
use Rattle.env_script.specs.declared.hazard.Hazard.{Hazard}
use Rattle.env_script.specs.Scripts.{OfferValue}
use Rattle.env_script.specs.Runs.{RunState, moved, after}
use Rattle.env_script.specs.Hazards.{hazard_of}
use Rattle.event_sim.specs.Following.{enabled_moves, follow}
use Rattle.event_sim.specs.Passing.{completion, passed_in}
use Rattle.event_sim.specs.Ends.{last_hazard, end_with, end_after}
use Rattle.event_sim.specs.Simulating.{SimValue, start_at}
use Rattle.event_sim.specs.Stages.{StageValue, now_of, moves_now, IsUnderway}
use Rattle.event_sim.proofs.Following.{after_more, follow_more, follow_length, picks_more, last_more, passed_more}

-- the enabled moves of the stage are those after the moves so far
pub moves_are : (s : SimValue) (picks : List ℕ) (stage : StageValue) (hazard : Option Hazard) → IsUnderway s picks stage hazard →
    moves_now stage ≡ enabled_moves s.net s.script (after s.net (start_at s) (follow s.net s.script (start_at s) picks))
moves_are s picks stage hazard is =
    ap (λ (w : NetValue). enabled_moves w stage.script (now_of stage)) is.net ∙ ap (λ (e : List OfferValue). enabled_moves s.net e (now_of stage)) is.script
    ∙ ap (λ (r : RunState). enabled_moves s.net s.script r) is.now

-- how the run so far has ended
pub end_is : (s : SimValue) (picks : List ℕ) (stage : StageValue) (hazard : Option Hazard) (spent : Bool) → IsUnderway s picks stage hazard →
    (length picks == s.steps) ≡ spent → end_with hazard (moves_now stage) spent ≡ end_after s.net s.script s.steps (start_at s)
    (follow s.net s.script (start_at s) picks)
end_is s picks stage hazard spent is counted =
    ap (λ (h : Option Hazard). end_with h (moves_now stage) spent) is.hazard
    ∙ ap (λ (xs : List ℕ). end_with (last_hazard s.net s.script (start_at s) moves) xs spent) (moves_are s picks stage hazard is)
    ∙ ap (λ (b : Bool). end_with (last_hazard s.net s.script (start_at s) moves) (enabled_moves s.net s.script (after s.net (start_at s) moves)) b)
    (sym counted ∙ ap (λ (k : ℕ). k == s.steps) (sym (follow_length s.net s.script (start_at s) picks)))
  where
    moves : List ℕ
    moves = follow s.net s.script (start_at s) picks

-- one more move
pub step : (s : SimValue) (picks : List ℕ) (stage later : StageValue) (hazard brought : Option Hazard) (p node : ℕ) → IsUnderway s picks stage hazard →
    length picks < s.steps → end_with hazard (moves_now stage) false ≡ None → p < length (moves_now stage) → node ≡ get_or (moves_now stage) p node →
    later.net ≡ stage.net → later.script ≡ stage.script → now_of later ≡ moved stage.net (now_of stage) node →
    later.passed ≡ stage.passed ++ option_to_list (completion stage.net (high stage.values) node) → stage.room ≤ later.room + 1 →
    brought ≡ hazard_of stage.net stage.script (now_of stage) node → IsUnderway s (picks ++ p ∷ []) later brought
step s picks stage later hazard brought p node is few goes within here same_net same_script then_now then_passed room brings =
    record {
      net = same_net ∙ is.net;
      script = same_script ∙ is.script;
      now = then_now ∙ ap (λ (w : NetValue). moved w (now_of stage) node) is.net ∙ ap (λ (r : RunState). moved s.net r node) is.now
          ∙ sym (after_more s.net start moves node) ∙ ap (after s.net start) (sym more);
      passed = then_passed ∙ ap (λ (w : NetValue). stage.passed ++ option_to_list (completion w (high stage.values) node)) is.net
          ∙ ap (λ (r : RunState). stage.passed ++ option_to_list (completion s.net (high r.values) node)) is.now
          ∙ ap (λ ps. ps ++ option_to_list (completion s.net (high (after s.net start moves).values) node)) is.passed ∙ sym (passed_more s.net start moves node)
          ∙ ap (passed_in s.net start) (sym more);
      room = omega (arith, is.room, length_push picks p);
      picks = picks_more s.net s.script start picks p is.picks (subst (λ (xs : List ℕ). p < length xs) listed within);
      hazard = brings ∙ ap (λ (w : NetValue). hazard_of w stage.script (now_of stage) node) is.net
          ∙ ap (λ (e : List OfferValue). hazard_of s.net e (now_of stage) node) is.script ∙ ap (λ (r : RunState). hazard_of s.net s.script r node) is.now
          ∙ sym (last_more s.net s.script start moves node) ∙ ap (last_hazard s.net s.script start) (sym more);
      no_end = λ k below. by_place k (cases_lt k (length picks)) below;
    }
  where
    start : RunState
    start = start_at s

    moves : List ℕ
    moves = follow s.net s.script (start_at s) picks

    listed : moves_now stage ≡ enabled_moves s.net s.script (after s.net (start_at s) (follow s.net s.script (start_at s) picks))
    listed = moves_are s picks stage hazard is

    picked : (xs : List ℕ) (k n : ℕ) → k < length xs → n ≡ get_or xs k n → n ≡ get_or xs k 0
    picked [] k n less at = absurd (omega arith)
    picked (x ∷ xs) zero n less at = at
    picked (x ∷ xs) (suc k) n less at = picked xs k n (omega arith) at

    more : follow s.net s.script (start_at s) (picks ++ p ∷ []) ≡ follow s.net s.script (start_at s) picks ++ node ∷ []
    more =
        follow_more s.net s.script (start_at s) picks p
        ∙ ap (λ (n : ℕ). follow s.net s.script (start_at s) picks ++ n ∷ [])
        (sym (picked (moves_now stage) p node within here ∙ ap (λ xs. get_or xs p 0) listed))

    whole : length (follow s.net s.script (start_at s) picks) ≡ length picks
    whole = follow_length s.net s.script (start_at s) picks

    front : (k : ℕ) → k ≤ length picks → take k (follow s.net s.script (start_at s) (picks ++ p ∷ [])) ≡ take k (follow s.net s.script (start_at s) picks)
    front k less = ap (take k) more ∙ take-append-le k (follow s.net s.script (start_at s) picks) (node ∷ []) (omega (arith, whole))

    by_place : (k : ℕ) → (k < length picks) ⊎ (length picks ≤ k) → k < length (picks ++ p ∷ []) →
        end_after s.net s.script s.steps (start_at s) (take k (follow s.net s.script (start_at s) (picks ++ p ∷ []))) ≡ None
    by_place k (inl less) below = ap (end_after s.net s.script s.steps (start_at s)) (front k (omega arith)) ∙ is.no_end k less
    by_place k (inr past) below =
        let same : k ≤ length picks = omega (arith, length_push picks p) in
        ap (end_after s.net s.script s.steps (start_at s)) (front k same ∙ take_all k (follow s.net s.script (start_at s) picks) (omega (arith, whole)))
        ∙ sym (end_is s picks stage hazard false is (ne_eqb (length picks) s.steps (omega arith))) ∙ goes
