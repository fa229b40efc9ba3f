-- How a simulation begins, what each pick is from, and what is known at its end.
use Rattle.std.proofs.Common.{◌≡◌, ℕ, ◌<◌, ◌≤◌, Bool, true, false, List, [], ◌∷◌, ◌++◌, length, get_or, drop, replicate, refl, sym, ap, subst, ◌∙◌, arith}
use Rattle.std.specs.Prelude.{◌==◌, All, AllPairs, Option, Some, None}
use Rattle.std.specs.List.{range_with_len}
use Rattle.std.proofs.lemmas.List.{append-nil}
use Rattle.std.proofs.lemmas.List.Elements.{filter_passes}
use Rattle.prs_core.specs.Nets.{NetValue, IsNet}
use Rattle.prs_core.specs.Moves.{high}
use Rattle.env_script.specs.declared.hazard.Hazard.{Hazard}
use Rattle.env_script.specs.Runs.{RunState, IsRun, after, move_enabled}
use Rattle.env_script.specs.Hazards.{first_hazard}
use Rattle.env_script.specs.OneLength.{AllSafe, EndsAll}
use Rattle.env_script.proofs.Fronts.{ends_all}
use Rattle.event_sim.specs.declared.ran.End.{End}
use Rattle.event_sim.specs.declared.ran.End.TheVariants.{AtRest}
use Rattle.event_sim.specs.Following.{enabled_moves, follow, ArePicks}
use Rattle.event_sim.specs.Passing.{passed_in, channel_histories}
use Rattle.event_sim.specs.Ends.{end_from, end_with, EndsSo}
use Rattle.event_sim.specs.Picking.{IsChoiceList}
use Rattle.event_sim.specs.Simulating.{SimValue, start_at, growth, picked_moves, IsEndIn}
use Rattle.event_sim.specs.Stages.{StageValue, now_of, moves_now, IsUnbegun, IsUnderway}
use Rattle.event_sim.proofs.Histories.{histories_none}
use Rattle.event_sim.proofs.Following.{follow_length, picked_run, enabled_below, ascending}
use Rattle.event_sim.proofs.Underway.{moves_are, end_is}
use Rattle.event_sim.proofs.Ranges.{rests, end_within}

-- a log has grown by so many picks, and these have led to the stage
pub record HasPicked (s : SimValue) (before now : List ℕ) (count : ℕ) (stage : StageValue) (last : Option Hazard) : Type 0 where
  pub picks : List ℕ
  pub grown : now ≡ before ++ picks
  pub counted : length picks ≡ count
  pub underway : IsUnderway s picks stage last

pub begun : (stage : StageValue) (steps : ℕ) (start : Bool) (last : Option Hazard) (before : List ℕ) → IsUnbegun stage steps start →
    last ≡ first_hazard stage.net (now_of stage) →
    HasPicked (record { net = stage.net; script = stage.script; steps = steps; high = start }) before before 0 stage last
begun stage steps start last before is hazard = record {
  picks = [];
  grown = sym (append-nil before);
  counted = refl;
  underway = record {
    net = refl;
    script = refl;
    now = there;
    passed = is.passed;
    room = omega (arith, is.room);
    picks = tt;
    hazard = hazard ∙ ap (λ (r : RunState). first_hazard stage.net r) there;
    no_end = λ k below. absurd (omega arith);
  };
}
  where
    s : SimValue
    s = record { net = stage.net; script = stage.script; steps = steps; high = start }

    there : now_of stage ≡ start_at s
    there =
        ap (λ (ps : List (ℕ × ℕ)). record { values = stage.values; histories = channel_histories (length stage.net.channels) ps }) is.passed
        ∙ ap (λ (hs : List (List ℕ)). record { values = stage.values; histories = hs }) (histories_none (length stage.net.channels))
        ∙ ap (λ (vs : List Bool). record { values = vs; histories = replicate (length stage.net.channels) [] }) is.values

drop_front : (xs ys : List ℕ) → drop (length xs) (xs ++ ys) ≡ ys
drop_front [] ys = refl
drop_front (x ∷ xs) ys = drop_front xs ys

pub growth_is : (before now picks : List ℕ) → now ≡ before ++ picks → growth before now ≡ picks
growth_is before now picks grown = ap (drop (length before)) grown ∙ drop_front before picks

goes_on : (last : Option Hazard) (xs : List ℕ) → end_with last xs false ≡ None → 0 < length xs
goes_on None [] none = absurd (cc none)
goes_on None (x ∷ xs) none = omega arith
goes_on (Some h) xs none = absurd (cc none)

-- the list that a pick is from
pub choice_list : (s : SimValue) (picks : List ℕ) (stage : StageValue) (last : Option Hazard) (nodes : ℕ) (xs : List ℕ) → IsUnderway s picks stage last →
    xs ≡ moves_now stage → end_with last xs false ≡ None → length s.net.first ≤ nodes → IsChoiceList nodes xs
choice_list s picks stage last nodes xs is listed none wide = record {
  some = goes_on last xs none;
  ascending = subst (λ (ys : List ℕ). AllPairs (λ (a b : ℕ). a < b) ys) (sym whole) (ascending _ 0 (length s.net.first));
  below = subst (λ (ys : List ℕ). All (λ n. n < nodes) ys) (sym whole) (λ k d within. let less =
      enabled_below s.net s.script (after s.net (start_at s) (follow s.net s.script (start_at s) picks)) k d within in omega arith);
}
  where
    whole : xs ≡ enabled_moves s.net s.script (after s.net (start_at s) (follow s.net s.script (start_at s) picks))
    whole = listed ∙ moves_are s picks stage last is

-- the node that is picked is one of the net's
pub picked_within : (s : SimValue) (picks : List ℕ) (stage : StageValue) (last : Option Hazard) (xs : List ℕ) (p d : ℕ) → IsUnderway s picks stage last →
    xs ≡ moves_now stage → p < length xs → get_or xs p d < length stage.net.first
picked_within s picks stage last xs p d is listed within =
    subst (λ (w : NetValue). get_or xs p d < length w.first) (sym is.net)
    (subst (λ (ys : List ℕ). All (λ n. n < length s.net.first) ys) (sym whole)
    (enabled_below s.net s.script (after s.net (start_at s) (follow s.net s.script (start_at s) picks))) p d within)
  where
    whole : xs ≡ enabled_moves s.net s.script (after s.net (start_at s) (follow s.net s.script (start_at s) picks))
    whole = listed ∙ moves_are s picks stage last is

-- and its move is enabled
pub picked_enabled : (stage : StageValue) (xs : List ℕ) (p d : ℕ) → xs ≡ moves_now stage → p < length xs →
    move_enabled stage.net stage.script (now_of stage) (get_or xs p d) ≡ true
picked_enabled stage xs p d listed within =
    subst (λ (ys : List ℕ). All (λ n. move_enabled stage.net stage.script (now_of stage) n ≡ true) ys) (sym listed)
    (filter_passes (move_enabled stage.net stage.script (now_of stage)) (range_with_len 0 (length stage.net.first))) p d within

-- what is known at the end
pub record IsFinished (s : SimValue) (before now : List ℕ) (count : ℕ) (stage : StageValue) (end : End) : Type 0 where
  pub log : now ≡ before ++ growth before now
  pub picks : ArePicks s.net s.script (start_at s) (growth before now)
  pub run : IsRun s.net s.script (start_at s) (picked_moves s before now)
  pub ends : EndsSo s.net s.script s.steps (start_at s) (picked_moves s before now) end
  pub moves : count ≡ length (picked_moves s before now)
  pub done : high stage.values 1 ≡ high (after s.net (start_at s) (picked_moves s before now)).values 1
  pub passed : stage.passed ≡ passed_in s.net (start_at s) (picked_moves s before now)
  pub one_length : AllSafe s.net s.script (start_at s) → end ≡ AtRest → EndsAll s.net s.script (start_at s) (picked_moves s before now)
  pub net : stage.net ≡ s.net
  pub within : IsEndIn s.net end

rest_empties : (last : Option Hazard) (xs : List ℕ) (spent : Bool) → end_with last xs spent ≡ Some AtRest → xs ≡ []
rest_empties last [] spent ended = refl
rest_empties None (x ∷ xs) true ended = absurd (cc ended)
rest_empties None (x ∷ xs) false ended = absurd (cc ended)
rest_empties (Some h) (x ∷ xs) spent ended = absurd (by_hazard h ended)
  where
    by_hazard : (h : Hazard) → Some (end_from h) ≡ Some AtRest → ⊥
    by_hazard (Hazard.BothWays n) e = cc e
    by_hazard (Hazard.Unstable n) e = cc e
    by_hazard (Hazard.Protocol c) e = cc e

pub finish : (s : SimValue) (before now : List ℕ) (count : ℕ) (stage : StageValue) (last : Option Hazard) (spent : Bool) (end : End) → IsNet s.net →
    HasPicked s before now count stage last → (count == s.steps) ≡ spent → end_with last (moves_now stage) spent ≡ Some end →
    IsFinished s before now count stage end
finish s before now count stage last spent end net is counted ended = record {
  log = is.grown ∙ ap (λ (xs : List ℕ). before ++ xs) (sym same);
  picks = subst (λ (xs : List ℕ). ArePicks s.net s.script (start_at s) xs) (sym same) is.underway.picks;
  run = subst (λ (xs : List ℕ). IsRun s.net s.script (start_at s) (follow s.net s.script (start_at s) xs)) (sym same) ran;
  ends = subst (λ (xs : List ℕ). EndsSo s.net s.script s.steps (start_at s) (follow s.net s.script (start_at s) xs) end) (sym same) (record {
    ended = sym (end_is s is.picks stage last spent is.underway (ap (λ (k : ℕ). k == s.steps) is.counted ∙ counted)) ∙ ended;
    not_before = λ k below. is.underway.no_end k (omega (arith, follow_length s.net s.script (start_at s) is.picks));
  });
  moves = sym is.counted ∙ sym (follow_length s.net s.script (start_at s) is.picks)
      ∙ ap (λ (xs : List ℕ). length (follow s.net s.script (start_at s) xs)) (sym same);
  done = ap (λ (r : RunState). high r.values 1) is.underway.now
      ∙ ap (λ (xs : List ℕ). high (after s.net (start_at s) (follow s.net s.script (start_at s) xs)).values 1) (sym same);
  passed = is.underway.passed ∙ ap (λ (xs : List ℕ). passed_in s.net (start_at s) (follow s.net s.script (start_at s) xs)) (sym same);
  one_length = subst (λ (xs : List ℕ). AllSafe s.net s.script (start_at s) → end ≡ AtRest →
      EndsAll s.net s.script (start_at s) (follow s.net s.script (start_at s) xs)) (sym same) alone;
  net = is.underway.net;
  within = end_within s.net s.script (start_at s) (follow s.net s.script (start_at s) is.picks) (moves_now stage) spent last end is.underway.hazard ended;
}
  where
    same : growth before now ≡ is.picks
    same = growth_is before now is.picks is.grown

    ran : IsRun s.net s.script (start_at s) (follow s.net s.script (start_at s) is.picks)
    ran = picked_run s.net s.script (start_at s) is.picks is.underway.picks

    alone : AllSafe s.net s.script (start_at s) → end ≡ AtRest → EndsAll s.net s.script (start_at s) (follow s.net s.script (start_at s) is.picks)
    alone safe e =
        ends_all s.net s.script (start_at s) net safe (follow s.net s.script (start_at s) is.picks)
        (picked_run s.net s.script (start_at s) is.picks is.underway.picks)
        (rests s.net s.script (after s.net (start_at s) (follow s.net s.script (start_at s) is.picks)) net
        (sym (moves_are s is.picks stage last is.underway) ∙ rest_empties last (moves_now stage) spent (ended ∙ ap Some e)))
