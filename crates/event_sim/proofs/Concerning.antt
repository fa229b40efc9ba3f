-- Whom a move concerns.
use Rattle.std.proofs.Common.{◌≡◌, ◌≢◌, ℕ, Bool, true, false, List, [], ◌∷◌, ◌++◌, length, refl, sym, ap, ◌∙◌}
use Rattle.std.specs.Prelude.{◌||◌, ◌==◌, Option, Some, None}
use Rattle.std.proofs.lemmas.Bool.{eq-eqb, eqb-false, ne_eqb, or_parts, or_from, or_left, or_right, both_ways}
use Rattle.std.proofs.lemmas.List.Folds.{list_any-append}
use Rattle.env_script.specs.Environment.{is_reset}
use Rattle.env_script.specs.Runs.{RunState, move_enabled}
use Rattle.event_sim.specs.Locality.{IndexedValue, is_among, IsNear}
use Rattle.event_sim.specs.Stages.{StageValue, stage_with, now_of, moves_now, AreConcerned}
use Rattle.event_sim.proofs.Lists.{among_is}
use Rattle.event_sim.proofs.Near.{near_state}

pub parts : (xs ys zs : List ℕ) (m : ℕ) → is_among (xs ++ ys ++ zs) m ≡ false →
    (is_among xs m ≡ false) × (is_among ys m ≡ false) × (is_among zs m ≡ false)
parts xs ys zs m apart =
    let one = or_parts _ _ (sym (list_any-append (λ k. k == m) (xs ++ ys) zs) ∙ apart) in
    let two = or_parts _ _ (sym (list_any-append (λ k. k == m) xs ys) ∙ one.0) in
    (two.0, two.1, one.1)

own_among : (xs zs : List ℕ) (n : ℕ) → is_among (xs ++ n ∷ zs) n ≡ true
own_among xs zs n = list_any-append (λ k. k == n) xs (n ∷ zs) ∙ or_right _ _ (or_left _ _ (eq-eqb n n refl))

concerned_by : (x : IndexedValue) (values : List Bool) (passed : List (ℕ × ℕ)) (room n : ℕ) (nodes near : List ℕ) → IsNear x n near →
    is_reset x.net.reset n ≡ false → is_among nodes n ≡ true →
    ((m : ℕ) → is_among nodes m ≡ false → (is_among near m ≡ false) × (is_reset x.net.reset m ≡ false)) →
    AreConcerned (stage_with x.net x.script values passed room) n nodes
concerned_by x values passed room n nodes near is other own apart = record {
  own = own;
  others = λ before m now whole within unnamed on.
      let both = apart m unnamed in
      let away : m ≢ n = λ same. both_ways (is_among nodes m) unnamed (ap (is_among nodes) same ∙ own) in
      sym (near_state x before n m near is other both.1 whole within away both.0)
      ∙ ap (λ (r : RunState). move_enabled x.net x.script r m) (sym now) ∙ on;
}

-- with no channel in which the environment has a part
pub concerned_alone : (x : IndexedValue) (values : List Bool) (passed : List (ℕ × ℕ)) (room n reset : ℕ) (readers rails : List ℕ) → IsNear x n readers →
    is_reset x.net.reset n ≡ false → ((m : ℕ) → (reset == m) ≡ false → is_reset x.net.reset m ≡ false) →
    AreConcerned (stage_with x.net x.script values passed room) n (readers ++ rails ++ n ∷ n ∷ reset ∷ [])
concerned_alone x values passed room n reset readers rails is other last =
    concerned_by x values passed room n _ readers is other (own_among (readers ++ rails) (n ∷ reset ∷ []) n) apart
  where
    apart : (m : ℕ) → is_among (readers ++ rails ++ n ∷ n ∷ reset ∷ []) m ≡ false → (is_among readers m ≡ false) × (is_reset x.net.reset m ≡ false)
    apart m unnamed =
        let all = parts readers rails (n ∷ n ∷ reset ∷ []) m unnamed in
        let one = or_parts (n == m) ((n == m) || ((reset == m) || false)) all.2 in
        let two = or_parts (n == m) ((reset == m) || false) one.1 in
        (all.0, last m (or_parts (reset == m) false two.1).0)

-- with one
pub concerned_wires : (x : IndexedValue) (values : List Bool) (passed : List (ℕ × ℕ)) (room n ack reset : ℕ) (readers rails : List ℕ) →
    IsNear x n (readers ++ rails ++ ack ∷ []) →
    is_reset x.net.reset n ≡ false → ((m : ℕ) → (reset == m) ≡ false → is_reset x.net.reset m ≡ false) →
    AreConcerned (stage_with x.net x.script values passed room) n (readers ++ rails ++ n ∷ ack ∷ reset ∷ [])
concerned_wires x values passed room n ack reset readers rails is other last =
    concerned_by x values passed room n _ (readers ++ rails ++ ack ∷ []) is other (own_among (readers ++ rails) (ack ∷ reset ∷ []) n) apart
  where
    apart : (m : ℕ) → is_among (readers ++ rails ++ n ∷ ack ∷ reset ∷ []) m ≡ false →
        (is_among (readers ++ rails ++ ack ∷ []) m ≡ false) × (is_reset x.net.reset m ≡ false)
    apart m unnamed =
        let all = parts readers rails (n ∷ ack ∷ reset ∷ []) m unnamed in
        let one = or_parts (n == m) ((ack == m) || ((reset == m) || false)) all.2 in
        let two = or_parts (ack == m) ((reset == m) || false) one.1 in (
          list_any-append (λ k. k == m) (readers ++ rails) (ack ∷ [])
              ∙ or_from _ _ (list_any-append (λ k. k == m) readers rails ∙ or_from _ _ all.0 all.1) (or_from _ _ two.0 refl),
          last m (or_parts (reset == m) false two.1).0,
        )

-- of the reset node
pub concerned_all : (s : StageValue) (n : ℕ) (readers : List ℕ) → AreConcerned s n (readers ++ moves_now s ++ n ∷ n ∷ n ∷ [])
concerned_all s n readers = record {
  own = own_among (readers ++ moves_now s) (n ∷ n ∷ []) n;
  others = λ before m now whole within unnamed on.
      absurd (both_ways _ (sym (among_is (move_enabled s.net s.script (now_of s)) (length s.net.first) m within)
      ∙ (parts readers (moves_now s) (n ∷ n ∷ n ∷ []) m unnamed).1) on);
}

-- the reset node is the only one
pub one_reset : (reset : Option ℕ) (r m : ℕ) → reset ≡ Some r → (r == m) ≡ false → is_reset reset m ≡ false
one_reset reset r m at apart = ap (λ (o : Option ℕ). is_reset o m) at ∙ ne_eqb m r (λ same. eqb-false r m apart (sym same))

pub no_reset : (reset : Option ℕ) (m : ℕ) → reset ≡ None → is_reset reset m ≡ false
no_reset reset m at = ap (λ (o : Option ℕ). is_reset o m) at
