-- A net of which each state is told by a run of a program, of no more steps than the net has made moves, carries the program:
-- the program's rounds make the same steps, and as many at least.
use Rattle.std.proofs.Common.{◌≡◌, ◌≢◌, ℕ, zero, suc, ◌+◌, ◌-◌, ◌*◌, ◌≤◌, Bool, true, false, List, [], ◌∷◌, ◌++◌, length, Option, Some, None, refl, sym, ap, ◌∙◌, subst, arith, append-nil, append_assoc}
use Rattle.std.specs.Prelude.{if◌then◌else◌, is_some, fold, filter}
use Rattle.prs_core.specs.Nets.{RulesValue, NetValue, net_of}
use Rattle.prs_core.specs.declared.wires.Wires.{Wires}
use Rattle.prs_core.specs.Moves.{high}
use Rattle.env_script.specs.Scripts.{OfferValue, IsScript}
use Rattle.env_script.specs.Runs.{RunState, history_at, IsRun, after, begin_at, IsAtRest, IsSafeRun}
use Rattle.width_check.specs.Processes.{TypedProgram}
use Rattle.width_check.specs.Typing.{IsTyped}
use Rattle.width_check.specs.Sharing.{MeetsSharing}
use Rattle.handshake_expand.specs.Layout.{done_node}
use Rattle.chp_meaning.specs.Terms.{Place, places, finished}
use Rattle.chp_meaning.specs.Steps.{Configuration, Step, Leads, no_step, one_step, start_of}
use Rattle.chp_meaning.specs.Rounds.{round, rounds, rounds_from, step_at, is_enabled, taken}
use Rattle.chp_meaning.specs.Laws.{IsBehind, OneHistory, RoundsHold}
use Rattle.chp_meaning.specs.Halves.{halved_program, HalvesFollow}
use Rattle.net_compose.specs.Carries.{IsFollowing, IsSettled, Carries, HasChannels}
use Rattle.net_compose.proofs.Renamed.{IsRenaming, mirror, mirrors_first, rest_there}

-- the program goes no further, and done is high exactly where it has ended
pub record IsOver (st : RunState) (c : Configuration) : Type 0 where
  pub still : (at : Place) (d : Configuration) → ¬ Step c at d
  pub ended : high st.values done_node ≡ true → c.term ≡ finished
  pub going : high st.values done_node ≡ false → c.term ≢ finished

-- after so many moves: as many steps of the program at most have passed the same values
pub record IsPassing (net : NetValue) (P : TypedProgram) (script : List OfferValue) (st : RunState) (moves : ℕ) : Type 0 where
  pub to : Configuration
  pub steps : ℕ
  pub within : steps ≤ moves
  pub leads : Leads (start_of P script) steps to
  pub passed : to.histories ≡ st.histories
  pub rest : IsAtRest net script st → IsOver st to

-- each run is safe, and passes what the program does
pub record IsPassingRun (net : NetValue) (P : TypedProgram) (script : List OfferValue) (ns : List ℕ) : Type 0 where
  pub safe : IsSafeRun net script (begin_at net net.first) ns
  pub passing : IsPassing net P script (after net (begin_at net net.first) ns) (length ns)

abbrev pub Passes : NetValue → TypedProgram → Type 0
Passes net P = (script : List OfferValue) → IsScript P.channels script → (ns : List ℕ) → IsRun net script (begin_at net net.first) ns
    → IsPassingRun net P script ns

-- each run has no more than so many moves for each step of some run of the program that has passed the same, and before the first
abbrev pub IsPaid : NetValue → TypedProgram → (bound : ℕ) → Type 0
IsPaid net P bound = (script : List OfferValue) → IsScript P.channels script → (ns : List ℕ) → IsRun net script (begin_at net net.first) ns
    → (n : ℕ) × (d : Configuration) × Leads (start_of P script) n d × (d.histories ≡ (after net (begin_at net net.first) ns).histories)
    × (length ns ≤ bound * suc n)

-- what passes the program in halves passes the program
pub halves_pass : HalvesFollow → (net : NetValue) (P : TypedProgram) → IsTyped P.channels P.vars P.body → MeetsSharing P.body
    → Passes net (halved_program P) → Passes net P
halves_pass follow net P typed meets passes script fits ns run =
    let r = passes script fits ns run in
    let q = r.passing in
    let s = follow P script typed meets q.steps q.to q.leads in
    let few = s.2 in
    let most = q.within in
    let abreast = s.4 in
    record {
      safe = r.safe;
      passing = record {
        to = s.0;
        steps = s.1;
        within = omega arith;
        leads = s.3;
        passed = abreast.histories ∙ q.passed;
        rest = λ rests.
            let z = q.rest rests in
            record {
              still = λ at d step. let g = abreast.goes_on (at, d, step) in z.still g.0 g.1 g.2;
              ended = λ high. abreast.ends.1 (z.ended high);
              going = λ low e. z.going low (abreast.ends.0 e);
            };
      };
    }

-- a net passes what the same net with its nodes numbered otherwise passes
module _ (names more_names : List (List ℕ)) (firsts more_firsts : List Bool) (rules more_rules : RulesValue) (ws : List Wires) (f : ℕ → ℕ) (count low : ℕ) where
  abbrev A : NetValue
  A = net_of names firsts rules ws None

  abbrev B : NetValue
  B = net_of more_names more_firsts more_rules ws None

  pub renamed_passes : IsRenaming A B f count low → 2 ≤ low → (P : TypedProgram) → Passes B P → Passes A P
  renamed_passes is two P passes script fits ns run =
      let m = mirror names more_names firsts more_firsts rules more_rules ws f count low is script ns (begin_at A firsts) (begin_at B more_firsts)
      (mirrors_first names more_names firsts more_firsts rules more_rules ws f count low is script) run in
      let r = passes script fits m.moves m.run in
      let q = r.passing in
      let last = m.last in
      let most = q.within in
      let long = m.long in
      let w = is.within in
      let done : high (after A (begin_at A firsts) ns).values done_node ≡ high (after B (begin_at B more_firsts) m.moves).values done_node =
      ap (high (after A (begin_at A firsts) ns).values) (sym (is.still done_node (omega (arith, two)))) ∙ last.same done_node (omega (arith, two, w)) in
      record {
        safe = m.safe r.safe;
        passing = record {
          to = q.to;
          steps = q.steps;
          within = omega (arith, most, long);
          leads = q.leads;
          passed = q.passed ∙ sym last.histories;
          rest = λ rests.
              let z = q.rest (rest_there names more_names firsts more_firsts rules more_rules ws f count low is script (after A (begin_at A firsts) ns)
              (after B (begin_at B more_firsts) m.moves) last rests) in
              record { still = z.still; ended = λ h. z.ended (sym done ∙ h); going = λ h. z.going (sym done ∙ h) };
        };
      }

  pub renamed_paid : IsRenaming A B f count low → (P : TypedProgram) (bound : ℕ) → IsPaid B P bound → IsPaid A P bound
  renamed_paid is P bound paid script fits ns run =
      let m = mirror names more_names firsts more_firsts rules more_rules ws f count low is script ns (begin_at A firsts) (begin_at B more_firsts)
      (mirrors_first names more_names firsts more_firsts rules more_rules ws f count low is script) run in
      let r = paid script fits m.moves m.run in
      let few = r.4 in
      let long = m.long in
      let last = m.last in
      (r.0, r.1, r.2, r.3 ∙ sym last.histories, omega (arith, few, long))

-- rounds and runs of the program

pub rounds_on : (c : Configuration) (n m : ℕ) → rounds_from c (n + m) ≡ rounds_from (rounds_from c n) m
rounds_on c zero m = let e : 0 + m ≡ m = omega arith in ap (rounds_from c) e
rounds_on c (suc n) m = let e : suc n + m ≡ suc (n + m) = omega arith in ap (rounds_from c) e ∙ rounds_on (round c) n m

filter_none : (p : Place → Bool) (xs : List Place) → ((x : Place) → p x ≡ false) → filter p xs ≡ []
filter_none p [] h = refl
filter_none p (x ∷ xs) h = ap (λ b. keep b) (h x) ∙ filter_none p xs h
  where
    keep : Bool → List Place
    keep b = if b then x ∷ filter p xs else filter p xs

module _ (steps_taken : (c d : Configuration) (at : Place) → step_at c at ≡ Some d → Step c at d) where
  not_enabled : (c : Configuration) → ((at : Place) (d : Configuration) → ¬ Step c at d) → (at : Place) → is_enabled c at ≡ false
  not_enabled c still at = by_step (step_at c at) refl
    where
      by_step : (o : Option Configuration) → step_at c at ≡ o → is_some o ≡ false
      by_step None e = refl
      by_step (Some d) e = absurd (still at d (steps_taken c d at e))

  round_stays : (c : Configuration) → ((at : Place) (d : Configuration) → ¬ Step c at d) → round c ≡ c
  round_stays c still = ap (λ l. fold taken c l) (filter_none (is_enabled c) (places c.term) (not_enabled c still))

  pub rounds_stay : (c : Configuration) → ((at : Place) (d : Configuration) → ¬ Step c at d) → (n : ℕ) → rounds_from c n ≡ c
  rounds_stay c still zero = refl
  rounds_stay c still (suc n) = ap (λ d. rounds_from d n) (round_stays c still) ∙ rounds_stay c still n

leads_nowhere : (c d : Configuration) (n : ℕ) → ((at : Place) (e : Configuration) → ¬ Step c at e) → Leads c n d → c ≡ d
leads_nowhere c d zero still no_step = refl
leads_nowhere c d (suc n) still (one_step {d = e} {at = at} s l) = absurd (still at e s)

pub behind_same : (c : Configuration) → IsBehind c c
behind_same c k = ([], sym (append-nil (history_at c.histories k)))

pub behind_on : (c d e : Configuration) → IsBehind c d → IsBehind d e → IsBehind c e
behind_on c d e f g k =
    let a = f k in
    let b = g k in
    (a.0 ++ b.0, b.1 ∙ (ap (λ h. h ++ b.0) a.1 ∙ append_assoc (history_at c.histories k) a.0 b.0))

pub rounds_behind : (P : TypedProgram) (script : List OfferValue) → RoundsHold P script → (n m : ℕ) → IsBehind (rounds P script n) (rounds P script (n + m))
rounds_behind P script hold n zero = let e : n ≡ n + 0 = omega arith in subst (λ j. IsBehind (rounds P script n) (rounds P script j)) e
    (behind_same (rounds P script n))
rounds_behind P script hold n (suc m) =
    let e : suc (n + m) ≡ n + suc m = omega arith in
    subst (λ j. IsBehind (rounds P script n) (rounds P script j)) e
    (behind_on (rounds P script n) (rounds P script (n + m)) (rounds P script (suc (n + m))) (rounds_behind P script hold n m) (hold (n + m)).2)

-- so it carries the program
module _ (steps_taken : (c d : Configuration) (at : Place) → step_at c at ≡ Some d → Step c at d)
    (append : (c d : Configuration) (n : ℕ) → Leads c n d → IsBehind c d)
    (one : (P : TypedProgram) (script : List OfferValue) → MeetsSharing P.body → OneHistory P script)
    (hold : (P : TypedProgram) (script : List OfferValue) → MeetsSharing P.body → RoundsHold P script) where
  following : (net : NetValue) (P : TypedProgram) (script : List OfferValue) → MeetsSharing P.body → (st : RunState) (moves : ℕ)
      → IsPassing net P script st moves → IsFollowing st (rounds P script moves)
  following net P script meets st moves q k =
      let on = one P script meets q.steps q.to q.leads in
      let e : q.steps + (moves - q.steps) ≡ moves = omega (arith, q.within) in
      let a = behind_on q.to (rounds P script q.steps) (rounds P script (q.steps + (moves - q.steps))) (append q.to (rounds P script q.steps) on.0 on.1)
      (rounds_behind P script (hold P script meets) q.steps (moves - q.steps)) k in
      (a.0, ap (λ m. history_at (rounds P script m).histories k) (sym e) ∙ (a.1 ∙ ap (λ hs. history_at hs k ++ a.0) q.passed))

  settled : (net : NetValue) (P : TypedProgram) (script : List OfferValue) → MeetsSharing P.body → (st : RunState) (moves : ℕ)
      → IsPassing net P script st moves → IsAtRest net script st → IsSettled st (rounds P script moves)
  settled net P script meets st moves q still =
      let z = q.rest still in
      let on = one P script meets q.steps q.to q.leads in
      let e : q.steps + (moves - q.steps) ≡ moves = omega (arith, q.within) in
      let there : rounds P script moves ≡ q.to =
      ap (rounds P script) (sym e) ∙ (rounds_on (start_of P script) q.steps (moves - q.steps)
      ∙ (ap (λ c. rounds_from c (moves - q.steps)) (sym (leads_nowhere q.to (rounds P script q.steps) on.0 z.still on.1))
      ∙ rounds_stay steps_taken q.to z.still (moves - q.steps))) in
      subst (λ c. IsSettled st c) (sym there) (record {
        whole = λ k. ap (λ hs. history_at hs k) (sym q.passed);
        still = z.still;
        answer = (z.ended, λ over. is_high (high st.values done_node) (λ low. z.going low over));
      })
    where
      is_high : (b : Bool) → (b ≡ false → ⊥) → b ≡ true
      is_high true h = refl
      is_high false h = absurd (h refl)

  pub passes_carry : (net : NetValue) (P : TypedProgram) → MeetsSharing P.body → HasChannels net P → Passes net P → Carries net P
  passes_carry net P meets channels passes = record {
    channels = channels;
    runs = λ script fits moves run.
        let r = passes script fits moves run in
        record {
          safe = r.safe;
          prefix = following net P script meets (after net (begin_at net net.first) moves) (length moves) r.passing;
          rest = λ still. settled net P script meets (after net (begin_at net net.first) moves) (length moves) r.passing still;
        };
  }

  -- rounds that go no further lead where a run goes no further
  pub same_end : (P : TypedProgram) (script : List OfferValue) → MeetsSharing P.body → (m n : ℕ) (c : Configuration) → Leads (start_of P script) m c
      → ((at : Place) (d : Configuration) → ¬ Step c at d) → ((at : Place) (d : Configuration) → ¬ Step (rounds P script n) at d) → rounds P script n ≡ c
  same_end P script meets m n c l still there =
      let on = one P script meets m c l in
      let is : c ≡ rounds P script m = leads_nowhere c (rounds P script m) on.0 still on.1 in
      let e : n + m ≡ m + n = omega arith in
      sym (rounds_stay steps_taken (rounds P script n) there m)
      ∙ (sym (rounds_on (start_of P script) n m)
      ∙ (ap (rounds P script) e
      ∙ (rounds_on (start_of P script) m n ∙ (ap (λ d. rounds_from d n) (sym is) ∙ rounds_stay steps_taken c still n))))
