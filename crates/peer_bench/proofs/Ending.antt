-- A run on a bench goes on by one move, and ends.
use Rattle.std.proofs.Common.{◌≡◌, ℕ, zero, suc, ◌+◌, ◌<◌, ◌≤◌, Bool, true, false, List, [], ◌∷◌, ◌++◌, length, get_or, take, drop, refl, sym, ap, subst, ◌∙◌, inl, inr, arith}
use Rattle.std.specs.Prelude.{◌⊎◌, not, ◌&&◌, ◌||◌, ◌==◌, if◌then◌else◌, All, AllPairs, Option, Some, None}
use Rattle.std.proofs.lemmas.Bool.{eq-eqb, or_parts, and_from, not_from_false}
use Rattle.std.proofs.lemmas.List.{append-nil, append_assoc, length_push, length-take-le}
use Rattle.prs_core.specs.Nets.{NetValue, IsNet}
use Rattle.prs_core.specs.Moves.{high, rule_enabled}
use Rattle.env_script.specs.declared.hazard.Hazard.{Hazard}
use Rattle.env_script.specs.Scripts.{OfferValue, offer_at}
use Rattle.env_script.specs.Environment.{all_below, in_reset, is_reset, rules_rest, raises_go, channels_move}
use Rattle.env_script.specs.Runs.{RunState, after, moved, completed, IsAtRest}
use Rattle.env_script.proofs.Fronts.{ends_all}
use Rattle.event_sim.specs.declared.ran.End.{End}
use Rattle.event_sim.specs.declared.ran.End.TheVariants.{AtRest, Spent}
use Rattle.event_sim.specs.Asking.{PickerValue, IsPick, IsAskedAlong}
use Rattle.event_sim.specs.Ends.{end_from, end_with, last_hazard}
use Rattle.event_sim.specs.Following.{enabled_moves}
use Rattle.event_sim.specs.Picking.{IsChoiceList}
use Rattle.event_sim.specs.Simulating.{RanValue, IsEndIn, growth}
use Rattle.event_sim.specs.Stages.{StageValue, now_of, moves_now}
use Rattle.event_sim.proofs.Asking.{asked_alike, asked_more, asked_none}
use Rattle.event_sim.proofs.Finishing.{growth_is}
use Rattle.event_sim.proofs.Following.{ascending, enabled_below}
use Rattle.event_sim.proofs.Ranges.{rests, end_within}
use Rattle.peer_bench.specs.declared.note.Note.{Note}
use Rattle.peer_bench.specs.Growing.{script_by, script_after}
use Rattle.peer_bench.specs.Running.{Scripts, later, hazard_under}
use Rattle.peer_bench.specs.Asking.{PeerValue}
use Rattle.peer_bench.specs.Along.{NothingComes}
use Rattle.peer_bench.specs.Steps.{IsMoveNoted, AreOffered, AreRailsHeld, free_on}
use Rattle.peer_bench.specs.Sets.{IsQuiet}
use Rattle.peer_bench.specs.Benches.{SetupValue, bench_start, bench_moves, bench_enabled, noted_since, IsBenchRun}
use Rattle.peer_bench.proofs.Growth.{enabled_agree, script_now}
use Rattle.peer_bench.proofs.Idle.{quiet_under}
use Rattle.peer_bench.proofs.Placed.{ArePlaced, along_placed}
use Rattle.peer_bench.proofs.Underway.{IsDriven, IsMade, goes_calm, moves_count, listed_now, end_now, step}

-- A scheduler's log has grown by so many picks, and these have led to the stage. It was asked before each of these moves with the list of those that
-- were enabled.
pub record HasDriven {P Q K : Type 0} (known : P → PeerValue) (seen : Q → PickerValue K) (net : NetValue) (steps : ℕ) (before now : List ℕ) (count : ℕ)
    (was is : P) (at_first chooser : Q) (stage : StageValue) (last : Option Hazard) : Type 0 where
  pub picks : List ℕ
  pub notes : List Note
  pub grown : now ≡ before ++ picks
  pub counted : length picks ≡ count
  pub driven : IsDriven known net steps picks notes was is stage last
  pub asked : IsAskedAlong seen (bench_enabled net notes) picks at_first chooser

pub has_begun : {P Q K : Type 0} (known : P → PeerValue) (seen : Q → PickerValue K) (net : NetValue) (steps : ℕ) (log : List ℕ) (notes : List Note)
    (was is : P) (chooser : Q) (stage : StageValue) (last : Option Hazard) → IsDriven known net steps [] notes was is stage last →
    HasDriven known seen net steps log log 0 was is chooser chooser stage last
has_begun known seen net steps log notes was is chooser stage last d = record {
  picks = [];
  notes = notes;
  grown = sym (append-nil log);
  counted = refl;
  driven = d;
  asked = asked_none seen (bench_enabled net notes) chooser;
}

pub goes_on : {P Q K : Type 0} (known : P → PeerValue) (seen : Q → PickerValue K) (net : NetValue) (s next : StageValue) (steps : ℕ) (before now log : List ℕ)
    (count : ℕ) (was mid is : P) (at_first chooser picked : Q) (last brought : Option Hazard) (p n at : ℕ) → IsNet net →
    HasDriven known seen net steps before now count was mid at_first chooser s last → log ≡ now ++ p ∷ [] →
    IsPick (moves_now s) p (seen chooser) (seen picked) →
    count < steps → end_with last (moves_now s) false ≡ None → p < length (moves_now s) → n ≡ get_or (moves_now s) p n → IsMade s next n brought →
    at ≡ count + 1 → IsMoveNoted known s.net (now_of s) (now_of next) n at s.script next.script mid is → AreOffered next.script (now_of next) →
    (known mid).spare + free_on s.net next.script (now_of next) ≤ (known is).spare + free_on s.net s.script (now_of s) + 2 →
    HasDriven known seen net steps before log (count + 1) was is at_first picked next brought
goes_on known seen net s next steps before now log count was mid is at_first chooser picked last brought p n at is_net h more pick few goes within here made
    moment noted offered spare =
    let one = step known net s next steps h.picks h.notes was mid is last brought p n at is_net h.driven (omega (arith, h.counted)) goes within here made
    (omega (arith, h.counted)) noted offered spare in
    let listed : moves_now s ≡ bench_enabled net (h.notes ++ one.0) h.picks = listed_now known net steps h.picks h.notes was mid s last h.driven
    ∙ ap (λ (e : List OfferValue). enabled_moves net e (after net (bench_start net) (bench_moves net h.notes h.picks)))
    (sym (script_now net h.notes (length h.picks) h.driven.until))
    ∙ sym (enabled_agree net h.notes one.0 h.picks (length h.picks + 1) (omega arith) one.1) in
    record {
      picks = h.picks ++ p ∷ [];
      notes = h.notes ++ one.0;
      grown = more ∙ ap (λ (xs : List ℕ). xs ++ p ∷ []) h.grown ∙ append_assoc before h.picks (p ∷ []);
      counted = length_push h.picks p ∙ ap (λ (k : ℕ). k + 1) h.counted;
      driven = one.2;
      asked = asked_more seen (bench_enabled net (h.notes ++ one.0)) h.picks p at_first chooser picked
          (asked_alike seen (bench_enabled net h.notes) (bench_enabled net (h.notes ++ one.0)) h.picks at_first chooser
          (λ k below. sym (enabled_agree net h.notes one.0 (take k h.picks) (length h.picks + 1)
          (omega (arith, length-take-le k h.picks (omega arith))) one.1)) h.asked)
          (subst (λ (list : List ℕ). IsPick list p (seen chooser) (seen picked)) listed pick);
    }

-- the list that a pick is from

some_move : (last : Option Hazard) (xs : List ℕ) → end_with last xs false ≡ None → 0 < length xs
some_move None [] none = absurd (cc none)
some_move None (x ∷ xs) none = omega arith
some_move (Some h) xs none = absurd (cc none)

pub choice_list : (stage : StageValue) (net : NetValue) (last : Option Hazard) (nodes : ℕ) (xs : List ℕ) → stage.net ≡ net → xs ≡ moves_now stage →
    end_with last xs false ≡ None → length net.first ≤ nodes → IsChoiceList nodes xs
choice_list stage net last nodes xs same listed none wide = record {
  some = some_move last xs none;
  ascending = subst (λ (ys : List ℕ). AllPairs (λ (a b : ℕ). a < b) ys) (sym listed) (ascending _ 0 (length stage.net.first));
  below = subst (λ (ys : List ℕ). All (λ n. n < nodes) ys) (sym listed) (λ k d within. let less =
      enabled_below stage.net stage.script (now_of stage) k d within in
      let fits : length stage.net.first ≡ length net.first = ap (λ (w : NetValue). length w.first) same in
      omega arith);
}

-- within a list the default plays no part
pub any_default : (xs : List ℕ) (k d e : ℕ) → k < length xs → get_or xs k d ≡ get_or xs k e
any_default [] k d e within = absurd (omega arith)
any_default (x ∷ xs) zero d e within = refl
any_default (x ∷ xs) (suc k) d e within = any_default xs k d e (omega arith)

pub picked_within : (stage : StageValue) (xs : List ℕ) (p d : ℕ) → xs ≡ moves_now stage → p < length xs → get_or xs p d < length stage.net.first
picked_within stage xs p d listed within =
    subst (λ (ys : List ℕ). All (λ n. n < length stage.net.first) ys) (sym listed) (enabled_below stage.net stage.script (now_of stage)) p d within

-- what a move asks for
pub record IsReady {P : Type 0} (known : P → PeerValue) (stage : StageValue) (is : P) : Type 0 where
  pub room : 1 ≤ stage.room
  pub rails : AreRailsHeld stage.net stage.script (now_of stage)
  pub spare : free_on stage.net stage.script (now_of stage) + 3 ≤ (known is).spare
  pub quiet : in_reset stage.net.reset (high stage.values) ≡ false → IsQuiet stage.net stage.script (now_of stage) (known is)

pub is_ready : {P Q K : Type 0} (known : P → PeerValue) (seen : Q → PickerValue K) (net : NetValue) (steps : ℕ) (before now : List ℕ) (count : ℕ) (was is : P)
    (at_first chooser : Q) (stage : StageValue) (last : Option Hazard) →
    HasDriven known seen net steps before now count was is at_first chooser stage last → count < steps → end_with last (moves_now stage) false ≡ None →
    IsReady known stage is
is_ready known seen net steps before now count was is at_first chooser stage last h few goes = record {
  room = omega (arith, h.driven.room, h.counted);
  rails = subst (λ (w : NetValue). AreRailsHeld w stage.script (now_of stage)) (sym h.driven.net_is) (h.driven.rails (goes_calm last (moves_now stage) goes));
  spare = let free : free_on stage.net stage.script (now_of stage) ≡ free_on net stage.script (now_of stage) =
      ap (λ (w : NetValue). free_on w stage.script (now_of stage)) h.driven.net_is in
      omega (arith, h.driven.spare, h.counted);
  quiet = subst (λ (w : NetValue). in_reset w.reset (high stage.values) ≡ false → IsQuiet w stage.script (now_of stage) (known is)) (sym h.driven.net_is)
      (λ low. quiet_under net (now_of stage) h.notes stage.script (known is) h.driven.stands (h.driven.quiet low));
}

-- the end

every : (n : ℕ) (p : ℕ → Bool) → ((k : ℕ) → p k ≡ true) → all_below n p ≡ true
every zero p all = refl
every (suc n) p all = and_from (all_below n p) (p n) (every n p all) (all n)

-- at rest reset is low
rest_low : (net : NetValue) (script : List OfferValue) (st : RunState) → IsAtRest net script st → in_reset net.reset (high st.values) ≡ false
rest_low net script st rest = by_reset net.reset refl
  where
    v : ℕ → Bool
    v = high st.values

    falls : (rule b i r f : Bool) → (rule || (if b then i && r else f)) ≡ false → b ≡ true → i ≡ true → r ≡ true → ⊥
    falls true b i r f none on is all = cc none
    falls false true true true f none on is all = cc none
    falls false true true false f none on is all = cc all
    falls false true false r f none on is all = cc is
    falls false false i r f none on is all = cc on

    by_value : (r : ℕ) → net.reset ≡ Some r → (b : Bool) → v r ≡ b → v r ≡ false
    by_value r at false e = e
    by_value r at true e =
        absurd (falls (rule_enabled net v r) (in_reset net.reset v) (is_reset net.reset r) (rules_rest net v) (raises_go v r
        || channels_move v (offer_at script) (completed st.histories) 0 net.channels r) (rest r) (ap (λ (o : Option ℕ). in_reset o v) at ∙ e)
        (ap (λ (o : Option ℕ). is_reset o r) at ∙ eq-eqb r r refl)
        (every (length net.first) (λ n. not (rule_enabled net v n))
        (λ n. not_from_false (rule_enabled net v n) (or_parts (rule_enabled net v n) _ (rest n)).0)))

    by_reset : (o : Option ℕ) → net.reset ≡ o → in_reset net.reset v ≡ false
    by_reset None at = ap (λ (o : Option ℕ). in_reset o v) at
    by_reset (Some r) at = ap (λ (o : Option ℕ). in_reset o v) at ∙ by_value r at (v r) refl

pub rest_empties : (last : Option Hazard) (xs : List ℕ) (spent : Bool) → end_with last xs spent ≡ Some AtRest → xs ≡ []
rest_empties last [] spent ended = refl
rest_empties None (x ∷ xs) true ended = absurd (cc ended)
rest_empties None (x ∷ xs) false ended = absurd (cc ended)
rest_empties (Some h) (x ∷ xs) spent ended = absurd (by_hazard h ended)
  where
    by_hazard : (h : Hazard) → Some (end_from h) ≡ Some AtRest → ⊥
    by_hazard (Hazard.BothWays n) e = cc e
    by_hazard (Hazard.Unstable n) e = cc e
    by_hazard (Hazard.Protocol c) e = cc e

-- the hazard of the last move is one under the script of its moment
some_last : (net : NetValue) (scripts : Scripts) (st : RunState) (ns : List ℕ) →
    (script : List OfferValue) × ((was : RunState) × ((ms : List ℕ) × (hazard_under net scripts st ns ≡ last_hazard net script was ms)))
some_last net scripts st [] = (scripts 0, (st, ([], refl)))
some_last net scripts st (n ∷ []) = (scripts 0, (st, (n ∷ [], refl)))
some_last net scripts st (n ∷ m ∷ ns) = some_last net (later scripts) (moved net st n) (m ∷ ns)

drop_front : (xs ys : List Note) → drop (length xs) (xs ++ ys) ≡ ys
drop_front [] ys = refl
drop_front (x ∷ xs) ys = drop_front xs ys

pub record IsOver {P Q K : Type 0} (known : P → PeerValue) (seen : Q → PickerValue K) (s : SetupValue) (before now : List ℕ) (count : ℕ) (was is : P)
    (at_first chooser : Q) (stage : StageValue) (end : End) : Type 0 where
  pub log : now ≡ before ++ growth before now
  pub noted : (known is).log ≡ (known was).log ++ noted_since (known was).log (known is).log
  pub name : (known is).name ≡ (known was).name
  pub net : stage.net ≡ s.net
  pub run : IsBenchRun known s (growth before now) (noted_since (known was).log (known is).log) was is
      (record { net = stage.net; end = end; moves = count; done_high = high stage.values 1; passed = stage.passed })
  pub within : IsEndIn s.net end
  pub asked : IsAskedAlong seen (bench_enabled s.net (noted_since (known was).log (known is).log)) (growth before now) at_first chooser

pub over : {P Q K : Type 0} (known : P → PeerValue) (seen : Q → PickerValue K) (s : SetupValue) (before now : List ℕ) (count total : ℕ) (was is : P)
    (at_first chooser : Q) (stage : StageValue) (last : Option Hazard) (spent : Bool) (end : End) → IsNet s.net →
    HasDriven known seen s.net s.steps before now count was is at_first chooser stage last → total ≡ count → (count == s.steps) ≡ spent →
    end_with last (moves_now stage) spent ≡ Some end → IsOver known seen s before now total was is at_first chooser stage end
over {P} known seen s before now count total was is at_first chooser stage last spent end net h all counted ended = record {
  log = h.grown ∙ ap (λ (xs : List ℕ). before ++ xs) (sym picked);
  noted = h.driven.logged.log ∙ ap (λ (xs : List Note). (known was).log ++ xs) (sym noted);
  name = h.driven.logged.name;
  net = h.driven.net_is;
  run = subst (λ (xs : List Note). IsBenchRun known s (growth before now) xs was is ran) (sym noted)
      (subst (λ (ps : List ℕ). IsBenchRun known s ps h.notes was is ran) (sym picked) (record {
        picked = h.driven.picked;
        run = h.driven.run;
        suits = h.driven.suits;
        noted = h.driven.noted;
        placed = placed.placed;
        took = placed.took;
        ends = record {
          ended = sym (end_now known s.net s.steps h.picks h.notes was is stage last spent h.driven (ap (λ (k : ℕ). k == s.steps) h.counted ∙ counted)) ∙ ended;
          not_before = λ k less. h.driven.no_end k (omega (arith, moves_count s.net h.notes h.picks));
        };
        quiet = λ e. quiet e;
        one_length = λ safe rest. ends_all s.net (script_by s.net h.notes) (bench_start s.net) net safe moves h.driven.run (resting rest);
        net = h.driven.net_is;
        moves = all ∙ sym h.counted;
        done = ap (λ (r : RunState). high r.values 1) h.driven.now;
        passed = h.driven.passed;
      }));
  within = end_within s.net cause.0 cause.1.0 cause.1.1.0 (moves_now stage) spent last end (h.driven.hazard ∙ cause.1.1.1) ended;
  asked = subst (λ (xs : List Note). IsAskedAlong seen (bench_enabled s.net xs) (growth before now) at_first chooser) (sym noted)
      (subst (λ (ps : List ℕ). IsAskedAlong seen (bench_enabled s.net h.notes) ps at_first chooser) (sym picked) h.asked);
}
  where
    ran : RanValue
    ran = record { net = stage.net; end = end; moves = total; done_high = high stage.values 1; passed = stage.passed }

    moves : List ℕ
    moves = bench_moves s.net h.notes h.picks

    placed : ArePlaced s.net (bench_start s.net) moves h.notes
    placed = along_placed known s.net (bench_start s.net) was h.driven.noted

    resting : end ≡ AtRest → IsAtRest s.net (script_by s.net h.notes) (after s.net (bench_start s.net) moves)
    resting rest =
        rests s.net (script_by s.net h.notes) (after s.net (bench_start s.net) moves) net
        (sym (listed_now known s.net s.steps h.picks h.notes was is stage last h.driven)
        ∙ rest_empties last (moves_now stage) spent (ended ∙ ap Some rest))

    picked : growth before now ≡ h.picks
    picked = growth_is before now h.picks h.grown

    noted : noted_since (known was).log (known is).log ≡ h.notes
    noted = ap (drop (length (known was).log)) h.driven.logged.log ∙ drop_front (known was).log h.notes

    cause : (script : List OfferValue) × ((was : RunState) × ((ms : List ℕ)
        × (hazard_under s.net (script_after s.net h.notes) (bench_start s.net) (bench_moves s.net h.notes h.picks) ≡ last_hazard s.net script was ms)))
    cause = some_last s.net (script_after s.net h.notes) (bench_start s.net) moves

    still : in_reset s.net.reset (high (after s.net (bench_start s.net) moves).values) ≡ false →
        NothingComes s.net h.notes (after s.net (bench_start s.net) moves) (known is)
    still low =
        subst (λ (r : RunState). NothingComes s.net h.notes r (known is)) h.driven.now
        (h.driven.quiet (ap (λ (r : RunState). in_reset s.net.reset (high r.values)) h.driven.now ∙ low))

    quiet : (end ≡ AtRest) ⊎ ((end ≡ Spent) × (in_reset s.net.reset (high (after s.net (bench_start s.net) moves).values) ≡ false)) →
        NothingComes s.net h.notes (after s.net (bench_start s.net) moves) (known is)
    quiet (inl rest) =
        still (rest_low s.net (script_by s.net h.notes) (after s.net (bench_start s.net) moves) (resting rest))
    quiet (inr spent_low) = still spent_low.1
