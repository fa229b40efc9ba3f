-- Where every run under the script of all notes is safe, a run on a bench ends at rest or for want of moves.
use Rattle.std.proofs.Common.{◌≡◌, ℕ, ◌+◌, Bool, true, false, List, [], ◌∷◌, ◌++◌, length, sym, ap, subst, ◌∙◌, inl, inr, arith}
use Rattle.std.specs.Prelude.{◌⊎◌, ◌==◌, option_map, Option, Some, None}
use Rattle.std.proofs.lemmas.List.{append_assoc, length-replicate}
use Rattle.prs_core.specs.Nets.{NetValue, IsNet}
use Rattle.prs_core.specs.Moves.{high, both_ways}
use Rattle.env_script.specs.declared.hazard.Hazard.{Hazard}
use Rattle.env_script.specs.declared.hazard.Hazard.TheVariants.{BothWays}
use Rattle.env_script.specs.Scripts.{OfferValue}
use Rattle.env_script.specs.Runs.{RunState, IsSafeMove, IsSafeRun, IsApart, moved, after}
use Rattle.env_script.specs.Hazards.{first_hazard, hazard_of}
use Rattle.env_script.specs.OneLength.{AllSafe}
use Rattle.event_sim.specs.declared.ran.End.{End}
use Rattle.event_sim.specs.declared.ran.End.TheVariants.{AtRest, Spent}
use Rattle.event_sim.specs.Ends.{end_with}
use Rattle.event_sim.specs.Following.{enabled_moves}
use Rattle.event_sim.specs.Passing.{completion}
use Rattle.event_sim.specs.Simulating.{RanValue}
use Rattle.event_sim.proofs.Lists.{least_none}
use Rattle.event_sim.proofs.Wholes.{safe_is_calm}
use Rattle.peer_bench.specs.declared.note.Note.{Note}
use Rattle.peer_bench.specs.Growing.{script_by, script_after}
use Rattle.peer_bench.specs.Running.{hazard_under}
use Rattle.peer_bench.specs.Asking.{PeerValue}
use Rattle.peer_bench.specs.Along.{lets_ask, told_passed, IsAskedIf, IsNotedAlong, at_first, behind_move}
use Rattle.peer_bench.specs.Benches.{SetupValue, bench_start, bench_moves, IsBenchRun}
use Rattle.peer_bench.proofs.Beginning.{power_length}
use Rattle.peer_bench.proofs.Calm.{IsWhole, whole_after, safe_sooner}
use Rattle.peer_bench.proofs.Growth.{AreAt, hazard_more, at_both, scripts_agree, script_now}
use Rattle.peer_bench.proofs.Moments.{told_at, asked_of}
use Rattle.peer_bench.proofs.Placed.{along_placed}
use Rattle.peer_bench.proofs.Resting.{until_placed}
use Rattle.peer_bench.proofs.Seen.{itself}

last_of : (net : NetValue) (script : List OfferValue) (st : RunState) (ns : List ℕ) (n : ℕ) → IsSafeRun net script st (ns ++ n ∷ []) →
    IsSafeMove net script (after net st ns) n × IsApart net (moved net (after net st ns) n)
last_of net script st [] n safe = (safe.1, safe.2)
last_of net script st (m ∷ ns) n safe = last_of net script (moved net st m) ns n safe.2

apart_calm : (net : NetValue) (st : RunState) → IsApart net st → first_hazard net st ≡ None
apart_calm net st apart = ap (option_map BothWays) (least_none (length net.first) (both_ways net (high st.values)) (λ k less. apart k))

asked_if_at : {P : Type 0} (known : P → PeerValue) (b : Bool) (net : NetValue) (st : RunState) (at : ℕ) (notes more : List Note) (was is : P) →
    IsAskedIf b known net st at notes more was is → AreAt at more
asked_if_at known true net st at notes more was is asked = (asked_of known net st at notes more was is asked).when
asked_if_at known false net st at notes more was is asked = subst (AreAt at) (sym asked.0) tt

no_hazard : {P : Type 0} (known : P → PeerValue) (net : NetValue) (start : RunState) (was : P) {moves : List ℕ} {notes : List Note} {is : P} →
    IsNet net → IsWhole net start → IsNotedAlong known net start was moves notes is → IsSafeRun net (script_by net notes) start moves →
    hazard_under net (script_after net notes) start moves ≡ None
no_hazard known net start was is_net whole (at_first more is asked) safe = apart_calm net start safe
no_hazard known net start was is_net whole (behind_move ns n notes more mid late is before noted asked) safe =
    let at : ℕ = length ns + 1 in
    let st : RunState = after net start ns in
    let behind : RunState = after net start (ns ++ n ∷ []) in
    let news : List Note = told_passed net at (completion net (high st.values) n) in
    let all : (notes ++ news) ++ more ≡ notes ++ (news ++ more) = append_assoc notes news more in
    let moment : AreAt at (news ++ more) = at_both at news more (told_at net at (completion net (high st.values) n))
    (asked_if_at known (lets_ask net st behind n) net behind at (notes ++ news) more late is asked) in
    let script : script_after net ((notes ++ news) ++ more) (length ns) ≡ script_by net notes =
    ap (λ (xs : List Note). script_after net xs (length ns)) all ∙ scripts_agree net notes (news ++ more) (length ns) at (omega arith) moment
    ∙ script_now net notes (length ns) (until_placed net start ns [] notes (along_placed known net start was before).placed) in
    let last = last_of net (script_by net ((notes ++ news) ++ more)) start ns n safe in
    hazard_more net (script_after net ((notes ++ news) ++ more)) start ns n ∙ ap (λ (e : List OfferValue). hazard_of net e st n) script
    ∙ (safe_is_calm net (script_by net notes) st n is_net).0 (
      safe_sooner net notes (news ++ more) st n is_net (whole_after net start ns whole)
          (subst (λ (xs : List Note). IsSafeMove net (script_by net xs) st n) all last.0),
      last.1,
    )

rests_or_spends : (xs : List ℕ) (spent : Bool) (end : End) → end_with None xs spent ≡ Some end → (end ≡ AtRest) ⊎ (end ≡ Spent)
rests_or_spends [] spent end ended = inl (same_end end AtRest (sym ended))
  where
    same_end : (a b : End) → Some a ≡ Some b → a ≡ b
    same_end a b e = cc
rests_or_spends (x ∷ xs) true end ended = inr (same_end end Spent (sym ended))
  where
    same_end : (a b : End) → Some a ≡ Some b → a ≡ b
    same_end a b e = cc
rests_or_spends (x ∷ xs) false end ended = absurd (cc ended)

pub ends_calm : (s : SetupValue) (picks : List ℕ) (notes : List Note) (was is : PeerValue) (ran : RanValue) → IsNet s.net →
    IsBenchRun (λ p. p) s picks notes was is ran → AllSafe s.net (script_by s.net notes) (bench_start s.net) → (ran.end ≡ AtRest) ⊎ (ran.end ≡ Spent)
ends_calm s picks notes was is ran net by safe =
    rests_or_spends (enabled_moves s.net (script_after s.net notes (length moves)) (after s.net (bench_start s.net) moves)) (length moves == s.steps) ran.end
    (sym (ap (λ (h : Option Hazard). end_with h (enabled_moves s.net (script_after s.net notes (length moves)) (after s.net (bench_start s.net) moves))
    (length moves == s.steps)) calm) ∙ by.ends.ended)
  where
    moves : List ℕ
    moves = bench_moves s.net notes picks

    calm : hazard_under s.net (script_after s.net notes) (bench_start s.net) moves ≡ None
    calm =
        no_hazard itself s.net (bench_start s.net) was net
        (record { values = power_length s.net; histories = length-replicate (length s.net.channels) [] }) by.noted (safe moves by.run)
