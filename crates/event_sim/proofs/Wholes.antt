-- Laws of simulated runs.
use Rattle.std.proofs.Common.{◌≡◌, ℕ, zero, suc, ◌<◌, ◌≤◌, Bool, true, false, List, [], ◌∷◌, ◌++◌, length, get_or, map, refl, sym, ap, subst, ◌∙◌, inl, inr, arith}
use Rattle.std.specs.Prelude.{◌⊎◌, ◌↔◌, not, ◌&&◌, ◌==◌, if◌then◌else◌, Option, Some, None, is_some, IsSome, option_map, option_to_list}
use Rattle.std.specs.List.{list_any, range_with_len}
use Rattle.std.proofs.lemmas.Bool.{eqb-true, eqb-false, ne_eqb, or_cases, and_left, cases_lt}
use Rattle.std.proofs.lemmas.List.{append-nil, append_assoc, get_or_past, length-map}
use Rattle.std.proofs.lemmas.List.FromFn.{length-range_with_len, get_or-map-range_with_len}
use Rattle.prs_core.specs.Nets.{NetValue, IsNet, IsUndriven, first_at}
use Rattle.prs_core.specs.Moves.{high, guard_holds, both_ways as torn}
use Rattle.env_script.specs.Scripts.{OfferValue}
use Rattle.env_script.specs.Phases.{phase_fault}
use Rattle.env_script.specs.Runs.{RunState, IsRun, IsApart, IsSafeMove, IsPowered, move_enabled, moved, after, begin_at, history_at}
use Rattle.env_script.specs.declared.hazard.Hazard.{Hazard}
use Rattle.env_script.specs.declared.hazard.Hazard.TheVariants.{BothWays, Unstable, Protocol}
use Rattle.env_script.specs.Hazards.{least_below, or_else, takes_away, first_hazard, hazard_of}
use Rattle.event_sim.specs.Following.{enabled_moves, follow, ArePicks, power_value, power_of}
use Rattle.event_sim.specs.Passing.{passed_in, completion, values_through, channel_histories}
use Rattle.event_sim.proofs.Lists.{among_is, least_none}
use Rattle.event_sim.proofs.Histories.{histories_more, histories_none}
use Rattle.env_script.proofs.MovesWithin.{move_in}

-- a number in a list stands at some place of it
placed : (xs : List ℕ) (n : ℕ) → list_any (λ k. k == n) xs ≡ true → (p : ℕ) × (p < length xs) × (get_or xs p 0 ≡ n)
placed [] n among = absurd (cc among)
placed (x ∷ xs) n among = by_first (or_cases (x == n) (list_any (λ k. k == n) xs) among) (λ later. placed xs n later)
  where
    by_first : ((x == n) ≡ true) ⊎ (list_any (λ k. k == n) xs ≡ true) → (list_any (λ k. k == n) xs ≡ true → (p : ℕ) × (p < length xs) × (get_or xs p 0 ≡ n)) →
        (p : ℕ) × (p < suc (length xs)) × (get_or (x ∷ xs) p 0 ≡ n)
    by_first (inl here) later = (zero, omega arith, eqb-true x n here)
    by_first (inr there) later = let found = later there in (suc found.0, omega (arith, found.1), found.2)

-- each run is what some picks lead to
pub picks_of : (net : NetValue) (script : List OfferValue) → IsNet net → (ns : List ℕ) (st : RunState) → IsRun net script st ns →
    (picks : List ℕ) × ArePicks net script st picks × (follow net script st picks ≡ ns)
picks_of net script is [] st run = ([], tt, refl)
picks_of net script is (n ∷ ns) st run =
    let within = move_in net script st n is run.0 in
    let at = placed (enabled_moves net script st) n (among_is (move_enabled net script st) (length net.first) n within ∙ run.0) in
    let rest = picks_of net script is ns (moved net st n) run.1 in (
      at.0 ∷ rest.0,
      (at.1, subst (λ (m : ℕ). ArePicks net script (moved net st m) rest.0) (sym at.2) rest.1),
      ap (λ (m : ℕ). m ∷ follow net script (moved net st m) rest.0) at.2 ∙ ap (λ (ms : List ℕ). n ∷ ms) rest.2,
    )

-- what passes in a run, and the histories behind it
histories_behind : (net : NetValue) → IsNet net → (ns : List ℕ) (values : List Bool) (passed : List (ℕ × ℕ)) →
    (after net (record { values = values; histories = channel_histories (length net.channels) passed }) ns).histories ≡
    channel_histories (length net.channels) (passed ++ passed_in net (record { values = values; histories = channel_histories (length net.channels) passed })
    ns)
histories_behind net is [] values passed = ap (channel_histories (length net.channels)) (sym (append-nil passed))
histories_behind net is (n ∷ ns) values passed =
    let st : RunState = record { values = values; histories = channel_histories (length net.channels) passed } in
    let now : List (ℕ × ℕ) = passed ++ option_to_list (completion net (high values) n) in
    let there : record { values = (moved net st n).values; histories = channel_histories (length net.channels) now } ≡ moved net st n =
    ap (λ (hs : List (List ℕ)). record { values = (moved net st n).values; histories = hs }) (histories_more net is values passed n) in
    ap (λ (r : RunState). (after net r ns).histories) (sym there) ∙ histories_behind net is ns (moved net st n).values now
    ∙ ap (λ (r : RunState). channel_histories (length net.channels) (now ++ passed_in net r ns)) there
    ∙ ap (channel_histories (length net.channels))
    (append_assoc passed (option_to_list (completion net (high values) n)) (passed_in net (moved net st n) ns))

pub passed_histories : (net : NetValue) (values : List Bool) (ns : List ℕ) (c : ℕ) → IsNet net → c < length net.channels →
    values_through c (passed_in net (begin_at net values) ns) ≡ history_at (after net (begin_at net values) ns).histories c
passed_histories net values ns c is within =
    sym (ap (λ (hs : List (List ℕ)). history_at hs c) whole ∙ get_or-map-range_with_len (λ k. values_through k (passed_in net (begin_at net values) ns)) 0
    (length net.channels) c c [] within (omega arith))
  where
    none : record { values = values; histories = channel_histories (length net.channels) [] } ≡ begin_at net values
    none = ap (λ (hs : List (List ℕ)). record { values = values; histories = hs }) (histories_none (length net.channels))

    whole : (after net (begin_at net values) ns).histories ≡ channel_histories (length net.channels) (passed_in net (begin_at net values) ns)
    whole =
        subst (λ (r : RunState). (after net r ns).histories ≡ channel_histories (length net.channels) (passed_in net r ns)) none
        (histories_behind net is ns values [])

-- safe moves and hazards

least_is_none : (count : ℕ) (p : ℕ → Bool) → least_below count p ≡ None → (k : ℕ) → k < count → p k ≡ false
least_is_none zero p none k within = absurd (omega arith)
least_is_none (suc n) p none k within = by_first (least_below n p) (p n) refl refl none (λ found less. least_is_none n p found k less)
  where
    by_first : (o : Option ℕ) (b : Bool) → least_below n p ≡ o → p n ≡ b → or_else o (if b then Some n else None) ≡ None →
        (least_below n p ≡ None → k < n → p k ≡ false) → p k ≡ false
    by_first (Some j) b found here e below = absurd (cc e)
    by_first None true found here e below = absurd (cc e)
    by_first None false found here e below = by_place (cases_lt k n) (λ less. below found less)
      where
        by_place : (k < n) ⊎ (n ≤ k) → (k < n → p k ≡ false) → p k ≡ false
        by_place (inl less) below = below less
        by_place (inr past) below = let same : k ≡ n = omega arith in ap p same ∙ here

apart_past : (net : NetValue) → IsNet net → (v : ℕ → Bool) (n : ℕ) → length net.first ≤ n → torn net v n ≡ false
apart_past net is v n past =
    let ups : length net.up ≤ n = omega (arith, is.ups) in
    and_left _ _ (ap (guard_holds v) (get_or_past net.up n [] ups))

neither : (a b : Option Hazard) → or_else a b ≡ None → (a ≡ None) × (b ≡ None)
neither None b none = (refl, none)
neither (Some h) b none = absurd (cc none)

none_mapped : (f : ℕ → Hazard) (o : Option ℕ) → option_map f o ≡ None → o ≡ None
none_mapped f None none = refl
none_mapped f (Some k) none = absurd (cc none)

pub safe_is_calm : (net : NetValue) (script : List OfferValue) (st : RunState) (n : ℕ) → IsNet net →
    (IsSafeMove net script st n × IsApart net (moved net st n)) ↔ (hazard_of net script st n ≡ None)
safe_is_calm net script st n is = (calm, safe)
  where
    stays : (a b c : Bool) → (a ≡ false → b ≡ true → c ≡ true) → (not a && (b && not c)) ≡ false
    stays true b c keeps = refl
    stays false false c keeps = refl
    stays false true true keeps = refl
    stays false true false keeps = absurd (cc (keeps refl refl))

    kept : (a b c : Bool) → a ≡ false → b ≡ true → (not a && (b && not c)) ≡ false → c ≡ true
    kept true b c one two e = absurd (cc one)
    kept false false c one two e = absurd (cc two)
    kept false true true one two e = refl
    kept false true false one two e = absurd (cc e)

    calm : IsSafeMove net script st n × IsApart net (moved net st n) → hazard_of net script st n ≡ None
    calm both =
        rw (
          least_none (length net.first) (torn net (high (moved net st n).values)) (λ k less. both.1 k),
          least_none (length net.first) (takes_away net script st n)
              (λ k less. stays (k == n) _ _ (λ apart moves. both.0.stable k (eqb-false k n apart) moves)),
          both.0.phases,
        ) refl

    safe : hazard_of net script st n ≡ None → IsSafeMove net script st n × IsApart net (moved net st n)
    safe none =
        let one = neither (first_hazard net (moved net st n)) (or_else (option_map Unstable (least_below (length net.first) (takes_away net script st n)))
        (option_map Protocol (phase_fault net (high st.values) n))) none in
        let two = neither (option_map Unstable (least_below (length net.first) (takes_away net script st n)))
        (option_map Protocol (phase_fault net (high st.values) n)) one.1 in (
          record {
            stable = λ m apart enabled. kept (m == n) _ _ (ne_eqb m n apart) enabled
                (least_is_none (length net.first) (takes_away net script st n) (none_mapped Unstable _ two.0) m (move_in net script st m is enabled));
            phases = none_mapped Protocol _ two.1;
          },
          λ k. by_place k (least_is_none (length net.first) (torn net (high (moved net st n).values)) (none_mapped BothWays _ one.0) k)
              (cases_lt k (length net.first)),
        )
      where
        by_place : (k : ℕ) → (k < length net.first → torn net (high (moved net st n).values) k ≡ false) → (k < length net.first) ⊎ (length net.first ≤ k) →
            torn net (high (moved net st n).values) k ≡ false
        by_place k below (inl less) = below less
        by_place k below (inr past) = apart_past net is (high (moved net st n).values) k past

-- where a net with a reset node begins
pub powered : (net : NetValue) (start : Bool) → IsNet net → IsSome net.reset → IsPowered net (power_of net start)
powered net start is reset = by_reset net.reset reset
  where
    each : (n : ℕ) → IsUndriven net n → high (map (power_value net start) (range_with_len 0 (length net.first))) n ≡ first_at net n
    each n undriven = by_place (cases_lt n (length net.first))
      where
        plain : power_value net start n ≡ first_at net n
        plain = rw (undriven.up, undriven.down) refl

        by_place : (n < length net.first) ⊎ (length net.first ≤ n) → high (map (power_value net start) (range_with_len 0 (length net.first))) n ≡ first_at net n
        by_place (inl within) = get_or-map-range_with_len (power_value net start) 0 (length net.first) n n false within (omega arith) ∙ plain
        by_place (inr past) = get_or_past _ n false (omega (
          arith,
          length-map (range_with_len 0 (length net.first)) (power_value net start),
          length-range_with_len 0 (length net.first),
        )) ∙ sym (get_or_past net.first n false past)

    by_reset : (o : Option ℕ) → IsSome o → IsPowered net (if is_some o then map (power_value net start) (range_with_len 0 (length net.first)) else net.first)
    by_reset None some = absurd (cc some)
    by_reset (Some r) some = record {
      count = length-map (range_with_len 0 (length net.first)) (power_value net start) ∙ length-range_with_len 0 (length net.first);
      others = each;
    }
