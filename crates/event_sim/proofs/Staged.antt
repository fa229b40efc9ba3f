-- A stage of a run: its lists are those of the definition, and so is the hazard that a move brings.
use Rattle.std.proofs.Common.{◌≡◌, ℕ, zero, suc, Bool, true, false, List, [], ◌∷◌, length, map, filter, refl, sym, ap, ◌∙◌, ◌<◌}
use Rattle.std.specs.Prelude.{◌&&◌, ◌||◌, if◌then◌else◌, Option, Some, None, option_map, slice_index}
use Rattle.std.specs.List.{find, range_with_len}
use Rattle.prs_core.specs.declared.wires.Wires.{Wires}
use Rattle.prs_core.specs.Nets.{NetValue}
use Rattle.prs_core.specs.Fans.{is_reader, readers_below}
use Rattle.prs_core.specs.Moves.{high, fired, rule_enabled, both_ways}
use Rattle.env_script.specs.Scripts.{OfferValue, offer_at}
use Rattle.env_script.specs.Environment.{channels_move, env_enabled, in_reset, is_reset, rules_rest, raises_go}
use Rattle.env_script.specs.Phases.{phase_fault}
use Rattle.env_script.specs.Runs.{RunState, moved, move_enabled, completed, histories_after}
use Rattle.env_script.specs.Hazards.{least_below, or_else, takes_away, hazard_of}
use Rattle.env_script.specs.declared.hazard.Hazard.TheVariants.{BothWays, Unstable, Protocol}
use Rattle.event_sim.specs.Following.{enabled_moves}
use Rattle.event_sim.specs.Locality.{IndexedValue, has_move, is_member, members, IsPassing, IsCountedMove, lost_by}
use Rattle.event_sim.specs.Stages.{worst_cause}
use Rattle.event_sim.proofs.Lists.{least_agrees, first_is_least}
use Rattle.event_sim.proofs.Behind.{least_absent}
use Rattle.event_sim.proofs.Members.{agree_below}
use Rattle.event_sim.proofs.Near.{counts_kept, pulled_near}

channels_agree : (v : ℕ → Bool) (script : ℕ → OfferValue) (d e : ℕ → ℕ) → ((k : ℕ) → d k ≡ e k) → (c : ℕ) (ws : List Wires) (n : ℕ) →
    channels_move v script d c ws n ≡ channels_move v script e c ws n
channels_agree v script d e agree c [] n = refl
channels_agree v script d e agree c (w ∷ ws) n = rw (agree c, channels_agree v script d e agree (suc c) ws n) refl

-- the environment looks at each channel's count alone
env_agrees : (net : NetValue) (script : List OfferValue) (d e : ℕ → ℕ) (v : ℕ → Bool) (n : ℕ) → ((k : ℕ) → d k ≡ e k) →
    env_enabled net script d v n ≡ env_enabled net script e v n
env_agrees net script d e v n agree =
    ap (λ b. if in_reset net.reset v then is_reset net.reset n && rules_rest net v else raises_go v n || b)
    (channels_agree v (offer_at script) d e agree 0 net.channels n)

pub counts_are : (hs : List (List ℕ)) (k : ℕ) → slice_index (map (λ (h : List ℕ). length h) hs) k ≡ completed hs k
counts_are [] zero = refl
counts_are [] (suc k) = refl
counts_are (h ∷ hs) zero = refl
counts_are (h ∷ hs) (suc k) = counts_are hs k

enabled_same : (net : NetValue) (script : List OfferValue) (values : List Bool) (hs : List (List ℕ)) (done : List ℕ) (n : ℕ) →
    done ≡ map (λ (h : List ℕ). length h) hs → has_move net script done values n ≡ move_enabled net script (record { values = values; histories = hs }) n
enabled_same net script values hs done n counted =
    ap (λ b. rule_enabled net (high values) n || b)
    (env_agrees net script (slice_index done) (completed hs) (high values) n (λ k. ap (λ (xs : List ℕ). slice_index xs k) counted ∙ counts_are hs k))

-- the set of the moves by the counts of completed values
pub passing_same : (net : NetValue) (script : List OfferValue) (st : RunState) (done : List ℕ) (marks : List Bool) →
    done ≡ map (λ (h : List ℕ). length h) st.histories → IsPassing (length net.first) (has_move net script done st.values) marks →
    IsPassing (length net.first) (move_enabled net script st) marks
passing_same net script st done marks counted passing = record {
  count_is = passing.count_is;
  each = λ n less. passing.each n less ∙ enabled_same net script st.values st.histories done n counted;
}

-- and the other way
pub passing_back : (net : NetValue) (script : List OfferValue) (st : RunState) (done : List ℕ) (marks : List Bool) →
    done ≡ map (λ (h : List ℕ). length h) st.histories → IsPassing (length net.first) (move_enabled net script st) marks →
    IsPassing (length net.first) (has_move net script done st.values) marks
passing_back net script st done marks counted passing = record {
  count_is = passing.count_is;
  each = λ n less. passing.each n less ∙ sym (enabled_same net script st.values st.histories done n counted);
}

-- the list of the set is that of the definition
pub listed_same : (net : NetValue) (script : List OfferValue) (st : RunState) (marks : List Bool) →
    IsPassing (length net.first) (move_enabled net script st) marks →
    members marks ≡ enabled_moves net script st
listed_same net script st marks passing =
    ap (λ count. filter (is_member marks) (range_with_len 0 count)) passing.count_is
    ∙ agree_below (is_member marks) (move_enabled net script st) (length net.first) passing.each

-- an enabled move, by the counts
pub move_is : (x : IndexedValue) (st : RunState) (n : ℕ) (was done : List ℕ) (old : List Bool) → was ≡ map (λ (h : List ℕ). length h) st.histories →
    done ≡ map (λ (h : List ℕ). length h) (histories_after x.net st n) → length st.histories ≡ length x.net.channels → length st.values ≡ length x.net.first →
    IsPassing (length x.net.first) (move_enabled x.net x.script st) old → move_enabled x.net x.script st n ≡ true →
    IsCountedMove x n was done st.values (fired st.values n) old
move_is x st n was done old counted counted_then whole count passing enabled = record {
  set_is = record {
    count_is = passing.count_is;
    each = λ m less. passing.each m less ∙ sym (enabled_same x.net x.script st.values st.histories was m counted);
  };
  enabled = enabled_same x.net x.script st.values st.histories was n counted ∙ enabled;
  count_is = count;
  values_are = refl;
  counts_are = λ c d less apart. ap (λ (ks : List ℕ). slice_index ks c) counted_then ∙ counts_are (histories_after x.net st n) c
      ∙ counts_kept x.net st n c d whole less apart ∙ sym (ap (λ (ks : List ℕ). slice_index ks c) counted ∙ counts_are st.histories c);
}

-- the least node whose move is taken away, by the counts
pub lost_is : (x : IndexedValue) (st : RunState) (n : ℕ) (was done : List ℕ) → was ≡ map (λ (h : List ℕ). length h) st.histories →
    done ≡ map (λ (h : List ℕ). length h) (histories_after x.net st n) →
    lost_by x n was done st.values (fired st.values n) ≡ least_below (length x.net.first) (takes_away x.net x.script st n)
lost_is x st n was done counted counted_then = least_agrees (length x.net.first) _ _ (λ m less.
    rw (
      enabled_same x.net x.script st.values st.histories was m counted,
      enabled_same x.net x.script (fired st.values n) (histories_after x.net st n) done m counted_then,
    ) refl)

worst_is : (pulled lost broken : Option ℕ) →
    worst_cause pulled lost broken ≡ or_else (option_map BothWays pulled) (or_else (option_map Unstable lost) (option_map Protocol broken))
worst_is (Some k) lost broken = refl
worst_is None (Some k) broken = refl
worst_is None None (Some c) = refl
worst_is None None None = refl

-- the hazard by its three tests
pub hazard_is : (net : NetValue) (script : List OfferValue) (st : RunState) (n : ℕ) (pulled lost broken : Option ℕ) →
    pulled ≡ least_below (length net.first) (both_ways net (high (moved net st n).values)) →
    lost ≡ least_below (length net.first) (takes_away net script st n) →
    broken ≡ phase_fault net (high st.values) n → worst_cause pulled lost broken ≡ hazard_of net script st n
hazard_is net script st n pulled lost broken torn taken keeps = rw (torn, taken, keeps) (worst_is _ _ _)

-- only readers of the node can come to be pulled both ways
pub pulled_is : (net : NetValue) (before : List Bool) (n : ℕ) → None ≡ least_below (length net.first) (both_ways net (high before)) →
    find (both_ways net (high (fired before n))) (readers_below net (length net.first) n) ≡
    least_below (length net.first) (both_ways net (high (fired before n)))
pulled_is net before n none =
    first_is_least (is_reader net n) (both_ways net (high (fired before n))) (length net.first)
    ∙ least_agrees (length net.first) _ _ (λ k less. by_reading k less (is_reader net n k) refl)
  where
    by_reading : (k : ℕ) → k < length net.first → (b : Bool) → is_reader net n k ≡ b →
        (is_reader net n k && both_ways net (high (fired before n)) k) ≡ both_ways net (high (fired before n)) k
    by_reading k less true e = ap (λ t. t && both_ways net (high (fired before n)) k) e
    by_reading k less false e =
        ap (λ t. t && both_ways net (high (fired before n)) k) e
        ∙ sym (pulled_near net before n k e ∙ least_absent (length net.first) (both_ways net (high before)) (sym none) k less)
