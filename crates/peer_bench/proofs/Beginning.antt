-- How a run on a bench begins.
use Rattle.std.proofs.Common.{◌≡◌, ℕ, zero, suc, ◌+◌, ◌*◌, ◌≤◌, Bool, true, false, cond, List, [], ◌∷◌, length, map, replicate, refl, sym, ap, subst, ◌∙◌, arith}
use Rattle.std.specs.Prelude.{not, count_by, slice_get, is_some, Option, Some}
use Rattle.std.specs.List.{range_with_len}
use Rattle.std.proofs.lemmas.Bool.{le-leb, not_from_false}
use Rattle.std.proofs.lemmas.List.FromFn.{length-map-range_with_len}
use Rattle.std.proofs.lemmas.List.Sums.{sum_by-cons}
use Rattle.chp_base.specs.declared.channel.Kind.{Kind}
use Rattle.chp_base.specs.declared.channel.Kind.TheVariants.{In, Out, Chan}
use Rattle.prs_core.specs.declared.wires.Wires.{Wires}
use Rattle.prs_core.specs.Nets.{NetValue, IsNet}
use Rattle.prs_core.specs.Moves.{high}
use Rattle.env_script.specs.declared.hazard.Hazard.{Hazard}
use Rattle.env_script.specs.Scripts.{OfferValue, offer_at, IsScript}
use Rattle.env_script.specs.Environment.{in_reset, net_channels}
use Rattle.env_script.specs.Runs.{RunState, completed}
use Rattle.env_script.specs.Hazards.{first_hazard}
use Rattle.event_sim.specs.Asking.{PickerValue}
use Rattle.event_sim.specs.Following.{power_value, power_of}
use Rattle.event_sim.specs.Passing.{channel_histories}
use Rattle.event_sim.specs.Stages.{StageValue, now_of}
use Rattle.event_sim.specs.Standings.{offered_count, is_done}
use Rattle.event_sim.proofs.Histories.{histories_none}
use Rattle.peer_bench.specs.declared.note.Note.{Note}
use Rattle.peer_bench.specs.Growing.{offer_by, offer_on, script_by}
use Rattle.peer_bench.specs.Asking.{PeerValue}
use Rattle.peer_bench.specs.Along.{is_external, low_reset, IsAskedIf, NothingComes, at_first}
use Rattle.peer_bench.specs.Steps.{IsAskedByIf, AreOffered, free_from, free_on}
use Rattle.peer_bench.specs.Benches.{SetupValue, IsUnasked, bench_start, external_channels}
use Rattle.peer_bench.proofs.Fitting.{none_fit, more_fit}
use Rattle.peer_bench.proofs.Growth.{until_at}
use Rattle.peer_bench.proofs.Liking.{StandsFor, like_itself, script_at}
use Rattle.peer_bench.proofs.Moments.{AskedOnIf, asked_on_if}
use Rattle.peer_bench.proofs.Quiet.{asked_quiet}
use Rattle.peer_bench.proofs.Rails.{rails_first}
use Rattle.peer_bench.proofs.Room.{weight}
use Rattle.peer_bench.proofs.Underway.{IsDriven}
use Rattle.peer_bench.proofs.Ending.{HasDriven, has_begun}

-- nothing has completed

none_completed : (count c : ℕ) → completed (replicate count []) c ≡ 0
none_completed zero c = refl
none_completed (suc count) zero = refl
none_completed (suc count) (suc c) = none_completed count c

pub start_is : (s : StageValue) (steps : ℕ) → IsUnasked s steps → now_of s ≡ bench_start s.net
start_is s steps is =
    ap (λ (ps : List (ℕ × ℕ)). record { values = s.values; histories = channel_histories (length s.net.channels) ps }) is.passed
    ∙ ap (λ (hs : List (List ℕ)). record { values = s.values; histories = hs }) (histories_none (length s.net.channels))
    ∙ ap (λ (vs : List Bool). record { values = vs; histories = replicate (length s.net.channels) [] }) is.values

pub offered_first : (s : StageValue) (steps : ℕ) → IsUnasked s steps → AreOffered s.script (now_of s)
offered_first s steps is =
    subst (λ (r : RunState). AreOffered s.script r) (sym (start_is s steps is))
    (λ c n number. let none = none_completed (length s.net.channels) c in omega arith)

-- each external channel waits for a first offer

one_first : (kind : Kind) (c done : ℕ) → weight (is_done (offered_count (offer_by kind c [])) done) ≡ weight (is_external kind)
one_first In c done = ap weight (le-leb 0 done (omega arith))
one_first Out c done = ap weight (le-leb 0 done (omega arith))
one_first Chan c done = refl

free_first : (net : NetValue) (done : ℕ → ℕ) (c : ℕ) (ws : List Wires) → ((i : ℕ) → slice_get net.channels (c + i) ≡ slice_get ws i) →
    free_from (offer_at (script_by net [])) done c ws ≡ count_by (λ (w : Wires). is_external w.channel.kind) ws
free_first net done c [] here = refl
free_first net done c (w ∷ ws) here =
    let start : c + 0 ≡ c = omega arith in
    let first : slice_get net.channels c ≡ Some w = ap (slice_get net.channels) (sym start) ∙ here 0 in
    let offer : offer_at (script_by net []) c ≡ offer_by w.channel.kind c [] = script_at net [] c ∙ ap (λ (o : Option Wires). offer_on o c []) first in
    ap (λ (o : OfferValue). weight (is_done (offered_count o) (done c)) + free_from (offer_at (script_by net [])) done (c + 1) ws) offer
    ∙ ap (λ (k : ℕ). k + free_from (offer_at (script_by net [])) done (c + 1) ws) (one_first w.channel.kind c (done c))
    ∙ ap (λ (k : ℕ). weight (is_external w.channel.kind) + k)
    (free_first net done (c + 1) ws (λ i. let same : c + 1 + i ≡ c + suc i = omega arith in ap (slice_get net.channels) same ∙ here (suc i)))
    ∙ sym (sum_by-cons (λ (x : Wires). weight (is_external x.channel.kind)) w ws)

pub free_begun : (s : StageValue) (steps : ℕ) → IsUnasked s steps → free_on s.net s.script (now_of s) ≡ external_channels s.net
free_begun s steps is =
    ap (λ (script : List OfferValue). free_on s.net script (now_of s)) is.script
    ∙ free_first s.net (completed (now_of s).histories) 0 s.net.channels (λ i. let same : 0 + i ≡ i = omega arith in ap (slice_get s.net.channels) same)

pub power_length : (net : NetValue) → length (power_of net false) ≡ length net.first
power_length net = by_reset (is_some net.reset)
  where
    by_reset : (b : Bool) → length (cond b (map (power_value net false) (range_with_len 0 (length net.first))) net.first) ≡ length net.first
    by_reset true = length-map-range_with_len (power_value net false) 0 (length net.first)
    by_reset false = refl

stands_first : (net : NetValue) (st : RunState) → StandsFor net st [] (script_by net [])
stands_first net st = record {
  count = length-map-range_with_len (λ c. offer_on (slice_get net.channels c) c []) 0 (length net.channels);
  each = λ c. like_itself (completed st.histories c) (offer_at (script_by net []) c);
}

-- where the device has been asked, unless reset is high
pub begun : {P : Type 0} (known : P → PeerValue) (s now : StageValue) (steps : ℕ) (asks on : Bool) (more : List Note) (was is : P) (last : Option Hazard) →
    IsNet s.net → IsUnasked s steps → on ≡ in_reset s.net.reset (high s.values) → asks ≡ not on → now ≡ record s { script = now.script } →
    IsAskedByIf asks known s.net (now_of s) 0 s.script now.script more was is → AreOffered now.script (now_of now) →
    (known is).spare + free_on s.net s.script (now_of s) ≡ (known was).spare + free_on now.net now.script (now_of now) →
    2 * steps + 1 + external_channels s.net ≤ (known was).spare → last ≡ first_hazard now.net (now_of now) →
    IsScript (net_channels now.net) now.script → IsDriven known s.net steps [] more was is now last
begun {P} known s now steps asks on more was is last net unasked on_is asks_is same asked offered room spare hazard kept = record {
  net_is = same_net;
  now = there;
  whole = ap (λ (t : StageValue). length t.values) same ∙ ap (λ (vs : List Bool). length vs) unasked.values ∙ power_length s.net;
  passed = ap (λ (t : StageValue). t.passed) same ∙ unasked.passed;
  room = omega (arith, unasked.room, ap (λ (t : StageValue). t.room) same);
  spare = let free : free_on now.net now.script (now_of now) ≡ free_on s.net now.script (now_of now) =
      ap (λ (w : NetValue). free_on w now.script (now_of now)) same_net in
      omega (arith, room, free_begun s steps unasked, spare, free);
  picked = tt;
  hazard = hazard ∙ ap (λ (w : NetValue). first_hazard w (now_of now)) same_net ∙ ap (first_hazard s.net) there;
  no_end = λ k less. absurd (omega arith);
  run = tt;
  noted = at_first more is (subst (λ (r : RunState). IsAskedIf (low_reset s.net r) known s.net r 0 [] more was is) there first.asked);
  until = until_at 0 [] more tt first.of.when;
  stands = first.stands;
  fits = fits;
  suits = more_fit s.net (now_of now) [] more now.script (none_fit s.net) fits first.stands
      (subst (λ (r : RunState). AreOffered (script_by s.net []) r) (sym still)
      (subst (λ (script : List OfferValue). AreOffered script (now_of s)) unasked.script (offered_first s steps unasked)));
  quiet = λ low. by_asks (low_reset s.net (now_of now)) (not_from_false _ low) first.asked;
  offered = offered;
  rails = λ none. rails_first s.net now.script (now_of now) net (ap (λ (t : StageValue). t.values) same ∙ unasked.values);
  logged = first.of.logged;
}
  where
    same_net : now.net ≡ s.net
    same_net = ap (λ (t : StageValue). t.net) same

    still : now_of now ≡ now_of s
    still = ap now_of same

    fits : IsScript (net_channels s.net) now.script
    fits = subst (λ (w : NetValue). IsScript (net_channels w) now.script) same_net kept

    there : now_of now ≡ bench_start s.net
    there = still ∙ start_is s steps unasked

    low : asks ≡ low_reset s.net (now_of now)
    low = asks_is ∙ ap not on_is ∙ ap (λ (r : RunState). low_reset s.net r) (sym still)

    first : AskedOnIf (low_reset s.net (now_of now)) known s.net (now_of now) 0 [] more now.script was is
    first =
        asked_on_if (low_reset s.net (now_of now)) known s.net (now_of now) 0 [] (script_by s.net []) now.script more was is
        (stands_first s.net (now_of now))
        (subst (λ (script : List OfferValue). IsAskedByIf (low_reset s.net (now_of now)) known s.net (now_of now) 0 script now.script more was is)
        unasked.script
        (subst (λ (r : RunState). IsAskedByIf (low_reset s.net (now_of now)) known s.net r 0 s.script now.script more was is) (sym still)
        (subst (λ (b : Bool). IsAskedByIf b known s.net (now_of s) 0 s.script now.script more was is) low asked)))

    by_asks : (b : Bool) → b ≡ true → IsAskedIf b known s.net (now_of now) 0 [] more was is → NothingComes s.net more (now_of now) (known is)
    by_asks true e asked = asked_quiet known s.net (now_of now) 0 [] more was is asked
    by_asks false e asked = absurd (cc e)

pub begins : {P Q K : Type 0} (known : P → PeerValue) (seen : Q → PickerValue K) (v : SetupValue) (s now : StageValue) (steps : ℕ) (on : Bool)
    (more : List Note) (was is : P) (chooser : Q) (last : Option Hazard) (log : List ℕ) → IsNet s.net → record { net = s.net; steps = steps } ≡ v →
    IsUnasked s steps →
    on ≡ in_reset s.net.reset (high s.values) → now ≡ record s { script = now.script } →
    IsAskedByIf (not on) known s.net (now_of s) 0 s.script now.script more was is → AreOffered now.script (now_of now) →
    (known is).spare + free_on s.net s.script (now_of s) ≡ (known was).spare + free_on now.net now.script (now_of now) →
    2 * v.steps + 1 + external_channels v.net ≤ (known was).spare → last ≡ first_hazard now.net (now_of now) →
    IsScript (net_channels now.net) now.script → HasDriven known seen v.net v.steps log log 0 was is chooser chooser now last
begins known seen v s now steps on more was is chooser last log net view unasked on_is same asked offered room spare hazard kept =
    subst (λ (x : SetupValue). 2 * x.steps + 1 + external_channels x.net ≤ (known was).spare →
    HasDriven known seen x.net x.steps log log 0 was is chooser chooser now last) view
    (λ enough. has_begun known seen s.net steps log more was is chooser now last
    (begun known s now steps (not on) on more was is last net unasked on_is refl same asked offered room enough hazard kept)) spare
