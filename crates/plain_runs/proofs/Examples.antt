-- Runs of small nets, computed: at each move the least node that has one is moved.
use Rattle.std.proofs.Common.{◌≡◌, ℕ, zero, suc, true, false, List, [], ◌∷◌, length, refl}
use Rattle.std.specs.Prelude.{Some, None, replicate}
use Rattle.std.specs.Option.{option_map_or}
use Rattle.chp_base.specs.declared.channel.Kind.TheVariants.{In, Out}
use Rattle.prs_core.specs.declared.wires.Wires.{Wires}
use Rattle.prs_core.specs.declared.rule.Literal.{Literal}
use Rattle.prs_core.specs.Nets.{GuardValue, NetValue, is_high, is_low}
use Rattle.prs_core.specs.Moves.{high}
use Rattle.env_script.specs.declared.script.Count.TheVariants.{All, Times}
use Rattle.env_script.specs.declared.hazard.Hazard.TheVariants.{BothWays, Unstable, Protocol}
use Rattle.env_script.specs.Scripts.{OfferValue, gives, takes}
use Rattle.env_script.specs.Runs.{RunState, move_enabled, moved, after, begin_at, run_start, moves_since_reset}
use Rattle.env_script.specs.Hazards.{least_below, hazard_of}

-- the moves of at most so many, each at the least node
abbrev lowest : ℕ → NetValue → List OfferValue → RunState → List ℕ
lowest zero net script st = []
lowest (suc most) net script st = option_map_or (λ n. n ∷ lowest most net script (moved net st n)) (least_below (length net.first) (move_enabled net script st))
    []

abbrev net_with : ℕ → List GuardValue → List GuardValue → List Wires → NetValue
net_with count up down channels = record { names = []; first = replicate count false; up = up; down = down; channels = channels; reset = None }

abbrev one : Literal → GuardValue
one l = (l ∷ []) ∷ []

abbrev two : Literal → Literal → GuardValue
two l k = (l ∷ k ∷ []) ∷ []

abbrev three : Literal → Literal → Literal → GuardValue
three l k m = (l ∷ k ∷ m ∷ []) ∷ []

abbrev either : Literal → Literal → GuardValue
either l k = (l ∷ []) ∷ (k ∷ []) ∷ []

-- of `begin skip end`
abbrev skips : NetValue
skips = net_with 5
    ([] ∷ two (is_high 3) (is_low 4) ∷ two (is_high 0) (is_low 3) ∷ one (is_high 4) ∷ one (is_high 2) ∷ [])
    ([] ∷ one (is_low 3) ∷ one (is_high 3) ∷ one (is_low 0) ∷ one (is_low 2) ∷ [])
    []

skips_run : lowest 20 skips [] (run_start skips) ≡ 0 ∷ 2 ∷ 4 ∷ 3 ∷ 2 ∷ 4 ∷ 1 ∷ []
skips_run = refl

skips_done : high (after skips (run_start skips) (0 ∷ 2 ∷ 4 ∷ 3 ∷ 2 ∷ 4 ∷ 1 ∷ [])).values 1 ≡ true
skips_done = refl

-- of `out X : 1; begin X!1 end`
abbrev wires : Wires
wires = record { channel = record { name = []; kind = Out; width = 1 }; rails = 2 ∷ 3 ∷ []; ack = 4 }

abbrev sends : NetValue
sends = net_with 10
    ([] ∷ two (is_high 6) (is_low 7) ∷ one (is_high 8) ∷ one (is_high 9) ∷ [] ∷ two (is_high 0) (is_low 6) ∷ one (is_high 7) ∷ two (is_high 5) (is_high 4)
    ∷ one (is_high 5) ∷ [] ∷ [])
    ([] ∷ one (is_low 6) ∷ one (is_low 8) ∷ one (is_low 9) ∷ [] ∷ one (is_high 6) ∷ one (is_low 0) ∷ one (is_low 4) ∷ one (is_low 5) ∷ [] ∷ [])
    (wires ∷ [])

sends_run : lowest 30 sends (takes All ∷ []) (run_start sends) ≡ 0 ∷ 5 ∷ 8 ∷ 2 ∷ 4 ∷ 7 ∷ 6 ∷ 5 ∷ 8 ∷ 2 ∷ 4 ∷ 7 ∷ 1 ∷ []
sends_run = refl

sends_passed : (after sends (run_start sends) (0 ∷ 5 ∷ 8 ∷ 2 ∷ 4 ∷ [])).histories ≡ (1 ∷ []) ∷ []
sends_passed = refl

sends_not_before : (after sends (run_start sends) (0 ∷ 5 ∷ 8 ∷ 2 ∷ [])).histories ≡ [] ∷ []
sends_not_before = refl

sends_refused : lowest 30 sends (takes (Times 0) ∷ []) (run_start sends) ≡ 0 ∷ 5 ∷ 8 ∷ 2 ∷ []
sends_refused = refl

sends_safe : hazard_of sends (takes All ∷ []) (after sends (run_start sends) (0 ∷ 5 ∷ 8 ∷ 2 ∷ [])) 4 ≡ None
sends_safe = refl

-- go -> a+, go & ~a -> b+
abbrev races : NetValue
races = net_with 4 ([] ∷ [] ∷ one (is_high 0) ∷ two (is_high 0) (is_low 2) ∷ []) ([] ∷ [] ∷ [] ∷ [] ∷ []) []

races_hazard : hazard_of races [] (after races (run_start races) (0 ∷ [])) 2 ≡ Some (Unstable 3)
races_hazard = refl

-- go -> c+, go -> c-
abbrev torn : NetValue
torn = net_with 3 ([] ∷ [] ∷ one (is_high 0) ∷ []) ([] ∷ [] ∷ one (is_high 0) ∷ []) []

torn_hazard : hazard_of torn [] (run_start torn) 0 ≡ Some (BothWays 2)
torn_hazard = refl

-- both rails of a bit rise
abbrev doubled : NetValue
doubled = net_with 5 ([] ∷ [] ∷ one (is_high 0) ∷ one (is_high 0) ∷ [] ∷ []) ([] ∷ [] ∷ [] ∷ [] ∷ [] ∷ []) (wires ∷ [])

doubled_run : lowest 3 doubled (takes (Times 0) ∷ []) (run_start doubled) ≡ 0 ∷ 2 ∷ 3 ∷ []
doubled_run = refl

doubled_hazard : hazard_of doubled (takes (Times 0) ∷ []) (after doubled (run_start doubled) (0 ∷ 2 ∷ [])) 3 ≡ Some (Protocol 0)
doubled_hazard = refl

doubled_history : (after doubled (run_start doubled) (0 ∷ 2 ∷ 3 ∷ [])).histories ≡ [] ∷ []
doubled_history = refl

-- an `in` channel of two bits brings 2 and then nothing
abbrev brings : NetValue
brings = net_with 7 ([] ∷ [] ∷ [] ∷ [] ∷ [] ∷ [] ∷ [] ∷ []) ([] ∷ [] ∷ [] ∷ [] ∷ [] ∷ [] ∷ [] ∷ [])
    (record { channel = record { name = []; kind = In; width = 2 }; rails = 2 ∷ 3 ∷ 4 ∷ 5 ∷ []; ack = 6 } ∷ [])

brings_run : lowest 9 brings (gives (2 ∷ []) ∷ []) (run_start brings) ≡ 0 ∷ 3 ∷ 4 ∷ []
brings_run = refl

brings_falls : lowest 9 brings (gives (2 ∷ []) ∷ []) (after brings (run_start brings) (0 ∷ 3 ∷ 4 ∷ 6 ∷ [])) ≡ 3 ∷ 4 ∷ []
brings_falls = refl

brings_history : (after brings (run_start brings) (0 ∷ 3 ∷ 4 ∷ 6 ∷ [])).histories ≡ (2 ∷ []) ∷ []
brings_history = refl

brings_no_more : lowest 9 brings (gives (2 ∷ []) ∷ []) (after brings (run_start brings) (0 ∷ 3 ∷ 4 ∷ 6 ∷ 3 ∷ 4 ∷ 6 ∷ [])) ≡ []
brings_no_more = refl

-- the first net with a reset, node 5
abbrev resets : NetValue
resets = record {
  names = [];
  first = false ∷ false ∷ false ∷ false ∷ false ∷ true ∷ [];
  up = [] ∷ three (is_high 3) (is_low 4) (is_low 5) ∷ three (is_high 0) (is_low 3) (is_low 5) ∷ two (is_high 4) (is_low 5) ∷ two (is_high 2) (is_low 5) ∷ []
      ∷ [];
  down = [] ∷ either (is_low 3) (is_high 5) ∷ either (is_high 3) (is_high 5) ∷ either (is_low 0) (is_high 5) ∷ either (is_low 2) (is_high 5) ∷ [] ∷ [];
  channels = [];
  reset = Some 5;
}

resets_from_high : lowest 30 resets [] (begin_at resets (false ∷ true ∷ true ∷ true ∷ true ∷ true ∷ [])) ≡ 1 ∷ 2 ∷ 3 ∷ 4 ∷ 5 ∷ 0 ∷ 2 ∷ 4 ∷ 3 ∷ 2 ∷ 4 ∷ 1 ∷ []
resets_from_high = refl

resets_from_low : lowest 30 resets [] (run_start resets) ≡ 5 ∷ 0 ∷ 2 ∷ 4 ∷ 3 ∷ 2 ∷ 4 ∷ 1 ∷ []
resets_from_low = refl

resets_counts : moves_since_reset resets.reset (1 ∷ 2 ∷ 3 ∷ 4 ∷ 5 ∷ 0 ∷ 2 ∷ []) ≡ 2
resets_counts = refl
