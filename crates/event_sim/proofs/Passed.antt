-- What passes on all channels together, channel by channel.
use Rattle.std.proofs.Common.{◌≡◌, ℕ, ◌<◌, Bool, true, false, List, [], ◌∷◌, length, get_or, refl, sym, ap, subst, ◌∙◌, arith}
use Rattle.std.specs.Prelude.{◌==◌, if◌then◌else◌, Option, Some, None, IfSome, option_map, option_and_then}
use Rattle.std.proofs.lemmas.Option.{slice_get_read}
use Rattle.std.proofs.lemmas.List.Quantifiers.{position-Some}
use Rattle.prs_core.specs.declared.wires.Wires.{Wires}
use Rattle.prs_core.specs.Nets.{NetValue}
use Rattle.env_script.specs.Environment.{in_reset}
use Rattle.env_script.specs.Runs.{completes}
use Rattle.event_sim.specs.Passing.{channel_acknowledged, completed_on, completion}

pub channel_within : (ws : List Wires) (n c : ℕ) → Some c ≡ channel_acknowledged ws n → c < length ws
channel_within [] n c found = absurd (cc found)
channel_within (w ∷ ws) n c found = (position-Some (λ (x : Wires). n == x.ack) (w ∷ ws) c w (sym found)).0

pub none_in_reset : (net : NetValue) (v : ℕ → Bool) (n : ℕ) → in_reset net.reset v ≡ true → completion net v n ≡ None
none_in_reset net v n on = rw on refl

-- a pair of a channel and its value, where there is one
abbrev pub paired : ℕ → Option ℕ → Option (ℕ × ℕ)
paired c o = option_map (λ value. (c, value)) o

abbrev found_at : (ℕ → Option ℕ) → Option ℕ → Option (ℕ × ℕ)
found_at on o = option_and_then (λ c. paired c (on c)) o

abbrev unless : Bool → Option (ℕ × ℕ) → Option (ℕ × ℕ)
unless b o = if b then None else o

pub none_unknown : (net : NetValue) (v : ℕ → Bool) (n : ℕ) → None ≡ channel_acknowledged net.channels n → completion net v n ≡ None
none_unknown net v n unknown = by_reset (in_reset net.reset v) (channel_acknowledged net.channels n) unknown
  where
    by_reset : (b : Bool) (o : Option ℕ) → None ≡ o → unless b (found_at (completed_on v net.channels n) o) ≡ None
    by_reset true o none = refl
    by_reset false o none = ap (found_at (completed_on v net.channels n)) (sym none)

pub completion_is : (net : NetValue) (v : ℕ → Bool) (n c : ℕ) (w : Wires) (o : Option ℕ) → in_reset net.reset v ≡ false →
    Some c ≡ channel_acknowledged net.channels n → w ≡ get_or net.channels c w → o ≡ completes v w n → paired c o ≡ completion net v n
completion_is net v n c w o off found here is =
    let within = channel_within net.channels n c found in
    let read = slice_get_read net.channels (length net.channels) c w refl within here in
    by_reset (in_reset net.reset v) (channel_acknowledged net.channels n) off found
    (ap (paired c) (is ∙ sym (ap (option_and_then (λ (x : Wires). completes v x n)) read)))
  where
    by_reset : (b : Bool) (f : Option ℕ) → b ≡ false → Some c ≡ f → paired c o ≡ paired c (completed_on v net.channels n c) →
        paired c o ≡ unless b (found_at (completed_on v net.channels n) f)
    by_reset true f off found one = absurd (cc off)
    by_reset false f off found one = one ∙ ap (found_at (completed_on v net.channels n)) found

-- the channel is one of the net's
pub completion_within : (net : NetValue) (v : ℕ → Bool) (n : ℕ) (o : Option (ℕ × ℕ)) (count : ℕ) → o ≡ completion net v n → count ≡ length net.channels →
    IfSome o (λ (p : ℕ × ℕ). p.0 < count)
completion_within net v n o count is whole =
    subst (λ (q : Option (ℕ × ℕ)). IfSome q (λ (p : ℕ × ℕ). p.0 < count)) (sym is)
    (by_reset (in_reset net.reset v) (channel_acknowledged net.channels n) (λ c found. let within = channel_within net.channels n c found in omega arith))
  where
    pair_within : (c : ℕ) (o : Option ℕ) → c < count → IfSome (paired c o) (λ (p : ℕ × ℕ). p.0 < count)
    pair_within c None less = tt
    pair_within c (Some value) less = less

    by_reset : (b : Bool) (f : Option ℕ) → ((c : ℕ) → Some c ≡ f → c < count) →
        IfSome (unless b (found_at (completed_on v net.channels n) f)) (λ (p : ℕ × ℕ). p.0 < count)
    by_reset true f within = tt
    by_reset false None within = tt
    by_reset false (Some c) within = pair_within c (completed_on v net.channels n c) (within c refl)
