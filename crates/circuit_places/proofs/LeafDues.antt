-- What is due of gates, of a site and of a receive falls with each own move.
--
-- P: the program; env: what the environment shows; m, k: modes of a statement's handshake; r: its request;
-- u, x, q: values of gates, cells and rails; s: a spot; f: that the cells fit the environment; z, e: that the spot's rule fires.
use Rattle.std.proofs.Common.{◌≡◌, ℕ, suc, ◌+◌, ◌<◌, ◌≤◌, ◌==◌, Bool, true, false, refl, ap, ◌∙◌, subst, arith}
use Rattle.std.specs.Prelude.{not, ◌&&◌, if◌then◌else◌, is_some}
use Rattle.std.proofs.Math.Path.{fun_ext}
use Rattle.width_check.specs.Processes.{Formula, Choices, no_choices, and_choice, TypedProgram}
use Rattle.width_check.specs.Typing.{channel_width}
use Rattle.function_blocks.specs.Rails.{value_on, neutral_on, Pairs, pair_in, side_of, turned_pairs}
use Rattle.function_blocks.specs.Waves.{good, Waves}
use Rattle.circuit_places.specs.Lines.{Line, of_channel, of_var, Rails, Seen}
use Rattle.circuit_places.specs.Circuit.{GuardCells, gate_count, gate_rule, guards_rule, guards_good, turned_guards, one_rule_fires, SiteSpot, done, gate, turned_site, PortSpot, heard, stored, taking, rails_turned, turned_port, GuardSpot, this_gate, other_gate}
use Rattle.circuit_places.proofs.RailLemmas.{fst_true, snd_true, gate_there}
use Rattle.circuit_places.proofs.CoreControl.{Mode, idle, running, answered, returning, asks, acks}
use Rattle.circuit_places.proofs.Places.{SiteMay, site_of, port_of, port_may, site_moves, port_moves, SiteFits, PortFits}
use Rattle.circuit_places.proofs.Meets.{PortMeets, GuardsMeet}
use Rattle.circuit_places.proofs.Flow.{Clean, cases, not_both}
use Rattle.circuit_places.proofs.Begin.{site_answered_moves, port_answered_moves}
use Rattle.circuit_places.proofs.PortLeaf.{turned_there, turned_else, runs_va}
use Rattle.circuit_places.proofs.LineNames.{self_number, same_number}
use Rattle.circuit_places.proofs.Dues.{mark, lack, weigh, pairs_sum, bits_sum, pairs_turned, bits_turned, weigh_falls, guards_sum, rails_sum}

-- a rule that goes with the request
with_request : (r v o : Bool) → (if v then not r else (r && not o)) ≡ true → v ≡ not r
with_request true true o h = absurd (cc h)
with_request true false o h = refl
with_request false true o h = refl
with_request false false o h = absurd (cc h)

pub mark_falls : (b : Bool) → b ≡ true → suc (mark (not b)) ≡ mark b
mark_falls true e = refl
mark_falls false e = absurd (cc e)

pub lack_falls : (b : Bool) → b ≡ false → suc (lack (not b)) ≡ lack b
lack_falls true e = absurd (cc e)
lack_falls false e = refl

-- gates
gates_fall : (P : TypedProgram) (env : Seen) → Clean P env → (r : Bool) (e : Formula) → Waves e → (u : Pairs (gate_count e)) (i : ℕ) (one : Bool)
    → good r env.bit e u ≡ true → one_rule_fires (gate_rule e env.bit r u i one) ≡ true
    → (f : Bool → ℕ) → ((b : Bool) → b ≡ not r → suc (f (not b)) ≡ f b)
    → suc (pairs_sum f (gate_count e) (turned_pairs (gate_count e) u i one)) ≡ pairs_sum f (gate_count e) u
gates_fall P env clean r e known u i one g z f h =
    pairs_turned f (gate_count e) u i one (gate_there e env.bit r u i one z)
    (h (side_of (pair_in (gate_count e) u i) one)
    (with_request r (side_of (pair_in (gate_count e) u i) one) (side_of (pair_in (gate_count e) u i) (not one)) (known.law r env.bit u i one clean.single g z)))

pub guards_fall : (P : TypedProgram) (env : Seen) → Clean P env → (r : Bool) (choices : Choices) → GuardsMeet P choices → (x : GuardCells choices)
    (q : GuardSpot choices) → guards_good choices env.bit r x ≡ true → one_rule_fires (guards_rule choices env.bit r x q) ≡ true
    → (f : Bool → ℕ) → ((b : Bool) → b ≡ not r → suc (f (not b)) ≡ f b)
    → suc (guards_sum f choices (turned_guards choices x q)) ≡ guards_sum f choices x
guards_fall P env clean r (and_choice g p more) laws x (this_gate i one) fit z f h =
    let e = gates_fall P env clean r g (laws.0).known x.0 i one (fst_true (good r env.bit g x.0) (guards_good more env.bit r x.1) fit) z f h in
    omega (arith, e)
guards_fall P env clean r (and_choice g p more) laws x (other_gate q) fit z f h =
    let e = guards_fall P env clean r more laws.1 x.1 q (snd_true (good r env.bit g x.0) (guards_good more env.bit r x.1) fit) z f h in
    omega (arith, e)
guards_fall P env clean r no_choices laws x q fit z f h = elim q [ ]

-- a site
pub site_falls : (P : TypedProgram) (k : Line) (e : Formula) (env : Seen) → Clean P env → (m : Mode) (u : Pairs (gate_count e)) → SiteMay e m u
    → (s : SiteSpot e) → SiteFits k e m u env → site_moves env k e m u s ≡ true
    → suc (weigh (asks m) (turned_site e (site_of e (acks m) u) s).answer
    + pairs_sum (weigh (asks m)) (gate_count e) (turned_site e (site_of e (acks m) u) s).gates)
    ≤ weigh (asks m) (acks m) + pairs_sum (weigh (asks m)) (gate_count e) u
site_falls P k e env clean running u h done f z = omega arith
site_falls P k e env clean running u h (gate i one) f z =
    let g = gates_fall P env clean true e h.known u i one f.1 z (weigh true) (weigh_falls true) in omega (arith, g)
site_falls P k e env clean returning u h done f z = omega arith
site_falls P k e env clean returning u h (gate i one) f z =
    let g = gates_fall P env clean false e h.known u i one f.1 z (weigh false) (weigh_falls false) in omega (arith, g)
site_falls P k e env clean answered u h s f z = absurd (not_both (site_answered_moves P env clean k e u h f s) z)
site_falls P k e env clean idle u h s f z = absurd (cc h.may)

-- a receive
pub rails_fall : (f : Bool → ℕ) (w : ℕ) (q : Rails) (i : ℕ) (one : Bool) → i < w → suc (f (not (q i one))) ≡ f (q i one)
    → suc (rails_sum f w (rails_turned q i one)) ≡ rails_sum f w q
rails_fall f w q i true less h =
    let e : suc (bits_sum f w (λ j. rails_turned q i true j true)) ≡ bits_sum f w (λ j. q j true) =
    bits_turned f w (λ j. q j true) (λ j. rails_turned q i true j true) i less
    (ap (λ b. suc (f b)) (turned_there q i true i true (ap (λ b. b && true) (self_number i))) ∙ h)
    (λ j ne. turned_else q i true j true (cases (j == i) (λ (z : (j == i) ≡ true). absurd (ne (same_number j i z)))
    (λ (z : (j == i) ≡ false). ap (λ b. b && true) z))) in
    let d : bits_sum f w (λ j. rails_turned q i true j false) ≡ bits_sum f w (λ j. q j false) =
    ap (bits_sum f w) (fun_ext (λ j. turned_else q i true j false (never (j == i)))) in
    omega (arith, e, d)
  where
    never : (b : Bool) → (b && false) ≡ false
    never true = refl
    never false = refl
rails_fall f w q i false less h =
    let e : suc (bits_sum f w (λ j. rails_turned q i false j false)) ≡ bits_sum f w (λ j. q j false) =
    bits_turned f w (λ j. q j false) (λ j. rails_turned q i false j false) i less
    (ap (λ b. suc (f b)) (turned_there q i false i false (ap (λ b. b && true) (self_number i))) ∙ h)
    (λ j ne. turned_else q i false j false (cases (j == i) (λ (z : (j == i) ≡ true). absurd (ne (same_number j i z)))
    (λ (z : (j == i) ≡ false). ap (λ b. b && true) z))) in
    let d : bits_sum f w (λ j. rails_turned q i false j true) ≡ bits_sum f w (λ j. q j true) =
    ap (bits_sum f w) (fun_ext (λ j. turned_else q i false j true (never (j == i)))) in
    omega (arith, e, d)
  where
    never : (b : Bool) → (b && false) ≡ false
    never true = refl
    never false = refl

abbrev port_due : (w : ℕ) → (r a k : Bool) → Rails → ℕ
port_due w r a k q = weigh r a + (weigh r k + rails_sum (weigh r) w q)

pub port_falls : (P : TypedProgram) (c x : ℕ) (env : Seen) → Clean P env → PortMeets P c x → (m : Mode) (k : Bool) (q : Rails) → port_may m k ≡ true
    → (s : PortSpot)
    → PortFits c x m k q env → port_moves env c x m k q s ≡ true
    → suc (port_due (channel_width P.channels c) (asks m) (turned_port (port_of (acks m) k q) s).answer (turned_port (port_of (acks m) k q) s).kept
    (turned_port (port_of (acks m) k q) s).taken) ≤ port_due (channel_width P.channels c) (asks m) (acks m) k q
port_falls P c x env clean meets idle k q h s f z = absurd (cc h)
port_falls P c x env clean meets answered k q h s f z = absurd (not_both (port_answered_moves env c x k q f s) z)
port_falls P c x env clean meets running k q h heard f z = omega arith
port_falls P c x env clean meets running true q h stored f z =
    absurd (not_both (ap not (runs_va true (env.ack (of_channel c)) (env.ack (of_var x)) (is_some (value_on (env.width (of_var x)) q))
    (neutral_on (env.width (of_var x)) q) f.ends refl)) z)
port_falls P c x env clean meets running false q h stored f z = omega arith
port_falls P c x env clean meets running k q h (taking i one) f z = by (q i one) refl z
  where
    by : (b : Bool) → q i one ≡ b → (if b then not true && not (env.rail (of_channel c) i one) else true && env.rail (of_channel c) i one) ≡ true
        → suc (port_due (channel_width P.channels c) true false k (rails_turned q i one)) ≤ port_due (channel_width P.channels c) true false k q
    by true e y = absurd (cc y)
    by false e y =
        let d = rails_fall (weigh true) (channel_width P.channels c) q i one (clean.below c i one y) (weigh_falls true (q i one) e) in omega (arith, d)
port_falls P c x env clean meets returning k q h heard f z = omega arith
port_falls P c x env clean meets returning true q h stored f z = omega arith
port_falls P c x env clean meets returning false q h stored f z = absurd (cc z)
port_falls P c x env clean meets returning k q h (taking i one) f z = by (q i one) refl z
  where
    by : (b : Bool) → q i one ≡ b → (if b then not false && not (env.rail (of_channel c) i one) else false && env.rail (of_channel c) i one) ≡ true
        → suc (port_due (channel_width P.channels c) false true k (rails_turned q i one)) ≤ port_due (channel_width P.channels c) false true k q
    by false e y = absurd (cc y)
    by true e y =
        let less : i < channel_width P.channels c = subst (λ (n : ℕ). i < n) (clean.wide (of_var x) ∙ meets.widths) (f.within i one e) in
        let d = rails_fall (weigh false) (channel_width P.channels c) q i one less (weigh_falls false (q i one) e) in omega (arith, d)
