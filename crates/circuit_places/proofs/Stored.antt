-- Where a variable is being written while its own acknowledge is high, a receive has stored into it, and holds a rail of each bit.
--
-- env: what the environment shows; c, x, y: a channel and variables; k, q: the answer and the rails of a receive; f, g: who holds a rail, or that
-- the cells fit; a, b, t: where a statement, branches, a sequence are.
use Rattle.std.proofs.Common.{◌≡◌, ℕ, ◌<◌, ◌==◌, Bool, true, false, refl, sym, ap, ◌∙◌, subst}
use Rattle.std.specs.Prelude.{◌&&◌, ◌||◌, is_some}
use Rattle.prs_core.specs.Deciding.{implies}
use Rattle.width_check.specs.Processes.{Process}
use Rattle.function_blocks.specs.Rails.{Rails, value_on, neutral_on}
use Rattle.circuit_places.specs.Lines.{Line, of_channel, of_var, Seen}
use Rattle.circuit_places.proofs.RailLemmas.{fst_true, snd_true, both_true, each_bit}
use Rattle.circuit_places.proofs.LineNames.{same_number, self_number}
use Rattle.circuit_places.proofs.Flow.{cases, or_left, or_right, not_both}
use Rattle.circuit_places.proofs.Everywhere.{View, IsSeen, guarded_seen}
use Rattle.circuit_places.proofs.Places.{Mode, idle, running, answered, returning, GuardedAt, GuardedFits, guarded_shown, port_shown, guarded_writing, under_way, port_ends}

under_low : (m : Mode) (b : Bool) → under_way m b ≡ true → (m ≡ running) × (b ≡ false)
under_low running true h = absurd (cc h)
under_low running false h = (refl, refl)
under_low idle b h = absurd (cc h)
under_low answered b h = absurd (cc h)
under_low returning b h = absurd (cc h)

runs_full : (k a v f n : Bool) → port_ends running k a v f n ≡ true → v ≡ true → f ≡ true
runs_full k a v f n h e = here v f (snd_true (implies k v) (implies v f) (snd_true (implies a k) (implies k v && implies v f) h)) e
  where
    here : (v f : Bool) → implies v f ≡ true → v ≡ true → f ≡ true
    here true f h e = h
    here false f h e = absurd (cc e)

abbrev Held : Seen → (x : ℕ) → (Line → ℕ → Bool → Bool) → Type 0
Held env x offer = (i : ℕ) → i < env.width (of_var x) → (side : Bool) × (offer (of_var x) i side ≡ true)

left_held : (env : Seen) {x : ℕ} (f g : Line → ℕ → Bool → Bool) → Held env x f → Held env x (λ k i one. f k i one || g k i one)
left_held env {x = x} f g h i less = let r = h i less in (r.0, or_left (f (of_var x) i r.0) (g (of_var x) i r.0) r.1)

right_held : (env : Seen) {x : ℕ} (f g : Line → ℕ → Bool → Bool) → Held env x g → Held env x (λ k i one. f k i one || g k i one)
right_held env {x = x} f g h i less = let r = h i less in (r.0, or_right (f (of_var x) i r.0) (g (of_var x) i r.0) r.1)

port_stored : (env : Seen) (c y : ℕ) (k : Bool) (q : Rails) → (env.ack (of_var y) ≡ true → is_some (value_on (env.width (of_var y)) q) ≡ true) → (x : ℕ) → y ≡ x
    → env.ack (of_var x) ≡ true → Held env x (port_shown c y k q).offer
port_stored env c y k q all x same high i less =
    let r = each_bit (env.width (of_var y)) q (all (ap (λ v. env.ack (of_var v)) same ∙ high)) i
    (subst (λ (v : ℕ). i < env.width (of_var v)) (sym same) less) in
    (r.0, both_true (y == x) (q i r.0) (ap (λ v. y == v) (sym same) ∙ self_number y) r.1)

abbrev IsStored : Seen → View → Type 0
IsStored env v = v.fits env → (x : ℕ) → env.ack (of_var x) ≡ true → v.writing env.ack x ≡ true → Held env x v.shown.offer

stored : (env : Seen) → IsSeen (IsStored env)
stored env = record {
  silent = λ F f x high e. absurd (cc e);
  guards = λ asked choices F f x high e. absurd (cc e);
  assign = λ y d m u h f x high e.
      absurd (not_both (ap (λ v. env.ack (of_var v)) (sym (same_number y x (fst_true (y == x) (under_way m (env.ack (of_var y))) e)))
      ∙ (under_low m (env.ack (of_var y)) (snd_true (y == x) (under_way m (env.ack (of_var y))) e)).1) high);
  send = λ c d m u h f x high e. absurd (cc e);
  receive = λ c y m k q h f x high e.
      let z = under_low m (env.ack (of_channel c)) (snd_true (y == x) _ e) in
      port_stored env c y k q (λ v. runs_full k (env.ack (of_channel c)) (env.ack (of_var y)) (is_some (value_on (env.width (of_var y)) q))
      (neutral_on (env.width (of_var y)) q)
      (subst (λ (n : Mode). port_ends n k (env.ack (of_channel c)) (env.ack (of_var y)) (is_some (value_on (env.width (of_var y)) q))
      (neutral_on (env.width (of_var y)) q) ≡ true) z.0 f.ends) v) x (same_number y x (fst_true (y == x) (under_way m (env.ack (of_channel c))) e)) high;
  both = λ v w g b f x high e. cases (v.writing env.ack x)
      (λ (z : v.writing env.ack x ≡ true). left_held env v.shown.offer w.shown.offer (g f.0 x high z))
      (λ (z : v.writing env.ack x ≡ false). right_held env v.shown.offer w.shown.offer (b f.1 x high (sym (ap (λ c. c || w.writing env.ack x) z) ∙ e)));
}

pub guarded_stored : {p : Process} {m : Mode} (env : Seen) (g : GuardedAt p m) → GuardedFits g env → (x : ℕ) → env.ack (of_var x) ≡ true
    → guarded_writing env.ack g x ≡ true → Held env x (guarded_shown g).offer
guarded_stored env g = guarded_seen (IsStored env) (stored env) g
