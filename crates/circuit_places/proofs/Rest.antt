-- What waits for far nodes: a site whose rails are full, a receive for its value, a selection of which no branch alone is open; and a receive
-- that has let go. What one of several branches waits for, all of them do.
use Rattle.std.proofs.Common.{◌≡◌, ◌≢◌, ℕ, ◌<◌, ◌≤◌, ◌==◌, Bool, true, false, [], ◌∷◌, refl, sym, ap, ◌∙◌, subst}
use Rattle.std.specs.Prelude.{not, ◌&&◌, ◌||◌, if◌then◌else◌, is_some}
use Rattle.width_check.specs.Processes.{Formula, Process, Processes, TypedProgram, Choices}
use Rattle.chp_meaning.specs.Terms.{Term, is_finished, finished, active, in_sequence, in_parallel, followed}
use Rattle.circuit_places.specs.Lines.{Line, of_channel, of_var, same_line, line_width, Rails, Seen}
use Rattle.circuit_places.specs.Circuit.{Pairs, gate_count, SiteSpot, PortSpot, heard, stored, taking, done, gate}
use Rattle.width_check.specs.Typing.{var_width}
use Rattle.function_blocks.specs.Waves.{out_rail}
use Rattle.circuit_places.specs.Whole.{is_merged, value_on}
use Rattle.circuit_places.proofs.RailLemmas.{snd_true, both_true, value_same}
use Rattle.circuit_places.proofs.Places.{Mode, idle, running, answered, returning, asks, acks, SiteMay, GuardedAt, Shown, both_shown, site_shown, site_moves, SiteFits, port_shown, port_moves}
use Rattle.circuit_places.proofs.Meets.{HasLine, SiteMeets, PortMeets}
use Rattle.circuit_places.proofs.Left.{again, guarded_left, guarded_left_past, open_by}
use Rattle.circuit_places.proofs.Flow.{low_of, or_left, or_right}
use Rattle.circuit_places.proofs.LineNames.{self_number, self_line}
use Rattle.circuit_places.proofs.Talks.{Beside, or_false_left, or_false_right}
use Rattle.function_blocks.specs.Rails.{number_on}

-- A site of the line holds a number's rails, and the acknowledge is low.
pub record Full (P : TypedProgram) (k : Line) (env : Seen) (x : Shown) : Type 0 where
  pub within : HasLine P k
  pub merged : is_merged P k ≡ true
  pub some : 1 ≤ line_width P k
  pub low : env.ack k ≡ false
  pub talks : x.talk k ≡ true
  pub whole : is_some (value_on (line_width P k) (x.offer k)) ≡ true

-- A receive that waits for a value has all the rails that are there, and has stored where the variable is written.
pub record Listening (P : TypedProgram) (c v : ℕ) (env : Seen) (x : Shown) : Type 0 where
  pub meets : PortMeets P c v
  pub low : env.ack (of_channel c) ≡ false
  pub talks : x.talk (of_var v) ≡ true
  pub hears : x.listen c ≡ true
  pub all : (i : ℕ) (one : Bool) → env.rail (of_channel c) i one ≡ true → x.offer (of_var v) i one ≡ true
  pub has : env.ack (of_var v) ≡ true → x.take c ≡ true

-- One that has let go holds no rail that is low, and has its value until the variable isn't written.
pub record Releasing (P : TypedProgram) (c v : ℕ) (env : Seen) (x : Shown) : Type 0 where
  pub meets : PortMeets P c v
  pub high : env.ack (of_channel c) ≡ true
  pub talks : x.talk (of_var v) ≡ true
  pub hears : x.listen c ≡ true
  pub all : (i : ℕ) (one : Bool) → x.offer (of_var v) i one ≡ true → env.rail (of_channel c) i one ≡ true
  pub has : x.take c ≡ true → env.ack (of_var v) ≡ true

-- the store has the numbers on the rails of what is read
abbrev pub AgreesOn : Seen → (read : ℕ → Bool) → (store : ℕ → ℕ) → Type 0
AgreesOn env read store = (x : ℕ) → read x ≡ true → number_on (env.width (of_var x)) (env.bit x) ≡ store x

-- A selection of which no branch alone is open, and which doesn't end.
pub record Undecided (again : Bool) (choices : Choices) (env : Seen) (read : ℕ → Bool) : Type 0 where
  pub one : (store : ℕ → ℕ) → AgreesOn env read store → (p : Process) → open_by store choices ≢ p ∷ []
  pub some : again ≡ true → (store : ℕ → ℕ) → AgreesOn env read store → open_by store choices ≢ []

pub undecided_wider : (again : Bool) (choices : Choices) (env : Seen) (read more : ℕ → Bool) → ((x : ℕ) → read x ≡ true → more x ≡ true)
    → Undecided again choices env read → Undecided again choices env more
undecided_wider again choices env read more within b = record {
  one = λ store agree. b.one store (λ x h. agree x (within x h));
  some = λ e store agree. b.some e store (λ x h. agree x (within x h));
}

-- each bit of each variable has a rail high
abbrev pub Valid : TypedProgram → Seen → Type 0
Valid P env = (v i : ℕ) → i < var_width P.vars v → (env.bit v i true || env.bit v i false) ≡ true

pub then_going : (more : Processes) (t : Term) → t ≢ finished → followed t more ≢ finished
then_going more finished ne = absurd (ne refl)
then_going more (active p) ne = λ e. cc e
then_going more (in_sequence t rest) ne = λ e. cc e
then_going more (in_parallel ts) ne = λ e. cc e

pub flip : (b : Bool) → not b ≡ false → b ≡ true
flip true e = refl
flip false e = absurd (cc e)

-- a site that runs
module _ (P : TypedProgram) (env : Seen) (valid : Valid P env) (k : Line) (e : Formula) (u : Pairs (gate_count e)) where
  pub site_full : SiteMay e running u → SiteMeets P k e → SiteFits k e running u env → ((s : SiteSpot e) → site_moves env k e running u s ≡ false)
      → Full P k env (site_shown k e u)
  site_full h meets f n =
      let whole = h.known.rest_up P.vars env.bit u meets.reads (λ v i r less. valid v i less) f.1 (λ i one. n (gate i one)) in
      record {
        within = meets.within;
        merged = meets.merged;
        some = subst (λ (w : ℕ). 1 ≤ w) meets.agrees meets.some;
        low = n done;
        talks = self_line k;
        whole = ap is_some (value_same (line_width P k) (λ i one. same_line k k && out_rail e u i one) (out_rail e u)
            (λ i one. ap (λ b. b && out_rail e u i one) (self_line k))) ∙ (ap (λ w. is_some (value_on w (out_rail e u))) (sym meets.agrees) ∙ whole);
      }

-- a receive that runs or returns
module _ (P : TypedProgram) (env : Seen) (c x : ℕ) (l : Bool) (q : Rails) (meets : PortMeets P c x) where
  pub port_waits : ((s : PortSpot) → port_moves env c x running l q s ≡ false) → Listening P c x env (port_shown c x l q)
  port_waits n = record {
    meets = meets;
    low = n heard;
    talks = self_line (of_var x);
    hears = self_number c;
    all = λ i one h. both_true (same_line (of_var x) (of_var x)) (q i one) (self_number x) (by (q i one) (n (taking i one)) h);
    has = λ v. both_true (c == c) l (self_number c) (kept l (n stored) v);
  }
    where
      by : {r : Bool} (b : Bool) → (if b then not true && not r else true && r) ≡ false → r ≡ true → b ≡ true
      by true z h = refl
      by false z h = absurd (cc (z, h))

      kept : {v : Bool} (b : Bool) → (if b then not v else true && v) ≡ false → v ≡ true → b ≡ true
      kept true z h = refl
      kept false z h = absurd (cc (z, h))

  pub port_holds : ((s : PortSpot) → port_moves env c x returning l q s ≡ false) → Releasing P c x env (port_shown c x l q)
  port_holds n = record {
    meets = meets;
    high = flip (env.ack (of_channel c)) (n heard);
    talks = self_line (of_var x);
    hears = self_number c;
    all = λ i one h. by (q i one) (n (taking i one)) (snd_true (same_line (of_var x) (of_var x)) (q i one) h);
    has = λ k. kept l (n stored) (snd_true (c == c) l k);
  }
    where
      by : {r : Bool} (b : Bool) → (if b then not false && not r else false && r) ≡ false → b ≡ true → r ≡ true
      by {r = r} true z h = flip r z
      by false z h = absurd (cc h)

      kept : {v : Bool} (b : Bool) → (if b then not v else false && v) ≡ false → b ≡ true → v ≡ true
      kept {v = v} true z h = flip v z
      kept false z h = absurd (cc h)

-- What one of several branches shows, all show, and no more of its line.
module _ {p : Process} {more : Processes} (P : TypedProgram) (env : Seen) (x y : Shown) (s : Beside p more x y) where
  pub this_full : (k : Line) → Full P k env x → Full P k env (both_shown x y)
  this_full k b = record {
    within = b.within;
    merged = b.merged;
    some = b.some;
    low = b.low;
    talks = or_left (x.talk k) (y.talk k) b.talks;
    whole = ap is_some (value_same (line_width P k) (λ i one. x.offer k i one || y.offer k i one) (x.offer k)
        (λ i one. or_false_right (x.offer k i one) (y.offer k i one) (s.none_theirs k i one (s.mine k b.talks)))) ∙ b.whole;
  }

  pub others_full : (k : Line) → Full P k env y → Full P k env (both_shown x y)
  others_full k b = record {
    within = b.within;
    merged = b.merged;
    some = b.some;
    low = b.low;
    talks = or_right (x.talk k) (y.talk k) b.talks;
    whole = ap is_some (value_same (line_width P k) (λ i one. x.offer k i one || y.offer k i one) (y.offer k)
        (λ i one. or_false_left (x.offer k i one) (y.offer k i one) (s.none_mine k i one (s.theirs k b.talks)))) ∙ b.whole;
  }

  pub this_releasing : (c v : ℕ) → Releasing P c v env x → Releasing P c v env (both_shown x y)
  this_releasing c v r = record {
    meets = r.meets;
    high = r.high;
    talks = or_left (x.talk (of_var v)) (y.talk (of_var v)) r.talks;
    hears = or_left (x.listen c) (y.listen c) r.hears;
    all = λ i one h. r.all i one (sym (or_false_right (x.offer (of_var v) i one) (y.offer (of_var v) i one)
        (s.none_theirs (of_var v) i one (s.mine (of_var v) r.talks))) ∙ h);
    has = λ h. r.has (sym (or_false_right (x.take c) (y.take c) (low_of (y.take c) (s.taken_theirs c) (s.deaf_theirs c (s.hears_mine c r.hears)))) ∙ h);
  }

  pub others_releasing : (c v : ℕ) → Releasing P c v env y → Releasing P c v env (both_shown x y)
  others_releasing c v r = record {
    meets = r.meets;
    high = r.high;
    talks = or_right (x.talk (of_var v)) (y.talk (of_var v)) r.talks;
    hears = or_right (x.listen c) (y.listen c) r.hears;
    all = λ i one h. r.all i one (sym (or_false_left (x.offer (of_var v) i one) (y.offer (of_var v) i one)
        (s.none_mine (of_var v) i one (s.theirs (of_var v) r.talks))) ∙ h);
    has = λ h. r.has (sym (or_false_left (x.take c) (y.take c) (low_of (x.take c) (s.taken_mine c) (s.deaf_mine c (s.hears_theirs c r.hears)))) ∙ h);
  }

pub not_finished : (t : Term) → t ≢ finished → is_finished t ≡ false
not_finished finished ne = absurd (ne refl)
not_finished (active p) ne = refl
not_finished (in_sequence t more) ne = refl
not_finished (in_parallel ts) ne = refl

-- the end of a branch that rests under the request
pub guarded_over : {p : Process} {k : Mode} (ack : Line → Bool) (g : GuardedAt p k) → asks k ≡ true → acks k ≡ asks k → guarded_left ack g ≡ finished
guarded_over {k = answered} ack g a e = guarded_left_past ack g
guarded_over {k = running} ack g a e = absurd (cc e)
guarded_over {k = idle} ack g a e = absurd (cc a)
guarded_over {k = returning} ack g a e = absurd (cc a)
