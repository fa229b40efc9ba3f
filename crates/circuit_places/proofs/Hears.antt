-- What a rising acknowledge means to a receive on its channel: it is done, and its variable has the value.
use Rattle.std.proofs.Common.{◌≡◌, ℕ, ◌==◌, Bool, true, false, refl, sym, ap, ◌∙◌, subst}
use Rattle.std.specs.Prelude.{◌&&◌, ◌||◌, is_some}
use Rattle.chp_base.specs.declared.span.Span.{Span}
use Rattle.width_check.specs.Processes.{Process, receiving, Processes, TypedProgram}
use Rattle.chp_meaning.specs.Terms.{Term, finished, active, here as at_here}
use Rattle.circuit_places.specs.Lines.{Line, of_channel, of_var, same_line, Rails, Seen}
use Rattle.circuit_places.specs.Whole.{value_on, neutral_on}
use Rattle.circuit_places.proofs.RailLemmas.{both_true}
use Rattle.circuit_places.proofs.Places.{Mode, idle, running, answered, returning, under_way, port_may, port_shown, PortFits, Shown, both_shown}
use Rattle.circuit_places.proofs.Meets.{PortMeets}
use Rattle.circuit_places.proofs.Left.{waits, Act}
use Rattle.circuit_places.proofs.Exchange.{One}
use Rattle.circuit_places.proofs.Talks.{Beside}
use Rattle.circuit_places.proofs.Flow.{low_of, or_left, or_right, or_free, cases}
use Rattle.circuit_places.proofs.LineNames.{self_number, same_number, same_line_is}
use Rattle.circuit_places.proofs.Begin.{answered_ack}
use Rattle.circuit_places.proofs.PortLeaf.{runs_va, back_ack}

-- a receive on the line's channel is under way that has stored
abbrev pub heard_on : Line → Shown → Bool
heard_on (of_channel d) x = x.take d
heard_on (of_var v) x = false

-- Such a receive, into a variable that is written, with all the rails that are there; no other variable ceases to be
-- written.
pub record Hearing (P : TypedProgram) (env : Seen) (c : Line) (x : Shown) (before after : ℕ → Bool) (q : Process) : Type 0 where
  pub channel : ℕ
  pub on : of_channel channel ≡ c
  pub at : Span
  pub var : ℕ
  pub to : Span
  pub is : q ≡ receiving channel at var to
  pub meets : PortMeets P channel var
  pub hears : x.listen channel ≡ true
  pub done : env.ack (of_var var) ≡ true
  pub all : (i : ℕ) (one : Bool) → env.rail c i one ≡ true → x.offer (of_var var) i one ≡ true
  pub frees : (z : ℕ) → (z ≡ var → ⊥) → after z ≡ false → before z ≡ false

pub none_heard : (c : Line) (x : Shown) → ((d : ℕ) → x.take d ≡ false) → heard_on c x ≡ false
none_heard (of_channel d) x f = f d
none_heard (of_var v) x f = refl

pub heard_both : (c : Line) (x y : Shown) → heard_on c (both_shown x y) ≡ (heard_on c x || heard_on c y)
heard_both (of_channel d) x y = refl
heard_both (of_var v) x y = refl

-- only one of a branch and those beside it has stored
pub one_hears : {p : Process} {more : Processes} (c : Line) (x y : Shown) → Beside p more x y → heard_on c x ≡ true → heard_on c y ≡ false
one_hears (of_channel d) x y s h = low_of (y.take d) (s.taken_theirs d) (s.deaf_theirs d (s.hears_mine d (s.taken_mine d h)))
one_hears (of_var v) x y s h = absurd (cc h)

-- what one of both hears, both do
module _ (P : TypedProgram) (env : Seen) (c : Line) (x y : Shown) (a b e f : ℕ → Bool) (q : Process) where
  pub this_hears : (r : Hearing P env c x a b q) → ((z : ℕ) → f z ≡ e z)
      → Hearing P env c (both_shown x y) (λ z. a z || e z) (λ z. b z || f z) q
  this_hears r still = record {
    channel = r.channel;
    on = r.on;
    at = r.at;
    var = r.var;
    to = r.to;
    is = r.is;
    meets = r.meets;
    hears = or_left (x.listen r.channel) (y.listen r.channel) r.hears;
    done = r.done;
    all = λ i one h. or_left (x.offer (of_var r.var) i one) (y.offer (of_var r.var) i one) (r.all i one h);
    frees = λ z ne h. or_free (a z) (e z) (b z) (f z) (r.frees z ne) (λ g. sym (still z) ∙ g) h;
  }

  pub others_hear : (r : Hearing P env c y e f q) → ((z : ℕ) → b z ≡ a z)
      → Hearing P env c (both_shown x y) (λ z. a z || e z) (λ z. b z || f z) q
  others_hear r still = record {
    channel = r.channel;
    on = r.on;
    at = r.at;
    var = r.var;
    to = r.to;
    is = r.is;
    meets = r.meets;
    hears = or_right (x.listen r.channel) (y.listen r.channel) r.hears;
    done = r.done;
    all = λ i one h. or_right (x.offer (of_var r.var) i one) (y.offer (of_var r.var) i one) (r.all i one h);
    frees = λ z ne h. or_free (a z) (e z) (b z) (f z) (λ g. sym (still z) ∙ g) (r.frees z ne) h;
  }

-- the receive itself
module _ (P : TypedProgram) (env now : Seen) (c : Line) (low : env.ack c ≡ false) (high : now.ack c ≡ true) where
  pub port_hears : (d x : ℕ) (at to : Span) (m : Mode) (l : Bool) (q : Rails) → port_may m l ≡ true → PortMeets P d x → PortFits d x m l q env
      → same_line (of_channel d) c ≡ true → l ≡ true
      → One (Hearing P env c (port_shown d x l q) (λ z. (x == z) && under_way m (env.ack (of_channel d)))
      (λ z. (x == z) && under_way m (now.ack (of_channel d))))
      (waits m (env.ack (of_channel d)) (active (receiving d at x to))) (waits m (now.ack (of_channel d)) (active (receiving d at x to)))
  port_hears d x at to m l q h meets f z kept =
      let on = same_line_is (of_channel d) c z in by m h f (ap env.ack on ∙ low) (ap now.ack on ∙ high)
    where
      other : (m : Mode) (z : ℕ) → (z ≡ x → ⊥) → (b : Bool) → ((x == z) && b) ≡ false
      other m z ne b = cases (x == z)
          (λ (e : (x == z) ≡ true). absurd (ne (sym (same_number x z e))))
          (λ (e : (x == z) ≡ false). ap (λ y. y && b) e)

      by : (m : Mode) → port_may m l ≡ true → PortFits d x m l q env → env.ack (of_channel d) ≡ false → now.ack (of_channel d) ≡ true
          → One (Hearing P env c (port_shown d x l q) (λ z. (x == z) && under_way m (env.ack (of_channel d)))
          (λ z. (x == z) && under_way m (now.ack (of_channel d))))
          (waits m (env.ack (of_channel d)) (active (receiving d at x to))) (waits m (now.ack (of_channel d)) (active (receiving d at x to)))
      by idle h f a b = absurd (cc h)
      by answered h f a b = absurd (cc (
        answered_ack l (env.ack (of_channel d)) (env.ack (of_var x)) (is_some (value_on (env.width (of_var x)) q))
            (neutral_on (env.width (of_var x)) q) f.ends,
        a,
      ))
      by returning h f a b = absurd (cc (
        back_ack l (env.ack (of_channel d)) (env.ack (of_var x)) (is_some (value_on (env.width (of_var x)) q))
            (neutral_on (env.width (of_var x)) q) f.ends kept,
        a,
      ))
      by running h f a b = record {
        p = receiving d at x to;
        is = record {
          channel = d;
          on = same_line_is (of_channel d) c z;
          at = at;
          var = x;
          to = to;
          is = refl;
          meets = meets;
          hears = self_number d;
          done = runs_va l (env.ack (of_channel d)) (env.ack (of_var x)) (is_some (value_on (env.width (of_var x)) q))
              (neutral_on (env.width (of_var x)) q) f.ends kept;
          all = λ i one y. both_true (same_line (of_var x) (of_var x)) (q i one) (self_number x)
              (f.behind kept i one (ap (λ k. env.rail k i one) (same_line_is (of_channel d) c z) ∙ y));
          frees = λ z ne e. other running z ne (under_way running (env.ack (of_channel d)));
        };
        act = subst (λ (y : Term). Act y (receiving d at x to) finished (waits running (now.ack (of_channel d)) (active (receiving d at x to))))
            (sym (ap (λ i. waits running i (active (receiving d at x to))) a))
            (record { at = at_here; stands = refl; then_is = ap (λ i. waits running i (active (receiving d at x to))) b });
      }
