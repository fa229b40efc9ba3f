-- The own moves of a receive: its answer, the node that says that it has stored, and the rails that it takes over.
use Rattle.std.proofs.Common.{◌≡◌, ◌≢◌, ℕ, ◌<◌, ◌==◌, Bool, true, false, refl, sym, ap, ◌∙◌, subst, inl}
use Rattle.std.specs.Prelude.{not, ◌&&◌, if◌then◌else◌, is_some}
use Rattle.std.proofs.Math.Path.{fun_ext}
use Rattle.prs_core.specs.Deciding.{implies, implies_at}
use Rattle.chp_base.specs.declared.span.Span.{Span}
use Rattle.width_check.specs.Processes.{receiving, TypedProgram}
use Rattle.chp_meaning.specs.Terms.{active}
use Rattle.function_blocks.specs.RailFacts.{covered, covers, emptied, lows_in}
use Rattle.circuit_places.specs.Lines.{Line, of_channel, of_var, same_line, Rails, Seen}
use Rattle.circuit_places.specs.Circuit.{PortSpot, heard, stored, taking, Spot, of_receive, low_port, rails_turned, turned_port, same_bit}
use Rattle.circuit_places.specs.Whole.{value_on, neutral_on}
use Rattle.circuit_places.proofs.RailLemmas.{fst_true, snd_true, both_true, not_true, never_and, same_value, each_bit}
use Rattle.circuit_places.proofs.Places.{Mode, idle, running, answered, returning, acks, port_may, port_of, port_shown, port_ends, PortFits, port_moves, under_way, none_shown, rests, at_receive, moves}
use Rattle.circuit_places.proofs.Left.{waits}
use Rattle.circuit_places.proofs.Flow.{goes, Flow, flow_same, Clean, After, cases}
use Rattle.circuit_places.proofs.LineNames.{same_number, same_line_is}
use Rattle.circuit_places.proofs.Meets.{PortMeets}
use Rattle.circuit_places.proofs.Begin.{port_answered_moves}

-- what the ends say
pub runs_kept : (k a v f n : Bool) → port_ends running k a v f n ≡ true → a ≡ true → k ≡ true
runs_kept k a v f n h e = implies_at a k (fst_true (implies a k) _ h) e

pub runs_va : (k a v f n : Bool) → port_ends running k a v f n ≡ true → k ≡ true → v ≡ true
runs_va k a v f n h e = implies_at k v (fst_true (implies k v) _ (snd_true (implies a k) _ h)) e

pub runs_full : (k a v f n : Bool) → port_ends running k a v f n ≡ true → v ≡ true → f ≡ true
runs_full k a v f n h e = implies_at v f (snd_true (implies k v) _ (snd_true (implies a k) _ h)) e

pub back_ack : (k a v f n : Bool) → port_ends returning k a v f n ≡ true → k ≡ true → a ≡ true
back_ack k a v f n h e = implies_at k a (fst_true (implies k a) _ h) e

pub back_kept : (k a v f n : Bool) → port_ends returning k a v f n ≡ true → v ≡ true → k ≡ true
back_kept k a v f n h e = implies_at v k (fst_true (implies v k) _ (snd_true (implies k a) _ h)) e

pub back_none : (k a v f n : Bool) → port_ends returning k a v f n ≡ true → v ≡ false → n ≡ true
back_none k a v f n h e = implies_at (not v) n (fst_true (implies (not v) n) _ (snd_true (implies v k) _ (snd_true (implies k a) _ h))) (ap not e)

pub back_gone : (k a v f n : Bool) → port_ends returning k a v f n ≡ true → k ≡ false → n ≡ true
back_gone k a v f n h e = implies_at (not k) n (snd_true (implies (not v) n) _ (snd_true (implies v k) _ (snd_true (implies k a) _ h))) (ap not e)

pub low_by : (a b : Bool) → (a ≡ true → b ≡ true) → b ≡ false → a ≡ false
low_by true b f e = absurd (cc (f refl, e))
low_by false b f e = refl

pub run_ends : (k a v f n : Bool) → (a ≡ true → k ≡ true) → (k ≡ true → v ≡ true) → (v ≡ true → f ≡ true) → port_ends running k a v f n ≡ true
run_ends k a v f n p q r = both_true (implies a k) _ (imp a k p) (both_true (implies k v) _ (imp k v q) (imp v f r))
  where
    imp : (x y : Bool) → (x ≡ true → y ≡ true) → implies x y ≡ true
    imp true y f = f refl
    imp false y f = refl

pub back_ends : (k a v f n : Bool) → (k ≡ true → a ≡ true) → (v ≡ true → k ≡ true) → (v ≡ false → n ≡ true) → (k ≡ false → n ≡ true)
    → port_ends returning k a v f n ≡ true
back_ends k a v f n p q r s = both_true (implies k a) _ (imp k a p) (both_true (implies v k) _ (imp v k q)
    (both_true (implies (not v) n) _ (neg v n r) (neg k n s)))
  where
    imp : (x y : Bool) → (x ≡ true → y ≡ true) → implies x y ≡ true
    imp true y f = f refl
    imp false y f = refl

    neg : (x y : Bool) → (x ≡ false → y ≡ true) → implies (not x) y ≡ true
    neg true y f = refl
    neg false y f = f refl

-- the rails with one turned over
pub turned_there : (q : Rails) (i : ℕ) (one : Bool) (j : ℕ) (side : Bool) → ((j == i) && same_bit side one) ≡ true → rails_turned q i one j side ≡ not (q i one)
turned_there q i one j side e = ap (λ b. if b then not (q i one) else q j side) e

pub turned_else : (q : Rails) (i : ℕ) (one : Bool) (j : ℕ) (side : Bool) → ((j == i) && same_bit side one) ≡ false → rails_turned q i one j side ≡ q j side
turned_else q i one j side e = ap (λ b. if b then not (q i one) else q j side) e

-- a rail that rises is the one, or was high
pub risen : (q : Rails) (i : ℕ) (one : Bool) (T : ℕ → Bool → Type 0) → T i one → ((j : ℕ) (side : Bool) → q j side ≡ true → T j side) → (j : ℕ) (side : Bool)
    → rails_turned q i one j side ≡ true → T j side
risen q i one T here there j side h = cases ((j == i) && same_bit side one)
    (λ (e : ((j == i) && same_bit side one) ≡ true).
    subst (λ (k : ℕ). T k side) (sym (same_number j i (fst_true (j == i) (same_bit side one) e)))
    (subst (λ (s : Bool). T i s) (sym (same_value side one (snd_true (j == i) (same_bit side one) e))) here))
    (λ (e : ((j == i) && same_bit side one) ≡ false). there j side (sym (turned_else q i one j side e) ∙ h))

pub still_high : (q : Rails) (i : ℕ) (one : Bool) → q i one ≡ false → (j : ℕ) (side : Bool) → q j side ≡ true → rails_turned q i one j side ≡ true
still_high q i one low j side h = cases ((j == i) && same_bit side one)
    (λ (e : ((j == i) && same_bit side one) ≡ true). turned_there q i one j side e ∙ ap not low)
    (λ (e : ((j == i) && same_bit side one) ≡ false). turned_else q i one j side e ∙ h)

pub fallen : (q : Rails) (i : ℕ) (one : Bool) → q i one ≡ true → (j : ℕ) (side : Bool) → rails_turned q i one j side ≡ true → q j side ≡ true
fallen q i one high j side h = cases ((j == i) && same_bit side one)
    (λ (e : ((j == i) && same_bit side one) ≡ true). absurd (cc (turned_there q i one j side e, high, h)))
    (λ (e : ((j == i) && same_bit side one) ≡ false). sym (turned_else q i one j side e) ∙ h)

-- where none of the rails is taken, none is high
pub port_none : (c x : ℕ) (m : Mode) (k : Bool) (q : Rails) (env : Seen) → PortFits c x m k q env → neutral_on (env.width (of_var x)) q ≡ true
    → (i : ℕ) (one : Bool) → q i one ≡ false
port_none c x m k q env f gone i one = cases (q i one)
    (λ (h : q i one ≡ true). absurd (cc (lows_in (env.width (of_var x)) q gone i one (f.within i one h), h)))
    (λ (h : q i one ≡ false). h)

-- what a move of a receive comes to: it is one still, or it rests
pub data PortAfter (c x : ℕ) (env : Seen) (m : Mode) (k : Bool) (q : Rails) (s : PortSpot) : Type 0 where
  port_goes : (n : Mode) (l : Bool) (p : Rails) → port_may n l ≡ true → port_of (acks n) l p ≡ turned_port (port_of (acks m) k q) s → goes m n ≡ true
      → PortFits c x n l p env → Flow env (port_shown c x k q) (port_shown c x l p)
      → waits n (env.ack (of_channel c)) ≡ waits m (env.ack (of_channel c)) → under_way m (env.ack (of_channel c)) ≡ under_way n (env.ack (of_channel c))
      → ((t : PortSpot) → t ≢ s → port_moves env c x m k q t ≡ true → port_moves env c x n l p t ≡ true) → PortAfter c x env m k q s
  port_rests : low_port ≡ turned_port (port_of (acks m) k q) s → goes m idle ≡ true → Flow env (port_shown c x k q) none_shown
      → m ≡ returning → ((t : PortSpot) → t ≢ s → port_moves env c x m k q t ≡ false) → PortAfter c x env m k q s

module _ (P : TypedProgram) (c x : ℕ) (env : Seen) (clean : Clean P env) (meets : PortMeets P c x) where
  abbrev ack : Bool
  ack = env.ack (of_channel c)

  abbrev va : Bool
  va = env.ack (of_var x)

  abbrev rail : Rails
  rail = env.rail (of_channel c)

  abbrev full : Rails → Bool
  full q = is_some (value_on (env.width (of_var x)) q)

  abbrev none : Rails → Bool
  none q = neutral_on (env.width (of_var x)) q

  wide : env.width (of_var x) ≡ env.width (of_channel c)
  wide = clean.wide (of_var x) ∙ (meets.widths ∙ sym (clean.wide (of_channel c)))

  -- of the own line: what it offers
  at_line : (j : Line) (b v : Bool) → va ≡ v → (same_line (of_var x) j && b) ≡ true → env.ack j ≡ v
  at_line j b v e o = ap env.ack (sym (same_line_is (of_var x) j (fst_true (same_line (of_var x) j) b o))) ∙ e

  at_channel : (d : ℕ) (b v : Bool) → ack ≡ v → ((c == d) && b) ≡ true → env.ack (of_channel d) ≡ v
  at_channel d b v e o = ap (λ n. env.ack (of_channel n)) (sym (same_number c d (fst_true (c == d) b o))) ∙ e

  kept_held : (s a b : Bool) → (a ≡ true → b ≡ true) → (s && a) ≡ true → (s && b) ≡ true
  kept_held true a b f h = f h
  kept_held false a b f h = absurd (cc h)

  differ : (b : Bool) → b ≡ true → b ≡ false → ⊥
  differ b p q = cc (p, q)

  -- a rail is taken over, under a low acknowledge of the variable, and let go under a high one
  take_up : (k : Bool) (q p : Rails) → ((i : ℕ) (one : Bool) → q i one ≡ true → p i one ≡ true) → va ≡ false
      → Flow env (port_shown c x k q) (port_shown c x k p)
  take_up k q p up low = record {
    talk = λ j g h. h;
    rises = λ j i one g h. kept_held (same_line (of_var x) j) (q i one) (p i one) (up i one) h;
    falls = λ j i one g h. absurd (differ (env.ack j) g (at_line j (p i one) false low h));
    listen = λ d e h. h;
    holds = λ d e h. h;
    drops = λ d e h. h;
    taken = λ d e h. absurd (cc (e, h));
    left = λ d e h. absurd (cc (e, h));
  }

  let_go : (k : Bool) (q p : Rails) → ((i : ℕ) (one : Bool) → p i one ≡ true → q i one ≡ true) → va ≡ true → Flow env (port_shown c x k q) (port_shown c x k p)
  let_go k q p down high = record {
    talk = λ j g h. h;
    rises = λ j i one g h. absurd (differ (env.ack j) (at_line j (q i one) true high h) g);
    falls = λ j i one g h. kept_held (same_line (of_var x) j) (p i one) (q i one) (down i one) h;
    listen = λ d e h. h;
    holds = λ d e h. h;
    drops = λ d e h. h;
    taken = λ d e h. absurd (cc (e, h));
    left = λ d e h. absurd (cc (e, h));
  }

  -- it has stored, and has let go
  has_stored : (q : Rails) → ack ≡ false → is_some (value_on (env.width (of_channel c)) rail) ≡ true → Flow env (port_shown c x false q) (port_shown c x true q)
  has_stored q low valid = record {
    talk = λ j g h. h;
    rises = λ j i one g h. h;
    falls = λ j i one g h. h;
    listen = λ d e h. h;
    holds = λ d e h. kept_held (c == d) false true (λ z. refl) h;
    drops = λ d e h. absurd (differ (env.ack (of_channel d)) e (at_channel d true false low h));
    taken = λ d e h. ap (λ n. is_some (value_on (env.width (of_channel n)) (env.rail (of_channel n)))) (sym (same_number c d (fst_true (c == d) true h)))
        ∙ valid;
    left = λ d e h. absurd (cc (never_and (c == d), e));
  }

  has_gone : (q : Rails) → ack ≡ true → neutral_on (env.width (of_channel c)) rail ≡ true → Flow env (port_shown c x true q) (port_shown c x false q)
  has_gone q high neutral = record {
    talk = λ j g h. h;
    rises = λ j i one g h. h;
    falls = λ j i one g h. h;
    listen = λ d e h. h;
    holds = λ d e h. absurd (differ (env.ack (of_channel d)) (at_channel d true true high h) e);
    drops = λ d e h. absurd (cc (never_and (c == d), h));
    taken = λ d e h. absurd (cc (never_and (c == d), h));
    left = λ d e h. ap (λ n. neutral_on (env.width (of_channel n)) (env.rail (of_channel n))) (sym (same_number c d (fst_true (c == d) true e))) ∙ neutral;
  }

  goes_quiet : (k : Bool) (q : Rails) → k ≡ false → ack ≡ false → va ≡ false → ((i : ℕ) (one : Bool) → q i one ≡ false)
      → Flow env (port_shown c x k q) none_shown
  goes_quiet k q gone low idle_va lows = record {
    talk = λ j g h. absurd (differ (env.ack j) g (ap env.ack (sym (same_line_is (of_var x) j h)) ∙ idle_va));
    rises = λ j i one g h. absurd (cc (lows i one, snd_true (same_line (of_var x) j) (q i one) h));
    falls = λ j i one g h. absurd (cc h);
    listen = λ d e h. absurd (differ (env.ack (of_channel d)) e (ap (λ n. env.ack (of_channel n)) (sym (same_number c d h)) ∙ low));
    holds = λ d e h. absurd (cc (gone, snd_true (c == d) k h));
    drops = λ d e h. absurd (cc h);
    taken = λ d e h. absurd (cc h);
    left = λ d e h. absurd (cc (gone, snd_true (c == d) k e));
  }

  -- all rails that are there are taken where the whole number is, before it is stored
  whole : (k : Bool) (q : Rails) → k ≡ false → (m : Mode) → PortFits c x m k q env → full q ≡ true
      → (is_some (value_on (env.width (of_channel c)) rail) ≡ true) × ((i : ℕ) (one : Bool) → rail i one ≡ true → q i one ≡ true)
  whole k q gone m f all =
      let all_of : is_some (value_on (env.width (of_channel c)) q) ≡ true = ap (λ n. is_some (value_on n q)) (sym wide) ∙ all in (
        ap is_some (covered (env.width (of_channel c)) q rail (λ i one h. f.before gone i one h) (λ i p s. clean.rails c i p s) all_of) ∙ all_of,
        λ i one h. covers (env.width (of_channel c)) q rail (λ j b z. f.before gone j b z) (λ j p s. clean.rails c j p s) all_of i one
            (subst (λ (n : ℕ). i < n) (sym (clean.wide (of_channel c))) (clean.below c i one h)) h,
      )

  -- none is taken
  none_taken : (k : Bool) (q : Rails) (m : Mode) → PortFits c x m k q env → none q ≡ true → (i : ℕ) (one : Bool) → q i one ≡ false
  none_taken k q m f gone = port_none c x m k q env f gone

  -- the answer rises
  answers : (k : Bool) (q : Rails) → PortFits c x running k q env → ack ≡ true → PortAfter c x env running k q heard
  answers k q f h =
      let kept = runs_kept k ack va (full q) (none q) f.ends h in
      let done = runs_va k ack va (full q) (none q) f.ends kept in
      let all = runs_full k ack va (full q) (none q) f.ends done in
      port_goes answered k q kept refl refl
      (record {
        ends = both_true k _ kept
            (both_true ack _ h (both_true va _ done all));
        before = f.before;
        behind = f.behind;
        within = f.within;
        single = f.single;
      })
      (flow_same env (port_shown c x k q)) (sym (ap (waits running) h)) (ap (under_way running) h) keeps
    where
      keeps : (t : PortSpot) → t ≢ heard → port_moves env c x running k q t ≡ true → port_moves env c x answered k q t ≡ true
      keeps heard ne z = absurd (ne refl)
      keeps stored ne z = z
      keeps (taking i one) ne z = z

  -- it has stored
  stores : (k : Bool) (q : Rails) → k ≡ false → PortFits c x running k q env → va ≡ true → PortAfter c x env running k q stored
  stores k q gone f h =
      let low = low_by ack k (runs_kept k ack va (full q) (none q) f.ends) gone in
      let all = runs_full k ack va (full q) (none q) f.ends h in
      let w = whole k q gone running f all in
      port_goes running true q refl (ap (λ b. port_of false (not b) q) (sym gone)) refl
      (record {
        ends = run_ends true ack va (full q) (none q) (λ e. refl) (λ e. h) (λ e. all);
        before = λ e i one z. absurd
            (cc e);
        behind = λ e i one z. w.1 i one z;
        within = f.within;
        single = f.single;
      })
      (subst (λ (b : Bool). Flow env (port_shown c x b q) (port_shown c x true q)) (sym gone) (has_stored q low w.0)) refl refl keeps
    where
      keeps : (t : PortSpot) → t ≢ stored → port_moves env c x running k q t ≡ true → port_moves env c x running true q t ≡ true
      keeps heard ne z = z
      keeps stored ne z = absurd (ne refl)
      keeps (taking i one) ne z = z

  -- a rail is taken over
  takes : (k : Bool) (q : Rails) (i : ℕ) (one : Bool) → PortFits c x running k q env → q i one ≡ false → rail i one ≡ true
      → PortAfter c x env running k q (taking i one)
  takes k q i one f o h =
      let gone : k ≡ false = cases k (λ (e : k ≡ true). absurd (cc (f.behind e i one h, o))) (λ (e : k ≡ false). e) in
      let less : i < env.width (of_var x) = subst (λ (n : ℕ). i < n) (sym (clean.wide (of_var x) ∙ meets.widths)) (clean.below c i one h) in
      let idle_va = low_by va (full q) (runs_full k ack va (full q) (none q) f.ends) (part gone less) in
      let low = low_by ack k (runs_kept k ack va (full q) (none q) f.ends) gone in
      let p = rails_turned q i one in
      port_goes running k p refl refl refl
      (record {
        ends = run_ends k ack va (full p) (none p) (λ e. absurd (differ ack e low)) (λ e. absurd (differ k e gone)) (λ e. absurd (differ va e idle_va));
        before = λ e j b z. risen q i one (λ j b. rail j b ≡ true) h (λ j b z. f.before gone j b z) j b z;
        behind = λ e j b z. absurd (differ k e gone);
        within = risen q i one (λ j b. j < env.width (of_var x)) less f.within;
        single = λ j y z. clean.rails c j (risen q i one (λ j b. rail j b ≡ true) h (λ j b z. f.before gone j b z) j true y)
            (risen q i one (λ j b. rail j b ≡ true) h (λ j b z. f.before gone j b z) j false z);
      })
      (take_up k q p (still_high q i one o) idle_va) refl refl (keeps gone)
    where
      part : k ≡ false → i < env.width (of_var x) → full q ≡ false
      part gone less = cases (full q)
          (λ (e : full q ≡ true). absurd (by (each_bit (env.width (of_var x)) q e i less)))
          (λ (e : full q ≡ false). e)
        where
          by : (side : Bool) × (q i side ≡ true) → ⊥
          by (side, z) = here side one (f.before gone i side z) h z o
            where
              here : (a b : Bool) → rail i a ≡ true → rail i b ≡ true → q i a ≡ true → q i b ≡ false → ⊥
              here true true p r y w = cc (y, w)
              here false false p r y w = cc (y, w)
              here true false p r y w = clean.rails c i p r
              here false true p r y w = clean.rails c i r p

      keeps : k ≡ false → (t : PortSpot) → t ≢ taking i one → port_moves env c x running k q t ≡ true
          → port_moves env c x running k (rails_turned q i one) t ≡ true
      keeps gone heard ne z = z
      keeps gone stored ne z = z
      keeps gone (taking j b) ne z = cases ((j == i) && same_bit b one)
          (λ (e : ((j == i) && same_bit b one) ≡ true). absurd (ne (ap (λ n. taking n b) (same_number j i (fst_true (j == i) (same_bit b one) e))
          ∙ ap (λ s. taking i s) (same_value b one (snd_true (j == i) (same_bit b one) e)))))
          (λ (e : ((j == i) && same_bit b one) ≡ false). ap (λ y. if y then not true && not (rail j b) else true && rail j b) (turned_else q i one j b e) ∙ z)

  -- the answer falls
  leaves : (k : Bool) (q : Rails) → PortFits c x returning k q env → ack ≡ false → PortAfter c x env returning k q heard
  leaves k q f h =
      let gone = low_by k ack (back_ack k ack va (full q) (none q) f.ends) h in
      let idle_va = low_by va k (back_kept k ack va (full q) (none q) f.ends) gone in
      let lows = none_taken k q returning f (back_none k ack va (full q) (none q) f.ends idle_va) in
      port_rests (ap (λ b. port_of false b (λ i one. false)) (sym gone) ∙ ap (port_of false k) (sym (fun_ext (λ i. fun_ext (λ one. lows i one))))) refl
      (goes_quiet k q gone h idle_va lows) refl (keeps gone lows)
    where
      keeps : k ≡ false → ((i : ℕ) (one : Bool) → q i one ≡ false) → (t : PortSpot) → t ≢ heard → port_moves env c x returning k q t ≡ false
      keeps gone lows heard ne = absurd (ne refl)
      keeps gone lows stored ne = ap (λ b. if b then not va else false && va) gone
      keeps gone lows (taking i one) ne = ap (λ b. if b then not false && not (rail i one) else false && rail i one) (lows i one)

  -- it has let go
  gives_back : (k : Bool) (q : Rails) → k ≡ true → PortFits c x returning k q env → va ≡ false → PortAfter c x env returning k q stored
  gives_back k q kept f h =
      let high = back_ack k ack va (full q) (none q) f.ends kept in
      let gone = back_none k ack va (full q) (none q) f.ends h in
      let lows = none_taken k q returning f gone in
      let neutral : neutral_on (env.width (of_channel c)) rail ≡ true = emptied (env.width (of_channel c)) q rail (λ i one z. f.behind kept i one z)
      (ap (λ n. neutral_on n q) (sym wide) ∙ gone) in
      port_goes returning false q refl (ap (λ b. port_of true (not b) q) (sym kept)) refl
      (record {
        ends = back_ends false ack va (full q) (none q) (λ e. absurd (cc e)) (λ e. absurd (differ va e h)) (λ e. gone)
            (λ e. gone);
        before = λ e i one z. absurd (cc (lows i one, z));
        behind = λ e i one z. absurd (cc e);
        within = f.within;
        single = f.single;
      })
      (subst (λ (b : Bool). Flow env (port_shown c x b q) (port_shown c x false q)) (sym kept) (has_gone q high neutral)) refl refl keeps
    where
      keeps : (t : PortSpot) → t ≢ stored → port_moves env c x returning k q t ≡ true → port_moves env c x returning false q t ≡ true
      keeps heard ne z = z
      keeps stored ne z = absurd (ne refl)
      keeps (taking i one) ne z = z

  -- a rail is let go
  drops : (k : Bool) (q : Rails) (i : ℕ) (one : Bool) → PortFits c x returning k q env → q i one ≡ true → rail i one ≡ false
      → PortAfter c x env returning k q (taking i one)
  drops k q i one f o h =
      let high : va ≡ true = cases va (λ (e : va ≡ true). e) (λ (e : va ≡ false). absurd
      (cc (none_taken k q returning f (back_none k ack va (full q) (none q) f.ends e) i one, o))) in
      let kept = back_kept k ack va (full q) (none q) f.ends high in
      let p = rails_turned q i one in
      port_goes returning k p refl refl refl
      (record {
        ends = back_ends k ack va (full p) (none p) (back_ack k ack va (full q) (none q) f.ends) (λ e. kept) (λ e. absurd (differ va high e))
            (λ e. absurd (differ k kept e));
        before = λ e j b z. absurd (differ k kept e);
        behind = λ e j b z. cases ((j == i) && same_bit b one)
            (λ (y : ((j == i) && same_bit b one) ≡ true). absurd (cc (
              h,
              ap (λ n. rail n b) (same_number j i (fst_true (j == i) (same_bit b one) y)),
              ap (rail i) (same_value b one (snd_true (j == i) (same_bit b one) y)),
              z,
            )))
            (λ (y : ((j == i) && same_bit b one) ≡ false). turned_else q i one j b y ∙ f.behind kept j b z);
        within = λ j b z. f.within j b (fallen q i one o j b z);
        single = λ j y z. f.single j (fallen q i one o j true y) (fallen q i one o j false z);
      })
      (let_go k q p (fallen q i one o) high) refl refl keeps
    where
      keeps : (t : PortSpot) → t ≢ taking i one → port_moves env c x returning k q t ≡ true → port_moves env c x returning k (rails_turned q i one) t ≡ true
      keeps heard ne z = z
      keeps stored ne z = z
      keeps (taking j b) ne z = cases ((j == i) && same_bit b one)
          (λ (e : ((j == i) && same_bit b one) ≡ true). absurd (ne (ap (λ n. taking n b) (same_number j i (fst_true (j == i) (same_bit b one) e))
          ∙ ap (λ s. taking i s) (same_value b one (snd_true (j == i) (same_bit b one) e)))))
          (λ (e : ((j == i) && same_bit b one) ≡ false). ap (λ y. if y then not false && not (rail j b) else false && rail j b) (turned_else q i one j b e) ∙ z)

  port_after : (m : Mode) (k : Bool) (q : Rails) → port_may m k ≡ true → (s : PortSpot) → PortFits c x m k q env → port_moves env c x m k q s ≡ true
      → PortAfter c x env m k q s
  port_after idle k q h s f z = absurd (cc h)
  port_after answered k q h s f z = absurd (cc (port_answered_moves env c x k q f s, z))
  port_after running k q h heard f z = answers k q f z
  port_after running k q h stored f z = cases k
      (λ (e : k ≡ true). absurd (cc (ap not (runs_va k ack va (full q) (none q) f.ends e), ap (λ b. if b then not va else true && va) e, z)))
      (λ (e : k ≡ false). stores k q e f (sym (ap (λ b. if b then not va else true && va) e) ∙ z))
  port_after running k q h (taking i one) f z = cases (q i one)
      (λ (e : q i one ≡ true). absurd (cc (ap (λ b. if b then not true && not (rail i one) else true && rail i one) e, z)))
      (λ (e : q i one ≡ false). takes k q i one f e (sym (ap (λ b. if b then not true && not (rail i one) else true && rail i one) e) ∙ z))
  port_after returning k q h heard f z = leaves k q f (not_true ack z)
  port_after returning k q h stored f z = cases k
      (λ (e : k ≡ true). gives_back k q e f (not_true va (sym (ap (λ b. if b then not va else false && va) e) ∙ z)))
      (λ (e : k ≡ false). absurd (cc (ap (λ b. if b then not va else false && va) e, z)))
  port_after returning k q h (taking i one) f z = cases (q i one)
      (λ (e : q i one ≡ true). drops k q i one f e (not_true (rail i one)
      (sym (ap (λ b. if b then not false && not (rail i one) else false && rail i one) e) ∙ z)))
      (λ (e : q i one ≡ false). absurd (cc (ap (λ b. if b then not false && not (rail i one) else false && rail i one) e, z)))

pub receive_after : (P : TypedProgram) (c x : ℕ) (at to : Span) (env : Seen) → Clean P env
    → (m : Mode) (k : Bool) (q : Rails) (h : port_may m k ≡ true) (s : PortSpot) → PortMeets P c x → PortFits c x m k q env → port_moves env c x m k q s ≡ true
    → After (receiving c at x to) m env (at_receive m k q h) (of_receive s)
receive_after P c x at to env clean m k q h s meets f z = by (port_after P c x env clean meets m k q h s f z)
  where
    by : PortAfter c x env m k q s → After (receiving c at x to) m env (at_receive m k q h) (of_receive s)
    by (port_goes n l p may same way fits flow left writes keeps) = record {
      mode = n;
      to = at_receive n l p may;
      same = same;
      way = way;
      fits = fits;
      flow = flow;
      term = inl (refl, ap (λ f. f (active (receiving c at x to))) left);
      frees = λ y i. ap (λ b. (x == y) && b) writes ∙ i;
      keeps = kept;
    }
      where
        kept : (t : Spot (receiving c at x to)) → t ≢ of_receive s → moves env (at_receive {c = c} {x = x} {at = at} {to = to} m k q h) t ≡ true
            → moves env (at_receive {c = c} {x = x} {at = at} {to = to} n l p may) t ≡ true
        kept (of_receive t) ne y = keeps t (λ (i : t ≡ s). ne (ap (λ u. of_receive u) i)) y
    by (port_rests same way flow back keeps) = record {
      mode = idle;
      to = rests;
      same = same;
      way = way;
      fits = tt;
      flow = flow;
      term = inl (refl, sym (ap (λ (n : Mode). waits n (env.ack (of_channel c)) (active (receiving c at x to))) back));
      frees = λ y i. ap (λ (n : Mode). (x == y) && under_way n (env.ack (of_channel c))) back ∙ never_and (x == y);
      keeps = kept;
    }
      where
        kept : (t : Spot (receiving c at x to)) → t ≢ of_receive s → moves env (at_receive {c = c} {x = x} {at = at} {to = to} m k q h) t ≡ true
            → moves env (rests {p = receiving c at x to}) t ≡ true
        kept (of_receive t) ne y = absurd (cc (keeps t (λ (i : t ≡ s). ne (ap (λ u. of_receive u) i)), y))
