-- Where in a term in halves a statement of the program goes on: at the same place, or, where its first half is still to come, one further inside.
--
-- N, M: how many variables the program has, and with the hidden ones; t, u: a term of the program and of its halves; a, b: places; p, q: statements.
use Rattle.std.proofs.Common.{◌≡◌, ◌≢◌, ◌⊎◌, ℕ, zero, suc, Bool, true, false, List, refl, sym, ap, ◌∙◌, subst, inl, inr}
use Rattle.std.specs.Prelude.{if◌then◌else◌, ◌&&◌, slice_index, Some}
use Rattle.chp_base.specs.declared.span.Span.{Span}
use Rattle.width_check.specs.Processes.{Formula, Process, assigning, no_members, and_member}
use Rattle.width_check.specs.Sharing.{occurrences}
use Rattle.chp_meaning.specs.Terms.{Term, Terms, finished, active, in_sequence, in_parallel, no_branches, and_branch, is_finished, all_finished, together, Place, here, in_first, in_branch, statement_at, branch_at, with_left, with_branch}
use Rattle.chp_meaning.specs.Halves.{read_through}
use Rattle.chp_meaning.proofs.Places.{followed_on, together_on}
use Rattle.chp_meaning.proofs.Moves.{Agree, value_same}
use Rattle.chp_meaning.proofs.Alike.{Alike, both_finished, both_active, at_first, at_second, both_in_sequence, both_in_parallel, EachAlike, alike_none, alike_more, followed_alike, OthersKept, Pair, pair_same, pair_first, pair_second, behind}

abbrev pub inside : Place → Place
inside here = in_first here
inside (in_first a) = in_first (inside a)
inside (in_branch k a) = in_branch k (inside a)

-- at the same place or one further inside
abbrev pub Goes : Place → Place → Type 0
Goes a b = (b ≡ a) ⊎ (b ≡ inside a)

not_here : (a : Place) → inside a ≢ here
not_here here e = absurd (cc e)
not_here (in_first a) e = absurd (cc e)
not_here (in_branch k a) e = absurd (cc e)

inside_same : (a b : Place) → inside a ≡ inside b → a ≡ b
inside_same here here e = refl
inside_same here (in_first b) e = let z : inside b ≡ here = cc e in absurd (not_here b z)
inside_same here (in_branch k b) e = absurd (cc e)
inside_same (in_first a) here e = let z : inside a ≡ here = cc e in absurd (not_here a z)
inside_same (in_first a) (in_first b) e = let z : inside a ≡ inside b = cc e in ap in_first (inside_same a b z)
inside_same (in_first a) (in_branch k b) e = absurd (cc e)
inside_same (in_branch j a) here e = absurd (cc e)
inside_same (in_branch j a) (in_first b) e = absurd (cc e)
inside_same (in_branch j a) (in_branch k b) e =
    let z : inside a ≡ inside b = cc e in let y : j ≡ k = cc e in let x = inside_same a b z in cc (x, y)

-- no place further inside than an active one is active
mutual
  pub one_level : (t : Term) (a : Place) {p q : Process} → statement_at t a ≡ Some p → statement_at t (inside a) ≡ Some q → ⊥
  one_level finished a g h = absurd (cc g)
  one_level (active r) here g h = absurd (cc h)
  one_level (active r) (in_first a) g h = absurd (cc g)
  one_level (active r) (in_branch k a) g h = absurd (cc g)
  one_level (in_sequence t more) here g h = absurd (cc g)
  one_level (in_sequence t more) (in_first a) g h = one_level t a g h
  one_level (in_sequence t more) (in_branch k a) g h = absurd (cc g)
  one_level (in_parallel ts) here g h = absurd (cc g)
  one_level (in_parallel ts) (in_first a) g h = absurd (cc g)
  one_level (in_parallel ts) (in_branch k a) g h = branch_level ts k a g h

  branch_level : (ts : Terms) (k : ℕ) (a : Place) {p q : Process} → branch_at ts k a ≡ Some p → branch_at ts k (inside a) ≡ Some q → ⊥
  branch_level no_branches k a g h = absurd (cc g)
  branch_level (and_branch t more) zero a g h = one_level t a g h
  branch_level (and_branch t more) (suc k) a g h = branch_level more k a g h

-- a statement is active at the place
abbrev pub On : Term → Place → Type 0
On t a = (p : Process) × (statement_at t a ≡ Some p)

off_level : (t : Term) (a b : Place) → On t a → On t b → b ≢ inside a
off_level t a b g h e = one_level t a g.1 (subst (λ x. statement_at t x ≡ Some h.0) e h.1)

-- two of the program go on at two
pub goes_apart : (t : Term) (a b x y : Place) → On t a → On t b → a ≢ b → Goes a x → Goes b y → x ≢ y
goes_apart t a b x y g h ne (inl i) (inl j) e = ne (sym i ∙ (e ∙ j))
goes_apart t a b x y g h ne (inl i) (inr j) e = off_level t b a h g (sym i ∙ (e ∙ j))
goes_apart t a b x y g h ne (inr i) (inl j) e = off_level t a b g h (sym j ∙ (sym e ∙ i))
goes_apart t a b x y g h ne (inr i) (inr j) e = ne (inside_same a b (sym i ∙ (e ∙ j)))

-- and one of them at one
pub goes_once : (u : Term) (a x y : Place) → On u x → On u y → Goes a x → Goes a y → x ≡ y
goes_once u a x y g h (inl i) (inl j) = i ∙ sym j
goes_once u a x y g h (inl i) (inr j) = absurd (off_level u x y g h (j ∙ ap inside (sym i)))
goes_once u a x y g h (inr i) (inl j) = absurd (off_level u y x h g (i ∙ ap inside (sym j)))
goes_once u a x y g h (inr i) (inr j) = i ∙ sym j

-- other stores, in which the active statements read the same

abbrev AllRead : List ℕ → List ℕ → Term → Type 0
AllRead store now t = (w : Place) (p : Process) → statement_at t w ≡ Some p → Agree (slice_index now) (slice_index store) (occurrences p)

abbrev EachRead : List ℕ → List ℕ → Terms → Type 0
EachRead store now ts = (j : ℕ) (w : Place) (p : Process) → branch_at ts j w ≡ Some p → Agree (slice_index now) (slice_index store) (occurrences p)

abbrev OthersRead : List ℕ → List ℕ → Terms → ℕ → Place → Type 0
OthersRead store now ts k a = (j : ℕ) (w : Place) (p : Process) → in_branch j w ≢ in_branch k a → branch_at ts j w ≡ Some p →
    Agree (slice_index now) (slice_index store) (occurrences p)

mutual
  alike_still : {N M : ℕ} {old new : List ℕ} {t u : Term} (old' new' : List ℕ) → Alike N M old new t u → AllRead old old' t → AllRead new new' u →
      Alike N M old' new' t u
  alike_still old' new' both_finished f g = both_finished
  alike_still old' new' (both_active s) f g = both_active s
  alike_still old' new' (at_first h) f g = at_first h
  alike_still {old = old} {new = new} old' new' (at_second {x = x} {h = k} {at = at} {e = e} h v) f g =
      at_second h (value_same (slice_index new') (slice_index new) (read_through k e at) (λ y s i. g here _ refl y s (inr i))
      ∙ (v ∙ sym (value_same (slice_index old') (slice_index old) e (λ y s i. f here _ refl y s (inr i)))))
  alike_still old' new' (both_in_sequence a ms) f g =
      both_in_sequence (alike_still old' new' a (λ w p h. f (in_first w) p h) (λ w p h. g (in_first w) p h)) ms
  alike_still old' new' (both_in_parallel a) f g =
      both_in_parallel (each_still old' new' a (λ j w p h. f (in_branch j w) p h) (λ j w p h. g (in_branch j w) p h))

  each_still : {N M : ℕ} {old new : List ℕ} {ts us : Terms} (old' new' : List ℕ) → EachAlike N M old new ts us → EachRead old old' ts → EachRead new new' us →
      EachAlike N M old' new' ts us
  each_still old' new' alike_none f g = alike_none
  each_still old' new' (alike_more a each) f g =
      alike_more (alike_still old' new' a (λ w p h. f zero w p h) (λ w p h. g zero w p h))
      (each_still old' new' each (λ j w p h. f (suc j) w p h) (λ j w p h. g (suc j) w p h))

-- the place of the statement in halves that goes with the one at a
abbrev pub IsPlaced : {N M : ℕ} {old new : List ℕ} {p q : Process} → Pair N M old new p q → Place → Place → Type 0
IsPlaced (pair_same s) a b = b ≡ a
IsPlaced (pair_first i) a b = b ≡ inside a
IsPlaced (pair_second i v) a b = b ≡ a

placed_in : {N M : ℕ} {old new : List ℕ} {p q : Process} (pair : Pair N M old new p q) (a b : Place) → IsPlaced pair a b
    → IsPlaced pair (in_first a) (in_first b)
placed_in (pair_same s) a b e = ap in_first e
placed_in (pair_first i) a b e = ap in_first e
placed_in (pair_second i v) a b e = ap in_first e

placed_beside : {N M : ℕ} {old new : List ℕ} {p q : Process} (pair : Pair N M old new p q) (k : ℕ) (a b : Place) → IsPlaced pair a b
    → IsPlaced pair (in_branch k a) (in_branch k b)
placed_beside (pair_same s) k a b e = ap (in_branch k) e
placed_beside (pair_first i) k a b e = ap (in_branch k) e
placed_beside (pair_second i v) k a b e = ap (in_branch k) e

-- what may be left of both
abbrev pub Puts : (N M : ℕ) (old new : List ℕ) (t u : Term) (a b : Place) → (Term → Term) → Type 0
Puts N M old new t u a b next = (old' new' : List ℕ) (l m : Term) → OthersKept old old' t a → OthersKept new new' u b → Alike N M old' new' l (next m)
    → Alike N M old' new' (with_left t a l) (with_left u b m)

-- the statement in halves that goes with one of the program
pub record Image (N M : ℕ) (old new : List ℕ) (t u : Term) (a : Place) (p : Process) : Type 0 where
  pub place : Place
  pub process : Process
  pub on : statement_at u place ≡ Some process
  pub pair : Pair N M old new p process
  pub placed : IsPlaced pair a place
  pub put : Puts N M old new t u a place (behind pair)

record BranchImage (N M : ℕ) (old new : List ℕ) (ts us : Terms) (k : ℕ) (a : Place) (p : Process) : Type 0 where
  place : Place
  process : Process
  on : branch_at us k place ≡ Some process
  pair : Pair N M old new p process
  placed : IsPlaced pair a place
  put : (old' new' : List ℕ) (l m : Term) → OthersRead old old' ts k a → OthersRead new new' us k place → Alike N M old' new' l (behind pair m) →
      EachAlike N M old' new' (with_branch ts k a l) (with_branch us k place m)

end_alike : {N M : ℕ} {old new : List ℕ} {t u : Term} → Alike N M old new t u → is_finished t ≡ is_finished u
end_alike both_finished = refl
end_alike (both_active s) = refl
end_alike (at_first h) = refl
end_alike (at_second h v) = refl
end_alike (both_in_sequence a ms) = refl
end_alike (both_in_parallel a) = refl

ends_alike : {N M : ℕ} {old new : List ℕ} {ts us : Terms} → EachAlike N M old new ts us → all_finished ts ≡ all_finished us
ends_alike alike_none = refl
ends_alike (alike_more {t = t} {u = u} {ts = ts} {us = us} a each) =
    ap (λ b. b && all_finished ts) (end_alike a) ∙ ap (λ b. is_finished u && b) (ends_alike each)

branches_alike : {N M : ℕ} {old new : List ℕ} {ts us : Terms} → EachAlike N M old new ts us → Alike N M old new (together ts) (together us)
branches_alike {N = N} {M = M} {old = old} {new = new} {ts = ts} {us = us} a = by (all_finished ts) (all_finished us) (ends_alike a)
  where
    by : (b c : Bool) → b ≡ c → Alike N M old new (if b then finished else in_parallel ts) (if c then finished else in_parallel us)
    by true true e = both_finished
    by true false e = absurd (cc e)
    by false true e = absurd (cc e)
    by false false e = both_in_parallel a

mutual
  pub image : {N M : ℕ} {old new : List ℕ} {t u : Term} → Alike N M old new t u → (a : Place) (p : Process) → statement_at t a ≡ Some p →
      Image N M old new t u a p
  image both_finished a p h = absurd (cc h)
  image {N = N} {M = M} {old = old} {new = new} (both_active {p = r} {q = q} s) here p h =
      let e : r ≡ p = cc h in
      subst (λ z. Image N M old new (active r) (active q) here z) e
      (record { place = here; process = q; on = refl; pair = pair_same s; placed = refl; put = λ old' new' l m f g a. a })
  image (both_active s) (in_first a) p h = absurd (cc h)
  image (both_active s) (in_branch k a) p h = absurd (cc h)
  image {N = N} {M = M} {old = old} {new = new} (at_first {x = x} {h = k} {at = at} {e = f} i) here p h =
      let e : assigning x at f ≡ p = cc h in
      subst (λ z. Image N M old new (active (assigning x at f))
      (in_sequence (active (assigning k at f)) (and_member (assigning x at (read_through k f at)) no_members)) here z) e
      (record {
        place = in_first here;
        process = assigning k at f;
        on = refl;
        pair = pair_first i;
        placed = refl;
        put = λ old' new' l m f g a. a;
      })
  image (at_first i) (in_first a) p h = absurd (cc h)
  image (at_first i) (in_branch k a) p h = absurd (cc h)
  image {N = N} {M = M} {old = old} {new = new} (at_second {x = x} {h = k} {at = at} {e = f} i v) here p h =
      let e : assigning x at f ≡ p = cc h in
      subst (λ z. Image N M old new (active (assigning x at f)) (active (assigning x at (read_through k f at))) here z) e
      (record {
        place = here;
        process = assigning x at (read_through k f at);
        on = refl;
        pair = pair_second i v;
        placed = refl;
        put = λ old' new' l m f g a. a;
      })
  image (at_second i v) (in_first a) p h = absurd (cc h)
  image (at_second i v) (in_branch k a) p h = absurd (cc h)
  image (both_in_sequence a ms) here p h = absurd (cc h)
  image (both_in_sequence a ms) (in_branch k b) p h = absurd (cc h)
  image (both_in_sequence a ms) (in_first b) p h =
      let r = image a b p h in
      record {
        place = in_first r.place;
        process = r.process;
        on = r.on;
        pair = r.pair;
        placed = placed_in r.pair b r.place r.placed;
        put = λ old' new' l m f g x. followed_alike
            (r.put old' new' l m (λ w p n on. f (in_first w) p (λ e. n (cc e)) on) (λ w p n on. g (in_first w) p (λ e. n (cc e)) on) x) ms;
      }
  image (both_in_parallel a) here p h = absurd (cc h)
  image (both_in_parallel a) (in_first b) p h = absurd (cc h)
  image (both_in_parallel a) (in_branch k b) p h =
      let r = branch_image a k b p h in
      record {
        place = in_branch k r.place;
        process = r.process;
        on = r.on;
        pair = r.pair;
        placed = placed_beside r.pair k b r.place r.placed;
        put = λ old' new' l m f g x. branches_alike
            (r.put old' new' l m (λ j w p n on. f (in_branch j w) p n on) (λ j w p n on. g (in_branch j w) p n on) x);
      }

  branch_image : {N M : ℕ} {old new : List ℕ} {ts us : Terms} → EachAlike N M old new ts us → (k : ℕ) (a : Place) (p : Process) → branch_at ts k a ≡ Some p →
      BranchImage N M old new ts us k a p
  branch_image alike_none k b p h = absurd (cc h)
  branch_image (alike_more a each) zero b p h =
      let r = image a b p h in
      record {
        place = r.place;
        process = r.process;
        on = r.on;
        pair = r.pair;
        placed = r.placed;
        put = λ old' new' l m f g x. alike_more
            (r.put old' new' l m (λ w p n on. f zero w p (λ e. n (cc e)) on) (λ w p n on. g zero w p (λ e. n (cc e)) on) x)
            (each_still old' new' each (λ j w p on. f (suc j) w p (λ e. absurd (cc e)) on) (λ j w p on. g (suc j) w p (λ e. absurd (cc e)) on));
      }
  branch_image (alike_more a each) (suc k) b p h =
      let r = branch_image each k b p h in
      record {
        place = r.place;
        process = r.process;
        on = r.on;
        pair = r.pair;
        placed = r.placed;
        put = λ old' new' l m f g x. alike_more
            (alike_still old' new' a (λ w p on. f zero w p (λ e. absurd (cc e)) on) (λ w p on. g zero w p (λ e. absurd (cc e)) on))
            (r.put old' new' l m (λ j w p n on. f (suc j) w p (λ e. n (cc e)) on) (λ j w p n on. g (suc j) w p (λ e. n (cc e)) on) x);
      }

-- an assignment at a place, whatever it says
pub record Assigns (t : Term) (a : Place) : Type 0 where
  pub var : ℕ
  pub at : Span
  pub from : Formula
  pub on : statement_at t a ≡ Some (assigning var at from)

record BranchAssigns (ts : Terms) (k : ℕ) (a : Place) : Type 0 where
  var : ℕ
  at : Span
  from : Formula
  on : branch_at ts k a ≡ Some (assigning var at from)

-- behind a first half the second one is active
mutual
  pub next_half : {N M : ℕ} {old new : List ℕ} {t u : Term} → Alike N M old new t u → (a : Place) {p q : Process} → statement_at t a ≡ Some p
      → statement_at u (inside a) ≡ Some q → Assigns (with_left u (inside a) finished) a
  next_half both_finished a g h = absurd (cc g)
  next_half (both_active s) here g h = absurd (cc h)
  next_half (both_active s) (in_first a) g h = absurd (cc g)
  next_half (both_active s) (in_branch k a) g h = absurd (cc g)
  next_half (at_first {x = x} {h = k} {at = at} {e = e} i) here g h = record { var = x; at = at; from = read_through k e at; on = refl }
  next_half (at_first i) (in_first a) g h = absurd (cc g)
  next_half (at_first i) (in_branch k a) g h = absurd (cc g)
  next_half (at_second i v) here g h = absurd (cc h)
  next_half (at_second i v) (in_first a) g h = absurd (cc g)
  next_half (at_second i v) (in_branch k a) g h = absurd (cc g)
  next_half (both_in_sequence a ms) here g h = absurd (cc g)
  next_half (both_in_sequence {u = u} {qs = qs} a ms) (in_first b) g h =
      let r = next_half a b g h in
      let s = assigning r.var r.at r.from in
      record {
        var = r.var;
        at = r.at;
        from = r.from;
        on = ap (λ x. statement_at x (in_first b)) (followed_on (with_left u (inside b) finished) qs b s r.on) ∙ r.on;
      }
  next_half (both_in_sequence a ms) (in_branch k b) g h = absurd (cc g)
  next_half (both_in_parallel a) here g h = absurd (cc g)
  next_half (both_in_parallel a) (in_first b) g h = absurd (cc g)
  next_half (both_in_parallel {us = us} a) (in_branch k b) g h =
      let r = next_branch a k b g h in
      let s = assigning r.var r.at r.from in
      record {
        var = r.var;
        at = r.at;
        from = r.from;
        on = ap (λ x. statement_at x (in_branch k b)) (together_on (with_branch us k (inside b) finished) k b s r.on) ∙ r.on;
      }

  next_branch : {N M : ℕ} {old new : List ℕ} {ts us : Terms} → EachAlike N M old new ts us → (k : ℕ) (a : Place) {p q : Process} → branch_at ts k a ≡ Some p
      → branch_at us k (inside a) ≡ Some q → BranchAssigns (with_branch us k (inside a) finished) k a
  next_branch alike_none k b g h = absurd (cc g)
  next_branch (alike_more a each) zero b g h = let r = next_half a b g h in record { var = r.var; at = r.at; from = r.from; on = r.on }
  next_branch (alike_more a each) (suc k) b g h = let r = next_branch each k b g h in record { var = r.var; at = r.at; from = r.from; on = r.on }
