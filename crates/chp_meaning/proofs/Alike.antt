-- What is left of a program beside what is left of it in halves.
use Rattle.std.proofs.Common.{◌≡◌, ◌≢◌, ℕ, zero, suc, ◌<◌, ◌≤◌, Bool, true, false, List, refl, sym, ap, ◌∙◌, subst, inr}
use Rattle.std.specs.Prelude.{if◌then◌else◌, ◌&&◌, slice_index, Some}
use Rattle.chp_base.specs.declared.span.Span.{Span}
use Rattle.width_check.specs.Processes.{Formula, Process, skipping, assigning, sending, receiving, in_turn, side_by_side, choosing, repeating, Processes, no_members, and_member, Choices, no_choices, and_choice}
use Rattle.width_check.specs.Values.{value, IsWellFormed}
use Rattle.width_check.specs.Sharing.{reads_var, done_at, reads_of, occurrences}
use Rattle.chp_meaning.specs.Terms.{Term, Terms, finished, active, in_sequence, in_parallel, no_branches, and_branch, is_finished, all_finished, together, opened, opened_turn, opened_each, followed, Place, here, in_first, in_branch, statement_at, branch_at, with_left, with_branch}
use Rattle.chp_meaning.specs.Halves.{read_through, in_halves}
use Rattle.chp_meaning.proofs.Places.{In, followed_on, together_on}
use Rattle.chp_meaning.proofs.Moves.{Agree, value_same}

-- only variables below this number are read
abbrev pub ReadsBelow : ℕ → Formula → Type 0
ReadsBelow n e = (x : ℕ) (at : Span) → In (reads_of e) (done_at (reads_var x) at) → x < n

-- x := e may be h := e; x := h, where numbers below N are declared, and those from there on below M are hidden
pub record Halving (N M x h : ℕ) (e : Formula) : Type 0 where
  pub target : x < N
  pub below : ReadsBelow N e
  pub hidden : N ≤ h
  pub within : h < M
  pub formed : IsWellFormed e

mutual
  pub data Same (N M : ℕ) : Process → Process → Type 0 where
    same_skip : Same N M skipping skipping
    same_assign : {x : ℕ} {at : Span} {e : Formula} → x < N → ReadsBelow N e → Same N M (assigning x at e) (assigning x at e)
    same_send : {k : ℕ} {at : Span} {e : Formula} → ReadsBelow N e → Same N M (sending k at e) (sending k at e)
    same_receive : {k x : ℕ} {s t : Span} → x < N → Same N M (receiving k s x t) (receiving k s x t)
    same_turn : {ps qs : Processes} → EachLike N M ps qs → Same N M (in_turn ps) (in_turn qs)
    same_beside : {ps qs : Processes} → EachLike N M ps qs → Same N M (side_by_side ps) (side_by_side qs)
    same_choice : {again : Bool} {cs ds : Choices} → ChoicesLike N M cs ds → Same N M (choosing again cs) (choosing again ds)
    same_repeat : {p q : Process} → Like N M p q → Same N M (repeating p) (repeating q)

  pub data Like (N M : ℕ) : Process → Process → Type 0 where
    alone : {p q : Process} → Same N M p q → Like N M p q
    halves : {x h : ℕ} {at : Span} {e : Formula} → Halving N M x h e → Like N M (assigning x at e) (in_halves h x at e)

  pub data EachLike (N M : ℕ) : Processes → Processes → Type 0 where
    each_none : EachLike N M no_members no_members
    each_more : {p q : Process} {ps qs : Processes} → Like N M p q → EachLike N M ps qs → EachLike N M (and_member p ps) (and_member q qs)

  pub data ChoicesLike (N M : ℕ) : Choices → Choices → Type 0 where
    choice_none : ChoicesLike N M no_choices no_choices
    choice_more : {g : Formula} {p q : Process} {cs ds : Choices} → ReadsBelow N g → Like N M p q → ChoicesLike N M cs ds →
        ChoicesLike N M (and_choice g p cs) (and_choice g q ds)

-- Between the halves the program's assignment is still to come, and the hidden variable has the value that it will give.
mutual
  pub data Alike (N M : ℕ) (old new : List ℕ) : Term → Term → Type 0 where
    both_finished : Alike N M old new finished finished
    both_active : {p q : Process} → Same N M p q → Alike N M old new (active p) (active q)
    at_first : {x h : ℕ} {at : Span} {e : Formula} → Halving N M x h e →
        Alike N M old new (active (assigning x at e)) (in_sequence (active (assigning h at e)) (and_member (assigning x at (read_through h e at)) no_members))
    at_second : {x h : ℕ} {at : Span} {e : Formula} → Halving N M x h e → value (slice_index new) (read_through h e at) ≡ value (slice_index old) e →
        Alike N M old new (active (assigning x at e)) (active (assigning x at (read_through h e at)))
    both_in_sequence : {t u : Term} {ps qs : Processes} → Alike N M old new t u → EachLike N M ps qs → Alike N M old new (in_sequence t ps) (in_sequence u qs)
    both_in_parallel : {ts us : Terms} → EachAlike N M old new ts us → Alike N M old new (in_parallel ts) (in_parallel us)

  pub data EachAlike (N M : ℕ) (old new : List ℕ) : Terms → Terms → Type 0 where
    alike_none : EachAlike N M old new no_branches no_branches
    alike_more : {t u : Term} {ts us : Terms} → Alike N M old new t u → EachAlike N M old new ts us → EachAlike N M old new (and_branch t ts) (and_branch u us)

-- alike terms end together

finished_alike : {N M : ℕ} {old new : List ℕ} {t u : Term} → Alike N M old new t u → is_finished t ≡ is_finished u
finished_alike both_finished = refl
finished_alike (both_active s) = refl
finished_alike (at_first h) = refl
finished_alike (at_second h v) = refl
finished_alike (both_in_sequence a ms) = refl
finished_alike (both_in_parallel a) = refl

all_alike : {N M : ℕ} {old new : List ℕ} {ts us : Terms} → EachAlike N M old new ts us → all_finished ts ≡ all_finished us
all_alike alike_none = refl
all_alike (alike_more {t = t} {u = u} {ts = ts} {us = us} a each) = ap (λ b. b && all_finished ts) (finished_alike a)
    ∙ ap (λ b. is_finished u && b) (all_alike each)

pub ends_alike : {N M : ℕ} {old new : List ℕ} {t u : Term} → Alike N M old new t u → t ≡ finished → u ≡ finished
ends_alike both_finished e = refl
ends_alike (both_active s) e = absurd (cc e)
ends_alike (at_first h) e = absurd (cc e)
ends_alike (at_second h v) e = absurd (cc e)
ends_alike (both_in_sequence a ms) e = absurd (cc e)
ends_alike (both_in_parallel a) e = absurd (cc e)

pub ends_before : {N M : ℕ} {old new : List ℕ} {t u : Term} → Alike N M old new t u → u ≡ finished → t ≡ finished
ends_before both_finished e = refl
ends_before (both_active s) e = absurd (cc e)
ends_before (at_first h) e = absurd (cc e)
ends_before (at_second h v) e = absurd (cc e)
ends_before (both_in_sequence a ms) e = absurd (cc e)
ends_before (both_in_parallel a) e = absurd (cc e)

together_alike : {N M : ℕ} {old new : List ℕ} {ts us : Terms} → EachAlike N M old new ts us → Alike N M old new (together ts) (together us)
together_alike {N = N} {M = M} {old = old} {new = new} {ts = ts} {us = us} a = by_test (all_finished ts) (all_finished us) (all_alike a)
  where
    by_test : (b c : Bool) → b ≡ c → Alike N M old new (if b then finished else in_parallel ts) (if c then finished else in_parallel us)
    by_test true true e = both_finished
    by_test true false e = absurd (cc e)
    by_test false true e = absurd (cc e)
    by_test false false e = both_in_parallel a

-- statements as terms
mutual
  same_opened : {N M : ℕ} {old new : List ℕ} {p q : Process} → Same N M p q → Alike N M old new (opened p) (opened q)
  same_opened same_skip = both_active same_skip
  same_opened (same_assign x r) = both_active (same_assign x r)
  same_opened (same_send r) = both_active (same_send r)
  same_opened (same_receive x) = both_active (same_receive x)
  same_opened (same_turn each) = turn_opened each
  same_opened (same_beside each) = together_alike (each_opened each)
  same_opened (same_choice cs) = both_active (same_choice cs)
  same_opened (same_repeat l) = both_active (same_repeat l)

  pub like_opened : {N M : ℕ} {old new : List ℕ} {p q : Process} → Like N M p q → Alike N M old new (opened p) (opened q)
  like_opened (alone s) = same_opened s
  like_opened (halves h) = at_first h

  turn_opened : {N M : ℕ} {old new : List ℕ} {ps qs : Processes} → EachLike N M ps qs → Alike N M old new (opened_turn ps) (opened_turn qs)
  turn_opened each_none = both_finished
  turn_opened (each_more l each_none) = like_opened l
  turn_opened (each_more l (each_more m rest)) = both_in_sequence (like_opened l) (each_more m rest)

  each_opened : {N M : ℕ} {old new : List ℕ} {ps qs : Processes} → EachLike N M ps qs → EachAlike N M old new (opened_each ps) (opened_each qs)
  each_opened each_none = alike_none
  each_opened (each_more l rest) = alike_more (like_opened l) (each_opened rest)

pub followed_alike : {N M : ℕ} {old new : List ℕ} {t u : Term} {ps qs : Processes} → Alike N M old new t u → EachLike N M ps qs →
    Alike N M old new (followed t ps) (followed u qs)
followed_alike both_finished each = turn_opened each
followed_alike (both_active s) each = both_in_sequence (both_active s) each
followed_alike (at_first h) each = both_in_sequence (at_first h) each
followed_alike (at_second h v) each = both_in_sequence (at_second h v) each
followed_alike (both_in_sequence a ms) each = both_in_sequence (both_in_sequence a ms) each
followed_alike (both_in_parallel a) each = both_in_sequence (both_in_parallel a) each

-- other stores, in which the active statements read the same
abbrev AllKept : List ℕ → List ℕ → Term → Type 0
AllKept store now t = (w : Place) (p : Process) → statement_at t w ≡ Some p → Agree (slice_index now) (slice_index store) (occurrences p)

abbrev pub OthersKept : List ℕ → List ℕ → Term → Place → Type 0
OthersKept store now t a = (w : Place) (p : Process) → w ≢ a → statement_at t w ≡ Some p → Agree (slice_index now) (slice_index store) (occurrences p)

abbrev EachKept : List ℕ → List ℕ → Terms → Type 0
EachKept store now ts = (j : ℕ) (w : Place) (p : Process) → branch_at ts j w ≡ Some p → Agree (slice_index now) (slice_index store) (occurrences p)

abbrev OtherBranchesKept : List ℕ → List ℕ → Terms → ℕ → Place → Type 0
OtherBranchesKept store now ts k a = (j : ℕ) (w : Place) (p : Process) → in_branch j w ≢ in_branch k a → branch_at ts j w ≡ Some p →
    Agree (slice_index now) (slice_index store) (occurrences p)

mutual
  framed : {N M : ℕ} {old new : List ℕ} {t u : Term} (old' new' : List ℕ) → Alike N M old new t u → AllKept old old' t → AllKept new new' u →
      Alike N M old' new' t u
  framed old' new' both_finished f g = both_finished
  framed old' new' (both_active s) f g = both_active s
  framed old' new' (at_first h) f g = at_first h
  framed {old = old} {new = new} old' new' (at_second {x = x} {h = k} {at = at} {e = e} h v) f g =
      at_second h (value_same (slice_index new') (slice_index new) (read_through k e at) (λ y s i. g here _ refl y s (inr i))
      ∙ (v ∙ sym (value_same (slice_index old') (slice_index old) e (λ y s i. f here _ refl y s (inr i)))))
  framed old' new' (both_in_sequence a ms) f g = both_in_sequence (framed old' new' a (λ w p h. f (in_first w) p h) (λ w p h. g (in_first w) p h)) ms
  framed old' new' (both_in_parallel a) f g = both_in_parallel (each_framed old' new' a (λ j w p h. f (in_branch j w) p h) (λ j w p h. g (in_branch j w) p h))

  each_framed : {N M : ℕ} {old new : List ℕ} {ts us : Terms} (old' new' : List ℕ) → EachAlike N M old new ts us → EachKept old old' ts → EachKept new new' us →
      EachAlike N M old' new' ts us
  each_framed old' new' alike_none f g = alike_none
  each_framed old' new' (alike_more a each) f g =
      alike_more (framed old' new' a (λ w p h. f zero w p h) (λ w p h. g zero w p h))
      (each_framed old' new' each (λ j w p h. f (suc j) w p h) (λ j w p h. g (suc j) w p h))

-- two statements that are active at the same time
pub data Pair (N M : ℕ) (old new : List ℕ) : Process → Process → Type 0 where
  pair_same : {p q : Process} → Same N M p q → Pair N M old new p q
  pair_first : {x h : ℕ} {at : Span} {e : Formula} → Halving N M x h e → Pair N M old new (assigning x at e) (assigning h at e)
  pair_second : {x h : ℕ} {at : Span} {e : Formula} → Halving N M x h e → value (slice_index new) (read_through h e at) ≡ value (slice_index old) e →
      Pair N M old new (assigning x at e) (assigning x at (read_through h e at))

-- behind a first half comes the second one
abbrev pub behind : {N M : ℕ} {old new : List ℕ} {p q : Process} → Pair N M old new p q → Term → Term
behind (pair_same s) l = l
behind (pair_first {x = x} {h = k} {at = at} {e = e} h) l = followed l (and_member (assigning x at (read_through k e at)) no_members)
behind (pair_second h v) l = l

-- the program's statement that goes with the one at the place, and what may be put for both
pub record Found (N M : ℕ) (old new : List ℕ) (t u : Term) (b : Place) (q : Process) : Type 0 where
  pub place : Place
  pub process : Process
  pub on : statement_at t place ≡ Some process
  pub pair : Pair N M old new process q
  pub put : (old' new' : List ℕ) (l m : Term) → OthersKept old old' t place → OthersKept new new' u b → Alike N M old' new' l (behind pair m) →
      Alike N M old' new' (with_left t place l) (with_left u b m)

pub record FoundBranch (N M : ℕ) (old new : List ℕ) (ts us : Terms) (k : ℕ) (b : Place) (q : Process) : Type 0 where
  pub place : Place
  pub process : Process
  pub on : branch_at ts k place ≡ Some process
  pub pair : Pair N M old new process q
  pub put : (old' new' : List ℕ) (l m : Term) → OtherBranchesKept old old' ts k place → OtherBranchesKept new new' us k b →
      Alike N M old' new' l (behind pair m) → EachAlike N M old' new' (with_branch ts k place l) (with_branch us k b m)

mutual
  pub find : {N M : ℕ} {old new : List ℕ} {t u : Term} → Alike N M old new t u → (b : Place) (q : Process) → statement_at u b ≡ Some q →
      Found N M old new t u b q
  find both_finished b q h = absurd (cc h)
  find {N = N} {M = M} {old = old} {new = new} (both_active {p = p} {q = r} s) here q h =
      let e : r ≡ q = cc h in
      subst (λ z. Found N M old new (active p) (active r) here z) e (record {
        place = here;
        process = p;
        on = refl;
        pair = pair_same s;
        put =
            λ old' new' l m f g a. a;
      })
  find (both_active s) (in_first b) q h = absurd (cc h)
  find (both_active s) (in_branch k b) q h = absurd (cc h)
  find (at_first i) here q h = absurd (cc h)
  find {N = N} {M = M} {old = old} {new = new} (at_first {x = x} {h = k} {at = at} {e = f} i) (in_first here) q h =
      let e : assigning k at f ≡ q = cc h in
      subst (λ z. Found N M old new (active (assigning x at f))
      (in_sequence (active (assigning k at f)) (and_member (assigning x at (read_through k f at)) no_members)) (in_first here) z) e
      (record { place = here; process = assigning x at f; on = refl; pair = pair_first i; put = λ old' new' l m f g a. a })
  find (at_first i) (in_first (in_first b)) q h = absurd (cc h)
  find (at_first i) (in_first (in_branch k b)) q h = absurd (cc h)
  find (at_first i) (in_branch k b) q h = absurd (cc h)
  find {N = N} {M = M} {old = old} {new = new} (at_second {x = x} {h = k} {at = at} {e = f} i v) here q h =
      let e : assigning x at (read_through k f at) ≡ q = cc h in
      subst (λ z. Found N M old new (active (assigning x at f)) (active (assigning x at (read_through k f at))) here z) e
      (record { place = here; process = assigning x at f; on = refl; pair = pair_second i v; put = λ old' new' l m f g a. a })
  find (at_second i v) (in_first b) q h = absurd (cc h)
  find (at_second i v) (in_branch k b) q h = absurd (cc h)
  find (both_in_sequence a ms) here q h = absurd (cc h)
  find (both_in_sequence a ms) (in_branch k b) q h = absurd (cc h)
  find (both_in_sequence a ms) (in_first b) q h =
      let r = find a b q h in
      record {
        place = in_first r.place;
        process = r.process;
        on = r.on;
        pair = r.pair;
        put = λ old' new' l m f g x. followed_alike
            (r.put old' new' l m (λ w p n on. f (in_first w) p (λ e. n (cc e)) on) (λ w p n on. g (in_first w) p (λ e. n (cc e)) on) x) ms;
      }
  find (both_in_parallel a) here q h = absurd (cc h)
  find (both_in_parallel a) (in_first b) q h = absurd (cc h)
  find (both_in_parallel a) (in_branch k b) q h =
      let r = find_branch a k b q h in
      record {
        place = in_branch k r.place;
        process = r.process;
        on = r.on;
        pair = r.pair;
        put = λ old' new' l m f g x. together_alike (r.put old' new' l m (λ j w p n on. f (in_branch j w) p n on) (λ j w p n on. g (in_branch j w) p n on) x);
      }

  find_branch : {N M : ℕ} {old new : List ℕ} {ts us : Terms} → EachAlike N M old new ts us → (k : ℕ) (b : Place) (q : Process) → branch_at us k b ≡ Some q →
      FoundBranch N M old new ts us k b q
  find_branch alike_none k b q h = absurd (cc h)
  find_branch (alike_more a each) zero b q h =
      let r = find a b q h in
      record {
        place = r.place;
        process = r.process;
        on = r.on;
        pair = r.pair;
        put = λ old' new' l m f g x. alike_more
            (r.put old' new' l m (λ w p n on. f zero w p (λ e. n (cc e)) on) (λ w p n on. g zero w p (λ e. n (cc e)) on) x)
            (each_framed old' new' each (λ j w p on. f (suc j) w p (λ e. absurd (cc e)) on) (λ j w p on. g (suc j) w p (λ e. absurd (cc e)) on));
      }
  find_branch (alike_more a each) (suc k) b q h =
      let r = find_branch each k b q h in
      record {
        place = r.place;
        process = r.process;
        on = r.on;
        pair = r.pair;
        put = λ old' new' l m f g x. alike_more
            (framed old' new' a (λ w p on. f zero w p (λ e. absurd (cc e)) on) (λ w p on. g zero w p (λ e. absurd (cc e)) on))
            (r.put old' new' l m (λ j w p n on. f (suc j) w p (λ e. n (cc e)) on) (λ j w p n on. g (suc j) w p (λ e. n (cc e)) on) x);
      }

-- the other way round: the statement that goes with one of the program
pub record Standing (N M : ℕ) (old new : List ℕ) (u : Term) (p : Process) : Type 0 where
  pub place : Place
  pub process : Process
  pub on : statement_at u place ≡ Some process
  pub pair : Pair N M old new p process

pub record StandingBranch (N M : ℕ) (old new : List ℕ) (us : Terms) (k : ℕ) (p : Process) : Type 0 where
  pub place : Place
  pub process : Process
  pub on : branch_at us k place ≡ Some process
  pub pair : Pair N M old new p process

mutual
  pub standing : {N M : ℕ} {old new : List ℕ} {t u : Term} → Alike N M old new t u → (a : Place) (p : Process) → statement_at t a ≡ Some p →
      Standing N M old new u p
  standing both_finished a p h = absurd (cc h)
  standing {N = N} {M = M} {old = old} {new = new} (both_active {p = r} {q = q} s) here p h =
      let e : r ≡ p = cc h in
      subst (λ z. Standing N M old new (active q) z) e (record { place = here; process = q; on = refl; pair = pair_same s })
  standing (both_active s) (in_first a) p h = absurd (cc h)
  standing (both_active s) (in_branch k a) p h = absurd (cc h)
  standing {N = N} {M = M} {old = old} {new = new} (at_first {x = x} {h = k} {at = at} {e = f} i) here p h =
      let e : assigning x at f ≡ p = cc h in
      subst (λ z. Standing N M old new (in_sequence (active (assigning k at f)) (and_member (assigning x at (read_through k f at)) no_members)) z) e
      (record { place = in_first here; process = assigning k at f; on = refl; pair = pair_first i })
  standing (at_first i) (in_first a) p h = absurd (cc h)
  standing (at_first i) (in_branch k a) p h = absurd (cc h)
  standing {N = N} {M = M} {old = old} {new = new} (at_second {x = x} {h = k} {at = at} {e = f} i v) here p h =
      let e : assigning x at f ≡ p = cc h in
      subst (λ z. Standing N M old new (active (assigning x at (read_through k f at))) z) e
      (record {
        place = here;
        process = assigning x at (read_through k f at);
        on = refl;
        pair = pair_second i v;
      })
  standing (at_second i v) (in_first a) p h = absurd (cc h)
  standing (at_second i v) (in_branch k a) p h = absurd (cc h)
  standing (both_in_sequence a ms) here p h = absurd (cc h)
  standing (both_in_sequence a ms) (in_branch k b) p h = absurd (cc h)
  standing (both_in_sequence a ms) (in_first b) p h = let r = standing a b p h in
      record { place = in_first r.place; process = r.process; on = r.on; pair = r.pair }
  standing (both_in_parallel a) here p h = absurd (cc h)
  standing (both_in_parallel a) (in_first b) p h = absurd (cc h)
  standing (both_in_parallel a) (in_branch k b) p h = let r = standing_branch a k b p h in
      record { place = in_branch k r.place; process = r.process; on = r.on; pair = r.pair }

  standing_branch : {N M : ℕ} {old new : List ℕ} {ts us : Terms} → EachAlike N M old new ts us → (k : ℕ) (a : Place) (p : Process) → branch_at ts k a ≡ Some p →
      StandingBranch N M old new us k p
  standing_branch alike_none k b p h = absurd (cc h)
  standing_branch (alike_more a each) zero b p h = let r = standing a b p h in record { place = r.place; process = r.process; on = r.on; pair = r.pair }
  standing_branch (alike_more a each) (suc k) b p h = let r = standing_branch each k b p h in
      record { place = r.place; process = r.process; on = r.on; pair = r.pair }

-- to put an active statement where it is changes nothing
mutual
  pub put_back : (t : Term) (a : Place) (p : Process) → statement_at t a ≡ Some p → with_left t a (active p) ≡ t
  put_back finished a p h = absurd (cc h)
  put_back (active q) here p h = let e : q ≡ p = cc h in ap active (sym e)
  put_back (active q) (in_first a) p h = absurd (cc h)
  put_back (active q) (in_branch k a) p h = absurd (cc h)
  put_back (in_sequence t more) here p h = absurd (cc h)
  put_back (in_sequence t more) (in_branch k a) p h = absurd (cc h)
  put_back (in_sequence t more) (in_first a) p h = ap (λ x. followed x more) (put_back t a p h) ∙ followed_on t more a p h
  put_back (in_parallel ts) here p h = absurd (cc h)
  put_back (in_parallel ts) (in_first a) p h = absurd (cc h)
  put_back (in_parallel ts) (in_branch k a) p h = ap together (branch_put_back ts k a p h) ∙ together_on ts k a p h

  branch_put_back : (ts : Terms) (k : ℕ) (a : Place) (p : Process) → branch_at ts k a ≡ Some p → with_branch ts k a (active p) ≡ ts
  branch_put_back no_branches k a p h = absurd (cc h)
  branch_put_back (and_branch t more) zero a p h = ap (λ x. and_branch x more) (put_back t a p h)
  branch_put_back (and_branch t more) (suc k) a p h = ap (λ x. and_branch t x) (branch_put_back more k a p h)
