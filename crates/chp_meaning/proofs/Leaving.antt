-- What is left at several places of a term, place by place and all at once.
use Rattle.std.proofs.Common.{◌≡◌, ◌≢◌, ◌⊎◌, ℕ, zero, suc, false, List, [], ◌∷◌, refl, sym, ap, ◌∙◌, subst, inl, inr}
use Rattle.std.specs.Prelude.{if◌then◌else◌, Some}
use Rattle.width_check.specs.Processes.{Process, Processes}
use Rattle.chp_meaning.specs.Terms.{Term, Terms, finished, active, in_sequence, in_parallel, no_branches, and_branch, is_finished, all_finished, together, followed, Place, here, in_first, in_branch, statement_at, branch_at, with_left, with_branch}
use Rattle.chp_meaning.proofs.Places.{same_place, still, branch_still, followed_on, together_on, term_on, branches_on}

-- this is left at this place
pub data Part : Type 0 where
  part : Place → Term → Part

abbrev pub leave_all : Term → List Part → Term
leave_all t [] = t
leave_all t (part a l ∷ xs) = leave_all (with_left t a l) xs

-- statements are active at all of the places, and no place stands twice
abbrev pub Stand : Term → List Part → Type 0
Stand t [] = Unit {0}
Stand t (part a l ∷ xs) = ((q : Process) × (statement_at t a ≡ Some q)) × Stand t xs

abbrev pub Other : Place → List Part → Type 0
Other a [] = Unit {0}
Other a (part b l ∷ xs) = (a ≢ b) × Other a xs

abbrev pub Single : List Part → Type 0
Single [] = Unit {0}
Single (part a l ∷ xs) = Other a xs × Single xs

-- what is left at a place
abbrev pub or_else : {a b : Place} → (b ≡ a) ⊎ (b ≢ a) → Term → Term → Term
or_else (inl e) l other = l
or_else (inr n) l other = other

abbrev pub at_or : List Part → Place → Term → Term
at_or [] a other = other
at_or (part b l ∷ xs) a other = or_else (same_place b a) l (at_or xs a other)

-- the others still stand
pub stand_on : (t : Term) (a : Place) (l : Term) (xs : List Part) → Other a xs → Stand t xs → Stand (with_left t a l) xs
stand_on t a l [] o s = tt
stand_on t a l (part b m ∷ xs) o s = ((s.0.0, still t a b l s.0.0 o.0 s.0.1), stand_on t a l xs o.1 s.1)

-- a term of which each sequence and each parallel composition goes on
abbrev mutual
  pub Lively : Term → Type 0
  Lively finished = Unit {0}
  Lively (active p) = Unit {0}
  Lively (in_sequence t more) = (is_finished t ≡ false) × Lively t
  Lively (in_parallel ts) = (all_finished ts ≡ false) × EachLively ts

  pub EachLively : Terms → Type 0
  EachLively no_branches = Unit {0}
  EachLively (and_branch t more) = Lively t × EachLively more

-- below a sequence

abbrev first_parts : List Part → List Part
first_parts [] = []
first_parts (part (in_first a) l ∷ xs) = part a l ∷ first_parts xs
first_parts (part here l ∷ xs) = first_parts xs
first_parts (part (in_branch k a) l ∷ xs) = first_parts xs

unfinished : (t : Term) (more : Processes) → is_finished t ≡ false → followed t more ≡ in_sequence t more
unfinished finished more h = absurd (cc h)
unfinished (active p) more h = refl
unfinished (in_sequence t ms) more h = refl
unfinished (in_parallel ts) more h = refl

first_stand : (t : Term) (more : Processes) (xs : List Part) → Stand (in_sequence t more) xs → Stand t (first_parts xs)
first_stand t more [] s = tt
first_stand t more (part here l ∷ xs) s = absurd (cc s.0.1)
first_stand t more (part (in_branch k a) l ∷ xs) s = absurd (cc s.0.1)
first_stand t more (part (in_first a) l ∷ xs) s = (s.0, first_stand t more xs s.1)

first_other : (a : Place) (xs : List Part) → Other (in_first a) xs → Other a (first_parts xs)
first_other a [] o = tt
first_other a (part here l ∷ xs) o = first_other a xs o.1
first_other a (part (in_branch k b) l ∷ xs) o = first_other a xs o.1
first_other a (part (in_first b) l ∷ xs) o = (λ e. o.0 (ap in_first e), first_other a xs o.1)

first_single : (xs : List Part) → Single xs → Single (first_parts xs)
first_single [] s = tt
first_single (part here l ∷ xs) s = first_single xs s.1
first_single (part (in_branch k a) l ∷ xs) s = first_single xs s.1
first_single (part (in_first a) l ∷ xs) s = (first_other a xs s.0, first_single xs s.1)

skip_other : {a b : Place} (d : (b ≡ a) ⊎ (b ≢ a)) (l other : Term) → b ≢ a → or_else d l other ≡ other
skip_other (inl e) l other n = absurd (n e)
skip_other (inr m) l other n = refl

take_or : {a b : Place} (d : (b ≡ a) ⊎ (b ≢ a)) (l other : Term) → b ≡ a → or_else d l other ≡ l
take_or (inl e) l other same = refl
take_or (inr n) l other same = absurd (n same)

same_or : {a b c d : Place} (x : (b ≡ a) ⊎ (b ≢ a)) (y : (d ≡ c) ⊎ (d ≢ c)) (l other other' : Term) → (b ≡ a → d ≡ c) → (d ≡ c → b ≡ a) → other ≡ other' →
    or_else x l other ≡ or_else y l other'
same_or (inl e) (inl f) l other other' there back same = refl
same_or (inl e) (inr n) l other other' there back same = absurd (n (there e))
same_or (inr n) (inl f) l other other' there back same = absurd (n (back f))
same_or (inr n) (inr m) l other other' there back same = same

first_at : (xs : List Part) (a : Place) (other : Term) → at_or (first_parts xs) a other ≡ at_or xs (in_first a) other
first_at [] a other = refl
first_at (part here l ∷ xs) a other = first_at xs a other ∙ sym (skip_other (same_place here (in_first a)) l (at_or xs (in_first a) other) (λ e. absurd (cc e)))
first_at (part (in_branch k b) l ∷ xs) a other =
    first_at xs a other ∙ sym (skip_other (same_place (in_branch k b) (in_first a)) l (at_or xs (in_first a) other) (λ e. absurd (cc e)))
first_at (part (in_first b) l ∷ xs) a other =
    same_or (same_place b a) (same_place (in_first b) (in_first a)) l (at_or (first_parts xs) a other) (at_or xs (in_first a) other) (λ e. ap in_first e)
    (λ e. cc e) (first_at xs a other)

next_sequence : (t : Term) (a : Place) (l : Term) (more : Processes) (rest : List Part) → Other (in_first a) rest → Stand (in_sequence t more) rest
    → ((u : Term) → is_finished u ≡ false → Stand (in_sequence u more) rest →
    leave_all (in_sequence u more) rest ≡ followed (leave_all u (first_parts rest)) more)
    → leave_all (followed (with_left t a l) more) rest ≡ followed (leave_all (with_left t a l) (first_parts rest)) more
next_sequence t a l more [] o s later = refl
next_sequence t a l more (part here m ∷ xs) o s later = absurd (cc s.0.1)
next_sequence t a l more (part (in_branch k b) m ∷ xs) o s later = absurd (cc s.0.1)
next_sequence t a l more (part (in_first b) m ∷ xs) o s later =
    let ne : a ≢ b = λ e. o.0 (ap in_first e) in
    let rest = part (in_first b) m ∷ xs in
    let on = still t a b l s.0.0 ne s.0.1 in
    let goes = followed_on (with_left t a l) more b s.0.0 on in
    let stands = stand_on (in_sequence t more) (in_first a) l rest o s in
    ap (λ x. leave_all x rest) goes ∙ later (with_left t a l) (term_on (with_left t a l) b s.0.0 on) (subst (λ x. Stand x rest) goes stands)

sequence_left : (t : Term) (more : Processes) (xs : List Part) → is_finished t ≡ false → Stand (in_sequence t more) xs → Single xs →
    leave_all (in_sequence t more) xs ≡ followed (leave_all t (first_parts xs)) more
sequence_left t more [] h s d = sym (unfinished t more h)
sequence_left t more (part here l ∷ rest) h s d = absurd (cc s.0.1)
sequence_left t more (part (in_branch k a) l ∷ rest) h s d = absurd (cc s.0.1)
sequence_left t more (part (in_first a) l ∷ rest) h s d = next_sequence t a l more rest d.0 s.1 (λ u g r. sequence_left u more rest g r d.1)

-- below a parallel composition

abbrev leave_branches : Terms → List Part → Terms
leave_branches ts [] = ts
leave_branches ts (part (in_branch k a) l ∷ xs) = leave_branches (with_branch ts k a l) xs
leave_branches ts (part here l ∷ xs) = leave_branches ts xs
leave_branches ts (part (in_first a) l ∷ xs) = leave_branches ts xs

next_parallel : (ts : Terms) (k : ℕ) (a : Place) (l : Term) (rest : List Part) → Other (in_branch k a) rest → Stand (in_parallel ts) rest
    → ((us : Terms) → all_finished us ≡ false → Stand (in_parallel us) rest → leave_all (in_parallel us) rest ≡ together (leave_branches us rest))
    → leave_all (together (with_branch ts k a l)) rest ≡ together (leave_branches (with_branch ts k a l) rest)
next_parallel ts k a l [] o s later = refl
next_parallel ts k a l (part here m ∷ xs) o s later = absurd (cc s.0.1)
next_parallel ts k a l (part (in_first b) m ∷ xs) o s later = absurd (cc s.0.1)
next_parallel ts k a l (part (in_branch j b) m ∷ xs) o s later =
    let rest = part (in_branch j b) m ∷ xs in
    let on = branch_still ts k a j b l s.0.0 o.0 s.0.1 in
    let goes = together_on (with_branch ts k a l) j b s.0.0 on in
    let stands = stand_on (in_parallel ts) (in_branch k a) l rest o s in
    ap (λ x. leave_all x rest) goes ∙ later (with_branch ts k a l) (branches_on (with_branch ts k a l) j b s.0.0 on) (subst (λ x. Stand x rest) goes stands)

parallel_left : (ts : Terms) (xs : List Part) → all_finished ts ≡ false → Stand (in_parallel ts) xs → Single xs →
    leave_all (in_parallel ts) xs ≡ together (leave_branches ts xs)
parallel_left ts [] h s d = sym (ap (λ b. if b then finished else in_parallel ts) h)
parallel_left ts (part here l ∷ rest) h s d = absurd (cc s.0.1)
parallel_left ts (part (in_first a) l ∷ rest) h s d = absurd (cc s.0.1)
parallel_left ts (part (in_branch k a) l ∷ rest) h s d = next_parallel ts k a l rest d.0 s.1 (λ us g r. parallel_left us rest g r d.1)

-- the parts of the first branch, and of the others
abbrev zero_parts : List Part → List Part
zero_parts [] = []
zero_parts (part (in_branch zero a) l ∷ xs) = part a l ∷ zero_parts xs
zero_parts (part (in_branch (suc k) a) l ∷ xs) = zero_parts xs
zero_parts (part here l ∷ xs) = zero_parts xs
zero_parts (part (in_first a) l ∷ xs) = zero_parts xs

abbrev later_parts : List Part → List Part
later_parts [] = []
later_parts (part (in_branch (suc k) a) l ∷ xs) = part (in_branch k a) l ∷ later_parts xs
later_parts (part (in_branch zero a) l ∷ xs) = later_parts xs
later_parts (part here l ∷ xs) = later_parts xs
later_parts (part (in_first a) l ∷ xs) = later_parts xs

branches_left : (t : Term) (more : Terms) (xs : List Part) →
    leave_branches (and_branch t more) xs ≡ and_branch (leave_all t (zero_parts xs)) (leave_branches more (later_parts xs))
branches_left t more [] = refl
branches_left t more (part here l ∷ xs) = branches_left t more xs
branches_left t more (part (in_first a) l ∷ xs) = branches_left t more xs
branches_left t more (part (in_branch zero a) l ∷ xs) = branches_left (with_left t a l) more xs
branches_left t more (part (in_branch (suc k) a) l ∷ xs) = branches_left t (with_branch more k a l) xs

-- of branches
abbrev BranchesStand : Terms → List Part → Type 0
BranchesStand ts [] = Unit {0}
BranchesStand ts (part (in_branch k a) l ∷ xs) = ((q : Process) × (branch_at ts k a ≡ Some q)) × BranchesStand ts xs
BranchesStand ts (part here l ∷ xs) = ⊥
BranchesStand ts (part (in_first a) l ∷ xs) = ⊥

branches_stand : (ts : Terms) (xs : List Part) → Stand (in_parallel ts) xs → BranchesStand ts xs
branches_stand ts [] s = tt
branches_stand ts (part here l ∷ xs) s = absurd (cc s.0.1)
branches_stand ts (part (in_first a) l ∷ xs) s = absurd (cc s.0.1)
branches_stand ts (part (in_branch k a) l ∷ xs) s = (s.0, branches_stand ts xs s.1)

zero_stand : (t : Term) (more : Terms) (xs : List Part) → BranchesStand (and_branch t more) xs → Stand t (zero_parts xs)
zero_stand t more [] s = tt
zero_stand t more (part here l ∷ xs) s = absurd s
zero_stand t more (part (in_first a) l ∷ xs) s = absurd s
zero_stand t more (part (in_branch zero a) l ∷ xs) s = (s.0, zero_stand t more xs s.1)
zero_stand t more (part (in_branch (suc k) a) l ∷ xs) s = zero_stand t more xs s.1

later_stand : (t : Term) (more : Terms) (xs : List Part) → BranchesStand (and_branch t more) xs → BranchesStand more (later_parts xs)
later_stand t more [] s = tt
later_stand t more (part here l ∷ xs) s = absurd s
later_stand t more (part (in_first a) l ∷ xs) s = absurd s
later_stand t more (part (in_branch zero a) l ∷ xs) s = later_stand t more xs s.1
later_stand t more (part (in_branch (suc k) a) l ∷ xs) s = (s.0, later_stand t more xs s.1)

zero_other : (a : Place) (xs : List Part) → Other (in_branch zero a) xs → Other a (zero_parts xs)
zero_other a [] o = tt
zero_other a (part here l ∷ xs) o = zero_other a xs o.1
zero_other a (part (in_first b) l ∷ xs) o = zero_other a xs o.1
zero_other a (part (in_branch zero b) l ∷ xs) o = (λ e. o.0 (ap (in_branch zero) e), zero_other a xs o.1)
zero_other a (part (in_branch (suc k) b) l ∷ xs) o = zero_other a xs o.1

zero_single : (xs : List Part) → Single xs → Single (zero_parts xs)
zero_single [] s = tt
zero_single (part here l ∷ xs) s = zero_single xs s.1
zero_single (part (in_first a) l ∷ xs) s = zero_single xs s.1
zero_single (part (in_branch zero a) l ∷ xs) s = (zero_other a xs s.0, zero_single xs s.1)
zero_single (part (in_branch (suc k) a) l ∷ xs) s = zero_single xs s.1

later_other : (k : ℕ) (a : Place) (xs : List Part) → Other (in_branch (suc k) a) xs → Other (in_branch k a) (later_parts xs)
later_other k a [] o = tt
later_other k a (part here l ∷ xs) o = later_other k a xs o.1
later_other k a (part (in_first b) l ∷ xs) o = later_other k a xs o.1
later_other k a (part (in_branch zero b) l ∷ xs) o = later_other k a xs o.1
later_other k a (part (in_branch (suc j) b) l ∷ xs) o = (λ e. o.0 (cc e), later_other k a xs o.1)

later_single : (xs : List Part) → Single xs → Single (later_parts xs)
later_single [] s = tt
later_single (part here l ∷ xs) s = later_single xs s.1
later_single (part (in_first a) l ∷ xs) s = later_single xs s.1
later_single (part (in_branch zero a) l ∷ xs) s = later_single xs s.1
later_single (part (in_branch (suc k) a) l ∷ xs) s = (later_other k a xs s.0, later_single xs s.1)

zero_at : (xs : List Part) (a : Place) (other : Term) → at_or (zero_parts xs) a other ≡ at_or xs (in_branch zero a) other
zero_at [] a other = refl
zero_at (part here l ∷ xs) a other = zero_at xs a other
    ∙ sym (skip_other (same_place here (in_branch zero a)) l (at_or xs (in_branch zero a) other) (λ e. absurd (cc e)))
zero_at (part (in_first b) l ∷ xs) a other =
    zero_at xs a other ∙ sym (skip_other (same_place (in_first b) (in_branch zero a)) l (at_or xs (in_branch zero a) other) (λ e. absurd (cc e)))
zero_at (part (in_branch zero b) l ∷ xs) a other =
    same_or (same_place b a) (same_place (in_branch zero b) (in_branch zero a)) l (at_or (zero_parts xs) a other) (at_or xs (in_branch zero a) other)
    (λ e. ap (in_branch zero) e) (λ e. cc e) (zero_at xs a other)
zero_at (part (in_branch (suc k) b) l ∷ xs) a other =
    zero_at xs a other ∙ sym (skip_other (same_place (in_branch (suc k) b) (in_branch zero a)) l (at_or xs (in_branch zero a) other) (λ e. absurd (cc e)))

later_at : (xs : List Part) (k : ℕ) (a : Place) (other : Term) → at_or (later_parts xs) (in_branch k a) other ≡ at_or xs (in_branch (suc k) a) other
later_at [] k a other = refl
later_at (part here l ∷ xs) k a other = later_at xs k a other
    ∙ sym (skip_other (same_place here (in_branch (suc k) a)) l (at_or xs (in_branch (suc k) a) other) (λ e. absurd (cc e)))
later_at (part (in_first b) l ∷ xs) k a other =
    later_at xs k a other ∙ sym (skip_other (same_place (in_first b) (in_branch (suc k) a)) l (at_or xs (in_branch (suc k) a) other) (λ e. absurd (cc e)))
later_at (part (in_branch zero b) l ∷ xs) k a other =
    later_at xs k a other ∙ sym (skip_other (same_place (in_branch zero b) (in_branch (suc k) a)) l (at_or xs (in_branch (suc k) a) other) (λ e. absurd (cc e)))
later_at (part (in_branch (suc j) b) l ∷ xs) k a other =
    same_or (same_place (in_branch j b) (in_branch k a)) (same_place (in_branch (suc j) b) (in_branch (suc k) a)) l
    (at_or (later_parts xs) (in_branch k a) other) (at_or xs (in_branch (suc k) a) other) (λ e. cc e) (λ e. cc e) (later_at xs k a other)

-- the term in which this is left of each active statement
abbrev mutual
  pub all_left : (Process → Term) → Term → Term
  all_left f finished = finished
  all_left f (active p) = f p
  all_left f (in_sequence t more) = followed (all_left f t) more
  all_left f (in_parallel ts) = together (each_left f ts)

  pub each_left : (Process → Term) → Terms → Terms
  each_left f no_branches = no_branches
  each_left f (and_branch t more) = and_branch (all_left f t) (each_left f more)

-- what is left in the parts is what the function says
abbrev pub Says : (Process → Term) → Term → List Part → Type 0
Says f t xs = (a : Place) (q : Process) → statement_at t a ≡ Some q → at_or xs a (active q) ≡ f q

abbrev BranchesSay : (Process → Term) → Terms → List Part → Type 0
BranchesSay f ts xs = (k : ℕ) (a : Place) (q : Process) → branch_at ts k a ≡ Some q → at_or xs (in_branch k a) (active q) ≡ f q

whole_left : (p : Process) (xs : List Part) → Stand (active p) xs → Single xs → leave_all (active p) xs ≡ at_or xs here (active p)
whole_left p [] s d = refl
whole_left p (part (in_first a) l ∷ xs) s d = absurd (cc s.0.1)
whole_left p (part (in_branch k a) l ∷ xs) s d = absurd (cc s.0.1)
whole_left p (part here l ∷ []) s d = sym (take_or (same_place here here) l (active p) refl)
whole_left p (part here l ∷ part here m ∷ xs) s d = absurd (d.0.0 refl)
whole_left p (part here l ∷ part (in_first b) m ∷ xs) s d = absurd (cc s.1.0.1)
whole_left p (part here l ∷ part (in_branch k b) m ∷ xs) s d = absurd (cc s.1.0.1)

mutual
  pub left_at_once : (f : Process → Term) (t : Term) (xs : List Part) → Lively t → Stand t xs → Single xs → Says f t xs → leave_all t xs ≡ all_left f t
  left_at_once f finished [] v s d says = refl
  left_at_once f finished (part a l ∷ xs) v s d says = absurd (cc s.0.1)
  left_at_once f (active p) xs v s d says = whole_left p xs s d ∙ says here p refl
  left_at_once f (in_sequence t more) xs v s d says =
      sequence_left t more xs v.0 s d
      ∙ ap (λ x. followed x more) (left_at_once f t (first_parts xs) v.1 (first_stand t more xs s) (first_single xs d) (λ a q h. first_at xs a (active q)
      ∙ says (in_first a) q h))
  left_at_once f (in_parallel ts) xs v s d says =
      parallel_left ts xs v.0 s d
      ∙ ap together (branches_at_once f ts xs v.1 (branches_stand ts xs s) d (λ k a q h. says (in_branch k a) q h))

  branches_at_once : (f : Process → Term) (ts : Terms) (xs : List Part) → EachLively ts → BranchesStand ts xs → Single xs → BranchesSay f ts xs →
      leave_branches ts xs ≡ each_left f ts
  branches_at_once f no_branches xs v s d says = nothing_left xs s
    where
      nothing_left : (xs : List Part) → BranchesStand no_branches xs → leave_branches no_branches xs ≡ no_branches
      nothing_left [] s = refl
      nothing_left (part here l ∷ xs) s = absurd s
      nothing_left (part (in_first a) l ∷ xs) s = absurd s
      nothing_left (part (in_branch k a) l ∷ xs) s = absurd (cc s.0.1)
  branches_at_once f (and_branch t more) xs v s d says =
      branches_left t more xs
      ∙ (ap (λ x. and_branch x (leave_branches more (later_parts xs))) (left_at_once f t (zero_parts xs) v.0 (zero_stand t more xs s) (zero_single xs d)
      (λ a q h. zero_at xs a (active q) ∙ says zero a q h))
      ∙ ap (and_branch (all_left f t)) (branches_at_once f more (later_parts xs) v.1 (later_stand t more xs s) (later_single xs d)
      (λ k a q h. later_at xs k a (active q) ∙ says (suc k) a q h)))
