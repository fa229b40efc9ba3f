-- Places of branches in a list, and what stands in the lists that are made of the branches.
use Rattle.std.proofs.Common.{◌≡◌, ℕ, zero, suc, ◌<◌, List, [], ◌∷◌, ◌++◌, length, map, slice_index_or, arith, ap, sym, ◌∙◌, refl, subst, inl, inr, ◌⊎◌}
use Rattle.std.specs.Prelude.{Contains}
use Rattle.std.proofs.Math.Logic.{⊎_elim}
use Rattle.std.proofs.lemmas.List.{append_assoc, map-append, append-nil}
use Rattle.std.proofs.lemmas.List.Elements.{Contains-append_left, Contains-append_right, Contains-append_cases}
use Rattle.prs_core.specs.Nets.{is_high}
use Rattle.prs_core.specs.Pairs.{Pair}
use Rattle.prs_core.specs.Parts.{Owned, owned, owned_at, Wire}
use Rattle.cell_select.specs.Selections.{all_false, latches, started, starts}
use Rattle.cell_select.specs.Contract.{Branch, BranchPlace, places_from, latches_of, starts_of, guards_of, branch_wires, guard_wire, answer_wire}
use Rattle.cell_select.proofs.Emitted.{latch_of, latches_behind, owned_append}

abbrev pub IsPlace : List Branch → BranchPlace → Type 0
IsPlace bs p = bs ≡ p.before ++ p.this ∷ p.behind

abbrev pub Among : Branch → List Branch → Type 0
Among x [] = ⊥
Among x (y ∷ ys) = (x ≡ y) ⊎ Among x ys

abbrev pub at_place : (before : List Branch) → Branch → (behind : List Branch) → BranchPlace
at_place before b behind = record { before = before; this = b; behind = behind }

pub among_left : (x : Branch) (ys zs : List Branch) → Among x ys → Among x (ys ++ zs)
among_left x [] zs h = absurd h
among_left x (y ∷ ys) zs (inl e) = inl e
among_left x (y ∷ ys) zs (inr h) = inr (among_left x ys zs h)

pub among_right : (x : Branch) (ys zs : List Branch) → Among x zs → Among x (ys ++ zs)
among_right x [] zs h = h
among_right x (y ∷ ys) zs h = inr (among_right x ys zs h)

pub among_middle : (x : Branch) (ys zs : List Branch) → Among x (ys ++ x ∷ zs)
among_middle x [] zs = inl refl
among_middle x (y ∷ ys) zs = inr (among_middle x ys zs)

-- two places of a list are one, or each branch is among the others of the other
pub record Apart (p q : BranchPlace) : Type 0 where
  pub second : Among q.this (p.before ++ p.behind)
  pub first : Among p.this (q.before ++ q.behind)

same_place : (b1 : List Branch) (x : Branch) (h1 b2 : List Branch) (y : Branch) (h2 : List Branch) → b1 ≡ b2 → x ≡ y → h1 ≡ h2 →
    at_place b1 x h1 ≡ at_place b2 y h2
same_place b1 x h1 b2 y h2 e f g = ap (λ b. at_place b x h1) e ∙ ap (λ z. at_place b2 z h1) f ∙ ap (λ h. at_place b2 y h) g

heads : (x y : Branch) (xs ys : List Branch) → x ∷ xs ≡ y ∷ ys → x ≡ y
heads x y xs ys e = cc (e)

tails : (x y : Branch) (xs ys : List Branch) → x ∷ xs ≡ y ∷ ys → xs ≡ ys
tails x y xs ys e = cc (e)

further : (z w : Branch) (b1 : List Branch) (x : Branch) (h1 b2 : List Branch) (y : Branch) (h2 : List Branch) → z ≡ w →
    (at_place b1 x h1 ≡ at_place b2 y h2) ⊎ Apart (at_place b1 x h1) (at_place b2 y h2) →
    (at_place (z ∷ b1) x h1 ≡ at_place (w ∷ b2) y h2) ⊎ Apart (at_place (z ∷ b1) x h1) (at_place (w ∷ b2) y h2)
further z w b1 x h1 b2 y h2 e (inl same) = inl (ap (λ (p : BranchPlace). at_place (z ∷ p.before) p.this p.behind) same ∙ ap (λ u. at_place (u ∷ b2) y h2) e)
further z w b1 x h1 b2 y h2 e (inr apart) = inr (record { second = inr apart.second; first = inr apart.first })

places_of : (b1 : List Branch) (x : Branch) (h1 b2 : List Branch) (y : Branch) (h2 : List Branch) → b1 ++ x ∷ h1 ≡ b2 ++ y ∷ h2 →
    (at_place b1 x h1 ≡ at_place b2 y h2) ⊎ Apart (at_place b1 x h1) (at_place b2 y h2)
places_of [] x h1 [] y h2 e = inl (same_place [] x h1 [] y h2 refl (heads x y h1 h2 e) (tails x y h1 h2 e))
places_of [] x h1 (z ∷ zs) y h2 e = inr (record {
  second = subst (Among y) (sym (tails x z h1 (zs ++ y ∷ h2) e)) (among_middle y zs h2);
  first =
      inl (heads x z h1 (zs ++ y ∷ h2) e);
})
places_of (z ∷ zs) x h1 [] y h2 e = inr (record {
  second = inl (sym (heads z y (zs ++ x ∷ h1) h2 e));
  first =
      subst (Among x) (tails z y (zs ++ x ∷ h1) h2 e) (among_middle x zs h1);
})
places_of (z ∷ zs) x h1 (w ∷ ws) y h2 e =
    further z w zs x h1 ws y h2 (heads z w (zs ++ x ∷ h1) (ws ++ y ∷ h2) e) (places_of zs x h1 ws y h2 (tails z w (zs ++ x ∷ h1) (ws ++ y ∷ h2) e))

pub one_or_apart : (bs : List Branch) (p q : BranchPlace) → IsPlace bs p → IsPlace bs q → (p ≡ q) ⊎ Apart p q
one_or_apart bs p q e f = places_of p.before p.this p.behind q.before q.this q.behind (sym e ∙ f)

-- elements of a list that is made of the branches
contains_at : {X : Type 0} (x : X) (xs : List X) (y : X) (k : ℕ) → k < length (x ∷ xs) → slice_index_or (x ∷ xs) k y ≡ y → (y ≡ x) ⊎ Contains xs y
contains_at x xs y zero lt e = inl (sym e)
contains_at x xs y (suc k) lt e = inr (k, omega (arith, lt), e)

pub contains_cons : {X : Type 0} (x : X) (xs : List X) (y : X) → Contains (x ∷ xs) y → (y ≡ x) ⊎ Contains xs y
contains_cons x xs y h = contains_at x xs y h.0 h.1 h.2

pub contains_none : {X : Type 0} (y : X) → Contains [] y → ⊥
contains_none y h = let lt = h.1 in omega (arith, lt)

pub contains_here : {X : Type 0} (x : X) (xs : List X) → Contains (x ∷ xs) x
contains_here x xs = (0, omega arith, refl)

pub contains_next : {X : Type 0} (x : X) (xs : List X) (y : X) → Contains xs y → Contains (x ∷ xs) y
contains_next x xs y h = let lt = h.1 in (suc h.0, omega (arith, lt), h.2)

moved_on : (pre : List Branch) (b : Branch) (rest : List Branch) (p : BranchPlace) → IsPlace ((pre ++ b ∷ []) ++ rest) p → IsPlace (pre ++ b ∷ rest) p
moved_on pre b rest p h = sym (append_assoc pre (b ∷ []) rest) ∙ h

abbrev pub latch_owned : (request : ℕ) → BranchPlace → Owned
latch_owned request p = owned p.this.latch (latch_of request (all_false (guards_of p.before) ++ is_high p.this.guard.t ∷ all_false (guards_of p.behind)))

abbrev pub start_owned : List Pair → BranchPlace → Owned
start_owned hs p = owned p.this.start (started p.this.latch hs)

abbrev pub IsMade : {X : Type 0} → List Branch → (BranchPlace → X) → X → Type 0
IsMade bs f x = (p : BranchPlace) × IsPlace bs p × (x ≡ f p)

pub place_in : {X : Type 0} (f : BranchPlace → X) (pre bs : List Branch) (w : X) → Contains (map f (places_from pre bs)) w → IsMade (pre ++ bs) f w
place_in f pre [] w h = absurd (contains_none w h)
place_in f pre (b ∷ bs) w h =
    ⊎_elim (λ e. (at_place pre b bs, refl, e))
    (λ more. let r = place_in f (pre ++ b ∷ []) bs w more in (r.0, moved_on pre b bs r.0 r.1, r.2))
    (contains_cons (f (at_place pre b bs)) (map f (places_from (pre ++ b ∷ []) bs)) w h)

guards_next : (pre : List Branch) (b : Branch) → guards_of (pre ++ b ∷ []) ≡ guards_of pre ++ b.guard ∷ []
guards_next pre b = map-append (λ (b : Branch). b.guard) pre (b ∷ [])

latch_in : (request : ℕ) (pre bs : List Branch) (o : Owned) → Contains (owned_at (latches_of bs) (latches_behind request (guards_of pre) (guards_of bs))) o →
    IsMade (pre ++ bs) (latch_owned request) o
latch_in request pre [] o h = absurd (contains_none o h)
latch_in request pre (b ∷ bs) o h =
    ⊎_elim (λ e. (at_place pre b bs, refl, e))
    (λ more. let r = latch_in request (pre ++ b ∷ []) bs o (subst (λ hs. Contains (owned_at (latches_of bs) (latches_behind request hs (guards_of bs))) o)
    (sym (guards_next pre b)) more) in (r.0, moved_on pre b bs r.0 r.1, r.2))
    (contains_cons (latch_owned request (at_place pre b bs)) (owned_at (latches_of bs) (latches_behind request (guards_of pre ++ b.guard ∷ []) (guards_of bs)))
    o h)

start_in : (hs : List Pair) (pre bs : List Branch) (o : Owned) → Contains (owned_at (starts_of bs) (starts (latches_of bs) hs)) o →
    IsMade (pre ++ bs) (start_owned hs) o
start_in hs pre [] o h = absurd (contains_none o h)
start_in hs pre (b ∷ bs) o h =
    ⊎_elim (λ e. (at_place pre b bs, refl, e))
    (λ more. let r = start_in hs (pre ++ b ∷ []) bs o more in (r.0, moved_on pre b bs r.0 r.1, r.2))
    (contains_cons (start_owned hs (at_place pre b bs)) (owned_at (starts_of bs) (starts (latches_of bs) hs)) o h)

wanted_behind : (request : ℕ) (bs : List Branch) (before : List Pair) → length (latches_of bs) ≡ length (latches_behind request before (guards_of bs))
wanted_behind request [] before = refl
wanted_behind request (b ∷ bs) before = let rest = wanted_behind request bs (before ++ b.guard ∷ []) in omega (arith, rest)

-- the nodes of the branches: latches and starts
abbrev pub branches_owned : (request : ℕ) → List Branch → List Owned
branches_owned request bs = owned_at (latches_of bs ++ starts_of bs) (latches request (guards_of bs) ++ starts (latches_of bs) (guards_of bs))

owned_apart : (request : ℕ) (bs : List Branch) → branches_owned request bs ≡ owned_at (latches_of bs) (latches_behind request [] (guards_of bs))
    ++ owned_at (starts_of bs) (starts (latches_of bs) (guards_of bs))
owned_apart request bs = owned_append (latches_of bs) (starts_of bs) (latches request (guards_of bs)) (starts (latches_of bs) (guards_of bs))
    (wanted_behind request bs [])

pub branch_own : (request : ℕ) (bs : List Branch) (o : Owned) → Contains (branches_owned request bs) o →
    IsMade bs (latch_owned request) o ⊎ IsMade bs (start_owned (guards_of bs)) o
branch_own request bs o h =
    ⊎_elim (λ first. inl (latch_in request [] bs o first))
    (λ second. inr (start_in (guards_of bs) [] bs o second))
    (Contains-append_cases (owned_at (latches_of bs) (latches_behind request [] (guards_of bs)))
    (owned_at (starts_of bs) (starts (latches_of bs) (guards_of bs))) o (subst (λ os. Contains os o) (owned_apart request bs) h))

-- and the other way round
latch_from : (request : ℕ) (pre before : List Branch) (b : Branch) (behind : List Branch) →
    Contains (owned_at (latches_of (before ++ b ∷ behind)) (latches_behind request (guards_of pre) (guards_of (before ++ b ∷ behind))))
    (latch_owned request (at_place (pre ++ before) b behind))
latch_from request pre [] b behind =
    subst (λ (bs : List Branch). Contains (owned_at (latches_of (b ∷ behind)) (latches_behind request (guards_of pre) (guards_of (b ∷ behind))))
    (latch_owned request (at_place bs b behind))) (sym (append-nil pre))
    (contains_here (latch_owned request (at_place pre b behind))
    (owned_at (latches_of behind) (latches_behind request (guards_of pre ++ b.guard ∷ []) (guards_of behind))))
latch_from request pre (x ∷ before) b behind =
    let rest = latch_from request (pre ++ x ∷ []) before b behind in
    let there = subst (λ hs. Contains (owned_at (latches_of (before ++ b ∷ behind)) (latches_behind request hs (guards_of (before ++ b ∷ behind))))
    (latch_owned request (at_place ((pre ++ x ∷ []) ++ before) b behind))) (guards_next pre x) rest in
    subst (λ (bs : List Branch). Contains (owned_at (latches_of ((x ∷ before) ++ b ∷ behind))
    (latches_behind request (guards_of pre) (guards_of ((x ∷ before) ++ b ∷ behind)))) (latch_owned request (at_place bs b behind)))
    (append_assoc pre (x ∷ []) before)
    (contains_next (latch_owned request (at_place pre x (before ++ b ∷ behind)))
    (owned_at (latches_of (before ++ b ∷ behind)) (latches_behind request (guards_of pre ++ x.guard ∷ []) (guards_of (before ++ b ∷ behind)))) _ there)

start_from : (hs : List Pair) (pre before : List Branch) (b : Branch) (behind : List Branch) →
    Contains (owned_at (starts_of (before ++ b ∷ behind)) (starts (latches_of (before ++ b ∷ behind)) hs)) (start_owned hs (at_place pre b behind))
start_from hs pre [] b behind = contains_here (start_owned hs (at_place pre b behind)) (owned_at (starts_of behind) (starts (latches_of behind) hs))
start_from hs pre (x ∷ before) b behind =
    contains_next (start_owned hs (at_place pre x behind)) (owned_at (starts_of (before ++ b ∷ behind)) (starts (latches_of (before ++ b ∷ behind)) hs)) _
    (start_from hs pre before b behind)

pub latch_there : (request : ℕ) (p : BranchPlace) → Contains (branches_owned request (p.before ++ p.this ∷ p.behind)) (latch_owned request p)
latch_there request p =
    let bs = p.before ++ p.this ∷ p.behind in
    subst (λ os. Contains os (latch_owned request p)) (sym (owned_apart request bs))
    (Contains-append_left (owned_at (latches_of bs) (latches_behind request [] (guards_of bs)))
    (owned_at (starts_of bs) (starts (latches_of bs) (guards_of bs))) (latch_owned request p) (latch_from request [] p.before p.this p.behind))

pub start_there : (request : ℕ) (p : BranchPlace) →
    Contains (branches_owned request (p.before ++ p.this ∷ p.behind)) (start_owned (guards_of (p.before ++ p.this ∷ p.behind)) p)
start_there request p =
    let bs = p.before ++ p.this ∷ p.behind in
    subst (λ os. Contains os (start_owned (guards_of bs) p)) (sym (owned_apart request bs))
    (Contains-append_right (owned_at (latches_of bs) (latches_behind request [] (guards_of bs)))
    (owned_at (starts_of bs) (starts (latches_of bs) (guards_of bs))) (start_owned (guards_of bs) p)
    (start_from (guards_of bs) p.before p.before p.this p.behind))

-- the wires of the branches' neighbours
abbrev pub t_wire : (eval : ℕ) → BranchPlace → Wire
t_wire eval p = guard_wire eval p.this.guard p.this.guard.t

abbrev pub f_wire : (eval : ℕ) → BranchPlace → Wire
f_wire eval p = guard_wire eval p.this.guard p.this.guard.f

abbrev pub d_wire : BranchPlace → Wire
d_wire p = answer_wire p.this

abbrev pub IsBranchWire : (eval : ℕ) → List Branch → Wire → Type 0
IsBranchWire eval bs w = (p : BranchPlace) × IsPlace bs p × ((w ≡ t_wire eval p) ⊎ ((w ≡ f_wire eval p) ⊎ (w ≡ d_wire p)))

pub wire_in : (eval : ℕ) (pre bs : List Branch) (w : Wire) → Contains (branch_wires eval bs) w → IsBranchWire eval (pre ++ bs) w
wire_in eval pre [] w h = absurd (contains_none w h)
wire_in eval pre (b ∷ bs) w h =
    let p = at_place pre b bs in
    ⊎_elim (λ e. (p, refl, inl e))
    (λ more. ⊎_elim (λ e. (p, refl, inr (inl e)))
    (λ rest. ⊎_elim (λ e. (p, refl, inr (inr e)))
    (λ last. let r = wire_in eval (pre ++ b ∷ []) bs w last in (r.0, moved_on pre b bs r.0 r.1, r.2))
    (contains_cons (d_wire p) (branch_wires eval bs) w rest))
    (contains_cons (f_wire eval p) (d_wire p ∷ branch_wires eval bs) w more))
    (contains_cons (t_wire eval p) (f_wire eval p ∷ d_wire p ∷ branch_wires eval bs) w h)

over_three : (eval : ℕ) (b : Branch) (bs : List Branch) (w : Wire) → Contains (branch_wires eval bs) w → Contains (branch_wires eval (b ∷ bs)) w
over_three eval b bs w h =
    let p = at_place [] b bs in
    contains_next (t_wire eval p) (f_wire eval p ∷ d_wire p ∷ branch_wires eval bs) w
    (contains_next (f_wire eval p) (d_wire p ∷ branch_wires eval bs) w (contains_next (d_wire p) (branch_wires eval bs) w h))

pub t_there : (eval : ℕ) (before : List Branch) (b : Branch) (behind : List Branch) →
    Contains (branch_wires eval (before ++ b ∷ behind)) (guard_wire eval b.guard b.guard.t)
t_there eval [] b behind = contains_here (guard_wire eval b.guard b.guard.t) (guard_wire eval b.guard b.guard.f ∷ answer_wire b ∷ branch_wires eval behind)
t_there eval (x ∷ before) b behind = over_three eval x (before ++ b ∷ behind) (guard_wire eval b.guard b.guard.t) (t_there eval before b behind)

pub f_there : (eval : ℕ) (before : List Branch) (b : Branch) (behind : List Branch) →
    Contains (branch_wires eval (before ++ b ∷ behind)) (guard_wire eval b.guard b.guard.f)
f_there eval [] b behind = contains_next (guard_wire eval b.guard b.guard.t) (guard_wire eval b.guard b.guard.f ∷ answer_wire b ∷ branch_wires eval behind)
    (guard_wire eval b.guard b.guard.f) (contains_here (guard_wire eval b.guard b.guard.f) (answer_wire b ∷ branch_wires eval behind))
f_there eval (x ∷ before) b behind = over_three eval x (before ++ b ∷ behind) (guard_wire eval b.guard b.guard.f) (f_there eval before b behind)

pub d_there : (eval : ℕ) (before : List Branch) (b : Branch) (behind : List Branch) → Contains (branch_wires eval (before ++ b ∷ behind)) (answer_wire b)
d_there eval [] b behind = contains_next (guard_wire eval b.guard b.guard.t) (guard_wire eval b.guard b.guard.f ∷ answer_wire b ∷ branch_wires eval behind)
    (answer_wire b) (contains_next (guard_wire eval b.guard b.guard.f) (answer_wire b ∷ branch_wires eval behind) (answer_wire b)
    (contains_here (answer_wire b) (branch_wires eval behind)))
d_there eval (x ∷ before) b behind = over_three eval x (before ++ b ∷ behind) (answer_wire b) (d_there eval before b behind)

-- a wire that is made of another
pub map_in : (f : Wire → Wire) (ws : List Wire) (w : Wire) → Contains (map f ws) w → (u : Wire) × Contains ws u × (w ≡ f u)
map_in f [] w h = absurd (contains_none w h)
map_in f (x ∷ ws) w h =
    ⊎_elim (λ (e : w ≡ f x). (x, contains_here x ws, e)) (λ more. let r = map_in f ws w more in
    (r.0, contains_next x ws r.0 r.1, r.2)) (contains_cons (f x) (map f ws) w h)
