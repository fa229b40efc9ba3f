-- A merge says the same in both nets, where of each procedure one copy has the values of the body and every other is low: it
-- joins the nodes of a body once here, and those of each copy there.
--
-- P: the program with copies; ps: the bodies of the procedures; d: the answer of each body in the net with shared bodies;
-- x, y: statements with calls; r, s: a statement's request in the net with shared bodies and in that with copies; from, to:
-- its first node in either net; v, u: values of the nodes of the one and of the other; pick: which
-- nodes of a statement a merge joins; c, j: calls.
use Rattle.std.proofs.Common.{◌≡◌, ◌≢◌, ℕ, zero, suc, ◌+◌, ◌<◌, Bool, true, false, List, [], ◌∷◌, ◌++◌, map, length, get_or, inl, inr, refl, sym, ap, ◌∙◌, arith}
use Rattle.std.specs.Prelude.{not, ◌&&◌, ◌||◌, ◌⊎◌, slice_index_or}
use Rattle.std.specs.List.{list_all}
use Rattle.prs_core.specs.Pairs.{or_of}
use Rattle.prs_core.specs.Moves.{guard_holds}
use Rattle.width_check.specs.Processes.{Process, skipping, TypedProgram}
use Rattle.width_check.specs.Typing.{IsProcess}
use Rattle.handshake_expand.specs.Layout.{size_of}
use Rattle.handshake_expand.specs.Answers.{answer_of}
use Rattle.handshake_expand.specs.Sites.{Sites, sites_in}
use Rattle.circuit_places.specs.Whole.{lows_only}
use Rattle.net_compose.proofs.FlatRules.{or_up, or_down}
use Rattle.call_map.specs.Calling.{Called, inlined, called_sites, OfAtoms}
use Rattle.call_map.specs.CallNet.{body_sites, body_start}
use Rattle.call_map.proofs.Truths.{or_left, or_right}
use Rattle.call_map.proofs.Items.{Each, Same, CallPoint, items, calls}
use Rattle.call_map.proofs.Picks.{any, any_map_append, never_any, IsPick, picks_placed, copy_any, picks_split}

both_ways : (a b : Bool) → (a ≡ true → b ≡ true) → (b ≡ true → a ≡ true) → a ≡ b
both_ways true b f g = sym (f refl)
both_ways false true f g = g refl
both_ways false false f g = refl

or_either : (a b : Bool) → (a || b) ≡ true → (a ≡ true) ⊎ (b ≡ true)
or_either true b e = inl refl
or_either false b e = inr e

or_swap : (a b : Bool) → (a || b) ≡ (b || a)
or_swap true true = refl
or_swap true false = refl
or_swap false true = refl
or_swap false false = refl

abbrev pub nowhere : CallPoint
nowhere = record { proc = 0; request = 0; request_there = 0; answer = 0; copy = 0 }

any_at : {A : Type 0} (f : A → Bool) (xs : List A) (e : A) → any (map f xs) ≡ true → (i : ℕ) × (i < length xs) × (f (get_or xs i e) ≡ true)
any_at f [] e h = absurd (cc h)
any_at f (x ∷ xs) e h = by (or_either (f x) (any (map f xs)) h) (any_at f xs e)
  where
    by : (f x ≡ true) ⊎ (any (map f xs) ≡ true) → (any (map f xs) ≡ true → (i : ℕ) × (i < length xs) × (f (get_or xs i e) ≡ true))
        → (i : ℕ) × (i < length (x ∷ xs)) × (f (get_or (x ∷ xs) i e) ≡ true)
    by (inl h) later = (zero, omega arith, h)
    by (inr h) later = let z = later h in (suc z.0, (let l = z.1 in omega (arith, l)), z.2)

any_of : {A : Type 0} (f : A → Bool) (xs : List A) (e : A) (i : ℕ) → i < length xs → f (get_or xs i e) ≡ true → any (map f xs) ≡ true
any_of f [] e i l h = absurd (omega (arith, l))
any_of f (x ∷ xs) e zero l h = or_left (f x) (any (map f xs)) h
any_of f (x ∷ xs) e (suc i) l h = or_right (f x) (any (map f xs)) (any_of f xs e i (omega (arith, l)) h)

pub lows_are : (bs : List Bool) → lows_only bs ≡ (any (map (λ b. true) bs) && not (any bs))
lows_are [] = refl
lows_are (b ∷ bs) = by b (none bs)
  where
    none : (bs : List Bool) → list_all not bs ≡ not (any bs)
    none [] = refl
    none (true ∷ bs) = refl
    none (false ∷ bs) = none bs

    by : (b : Bool) → list_all not bs ≡ not (any bs) → (not b && list_all not bs) ≡ not (b || any bs)
    by true e = refl
    by false e = e

pub all_true : {A : Type 0} (f : A → Bool) (xs : List A) → map (λ b. true) (map f xs) ≡ map (λ x. true) xs
all_true f [] = refl
all_true f (x ∷ xs) = ap (λ l. true ∷ l) (all_true f xs)

module _ (P : TypedProgram) (ps : List Process) (d : ℕ → ℕ) (base : ℕ) (pick : Sites ℕ) (is : IsPick P pick)
    (bodies : (q : ℕ) → q < length ps → IsProcess P.channels P.vars (slice_index_or ps q skipping)) where
  abbrev body_at : ℕ → Process
  body_at q = slice_index_or ps q skipping

  -- its copy has the values that the body has, but for the answer
  abbrev pub CopyAlike : (v u : ℕ → Bool) → CallPoint → Type 0
  CopyAlike v u c = (i : ℕ) → i < size_of P (body_at c.proc) → body_start P ps base c.proc + i ≢ answer_of P (body_at c.proc) (body_start P ps base c.proc)
      → v (body_start P ps base c.proc + i) ≡ u (c.copy + i)

  abbrev pub CopyLow : (u : ℕ → Bool) → CallPoint → Type 0
  CopyLow u c = (i : ℕ) → i < size_of P (body_at c.proc) → u (c.copy + i) ≡ false

  abbrev here_any : (ℕ → Bool) → ℕ → Bool
  here_any v q = any (map v (sites_in P pick (body_at q) (body_start P ps base q)))

  body_of : (v : ℕ → Bool) (bs : List Process) (from q : ℕ) → q < length bs
      → any (map v (sites_in P pick (slice_index_or bs q skipping) (body_start P bs from q))) ≡ true → any (map v (body_sites P pick bs from)) ≡ true
  body_of v [] from q l h = absurd (omega (arith, l))
  body_of v (b ∷ bs) from zero l h = any_map_append v (sites_in P pick b (from + 1)) (body_sites P pick bs (from + 1 + size_of P b)) ∙ or_left _ _ h
  body_of v (b ∷ bs) from (suc q) l h =
      any_map_append v (sites_in P pick b (from + 1)) (body_sites P pick bs (from + 1 + size_of P b)) ∙ or_right (any (map v (sites_in P pick b (from + 1)))) _
      (body_of v bs (from + 1 + size_of P b) q (omega (arith, l)) h)

  body_found : (v : ℕ → Bool) (bs : List Process) (from : ℕ) → any (map v (body_sites P pick bs from)) ≡ true
      → (q : ℕ) × (q < length bs) × (any (map v (sites_in P pick (slice_index_or bs q skipping) (body_start P bs from q))) ≡ true)
  body_found v [] from h = absurd (cc h)
  body_found v (b ∷ bs) from h =
      by (or_either (any (map v (sites_in P pick b (from + 1)))) (any (map v (body_sites P pick bs (from + 1 + size_of P b))))
      (sym (any_map_append v (sites_in P pick b (from + 1)) (body_sites P pick bs (from + 1 + size_of P b))) ∙ h)) (body_found v bs (from + 1 + size_of P b))
    where
      by : (any (map v (sites_in P pick b (from + 1))) ≡ true) ⊎ (any (map v (body_sites P pick bs (from + 1 + size_of P b))) ≡ true)
          → (any (map v (body_sites P pick bs (from + 1 + size_of P b))) ≡ true
          → (q : ℕ) × (q < length bs) × (any (map v (sites_in P pick (slice_index_or bs q skipping) (body_start P bs (from + 1 + size_of P b) q))) ≡ true))
          → (q : ℕ) × (q < length (b ∷ bs)) × (any (map v (sites_in P pick (slice_index_or (b ∷ bs) q skipping) (body_start P (b ∷ bs) from q))) ≡ true)
      by (inl h) later = (zero, omega arith, h)
      by (inr h) later = let z = later h in (suc z.0, (let l = z.1 in omega (arith, l)), z.2)

  module _ (v u : ℕ → Bool) (points : List CallPoint)
      (within : (c : ℕ) → c < length points → (get_or points c nowhere).proc < length ps)
      (each : (c : ℕ) → c < length points → CopyAlike v u (get_or points c nowhere) ⊎ CopyLow u (get_or points c nowhere))
      (current : (q : ℕ) → q < length ps → (c : ℕ) × (c < length points) × ((get_or points c nowhere).proc ≡ q) × CopyAlike v u (get_or points c nowhere)) where
    abbrev point : ℕ → CallPoint
    point c = get_or points c nowhere

    alike_any : (c : ℕ) → c < length points → CopyAlike v u (point c) → here_any v (point c).proc ≡ copy_any P pick is v u ps d (point c)
    alike_any c l same =
        ap any (picks_placed P pick is v u (body_at (point c).proc) (bodies (point c).proc (within c l)) (body_start P ps base (point c).proc)
        (point c).copy same)

    low_any : (c : ℕ) → c < length points → CopyLow u (point c) → copy_any P pick is v u ps d (point c) ≡ false
    low_any c l low =
        ap any (sym (picks_placed P pick is (λ n. false) u (body_at (point c).proc) (bodies (point c).proc (within c l)) 0 (point c).copy
        (λ i h ne. sym (low i h))))
        ∙ never_any (sites_in P pick (body_at (point c).proc) 0)

    copies_any : any (map (copy_any P pick is v u ps d) points) ≡ any (map v (body_sites P pick ps base))
    copies_any = both_ways _ _ there back
      where
        by_each : (c : ℕ) (l : c < length points) → copy_any P pick is v u ps d (point c) ≡ true → CopyAlike v u (point c) ⊎ CopyLow u (point c)
            → any (map v (body_sites P pick ps base)) ≡ true
        by_each c l h (inl same) = body_of v ps base (point c).proc (within c l) (alike_any c l same ∙ h)
        by_each c l h (inr low) = absurd (let e = low_any c l low in cc (e, h))

        there : any (map (copy_any P pick is v u ps d) points) ≡ true → any (map v (body_sites P pick ps base)) ≡ true
        there h = let z = any_at (copy_any P pick is v u ps d) points nowhere h in by_each z.0 z.1 z.2 (each z.0 z.1)

        back : any (map v (body_sites P pick ps base)) ≡ true → any (map (copy_any P pick is v u ps d) points) ≡ true
        back h =
            let z = body_found v ps base h in
            let c = current z.0 z.1 in
            any_of (copy_any P pick is v u ps d) points nowhere c.0 c.1
            (sym (alike_any c.0 c.1 c.3) ∙ (ap (here_any v) c.2 ∙ z.2))

  -- the nodes that a merge joins in either net
  module _ (x : Called) (atoms : OfAtoms x) (typed : IsProcess P.channels P.vars (inlined ps x)) (r from s to : ℕ) where
    abbrev pub joined_here : List ℕ
    joined_here = body_sites P pick ps base ++ called_sites ps P pick x from

    abbrev pub joined_there : List ℕ
    joined_there = sites_in P pick (inlined ps x) to

    abbrev points_of : List CallPoint
    points_of = calls P ps d x r from s to

    pub merge_any : (v u : ℕ → Bool) → Each (Same v u) (items P ps d x r from s to)
        → ((c : ℕ) → c < length points_of → (get_or points_of c nowhere).proc < length ps)
        → ((c : ℕ) → c < length points_of → CopyAlike v u (get_or points_of c nowhere) ⊎ CopyLow u (get_or points_of c nowhere))
        → ((q : ℕ) → q < length ps → (c : ℕ) × (c < length points_of) × ((get_or points_of c nowhere).proc ≡ q) × CopyAlike v u (get_or points_of c nowhere))
        → any (map v joined_here) ≡ any (map u joined_there)
    merge_any v u same within each current =
        any_map_append v (body_sites P pick ps base) (called_sites ps P pick x from)
        ∙ (ap (λ z. z || any (map v (called_sites ps P pick x from))) (sym (copies_any v u points_of within each current))
        ∙ (or_swap (any (map (copy_any P pick is v u ps d) points_of)) (any (map v (called_sites ps P pick x from)))
        ∙ sym (picks_split P pick is v u ps d x atoms typed r from s to same)))

    trivially : (xs : List _) → Each (Same (λ n. true) (λ n. true)) xs
    trivially [] = tt
    trivially (i ∷ is) = ((λ e. refl), trivially is)

    -- so the guards of the merge say the same
    pub merge_says : (v u : ℕ → Bool) → Each (Same v u) (items P ps d x r from s to)
        → ((c : ℕ) → c < length points_of → (get_or points_of c nowhere).proc < length ps)
        → ((c : ℕ) → c < length points_of → CopyAlike v u (get_or points_of c nowhere) ⊎ CopyLow u (get_or points_of c nowhere))
        → ((q : ℕ) → q < length ps → (c : ℕ) × (c < length points_of) × ((get_or points_of c nowhere).proc ≡ q) × CopyAlike v u (get_or points_of c nowhere))
        → (guard_holds v (or_of joined_here).up ≡ guard_holds u (or_of joined_there).up)
        × (guard_holds v (or_of joined_here).down ≡ guard_holds u (or_of joined_there).down)
    merge_says v u same within each current =
        let one = merge_any v u same within each current in
        let some = merge_any (λ n. true) (λ n. true) (trivially (items P ps d x r from s to)) within (λ c l. inl (λ i h ne. refl))
        (λ q l. let c = current q l in (c.0, c.1, c.2, λ i h ne. refl)) in (
          or_up v joined_here ∙ (one ∙ sym (or_up u joined_there)),
          or_down v joined_here ∙ (lows_are (map v joined_here)
              ∙ (ap (λ z. any z && not (any (map v joined_here))) (all_true v joined_here)
              ∙ (ap (λ z. z && not (any (map v joined_here))) some
              ∙ (ap (λ z. any (map (λ n. true) joined_there) && not z) one
              ∙ (ap (λ z. any z && not (any (map u joined_there))) (sym (all_true u joined_there))
              ∙ (sym (lows_are (map u joined_there)) ∙ sym (or_down u joined_there))))))),
        )
