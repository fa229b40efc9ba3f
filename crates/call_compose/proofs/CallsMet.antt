-- What is refused of calls is what the laws of shared bodies ask for.
use Rattle.std.proofs.Common.{◌≡◌, ◌≢◌, ℕ, zero, suc, ◌+◌, ◌<◌, Bool, true, false, List, [], ◌∷◌, ◌++◌, length, map, Option, Some, None, cond, refl, sym, ap, ◌∙◌, subst, inl, inr, ⊎_elim, arith}
use Rattle.std.specs.Prelude.{Contains, slice_get, not}
use Rattle.std.specs.List.{AllByRecursion, IsDistinct}
use Rattle.std.specs.Str.{bytes_eq}
use Rattle.std.proofs.lemmas.List.Elements.{Contains-append_left, Contains-append_right, Contains-append_cases}
use Rattle.std.proofs.lemmas.Map.Keys.{IsDistinct-head, IsDistinct-tail}
use Rattle.std.proofs.lemmas.Slice.Eq.{bytes_eq-Decides}
use Rattle.chp_base.specs.declared.fault.FaultCode.TheVariants as code
use Rattle.chp_syntax.specs.declared.tree.Decl.{Decl}
use Rattle.chp_syntax.specs.declared.tree.Ident.{Ident}
use Rattle.chp_syntax.specs.Trees as plain
use Rattle.chp_syntax.specs.Trees.{Statement, skips, assigns, sends, receives, follows, besides, selects, repeats, calls, Statements, Arms, no_arms, and_arm, Procedure}
use Rattle.width_check.specs.Form.{process_form, processes_form, choices_form, channel_number}
use Rattle.width_check.specs.Sharing.{Occurrence, done_at, sends_on, occurrences, occurrences_of_each, occurrences_of_choices, Parallel, ParallelInside, ParallelInChoices, ParallelAcross, Clashes}
use Rattle.width_check.proofs.Least.{front_or_rest, no_item}
use Rattle.call_map.specs.Calling.{OfAtoms, EachOfAtoms, BranchesOfAtoms}
use Rattle.call_map.specs.CallsApart.{Calls, OneCalls, ChoiceCalls, CallsApart, MembersApart, BranchesApart, ChoicesApart}
use Rattle.call_merge.specs.CallSites.{calls_in, calls_in_each, calls_in_arms, call_channel, call_sends, call_sends_each, call_sends_arms}
use Rattle.call_merge.specs.Inlining.{procedure_named}
use Rattle.call_compose.specs.CalledForm.{procedure_names, procedure_number, called_form, called_forms, called_arms}

-- what counts as an atom is one

mutual
  pub of_atoms : (ds : List Decl) (ns : List (List ℕ)) (s : Statement) → OfAtoms (called_form ds ns s)
  of_atoms ds ns (skips at) = tt
  of_atoms ds ns (assigns target e) = tt
  of_atoms ds ns (sends chan e) = tt
  of_atoms ds ns (receives chan target) = tt
  of_atoms ds ns (follows us) = each_of_atoms ds ns us
  of_atoms ds ns (besides us) = each_of_atoms ds ns us
  of_atoms ds ns (selects again xs) = arms_of_atoms ds ns xs
  of_atoms ds ns (repeats s) = of_atoms ds ns s
  of_atoms ds ns (calls of) = tt

  each_of_atoms : (ds : List Decl) (ns : List (List ℕ)) (us : Statements) → EachOfAtoms (called_forms ds ns us)
  each_of_atoms ds ns plain.no_members = tt
  each_of_atoms ds ns (plain.and_member s more) = (of_atoms ds ns s, each_of_atoms ds ns more)

  arms_of_atoms : (ds : List Decl) (ns : List (List ℕ)) (xs : Arms) → BranchesOfAtoms (called_arms ds ns xs)
  arms_of_atoms ds ns no_arms = tt
  arms_of_atoms ds ns (and_arm g s more) = (of_atoms ds ns s, arms_of_atoms ds ns more)

-- each call is of a procedure

pub front_all : {A : Type 0} (P : A → Type 0) (xs ys : List A) → AllByRecursion P (xs ++ ys) → AllByRecursion P xs
front_all P [] ys all = tt
front_all P (x ∷ xs) ys all = (all.0, front_all P xs ys all.1)

pub rest_all : {A : Type 0} (P : A → Type 0) (xs ys : List A) → AllByRecursion P (xs ++ ys) → AllByRecursion P ys
rest_all P [] ys all = all
rest_all P (x ∷ xs) ys all = rest_all P xs ys all.1

one_more : (k : ℕ) → 1 + k ≡ suc k
one_more k = omega arith

number_step : (b : Bool) (q : Procedure) (o : Option Procedure) (k m : ℕ) → (o ≢ None → k < m) → cond b (Some q) o ≢ None → cond (not b) (1 + k) 0 < 1 + m
number_step true q o k m rest some = omega arith
number_step false q o k m rest some = let less = rest some in omega (arith, less)

pub number_below : (qs : List Procedure) (name : List ℕ) → procedure_named qs name ≢ None →
    procedure_number (procedure_names qs) name < length (procedure_names qs)
number_below [] name some = absurd (some refl)
number_below (q ∷ qs) name some =
    let less : cond (not (bytes_eq q.name.name name)) (1 + procedure_number (procedure_names qs) name) 0 < 1 + length (procedure_names qs) =
    number_step (bytes_eq q.name.name name) q (procedure_named qs name) (procedure_number (procedure_names qs) name) (length (procedure_names qs))
    (number_below qs name) some in
    omega (arith, less)

abbrev pub HaveNumbers : List (List ℕ) → List Ident → Type 0
HaveNumbers ns of = AllByRecursion (λ (i : Ident). procedure_number ns i.name < length ns) of

mutual
  pub calls_below : (ds : List Decl) (ns : List (List ℕ)) (s : Statement) (q : ℕ) → HaveNumbers ns (calls_in s) → Calls (called_form ds ns s) q
      → q < length ns
  calls_below ds ns (skips at) q all h = absurd h
  calls_below ds ns (assigns target e) q all h = absurd h
  calls_below ds ns (sends chan e) q all h = absurd h
  calls_below ds ns (receives chan target) q all h = absurd h
  calls_below ds ns (follows us) q all h = calls_below_each ds ns us q all h
  calls_below ds ns (besides us) q all h = calls_below_each ds ns us q all h
  calls_below ds ns (selects again xs) q all h = calls_below_arms ds ns xs q all h
  calls_below ds ns (repeats s) q all h = calls_below ds ns s q all h
  calls_below ds ns (calls of) q all h = subst (λ k. k < length ns) h all.0

  calls_below_each : (ds : List Decl) (ns : List (List ℕ)) (us : Statements) (q : ℕ) → HaveNumbers ns (calls_in_each us)
      → OneCalls (called_forms ds ns us) q → q < length ns
  calls_below_each ds ns plain.no_members q all h = absurd h
  calls_below_each ds ns (plain.and_member s more) q all (inl h) =
      calls_below ds ns s q (front_all (λ (i : Ident). procedure_number ns i.name < length ns) (calls_in s) (calls_in_each more) all) h
  calls_below_each ds ns (plain.and_member s more) q all (inr h) =
      calls_below_each ds ns more q (rest_all (λ (i : Ident). procedure_number ns i.name < length ns) (calls_in s) (calls_in_each more) all) h

  calls_below_arms : (ds : List Decl) (ns : List (List ℕ)) (xs : Arms) (q : ℕ) → HaveNumbers ns (calls_in_arms xs)
      → ChoiceCalls (called_arms ds ns xs) q → q < length ns
  calls_below_arms ds ns no_arms q all h = absurd h
  calls_below_arms ds ns (and_arm g s more) q all (inl h) =
      calls_below ds ns s q (front_all (λ (i : Ident). procedure_number ns i.name < length ns) (calls_in s) (calls_in_arms more) all) h
  calls_below_arms ds ns (and_arm g s more) q all (inr h) =
      calls_below_arms ds ns more q (rest_all (λ (i : Ident). procedure_number ns i.name < length ns) (calls_in s) (calls_in_arms more) all) h

-- each procedure is called

mutual
  pub calls_there : (ds : List Decl) (ns : List (List ℕ)) (s : Statement) (i : Ident) → Contains (calls_in s) i
      → Calls (called_form ds ns s) (procedure_number ns i.name)
  calls_there ds ns (skips at) i c = absurd (no_item i c)
  calls_there ds ns (assigns target e) i c = absurd (no_item i c)
  calls_there ds ns (sends chan e) i c = absurd (no_item i c)
  calls_there ds ns (receives chan target) i c = absurd (no_item i c)
  calls_there ds ns (follows us) i c = one_there ds ns us i c
  calls_there ds ns (besides us) i c = one_there ds ns us i c
  calls_there ds ns (selects again xs) i c = choice_there ds ns xs i c
  calls_there ds ns (repeats s) i c = calls_there ds ns s i c
  calls_there ds ns (calls of) i c =
      ⊎_elim (λ (e : of ≡ i). ap (λ (x : Ident). procedure_number ns x.name) e) (λ k. absurd (no_item i k)) (front_or_rest of i [] c)

  one_there : (ds : List Decl) (ns : List (List ℕ)) (us : Statements) (i : Ident) → Contains (calls_in_each us) i
      → OneCalls (called_forms ds ns us) (procedure_number ns i.name)
  one_there ds ns plain.no_members i c = absurd (no_item i c)
  one_there ds ns (plain.and_member s more) i c =
      ⊎_elim (λ k. inl (calls_there ds ns s i k)) (λ k. inr (one_there ds ns more i k)) (Contains-append_cases (calls_in s) (calls_in_each more) i c)

  choice_there : (ds : List Decl) (ns : List (List ℕ)) (xs : Arms) (i : Ident) → Contains (calls_in_arms xs) i
      → ChoiceCalls (called_arms ds ns xs) (procedure_number ns i.name)
  choice_there ds ns no_arms i c = absurd (no_item i c)
  choice_there ds ns (and_arm g s more) i c =
      ⊎_elim (λ k. inl (calls_there ds ns s i k)) (λ k. inr (choice_there ds ns more i k)) (Contains-append_cases (calls_in s) (calls_in_arms more) i c)

other_among : (n name : List ℕ) (ns : List (List ℕ)) (k : ℕ) → AllByRecursion (λ y. bytes_eq n y ≡ false) ns → slice_get ns k ≡ Some name → bytes_eq n name
    ≡ false
other_among n name [] k none is = absurd (cc is)
other_among n name (m ∷ ns) zero none is = let same : m ≡ name = cc is in subst (λ (x : List ℕ). bytes_eq n x ≡ false) same none.0
other_among n name (m ∷ ns) (suc k) none is = other_among n name ns k none.1 is

-- the number of a name that stands at a place, where no name stands twice
pub number_is : (ns : List (List ℕ)) (k : ℕ) (name : List ℕ) → IsDistinct bytes_eq ns → slice_get ns k ≡ Some name → procedure_number ns name ≡ k
number_is [] k name distinct is = absurd (cc is)
number_is (n ∷ ns) zero name distinct is =
    let same : n ≡ name = cc is in
    let test = (bytes_eq-Decides n name).1 same in
    rw test refl
number_is (n ∷ ns) (suc k) name distinct is =
    let test = other_among n name ns k (IsDistinct-head bytes_eq n ns distinct) is in
    let rest = number_is ns k name (IsDistinct-tail bytes_eq n ns distinct) is in
    rw test (one_more (procedure_number ns name) ∙ ap suc rest)

-- and of a name that isn't there

not_there : (b : Bool) → ¬ (b ≡ true) → b ≡ false
not_there true h = absurd (h refl)
not_there false h = refl

pub number_past : (ns : List (List ℕ)) (name : List ℕ) → ¬ Contains ns name → procedure_number ns name ≡ length ns
number_past [] name none = refl
number_past (n ∷ ns) name none =
    let test = not_there (bytes_eq n name) (λ t. none (0, omega arith, (bytes_eq-Decides n name).0 t)) in
    let rest = number_past ns name (λ h. none (suc h.0, omega (arith, h.1), h.2)) in
    rw test (one_more (procedure_number ns name) ∙ ap suc rest)

-- no two branches call one procedure

pub channel_alike : (qs : List Procedure) (name : List ℕ) → channel_number (map call_channel qs) name ≡ procedure_number (procedure_names qs) name
channel_alike [] name = refl
channel_alike (q ∷ qs) name = ap (λ k. cond (not (bytes_eq q.name.name name)) (1 + k) 0) (channel_alike qs name)

abbrev Sends : List Occurrence → ℕ → Type 0
Sends os q = (o : Occurrence) × Contains os o × (o.deed ≡ sends_on q)

sends_left : (xs ys : List Occurrence) (q : ℕ) → Sends xs q → Sends (xs ++ ys) q
sends_left xs ys q h = (h.0, Contains-append_left xs ys h.0 h.1, h.2)

sends_right : (xs ys : List Occurrence) (q : ℕ) → Sends ys q → Sends (xs ++ ys) q
sends_right xs ys q h = (h.0, Contains-append_right xs ys h.0 h.1, h.2)

module _ (cs ds : List Decl) (ns : List (List ℕ)) (alike : (name : List ℕ) → channel_number cs name ≡ procedure_number ns name) where
  mutual
    call_sent : (s : Statement) (q : ℕ) → Calls (called_form ds ns s) q → Sends (occurrences (process_form cs (call_sends s))) q
    call_sent (skips at) q h = absurd h
    call_sent (assigns target e) q h = absurd h
    call_sent (sends chan e) q h = absurd h
    call_sent (receives chan target) q h = absurd h
    call_sent (follows us) q h = one_sent us q h
    call_sent (besides us) q h = one_sent us q h
    call_sent (selects again xs) q h = choice_sent xs q h
    call_sent (repeats s) q h = call_sent s q h
    call_sent (calls of) q h =
        (done_at (sends_on (channel_number cs of.name)) of.at, (0, omega arith, refl), ap sends_on (alike of.name ∙ h))

    one_sent : (us : Statements) (q : ℕ) → OneCalls (called_forms ds ns us) q → Sends (occurrences_of_each (processes_form cs (call_sends_each us))) q
    one_sent plain.no_members q h = absurd h
    one_sent (plain.and_member s more) q (inl h) =
        sends_left (occurrences (process_form cs (call_sends s))) (occurrences_of_each (processes_form cs (call_sends_each more))) q (call_sent s q h)
    one_sent (plain.and_member s more) q (inr h) =
        sends_right (occurrences (process_form cs (call_sends s))) (occurrences_of_each (processes_form cs (call_sends_each more))) q (one_sent more q h)

    choice_sent : (xs : Arms) (q : ℕ) → ChoiceCalls (called_arms ds ns xs) q → Sends (occurrences_of_choices (choices_form cs (call_sends_arms xs))) q
    choice_sent no_arms q h = absurd h
    choice_sent (and_arm g s more) q (inl h) =
        sends_left (occurrences (process_form cs (call_sends s))) (occurrences_of_choices (choices_form cs (call_sends_arms more))) q (call_sent s q h)
    choice_sent (and_arm g s more) q (inr h) =
        sends_right (occurrences (process_form cs (call_sends s))) (occurrences_of_choices (choices_form cs (call_sends_arms more))) q (choice_sent more q h)

  clash : (q : ℕ) (a b : Occurrence) → a.deed ≡ sends_on q → b.deed ≡ sends_on q → Clashes code.SharedSend a.deed b.deed
  clash q a b p r = subst (λ d. Clashes code.SharedSend d b.deed) (sym p) (subst (λ d. Clashes code.SharedSend (sends_on q) d) (sym r) refl)

  mutual
    pub calls_apart : (s : Statement) → ((a b : Occurrence) → Parallel (process_form cs (call_sends s)) a b → ¬ Clashes code.SharedSend a.deed b.deed)
        → CallsApart (called_form ds ns s)
    calls_apart (skips at) none = tt
    calls_apart (assigns target e) none = tt
    calls_apart (sends chan e) none = tt
    calls_apart (receives chan target) none = tt
    calls_apart (follows us) none = members_apart us none
    calls_apart (besides us) none = branches_apart us (λ a b par. none a b (inl par)) (λ a b par. none a b (inr par))
    calls_apart (selects again xs) none = arms_apart xs none
    calls_apart (repeats s) none = calls_apart s none
    calls_apart (calls of) none = tt

    members_apart : (us : Statements)
        → ((a b : Occurrence) → ParallelInside (processes_form cs (call_sends_each us)) a b → ¬ Clashes code.SharedSend a.deed b.deed)
        → MembersApart (called_forms ds ns us)
    members_apart plain.no_members none = tt
    members_apart (plain.and_member s more) none =
        (calls_apart s (λ a b par. none a b (inl par)), members_apart more (λ a b par. none a b (inr par)))

    branches_apart : (us : Statements)
        → ((a b : Occurrence) → ParallelInside (processes_form cs (call_sends_each us)) a b → ¬ Clashes code.SharedSend a.deed b.deed)
        → ((a b : Occurrence) → ParallelAcross (processes_form cs (call_sends_each us)) a b → ¬ Clashes code.SharedSend a.deed b.deed)
        → BranchesApart (called_forms ds ns us)
    branches_apart plain.no_members inside across = tt
    branches_apart (plain.and_member s more) inside across = (
      calls_apart s (λ a b par. inside a b (inl par)),
      λ q here there.
          let x = call_sent s q here in
          let y = one_sent more q there in
          across x.0 y.0 (inl (inl (x.1, y.1))) (clash q x.0 y.0 x.2 y.2),
      branches_apart more (λ a b par. inside a b (inr par)) (λ a b par. across a b (inr par)),
    )

    arms_apart : (xs : Arms)
        → ((a b : Occurrence) → ParallelInChoices (choices_form cs (call_sends_arms xs)) a b → ¬ Clashes code.SharedSend a.deed b.deed)
        → ChoicesApart (called_arms ds ns xs)
    arms_apart no_arms none = tt
    arms_apart (and_arm g s more) none =
        (calls_apart s (λ a b par. none a b (inl par)), arms_apart more (λ a b par. none a b (inr par)))
