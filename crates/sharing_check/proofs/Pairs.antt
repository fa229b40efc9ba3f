-- Parallel pairs of occurrences: in either order, in one more member, and in one more branch of a selection.
use Rattle.std.proofs.Common.{◌≡◌, ◌⊎◌, inl, inr, List, [], ◌++◌, Contains, sym, ap, ◌∙◌, subst, append_assoc, append-nil, arith}
use Rattle.std.proofs.lemmas.List.Elements.{Contains-append_left, Contains-append_right, Contains-append_cases}
use Rattle.chp_base.specs.declared.fault.FaultCode.{FaultCode}
use Rattle.chp_base.specs.declared.fault.FaultCode.TheVariants as code
use Rattle.width_check.specs.Processes.{Formula, Process, skipping, assigning, sending, receiving, in_turn, side_by_side, choosing, repeating, Processes, no_members, and_member, Choices, no_choices, and_choice}
use Rattle.width_check.specs.Sharing.{Deed, reads_var, writes_var, sends_on, receives_on, Occurrence, reads_of, occurrences, occurrences_of_each, occurrences_of_choices, IsAcross, Parallel, ParallelInside, ParallelInChoices, ParallelAcross, Clashes}

pub clashes_sym : (c : FaultCode) (d e : Deed) → Clashes c d e → Clashes c e d
clashes_sym code.SharedVariable (writes_var x) (writes_var y) h = sym h
clashes_sym code.SharedVariable (writes_var x) (reads_var y) h = sym h
clashes_sym code.SharedVariable (reads_var x) (writes_var y) h = sym h
clashes_sym code.SharedSend (sends_on x) (sends_on y) h = sym h
clashes_sym code.SharedReceive (receives_on x) (receives_on y) h = sym h
clashes_sym _ _ _ h = absurd h

across_sym : (xs ys : List Occurrence) (a b : Occurrence) → IsAcross xs ys a b → IsAcross xs ys b a
across_sym xs ys a b (inl h) = inr (h.1, h.0)
across_sym xs ys a b (inr h) = inl (h.1, h.0)

mutual
  pub parallel_sym : (p : Process) (a b : Occurrence) → Parallel p a b → Parallel p b a
  parallel_sym skipping a b h = h
  parallel_sym (assigning x s e) a b h = h
  parallel_sym (sending k s e) a b h = h
  parallel_sym (receiving k s x t) a b h = h
  parallel_sym (in_turn members) a b h = inside_sym members a b h
  parallel_sym (side_by_side members) a b (inl h) = inl (inside_sym members a b h)
  parallel_sym (side_by_side members) a b (inr h) = inr (members_sym members a b h)
  parallel_sym (choosing again choices) a b h = choices_sym choices a b h
  parallel_sym (repeating p) a b h = parallel_sym p a b h

  inside_sym : (members : Processes) (a b : Occurrence) → ParallelInside members a b → ParallelInside members b a
  inside_sym no_members a b h = h
  inside_sym (and_member p more) a b (inl h) = inl (parallel_sym p a b h)
  inside_sym (and_member p more) a b (inr h) = inr (inside_sym more a b h)

  choices_sym : (choices : Choices) (a b : Occurrence) → ParallelInChoices choices a b → ParallelInChoices choices b a
  choices_sym no_choices a b h = h
  choices_sym (and_choice g p more) a b (inl h) = inl (parallel_sym p a b h)
  choices_sym (and_choice g p more) a b (inr h) = inr (choices_sym more a b h)

  members_sym : (members : Processes) (a b : Occurrence) → ParallelAcross members a b → ParallelAcross members b a
  members_sym no_members a b h = h
  members_sym (and_member p more) a b (inl h) = inl (across_sym (occurrences p) (occurrences_of_each more) a b h)
  members_sym (and_member p more) a b (inr h) = inr (members_sym more a b h)

-- the members and one more behind them, and the choices and one more
abbrev pub with_member : Processes → Process → Processes
with_member no_members p = and_member p no_members
with_member (and_member q more) p = and_member q (with_member more p)

abbrev pub with_choice : Choices → Formula → Process → Choices
with_choice no_choices g p = and_choice g p no_choices
with_choice (and_choice h q more) g p = and_choice h q (with_choice more g p)

pub member_occurrences : (members : Processes) (p : Process) → occurrences_of_each (with_member members p) ≡ occurrences_of_each members ++ occurrences p
member_occurrences no_members p = append-nil (occurrences p)
member_occurrences (and_member q more) p = ap (λ (os : List Occurrence). occurrences q ++ os) (member_occurrences more p)
    ∙ sym (append_assoc (occurrences q) (occurrences_of_each more) (occurrences p))

pub choice_occurrences : (choices : Choices) (g : Formula) (p : Process)
    → occurrences_of_choices (with_choice choices g p) ≡ occurrences_of_choices choices ++ (reads_of g ++ occurrences p)
choice_occurrences no_choices g p = ap (λ (os : List Occurrence). reads_of g ++ os) (append-nil (occurrences p))
choice_occurrences (and_choice h q more) g p =
    ap (λ (os : List Occurrence). reads_of h ++ (occurrences q ++ os)) (choice_occurrences more g p)
    ∙ ap (λ (os : List Occurrence). reads_of h ++ os) (sym (append_assoc (occurrences q) (occurrences_of_choices more) (reads_of g ++ occurrences p)))
    ∙ sym (append_assoc (reads_of h) (occurrences q ++ occurrences_of_choices more) (reads_of g ++ occurrences p))

-- a pair within one more member is within the former ones or in it
pub inside_more : (members : Processes) (p : Process) (a b : Occurrence) → ParallelInside (with_member members p) a b
    → ParallelInside members a b ⊎ Parallel p a b
inside_more no_members p a b (inl h) = inr h
inside_more no_members p a b (inr h) = inl h
inside_more (and_member q more) p a b (inl h) = inl (inl h)
inside_more (and_member q more) p a b (inr h) = by_rest (inside_more more p a b h)
  where
    by_rest : ParallelInside more a b ⊎ Parallel p a b → ParallelInside (and_member q more) a b ⊎ Parallel p a b
    by_rest (inl k) = inl (inr k)
    by_rest (inr k) = inr k

pub more_inside : (members : Processes) (p : Process) (a b : Occurrence) → ParallelInside members a b ⊎ Parallel p a b
    → ParallelInside (with_member members p) a b
more_inside no_members p a b (inl h) = absurd h
more_inside no_members p a b (inr h) = inl h
more_inside (and_member q more) p a b (inl (inl h)) = inl h
more_inside (and_member q more) p a b (inl (inr h)) = inr (more_inside more p a b (inl h))
more_inside (and_member q more) p a b (inr h) = inr (more_inside more p a b (inr h))

pub choice_more : (choices : Choices) (g : Formula) (p : Process) (a b : Occurrence) → ParallelInChoices (with_choice choices g p) a b
    → ParallelInChoices choices a b ⊎ Parallel p a b
choice_more no_choices g p a b (inl h) = inr h
choice_more no_choices g p a b (inr h) = inl h
choice_more (and_choice f q more) g p a b (inl h) = inl (inl h)
choice_more (and_choice f q more) g p a b (inr h) = by_rest (choice_more more g p a b h)
  where
    by_rest : ParallelInChoices more a b ⊎ Parallel p a b → ParallelInChoices (and_choice f q more) a b ⊎ Parallel p a b
    by_rest (inl k) = inl (inr k)
    by_rest (inr k) = inr k

pub more_choice : (choices : Choices) (g : Formula) (p : Process) (a b : Occurrence) → ParallelInChoices choices a b ⊎ Parallel p a b
    → ParallelInChoices (with_choice choices g p) a b
more_choice no_choices g p a b (inl h) = absurd h
more_choice no_choices g p a b (inr h) = inl h
more_choice (and_choice f q more) g p a b (inl (inl h)) = inl h
more_choice (and_choice f q more) g p a b (inl (inr h)) = inr (more_choice more g p a b (inl h))
more_choice (and_choice f q more) g p a b (inr h) = inr (more_choice more g p a b (inr h))

-- across some occurrences and those of two lists is across them and those of one
across_cases : (xs ys zs : List Occurrence) (a b : Occurrence) → IsAcross xs (ys ++ zs) a b → IsAcross xs ys a b ⊎ IsAcross xs zs a b
across_cases xs ys zs a b (inl h) = by_list (Contains-append_cases ys zs b h.1)
  where
    by_list : Contains ys b ⊎ Contains zs b → IsAcross xs ys a b ⊎ IsAcross xs zs a b
    by_list (inl k) = inl (inl (h.0, k))
    by_list (inr k) = inr (inl (h.0, k))
across_cases xs ys zs a b (inr h) = by_list (Contains-append_cases ys zs a h.0)
  where
    by_list : Contains ys a ⊎ Contains zs a → IsAcross xs ys a b ⊎ IsAcross xs zs a b
    by_list (inl k) = inl (inr (k, h.1))
    by_list (inr k) = inr (inr (k, h.1))

across_left : (xs ys zs : List Occurrence) (a b : Occurrence) → IsAcross xs ys a b → IsAcross xs (ys ++ zs) a b
across_left xs ys zs a b (inl h) = inl (h.0, Contains-append_left ys zs b h.1)
across_left xs ys zs a b (inr h) = inr (Contains-append_left ys zs a h.0, h.1)

across_right : (xs ys zs : List Occurrence) (a b : Occurrence) → IsAcross xs zs a b → IsAcross xs (ys ++ zs) a b
across_right xs ys zs a b (inl h) = inl (h.0, Contains-append_right ys zs b h.1)
across_right xs ys zs a b (inr h) = inr (Contains-append_right ys zs a h.0, h.1)

-- the same on the other side
joined_cases : (xs ys zs : List Occurrence) (a b : Occurrence) → IsAcross (xs ++ ys) zs a b → IsAcross xs zs a b ⊎ IsAcross ys zs a b
joined_cases xs ys zs a b (inl h) = by_list (Contains-append_cases xs ys a h.0)
  where
    by_list : Contains xs a ⊎ Contains ys a → IsAcross xs zs a b ⊎ IsAcross ys zs a b
    by_list (inl k) = inl (inl (k, h.1))
    by_list (inr k) = inr (inl (k, h.1))
joined_cases xs ys zs a b (inr h) = by_list (Contains-append_cases xs ys b h.1)
  where
    by_list : Contains xs b ⊎ Contains ys b → IsAcross xs zs a b ⊎ IsAcross ys zs a b
    by_list (inl k) = inl (inr (h.0, k))
    by_list (inr k) = inr (inr (h.0, k))

joined_left : (xs ys zs : List Occurrence) (a b : Occurrence) → IsAcross xs zs a b → IsAcross (xs ++ ys) zs a b
joined_left xs ys zs a b (inl h) = inl (Contains-append_left xs ys a h.0, h.1)
joined_left xs ys zs a b (inr h) = inr (h.0, Contains-append_left xs ys b h.1)

joined_right : (xs ys zs : List Occurrence) (a b : Occurrence) → IsAcross ys zs a b → IsAcross (xs ++ ys) zs a b
joined_right xs ys zs a b (inl h) = inl (Contains-append_right xs ys a h.0, h.1)
joined_right xs ys zs a b (inr h) = inr (h.0, Contains-append_right xs ys b h.1)

none_across : (ys : List Occurrence) (a b : Occurrence) → ¬ IsAcross [] ys a b
none_across ys a b (inl h) = let within = h.0.1 in omega arith
none_across ys a b (inr h) = let within = h.1.1 in omega arith

across_none : (xs : List Occurrence) (a b : Occurrence) → ¬ IsAcross xs [] a b
across_none xs a b (inl h) = let within = h.1.1 in omega arith
across_none xs a b (inr h) = let within = h.0.1 in omega arith

-- a pair across one more member is across the former ones, or across them and it
pub members_more : (members : Processes) (p : Process) (a b : Occurrence) → ParallelAcross (with_member members p) a b
    → ParallelAcross members a b ⊎ IsAcross (occurrences_of_each members) (occurrences p) a b
members_more no_members p a b (inl h) = absurd (across_none (occurrences p) a b h)
members_more no_members p a b (inr h) = inl h
members_more (and_member q more) p a b (inl h) =
    by_list (across_cases (occurrences q) (occurrences_of_each more) (occurrences p) a b
    (subst (λ (os : List Occurrence). IsAcross (occurrences q) os a b) (member_occurrences more p) h))
  where
    by_list : IsAcross (occurrences q) (occurrences_of_each more) a b ⊎ IsAcross (occurrences q) (occurrences p) a b
        → ParallelAcross (and_member q more) a b ⊎ IsAcross (occurrences_of_each (and_member q more)) (occurrences p) a b
    by_list (inl k) = inl (inl k)
    by_list (inr k) = inr (joined_left (occurrences q) (occurrences_of_each more) (occurrences p) a b k)
members_more (and_member q more) p a b (inr h) = by_rest (members_more more p a b h)
  where
    by_rest : ParallelAcross more a b ⊎ IsAcross (occurrences_of_each more) (occurrences p) a b
        → ParallelAcross (and_member q more) a b ⊎ IsAcross (occurrences_of_each (and_member q more)) (occurrences p) a b
    by_rest (inl k) = inl (inr k)
    by_rest (inr k) = inr (joined_right (occurrences q) (occurrences_of_each more) (occurrences p) a b k)

pub more_members : (members : Processes) (p : Process) (a b : Occurrence)
    → ParallelAcross members a b ⊎ IsAcross (occurrences_of_each members) (occurrences p) a b
    → ParallelAcross (with_member members p) a b
more_members no_members p a b (inl h) = absurd h
more_members no_members p a b (inr h) = absurd (none_across (occurrences p) a b h)
more_members (and_member q more) p a b (inl (inl h)) =
    inl (subst (λ (os : List Occurrence). IsAcross (occurrences q) os a b) (sym (member_occurrences more p))
    (across_left (occurrences q) (occurrences_of_each more) (occurrences p) a b h))
more_members (and_member q more) p a b (inl (inr h)) = inr (more_members more p a b (inl h))
more_members (and_member q more) p a b (inr h) =
    by_list (joined_cases (occurrences q) (occurrences_of_each more) (occurrences p) a b h) (λ k. more_members more p a b (inr k))
  where
    by_list : IsAcross (occurrences q) (occurrences p) a b ⊎ IsAcross (occurrences_of_each more) (occurrences p) a b
        → (IsAcross (occurrences_of_each more) (occurrences p) a b → ParallelAcross (with_member more p) a b) →
        ParallelAcross (with_member (and_member q more) p) a b
    by_list (inl k) rest =
        inl (subst (λ (os : List Occurrence). IsAcross (occurrences q) os a b) (sym (member_occurrences more p))
        (across_right (occurrences q) (occurrences_of_each more) (occurrences p) a b k))
    by_list (inr k) rest = inr (rest k)
