-- Of two processes that are the same but for places one shares what the other does.
--
-- a, b: two occurrences; c: a cause.
use Rattle.std.proofs.Common.{◌≡◌, List, [], ◌∷◌, ◌++◌, map, refl, sym, ap, ◌∙◌, subst, inl, inr, ⊎_elim, arith}
use Rattle.std.specs.Prelude.{Contains}
use Rattle.std.proofs.lemmas.List.{map-append}
use Rattle.chp_base.specs.declared.fault.FaultCode.{FaultCode}
use Rattle.chp_base.specs.declared.fault.FaultCode.TheVariants as code
use Rattle.call_merge.specs.CallSites.{no_place}
use Rattle.width_check.specs.Processes.{Formula, constant, reading, joined, inverted, chained, compared, Formulas, no_parts, and_part, Operations, no_operations, and_operation, Process, skipping, assigning, sending, receiving, in_turn, side_by_side, choosing, repeating, Processes, no_members, and_member, Choices, no_choices, and_choice}
use Rattle.width_check.specs.Sharing.{writes_var, sends_on, Occurrence, done_at, reads_of, reads_of_parts, reads_of_operations, occurrences, occurrences_of_each, occurrences_of_choices, IsAcross, Parallel, ParallelInside, ParallelInChoices, ParallelAcross, Clashes, IsUnshared, MeetsSharing}
use Rattle.width_check.proofs.Least.{no_item, in_rest, front_or_rest}
use Rattle.chp_cli.specs.UnplacedForms.{unplaced_formula, unplaced_formulas, unplaced_operations, unplaced_process, unplaced_processes, unplaced_choices}

abbrev unplaced_deed : Occurrence → Occurrence
unplaced_deed o = record { deed = o.deed; at = no_place }

both_deeds : (xs ys ls rs : List Occurrence) → ls ≡ map unplaced_deed xs → rs ≡ map unplaced_deed ys → ls ++ rs ≡ map unplaced_deed (xs ++ ys)
both_deeds xs ys ls rs left right =
    ap (λ l. l ++ rs) left ∙ (ap (λ l. map unplaced_deed xs ++ l) right ∙ sym (map-append unplaced_deed xs ys))

mutual
  reads_same : (e : Formula) → reads_of (unplaced_formula e) ≡ map unplaced_deed (reads_of e)
  reads_same (constant width v) = refl
  reads_same (reading var high low at) = refl
  reads_same (joined parts) = reads_same_parts parts
  reads_same (inverted e) = reads_same e
  reads_same (chained e more) = both_deeds (reads_of e) (reads_of_operations more) _ _ (reads_same e) (reads_same_operations more)
  reads_same (compared op e f) = both_deeds (reads_of e) (reads_of f) _ _ (reads_same e) (reads_same f)

  reads_same_parts : (parts : Formulas) → reads_of_parts (unplaced_formulas parts) ≡ map unplaced_deed (reads_of_parts parts)
  reads_same_parts no_parts = refl
  reads_same_parts (and_part e more) = both_deeds (reads_of e) (reads_of_parts more) _ _ (reads_same e) (reads_same_parts more)

  reads_same_operations : (more : Operations) → reads_of_operations (unplaced_operations more) ≡ map unplaced_deed (reads_of_operations more)
  reads_same_operations no_operations = refl
  reads_same_operations (and_operation op e more) =
      both_deeds (reads_of e) (reads_of_operations more) _ _ (reads_same e) (reads_same_operations more)

mutual
  deeds_same : (p : Process) → occurrences (unplaced_process p) ≡ map unplaced_deed (occurrences p)
  deeds_same skipping = refl
  deeds_same (assigning var at e) = ap (λ l. done_at (writes_var var) no_place ∷ l) (reads_same e)
  deeds_same (sending chan at e) = ap (λ l. done_at (sends_on chan) no_place ∷ l) (reads_same e)
  deeds_same (receiving chan chan_at var var_at) = refl
  deeds_same (in_turn members) = deeds_same_each members
  deeds_same (side_by_side members) = deeds_same_each members
  deeds_same (choosing again choices) = deeds_same_choices choices
  deeds_same (repeating p) = deeds_same p

  deeds_same_each : (members : Processes) → occurrences_of_each (unplaced_processes members) ≡ map unplaced_deed (occurrences_of_each members)
  deeds_same_each no_members = refl
  deeds_same_each (and_member p more) = both_deeds (occurrences p) (occurrences_of_each more) _ _ (deeds_same p) (deeds_same_each more)

  deeds_same_choices : (choices : Choices) → occurrences_of_choices (unplaced_choices choices) ≡ map unplaced_deed (occurrences_of_choices choices)
  deeds_same_choices no_choices = refl
  deeds_same_choices (and_choice g p more) =
      both_deeds (reads_of g) (occurrences p ++ occurrences_of_choices more) _ _ (reads_same g)
      (both_deeds (occurrences p) (occurrences_of_choices more) _ _ (deeds_same p) (deeds_same_choices more))

-- members of lists

mapped : (xs : List Occurrence) (x : Occurrence) → Contains xs x → Contains (map unplaced_deed xs) (unplaced_deed x)
mapped [] x c = absurd (no_item x c)
mapped (y ∷ xs) x c =
    ⊎_elim (λ (e : y ≡ x). (0, omega arith, ap unplaced_deed e))
    (λ there. in_rest (unplaced_deed y) (unplaced_deed x) (map unplaced_deed xs) (mapped xs x there)) (front_or_rest y x xs c)

unmapped : (xs : List Occurrence) (y : Occurrence) → Contains (map unplaced_deed xs) y → (x : Occurrence) × Contains xs x × (x.deed ≡ y.deed)
unmapped [] y c = absurd (no_item y c)
unmapped (x ∷ xs) y c =
    ⊎_elim (λ (e : unplaced_deed x ≡ y). (x, (0, omega arith, refl), ap (λ (o : Occurrence). o.deed) e))
    (λ there. let r = unmapped xs y there in (r.0, in_rest x r.0 xs r.1, r.2)) (front_or_rest (unplaced_deed x) y (map unplaced_deed xs) c)

placed_in : (xs ls : List Occurrence) → ls ≡ map unplaced_deed xs → (x : Occurrence) → Contains xs x → Contains ls (unplaced_deed x)
placed_in xs ls is x c = subst (λ l. Contains l (unplaced_deed x)) (sym is) (mapped xs x c)

found_in : (xs ls : List Occurrence) → ls ≡ map unplaced_deed xs → (y : Occurrence) → Contains ls y → (x : Occurrence) × Contains xs x × (x.deed ≡ y.deed)
found_in xs ls is y c = unmapped xs y (subst (λ l. Contains l y) is c)

-- parallel occurrences, without their places

across_to : (p : Process) (more : Processes) (a b : Occurrence) → IsAcross (occurrences p) (occurrences_of_each more) a b
    → IsAcross (occurrences (unplaced_process p)) (occurrences_of_each (unplaced_processes more)) (unplaced_deed a) (unplaced_deed b)
across_to p more a b (inl h) = inl (placed_in (occurrences p) _ (deeds_same p) a h.0, placed_in (occurrences_of_each more) _ (deeds_same_each more) b h.1)
across_to p more a b (inr h) = inr (placed_in (occurrences_of_each more) _ (deeds_same_each more) a h.0, placed_in (occurrences p) _ (deeds_same p) b h.1)

mutual
  parallel_to : (p : Process) (a b : Occurrence) → Parallel p a b → Parallel (unplaced_process p) (unplaced_deed a) (unplaced_deed b)
  parallel_to skipping a b h = absurd h
  parallel_to (assigning var at e) a b h = absurd h
  parallel_to (sending chan at e) a b h = absurd h
  parallel_to (receiving chan chan_at var var_at) a b h = absurd h
  parallel_to (in_turn members) a b h = inside_to members a b h
  parallel_to (side_by_side members) a b (inl h) = inl (inside_to members a b h)
  parallel_to (side_by_side members) a b (inr h) = inr (members_to members a b h)
  parallel_to (choosing again choices) a b h = choices_to choices a b h
  parallel_to (repeating p) a b h = parallel_to p a b h

  inside_to : (members : Processes) (a b : Occurrence) → ParallelInside members a b
      → ParallelInside (unplaced_processes members) (unplaced_deed a) (unplaced_deed b)
  inside_to no_members a b h = absurd h
  inside_to (and_member p more) a b (inl h) = inl (parallel_to p a b h)
  inside_to (and_member p more) a b (inr h) = inr (inside_to more a b h)

  choices_to : (choices : Choices) (a b : Occurrence) → ParallelInChoices choices a b
      → ParallelInChoices (unplaced_choices choices) (unplaced_deed a) (unplaced_deed b)
  choices_to no_choices a b h = absurd h
  choices_to (and_choice g p more) a b (inl h) = inl (parallel_to p a b h)
  choices_to (and_choice g p more) a b (inr h) = inr (choices_to more a b h)

  members_to : (members : Processes) (a b : Occurrence) → ParallelAcross members a b
      → ParallelAcross (unplaced_processes members) (unplaced_deed a) (unplaced_deed b)
  members_to no_members a b h = absurd h
  members_to (and_member p more) a b (inl h) = inl (across_to p more a b h)
  members_to (and_member p more) a b (inr h) = inr (members_to more a b h)

-- and with them again

record Placed (Is : Occurrence → Occurrence → Type 0) (a b : Occurrence) : Type 0 where
  pub first : Occurrence
  pub second : Occurrence
  pub is : Is first second
  pub same_first : first.deed ≡ a.deed
  pub same_second : second.deed ≡ b.deed

placed_as : {P Q : Occurrence → Occurrence → Type 0} → ((a b : Occurrence) → P a b → Q a b) → (a b : Occurrence) → Placed P a b → Placed Q a b
placed_as f a b h = record {
  first = h.first;
  second = h.second;
  is = f h.first h.second h.is;
  same_first = h.same_first;
  same_second = h.same_second;
}

across_from : (p : Process) (more : Processes) (a b : Occurrence)
    → IsAcross (occurrences (unplaced_process p)) (occurrences_of_each (unplaced_processes more)) a b
    → Placed (IsAcross (occurrences p) (occurrences_of_each more)) a b
across_from p more a b (inl h) =
    let x = found_in (occurrences p) _ (deeds_same p) a h.0 in
    let y = found_in (occurrences_of_each more) _ (deeds_same_each more) b h.1 in
    record { first = x.0; second = y.0; is = inl (x.1, y.1); same_first = x.2; same_second = y.2 }
across_from p more a b (inr h) =
    let x = found_in (occurrences_of_each more) _ (deeds_same_each more) a h.0 in
    let y = found_in (occurrences p) _ (deeds_same p) b h.1 in
    record { first = x.0; second = y.0; is = inr (x.1, y.1); same_first = x.2; same_second = y.2 }

mutual
  parallel_from : (p : Process) (a b : Occurrence) → Parallel (unplaced_process p) a b → Placed (Parallel p) a b
  parallel_from skipping a b h = absurd h
  parallel_from (assigning var at e) a b h = absurd h
  parallel_from (sending chan at e) a b h = absurd h
  parallel_from (receiving chan chan_at var var_at) a b h = absurd h
  parallel_from (in_turn members) a b h = placed_as {Q = Parallel (in_turn members)} (λ x y i. i) a b (inside_from members a b h)
  parallel_from (side_by_side members) a b (inl h) = placed_as {Q = Parallel (side_by_side members)} (λ x y i. inl i) a b (inside_from members a b h)
  parallel_from (side_by_side members) a b (inr h) = placed_as {Q = Parallel (side_by_side members)} (λ x y i. inr i) a b (members_from members a b h)
  parallel_from (choosing again choices) a b h = placed_as {Q = Parallel (choosing again choices)} (λ x y i. i) a b (choices_from choices a b h)
  parallel_from (repeating p) a b h = placed_as {Q = Parallel (repeating p)} (λ x y i. i) a b (parallel_from p a b h)

  inside_from : (members : Processes) (a b : Occurrence) → ParallelInside (unplaced_processes members) a b → Placed (ParallelInside members) a b
  inside_from no_members a b h = absurd h
  inside_from (and_member p more) a b (inl h) = placed_as {Q = ParallelInside (and_member p more)} (λ x y i. inl i) a b (parallel_from p a b h)
  inside_from (and_member p more) a b (inr h) = placed_as {Q = ParallelInside (and_member p more)} (λ x y i. inr i) a b (inside_from more a b h)

  choices_from : (choices : Choices) (a b : Occurrence) → ParallelInChoices (unplaced_choices choices) a b → Placed (ParallelInChoices choices) a b
  choices_from no_choices a b h = absurd h
  choices_from (and_choice g p more) a b (inl h) = placed_as {Q = ParallelInChoices (and_choice g p more)} (λ x y i. inl i) a b (parallel_from p a b h)
  choices_from (and_choice g p more) a b (inr h) = placed_as {Q = ParallelInChoices (and_choice g p more)} (λ x y i. inr i) a b (choices_from more a b h)

  members_from : (members : Processes) (a b : Occurrence) → ParallelAcross (unplaced_processes members) a b → Placed (ParallelAcross members) a b
  members_from no_members a b h = absurd h
  members_from (and_member p more) a b (inl h) = placed_as {Q = ParallelAcross (and_member p more)} (λ x y i. inl i) a b (across_from p more a b h)
  members_from (and_member p more) a b (inr h) = placed_as {Q = ParallelAcross (and_member p more)} (λ x y i. inr i) a b (members_from more a b h)

pub unshared_alike : (p q : Process) → unplaced_process p ≡ unplaced_process q → (c : FaultCode) → IsUnshared p c → IsUnshared q c
unshared_alike p q same c unshared a b parallel clash =
    let there = subst (λ r. Parallel r (unplaced_deed a) (unplaced_deed b)) (sym same) (parallel_to q a b parallel) in
    let here = parallel_from p (unplaced_deed a) (unplaced_deed b) there in
    unshared here.first here.second here.is
    (subst (λ d. Clashes c d here.second.deed) (sym here.same_first) (subst (λ d. Clashes c a.deed d) (sym here.same_second) clash))

pub sharing_alike : (p q : Process) → unplaced_process p ≡ unplaced_process q → MeetsSharing p → MeetsSharing q
sharing_alike p q same meets = record {
  variables = unshared_alike p q same code.SharedVariable meets.variables;
  sends = unshared_alike p q same code.SharedSend meets.sends;
  receives = unshared_alike p q same code.SharedReceive meets.receives;
}
