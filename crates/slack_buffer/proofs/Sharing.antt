-- A program with a buffer meets the sharing rule.
use Rattle.std.proofs.Common.{◌≡◌, ◌≢◌, ◌⊎◌, ℕ, ◌<◌, true, false, List, [], ◌∷◌, ◌++◌, length, refl, sym, ap, ◌∙◌, subst, inl, inr, arith}
use Rattle.std.specs.Prelude.{if◌then◌else◌, ◌==◌}
use Rattle.std.proofs.lemmas.Bool.Decides.{eqb_tells}
use Rattle.chp_base.specs.declared.channel.Channel.{Channel}
use Rattle.width_check.specs.declared.typed.Var.{Var}
use Rattle.width_check.specs.Processes.{Formula, constant, reading, joined, inverted, chained, compared, Formulas, no_parts, and_part, Operations, no_operations, and_operation, Process, skipping, assigning, sending, receiving, in_turn, side_by_side, choosing, repeating, Processes, no_members, and_member, Choices, no_choices, and_choice}
use Rattle.width_check.specs.Typing.{ReadsFrom, EachReadsFrom, AllReadFrom, IsProcess, AreProcesses, AreChoices}
use Rattle.width_check.specs.Sharing.{Deed, reads_var, writes_var, sends_on, receives_on, Occurrence, done_at, reads_of, reads_of_parts, reads_of_operations, occurrences, occurrences_of_each, occurrences_of_choices, MeetsSharing}
use Rattle.chp_meaning.specs.Fitting.{In, Conflict, Apart, Sound, EachSound, EachApart, ChoicesSound}
use Rattle.chp_meaning.proofs.Places.{in_left, in_right, in_either}
use Rattle.chp_meaning.proofs.Fitting.{meeting_sound}
use Rattle.chp_meaning.proofs.HalvedPrograms.{sound_meets}
use Rattle.slack_buffer.specs.Buffers.{rerouted, rerouted_each, rerouted_choices, passing_on}

-- a deed on one of so many channels or variables
abbrev Among : (channels vars : ℕ) → Deed → Type 0
Among n b (reads_var y) = y < b
Among n b (writes_var y) = y < b
Among n b (sends_on k) = k < n
Among n b (receives_on k) = k < n

abbrev AllAmong : (channels vars : ℕ) → List Occurrence → Type 0
AllAmong n b xs = (u : Occurrence) → In xs u → Among n b u.deed

none_among : (n b : ℕ) → AllAmong n b []
none_among n b u i = absurd i

more_among : (n b : ℕ) (x : Occurrence) (xs : List Occurrence) → Among n b x.deed → AllAmong n b xs → AllAmong n b (x ∷ xs)
more_among n b x xs f g u (inl e) = subst (λ (z : Occurrence). Among n b z.deed) e f
more_among n b x xs f g u (inr i) = g u i

both_among : (n b : ℕ) (xs ys : List Occurrence) → AllAmong n b xs → AllAmong n b ys → AllAmong n b (xs ++ ys)
both_among n b xs ys f g u i = by_side (in_either xs ys u i)
  where
    by_side : In xs u ⊎ In ys u → Among n b u.deed
    by_side (inl h) = f u h
    by_side (inr h) = g u h

mutual
  reads_among : (n : ℕ) (vars : List Var) (e : Formula) → ReadsFrom vars e → AllAmong n (length vars) (reads_of e)
  reads_among n vars (constant w v) f = none_among n (length vars)
  reads_among n vars (reading var high low at) f = more_among n (length vars) (done_at (reads_var var) at) [] f.0 (none_among n (length vars))
  reads_among n vars (joined parts) f = parts_among n vars parts f
  reads_among n vars (inverted e) f = reads_among n vars e f
  reads_among n vars (chained e more) f =
      both_among n (length vars) (reads_of e) (reads_of_operations more) (reads_among n vars e f.0) (operations_among n vars more f.1)
  reads_among n vars (compared op e d) f =
      both_among n (length vars) (reads_of e) (reads_of d) (reads_among n vars e f.0) (reads_among n vars d f.1)

  parts_among : (n : ℕ) (vars : List Var) (parts : Formulas) → EachReadsFrom vars parts → AllAmong n (length vars) (reads_of_parts parts)
  parts_among n vars no_parts f = none_among n (length vars)
  parts_among n vars (and_part e more) f =
      both_among n (length vars) (reads_of e) (reads_of_parts more) (reads_among n vars e f.0) (parts_among n vars more f.1)

  operations_among : (n : ℕ) (vars : List Var) (more : Operations) → AllReadFrom vars more → AllAmong n (length vars) (reads_of_operations more)
  operations_among n vars no_operations f = none_among n (length vars)
  operations_among n vars (and_operation op e more) f =
      both_among n (length vars) (reads_of e) (reads_of_operations more) (reads_among n vars e f.0) (operations_among n vars more f.1)

mutual
  process_among : (cs : List Channel) (vs : List Var) (p : Process) → IsProcess cs vs p → AllAmong (length cs) (length vs) (occurrences p)
  process_among cs vs skipping t = none_among (length cs) (length vs)
  process_among cs vs (assigning x at e) t =
      more_among (length cs) (length vs) (done_at (writes_var x) at) (reads_of e) t.0 (reads_among (length cs) vs e t.1.reads)
  process_among cs vs (sending k at e) t =
      more_among (length cs) (length vs) (done_at (sends_on k) at) (reads_of e) t.within (reads_among (length cs) vs e t.sent.reads)
  process_among cs vs (receiving k at x x_at) t =
      more_among (length cs) (length vs) (done_at (receives_on k) at) (done_at (writes_var x) x_at ∷ []) t.within
      (more_among (length cs) (length vs) (done_at (writes_var x) x_at) [] t.target (none_among (length cs) (length vs)))
  process_among cs vs (in_turn members) t = each_among cs vs members t.1
  process_among cs vs (side_by_side members) t = each_among cs vs members t.1
  process_among cs vs (choosing again choices) t = choices_among cs vs choices t.2
  process_among cs vs (repeating p) t = process_among cs vs p t

  each_among : (cs : List Channel) (vs : List Var) (members : Processes) → AreProcesses cs vs members →
      AllAmong (length cs) (length vs) (occurrences_of_each members)
  each_among cs vs no_members t = none_among (length cs) (length vs)
  each_among cs vs (and_member p more) t =
      both_among (length cs) (length vs) (occurrences p) (occurrences_of_each more) (process_among cs vs p t.0) (each_among cs vs more t.1)

  choices_among : (cs : List Channel) (vs : List Var) (choices : Choices) → AreChoices cs vs choices →
      AllAmong (length cs) (length vs) (occurrences_of_choices choices)
  choices_among cs vs no_choices t = none_among (length cs) (length vs)
  choices_among cs vs (and_choice g p more) t =
      both_among (length cs) (length vs) (reads_of g) (occurrences p ++ occurrences_of_choices more) (reads_among (length cs) vs g t.0.reads)
      (both_among (length cs) (length vs) (occurrences p) (occurrences_of_choices more) (process_among cs vs p t.1) (choices_among cs vs more t.2))

-- what a rerouted statement does

abbrev rerouted_deed : (chan copy : ℕ) → Deed → Deed
rerouted_deed x n (receives_on k) = receives_on (if k == x then n else k)
rerouted_deed x n (sends_on k) = sends_on k
rerouted_deed x n (reads_var y) = reads_var y
rerouted_deed x n (writes_var y) = writes_var y

-- each occurrence of the one list comes from one of the other
abbrev ComesFrom : (chan copy : ℕ) → List Occurrence → List Occurrence → Type 0
ComesFrom x n ys xs = (u : Occurrence) → In ys u → (v : Occurrence) × In xs v × (u.deed ≡ rerouted_deed x n v.deed)

both_come : (x n : ℕ) (ys ys' xs xs' : List Occurrence) → ComesFrom x n ys xs → ComesFrom x n ys' xs' → ComesFrom x n (ys ++ ys') (xs ++ xs')
both_come x n ys ys' xs xs' f g u i = by_side (in_either ys ys' u i)
  where
    by_side : In ys u ⊎ In ys' u → (v : Occurrence) × In (xs ++ xs') v × (u.deed ≡ rerouted_deed x n v.deed)
    by_side (inl h) = let r = f u h in (r.0, in_left xs xs' r.0 r.1, r.2)
    by_side (inr h) = let r = g u h in (r.0, in_right xs xs' r.0 r.1, r.2)

none_come : (x n : ℕ) → ComesFrom x n [] []
none_come x n u i = absurd i

more_come : (x n : ℕ) (y v : Occurrence) (ys xs : List Occurrence) → y.deed ≡ rerouted_deed x n v.deed → ComesFrom x n ys xs → ComesFrom x n (y ∷ ys) (v ∷ xs)
more_come x n y v ys xs e f u (inl same) = (v, inl refl, ap (λ (z : Occurrence). z.deed) (sym same) ∙ e)
more_come x n y v ys xs e f u (inr i) = let r = f u i in (r.0, inr r.1, r.2)

mutual
  reads_come : (x n : ℕ) (e : Formula) → ComesFrom x n (reads_of e) (reads_of e)
  reads_come x n (constant w v) = none_come x n
  reads_come x n (reading var high low at) = more_come x n (done_at (reads_var var) at) (done_at (reads_var var) at) [] [] refl (none_come x n)
  reads_come x n (joined parts) = parts_come x n parts
  reads_come x n (inverted e) = reads_come x n e
  reads_come x n (chained e more) =
      both_come x n (reads_of e) (reads_of_operations more) (reads_of e) (reads_of_operations more) (reads_come x n e) (operations_come x n more)
  reads_come x n (compared op e d) = both_come x n (reads_of e) (reads_of d) (reads_of e) (reads_of d) (reads_come x n e) (reads_come x n d)

  parts_come : (x n : ℕ) (parts : Formulas) → ComesFrom x n (reads_of_parts parts) (reads_of_parts parts)
  parts_come x n no_parts = none_come x n
  parts_come x n (and_part e more) =
      both_come x n (reads_of e) (reads_of_parts more) (reads_of e) (reads_of_parts more) (reads_come x n e) (parts_come x n more)

  operations_come : (x n : ℕ) (more : Operations) → ComesFrom x n (reads_of_operations more) (reads_of_operations more)
  operations_come x n no_operations = none_come x n
  operations_come x n (and_operation op e more) =
      both_come x n (reads_of e) (reads_of_operations more) (reads_of e) (reads_of_operations more) (reads_come x n e) (operations_come x n more)

mutual
  process_comes : (x n : ℕ) (p : Process) → ComesFrom x n (occurrences (rerouted x n p)) (occurrences p)
  process_comes x n skipping = none_come x n
  process_comes x n (assigning y at e) = more_come x n (done_at (writes_var y) at) (done_at (writes_var y) at) (reads_of e) (reads_of e) refl (reads_come x n e)
  process_comes x n (sending k at e) = more_come x n (done_at (sends_on k) at) (done_at (sends_on k) at) (reads_of e) (reads_of e) refl (reads_come x n e)
  process_comes x n (receiving k at y y_at) =
      more_come x n (done_at (receives_on (if k == x then n else k)) at) (done_at (receives_on k) at) (done_at (writes_var y) y_at ∷ [])
      (done_at (writes_var y) y_at ∷ []) refl
      (more_come x n (done_at (writes_var y) y_at) (done_at (writes_var y) y_at) [] [] refl (none_come x n))
  process_comes x n (in_turn members) = each_comes x n members
  process_comes x n (side_by_side members) = each_comes x n members
  process_comes x n (choosing again choices) = choices_come x n choices
  process_comes x n (repeating p) = process_comes x n p

  each_comes : (x n : ℕ) (members : Processes) → ComesFrom x n (occurrences_of_each (rerouted_each x n members)) (occurrences_of_each members)
  each_comes x n no_members = none_come x n
  each_comes x n (and_member p more) =
      both_come x n (occurrences (rerouted x n p)) (occurrences_of_each (rerouted_each x n more)) (occurrences p) (occurrences_of_each more)
      (process_comes x n p) (each_comes x n more)

  choices_come : (x n : ℕ) (choices : Choices) → ComesFrom x n (occurrences_of_choices (rerouted_choices x n choices)) (occurrences_of_choices choices)
  choices_come x n no_choices = none_come x n
  choices_come x n (and_choice g p more) =
      both_come x n (reads_of g) (occurrences (rerouted x n p) ++ occurrences_of_choices (rerouted_choices x n more)) (reads_of g)
      (occurrences p ++ occurrences_of_choices more) (reads_come x n g)
      (both_come x n (occurrences (rerouted x n p)) (occurrences_of_choices (rerouted_choices x n more)) (occurrences p) (occurrences_of_choices more)
      (process_comes x n p) (choices_come x n more))

-- two rerouted deeds are in conflict only where the deeds are

moved_apart : (x n j k : ℕ) → j < n → k < n → (if j == x then n else j) ≡ (if k == x then n else k) → j ≡ k
moved_apart x n j k h g e = by_tests (eqb_tells j x) (eqb_tells k x)
  where
    by_tests : (((j == x) ≡ true) × (j ≡ x)) ⊎ (((j == x) ≡ false) × (j ≢ x)) → (((k == x) ≡ true) × (k ≡ x)) ⊎ (((k == x) ≡ false) × (k ≢ x)) → j ≡ k
    by_tests (inl a) (inl b) = a.1 ∙ sym b.1
    by_tests (inl a) (inr b) =
        let f : n ≡ k = sym (ap (λ t. if t then n else j) a.0) ∙ (e ∙ ap (λ t. if t then n else k) b.0) in absurd (omega (arith, f, g))
    by_tests (inr a) (inl b) =
        let f : j ≡ n = sym (ap (λ t. if t then n else j) a.0) ∙ (e ∙ ap (λ t. if t then n else k) b.0) in absurd (omega (arith, f, h))
    by_tests (inr a) (inr b) = sym (ap (λ t. if t then n else j) a.0) ∙ (e ∙ ap (λ t. if t then n else k) b.0)

conflict_before : (x n b : ℕ) (u v : Deed) → Among n b u → Among n b v → Conflict (rerouted_deed x n u) (rerouted_deed x n v) → Conflict u v
conflict_before x n b (writes_var y) (writes_var z) f g h = h
conflict_before x n b (writes_var y) (reads_var z) f g h = h
conflict_before x n b (writes_var y) (sends_on z) f g h = absurd h
conflict_before x n b (writes_var y) (receives_on z) f g h = absurd h
conflict_before x n b (reads_var y) (writes_var z) f g h = h
conflict_before x n b (reads_var y) (reads_var z) f g h = absurd h
conflict_before x n b (reads_var y) (sends_on z) f g h = absurd h
conflict_before x n b (reads_var y) (receives_on z) f g h = absurd h
conflict_before x n b (sends_on y) (sends_on z) f g h = h
conflict_before x n b (sends_on y) (writes_var z) f g h = absurd h
conflict_before x n b (sends_on y) (reads_var z) f g h = absurd h
conflict_before x n b (sends_on y) (receives_on z) f g h = absurd h
conflict_before x n b (receives_on y) (receives_on z) f g h = moved_apart x n y z f g h
conflict_before x n b (receives_on y) (writes_var z) f g h = absurd h
conflict_before x n b (receives_on y) (reads_var z) f g h = absurd h
conflict_before x n b (receives_on y) (sends_on z) f g h = absurd h

apart_after : (x n b : ℕ) (xs ys us vs : List Occurrence) → AllAmong n b xs → AllAmong n b ys → ComesFrom x n us xs → ComesFrom x n vs ys → Apart xs ys →
    Apart us vs
apart_after x n b xs ys us vs f g from_xs from_ys apart u v i j h =
    let r = from_xs u i in
    let s = from_ys v j in
    apart r.0 s.0 r.1 s.1 (conflict_before x n b r.0.deed s.0.deed (f r.0 r.1) (g s.0 s.1)
    (subst (λ z. Conflict z (rerouted_deed x n s.0.deed)) r.2 (subst (λ z. Conflict u.deed z) s.2 h)))

mutual
  rerouted_sound : (cs : List Channel) (vs : List Var) (x : ℕ) (p : Process) → IsProcess cs vs p → Sound p → Sound (rerouted x (length cs) p)
  rerouted_sound cs vs x skipping t s = s
  rerouted_sound cs vs x (assigning y at e) t s = s
  rerouted_sound cs vs x (sending k at e) t s = s
  rerouted_sound cs vs x (receiving k at y y_at) t s = s
  rerouted_sound cs vs x (in_turn members) t s = each_sound cs vs x members t.1 s
  rerouted_sound cs vs x (side_by_side members) t s = (each_sound cs vs x members t.1 s.0, each_apart cs vs x members t.1 s.1)
  rerouted_sound cs vs x (choosing again choices) t s = choices_sound cs vs x choices t.2 s
  rerouted_sound cs vs x (repeating p) t s = rerouted_sound cs vs x p t s

  each_sound : (cs : List Channel) (vs : List Var) (x : ℕ) (members : Processes) → AreProcesses cs vs members → EachSound members →
      EachSound (rerouted_each x (length cs) members)
  each_sound cs vs x no_members t s = tt
  each_sound cs vs x (and_member p more) t s = (rerouted_sound cs vs x p t.0 s.0, each_sound cs vs x more t.1 s.1)

  each_apart : (cs : List Channel) (vs : List Var) (x : ℕ) (members : Processes) → AreProcesses cs vs members → EachApart members →
      EachApart (rerouted_each x (length cs) members)
  each_apart cs vs x no_members t s = tt
  each_apart cs vs x (and_member p more) t s = (
    apart_after x (length cs) (length vs) (occurrences p) (occurrences_of_each more) (occurrences (rerouted x (length cs) p))
        (occurrences_of_each (rerouted_each x (length cs) more)) (process_among cs vs p t.0) (each_among cs vs more t.1) (process_comes x (length cs) p)
        (each_comes x (length cs) more) s.0,
    each_apart cs vs x more t.1 s.1,
  )

  choices_sound : (cs : List Channel) (vs : List Var) (x : ℕ) (choices : Choices) → AreChoices cs vs choices → ChoicesSound choices →
      ChoicesSound (rerouted_choices x (length cs) choices)
  choices_sound cs vs x no_choices t s = tt
  choices_sound cs vs x (and_choice g p more) t s = (rerouted_sound cs vs x p t.1 s.0, choices_sound cs vs x more t.2 s.1)

-- the buffer is in conflict with nothing

not_both : (x n b : ℕ) (u v : Deed) → x < n → Among n b u → ((v ≡ receives_on x) ⊎ ((v ≡ writes_var b) ⊎ ((v ≡ sends_on n) ⊎ (v ≡ reads_var b)))) →
    Conflict (rerouted_deed x n u) v → ⊥
not_both x n b u v within f h c = by_deed h
  where
    received : (d : Deed) → Among n b d → Conflict (rerouted_deed x n d) (receives_on x) → ⊥
    received (receives_on k) g e = by_test (eqb_tells k x)
      where
        by_test : (((k == x) ≡ true) × (k ≡ x)) ⊎ (((k == x) ≡ false) × (k ≢ x)) → ⊥
        by_test (inl a) = let same : n ≡ x = sym (ap (λ t. if t then n else k) a.0) ∙ e in omega (arith, same, within)
        by_test (inr a) = a.1 (sym (ap (λ t. if t then n else k) a.0) ∙ e)
    received (sends_on k) g e = e
    received (reads_var k) g e = e
    received (writes_var k) g e = e

    written : (d : Deed) → Among n b d → Conflict (rerouted_deed x n d) (writes_var b) → ⊥
    written (receives_on k) g e = e
    written (sends_on k) g e = e
    written (reads_var k) g e = omega (arith, g, e)
    written (writes_var k) g e = omega (arith, g, e)

    sent : (d : Deed) → Among n b d → Conflict (rerouted_deed x n d) (sends_on n) → ⊥
    sent (receives_on k) g e = e
    sent (sends_on k) g e = omega (arith, g, e)
    sent (reads_var k) g e = e
    sent (writes_var k) g e = e

    read : (d : Deed) → Among n b d → Conflict (rerouted_deed x n d) (reads_var b) → ⊥
    read (receives_on k) g e = e
    read (sends_on k) g e = e
    read (reads_var k) g e = e
    read (writes_var k) g e = omega (arith, g, e)

    by_deed : (v ≡ receives_on x) ⊎ ((v ≡ writes_var b) ⊎ ((v ≡ sends_on n) ⊎ (v ≡ reads_var b))) → ⊥
    by_deed (inl e) = received u f (subst (λ z. Conflict (rerouted_deed x n u) z) e c)
    by_deed (inr (inl e)) = written u f (subst (λ z. Conflict (rerouted_deed x n u) z) e c)
    by_deed (inr (inr (inl e))) = sent u f (subst (λ z. Conflict (rerouted_deed x n u) z) e c)
    by_deed (inr (inr (inr e))) = read u f (subst (λ z. Conflict (rerouted_deed x n u) z) e c)

abbrev deed_of : Occurrence → Deed
deed_of u = u.deed

buffer_deeds : (x w n b : ℕ) (v : Occurrence) → In (occurrences_of_each (and_member (passing_on x w n b) no_members)) v →
    (v.deed ≡ receives_on x) ⊎ ((v.deed ≡ writes_var b) ⊎ ((v.deed ≡ sends_on n) ⊎ (v.deed ≡ reads_var b)))
buffer_deeds x w n b v (inl e) = inl (sym (ap deed_of e))
buffer_deeds x w n b v (inr (inl e)) = inr (inl (sym (ap deed_of e)))
buffer_deeds x w n b v (inr (inr (inl e))) = inr (inr (inl (sym (ap deed_of e))))
buffer_deeds x w n b v (inr (inr (inr (inl e)))) = inr (inr (inr (sym (ap deed_of e))))
buffer_deeds x w n b v (inr (inr (inr (inr i)))) = absurd i

pub buffered_meets : (cs : List Channel) (vs : List Var) (x w : ℕ) (p : Process) → IsProcess cs vs p → MeetsSharing p → x < length cs →
    MeetsSharing (side_by_side (and_member (rerouted x (length cs) p) (and_member (passing_on x w (length cs) (length vs)) no_members)))
buffered_meets cs vs x w p t meets within =
    sound_meets (side_by_side (and_member (rerouted x (length cs) p) (and_member (passing_on x w (length cs) (length vs)) no_members)))
    ((rerouted_sound cs vs x p t (meeting_sound p meets), ((tt, (tt, tt)), tt)), (apart, ((λ u v i j h. j), tt)))
  where
    apart : Apart (occurrences (rerouted x (length cs) p)) (occurrences_of_each (and_member (passing_on x w (length cs) (length vs)) no_members))
    apart u v i j h =
        let r = process_comes x (length cs) p u i in
        not_both x (length cs) (length vs) r.0.deed v.deed within (process_among cs vs p t r.0 r.1) (buffer_deeds x w (length cs) (length vs) v j)
        (subst (λ z. Conflict z v.deed) r.2 h)
