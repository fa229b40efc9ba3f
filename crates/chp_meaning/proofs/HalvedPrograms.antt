-- A typed program in halves: it goes with the program, it meets the sharing rule, and it is typed but for names.
use Rattle.std.proofs.Common.{◌≡◌, ◌⊎◌, ℕ, zero, suc, ◌+◌, ◌<◌, ◌≤◌, Bool, true, false, List, [], ◌∷◌, ◌++◌, length, subst, inl, inr, arith}
use Rattle.std.specs.Prelude.{slice_index_or}
use Rattle.std.proofs.lemmas.List.{length-append}
use Rattle.chp_base.specs.declared.span.Span.{Span}
use Rattle.chp_base.specs.declared.channel.Channel.{Channel}
use Rattle.chp_base.specs.declared.fault.FaultCode.TheVariants as code
use Rattle.width_check.specs.declared.typed.Var.{Var}
use Rattle.width_check.specs.Processes.{Formula, constant, reading, joined, inverted, chained, compared, Formulas, no_parts, and_part, Operations, no_operations, and_operation, Process, skipping, assigning, sending, receiving, in_turn, side_by_side, choosing, repeating, Processes, no_members, and_member, Choices, no_choices, and_choice}
use Rattle.width_check.specs.Reads.{reads}
use Rattle.width_check.specs.Typing.{var_width, ReadsFrom, EachReadsFrom, AllReadFrom, IsOfWidth, IsProcess, AreProcesses, AreChoices}
use Rattle.width_check.specs.Sharing.{Deed, reads_var, writes_var, sends_on, receives_on, Occurrence, done_at, reads_of, reads_of_parts, reads_of_operations, occurrences, occurrences_of_each, occurrences_of_choices, IsAcross, Parallel, ParallelInside, ParallelInChoices, ParallelAcross, Clashes, MeetsSharing}
use Rattle.chp_meaning.specs.Halves.{hidden_of, hidden_vars, hidden_in_each, hidden_in_choices, halved_assign, halved, halved_each, halved_choices}
use Rattle.chp_meaning.proofs.Places.{In, in_left, in_right, in_either}
use Rattle.chp_meaning.proofs.Fitting.{Conflict, Apart, Sound, EachSound, EachApart, ChoicesSound, conflict_sym, meeting_sound}
use Rattle.chp_meaning.proofs.Alike.{ReadsBelow, same_skip, same_assign, same_send, same_receive, same_turn, same_beside, same_choice, same_repeat, Like, alone, halves, EachLike, each_none, each_more, ChoicesLike, choice_none, choice_more}

-- variables that are declared, and hidden ones

-- a deed on a variable below this number, or on none
abbrev DeedBelow : ℕ → Deed → Type 0
DeedBelow n (reads_var x) = x < n
DeedBelow n (writes_var x) = x < n
DeedBelow n _ = Unit {0}

-- one on a variable of these numbers
abbrev DeedWithin : (from to : ℕ) → Deed → Type 0
DeedWithin from to (reads_var x) = (from ≤ x) × (x < to)
DeedWithin from to (writes_var x) = (from ≤ x) × (x < to)
DeedWithin from to _ = ⊥

wider : (a b c d : ℕ) (x : Deed) → DeedWithin a b x → c ≤ a → b ≤ d → DeedWithin c d x
wider a b c d (reads_var x) h f g = (omega (arith, h.0), omega (arith, h.1))
wider a b c d (writes_var x) h f g = (omega (arith, h.0), omega (arith, h.1))
wider a b c d (sends_on k) h f g = absurd h
wider a b c d (receives_on k) h f g = absurd h

below_apart : (n from to : ℕ) (a b : Deed) → DeedBelow n a → DeedWithin from to b → n ≤ from → Conflict a b → ⊥
below_apart n from to (reads_var x) (writes_var y) f g h c = omega (arith, f, g.0, c)
below_apart n from to (writes_var x) (writes_var y) f g h c = omega (arith, f, g.0, c)
below_apart n from to (writes_var x) (reads_var y) f g h c = omega (arith, f, g.0, c)
below_apart n from to a (sends_on k) f g h c = absurd g
below_apart n from to a (receives_on k) f g h c = absurd g
below_apart n from to (reads_var x) (reads_var y) f g h c = absurd c
below_apart n from to (sends_on k) (reads_var y) f g h c = absurd c
below_apart n from to (sends_on k) (writes_var y) f g h c = absurd c
below_apart n from to (receives_on k) (reads_var y) f g h c = absurd c
below_apart n from to (receives_on k) (writes_var y) f g h c = absurd c

within_apart : (from mid to : ℕ) (a b : Deed) → DeedWithin from mid a → DeedWithin mid to b → Conflict a b → ⊥
within_apart from mid to a b f g c = below_apart mid mid to a b (below a f) g (omega arith) c
  where
    below : (a : Deed) → DeedWithin from mid a → DeedBelow mid a
    below (reads_var x) h = h.1
    below (writes_var x) h = h.1
    below (sends_on k) h = tt
    below (receives_on k) h = tt

abbrev Below : ℕ → List Occurrence → Type 0
Below n xs = (u : Occurrence) → In xs u → DeedBelow n u.deed

below_append : (n : ℕ) (xs ys : List Occurrence) → Below n xs → Below n ys → Below n (xs ++ ys)
below_append n xs ys f g u i = by_side (in_either xs ys u i)
  where
    by_side : In xs u ⊎ In ys u → DeedBelow n u.deed
    by_side (inl h) = f u h
    by_side (inr h) = g u h

below_cons : (n : ℕ) (x : Occurrence) (xs : List Occurrence) → DeedBelow n x.deed → Below n xs → Below n (x ∷ xs)
below_cons n x xs f g u (inl e) = subst (λ (z : Occurrence). DeedBelow n z.deed) e f
below_cons n x xs f g u (inr i) = g u i

mutual
  formula_below : (vars : List Var) (e : Formula) → ReadsFrom vars e → Below (length vars) (reads_of e)
  formula_below vars (constant w v) f = λ u i. absurd i
  formula_below vars (reading var high low s) f = below_cons (length vars) (done_at (reads_var var) s) [] f.0 (λ u i. absurd i)
  formula_below vars (joined parts) f = formulas_below vars parts f
  formula_below vars (inverted e) f = formula_below vars e f
  formula_below vars (chained e more) f = below_append (length vars) (reads_of e) (reads_of_operations more) (formula_below vars e f.0)
      (chain_below vars more f.1)
  formula_below vars (compared op e d) f = below_append (length vars) (reads_of e) (reads_of d) (formula_below vars e f.0) (formula_below vars d f.1)

  formulas_below : (vars : List Var) (parts : Formulas) → EachReadsFrom vars parts → Below (length vars) (reads_of_parts parts)
  formulas_below vars no_parts f = λ u i. absurd i
  formulas_below vars (and_part e more) f =
      below_append (length vars) (reads_of e) (reads_of_parts more) (formula_below vars e f.0) (formulas_below vars more f.1)

  chain_below : (vars : List Var) (more : Operations) → AllReadFrom vars more → Below (length vars) (reads_of_operations more)
  chain_below vars no_operations f = λ u i. absurd i
  chain_below vars (and_operation op e more) f =
      below_append (length vars) (reads_of e) (reads_of_operations more) (formula_below vars e f.0) (chain_below vars more f.1)

reads_below : (vars : List Var) (e : Formula) → ReadsFrom vars e → ReadsBelow (length vars) e
reads_below vars e f x at i = formula_below vars e f (done_at (reads_var x) at) i

-- a statement goes with itself in halves

assign_like : (vars : List Var) (M n x : ℕ) (at : Span) (e : Formula) (b : Bool) → x < length vars → IsOfWidth vars (var_width vars x) e → length vars ≤ n →
    n + length (hidden_of b e) ≤ M → Like (length vars) M (assigning x at e) (halved_assign b n x at e)
assign_like vars M n x at e false target typed from to = alone (same_assign target (reads_below vars e typed.reads))
assign_like vars M n x at e true target typed from to =
    halves (record { target = target; below = reads_below vars e typed.reads; hidden = from; within = omega arith; formed = typed.formed })

mutual
  pub like_halved : (channels : List Channel) (vars : List Var) (M n : ℕ) (p : Process) → IsProcess channels vars p → length vars ≤ n →
      n + length (hidden_vars p) ≤ M → Like (length vars) M p (halved n p)
  like_halved channels vars M n skipping typed from to = alone same_skip
  like_halved channels vars M n (assigning x at e) typed from to = assign_like vars M n x at e (reads x e) typed.0 typed.1 from to
  like_halved channels vars M n (sending k at e) typed from to = alone (same_send (reads_below vars e typed.sent.reads))
  like_halved channels vars M n (receiving k s x t) typed from to = alone (same_receive typed.target)
  like_halved channels vars M n (in_turn members) typed from to = alone (same_turn (each_like channels vars M n members typed.1 from to))
  like_halved channels vars M n (side_by_side members) typed from to = alone (same_beside (each_like channels vars M n members typed.1 from to))
  like_halved channels vars M n (choosing again choices) typed from to = alone (same_choice (choices_like channels vars M n choices typed.2 from to))
  like_halved channels vars M n (repeating p) typed from to = alone (same_repeat (like_halved channels vars M n p typed from to))

  each_like : (channels : List Channel) (vars : List Var) (M n : ℕ) (members : Processes) → AreProcesses channels vars members → length vars ≤ n →
      n + length (hidden_in_each members) ≤ M → EachLike (length vars) M members (halved_each n members)
  each_like channels vars M n no_members typed from to = each_none
  each_like channels vars M n (and_member p more) typed from to =
      let both = length-append (hidden_vars p) (hidden_in_each more) in
      each_more (like_halved channels vars M n p typed.0 from (omega arith)) (each_like channels vars M (n + length (hidden_vars p)) more typed.1 (omega arith)
      (omega arith))

  choices_like : (channels : List Channel) (vars : List Var) (M n : ℕ) (choices : Choices) → AreChoices channels vars choices → length vars ≤ n →
      n + length (hidden_in_choices choices) ≤ M → ChoicesLike (length vars) M choices (halved_choices n choices)
  choices_like channels vars M n no_choices typed from to = choice_none
  choices_like channels vars M n (and_choice g p more) typed from to =
      let both = length-append (hidden_vars p) (hidden_in_choices more) in
      choice_more (reads_below vars g typed.0.reads) (like_halved channels vars M n p typed.1 from (omega arith))
      (choices_like channels vars M (n + length (hidden_vars p)) more typed.2 (omega arith) (omega arith))

-- what a statement reads and writes is declared

mutual
  process_below : (channels : List Channel) (vars : List Var) (p : Process) → IsProcess channels vars p → Below (length vars) (occurrences p)
  process_below channels vars skipping typed = λ u i. absurd i
  process_below channels vars (assigning x at e) typed =
      below_cons (length vars) (done_at (writes_var x) at) (reads_of e) typed.0 (formula_below vars e typed.1.reads)
  process_below channels vars (sending k at e) typed =
      below_cons (length vars) (done_at (sends_on k) at) (reads_of e) tt (formula_below vars e typed.sent.reads)
  process_below channels vars (receiving k s x t) typed =
      below_cons (length vars) (done_at (receives_on k) s) (done_at (writes_var x) t ∷ []) tt
      (below_cons (length vars) (done_at (writes_var x) t) [] typed.target (λ u i. absurd i))
  process_below channels vars (in_turn members) typed = each_below channels vars members typed.1
  process_below channels vars (side_by_side members) typed = each_below channels vars members typed.1
  process_below channels vars (choosing again choices) typed = choices_below channels vars choices typed.2
  process_below channels vars (repeating p) typed = process_below channels vars p typed

  each_below : (channels : List Channel) (vars : List Var) (members : Processes) → AreProcesses channels vars members →
      Below (length vars) (occurrences_of_each members)
  each_below channels vars no_members typed = λ u i. absurd i
  each_below channels vars (and_member p more) typed =
      below_append (length vars) (occurrences p) (occurrences_of_each more) (process_below channels vars p typed.0) (each_below channels vars more typed.1)

  choices_below : (channels : List Channel) (vars : List Var) (choices : Choices) → AreChoices channels vars choices →
      Below (length vars) (occurrences_of_choices choices)
  choices_below channels vars no_choices typed = λ u i. absurd i
  choices_below channels vars (and_choice g p more) typed =
      below_append (length vars) (reads_of g) (occurrences p ++ occurrences_of_choices more) (formula_below vars g typed.0.reads)
      (below_append (length vars) (occurrences p) (occurrences_of_choices more) (process_below channels vars p typed.1)
      (choices_below channels vars more typed.2))

-- in halves it does the same, and reads and writes its hidden variables
abbrev Known : List Occurrence → (from to : ℕ) → List Occurrence → Type 0
Known xs from to ys = (u : Occurrence) → In ys u → In xs u ⊎ DeedWithin from to u.deed

known_append : (xs us ys vs : List Occurrence) (from mid to : ℕ) → from ≤ mid → mid ≤ to → Known xs from mid ys → Known us mid to vs →
    Known (xs ++ us) from to (ys ++ vs)
known_append xs us ys vs from mid to le ge f g u i = by_side (in_either ys vs u i)
  where
    first : In xs u ⊎ DeedWithin from mid u.deed → In (xs ++ us) u ⊎ DeedWithin from to u.deed
    first (inl h) = inl (in_left xs us u h)
    first (inr h) = inr (wider from mid from to u.deed h (omega arith) ge)

    second : In us u ⊎ DeedWithin mid to u.deed → In (xs ++ us) u ⊎ DeedWithin from to u.deed
    second (inl h) = inl (in_right xs us u h)
    second (inr h) = inr (wider mid to from to u.deed h le (omega arith))

    by_side : In ys u ⊎ In vs u → In (xs ++ us) u ⊎ DeedWithin from to u.deed
    by_side (inl h) = first (f u h)
    by_side (inr h) = second (g u h)

known_reads : (from : ℕ) (g : Formula) → Known (reads_of g) from from (reads_of g)
known_reads from g u i = inl i

known_assign : (n x : ℕ) (at : Span) (e : Formula) (b : Bool) →
    Known (occurrences (assigning x at e)) n (n + length (hidden_of b e)) (occurrences (halved_assign b n x at e))
known_assign n x at e false u i = inl i
known_assign n x at e true u (inl same) = inr (subst (λ (z : Occurrence). DeedWithin n (n + 1) z.deed) same (omega arith, omega arith))
known_assign n x at e true u (inr i) = by_side (in_either (reads_of e) (done_at (writes_var x) at ∷ done_at (reads_var n) at ∷ []) u i)
  where
    by_side : In (reads_of e) u ⊎ In (done_at (writes_var x) at ∷ done_at (reads_var n) at ∷ []) u →
        In (done_at (writes_var x) at ∷ reads_of e) u ⊎ DeedWithin n (n + 1) u.deed
    by_side (inl h) = inl (inr h)
    by_side (inr (inl same)) = inl (inl same)
    by_side (inr (inr (inl same))) = inr (subst (λ (z : Occurrence). DeedWithin n (n + 1) z.deed) same (omega arith, omega arith))
    by_side (inr (inr (inr h))) = absurd h

up_to : (xs ys : List Occurrence) (from a b : ℕ) → a ≡ b → Known xs from a ys → Known xs from b ys
up_to xs ys from a b e f = subst (λ k. Known xs from k ys) e f

mutual
  known : (n : ℕ) (p : Process) → Known (occurrences p) n (n + length (hidden_vars p)) (occurrences (halved n p))
  known n skipping = λ u i. absurd i
  known n (assigning x at e) = known_assign n x at e (reads x e)
  known n (sending k at e) = λ u i. inl i
  known n (receiving k s x t) = λ u i. inl i
  known n (in_turn members) = each_known n members
  known n (side_by_side members) = each_known n members
  known n (choosing again choices) = choices_known n choices
  known n (repeating p) = known n p

  each_known : (n : ℕ) (members : Processes) →
      Known (occurrences_of_each members) n (n + length (hidden_in_each members)) (occurrences_of_each (halved_each n members))
  each_known n no_members = λ u i. absurd i
  each_known n (and_member p more) =
      let l = length-append (hidden_vars p) (hidden_in_each more) in
      up_to (occurrences p ++ occurrences_of_each more) (occurrences (halved n p) ++ occurrences_of_each (halved_each (n + length (hidden_vars p)) more)) n
      (n + length (hidden_vars p) + length (hidden_in_each more)) (n + length (hidden_vars p ++ hidden_in_each more)) (omega arith)
      (known_append (occurrences p) (occurrences_of_each more) (occurrences (halved n p)) (occurrences_of_each (halved_each (n + length (hidden_vars p)) more))
      n (n + length (hidden_vars p)) (n + length (hidden_vars p) + length (hidden_in_each more)) (omega arith) (omega arith)
      (known n p) (each_known (n + length (hidden_vars p)) more))

  choices_known : (n : ℕ) (choices : Choices) →
      Known (occurrences_of_choices choices) n (n + length (hidden_in_choices choices)) (occurrences_of_choices (halved_choices n choices))
  choices_known n no_choices = λ u i. absurd i
  choices_known n (and_choice g p more) =
      let l = length-append (hidden_vars p) (hidden_in_choices more) in
      let mid = n + length (hidden_vars p) in
      up_to (reads_of g ++ (occurrences p ++ occurrences_of_choices more)) (reads_of g
      ++ (occurrences (halved n p) ++ occurrences_of_choices (halved_choices mid more))) n
      (mid + length (hidden_in_choices more)) (n + length (hidden_vars p ++ hidden_in_choices more)) (omega arith)
      (known_append (reads_of g) (occurrences p ++ occurrences_of_choices more) (reads_of g) (occurrences (halved n p)
      ++ occurrences_of_choices (halved_choices mid more)) n n (mid + length (hidden_in_choices more)) (omega arith) (omega arith) (known_reads n g)
      (known_append (occurrences p) (occurrences_of_choices more) (occurrences (halved n p)) (occurrences_of_choices (halved_choices mid more)) n mid
      (mid + length (hidden_in_choices more)) (omega arith) (omega arith)
      (known n p) (choices_known mid more)))

-- no two parallel branches are in conflict, as before

apart_known : (N n mid to : ℕ) (xs us ys vs : List Occurrence) → N ≤ n → n ≤ mid → Below N xs → Below N us → Known xs n mid ys → Known us mid to vs →
    Apart xs us → Apart ys vs
apart_known N n mid to xs us ys vs le ge first second f g apart u v hu hv c = by_side (f u hu) (g v hv)
  where
    by_side : In xs u ⊎ DeedWithin n mid u.deed → In us v ⊎ DeedWithin mid to v.deed → ⊥
    by_side (inl h) (inl k) = apart u v h k c
    by_side (inl h) (inr k) = below_apart N mid to u.deed v.deed (first u h) k (omega arith) c
    by_side (inr h) (inl k) = below_apart N n mid v.deed u.deed (second v k) h le (conflict_sym u.deed v.deed c)
    by_side (inr h) (inr k) = within_apart n mid to u.deed v.deed h k c

assign_sound : (n x : ℕ) (at : Span) (e : Formula) (b : Bool) → Sound (halved_assign b n x at e)
assign_sound n x at e false = tt
assign_sound n x at e true = (tt, (tt, tt))

mutual
  halved_sound : (channels : List Channel) (vars : List Var) (n : ℕ) (p : Process) → IsProcess channels vars p → length vars ≤ n → Sound p → Sound (halved n p)
  halved_sound channels vars n skipping typed le s = tt
  halved_sound channels vars n (assigning x at e) typed le s = assign_sound n x at e (reads x e)
  halved_sound channels vars n (sending k at e) typed le s = tt
  halved_sound channels vars n (receiving k t x u) typed le s = tt
  halved_sound channels vars n (in_turn members) typed le s = each_halved_sound channels vars n members typed.1 le s
  halved_sound channels vars n (side_by_side members) typed le s =
      (each_halved_sound channels vars n members typed.1 le s.0, each_halved_apart channels vars n members typed.1 le s.1)
  halved_sound channels vars n (choosing again choices) typed le s = choices_halved_sound channels vars n choices typed.2 le s
  halved_sound channels vars n (repeating p) typed le s = halved_sound channels vars n p typed le s

  each_halved_sound : (channels : List Channel) (vars : List Var) (n : ℕ) (members : Processes) → AreProcesses channels vars members → length vars ≤ n →
      EachSound members → EachSound (halved_each n members)
  each_halved_sound channels vars n no_members typed le s = tt
  each_halved_sound channels vars n (and_member p more) typed le s =
      (halved_sound channels vars n p typed.0 le s.0, each_halved_sound channels vars (n + length (hidden_vars p)) more typed.1 (omega arith) s.1)

  each_halved_apart : (channels : List Channel) (vars : List Var) (n : ℕ) (members : Processes) → AreProcesses channels vars members → length vars ≤ n →
      EachApart members → EachApart (halved_each n members)
  each_halved_apart channels vars n no_members typed le s = tt
  each_halved_apart channels vars n (and_member p more) typed le s = (
    apart_known (length vars) n (n + length (hidden_vars p)) (n + length (hidden_vars p) + length (hidden_in_each more)) (occurrences p)
        (occurrences_of_each more) (occurrences (halved n p)) (occurrences_of_each (halved_each (n + length (hidden_vars p)) more))
        le (omega arith) (process_below channels vars p typed.0) (each_below channels vars more typed.1) (known n p)
        (each_known (n + length (hidden_vars p)) more) s.0,
    each_halved_apart channels vars (n + length (hidden_vars p)) more typed.1 (omega arith) s.1,
  )

  choices_halved_sound : (channels : List Channel) (vars : List Var) (n : ℕ) (choices : Choices) → AreChoices channels vars choices → length vars ≤ n →
      ChoicesSound choices → ChoicesSound (halved_choices n choices)
  choices_halved_sound channels vars n no_choices typed le s = tt
  choices_halved_sound channels vars n (and_choice g p more) typed le s =
      (halved_sound channels vars n p typed.1 le s.0, choices_halved_sound channels vars (n + length (hidden_vars p)) more typed.2 (omega arith) s.1)

-- so the sharing rule is met

from_contains : (xs : List Occurrence) (x : Occurrence) (k : ℕ) → k < length xs → slice_index_or xs k x ≡ x → In xs x
from_contains [] x k l e = absurd (omega (arith, l))
from_contains (y ∷ xs) x zero l e = inl e
from_contains (y ∷ xs) x (suc k) l e = inr (from_contains xs x k (omega (arith, l)) e)

across_clean : (xs ys : List Occurrence) (a b : Occurrence) → Apart xs ys → IsAcross xs ys a b → Conflict a.deed b.deed → ⊥
across_clean xs ys a b apart (inl h) c = apart a b (from_contains xs a h.0.0 h.0.1 h.0.2) (from_contains ys b h.1.0 h.1.1 h.1.2) c
across_clean xs ys a b apart (inr h) c = apart b a (from_contains xs b h.1.0 h.1.1 h.1.2) (from_contains ys a h.0.0 h.0.1 h.0.2) (conflict_sym a.deed b.deed c)

apart_clean : (members : Processes) (a b : Occurrence) → EachApart members → ParallelAcross members a b → Conflict a.deed b.deed → ⊥
apart_clean no_members a b s h c = absurd h
apart_clean (and_member p more) a b s (inl h) c = across_clean (occurrences p) (occurrences_of_each more) a b s.0 h c
apart_clean (and_member p more) a b s (inr h) c = apart_clean more a b s.1 h c

mutual
  sound_clean : (p : Process) (a b : Occurrence) → Sound p → Parallel p a b → Conflict a.deed b.deed → ⊥
  sound_clean skipping a b s h c = absurd h
  sound_clean (assigning x at e) a b s h c = absurd h
  sound_clean (sending k at e) a b s h c = absurd h
  sound_clean (receiving k t x u) a b s h c = absurd h
  sound_clean (in_turn members) a b s h c = each_clean members a b s h c
  sound_clean (side_by_side members) a b s (inl h) c = each_clean members a b s.0 h c
  sound_clean (side_by_side members) a b s (inr h) c = apart_clean members a b s.1 h c
  sound_clean (choosing again choices) a b s h c = choices_clean choices a b s h c
  sound_clean (repeating p) a b s h c = sound_clean p a b s h c

  each_clean : (members : Processes) (a b : Occurrence) → EachSound members → ParallelInside members a b → Conflict a.deed b.deed → ⊥
  each_clean no_members a b s h c = absurd h
  each_clean (and_member p more) a b s (inl h) c = sound_clean p a b s.0 h c
  each_clean (and_member p more) a b s (inr h) c = each_clean more a b s.1 h c

  choices_clean : (choices : Choices) (a b : Occurrence) → ChoicesSound choices → ParallelInChoices choices a b → Conflict a.deed b.deed → ⊥
  choices_clean no_choices a b s h c = absurd h
  choices_clean (and_choice g p more) a b s (inl h) c = sound_clean p a b s.0 h c
  choices_clean (and_choice g p more) a b s (inr h) c = choices_clean more a b s.1 h c

variables_conflict : (a b : Deed) → Clashes code.SharedVariable a b → Conflict a b
variables_conflict (writes_var x) (writes_var y) h = h
variables_conflict (writes_var x) (reads_var y) h = h
variables_conflict (reads_var x) (writes_var y) h = h
variables_conflict _ _ h = absurd h

sends_conflict : (a b : Deed) → Clashes code.SharedSend a b → Conflict a b
sends_conflict (sends_on x) (sends_on y) h = h
sends_conflict _ _ h = absurd h

receives_conflict : (a b : Deed) → Clashes code.SharedReceive a b → Conflict a b
receives_conflict (receives_on x) (receives_on y) h = h
receives_conflict _ _ h = absurd h

pub sound_meets : (p : Process) → Sound p → MeetsSharing p
sound_meets p s = record {
  variables = λ a b h c. sound_clean p a b s h (variables_conflict a.deed b.deed c);
  sends = λ a b h c. sound_clean p a b s h (sends_conflict a.deed b.deed c);
  receives = λ a b h c. sound_clean p a b s h (receives_conflict a.deed b.deed c);
}

pub halved_meets : (channels : List Channel) (vars : List Var) (p : Process) → IsProcess channels vars p → MeetsSharing p →
    MeetsSharing (halved (length vars) p)
halved_meets channels vars p typed meets =
    sound_meets (halved (length vars) p) (halved_sound channels vars (length vars) p typed (omega arith) (meeting_sound p meets))
