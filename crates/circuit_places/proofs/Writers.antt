-- Who writes a variable that is being written: an assignment that is under way, or a receive that stands in the term.
use Rattle.std.proofs.Common.{◌≡◌, ℕ, zero, suc, ◌==◌, Bool, true, false, List, refl, ap, ◌∙◌, inl, inr}
use Rattle.std.specs.Prelude.{◌⊎◌, if◌then◌else◌, Some}
use Rattle.chp_base.specs.declared.span.Span.{Span}
use Rattle.width_check.specs.Processes.{Process, receiving, choosing, Processes, no_members, and_member, Choices}
use Rattle.chp_meaning.specs.Terms.{Term, Terms, finished, active, in_parallel, together, followed, Place, here, in_first, in_branch, statement_at, branch_at}
use Rattle.circuit_places.specs.Lines.{Line, of_channel, of_var}
use Rattle.circuit_places.proofs.RailLemmas.{fst_true, snd_true}
use Rattle.circuit_places.proofs.LineNames.{same_number}
use Rattle.circuit_places.proofs.Places.{Mode, idle, running, answered, returning, under_way, GuardedAt, At, TurnAt, BranchesAt, g_rests, g_in, g_past, g_back, rests, at_skip, at_assign, at_send, at_receive, at_turn, at_side, at_body, no_more, and_at, turn_rests, at_last, at_member, at_later, at_choice, at_turning, at_closing, ChoiceAt, control_at, inside_at, ChosenAt, this_one, another, Shown, guarded_shown, shown, choice_shown, chosen_shown, branches_shown, turn_shown, writing, guarded_writing, choice_writing, chosen_writing, branches_writing, turn_writing}
use Rattle.circuit_places.proofs.Left.{again, waits, guarded_left, left, choice_left, turn_left, branches_left, chosen_left, some_stands, inside_stands, writing_done}
use Rattle.circuit_places.proofs.Meets.{followed_on}
use Rattle.circuit_places.proofs.Flow.{or_left, or_right}
use Rattle.circuit_places.proofs.Talks.{either}

abbrev pub Receives : Term → ℕ → Type 0
Receives t v = (q : Place) × (k : ℕ) × (s : Span) × (u : Span) × (statement_at t q ≡ Some (receiving k s v u))

abbrev ReceivesInside : Terms → ℕ → Type 0
ReceivesInside ts v = (j : ℕ) × (q : Place) × (k : ℕ) × (s : Span) × (u : Span) × (branch_at ts j q ≡ Some (receiving k s v u))

abbrev pub Writes : Shown → Term → ℕ → Type 0
Writes x t v = (x.says (of_var v) ≡ true) ⊎ Receives t v

receives_then : (more : Processes) (t : Term) (v : ℕ) → Receives t v → Receives (followed t more) v
receives_then more t v (q, k, s, u, e) = (
  in_first q,
  k,
  s,
  u,
  ap (λ z. statement_at z (in_first q)) (followed_on t more (some_stands t q (receiving k s v u) e)) ∙ e,
)

writes_then : (x : Shown) (more : Processes) (t : Term) (v : ℕ) → Writes x t v → Writes x (followed t more) v
writes_then x more t v (inl e) = inl e
writes_then x more t v (inr r) = inr (receives_then more t v r)

writes_together : (x : Shown) (ts : Terms) (v : ℕ) → (x.says (of_var v) ≡ true) ⊎ ReceivesInside ts v → Writes x (together ts) v
writes_together x ts v (inl e) = inl e
writes_together x ts v (inr (j, q, k, s, u, e)) = inr (
  in_branch j q,
  k,
  s,
  u,
  ap (λ z. statement_at z (in_branch j q)) (ap (λ b. if b then finished else in_parallel ts) (inside_stands ts j q (receiving k s v u) e)) ∙ e,
)

never : {A : Type 0} (b : Bool) → b ≡ false → b ≡ true → A
never b e h = absurd (cc (e, h))

under_runs : (m : Mode) (b : Bool) → under_way m b ≡ true → (m ≡ running) × (b ≡ false)
under_runs running false h = (refl, refl)
under_runs running true h = absurd (cc h)
under_runs idle b h = absurd (cc h)
under_runs answered b h = absurd (cc h)
under_runs returning b h = absurd (cc h)

mutual
  pub guarded_writes : {p : Process} {m : Mode} (ack : Line → Bool) (g : GuardedAt p m) (v : ℕ) → guarded_writing ack g v ≡ true
      → Writes (guarded_shown g) (guarded_left ack g) v
  guarded_writes ack (g_in {m = running} false a h) v e = writes ack a v e
  guarded_writes ack (g_in {m = running} true a h) v e = absurd (cc h)
  guarded_writes ack (g_in {m = idle} u a h) v e = never _ (writing_done ack a (λ i. cc i) v) e
  guarded_writes ack (g_in {m = answered} u a h) v e = never _ (writing_done ack a (λ i. cc i) v) e
  guarded_writes ack (g_in {m = returning} u a h) v e = never _ (writing_done ack a (λ i. cc i) v) e
  guarded_writes ack g_rests v e = absurd (cc e)
  guarded_writes ack g_past v e = absurd (cc e)
  guarded_writes ack (g_back u) v e = absurd (cc e)

  writes : {p : Process} {m : Mode} (ack : Line → Bool) (a : At p m) (v : ℕ) → writing ack a v ≡ true → Writes (shown a) (left ack a) v
  writes ack rests v e = absurd (cc e)
  writes ack (at_skip m h) v e = absurd (cc e)
  writes ack (at_assign {x = y} m u h) v e = inl (fst_true (y == v) (under_way m (ack (of_var y))) e)
  writes ack (at_send m u h) v e = absurd (cc e)
  writes ack (at_receive {c = c} {x = y} {at = at} {to = to} m l q h) v e =
      let r = under_runs m (ack (of_channel c)) (snd_true (y == v) (under_way m (ack (of_channel c))) e) in
      let same : y ≡ v = same_number y v (fst_true (y == v) (under_way m (ack (of_channel c))) e) in
      let t : waits m (ack (of_channel c)) (active (receiving c at y to)) ≡ active (receiving c at y to) =
      ap (λ i. waits i (ack (of_channel c)) (active (receiving c at y to))) r.0 ∙ ap (λ b. waits running b (active (receiving c at y to))) r.1 in
      inr (here, c, at, to, ap (λ z. statement_at z here) t ∙ ap (λ i. Some (receiving c at i to)) same)
  writes ack (at_turn t) v e = turn_writes ack t v e
  writes ack (at_side m t b h) v e = writes_together (branches_shown b) (branches_left ack b) v (branches_write ack b v e)
  writes ack (at_body {p = p} a) v e = writes_then (shown a) (again p) (left ack a) v (writes ack a v e)
  writes ack (at_choice x) v e = choice_writes ack x v e
  writes ack (at_turning x) v e = choice_writes ack x v e
  writes ack (at_closing c) v e = absurd (cc e)

  choice_writes : {again : Bool} {choices : Choices} {m : Mode} (ack : Line → Bool) (x : ChoiceAt again choices m) (v : ℕ) → choice_writing ack x v ≡ true
      → Writes (choice_shown x) (choice_left ack x) v
  choice_writes ack (control_at c) v e = absurd (cc e)
  choice_writes ack (inside_at {again = false} a w) v e = chosen_writes ack a v e
  choice_writes ack (inside_at {again = true} {choices = choices} a w) v e =
      writes_then (chosen_shown a) (and_member (choosing true choices) no_members) (chosen_left ack a) v (chosen_writes ack a v e)

  chosen_writes : {choices : Choices} {k : Mode} (ack : Line → Bool) (a : ChosenAt choices k) (v : ℕ) → chosen_writing ack a v ≡ true
      → Writes (chosen_shown a) (chosen_left ack a) v
  chosen_writes ack (this_one a) v e = writes ack a v e
  chosen_writes ack (another a) v e = chosen_writes ack a v e

  branches_write : {members : Processes} {ks : List Mode} (ack : Line → Bool) (b : BranchesAt members ks) (v : ℕ) → branches_writing ack b v ≡ true
      → ((branches_shown b).says (of_var v) ≡ true) ⊎ ReceivesInside (branches_left ack b) v
  branches_write ack no_more v e = absurd (cc e)
  branches_write ack (and_at g b) v e = either (guarded_writing ack g v) (branches_writing ack b v) e
      (λ h. this (guarded_writes ack g v h)) (λ h. others (branches_write ack b v h))
    where
      this : Writes (guarded_shown g) (guarded_left ack g) v
          → ((branches_shown (and_at g b)).says (of_var v) ≡ true) ⊎ ReceivesInside (branches_left ack (and_at g b)) v
      this (inl s) = inl (or_left ((guarded_shown g).says (of_var v)) ((branches_shown b).says (of_var v)) s)
      this (inr (q, k, s, u, i)) = inr (zero, q, k, s, u, i)

      others : ((branches_shown b).says (of_var v) ≡ true) ⊎ ReceivesInside (branches_left ack b) v
          → ((branches_shown (and_at g b)).says (of_var v) ≡ true) ⊎ ReceivesInside (branches_left ack (and_at g b)) v
      others (inl s) = inl (or_right ((guarded_shown g).says (of_var v)) ((branches_shown b).says (of_var v)) s)
      others (inr (j, q, k, s, u, i)) = inr (suc j, q, k, s, u, i)

  turn_writes : {members : Processes} {m : Mode} (ack : Line → Bool) (t : TurnAt members m) (v : ℕ) → turn_writing ack t v ≡ true
      → Writes (turn_shown t) (turn_left ack t) v
  turn_writes ack turn_rests v e = absurd (cc e)
  turn_writes ack (at_last a) v e = writes ack a v e
  turn_writes ack (at_member {q = q} {more = more} g) v e =
      writes_then (guarded_shown g) (and_member q more) (guarded_left ack g) v (guarded_writes ack g v e)
  turn_writes ack (at_later g t h) v e = turn_writes ack t v e
