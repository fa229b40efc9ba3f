-- What is left of the program at a place, and its steps.
use Rattle.std.proofs.Common.{◌≡◌, ℕ, zero, suc, Bool, true, false, List, [], ◌∷◌, refl, sym, ap, ◌∙◌, subst, inl, inr, ◌⊎◌}
use Rattle.std.specs.Prelude.{Some, ◌&&◌, ◌||◌, ◌==◌, if◌then◌else◌}
use Rattle.width_check.specs.Processes.{Process, skipping, assigning, sending, receiving, choosing, repeating, Processes, no_members, and_member, member_count, Choices, no_choices, and_choice, choice_count}
use Rattle.chp_meaning.specs.Terms.{Term, Terms, no_branches, and_branch, finished, active, in_sequence, in_parallel, is_finished, all_finished, together, opened, followed, Place, here, in_first, in_branch, statement_at, branch_at, with_left, with_branch}
use Rattle.circuit_places.specs.Lines.{Line, of_channel, of_var, Seen}
use Rattle.circuit_places.specs.Circuit.{Bits, joint_count, GuardCells, heads}
use Rattle.circuit_places.proofs.Places.{Mode, idle, running, answered, returning, link, all_ask, all_ack, SideMay, GuardedAt, At, TurnAt, BranchesAt, g_rests, g_in, g_past, g_back, rests, at_skip, at_assign, at_send, at_receive, at_turn, at_side, at_body, no_more, and_at, turn_rests, at_last, at_member, at_later, under_way, writing, guarded_writing, turn_writing, branches_writing, at_choice, at_turning, at_closing, ChoiceAt, control_at, inside_at, ChosenAt, this_one, another, chosen_writing}
use Rattle.width_check.specs.Values.{value}
use Rattle.function_blocks.specs.Rails.{number_on}
use Rattle.circuit_places.specs.Heads.{Index, top, under}
use Rattle.circuit_places.proofs.CoreControl.{Control, uncalled, called, evaluating, latched, leaving, isnt_running, works, worked, reported, letting, backs}

-- a statement is left until it is done
abbrev pub waits : Mode → (over : Bool) → Term → Term
waits running false t = t
waits _ _ t = finished

-- what is left of a Q-element's child, which is s at first
abbrev pub inner_left : (latch_up : Bool) → Mode → (s left : Term) → Term
inner_left false idle s x = s
inner_left false running s x = x
inner_left _ _ s x = finished

-- what follows each turn of a loop
abbrev pub again : Process → Processes
again p = and_member (repeating p) no_members

-- the branch of this number, and what is left of the statement where this is left of it
abbrev pub body_at : (choices : Choices) → Index (choice_count choices) → Process
body_at (and_choice g p more) top = p
body_at (and_choice g p more) (under i) = body_at more i
body_at no_choices i = elim i [ ]

abbrev pub branch_term : (again : Bool) (choices : Choices) → Term → Term
branch_term false choices t = t
branch_term true choices t = followed t (and_member (choosing true choices) no_members)

abbrev pub control_left : {m : Mode} (again : Bool) (choices : Choices) → Control again (choice_count choices) (GuardCells choices) (heads choices) m → Term
control_left again choices uncalled = branch_term again choices finished
control_left again choices called = active (choosing again choices)
control_left again choices (evaluating g) = active (choosing again choices)
control_left again choices (latched l i g h) = branch_term again choices (opened (body_at choices i))
control_left again choices (leaving y l g h) = finished

abbrev mutual
  pub guarded_left : {p : Process} {m : Mode} → (Line → Bool) → GuardedAt p m → Term
  guarded_left ack (g_in {p = p} {m = m} u a h) = inner_left u m (opened p) (left ack a)
  guarded_left ack _ = finished

  pub left : {p : Process} {m : Mode} → (Line → Bool) → At p m → Term
  left ack (at_skip m h) = waits m false (active skipping)
  left ack (at_assign {x = x} {at = at} {e = e} m u h) = waits m (ack (of_var x)) (active (assigning x at e))
  left ack (at_send {c = c} {at = at} {e = e} m u h) = waits m (ack (of_channel c)) (active (sending c at e))
  left ack (at_receive {c = c} {x = x} {at = at} {to = to} m k q h) = waits m (ack (of_channel c)) (active (receiving c at x to))
  left ack (at_turn t) = turn_left ack t
  left ack (at_side m t b h) = together (branches_left ack b)
  left ack (at_body {p = p} a) = followed (left ack a) (again p)
  left ack (at_choice x) = choice_left ack x
  left ack (at_turning x) = choice_left ack x
  left ack _ = finished

  pub choice_left : {again : Bool} {choices : Choices} {m : Mode} → (Line → Bool) → ChoiceAt again choices m → Term
  choice_left ack (control_at {again = again} {choices = choices} c) = control_left again choices c
  choice_left ack (inside_at {again = again} {choices = choices} a w) = branch_term again choices (chosen_left ack a)

  pub chosen_left : {choices : Choices} {k : Mode} → (Line → Bool) → ChosenAt choices k → Term
  chosen_left ack (this_one a) = left ack a
  chosen_left ack (another a) = chosen_left ack a

  pub branches_left : {members : Processes} {ks : List Mode} → (Line → Bool) → BranchesAt members ks → Terms
  branches_left ack no_more = no_branches
  branches_left ack (and_at g b) = and_branch (guarded_left ack g) (branches_left ack b)

  pub turn_left : {members : Processes} {m : Mode} → (Line → Bool) → TurnAt members m → Term
  turn_left ack (at_last a) = left ack a
  turn_left ack (at_member {q = q} {more = more} g) = followed (guarded_left ack g) (and_member q more)
  turn_left ack (at_later g t h) = turn_left ack t
  turn_left ack _ = finished

-- at some place of the term x stands the statement s, and y is left where l is left of it
pub record Act (x : Term) (s : Process) (l y : Term) : Type 0 where
  pub at : Place
  pub stands : statement_at x at ≡ Some s
  pub then_is : y ≡ with_left x at l

pub followed_act : (more : Processes) (x : Term) (s : Process) (l y : Term) → Act x s l y → Act (followed x more) s l (followed y more)
followed_act more finished s l y a = absurd (cc a.stands)
followed_act more (active p) s l y a = record { at = in_first a.at; stands = a.stands; then_is = ap (λ z. followed z more) a.then_is }
followed_act more (in_sequence x rest) s l y a = record { at = in_first a.at; stands = a.stands; then_is = ap (λ z. followed z more) a.then_is }
followed_act more (in_parallel xs) s l y a = record { at = in_first a.at; stands = a.stands; then_is = ap (λ z. followed z more) a.then_is }

-- the branches whose guards have the value 1, and that the rails that are read tell which they are
abbrev pub open_by : (store : ℕ → ℕ) → Choices → List Process
open_by store no_choices = []
open_by store (and_choice g p more) = if value store g == 1 then p ∷ open_by store more else open_by store more

abbrev pub ToldBy : Seen → (read : ℕ → Bool) → Choices → List Process → Type 0
ToldBy env read choices ps = (store : ℕ → ℕ) → ((x : ℕ) → read x ≡ true → number_on (env.width (of_var x)) (env.bit x) ≡ store x)
    → open_by store choices ≡ ps

-- How a statement goes on, seen by no channel, and what is then left of it, where it is told which branches are open.
pub data Goes (Told : Choices → List Process → Type 0) : Process → Term → Type 0 where
  skips : Goes Told skipping finished
  goes_on : {p : Process} → Goes Told (repeating p) (followed (opened p) (again p))
  chooses : {again : Bool} {choices : Choices} (i : Index (choice_count choices)) → Told choices (body_at choices i ∷ [])
      → Goes Told (choosing again choices) (branch_term again choices (opened (body_at choices i)))
  ends : {choices : Choices} → Told choices [] → Goes Told (choosing true choices) finished

-- a step that no channel sees
pub record Silent (Told : Choices → List Process → Type 0) (x y : Term) : Type 0 where
  pub statement : Process
  pub rest : Term
  pub goes : Goes Told statement rest
  pub act : Act x statement rest y

-- the term stays, where the move is no step, or makes such a step
abbrev pub Follows : (Told : Choices → List Process → Type 0) → (step : Bool) → Term → Term → Type 0
Follows Told step x y = ((step ≡ false) × (y ≡ x)) ⊎ ((step ≡ true) × Silent Told x y)

pub followed_follows : (Told : Choices → List Process → Type 0) (more : Processes) (step : Bool) (x y : Term) → Follows Told step x y
    → Follows Told step (followed x more) (followed y more)
followed_follows Told more step x y (inl e) = inl (e.0, ap (λ z. followed z more) e.1)
followed_follows Told more step x y (inr (does, s)) = inr (
  does,
  record {
    statement = s.statement;
    rest = s.rest;
    goes = s.goes;
    act = followed_act more x s.statement s.rest y s.act;
  },
)

-- what is told by less is told by more
pub wider : (T U : Choices → List Process → Type 0) → ((choices : Choices) (ps : List Process) → T choices ps → U choices ps) → (s : Process) (l : Term)
    → Goes T s l → Goes U s l
wider T U f _ _ skips = skips
wider T U f _ _ goes_on = goes_on
wider T U f _ _ (chooses {choices = choices} i t) = chooses i (f choices (body_at choices i ∷ []) t)
wider T U f _ _ (ends {choices = choices} t) = ends (f choices [] t)

pub follows_wider : (T U : Choices → List Process → Type 0) → ((choices : Choices) (ps : List Process) → T choices ps → U choices ps)
    → (step : Bool) (x y : Term)
    → Follows T step x y → Follows U step x y
follows_wider T U f step x y (inl e) = inl e
follows_wider T U f step x y (inr (does, s))
    = inr (does, record { statement = s.statement; rest = s.rest; goes = wider T U f s.statement s.rest s.goes; act = s.act })

pub told_wider : (env : Seen) (read more : ℕ → Bool) → ((x : ℕ) → read x ≡ true → more x ≡ true) → (choices : Choices) (ps : List Process)
    → ToldBy env read choices ps → ToldBy env more choices ps
told_wider env read more within choices ps t = λ store agree. t store (λ x h. agree x (within x h))

-- the same of one of several branches
pub record ActInside (ts : Terms) (s : Process) (l : Term) (us : Terms) : Type 0 where
  pub index : ℕ
  pub at : Place
  pub stands : branch_at ts index at ≡ Some s
  pub then_is : us ≡ with_branch ts index at l

pub this_act : (ts : Terms) (x : Term) (s : Process) (l y : Term) → Act x s l y → ActInside (and_branch x ts) s l (and_branch y ts)
this_act ts x s l y a = record { index = zero; at = a.at; stands = a.stands; then_is = ap (λ z. and_branch z ts) a.then_is }

pub other_act : (x : Term) (ts : Terms) (s : Process) (l : Term) (us : Terms) → ActInside ts s l us → ActInside (and_branch x ts) s l (and_branch x us)
other_act x ts s l us a = record { index = suc a.index; at = a.at; stands = a.stands; then_is = ap (λ z. and_branch x z) a.then_is }

-- branches in which a statement stands aren't all over
pub some_stands : (t : Term) (at : Place) (s : Process) → statement_at t at ≡ Some s → is_finished t ≡ false
some_stands finished at s e = absurd (cc e)
some_stands (active p) at s e = refl
some_stands (in_sequence t rest) at s e = refl
some_stands (in_parallel ts) at s e = refl

never : (b : Bool) → (b && false) ≡ false
never true = refl
never false = refl

pub inside_stands : (ts : Terms) (k : ℕ) (at : Place) (s : Process) → branch_at ts k at ≡ Some s → all_finished ts ≡ false
inside_stands no_branches k at s e = absurd (cc e)
inside_stands (and_branch t ts) zero at s e = ap (λ b. b && all_finished ts) (some_stands t at s e)
inside_stands (and_branch t ts) (suc k) at s e = ap (λ b. is_finished t && b) (inside_stands ts k at s e) ∙ never (is_finished t)

pub together_act : (ts : Terms) (s : Process) (l : Term) (us : Terms) → ActInside ts s l us → Act (together ts) s l (together us)
together_act ts s l us a =
    subst (λ (z : Term). Act z s l (together us)) (sym (ap (λ b. if b then finished else in_parallel ts) (inside_stands ts a.index a.at s a.stands)))
    (record { at = in_branch a.index a.at; stands = a.stands; then_is = ap together a.then_is })

pub record SilentInside (Told : Choices → List Process → Type 0) (ts us : Terms) : Type 0 where
  pub statement : Process
  pub rest : Term
  pub goes : Goes Told statement rest
  pub act : ActInside ts statement rest us

abbrev pub FollowsInside : (Told : Choices → List Process → Type 0) → (step : Bool) → Terms → Terms → Type 0
FollowsInside Told step ts us = ((step ≡ false) × (us ≡ ts)) ⊎ ((step ≡ true) × SilentInside Told ts us)

pub this_follows : (Told : Choices → List Process → Type 0) (ts : Terms) (step : Bool) (x y : Term) → Follows Told step x y
    → FollowsInside Told step (and_branch x ts) (and_branch y ts)
this_follows Told ts step x y (inl e) = inl (e.0, ap (λ z. and_branch z ts) e.1)
this_follows Told ts step x y (inr (does, s)) = inr (
  does,
  record {
    statement = s.statement;
    rest = s.rest;
    goes = s.goes;
    act = this_act ts x s.statement s.rest y s.act;
  },
)

pub other_follows : (Told : Choices → List Process → Type 0) (x : Term) (step : Bool) (ts us : Terms) → FollowsInside Told step ts us
    → FollowsInside Told step (and_branch x ts) (and_branch x us)
other_follows Told x step ts us (inl e) = inl (e.0, ap (λ z. and_branch x z) e.1)
other_follows Told x step ts us (inr (does, s)) = inr (
  does,
  record {
    statement = s.statement;
    rest = s.rest;
    goes = s.goes;
    act = other_act x ts s.statement s.rest us s.act;
  },
)

pub inside_wider : (T U : Choices → List Process → Type 0) → ((choices : Choices) (ps : List Process) → T choices ps → U choices ps) → (step : Bool)
    (ts us : Terms) → FollowsInside T step ts us → FollowsInside U step ts us
inside_wider T U f step ts us (inl e) = inl e
inside_wider T U f step ts us (inr (does, s))
    = inr (does, record { statement = s.statement; rest = s.rest; goes = wider T U f s.statement s.rest s.goes; act = s.act })

pub together_follows : (Told : Choices → List Process → Type 0) (step : Bool) (ts us : Terms) → FollowsInside Told step ts us
    → Follows Told step (together ts) (together us)
together_follows Told step ts us (inl e) = inl (e.0, ap together e.1)
together_follows Told step ts us (inr (does, s)) = inr (
  does,
  record {
    statement = s.statement;
    rest = s.rest;
    goes = s.goes;
    act = together_act ts s.statement s.rest us s.act;
  },
)

pub here_follows : {Told : Choices → List Process → Type 0} (step : Bool) → step ≡ true → (s : Process) (l : Term) → Goes Told s l
    → Follows Told step (active s) l
here_follows step does s l g = inr (does, record { statement = s; rest = l; goes = g; act = record { at = here; stands = refl; then_is = refl } })

pub skip_follows : (Told : Choices → List Process → Type 0) → Follows Told true (active skipping) finished
skip_follows Told = here_follows true refl skipping finished skips

pub loop_follows : (Told : Choices → List Process → Type 0) (p : Process) (x y : Term) → x ≡ finished → y ≡ opened p
    → Follows Told true (followed x (again p)) (followed y (again p))
loop_follows Told p x y e f =
    subst (λ (z : Term). Follows Told true (followed z (again p)) (followed y (again p))) (sym e)
    (subst (λ (z : Term). Follows Told true (active (repeating p)) (followed z (again p))) (sym f)
    (here_follows true refl (repeating p) (followed (opened p) (again p)) goes_on))

-- a statement that isn't running is done
no_run : (m k n : Mode) → link m k n ≡ true → (m ≡ running → ⊥) → n ≡ running → ⊥
no_run running k n h o e = o refl
no_run answered answered answered h o e = cc e
no_run returning returning answered h o e = cc e
no_run returning idle returning h o e = cc e
no_run _ _ _ h o e = cc h

pub guarded_left_done : {p : Process} {m : Mode} (ack : Line → Bool) (g : GuardedAt p m) → (m ≡ running → ⊥) → guarded_left ack g ≡ finished
guarded_left_done ack g_rests o = refl
guarded_left_done ack (g_in u a h) o = absurd (o refl)
guarded_left_done ack g_past o = refl
guarded_left_done ack (g_back u) o = refl

-- none of the branches runs
abbrev pub NoneRuns : List Mode → Type 0
NoneRuns [] = Unit {0}
NoneRuns (k ∷ ks) = (k ≡ running → ⊥) × NoneRuns ks

pub none_asked : (ks : List Mode) → all_ask false ks ≡ true → NoneRuns ks
none_asked [] h = tt
none_asked (running ∷ ks) h = absurd (cc h)
none_asked (answered ∷ ks) h = absurd (cc h)
none_asked (idle ∷ ks) h = (λ e. cc e, none_asked ks h)
none_asked (returning ∷ ks) h = (λ e. cc e, none_asked ks h)

none_open : (ks : List Mode) → all_ack ks ≡ true → NoneRuns ks
none_open [] h = tt
none_open (running ∷ ks) h = absurd (cc h)
none_open (idle ∷ ks) h = absurd (cc h)
none_open (answered ∷ ks) h = (λ e. cc e, none_open ks h)
none_open (returning ∷ ks) h = (λ e. cc e, none_open ks h)

pub side_done : (n : ℕ) (m : Mode) (ks : List Mode) (t : Bits (joint_count n)) → SideMay n m ks t → (m ≡ running → ⊥) → NoneRuns ks
side_done n idle ks t h o = absurd (cc h.awake)
side_done n running ks t h o = absurd (o refl)
side_done n answered ks t h o = none_open ks (h.all refl)
side_done n returning ks t h o = none_asked ks h.asked

pub branches_left_done : {members : Processes} {ks : List Mode} (ack : Line → Bool) (b : BranchesAt members ks) → NoneRuns ks
    → together (branches_left ack b) ≡ finished
branches_left_done ack b o = ap (λ z. if z then finished else in_parallel (branches_left ack b)) (here b o)
  where
    here : {members : Processes} {ks : List Mode} (b : BranchesAt members ks) → NoneRuns ks → all_finished (branches_left ack b) ≡ true
    here no_more o = refl
    here (and_at g b) o = ap (λ z. is_finished z && all_finished (branches_left ack b)) (guarded_left_done ack g o.0) ∙ here b o.1

waits_done : (m : Mode) (over : Bool) (t : Term) → (m ≡ running → ⊥) → waits m over t ≡ finished
waits_done idle over t o = refl
waits_done running over t o = absurd (o refl)
waits_done answered over t o = refl
waits_done returning over t o = refl

mutual
  pub left_done : {p : Process} {m : Mode} (ack : Line → Bool) (a : At p m) → (m ≡ running → ⊥) → left ack a ≡ finished
  left_done ack rests o = refl
  left_done ack (at_skip idle h) o = refl
  left_done ack (at_skip running h) o = absurd (o refl)
  left_done ack (at_skip answered h) o = refl
  left_done ack (at_skip returning h) o = refl
  left_done ack (at_assign m u h) o = waits_done m _ _ o
  left_done ack (at_send m u h) o = waits_done m _ _ o
  left_done ack (at_receive m k q h) o = waits_done m _ _ o
  left_done ack (at_turn t) o = turn_left_done ack t o
  left_done ack (at_side {members = members} {ks = ks} m t b h) o = branches_left_done ack b (side_done (member_count members) m ks t h o)
  left_done ack (at_body a) o = absurd (o refl)
  left_done ack (at_choice (control_at uncalled)) o = refl
  left_done ack (at_choice (control_at called)) o = absurd (o refl)
  left_done ack (at_choice (control_at (evaluating g))) o = absurd (o refl)
  left_done ack (at_choice (control_at (latched l i g h))) o = absurd (o refl)
  left_done ack (at_choice (control_at (leaving y l g h))) o = absurd (o refl)
  left_done ack (at_choice (inside_at a works)) o = absurd (o refl)
  left_done ack (at_choice (inside_at a worked)) o = absurd (o refl)
  left_done ack (at_choice (inside_at a reported)) o = chosen_left_done ack a (λ e. cc e)
  left_done ack (at_choice (inside_at a letting)) o = chosen_left_done ack a (λ e. cc e)
  left_done ack (at_choice (inside_at a (backs any h))) o = chosen_left_done ack a (λ e. cc (h, ap isnt_running e))
  left_done ack (at_turning x) o = absurd (o refl)
  left_done ack (at_closing c) o = refl

  pub chosen_left_done : {choices : Choices} {k : Mode} (ack : Line → Bool) (a : ChosenAt choices k) → (k ≡ running → ⊥) → chosen_left ack a ≡ finished
  chosen_left_done ack (this_one a) o = left_done ack a o
  chosen_left_done ack (another a) o = chosen_left_done ack a o

  pub turn_left_done : {members : Processes} {m : Mode} (ack : Line → Bool) (t : TurnAt members m) → (m ≡ running → ⊥) → turn_left ack t ≡ finished
  turn_left_done ack turn_rests o = refl
  turn_left_done ack (at_last a) o = left_done ack a o
  turn_left_done ack (at_member g) o = absurd (o refl)
  turn_left_done ack (at_later {k = k} {n = n} {m = m} g t h) o = turn_left_done ack t (no_run m k n h o)

pub guarded_left_past : {p : Process} (ack : Line → Bool) (g : GuardedAt p answered) → guarded_left ack g ≡ finished
guarded_left_past ack g_past = refl

-- and writes nothing
pub guarded_writing_done : {p : Process} {m : Mode} (ack : Line → Bool) (g : GuardedAt p m) → (m ≡ running → ⊥) → (x : ℕ) → guarded_writing ack g x ≡ false
guarded_writing_done ack g_rests o x = refl
guarded_writing_done ack (g_in u a h) o x = absurd (o refl)
guarded_writing_done ack g_past o x = refl
guarded_writing_done ack (g_back u) o x = refl

pub branches_writing_done : {members : Processes} {ks : List Mode} (ack : Line → Bool) (b : BranchesAt members ks) → NoneRuns ks → (x : ℕ)
    → branches_writing ack b x ≡ false
branches_writing_done ack no_more o x = refl
branches_writing_done ack (and_at g b) o x = ap (λ z. z || branches_writing ack b x) (guarded_writing_done ack g o.0 x) ∙ branches_writing_done ack b o.1 x

under_way_done : (m : Mode) (b over : Bool) → (m ≡ running → ⊥) → (b && under_way m over) ≡ false
under_way_done running b over o = absurd (o refl)
under_way_done idle b over o = never b
under_way_done answered b over o = never b
under_way_done returning b over o = never b

mutual
  pub writing_done : {p : Process} {m : Mode} (ack : Line → Bool) (a : At p m) → (m ≡ running → ⊥) → (x : ℕ) → writing ack a x ≡ false
  writing_done ack rests o x = refl
  writing_done ack (at_skip m h) o x = refl
  writing_done ack (at_assign m u h) o x = under_way_done m _ _ o
  writing_done ack (at_send m u h) o x = refl
  writing_done ack (at_receive m k q h) o x = under_way_done m _ _ o
  writing_done ack (at_turn t) o x = turn_writing_done ack t o x
  writing_done ack (at_side {members = members} {ks = ks} m t b h) o x = branches_writing_done ack b (side_done (member_count members) m ks t h o) x
  writing_done ack (at_body a) o x = absurd (o refl)
  writing_done ack (at_choice (control_at c)) o x = refl
  writing_done ack (at_choice (inside_at a works)) o x = absurd (o refl)
  writing_done ack (at_choice (inside_at a worked)) o x = absurd (o refl)
  writing_done ack (at_choice (inside_at a reported)) o x = chosen_writing_done ack a (λ e. cc e) x
  writing_done ack (at_choice (inside_at a letting)) o x = chosen_writing_done ack a (λ e. cc e) x
  writing_done ack (at_choice (inside_at a (backs any h))) o x = chosen_writing_done ack a (λ e. cc (h, ap isnt_running e)) x
  writing_done ack (at_turning z) o x = absurd (o refl)
  writing_done ack (at_closing c) o x = refl

  pub chosen_writing_done : {choices : Choices} {k : Mode} (ack : Line → Bool) (a : ChosenAt choices k) → (k ≡ running → ⊥) → (x : ℕ)
      → chosen_writing ack a x ≡ false
  chosen_writing_done ack (this_one a) o x = writing_done ack a o x
  chosen_writing_done ack (another a) o x = chosen_writing_done ack a o x

  pub turn_writing_done : {members : Processes} {m : Mode} (ack : Line → Bool) (t : TurnAt members m) → (m ≡ running → ⊥) → (x : ℕ)
      → turn_writing ack t x ≡ false
  turn_writing_done ack turn_rests o x = refl
  turn_writing_done ack (at_last a) o x = writing_done ack a o x
  turn_writing_done ack (at_member g) o x = absurd (o refl)
  turn_writing_done ack (at_later {k = k} {n = n} {m = m} g t h) o x = turn_writing_done ack t (no_run m k n h o) x
