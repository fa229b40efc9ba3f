-- What a run of a program passes, the rounds of the program with a buffer pass too.
use Rattle.std.proofs.Common.{◌≡◌, ◌⊎◌, ℕ, zero, suc, ◌+◌, ◌-◌, ◌*◌, ◌<◌, ◌≤◌, List, [], ◌∷◌, ◌++◌, map, length, refl, sym, ap, ◌∙◌, subst, inl, inr, arith}
use Rattle.std.specs.Prelude.{replicate}
use Rattle.std.proofs.Math.ListN.{get_or-append, get_or-eq_default}
use Rattle.std.proofs.Math.Seq.{get_or-append_seam}
use Rattle.std.proofs.lemmas.List.{append-nil, append_assoc, length-append, length-map, map-append, length-replicate, replicate-append-replicate, get_or-replicate}
use Rattle.std.proofs.lemmas.Bool.{cases_lt}
use Rattle.chp_base.specs.declared.channel.Channel.{Channel}
use Rattle.chp_base.specs.declared.channel.Kind.{Kind}
use Rattle.chp_base.specs.declared.channel.Kind.TheVariants.{In, Out, Chan}
use Rattle.env_script.specs.Scripts.{OfferValue, gives, takes, nothing, offer_at, Suits, IsScript}
use Rattle.env_script.specs.Runs.{history_at}
use Rattle.width_check.specs.declared.typed.Var.{Var}
use Rattle.width_check.specs.Processes.{Process, skipping, assigning, sending, receiving, in_turn, side_by_side, choosing, repeating, Processes, no_members, and_member, Choices, no_choices, and_choice, TypedProgram}
use Rattle.width_check.specs.Typing.{kind_at, channel_width, IsOfWidth, IsProcess, AreProcesses, AreChoices}
use Rattle.width_check.specs.Sharing.{MeetsSharing}
use Rattle.chp_meaning.specs.Terms.{Term, active, no_branches, and_branch, together, opened}
use Rattle.chp_meaning.specs.Steps.{Configuration, Leads, start_of}
use Rattle.chp_meaning.specs.Rounds.{rounds}
use Rattle.chp_meaning.specs.Laws.{IsBehind}
use Rattle.chp_meaning.proofs.RoundRuns.{one_history, rounds_hold, run_behind}
use Rattle.slack_buffer.specs.Buffers.{buffered, with_nothing, KeepsPassing}
use Rattle.slack_buffer.proofs.Rerouting.{rerouted_term, opened_same, together_open}
use Rattle.slack_buffer.proofs.Holding.{Holds, HoldsEach, HoldsChoices, opened_holds}
use Rattle.slack_buffer.proofs.Beside.{IsOn, buffer_on, beside, pair_same}
use Rattle.slack_buffer.proofs.Following.{run_beside}
use Rattle.slack_buffer.proofs.Sharing.{buffered_meets}

mutual
  typed_holds : (cs : List Channel) (vs : List Var) (p : Process) → IsProcess cs vs p → Holds (IsProcess cs vs) (IsOfWidth vs 1) p
  typed_holds cs vs skipping t = t
  typed_holds cs vs (assigning x at e) t = t
  typed_holds cs vs (sending k at e) t = t
  typed_holds cs vs (receiving k at x x_at) t = t
  typed_holds cs vs (in_turn members) t = each_typed cs vs members t.1
  typed_holds cs vs (side_by_side members) t = each_typed cs vs members t.1
  typed_holds cs vs (choosing again choices) t = choices_typed cs vs choices t.2
  typed_holds cs vs (repeating p) t = typed_holds cs vs p t

  each_typed : (cs : List Channel) (vs : List Var) (members : Processes) → AreProcesses cs vs members → HoldsEach (IsProcess cs vs) (IsOfWidth vs 1) members
  each_typed cs vs no_members t = tt
  each_typed cs vs (and_member p more) t = (typed_holds cs vs p t.0, each_typed cs vs more t.1)

  choices_typed : (cs : List Channel) (vs : List Var) (choices : Choices) → AreChoices cs vs choices → HoldsChoices (IsProcess cs vs) (IsOfWidth vs 1) choices
  choices_typed cs vs no_choices t = tt
  choices_typed cs vs (and_choice g p more) t = (t.0, typed_holds cs vs p t.1, choices_typed cs vs more t.2)

-- scripts

pub script_length : (cs : List Channel) (script : List OfferValue) → IsScript cs script → length script ≡ length cs
script_length [] [] h = refl
script_length [] (o ∷ os) h = absurd h
script_length (c ∷ cs) [] h = absurd h
script_length (c ∷ cs) (o ∷ os) h = ap suc (script_length cs os h.1)

pub suits_chan : (k : Kind) (w : ℕ) (o : OfferValue) → k ≡ Chan → Suits k w o → o ≡ nothing
suits_chan Chan w nothing e h = refl
suits_chan Chan w (gives vs) e h = absurd h
suits_chan Chan w (takes count) e h = absurd h
suits_chan In w o e h = absurd (cc e)
suits_chan Out w o e h = absurd (cc e)

pub inner_offer : (cs : List Channel) (script : List OfferValue) (x : ℕ) → IsScript cs script → kind_at cs x ≡ Chan → offer_at script x ≡ nothing
inner_offer [] [] x h e = refl
inner_offer [] (o ∷ os) x h e = absurd h
inner_offer (c ∷ cs) [] x h e = absurd h
inner_offer (c ∷ cs) (o ∷ os) zero h e = suits_chan c.kind c.width o e h.0
inner_offer (c ∷ cs) (o ∷ os) (suc x) h e = inner_offer cs os x h.1 e

-- the start

pub start_on : (p : TypedProgram) (x : ℕ) (script : List OfferValue) → IsProcess p.channels p.vars p.body → kind_at p.channels x ≡ Chan →
    IsScript p.channels script →
    IsOn p.channels p.vars x (start_of p script)
start_on p x script typed inner is = record {
  made = opened_holds (IsProcess p.channels p.vars) (IsOfWidth p.vars 1) p.body (typed_holds p.channels p.vars p.body typed);
  store = length-map p.vars (λ (v : Var). v.first);
  rests = script_length p.channels script is;
  histories = length-replicate (length p.channels) [];
  inner = inner_offer p.channels script x is inner;
}

pub no_history : (n x : ℕ) → history_at (replicate n []) x ≡ []
no_history n x = by_number (cases_lt x n)
  where
    by_number : (x < n) ⊎ (n ≤ x) → history_at (replicate n []) x ≡ []
    by_number (inl h) = get_or-replicate n x [] [] h
    by_number (inr h) = get_or-eq_default (replicate n []) [] (let e : length (replicate {A = List ℕ} n []) ≡ n = length-replicate n [] in omega arith)

pub start_beside : (p : TypedProgram) (x k : ℕ) (script : List OfferValue) →
    beside p.channels p.vars x 0 (start_of p script) ≡ start_of (buffered p x k) (with_nothing script)
start_beside p x k script = sym (
    ap conf (ap (λ t. together (and_branch t (and_branch (active (buffer_on p.channels p.vars x)) no_branches))) (opened_same x (length p.channels) p.body)
    ∙ together_open (rerouted_term x (length p.channels) (opened p.body)) (active (buffer_on p.channels p.vars x)) refl)
    ∙ pair_same t t u u (map (λ (v : Var). v.first) (buffered p x k).vars) (map (λ (v : Var). v.first) p.vars ++ 0 ∷ []) (with_nothing script)
    (with_nothing script)
    (replicate (length (buffered p x k).channels) []) (none ++ history_at none x ∷ []) refl refl (map-append (λ (v : Var). v.first) p.vars _) refl
    histories_are)
  where
    t : Term
    t = rerouted_term x (length p.channels) (opened p.body)

    u : Term
    u = active (buffer_on p.channels p.vars x)

    conf : Term → Configuration
    conf z = record {
      term = z;
      store = map (λ (v : Var). v.first) (buffered p x k).vars;
      rests = with_nothing script;
      histories =
          replicate (length (buffered p x k).channels) [];
    }

    none : List (List ℕ)
    none = replicate (length p.channels) []

    histories_are : replicate (length (buffered p x k).channels) [] ≡ none ++ history_at none x ∷ []
    histories_are =
        ap (λ n. replicate n []) (length-append p.channels _)
        ∙ (sym (replicate-append-replicate (length p.channels) 1 []) ∙ ap (λ z. none ++ z ∷ []) (sym (no_history (length p.channels) x)))

-- what has passed goes on

pub behind_on : (c d e : Configuration) → IsBehind c d → IsBehind d e → IsBehind c e
behind_on c d e f g j =
    let a = f j in
    let b = g j in
    (a.0 ++ b.0, b.1 ∙ (ap (λ h. h ++ b.0) a.1 ∙ append_assoc (history_at c.histories j) a.0 b.0))

more_rounds : (q : TypedProgram) (script : List OfferValue) → MeetsSharing q.body → (i n : ℕ) → IsBehind (rounds q script n) (rounds q script (i + n))
more_rounds q script meets zero n = λ j. (
  [],
  ap (λ m. history_at (rounds q script m).histories j) (let e : 0 + n ≡ n = omega arith in e)
      ∙ sym (append-nil (history_at (rounds q script n).histories j)),
)
more_rounds q script meets (suc i) n =
    let e : suc (i + n) ≡ suc i + n = omega arith in
    behind_on (rounds q script n) (rounds q script (i + n)) (rounds q script (suc i + n)) (more_rounds q script meets i n)
    (subst (λ m. IsBehind (rounds q script (i + n)) (rounds q script m)) e (rounds_hold q script meets (i + n)).2)

by_rounds : (q : TypedProgram) (script : List OfferValue) → MeetsSharing q.body → (n m : ℕ) (c : Configuration) → n ≤ m → Leads (start_of q script) n c →
    IsBehind c (rounds q script m)
by_rounds q script meets n m c few l =
    let on = one_history q script meets n c l in
    let rest = cases_up n m few in
    subst (λ z. IsBehind c (rounds q script z)) rest.1
    (behind_on c (rounds q script n) (rounds q script (rest.0 + n)) (run_behind on.1) (more_rounds q script meets rest.0 n))
  where
    cases_up : (n m : ℕ) → n ≤ m → (i : ℕ) × (i + n ≡ m)
    cases_up n m h = (m - n, omega (arith, h))

behind_beside : (cs : List Channel) (vs : List Var) (x v : ℕ) (c : Configuration) → length c.histories ≡ length cs → IsBehind c (beside cs vs x v c)
behind_beside cs vs x v c same j = by_number (cases_lt j (length c.histories))
  where
    by_number : (j < length c.histories) ⊎ (length c.histories ≤ j) →
        (rest : List ℕ) × (history_at (c.histories ++ history_at c.histories x ∷ []) j ≡ history_at c.histories j ++ rest)
    by_number (inl h) = ([], get_or-append c.histories (history_at c.histories x ∷ []) [] j h ∙ sym (append-nil (history_at c.histories j)))
    by_number (inr h) = (
      history_at (c.histories ++ history_at c.histories x ∷ []) j,
      ap (λ z. z ++ history_at (c.histories ++ history_at c.histories x ∷ []) j) (sym (get_or-eq_default c.histories [] h)),
    )

pub keeps_passing : (p : TypedProgram) (x k : ℕ) → IsProcess p.channels p.vars p.body → MeetsSharing p.body → x < length p.channels →
    kind_at p.channels x ≡ Chan →
    KeepsPassing p x k
keeps_passing p x k typed meets within inner script m c is l =
    let on = start_on p x script typed inner is in
    let r = run_beside p.channels p.vars x 0 on within l in
    let q_meets = buffered_meets p.channels p.vars x (channel_width p.channels x) p.body typed meets within in
    let d = beside p.channels p.vars x r.last c in
    let leads : Leads (start_of (buffered p x k) (with_nothing script)) r.steps d =
    subst (λ z. Leads z r.steps d) (start_beside p x k script) r.leads in
    let late : IsBehind d (rounds (buffered p x k) (with_nothing script) (3 * m)) =
    by_rounds (buffered p x k) (with_nothing script) q_meets r.steps (3 * m) d r.few leads in
    let copy = late (length p.channels) in
    let same : history_at d.histories (length p.channels) ≡ history_at c.histories x =
    ap (λ n. history_at d.histories n) (sym r.on.histories) ∙ get_or-append_seam c.histories (history_at c.histories x) [] [] in (
      behind_on c d (rounds (buffered p x k) (with_nothing script) (3 * m)) (behind_beside p.channels p.vars x r.last c r.on.histories) late,
      (copy.0, copy.1 ∙ ap (λ z. z ++ copy.0) same),
    )
