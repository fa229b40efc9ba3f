-- A round as one change: what each active statement does depends only on the state at the round's start.
use Rattle.std.specs.Prelude.{ℕ, suc, ◌+◌, ◌-◌, ◌<◌, Bool, true, false, ◌==◌, if◌then◌else◌, nat_lt, List, [], ◌∷◌, ◌++◌, length, take, option_to_list, filter, is_some, slice_index, slice_index_or, slice_set, sum_by, Option, Some, None}
use Rattle.env_script.specs.Scripts.{OfferValue, gives, takes, nothing, offer_at, is_over}
use Rattle.env_script.specs.Runs.{history_at}
use Rattle.width_check.specs.Processes.{Process, skipping, assigning, sending, receiving, choosing, repeating, Choices, no_choices, and_choice}
use Rattle.width_check.specs.Values.{value}
use Rattle.chp_meaning.specs.declared.effect.Move.{Move}
use Rattle.chp_meaning.specs.declared.effect.TrueGuards.{TrueGuards}
use Rattle.chp_meaning.specs.declared.effect.TrueGuards.TheVariants.{Zero, One, Several as Many}
use Rattle.chp_meaning.specs.Steps.{one_fewer}
use Rattle.chp_meaning.specs.Remaining as left
use Rattle.chp_meaning.specs.Remaining.{Remains, over, whole, within, alongside, no_more, and_left, part_of, branch_of, begun, resumed, gathered}

-- the state at a round's start: besides store and script, on which channels a send waits, and into which
-- variable the waiting receive takes its value
pub record Outset : Type 0 where
  pub store : List ℕ
  pub rests : List OfferValue
  pub sends : List Bool
  pub receives : List (Option ℕ)

abbrev pub plain_move : Move
plain_move = record { write = None; uses = None; pass = None }

abbrev pub next_of : OfferValue → Option ℕ
next_of (gives (v ∷ more)) = Some v
next_of _ = None

abbrev pub meeting_move : ℕ → ℕ → Option ℕ → Option Move
meeting_move k v None = None
meeting_move k v (Some x) = Some (record { write = Some (x, v); uses = None; pass = Some (k, v) })

abbrev pub sent_move : Outset → ℕ → ℕ → OfferValue → Option Move
sent_move o k v nothing = meeting_move k v (slice_index_or o.receives k None)
sent_move o k v (takes count) =
    if is_over count 0 then Some (record { write = None; uses = Some k; pass = Some (k, v) }) else None
sent_move o k v (gives vs) = None

abbrev pub received_move : ℕ → ℕ → Option ℕ → Option Move
received_move k x None = None
received_move k x (Some v) = Some (record { write = Some (x, v); uses = Some k; pass = Some (k, v) })

-- the step of an active statement that it ends with
abbrev pub ending_move : Outset → Process → Option Move
ending_move o skipping = Some plain_move
ending_move o (assigning x s e) =
    Some (record { write = Some (x, value (slice_index o.store) e); uses = None; pass = None })
ending_move o (sending k s e) = sent_move o k (value (slice_index o.store) e) (offer_at o.rests k)
ending_move o (receiving k s x t) = received_move k x (next_of (offer_at o.rests k))
ending_move o _ = None

abbrev pub offers_inside : OfferValue → Bool
offers_inside nothing = true
offers_inside _ = false

-- a receive to which an active send sends
abbrev pub is_met : Outset → Process → Bool
is_met o (receiving k s x t) = if offers_inside (offer_at o.rests k) then slice_index_or o.sends k false else false
is_met o _ = false

-- the numbers of the guards that are true, from a number on
abbrev pub true_guards : List ℕ → ℕ → Choices → List ℕ
true_guards store k no_choices = []
true_guards store k (and_choice g p more) = if value (slice_index store) g == 1 then k
    ∷ true_guards store (k + 1) more else true_guards store (k + 1) more

abbrev pub guards_counted : List ℕ → TrueGuards
guards_counted [] = Zero
guards_counted (k ∷ []) = One k
guards_counted _ = Many

-- the branch of the one guard that is true is a part of the statement
abbrev pub HasBranch : Process → TrueGuards → Type 0
HasBranch p (One k) = k < left.part_count p
HasBranch p _ = Unit {0}

abbrev pub choosing_move : Bool → TrueGuards → Option Move
choosing_move again (One k) = Some plain_move
choosing_move true Zero = Some plain_move
choosing_move again _ = None

-- the step at an active statement's place
abbrev pub move_of : Outset → Process → Option Move
move_of o (choosing again choices) = choosing_move again (guards_counted (true_guards o.store 0 choices))
move_of o (repeating p) = Some plain_move
move_of o p = ending_move o p

abbrev pub entered : Process → ℕ → Remains
entered p k = within k (begun (part_of p k))

abbrev pub chosen_remains : Process → Bool → TrueGuards → Remains
chosen_remains p again (One k) = entered p k
chosen_remains p true Zero = over
chosen_remains p again _ = whole

abbrev pub ended : Option Move → Bool → Remains
ended (Some m) met = over
ended None true = over
ended None false = whole

-- what is left of an active statement
abbrev pub step_remains : Outset → Process → Remains
step_remains o (choosing again choices) =
    chosen_remains (choosing again choices) again (guards_counted (true_guards o.store 0 choices))
step_remains o (repeating p) = entered (repeating p) 0
step_remains o p = ended (ending_move o p) (is_met o p)

-- what is left of a statement of which this was left
abbrev mutual
  pub advanced : Outset → Process → Remains → Remains
  advanced o p over = over
  advanced o p whole = step_remains o p
  advanced o p (within k r) = resumed p k (advanced o (part_of p k) r)
  advanced o p (alongside rs) = gathered (each_advanced o p 0 rs)

  pub each_advanced : Outset → Process → ℕ → left.Several → left.Several
  each_advanced o p k no_more = no_more
  each_advanced o p k (and_left r rest) = and_left (advanced o (part_of p k) r) (each_advanced o p (suc k) rest)

-- the active statements, in the order of their places
abbrev mutual
  pub statements : Process → Remains → List Process
  statements p over = []
  statements p whole = p ∷ []
  statements p (within k r) = statements (part_of p k) r
  statements p (alongside rs) = each_statements p 0 rs

  pub each_statements : Process → ℕ → left.Several → List Process
  each_statements p k no_more = []
  each_statements p k (and_left r rest) = statements (part_of p k) r ++ each_statements p (suc k) rest

-- the moves of the steps of these statements
abbrev pub moves_of : Outset → List Process → List Move
moves_of o [] = []
moves_of o (p ∷ ps) = option_to_list (move_of o p) ++ moves_of o ps

-- those of the statements that make a step
abbrev pub stepping : Outset → List Process → List Process
stepping o ps = filter (λ p. is_some (move_of o p)) ps

-- which ends wait on the channels, where these statements are active
abbrev pub noted_send : Bool → List Bool → Process → List Bool
noted_send waits sends (sending k s e) = slice_set sends k waits
noted_send waits sends _ = sends

abbrev pub if_waiting : Bool → ℕ → Option ℕ
if_waiting true x = Some x
if_waiting false x = None

abbrev pub noted_receive : Bool → List (Option ℕ) → Process → List (Option ℕ)
noted_receive waits receives (receiving k s x t) = slice_set receives k (if_waiting waits x)
noted_receive waits receives _ = receives

-- what moves change
abbrev pub written_in : List ℕ → Option (ℕ × ℕ) → List ℕ
written_in store None = store
written_in store (Some w) = slice_set store w.0 w.1

abbrev pub written : List ℕ → Move → List ℕ
written store m = written_in store m.write

abbrev pub less : OfferValue → OfferValue
less (gives (v ∷ more)) = gives more
less (takes count) = takes (one_fewer count)
less o = o

abbrev pub used_on : List OfferValue → Option ℕ → List OfferValue
used_on rests None = rests
used_on rests (Some k) = slice_set rests k (less (offer_at rests k))

abbrev pub used : List OfferValue → Move → List OfferValue
used rests m = used_on rests m.uses

abbrev pub passed_on : List (List ℕ) → Option (ℕ × ℕ) → List (List ℕ)
passed_on histories None = histories
passed_on histories (Some w) = slice_set histories w.0 (history_at histories w.0 ++ w.1 ∷ [])

abbrev pub passed : List (List ℕ) → Move → List (List ℕ)
passed histories m = passed_on histories m.pass

-- how many values have passed
abbrev pub held_values : List (List ℕ) → ℕ
held_values histories = sum_by length histories

-- without its last value
abbrev pub shorter : List ℕ → List ℕ
shorter vs = take (length vs - 1) vs

abbrev pub withdrawn_on : List (List ℕ) → Option (ℕ × ℕ) → List (List ℕ)
withdrawn_on histories None = histories
withdrawn_on histories (Some w) = slice_set histories w.0 (shorter (history_at histories w.0))

-- the numbers of a move have entries
abbrev pub is_below : ℕ → Option (ℕ × ℕ) → Bool
is_below n None = true
is_below n (Some w) = nat_lt w.0 n

abbrev pub number_below : ℕ → Option ℕ → Bool
number_below n None = true
number_below n (Some k) = nat_lt k n
