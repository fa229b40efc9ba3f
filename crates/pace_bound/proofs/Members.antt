-- The statements of groups, one by one.
use Rattle.std.proofs.Common.{◌≡◌, ℕ, zero, suc, ◌+◌, ◌*◌, ◌<◌, ◌≤◌, Bool, true, false, List, [], ◌∷◌, length, drop, get_or, refl, sym, ap, subst, ◌∙◌, arith}
use Rattle.std.specs.Prelude.{max}
use Rattle.chp_base.specs.declared.channel.Channel.{Channel}
use Rattle.chp_base.specs.declared.channel.Kind.{Kind}
use Rattle.chp_base.specs.declared.channel.Kind.TheVariants.{In, Out, Chan}
use Rattle.width_check.specs.declared.typed.Var.{Var}
use Rattle.width_check.specs.declared.typed.TStmt.{TStmt}
use Rattle.width_check.specs.Processes.{Process, skipping, assigning, sending, receiving, in_turn, side_by_side, choosing, repeating, Processes, no_members, and_member, Choices, no_choices, and_choice, TypedProgram}
use Rattle.width_check.specs.Typing.{IsProcess, AreProcesses, AreChoices, channel_width, kind_at}
use Rattle.width_check.specs.Reads.{reads}
use Rattle.width_check.specs.View.{process_of, members_in}
use Rattle.handshake_expand.specs.Layout.{capped}
use Rattle.handshake_expand.specs.PartTree.{HasFormedGuards}
use Rattle.handshake_expand.proofs.Rows.{member_at}
use Rattle.round_time.specs.Longest.{depth, guards_depth, tree_height, var_height, assign_first, send_first, receive_first, first, low, turn_low}
use Rattle.pace_bound.specs.Clearing.{turned_again}
use Rattle.pace_bound.specs.Halving.{first_by, turn_first_by, onward, within_by, turn_within_by, choice_within_by}

pub formed_guards : (channels : List Channel) (vars : List Var) (cs : Choices) → AreChoices channels vars cs → HasFormedGuards cs
formed_guards channels vars no_choices h = tt
formed_guards channels vars (and_choice g p more) h = (h.0.formed, formed_guards channels vars more h.2)

pub turn_first_is : (halved : Bool) (P : TypedProgram) (ss : List TStmt) (s : TStmt) → 2 ≤ length ss → s ≡ get_or ss 0 s
    → turn_first_by halved P (members_in ss) ≡ suc (first_by halved P (process_of s))
turn_first_is b P [] s some is = absurd (omega arith)
turn_first_is b P (a ∷ []) s some is = absurd (omega arith)
turn_first_is b P (a ∷ x ∷ ss) s some is = ap (λ s. suc (first_by b P (process_of s))) (sym is)

-- the last member of a sequence
pub turn_low_is : (P : TypedProgram) (held i : ℕ) (ss : List TStmt) (s : TStmt) → i + 1 ≡ length ss → s ≡ get_or ss i s
    → turn_low P held (members_in ss) ≡ low P (held + 2 * i) (process_of s)
turn_low_is P held i [] s all is = absurd (omega arith)
turn_low_is P held zero (a ∷ []) s all is = ap (λ x. low P held (process_of x)) (sym is) ∙ ap (λ h. low P h (process_of s)) (omega arith)
turn_low_is P held zero (a ∷ b ∷ ss) s all is = absurd (omega arith)
turn_low_is P held (suc i) (a ∷ []) s all is = absurd (omega arith)
turn_low_is P held (suc i) (a ∷ b ∷ ss) s all is =
    turn_low_is P (held + 2) i (b ∷ ss) s (omega arith) is ∙ ap (λ h. low P h (process_of s)) (omega arith)

-- from a member of a sequence on: inside of it, on to the next one, and what is behind
pub turn_within_at : (halved : Bool) (P : TypedProgram) (ss : List TStmt) (i : ℕ) (s : TStmt) → i < length ss → s ≡ get_or ss i s
    → turn_within_by halved P (members_in (drop i ss)) ≡
    max (within_by halved P (process_of s)) (max (onward halved P (members_in (drop i ss))) (turn_within_by halved P (members_in (drop (i + 1) ss))))
turn_within_at b P ss i s inside is =
    ap (turn_within_by b P) (member_at ss i s inside is) ∙ (by (members_in (drop (i + 1) ss))
    ∙ ap (λ m. max (within_by b P (process_of s)) (max (onward b P m) (turn_within_by b P (members_in (drop (i + 1) ss))))) (sym (member_at ss i s inside is)))
  where
    by : (more : Processes)
        → turn_within_by b P (and_member (process_of s) more) ≡
        max (within_by b P (process_of s)) (max (onward b P (and_member (process_of s) more)) (turn_within_by b P more))
    by no_members = omega arith
    by (and_member q more) = refl

pub member_typed : (channels : List Channel) (vars : List Var) (ss : List TStmt) (i : ℕ) (s : TStmt) → AreProcesses channels vars (members_in ss)
    → i < length ss
    → s ≡ get_or ss i s → IsProcess channels vars (process_of s)
member_typed channels vars [] i s h inside is = absurd (omega arith)
member_typed channels vars (x ∷ ss) zero s h inside is = subst (λ y. IsProcess channels vars (process_of y)) (sym is) h.0
member_typed channels vars (x ∷ ss) (suc i) s h inside is = member_typed channels vars ss i s h.1 (omega arith) is

pub single_left : (halved : Bool) (P : TypedProgram) (ss : List TStmt) → length ss ≤ 1 → onward halved P (members_in ss) ≡ 0
single_left b P [] few = refl
single_left b P (a ∷ []) few = refl
single_left b P (a ∷ x ∷ ss) few = absurd (omega arith)

pub choosing_within : (halved : Bool) (P : TypedProgram) (again : Bool) (cs : Choices) → within_by halved P (choosing again cs) ≡
    max (turned_again P again cs) (choice_within_by halved P (3 + guards_depth cs) cs)
choosing_within b P true cs = omega arith
choosing_within b P false cs = omega arith

pub started_capped : (halved : Bool) (P : TypedProgram) (cs : Choices) (n : ℕ)
    → capped (choice_within_by halved P (capped n) cs) ≡ capped (choice_within_by halved P n cs)
started_capped b P no_choices n = refl
started_capped b P (and_choice g p more) n = by (within_by b P p) (first_by b P p) _ _ (started_capped b P more n)
  where
    inner : (f x y : ℕ) → capped x ≡ capped y → capped (max (capped n + f) x) ≡ capped (max (n + f) y)
    inner f x y h = omega arith

    outer : (w a b : ℕ) → capped a ≡ capped b → capped (max w a) ≡ capped (max w b)
    outer w a b h = omega arith

    by : (w f x y : ℕ) → capped x ≡ capped y → capped (max w (max (capped n + f) x)) ≡ capped (max w (max (n + f) y))
    by w f x y h = outer w (max (capped n + f) x) (max (n + f) y) (inner f x y h)

-- the members behind one
pub rest_typed : (channels : List Channel) (vars : List Var) (ss : List TStmt) (i : ℕ) → AreProcesses channels vars (members_in (drop i ss))
    → AreProcesses channels vars (members_in (drop (i + 1) ss))
rest_typed channels vars ss i h =
    let next : suc i ≡ i + 1 = omega arith in subst (λ n. AreProcesses channels vars (members_in (drop n ss))) next (behind ss i h)
  where
    behind : (ss : List TStmt) (i : ℕ) → AreProcesses channels vars (members_in (drop i ss)) → AreProcesses channels vars (members_in (drop (suc i) ss))
    behind [] zero h = h
    behind [] (suc i) h = h
    behind (x ∷ ss) zero h = h.1
    behind (x ∷ ss) (suc i) h = behind ss i h

-- a statement doesn't make its first step at once
pub first_some : (P : TypedProgram) (p : Process) → 1 ≤ first P p
first_some P skipping = omega arith
first_some P (assigning x at e) = assign_some (reads x e) (depth e) (var_height P x)
  where
    assign_some : (b : Bool) (e h : ℕ) → 1 ≤ assign_first b e h
    assign_some true e h = omega arith
    assign_some false e h = omega arith
first_some P (sending c at e) = send_some (kind_at P.channels c) (depth e) (tree_height (channel_width P.channels c))
  where
    send_some : (k : Kind) (e h : ℕ) → 1 ≤ send_first k e h
    send_some In e h = omega arith
    send_some Out e h = omega arith
    send_some Chan e h = omega arith
first_some P (receiving c at x to) = receive_some (kind_at P.channels c) (var_height P x)
  where
    receive_some : (k : Kind) (h : ℕ) → 1 ≤ receive_first k h
    receive_some In h = omega arith
    receive_some Out h = omega arith
    receive_some Chan h = omega arith
first_some P (in_turn no_members) = omega arith
first_some P (in_turn (and_member p no_members)) = first_some P p
first_some P (in_turn (and_member p (and_member q more))) = omega arith
first_some P (side_by_side ms) = omega arith
first_some P (choosing false cs) = omega arith
first_some P (choosing true cs) = omega arith
first_some P (repeating p) = omega arith
