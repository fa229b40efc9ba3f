-- There is room for each member of a statement with calls where there is room for all of it.
use Rattle.std.proofs.Common.{◌≡◌, ℕ, ◌+◌, ◌<◌, ◌≤◌, Bool, List, length, get_or, drop, ap, ◌∙◌, subst, arith}
use Rattle.chp_syntax.specs.declared.tree.Arm.{Arm}
use Rattle.chp_syntax.specs.declared.tree.Stmt.{Stmt}
use Rattle.chp_syntax.specs.Trees.{Statement, follows, besides, selects, repeats}
use Rattle.chp_syntax.specs.View.{expression_of, statement_of}
use Rattle.width_check.specs.declared.typed.TArm.{TArm}
use Rattle.width_check.specs.declared.typed.TStmt.{TStmt}
use Rattle.width_check.specs.Form.{formula_form}
use Rattle.width_check.specs.Processes.{Process, in_turn, side_by_side, choosing, repeating, member_count, TypedProgram}
use Rattle.width_check.specs.Typing.{IsProcess}
use Rattle.width_check.specs.View.{process_of, members_in, choices_in}
use Rattle.width_check.specs.Walk.{statements_in, arms_in}
use Rattle.handshake_expand.specs.Layout.{size_of, turn_size, branches_size, bodies_size}
use Rattle.handshake_expand.proofs.Branches.{branch_size_here, body_size_here}
use Rattle.handshake_expand.proofs.Turns.{size_here, size_last, some_behind}
use Rattle.call_map.specs.Calling.{Called, chosen, Calleds, no_calleds, and_called, or_called, inlined_each, called_size, called_turn_size, called_branches_size, called_bodies_size}
use Rattle.call_compose.specs.CalledForm.{called_form, called_forms, called_arms}
use Rattle.call_compose.specs.Walking.{Copied, with_calls, HasRoom}
use Rattle.call_compose.proofs.CalledLengths.{called_fewer}
use Rattle.call_compose.proofs.CopiedMembers.{TurnCopied, SidesCopied, ChosenCopied, left_of, arms_left, left_here, none_left, arm_here, as_many, as_many_arms, copied_from, member_copied, body_copied, turn_copied, sides_copied, choices_copied, loop_copied}

module _ (names : List (List ℕ)) where
  -- members of a sequence
  module _ (ss : List TStmt) (ts : List Stmt) (k : TurnCopied names ss ts) (i : ℕ) (s : TStmt) (t : Stmt)
      (at : s ≡ get_or ss i s) (is : t ≡ get_or ts i t) where
    abbrev pub turn_here : i < length ss → Copied names (process_of s) (statement_of t)
    turn_here within = member_copied names k.bodies k.decls ss ts i s t (turn_copied names ss ts k) within at is

    pub turn_is : i < length ss → left_of names k.bodies k.decls ts i
        ≡ and_called (called_form k.decls names (statement_of t)) (left_of names k.bodies k.decls ts (i + 1))
    turn_is within = left_here names k.bodies k.decls ts i t (omega (arith, within, as_many names k.bodies k.decls ss ts (turn_copied names ss ts k))) is

    -- others stand behind it
    pub turn_some : i + 1 < length ss → 0 < member_count (inlined_each k.bodies (left_of names k.bodies k.decls ts (i + 1)))
    turn_some within =
        subst (λ ms. 0 < member_count ms) (copied_from names k.bodies k.decls ss ts (i + 1) (turn_copied names ss ts k)) (some_behind ss i within)

    -- it is the last one
    pub turn_last : i + 1 ≡ length ss → left_of names k.bodies k.decls ts i ≡ and_called (called_form k.decls names (statement_of t)) no_calleds
    turn_last end =
        turn_is (omega (arith, end))
        ∙ ap (and_called (called_form k.decls names (statement_of t)))
        (none_left names k.bodies k.decls ts (i + 1) (omega (arith, end, as_many names k.bodies k.decls ss ts (turn_copied names ss ts k))))

  -- branches of a parallel composition
  module _ (ss : List TStmt) (ts : List Stmt) (k : SidesCopied names ss ts) (i : ℕ) (s : TStmt) (t : Stmt)
      (at : s ≡ get_or ss i s) (is : t ≡ get_or ts i t) (within : i < length ss) where
    abbrev pub side_here : Copied names (process_of s) (statement_of t)
    side_here = member_copied names k.bodies k.decls ss ts i s t (sides_copied names ss ts k) within at is

    pub side_is : left_of names k.bodies k.decls ts i ≡ and_called (called_form k.decls names (statement_of t)) (left_of names k.bodies k.decls ts (i + 1))
    side_is = left_here names k.bodies k.decls ts i t (omega (arith, within, as_many names k.bodies k.decls ss ts (sides_copied names ss ts k))) is

  -- arms of a selection
  module _ (again : Bool) (cs : List TArm) (xs : List Arm) (k : ChosenCopied names again cs xs) (i : ℕ) (c : TArm)
      (x : Arm) (at : c ≡ get_or cs i c) (is : x ≡ get_or xs i x) (within : i < length cs) where
    abbrev pub choice_here : Copied names (process_of c.body) (statement_of x.body)
    choice_here = body_copied names k.bodies k.decls cs xs i c x (choices_copied names again cs xs k) within at is

    pub choice_is : arms_left names k.bodies k.decls xs i ≡ or_called (formula_form k.decls 1 (expression_of x.guard))
        (called_form k.decls names (statement_of x.body)) (arms_left names k.bodies k.decls xs (i + 1))
    choice_is = arm_here names k.bodies k.decls xs i x
        (omega (arith, within, as_many_arms names k.bodies k.decls cs xs (choices_copied names again cs xs k))) is

module _ (names : List (List ℕ)) (p : TypedProgram) where
  pub room_as : (s r : Process) (t u : Statement) (from count : ℕ) → s ≡ r → t ≡ u → HasRoom names p s t from count → HasRoom names p r u from count
  room_as s r t u from count e f h = subst (λ r. HasRoom names p r u from count) e (subst (λ u. HasRoom names p s u from count) f h)

  -- with one node for each call it has no more
  pub copied_fewer : (s : Process) (t : Statement) (k : Copied names s t) → IsProcess p.channels p.vars s → called_size k.bodies p (with_calls k) ≤ size_of p s
  copied_fewer s t k typed =
      let few = called_fewer p k.bodies (with_calls k) (subst (IsProcess p.channels p.vars) k.same typed) in
      omega (arith, few, ap (size_of p) k.same)

  turn_size_more : (bs : List Process) (x : Called) (more : Calleds) → 0 < member_count (inlined_each bs more)
      → called_turn_size bs p (and_called x more) ≡ 3 + called_size bs p x + called_turn_size bs p more
  turn_size_more bs x no_calleds some = absurd (omega (arith, some))
  turn_size_more bs x (and_called y more) some = omega arith

  module _ (ss : List TStmt) (ts : List Stmt) (from next count now : ℕ)
      (room : HasRoom names p (in_turn (members_in ss)) (follows (statements_in ts)) from count) (same : now ≡ count) (i : ℕ) (s : TStmt) (t : Stmt)
      (at : s ≡ get_or ss i s) (is : t ≡ get_or ts i t)
      (low : from ≤ next) (above : next + turn_size p (members_in (drop i ss)) ≤ from + turn_size p (members_in ss))
      (size : next + called_turn_size room.copied.bodies p (left_of names room.copied.bodies room.copied.decls ts i)
      ≡ from + called_turn_size room.copied.bodies p (called_forms room.copied.decls names (statements_in ts))) where
    pub turn_own : i + 1 < length ss → next + 3 + called_size room.copied.bodies p (called_form room.copied.decls names (statement_of t)) ≤ now
    turn_own within =
        let k = room.copied in
        let here = ap (called_turn_size k.bodies p) (turn_is names ss ts k i s t at is (omega (arith, within))) in
        let more = turn_size_more k.bodies (called_form k.decls names (statement_of t)) (left_of names k.bodies k.decls ts (i + 1))
        (turn_some names ss ts k i s t at is within) in
        omega (arith, here, more, size, room.own, same)

    pub turn_room : i + 1 < length ss → HasRoom names p (process_of s) (statement_of t) (next + 3) now
    turn_room within =
        let k = room.copied in
        let whole = size_here p ss i s at within in
        record {
          copied = turn_here names ss ts k i s t at is (omega (arith, within));
          own = turn_own within;
          few = omega (arith, room.few, same);
          copies = omega (arith, whole, above, room.copies);
          root = omega (arith, room.root, low);
        }

    pub turn_above : i + 1 < length ss → IsProcess p.channels p.vars (process_of s) → (after : ℕ)
        → after ≡ next + 3 + called_size room.copied.bodies p (called_form room.copied.decls names (statement_of t))
        → after + turn_size p (members_in (drop (i + 1) ss)) ≤ from + turn_size p (members_in ss)
    turn_above within typed after step =
        let fewer = copied_fewer (process_of s) (statement_of t) (turn_here names ss ts room.copied i s t at is (omega (arith, within))) typed in
        omega (arith, size_here p ss i s at within, above, fewer, step)

    pub last_room : i + 1 ≡ length ss → HasRoom names p (process_of s) (statement_of t) next now
    last_room end =
        let k = room.copied in
        let here = ap (called_turn_size k.bodies p) (turn_last names ss ts k i s t at is end) in
        let whole = size_last p ss i s at end in
        record {
          copied = turn_here names ss ts k i s t at is (omega (arith, end));
          own = omega (arith, here, size, room.own, same);
          few = omega (arith, room.few, same);
          copies = omega (arith, whole, above, room.copies);
          root = omega (arith, room.root, low);
        }

  module _ (ss : List TStmt) (ts : List Stmt) (from next count now : ℕ)
      (room : HasRoom names p (side_by_side (members_in ss)) (besides (statements_in ts)) from count) (same : now ≡ count) (i : ℕ) (s : TStmt) (t : Stmt)
      (at : s ≡ get_or ss i s) (is : t ≡ get_or ts i t) (within : i < length ss) (low : from ≤ next)
      (above : next + branches_size p (members_in (drop i ss)) ≤ from + branches_size p (members_in ss))
      (size : next + called_branches_size room.copied.bodies p (left_of names room.copied.bodies room.copied.decls ts i)
      ≡ from + called_branches_size room.copied.bodies p (called_forms room.copied.decls names (statements_in ts))) where
    pub side_own : next + 3 + called_size room.copied.bodies p (called_form room.copied.decls names (statement_of t)) ≤ now
    side_own =
        let k = room.copied in
        omega (arith, ap (called_branches_size k.bodies p) (side_is names ss ts k i s t at is within), size, room.own, same)

    pub side_room : HasRoom names p (process_of s) (statement_of t) (next + 3) now
    side_room =
        let k = room.copied in
        let whole = branch_size_here p ss i s within at in
        record {
          copied = side_here names ss ts k i s t at is within;
          own = side_own;
          few = omega (arith, room.few, same);
          copies = omega (arith, whole, above, room.copies);
          root = omega (arith, room.root, low);
        }

    pub side_above : IsProcess p.channels p.vars (process_of s) → (after : ℕ)
        → after ≡ next + 3 + called_size room.copied.bodies p (called_form room.copied.decls names (statement_of t))
        → after + branches_size p (members_in (drop (i + 1) ss)) ≤ from + branches_size p (members_in ss)
    side_above typed after step =
        let fewer = copied_fewer (process_of s) (statement_of t) (side_here names ss ts room.copied i s t at is within) typed in
        omega (arith, branch_size_here p ss i s within at, above, fewer, step)

  module _ (again : Bool) (cs : List TArm) (xs : List Arm) (from next count now : ℕ)
      (room : HasRoom names p (choosing again (choices_in cs)) (selects again (arms_in xs)) from count) (same : now ≡ count) (i : ℕ) (c : TArm) (x : Arm)
      (at : c ≡ get_or cs i c) (is : x ≡ get_or xs i x) (within : i < length cs) (low : from ≤ next)
      (above : next + bodies_size p (choices_in (drop i cs)) ≤ from + size_of p (choosing again (choices_in cs)))
      (size : next + called_bodies_size room.copied.bodies p (arms_left names room.copied.bodies room.copied.decls xs i)
      ≡ from + called_size room.copied.bodies p (chosen again (called_arms room.copied.decls names (arms_in xs)))) where
    pub choice_own : next + called_size room.copied.bodies p (called_form room.copied.decls names (statement_of x.body)) ≤ now
    choice_own =
        let k = room.copied in
        omega (arith, ap (called_bodies_size k.bodies p) (choice_is names again cs xs k i c x at is within), size, room.own, same)

    pub choice_room : HasRoom names p (process_of c.body) (statement_of x.body) next now
    choice_room =
        let k = room.copied in
        let whole = body_size_here p cs i c within at in
        record {
          copied = choice_here names again cs xs k i c x at is within;
          own = choice_own;
          few = omega (arith, room.few, same);
          copies = omega (arith, whole, above, room.copies);
          root = omega (arith, room.root, low);
        }

    pub choice_above : IsProcess p.channels p.vars (process_of c.body) → (after : ℕ)
        → after ≡ next + called_size room.copied.bodies p (called_form room.copied.decls names (statement_of x.body))
        → after + bodies_size p (choices_in (drop (i + 1) cs)) ≤ from + size_of p (choosing again (choices_in cs))
    choice_above typed after step =
        let fewer = copied_fewer (process_of c.body) (statement_of x.body) (choice_here names again cs xs room.copied i c x at is within) typed in
        omega (arith, body_size_here p cs i c within at, above, fewer, step)

  -- a loop's body
  pub loop_room : (s : Process) (t : Statement) (from count : ℕ) → HasRoom names p (repeating s) (repeats t) from count
      → HasRoom names p s t (from + 2) count
  loop_room s t from count room = record {
    copied = loop_copied names s t room.copied;
    own = omega (arith, room.own);
    few = room.few;
    copies = omega (arith, room.copies);
    root = omega (arith, room.root);
  }
