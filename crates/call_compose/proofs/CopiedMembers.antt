-- Members and arms of a statement in its text and in its typed form with copies, one by one.
use Rattle.std.proofs.Common.{◌≡◌, ℕ, zero, suc, ◌+◌, ◌<◌, ◌≤◌, Bool, List, [], ◌∷◌, length, get_or, drop, refl, sym, ap, ◌∙◌, arith}
use Rattle.chp_syntax.specs.declared.tree.Arm.{Arm}
use Rattle.chp_syntax.specs.declared.tree.Decl.{Decl}
use Rattle.chp_syntax.specs.declared.tree.Stmt.{Stmt}
use Rattle.chp_syntax.specs.Trees.{Statement, follows, besides, selects, repeats}
use Rattle.chp_syntax.specs.View.{expression_of, statement_of}
use Rattle.width_check.specs.declared.typed.TArm.{TArm}
use Rattle.width_check.specs.declared.typed.TStmt.{TStmt}
use Rattle.width_check.specs.Form.{formula_form}
use Rattle.width_check.specs.Processes.{Process, in_turn, side_by_side, choosing, repeating}
use Rattle.width_check.specs.View.{process_of, members_in, choices_in}
use Rattle.width_check.specs.Walk.{statements_in, arms_in}
use Rattle.width_check.proofs.Lists.{members_more, members_end, arms_more, arms_end}
use Rattle.handshake_expand.proofs.Rows.{member_at, arm_at}
use Rattle.call_map.specs.Calling.{Calleds, no_calleds, and_called, CalledChoices, no_called, or_called, inlined, inlined_each, inlined_choices}
use Rattle.call_compose.specs.CalledForm.{called_form, called_forms, called_arms}
use Rattle.call_compose.specs.Walking.{Copied}

-- a sequence, a parallel composition and a selection of these members
abbrev pub TurnCopied : (names : List (List ℕ)) → List TStmt → List Stmt → Type 0
TurnCopied names ss ts = Copied names (in_turn (members_in ss)) (follows (statements_in ts))

abbrev pub SidesCopied : (names : List (List ℕ)) → List TStmt → List Stmt → Type 0
SidesCopied names ss ts = Copied names (side_by_side (members_in ss)) (besides (statements_in ts))

abbrev pub ChosenCopied : (names : List (List ℕ)) (again : Bool) → List TArm → List Arm → Type 0
ChosenCopied names again cs xs = Copied names (choosing again (choices_in cs)) (selects again (arms_in xs))

-- the same statement, said otherwise
abbrev pub copied_as : (names : List (List ℕ)) (s r : Process) (t u : Statement) → s ≡ r → t ≡ u → Copied names s t → Copied names r u
copied_as names s r t u e f k = record {
  bodies = k.bodies;
  decls = k.decls;
  same = sym e ∙ (k.same ∙ ap (λ x. inlined k.bodies (called_form k.decls names x)) f);
}

module _ (names : List (List ℕ)) (bs : List Process) (ds : List Decl) where
  -- what is left of members and of arms behind a place
  abbrev pub left_of : List Stmt → ℕ → Calleds
  left_of ts i = called_forms ds names (statements_in (drop i ts))

  abbrev pub arms_left : List Arm → ℕ → CalledChoices
  arms_left xs i = called_arms ds names (arms_in (drop i xs))

  pub left_here : (ts : List Stmt) (i : ℕ) (t : Stmt) → i < length ts → t ≡ get_or ts i t
      → left_of ts i ≡ and_called (called_form ds names (statement_of t)) (left_of ts (i + 1))
  left_here ts i t within is = ap (called_forms ds names) (members_more ts i t within is)

  pub none_left : (ts : List Stmt) (i : ℕ) → length ts ≤ i → left_of ts i ≡ no_calleds
  none_left ts i all = ap (called_forms ds names) (members_end ts i all)

  pub arm_here : (xs : List Arm) (i : ℕ) (x : Arm) → i < length xs → x ≡ get_or xs i x
      → arms_left xs i ≡ or_called (formula_form ds 1 (expression_of x.guard)) (called_form ds names (statement_of x.body)) (arms_left xs (i + 1))
  arm_here xs i x within is = ap (called_arms ds names) (arms_more xs i x within is)

  pub no_arm_left : (xs : List Arm) (i : ℕ) → length xs ≤ i → arms_left xs i ≡ no_called
  no_arm_left xs i all = ap (called_arms ds names) (arms_end xs i all)

  -- members with copies of the bodies
  abbrev pub AreCopied : List TStmt → List Stmt → Type 0
  AreCopied ss ts = members_in ss ≡ inlined_each bs (called_forms ds names (statements_in ts))

  abbrev pub ArmsCopied : List TArm → List Arm → Type 0
  ArmsCopied cs xs = choices_in cs ≡ inlined_choices bs (called_arms ds names (arms_in xs))

  pub as_many : (ss : List TStmt) (ts : List Stmt) → AreCopied ss ts → length ss ≡ length ts
  as_many [] [] h = refl
  as_many [] (t ∷ ts) h = absurd (cc h)
  as_many (s ∷ ss) [] h = absurd (cc h)
  as_many (s ∷ ss) (t ∷ ts) h = ap suc (as_many ss ts (let e : members_in ss ≡ inlined_each bs (called_forms ds names (statements_in ts)) = cc h in e))

  pub as_many_arms : (cs : List TArm) (xs : List Arm) → ArmsCopied cs xs → length cs ≡ length xs
  as_many_arms [] [] h = refl
  as_many_arms [] (x ∷ xs) h = absurd (cc h)
  as_many_arms (c ∷ cs) [] h = absurd (cc h)
  as_many_arms (c ∷ cs) (x ∷ xs) h =
      ap suc (as_many_arms cs xs (let e : choices_in cs ≡ inlined_choices bs (called_arms ds names (arms_in xs)) = cc h in e))

  pub copied_from : (ss : List TStmt) (ts : List Stmt) (i : ℕ) → AreCopied ss ts → AreCopied (drop i ss) (drop i ts)
  copied_from ss ts zero h = h
  copied_from [] [] (suc i) h = refl
  copied_from [] (t ∷ ts) (suc i) h = absurd (cc h)
  copied_from (s ∷ ss) [] (suc i) h = absurd (cc h)
  copied_from (s ∷ ss) (t ∷ ts) (suc i) h =
      copied_from ss ts i (let e : members_in ss ≡ inlined_each bs (called_forms ds names (statements_in ts)) = cc h in e)

  pub arms_from : (cs : List TArm) (xs : List Arm) (i : ℕ) → ArmsCopied cs xs → ArmsCopied (drop i cs) (drop i xs)
  arms_from cs xs zero h = h
  arms_from [] [] (suc i) h = refl
  arms_from [] (x ∷ xs) (suc i) h = absurd (cc h)
  arms_from (c ∷ cs) [] (suc i) h = absurd (cc h)
  arms_from (c ∷ cs) (x ∷ xs) (suc i) h =
      arms_from cs xs i (let e : choices_in cs ≡ inlined_choices bs (called_arms ds names (arms_in xs)) = cc h in e)

  -- the one at a place
  pub member_same : (ss : List TStmt) (ts : List Stmt) (i : ℕ) (s : TStmt) (t : Stmt) → AreCopied ss ts → i < length ss → s ≡ get_or ss i s → t ≡ get_or ts i t
      → process_of s ≡ inlined bs (called_form ds names (statement_of t))
  member_same ss ts i s t h within at is =
      let here = left_here ts i t (omega (arith, within, as_many ss ts h)) is in
      let both = sym (member_at ss i s within at) ∙ (copied_from ss ts i h ∙ ap (inlined_each bs) here) in
      cc both

  abbrev pub member_copied : (ss : List TStmt) (ts : List Stmt) (i : ℕ) (s : TStmt) (t : Stmt) → AreCopied ss ts → i < length ss → s ≡ get_or ss i s
      → t ≡ get_or ts i t → Copied names (process_of s) (statement_of t)
  member_copied ss ts i s t h within at is = record {
    bodies = bs;
    decls = ds;
    same = member_same ss ts i s t h within at is;
  }

  pub body_same : (cs : List TArm) (xs : List Arm) (i : ℕ) (c : TArm) (x : Arm) → ArmsCopied cs xs → i < length cs → c ≡ get_or cs i c → x ≡ get_or xs i x
      → process_of c.body ≡ inlined bs (called_form ds names (statement_of x.body))
  body_same cs xs i c x h within at is =
      let here = arm_here xs i x (omega (arith, within, as_many_arms cs xs h)) is in
      let both = sym (arm_at cs i c within at) ∙ (arms_from cs xs i h ∙ ap (inlined_choices bs) here) in
      cc both

  abbrev pub body_copied : (cs : List TArm) (xs : List Arm) (i : ℕ) (c : TArm) (x : Arm) → ArmsCopied cs xs → i < length cs → c ≡ get_or cs i c
      → x ≡ get_or xs i x → Copied names (process_of c.body) (statement_of x.body)
  body_copied cs xs i c x h within at is = record {
    bodies = bs;
    decls = ds;
    same = body_same cs xs i c x h within at is;
  }

-- what is in a statement
module _ (names : List (List ℕ)) where
  pub turn_copied : (ss : List TStmt) (ts : List Stmt) (k : TurnCopied names ss ts) → AreCopied names k.bodies k.decls ss ts
  turn_copied ss ts k = let h = k.same in cc h

  pub sides_copied : (ss : List TStmt) (ts : List Stmt) (k : SidesCopied names ss ts)
      → AreCopied names k.bodies k.decls ss ts
  sides_copied ss ts k = let h = k.same in cc h

  pub choices_copied : (again : Bool) (cs : List TArm) (xs : List Arm) (k : ChosenCopied names again cs xs)
      → ArmsCopied names k.bodies k.decls cs xs
  choices_copied again cs xs k = let h = k.same in cc h

  pub loop_same : (s : Process) (t : Statement) (k : Copied names (repeating s) (repeats t)) → s ≡ inlined k.bodies (called_form k.decls names t)
  loop_same s t k = let h = k.same in cc h

  abbrev pub loop_copied : (s : Process) (t : Statement) → Copied names (repeating s) (repeats t) → Copied names s t
  loop_copied s t k = record {
    bodies = k.bodies;
    decls = k.decls;
    same = loop_same s t k;
  }
