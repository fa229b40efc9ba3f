-- What is made of a statement, member by member.
use Rattle.std.proofs.Common.{◌≡◌, ℕ, ◌+◌, ◌<◌, ◌≤◌, Bool, true, false, List, [], ◌∷◌, ◌++◌, length, get_or, drop, Some, refl, sym, ap, ◌∙◌, subst, arith, ◌⊎◌, inl, inr}
use Rattle.std.specs.Prelude.{◌||◌, Result, Ok, Err, IfOk, IsOkAnd}
use Rattle.std.specs.declared.boxed.Box.{Box}
use Rattle.std.specs.declared.alloc.Global.{Global}
use Rattle.std.specs.declared.vec.Vec.{Vec}
use Rattle.chp_syntax.specs.declared.tree.Arm.{Arm}
use Rattle.chp_syntax.specs.declared.tree.Decl.{Decl}
use Rattle.chp_syntax.specs.declared.tree.Ident.{Ident}
use Rattle.chp_syntax.specs.declared.tree.Stmt.{Stmt, Then, Beside, Select, Repeat}
use Rattle.chp_syntax.specs.Shape.{IsShapedExpression, IsShapedStatement, AreShapedMembers, AreShapedArms}
use Rattle.chp_syntax.specs.Trees.{Expression, Statement, assigns, sends, receives, follows, besides, selects, Statements, and_member, Arms, and_arm}
use Rattle.chp_syntax.specs.View.{expression_of, statement_of}
use Rattle.width_check.specs.declared.typed.TArm.{TArm}
use Rattle.width_check.specs.declared.typed.TExpr.{TExpr}
use Rattle.width_check.specs.declared.typed.TStmt as made
use Rattle.width_check.specs.declared.typed.TStmt.{TStmt}
use Rattle.width_check.specs.Calls.{has_call, some_has_call, arm_has_call}
use Rattle.width_check.specs.Form.{formula_form, process_form, processes_form, choices_form}
use Rattle.width_check.specs.Places.{declared_width, use_of, written, sent_on, received_on, stored}
use Rattle.width_check.specs.Processes as typed
use Rattle.width_check.specs.Processes.{Formula, Process, Processes, Choices, in_turn, side_by_side, choosing, repeating}
use Rattle.width_check.specs.Sound.{IsSound, is_var_in}
use Rattle.width_check.specs.View.{formula_of, process_of}
use Rattle.width_check.specs.Walk.{Met, met_both, met_use, met_in, met_of, met_of_each, met_of_arms, statements_in, arms_in}
use Rattle.width_check.proofs.Lists.{then_is, beside_is, select_is, members_more, members_end, arms_more, arms_end}
use Rattle.width_check.proofs.Makings.{before_members, before_arms, members_all, arms_all, one_member, one_arm}
use Rattle.width_check.proofs.Soundness.{sound_left, sound_right}
use Rattle.width_check.proofs.Statements as rows
use Rattle.width_check.proofs.Walks.{assign_pieces, send_pieces, each_pieces, arm_pieces}

either_false : (a b : Bool) → (a || b) ≡ false → (a ≡ false) × (b ≡ false)
either_false true b h = absurd (cc h)
either_false false b h = (refl, h)

-- an assignment and a send

pub assign_sound : (ds : List Decl) (target : Ident) (e : Expression) → IsSound ds (met_of ds (assigns target e)) →
    (is_var_in ds target.name ≡ Some true) × IsSound ds (met_in ds (declared_width ds target.name) e)
assign_sound ds target e s =
    let pieces = subst (λ (m : Met). IsSound ds m) (sym (assign_pieces ds target e)) s in (
      s.uses (use_of target written) (0, omega arith, refl),
      sound_right ds (met_use (use_of target written)) (met_in ds (declared_width ds target.name) e) pieces,
    )

pub send_sound : (ds : List Decl) (chan : Ident) (e : Expression) → IsSound ds (met_of ds (sends chan e)) →
    (is_var_in ds chan.name ≡ Some false) × IsSound ds (met_in ds (declared_width ds chan.name) e)
send_sound ds chan e s =
    let pieces = subst (λ (m : Met). IsSound ds m) (sym (send_pieces ds chan e)) s in
    (s.uses (use_of chan sent_on) (0, omega arith, refl), sound_right ds (met_use (use_of chan sent_on)) (met_in ds (declared_width ds chan.name) e) pieces)

pub receive_sound : (ds : List Decl) (chan target : Ident) → IsSound ds (met_of ds (receives chan target)) →
    (is_var_in ds chan.name ≡ Some false) × (is_var_in ds target.name ≡ Some true)
receive_sound ds chan target s = (s.uses (use_of chan received_on) (0, omega arith, refl), s.uses (use_of target stored) (1, omega arith, refl))

-- members that are left

pub record AreMembersLeft (ds : List Decl) (members : Statements) : Type 0 where
  pub shaped : AreShapedMembers members
  pub free : some_has_call members ≡ false
  pub sound : IsSound ds (met_of_each ds members)

then_left : (ds : List Decl) (s : Stmt) (v : Vec Stmt Global) (ss : List Stmt) → s ≡ Then v → ss ≡ v.items → IsShapedStatement (statement_of s) →
    has_call (statement_of s) ≡ false → IsSound ds (met_of ds (statement_of s)) → AreMembersLeft ds (statements_in ss)
then_left ds s v ss is same shaped free sound =
    let tree : statement_of s ≡ follows (statements_in ss) = then_is s v is ∙ ap (λ (xs : List Stmt). follows (statements_in xs)) (sym same) in
    let shape = subst (λ (x : Statement). IsShapedStatement x) tree shaped in
    record { shaped = shape.1; free = sym (ap has_call tree) ∙ free; sound = subst (λ (x : Statement). IsSound ds (met_of ds x)) tree sound }

beside_left : (ds : List Decl) (s : Stmt) (v : Vec Stmt Global) (ss : List Stmt) → s ≡ Beside v → ss ≡ v.items → IsShapedStatement (statement_of s) →
    has_call (statement_of s) ≡ false → IsSound ds (met_of ds (statement_of s)) → AreMembersLeft ds (statements_in ss)
beside_left ds s v ss is same shaped free sound =
    let tree : statement_of s ≡ besides (statements_in ss) = beside_is s v is ∙ ap (λ (xs : List Stmt). besides (statements_in xs)) (sym same) in
    let shape = subst (λ (x : Statement). IsShapedStatement x) tree shaped in
    record { shaped = shape.1; free = sym (ap has_call tree) ∙ free; sound = subst (λ (x : Statement). IsSound ds (met_of ds x)) tree sound }

pub group_left : (ds : List Decl) (s : Stmt) (v : Vec Stmt Global) (ss : List Stmt) → (s ≡ Then v) ⊎ (s ≡ Beside v) → ss ≡ v.items →
    IsShapedStatement (statement_of s) → has_call (statement_of s) ≡ false → IsSound ds (met_of ds (statement_of s)) → AreMembersLeft ds (statements_in ss)
group_left ds s v ss (inl is) = then_left ds s v ss is
group_left ds s v ss (inr is) = beside_left ds s v ss is

pub record IsStatementReady (ds : List Decl) (s : Statement) : Type 0 where
  pub shaped : IsShapedStatement s
  pub free : has_call s ≡ false
  pub sound : IsSound ds (met_of ds s)

pub repeat_ready : (ds : List Decl) (s : Stmt) (body : Box Stmt Global) (f : Stmt) → s ≡ Repeat body → f ≡ body.value → IsShapedStatement (statement_of s) →
    has_call (statement_of s) ≡ false → IsSound ds (met_of ds (statement_of s)) → IsStatementReady ds (statement_of f)
repeat_ready ds s body f is here shaped free sound =
    let inside : IsStatementReady ds (statement_of body.value) = record {
      shaped = subst (λ (x : Stmt). IsShapedStatement (statement_of x)) is shaped;
      free = sym (ap (λ (x : Stmt). has_call (statement_of x)) is) ∙ free;
      sound = subst (λ (x : Stmt). IsSound ds (met_of ds (statement_of x))) is sound;
    } in
    subst (λ (x : Stmt). IsStatementReady ds (statement_of x)) (sym here) inside

members_here : (ds : List Decl) (ss : List Stmt) (i : ℕ) (s : Stmt) → i < length ss → s ≡ get_or ss i s → AreMembersLeft ds (statements_in (drop i ss)) →
    AreMembersLeft ds (and_member (statement_of s) (statements_in (drop (i + 1) ss)))
members_here ds ss i s within is left = subst (λ (us : Statements). AreMembersLeft ds us) (members_more ss i s within is) left

pub member_ready : (ds : List Decl) (ss : List Stmt) (i : ℕ) (s : Stmt) → i < length ss → s ≡ get_or ss i s → AreMembersLeft ds (statements_in (drop i ss)) →
    IsStatementReady ds (statement_of s)
member_ready ds ss i s within is left =
    let here = members_here ds ss i s within is left in
    let rest = statements_in (drop (i + 1) ss) in
    let pieces = subst (λ (m : Met). IsSound ds m) (sym (each_pieces ds (statement_of s) rest)) here.sound in
    record {
      shaped = here.shaped.0;
      free = (either_false (has_call (statement_of s)) (some_has_call rest) here.free).0;
      sound =
          sound_left ds (met_of ds (statement_of s)) (met_of_each ds rest) pieces;
    }

pub members_next : (ds : List Decl) (ss : List Stmt) (i : ℕ) (s : Stmt) → i < length ss → s ≡ get_or ss i s → AreMembersLeft ds (statements_in (drop i ss)) →
    AreMembersLeft ds (statements_in (drop (i + 1) ss))
members_next ds ss i s within is left =
    let here = members_here ds ss i s within is left in
    let rest = statements_in (drop (i + 1) ss) in
    let pieces = subst (λ (m : Met). IsSound ds m) (sym (each_pieces ds (statement_of s) rest)) here.sound in
    record {
      shaped = here.shaped.1;
      free = (either_false (has_call (statement_of s)) (some_has_call rest) here.free).1;
      sound =
          sound_right ds (met_of ds (statement_of s)) (met_of_each ds rest) pieces;
    }

member_made : (ds : List Decl) (ss : List Stmt) (i : ℕ) (s : Stmt) (made new : List TStmt) (t : TStmt) (total : Processes) → i < length ss →
    s ≡ get_or ss i s → process_of t ≡ process_form ds (statement_of s) → new ≡ made ++ t ∷ [] →
    before_members made (processes_form ds (statements_in (drop i ss))) ≡ total →
    before_members new (processes_form ds (statements_in (drop (i + 1) ss))) ≡ total
member_made ds ss i s made new t total within is is_made pushed so_far =
    let rest = processes_form ds (statements_in (drop (i + 1) ss)) in
    let begun = ap (λ (us : Statements). before_members made (processes_form ds us)) (sym (members_more ss i s within is)) ∙ so_far in
    ap (λ (ts : List TStmt). before_members ts rest) pushed ∙ one_member made t rest
    ∙ ap (λ (p : Process). before_members made (typed.and_member p rest)) is_made ∙ begun

pub member_added : {E : Type 0} (ds : List Decl) (ss : List Stmt) (i : ℕ) (s : Stmt) (list new : Result (Vec TStmt Global) E) (r : Result TStmt E)
    (total : Processes) → i < length ss → s ≡ get_or ss i s → IfOk r (λ (t : TStmt). process_of t ≡ process_form ds (statement_of s))
    → IfOk new (λ (n : Vec TStmt Global). IsOkAnd list (λ (m : Vec TStmt Global). IsOkAnd r (λ (t : TStmt). n.items ≡ m.items ++ t ∷ [])))
    → IfOk list (λ (m : Vec TStmt Global). before_members m.items (processes_form ds (statements_in (drop i ss))) ≡ total) →
    IfOk new (λ (n : Vec TStmt Global). before_members n.items (processes_form ds (statements_in (drop (i + 1) ss))) ≡ total)
member_added ds ss i s (Ok m) (Ok n) (Ok t) total within is is_made pushed so_far =
    member_made ds ss i s m.items n.items t total within is is_made pushed so_far
member_added ds ss i s (Ok m) (Ok n) (Err b) total within is is_made pushed so_far = absurd pushed
member_added ds ss i s (Err a) (Ok n) r total within is is_made pushed so_far = absurd pushed
member_added ds ss i s list (Err a) r total within is is_made pushed so_far = tt

pub then_made : (ds : List Decl) (s : Stmt) (v : Vec Stmt Global) (ss : List Stmt) (i : ℕ) (t : Vec TStmt Global) → s ≡ Then v → ss ≡ v.items → length ss ≤ i →
    before_members t.items (processes_form ds (statements_in (drop i ss))) ≡ processes_form ds (statements_in ss) →
    process_of (made.Then t) ≡ process_form ds (statement_of s)
then_made ds s v ss i t is same over so_far =
    let done = ap (λ (us : Statements). before_members t.items (processes_form ds us)) (sym (members_end ss i over)) ∙ so_far in
    let tree : statement_of s ≡ follows (statements_in ss) = then_is s v is ∙ ap (λ (xs : List Stmt). follows (statements_in xs)) (sym same) in
    rows.then_is (made.Then t) t refl ∙ ap in_turn (sym (members_all t.items) ∙ done) ∙ ap (process_form ds) (sym tree)

pub beside_made : (ds : List Decl) (s : Stmt) (v : Vec Stmt Global) (ss : List Stmt) (i : ℕ) (t : Vec TStmt Global) → s ≡ Beside v → ss ≡ v.items →
    length ss ≤ i → before_members t.items (processes_form ds (statements_in (drop i ss))) ≡ processes_form ds (statements_in ss) →
    process_of (made.Beside t) ≡ process_form ds (statement_of s)
beside_made ds s v ss i t is same over so_far =
    let done = ap (λ (us : Statements). before_members t.items (processes_form ds us)) (sym (members_end ss i over)) ∙ so_far in
    let tree : statement_of s ≡ besides (statements_in ss) = beside_is s v is ∙ ap (λ (xs : List Stmt). besides (statements_in xs)) (sym same) in
    rows.beside_is (made.Beside t) t refl ∙ ap side_by_side (sym (members_all t.items) ∙ done) ∙ ap (process_form ds) (sym tree)

group_of : {E : Type 0} (s : Stmt) (v : Vec Stmt Global) (f : Vec TStmt Global → TStmt) (target : Process) (list : Result (Vec TStmt Global) E)
    (r : Result TStmt E) (Done : Vec TStmt Global → Type 0) → ((m : Vec TStmt Global) → Done m → process_of (f m) ≡ target) → IfOk list Done →
    IfOk r (λ (t : TStmt). IsOkAnd list (λ (m : Vec TStmt Global). t ≡ f m)) → IfOk r (λ (t : TStmt). process_of t ≡ target)
group_of s v f target (Ok m) (Ok t) Done so done is = ap process_of is ∙ so m done
group_of s v f target (Err a) (Ok t) Done so done is = absurd is
group_of s v f target list (Err a) Done so done is = tt

pub group_made : {E : Type 0} (ds : List Decl) (s : Stmt) (v : Vec Stmt Global) (ss : List Stmt) (i : ℕ) (list : Result (Vec TStmt Global) E)
    (r : Result TStmt E) → (s ≡ Then v) ⊎ (s ≡ Beside v) → ss ≡ v.items → length ss ≤ i
    → IfOk list (λ (m : Vec TStmt Global). before_members m.items (processes_form ds (statements_in (drop i ss))) ≡ processes_form ds (statements_in ss))
    → ((w : Vec Stmt Global) → s ≡ Then w → IfOk r (λ (t : TStmt). IsOkAnd list (λ (m : Vec TStmt Global). t ≡ made.Then m)))
    → (((w : Vec Stmt Global) → ¬ (s ≡ Then w)) → IfOk r (λ (t : TStmt). IsOkAnd list (λ (m : Vec TStmt Global). t ≡ made.Beside m))) →
    IfOk r (λ (t : TStmt). process_of t ≡ process_form ds (statement_of s))
group_made ds s v ss i list r (inl is) same over so_far turns sides =
    group_of s v made.Then (process_form ds (statement_of s)) list r _ (λ m done. then_made ds s v ss i m is same over done) so_far (turns v is)
group_made ds s v ss i list r (inr is) same over so_far turns sides =
    group_of s v made.Beside (process_form ds (statement_of s)) list r _ (λ m done. beside_made ds s v ss i m is same over done) so_far
    (sides (λ w so. absurd (cc (is, so))))

-- arms

pub record AreArmsLeft (ds : List Decl) (arms : Arms) : Type 0 where
  pub shaped : AreShapedArms arms
  pub free : arm_has_call arms ≡ false
  pub sound : IsSound ds (met_of_arms ds arms)

pub select_left : (ds : List Decl) (s : Stmt) (again : Bool) (v : Vec Arm Global) (xs : List Arm) → s ≡ Select again v → xs ≡ v.items →
    IsShapedStatement (statement_of s) → has_call (statement_of s) ≡ false → IsSound ds (met_of ds (statement_of s)) → AreArmsLeft ds (arms_in xs)
select_left ds s again v xs is same shaped free sound =
    let tree : statement_of s ≡ selects again (arms_in xs) = select_is s again v is ∙ ap (λ (ys : List Arm). selects again (arms_in ys)) (sym same) in
    let shape = subst (λ (x : Statement). IsShapedStatement x) tree shaped in
    record { shaped = shape.2; free = sym (ap has_call tree) ∙ free; sound = subst (λ (x : Statement). IsSound ds (met_of ds x)) tree sound }

pub record IsArmReady (ds : List Decl) (a : Arm) : Type 0 where
  pub guard_shaped : IsShapedExpression (expression_of a.guard)
  pub guard_sound : IsSound ds (met_in ds 1 (expression_of a.guard))
  pub body : IsStatementReady ds (statement_of a.body)

arms_here : (ds : List Decl) (xs : List Arm) (i : ℕ) (a : Arm) → i < length xs → a ≡ get_or xs i a → AreArmsLeft ds (arms_in (drop i xs)) →
    AreArmsLeft ds (and_arm (expression_of a.guard) (statement_of a.body) (arms_in (drop (i + 1) xs)))
arms_here ds xs i a within is left = subst (λ (us : Arms). AreArmsLeft ds us) (arms_more xs i a within is) left

pub arm_ready : (ds : List Decl) (xs : List Arm) (i : ℕ) (a : Arm) → i < length xs → a ≡ get_or xs i a → AreArmsLeft ds (arms_in (drop i xs)) → IsArmReady ds a
arm_ready ds xs i a within is left =
    let here = arms_here ds xs i a within is left in
    let rest = arms_in (drop (i + 1) xs) in
    let g = expression_of a.guard in
    let s = statement_of a.body in
    let pieces = subst (λ (m : Met). IsSound ds m) (sym (arm_pieces ds g s rest)) here.sound in
    let others = sound_right ds (met_in ds 1 g) (met_both (met_of ds s) (met_of_arms ds rest)) pieces in
    record {
      guard_shaped = here.shaped.0;
      guard_sound = sound_left ds (met_in ds 1 g) (met_both (met_of ds s) (met_of_arms ds rest)) pieces;
      body = record {
        shaped = here.shaped.1;
        free = (either_false (has_call s) (arm_has_call rest) here.free).0;
        sound =
            sound_left ds (met_of ds s) (met_of_arms ds rest) others;
      };
    }

pub arms_next : (ds : List Decl) (xs : List Arm) (i : ℕ) (a : Arm) → i < length xs → a ≡ get_or xs i a → AreArmsLeft ds (arms_in (drop i xs)) →
    AreArmsLeft ds (arms_in (drop (i + 1) xs))
arms_next ds xs i a within is left =
    let here = arms_here ds xs i a within is left in
    let rest = arms_in (drop (i + 1) xs) in
    let g = expression_of a.guard in
    let s = statement_of a.body in
    let pieces = subst (λ (m : Met). IsSound ds m) (sym (arm_pieces ds g s rest)) here.sound in
    let others = sound_right ds (met_in ds 1 g) (met_both (met_of ds s) (met_of_arms ds rest)) pieces in
    record {
      shaped = here.shaped.2;
      free = (either_false (has_call s) (arm_has_call rest) here.free).1;
      sound =
          sound_right ds (met_of ds s) (met_of_arms ds rest) others;
    }

arm_made : (ds : List Decl) (xs : List Arm) (i : ℕ) (a : Arm) (made new : List TArm) (f : TExpr) (t : TStmt) (total : Choices) → i < length xs →
    a ≡ get_or xs i a → formula_of f ≡ formula_form ds 1 (expression_of a.guard) → process_of t ≡ process_form ds (statement_of a.body) →
    new ≡ made ++ (record { guard = f; body = t }) ∷ []
    → before_arms made (choices_form ds (arms_in (drop i xs))) ≡ total → before_arms new (choices_form ds (arms_in (drop (i + 1) xs))) ≡ total
arm_made ds xs i a made new f t total within is is_guard is_body pushed so_far =
    let rest = choices_form ds (arms_in (drop (i + 1) xs)) in
    let begun = ap (λ (us : Arms). before_arms made (choices_form ds us)) (sym (arms_more xs i a within is)) ∙ so_far in
    ap (λ (ts : List TArm). before_arms ts rest) pushed ∙ one_arm made (record { guard = f; body = t }) rest
    ∙ ap (λ (g : Formula). before_arms made (typed.and_choice g (process_of t) rest)) is_guard
    ∙ ap (λ (p : Process). before_arms made (typed.and_choice (formula_form ds 1 (expression_of a.guard)) p rest)) is_body ∙ begun

pub arm_added : {E : Type 0} (ds : List Decl) (xs : List Arm) (i : ℕ) (a : Arm) (list new : Result (Vec TArm Global) E) (k : Result TArm E)
    (g : Result TExpr E) (b : Result TStmt E) (total : Choices) → i < length xs → a ≡ get_or xs i a →
    IfOk g (λ (t : TExpr). formula_of t ≡ formula_form ds 1 (expression_of a.guard)) →
    IfOk b (λ (t : TStmt). process_of t ≡ process_form ds (statement_of a.body))
    → IfOk k (λ (x : TArm). IsOkAnd g (λ (f : TExpr). IsOkAnd b (λ (t : TStmt). x ≡ (record { guard = f; body = t }))))
    → IfOk new (λ (n : Vec TArm Global). IsOkAnd list (λ (m : Vec TArm Global). IsOkAnd k (λ (x : TArm). n.items ≡ m.items ++ x ∷ [])))
    → IfOk list (λ (m : Vec TArm Global). before_arms m.items (choices_form ds (arms_in (drop i xs))) ≡ total) →
    IfOk new (λ (n : Vec TArm Global). before_arms n.items (choices_form ds (arms_in (drop (i + 1) xs))) ≡ total)
arm_added ds xs i a (Ok m) (Ok n) (Ok x) (Ok f) (Ok t) total within is is_guard is_body guards pushed so_far =
    arm_made ds xs i a m.items n.items f t total within is is_guard is_body (pushed ∙ ap (λ (y : TArm). m.items ++ y ∷ []) guards) so_far
arm_added ds xs i a (Ok m) (Ok n) (Ok x) (Ok f) (Err d) total within is is_guard is_body guards pushed so_far = absurd guards
arm_added ds xs i a (Ok m) (Ok n) (Ok x) (Err d) b total within is is_guard is_body guards pushed so_far = absurd guards
arm_added ds xs i a (Ok m) (Ok n) (Err d) g b total within is is_guard is_body guards pushed so_far = absurd pushed
arm_added ds xs i a (Err d) (Ok n) k g b total within is is_guard is_body guards pushed so_far = absurd pushed
arm_added ds xs i a list (Err d) k g b total within is is_guard is_body guards pushed so_far = tt

pub repeat_made : {E : Type 0} (ds : List Decl) (s : Stmt) (body : Box Stmt Global) (f : Stmt) (b all : Result TStmt E) → s ≡ Repeat body → f ≡ body.value →
    IfOk b (λ (t : TStmt). process_of t ≡ process_form ds (statement_of f)) →
    IfOk all (λ (t : TStmt). IsOkAnd b (λ (u : TStmt). process_of t ≡ repeating (process_of u)))
    → IfOk all (λ (t : TStmt). process_of t ≡ process_form ds (statement_of s))
repeat_made ds s body f (Ok u) (Ok t) is here made whole =
    whole ∙ ap repeating (made ∙ ap (λ (x : Stmt). process_form ds (statement_of x)) here)
    ∙ sym (ap (λ (x : Stmt). process_form ds (statement_of x)) is)
repeat_made ds s body f (Err e) (Ok t) is here made whole = absurd whole
repeat_made ds s body f b (Err e) is here made whole = tt

pub select_made : (ds : List Decl) (s : Stmt) (again : Bool) (v : Vec Arm Global) (xs : List Arm) (i : ℕ) (t : Vec TArm Global) → s ≡ Select again v →
    xs ≡ v.items → length xs ≤ i → before_arms t.items (choices_form ds (arms_in (drop i xs))) ≡ choices_form ds (arms_in xs) →
    process_of (made.Select again t) ≡ process_form ds (statement_of s)
select_made ds s again v xs i t is same over so_far =
    let done = ap (λ (us : Arms). before_arms t.items (choices_form ds us)) (sym (arms_end xs i over)) ∙ so_far in
    let tree : statement_of s ≡ selects again (arms_in xs) = select_is s again v is ∙ ap (λ (ys : List Arm). selects again (arms_in ys)) (sym same) in
    rows.select_is (made.Select again t) again t refl ∙ ap (choosing again) (sym (arms_all t.items) ∙ done) ∙ ap (process_form ds) (sym tree)

pub arms_selected : {E : Type 0} (ds : List Decl) (s : Stmt) (again : Bool) (v : Vec Arm Global) (xs : List Arm) (i : ℕ) (list : Result (Vec TArm Global) E)
    (r : Result TStmt E) → s ≡ Select again v → xs ≡ v.items → length xs ≤ i
    → IfOk list (λ (m : Vec TArm Global). before_arms m.items (choices_form ds (arms_in (drop i xs))) ≡ choices_form ds (arms_in xs))
    → IfOk r (λ (t : TStmt). IsOkAnd list (λ (m : Vec TArm Global). t ≡ made.Select again m)) →
    IfOk r (λ (t : TStmt). process_of t ≡ process_form ds (statement_of s))
arms_selected ds s again v xs i (Ok m) (Ok t) is same over so_far is_select = ap process_of is_select ∙ select_made ds s again v xs i m is same over so_far
arms_selected ds s again v xs i (Err a) (Ok t) is same over so_far is_select = absurd is_select
arms_selected ds s again v xs i list (Err a) is same over so_far is_select = tt
