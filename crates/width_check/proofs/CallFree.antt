-- Calls among members and arms.
use Rattle.std.proofs.Common.{◌≡◌, ℕ, ◌+◌, ◌<◌, ◌≤◌, Bool, true, false, List, length, get_or, drop, sym, ap, ◌∙◌, ◌⊎◌, inl, inr}
use Rattle.std.specs.Prelude.{◌||◌}
use Rattle.std.specs.declared.alloc.Global.{Global}
use Rattle.std.specs.declared.vec.Vec.{Vec}
use Rattle.chp_syntax.specs.declared.tree.Arm.{Arm}
use Rattle.chp_syntax.specs.declared.tree.Stmt.{Stmt, Then, Beside, Select}
use Rattle.chp_syntax.specs.View.{statement_of}
use Rattle.width_check.specs.Calls.{has_call, some_has_call, arm_has_call}
use Rattle.width_check.specs.Walk.{statements_in, arms_in}
use Rattle.width_check.proofs.Lists.{then_is, beside_is, select_is, members_more, members_end, arms_more, arms_end}

-- the next member, and what is left
at_member : (ss : List Stmt) (i : ℕ) (s : Stmt) (b : Bool) → i < length ss → s ≡ get_or ss i s → some_has_call (statements_in (drop i ss)) ≡ b →
    (has_call (statement_of s) || some_has_call (statements_in (drop (i + 1) ss))) ≡ b
at_member ss i s b within is so_far = ap some_has_call (sym (members_more ss i s within is)) ∙ so_far

pub member_calls : (ss : List Stmt) (i : ℕ) (s : Stmt) (r b : Bool) → i < length ss → s ≡ get_or ss i s → some_has_call (statements_in (drop i ss)) ≡ b →
    r ≡ has_call (statement_of s) → r ≡ true → true ≡ b
member_calls ss i s r b within is so_far calls so = let here : has_call (statement_of s) ≡ true = sym calls ∙ so in
    rw here at (at_member ss i s b within is so_far)

pub member_passed : (ss : List Stmt) (i : ℕ) (s : Stmt) (r b : Bool) → i < length ss → s ≡ get_or ss i s → some_has_call (statements_in (drop i ss)) ≡ b →
    r ≡ has_call (statement_of s) → r ≡ false → some_has_call (statements_in (drop (i + 1) ss)) ≡ b
member_passed ss i s r b within is so_far calls so = let here : has_call (statement_of s) ≡ false = sym calls ∙ so in
    rw here at (at_member ss i s b within is so_far)

pub members_free : (ss : List Stmt) (i : ℕ) (b : Bool) → length ss ≤ i → some_has_call (statements_in (drop i ss)) ≡ b → false ≡ b
members_free ss i b over so_far = ap some_has_call (sym (members_end ss i over)) ∙ so_far

pub group_calls : (s : Stmt) (v : Vec Stmt Global) (ss : List Stmt) → (s ≡ Then v) ⊎ (s ≡ Beside v) → ss ≡ v.items →
    some_has_call (statements_in ss) ≡ has_call (statement_of s)
group_calls s v ss (inl is) same = ap (λ (xs : List Stmt). some_has_call (statements_in xs)) same ∙ sym (ap has_call (then_is s v is))
group_calls s v ss (inr is) same = ap (λ (xs : List Stmt). some_has_call (statements_in xs)) same ∙ sym (ap has_call (beside_is s v is))

at_arm : (xs : List Arm) (i : ℕ) (a : Arm) (b : Bool) → i < length xs → a ≡ get_or xs i a → arm_has_call (arms_in (drop i xs)) ≡ b →
    (has_call (statement_of a.body) || arm_has_call (arms_in (drop (i + 1) xs))) ≡ b
at_arm xs i a b within is so_far = ap arm_has_call (sym (arms_more xs i a within is)) ∙ so_far

pub arm_calls : (xs : List Arm) (i : ℕ) (a : Arm) (r b : Bool) → i < length xs → a ≡ get_or xs i a → arm_has_call (arms_in (drop i xs)) ≡ b →
    r ≡ has_call (statement_of a.body) → r ≡ true → true ≡ b
arm_calls xs i a r b within is so_far calls so = let here : has_call (statement_of a.body) ≡ true = sym calls ∙ so in
    rw here at (at_arm xs i a b within is so_far)

pub arm_passed : (xs : List Arm) (i : ℕ) (a : Arm) (r b : Bool) → i < length xs → a ≡ get_or xs i a → arm_has_call (arms_in (drop i xs)) ≡ b →
    r ≡ has_call (statement_of a.body) → r ≡ false → arm_has_call (arms_in (drop (i + 1) xs)) ≡ b
arm_passed xs i a r b within is so_far calls so = let here : has_call (statement_of a.body) ≡ false = sym calls ∙ so in
    rw here at (at_arm xs i a b within is so_far)

pub arms_free : (xs : List Arm) (i : ℕ) (b : Bool) → length xs ≤ i → arm_has_call (arms_in (drop i xs)) ≡ b → false ≡ b
arms_free xs i b over so_far = ap arm_has_call (sym (arms_end xs i over)) ∙ so_far

pub select_calls : (s : Stmt) (again : Bool) (v : Vec Arm Global) (xs : List Arm) → s ≡ Select again v → xs ≡ v.items →
    arm_has_call (arms_in xs) ≡ has_call (statement_of s)
select_calls s again v xs is same = ap (λ (ys : List Arm). arm_has_call (arms_in ys)) same ∙ sym (ap has_call (select_is s again v is))
