-- What is made of members, and what is left of them.
use Rattle.std.proofs.Common.{◌≡◌, List, [], ◌∷◌, ◌++◌, Result, Ok, Err, Vec, refl, ap}
use Rattle.std.specs.Prelude.{IfOk}
use Rattle.std.specs.declared.alloc.Global.{Global}
use Rattle.width_check.specs.declared.typed.TArm.{TArm}
use Rattle.width_check.specs.declared.typed.TExpr.{TExpr}
use Rattle.width_check.specs.declared.typed.TLink.{TLink}
use Rattle.width_check.specs.declared.typed.TStmt.{TStmt}
use Rattle.width_check.specs.Processes.{Formulas, no_parts, and_part, Operations, no_operations, and_operation, Processes, no_members, and_member, Choices, no_choices, and_choice}
use Rattle.width_check.specs.View.{formula_of, process_of}
use Rattle.width_check.proofs.Rows.{parts_of, links_of}
use Rattle.width_check.proofs.Statements.{members_of, arms_of}

-- a list with room for members, of which none is made yet
pub nothing_made : {T X E : Type 0} (list : Result (Vec T Global) E) (f : List T → X) → IfOk list (λ v. v.items ≡ []) → IfOk list (λ v. f v.items ≡ f [])
nothing_made (Ok v) f empty = ap f empty
nothing_made (Err e) f empty = tt

-- members that were made, before others

abbrev pub before_parts : List TExpr → Formulas → Formulas
before_parts [] fs = fs
before_parts (e ∷ es) fs = and_part (formula_of e) (before_parts es fs)

abbrev pub before_links : List TLink → Operations → Operations
before_links [] os = os
before_links (l ∷ ls) os = and_operation l.op (formula_of l.right) (before_links ls os)

abbrev pub before_members : List TStmt → Processes → Processes
before_members [] ps = ps
before_members (s ∷ ss) ps = and_member (process_of s) (before_members ss ps)

abbrev pub before_arms : List TArm → Choices → Choices
before_arms [] cs = cs
before_arms (a ∷ xs) cs = and_choice (formula_of a.guard) (process_of a.body) (before_arms xs cs)

pub parts_all : (es : List TExpr) → before_parts es no_parts ≡ parts_of es
parts_all [] = refl
parts_all (e ∷ es) = ap (and_part (formula_of e)) (parts_all es)

pub links_all : (ls : List TLink) → before_links ls no_operations ≡ links_of ls
links_all [] = refl
links_all (l ∷ ls) = ap (and_operation l.op (formula_of l.right)) (links_all ls)

pub members_all : (ss : List TStmt) → before_members ss no_members ≡ members_of ss
members_all [] = refl
members_all (s ∷ ss) = ap (and_member (process_of s)) (members_all ss)

pub arms_all : (xs : List TArm) → before_arms xs no_choices ≡ arms_of xs
arms_all [] = refl
arms_all (a ∷ xs) = ap (and_choice (formula_of a.guard) (process_of a.body)) (arms_all xs)

pub one_part : (es : List TExpr) (e : TExpr) (fs : Formulas) → before_parts (es ++ e ∷ []) fs ≡ before_parts es (and_part (formula_of e) fs)
one_part [] e fs = refl
one_part (d ∷ es) e fs = ap (and_part (formula_of d)) (one_part es e fs)

pub one_link : (ls : List TLink) (l : TLink) (os : Operations) → before_links (ls ++ l ∷ []) os ≡ before_links ls (and_operation l.op (formula_of l.right) os)
one_link [] l os = refl
one_link (k ∷ ls) l os = ap (and_operation k.op (formula_of k.right)) (one_link ls l os)

pub one_member : (ss : List TStmt) (s : TStmt) (ps : Processes) → before_members (ss ++ s ∷ []) ps ≡ before_members ss (and_member (process_of s) ps)
one_member [] s ps = refl
one_member (r ∷ ss) s ps = ap (and_member (process_of r)) (one_member ss s ps)

pub one_arm : (xs : List TArm) (a : TArm) (cs : Choices) →
    before_arms (xs ++ a ∷ []) cs ≡ before_arms xs (and_choice (formula_of a.guard) (process_of a.body) cs)
one_arm [] a cs = refl
one_arm (b ∷ xs) a cs = ap (and_choice (formula_of b.guard) (process_of b.body)) (one_arm xs a cs)
