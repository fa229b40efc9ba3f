-- An assignment that reads its own target, in halves.
use Rattle.std.proofs.Common.{◌≡◌, ℕ, zero, suc, ◌+◌, ◌<◌, ◌≤◌, true, Some, List, [], ◌∷◌, length, get_or, refl, sym, ap, ◌∙◌, arith}
use Rattle.std.specs.Prelude.{slice_get}
use Rattle.chp_syntax.specs.declared.tree.Decl.{Decl}
use Rattle.chp_syntax.specs.declared.tree.Expr.{Expr}
use Rattle.chp_syntax.specs.declared.tree.Ident.{Ident}
use Rattle.chp_syntax.specs.declared.tree.Stmt.{Stmt, Assign}
use Rattle.chp_syntax.specs.Trees.{Expression, whole, Statement, assigns, follows, no_members, and_member}
use Rattle.chp_syntax.specs.View.{expression_of, statement_of}
use Rattle.call_merge.specs.CallSplits.{reads_itself, own_readers, own_names, through_own, split_statement}

named_at : (vars : List Decl) (n : ℕ) (v : Decl) → n < length vars → v ≡ get_or vars n v → slice_get (own_names vars) n ≡ Some v.name.name
named_at [] n v within is = absurd (omega (arith, within))
named_at (w ∷ vars) zero v within is = ap (λ (d : Decl). Some d.name.name) (sym is)
named_at (w ∷ vars) (suc n) v within is = named_at vars n v (omega (arith, within)) is

pub assign_split : (ds vars : List Decl) (n : ℕ) (s : Stmt) (target : Ident) (value : Expr) (v : Decl) (made : Statement) → s ≡ Assign target value
    → reads_itself ds target (expression_of value) ≡ true → n + length (own_readers ds (statement_of s)) ≤ length vars → v ≡ get_or vars n v
    → made ≡ through_own (get_or vars n v).name.name target (expression_of value) → made ≡ split_statement ds (own_names vars) n (statement_of s)
assign_split ds vars n s target value v made is itself room var so =
    let here : statement_of s ≡ assigns target (expression_of value) = ap statement_of is in
    let reader : own_readers ds (statement_of s) ≡ target ∷ [] = rw here (rw itself refl) in
    let count : length (own_readers ds (statement_of s)) ≡ 1 = ap length reader in
    let name : slice_get (own_names vars) n ≡ Some v.name.name = named_at vars n v (omega (arith, room, count)) var in
    so ∙ (ap (λ (d : Decl). through_own d.name.name target (expression_of value)) (sym var) ∙ rw here (rw itself (rw name refl)))

pub halves : (h : List ℕ) (target first second third : Ident) (e value : Expression) → first ≡ record { name = h; at = target.at } → e ≡ value
    → second ≡ target → third ≡ record { name = h; at = target.at }
    → follows (and_member (assigns first e) (and_member (assigns second (whole third)) no_members)) ≡ through_own h target value
halves h target first second third e value p q r s =
    let keeps : assigns first e ≡ assigns (record { name = h; at = target.at }) value = ap (λ (x : Ident). assigns x e) p
    ∙ ap (λ x. assigns (record { name = h; at = target.at }) x) q in
    let moves : assigns second (whole third) ≡ assigns target (whole (record { name = h; at = target.at })) =
    ap (λ (x : Ident). assigns x (whole third)) r ∙ ap (λ (x : Ident). assigns target (whole x)) s in
    ap (λ x. follows (and_member x (and_member (assigns second (whole third)) no_members))) keeps
    ∙ ap (λ x. follows (and_member (assigns (record { name = h; at = target.at }) value) (and_member x no_members))) moves
