-- The program without procedures that is made of declarations and a body, each as it could be made.
use Rattle.std.proofs.Common.{◌≡◌, ℕ, ◌+◌, ◌<◌, List, [], ◌∷◌, ◌++◌, length, get_or, take, map, sym, ap, ◌∙◌}
use Rattle.std.proofs.lemmas.List.{map-append, map_more}
use Rattle.std.specs.Prelude.{Result, Ok, Err, IfOk, IsOk, OnOk}
use Rattle.std.specs.declared.alloc.Global.{Global}
use Rattle.std.specs.declared.boxed.Box.{Box}
use Rattle.std.specs.declared.vec.Vec.{Vec}
use Rattle.std.proofs.lemmas.Result.{IfOk-at_ok}
use Rattle.chp_syntax.specs.declared.tree.Decl.{Decl}
use Rattle.chp_syntax.specs.declared.tree.Proc.{Proc}
use Rattle.chp_syntax.specs.declared.tree.Program.{Program}
use Rattle.chp_syntax.specs.declared.tree.Stmt.{Stmt}
use Rattle.chp_syntax.specs.Trees.{Statement, Procedure, ProgramTree}
use Rattle.chp_syntax.specs.View.{procedure_of, program_tree, statement_of}
use Rattle.call_merge.specs.CallSites.{call_channel}

pub decls_made : {E F : Type 0} (r : Result Program E) (ds : Result (Vec Decl Global) F) (wanted : List Decl) → IfOk r (λ p. ds ≡ Ok p.decls)
    → IfOk ds (λ v. v.items ≡ wanted) → IfOk r (λ p. p.decls.items ≡ wanted)
decls_made (Ok p) ds wanted is made = IfOk-at_ok (λ (v : Vec Decl Global). v.items ≡ wanted) is made
decls_made (Err e) ds wanted is made = tt

pub body_made : {E F : Type 0} (r : Result Program E) (b : Result (Box Stmt Global) F) (wanted : Statement) → OnOk r (IsOk b)
    → IfOk r (λ p. IfOk b (λ x. p.body ≡ x.value)) → IfOk b (λ x. statement_of x.value ≡ wanted) → IfOk r (λ p. statement_of p.body ≡ wanted)
body_made (Ok p) (Ok x) wanted all is made = ap statement_of is ∙ made
body_made (Ok p) (Err e) wanted all is made = absurd (cc all)
body_made (Err e) b wanted all is made = tt

pub plain_tree : {E : Type 0} (r : Result Program E) (decls : List Decl) (body : Statement) → IfOk r (λ p. p.decls.items ≡ decls)
    → IfOk r (λ p. p.procs.items ≡ []) → IfOk r (λ p. statement_of p.body ≡ body)
    → IfOk r (λ p. program_tree p ≡ record { decls = decls; procs = []; body = body })
plain_tree (Ok p) decls body declared none made =
    let make : List Decl → List Procedure → Statement → ProgramTree = λ x y z. record { decls = x; procs = y; body = z } in
    ap (λ x. make x (map procedure_of p.procs.items) (statement_of p.body)) declared
    ∙ (ap (λ (x : List Proc). make decls (map procedure_of x) (statement_of p.body)) none ∙ ap (λ x. make decls [] x) made)
plain_tree (Err e) decls body declared none made = tt

-- one more of the channels that stand for procedures
pub channel_more : (qs : List Proc) (i : ℕ) (q : Proc) (old new : List Decl) (d : Decl) → i < length qs → q ≡ get_or qs i q
    → old ≡ map call_channel (map procedure_of (take i qs)) → new ≡ old ++ d ∷ [] → d ≡ call_channel (procedure_of q)
    → new ≡ map call_channel (map procedure_of (take (i + 1) qs))
channel_more qs i q old new d within is so_far next made =
    let before = map procedure_of (take i qs) in
    let more = map_more procedure_of qs i q within ∙ ap (λ (x : Proc). before ++ procedure_of x ∷ []) (sym is) in
    next ∙ (ap (λ (xs : List Decl). xs ++ d ∷ []) so_far ∙ (ap (λ (x : Decl). map call_channel before ++ x ∷ []) made
    ∙ sym (ap (map call_channel) more ∙ map-append call_channel before (procedure_of q ∷ []))))
