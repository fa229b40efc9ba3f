-- What is made of the parts of a program with a buffer.
use Rattle.std.proofs.Common.{◌≡◌, ℕ, List, [], ◌∷◌, ◌++◌, map, sym, ap, ◌∙◌}
use Rattle.std.specs.declared.alloc.Global.{Global}
use Rattle.std.specs.declared.vec.Vec.{Vec}
use Rattle.std.proofs.lemmas.List.{append_assoc}
use Rattle.chp_syntax.specs.declared.tree.Decl.{Decl}
use Rattle.chp_syntax.specs.declared.tree.DeclKind.TheVariants as declares
use Rattle.chp_syntax.specs.declared.tree.Ident.{Ident}
use Rattle.chp_syntax.specs.declared.tree.Expr.{Whole}
use Rattle.chp_syntax.specs.declared.tree.Proc.{Proc}
use Rattle.chp_syntax.specs.declared.tree.Stmt.{Stmt, Receive, Send, Then, Beside}
use Rattle.chp_syntax.specs.Trees.{whole, Statement, sends, receives, follows, besides, repeats, no_members, and_member, ProgramTree, Procedure}
use Rattle.chp_syntax.specs.View.{statement_of, procedure_of, onto}
use Rattle.chp_syntax.proofs.Rows.{then_tree, beside_tree}
use Rattle.width_check.specs.Places.{declared_width}
use Rattle.slack_buffer.specs.Buffers.{copy_name, slot_name}
use Rattle.slack_buffer.specs.BufferedTrees.{made_name, made_decl, rerouted_statement, buffer_statement, buffered_tree}
use Rattle.slack_buffer.proofs.Typing.{new_decls}

pub turn_made : (v : Vec Stmt Global) (s : Stmt) (chan copy slot : List ℕ) (i j k l : Ident) → s ≡ Then v → v.items ≡ Receive i j ∷ Send k (Whole l) ∷ [] →
    i ≡ made_name chan → j ≡ made_name slot → k ≡ made_name copy → l ≡ made_name slot → repeats (statement_of s) ≡ buffer_statement chan copy slot
turn_made v s chan copy slot i j k l is items ei ej ek el =
    ap repeats (ap statement_of is ∙ (then_tree v ∙ (ap (λ xs. follows (onto and_member (map statement_of xs) no_members)) items
    ∙ (ap (λ z. follows (and_member (receives z j) (and_member (sends k (whole l)) no_members))) ei
    ∙ (ap (λ z. follows (and_member (receives (made_name chan) z) (and_member (sends k (whole l)) no_members))) ej
    ∙ (ap (λ z. follows (and_member (receives (made_name chan) (made_name slot)) (and_member (sends z (whole l)) no_members))) ek
    ∙ ap (λ z. follows (and_member (receives (made_name chan) (made_name slot)) (and_member (sends (made_name copy) (whole z)) no_members))) el))))))

pub decls_pushed : (old all one two : List Decl) (x y a b : Decl) → two ≡ one ++ y ∷ [] → one ≡ all ++ x ∷ [] → all ≡ old → x ≡ a → y ≡ b →
    two ≡ old ++ a ∷ b ∷ []
decls_pushed old all one two x y a b second first same ex ey =
    second ∙ (ap (λ z. z ++ y ∷ []) (first ∙ ap (λ z. z ++ x ∷ []) same)
    ∙ (append_assoc old (x ∷ []) (y ∷ []) ∙ (ap (λ z. old ++ z ∷ y ∷ []) ex ∙ ap (λ z. old ++ a ∷ z ∷ []) ey)))

abbrev pub tree_of_parts : List Decl → List Procedure → Statement → ProgramTree
tree_of_parts ds ps s = record { decls = ds; procs = ps; body = s }

-- what is pushed, copied and rerouted
pub record AreParts (p : ProgramTree) (chan : List ℕ) (k : ℕ) (ds : List Decl) (v : Vec Stmt Global) : Type 0 where
  pub decls : ds ≡ p.decls ++ new_decls p.decls chan k
  pub members : statement_of (Beside v) ≡ (buffered_tree p chan k).body

pub parts_made : (p : ProgramTree) (chan : List ℕ) (k : ℕ) (ds : List Decl) (procs : List Proc) (v : Vec Stmt Global) → AreParts p chan k ds v → p.procs ≡ [] →
    procs ≡ [] → tree_of_parts ds (map procedure_of procs) (statement_of (Beside v)) ≡ buffered_tree p chan k
parts_made p chan k ds procs v parts none no_procs =
    ap (λ z. tree_of_parts z (map procedure_of procs) (statement_of (Beside v))) parts.decls
    ∙ (ap (λ z. tree_of_parts (p.decls ++ new_decls p.decls chan k) z (statement_of (Beside v))) (ap (map procedure_of) no_procs ∙ sym none)
    ∙ ap (λ z. tree_of_parts (p.decls ++ new_decls p.decls chan k) p.procs z) parts.members)

pub are_parts : (p : ProgramTree) (chan : List ℕ) (k : ℕ) (ds : List Decl) (copy slot : List ℕ) (v : Vec Stmt Global) → copy ≡ copy_name k →
    slot ≡ slot_name k →
    ds ≡ p.decls ++ made_decl declares.Chan copy (declared_width p.decls chan) ∷ made_decl declares.Var slot (declared_width p.decls chan) ∷ [] →
    map statement_of v.items ≡ rerouted_statement chan copy p.body ∷ buffer_statement chan copy slot ∷ [] → AreParts p chan k ds v
are_parts p chan k ds copy slot v ec es decls items = record {
  decls = decls
      ∙ (ap (λ n. p.decls ++ made_decl declares.Chan n (declared_width p.decls chan) ∷ made_decl declares.Var slot (declared_width p.decls chan) ∷ []) ec
      ∙ ap (λ n. p.decls ++ made_decl declares.Chan (copy_name k) (declared_width p.decls chan) ∷ made_decl declares.Var n (declared_width p.decls chan) ∷ [])
      es);
  members = beside_tree v ∙ (ap (λ xs. besides (onto and_member xs no_members)) items
      ∙ (ap (λ n. besides (and_member (rerouted_statement chan n p.body) (and_member (buffer_statement chan n slot) no_members))) ec
      ∙ ap (λ n. besides (and_member (rerouted_statement chan (copy_name k) p.body) (and_member (buffer_statement chan (copy_name k) n) no_members))) es));
}

pub both_pushed : (none one two : List Stmt) (s buf : Stmt) (a b : Statement) → none ≡ [] → one ≡ none ++ s ∷ [] → two ≡ one ++ buf ∷ [] →
    statement_of s ≡ a → statement_of buf ≡ b → map statement_of two ≡ a ∷ b ∷ []
both_pushed none one two s buf a b empty first second ea eb =
    ap (map statement_of) (second ∙ ap (λ z. z ++ buf ∷ []) (first ∙ ap (λ z. z ++ s ∷ []) empty))
    ∙ (ap (λ z. z ∷ statement_of buf ∷ []) ea ∙ ap (λ z. a ∷ z ∷ []) eb)
