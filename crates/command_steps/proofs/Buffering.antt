-- What is declared of a channel that is to be buffered.
use Rattle.std.proofs.Common.{◌≡◌, ◌∙◌, ℕ, ◌≤◌, Bool, true, false, cond, List, [], ◌∷◌, ◌++◌, length, Option, Some, None, refl, sym, ap, subst, arith, length-append}
use Rattle.std.specs.Prelude.{option_map}
use Rattle.std.specs.Str.{bytes_eq}
use Rattle.std.specs.Borrow.{Bor}
use Rattle.std.proofs.lemmas.Slice.Eq.{bytes_eq-Decides}
use Rattle.chp_syntax.specs.Trees.{ProgramTree}
use Rattle.chp_syntax.specs.declared.tree.Decl.{Decl}
use Rattle.chp_syntax.specs.declared.tree.DeclKind.TheVariants.{Chan, Var}
use Rattle.slack_buffer.specs.BufferedTrees.{IsInnerChannel, buffered_tree, made_decl}
use Rattle.slack_buffer.specs.Buffers.{copy_name, slot_name}
use Rattle.width_check.specs.Accepted.{IsAccepted}
use Rattle.width_check.specs.Form.{typed_form}
use Rattle.width_check.specs.Places.{declaration, declared_width}
use Rattle.width_check.specs.Processes.{TypedProgram}
use Rattle.width_check.specs.Sharing.{MeetsSharing}
use Rattle.command_steps.specs.HeldBuffered.{IsBufferedForm}

abbrev declared_name : List Decl → List ℕ → Option (List ℕ)
declared_name ds text = option_map (λ (d : Decl). d.name.name) (declaration ds text)

-- the name of a declaration of a name is that name
own_name : (ds : List Decl) (text : List ℕ) (d : Decl) → declaration ds text ≡ Some d → d.name.name ≡ text
own_name [] text d found = absurd (cc found)
own_name (e ∷ ds) text d found = go (bytes_eq e.name.name text) refl found (own_name ds text d)
  where
    go : (b : Bool) → bytes_eq e.name.name text ≡ b → cond b (Some e) (declaration ds text) ≡ Some d → (declaration ds text ≡ Some d → d.name.name ≡ text)
        → d.name.name ≡ text
    go true is found more = let same : e ≡ d = cc found in subst (λ (x : Decl). x.name.name ≡ text) same ((bytes_eq-Decides e.name.name text).0 is)
    go false is found more = more found

same_by : (ds : List Decl) (text chan : List ℕ) (o : Option Decl) → declaration ds text ≡ o → Some chan ≡ option_map (λ (d : Decl). d.name.name) o → chan ≡ text
same_by ds text chan None found e = absurd (cc e)
same_by ds text chan (Some d) found e = let same : chan ≡ d.name.name = cc e in same ∙ own_name ds text d found

module _ (ds : List Decl) (text : List ℕ) (o : Option (Bor (List ℕ))) (told : option_map (λ (name : Bor (List ℕ)). name.now) o ≡ declared_name ds text) where
  pub no_name : o ≡ None → ¬ IsInnerChannel ds text
  no_name none inner =
      let named : declared_name ds text ≡ Some inner.0.name.name = ap (option_map (λ (d : Decl). d.name.name)) inner.1 in
      let not : ◌≡◌ {A = Option (List ℕ)} None (declared_name ds text) = sym (ap (option_map (λ (name : Bor (List ℕ)). name.now)) none) ∙ told in
      cc (named, not)

  pub that_name : (chan : Bor (List ℕ)) → o ≡ Some chan → chan.now ≡ text
  that_name chan some = same_by ds text chan.now (declaration ds text) refl (sym (ap (option_map (λ (name : Bor (List ℕ)). name.now)) some) ∙ told)

-- two declarations more
abbrev more_decls : ProgramTree → (chan : List ℕ) → (k : ℕ) → List Decl
more_decls p chan k =
    made_decl Chan (copy_name k) (declared_width p.decls chan) ∷ made_decl Var (slot_name k) (declared_width p.decls chan) ∷ []

few_by : (xs ys : List Decl) → length ys ≡ 2 → length xs ≤ 262144 → length (xs ++ ys) ≤ 300000
few_by xs ys two few = omega (arith, length-append xs ys, two, few)

pub few_more : (p q : ProgramTree) (chan : List ℕ) (k : ℕ) → q ≡ buffered_tree p chan k → length p.decls ≤ 262144 → length q.decls ≤ 300000
few_more p q chan k is few =
    subst (λ (t : ProgramTree). length t.decls ≤ 300000) (sym is) (few_by p.decls (more_decls p chan k) refl few)

pub meets_still : (p : ProgramTree) (t : TypedProgram) → t ≡ typed_form p → IsAccepted p → MeetsSharing t.body
meets_still p t form is = subst (λ (q : TypedProgram). MeetsSharing q.body) (sym form) is.sharing

pub form_as : (tree : ProgramTree) (chan text : List ℕ) (program : TypedProgram) → chan ≡ text → IsBufferedForm tree (Some chan) program →
    IsBufferedForm tree (Some text) program
form_as tree chan text program same is = subst (λ (name : List ℕ). IsBufferedForm tree (Some name) program) same is
