-- A small program by hand: a procedure whose assignment reads its own target, called twice, without its procedure.
use Rattle.std.proofs.Common.{◌≡◌, ℕ, ◌+◌, true, false, List, [], ◌∷◌, ◌++◌, refl, sym, ap, ◌∙◌, arith}
use Rattle.std.specs.Prelude.{codes}
use Rattle.std.specs.List.{list_any}
use Rattle.std.specs.Str.{bytes_eq}
use Rattle.std.proofs.lemmas.Fmt.{decimal_digit}
use Rattle.chp_base.specs.declared.span.Span.{Span}
use Rattle.chp_syntax.specs.declared.tree.Ident.{Ident}
use Rattle.chp_syntax.specs.declared.tree.Decl.{Decl}
use Rattle.chp_syntax.specs.declared.tree.DeclKind.TheVariants as declares
use Rattle.chp_syntax.specs.declared.tree.Op.TheVariants.{Add}
use Rattle.chp_syntax.specs.Trees.{Expression, number, whole, chain, no_links, and_link, Statement, assigns, sends, follows, calls, no_members, and_member, ProgramTree}
use Rattle.width_check.proofs.Doubles.{any_there}
use Rattle.call_merge.specs.CallForms.{statement_forms}
use Rattle.call_merge.specs.CallSplits.{all_names, IsLeastFree}
use Rattle.call_merge.specs.Inlining.{IsInlined}

abbrev place : ℕ → Span
place n = record { from = n; to = n + 1 }

abbrev named : List ℕ → ℕ → Ident
named name at = record { name = name; at = place at }

abbrev x : List ℕ
x = codes "x"

abbrev out : List ℕ
out = codes "X"

abbrev p : List ℕ
p = codes "p"

abbrev h : List ℕ
h = codes "h0"

abbrev declarations : List Decl
declarations =
    record { kind = declares.Out; name = named out 4; width = 2; width_at = place 8; first = 0; first_at = place 8 }
    ∷ record { kind = declares.Var; name = named x 15; width = 2; width_at = place 19; first = 0; first_at = place 19 } ∷ []

-- x + 1
abbrev more : Expression
more = chain (whole (named x 37)) (and_link Add (number 1 (place 41)) no_links) (record { from = 37; to = 42 })

-- out X : 2; var x : 2; proc p = (x := x + 1; X!x); begin call p; call p end
abbrev counting : ProgramTree
counting = record {
  decls = declarations;
  procs = record {
    name = named p 27;
    body = follows (and_member (assigns (named x 32) more) (and_member (sends (named out 44) (whole (named x 46))) no_members));
  } ∷ [];
  body = follows (and_member (calls (named p 61)) (and_member (calls (named p 69)) no_members));
}

-- the variable of the assignment: where x is assigned, with the width of x
abbrev own : Decl
own = record { kind = declares.Var; name = named h 32; width = 2; width_at = place 19; first = 0; first_at = place 19 }

-- (h0 := x + 1; x := h0); X!x
abbrev copy : Statement
copy = follows (and_member
    (follows (and_member (assigns (named h 32) more) (and_member (assigns (named x 32) (whole (named h 32))) no_members)))
    (and_member (sends (named out 44) (whole (named x 46))) no_members))

abbrev counted : ProgramTree
counted = record { decls = declarations ++ own ∷ []; procs = []; body = follows (and_member copy (and_member copy no_members)) }

-- the name isn't one of the text, and has the least number
least_free : IsLeastFree (all_names counting) h
least_free = record {
  number = 0;
  is = sym (ap (λ (ds : List ℕ). 104 ∷ ds) (decimal_digit 0 (omega arith)));
  free = λ c. let yes : list_any (bytes_eq h) (all_names counting) ≡ true = any_there h (all_names counting) c in
      let no : list_any (bytes_eq h) (all_names counting) ≡ false = refl in
      let clash : true ≡ false = sym yes ∙ no in
      cc clash;
  least = λ j less. absurd (omega (arith, less));
}

counting_inlined : IsInlined counting counted
counting_inlined = record { vars = own ∷ []; own = (least_free, refl, tt); tree = refl }

-- two copies of ten forms in a sequence: a sequence of X!x and of two assignments in a sequence
forms_counted : statement_forms counted.body ≡ 21
forms_counted = refl
