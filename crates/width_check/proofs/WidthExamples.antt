-- Small programs by hand: their first faults, and the typed form of one that has none.
use Rattle.std.proofs.Common.{◌≡◌, ℕ, ◌+◌, false, List, [], ◌∷◌, Some, None, inl, inr, refl}
use Rattle.std.specs.Prelude.{codes}
use Rattle.chp_base.specs.declared.channel.Kind.TheVariants as kind
use Rattle.chp_base.specs.declared.fault.FaultCode.{FaultCode}
use Rattle.chp_base.specs.declared.fault.FaultCode.TheVariants as code
use Rattle.chp_base.specs.declared.span.Span.{Span}
use Rattle.chp_syntax.specs.declared.tree.Decl.{Decl}
use Rattle.chp_syntax.specs.declared.tree.DeclKind.{DeclKind}
use Rattle.chp_syntax.specs.declared.tree.DeclKind.TheVariants as declares
use Rattle.chp_syntax.specs.declared.tree.Ident.{Ident}
use Rattle.chp_syntax.specs.declared.tree.Op.TheVariants.{Add, Eq}
use Rattle.chp_syntax.specs.Trees as plain
use Rattle.chp_syntax.specs.Trees.{Expression, number, whole, slice, bit, join, negation, chain, Expressions, Links, no_links, and_link, Statement, assigns, sends, receives, follows, besides, selects, repeats, Statements, no_arms, and_arm, ProgramTree}
use Rattle.width_check.specs.Faults.{naming_faults, HasNone, IsFirstFault}
use Rattle.width_check.specs.Form.{typed_form}
use Rattle.width_check.specs.Places.{own_width}
use Rattle.width_check.specs.Processes.{constant, reading, joined, inverted, chained, compared, no_parts, and_part, no_operations, and_operation, sending, receiving, assigning, in_turn, choosing, no_members, and_member, no_choices, and_choice, TypedProgram}
use Rattle.width_check.specs.Refusing.{AreNone, IsFirstCause}
use Rattle.width_check.specs.Walk.{first_of, first_double, is_out_of_range, is_wide_first, met_of, noted, no_findings}
use Rattle.width_check.specs.declared.causes.Cause.{Cause}
use Rattle.width_check.proofs.Judging.{causes_of, judged, unjudged}

abbrev span : ℕ → ℕ → Span
span from to = record { from = from; to = to }

abbrev named : List ℕ → ℕ → Ident
named name at = record { name = name; at = span at (at + 1) }

abbrev declares_one : DeclKind → List ℕ → (width first : ℕ) → Decl
declares_one kind name width first = record { kind = kind; name = named name 0; width = width; width_at = span 1 2; first = first; first_at = span 1 2 }

abbrev l : List ℕ
l = codes "L"

abbrev r : List ℕ
r = codes "R"

abbrev x : List ℕ
x = codes "x"

abbrev y : List ℕ
y = codes "y"

abbrev z : List ℕ
z = codes "z"

abbrev g : List ℕ
g = codes "g"

-- in L : 8; out R : 4; var x : 8 = 5; var y : 3; var z : 8; var g : 1
abbrev some_decls : List Decl
some_decls = declares_one declares.In l 8 0 ∷ declares_one declares.Out r 4 0 ∷ declares_one declares.Var x 8 5 ∷ declares_one declares.Var y 3 0
    ∷ declares_one declares.Var z 8 0 ∷ declares_one declares.Var g 1 0 ∷ []

abbrev does : Statement → ProgramTree
does body = record { decls = some_decls; procs = []; body = body }

-- the causes of a program with their first places, by computation
abbrev causes_in : ProgramTree → List Cause
causes_in p = causes_of (first_double [] None p.decls) (first_of is_out_of_range (λ (d : Decl). d.width_at) None p.decls)
    (noted p.decls no_findings (met_of p.decls p.body)) (first_of is_wide_first (λ (d : Decl). d.first_at) None p.decls)

refused : (p : ProgramTree) (c : FaultCode) (s : Span) → IsFirstCause (causes_in p) c s → IsFirstFault p naming_faults c s
refused p c s first = judged p _ _ _ _ c s (record { doubles = refl; ranges = refl; findings = refl; firsts = refl }) first

accepted : (p : ProgramTree) → AreNone (causes_in p) → HasNone p naming_faults
accepted p none = unjudged p _ _ _ _ (record { doubles = refl; ranges = refl; findings = refl; firsts = refl }) none

abbrev one : Expression → Expressions
one e = plain.and_part e plain.no_parts

abbrev two : Expression → Expression → Expressions
two e f = plain.and_part e (plain.and_part f plain.no_parts)

abbrev equals : Expression → Expression → Span → Expression
equals e f at = chain e (and_link Eq f no_links) at

-- g := {1} = 2: the join has 0 bits, so not the comparison lacks a width, but the part does
abbrev join_of_a_number : Expression
join_of_a_number = equals (join (one (number 1 (span 11 12))) (span 10 13)) (number 2 (span 16 17)) (span 10 17)

no_bits : own_width some_decls (join (one (number 1 (span 11 12))) (span 10 13)) ≡ Some 0
no_bits = refl

at_the_part : IsFirstFault (does (assigns (named g 5) join_of_a_number)) naming_faults code.UnknownWidth (span 11 12)
at_the_part = refused _ _ _ (inr (refl, inr (refl, inr (refl, inr (refl, inr (refl, inr (refl, inl (refl, refl))))))))

-- z := {1, x}: at the part, though the join has the wanted 8 bits
number_in_a_join : IsFirstFault (does (assigns (named z 5) (join (two (number 1 (span 11 12)) (whole (named x 14))) (span 10 16)))) naming_faults
    code.UnknownWidth (span 11 12)
number_in_a_join = refused _ _ _ (inr (refl, inr (refl, inr (refl, inr (refl, inr (refl, inr (refl, inl (refl, refl))))))))

-- z := (y) = y: the comparison has one bit where 8 are wanted, and begins at its bracket
outer_leaf : IsFirstFault (does (assigns (named z 5) (equals (whole (named y 11)) (whole (named y 16)) (span 10 17)))) naming_faults code.Width (span 10 17)
outer_leaf = refused _ _ _ (inr (refl, inr (refl, inr (refl, inr (refl, inr (refl, inr (refl, inr (refl, inl (refl, refl)))))))))

-- nine parts of 8 bits
abbrev nine : Expressions
nine = plain.and_part (whole (named x 11))
    (plain.and_part (whole (named x 14)) (plain.and_part (whole (named x 17))
    (plain.and_part (whole (named x 20)) (plain.and_part (whole (named x 23))
    (plain.and_part (whole (named x 26)) (plain.and_part (whole (named x 29)) (two (whole (named x 32)) (whole (named x 35)))))))))

-- g := {x, x, x, x, x, x, x, x, x} = {..}: more than 64 bits, though both sides have 72
wide_join : IsFirstFault (does (assigns (named g 5) (equals (join nine (span 10 37)) (join nine (span 40 67)) (span 10 67)))) naming_faults code.Width
    (span 10 37)
wide_join = refused _ _ _ (inr (refl, inr (refl, inr (refl, inr (refl, inr (refl, inr (refl, inr (refl, inl (refl, refl)))))))))

-- z := {x, ..} = {..}: of the comparison and its left side, which begin together and are both at fault, the comparison
both_begin : IsFirstFault (does (assigns (named z 5) (equals (join nine (span 10 37)) (join nine (span 40 67)) (span 10 67)))) naming_faults code.Width
    (span 10 67)
both_begin = refused _ _ _ (inr (refl, inr (refl, inr (refl, inr (refl, inr (refl, inr (refl, inr (refl, inl (refl, refl)))))))))

-- *[[1 = y -> L?y]]: a receive into 3 bits where 8 come, in the branch of a selection in a repetition; 1 is of 3 bits
deep_receive : IsFirstFault (does (repeats
    (selects false (and_arm (equals (number 1 (span 8 9)) (whole (named y 12)) (span 8 13)) (receives (named l 17) (named y 19)) no_arms)))) naming_faults
    code.Width (span 19 20)
deep_receive = refused _ _ _ (inr (refl, inr (refl, inr (refl, inr (refl, inr (refl, inr (refl, inr (refl, inl (refl, refl)))))))))

-- g := 8 = y: a number has the width of the other side
of_the_right_side : IsFirstFault (does (assigns (named g 5) (equals (number 8 (span 10 11)) (whole (named y 14)) (span 10 15)))) naming_faults
    code.ConstantTooWide (span 10 11)
of_the_right_side = refused _ _ _ (inr (refl, inr (refl, inr (refl, inr (refl, inr (refl, inr (refl, inr (refl, inr (refl, inl (refl, refl))))))))))

-- L?x; [x = 7 -> R!{g, y} [] ~(x[3:1] = y) -> z := x + 1]
abbrev a_body : Statement
a_body =
    follows
    (plain.and_member (receives (named l 6) (named x 8))
    (plain.and_member
    (selects false
    (and_arm (equals (whole (named x 12)) (number 7 (span 16 17)) (span 12 17))
    (sends (named r 21) (join (two (whole (named g 24)) (whole (named y 27))) (span 23 29)))
    (and_arm (negation (equals (slice (named x 34) 3 1 (span 34 40)) (whole (named y 43)) (span 34 44)) (span 32 45))
    (assigns (named z 49) (chain (whole (named x 54)) (and_link Add (number 1 (span 58 59)) no_links) (span 54 59)))
    no_arms)))
    plain.no_members))

no_fault : HasNone (does a_body) naming_faults
no_fault = accepted _ (refl, (refl, (refl, (refl, (refl, (refl, (refl, (refl, (refl, tt)))))))))

abbrev a_typed_program : TypedProgram
a_typed_program = record {
  channels = record { name = l; kind = kind.In; width = 8 } ∷ record { name = r; kind = kind.Out; width = 4 } ∷ [];
  vars = record { name = x; width = 8; first = 5 } ∷ record { name = y; width = 3; first = 0 } ∷ record { name = z; width = 8; first = 0 }
      ∷ record { name = g; width = 1; first = 0 } ∷ [];
  body =
      in_turn
      (and_member (receiving 0 (span 6 7) 0 (span 8 9))
      (and_member
      (choosing false
      (and_choice (compared Eq (reading 0 7 0 (span 12 13)) (constant 8 7))
      (sending 1 (span 21 22) (joined (and_part (reading 3 0 0 (span 24 25)) (and_part (reading 1 2 0 (span 27 28)) no_parts))))
      (and_choice (inverted (compared Eq (reading 0 3 1 (span 34 35)) (reading 1 2 0 (span 43 44))))
      (assigning 2 (span 49 50) (chained (reading 0 7 0 (span 54 55)) (and_operation Add (constant 8 1) no_operations)))
      no_choices)))
      no_members));
}

its_form : typed_form (does a_body) ≡ a_typed_program
its_form = refl
