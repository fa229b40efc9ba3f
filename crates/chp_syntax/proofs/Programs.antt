-- Declarations and whole programs: what is to come after each of their parts, and the first fault.
use Rattle.std.proofs.Common.{◌≡◌, ℕ, zero, suc, ◌+◌, ◌<◌, ◌≤◌, List, [], ◌∷◌, ◌++◌, length, take, drop, Option, Some, None, refl, sym, ap, ◌∙◌, subst, arith, append_assoc}
use Rattle.std.proofs.lemmas.List.{drop_all, append-nil, length-drop, append_cancel_right, take-append-drop}
use Rattle.chp_base.specs.declared.span.Span.{Span}
use Rattle.chp_syntax.specs.declared.token.Token.{Token}
use Rattle.chp_syntax.specs.declared.token.TokenKind.{TokenKind}
use Rattle.chp_syntax.specs.declared.token.TokenKind.TheVariants.{Word, Ident, Number, Sign}
use Rattle.chp_syntax.specs.declared.token.Key.TheVariants as key
use Rattle.chp_syntax.specs.declared.token.Mark.TheVariants as mark
use Rattle.chp_syntax.specs.declared.tree.Ident.{Ident as Named}
use Rattle.chp_syntax.specs.declared.tree.DeclKind.{DeclKind}
use Rattle.chp_syntax.specs.declared.tree.DeclKind.TheVariants as declares
use Rattle.chp_syntax.specs.declared.parser.sight.Numeral.{Numeral}
use Rattle.chp_syntax.specs.declared.parser.sight.DeclFront.TheVariants as decl
use Rattle.chp_syntax.specs.Trees.{Statement, ProgramTree}
use Rattle.chp_syntax.specs.Grammar.{named, name, numeral, word, sign, kind_of_channel, Atom, Par, Declared, no_declared, Item, valued, defined, and_item, unset, set, Declaration, a_channel, a_variable, a_variable_with_first, a_procedure, Declarations, no_declaration, one_more_declaration, Programs, the_program, Derives}
use Rattle.chp_syntax.specs.Reading.{FirstFault}
use Rattle.chp_syntax.specs.Parts.{GrammarPart, sees, IsKind, kind_read, StopsAt, Anything, Nothing, Undeclared, Exactly, exactly, Operator, operator, AName, the_name, ANumber, the_number, Good, Bad, decl_kind, decl_front}
use Rattle.chp_syntax.specs.View.{onto, with_item}
use Rattle.chp_syntax.proofs.Steps.{zero_span, SoFar, Ends, Seam, Then, and_then, then_parts, Done, all_done, done_parts, Either, one, other, start, instead, by_part, part_bad, bad_here, good_here, not_one, not_other, ends_exactly, ends_name, ends_number, ends_done, ends_then, ends_one, any_seam, kind_seam, last_any, last_seam, then_kind}
use Rattle.chp_syntax.proofs.Group.{onto_end}
use Rattle.chp_syntax.proofs.Statements.{ends_atom, ends_par}

abbrev pub FD : Option Token → Type 0
FD = Anything

-- a channel
abbrev pub decl_of : DeclKind → Named → Numeral → Item
decl_of k i w = valued (unset k i w.value w.at)

abbrev pub Semicolon_then : Item → GrammarPart Item
Semicolon_then d = Then (Exactly (Sign mark.Semicolon)) (λ e. Done d)

abbrev pub Width_then : (Numeral → GrammarPart Item) → GrammarPart Item
Width_then Q = Then (Exactly (Sign mark.Colon)) (λ c. Then ANumber Q)

abbrev pub Channelled : GrammarPart Item
Channelled = Then (Operator kind_of_channel) (λ k. Then AName (λ i. Width_then (λ w. Semicolon_then (decl_of k i w))))

channel_in : {l rest : List Token} {a : Item} → Channelled l rest a → Declaration l rest a
channel_in (and_then (operator e) (and_then the_name (and_then exactly (and_then the_number (and_then exactly all_done))))) = a_channel e

channel_out : {l rest : List Token} {a : Item} (k : DeclKind) → decl_front (sees l) ≡ decl.Channel k → Declaration l rest a → Channelled l rest a
channel_out k h (a_channel {n = n} {w = w} {s = s} {p = p} e) =
    and_then (operator e) (and_then {b = named n s} the_name
    (and_then exactly (and_then {b = record { value = w; at = p }} the_number (and_then exactly all_done))))
channel_out k h a_variable = absurd (cc h)
channel_out k h a_variable_with_first = absurd (cc h)
channel_out k h (a_procedure p) = absurd (cc h)

pub channel_start : (k : DeclKind) (xs : List Token) → decl_front (sees xs) ≡ decl.Channel k → SoFar Declaration FD xs xs Channelled
channel_start k xs h = instead Channelled (start Declaration FD xs) (λ l rest a q. channel_in q) (λ l rest a s f w. channel_out k (ap decl_front s ∙ h) w)

channel_kind : (j : TokenKind) (k : DeclKind) → decl_kind j ≡ decl.Channel k → kind_of_channel j ≡ Some k
channel_kind (Word key.In) k h = let e : declares.In ≡ k = cc h in ap (λ (d : DeclKind). Some d) e
channel_kind (Word key.Out) k h = let e : declares.Out ≡ k = cc h in ap (λ (d : DeclKind). Some d) e
channel_kind (Word key.Chan) k h = let e : declares.Chan ≡ k = cc h in ap (λ (d : DeclKind). Some d) e
channel_kind (Word _) k h = absurd (cc h)
channel_kind (Ident n) k h = absurd (cc h)
channel_kind (Number n) k h = absurd (cc h)
channel_kind (Sign m) k h = absurd (cc h)

pub channel_seen : (k : DeclKind) (t : Option Token) → decl_front t ≡ decl.Channel k → kind_read kind_of_channel t ≡ Some k
channel_seen k None h = absurd (cc h)
channel_seen k (Some t) h = channel_kind t.kind k h

semicolon_ends : (d : Item) → Ends (Semicolon_then d)
semicolon_ends d = ends_then (ends_exactly (Sign mark.Semicolon)) (λ e. ends_done d)

width_ends : {Q : Numeral → GrammarPart Item} → ((w : Numeral) → Ends (Q w)) → Ends (Width_then Q)
width_ends e = ends_then (ends_exactly (Sign mark.Colon)) (λ c. ends_then ends_number e)

pub channel_1 : Seam (Operator kind_of_channel) Anything FD (λ k. Then AName (λ i. Width_then (λ w. Semicolon_then (decl_of k i w))))
channel_1 = any_seam (λ k. ends_then ends_name (λ i. width_ends (λ w. semicolon_ends (decl_of k i w))))

pub channel_2 : (k : DeclKind) → Seam AName Anything FD (λ i. Width_then (λ w. Semicolon_then (decl_of k i w)))
channel_2 k = any_seam (λ i. width_ends (λ w. semicolon_ends (decl_of k i w)))

pub channel_3 : (k : DeclKind) (i : Named) → Seam (Exactly (Sign mark.Colon)) Anything FD (λ c. Then ANumber (λ w. Semicolon_then (decl_of k i w)))
channel_3 k i = any_seam (λ c. ends_then ends_number (λ w. semicolon_ends (decl_of k i w)))

pub channel_4 : (k : DeclKind) (i : Named) → Seam ANumber Anything FD (λ w. Semicolon_then (decl_of k i w))
channel_4 k i = any_seam (λ w. semicolon_ends (decl_of k i w))

pub semicolon_seam : (d : Item) → Seam (Exactly (Sign mark.Semicolon)) Anything FD (λ e. Done d)
semicolon_seam d = last_any (λ e. d)

-- a variable
abbrev pub set_of : Named → Numeral → Numeral → Item
set_of i w x = valued (set i w.value w.at x.value x.at)

abbrev pub First : Named → Numeral → GrammarPart Item
First i w = Then (Exactly (Sign mark.Equal)) (λ q. Then ANumber (λ x. Semicolon_then (set_of i w x)))

abbrev pub After_width : Named → Numeral → GrammarPart Item
After_width i w = Either (Semicolon_then (decl_of declares.Var i w)) (First i w)

abbrev pub Variable : GrammarPart Item
Variable = Then (Exactly (Word key.Var)) (λ v. Then AName (λ i. Width_then (After_width i)))

variable_in : {l rest : List Token} {a : Item} → Variable l rest a → Declaration l rest a
variable_in (and_then exactly (and_then the_name (and_then exactly (and_then the_number (one (and_then exactly all_done)))))) = a_variable
variable_in (and_then exactly (and_then the_name
    (and_then exactly (and_then the_number (other (and_then exactly (and_then the_number (and_then exactly all_done)))))))) = a_variable_with_first

channel_declares : (j : TokenKind) (k : DeclKind) → kind_of_channel j ≡ Some k → decl_kind j ≡ decl.Channel k
channel_declares (Word key.In) k h = let e : declares.In ≡ k = cc h in ap (λ (d : DeclKind). decl.Channel d) e
channel_declares (Word key.Out) k h = let e : declares.Out ≡ k = cc h in ap (λ (d : DeclKind). decl.Channel d) e
channel_declares (Word key.Chan) k h = let e : declares.Chan ≡ k = cc h in ap (λ (d : DeclKind). decl.Channel d) e
channel_declares (Word _) k h = absurd (cc h)
channel_declares (Ident n) k h = absurd (cc h)
channel_declares (Number n) k h = absurd (cc h)
channel_declares (Sign m) k h = absurd (cc h)

variable_out : {l rest : List Token} {a : Item} → decl_front (sees l) ≡ decl.Variable → Declaration l rest a → Variable l rest a
variable_out h (a_channel {t = t} {kind = k} e) = absurd (let x : decl.Channel k ≡ decl.Variable = sym (channel_declares t.kind k e) ∙ h in cc x)
variable_out h (a_variable {n = n} {w = w} {s = s} {p = p}) =
    and_then exactly (and_then {b = named n s} the_name
    (and_then exactly (and_then {b = record { value = w; at = p }} the_number (one (and_then exactly all_done)))))
variable_out h (a_variable_with_first {n = n} {w = w} {x = x} {s = s} {p = p} {r = r}) =
    and_then exactly (and_then {b = named n s} the_name
    (and_then exactly (and_then {b = record { value = w; at = p }} the_number
    (other (and_then exactly (and_then {b = record { value = x; at = r }} the_number (and_then exactly all_done)))))))
variable_out h (a_procedure p) = absurd (cc h)

pub variable_start : (xs : List Token) → decl_front (sees xs) ≡ decl.Variable → SoFar Declaration FD xs xs Variable
variable_start xs h = instead Variable (start Declaration FD xs) (λ l rest a q. variable_in q) (λ l rest a s f w. variable_out (ap decl_front s ∙ h) w)

after_ends : (i : Named) (w : Numeral) → Ends (After_width i w)
after_ends i w = ends_one (semicolon_ends (decl_of declares.Var i w))

pub variable_1 : Seam (Exactly (Word key.Var)) Anything FD (λ v. Then AName (λ i. Width_then (After_width i)))
variable_1 = any_seam (λ v. ends_then ends_name (λ i. width_ends (after_ends i)))

pub variable_2 : Seam AName Anything FD (λ i. Width_then (After_width i))
variable_2 = any_seam (λ i. width_ends (after_ends i))

pub variable_3 : (i : Named) → Seam (Exactly (Sign mark.Colon)) Anything FD (λ c. Then ANumber (After_width i))
variable_3 i = any_seam (λ c. ends_then ends_number (after_ends i))

pub variable_4 : (i : Named) → Seam ANumber Anything FD (After_width i)
variable_4 i = any_seam (after_ends i)

pub equal_seam : (i : Named) (w : Numeral) → Seam (Exactly (Sign mark.Equal)) Anything FD (λ q. Then ANumber (λ x. Semicolon_then (set_of i w x)))
equal_seam i w = any_seam (λ q. ends_then ends_number (λ x. semicolon_ends (set_of i w x)))

pub first_seam : (i : Named) (w : Numeral) → Seam ANumber Anything FD (λ x. Semicolon_then (set_of i w x))
first_seam i w = any_seam (λ x. semicolon_ends (set_of i w x))

pub without_first : {xs left : List Token} (i : Named) (w : Numeral) → SoFar Declaration FD xs left (After_width i w) →
    (IsKind (Sign mark.Equal) (sees left) → ⊥) → SoFar Declaration FD xs left (Semicolon_then (decl_of declares.Var i w))
without_first i w so never = not_other so (λ l rest a s f q. never (subst (λ (t : Option Token). IsKind (Sign mark.Equal) t) s (then_kind q)))

not_both : (t : Option Token) → IsKind (Sign mark.Equal) t → IsKind (Sign mark.Semicolon) t → ⊥
not_both None h k = h
not_both (Some t) h k = let e : Sign mark.Equal ≡ Sign mark.Semicolon = sym h ∙ k in cc e

pub with_first : {xs left : List Token} (i : Named) (w : Numeral) → SoFar Declaration FD xs left (After_width i w) → IsKind (Sign mark.Equal) (sees left) →
    SoFar Declaration FD xs left (First i w)
with_first i w so h = not_one so (λ l rest a s f q. not_both (sees l) (subst (λ (t : Option Token). IsKind (Sign mark.Equal) t) (sym s) h) (then_kind q))

-- a procedure
abbrev pub proc_of : Named → Statement → Item
proc_of i b = defined (record { name = i; body = b })

abbrev pub Procedured : GrammarPart Item
Procedured = Then (Exactly (Word key.Proc)) (λ v. Then AName (λ i. Then (Exactly (Sign mark.Equal)) (λ q. Then Atom (λ b. Semicolon_then (proc_of i b)))))

procedure_in : {l rest : List Token} {a : Item} → Procedured l rest a → Declaration l rest a
procedure_in (and_then exactly (and_then the_name (and_then exactly (and_then p (and_then exactly all_done))))) = a_procedure p

procedure_out : {l rest : List Token} {a : Item} → decl_front (sees l) ≡ decl.Procedure → Declaration l rest a → Procedured l rest a
procedure_out h (a_channel {t = t} {kind = k} e) = absurd (let x : decl.Channel k ≡ decl.Procedure = sym (channel_declares t.kind k e) ∙ h in cc x)
procedure_out h a_variable = absurd (cc h)
procedure_out h a_variable_with_first = absurd (cc h)
procedure_out h (a_procedure {n = n} {s = s} p) =
    and_then exactly (and_then {b = named n s} the_name (and_then exactly (and_then p (and_then exactly all_done))))

pub procedure_start : (xs : List Token) → decl_front (sees xs) ≡ decl.Procedure → SoFar Declaration FD xs xs Procedured
procedure_start xs h = instead Procedured (start Declaration FD xs) (λ l rest a q. procedure_in q) (λ l rest a s f w. procedure_out (ap decl_front s ∙ h) w)

proc_ends : (i : Named) → Ends (Then Atom (λ b. Semicolon_then (proc_of i b)))
proc_ends i = ends_then ends_atom (λ b. semicolon_ends (proc_of i b))

pub procedure_1 : Seam (Exactly (Word key.Proc)) Anything FD
    (λ v. Then AName (λ i. Then (Exactly (Sign mark.Equal)) (λ q. Then Atom (λ b. Semicolon_then (proc_of i b)))))
procedure_1 = any_seam (λ v. ends_then ends_name (λ i. ends_then (ends_exactly (Sign mark.Equal)) (λ q. proc_ends i)))

pub procedure_2 : Seam AName Anything FD (λ i. Then (Exactly (Sign mark.Equal)) (λ q. Then Atom (λ b. Semicolon_then (proc_of i b))))
procedure_2 = any_seam (λ i. ends_then (ends_exactly (Sign mark.Equal)) (λ q. proc_ends i))

pub procedure_3 : (i : Named) → Seam (Exactly (Sign mark.Equal)) Anything FD (λ q. Then Atom (λ b. Semicolon_then (proc_of i b)))
procedure_3 i = any_seam (λ q. proc_ends i)

pub procedure_4 : (i : Named) → Seam Atom (StopsAt 5) FD (λ b. Semicolon_then (proc_of i b))
procedure_4 i = kind_seam (Sign mark.Semicolon) 5 (omega arith) (λ b e. ends_done (proc_of i b))

-- any number of declarations
declaration_front : {l rest : List Token} {a : Item} → Declaration l rest a → Undeclared (sees l) → ⊥
declaration_front (a_channel {t = t} {kind = k} e) h = let x : decl.Channel k ≡ decl.Other = sym (channel_declares t.kind k e) ∙ h in cc x
declaration_front a_variable h = cc h
declaration_front a_variable_with_first h = cc h
declaration_front (a_procedure p) h = cc h

pub ends_declaration : Ends Declaration
ends_declaration = (
  word key.Var zero_span ∷ name [] zero_span ∷ sign mark.Colon zero_span ∷ numeral 0 zero_span ∷ sign mark.Semicolon zero_span ∷ [],
  _,
  λ rest. a_variable,
)

pub declaration_bad : (xs : List Token) → Undeclared (sees xs) → Bad Declaration FD xs xs
declaration_bad xs h = bad_here (start Declaration FD xs) (λ l rest a s f w. declaration_front w (ap decl_front s ∙ h)) ends_declaration

abbrev pub Rest : List Item → GrammarPart Declared
Rest got l rest a = (us : Declared) × Declarations l rest us × (a ≡ onto and_item got us)

pub record Declaring (xs left : List Token) (d : Declared) : Type 0 where
  pub got : List Item
  pub so : SoFar Declarations Undeclared xs left (Rest got)
  pub same : onto and_item got no_declared ≡ d

pub declaring_start : (xs : List Token) → Declaring xs xs no_declared
declaring_start xs = record {
  got = [];
  so = instead (Rest []) (start Declarations Undeclared xs) (λ l rest a q. subst (λ (d : Declared). Declarations l rest d) (sym q.2) q.1)
      (λ l rest a s f w. (a, w, refl));
  same = refl;
}

and_with : (y x : Item) (d : Declared) → and_item y (with_item d x) ≡ with_item (and_item y d) x
and_with (valued y) (valued x) d = refl
and_with (valued y) (defined x) d = refl
and_with (defined y) (valued x) d = refl
and_with (defined y) (defined x) d = refl

first_with : (x : Item) → and_item x no_declared ≡ with_item no_declared x
first_with (valued x) = refl
first_with (defined x) = refl

item_more : (got : List Item) (x : Item) → onto and_item (got ++ (x ∷ [])) no_declared ≡ with_item (onto and_item got no_declared) x
item_more [] x = first_with x
item_more (y ∷ got) x = ap (λ d. and_item y d) (item_more got x) ∙ and_with y x (onto and_item got no_declared)

rest_ends : (got : List Item) → Ends (Rest got)
rest_ends got = ([], onto and_item got no_declared, λ rest. (no_declared, no_declaration, refl))

more_in : (got : List Item) (l rest : List Token) (a : Declared) → Then Declaration (λ x. Rest (got ++ (x ∷ []))) l rest a → Rest got l rest a
more_in got l rest a q =
    let p = then_parts q in
    (and_item p.1 p.3.0, one_more_declaration p.2 p.3.1, p.3.2 ∙ onto_end and_item got p.1 p.3.0)

more_out : (got : List Item) (a : Declared) {l rest : List Token} {us : Declared} → Declarations l rest us → a ≡ onto and_item got us →
    (Undeclared (sees l) → ⊥) → Undeclared (sees rest) → Then Declaration (λ x. Rest (got ++ (x ∷ []))) l rest a
more_out got a no_declaration e never f = absurd (never f)
more_out got a (one_more_declaration {d = d} {more = us} r m) e never f = and_then r (us, m, e ∙ sym (onto_end and_item got d us))

next : {xs left : List Token} (got : List Item) → SoFar Declarations Undeclared xs left (Rest got) → (Undeclared (sees left) → ⊥) →
    SoFar Declarations Undeclared xs left (Then Declaration (λ x. Rest (got ++ (x ∷ []))))
next got so never = instead (Then Declaration (λ x. Rest (got ++ (x ∷ [])))) so (more_in got)
    (λ l rest a s f q. more_out got a q.1 q.2 (λ u. never (subst (λ (t : Option Token). Undeclared t) s u)) f)

next_seam : (got : List Item) → Seam Declaration Anything Undeclared (λ x. Rest (got ++ (x ∷ [])))
next_seam got = any_seam (λ x. rest_ends (got ++ (x ∷ [])))

pub declaring_bad : {xs left to : List Token} {d : Declared} → Declaring xs left d → (Undeclared (sees left) → ⊥) → Bad Declaration Anything left to →
    Bad Declarations Undeclared xs to
declaring_bad s never bad = part_bad (next_seam s.got) (next s.got s.so never) bad

pub declaring_more : {xs left to : List Token} {d : Declared} {x : Item} → Declaring xs left d → (Undeclared (sees left) → ⊥) →
    Good Declaration Anything left to x → Declaring xs to (with_item d x)
declaring_more {x = x} s never good = record {
  got = s.got ++ (x ∷ []);
  so = by_part (next_seam s.got) (next s.got s.so never) good;
  same = item_more s.got x ∙ ap (λ d. with_item d x) s.same;
}

end_only : (got : List Item) (a : Declared) {l rest : List Token} {us : Declared} → Declarations l rest us → a ≡ onto and_item got us → Undeclared (sees l) →
    (rest ≡ l) × (a ≡ onto and_item got no_declared)
end_only got a no_declaration e u = (refl, e)
end_only got a (one_more_declaration r m) e u = absurd (declaration_front r u)

pub declaring_end : {xs left : List Token} {d : Declared} → Declaring xs left d → Undeclared (sees left) → Good Declarations Undeclared xs left d
declaring_end {xs} {left} {d} s u =
    subst (λ (e : Declared). Good Declarations Undeclared xs left e) s.same
    (good_here (onto and_item s.got no_declared) s.so (λ l. (no_declared, no_declaration, refl))
    (λ l rest b same f q. end_only s.got b q.1 q.2 (ap decl_front same ∙ u)))

-- the whole program
abbrev pub whole_of : Declared → Statement → ProgramTree
whole_of d t = record { decls = d.decls; procs = d.procs; body = t }

abbrev pub Ending : Declared → Statement → GrammarPart ProgramTree
Ending d t = Then (Exactly (Word key.End)) (λ e. Done (whole_of d t))

abbrev pub Beginning : Declared → GrammarPart ProgramTree
Beginning d = Then (Exactly (Word key.Begin)) (λ b. Then Par (Ending d))

program_in : {l rest : List Token} {a : ProgramTree} → Then Declarations Beginning l rest a → Programs l rest a
program_in (and_then d (and_then exactly (and_then p (and_then exactly all_done)))) = the_program d p

program_out : {l rest : List Token} {a : ProgramTree} → Programs l rest a → Then Declarations Beginning l rest a
program_out (the_program d p) = and_then d (and_then exactly (and_then p (and_then exactly all_done)))

pub program_start : (xs : List Token) → SoFar Programs Nothing xs xs (Then Declarations Beginning)
program_start xs = instead (Then Declarations Beginning) (start Programs Nothing xs) (λ l rest a q. program_in q) (λ l rest a s f w. program_out w)

begin_undeclared : (t : Option Token) → IsKind (Word key.Begin) t → Undeclared t
begin_undeclared None h = absurd h
begin_undeclared (Some t) h = ap decl_kind h

body_ends : (d : Declared) → Ends (Then Par (Ending d))
body_ends d = ends_then ends_par (λ t. ends_then (ends_exactly (Word key.End)) (λ e. ends_done (whole_of d t)))

pub declared_seam : Seam Declarations Undeclared Nothing Beginning
declared_seam = record {
  stops = λ d l rest a f q. begin_undeclared (sees l) (then_kind q);
  ends = λ d. ends_then (ends_exactly (Word key.Begin)) (λ b. body_ends d);
}

pub begin_seam : (d : Declared) → Seam (Exactly (Word key.Begin)) Anything Nothing (λ b. Then Par (Ending d))
begin_seam d = any_seam (λ b. body_ends d)

pub par_seam : (d : Declared) → Seam Par (StopsAt 2) Nothing (Ending d)
par_seam d = kind_seam (Word key.End) 2 (omega arith) (λ t e. ends_done (whole_of d t))

pub end_seam : (d : Declared) (t : Statement) → Seam (Exactly (Word key.End)) Nothing Nothing (λ e. Done (whole_of d t))
end_seam d t = last_seam (λ e. whole_of d t)

some_left : (xs : List Token) → 0 < length xs → Nothing (sees xs) → ⊥
some_left [] h f = absurd (omega (arith, h))
some_left (x ∷ xs) h f = f

pub more_behind : {A : Type 0} {W : GrammarPart A} {xs : List Token} {p : A} (all : List Token) (at : ℕ) → SoFar W Nothing xs (drop at all) (Done p) →
    at < length all → Bad W Nothing xs (drop at all)
more_behind {p = p} all at so more =
    let left : 0 < length (drop at all) = omega (arith, more, length-drop at all) in
    bad_here so
    (λ l rest a s f q. some_left (drop at all) left
    (subst (λ (o : Option Token). Nothing o) s (subst (λ (x : List Token). Nothing (sees x)) (done_parts q).0 f)))
    (ends_done p)

abbrev LastWord : GrammarPart Span
LastWord = Exactly (Word key.End)

-- the last keyword, once it has been read
pub end_start : {xs left : List Token} {s : Span} → Good LastWord Anything xs left s → SoFar LastWord Nothing xs left (Done s)
end_start {xs} good = by_part (last_any (λ s. s))
    (instead (Then LastWord (λ s. Done s)) (start LastWord Nothing xs) (λ l rest a q. put q) (λ l rest a s f w. and_then w all_done)) good
  where
    put : {l rest : List Token} {a : Span} → Then LastWord (λ s. Done s) l rest a → LastWord l rest a
    put (and_then r all_done) = r

-- and where it can't be read
pub no_end : {xs left : List Token} → Bad LastWord Anything xs left → Bad LastWord Nothing xs left
no_end bad = record {
  done = bad.done;
  is = bad.is;
  stuck = λ l rest a s f w. bad.stuck l rest a s tt w;
  viable = bad.viable;
}

pub reads_it : {ts left : List Token} {p : ProgramTree} → left ≡ [] → Good Programs Nothing ts left p → Derives ts p
reads_it {p = p} none good = subst (λ (x : List Token). Derives x p) (sym (good.is ∙ ap (λ x. good.done ++ x) none)) (good.derives [])

pub reads_only : {ts left : List Token} {p : ProgramTree} → left ≡ [] → Good Programs Nothing ts left p → (q : ProgramTree) → Derives ts q → q ≡ p
reads_only none good q r = (good.only [] [] q (sym (ap sees none)) tt (subst (λ (x : List Token). Derives x q) (good.is ∙ ap (λ x. good.done ++ x) none) r)).1

-- the first n of them
front_is : (n : ℕ) (ts done : List Token) → ts ≡ done ++ drop n ts → done ≡ take n ts
front_is n ts done e = append_cancel_right done (take n ts) (drop n ts) (sym e ∙ sym (take-append-drop n ts))

take_one : (n : ℕ) (ts : List Token) → n < length ts → (x : Token) × (take (n + 1) ts ≡ take n ts ++ (x ∷ [])) × (sees (drop n ts) ≡ Some x)
take_one zero [] lt = absurd (omega arith)
take_one zero (x ∷ ts) lt = (x, refl, refl)
take_one (suc n) [] lt = absurd (omega arith)
take_one (suc n) (x ∷ ts) lt =
    let r = take_one n ts (omega arith) in
    let e : suc n + 1 ≡ suc (n + 1) = omega arith in
    (r.0, ap (λ i. take i (x ∷ ts)) e ∙ ap (λ ys. x ∷ ys) r.1, r.2)

pub first_fault : (n : ℕ) (ts : List Token) → n ≤ length ts → Bad Programs Nothing ts (drop n ts) → FirstFault ts n
first_fault n ts le bad =
    let d = front_is n ts bad.done bad.is in record {
      within = le;
      never = λ lt more t r.
          let x = take_one n ts lt in
          let e : take (n + 1) ts ++ more ≡ bad.done ++ (x.0 ∷ more) =
          ap (λ ys. ys ++ more) x.1 ∙ (append_assoc (take n ts) (x.0 ∷ []) more ∙ ap (λ ys. ys ++ (x.0 ∷ more)) (sym d)) in
          bad.stuck (x.0 ∷ more) [] t (sym x.2) tt (subst (λ (y : List Token). Derives y t) e r);
      short = λ all t r.
          let none : drop n ts ≡ [] = drop_all n ts (omega (arith, all)) in
          bad.stuck [] [] t (sym (ap sees none)) tt (subst (λ (y : List Token). Derives y t) (bad.is ∙ ap (λ x. bad.done ++ x) none) r);
      viable =
          let v = bad.viable in
          (v.0, v.1, subst (λ (y : List Token). Derives y v.1) (ap (λ x. bad.done ++ x) (append-nil v.0) ∙ ap (λ x. x ++ v.0) d) (v.2 []));
    }

pub none_at_all : {ts left : List Token} → Bad Programs Nothing ts left → (p : ProgramTree) → ¬ Derives ts p
none_at_all {ts} {left} bad p r = bad.stuck left [] p refl tt (subst (λ (y : List Token). Derives y p) bad.is r)
