-- Small programs by hand: for each cause of a refusal one that has it, and what is shared by parallel branches.
use Rattle.std.proofs.Common.{◌≡◌, ℕ, zero, suc, ◌+◌, ◌<◌, List, [], ◌∷◌, Some, ◌⊎◌, inl, inr, refl, sym, ap, ◌∙◌, arith}
use Rattle.std.specs.Prelude.{codes, slice_get}
use Rattle.chp_base.specs.declared.span.Span.{Span}
use Rattle.chp_base.specs.declared.fault.FaultCode.TheVariants as code
use Rattle.chp_syntax.specs.declared.tree.Ident.{Ident}
use Rattle.chp_syntax.specs.declared.tree.Decl.{Decl}
use Rattle.chp_syntax.specs.declared.tree.DeclKind.{DeclKind}
use Rattle.chp_syntax.specs.declared.tree.DeclKind.TheVariants as declares
use Rattle.chp_syntax.specs.declared.tree.Op.TheVariants.{Eq}
use Rattle.chp_syntax.specs.Trees.{number, whole, bit, chain, no_links, and_link, Statement, skips, assigns, sends, receives, ProgramTree}
use Rattle.width_check.specs.Order.{IsNoLater}
use Rattle.width_check.specs.Places.{use_of, sent_on, written, expect}
use Rattle.width_check.specs.Faults.{FaultAt, IsDouble, IsFirstFault, naming_faults}
use Rattle.width_check.specs.Processes.{constant, reading, Process, assigning, sending, in_turn, side_by_side, no_members, and_member}
use Rattle.width_check.specs.Sharing.{writes_var, reads_var, done_at, SharedAt}

abbrev place : ℕ → Span
place n = record { from = n; to = n + 1 }

abbrev named : List ℕ → ℕ → Ident
named name at = record { name = name; at = place at }

abbrev declares_one : DeclKind → List ℕ → (at width first : ℕ) → Decl
declares_one kind name at width first = record {
  kind = kind;
  name = named name at;
  width = width;
  width_at = place (at + 1);
  first = first;
  first_at = place (at + 2);
}

abbrev a : List ℕ
a = codes "A"

abbrev x : List ℕ
x = codes "x"

abbrev g : List ℕ
g = codes "g"

-- in A : 2; var x : 2; var g : 1
abbrev some_names : List Decl
some_names = declares_one declares.In a 0 2 0 ∷ declares_one declares.Var x 10 2 0 ∷ declares_one declares.Var g 20 1 0 ∷ []

abbrev does : Statement → ProgramTree
does body = record { decls = some_names; procs = []; body = body }

abbrev only_declares : List Decl → ProgramTree
only_declares decls = record { decls = decls; procs = []; body = skips (place 90) }

-- var x : 1; var x : 2; var x : 3: at the second name, since that at the third is behind it
abbrev twice : ProgramTree
twice = only_declares (declares_one declares.Var x 0 1 0 ∷ declares_one declares.Var x 10 2 0 ∷ declares_one declares.Var x 20 3 0 ∷ [])

twice_at : IsDouble twice (place 10)
twice_at = record { earlier = 0; later = 1; order = omega arith; first = _; second = _; first_is = refl; second_is = refl; same = refl; at = refl }

twice_only : (t : Span) → IsDouble twice t → IsNoLater (place 10) t
twice_only t d = at_two d.earlier d.later d.order d.second d.second_is d.at
  where
    at_two : (earlier later : ℕ) → earlier < later → (second : Decl) → slice_get twice.decls later ≡ Some second → t ≡ second.name.at → IsNoLater (place 10) t
    at_two earlier zero order second is at = absurd (omega arith)
    at_two earlier (suc zero) order second is at =
        let is_second : second ≡ declares_one declares.Var x 10 2 0 = cc in
        let there : t ≡ place 10 = at ∙ ap (λ (d : Decl). d.name.at) is_second in
        let begins : t.from ≡ 10 = ap (λ (s : Span). s.from) there in
        let ends : t.to ≡ 11 = ap (λ (s : Span). s.to) there in
        inr (sym begins, omega (arith, ends))
    at_two earlier (suc (suc zero)) order second is at =
        let is_third : second ≡ declares_one declares.Var x 20 3 0 = cc in
        let there : t ≡ place 20 = at ∙ ap (λ (d : Decl). d.name.at) is_third in
        let begins : t.from ≡ 20 = ap (λ (s : Span). s.from) there in
        inl (omega (arith, begins))
    at_two earlier (suc (suc (suc k))) order second is at = absurd (cc is)

-- the first of all causes that are tested
twice_first : IsFirstFault twice naming_faults code.DoubleName (place 10)
twice_first = inl (refl, record { there = twice_at; first = twice_only })

-- var x : 65
too_wide : FaultAt (only_declares (declares_one declares.Var x 0 65 0 ∷ [])) code.WidthRange (place 1)
too_wide = record { decl = _; among = (0, omega arith, refl); range = inr (omega arith); at = refl }

-- y := 1
undeclared : FaultAt (does (assigns (named (codes "y") 30) (number 1 (place 31)))) code.Undeclared (place 30)
undeclared = record { usage = use_of (named (codes "y") 30) written; among = (0, omega arith, refl); missing = refl; at = refl }

-- x!1
no_channel : FaultAt (does (sends (named x 30) (number 1 (place 31)))) code.WrongKind (place 30)
no_channel = record { usage = use_of (named x 30) sent_on; among = (0, omega arith, refl); decl = _; declared = refl; wrong = λ e. absurd (cc e); at = refl }

-- A!1
against_direction : FaultAt (does (sends (named a 30) (number 1 (place 31)))) code.Direction (place 30)
against_direction = record {
  usage = use_of (named a 30) sent_on;
  among = (0, omega arith, refl);
  decl = _;
  declared = refl;
  wrong = inl (refl, refl);
  at =
      refl;
}

-- g := x[2]
no_such_bit : FaultAt (does (assigns (named g 30) (bit (named x 31) 2 (place 31)))) code.BadSlice (place 31)
no_such_bit = record { expression = bit (named x 31) 2 (place 31); among = (0, omega arith, refl); bad = omega arith; at = refl }

-- g := 1 = 0
widthless : FaultAt (does (assigns (named g 30) (chain (number 1 (place 31)) (and_link Eq (number 0 (place 32)) no_links) (place 33)))) code.UnknownWidth
    (place 33)
widthless = record {
  expression = chain (number 1 (place 31)) (and_link Eq (number 0 (place 32)) no_links) (place 33);
  among = (0, omega arith, refl);
  lacks =
      (refl, refl, refl);
}

-- x := g
narrow : FaultAt (does (assigns (named x 30) (whole (named g 31)))) code.Width (place 31)
narrow = inl (record {
  leaf = expect (whole (named g 31)) 2;
  among = (0, omega arith, refl);
  misfit = inl (1, refl, λ (e : 1 ≡ 2). absurd (omega arith));
  at =
      refl;
})

-- A?g
narrow_target : FaultAt (does (receives (named a 30) (named g 31))) code.Width (place 31)
narrow_target = inr (record {
  receive = record { chan = named a 30; target = named g 31 };
  among = (0, omega arith, refl);
  misfit =
      λ (e : 1 ≡ 2). absurd (omega arith);
  at = refl;
})

-- g := x = 4: what is compared with x has its two bits
too_great : FaultAt (does (assigns (named g 30) (chain (whole (named x 31)) (and_link Eq (number 4 (place 32)) no_links) (place 33)))) code.ConstantTooWide
    (place 32)
too_great = inl (record { width = 2; value = 4; among = (2, omega arith, refl); wide = omega arith })

-- var x : 2 = 4
too_great_at_first : FaultAt (only_declares (declares_one declares.Var x 0 2 4 ∷ [])) code.ConstantTooWide (place 2)
too_great_at_first = inr (record { decl = _; among = (0, omega arith, refl); wide = omega arith; at = refl })

-- x := 1, R!x and the same in turn
abbrev writes : Process
writes = assigning 0 (place 5) (constant 1 1)

abbrev reads : Process
reads = sending 0 (place 7) (reading 0 0 0 (place 8))

at_once : SharedAt (side_by_side (and_member reads (and_member writes no_members))) code.SharedVariable (place 5) (place 8)
at_once = record {
  a = done_at (writes_var 0) (place 5);
  b = done_at (reads_var 0) (place 8);
  parallel = inr (inl (inr ((0, omega arith, refl), (1, omega arith, refl))));
  clash = refl;
  at_first = refl;
  at_second = refl;
  order = inl (omega arith);
}

one_by_one : {c : _} {s t : Span} → ¬ SharedAt (in_turn (and_member reads (and_member writes no_members))) c s t
one_by_one h = apart h.parallel
  where
    apart : ⊥ ⊎ (⊥ ⊎ ⊥) → ⊥
    apart (inl e) = elim e [ ]
    apart (inr (inl e)) = elim e [ ]
    apart (inr (inr e)) = elim e [ ]
