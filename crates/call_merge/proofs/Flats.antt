-- What is collected of procedures one after the other.
use Rattle.std.proofs.Common.{◌≡◌, ℕ, ◌≤◌, List, [], ◌∷◌, ◌++◌, map, length, take, refl, sym, ap, ◌∙◌, append_assoc}
use Rattle.std.specs.List.{flat_map}
use Rattle.std.proofs.lemmas.List.{take_all, map-append}
use Rattle.chp_syntax.specs.declared.tree.Decl.{Decl}
use Rattle.chp_syntax.specs.declared.tree.Proc.{Proc}
use Rattle.chp_syntax.specs.declared.tree.Program.{Program}
use Rattle.chp_syntax.specs.Trees.{Procedure}
use Rattle.chp_syntax.specs.View.{procedure_of, program_tree, statement_of}
use Rattle.width_check.specs.Places.{Use, uses_in}
use Rattle.call_merge.specs.CallSplits.{all_uses, program_names}
use Rattle.call_merge.proofs.Mapping.{names_used}

-- the names of what procedures and the body use

map_flat : {X A B : Type 0} (f : A → B) (g : X → List A) (xs : List X) → map f (flat_map g xs) ≡ flat_map (λ x. map f (g x)) xs
map_flat f g [] = refl
map_flat f g (x ∷ xs) = map-append f (g x) (flat_map g xs) ∙ ap (λ z. map f (g x) ++ z) (map_flat f g xs)

pub uses_noted : (program : Program) (qs : List Proc) (i : ℕ) (old mid new : List (List ℕ)) → qs ≡ program.procs.items → length qs ≤ i
    → mid ≡ old ++ flat_map (λ (q : Procedure). names_used q.body) (map procedure_of (take i qs)) → new ≡ mid ++ names_used (statement_of program.body)
    → new ≡ old ++ map (λ (u : Use). u.name) (all_uses (program_tree program))
uses_noted program qs i old mid new items over so_far next =
    let xs = flat_map (λ (q : Procedure). uses_in q.body) (map procedure_of program.procs.items) in
    let all : flat_map (λ (q : Procedure). names_used q.body) (map procedure_of (take i qs)) ≡ map (λ (u : Use). u.name) xs =
    ap (λ (ps : List Proc). flat_map (λ (q : Procedure). names_used q.body) (map procedure_of ps)) (take_all i qs over ∙ items)
    ∙ sym (map_flat (λ (u : Use). u.name) (λ (q : Procedure). uses_in q.body) (map procedure_of program.procs.items)) in
    next ∙ (ap (λ z. z ++ names_used (statement_of program.body)) (so_far ∙ ap (λ z. old ++ z) all)
    ∙ (append_assoc old (map (λ (u : Use). u.name) xs) (names_used (statement_of program.body))
    ∙ ap (λ z. old ++ z) (sym (map-append (λ (u : Use). u.name) xs (uses_in (statement_of program.body))))))

-- the names that are declared

names_mapped : (qs : List Proc) → map (λ (q : Procedure). q.name.name) (map procedure_of qs) ≡ map (λ (q : Proc). q.name.name) qs
names_mapped [] = refl
names_mapped (q ∷ qs) = ap (λ z. q.name.name ∷ z) (names_mapped qs)

pub declared_noted : (program : Program) (ds : List Decl) (qs : List Proc) (i j : ℕ) (old mid new : List (List ℕ)) → ds ≡ program.decls.items
    → qs ≡ program.procs.items → length ds ≤ i → length qs ≤ j → mid ≡ old ++ map (λ (d : Decl). d.name.name) (take i ds)
    → new ≡ mid ++ map (λ (q : Proc). q.name.name) (take j qs) → new ≡ old ++ program_names (program_tree program)
declared_noted program ds qs i j old mid new decls procs over done so_far next =
    let xs = map (λ (d : Decl). d.name.name) program.decls.items in
    let ys = map (λ (q : Proc). q.name.name) program.procs.items in
    next ∙ (ap (λ (z : List Proc). mid ++ map (λ (q : Proc). q.name.name) z) (take_all j qs done ∙ procs)
    ∙ (ap (λ (z : List (List ℕ)). z ++ ys) (so_far ∙ ap (λ (z : List Decl). old ++ map (λ (d : Decl). d.name.name) z) (take_all i ds over ∙ decls))
    ∙ (append_assoc old xs ys ∙ ap (λ (z : List (List ℕ)). old ++ (xs ++ z)) (sym (names_mapped program.procs.items)))))
