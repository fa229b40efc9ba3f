-- One variable more for an assignment that reads its own target.
use Rattle.std.proofs.Common.{◌≡◌, ℕ, ◌+◌, ◌<◌, ◌≤◌, Bool, true, false, List, [], ◌∷◌, ◌++◌, length, get_or, take, cond, refl, sym, ap, ◌∙◌, subst, arith, append-nil, append_assoc}
use Rattle.std.specs.Prelude.{◌||◌}
use Rattle.std.specs.List.{list_any}
use Rattle.std.specs.Str.{bytes_eq}
use Rattle.std.proofs.lemmas.List.{take_more, take_all, map-append}
use Rattle.std.proofs.lemmas.Slice.Eq.{bytes_eq-Decides}
use Rattle.chp_syntax.specs.declared.tree.Decl.{Decl}
use Rattle.chp_syntax.specs.declared.tree.Ident.{Ident}
use Rattle.width_check.proofs.Doubles.{any_there, there_any}
use Rattle.call_merge.specs.CallSplits.{own_name, IsLeastFree, own_var, own_names, AreOwnVars}

-- what is known where variables of some targets are made: what the table of taken names has, and which numbers are taken
pub record OwnVarsSoFar (ds : List Decl) (names : List (List ℕ)) (targets : List Ident) (has : List ℕ → Bool) (from : ℕ) (vars : List Decl) : Type 0 where
  pub own : AreOwnVars ds names targets vars
  pub taken : (n : List ℕ) → has n ≡ list_any (bytes_eq n) (names ++ own_names vars)
  pub below : (j : ℕ) → j < from → has (own_name j) ≡ true

own_more : (ds : List Decl) (names : List (List ℕ)) (xs : List Ident) (vars : List Decl) (x : Ident) (v : Decl) → AreOwnVars ds names xs vars
    → IsLeastFree (names ++ own_names vars) v.name.name → v ≡ own_var ds v.name.name x → AreOwnVars ds names (xs ++ x ∷ []) (vars ++ v ∷ [])
own_more ds names [] [] x v own free is = (subst (λ (ns : List (List ℕ)). IsLeastFree ns v.name.name) (append-nil names) free, is, tt)
own_more ds names [] (w ∷ vars) x v own free is = absurd own
own_more ds names (y ∷ xs) [] x v own free is = absurd own
own_more ds names (y ∷ xs) (w ∷ vars) x v own free is = (
  own.0,
  own.1,
  own_more ds (names ++ w.name.name ∷ []) xs vars x v own.2
      (subst (λ (ns : List (List ℕ)). IsLeastFree ns v.name.name) (sym (append_assoc names (w.name.name ∷ []) (own_names vars))) free) is,
)

any_or : (n m : List ℕ) (ns : List (List ℕ)) → list_any (bytes_eq n) (ns ++ m ∷ []) ≡ (bytes_eq n m || list_any (bytes_eq n) ns)
any_or n m [] = refl
any_or n m (k ∷ ns) = ap (λ b. bytes_eq n k || b) (any_or n m ns) ∙ swap (bytes_eq n k) (bytes_eq n m) (list_any (bytes_eq n) ns)
  where
    swap : (a b c : Bool) → (a || (b || c)) ≡ (b || (a || c))
    swap true true c = refl
    swap true false c = refl
    swap false b c = refl

bytes_swap : (n m : List ℕ) → bytes_eq n m ≡ bytes_eq m n
bytes_swap n m = by_tests (bytes_eq n m) (bytes_eq m n) refl refl
  where
    by_tests : (a b : Bool) → bytes_eq n m ≡ a → bytes_eq m n ≡ b → bytes_eq n m ≡ bytes_eq m n
    by_tests true b p q = p ∙ sym ((bytes_eq-Decides m n).1 (sym ((bytes_eq-Decides n m).0 p)))
    by_tests false true p q = (let t : bytes_eq n m ≡ true = (bytes_eq-Decides n m).1 (sym ((bytes_eq-Decides m n).0 q)) in t ∙ sym q)
    by_tests false false p q = p ∙ sym q

pub vars_begin : (ds : List Decl) (names : List (List ℕ)) (has : List ℕ → Bool) → ((n : List ℕ) → has n ≡ list_any (bytes_eq n) names)
    → OwnVarsSoFar ds names [] has 0 []
vars_begin ds names has taken = record {
  own = tt;
  taken = λ n. taken n ∙ sym (ap (list_any (bytes_eq n)) (append-nil names));
  below = λ j less. absurd (omega (arith, less));
}

pub var_more : (ds : List Decl) (names : List (List ℕ)) (targets : List Ident) (i : ℕ) (x : Ident) (has now : List ℕ → Bool) (from : ℕ) (vars next : List Decl)
    (v : Decl) (name : List ℕ) (number : ℕ) → i < length targets → x ≡ get_or targets i x → OwnVarsSoFar ds names (take i targets) has from vars
    → name ≡ own_name number → has name ≡ false → ((j : ℕ) → j < number → has (own_name j) ≡ true)
    → ((q : List ℕ) → now q ≡ cond (bytes_eq name q) true (has q)) → v ≡ own_var ds name x → next ≡ vars ++ v ∷ []
    → OwnVarsSoFar ds names (take (i + 1) targets) now number next
var_more ds names targets i x has now from vars next v name number within is so_far named free least added made pushed =
    subst (λ (xs : List Ident). OwnVarsSoFar ds names xs now number next) (sym taken_so)
    (subst (λ (us : List Decl). OwnVarsSoFar ds names (take i targets ++ x ∷ []) now number us) (sym pushed) (record {
      own = own_more ds names (take i targets) vars x v so_far.own here (made ∙ ap (λ (n : List ℕ). own_var ds n x) (sym v_name));
      taken = λ n. added n ∙ (ap (λ b. cond b true (has n)) (bytes_swap name n) ∙ (cond_or (bytes_eq n name) (has n)
          ∙ (ap (λ b. bytes_eq n name || b) (so_far.taken n) ∙ (sym (any_or n name (names ++ own_names vars)) ∙ ap (list_any (bytes_eq n)) (sym all_names)))));
      below = λ j less. added (own_name j) ∙ (ap (λ b. cond (bytes_eq name (own_name j)) true b) (least j less) ∙ both (bytes_eq name (own_name j)));
    }))
  where
    taken_so : take (i + 1) targets ≡ take i targets ++ x ∷ []
    taken_so = take_more targets i x within ∙ ap (λ y. take i targets ++ y ∷ []) (sym is)

    v_name : v.name.name ≡ name
    v_name = ap (λ (d : Decl). d.name.name) made

    here : IsLeastFree (names ++ own_names vars) v.name.name
    here = record {
      number = number;
      is = v_name ∙ named;
      free = λ c. let yes = any_there v.name.name (names ++ own_names vars) c in
          let no : list_any (bytes_eq v.name.name) (names ++ own_names vars) ≡ false =
          sym (so_far.taken v.name.name) ∙ (ap has v_name ∙ free) in
          let clash : true ≡ false = sym yes ∙ no in cc clash;
      least = λ j less. there_any (own_name j) (names ++ own_names vars) (sym (so_far.taken (own_name j)) ∙ least j less);
    }

    cond_or : (a b : Bool) → cond a true b ≡ (a || b)
    cond_or true b = refl
    cond_or false b = refl

    both : (b : Bool) → cond b true true ≡ true
    both true = refl
    both false = refl

    all_names : names ++ own_names (vars ++ v ∷ []) ≡ (names ++ own_names vars) ++ name ∷ []
    all_names = ap (λ z. names ++ z) (map-append (λ (d : Decl). d.name.name) vars (v ∷ [])) ∙ (sym (append_assoc names (own_names vars) (v.name.name ∷ []))
        ∙ ap (λ (n : List ℕ). (names ++ own_names vars) ++ n ∷ []) v_name)

pub own_done : (ds : List Decl) (names : List (List ℕ)) (targets : List Ident) (i : ℕ) (has : List ℕ → Bool) (from : ℕ) (vars : List Decl) → length targets ≤ i
    → OwnVarsSoFar ds names (take i targets) has from vars → AreOwnVars ds names targets vars
own_done ds names targets i has from vars over so_far = subst (λ (xs : List Ident). AreOwnVars ds names xs vars) (take_all i targets over) so_far.own
