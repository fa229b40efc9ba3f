-- In a body that was split no assignment reads its own target.
use Rattle.std.proofs.Common.{◌≡◌, ◌≢◌, ℕ, zero, suc, ◌+◌, ◌<◌, ◌≤◌, Bool, true, false, List, [], ◌∷◌, ◌++◌, length, map, Some, cond, refl, sym, ◌∙◌, subst, arith, length-append}
use Rattle.std.specs.Prelude.{◌||◌, ◌==◌, not, slice_get, if◌then◌else◌, unwrap_or}
use Rattle.std.specs.List.{AllByRecursion, IsDistinct, list_any, position_or_len}
use Rattle.std.specs.Str.{bytes_eq}
use Rattle.std.proofs.lemmas.Bool.Decides.{nat_tests}
use Rattle.std.proofs.lemmas.Map.Keys.{IsDistinct-head, IsDistinct-tail}
use Rattle.std.proofs.lemmas.Slice.Eq.{bytes_eq-Decides}
use Rattle.chp_base.specs.declared.channel.Channel.{Channel}
use Rattle.chp_syntax.specs.declared.tree.Decl.{Decl}
use Rattle.chp_syntax.specs.declared.tree.DeclKind.{DeclKind}
use Rattle.chp_syntax.specs.declared.tree.DeclKind.TheVariants as declares
use Rattle.chp_syntax.specs.declared.tree.Ident.{Ident}
use Rattle.chp_syntax.specs.Trees as plain
use Rattle.chp_syntax.specs.Trees.{Expression, number, whole, slice, bit, join, negation, chain, Expressions, Links, no_links, and_link, Statement, skips, assigns, sends, receives, follows, besides, selects, repeats, calls, Statements, Arms, no_arms, and_arm}
use Rattle.width_check.specs.declared.typed.Var.{Var}
use Rattle.width_check.specs.Form.{formula_form, parts_form, operations_form, compared_with, process_form, processes_form, choices_form, vars_of, with_var, var_number}
use Rattle.width_check.specs.Places.{Use, reads_in, reads_in_join, reads_in_links, uses_in, uses_in_each, uses_in_arms, declared_width, compares, or_width, own_width, first_width}
use Rattle.width_check.specs.Processes.{Formula, chained, Operations, no_operations, and_operation}
use Rattle.width_check.specs.Reads.{reads, reads_in_parts, reads_in_operations}
use Rattle.width_check.specs.Typing.{IsProcess, AreProcesses, AreChoices}
use Rattle.chp_meaning.specs.Halves.{ReadsNoTarget, EachReadsNoTarget, ChoicesReadNoTarget}
use Rattle.call_merge.specs.CallSplits.{is_var_name, names_read, reads_itself, own_readers, own_readers_each, own_readers_arms, assigns_by, split_statement, split_members, split_arms, own_names}
use Rattle.call_compose.proofs.CallsMet.{front_all, rest_all}

-- names of variables have different numbers

other_number : (vs : List Var) (a b : List ℕ) → a ≢ b → position_or_len (λ (v : Var). bytes_eq v.name a) vs < length vs
    → position_or_len (λ (v : Var). bytes_eq v.name b) vs ≢ position_or_len (λ (v : Var). bytes_eq v.name a) vs
other_number [] a b apart less same = absurd (omega (arith, less))
other_number (v ∷ vs) a b apart less same =
    by_tests (bytes_eq v.name a) (bytes_eq v.name b) refl refl less same (λ l e. other_number vs a b apart l e)
  where
    by_tests : (s t : Bool) → bytes_eq v.name a ≡ s → bytes_eq v.name b ≡ t
        → cond (not s) (1 + position_or_len (λ (v : Var). bytes_eq v.name a) vs) 0 < length (v ∷ vs)
        → cond (not t) (1 + position_or_len (λ (v : Var). bytes_eq v.name b) vs) 0 ≡ cond (not s) (1 + position_or_len (λ (v : Var). bytes_eq v.name a) vs) 0
        → (position_or_len (λ (v : Var). bytes_eq v.name a) vs < length vs
        → position_or_len (λ (v : Var). bytes_eq v.name b) vs ≡ position_or_len (λ (v : Var). bytes_eq v.name a) vs → ⊥) → ⊥
    by_tests true true p q l e rest = apart (sym ((bytes_eq-Decides v.name a).0 p) ∙ (bytes_eq-Decides v.name b).0 q)
    by_tests true false p q l e rest = absurd (omega (arith, e))
    by_tests false true p q l e rest = absurd (omega (arith, e))
    by_tests false false p q l e rest = rest (omega (arith, l)) (omega (arith, e))

-- an expression reads the variables whose names stand in it

abbrev pub AreOthers : List Decl → ℕ → List Use → Type 0
AreOthers ds x us = AllByRecursion (λ (u : Use). var_number ds u.name ≢ x) us

unequal : (a b : ℕ) → a ≢ b → (a == b) ≡ false
unequal a b ne = grind (arith, nat_tests)

neither : (a b : Bool) → a ≡ false → b ≡ false → (a || b) ≡ false
neither true b p q = p
neither false b p q = q

read_compared : (x : ℕ) (f : Formula) (os : Operations) → reads x f ≡ false → reads_in_operations x os ≡ false → reads x (compared_with f os) ≡ false
read_compared x f no_operations p q = p
read_compared x f (and_operation op g more) p q = neither (reads x f) (reads x g) p (front (reads x g) (reads_in_operations x more) q)
  where
    front : (a b : Bool) → (a || b) ≡ false → a ≡ false
    front true b h = h
    front false b h = refl

either_read : (x : ℕ) (b : Bool) (f g : Formula) → reads x f ≡ false → reads x g ≡ false → reads x (if b then f else g) ≡ false
either_read x true f g p q = p
either_read x false f g p q = q

mutual
  not_read : (ds : List Decl) (x w : ℕ) (e : Expression) → AreOthers ds x (reads_in e) → reads x (formula_form ds w e) ≡ false
  not_read ds x w (number n at) all = refl
  not_read ds x w (whole of) all = unequal (var_number ds of.name) x all.0
  not_read ds x w (slice of high low at) all = unequal (var_number ds of.name) x all.0
  not_read ds x w (bit of place at) all = unequal (var_number ds of.name) x all.0
  not_read ds x w (join parts at) all = parts_not_read ds x parts all
  not_read ds x w (negation e at) all = not_read ds x w e all
  not_read ds x w (chain e more at) all =
      let v : ℕ = unwrap_or (or_width (own_width ds e) (first_width ds more)) 0 in
      let one = front_all (λ (u : Use). var_number ds u.name ≢ x) (reads_in e) (reads_in_links more) all in
      let others = rest_all (λ (u : Use). var_number ds u.name ≢ x) (reads_in e) (reads_in_links more) all in
      either_read x (compares more) (compared_with (formula_form ds v e) (operations_form ds v more))
      (chained (formula_form ds w e) (operations_form ds w more))
      (read_compared x (formula_form ds v e) (operations_form ds v more) (not_read ds x v e one) (links_not_read ds x v more others))
      (neither (reads x (formula_form ds w e)) (reads_in_operations x (operations_form ds w more)) (not_read ds x w e one) (links_not_read ds x w more others))

  parts_not_read : (ds : List Decl) (x : ℕ) (es : Expressions) → AreOthers ds x (reads_in_join es) → reads_in_parts x (parts_form ds es) ≡ false
  parts_not_read ds x plain.no_parts all = refl
  parts_not_read ds x (plain.and_part e more) all =
      neither (reads x (formula_form ds (unwrap_or (own_width ds e) 0) e)) (reads_in_parts x (parts_form ds more))
      (not_read ds x (unwrap_or (own_width ds e) 0) e (front_all (λ (u : Use). var_number ds u.name ≢ x) (reads_in e) (reads_in_join more) all))
      (parts_not_read ds x more (rest_all (λ (u : Use). var_number ds u.name ≢ x) (reads_in e) (reads_in_join more) all))

  links_not_read : (ds : List Decl) (x w : ℕ) (ls : Links) → AreOthers ds x (reads_in_links ls) → reads_in_operations x (operations_form ds w ls) ≡ false
  links_not_read ds x w no_links all = refl
  links_not_read ds x w (and_link op e more) all =
      neither (reads x (formula_form ds w e)) (reads_in_operations x (operations_form ds w more))
      (not_read ds x w e (front_all (λ (u : Use). var_number ds u.name ≢ x) (reads_in e) (reads_in_links more) all))
      (links_not_read ds x w more (rest_all (λ (u : Use). var_number ds u.name ≢ x) (reads_in e) (reads_in_links more) all))

-- a name of the text that is a variable's number is a variable's by its first declaration, where no name is declared twice

no_such_var : (ds : List Decl) (name : List ℕ) → AllByRecursion (λ y. bytes_eq y name ≡ false) (own_names ds) → length (vars_of ds) ≤ var_number ds name
no_such_var [] name none = omega arith
no_such_var (d ∷ ds) name none = by_kind d.kind (no_such_var ds name none.1)
  where
    by_kind : (kind : DeclKind) → length (vars_of ds) ≤ var_number ds name
        → length (with_var d kind (vars_of ds)) ≤ position_or_len (λ (v : Var). bytes_eq v.name name) (with_var d kind (vars_of ds))
    by_kind declares.In h = h
    by_kind declares.Out h = h
    by_kind declares.Chan h = h
    by_kind declares.Var h = rw none.0 (omega (arith, h))

turned_round : (n : List ℕ) (name : List ℕ) (ns : List (List ℕ)) → n ≡ name → AllByRecursion (λ y. bytes_eq n y ≡ false) ns
    → AllByRecursion (λ y. bytes_eq y name ≡ false) ns
turned_round n name [] same none = tt
turned_round n name (m ∷ ns) same none = (by_test (bytes_eq m name) refl, turned_round n name ns same none.1)
  where
    by_test : (b : Bool) → bytes_eq m name ≡ b → bytes_eq m name ≡ false
    by_test false so = so
    by_test true so =
        let yes : bytes_eq n m ≡ true = (bytes_eq-Decides n m).1 (same ∙ sym ((bytes_eq-Decides m name).0 so)) in
        let t : true ≡ false = sym yes ∙ none.0 in
        absurd (cc t)

pub var_of_number : (ds vars : List Decl) (name : List ℕ) → IsDistinct bytes_eq (own_names (ds ++ vars))
    → AllByRecursion (λ y. bytes_eq y name ≡ false) (own_names vars) → var_number (ds ++ vars) name < length (vars_of (ds ++ vars))
    → is_var_name ds name ≡ true
var_of_number [] vars name distinct none less = let most = no_such_var vars name none in absurd (omega (arith, most, less))
var_of_number (d ∷ ds) vars name distinct none less =
    by_test (bytes_eq d.name.name name) refl d.kind refl (λ l. var_of_number ds vars name
    (IsDistinct-tail bytes_eq d.name.name (own_names (ds ++ vars)) distinct) none l)
    less
  where
    clash : bytes_eq d.name.name name ≡ true → var_number (ds ++ vars) name < length (vars_of (ds ++ vars)) → is_var_name (d ∷ ds) name ≡ true
    clash so l =
        let same : d.name.name ≡ name = (bytes_eq-Decides d.name.name name).0 so in
        let most = no_such_var (ds ++ vars) name
        (turned_round d.name.name name (own_names (ds ++ vars)) same (IsDistinct-head bytes_eq d.name.name (own_names (ds ++ vars)) distinct)) in
        absurd (omega (arith, most, l))

    by_test : (b : Bool) → bytes_eq d.name.name name ≡ b → (kind : DeclKind) → d.kind ≡ kind
        → (var_number (ds ++ vars) name < length (vars_of (ds ++ vars)) → is_var_name ds name ≡ true)
        → position_or_len (λ (v : Var). bytes_eq v.name name) (with_var d d.kind (vars_of (ds ++ vars))) < length (with_var d d.kind (vars_of (ds ++ vars)))
        → is_var_name (d ∷ ds) name ≡ true
    by_test true so declares.Var is rest less = rw so (rw is refl)
    by_test true so declares.In is rest less = let l = rw is at less in clash so l
    by_test true so declares.Out is rest less = let l = rw is at less in clash so l
    by_test true so declares.Chan is rest less = let l = rw is at less in clash so l
    by_test false so declares.Var is rest less = let l = rw is at less in let m = rw so at l in rw so (rest (omega (arith, m)))
    by_test false so declares.In is rest less = let l = rw is at less in rw so (rest l)
    by_test false so declares.Out is rest less = let l = rw is at less in rw so (rest l)
    by_test false so declares.Chan is rest less = let l = rw is at less in rw so (rest l)

-- a statement that was split

abbrev pub AreNotOwn : List (List ℕ) → List Use → Type 0
AreNotOwn ns us = AllByRecursion (λ (u : Use). AllByRecursion (λ h. h ≢ u.name) ns) us

own_other : (ns : List (List ℕ)) (n : ℕ) (h name : List ℕ) → AllByRecursion (λ x. x ≢ name) ns → slice_get ns n ≡ Some h → h ≢ name
own_other [] n h name all is = absurd (cc is)
own_other (m ∷ ns) zero h name all is = let same : m ≡ h = cc is in subst (λ (x : List ℕ). x ≢ name) same all.0
own_other (m ∷ ns) (suc n) h name all is = own_other ns n h name all.1 is

each_other : (ns : List (List ℕ)) (n : ℕ) (h : List ℕ) (us : List Use) → AreNotOwn ns us → slice_get ns n ≡ Some h → AllByRecursion (λ (u : Use). h ≢ u.name) us
each_other ns n h [] all is = tt
each_other ns n h (u ∷ us) all is = (own_other ns n h u.name all.0 is, each_other ns n h us all.1 is)

apart_test : (n name : List ℕ) → n ≢ name → bytes_eq n name ≡ false
apart_test n name apart = by_test (bytes_eq n name) refl
  where
    by_test : (b : Bool) → bytes_eq n name ≡ b → bytes_eq n name ≡ false
    by_test false so = so
    by_test true so = absurd (apart ((bytes_eq-Decides n name).0 so))

all_tests : (ns : List (List ℕ)) (name : List ℕ) → AllByRecursion (λ x. x ≢ name) ns → AllByRecursion (λ y. bytes_eq y name ≡ false) ns
all_tests [] name all = tt
all_tests (n ∷ ns) name all = (apart_test n name all.0, all_tests ns name all.1)

or_false : (a b : Bool) → (a || b) ≡ false → (a ≡ false) × (b ≡ false)
or_false true b h = absurd (cc h)
or_false false b h = (refl, h)

none_of : (t : List ℕ) (us : List Use) → list_any (bytes_eq t) (map (λ (u : Use). u.name) us) ≡ false → AllByRecursion (λ (u : Use). t ≢ u.name) us
none_of t [] h = tt
none_of t (u ∷ us) h =
    let both = or_false (bytes_eq t u.name) (list_any (bytes_eq t) (map (λ (x : Use). x.name) us)) h in
    ((λ same. let yes : true ≡ false = sym ((bytes_eq-Decides t u.name).1 same) ∙ both.0 in cc yes), none_of t us both.1)

some_own : (names : List (List ℕ)) (n : ℕ) → n < length names → (name : List ℕ) × (slice_get names n ≡ Some name)
some_own [] n less = absurd (omega (arith, less))
some_own (x ∷ xs) zero less = (x, refl)
some_own (x ∷ xs) (suc n) less = some_own xs n (omega (arith, less))

module _ (decls vars : List Decl) (chs : List Channel) (distinct : IsDistinct bytes_eq (own_names (decls ++ vars))) where
  others_of : (t : List ℕ) (us : List Use) → var_number (decls ++ vars) t < length (vars_of (decls ++ vars)) → AllByRecursion (λ (u : Use). t ≢ u.name) us
      → AreOthers (decls ++ vars) (var_number (decls ++ vars) t) us
  others_of t [] less all = tt
  others_of t (u ∷ us) less all = (other_number (vars_of (decls ++ vars)) t u.name all.0 less, others_of t us less all.1)

  halves_unread : (n : ℕ) (h : List ℕ) (target : Ident) (e : Expression) → slice_get (own_names vars) n ≡ Some h
      → AllByRecursion (λ x. x ≢ target.name) (own_names vars) → AreNotOwn (own_names vars) (reads_in e)
      → IsProcess chs (vars_of (decls ++ vars)) (process_form (decls ++ vars) (assigns_by (Some h) target e))
      → ReadsNoTarget (process_form (decls ++ vars) (assigns_by (Some h) target e))
  halves_unread n h target e is own uses typed = (
    not_read (decls ++ vars) (var_number (decls ++ vars) h) (declared_width (decls ++ vars) h) e
        (others_of h (reads_in e) typed.1.0.0 (each_other (own_names vars) n h (reads_in e) uses is)),
    (
      unequal (var_number (decls ++ vars) h) (var_number (decls ++ vars) target.name)
          (other_number (vars_of (decls ++ vars)) target.name h (λ same. own_other (own_names vars) n h target.name own is (sym same)) typed.1.1.0.0),
      tt,
    ),
  )

  whole_unread : (target : Ident) (e : Expression) → reads_itself decls target e ≡ false → AllByRecursion (λ x. x ≢ target.name) (own_names vars)
      → IsProcess chs (vars_of (decls ++ vars)) (process_form (decls ++ vars) (assigns target e))
      → ReadsNoTarget (process_form (decls ++ vars) (assigns target e))
  whole_unread target e itself own typed =
      let var = var_of_number decls vars target.name distinct (all_tests (own_names vars) target.name own) typed.0 in
      let none : list_any (bytes_eq target.name) (names_read e) ≡ false = rw var at itself in
      not_read (decls ++ vars) (var_number (decls ++ vars) target.name) (declared_width (decls ++ vars) target.name) e
      (others_of target.name (reads_in e) typed.0 (none_of target.name (reads_in e) none))

  assign_unread : (n : ℕ) (target : Ident) (e : Expression) (b : Bool) → reads_itself decls target e ≡ b
      → n + length (cond b (target ∷ []) []) ≤ length (own_names vars) → AllByRecursion (λ x. x ≢ target.name) (own_names vars)
      → AreNotOwn (own_names vars) (reads_in e)
      → IsProcess chs (vars_of (decls ++ vars)) (process_form (decls ++ vars) (cond b (assigns_by (slice_get (own_names vars) n) target e) (assigns target e)))
      → ReadsNoTarget (process_form (decls ++ vars) (cond b (assigns_by (slice_get (own_names vars) n) target e) (assigns target e)))
  assign_unread n target e true itself room own uses typed =
      let name = some_own (own_names vars) n (omega (arith, room)) in
      let is = name.1 in
      let now = rw is at typed in
      rw is (halves_unread n name.0 target e is own uses now)
  assign_unread n target e false itself room own uses typed = whole_unread target e itself own typed

  mutual
    pub unread : (n : ℕ) (s : Statement) → n + length (own_readers decls s) ≤ length (own_names vars) → AreNotOwn (own_names vars) (uses_in s)
        → IsProcess chs (vars_of (decls ++ vars)) (process_form (decls ++ vars) (split_statement decls (own_names vars) n s))
        → ReadsNoTarget (process_form (decls ++ vars) (split_statement decls (own_names vars) n s))
    unread n (skips at) room uses typed = tt
    unread n (assigns target e) room uses typed = assign_unread n target e (reads_itself decls target e) refl room uses.0 uses.1 typed
    unread n (sends chan e) room uses typed = tt
    unread n (receives chan target) room uses typed = tt
    unread n (follows us) room uses typed = each_unread n us room uses typed.1
    unread n (besides us) room uses typed = each_unread n us room uses typed.1
    unread n (selects again xs) room uses typed = arms_unread n xs room uses typed.2
    unread n (repeats s) room uses typed = unread n s room uses typed
    unread n (calls of) room uses typed = tt

    each_unread : (n : ℕ) (us : Statements) → n + length (own_readers_each decls us) ≤ length (own_names vars) → AreNotOwn (own_names vars) (uses_in_each us)
        → AreProcesses chs (vars_of (decls ++ vars)) (processes_form (decls ++ vars) (split_members decls (own_names vars) n us))
        → EachReadsNoTarget (processes_form (decls ++ vars) (split_members decls (own_names vars) n us))
    each_unread n plain.no_members room uses typed = tt
    each_unread n (plain.and_member s more) room uses typed =
        let xs = own_readers decls s in
        let ys = own_readers_each decls more in
        let both : length (xs ++ ys) ≡ length xs + length ys = length-append xs ys in (
          unread n s (omega (arith, room, both)) (front_all (λ (u : Use). AllByRecursion (λ h. h ≢ u.name) (own_names vars)) (uses_in s) (uses_in_each more)
              uses) typed.0,
          each_unread (n + length xs) more (omega (arith, room, both))
              (rest_all (λ (u : Use). AllByRecursion (λ h. h ≢ u.name) (own_names vars)) (uses_in s) (uses_in_each more) uses) typed.1,
        )

    arms_unread : (n : ℕ) (xs : Arms) → n + length (own_readers_arms decls xs) ≤ length (own_names vars) → AreNotOwn (own_names vars) (uses_in_arms xs)
        → AreChoices chs (vars_of (decls ++ vars)) (choices_form (decls ++ vars) (split_arms decls (own_names vars) n xs))
        → ChoicesReadNoTarget (choices_form (decls ++ vars) (split_arms decls (own_names vars) n xs))
    arms_unread n no_arms room uses typed = tt
    arms_unread n (and_arm g s more) room uses typed =
        let xs = own_readers decls s in
        let ys = own_readers_arms decls more in
        let both : length (xs ++ ys) ≡ length xs + length ys = length-append xs ys in
        let behind = rest_all (λ (u : Use). AllByRecursion (λ h. h ≢ u.name) (own_names vars)) (reads_in g) (uses_in s ++ uses_in_arms more) uses in (
          unread n s (omega (arith, room, both)) (front_all (λ (u : Use). AllByRecursion (λ h. h ≢ u.name) (own_names vars)) (uses_in s) (uses_in_arms more)
              behind) typed.1,
          arms_unread (n + length xs) more (omega (arith, room, both))
              (rest_all (λ (u : Use). AllByRecursion (λ h. h ≢ u.name) (own_names vars)) (uses_in s) (uses_in_arms more) behind) typed.2,
        )
