-- The bodies that a statement calls, noted part by part.
use Rattle.std.proofs.Common.{◌≡◌, ℕ, zero, suc, ◌<◌, ◌≤◌, ◌⊎◌, Bool, List, [], ◌∷◌, Some, None, Contains, length, get_or, map, take, drop, append-nil, ◌++◌, inl, inr, refl, sym, ap, ◌∙◌, subst, arith, Bor}
use Rattle.std.specs.Prelude.{slice_get, slice_set, slice_index_or, IfSome}
use Rattle.std.specs.List.{IsDistinct}
use Rattle.std.specs.Str.{bytes_eq}
use Rattle.std.specs.declared.alloc.Global.{Global}
use Rattle.std.specs.declared.vec.Vec.{Vec}
use Rattle.std.proofs.lemmas.Slice.Eq.{bytes_eq-Decides}
use Rattle.std.proofs.lemmas.List.{drop_all, take_all, length-map}
use Rattle.std.proofs.lemmas.List.Sums.{passes_at_first}
use Rattle.std.proofs.lemmas.Option.{slice_get_past}
use Rattle.std.proofs.lemmas.Bool.{cases_lt}
use Rattle.chp_syntax.specs.declared.tree.Ident.{Ident}
use Rattle.chp_syntax.specs.declared.tree.Decl.{Decl}
use Rattle.chp_syntax.specs.declared.tree.Stmt.{Stmt, Then, Beside, Select, Call}
use Rattle.chp_syntax.specs.declared.tree.Arm.{Arm}
use Rattle.chp_syntax.specs.declared.tree.Proc.{Proc}
use Rattle.chp_syntax.specs.View.{procedure_of, statement_of}
use Rattle.width_check.specs.declared.typed.TStmt.{TStmt}
use Rattle.width_check.specs.declared.typed.TArm.{TArm}
use Rattle.width_check.specs.Processes.{Process, skipping, Processes, Choices, in_turn, side_by_side, choosing}
use Rattle.chp_syntax.specs.Trees.{ProgramTree}
use Rattle.width_check.specs.Processes.{TypedProgram}
use Rattle.width_check.specs.Form.{typed_form}
use Rattle.width_check.specs.Walk.{statements_in, arms_in}
use Rattle.width_check.specs.View.{process_of, members_in, choices_in}
use Rattle.width_check.proofs.Lists.{then_is, beside_is, select_is}
use Rattle.call_map.specs.Calling.{calling, turned, abreast, chosen, inlined, inlined_each, inlined_choices}
use Rattle.call_map.specs.CallsApart.{Calls, OneCalls, ChoiceCalls}
use Rattle.call_compose.specs.CalledForm.{procedure_names, procedure_number, called_form, called_forms, called_arms, call_program, CallsTyped}
use Rattle.call_compose.specs.CallsMeant.{CallsMeant}
use Rattle.call_compose.specs.Inlined.{AreInlined}
use Rattle.call_compose.specs.Noted.{IsBody, AreNoted}
use Rattle.call_compose.proofs.CallsMet.{number_is}
use Rattle.call_compose.proofs.CallPrograms.{bodies_counted}

pub turns_alike : (a b : Processes) → in_turn a ≡ in_turn b → a ≡ b
turns_alike a b h = cc h

pub besides_alike : (a b : Processes) → side_by_side a ≡ side_by_side b → a ≡ b
besides_alike a b h = cc h

pub choices_alike : (again more : Bool) (a b : Choices) → choosing again a ≡ choosing more b → a ≡ b
choices_alike again more a b h = cc h

-- members of a sequence or of a parallel composition, of which these are left
pub record PartsLeft (bs : List Process) (decls : List Decl) (names : List (List ℕ)) (all left : List Stmt) (left_typed : List TStmt)
    (old new : List TStmt) : Type 0 where
  pub behind : members_in left_typed ≡ inlined_each bs (called_forms decls names (statements_in left))
  pub kept : (q : ℕ) → IsBody bs old q → IsBody bs new q
  pub called : (q : ℕ) → OneCalls (called_forms decls names (statements_in all)) q
      → IsBody bs new q ⊎ OneCalls (called_forms decls names (statements_in left)) q

abbrev pub PartsNoted : (names : List (List ℕ)) (all : List Stmt) (typed : List TStmt) (left : List Stmt)
    (left_typed old new : List TStmt) → Type 0
PartsNoted names all typed left left_typed old new = (bs : List Process) (decls : List Decl)
    → members_in typed ≡ inlined_each bs (called_forms decls names (statements_in all))
    → PartsLeft bs decls names all left left_typed old new

-- arms, of which these are left
pub record ArmsLeft (bs : List Process) (decls : List Decl) (names : List (List ℕ)) (all left : List Arm) (left_typed : List TArm)
    (old new : List TStmt) : Type 0 where
  pub behind : choices_in left_typed ≡ inlined_choices bs (called_arms decls names (arms_in left))
  pub kept : (q : ℕ) → IsBody bs old q → IsBody bs new q
  pub called : (q : ℕ) → ChoiceCalls (called_arms decls names (arms_in all)) q
      → IsBody bs new q ⊎ ChoiceCalls (called_arms decls names (arms_in left)) q

abbrev pub ArmsNoted : (names : List (List ℕ)) (all : List Arm) (typed : List TArm) (left : List Arm) (left_typed : List TArm) (old new : List TStmt) → Type 0
ArmsNoted names all typed left left_typed old new = (bs : List Process) (decls : List Decl)
    → choices_in typed ≡ inlined_choices bs (called_arms decls names (arms_in all))
    → ArmsLeft bs decls names all left left_typed old new

-- where either list is at its end, no call is left
no_part_left : (bs : List Process) (decls : List Decl) (names : List (List ℕ)) (left : List Stmt) (left_typed : List TStmt) (q : ℕ)
    → ((left ≡ []) ⊎ (left_typed ≡ [])) → members_in left_typed ≡ inlined_each bs (called_forms decls names (statements_in left))
    → OneCalls (called_forms decls names (statements_in left)) q → ⊥
no_part_left bs decls names [] left_typed q over is h = h
no_part_left bs decls names (s ∷ left) [] q over is h = absurd (cc is)
no_part_left bs decls names (s ∷ left) (t ∷ more) q (inl e) is h = absurd (cc e)
no_part_left bs decls names (s ∷ left) (t ∷ more) q (inr e) is h = absurd (cc e)

no_arm_left : (bs : List Process) (decls : List Decl) (names : List (List ℕ)) (left : List Arm) (left_typed : List TArm) (q : ℕ)
    → ((left ≡ []) ⊎ (left_typed ≡ [])) → choices_in left_typed ≡ inlined_choices bs (called_arms decls names (arms_in left))
    → ChoiceCalls (called_arms decls names (arms_in left)) q → ⊥
no_arm_left bs decls names [] left_typed q over is h = h
no_arm_left bs decls names (s ∷ left) [] q over is h = absurd (cc is)
no_arm_left bs decls names (s ∷ left) (t ∷ more) q (inl e) is h = absurd (cc e)
no_arm_left bs decls names (s ∷ left) (t ∷ more) q (inr e) is h = absurd (cc e)

either : {A B : Type 0} → A ⊎ B → (B → ⊥) → A
either (inl a) h = a
either (inr b) h = absurd (h b)

pub parts_ended : (bs : List Process) (decls : List Decl) (names : List (List ℕ)) (all left : List Stmt) (left_typed old new : List TStmt)
    → PartsLeft bs decls names all left left_typed old new → ((left ≡ []) ⊎ (left_typed ≡ [])) → (q : ℕ)
    → OneCalls (called_forms decls names (statements_in all)) q → IsBody bs new q
parts_ended bs decls names all left left_typed old new p over q h = either (p.called q h) (no_part_left bs decls names left left_typed q over p.behind)

pub arms_ended : (bs : List Process) (decls : List Decl) (names : List (List ℕ)) (all left : List Arm) (left_typed : List TArm) (old new : List TStmt)
    → ArmsLeft bs decls names all left left_typed old new → ((left ≡ []) ⊎ (left_typed ≡ [])) → (q : ℕ)
    → ChoiceCalls (called_arms decls names (arms_in all)) q → IsBody bs new q
arms_ended bs decls names all left left_typed old new p over q h = either (p.called q h) (no_arm_left bs decls names left left_typed q over p.behind)

-- what noting the calls of one statement has done
abbrev pub OneNoted : (names : List (List ℕ)) (s : Stmt) (t : TStmt) (old new : List TStmt) → Type 0
OneNoted names s t old new = (bs : List Process) (decls : List Decl) → process_of t ≡ inlined bs (called_form decls names (statement_of s))
    → AreNoted bs (called_form decls names (statement_of s)) old new

pub then_noted : (names : List (List ℕ)) (plain : Stmt) (v : Vec Stmt Global) (s : TStmt) (all : List Stmt) (typed members : List TStmt) (left : List Stmt)
    (left_typed old new : List TStmt) → plain ≡ Then v → all ≡ v.items → typed ≡ members
    → ((inside : Processes) → process_of s ≡ in_turn inside → members_in members ≡ inside) → PartsNoted names all typed left left_typed old new
    → ((left ≡ []) ⊎ (left_typed ≡ [])) → OneNoted names plain s old new
then_noted names plain v s all typed members left left_typed old new is same alike inside so_far over = λ bs decls copies.
    let e : called_form decls names (statement_of plain) ≡ turned (called_forms decls names (statements_in all)) =
    ap (called_form decls names) (then_is plain v is) ∙ ap (λ (us : List Stmt). turned (called_forms decls names (statements_in us))) (sym same) in
    let begun : members_in typed ≡ inlined_each bs (called_forms decls names (statements_in all)) =
    ap members_in alike ∙ inside (inlined_each bs (called_forms decls names (statements_in all))) (copies ∙ ap (inlined bs) e) in
    let p = so_far bs decls begun in
    subst (λ C. AreNoted bs C old new) (sym e) (record {
      kept = p.kept;
      called = parts_ended bs decls names all left left_typed old new p over;
    })

pub beside_noted : (names : List (List ℕ)) (plain : Stmt) (v : Vec Stmt Global) (s : TStmt) (all : List Stmt) (typed members : List TStmt) (left : List Stmt)
    (left_typed old new : List TStmt) → plain ≡ Beside v → all ≡ v.items → typed ≡ members
    → ((inside : Processes) → process_of s ≡ side_by_side inside → members_in members ≡ inside) → PartsNoted names all typed left left_typed old new
    → ((left ≡ []) ⊎ (left_typed ≡ [])) → OneNoted names plain s old new
beside_noted names plain v s all typed members left left_typed old new is same alike inside so_far over = λ bs decls copies.
    let e : called_form decls names (statement_of plain) ≡ abreast (called_forms decls names (statements_in all)) =
    ap (called_form decls names) (beside_is plain v is) ∙ ap (λ (us : List Stmt). abreast (called_forms decls names (statements_in us))) (sym same) in
    let begun : members_in typed ≡ inlined_each bs (called_forms decls names (statements_in all)) =
    ap members_in alike ∙ inside (inlined_each bs (called_forms decls names (statements_in all))) (copies ∙ ap (inlined bs) e) in
    let p = so_far bs decls begun in
    subst (λ C. AreNoted bs C old new) (sym e) (record {
      kept = p.kept;
      called = parts_ended bs decls names all left left_typed old new p over;
    })

pub select_noted : (names : List (List ℕ)) (plain : Stmt) (again : Bool) (v : Vec Arm Global) (s : TStmt) (all : List Arm) (typed arms : List TArm)
    (left : List Arm) (left_typed : List TArm) (old new : List TStmt) → plain ≡ Select again v → all ≡ v.items → typed ≡ arms
    → ((more : Bool) (inside : Choices) → process_of s ≡ choosing more inside → choices_in arms ≡ inside) → ArmsNoted names all typed left left_typed old new
    → ((left ≡ []) ⊎ (left_typed ≡ [])) → OneNoted names plain s old new
select_noted names plain again v s all typed arms left left_typed old new is same alike inside so_far over = λ bs decls copies.
    let e : called_form decls names (statement_of plain) ≡ chosen again (called_arms decls names (arms_in all)) =
    ap (called_form decls names) (select_is plain again v is) ∙ ap (λ (us : List Arm). chosen again (called_arms decls names (arms_in us))) (sym same) in
    let begun : choices_in typed ≡ inlined_choices bs (called_arms decls names (arms_in all)) =
    ap choices_in alike ∙ inside again (inlined_choices bs (called_arms decls names (arms_in all))) (copies ∙ ap (inlined bs) e) in
    let p = so_far bs decls begun in
    subst (λ C. AreNoted bs C old new) (sym e) (record {
      kept = p.kept;
      called = arms_ended bs decls names all left left_typed old new p over;
    })

-- a call of the procedure at a place

-- after an entry is set, what holds of it holds there, and the others are what they were
set_there : {A : Type 0} (f : A → TStmt) (P : ℕ → TStmt → Type 0) (xs : List A) (k : ℕ) (x : A) → P k (f x)
    → IfSome (slice_get (map f (slice_set xs k x)) k) (P k)
set_there f P [] k x h = tt
set_there f P (y ∷ ys) zero x h = h
set_there f P (y ∷ ys) (suc k) x h = set_there f (λ j. P (suc j)) ys k x h

set_kept : {A : Type 0} (f : A → TStmt) (P : ℕ → TStmt → Type 0) (xs : List A) (k : ℕ) (x : A) → P k (f x) → (q : ℕ)
    → IfSome (slice_get (map f xs) q) (P q) → IfSome (slice_get (map f (slice_set xs k x)) q) (P q)
set_kept f P [] k x h q old = old
set_kept f P (y ∷ ys) zero x h zero old = h
set_kept f P (y ∷ ys) zero x h (suc q) old = old
set_kept f P (y ∷ ys) (suc k) x h zero old = old
set_kept f P (y ∷ ys) (suc k) x h (suc q) old = set_kept f (λ j. P (suc j)) ys k x h q old

pub call_noted : (names : List (List ℕ)) (plain : Stmt) (of : Ident) (s : Bor TStmt) (old : List (Bor TStmt)) (k : ℕ) → plain ≡ Call of
    → IsDistinct bytes_eq names → slice_get names k ≡ Some of.name
    → OneNoted names plain s.now (map (λ b. b.now) old) (map (λ b. b.now) (slice_set old k s))
call_noted names plain of s old k is distinct at = λ bs decls copies.
    let number = number_is names k of.name distinct at in
    let e : called_form decls names (statement_of plain) ≡ calling k =
    ap (λ (t : Stmt). called_form decls names (statement_of t)) is ∙ ap calling number in
    let body : process_of s.now ≡ slice_index_or bs k skipping = copies ∙ ap (inlined bs) e in
    subst (λ C. AreNoted bs C (map (λ b. b.now) old) (map (λ b. b.now) (slice_set old k s))) (sym e) (record {
      kept = set_kept (λ (b : Bor TStmt). b.now) (λ q t. process_of t ≡ slice_index_or bs q skipping) old k s body;
      called = λ q h. subst (λ j. IsBody bs (map (λ b. b.now) (slice_set old k s)) j) h
          (set_there (λ (b : Bor TStmt). b.now) (λ q t. process_of t ≡ slice_index_or bs q skipping) old k s body);
    })

-- a name that isn't among these has a number behind theirs
number_past : (names : List (List ℕ)) (name : List ℕ) → (Contains names name → ⊥) → length names ≤ procedure_number names name
number_past names name none = by (cases_lt (procedure_number names name) (length names))
  where
    by : (procedure_number names name < length names) ⊎ (length names ≤ procedure_number names name) → length names ≤ procedure_number names name
    by (inl less) = absurd (none (
      procedure_number names name,
      less,
      (bytes_eq-Decides (get_or names (procedure_number names name) name) name).0 (passes_at_first (λ (n : List ℕ). bytes_eq n name) names name less),
    ))
    by (inr past) = past

pub unknown_noted : (names : List (List ℕ)) (plain : Stmt) (of : Ident) (s : TStmt) (old : List TStmt) → plain ≡ Call of → length old ≡ length names
    → (Contains names of.name → ⊥) → OneNoted names plain s old old
unknown_noted names plain of s old is long none = λ bs decls copies.
    let k = procedure_number names of.name in
    let e : called_form decls names (statement_of plain) ≡ calling k = ap (λ (t : Stmt). called_form decls names (statement_of t)) is in
    let past : slice_get old k ≡ None = slice_get_past old k (omega (arith, long, number_past names of.name none)) in
    subst (λ C. AreNoted bs C old old) (sym e) (record {
      kept = λ q h. h;
      called = λ q h. subst (λ j. IsBody bs old j) h (subst (λ o. IfSome o (λ t. process_of t ≡ slice_index_or bs k skipping)) (sym past) tt);
    })

-- so the entries of all procedures together
pub all_bodies : (bs : List Process) (found : List TStmt) → length found ≡ length bs → ((q : ℕ) → q < length bs → IsBody bs found q) → map process_of found ≡ bs
all_bodies [] [] same all = refl
all_bodies [] (s ∷ found) same all = absurd (omega (arith, same))
all_bodies (b ∷ bs) [] same all = absurd (omega (arith, same))
all_bodies (b ∷ bs) (s ∷ found) same all =
    let here : process_of s ≡ b = all 0 (omega arith) in
    let rest = all_bodies bs found (omega (arith, same)) (λ q less. all (suc q) (omega (arith, less))) in
    cc (here, rest)

pub procedures_named : (qs : List Proc) → procedure_names (map procedure_of qs) ≡ map (λ (q : Proc). q.name.name) qs
procedures_named [] = refl
procedures_named (q ∷ qs) = ap (λ (ns : List (List ℕ)). q.name.name ∷ ns) (procedures_named qs)

pub names_counted : (names : List (List ℕ)) (qs : List Proc) → names ≡ procedure_names (map procedure_of qs) → length names ≡ length qs
names_counted names qs named = ap length (named ∙ procedures_named qs) ∙ length-map qs (λ (q : Proc). q.name.name)

pub seen_through : (bs : List (Bor TStmt)) → map (λ (b : Bor TStmt). process_of b.now) bs ≡ map process_of (map (λ b. b.now) bs)
seen_through [] = refl
seen_through (b ∷ bs) = ap (λ (ps : List Process). process_of b.now ∷ ps) (seen_through bs)

-- a list that was lent as a slice
pub lent_back : {A : Type 0} (n : ℕ) (new items : List A) → length new ≡ length items → n ≡ length items
    → take n (new ++ drop (length new) items) ≡ new
lent_back n new items same long =
    let none : drop (length new) items ≡ [] = drop_all (length new) items (omega (arith, same)) in
    ap (λ xs. take n (new ++ xs)) none ∙ (ap (take n) (append-nil new) ∙ take_all n new (omega (arith, same, long)))

-- where the statement is the body of the program without procedures, the entries are the bodies of its procedures
pub bodies_found : (P : ProgramTree) (p : TypedProgram) (h : AreInlined P p) (names : List (List ℕ)) (s : Process) (old new : List TStmt)
    → CallsTyped → CallsMeant → names ≡ procedure_names P.procs → s ≡ p.body → length new ≡ length names
    → ((bs : List Process) (decls : List Decl) → s ≡ inlined bs (called_form decls names P.body) → AreNoted bs (called_form decls names P.body) old new)
    → map process_of new ≡ (call_program P h.inlined.vars).procs
bodies_found P p h names s old new typed meant named same long noted =
    let vars = h.inlined.vars in
    let C = call_program P vars in
    let whole : p ≡ typed_form h.tree = h.typed in
    let copies : s ≡ inlined C.procs (called_form (P.decls ++ vars) names P.body) =
    same ∙ (ap (λ (t : TypedProgram). t.body) (whole ∙ (ap typed_form h.inlined.tree ∙ sym (typed P vars)))
    ∙ ap (λ (ns : List (List ℕ)). inlined C.procs (called_form (P.decls ++ vars) ns P.body)) (sym named)) in
    let found = noted C.procs (P.decls ++ vars) copies in
    all_bodies C.procs new (long ∙ (ap length named ∙ sym (bodies_counted P vars))) (λ q less. found.called q
    (subst (λ (ns : List (List ℕ)). Calls (called_form (P.decls ++ vars) ns P.body) q) (sym named) ((meant P vars h.meets).called q less)))
