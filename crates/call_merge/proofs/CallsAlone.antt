-- The program of calls alone: it has the grammar's shape, and no fault but those of names.
use Rattle.std.proofs.Common.{◌≡◌, ◌⊎◌, ℕ, suc, ◌≤◌, Bool, true, false, List, [], ◌∷◌, ◌++◌, length, map, get_or, Some, None, refl, sym, ap, ◌∙◌, subst, inl, inr, ⊎_elim, arith}
use Rattle.std.specs.Prelude.{◌||◌, Contains, All}
use Rattle.std.specs.Str.{bytes_eq}
use Rattle.std.proofs.lemmas.List.{map-append, length-map}
use Rattle.std.proofs.lemmas.List.Elements.{Contains-append_cases, All-map}
use Rattle.chp_base.specs.declared.span.Span.{Span}
use Rattle.chp_syntax.specs.declared.tree.Ident.{Ident}
use Rattle.chp_syntax.specs.declared.tree.Decl.{Decl}
use Rattle.chp_syntax.specs.declared.tree.DeclKind.TheVariants.{In, Out, Chan}
use Rattle.chp_syntax.specs.declared.tree.Program.{Program}
use Rattle.chp_syntax.specs.View.{program_tree, procedure_of}
use Rattle.chp_syntax.specs.Reading.{arm_count}
use Rattle.chp_syntax.specs.Shape.{statement_count, IsShapedStatement, AreShapedMembers, AreShapedArms, IsShapedDecl, IsShapedProcedure, IsShaped}
use Rattle.chp_syntax.specs.Trees.{Expression, number, Statement, skips, assigns, sends, receives, follows, besides, selects, repeats, calls, Statements, no_members, and_member, Arms, no_arms, and_arm, Procedure, ProgramTree}
use Rattle.width_check.specs.Calls.{has_call, some_has_call, arm_has_call, IsCallFree}
use Rattle.width_check.specs.Faults.{IsOutOfRange, IsOfWrongKind, IsMisdirected, IsBadSlice, IsOfUnknownWidth, IsMisfitLeaf, IsMisfitReceive, IsWideNumber, IsWideFirst, all_expressions, all_leaves, LacksWidth, IsBadPart, IsMisfit}
use Rattle.width_check.specs.Places.{declaration, sent_on, Use, use_of, uses_in, uses_in_each, uses_in_arms, Expected, expect, leaves, inside, expressions_in, expressions_in_each, expressions_in_arms, Reception, receptions_in, receptions_in_each, receptions_in_arms}
use Rattle.width_check.proofs.Bounds.{some_power}
use Rattle.width_check.proofs.Least.{in_rest, front_or_rest, no_item}
use Rattle.width_check.proofs.Reasons.{in_flat_map}
use Rattle.call_merge.specs.CallSites.{calls_in, calls_in_each, calls_in_arms, no_place, zero_expression, call_sends, call_sends_each, call_sends_arms, call_channel, calls_program}

-- its shape

members_counted : (us : Statements) → statement_count (call_sends_each us) ≡ statement_count us
members_counted no_members = refl
members_counted (and_member s more) = ap suc (members_counted more)

arms_counted : (xs : Arms) → arm_count (call_sends_arms xs) ≡ arm_count xs
arms_counted no_arms = refl
arms_counted (and_arm g s more) = ap suc (arms_counted more)

mutual
  statement_shaped : (s : Statement) → IsShapedStatement s → IsShapedStatement (call_sends s)
  statement_shaped (skips at) h = tt
  statement_shaped (assigns target e) h = tt
  statement_shaped (sends chan e) h = tt
  statement_shaped (receives chan target) h = tt
  statement_shaped (follows members) h = (subst (λ (n : ℕ). 2 ≤ n) (sym (members_counted members)) h.0, members_shaped members h.1)
  statement_shaped (besides members) h = (subst (λ (n : ℕ). 2 ≤ n) (sym (members_counted members)) h.0, members_shaped members h.1)
  statement_shaped (selects again arms) h = (
    subst (λ (n : ℕ). 1 ≤ n) (sym (arms_counted arms)) h.0,
    subst (λ (n : ℕ). n ≤ 16) (sym (arms_counted arms)) h.1,
    arms_shaped arms h.2,
  )
  statement_shaped (repeats s) h = statement_shaped s h
  statement_shaped (calls of) h = tt

  members_shaped : (us : Statements) → AreShapedMembers us → AreShapedMembers (call_sends_each us)
  members_shaped no_members h = tt
  members_shaped (and_member s more) h = (statement_shaped s h.0, members_shaped more h.1)

  arms_shaped : (xs : Arms) → AreShapedArms xs → AreShapedArms (call_sends_arms xs)
  arms_shaped no_arms h = tt
  arms_shaped (and_arm g s more) h = (tt, statement_shaped s h.1, arms_shaped more h.2)

channel_shaped : (q : Procedure) → IsShapedProcedure q → IsShapedDecl (call_channel q)
channel_shaped q h = record { name = h.name; first = λ other. refl; first_at = λ other. refl }

All-from_each : {X Y : Type 0} (P : X → Type 0) (Q : Y → Type 0) (f : X → Y) → ((x : X) → P x → Q (f x)) → (xs : List X) → All P xs → All Q (map f xs)
All-from_each P Q f step xs h = All-map Q f xs (λ k d within. step (get_or xs k d) (h k d within))

pub calls_shaped : (p : ProgramTree) → IsShaped p → IsShaped (calls_program p)
calls_shaped p h = record {
  decls = All-from_each IsShapedProcedure IsShapedDecl call_channel channel_shaped p.procs h.procs;
  procs = λ k d within. absurd (omega (arith, within));
  body = statement_shaped p.body h.body;
}

-- no calls are left

mutual
  no_call : (s : Statement) → has_call (call_sends s) ≡ false
  no_call (skips at) = refl
  no_call (assigns target e) = refl
  no_call (sends chan e) = refl
  no_call (receives chan target) = refl
  no_call (follows members) = no_call_each members
  no_call (besides members) = no_call_each members
  no_call (selects again arms) = no_call_arms arms
  no_call (repeats s) = no_call s
  no_call (calls of) = refl

  no_call_each : (us : Statements) → some_has_call (call_sends_each us) ≡ false
  no_call_each no_members = refl
  no_call_each (and_member s more) = ap (λ b. b || some_has_call (call_sends_each more)) (no_call s) ∙ no_call_each more

  no_call_arms : (xs : Arms) → arm_has_call (call_sends_arms xs) ≡ false
  no_call_arms no_arms = refl
  no_call_arms (and_arm g s more) = ap (λ b. b || arm_has_call (call_sends_arms more)) (no_call s) ∙ no_call_arms more

pub calls_call_free : (p : ProgramTree) → IsCallFree (calls_program p)
calls_call_free p = record { procs = refl; body = no_call p.body }

-- each of its uses is a call

abbrev pub sent : Ident → Use
sent i = use_of i sent_on

mutual
  pub uses_are_calls : (s : Statement) → uses_in (call_sends s) ≡ map sent (calls_in s)
  uses_are_calls (skips at) = refl
  uses_are_calls (assigns target e) = refl
  uses_are_calls (sends chan e) = refl
  uses_are_calls (receives chan target) = refl
  uses_are_calls (follows members) = uses_of_members members
  uses_are_calls (besides members) = uses_of_members members
  uses_are_calls (selects again arms) = uses_of_arms arms
  uses_are_calls (repeats s) = uses_are_calls s
  uses_are_calls (calls of) = refl

  uses_of_members : (us : Statements) → uses_in_each (call_sends_each us) ≡ map sent (calls_in_each us)
  uses_of_members no_members = refl
  uses_of_members (and_member s more) =
      ap (λ z. z ++ uses_in_each (call_sends_each more)) (uses_are_calls s)
      ∙ (ap (λ z. map sent (calls_in s) ++ z) (uses_of_members more) ∙ sym (map-append sent (calls_in s) (calls_in_each more)))

  uses_of_arms : (xs : Arms) → uses_in_arms (call_sends_arms xs) ≡ map sent (calls_in_arms xs)
  uses_of_arms no_arms = refl
  uses_of_arms (and_arm g s more) =
      ap (λ z. z ++ uses_in_arms (call_sends_arms more)) (uses_are_calls s)
      ∙ (ap (λ z. map sent (calls_in s) ++ z) (uses_of_arms more) ∙ sym (map-append sent (calls_in s) (calls_in_arms more)))

-- each of its expressions is 0

abbrev AreZero : List Expected → Type 0
AreZero es = (e : Expected) → Contains es e → e.expression ≡ zero_expression

zero_both : (xs ys : List Expected) → AreZero xs → AreZero ys → AreZero (xs ++ ys)
zero_both xs ys f g e c = ⊎_elim (λ h. f e h) (λ h. g e h) (Contains-append_cases xs ys e c)

zero_none : AreZero []
zero_none e c = absurd (no_item e c)

zero_one : (w : ℕ) (es : List Expected) → AreZero es → AreZero (expect zero_expression w ∷ es)
zero_one w es f e c = ⊎_elim (λ (same : expect zero_expression w ≡ e). ap (λ (x : Expected). x.expression) (sym same)) (λ h. f e h)
    (front_or_rest (expect zero_expression w) e es c)

mutual
  zero_in : (ds : List Decl) (s : Statement) → AreZero (expressions_in ds (call_sends s))
  zero_in ds (skips at) = zero_none
  zero_in ds (assigns target e) = zero_none
  zero_in ds (sends chan e) = zero_none
  zero_in ds (receives chan target) = zero_none
  zero_in ds (follows members) = zero_in_each ds members
  zero_in ds (besides members) = zero_in_each ds members
  zero_in ds (selects again arms) = zero_in_arms ds arms
  zero_in ds (repeats s) = zero_in ds s
  zero_in ds (calls of) = zero_one _ [] zero_none

  zero_in_each : (ds : List Decl) (us : Statements) → AreZero (expressions_in_each ds (call_sends_each us))
  zero_in_each ds no_members = zero_none
  zero_in_each ds (and_member s more) =
      zero_both (expressions_in ds (call_sends s)) (expressions_in_each ds (call_sends_each more)) (zero_in ds s) (zero_in_each ds more)

  zero_in_arms : (ds : List Decl) (xs : Arms) → AreZero (expressions_in_arms ds (call_sends_arms xs))
  zero_in_arms ds no_arms = zero_none
  zero_in_arms ds (and_arm g s more) =
      zero_one 1 _
      (zero_both (expressions_in ds (call_sends s)) (expressions_in_arms ds (call_sends_arms more)) (zero_in ds s) (zero_in_arms ds more))

inside_zero : (e x : Expression) → e ≡ zero_expression → Contains (inside e) x → x ≡ zero_expression
inside_zero e x is c =
    let h : Contains (zero_expression ∷ []) x = subst (λ (y : Expression). Contains (inside y) x) is c in
    ⊎_elim (λ (same : zero_expression ≡ x). sym same) (λ k. absurd (no_item x k)) (front_or_rest zero_expression x [] h)

pub all_zero : (p : ProgramTree) (x : Expression) → Contains (all_expressions (calls_program p)) x → x ≡ zero_expression
all_zero p x c =
    let ds = map call_channel p.procs in
    let h = in_flat_map (λ (e : Expected). inside e.expression) (expressions_in ds (call_sends p.body)) x c in
    inside_zero h.0.expression x (zero_in ds p.body h.0 h.1) h.2

leaf_zero : (ds : List Decl) (w : ℕ) (e : Expression) (l : Expected) → e ≡ zero_expression → Contains (leaves ds w e) l → l.expression ≡ zero_expression
leaf_zero ds w e l is c =
    let h : Contains (expect zero_expression w ∷ []) l = subst (λ (y : Expression). Contains (leaves ds w y) l) is c in
    ⊎_elim (λ (same : expect zero_expression w ≡ l). ap (λ (x : Expected). x.expression) (sym same)) (λ k. absurd (no_item l k))
    (front_or_rest (expect zero_expression w) l [] h)

pub leaves_zero : (p : ProgramTree) (l : Expected) → Contains (all_leaves (calls_program p)) l → l.expression ≡ zero_expression
leaves_zero p l c =
    let ds = map call_channel p.procs in
    let h = in_flat_map (λ (e : Expected). leaves ds e.width e.expression) (expressions_in ds (call_sends p.body)) l c in
    leaf_zero ds h.0.width h.0.expression l (zero_in ds p.body h.0 h.1) h.2

-- it receives nothing

mutual
  none_received : (s : Statement) → receptions_in (call_sends s) ≡ []
  none_received (skips at) = refl
  none_received (assigns target e) = refl
  none_received (sends chan e) = refl
  none_received (receives chan target) = refl
  none_received (follows members) = none_received_each members
  none_received (besides members) = none_received_each members
  none_received (selects again arms) = none_received_arms arms
  none_received (repeats s) = none_received s
  none_received (calls of) = refl

  none_received_each : (us : Statements) → receptions_in_each (call_sends_each us) ≡ []
  none_received_each no_members = refl
  none_received_each (and_member s more) =
      ap (λ (z : List Reception). z ++ receptions_in_each (call_sends_each more)) (none_received s) ∙ none_received_each more

  none_received_arms : (xs : Arms) → receptions_in_arms (call_sends_arms xs) ≡ []
  none_received_arms no_arms = refl
  none_received_arms (and_arm g s more) =
      ap (λ (z : List Reception). z ++ receptions_in_arms (call_sends_arms more)) (none_received s) ∙ none_received_arms more

-- what is declared is a channel of one bit

pub of_map : {X Y : Type 0} (f : X → Y) (xs : List X) (y : Y) → Contains (map f xs) y → (x : X) × Contains xs x × (f x ≡ y)
of_map f [] y c = absurd (no_item y c)
of_map {X} f (x ∷ xs) y c = ⊎_elim (λ (same : f x ≡ y). (x, (0, omega arith, refl), same)) (λ k. let h = of_map f xs y k in (h.0, in_rest x h.0 xs h.1, h.2))
    (front_or_rest (f x) y (map f xs) c)

pub in_map : {X Y : Type 0} (f : X → Y) (xs : List X) (x : X) → Contains xs x → Contains (map f xs) (f x)
in_map f [] x c = absurd (no_item x c)
in_map f (y ∷ xs) x c = ⊎_elim (λ (same : y ≡ x). (0, omega arith, ap f same)) (λ k. in_rest (f y) (f x) (map f xs) (in_map f xs x k)) (front_or_rest y x xs c)

found_there : (ds : List Decl) (name : List ℕ) (d : Decl) → declaration ds name ≡ Some d → Contains ds d
found_there [] name d is = absurd (cc is)
found_there (e ∷ ds) name d is = by_test (bytes_eq e.name.name name) refl (found_there ds name d)
  where
    by_test : (b : Bool) → bytes_eq e.name.name name ≡ b → (declaration ds name ≡ Some d → Contains ds d) → Contains (e ∷ ds) d
    by_test true so rest = let same : e ≡ d = (let h = rw so at is in cc h) in (0, omega arith, same)
    by_test false so rest = in_rest e d ds (rest (rw so at is))

-- so these causes are nowhere

pub in_range : (p : ProgramTree) (s : Span) → ¬ IsOutOfRange (calls_program p) s
in_range p s h =
    let q = of_map call_channel p.procs h.decl h.among in
    let one : 1 ≡ h.decl.width = ap (λ (d : Decl). d.width) q.2 in
    ⊎_elim (λ low. absurd (omega (arith, low, one))) (λ high. absurd (omega (arith, high, one))) h.range

pub first_fits : (p : ProgramTree) (s : Span) → ¬ IsWideFirst (calls_program p) s
first_fits p s h =
    let q = of_map call_channel p.procs h.decl h.among in
    let none : 0 ≡ h.decl.first = ap (λ (d : Decl). d.first) q.2 in
    let some = some_power h.decl.width in
    let wide = h.wide in
    absurd (omega (arith, wide, none, some))

pub right_kind : (p : ProgramTree) (s : Span) → ¬ IsOfWrongKind (calls_program p) s
right_kind p s h =
    let ds = map call_channel p.procs in
    let q = of_map call_channel p.procs h.decl (found_there ds h.usage.name h.decl h.declared) in
    let kind : Chan ≡ h.decl.kind = ap (λ (d : Decl). d.kind) q.2 in
    let u = of_map sent (calls_in p.body) h.usage (subst (λ (us : List Use). Contains us h.usage) (uses_are_calls p.body) h.among) in
    let role : sent_on ≡ h.usage.role = ap (λ (x : Use). x.role) u.2 in
    h.wrong (rw (← kind, ← role) refl)

pub right_way : (p : ProgramTree) (s : Span) → ¬ IsMisdirected (calls_program p) s
right_way p s h =
    let ds = map call_channel p.procs in
    let q = of_map call_channel p.procs h.decl (found_there ds h.usage.name h.decl h.declared) in
    let kind : Chan ≡ h.decl.kind = ap (λ (d : Decl). d.kind) q.2 in
    ⊎_elim (λ sending. let no : Chan ≡ In = kind ∙ sending.1 in absurd (cc no)) (λ receiving. let no : Chan ≡ Out = kind ∙ receiving.1 in absurd (cc no))
    h.wrong

pub no_slice : (p : ProgramTree) (s : Span) → ¬ IsBadSlice (calls_program p) s
no_slice p s h =
    let bad : IsBadPart (map call_channel p.procs) zero_expression =
    subst (λ (e : Expression). IsBadPart (map call_channel p.procs) e) (all_zero p h.expression h.among) h.bad in
    bad

pub no_width_lacks : (p : ProgramTree) (s : Span) → ¬ IsOfUnknownWidth (calls_program p) s
no_width_lacks p s h =
    let bad : LacksWidth (map call_channel p.procs) zero_expression s =
    subst (λ (e : Expression). LacksWidth (map call_channel p.procs) e s) (all_zero p h.expression h.among) h.lacks in
    bad

leaf_fits : (ds : List Decl) (w : ℕ) → ¬ IsMisfit ds (expect zero_expression w)
leaf_fits ds w (inl h) = let no : None ≡ Some h.0 = h.1 in absurd (cc no)
leaf_fits ds w (inr h) = h

pub no_misfit : (p : ProgramTree) (s : Span) → ¬ (IsMisfitLeaf (calls_program p) s ⊎ IsMisfitReceive (calls_program p) s)
no_misfit p s (inl h) =
    let is : h.leaf ≡ expect zero_expression h.leaf.width = ap (λ (e : Expression). expect e h.leaf.width) (leaves_zero p h.leaf h.among) in
    leaf_fits (map call_channel p.procs) h.leaf.width (subst (λ (l : Expected). IsMisfit (map call_channel p.procs) l) is h.misfit)
no_misfit p s (inr h) = no_item h.receive (subst (λ (rs : List Reception). Contains rs h.receive) (none_received p.body) h.among)

pub no_wide : (p : ProgramTree) (s : Span) → ¬ (IsWideNumber (calls_program p) s ⊎ IsWideFirst (calls_program p) s)
no_wide p s (inl h) =
    let is : number h.value s ≡ number 0 no_place = leaves_zero p (expect (number h.value s) h.width) h.among in
    let none : h.value ≡ 0 = cc is in
    let some = some_power h.width in
    let wide = h.wide in
    absurd (omega (arith, wide, none, some))
no_wide p s (inr h) = first_fits p s h

-- as many channels as procedures
pub few_channels : (program made : Program) → program_tree made ≡ calls_program (program_tree program) → length program.procs.items ≤ 300000
    → length made.decls.items ≤ 300000
few_channels program made is few =
    let decls : made.decls.items ≡ map call_channel (map procedure_of program.procs.items) = ap (λ (p : ProgramTree). p.decls) is in
    let long : length made.decls.items ≡ length program.procs.items =
    ap length decls ∙ (length-map (map procedure_of program.procs.items) call_channel ∙ length-map program.procs.items procedure_of) in
    omega (arith, long, few)
