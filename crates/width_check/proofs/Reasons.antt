-- Each cause of a refusal, and the first of its places as a walk finds it.
use Rattle.std.proofs.Common.{◌≡◌, ◌≢◌, ℕ, ◌<◌, ◌≤◌, Bool, true, false, List, [], ◌∷◌, Option, Some, None, ◌⊎◌, inl, inr, ⊎_elim, refl, sym, subst, arith}
use Rattle.std.specs.Prelude.{not, ◌&&◌, ◌||◌, ◌==◌, nat_lt, nat_le, if◌then◌else◌, is_none, flat_map, Contains}
use Rattle.std.proofs.lemmas.Bool.Decides.{nat_tests}
use Rattle.std.proofs.lemmas.List.Elements.{Contains-append_left, Contains-append_right, Contains-append_cases}
use Rattle.chp_base.specs.declared.span.Span.{Span}
use Rattle.chp_syntax.specs.declared.tree.Decl.{Decl}
use Rattle.chp_syntax.specs.declared.tree.DeclKind.{DeclKind}
use Rattle.chp_syntax.specs.declared.tree.DeclKind.TheVariants.{In, Out, Chan, Var}
use Rattle.chp_syntax.specs.Trees.{Expression, number, whole, slice, bit, join, negation, chain, Expressions, no_parts, and_part, ProgramTree}
use Rattle.width_check.specs.Places.{declaration, declared_width, is_var, Role, sent_on, received_on, written, stored, read, Use, uses_in, compares, own_width, span_of, Reception, receptions_in}
use Rattle.width_check.specs.Faults.{IsUndeclared, wants_var, IsOfWrongKind, IsMisdirected, all_expressions, IsBadPart, IsBadSlice, HasPart, LacksWidth, IsOfUnknownWidth, IsMisfitReceive, IsOutOfRange}
use Rattle.width_check.specs.Walk.{first_of, is_undeclared, differ, differs_in_kind, has_wrong_kind, is_against, goes_against, is_misdirected, is_bad_part, lacking_parts, side_width, lacks_width, lacking, is_misfit_target, is_out_of_range}
use Rattle.width_check.proofs.Least.{IsLeast, Passes, least_same, least_in, in_rest, front_or_rest, no_item}

pub is_false : (b : Bool) → ¬ (b ≡ true) → b ≡ false
is_false true h = absurd (h refl)
is_false false h = refl

-- an item that passes would have a place
pub none_pass : {X : Type 0} (test : X → Bool) (at : X → Span) (xs : List X) → first_of test at None xs ≡ None → (x : X) → Contains xs x → test x ≡ false
none_pass test at xs none x among =
    let nowhere = subst (λ (o : Option Span). IsLeast (λ s. Passes test at xs s) o) none (least_in test at xs) in
    is_false (test x) (λ h. nowhere (at x) (record { item = x; among = among; passed = h; place = refl }))

-- a name that isn't declared

none_is : {A : Type 0} (o : Option A) → is_none o ≡ true → o ≡ None
none_is None h = refl
none_is (Some x) h = absurd (cc h)

pub undeclared_least : (p : ProgramTree) → IsLeast (λ s. IsUndeclared p s) (first_of (is_undeclared p.decls) (λ (u : Use). u.at) None (uses_in p.body))
undeclared_least p =
    least_same (λ s. Passes (is_undeclared p.decls) (λ (u : Use). u.at) (uses_in p.body) s) (λ s. IsUndeclared p s) _
    (λ s h. record { usage = h.item; among = h.among; missing = none_is (declaration p.decls h.item.name) h.passed; at = h.place })
    (λ s h. record { item = h.usage; among = h.among; passed = rw h.missing refl; place = h.at })
    (least_in (is_undeclared p.decls) (λ (u : Use). u.at) (uses_in p.body))

-- a name of the wrong kind

differ_is : (a b : Bool) → differ a b ≡ true → a ≢ b
differ_is true true h e = absurd (cc h)
differ_is true false h e = absurd (cc e)
differ_is false true h e = absurd (cc e)
differ_is false false h e = absurd (cc h)

is_differ : (a b : Bool) → a ≢ b → differ a b ≡ true
is_differ true true h = absurd (h refl)
is_differ true false h = refl
is_differ false true h = refl
is_differ false false h = absurd (h refl)

abbrev WrongOf : Option Decl → Role → Type 0
WrongOf o role = (d : Decl) × (o ≡ Some d) × (is_var d.kind ≢ wants_var role)

wrong_of : (o : Option Decl) (role : Role) → differs_in_kind o role ≡ true → WrongOf o role
wrong_of None role h = absurd (cc h)
wrong_of (Some d) role h = (d, refl, differ_is (is_var d.kind) (wants_var role) h)

pub wrong_kind_least : (p : ProgramTree) → IsLeast (λ s. IsOfWrongKind p s) (first_of (has_wrong_kind p.decls) (λ (u : Use). u.at) None (uses_in p.body))
wrong_kind_least p =
    least_same (λ s. Passes (has_wrong_kind p.decls) (λ (u : Use). u.at) (uses_in p.body) s) (λ s. IsOfWrongKind p s) _
    (λ s h. let w = wrong_of (declaration p.decls h.item.name) h.item.role h.passed in
    record { usage = h.item; among = h.among; decl = w.0; declared = w.1; wrong = w.2; at = h.place })
    (λ s h. record { item = h.usage; among = h.among; passed = rw h.declared (is_differ (is_var h.decl.kind) (wants_var h.usage.role) h.wrong); place = h.at })
    (least_in (has_wrong_kind p.decls) (λ (u : Use). u.at) (uses_in p.body))

-- the environment's end of a channel

abbrev AgainstOf : Role → DeclKind → Type 0
AgainstOf role kind = ((role ≡ sent_on) × (kind ≡ In)) ⊎ ((role ≡ received_on) × (kind ≡ Out))

against_is : (role : Role) (kind : DeclKind) → is_against role kind ≡ true → AgainstOf role kind
against_is sent_on In h = inl (refl, refl)
against_is received_on Out h = inr (refl, refl)
against_is sent_on Out h = absurd (cc h)
against_is sent_on Chan h = absurd (cc h)
against_is sent_on Var h = absurd (cc h)
against_is received_on In h = absurd (cc h)
against_is received_on Chan h = absurd (cc h)
against_is received_on Var h = absurd (cc h)
against_is written kind h = absurd (cc h)
against_is stored kind h = absurd (cc h)
against_is read kind h = absurd (cc h)

is_against_of : (role : Role) (kind : DeclKind) → AgainstOf role kind → is_against role kind ≡ true
is_against_of role kind (inl h) = rw (h.0, h.1) refl
is_against_of role kind (inr h) = rw (h.0, h.1) refl

abbrev MisdirectedOf : Option Decl → Role → Type 0
MisdirectedOf o role = (d : Decl) × (o ≡ Some d) × AgainstOf role d.kind

misdirected_of : (o : Option Decl) (role : Role) → goes_against o role ≡ true → MisdirectedOf o role
misdirected_of None role h = absurd (cc h)
misdirected_of (Some d) role h = (d, refl, against_is role d.kind h)

pub direction_least : (p : ProgramTree) → IsLeast (λ s. IsMisdirected p s) (first_of (is_misdirected p.decls) (λ (u : Use). u.at) None (uses_in p.body))
direction_least p =
    least_same (λ s. Passes (is_misdirected p.decls) (λ (u : Use). u.at) (uses_in p.body) s) (λ s. IsMisdirected p s) _
    (λ s h. let w = misdirected_of (declaration p.decls h.item.name) h.item.role h.passed in
    record { usage = h.item; among = h.among; decl = w.0; declared = w.1; wrong = w.2; at = h.place })
    (λ s h. record { item = h.usage; among = h.among; passed = rw h.declared (is_against_of h.usage.role h.decl.kind h.wrong); place = h.at })
    (least_in (is_misdirected p.decls) (λ (u : Use). u.at) (uses_in p.body))

-- bits that a variable doesn't have

bad_is : (decls : List Decl) (e : Expression) → is_bad_part decls e ≡ true → IsBadPart decls e
bad_is decls (number n at) h = absurd (cc h)
bad_is decls (whole of) h = absurd (cc h)
bad_is decls (slice of high low at) h = by_test (nat_lt high low) refl h
  where
    by_test : (b : Bool) → nat_lt high low ≡ b → (b || nat_le (declared_width decls of.name) high) ≡ true → (high < low) ⊎ (declared_width decls of.name ≤ high)
    by_test true less is = inl (grind (arith, nat_tests))
    by_test false less is = inr (grind (arith, nat_tests))
bad_is decls (bit of place at) h = grind (arith, nat_tests)
bad_is decls (join parts at) h = absurd (cc h)
bad_is decls (negation e at) h = absurd (cc h)
bad_is decls (chain e more at) h = absurd (cc h)

is_bad : (decls : List Decl) (e : Expression) → IsBadPart decls e → is_bad_part decls e ≡ true
is_bad decls (number n at) h = absurd h
is_bad decls (whole of) h = absurd h
is_bad decls (slice of high low at) (inl less) = let t : nat_lt high low ≡ true = grind (arith, nat_tests) in rw t refl
is_bad decls (slice of high low at) (inr over) = by_test (nat_lt high low)
  where
    by_test : (b : Bool) → (b || nat_le (declared_width decls of.name) high) ≡ true
    by_test true = refl
    by_test false = grind (arith, nat_tests)
is_bad decls (bit of place at) h = grind (arith, nat_tests)
is_bad decls (join parts at) h = absurd h
is_bad decls (negation e at) h = absurd h
is_bad decls (chain e more at) h = absurd h

pub slice_least : (p : ProgramTree) → IsLeast (λ s. IsBadSlice p s) (first_of (is_bad_part p.decls) span_of None (all_expressions p))
slice_least p =
    least_same (λ s. Passes (is_bad_part p.decls) span_of (all_expressions p) s) (λ s. IsBadSlice p s) _
    (λ s h. record { expression = h.item; among = h.among; bad = bad_is p.decls h.item h.passed; at = h.place })
    (λ s h. record { item = h.expression; among = h.among; passed = is_bad p.decls h.expression h.bad; place = h.at })
    (least_in (is_bad_part p.decls) span_of (all_expressions p))

-- no width where one is wanted

pub in_flat_map : {X A : Type 0} (f : X → List A) (xs : List X) (a : A) → Contains (flat_map f xs) a → (x : X) × Contains xs x × Contains (f x) a
in_flat_map f [] a c = absurd (no_item a c)
in_flat_map f (x ∷ xs) a c =
    ⊎_elim (λ here. (x, (0, omega arith, refl), here)) (λ rest. let r = in_flat_map f xs a rest in
    (r.0, in_rest x r.0 xs r.1, r.2)) (Contains-append_cases (f x) (flat_map f xs) a c)

pub flat_map_in : {X A : Type 0} (f : X → List A) (xs : List X) (x : X) (a : A) → Contains xs x → Contains (f x) a → Contains (flat_map f xs) a
flat_map_in f [] x a c here = absurd (no_item x c)
flat_map_in {X} {A} f (y ∷ ys) x a c here =
    ⊎_elim (λ (e : y ≡ x). Contains-append_left (f y) (flat_map f ys) a (subst (λ (z : X). Contains (f z) a) (sym e) here))
    (λ rest. Contains-append_right (f y) (flat_map f ys) a (flat_map_in f ys x a rest here)) (front_or_rest y x ys c)

some_not_none : {A : Type 0} (o : Option A) → is_none o ≡ true → o ≡ None
some_not_none None h = refl
some_not_none (Some x) h = absurd (cc h)

part_is : (decls : List Decl) (parts : Expressions) (s : Span) → Contains (lacking_parts decls parts) s → HasPart decls parts s
part_is decls no_parts s c = no_item s c
part_is decls (and_part e more) s c = by_test (is_none (own_width decls e)) refl c (λ rest. part_is decls more s rest)
  where
    by_test : (b : Bool) → is_none (own_width decls e) ≡ b → Contains (if b then span_of e ∷ lacking_parts decls more else lacking_parts decls more) s →
        (Contains (lacking_parts decls more) s → HasPart decls more s) → HasPart decls (and_part e more) s
    by_test true is among rest = ⊎_elim (λ (same : span_of e ≡ s). inl (some_not_none (own_width decls e) is, sym same)) (λ c. inr (rest c))
        (front_or_rest (span_of e) s (lacking_parts decls more) among)
    by_test false is among rest = inr (rest among)

is_part : (decls : List Decl) (parts : Expressions) (s : Span) → HasPart decls parts s → Contains (lacking_parts decls parts) s
is_part decls no_parts s h = absurd h
is_part decls (and_part e more) s (inl h) = rw h.0 (0, omega arith, sym h.1)
is_part decls (and_part e more) s (inr h) = by_test (is_none (own_width decls e)) (is_part decls more s h)
  where
    by_test : (b : Bool) → Contains (lacking_parts decls more) s → Contains (if b then span_of e ∷ lacking_parts decls more else lacking_parts decls more) s
    by_test true rest = in_rest (span_of e) s (lacking_parts decls more) rest
    by_test false rest = rest

both_are : (a b : Bool) → (a && b) ≡ true → (a ≡ true) × (b ≡ true)
both_are true b h = (refl, h)
both_are false b h = absurd (cc h)

pub lacks_is : (decls : List Decl) (e : Expression) (s : Span) → Contains (lacking decls e) s → LacksWidth decls e s
lacks_is decls (number n at) s c = no_item s c
lacks_is decls (whole of) s c = no_item s c
lacks_is decls (slice of high low at) s c = no_item s c
lacks_is decls (bit of place at) s c = no_item s c
lacks_is decls (join parts at) s c = part_is decls parts s c
lacks_is decls (negation e at) s c = no_item s c
lacks_is decls (chain e more at) s c = by_test (lacks_width decls e more) refl c
  where
    by_test : (b : Bool) → lacks_width decls e more ≡ b → Contains (if b then at ∷ [] else []) s → LacksWidth decls (chain e more at) s
    by_test true is among =
        let both = both_are (compares more) (is_none (side_width decls e more)) is in
        ⊎_elim (λ (same : at ≡ s). (both.0, some_not_none (side_width decls e more) both.1, sym same)) (λ c. absurd (no_item s c)) (front_or_rest at s [] among)
    by_test false is among = absurd (no_item s among)

pub is_lacking : (decls : List Decl) (e : Expression) (s : Span) → LacksWidth decls e s → Contains (lacking decls e) s
is_lacking decls (number n at) s h = absurd h
is_lacking decls (whole of) s h = absurd h
is_lacking decls (slice of high low at) s h = absurd h
is_lacking decls (bit of place at) s h = absurd h
is_lacking decls (join parts at) s h = is_part decls parts s h
is_lacking decls (negation e at) s h = absurd h
is_lacking decls (chain e more at) s h = rw (h.0, h.1) (0, omega arith, sym h.2)

pub widthless_least : (p : ProgramTree) →
    IsLeast (λ s. IsOfUnknownWidth p s) (first_of (λ (s : Span). true) (λ (s : Span). s) None (flat_map (lacking p.decls) (all_expressions p)))
widthless_least p =
    least_same (λ s. Passes (λ (s : Span). true) (λ (s : Span). s) (flat_map (lacking p.decls) (all_expressions p)) s) (λ s. IsOfUnknownWidth p s) _
    (λ s h.
    let e = in_flat_map (lacking p.decls) (all_expressions p) h.item h.among in
    record { expression = e.0; among = e.1; lacks = subst (λ (t : Span). LacksWidth p.decls e.0 t) (sym h.place) (lacks_is p.decls e.0 h.item e.2) })
    (λ s h. record {
      item = s;
      among = flat_map_in (lacking p.decls) (all_expressions p) h.expression s h.among (is_lacking p.decls h.expression s h.lacks);
      passed = refl;
      place = refl;
    })
    (least_in (λ (s : Span). true) (λ (s : Span). s) (flat_map (lacking p.decls) (all_expressions p)))

-- the variable of a receive

equal_not : (n m : ℕ) → not (n == m) ≡ true → n ≢ m
equal_not n m h e = absurd (grind (arith, nat_tests))

not_equal : (n m : ℕ) → n ≢ m → not (n == m) ≡ true
not_equal n m h = grind (arith, nat_tests)

pub target_least : (p : ProgramTree) → IsLeast (λ s. IsMisfitReceive p s)
    (first_of (is_misfit_target p.decls) (λ (r : Reception). r.target.at) None (receptions_in p.body))
target_least p =
    least_same (λ s. Passes (is_misfit_target p.decls) (λ (r : Reception). r.target.at) (receptions_in p.body) s) (λ s. IsMisfitReceive p s) _
    (λ s h. record {
      receive = h.item;
      among = h.among;
      misfit =
          equal_not (declared_width p.decls h.item.target.name) (declared_width p.decls h.item.chan.name) h.passed;
      at = h.place;
    })
    (λ s h. record {
      item = h.receive;
      among = h.among;
      passed =
          not_equal (declared_width p.decls h.receive.target.name) (declared_width p.decls h.receive.chan.name) h.misfit;
      place = h.at;
    })
    (least_in (is_misfit_target p.decls) (λ (r : Reception). r.target.at) (receptions_in p.body))

-- a declared width

out_is : (d : Decl) → is_out_of_range d ≡ true → (d.width < 1) ⊎ (64 < d.width)
out_is d h = by_test (nat_lt d.width 1) refl h
  where
    by_test : (b : Bool) → nat_lt d.width 1 ≡ b → (b || nat_lt 64 d.width) ≡ true → (d.width < 1) ⊎ (64 < d.width)
    by_test true less is = inl (grind (arith, nat_tests))
    by_test false less is = inr (grind (arith, nat_tests))

is_out : (d : Decl) → (d.width < 1) ⊎ (64 < d.width) → is_out_of_range d ≡ true
is_out d (inl less) = let t : nat_lt d.width 1 ≡ true = grind (arith, nat_tests) in rw t refl
is_out d (inr more) = by_test (nat_lt d.width 1)
  where
    by_test : (b : Bool) → (b || nat_lt 64 d.width) ≡ true
    by_test true = refl
    by_test false = grind (arith, nat_tests)

pub range_least : (p : ProgramTree) → IsLeast (λ s. IsOutOfRange p s) (first_of is_out_of_range (λ (d : Decl). d.width_at) None p.decls)
range_least p =
    least_same (λ s. Passes is_out_of_range (λ (d : Decl). d.width_at) p.decls s) (λ s. IsOutOfRange p s) _
    (λ s h. record { decl = h.item; among = h.among; range = out_is h.item h.passed; at = h.place })
    (λ s h. record { item = h.decl; among = h.among; passed = is_out h.decl h.range; place = h.at })
    (least_in is_out_of_range (λ (d : Decl). d.width_at) p.decls)
