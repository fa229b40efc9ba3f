-- A program with a buffer is accepted again.
use Rattle.std.proofs.Common.{◌≡◌, ◌≢◌, ◌⊎◌, ℕ, zero, suc, ◌+◌, ◌-◌, ◌<◌, ◌≤◌, Bool, true, false, List, [], ◌∷◌, ◌++◌, length, cond, Some, refl, sym, ap, ◌∙◌, subst, inl, inr, ⊎_elim, arith}
use Rattle.std.specs.Prelude.{option_map, unwrap_or, Contains, slice_get}
use Rattle.std.specs.List.{flat_map}
use Rattle.std.specs.Str.{bytes_eq}
use Rattle.std.proofs.lemmas.Bool.{cases_lt}
use Rattle.std.proofs.lemmas.List.Concat.{flat_map-cons}
use Rattle.chp_base.specs.declared.span.Span.{Span}
use Rattle.chp_syntax.specs.declared.tree.Decl.{Decl}
use Rattle.chp_syntax.specs.declared.tree.DeclKind.{DeclKind}
use Rattle.chp_syntax.specs.declared.tree.DeclKind.TheVariants as declares
use Rattle.chp_syntax.specs.declared.tree.Ident.{Ident}
use Rattle.chp_syntax.specs.Trees.{Expression, number, whole, slice, bit, join, negation, chain, Expressions, no_parts, and_part, Statement, skips, assigns, sends, receives, follows, besides, selects, repeats, calls, Statements, no_members, and_member, Arms, no_arms, and_arm, ProgramTree}
use Rattle.width_check.specs.Places.{declaration, declared_width, is_var, Role, sent_on, received_on, stored, read, Use, use_of, reads_in, reads_in_join, uses_in, uses_in_each, uses_in_arms, Expected, expect, leaves, expressions_in, inside, Reception, receptions_in, receptions_in_each, receptions_in_arms}
use Rattle.width_check.specs.Faults.{IsDouble, IsOutOfRange, IsUndeclared, IsOfWrongKind, IsMisdirected, IsBadPart, IsBadSlice, HasPart, LacksWidth, IsOfUnknownWidth, IsWideJoin, IsMisfit, IsMisfitLeaf, IsMisfitReceive, IsWideNumber, IsWideFirst, all_expressions, all_leaves, wants_var, naming_faults, HasNone}
use Rattle.width_check.proofs.Bounds.{some_power}
use Rattle.chp_meaning.specs.Fitting.{In}
use Rattle.chp_meaning.proofs.Places.{in_left, in_right, in_either}
use Rattle.slack_buffer.specs.Buffers.{copy_name, slot_name}
use Rattle.slack_buffer.specs.BufferedTrees.{declared_names, made_name, made_decl, rerouted_statement, buffer_statement, buffered_tree}
use Rattle.slack_buffer.proofs.FreeNames.{apart_kinds}
use Rattle.slack_buffer.proofs.Longer.{Known, known_left, known_right, decl_of, found_still, width_kept, own_kept, owns_kept, sides_kept, leaves_kept, inside_known, leaf_known}
use Rattle.slack_buffer.proofs.Declaring.{IsSameReception, uses_come, receptions_come, expressions_kept, expression_known}
use Rattle.slack_buffer.proofs.Typing.{Buffering, new_decls, copy_free, slot_free, copy_found, slot_found, chan_found, copy_width, slot_width, chan_width, contains_of, in_of, body_known}

-- 20: no name twice

get_before : (ds es : List Decl) (i : ℕ) → i < length ds → slice_get (ds ++ es) i ≡ slice_get ds i
get_before [] es i h = absurd (omega (arith, h))
get_before (d ∷ ds) es zero h = refl
get_before (d ∷ ds) es (suc i) h = get_before ds es i (omega (arith, h))

get_behind : (ds es : List Decl) (i j : ℕ) → i ≡ length ds + j → slice_get (ds ++ es) i ≡ slice_get es j
get_behind [] es i j h = ap (slice_get es) (let e : i ≡ j = omega (arith, h) in e)
get_behind (d ∷ ds) es zero j h = absurd (omega (arith, h))
get_behind (d ∷ ds) es (suc i) j h = get_behind ds es i j (omega (arith, h))

get_named : (ds : List Decl) (i : ℕ) (d : Decl) → slice_get ds i ≡ Some d → Contains (declared_names ds) d.name.name
get_named [] i d e = absurd (cc e)
get_named (x ∷ ds) zero d e = let same : x ≡ d = cc e in (0, omega arith, ap (λ (z : Decl). z.name.name) same)
get_named (x ∷ ds) (suc i) d e = let c = get_named ds i d e in (suc c.0, omega (arith, c.1), c.2)

-- the name of a declaration before is none of the new ones
new_apart : (p : ProgramTree) (chan : List ℕ) (k : ℕ) → Buffering p chan k → (a : Decl) (i : ℕ) → slice_get p.decls i ≡ Some a →
    (a.name.name ≢ copy_name k) × (a.name.name ≢ slot_name k)
new_apart p chan k b a i at = (
  λ e. copy_free p chan k b (subst (λ z. Contains (declared_names p.decls) z) e (get_named p.decls i a at)),
  λ e. slot_free p chan k b (subst (λ z. Contains (declared_names p.decls) z) e (get_named p.decls i a at)),
)

double_none : (p : ProgramTree) (chan : List ℕ) (k : ℕ) → Buffering p chan k → (s : Span) → ¬ IsDouble (buffered_tree p chan k) s
double_none p chan k b s f = by_later (cases_lt f.later (length p.decls)) (cases_lt f.earlier (length p.decls))
  where
    es : List Decl
    es = new_decls p.decls chan k

    old_first : f.earlier < length p.decls → slice_get p.decls f.earlier ≡ Some f.first
    old_first h = sym (get_before p.decls es f.earlier h) ∙ f.first_is

    second_at : (j : ℕ) → f.later ≡ length p.decls + j → slice_get es j ≡ Some f.second
    second_at j h = sym (get_behind p.decls es f.later j h) ∙ f.second_is

    first_at : (j : ℕ) → f.earlier ≡ length p.decls + j → slice_get es j ≡ Some f.first
    first_at j h = sym (get_behind p.decls es f.earlier j h) ∙ f.first_is

    second_new : (j : ℕ) → slice_get es j ≡ Some f.second → (f.second.name.name ≡ copy_name k) ⊎ (f.second.name.name ≡ slot_name k)
    second_new zero e = let same : made_decl declares.Chan (copy_name k) (declared_width p.decls chan) ≡ f.second = cc e in
        inl (sym (ap (λ (z : Decl). z.name.name) same))
    second_new (suc zero) e = let same : made_decl declares.Var (slot_name k) (declared_width p.decls chan) ≡ f.second = cc e in
        inr (sym (ap (λ (z : Decl). z.name.name) same))
    second_new (suc (suc j)) e = absurd (cc e)

    both_new : (i j : ℕ) → i < j → slice_get es i ≡ Some f.first → slice_get es j ≡ Some f.second → ⊥
    both_new i zero l e g = omega (arith, l)
    both_new zero (suc zero) l e g =
        let first : made_decl declares.Chan (copy_name k) (declared_width p.decls chan) ≡ f.first = cc e in
        let second : made_decl declares.Var (slot_name k) (declared_width p.decls chan) ≡ f.second = cc g in
        apart_kinds k k (ap (λ (z : Decl). z.name.name) first ∙ (f.same ∙ sym (ap (λ (z : Decl). z.name.name) second)))
    both_new (suc i) (suc zero) l e g = omega (arith, l)
    both_new i (suc (suc j)) l e g = absurd (cc g)

    by_later : (f.later < length p.decls) ⊎ (length p.decls ≤ f.later) → (f.earlier < length p.decls) ⊎ (length p.decls ≤ f.earlier) → ⊥
    by_later (inl h) g = b.named.0 s (record {
      earlier = f.earlier;
      later = f.later;
      order = f.order;
      first = f.first;
      second = f.second;
      first_is = old_first (let o = f.order in omega (arith, h, o));
      second_is = sym (get_before p.decls es f.later h) ∙ f.second_is;
      same = f.same;
      at = f.at;
    })
    by_later (inr h) (inl g) =
        let apart = new_apart p chan k b f.first f.earlier (old_first g) in
        ⊎_elim (λ e. apart.0 (f.same ∙ e)) (λ e. apart.1 (f.same ∙ e))
        (second_new (f.later - length p.decls) (second_at (f.later - length p.decls) (omega (arith, h))))
    by_later (inr h) (inr g) =
        let o = f.order in
        both_new (f.earlier - length p.decls) (f.later - length p.decls) (omega (arith, h, g, o)) (first_at (f.earlier - length p.decls) (omega (arith, g)))
        (second_at (f.later - length p.decls) (omega (arith, h)))

-- 28: each width in 1 to 64

found_among : (ds : List Decl) (name : List ℕ) (d : Decl) → declaration ds name ≡ Some d → In ds d
found_among [] name d e = absurd (cc e)
found_among (x ∷ ds) name d e = by_test (bytes_eq x.name.name name) e (found_among ds name d)
  where
    by_test : (b : Bool) → cond b (Some x) (declaration ds name) ≡ Some d → (declaration ds name ≡ Some d → In ds d) → In (x ∷ ds) d
    by_test true f rest = let same : x ≡ d = cc f in inl same
    by_test false f rest = inr (rest f)

among_new : (ds : List Decl) (chan : List ℕ) (k : ℕ) (d : Decl) → In (ds ++ new_decls ds chan k) d → In ds d
    ⊎ ((d.width ≡ declared_width ds chan) × (d.first ≡ 0))
among_new ds chan k d i = ⊎_elim (λ j. inl j) (λ j. inr (by_place j)) (in_either ds (new_decls ds chan k) d i)
  where
    by_place : In (new_decls ds chan k) d → (d.width ≡ declared_width ds chan) × (d.first ≡ 0)
    by_place (inl e) = (sym (ap (λ (z : Decl). z.width) e), sym (ap (λ (z : Decl). z.first) e))
    by_place (inr (inl e)) = (sym (ap (λ (z : Decl). z.width) e), sym (ap (λ (z : Decl). z.first) e))
    by_place (inr (inr j)) = absurd j

range_none : (p : ProgramTree) (chan : List ℕ) (k : ℕ) → Buffering p chan k → (s : Span) → ¬ IsOutOfRange (buffered_tree p chan k) s
range_none p chan k b s f = ⊎_elim old new (among_new p.decls chan k f.decl (in_of (p.decls ++ new_decls p.decls chan k) f.decl f.among))
  where
    old : In p.decls f.decl → ⊥
    old i = b.named.1.0 s (record { decl = f.decl; among = contains_of p.decls f.decl i; range = f.range; at = f.at })

    d : Decl
    d = b.inner.0

    its_width : declared_width p.decls chan ≡ d.width
    its_width = ap (λ o. unwrap_or (option_map (λ (x : Decl). x.width) o) 0) b.inner.1

    new : (f.decl.width ≡ declared_width p.decls chan) × (f.decl.first ≡ 0) → ⊥
    new e = b.named.1.0 d.width_at (record {
      decl = d;
      among = contains_of p.decls d (found_among p.decls chan d b.inner.1);
      range = ⊎_elim (λ low. inl (omega (arith, low, e.0, its_width))) (λ high. inr (omega (arith, high, e.0, its_width))) f.range;
      at = refl;
    })

-- 21, 22, 23: each name declared, as its use wants

abbrev GoesAgainst : Role → DeclKind → Type 0
GoesAgainst role kind = ((role ≡ sent_on) × (kind ≡ declares.In)) ⊎ ((role ≡ received_on) × (kind ≡ declares.Out))

record IsFine (ds : List Decl) (u : Use) : Type 0 where
  decl : Decl
  found : declaration ds u.name ≡ Some decl
  kind : is_var decl.kind ≡ wants_var u.role
  along : ¬ GoesAgainst u.role decl.kind

fine_by : (ds : List Decl) (u : Use) (name : List ℕ) (role : Role) (d : Decl) → u.name ≡ name → u.role ≡ role → declaration ds name ≡ Some d →
    is_var d.kind ≡ wants_var role → d.kind ≢ declares.In → d.kind ≢ declares.Out → IsFine ds u
fine_by ds u name role d is so found kind not_in not_out = record {
  decl = d;
  found = ap (λ z. declaration ds z) is ∙ found;
  kind = kind ∙ sym (ap wants_var so);
  along = λ g. ⊎_elim (λ h. not_in h.1) (λ h. not_out h.1) g;
}

fine_old : (p : ProgramTree) (chan : List ℕ) (k : ℕ) → Buffering p chan k → (u : Use) → In (uses_in p.body) u → IsFine (p.decls ++ new_decls p.decls chan k) u
fine_old p chan k b u i =
    let d = decl_of p.decls u.name (wants_var u.role) (body_known p b.named u i) in record {
      decl = d.0;
      found = found_still p.decls (new_decls p.decls chan k) u.name d.0 d.1;
      kind = d.2;
      along = λ g. b.named.1.1.1.1.0 u.at (record { usage = u; among = contains_of (uses_in p.body) u i; decl = d.0; declared = d.1; wrong = g; at = refl });
    }

fine : (p : ProgramTree) (chan : List ℕ) (k : ℕ) → Buffering p chan k → (u : Use) → In (uses_in (buffered_tree p chan k).body) u →
    IsFine (p.decls ++ new_decls p.decls chan k) u
fine p chan k b u i =
    ⊎_elim (λ j. ⊎_elim (fine_old p chan k b u) copied (uses_come chan (copy_name k) p.body u j)) made
    (in_either (uses_in (rerouted_statement chan (copy_name k) p.body)) _ u i)
  where
    ds : List Decl
    ds = p.decls ++ new_decls p.decls chan k

    chan_decl : Decl
    chan_decl = made_decl declares.Chan (copy_name k) (declared_width p.decls chan)

    var_decl : Decl
    var_decl = made_decl declares.Var (slot_name k) (declared_width p.decls chan)

    copied : (u.name ≡ copy_name k) × (u.role ≡ received_on) → IsFine ds u
    copied h = fine_by ds u (copy_name k) received_on chan_decl h.0 h.1 (copy_found p chan k b) refl (λ e. absurd (cc e)) (λ e. absurd (cc e))

    made : In (uses_in (buffer_statement chan (copy_name k) (slot_name k)) ++ []) u → IsFine ds u
    made (inl e) = fine_by ds u chan received_on b.inner.0 (sym (ap (λ (z : Use). z.name) e)) (sym (ap (λ (z : Use). z.role) e)) (chan_found p chan k b)
        (ap is_var b.inner.2) (λ g. absurd (cc (g, b.inner.2))) (λ g. absurd (cc (g, b.inner.2)))
    made (inr (inl e)) = fine_by ds u (slot_name k) stored var_decl (sym (ap (λ (z : Use). z.name) e)) (sym (ap (λ (z : Use). z.role) e))
        (slot_found p chan k b) refl
        (λ g. absurd (cc g)) (λ g. absurd (cc g))
    made (inr (inr (inl e))) = fine_by ds u (copy_name k) sent_on chan_decl (sym (ap (λ (z : Use). z.name) e)) (sym (ap (λ (z : Use). z.role) e))
        (copy_found p chan k b)
        refl (λ g. absurd (cc g)) (λ g. absurd (cc g))
    made (inr (inr (inr (inl e)))) = fine_by ds u (slot_name k) read var_decl (sym (ap (λ (z : Use). z.name) e)) (sym (ap (λ (z : Use). z.role) e))
        (slot_found p chan k b)
        refl (λ g. absurd (cc g)) (λ g. absurd (cc g))
    made (inr (inr (inr (inr j)))) = absurd j

undeclared_none : (p : ProgramTree) (chan : List ℕ) (k : ℕ) → Buffering p chan k → (s : Span) → ¬ IsUndeclared (buffered_tree p chan k) s
undeclared_none p chan k b s f =
    let u = fine p chan k b f.usage (in_of (uses_in (buffered_tree p chan k).body) f.usage f.among) in absurd (cc (u.found, f.missing))

same_decl : (ds : List Decl) (name : List ℕ) (d e : Decl) → declaration ds name ≡ Some d → declaration ds name ≡ Some e → d ≡ e
same_decl ds name d e f g = let both : Some d ≡ Some e = sym f ∙ g in cc both

kind_none : (p : ProgramTree) (chan : List ℕ) (k : ℕ) → Buffering p chan k → (s : Span) → ¬ IsOfWrongKind (buffered_tree p chan k) s
kind_none p chan k b s f =
    let u = fine p chan k b f.usage (in_of (uses_in (buffered_tree p chan k).body) f.usage f.among) in
    let same = same_decl (p.decls ++ new_decls p.decls chan k) f.usage.name f.decl u.decl f.declared u.found in
    f.wrong (ap (λ (z : Decl). is_var z.kind) same ∙ u.kind)

direction_none : (p : ProgramTree) (chan : List ℕ) (k : ℕ) → Buffering p chan k → (s : Span) → ¬ IsMisdirected (buffered_tree p chan k) s
direction_none p chan k b s f =
    let u = fine p chan k b f.usage (in_of (uses_in (buffered_tree p chan k).body) f.usage f.among) in
    let same = same_decl (p.decls ++ new_decls p.decls chan k) f.usage.name f.decl u.decl f.declared u.found in
    u.along (subst (λ (z : Decl). GoesAgainst f.usage.role z.kind) same f.wrong)

-- expressions

-- the value that the buffer sends
abbrev sent_whole : List Decl → ℕ → Expected
sent_whole ds k = expect (whole (made_name (slot_name k))) (declared_width ds (copy_name k))

expressions_of_body : (p : ProgramTree) (chan : List ℕ) (k : ℕ) → Buffering p chan k → (x : Expected) →
    In (expressions_in (p.decls ++ new_decls p.decls chan k) (buffered_tree p chan k).body) x →
    In (expressions_in p.decls p.body) x ⊎ (sent_whole (p.decls ++ new_decls p.decls chan k) k ≡ x)
expressions_of_body p chan k b x i =
    ⊎_elim (λ j. inl (subst (λ xs. In xs x) (expressions_kept p.decls (new_decls p.decls chan k) chan (copy_name k) p.body (body_known p b.named)) j)) last
    (in_either (expressions_in (p.decls ++ new_decls p.decls chan k) (rerouted_statement chan (copy_name k) p.body)) _ x i)
  where
    last : In (sent_whole (p.decls ++ new_decls p.decls chan k) k ∷ []) x →
        In (expressions_in p.decls p.body) x ⊎ (sent_whole (p.decls ++ new_decls p.decls chan k) k ≡ x)
    last (inl e) = inr e
    last (inr j) = absurd j

-- an element of the lists that come of some elements
from_one : {X Y : Type 0} (f : X → List Y) (xs : List X) (y : Y) → In (flat_map f xs) y → (x : X) × In xs x × In (f x) y
from_one f [] y i = absurd i
from_one f (x ∷ xs) y i =
    ⊎_elim (λ j. (x, inl refl, j)) (λ j. let r = from_one f xs y j in (r.0, inr r.1, r.2))
    (in_either (f x) (flat_map f xs) y (subst (λ ys. In ys y) (flat_map-cons f x xs) i))

to_all : {X Y : Type 0} (f : X → List Y) (xs : List X) (x : X) (y : Y) → In xs x → In (f x) y → In (flat_map f xs) y
to_all f [] x y i j = absurd i
to_all f (z ∷ xs) x y (inl e) j = subst (λ ys. In ys y) (sym (flat_map-cons f z xs)) (in_left (f z) (flat_map f xs) y (subst (λ v. In (f v) y) (sym e) j))
to_all f (z ∷ xs) x y (inr i) j = subst (λ ys. In ys y) (sym (flat_map-cons f z xs)) (in_right (f z) (flat_map f xs) y (to_all f xs x y i j))

abbrev insides : Expected → List Expression
insides e = inside e.expression

-- each expression of the new body is one of the old, whose names are declared, or the whole of the new variable
record IsOldExpression (p : ProgramTree) (e : Expression) : Type 0 where
  among : Contains (all_expressions p) e
  known : Known p.decls (reads_in e)

expression_from : (p : ProgramTree) (chan : List ℕ) (k : ℕ) → Buffering p chan k → (e : Expression) → Contains (all_expressions (buffered_tree p chan k)) e →
    IsOldExpression p e ⊎ (whole (made_name (slot_name k)) ≡ e)
expression_from p chan k b e c =
    let r = from_one insides (expressions_in ds (buffered_tree p chan k).body) e (in_of (all_expressions (buffered_tree p chan k)) e c) in
    ⊎_elim (λ i. inl (old r.0 i r.2)) (λ same. new r.0 same r.2) (expressions_of_body p chan k b r.0 r.1)
  where
    ds : List Decl
    ds = p.decls ++ new_decls p.decls chan k

    old : (x : Expected) → In (expressions_in p.decls p.body) x → In (insides x) e → IsOldExpression p e
    old x i j = record {
      among = contains_of (all_expressions p) e (to_all insides (expressions_in p.decls p.body) x e i j);
      known = inside_known p.decls x.expression e (expression_known p.decls p.body x (body_known p b.named) i) j;
    }

    new : (x : Expected) → sent_whole ds k ≡ x → In (insides x) e → IsOldExpression p e ⊎ (whole (made_name (slot_name k)) ≡ e)
    new x same j = at_end (subst (λ (z : Expected). In (insides z) e) (sym same) j)
      where
        at_end : In (whole (made_name (slot_name k)) ∷ []) e → IsOldExpression p e ⊎ (whole (made_name (slot_name k)) ≡ e)
        at_end (inl f) = inr f
        at_end (inr i) = absurd i

bad_before : (ds es : List Decl) (e : Expression) → Known ds (reads_in e) → IsBadPart (ds ++ es) e → IsBadPart ds e
bad_before ds es (bit of place at) h f = subst (λ w. w ≤ place) (width_kept ds es of.name true (h (use_of of read) (inl refl))) f
bad_before ds es (slice of high low at) h f =
    ⊎_elim (λ g. inl g) (λ g. inr (subst (λ w. w ≤ high) (width_kept ds es of.name true (h (use_of of read) (inl refl))) g)) f
bad_before ds es (number n at) h f = absurd f
bad_before ds es (whole of) h f = absurd f
bad_before ds es (join parts at) h f = absurd f
bad_before ds es (negation e at) h f = absurd f
bad_before ds es (chain e more at) h f = absurd f

slice_none : (p : ProgramTree) (chan : List ℕ) (k : ℕ) → Buffering p chan k → (s : Span) → ¬ IsBadSlice (buffered_tree p chan k) s
slice_none p chan k b s f =
    ⊎_elim (λ o. b.named.1.1.1.1.1.0 s (record {
      expression = f.expression;
      among = o.among;
      bad =
          bad_before p.decls (new_decls p.decls chan k) f.expression o.known f.bad;
      at = f.at;
    }))
    (λ same. subst (λ e. IsBadPart (p.decls ++ new_decls p.decls chan k) e) (sym same) f.bad)
    (expression_from p chan k b f.expression f.among)

part_before : (ds es : List Decl) (parts : Expressions) (s : Span) → Known ds (reads_in_join parts) → HasPart (ds ++ es) parts s → HasPart ds parts s
part_before ds es no_parts s h f = absurd f
part_before ds es (and_part e more) s h f =
    ⊎_elim (λ g. inl (sym (own_kept ds es e (known_left ds (reads_in e) (reads_in_join more) h)) ∙ g.0, g.1))
    (λ g. inr (part_before ds es more s (known_right ds (reads_in e) (reads_in_join more) h) g)) f

lacks_before : (ds es : List Decl) (e : Expression) (s : Span) → Known ds (reads_in e) → LacksWidth (ds ++ es) e s → LacksWidth ds e s
lacks_before ds es (join parts at) s h f = part_before ds es parts s h f
lacks_before ds es (chain e more at) s h f = (f.0, sym (sides_kept ds es e more h) ∙ f.1, f.2)
lacks_before ds es (number n at) s h f = absurd f
lacks_before ds es (whole of) s h f = absurd f
lacks_before ds es (bit of place at) s h f = absurd f
lacks_before ds es (slice of high low at) s h f = absurd f
lacks_before ds es (negation e at) s h f = absurd f

widthless_none : (p : ProgramTree) (chan : List ℕ) (k : ℕ) → Buffering p chan k → (s : Span) → ¬ IsOfUnknownWidth (buffered_tree p chan k) s
widthless_none p chan k b s f =
    ⊎_elim (λ o. b.named.1.1.1.1.1.1.0 s (record {
      expression = f.expression;
      among = o.among;
      lacks =
          lacks_before p.decls (new_decls p.decls chan k) f.expression s o.known f.lacks;
    }))
    (λ same. subst (λ e. LacksWidth (p.decls ++ new_decls p.decls chan k) e s) (sym same) f.lacks)
    (expression_from p chan k b f.expression f.among)

-- leaves

abbrev leaves_of_one : List Decl → Expected → List Expected
leaves_of_one ds e = leaves ds e.width e.expression

record IsOldLeaf (p : ProgramTree) (l : Expected) : Type 0 where
  among : Contains (all_leaves p) l
  known : Known p.decls (reads_in l.expression)

leaf_from : (p : ProgramTree) (chan : List ℕ) (k : ℕ) → Buffering p chan k → (l : Expected) → Contains (all_leaves (buffered_tree p chan k)) l →
    IsOldLeaf p l ⊎ (sent_whole (p.decls ++ new_decls p.decls chan k) k ≡ l)
leaf_from p chan k b l c =
    let r = from_one (leaves_of_one ds) (expressions_in ds (buffered_tree p chan k).body) l (in_of (all_leaves (buffered_tree p chan k)) l c) in
    ⊎_elim (λ i. inl (old r.0 i r.2)) (λ same. new r.0 same r.2) (expressions_of_body p chan k b r.0 r.1)
  where
    ds : List Decl
    ds = p.decls ++ new_decls p.decls chan k

    old : (x : Expected) → In (expressions_in p.decls p.body) x → In (leaves_of_one ds x) l → IsOldLeaf p l
    old x i j =
        let known = expression_known p.decls p.body x (body_known p b.named) i in
        let here : In (leaves_of_one p.decls x) l =
        subst (λ ls. In ls l) (leaves_kept p.decls (new_decls p.decls chan k) x.width x.expression known) j in
        record {
          among = contains_of (all_leaves p) l (to_all (leaves_of_one p.decls) (expressions_in p.decls p.body) x l i here);
          known = leaf_known p.decls x.width x.expression l known here;
        }

    new : (x : Expected) → sent_whole ds k ≡ x → In (leaves_of_one ds x) l → IsOldLeaf p l ⊎ (sent_whole ds k ≡ l)
    new x same j = at_end (subst (λ (z : Expected). In (leaves_of_one ds z) l) (sym same) j)
      where
        at_end : In (sent_whole ds k ∷ []) l → IsOldLeaf p l ⊎ (sent_whole ds k ≡ l)
        at_end (inl f) = inr f
        at_end (inr i) = absurd i

wide_before : (ds es : List Decl) (e : Expression) → Known ds (reads_in e) → IsWideJoin (ds ++ es) e → IsWideJoin ds e
wide_before ds es (join parts at) h f = subst (λ w. 64 < w) (owns_kept ds es parts h) f
wide_before ds es (chain e more at) h f = absurd f
wide_before ds es (number n at) h f = absurd f
wide_before ds es (whole of) h f = absurd f
wide_before ds es (bit of place at) h f = absurd f
wide_before ds es (slice of high low at) h f = absurd f
wide_before ds es (negation e at) h f = absurd f

misfit_before : (ds es : List Decl) (l : Expected) → Known ds (reads_in l.expression) → IsMisfit (ds ++ es) l → IsMisfit ds l
misfit_before ds es l h f =
    ⊎_elim (λ g. inl (g.0, sym (own_kept ds es l.expression h) ∙ g.1, g.2)) (λ g. inr (wide_before ds es l.expression h g)) f

whole_fits : (p : ProgramTree) (chan : List ℕ) (k : ℕ) → Buffering p chan k →
    ¬ IsMisfit (p.decls ++ new_decls p.decls chan k) (sent_whole (p.decls ++ new_decls p.decls chan k) k)
whole_fits p chan k b f =
    ⊎_elim (λ g. let same : declared_width (p.decls ++ new_decls p.decls chan k) (slot_name k) ≡ g.0 = cc g.1 in
    g.2 (sym same ∙ (slot_width p chan k b ∙ sym (copy_width p chan k b)))) (λ g. g) f

leaf_none : (p : ProgramTree) (chan : List ℕ) (k : ℕ) → Buffering p chan k → (s : Span) → ¬ IsMisfitLeaf (buffered_tree p chan k) s
leaf_none p chan k b s f =
    ⊎_elim (λ o. b.named.1.1.1.1.1.1.1.0 s (inl (record {
      leaf = f.leaf;
      among = o.among;
      misfit =
          misfit_before p.decls (new_decls p.decls chan k) f.leaf o.known f.misfit;
      at = f.at;
    })))
    (λ same. whole_fits p chan k b (subst (λ l. IsMisfit (p.decls ++ new_decls p.decls chan k) l) (sym same) f.misfit))
    (leaf_from p chan k b f.leaf f.among)

-- receives

reception_from : (p : ProgramTree) (chan : List ℕ) (k : ℕ) (r : Reception) → In (receptions_in (buffered_tree p chan k).body) r →
    ((q : Reception) × In (receptions_in p.body) q × IsSameReception chan (copy_name k) r q) ⊎ ((r.chan ≡ made_name chan)
    × (r.target ≡ made_name (slot_name k)))
reception_from p chan k r i =
    ⊎_elim (λ j. inl (receptions_come chan (copy_name k) p.body r j)) last
    (in_either (receptions_in (rerouted_statement chan (copy_name k) p.body)) _ r i)
  where
    last : In (record { chan = made_name chan; target = made_name (slot_name k) } ∷ []) r →
        ((q : Reception) × In (receptions_in p.body) q × IsSameReception chan (copy_name k) r q) ⊎ ((r.chan ≡ made_name chan)
        × (r.target ≡ made_name (slot_name k)))
    last (inl e) = inr (sym (ap (λ (z : Reception). z.chan) e), sym (ap (λ (z : Reception). z.target) e))
    last (inr j) = absurd j

-- the two names of a receive are used in the body

abbrev AreUsed : List Use → Reception → Type 0
AreUsed us q = In us (use_of q.chan received_on) × In us (use_of q.target stored)

used_left : (us vs : List Use) (q : Reception) → AreUsed us q → AreUsed (us ++ vs) q
used_left us vs q h = (in_left us vs (use_of q.chan received_on) h.0, in_left us vs (use_of q.target stored) h.1)

used_right : (us vs : List Use) (q : Reception) → AreUsed vs q → AreUsed (us ++ vs) q
used_right us vs q h = (in_right us vs (use_of q.chan received_on) h.0, in_right us vs (use_of q.target stored) h.1)

mutual
  reception_uses : (s : Statement) (q : Reception) → In (receptions_in s) q → AreUsed (uses_in s) q
  reception_uses (skips at) q i = absurd i
  reception_uses (assigns target e) q i = absurd i
  reception_uses (sends on e) q i = absurd i
  reception_uses (receives on target) q (inl e) = subst (λ z. AreUsed (uses_in (receives on target)) z) e (inl refl, inr (inl refl))
  reception_uses (receives on target) q (inr i) = absurd i
  reception_uses (follows members) q i = each_reception_uses members q i
  reception_uses (besides members) q i = each_reception_uses members q i
  reception_uses (selects again arms) q i = arm_reception_uses arms q i
  reception_uses (repeats s) q i = reception_uses s q i
  reception_uses (calls of) q i = absurd i

  each_reception_uses : (members : Statements) (q : Reception) → In (receptions_in_each members) q → AreUsed (uses_in_each members) q
  each_reception_uses no_members q i = absurd i
  each_reception_uses (and_member s more) q i =
      ⊎_elim (λ j. used_left (uses_in s) (uses_in_each more) q (reception_uses s q j))
      (λ j. used_right (uses_in s) (uses_in_each more) q (each_reception_uses more q j))
      (in_either (receptions_in s) (receptions_in_each more) q i)

  arm_reception_uses : (arms : Arms) (q : Reception) → In (receptions_in_arms arms) q → AreUsed (uses_in_arms arms) q
  arm_reception_uses no_arms q i = absurd i
  arm_reception_uses (and_arm g s more) q i =
      used_right (reads_in g) (uses_in s ++ uses_in_arms more) q
      (⊎_elim (λ j. used_left (uses_in s) (uses_in_arms more) q (reception_uses s q j))
      (λ j. used_right (uses_in s) (uses_in_arms more) q (arm_reception_uses more q j))
      (in_either (receptions_in s) (receptions_in_arms more) q i))

receive_none : (p : ProgramTree) (chan : List ℕ) (k : ℕ) → Buffering p chan k → (s : Span) → ¬ IsMisfitReceive (buffered_tree p chan k) s
receive_none p chan k b s f =
    ⊎_elim old (λ h. f.misfit (ap (λ (i : Ident). declared_width ds i.name) h.1 ∙ (slot_width p chan k b ∙ (sym (chan_width p chan k b)
    ∙ sym (ap (λ (i : Ident). declared_width ds i.name) h.0)))))
    (reception_from p chan k f.receive (in_of (receptions_in (buffered_tree p chan k).body) f.receive f.among))
  where
    es : List Decl
    es = new_decls p.decls chan k

    ds : List Decl
    ds = p.decls ++ es

    old : (q : Reception) × In (receptions_in p.body) q × IsSameReception chan (copy_name k) f.receive q → ⊥
    old (q, i, same) =
        let used = reception_uses p.body q i in
        let known = body_known p b.named in
        let target_is : declared_width ds f.receive.target.name ≡ declared_width p.decls q.target.name =
        ap (λ (z : Ident). declared_width ds z.name) same.target ∙ width_kept p.decls es q.target.name true (known (use_of q.target stored) used.1) in
        let chan_same : declared_width ds f.receive.chan.name ≡ declared_width p.decls q.chan.name =
        ⊎_elim (λ e. ap (λ (z : Ident). declared_width ds z.name) e ∙ width_kept p.decls es q.chan.name false (known (use_of q.chan received_on) used.0))
        (λ e. ap (λ z. declared_width ds z) e.1 ∙ (copy_width p chan k b ∙ sym (ap (λ z. declared_width p.decls z) e.0))) same.chan_is in
        b.named.1.1.1.1.1.1.1.0 q.target.at (inr (record {
          receive = q;
          among = contains_of (receptions_in p.body) q i;
          misfit = λ e. f.misfit (target_is ∙ (e ∙ sym chan_same));
          at = refl;
        }))

-- numbers

wide_number_none : (p : ProgramTree) (chan : List ℕ) (k : ℕ) → Buffering p chan k → (s : Span) → ¬ IsWideNumber (buffered_tree p chan k) s
wide_number_none p chan k b s f =
    ⊎_elim (λ o. b.named.1.1.1.1.1.1.1.1.0 s (inl (record { width = f.width; value = f.value; among = o.among; wide = f.wide })))
    (λ same. let e : whole (made_name (slot_name k)) ≡ number f.value s = ap (λ (z : Expected). z.expression) same in absurd (cc e))
    (leaf_from p chan k b (expect (number f.value s) f.width) f.among)

wide_first_none : (p : ProgramTree) (chan : List ℕ) (k : ℕ) → Buffering p chan k → (s : Span) → ¬ IsWideFirst (buffered_tree p chan k) s
wide_first_none p chan k b s f =
    ⊎_elim (λ i. b.named.1.1.1.1.1.1.1.1.0 s (inr (record { decl = f.decl; among = contains_of p.decls f.decl i; wide = f.wide; at = f.at })))
    (λ e. let some = some_power f.decl.width in let wide = f.wide in absurd (omega (arith, some, wide, e.1)))
    (among_new p.decls chan k f.decl (in_of (p.decls ++ new_decls p.decls chan k) f.decl f.among))

pub none_at_fault : (p : ProgramTree) (chan : List ℕ) (k : ℕ) → Buffering p chan k → HasNone (buffered_tree p chan k) naming_faults
none_at_fault p chan k b = (
  double_none p chan k b,
  (
    range_none p chan k b,
    (
      undeclared_none p chan k b,
      (
        kind_none p chan k b,
        (
          direction_none p chan k b,
          (
            slice_none p chan k b,
            (
              widthless_none p chan k b,
              (
                (λ s f. ⊎_elim (leaf_none p chan k b s) (receive_none p chan k b s) f),
                ((λ s f. ⊎_elim (wide_number_none p chan k b s) (wide_first_none p chan k b s) f), tt),
              ),
            ),
          ),
        ),
      ),
    ),
  ),
)
