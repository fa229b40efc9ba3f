-- The typed form of a program in which nothing is wrong is a typed program.
use Rattle.std.proofs.Common.{◌≡◌, ◌≢◌, ℕ, zero, suc, ◌^◌, ◌<◌, Bool, true, false, List, [], ◌∷◌, ◌++◌, length, map, get_or, Option, Some, None, inl, inr, ⊎_elim, refl, sym, ap, ◌∙◌, subst, arith}
use Rattle.std.specs.Prelude.{not, ◌==◌, nat_le, is_none, option_map, slice_get, Contains, All, AllPairs}
use Rattle.std.specs.Str.{bytes_eq}
use Rattle.std.proofs.lemmas.Bool.Decides.{nat_tests}
use Rattle.std.proofs.lemmas.List.Elements.{All-nil, All-cons, Contains-append_left, Contains-append_right, Contains-append_cases}
use Rattle.std.proofs.lemmas.List.Kept.{AllPairs-cons}
use Rattle.chp_base.specs.declared.channel.Channel.{Channel}
use Rattle.chp_base.specs.declared.channel.Kind.TheVariants as kind
use Rattle.chp_base.specs.declared.fault.FaultCode.TheVariants as code
use Rattle.chp_base.specs.declared.span.Span.{Span}
use Rattle.chp_syntax.specs.declared.tree.Decl.{Decl}
use Rattle.chp_syntax.specs.declared.tree.DeclKind.{DeclKind}
use Rattle.chp_syntax.specs.declared.tree.DeclKind.TheVariants as declares
use Rattle.chp_syntax.specs.Reading.{arm_count}
use Rattle.chp_syntax.specs.Shape.{statement_count, IsShapedStatement, AreShapedMembers, AreShapedArms, IsShapedDecl, IsShaped}
use Rattle.chp_syntax.specs.Trees.{Statement, skips, assigns, sends, receives, follows, besides, selects, repeats, calls, Statements, no_members, and_member, Arms, no_arms, and_arm, ProgramTree}
use Rattle.width_check.specs.declared.typed.Var.{Var}
use Rattle.width_check.specs.Processes as typed
use Rattle.width_check.specs.Places.{declaration, declared_width, is_var, Role, Use, use_of, sent_on, received_on, Expected, Reception, span_of, uses_in, receptions_in}
use Rattle.width_check.specs.Faults.{naming_faults, HasNone, FaultAt, IsMisfitLeaf, IsMisfitReceive, IsWideNumber, IsWideFirst, wants_var, all_expressions, all_leaves}
use Rattle.width_check.specs.Form.{channel_of, channels_of, vars_of, channel_number, formula_form, process_form, processes_form, choices_form}
use Rattle.width_check.specs.Typing.{kind_at, channel_width, IsOfWidth, IsProcess, AreProcesses, AreChoices, IsDeclaredChannel, IsDeclaredVar, names_of, IsTyped}
use Rattle.width_check.specs.Sound.{AreRanged, is_var_in, IsSound, kind_of}
use Rattle.width_check.specs.Walk.{Met, met_both, met_in, met_of, met_of_each, met_of_arms, is_undeclared, has_wrong_kind, differs_in_kind, is_misdirected, is_against, is_bad_part, is_misfit, is_misfit_target, is_wide_number, is_out_of_range, is_wide_first, capped_width, differ}
use Rattle.width_check.proofs.Least.{IsLeast, in_rest, front_or_rest}
use Rattle.width_check.proofs.Scopes.{names}
use Rattle.width_check.proofs.Reasons.{none_pass, undeclared_least, wrong_kind_least, direction_least, slice_least, target_least, range_least, lacks_is}
use Rattle.width_check.proofs.Leaves.{ranged_some, ranged_most, declared_most}
use Rattle.width_check.proofs.Judging.{leaf_least, number_least, first_least}
use Rattle.width_check.proofs.Numbering.{var_of, one_var, no_var, one_channel, no_channel, channel_first, channel_behind, channel_apart, declared_some}
use Rattle.width_check.proofs.Soundness.{sound_left, sound_right, is_declared, var_at, expression_typed}
use Rattle.width_check.proofs.Doing.{assign_sound, send_sound, receive_sound}
use Rattle.width_check.proofs.Walks.{each_pieces, arm_pieces}

-- a name of a channel

pub record IsChannelAt (ds : List Decl) (name : List ℕ) : Type 0 where
  pub within : channel_number ds name < length (channels_of ds)
  pub width : channel_width (channels_of ds) (channel_number ds name) ≡ declared_width ds name
  pub kind : (d : Decl) → declaration ds name ≡ Some d → kind_at (channels_of ds) (channel_number ds name) ≡ kind_of d.kind

channel_at : (ds : List Decl) (name : List ℕ) → is_var_in ds name ≡ Some false → IsChannelAt ds name
channel_at [] name is = absurd (cc is)
channel_at (d ∷ ds) name is = by_test (bytes_eq d.name.name name) refl (is_var d.kind) refl is (λ rest. channel_at ds name rest)
  where
    by_test : (a : Bool) → bytes_eq d.name.name name ≡ a → (b : Bool) → is_var d.kind ≡ b → is_var_in (d ∷ ds) name ≡ Some false →
        (is_var_in ds name ≡ Some false → IsChannelAt ds name) → IsChannelAt (d ∷ ds) name
    by_test true same false chan so rest =
        let cs = one_channel d d.kind (channels_of ds) chan in
        let n = channel_first d ds name same chan in
        record {
          within = rw (n, cs) (omega arith);
          width = rw (n, cs, same) refl;
          kind =
              λ e found. rw (n, cs) (let one : d ≡ e = let x = rw same at found in cc x in ap (λ (x : Decl). kind_of x.kind) one);
        }
    by_test true same true var so rest = absurd (let k = rw (same, var) at so in cc k)
    by_test false other false chan so rest =
        let cs = one_channel d d.kind (channels_of ds) chan in
        let n = channel_behind d ds name other chan in
        let at = rest (rw other at so) in
        record {
          within = rw (n, cs) (let w = at.within in omega arith);
          width = rw (n, cs, other) at.width;
          kind =
              λ e found. rw (n, cs) (at.kind e (rw other at found));
        }
    by_test false other true var so rest =
        let cs = no_channel d d.kind (channels_of ds) var in
        let n = channel_apart d ds name var in
        let at = rest (rw other at so) in
        record { within = rw (n, cs) at.within; width = rw (n, cs, other) at.width; kind = λ e found. rw (n, cs) (at.kind e (rw other at found)) }

decl_of : (ds : List Decl) (name : List ℕ) (b : Bool) → is_var_in ds name ≡ Some b → (d : Decl) × (declaration ds name ≡ Some d) × (is_var d.kind ≡ b)
decl_of ds name b is = by_decl (declaration ds name) refl is
  where
    by_decl : (o : Option Decl) → declaration ds name ≡ o → option_map (λ (d : Decl). is_var d.kind) o ≡ Some b → (d : Decl) × (declaration ds name ≡ Some d)
        × (is_var d.kind ≡ b)
    by_decl None found so = absurd (cc so)
    by_decl (Some d) found so = (d, found, let e : is_var d.kind ≡ b = cc so in e)

sends_out : (k : DeclKind) → is_var k ≡ false → is_against sent_on k ≡ false → kind_of k ≢ kind.In
sends_out declares.In chan free e = absurd (cc free)
sends_out declares.Out chan free e = absurd (cc e)
sends_out declares.Chan chan free e = absurd (cc e)
sends_out declares.Var chan free e = absurd (cc chan)

receives_in : (k : DeclKind) → is_var k ≡ false → is_against received_on k ≡ false → kind_of k ≢ kind.Out
receives_in declares.In chan free e = absurd (cc e)
receives_in declares.Out chan free e = absurd (cc free)
receives_in declares.Chan chan free e = absurd (cc e)
receives_in declares.Var chan free e = absurd (cc chan)

equal_widths : (n m : ℕ) → not (n == m) ≡ false → n ≡ m
equal_widths n m h = grind (arith, nat_tests)

members_counted : (ds : List Decl) (members : Statements) → statement_count members ≡ typed.member_count (processes_form ds members)
members_counted ds no_members = refl
members_counted ds (and_member s more) = ap suc (members_counted ds more)

arms_counted : (ds : List Decl) (arms : Arms) → arm_count arms ≡ typed.choice_count (choices_form ds arms)
arms_counted ds no_arms = refl
arms_counted ds (and_arm g s more) = ap suc (arms_counted ds more)

-- statements

abbrev Fits : List Decl → Statement → Type 0
Fits ds s = IsProcess (channels_of ds) (vars_of ds) (process_form ds s)

mutual
  statement_typed : (ds : List Decl) → AreRanged ds → (s : Statement) → IsShapedStatement s → IsSound ds (met_of ds s) → Fits ds s
  statement_typed ds ranged (skips at) shaped sound = tt
  statement_typed ds ranged (assigns target e) shaped sound =
      let so = assign_sound ds target e sound in
      let at = var_at ds target.name so.0 in
      let some = declared_some ds target.name ranged (is_declared ds target.name true so.0) in (
        at.within,
        subst (λ (w : ℕ). IsOfWidth (vars_of ds) w (formula_form ds (declared_width ds target.name) e)) (sym at.width)
            (expression_typed ds ranged (declared_width ds target.name) e some (declared_most ds ranged target.name) shaped so.1),
      )
  statement_typed ds ranged (sends chan e) shaped sound =
      let so = send_sound ds chan e sound in
      let at = channel_at ds chan.name so.0 in
      let d = decl_of ds chan.name false so.0 in
      let some = declared_some ds chan.name ranged (is_declared ds chan.name false so.0) in
      let free : is_against sent_on d.0.kind ≡ false = let h = sound.ends (use_of chan sent_on) (0, omega arith, refl) in rw d.1 at h in
      record {
        within = at.within;
        direction = λ (is : kind_at (channels_of ds) (channel_number ds chan.name) ≡ kind.In). sends_out d.0.kind d.2 free (sym (at.kind d.0 d.1) ∙ is);
        sent = subst (λ (w : ℕ). IsOfWidth (vars_of ds) w (formula_form ds (declared_width ds chan.name) e)) (sym at.width)
            (expression_typed ds ranged (declared_width ds chan.name) e some (declared_most ds ranged chan.name) shaped so.1);
      }
  statement_typed ds ranged (receives chan target) shaped sound =
      let so = receive_sound ds chan target sound in
      let at = channel_at ds chan.name so.0 in
      let var = var_at ds target.name so.1 in
      let d = decl_of ds chan.name false so.0 in
      let free : is_against received_on d.0.kind ≡ false = let h = sound.ends (use_of chan received_on) (0, omega arith, refl) in rw d.1 at h in
      let same = equal_widths (declared_width ds target.name) (declared_width ds chan.name) (sound.targets (record { chan = chan; target = target }) (
        0,
        omega arith,
        refl,
      )) in
      record {
        within = at.within;
        direction = λ (is : kind_at (channels_of ds) (channel_number ds chan.name) ≡ kind.Out). receives_in d.0.kind d.2 free (sym (at.kind d.0 d.1) ∙ is);
        target = var.within;
        widths = var.width ∙ same ∙ sym at.width;
      }
  statement_typed ds ranged (follows members) shaped sound = let count = members_counted ds members in
      (omega (arith, shaped.0), members_typed ds ranged members shaped.1 sound)
  statement_typed ds ranged (besides members) shaped sound = let count = members_counted ds members in
      (omega (arith, shaped.0), members_typed ds ranged members shaped.1 sound)
  statement_typed ds ranged (selects again arms) shaped sound = let count = arms_counted ds arms in
      (omega (arith, shaped.0), omega (arith, shaped.1), arms_typed ds ranged arms shaped.2 sound)
  statement_typed ds ranged (repeats s) shaped sound = statement_typed ds ranged s shaped sound
  statement_typed ds ranged (calls of) shaped sound = tt

  members_typed : (ds : List Decl) → AreRanged ds → (members : Statements) → AreShapedMembers members → IsSound ds (met_of_each ds members) →
      AreProcesses (channels_of ds) (vars_of ds) (processes_form ds members)
  members_typed ds ranged no_members shaped sound = tt
  members_typed ds ranged (and_member s more) shaped sound =
      let pieces = subst (λ (m : Met). IsSound ds m) (sym (each_pieces ds s more)) sound in (
        statement_typed ds ranged s shaped.0 (sound_left ds (met_of ds s) (met_of_each ds more) pieces),
        members_typed ds ranged more shaped.1 (sound_right ds (met_of ds s) (met_of_each ds more) pieces),
      )

  arms_typed : (ds : List Decl) → AreRanged ds → (arms : Arms) → AreShapedArms arms → IsSound ds (met_of_arms ds arms) →
      AreChoices (channels_of ds) (vars_of ds) (choices_form ds arms)
  arms_typed ds ranged no_arms shaped sound = tt
  arms_typed ds ranged (and_arm g s more) shaped sound =
      let pieces = subst (λ (m : Met). IsSound ds m) (sym (arm_pieces ds g s more)) sound in
      let others = sound_right ds (met_in ds 1 g) (met_both (met_of ds s) (met_of_arms ds more)) pieces in (
        expression_typed ds ranged 1 g (omega arith) (omega arith) shaped.0
            (sound_left ds (met_in ds 1 g) (met_both (met_of ds s) (met_of_arms ds more)) pieces),
        statement_typed ds ranged s shaped.1 (sound_left ds (met_of ds s) (met_of_arms ds more) others),
        arms_typed ds ranged more shaped.2 (sound_right ds (met_of ds s) (met_of_arms ds more) others),
      )

-- where none of the causes holds anywhere, nothing that is met is wrong

no_place : (P : Span → Type 0) (o : Option Span) → IsLeast P o → ((s : Span) → ¬ P s) → o ≡ None
no_place P None least none = refl
no_place P (Some t) least none = absurd (none t least.there)

use_kind : (o : Option Decl) (role : Role) → is_none o ≡ false → differs_in_kind o role ≡ false →
    option_map (λ (d : Decl). is_var d.kind) o ≡ Some (wants_var role)
use_kind None role some kinds = absurd (cc some)
use_kind (Some d) role some kinds = ap (λ (x : Bool). let y : Option Bool = Some x in y) (same_kind (is_var d.kind) (wants_var role) kinds)
  where
    same_kind : (x y : Bool) → differ x y ≡ false → x ≡ y
    same_kind true true h = refl
    same_kind true false h = absurd (cc h)
    same_kind false true h = absurd (cc h)
    same_kind false false h = refl

pub program_ranged : (p : ProgramTree) → HasNone p naming_faults → AreRanged p.decls
program_ranged p none = λ d c. none_pass is_out_of_range (λ (x : Decl). x.width_at) p.decls (no_place (FaultAt p code.WidthRange) _ (range_least p) none.1.0) d
    c

pub program_sound : (p : ProgramTree) → HasNone p naming_faults → IsSound p.decls (met_of p.decls p.body)
program_sound p none =
    let ranged = program_ranged p none in
    let undeclared = none_pass (is_undeclared p.decls) (λ (u : Use). u.at) (uses_in p.body)
    (no_place (FaultAt p code.Undeclared) _ (undeclared_least p) none.1.1.0) in
    let kinds = none_pass (has_wrong_kind p.decls) (λ (u : Use). u.at) (uses_in p.body)
    (no_place (FaultAt p code.WrongKind) _ (wrong_kind_least p) none.1.1.1.0) in
    let parts = none_pass (is_bad_part p.decls) span_of (all_expressions p) (no_place (FaultAt p code.BadSlice) _ (slice_least p) none.1.1.1.1.1.0) in
    let leaves = none_pass (is_misfit p.decls) (λ (l : Expected). span_of l.expression) (all_leaves p)
    (no_place (λ s. IsMisfitLeaf p s) _ (leaf_least p ranged parts) (λ s h. none.1.1.1.1.1.1.1.0 s (inl h))) in
    record {
      uses = λ u c. use_kind (declaration p.decls u.name) u.role (undeclared u c) (kinds u c);
      ends = none_pass (is_misdirected p.decls) (λ (u : Use). u.at) (uses_in p.body) (no_place (FaultAt p code.Direction) _ (direction_least p) none.1.1.1.1.0);
      parts = parts;
      widths = λ e s c l. none.1.1.1.1.1.1.0 s (record { expression = e; among = c; lacks = lacks_is p.decls e s l });
      leaves = leaves;
      targets = none_pass (is_misfit_target p.decls) (λ (r : Reception). r.target.at) (receptions_in p.body)
          (no_place (λ s. IsMisfitReceive p s) _ (target_least p) (λ s h. none.1.1.1.1.1.1.1.0 s (inr h)));
      numbers = none_pass is_wide_number (λ (l : Expected). span_of l.expression) (all_leaves p)
          (no_place (λ s. IsWideNumber p s) _ (number_least p ranged leaves) (λ s h. none.1.1.1.1.1.1.1.1.0 s (inl h)));
    }

-- declarations

shaped_at : (ds : List Decl) → All IsShapedDecl ds → (d : Decl) → Contains ds d → IsShapedDecl d
shaped_at ds all d c = subst (λ (x : Decl). IsShapedDecl x) c.2 (all c.0 d c.1)

each_channel : (ds : List Decl) → AreRanged ds → ((d : Decl) → Contains ds d → IsShapedDecl d) → All IsDeclaredChannel (channels_of ds)
each_channel [] ranged shaped = All-nil IsDeclaredChannel
each_channel (d ∷ ds) ranged shaped = by_kind (is_var d.kind) refl (each_channel ds (λ e c. ranged e (in_rest d e ds c)) (λ e c. shaped e (in_rest d e ds c)))
  where
    here : Contains (d ∷ ds) d
    here = (0, omega arith, refl)

    by_kind : (b : Bool) → is_var d.kind ≡ b → All IsDeclaredChannel (channels_of ds) → All IsDeclaredChannel (channels_of (d ∷ ds))
    by_kind true var rest = rw (no_channel d d.kind (channels_of ds) var) rest
    by_kind false chan rest =
        rw (one_channel d d.kind (channels_of ds) chan)
        (All-cons IsDeclaredChannel (channel_of d (kind_of d.kind)) (channels_of ds) (record {
          name = (shaped d here).name;
          some =
              ranged_some d (ranged d here);
          most = ranged_most d (ranged d here);
        }) rest)

below_power : (d : Decl) → is_out_of_range d ≡ false → is_wide_first d ≡ false → d.first < 2 ^ d.width
below_power d ranged h = let most = ranged_most d ranged in let same : capped_width d.width ≡ d.width = grind arith in
    below (2 ^ d.width) d.first (rw same at h)
  where
    below : (k n : ℕ) → nat_le k n ≡ false → n < k
    below k n h = grind (arith, nat_tests)

each_var : (ds : List Decl) → AreRanged ds → ((d : Decl) → Contains ds d → IsShapedDecl d) → ((d : Decl) → Contains ds d → is_wide_first d ≡ false) →
    All IsDeclaredVar (vars_of ds)
each_var [] ranged shaped firsts = All-nil IsDeclaredVar
each_var (d ∷ ds) ranged shaped firsts = by_kind (is_var d.kind) refl (each_var ds (λ e c. ranged e (in_rest d e ds c)) (λ e c. shaped e (in_rest d e ds c))
    (λ e c. firsts e (in_rest d e ds c)))
  where
    here : Contains (d ∷ ds) d
    here = (0, omega arith, refl)

    by_kind : (b : Bool) → is_var d.kind ≡ b → All IsDeclaredVar (vars_of ds) → All IsDeclaredVar (vars_of (d ∷ ds))
    by_kind false chan rest = rw (no_var d d.kind (vars_of ds) chan) rest
    by_kind true var rest =
        rw (one_var d d.kind (vars_of ds) var)
        (All-cons IsDeclaredVar (var_of d) (vars_of ds) (record {
          name = (shaped d here).name;
          some = ranged_some d (ranged d here);
          most =
              ranged_most d (ranged d here);
          first = below_power d (ranged d here) (firsts d here);
        }) rest)

-- no name twice

abbrev AreApart : List (List ℕ) → Type 0
AreApart [] = Unit {0}
AreApart (n ∷ ns) = (¬ Contains ns n) × AreApart ns

get_or_same : (ns : List (List ℕ)) (k : ℕ) (n d : List ℕ) → k < length ns → get_or ns k n ≡ get_or ns k d
get_or_same [] k n d within = absurd (omega (arith, within))
get_or_same (x ∷ ns) zero n d within = refl
get_or_same (x ∷ ns) (suc k) n d within = get_or_same ns k n d (omega (arith, within))

pairs_apart : (ns : List (List ℕ)) → AreApart ns → AllPairs (λ (a b : List ℕ). a ≢ b) ns
pairs_apart [] apart = λ i j d less within. absurd (omega (arith, within))
pairs_apart (n ∷ ns) apart =
    AllPairs-cons (λ (a b : List ℕ). a ≢ b) n ns (λ k d within e. apart.0 (k, within, get_or_same ns k n d within ∙ sym e)) (pairs_apart ns apart.1)

inserted : (xs ys : List (List ℕ)) (n : List ℕ) → AreApart (xs ++ ys) → ¬ Contains (xs ++ ys) n → AreApart (xs ++ n ∷ ys)
inserted [] ys n apart none = (none, apart)
inserted (x ∷ xs) ys n apart none = (
  λ c. ⊎_elim (λ l. apart.0 (Contains-append_left xs ys x l))
      (λ r. ⊎_elim (λ (e : n ≡ x). none (0, omega arith, sym e)) (λ k. apart.0 (Contains-append_right xs ys x k)) (front_or_rest n x ys r))
      (Contains-append_cases xs (n ∷ ys) x c),
  inserted xs ys n apart.1 (λ c. none (in_rest x n (xs ++ ys) c)),
)

abbrev all_names : List Decl → List (List ℕ)
all_names ds = names_of (channels_of ds) (vars_of ds)

abbrev channel_names : List Decl → List (List ℕ)
channel_names ds = map (λ (x : Channel). x.name) (channels_of ds)

abbrev var_names : List Decl → List (List ℕ)
var_names ds = map (λ (x : Var). x.name) (vars_of ds)

names_var : (d : Decl) (ds : List Decl) → is_var d.kind ≡ true → all_names (d ∷ ds) ≡ channel_names ds ++ d.name.name ∷ var_names ds
names_var d ds var = ap (λ (cs : List Channel). names_of cs (vars_of (d ∷ ds))) (no_channel d d.kind (channels_of ds) var)
    ∙ ap (λ (vs : List Var). names_of (channels_of ds) vs) (one_var d d.kind (vars_of ds) var)

names_channel : (d : Decl) (ds : List Decl) → is_var d.kind ≡ false → all_names (d ∷ ds) ≡ d.name.name ∷ all_names ds
names_channel d ds chan = ap (λ (cs : List Channel). names_of cs (vars_of (d ∷ ds))) (one_channel d d.kind (channels_of ds) chan)
    ∙ ap (λ (vs : List Var). names_of (channel_of d (kind_of d.kind) ∷ channels_of ds) vs) (no_var d d.kind (vars_of ds) chan)

among_names : (ds : List Decl) (n : List ℕ) → Contains (all_names ds) n → Contains (names ds) n
among_names [] n c = c
among_names (d ∷ ds) n c = by_kind (is_var d.kind) refl (λ k. among_names ds n k)
  where
    by_kind : (b : Bool) → is_var d.kind ≡ b → (Contains (all_names ds) n → Contains (names ds) n) → Contains (names (d ∷ ds)) n
    by_kind true var rest =
        let cs = channel_names ds in
        let vs = var_names ds in
        let k = subst (λ (ns : List (List ℕ)). Contains ns n) (names_var d ds var) c in
        ⊎_elim (λ l. in_rest d.name.name n (names ds) (rest (Contains-append_left cs vs n l)))
        (λ r. ⊎_elim (λ (e : d.name.name ≡ n). (0, omega arith, e)) (λ m. in_rest d.name.name n (names ds) (rest (Contains-append_right cs vs n m)))
        (front_or_rest d.name.name n vs r)) (Contains-append_cases cs (d.name.name ∷ vs) n k)
    by_kind false chan rest =
        let k = subst (λ (ns : List (List ℕ)). Contains ns n) (names_channel d ds chan) c in
        ⊎_elim (λ (e : d.name.name ≡ n). (0, omega arith, e)) (λ m. in_rest d.name.name n (names ds) (rest m)) (front_or_rest d.name.name n (all_names ds) k)

names_apart : (ds : List Decl) → AreApart (names ds) → AreApart (all_names ds)
names_apart [] apart = tt
names_apart (d ∷ ds) apart = by_kind (is_var d.kind) refl (names_apart ds apart.1) (λ c. apart.0 (among_names ds d.name.name c))
  where
    by_kind : (b : Bool) → is_var d.kind ≡ b → AreApart (all_names ds) → ¬ Contains (all_names ds) d.name.name → AreApart (all_names (d ∷ ds))
    by_kind true var rest none = subst (λ (ns : List (List ℕ)). AreApart ns) (sym (names_var d ds var))
        (inserted (channel_names ds) (var_names ds) d.name.name rest none)
    by_kind false chan rest none = subst (λ (ns : List (List ℕ)). AreApart ns) (sym (names_channel d ds chan)) (none, rest)

-- two declarations of one name
abbrev NoPair : List Decl → Type 0
NoPair ds = (i j : ℕ) (d e : Decl) → i < j → slice_get ds i ≡ Some d → slice_get ds j ≡ Some e → d.name.name ≢ e.name.name

get_name : (ds : List Decl) (n : List ℕ) (k : ℕ) → k < length (names ds) → get_or (names ds) k n ≡ n →
    (e : Decl) × (slice_get ds k ≡ Some e) × (e.name.name ≡ n)
get_name [] n k within is = absurd (omega (arith, within))
get_name (d ∷ ds) n zero within is = (d, refl, is)
get_name (d ∷ ds) n (suc k) within is = get_name ds n k (omega (arith, within)) is

no_pair : (ds : List Decl) → NoPair ds → AreApart (names ds)
no_pair [] none = tt
no_pair (d ∷ ds) none = (
  λ c. let e = get_name ds d.name.name c.0 c.1 c.2 in none 0 (suc c.0) d e.0 (omega arith) refl e.1 (sym e.2),
  no_pair ds (λ i j x y less one other. none (suc i) (suc j) x y (omega (arith, less)) one other),
)

pub program_typed : (p : ProgramTree) → IsShaped p → HasNone p naming_faults → IsTyped (channels_of p.decls) (vars_of p.decls) (process_form p.decls p.body)
program_typed p shaped none =
    let ranged = program_ranged p none in
    let shapes = shaped_at p.decls shaped.decls in
    let firsts = none_pass is_wide_first (λ (d : Decl). d.first_at) p.decls
    (no_place (λ s. IsWideFirst p s) _ (first_least p ranged) (λ s h. none.1.1.1.1.1.1.1.1.0 s (inr h))) in
    let pairs : NoPair p.decls = λ i j d e less one other same. none.0 e.name.at (record {
      earlier = i;
      later = j;
      order = less;
      first = d;
      second = e;
      first_is = one;
      second_is = other;
      same = same;
      at = refl;
    }) in
    record {
      each_channel = each_channel p.decls ranged shapes;
      each_var = each_var p.decls ranged shapes firsts;
      distinct = pairs_apart _ (names_apart p.decls (no_pair p.decls pairs));
      body_is = statement_typed p.decls ranged p.body shaped.body (program_sound p none);
    }
