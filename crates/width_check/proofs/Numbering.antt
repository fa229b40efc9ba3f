-- The numbers of names among the channels and the variables.
use Rattle.std.proofs.Common.{◌≡◌, ℕ, zero, suc, ◌+◌, ◌<◌, ◌≤◌, Bool, true, false, List, [], ◌∷◌, length, get_or, Option, Some, None, refl, sym, ap, ◌∙◌, arith}
use Rattle.std.specs.Prelude.{if◌then◌else◌, slice_get, Contains, IsSome}
use Rattle.std.specs.List.{IsDistinct, position_or_len}
use Rattle.std.specs.Str.{bytes_eq}
use Rattle.std.proofs.lemmas.Map.Keys.{IsDistinct-head, IsDistinct-tail}
use Rattle.std.proofs.lemmas.Slice.Eq.{bytes_eq-Decides}
use Rattle.chp_base.specs.declared.channel.Channel.{Channel}
use Rattle.chp_syntax.specs.declared.tree.Decl.{Decl}
use Rattle.chp_syntax.specs.declared.tree.DeclKind.{DeclKind}
use Rattle.chp_syntax.specs.declared.tree.DeclKind.TheVariants as declares
use Rattle.width_check.specs.declared.typed.Var.{Var}
use Rattle.width_check.specs.Places.{declaration, declared_width, is_var}
use Rattle.width_check.specs.Form.{channel_of, with_channel, channels_of, with_var, vars_of, channel_number, var_number}
use Rattle.width_check.specs.Sound.{AreRanged, is_var_in, numbers_of, kind_of}
use Rattle.width_check.proofs.Scopes.{names, none_among}
use Rattle.width_check.proofs.Leaves.{declared_among, ranged_some, ranged_most}

pub among_at : (ds : List Decl) (i : ℕ) (d : Decl) → i < length ds → d ≡ get_or ds i d → Contains ds d
among_at ds i d within is = (i, within, sym is)

pub width_fits : (ds : List Decl) (i : ℕ) (d : Decl) → AreRanged ds → i < length ds → d ≡ get_or ds i d → d.width ≤ 64
width_fits ds i d ranged within is = ranged_most d (ranged d (among_at ds i d within is))

pub declared_some : (ds : List Decl) (name : List ℕ) → AreRanged ds → IsSome (declaration ds name) → 1 ≤ declared_width ds name
declared_some ds name ranged some = by_decl (declaration ds name) refl
  where
    by_decl : (o : Option Decl) → declaration ds name ≡ o → 1 ≤ declared_width ds name
    by_decl None is = absurd (let no : false ≡ true = rw is at some in cc no)
    by_decl (Some d) is = rw is (ranged_some d (ranged d (declared_among ds name d is)))

-- what a declaration adds

abbrev pub var_of : Decl → Var
var_of d = record { name = d.name.name; width = d.width; first = d.first }

pub one_var : (d : Decl) (k : DeclKind) (vs : List Var) → is_var k ≡ true → with_var d k vs ≡ var_of d ∷ vs
one_var d declares.Var vs is = refl
one_var d declares.In vs is = absurd (cc is)
one_var d declares.Out vs is = absurd (cc is)
one_var d declares.Chan vs is = absurd (cc is)

pub no_var : (d : Decl) (k : DeclKind) (vs : List Var) → is_var k ≡ false → with_var d k vs ≡ vs
no_var d declares.Var vs is = absurd (cc is)
no_var d declares.In vs is = refl
no_var d declares.Out vs is = refl
no_var d declares.Chan vs is = refl

pub one_channel : (d : Decl) (k : DeclKind) (cs : List Channel) → is_var k ≡ false → with_channel d k cs ≡ channel_of d (kind_of k) ∷ cs
one_channel d declares.Var cs is = absurd (cc is)
one_channel d declares.In cs is = refl
one_channel d declares.Out cs is = refl
one_channel d declares.Chan cs is = refl

pub no_channel : (d : Decl) (k : DeclKind) (cs : List Channel) → is_var k ≡ true → with_channel d k cs ≡ cs
no_channel d declares.Var cs is = refl
no_channel d declares.In cs is = absurd (cc is)
no_channel d declares.Out cs is = absurd (cc is)
no_channel d declares.Chan cs is = absurd (cc is)

-- the name of the first declaration, and another one

abbrev at_var : List ℕ → List Var → ℕ
at_var name vs = position_or_len (λ (v : Var). bytes_eq v.name name) vs

abbrev at_channel : List ℕ → List Channel → ℕ
at_channel name cs = position_or_len (λ (c : Channel). bytes_eq c.name name) cs

pub var_first : (d : Decl) (ds : List Decl) (name : List ℕ) → bytes_eq d.name.name name ≡ true → is_var d.kind ≡ true → var_number (d ∷ ds) name ≡ 0
var_first d ds name same var = ap (at_var name) (one_var d d.kind (vars_of ds) var) ∙ rw same refl

pub var_behind : (d : Decl) (ds : List Decl) (name : List ℕ) → bytes_eq d.name.name name ≡ false → is_var d.kind ≡ true →
    var_number (d ∷ ds) name ≡ suc (var_number ds name)
var_behind d ds name other var = ap (at_var name) (one_var d d.kind (vars_of ds) var) ∙ rw other (omega arith)

pub var_apart : (d : Decl) (ds : List Decl) (name : List ℕ) → is_var d.kind ≡ false → var_number (d ∷ ds) name ≡ var_number ds name
var_apart d ds name chan = ap (at_var name) (no_var d d.kind (vars_of ds) chan)

pub channel_first : (d : Decl) (ds : List Decl) (name : List ℕ) → bytes_eq d.name.name name ≡ true → is_var d.kind ≡ false → channel_number (d ∷ ds) name ≡ 0
channel_first d ds name same chan = ap (at_channel name) (one_channel d d.kind (channels_of ds) chan) ∙ rw same refl

pub channel_behind : (d : Decl) (ds : List Decl) (name : List ℕ) → bytes_eq d.name.name name ≡ false → is_var d.kind ≡ false →
    channel_number (d ∷ ds) name ≡ suc (channel_number ds name)
channel_behind d ds name other chan = ap (at_channel name) (one_channel d d.kind (channels_of ds) chan) ∙ rw other (omega arith)

pub channel_apart : (d : Decl) (ds : List Decl) (name : List ℕ) → is_var d.kind ≡ true → channel_number (d ∷ ds) name ≡ channel_number ds name
channel_apart d ds name var = ap (at_channel name) (no_channel d d.kind (channels_of ds) var)

-- the table of numbers

pub numbers_length : (c v : ℕ) (ds : List Decl) → length (numbers_of c v ds) ≡ length ds
numbers_length c v [] = refl
numbers_length c v (d ∷ ds) = by_kind (is_var d.kind) (numbers_length c (suc v) ds) (numbers_length (suc c) v ds)
  where
    by_kind : (b : Bool) → length (numbers_of c (suc v) ds) ≡ length ds → length (numbers_of (suc c) v ds) ≡ length ds →
        length (if b then v ∷ numbers_of c (suc v) ds else c ∷ numbers_of (suc c) v ds) ≡ suc (length ds)
    by_kind true one other = ap suc one
    by_kind false one other = ap suc other

var_here : (d : Decl) (ds : List Decl) (name : List ℕ) (v w : ℕ) → bytes_eq d.name.name name ≡ true → is_var_in (d ∷ ds) name ≡ Some (is_var d.kind)
var_here d ds name v w same = rw same refl

in_others : (d : Decl) (ds : List Decl) (name : List ℕ) (b : Bool) → bytes_eq d.name.name name ≡ false → is_var_in (d ∷ ds) name ≡ Some b →
    is_var_in ds name ≡ Some b
in_others d ds name b other is = rw other at is

pub numbered_var : (e c v : ℕ) (ds : List Decl) (name : List ℕ) (i : ℕ) → IsDistinct bytes_eq (names ds) → slice_get (names ds) i ≡ Some name →
    is_var_in ds name ≡ Some true → get_or (numbers_of c v ds) i e ≡ v + var_number ds name
numbered_var e c v [] name i distinct at is = absurd (cc at)
numbered_var e c v (d ∷ ds) name zero distinct at is =
    let same : d.name.name ≡ name = cc at in
    let test = (bytes_eq-Decides d.name.name name).1 same in
    let var : is_var d.kind ≡ true = let k = sym (var_here d ds name 0 0 test) ∙ is in cc k in
    rw var (let first = var_first d ds name test var in omega arith)
numbered_var e c v (d ∷ ds) name (suc i) distinct at is =
    let test = none_among d.name.name name ds i (IsDistinct-head bytes_eq d.name.name (names ds) distinct) at in
    let rest = IsDistinct-tail bytes_eq d.name.name (names ds) distinct in
    let others = in_others d ds name true test is in
    by_kind (is_var d.kind) refl test (numbered_var e c (suc v) ds name i rest at others) (numbered_var e (suc c) v ds name i rest at others)
  where
    by_kind : (b : Bool) → is_var d.kind ≡ b → bytes_eq d.name.name name ≡ false → get_or (numbers_of c (suc v) ds) i e ≡ suc v + var_number ds name →
        get_or (numbers_of (suc c) v ds) i e ≡ v + var_number ds name
        → get_or (if b then v ∷ numbers_of c (suc v) ds else c ∷ numbers_of (suc c) v ds) (suc i) e ≡ v + var_number (d ∷ ds) name
    by_kind true var test one other = let behind = var_behind d ds name test var in omega (arith, one, behind)
    by_kind false chan test one other = let apart = var_apart d ds name chan in omega (arith, other, apart)

pub numbered_channel : (e c v : ℕ) (ds : List Decl) (name : List ℕ) (i : ℕ) → IsDistinct bytes_eq (names ds) → slice_get (names ds) i ≡ Some name →
    is_var_in ds name ≡ Some false → get_or (numbers_of c v ds) i e ≡ c + channel_number ds name
numbered_channel e c v [] name i distinct at is = absurd (cc at)
numbered_channel e c v (d ∷ ds) name zero distinct at is =
    let same : d.name.name ≡ name = cc at in
    let test = (bytes_eq-Decides d.name.name name).1 same in
    let chan : is_var d.kind ≡ false = let k = sym (var_here d ds name 0 0 test) ∙ is in cc k in
    rw chan (let first = channel_first d ds name test chan in omega arith)
numbered_channel e c v (d ∷ ds) name (suc i) distinct at is =
    let test = none_among d.name.name name ds i (IsDistinct-head bytes_eq d.name.name (names ds) distinct) at in
    let rest = IsDistinct-tail bytes_eq d.name.name (names ds) distinct in
    let others = in_others d ds name false test is in
    by_kind (is_var d.kind) refl test (numbered_channel e c (suc v) ds name i rest at others) (numbered_channel e (suc c) v ds name i rest at others)
  where
    by_kind : (b : Bool) → is_var d.kind ≡ b → bytes_eq d.name.name name ≡ false → get_or (numbers_of c (suc v) ds) i e ≡ c + channel_number ds name →
        get_or (numbers_of (suc c) v ds) i e ≡ suc c + channel_number ds name
        → get_or (if b then v ∷ numbers_of c (suc v) ds else c ∷ numbers_of (suc c) v ds) (suc i) e ≡ c + channel_number (d ∷ ds) name
    by_kind true var test one other = let apart = channel_apart d ds name var in omega (arith, one, apart)
    by_kind false chan test one other = let behind = channel_behind d ds name test chan in omega (arith, other, behind)
