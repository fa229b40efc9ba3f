-- What is found among the declarations of a generated program.
use Rattle.std.proofs.Common.{◌≡◌, ◌∙◌, ℕ, zero, suc, ◌+◌, ◌-◌, ◌*◌, ◌<◌, ◌≤◌, ◌||◌, ◌==◌, ◌⊎◌, inl, inr, Bool, true, false, cond, not, List, [], ◌∷◌, ◌++◌, length, Option, Some, None, refl, sym, ap, subst, arith}
use Rattle.std.specs.Prelude.{Contains, find, slice_get, slice_index_or, unwrap_or, option_map}
use Rattle.std.specs.List.{flat_map, list_any, position_or_len, prefix_len}
use Rattle.std.specs.Str.{bytes_eq}
use Rattle.std.proofs.lemmas.Bool.{cases_lt}
use Rattle.std.proofs.lemmas.Slice.Eq.{bytes_eq-Decides}
use Rattle.chp_base.specs.declared.channel.Channel.{Channel}
use Rattle.chp_syntax.specs.declared.tree.Decl.{Decl}
use Rattle.chp_syntax.specs.declared.tree.DeclKind.{DeclKind}
use Rattle.chp_syntax.specs.declared.tree.DeclKind.TheVariants.{In, Out, Chan, Var}
use Rattle.width_check.specs.declared.typed.Var as V
use Rattle.chp_base.specs.declared.channel.Kind.TheVariants as kind
use Rattle.width_check.specs.Form.{channel_number, channel_of, channels_of, var_number, vars_of, with_channel, with_var}
use Rattle.width_check.specs.Places.{declaration, declared_width, is_var}
use Rattle.grown_programs.proofs.Decimals.{one_number}
use Rattle.grown_programs.proofs.Plans.{AreWanted, IsWanted, Wanted, all_wanted, channel_at, inner_channels, name_wanted, stage_variables, variable_at, wanted}

-- ---- lists

-- P of each element
abbrev pub Each : {A : Type 0} → (A → Type 0) → List A → Type 0
Each P [] = Unit {0}
Each P (x ∷ xs) = P x × Each P xs

module _ {A : Type 0} (P : A → Type 0) where
  pub each_append : (xs ys : List A) → Each P xs → Each P ys → Each P (xs ++ ys)
  each_append [] ys all more = more
  each_append (x ∷ xs) ys all more = (all.0, each_append xs ys all.1 more)

  each_at : (xs : List A) (x : A) (k : ℕ) → Each P xs → k < length xs → slice_index_or xs k x ≡ x → P x
  each_at [] x k all within is = absurd (omega arith)
  each_at (y ∷ ys) x zero all within is = subst P is all.0
  each_at (y ∷ ys) x (suc k) all within is = each_at ys x k all.1 (omega arith) is

  pub each_contains : (xs : List A) (x : A) → Each P xs → Contains xs x → P x
  each_contains xs x all is = each_at xs x is.0 all is.1 is.2

  pub each_get : (xs : List A) (k : ℕ) (x : A) → Each P xs → slice_get xs k ≡ Some x → P x
  each_get [] k x all is = absurd (cc (is))
  each_get (y ∷ ys) zero x all is = let same : y ≡ x = cc (is) in subst P same all.0
  each_get (y ∷ ys) (suc k) x all is = each_get ys k x all.1 is

  pub each_found : (p : A → Bool) (xs : List A) (x : A) → Each P xs → find p xs ≡ Some x → P x
  each_found p [] x all is = absurd (cc (is))
  each_found p (y ∷ ys) x all is = go (p y) is (each_found p ys x all.1)
    where
      go : (b : Bool) → cond b (Some y) (find p ys) ≡ Some x → (find p ys ≡ Some x → P x) → P x
      go true e next = let same : y ≡ x = cc (e) in subst P same all.0
      go false e next = next e

pub found_passes : {A : Type 0} (p : A → Bool) (xs : List A) (x : A) → find p xs ≡ Some x → p x ≡ true
found_passes p [] x is = absurd (cc (is))
found_passes p (y ∷ ys) x is = go (p y) refl is (found_passes p ys x)
  where
    go : (b : Bool) → p y ≡ b → cond b (Some y) (find p ys) ≡ Some x → (find p ys ≡ Some x → p x ≡ true) → p x ≡ true
    go true t e next = let same : y ≡ x = cc (e) in subst (λ z. p z ≡ true) same t
    go false t e next = next e

pub each_flat_map : {A B : Type 0} (P : A → Type 0) (Q : B → Type 0) (f : A → List B) (xs : List A) → Each P xs → ((x : A) → P x → Each Q (f x)) →
    Each Q (flat_map f xs)
each_flat_map P Q f [] all goes = tt
each_flat_map P Q f (x ∷ xs) all goes = each_append Q (f x) (flat_map f xs) (goes x all.0) (each_flat_map P Q f xs all.1 goes)

-- the first element that passes stands at its position
pub first_passes : {A : Type 0} (p : A → Bool) (xs : List A) → list_any p xs ≡ true → (x : A) × (slice_get xs (position_or_len p xs) ≡ Some x) × (p x ≡ true)
first_passes p [] any = absurd (cc (any))
first_passes {A} p (y ∷ ys) any = go (p y) refl any (first_passes p ys)
  where
    one_more : (k : ℕ) → 1 + k ≡ suc k
    one_more k = omega arith

    go : (b : Bool) → p y ≡ b → (b || list_any p ys) ≡ true
        → (list_any p ys ≡ true → (x : A) × (slice_get ys (prefix_len (λ x. not (p x)) ys) ≡ Some x) × (p x ≡ true))
        → (x : A) × (slice_get (y ∷ ys) (cond (not b) (1 + prefix_len (λ x. not (p x)) ys) 0) ≡ Some x) × (p x ≡ true)
    go true is e next = (y, refl, is)
    go false is e next =
        let found = next e in
        (found.0, ap (slice_get (y ∷ ys)) (one_more (prefix_len (λ x. not (p x)) ys)) ∙ found.1, found.2)

pub same_bytes : (a b : List ℕ) → a ≡ b → bytes_eq a b ≡ true
same_bytes a b same = (bytes_eq-Decides a b).1 same

-- ---- what is wanted

abbrev pub Among : List Wanted → Wanted → Type 0
Among [] w = ⊥
Among (v ∷ vs) w = (v ≡ w) ⊎ Among vs w

inner_has : (from count : ℕ) (more : List Wanted) (j : ℕ) → from ≤ j → j < from + count → Among (inner_channels from count more) (wanted Chan 99 j)
inner_has from zero more j low high = absurd (omega arith)
inner_has from (suc count) more j low high = go (cases_lt from j) (λ less. inner_has (from + 1) count more j (omega arith) (omega arith))
  where
    go : (from < j) ⊎ (j ≤ from) → (from < j → Among (inner_channels (from + 1) count more) (wanted Chan 99 j))
        → Among (inner_channels from (suc count) more) (wanted Chan 99 j)
    go (inl less) next = inr (next less)
    go (inr le) next = let same : from ≡ j = omega arith in inl (ap (wanted Chan 99) same)

inner_skip : (from count : ℕ) (more : List Wanted) (w : Wanted) → Among more w → Among (inner_channels from count more) w
inner_skip from zero more w is = is
inner_skip from (suc count) more w is = inr (inner_skip (from + 1) count more w is)

variables_have : (from count i : ℕ) → from ≤ i → i < from + count → Among (stage_variables from count) (wanted Var 118 i)
variables_have from zero i low high = absurd (omega arith)
variables_have from (suc count) i low high = go (cases_lt from i) (λ less. variables_have (from + 1) count i (omega arith) (omega arith))
  where
    go : (from < i) ⊎ (i ≤ from) → (from < i → Among (stage_variables (from + 1) count) (wanted Var 118 i))
        → Among (stage_variables from (suc count)) (wanted Var 118 i)
    go (inl less) next = inr (next less)
    go (inr le) next = let same : from ≡ i = omega arith in inl (ap (wanted Var 118) same)

-- a channel that is declared
pub record IsChannelOf (n j : ℕ) : Type 0 where
  pub kind : DeclKind
  pub no_var : is_var kind ≡ false
  pub among : Among (all_wanted n) (wanted kind 99 j)

pub channel_among : (n j : ℕ) → 1 ≤ n → j ≤ n → IsChannelOf n j
channel_among n j some within = go (cases_lt 0 j) (cases_lt j n)
  where
    go : (0 < j) ⊎ (j ≤ 0) → (j < n) ⊎ (n ≤ j) → IsChannelOf n j
    go (inr le) _ = let same : 0 ≡ j = omega arith in record { kind = In; no_var = refl; among = inl (ap (wanted In 99) same) }
    go (inl some) (inl less) = record {
      kind = Chan;
      no_var = refl;
      among = inr (inner_has 1 (n - 1) (wanted Out 99 n ∷ stage_variables 1 n) j (omega arith) (omega arith));
    }
    go (inl some) (inr le) =
        let same : n ≡ j = omega arith in record {
          kind = Out;
          no_var = refl;
          among = inr (inner_skip 1 (n - 1) (wanted Out 99 n ∷ stage_variables 1 n) (wanted Out 99 j) (inl (ap (wanted Out 99) same)));
        }

pub variable_among : (n i : ℕ) → 1 ≤ i → i ≤ n → Among (all_wanted n) (wanted Var 118 i)
variable_among n i some within =
    inr (inner_skip 1 (n - 1) (wanted Out 99 n ∷ stage_variables 1 n) (wanted Var 118 i) (inr (variables_have 1 n i (omega arith) (omega arith))))

-- what holds of each
pub record IsOurs (n : ℕ) (w : Wanted) : Type 0 where
  pub few : w.number ≤ 400
  pub letter : is_var w.kind ≡ (w.letter == 118)
  pub leads_in : w.kind ≡ In → w.number ≡ 0
  pub leads_out : w.kind ≡ Out → w.number ≡ n

inner_ours : (n from count : ℕ) (more : List Wanted) → from + count ≤ 401 → Each (IsOurs n) more → Each (IsOurs n) (inner_channels from count more)
inner_ours n from zero more few all = all
inner_ours n from (suc count) more few all = (
  record { few = omega arith; letter = refl; leads_in = λ is. absurd (cc (is)); leads_out = λ is. absurd (cc (is)) },
  inner_ours n (from + 1) count more (omega arith) all,
)

variables_ours : (n from count : ℕ) → from + count ≤ 401 → Each (IsOurs n) (stage_variables from count)
variables_ours n from zero few = tt
variables_ours n from (suc count) few = (
  record { few = omega arith; letter = refl; leads_in = λ is. absurd (cc (is)); leads_out = λ is. absurd (cc (is)) },
  variables_ours n (from + 1) count (omega arith),
)

pub all_ours : (n : ℕ) → 1 ≤ n → n ≤ 400 → Each (IsOurs n) (all_wanted n)
all_ours n some few = (
  record { few = omega arith; letter = refl; leads_in = λ is. refl; leads_out = λ is. absurd (cc (is)) },
  inner_ours n 1 (n - 1) (wanted Out 99 n ∷ stage_variables 1 n) (omega arith) (
    record { few = few; letter = refl; leads_in = λ is. absurd (cc (is)); leads_out = λ is. refl },
    variables_ours n 1 n (omega arith),
  ),
)

-- ---- what is declared

pub record IsOurDecl (n : ℕ) (d : Decl) : Type 0 where
  pub own : Wanted
  pub ours : IsOurs n own
  pub is : IsWanted own d

our_decls : (n : ℕ) (ws : List Wanted) (ds : List Decl) → Each (IsOurs n) ws → AreWanted ws ds → Each (IsOurDecl n) ds
our_decls n [] [] all are = tt
our_decls n [] (d ∷ ds) all are = absurd are
our_decls n (w ∷ ws) [] all are = absurd are
our_decls n (w ∷ ws) (d ∷ ds) all are = (record { own = w; ours = all.0; is = are.0 }, our_decls n ws ds all.1 are.1)

-- a wanted one is found
found : (ws : List Wanted) (ds : List Decl) (w : Wanted) → AreWanted ws ds → Among ws w → (d : Decl) × (declaration ds (name_wanted w) ≡ Some d)
found [] ds w are among = absurd among
found (v ∷ vs) [] w are among = absurd are
found (v ∷ vs) (d ∷ ds) w are among = go (bytes_eq d.name.name (name_wanted w)) refl among (found vs ds w are.1)
  where
    go : (b : Bool) → bytes_eq d.name.name (name_wanted w) ≡ b → (v ≡ w) ⊎ Among vs w
        → (Among vs w → (x : Decl) × (declaration ds (name_wanted w) ≡ Some x))
        → (x : Decl) × (cond b (Some d) (declaration ds (name_wanted w)) ≡ Some x)
    go true is among next = (d, refl)
    go false is (inl same) next =
        let named : d.name.name ≡ name_wanted w = are.0.name ∙ ap name_wanted same in
        absurd (cc (same_bytes d.name.name (name_wanted w) named, is))
    go false is (inr more) next = next more

-- ---- numbers of channels and variables

any_more : (b : Bool) {c : Bool} → c ≡ true → (b || c) ≡ true
any_more true is = refl
any_more false is = is

any_channel : (p : Channel → Bool) (d : Decl) (kind : DeclKind) (cs : List Channel) → list_any p cs ≡ true → list_any p (with_channel d kind cs) ≡ true
any_channel p d In cs any = any_more (p (channel_of d kind.In)) any
any_channel p d Out cs any = any_more (p (channel_of d kind.Out)) any
any_channel p d Chan cs any = any_more (p (channel_of d kind.Chan)) any
any_channel p d Var cs any = any

this_channel : (name : List ℕ) (d : Decl) (kind : DeclKind) (cs : List Channel) → is_var kind ≡ false → bytes_eq d.name.name name ≡ true
    → list_any (λ (c : Channel). bytes_eq c.name name) (with_channel d kind cs) ≡ true
this_channel name d In cs lacks is = rw is refl
this_channel name d Out cs lacks is = rw is refl
this_channel name d Chan cs lacks is = rw is refl
this_channel name d Var cs lacks is = cc (lacks)

channel_there : (ws : List Wanted) (ds : List Decl) (w : Wanted) → AreWanted ws ds → is_var w.kind ≡ false → Among ws w
    → list_any (λ (c : Channel). bytes_eq c.name (name_wanted w)) (channels_of ds) ≡ true
channel_there [] ds w are lacks among = absurd among
channel_there (v ∷ vs) [] w are lacks among = absurd are
channel_there (v ∷ vs) (d ∷ ds) w are lacks (inl same) =
    let named : d.name.name ≡ name_wanted w = are.0.name ∙ ap name_wanted same in
    let kind : d.kind ≡ w.kind = are.0.kind ∙ ap (λ (x : Wanted). x.kind) same in
    this_channel (name_wanted w) d d.kind (channels_of ds) (ap is_var kind ∙ lacks) (same_bytes d.name.name (name_wanted w) named)
channel_there (v ∷ vs) (d ∷ ds) w are lacks (inr more) =
    any_channel (λ (c : Channel). bytes_eq c.name (name_wanted w)) d d.kind (channels_of ds) (channel_there vs ds w are.1 lacks more)

any_var : (p : V.Var → Bool) (d : Decl) (kind : DeclKind) (vs : List V.Var) → list_any p vs ≡ true → list_any p (with_var d kind vs) ≡ true
any_var p d Var vs any = any_more (p (record { name = d.name.name; width = d.width; first = d.first })) any
any_var p d In vs any = any
any_var p d Out vs any = any
any_var p d Chan vs any = any

this_var : (name : List ℕ) (d : Decl) (kind : DeclKind) (vs : List V.Var) → kind ≡ Var → bytes_eq d.name.name name ≡ true
    → list_any (λ (v : V.Var). bytes_eq v.name name) (with_var d kind vs) ≡ true
this_var name d Var vs var is = rw is refl
this_var name d In vs var is = absurd (cc (var))
this_var name d Out vs var is = absurd (cc (var))
this_var name d Chan vs var is = absurd (cc (var))

variable_there : (ws : List Wanted) (ds : List Decl) (w : Wanted) → AreWanted ws ds → w.kind ≡ Var → Among ws w
    → list_any (λ (v : V.Var). bytes_eq v.name (name_wanted w)) (vars_of ds) ≡ true
variable_there [] ds w are var among = absurd among
variable_there (v ∷ vs) [] w are var among = absurd are
variable_there (v ∷ vs) (d ∷ ds) w are var (inl same) =
    let named : d.name.name ≡ name_wanted w = are.0.name ∙ ap name_wanted same in
    let kind : d.kind ≡ w.kind = are.0.kind ∙ ap (λ (x : Wanted). x.kind) same in
    this_var (name_wanted w) d d.kind (vars_of ds) (kind ∙ var) (same_bytes d.name.name (name_wanted w) named)
variable_there (v ∷ vs) (d ∷ ds) w are var (inr more) =
    any_var (λ (x : V.Var). bytes_eq x.name (name_wanted w)) d d.kind (vars_of ds) (variable_there vs ds w are.1 var more)

-- ---- the declarations of a program of n stages

module _ (n : ℕ) (some : 1 ≤ n) (few : n ≤ 400) (ds : List Decl) (are : AreWanted (all_wanted n) ds) where
  pub ours : Each (IsOurDecl n) ds
  ours = our_decls n (all_wanted n) ds (all_ours n some few) are

  pub channel_declared : (j : ℕ) → j ≤ n → (d : Decl) × (declaration ds (channel_at j) ≡ Some d)
  channel_declared j within = let c = channel_among n j some within in found (all_wanted n) ds (wanted c.kind 99 j) are c.among

  pub variable_declared : (i : ℕ) → 1 ≤ i → i ≤ n → (d : Decl) × (declaration ds (variable_at i) ≡ Some d)
  variable_declared i low high = found (all_wanted n) ds (wanted Var 118 i) are (variable_among n i low high)

  wide : (name : List ℕ) (d : Decl) → declaration ds name ≡ Some d → declared_width ds name ≡ 8
  wide name d is = ap (λ o. unwrap_or (option_map (λ (x : Decl). x.width) o) 0) is
      ∙ (each_found (IsOurDecl n) (λ (x : Decl). bytes_eq x.name.name name) ds d ours is).is.width

  pub channel_wide : (j : ℕ) → j ≤ n → declared_width ds (channel_at j) ≡ 8
  channel_wide j within = let d = channel_declared j within in wide (channel_at j) d.0 d.1

  pub variable_wide : (i : ℕ) → 1 ≤ i → i ≤ n → declared_width ds (variable_at i) ≡ 8
  variable_wide i low high = let d = variable_declared i low high in wide (variable_at i) d.0 d.1

  pub one_channel : (i j : ℕ) → i ≤ n → j ≤ n → channel_number ds (channel_at i) ≡ channel_number ds (channel_at j) → i ≡ j
  one_channel i j within also same =
      let a = channel_among n i some within in
      let b = channel_among n j some also in
      let x = first_passes (λ (c : Channel). bytes_eq c.name (channel_at i)) (channels_of ds)
      (channel_there (all_wanted n) ds (wanted a.kind 99 i) are a.no_var a.among) in
      let y = first_passes (λ (c : Channel). bytes_eq c.name (channel_at j)) (channels_of ds)
      (channel_there (all_wanted n) ds (wanted b.kind 99 j) are b.no_var b.among) in
      let there : slice_get (channels_of ds) (channel_number ds (channel_at i)) ≡ slice_get (channels_of ds) (channel_number ds (channel_at j)) =
      ap (slice_get (channels_of ds)) same in
      let once : x.0 ≡ y.0 = cc (x.1, y.1, there) in
      let first : x.0.name ≡ channel_at i = (bytes_eq-Decides x.0.name (channel_at i)).0 x.2 in
      let second : y.0.name ≡ channel_at j = (bytes_eq-Decides y.0.name (channel_at j)).0 y.2 in
      one_number 99 i j (omega arith) (omega arith) (sym first ∙ (ap (λ (c : Channel). c.name) once ∙ second))

  pub one_variable : (i j : ℕ) → 1 ≤ i → i ≤ n → 1 ≤ j → j ≤ n → var_number ds (variable_at i) ≡ var_number ds (variable_at j) → i ≡ j
  one_variable i j low within least also same =
      let x = first_passes (λ (v : V.Var). bytes_eq v.name (variable_at i)) (vars_of ds)
      (variable_there (all_wanted n) ds (wanted Var 118 i) are refl (variable_among n i low within)) in
      let y = first_passes (λ (v : V.Var). bytes_eq v.name (variable_at j)) (vars_of ds)
      (variable_there (all_wanted n) ds (wanted Var 118 j) are refl (variable_among n j least also)) in
      let there : slice_get (vars_of ds) (var_number ds (variable_at i)) ≡ slice_get (vars_of ds) (var_number ds (variable_at j)) =
      ap (slice_get (vars_of ds)) same in
      let once : x.0 ≡ y.0 = cc (x.1, y.1, there) in
      let first : x.0.name ≡ variable_at i = (bytes_eq-Decides x.0.name (variable_at i)).0 x.2 in
      let second : y.0.name ≡ variable_at j = (bytes_eq-Decides y.0.name (variable_at j)).0 y.2 in
      one_number 118 i j (omega arith) (omega arith) (sym first ∙ (ap (λ (v : V.Var). v.name) once ∙ second))
