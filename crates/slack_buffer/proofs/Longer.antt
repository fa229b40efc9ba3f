-- Names and expressions where more is declared behind.
use Rattle.std.proofs.Common.{◌≡◌, ℕ, ◌+◌, ◌-◌, ◌<◌, Bool, true, false, List, [], ◌∷◌, ◌++◌, length, Option, Some, None, refl, sym, ap, ◌∙◌, subst, inl, inr, ⊎_elim, arith, length-append}
use Rattle.std.specs.Prelude.{if◌then◌else◌, option_map, unwrap_or}
use Rattle.std.specs.List.{position_or_len}
use Rattle.std.specs.Option.{option_or}
use Rattle.std.specs.Str.{bytes_eq}
use Rattle.std.proofs.Math.ListN.{get_or-append}
use Rattle.std.proofs.lemmas.List.Folds.{find-append}
use Rattle.std.proofs.lemmas.List.Sums.{position_or_len_is, fails_before_first, passes_at_first}
use Rattle.chp_base.specs.declared.channel.Channel.{Channel}
use Rattle.chp_base.specs.declared.channel.Kind.TheVariants.{Chan}
use Rattle.chp_base.specs.declared.span.Span.{Span}
use Rattle.chp_syntax.specs.declared.tree.Decl.{Decl}
use Rattle.chp_syntax.specs.declared.tree.DeclKind.{DeclKind}
use Rattle.chp_syntax.specs.declared.tree.DeclKind.TheVariants as declares
use Rattle.chp_syntax.specs.Trees.{Expression, number, whole, slice, bit, join, negation, chain, Expressions, no_parts, and_part, Links, no_links, and_link}
use Rattle.width_check.specs.declared.typed.Var.{Var}
use Rattle.width_check.specs.Places.{declaration, declared_width, is_var, Use, use_of, read, reads_in, reads_in_join, reads_in_links, compares, or_width, own_width, own_widths, first_width, Expected, expect, leaves, leaves_of_parts, leaves_of_links, inside, inside_parts, inside_links}
use Rattle.width_check.specs.Faults.{wants_var}
use Rattle.width_check.specs.Form.{with_channel, channels_of, with_var, vars_of, channel_number, var_number, compared_with, formula_form, parts_form, operations_form}
use Rattle.width_check.specs.Processes as typed
use Rattle.width_check.specs.Processes.{Formula, Operations, reading, joined, inverted, chained}
use Rattle.width_check.specs.Sound.{is_var_in}
use Rattle.width_check.proofs.Soundness.{var_at}
use Rattle.chp_meaning.specs.Fitting.{In}
use Rattle.chp_meaning.proofs.Places.{in_left, in_right, in_either}

-- names

pub decl_of : (ds : List Decl) (name : List ℕ) (b : Bool) → is_var_in ds name ≡ Some b → (d : Decl) × (declaration ds name ≡ Some d) × (is_var d.kind ≡ b)
decl_of ds name b is = by_decl (declaration ds name) refl is
  where
    by_decl : (o : Option Decl) → declaration ds name ≡ o → option_map (λ (d : Decl). is_var d.kind) o ≡ Some b → (d : Decl) × (declaration ds name ≡ Some d)
        × (is_var d.kind ≡ b)
    by_decl None found so = absurd (cc so)
    by_decl (Some d) found so = (d, found, let e : is_var d.kind ≡ b = cc so in e)

pub found_still : (ds es : List Decl) (name : List ℕ) (d : Decl) → declaration ds name ≡ Some d → declaration (ds ++ es) name ≡ Some d
found_still ds es name d e =
    find-append (λ (x : Decl). bytes_eq x.name.name name) ds es ∙ ap (λ o. option_or o (declaration es name)) e

pub found_behind : (ds es : List Decl) (name : List ℕ) → declaration ds name ≡ None → declaration (ds ++ es) name ≡ declaration es name
found_behind ds es name e = find-append (λ (x : Decl). bytes_eq x.name.name name) ds es ∙ ap (λ o. option_or o (declaration es name)) e

pub decl_kept : (ds es : List Decl) (name : List ℕ) (b : Bool) → is_var_in ds name ≡ Some b → declaration (ds ++ es) name ≡ declaration ds name
decl_kept ds es name b is = let d = decl_of ds name b is in found_still ds es name d.0 d.1 ∙ sym d.1

pub width_kept : (ds es : List Decl) (name : List ℕ) (b : Bool) → is_var_in ds name ≡ Some b → declared_width (ds ++ es) name ≡ declared_width ds name
width_kept ds es name b is = ap (λ o. unwrap_or (option_map (λ (d : Decl). d.width) o) 0) (decl_kept ds es name b is)

-- numbers

place_kept : {X : Type 0} (p : X → Bool) (xs ys : List X) (d : X) → position_or_len p xs < length xs → position_or_len p (xs ++ ys) ≡ position_or_len p xs
place_kept p xs ys d within =
    position_or_len_is p (xs ++ ys) (position_or_len p xs) d (let e = length-append xs ys in omega arith)
    (λ k less. ap p (get_or-append xs ys d k (omega (arith, less, within))) ∙ fails_before_first p xs k d less)
    (λ less. ap p (get_or-append xs ys d (position_or_len p xs) within) ∙ passes_at_first p xs d within)

channels_with : (d : Decl) (k : DeclKind) (cs ds : List Channel) → with_channel d k (cs ++ ds) ≡ with_channel d k cs ++ ds
channels_with d declares.In cs ds = refl
channels_with d declares.Out cs ds = refl
channels_with d declares.Chan cs ds = refl
channels_with d declares.Var cs ds = refl

pub channels_longer : (ds es : List Decl) → channels_of (ds ++ es) ≡ channels_of ds ++ channels_of es
channels_longer [] es = refl
channels_longer (d ∷ ds) es = ap (λ cs. with_channel d d.kind cs) (channels_longer ds es) ∙ channels_with d d.kind (channels_of ds) (channels_of es)

vars_with : (d : Decl) (k : DeclKind) (cs ds : List Var) → with_var d k (cs ++ ds) ≡ with_var d k cs ++ ds
vars_with d declares.In cs ds = refl
vars_with d declares.Out cs ds = refl
vars_with d declares.Chan cs ds = refl
vars_with d declares.Var cs ds = refl

pub vars_longer : (ds es : List Decl) → vars_of (ds ++ es) ≡ vars_of ds ++ vars_of es
vars_longer [] es = refl
vars_longer (d ∷ ds) es = ap (λ vs. with_var d d.kind vs) (vars_longer ds es) ∙ vars_with d d.kind (vars_of ds) (vars_of es)

pub no_channel : Channel
no_channel = record { name = []; kind = Chan; width = 0 }

pub channel_kept : (ds es : List Decl) (name : List ℕ) → channel_number ds name < length (channels_of ds) →
    channel_number (ds ++ es) name ≡ channel_number ds name
channel_kept ds es name within =
    ap (λ cs. position_or_len (λ (c : Channel). bytes_eq c.name name) cs) (channels_longer ds es)
    ∙ place_kept (λ (c : Channel). bytes_eq c.name name) (channels_of ds) (channels_of es) no_channel within

no_var : Var
no_var = record { name = []; width = 0; first = 0 }

pub var_kept : (ds es : List Decl) (name : List ℕ) → is_var_in ds name ≡ Some true → var_number (ds ++ es) name ≡ var_number ds name
var_kept ds es name is =
    ap (λ vs. position_or_len (λ (v : Var). bytes_eq v.name name) vs) (vars_longer ds es)
    ∙ place_kept (λ (v : Var). bytes_eq v.name name) (vars_of ds) (vars_of es) no_var (var_at ds name is).within

-- expressions whose names are declared, each as its use wants

abbrev pub Known : List Decl → List Use → Type 0
Known ds us = (u : Use) → In us u → is_var_in ds u.name ≡ Some (wants_var u.role)

pub known_left : (ds : List Decl) (us vs : List Use) → Known ds (us ++ vs) → Known ds us
known_left ds us vs h u i = h u (in_left us vs u i)

pub known_right : (ds : List Decl) (us vs : List Use) → Known ds (us ++ vs) → Known ds vs
known_right ds us vs h u i = h u (in_right us vs u i)

mutual
  pub own_kept : (ds es : List Decl) (e : Expression) → Known ds (reads_in e) → own_width (ds ++ es) e ≡ own_width ds e
  own_kept ds es (number n at) h = refl
  own_kept ds es (whole of) h = ap (λ n. Some n) (width_kept ds es of.name true (h (use_of of read) (inl refl)))
  own_kept ds es (slice of high low at) h = refl
  own_kept ds es (bit of place at) h = refl
  own_kept ds es (join parts at) h = ap (λ n. Some n) (owns_kept ds es parts h)
  own_kept ds es (negation e at) h = own_kept ds es e h
  own_kept ds es (chain e more at) h =
      ap (λ o. if compares more then Some 1 else o) (ap (λ o. or_width o (first_width (ds ++ es) more)) (own_kept ds es e (known_left ds (reads_in e)
      (reads_in_links more) h))
      ∙ ap (λ o. or_width (own_width ds e) o) (first_kept ds es more (known_right ds (reads_in e) (reads_in_links more) h)))

  pub owns_kept : (ds es : List Decl) (parts : Expressions) → Known ds (reads_in_join parts) → own_widths (ds ++ es) parts ≡ own_widths ds parts
  owns_kept ds es no_parts h = refl
  owns_kept ds es (and_part e more) h =
      ap (λ o. unwrap_or o 0 + own_widths (ds ++ es) more) (own_kept ds es e (known_left ds (reads_in e) (reads_in_join more) h))
      ∙ ap (λ n. unwrap_or (own_width ds e) 0 + n) (owns_kept ds es more (known_right ds (reads_in e) (reads_in_join more) h))

  pub first_kept : (ds es : List Decl) (more : Links) → Known ds (reads_in_links more) → first_width (ds ++ es) more ≡ first_width ds more
  first_kept ds es no_links h = refl
  first_kept ds es (and_link op e more) h =
      ap (λ o. or_width o (first_width (ds ++ es) more)) (own_kept ds es e (known_left ds (reads_in e) (reads_in_links more) h))
      ∙ ap (λ o. or_width (own_width ds e) o) (first_kept ds es more (known_right ds (reads_in e) (reads_in_links more) h))

-- of both sides of a comparison
abbrev sides : List Decl → Expression → Links → ℕ
sides ds e more = unwrap_or (or_width (own_width ds e) (first_width ds more)) 0

pub sides_kept : (ds es : List Decl) (e : Expression) (more : Links) → Known ds (reads_in e ++ reads_in_links more) →
    or_width (own_width (ds ++ es) e) (first_width (ds ++ es) more) ≡ or_width (own_width ds e) (first_width ds more)
sides_kept ds es e more h =
    ap (λ o. or_width o (first_width (ds ++ es) more)) (own_kept ds es e (known_left ds (reads_in e) (reads_in_links more) h))
    ∙ ap (λ o. or_width (own_width ds e) o) (first_kept ds es more (known_right ds (reads_in e) (reads_in_links more) h))

mutual
  pub leaves_kept : (ds es : List Decl) (w : ℕ) (e : Expression) → Known ds (reads_in e) → leaves (ds ++ es) w e ≡ leaves ds w e
  leaves_kept ds es w (number n at) h = refl
  leaves_kept ds es w (whole of) h = refl
  leaves_kept ds es w (slice of high low at) h = refl
  leaves_kept ds es w (bit of place at) h = refl
  leaves_kept ds es w (join parts at) h = ap (λ xs. expect (join parts at) w ∷ xs) (part_leaves_kept ds es parts h)
  leaves_kept ds es w (negation e at) h = leaves_kept ds es w e h
  leaves_kept ds es w (chain e more at) h =
      let first = known_left ds (reads_in e) (reads_in_links more) h in
      let rest = known_right ds (reads_in e) (reads_in_links more) h in
      let side = sides ds e more in
      ap (λ xs. if compares more then expect (chain e more at) w ∷ xs else leaves (ds ++ es) w e ++ leaves_of_links (ds ++ es) w more)
      (ap (λ v. leaves (ds ++ es) (unwrap_or v 0) e ++ leaves_of_links (ds ++ es) (unwrap_or v 0) more) (sides_kept ds es e more h)
      ∙ (ap (λ xs. xs ++ leaves_of_links (ds ++ es) side more) (leaves_kept ds es side e first)
      ∙ ap (λ xs. leaves ds side e ++ xs) (link_leaves_kept ds es side more rest)))
      ∙ ap (λ xs. if compares more then expect (chain e more at) w ∷ (leaves ds side e ++ leaves_of_links ds side more) else xs)
      (ap (λ xs. xs ++ leaves_of_links (ds ++ es) w more) (leaves_kept ds es w e first)
      ∙ ap (λ xs. leaves ds w e ++ xs) (link_leaves_kept ds es w more rest))

  pub part_leaves_kept : (ds es : List Decl) (parts : Expressions) → Known ds (reads_in_join parts) →
      leaves_of_parts (ds ++ es) parts ≡ leaves_of_parts ds parts
  part_leaves_kept ds es no_parts h = refl
  part_leaves_kept ds es (and_part e more) h =
      ap (λ o. leaves (ds ++ es) (unwrap_or o 0) e ++ leaves_of_parts (ds ++ es) more) (own_kept ds es e (known_left ds (reads_in e) (reads_in_join more) h))
      ∙ (ap (λ xs. xs ++ leaves_of_parts (ds ++ es) more)
      (leaves_kept ds es (unwrap_or (own_width ds e) 0) e (known_left ds (reads_in e) (reads_in_join more) h))
      ∙ ap (λ xs. leaves ds (unwrap_or (own_width ds e) 0) e ++ xs) (part_leaves_kept ds es more (known_right ds (reads_in e) (reads_in_join more) h)))

  pub link_leaves_kept : (ds es : List Decl) (w : ℕ) (more : Links) → Known ds (reads_in_links more) →
      leaves_of_links (ds ++ es) w more ≡ leaves_of_links ds w more
  link_leaves_kept ds es w no_links h = refl
  link_leaves_kept ds es w (and_link op e more) h =
      ap (λ xs. xs ++ leaves_of_links (ds ++ es) w more) (leaves_kept ds es w e (known_left ds (reads_in e) (reads_in_links more) h))
      ∙ ap (λ xs. leaves ds w e ++ xs) (link_leaves_kept ds es w more (known_right ds (reads_in e) (reads_in_links more) h))

mutual
  pub formula_kept : (ds es : List Decl) (w : ℕ) (e : Expression) → Known ds (reads_in e) → formula_form (ds ++ es) w e ≡ formula_form ds w e
  formula_kept ds es w (number n at) h = refl
  formula_kept ds es w (whole of) h =
      let known = h (use_of of read) (inl refl) in
      ap (λ n. reading n (declared_width (ds ++ es) of.name - 1) 0 of.at) (var_kept ds es of.name known)
      ∙ ap (λ n. reading (var_number ds of.name) (n - 1) 0 of.at) (width_kept ds es of.name true known)
  formula_kept ds es w (slice of high low at) h = ap (λ n. reading n high low of.at) (var_kept ds es of.name (h (use_of of read) (inl refl)))
  formula_kept ds es w (bit of place at) h = ap (λ n. reading n place place of.at) (var_kept ds es of.name (h (use_of of read) (inl refl)))
  formula_kept ds es w (join parts at) h = ap joined (formulas_kept ds es parts h)
  formula_kept ds es w (negation e at) h = ap inverted (formula_kept ds es w e h)
  formula_kept ds es w (chain e more at) h =
      ap (λ f. if compares more then f else chained (formula_form (ds ++ es) w e) (operations_form (ds ++ es) w more))
      (ap (λ v. compared_with (formula_form (ds ++ es) (unwrap_or v 0) e) (operations_form (ds ++ es) (unwrap_or v 0) more)) (sides_kept ds es e more h)
      ∙ (ap (λ f. compared_with f (operations_form (ds ++ es) (sides ds e more) more)) (formula_kept ds es (sides ds e more) e first)
      ∙ ap (λ f. compared_with (formula_form ds (sides ds e more) e) f) (operations_kept ds es (sides ds e more) more rest)))
      ∙ ap (λ f. if compares more then compared_with (formula_form ds (sides ds e more) e) (operations_form ds (sides ds e more) more) else f)
      (ap (λ f. chained f (operations_form (ds ++ es) w more)) (formula_kept ds es w e first)
      ∙ ap (λ f. chained (formula_form ds w e) f) (operations_kept ds es w more rest))
    where
      first : Known ds (reads_in e)
      first = known_left ds (reads_in e) (reads_in_links more) h

      rest : Known ds (reads_in_links more)
      rest = known_right ds (reads_in e) (reads_in_links more) h

  pub formulas_kept : (ds es : List Decl) (parts : Expressions) → Known ds (reads_in_join parts) → parts_form (ds ++ es) parts ≡ parts_form ds parts
  formulas_kept ds es no_parts h = refl
  formulas_kept ds es (and_part e more) h =
      ap (λ o. typed.and_part (formula_form (ds ++ es) (unwrap_or o 0) e) (parts_form (ds ++ es) more))
      (own_kept ds es e (known_left ds (reads_in e) (reads_in_join more) h))
      ∙ (ap (λ f. typed.and_part f (parts_form (ds ++ es) more)) (formula_kept ds es (unwrap_or (own_width ds e) 0) e (known_left ds (reads_in e)
      (reads_in_join more) h))
      ∙ ap (λ f. typed.and_part (formula_form ds (unwrap_or (own_width ds e) 0) e) f) (formulas_kept ds es more (known_right ds (reads_in e)
      (reads_in_join more) h)))

  pub operations_kept : (ds es : List Decl) (w : ℕ) (more : Links) → Known ds (reads_in_links more) →
      operations_form (ds ++ es) w more ≡ operations_form ds w more
  operations_kept ds es w no_links h = refl
  operations_kept ds es w (and_link op e more) h =
      ap (λ f. typed.and_operation op f (operations_form (ds ++ es) w more)) (formula_kept ds es w e (known_left ds (reads_in e) (reads_in_links more) h))
      ∙ ap (λ f. typed.and_operation op (formula_form ds w e) f) (operations_kept ds es w more (known_right ds (reads_in e) (reads_in_links more) h))

-- what an expression is made of reads no other names

mutual
  pub inside_known : (ds : List Decl) (e x : Expression) → Known ds (reads_in e) → In (inside e) x → Known ds (reads_in x)
  inside_known ds (number n at) x h (inl same) = subst (λ z. Known ds (reads_in z)) same h
  inside_known ds (number n at) x h (inr i) = absurd i
  inside_known ds (whole of) x h (inl same) = subst (λ z. Known ds (reads_in z)) same h
  inside_known ds (whole of) x h (inr i) = absurd i
  inside_known ds (slice of high low at) x h (inl same) = subst (λ z. Known ds (reads_in z)) same h
  inside_known ds (slice of high low at) x h (inr i) = absurd i
  inside_known ds (bit of place at) x h (inl same) = subst (λ z. Known ds (reads_in z)) same h
  inside_known ds (bit of place at) x h (inr i) = absurd i
  inside_known ds (join parts at) x h (inl same) = subst (λ z. Known ds (reads_in z)) same h
  inside_known ds (join parts at) x h (inr i) = inside_parts_known ds parts x h i
  inside_known ds (negation e at) x h (inl same) = subst (λ z. Known ds (reads_in z)) same h
  inside_known ds (negation e at) x h (inr i) = inside_known ds e x h i
  inside_known ds (chain e more at) x h (inl same) = subst (λ z. Known ds (reads_in z)) same h
  inside_known ds (chain e more at) x h (inr i) =
      ⊎_elim (λ j. inside_known ds e x (known_left ds (reads_in e) (reads_in_links more) h) j)
      (λ j. inside_links_known ds more x (known_right ds (reads_in e) (reads_in_links more) h) j) (in_either (inside e) (inside_links more) x i)

  pub inside_parts_known : (ds : List Decl) (parts : Expressions) (x : Expression) → Known ds (reads_in_join parts) → In (inside_parts parts) x →
      Known ds (reads_in x)
  inside_parts_known ds no_parts x h i = absurd i
  inside_parts_known ds (and_part e more) x h i =
      ⊎_elim (λ j. inside_known ds e x (known_left ds (reads_in e) (reads_in_join more) h) j)
      (λ j. inside_parts_known ds more x (known_right ds (reads_in e) (reads_in_join more) h) j) (in_either (inside e) (inside_parts more) x i)

  pub inside_links_known : (ds : List Decl) (more : Links) (x : Expression) → Known ds (reads_in_links more) → In (inside_links more) x → Known ds (reads_in x)
  inside_links_known ds no_links x h i = absurd i
  inside_links_known ds (and_link op e more) x h i =
      ⊎_elim (λ j. inside_known ds e x (known_left ds (reads_in e) (reads_in_links more) h) j)
      (λ j. inside_links_known ds more x (known_right ds (reads_in e) (reads_in_links more) h) j) (in_either (inside e) (inside_links more) x i)

chain_known : (ds : List Decl) (w : ℕ) (e : Expression) (more : Links) (at : Span) (l : Expected) → Known ds (reads_in e ++ reads_in_links more) →
    ((v : ℕ) → In (leaves ds v e) l → Known ds (reads_in l.expression)) → ((v : ℕ) → In (leaves_of_links ds v more) l → Known ds (reads_in l.expression)) →
    (b : Bool) → In (if b then expect (chain e more at) w ∷ (leaves ds (sides ds e more) e ++ leaves_of_links ds (sides ds e more) more)
    else leaves ds w e ++ leaves_of_links ds w more) l → Known ds (reads_in l.expression)
chain_known ds w e more at l h f g true (inl same) = subst (λ (z : Expected). Known ds (reads_in z.expression)) same h
chain_known ds w e more at l h f g true (inr j) =
    ⊎_elim (f (sides ds e more)) (g (sides ds e more)) (in_either (leaves ds (sides ds e more) e) (leaves_of_links ds (sides ds e more) more) l j)
chain_known ds w e more at l h f g false j = ⊎_elim (f w) (g w) (in_either (leaves ds w e) (leaves_of_links ds w more) l j)

mutual
  pub leaf_known : (ds : List Decl) (w : ℕ) (e : Expression) (l : Expected) → Known ds (reads_in e) → In (leaves ds w e) l → Known ds (reads_in l.expression)
  leaf_known ds w (number n at) l h (inl same) = subst (λ (z : Expected). Known ds (reads_in z.expression)) same h
  leaf_known ds w (number n at) l h (inr i) = absurd i
  leaf_known ds w (whole of) l h (inl same) = subst (λ (z : Expected). Known ds (reads_in z.expression)) same h
  leaf_known ds w (whole of) l h (inr i) = absurd i
  leaf_known ds w (slice of high low at) l h (inl same) = subst (λ (z : Expected). Known ds (reads_in z.expression)) same h
  leaf_known ds w (slice of high low at) l h (inr i) = absurd i
  leaf_known ds w (bit of place at) l h (inl same) = subst (λ (z : Expected). Known ds (reads_in z.expression)) same h
  leaf_known ds w (bit of place at) l h (inr i) = absurd i
  leaf_known ds w (join parts at) l h (inl same) = subst (λ (z : Expected). Known ds (reads_in z.expression)) same h
  leaf_known ds w (join parts at) l h (inr i) = part_leaf_known ds parts l h i
  leaf_known ds w (negation e at) l h i = leaf_known ds w e l h i
  leaf_known ds w (chain e more at) l h i =
      let first = known_left ds (reads_in e) (reads_in_links more) h in
      let rest = known_right ds (reads_in e) (reads_in_links more) h in
      chain_known ds w e more at l h (λ v j. leaf_known ds v e l first j) (λ v j. link_leaf_known ds v more l rest j) (compares more) i

  pub part_leaf_known : (ds : List Decl) (parts : Expressions) (l : Expected) → Known ds (reads_in_join parts) → In (leaves_of_parts ds parts) l →
      Known ds (reads_in l.expression)
  part_leaf_known ds no_parts l h i = absurd i
  part_leaf_known ds (and_part e more) l h i =
      ⊎_elim (λ j. leaf_known ds (unwrap_or (own_width ds e) 0) e l (known_left ds (reads_in e) (reads_in_join more) h) j)
      (λ j. part_leaf_known ds more l (known_right ds (reads_in e) (reads_in_join more) h) j)
      (in_either (leaves ds (unwrap_or (own_width ds e) 0) e) (leaves_of_parts ds more) l i)

  pub link_leaf_known : (ds : List Decl) (w : ℕ) (more : Links) (l : Expected) → Known ds (reads_in_links more) → In (leaves_of_links ds w more) l →
      Known ds (reads_in l.expression)
  link_leaf_known ds w no_links l h i = absurd i
  link_leaf_known ds w (and_link op e more) l h i =
      ⊎_elim (λ j. leaf_known ds w e l (known_left ds (reads_in e) (reads_in_links more) h) j)
      (λ j. link_leaf_known ds w more l (known_right ds (reads_in e) (reads_in_links more) h) j) (in_either (leaves ds w e) (leaves_of_links ds w more) l i)
