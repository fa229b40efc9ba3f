-- Programs that are the same but for places have typed forms that are.
--
-- ds: declarations; us: the same without places.
use Rattle.std.proofs.Common.{◌≡◌, ℕ, Bool, true, false, List, [], ◌∷◌, map, refl, sym, ap, ◌∙◌}
use Rattle.std.specs.Prelude.{if◌then◌else◌, unwrap_or, option_map, Option, Some, None}
use Rattle.std.specs.List.{position_or_len}
use Rattle.std.specs.Str.{bytes_eq}
use Rattle.chp_base.specs.declared.channel.Channel.{Channel}
use Rattle.chp_syntax.specs.declared.tree.Decl.{Decl}
use Rattle.chp_syntax.specs.declared.tree.DeclKind.{DeclKind}
use Rattle.chp_syntax.specs.declared.tree.DeclKind.TheVariants as declares
use Rattle.chp_syntax.specs.Trees as plain
use Rattle.chp_syntax.specs.Trees.{Expression, number, whole, slice, bit, join, negation, chain, Expressions, no_parts, and_part, Links, no_links, and_link, Statement, skips, assigns, sends, receives, follows, besides, selects, repeats, calls, Statements, Arms, no_arms, and_arm, ProgramTree}
use Rattle.width_check.specs.declared.typed.Var.{Var}
use Rattle.width_check.specs.Places.{declaration, declared_width, compares, or_width, own_width, own_widths, first_width}
use Rattle.width_check.specs.Form.{with_channel, channels_of, with_var, vars_of, channel_number, var_number, compared_with, formula_form, parts_form, operations_form, process_form, processes_form, choices_form, typed_form}
use Rattle.width_check.specs.Processes as typed
use Rattle.width_check.specs.Processes.{Formula, Operations, no_operations, and_operation, chained}
use Rattle.chp_cli.specs.Unplaced.{unplaced_expression, unplaced_parts, unplaced_links, unplaced_statement, unplaced_members, unplaced_arms, unplaced_decl, unplaced, AreLaidOutAlike}
use Rattle.chp_cli.specs.UnplacedForms.{unplaced_formula, unplaced_formulas, unplaced_operations, unplaced_process, unplaced_processes, unplaced_choices, unplaced_form, AreFormedAlike}

-- declarations

with_channel_same : (d : Decl) (k : DeclKind) (cs : List Channel) → with_channel (unplaced_decl d) k cs ≡ with_channel d k cs
with_channel_same d declares.In cs = refl
with_channel_same d declares.Out cs = refl
with_channel_same d declares.Chan cs = refl
with_channel_same d declares.Var cs = refl

pub channels_same : (ds : List Decl) → channels_of (map unplaced_decl ds) ≡ channels_of ds
channels_same [] = refl
channels_same (d ∷ ds) = with_channel_same d d.kind (channels_of (map unplaced_decl ds)) ∙ ap (with_channel d d.kind) (channels_same ds)

with_var_same : (d : Decl) (k : DeclKind) (vs : List Var) → with_var (unplaced_decl d) k vs ≡ with_var d k vs
with_var_same d declares.In vs = refl
with_var_same d declares.Out vs = refl
with_var_same d declares.Chan vs = refl
with_var_same d declares.Var vs = refl

pub vars_same : (ds : List Decl) → vars_of (map unplaced_decl ds) ≡ vars_of ds
vars_same [] = refl
vars_same (d ∷ ds) = with_var_same d d.kind (vars_of (map unplaced_decl ds)) ∙ ap (with_var d d.kind) (vars_same ds)

pub declaration_same : (ds : List Decl) (name : List ℕ) → declaration (map unplaced_decl ds) name ≡ option_map unplaced_decl (declaration ds name)
declaration_same [] name = refl
declaration_same (d ∷ ds) name = by (bytes_eq d.name.name name) refl (declaration_same ds name)
  where
    by : (b : Bool) → bytes_eq d.name.name name ≡ b → declaration (map unplaced_decl ds) name ≡ option_map unplaced_decl (declaration ds name)
        → declaration (map unplaced_decl (d ∷ ds)) name ≡ option_map unplaced_decl (declaration (d ∷ ds) name)
    by true e rest = rw e refl
    by false e rest = rw e rest

width_of_option : (o : Option Decl) → option_map (λ (d : Decl). d.width) (option_map unplaced_decl o) ≡ option_map (λ (d : Decl). d.width) o
width_of_option None = refl
width_of_option (Some d) = refl

pub declared_same : (ds : List Decl) (name : List ℕ) → declared_width (map unplaced_decl ds) name ≡ declared_width ds name
declared_same ds name =
    ap (λ (w : Option ℕ). unwrap_or w 0) (ap (option_map (λ (d : Decl). d.width)) (declaration_same ds name) ∙ width_of_option (declaration ds name))

pub compares_same : (more : Links) → compares (unplaced_links more) ≡ compares more
compares_same no_links = refl
compares_same (and_link op e more) = refl

module _ (ds : List Decl) where
  abbrev us : List Decl
  us = map unplaced_decl ds

  -- widths

  mutual
    pub own_same : (e : Expression) → own_width us (unplaced_expression e) ≡ own_width ds e
    own_same (number n at) = refl
    own_same (whole of) = ap (λ w. Some w) (declared_same ds of.name)
    own_same (slice of high low at) = refl
    own_same (bit of place at) = refl
    own_same (join parts at) = ap (λ w. Some w) (owns_same parts)
    own_same (negation e at) = own_same e
    own_same (chain e more at) =
        let b = compares_same more in
        let first = own_same e in
        let rest = first_same more in
        rw (b, first, rest) refl

    pub owns_same : (parts : Expressions) → own_widths us (unplaced_parts parts) ≡ own_widths ds parts
    owns_same no_parts = refl
    owns_same (and_part e more) =
        let first = own_same e in
        let rest = owns_same more in
        rw (first, rest) refl

    pub first_same : (more : Links) → first_width us (unplaced_links more) ≡ first_width ds more
    first_same no_links = refl
    first_same (and_link op e more) =
        let first = own_same e in
        let rest = first_same more in
        rw (first, rest) refl

  pub side_same : (e : Expression) (more : Links) → or_width (own_width us (unplaced_expression e)) (first_width us (unplaced_links more))
      ≡ or_width (own_width ds e) (first_width ds more)
  side_same e more = ap (λ w. or_width w (first_width us (unplaced_links more))) (own_same e) ∙ ap (or_width (own_width ds e)) (first_same more)

  -- numbers

  var_same : (name : List ℕ) → var_number us name ≡ var_number ds name
  var_same name = ap (position_or_len (λ (v : Var). bytes_eq v.name name)) (vars_same ds)

  channel_same : (name : List ℕ) → channel_number us name ≡ channel_number ds name
  channel_same name = ap (position_or_len (λ (c : Channel). bytes_eq c.name name)) (channels_same ds)

  -- expressions

  compared_same : (e : Formula) (more : Operations) → compared_with (unplaced_formula e) (unplaced_operations more) ≡ unplaced_formula (compared_with e more)
  compared_same e no_operations = refl
  compared_same e (and_operation op f more) = refl

  abbrev chain_form : List Decl → (w v : ℕ) → Bool → Expression → Links → Formula
  chain_form decls w v b e more =
      if b then compared_with (formula_form decls v e) (operations_form decls v more) else chained (formula_form decls w e) (operations_form decls w more)

  chain_same : (w v : ℕ) (b : Bool) (e : Expression) (more : Links)
      → ((v : ℕ) → formula_form us v (unplaced_expression e) ≡ unplaced_formula (formula_form ds v e))
      → ((v : ℕ) → operations_form us v (unplaced_links more) ≡ unplaced_operations (operations_form ds v more))
      → chain_form us w v b (unplaced_expression e) (unplaced_links more) ≡ unplaced_formula (chain_form ds w v b e more)
  chain_same w v true e more first rest =
      let here = first v in
      let there = rest v in
      rw (here, there) (compared_same (formula_form ds v e) (operations_form ds v more))
  chain_same w v false e more first rest =
      let here = first w in
      let there = rest w in
      rw (here, there) refl

  mutual
    pub formula_same : (w : ℕ) (e : Expression) → formula_form us w (unplaced_expression e) ≡ unplaced_formula (formula_form ds w e)
    formula_same w (number n at) = refl
    formula_same w (whole of) =
        let x = var_same of.name in
        let width = declared_same ds of.name in
        rw (x, width) refl
    formula_same w (slice of high low at) = let x = var_same of.name in rw x refl
    formula_same w (bit of place at) = let x = var_same of.name in rw x refl
    formula_same w (join parts at) = ap typed.joined (parts_same parts)
    formula_same w (negation e at) = ap typed.inverted (formula_same w e)
    formula_same w (chain e more at) =
        ap (λ b. chain_form us w (unwrap_or (or_width (own_width us (unplaced_expression e)) (first_width us (unplaced_links more))) 0) b
        (unplaced_expression e) (unplaced_links more)) (compares_same more)
        ∙ (ap (λ v. chain_form us w (unwrap_or v 0) (compares more) (unplaced_expression e) (unplaced_links more)) (side_same e more)
        ∙ chain_same w (unwrap_or (or_width (own_width ds e) (first_width ds more)) 0) (compares more) e more (λ v. formula_same v e)
        (λ v. operations_same v more))

    pub parts_same : (parts : Expressions) → parts_form us (unplaced_parts parts) ≡ unplaced_formulas (parts_form ds parts)
    parts_same no_parts = refl
    parts_same (and_part e more) =
        let w = own_same e in
        let rest = parts_same more in
        rw (w, rest) (ap (λ f. typed.and_part f (unplaced_formulas (parts_form ds more))) (formula_same (unwrap_or (own_width ds e) 0) e))

    pub operations_same : (w : ℕ) (more : Links) → operations_form us w (unplaced_links more) ≡ unplaced_operations (operations_form ds w more)
    operations_same w no_links = refl
    operations_same w (and_link op e more) =
        let first = formula_same w e in
        let rest = operations_same w more in
        rw (first, rest) refl

  -- statements

  at_declared : (name : List ℕ) (e : Expression) → formula_form us (declared_width us name) (unplaced_expression e)
      ≡ unplaced_formula (formula_form ds (declared_width ds name) e)
  at_declared name e = ap (λ w. formula_form us w (unplaced_expression e)) (declared_same ds name) ∙ formula_same (declared_width ds name) e

  mutual
    pub process_same : (s : Statement) → process_form us (unplaced_statement s) ≡ unplaced_process (process_form ds s)
    process_same (skips at) = refl
    process_same (assigns target e) =
        let x = var_same target.name in
        let value = at_declared target.name e in
        rw (x, value) refl
    process_same (sends chan e) =
        let k = channel_same chan.name in
        let value = at_declared chan.name e in
        rw (k, value) refl
    process_same (receives chan target) =
        let k = channel_same chan.name in
        let x = var_same target.name in
        rw (k, x) refl
    process_same (follows members) = ap typed.in_turn (processes_same members)
    process_same (besides members) = ap typed.side_by_side (processes_same members)
    process_same (selects again arms) = ap (typed.choosing again) (choices_same arms)
    process_same (repeats s) = ap typed.repeating (process_same s)
    process_same (calls of) = refl

    pub processes_same : (members : Statements) → processes_form us (unplaced_members members) ≡ unplaced_processes (processes_form ds members)
    processes_same plain.no_members = refl
    processes_same (plain.and_member s more) =
        let first = process_same s in
        let rest = processes_same more in
        rw (first, rest) refl

    pub choices_same : (arms : Arms) → choices_form us (unplaced_arms arms) ≡ unplaced_choices (choices_form ds arms)
    choices_same no_arms = refl
    choices_same (and_arm g s more) =
        let guard = formula_same 1 g in
        let first = process_same s in
        let rest = choices_same more in
        rw (guard, first, rest) refl

form_same : (p : ProgramTree) → typed_form (unplaced p) ≡ unplaced_form (typed_form p)
form_same p =
    let cs = channels_same p.decls in
    let vs = vars_same p.decls in
    let body = process_same p.decls p.body in
    rw (cs, vs, body) refl

pub formed_alike : (p q : ProgramTree) → AreLaidOutAlike p q → AreFormedAlike (typed_form p) (typed_form q)
formed_alike p q alike = sym (form_same p) ∙ (ap typed_form alike ∙ form_same q)
