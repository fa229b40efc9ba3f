-- The typed form of a buffered program, as a whole.
use Rattle.std.proofs.Common.{◌≡◌, ◌≢◌, inl, inr, get_or, ℕ, zero, suc, ◌-◌, ◌<◌, Bool, true, false, List, [], ◌∷◌, ◌++◌, length, Some, refl, sym, ap, ◌∙◌, arith}
use Rattle.std.specs.Prelude.{option_map, unwrap_or, Contains}
use Rattle.std.specs.Str.{bytes_eq}
use Rattle.std.proofs.lemmas.Slice.Eq.{bytes_eq-Decides}
use Rattle.chp_base.specs.declared.channel.Channel.{Channel}
use Rattle.chp_base.specs.declared.channel.Kind.TheVariants as kind
use Rattle.chp_syntax.specs.declared.tree.Decl.{Decl}
use Rattle.chp_syntax.specs.declared.tree.DeclKind.TheVariants as declares
use Rattle.chp_syntax.specs.Trees.{ProgramTree}
use Rattle.width_check.specs.declared.typed.Var.{Var}
use Rattle.width_check.specs.Places.{declaration, declared_width, is_var, uses_in}
use Rattle.width_check.specs.Faults.{naming_faults, HasNone}
use Rattle.width_check.specs.Form.{channels_of, vars_of, channel_number, var_number, process_form, typed_form}
use Rattle.width_check.specs.Processes.{Process, reading, sending, receiving, in_turn, side_by_side, repeating, no_members, and_member, TypedProgram}
use Rattle.width_check.specs.Sound.{is_var_in}
use Rattle.width_check.specs.Typing.{channel_width}
use Rattle.width_check.proofs.Scopes.{not_found}
use Rattle.width_check.proofs.TypedForm.{program_sound}
use Rattle.chp_meaning.specs.Fitting.{In}
use Rattle.slack_buffer.specs.Buffers.{nowhere, copy_name, slot_name, rerouted, passing_on, buffered}
use Rattle.slack_buffer.specs.BufferedTrees.{IsInnerChannel, declared_names, IsFreeNumber, made_decl, buffer_statement, buffered_tree}
use Rattle.slack_buffer.proofs.FreeNames.{apart_kinds}
use Rattle.slack_buffer.proofs.Longer.{Known, found_still, found_behind, channel_kept, channels_longer, vars_longer}
use Rattle.slack_buffer.proofs.Forms.{channel_at, new_channel, new_var, process_kept}

pub same_bytes : (xs : List ℕ) → bytes_eq xs xs ≡ true
same_bytes xs = (bytes_eq-Decides xs xs).1 refl

pub other_bytes : (xs ys : List ℕ) → xs ≢ ys → bytes_eq xs ys ≡ false
other_bytes xs ys ne = by_test (bytes_eq xs ys) refl
  where
    by_test : (b : Bool) → bytes_eq xs ys ≡ b → bytes_eq xs ys ≡ false
    by_test false e = e
    by_test true e = absurd (ne ((bytes_eq-Decides xs ys).0 e))

-- what a buffer is made from
pub record Buffering (p : ProgramTree) (chan : List ℕ) (k : ℕ) : Type 0 where
  pub named : HasNone p naming_faults
  pub inner : IsInnerChannel p.decls chan
  pub free : IsFreeNumber p.decls k

-- the two declarations
abbrev pub new_decls : List Decl → (chan : List ℕ) → ℕ → List Decl
new_decls ds chan k = made_decl declares.Chan (copy_name k) (declared_width ds chan) ∷ made_decl declares.Var (slot_name k) (declared_width ds chan) ∷ []

pub copy_free : (p : ProgramTree) (chan : List ℕ) (k : ℕ) → Buffering p chan k → ¬ Contains (declared_names p.decls) (copy_name k)
copy_free p chan k b c = b.free.free (inl c)

pub slot_free : (p : ProgramTree) (chan : List ℕ) (k : ℕ) → Buffering p chan k → ¬ Contains (declared_names p.decls) (slot_name k)
slot_free p chan k b c = b.free.free (inr c)

pub copy_found : (p : ProgramTree) (chan : List ℕ) (k : ℕ) → Buffering p chan k →
    declaration (p.decls ++ new_decls p.decls chan k) (copy_name k) ≡ Some (made_decl declares.Chan (copy_name k) (declared_width p.decls chan))
copy_found p chan k b =
    found_behind p.decls (new_decls p.decls chan k) (copy_name k) (not_found p.decls (copy_name k) (copy_free p chan k b)) ∙ rw (same_bytes (copy_name k)) refl

pub slot_found : (p : ProgramTree) (chan : List ℕ) (k : ℕ) → Buffering p chan k →
    declaration (p.decls ++ new_decls p.decls chan k) (slot_name k) ≡ Some (made_decl declares.Var (slot_name k) (declared_width p.decls chan))
slot_found p chan k b =
    found_behind p.decls (new_decls p.decls chan k) (slot_name k) (not_found p.decls (slot_name k) (slot_free p chan k b))
    ∙ rw (other_bytes (copy_name k) (slot_name k) (apart_kinds k k), same_bytes (slot_name k)) refl

pub chan_found : (p : ProgramTree) (chan : List ℕ) (k : ℕ) (b : Buffering p chan k) → declaration (p.decls ++ new_decls p.decls chan k) chan ≡ Some b.inner.0
chan_found p chan k b = found_still p.decls (new_decls p.decls chan k) chan b.inner.0 b.inner.1

pub chan_is : (p : ProgramTree) (chan : List ℕ) (k : ℕ) → Buffering p chan k → is_var_in p.decls chan ≡ Some false
chan_is p chan k b = ap (λ o. option_map (λ (d : Decl). is_var d.kind) o) b.inner.1 ∙ ap (λ z. Some (is_var z)) b.inner.2

width_by : (ds : List Decl) (name : List ℕ) (d : Decl) → declaration ds name ≡ Some d → declared_width ds name ≡ d.width
width_by ds name d e = ap (λ o. unwrap_or (option_map (λ (x : Decl). x.width) o) 0) e

pub copy_width : (p : ProgramTree) (chan : List ℕ) (k : ℕ) → Buffering p chan k →
    declared_width (p.decls ++ new_decls p.decls chan k) (copy_name k) ≡ declared_width p.decls chan
copy_width p chan k b = width_by (p.decls ++ new_decls p.decls chan k) (copy_name k) _ (copy_found p chan k b)

pub slot_width : (p : ProgramTree) (chan : List ℕ) (k : ℕ) → Buffering p chan k →
    declared_width (p.decls ++ new_decls p.decls chan k) (slot_name k) ≡ declared_width p.decls chan
slot_width p chan k b = width_by (p.decls ++ new_decls p.decls chan k) (slot_name k) _ (slot_found p chan k b)

pub chan_width : (p : ProgramTree) (chan : List ℕ) (k : ℕ) → Buffering p chan k →
    declared_width (p.decls ++ new_decls p.decls chan k) chan ≡ declared_width p.decls chan
chan_width p chan k b =
    width_by (p.decls ++ new_decls p.decls chan k) chan b.inner.0 (chan_found p chan k b) ∙ sym (width_by p.decls chan b.inner.0 b.inner.1)

-- the names of the body are declared
pub contains_of : {X : Type 0} (xs : List X) (x : X) → In xs x → Contains xs x
contains_of [] x i = absurd i
contains_of (y ∷ ys) x (inl e) = (0, omega arith, e)
contains_of (y ∷ ys) x (inr i) = let c = contains_of ys x i in (suc c.0, omega (arith, c.1), c.2)

pub in_of : {X : Type 0} (xs : List X) (x : X) → Contains xs x → In xs x
in_of {X = X} xs x c = at_place xs c.0 c.1 c.2
  where
    at_place : (ys : List X) (i : ℕ) → i < length ys → get_or ys i x ≡ x → In ys x
    at_place [] i within e = absurd (omega (arith, within))
    at_place (y ∷ ys) zero within e = inl e
    at_place (y ∷ ys) (suc i) within e = inr (at_place ys i (omega (arith, within)) e)

pub body_known : (p : ProgramTree) → HasNone p naming_faults → Known p.decls (uses_in p.body)
body_known p none u i = (program_sound p none).uses u (contains_of (uses_in p.body) u i)

-- the typed form

pub copy_number : (p : ProgramTree) (chan : List ℕ) (k : ℕ) → Buffering p chan k →
    channel_number (p.decls ++ new_decls p.decls chan k) (copy_name k) ≡ length (channels_of p.decls)
copy_number p chan k b =
    let e = new_channel p.decls (new_decls p.decls chan k) (copy_name k) (copy_free p chan k b) in
    let first : channel_number (new_decls p.decls chan k) (copy_name k) ≡ 0 = rw (same_bytes (copy_name k)) refl in
    omega (arith, e, first)

pub slot_number : (p : ProgramTree) (chan : List ℕ) (k : ℕ) → Buffering p chan k →
    var_number (p.decls ++ new_decls p.decls chan k) (slot_name k) ≡ length (vars_of p.decls)
slot_number p chan k b =
    let e = new_var p.decls (new_decls p.decls chan k) (slot_name k) (slot_free p chan k b) in
    let first : var_number (new_decls p.decls chan k) (slot_name k) ≡ 0 = rw (same_bytes (slot_name k)) refl in
    omega (arith, e, first)

pub buffered_form : (p : ProgramTree) (chan : List ℕ) (k : ℕ) → Buffering p chan k →
    typed_form (buffered_tree p chan k) ≡ buffered (typed_form p) (channel_number p.decls chan) k
buffered_form p chan k b = ap (λ cs. made cs (vars_of new) (process_form new (buffered_tree p chan k).body)) (channels_longer p.decls es)
    ∙ (ap (λ w. made (channels_of p.decls ++ record { name = copy_name k; kind = kind.Chan; width = w } ∷ []) (vars_of new)
    (process_form new (buffered_tree p chan k).body))
    (sym (channel_at p.decls chan (chan_is p chan k b)).width)
    ∙ (ap (λ vs. made cs_after vs (process_form new (buffered_tree p chan k).body)) (vars_longer p.decls es)
    ∙ (ap (λ w. made cs_after (vars_of p.decls ++ record { name = slot_name k; width = w; first = 0 } ∷ []) (process_form new (buffered_tree p chan k).body))
    (sym (channel_at p.decls chan (chan_is p chan k b)).width)
    ∙ (ap (λ q. made cs_after vs_after (side_by_side
    (and_member q (and_member (process_form new (buffer_statement chan (copy_name k) (slot_name k))) no_members))))
    (process_kept p.decls es chan (copy_name k) x n (record { chan_in = chan_is p chan k b; chan_number = refl; copy_number = copy_number p chan k b }) p.body
    (body_known p b.named))
    ∙ ap (λ q. made cs_after vs_after (side_by_side (and_member (rerouted x n (process_form p.decls p.body)) (and_member q no_members)))) buffer_is))))
  where
    es : List Decl
    es = new_decls p.decls chan k

    new : List Decl
    new = p.decls ++ es

    x : ℕ
    x = channel_number p.decls chan

    n : ℕ
    n = length (channels_of p.decls)

    made : List Channel → List Var → Process → TypedProgram
    made cs vs q = record { channels = cs; vars = vs; body = q }

    cs_after : List Channel
    cs_after = channels_of p.decls ++ record { name = copy_name k; kind = kind.Chan; width = channel_width (channels_of p.decls) x } ∷ []

    vs_after : List Var
    vs_after = vars_of p.decls ++ record { name = slot_name k; width = channel_width (channels_of p.decls) x; first = 0 } ∷ []

    width_is : declared_width new (slot_name k) ≡ channel_width (channels_of p.decls) x
    width_is = slot_width p chan k b ∙ sym (channel_at p.decls chan (chan_is p chan k b)).width

    turn : (c s o w : ℕ) → Process
    turn c s o w = repeating (in_turn (and_member (receiving c nowhere s nowhere) (and_member (sending o nowhere (reading s (w - 1) 0 nowhere)) no_members)))

    buffer_is : process_form new (buffer_statement chan (copy_name k) (slot_name k)) ≡ passing_on x (channel_width (channels_of p.decls) x) n
        (length (vars_of p.decls))
    buffer_is =
        ap (λ c. turn c (var_number new (slot_name k)) (channel_number new (copy_name k)) (declared_width new (slot_name k)))
        (channel_kept p.decls es chan (channel_at p.decls chan (chan_is p chan k b)).within)
        ∙ (ap (λ s. turn x s (channel_number new (copy_name k)) (declared_width new (slot_name k))) (slot_number p chan k b)
        ∙ (ap (λ o. turn x (length (vars_of p.decls)) o (declared_width new (slot_name k))) (copy_number p chan k b)
        ∙ ap (λ w. turn x (length (vars_of p.decls)) n w) width_is))
