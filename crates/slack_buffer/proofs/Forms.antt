-- The typed form of a program with a buffer is the typed form with a buffer.
use Rattle.std.proofs.Common.{◌≡◌, ◌≢◌, ◌⊎◌, ℕ, suc, ◌+◌, ◌<◌, Bool, true, false, List, [], ◌∷◌, ◌++◌, length, get_or, Some, refl, sym, ap, ◌∙◌, inl, inr, arith}
use Rattle.std.specs.Prelude.{if◌then◌else◌, ◌==◌, Contains}
use Rattle.std.specs.Str.{bytes_eq}
use Rattle.std.proofs.lemmas.Bool.Decides.{eqb_tells}
use Rattle.std.proofs.lemmas.Slice.Eq.{bytes_eq-Decides}
use Rattle.std.proofs.lemmas.List.Sums.{passes_at_first}
use Rattle.chp_base.specs.declared.span.Span.{Span}
use Rattle.chp_base.specs.declared.channel.Channel.{Channel}
use Rattle.chp_syntax.specs.declared.tree.Decl.{Decl}
use Rattle.chp_syntax.specs.declared.tree.Ident.{Ident}
use Rattle.chp_syntax.specs.Trees as plain
use Rattle.chp_syntax.specs.Trees.{Expression, whole, Statement, skips, assigns, sends, receives, follows, besides, selects, repeats, calls, Statements, Arms, no_arms, and_arm, ProgramTree}
use Rattle.width_check.specs.Places.{declaration, declared_width, is_var, sent_on, received_on, written, stored, use_of, reads_in, uses_in, uses_in_each, uses_in_arms}
use Rattle.width_check.specs.Form.{channels_of, vars_of, channel_number, var_number, formula_form, process_form, processes_form, choices_form}
use Rattle.width_check.specs.Processes.{assigning, sending, receiving, in_turn, side_by_side, choosing, repeating, and_member, and_choice}
use Rattle.width_check.specs.Sound.{is_var_in, kind_of}
use Rattle.width_check.specs.Typing.{kind_at, channel_width}
use Rattle.width_check.proofs.Numbering.{one_var, no_var, one_channel, no_channel, var_behind, var_apart, channel_first, channel_behind, channel_apart}
use Rattle.slack_buffer.specs.Buffers.{rerouted, rerouted_each, rerouted_choices}
use Rattle.slack_buffer.specs.BufferedTrees.{declared_names, rerouted_name, rerouted_statement, rerouted_statements, rerouted_arms}
use Rattle.slack_buffer.proofs.Beside.{kept_channel}
use Rattle.slack_buffer.proofs.Longer as longer
use Rattle.slack_buffer.proofs.Longer.{Known, known_left, known_right, width_kept, found_behind, channel_kept, var_kept, formula_kept, channels_longer, vars_longer}

-- the number of a channel's name

pub record IsChannelAt (ds : List Decl) (name : List ℕ) : Type 0 where
  pub within : channel_number ds name < length (channels_of ds)
  pub width : channel_width (channels_of ds) (channel_number ds name) ≡ declared_width ds name
  pub kind_is : (d : Decl) → declaration ds name ≡ Some d → kind_at (channels_of ds) (channel_number ds name) ≡ kind_of d.kind

pub channel_at : (ds : List Decl) (name : List ℕ) → is_var_in ds name ≡ Some false → IsChannelAt ds name
channel_at [] name is = absurd (cc is)
channel_at (d ∷ ds) name is = by_test (bytes_eq d.name.name name) refl (is_var d.kind) refl is (λ rest. channel_at ds name rest)
  where
    by_test : (a : Bool) → bytes_eq d.name.name name ≡ a → (b : Bool) → is_var d.kind ≡ b → is_var_in (d ∷ ds) name ≡ Some false →
        (is_var_in ds name ≡ Some false → IsChannelAt ds name) → IsChannelAt (d ∷ ds) name
    by_test true same false chan so rest =
        let cs = one_channel d d.kind (channels_of ds) chan in
        let n = channel_first d ds name same chan in
        record {
          within = rw (n, cs) (omega arith);
          width = rw (n, cs, same) refl;
          kind_is =
              λ e found. rw (n, cs) (let one : d ≡ e = let x = rw same at found in cc x in ap (λ (x : Decl). kind_of x.kind) one);
        }
    by_test true same true var so rest = absurd (let k = rw (same, var) at so in cc k)
    by_test false other false chan so rest =
        let cs = one_channel d d.kind (channels_of ds) chan in
        let n = channel_behind d ds name other chan in
        let at = rest (rw other at so) in
        record {
          within = rw (n, cs) (let w = at.within in omega arith);
          width = rw (n, cs, other) at.width;
          kind_is =
              λ e found. rw (n, cs) (at.kind_is e (rw other at found));
        }
    by_test false other true var so rest =
        let cs = no_channel d d.kind (channels_of ds) var in
        let n = channel_apart d ds name var in
        let at = rest (rw other at so) in
        record { within = rw (n, cs) at.within; width = rw (n, cs, other) at.width; kind_is = λ e found. rw (n, cs) (at.kind_is e (rw other at found)) }

-- names with one number are one name
one_number : (ds : List Decl) (a b : List ℕ) → channel_number ds a < length (channels_of ds) → channel_number ds a ≡ channel_number ds b → a ≡ b
one_number ds a b within same =
    let first = passes_at_first (λ (c : Channel). bytes_eq c.name a) (channels_of ds) longer.no_channel within in
    let other : bytes_eq (get_or (channels_of ds) (channel_number ds b) longer.no_channel).name b ≡ true =
    passes_at_first (λ (c : Channel). bytes_eq c.name b) (channels_of ds) longer.no_channel (omega (arith, within, same)) in
    let second : bytes_eq (get_or (channels_of ds) (channel_number ds a) longer.no_channel).name b ≡ true =
    ap (λ n. bytes_eq (get_or (channels_of ds) n longer.no_channel).name b) same ∙ other in
    sym ((bytes_eq-Decides (get_or (channels_of ds) (channel_number ds a) longer.no_channel).name a).0 first)
    ∙ (bytes_eq-Decides (get_or (channels_of ds) (channel_number ds a) longer.no_channel).name b).0 second

-- a name that isn't declared before

head_apart : (d : Decl) (ds : List Decl) (name : List ℕ) → ¬ Contains (declared_names (d ∷ ds)) name → bytes_eq d.name.name name ≡ false
head_apart d ds name free = by_test (bytes_eq d.name.name name) refl
  where
    by_test : (b : Bool) → bytes_eq d.name.name name ≡ b → bytes_eq d.name.name name ≡ false
    by_test false e = e
    by_test true e = absurd (free (0, omega arith, (bytes_eq-Decides d.name.name name).0 e))

tail_free : (d : Decl) (ds : List Decl) (name : List ℕ) → ¬ Contains (declared_names (d ∷ ds)) name → ¬ Contains (declared_names ds) name
tail_free d ds name free c = free (suc c.0, omega (arith, c.1), c.2)

pub new_channel : (ds es : List Decl) (name : List ℕ) → ¬ Contains (declared_names ds) name →
    channel_number (ds ++ es) name ≡ length (channels_of ds) + channel_number es name
new_channel [] es name free = omega arith
new_channel (d ∷ ds) es name free = by_kind (is_var d.kind) refl (new_channel ds es name (tail_free d ds name free))
  where
    by_kind : (b : Bool) → is_var d.kind ≡ b → channel_number (ds ++ es) name ≡ length (channels_of ds) + channel_number es name →
        channel_number (d ∷ (ds ++ es)) name ≡ length (channels_of (d ∷ ds)) + channel_number es name
    by_kind false chan rest =
        let n = channel_behind d (ds ++ es) name (head_apart d ds name free) chan in
        let l = ap length (one_channel d d.kind (channels_of ds) chan) in
        omega (arith, n, l, rest)
    by_kind true var rest =
        let n = channel_apart d (ds ++ es) name var in
        let l = ap length (no_channel d d.kind (channels_of ds) var) in
        omega (arith, n, l, rest)

pub new_var : (ds es : List Decl) (name : List ℕ) → ¬ Contains (declared_names ds) name → var_number (ds ++ es) name ≡ length (vars_of ds) + var_number es name
new_var [] es name free = omega arith
new_var (d ∷ ds) es name free = by_kind (is_var d.kind) refl (new_var ds es name (tail_free d ds name free))
  where
    by_kind : (b : Bool) → is_var d.kind ≡ b → var_number (ds ++ es) name ≡ length (vars_of ds) + var_number es name →
        var_number (d ∷ (ds ++ es)) name ≡ length (vars_of (d ∷ ds)) + var_number es name
    by_kind true var rest =
        let n = var_behind d (ds ++ es) name (head_apart d ds name free) var in
        let l = ap length (one_var d d.kind (vars_of ds) var) in
        omega (arith, n, l, rest)
    by_kind false chan rest =
        let n = var_apart d (ds ++ es) name chan in
        let l = ap length (no_var d d.kind (vars_of ds) chan) in
        omega (arith, n, l, rest)

-- statements

pub record Reroutes (ds es : List Decl) (chan copy : List ℕ) (x n : ℕ) : Type 0 where
  pub chan_in : is_var_in ds chan ≡ Some false
  pub chan_number : channel_number ds chan ≡ x
  pub copy_number : channel_number (ds ++ es) copy ≡ n

on_kept : (ds es : List Decl) (chan copy : List ℕ) (x n : ℕ) → Reroutes ds es chan copy x n → (on : Ident) → is_var_in ds on.name ≡ Some false →
    (y : ℕ) (y_at : Span) → receiving (channel_number (ds ++ es) (rerouted_name chan copy on).name) (rerouted_name chan copy on).at y y_at
    ≡ receiving (if channel_number ds on.name == x then n else channel_number ds on.name) on.at y y_at
on_kept ds es chan copy x n r on is y y_at = by_test (bytes_eq on.name chan) refl
  where
    here : channel_number ds on.name < length (channels_of ds)
    here = (channel_at ds on.name is).within

    by_test : (b : Bool) → bytes_eq on.name chan ≡ b →
        (let i : Ident = (if b then record { name = copy; at = on.at } else on) in receiving (channel_number (ds ++ es) i.name) i.at y y_at)
        ≡ receiving (if channel_number ds on.name == x then n else channel_number ds on.name) on.at y y_at
    by_test true e =
        let same : channel_number ds on.name ≡ x = ap (λ z. channel_number ds z) ((bytes_eq-Decides on.name chan).0 e) ∙ r.chan_number in
        ap (λ z. receiving z on.at y y_at) (r.copy_number ∙ sym (moved (channel_number ds on.name) same))
      where
        moved : (k : ℕ) → k ≡ x → (if k == x then n else k) ≡ n
        moved k same = by_tells (eqb_tells k x)
          where
            by_tells : (((k == x) ≡ true) × (k ≡ x)) ⊎ (((k == x) ≡ false) × (k ≢ x)) → (if k == x then n else k) ≡ n
            by_tells (inl h) = ap (λ b. if b then n else k) h.0
            by_tells (inr h) = absurd (h.1 same)
    by_test false e =
        let other : channel_number ds on.name ≢ x = λ same. absurd (cc (
          e,
          (bytes_eq-Decides on.name chan).1 (one_number ds on.name chan here (same ∙ sym r.chan_number)),
        )) in
        ap (λ z. receiving z on.at y y_at) (channel_kept ds es on.name here ∙ sym (kept_channel x n (channel_number ds on.name) other))

mutual
  pub process_kept : (ds es : List Decl) (chan copy : List ℕ) (x n : ℕ) → Reroutes ds es chan copy x n → (s : Statement) → Known ds (uses_in s) →
      process_form (ds ++ es) (rerouted_statement chan copy s) ≡ rerouted x n (process_form ds s)
  process_kept ds es chan copy x n r (skips at) h = refl
  process_kept ds es chan copy x n r (assigns target e) h =
      let known = h (use_of target written) (inl refl) in
      ap (λ z. assigning z target.at (formula_form (ds ++ es) (declared_width (ds ++ es) target.name) e)) (var_kept ds es target.name known)
      ∙ (ap (λ w. assigning (var_number ds target.name) target.at (formula_form (ds ++ es) w e)) (width_kept ds es target.name true known)
      ∙ ap (λ f. assigning (var_number ds target.name) target.at f) (formula_kept ds es (declared_width ds target.name) e (λ u j. h u (inr j))))
  process_kept ds es chan copy x n r (sends on e) h =
      let known = h (use_of on sent_on) (inl refl) in
      ap (λ z. sending z on.at (formula_form (ds ++ es) (declared_width (ds ++ es) on.name) e))
      (channel_kept ds es on.name (channel_at ds on.name known).within)
      ∙ (ap (λ w. sending (channel_number ds on.name) on.at (formula_form (ds ++ es) w e)) (width_kept ds es on.name false known)
      ∙ ap (λ f. sending (channel_number ds on.name) on.at f) (formula_kept ds es (declared_width ds on.name) e (λ u j. h u (inr j))))
  process_kept ds es chan copy x n r (receives on target) h =
      ap (λ z. receiving (channel_number (ds ++ es) (rerouted_name chan copy on).name) (rerouted_name chan copy on).at z target.at)
      (var_kept ds es target.name (h (use_of target stored) (inr (inl refl))))
      ∙ on_kept ds es chan copy x n r on (h (use_of on received_on) (inl refl)) (var_number ds target.name) target.at
  process_kept ds es chan copy x n r (follows members) h = ap in_turn (each_kept ds es chan copy x n r members h)
  process_kept ds es chan copy x n r (besides members) h = ap side_by_side (each_kept ds es chan copy x n r members h)
  process_kept ds es chan copy x n r (selects again arms) h = ap (choosing again) (arms_kept ds es chan copy x n r arms h)
  process_kept ds es chan copy x n r (repeats s) h = ap repeating (process_kept ds es chan copy x n r s h)
  process_kept ds es chan copy x n r (calls of) h = refl

  each_kept : (ds es : List Decl) (chan copy : List ℕ) (x n : ℕ) → Reroutes ds es chan copy x n → (members : Statements) → Known ds (uses_in_each members) →
      processes_form (ds ++ es) (rerouted_statements chan copy members) ≡ rerouted_each x n (processes_form ds members)
  each_kept ds es chan copy x n r plain.no_members h = refl
  each_kept ds es chan copy x n r (plain.and_member s more) h =
      ap (λ p. and_member p (processes_form (ds ++ es) (rerouted_statements chan copy more))) (process_kept ds es chan copy x n r s (known_left ds (uses_in s)
      (uses_in_each more) h))
      ∙ ap (λ ps. and_member (rerouted x n (process_form ds s)) ps) (each_kept ds es chan copy x n r more (known_right ds (uses_in s) (uses_in_each more) h))

  arms_kept : (ds es : List Decl) (chan copy : List ℕ) (x n : ℕ) → Reroutes ds es chan copy x n → (arms : Arms) → Known ds (uses_in_arms arms) →
      choices_form (ds ++ es) (rerouted_arms chan copy arms) ≡ rerouted_choices x n (choices_form ds arms)
  arms_kept ds es chan copy x n r no_arms h = refl
  arms_kept ds es chan copy x n r (and_arm g s more) h =
      let rest = known_right ds (reads_in g) (uses_in s ++ uses_in_arms more) h in
      ap (λ f. and_choice f (process_form (ds ++ es) (rerouted_statement chan copy s)) (choices_form (ds ++ es) (rerouted_arms chan copy more)))
      (formula_kept ds es 1 g (known_left ds (reads_in g) (uses_in s ++ uses_in_arms more) h))
      ∙ (ap (λ p. and_choice (formula_form ds 1 g) p (choices_form (ds ++ es) (rerouted_arms chan copy more)))
      (process_kept ds es chan copy x n r s (known_left ds (uses_in s) (uses_in_arms more) rest))
      ∙ ap (λ cs. and_choice (formula_form ds 1 g) (rerouted x n (process_form ds s)) cs)
      (arms_kept ds es chan copy x n r more (known_right ds (uses_in s) (uses_in_arms more) rest)))
