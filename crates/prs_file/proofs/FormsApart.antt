-- The text of a line tells what the line says.
use Rattle.std.proofs.Common.{◌≡◌, ◌≢◌, ℕ, ◌+◌, ◌<◌, ◌≤◌, inl, inr, Bool, true, false, List, [], ◌∷◌, ◌++◌, length, get_or, drop, refl, ap, sym, ◌∙◌, arith, length-append}
use Rattle.std.specs.Prelude.{◌⊎◌, All, codes, decimal, if◌then◌else◌}
use Rattle.std.specs.List.{flat_map}
use Rattle.std.specs.Str.Parse.{digits_value}
use Rattle.std.proofs.lemmas.Fmt.{decimal_is_IsNumeral}
use Rattle.std.proofs.lemmas.List.{append_cancel_left, append_cancel_right}
use Rattle.std.proofs.lemmas.List.Elements.{All-head, All-tail}
use Rattle.chp_base.specs.Names.{IsNodeName}
use Rattle.chp_base.specs.declared.channel.Channel.{Channel}
use Rattle.chp_base.specs.declared.channel.Kind.{Kind}
use Rattle.chp_base.specs.declared.channel.Kind.TheVariants.{In, Out, Chan}
use Rattle.prs_file.specs.declared.forms.Lead.{Lead}
use Rattle.prs_file.specs.declared.forms.Lead.TheVariants.{Rule, And, Or}
use Rattle.prs_file.specs.declared.rule.Led.{Led}
use Rattle.prs_file.specs.Channels.{kind_by_letter, line_of, word_behind}
use Rattle.prs_file.specs.Lines.{first_line, behind_line}
use Rattle.prs_file.specs.Reading.{Form, IsForm, IsChannelForm, IsTermForm, Signed, form_spelling}
use Rattle.prs_file.specs.Reading.Form.{head, node, channel, rule}
use Rattle.prs_file.specs.RuleForms.{rule_line_of, IsRuleForm, tells_high, word_in, behind_word}
use Rattle.prs_file.specs.Spelling.{head_spelling, node_spelling, channel_spelling, kind_spelling, value_spelling, lead_spelling, end_spelling}
use Rattle.prs_file.specs.Terms.{put_by, terms_of, term_leds, leds_by}
use Rattle.prs_file.proofs.ChannelLines.{kind_is, behind_kind, word_is as word_of_channel}
use Rattle.prs_file.proofs.FormLines.{cut_at, line_of_form}
use Rattle.prs_file.proofs.HeadLines.{head_is}
use Rattle.prs_file.proofs.NodeLines.{node_text}
use Rattle.prs_file.proofs.RuleEnds.{end_word}
use Rattle.prs_file.proofs.RuleLines.{body, more_is, starts_space, same_led, same_sign, sign_no_end, high_is, word_is, rest_is}
use Rattle.prs_file.proofs.TermLines.{line_told, leds_form}

-- the head, and a node

same_head : (v w : ℕ) → v < 10 → w < 10 → head_spelling v ≡ head_spelling w → v ≡ w
same_head v w below within e =
    let f : 48 + v ≡ 48 + w = ap (λ t. get_or t 4 0) (sym (head_is v below) ∙ e ∙ head_is w within) in
    omega (arith, f)

same_node : (n m : List ℕ) (v w : Bool) → node_spelling n v ≡ node_spelling m w → (n ≡ m) × (v ≡ w)
same_node n m v w e =
    let named : n ≡ m = sym (node_text (node_spelling n v) n v refl) ∙ node_text (node_spelling n v) m w e in
    (named, by_value v w (append_cancel_left n _ _ (ap (drop 5) (e ∙ ap (λ k. node_spelling k w) (sym named)))))
  where
    by_value : (v w : Bool) → value_spelling v ++ [] ≡ value_spelling w ++ [] → v ≡ w
    by_value true true f = refl
    by_value false false f = refl
    by_value true false f = let g : 49 ≡ 48 = ap (λ t. get_or t 1 0) f in absurd (omega (arith, g))
    by_value false true f = let g : 48 ≡ 49 = ap (λ t. get_or t 1 0) f in absurd (omega (arith, g))

-- a channel

same_width : (v w : ℕ) → v ≤ 64 → w ≤ 64 → decimal v ≡ decimal w → v ≡ w
same_width v w small few e =
    sym (decimal_is_IsNumeral v (omega arith)).1 ∙ ap (digits_value 10) e ∙ (decimal_is_IsNumeral w (omega arith)).1

same_channel : (c d : Channel) → IsChannelForm c → IsChannelForm d → channel_spelling c ≡ channel_spelling d → c ≡ d
same_channel c d one two e =
    let kind : c.kind ≡ d.kind = sym (kind_is c.kind c.name c.width) ∙ ap kind_by_letter e ∙ kind_is d.kind d.name d.width in
    let name : c.name ≡ d.name = sym (word_of_channel c.kind c.name c.width one.name.parts) ∙ ap (word_behind c.kind) e
    ∙ ap (λ k. word_behind k (line_of d.kind d.name d.width)) kind ∙ word_of_channel d.kind d.name d.width two.name.parts in
    let tails : c.name ++ (32 ∷ (decimal c.width ++ (10 ∷ []))) ≡ d.name ++ (32 ∷ (decimal d.width ++ (10 ∷ []))) =
    sym (behind_kind c.kind c.name c.width) ∙ ap (λ k. drop (length (kind_spelling k)) (line_of c.kind c.name c.width)) kind
    ∙ ap (drop (length (kind_spelling d.kind))) e ∙ behind_kind d.kind d.name d.width in
    let ends : decimal c.width ++ (10 ∷ []) ≡ decimal d.width ++ (10 ∷ []) =
    ap (drop 1) (append_cancel_left d.name _ _ (ap (λ n. n ++ (32 ∷ (decimal c.width ++ (10 ∷ [])))) (sym name) ∙ tails)) in
    let width = same_width c.width d.width one.most two.most (append_cancel_right (decimal c.width) (decimal d.width) (10 ∷ []) ends) in
    λ i. record { name = name i; kind = kind i; width = width i }

-- a rule, by its literals

abbrev Further : Led → Type 0
Further k = k.lead ≢ Rule

abbrev Named : Led → Type 0
Named k = IsNodeName k.name

same_end : (n m : List ℕ) (u v : Bool) → end_spelling n u ≡ end_spelling m v → (n ≡ m) × (u ≡ v)
same_end n m u v e =
    let named : n ≡ m = sym (end_word (end_spelling n u) n u refl) ∙ end_word (end_spelling n u) m v e in
    (named, by_direction u v (append_cancel_left n _ _ (ap (drop 4) (e ∙ ap (λ k. end_spelling k v) (sym named)))))
  where
    by_direction : (u v : Bool) → (if u then codes "+\n" else codes "-\n") ++ [] ≡ (if v then codes "+\n" else codes "-\n") ++ [] → u ≡ v
    by_direction true true f = refl
    by_direction false false f = refl
    by_direction true false f = let g : 43 ≡ 45 = ap (λ t. get_or t 0 0) f in absurd (omega (arith, g))
    by_direction false true f = let g : 45 ≡ 43 = ap (λ t. get_or t 0 0) f in absurd (omega (arith, g))

-- a literal, and what stands behind it
same_body : (l k : Led) (ms ks : List Led) (n m : List ℕ) (u v : Bool) → All Further ms → All Further ks → Named l → Named k →
    body l ++ rule_line_of ms n u ≡ body k ++ rule_line_of ks m v → (l.high ≡ k.high) × (l.name ≡ k.name) × (rule_line_of ms n u ≡ rule_line_of ks m v)
same_body l k ms ks n m u v f g a b e =
    let sl = starts_space ms n u f in
    let sk = starts_space ks m v g in
    let both : body l ++ (32 ∷ sl.0) ≡ body k ++ (32 ∷ sk.0) = ap (λ t. body l ++ t) (sym sl.1) ∙ e ∙ ap (λ t. body k ++ t) sk.1 in (
      sym (high_is l.high l.name (32 ∷ sl.0) a.first) ∙ ap tells_high both ∙ high_is k.high k.name (32 ∷ sk.0) b.first,
      sym (word_is l.high l.name sl.0 a) ∙ ap word_in both ∙ word_is k.high k.name sk.0 b,
      sl.1 ∙ sym (rest_is l.high l.name sl.0 a) ∙ ap behind_word both ∙ rest_is k.high k.name sk.0 b ∙ sym sk.1,
    )

same_rest : (ms ks : List Led) (n m : List ℕ) (u v : Bool) → All Further ms → All Further ks → All Named ms → All Named ks →
    rule_line_of ms n u ≡ rule_line_of ks m v → (ms ≡ ks) × (n ≡ m) × (u ≡ v)
same_rest [] [] n m u v f g a b e = let ends = same_end n m u v e in (refl, ends.0, ends.1)
same_rest [] (k ∷ ks) n m u v f g a b e =
    absurd (sign_no_end k.lead (body k ++ rule_line_of ks m v) n u (All-head Further k ks g) (sym (more_is k ks m v) ∙ sym e))
same_rest (l ∷ ms) [] n m u v f g a b e =
    absurd (sign_no_end l.lead (body l ++ rule_line_of ms n u) m v (All-head Further l ms f) (sym (more_is l ms n u) ∙ e))
same_rest (l ∷ ms) (k ∷ ks) n m u v f g a b e =
    let signs = same_sign l.lead k.lead (body l ++ rule_line_of ms n u) (body k ++ rule_line_of ks m v) (All-head Further l ms f) (All-head Further k ks g)
    (sym (more_is l ms n u) ∙ e ∙ more_is k ks m v) in
    let parts = same_body l k ms ks n m u v (All-tail Further l ms f) (All-tail Further k ks g) (All-head Named l ms a) (All-head Named k ks b) signs.1 in
    let rest = same_rest ms ks n m u v (All-tail Further l ms f) (All-tail Further k ks g) (All-tail Named l ms a) (All-tail Named k ks b) parts.2 in
    (ap (λ x. x ∷ ms) (same_led l k signs.0 parts.0 parts.1) ∙ ap (λ xs. k ∷ xs) rest.0, rest.1, rest.2)

same_line : (ls ks : List Led) (n m : List ℕ) (u v : Bool) → IsRuleForm ls n → IsRuleForm ks m → rule_line_of ls n u ≡ rule_line_of ks m v →
    (ls ≡ ks) × (n ≡ m) × (u ≡ v)
same_line [] ks n m u v one two e = absurd one.leads
same_line (l ∷ ms) [] n m u v one two e = absurd two.leads
same_line (l ∷ ms) (k ∷ ks) n m u v one two e =
    let at : body l ++ rule_line_of ms n u ≡ body k ++ rule_line_of ks m v =
    append_cancel_left (codes "rule ") _ _ (sym (more_is l ms n u ∙ ap (λ j. lead_spelling j ++ (body l ++ rule_line_of ms n u)) one.leads.0) ∙ e
    ∙ more_is k ks m v ∙ ap (λ j. lead_spelling j ++ (body k ++ rule_line_of ks m v)) two.leads.0) in
    let parts = same_body l k ms ks n m u v one.leads.1 two.leads.1 (All-head Named l ms one.names) (All-head Named k ks two.names) at in
    let rest = same_rest ms ks n m u v one.leads.1 two.leads.1 (All-tail Named l ms one.names) (All-tail Named k ks two.names) parts.2 in
    (ap (λ x. x ∷ ms) (same_led l k (one.leads.0 ∙ sym two.leads.0) parts.0 parts.1) ∙ ap (λ xs. k ∷ xs) rest.0, rest.1, rest.2)

-- the terms of the literals of terms

term_back : (lead : Lead) (t : List Signed) (ts : List (List Signed)) → 0 < length t → All IsTermForm ts → terms_of (leds_by Or ts) ≡ ts →
    terms_of (term_leds lead t ++ leds_by Or ts) ≡ t ∷ ts
term_back lead [] ts some all back = absurd (omega arith)
term_back lead (s ∷ []) [] some all back = refl
term_back lead (s ∷ []) ([] ∷ us) some all back = absurd (omega (arith, (All-head IsTermForm [] us all).some))
term_back lead (s ∷ []) ((v ∷ vs) ∷ us) some all back = ap (λ g. (s ∷ []) ∷ g) back
term_back lead (s ∷ r ∷ rs) ts some all back = ap (put_by And s) (term_back And (r ∷ rs) ts (omega arith) all back)

terms_back : (lead : Lead) (g : List (List Signed)) → All IsTermForm g → terms_of (leds_by lead g) ≡ g
terms_back lead [] all = refl
terms_back lead (t ∷ ts) all = term_back lead t ts (All-head IsTermForm t ts all).some (All-tail IsTermForm t ts all)
    (terms_back Or ts (All-tail IsTermForm t ts all))

same_rule : (g h : List (List Signed)) (n m : List ℕ) (u v : Bool) → IsForm (rule g n u) → IsForm (rule h m v) →
    form_spelling (rule g n u) ≡ form_spelling (rule h m v) → rule g n u ≡ rule h m v
same_rule [] h n m u v one two e = absurd (omega (arith, one.0))
same_rule (t ∷ ts) [] n m u v one two e = absurd (omega (arith, two.0))
same_rule (t ∷ ts) (s ∷ ss) n m u v one two e =
    let same = same_line (leds_by Rule (t ∷ ts)) (leds_by Rule (s ∷ ss)) n m u v (leds_form t ts n u one) (leds_form s ss m v two)
    (sym (line_told t ts n u one.1) ∙ e ∙ line_told s ss m v two.1) in
    let guard : t ∷ ts ≡ s ∷ ss = sym (terms_back Rule (t ∷ ts) one.1) ∙ ap terms_of same.0 ∙ terms_back Rule (s ∷ ss) two.1 in
    λ i. rule (guard i) (same.1 i) (same.2 i)

-- the first byte tells which line it is

abbrev kind_byte : Kind → ℕ
kind_byte In = 105
kind_byte Out = 111
kind_byte Chan = 99

kind_begins : (k : Kind) (rest : List ℕ) → get_or (kind_spelling k ++ rest) 0 0 ≡ kind_byte k
kind_begins In rest = refl
kind_begins Out rest = refl
kind_begins Chan rest = refl

no_kind : (k : Kind) (b : ℕ) → kind_byte k ≡ b → 111 < b ⊎ (b ≡ 110) → ⊥
no_kind In b is (inl above) = omega (arith, is)
no_kind In b is (inr at) = omega (arith, is, at)
no_kind Out b is (inl above) = omega (arith, is)
no_kind Out b is (inr at) = omega (arith, is, at)
no_kind Chan b is (inl above) = omega (arith, is)
no_kind Chan b is (inr at) = omega (arith, is, at)

apart : (f g : Form) (b c : ℕ) → form_spelling f ≡ form_spelling g → get_or (form_spelling f) 0 0 ≡ b → get_or (form_spelling g) 0 0 ≡ c → b ≡ c
apart f g b c e one two = sym one ∙ ap (λ t. get_or t 0 0) e ∙ two

pub same_form : (f g : Form) → IsForm f → IsForm g → form_spelling f ≡ form_spelling g → f ≡ g
same_form (head v) (head w) one two e = ap head (same_head v w (omega (arith, one.1)) (omega (arith, two.1)) e)
same_form (node n v) (node m w) one two e = let same = same_node n m v w e in λ i. node (same.0 i) (same.1 i)
same_form (channel c) (channel d) one two e = ap channel (same_channel c d one two e)
same_form (rule g n u) (rule h m v) one two e = same_rule g h n m u v one two e
same_form (head v) (node m w) one two e = let f : 112 ≡ 110 = apart (head v) (node m w) 112 110 e refl refl in absurd (omega (arith, f))
same_form (head v) (rule h m w) one two e = let f : 112 ≡ 114 = apart (head v) (rule h m w) 112 114 e refl refl in absurd (omega (arith, f))
same_form (node n v) (head w) one two e = let f : 110 ≡ 112 = apart (node n v) (head w) 110 112 e refl refl in absurd (omega (arith, f))
same_form (node n v) (rule h m w) one two e = let f : 110 ≡ 114 = apart (node n v) (rule h m w) 110 114 e refl refl in absurd (omega (arith, f))
same_form (rule g n u) (head w) one two e = let f : 114 ≡ 112 = apart (rule g n u) (head w) 114 112 e refl refl in absurd (omega (arith, f))
same_form (rule g n u) (node m w) one two e = let f : 114 ≡ 110 = apart (rule g n u) (node m w) 114 110 e refl refl in absurd (omega (arith, f))
same_form (channel c) (head w) one two e =
    absurd (no_kind c.kind 112 (apart (channel c) (head w) (kind_byte c.kind) 112 e (kind_begins c.kind _) refl) (inl (omega arith)))
same_form (channel c) (node m w) one two e =
    absurd (no_kind c.kind 110 (apart (channel c) (node m w) (kind_byte c.kind) 110 e (kind_begins c.kind _) refl) (inr refl))
same_form (channel c) (rule h m w) one two e =
    absurd (no_kind c.kind 114 (apart (channel c) (rule h m w) (kind_byte c.kind) 114 e (kind_begins c.kind _) refl) (inl (omega arith)))
same_form (head v) (channel d) one two e =
    absurd (no_kind d.kind 112 (sym (apart (head v) (channel d) 112 (kind_byte d.kind) e refl (kind_begins d.kind _))) (inl (omega arith)))
same_form (node n v) (channel d) one two e =
    absurd (no_kind d.kind 110 (sym (apart (node n v) (channel d) 110 (kind_byte d.kind) e refl (kind_begins d.kind _))) (inr refl))
same_form (rule g n u) (channel d) one two e =
    absurd (no_kind d.kind 114 (sym (apart (rule g n u) (channel d) 114 (kind_byte d.kind) e refl (kind_begins d.kind _))) (inl (omega arith)))

-- lines one after another

pub some_line : (f : Form) → IsForm f → 0 < length (form_spelling f)
some_line f form = let line = line_of_form f form in omega (arith, ap length line.is, length-append line.body (10 ∷ []))

pub same_forms : (fs gs : List Form) → All IsForm fs → All IsForm gs → flat_map form_spelling fs ≡ flat_map form_spelling gs → fs ≡ gs
same_forms [] [] one two e = refl
same_forms [] (g ∷ gs) one two e = absurd (omega (
  arith,
  ap length e,
  length-append (form_spelling g) (flat_map form_spelling gs),
  some_line g (All-head IsForm g gs two),
))
same_forms (f ∷ fs) [] one two e = absurd (omega (
  arith,
  ap length e,
  length-append (form_spelling f) (flat_map form_spelling fs),
  some_line f (All-head IsForm f fs one),
))
same_forms (f ∷ fs) (g ∷ gs) one two e =
    let cut_f = cut_at (form_spelling f) (flat_map form_spelling fs) (line_of_form f (All-head IsForm f fs one)) in
    let cut_g = cut_at (form_spelling g) (flat_map form_spelling gs) (line_of_form g (All-head IsForm g gs two)) in
    ap (λ x. x ∷ fs) (same_form f g (All-head IsForm f fs one) (All-head IsForm g gs two) (sym cut_f.0 ∙ ap first_line e ∙ cut_g.0))
    ∙ ap (λ xs. g ∷ xs) (same_forms fs gs (All-tail IsForm f fs one) (All-tail IsForm g gs two) (sym cut_f.1 ∙ ap behind_line e ∙ cut_g.1))
