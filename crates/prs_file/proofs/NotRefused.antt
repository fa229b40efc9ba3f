-- Lines that may stand without a fault, up to an end that may be one, are no refused text.
use Rattle.std.proofs.Common.{◌≡◌, ◌≢◌, ℕ, zero, suc, ◌+◌, ◌≤◌, inl, inr, true, None, Some, List, [], ◌∷◌, ◌++◌, length, refl, ap, sym, ◌∙◌, subst, arith, length-append}
use Rattle.std.specs.Prelude.{◌⊎◌, All, codes}
use Rattle.std.specs.List.{flat_map}
use Rattle.std.specs.Str.Parse.{digits_value}
use Rattle.std.proofs.lemmas.List.{append_assoc, append-nil, append_cancel_left, append_cancel_right}
use Rattle.std.proofs.lemmas.List.Elements.{All-head, All-tail}
use Rattle.chp_base.specs.Names.{digit}
use Rattle.prs_file.specs.declared.fault.NetFault.{NetFault}
use Rattle.prs_file.specs.Lines.{first_line, behind_line}
use Rattle.prs_file.specs.Reading.{Form, IsForm, Says, form_spelling, may_stand, may_end, form_fault, AllStand, IsTaken, IsBadVersion, BadVersionAt, LineFault, RefusedBehind, IsRefused}
use Rattle.prs_file.specs.Reading.Form.{head, node, channel, rule}
use Rattle.prs_file.specs.Reading.LineFault.{bad_version, bad_line, of_form}
use Rattle.prs_file.specs.Reading.RefusedBehind.{at_line, at_end}
use Rattle.prs_file.specs.Spelling.{head_spelling}
use Rattle.prs_file.proofs.FormLines.{cut_at, line_of_form}
use Rattle.prs_file.proofs.FormsApart.{same_form, some_line}
use Rattle.prs_file.proofs.HeadLines.{head_is}

-- the head of a known version is none of an unknown one
known_digits : (v : ℕ) (digits : List ℕ) → 1 ≤ v → v ≤ 2 → digits ≡ (48 + v) ∷ [] → digits_value 10 digits ≢ 1 → digits_value 10 digits ≢ 2 → ⊥
known_digits zero digits some most is one two = omega arith
known_digits (suc zero) digits some most is one two = one (ap (digits_value 10) is)
known_digits (suc (suc zero)) digits some most is one two = two (ap (digits_value 10) is)
known_digits (suc (suc (suc v))) digits some most is one two = omega arith

no_bad_head : (v : ℕ) (digits : List ℕ) → 1 ≤ v → v ≤ 2 → IsBadVersion (head_spelling v) digits → ⊥
no_bad_head v digits some most bad = by_end bad.spelled
  where
    line : head_spelling v ≡ codes "prs " ++ (48 + v) ∷ 10 ∷ []
    line = head_is v (omega arith)

    by_end : (head_spelling v ≡ codes "prs " ++ digits) ⊎ (head_spelling v ≡ codes "prs " ++ digits ++ codes "\n") → ⊥
    by_end (inl e) =
        let is : digits ≡ (48 + v) ∷ 10 ∷ [] = append_cancel_left (codes "prs ") digits ((48 + v) ∷ 10 ∷ []) (sym e ∙ line) in
        let last : digit 10 ≡ true = All-head (λ b. digit b ≡ true) 10 []
        (All-tail (λ b. digit b ≡ true) (48 + v) (10 ∷ []) (subst (All (λ b. digit b ≡ true)) is bad.numeral)) in
        absurd (cc last)
    by_end (inr e) =
        let is : digits ++ 10 ∷ [] ≡ ((48 + v) ∷ []) ++ 10 ∷ [] = append_cancel_left (codes "prs ") (digits ++ 10 ∷ []) ((48 + v) ∷ 10 ∷ []) (sym e ∙ line) in
        known_digits v digits some most (append_cancel_right digits ((48 + v) ∷ []) (10 ∷ []) is) bad.not_one bad.not_two

-- only a head begins a file
begins : (f : Form) → may_stand [] f ≡ true → (v : ℕ) × (f ≡ head v)
begins (head v) stands = (v, refl)
begins (node n b) stands = absurd (cc stands)
begins (channel c) stands = absurd (cc stands)
begins (rule g n u) stands = absurd (cc stands)

version_in' : (f : Form) (v : ℕ) → f ≡ head v → IsForm f → (1 ≤ v) × (v ≤ 2)
version_in' f v is form = subst IsForm is form

-- a line that says something and may stand is none of an unknown version
no_bad_form : (before : List Form) (line : List ℕ) (h : Form) → BadVersionAt before line → Says line h → may_stand before h ≡ true → ⊥
no_bad_form before line h at says stands =
    let first = begins h (ap (λ s. may_stand s h) (sym at.0) ∙ stands) in
    let known = version_in' h first.0 first.1 says.form in
    no_bad_head first.0 at.1 known.0 known.1 (subst (λ l. IsBadVersion l at.1) (says.spelled ∙ ap form_spelling first.1) at.2)

good_line : (start : List Form) (f : Form) (line : List ℕ) (fault : NetFault) → IsForm f → may_stand start f ≡ true → form_fault start f ≡ None →
    line ≡ form_spelling f → LineFault start line fault → ⊥
good_line start f line fault form stands good says (bad_version at) =
    let first = begins f (ap (λ s. may_stand s f) (sym at.0) ∙ stands) in
    let known = version_in' f first.0 first.1 form in
    no_bad_head first.0 at.1 known.0 known.1 (subst (λ l. IsBadVersion l at.1) (says ∙ ap form_spelling first.1) at.2)
good_line start f line fault form stands good says (bad_line known none) = absurd (cc (stands, none f (record { form = form; spelled = says })))
good_line start f line fault form stands good says (of_form g said may bad) =
    let same : g ≡ f = same_form g f said.form form (sym said.spelled ∙ says) in
    absurd (cc (good, ap (form_fault start) (sym same) ∙ bad))

no_refusal : (start F G : List Form) (rest : List ℕ) (fault : NetFault) → AllStand start F → AllStand start G →
    flat_map form_spelling F ≡ flat_map form_spelling G ++ rest → may_end (start ++ F) ≡ true → RefusedBehind (start ++ G) rest fault → ⊥
no_refusal start [] [] rest fault all other e ends (at_line some bad) = omega (arith, some, ap length e)
no_refusal start [] [] rest fault all other e ends (at_end over stops) = absurd (cc (ends, stops))
no_refusal start (f ∷ F) [] rest fault all other e ends (at_line some bad) =
    let cut = cut_at (form_spelling f) (flat_map form_spelling F) (line_of_form f all.0) in
    good_line start f (first_line rest) fault all.0 all.1 all.2 (ap first_line (sym e) ∙ cut.0)
    (subst (λ s. LineFault s (first_line rest) fault) (append-nil start) bad)
no_refusal start (f ∷ F) [] rest fault all other e ends (at_end over stops) =
    omega (arith, ap length (e ∙ over), length-append (form_spelling f) (flat_map form_spelling F), some_line f all.0)
no_refusal start [] (g ∷ G) rest fault all other e ends refused =
    omega (
      arith,
      ap length e,
      length-append (form_spelling g ++ flat_map form_spelling G) rest,
      length-append (form_spelling g) (flat_map form_spelling G),
      some_line g other.0,
    )
no_refusal start (f ∷ F) (g ∷ G) rest fault all other e ends refused =
    let cut_f = cut_at (form_spelling f) (flat_map form_spelling F) (line_of_form f all.0) in
    let cut_g = cut_at (form_spelling g) (flat_map form_spelling G ++ rest) (line_of_form g other.0) in
    let e' = e ∙ append_assoc (form_spelling g) (flat_map form_spelling G) rest in
    let same : g ≡ f = same_form g f other.0 all.0 (sym cut_g.0 ∙ ap first_line (sym e') ∙ cut_f.0) in
    let rest_same : flat_map form_spelling F ≡ flat_map form_spelling G ++ rest = sym cut_f.1 ∙ ap behind_line e' ∙ cut_g.1 in
    no_refusal (start ++ f ∷ []) F G rest fault all.3 (subst (λ h. AllStand (start ++ h ∷ []) G) same other.3) rest_same
    (ap may_end (append_assoc start (f ∷ []) F) ∙ ends)
    (subst (λ s. RefusedBehind s rest fault) (sym (append_assoc start (f ∷ []) G ∙ ap (λ h. start ++ (h ∷ G)) (sym same))) refused)

pub not_refused : (text : List ℕ) (F : List Form) (fault : NetFault) (line : ℕ) → IsTaken text F [] → may_end F ≡ true → IsRefused text fault line → ⊥
not_refused text F fault line taken ends refused =
    no_refusal [] F refused.before refused.rest fault taken.stand refused.taken.stand (sym (append-nil (flat_map form_spelling F)) ∙ sym taken.told
    ∙ refused.taken.told) ends refused.here

-- a text is refused for one cause at one line

same_cause : (before : List Form) (line : List ℕ) (f g : NetFault) → LineFault before line f → LineFault before line g → f ≡ g
same_cause before line f g (bad_version one) (bad_version two) = refl
same_cause before line f g (bad_version one) (bad_line known none) = absurd (known one)
same_cause before line f g (bad_version one) (of_form h says stands bad) = absurd (no_bad_form before line h one says stands)
same_cause before line f g (bad_line known none) (bad_version two) = absurd (known two)
same_cause before line f g (bad_line known none) (bad_line well over) = refl
same_cause before line f g (bad_line known none) (of_form h says stands bad) = absurd (cc (stands, none h says))
same_cause before line f g (of_form h says stands bad) (bad_version two) = absurd (no_bad_form before line h two says stands)
same_cause before line f g (of_form h says stands bad) (bad_line known none) = absurd (cc (stands, none h says))
same_cause before line f g (of_form h says stands bad) (of_form k said may wrong) =
    let same : h ≡ k = same_form h k says.form said.form (sym says.spelled ∙ said.spelled) in
    let both : Some f ≡ Some g = sym bad ∙ ap (form_fault before) same ∙ wrong in
    cc both

same_here : (before : List Form) (rest : List ℕ) (f g : NetFault) → RefusedBehind before rest f → RefusedBehind before rest g → f ≡ g
same_here before rest f g (at_line some one) (at_line more two) = same_cause before (first_line rest) f g one two
same_here before rest f g (at_line some one) (at_end over stops) = absurd (omega (arith, some, ap length over))
same_here before rest f g (at_end over stops) (at_line some one) = absurd (omega (arith, some, ap length over))
same_here before rest f g (at_end over stops) (at_end past halts) = refl

-- not where a good line stands
no_refusal_here : (start : List Form) (f : Form) (tail rest : List ℕ) (fault : NetFault) → IsForm f → may_stand start f ≡ true → form_fault start f ≡ None →
    rest ≡ form_spelling f ++ tail → RefusedBehind start rest fault → ⊥
no_refusal_here start f tail rest fault form stands good e (at_line some bad) =
    good_line start f (first_line rest) fault form stands good (ap first_line e ∙ (cut_at (form_spelling f) tail (line_of_form f form)).0) bad
no_refusal_here start f tail rest fault form stands good e (at_end over stops) =
    omega (arith, ap length e, ap length over, length-append (form_spelling f) tail, some_line f form)

same_refusal : (start F G : List Form) (r s : List ℕ) (f g : NetFault) → AllStand start F → AllStand start G →
    flat_map form_spelling F ++ r ≡ flat_map form_spelling G ++ s → RefusedBehind (start ++ F) r f → RefusedBehind (start ++ G) s g →
    (f ≡ g) × (length F ≡ length G)
same_refusal start [] [] r s f g one two e a b = (same_here (start ++ []) r f g a (subst (λ t. RefusedBehind (start ++ []) t g) (sym e) b), refl)
same_refusal start (h ∷ F) [] r s f g one two e a b =
    absurd (no_refusal_here start h (flat_map form_spelling F ++ r) s g one.0 one.1 one.2 (sym e ∙ append_assoc (form_spelling h) (flat_map form_spelling F) r)
    (subst (λ t. RefusedBehind t s g) (append-nil start) b))
same_refusal start [] (k ∷ G) r s f g one two e a b =
    absurd (no_refusal_here start k (flat_map form_spelling G ++ s) r f two.0 two.1 two.2 (e ∙ append_assoc (form_spelling k) (flat_map form_spelling G) s)
    (subst (λ t. RefusedBehind t r f) (append-nil start) a))
same_refusal start (h ∷ F) (k ∷ G) r s f g one two e a b =
    let cut_h = cut_at (form_spelling h) (flat_map form_spelling F ++ r) (line_of_form h one.0) in
    let cut_k = cut_at (form_spelling k) (flat_map form_spelling G ++ s) (line_of_form k two.0) in
    let e' = sym (append_assoc (form_spelling h) (flat_map form_spelling F) r) ∙ e ∙ append_assoc (form_spelling k) (flat_map form_spelling G) s in
    let same : k ≡ h = same_form k h two.0 one.0 (sym cut_k.0 ∙ sym (ap first_line e') ∙ cut_h.0) in
    let rest = same_refusal (start ++ h ∷ []) F G r s f g one.3 (subst (λ x. AllStand (start ++ x ∷ []) G) same two.3) (sym cut_h.1 ∙ ap behind_line e'
    ∙ cut_k.1)
    (subst (λ t. RefusedBehind t r f) (sym (append_assoc start (h ∷ []) F)) a)
    (subst (λ t. RefusedBehind t s g) (sym (append_assoc start (h ∷ []) G ∙ ap (λ x. start ++ (x ∷ G)) (sym same))) b) in
    (rest.0, omega (arith, rest.1))

pub one_cause : (text : List ℕ) (f g : NetFault) (l m : ℕ) → IsRefused text f l → IsRefused text g m → (f ≡ g) × (l ≡ m)
one_cause text f g l m one two =
    let same = same_refusal [] one.before two.before one.rest two.rest f g one.taken.stand two.taken.stand (sym one.taken.told ∙ two.taken.told) one.here
    two.here in
    (same.0, omega (arith, same.1, one.number, two.number))
