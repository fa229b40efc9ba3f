-- Lines taken one after another, and a refusal behind them.
use Rattle.std.proofs.Common.{◌≡◌, ℕ, ◌+◌, ◌<◌, true, false, None, Some, List, [], ◌∷◌, ◌++◌, length, refl, ap, sym, ◌∙◌, arith}
use Rattle.std.specs.List.{flat_map}
use Rattle.std.proofs.lemmas.List.{append_assoc, append-nil, take-append-drop}
use Rattle.std.proofs.lemmas.List.Concat.{flat_map-append}
use Rattle.prs_file.specs.declared.fault.NetFault.{NetFault}
use Rattle.prs_file.specs.declared.fault.NetFault.TheVariants.{BadLine}
use Rattle.prs_file.specs.Lines.{line_length, first_line, behind_line}
use Rattle.prs_file.specs.Openings.{text_behind}
use Rattle.prs_file.specs.Reading.{Form, IsForm, Says, form_spelling, may_stand, may_end, form_fault, AllStand, IsTaken, BadVersionAt, RefusedBehind, IsRefused}
use Rattle.prs_file.specs.Reading.LineFault.{bad_line, of_form}
use Rattle.prs_file.specs.Reading.RefusedBehind.{at_line, at_end}

pub line_and_rest : (text : List ℕ) → text ≡ first_line text ++ behind_line text
line_and_rest text = sym (take-append-drop (line_length text) text)

pub stand_push : (start more : List Form) (f : Form) → AllStand start more → IsForm f → may_stand (start ++ more) f ≡ true →
    form_fault (start ++ more) f ≡ None → AllStand start (more ++ f ∷ [])
stand_push start [] f all form stands good =
    (form, rw append-nil at stands, rw append-nil at good, tt)
stand_push start (g ∷ more) f all form stands good =
    let e : (start ++ g ∷ []) ++ more ≡ start ++ (g ∷ more) = append_assoc start (g ∷ []) more in
    (all.0, all.1, all.2, stand_push (start ++ g ∷ []) more f all.3 form (ap (λ b. may_stand b f) e ∙ stands) (ap (λ b. form_fault b f) e ∙ good))

pub told_more : (before : List Form) (f : Form) (rest line behind : List ℕ) → rest ≡ line ++ behind → line ≡ form_spelling f →
    text_behind before rest ≡ text_behind (before ++ f ∷ []) behind
told_more before f rest line behind whole says =
    ap (λ r. flat_map form_spelling before ++ r) (whole ∙ ap (λ l. l ++ behind) says)
    ∙ sym (append_assoc (flat_map form_spelling before) (form_spelling f) behind)
    ∙ ap (λ t. t ++ behind) (ap (λ x. flat_map form_spelling before ++ x) (sym (append-nil (form_spelling f)))
    ∙ sym (flat_map-append form_spelling before (f ∷ [])))

-- one line more
pub taken_more : (text : List ℕ) (before : List Form) (f : Form) (rest line behind : List ℕ) → IsTaken text before rest → rest ≡ line ++ behind →
    line ≡ form_spelling f → IsForm f → may_stand before f ≡ true → form_fault before f ≡ None → IsTaken text (before ++ f ∷ []) behind
taken_more text before f rest line behind taken whole says form stands good = record {
  told = taken.told ∙ told_more before f rest line behind whole says;
  stand = stand_push [] before f taken.stand form stands good;
}

pub refused_here : (text : List ℕ) (before : List Form) (rest : List ℕ) (fault : NetFault) (line : ℕ) → IsTaken text before rest →
    RefusedBehind before rest fault → line ≡ length before + 1 → IsRefused text fault line
refused_here text before rest fault line taken here number =
    record { before = before; rest = rest; taken = taken; here = here; number = number }

-- a line of no form that may stand here, or the end where the text may not end
pub not_here : (before : List Form) (rest : List ℕ) → ¬ BadVersionAt before (first_line rest) →
    ((f : Form) → Says (first_line rest) f → may_stand before f ≡ false) → may_end before ≡ false → RefusedBehind before rest BadLine
not_here before [] known none ends = at_end refl ends
not_here before (b ∷ rest) known none ends = at_line (omega arith) (bad_line known none)

-- a fault of a line that may stand here
pub fault_here : (before : List Form) (f : Form) (rest : List ℕ) (fault : NetFault) → 0 < length rest → first_line rest ≡ form_spelling f → IsForm f →
    may_stand before f ≡ true → form_fault before f ≡ Some fault → RefusedBehind before rest fault
fault_here before f rest fault some says form stands bad =
    at_line some (of_form f (record { form = form; spelled = says }) stands bad)
