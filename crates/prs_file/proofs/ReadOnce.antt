-- What the laws say of a text that was read.
use Rattle.std.proofs.Common.{◌≡◌, ℕ, List, Result, Ok, Err, sym, ◌∙◌}
use Rattle.std.specs.Prelude.{IfOk, IfErr}
use Rattle.prs_core.specs.Nets.{NetValue, IsNet}
use Rattle.prs_file.specs.declared.fault.NetReadError.{NetReadError}
use Rattle.prs_file.specs.declared.fault.NetReadError.TheVariants.{Refused, NoMemory}
use Rattle.prs_file.specs.Openings.{OfRefusal}
use Rattle.prs_file.specs.Reading.{IsRefused}
use Rattle.prs_file.specs.Spelling.{NetText}
use Rattle.prs_file.proofs.NetsApart.{one_spelled}
use Rattle.prs_file.proofs.NetTaken.{never_refused}

pub only_one : (text : List ℕ) (r : Result NetValue NetReadError) → IfOk r IsNet → IfOk r (NetText text) →
    IfOk r (λ net. (other : NetValue) → IsNet other → NetText text other → other ≡ net)
only_one text (Ok net) is spelled = λ other too says. one_spelled other net too is (sym says ∙ spelled)
only_one text (Err e) is spelled = tt

pub no_other : (text : List ℕ) (r : Result NetValue NetReadError) → IfErr r (OfRefusal (IsRefused text)) →
    IfErr r (OfRefusal (λ _fault _line. (other : NetValue) → IsNet other → ¬ NetText text other))
no_other text (Ok net) refused = tt
no_other text (Err (Refused fault line)) refused = λ other is spelled. never_refused other text fault line is spelled refused
no_other text (Err (NoMemory e)) refused = tt
