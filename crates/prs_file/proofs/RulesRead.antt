-- The lines of rules one after another.
use Rattle.std.proofs.Common.{◌≡◌, ℕ, ◌+◌, ◌*◌, ◌<◌, Bool, false, Option, None, Some, List, [], ◌∷◌, ◌++◌, length, refl, ap, ◌∙◌, arith, length-append}
use Rattle.std.specs.Prelude.{◌==◌, bytes_eq, position, unwrap_or, if◌then◌else◌, sum_by}
use Rattle.std.proofs.lemmas.Bool.{lt-ltb, ne_eqb}
use Rattle.std.proofs.lemmas.List.{append-nil}
use Rattle.std.proofs.lemmas.List.Elements.{filter_map-append}
use Rattle.std.proofs.lemmas.List.Sums.{sum_by_push}
use Rattle.chp_base.specs.declared.channel.Channel.{Channel}
use Rattle.prs_file.specs.declared.fault.NetFault.{NetFault}
use Rattle.prs_file.specs.declared.fault.NetFault.TheVariants.{BadLine}
use Rattle.prs_file.specs.Lines.{first_line}
use Rattle.prs_file.specs.NodesTold.{node_forms}
use Rattle.prs_file.specs.Reading.{Form, Says, IsForm, Signed, form_spelling, form_fault, last_of, last_place, may_stand, node_in, channel_in, told_nodes, told_channels, has_reset, literals_in, IsRefused}
use Rattle.prs_file.specs.Reading.Form.{head, node, channel, rule}
use Rattle.prs_file.specs.Reading.LineFault.{bad_line}
use Rattle.prs_file.specs.Reading.RefusedBehind.{at_line}
use Rattle.prs_file.specs.RulesTold.{rule_place, rule_fault_of, is_rule, IsRulesRead}
use Rattle.prs_file.proofs.NodesRead.{number_is, last_push}
use Rattle.prs_file.proofs.RuleFaults.{rule_fault_is}
use Rattle.prs_file.proofs.Taking.{taken_more, refused_here, fault_here}

reset_push : (before : List Form) (f : Form) → 0 < length before → has_reset (before ++ f ∷ []) ≡ has_reset before
reset_push [] f some = absurd (omega arith)
reset_push (head v ∷ rest) f some = refl
reset_push (node name first ∷ rest) f some = refl
reset_push (channel c ∷ rest) f some = refl
reset_push (rule g name up ∷ rest) f some = refl

fault_told : (before : List Form) (version : ℕ) (names : List (List ℕ)) (first : List Bool) (channels : List Channel) (place : Option ℕ) (count : ℕ)
    (text rest : List ℕ) (g : List (List Signed)) (name : List ℕ) (up : Bool) → length first ≡ length names →
    IsRulesRead before version names first channels place count text rest →
    form_fault before (rule g name up) ≡ rule_fault_of names channels (version == 2) place count g name up
fault_told before version names first channels place count text rest g name up same read =
    rule_fault_is before names first g name up same read.nodes
    ∙ ap (λ cs. rule_fault_of names cs (has_reset before) (last_place before (last_of before)) (sum_by literals_in before) g name up) read.channels_told
    ∙ ap (λ r. rule_fault_of names channels r (last_place before (last_of before)) (sum_by literals_in before) g name up) read.reset
    ∙ ap (λ p. rule_fault_of names channels (version == 2) p (sum_by literals_in before) g name up) read.last
    ∙ ap (λ n. rule_fault_of names channels (version == 2) place n g name up) read.literals

pub rule_refused : (before : List Form) (version : ℕ) (names : List (List ℕ)) (first : List Bool) (channels : List Channel) (place : Option ℕ) (count : ℕ)
    (text rest : List ℕ) (g : List (List Signed)) (name : List ℕ) (up : Bool) (fault : NetFault) (line : ℕ) → length first ≡ length names →
    IsRulesRead before version names first channels place count text rest → 0 < length rest → first_line rest ≡ form_spelling (rule g name up) →
    IsForm (rule g name up) → rule_fault_of names channels (version == 2) place count g name up ≡ Some fault → line ≡ length before + 1 →
    IsRefused text fault line
rule_refused before version names first channels place count text rest g name up fault line same read some says form bad number =
    refused_here text before rest fault line read.taken (fault_here before (rule g name up) rest fault some says form (read.late g name up)
    (fault_told before version names first channels place count text rest g name up same read ∙ bad)) number

-- a line that is no rule's
pub line_refused : (before : List Form) (version : ℕ) (names : List (List ℕ)) (first : List Bool) (channels : List Channel) (place : Option ℕ) (count : ℕ)
    (text rest : List ℕ) (line : ℕ) → IsRulesRead before version names first channels place count text rest → 0 < length rest →
    ((g : List (List Signed)) (name : List ℕ) (up : Bool) → IsForm (rule g name up) → first_line rest ≡ form_spelling (rule g name up) → ⊥) →
    line ≡ length before + 1 → IsRefused text BadLine line
line_refused before version names first channels place count text rest line read some over number =
    refused_here text before rest BadLine line read.taken (at_line some (bad_line (λ at. absurd (omega (arith, ap length at.0, read.long))) none)) number
  where
    none : (f : Form) → Says (first_line rest) f → may_stand before f ≡ false
    none (head v) says = read.early (head v) says refl
    none (node name first) says = read.early (node name first) says refl
    none (channel c) says = read.early (channel c) says refl
    none (rule g name up) says = absurd (over g name up says.form says.spelled)

pub rules_more : (before : List Form) (version : ℕ) (names : List (List ℕ)) (first : List Bool) (channels : List Channel) (place : Option ℕ) (count : ℕ)
    (text rest behind : List ℕ) (g : List (List Signed)) (name : List ℕ) (up : Bool) → length first ≡ length names →
    IsRulesRead before version names first channels place count text rest → first_line rest ≡ form_spelling (rule g name up) →
    rest ≡ first_line rest ++ behind → IsForm (rule g name up) → rule_fault_of names channels (version == 2) place count g name up ≡ None →
    IsRulesRead (before ++ rule g name up ∷ []) version names first channels (Some (rule_place names name up)) (count + literals_in (rule g name up)) text
    behind
rules_more before version names first channels place count text rest behind g name up same read says whole form good =
    record {
      taken = taken_more text before f rest (first_line rest) behind read.taken whole says form (read.late g name up)
          (fault_told before version names first channels place count text rest g name up same read ∙ good);
      long = long;
      nodes = nodes;
      channels_told = filter_map-append channel_in before (f ∷ []) ∙ append-nil (told_channels before) ∙ read.channels_told;
      reset = reset_push before f (omega (arith, read.long)) ∙ read.reset;
      last = rw (last_push before f) (ap (λ o. Some (2 * unwrap_or o 0 + (if up then 0 else 1)))
          (ap (λ ns. position (λ (n : List ℕ × Bool). bytes_eq n.0 name) ns) nodes ∙ number_is names first name same));
      literals = sum_by_push literals_in before f ∙ ap (λ n. n + literals_in f) read.literals;
      early = early;
      late = λ h n u. rw (last_push before f, past) refl;
      ends = rw (last_push before f, lt-ltb 2 (length (before ++ f ∷ [])) long) refl;
    }
  where
    f : Form
    f = rule g name up

    long : 2 < length (before ++ rule g name up ∷ [])
    long = omega (arith, length-append before (rule g name up ∷ []), read.long)

    past : (length (before ++ rule g name up ∷ []) == 2) ≡ false
    past = ne_eqb _ 2 (λ e. absurd (omega (arith, long)))

    nodes : told_nodes (before ++ rule g name up ∷ []) ≡ told_nodes (node_forms names first)
    nodes = filter_map-append node_in before (rule g name up ∷ []) ∙ append-nil (told_nodes before) ∙ read.nodes

    early : (k : Form) → Says (first_line behind) k → is_rule k ≡ false → may_stand (before ++ rule g name up ∷ []) k ≡ false
    early (head v) says is = rw (last_push before (rule g name up)) refl
    early (node n v) says is = rw (last_push before (rule g name up)) refl
    early (channel c) says is = rw (last_push before (rule g name up)) refl
    early (rule h n u) says is = absurd (cc is)
