-- The fault of a rule's line, by what the lines before it have told.
use Rattle.std.proofs.Common.{◌≡◌, ℕ, ◌+◌, ◌*◌, Bool, Option, Some, None, List, [], ◌∷◌, length, refl, ap, ◌∙◌}
use Rattle.std.specs.Prelude.{◌||◌, bytes_eq, is_none, nat_lt, position, sum_by, unwrap_or, if◌then◌else◌}
use Rattle.std.specs.List.{list_any}
use Rattle.chp_base.specs.declared.channel.Channel.{Channel}
use Rattle.prs_file.specs.declared.fault.NetFault.{NetFault}
use Rattle.prs_file.specs.declared.fault.NetFault.TheVariants.{UnknownNode, DoubleRule, DrivenWire, TooMany, OutOfOrder}
use Rattle.prs_file.specs.Indexes.{place_in}
use Rattle.prs_file.specs.NodesTold.{node_forms}
use Rattle.prs_file.specs.Reading.{Signed, Form, form_fault, told_nodes, told_channels, has_reset, last_of, last_place, literals_in, same_place, stands_above}
use Rattle.prs_file.specs.Reading.Form.{rule}
use Rattle.prs_file.specs.RulesTold.{is_driven, literals_allowed, rule_fault_of}
use Rattle.prs_file.proofs.NodesRead.{number_is}

abbrev Node : Type 0
Node = List ℕ × Bool

abbrev number_in : List Node → List ℕ → Option ℕ
number_in nodes name = position (λ (n : Node). bytes_eq n.0 name) nodes

abbrev by_parts : List Node → List Channel → Bool → Option ℕ → ℕ → List (List Signed) → List ℕ → Bool → Option NetFault
by_parts nodes channels reset last count g name up =
    let place = 2 * unwrap_or (number_in nodes name) 0 + (if up then 0 else 1) in
    if is_none (number_in nodes name) || list_any (list_any (λ (s : Signed). is_none (number_in nodes s.name))) g then Some UnknownNode else
    (if is_driven reset channels name then Some DrivenWire else
    (if same_place last place then Some DoubleRule else
    (if stands_above last place then Some OutOfOrder else (if nat_lt (literals_allowed reset) (count + sum_by (λ (t : List Signed). length t) g) then Some
    TooMany else None))))

term_unknown : (names : List (List ℕ)) (first : List Bool) (t : List Signed) → length first ≡ length names →
    list_any (λ (s : Signed). is_none (number_in (told_nodes (node_forms names first)) s.name)) t ≡ list_any (λ (s : Signed). is_none (place_in names s.name)) t
term_unknown names first [] count = refl
term_unknown names first (s ∷ t) count = rw (number_is names first s.name count, term_unknown names first t count) refl

terms_unknown : (names : List (List ℕ)) (first : List Bool) (g : List (List Signed)) → length first ≡ length names →
    list_any (list_any (λ (s : Signed). is_none (number_in (told_nodes (node_forms names first)) s.name))) g ≡
    list_any (list_any (λ (s : Signed). is_none (place_in names s.name))) g
terms_unknown names first [] count = refl
terms_unknown names first (t ∷ g) count = rw (term_unknown names first t count, terms_unknown names first g count) refl

pub rule_fault_is : (before : List Form) (names : List (List ℕ)) (first : List Bool) (g : List (List Signed)) (name : List ℕ) (up : Bool) →
    length first ≡ length names → told_nodes before ≡ told_nodes (node_forms names first) →
    form_fault before (rule g name up) ≡ rule_fault_of names (told_channels before) (has_reset before) (last_place before (last_of before))
    (sum_by literals_in before) g name up
rule_fault_is before names first g name up count told =
    let parts : form_fault before (rule g name up) ≡ by_parts (told_nodes (node_forms names first)) (told_channels before) (has_reset before)
    (last_place before (last_of before)) (sum_by literals_in before) g name up =
    ap (λ nodes. by_parts nodes (told_channels before) (has_reset before) (last_place before (last_of before)) (sum_by literals_in before) g name up) told
    in
    parts ∙ rw (number_is names first name count, terms_unknown names first g count) refl
