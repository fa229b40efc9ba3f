-- Why a rule is refused, part by part.
use Rattle.std.proofs.Common.{◌≡◌, ℕ, ◌+◌, ◌≤◌, Bool, true, false, cond, Option, None, Some, List, length, get_or, refl, ap, sym, ◌∙◌, arith}
use Rattle.std.specs.Prelude.{◌||◌, is_none, nat_lt, sum_by}
use Rattle.std.specs.List.{list_any}
use Rattle.std.proofs.lemmas.Bool.{or_left, or_right, or_from, ltb-false, eqb-false}
use Rattle.chp_base.specs.declared.channel.Channel.{Channel}
use Rattle.prs_file.specs.declared.fault.NetFault.TheVariants.{UnknownNode, DoubleRule, DrivenWire, TooMany, OutOfOrder}
use Rattle.prs_file.specs.declared.rule.Led.{Led}
use Rattle.prs_file.specs.DrivenTold.{AreDriven}
use Rattle.prs_file.specs.Indexes.{place_in}
use Rattle.prs_file.specs.Reading.{Signed, same_place, stands_above}
use Rattle.prs_file.specs.RulesTold.{is_driven, rule_place, rule_fault_of, literals_allowed}
use Rattle.prs_file.specs.Tables.{place_at, known_fault_of, IsBeyond}
use Rattle.prs_file.specs.Terms.{terms_of, rule_unknown}
use Rattle.prs_file.proofs.GuardsNamed.{is_lost}
use Rattle.prs_file.proofs.TermCounts.{any_terms, count_terms}
use Rattle.prs_file.proofs.Wirings.{place_found}

unknown_is : (names : List (List ℕ)) (ls : List Led) (name : List ℕ) →
    rule_unknown names (terms_of ls) name ≡ (is_none (place_in names name) || list_any (is_lost names) ls)
unknown_is names ls name = ap (λ b. is_none (place_in names name) || b) (any_terms (λ (s : Signed). is_none (place_in names s.name)) ls)

pub unknown_node : (names : List (List ℕ)) (channels : List Channel) (reset : Bool) (last : Option ℕ) (count : ℕ) (ls : List Led) (name : List ℕ) (up : Bool) →
    place_in names name ≡ None → rule_fault_of names channels reset last count (terms_of ls) name up ≡ Some UnknownNode
unknown_node names channels reset last count ls name up none =
    let is : rule_unknown names (terms_of ls) name ≡ true = or_left (is_none (place_in names name)) _ (ap (λ o. is_none o) none) in
    rw is refl

pub unknown_literal : (names : List (List ℕ)) (channels : List Channel) (reset : Bool) (last : Option ℕ) (count : ℕ) (ls : List Led) (name : List ℕ) (up : Bool)
    → list_any (is_lost names) ls ≡ true → rule_fault_of names channels reset last count (terms_of ls) name up ≡ Some UnknownNode
unknown_literal names channels reset last count ls name up none =
    let is : rule_unknown names (terms_of ls) name ≡ true = unknown_is names ls name ∙ or_right (is_none (place_in names name)) _ none in
    rw is refl

-- where all nodes are known
pub known_is : (names : List (List ℕ)) (channels : List Channel) (reset : Bool) (driven : List Bool) (last : Option ℕ) (count : ℕ) (ls : List Led)
    (name : List ℕ) (up : Bool) (node : ℕ) (b : Bool) → AreDriven reset channels names driven → place_in names name ≡ Some node →
    list_any (is_lost names) ls ≡ false → b ≡ get_or driven node false →
    rule_fault_of names channels reset last count (terms_of ls) name up ≡ known_fault_of reset b last count (place_at node up) (length ls)
known_is names channels reset driven last count ls name up node b are at known is =
    let found = place_found names name node at in
    let all : rule_unknown names (terms_of ls) name ≡ false = unknown_is names ls name ∙ or_from _ _ (ap (λ o. is_none o) at) known in
    let moved : is_driven reset channels name ≡ b = sym (is ∙ are.each node found.0 ∙ ap (is_driven reset channels) found.1) in
    rw (all, moved, at, count_terms ls) refl

-- a rule that is not refused
pub record Fine (reset : Bool) (b : Bool) (last : Option ℕ) (count place literals : ℕ) : Type 0 where
  pub free : b ≡ false
  pub behind : IsBeyond last place
  pub few : count + literals ≤ literals_allowed reset

behind_is : (last : Option ℕ) (place : ℕ) → same_place last place ≡ false → stands_above last place ≡ false → IsBeyond last place
behind_is None place same above = tt
behind_is (Some l) place same above = omega (arith, eqb-false l place same, ltb-false place l above)

pub fine : (names : List (List ℕ)) (channels : List Channel) (reset : Bool) (last : Option ℕ) (count : ℕ) (g : List (List Signed)) (name : List ℕ) (up : Bool) →
    rule_fault_of names channels reset last count g name up ≡ None →
    Fine reset (is_driven reset channels name) last count (rule_place names name up) (sum_by (λ (t : List Signed). length t) g)
fine names channels reset last count g name up none =
    by_cases (rule_unknown names g name) (is_driven reset channels name) refl (same_place last place) refl (stands_above last place) refl
    (nat_lt (literals_allowed reset) (count + literals)) refl none
  where
    place : ℕ
    place = rule_place names name up

    literals : ℕ
    literals = sum_by (λ (t : List Signed). length t) g

    by_cases : (unknown b : Bool) → is_driven reset channels name ≡ b → (same : Bool) → same_place last (rule_place names name up) ≡ same → (above : Bool) →
        stands_above last (rule_place names name up) ≡ above → (many : Bool) →
        nat_lt (literals_allowed reset) (count + sum_by (λ (t : List Signed). length t) g) ≡
        many → cond unknown (Some UnknownNode) (cond b (Some DrivenWire)
        (cond same (Some DoubleRule) (cond above (Some OutOfOrder) (cond many (Some TooMany) None)))) ≡ None →
        Fine reset (is_driven reset channels name) last count (rule_place names name up) (sum_by (λ (t : List Signed). length t) g)
    by_cases true b is same e above e' many e'' none = absurd (cc none)
    by_cases false true is same e above e' many e'' none = absurd (cc none)
    by_cases false false is true e above e' many e'' none = absurd (cc none)
    by_cases false false is false e true e' many e'' none = absurd (cc none)
    by_cases false false is false e false e' true e'' none = absurd (cc none)
    by_cases false false is false e false e' false e'' none = record {
      free = is;
      behind = behind_is last (rule_place names name up) e e';
      few =
          ltb-false _ _ e'';
    }
