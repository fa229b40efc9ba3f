-- The lines of rules and the guards that they are read into, one after another.
use Rattle.std.proofs.Common.{◌≡◌, ℕ, ◌+◌, ◌<◌, ◌≤◌, Bool, false, Option, None, Some, List, [], ◌∷◌, ◌++◌, length, map, get_or, refl, ap, sym, ◌∙◌, subst, arith, length-append}
use Rattle.std.specs.Prelude.{◌==◌, sum_by, replicate, unwrap_or}
use Rattle.std.proofs.lemmas.List.{append_assoc, append-nil, length-map}
use Rattle.std.proofs.lemmas.List.Sums.{sum_by-cons}
use Rattle.chp_base.specs.declared.channel.Channel.{Channel}
use Rattle.prs_core.specs.declared.rule.Literal.{Literal}
use Rattle.prs_core.specs.declared.wires.Wires.{Wires}
use Rattle.prs_core.specs.Nets.{GuardValue, RulesValue, IsBelow, guard_literals}
use Rattle.prs_file.specs.declared.rule.Led.{Led}
use Rattle.prs_file.specs.ChannelsTold.{channels_told, IsChannelsRead}
use Rattle.prs_file.specs.Indexes.{place_in}
use Rattle.prs_file.specs.Lines.{first_line}
use Rattle.prs_file.specs.Named.{signed_by, guard_named}
use Rattle.prs_file.specs.NodesTold.{IsNodes}
use Rattle.prs_file.specs.Reading.{Form, IsForm, IsChannelForm, Signed, form_spelling}
use Rattle.prs_file.specs.Reading.Form.{rule}
use Rattle.prs_file.specs.RulesTold.{IsRulesRead, is_driven, rule_place, rule_fault_of, literals_allowed}
use Rattle.prs_file.specs.Spelling.{channel_spelling}
use Rattle.prs_file.specs.Tables.{rule_forms, net_forms, place_at, with_guard, IsBeyond, IsTable}
use Rattle.prs_file.specs.Terms.{terms_of}
use Rattle.prs_file.proofs.GuardsNamed.{filled}
use Rattle.prs_file.proofs.RulesBegin.{rules_begin}
use Rattle.prs_file.proofs.RulesRead.{rules_more}
use Rattle.prs_file.proofs.TableSteps.{table_more, forms_more, forms_begin}
use Rattle.prs_file.proofs.TermCounts.{count_terms}
use Rattle.prs_file.proofs.TurnFaults.{fine, Fine}
use Rattle.prs_file.proofs.Wirings.{place_found}

abbrev pub channels_of : List Wires → List Channel
channels_of ws = map (λ (w : Wires). w.channel) ws

begin_forms : (version : ℕ) (names : List (List ℕ)) (first : List Bool) (ws : List Wires) (r : RulesValue) →
    r ≡ record { up = replicate (length names) []; down = replicate (length names) [] } →
    net_forms version names first ws r ≡ channels_told version names first ws
begin_forms version names first ws r is =
    ap (λ fs. channels_told version names first ws ++ fs) (forms_begin names r is) ∙ append-nil (channels_told version names first ws)

pub loop_begin : (version : ℕ) (names : List (List ℕ)) (first : List Bool) (ws : List Wires) (r : RulesValue) (text rest : List ℕ) →
    IsNodes version names first → IsChannelsRead version names first ws text rest → ((c : Channel) → IsChannelForm c → first_line rest ≡ channel_spelling c → ⊥)
    → r ≡ record { up = replicate (length names) []; down = replicate (length names) [] } →
    IsRulesRead (net_forms version names first ws r) version names first (channels_of ws) None 0 text rest
loop_begin version names first ws r text rest nodes read over is =
    subst (λ b. IsRulesRead b version names first (channels_of ws) None 0 text rest) (sym (begin_forms version names first ws r is))
    (rules_begin version names first ws text rest nodes read over)

pub begin_count : (version : ℕ) (names : List (List ℕ)) (first : List Bool) (ws : List Wires) (r : RulesValue) →
    r ≡ record { up = replicate (length names) []; down = replicate (length names) [] } →
    length (net_forms version names first ws r) ≡ length (channels_told version names first ws)
begin_count version names first ws r is = ap length (begin_forms version names first ws r is)

pub named_literals : (names : List (List ℕ)) (g : GuardValue) → sum_by (λ (t : List Signed). length t) (guard_named names g) ≡ guard_literals g
named_literals names [] = refl
named_literals names (t ∷ g) =
    omega (
      arith,
      sum_by-cons (λ (t : List Signed). length t) (map (signed_by names) t) (guard_named names g),
      sum_by-cons (λ (t : List Literal). length t) t g,
      named_literals names g,
      length-map t (signed_by names),
    )

-- what a rule of a line and a table makes of the table
pub record IsMore (version : ℕ) (names : List (List ℕ)) (first : List Bool) (ws : List Wires) (now : RulesValue) (place count line : ℕ)
    (text behind : List ℕ) : Type 0 where
  pub read : IsRulesRead (net_forms version names first ws now) version names first (channels_of ws) (Some place) count text behind
  pub table : IsTable (version == 2) (channels_of ws) names (Some place) count now
  pub number : line ≡ length (net_forms version names first ws now) + 1

pub loop_more : (version : ℕ) (names : List (List ℕ)) (first : List Bool) (ws : List Wires) (last : Option ℕ) (count line : ℕ) (r now : RulesValue)
    (text rest behind : List ℕ) (leds : List Led) (name : List ℕ) (up : Bool) (node : ℕ) (g : GuardValue) (place literals : ℕ) → length first ≡ length names →
    IsRulesRead (net_forms version names first ws r) version names first (channels_of ws) last count text rest →
    IsTable (version == 2) (channels_of ws) names last count r → line ≡ length (net_forms version names first ws r) + 1 →
    first_line rest ≡ form_spelling (rule (terms_of leds) name up) → rest ≡ first_line rest ++ behind → IsForm (rule (terms_of leds) name up) →
    place_in names name ≡ Some node → guard_named names g ≡ terms_of leds → IsBelow (length names) g →
    rule_fault_of names (channels_of ws) (version == 2) last count (terms_of leds) name up ≡ None → now ≡ with_guard node up g r → place ≡ place_at node up →
    literals ≡ length leds → IsMore version names first ws now place (count + literals) (line + 1) text behind
loop_more version names first ws last count line r now text rest behind leds name up node g place literals same read table number says whole form at named below
    good is is_place is_count = record {
      read = subst (λ b. IsRulesRead b version names first (channels_of ws) (Some place) (count + literals) text behind) (sym forms)
          (subst (λ p. IsRulesRead (before ++ rule ts name up ∷ []) version names first (channels_of ws) (Some p) (count + literals) text behind) (places
          ∙ sym is_place) (subst (λ k. IsRulesRead (before ++ rule ts name up ∷ []) version names first (channels_of ws) (Some (rule_place names name up))
          (count + k) text behind) (count_terms leds ∙ sym is_count)
          (rules_more before version names first (channels_of ws) last count text rest behind ts name up
          same read says whole form good)));
      table = subst (λ t. IsTable (version == 2) (channels_of ws) names (Some place) (count + literals) t) (sym is)
          (subst (λ p. IsTable (version == 2) (channels_of ws) names (Some p) (count + literals) (with_guard node up g r)) (sym is_place)
          (subst (λ k. IsTable (version == 2) (channels_of ws) names (Some (place_at node up)) (count + k) (with_guard node up g r)) count_same
          (table_more (version == 2) (channels_of ws) names last count r node up g table found.0 free behind_last below (filled names g ts named form.1) few)));
      number = omega (arith, number, ap length forms, length-append before (rule ts name up ∷ []));
    }
  where
    ts : List (List Signed)
    ts = terms_of leds

    before : List Form
    before = net_forms version names first ws r

    found : (node < length names) × (get_or names node [] ≡ name)
    found = place_found names name node at

    places : rule_place names name up ≡ place_at node up
    places = ap (λ o. place_at (unwrap_or o 0) up) at

    okay : Fine (version == 2) (is_driven (version == 2) (channels_of ws) name) last count (rule_place names name up)
        (sum_by (λ (t : List Signed). length t) (terms_of leds))
    okay = fine names (channels_of ws) (version == 2) last count (terms_of leds) name up good

    free : is_driven (version == 2) (channels_of ws) (get_or names node []) ≡ false
    free = ap (is_driven (version == 2) (channels_of ws)) found.1 ∙ okay.free

    behind_last : IsBeyond last (place_at node up)
    behind_last = subst (IsBeyond last) places okay.behind

    count_same : guard_literals g ≡ literals
    count_same = sym (named_literals names g) ∙ ap (sum_by (λ (t : List Signed). length t)) named ∙ count_terms leds ∙ sym is_count

    few : count + guard_literals g ≤ literals_allowed (version == 2)
    few = omega (arith, okay.few, sym (named_literals names g) ∙ ap (sum_by (λ (t : List Signed). length t)) named)

    some : 0 < length g
    some = omega (arith, form.0, ap length named, length-map g (map (signed_by names)))

    forms : net_forms version names first ws now ≡ before ++ rule ts name up ∷ []
    forms =
        ap (net_forms version names first ws) is
        ∙ ap (λ fs. channels_told version names first ws ++ fs) (forms_more (version == 2) (channels_of ws) names last count r node up g table found.0
        behind_last some ∙ ap (λ f. rule_forms names r ++ f ∷ []) (ap (λ t. rule t (get_or names node []) up) named ∙ ap (λ n. rule ts n up) found.1))
        ∙ sym (append_assoc (channels_told version names first ws) (rule_forms names r) (rule ts name up ∷ []))

pub some_left : (rest : List ℕ) (empty : Bool) → empty ≡ (length rest == 0) → empty ≡ false → 0 < length rest
some_left [] empty is not = absurd (cc (is, not))
some_left (b ∷ rest) empty is not = omega arith
