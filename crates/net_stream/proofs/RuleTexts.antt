-- The text of a rule's terms, behind their leads, is that of its guard.
use Rattle.std.proofs.Common.{◌≡◌, ◌∙◌, ℕ, ◌<◌, Bool, true, false, List, [], ◌∷◌, ◌++◌, length, refl, ap, arith}
use Rattle.std.specs.Prelude.{if◌then◌else◌}
use Rattle.std.proofs.lemmas.List.Elements.{All-head, All-tail}
use Rattle.prs_core.specs.declared.rule.Literal.{Literal}
use Rattle.prs_core.specs.Nets.{GuardValue, NetValue, IsFilled, IsNet, name_at, up_of, down_of}
use Rattle.prs_file.specs.declared.forms.Lead.{Lead}
use Rattle.prs_file.specs.declared.forms.Lead.TheVariants.{Rule, And, Or}
use Rattle.prs_file.specs.Spelling.{lead_spelling, term_spelling, literal_behind, end_spelling, rule_spelling}
use Rattle.prs_file.proofs.Rules.{term_is, guard_is, rule_is}
use Rattle.prs_file.proofs.Rules as rules_of_file
use Rattle.net_stream.specs.Led.{literals_behind, terms_behind, has_begun, IsPut}

literals_same : (net : NetValue) (lead : Lead) (ls : List Literal) → literals_behind net lead ls ≡ rules_of_file.literals_behind net lead ls
literals_same net lead [] = refl
literals_same net lead (l ∷ ls) = ap (λ t. literal_behind lead l.high (name_at net l.node) ++ t) (literals_same net And ls)

terms_same : (net : NetValue) (lead : Lead) (g : GuardValue) → IsFilled g → terms_behind net lead g ≡ rules_of_file.terms_behind net lead g
terms_same net lead [] h = refl
terms_same net lead (t ∷ g) h =
    ap (λ u. u ++ terms_behind net Or g) (literals_same net lead t ∙ term_is net lead t (All-head (λ (t : List Literal). 0 < length t) t g h))
    ∙ ap (λ u. (lead_spelling lead ++ term_spelling net t) ++ u) (terms_same net Or g (All-tail (λ (t : List Literal). 0 < length t) t g h))

-- a rule that is there
pub line_is : (net : NetValue) (lead : Lead) (g : GuardValue) (node : ℕ) (up : Bool) (before mid after : List ℕ) (k m : ℕ) → IsFilled g
    → IsPut net Rule lead g before mid k m → has_begun lead ≡ true → after ≡ mid ++ end_spelling (name_at net node) up
    → after ≡ before ++ rule_spelling net g node up
line_is net lead [] node up before mid after k m filled put begun end = absurd (let e = ap has_begun put.leads in cc)
line_is net lead (t ∷ g) node up before mid after k m filled put begun end =
    end ∙ (ap (λ u. u ++ end_spelling (name_at net node) up) (put.text ∙ ap (λ u. before ++ u) (terms_same net Rule (t ∷ g) filled ∙ guard_is net t g))
    ∙ rule_is net (t ∷ g) node up before (omega arith))

-- and one that isn't
pub no_line : (net : NetValue) (lead : Lead) (g : GuardValue) (node : ℕ) (up : Bool) (before mid : List ℕ) (k m : ℕ)
    → IsPut net Rule lead g before mid k m → has_begun lead ≡ false → mid ≡ before ++ rule_spelling net g node up
no_line net lead [] node up before mid k m put none = put.text
no_line net lead (t ∷ g) node up before mid k m put none = absurd (let e = ap has_begun put.leads in cc)

-- no term of a net's guards is empty
pub filled_at : (net : NetValue) (node : ℕ) (up : Bool) → IsNet net → node < length net.first
    → IsFilled (if up then up_of net node else down_of net node)
filled_at net node true whole l = let ups = whole.ups in whole.up_filled node [] (omega (arith, ups, l))
filled_at net node false whole l = let downs = whole.downs in whole.down_filled node [] (omega (arith, downs, l))
