-- The text of a rule file.
use Rattle.std.specs.Prelude.{◌≡◌, ℕ, Bool, true, false, List, [], ◌∷◌, ◌++◌, length, codes, decimal, Option, Some, None, if◌then◌else◌}
use Rattle.std.specs.List.{concat, flat_map, join_by, range_with_len}
use Rattle.chp_base.specs.declared.channel.Channel.{Channel}
use Rattle.chp_base.specs.declared.channel.Kind.{Kind}
use Rattle.chp_base.specs.declared.channel.Kind.TheVariants.{In, Out, Chan}
use Rattle.prs_core.specs.declared.rule.Literal.{Literal}
use Rattle.prs_core.specs.declared.wires.Wires.{Wires}
use Rattle.prs_core.specs.Nets.{GuardValue, NetValue, name_at, first_at, up_of, down_of}
use Rattle.prs_file.specs.declared.forms.Lead.{Lead}
use Rattle.prs_file.specs.declared.forms.Lead.TheVariants.{Rule, And, Or}

-- a file is of version 2 where its net has a reset node
abbrev pub version_of : Option ℕ → ℕ
version_of None = 1
version_of (Some node) = 2

abbrev pub head_spelling : ℕ → List ℕ
head_spelling version = concat (codes "prs " ∷ decimal version ∷ codes "\n" ∷ [])

abbrev pub value_spelling : Bool → List ℕ
value_spelling value = if value then codes " 1\n" else codes " 0\n"

abbrev pub node_spelling : List ℕ → Bool → List ℕ
node_spelling name first = concat (codes "node " ∷ name ∷ value_spelling first ∷ [])

abbrev pub kind_spelling : Kind → List ℕ
kind_spelling In = codes "in "
kind_spelling Out = codes "out "
kind_spelling Chan = codes "chan "

abbrev pub channel_spelling : Channel → List ℕ
channel_spelling c = concat (kind_spelling c.kind ∷ c.name ∷ codes " " ∷ decimal c.width ∷ codes "\n" ∷ [])

abbrev pub sign_spelling : Bool → List ℕ
sign_spelling high = if high then [] else codes "~"

abbrev pub literal_spelling : NetValue → Literal → List ℕ
literal_spelling n l = sign_spelling l.high ++ name_at n l.node

abbrev pub term_spelling : NetValue → List Literal → List ℕ
term_spelling n t = join_by (literal_spelling n) (codes " & ") t

abbrev pub guard_spelling : NetValue → GuardValue → List ℕ
guard_spelling n g = join_by (term_spelling n) (codes " | ") g

abbrev pub end_spelling : List ℕ → Bool → List ℕ
end_spelling name up = concat (codes " -> " ∷ name ∷ (if up then codes "+\n" else codes "-\n") ∷ [])

-- a guard with no terms has no line
abbrev pub rule_spelling : NetValue → GuardValue → ℕ → Bool → List ℕ
rule_spelling n [] node up = []
rule_spelling n (t ∷ ts) node up =
    concat (codes "rule " ∷ guard_spelling n (t ∷ ts) ∷ end_spelling (name_at n node) up ∷ [])

abbrev pub rules_spelling : NetValue → ℕ → List ℕ
rules_spelling n node = rule_spelling n (up_of n node) node true ++ rule_spelling n (down_of n node) node false

-- the one text of a net: the version, the nodes in order of their numbers, the channels, and the rules in order of
-- their nodes
abbrev pub spelling : NetValue → List ℕ
spelling n =
    let nodes = range_with_len 0 (length n.first) in
    concat (
    head_spelling (version_of n.reset)
    ∷ flat_map (λ node. node_spelling (name_at n node) (first_at n node)) nodes
    ∷ flat_map (λ (w : Wires). channel_spelling w.channel) n.channels
    ∷ flat_map (rules_spelling n) nodes
    ∷ [])

abbrev pub NetText : List ℕ → NetValue → Type 0
NetText text n = text ≡ spelling n

-- what comes before a literal: the word of a new rule, or the sign of conjunction or disjunction
abbrev pub lead_spelling : Lead → List ℕ
lead_spelling Rule = codes "rule "
lead_spelling And = codes " & "
lead_spelling Or = codes " | "

abbrev pub literal_behind : Lead → Bool → List ℕ → List ℕ
literal_behind lead high name = concat ((lead_spelling lead ++ sign_spelling high) ∷ name ∷ [])
