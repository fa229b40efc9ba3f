-- The nets of the smallest programs, written out by hand from the rules of each construct, node by node; the definition
-- gives the same.
use Rattle.std.proofs.Common.{◌≡◌, ℕ, Bool, true, false, List, [], ◌∷◌, map, length, None, refl}
use Rattle.std.specs.Prelude.{◌==◌}
use Rattle.std.specs.List.{list_any, range_with_len}
use Rattle.chp_base.specs.declared.span.Span.{Span}
use Rattle.chp_base.specs.declared.channel.Channel.{Channel}
use Rattle.chp_base.specs.declared.channel.Kind.{Kind}
use Rattle.chp_base.specs.declared.channel.Kind.TheVariants.{In, Out, Chan}
use Rattle.chp_syntax.specs.declared.tree.Op.TheVariants as op
use Rattle.prs_core.specs.declared.rule.Literal.{Literal}
use Rattle.prs_core.specs.declared.wires.Wires.{Wires}
use Rattle.prs_core.specs.Nets.{GuardValue, NodeRules, NetValue, net_of}
use Rattle.width_check.specs.declared.typed.Var.{Var}
use Rattle.width_check.specs.Processes.{constant, reading, joined, inverted, chained, compared, no_parts, and_part, no_operations, and_operation, skipping, assigning, sending, receiving, in_turn, side_by_side, choosing, repeating, no_members, and_member, no_choices, and_choice, TypedProgram}
use Rattle.net_compose.specs.Translation.{translation}

abbrev pub at : Span
at = record { from = 0; to = 1 }

abbrev pub channel : Kind → ℕ → Channel
channel kind width = record { name = []; kind = kind; width = width }

abbrev pub var : ℕ → ℕ → Var
var width first = record { name = []; width = width; first = first }

abbrev pub hi : ℕ → Literal
hi node = record { node = node; high = true }

abbrev pub lo : ℕ → Literal
lo node = record { node = node; high = false }

abbrev pub all : List Literal → GuardValue
all literals = literals ∷ []

-- a node that rises by the one guard and falls by the other
abbrev pub turns : (up down : GuardValue) → NodeRules
turns up down = record { up = up; down = down }

abbrev pub no_rules : NodeRules
no_rules = record { up = []; down = [] }

abbrev pub wires : Channel → (rails : List ℕ) → (ack : ℕ) → Wires
wires channel rails ack = record { channel = channel; rails = rails; ack = ack }

abbrev pub is_among : List ℕ → ℕ → Bool
is_among nodes node = list_any (λ n. n == node) nodes

-- so many nodes, of which these are high at first
abbrev pub high_first : (count : ℕ) → List ℕ → List Bool
high_first count nodes = map (is_among nodes) (range_with_len 0 count)

-- a net, the names aside
abbrev pub a_net : List NodeRules → (highs : List ℕ) → List Wires → NetValue
a_net rows highs channels =
    net_of [] (high_first (length rows) highs) (record { up = map (λ (r : NodeRules). r.up) rows; down = map (λ (r : NodeRules). r.down) rows }) channels None

abbrev pub nameless : NetValue → NetValue
nameless n = record { names = []; first = n.first; up = n.up; down = n.down; channels = n.channels; reset = n.reset }

abbrev pub name_count : NetValue → ℕ
name_count n = length n.names

-- begin skip end
abbrev skips : TypedProgram
skips = record { channels = []; vars = []; body = skipping }

abbrev skips_rows : List NodeRules
skips_rows =
    no_rules
    ∷ turns (all (hi 3 ∷ lo 4 ∷ [])) (all (lo 3 ∷ []))
    ∷ turns (all (hi 0 ∷ lo 3 ∷ [])) (all (hi 3 ∷ []))
    ∷ turns (all (hi 4 ∷ [])) (all (lo 0 ∷ []))
    ∷ turns (all (hi 2 ∷ [])) (all (lo 2 ∷ []))
    ∷ []

skips_net : nameless (translation skips) ≡ a_net skips_rows [] []
skips_net = refl

skips_names : name_count (translation skips) ≡ 5
skips_names = refl

-- out X : 1; begin X!1 end
abbrev sends : TypedProgram
sends = record { channels = channel Out 1 ∷ []; vars = []; body = (sending 0 at (constant 1 1)) }

abbrev sends_rows : List NodeRules
sends_rows =
    no_rules
    ∷ turns (all (hi 6 ∷ lo 7 ∷ [])) (all (lo 6 ∷ []))
    ∷ turns (all (hi 8 ∷ [])) (all (lo 8 ∷ []))
    ∷ turns (all (hi 9 ∷ [])) (all (lo 9 ∷ []))
    ∷ no_rules
    ∷ turns (all (hi 0 ∷ lo 6 ∷ [])) (all (hi 6 ∷ []))
    ∷ turns (all (hi 7 ∷ [])) (all (lo 0 ∷ []))
    ∷ turns (all (hi 5 ∷ hi 4 ∷ [])) (all (lo 4 ∷ []))
    ∷ turns (all (hi 5 ∷ [])) (all (lo 5 ∷ []))
    ∷ no_rules
    ∷ []

sends_net : nameless (translation sends) ≡ a_net sends_rows [] (wires (channel Out 1) (2 ∷ 3 ∷ []) 4 ∷ [])
sends_net = refl

sends_names : name_count (translation sends) ≡ 10
sends_names = refl

-- begin skip; skip; skip end
abbrev in_order : TypedProgram
in_order = record { channels = []; vars = []; body = (in_turn (and_member skipping (and_member skipping (and_member skipping no_members)))) }

abbrev in_order_rows : List NodeRules
in_order_rows =
    no_rules
    ∷ turns (all (hi 3 ∷ lo 12 ∷ [])) (all (lo 3 ∷ []))
    ∷ turns (all (hi 0 ∷ lo 3 ∷ [])) (all (hi 3 ∷ []))
    ∷ turns (all (hi 12 ∷ [])) (all (lo 0 ∷ []))
    ∷ turns (all (hi 2 ∷ lo 5 ∷ [])) (all (hi 5 ∷ []))
    ∷ turns (all (hi 7 ∷ [])) (all (lo 2 ∷ []))
    ∷ turns (all (hi 5 ∷ lo 7 ∷ [])) (all (lo 5 ∷ []))
    ∷ turns (all (hi 4 ∷ [])) (all (lo 4 ∷ []))
    ∷ turns (all (hi 6 ∷ lo 9 ∷ [])) (all (hi 9 ∷ []))
    ∷ turns (all (hi 11 ∷ [])) (all (lo 6 ∷ []))
    ∷ turns (all (hi 9 ∷ lo 11 ∷ [])) (all (lo 9 ∷ []))
    ∷ turns (all (hi 8 ∷ [])) (all (lo 8 ∷ []))
    ∷ turns (all (hi 10 ∷ [])) (all (lo 10 ∷ []))
    ∷ []

in_order_net : nameless (translation in_order) ≡ a_net in_order_rows [] []
in_order_net = refl

in_order_names : name_count (translation in_order) ≡ 13
in_order_names = refl

-- begin *[skip] end
abbrev loops : TypedProgram
loops = record { channels = []; vars = []; body = (repeating skipping) }

abbrev loops_rows : List NodeRules
loops_rows =
    no_rules
    ∷ turns (all (hi 3 ∷ lo 4 ∷ [])) (all (lo 3 ∷ []))
    ∷ turns (all (hi 0 ∷ lo 3 ∷ [])) (all (hi 3 ∷ []))
    ∷ turns (all (hi 4 ∷ [])) (all (lo 0 ∷ []))
    ∷ no_rules
    ∷ turns (all (hi 2 ∷ lo 6 ∷ [])) (all (hi 6 ∷ []))
    ∷ turns (all (hi 5 ∷ [])) (all (lo 5 ∷ []))
    ∷ []

loops_net : nameless (translation loops) ≡ a_net loops_rows [] []
loops_net = refl

loops_names : name_count (translation loops) ≡ 7
loops_names = refl

-- chan X : 1; var v : 1; begin X!1 || X?v end
abbrev meets : TypedProgram
meets = record {
  channels = channel Chan 1 ∷ [];
  vars = var 1 0 ∷ [];
  body =
      (side_by_side (and_member (sending 0 at (constant 1 1)) (and_member (receiving 0 at 0 at) no_members)));
}

abbrev meets_rows : List NodeRules
meets_rows =
    no_rules
    ∷ turns (all (hi 11 ∷ lo 25 ∷ [])) (all (lo 11 ∷ []))
    ∷ turns (all (hi 16 ∷ [])) (all (lo 16 ∷ []))
    ∷ turns (all (hi 17 ∷ [])) (all (lo 17 ∷ []))
    ∷ turns (all (hi 22 ∷ [])) (all (lo 22 ∷ []))
    ∷ turns (all (hi 7 ∷ lo 6 ∷ [])) (all (hi 8 ∷ []))
    ∷ turns (all (hi 8 ∷ lo 5 ∷ [])) (all (hi 7 ∷ []))
    ∷ turns (all (hi 23 ∷ [])) (all (lo 23 ∷ []))
    ∷ turns (all (hi 24 ∷ [])) (all (lo 24 ∷ []))
    ∷ turns ((hi 7 ∷ hi 5 ∷ []) ∷ (hi 8 ∷ hi 6 ∷ []) ∷ []) (all (lo 7 ∷ lo 8 ∷ []))
    ∷ turns (all (hi 0 ∷ lo 11 ∷ [])) (all (hi 11 ∷ []))
    ∷ turns (all (hi 25 ∷ [])) (all (lo 0 ∷ []))
    ∷ turns (all (hi 10 ∷ lo 13 ∷ [])) (all (hi 13 ∷ []))
    ∷ turns (all (hi 15 ∷ [])) (all (lo 10 ∷ []))
    ∷ turns (all (hi 13 ∷ lo 15 ∷ [])) (all (lo 13 ∷ []))
    ∷ turns (all (hi 12 ∷ hi 4 ∷ [])) (all (lo 4 ∷ []))
    ∷ turns (all (hi 12 ∷ [])) (all (lo 12 ∷ []))
    ∷ no_rules
    ∷ turns (all (hi 10 ∷ lo 19 ∷ [])) (all (hi 19 ∷ []))
    ∷ turns (all (hi 21 ∷ [])) (all (lo 10 ∷ []))
    ∷ turns (all (hi 19 ∷ lo 21 ∷ [])) (all (lo 19 ∷ []))
    ∷ turns (all (hi 18 ∷ hi 4 ∷ [])) (all (lo 4 ∷ []))
    ∷ turns (all (hi 18 ∷ hi 9 ∷ [])) (all (lo 9 ∷ []))
    ∷ turns (all (hi 18 ∷ hi 2 ∷ [])) (all (lo 18 ∷ lo 2 ∷ []))
    ∷ turns (all (hi 18 ∷ hi 3 ∷ [])) (all (lo 18 ∷ lo 3 ∷ []))
    ∷ turns (all (hi 14 ∷ hi 20 ∷ [])) (all (lo 14 ∷ lo 20 ∷ []))
    ∷ []

meets_net : nameless (translation meets) ≡ a_net meets_rows (6 ∷ []) (wires (channel Chan 1) (2 ∷ 3 ∷ []) 4 ∷ [])
meets_net = refl

meets_names : name_count (translation meets) ≡ 26
meets_names = refl

-- var x : 1 = 1; begin [x = 0 -> skip [] x = 1 -> skip] end
abbrev selects : TypedProgram
selects = record {
  channels = [];
  vars = var 1 1 ∷ [];
  body =
      (choosing false (and_choice (compared op.Eq (reading 0 0 0 at) (constant 1 0)) skipping
      (and_choice (compared op.Eq (reading 0 0 0 at) (constant 1 1)) skipping no_choices)));
}

abbrev selects_rows : List NodeRules
selects_rows =
    no_rules
    ∷ turns (all (hi 8 ∷ lo 9 ∷ [])) (all (lo 8 ∷ []))
    ∷ turns (all (hi 4 ∷ lo 3 ∷ [])) (all (hi 5 ∷ []))
    ∷ turns (all (hi 5 ∷ lo 2 ∷ [])) (all (hi 4 ∷ []))
    ∷ no_rules
    ∷ no_rules
    ∷ turns ((hi 4 ∷ hi 2 ∷ []) ∷ (hi 5 ∷ hi 3 ∷ []) ∷ []) (all (lo 4 ∷ lo 5 ∷ []))
    ∷ turns (all (hi 0 ∷ lo 8 ∷ [])) (all (hi 8 ∷ []))
    ∷ turns (all (hi 9 ∷ [])) (all (lo 0 ∷ []))
    ∷ turns ((hi 28 ∷ []) ∷ (hi 29 ∷ []) ∷ []) (all (lo 11 ∷ lo 28 ∷ lo 29 ∷ []))
    ∷ turns (all (hi 7 ∷ lo 11 ∷ [])) (all (hi 11 ∷ []))
    ∷ turns ((hi 12 ∷ []) ∷ (hi 13 ∷ []) ∷ []) (all (lo 12 ∷ lo 13 ∷ []))
    ∷ turns (all (hi 20 ∷ hi 27 ∷ [])) (all (lo 7 ∷ []))
    ∷ turns (all (hi 21 ∷ hi 26 ∷ [])) (all (lo 7 ∷ []))
    ∷ turns (all (hi 12 ∷ lo 20 ∷ lo 21 ∷ lo 26 ∷ lo 27 ∷ [])) (all (lo 12 ∷ []))
    ∷ turns (all (hi 13 ∷ lo 20 ∷ lo 21 ∷ lo 26 ∷ lo 27 ∷ [])) (all (lo 13 ∷ []))
    ∷ turns (all (hi 10 ∷ hi 2 ∷ [])) (all (lo 10 ∷ []))
    ∷ turns (all (hi 10 ∷ hi 3 ∷ [])) (all (lo 10 ∷ []))
    ∷ no_rules
    ∷ turns (all (hi 10 ∷ [])) (all (lo 10 ∷ []))
    ∷ turns ((hi 17 ∷ hi 19 ∷ []) ∷ (hi 16 ∷ hi 18 ∷ []) ∷ []) (all (lo 16 ∷ lo 17 ∷ lo 18 ∷ lo 19 ∷ []))
    ∷ turns ((hi 16 ∷ hi 19 ∷ []) ∷ (hi 17 ∷ hi 18 ∷ []) ∷ []) (all (lo 16 ∷ lo 17 ∷ lo 18 ∷ lo 19 ∷ []))
    ∷ turns (all (hi 10 ∷ hi 2 ∷ [])) (all (lo 10 ∷ []))
    ∷ turns (all (hi 10 ∷ hi 3 ∷ [])) (all (lo 10 ∷ []))
    ∷ turns (all (hi 10 ∷ [])) (all (lo 10 ∷ []))
    ∷ no_rules
    ∷ turns ((hi 23 ∷ hi 25 ∷ []) ∷ (hi 22 ∷ hi 24 ∷ []) ∷ []) (all (lo 22 ∷ lo 23 ∷ lo 24 ∷ lo 25 ∷ []))
    ∷ turns ((hi 22 ∷ hi 25 ∷ []) ∷ (hi 23 ∷ hi 24 ∷ []) ∷ []) (all (lo 22 ∷ lo 23 ∷ lo 24 ∷ lo 25 ∷ []))
    ∷ turns (all (hi 14 ∷ [])) (all (lo 14 ∷ []))
    ∷ turns (all (hi 15 ∷ [])) (all (lo 15 ∷ []))
    ∷ []

selects_net : nameless (translation selects) ≡ a_net selects_rows (2 ∷ []) []
selects_net = refl

selects_names : name_count (translation selects) ≡ 30
selects_names = refl

-- var x : 1; begin x := x + 1 end: through a hidden variable
abbrev increments : TypedProgram
increments = record {
  channels = [];
  vars = var 1 0 ∷ [];
  body =
      (assigning 0 at (chained (reading 0 0 0 at) (and_operation op.Add (constant 1 1) no_operations)));
}

abbrev increments_rows : List NodeRules
increments_rows =
    no_rules
    ∷ turns (all (hi 8 ∷ lo 24 ∷ [])) (all (lo 8 ∷ []))
    ∷ turns (all (hi 4 ∷ lo 3 ∷ [])) (all (hi 5 ∷ []))
    ∷ turns (all (hi 5 ∷ lo 2 ∷ [])) (all (hi 4 ∷ []))
    ∷ turns (all (hi 25 ∷ [])) (all (lo 25 ∷ []))
    ∷ turns (all (hi 26 ∷ [])) (all (lo 26 ∷ []))
    ∷ turns ((hi 4 ∷ hi 2 ∷ []) ∷ (hi 5 ∷ hi 3 ∷ []) ∷ []) (all (lo 4 ∷ lo 5 ∷ []))
    ∷ turns (all (hi 0 ∷ lo 8 ∷ [])) (all (hi 8 ∷ []))
    ∷ turns (all (hi 24 ∷ [])) (all (lo 0 ∷ []))
    ∷ turns (all (hi 11 ∷ lo 10 ∷ [])) (all (hi 12 ∷ []))
    ∷ turns (all (hi 12 ∷ lo 9 ∷ [])) (all (hi 11 ∷ []))
    ∷ turns (all (hi 22 ∷ [])) (all (lo 22 ∷ []))
    ∷ turns (all (hi 23 ∷ [])) (all (lo 23 ∷ []))
    ∷ turns ((hi 11 ∷ hi 9 ∷ []) ∷ (hi 12 ∷ hi 10 ∷ []) ∷ []) (all (lo 11 ∷ lo 12 ∷ []))
    ∷ turns (all (hi 7 ∷ lo 15 ∷ [])) (all (hi 15 ∷ []))
    ∷ turns (all (hi 17 ∷ [])) (all (lo 7 ∷ []))
    ∷ turns (all (hi 15 ∷ lo 17 ∷ [])) (all (lo 15 ∷ []))
    ∷ turns (all (hi 14 ∷ hi 13 ∷ [])) (all (lo 13 ∷ []))
    ∷ turns (all (hi 14 ∷ hi 2 ∷ [])) (all (lo 14 ∷ []))
    ∷ turns (all (hi 14 ∷ hi 3 ∷ [])) (all (lo 14 ∷ []))
    ∷ turns (all (hi 14 ∷ [])) (all (lo 14 ∷ []))
    ∷ no_rules
    ∷ turns ((hi 18 ∷ hi 21 ∷ []) ∷ (hi 19 ∷ hi 20 ∷ []) ∷ []) (all (lo 18 ∷ lo 19 ∷ lo 20 ∷ lo 21 ∷ []))
    ∷ turns ((hi 19 ∷ hi 21 ∷ []) ∷ (hi 18 ∷ hi 20 ∷ []) ∷ []) (all (lo 18 ∷ lo 19 ∷ lo 20 ∷ lo 21 ∷ []))
    ∷ turns (all (hi 16 ∷ hi 6 ∷ [])) (all (lo 6 ∷ []))
    ∷ turns (all (hi 16 ∷ hi 9 ∷ [])) (all (lo 16 ∷ []))
    ∷ turns (all (hi 16 ∷ hi 10 ∷ [])) (all (lo 16 ∷ []))
    ∷ []

increments_net : nameless (translation increments) ≡ a_net increments_rows (3 ∷ 10 ∷ []) []
increments_net = refl

increments_names : name_count (translation increments) ≡ 27
increments_names = refl

-- var x : 1 = 1; begin *[x = 0 -> skip] end
abbrev repeats : TypedProgram
repeats = record {
  channels = [];
  vars = var 1 1 ∷ [];
  body =
      (choosing true (and_choice (compared op.Eq (reading 0 0 0 at) (constant 1 0)) skipping no_choices));
}

abbrev repeats_rows : List NodeRules
repeats_rows =
    no_rules
    ∷ turns (all (hi 8 ∷ lo 9 ∷ [])) (all (lo 8 ∷ []))
    ∷ turns (all (hi 4 ∷ lo 3 ∷ [])) (all (hi 5 ∷ []))
    ∷ turns (all (hi 5 ∷ lo 2 ∷ [])) (all (hi 4 ∷ []))
    ∷ no_rules
    ∷ no_rules
    ∷ turns ((hi 4 ∷ hi 2 ∷ []) ∷ (hi 5 ∷ hi 3 ∷ []) ∷ []) (all (lo 4 ∷ lo 5 ∷ []))
    ∷ turns (all (hi 0 ∷ lo 8 ∷ [])) (all (hi 8 ∷ []))
    ∷ turns (all (hi 9 ∷ [])) (all (lo 0 ∷ []))
    ∷ turns (all (hi 14 ∷ lo 21 ∷ lo 22 ∷ [])) (all (lo 13 ∷ []))
    ∷ turns (all (hi 7 ∷ lo 11 ∷ [])) ((hi 11 ∷ []) ∷ (lo 7 ∷ []) ∷ [])
    ∷ turns (all (hi 23 ∷ [])) (all (lo 13 ∷ lo 23 ∷ []))
    ∷ turns (all (hi 10 ∷ lo 13 ∷ [])) (all (hi 13 ∷ []))
    ∷ turns ((hi 14 ∷ []) ∷ (hi 15 ∷ []) ∷ []) (all (lo 14 ∷ lo 15 ∷ []))
    ∷ turns (all (hi 22 ∷ [])) (all (lo 10 ∷ []))
    ∷ turns (all (hi 21 ∷ [])) (all (lo 10 ∷ []))
    ∷ turns (all (hi 15 ∷ lo 21 ∷ lo 22 ∷ [])) (all (lo 15 ∷ []))
    ∷ turns (all (hi 12 ∷ hi 2 ∷ [])) (all (lo 12 ∷ []))
    ∷ turns (all (hi 12 ∷ hi 3 ∷ [])) (all (lo 12 ∷ []))
    ∷ no_rules
    ∷ turns (all (hi 12 ∷ [])) (all (lo 12 ∷ []))
    ∷ turns ((hi 18 ∷ hi 20 ∷ []) ∷ (hi 17 ∷ hi 19 ∷ []) ∷ []) (all (lo 17 ∷ lo 18 ∷ lo 19 ∷ lo 20 ∷ []))
    ∷ turns ((hi 17 ∷ hi 20 ∷ []) ∷ (hi 18 ∷ hi 19 ∷ []) ∷ []) (all (lo 17 ∷ lo 18 ∷ lo 19 ∷ lo 20 ∷ []))
    ∷ turns (all (hi 16 ∷ [])) (all (lo 16 ∷ []))
    ∷ []

repeats_net : nameless (translation repeats) ≡ a_net repeats_rows (2 ∷ []) []
repeats_net = refl

repeats_names : name_count (translation repeats) ≡ 24
repeats_names = refl

-- begin skip || skip || skip end: a completion tree with an odd leaf
abbrev three_beside : TypedProgram
three_beside = record { channels = []; vars = []; body = (side_by_side (and_member skipping (and_member skipping (and_member skipping no_members)))) }

abbrev three_beside_rows : List NodeRules
three_beside_rows =
    no_rules
    ∷ turns (all (hi 3 ∷ lo 17 ∷ [])) (all (lo 3 ∷ []))
    ∷ turns (all (hi 0 ∷ lo 3 ∷ [])) (all (hi 3 ∷ []))
    ∷ turns (all (hi 17 ∷ [])) (all (lo 0 ∷ []))
    ∷ turns (all (hi 2 ∷ lo 5 ∷ [])) (all (hi 5 ∷ []))
    ∷ turns (all (hi 7 ∷ [])) (all (lo 2 ∷ []))
    ∷ turns (all (hi 5 ∷ lo 7 ∷ [])) (all (lo 5 ∷ []))
    ∷ turns (all (hi 4 ∷ [])) (all (lo 4 ∷ []))
    ∷ turns (all (hi 2 ∷ lo 9 ∷ [])) (all (hi 9 ∷ []))
    ∷ turns (all (hi 11 ∷ [])) (all (lo 2 ∷ []))
    ∷ turns (all (hi 9 ∷ lo 11 ∷ [])) (all (lo 9 ∷ []))
    ∷ turns (all (hi 8 ∷ [])) (all (lo 8 ∷ []))
    ∷ turns (all (hi 2 ∷ lo 13 ∷ [])) (all (hi 13 ∷ []))
    ∷ turns (all (hi 15 ∷ [])) (all (lo 2 ∷ []))
    ∷ turns (all (hi 13 ∷ lo 15 ∷ [])) (all (lo 13 ∷ []))
    ∷ turns (all (hi 12 ∷ [])) (all (lo 12 ∷ []))
    ∷ turns (all (hi 6 ∷ hi 10 ∷ [])) (all (lo 6 ∷ lo 10 ∷ []))
    ∷ turns (all (hi 16 ∷ hi 14 ∷ [])) (all (lo 16 ∷ lo 14 ∷ []))
    ∷ []

three_beside_net : nameless (translation three_beside) ≡ a_net three_beside_rows [] []
three_beside_net = refl

three_beside_names : name_count (translation three_beside) ≡ 18
three_beside_names = refl

-- in L : 2; var x : 2; begin L?x; x := 2 end: a variable with two write sites
abbrev two_sites : TypedProgram
two_sites = record {
  channels = channel In 2 ∷ [];
  vars = var 2 0 ∷ [];
  body =
      (in_turn (and_member (receiving 0 at 0 at) (and_member (assigning 0 at (constant 2 2)) no_members)));
}

abbrev two_sites_rows : List NodeRules
two_sites_rows =
    no_rules
    ∷ turns (all (hi 19 ∷ lo 29 ∷ [])) (all (lo 19 ∷ []))
    ∷ no_rules
    ∷ no_rules
    ∷ no_rules
    ∷ no_rules
    ∷ turns (all (hi 24 ∷ [])) (all (lo 24 ∷ []))
    ∷ turns (all (hi 9 ∷ lo 8 ∷ [])) (all (hi 10 ∷ []))
    ∷ turns (all (hi 10 ∷ lo 7 ∷ [])) (all (hi 9 ∷ []))
    ∷ turns ((hi 25 ∷ []) ∷ (hi 30 ∷ []) ∷ []) (all (lo 25 ∷ lo 30 ∷ []))
    ∷ turns ((hi 26 ∷ []) ∷ (hi 31 ∷ []) ∷ []) (all (lo 26 ∷ lo 31 ∷ []))
    ∷ turns ((hi 9 ∷ hi 7 ∷ []) ∷ (hi 10 ∷ hi 8 ∷ []) ∷ []) (all (lo 9 ∷ lo 10 ∷ []))
    ∷ turns (all (hi 14 ∷ lo 13 ∷ [])) (all (hi 15 ∷ []))
    ∷ turns (all (hi 15 ∷ lo 12 ∷ [])) (all (hi 14 ∷ []))
    ∷ turns ((hi 27 ∷ []) ∷ (hi 32 ∷ []) ∷ []) (all (lo 27 ∷ lo 32 ∷ []))
    ∷ turns ((hi 28 ∷ []) ∷ (hi 33 ∷ []) ∷ []) (all (lo 28 ∷ lo 33 ∷ []))
    ∷ turns ((hi 14 ∷ hi 12 ∷ []) ∷ (hi 15 ∷ hi 13 ∷ []) ∷ []) (all (lo 14 ∷ lo 15 ∷ []))
    ∷ turns (all (hi 11 ∷ hi 16 ∷ [])) (all (lo 11 ∷ lo 16 ∷ []))
    ∷ turns (all (hi 0 ∷ lo 19 ∷ [])) (all (hi 19 ∷ []))
    ∷ turns (all (hi 29 ∷ [])) (all (lo 0 ∷ []))
    ∷ turns (all (hi 18 ∷ lo 21 ∷ [])) (all (hi 21 ∷ []))
    ∷ turns (all (hi 23 ∷ [])) (all (lo 18 ∷ []))
    ∷ turns (all (hi 21 ∷ lo 23 ∷ [])) (all (lo 21 ∷ []))
    ∷ turns (all (hi 20 ∷ hi 6 ∷ [])) (all (lo 6 ∷ []))
    ∷ turns (all (hi 20 ∷ hi 17 ∷ [])) (all (lo 17 ∷ []))
    ∷ turns (all (hi 20 ∷ hi 2 ∷ [])) (all (lo 20 ∷ lo 2 ∷ []))
    ∷ turns (all (hi 20 ∷ hi 3 ∷ [])) (all (lo 20 ∷ lo 3 ∷ []))
    ∷ turns (all (hi 20 ∷ hi 4 ∷ [])) (all (lo 20 ∷ lo 4 ∷ []))
    ∷ turns (all (hi 20 ∷ hi 5 ∷ [])) (all (lo 20 ∷ lo 5 ∷ []))
    ∷ turns (all (hi 22 ∷ hi 17 ∷ [])) (all (lo 17 ∷ []))
    ∷ no_rules
    ∷ turns (all (hi 22 ∷ [])) (all (lo 22 ∷ []))
    ∷ turns (all (hi 22 ∷ [])) (all (lo 22 ∷ []))
    ∷ no_rules
    ∷ []

two_sites_net : nameless (translation two_sites) ≡ a_net two_sites_rows (8 ∷ 13 ∷ []) (wires (channel In 2) (2 ∷ 3 ∷ 4 ∷ 5 ∷ []) 6 ∷ [])
two_sites_net = refl

two_sites_names : name_count (translation two_sites) ≡ 34
two_sites_names = refl

-- out X : 1; out Y : 2; var x : 2 = 1; var y : 2; begin X!x < y; Y!x - y end
abbrev differs : TypedProgram
differs = record {
  channels = channel Out 1 ∷ channel Out 2 ∷ [];
  vars = var 2 1 ∷ var 2 0 ∷ [];
  body =
      (in_turn (and_member (sending 0 at (compared op.Lt (reading 0 1 0 at) (reading 1 1 0 at)))
      (and_member (sending 1 at (chained (reading 0 1 0 at) (and_operation op.Sub (reading 1 1 0 at) no_operations))) no_members)));
}

abbrev differs_rows : List NodeRules
differs_rows =
    no_rules
    ∷ turns (all (hi 33 ∷ lo 50 ∷ [])) (all (lo 33 ∷ []))
    ∷ turns (all (hi 48 ∷ [])) (all (lo 48 ∷ []))
    ∷ turns (all (hi 49 ∷ [])) (all (lo 49 ∷ []))
    ∷ no_rules
    ∷ turns (all (hi 59 ∷ [])) (all (lo 59 ∷ []))
    ∷ turns (all (hi 60 ∷ [])) (all (lo 60 ∷ []))
    ∷ turns (all (hi 63 ∷ [])) (all (lo 63 ∷ []))
    ∷ turns (all (hi 64 ∷ [])) (all (lo 64 ∷ []))
    ∷ no_rules
    ∷ turns (all (hi 12 ∷ lo 11 ∷ [])) (all (hi 13 ∷ []))
    ∷ turns (all (hi 13 ∷ lo 10 ∷ [])) (all (hi 12 ∷ []))
    ∷ no_rules
    ∷ no_rules
    ∷ turns ((hi 12 ∷ hi 10 ∷ []) ∷ (hi 13 ∷ hi 11 ∷ []) ∷ []) (all (lo 12 ∷ lo 13 ∷ []))
    ∷ turns (all (hi 17 ∷ lo 16 ∷ [])) (all (hi 18 ∷ []))
    ∷ turns (all (hi 18 ∷ lo 15 ∷ [])) (all (hi 17 ∷ []))
    ∷ no_rules
    ∷ no_rules
    ∷ turns ((hi 17 ∷ hi 15 ∷ []) ∷ (hi 18 ∷ hi 16 ∷ []) ∷ []) (all (lo 17 ∷ lo 18 ∷ []))
    ∷ turns (all (hi 14 ∷ hi 19 ∷ [])) (all (lo 14 ∷ lo 19 ∷ []))
    ∷ turns (all (hi 23 ∷ lo 22 ∷ [])) (all (hi 24 ∷ []))
    ∷ turns (all (hi 24 ∷ lo 21 ∷ [])) (all (hi 23 ∷ []))
    ∷ no_rules
    ∷ no_rules
    ∷ turns ((hi 23 ∷ hi 21 ∷ []) ∷ (hi 24 ∷ hi 22 ∷ []) ∷ []) (all (lo 23 ∷ lo 24 ∷ []))
    ∷ turns (all (hi 28 ∷ lo 27 ∷ [])) (all (hi 29 ∷ []))
    ∷ turns (all (hi 29 ∷ lo 26 ∷ [])) (all (hi 28 ∷ []))
    ∷ no_rules
    ∷ no_rules
    ∷ turns ((hi 28 ∷ hi 26 ∷ []) ∷ (hi 29 ∷ hi 27 ∷ []) ∷ []) (all (lo 28 ∷ lo 29 ∷ []))
    ∷ turns (all (hi 25 ∷ hi 30 ∷ [])) (all (lo 25 ∷ lo 30 ∷ []))
    ∷ turns (all (hi 0 ∷ lo 33 ∷ [])) (all (hi 33 ∷ []))
    ∷ turns (all (hi 50 ∷ [])) (all (lo 0 ∷ []))
    ∷ turns (all (hi 32 ∷ lo 35 ∷ [])) (all (hi 35 ∷ []))
    ∷ turns (all (hi 37 ∷ [])) (all (lo 32 ∷ []))
    ∷ turns (all (hi 35 ∷ lo 37 ∷ [])) (all (lo 35 ∷ []))
    ∷ turns (all (hi 34 ∷ hi 4 ∷ [])) (all (lo 4 ∷ []))
    ∷ turns (all (hi 34 ∷ hi 10 ∷ [])) (all (lo 34 ∷ []))
    ∷ turns (all (hi 34 ∷ hi 11 ∷ [])) (all (lo 34 ∷ []))
    ∷ turns (all (hi 34 ∷ hi 15 ∷ [])) (all (lo 34 ∷ []))
    ∷ turns (all (hi 34 ∷ hi 16 ∷ [])) (all (lo 34 ∷ []))
    ∷ turns (all (hi 34 ∷ hi 21 ∷ [])) (all (lo 34 ∷ []))
    ∷ turns (all (hi 34 ∷ hi 22 ∷ [])) (all (lo 34 ∷ []))
    ∷ turns (all (hi 34 ∷ hi 26 ∷ [])) (all (lo 34 ∷ []))
    ∷ turns (all (hi 34 ∷ hi 27 ∷ [])) (all (lo 34 ∷ []))
    ∷ turns (all (hi 39 ∷ hi 42 ∷ [])) (all (lo 38 ∷ lo 39 ∷ lo 42 ∷ lo 43 ∷ []))
    ∷ turns ((hi 39 ∷ hi 43 ∷ []) ∷ (hi 38 ∷ hi 43 ∷ []) ∷ (hi 38 ∷ hi 42 ∷ []) ∷ []) (all (lo 38 ∷ lo 39 ∷ lo 42 ∷ lo 43 ∷ []))
    ∷ turns ((hi 41 ∷ hi 44 ∷ hi 47 ∷ []) ∷ (hi 41 ∷ hi 45 ∷ hi 46 ∷ []) ∷ (hi 41 ∷ hi 44 ∷ hi 46 ∷ []) ∷ (hi 40 ∷ hi 44 ∷ hi 46 ∷ []) ∷ [])
    (all (lo 40 ∷ lo 41 ∷ lo 44 ∷ lo 45 ∷ lo 46 ∷ lo 47 ∷ []))
    ∷ turns ((hi 41 ∷ hi 45 ∷ hi 47 ∷ []) ∷ (hi 40 ∷ hi 45 ∷ hi 47 ∷ []) ∷ (hi 40 ∷ hi 44 ∷ hi 47 ∷ []) ∷ (hi 40 ∷ hi 45 ∷ hi 46 ∷ []) ∷ [])
    (all (lo 40 ∷ lo 41 ∷ lo 44 ∷ lo 45 ∷ lo 46 ∷ lo 47 ∷ []))
    ∷ turns (all (hi 36 ∷ hi 9 ∷ [])) (all (lo 9 ∷ []))
    ∷ turns (all (hi 36 ∷ hi 10 ∷ [])) (all (lo 36 ∷ []))
    ∷ turns (all (hi 36 ∷ hi 11 ∷ [])) (all (lo 36 ∷ []))
    ∷ turns (all (hi 36 ∷ hi 15 ∷ [])) (all (lo 36 ∷ []))
    ∷ turns (all (hi 36 ∷ hi 16 ∷ [])) (all (lo 36 ∷ []))
    ∷ turns (all (hi 36 ∷ hi 21 ∷ [])) (all (lo 36 ∷ []))
    ∷ turns (all (hi 36 ∷ hi 22 ∷ [])) (all (lo 36 ∷ []))
    ∷ turns (all (hi 36 ∷ hi 26 ∷ [])) (all (lo 36 ∷ []))
    ∷ turns (all (hi 36 ∷ hi 27 ∷ [])) (all (lo 36 ∷ []))
    ∷ turns ((hi 51 ∷ hi 56 ∷ []) ∷ (hi 52 ∷ hi 55 ∷ []) ∷ []) (all (lo 51 ∷ lo 52 ∷ lo 55 ∷ lo 56 ∷ []))
    ∷ turns ((hi 52 ∷ hi 56 ∷ []) ∷ (hi 51 ∷ hi 55 ∷ []) ∷ []) (all (lo 51 ∷ lo 52 ∷ lo 55 ∷ lo 56 ∷ []))
    ∷ turns (all (hi 52 ∷ hi 55 ∷ [])) (all (lo 51 ∷ lo 52 ∷ lo 55 ∷ lo 56 ∷ []))
    ∷ turns ((hi 52 ∷ hi 56 ∷ []) ∷ (hi 51 ∷ hi 56 ∷ []) ∷ (hi 51 ∷ hi 55 ∷ []) ∷ []) (all (lo 51 ∷ lo 52 ∷ lo 55 ∷ lo 56 ∷ []))
    ∷ turns ((hi 53 ∷ hi 58 ∷ hi 62 ∷ []) ∷ (hi 54 ∷ hi 57 ∷ hi 62 ∷ []) ∷ (hi 54 ∷ hi 58 ∷ hi 61 ∷ []) ∷ (hi 53 ∷ hi 57 ∷ hi 61 ∷ []) ∷ [])
    (all (lo 53 ∷ lo 54 ∷ lo 57 ∷ lo 58 ∷ lo 61 ∷ lo 62 ∷ []))
    ∷ turns ((hi 54 ∷ hi 58 ∷ hi 62 ∷ []) ∷ (hi 53 ∷ hi 57 ∷ hi 62 ∷ []) ∷ (hi 53 ∷ hi 58 ∷ hi 61 ∷ []) ∷ (hi 54 ∷ hi 57 ∷ hi 61 ∷ []) ∷ [])
    (all (lo 53 ∷ lo 54 ∷ lo 57 ∷ lo 58 ∷ lo 61 ∷ lo 62 ∷ []))
    ∷ []

differs_net : nameless (translation differs) ≡ a_net differs_rows (10 ∷ 16 ∷ 22 ∷ 27 ∷ []) (wires (channel Out 1) (2 ∷ 3 ∷ []) 4
    ∷ wires (channel Out 2) (5 ∷ 6 ∷ 7 ∷ 8 ∷ []) 9 ∷ [])
differs_net = refl

differs_names : name_count (translation differs) ≡ 65
differs_names = refl

-- out X : 3; var x : 2 = 2; begin X!{x[0], ~x} end
abbrev joins : TypedProgram
joins = record {
  channels = channel Out 3 ∷ [];
  vars = var 2 2 ∷ [];
  body =
      (sending 0 at (joined (and_part (reading 0 0 0 at) (and_part (inverted (reading 0 1 0 at)) no_parts))));
}

abbrev joins_rows : List NodeRules
joins_rows =
    no_rules
    ∷ turns (all (hi 21 ∷ lo 22 ∷ [])) (all (lo 21 ∷ []))
    ∷ turns (all (hi 26 ∷ [])) (all (lo 26 ∷ []))
    ∷ turns (all (hi 25 ∷ [])) (all (lo 25 ∷ []))
    ∷ turns (all (hi 28 ∷ [])) (all (lo 28 ∷ []))
    ∷ turns (all (hi 27 ∷ [])) (all (lo 27 ∷ []))
    ∷ turns (all (hi 23 ∷ [])) (all (lo 23 ∷ []))
    ∷ turns (all (hi 24 ∷ [])) (all (lo 24 ∷ []))
    ∷ no_rules
    ∷ turns (all (hi 11 ∷ lo 10 ∷ [])) (all (hi 12 ∷ []))
    ∷ turns (all (hi 12 ∷ lo 9 ∷ [])) (all (hi 11 ∷ []))
    ∷ no_rules
    ∷ no_rules
    ∷ turns ((hi 11 ∷ hi 9 ∷ []) ∷ (hi 12 ∷ hi 10 ∷ []) ∷ []) (all (lo 11 ∷ lo 12 ∷ []))
    ∷ turns (all (hi 16 ∷ lo 15 ∷ [])) (all (hi 17 ∷ []))
    ∷ turns (all (hi 17 ∷ lo 14 ∷ [])) (all (hi 16 ∷ []))
    ∷ no_rules
    ∷ no_rules
    ∷ turns ((hi 16 ∷ hi 14 ∷ []) ∷ (hi 17 ∷ hi 15 ∷ []) ∷ []) (all (lo 16 ∷ lo 17 ∷ []))
    ∷ turns (all (hi 13 ∷ hi 18 ∷ [])) (all (lo 13 ∷ lo 18 ∷ []))
    ∷ turns (all (hi 0 ∷ lo 21 ∷ [])) (all (hi 21 ∷ []))
    ∷ turns (all (hi 22 ∷ [])) (all (lo 0 ∷ []))
    ∷ turns (all (hi 20 ∷ hi 8 ∷ [])) (all (lo 8 ∷ []))
    ∷ turns (all (hi 20 ∷ hi 9 ∷ [])) (all (lo 20 ∷ []))
    ∷ turns (all (hi 20 ∷ hi 10 ∷ [])) (all (lo 20 ∷ []))
    ∷ turns (all (hi 20 ∷ hi 9 ∷ [])) (all (lo 20 ∷ []))
    ∷ turns (all (hi 20 ∷ hi 10 ∷ [])) (all (lo 20 ∷ []))
    ∷ turns (all (hi 20 ∷ hi 14 ∷ [])) (all (lo 20 ∷ []))
    ∷ turns (all (hi 20 ∷ hi 15 ∷ [])) (all (lo 20 ∷ []))
    ∷ []

joins_net : nameless (translation joins) ≡ a_net joins_rows (10 ∷ 14 ∷ []) (wires (channel Out 3) (2 ∷ 3 ∷ 4 ∷ 5 ∷ 6 ∷ 7 ∷ []) 8 ∷ [])
joins_net = refl

joins_names : name_count (translation joins) ≡ 29
joins_names = refl
