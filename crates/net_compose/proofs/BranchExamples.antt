-- Nets whose branches are of many nodes, written out from the tables of own nodes and of each construct's rules; the
-- definition gives the same. The rows that a selection and a repetition have in common are written once, with where they stand.
use Rattle.std.proofs.Common.{◌≡◌, ℕ, ◌+◌, true, false, List, [], ◌∷◌, ◌++◌, refl}
use Rattle.chp_base.specs.declared.channel.Kind.TheVariants.{In, Out}
use Rattle.chp_syntax.specs.declared.tree.Op.TheVariants as op
use Rattle.prs_core.specs.declared.wires.Wires.{Wires}
use Rattle.prs_core.specs.Nets.{NodeRules}
use Rattle.width_check.specs.Processes.{Formula, Process, constant, reading, joined, inverted, compared, no_parts, and_part, skipping, assigning, sending, receiving, in_turn, side_by_side, choosing, no_members, and_member, Choices, no_choices, and_choice, TypedProgram}
use Rattle.net_compose.specs.Translation.{translation}
use Rattle.net_compose.proofs.Examples.{at, channel, var, hi, lo, all, turns, no_rules, wires, a_net, nameless, name_count}

-- {x, y[1]}
abbrev both : Formula
both = joined (and_part (reading 0 0 0 at) (and_part (reading 1 1 1 at) no_parts))

-- x = 0 -> L?x; R!y [] x = 1 -> y := ~y; L?x; R!{x, y[1]}: both branches receive and send, and one assigns through a hidden
-- variable
abbrev arms : Choices
arms =
    and_choice (compared op.Eq (reading 0 0 0 at) (constant 1 0))
    (in_turn (and_member (receiving 0 at 0 at) (and_member (sending 1 at (reading 1 1 0 at)) no_members)))
    (and_choice (compared op.Eq (reading 0 0 0 at) (constant 1 1))
    (in_turn (and_member (assigning 1 at (inverted (reading 1 1 0 at))) (and_member (receiving 0 at 0 at) (and_member (sending 1 at (both)) no_members))))
    no_choices)

-- in L : 1; out R : 2; var x : 1 = 1; var y : 2 = 2; begin [x = 0 -> L?x; R!y [] x = 1 -> y := ~y; L?x; R!{x, y[1]}] end
abbrev selects_arms : TypedProgram
selects_arms = record {
  channels = channel In 1 ∷ channel Out 2 ∷ [];
  vars = var 1 1 ∷ var 2 2 ∷ [];
  body = choosing false arms;
}

-- the rows before those of the choice, whose branches begin k nodes further on
abbrev before : ℕ → List NodeRules
before k =
    no_rules
    ∷ turns (all (hi 27 ∷ lo 28 ∷ [])) (all (lo 27 ∷ []))
    ∷ no_rules
    ∷ no_rules
    ∷ turns ((hi (k + 51) ∷ []) ∷ (hi (k + 90) ∷ []) ∷ []) (all (lo (k + 51) ∷ lo (k + 90) ∷ []))
    ∷ turns ((hi (k + 55) ∷ []) ∷ (hi (k + 96) ∷ []) ∷ []) (all (lo (k + 55) ∷ lo (k + 96) ∷ []))
    ∷ turns ((hi (k + 56) ∷ []) ∷ (hi (k + 97) ∷ []) ∷ []) (all (lo (k + 56) ∷ lo (k + 97) ∷ []))
    ∷ turns ((hi (k + 57) ∷ []) ∷ (hi (k + 94) ∷ []) ∷ []) (all (lo (k + 57) ∷ lo (k + 94) ∷ []))
    ∷ turns ((hi (k + 58) ∷ []) ∷ (hi (k + 95) ∷ []) ∷ []) (all (lo (k + 58) ∷ lo (k + 95) ∷ []))
    ∷ no_rules
    ∷ turns (all (hi 12 ∷ lo 11 ∷ [])) (all (hi 13 ∷ []))
    ∷ turns (all (hi 13 ∷ lo 10 ∷ [])) (all (hi 12 ∷ []))
    ∷ turns ((hi (k + 52) ∷ []) ∷ (hi (k + 91) ∷ []) ∷ []) (all (lo (k + 52) ∷ lo (k + 91) ∷ []))
    ∷ turns ((hi (k + 53) ∷ []) ∷ (hi (k + 92) ∷ []) ∷ []) (all (lo (k + 53) ∷ lo (k + 92) ∷ []))
    ∷ turns ((hi 12 ∷ hi 10 ∷ []) ∷ (hi 13 ∷ hi 11 ∷ []) ∷ []) (all (lo 12 ∷ lo 13 ∷ []))
    ∷ turns (all (hi 17 ∷ lo 16 ∷ [])) (all (hi 18 ∷ []))
    ∷ turns (all (hi 18 ∷ lo 15 ∷ [])) (all (hi 17 ∷ []))
    ∷ turns (all (hi (k + 82) ∷ [])) (all (lo (k + 82) ∷ []))
    ∷ turns (all (hi (k + 83) ∷ [])) (all (lo (k + 83) ∷ []))
    ∷ turns ((hi 17 ∷ hi 15 ∷ []) ∷ (hi 18 ∷ hi 16 ∷ []) ∷ []) (all (lo 17 ∷ lo 18 ∷ []))
    ∷ turns (all (hi 22 ∷ lo 21 ∷ [])) (all (hi 23 ∷ []))
    ∷ turns (all (hi 23 ∷ lo 20 ∷ [])) (all (hi 22 ∷ []))
    ∷ turns (all (hi (k + 84) ∷ [])) (all (lo (k + 84) ∷ []))
    ∷ turns (all (hi (k + 85) ∷ [])) (all (lo (k + 85) ∷ []))
    ∷ turns ((hi 22 ∷ hi 20 ∷ []) ∷ (hi 23 ∷ hi 21 ∷ []) ∷ []) (all (lo 22 ∷ lo 23 ∷ []))
    ∷ turns (all (hi 19 ∷ hi 24 ∷ [])) (all (lo 19 ∷ lo 24 ∷ []))
    ∷ turns (all (hi 0 ∷ lo 27 ∷ [])) (all (hi 27 ∷ []))
    ∷ turns (all (hi 28 ∷ [])) (all (lo 0 ∷ []))
    ∷ []

-- and those behind it, where g is the request of the guards
abbrev behind : ℕ → ℕ → List NodeRules
behind g k =
    turns (all (hi (k + 31) ∷ lo (k + 39) ∷ lo (k + 40) ∷ lo (k + 45) ∷ lo (k + 46) ∷ [])) (all (lo (k + 31) ∷ []))
    ∷ turns (all (hi (k + 32) ∷ lo (k + 39) ∷ lo (k + 40) ∷ lo (k + 45) ∷ lo (k + 46) ∷ [])) (all (lo (k + 32) ∷ []))
    ∷ turns (all (hi g ∷ hi 10 ∷ [])) (all (lo g ∷ []))
    ∷ turns (all (hi g ∷ hi 11 ∷ [])) (all (lo g ∷ []))
    ∷ no_rules
    ∷ turns (all (hi g ∷ [])) (all (lo g ∷ []))
    ∷ turns ((hi (k + 36) ∷ hi (k + 38) ∷ []) ∷ (hi (k + 35) ∷ hi (k + 37) ∷ []) ∷ []) (all (lo (k + 35) ∷ lo (k + 36) ∷ lo (k + 37) ∷ lo (k + 38) ∷ []))
    ∷ turns ((hi (k + 35) ∷ hi (k + 38) ∷ []) ∷ (hi (k + 36) ∷ hi (k + 37) ∷ []) ∷ []) (all (lo (k + 35) ∷ lo (k + 36) ∷ lo (k + 37) ∷ lo (k + 38) ∷ []))
    ∷ turns (all (hi g ∷ hi 10 ∷ [])) (all (lo g ∷ []))
    ∷ turns (all (hi g ∷ hi 11 ∷ [])) (all (lo g ∷ []))
    ∷ turns (all (hi g ∷ [])) (all (lo g ∷ []))
    ∷ no_rules
    ∷ turns ((hi (k + 42) ∷ hi (k + 44) ∷ []) ∷ (hi (k + 41) ∷ hi (k + 43) ∷ []) ∷ []) (all (lo (k + 41) ∷ lo (k + 42) ∷ lo (k + 43) ∷ lo (k + 44) ∷ []))
    ∷ turns ((hi (k + 41) ∷ hi (k + 44) ∷ []) ∷ (hi (k + 42) ∷ hi (k + 43) ∷ []) ∷ []) (all (lo (k + 41) ∷ lo (k + 42) ∷ lo (k + 43) ∷ lo (k + 44) ∷ []))
    ∷ turns (all (hi (k + 33) ∷ lo (k + 48) ∷ [])) (all (hi (k + 48) ∷ []))
    ∷ turns (all (hi (k + 50) ∷ [])) (all (lo (k + 33) ∷ []))
    ∷ turns (all (hi (k + 48) ∷ lo (k + 50) ∷ [])) (all (lo (k + 48) ∷ []))
    ∷ turns (all (hi (k + 47) ∷ hi 4 ∷ [])) (all (lo 4 ∷ []))
    ∷ turns (all (hi (k + 47) ∷ hi 14 ∷ [])) (all (lo 14 ∷ []))
    ∷ turns (all (hi (k + 47) ∷ hi 2 ∷ [])) (all (lo (k + 47) ∷ lo 2 ∷ []))
    ∷ turns (all (hi (k + 47) ∷ hi 3 ∷ [])) (all (lo (k + 47) ∷ lo 3 ∷ []))
    ∷ turns (all (hi (k + 49) ∷ hi 9 ∷ [])) (all (lo 9 ∷ []))
    ∷ turns (all (hi (k + 49) ∷ hi 15 ∷ [])) (all (lo (k + 49) ∷ []))
    ∷ turns (all (hi (k + 49) ∷ hi 16 ∷ [])) (all (lo (k + 49) ∷ []))
    ∷ turns (all (hi (k + 49) ∷ hi 20 ∷ [])) (all (lo (k + 49) ∷ []))
    ∷ turns (all (hi (k + 49) ∷ hi 21 ∷ [])) (all (lo (k + 49) ∷ []))
    ∷ turns (all (hi (k + 34) ∷ lo (k + 60) ∷ [])) (all (hi (k + 60) ∷ []))
    ∷ turns (all (hi (k + 81) ∷ [])) (all (lo (k + 34) ∷ []))
    ∷ turns (all (hi (k + 60) ∷ lo (k + 81) ∷ [])) (all (lo (k + 60) ∷ []))
    ∷ turns (all (hi (k + 64) ∷ lo (k + 63) ∷ [])) (all (hi (k + 65) ∷ []))
    ∷ turns (all (hi (k + 65) ∷ lo (k + 62) ∷ [])) (all (hi (k + 64) ∷ []))
    ∷ turns (all (hi (k + 78) ∷ [])) (all (lo (k + 78) ∷ []))
    ∷ turns (all (hi (k + 77) ∷ [])) (all (lo (k + 77) ∷ []))
    ∷ turns ((hi (k + 64) ∷ hi (k + 62) ∷ []) ∷ (hi (k + 65) ∷ hi (k + 63) ∷ []) ∷ []) (all (lo (k + 64) ∷ lo (k + 65) ∷ []))
    ∷ turns (all (hi (k + 69) ∷ lo (k + 68) ∷ [])) (all (hi (k + 70) ∷ []))
    ∷ turns (all (hi (k + 70) ∷ lo (k + 67) ∷ [])) (all (hi (k + 69) ∷ []))
    ∷ turns (all (hi (k + 80) ∷ [])) (all (lo (k + 80) ∷ []))
    ∷ turns (all (hi (k + 79) ∷ [])) (all (lo (k + 79) ∷ []))
    ∷ turns ((hi (k + 69) ∷ hi (k + 67) ∷ []) ∷ (hi (k + 70) ∷ hi (k + 68) ∷ []) ∷ []) (all (lo (k + 69) ∷ lo (k + 70) ∷ []))
    ∷ turns (all (hi (k + 66) ∷ hi (k + 71) ∷ [])) (all (lo (k + 66) ∷ lo (k + 71) ∷ []))
    ∷ turns (all (hi (k + 59) ∷ lo (k + 74) ∷ [])) (all (hi (k + 74) ∷ []))
    ∷ turns (all (hi (k + 76) ∷ [])) (all (lo (k + 59) ∷ []))
    ∷ turns (all (hi (k + 74) ∷ lo (k + 76) ∷ [])) (all (lo (k + 74) ∷ []))
    ∷ turns (all (hi (k + 73) ∷ hi (k + 72) ∷ [])) (all (lo (k + 72) ∷ []))
    ∷ turns (all (hi (k + 73) ∷ hi 15 ∷ [])) (all (lo (k + 73) ∷ []))
    ∷ turns (all (hi (k + 73) ∷ hi 16 ∷ [])) (all (lo (k + 73) ∷ []))
    ∷ turns (all (hi (k + 73) ∷ hi 20 ∷ [])) (all (lo (k + 73) ∷ []))
    ∷ turns (all (hi (k + 73) ∷ hi 21 ∷ [])) (all (lo (k + 73) ∷ []))
    ∷ turns (all (hi (k + 75) ∷ hi 25 ∷ [])) (all (lo 25 ∷ []))
    ∷ turns (all (hi (k + 75) ∷ hi (k + 62) ∷ [])) (all (lo (k + 75) ∷ []))
    ∷ turns (all (hi (k + 75) ∷ hi (k + 63) ∷ [])) (all (lo (k + 75) ∷ []))
    ∷ turns (all (hi (k + 75) ∷ hi (k + 67) ∷ [])) (all (lo (k + 75) ∷ []))
    ∷ turns (all (hi (k + 75) ∷ hi (k + 68) ∷ [])) (all (lo (k + 75) ∷ []))
    ∷ turns (all (hi (k + 61) ∷ lo (k + 87) ∷ [])) (all (hi (k + 87) ∷ []))
    ∷ turns (all (hi (k + 89) ∷ [])) (all (lo (k + 61) ∷ []))
    ∷ turns (all (hi (k + 87) ∷ lo (k + 89) ∷ [])) (all (lo (k + 87) ∷ []))
    ∷ turns (all (hi (k + 86) ∷ hi 4 ∷ [])) (all (lo 4 ∷ []))
    ∷ turns (all (hi (k + 86) ∷ hi 14 ∷ [])) (all (lo 14 ∷ []))
    ∷ turns (all (hi (k + 86) ∷ hi 2 ∷ [])) (all (lo (k + 86) ∷ lo 2 ∷ []))
    ∷ turns (all (hi (k + 86) ∷ hi 3 ∷ [])) (all (lo (k + 86) ∷ lo 3 ∷ []))
    ∷ turns (all (hi (k + 88) ∷ hi 9 ∷ [])) (all (lo 9 ∷ []))
    ∷ turns (all (hi (k + 88) ∷ hi 10 ∷ [])) (all (lo (k + 88) ∷ []))
    ∷ turns (all (hi (k + 88) ∷ hi 11 ∷ [])) (all (lo (k + 88) ∷ []))
    ∷ turns (all (hi (k + 88) ∷ hi 20 ∷ [])) (all (lo (k + 88) ∷ []))
    ∷ turns (all (hi (k + 88) ∷ hi 21 ∷ [])) (all (lo (k + 88) ∷ []))
    ∷ []

abbrev selects_arms_rows : List NodeRules
selects_arms_rows =
    before 0 ++ (turns ((hi 54 ∷ []) ∷ (hi 93 ∷ []) ∷ []) (all (lo 30 ∷ lo 54 ∷ lo 93 ∷ []))
    ∷ turns (all (hi 26 ∷ lo 30 ∷ [])) (all (hi 30 ∷ []))
    ∷ turns ((hi 31 ∷ []) ∷ (hi 32 ∷ []) ∷ []) (all (lo 31 ∷ lo 32 ∷ []))
    ∷ turns (all (hi 39 ∷ hi 46 ∷ [])) (all (lo 26 ∷ []))
    ∷ turns (all (hi 40 ∷ hi 45 ∷ [])) (all (lo 26 ∷ []))
    ∷ behind 29 0)

abbrev selects_arms_wires : List Wires
selects_arms_wires =
    wires (channel In 1) (2 ∷ 3 ∷ []) 4 ∷ wires (channel Out 2) (5 ∷ 6 ∷ 7 ∷ 8 ∷ []) 9 ∷ []

selects_arms_net : nameless (translation selects_arms) ≡ a_net selects_arms_rows (10 ∷ 16 ∷ 20 ∷ 63 ∷ 68 ∷ []) selects_arms_wires
selects_arms_net = refl

selects_arms_names : name_count (translation selects_arms) ≡ 98
selects_arms_names = refl

-- the same as a guarded repetition: begin *[x = 0 -> L?x; R!y [] x = 1 -> y := ~y; L?x; R!{x, y[1]}] end
abbrev repeats_arms : TypedProgram
repeats_arms = record {
  channels = channel In 1 ∷ channel Out 2 ∷ [];
  vars = var 1 1 ∷ var 2 2 ∷ [];
  body = choosing true arms;
}

abbrev repeats_arms_rows : List NodeRules
repeats_arms_rows =
    before 3 ++ (turns (all (hi 33 ∷ lo 42 ∷ lo 43 ∷ lo 48 ∷ lo 49 ∷ [])) (all (lo 32 ∷ []))
    ∷ turns (all (hi 26 ∷ lo 30 ∷ [])) ((hi 30 ∷ []) ∷ (lo 26 ∷ []) ∷ [])
    ∷ turns ((hi 57 ∷ []) ∷ (hi 96 ∷ []) ∷ []) (all (lo 32 ∷ lo 57 ∷ lo 96 ∷ []))
    ∷ turns (all (hi 29 ∷ lo 32 ∷ [])) (all (hi 32 ∷ []))
    ∷ turns ((hi 33 ∷ []) ∷ (hi 34 ∷ []) ∷ (hi 35 ∷ []) ∷ []) (all (lo 33 ∷ lo 34 ∷ lo 35 ∷ []))
    ∷ turns (all (hi 43 ∷ hi 49 ∷ [])) (all (lo 29 ∷ []))
    ∷ turns (all (hi 42 ∷ hi 49 ∷ [])) (all (lo 29 ∷ []))
    ∷ turns (all (hi 43 ∷ hi 48 ∷ [])) (all (lo 29 ∷ []))
    ∷ behind 31 3)

abbrev repeats_arms_wires : List Wires
repeats_arms_wires =
    wires (channel In 1) (2 ∷ 3 ∷ []) 4 ∷ wires (channel Out 2) (5 ∷ 6 ∷ 7 ∷ 8 ∷ []) 9 ∷ []

repeats_arms_net : nameless (translation repeats_arms) ≡ a_net repeats_arms_rows (10 ∷ 16 ∷ 20 ∷ 66 ∷ 71 ∷ []) repeats_arms_wires
repeats_arms_net = refl

repeats_arms_names : name_count (translation repeats_arms) ≡ 101
repeats_arms_names = refl

-- X!1; x := 1: a branch of many nodes, before others
abbrev first_branch : Process
first_branch = in_turn (and_member (sending 0 at (constant 1 1)) (and_member (assigning 0 at (constant 1 1)) no_members))

-- out X : 1; out Y : 1; var x : 1; begin (X!1; x := 1) || skip || Y!0 end
abbrev beside_more : TypedProgram
beside_more = record {
  channels = channel Out 1 ∷ channel Out 1 ∷ [];
  vars = var 1 0 ∷ [];
  body = side_by_side (and_member first_branch (and_member skipping (and_member (sending 1 at (constant 1 0)) no_members)));
}

abbrev beside_more_rows : List NodeRules
beside_more_rows =
    no_rules
    ∷ turns (all (hi 14 ∷ lo 38 ∷ [])) (all (lo 14 ∷ []))
    ∷ turns (all (hi 22 ∷ [])) (all (lo 22 ∷ []))
    ∷ turns (all (hi 23 ∷ [])) (all (lo 23 ∷ []))
    ∷ no_rules
    ∷ turns (all (hi 35 ∷ [])) (all (lo 35 ∷ []))
    ∷ turns (all (hi 36 ∷ [])) (all (lo 36 ∷ []))
    ∷ no_rules
    ∷ turns (all (hi 10 ∷ lo 9 ∷ [])) (all (hi 11 ∷ []))
    ∷ turns (all (hi 11 ∷ lo 8 ∷ [])) (all (hi 10 ∷ []))
    ∷ turns (all (hi 25 ∷ [])) (all (lo 25 ∷ []))
    ∷ turns (all (hi 26 ∷ [])) (all (lo 26 ∷ []))
    ∷ turns ((hi 10 ∷ hi 8 ∷ []) ∷ (hi 11 ∷ hi 9 ∷ []) ∷ []) (all (lo 10 ∷ lo 11 ∷ []))
    ∷ turns (all (hi 0 ∷ lo 14 ∷ [])) (all (hi 14 ∷ []))
    ∷ turns (all (hi 38 ∷ [])) (all (lo 0 ∷ []))
    ∷ turns (all (hi 13 ∷ lo 16 ∷ [])) (all (hi 16 ∷ []))
    ∷ turns (all (hi 24 ∷ [])) (all (lo 13 ∷ []))
    ∷ turns (all (hi 16 ∷ lo 24 ∷ [])) (all (lo 16 ∷ []))
    ∷ turns (all (hi 15 ∷ lo 19 ∷ [])) (all (hi 19 ∷ []))
    ∷ turns (all (hi 21 ∷ [])) (all (lo 15 ∷ []))
    ∷ turns (all (hi 19 ∷ lo 21 ∷ [])) (all (lo 19 ∷ []))
    ∷ turns (all (hi 18 ∷ hi 4 ∷ [])) (all (lo 4 ∷ []))
    ∷ turns (all (hi 18 ∷ [])) (all (lo 18 ∷ []))
    ∷ no_rules
    ∷ turns (all (hi 20 ∷ hi 12 ∷ [])) (all (lo 12 ∷ []))
    ∷ turns (all (hi 20 ∷ [])) (all (lo 20 ∷ []))
    ∷ no_rules
    ∷ turns (all (hi 13 ∷ lo 28 ∷ [])) (all (hi 28 ∷ []))
    ∷ turns (all (hi 30 ∷ [])) (all (lo 13 ∷ []))
    ∷ turns (all (hi 28 ∷ lo 30 ∷ [])) (all (lo 28 ∷ []))
    ∷ turns (all (hi 27 ∷ [])) (all (lo 27 ∷ []))
    ∷ turns (all (hi 13 ∷ lo 32 ∷ [])) (all (hi 32 ∷ []))
    ∷ turns (all (hi 34 ∷ [])) (all (lo 13 ∷ []))
    ∷ turns (all (hi 32 ∷ lo 34 ∷ [])) (all (lo 32 ∷ []))
    ∷ turns (all (hi 31 ∷ hi 7 ∷ [])) (all (lo 7 ∷ []))
    ∷ no_rules
    ∷ turns (all (hi 31 ∷ [])) (all (lo 31 ∷ []))
    ∷ turns (all (hi 17 ∷ hi 29 ∷ [])) (all (lo 17 ∷ lo 29 ∷ []))
    ∷ turns (all (hi 37 ∷ hi 33 ∷ [])) (all (lo 37 ∷ lo 33 ∷ []))
    ∷ []

abbrev beside_more_wires : List Wires
beside_more_wires =
    wires (channel Out 1) (2 ∷ 3 ∷ []) 4 ∷ wires (channel Out 1) (5 ∷ 6 ∷ []) 7 ∷ []

beside_more_net : nameless (translation beside_more) ≡ a_net beside_more_rows (9 ∷ []) beside_more_wires
beside_more_net = refl

beside_more_names : name_count (translation beside_more) ≡ 39
beside_more_names = refl
