-- How many nodes the circuits of some programs have.
use Rattle.std.proofs.Common.{◌≡◌, ℕ, zero, suc, ◌+◌, ◌-◌, ◌*◌, true, false, List, [], ◌∷◌, refl, arith}
use Rattle.chp_base.specs.declared.span.Span.{Span}
use Rattle.chp_base.specs.declared.channel.Channel.{Channel}
use Rattle.chp_base.specs.declared.channel.Kind.{Kind}
use Rattle.chp_base.specs.declared.channel.Kind.TheVariants.{In, Out, Chan}
use Rattle.chp_syntax.specs.declared.tree.Op.{Op}
use Rattle.chp_syntax.specs.declared.tree.Op.TheVariants as op
use Rattle.width_check.specs.declared.typed.Var.{Var}
use Rattle.width_check.specs.Processes.{Formula, constant, reading, inverted, chained, compared, no_operations, and_operation, Process, skipping, assigning, sending, receiving, in_turn, side_by_side, choosing, repeating, Processes, no_members, and_member, no_choices, and_choice, TypedProgram}
use Rattle.handshake_expand.specs.Layout.{turn_size, nodes_of, node_count}

abbrev at : Span
at = record { from = 0; to = 1 }

abbrev channel : Kind → ℕ → Channel
channel kind width = record { name = []; kind = kind; width = width }

abbrev var : ℕ → ℕ → Var
var width first = record { name = []; width = width; first = first }

abbrev program : List Channel → List Var → Process → TypedProgram
program channels vars body = record { channels = channels; vars = vars; body = body }

abbrev both : Process → Process → Process
both p q = in_turn (and_member p (and_member q no_members))

abbrev beside : Process → Process → Process
beside p q = side_by_side (and_member p (and_member q no_members))

-- the whole variable, of this width
abbrev whole : ℕ → ℕ → Formula
whole x width = reading x (width - 1) 0 at

abbrev with : Op → Formula → Formula → Formula
with o e f = chained e (and_operation o f no_operations)

-- begin skip end
does_nothing : node_count (program [] [] skipping) ≡ 5
does_nothing = refl

-- out X : 1; begin X!1 end
sends_once : node_count (program (channel Out 1 ∷ []) [] (sending 0 at (constant 1 1))) ≡ 10
sends_once = refl

-- out X : 1; begin *[X!1; X!0] end
sends_in_turn : node_count (program (channel Out 1 ∷ []) [] (repeating (both (sending 0 at (constant 1 1)) (sending 0 at (constant 1 0))))) ≡ 18
sends_in_turn = refl

-- out R : 4; var x : 4 = 5; begin R!x end
sends_a_variable : node_count (program (channel Out 4 ∷ []) (var 4 5 ∷ []) (sending 0 at (whole 0 4))) ≡ 45
sends_a_variable = refl

-- in L : 4; out R : 4; var x : 4; begin *[L?x; R!x] end
copies : node_count (program (channel In 4 ∷ channel Out 4 ∷ []) (var 4 0 ∷ []) (repeating (both (receiving 0 at 0 at) (sending 1 at (whole 0 4))))) ≡ 69
copies = refl

-- chan X : 1; var v : 1; begin X!1 || X?v end
meets : node_count (program (channel Chan 1 ∷ []) (var 1 0 ∷ []) (beside (sending 0 at (constant 1 1)) (receiving 0 at 0 at))) ≡ 26
meets = refl

-- out A : 1; out B : 1; var x : 2; begin [x = 0 -> A!1 [] x < 2 -> B!1] end
chooses : node_count (program (channel Out 1 ∷ channel Out 1 ∷ []) (var 2 0 ∷ [])
    (choosing false (and_choice (compared op.Eq (whole 0 2) (constant 2 0)) (sending 0 at (constant 1 1))
    (and_choice (compared op.Lt (whole 0 2) (constant 2 2)) (sending 1 at (constant 1 1)) no_choices)))) ≡ 60
chooses = refl

-- out R : 8; var x : 8 = 255; begin x := x + 1; R!x end
counts_over : node_count (program (channel Out 8 ∷ []) (var 8 255 ∷ [])
    (both (assigning 0 at (with op.Add (whole 0 8) (constant 8 1))) (sending 0 at (whole 0 8)))) ≡ 218
counts_over = refl

-- var x : 1 = 1; begin *[x = 0 -> skip] end
leaves_at_once : node_count (program [] (var 1 1 ∷ []) (choosing true (and_choice (compared op.Eq (whole 0 1) (constant 1 0)) skipping no_choices))) ≡ 24
leaves_at_once = refl

-- out R : 4; var x : 4; begin *[x < 3 -> x := x + 1]; R!x end
counts_up : node_count (program (channel Out 4 ∷ []) (var 4 0 ∷ [])
    (both (choosing true (and_choice (compared op.Lt (whole 0 4) (constant 4 3)) (assigning 0 at (with op.Add (whole 0 4) (constant 4 1))) no_choices))
    (sending 0 at (whole 0 4)))) ≡ 146
counts_up = refl

-- in c0 : 8; chan c1 : 8; out c2 : 8; var v1 : 8; var v2 : 8; begin *[c0?v1; c1!~v1] || *[c1?v2; c2!v2 ^ 2] end
two_stages : node_count (program (channel In 8 ∷ channel Chan 8 ∷ channel Out 8 ∷ []) (var 8 0 ∷ var 8 0 ∷ [])
    (beside (repeating (both (receiving 0 at 0 at) (sending 1 at (inverted (whole 0 8)))))
    (repeating (both (receiving 1 at 1 at) (sending 2 at (with op.Xor (whole 1 8) (constant 8 2))))))) ≡ 268
two_stages = refl

-- chan X : 1; begin skip; skip; .. end, with so many skips

abbrev skips : ℕ → Processes
skips zero = no_members
skips (suc n) = and_member skipping (skips n)

abbrev skips_in_turn : ℕ → TypedProgram
skips_in_turn n = program (channel Chan 1 ∷ []) [] (in_turn (skips n))

three_skips : node_count (skips_in_turn 3) ≡ 16
three_skips = refl

skips_size : (p : TypedProgram) (n : ℕ) → turn_size p (skips (suc n)) ≡ 4 * n + 1
skips_size p zero = refl
skips_size p (suc n) = let e : turn_size p (skips (suc n)) ≡ 4 * n + 1 = skips_size p n in omega arith

skips_nodes : (n : ℕ) → nodes_of (skips_in_turn (suc n)) ≡ 4 * n + 8
skips_nodes n = let e : turn_size (skips_in_turn (suc n)) (skips (suc n)) ≡ 4 * n + 1 = skips_size (skips_in_turn (suc n)) n in omega arith

-- the most that fit into a net, and one more
pub most_skips : nodes_of (skips_in_turn 16383) ≡ 65536
most_skips = skips_nodes 16382

pub one_skip_more : nodes_of (skips_in_turn 16384) ≡ 65540
one_skip_more = skips_nodes 16383
