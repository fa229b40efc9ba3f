use Rattle.std.proofs.Common.{◌≡◌, ℕ, ◌≤◌, true, List, length, sym, ap, subst, arith}
use Rattle.std.specs.Prelude.{All, Bool}
use Rattle.std.proofs.lemmas.List.Elements.{All-nil}
use Rattle.prs_core.specs.Fans.{is_reader}
use Rattle.guard_rows.specs.Places.{AreRowsBelow, GuardPasses, RowsValue}
use Rattle.guard_rows.proofs.Made.{none_below}
use Rattle.guard_rows.proofs.Added.{up_passes, down_passes}
use Rattle.guard_rows.proofs.rows.made_rows.Goals as goal

pub add-requires-clause-inputs : goal.add-requires-clause-inputs
add-requires-clause-inputs c =
    let net = c.args.net.now in
    let n = c.loop-node.node in
    let raises : GuardPasses (λ k. is_reader net k n) c.up.result.now = subst (GuardPasses (λ k. is_reader net k n)) (sym c.up.ensures) (up_passes net n) in
    let lowers : GuardPasses (λ k. is_reader net k n) c.down.result.now =
    subst (GuardPasses (λ k. is_reader net k n)) (sym c.down.ensures) (down_passes net n) in
    let none : All (λ k. is_reader net k n ≡ true) c.clear.new.self.items =
    subst (λ (ks : List ℕ). All (λ k. is_reader net k n ≡ true) ks) (sym c.clear.ensures.items) (All-nil (λ k. is_reader net k n ≡ true)) in
    c.in_ok-note_guard-2.ensures.pass (λ k. is_reader net k n) lowers (c.in_ok-note_guard.ensures.pass (λ k. is_reader net k n) raises none)

pub add-requires-clause-few : goal.add-requires-clause-few
add-requires-clause-few c = c.in_ok-note_guard-2.ensures.few

pub note_guard-requires-in-loop-node : goal.note_guard-requires-in-loop-node
note_guard-requires-in-loop-node c = record { few = c.in_ok-note_guard.ensures.few }

pub note_guard-requires : goal.note_guard-requires
note_guard-requires c = record { few = subst (λ (ks : List ℕ). length ks ≤ 6) (sym c.clear.ensures.items) (omega arith) }

pub loop-node-init : goal.loop-node-init
loop-node-init c =
    subst (λ (r : RowsValue). AreRowsBelow c.args.net.now c.args.state.now 0 0 r) (sym c.in_ok-rows.ensures)
    (none_below c.args.net.now c.args.state.now (length c.first-nodes.result.now) (ap (λ (bs : List Bool). length bs) c.first-nodes.ensures.first))

pub returns-clause-rows : goal.returns-clause-rows
returns-clause-rows c =
    let first = ap (λ (bs : List Bool). length bs) c.first-nodes.ensures.first in
    let all : c.loop-node.node ≡ length c.args.net.now.first = omega (arith, first, c.loop-node-test.false, c.loop-node.auto.node-end) in
    subst (λ k. AreRowsBelow c.args.net.now c.args.state.now k k c.loop-node.rows) all c.loop-node.invariant
