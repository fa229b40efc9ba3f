use Rattle.std.proofs.Common.{sym}
use Rattle.width_check.proofs.OwnWidths.{widthless_comparison, widthless_link, widthless_all}
use Rattle.width_check.proofs.scope.+is_widthless.Goals as goal

pub returns-then-compares : goal.returns-then-compares
returns-then-compares t c = λ ds. widthless_comparison ds _ _ _ _ _ c.in-Chain.is c.deref-in-Chain.ensures.value (sym c.if-compares.ensures)

pub returns-then-not-is_widthless-2 : goal.returns-then-not-is_widthless-2
returns-then-not-is_widthless-2 t c = λ ds.
    let none = rw c.deref-in-Chain-2.ensures at c.if-not-is_widthless.ensures ds in
    widthless_link ds _ _ _ _ _ _ c.loop-link.link-index _ c.in-Chain.is c.deref-in-Chain.ensures.value c.deref-link-items.ensures.value
    (sym c.if-compares.ensures) none c.loop-link-test.true c.link-item.is (c.loop-link.invariant ds) (c.if-not-is_widthless-2.ensures ds)

pub returns-after-loop-link : goal.returns-after-loop-link
returns-after-loop-link t c = λ ds.
    let none = rw c.deref-in-Chain-2.ensures at c.if-not-is_widthless.ensures ds in
    widthless_all ds _ _ _ _ _ _ c.loop-link.link-index c.in-Chain.is c.deref-in-Chain.ensures.value c.deref-link-items.ensures.value
    (sym c.if-compares.ensures) none c.loop-link-test.false (c.loop-link.invariant ds)
