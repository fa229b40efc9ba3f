use Rattle.std.proofs.Common.{ap, ◌∙◌, ⊎_elim, nat_eq, rules}
use Rattle.std.specs.HashMap.{get}
use Rattle.chp_base.specs.declared.span.Span.{Span}
use Rattle.width_check.specs.Order.{IsNoLater}
use Rattle.width_check.proofs.Alike.{not_so}
use Rattle.sharing_check.proofs.Orders.{no_later_total}
use Rattle.sharing_check.proofs.TableLemmas.{noted}
use Rattle.sharing_check.proofs.table.note.Goals as goal

pub returns-in_ok-insert : goal.returns-in_ok-insert
returns-in_ok-insert c = λ x.
    noted _ _ x _ _ (c.in_ok-insert.ensures.updates.0 x) (λ s same old.
    let at : Span = c.args.at in
    ⊎_elim (λ (h : IsNoLater at s). h) (λ (h : IsNoLater s at).
    absurd (not_so _ _ c.is_noted.ensures (search rules) (s, ap (get nat_eq c.args.table.now) same ∙ old, h))) (no_later_total at s))
