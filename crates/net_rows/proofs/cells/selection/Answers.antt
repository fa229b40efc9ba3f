use Rattle.std.proofs.Common.{refl}
use Rattle.net_rows.proofs.WorkedSelection.{selection_is}
use Rattle.net_rows.proofs.cells.selection.Goals as goal

pub returns : goal.returns
returns c =
    selection_is _ refl refl refl refl c.in_ok-from_slice.ensures.items c.in_ok-from_slice-2.ensures.items c.in_ok-from_slice-3.ensures.items
    c.in_ok-from_slice-4.ensures.items
