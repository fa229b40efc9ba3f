-- A set with a node that is to leave it.
use Rattle.std.proofs.Common.{◌≡◌, ◌≢◌, ℕ, Bool, true, false, List, length, set, refl, sym, ap, ◌∙◌}
use Rattle.std.specs.Prelude.{Option, Some, None}
use Rattle.std.proofs.lemmas.List.{length-set, set-set, set_comm, set-get_or}
use Rattle.event_sim.specs.Locality.{is_member, once_left}

pub same_count : (marks : List Bool) (leaving : Option ℕ) → length (once_left marks leaving) ≡ length marks
same_count marks None = refl
same_count marks (Some n) = length-set marks n false

-- it stays after all
pub back_in : (marks : List Bool) (n : ℕ) → is_member marks n ≡ true → marks ≡ set (set marks n false) n true
back_in marks n is = sym (set-set marks n false true ∙ ap (set marks n) (sym is) ∙ set-get_or marks n false)

-- another one is put in or taken out
pub beside : (marks : List Bool) (left node : ℕ) (b : Bool) → left ≢ node → set (set marks node b) left false ≡ set (set marks left false) node b
beside marks left node b apart = set_comm marks node left b false (λ e. apart (sym e))
