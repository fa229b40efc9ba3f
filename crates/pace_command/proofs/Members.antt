-- The statements of a group.
use Rattle.std.proofs.Common.{◌≡◌, ap, ◌⊎◌, inl, inr}
use Rattle.std.specs.declared.alloc.Global.{Global}
use Rattle.std.specs.declared.vec.Vec.{Vec}
use Rattle.width_check.specs.declared.typed.TStmt.{TStmt, Then, Beside}
use Rattle.width_check.specs.View.{process_of, members_in}
use Rattle.handshake_expand.proofs.Rows.{then_is, beside_is}
use Rattle.pace_command.specs.FirstNames.{first_name_at, member_name_at}
use Rattle.pace_command.specs.Targets.{reads_target, member_reads_target}

pub group_reads : (s : TStmt) (v : Vec TStmt Global) → (s ≡ Then v) ⊎ (s ≡ Beside v) →
    reads_target (process_of s) ≡ member_reads_target (members_in v.items)
group_reads s v (inl is) = ap reads_target (then_is s v is)
group_reads s v (inr is) = ap reads_target (beside_is s v is)

pub group_names : (s : TStmt) (v : Vec TStmt Global) → (s ≡ Then v) ⊎ (s ≡ Beside v) →
    first_name_at (process_of s) ≡ member_name_at (members_in v.items)
group_names s v (inl is) = ap first_name_at (then_is s v is)
group_names s v (inr is) = ap first_name_at (beside_is s v is)
