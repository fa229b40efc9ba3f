use Rattle.std.proofs.Common.{◌≡◌, ℕ, ap, subst}
use Rattle.std.specs.Prelude.{IfOk}
use Rattle.width_check.specs.Typed.{program_of}
use Rattle.handshake_expand.specs.Layout.{capped}
use Rattle.pace_bound.proofs.Whole.{longest_whole}
use Rattle.pace_bound.proofs.longest.longest_of.Goals as goal

pub returns : goal.returns
returns c =
    let P = program_of c.args.program.now in
    subst (λ (m : ℕ). IfOk c.longest_by.result (λ n. n ≡ m)) (ap capped (longest_whole P)) c.longest_by.ensures.bound
