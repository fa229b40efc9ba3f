use Rattle.std.proofs.Common.{arith}
use Rattle.net_compose.proofs.NamesCut.{ends_kept}
use Rattle.net_compose.proofs.names.add_text.Goals as goal

pub returns-in-Err-clause-ends : goal.returns-in-Err-clause-ends
returns-in-Err-clause-ends c =
    ends_kept c.args.bytes.now.items _ _ c.args.ends.now.items _ c.len-before.result c.requires c.in-Err.ensures.front
    (omega (arith, c.len-before.ensures, c.args.bytes.now.ok)) c.truncate.ensures.items c.in-Err.ensures.kept
