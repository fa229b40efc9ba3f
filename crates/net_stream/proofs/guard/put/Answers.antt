use Rattle.std.proofs.Common.{arith}
use Rattle.std.proofs.lemmas.Result.{on_ok_weaker}
use Rattle.net_stream.proofs.Puts.{literal_put}
use Rattle.net_stream.proofs.guard.put.Goals as goal

pub returns-clause-put : goal.returns-clause-put
returns-clause-put c =
    on_ok_weaker c.literal_text.result (λ e. literal_put c.args.net.now c.args.lead c.args.literal c.name.result.now _ _ _ _ c.name.ensures.value
    c.name.ensures.name (omega (arith, c.args.to.now.ok)) (omega (arith, c.literal_text.new.to.ok)) e) c.literal_text.ensures.ok
