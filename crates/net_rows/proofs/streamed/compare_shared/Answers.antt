use Rattle.net_rows.proofs.MadeNets.{shared_plain, shared_free}
use Rattle.net_rows.proofs.streamed.compare_shared.Goals as goal

pub printed-requires-clause-plain : goal.printed-requires-clause-plain
printed-requires-clause-plain c = shared_plain c.requires.inlined c.translate_calls-made.result c.translate_calls-made.ensures.net

pub printed-requires-clause-free : goal.printed-requires-clause-free
printed-requires-clause-free c = shared_free c.requires.inlined c.translate_calls-made.result c.translate_calls-made.ensures.net
