use Rattle.std.proofs.Common.{sym, subst, vec_len}
use Rattle.net_compose.specs.Circuits.{term_end}
use Rattle.net_stream.specs.Led.{IsTermPut, and_behind}
use Rattle.net_stream.proofs.Puts.{no_literals}
use Rattle.net_stream.proofs.guard.term_end_text.Goals as goal

pub returns-in-Plain-clause-put : goal.returns-in-Plain-clause-put
returns-in-Plain-clause-put c =
    subst (λ e. IsTermPut c.args.net.now c.args.lead (and_behind c.args.lead (term_end e)) (term_end e) c.args.to.now.items c.args.to.now.items
    (vec_len c.args.to.now)
    (vec_len c.args.to.now)) (sym c.in-Plain.is)
    (no_literals c.args.net.now c.args.lead _ _)

pub returns-in-Forced-clause-put : goal.returns-in-Forced-clause-put
returns-in-Forced-clause-put c =
    subst (λ e. IsTermPut c.args.net.now c.args.lead (and_behind c.args.lead (term_end e)) (term_end e) c.args.to.now.items c.args.to.now.items
    (vec_len c.args.to.now)
    (vec_len c.args.to.now)) (sym c.in-Forced.is)
    (no_literals c.args.net.now c.args.lead _ _)
