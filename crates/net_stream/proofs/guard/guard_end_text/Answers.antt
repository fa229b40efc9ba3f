use Rattle.std.proofs.Common.{[], ◌∷◌, sym, subst, vec_len}
use Rattle.prs_core.specs.Nets.{is_high}
use Rattle.prs_file.specs.declared.forms.Lead.TheVariants.{And, Or}
use Rattle.net_compose.specs.Circuits.{guard_end}
use Rattle.net_stream.specs.Led.{IsPut}
use Rattle.net_stream.proofs.Puts.{no_terms, one_put}
use Rattle.net_stream.proofs.guard.guard_end_text.Goals as goal

pub returns-in-Plain-clause-put : goal.returns-in-Plain-clause-put
returns-in-Plain-clause-put c =
    subst (λ e. IsPut c.args.net.now c.args.lead c.args.lead (guard_end e) c.args.to.now.items c.args.to.now.items (vec_len c.args.to.now)
    (vec_len c.args.to.now)) (sym c.in-Plain.is) (no_terms c.args.net.now c.args.lead _ _)

pub returns-in-Held-clause-put : goal.returns-in-Held-clause-put
returns-in-Held-clause-put c =
    subst (λ e. IsPut c.args.net.now c.args.lead c.args.lead (guard_end e) c.args.to.now.items c.args.to.now.items (vec_len c.args.to.now)
    (vec_len c.args.to.now)) (sym c.in-Held.is) (no_terms c.args.net.now c.args.lead _ _)

pub returns-in_ok-put-in-Forced-clause-put : goal.returns-in_ok-put-in-Forced-clause-put
returns-in_ok-put-in-Forced-clause-put c =
    subst (λ e. IsPut c.args.net.now c.args.lead Or (guard_end e) c.args.to.now.items c.put.new.to.items (vec_len c.args.to.now) (vec_len c.put.new.to))
    (sym c.in-Forced.is)
    (one_put c.args.net.now c.args.lead And (is_high c.in-Forced.reset ∷ []) c.args.to.now.items c.put.new.to.items (vec_len c.args.to.now)
    (vec_len c.put.new.to) c.in_ok-put-in-Forced.ensures.put)
