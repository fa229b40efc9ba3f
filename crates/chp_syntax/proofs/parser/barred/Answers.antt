use Rattle.chp_syntax.specs.Refusals.{IsSpoken, RefusedTokens, a_probe, an_arbiter, too_deep}
use Rattle.chp_syntax.proofs.parser.barred.Goals as goal

pub returns-in-Some-clause-some : goal.returns-in-Some-clause-some
returns-in-Some-clause-some c end = a_probe c.in-Some.ensures.some

pub returns-in-Some-arbiter-clause-some : goal.returns-in-Some-arbiter-clause-some
returns-in-Some-arbiter-clause-some c end = an_arbiter c.in_default.ensures.none c.in-Some-arbiter.ensures.some

pub returns-in-Some-too_deep-clause-some : goal.returns-in-Some-too_deep-clause-some
returns-in-Some-too_deep-clause-some c end = too_deep (record { probes = c.in_default.ensures.none; arbiters = c.in_default-arbiter.ensures.none })
    c.in-Some-too_deep.ensures.some
