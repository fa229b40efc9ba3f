use Rattle.std.proofs.Common.{◌≡◌, ◌∙◌, None, Some, ap, sym}
use Rattle.std.specs.Prelude.{is_some}
use Rattle.program_commands.specs.Migrating.{named_reset, taken}
use Rattle.program_commands.proofs.NamedReset.{free_names, none_is, stays, reset_writes}
use Rattle.program_commands.proofs.migrate.migrate_net.Goals as goal

pub returns-then-is_some-clause-answered : goal.returns-then-is_some-clause-answered
returns-then-is_some-clause-answered c =
    stays c.args.net c.args.text.items c.requires (ap (λ o. is_some o) (sym c.reset.ensures.reset) ∙ sym c.is_some.ensures ∙ c.if-is_some.true)

pub returns-in-Some-clause-stopped : goal.returns-in-Some-clause-stopped
returns-in-Some-clause-stopped c =
    let net = c.args.net in
    let none : net.reset ≡ None = none_is net.reset (ap (λ o. is_some o) (sym c.reset.ensures.reset) ∙ sym c.is_some.ensures ∙ c.if-is_some.false) in
    let named : named_reset net.names ≡ Some c.in-Some.node = ap named_reset (sym c.names.ensures.names) ∙ sym c.reset_place.ensures ∙ c.in-Some.is in
    rw c.bad_net.ensures (taken none named)

pub returns-in-Ok-clause-answered : goal.returns-in-Ok-clause-answered
returns-in-Ok-clause-answered c =
    let net = c.args.net in
    let none : net.reset ≡ None = none_is net.reset (ap (λ o. is_some o) (sym c.reset.ensures.reset) ∙ sym c.is_some.ensures ∙ c.if-is_some.false) in
    let free : named_reset net.names ≡ None = ap named_reset (sym c.names.ensures.names) ∙ sym c.reset_place.ensures ∙ c.in_default.is in
    reset_writes net _ none free c.in-Ok.ensures.spelled

pub reset_text-requires-clause-free : goal.reset_text-requires-clause-free
reset_text-requires-clause-free c =
    free_names c.args.net.names (ap named_reset (sym c.names.ensures.names) ∙ sym c.reset_place.ensures ∙ c.in_default.is)
