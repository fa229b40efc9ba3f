use Rattle.std.proofs.Common.{◌∙◌, ap, subst}
use Rattle.std.specs.Prelude.{if◌then◌else◌}
use Rattle.reset_net.specs.Resets.{reset_of}
use Rattle.width_check.specs.Typed.{TypedValue, program_of}
use Rattle.width_check.specs.Typing.{IsTyped}
use Rattle.width_check.specs.View.{process_of}
use Rattle.net_compose.specs.Translation.{translation}
use Rattle.net_compose.proofs.circuit.circuit_of.Goals as goal

pub returns-in-Ok-clause-net : goal.returns-in-Ok-clause-net
returns-in-Ok-clause-net c =
    c.in-Ok.ensures
    ∙ ap (λ v. if c.args.reset then reset_of (translation (program_of v)) else translation (program_of v)) c.typed-typed.ensures.program

pub returns-in-Ok-clause-translated : goal.returns-in-Ok-clause-translated
returns-in-Ok-clause-translated c = record {
  typed = subst (λ (t : TypedValue). IsTyped t.channels t.vars (process_of t.body)) c.typed-typed.ensures.program c.body-kept.ensures.typed;
  sharing = c.typed-typed.ensures.meets;
}
