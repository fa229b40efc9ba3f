use Rattle.std.proofs.Common.{List, ℕ, refl, sym, subst}
use Rattle.chp_syntax.specs.View.{program_tree}
use Rattle.slack_buffer.specs.BufferedTrees.{IsInnerChannel}
use Rattle.width_check.specs.Typed.{program_of as typed_of}
use Rattle.command_steps.specs.BufferSteps.{no_channel}
use Rattle.command_steps.proofs.Buffering.{form_as, no_name, that_name}
use Rattle.command_steps.proofs.buffered.with_named_buffer.Goals as goal

pub returns-in_default-clause-stopped : goal.returns-in_default-clause-stopped
returns-in_default-clause-stopped c =
    let told = rw c.deref.ensures.value at c.declared_name.ensures in
    no_channel refl (no_name c.args.program.now.decls.items c.args.text.now c.declared_name.result told c.in_default.is)

pub returns-then-not-is_inner_channel-clause-stopped : goal.returns-then-not-is_inner_channel-clause-stopped
returns-then-not-is_inner_channel-clause-stopped c =
    let told = rw c.deref.ensures.value at c.declared_name.ensures in
    let same = that_name c.args.program.now.decls.items c.args.text.now c.declared_name.result told c.in-Some.chan c.in-Some.is in
    no_channel refl
    (λ inner. cc (
      c.is_inner_channel.ensures.1 (subst (λ (name : List ℕ). IsInnerChannel c.args.program.now.decls.items name) (sym same) inner),
      c.if-not-is_inner_channel.true,
    ))

pub resolved_with_buffer-requires-clause-inner : goal.resolved_with_buffer-requires-clause-inner
resolved_with_buffer-requires-clause-inner c = c.if-not-is_inner_channel.ensures.0 refl

pub returns-in-Ok-clause-goes_on : goal.returns-in-Ok-clause-goes_on
returns-in-Ok-clause-goes_on c =
    let told = rw c.deref.ensures.value at c.declared_name.ensures in
    let same = that_name c.args.program.now.decls.items c.args.text.now c.declared_name.result told c.in-Some.chan c.in-Some.is in
    form_as (program_tree c.args.program.now) c.in-Some.chan.now c.args.text.now (typed_of c.in-Ok.made) same c.in-Ok.ensures
