use Rattle.std.proofs.Common.{◌≡◌, ◌∙◌, ap, refl}
use Rattle.chp_syntax.specs.View.{program_tree}
use Rattle.handshake_expand.specs.Layout.{capped, node_count}
use Rattle.width_check.specs.Typed.{program_of as typed_of}
use Rattle.call_map.specs.CallNet.{call_count}
use Rattle.call_compose.specs.CalledForm.{call_program}
use Rattle.call_compose.specs.Inlined.{AreInlined}
use Rattle.command_steps.specs.Inlined.{IsFormOf}
use Rattle.command_words.proofs.Results.{ok_in}
use Rattle.program_commands.specs.Checking.{IsNodeCount}
use Rattle.program_commands.proofs.Counted.{are_inlined, plain_counted, shared_counted}
use Rattle.program_commands.proofs.check.nodes_told.Goals as goal

pub returns-then-is_call_free : goal.returns-then-is_call_free
returns-then-is_call_free c = λ h.
    plain_counted (c.if-is_call_free.ensures.0 refl) (c.count_nodes.ensures ∙ ap (λ t. node_count (typed_of t)) c.typed.ensures.program) h

pub count_calls-requires-clause-inlined : goal.count_calls-requires-clause-inlined
count_calls-requires-clause-inlined c =
    are_inlined (λ free. cc (c.is_call_free.ensures.1 free, c.if-is_call_free.false)) c.requires.shaped c.requires.checked

pub returns : goal.returns
returns c =
    let program = program_tree c.args.program.now in
    let p = typed_of c.args.checked.now in
    ok_in c.count_calls.result (λ n. (h : AreInlined program p) → n ≡ capped (call_count (call_program program h.inlined.vars)))
    (λ n. (h : IsFormOf program p) → IsNodeCount program h.plain n)
    (λ n counted. shared_counted (λ free. cc (c.is_call_free.ensures.1 free, c.if-is_call_free.false)) c.requires.shaped n counted) c.count_calls.ensures
