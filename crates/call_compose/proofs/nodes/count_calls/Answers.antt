use Rattle.std.proofs.Common.{◌≡◌, subst}
use Rattle.chp_syntax.specs.View.{program_tree}
use Rattle.width_check.specs.Typed.{TypedValue, program_of}
use Rattle.handshake_expand.specs.Layout.{capped}
use Rattle.call_map.specs.CallNet.{call_count}
use Rattle.call_compose.specs.CalledForm.{call_program}
use Rattle.call_compose.specs.Inlined.{AreInlined}
use Rattle.call_compose.proofs.nodes.count_calls.Goals as goal

pub returns : goal.returns
returns c =
    let P = program_tree c.args.program.now in
    subst (λ (v : TypedValue). (h : AreInlined P (program_of v)) → c.shared_nodes.result ≡ capped (call_count (call_program P h.inlined.vars)))
    c.typed-typed.ensures.program c.shared_nodes.ensures
