use Rattle.std.proofs.Common.{sym, subst}
use Rattle.chp_syntax.specs.View.{program_tree as tree_of}
use Rattle.width_check.specs.Processes.{TypedProgram}
use Rattle.net_compose.specs.Carries.{Carries}
use Rattle.call_map.specs.CallNet.{call_net, call_names}
use Rattle.call_compose.specs.Placing.{shared_of}
use Rattle.call_compose.proofs.circuit.translate_calls.Goals as goal

pub returns-in-Ok-clause-carries : goal.returns-in-Ok-clause-carries
returns-in-Ok-clause-carries c h =
    subst (λ (t : TypedProgram). Carries (call_net (shared_of h) (call_names (shared_of h))) t) (sym h.typed)
    (c.calls_carried.ensures (tree_of c.args.program.now) h.tree h.inlined h.meets h.shaped h.accepted (call_names (shared_of h)))
