use Rattle.std.proofs.Common.{arith}
use Rattle.pace_command.proofs.Bounds.{plainly_compiled, shared_compiled}
use Rattle.pace_command.proofs.report.compiled.Goals as goal

pub returns-then-is_call_free : goal.returns-then-is_call_free
returns-then-is_call_free c = λ n is. plainly_compiled (c.is_call_free.ensures.0 c.if-is_call_free.true) is

pub returns-else-is_call_free : goal.returns-else-is_call_free
returns-else-is_call_free c = λ n is.
    shared_compiled (λ free. cc (c.is_call_free.ensures.1 free, c.if-is_call_free.false)) (omega (arith, is, c.saturating_mul.ensures))
