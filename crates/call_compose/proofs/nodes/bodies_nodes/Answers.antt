use Rattle.std.proofs.Common.{◌≡◌, ℕ, List, map, drop, ap, arith, Bor}
use Rattle.std.proofs.lemmas.List.{drop_all}
use Rattle.width_check.specs.declared.typed.TStmt.{TStmt}
use Rattle.width_check.specs.Typed.{program_of}
use Rattle.width_check.specs.View.{process_of}
use Rattle.call_map.specs.CallNet.{procs_size}
use Rattle.call_compose.proofs.nodes.bodies_nodes.Goals as goal

pub returns : goal.returns
returns c =
    let p = program_of c.args.program.now in
    let size : List (Bor TStmt) → ℕ = λ bodies. procs_size p (map (λ (b : Bor TStmt). process_of b.now) bodies) in
    let none : size (drop c.loop-body.body-index c.args.bodies.now) ≡ 0 = ap size (drop_all c.loop-body.body-index c.args.bodies.now c.loop-body-test.false) in
    omega (arith, c.loop-body.invariant.counted, c.loop-body.invariant.most, none)
