use Rattle.std.proofs.Common.{◌≡◌, ◌^◌, ◌++◌, ap, ◌∙◌, arith}
use Rattle.width_check.specs.Typed.{program_of}
use Rattle.width_check.specs.View.{formula_of}
use Rattle.handshake_expand.specs.Layout.{root_request}
use Rattle.function_blocks.specs.Blocks.{bits_in_blocks}
use Rattle.function_blocks.specs.Expressions.{formula_rules}
use Rattle.net_compose.specs.Translation.{bits_at}
use Rattle.function_blocks.proofs.Emission.{first_made}
use Rattle.net_compose.proofs.FormulaReady.{bits_there}
use Rattle.net_compose.proofs.BitsRead.{blocks_are_bits}
use Rattle.net_compose.proofs.formula.formula.Goals as goal

pub expr_drivers-requires-clause-read : goal.expr_drivers-requires-clause-read
expr_drivers-requires-clause-read c =
    let p = program_of c.args.program.now in
    bits_there p c.args.vars.now c.requires.vars (formula_of c.args.e.now) c.requires.formed c.requires.reads (2 ^ 32) (root_request p) (omega arith)
    c.requires.root

pub returns-clause-made : goal.returns-clause-made
returns-clause-made c =
    let p = program_of c.args.program.now in
    let e = formula_of c.args.e.now in
    let own : c.expr_drivers.new.drivers.items ≡ formula_rules (bits_at p) e c.args.request c.args.from =
    first_made _ _ (formula_rules (bits_in_blocks c.args.vars.now) e c.args.request) c.args.from c.new-rails.ensures.items c.in_ok-bits.ensures.made
    ∙ blocks_are_bits p c.args.vars.now c.requires.vars e c.requires.formed c.requires.reads c.args.request c.args.from in
    c.in_ok-add_rails.ensures ∙ ap (λ xs. c.args.drivers.now.items ++ xs) own
