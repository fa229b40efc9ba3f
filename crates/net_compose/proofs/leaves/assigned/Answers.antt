use Rattle.std.proofs.Common.{◌≡◌, ◌+◌, true, false, [], ◌∷◌, ◌++◌, sym, ap, ◌∙◌, arith}
use Rattle.std.specs.Prelude.{if◌then◌else◌}
use Rattle.width_check.specs.Reads.{reads}
use Rattle.width_check.specs.Typed.{program_of}
use Rattle.width_check.specs.Typing.{var_width}
use Rattle.width_check.specs.View.{formula_of}
use Rattle.handshake_expand.specs.Layout.{formula_size, through_size, assign_size}
use Rattle.cell_variable.specs.Variables.{high_first, write_answer}
use Rattle.function_blocks.specs.Expressions.{formula_rules, formula_result}
use Rattle.net_compose.specs.Translation.{bits_at, written_at, read_back, through_at, through_rules}
use Rattle.net_compose.proofs.BodyWritten.{on_ok, if_ok, given}
use Rattle.net_compose.proofs.Raised.{with_raised}
use Rattle.net_compose.proofs.leaves.assigned.Goals as goal

pub raise-requires-clause-room : goal.raise-requires-clause-room
raise-requires-clause-room c =
    let p = program_of c.args.program.now in
    let x = c.args.var in
    let e = formula_of c.args.value.now in
    let is : reads x e ≡ true = sym c.reads.ensures ∙ c.if-reads.true in
    let size : assign_size p x e ≡ through_size (var_width p.vars x) e = ap (λ b. if b then through_size (var_width p.vars x) e else 1 + formula_size e) is in
    omega (arith, size, c.var_bits-width.ensures, c.requires.own)

pub through-requires-clause-room : goal.through-requires-clause-room
through-requires-clause-room c =
    let p = program_of c.args.program.now in
    let x = c.args.var in
    let e = formula_of c.args.value.now in
    let is : reads x e ≡ true = sym c.reads.ensures ∙ c.if-reads.true in
    let size : assign_size p x e ≡ through_size (var_width p.vars x) e = ap (λ b. if b then through_size (var_width p.vars x) e else 1 + formula_size e) is in
    omega (arith, size, c.requires.own, c.requires.few)

pub plain-requires-clause-room : goal.plain-requires-clause-room
plain-requires-clause-room c =
    let p = program_of c.args.program.now in
    let x = c.args.var in
    let e = formula_of c.args.value.now in
    let is : reads x e ≡ false = sym c.reads.ensures ∙ c.if-reads.false in
    let size : assign_size p x e ≡ 1 + formula_size e = ap (λ b. if b then through_size (var_width p.vars x) e else 1 + formula_size e) is in
    omega (arith, size, c.requires.own, c.requires.few)

pub returns-then-reads-clause-made : goal.returns-then-reads-clause-made
returns-then-reads-clause-made c =
    let p = program_of c.args.program.now in
    let x = c.args.var in
    let e = formula_of c.args.value.now in
    let r = c.args.request in
    let from = c.args.from in
    let is : reads x e ≡ true = sym c.reads.ensures ∙ c.if-reads.true in
    on_ok c.through.result
    (λ f at. f ∙ ap (λ b. c.args.drivers.now.items ++ (if b then through_rules p x e r from else write_answer r (written_at p x) ∷ formula_rules (bits_at p) e r
    (from + 1))) (sym is))
    c.through.ensures.made

pub returns-then-reads-clause-bits : goal.returns-then-reads-clause-bits
returns-then-reads-clause-bits c =
    let p = program_of c.args.program.now in
    let x = c.args.var in
    let e = formula_of c.args.value.now in
    let from = c.args.from in
    let is : reads x e ≡ true = sym c.reads.ensures ∙ c.if-reads.true in
    if_ok c.through.result _ _
    (λ v f. f ∙ ap (λ b. if b then read_back (through_at (var_width p.vars x) (formula_size e) from) else formula_result e (from + 1)) (sym is))
    c.through.ensures.bits

pub returns-then-reads-clause-first : goal.returns-then-reads-clause-first
returns-then-reads-clause-first c =
    let p = program_of c.args.program.now in
    let x = c.args.var in
    let e = formula_of c.args.value.now in
    let from = c.args.from in
    let is : reads x e ≡ true = sym c.reads.ensures ∙ c.if-reads.true in
    given c.through.result
    (λ at. c.raise.ensures.raised
    ∙ (ap (λ w. with_raised c.args.first.now (high_first w 0 from)) c.var_bits-width.ensures
    ∙ ap (λ b. with_raised c.args.first.now (if b then high_first (var_width p.vars x) 0 from else [])) (sym is)))
