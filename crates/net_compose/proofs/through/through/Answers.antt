use Rattle.std.proofs.Common.{◌≡◌, ◌+◌, ◌-◌, ◌∷◌, [], ◌++◌, refl, ap, ◌∙◌, arith}
use Rattle.prs_core.specs.Pairs.{pairs_from}
use Rattle.width_check.specs.Typed.{program_of}
use Rattle.width_check.specs.Typing.{var_width}
use Rattle.width_check.specs.View.{formula_of}
use Rattle.handshake_expand.specs.Layout.{block_size, formula_size}
use Rattle.cell_variable.specs.Variables.{variable_rules}
use Rattle.function_blocks.specs.Expressions.{formula_rules, read_bits}
use Rattle.function_blocks.proofs.Emission.{pairs_apart}
use Rattle.net_compose.specs.Translation.{bits_at, block_bits}
use Rattle.net_compose.proofs.EndsReady.{var_some}
use Rattle.net_compose.proofs.ReadBack.{var_most}
use Rattle.net_compose.proofs.Stored.{through_made}
use Rattle.net_compose.proofs.through.through.Goals as goal

pub formula-requires-clause-formed : goal.formula-requires-clause-formed
formula-requires-clause-formed c = c.requires.width.formed

pub formula-requires-clause-reads : goal.formula-requires-clause-reads
formula-requires-clause-reads c = c.requires.width.reads

pub read_all-requires-clause-some : goal.read_all-requires-clause-some
read_all-requires-clause-some c =
    let some = var_some c.args.program.now.vars c.args.var c.body-kept.ensures.typed.each_var c.requires.within in
    omega (arith, some, c.var_bits-width.ensures)

pub read_all-requires-clause-most : goal.read_all-requires-clause-most
read_all-requires-clause-most c =
    let most = var_most c.args.program.now.vars c.args.var c.body-kept.ensures.typed.each_var c.requires.within in
    omega (arith, most, c.var_bits-width.ensures)

pub returns-clause-made : goal.returns-clause-made
returns-clause-made c =
    let p = program_of c.args.program.now in
    let x = c.args.var in
    let e = formula_of c.args.value.now in
    let from = c.args.from in
    let own = from + c.block_nodes.result in
    let first = own + 3 in
    let wide : c.var_bits-width.result ≡ var_width p.vars x = c.var_bits-width.ensures in
    let at : own ≡ from + block_size (var_width p.vars x) = ap (λ n. from + n) (c.block_nodes.ensures ∙ ap block_size wide) in
    let some = var_some p.vars x c.body-kept.ensures.typed.each_var c.requires.within in
    let d0 = c.args.drivers.now.items in
    through_made p x e c.args.request from own first at refl some (own - 1) c.written_node-written.result c.in_ok-bits.bits.items _ d0 _ _ _ _ _ _
    refl c.written_node-written.ensures.written c.in_ok-bits.ensures.bits
    (c.in_ok-bits.ensures.made ∙ ap (λ l. l ++ formula_rules (bits_at p) e own (first + 1)) c.new-inner.ensures.items)
    (c.in_ok-hidden.ensures ∙ ap (λ w. d0 ++ variable_rules w from (c.in_ok-bits.bits.items ∷ [])) wide)
    c.in_ok-element.ensures
    (c.in_ok-push.ensures.items ∙ ap (λ d. c.element.new.drivers.items ++ d ∷ []) c.site.ensures)
    c.in_ok-append.ensures.items
    (c.in_ok-push-2.ensures.items ∙ ap (λ d. c.append.new.self.items ++ d ∷ []) c.site-2.ensures)
    (c.in_ok-read_all.ensures ∙ ap (λ w. c.push-2.new.self.items ++ read_bits (own + 2) (block_bits w from)) wide)

pub returns-clause-bits : goal.returns-clause-bits
returns-clause-bits c =
    let p = program_of c.args.program.now in
    let e = formula_of c.args.value.now in
    let from = c.args.from in
    let wide : c.var_bits-width.result ≡ var_width p.vars c.args.var = c.var_bits-width.ensures in
    let size : c.expr_nodes-size.result ≡ formula_size e = omega (arith, c.expr_nodes-size.ensures, c.requires.room) in
    let last : from + c.block_nodes.result + 3 + 1 + c.expr_nodes-size.result + 1 ≡ from + block_size (var_width p.vars c.args.var) + 4 + formula_size e + 1 =
    omega (arith, size, c.block_nodes.ensures, wide) in
    c.in_ok-read.ensures
    ∙ (pairs_apart c.var_bits-width.result _
    ∙ (ap (λ w. pairs_from w (from + c.block_nodes.result + 3 + 1 + c.expr_nodes-size.result + 1)) wide
    ∙ ap (pairs_from (var_width p.vars c.args.var)) last))
