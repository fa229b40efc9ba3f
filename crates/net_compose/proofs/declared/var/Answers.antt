use Rattle.std.proofs.Common.{◌∙◌, ◌++◌, length, ap, arith}
use Rattle.std.specs.Prelude.{slice_index_or}
use Rattle.width_check.specs.Typed.{program_of}
use Rattle.handshake_expand.specs.Layout.{var_from}
use Rattle.cell_variable.specs.Variables.{variable_rules}
use Rattle.net_compose.specs.SortedContacts.{listed_at}
use Rattle.net_compose.proofs.BodyWritten.{on_ok}
use Rattle.net_compose.proofs.EndsReady.{var_some}
use Rattle.net_compose.proofs.DeclaredRules.{var_wide, var_start, var_starts, block_before_body}
use Rattle.net_compose.proofs.ContactsSorted.{written_here}
use Rattle.net_compose.proofs.declared.var.Goals as goal

pub bounds-firsts-number : goal.bounds-firsts-number
bounds-firsts-number c =
    let n = var_starts (program_of c.args.program.now) c.args.firsts.now c.requires.firsts in
    omega (arith, n, c.requires.within)

pub block-requires : goal.block-requires
block-requires c =
    let p = program_of c.args.program.now in
    let wide = var_wide c.vars-vars.result.now p.vars c.args.number c.index-vars-number.result c.vars-vars.ensures c.requires.within c.index-vars-number.is in
    let some = var_some p.vars c.args.number c.body-kept.ensures.typed.each_var c.requires.within in
    let start = var_start p c.args.firsts.now c.args.number 0 c.requires.firsts c.requires.within in
    let before = block_before_body p c.args.number c.requires.within in
    omega (arith, wide, some, start, before, c.requires.few)

pub returns : goal.returns
returns c =
    let p = program_of c.args.program.now in
    let wide = var_wide c.vars-vars.result.now p.vars c.args.number c.index-vars-number.result c.vars-vars.ensures c.requires.within c.index-vars-number.is in
    let start = var_start p c.args.firsts.now c.args.number 0 c.requires.firsts c.requires.within in
    let sites = c.deref-sites.ensures.value
    ∙ written_here c.args.sorted.now (length p.channels) (length p.vars) c.requires.lists c.args.number c.requires.within c.index.result.now
    c.index.ensures in
    on_ok c.block.result (λ made. made ∙ (ap (λ s. c.args.drivers.now.items ++ variable_rules c.index-vars-number.result.width
    (slice_index_or c.args.firsts.now c.args.number 0) s) sites
    ∙ (ap (λ n. c.args.drivers.now.items ++ variable_rules c.index-vars-number.result.width n
    (listed_at c.args.sorted.now.written.items c.args.number)) start
    ∙ ap (λ w. c.args.drivers.now.items ++ variable_rules w (var_from p c.args.number)
    (listed_at c.args.sorted.now.written.items c.args.number)) wide)))
    c.block.ensures
