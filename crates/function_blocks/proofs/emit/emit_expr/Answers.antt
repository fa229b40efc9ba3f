use Rattle.std.proofs.Common.{◌≡◌, ◌^◌, ◌<◌, length, All, ap, sym, subst, ◌∙◌, arith}
use Rattle.prs_core.specs.Nets.{RulesValue, IsAlone}
use Rattle.prs_core.specs.Parts.{owned_from, with_owned}
use Rattle.prs_core.specs.Writing.{others_alone}
use Rattle.width_check.specs.View.{formula_of}
use Rattle.function_blocks.specs.Expressions.{formula_rules}
use Rattle.function_blocks.specs.Blocks.{bits_in_blocks, AreBelow, HasBit}
use Rattle.function_blocks.proofs.Emission.{counted, first_made, blocks_keep, blocks_neutral, blocks_valid, blocks_wait}
use Rattle.function_blocks.proofs.Within.{each_within, rules_within}
use Rattle.function_blocks.proofs.emit.emit_expr.Goals as goal

pub expr_drivers-requires-clause-read : goal.expr_drivers-requires-clause-read
expr_drivers-requires-clause-read c =
    let few : length c.args.rules.now.up < 2 ^ 32 = omega (arith, c.nodes-count.ensures, c.nodes-count.type_inv) in
    each_within (HasBit (length c.args.rules.now.up) c.args.vars.now) (HasBit (2 ^ 32) c.args.vars.now)
    (λ x i l h. record { entry = h.entry; within = let w = h.within in omega (arith, w, few) }) (formula_of c.args.e.now) c.requires.formed c.requires.vars

pub give-requires-clause-own : goal.give-requires-clause-own
give-requires-clause-own c =
    let are : c.in_ok-guards.guards.items ≡ formula_rules (bits_in_blocks c.args.vars.now) (formula_of c.args.e.now) c.args.request c.args.from =
    c.in_ok-guards.ensures ∙ (c.deref-2.ensures.value ∙
    first_made _ _ (formula_rules (bits_in_blocks c.args.vars.now) (formula_of c.args.e.now) c.args.request) c.args.from c.new-drivers.ensures.items
    c.in_ok-bits.ensures.made) in
    let size = counted c.args.vars.now (formula_of c.args.e.now) c.args.request c.args.from c.requires.formed in
    omega (arith, ap length are, size, c.requires.own)

pub give-requires-clause-within : goal.give-requires-clause-within
give-requires-clause-within c =
    let are : c.in_ok-guards.guards.items ≡ formula_rules (bits_in_blocks c.args.vars.now) (formula_of c.args.e.now) c.args.request c.args.from =
    c.in_ok-guards.ensures ∙ (c.deref-2.ensures.value ∙
    first_made _ _ (formula_rules (bits_in_blocks c.args.vars.now) (formula_of c.args.e.now) c.args.request) c.args.from c.new-drivers.ensures.items
    c.in_ok-bits.ensures.made) in
    subst (All (AreBelow (length c.args.rules.now.up))) (sym are) (rules_within (length c.args.rules.now.up) c.args.vars.now (formula_of c.args.e.now)
    c.args.request c.args.from c.requires.formed c.requires.vars c.requires.request c.requires.own)

pub returns-clause-others : goal.returns-clause-others
returns-clause-others c =
    let are : c.in_ok-guards.guards.items ≡ formula_rules (bits_in_blocks c.args.vars.now) (formula_of c.args.e.now) c.args.request c.args.from =
    c.in_ok-guards.ensures ∙ (c.deref-2.ensures.value ∙
    first_made _ _ (formula_rules (bits_in_blocks c.args.vars.now) (formula_of c.args.e.now) c.args.request) c.args.from c.new-drivers.ensures.items
    c.in_ok-bits.ensures.made) in
    λ node other. subst (λ (r : RulesValue). IsAlone c.args.rules.now r node) (sym c.give.ensures.made)
    (subst (λ rs. IsAlone c.args.rules.now (with_owned (owned_from c.args.from rs) c.args.rules.now) node) (sym are)
    (others_alone node (owned_from c.args.from (formula_rules (bits_in_blocks c.args.vars.now) (formula_of c.args.e.now) c.args.request c.args.from))
    c.args.rules.now other))

pub returns-in_err-bits-clause-keeps : goal.returns-in_err-bits-clause-keeps
returns-in_err-bits-clause-keeps c =
    blocks_keep c.args.vars.now (formula_of c.args.e.now) c.args.request c.args.from c.requires.formed c.requires.apart c.requires.unasked

pub returns-in_err-bits-clause-valid : goal.returns-in_err-bits-clause-valid
returns-in_err-bits-clause-valid c =
    blocks_valid c.args.vars.now (formula_of c.args.e.now) c.args.request c.args.from c.requires.formed c.requires.apart c.requires.unasked

pub returns-in_err-bits-clause-neutral : goal.returns-in_err-bits-clause-neutral
returns-in_err-bits-clause-neutral c =
    blocks_neutral c.args.vars.now (formula_of c.args.e.now) c.args.request c.args.from c.requires.formed c.requires.apart c.requires.unasked

pub returns-in_err-bits-clause-waits : goal.returns-in_err-bits-clause-waits
returns-in_err-bits-clause-waits c =
    blocks_wait c.args.vars.now (formula_of c.args.e.now) c.args.request c.args.from c.requires.formed c.requires.apart c.requires.unasked

pub returns-in_err-rails-clause-keeps : goal.returns-in_err-rails-clause-keeps
returns-in_err-rails-clause-keeps c =
    blocks_keep c.args.vars.now (formula_of c.args.e.now) c.args.request c.args.from c.requires.formed c.requires.apart c.requires.unasked

pub returns-in_err-rails-clause-valid : goal.returns-in_err-rails-clause-valid
returns-in_err-rails-clause-valid c =
    blocks_valid c.args.vars.now (formula_of c.args.e.now) c.args.request c.args.from c.requires.formed c.requires.apart c.requires.unasked

pub returns-in_err-rails-clause-neutral : goal.returns-in_err-rails-clause-neutral
returns-in_err-rails-clause-neutral c =
    blocks_neutral c.args.vars.now (formula_of c.args.e.now) c.args.request c.args.from c.requires.formed c.requires.apart c.requires.unasked

pub returns-in_err-rails-clause-waits : goal.returns-in_err-rails-clause-waits
returns-in_err-rails-clause-waits c =
    blocks_wait c.args.vars.now (formula_of c.args.e.now) c.args.request c.args.from c.requires.formed c.requires.apart c.requires.unasked

pub returns-in_err-guards-clause-keeps : goal.returns-in_err-guards-clause-keeps
returns-in_err-guards-clause-keeps c =
    blocks_keep c.args.vars.now (formula_of c.args.e.now) c.args.request c.args.from c.requires.formed c.requires.apart c.requires.unasked

pub returns-in_err-guards-clause-valid : goal.returns-in_err-guards-clause-valid
returns-in_err-guards-clause-valid c =
    blocks_valid c.args.vars.now (formula_of c.args.e.now) c.args.request c.args.from c.requires.formed c.requires.apart c.requires.unasked

pub returns-in_err-guards-clause-neutral : goal.returns-in_err-guards-clause-neutral
returns-in_err-guards-clause-neutral c =
    blocks_neutral c.args.vars.now (formula_of c.args.e.now) c.args.request c.args.from c.requires.formed c.requires.apart c.requires.unasked

pub returns-in_err-guards-clause-waits : goal.returns-in_err-guards-clause-waits
returns-in_err-guards-clause-waits c =
    blocks_wait c.args.vars.now (formula_of c.args.e.now) c.args.request c.args.from c.requires.formed c.requires.apart c.requires.unasked

pub returns-clause-keeps : goal.returns-clause-keeps
returns-clause-keeps c =
    blocks_keep c.args.vars.now (formula_of c.args.e.now) c.args.request c.args.from c.requires.formed c.requires.apart c.requires.unasked

pub returns-clause-valid : goal.returns-clause-valid
returns-clause-valid c =
    blocks_valid c.args.vars.now (formula_of c.args.e.now) c.args.request c.args.from c.requires.formed c.requires.apart c.requires.unasked

pub returns-clause-neutral : goal.returns-clause-neutral
returns-clause-neutral c =
    blocks_neutral c.args.vars.now (formula_of c.args.e.now) c.args.request c.args.from c.requires.formed c.requires.apart c.requires.unasked

pub returns-clause-waits : goal.returns-clause-waits
returns-clause-waits c =
    blocks_wait c.args.vars.now (formula_of c.args.e.now) c.args.request c.args.from c.requires.formed c.requires.apart c.requires.unasked
