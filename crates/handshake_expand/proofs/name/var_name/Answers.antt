use Rattle.std.proofs.Common.{◌≡◌, ℕ, ◌*◌, ◌/◌, ◌%◌, ◌<◌, List, ◌++◌, [], length, get_or, ap, sym, ◌∙◌}
use Rattle.std.specs.Prelude.{codes, decimal}
use Rattle.width_check.specs.declared.typed.Var.{Var}
use Rattle.handshake_expand.specs.Named.{bit_tails, bits_named}
use Rattle.handshake_expand.proofs.NameLists.{bit_named}
use Rattle.handshake_expand.proofs.name.var_name.Goals as goal

named : (v : Var) (name tail : List ℕ) (node : ℕ) → name ≡ v.name → tail ≡ get_or bit_tails (node % 5) [] → node < 5 * v.width →
    name ++ codes "." ++ decimal (node / 5) ++ tail ≡ get_or (bits_named v) node []
named v name tail node is of within =
    ap (λ n. n ++ codes "." ++ decimal (node / 5) ++ tail) is
    ∙ (ap (λ t. v.name ++ codes "." ++ decimal (node / 5) ++ t) of
    ∙ sym (bit_named v node within))

pub returns-clause-name : goal.returns-clause-name
returns-clause-name c = c.bit_name.ensures.name ∙ named c.args.var.now _ _ c.args.node c.bytes.ensures.bytes c.bit_tail.ensures.tail c.requires.node

pub returns-clause-length : goal.returns-clause-length
returns-clause-length c =
    c.bit_name.ensures.length ∙ ap length (named c.args.var.now _ _ c.args.node c.bytes.ensures.bytes c.bit_tail.ensures.tail c.requires.node)
