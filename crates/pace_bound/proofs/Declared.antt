-- The kind of a channel that is declared.
use Rattle.std.proofs.Common.{◌≡◌, ℕ, zero, suc, ◌<◌, ◌≤◌, List, [], ◌∷◌, length, get_or, refl, ap, arith}
use Rattle.chp_base.specs.declared.channel.Channel.{Channel}
use Rattle.chp_base.specs.declared.channel.Kind.TheVariants.{Chan}
use Rattle.width_check.specs.Typing.{kind_at}

pub kind_found : (cs : List Channel) (i : ℕ) (c : Channel) → i < length cs → c ≡ get_or cs i c → c.kind ≡ kind_at cs i
kind_found [] i c within is = absurd (omega arith)
kind_found (x ∷ xs) zero c within is = ap (λ (y : Channel). y.kind) is
kind_found (x ∷ xs) (suc i) c within is = kind_found xs i c (omega arith) is

pub no_kind : (cs : List Channel) (i : ℕ) → length cs ≤ i → Chan ≡ kind_at cs i
no_kind [] i all = refl
no_kind (x ∷ xs) zero all = absurd (omega arith)
no_kind (x ∷ xs) (suc i) all = no_kind xs i (omega arith)
