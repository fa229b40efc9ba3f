-- Guards, one by one.
use Rattle.std.proofs.Common.{◌≡◌, ℕ, ◌+◌, ◌<◌, List, [], ◌∷◌, ◌++◌, length, get_or, drop, refl, ap, subst}
use Rattle.chp_base.specs.declared.channel.Channel.{Channel}
use Rattle.prs_core.specs.Pairs.{Pair, rails_of}
use Rattle.width_check.specs.declared.typed.TArm.{TArm}
use Rattle.width_check.specs.declared.typed.Var.{Var}
use Rattle.width_check.specs.Processes.{Formula, Choices, TypedProgram}
use Rattle.width_check.specs.Typing.{IsOfWidth, AreChoices}
use Rattle.width_check.specs.View.{formula_of, choices_in}
use Rattle.handshake_expand.specs.Layout.{formula_size, guards_size}
use Rattle.handshake_expand.proofs.Rows.{arm_at}

pub rails_append : (ps qs : List Pair) → rails_of (ps ++ qs) ≡ rails_of ps ++ rails_of qs
rails_append [] qs = refl
rails_append (p ∷ ps) qs = ap (λ ns. p.t ∷ p.f ∷ ns) (rails_append ps qs)

module _ (p : TypedProgram) (arms : List TArm) (i : ℕ) (a : TArm) (within : i < length arms) (is : a ≡ get_or arms i a) where
  abbrev guard : Formula
  guard = formula_of a.guard

  abbrev more : Choices
  more = choices_in (drop (i + 1) arms)

  pub guard_size_here : guards_size (choices_in (drop i arms)) ≡ formula_size guard + guards_size more
  guard_size_here = ap guards_size (arm_at arms i a within is)

  pub guard_typed : (channels : List Channel) (vars : List Var) → AreChoices channels vars (choices_in (drop i arms)) →
      IsOfWidth vars 1 guard × AreChoices channels vars more
  guard_typed channels vars h = let facts = subst (AreChoices channels vars) (arm_at arms i a within is) h in (facts.0, facts.2)
