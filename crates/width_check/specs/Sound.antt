-- Parts of a program in which nothing is wrong.
use Rattle.std.specs.Prelude.{◌≡◌, ℕ, suc, Bool, false, if◌then◌else◌, List, [], ◌∷◌, Contains, Option, Some, option_map}
use Rattle.chp_base.specs.declared.span.Span.{Span}
use Rattle.chp_base.specs.declared.channel.Kind.{Kind}
use Rattle.chp_base.specs.declared.channel.Kind.TheVariants.{In, Out, Chan}
use Rattle.chp_syntax.specs.declared.tree.Decl.{Decl}
use Rattle.chp_syntax.specs.declared.tree.DeclKind.{DeclKind}
use Rattle.chp_syntax.specs.declared.tree.DeclKind.TheVariants as declares
use Rattle.chp_syntax.specs.Trees.{Expression}
use Rattle.width_check.specs.Places.{declaration, is_var, Use, Expected, Reception}
use Rattle.width_check.specs.Faults.{wants_var}
use Rattle.width_check.specs.Walk.{Met, is_misdirected, is_bad_part, lacking, is_misfit, is_misfit_target, is_wide_number, is_out_of_range}

-- each declared width is in 1 to 64
abbrev pub AreRanged : List Decl → Type 0
AreRanged ds = (d : Decl) → Contains ds d → is_out_of_range d ≡ false

-- whether a name is a variable's; None if it isn't declared
abbrev pub is_var_in : List Decl → List ℕ → Option Bool
is_var_in ds name = option_map (λ (d : Decl). is_var d.kind) (declaration ds name)

-- none of what was met is a fault
pub record IsSound (ds : List Decl) (m : Met) : Type 0 where
  pub uses : (u : Use) → Contains m.uses u → is_var_in ds u.name ≡ Some (wants_var u.role)
  pub ends : (u : Use) → Contains m.uses u → is_misdirected ds u ≡ false
  pub parts : (e : Expression) → Contains m.expressions e → is_bad_part ds e ≡ false
  pub widths : (e : Expression) (s : Span) → Contains m.expressions e → ¬ Contains (lacking ds e) s
  pub leaves : (l : Expected) → Contains m.leaves l → is_misfit ds l ≡ false
  pub targets : (r : Reception) → Contains m.receptions r → is_misfit_target ds r ≡ false
  pub numbers : (l : Expected) → Contains m.leaves l → is_wide_number l ≡ false

-- the number of each declaration: channels and variables are counted apart
abbrev pub numbers_of : (channels vars : ℕ) → List Decl → List ℕ
numbers_of channels vars [] = []
numbers_of channels vars (d ∷ ds) = if is_var d.kind then vars ∷ numbers_of channels (suc vars) ds else channels
    ∷ numbers_of (suc channels) vars ds

-- the kind of a channel, by how it is declared
abbrev pub kind_of : DeclKind → Kind
kind_of declares.In = In
kind_of declares.Out = Out
kind_of _ = Chan
