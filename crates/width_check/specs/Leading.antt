-- How the members of a chain get their expected width.
use Rattle.std.specs.Prelude.{◌≡◌, ◌⊎◌, ℕ, Bool, true, false, List, Option, Some, None, is_none, option_map}
use Rattle.chp_syntax.specs.declared.tree.Decl.{Decl}
use Rattle.chp_syntax.specs.Trees.{Expression, Links}
use Rattle.width_check.specs.declared.lead.Lead.{Lead}
use Rattle.width_check.specs.declared.lead.Lead.TheVariants.{First, Later, Nothing}
use Rattle.width_check.specs.Places.{compares, own_width, first_width}
use Rattle.width_check.specs.Walk.{capped_width, side_width}

-- it is the width of the first member, or of a later one, or no member has any
abbrev pub IsLead : List Decl → Expression → Links → Lead → Type 0
IsLead decls e more First = is_none (own_width decls e) ≡ false
IsLead decls e more (Later w) = (own_width decls e ≡ None) × (Some w ≡ option_map capped_width (first_width decls more))
IsLead decls e more Nothing = side_width decls e more ≡ None

-- the same if no width is expected of the chain, or if it compares; else the chain's expected width is all members'
abbrev pub IsLeadTo : List Decl → Option ℕ → Expression → Links → Lead → Type 0
IsLeadTo decls wanted e more lead =
    ((w : ℕ) × (compares more ≡ false) × (wanted ≡ Some w) × (lead ≡ Later w)) ⊎
    (((compares more ≡ true) ⊎ (wanted ≡ None)) × IsLead decls e more lead)

abbrev pub lacks : Lead → Bool
lacks Nothing = true
lacks _ = false

abbrev pub known : Lead → Option ℕ
known First = None
known (Later w) = Some w
known Nothing = Some 0

abbrev pub width : Lead → Option ℕ → Option ℕ
width First own = own
width (Later w) own = Some w
width Nothing own = None
