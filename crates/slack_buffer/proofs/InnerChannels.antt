-- Which names are those of channels inside of a program.
use Rattle.std.proofs.Common.{◌≡◌, Bool, true, false, Option, Some, None, List, ℕ, refl, sym, ap, ◌∙◌}
use Rattle.std.specs.Prelude.{option_map, unwrap_or}
use Rattle.std.specs.Bool.{Decides}
use Rattle.chp_syntax.specs.declared.tree.Decl.{Decl}
use Rattle.chp_syntax.specs.declared.tree.DeclKind.{DeclKind}
use Rattle.chp_syntax.specs.declared.tree.DeclKind.TheVariants as declares
use Rattle.width_check.specs.Places.{declaration}
use Rattle.slack_buffer.specs.BufferedTrees.{IsInnerChannel, is_chan}

abbrev test : Option Decl → Bool
test o = unwrap_or (option_map (λ (d : Decl). is_chan d.kind) o) false

chan_by : (k : DeclKind) → is_chan k ≡ true → k ≡ declares.Chan
chan_by declares.Chan e = refl
chan_by declares.In e = absurd (cc e)
chan_by declares.Out e = absurd (cc e)
chan_by declares.Var e = absurd (cc e)

yes_by : (ds : List Decl) (name : List ℕ) (o : Option Decl) → declaration ds name ≡ o → test o ≡ true → IsInnerChannel ds name
yes_by ds name None found e = absurd (cc e)
yes_by ds name (Some d) found e = (d, found, chan_by d.kind e)

pub decided : (ds : List Decl) (name : List ℕ) (r : Bool) → r ≡ test (declaration ds name) → Decides r (IsInnerChannel ds name)
decided ds name r is = (
  λ e. yes_by ds name (declaration ds name) refl (sym is ∙ e),
  λ inner. is ∙ (ap test inner.1 ∙ ap is_chan inner.2),
)
