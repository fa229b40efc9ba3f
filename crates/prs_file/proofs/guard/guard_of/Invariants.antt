use Rattle.std.proofs.Common.{◌≡◌, ◌<◌, ◌++◌, ◌∷◌, [], ◌+◌, false, length, take}
use Rattle.std.specs.List.{list_any}
use Rattle.prs_core.specs.Nets.{IsBelow}
use Rattle.prs_file.specs.Named.{guard_named}
use Rattle.prs_file.specs.Terms.{terms_of}
use Rattle.prs_file.proofs.GuardsNamed.{is_lost}
use Rattle.prs_file.proofs.guard.guard_of.Given as goal

abbrev pub invariant-loop-led : goal.invariant-loop-led
invariant-loop-led l = record {
  named : guard_named l.index (l.terms.items ++ l.last.items ∷ []) ≡ terms_of (take (l.led-index + 1) l.leds);
  within : IsBelow (length l.index) (l.terms.items ++ l.last.items ∷ []);
  known : list_any (is_lost l.index) (take (l.led-index + 1) l.leds) ≡ false;
  some : 0 < length l.last.items;
}
