use Rattle.std.proofs.Common.{refl}
use Rattle.chp_syntax.proofs.Signs.{long_longest, short_longest}
use Rattle.chp_syntax.proofs.scan.sign.Goals as goal

pub returns-in-Some-clause-mark : goal.returns-in-Some-clause-mark
returns-in-Some-clause-mark c = long_longest _ _ _ _ c.in-len2-up.len_at_least refl refl c.in-Some.ensures.some

pub returns-in_ok-mark-in-len2-up-clause-mark : goal.returns-in_ok-mark-in-len2-up-clause-mark
returns-in_ok-mark-in-len2-up-clause-mark c =
    short_longest _ _ _ _ c.in-len2-up.len_at_least refl refl c.in_default.ensures.none c.in_ok-mark-in-len2-up.ensures.some
