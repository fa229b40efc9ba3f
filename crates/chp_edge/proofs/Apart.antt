-- What can't be. Alone here, since `cc` reads all that is known where it stands.
use Rattle.std.proofs.Common.{◌≡◌, true, false}

pub untrue : {P : Type 0} → false ≡ true → P
untrue is = absurd (cc is)
