-- What follows from what a result holds.
use Rattle.std.proofs.Common.{Result, Ok, Err}
use Rattle.std.specs.Prelude.{IfOk}

pub ok_in : {T E : Type 0} (r : Result T E) (P Q : T → Type 0) → ((value : T) → P value → Q value) → IfOk r P → IfOk r Q
ok_in (Ok value) P Q is p = is value p
ok_in (Err e) P Q is p = tt

pub both_in : {T E : Type 0} (r : Result T E) (P Q R : T → Type 0) → ((value : T) → P value → Q value → R value) → IfOk r P → IfOk r Q → IfOk r R
both_in (Ok value) P Q R is p q = is value p q
both_in (Err e) P Q R is p q = tt
