-- What was handed on as a result, to a function that took it.
use Rattle.std.specs.Prelude.{Result, Ok, Err, IfOk, OnOk, IsOkAnd}

-- it was a value, since the function returned one
pub taken : {A E : Type 0} (r : Result A E) (P : Type 0) (Q R : A → Type 0) → OnOk r P → IfOk r Q → IsOkAnd r R → (a : A) × P × Q a × R a
taken (Ok a) P Q R p q r = (a, p, q, r)
taken (Err e) P Q R p q r = absurd r

-- what is asked of the value
pub asked : {A E : Type 0} (r : Result A E) (P : Type 0) (Q R : A → Type 0) → ((a : A) → P → Q a → R a) → OnOk r P → IfOk r Q → IfOk r R
asked (Ok a) P Q R f p q = f a p q
asked (Err e) P Q R f p q = tt

-- what is said of the function's own value
pub told : {A B E : Type 0} (s : Result B E) (r : Result A E) (P : Type 0) (Q : A → Type 0) (R : B → A → Type 0) (S : B → Type 0)
    → ((b : B) (a : A) → P → Q a → R b a → S b) → OnOk r P → IfOk r Q → IfOk s (λ b. IsOkAnd r (R b)) → IfOk s S
told (Ok b) (Ok a) P Q R S f p q h = f b a p q h
told (Ok b) (Err e) P Q R S f p q h = absurd h
told (Err e) r P Q R S f p q h = tt

-- what was asked of the value, and what is said of it
pub known : {A E : Type 0} (r : Result A E) (Q R : A → Type 0) → IfOk r Q → IsOkAnd r R → (a : A) × Q a × R a
known (Ok a) Q R q r = (a, q, r)
known (Err e) Q R q r = absurd r

-- what follows from what is said of the value
pub passed_on : {A E : Type 0} (r : Result A E) (Q R : A → Type 0) → ((a : A) → Q a → R a) → IsOkAnd r Q → IsOkAnd r R
passed_on (Ok a) Q R f q = f a q
passed_on (Err e) Q R f q = absurd q
