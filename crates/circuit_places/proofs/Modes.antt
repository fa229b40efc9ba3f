-- How far a handshake is.
use Rattle.std.proofs.Common.{◌≡◌, Bool, true, false, refl}

pub data Mode : Type 0 where
  idle running answered returning : Mode

-- the request and the answer then
abbrev pub asks : Mode → Bool
asks idle = false
asks running = true
asks answered = true
asks returning = false

abbrev pub acks : Mode → Bool
acks idle = false
acks running = false
acks answered = true
acks returning = true

-- how an own move may take a handshake on
abbrev pub goes : Mode → Mode → Bool
goes running running = true
goes running answered = true
goes returning returning = true
goes returning idle = true
goes _ _ = false

pub goes_asks : (m n : Mode) → goes m n ≡ true → asks n ≡ asks m
goes_asks running running h = refl
goes_asks running answered h = refl
goes_asks returning returning h = refl
goes_asks returning idle h = refl
goes_asks _ _ h = absurd (cc h)
