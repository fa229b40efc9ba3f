-- The bits that an expression reads: one by one, as a list of rails, and in the value.
use Rattle.std.proofs.Common.{◌≡◌, ℕ, zero, suc, ◌+◌, ◌-◌, ◌*◌, ◌^◌, ◌<◌, ◌≤◌, ◌==◌, Bool, true, false, List, [], ◌∷◌, ◌++◌, length, take, drop, Contains, refl, sym, ap, ◌∙◌, arith, ◌⊎◌, inl, inr}
use Rattle.std.specs.Prelude.{◌&&◌, ◌||◌, nat_le}
use Rattle.std.proofs.lemmas.Bool.Decides.{nat_tests}
use Rattle.std.proofs.lemmas.List.Elements.{Contains-append_right, Contains-append_left}
use Rattle.prs_core.specs.Pairs as nodes
use Rattle.prs_core.specs.Turning.{among_cases, none_among}
use Rattle.prs_core.specs.Deciding.{left_of, right_of, both_of}
use Rattle.width_check.specs.declared.typed.Var.{Var}
use Rattle.width_check.specs.Processes.{Formula, constant, reading, joined, inverted, chained, compared, Formulas, no_parts, and_part, Operations, no_operations, and_operation}
use Rattle.width_check.specs.Values.{width_of, widths_of, operated, value, joined_value, chained_value, IsWellFormed, AreWellFormed, AreOperations}
use Rattle.width_check.specs.Typing.{var_width, ReadsFrom, EachReadsFrom, AllReadFrom}
use Rattle.function_blocks.specs.Expressions.{HasBits, bits_between}
use Rattle.function_blocks.specs.BitsRead.{EachRead, EachPart, EachOperation, bits_read, bits_of_parts, bits_of_operations}
use Rattle.function_blocks.specs.Rails.{Rails, number_on}
use Rattle.function_blocks.proofs.Tables.{or_left, or_right}
use Rattle.function_blocks.proofs.BitNumbers.{number_of, read_list, read_number}

-- whether it reads the bit
abbrev mutual
  pub reads_bit : (x bit : ℕ) → Formula → Bool
  reads_bit x i (constant w v) = false
  reads_bit x i (reading y high low at) = (y == x) && (nat_le low i && nat_le i high)
  reads_bit x i (joined parts) = part_reads x i parts
  reads_bit x i (inverted e) = reads_bit x i e
  reads_bit x i (chained e more) = reads_bit x i e || operation_reads x i more
  reads_bit x i (compared op e f) = reads_bit x i e || reads_bit x i f

  pub part_reads : (x bit : ℕ) → Formulas → Bool
  part_reads x i no_parts = false
  part_reads x i (and_part e more) = reads_bit x i e || part_reads x i more

  pub operation_reads : (x bit : ℕ) → Operations → Bool
  operation_reads x i no_operations = false
  operation_reads x i (and_operation op e more) = reads_bit x i e || operation_reads x i more

eq_from : (a b : ℕ) → (a == b) ≡ true → a ≡ b
eq_from a b h = grind (arith, nat_tests)

eq_self : (a : ℕ) → (a == a) ≡ true
eq_self a = grind (arith, nat_tests)

le_from : (a b : ℕ) → nat_le a b ≡ true → a ≤ b
le_from a b h = grind (arith, nat_tests)

le_is : (a b : ℕ) → a ≤ b → nat_le a b ≡ true
le_is a b h = grind (arith, nat_tests)

either : {A : Type 0} (a b : Bool) → (a || b) ≡ true → (a ≡ true → A) → (b ≡ true → A) → A
either true b h f g = f refl
either false b h f g = g h

module _ (P : ℕ → ℕ → Type 0) where
  mutual
    pub each_from : (e : Formula) → ((x i : ℕ) → reads_bit x i e ≡ true → P x i) → EachRead P e
    each_from (constant w v) f = tt
    each_from (reading x high low at) f = λ i l m. f x i (both_of _ _ (eq_self x) (both_of _ _ (le_is low i l) (le_is i high m)))
    each_from (joined parts) f = parts_from parts f
    each_from (inverted e) f = each_from e f
    each_from (chained e more) f = (each_from e (λ x i h. f x i (or_left _ _ h)), operations_from more (λ x i h. f x i (or_right (reads_bit x i e) _ h)))
    each_from (compared op e g) f = (each_from e (λ x i h. f x i (or_left _ _ h)), each_from g (λ x i h. f x i (or_right (reads_bit x i e) _ h)))

    parts_from : (parts : Formulas) → ((x i : ℕ) → part_reads x i parts ≡ true → P x i) → EachPart P parts
    parts_from no_parts f = tt
    parts_from (and_part e more) f = (each_from e (λ x i h. f x i (or_left _ _ h)), parts_from more (λ x i h. f x i (or_right (reads_bit x i e) _ h)))

    operations_from : (more : Operations) → ((x i : ℕ) → operation_reads x i more ≡ true → P x i) → EachOperation P more
    operations_from no_operations f = tt
    operations_from (and_operation op e more) f =
        (each_from e (λ x i h. f x i (or_left _ _ h)), operations_from more (λ x i h. f x i (or_right (reads_bit x i e) _ h)))

  read_here : (x i y high low : ℕ) → ((j : ℕ) → low ≤ j → j ≤ high → P y j) → y ≡ x → low ≤ i → i ≤ high → P x i
  read_here x i y high low r e l m = rw (← e) (r i l m)

  mutual
    pub each_at : (e : Formula) (x i : ℕ) → EachRead P e → reads_bit x i e ≡ true → P x i
    each_at (constant w v) x i r h = absurd (cc h)
    each_at (reading y high low at) x i r h =
        let within = right_of (y == x) _ h in
        read_here x i y high low r (eq_from y x (left_of _ _ h)) (le_from low i (left_of _ _ within)) (le_from i high (right_of (nat_le low i) _ within))
    each_at (joined parts) x i r h = part_at parts x i r h
    each_at (inverted e) x i r h = each_at e x i r h
    each_at (chained e more) x i r h = either (reads_bit x i e) _ h (λ k. each_at e x i r.0 k) (λ k. operation_at more x i r.1 k)
    each_at (compared op e g) x i r h = either (reads_bit x i e) _ h (λ k. each_at e x i r.0 k) (λ k. each_at g x i r.1 k)

    part_at : (parts : Formulas) (x i : ℕ) → EachPart P parts → part_reads x i parts ≡ true → P x i
    part_at no_parts x i r h = absurd (cc h)
    part_at (and_part e more) x i r h = either (reads_bit x i e) _ h (λ k. each_at e x i r.0 k) (λ k. part_at more x i r.1 k)

    operation_at : (more : Operations) (x i : ℕ) → EachOperation P more → operation_reads x i more ≡ true → P x i
    operation_at no_operations x i r h = absurd (cc h)
    operation_at (and_operation op e more) x i r h = either (reads_bit x i e) _ h (λ k. each_at e x i r.0 k) (λ k. operation_at more x i r.1 k)

-- each is one of 64 bits
module _ (P : ℕ → ℕ → Type 0) (f : (x i : ℕ) → i ≤ 63 → P x i) where
  mutual
    pub each_formed : (e : Formula) → IsWellFormed e → EachRead P e
    each_formed (constant w v) h = tt
    each_formed (reading x high low at) h = λ i l m. f x i (omega (arith, m, h.1))
    each_formed (joined parts) h = parts_formed parts h.2
    each_formed (inverted e) h = each_formed e h
    each_formed (chained e more) h = (each_formed e h.0, operations_formed (width_of e) more h.2)
    each_formed (compared op e g) h = (each_formed e h.2, each_formed g h.3)

    parts_formed : (parts : Formulas) → AreWellFormed parts → EachPart P parts
    parts_formed no_parts h = tt
    parts_formed (and_part e more) h = (each_formed e h.0, parts_formed more h.1)

    operations_formed : (width : ℕ) (more : Operations) → AreOperations width more → EachOperation P more
    operations_formed width no_operations h = tt
    operations_formed width (and_operation op e more) h = (each_formed e h.2, operations_formed width more h.3)

-- a number above those of the variables that are read
abbrev mutual
  pub var_bound : Formula → ℕ
  var_bound (constant w v) = 0
  var_bound (reading x high low at) = suc x
  var_bound (joined parts) = parts_bound parts
  var_bound (inverted e) = var_bound e
  var_bound (chained e more) = var_bound e + operations_bound more
  var_bound (compared op e g) = var_bound e + var_bound g

  parts_bound : Formulas → ℕ
  parts_bound no_parts = 0
  parts_bound (and_part e more) = var_bound e + parts_bound more

  operations_bound : Operations → ℕ
  operations_bound no_operations = 0
  operations_bound (and_operation op e more) = var_bound e + operations_bound more

-- as a list

-- of a list of bits from one place up to another
between_more : (high low : ℕ) (p : nodes.Pair) (ps : List nodes.Pair) → bits_between (suc high) (suc low) (p ∷ ps) ≡ bits_between high low ps
between_more high low p ps = let e : suc high + 1 - suc low ≡ high + 1 - low = omega arith in ap (λ n. take n (drop low ps)) e

among_taken : (n i : ℕ) (ps : List nodes.Pair) → i < n → i < length ps → Contains (take n ps) (nodes.pair_of ps i)
among_taken n i [] l m = absurd (omega (arith, m))
among_taken zero i (p ∷ ps) l m = absurd (omega (arith, l))
among_taken (suc n) zero (p ∷ ps) l m = (0, omega arith, refl)
among_taken (suc n) (suc i) (p ∷ ps) l m =
    Contains-append_right (p ∷ []) (take n ps) (nodes.pair_of ps i) (among_taken n i ps (omega (arith, l)) (omega (arith, m)))

among_between : (high low i : ℕ) (ps : List nodes.Pair) → low ≤ i → i ≤ high → i < length ps → Contains (bits_between high low ps) (nodes.pair_of ps i)
among_between high zero i ps l m k = among_taken (high + 1 - 0) i ps (omega (arith, m)) k
among_between high (suc low) zero ps l m k = absurd (omega (arith, l))
among_between zero (suc low) (suc i) ps l m k = absurd (omega (arith, m))
among_between (suc high) (suc low) (suc i) [] l m k = absurd (omega (arith, k))
among_between (suc high) (suc low) (suc i) (p ∷ ps) l m k =
    let there = among_between high low i ps (omega (arith, l)) (omega (arith, m)) (omega (arith, k)) in
    rw (between_more high low p ps) there

-- one of those between
record Between (high low : ℕ) (ps : List nodes.Pair) (p : nodes.Pair) : Type 0 where
  pub bit : ℕ
  pub from : low ≤ bit
  pub to : bit ≤ high
  pub is : nodes.pair_of ps bit ≡ p

taken_among : (n : ℕ) (ps : List nodes.Pair) (p : nodes.Pair) → Contains (take n ps) p → (i : ℕ) × (i < n) × (nodes.pair_of ps i ≡ p)
taken_among zero ps p among = absurd (none_among p among)
taken_among (suc n) [] p among = absurd (none_among p among)
taken_among (suc n) (q ∷ ps) p among = by (among_cases q (take n ps) p among) (taken_among n ps p)
  where
    by : (q ≡ p) ⊎ Contains (take n ps) p → (Contains (take n ps) p → (i : ℕ) × (i < n) × (nodes.pair_of ps i ≡ p)) → (i : ℕ) × (i < suc n)
        × (nodes.pair_of (q ∷ ps) i ≡ p)
    by (inl e) rest = (0, omega arith, e)
    by (inr here) rest = let (i, l, is) = rest here in (suc i, omega (arith, l), is)

pair_dropped : (low i : ℕ) (ps : List nodes.Pair) → nodes.pair_of (drop low ps) i ≡ nodes.pair_of ps (low + i)
pair_dropped zero i ps = let e : i ≡ 0 + i = omega arith in ap (nodes.pair_of ps) e
pair_dropped (suc low) i [] = none i
  where
    none : (i : ℕ) → nodes.pair_of [] i ≡ nodes.pair_of [] (suc low + i)
    none i = refl
pair_dropped (suc low) i (p ∷ ps) = let e : suc (low + i) ≡ suc low + i = omega arith in pair_dropped low i ps ∙ ap (nodes.pair_of (p ∷ ps)) e

between_among : (high low : ℕ) (ps : List nodes.Pair) (p : nodes.Pair) → low ≤ high → Contains (bits_between high low ps) p → Between high low ps p
between_among high low ps p some among =
    let (i, l, is) = taken_among (high + 1 - low) (drop low ps) p among in
    record { bit = low + i; from = omega arith; to = omega (arith, l, some); is = sym (pair_dropped low i ps) ∙ is }

pub append_cases : {X : Type 0} (ps qs : List X) (p : X) → Contains (ps ++ qs) p → Contains ps p ⊎ Contains qs p
append_cases [] qs p among = inr among
append_cases {X = X} (q ∷ ps) qs p among = by (among_cases q (ps ++ qs) p among) (append_cases ps qs p)
  where
    by : (q ≡ p) ⊎ Contains (ps ++ qs) p → (Contains (ps ++ qs) p → Contains ps p ⊎ Contains qs p) → Contains (q ∷ ps) p ⊎ Contains qs p
    by (inl e) rest = inl (0, omega arith, e)
    by (inr here) rest = later (rest here)
      where
        later : Contains ps p ⊎ Contains qs p → Contains (q ∷ ps) p ⊎ Contains qs p
        later (inl z) = inl (Contains-append_right (q ∷ []) ps p z)
        later (inr z) = inr z

-- what the rails of the list are
pub record ReadBit (bits : ℕ → List nodes.Pair) (reads : (x bit : ℕ) → Bool) (p : nodes.Pair) : Type 0 where
  pub var : ℕ
  pub bit : ℕ
  pub read : reads var bit ≡ true
  pub is : nodes.pair_of (bits var) bit ≡ p

more_reads : (bits : ℕ → List nodes.Pair) (f g : (x bit : ℕ) → Bool) (p : nodes.Pair) → ((x i : ℕ) → f x i ≡ true → g x i ≡ true) → ReadBit bits f p
    → ReadBit bits g p
more_reads bits f g p h r = record { var = r.var; bit = r.bit; read = h r.var r.bit r.read; is = r.is }

either_list : {A : Type 0} {B : Type 0} {C : Type 0} → A ⊎ B → (A → C) → (B → C) → C
either_list (inl a) f g = f a
either_list (inr b) f g = g b

module _ (bits : ℕ → List nodes.Pair) where
  mutual
    pub read_among : (e : Formula) (p : nodes.Pair) → IsWellFormed e → Contains (bits_read bits e) p → ReadBit bits (λ x i. reads_bit x i e) p
    read_among (constant w v) p h among = absurd (none_among p among)
    read_among (reading x high low at) p h among =
        let b = between_among high low (bits x) p h.0 among in
        record { var = x; bit = b.bit; read = both_of _ _ (eq_self x) (both_of _ _ (le_is low b.bit b.from) (le_is b.bit high b.to)); is = b.is }
    read_among (joined parts) p h among = part_among parts p h.2 among
    read_among (inverted e) p h among = read_among e p h among
    read_among (chained e more) p h among =
        either_list (append_cases (bits_read bits e) (bits_of_operations bits more) p among)
        (λ k. more_reads bits _ _ p (λ x i z. or_left _ _ z) (read_among e p h.0 k))
        (λ k. more_reads bits _ _ p (λ x i z. or_right (reads_bit x i e) _ z) (operation_among (width_of e) more p h.2 k))
    read_among (compared op e g) p h among =
        either_list (append_cases (bits_read bits e) (bits_read bits g) p among)
        (λ k. more_reads bits _ _ p (λ x i z. or_left _ _ z) (read_among e p h.2 k))
        (λ k. more_reads bits _ _ p (λ x i z. or_right (reads_bit x i e) _ z) (read_among g p h.3 k))

    part_among : (parts : Formulas) (p : nodes.Pair) → AreWellFormed parts → Contains (bits_of_parts bits parts) p
        → ReadBit bits (λ x i. part_reads x i parts) p
    part_among no_parts p h among = absurd (none_among p among)
    part_among (and_part e more) p h among =
        either_list (append_cases (bits_read bits e) (bits_of_parts bits more) p among)
        (λ k. more_reads bits _ _ p (λ x i z. or_left _ _ z) (read_among e p h.0 k))
        (λ k. more_reads bits _ _ p (λ x i z. or_right (reads_bit x i e) _ z) (part_among more p h.1 k))

    operation_among : (width : ℕ) (more : Operations) (p : nodes.Pair) → AreOperations width more → Contains (bits_of_operations bits more) p
        → ReadBit bits (λ x i. operation_reads x i more) p
    operation_among width no_operations p h among = absurd (none_among p among)
    operation_among width (and_operation op e more) p h among =
        either_list (append_cases (bits_read bits e) (bits_of_operations bits more) p among)
        (λ k. more_reads bits _ _ p (λ x i z. or_left _ _ z) (read_among e p h.2 k))
        (λ k. more_reads bits _ _ p (λ x i z. or_right (reads_bit x i e) _ z) (operation_among width more p h.3 k))

  abbrev Has : ℕ → ℕ → Type 0
  Has x i = i < length (bits x)

  read_there : (x i y high low : ℕ) → y ≡ x → low ≤ i → i ≤ high → i < length (bits x) → Contains (bits_between high low (bits y)) (nodes.pair_of (bits x) i)
  read_there x i y high low e l m k = rw e (among_between high low i (bits x) l m k)

  mutual
    pub among_read : (e : Formula) (x i : ℕ) → i < length (bits x) → reads_bit x i e ≡ true → Contains (bits_read bits e) (nodes.pair_of (bits x) i)
    among_read (constant w v) x i k h = absurd (cc h)
    among_read (reading y high low at) x i k h =
        let within = right_of (y == x) _ h in
        read_there x i y high low (eq_from y x (left_of _ _ h)) (le_from low i (left_of _ _ within)) (le_from i high (right_of (nat_le low i) _ within)) k
    among_read (joined parts) x i k h = among_part parts x i k h
    among_read (inverted e) x i k h = among_read e x i k h
    among_read (chained e more) x i k h =
        either (reads_bit x i e) _ h (λ z. Contains-append_left (bits_read bits e) (bits_of_operations bits more) _ (among_read e x i k z))
        (λ z. Contains-append_right (bits_read bits e) (bits_of_operations bits more) _ (among_operation more x i k z))
    among_read (compared op e g) x i k h =
        either (reads_bit x i e) _ h (λ z. Contains-append_left (bits_read bits e) (bits_read bits g) _ (among_read e x i k z))
        (λ z. Contains-append_right (bits_read bits e) (bits_read bits g) _ (among_read g x i k z))

    among_part : (parts : Formulas) (x i : ℕ) → i < length (bits x) → part_reads x i parts ≡ true
        → Contains (bits_of_parts bits parts) (nodes.pair_of (bits x) i)
    among_part no_parts x i k h = absurd (cc h)
    among_part (and_part e more) x i k h =
        either (reads_bit x i e) _ h (λ z. Contains-append_left (bits_read bits e) (bits_of_parts bits more) _ (among_read e x i k z))
        (λ z. Contains-append_right (bits_read bits e) (bits_of_parts bits more) _ (among_part more x i k z))

    among_operation : (more : Operations) (x i : ℕ) → i < length (bits x) → operation_reads x i more ≡ true
        → Contains (bits_of_operations bits more) (nodes.pair_of (bits x) i)
    among_operation no_operations x i k h = absurd (cc h)
    among_operation (and_operation op e more) x i k h =
        either (reads_bit x i e) _ h (λ z. Contains-append_left (bits_read bits e) (bits_of_operations bits more) _ (among_read e x i k z))
        (λ z. Contains-append_right (bits_read bits e) (bits_of_operations bits more) _ (among_operation more x i k z))

  -- variables that have these bits, so many that all that are read are among them
  abbrev pub vars_over : (from count : ℕ) → List Var
  vars_over from zero = []
  vars_over from (suc n) = record { name = []; width = length (bits from); first = 0 } ∷ vars_over (suc from) n

  over_count : (from n : ℕ) → length (vars_over from n) ≡ n
  over_count from zero = refl
  over_count from (suc n) = ap suc (over_count (suc from) n)

  over_width : (from n x : ℕ) → x < n → var_width (vars_over from n) x ≡ length (bits (from + x))
  over_width from zero x l = absurd (omega (arith, l))
  over_width from (suc n) zero l = let e : from ≡ from + 0 = omega arith in ap (λ k. length (bits k)) e
  over_width from (suc n) (suc x) l = let e : suc from + x ≡ from + suc x = omega arith in
      over_width (suc from) n x (omega (arith, l)) ∙ ap (λ k. length (bits k)) e

  over_is : (n x : ℕ) → x < n → var_width (vars_over 0 n) x ≡ length (bits x)
  over_is n x l = let e : 0 + x ≡ x = omega arith in over_width 0 n x l ∙ ap (λ k. length (bits k)) e

  pub over_bits : (n : ℕ) → HasBits (vars_over 0 n) bits
  over_bits n x l = let e = over_count 0 n in sym (over_is n x (omega (arith, e, l)))

  mutual
    pub over_reads : (n : ℕ) (e : Formula) → IsWellFormed e → EachRead Has e → var_bound e ≤ n → ReadsFrom (vars_over 0 n) e
    over_reads n (constant w v) h r l = tt
    over_reads n (reading x high low at) h r l =
        let e = over_count 0 n in
        let w = over_is n x (omega (arith, l)) in
        let k = r high h.0 (omega arith) in
        (omega (arith, e, l), omega (arith, w, k))
    over_reads n (joined parts) h r l = over_parts n parts h.2 r l
    over_reads n (inverted e) h r l = over_reads n e h r l
    over_reads n (chained e more) h r l = (over_reads n e h.0 r.0 (omega (arith, l)), over_operations n (width_of e) more h.2 r.1 (omega (arith, l)))
    over_reads n (compared op e g) h r l = (over_reads n e h.2 r.0 (omega (arith, l)), over_reads n g h.3 r.1 (omega (arith, l)))

    over_parts : (n : ℕ) (parts : Formulas) → AreWellFormed parts → EachPart Has parts → parts_bound parts ≤ n → EachReadsFrom (vars_over 0 n) parts
    over_parts n no_parts h r l = tt
    over_parts n (and_part e more) h r l = (over_reads n e h.0 r.0 (omega (arith, l)), over_parts n more h.1 r.1 (omega (arith, l)))

    over_operations : (n width : ℕ) (more : Operations) → AreOperations width more → EachOperation Has more → operations_bound more ≤ n
        → AllReadFrom (vars_over 0 n) more
    over_operations n width no_operations h r l = tt
    over_operations n width (and_operation op e more) h r l =
        (over_reads n e h.2 r.0 (omega (arith, l)), over_operations n width more h.3 r.1 (omega (arith, l)))

-- a bit that is read is one of 64, and one that its variable has
module _ (vars : List Var) (P : ℕ → ℕ → Type 0) (f : (x i : ℕ) → x < length vars → i < var_width vars x → i ≤ 63 → P x i) where
  mutual
    pub each_declared : (e : Formula) → IsWellFormed e → ReadsFrom vars e → EachRead P e
    each_declared (constant w v) h r = tt
    each_declared (reading x high low at) h r = λ i l m. f x i r.0 (let k = r.1 in omega (arith, m, k)) (omega (arith, m, h.1))
    each_declared (joined parts) h r = parts_declared parts h.2 r
    each_declared (inverted e) h r = each_declared e h r
    each_declared (chained e more) h r = (each_declared e h.0 r.0, operations_declared (width_of e) more h.2 r.1)
    each_declared (compared op e g) h r = (each_declared e h.2 r.0, each_declared g h.3 r.1)

    parts_declared : (parts : Formulas) → AreWellFormed parts → EachReadsFrom vars parts → EachPart P parts
    parts_declared no_parts h r = tt
    parts_declared (and_part e more) h r = (each_declared e h.0 r.0, parts_declared more h.1 r.1)

    operations_declared : (width : ℕ) (more : Operations) → AreOperations width more → AllReadFrom vars more → EachOperation P more
    operations_declared width no_operations h r = tt
    operations_declared width (and_operation op e more) h r = (each_declared e h.2 r.0, operations_declared width more h.3 r.1)

pub bits_within : (vars : List Var) (e : Formula) → IsWellFormed e → ReadsFrom vars e → (x i : ℕ) → reads_bit x i e ≡ true → i < var_width vars x
bits_within vars e h r x i k = each_at _ e x i (each_declared vars (λ x i. i < var_width vars x) (λ x i l m few. m) e h r) k

-- in the value

list_same : (rail now : Rails) (l n : ℕ) → ((j : ℕ) → l ≤ j → j < l + n → rail j true ≡ now j true) → read_list rail l n ≡ read_list now l n
list_same rail now l zero f = refl
list_same rail now l (suc n) f = ap (λ b. b ∷ read_list rail (suc l) n) (f l (omega arith) (omega arith))
    ∙ ap (λ bs. now l true ∷ bs) (list_same rail now (suc l) n (λ j h k. f j (omega (arith, h)) (omega (arith, k))))

-- the value of an expression is that of the bits that it reads, whatever stands on the other rails
module _ (w u : ℕ → ℕ) (rail now : ℕ → Rails) where
  abbrev Same : ℕ → ℕ → Type 0
  Same x i = (i < w x) × (i < u x) × (rail x i true ≡ now x i true)

  abbrev f : ℕ → ℕ
  f x = number_on (w x) (rail x)

  abbrev g : ℕ → ℕ
  g x = number_on (u x) (now x)

  mutual
    pub value_same : (e : Formula) → IsWellFormed e → EachRead Same e → value f e ≡ value g e
    value_same (constant width v) h r = refl
    value_same (reading x high low at) h r =
        let n = high + 1 - low in
        let top = r high h.0 (omega arith) in
        let few = top.0 in
        let less = top.1 in
        sym (read_number (w x) low n (rail x) (omega (arith, few, h.0)))
        ∙ (ap number_of (list_same (rail x) (now x) low n (λ j l m. (r j l (omega (arith, l, m))).2))
        ∙ read_number (u x) low n (now x) (omega (arith, less, h.0)))
    value_same (joined parts) h r = joined_same parts h.2 r
    value_same (inverted e) h r = ap (λ n. 2 ^ width_of e - 1 - n) (value_same e h r)
    value_same (chained e more) h r = ap (λ n. chained_value f (width_of e) n more) (value_same e h.0 r.0) ∙ chained_same (width_of e) (value g e) more h.2 r.1
    value_same (compared op d e) h r =
        ap (λ n. operated op (width_of d) n (value f e)) (value_same d h.2 r.0) ∙ ap (operated op (width_of d) (value g d)) (value_same e h.3 r.1)

    joined_same : (parts : Formulas) → AreWellFormed parts → EachPart Same parts → joined_value f parts ≡ joined_value g parts
    joined_same no_parts h r = refl
    joined_same (and_part e more) h r =
        ap (λ n. n * 2 ^ widths_of more + joined_value f more) (value_same e h.0 r.0) ∙ ap (λ n. value g e * 2 ^ widths_of more + n) (joined_same more h.1 r.1)

    chained_same : (width n : ℕ) (more : Operations) → AreOperations width more → EachOperation Same more
        → chained_value f width n more ≡ chained_value g width n more
    chained_same width n no_operations h r = refl
    chained_same width n (and_operation op e more) h r =
        ap (λ k. chained_value f width (operated op width n k) more) (value_same e h.2 r.0) ∙ chained_same width (operated op width n (value g e)) more h.3 r.1
