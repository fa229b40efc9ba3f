-- One bit of a variable: what it keeps, decided over all values of its nodes.
use Rattle.std.proofs.Common.{◌≡◌, Bool, true, false, ◌⊎◌, inl, inr, refl, sym, subst}
use Rattle.std.specs.Prelude.{not, ◌&&◌, ◌||◌, if◌then◌else◌}
use Rattle.prs_core.specs.Deciding.{implies, implies_at, implies_both, all_6, at_6}

-- the rails of its value, those by which it is written, the node that says that it has been, and the acknowledge
pub record Now : Type 0 where
  pub xt : Bool
  pub xf : Bool
  pub wt : Bool
  pub wf : Bool
  pub wa : Bool
  pub va : Bool

pub data Role : Type 0 where
  rail_t rail_f write_t write_f written : Role

abbrev pub turn : Role → Now → Now
turn rail_t n = record n { xt = not n.xt }
turn rail_f n = record n { xf = not n.xf }
turn write_t n = record n { wt = not n.wt }
turn write_f n = record n { wf = not n.wf }
turn written n = record n { wa = not n.wa }

-- whether its rule is enabled, or its neighbour may move it
abbrev pub may : Role → Now → Bool
may rail_t n = if n.xt then n.wf else n.wt && not n.xf
may rail_f n = if n.xf then n.wt else n.wf && not n.xt
may write_t n = if n.wt then n.va else not n.va && not n.wf
may write_f n = if n.wf then n.va else not n.va && not n.wt
may written n = if n.wa then not n.wt && not n.wf else (n.wt && n.xt) || (n.wf && n.xf)

abbrev pub same : Now → Bool
same n = n.wt && n.xt || n.wf && n.xf

-- At most one rail of a pair is high. The bit has a value where nothing is written. The wave turns at the acknowledge: while
-- it is low the bit is written only if it has the value, while it is high it has the value and is written as long as it is
-- there.
abbrev pub legal : Now → Bool
legal n =
    not (n.xt && n.xf)
    && (not (n.wt && n.wf)
    && ((n.wt || n.wf || (n.xt || n.xf))
    && (if n.va then implies (n.wt || n.wf) (same n && n.wa) else implies n.wa (same n))))

abbrev pub now_of : Bool → Bool → Bool → Bool → Bool → Bool → Now
now_of xt xf wt wf wa va = record { xt = xt; xf = xf; wt = wt; wf = wf; wa = wa; va = va }

abbrev pub all_now : (Now → Bool) → Bool
all_now p = all_6 (λ xt xf wt wf wa va. p (now_of xt xf wt wf wa va))

pub at_now : (p : Now → Bool) → all_now p ≡ true → (n : Now) → p n ≡ true
at_now p h n = at_6 (λ xt xf wt wf wa va. p (now_of xt xf wt wf wa va)) h n.xt n.xf n.wt n.wf n.wa n.va

abbrev agree : Bool → Bool → Bool
agree true b = b
agree false b = not b

agree_from : (a b : Bool) → a ≡ b → agree a b ≡ true
agree_from true b e = sym e
agree_from false true e = absurd (cc e)
agree_from false false e = refl

agreed : (a b : Bool) → agree a b ≡ true → a ≡ b
agreed true b h = sym h
agreed false true h = absurd (cc h)
agreed false false h = refl

both_high : (a b : Bool) → a ≡ true → b ≡ true → (a && b) ≡ true
both_high true b h k = k
both_high false b h k = absurd (cc h)

-- each move keeps a legal bit legal
pub stays : (k : Role) (n : Now) → legal n ≡ true → may k n ≡ true → legal (turn k n) ≡ true
stays rail_t n = implies_both (legal n) (may rail_t n) (legal (turn rail_t n))
    (at_now (λ n. implies (legal n) (implies (may rail_t n) (legal (turn rail_t n)))) refl n)
stays rail_f n = implies_both (legal n) (may rail_f n) (legal (turn rail_f n))
    (at_now (λ n. implies (legal n) (implies (may rail_f n) (legal (turn rail_f n)))) refl n)
stays write_t n = implies_both (legal n) (may write_t n) (legal (turn write_t n))
    (at_now (λ n. implies (legal n) (implies (may write_t n) (legal (turn write_t n)))) refl n)
stays write_f n = implies_both (legal n) (may write_f n) (legal (turn write_f n))
    (at_now (λ n. implies (legal n) (implies (may write_f n) (legal (turn write_f n)))) refl n)
stays written n = implies_both (legal n) (may written n) (legal (turn written n))
    (at_now (λ n. implies (legal n) (implies (may written n) (legal (turn written n)))) refl n)

-- also where the acknowledge is the node that says that the bit is written
abbrev pub both_turned : Now → Now
both_turned n = record n { wa = not n.wa; va = not n.va }

pub stays_alone : (n : Now) → legal n ≡ true → may written n ≡ true → legal (both_turned n) ≡ true
stays_alone n = implies_both (legal n) (may written n) (legal (both_turned n))
    (at_now (λ n. implies (legal n) (implies (may written n) (legal (both_turned n)))) refl n)

-- and where the acknowledge turns after the node that says that the bit is written
abbrev pub acknowledged : Now → Now
acknowledged n = record n { va = not n.va }

pub stays_after : (n : Now) → legal n ≡ true → n.wa ≡ not n.va → legal (acknowledged n) ≡ true
stays_after n l e = implies_both (legal n) (agree n.wa (not n.va)) (legal (acknowledged n))
    (at_now (λ n. implies (legal n) (implies (agree n.wa (not n.va)) (legal (acknowledged n)))) refl n) l (agree_from n.wa (not n.va) e)

-- while the acknowledge is high a rail by which the bit is written says what the bit has
pub held_t : (n : Now) → legal n ≡ true → n.va ≡ true → n.wt ≡ true → n.xt ≡ true
held_t n l a h = implies_both (legal n) (n.va && n.wt) n.xt (at_now (λ n. implies (legal n) (implies (n.va && n.wt) n.xt)) refl n) l (both_high n.va n.wt a h)

pub held_f : (n : Now) → legal n ≡ true → n.va ≡ true → n.wf ≡ true → n.xf ≡ true
held_f n l a h = implies_both (legal n) (n.va && n.wf) n.xf (at_now (λ n. implies (legal n) (implies (n.va && n.wf) n.xf)) refl n) l (both_high n.va n.wf a h)

-- that node leaves the acknowledge's value
pub written_as_acknowledged : (n : Now) → legal n ≡ true → may written n ≡ true → n.wa ≡ n.va
written_as_acknowledged n l m = agreed n.wa n.va (implies_both (legal n) (may written n) (agree n.wa n.va)
    (at_now (λ n. implies (legal n) (implies (may written n) (agree n.wa n.va))) refl n) l m)

-- no enabled rule of the bit is disabled by another move at it
abbrev pub is_other : Role → Role → Bool
is_other rail_t rail_t = false
is_other rail_f rail_f = false
is_other write_t write_t = false
is_other write_f write_f = false
is_other written written = false
is_other _ _ = true

abbrev pub is_own : Role → Bool
is_own rail_t = true
is_own rail_f = true
is_own written = true
is_own _ = false

abbrev firm_test : Role → Role → Now → Bool
firm_test k j n = implies (legal n) (implies (may k n) (implies (may j n) (may k (turn j n))))

firm_by : (k j : Role) (n : Now) → firm_test k j n ≡ true → legal n ≡ true → may k n ≡ true → may j n ≡ true → may k (turn j n) ≡ true
firm_by k j n h l m o = implies_at (may j n) (may k (turn j n)) (implies_both (legal n) (may k n) (implies (may j n) (may k (turn j n))) h l m) o

pub firm : (k j : Role) (n : Now) → is_own k ≡ true → is_other k j ≡ true → legal n ≡ true → may k n ≡ true → may j n ≡ true → may k (turn j n) ≡ true
firm rail_t rail_f n own other = firm_by rail_t rail_f n (at_now (firm_test rail_t rail_f) refl n)
firm rail_t write_t n own other = firm_by rail_t write_t n (at_now (firm_test rail_t write_t) refl n)
firm rail_t write_f n own other = firm_by rail_t write_f n (at_now (firm_test rail_t write_f) refl n)
firm rail_t written n own other = firm_by rail_t written n (at_now (firm_test rail_t written) refl n)
firm rail_f rail_t n own other = firm_by rail_f rail_t n (at_now (firm_test rail_f rail_t) refl n)
firm rail_f write_t n own other = firm_by rail_f write_t n (at_now (firm_test rail_f write_t) refl n)
firm rail_f write_f n own other = firm_by rail_f write_f n (at_now (firm_test rail_f write_f) refl n)
firm rail_f written n own other = firm_by rail_f written n (at_now (firm_test rail_f written) refl n)
firm written rail_t n own other = firm_by written rail_t n (at_now (firm_test written rail_t) refl n)
firm written rail_f n own other = firm_by written rail_f n (at_now (firm_test written rail_f) refl n)
firm written write_t n own other = firm_by written write_t n (at_now (firm_test written write_t) refl n)
firm written write_f n own other = firm_by written write_f n (at_now (firm_test written write_f) refl n)
firm rail_t rail_t n own other = absurd (cc other)
firm rail_f rail_f n own other = absurd (cc other)
firm written written n own other = absurd (cc other)
firm write_t j n own other = absurd (cc own)
firm write_f j n own other = absurd (cc own)

-- what the acknowledge is to wait for
abbrev pub valid : (t f : Bool) → Bool
valid t f = t && not f || not t && f

abbrev pub has_value : Now → Bool
has_value n = valid n.wt n.wf && valid n.xt n.xf && same n

abbrev pub ready : Now → Bool
ready n = if n.va then not n.wt && not n.wf else has_value n

pub ready_after : (n : Now) → legal n ≡ true → n.wa ≡ not n.va → ready n ≡ true
ready_after n l e = implies_both (legal n) (agree n.wa (not n.va)) (ready n)
    (at_now (λ n. implies (legal n) (implies (agree n.wa (not n.va)) (ready n))) refl n) l (agree_from n.wa (not n.va) e)

pub ready_alone : (n : Now) → legal n ≡ true → may written n ≡ true → ready n ≡ true
ready_alone n l m = implies_both (legal n) (may written n) (ready n) (at_now (λ n. implies (legal n) (implies (may written n) (ready n))) refl n) l m

-- no node is pulled both ways
abbrev pub pulled : Role → Now → Bool
pulled rail_t n = (n.wt && not n.xf) && n.wf
pulled rail_f n = (n.wf && not n.xt) && n.wt
pulled written n = ((n.wt && n.xt) || (n.wf && n.xf)) && (not n.wt && not n.wf)
pulled _ n = false

not_true : (b : Bool) → not b ≡ true → b ≡ false
not_true false h = refl
not_true true h = absurd (cc h)

pub apart : (k : Role) (n : Now) → legal n ≡ true → pulled k n ≡ false
apart rail_t n l = not_true (pulled rail_t n) (implies_at (legal n) (not (pulled rail_t n)) (at_now (λ n. implies (legal n) (not (pulled rail_t n))) refl n) l)
apart rail_f n l = not_true (pulled rail_f n) (implies_at (legal n) (not (pulled rail_f n)) (at_now (λ n. implies (legal n) (not (pulled rail_f n))) refl n) l)
apart written n l = not_true (pulled written n) (implies_at (legal n) (not (pulled written n))
    (at_now (λ n. implies (legal n) (not (pulled written n))) refl n) l)
apart write_t n l = refl
apart write_f n l = refl

-- where nothing is written and the acknowledge is low
abbrev idle : Now → Bool
idle n = not n.wt && (not n.wf && not n.va)

idle_from : (n : Now) → n.wt ≡ false → n.wf ≡ false → n.va ≡ false → idle n ≡ true
idle_from n a b c = subst (λ x. (not x && (not n.wf && not n.va)) ≡ true) (sym a)
    (subst (λ x. (not x && not n.va) ≡ true) (sym b) (subst (λ x. not x ≡ true) (sym c) refl))

pub legal_at_first : (n : Now) → valid n.xt n.xf ≡ true → n.wt ≡ false → n.wf ≡ false → n.va ≡ false → n.wa ≡ false → legal n ≡ true
legal_at_first n v a b c d =
    implies_at (not n.wa) (legal n) (implies_both (valid n.xt n.xf) (idle n) (implies (not n.wa) (legal n))
    (at_now (λ n. implies (valid n.xt n.xf) (implies (idle n) (implies (not n.wa) (legal n)))) refl n) v (idle_from n a b c))
    (subst (λ x. not x ≡ true) (sym d) refl)

-- a bit that stands still with the acknowledge's value waits for its neighbour
abbrev moves : Now → Bool
moves n = may rail_t n || (may rail_f n || may written n)

abbrev waits_test : Now → Bool
waits_test n = implies (legal n) (implies (agree n.wa n.va) (implies (not (moves n)) (may write_t n || may write_f n)))

still_from : (n : Now) → may rail_t n ≡ false → may rail_f n ≡ false → may written n ≡ false → not (moves n) ≡ true
still_from n a b c = subst (λ x. not (x || (may rail_f n || may written n)) ≡ true) (sym a)
    (subst (λ x. not (x || may written n) ≡ true) (sym b) (subst (λ x. not x ≡ true) (sym c) refl))

pub waits : (n : Now) → legal n ≡ true → n.wa ≡ n.va → may rail_t n ≡ false → may rail_f n ≡ false → may written n ≡ false
    → (may write_t n || may write_f n) ≡ true
waits n l e a b c = implies_at (not (moves n)) (may write_t n || may write_f n)
    (implies_both (legal n) (agree n.wa n.va) (implies (not (moves n)) (may write_t n || may write_f n)) (at_now waits_test refl n) l (agree_from n.wa n.va e))
    (still_from n a b c)

-- one rail of the value at most is high, and one is where none of them moves
pub single_bit : (n : Now) → legal n ≡ true → not (n.xt && n.xf) ≡ true
single_bit n = implies_at (legal n) (not (n.xt && n.xf)) (at_now (λ n. implies (legal n) (not (n.xt && n.xf))) refl n)

abbrev rails_rest : Now → Bool
rails_rest n = not (may rail_t n || may rail_f n)

rests_from : (n : Now) → may rail_t n ≡ false → may rail_f n ≡ false → rails_rest n ≡ true
rests_from n a b = subst (λ x. not (x || may rail_f n) ≡ true) (sym a) (subst (λ x. not x ≡ true) (sym b) refl)

pub some_bit : (n : Now) → legal n ≡ true → may rail_t n ≡ false → may rail_f n ≡ false → (n.xt || n.xf) ≡ true
some_bit n l a b = implies_both (legal n) (rails_rest n) (n.xt || n.xf) (at_now (λ n. implies (legal n) (implies (rails_rest n) (n.xt || n.xf))) refl n) l
    (rests_from n a b)

-- two roles are one, or each is the other's other
pub role_cases : (k j : Role) → (k ≡ j) ⊎ (is_other k j ≡ true)
role_cases rail_t rail_t = inl refl
role_cases rail_f rail_f = inl refl
role_cases write_t write_t = inl refl
role_cases write_f write_f = inl refl
role_cases written written = inl refl
role_cases _ _ = inr refl

-- a rail of the value moves only while the bit is written
pub written_t : (n : Now) → legal n ≡ true → may rail_t n ≡ true → (not n.va && (n.wt || n.wf)) ≡ true
written_t n = implies_both (legal n) (may rail_t n) (not n.va && (n.wt || n.wf))
    (at_now (λ n. implies (legal n) (implies (may rail_t n) (not n.va && (n.wt || n.wf)))) refl n)

pub written_f : (n : Now) → legal n ≡ true → may rail_f n ≡ true → (not n.va && (n.wt || n.wf)) ≡ true
written_f n = implies_both (legal n) (may rail_f n) (not n.va && (n.wt || n.wf))
    (at_now (λ n. implies (legal n) (implies (may rail_f n) (not n.va && (n.wt || n.wf)))) refl n)
