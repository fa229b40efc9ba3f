-- The value of a well-formed expression is of its width.
use Rattle.std.proofs.Common.{◌≡◌, ℕ, zero, suc, ◌+◌, ◌-◌, ◌*◌, ◌^◌, ◌<◌, ◌≤◌, Bool, true, false, List, length, get_or, drop, ⊎_elim, subst, pow-suc, arith}
use Rattle.std.proofs.Math.Nat.{mod-lt, mul_comm, mul-le-mul_left}
use Rattle.std.proofs.Math.Pow.{pow-lt}
use Rattle.std.proofs.lemmas.Bool.{cases_lt}
use Rattle.width_check.specs.declared.typed.TExpr.{TExpr}
use Rattle.width_check.specs.View.{formula_of}
use Rattle.width_check.proofs.Rows.{parts_of, part_at, links_of, link_at}
use Rattle.width_check.specs.declared.typed.TLink.{TLink}
use Rattle.std.proofs.lemmas.Nat.{and_le_l, or_lt, xor_lt, mul-add-lt, pow-add}
use Rattle.chp_syntax.specs.declared.tree.Op.{Op}
use Rattle.chp_syntax.specs.declared.tree.Op.TheVariants.{And, Or, Xor, Add, Sub, Eq, Ne, Lt, Le, Gt, Ge}
use Rattle.width_check.specs.Processes.{Formula, constant, reading, joined, inverted, chained, compared, Formulas, no_parts, and_part, Operations, no_operations, and_operation, formula_count}
use Rattle.width_check.specs.Values.{width_of, widths_of, value, joined_value, chained_value, operated, one_if, is_comparison, IsWellFormed, AreWellFormed, AreOperations}

pub some_power : (k : ℕ) → 0 < 2 ^ k
some_power zero = omega arith
some_power (suc k) = rw pow-suc (let some = some_power k in omega arith)

pub operated_fits : (op : Op) (w a b : ℕ) → is_comparison op ≡ false → a < 2 ^ w → b < 2 ^ w → operated op w a b < 2 ^ w
operated_fits And w a b plain left right = omega (arith, and_le_l a b)
operated_fits Or w a b plain left right = or_lt w a b left right
operated_fits Xor w a b plain left right = xor_lt w a b left right
operated_fits Add w a b plain left right = mod-lt (a + b) (some_power w)
operated_fits Sub w a b plain left right = mod-lt (a + (2 ^ w - b)) (some_power w)
operated_fits Eq w a b plain left right = absurd (cc plain)
operated_fits Ne w a b plain left right = absurd (cc plain)
operated_fits Lt w a b plain left right = absurd (cc plain)
operated_fits Le w a b plain left right = absurd (cc plain)
operated_fits Gt w a b plain left right = absurd (cc plain)
operated_fits Ge w a b plain left right = absurd (cc plain)

one_fits : (b : Bool) → one_if b < 2 ^ 1
one_fits true = omega arith
one_fits false = omega arith

compared_fits : (op : Op) (w a b : ℕ) → is_comparison op ≡ true → operated op w a b < 2 ^ 1
compared_fits Eq w a b is = one_fits _
compared_fits Ne w a b is = one_fits _
compared_fits Lt w a b is = one_fits _
compared_fits Le w a b is = one_fits _
compared_fits Gt w a b is = one_fits _
compared_fits Ge w a b is = one_fits _
compared_fits And w a b is = absurd (cc is)
compared_fits Or w a b is = absurd (cc is)
compared_fits Xor w a b is = absurd (cc is)
compared_fits Add w a b is = absurd (cc is)
compared_fits Sub w a b is = absurd (cc is)

pub joined_below : (w v front back : ℕ) → front < 2 ^ w → back < 2 ^ v → front * 2 ^ v + back < 2 ^ (w + v)
joined_below w v front back first second =
    rw pow-add (let most = mul-add-lt front (2 ^ v) back (2 ^ w) first second in omega (arith, mul_comm (2 ^ w) (2 ^ v)))

mutual
  pub value_fits : (store : ℕ → ℕ) (e : Formula) → IsWellFormed e → value store e < 2 ^ width_of e
  value_fits store (constant w v) formed = formed.2
  value_fits store (reading var high low at) formed = mod-lt _ (some_power (high + 1 - low))
  value_fits store (joined parts) formed = joined_fits store parts formed.2
  value_fits store (inverted e) formed = let some = some_power (width_of e) in omega arith
  value_fits store (chained e more) formed = chained_fits store (width_of e) (value store e) more (value_fits store e formed.0) formed.2
  value_fits store (compared op e f) formed = compared_fits op (width_of e) (value store e) (value store f) formed.0

  pub joined_fits : (store : ℕ → ℕ) (parts : Formulas) → AreWellFormed parts → joined_value store parts < 2 ^ widths_of parts
  joined_fits store no_parts formed = omega arith
  joined_fits store (and_part e more) formed =
      joined_below (width_of e) (widths_of more) (value store e) (joined_value store more) (value_fits store e formed.0) (joined_fits store more formed.1)

  pub chained_fits : (store : ℕ → ℕ) (w v : ℕ) (more : Operations) → v < 2 ^ w → AreOperations w more → chained_value store w v more < 2 ^ w
  chained_fits store w v no_operations small formed = small
  chained_fits store w v (and_operation op e more) small formed =
      chained_fits store w (operated op w v (value store e)) more
      (operated_fits op w v (value store e) formed.0 small (subst (λ n. value store e < 2 ^ n) formed.1 (value_fits store e formed.2))) formed.3

-- a well-formed expression has 1 to 64 bits
mutual
  pub width_some : (e : Formula) → IsWellFormed e → 1 ≤ width_of e
  width_some (constant w v) formed = formed.0
  width_some (reading var high low at) formed = omega arith
  width_some (joined parts) formed = widths_some parts formed.0 formed.2
  width_some (inverted e) formed = width_some e formed
  width_some (chained e more) formed = width_some e formed.0
  width_some (compared op e f) formed = omega arith

  pub widths_some : (parts : Formulas) → 1 ≤ formula_count parts → AreWellFormed parts → 1 ≤ widths_of parts
  widths_some no_parts some formed = absurd (omega arith)
  widths_some (and_part e more) some formed = let here = width_some e formed.0 in omega arith

pub width_most : (e : Formula) → IsWellFormed e → width_of e ≤ 64
width_most (constant w v) formed = formed.1
width_most (reading var high low at) formed = omega arith
width_most (joined parts) formed = formed.1
width_most (inverted e) formed = width_most e formed
width_most (chained e more) formed = width_most e formed.0
width_most (compared op e f) formed = omega arith

more_bits : (n w v : ℕ) → n < 2 ^ w → w ≤ v → n < 2 ^ v
more_bits n w v small fits = ⊎_elim (λ less. let up : 2 ^ w < 2 ^ v = pow-lt less in omega arith) (λ same. let e : w ≡ v = omega arith in
    subst (λ k. n < 2 ^ k) e small) (cases_lt w v)

join_shift : (n p q v j : ℕ) → n * (p * q) + (v * q + j) ≡ (n * p + v) * q + j
join_shift n p q v j = omega arith

-- a join, part by part

pub join_begins : (store : ℕ → ℕ) (parts : Formulas) → widths_of parts ≤ 64 → AreWellFormed parts → joined_value store parts < 2 ^ 64
join_begins store parts most formed = more_bits _ _ 64 (joined_fits store parts formed) most

pub part_fits : (store : ℕ → ℕ) (es : List TExpr) (i : ℕ) (e : TExpr) (w v : ℕ) → i < length es → e ≡ get_or es i e → AreWellFormed (parts_of (drop i es)) →
    w ≡ width_of (formula_of e) → v ≡ value store (formula_of e) → v < 2 ^ w
part_fits store es i e w v within is formed wide here =
    rw (wide, here) (value_fits store (formula_of e) (subst (λ ps. AreWellFormed ps) (part_at es i e within is) formed).0)

pub part_joins : (store : ℕ → ℕ) (es : List TExpr) (i : ℕ) (e : TExpr) (n w v : ℕ) → i < length es → e ≡ get_or es i e → w ≡ width_of (formula_of e) →
    v ≡ value store (formula_of e) → n * 2 ^ widths_of (parts_of (drop i es)) + joined_value store (parts_of (drop i es)) ≡
    (n * 2 ^ w + v) * 2 ^ widths_of (parts_of (drop (i + 1) es)) + joined_value store (parts_of (drop (i + 1) es))
part_joins store es i e n w v within is wide here =
    rw (part_at es i e within is, ← wide, ← here, pow-add 2 w (widths_of (parts_of (drop (i + 1) es))))
    (join_shift n (2 ^ w) (2 ^ widths_of (parts_of (drop (i + 1) es))) v (joined_value store (parts_of (drop (i + 1) es))))

pub no_more_than : (n q j whole : ℕ) → n * q + j ≡ whole → 0 < q → n ≤ whole
no_more_than n q j whole is some = let grows : n * 1 ≤ n * q = mul-le-mul_left n some in omega (arith, grows)

-- a chain, link by link

pub link_fits : (store : ℕ → ℕ) (ls : List TLink) (i : ℕ) (l : TLink) (w v : ℕ) → i < length ls → l ≡ get_or ls i l → AreOperations w (links_of (drop i ls)) →
    v ≡ value store (formula_of l.right) → v < 2 ^ w
link_fits store ls i l w v within is formed here =
    let facts = subst (λ ops. AreOperations w ops) (link_at ls i l within is) formed in
    rw here (subst (λ n. value store (formula_of l.right) < 2 ^ n) facts.1 (value_fits store (formula_of l.right) facts.2))

pub record IsLinked (store : ℕ → ℕ) (ls : List TLink) (i w n whole : ℕ) : Type 0 where
  pub chained : chained_value store w n (links_of (drop i ls)) ≡ whole
  pub formed : AreOperations w (links_of (drop i ls))
  pub small : n < 2 ^ w

pub link_more : (store : ℕ → ℕ) (ls : List TLink) (i : ℕ) (l : TLink) (w n v r whole : ℕ) → i < length ls → l ≡ get_or ls i l →
    v ≡ value store (formula_of l.right) → r ≡ operated l.op w n v → chained_value store w n (links_of (drop i ls)) ≡ whole →
    AreOperations w (links_of (drop i ls)) → n < 2 ^ w → IsLinked store ls (i + 1) w r whole
link_more store ls i l w n v r whole within is here applied so_far formed small =
    let e = link_at ls i l within is in
    let facts = subst (λ ops. AreOperations w ops) e formed in
    let fits = link_fits store ls i l w v within is formed here in
    record {
      chained = rw (applied, here) (subst (λ ops. chained_value store w n ops ≡ whole) e so_far);
      formed = facts.3;
      small = rw applied (operated_fits l.op w n v facts.0 small fits);
    }
