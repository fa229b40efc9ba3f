-- The guards of an expression, part by part: how far they are made, and what is left.
use Rattle.std.proofs.Common.{◌≡◌, ◌≢◌, ℕ, zero, suc, ◌+◌, ◌-◌, ◌*◌, ◌^◌, ◌<◌, ◌≤◌, List, [], ◌∷◌, ◌++◌, length, take, drop, get_or, All, refl, sym, ap, subst, ◌∙◌, arith, append_assoc, length-append}
use Rattle.std.proofs.lemmas.List.{append-nil}
use Rattle.std.specs.Prelude.{slice_index_or}
use Rattle.prs_core.specs.Nets.{NodeRules}
use Rattle.prs_core.specs.Pairs as nodes
use Rattle.prs_core.specs.Pairs.{Pair, pair_at, pairs_from}
use Rattle.prs_core.specs.Parts.{Keeps}
use Rattle.chp_syntax.specs.declared.tree.Op.{Op}
use Rattle.std.specs.declared.alloc.Global.{Global}
use Rattle.std.specs.declared.boxed.Box.{Box}
use Rattle.width_check.specs.declared.typed.Var.{Var}
use Rattle.width_check.specs.declared.typed.TExpr.{TExpr, Not, Compare}
use Rattle.width_check.specs.declared.typed.TLink.{TLink}
use Rattle.width_check.specs.View.{formula_of}
use Rattle.width_check.specs.Processes.{Formula, joined, inverted, chained, compared, Formulas, and_part, Operations, and_operation}
use Rattle.width_check.specs.Values.{width_of, IsWellFormed, AreWellFormed, AreOperations}
use Rattle.width_check.specs.Typing.{ReadsFrom}
use Rattle.handshake_expand.specs.Layout.{operator_size, formula_size, parts_size, operations_size}
use Rattle.function_blocks.specs.Gates.{operator_rules, operator_result}
use Rattle.function_blocks.specs.Expressions.{HasBits, OperatorFits, bits_between, formula_result, joined_result, chained_result, formula_rules, joined_rules, chained_rules}
use Rattle.function_blocks.specs.Blocks.{bits_apart, bits_in_blocks, HasBit}
use Rattle.function_blocks.specs.BitsRead.{EachRead, EachPart, EachOperation, bits_read}
use Rattle.function_blocks.specs.ExpressionParts.{IsOutside, AreDistinct, InItsMoments, IsWhollyNeutral, IsWhollyValid, StandsApart, WaitsAtRest, expression_part}
use Rattle.width_check.proofs.Bounds.{width_most}
use Rattle.function_blocks.proofs.PartSizes.{some_width}
use Rattle.handshake_expand.proofs.Rows.{parts_of, links_of, part_at, link_at}
use Rattle.function_blocks.proofs.ReadBits.{each_formed, var_bound, vars_over, over_bits, over_reads}
use Rattle.function_blocks.proofs.ExpressionKeeps.{all_neutral_inside, all_valid_inside, expression_keeps, expression_rests}
use Rattle.function_blocks.proofs.Sizes.{result_length, rules_length, operator_length, each_bit}

-- bits of a block

pub apart_length : (step n from : ℕ) → length (bits_apart step n from) ≡ n
apart_length step zero from = refl
apart_length step (suc n) from = ap suc (apart_length step n (from + step))

drop_apart : (step k m n from : ℕ) → m ≡ k + n → drop k (bits_apart step m from) ≡ bits_apart step n (from + step * k)
drop_apart step zero m n from e = let f : from ≡ from + step * 0 = omega arith in let g : m ≡ n = omega (arith, e) in
    ap (λ l. bits_apart step l from) g ∙ ap (bits_apart step n) f
drop_apart step (suc k) zero n from e = absurd (omega (arith, e))
drop_apart step (suc k) (suc m) n from e = let f : from + step + step * k ≡ from + step * suc k = grind arith in
    drop_apart step k m n (from + step) (omega (arith, e)) ∙ ap (bits_apart step n) f

take_apart : (step k m from : ℕ) → k ≤ m → take k (bits_apart step m from) ≡ bits_apart step k from
take_apart step zero m from h = refl
take_apart step (suc k) zero from h = absurd (omega (arith, h))
take_apart step (suc k) (suc m) from h = ap (λ ps. pair_at from ∷ ps) (take_apart step k m (from + step) (omega (arith, h)))

pub between_apart : (high low first : ℕ) → low ≤ high → high ≤ 63
    → bits_between high low (bits_apart 5 64 first) ≡ bits_apart 5 (high + 1 - low) (first + 5 * low)
between_apart high low first some most =
    let count = high + 1 - low in
    let all : 64 ≡ low + (64 - low) = omega (arith, some, most) in
    ap (take count) (drop_apart 5 low 64 (64 - low) first all) ∙ take_apart 5 count (64 - low) (first + 5 * low) (omega (arith, some, most))

-- each bit that is read is one of its variable's 64
blocks_there : (firsts : List ℕ) (e : Formula) → IsWellFormed e → EachRead (λ x bit. bit < length (bits_in_blocks firsts x)) e
blocks_there firsts e h = each_formed _ (λ x i l. let w = apart_length 5 64 (slice_index_or firsts x 0) in omega (arith, w, l)) e h

-- and so the rules are as for variables of 64 bits
abbrev pub block_vars : List ℕ → Formula → List Var
block_vars firsts e = vars_over (bits_in_blocks firsts) 0 (var_bound e)

pub block_bits : (firsts : List ℕ) (e : Formula) → HasBits (block_vars firsts e) (bits_in_blocks firsts)
block_bits firsts e = over_bits (bits_in_blocks firsts) (var_bound e)

pub block_reads : (firsts : List ℕ) (e : Formula) → IsWellFormed e → ReadsFrom (block_vars firsts e) e
block_reads firsts e h = over_reads (bits_in_blocks firsts) (var_bound e) e h (blocks_there firsts e h) (omega arith)

pub counted : (firsts : List ℕ) (e : Formula) (request from : ℕ) → IsWellFormed e
    → length (formula_rules (bits_in_blocks firsts) e request from) ≡ formula_size e
counted firsts e request from h = rules_length (block_vars firsts e) (bits_in_blocks firsts) (block_bits firsts e) e request from h (block_reads firsts e h)

-- a comparison by its sides
pub compare_is : (e : TExpr) (op : Op) (a b : Box TExpr Global) (left right : TExpr) → e ≡ Compare op a b → left ≡ a.value → right ≡ b.value
    → formula_of e ≡ compared op (formula_of left) (formula_of right)
compare_is e op a b left right is left_is right_is =
    ap formula_of is
    ∙ (ap (λ x. compared op (formula_of x) (formula_of b.value)) (sym left_is) ∙ ap (λ x. compared op (formula_of left) (formula_of x)) (sym right_is))

-- a negation by its inner expression
pub not_is : (e : TExpr) (a : Box TExpr Global) (inner : TExpr) → e ≡ Not a → inner ≡ a.value → formula_of e ≡ inverted (formula_of inner)
not_is e a inner is inner_is = ap formula_of is ∙ ap (λ (x : TExpr). inverted (formula_of x)) (sym inner_is)

-- the place behind what was added
grown : (from : ℕ) (old more now : List NodeRules) (n : ℕ) → now ≡ old ++ more → length more ≡ n → from + length now ≡ from + length old + n
grown from old more now n is size = let e : length now ≡ length old + length more = ap length is ∙ length-append old more in omega (arith, e, size)

module _ (firsts : List ℕ) (request from : ℕ) where
  abbrev Bits : ℕ → List Pair
  Bits = bits_in_blocks firsts

  abbrev Read : Formula → Type 0
  Read e = EachRead (HasBit (2 ^ 32) firsts) e

  -- the guards and the bits of this expression were added
  pub record Done (old : List NodeRules) (f : Formula) (made : List NodeRules) (bits : List Pair) : Type 0 where
    pub made_is : made ≡ old ++ formula_rules Bits f request (from + length old)
    pub bits_are : bits ≡ formula_result f (from + length old)

  pub done : (old : List NodeRules) (f : Formula) (made : List NodeRules) (bits : List Pair) → made ≡ old ++ formula_rules Bits f request (from + length old)
      → bits ≡ formula_result f (from + length old) → Done old f made bits
  done old f made bits made_is bits_are = record { made_is = made_is; bits_are = bits_are }

  -- so many parts of a join are left
  pub record Joining (old : List NodeRules) (f : Formula) (rest : Formulas) (made : List NodeRules) (bits : List Pair) : Type 0 where
    pub made_is : made ++ joined_rules Bits rest request (from + length made) ≡ old ++ formula_rules Bits f request (from + length old)
    pub bits_are : joined_result rest (from + length made) ++ bits ≡ formula_result f (from + length old)
    pub formed : AreWellFormed rest
    pub read : EachPart (HasBit (2 ^ 32) firsts) rest
    pub room : from + length made + parts_size rest < 2 ^ 32

  -- so many links of a chain are left
  pub record Chaining (old : List NodeRules) (f : Formula) (rest : Operations) (made : List NodeRules) (bits : List Pair) : Type 0 where
    pub made_is : made ++ chained_rules Bits (length bits) bits rest request (from + length made) ≡ old ++ formula_rules Bits f request (from + length old)
    pub bits_are : chained_result (length bits) bits rest (from + length made) ≡ formula_result f (from + length old)
    pub formed : AreOperations (length bits) rest
    pub read : EachOperation (HasBit (2 ^ 32) firsts) rest
    pub room : from + length made + operations_size (length bits) rest < 2 ^ 32
    pub some : 1 ≤ length bits
    pub most : length bits ≤ 64

  pub join_begin : (old : List NodeRules) (f : Formula) (rest : Formulas) → f ≡ joined rest → IsWellFormed f → Read f
      → from + length old + formula_size f < 2 ^ 32 → Joining old f rest old []
  join_begin old f rest is h r room =
      let formed = subst IsWellFormed is h in
      let read = subst Read is r in
      let size = ap formula_size is in record {
        made_is = ap (λ e. old ++ formula_rules Bits e request (from + length old)) (sym is);
        bits_are = append-nil _ ∙ ap (λ e. formula_result e (from + length old)) (sym is);
        formed = formed.2;
        read = read;
        room = omega (arith, size, room);
      }

  pub part_left : (old : List NodeRules) (f : Formula) (es : List TExpr) (i : ℕ) (e : TExpr) (made : List NodeRules) (bits : List Pair)
      → Joining old f (parts_of (drop i es)) made bits → i < length es → e ≡ get_or es i e
      → Joining old f (and_part (formula_of e) (parts_of (drop (i + 1) es))) made bits
  part_left old f es i e made bits j within is = subst (λ (r : Formulas). Joining old f r made bits) (part_at es i e within is) j

  pub join_more : (old : List NodeRules) (f e : Formula) (more : Formulas) (made now : List NodeRules) (bits lower all : List Pair)
      → Joining old f (and_part e more) made bits → now ≡ made ++ formula_rules Bits e request (from + length made)
      → lower ≡ formula_result e (from + length made) → all ≡ lower ++ bits → Joining old f more now all
  join_more old f e more made now bits lower all j is lower_is all_is =
      let at =
      grown from made (formula_rules Bits e request (from + length made)) now (formula_size e) is
      (counted firsts e request (from + length made) j.formed.0) in
      let room = j.room in record {
        made_is =
            ap (λ n. now ++ joined_rules Bits more request n) at
            ∙ (ap (λ l. l ++ joined_rules Bits more request (from + length made + formula_size e)) is
            ∙ (append_assoc made (formula_rules Bits e request (from + length made)) (joined_rules Bits more request (from + length made + formula_size e))
            ∙ j.made_is));
        bits_are =
            ap (λ n. joined_result more n ++ all) at
            ∙ (ap (λ l. joined_result more (from + length made + formula_size e) ++ l) (all_is ∙ ap (λ l. l ++ bits) lower_is)
            ∙ (sym (append_assoc (joined_result more (from + length made + formula_size e)) (formula_result e (from + length made)) bits) ∙ j.bits_are));
        formed = j.formed.1;
        read = j.read.1;
        room = omega (arith, at, room);
      }

  pub chain_begin : (old : List NodeRules) (f e : Formula) (rest : Operations) (made : List NodeRules) (bits : List Pair) → f ≡ chained e rest → IsWellFormed f
      → Read f → from + length old + formula_size f < 2 ^ 32 → Done old e made bits → Chaining old f rest made bits
  chain_begin old f e rest made bits is h r room d =
      let formed = subst IsWellFormed is h in
      let read = subst Read is r in
      let size = ap formula_size is in
      let wide : length bits ≡ width_of e = ap length d.bits_are ∙ result_length e (from + length old) formed.0 in
      let at = grown from old (formula_rules Bits e request (from + length old)) made (formula_size e) d.made_is
      (counted firsts e request (from + length old) formed.0) in record {
        made_is =
            ap (λ n. made ++ chained_rules Bits n bits rest request (from + length made)) wide
            ∙ (ap (λ n. made ++ chained_rules Bits (width_of e) bits rest request n) at
            ∙ (ap (λ l. made ++ chained_rules Bits (width_of e) l rest request (from + length old + formula_size e)) d.bits_are
            ∙ (ap (λ l. l ++ chained_rules Bits (width_of e) (formula_result e (from + length old)) rest request (from + length old + formula_size e)) d.made_is
            ∙ (append_assoc old (formula_rules Bits e request (from + length old))
            (chained_rules Bits (width_of e) (formula_result e (from + length old)) rest request (from + length old + formula_size e))
            ∙ ap (λ g. old ++ formula_rules Bits g request (from + length old)) (sym is)))));
        bits_are =
            ap (λ n. chained_result n bits rest (from + length made)) wide
            ∙ (ap (λ n. chained_result (width_of e) bits rest n) at
            ∙ (ap (λ l. chained_result (width_of e) l rest (from + length old + formula_size e)) d.bits_are
            ∙ ap (λ g. formula_result g (from + length old)) (sym is)));
        formed = subst (λ n. AreOperations n rest) (sym wide) formed.2;
        read = read.1;
        room = let k = ap (λ n. operations_size n rest) wide in omega (arith, at, size, room, k);
        some = let k = some_width e formed.0 in omega (arith, wide, k);
        most = let k = width_most e formed.0 in omega (arith, wide, k);
      }

  pub link_left : (old : List NodeRules) (f : Formula) (ls : List TLink) (i : ℕ) (l : TLink) (made : List NodeRules) (bits : List Pair)
      → Chaining old f (links_of (drop i ls)) made bits → i < length ls → l ≡ get_or ls i l
      → Chaining old f (and_operation l.op (formula_of l.right) (links_of (drop (i + 1) ls))) made bits
  link_left old f ls i l made bits j within is = subst (λ (r : Operations). Chaining old f r made bits) (link_at ls i l within is) j

  -- the right side is made: then the operator's gates fit
  pub chain_fits : (old : List NodeRules) (f e : Formula) (op : Op) (more : Operations) (made there : List NodeRules) (bits right : List Pair)
      → Chaining old f (and_operation op e more) made bits → there ≡ made ++ formula_rules Bits e request (from + length made)
      → right ≡ formula_result e (from + length made) → OperatorFits from there op bits right
  chain_fits old f e op more made there bits right j there_is right_is =
      let first = from + length made in
      let at = grown from made (formula_rules Bits e request first) there (formula_size e) there_is (counted firsts e request first j.formed.2) in
      let room = j.room in record {
        some = j.some;
        most = j.most;
        agree = ap length right_is ∙ (result_length e first j.formed.2 ∙ j.formed.1);
        room = omega (arith, at, room);
      }

  pub chain_more : (old : List NodeRules) (f e : Formula) (op : Op) (more : Operations) (made there now : List NodeRules) (bits right all : List Pair)
      → Chaining old f (and_operation op e more) made bits → there ≡ made ++ formula_rules Bits e request (from + length made)
      → right ≡ formula_result e (from + length made) → now ≡ there ++ operator_rules op bits right (from + length there)
      → all ≡ operator_result op bits (from + length there) → Chaining old f more now all
  chain_more old f e op more made there now bits right all j there_is right_is now_is all_is =
      let w = length bits in
      let first = from + length made in
      let second = first + formula_size e in
      let third = second + operator_size op w in
      let at = grown from made (formula_rules Bits e request first) there (formula_size e) there_is (counted firsts e request first j.formed.2) in
      let wide : length right ≡ w = ap length right_is ∙ (result_length e first j.formed.2 ∙ j.formed.1) in
      let next = grown from there (operator_rules op bits right (from + length there)) now (operator_size op w) now_is
      (operator_length op bits right (from + length there) wide j.some) in
      let place : from + length now ≡ third = omega (arith, at, next) in
      let same : length all ≡ w = ap length all_is ∙ each_bit op bits (from + length there) j.formed.0 in
      let are : all ≡ operator_result op bits second = all_is ∙ ap (operator_result op bits) at in
      let added : now ≡ made ++ (formula_rules Bits e request first ++ operator_rules op bits (formula_result e first) second) =
      now_is
      ∙ (ap (λ n. there ++ operator_rules op bits right n) at
      ∙ (ap (λ l. there ++ operator_rules op bits l second) right_is
      ∙ (ap (λ l. l ++ operator_rules op bits (formula_result e first) second) there_is
      ∙ append_assoc made (formula_rules Bits e request first) (operator_rules op bits (formula_result e first) second)))) in
      let room = j.room in record {
        made_is =
            ap (λ n. now ++ chained_rules Bits n all more request (from + length now)) same
            ∙ (ap (λ n. now ++ chained_rules Bits w all more request n) place
            ∙ (ap (λ l. now ++ chained_rules Bits w l more request third) are
            ∙ (ap (λ l. l ++ chained_rules Bits w (operator_result op bits second) more request third) added
            ∙ (append_assoc made (formula_rules Bits e request first ++ operator_rules op bits (formula_result e first) second)
            (chained_rules Bits w (operator_result op bits second) more request third)
            ∙ (ap (λ l. made ++ l) (append_assoc (formula_rules Bits e request first) (operator_rules op bits (formula_result e first) second)
            (chained_rules Bits w (operator_result op bits second) more request third))
            ∙ j.made_is)))));
        bits_are =
            ap (λ n. chained_result n all more (from + length now)) same
            ∙ (ap (λ n. chained_result w all more n) place
            ∙ (ap (λ l. chained_result w l more third) are ∙ j.bits_are));
        formed = subst (λ n. AreOperations n more) (sym same) j.formed.3;
        read = j.read.1;
        room = let k = ap (λ n. operations_size n more) same in omega (arith, place, room, k);
        some = let s = j.some in omega (arith, same, s);
        most = let s = j.most in omega (arith, same, s);
      }

  -- the left side of a comparison is made, and then the right one
  pub record Second (made : List NodeRules) (g : Formula) : Type 0 where
    pub formed : IsWellFormed g
    pub read : Read g
    pub room : from + length made + formula_size g < 2 ^ 32

  pub compare_second : (old : List NodeRules) (f e g : Formula) (op : Op) (made : List NodeRules) (left : List Pair) → f ≡ compared op e g → IsWellFormed f
      → Read f → from + length old + formula_size f < 2 ^ 32 → Done old e made left → Second made g
  compare_second old f e g op made left is h r room d =
      let formed = subst IsWellFormed is h in
      let read = subst Read is r in
      let size = ap formula_size is in
      let at = grown from old (formula_rules Bits e request (from + length old)) made (formula_size e) d.made_is
      (counted firsts e request (from + length old) formed.2) in record {
        formed = formed.3;
        read = read.1;
        room = omega (arith, at, size, room);
      }

  pub compare_fits : (old : List NodeRules) (f e g : Formula) (op : Op) (made there : List NodeRules) (left right : List Pair) → f ≡ compared op e g
      → IsWellFormed f → Read f → from + length old + formula_size f < 2 ^ 32 → Done old e made left → Done made g there right
      → OperatorFits from there op left right
  compare_fits old f e g op made there left right is h r room d k =
      let formed = subst IsWellFormed is h in
      let read = subst Read is r in
      let size = ap formula_size is in
      let at = grown from old (formula_rules Bits e request (from + length old)) made (formula_size e) d.made_is
      (counted firsts e request (from + length old) formed.2) in
      let next = grown from made (formula_rules Bits g request (from + length made)) there (formula_size g) k.made_is
      (counted firsts g request (from + length made) formed.3) in
      let wide : length left ≡ width_of e = ap length d.bits_are ∙ result_length e (from + length old) formed.2 in
      let gates = ap (operator_size op) wide in
      let some = some_width e formed.2 in
      let most = width_most e formed.2 in record {
        some = omega (arith, wide, some);
        most = omega (arith, wide, most);
        agree = ap length k.bits_are ∙ (result_length g (from + length made) formed.3 ∙ (formed.1 ∙ sym wide));
        room = omega (arith, at, next, size, room, gates);
      }

  pub compare_end : (old : List NodeRules) (f e g : Formula) (op : Op) (made there now : List NodeRules) (left right all : List Pair) → f ≡ compared op e g
      → IsWellFormed f → Read f → Done old e made left → Done made g there right → now ≡ there ++ operator_rules op left right (from + length there)
      → all ≡ operator_result op left (from + length there) → Done old f now all
  compare_end old f e g op made there now left right all is h r d k now_is all_is =
      let formed = subst IsWellFormed is h in
      let read = subst Read is r in
      let first = from + length old in
      let second = first + formula_size e in
      let third = second + formula_size g in
      let at = grown from old (formula_rules Bits e request first) made (formula_size e) d.made_is (counted firsts e request first formed.2) in
      let next = grown from made (formula_rules Bits g request (from + length made)) there (formula_size g) k.made_is
      (counted firsts g request (from + length made) formed.3) in
      let place : from + length there ≡ third = omega (arith, at, next) in
      let own = operator_rules op (formula_result e first) (formula_result g second) third in
      let right_is : right ≡ formula_result g second = k.bits_are ∙ ap (formula_result g) at in
      let there_is : there ≡ old ++ (formula_rules Bits e request first ++ formula_rules Bits g request second) =
      k.made_is
      ∙ (ap (λ n. made ++ formula_rules Bits g request n) at
      ∙ (ap (λ l. l ++ formula_rules Bits g request second) d.made_is
      ∙ append_assoc old (formula_rules Bits e request first) (formula_rules Bits g request second))) in record {
        made_is =
            now_is
            ∙ (ap (λ n. there ++ operator_rules op left right n) place
            ∙ (ap (λ l. there ++ operator_rules op l right third) d.bits_are
            ∙ (ap (λ l. there ++ operator_rules op (formula_result e first) l third) right_is
            ∙ (ap (λ l. l ++ own) there_is
            ∙ (append_assoc old (formula_rules Bits e request first ++ formula_rules Bits g request second) own
            ∙ (ap (λ l. old ++ l) (append_assoc (formula_rules Bits e request first) (formula_rules Bits g request second) own)
            ∙ ap (λ x. old ++ formula_rules Bits x request first) (sym is)))))));
        bits_are =
            all_is
            ∙ (ap (operator_result op left) place
            ∙ (ap (λ l. operator_result op l third) d.bits_are ∙ ap (λ x. formula_result x first) (sym is)));
      }

-- the bits of numbers and of what is read
pub pairs_apart : (n from : ℕ) → bits_apart 2 n from ≡ pairs_from n from
pairs_apart zero from = refl
pairs_apart (suc n) from = ap (λ ps. pair_at from ∷ ps) (pairs_apart n (from + 2))

-- where none were made before
pub first_made : (none now : List NodeRules) (rules : ℕ → List NodeRules) (from : ℕ) → none ≡ [] → now ≡ none ++ rules (from + length none) → now ≡ rules from
first_made none now rules from empty is =
    let place : from + length none ≡ from = let e = ap length empty in omega (arith, e) in
    is ∙ (ap (λ n. none ++ rules n) place ∙ ap (λ l. l ++ rules from) empty)

-- over blocks of variables
module _ (firsts : List ℕ) (e : Formula) (request from : ℕ) (h : IsWellFormed e)
    (outside : All (IsOutside from (formula_size e)) (request ∷ nodes.rails_of (bits_read (bits_in_blocks firsts) e)))
    (unasked : All (λ rail. rail ≢ request) (nodes.rails_of (bits_read (bits_in_blocks firsts) e)))
    (distinct : AreDistinct (bits_read (bits_in_blocks firsts) e)) where
  blocks_apart : StandsApart (bits_in_blocks firsts) e request from
  blocks_apart = record {
    formed = h;
    there = blocks_there firsts e h;
    outside = outside;
    unasked = unasked;
    distinct = distinct;
  }

  pub blocks_keep : Keeps (expression_part (bits_in_blocks firsts) e request from)
  blocks_keep = expression_keeps (bits_in_blocks firsts) e request from blocks_apart

  pub blocks_valid : InItsMoments IsWhollyValid (bits_in_blocks firsts) e request from
  blocks_valid = all_valid_inside (bits_in_blocks firsts) e request from blocks_apart

  pub blocks_neutral : InItsMoments IsWhollyNeutral (bits_in_blocks firsts) e request from
  blocks_neutral = all_neutral_inside (bits_in_blocks firsts) e request from blocks_apart

  pub blocks_wait : InItsMoments WaitsAtRest (bits_in_blocks firsts) e request from
  blocks_wait = expression_rests (bits_in_blocks firsts) e request from blocks_apart
