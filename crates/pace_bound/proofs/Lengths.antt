-- So many bits as the width, and the members of joins and chains one by one.
use Rattle.std.proofs.Common.{◌≡◌, ℕ, zero, suc, ◌+◌, ◌<◌, ◌≤◌, false, List, [], ◌∷◌, ◌++◌, length, take, drop, get_or, refl, sym, ap, subst, ◌∙◌, arith}
use Rattle.std.proofs.lemmas.List.{length-append}
use Rattle.chp_syntax.specs.declared.tree.Op.{Op}
use Rattle.chp_syntax.specs.declared.tree.Op.TheVariants.{And, Or, Xor, Add, Sub, Eq, Ne, Lt, Le, Gt, Ge}
use Rattle.width_check.specs.declared.typed.TExpr.{TExpr}
use Rattle.width_check.specs.declared.typed.TLink.{TLink}
use Rattle.width_check.specs.Processes.{Formula, Formulas, no_parts, and_part, formula_count}
use Rattle.width_check.specs.Values.{width_of, widths_of, is_comparison, IsWellFormed, AreWellFormed, AreOperations}
use Rattle.width_check.specs.View.{formula_of}
use Rattle.handshake_expand.proofs.Rows.{parts_of, links_of, part_at}
use Rattle.function_blocks.specs.Parts.{outs_of}
use Rattle.function_blocks.proofs.PartSizes.{outs_length, some_width}
use Rattle.pace_bound.specs.Bits.{op_bits, bits, joined_bits, chained_bits}
use Rattle.pace_bound.proofs.Through.{paired_length, rippled_length}
use Rattle.pace_bound.proofs.Arrivals.{ats_length}
use Rattle.pace_bound.proofs.BitsTold.{told}

pub bits_length : (e : Formula) → IsWellFormed e → length (bits e) ≡ width_of e
bits_length e h = let t = told e [] 0 refl h in ap length (sym t.bits) ∙ (ats_length ([] ++ t.own) (outs_of e 0) ∙ outs_length e 0 h)

pub joined_length : (parts : Formulas) → AreWellFormed parts → length (joined_bits parts) ≡ widths_of parts
joined_length no_parts h = refl
joined_length (and_part e more) h = omega (arith, length-append (joined_bits more) (bits e), bits_length e h.0, joined_length more h.1)

pub some_bits : (parts : Formulas) → 1 ≤ formula_count parts → AreWellFormed parts → 1 ≤ length (joined_bits parts)
some_bits no_parts some h = absurd (omega (arith, some))
some_bits (and_part e more) some h = omega (arith, joined_length (and_part e more) h, some_width e h.0)

pub parts_counted : (es : List TExpr) → formula_count (parts_of es) ≡ length es
parts_counted [] = refl
parts_counted (e ∷ es) = ap suc (parts_counted es)

-- from a part on: that part, and those behind it
module _ (es : List TExpr) (i : ℕ) (e : TExpr) (within : i < length es) (is : e ≡ get_or es i e) where
  pub formed_here : AreWellFormed (parts_of (drop i es)) → IsWellFormed (formula_of e) × AreWellFormed (parts_of (drop (i + 1) es))
  formed_here h = subst AreWellFormed (part_at es i e within is) h

  pub bits_here : joined_bits (parts_of (drop i es)) ≡ joined_bits (parts_of (drop (i + 1) es)) ++ bits (formula_of e)
  bits_here = ap joined_bits (part_at es i e within is)

op_length : (op : Op) (us vs : List ℕ) → is_comparison op ≡ false → length vs ≡ length us → length (op_bits op us vs) ≡ length us
op_length And us vs h e = paired_length us vs e
op_length Or us vs h e = paired_length us vs e
op_length Xor us vs h e = paired_length us vs e
op_length Add us vs h e = rippled_length [] us vs e
op_length Sub us vs h e = rippled_length [] us vs e
op_length Eq us vs h e = absurd (cc h)
op_length Ne us vs h e = absurd (cc h)
op_length Lt us vs h e = absurd (cc h)
op_length Le us vs h e = absurd (cc h)
op_length Gt us vs h e = absurd (cc h)
op_length Ge us vs h e = absurd (cc h)

-- the operators of a chain up to one, and that one
pub link_formed : (w i : ℕ) (ls : List TLink) (l : TLink) → i < length ls → l ≡ get_or ls i l → AreOperations w (links_of ls)
    → (is_comparison l.op ≡ false) × (width_of (formula_of l.right) ≡ w) × IsWellFormed (formula_of l.right)
link_formed w i [] l within is h = absurd (omega arith)
link_formed w zero (x ∷ ls) l within is h =
    subst (λ (y : TLink). (is_comparison y.op ≡ false) × (width_of (formula_of y.right) ≡ w) × IsWellFormed (formula_of y.right)) (sym is) (h.0, h.1, h.2)
link_formed w (suc i) (x ∷ ls) l within is h = link_formed w i ls l (omega arith) is h.3

pub links_until : (left : List ℕ) (i : ℕ) (ls : List TLink) (l : TLink) → i < length ls → l ≡ get_or ls i l
    → chained_bits left (links_of (take (suc i) ls)) ≡ op_bits l.op (chained_bits left (links_of (take i ls))) (bits (formula_of l.right))
links_until left i [] l within is = absurd (omega arith)
links_until left zero (x ∷ ls) l within is = ap (λ (y : TLink). op_bits y.op left (bits (formula_of y.right))) (sym is)
links_until left (suc i) (x ∷ ls) l within is = links_until (op_bits x.op left (bits (formula_of x.right))) i ls l (omega arith) is

pub until_length : (w : ℕ) (left : List ℕ) (i : ℕ) (ls : List TLink) → length left ≡ w → AreOperations w (links_of ls)
    → length (chained_bits left (links_of (take i ls))) ≡ w
until_length w left zero ls is h = is
until_length w left (suc i) [] is h = is
until_length w left (suc i) (x ∷ ls) is h =
    until_length w (op_bits x.op left (bits (formula_of x.right))) i ls
    (op_length x.op left (bits (formula_of x.right)) h.0 (bits_length (formula_of x.right) h.2 ∙ (h.1 ∙ sym is)) ∙ is) h.3
