-- When an expression is one over some variables, part by part.
use Rattle.std.proofs.Common.{◌≡◌, ◌≢◌, ℕ, zero, suc, ◌+◌, ◌-◌, ◌^◌, ◌<◌, ◌≤◌, true, false, List, [], ◌∷◌, length, get_or, drop, refl, sym, ap, ◌∙◌, subst, arith}
use Rattle.chp_base.specs.declared.span.Span.{Span}
use Rattle.chp_base.specs.declared.channel.Channel.{Channel}
use Rattle.chp_syntax.specs.declared.tree.Op.{Op}
use Rattle.std.specs.Prelude.{◌==◌, Option, Some, None, IfNone}
use Rattle.width_check.specs.declared.typed.Var.{Var}
use Rattle.width_check.specs.declared.typed.TExpr.{TExpr}
use Rattle.width_check.specs.declared.typed.TLink.{TLink}
use Rattle.width_check.specs.View.{formula_of}
use Rattle.width_check.specs.Processes.{Formula, constant, reading, joined, inverted, chained, compared, Formulas, no_parts, and_part, Operations, no_operations, and_operation, formula_count, operation_count}
use Rattle.width_check.specs.Typing.{kind_at, channel_width, var_width, EachReadsFrom, AllReadFrom, IsOfWidth}
use Rattle.width_check.specs.Values.{width_of, widths_of, is_comparison, AreWellFormed, AreOperations}
use Rattle.width_check.proofs.Bounds.{width_most, widths_some}
use Rattle.width_check.proofs.Alike.{Alike}
use Rattle.width_check.proofs.Rows.{parts_of, part_at, no_more_parts, links_of, link_at, no_more_links}

-- what is declared at a place

pub var_found : (vs : List Var) (i : ℕ) (v : Var) → i < length vs → v ≡ get_or vs i v → v.width ≡ var_width vs i
var_found [] i v within is = absurd (omega arith)
var_found (x ∷ xs) zero v within is = ap (λ (y : Var). y.width) is
var_found (x ∷ xs) (suc i) v within is = var_found xs i v (omega arith) is

pub channel_found : (cs : List Channel) (i : ℕ) (c : Channel) → i < length cs → c ≡ get_or cs i c → c.width ≡ channel_width cs i
channel_found [] i c within is = absurd (omega arith)
channel_found (x ∷ xs) zero c within is = ap (λ (y : Channel). y.width) is
channel_found (x ∷ xs) (suc i) c within is = channel_found xs i c (omega arith) is

pub kind_found : (cs : List Channel) (i : ℕ) (c : Channel) → i < length cs → c ≡ get_or cs i c → c.kind ≡ kind_at cs i
kind_found [] i c within is = absurd (omega arith)
kind_found (x ∷ xs) zero c within is = ap (λ (y : Channel). y.kind) is
kind_found (x ∷ xs) (suc i) c within is = kind_found xs i c (omega arith) is

-- an expression that is one over the variables has one width, of 1 to 64 bits

pub most_bits : (vars : List Var) (w : ℕ) (e : Formula) → IsOfWidth vars w e → w ≤ 64
most_bits vars w e is = let most = width_most e is.formed in omega (arith, is.agrees)

pub one_width : (vars : List Var) (w v : ℕ) (e : Formula) → IsOfWidth vars w e → IsOfWidth vars v e → w ≡ v
one_width vars w v e one other = sym one.agrees ∙ other.agrees

pub constant_over : (vars : List Var) (w v : ℕ) → 1 ≤ w → w ≤ 64 → v < 2 ^ w → IsOfWidth vars w (constant w v)
constant_over vars w v some most fits = record { formed = (some, most, fits); reads = tt; agrees = refl }

pub reading_over : (vars : List Var) (var high low : ℕ) (at : Span) → var < length vars → high < var_width vars var → low ≤ high → high ≤ 63 →
    IsOfWidth vars (high + 1 - low) (reading var high low at)
reading_over vars var high low at there within ordered most = record { formed = (ordered, most); reads = (there, within); agrees = refl }

pub inverted_over : (vars : List Var) (w : ℕ) (e : Formula) → IsOfWidth vars w e → IsOfWidth vars w (inverted e)
inverted_over vars w e is = record { formed = is.formed; reads = is.reads; agrees = is.agrees }

pub if_none : {X : Type 0} (o : Option X) (P : Type 0) → P → IfNone o P
if_none None P p = p
if_none (Some x) P p = tt

pub not_over : (vars : List Var) (e f : Formula) → e ≡ f → ((u : ℕ) → ¬ IsOfWidth vars u f) → (u : ℕ) → ¬ IsOfWidth vars u e
not_over vars e f same no_width u = subst (λ g. ¬ IsOfWidth vars u g) (sym same) (no_width u)

pub not_zero : (n : ℕ) → false ≡ (n == 0) → 0 < n
not_zero zero is = absurd (cc is)
not_zero (suc n) is = omega arith

-- joins

-- each of these parts is an expression over the variables
pub record AreOver (vars : List Var) (parts : Formulas) : Type 0 where
  pub formed : AreWellFormed parts
  pub read : EachReadsFrom vars parts

-- of a join these parts are left, behind others of so many bits together
pub record IsJoining (vars : List Var) (parts left : Formulas) (width : ℕ) : Type 0 where
  pub sum : width + widths_of left ≡ widths_of parts
  pub most : width ≤ 64
  pub same : Alike (AreOver vars parts) (AreOver vars left)

pub join_wrong : (vars : List Var) (parts : Formulas) (e : Formula) (left : Formulas) (w : ℕ) → IsJoining vars parts (and_part e left) w →
    ((v : ℕ) → ¬ IsOfWidth vars v e) → (u : ℕ) → ¬ IsOfWidth vars u (joined parts)
join_wrong vars parts e left w so_far wrong u is =
    let rest = so_far.same.rest (record { formed = is.formed.2; read = is.reads }) in
    wrong (width_of e) (record { formed = rest.formed.0; reads = rest.read.0; agrees = refl })

pub join_wide : (vars : List Var) (parts : Formulas) (e : Formula) (left : Formulas) (w v : ℕ) → IsJoining vars parts (and_part e left) w → IsOfWidth vars v e →
    64 < w + v → (u : ℕ) → ¬ IsOfWidth vars u (joined parts)
join_wide vars parts e left w v so_far is wide u whole = absurd (omega (arith, so_far.sum, is.agrees, whole.formed.1))

some_parts : (parts : Formulas) → 1 ≤ widths_of parts → 1 ≤ formula_count parts
some_parts no_parts some = absurd (omega arith)
some_parts (and_part e more) some = omega arith

pub join_done : (vars : List Var) (parts : Formulas) (w : ℕ) → IsJoining vars parts no_parts w → 1 ≤ w → IsOfWidth vars w (joined parts)
join_done vars parts w so_far some =
    let all = so_far.same.whole (record { formed = tt; read = tt }) in
    let sum : w ≡ widths_of parts = omega (arith, so_far.sum) in
    record { formed = (some_parts parts (omega arith), omega (arith, so_far.most), all.formed); reads = all.read; agrees = sym sum }

pub join_empty : (vars : List Var) (parts : Formulas) (w : ℕ) → IsJoining vars parts no_parts w → w ≡ 0 → (u : ℕ) → ¬ IsOfWidth vars u (joined parts)
join_empty vars parts w so_far none u is =
    let some = widths_some parts is.formed.0 is.formed.2 in
    absurd (omega (arith, so_far.sum))

pub join_at : (vars : List Var) (es : List TExpr) (i : ℕ) (e : TExpr) (w : ℕ) → i < length es → e ≡ get_or es i e →
    IsJoining vars (parts_of es) (parts_of (drop i es)) w → IsJoining vars (parts_of es) (and_part (formula_of e) (parts_of (drop (i + 1) es))) w
join_at vars es i e w within is = subst (λ ps. IsJoining vars (parts_of es) ps w) (part_at es i e within is)

pub join_more : (vars : List Var) (es : List TExpr) (i : ℕ) (e : TExpr) (w v : ℕ) → i < length es → e ≡ get_or es i e →
    IsJoining vars (parts_of es) (parts_of (drop i es)) w → IsOfWidth vars v (formula_of e) → w + v ≤ 64 →
    IsJoining vars (parts_of es) (parts_of (drop (i + 1) es)) (w + v)
join_more vars es i e w v within is so_far here most =
    let left = join_at vars es i e w within is so_far in
    record {
      sum = omega (arith, left.sum, here.agrees);
      most = most;
      same = record {
        whole = λ rest. left.same.whole (record { formed = (here.formed, rest.formed); read = (here.reads, rest.read) });
        rest = λ all. let both = left.same.rest all in
            record { formed = both.formed.1; read = both.read.1 };
      };
    }

pub join_end : (vars : List Var) (es : List TExpr) (i w : ℕ) → length es ≤ i → IsJoining vars (parts_of es) (parts_of (drop i es)) w →
    IsJoining vars (parts_of es) no_parts w
join_end vars es i w all = subst (λ ps. IsJoining vars (parts_of es) ps w) (no_more_parts es i all)

-- chains

-- each of these operations is one on numbers of the width, over the variables
pub record AreLinks (vars : List Var) (width : ℕ) (links : Operations) : Type 0 where
  pub formed : AreOperations width links
  pub read : AllReadFrom vars links

-- what a chain over the variables is made of
pub chain_parts : (vars : List Var) (u : ℕ) (e : Formula) (links : Operations) → IsOfWidth vars u (chained e links) → AreLinks vars (width_of e) links
chain_parts vars u e links is = record { formed = is.formed.2; read = is.reads.1 }

pub chain_compares : (vars : List Var) (w u : ℕ) (first : Formula) (links : Operations) (op : Op) (e : Formula) (left : Operations) →
    Alike (AreLinks vars w links) (AreLinks vars w (and_operation op e left)) → IsOfWidth vars w first → is_comparison op ≡ true →
    ¬ IsOfWidth vars u (chained first links)
chain_compares vars w u first links op e left same is compares whole =
    let rest = same.rest (subst (λ n. AreLinks vars n links) is.agrees (chain_parts vars u first links whole)) in
    let plain = rest.formed.0 in
    absurd (cc)

pub chain_wrong : (vars : List Var) (w u : ℕ) (first : Formula) (links : Operations) (op : Op) (e : Formula) (left : Operations) →
    Alike (AreLinks vars w links) (AreLinks vars w (and_operation op e left)) → IsOfWidth vars w first → ¬ IsOfWidth vars w e →
    ¬ IsOfWidth vars u (chained first links)
chain_wrong vars w u first links op e left same is wrong whole =
    let rest = same.rest (subst (λ n. AreLinks vars n links) is.agrees (chain_parts vars u first links whole)) in
    wrong (record { formed = rest.formed.2; reads = rest.read.0; agrees = rest.formed.1 })

pub chain_done : (vars : List Var) (w : ℕ) (first : Formula) (links : Operations) → Alike (AreLinks vars w links) (AreLinks vars w no_operations) →
    IsOfWidth vars w first → 1 ≤ operation_count links → IsOfWidth vars w (chained first links)
chain_done vars w first links same is some =
    let all = subst (λ n. AreLinks vars n links) (sym is.agrees) (same.whole (record { formed = tt; read = tt })) in
    record { formed = (is.formed, some, all.formed); reads = (is.reads, all.read); agrees = is.agrees }

pub links_at : (vars : List Var) (w : ℕ) (ls : List TLink) (i : ℕ) (l : TLink) → i < length ls → l ≡ get_or ls i l →
    Alike (AreLinks vars w (links_of ls)) (AreLinks vars w (links_of (drop i ls))) →
    Alike (AreLinks vars w (links_of ls)) (AreLinks vars w (and_operation l.op (formula_of l.right) (links_of (drop (i + 1) ls))))
links_at vars w ls i l within is = subst (λ ops. Alike (AreLinks vars w (links_of ls)) (AreLinks vars w ops)) (link_at ls i l within is)

pub links_more : (vars : List Var) (w : ℕ) (ls : List TLink) (i : ℕ) (l : TLink) (v : ℕ) → i < length ls → l ≡ get_or ls i l →
    Alike (AreLinks vars w (links_of ls)) (AreLinks vars w (links_of (drop i ls))) → is_comparison l.op ≡ false → IsOfWidth vars v (formula_of l.right) →
    v ≡ w → Alike (AreLinks vars w (links_of ls)) (AreLinks vars w (links_of (drop (i + 1) ls)))
links_more vars w ls i l v within is so_far plain here same =
    let left = links_at vars w ls i l within is so_far in
    record {
      whole = λ rest. left.whole (record { formed = (plain, here.agrees ∙ same, here.formed, rest.formed); read = (here.reads, rest.read) });
      rest = λ all. let both = left.rest all in
          record { formed = both.formed.3; read = both.read.1 };
    }

pub links_end : (vars : List Var) (w : ℕ) (ls : List TLink) (i : ℕ) → length ls ≤ i →
    Alike (AreLinks vars w (links_of ls)) (AreLinks vars w (links_of (drop i ls))) → Alike (AreLinks vars w (links_of ls)) (AreLinks vars w no_operations)
links_end vars w ls i all = subst (λ ops. Alike (AreLinks vars w (links_of ls)) (AreLinks vars w ops)) (no_more_links ls i all)

pub links_counted : (ls : List TLink) → operation_count (links_of ls) ≡ length ls
links_counted [] = refl
links_counted (l ∷ ls) = ap suc (links_counted ls)

pub chain_none : (vars : List Var) (w u : ℕ) (first : Formula) (links : Operations) (op : Op) (e : Formula) (left : Operations) →
    Alike (AreLinks vars w links) (AreLinks vars w (and_operation op e left)) → IsOfWidth vars w first → ((v : ℕ) → ¬ IsOfWidth vars v e) →
    ¬ IsOfWidth vars u (chained first links)
chain_none vars w u first links op e left same is wrong = chain_wrong vars w u first links op e left same is (wrong w)

pub chain_other : (vars : List Var) (w v u : ℕ) (first : Formula) (links : Operations) (op : Op) (e : Formula) (left : Operations) →
    Alike (AreLinks vars w links) (AreLinks vars w (and_operation op e left)) → IsOfWidth vars w first → IsOfWidth vars v e → v ≢ w →
    ¬ IsOfWidth vars u (chained first links)
chain_other vars w v u first links op e left same is right differ =
    chain_wrong vars w u first links op e left same is (λ other. differ (one_width vars v w e right other))

-- comparisons

pub compared_over : (vars : List Var) (w v : ℕ) (op : Op) (e f : Formula) → IsOfWidth vars w e → IsOfWidth vars v f → w ≡ v → is_comparison op ≡ true →
    IsOfWidth vars 1 (compared op e f)
compared_over vars w v op e f left right same is = record {
  formed = (is, right.agrees ∙ sym (left.agrees ∙ same), left.formed, right.formed);
  reads =
      (left.reads, right.reads);
  agrees = refl;
}
