-- What comes behind the bits of operands, where so much comes behind those of the result.
use Rattle.std.proofs.Common.{◌≡◌, ℕ, zero, suc, ◌+◌, ◌≤◌, List, [], ◌∷◌, ◌++◌, length, refl, sym, ap, ◌∙◌, ◌⊎◌, inl, inr, arith}
use Rattle.std.specs.Prelude.{max}
use Rattle.handshake_expand.specs.Layout.{capped}
use Rattle.round_time.specs.Longest.{greatest}
use Rattle.pace_bound.specs.declared.behind.Order.{Order}
use Rattle.pace_bound.specs.declared.behind.Order.TheVariants.{Alike, Carried, Joined}
use Rattle.pace_bound.specs.declared.behind.Behind.{Behind}
use Rattle.chp_syntax.specs.declared.tree.Op.{Op}
use Rattle.chp_syntax.specs.declared.tree.Op.TheVariants.{And, Or, Xor, Eq, Ne, Lt, Le, Gt, Ge}
use Rattle.pace_bound.specs.Bits.{paired, rippled, all_of, ones, op_bits}
use Rattle.pace_bound.specs.Behind.{evenly, carried, joint, through, reached_over}
use Rattle.pace_bound.proofs.Through.{alike_is, alike_flat, carried_flat, joint_flat, alike_append, carried_append, joint_append, capped_alike, capped_carried, alike_paired, carried_paired, joint_paired, paired_length, rippled_length, alike_start, carried_start, joint_start, conjoined_is}

pub capped_max : (a b : ℕ) → capped (max a b) ≡ max (capped a) (capped b)
capped_max a b = omega arith

capped_joint : (n : ℕ) (ds : List ℕ) → capped (joint (capped n) ds) ≡ capped (joint n ds)
capped_joint n [] = refl
capped_joint n (d ∷ ds) =
    let one : capped (carried (capped n + 1) ds) ≡ capped (carried (n + 1) ds) =
    sym (capped_carried (capped n + 1) ds) ∙ (ap (λ k. capped (carried k ds)) (omega arith) ∙ capped_carried (n + 1) ds) in
    omega arith

pub capped_through : (o : Order) (n : ℕ) (ds : List ℕ) → capped (through o (capped n) ds) ≡ capped (through o n ds)
capped_through Alike n ds = capped_alike n ds
capped_through Carried n ds = capped_carried n ds
capped_through Joined n ds = capped_joint n ds

pub more_is : (r : Behind) (o : Order) (n : ℕ) (ds : List ℕ) → r.order ≡ o → r.gates ≡ capped n → reached_over r ds ≡ capped (through o n ds)
more_is r o n ds p q = ap (λ x. capped (through x r.gates ds)) p ∙ (ap (λ k. capped (through o k ds)) q ∙ capped_through o n ds)

-- both operands with what comes behind them
pub both : (r : Behind) (o : Order) (n : ℕ) (t : ℕ) (us vs : List ℕ) → r.order ≡ o → r.gates ≡ capped n → t ≡ max (through o n us) (through o n vs)
    → capped t ≡ max (reached_over r us) (reached_over r vs)
both r o n t us vs p q is =
    ap capped is ∙ (capped_max (through o n us) (through o n vs)
    ∙ (ap (λ k. max k (capped (through o n vs))) (sym (more_is r o n us p q)) ∙ ap (max (reached_over r us)) (sym (more_is r o n vs p q))))

pub paired_through : (o : Order) (n : ℕ) (us vs : List ℕ) → length vs ≡ length us
    → through o n (paired us vs) ≡ max (through o (n + 1) us) (through o (n + 1) vs)
paired_through Alike n us vs e = alike_paired n us vs e
paired_through Carried n us vs e = carried_paired n us vs e
paired_through Joined n us vs e = joint_paired n us vs e

pub single_through : (o : Order) (n d : ℕ) → through o n (d ∷ []) ≡ n + d
single_through Alike n d = omega arith
single_through Carried n d = omega arith
single_through Joined n d = omega arith

-- a sum: in all orders but one, or of one bit
pub rippled_alike : (n : ℕ) (us vs : List ℕ) → 1 ≤ length us → length vs ≡ length us
    → evenly n (rippled [] us vs) ≡ max (carried (n + 1) us) (carried (n + 1) vs)
rippled_alike n [] vs some e = absurd (omega arith)
rippled_alike n (a ∷ us) [] some e = absurd (omega arith)
rippled_alike n (a ∷ us) (b ∷ vs) some e = alike_start n a b us vs (omega arith)

pub rippled_carried : (n : ℕ) (us vs : List ℕ) → 1 ≤ length us → length vs ≡ length us
    → carried n (rippled [] us vs) ≡ max (carried (n + 1) us) (carried (n + 1) vs)
rippled_carried n [] vs some e = absurd (omega arith)
rippled_carried n (a ∷ us) [] some e = absurd (omega arith)
rippled_carried n (a ∷ us) (b ∷ vs) some e = carried_start n a b us vs (omega arith)

pub rippled_joint : (n : ℕ) (us vs : List ℕ) → 2 ≤ length us → length vs ≡ length us
    → joint n (rippled [] us vs) ≡ max (carried (n + 2) us) (carried (n + 2) vs)
rippled_joint n [] vs some e = absurd (omega arith)
rippled_joint n (a ∷ []) vs some e = absurd (omega arith)
rippled_joint n (a ∷ x ∷ us) [] some e = absurd (omega arith)
rippled_joint n (a ∷ x ∷ us) (b ∷ []) some e = absurd (omega arith)
rippled_joint n (a ∷ x ∷ us) (b ∷ y ∷ vs) some e = joint_start n a b x y us vs (omega arith)

pub rippled_single : (n : ℕ) (us vs : List ℕ) → length us ≡ 1 → length vs ≡ length us
    → joint n (rippled [] us vs) ≡ max (carried (n + 1) us) (carried (n + 1) vs)
rippled_single n [] vs one e = absurd (omega arith)
rippled_single n (a ∷ x ∷ us) vs one e = absurd (omega arith)
rippled_single n (a ∷ []) [] one e = absurd (omega arith)
rippled_single n (a ∷ []) (b ∷ []) one e = omega arith
rippled_single n (a ∷ []) (b ∷ y ∷ vs) one e = absurd (omega arith)

pub rippled_through : (o : Order) (n : ℕ) (us vs : List ℕ) → (o ≡ Joined → length us ≡ 1) → 1 ≤ length us → length vs ≡ length us
    → through o n (rippled [] us vs) ≡ max (through Carried (n + 1) us) (through Carried (n + 1) vs)
rippled_through Alike n us vs one some e = rippled_alike n us vs some e
rippled_through Carried n us vs one some e = rippled_carried n us vs some e
rippled_through Joined n us vs one some e = rippled_single n us vs (one refl) e

-- comparisons: their one bit is the deepest of all, or that of a conjunction
alike_greatest : (n : ℕ) (ds : List ℕ) → 1 ≤ length ds → evenly n ds ≡ n + greatest ds
alike_greatest n [] some = absurd (omega arith)
alike_greatest n (d ∷ ds) some = alike_is n d ds

pub less_through : (o : Order) (n : ℕ) (us vs : List ℕ) → 1 ≤ length us → length vs ≡ length us
    → through o n (greatest (rippled [] us vs) ∷ []) ≡ max (through Carried (n + 1) us) (through Carried (n + 1) vs)
less_through o n us vs some e =
    let sized = rippled_length [] us vs e in
    single_through o n (greatest (rippled [] us vs)) ∙ (sym (alike_greatest n (rippled [] us vs) (omega arith)) ∙ rippled_alike n us vs some e)

max_turned : (a b : ℕ) → max a b ≡ max b a
max_turned a b = omega arith

pub greater_through : (o : Order) (n : ℕ) (us vs : List ℕ) → 1 ≤ length us → length vs ≡ length us
    → through o n (greatest (rippled [] vs us) ∷ []) ≡ max (through Carried (n + 1) us) (through Carried (n + 1) vs)
greater_through o n us vs some e = less_through o n vs us (omega arith) (sym e) ∙ max_turned (carried (n + 1) vs) (carried (n + 1) us)

all_joint : (n : ℕ) (ds : List ℕ) → 1 ≤ length ds → n + all_of ds ≡ joint n ds
all_joint n [] some = absurd (omega arith)
all_joint n (d ∷ ds) some = conjoined_is n d ds

pub equal_through : (o : Order) (n : ℕ) (us vs : List ℕ) → 1 ≤ length us → length vs ≡ length us
    → through o n (all_of (paired us vs) ∷ []) ≡ max (through Joined (n + 1) us) (through Joined (n + 1) vs)
equal_through o n us vs some e =
    let sized = paired_length us vs e in
    single_through o n (all_of (paired us vs)) ∙ (all_joint n (paired us vs) (omega arith) ∙ joint_paired n us vs e)

-- the lower bits and the upper ones
pub split_alike : (b r s : Behind) (us vs : List ℕ) → b.order ≡ Alike → reached_over b (us ++ vs) ≡ max (reached_over b us) (reached_over b vs)
split_alike b r s us vs is =
    ap (λ o. capped (through o b.gates (us ++ vs))) is ∙ (ap capped (alike_append b.gates us vs) ∙ (capped_max (evenly b.gates us) (evenly b.gates vs)
    ∙ (ap (λ o. max (capped (through o b.gates us)) (capped (evenly b.gates vs))) (sym is)
    ∙ ap (λ o. max (reached_over b us) (capped (through o b.gates vs))) (sym is))))

pub split_carried : (b r : Behind) (n : ℕ) (us vs : List ℕ) → b.order ≡ Carried → length vs ≡ n → r.order ≡ Carried → r.gates ≡ capped (b.gates + n)
    → reached_over b (us ++ vs) ≡ max (reached_over r us) (reached_over b vs)
split_carried b r n us vs is long p q =
    ap (λ o. capped (through o b.gates (us ++ vs))) is ∙ (ap capped (carried_append b.gates us vs)
    ∙ (capped_max (carried (b.gates + length vs) us) (carried b.gates vs)
    ∙ (ap (λ k. max (capped (carried (b.gates + k) us)) (capped (carried b.gates vs))) long
    ∙ (ap (λ k. max k (capped (carried b.gates vs))) (sym (more_is r Carried (b.gates + n) us p q))
    ∙ ap (λ o. max (reached_over r us) (capped (through o b.gates vs))) (sym is)))))

joint_some : (n : ℕ) (us vs : List ℕ) → 1 ≤ length us → joint n (us ++ vs) ≡ max (joint (n + length vs) us) (carried (n + 1) vs)
joint_some n [] vs some = absurd (omega arith)
joint_some n (u ∷ us) vs some = joint_append n u us vs

pub split_joined : (b r s : Behind) (n : ℕ) (us vs : List ℕ) → b.order ≡ Joined → 1 ≤ length us → length vs ≡ n → r.order ≡ Joined
    → r.gates ≡ capped (b.gates + n) → s.order ≡ Carried → s.gates ≡ capped (b.gates + 1)
    → reached_over b (us ++ vs) ≡ max (reached_over r us) (reached_over s vs)
split_joined b r s n us vs is some long p q x y =
    ap (λ o. capped (through o b.gates (us ++ vs))) is ∙ (ap capped (joint_some b.gates us vs some)
    ∙ (capped_max (joint (b.gates + length vs) us) (carried (b.gates + 1) vs)
    ∙ (ap (λ k. max (capped (joint (b.gates + k) us)) (capped (carried (b.gates + 1) vs))) long
    ∙ (ap (λ k. max k (capped (carried (b.gates + 1) vs))) (sym (more_is r Joined (b.gates + n) us p q))
    ∙ ap (max (reached_over r us)) (sym (more_is s Carried (b.gates + 1) vs x y))))))

-- bits that follow the request
pub flat_through : (o : Order) (n k : ℕ) → 1 ≤ k → (least : ℕ) → (o ≡ Alike → least ≡ 1) → ((o ≡ Alike → ⊥) → least ≡ k) → through o n (ones k) ≡ n + least
flat_through o n zero some least p q = absurd (omega arith)
flat_through Alike n (suc k) some least p q = let l = p refl in alike_flat n k ∙ omega arith
flat_through Carried n (suc k) some least p q = let l = q (λ e. absurd (cc e)) in carried_flat n k ∙ omega arith
flat_through Joined n (suc k) some least p q = let l = q (λ e. absurd (cc e)) in joint_flat n k ∙ omega arith

-- by the operator
pub bitwise_sides : (b r : Behind) (op : Op) (us vs : List ℕ) → (op ≡ And) ⊎ ((op ≡ Or) ⊎ (op ≡ Xor)) → length vs ≡ length us → r.order ≡ b.order
    → r.gates ≡ capped (b.gates + 1) → reached_over b (op_bits op us vs) ≡ max (reached_over r us) (reached_over r vs)
bitwise_sides b r op us vs is e p q =
    ap (λ l. reached_over b l) (which is)
    ∙ both r b.order (b.gates + 1) (through b.order b.gates (paired us vs)) us vs p q (paired_through b.order b.gates us vs e)
  where
    which : (op ≡ And) ⊎ ((op ≡ Or) ⊎ (op ≡ Xor)) → op_bits op us vs ≡ paired us vs
    which (inl i) = ap (λ o. op_bits o us vs) i
    which (inr (inl i)) = ap (λ o. op_bits o us vs) i
    which (inr (inr i)) = ap (λ o. op_bits o us vs) i

pub equal_sides : (b r : Behind) (op : Op) (us vs : List ℕ) → (op ≡ Eq) ⊎ (op ≡ Ne) → 1 ≤ length us → length vs ≡ length us → r.order ≡ Joined
    → r.gates ≡ capped (b.gates + 1) → reached_over b (op_bits op us vs) ≡ max (reached_over r us) (reached_over r vs)
equal_sides b r op us vs is some e p q =
    ap (λ l. reached_over b l) (which is)
    ∙ both r Joined (b.gates + 1) (through b.order b.gates (all_of (paired us vs) ∷ [])) us vs p q (equal_through b.order b.gates us vs some e)
  where
    which : (op ≡ Eq) ⊎ (op ≡ Ne) → op_bits op us vs ≡ all_of (paired us vs) ∷ []
    which (inl i) = ap (λ o. op_bits o us vs) i
    which (inr i) = ap (λ o. op_bits o us vs) i

pub less_sides : (b r : Behind) (op : Op) (us vs : List ℕ) → (op ≡ Lt) ⊎ ((op ≡ Le) ⊎ ((op ≡ Gt) ⊎ (op ≡ Ge))) → 1 ≤ length us → length vs ≡ length us
    → r.order ≡ Carried → r.gates ≡ capped (b.gates + 1) → reached_over b (op_bits op us vs) ≡ max (reached_over r us) (reached_over r vs)
less_sides b r op us vs is some e p q = which is
  where
    less : op_bits op us vs ≡ greatest (rippled [] us vs) ∷ [] → reached_over b (op_bits op us vs) ≡ max (reached_over r us) (reached_over r vs)
    less i = ap (λ l. reached_over b l) i
        ∙ both r Carried (b.gates + 1) (through b.order b.gates (greatest (rippled [] us vs) ∷ [])) us vs p q (less_through b.order b.gates us vs some e)

    greater : op_bits op us vs ≡ greatest (rippled [] vs us) ∷ [] → reached_over b (op_bits op us vs) ≡ max (reached_over r us) (reached_over r vs)
    greater i = ap (λ l. reached_over b l) i
        ∙ both r Carried (b.gates + 1) (through b.order b.gates (greatest (rippled [] vs us) ∷ [])) us vs p q (greater_through b.order b.gates us vs some e)

    which : (op ≡ Lt) ⊎ ((op ≡ Le) ⊎ ((op ≡ Gt) ⊎ (op ≡ Ge))) → reached_over b (op_bits op us vs) ≡ max (reached_over r us) (reached_over r vs)
    which (inl i) = less (ap (λ o. op_bits o us vs) i)
    which (inr (inl i)) = greater (ap (λ o. op_bits o us vs) i)
    which (inr (inr (inl i))) = greater (ap (λ o. op_bits o us vs) i)
    which (inr (inr (inr i))) = less (ap (λ o. op_bits o us vs) i)

pub sum_sides : (b r : Behind) (us vs : List ℕ) → (b.order ≡ Joined → length us ≡ 1) → 1 ≤ length us → length vs ≡ length us → r.order ≡ Carried
    → r.gates ≡ capped (b.gates + 1) → reached_over b (rippled [] us vs) ≡ max (reached_over r us) (reached_over r vs)
sum_sides b r us vs one some e p q =
    both r Carried (b.gates + 1) (through b.order b.gates (rippled [] us vs)) us vs p q (rippled_through b.order b.gates us vs one some e)

pub joint_sides : (b r : Behind) (us vs : List ℕ) → b.order ≡ Joined → 2 ≤ length us → length vs ≡ length us → r.order ≡ Carried
    → r.gates ≡ capped (b.gates + 2) → reached_over b (rippled [] us vs) ≡ max (reached_over r us) (reached_over r vs)
joint_sides b r us vs is two e p q =
    both r Carried (b.gates + 2) (through b.order b.gates (rippled [] us vs)) us vs p q
    (ap (λ o. through o b.gates (rippled [] us vs)) is ∙ rippled_joint b.gates us vs two e)

pub not_joined : (o : Order) → (o ≡ Alike) ⊎ (o ≡ Carried) → o ≡ Joined → ⊥
not_joined o (inl i) j = absurd (cc (i, j))
not_joined o (inr i) j = absurd (cc (i, j))

pub sum_alike : (b r : Behind) (us vs : List ℕ) → (b.order ≡ Alike) ⊎ (b.order ≡ Carried) → 1 ≤ length us → length vs ≡ length us → r.order ≡ Carried
    → r.gates ≡ capped (b.gates + 1) → reached_over b (rippled [] us vs) ≡ max (reached_over r us) (reached_over r vs)
sum_alike b r us vs is some e p q = sum_sides b r us vs (λ j. absurd (not_joined b.order is j)) some e p q

pub flat_alike : (b : Behind) (k least : ℕ) → 1 ≤ k → b.order ≡ Alike → least ≡ 1 → through b.order b.gates (ones k) ≡ b.gates + least
flat_alike b k least some is l = flat_through b.order b.gates k some least (λ _. l) (λ n. absurd (n is))

pub flat_other : (b : Behind) (k least : ℕ) → 1 ≤ k → (b.order ≡ Carried) ⊎ (b.order ≡ Joined) → least ≡ k → through b.order b.gates (ones k) ≡ b.gates + least
flat_other b k least some is l = flat_through b.order b.gates k some least (λ a. absurd (other is a)) (λ _. l)
  where
    other : (b.order ≡ Carried) ⊎ (b.order ≡ Joined) → b.order ≡ Alike → ⊥
    other (inl i) j = absurd (cc (i, j))
    other (inr i) j = absurd (cc (i, j))
