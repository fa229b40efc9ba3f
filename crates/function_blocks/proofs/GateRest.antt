-- A list of gates at rest, what it reads, and what valid rails mean.
use Rattle.std.proofs.Common.{◌≡◌, ℕ, zero, suc, ◌+◌, ◌<◌, Bool, true, false, List, [], ◌∷◌, ◌++◌, refl, ap, ◌∙◌, arith}
use Rattle.std.specs.Prelude.{not, ◌&&◌, ◌||◌, nat_lt}
use Rattle.std.specs.List.{list_all, list_any}
use Rattle.std.proofs.Math.Nat.{eq-or-lt_of_le}
use Rattle.std.proofs.Math.Logic.{⊎_elim}
use Rattle.prs_core.specs.Deciding.{implies, implies_at, left_of, right_of, both_of, at_1, at_5, at_6}
use Rattle.function_blocks.specs.Rails.{RailLevels, levels_of, side_of, single, some, levels_neutral, Pairs, pair_in, rule_of, turns, one_rule_fires, same_bit, Rails, Single}
use Rattle.function_blocks.specs.Parts.{Input, BlockPart, fixed, read_bit, made}
use Rattle.function_blocks.specs.Waves.{inputs_taken, holds, up_holds, down_holds, part_rule, rule_among, wet, legal, levels_fit, all_fit, cold}
use Rattle.function_blocks.proofs.Tables.{not_false, same_is, or_true}
use Rattle.function_blocks.proofs.Guards.{arrived, arrived_cross, bits_in, holds_some, holds_one, holds_value, facts}
use Rattle.function_blocks.proofs.GateLists.{singles, all_arrived, ordered_one, ordered, from_next, from_here, from_zero, is_lt}

-- of each bit of a variable that is read
abbrev pub Only : (ℕ → ℕ → Type 0) → List BlockPart → Type 0
Only P [] = Unit {0}
Only P (fixed v ∷ gs) = Only P gs
Only P (read_bit x i ∷ gs) = P x i × Only P gs
Only P (made f i more ∷ gs) = Only P gs

pub only_more : (P Q : ℕ → ℕ → Type 0) → ((x i : ℕ) → P x i → Q x i) → (gs : List BlockPart) → Only P gs → Only Q gs
only_more P Q f [] h = tt
only_more P Q f (fixed v ∷ gs) h = only_more P Q f gs h
only_more P Q f (read_bit x i ∷ gs) h = (f x i h.0, only_more P Q f gs h.1)
only_more P Q f (made g i more ∷ gs) h = only_more P Q f gs h

pub only_all : (P : ℕ → ℕ → Type 0) → ((x i : ℕ) → P x i) → (gs : List BlockPart) → Only P gs
only_all P f [] = tt
only_all P f (fixed v ∷ gs) = only_all P f gs
only_all P f (read_bit x i ∷ gs) = (f x i, only_all P f gs)
only_all P f (made g i more ∷ gs) = only_all P f gs

pub only_append : (P : ℕ → ℕ → Type 0) (gs hs : List BlockPart) → Only P gs → Only P hs → Only P (gs ++ hs)
only_append P [] hs h k = k
only_append P (fixed v ∷ gs) hs h k = only_append P gs hs h k
only_append P (read_bit x i ∷ gs) hs h k = (h.0, only_append P gs hs h.1 k)
only_append P (made g i more ∷ gs) hs h k = only_append P gs hs h k

-- other rails of the variables, alike where the request lets them be seen
abbrev pub Alike : Bool → (bits now : ℕ → Rails) → ℕ → ℕ → Type 0
Alike r bits now x i = (one : Bool) → (r && bits x i one) ≡ (r && now x i one)

legal_same : (r ut vt uf vf n : Bool) (p : RailLevels) → ut ≡ vt → uf ≡ vf → legal r ut uf n p ≡ legal r vt vf n p
legal_same r ut vt uf vf n p h k = ap (λ z. legal r z uf n p) h ∙ ap (λ z. legal r vt z n p) k

pub fit_same : (r : Bool) (look : ℕ → RailLevels) (bits now : ℕ → Rails) (gs : List BlockPart) (n : ℕ) (u : Pairs n) → Only (Alike r bits now) gs
    → all_fit r look bits gs n u ≡ all_fit r look now gs n u
fit_same r look bits now [] zero u h = refl
fit_same r look bits now [] (suc n) u h = refl
fit_same r look bits now (g ∷ gs) zero u h = refl
fit_same r look bits now (fixed v ∷ gs) (suc n) u h = ap (λ z. levels_fit r look bits (fixed v) u.0 && z) (fit_same r look bits now gs n u.1 h)
fit_same r look bits now (read_bit x i ∷ gs) (suc n) u h = ap (λ z. z && all_fit r look bits gs n u.1)
    (legal_same r (r && bits x i true) (r && now x i true) (r && bits x i false) (r && now x i false) false u.0 (h.0 true) (h.0 false))
    ∙ ap (λ z. levels_fit r look now (read_bit x i) u.0 && z) (fit_same r look bits now gs n u.1 h.1)
fit_same r look bits now (made f i more ∷ gs) (suc n) u h = ap (λ z. levels_fit r look bits (made f i more) u.0 && z) (fit_same r look bits now gs n u.1 h)

pub rule_same : (r : Bool) (look : ℕ → RailLevels) (bits now : ℕ → Rails) (gs : List BlockPart) (n : ℕ) (u : Pairs n) → Only (Alike r bits now) gs →
    (k : ℕ) (one : Bool)
    → rule_among r look bits gs n u k one ≡ rule_among r look now gs n u k one
rule_same r look bits now [] n u h k one = refl
rule_same r look bits now (g ∷ gs) zero u h k one = refl
rule_same r look bits now (fixed v ∷ gs) (suc n) u h zero one = refl
rule_same r look bits now (read_bit x i ∷ gs) (suc n) u h zero one = ap (λ z. rule_of (side_of u.0 one) z (not r)) (h.0 one)
rule_same r look bits now (made f i more ∷ gs) (suc n) u h zero one = refl
rule_same r look bits now (fixed v ∷ gs) (suc n) u h (suc k) one = rule_same r look bits now gs n u.1 h k one
rule_same r look bits now (read_bit x i ∷ gs) (suc n) u h (suc k) one = rule_same r look bits now gs n u.1 h.1 k one
rule_same r look bits now (made f i more ∷ gs) (suc n) u h (suc k) one = rule_same r look bits now gs n u.1 h k one

-- at rest
pub earlier : (r : Bool) (look : ℕ → RailLevels) (from : ℕ) → ((k : ℕ) → k < from → arrived r (look k) ≡ true) → (ins : List Input)
    → list_all (λ (j : Input). nat_lt j.at from) ins ≡ true → list_all (arrived r) (inputs_taken look ins) ≡ true
earlier r look from h [] o = refl
earlier r look from h (i ∷ ins) o =
    both_of _ _ (arrived_cross r i.crossed (look i.at) (h i.at (is_lt _ _ (left_of _ _ o)))) (earlier r look from h ins (right_of (nat_lt i.at from) _ o))

rests_up : (ut uf dt df t f : Bool) → (ut || uf) ≡ true → turns t ut dt ≡ false → turns f uf df ≡ false → (t || f) ≡ true
rests_up ut uf dt df t f h k l = implies_at _ _ (at_6 (λ ut uf dt df t f. implies ((ut || uf) && (not (turns t ut dt) && not (turns f uf df))) (t || f)) refl ut
    uf dt df t f) (both_of _ _ h (both_of _ _ (not_false _ k) (not_false _ l)))

rests_down : (ut uf dt df t f : Bool) → (dt && df) ≡ true → turns t ut dt ≡ false → turns f uf df ≡ false → (not t && not f) ≡ true
rests_down ut uf dt df t f h k l = implies_at _ _ (at_6 (λ ut uf dt df t f.
    implies ((dt && df) && (not (turns t ut dt) && not (turns f uf df))) (not t && not f)) refl ut uf dt df t f)
    (both_of _ _ h (both_of _ _ (not_false _ k) (not_false _ l)))

neutral_all : (ps : List RailLevels) → list_all (arrived false) ps ≡ true → list_all levels_neutral ps ≡ true
neutral_all [] h = refl
neutral_all (p ∷ ps) h = both_of _ _ (left_of _ _ h) (neutral_all ps (right_of (levels_neutral p) _ h))

some_all : (ps : List RailLevels) → list_all (arrived true) ps ≡ true → list_all some ps ≡ true
some_all [] h = refl
some_all (p ∷ ps) h = both_of _ _ (left_of _ _ h) (some_all ps (right_of (some p) _ h))

-- the request that is high wants the bits that are read, the one that is low the rails without rules
abbrev pub Prepared : Bool → (ℕ → Rails) → List BlockPart → (n : ℕ) → Pairs n → Type 0
Prepared true bits gs n u = Only (λ x i. (bits x i true || bits x i false) ≡ true) gs
Prepared false bits gs n u = cold gs n u ≡ true

high_rests : (t : Bool) → turns t false true ≡ false → t ≡ false
high_rests true k = absurd (cc k)
high_rests false k = refl

rests_one : (r : Bool) (look : ℕ → RailLevels) (bits : ℕ → Rails) (g : BlockPart) (gs : List BlockPart) (n : ℕ) (u : Pairs (suc n)) (from : ℕ)
    → ((k : ℕ) → k < from → arrived r (look k) ≡ true) → ordered_one from g ≡ true → Prepared r bits (g ∷ gs) (suc n) u
    → ((b : Bool) → one_rule_fires (part_rule r look bits g u.0 b) ≡ false) → arrived r u.0 ≡ true
rests_one true look bits (fixed v) gs n u from h o c m = rests_up _ _ (down_holds true look (fixed v) true) (down_holds true look (fixed v) false) u.0.t u.0.f
    (at_1 (λ v. (same_bit v true && true) || (same_bit v false && true)) refl v) (m true) (m false)
rests_one true look bits (read_bit x i) gs n u from h o c m =
    rests_up _ _ (down_holds true look (read_bit x i) true) (down_holds true look (read_bit x i) false) u.0.t u.0.f c.0 (m true) (m false)
rests_one true look bits (made f i ins) gs n u from h o c m = rests_up _ _ (down_holds true look (made f i ins) true)
    (down_holds true look (made f i ins) false) u.0.t u.0.f (holds_one f (inputs_taken look (i ∷ ins))
    (some_all (inputs_taken look (i ∷ ins)) (earlier true look from h (i ∷ ins) o))) (m true) (m false)
rests_one false look bits (fixed true) gs n u from h o c m = both_of _ _ (not_false _ (high_rests u.0.t (m true))) (left_of _ _ c)
rests_one false look bits (fixed false) gs n u from h o c m = both_of _ _ (left_of _ _ c) (not_false _ (high_rests u.0.f (m false)))
rests_one false look bits (read_bit x i) gs n u from h o c m =
    rests_down (up_holds false look bits (read_bit x i) true) (up_holds false look bits (read_bit x i) false) true true u.0.t u.0.f refl (m true) (m false)
rests_one false look bits (made f i ins) gs n u from h o c m =
    let z = neutral_all (inputs_taken look (i ∷ ins)) (earlier false look from h (i ∷ ins) o) in
    rests_down (up_holds false look bits (made f i ins) true) (up_holds false look bits (made f i ins) false) _ _ u.0.t u.0.f (both_of _ _ z z) (m true)
    (m false)

prepared_next : (r : Bool) (bits : ℕ → Rails) (g : BlockPart) (gs : List BlockPart) (n : ℕ) (u : Pairs (suc n)) → Prepared r bits (g ∷ gs) (suc n) u
    → Prepared r bits gs n u.1
prepared_next true bits (fixed v) gs n u h = h
prepared_next true bits (read_bit x i) gs n u h = h.1
prepared_next true bits (made f i ins) gs n u h = h
prepared_next false bits (fixed v) gs n u h = right_of (not (side_of u.0 (not v))) _ h
prepared_next false bits (read_bit x i) gs n u h = h
prepared_next false bits (made f i ins) gs n u h = h

fore : (r : Bool) (look : ℕ → RailLevels) (bits : ℕ → Rails) (gs : List BlockPart) (n : ℕ) (u : Pairs n) (from : ℕ) →
    ((j : ℕ) → look (from + j) ≡ pair_in n u j)
    → ((k : ℕ) → k < from → arrived r (look k) ≡ true) → all_fit r look bits gs n u ≡ true → ordered from gs ≡ true → Prepared r bits gs n u
    → ((k : ℕ) (b : Bool) → one_rule_fires (rule_among r look bits gs n u k b) ≡ false) → all_arrived r n u ≡ true
fore r look bits [] zero u from see h k o c m = refl
fore r look bits [] (suc n) u from see h k o c m = absurd (cc k)
fore r look bits (g ∷ gs) zero u from see h k o c m = absurd (cc k)
fore r look bits (g ∷ gs) (suc n) u from see h k o c m =
    let a = rests_one r look bits g gs n u from h (left_of _ _ o) c (λ b. m zero b) in
    both_of _ _ a (fore r look bits gs n u.1 (suc from) (from_next look from n u see) (λ j lt. ⊎_elim
    (λ (q : j ≡ from). ap (λ i. arrived r (look i)) q ∙ (ap (arrived r) (from_here look from n u see) ∙ a))
    (λ (q : j < from). h j q)
    (eq-or-lt_of_le (omega arith))) (right_of (levels_fit r look bits g u.0) _ k) (right_of (ordered_one from g) _ o) (prepared_next r bits g gs n u c)
    (λ i b. m (suc i) b))

pub rest_all : (r : Bool) (bits : ℕ → Rails) (gs : List BlockPart) (n : ℕ) (u : Pairs n) → all_fit r (pair_in n u) bits gs n u ≡ true → ordered zero gs ≡ true
    → Prepared r bits gs n u → ((k : ℕ) (b : Bool) → one_rule_fires (rule_among r (pair_in n u) bits gs n u k b) ≡ false) → all_arrived r n u ≡ true
rest_all r bits gs n u h o c m = fore r (pair_in n u) bits gs n u zero (from_zero n u) (λ k lt. absurd (omega arith)) h o c m

-- what valid rails mean
abbrev pub means : (ℕ → Bool) → (ℕ → Rails) → BlockPart → Bool
means v bits (fixed b) = b
means v bits (read_bit x i) = bits x i true
means v bits (made f i ins) = f (bits_in v (i ∷ ins))

abbrev pub Agrees : (ℕ → Bool) → (ℕ → Rails) → ℕ → List BlockPart → Type 0
Agrees v bits from [] = Unit {0}
Agrees v bits from (g ∷ gs) = (v from ≡ means v bits g) × Agrees v bits (suc from) gs

t_is : (ut uf n t f : Bool) → not (ut && uf) ≡ true → legal true ut uf n (levels_of t f) ≡ true → (t || f) ≡ true → t ≡ ut
t_is ut uf n t f h k l = same_is t ut (implies_at _ _ (at_5 (λ ut uf n t f.
    implies (not (ut && uf) && (legal true ut uf n (levels_of t f) && (t || f))) (same_bit t ut)) refl ut uf n t f) (both_of _ _ h (both_of _ _ k l)))

same_true : (v : Bool) → (same_bit v true && true) ≡ v
same_true true = refl
same_true false = refl

pub means_one : (look : ℕ → RailLevels) (bits : ℕ → Rails) (g : BlockPart) (p : RailLevels) → ((k : ℕ) → single (look k) ≡ true) → Single bits →
    levels_fit true look bits g p ≡ true
    → some p ≡ true → p.t ≡ means (λ k. (look k).t) bits g
means_one look bits (fixed v) p s x h a = t_is _ _ false p.t p.f (left_of _ _ (facts true look bits (fixed v) true s x)) h a ∙ same_true v
means_one look bits (read_bit y k) p s x h a = t_is _ _ false p.t p.f (x y k) h a
means_one look bits (made f i ins) p s x h a =
    t_is _ _ (wet look (made f i ins)) p.t p.f (left_of _ _ (facts true look bits (made f i ins) true s x)) h a
    ∙ holds_value f look s (i ∷ ins) (⊎_elim
    (λ (q : holds f (inputs_taken look (i ∷ ins)) ≡ true). holds_some f (inputs_taken look (i ∷ ins)) q)
    (λ (q : holds (λ bs. not (f bs)) (inputs_taken look (i ∷ ins)) ≡ true). holds_some (λ bs. not (f bs)) (inputs_taken look (i ∷ ins)) q)
    (or_true _ _ (implies_at _ _ (at_5 (λ ut uf n t f. implies (legal true ut uf n (levels_of t f) && (t || f)) (ut || uf)) refl
    (holds f (inputs_taken look (i ∷ ins)))
    (holds (λ bs. not (f bs)) (inputs_taken look (i ∷ ins))) (list_any some (inputs_taken look (i ∷ ins))) p.t p.f) (both_of _ _ h a))))

agrees_in : (look : ℕ → RailLevels) (bits : ℕ → Rails) → ((k : ℕ) → single (look k) ≡ true) → Single bits →
    (gs : List BlockPart) (n : ℕ) (u : Pairs n) (from : ℕ)
    → ((j : ℕ) → look (from + j) ≡ pair_in n u j) → all_fit true look bits gs n u ≡ true → all_arrived true n u ≡ true → Agrees (λ k. (look k).t) bits from gs
agrees_in look bits s x [] zero u from see h a = tt
agrees_in look bits s x [] (suc n) u from see h a = absurd (cc h)
agrees_in look bits s x (g ∷ gs) zero u from see h a = absurd (cc h)
agrees_in look bits s x (g ∷ gs) (suc n) u from see h a = (
  ap (λ (p : RailLevels). p.t) (from_here look from n u see) ∙ means_one look bits g u.0 s x (left_of _ _ h) (left_of _ _ a),
  agrees_in look bits s x gs n u.1 (suc from) (from_next look from n u see) (right_of (levels_fit true look bits g u.0) _ h) (right_of (some u.0) _ a),
)

pub agrees_all : (bits : ℕ → Rails) (gs : List BlockPart) (n : ℕ) (u : Pairs n) → Single bits → all_fit true (pair_in n u) bits gs n u ≡ true
    → all_arrived true n u ≡ true → Agrees (λ k. (pair_in n u k).t) bits zero gs
agrees_all bits gs n u x h a = agrees_in (pair_in n u) bits (singles true (pair_in n u) bits gs n u h) x gs n u zero (from_zero n u) h a
