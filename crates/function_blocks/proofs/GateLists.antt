-- A list of gates: moves, and the two waves.
use Rattle.std.proofs.Common.{◌≡◌, ℕ, zero, suc, ◌+◌, ◌<◌, ◌==◌, Bool, true, false, List, [], ◌∷◌, length, refl, ap, ◌∙◌, sym, arith}
use Rattle.std.specs.Prelude.{not, ◌&&◌, ◌||◌, nat_lt, if◌then◌else◌}
use Rattle.std.specs.List.{list_all, list_any}
use Rattle.std.proofs.lemmas.Bool.Decides.{nat_tests}
use Rattle.std.proofs.Math.Logic.{⊎_elim}
use Rattle.prs_core.specs.Deciding.{implies, implies_at, left_of, right_of, both_of, at_3, at_4, at_5}
use Rattle.function_blocks.specs.Rails.{RailLevels, levels_of, side_of, turned_side, cross, single, some, levels_neutral, Pairs, low_pairs, pair_in, turned_pairs, turns, one_rule_fires, is_apart, Rails, Single}
use Rattle.function_blocks.specs.Parts.{Input, BlockPart, fixed, read_bit, made}
use Rattle.function_blocks.specs.Waves.{inputs_taken, holds, rows_of, up_holds, part_rule, rule_among, wet, legal, levels_fit, all_fit, cold}
use Rattle.function_blocks.proofs.Tables.{not_true, not_false, or_true}
use Rattle.function_blocks.proofs.Guards.{arrived, grows, arrived_cross, arrived_back, grows_self, holds_some, own_one, law_one, wire_one, firm_one, apart_one, wet_none, ask_one, ease_one, answered_one}

-- every pair is single
pub singles : (r : Bool) (look : ℕ → RailLevels) (bits : ℕ → Rails) (gs : List BlockPart) (n : ℕ) (u : Pairs n) → all_fit r look bits gs n u ≡ true → (k : ℕ)
    → single (pair_in n u k) ≡ true
singles r look bits [] zero u h k = refl
singles r look bits [] (suc n) u h k = absurd (cc h)
singles r look bits (g ∷ gs) zero u h k = absurd (cc h)
singles r look bits (g ∷ gs) (suc n) u h zero = left_of _ _ (left_of _ _ h)
singles r look bits (g ∷ gs) (suc n) u h (suc k) = singles r look bits gs n u.1 (right_of (levels_fit r look bits g u.0) _ h) k

-- only a gate that there is moves
pub there_in : (r : Bool) (look : ℕ → RailLevels) (bits : ℕ → Rails) (gs : List BlockPart) (n : ℕ) (u : Pairs n) (k : ℕ) (b : Bool)
    → one_rule_fires (rule_among r look bits gs n u k b) ≡ true → k < n
there_in r look bits [] n u k b m = absurd (cc m)
there_in r look bits (g ∷ gs) zero u k b m = absurd (cc m)
there_in r look bits (g ∷ gs) (suc n) u zero b m = omega arith
there_in r look bits (g ∷ gs) (suc n) u (suc k) b m = let e : k < n = there_in r look bits gs n u.1 k b m in omega (arith, e)

module _ (r : Bool) (look : ℕ → RailLevels) (bits : ℕ → Rails) (s : (k : ℕ) → single (look k) ≡ true) (x : Single bits) where
  -- a move at one place, the inputs as before
  own_in : (gs : List BlockPart) (n : ℕ) (u : Pairs n) (k : ℕ) (b : Bool) → all_fit r look bits gs n u ≡ true →
      one_rule_fires (rule_among r look bits gs n u k b) ≡ true
      → all_fit r look bits gs n (turned_pairs n u k b) ≡ true
  own_in [] n u k b h m = absurd (cc m)
  own_in (g ∷ gs) zero u k b h m = absurd (cc m)
  own_in (g ∷ gs) (suc n) u zero b h m = both_of _ _ (left_of _ _ (own_one r look bits g b u.0 s x (left_of _ _ h) m))
      (right_of (levels_fit r look bits g u.0) _ h)
  own_in (g ∷ gs) (suc n) u (suc k) b h m = both_of _ _ (left_of _ _ h) (own_in gs n u.1 k b (right_of (levels_fit r look bits g u.0) _ h) m)

  pub grows_in : (gs : List BlockPart) (n : ℕ) (u : Pairs n) (k : ℕ) (b : Bool) → all_fit r look bits gs n u ≡ true
      → one_rule_fires (rule_among r look bits gs n u k b) ≡ true → (j : ℕ) → grows r (pair_in n u j) (pair_in n (turned_pairs n u k b) j) ≡ true
  grows_in [] n u k b h m j = absurd (cc m)
  grows_in (g ∷ gs) zero u k b h m j = absurd (cc m)
  grows_in (g ∷ gs) (suc n) u zero b h m zero = right_of (levels_fit r look bits g (turned_side u.0 b)) _ (own_one r look bits g b u.0 s x (left_of _ _ h) m)
  grows_in (g ∷ gs) (suc n) u zero b h m (suc j) = grows_self r (pair_in n u.1 j)
  grows_in (g ∷ gs) (suc n) u (suc k) b h m zero = grows_self r u.0
  grows_in (g ∷ gs) (suc n) u (suc k) b h m (suc j) = grows_in gs n u.1 k b (right_of (levels_fit r look bits g u.0) _ h) m j

  law_in : (gs : List BlockPart) (n : ℕ) (u : Pairs n) (k : ℕ) (b : Bool) → all_fit r look bits gs n u ≡ true →
      one_rule_fires (rule_among r look bits gs n u k b) ≡ true
      → (if side_of (pair_in n u k) b then not r else (r && not (side_of (pair_in n u k) (not b)))) ≡ true
  law_in [] n u k b h m = absurd (cc m)
  law_in (g ∷ gs) zero u k b h m = absurd (cc m)
  law_in (g ∷ gs) (suc n) u zero b h m = law_one r look bits g b u.0 s x (left_of _ _ h) m
  law_in (g ∷ gs) (suc n) u (suc k) b h m = law_in gs n u.1 k b (right_of (levels_fit r look bits g u.0) _ h) m

  apart_in : (gs : List BlockPart) (n : ℕ) (u : Pairs n) (k : ℕ) (b : Bool) → is_apart (rule_among r look bits gs n u k b) ≡ true
  apart_in [] n u k b = refl
  apart_in (g ∷ gs) zero u k b = refl
  apart_in (g ∷ gs) (suc n) u zero b = apart_one r look bits g b u.0 s x
  apart_in (g ∷ gs) (suc n) u (suc k) b = apart_in gs n u.1 k b

-- another gate's move leaves a rail enabled, the inputs as before
pair_in_firm : (r : Bool) (look : ℕ → RailLevels) (bits : ℕ → Rails) (gs : List BlockPart) (n : ℕ) (u : Pairs n) (j k : ℕ) (c b : Bool) → (j ≡ k → c ≡ b → ⊥)
    → one_rule_fires (rule_among r look bits gs n u j c) ≡ true → one_rule_fires (rule_among r look bits gs n (turned_pairs n u k b) j c) ≡ true
pair_in_firm r look bits [] n u j k c b ne h = absurd (cc h)
pair_in_firm r look bits (g ∷ gs) zero u j k c b ne h = absurd (cc h)
pair_in_firm r look bits (g ∷ gs) (suc n) u zero zero true true ne h = absurd (ne refl refl)
pair_in_firm r look bits (g ∷ gs) (suc n) u zero zero false false ne h = absurd (ne refl refl)
pair_in_firm r look bits (g ∷ gs) (suc n) u zero zero true false ne h = h
pair_in_firm r look bits (g ∷ gs) (suc n) u zero zero false true ne h = h
pair_in_firm r look bits (g ∷ gs) (suc n) u zero (suc k) c b ne h = h
pair_in_firm r look bits (g ∷ gs) (suc n) u (suc j) zero c b ne h = h
pair_in_firm r look bits (g ∷ gs) (suc n) u (suc j) (suc k) c b ne h = pair_in_firm r look bits gs n u.1 j k c b (λ (q : j ≡ k). ne (ap suc q)) h

-- the inputs move with the wave
module _ (r : Bool) (look see : ℕ → RailLevels) (bits : ℕ → Rails) (w : (k : ℕ) → grows r (look k) (see k) ≡ true) where
  wire_in : (gs : List BlockPart) (n : ℕ) (u : Pairs n) → all_fit r look bits gs n u ≡ true → all_fit r see bits gs n u ≡ true
  wire_in [] zero u h = refl
  wire_in [] (suc n) u h = h
  wire_in (g ∷ gs) zero u h = h
  wire_in (g ∷ gs) (suc n) u h = both_of _ _ (wire_one r look see bits g u.0 w (left_of _ _ h)) (wire_in gs n u.1 (right_of (levels_fit r look bits g u.0) _ h))

  firm_in : ((k : ℕ) → single (look k) ≡ true) → Single bits → (gs : List BlockPart) (n : ℕ) (u : Pairs n) (k : ℕ) (b : Bool) →
      all_fit r look bits gs n u ≡ true
      → one_rule_fires (rule_among r look bits gs n u k b) ≡ true → one_rule_fires (rule_among r see bits gs n u k b) ≡ true
  firm_in s x [] n u k b h m = absurd (cc m)
  firm_in s x (g ∷ gs) zero u k b h m = absurd (cc m)
  firm_in s x (g ∷ gs) (suc n) u zero b h m = firm_one r look see bits g b u.0 s x w (left_of _ _ h) m
  firm_in s x (g ∷ gs) (suc n) u (suc k) b h m = firm_in s x gs n u.1 k b (right_of (levels_fit r look bits g u.0) _ h) m

-- each gate's move keeps what holds
pub own_all : (r : Bool) (bits : ℕ → Rails) (gs : List BlockPart) (n : ℕ) (u : Pairs n) (k : ℕ) (b : Bool) → Single bits →
    all_fit r (pair_in n u) bits gs n u ≡ true
    → one_rule_fires (rule_among r (pair_in n u) bits gs n u k b) ≡ true → all_fit r (pair_in n (turned_pairs n u k b)) bits gs n (turned_pairs n u k b) ≡ true
own_all r bits gs n u k b x h m =
    let s = singles r (pair_in n u) bits gs n u h in
    wire_in r (pair_in n u) (pair_in n (turned_pairs n u k b)) bits (grows_in r (pair_in n u) bits s x gs n u k b h m) gs n (turned_pairs n u k b)
    (own_in r (pair_in n u) bits s x gs n u k b h m)

pub grows_all : (r : Bool) (bits : ℕ → Rails) (gs : List BlockPart) (n : ℕ) (u : Pairs n) (k : ℕ) (b : Bool) → Single bits
    → all_fit r (pair_in n u) bits gs n u ≡ true → one_rule_fires (rule_among r (pair_in n u) bits gs n u k b) ≡ true → (j : ℕ)
    → grows r (pair_in n u j) (pair_in n (turned_pairs n u k b) j) ≡ true
grows_all r bits gs n u k b x h m = grows_in r (pair_in n u) bits (singles r (pair_in n u) bits gs n u h) x gs n u k b h m

pub law_all : (r : Bool) (bits : ℕ → Rails) (gs : List BlockPart) (n : ℕ) (u : Pairs n) (k : ℕ) (b : Bool) → Single bits →
    all_fit r (pair_in n u) bits gs n u ≡ true
    → one_rule_fires (rule_among r (pair_in n u) bits gs n u k b) ≡ true → (if side_of (pair_in n u k)
    b then not r else (r && not (side_of (pair_in n u k) (not b)))) ≡ true
law_all r bits gs n u k b x h m = law_in r (pair_in n u) bits (singles r (pair_in n u) bits gs n u h) x gs n u k b h m

pub apart_all : (r : Bool) (bits : ℕ → Rails) (gs : List BlockPart) (n : ℕ) (u : Pairs n) (k : ℕ) (b : Bool) → Single bits
    → all_fit r (pair_in n u) bits gs n u ≡ true → is_apart (rule_among r (pair_in n u) bits gs n u k b) ≡ true
apart_all r bits gs n u k b x h = apart_in r (pair_in n u) bits (singles r (pair_in n u) bits gs n u h) x gs n u k b

pub firm_all : (r : Bool) (bits : ℕ → Rails) (gs : List BlockPart) (n : ℕ) (u : Pairs n) (k : ℕ) (b : Bool) (j : ℕ) (c : Bool) → Single bits →
    (j ≡ k → c ≡ b → ⊥)
    → all_fit r (pair_in n u) bits gs n u ≡ true → one_rule_fires (rule_among r (pair_in n u) bits gs n u k b) ≡ true
    → one_rule_fires (rule_among r (pair_in n u) bits gs n u j c) ≡ true → one_rule_fires
    (rule_among r (pair_in n (turned_pairs n u k b)) bits gs n (turned_pairs n u k b) j c) ≡ true
firm_all r bits gs n u k b j c x ne h m l =
    let s = singles r (pair_in n u) bits gs n u h in
    firm_in r (pair_in n u) (pair_in n (turned_pairs n u k b)) bits (grows_in r (pair_in n u) bits s x gs n u k b h m) s x gs n (turned_pairs n u k b) j c
    (own_in r (pair_in n u) bits s x gs n u k b h m) (pair_in_firm r (pair_in n u) bits gs n u j k c b ne l)

-- the rail of a number's bit that has no rules stays low
wrong : (r f x : Bool) → not f ≡ true → turns f (false && r) (false && not r) ≡ true → x ≡ true
wrong r true x h m = absurd (cc h)
wrong r false x h m = absurd (cc m)

pub cold_stays : (r : Bool) (look : ℕ → RailLevels) (bits : ℕ → Rails) (gs : List BlockPart) (n : ℕ) (u : Pairs n) (k : ℕ) (b : Bool) → cold gs n u ≡ true
    → one_rule_fires (rule_among r look bits gs n u k b) ≡ true → cold gs n (turned_pairs n u k b) ≡ true
cold_stays r look bits [] n u k b h m = absurd (cc m)
cold_stays r look bits (g ∷ gs) zero u k b h m = absurd (cc m)
cold_stays r look bits (fixed true ∷ gs) (suc n) u zero true h m = h
cold_stays r look bits (fixed false ∷ gs) (suc n) u zero false h m = h
cold_stays r look bits (fixed true ∷ gs) (suc n) u zero false h m = wrong r u.0.f _ (left_of _ _ h) m
cold_stays r look bits (fixed false ∷ gs) (suc n) u zero true h m = wrong r u.0.t _ (left_of _ _ h) m
cold_stays r look bits (read_bit y i ∷ gs) (suc n) u zero b h m = h
cold_stays r look bits (made f i ins ∷ gs) (suc n) u zero b h m = h
cold_stays r look bits (fixed v ∷ gs) (suc n) u (suc k) b h m =
    both_of _ _ (left_of _ _ h) (cold_stays r look bits gs n u.1 k b (right_of (not (side_of u.0 (not v))) _ h) m)
cold_stays r look bits (read_bit y i ∷ gs) (suc n) u (suc k) b h m = cold_stays r look bits gs n u.1 k b h m
cold_stays r look bits (made f i ins ∷ gs) (suc n) u (suc k) b h m = cold_stays r look bits gs n u.1 k b h m

-- the pairs from a number on
pub from_next : (look : ℕ → RailLevels) (from n : ℕ) (u : Pairs (suc n)) → ((j : ℕ) → look (from + j) ≡ pair_in (suc n) u j) → (j : ℕ)
    → look (suc from + j) ≡ pair_in n u.1 j
from_next look from n u h j = let e : suc from + j ≡ from + suc j = omega arith in ap look e ∙ h (suc j)

pub from_here : (look : ℕ → RailLevels) (from n : ℕ) (u : Pairs (suc n)) → ((j : ℕ) → look (from + j) ≡ pair_in (suc n) u j) → look from ≡ u.0
from_here look from n u h = let e : from ≡ from + zero = omega arith in ap look e ∙ h zero

pub from_zero : (n : ℕ) (u : Pairs n) (j : ℕ) → pair_in n u (zero + j) ≡ pair_in n u j
from_zero n u j = let q : zero + j ≡ j = omega arith in ap (pair_in n u) q

pub is_eq : (a b : ℕ) → (a == b) ≡ true → a ≡ b
is_eq a b h = grind (arith, nat_tests)

pub is_lt : (a b : ℕ) → nat_lt a b ≡ true → a < b
is_lt a b h = grind (arith, nat_tests)

-- all of them have what the wave brings
abbrev pub all_arrived : Bool → (n : ℕ) → Pairs n → Bool
all_arrived r zero u = true
all_arrived r (suc n) u = arrived r u.0 && all_arrived r n u.1

-- each input is an earlier gate
abbrev pub ordered_one : ℕ → BlockPart → Bool
ordered_one from (made f i more) = list_all (λ (j : Input). nat_lt j.at from) (i ∷ more)
ordered_one from _ = true

abbrev pub ordered : ℕ → List BlockPart → Bool
ordered from [] = true
ordered from (g ∷ gs) = ordered_one from g && ordered (suc from) gs

-- each gate is an output, or an input of a later one
abbrev pub names : BlockPart → ℕ → Bool
names (made f i more) k = list_any (λ (j : Input). j.at == k) (i ∷ more)
names _ k = false

abbrev pub wanted : List BlockPart → ℕ → Bool
wanted [] k = false
wanted (g ∷ gs) k = names g k || wanted gs k

abbrev pub used : (ℕ → Bool) → ℕ → List BlockPart → Bool
used out from [] = true
used out from (g ∷ gs) = (out from || wanted gs from) && used out (suc from) gs

-- what has arrived at a gate has arrived at its inputs
pub named_in : (r : Bool) (look : ℕ → RailLevels) (k : ℕ) (ins : List Input) → list_any (λ (j : Input). j.at == k) ins ≡ true
    → list_all (arrived r) (inputs_taken look ins) ≡ true → arrived r (look k) ≡ true
named_in r look k [] h m = absurd (cc h)
named_in r look k (i ∷ ins) h m = ⊎_elim
    (λ (q : (i.at == k) ≡ true). let w = is_eq _ _ q in ap (λ j. arrived r (look j)) (sym w) ∙ arrived_back r i.crossed (look i.at) (left_of _ _ m))
    (λ (q : list_any (λ (j : Input). j.at == k) ins ≡ true). named_in r look k ins q (right_of (arrived r (cross i.crossed (look i.at))) _ m))
    (or_true _ _ h)

dry : (ps : List RailLevels) → not (list_any some ps) ≡ true → list_all (arrived false) ps ≡ true
dry [] h = refl
dry (p ∷ ps) h =
    let k = implies_at _ _ (at_3 (λ a b n. implies (not ((a || b) || n)) ((not a && not b) && not n)) refl p.t p.f (list_any some ps)) h in
    both_of _ _ (left_of _ _ k) (dry ps (right_of (levels_neutral p) _ k))

needs : (r : Bool) (look : ℕ → RailLevels) (bits : ℕ → Rails) (g : BlockPart) (p : RailLevels) (k : ℕ) → levels_fit r look bits g p ≡ true →
    arrived r p ≡ true → names g k ≡ true
    → arrived r (look k) ≡ true
needs r look bits (fixed v) p k h a n = absurd (cc n)
needs r look bits (read_bit y j) p k h a n = absurd (cc n)
needs true look bits (made f i ins) p k h a n = named_in true look k (i ∷ ins) n (⊎_elim
    (λ (q : holds f (inputs_taken look (i ∷ ins)) ≡ true). holds_some f (inputs_taken look (i ∷ ins)) q)
    (λ (q : holds (λ bs. not (f bs)) (inputs_taken look (i ∷ ins)) ≡ true). holds_some (λ bs. not (f bs)) (inputs_taken look (i ∷ ins)) q)
    (or_true _ _ (implies_at _ _ (at_5 (λ ut uf n t f. implies (legal true ut uf n (levels_of t f) && (t || f)) (ut || uf)) refl
    (holds f (inputs_taken look (i ∷ ins)))
    (holds (λ bs. not (f bs)) (inputs_taken look (i ∷ ins))) (list_any some (inputs_taken look (i ∷ ins))) p.t p.f) (both_of _ _ h a))))
needs false look bits (made f i ins) p k h a n = named_in false look k (i ∷ ins) n (dry (inputs_taken look (i ∷ ins))
    (implies_at _ _ (at_5 (λ ut uf n t f. implies (legal false ut uf n (levels_of t f) && (not t && not f)) (not n)) refl
    (holds f (inputs_taken look (i ∷ ins)))
    (holds (λ bs. not (f bs)) (inputs_taken look (i ∷ ins))) (list_any some (inputs_taken look (i ∷ ins))) p.t p.f) (both_of _ _ h a)))

wanted_in : (r : Bool) (look : ℕ → RailLevels) (bits : ℕ → Rails) (gs : List BlockPart) (n : ℕ) (u : Pairs n) (k : ℕ) → all_fit r look bits gs n u ≡ true
    → all_arrived r n u ≡ true → wanted gs k ≡ true → arrived r (look k) ≡ true
wanted_in r look bits [] n u k h a w = absurd (cc w)
wanted_in r look bits (g ∷ gs) zero u k h a w = absurd (cc h)
wanted_in r look bits (g ∷ gs) (suc n) u k h a w = ⊎_elim
    (λ (q : names g k ≡ true). needs r look bits g u.0 k (left_of _ _ h) (left_of _ _ a) q)
    (λ (q : wanted gs k ≡ true). wanted_in r look bits gs n u.1 k (right_of (levels_fit r look bits g u.0) _ h) (right_of (arrived r u.0) _ a) q)
    (or_true _ _ w)

back : (r : Bool) (look : ℕ → RailLevels) (bits : ℕ → Rails) (out : ℕ → Bool) → ((k : ℕ) → out k ≡ true → arrived r (look k) ≡ true)
    → (gs : List BlockPart) (n : ℕ) (u : Pairs n) (from : ℕ) → ((j : ℕ) → look (from + j) ≡ pair_in n u j) → all_fit r look bits gs n u ≡ true
    → used out from gs ≡ true → all_arrived r n u ≡ true
back r look bits out o [] zero u from see h w = refl
back r look bits out o [] (suc n) u from see h w = absurd (cc h)
back r look bits out o (g ∷ gs) zero u from see h w = absurd (cc h)
back r look bits out o (g ∷ gs) (suc n) u from see h w =
    let h2 = right_of (levels_fit r look bits g u.0) _ h in
    let later = back r look bits out o gs n u.1 (suc from) (from_next look from n u see) h2 (right_of (out from || wanted gs from) _ w) in
    both_of _ _ (ap (arrived r) (sym (from_here look from n u see)) ∙ ⊎_elim
    (λ (q : out from ≡ true). o from q)
    (λ (q : wanted gs from ≡ true). wanted_in r look bits gs n u.1 from h2 later q)
    (or_true _ _ (left_of _ _ w))) later

-- where the outputs have arrived, all has
pub arrived_all : (r : Bool) (bits : ℕ → Rails) (out : ℕ → Bool) (gs : List BlockPart) (n : ℕ) (u : Pairs n) → all_fit r (pair_in n u) bits gs n u ≡ true
    → used out zero gs ≡ true → ((k : ℕ) → out k ≡ true → arrived r (pair_in n u k) ≡ true) → all_arrived r n u ≡ true
arrived_all r bits out gs n u h w o = back r (pair_in n u) bits out o gs n u zero (from_zero n u) h w

pub arrived_at : (r : Bool) (n : ℕ) (u : Pairs n) (k : ℕ) → all_arrived r n u ≡ true → k < n → arrived r (pair_in n u k) ≡ true
arrived_at r zero u k h l = absurd (omega (arith, l))
arrived_at r (suc n) u zero h l = left_of _ _ h
arrived_at r (suc n) u (suc k) h l = arrived_at r n u.1 k (right_of (arrived r u.0) _ h) (let e : k < n = omega (arith, l) in e)

low_pair : (t f : Bool) → (not t && not f) ≡ true → levels_of t f ≡ levels_of false false
low_pair true f h = absurd (cc h)
low_pair false true h = absurd (cc h)
low_pair false false h = refl

pub all_low : (n : ℕ) (u : Pairs n) → all_arrived false n u ≡ true → u ≡ low_pairs n
all_low zero u h = refl
all_low (suc n) u h =
    ap (λ (p : RailLevels). (p, u.1)) (low_pair u.0.t u.0.f (left_of _ _ h))
    ∙ ap (λ (p : Pairs n). (levels_of false false, p)) (all_low n u.1 (right_of (levels_neutral u.0) _ h))

pub low_in : (n : ℕ) (k : ℕ) → pair_in n (low_pairs n) k ≡ levels_of false false
low_in zero k = refl
low_in (suc n) zero = refl
low_in (suc n) (suc k) = low_in n k

-- the request rises over low gates, and falls over valid ones
pub begins_in : (look : ℕ → RailLevels) (bits : ℕ → Rails) (gs : List BlockPart) (n : ℕ) → length gs ≡ n → all_fit true look bits gs n (low_pairs n) ≡ true
begins_in look bits [] zero e = refl
begins_in look bits [] (suc n) e = absurd (omega (arith, e))
begins_in look bits (g ∷ gs) zero e = absurd (omega (arith, e))
begins_in look bits (g ∷ gs) (suc n) e = both_of _ _ (ask_one look bits g) (begins_in look bits gs n (omega (arith, e)))

pub cold_low : (gs : List BlockPart) (n : ℕ) → cold gs n (low_pairs n) ≡ true
cold_low [] n = refl
cold_low (fixed v ∷ gs) zero = refl
cold_low (read_bit x i ∷ gs) zero = refl
cold_low (made f i ins ∷ gs) zero = refl
cold_low (fixed true ∷ gs) (suc n) = cold_low gs n
cold_low (fixed false ∷ gs) (suc n) = cold_low gs n
cold_low (read_bit x i ∷ gs) (suc n) = cold_low gs n
cold_low (made f i ins ∷ gs) (suc n) = cold_low gs n

ease_in : (look : ℕ → RailLevels) (bits : ℕ → Rails) → ((k : ℕ) → single (look k) ≡ true) → Single bits → (gs : List BlockPart) (n : ℕ) (u : Pairs n)
    → all_fit true look bits gs n u ≡ true → all_arrived true n u ≡ true → all_fit false look bits gs n u ≡ true
ease_in look bits s x [] zero u h a = refl
ease_in look bits s x [] (suc n) u h a = h
ease_in look bits s x (g ∷ gs) zero u h a = h
ease_in look bits s x (g ∷ gs) (suc n) u h a = both_of _ _ (ease_one look bits g u.0 s x (left_of _ _ h) (left_of _ _ a))
    (ease_in look bits s x gs n u.1 (right_of (levels_fit true look bits g u.0) _ h) (right_of (some u.0) _ a))

pub ease_all : (bits : ℕ → Rails) (gs : List BlockPart) (n : ℕ) (u : Pairs n) → Single bits → all_fit true (pair_in n u) bits gs n u ≡ true
    → all_arrived true n u ≡ true → all_fit false (pair_in n u) bits gs n u ≡ true
ease_all bits gs n u x h a = ease_in (pair_in n u) bits (singles true (pair_in n u) bits gs n u h) x gs n u h a

-- nothing moves over a whole value, nor over low gates
answered_in : (look : ℕ → RailLevels) (bits : ℕ → Rails) → ((k : ℕ) → single (look k) ≡ true) → Single bits
    → (gs : List BlockPart) (n : ℕ) (u : Pairs n) (k : ℕ) (b : Bool) → all_fit true look bits gs n u ≡ true → all_arrived true n u ≡ true
    → one_rule_fires (rule_among true look bits gs n u k b) ≡ false
answered_in look bits s x [] n u k b h a = refl
answered_in look bits s x (g ∷ gs) zero u k b h a = refl
answered_in look bits s x (g ∷ gs) (suc n) u zero b h a = answered_one look bits g b u.0 s x (left_of _ _ h) (left_of _ _ a)
answered_in look bits s x (g ∷ gs) (suc n) u (suc k) b h a =
    answered_in look bits s x gs n u.1 k b (right_of (levels_fit true look bits g u.0) _ h) (right_of (some u.0) _ a)

pub answered_all : (bits : ℕ → Rails) (gs : List BlockPart) (n : ℕ) (u : Pairs n) (k : ℕ) (b : Bool) → Single bits →
    all_fit true (pair_in n u) bits gs n u ≡ true
    → all_arrived true n u ≡ true → one_rule_fires (rule_among true (pair_in n u) bits gs n u k b) ≡ false
answered_all bits gs n u k b x h a = answered_in (pair_in n u) bits (singles true (pair_in n u) bits gs n u h) x gs n u k b h a

low_taken : (look : ℕ → RailLevels) → ((k : ℕ) → look k ≡ levels_of false false) → (i : Input) → levels_neutral (cross i.crossed (look i.at)) ≡ true
low_taken look h i = arrived_cross false i.crossed (look i.at) (ap levels_neutral (h i.at))

low_up : (look : ℕ → RailLevels) (bits : ℕ → Rails) (g : BlockPart) (b : Bool) → ((k : ℕ) → look k ≡ levels_of false false) →
    up_holds false look bits g b ≡ false
low_up look bits (fixed true) true h = refl
low_up look bits (fixed true) false h = refl
low_up look bits (fixed false) true h = refl
low_up look bits (fixed false) false h = refl
low_up look bits (read_bit y k) b h = refl
low_up look bits (made f i ins) b h = not_true _ (implies_at _ _
    (at_4 (λ a c x y. implies (not a && not c) (not ((a && x) || (c && y)))) refl (cross i.crossed (look i.at)).t (cross i.crossed (look i.at)).f
    (holds (λ bs. rows_of b f (true ∷ bs)) (inputs_taken look ins)) (holds (λ bs. rows_of b f (false ∷ bs)) (inputs_taken look ins))) (low_taken look h i))

low_one : (look : ℕ → RailLevels) (bits : ℕ → Rails) (g : BlockPart) (b : Bool) → ((k : ℕ) → look k ≡ levels_of false false)
    → one_rule_fires (part_rule false look bits g (levels_of false false) b) ≡ false
low_one look bits g true h = low_up look bits g true h
low_one look bits g false h = low_up look bits g false h

pub quiet_in : (look : ℕ → RailLevels) (bits : ℕ → Rails) → ((k : ℕ) → look k ≡ levels_of false false) → (gs : List BlockPart) (n : ℕ) (k : ℕ) (b : Bool)
    → one_rule_fires (rule_among false look bits gs n (low_pairs n) k b) ≡ false
quiet_in look bits h [] n k b = refl
quiet_in look bits h (g ∷ gs) zero k b = refl
quiet_in look bits h (g ∷ gs) (suc n) zero b = low_one look bits g b h
quiet_in look bits h (g ∷ gs) (suc n) (suc k) b = quiet_in look bits h gs n k b

low_all : (look : ℕ → RailLevels) → ((k : ℕ) → look k ≡ levels_of false false) → (ins : List Input) → list_all levels_neutral (inputs_taken look ins) ≡ true
low_all look h [] = refl
low_all look h (i ∷ ins) = both_of _ _ (low_taken look h i) (low_all look h ins)

low_wet : (look : ℕ → RailLevels) (g : BlockPart) → ((k : ℕ) → look k ≡ levels_of false false) → wet look g ≡ false
low_wet look (fixed v) h = refl
low_wet look (read_bit y k) h = refl
low_wet look (made f i ins) h = wet_none (inputs_taken look (i ∷ ins)) (low_all look h (i ∷ ins))

idle_one : (look : ℕ → RailLevels) (bits : ℕ → Rails) (g : BlockPart) → ((k : ℕ) → look k ≡ levels_of false false) →
    levels_fit false look bits g (levels_of false false) ≡ true
idle_one look bits g h =
    implies_at _ _ (at_3 (λ ut uf n. implies (not ut && (not uf && not n)) (legal false ut uf n (levels_of false false))) refl (up_holds false look bits g true)
    (up_holds false look bits g false) (wet look g))
    (both_of _ _ (not_false _ (low_up look bits g true h)) (both_of _ _ (not_false _ (low_up look bits g false h)) (not_false _ (low_wet look g h))))

pub idle_in : (look : ℕ → RailLevels) (bits : ℕ → Rails) → ((k : ℕ) → look k ≡ levels_of false false) → (gs : List BlockPart) (n : ℕ) → length gs ≡ n
    → all_fit false look bits gs n (low_pairs n) ≡ true
idle_in look bits h [] zero e = refl
idle_in look bits h [] (suc n) e = absurd (omega (arith, e))
idle_in look bits h (g ∷ gs) zero e = absurd (omega (arith, e))
idle_in look bits h (g ∷ gs) (suc n) e = both_of _ _ (idle_one look bits g h) (idle_in look bits h gs n (omega (arith, e)))
