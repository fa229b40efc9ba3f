-- What the guards of one gate do while its inputs move.
use Rattle.std.proofs.Common.{◌≡◌, ℕ, Bool, true, false, List, [], ◌∷◌, refl, ◌∙◌}
use Rattle.std.specs.Prelude.{not, ◌&&◌, ◌||◌, if◌then◌else◌}
use Rattle.std.specs.List.{list_all, list_any}
use Rattle.prs_core.specs.Deciding.{implies, implies_at, left_of, right_of, both_of, at_1, at_2, at_3, at_4, at_5, at_6}
use Rattle.function_blocks.specs.Rails.{RailLevels, levels_of, side_of, turned_side, cross, single, some, levels_neutral, turns, one_rule_fires, is_apart, same_bit, Rails, Single}
use Rattle.function_blocks.specs.Parts.{Input, BlockPart, fixed, read_bit, made}
use Rattle.function_blocks.specs.Waves.{inputs_taken, holds, rows_of, up_holds, down_holds, part_rule, wet, legal, levels_fit}
use Rattle.function_blocks.proofs.Tables.{implies_from, not_true, not_false, or_false, at_7, at_8}

-- what the wave brings: a rail while the request is high, none while it is low
abbrev pub arrived : Bool → RailLevels → Bool
arrived true p = some p
arrived false p = levels_neutral p

-- a pair is above another
abbrev pub above : RailLevels → RailLevels → Bool
above p q = implies p.t q.t && implies p.f q.f

-- a move of the wave
abbrev pub grows : Bool → RailLevels → RailLevels → Bool
grows true p q = above p q
grows false p q = above q p

-- pairs
pub above_cross : (c : Bool) (p q : RailLevels) → above p q ≡ true → above (cross c p) (cross c q) ≡ true
above_cross true p q h = implies_at _ _ (at_4 (λ a b c d. implies (implies a c && implies b d) (implies b d && implies a c)) refl p.t p.f q.t q.f) h
above_cross false p q h = h

pub single_cross : (c : Bool) (p : RailLevels) → single p ≡ true → single (cross c p) ≡ true
single_cross true p h = implies_at _ _ (at_2 (λ a b. implies (not (a && b)) (not (b && a))) refl p.t p.f) h
single_cross false p h = h

pub arrived_cross : (r c : Bool) (p : RailLevels) → arrived r p ≡ true → arrived r (cross c p) ≡ true
arrived_cross true true p h = implies_at _ _ (at_2 (λ a b. implies (a || b) (b || a)) refl p.t p.f) h
arrived_cross false true p h = implies_at _ _ (at_2 (λ a b. implies (not a && not b) (not b && not a)) refl p.t p.f) h
arrived_cross true false p h = h
arrived_cross false false p h = h

pub arrived_back : (r c : Bool) (p : RailLevels) → arrived r (cross c p) ≡ true → arrived r p ≡ true
arrived_back true true p h = implies_at _ _ (at_2 (λ a b. implies (b || a) (a || b)) refl p.t p.f) h
arrived_back false true p h = implies_at _ _ (at_2 (λ a b. implies (not b && not a) (not a && not b)) refl p.t p.f) h
arrived_back true false p h = h
arrived_back false false p h = h

pub above_self : (p : RailLevels) → above p p ≡ true
above_self p = at_2 (λ a b. implies a a && implies b b) refl p.t p.f

pub grows_self : (r : Bool) (p : RailLevels) → grows r p p ≡ true
grows_self true p = above_self p
grows_self false p = above_self p

-- minterms
abbrev two : Bool → Bool → Bool → Bool → Bool
two a x b y = (a && x) || (b && y)

two_up : (a x b y c z d w : Bool) → (implies a c && implies b d) ≡ true → implies x z ≡ true → implies y w ≡ true → two a x b y ≡ true → two c z d w ≡ true
two_up a x b y c z d w h k l m = implies_at _ _ (at_8 (λ a x b y c z d w.
    implies ((implies a c && implies b d) && (implies x z && (implies y w && two a x b y))) (two c z d w)) refl a x b y c z d w)
    (both_of _ _ h (both_of _ _ k (both_of _ _ l m)))

pub holds_up : (f : List Bool → Bool) (look see : ℕ → RailLevels) → ((k : ℕ) → above (look k) (see k) ≡ true) → (ins : List Input) →
    holds f (inputs_taken look ins) ≡ true
    → holds f (inputs_taken see ins) ≡ true
holds_up f look see h [] m = m
holds_up f look see h (i ∷ ins) m =
    let p = cross i.crossed (look i.at) in
    let q = cross i.crossed (see i.at) in
    two_up p.t (holds (λ bs. f (true ∷ bs)) (inputs_taken look ins)) p.f (holds (λ bs. f (false ∷ bs)) (inputs_taken look ins)) q.t
    (holds (λ bs. f (true ∷ bs)) (inputs_taken see ins)) q.f (holds (λ bs. f (false ∷ bs)) (inputs_taken see ins))
    (above_cross i.crossed (look i.at) (see i.at) (h i.at))
    (implies_from _ _ (holds_up (λ bs. f (true ∷ bs)) look see h ins))
    (implies_from _ _ (holds_up (λ bs. f (false ∷ bs)) look see h ins)) m

-- no two minterms of single pairs hold
two_apart : (a b x y z w : Bool) → not (a && b) ≡ true → not (x && z) ≡ true → not (y && w) ≡ true → not (two a x b y && two a z b w) ≡ true
two_apart a b x y z w h k l = implies_at _ _ (at_6 (λ a b x y z w. implies (not (a && b) && (not (x && z) && not (y && w))) (not (two a x b y && two a z b w)))
    refl a b x y z w) (both_of _ _ h (both_of _ _ k l))

pub holds_apart : (f : List Bool → Bool) (look : ℕ → RailLevels) → ((k : ℕ) → single (look k) ≡ true) → (ins : List Input)
    → not (holds f (inputs_taken look ins) && holds (λ bs. not (f bs)) (inputs_taken look ins)) ≡ true
holds_apart f look h [] = at_1 (λ a. not (a && not a)) refl (f [])
holds_apart f look h (i ∷ ins) =
    let p = cross i.crossed (look i.at) in
    two_apart p.t p.f (holds (λ bs. f (true ∷ bs)) (inputs_taken look ins)) (holds (λ bs. f (false ∷ bs)) (inputs_taken look ins))
    (holds (λ bs. not (f (true ∷ bs))) (inputs_taken look ins)) (holds (λ bs. not (f (false ∷ bs))) (inputs_taken look ins))
    (single_cross i.crossed (look i.at) (h i.at)) (holds_apart (λ bs. f (true ∷ bs)) look h ins) (holds_apart (λ bs. f (false ∷ bs)) look h ins)

-- a minterm that holds has all its inputs
two_some : (a b x y n : Bool) → implies x n ≡ true → implies y n ≡ true → two a x b y ≡ true → ((a || b) && n) ≡ true
two_some a b x y n h k m =
    implies_at _ _ (at_5 (λ a b x y n. implies (implies x n && (implies y n && two a x b y)) ((a || b) && n)) refl a b x y n) (both_of _ _ h (both_of _ _ k m))

pub holds_some : (f : List Bool → Bool) (ps : List RailLevels) → holds f ps ≡ true → list_all some ps ≡ true
holds_some f [] h = refl
holds_some f (p ∷ ps) h =
    two_some p.t p.f (holds (λ bs. f (true ∷ bs)) ps) (holds (λ bs. f (false ∷ bs)) ps) (list_all some ps)
    (implies_from _ _ (holds_some (λ bs. f (true ∷ bs)) ps)) (implies_from _ _ (holds_some (λ bs. f (false ∷ bs)) ps)) h

-- none holds where an input is neutral
pub holds_none : (f : List Bool → Bool) (p : RailLevels) (ps : List RailLevels) → list_all levels_neutral (p ∷ ps) ≡ true → holds f (p ∷ ps) ≡ false
holds_none f p ps h = not_true _ (implies_at _ _ (at_4 (λ a b x y. implies (not a && not b) (not (two a x b y))) refl p.t p.f (holds (λ bs. f (true ∷ bs)) ps)
    (holds (λ bs. f (false ∷ bs)) ps)) (left_of _ _ h))

-- one holds where all are valid
two_one : (a b x y z w : Bool) → (a || b) ≡ true → (x || z) ≡ true → (y || w) ≡ true → (two a x b y || two a z b w) ≡ true
two_one a b x y z w h k l = implies_at _ _ (at_6 (λ a b x y z w. implies ((a || b) && ((x || z) && (y || w))) (two a x b y || two a z b w)) refl a b x y z w)
    (both_of _ _ h (both_of _ _ k l))

pub holds_one : (f : List Bool → Bool) (ps : List RailLevels) → list_all some ps ≡ true → (holds f ps || holds (λ bs. not (f bs)) ps) ≡ true
holds_one f [] h = at_1 (λ a. a || not a) refl (f [])
holds_one f (p ∷ ps) h =
    two_one p.t p.f (holds (λ bs. f (true ∷ bs)) ps) (holds (λ bs. f (false ∷ bs)) ps) (holds (λ bs. not (f (true ∷ bs))) ps)
    (holds (λ bs. not (f (false ∷ bs))) ps)
    (left_of _ _ h) (holds_one (λ bs. f (true ∷ bs)) ps (right_of (some p) _ h)) (holds_one (λ bs. f (false ∷ bs)) ps (right_of (some p) _ h))

-- the bits of inputs, where v says that of each gate
abbrev pub bit_in : (ℕ → Bool) → Input → Bool
bit_in v i = same_bit (not i.crossed) (v i.at)

abbrev pub bits_in : (ℕ → Bool) → List Input → List Bool
bits_in v [] = []
bits_in v (i ∷ more) = bit_in v i ∷ bits_in v more

-- over valid pairs the guard is the function
pub holds_value : (f : List Bool → Bool) (look : ℕ → RailLevels) → ((k : ℕ) → single (look k) ≡ true) → (ins : List Input) →
    list_all some (inputs_taken look ins) ≡ true
    → holds f (inputs_taken look ins) ≡ f (bits_in (λ k. (look k).t) ins)
holds_value f look s [] h = refl
holds_value f look s (i ∷ ins) h = one (i.crossed) (look i.at).t (look i.at).f (s i.at) (left_of _ _ h)
    (holds_value (λ bs. f (true ∷ bs)) look s ins (right_of (some (cross i.crossed (look i.at))) _ h))
    (holds_value (λ bs. f (false ∷ bs)) look s ins (right_of (some (cross i.crossed (look i.at))) _ h))
  where
    one : (c t u : Bool) → not (t && u) ≡ true → some (cross c (levels_of t u)) ≡ true
        → holds (λ bs. f (true ∷ bs)) (inputs_taken look ins) ≡ f (true ∷ bits_in (λ k. (look k).t) ins)
        → holds (λ bs. f (false ∷ bs)) (inputs_taken look ins) ≡ f (false ∷ bits_in (λ k. (look k).t) ins)
        → two (cross c (levels_of t u)).t (holds (λ bs. f (true ∷ bs)) (inputs_taken look ins)) (cross c (levels_of t u)).f
        (holds (λ bs. f (false ∷ bs)) (inputs_taken look ins)) ≡ f (same_bit (not c) t ∷ bits_in (λ k. (look k).t) ins)
    one c true true k m p q = absurd (cc k)
    one true false false k m p q = absurd (cc m)
    one false false false k m p q = absurd (cc m)
    one true true false k m p q = q
    one false true false k m p q = or_false _ ∙ p
    one true false true k m p q = or_false _ ∙ p
    one false false true k m p q = q

-- neutral inputs
pub wet_none : (ps : List RailLevels) → list_all levels_neutral ps ≡ true → list_any some ps ≡ false
wet_none [] h = refl
wet_none (p ∷ ps) h = not_true _ (implies_at _ _ (at_3 (λ a b n. implies ((not a && not b) && not n) (not ((a || b) || n))) refl p.t p.f (list_any some ps))
    (both_of _ _ (left_of _ _ h) (not_false _ (wet_none ps (right_of (levels_neutral p) _ h)))))

neutral_down : (look see : ℕ → RailLevels) → ((k : ℕ) → above (see k) (look k) ≡ true) → (ins : List Input) →
    list_all levels_neutral (inputs_taken look ins) ≡ true
    → list_all levels_neutral (inputs_taken see ins) ≡ true
neutral_down look see h [] m = refl
neutral_down look see h (i ∷ ins) m =
    let p = cross i.crossed (look i.at) in
    let q = cross i.crossed (see i.at) in
    both_of _ _ (implies_at _ _ (at_4 (λ a b c d. implies ((implies c a && implies d b) && (not a && not b)) (not c && not d)) refl p.t p.f q.t q.f)
    (both_of _ _ (above_cross i.crossed (see i.at) (look i.at) (h i.at)) (left_of _ _ m)))
    (neutral_down look see h ins (right_of (levels_neutral p) _ m))

wet_up : (look see : ℕ → RailLevels) → ((k : ℕ) → above (look k) (see k) ≡ true) → (ins : List Input) → list_any some (inputs_taken look ins) ≡ true
    → list_any some (inputs_taken see ins) ≡ true
wet_up look see h [] m = m
wet_up look see h (i ∷ ins) m =
    let p = cross i.crossed (look i.at) in
    let q = cross i.crossed (see i.at) in
    implies_at _ _ (at_6 (λ a b c d n o. implies ((implies a c && implies b d) && (implies n o && ((a || b) || n))) ((c || d) || o)) refl p.t p.f q.t q.f
    (list_any some (inputs_taken look ins)) (list_any some (inputs_taken see ins)))
    (both_of _ _ (above_cross i.crossed (look i.at) (see i.at) (h i.at)) (both_of _ _ (implies_from _ _ (wet_up look see h ins)) m))

-- one gate: what its two guards have to do with each other
abbrev fact : Bool → Bool → Bool → Bool → Bool
fact ut uf d n = not (ut && uf) && implies d (not ut && (not uf && not n))

pub facts : (r : Bool) (look : ℕ → RailLevels) (bits : ℕ → Rails) (g : BlockPart) (b : Bool) → ((k : ℕ) → single (look k) ≡ true) → Single bits
    → fact (up_holds r look bits g true) (up_holds r look bits g false) (down_holds r look g b) (wet look g) ≡ true
facts r look bits (fixed v) b s x = at_3 (λ r v b. fact (same_bit v true && r) (same_bit v false && r) (same_bit v b && not r) false) refl r v b
facts r look bits (read_bit y k) b s x =
    implies_at _ _ (at_3 (λ r t f. implies (not (t && f)) (fact (r && t) (r && f) (not r) false)) refl r (bits y k true) (bits y k false)) (x y k)
facts r look bits (made f i ins) b s x =
    both_of _ _ (holds_apart f look s (i ∷ ins)) (implies_from _ _ (λ d.
    both_of _ _ (not_false _ (holds_none f _ (inputs_taken look ins) d))
    (both_of _ _ (not_false _ (holds_none (λ bs. not (f bs)) _ (inputs_taken look ins) d)) (not_false _ (wet_none (inputs_taken look (i ∷ ins)) d)))))

pub own_one : (r : Bool) (look : ℕ → RailLevels) (bits : ℕ → Rails) (g : BlockPart) (b : Bool) (p : RailLevels) → ((k : ℕ) → single (look k) ≡ true) →
    Single bits
    → levels_fit r look bits g p ≡ true → one_rule_fires (part_rule r look bits g p b) ≡ true →
    (levels_fit r look bits g (turned_side p b) && grows r p (turned_side p b)) ≡ true
own_one r look bits g true p s x k m =
    implies_at _ _ (at_7 (λ r ut uf d n t f. implies (fact ut uf d n && (legal r ut uf n (levels_of t f) && turns t ut d))
    (legal r ut uf n (turned_side (levels_of t f) true) && grows r (levels_of t f) (turned_side (levels_of t f) true))) refl r (up_holds r look bits g true)
    (up_holds r look bits g false) (down_holds r look g true) (wet look g) p.t p.f)
    (both_of _ _ (facts r look bits g true s x) (both_of _ _ k m))
own_one r look bits g false p s x k m =
    implies_at _ _ (at_7 (λ r ut uf d n t f. implies (fact ut uf d n && (legal r ut uf n (levels_of t f) && turns f uf d))
    (legal r ut uf n (turned_side (levels_of t f) false) && grows r (levels_of t f) (turned_side (levels_of t f) false))) refl r (up_holds r look bits g true)
    (up_holds r look bits g false) (down_holds r look g false) (wet look g) p.t p.f)
    (both_of _ _ (facts r look bits g false s x) (both_of _ _ k m))

pub law_one : (r : Bool) (look : ℕ → RailLevels) (bits : ℕ → Rails) (g : BlockPart) (b : Bool) (p : RailLevels) → ((k : ℕ) → single (look k) ≡ true) →
    Single bits
    → levels_fit r look bits g p ≡ true → one_rule_fires (part_rule r look bits g p b) ≡ true →
    (if side_of p b then not r else (r && not (side_of p (not b)))) ≡ true
law_one r look bits g true p s x k m =
    implies_at _ _ (at_7 (λ r ut uf d n t f. implies (fact ut uf d n && (legal r ut uf n (levels_of t f) && turns t ut d)) (if t then not r else (r && not f)))
    refl r (up_holds r look bits g true) (up_holds r look bits g false) (down_holds r look g true) (wet look g) p.t p.f)
    (both_of _ _ (facts r look bits g true s x) (both_of _ _ k m))
law_one r look bits g false p s x k m =
    implies_at _ _ (at_7 (λ r ut uf d n t f. implies (fact ut uf d n && (legal r ut uf n (levels_of t f) && turns f uf d)) (if f then not r else (r && not t)))
    refl r (up_holds r look bits g true) (up_holds r look bits g false) (down_holds r look g false) (wet look g) p.t p.f)
    (both_of _ _ (facts r look bits g false s x) (both_of _ _ k m))

-- its inputs go with the request
up_rises : (look see : ℕ → RailLevels) (bits : ℕ → Rails) (g : BlockPart) (b : Bool) → ((k : ℕ) → above (look k) (see k) ≡ true) →
    up_holds true look bits g b ≡ true
    → up_holds true see bits g b ≡ true
up_rises look see bits (fixed v) b h m = m
up_rises look see bits (read_bit y k) b h m = m
up_rises look see bits (made f i ins) b h m = holds_up (rows_of b f) look see h (i ∷ ins) m

up_falls : (look see : ℕ → RailLevels) (bits : ℕ → Rails) (g : BlockPart) (b : Bool) → ((k : ℕ) → above (see k) (look k) ≡ true) →
    up_holds false see bits g b ≡ true
    → up_holds false look bits g b ≡ true
up_falls look see bits (fixed v) b h m = m
up_falls look see bits (read_bit y k) b h m = m
up_falls look see bits (made f i ins) b h m = holds_up (rows_of b f) see look h (i ∷ ins) m

wet_falls : (look see : ℕ → RailLevels) (g : BlockPart) → ((k : ℕ) → above (see k) (look k) ≡ true) → wet see g ≡ true → wet look g ≡ true
wet_falls look see (fixed v) h m = m
wet_falls look see (read_bit y k) h m = m
wet_falls look see (made f i ins) h m = wet_up see look h (i ∷ ins) m

pub wire_one : (r : Bool) (look see : ℕ → RailLevels) (bits : ℕ → Rails) (g : BlockPart) (p : RailLevels) → ((k : ℕ) → grows r (look k) (see k) ≡ true)
    → levels_fit r look bits g p ≡ true → levels_fit r see bits g p ≡ true
wire_one true look see bits g p h k =
    implies_at _ _ (at_8 (λ ut uf vt vf n o t f. implies ((implies ut vt && implies uf vf) && legal true ut uf n (levels_of t f))
    (legal true vt vf o (levels_of t f))) refl
    (up_holds true look bits g true) (up_holds true look bits g false) (up_holds true see bits g true) (up_holds true see bits g false) (wet look g) (wet see g)
    p.t p.f)
    (both_of _ _ (both_of _ _ (implies_from _ _ (up_rises look see bits g true h)) (implies_from _ _ (up_rises look see bits g false h))) k)
wire_one false look see bits g p h k =
    implies_at _ _ (at_8 (λ ut uf vt vf n o t f. implies ((implies vt ut && (implies vf uf && implies o n)) && legal false ut uf n (levels_of t f))
    (legal false vt vf o (levels_of t f))) refl
    (up_holds false look bits g true) (up_holds false look bits g false) (up_holds false see bits g true) (up_holds false see bits g false) (wet look g)
    (wet see g) p.t p.f)
    (both_of _ _ (both_of _ _ (implies_from _ _ (up_falls look see bits g true h))
    (both_of _ _ (implies_from _ _ (up_falls look see bits g false h)) (implies_from _ _ (wet_falls look see g h)))) k)

-- and leave an enabled rail enabled
down_stays : (look see : ℕ → RailLevels) (g : BlockPart) (b : Bool) → ((k : ℕ) → above (see k) (look k) ≡ true) → down_holds false look g b ≡ true
    → down_holds false see g b ≡ true
down_stays look see (fixed v) b h m = m
down_stays look see (read_bit y k) b h m = m
down_stays look see (made f i ins) b h m = neutral_down look see h (i ∷ ins) m

pub firm_one : (r : Bool) (look see : ℕ → RailLevels) (bits : ℕ → Rails) (g : BlockPart) (b : Bool) (p : RailLevels) → ((k : ℕ) → single (look k) ≡ true) →
    Single bits
    → ((k : ℕ) → grows r (look k) (see k) ≡ true) → levels_fit r look bits g p ≡ true → one_rule_fires (part_rule r look bits g p b) ≡ true
    → one_rule_fires (part_rule r see bits g p b) ≡ true
firm_one true look see bits g true p s x h k m =
    implies_at _ _ (at_8 (λ ut uf d n vt o t f. implies (fact ut uf d n && (implies ut vt && (legal true ut uf n (levels_of t f) && turns t ut d)))
    (turns t vt o)) refl
    (up_holds true look bits g true) (up_holds true look bits g false) (down_holds true look g true) (wet look g) (up_holds true see bits g true)
    (down_holds true see g true) p.t p.f)
    (both_of _ _ (facts true look bits g true s x) (both_of _ _ (implies_from _ _ (up_rises look see bits g true h)) (both_of _ _ k m)))
firm_one true look see bits g false p s x h k m =
    implies_at _ _ (at_8 (λ ut uf d n vf o t f. implies (fact ut uf d n && (implies uf vf && (legal true ut uf n (levels_of t f) && turns f uf d)))
    (turns f vf o)) refl
    (up_holds true look bits g true) (up_holds true look bits g false) (down_holds true look g false) (wet look g) (up_holds true see bits g false)
    (down_holds true see g false) p.t p.f)
    (both_of _ _ (facts true look bits g false s x) (both_of _ _ (implies_from _ _ (up_rises look see bits g false h)) (both_of _ _ k m)))
firm_one false look see bits g true p s x h k m =
    implies_at _ _ (at_8 (λ ut uf d n vt o t f. implies (implies d o && (legal false ut uf n (levels_of t f) && turns t ut d)) (turns t vt o)) refl
    (up_holds false look bits g true) (up_holds false look bits g false) (down_holds false look g true) (wet look g) (up_holds false see bits g true)
    (down_holds false see g true) p.t p.f)
    (both_of _ _ (implies_from _ _ (down_stays look see g true h)) (both_of _ _ k m))
firm_one false look see bits g false p s x h k m =
    implies_at _ _ (at_8 (λ ut uf d n vf o t f. implies (implies d o && (legal false ut uf n (levels_of t f) && turns f uf d)) (turns f vf o)) refl
    (up_holds false look bits g true) (up_holds false look bits g false) (down_holds false look g false) (wet look g) (up_holds false see bits g false)
    (down_holds false see g false) p.t p.f)
    (both_of _ _ (implies_from _ _ (down_stays look see g false h)) (both_of _ _ k m))

-- no rail is pulled both ways
pub apart_one : (r : Bool) (look : ℕ → RailLevels) (bits : ℕ → Rails) (g : BlockPart) (b : Bool) (p : RailLevels) → ((k : ℕ) → single (look k) ≡ true) →
    Single bits
    → is_apart (part_rule r look bits g p b) ≡ true
apart_one r look bits g true p s x = implies_at _ _ (at_4 (λ ut uf d n. implies (fact ut uf d n) (not (ut && d))) refl (up_holds r look bits g true)
    (up_holds r look bits g false) (down_holds r look g true) (wet look g)) (facts r look bits g true s x)
apart_one r look bits g false p s x = implies_at _ _ (at_4 (λ ut uf d n. implies (fact ut uf d n) (not (uf && d))) refl (up_holds r look bits g true)
    (up_holds r look bits g false) (down_holds r look g false) (wet look g)) (facts r look bits g false s x)

-- the request rises over neutral gates, and falls over valid ones
pub ask_one : (look : ℕ → RailLevels) (bits : ℕ → Rails) (g : BlockPart) → levels_fit true look bits g (levels_of false false) ≡ true
ask_one look bits g =
    at_3 (λ vt vf n. legal true vt vf n (levels_of false false)) refl (up_holds true look bits g true) (up_holds true look bits g false) (wet look g)

up_of_valid : (look : ℕ → RailLevels) (bits : ℕ → Rails) (g : BlockPart) (b : Bool) → up_holds false look bits g b ≡ true → up_holds true look bits g b ≡ true
up_of_valid look bits (fixed true) true m = refl
up_of_valid look bits (fixed true) false m = absurd (cc m)
up_of_valid look bits (fixed false) true m = absurd (cc m)
up_of_valid look bits (fixed false) false m = refl
up_of_valid look bits (read_bit y k) b m = absurd (cc m)
up_of_valid look bits (made f i ins) b m = m

pub ease_one : (look : ℕ → RailLevels) (bits : ℕ → Rails) (g : BlockPart) (p : RailLevels) → ((k : ℕ) → single (look k) ≡ true) → Single bits →
    levels_fit true look bits g p ≡ true
    → some p ≡ true → levels_fit false look bits g p ≡ true
ease_one look bits g p s x h a =
    implies_at _ _ (at_8 (λ ut uf vt vf n t f d. implies ((not (ut && uf) && (implies vt ut && implies vf uf)) && (legal true ut uf n
    (levels_of t f) && (t || f))) (legal false vt vf n (levels_of t f))) refl
    (up_holds true look bits g true) (up_holds true look bits g false) (up_holds false look bits g true) (up_holds false look bits g false) (wet look g) p.t p.f
    false)
    (both_of _ _ (both_of _ _ (left_of _ _ (facts true look bits g true s x))
    (both_of _ _ (implies_from _ _ (up_of_valid look bits g true)) (implies_from _ _ (up_of_valid look bits g false)))) (both_of _ _ h a))

-- with the request high and a valid pair no rail is enabled
pub answered_one : (look : ℕ → RailLevels) (bits : ℕ → Rails) (g : BlockPart) (b : Bool) (p : RailLevels) → ((k : ℕ) → single (look k) ≡ true) → Single bits
    → levels_fit true look bits g p ≡ true → some p ≡ true → one_rule_fires (part_rule true look bits g p b) ≡ false
answered_one look bits g true p s x h a = not_true _ (implies_at _ _
    (at_6 (λ ut uf d n t f. implies (fact ut uf d n && (legal true ut uf n (levels_of t f) && (t || f))) (not (turns t ut d))) refl
    (up_holds true look bits g true) (up_holds true look bits g false) (down_holds true look g true) (wet look g) p.t p.f)
    (both_of _ _ (facts true look bits g true s x) (both_of _ _ h a)))
answered_one look bits g false p s x h a = not_true _ (implies_at _ _
    (at_6 (λ ut uf d n t f. implies (fact ut uf d n && (legal true ut uf n (levels_of t f) && (t || f))) (not (turns f uf d))) refl
    (up_holds true look bits g true) (up_holds true look bits g false) (down_holds true look g false) (wet look g) p.t p.f)
    (both_of _ _ (facts true look bits g false s x) (both_of _ _ h a)))
