-- What turning a node over changes, and what is among the members of a list: for proofs that a part keeps its contract.
use Rattle.std.specs.Prelude.{◌≡◌, ◌≢◌, ℕ, zero, suc, Bool, true, false, not, ◌&&◌, ◌⊎◌, if◌then◌else◌, List, [], ◌∷◌, map, All, Contains}
use Rattle.std.proofs.Common.{refl, sym, ap, ◌∙◌, inl, inr, suc-le-suc}
use Rattle.std.proofs.Math.Nat.{le_of_suc-le-suc, not-suc-le-zero, zero-lt-suc}
use Rattle.std.proofs.lemmas.Bool.{true≢false, eq-eqb, ne_eqb}
use Rattle.prs_core.specs.Parts.{turned, all_low}

-- the node itself is turned over, and no other
pub turned_here : (v : ℕ → Bool) (node : ℕ) → turned v node node ≡ not (v node)
turned_here v node = ap (λ b. if b then not (v node) else v node) (eq-eqb node node refl)

pub turned_apart : (v : ℕ → Bool) (node k : ℕ) → k ≢ node → turned v node k ≡ v k
turned_apart v node k apart = ap (λ b. if b then not (v k) else v k) (ne_eqb k node apart)

pub low_apart : (v : ℕ → Bool) (node : ℕ) (ns : List ℕ) → All (λ n. n ≢ node) ns →
    all_low (turned v node) ns ≡ all_low v ns
low_apart v node [] apart = refl
low_apart v node (n ∷ ns) apart =
    ap (λ b. not b && all_low (turned v node) ns) (turned_apart v node n (apart zero n (zero-lt-suc _)))
    ∙ ap (λ b. not (v n) && b) (low_apart v node ns (λ k d within. apart (suc k) d (suc-le-suc within)))

-- a member is the first one or one of the rest
pub among_cases : {X : Type 0} (x : X) (xs : List X) (y : X) → Contains (x ∷ xs) y → (x ≡ y) ⊎ Contains xs y
among_cases x xs y (zero, within, is) = inl is
among_cases x xs y (suc k, within, is) = inr (k, le_of_suc-le-suc within, is)

pub none_among : {X : Type 0} (y : X) → Contains [] y → ⊥
none_among y (k, within, is) = not-suc-le-zero within

pub among_mapped : {X Y : Type 0} (f : X → Y) (xs : List X) (y : Y) → Contains (map f xs) y →
    (x : X) × Contains xs x × (f x ≡ y)
among_mapped f [] y among = absurd (none_among y among)
among_mapped f (x ∷ xs) y (zero, within, is) = (x, (zero, zero-lt-suc _, refl), is)
among_mapped f (x ∷ xs) y (suc k, within, is) =
    let (z, (at, inside, same), made) = among_mapped f xs y (k, le_of_suc-le-suc within, is) in
    (z, (suc at, suc-le-suc inside, same), made)

pub mapped_among : {X Y : Type 0} (f : X → Y) (xs : List X) (x : X) → Contains xs x → Contains (map f xs) (f x)
mapped_among f [] x among = absurd (none_among x among)
mapped_among f (y ∷ xs) x (zero, within, is) = (zero, zero-lt-suc _, ap f is)
mapped_among f (y ∷ xs) x (suc k, within, is) =
    let (at, inside, same) = mapped_among f xs x (k, le_of_suc-le-suc within, is) in
    (suc at, suc-le-suc inside, same)

-- where not all are low one is high
pub some_high : (v : ℕ → Bool) (ns : List ℕ) → all_low v ns ≡ false → (n : ℕ) × Contains ns n × (v n ≡ true)
some_high v [] h = absurd (true≢false h)
some_high v (n ∷ ns) h = one_of v n ns (v n) refl h (some_high v ns)
  where
    one_of : (v : ℕ → Bool) (n : ℕ) (ns : List ℕ) (b : Bool) → v n ≡ b → all_low v (n ∷ ns) ≡ false →
        (all_low v ns ≡ false → (k : ℕ) × Contains ns k × (v k ≡ true)) → (k : ℕ) × Contains (n ∷ ns) k × (v k ≡ true)
    one_of v n ns true e h rest = (n, (zero, zero-lt-suc _, refl), e)
    one_of v n ns false e h rest =
        let (k, (at, within, same), is) = rest (sym (ap (λ b. not b && all_low v ns) e) ∙ h) in
        (k, (suc at, suc-le-suc within, same), is)
