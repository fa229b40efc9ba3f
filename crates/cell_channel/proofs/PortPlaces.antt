-- The nodes of a receive port, by bit and by role: 0 and 1 are the rails, 2 and 3 the nodes that take these.
use Rattle.std.proofs.Common.{◌≡◌, ◌≢◌, ℕ, zero, suc, ◌+◌, ◌*◌, ◌<◌, Bool, true, false, not, List, [], ◌∷◌, length, map, refl, sym, ap, ◌∙◌, arith}
use Rattle.std.specs.Prelude.{◌&&◌, ◌==◌, if◌then◌else◌, All, AllPairs, Contains, slice_index_or}
use Rattle.std.specs.List.{list_all, flat_map}
use Rattle.std.proofs.Math.Logic.{⊎_elim}
use Rattle.std.proofs.lemmas.Bool.{cases_eq, cases_order, eq-eqb, ne_eqb}
use Rattle.std.proofs.lemmas.List.Elements.{All-nil, All-cons}
use Rattle.prs_core.specs.Pairs.{Pair, pair_at, rails_of}
use Rattle.prs_core.specs.Parts.{Owned, owned, owned_at, Wire, turned, all_low}
use Rattle.prs_core.specs.Deciding.{left_of, right_of, both_of}
use Rattle.cell_channel.specs.Ends.{taken_rail, port_rules, port_owned}
use Rattle.cell_channel.specs.Handshakes.{PortBit, port_bit, channel_pairs, taken_pairs, is_neutral, rail_wires, port_nodes, port_bits}

abbrev pub bit_at : List PortBit → ℕ → PortBit
bit_at bits i = slice_index_or bits i (port_bit (pair_at 0) (pair_at 0))

abbrev pub role : PortBit → ℕ → ℕ
role b k = slice_index_or (b.rail.t ∷ b.rail.f ∷ b.taken.t ∷ b.taken.f ∷ []) k 0

abbrev pub node : List PortBit → (i k : ℕ) → ℕ
node bits i k = role (bit_at bits i) k

one_of_four : (b : PortBit) (rest : List ℕ) (k : ℕ) → k < 4 → slice_index_or (b.rail.t ∷ b.rail.f ∷ b.taken.t ∷ b.taken.f ∷ rest) k 0 ≡ role b k
one_of_four b rest zero few = refl
one_of_four b rest (suc zero) few = refl
one_of_four b rest (suc (suc zero)) few = refl
one_of_four b rest (suc (suc (suc zero))) few = refl
one_of_four b rest (suc (suc (suc (suc k)))) few = absurd (omega arith)

nodes_at : (bits : List PortBit) (i k : ℕ) → i < length bits → k < 4 → slice_index_or (port_nodes bits) (4 * i + k) 0 ≡ node bits i k
nodes_at [] i k within few = absurd (omega arith)
nodes_at (b ∷ bits) zero k within few =
    let e : 4 * zero + k ≡ k = omega arith in
    ap (λ n. slice_index_or (port_nodes (b ∷ bits)) n 0) e ∙ one_of_four b (port_nodes bits) k few
nodes_at (b ∷ bits) (suc i) k within few =
    let e : 4 * suc i + k ≡ suc (suc (suc (suc (4 * i + k)))) = omega arith in
    ap (λ n. slice_index_or (port_nodes (b ∷ bits)) n 0) e ∙ nodes_at bits i k (omega arith) few

nodes_length : (bits : List PortBit) → length (port_nodes bits) ≡ 4 * length bits
nodes_length [] = refl
nodes_length (b ∷ bits) = let e = nodes_length bits in omega (arith, e)

abbrev pub IsDistinct : (request ack : ℕ) → List PortBit → Type 0
IsDistinct request ack bits = AllPairs (λ a b. a ≢ b) (request ∷ ack ∷ port_nodes bits)

pub request_ack : (request ack : ℕ) (bits : List PortBit) → IsDistinct request ack bits → request ≢ ack
request_ack request ack bits h = h zero (suc zero) 0 (omega arith) (omega arith)

pub request_apart : (request ack : ℕ) (bits : List PortBit) → IsDistinct request ack bits → (i k : ℕ) → i < length bits → k < 4 → request ≢ node bits i k
request_apart request ack bits h i k within few e =
    let count = nodes_length bits in
    h zero (suc (suc (4 * i + k))) 0 (omega arith) (omega (arith, count)) (e ∙ sym (nodes_at bits i k within few))

pub ack_apart : (request ack : ℕ) (bits : List PortBit) → IsDistinct request ack bits → (i k : ℕ) → i < length bits → k < 4 → ack ≢ node bits i k
ack_apart request ack bits h i k within few e =
    let count = nodes_length bits in
    h (suc zero) (suc (suc (4 * i + k))) 0 (omega arith) (omega (arith, count)) (e ∙ sym (nodes_at bits i k within few))

-- nodes of different bits or roles are distinct
pub roles_apart : (request ack : ℕ) (bits : List PortBit) → IsDistinct request ack bits → (i k j l : ℕ) → i < length bits → k < 4 → j < length bits → l < 4 →
    4 * i + k ≢ 4 * j + l → node bits i k ≢ node bits j l
roles_apart request ack bits h i k j l in_i few_k in_j few_l ne e =
    let count = nodes_length bits in
    let same : slice_index_or (port_nodes bits) (4 * i + k) 0 ≡ slice_index_or (port_nodes bits) (4 * j + l) 0 =
    nodes_at bits i k in_i few_k ∙ e ∙ sym (nodes_at bits j l in_j few_l) in
    ⊎_elim
    ne
    (λ less.
    ⊎_elim
    (λ (below : 4 * i + k < 4 * j + l). h (suc (suc (4 * i + k))) (suc (suc (4 * j + l))) 0 (omega arith) (omega (arith, count)) same)
    (λ (above : 4 * j + l < 4 * i + k). h (suc (suc (4 * j + l))) (suc (suc (4 * i + k))) 0 (omega arith) (omega (arith, count)) (sym same))
    less)
    (cases_order (4 * i + k) (4 * j + l))

-- within one bit
pub role_turned : (request ack : ℕ) (bits : List PortBit) → IsDistinct request ack bits → (v : ℕ → Bool) (i k l : ℕ) → i < length bits → k < 4 → l < 4 →
    turned v (node bits i k) (node bits i l) ≡ (if l == k then not (v (node bits i l)) else v (node bits i l))
role_turned request ack bits h v i k l within few_k few_l =
    ⊎_elim
    (λ (e : l ≡ k).
    ap (λ b. if b then not (v (node bits i l)) else v (node bits i l)) (eq-eqb (node bits i l) (node bits i k) (ap (node bits i) e) ∙ sym (eq-eqb l k e)))
    (λ (ne : l ≢ k).
    ap (λ b. if b then not (v (node bits i l)) else v (node bits i l))
    (ne_eqb (node bits i l) (node bits i k) (roles_apart request ack bits h i l i k within few_l within few_k (λ e. ne (omega (arith, e))))
    ∙ sym (ne_eqb l k ne)))
    (cases_eq l k)

-- two members of a list for each bit
pub all_two : {X : Type 0} (P : X → Type 0) (f g : PortBit → X) (bits : List PortBit) → ((i : ℕ) → i < length bits → P (f (bit_at bits i))) →
    ((i : ℕ) → i < length bits → P (g (bit_at bits i))) → All P (flat_map (λ b. f b ∷ g b ∷ []) bits)
all_two P f g [] first second = All-nil P
all_two P f g (b ∷ bits) first second =
    All-cons P (f b) (g b ∷ flat_map (λ b. f b ∷ g b ∷ []) bits) (first zero (omega arith))
    (All-cons P (g b) (flat_map (λ b. f b ∷ g b ∷ []) bits) (second zero (omega arith))
    (all_two P f g bits (λ i within. first (suc i) (omega arith)) (λ i within. second (suc i) (omega arith))))

pub first_of_two : {X : Type 0} (f g : PortBit → X) (bits : List PortBit) (i : ℕ) → i < length bits →
    Contains (flat_map (λ b. f b ∷ g b ∷ []) bits) (f (bit_at bits i))
first_of_two f g [] i within = absurd (omega arith)
first_of_two f g (b ∷ bits) zero within = (zero, omega arith, refl)
first_of_two f g (b ∷ bits) (suc i) within =
    let (k, inside, is) = first_of_two f g bits i (omega arith) in
    (suc (suc k), omega (arith, inside), is)

pub second_of_two : {X : Type 0} (f g : PortBit → X) (bits : List PortBit) (i : ℕ) → i < length bits →
    Contains (flat_map (λ b. f b ∷ g b ∷ []) bits) (g (bit_at bits i))
second_of_two f g [] i within = absurd (omega arith)
second_of_two f g (b ∷ bits) zero within = (suc zero, omega arith, refl)
second_of_two f g (b ∷ bits) (suc i) within =
    let (k, inside, is) = second_of_two f g bits i (omega arith) in
    (suc (suc k), omega (arith, inside), is)

abbrev pub taken_t : (request : ℕ) → PortBit → Owned
taken_t request b = owned b.taken.t (taken_rail request b.rail.t)

abbrev pub taken_f : (request : ℕ) → PortBit → Owned
taken_f request b = owned b.taken.f (taken_rail request b.rail.f)

pub own_is : (request : ℕ) (bits : List PortBit) → owned_at (rails_of (taken_pairs bits)) (port_rules request (channel_pairs bits)) ≡
    flat_map (λ b. taken_t request b ∷ taken_f request b ∷ []) bits
own_is request [] = refl
own_is request (b ∷ bits) = ap (λ os. taken_t request b ∷ taken_f request b ∷ os) (own_is request bits)

-- what a test says of all pairs of a kind
pub each_pair : (test : Pair → Bool) (kind : PortBit → Pair) (bits : List PortBit) → list_all test (map kind bits) ≡ true → (i : ℕ) → i < length bits →
    test (kind (bit_at bits i)) ≡ true
each_pair test kind [] h i within = absurd (omega arith)
each_pair test kind (b ∷ bits) h zero within = left_of _ _ h
each_pair test kind (b ∷ bits) h (suc i) within = each_pair test kind bits (right_of (test (kind b)) _ h) i (omega arith)

pub all_pairs : (test : Pair → Bool) (kind : PortBit → Pair) (bits : List PortBit) → ((i : ℕ) → i < length bits → test (kind (bit_at bits i)) ≡ true) →
    list_all test (map kind bits) ≡ true
all_pairs test kind [] h = refl
all_pairs test kind (b ∷ bits) h = both_of _ _ (h zero (omega arith)) (all_pairs test kind bits (λ i within. h (suc i) (omega arith)))

pub some_pair : (test : Pair → Bool) (kind : PortBit → Pair) (bits : List PortBit) → list_all test (map kind bits) ≡ false →
    (i : ℕ) × (i < length bits) × (test (kind (bit_at bits i)) ≡ false)
some_pair test kind [] h = absurd (cc h)
some_pair test kind (b ∷ bits) h = one_of test kind b bits (test (kind b)) refl h (some_pair test kind bits)
  where
    one_of : (test : Pair → Bool) (kind : PortBit → Pair) (b : PortBit) (bits : List PortBit) (is : Bool) → test (kind b) ≡ is →
        list_all test (map kind (b ∷ bits)) ≡ false →
        (list_all test (map kind bits) ≡ false → (i : ℕ) × (i < length bits) × (test (kind (bit_at bits i)) ≡ false)) →
        (i : ℕ) × (i < length (b ∷ bits)) × (test (kind (bit_at (b ∷ bits) i)) ≡ false)
    one_of test kind b bits false e h rest = (zero, omega arith, e)
    one_of test kind b bits true e h rest =
        let (i, within, is) = rest (sym (ap (λ t. t && list_all test (map kind bits)) e) ∙ h) in
        (suc i, omega (arith, within), is)

-- low nodes are neutral bits
neutral_first : (x y rest : Bool) → (not x && (not y && rest)) ≡ true → ((not x && not y) ≡ true) × (rest ≡ true)
neutral_first false false rest h = (refl, h)
neutral_first false true rest h = absurd (cc h)
neutral_first true y rest h = absurd (cc h)

pub low_taken : (v : ℕ → Bool) (bits : List PortBit) → all_low v (rails_of (taken_pairs bits)) ≡ true → list_all (is_neutral v) (taken_pairs bits) ≡ true
low_taken v [] h = refl
low_taken v (b ∷ bits) h =
    let (first, rest) = neutral_first (v b.taken.t) (v b.taken.f) (all_low v (rails_of (taken_pairs bits))) h in
    both_of (is_neutral v b.taken) (list_all (is_neutral v) (taken_pairs bits)) first (low_taken v bits rest)

pub low_rails : (v : ℕ → Bool) (ack : ℕ) (bits : List PortBit) → all_low v (map (λ (w : Wire). w.node) (rail_wires ack bits)) ≡ true →
    list_all (is_neutral v) (channel_pairs bits) ≡ true
low_rails v ack [] h = refl
low_rails v ack (b ∷ bits) h =
    let (first, rest) = neutral_first (v b.rail.t) (v b.rail.f) (all_low v (map (λ (w : Wire). w.node) (rail_wires ack bits))) h in
    both_of (is_neutral v b.rail) (list_all (is_neutral v) (channel_pairs bits)) first (low_rails v ack bits rest)

-- a port whose own nodes are numbered from one on
pub numbered : (request from : ℕ) (rails : List Pair) →
    owned_at (rails_of (taken_pairs (port_bits rails from))) (port_rules request (channel_pairs (port_bits rails from))) ≡
    port_owned request (rails_of rails) from
numbered request from [] = refl
numbered request from (x ∷ xs) =
    let e : from + 2 ≡ from + 1 + 1 = omega arith in
    ap (λ os. owned from (taken_rail request x.t) ∷ owned (from + 1) (taken_rail request x.f) ∷ os) (numbered request (from + 2) xs
    ∙ ap (port_owned request (rails_of xs)) e)
