-- Where the bits of a variable are, and what a move does to one of them.
use Rattle.std.proofs.Common.{◌≡◌, ◌≢◌, ℕ, zero, suc, ◌+◌, ◌*◌, ◌≤◌, ◌<◌, Bool, true, List, [], ◌∷◌, map, Contains, refl, sym, ap, subst, arith, ◌⊎◌, inl, inr}
use Rattle.std.specs.Prelude.{not, ◌&&◌}
use Rattle.std.specs.List.{flat_map, list_all}
use Rattle.std.proofs.lemmas.List.Elements.{Contains-append_left, Contains-append_right, Contains-append_cases}
use Rattle.prs_core.specs.Nets.{NodeRules}
use Rattle.prs_core.specs.Pairs.{rails_of}
use Rattle.prs_core.specs.Parts.{Owned, owned, owned_from, turned, all_low, is_valid}
use Rattle.prs_core.specs.Turning.{turned_here, turned_apart, among_cases, none_among}
use Rattle.prs_core.specs.Deciding.{left_of, right_of, both_of}
use Rattle.cell_variable.specs.Variables.{Bit, bit_at, bits_from, written_leaves}
use Rattle.cell_variable.specs.VariableParts.{has_written}
use Rattle.cell_variable.proofs.BitTable.{Now, now_of, Role, rail_t, rail_f, write_t, write_f, written, turn, valid, has_value}

-- a bit of the variable begins at the node
abbrev pub IsBit : (width from : ℕ) → ℕ → Type 0
IsBit width from s = (i : ℕ) × (i < width) × (s ≡ from + 5 * i)

abbrev pub place : Role → ℕ → ℕ
place rail_t s = s
place rail_f s = s + 1
place write_t s = s + 2
place write_f s = s + 3
place written s = s + 4

-- the values at the bit, beside that of the acknowledge
abbrev pub now : (v : ℕ → Bool) → Bool → ℕ → Now
now v ack s = now_of (v s) (v (s + 1)) (v (s + 2)) (v (s + 3)) (v (s + 4)) ack

shifted : (n from s : ℕ) → IsBit n (from + 5) s → IsBit (suc n) from s
shifted n from s (i, less, at) = (suc i, omega arith, omega (arith, at))

-- lists with some members for each bit
pub bits_among : {X : Type 0} (f : Bit → List X) (width from : ℕ) (x : X) → Contains (flat_map f (bits_from width from)) x →
    (s : ℕ) × IsBit width from s × Contains (f (bit_at s)) x
bits_among f zero from x among = absurd (none_among x among)
bits_among f (suc n) from x among = by (Contains-append_cases (f (bit_at from)) (flat_map f (bits_from n (from + 5))) x among) (bits_among f n (from + 5) x)
  where
    by : Contains (f (bit_at from)) x ⊎ Contains (flat_map f (bits_from n (from + 5))) x →
        (Contains (flat_map f (bits_from n (from + 5))) x → (s : ℕ) × IsBit n (from + 5) s × Contains (f (bit_at s)) x) →
        (s : ℕ) × IsBit (suc n) from s × Contains (f (bit_at s)) x
    by (inl here) rest = (from, (0, omega arith, omega arith), here)
    by (inr there) rest =
        let (s, bit, among) = rest there in
        (s, shifted n from s bit, among)

pub among_bits : {X : Type 0} (f : Bit → List X) (width from : ℕ) (x : X) (s : ℕ) → IsBit width from s → Contains (f (bit_at s)) x →
    Contains (flat_map f (bits_from width from)) x
among_bits f zero from x s (i, less, at) here = absurd (omega arith)
among_bits f (suc n) from x s (zero, less, at) here =
    let first : s ≡ from = omega (arith, at) in
    Contains-append_left (f (bit_at from)) (flat_map f (bits_from n (from + 5))) x (subst (λ k. Contains (f (bit_at k)) x) first here)
among_bits f (suc n) from x s (suc i, less, at) here =
    Contains-append_right (f (bit_at from)) (flat_map f (bits_from n (from + 5))) x (among_bits f n (from + 5) x s (i, omega arith, omega (arith, at)) here)

pub leaf_bit : (width from leaf : ℕ) → Contains (written_leaves width from) leaf → (s : ℕ) × IsBit width from s × (leaf ≡ s + 4)
leaf_bit zero from leaf among = absurd (none_among leaf among)
leaf_bit (suc n) from leaf among = by (among_cases (from + 4) (written_leaves n (from + 5)) leaf among) (leaf_bit n (from + 5) leaf)
  where
    by : (from + 4 ≡ leaf) ⊎ Contains (written_leaves n (from + 5)) leaf →
        (Contains (written_leaves n (from + 5)) leaf → (s : ℕ) × IsBit n (from + 5) s × (leaf ≡ s + 4)) → (s : ℕ) × IsBit (suc n) from s × (leaf ≡ s + 4)
    by (inl e) rest = (from, (0, omega arith, omega arith), sym e)
    by (inr there) rest =
        let (s, bit, at) = rest there in
        (s, shifted n from s bit, at)

pub bit_leaf : (width from s : ℕ) → IsBit width from s → Contains (written_leaves width from) (s + 4)
bit_leaf zero from s (i, less, at) = absurd (omega arith)
bit_leaf (suc n) from s (zero, less, at) = (0, omega arith, omega (arith, at))
bit_leaf (suc n) from s (suc i, less, at) =
    Contains-append_right ((from + 4) ∷ []) (written_leaves n (from + 5)) (s + 4) (bit_leaf n (from + 5) s (i, omega arith, omega (arith, at)))

-- what holds of each bit, over the lists
pub low_writes : (v : ℕ → Bool) (width from : ℕ) → ((s : ℕ) → IsBit width from s → (not (v (s + 2)) && not (v (s + 3))) ≡ true) →
    all_low v (rails_of (map (λ (b : Bit). b.w) (bits_from width from))) ≡ true
low_writes v zero from each = refl
low_writes v (suc n) from each =
    let rest = low_writes v n (from + 5) (λ s bit. each s (shifted n from s bit)) in
    let here = each from (0, omega arith, omega arith) in
    both_of _ _ (left_of _ _ here) (both_of _ _ (right_of (not (v (from + 2))) _ here) rest)

pub writes_low : (v : ℕ → Bool) (width from : ℕ) → all_low v (rails_of (map (λ (b : Bit). b.w) (bits_from width from))) ≡ true → (s : ℕ) → IsBit width from s →
    (not (v (s + 2)) && not (v (s + 3))) ≡ true
writes_low v zero from h s (i, less, at) = absurd (omega arith)
writes_low v (suc n) from h s (zero, less, at) =
    let first : s ≡ from = omega (arith, at) in
    let rest = right_of (not (v (from + 2))) (not (v (from + 3)) && all_low v (rails_of (map (λ (b : Bit). b.w) (bits_from n (from + 5))))) h in
    subst (λ k. (not (v (k + 2)) && not (v (k + 3))) ≡ true) (sym first) (both_of _ _ (left_of (not (v (from + 2))) _ h) (left_of (not (v (from + 3))) _ rest))
writes_low v (suc n) from h s (suc i, less, at) =
    let rest = right_of (not (v (from + 2))) (not (v (from + 3)) && all_low v (rails_of (map (λ (b : Bit). b.w) (bits_from n (from + 5))))) h in
    writes_low v n (from + 5) (right_of (not (v (from + 3))) _ rest) s (i, omega arith, omega (arith, at))

pub valid_bits : (v : ℕ → Bool) (width from : ℕ) → ((s : ℕ) → IsBit width from s → valid (v s) (v (s + 1)) ≡ true) →
    list_all (is_valid v) (map (λ (b : Bit). b.x) (bits_from width from)) ≡ true
valid_bits v zero from each = refl
valid_bits v (suc n) from each = both_of _ _ (each from (0, omega arith, omega arith)) (valid_bits v n (from + 5) (λ s bit. each s (shifted n from s bit)))

pub bits_valid : (v : ℕ → Bool) (width from : ℕ) → list_all (is_valid v) (map (λ (b : Bit). b.x) (bits_from width from)) ≡ true → (s : ℕ) → IsBit width from s →
    valid (v s) (v (s + 1)) ≡ true
bits_valid v zero from h s (i, less, at) = absurd (omega arith)
bits_valid v (suc n) from h s (zero, less, at) =
    let first : s ≡ from = omega (arith, at) in
    subst (λ k. valid (v k) (v (k + 1)) ≡ true) (sym first) (left_of (valid (v from) (v (from + 1))) _ h)
bits_valid v (suc n) from h s (suc i, less, at) = bits_valid v n (from + 5) (right_of (valid (v from) (v (from + 1))) _ h) s (i, omega arith, omega (arith, at))

pub all_written_bits : (v : ℕ → Bool) (ack : Bool) (width from : ℕ) → ((s : ℕ) → IsBit width from s → has_value (now v ack s) ≡ true) →
    list_all (has_written v) (bits_from width from) ≡ true
all_written_bits v ack zero from each = refl
all_written_bits v ack (suc n) from each =
    both_of _ _ (each from (0, omega arith, omega arith)) (all_written_bits v ack n (from + 5) (λ s bit. each s (shifted n from s bit)))

-- what a move leaves of a bit's values
pub record Five (w : ℕ → Bool) (s : ℕ) (n : Now) : Type 0 where
  pub xt : w s ≡ n.xt
  pub xf : w (s + 1) ≡ n.xf
  pub wt : w (s + 2) ≡ n.wt
  pub wf : w (s + 3) ≡ n.wf
  pub wa : w (s + 4) ≡ n.wa

pub carry : (p : Now → Bool) (w : ℕ → Bool) (s : ℕ) (n : Now) (ack : Bool) → Five w s n → ack ≡ n.va → p n ≡ true → p (now w ack s) ≡ true
carry p w s n ack f e h =
    subst (λ x. p (now_of x (w (s + 1)) (w (s + 2)) (w (s + 3)) (w (s + 4)) ack) ≡ true) (sym f.xt)
    (subst (λ x. p (now_of n.xt x (w (s + 2)) (w (s + 3)) (w (s + 4)) ack) ≡ true) (sym f.xf)
    (subst (λ x. p (now_of n.xt n.xf x (w (s + 3)) (w (s + 4)) ack) ≡ true) (sym f.wt)
    (subst (λ x. p (now_of n.xt n.xf n.wt x (w (s + 4)) ack) ≡ true) (sym f.wf)
    (subst (λ x. p (now_of n.xt n.xf n.wt n.wf x ack) ≡ true) (sym f.wa)
    (subst (λ x. p (now_of n.xt n.xf n.wt n.wf n.wa x) ≡ true) (sym e) h)))))

pub five_at : (v : ℕ → Bool) (ack : Bool) (s : ℕ) (k : Role) → Five (turned v (place k s)) s (turn k (now v ack s))
five_at v ack s rail_t = record {
  xt = turned_here v s;
  xf = turned_apart v s (s + 1) (λ e. omega (arith, e));
  wt = turned_apart v s (s + 2) (λ e. omega (arith, e));
  wf = turned_apart v s (s + 3) (λ e. omega (arith, e));
  wa = turned_apart v s (s + 4) (λ e. omega (arith, e));
}
five_at v ack s rail_f = record {
  xt = turned_apart v (s + 1) s (λ e. omega (arith, e));
  xf = turned_here v (s + 1);
  wt = turned_apart v (s + 1) (s + 2) (λ e. omega (arith, e));
  wf = turned_apart v (s + 1) (s + 3) (λ e. omega (arith, e));
  wa = turned_apart v (s + 1) (s + 4) (λ e. omega (arith, e));
}
five_at v ack s write_t = record {
  xt = turned_apart v (s + 2) s (λ e. omega (arith, e));
  xf = turned_apart v (s + 2) (s + 1) (λ e. omega (arith, e));
  wt = turned_here v (s + 2);
  wf = turned_apart v (s + 2) (s + 3) (λ e. omega (arith, e));
  wa = turned_apart v (s + 2) (s + 4) (λ e. omega (arith, e));
}
five_at v ack s write_f = record {
  xt = turned_apart v (s + 3) s (λ e. omega (arith, e));
  xf = turned_apart v (s + 3) (s + 1) (λ e. omega (arith, e));
  wt = turned_apart v (s + 3) (s + 2) (λ e. omega (arith, e));
  wf = turned_here v (s + 3);
  wa = turned_apart v (s + 3) (s + 4) (λ e. omega (arith, e));
}
five_at v ack s written = record {
  xt = turned_apart v (s + 4) s (λ e. omega (arith, e));
  xf = turned_apart v (s + 4) (s + 1) (λ e. omega (arith, e));
  wt = turned_apart v (s + 4) (s + 2) (λ e. omega (arith, e));
  wf = turned_apart v (s + 4) (s + 3) (λ e. omega (arith, e));
  wa = turned_here v (s + 4);
}

-- the node isn't at the bit
abbrev pub IsBeside : (s node : ℕ) → Type 0
IsBeside s node = (node < s) ⊎ (s + 5 ≤ node)

beside : (s node j : ℕ) → IsBeside s node → j < 5 → s + j ≢ node
beside s node j (inl before) less e = omega (arith, before, e)
beside s node j (inr behind) less e = omega (arith, behind, less, e)

pub five_beside : (v : ℕ → Bool) (ack : Bool) (s node : ℕ) → IsBeside s node → Five (turned v node) s (now v ack s)
five_beside v ack s node far = record {
  xt = turned_apart v node s (λ e. beside s node 0 far (omega arith) (omega (arith, e)));
  xf = turned_apart v node (s + 1) (beside s node 1 far (omega arith));
  wt = turned_apart v node (s + 2) (beside s node 2 far (omega arith));
  wf = turned_apart v node (s + 3) (beside s node 3 far (omega arith));
  wa = turned_apart v node (s + 4) (beside s node 4 far (omega arith));
}

-- nodes that are numbered from one on are not before it
pub not_before : (from : ℕ) (rs : List NodeRules) (o : Owned) → Contains (owned_from from rs) o → from ≤ o.node
not_before from [] o among = absurd (none_among o among)
not_before from (r ∷ rs) o among = by (among_cases (owned from r) (owned_from (from + 1) rs) o among) (not_before (from + 1) rs o)
  where
    by : (owned from r ≡ o) ⊎ Contains (owned_from (from + 1) rs) o → (Contains (owned_from (from + 1) rs) o → from + 1 ≤ o.node) → from ≤ o.node
    by (inl e) rest = let same : from ≡ o.node = ap (λ (x : Owned). x.node) e in omega (arith, same)
    by (inr there) rest = let behind : from + 1 ≤ o.node = rest there in omega (arith, behind)
