-- What the calls are lent: lists and nodes that are within the rules as the calls before have left them.
use Rattle.std.proofs.Common.{◌≡◌, ℕ, ◌<◌, ◌*◌, List, ◌∷◌, All, length, arith, ap, sym, ◌∙◌, subst}
use Rattle.cell_select.specs.PortNodes.{AreBranches}

pub below_still : (n a b : ℕ) → b ≡ a → n < a → n < b
below_still n a b same lt = subst (λ k. n < k) (sym same) lt

pub lent_within : (a b : ℕ) (ns ms : List ℕ) → b ≡ a → ms ≡ ns → All (λ n. n < a) ns → All (λ n. n < b) ms
lent_within a b ns ms same lent h = subst (λ k. All (λ n. n < k) ms) (sym same) (subst (All (λ n. n < a)) (sym lent) h)

pub lent_twice : (rs rails ls latches : List ℕ) → rails ≡ rs → latches ≡ ls → length rs ≡ 2 * length ls → length rails ≡ 2 * length latches
lent_twice rs rails ls latches r l twice = ap (λ (ns : List ℕ). length ns) r ∙ twice ∙ ap (λ (ns : List ℕ). 2 * length ns) (sym l)

pub lent_same : (ss starts ls latches : List ℕ) → starts ≡ ss → latches ≡ ls → length ss ≡ length ls → length starts ≡ length latches
lent_same ss starts ls latches s l same = ap (λ (ns : List ℕ). length ns) s ∙ same ∙ ap (λ (ns : List ℕ). length ns) (sym l)

pub some_latch : (ls ss ans rails : List ℕ) → AreBranches ls ss ans rails → 0 < length ls
some_latch ls ss ans rails are = let some = are.some in omega (arith, some)

pub lent_some : (ns ms : List ℕ) → ms ≡ ns → 0 < length ns → 0 < length ms
lent_some ns ms lent some = subst (λ (xs : List ℕ). 0 < length xs) (sym lent) some

pub all_lent : (leave : ℕ) (ls lent all view : List ℕ) → lent ≡ ls → all ≡ leave ∷ lent → view ≡ all → view ≡ leave ∷ ls
all_lent leave ls lent all view l a v = v ∙ a ∙ ap (λ (xs : List ℕ). leave ∷ xs) l

-- what is said of two lists or three, of the lists that they are lent
pub of_two : (P : List ℕ → List ℕ → Type 0) {xs us ys vs : List ℕ} → us ≡ xs → vs ≡ ys → P us vs → P xs ys
of_two P {xs} {us} {ys} {vs} first second h = subst (P xs) second (subst (λ ns. P ns vs) first h)

pub of_three : (P : List ℕ → List ℕ → List ℕ → Type 0) {xs us ys vs zs ws : List ℕ} → us ≡ xs → vs ≡ ys → ws ≡ zs → P us vs ws → P xs ys zs
of_three P {xs} {us} {ys} {vs} {zs} {ws} first second third h = subst (P xs ys) third (of_two (λ ns ms. P ns ms ws) first second h)
