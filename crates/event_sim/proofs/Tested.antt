-- What the two guards of a node say of its moves.
use Rattle.std.proofs.Common.{◌≡◌, ℕ, ◌+◌, ◌<◌, Bool, true, false, cond, List, [], ◌∷◌, ◌++◌, length, get_or, take, refl, sym, ap, subst, ◌∙◌, arith}
use Rattle.std.specs.Prelude.{◌&&◌, ◌||◌, All}
use Rattle.std.specs.List.{range_with_len}
use Rattle.std.proofs.lemmas.List.{take_more, map-append, length-map, get_or-map}
use Rattle.std.proofs.lemmas.List.Elements.{All-filter}
use Rattle.prs_core.specs.Nets.{NetValue, up_of, down_of}
use Rattle.prs_core.specs.Moves.{guard_holds, rule_enabled, both_ways}
use Rattle.prs_core.specs.Fans.{is_reader, readers_below}
use Rattle.guard_rows.specs.Places.{readers_in}
use Rattle.event_sim.specs.Locality.{IndexedValue, is_asked}
use Rattle.event_sim.proofs.Following.{range_below}

pub rule_by : (net : NetValue) (v : ℕ → Bool) (n : ℕ) (is_high up down : Bool) → is_high ≡ v n → up ≡ guard_holds v (up_of net n) →
    down ≡ guard_holds v (down_of net n) → cond is_high down up ≡ rule_enabled net v n
rule_by net v n is_high up down now raises lowers = rw (now, raises, lowers) refl

-- where the environment doesn't move the node
pub rule_alone : (a b : Bool) → b ≡ false → a ≡ (a || b)
rule_alone true b none = refl
rule_alone false b none = sym none

pub both_by : (net : NetValue) (v : ℕ → Bool) (n : ℕ) (up down : Bool) → up ≡ guard_holds v (up_of net n) → down ≡ guard_holds v (down_of net n) →
    (up && down) ≡ both_ways net v n
both_by net v n up down raises lowers = rw (raises, lowers) refl

-- the reader of one edge more
pub reader_more : (es : List (ℕ × ℕ)) (i : ℕ) → i < length es → readers_in (take (i + 1) es) ≡ readers_in (take i es) ++ (get_or es i (0, 0)).0 ∷ []
reader_more es i within = ap readers_in (take_more es i (0, 0) within) ∙ map-append (λ (e : ℕ × ℕ). e.0) (take i es) (get_or es i (0, 0) ∷ [])

pub reader_within : (count : ℕ) (es : List (ℕ × ℕ)) (i : ℕ) → All (λ n. n < count) (readers_in es) → i < length es → (get_or es i (0, 0)).0 < count
reader_within count es i all within =
    subst (λ n. n < count) (get_or-map (λ (e : ℕ × ℕ). e.0) es i (0, 0) 0 within)
    (all i 0 (omega (arith, within, length-map es (λ (e : ℕ × ℕ). e.0))))

pub unasked_there : (x : IndexedValue) (done : List ℕ) (values : List Bool) (es : List (ℕ × ℕ)) (i : ℕ) →
    All (λ n. is_asked x done values n ≡ false) (readers_in es) → i < length es → is_asked x done values (get_or es i (0, 0)).0 ≡ false
unasked_there x done values es i all within =
    subst (λ n. is_asked x done values n ≡ false) (get_or-map (λ (e : ℕ × ℕ). e.0) es i (0, 0) 0 within)
    (all i 0 (omega (arith, within, length-map es (λ (e : ℕ × ℕ). e.0))))

pub readers_within : (net : NetValue) (n : ℕ) (readers : List ℕ) → readers ≡ readers_below net (length net.first) n →
    All (λ m. m < length net.first) readers
readers_within net n readers are =
    subst (λ (xs : List ℕ). All (λ m. m < length net.first) xs) (sym are)
    (All-filter (is_reader net n) (λ m. m < length net.first) (range_with_len 0 (length net.first)) (range_below (length net.first)))
