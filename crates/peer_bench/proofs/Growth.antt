-- One more move of a run under a script that grows, and what further notes leave as it was.
use Rattle.std.proofs.Common.{◌≡◌, ℕ, suc, ◌<◌, ◌≤◌, Bool, cond, List, [], ◌∷◌, ◌++◌, length, refl, ap, subst, ◌∙◌, arith}
use Rattle.std.specs.Prelude.{◌==◌, nat_le}
use Rattle.std.proofs.lemmas.Bool.{le-leb, lt-leb}
use Rattle.std.proofs.lemmas.List.{append-nil}
use Rattle.std.proofs.lemmas.List.Elements.{filter-append}
use Rattle.prs_core.specs.Nets.{NetValue}
use Rattle.env_script.specs.Scripts.{OfferValue}
use Rattle.env_script.specs.Runs.{RunState, moved, after}
use Rattle.env_script.specs.Hazards.{hazard_of}
use Rattle.event_sim.specs.Following.{enabled_moves, move_at}
use Rattle.event_sim.specs.Ends.{end_with}
use Rattle.peer_bench.specs.declared.note.Note.{Note}
use Rattle.peer_bench.specs.Notes.{at_of, up_to}
use Rattle.peer_bench.specs.Growing.{script_by, script_after}
use Rattle.peer_bench.specs.Running.{Scripts, later, follow_under, ArePicksUnder, hazard_under, end_under}
use Rattle.peer_bench.specs.Benches.{bench_start, bench_moves, bench_enabled}

-- one more

pub follow_more : (net : NetValue) (s : Scripts) (st : RunState) (picks : List ℕ) (p : ℕ) →
    follow_under net s st (picks ++ p ∷ []) ≡ follow_under net s st picks
    ++ move_at net (s (length picks)) (after net st (follow_under net s st picks)) p ∷ []
follow_more net s st [] p = refl
follow_more net s st (q ∷ picks) p =
    ap (λ (ns : List ℕ). move_at net (s 0) st q ∷ ns) (follow_more net (later s) (moved net st (move_at net (s 0) st q)) picks p)

pub follow_length : (net : NetValue) (s : Scripts) (st : RunState) (picks : List ℕ) → length (follow_under net s st picks) ≡ length picks
follow_length net s st [] = refl
follow_length net s st (q ∷ picks) = ap suc (follow_length net (later s) (moved net st (move_at net (s 0) st q)) picks)

pub picks_more : (net : NetValue) (s : Scripts) (st : RunState) (picks : List ℕ) (p : ℕ) → ArePicksUnder net s st picks →
    p < length (enabled_moves net (s (length picks)) (after net st (follow_under net s st picks))) → ArePicksUnder net s st (picks ++ p ∷ [])
picks_more net s st [] p are within = (within, tt)
picks_more net s st (q ∷ picks) p are within = (are.0, picks_more net (later s) (moved net st (move_at net (s 0) st q)) picks p are.1 within)

pub hazard_more : (net : NetValue) (s : Scripts) (st : RunState) (ns : List ℕ) (n : ℕ) →
    hazard_under net s st (ns ++ n ∷ []) ≡ hazard_of net (s (length ns)) (after net st ns) n
hazard_more net s st [] n = refl
hazard_more net s st (m ∷ []) n = refl
hazard_more net s st (m ∷ k ∷ ns) n = hazard_more net (later s) (moved net st m) (k ∷ ns) n

-- only the scripts of the moments so far count

pub follow_agree : (net : NetValue) (s t : Scripts) (st : RunState) (picks : List ℕ) → ((i : ℕ) → i < length picks → s i ≡ t i) →
    follow_under net s st picks ≡ follow_under net t st picks
follow_agree net s t st [] same = refl
follow_agree net s t st (p ∷ picks) same =
    ap (λ (e : List OfferValue). move_at net e st p ∷ follow_under net (later s) (moved net st (move_at net e st p)) picks) (same 0 (omega arith))
    ∙ ap (λ (ns : List ℕ). move_at net (t 0) st p ∷ ns)
    (follow_agree net (later s) (later t) (moved net st (move_at net (t 0) st p)) picks (λ i less. same (suc i) (omega arith)))

pub picks_agree : (net : NetValue) (s t : Scripts) (st : RunState) (picks : List ℕ) → ((i : ℕ) → i < length picks → s i ≡ t i) →
    ArePicksUnder net s st picks → ArePicksUnder net t st picks
picks_agree net s t st [] same are = tt
picks_agree net s t st (p ∷ picks) same are =
    let first : s 0 ≡ t 0 = same 0 (omega arith) in (
      subst (λ (e : List OfferValue). p < length (enabled_moves net e st)) first are.0,
      picks_agree net (later s) (later t) (moved net st (move_at net (t 0) st p)) picks (λ i less. same (suc i) (omega arith))
          (subst (λ (e : List OfferValue). ArePicksUnder net (later s) (moved net st (move_at net e st p)) picks) first are.1),
    )

pub hazard_agree : (net : NetValue) (s t : Scripts) (st : RunState) (ns : List ℕ) → ((i : ℕ) → i < length ns → s i ≡ t i) →
    hazard_under net s st ns ≡ hazard_under net t st ns
hazard_agree net s t st [] same = refl
hazard_agree net s t st (n ∷ []) same = ap (λ (e : List OfferValue). hazard_of net e st n) (same 0 (omega arith))
hazard_agree net s t st (n ∷ m ∷ ns) same =
    hazard_agree net (later s) (later t) (moved net st n) (m ∷ ns) (λ i less. same (suc i) (omega arith))

pub end_agree : (net : NetValue) (s t : Scripts) (steps : ℕ) (st : RunState) (ns : List ℕ) → ((i : ℕ) → i ≤ length ns → s i ≡ t i) →
    end_under net s steps st ns ≡ end_under net t steps st ns
end_agree net s t steps st ns same =
    ap (λ h. end_with h (enabled_moves net (s (length ns)) (after net st ns)) (length ns == steps))
    (hazard_agree net s t st ns (λ i less. same i (omega arith)))
    ∙ ap (λ (e : List OfferValue). end_with (hazard_under net t st ns) (enabled_moves net e (after net st ns)) (length ns == steps))
    (same (length ns) (omega arith))

-- notes of one moment, and notes up to one

abbrev pub AreAt : ℕ → List Note → Type 0
AreAt k [] = Unit {0}
AreAt k (note ∷ notes) = (at_of note ≡ k) × AreAt k notes

abbrev pub AreUntil : ℕ → List Note → Type 0
AreUntil k [] = Unit {0}
AreUntil k (note ∷ notes) = (at_of note ≤ k) × AreUntil k notes

pub at_both : (k : ℕ) (xs ys : List Note) → AreAt k xs → AreAt k ys → AreAt k (xs ++ ys)
at_both k [] ys one two = two
at_both k (x ∷ xs) ys one two = (one.0, at_both k xs ys one.1 two)

pub until_later : (k l : ℕ) (xs : List Note) → k ≤ l → AreUntil k xs → AreUntil l xs
until_later k l [] past are = tt
until_later k l (x ∷ xs) past are = let first = are.0 in (omega arith, until_later k l xs past are.1)

pub until_at : (k : ℕ) (xs ys : List Note) → AreUntil k xs → AreAt k ys → AreUntil k (xs ++ ys)
until_at k [] [] one two = tt
until_at k [] (y ∷ ys) one two = let first = two.0 in (omega arith, until_at k [] ys one two.1)
until_at k (x ∷ xs) ys one two = (one.0, until_at k xs ys one.1 two)

pub all_until : (k : ℕ) (xs : List Note) → AreUntil k xs → up_to k xs ≡ xs
all_until k [] are = refl
all_until k (x ∷ xs) are =
    ap (λ (b : Bool). cond b (x ∷ up_to k xs) (up_to k xs)) (le-leb (at_of x) k are.0) ∙ ap (λ (ys : List Note). x ∷ ys) (all_until k xs are.1)

none_until : (k l : ℕ) (xs : List Note) → k < l → AreAt l xs → up_to k xs ≡ []
none_until k l [] less are = refl
none_until k l (x ∷ xs) less are =
    let first = are.0 in
    ap (λ (b : Bool). cond b (x ∷ up_to k xs) (up_to k xs)) (lt-leb (at_of x) k (omega arith)) ∙ none_until k l xs less are.1

-- what is noted later leaves the scripts of the moments before as they were
pub scripts_agree : (net : NetValue) (notes more : List Note) (k l : ℕ) → k < l → AreAt l more →
    script_after net (notes ++ more) k ≡ script_after net notes k
scripts_agree net notes more k l less are =
    ap (script_by net) (filter-append (λ note. nat_le (at_of note) k) notes more
    ∙ ap (λ (xs : List Note). up_to k notes ++ xs) (none_until k l more less are) ∙ append-nil (up_to k notes))

-- and the moves that are enabled after the picks till then
pub enabled_agree : (net : NetValue) (notes more : List Note) (picks : List ℕ) (l : ℕ) → length picks < l → AreAt l more →
    bench_enabled net (notes ++ more) picks ≡ bench_enabled net notes picks
enabled_agree net notes more picks l less are =
    ap (λ (e : List OfferValue). enabled_moves net e (after net (bench_start net) (bench_moves net (notes ++ more) picks)))
    (scripts_agree net notes more (length picks) l less are)
    ∙ ap (λ (ns : List ℕ). enabled_moves net (script_after net notes (length picks)) (after net (bench_start net) ns))
    (follow_agree net (script_after net (notes ++ more)) (script_after net notes) (bench_start net) picks
    (λ i within. scripts_agree net notes more i l (omega arith) are))

-- and the script of the last moment is that of all notes
pub script_now : (net : NetValue) (notes : List Note) (k : ℕ) → AreUntil k notes → script_after net notes k ≡ script_by net notes
script_now net notes k are = ap (script_by net) (all_until k notes are)
