-- Chains of causes.
use Rattle.std.proofs.Common.{◌≡◌, ℕ, zero, suc, ◌+◌, ◌-◌, ◌<◌, ◌≤◌, Bool, List, [], ◌∷◌, ◌++◌, length, get_or, reverse, refl, sym, ap, subst, ◌∙◌, arith}
use Rattle.std.specs.List.{flat_map}
use Rattle.std.proofs.lemmas.List.{append_assoc, append-nil, get_or-map}
use Rattle.std.proofs.lemmas.List.Sums.{sum_by-cons}
use Rattle.delay_script.specs.declared.noted.NotedMove.{NotedMove}
use Rattle.delay_script.specs.DelayTables.{DelayTable}
use Rattle.delay_script.specs.TimedRuns.{time_behind}
use Rattle.wave_file.specs.CauseChains.{cause_at, own_delay, AreCaused, IsCauseChain, at_start, by_cause, delays_together, cause_line_at, end_time_line, causes_spelling, TellsCauses}

-- ---- the delays add up

pub adds_up : (d : DelayTable) (given : List Bool) (ms : List NotedMove) → AreCaused d given ms → (number : ℕ) (places : List ℕ) →
    IsCauseChain ms number places → delays_together d given ms places ≡ time_behind ms number
adds_up d given ms are number places at_start = refl
adds_up d given ms are number places (by_cause {place = k} {places = ps} within rest) =
    sum_by-cons (own_delay d given ms) k ps
    ∙ ap (λ (t : ℕ). own_delay d given ms k + t) (adds_up d given ms are (cause_at ms k) ps rest)
    ∙ swapped (own_delay d given ms k) (time_behind ms (cause_at ms k)) ∙ sym (are.later k within)
  where
    swapped : (a b : ℕ) → a + b ≡ b + a
    swapped a b = omega arith

-- ---- there is one chain

pub same_chain : (ms : List NotedMove) (n m : ℕ) (a b : List ℕ) → n ≡ m → IsCauseChain ms n a → IsCauseChain ms m b → a ≡ b
same_chain ms n m a b same at_start at_start = refl
same_chain ms n m a b same at_start (by_cause within rest) = absurd (omega arith)
same_chain ms n m a b same (by_cause within rest) at_start = absurd (omega arith)
same_chain ms n m a b same (by_cause {place = k} {places = ps} within rest) (by_cause {place = j} {places = qs} also more) =
    let at : k ≡ j = omega arith in
    ap (λ (x : ℕ). x ∷ ps) at ∙ ap (λ (xs : List ℕ). j ∷ xs) (same_chain ms (cause_at ms k) (cause_at ms j) ps qs (ap (cause_at ms) at) rest more)

pub one_text : (names : List (List ℕ)) (d : DelayTable) (given : List Bool) (ms : List NotedMove) (a b : List ℕ) → TellsCauses names d given ms a →
    TellsCauses names d given ms b → a ≡ b
one_text names d given ms a b one two =
    one.told_causes ∙ ap (causes_spelling names d given ms) (same_chain ms (length ms) (length ms) one.places two.places refl one.chain two.chain)
    ∙ sym two.told_causes

-- ---- walking back from the last move

-- these places are of the moves by which the last one came, up to the one of this number
abbrev pub IsBackTo : List NotedMove → ℕ → List ℕ → Type 0
IsBackTo ms number places = (rest : List ℕ) → IsCauseChain ms number rest → IsCauseChain ms (length ms) (places ++ rest)

pub back_more : (ms : List NotedMove) (number : ℕ) (places : List ℕ) (m d : NotedMove) → 0 < number → number ≤ length ms → m ≡ get_or ms (number - 1) d →
    IsBackTo ms number places → IsBackTo ms m.cause (places ++ (number - 1) ∷ [])
back_more ms number places m d some within is back = λ rest chain.
    subst (λ (xs : List ℕ). IsCauseChain ms (length ms) xs) (sym (append_assoc places ((number - 1) ∷ []) rest))
    (back ((number - 1) ∷ rest) (subst (λ (n : ℕ). IsCauseChain ms n ((number - 1) ∷ rest)) one_less
    (by_cause inside (subst (λ (n : ℕ). IsCauseChain ms n rest) (cause_is ms (number - 1) m d inside is) chain))))
  where
    one_less : number - 1 + 1 ≡ number
    one_less = omega arith

    inside : number - 1 < length ms
    inside = omega arith

    cause_is : (xs : List NotedMove) (k : ℕ) (x e : NotedMove) → k < length xs → x ≡ get_or xs k e → x.cause ≡ cause_at xs k
    cause_is xs k x e below there = ap (λ (y : NotedMove). y.cause) there ∙ sym (get_or-map (λ (y : NotedMove). y.cause) xs k e 0 below)

pub back_whole : (ms : List NotedMove) (number : ℕ) (places : List ℕ) → number ≡ 0 → IsBackTo ms number places → IsCauseChain ms (length ms) places
back_whole ms number places none back =
    subst (λ (xs : List ℕ). IsCauseChain ms (length ms) xs) (append-nil places)
    (back [] (subst (λ (n : ℕ). IsCauseChain ms n []) (sym none) at_start))

-- the places are within
pub chain_within : (ms : List NotedMove) (number : ℕ) (places : List ℕ) → IsCauseChain ms number places → (i d : ℕ) → i < length places →
    get_or places i d < length ms
chain_within ms number places at_start i d below = absurd (omega arith)
chain_within ms number places (by_cause within rest) zero d below = within
chain_within ms number places (by_cause {place = k} {places = ps} within rest) (suc i) d below =
    chain_within ms (cause_at ms k) ps rest i d (omega arith)

-- ---- going through a list from its end

-- ---- the whole text

pub causes_told : (names : List (List ℕ)) (d : DelayTable) (given : List Bool) (ms : List NotedMove) (places lines text : List ℕ) (time : ℕ) →
    AreCaused d given ms → IsCauseChain ms (length ms) places → time ≡ time_behind ms (length ms) →
    lines ≡ flat_map (cause_line_at names d given ms) (reverse places) → text ≡ lines ++ end_time_line time → TellsCauses names d given ms text
causes_told names d given ms places lines text time are chain ends told is = record {
  places = places;
  chain = chain;
  told_causes = is ∙ ap (λ (t : List ℕ). t ++ end_time_line time) told
      ∙ ap (λ (u : ℕ). flat_map (cause_line_at names d given ms) (reverse places) ++ end_time_line u) ends;
  adds_up = adds_up d given ms are (length ms) places chain;
}

-- ---- a cause is below its move

pub cause_below : (ms : List NotedMove) (n : ℕ) (d : NotedMove) → ((place : ℕ) → place < length ms → cause_at ms place ≤ place) → 0 < n → n ≤ length ms →
    (get_or ms (n - 1) d).cause < n
cause_below ms n d below some within =
    let inside : n - 1 < length ms = omega arith in
    omega (arith, some, below (n - 1) inside, get_or-map (λ (m : NotedMove). m.cause) ms (n - 1) d 0 inside)
