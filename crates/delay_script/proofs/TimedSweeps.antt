-- A timed run whose delays are at most `most`, and whose last move comes after k times that, begins with k sweeps.
--
-- before, cur: the moves so far; ms: those that come next; from: a time at which all the moves so far have come.
use Rattle.std.proofs.Common.{◌≡◌, ℕ, zero, suc, ◌+◌, ◌*◌, ◌<◌, ◌≤◌, true, List, [], ◌∷◌, ◌++◌, length, refl, sym, ap, subst, ◌∙◌, append_assoc, append-nil, inl, inr, arith}
use Rattle.std.specs.Prelude.{◌⊎◌, map, slice_index}
use Rattle.std.proofs.lemmas.Bool.{cases_lt, cases_eq}
use Rattle.std.proofs.lemmas.List.{length-append, length-map}
use Rattle.prs_core.specs.Nets.{NetValue}
use Rattle.prs_core.specs.Moves.{high}
use Rattle.env_script.specs.Scripts.{OfferValue}
use Rattle.env_script.specs.Runs.{RunState, move_enabled, moved, after}
use Rattle.env_script.specs.OneLength.{AllSafe}
use Rattle.env_script.specs.Sweeps.{Sweeps}
use Rattle.env_script.proofs.Fronts.{safe_move, safe_behind}
use Rattle.env_script.proofs.Overtakes.{Among, contained, after_on}
use Rattle.delay_script.specs.declared.noted.NotedMove.{NotedMove}
use Rattle.delay_script.specs.DelayTables.{DelayTable, TakesAtMost}
use Rattle.delay_script.specs.TimedRuns.{moved_nodes, time_behind, due_time, ComesNoLater, IsNextMove, ComeNext, IsTimedRun}
use Rattle.delay_script.specs.Causes.{IsEnabledSince}
use Rattle.delay_script.proofs.Sinces.{is_enabled, still, some_cause}
use Rattle.delay_script.proofs.Coming.{nodes_more, time_front, time_last}
use Rattle.delay_script.proofs.InTime.{next_within}

-- the time of the last of the moves, or this one where there is none
abbrev last_time : ℕ → List NotedMove → ℕ
last_time t [] = t
last_time t (m ∷ ms) = last_time m.time ms

-- the moves up to a time, and those from the first one on that comes later
record Split (limit t : ℕ) (ms : List NotedMove) : Type 0 where
  sweep : List NotedMove
  next : NotedMove
  more : List NotedMove
  same : ms ≡ sweep ++ next ∷ more
  late : limit < next.time
  early : (m : NotedMove) (xs ys : List NotedMove) → sweep ≡ xs ++ m ∷ ys → m.time ≤ limit
  end : last_time t ms ≡ last_time next.time more

split : (limit t : ℕ) (ms : List NotedMove) → t ≤ limit → limit < last_time t ms → Split limit t ms
split limit t [] few far = absurd (omega (arith, few, far))
split limit t (m ∷ ms) few far = by (cases_lt limit m.time) (λ within. split limit m.time ms within far)
  where
    by : (limit < m.time) ⊎ (m.time ≤ limit) → (m.time ≤ limit → Split limit m.time ms) → Split limit t (m ∷ ms)
    by (inl late) rest = record { sweep = []; next = m; more = ms; same = refl; late = late; early = none; end = refl }
      where
        none : (x : NotedMove) (xs ys : List NotedMove) → [] ≡ xs ++ x ∷ ys → x.time ≤ limit
        none x [] ys e = absurd (cc e)
        none x (y ∷ xs) ys e = absurd (cc e)
    by (inr within) rest =
        let r = rest within in
        record { sweep = m ∷ r.sweep; next = r.next; more = r.more; same = ap (λ l. m ∷ l) r.same; late = r.late; early = here r; end = r.end }
      where
        here : (r : Split limit m.time ms) (x : NotedMove) (xs ys : List NotedMove) → m ∷ r.sweep ≡ xs ++ x ∷ ys → x.time ≤ limit
        here r x [] ys e = subst (λ (y : NotedMove). y.time ≤ limit) (first e) within
          where
            first : m ∷ r.sweep ≡ x ∷ ys → m ≡ x
            first e = cc e
        here r x (y ∷ xs) ys e = r.early x xs ys (rest_of e)
          where
            rest_of : m ∷ r.sweep ≡ y ∷ (xs ++ x ∷ ys) → r.sweep ≡ xs ++ x ∷ ys
            rest_of e = cc e

module _ (most : ℕ) (d : DelayTable) (few : TakesAtMost most d) (net : NetValue) (script : List OfferValue) (st : RunState) where
  abbrev at : List NotedMove → RunState
  at cur = after net st (moved_nodes cur)

  -- the state after one more move
  at_more : (cur : List NotedMove) (x : NotedMove) → at (cur ++ x ∷ []) ≡ moved net (at cur) x.node
  at_more cur x = ap (after net st) (nodes_more cur x) ∙ after_on net script st (moved_nodes cur) (x.node ∷ [])

  moves_next : (cur : List NotedMove) (x : NotedMove) → IsNextMove d net script st cur x → move_enabled net script (at cur) x.node ≡ true
  moves_next cur x next = is_enabled net script st (moved_nodes cur) x.node x.cause next.cause

  safe_more : (cur : List NotedMove) (x : NotedMove) → IsNextMove d net script st cur x → AllSafe net script (at cur) → AllSafe net script (at (cur ++ x ∷ []))
  safe_more cur x next all = subst (λ (s : RunState). AllSafe net script s) (sym (at_more cur x))
      (safe_behind net script (at cur) x.node all (moves_next cur x next))

  -- a node that is enabled moves before a move that comes too late for it
  moves_soon : (from : ℕ) (cur s : List NotedMove) (late : NotedMove) (more : List NotedMove) (n number : ℕ) → AllSafe net script (at cur)
      → ComeNext d net script st cur (s ++ late ∷ more) → IsEnabledSince net script st (moved_nodes cur) n number → number ≤ length cur
      → time_behind cur number ≤ from → from + most < late.time → Among (moved_nodes s) n
  moves_soon from cur [] late more n number all next since within early far = by (next.0.first n number since)
    where
      by : ComesNoLater late.time late.node (due_time d net st cur number n) n → Among [] n
      by (inl less) = let w = next_within most d few (high (at cur).values) n in absurd (let g : ⊥ = omega (arith, less, w, early, far) in g)
      by (inr same) = let w = next_within most d few (high (at cur).values) n in let e = same.0 in absurd (let g : ⊥ = omega (arith, e, w, early, far) in g)
  moves_soon from cur (x ∷ s) late more n number all next since within early far = by (cases_eq n x.node)
      (λ ne. moves_soon from (cur ++ x ∷ []) s late more n number (safe_more cur x next.0 all) next.1 (since_more ne)
      (let a = length-append cur (x ∷ []) in omega (arith, within, a)) (let e = time_front cur x number within in omega (arith, e, early)) far)
    where
      since_more : (n ≡ x.node → ⊥) → IsEnabledSince net script st (moved_nodes (cur ++ x ∷ [])) n number
      since_more ne =
          let on = is_enabled net script st (moved_nodes cur) n number since in
          let stays = (safe_move net script (at cur) x.node all (moves_next cur x next.0)).stable n ne on in
          subst (λ (ns : List ℕ). IsEnabledSince net script st ns n number) (sym (nodes_more cur x))
          (still net script st (moved_nodes cur) x.node n number since ne
          (ap (λ (s : RunState). move_enabled net script s n) (after_on net script st (moved_nodes cur) (x.node ∷ [])) ∙ stays))

      by : (n ≡ x.node) ⊎ (n ≡ x.node → ⊥) → ((n ≡ x.node → ⊥) → Among (moved_nodes s) n) → Among (moved_nodes (x ∷ s)) n
      by (inl e) rest = inl (sym e)
      by (inr ne) rest = inr (rest ne)

  nodes_on : (xs ys : List NotedMove) → moved_nodes (xs ++ ys) ≡ moved_nodes xs ++ moved_nodes ys
  nodes_on [] ys = refl
  nodes_on (x ∷ xs) ys = ap (λ l. x.node ∷ l) (nodes_on xs ys)

  -- all times so far
  abbrev Come : ℕ → List NotedMove → Type 0
  Come from cur = (number : ℕ) → number ≤ length cur → time_behind cur number ≤ from

  come_more : (from : ℕ) (cur : List NotedMove) (x : NotedMove) → Come from cur → x.time ≤ from → Come from (cur ++ x ∷ [])
  come_more from cur x come early number within = by (cases_lt number (length cur + 1))
    where
      by : (number < length cur + 1) ⊎ (length cur + 1 ≤ number) → time_behind (cur ++ x ∷ []) number ≤ from
      by (inl less) =
          let same = time_front cur x number (omega (arith, less)) in
          let e = come number (omega (arith, less)) in
          omega (arith, same, e)
      by (inr past) =
          let count = length-append cur (x ∷ []) in
          let last : number ≡ length cur + 1 = omega (arith, within, past, count) in
          let same : time_behind (cur ++ x ∷ []) number ≡ x.time = ap (time_behind (cur ++ x ∷ [])) last ∙ time_last cur x in
          omega (arith, same, early)

  -- behind a sweep
  record Behind (from : ℕ) (cur : List NotedMove) (ms : List NotedMove) : Type 0 where
    all : AllSafe net script (at cur)
    come : Come from cur
    next : ComeNext d net script st cur ms

  behind : (from : ℕ) (cur s rest : List NotedMove) → AllSafe net script (at cur) → Come from cur → ComeNext d net script st cur (s ++ rest)
      → ((m : NotedMove) (xs ys : List NotedMove) → s ≡ xs ++ m ∷ ys → m.time ≤ from) → Behind from (cur ++ s) rest
  behind from cur [] rest all come next early =
      subst (λ (c : List NotedMove). Behind from c rest) (sym (append-nil cur)) (record { all = all; come = come; next = next })
  behind from cur (x ∷ s) rest all come next early = subst (λ (c : List NotedMove). Behind from c rest) (append_assoc cur (x ∷ []) s)
      (behind from (cur ++ x ∷ []) s rest (safe_more cur x next.0 all) (come_more from cur x come (early x [] s refl)) next.1
      (λ m xs ys e. early m (x ∷ xs) ys (ap (λ l. x ∷ l) e)))

  pub sweeps_from : (k from t : ℕ) (cur ms : List NotedMove) → AllSafe net script (at cur) → Come from cur → t ≤ from → ComeNext d net script st cur ms
      → from + k * most < last_time t ms → Sweeps net script (at cur) k (moved_nodes ms)
  sweeps_from zero from t cur ms all come early next far = tt
  sweeps_from (suc k) from t cur ms all come early next far =
      let limit = from + most in
      let r = split limit t ms (omega (arith, early)) (omega (arith, far)) in
      let there : ComeNext d net script st cur (r.sweep ++ r.next ∷ r.more) = subst (λ (l : List NotedMove). ComeNext d net script st cur l) r.same next in
      let later = come_later limit cur come (omega arith) in
      let b = behind limit cur r.sweep (r.next ∷ r.more) all later there r.early in
      let e = r.end in
      let z = r.late in
      let rest = sweeps_from k limit limit (cur ++ r.sweep) (r.next ∷ r.more) b.all b.come (omega arith) b.next (omega (arith, far, e)) in (
        moved_nodes r.sweep,
        moved_nodes (r.next ∷ r.more),
        ap moved_nodes r.same ∙ nodes_on r.sweep (r.next ∷ r.more),
        (λ n on.
            let c = some_cause net script st (moved_nodes cur) n on in
            let within : c.0 ≤ length cur = let l = length-map cur (λ (m : NotedMove). m.node) in let w = c.1.within in omega (arith, l, w) in
            contained (moved_nodes r.sweep) n (moves_soon from cur r.sweep r.next r.more n c.0 all there c.1 within (come c.0 within) z)),
        subst (λ (s : RunState). Sweeps net script s k (moved_nodes (r.next ∷ r.more)))
            (ap (after net st) (nodes_on cur r.sweep) ∙ after_on net script st (moved_nodes cur) (moved_nodes r.sweep)) rest,
      )
    where
      come_later : (limit : ℕ) (cur : List NotedMove) → Come from cur → from ≤ limit → Come limit cur
      come_later limit cur come le number within = let e = come number within in omega (arith, e, le)

last_is : (t : ℕ) (ms : List NotedMove) → slice_index (t ∷ map (λ (m : NotedMove). m.time) ms) (length ms) ≡ last_time t ms
last_is t [] = refl
last_is t (m ∷ ms) = last_is m.time ms

pub timed_sweeps : (most : ℕ) (d : DelayTable) → TakesAtMost most d → (net : NetValue) (script : List OfferValue) (st : RunState) → AllSafe net script st
    → (ms : List NotedMove) → IsTimedRun d net script st ms → (k : ℕ) → k * most < time_behind ms (length ms) → Sweeps net script st k (moved_nodes ms)
timed_sweeps most d few net script st all ms timed k far =
    sweeps_from most d few net script st k 0 0 [] ms all at_start (omega arith) timed (let e = last_is 0 ms in omega (arith, far, e))
  where
    at_start : (number : ℕ) → number ≤ 0 → time_behind [] number ≤ 0
    at_start zero within = omega arith
    at_start (suc number) within = absurd (omega (arith, within))
