-- So many sweeps of a run overtake any layers, as many: what is enabled stays so until it moves, and moves commute.
use Rattle.std.proofs.Common.{◌≡◌, ℕ, zero, suc, ◌+◌, ◌≤◌, Bool, true, false, cond, List, [], ◌∷◌, ◌++◌, refl, sym, ap, ◌∙◌, subst, inl, inr, arith, append-nil, append_assoc}
use Rattle.std.specs.Prelude.{◌⊎◌, ◌==◌, if◌then◌else◌, Contains, Option, Some, None}
use Rattle.std.proofs.lemmas.Bool.{cases_eq, eq-eqb, ne_eqb}
use Rattle.std.proofs.lemmas.List.Sums.{sum_by-cons}
use Rattle.prs_core.specs.declared.wires.Wires.{Wires}
use Rattle.prs_core.specs.Nets.{NetValue, IsNet}
use Rattle.prs_core.specs.Moves.{high}
use Rattle.env_script.specs.Scripts.{OfferValue}
use Rattle.env_script.specs.Environment.{in_reset}
use Rattle.env_script.specs.Runs.{RunState, move_enabled, moved, after, IsRun, history_at, completes, with_value, with_values}
use Rattle.env_script.specs.OneLength.{AllSafe, times_moved}
use Rattle.env_script.specs.Sweeps.{Sweeps, IsLayer, Layers, Overtakes}
use Rattle.env_script.proofs.Commuting.{commute}
use Rattle.env_script.proofs.Fronts.{Fronted, safe_move, safe_behind, times_behind}

-- it stands in the list, by cases on that
abbrev pub Among : List ℕ → ℕ → Type 0
Among [] x = ⊥
Among (y ∷ ys) x = (y ≡ x) ⊎ Among ys x

pub among : (xs : List ℕ) (x : ℕ) → Contains xs x → Among xs x
among [] x (k, less, e) = absurd (omega (arith, less))
among (y ∷ ys) x (zero, less, e) = inl e
among (y ∷ ys) x (suc k, less, e) = inr (among ys x (k, omega (arith, less), e))

pub contained : (xs : List ℕ) (x : ℕ) → Among xs x → Contains xs x
contained [] x i = absurd i
contained (y ∷ ys) x (inl e) = (0, omega arith, e)
contained (y ∷ ys) x (inr i) = let r = contained ys x i in (suc r.0, omega (arith, r.1), r.2)

among_left : (xs ys : List ℕ) (x : ℕ) → Among xs x → Among (xs ++ ys) x
among_left [] ys x i = absurd i
among_left (y ∷ xs) ys x (inl e) = inl e
among_left (y ∷ xs) ys x (inr i) = inr (among_left xs ys x i)

among_right : (xs ys : List ℕ) (x : ℕ) → Among ys x → Among (xs ++ ys) x
among_right [] ys x i = i
among_right (y ∷ xs) ys x i = inr (among_right xs ys x i)

-- what stands in a list is counted there
once : ℕ → ℕ → ℕ
once node n = cond (n == node) 1 0

times_more : (node n : ℕ) (ns : List ℕ) → times_moved node (n ∷ ns) ≡ once node n + times_moved node ns
unfolding once
times_more node n ns = sum_by-cons (λ m. cond (m == node) 1 0) n ns

once_same : (node n : ℕ) → n ≡ node → once node n ≡ 1
unfolding once
once_same node n same = ap (λ b. cond b 1 0) (eq-eqb n node same)

once_other : (node n : ℕ) → (n ≡ node → ⊥) → once node n ≡ 0
unfolding once
once_other node n ne = ap (λ b. cond b 1 0) (ne_eqb n node ne)

none_at_first : (x : ℕ) → times_moved x [] ≡ 0
none_at_first x = refl

among_counts : (x : ℕ) (xs : List ℕ) → Among xs x → 1 ≤ times_moved x xs
among_counts x [] i = absurd i
among_counts x (y ∷ ys) (inl e) =
    omega (arith, times_more x y ys, once_same x y e)
among_counts x (y ∷ ys) (inr i) = omega (arith, times_more x y ys, among_counts x ys i)

counts_among : (x : ℕ) (xs : List ℕ) → 1 ≤ times_moved x xs → Among xs x
counts_among x [] less = absurd (omega (arith, less, none_at_first x))
counts_among x (y ∷ ys) less = by_place (cases_eq y x) (counts_among x ys)
  where
    by_place : (y ≡ x) ⊎ (y ≡ x → ⊥) → (1 ≤ times_moved x ys → Among ys x) → Among (y ∷ ys) x
    by_place (inl same) later = inl same
    by_place (inr apart) later = inr (later (omega (arith, times_more x y ys, once_other x y apart, less)))

times_on : (x : ℕ) (xs ys : List ℕ) → times_moved x (xs ++ ys) ≡ times_moved x xs + times_moved x ys
times_on x [] ys = omega (arith, none_at_first x)
times_on x (y ∷ xs) ys = omega (arith, times_more x y (xs ++ ys), times_more x y xs, times_on x xs ys)

module _ (net : NetValue) (script : List OfferValue) where
  -- runs in parts
  pub after_on : (st : RunState) (xs ys : List ℕ) → after net st (xs ++ ys) ≡ after net (after net st xs) ys
  after_on st [] ys = refl
  after_on st (x ∷ xs) ys = after_on (moved net st x) xs ys

  pub run_on : (st : RunState) (xs ys : List ℕ) → IsRun net script st xs → IsRun net script (after net st xs) ys → IsRun net script st (xs ++ ys)
  run_on st [] ys one two = two
  run_on st (x ∷ xs) ys one two = (one.0, run_on (moved net st x) xs ys one.1 two)

  pub run_parts : (st : RunState) (xs ys : List ℕ) → IsRun net script st (xs ++ ys) → IsRun net script st xs × IsRun net script (after net st xs) ys
  run_parts st [] ys run = (tt, run)
  run_parts st (x ∷ xs) ys run = let r = run_parts (moved net st x) xs ys run.1 in ((run.0, r.0), r.1)

  pub safe_after : (st : RunState) (xs : List ℕ) → AllSafe net script st → IsRun net script st xs → AllSafe net script (after net st xs)
  safe_after st [] all run = all
  safe_after st (x ∷ xs) all run = safe_after (moved net st x) xs (safe_behind net script st x all run.0) run.1

  -- what is enabled moves, or stays so
  stays_or_moves : (n : ℕ) (ns : List ℕ) (st : RunState) → AllSafe net script st → IsRun net script st ns → move_enabled net script st n ≡ true →
      Among ns n ⊎ (move_enabled net script (after net st ns) n ≡ true)
  stays_or_moves n [] st all run on = inr on
  stays_or_moves n (m ∷ ns) st all run on =
      by_place (cases_eq m n) (λ apart. stays_or_moves n ns (moved net st m) (safe_behind net script st m all run.0) run.1
      ((safe_move net script st m all run.0).stable n (λ e. apart (sym e)) on))
    where
      by_place : (m ≡ n) ⊎ (m ≡ n → ⊥) → ((m ≡ n → ⊥) → Among ns n ⊎ (move_enabled net script (after net st (m ∷ ns)) n ≡ true)) →
          Among (m ∷ ns) n ⊎ (move_enabled net script (after net st (m ∷ ns)) n ≡ true)
      by_place (inl same) later = inl (inl same)
      by_place (inr apart) later = by_later (later apart)
        where
          by_later : Among ns n ⊎ (move_enabled net script (after net st (m ∷ ns)) n ≡ true) →
              Among (m ∷ ns) n ⊎ (move_enabled net script (after net st (m ∷ ns)) n ≡ true)
          by_later (inl i) = inl (inr i)
          by_later (inr on) = inr on

  -- a move that is enabled at the beginning and made in the run can be made first
  front : IsNet net → (a : ℕ) (ns : List ℕ) (st : RunState) → AllSafe net script st → move_enabled net script st a ≡ true → IsRun net script st ns →
      Among ns a → Fronted net script st a ns
  front is a [] st all on run i = absurd i
  front is a (b ∷ ns) st all on run i =
      by_place (cases_eq b a) (λ apart. front is a ns (moved net st b) (safe_behind net script st b all run.0)
      ((safe_move net script st b all run.0).stable a (λ e. apart (sym e)) on) run.1 (later apart i))
    where
      later : (b ≡ a → ⊥) → Among (b ∷ ns) a → Among ns a
      later apart (inl same) = absurd (apart same)
      later apart (inr i) = i

      by_place : (b ≡ a) ⊎ (b ≡ a → ⊥) → ((b ≡ a → ⊥) → Fronted net script (moved net st b) a ns) → Fronted net script st a (b ∷ ns)
      by_place (inl same) more =
          subst (λ c. Fronted net script st c (b ∷ ns)) same (record { rest = ns; run = run.1; ends = refl; moves = refl; each = λ node. refl })
      by_place (inr apart) more =
          let next = more apart in
          let one = safe_move net script st a all on in
          let two = safe_move net script st b all run.0 in
          let meet : moved net (moved net st a) b ≡ moved net (moved net st b) a =
          commute net script st a b is (λ e. apart (sym e)) on run.0 one.phases two.phases in
          record {
            rest = b ∷ next.rest;
            run = (one.stable b apart run.0, subst (λ (s : RunState). IsRun net script s next.rest) (sym meet) next.run);
            ends = ap (λ (s : RunState). after net s next.rest) meet ∙ next.ends;
            moves = omega (arith, next.moves);
            each = λ node. times_behind node a b ns next.rest (next.each node);
          }

  -- a layer of moves that the run makes can be made first
  layer_first : IsNet net → (ms ns : List ℕ) (st : RunState) → AllSafe net script st → IsLayer net script st ms → IsRun net script st ns →
      ((m : ℕ) → Among ms m → Among ns m) → Overtakes net script st ms ns
  layer_first is [] ns st all layer run made = record { rest = ns; run = run; state = refl; each = λ node. refl }
  layer_first is (m ∷ ms) ns st all layer run made =
      let f = front is m ns st all layer.0 run (made m (inl refl)) in
      let r = layer_first is ms f.rest (moved net st m) (safe_behind net script st m all layer.0) (behind ms layer.1 layer.2) f.run
      (λ n i. still f.rest n (λ e. layer.1 (contained ms m (subst (Among ms) (sym e) i))) f.each (made n (inr i))) in
      record {
        rest = r.rest;
        run = (layer.0, r.run);
        state = r.state ∙ f.ends;
        each = λ node. omega (arith, f.each node, times_more node m (ms ++ r.rest), times_more node m f.rest, r.each node);
      }
    where
      -- the others are enabled behind the first
      behind : (qs : List ℕ) → (¬ Contains qs m) → IsLayer net script st qs → IsLayer net script (moved net st m) qs
      behind [] out l = tt
      behind (q ∷ qs) out l = (
        (safe_move net script st m all layer.0).stable q (λ e. out (contained (q ∷ qs) m (inl e))) l.0,
        l.1,
        behind qs (λ c. out (contained (q ∷ qs) m (inr (among qs m c)))) l.2,
      )

      still : (rest : List ℕ) (n : ℕ) → (m ≡ n → ⊥) → ((node : ℕ) → times_moved node ns ≡ times_moved node (m ∷ rest)) → Among ns n → Among rest n
      still rest n apart each i =
          counts_among n rest (omega (arith, among_counts n ns i, each n, times_more n m rest, once_other n m apart))

  -- a sweep is one also with a run before it
  sweeps_behind : (k : ℕ) (before ns : List ℕ) (st : RunState) → AllSafe net script st → IsRun net script st before →
      Sweeps net script (after net st before) k ns → Sweeps net script st k (before ++ ns)
  sweeps_behind zero before ns st all run s = tt
  sweeps_behind (suc k) before ns st all run (sweep, later, is, one, others) = (
    before ++ sweep,
    later,
    ap (λ l. before ++ l) is ∙ sym (append_assoc before sweep later),
    λ n on. contained (before ++ sweep) n (by_place n (stays_or_moves n before st all run on)),
    subst (λ (s : RunState). Sweeps net script s k later) (sym (after_on st before sweep)) others,
  )
    where
      by_place : (n : ℕ) → Among before n ⊎ (move_enabled net script (after net st before) n ≡ true) → Among (before ++ sweep) n
      by_place n (inl i) = among_left before sweep n i
      by_place n (inr on) = among_right before sweep n (among sweep n (one n on))

  layered : (ms : List ℕ) (st : RunState) → IsLayer net script st ms → (m : ℕ) → Among ms m → move_enabled net script st m ≡ true
  layered [] st l m i = absurd i
  layered (x ∷ ms) st l m (inl e) = subst (λ n. move_enabled net script st n ≡ true) e l.0
  layered (x ∷ ms) st l m (inr i) = layered ms st l.2 m i

  pub overtaken : IsNet net → (k : ℕ) (ms ns : List ℕ) (st : RunState) → AllSafe net script st → Layers net script st k ms → IsRun net script st ns →
      Sweeps net script st k ns → Overtakes net script st ms ns
  overtaken is zero ms ns st all layers run sweeps =
      subst (λ l. Overtakes net script st l ns) (sym layers) (record { rest = ns; run = run; state = refl; each = λ node. refl })
  overtaken is (suc k) ms ns st all (layer, more, made, one, others) run (sweep, later, is_all, first, rest) =
      let parts = run_parts st sweep later (subst (IsRun net script st) is_all run) in
      let o = layer_first is layer sweep st all one parts.0 (λ m i. among sweep m (first m (layered layer st one m i))) in
      let p = run_parts st layer o.rest o.run in
      let there : after net (after net st layer) o.rest ≡ after net st sweep = sym (after_on st layer o.rest) ∙ o.state in
      let safe = safe_after st layer all p.0 in
      let r = overtaken is k more (o.rest ++ later) (after net st layer) safe others
      (run_on (after net st layer) o.rest later p.1 (subst (λ (s : RunState). IsRun net script s later) (sym there) parts.1))
      (sweeps_behind k o.rest later (after net st layer) safe p.1 (subst (λ (s : RunState). Sweeps net script s k later) (sym there) rest)) in
      let last : after net (after net st layer) (o.rest ++ later) ≡ after net st ns =
      after_on (after net st layer) o.rest later ∙ (ap (λ (s : RunState). after net s later) there
      ∙ (sym (after_on st sweep later) ∙ ap (after net st) (sym is_all))) in
      let whole : (layer ++ more) ++ r.rest ≡ layer ++ (more ++ r.rest) = append_assoc layer more r.rest in
      subst (λ l. Overtakes net script st l ns) (sym made) (record {
        rest = r.rest;
        run = subst (IsRun net script st) (sym whole) (run_on st layer (more ++ r.rest) p.0 r.run);
        state = ap (after net st) whole ∙ (after_on st layer (more ++ r.rest) ∙ (r.state ∙ last));
        each = λ node. counts _ _ _ _ _ _ _ _ _ _ _ _ _ (times_on node (layer ++ more) r.rest) (times_on node layer more) (times_on node more r.rest)
            (r.each node)
            (times_on node o.rest later) (times_on node layer o.rest) (o.each node) (times_on node sweep later)
            (ap (times_moved node) is_all);
      })
    where
      counts : (a b c d e f g h i j k l m : ℕ) → a ≡ b + c → b ≡ d + e → f ≡ e + c → f ≡ g → g ≡ h + i → j ≡ d + h → j ≡ k → l ≡ k + i → m ≡ l → a ≡ m
      counts a b c d e f g h i j k l m p q r s t u v w x = omega (arith, p, q, r, s, t, u, v, w, x)

-- histories only grow
values_grow : (v : ℕ → Bool) (n : ℕ) (ws : List Wires) (hs : List (List ℕ)) (k : ℕ) →
    (rest : List ℕ) × (history_at (with_values v n ws hs) k ≡ history_at hs k ++ rest)
values_grow v n [] hs k = ([], sym (append-nil (history_at hs k)))
values_grow v n (w ∷ ws) [] k = ([], sym (append-nil (history_at [] k)))
values_grow v n (w ∷ ws) (h ∷ hs) zero = by_value (completes v w n)
  where
    by_value : (o : Option ℕ) → (rest : List ℕ) × (with_value o h ≡ h ++ rest)
    by_value None = ([], sym (append-nil h))
    by_value (Some x) = (x ∷ [], refl)
values_grow v n (w ∷ ws) (h ∷ hs) (suc k) = values_grow v n ws hs k

move_grows : (net : NetValue) (st : RunState) (n k : ℕ) → (rest : List ℕ) × (history_at (moved net st n).histories k ≡ history_at st.histories k ++ rest)
move_grows net st n k = by_reset (in_reset net.reset (high st.values)) (values_grow (high st.values) n net.channels st.histories k)
  where
    by_reset : (b : Bool) → (rest : List ℕ) × (history_at (with_values (high st.values) n net.channels st.histories) k ≡ history_at st.histories k ++ rest) →
        (rest : List ℕ) × (history_at (if b then st.histories else with_values (high st.values) n net.channels st.histories) k ≡
        history_at st.histories k ++ rest)
    by_reset true grown = ([], sym (append-nil (history_at st.histories k)))
    by_reset false grown = grown

pub run_grows : (net : NetValue) (ns : List ℕ) (st : RunState) (k : ℕ) →
    (rest : List ℕ) × (history_at (after net st ns).histories k ≡ history_at st.histories k ++ rest)
run_grows net [] st k = ([], sym (append-nil (history_at st.histories k)))
run_grows net (n ∷ ns) st k =
    let one = move_grows net st n k in
    let more = run_grows net ns (moved net st n) k in
    (one.0 ++ more.0, more.1 ∙ (ap (λ h. h ++ more.0) one.1 ∙ append_assoc (history_at st.histories k) one.0 more.0))

-- so a run of as many sweeps as layers has passed on each channel what the layers pass
pub passes_layers : (net : NetValue) (script : List OfferValue) → IsNet net → (k : ℕ) (ms ns : List ℕ) (st : RunState) → AllSafe net script st →
    Layers net script st k ms → IsRun net script st ns → Sweeps net script st k ns → (chan : ℕ) →
    (rest : List ℕ) × (history_at (after net st ns).histories chan ≡ history_at (after net st ms).histories chan ++ rest)
passes_layers net script is k ms ns st all layers run sweeps chan =
    let o = overtaken net script is k ms ns st all layers run sweeps in
    let more = run_grows net o.rest (after net st ms) chan in
    (more.0, ap (λ (s : RunState). history_at s.histories chan) (sym o.state ∙ after_on net script st ms o.rest) ∙ more.1)
