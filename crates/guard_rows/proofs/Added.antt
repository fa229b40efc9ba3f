-- A reader added to the edges of some nodes.
use Rattle.std.proofs.Common.{◌≡◌, ℕ, ◌+◌, ◌-◌, ◌*◌, ◌<◌, ◌≤◌, zero, suc, Bool, true, false, cond, inl, inr, List, [], ◌∷◌, ◌++◌, length, get_or, set, filter, take, refl, sym, ap, subst, ◌∙◌, arith}
use Rattle.std.specs.Prelude.{◌==◌, ◌||◌, ◌⊎◌, nat_lt, All, IfSome, OnOk, Option, Some, None, Result, Ok, Err}
use Rattle.std.specs.List.{range_with_len}
use Rattle.std.proofs.lemmas.Bool.{eqb-true, eqb-false, eq-eqb, ne_eqb, lt-ltb, and_from, and_right, or_left, or_right, or_cases, both_ways}
use Rattle.std.proofs.lemmas.List.{append-nil, map-append, map-id, map-set, length-map, length-set, length_push, get_or_read, get_or-map, get_or_push, get_or-set_same, get_or-set_other, set-get_or}
use Rattle.std.proofs.lemmas.List.Elements.{All-filter, All-head, All-tail, All-cons, All-weaker, filter-append}
use Rattle.std.proofs.lemmas.List.Folds.{list_any_more}
use Rattle.std.proofs.lemmas.List.FromFn.{map-range_with_len_more, get_or-range_with_len, length-range_with_len}
use Rattle.prs_core.specs.declared.rule.Literal.{Literal}
use Rattle.prs_core.specs.Nets.{NetValue, GuardValue, IsBelow, IsNet, up_of, down_of}
use Rattle.prs_core.specs.Fans.{is_reader, readers_below, term_names, guard_names}
use Rattle.guard_rows.specs.Places.{as_bit, total_to, readers_in, ends_at, is_one_of, is_over, AllPass, GuardPasses, HaveReaders, AreAdded}

range_more : (n : ℕ) → range_with_len 0 (n + 1) ≡ range_with_len 0 n ++ n ∷ []
range_more n = sym (map-id (range_with_len 0 (n + 1))) ∙ map-range_with_len_more (λ k. k) 0 n n (omega arith)
    ∙ ap (λ xs. xs ++ n ∷ []) (map-id (range_with_len 0 n))

range_less : (n : ℕ) → All (λ k. k < n) (range_with_len 0 n)
range_less n = λ i d within. let e = get_or-range_with_len 0 n i d (omega (arith, length-range_with_len 0 n)) in omega (arith, length-range_with_len 0 n)

pub readers_less : (net : NetValue) (most m : ℕ) → All (λ k. k < most) (readers_below net most m)
readers_less net most m = All-filter (is_reader net m) (λ k. k < most) (range_with_len 0 most) (range_less most)

readers_more : (net : NetValue) (r m : ℕ) → readers_below net (r + 1) m ≡ readers_below net r m ++ cond (is_reader net m r) (r ∷ []) []
readers_more net r m = ap (filter (is_reader net m)) (range_more r) ∙ filter-append (is_reader net m) (range_with_len 0 r) (r ∷ [])

-- the last edge

pub there : (reader : ℕ) (es : List (ℕ × ℕ)) (below : List ℕ) → readers_in es ≡ below ++ reader ∷ [] → ends_at reader es ≡ true
there reader es below is =
    let count : length es ≡ length below + 1 = sym (length-map es (λ (e : ℕ × ℕ). e.0)) ∙ ap length is ∙ length_push below reader in
    let last : (get_or es (length es - 1) (0, 0)).0 ≡ reader =
    sym (get_or-map (λ (e : ℕ × ℕ). e.0) es (length es - 1) (0, 0) 0 (omega arith)) ∙ ap (λ xs. get_or xs (length es - 1) 0) is
    ∙ get_or_push below reader 0 (length es - 1) (omega arith) in
    and_from _ _ (lt-ltb 0 (length es) (omega arith)) (eq-eqb _ reader last)

pub not_there : (reader : ℕ) (es : List (ℕ × ℕ)) → All (λ k. k < reader) (readers_in es) → ends_at reader es ≡ false
not_there reader [] less = refl
not_there reader (e ∷ es) less =
    let last : (get_or (e ∷ es) (length (e ∷ es) - 1) (0, 0)).0 < reader =
    subst (λ k. k < reader) (get_or-map (λ (x : ℕ × ℕ). x.0) (e ∷ es) (length (e ∷ es) - 1) (0, 0) 0 (omega arith))
    (less (length (e ∷ es) - 1) 0 (omega (arith, length-map (e ∷ es) (λ (x : ℕ × ℕ). x.0)))) in
    and_right (nat_lt 0 (length (e ∷ es))) _ (ne_eqb (get_or (e ∷ es) (length (e ∷ es) - 1) (0, 0)).0 reader (omega arith))

-- with more weight it leads to the same reader
pub readers_kept : (es : List (ℕ × ℕ)) (i weight : ℕ) → i < length es →
    readers_in (set es i ((get_or es i (0, 0)).0, weight)) ≡ readers_in es
readers_kept es i weight within =
    map-set (λ (e : ℕ × ℕ). e.0) es i ((get_or es i (0, 0)).0, weight)
    ∙ ap (λ k. set (readers_in es) i k) (sym (get_or-map (λ (e : ℕ × ℕ). e.0) es i (0, 0) 0 within)) ∙ set-get_or (readers_in es) i 0

pub reader_again : (reader : ℕ) (es : List (ℕ × ℕ)) (below : List ℕ) (is_there : Bool) → ends_at reader es ≡ true → All (λ k. k < reader) below →
    readers_in es ≡ below ++ cond is_there (reader ∷ []) [] → readers_in es ≡ below ++ reader ∷ []
reader_again reader es below true last less is = is
reader_again reader es below false last less is =
    let same : readers_in es ≡ below = is ∙ append-nil below in
    absurd (both_ways (ends_at reader es) (not_there reader es (subst (λ xs. All (λ k. k < reader) xs) (sym same) less)) last)

pub reader_first : (reader : ℕ) (es : List (ℕ × ℕ)) (below : List ℕ) (is_there : Bool) (weight : ℕ) → ends_at reader es ≡ false →
    readers_in es ≡ below ++ cond is_there (reader ∷ []) [] → readers_in (es ++ (reader, weight) ∷ []) ≡ below ++ reader ∷ []
reader_first reader es below true weight last is = absurd (both_ways (ends_at reader es) last (there reader es below is))
reader_first reader es below false weight last is =
    map-append (λ (e : ℕ × ℕ). e.0) es ((reader, weight) ∷ []) ∙ ap (λ xs. xs ++ reader ∷ []) (is ∙ append-nil below)

-- one edge added

have_as : (net : NetValue) (reader : ℕ) (p q : ℕ → Bool) (edges : List (List (ℕ × ℕ))) → ((m : ℕ) → p m ≡ q m) → HaveReaders net reader p edges →
    HaveReaders net reader q edges
have_as net reader p q edges agree have =
    λ m within. have m within ∙ ap (λ b. readers_below net reader m ++ cond b (reader ∷ []) []) (agree m)

or_none : (b : Bool) → b ≡ (b || false)
or_none true = refl
or_none false = refl

or_one : (b : Bool) → true ≡ (b || true)
or_one true = refl
or_one false = refl

or_three : (a b c : Bool) → ((a || b) || c) ≡ (a || (b || c))
or_three true b c = refl
or_three false b c = refl

times_one : (b : Bool) (w : ℕ) → cond b w 0 ≡ cond b (w * 1) 0
times_one true w = omega arith
times_one false w = refl

no_times : (b : Bool) (t w : ℕ) → t ≡ t + cond b (w * 0) 0
no_times true t w = omega arith
no_times false t w = omega arith

pub one_added : (reader weight n : ℕ) (old : List (List (ℕ × ℕ))) (es : List (ℕ × ℕ)) → n < length old →
    ((r : ℕ) → total_to r es ≡ total_to r (get_or old n []) + cond (reader == r) weight 0) →
    ((below : List ℕ) (is_there : Bool) → All (λ k. k < reader) below → readers_in (get_or old n []) ≡ below ++ cond is_there (reader ∷ []) [] →
    readers_in es ≡ below ++ reader ∷ []) →
    AreAdded reader (λ m. n == m) (λ m. weight * as_bit (n == m)) old (set old n es)
one_added reader weight n old es within total readers = record {
  count = length-set old n es;
  total = λ m r inside. total_at m r (n == m) refl;
  readers = λ net passes have m inside. readers_at net passes have m (omega (arith, inside, length-set old n es)) (n == m) refl;
}
  where
    total_at : (m r : ℕ) (b : Bool) → (n == m) ≡ b → total_to r (get_or (set old n es) m []) ≡
        total_to r (get_or old m []) + cond (reader == r) (weight * as_bit b) 0
    total_at m r true is =
        rw (← eqb-true n m is) (ap (total_to r) (get_or-set_same old n es [] within) ∙ total r
        ∙ ap (λ k. total_to r (get_or old n []) + k) (times_one (reader == r) weight))
    total_at m r false is =
        ap (total_to r) (get_or-set_other old n m es [] (λ e. eqb-false n m is (sym e))) ∙ no_times (reader == r) (total_to r (get_or old m [])) weight

    readers_at : (net : NetValue) (passes : ℕ → Bool) → HaveReaders net reader passes old → (m : ℕ) → m < length old → (b : Bool) → (n == m) ≡ b →
        readers_in (get_or (set old n es) m []) ≡ readers_below net reader m ++ cond (passes m || b) (reader ∷ []) []
    readers_at net passes have m inside true is =
        rw (← eqb-true n m is) (ap readers_in (get_or-set_same old n es [] within)
        ∙ readers (readers_below net reader n) (passes n) (readers_less net reader n) (have n within)
        ∙ ap (λ b. readers_below net reader n ++ cond b (reader ∷ []) []) (or_one (passes n)))
    readers_at net passes have m inside false is =
        ap readers_in (get_or-set_other old n m es [] (λ e. eqb-false n m is (sym e))) ∙ have m inside
        ∙ ap (λ b. readers_below net reader m ++ cond b (reader ∷ []) []) (or_none (passes m))

pub then_ok : {A E : Type 0} (r : Result A E) (P Q : Type 0) → (P → Q) → OnOk r P → OnOk r Q
then_ok (Ok x) P Q f p = f p
then_ok (Err e) P Q f p = tt

-- one addition behind the other

sum_both : (b : Bool) (t u z w s : ℕ) → u ≡ t + cond b w 0 → z ≡ u + cond b s 0 → z ≡ t + cond b (w + s) 0
sum_both true t u z w s first second = omega arith
sum_both false t u z w s first second = omega arith

pub added_both : (reader : ℕ) (p q : ℕ → Bool) (v w : ℕ → ℕ) (old mid new : List (List (ℕ × ℕ))) → AreAdded reader p v old mid →
    AreAdded reader q w mid new → AreAdded reader (λ m. p m || q m) (λ m. v m + w m) old new
added_both reader p q v w old mid new first second = record {
  count = second.count ∙ first.count;
  total = λ m r inside. sum_both (reader == r) (total_to r (get_or old m [])) (total_to r (get_or mid m [])) (total_to r (get_or new m [])) (v m) (w m)
      (first.total m r inside) (second.total m r (omega (arith, inside, first.count)));
  readers = λ net passes have. have_as net reader (λ m. (passes m || p m) || q m) (λ m. passes m || (p m || q m)) new
      (λ m. or_three (passes m) (p m) (q m)) (second.readers net (λ m. passes m || p m) (first.readers net passes have));
}

pub added_as : (reader : ℕ) (p q : ℕ → Bool) (v w : ℕ → ℕ) (old new : List (List (ℕ × ℕ))) → ((m : ℕ) → p m ≡ q m) → ((m : ℕ) → v m ≡ w m) →
    AreAdded reader p v old new → AreAdded reader q w old new
added_as reader p q v w old new names weights added = record {
  count = added.count;
  total = λ m r inside. added.total m r inside ∙ ap (λ k. total_to r (get_or old m []) + cond (reader == r) k 0) (weights m);
  readers = λ net passes have. have_as net reader (λ m. passes m || p m) (λ m. passes m || q m) new (λ m. ap (λ b. passes m || b) (names m))
      (added.readers net passes have);
}

none_more : (b : Bool) (t : ℕ) → t ≡ t + cond b 0 0
none_more true t = omega arith
none_more false t = omega arith

pub none_added : (reader : ℕ) (p : ℕ → Bool) (w : ℕ → ℕ) (edges : List (List (ℕ × ℕ))) → ((m : ℕ) → p m ≡ false) → ((m : ℕ) → w m ≡ 0) →
    AreAdded reader p w edges edges
none_added reader p w edges names weights = record {
  count = refl;
  total = λ m r inside. none_more (reader == r) (total_to r (get_or edges m []))
      ∙ ap (λ k. total_to r (get_or edges m []) + cond (reader == r) k 0) (sym (weights m));
  readers = λ net passes have. have_as net reader passes (λ m. passes m || p m) edges
      (λ m. or_none (passes m) ∙ ap (λ b. passes m || b) (sym (names m))) have;
}

-- what is added to the total of the reader itself
pub own_added : (reader : ℕ) (p : ℕ → Bool) (w : ℕ → ℕ) (old new : List (List (ℕ × ℕ))) (m : ℕ) → AreAdded reader p w old new → m < length old →
    total_to reader (get_or new m []) ≡ total_to reader (get_or old m []) + w m
own_added reader p w old new m added inside =
    added.total m reader inside ∙ ap (λ b. total_to reader (get_or old m []) + cond b (w m) 0) (eq-eqb reader reader refl)

-- step by step

abbrev pub Grows : ℕ → ℕ → List (ℕ × ℕ) → List (ℕ × ℕ) → Type 0
Grows reader weight here es = (r : ℕ) → total_to r es ≡ total_to r here + cond (reader == r) weight 0

abbrev pub Leads : ℕ → List (ℕ × ℕ) → List (ℕ × ℕ) → Type 0
Leads reader here es = (below : List ℕ) (is_there : Bool) → All (λ k. k < reader) below → readers_in here ≡ below ++ cond is_there (reader ∷ []) [] →
    readers_in es ≡ below ++ reader ∷ []

pub step_added : (reader weight n : ℕ) (edges : List (List (ℕ × ℕ))) (here es : List (ℕ × ℕ)) → n < length edges → here ≡ get_or edges n here →
    Grows reader weight here es → Leads reader here es → AreAdded reader (λ m. n == m) (λ m. weight * as_bit (n == m)) edges (set edges n es)
step_added reader weight n edges here es within is grows leads =
    let same : here ≡ get_or edges n [] = get_or_read edges n here within is [] in
    one_added reader weight n edges es within
    (λ r. subst (λ (xs : List (ℕ × ℕ)). total_to r es ≡ total_to r xs + cond (reader == r) weight 0) same (grows r))
    (λ below is_there less are. leads below is_there less (ap readers_in same ∙ are))

pub added_room : (reader weight most n : ℕ) (p : ℕ → Bool) (w : ℕ → ℕ) (old edges : List (List (ℕ × ℕ))) (here : List (ℕ × ℕ)) → AreAdded reader p w old edges →
    ((m : ℕ) → m < length old → total_to reader (get_or old m []) + w m + weight < most) → n < length edges → here ≡ get_or edges n here →
    total_to reader here + weight < most
added_room reader weight most n p w old edges here added room within is =
    let same : here ≡ get_or edges n [] = get_or_read edges n here within is [] in
    let inside : n < length old = omega (arith, within, added.count) in
    omega (arith, ap (total_to reader) same, own_added reader p w old edges n added inside, room n inside)

no_weight : (b : Bool) → 0 + 0 * as_bit b ≡ 0
no_weight true = refl
no_weight false = refl

pub term_step : (reader i : ℕ) (t : List Literal) (d : Literal) (old edges : List (List (ℕ × ℕ))) (here es : List (ℕ × ℕ)) → i < length t →
    (get_or t i d).node < length edges → here ≡ get_or edges (get_or t i d).node here → Grows reader 0 here es → Leads reader here es →
    AreAdded reader (λ m. term_names m (take i t)) (λ m. 0) old edges →
    AreAdded reader (λ m. term_names m (take (i + 1) t)) (λ m. 0) old (set edges (get_or t i d).node es)
term_step reader i t d old edges here es within inside is grows leads before =
    let n = (get_or t i d).node in
    added_as reader (λ m. term_names m (take i t) || (n == m)) (λ m. term_names m (take (i + 1) t)) (λ m. 0 + 0 * as_bit (n == m)) (λ m. 0) old (set edges n es)
    (λ m. sym (list_any_more (λ (l : Literal). l.node == m) t i d within)) (λ m. no_weight (n == m))
    (added_both reader (λ m. term_names m (take i t)) (λ m. n == m) (λ m. 0) (λ m. 0 * as_bit (n == m)) old edges (set edges n es) before
    (step_added reader 0 n edges here es inside is grows leads))

pub guard_step : (reader i : ℕ) (g : GuardValue) (t : List Literal) (old edges new : List (List (ℕ × ℕ))) → i < length g → t ≡ get_or g i t →
    AreAdded reader (λ m. guard_names m (take i g)) (λ m. 0) old edges → AreAdded reader (λ m. term_names m t) (λ m. 0) edges new →
    AreAdded reader (λ m. guard_names m (take (i + 1) g)) (λ m. 0) old new
guard_step reader i g t old edges new within is before now =
    added_as reader (λ m. guard_names m (take i g) || term_names m t) (λ m. guard_names m (take (i + 1) g)) (λ m. 0 + 0) (λ m. 0) old new
    (λ m. sym (list_any_more (term_names m) g i t within ∙ ap (λ (x : List Literal). guard_names m (take i g) || term_names m x) (sym is))) (λ m. refl)
    (added_both reader (λ m. guard_names m (take i g)) (λ m. term_names m t) (λ m. 0) (λ m. 0) old edges new before now)

-- one more of the inputs, where its weight is what is due to it
pub input_step : (reader weight i : ℕ) (ns : List ℕ) (w v : ℕ → ℕ) (old edges : List (List (ℕ × ℕ))) (here es : List (ℕ × ℕ)) → i < length ns →
    get_or ns i 0 < length edges → here ≡ get_or edges (get_or ns i 0) here → Grows reader weight here es → Leads reader here es →
    ((m : ℕ) → v m ≡ w m + weight * as_bit (get_or ns i 0 == m)) → AreAdded reader (is_one_of (take i ns)) w old edges →
    AreAdded reader (is_one_of (take (i + 1) ns)) v old (set edges (get_or ns i 0) es)
input_step reader weight i ns w v old edges here es within inside is grows leads due before =
    let n = get_or ns i 0 in
    added_as reader (λ m. is_one_of (take i ns) m || (n == m)) (is_one_of (take (i + 1) ns)) (λ m. w m + weight * as_bit (n == m)) v old (set edges n es)
    (λ m. sym (list_any_more (λ k. k == m) ns i 0 within)) (λ m. sym (due m))
    (added_both reader (is_one_of (take i ns)) (λ m. n == m) w (λ m. weight * as_bit (n == m)) old edges (set edges n es) before
    (step_added reader weight n edges here es inside is grows leads))

-- the readers below the next number

pub have_before : (net : NetValue) (r : ℕ) (edges : List (List (ℕ × ℕ))) →
    ((m : ℕ) → m < length edges → readers_in (get_or edges m []) ≡ readers_below net r m) → HaveReaders net r (λ m. false) edges
have_before net r edges are = λ m within. are m within ∙ sym (append-nil (readers_below net r m))

pub have_behind : (net : NetValue) (r : ℕ) (passes : ℕ → Bool) (edges : List (List (ℕ × ℕ))) → ((m : ℕ) → passes m ≡ is_reader net m r) →
    HaveReaders net r passes edges → (m : ℕ) → m < length edges → readers_in (get_or edges m []) ≡ readers_below net (r + 1) m
have_behind net r passes edges agree have m within =
    have m within ∙ ap (λ b. readers_below net r m ++ cond b (r ∷ []) []) (agree m) ∙ sym (readers_more net r m)

pub have_read : (net : NetValue) (r : ℕ) (edges : List (List (ℕ × ℕ))) →
    ((m : ℕ) → m < length edges → readers_in (get_or edges m []) ≡ readers_below net (r + 1) m) → HaveReaders net r (λ m. is_reader net m r) edges
have_read net r edges are = λ m within. are m within ∙ readers_more net r m

-- no weight to rows past the readers
total_past : (es : List (ℕ × ℕ)) (count r : ℕ) → All (λ k. k < count) (readers_in es) → count ≤ r → total_to r es ≡ 0
total_past [] count r less past = refl
total_past (e ∷ es) count r less past =
    let first : e.0 < count = All-head (λ k. k < count) e.0 (readers_in es) less in
    omega (
      arith,
      total_past es count r (All-tail (λ k. k < count) e.0 (readers_in es) less) past,
      ap (λ b. cond b e.1 0) (ne_eqb e.0 r (omega arith)),
    )

pub edges_less : (net : NetValue) (most m : ℕ) (es : List (ℕ × ℕ)) → readers_in es ≡ readers_below net most m → All (λ (e : ℕ × ℕ). e.0 < most) es
edges_less net most m es are =
    λ i d within. subst (λ k. k < most) (get_or-map (λ (e : ℕ × ℕ). e.0) es i d 0 within)
    (subst (λ xs. All (λ k. k < most) xs) (sym are) (readers_less net most m) i 0 (omega (arith, within, length-map es (λ (e : ℕ × ℕ). e.0))))

-- which nodes a guard names

named_at : (t : List Literal) (i : ℕ) (d : Literal) → i < length t → term_names (get_or t i d).node t ≡ true
named_at [] i d within = absurd (omega arith)
named_at (l ∷ t) zero d within = or_left _ _ (eq-eqb l.node l.node refl)
named_at (l ∷ t) (suc i) d within = or_right _ _ (named_at t i d (omega arith))

named_one : (t : List Literal) → AllPass (λ m. term_names m t) t
named_one t = λ i d within. named_at t i d within

names_pass : (passes : ℕ → Bool) (g : GuardValue) → ((m : ℕ) → guard_names m g ≡ true → passes m ≡ true) → GuardPasses passes g
names_pass passes [] all = λ i d within. absurd (omega arith)
names_pass passes (t ∷ g) all =
    All-cons (AllPass passes) t g (All-weaker (λ (l : Literal). term_names l.node t ≡ true) (λ (l : Literal). passes l.node ≡ true)
    (λ l named. all l.node (or_left _ _ named)) t (named_one t)) (names_pass passes g (λ m named. all m (or_right _ _ named)))

pub up_passes : (net : NetValue) (r : ℕ) → GuardPasses (λ m. is_reader net m r) (up_of net r)
up_passes net r = names_pass (λ m. is_reader net m r) (up_of net r) (λ m named. or_left _ _ named)

pub down_passes : (net : NetValue) (r : ℕ) → GuardPasses (λ m. is_reader net m r) (down_of net r)
down_passes net r = names_pass (λ m. is_reader net m r) (down_of net r) (λ m named. or_right _ _ named)

term_below : (count m : ℕ) (t : List Literal) → All (λ (l : Literal). l.node < count) t → term_names m t ≡ true → m < count
term_below count m [] less named = absurd (cc named)
term_below count m (l ∷ t) less named =
    by_case (or_cases (l.node == m) (term_names m t) named) (term_below count m t (All-tail (λ (x : Literal). x.node < count) l t less))
  where
    by_case : ((l.node == m) ≡ true) ⊎ (term_names m t ≡ true) → (term_names m t ≡ true → m < count) → m < count
    by_case (inl here) rest = subst (λ k. k < count) (eqb-true l.node m here) (All-head (λ (x : Literal). x.node < count) l t less)
    by_case (inr behind) rest = rest behind

guard_below : (count m : ℕ) (g : GuardValue) → IsBelow count g → guard_names m g ≡ true → m < count
guard_below count m [] less named = absurd (cc named)
guard_below count m (t ∷ g) less named =
    by_case (or_cases (term_names m t) (guard_names m g) named) (guard_below count m g (All-tail (All (λ (l : Literal). l.node < count)) t g less))
  where
    by_case : (term_names m t ≡ true) ⊎ (guard_names m g ≡ true) → (guard_names m g ≡ true → m < count) → m < count
    by_case (inl here) rest = term_below count m t (All-head (All (λ (l : Literal). l.node < count)) t g less) here
    by_case (inr behind) rest = rest behind

pub up_below : (net : NetValue) (r : ℕ) → IsNet net → r < length net.first → IsBelow (length net.first) (up_of net r)
up_below net r is within = is.up_within r [] (omega (arith, within, is.ups))

pub down_below : (net : NetValue) (r : ℕ) → IsNet net → r < length net.first → IsBelow (length net.first) (down_of net r)
down_below net r is within = is.down_within r [] (omega (arith, within, is.downs))

pub reader_below : (net : NetValue) (m r : ℕ) → IsNet net → r < length net.first → is_reader net m r ≡ true → m < length net.first
reader_below net m r is within named = by_case (or_cases (guard_names m (up_of net r)) (guard_names m (down_of net r)) named)
  where
    by_case : (guard_names m (up_of net r) ≡ true) ⊎ (guard_names m (down_of net r) ≡ true) → m < length net.first
    by_case (inl up) = guard_below (length net.first) m (up_of net r) (up_below net r is within) up
    by_case (inr down) = guard_below (length net.first) m (down_of net r) (down_below net r is within) down

pub inputs_below : (net : NetValue) (r : ℕ) (nodes : List ℕ) → IsNet net → r < length net.first → All (λ n. is_reader net n r ≡ true) nodes →
    All (λ n. n < length net.first) nodes
inputs_below net r nodes is within all =
    All-weaker (λ n. is_reader net n r ≡ true) (λ n. n < length net.first) (λ n named. reader_below net n r is within named) nodes all

-- inputs that are named already
pub one_of_named : (net : NetValue) (r : ℕ) (nodes : List ℕ) (m : ℕ) → All (λ n. is_reader net n r ≡ true) nodes →
    (is_reader net m r || is_one_of nodes m) ≡ is_reader net m r
one_of_named net r [] m all = sym (or_none (is_reader net m r))
one_of_named net r (n ∷ ns) m all = by_test (n == m) refl (one_of_named net r ns m (All-tail (λ k. is_reader net k r ≡ true) n ns all))
  where
    by_test : (b : Bool) → (n == m) ≡ b → (is_reader net m r || is_one_of ns m) ≡ is_reader net m r →
        (is_reader net m r || (b || is_one_of ns m)) ≡ is_reader net m r
    by_test true is rest =
        let named : is_reader net m r ≡ true =
        subst (λ k. is_reader net k r ≡ true) (eqb-true n m is) (All-head (λ k. is_reader net k r ≡ true) n ns all) in
        or_left _ _ named ∙ sym named
    by_test false is rest = rest

pub over_named : (net : NetValue) (r : ℕ) (over : Option ℕ) (m : ℕ) → IfSome over (λ n. is_reader net n r ≡ true) →
    (is_reader net m r || is_over m over) ≡ is_reader net m r
over_named net r None m named = sym (or_none (is_reader net m r))
over_named net r (Some n) m named = by_test (n == m) refl
  where
    by_test : (b : Bool) → (n == m) ≡ b → (is_reader net m r || b) ≡ is_reader net m r
    by_test true is =
        let here : is_reader net m r ≡ true = subst (λ k. is_reader net k r ≡ true) (eqb-true n m is) named in or_left _ _ here ∙ sym here
    by_test false is = sym (or_none (is_reader net m r))

pub both_named : (net : NetValue) (r : ℕ) (nodes : List ℕ) (over : Option ℕ) (m : ℕ) → All (λ n. is_reader net n r ≡ true) nodes →
    IfSome over (λ n. is_reader net n r ≡ true) → (is_reader net m r || (is_one_of nodes m || is_over m over)) ≡ is_reader net m r
both_named net r nodes over m all named =
    sym (or_three (is_reader net m r) (is_one_of nodes m) (is_over m over)) ∙ ap (λ b. b || is_over m over) (one_of_named net r nodes m all)
    ∙ over_named net r over m named
