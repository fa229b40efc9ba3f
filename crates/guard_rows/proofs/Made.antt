-- One more node, with a row or without one.
use Rattle.std.proofs.Common.{◌≡◌, ℕ, ◌+◌, ◌<◌, Bool, true, false, cond, List, [], ◌∷◌, ◌++◌, length, get_or, replicate, refl, sym, ap, subst, ◌∙◌, arith}
use Rattle.std.specs.Prelude.{◌==◌, ◌||◌}
use Rattle.std.proofs.lemmas.Bool.{eqb-true, eqb-false, eq-eqb, ne_eqb}
use Rattle.std.proofs.lemmas.List.{length_push, get_or_push, get_or_append_left, get_or-replicate, length-replicate}
use Rattle.prs_core.specs.Nets.{NetValue, up_of, down_of}
use Rattle.prs_core.specs.Moves.{high}
use Rattle.prs_core.specs.Fans.{is_reader}
use Rattle.guard_rows.specs.Places.{GuardForm, walked, row_place, step_of, total_to, readers_in, guard_rows_of, IsRow, IsRowKept, AreRowsBelow, AreAdded}
use Rattle.guard_rows.proofs.Added.{have_before, have_behind, have_read}

pub none_below : (net : NetValue) (values : List Bool) (nodes : ℕ) → nodes ≡ length net.first →
    AreRowsBelow net values 0 0 (guard_rows_of [] [] (replicate nodes []))
none_below net values nodes count = record {
  rows = refl;
  places = refl;
  edges = length-replicate nodes [] ∙ count;
  each = λ n within. absurd (omega arith);
  later = λ m n inside from. ap (total_to n) (get_or-replicate nodes m [] [] (omega (arith, count)));
  readers = λ m inside. ap readers_in (get_or-replicate nodes m [] [] (omega (arith, count)));
}

-- the rows before stay as they are
pub kept_before : (net : NetValue) (values : List Bool) (count : ℕ) (rows : List (ℕ × ℕ)) (places : List ℕ) (edges new : List (List (ℕ × ℕ)))
    (row : ℕ × ℕ) (place n : ℕ) → length rows ≡ count → length places ≡ count → n < count → IsRowKept net values (guard_rows_of rows places edges) n →
    ((m : ℕ) → m < length net.first → total_to n (get_or new m []) ≡ total_to n (get_or edges m [])) →
    IsRowKept net values (guard_rows_of (rows ++ row ∷ []) (places ++ place ∷ []) new) n
kept_before net values count rows places edges new row place n rows_count places_count within kept same = record {
  inputs = kept.inputs;
  row = subst (IsRow (up_of net n) (down_of net n) kept.inputs) (sym (get_or_append_left rows (row ∷ []) (0, 0) n (omega (arith, rows_count)))) kept.row;
  place = get_or_append_left places (place ∷ []) 0 n (omega (arith, places_count)) ∙ kept.place;
  steps = λ m inside. same m inside ∙ kept.steps m inside;
}

-- the node is among the readers
pub read_added : (net : NetValue) (values : List Bool) (count : ℕ) (rows : List (ℕ × ℕ)) (places : List ℕ) (edges new : List (List (ℕ × ℕ))) →
    AreRowsBelow net values count count (guard_rows_of rows places edges) → AreAdded count (λ m. is_reader net m count) (λ m. 0) edges new →
    AreRowsBelow net values count (count + 1) (guard_rows_of rows places new)
read_added net values count rows places edges new are added = record {
  rows = are.rows;
  places = are.places;
  edges = added.count ∙ are.edges;
  each = λ n within. let kept = are.each n within in record {
    inputs = kept.inputs;
    row = kept.row;
    place = kept.place;
    steps = λ m inside. same m n inside ∙ kept.steps m inside;
  };
  later = λ m n inside from. same m n inside ∙ are.later m n inside from;
  readers = λ m inside. have_behind net count (λ m. false || is_reader net m count) new (λ m. refl)
      (added.readers net (λ m. false) (have_before net count edges (λ m within. are.readers m (omega (arith, within, are.edges))))) m
      (omega (arith, inside, added.count, are.edges));
}
  where
    same : (m r : ℕ) → m < length net.first → total_to r (get_or new m []) ≡ total_to r (get_or edges m [])
    same m r inside = added.total m r (omega (arith, inside, are.edges)) ∙ nothing (count == r) (total_to r (get_or edges m []))
      where
        nothing : (b : Bool) (t : ℕ) → t + cond b 0 0 ≡ t
        nothing true t = omega arith
        nothing false t = omega arith

pub wide_added : (net : NetValue) (values : List Bool) (count : ℕ) (rows : List (ℕ × ℕ)) (places : List ℕ) (edges : List (List (ℕ × ℕ))) →
    AreRowsBelow net values count (count + 1) (guard_rows_of rows places edges) →
    AreRowsBelow net values (count + 1) (count + 1) (guard_rows_of (rows ++ (0, 0) ∷ []) (places ++ 64 ∷ []) edges)
wide_added net values count rows places edges are = record {
  rows = length_push rows (0, 0) ∙ ap (λ k. k + 1) are.rows;
  places = length_push places 64 ∙ ap (λ k. k + 1) are.places;
  edges = are.edges;
  each = λ n within. by_test n within (n == count) refl;
  later = λ m n inside from. are.later m n inside (omega arith);
  readers = are.readers;
}
  where
    by_test : (n : ℕ) → n < count + 1 → (b : Bool) → (n == count) ≡ b →
        IsRowKept net values (guard_rows_of (rows ++ (0, 0) ∷ []) (places ++ 64 ∷ []) edges) n
    by_test n within true is = record {
      inputs = walked;
      row = tt;
      place = get_or_push places 64 0 n (are.places ∙ sym (eqb-true n count is));
      steps = λ m inside. are.later m n inside (let here = eqb-true n count is in omega arith);
    }
    by_test n within false is =
        let apart = eqb-false n count is in
        let before : n < count = omega arith in
        kept_before net values count rows places edges edges (0, 0) 64 n are.rows are.places before (are.each n before) (λ m inside. refl)

pub row_added : (net : NetValue) (values : List Bool) (count : ℕ) (rows : List (ℕ × ℕ)) (places : List ℕ) (edges new : List (List (ℕ × ℕ)))
    (inputs : GuardForm) (row : ℕ × ℕ) (place : ℕ) (names : ℕ → Bool) → AreRowsBelow net values count (count + 1) (guard_rows_of rows places edges) →
    IsRow (up_of net count) (down_of net count) inputs row →
    place ≡ row_place (high values) inputs →
    ((m : ℕ) → (is_reader net m count || names m) ≡ is_reader net m count) → AreAdded count names (λ m. step_of m inputs) edges new →
    AreRowsBelow net values (count + 1) (count + 1) (guard_rows_of (rows ++ row ∷ []) (places ++ place ∷ []) new)
row_added net values count rows places edges new inputs row place names are table at named added = record {
  rows = length_push rows row ∙ ap (λ k. k + 1) are.rows;
  places = length_push places place ∙ ap (λ k. k + 1) are.places;
  edges = added.count ∙ are.edges;
  each = λ n within. by_test n within (n == count) refl;
  later = λ m n inside from. added.total m n (omega (arith, are.edges)) ∙ omega (
    arith,
    are.later m n inside (omega arith),
    ap (λ b. cond b (step_of m inputs) 0) (ne_eqb count n (omega arith)),
  );
  readers = λ m inside. have_behind net count (λ m. is_reader net m count || names m) new named
      (added.readers net (λ m. is_reader net m count) (have_read net count edges (λ m within. are.readers m (omega (arith, within, are.edges))))) m
      (omega (arith, inside, added.count, are.edges));
}
  where
    by_test : (n : ℕ) → n < count + 1 → (b : Bool) → (n == count) ≡ b →
        IsRowKept net values (guard_rows_of (rows ++ row ∷ []) (places ++ place ∷ []) new) n
    by_test n within true is =
        let here : n ≡ count = eqb-true n count is in record {
          inputs = inputs;
          row = subst (λ (r : ℕ × ℕ). IsRow (up_of net n) (down_of net n) inputs r) (sym (get_or_push rows row (0, 0) n (are.rows ∙ sym here)))
              (subst (λ k. IsRow (up_of net k) (down_of net k) inputs row) (sym here) table);
          place = get_or_push places place 0 n (are.places ∙ sym here) ∙ at;
          steps = λ m inside. added.total m n (omega (arith, are.edges)) ∙ omega (
            arith,
            are.later m n inside (omega arith),
            ap (λ b. cond b (step_of m inputs) 0) (eq-eqb count n (sym here)),
          );
        }
    by_test n within false is =
        let apart = eqb-false n count is in
        let before : n < count = omega arith in
        kept_before net values count rows places edges new row place n are.rows are.places before (are.each n before)
        (λ m inside. added.total m n (omega (arith, are.edges))
        ∙ omega (arith, ap (λ b. cond b (step_of m inputs) 0) (ne_eqb count n (omega arith))))
