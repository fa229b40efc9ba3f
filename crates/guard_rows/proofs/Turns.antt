-- What a place says of the values, and how a turn moves it.
use Rattle.std.proofs.Common.{◌≡◌, ℕ, ◌+◌, ◌-◌, ◌^◌, ◌<◌, ◌≤◌, Bool, true, false, cond, List, [], length, get_or, refl, sym, ap, subst, ◌∙◌, arith}
use Rattle.std.specs.Prelude.{◌≢◌, ◌==◌, ◌&&◌, ◌||◌, nat_lt, nat_le, All}
use Rattle.std.proofs.lemmas.Bool.{lt-ltb, le-ltb}
use Rattle.std.proofs.lemmas.List.{get_or_read}
use Rattle.prs_core.specs.Nets.{NetValue, up_of, down_of}
use Rattle.std.specs.Int.{bit_at}
use Rattle.prs_core.specs.Moves.{high, fired, guard_holds}
use Rattle.guard_rows.specs.Places.{GuardForm, walked, looked_up, by_count, count_of, overrides, row_place, step_of, total_to, readers_in, guard_rows_of, says_up, says_down, IsRow, AreRows}
use Rattle.guard_rows.proofs.Indexes.{bit_small, index_raised, index_lowered, index_small}
use Rattle.guard_rows.proofs.Counting.{count_raised, count_lowered, over_raised, over_lowered, count_few, up_at, down_at}
use Rattle.guard_rows.proofs.Masks.{tested}
use Rattle.guard_rows.proofs.Added.{edges_less}

place_raised : (values : List Bool) (m : ℕ) (inputs : GuardForm) → m < length values → high values m ≡ false →
    row_place (high (fired values m)) inputs ≡ row_place (high values) inputs + step_of m inputs
place_raised values m walked within low = refl
place_raised values m (looked_up ns) within low = index_raised values m ns within low
place_raised values m (by_count ns over) within low =
    omega (arith, count_raised values m ns within low, over_raised values m over within low)

place_lowered : (values : List Bool) (m : ℕ) (inputs : GuardForm) → m < length values → high values m ≡ true →
    row_place (high (fired values m)) inputs + step_of m inputs ≡ row_place (high values) inputs
place_lowered values m walked within up = refl
place_lowered values m (looked_up ns) within up = index_lowered values m ns within up
place_lowered values m (by_count ns over) within up =
    omega (arith, count_lowered values m ns within up, over_lowered values m over within up)

pub raise_room : (net : NetValue) (values : List Bool) (rows : List (ℕ × ℕ)) (places : List ℕ) (edges : List (List (ℕ × ℕ))) (m n : ℕ) →
    AreRows net values (guard_rows_of rows places edges) → m < length values → m < length net.first → n < length net.first → high values m ≡ false →
    get_or places n 0 + total_to n (get_or edges m []) < 2 ^ 32
raise_room net values rows places edges m n are within inside row low =
    let kept = are.each n row in
    by_inputs kept.inputs kept.row kept.place (kept.steps m inside)
  where
    by_inputs : (inputs : GuardForm) → IsRow (up_of net n) (down_of net n) inputs (get_or rows n (0, 0)) →
        get_or places n 0 ≡ row_place (high values) inputs → total_to n (get_or edges m []) ≡ step_of m inputs →
        get_or places n 0 + total_to n (get_or edges m []) < 2 ^ 32
    by_inputs walked table place step = omega arith
    by_inputs (looked_up ns) table place step =
        omega (arith, index_raised values m ns within low, index_small (high (fired values m)) ns table.few)
    by_inputs (by_count ns over) table place step =
        omega (
          arith,
          count_raised values m ns within low,
          count_few (high (fired values m)) ns,
          table.few,
          over_raised values m over within low,
          bit_small (overrides (high (fired values m)) over),
        )

pub lower_room : (net : NetValue) (values : List Bool) (rows : List (ℕ × ℕ)) (places : List ℕ) (edges : List (List (ℕ × ℕ))) (m n : ℕ) →
    AreRows net values (guard_rows_of rows places edges) → m < length values → m < length net.first → n < length net.first → high values m ≡ true →
    total_to n (get_or edges m []) ≤ get_or places n 0
lower_room net values rows places edges m n are within inside row up =
    let kept = are.each n row in
    omega (arith, kept.place, kept.steps m inside, place_lowered values m kept.inputs within up)

pub raised : (net : NetValue) (values : List Bool) (rows : List (ℕ × ℕ)) (places new : List ℕ) (edges : List (List (ℕ × ℕ))) (m : ℕ) →
    AreRows net values (guard_rows_of rows places edges) → m < length values → m < length net.first → high values m ≡ false →
    length new ≡ length places →
    ((n : ℕ) → n < length places → get_or new n 0 ≡ get_or places n 0 + total_to n (get_or edges m [])) →
    AreRows net (fired values m) (guard_rows_of rows new edges)
raised net values rows places new edges m are within inside low count moved = record {
  rows = are.rows;
  places = count ∙ are.places;
  edges = are.edges;
  each = λ n row. let kept = are.each n row in record {
    inputs = kept.inputs;
    row = kept.row;
    place = moved n (omega (arith, are.places)) ∙ omega (arith, kept.place, kept.steps m inside, place_raised values m kept.inputs within low);
    steps = kept.steps;
  };
  later = are.later;
  readers = are.readers;
}

pub lowered : (net : NetValue) (values : List Bool) (rows : List (ℕ × ℕ)) (places new : List ℕ) (edges : List (List (ℕ × ℕ))) (m : ℕ) →
    AreRows net values (guard_rows_of rows places edges) → m < length values → m < length net.first → high values m ≡ true →
    length new ≡ length places →
    ((n : ℕ) → n < length places → get_or new n 0 + total_to n (get_or edges m []) ≡ get_or places n 0) →
    AreRows net (fired values m) (guard_rows_of rows new edges)
lowered net values rows places new edges m are within inside up count moved = record {
  rows = are.rows;
  places = count ∙ are.places;
  edges = are.edges;
  each = λ n row. let kept = are.each n row in record {
    inputs = kept.inputs;
    row = kept.row;
    place = omega (arith, moved n (omega (arith, are.places)), kept.place, kept.steps m inside, place_lowered values m kept.inputs within up);
    steps = kept.steps;
  };
  later = are.later;
  readers = are.readers;
}

-- what the row of a node says at its place

pub says_below : (row : ℕ × ℕ) (place : ℕ) (raises lowers : Bool) → place < 2 ^ 30 → (bit_at row.0 place == 1) ≡ raises → (bit_at row.1 place == 1) ≡ lowers →
    (says_up row place ≡ raises) × (says_down row place ≡ lowers)
says_below row place raises lowers below up down = (
  ap (λ b. cond b (bit_at row.0 place == 1) (nat_le row.0 (place - 2 ^ 30) && nat_lt place (2 ^ 30 + 2 ^ 29))) (lt-ltb place (2 ^ 30) below) ∙ up,
  ap (λ b. cond b (bit_at row.1 place == 1) (place == 2 ^ 30 || nat_le (2 ^ 30 + 2 ^ 29) place)) (lt-ltb place (2 ^ 30) below) ∙ down,
)

pub says_above : (row : ℕ × ℕ) (place : ℕ) (raises lowers : Bool) → 2 ^ 30 ≤ place →
    (nat_le row.0 (place - 2 ^ 30) && nat_lt place (2 ^ 30 + 2 ^ 29)) ≡ raises → (place == 2 ^ 30 || nat_le (2 ^ 30 + 2 ^ 29) place) ≡ lowers →
    (says_up row place ≡ raises) × (says_down row place ≡ lowers)
says_above row place raises lowers above up down = (
  ap (λ b. cond b (bit_at row.0 place == 1) (nat_le row.0 (place - 2 ^ 30) && nat_lt place (2 ^ 30 + 2 ^ 29))) (le-ltb place (2 ^ 30) above) ∙ up,
  ap (λ b. cond b (bit_at row.1 place == 1) (place == 2 ^ 30 || nat_le (2 ^ 30 + 2 ^ 29) place)) (le-ltb place (2 ^ 30) above) ∙ down,
)

pub record IsSaid (raises lowers : Bool) (row : ℕ × ℕ) (place : ℕ) : Type 0 where
  pub small : place < 2 ^ 30 → place < 64
  pub says : (says_up row place ≡ raises) × (says_down row place ≡ lowers)

pub said : (net : NetValue) (values : List Bool) (rows : List (ℕ × ℕ)) (places : List ℕ) (edges : List (List (ℕ × ℕ))) (n : ℕ) →
    AreRows net values (guard_rows_of rows places edges) → n < length net.first → get_or places n 0 ≢ 64 →
    IsSaid (guard_holds (high values) (up_of net n)) (guard_holds (high values) (down_of net n)) (get_or rows n (0, 0)) (get_or places n 0)
said net values rows places edges n are within narrow =
    let kept = are.each n within in by_inputs kept.inputs (get_or rows n (0, 0)) (get_or places n 0) kept.row kept.place narrow
  where
    raises : Bool
    raises = guard_holds (high values) (up_of net n)

    lowers : Bool
    lowers = guard_holds (high values) (down_of net n)

    by_inputs : (inputs : GuardForm) (row : ℕ × ℕ) (place : ℕ) → IsRow (up_of net n) (down_of net n) inputs row →
        place ≡ row_place (high values) inputs → place ≢ 64 → IsSaid raises lowers row place
    by_inputs walked row place table at narrow = absurd (narrow at)
    by_inputs (looked_up ns) row place table at narrow =
        let small : place < 64 = omega (arith, at, index_small (high values) ns table.few) in record {
          small = λ below. small;
          says = says_below row place raises lowers (omega arith) (tested row.0 place raises (ap (bit_at row.0) at ∙ table.up (high values)))
              (tested row.1 place lowers (ap (bit_at row.1) at ∙ table.down (high values)));
        }
    by_inputs (by_count ns over) row place table at narrow =
        let v = high values in
        let k = count_of v ns in
        let few : k < 2 ^ 29 = omega (arith, count_few v ns, table.few) in record {
          small = λ below. absurd (omega (arith, at));
          says = says_above row place raises lowers (omega (arith, at)) (up_at (2 ^ 30) (2 ^ 29) place k row.0 (overrides v over) few at ∙ sym (table.up v))
              (down_at (2 ^ 30) (2 ^ 29) place k (overrides v over) few at ∙ sym (table.down v));
        }

-- of what was read there
pub read : (net : NetValue) (values : List Bool) (rows : List (ℕ × ℕ)) (places : List ℕ) (edges : List (List (ℕ × ℕ))) (n : ℕ) →
    AreRows net values (guard_rows_of rows places edges) → n < length net.first → (row : ℕ × ℕ) (place : ℕ) → row ≡ get_or rows n row →
    place ≡ get_or places n place → place ≢ 64 →
    IsSaid (guard_holds (high values) (up_of net n)) (guard_holds (high values) (down_of net n)) row place
read net values rows places edges n are within row place row_is place_is narrow =
    let at : place ≡ get_or places n 0 = get_or_read places n place (omega (arith, within, are.places)) place_is 0 in
    let here : row ≡ get_or rows n (0, 0) = get_or_read rows n row (omega (arith, within, are.rows)) row_is (0, 0) in
    let holds = said net values rows places edges n are within (subst (λ k. k ≢ 64) at narrow) in
    let raises = guard_holds (high values) (up_of net n) in
    let lowers = guard_holds (high values) (down_of net n) in
    subst (λ (r : ℕ × ℕ). IsSaid raises lowers r place) (sym here)
    (subst (λ k. IsSaid raises lowers (get_or rows n (0, 0)) k) (sym at) holds)

-- the edges of a node lead to rows
pub edges_within : (net : NetValue) (values : List Bool) (rows : List (ℕ × ℕ)) (places : List ℕ) (edges : List (List (ℕ × ℕ))) (n : ℕ) →
    AreRows net values (guard_rows_of rows places edges) → n < length net.first → (es : List (ℕ × ℕ)) (ps : List ℕ) → es ≡ get_or edges n [] → ps ≡ places →
    All (λ (e : ℕ × ℕ). e.0 < length ps) es
edges_within net values rows places edges n are within es ps same at =
    subst (λ k. All (λ (e : ℕ × ℕ). e.0 < k) es) (sym (ap length at ∙ are.places))
    (edges_less net (length net.first) n es (ap readers_in same ∙ are.readers n within))
