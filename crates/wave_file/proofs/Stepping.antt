-- One line more of a wave.
use Rattle.std.proofs.Common.{◌≡◌, ℕ, Some, None, inl, inr, ◌+◌, ◌<◌, ◌≤◌, ◌^◌, Bool, true, false, List, [], ◌∷◌, ◌++◌, length, get_or, refl, ap, sym, ◌∙◌, subst, arith}
use Rattle.std.specs.Prelude.{◌==◌, ◌⊎◌, not, nat_le, All, if◌then◌else◌}
use Rattle.std.proofs.lemmas.Bool.{cases_lt, le-ltb, ne_eqb, eqb-true}
use Rattle.std.proofs.lemmas.List.{append_assoc, append-nil, length_push}
use Rattle.std.proofs.lemmas.List.Elements.{All-nil, All-head, All-tail, All-push}
use Rattle.chp_base.specs.Names.{IsNodeName}
use Rattle.prs_core.specs.Moves.{high}
use Rattle.wave_file.specs.declared.fault.WaveFault.TheVariants.{TimeBack, TooMany, UnknownId, NoChange}
use Rattle.wave_file.specs.Waves.{WaveValue, wave_of, IsWave, IsKeptWave, NeverFall, var_spelling, naming_lines, id_of, value_spelling_of, first_lines, time_mark, mark_before, change_lines}
use Rattle.wave_file.specs.WaveLines.{is_id, id_value, GoesOnWithChange}
use Rattle.wave_file.specs.WaveReading.{WavePlace, at_timescale, at_scope, at_names, at_definitions, at_start, at_values, at_changes, timescale_line, scope_line, upscope_line, definitions_line, start_line, WaveLine, valued, BeginsWith, begins_timescale, begins_scope, begins_name, begins_upscope, begins_definitions, begins_start, begins_value, begins_time, begins_turn, values_behind, has_value, wave_line_fault, place_behind, IsToldTo, at_first_line, by_line}
use Rattle.wave_file.proofs.Cutting.{same_byte}
use Rattle.wave_file.proofs.Fronts.{front_of_names, front_of_values, last_time, front_at, AreWaveNodes, IsPlaceBefore, IsFront}
use Rattle.wave_file.proofs.IdLemmas.{id_back}
use Rattle.wave_file.proofs.WaveTexts.{var_push, first_push, change_push}

-- from one place to the next
pub record IsOneLine (p q : WavePlace) (rest behind : List ℕ) : Type 0 where
  pub reached : IsPlaceBefore behind q
  pub told : front_at q ++ behind ≡ front_at p ++ rest

one_line : (p q : WavePlace) (line rest behind : List ℕ) → IsPlaceBefore behind q → front_at q ≡ front_at p ++ line → rest ≡ line ++ behind →
    IsOneLine p q rest behind
one_line p q line rest behind reached front is = record {
  reached = reached;
  told = ap (λ t. t ++ behind) front ∙ append_assoc (front_at p) line behind ∙ ap (λ t. front_at p ++ t) (sym is);
}

-- a further name

name_front : (names : List (List ℕ)) (name : List ℕ) → front_of_names (names ++ name ∷ []) ≡ front_of_names names ++ var_spelling (length names) name
name_front names name =
    let count : 0 + length names ≡ length names = omega arith in
    ap (λ t. timescale_line ++ (scope_line ++ t)) (var_push 0 names name ∙ ap (λ k. naming_lines 0 names ++ var_spelling k name) count)

pub name_more : (names : List (List ℕ)) (name rest behind : List ℕ) → All IsNodeName names → length names < 65537 → IsNodeName name →
    rest ≡ var_spelling (length names) name ++ behind → IsOneLine (at_names names) (at_names (names ++ name ∷ [])) rest behind
name_more names name rest behind all few is whole =
    one_line (at_names names) (at_names (names ++ name ∷ [])) (var_spelling (length names) name) rest behind
    (omega (arith, length_push names name), All-push IsNodeName names name all is) (name_front names name) whole

pub names_over : (names : List (List ℕ)) (rest behind : List ℕ) → length names ≤ 65537 → All IsNodeName names → 2 ≤ length names →
    rest ≡ upscope_line ++ behind → IsOneLine (at_names names) (at_definitions names) rest behind
names_over names rest behind few all some whole =
    one_line (at_names names) (at_definitions names) upscope_line rest behind (record { some = some; most = few; named = all }) refl whole

pub definitions_over : (names : List (List ℕ)) (rest behind : List ℕ) → AreWaveNodes names → rest ≡ definitions_line ++ behind →
    IsOneLine (at_definitions names) (at_start names) rest behind
definitions_over names rest behind nodes whole =
    one_line (at_definitions names) (at_start names) definitions_line rest behind nodes
    (sym (append_assoc (front_of_names names) upscope_line definitions_line)) whole

pub start_over : (names : List (List ℕ)) (rest behind : List ℕ) → AreWaveNodes names → rest ≡ start_line ++ behind →
    IsOneLine (at_start names) (at_values names []) rest behind
start_over names rest behind nodes whole =
    one_line (at_start names) (at_values names []) start_line rest behind (nodes, omega (arith, nodes.some))
    (sym (append_assoc (front_of_names names) (upscope_line ++ definitions_line) start_line)) whole

-- a further first value

value_front : (names : List (List ℕ)) (first : List Bool) (value : Bool) →
    front_of_values names (first ++ value ∷ []) ≡ front_of_values names first ++ value_spelling_of value (id_of (length first))
value_front names first value =
    let count : 0 + length first ≡ length first = omega arith in
    ap (λ t. front_of_names names ++ (upscope_line ++ (definitions_line ++ (start_line ++ t))))
    (first_push 0 first value ∙ ap (λ k. first_lines 0 first ++ value_spelling_of value (id_of k)) count)
    ∙ sym (append_assoc (front_of_names names) (upscope_line ++ (definitions_line ++ (start_line ++ first_lines 0 first)))
    (value_spelling_of value (id_of (length first))))

-- before the changes
pub begin_front : (names : List (List ℕ)) (first : List Bool) → front_at (at_changes (wave_of names first []) 0) ≡ front_of_values names first
begin_front names first = append-nil (front_of_values names first)

pub begin_reached : (names : List (List ℕ)) (first : List Bool) (behind : List ℕ) → AreWaveNodes names → length first ≡ length names →
    IsPlaceBefore behind (at_changes (wave_of names first []) 0)
begin_reached names first behind nodes count = (
  record { some = nodes.some; most = nodes.most; values = count; nodes = All-nil _; times = tt },
  record { named = nodes.named; small = All-nil _ },
  inl refl,
)

pub value_more : (names : List (List ℕ)) (first : List Bool) (value : Bool) (rest behind : List ℕ) → AreWaveNodes names → length first < length names →
    rest ≡ value_spelling_of value (id_of (length first)) ++ behind →
    IsOneLine (at_values names first) (place_behind (at_values names first) (valued value)) rest behind
value_more names first value rest behind nodes some whole = by_count (length first + 1 == length names) refl
  where
    by_count : (e : Bool) → (length first + 1 == length names) ≡ e → IsOneLine (at_values names first) (if e
        then at_changes (wave_of names (first ++ value ∷ []) []) 0 else at_values names (first ++ value ∷ [])) rest behind
    by_count true is =
        let count : length first + 1 ≡ length names = eqb-true (length first + 1) (length names) is in
        one_line (at_values names first) (at_changes (wave_of names (first ++ value ∷ []) []) 0) (value_spelling_of value (id_of (length first))) rest behind
        (begin_reached names (first ++ value ∷ []) behind nodes (length_push first value ∙ count))
        (begin_front names (first ++ value ∷ []) ∙ value_front names first value) whole
    by_count false is =
        let other : length first + 1 ≡ length names → ⊥ = λ e. absurd (cc (is, same_count (length first + 1) (length names) e)) in
        let below : length first + 1 < length names = by_less (cases_lt (length first + 1) (length names)) other in
        one_line (at_values names first) (at_values names (first ++ value ∷ [])) (value_spelling_of value (id_of (length first))) rest behind
        (nodes, omega (arith, length_push first value, below)) (value_front names first value) whole
      where
        same_count : (m n : ℕ) → m ≡ n → (m == n) ≡ true
        same_count m n e = grind arith

        by_less : (length first + 1 < length names) ⊎ (length names ≤ length first + 1) → (length first + 1 ≡ length names → ⊥) →
            length first + 1 < length names
        by_less (inl below) other = below
        by_less (inr over) other = absurd (other (omega (arith, some, over)))

-- a mark and a change

pub no_mark_and_turn : (time : ℕ) (value : Bool) (id a b : List ℕ) → time_mark time ++ a ≡ value_spelling_of value id ++ b → ⊥
no_mark_and_turn time true id a b e = let f : 35 ≡ 49 = ap (λ t. get_or t 0 0) e in absurd (omega (arith, f))
no_mark_and_turn time false id a b e = let f : 35 ≡ 48 = ap (λ t. get_or t 0 0) e in absurd (omega (arith, f))

pub same_mark : (n : ℕ) → mark_before n n ≡ []
same_mark n = by_case (n == n) refl
  where
    by_case : (e : Bool) → (n == n) ≡ e → (if n == n then [] else time_mark n) ≡ []
    by_case true is = rw is refl
    by_case false is = absurd (cc (is, same_byte n))

pub mark_more : (w : WaveValue) (now time : ℕ) (rest behind : List ℕ) → IsPlaceBefore rest (at_changes w now) → now < time → time < 2 ^ 64 →
    GoesOnWithChange behind → rest ≡ time_mark time ++ behind → IsOneLine (at_changes w now) (at_changes w time) rest behind
mark_more w now time rest behind reached later small goes_on whole = by_mark reached.2
  where
    last : ℕ
    last = last_time 0 w.changes

    by_mark : (now ≡ last) ⊎ ((last < now) × (now < 2 ^ 64) × GoesOnWithChange rest) → IsOneLine (at_changes w now) (at_changes w time) rest behind
    by_mark (inl is) =
        let here : mark_before last now ≡ [] = ap (mark_before last) is ∙ same_mark last in
        let there : mark_before last time ≡ time_mark time =
        ap (λ b. if b then [] else time_mark time) (ne_eqb last time (λ e. absurd (omega (arith, e, is)))) in
        let all = change_lines 0 w.first w.changes in
        let inner : all ++ mark_before last time ≡ (all ++ mark_before last now) ++ time_mark time =
        ap (λ t. all ++ t) there ∙ ap (λ t. t ++ time_mark time) (sym (append-nil all) ∙ ap (λ t. all ++ t) (sym here)) in
        one_line (at_changes w now) (at_changes w time) (time_mark time) rest behind
        (reached.0, reached.1, inr (omega (arith, later, is), small, goes_on))
        (ap (λ t. front_of_values w.names w.first ++ t) inner
        ∙ sym (append_assoc (front_of_values w.names w.first) (all ++ mark_before last now) (time_mark time)))
        whole
    by_mark (inr marked) =
        let change = marked.2 in
        absurd (no_mark_and_turn time change.0 change.1 behind change.2 (sym whole ∙ change.4))

never_push : (now : ℕ) (cs : List (ℕ × ℕ)) (time node : ℕ) → NeverFall now cs → last_time now cs ≤ time → NeverFall now (cs ++ (time, node) ∷ [])
never_push now [] time node falls later = (later, tt)
never_push now (c ∷ cs) time node falls later = (falls.0, never_push c.0 cs time node falls.1 later)

last_push : (now : ℕ) (cs : List (ℕ × ℕ)) (time node : ℕ) → last_time now (cs ++ (time, node) ∷ []) ≡ time
last_push now [] time node = refl
last_push now (c ∷ cs) time node = last_push c.0 cs time node

last_small : (now : ℕ) (cs : List (ℕ × ℕ)) → now < 2 ^ 64 → All (λ (c : ℕ × ℕ). c.0 < 2 ^ 64) cs → last_time now cs < 2 ^ 64
last_small now [] below all = below
last_small now (c ∷ cs) below all =
    last_small c.0 cs (All-head (λ (c : ℕ × ℕ). c.0 < 2 ^ 64) c cs all) (All-tail (λ (c : ℕ × ℕ). c.0 < 2 ^ 64) c cs all)

has_other : (values : List Bool) (node : ℕ) (value : Bool) → has_value values node value ≡ false → not (high values node) ≡ value
has_other values node true e = by_case (high values node) e
  where
    by_case : (b : Bool) → b ≡ false → not b ≡ true
    by_case true f = absurd (cc f)
    by_case false f = refl
has_other values node false e = e

pub turn_more : (w : WaveValue) (now : ℕ) (value : Bool) (id rest behind : List ℕ) → IsPlaceBefore rest (at_changes w now) → is_id id ≡ true →
    id_value id < length w.names → has_value (values_behind w.first w.changes) (id_value id) value ≡ false →
    rest ≡ value_spelling_of value id ++ behind →
    IsOneLine (at_changes w now) (at_changes (wave_of w.names w.first (w.changes ++ (now, id_value id) ∷ [])) now) rest behind
turn_more w now value id rest behind reached form few other whole =
    let line = value_spelling_of value id in
    let all = change_lines 0 w.first w.changes in
    let spelled : id ≡ id_of node = id_back id form (omega (arith, few, wave.most)) in
    let turn : value_spelling_of (not (high (values_behind w.first w.changes) node)) (id_of node) ≡ line =
    ap (λ v. value_spelling_of v (id_of node)) (has_other (values_behind w.first w.changes) node value other) ∙ ap (value_spelling_of value) (sym spelled) in
    let over : mark_before (last_time 0 (w.changes ++ (now, node) ∷ [])) now ≡ [] =
    ap (λ t. mark_before t now) (last_push 0 w.changes now node) ∙ same_mark now in
    let inner : change_lines 0 w.first (w.changes ++ (now, node) ∷ []) ++ mark_before (last_time 0 (w.changes ++ (now, node) ∷ [])) now
    ≡ (all ++ mark_before last now) ++ line =
    ap (λ t. change_lines 0 w.first (w.changes ++ (now, node) ∷ []) ++ t) over ∙ append-nil (change_lines 0 w.first (w.changes ++ (now, node) ∷ []))
    ∙ change_push 0 w.first w.changes (now, node) ∙ ap (λ t. all ++ (mark_before last now ++ t)) turn ∙ sym (append_assoc all (mark_before last now) line) in
    one_line (at_changes w now) (at_changes (wave_of w.names w.first (w.changes ++ (now, node) ∷ [])) now) line rest behind
    (more_wave, more_kept, inl (sym (last_push 0 w.changes now node)))
    (ap (λ t. front_of_values w.names w.first ++ t) inner
    ∙ sym (append_assoc (front_of_values w.names w.first) (all ++ mark_before last now) line))
    whole
  where
    node : ℕ
    node = id_value id

    last : ℕ
    last = last_time 0 w.changes

    wave : IsWave w
    wave = reached.0

    not_before : (now ≡ last) ⊎ ((last < now) × (now < 2 ^ 64) × GoesOnWithChange rest) → (last ≤ now) × (now < 2 ^ 64)
    not_before (inl is) = (omega (arith, is), subst (λ n. n < 2 ^ 64) (sym is) (last_small 0 w.changes (omega arith) reached.1.small))
    not_before (inr marked) = (omega (arith, marked.0), marked.1)

    more_wave : IsWave (wave_of w.names w.first (w.changes ++ (now, node) ∷ []))
    more_wave = record {
      some = wave.some;
      most = wave.most;
      values = wave.values;
      nodes = All-push (λ (c : ℕ × ℕ). c.1 < length w.names) w.changes (now, node) wave.nodes few;
      times = never_push 0 w.changes now node wave.times (not_before reached.2).0;
    }

    more_kept : IsKeptWave (wave_of w.names w.first (w.changes ++ (now, node) ∷ []))
    more_kept = record {
      named = reached.1.named;
      small = All-push (λ (c : ℕ × ℕ). c.0 < 2 ^ 64) w.changes (now, node) reached.1.small (not_before reached.2).1;
    }

-- each line without a fault leads to the place behind it
pub step : (p : WavePlace) (l : WaveLine) (rest behind : List ℕ) → IsPlaceBefore rest p → BeginsWith rest behind p l → wave_line_fault p l ≡ None →
    IsOneLine p (place_behind p l) rest behind
step p l rest behind reached (begins_timescale whole) none = one_line at_timescale at_scope timescale_line rest behind tt refl whole
step p l rest behind reached (begins_scope whole) none =
    one_line at_scope (at_names []) scope_line rest behind (omega arith, All-nil IsNodeName) refl whole
step p l rest behind reached (begins_name {names = names} {name = name} is whole) none =
    by_count (cases_lt (length names) 65537)
  where
    by_count : (length names < 65537) ⊎ (65537 ≤ length names) → IsOneLine (at_names names) (at_names (names ++ name ∷ [])) rest behind
    by_count (inl few) = name_more names name rest behind reached.1 few is whole
    by_count (inr many) = absurd (cc (none, ap (λ b. if b then None else Some TooMany) (le-ltb (length names) 65537 many)))
step p l rest behind reached (begins_upscope {names = names} some whole) none = names_over names rest behind reached.0 reached.1 some whole
step p l rest behind reached (begins_definitions {names = names} whole) none = definitions_over names rest behind reached whole
step p l rest behind reached (begins_start {names = names} whole) none = start_over names rest behind reached whole
step p l rest behind reached (begins_value {names = names} {first = first} {value = value} whole) none =
    value_more names first value rest behind reached.0 reached.1 whole
step p l rest behind reached (begins_time {w = w} {now = now} {time = time} small goes_on whole) none = by_time (cases_lt now time)
  where
    by_time : (now < time) ⊎ (time ≤ now) → IsOneLine (at_changes w now) (at_changes w time) rest behind
    by_time (inl later) = mark_more w now time rest behind reached later small goes_on whole
    by_time (inr back) = absurd (cc (none, ap (λ b. if b then None else Some TimeBack) (le-ltb now time back)))
step p l rest behind reached (begins_turn {w = w} {now = now} {value = value} {id = id} form whole) none =
    by_node (nat_le (length w.names) (id_value id)) refl (has_value (values_behind w.first w.changes) (id_value id) value) refl none
  where
    by_node : (many : Bool) → nat_le (length w.names) (id_value id) ≡ many → (same : Bool) →
        has_value (values_behind w.first w.changes) (id_value id) value ≡ same →
        (if many then Some UnknownId else (if same then Some NoChange else None)) ≡ None →
        IsOneLine (at_changes w now) (at_changes (wave_of w.names w.first (w.changes ++ (now, id_value id) ∷ [])) now) rest behind
    by_node true is same has e = absurd (cc e)
    by_node false is true has e = absurd (cc e)
    by_node false is false has e = turn_more w now value id rest behind reached form (below (cases_lt (id_value id) (length w.names))) has whole
      where
        at_most : (m n : ℕ) → m ≤ n → nat_le m n ≡ true
        at_most m n less = grind arith

        below : (id_value id < length w.names) ⊎ (length w.names ≤ id_value id) → id_value id < length w.names
        below (inl less) = less
        below (inr more) = absurd (cc (is, at_most (length w.names) (id_value id) more))

-- so what is so at each position follows line by line
pub front_told : (text : List ℕ) (lines : ℕ) (p : WavePlace) (rest : List ℕ) → IsToldTo text lines p rest → IsFront text p rest
front_told text lines p rest at_first_line = record { told = refl; reached = tt }
front_told text lines p rest (by_line {lines = k} {place = q} {rest = was} {l = l} before begins none) =
    let so_far = front_told text k q was before in
    let next = step q l was rest so_far.reached begins none in
    record { told = so_far.told ∙ sym next.told; reached = next.reached }
