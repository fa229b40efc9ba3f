-- How a text is told line by line, and where it is refused.
use Rattle.std.proofs.Common.{◌≡◌, ◌≢◌, ℕ, Some, None, inl, inr, ◌+◌, ◌*◌, ◌<◌, ◌≤◌, ◌^◌, Bool, true, false, Result, Ok, Err, IfOk, IfErr, List, [], ◌∷◌, ◌++◌, length, take, drop, refl, ap, sym, ◌∙◌, subst, arith, length-append}
use Rattle.std.specs.Prelude.{◌==◌, ◌⊎◌, not, nat_le, if◌then◌else◌}
use Rattle.std.specs.Borrow.{Bor}
use Rattle.std.specs.Result.{IsErrAnd}
use Rattle.std.proofs.lemmas.Bool.{lt-ltb, le-ltb, ne_eqb, eqb-true}
use Rattle.std.proofs.lemmas.List.{length_push, append-nil, append_assoc, take_all, drop_all, length-set}
use Rattle.std.proofs.lemmas.Result.{err_from_is_err_and}
use Rattle.chp_base.specs.Names.{IsNodeName}
use Rattle.prs_core.specs.Moves.{fired, high}
use Rattle.wave_file.specs.declared.fault.WaveFault.{WaveFault}
use Rattle.wave_file.specs.declared.fault.WaveFault.TheVariants.{BadLine, UnknownId, TimeBack, NoChange, TooMany}
use Rattle.wave_file.specs.declared.fault.WaveError.{WaveError}
use Rattle.wave_file.specs.declared.fault.WaveError.TheVariants.{Refused, NoMemory}
use Rattle.wave_file.specs.declared.read.Told.{Told}
use Rattle.wave_file.specs.Waves.{WaveValue, wave_of, wave_spelling, var_spelling, id_of, value_spelling_of, time_mark, change_lines, naming_lines, first_lines, mark_before}
use Rattle.wave_file.specs.WaveFaults.{OfWaveRefusal}
use Rattle.wave_file.specs.WaveLines.{GoesOnWithChange, is_id, id_value}
use Rattle.wave_file.specs.WaveReading.{WavePlace, at_timescale, at_scope, at_names, at_definitions, at_start, at_values, at_changes, timescale_line, scope_line, upscope_line, definitions_line, start_line, WaveLine, named, valued, timed, turned, BeginsWith, begins_timescale, begins_scope, begins_name, begins_upscope, begins_definitions, begins_start, begins_value, begins_time, begins_turn, values_behind, has_value, turn_fault, wave_line_fault, MayEndAt, IsFaultAt, no_line, bad_line, IsToldTo, at_first_line, by_line, IsWaveRefused, IsWaveText, place_behind}
use Rattle.wave_file.specs.WaveTold.{IsLineOn, IsRefusedFrom, IsSoFar, with_turn, ComesOn}
use Rattle.wave_file.proofs.Fronts.{front_of_values, last_time, front_at, IsFront}
use Rattle.wave_file.proofs.Stepping.{front_told, same_mark}
use Rattle.wave_file.proofs.WaveTexts.{values_push}

pub refuse : (whole : List ℕ) (lines : ℕ) (p : WavePlace) (rest : List ℕ) (fault : WaveFault) (line : ℕ) → IsToldTo whole lines p rest →
    IsFaultAt p rest fault → line ≡ lines + 1 → IsWaveRefused whole fault line
refuse whole lines p rest fault line so_far here number =
    record { place = p; rest = rest; lines = lines; before = so_far; here = here; number = number }

-- what is left is no longer than the whole
pub told_short : (whole : List ℕ) (lines : ℕ) (p : WavePlace) (rest : List ℕ) → IsToldTo whole lines p rest → length rest ≤ length whole
told_short whole lines p rest so_far = omega (arith, ap length (front_told whole lines p rest so_far).told, length-append (front_at p) rest)

pub line_short : (line rest behind : List ℕ) → rest ≡ line ++ behind → length behind ≤ length rest
line_short line rest behind is = omega (arith, ap length is, length-append line behind)

-- a refusal that is handed on

pub handed_on : {T E : Type 0} (r : Result T E) (e : E) (Q : E → Type 0) → IsErrAnd r (λ x. x ≡ e) → Q e → IfErr r Q
handed_on {T} {E} r e Q h is =
    let p = err_from_is_err_and r h in
    subst (λ (s : Result T E). IfErr s Q) (sym p.1) (subst Q (sym p.2) is)

pub refused_on : {T : Type 0} (r : Result T WaveError) (e : WaveError) (whole : List ℕ) → IsErrAnd r (λ x. x ≡ e) →
    OfWaveRefusal (IsWaveRefused whole) e → IfErr r (OfWaveRefusal (IsWaveRefused whole))
refused_on r e whole h is = handed_on r e (OfWaveRefusal (IsWaveRefused whole)) h is

pub refused_from : {T : Type 0} (r : Result T WaveError) (e : WaveError) (lines : ℕ) (p : WavePlace) (rest : List ℕ) → IsErrAnd r (λ x. x ≡ e) →
    IsRefusedFrom lines p rest e → IfErr r (IsRefusedFrom lines p rest)
refused_from r e lines p rest h is = handed_on r e (IsRefusedFrom lines p rest) h is

-- what is said of each text, said of one

pub refused_whole : {T : Type 0} (r : Result T WaveError) (lines : ℕ) (p : WavePlace) (rest text : List ℕ) → IsToldTo text lines p rest →
    IfErr r (IsRefusedFrom lines p rest) → IfErr r (OfWaveRefusal (IsWaveRefused text))
refused_whole (Ok x) lines p rest text so_far h = tt
refused_whole (Err e) lines p rest text so_far h = h text so_far

pub read_whole : {T : Type 0} (r : Result T WaveError) (lines : ℕ) (p : WavePlace) (rest text : List ℕ) (Q : List ℕ → T → Type 0) →
    IsToldTo text lines p rest → IfOk r (λ x. (whole : List ℕ) → IsToldTo whole lines p rest → Q whole x) → IfOk r (Q text)
read_whole (Ok x) lines p rest text Q so_far h = h text so_far
read_whole (Err e) lines p rest text Q so_far h = tt

-- a line that is no other than one

pub stock_refused : (p : WavePlace) (line rest whole : List ℕ) (lines number : ℕ) → IsToldTo whole lines p rest → (MayEndAt p rest → ⊥) →
    ((l : WaveLine) (behind : List ℕ) → BeginsWith rest behind p l → rest ≡ line ++ behind) → number ≡ lines + 1 → (e : WaveError) →
    OfWaveRefusal (λ fault n. (fault ≡ BadLine) × (n ≡ number) × ((more : List ℕ) → rest ≢ line ++ more)) e → OfWaveRefusal (IsWaveRefused whole) e
stock_refused p line rest whole lines number so_far never only count (Refused fault n) h =
    refuse whole lines p rest fault n so_far (subst (IsFaultAt p rest) (sym h.0) (no_line never (λ l behind begins. h.2 behind (only l behind begins))))
    (h.1 ∙ count)
stock_refused p line rest whole lines number so_far never only count (NoMemory e) h = tt

only_timescale : (rest : List ℕ) (l : WaveLine) (behind : List ℕ) → BeginsWith rest behind at_timescale l → rest ≡ timescale_line ++ behind
only_timescale rest l behind (begins_timescale whole) = whole

only_scope : (rest : List ℕ) (l : WaveLine) (behind : List ℕ) → BeginsWith rest behind at_scope l → rest ≡ scope_line ++ behind
only_scope rest l behind (begins_scope whole) = whole

only_definitions : (names : List (List ℕ)) (rest : List ℕ) (l : WaveLine) (behind : List ℕ) → BeginsWith rest behind (at_definitions names) l →
    rest ≡ definitions_line ++ behind
only_definitions names rest l behind (begins_definitions whole) = whole

only_start : (names : List (List ℕ)) (rest : List ℕ) (l : WaveLine) (behind : List ℕ) → BeginsWith rest behind (at_start names) l →
    rest ≡ start_line ++ behind
only_start names rest l behind (begins_start whole) = whole

abbrev pub IsRefusedLine : (line rest : List ℕ) → ℕ → WaveError → Type 0
IsRefusedLine line rest number e = OfWaveRefusal (λ fault n. (fault ≡ BadLine) × (n ≡ number) × ((more : List ℕ) → rest ≢ line ++ more)) e

pub timescale_refused : (text : List ℕ) (e : WaveError) → IsRefusedLine timescale_line text 1 e → OfWaveRefusal (IsWaveRefused text) e
timescale_refused text e h = stock_refused at_timescale timescale_line text text 0 1 at_first_line (λ end. end) (only_timescale text) refl e h

scope_told : (text rest : List ℕ) → text ≡ timescale_line ++ rest → IsToldTo text 1 at_scope rest
scope_told text rest is = by_line at_first_line (begins_timescale is) refl

pub scope_refused : (text rest : List ℕ) (e : WaveError) → text ≡ timescale_line ++ rest → IsRefusedLine scope_line rest 2 e →
    OfWaveRefusal (IsWaveRefused text) e
scope_refused text rest e is h = stock_refused at_scope scope_line rest text 1 2 (scope_told text rest is) (λ end. end) (only_scope rest) refl e h

pub head_told : (text rest behind : List ℕ) → text ≡ timescale_line ++ rest → rest ≡ scope_line ++ behind → IsToldTo text 2 (at_names []) behind
head_told text rest behind is whole = by_line (scope_told text rest is) (begins_scope whole) refl

pub head_all : (r : Result (Bor (List ℕ)) WaveError) (text mid : List ℕ) → text ≡ timescale_line ++ mid → IfOk r (λ x. mid ≡ scope_line ++ x.now) →
    IfOk r (λ x. IsToldTo text 2 (at_names []) x.now)
head_all (Ok x) text mid is whole = head_told text mid x.now is whole
head_all (Err e) text mid is whole = tt

pub head_none : (r : Result (Bor (List ℕ)) WaveError) (text mid : List ℕ) → text ≡ timescale_line ++ mid → IfErr r (λ e. IsRefusedLine scope_line mid 2 e) →
    IfErr r (OfWaveRefusal (IsWaveRefused text))
head_none (Ok x) text mid is h = tt
head_none (Err e) text mid is h = scope_refused text mid e is h

-- the names

pub names_more : (whole rest behind : List ℕ) (names : List (List ℕ)) (name : List ℕ) → IsToldTo whole (length names + 2) (at_names names) rest →
    length names < 65537 → IsNodeName name → rest ≡ var_spelling (length names) name ++ behind →
    IsToldTo whole (length (names ++ name ∷ []) + 2) (at_names (names ++ name ∷ [])) behind
names_more whole rest behind names name so_far few is begins =
    let next = by_line so_far (begins_name is begins)
    (ap (λ b. if b then None else Some TooMany) (lt-ltb (length names) 65537 few)) in
    let count : (length names + 2) + 1 ≡ length (names ++ name ∷ []) + 2 = omega (arith, length_push names name) in
    subst (λ n. IsToldTo whole n (at_names (names ++ name ∷ [])) behind) count next

pub names_many : (whole rest behind : List ℕ) (names : List (List ℕ)) (name : List ℕ) (line : ℕ) →
    IsToldTo whole (length names + 2) (at_names names) rest → 65537 ≤ length names → IsNodeName name →
    rest ≡ var_spelling (length names) name ++ behind → line ≡ length names + 3 → IsWaveRefused whole TooMany line
names_many whole rest behind names name line so_far many is begins count =
    refuse whole (length names + 2) (at_names names) rest TooMany line so_far
    (bad_line {l = named name} {behind = behind} (begins_name is begins) (ap (λ b. if b then None else Some TooMany) (le-ltb (length names) 65537 many)))
    (omega (arith, count))

abbrev pub NamesNone : List (List ℕ) → List ℕ → Type 0
NamesNone names rest = (name behind : List ℕ) → IsNodeName name → rest ≢ var_spelling (length names) name ++ behind

pub names_few : (whole rest : List ℕ) (names : List (List ℕ)) (line : ℕ) → IsToldTo whole (length names + 2) (at_names names) rest → length names < 2 →
    NamesNone names rest → line ≡ length names + 3 → IsWaveRefused whole BadLine line
names_few whole rest names line so_far few none count =
    refuse whole (length names + 2) (at_names names) rest BadLine line so_far (no_line (λ end. end) never) (omega (arith, count))
  where
    never : (l : WaveLine) (behind : List ℕ) → BeginsWith rest behind (at_names names) l → ⊥
    never l behind (begins_name is whole) = none _ behind is whole
    never l behind (begins_upscope some whole) = absurd (omega (arith, some, few))

pub upscope_refused : (whole rest : List ℕ) (names : List (List ℕ)) (number : ℕ) (e : WaveError) → IsToldTo whole (length names + 2) (at_names names) rest →
    NamesNone names rest → number ≡ length names + 3 → IsRefusedLine upscope_line rest number e → OfWaveRefusal (IsWaveRefused whole) e
upscope_refused whole rest names number e so_far none count h =
    stock_refused (at_names names) upscope_line rest whole (length names + 2) number so_far (λ end. end) only (omega (arith, count)) e h
  where
    only : (l : WaveLine) (behind : List ℕ) → BeginsWith rest behind (at_names names) l → rest ≡ upscope_line ++ behind
    only l behind (begins_name is whole) = absurd (none _ behind is whole)
    only l behind (begins_upscope some whole) = whole

pub upscope_told : (whole rest behind : List ℕ) (names : List (List ℕ)) → IsToldTo whole (length names + 2) (at_names names) rest → 2 ≤ length names →
    rest ≡ upscope_line ++ behind → IsToldTo whole (length names + 3) (at_definitions names) behind
upscope_told whole rest behind names so_far some is =
    let next = by_line so_far (begins_upscope some is) refl in
    let count : (length names + 2) + 1 ≡ length names + 3 = omega arith in
    subst (λ n. IsToldTo whole n (at_definitions names) behind) count next

-- the end of the definitions, and the start

pub definitions_refused : (whole rest : List ℕ) (names : List (List ℕ)) (number : ℕ) (e : WaveError) →
    IsToldTo whole (length names + 3) (at_definitions names) rest → number ≡ length names + 4 → IsRefusedLine definitions_line rest number e →
    OfWaveRefusal (IsWaveRefused whole) e
definitions_refused whole rest names number e so_far count h =
    stock_refused (at_definitions names) definitions_line rest whole (length names + 3) number so_far (λ end. end) (only_definitions names rest)
    (omega (arith, count)) e h

definitions_told : (whole rest behind : List ℕ) (names : List (List ℕ)) → IsToldTo whole (length names + 3) (at_definitions names) rest →
    rest ≡ definitions_line ++ behind → IsToldTo whole (length names + 4) (at_start names) behind
definitions_told whole rest behind names so_far is =
    let next = by_line so_far (begins_definitions is) refl in
    let count : (length names + 3) + 1 ≡ length names + 4 = omega arith in
    subst (λ n. IsToldTo whole n (at_start names) behind) count next

pub start_refused : (whole rest behind : List ℕ) (names : List (List ℕ)) (number : ℕ) (e : WaveError) →
    IsToldTo whole (length names + 3) (at_definitions names) rest → rest ≡ definitions_line ++ behind → number ≡ length names + 5 →
    IsRefusedLine start_line behind number e → OfWaveRefusal (IsWaveRefused whole) e
start_refused whole rest behind names number e so_far is count h =
    stock_refused (at_start names) start_line behind whole (length names + 4) number (definitions_told whole rest behind names so_far is) (λ end. end)
    (only_start names behind) (omega (arith, count)) e h

pub start_told : (whole rest behind more : List ℕ) (names : List (List ℕ)) → IsToldTo whole (length names + 3) (at_definitions names) rest →
    rest ≡ definitions_line ++ behind → behind ≡ start_line ++ more → IsToldTo whole (length names + 5) (at_values names []) more
start_told whole rest behind more names so_far is also =
    let next = by_line (definitions_told whole rest behind names so_far is) (begins_start also) refl in
    let count : (length names + 4) + 1 ≡ length names + 5 = omega arith in
    subst (λ n. IsToldTo whole n (at_values names []) more) count next

pub start_all : (r : Result (Bor (List ℕ)) WaveError) (text mid : List ℕ) (names : List (List ℕ)) → text ≡ definitions_line ++ mid →
    IfOk r (λ x. mid ≡ start_line ++ x.now) →
    IfOk r (λ x. ComesOn (length names + 3) (at_definitions names) text (length names + 5) (at_values names []) x.now)
start_all (Ok x) text mid names is also = λ whole so_far. start_told whole text mid x.now names so_far is also
start_all (Err e) text mid names is also = tt

pub start_short : (r : Result (Bor (List ℕ)) WaveError) (text mid : List ℕ) → text ≡ definitions_line ++ mid → IfOk r (λ x. mid ≡ start_line ++ x.now) →
    IfOk r (λ x. length x.now ≤ length text)
start_short (Ok x) text mid is also = omega (arith, line_short definitions_line text mid is, line_short start_line mid x.now also)
start_short (Err e) text mid is also = tt

pub start_none : (r : Result (Bor (List ℕ)) WaveError) (text mid : List ℕ) (names : List (List ℕ)) (number : ℕ) → text ≡ definitions_line ++ mid →
    number ≡ length names + 5 → IfErr r (λ e. IsRefusedLine start_line mid number e) →
    IfErr r (IsRefusedFrom (length names + 3) (at_definitions names) text)
start_none (Ok x) text mid names number is count h = tt
start_none (Err e) text mid names number is count h = λ whole so_far. start_refused whole text mid names number e so_far is count h

-- the first values

abbrev pub place_of_values : List (List ℕ) → List Bool → WavePlace
place_of_values names first = if length first == length names then at_changes (wave_of names first []) 0 else at_values names first

values_open : (names : List (List ℕ)) (first : List Bool) → length first < length names → place_of_values names first ≡ at_values names first
values_open names first some =
    ap (λ b. if b then at_changes (wave_of names first []) 0 else at_values names first)
    (ne_eqb (length first) (length names) (λ e. absurd (omega (arith, e, some))))

pub values_begin : (whole rest : List ℕ) (names : List (List ℕ)) → IsToldTo whole (length names + 5) (at_values names []) rest →
    IsToldTo whole (length names + 0 + 5) (place_of_values names []) rest
values_begin whole rest names so_far =
    let count : length names + 5 ≡ length names + 0 + 5 = omega arith in
    subst (λ n. IsToldTo whole n (place_of_values names []) rest) count (subst (λ p. IsToldTo whole (length names + 5) p rest)
    (sym (values_open names [] (omega (arith, (front_told whole (length names + 5) (at_values names []) rest so_far).reached.1)))) so_far)

pub values_more : (whole rest behind : List ℕ) (names : List (List ℕ)) (first : List Bool) (value : Bool) (node : ℕ) → node ≡ length first →
    node < length names → IsToldTo whole (length names + node + 5) (place_of_values names first) rest →
    rest ≡ value_spelling_of value (id_of node) ++ behind →
    IsToldTo whole (length names + (node + 1) + 5) (place_of_values names (first ++ value ∷ [])) behind
values_more whole rest behind names first value node is some so_far begins =
    let here : IsToldTo whole (length names + node + 5) (at_values names first) rest =
    subst (λ p. IsToldTo whole (length names + node + 5) p rest) (values_open names first (omega (arith, is, some))) so_far in
    let count : (length names + node + 5) + 1 ≡ length names + (node + 1) + 5 = omega arith in
    let next = by_line here (begins_value (begins ∙ ap (λ k. value_spelling_of value (id_of k) ++ behind) is)) refl in
    let place : place_behind (at_values names first) (valued value) ≡ place_of_values names (first ++ value ∷ []) =
    ap (λ n. if n == length names then at_changes (wave_of names (first ++ value ∷ []) []) 0 else at_values names (first ++ value ∷ []))
    (sym (length_push first value)) in
    subst (λ n. IsToldTo whole n (place_of_values names (first ++ value ∷ [])) behind) count
    (subst (λ p. IsToldTo whole ((length names + node + 5) + 1) p behind) place next)

pub values_refused : (whole rest : List ℕ) (names : List (List ℕ)) (first : List Bool) (node line : ℕ) → node ≡ length first →
    node < length names → IsToldTo whole (length names + node + 5) (place_of_values names first) rest →
    ((value : Bool) (behind : List ℕ) → rest ≢ value_spelling_of value (id_of node) ++ behind) → line ≡ length names + node + 6 →
    IsWaveRefused whole BadLine line
values_refused whole rest names first node line is some so_far none count =
    let here : IsToldTo whole (length names + node + 5) (at_values names first) rest =
    subst (λ p. IsToldTo whole (length names + node + 5) p rest) (values_open names first (omega (arith, is, some))) so_far in
    refuse whole (length names + node + 5) (at_values names first) rest BadLine line here (no_line (λ end. end) never) (omega (arith, count))
  where
    never : (l : WaveLine) (behind : List ℕ) → BeginsWith rest behind (at_values names first) l → ⊥
    never l behind (begins_value {value = value} whole) = none value behind (whole ∙ ap (λ k. value_spelling_of value (id_of k) ++ behind) (sym is))

pub values_over : (whole rest : List ℕ) (names : List (List ℕ)) (first : List Bool) (node : ℕ) → node ≡ length first → node ≡ length names →
    IsToldTo whole (length names + node + 5) (place_of_values names first) rest →
    IsToldTo whole (2 * length names + 5) (at_changes (wave_of names first []) 0) rest
values_over whole rest names first node is all so_far =
    let over : place_of_values names first ≡ at_changes (wave_of names first []) 0 =
    ap (λ b. if b then at_changes (wave_of names first []) 0 else at_values names first) (same_count (length first) (length names) (sym is ∙ all)) in
    let count : length names + node + 5 ≡ 2 * length names + 5 = omega (arith, all) in
    subst (λ n. IsToldTo whole n (at_changes (wave_of names first []) 0) rest) count
    (subst (λ p. IsToldTo whole (length names + node + 5) p rest) over so_far)
  where
    same_count : (m n : ℕ) → m ≡ n → (m == n) ≡ true
    same_count m n e = grind arith

-- the changes

pub shorter : (rest behind : List ℕ) (p : WavePlace) (l : WaveLine) → BeginsWith rest behind p l → length behind < length rest
shorter rest behind p l (begins_timescale whole) = omega (arith, ap length whole, length-append timescale_line behind)
shorter rest behind p l (begins_scope whole) = omega (arith, ap length whole, length-append scope_line behind)
shorter rest behind p l (begins_name {names = names} {name = name} is whole) =
    omega (arith, ap length whole, length-append (var_spelling (length names) name) behind)
shorter rest behind p l (begins_upscope some whole) = omega (arith, ap length whole, length-append upscope_line behind)
shorter rest behind p l (begins_definitions whole) = omega (arith, ap length whole, length-append definitions_line behind)
shorter rest behind p l (begins_start whole) = omega (arith, ap length whole, length-append start_line behind)
shorter rest behind p l (begins_value {first = first} {value = true} whole) =
    omega (arith, ap length whole, length-append (value_spelling_of true (id_of (length first))) behind)
shorter rest behind p l (begins_value {first = first} {value = false} whole) =
    omega (arith, ap length whole, length-append (value_spelling_of false (id_of (length first))) behind)
shorter rest behind p l (begins_time {time = time} small goes_on whole) = omega (arith, ap length whole, length-append (time_mark time) behind)
shorter rest behind p l (begins_turn {value = true} {id = id} is whole) = omega (arith, ap length whole, length-append (value_spelling_of true id) behind)
shorter rest behind p l (begins_turn {value = false} {id = id} is whole) = omega (arith, ap length whole, length-append (value_spelling_of false id) behind)

-- a change

pub turn_unknown : (nodes : ℕ) (values : List Bool) (value : Bool) (id : List ℕ) → nodes ≤ id_value id →
    turn_fault nodes values value id ≡ Some UnknownId
turn_unknown nodes values value id many =
    ap (λ b. if b then Some UnknownId else (if has_value values (id_value id) value then Some NoChange else None)) (at_most nodes (id_value id) many)
  where
    at_most : (m n : ℕ) → m ≤ n → nat_le m n ≡ true
    at_most m n less = grind arith

pub turn_known : (nodes : ℕ) (values : List Bool) (value : Bool) (id : List ℕ) (node : ℕ) (has : Bool) → node ≡ id_value id → node < nodes →
    has_value values node value ≡ has → turn_fault nodes values value id ≡ (if has then Some NoChange else None)
turn_known nodes values value id node has at few is =
    ap (λ b. if b then Some UnknownId else (if has_value values (id_value id) value then Some NoChange else None))
    (below nodes (id_value id) (omega (arith, at, few)))
    ∙ ap (λ b. if b then Some NoChange else None) (ap (λ (k : ℕ). has_value values k value) (sym at) ∙ is)
  where
    below : (m n : ℕ) → n < m → nat_le m n ≡ false
    below m n less = grind arith

-- what is left of the values, where their slice was written
pub written_back : (n : ℕ) (xs new : List Bool) (node : ℕ) → n ≡ length xs → new ≡ fired xs node → take n (new ++ drop (length new) xs) ≡ fired xs node
written_back n xs new node all is =
    let same : length new ≡ length xs = ap length is ∙ length-set xs node (not (high xs node)) in
    ap (λ (t : List Bool). take n (new ++ t)) (drop_all (length new) xs (omega (arith, same))) ∙ ap (take n) (append-nil new)
    ∙ take_all n new (omega (arith, all, same)) ∙ is

-- of a wave so far

pub nothing_yet : (t : Told) (first : List Bool) (changes : List (ℕ × ℕ)) → first ≡ t.values.items → changes ≡ [] →
    IsSoFar t (wave_of t.names.items first changes)
nothing_yet t first changes same none = record {
  names = refl;
  values = sym same ∙ ap (values_behind first) (sym none);
}

pub turn_of : (t : Told) (w : WaveValue) (value : Bool) (id : List ℕ) → IsSoFar t w →
    wave_line_fault (at_changes w t.time) (turned value id) ≡ turn_fault (length t.names.items) t.values.items value id
turn_of t w value id is =
    ap (λ (ns : List (List ℕ)). turn_fault (length ns) (values_behind w.first w.changes) value id) (sym is.names)
    ∙ ap (λ (vs : List Bool). turn_fault (length t.names.items) vs value id) (sym is.values)

pub turn_on : (t u : Told) (w : WaveValue) (text rest : List ℕ) (value : Bool) (id : List ℕ) (node : ℕ) → IsSoFar t w → u.time ≡ t.time →
    node ≡ id_value id → BeginsWith text rest (at_changes w t.time) (turned value id) →
    turn_fault (length t.names.items) t.values.items value id ≡ None →
    IsLineOn text rest (at_changes w t.time) (at_changes (with_turn w u.time (Some node)) u.time)
turn_on t u w text rest value id node is now at begins none = (
  turned value id,
  begins,
  turn_of t w value id is ∙ none,
  ap (λ (k : ℕ). at_changes (with_turn w k (Some node)) k) now ∙ ap (λ (k : ℕ). at_changes (with_turn w t.time (Some k)) t.time) at,
)

pub turn_kept : (t u : Told) (w : WaveValue) (node : ℕ) → IsSoFar t w → u.names.items ≡ t.names.items → u.values.items ≡ fired t.values.items node →
    IsSoFar u (with_turn w u.time (Some node))
turn_kept t u w node is names values = record {
  names = names ∙ is.names;
  values = values ∙ ap (λ (v : List Bool). fired v node) is.values ∙ sym (values_push w.first w.changes (u.time, node));
}

pub mark_on : (t u : Told) (w : WaveValue) (text rest : List ℕ) (time : ℕ) → u.time ≡ time → t.time < time →
    BeginsWith text rest (at_changes w t.time) (timed time) → IsLineOn text rest (at_changes w t.time) (at_changes (with_turn w u.time None) u.time)
mark_on t u w text rest time now later begins = (
  timed time,
  begins,
  ap (λ b. if b then None else Some TimeBack) (lt-ltb t.time time later),
  ap (λ (k : ℕ). at_changes w k) now,
)

pub mark_back : (w : WaveValue) (text rest : List ℕ) (now time : ℕ) (fault : WaveFault) → BeginsWith text rest (at_changes w now) (timed time) →
    (fault ≡ TimeBack) × (time ≤ now) → IsFaultAt (at_changes w now) text fault
mark_back w text rest now time fault begins back =
    subst (IsFaultAt (at_changes w now) text) (sym back.0)
    (bad_line {l = timed time} {behind = rest} begins (ap (λ b. if b then None else Some TimeBack) (le-ltb now time back.1)))

pub change_wrong : (w : WaveValue) (now : ℕ) (text : List ℕ) → 0 < length text →
    ((value : Bool) (id rest : List ℕ) → is_id id ≡ true → text ≢ value_spelling_of value id ++ rest) →
    ((time : ℕ) (rest : List ℕ) → time < 2 ^ 64 → GoesOnWithChange rest → text ≢ time_mark time ++ rest) → IsFaultAt (at_changes w now) text BadLine
change_wrong w now text some no_turn no_mark = no_line (λ end. absurd (omega (arith, ap length end, some))) never
  where
    never : (l : WaveLine) (behind : List ℕ) → BeginsWith text behind (at_changes w now) l → ⊥
    never l behind (begins_time small goes is) = no_mark _ behind small goes is
    never l behind (begins_turn form is) = no_turn _ _ behind form is

spelling_pieces : (w : WaveValue) (all : List ℕ) → front_of_values w.names w.first ++ (all ++ [])
    ≡ timescale_line ++ (scope_line ++ (naming_lines 0 w.names ++ (upscope_line ++ (definitions_line ++ (start_line ++ (first_lines 0 w.first
    ++ (all ++ [])))))))
spelling_pieces w all =
    ap (λ t. timescale_line ++ (scope_line ++ t)) (append_assoc (naming_lines 0 w.names) (upscope_line ++ (definitions_line ++ (start_line
    ++ first_lines 0 w.first))) (all ++ []))

no_change_behind : GoesOnWithChange [] → ⊥
no_change_behind change = by_value change.0 change.4
  where
    by_value : (value : Bool) → [] ≡ value_spelling_of value change.1 ++ change.2 → ⊥
    by_value true e = absurd (cc e)
    by_value false e = absurd (cc e)

-- where nothing is left, the text is that of the wave
whole_is : (w : WaveValue) (now : ℕ) (whole rest : List ℕ) → IsFront whole (at_changes w now) rest → rest ≡ [] → whole ≡ wave_spelling w
whole_is w now whole rest front over = by_mark front.reached.2
  where
    last : ℕ
    last = last_time 0 w.changes

    spelled : mark_before last now ≡ [] → whole ≡ wave_spelling w
    spelled none =
        let all = change_lines 0 w.first w.changes in
        front.told ∙ ap (λ t. front_at (at_changes w now) ++ t) over ∙ append-nil (front_at (at_changes w now))
        ∙ ap (λ t. front_of_values w.names w.first ++ (all ++ t)) none ∙ spelling_pieces w all

    by_mark : (now ≡ last) ⊎ ((last < now) × (now < 2 ^ 64) × GoesOnWithChange rest) → whole ≡ wave_spelling w
    by_mark (inl is) = spelled (ap (mark_before last) is ∙ same_mark last)
    by_mark (inr marked) = absurd (no_change_behind (subst GoesOnWithChange over marked.2))

-- one change after another

pub begin_changes : (names : List (List ℕ)) (values first : List Bool) (changes : List (ℕ × ℕ)) (time n : ℕ) (rest : List ℕ) → first ≡ values →
    changes ≡ [] → n ≡ length names → ComesOn (2 * length names + 5) (at_changes (wave_of names values []) time) rest
    (2 * n + 5) (at_changes (wave_of names first changes) time) rest
begin_changes names values first changes time n rest same none count = λ whole so_far.
    subst (λ (k : ℕ). IsToldTo whole (2 * k + 5) (at_changes (wave_of names first changes) time) rest) (sym count)
    (subst (λ (cs : List (ℕ × ℕ)). IsToldTo whole (2 * length names + 5) (at_changes (wave_of names first cs) time) rest) (sym none)
    (subst (λ (vs : List Bool). IsToldTo whole (2 * length names + 5) (at_changes (wave_of names vs []) time) rest) (sym same) so_far))

pub some_left : (rest : List ℕ) (empty : Bool) → empty ≡ (length rest == 0) → empty ≡ false → 0 < length rest
some_left [] empty is more = absurd (cc (is, more))
some_left (b ∷ rest) empty is more = omega arith

pub none_left : (rest : List ℕ) (empty : Bool) → empty ≡ (length rest == 0) → empty ≡ true → rest ≡ []
none_left [] empty is over = refl
none_left (b ∷ rest) empty is over = absurd (omega (arith, eqb-true (length (b ∷ rest)) 0 (sym is ∙ over)))

pub changes_more : (rest behind : List ℕ) (lines : ℕ) (p q : WavePlace) → IsLineOn rest behind p q → ComesOn lines p rest (lines + 1) q behind
changes_more rest behind lines p q on = λ whole so_far.
    subst (λ (k : WavePlace). IsToldTo whole (lines + 1) k behind) (sym on.3) (by_line so_far on.1 on.2)

pub changes_shorter : (rest behind : List ℕ) (p q : WavePlace) → IsLineOn rest behind p q → length behind < length rest
changes_shorter rest behind p q on = shorter rest behind p on.0 on.1

pub changes_over : (w : WaveValue) (now : ℕ) (whole rest : List ℕ) (lines : ℕ) → IsToldTo whole lines (at_changes w now) rest → rest ≡ [] →
    IsWaveText whole w
changes_over w now whole rest lines so_far over =
    let front = front_told whole lines (at_changes w now) rest so_far in
    record { wave = front.reached.0; kept = front.reached.1; spelled = whole_is w now whole rest front over }
