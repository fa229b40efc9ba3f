-- A text is read in one way.
use Rattle.std.proofs.Common.{◌≡◌, ℕ, Some, None, inl, inr, ◌+◌, ◌<◌, ◌≤◌, ◌^◌, Bool, true, false, List, [], ◌∷◌, ◌++◌, length, get_or, drop, refl, ap, sym, ◌∙◌, subst, arith}
use Rattle.std.specs.Prelude.{◌⊎◌, decimal}
use Rattle.std.proofs.lemmas.Bool.{cases_lt}
use Rattle.std.proofs.lemmas.Fmt.{decimal_injective}
use Rattle.std.proofs.lemmas.List.{append_assoc, append_cancel_left}
use Rattle.wave_file.specs.declared.fault.WaveFault.{WaveFault}
use Rattle.wave_file.specs.Waves.{var_spelling, id_of, value_spelling_of, time_mark}
use Rattle.wave_file.specs.WaveLines.{is_id}
use Rattle.wave_file.specs.WaveReading.{WavePlace, timescale_line, scope_line, upscope_line, definitions_line, start_line, WaveLine, named, valued, timed, turned, BeginsWith, begins_timescale, begins_scope, begins_name, begins_upscope, begins_definitions, begins_start, begins_value, begins_time, begins_turn, wave_line_fault, place_behind, IsFaultAt, no_line, bad_line, IsToldTo, at_first_line, by_line}
use Rattle.wave_file.proofs.Cutting.{cut_once, free_name, no_end_in_id, no_end_in_decimal}
use Rattle.wave_file.proofs.Namings.{naming_once}
use Rattle.wave_file.proofs.Stepping.{no_mark_and_turn}

-- at one place a text begins with one line

same_stock : (line text a b : List ℕ) → text ≡ line ++ a → text ≡ line ++ b → a ≡ b
same_stock line text a b one two = append_cancel_left line a b (sym one ∙ two)

name_or_end : (k : ℕ) (name a b : List ℕ) → var_spelling k name ++ a ≡ upscope_line ++ b → ⊥
name_or_end k name a b e = let f : 118 ≡ 117 = ap (λ t. get_or t 1 0) e in absurd (omega (arith, f))

value_once : (v w : Bool) (id a b : List ℕ) → value_spelling_of v id ++ a ≡ value_spelling_of w id ++ b → (v ≡ w) × (a ≡ b)
value_once true true id a b e = (refl, append_cancel_left (value_spelling_of true id) a b e)
value_once false false id a b e = (refl, append_cancel_left (value_spelling_of false id) a b e)
value_once true false id a b e = let f : 49 ≡ 48 = ap (λ t. get_or t 0 0) e in absurd (omega (arith, f))
value_once false true id a b e = let f : 48 ≡ 49 = ap (λ t. get_or t 0 0) e in absurd (omega (arith, f))

ids_once : (i j a b : List ℕ) → is_id i ≡ true → is_id j ≡ true → (i ++ 10 ∷ []) ++ a ≡ (j ++ 10 ∷ []) ++ b → (i ≡ j) × (a ≡ b)
ids_once i j a b one two e =
    cut_once 10 i j a b (no_end_in_id i one) (no_end_in_id j two) (sym (append_assoc i (10 ∷ []) a) ∙ e ∙ append_assoc j (10 ∷ []) b)

turn_once : (v w : Bool) (i j a b : List ℕ) → is_id i ≡ true → is_id j ≡ true → value_spelling_of v i ++ a ≡ value_spelling_of w j ++ b →
    (v ≡ w) × (i ≡ j) × (a ≡ b)
turn_once true true i j a b one two e = let same = ids_once i j a b one two (ap (drop 1) e) in (refl, same.0, same.1)
turn_once false false i j a b one two e = let same = ids_once i j a b one two (ap (drop 1) e) in (refl, same.0, same.1)
turn_once true false i j a b one two e = let f : 49 ≡ 48 = ap (λ t. get_or t 0 0) e in absurd (omega (arith, f))
turn_once false true i j a b one two e = let f : 48 ≡ 49 = ap (λ t. get_or t 0 0) e in absurd (omega (arith, f))

pub time_once : (s t : ℕ) (a b : List ℕ) → s < 2 ^ 64 → t < 2 ^ 64 → time_mark s ++ a ≡ time_mark t ++ b → (s ≡ t) × (a ≡ b)
time_once s t a b one two e =
    let cut = cut_once 10 (decimal s) (decimal t) a b (no_end_in_decimal s one) (no_end_in_decimal t two)
    (sym (append_assoc (decimal s) (10 ∷ []) a) ∙ ap (drop 1) e ∙ append_assoc (decimal t) (10 ∷ []) b) in
    (decimal_injective s t one two cut.0, cut.1)

pub line_once : (text : List ℕ) (p : WavePlace) (l m : WaveLine) (a b : List ℕ) → BeginsWith text a p l → BeginsWith text b p m → (l ≡ m) × (a ≡ b)
line_once text p l m a b (begins_timescale e) (begins_timescale f) = (refl, same_stock timescale_line text a b e f)
line_once text p l m a b (begins_scope e) (begins_scope f) = (refl, same_stock scope_line text a b e f)
line_once text p l m a b (begins_name {names = names} {name = n} is e) (begins_name {name = k} also f) =
    let same = naming_once (id_of (length names)) n k a b (free_name n is) (free_name k also) (sym e ∙ f) in
    (ap named same.0, same.1)
line_once text p l m a b (begins_name {names = names} {name = n} is e) (begins_upscope some f) = absurd (name_or_end (length names) n a b (sym e ∙ f))
line_once text p l m a b (begins_upscope {names = names} some e) (begins_name {name = n} is f) = absurd (name_or_end (length names) n b a (sym f ∙ e))
line_once text p l m a b (begins_upscope some e) (begins_upscope more f) = (refl, same_stock upscope_line text a b e f)
line_once text p l m a b (begins_definitions e) (begins_definitions f) = (refl, same_stock definitions_line text a b e f)
line_once text p l m a b (begins_start e) (begins_start f) = (refl, same_stock start_line text a b e f)
line_once text p l m a b (begins_value {first = first} {value = v} e) (begins_value {value = w} f) =
    let same = value_once v w (id_of (length first)) a b (sym e ∙ f) in
    (ap valued same.0, same.1)
line_once text p l m a b (begins_time {time = s} small goes e) (begins_time {time = t} few on f) =
    let same = time_once s t a b small few (sym e ∙ f) in
    (ap timed same.0, same.1)
line_once text p l m a b (begins_time {time = s} small goes e) (begins_turn {value = v} {id = i} is f) = absurd (no_mark_and_turn s v i a b (sym e ∙ f))
line_once text p l m a b (begins_turn {value = v} {id = i} is e) (begins_time {time = s} small goes f) = absurd (no_mark_and_turn s v i b a (sym f ∙ e))
line_once text p l m a b (begins_turn {value = v} {id = i} is e) (begins_turn {value = w} {id = j} also f) =
    let same = turn_once v w i j a b is also (sym e ∙ f) in
    (ap (λ x. turned x i) same.0 ∙ ap (turned w) same.1, same.2)

-- lines without a fault lead from one place to another

pub data Leads : WavePlace → List ℕ → WavePlace → List ℕ → Type 0 where
  here : {p : WavePlace} {text : List ℕ} → Leads p text p text
  on : {p q : WavePlace} {text behind rest : List ℕ} (l : WaveLine) → BeginsWith text behind p l → wave_line_fault p l ≡ None →
      Leads (place_behind p l) behind q rest → Leads p text q rest

pub record GoesOn (p : WavePlace) (text : List ℕ) : Type 0 where
  pub l : WaveLine
  pub behind : List ℕ
  pub begins : BeginsWith text behind p l
  pub faultless : wave_line_fault p l ≡ None

pub chained : (p q r : WavePlace) (a b c : List ℕ) → Leads p a q b → Leads q b r c → Leads p a r c
chained p q r a b c here second = second
chained p q r a b c (on l begins none first) second = on l begins none (chained (place_behind p l) q r _ b c first second)

-- a text that comes to a place comes to where lines without a fault lead from there
abbrev pub told_on : (text : List ℕ) (lines : ℕ) (p q : WavePlace) (a b : List ℕ) → IsToldTo text lines p a → Leads p a q b →
    (more : ℕ) × IsToldTo text more q b
told_on text lines p q a b so_far here = (lines, so_far)
told_on text lines p q a b so_far (on {behind = x} l begins none rest) =
    told_on text (lines + 1) (place_behind p l) q x b (by_line so_far begins none) rest

-- by as many lines a text comes to one place

same_line : (p q : WavePlace) (a b x y : List ℕ) (l m : WaveLine) → p ≡ q → a ≡ b → BeginsWith a x p l → BeginsWith b y q m → (l ≡ m) × (x ≡ y)
same_line p q a b x y l m place text begins also =
    line_once a p l m x y begins (subst (λ t. BeginsWith t y p m) (sym text) (subst (λ k. BeginsWith b y k m) (sym place) also))

told_once : (text : List ℕ) (j k : ℕ) (p q : WavePlace) (a b : List ℕ) → j ≡ k → IsToldTo text j p a → IsToldTo text k q b → (p ≡ q) × (a ≡ b)
told_once text j k p q a b e at_first_line at_first_line = (refl, refl)
told_once text j k p q a b e at_first_line (by_line two also free) = absurd (omega arith)
told_once text j k p q a b e (by_line one is free) at_first_line = absurd (omega arith)
told_once text j k p q a b e (by_line {lines = i} {place = r} {rest = c} {l = l} one is _) (by_line {lines = h} {place = s} {rest = d} {l = m} two also _) =
    let before = told_once text i h r s c d (omega arith) one two in
    let line = same_line r s c d a b l m before.0 before.1 is also in
    (ap (λ x. place_behind x l) before.0 ∙ ap (place_behind s) line.0, line.1)

goes_on : (p q : WavePlace) (a b behind : List ℕ) (l : WaveLine) → p ≡ q → a ≡ b → BeginsWith b behind q l → wave_line_fault q l ≡ None → GoesOn p a
goes_on p q a b behind l place text begins none =
    subst (GoesOn p) (sym text) (subst (λ x. GoesOn x b) (sym place) (record { l = l; behind = behind; begins = begins; faultless = none }))

-- and by fewer to one that goes on
goes_before : (text : List ℕ) (j k : ℕ) (p q : WavePlace) (a b : List ℕ) → j < k → IsToldTo text j p a → IsToldTo text k q b → GoesOn p a
goes_before text j k p q a b less first at_first_line = absurd (omega arith)
goes_before text j k p q a b less first (by_line {lines = h} {place = s} {rest = d} {l = m} second also free) =
    by_case (cases_lt j h) (λ few. goes_before text j h p s a d few first second)
  where
    by_case : (j < h) ⊎ (h ≤ j) → (j < h → GoesOn p a) → GoesOn p a
    by_case (inl few) earlier = earlier few
    by_case (inr many) earlier =
        let same = told_once text j h p s a d (omega arith) first second in
        goes_on p s a d b m same.0 same.1 also free

-- of two places that a text comes to, one leads on to the other
pub overlap : (text : List ℕ) (j k : ℕ) (p q : WavePlace) (a b : List ℕ) → IsToldTo text j p a → IsToldTo text k q b →
    ((j ≡ k) × (p ≡ q) × (a ≡ b)) ⊎ (GoesOn p a ⊎ GoesOn q b)
overlap text j k p q a b first second = by_case (cases_lt j k) (cases_lt k j)
  where
    by_case : (j < k) ⊎ (k ≤ j) → (k < j) ⊎ (j ≤ k) → ((j ≡ k) × (p ≡ q) × (a ≡ b)) ⊎ (GoesOn p a ⊎ GoesOn q b)
    by_case (inl less) also = inr (inl (goes_before text j k p q a b less first second))
    by_case (inr over) (inl less) = inr (inr (goes_before text k j q p b a less second first))
    by_case (inr over) (inr under) =
        let count : j ≡ k = omega (arith, over, under) in
        let same = told_once text j k p q a b count first second in
        inl (count, same.0, same.1)

-- a place with a fault is the last one

pub no_fault : (p : WavePlace) (text : List ℕ) (fault : WaveFault) → IsFaultAt p text fault → GoesOn p text → ⊥
no_fault p text fault (no_line over none) goes = none goes.l goes.behind goes.begins
no_fault p text fault (bad_line {l = l} {behind = b} begins bad) goes =
    let same = line_once text p l goes.l b goes.behind begins goes.begins in
    absurd (cc (bad, ap (wave_line_fault p) same.0, goes.faultless))

pub same_fault : (p : WavePlace) (text : List ℕ) (f g : WaveFault) → IsFaultAt p text f → IsFaultAt p text g → f ≡ g
same_fault p text f g (no_line over none) (no_line also nor) = refl
same_fault p text f g (no_line over none) (bad_line {l = l} {behind = b} begins bad) = absurd (none l b begins)
same_fault p text f g (bad_line {l = l} {behind = b} begins bad) (no_line over none) = absurd (none l b begins)
same_fault p text f g (bad_line {l = l} {behind = a} begins bad) (bad_line {l = m} {behind = b} also worse) =
    let same = line_once text p l m a b begins also in
    let e : Some f ≡ Some g = sym bad ∙ ap (wave_line_fault p) same.0 ∙ worse in
    cc e
