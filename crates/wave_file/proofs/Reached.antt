-- The text of a wave leads to its end.
use Rattle.std.proofs.Common.{◌≡◌, ℕ, Some, None, inl, inr, ◌+◌, ◌<◌, ◌≤◌, ◌^◌, Bool, true, false, List, [], ◌∷◌, ◌++◌, length, refl, ap, sym, ◌∙◌, subst, arith}
use Rattle.std.specs.Prelude.{◌==◌, ◌⊎◌, not, nat_le, All, if◌then◌else◌}
use Rattle.std.proofs.lemmas.Bool.{cases_lt, lt-ltb, ne_eqb}
use Rattle.std.proofs.lemmas.List.{append_assoc, append-nil, length_push}
use Rattle.std.proofs.lemmas.List.Elements.{All-head, All-tail}
use Rattle.chp_base.specs.Names.{IsNodeName}
use Rattle.prs_core.specs.Moves.{high, fired}
use Rattle.wave_file.specs.declared.fault.WaveFault.TheVariants.{UnknownId, TimeBack, NoChange, TooMany}
use Rattle.wave_file.specs.Waves.{WaveValue, wave_of, IsWave, IsKeptWave, NeverFall, var_spelling, naming_lines, id_of, value_spelling_of, first_lines, time_mark, mark_before, change_lines, wave_spelling}
use Rattle.wave_file.specs.WaveLines.{id_value, GoesOnWithChange}
use Rattle.wave_file.specs.WaveReading.{WavePlace, at_timescale, at_names, at_values, at_changes, upscope_line, definitions_line, start_line, stock, named, valued, timed, turned, begins_timescale, begins_scope, begins_name, begins_upscope, begins_definitions, begins_start, begins_value, begins_time, begins_turn, values_behind, has_value, place_behind}
use Rattle.wave_file.proofs.Fronts.{last_time}
use Rattle.wave_file.proofs.IdLemmas.{id_of_is}
use Rattle.wave_file.proofs.Stepping.{same_mark}
use Rattle.wave_file.proofs.WaveTexts.{values_push}
use Rattle.wave_file.proofs.Followed.{Leads, here, on, chained}

names_lead : (told more : List (List ℕ)) (rest : List ℕ) → All IsNodeName more → length told + length more ≤ 65537 →
    Leads (at_names told) (naming_lines (length told) more ++ rest) (at_names (told ++ more)) rest
names_lead told [] rest all few = subst (λ names. Leads (at_names told) rest (at_names names) rest) (sym (append-nil told)) here
names_lead told (n ∷ more) rest all few =
    let next = names_lead (told ++ n ∷ []) more rest (All-tail IsNodeName n more all) (omega (arith, few, length_push told n)) in
    let moved = subst (λ names. Leads (at_names (told ++ n ∷ [])) (naming_lines (length (told ++ n ∷ [])) more ++ rest) (at_names names) rest)
    (append_assoc told (n ∷ []) more) next in
    let counted = subst (λ k. Leads (at_names (told ++ n ∷ [])) (naming_lines k more ++ rest) (at_names (told ++ n ∷ more)) rest) (length_push told n)
    moved in
    on (named n) (begins_name (All-head IsNodeName n more all) (append_assoc (var_spelling (length told) n) (naming_lines (length told + 1) more) rest))
    (ap (λ b. if b then None else Some TooMany) (lt-ltb (length told) 65537 (omega (arith, few)))) counted

values_lead : (names : List (List ℕ)) (told : List Bool) (v : Bool) (more : List Bool) (rest : List ℕ) →
    length told + length (v ∷ more) ≡ length names →
    Leads (at_values names told) (first_lines (length told) (v ∷ more) ++ rest) (at_changes (wave_of names (told ++ v ∷ more) []) 0) rest
values_lead names told v [] rest count =
    let over : (length told + 1 == length names) ≡ true = same_count (length told + 1) (length names) (omega (arith, count)) in
    let place : at_changes (wave_of names (told ++ v ∷ []) []) 0 ≡ place_behind (at_values names told) (valued v) =
    ap (λ b. if b then at_changes (wave_of names (told ++ v ∷ []) []) 0 else at_values names (told ++ v ∷ [])) (sym over) in
    on (valued v) (begins_value (ap (λ t. t ++ rest) (append-nil (value_spelling_of v (id_of (length told)))))) refl
    (subst (λ p. Leads p rest (at_changes (wave_of names (told ++ v ∷ []) []) 0) rest) place here)
  where
    same_count : (m n : ℕ) → m ≡ n → (m == n) ≡ true
    same_count m n e = grind arith
values_lead names told v (w ∷ more) rest count =
    let next = values_lead names (told ++ v ∷ []) w more rest (omega (arith, count, length_push told v)) in
    let moved = subst (λ first. Leads (at_values names (told ++ v ∷ [])) (first_lines (length (told ++ v ∷ [])) (w ∷ more) ++ rest)
    (at_changes (wave_of names first []) 0) rest) (append_assoc told (v ∷ []) (w ∷ more)) next in
    let counted = subst (λ k. Leads (at_values names (told ++ v ∷ [])) (first_lines k (w ∷ more) ++ rest)
    (at_changes (wave_of names (told ++ v ∷ (w ∷ more)) []) 0) rest) (length_push told v) moved in
    let more_left : (length told + 1 == length names) ≡ false = ne_eqb (length told + 1) (length names) (λ e. absurd (omega (arith, e, count))) in
    let place : at_values names (told ++ v ∷ []) ≡ place_behind (at_values names told) (valued v) =
    ap (λ b. if b then at_changes (wave_of names (told ++ v ∷ []) []) 0 else at_values names (told ++ v ∷ [])) (sym more_left) in
    on (valued v) (begins_value (append_assoc (value_spelling_of v (id_of (length told))) (first_lines (length told + 1) (w ∷ more)) rest)) refl
    (subst (λ p. Leads p (first_lines (length told + 1) (w ∷ more) ++ rest) (at_changes (wave_of names (told ++ v ∷ (w ∷ more)) []) 0) rest) place counted)

-- a change to the other value has no fault

has_not : (values : List Bool) (node : ℕ) → has_value values node (not (high values node)) ≡ false
has_not values node = by_value (high values node)
  where
    by_value : (b : Bool) → (if not b then b else not b) ≡ false
    by_value true = refl
    by_value false = refl

turn_leads : (w : WaveValue) (now node : ℕ) (q : WavePlace) (text behind rest : List ℕ) → node < length w.names → length w.names ≤ 65537 →
    text ≡ value_spelling_of (not (high (values_behind w.first w.changes) node)) (id_of node) ++ behind →
    Leads (at_changes (wave_of w.names w.first (w.changes ++ (now, node) ∷ [])) now) behind q rest → Leads (at_changes w now) text q rest
turn_leads w now node q text behind rest few most is next =
    let id = id_of_is node (omega (arith, few, most)) in
    let value = not (high (values_behind w.first w.changes) node) in
    let none : nat_le (length w.names) (id_value (id_of node)) ≡ false = ap (nat_le (length w.names)) id.1 ∙ below (length w.names) node few in
    let other : has_value (values_behind w.first w.changes) (id_value (id_of node)) value ≡ false =
    ap (λ n. has_value (values_behind w.first w.changes) n value) id.1 ∙ has_not (values_behind w.first w.changes) node in
    on (turned value (id_of node)) (begins_turn id.0 is)
    (ap (λ b. if b then Some UnknownId else (if has_value (values_behind w.first w.changes) (id_value (id_of node)) value then Some NoChange else None)) none
    ∙ ap (λ b. if b then Some NoChange else None) other)
    (subst (λ n. Leads (at_changes (wave_of w.names w.first (w.changes ++ (now, n) ∷ [])) now) behind q rest) (sym id.1) next)
  where
    below : (m n : ℕ) → n < m → nat_le m n ≡ false
    below m n less = grind arith

mark_leads : (w : WaveValue) (now time : ℕ) (q : WavePlace) (text behind rest : List ℕ) → now < time → time < 2 ^ 64 → GoesOnWithChange behind →
    text ≡ time_mark time ++ behind → Leads (at_changes w time) behind q rest → Leads (at_changes w now) text q rest
mark_leads w now time q text behind rest later small goes is next =
    on (timed time) (begins_time small goes is) (ap (λ b. if b then None else Some TimeBack) (lt-ltb now time later)) next

-- behind a mark where one is needed
reach_time : (w : WaveValue) (now time : ℕ) (q : WavePlace) (behind rest : List ℕ) → now ≤ time → time < 2 ^ 64 → GoesOnWithChange behind →
    Leads (at_changes w time) behind q rest → Leads (at_changes w now) (mark_before now time ++ behind) q rest
reach_time w now time q behind rest later small goes next = by_time (cases_lt now time)
  where
    by_time : (now < time) ⊎ (time ≤ now) → Leads (at_changes w now) (mark_before now time ++ behind) q rest
    by_time (inl less) =
        let mark : mark_before now time ≡ time_mark time =
        ap (λ b. if b then [] else time_mark time) (ne_eqb now time (λ e. absurd (omega (arith, e, less)))) in
        mark_leads w now time q (mark_before now time ++ behind) behind rest less small goes (ap (λ t. t ++ behind) mark) next
    by_time (inr over) =
        let same : now ≡ time = omega (arith, later, over) in
        subst (λ t. Leads (at_changes w t) (mark_before t time ++ behind) q rest) (sym same)
        (subst (λ t. Leads (at_changes w time) (t ++ behind) q rest) (sym (same_mark time)) next)

changes_lead : (names : List (List ℕ)) (first : List Bool) (told more : List (ℕ × ℕ)) (now : ℕ) (rest : List ℕ) → length names ≤ 65537 →
    All (λ (c : ℕ × ℕ). c.1 < length names) more → All (λ (c : ℕ × ℕ). c.0 < 2 ^ 64) more → NeverFall now more →
    Leads (at_changes (wave_of names first told) now) (change_lines now (values_behind first told) more ++ rest)
    (at_changes (wave_of names first (told ++ more)) (last_time now more)) rest
changes_lead names first told [] now rest most nodes small falls =
    subst (λ cs. Leads (at_changes (wave_of names first told) now) rest (at_changes (wave_of names first cs) now) rest) (sym (append-nil told)) here
changes_lead names first told (c ∷ more) now rest most nodes small falls =
    let w = wave_of names first told in
    let last = last_time c.0 more in
    let q = at_changes (wave_of names first (told ++ c ∷ more)) last in
    let front = change_lines c.0 (fired (values_behind first told) c.1) more in
    let value = not (high (values_behind first told) c.1) in
    let few = All-head (λ (c : ℕ × ℕ). c.1 < length names) c more nodes in
    let id = id_of_is c.1 (omega (arith, few, most)) in
    let later = changes_lead names first (told ++ c ∷ []) more c.0 rest most (All-tail (λ (c : ℕ × ℕ). c.1 < length names) c more nodes)
    (All-tail (λ (c : ℕ × ℕ). c.0 < 2 ^ 64) c more small) falls.1 in
    let valued = subst (λ vs. Leads (at_changes (wave_of names first (told ++ c ∷ [])) c.0) (change_lines c.0 vs more ++ rest)
    (at_changes (wave_of names first ((told ++ c ∷ []) ++ more)) last) rest) (values_push first told c) later in
    let moved = subst (λ cs. Leads (at_changes (wave_of names first (told ++ c ∷ [])) c.0) (front ++ rest) (at_changes (wave_of names first cs) last) rest)
    (append_assoc told (c ∷ []) more) valued in
    let line = mark_before now c.0 in
    let one = value_spelling_of value (id_of c.1) in
    let turned = turn_leads w c.0 c.1 q (one ++ (front ++ rest)) (front ++ rest) rest few most refl moved in
    let marked = reach_time w now c.0 q (one ++ (front ++ rest)) rest falls.0
    (All-head (λ (c : ℕ × ℕ). c.0 < 2 ^ 64) c more small) (value, id_of c.1, front ++ rest, id.0, refl) turned in
    let whole : line ++ (one ++ (front ++ rest)) ≡ ((line ++ one) ++ front) ++ rest =
    sym (append_assoc (line ++ one) front rest ∙ append_assoc line one (front ++ rest)) in
    subst (λ t. Leads (at_changes w now) t q rest) whole marked

all_values : (names : List (List ℕ)) (first : List Bool) (rest : List ℕ) → 2 ≤ length names → length first ≡ length names →
    Leads (at_values names []) (first_lines 0 first ++ rest) (at_changes (wave_of names first []) 0) rest
all_values names [] rest some count = absurd (omega (arith, count, some))
all_values names (v ∷ first) rest some count = values_lead names [] v first rest (omega (arith, count))

pub wave_leads : (w : WaveValue) → IsWave w → IsKeptWave w → Leads at_timescale (wave_spelling w) (at_changes w (last_time 0 w.changes)) []
wave_leads w is kept =
    let end = at_changes w (last_time 0 w.changes) in
    let changes = change_lines 0 w.first w.changes ++ [] in
    let values = first_lines 0 w.first ++ changes in
    let rest = upscope_line ++ (definitions_line ++ (start_line ++ values)) in
    on stock (begins_timescale refl) refl (on stock (begins_scope refl) refl
    (chained (at_names []) (at_names w.names) end (naming_lines 0 w.names ++ rest) rest [] (names_lead [] w.names rest kept.named (omega (arith, is.most)))
    (on stock (begins_upscope is.some refl) refl (on stock (begins_definitions refl) refl (on stock (begins_start refl) refl
    (chained (at_values w.names []) (at_changes (wave_of w.names w.first []) 0) end values changes [] (all_values w.names w.first changes is.some is.values)
    (changes_lead w.names w.first [] w.changes 0 [] is.most is.nodes kept.small is.times)))))))
