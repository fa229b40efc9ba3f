-- A worked dump, and what is printed of it, written down by hand.
use Rattle.std.proofs.Common.{◌≡◌, ℕ, ◌+◌, ◌<◌, ◌≤◌, Bool, true, false, None, List, [], ◌∷◌, length, refl, ap, sym, arith}
use Rattle.std.specs.Prelude.{codes, ◌++◌}
use Rattle.std.specs.List.{list_all}
use Rattle.std.proofs.lemmas.Fmt.{decimal_digit}
use Rattle.chp_base.specs.Names.{IsNodeName, begins_with_letter, node_part}
use Rattle.wave_file.specs.declared.fault.WaveFault.TheVariants.{NoChange}
use Rattle.wave_file.specs.WaveLines.{is_id, id_value}
use Rattle.wave_file.specs.Waves.{WaveValue, wave_of, wave_spelling, value_spelling_of, id_of}
use Rattle.wave_file.specs.WaveReading.{WavePlace, at_timescale, at_changes, stock, named, valued, timed, turned, begins_timescale, begins_scope, begins_name, begins_upscope, begins_definitions, begins_start, begins_value, begins_time, begins_turn, wave_line_fault, bad_line, at_first_line, IsWaveRefused}
use Rattle.wave_file.specs.Unwaved.{unwaved}
use Rattle.wave_file.proofs.Followed.{Leads, here, on, told_on}

handshake : WaveValue
handshake = wave_of (codes "go" ∷ codes "done" ∷ codes "n2" ∷ codes "n3" ∷ codes "n4" ∷ []) (false ∷ false ∷ false ∷ false ∷ false ∷ [])
    ((1, 0) ∷ (2, 2) ∷ (3, 4) ∷ (4, 3) ∷ (5, 2) ∷ (6, 4) ∷ (7, 1) ∷ [])

dumped : wave_spelling handshake
    ≡ codes "$timescale 1 ns $end\n$scope module top $end\n$var wire 1 ! go $end\n$var wire 1 \" done $end\n$var wire 1 # n2 $end\n"
    ++ codes "$var wire 1 $ n3 $end\n$var wire 1 % n4 $end\n$upscope $end\n$enddefinitions $end\n"
    ++ codes "#0\n0!\n0\"\n0#\n0$\n0%\n#1\n1!\n#2\n1#\n#3\n1%\n#4\n1$\n#5\n0#\n#6\n0%\n#7\n1\"\n"
unfolding handshake
dumped = rw (
  decimal_digit 1 (omega arith),
  decimal_digit 2 (omega arith),
  decimal_digit 3 (omega arith),
  decimal_digit 4 (omega arith),
  decimal_digit 5 (omega arith),
  decimal_digit 6 (omega arith),
  decimal_digit 7 (omega arith),
) refl

printed : unwaved handshake ≡ codes "1 go 1\n2 n2 1\n3 n4 1\n4 n3 1\n5 n2 0\n6 n4 0\n7 done 1\nchanges 7\n"
unfolding handshake
printed = rw (
  decimal_digit 1 (omega arith),
  decimal_digit 2 (omega arith),
  decimal_digit 3 (omega arith),
  decimal_digit 4 (omega arith),
  decimal_digit 5 (omega arith),
  decimal_digit 6 (omega arith),
  decimal_digit 7 (omega arith),
) refl

-- the last node of two digits, and the first of three
two_digits : id_of 8835 ≡ codes "~~"
two_digits = refl

three_digits : id_of 8836 ≡ codes "!!\""
three_digits = refl

-- a mark of a time of one digit, and a change
changed : {w : WaveValue} {now : ℕ} {q : WavePlace} {behind rest : List ℕ} (time : ℕ) (value : Bool) (id : List ℕ) → time < 10 → is_id id ≡ true →
    wave_line_fault (at_changes w now) (timed time) ≡ None → wave_line_fault (at_changes w time) (turned value id) ≡ None →
    Leads (at_changes (wave_of w.names w.first (w.changes ++ (time, id_value id) ∷ [])) time) behind q rest →
    Leads (at_changes w now) (35 ∷ (48 + time) ∷ 10 ∷ (value_spelling_of value id ++ behind)) q rest
changed {w} {now} {q} {behind} {rest} time value id small form later other next =
    on (timed time) (begins_time {time = time} (omega (arith, small)) (value, id, behind, form, refl)
    (ap (λ digits. (35 ∷ (digits ++ 10 ∷ [])) ++ (value_spelling_of value id ++ behind)) (sym (decimal_digit time small)))) later
    (on (turned value id) (begins_turn {value = value} {id = id} form refl) other next)

is_name : (name : List ℕ) → length name ≤ 32 → begins_with_letter name ≡ true → list_all node_part name ≡ true → IsNodeName name
is_name name short first parts = record { short = short; first = first; parts = parts }

-- the dump with another last line, a change to the value that the node has: it is refused at that line, the 29th

changes_part : List ℕ
changes_part = codes "#1\n1!\n#2\n1#\n#3\n1%\n#4\n1$\n#5\n0#\n#6\n0%\n#7\n0\"\n"

refused_text : List ℕ
refused_text =
    codes "$timescale 1 ns $end\n$scope module top $end\n$var wire 1 ! go $end\n$var wire 1 \" done $end\n$var wire 1 # n2 $end\n"
    ++ codes "$var wire 1 $ n3 $end\n$var wire 1 % n4 $end\n$upscope $end\n$enddefinitions $end\n#0\n0!\n0\"\n0#\n0$\n0%\n"
    ++ changes_part

five_names : List (List ℕ)
five_names = codes "go" ∷ codes "done" ∷ codes "n2" ∷ codes "n3" ∷ codes "n4" ∷ []

no_changes : WaveValue
no_changes = wave_of five_names (false ∷ false ∷ false ∷ false ∷ false ∷ []) []

before_last : WaveValue
before_last = wave_of five_names (false ∷ false ∷ false ∷ false ∷ false ∷ []) ((1, 0) ∷ (2, 2) ∷ (3, 4) ∷ (4, 3) ∷ (5, 2) ∷ (6, 4) ∷ [])

to_changes : Leads at_timescale refused_text (at_changes no_changes 0) changes_part
unfolding refused_text changes_part five_names no_changes
to_changes =
    on stock (begins_timescale refl) refl (on stock (begins_scope refl) refl
    (on (named (codes "go")) (begins_name (is_name (codes "go") (omega arith) refl refl) refl) refl
    (on (named (codes "done")) (begins_name (is_name (codes "done") (omega arith) refl refl) refl) refl
    (on (named (codes "n2")) (begins_name (is_name (codes "n2") (omega arith) refl refl) refl) refl
    (on (named (codes "n3")) (begins_name (is_name (codes "n3") (omega arith) refl refl) refl) refl
    (on (named (codes "n4")) (begins_name (is_name (codes "n4") (omega arith) refl refl) refl) refl
    (on stock (begins_upscope (omega arith) refl) refl (on stock (begins_definitions refl) refl (on stock (begins_start refl) refl
    (on (valued false) (begins_value refl) refl (on (valued false) (begins_value refl) refl (on (valued false) (begins_value refl) refl
    (on (valued false) (begins_value refl) refl (on (valued false) (begins_value refl) refl here))))))))))))))

to_last : Leads (at_changes no_changes 0) changes_part (at_changes before_last 7) (codes "0\"\n")
unfolding changes_part five_names no_changes before_last
to_last =
    changed 1 true (codes "!") (omega arith) refl refl refl (changed 2 true (codes "#") (omega arith) refl refl refl
    (changed 3 true (codes "%") (omega arith) refl refl refl (changed 4 true (codes "$") (omega arith) refl refl refl
    (changed 5 false (codes "#") (omega arith) refl refl refl (changed 6 false (codes "%") (omega arith) refl refl refl
    (on (timed 7) (begins_time (omega arith) (false, codes "\"", [], refl, refl) (rw (decimal_digit 7 (omega arith)) refl)) refl here))))))

same_again : IsWaveRefused refused_text NoChange 29
unfolding before_last five_names to_changes to_last changed
same_again =
    let first = told_on refused_text 0 at_timescale (at_changes no_changes 0) refused_text changes_part at_first_line to_changes in
    let told = told_on refused_text first.0 (at_changes no_changes 0) (at_changes before_last 7) changes_part (codes "0\"\n") first.1 to_last in
    record {
      place = at_changes before_last 7;
      rest = codes "0\"\n";
      lines = told.0;
      before = told.1;
      here = bad_line {l = turned false (codes "\"")} {behind = []} (begins_turn refl refl) refl;
      number = refl;
    }
