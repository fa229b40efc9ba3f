-- The texts of waves grow line by line.
use Rattle.std.proofs.Common.{◌≡◌, ℕ, suc, ◌+◌, Bool, List, [], ◌∷◌, ◌++◌, length, refl, ap, sym, ◌∙◌, arith}
use Rattle.std.specs.Prelude.{not}
use Rattle.std.proofs.lemmas.List.{append_assoc, append-nil}
use Rattle.prs_core.specs.Moves.{high, fired}
use Rattle.wave_file.specs.Waves.{var_spelling, naming_lines, value_spelling_of, id_of, first_lines, mark_before, change_lines}
use Rattle.wave_file.specs.WaveReading.{values_behind}
use Rattle.wave_file.proofs.Fronts.{last_time}

pub var_push : (node : ℕ) (names : List (List ℕ)) (name : List ℕ) →
    naming_lines node (names ++ name ∷ []) ≡ naming_lines node names ++ var_spelling (node + length names) name
var_push node [] name = append-nil (var_spelling node name) ∙ ap (λ k. var_spelling k name) (omega arith)
var_push node (n ∷ names) name =
    let count : (node + 1) + length names ≡ node + suc (length names) = omega arith in
    ap (λ t. var_spelling node n ++ t) (var_push (node + 1) names name ∙ ap (λ k. naming_lines (node + 1) names ++ var_spelling k name) count)
    ∙ sym (append_assoc (var_spelling node n) (naming_lines (node + 1) names) (var_spelling (node + suc (length names)) name))

pub first_push : (node : ℕ) (first : List Bool) (value : Bool) →
    first_lines node (first ++ value ∷ []) ≡ first_lines node first ++ value_spelling_of value (id_of (node + length first))
first_push node [] value = append-nil (value_spelling_of value (id_of node)) ∙ ap (λ k. value_spelling_of value (id_of k)) (omega arith)
first_push node (v ∷ first) value =
    let count : (node + 1) + length first ≡ node + suc (length first) = omega arith in
    ap (λ t. value_spelling_of v (id_of node) ++ t)
    (first_push (node + 1) first value ∙ ap (λ k. first_lines (node + 1) first ++ value_spelling_of value (id_of k)) count)
    ∙ sym (append_assoc (value_spelling_of v (id_of node)) (first_lines (node + 1) first) (value_spelling_of value (id_of (node + suc (length first)))))

pub change_push : (now : ℕ) (values : List Bool) (cs : List (ℕ × ℕ)) (c : ℕ × ℕ) →
    change_lines now values (cs ++ c ∷ []) ≡ change_lines now values cs
    ++ (mark_before (last_time now cs) c.0 ++ value_spelling_of (not (high (values_behind values cs) c.1)) (id_of c.1))
change_push now values [] c = append-nil (mark_before now c.0 ++ value_spelling_of (not (high values c.1)) (id_of c.1))
change_push now values (d ∷ cs) c =
    let here = mark_before now d.0 ++ value_spelling_of (not (high values d.1)) (id_of d.1) in
    ap (λ t. here ++ t) (change_push d.0 (fired values d.1) cs c)
    ∙ sym (append_assoc here (change_lines d.0 (fired values d.1) cs)
    (mark_before (last_time d.0 cs) c.0 ++ value_spelling_of (not (high (values_behind (fired values d.1) cs) c.1)) (id_of c.1)))

pub values_push : (values : List Bool) (cs : List (ℕ × ℕ)) (c : ℕ × ℕ) →
    values_behind values (cs ++ c ∷ []) ≡ fired (values_behind values cs) c.1
values_push values [] c = refl
values_push values (d ∷ cs) c = values_push (fired values d.1) cs c
