-- The changes of a wave are printed one by one.
use Rattle.std.proofs.Common.{◌≡◌, ℕ, Some, ◌+◌, ◌<◌, Bool, false, List, [], ◌∷◌, ◌++◌, length, ap, sym, ◌∙◌, arith}
use Rattle.std.specs.Prelude.{not, slice_index_or}
use Rattle.std.proofs.lemmas.List.{append_assoc, append-nil, get_or-set_same, length-set, length_push}
use Rattle.prs_core.specs.Moves.{high, fired}
use Rattle.wave_file.specs.declared.read.Told.{Told}
use Rattle.wave_file.specs.declared.unwave.Printed.{Printed}
use Rattle.wave_file.specs.Unwaved.{told_change, told_changes}
use Rattle.wave_file.specs.WaveReading.{values_behind}
use Rattle.wave_file.specs.Waves.{WaveValue}
use Rattle.wave_file.specs.WaveTold.{IsPrinted, IsSoFar, with_turn}
use Rattle.wave_file.proofs.WaveTexts.{values_push}

told_push : (names : List (List ℕ)) (values : List Bool) (cs : List (ℕ × ℕ)) (c : ℕ × ℕ) →
    told_changes names values (cs ++ c ∷ []) ≡ told_changes names values cs
    ++ told_change c.0 (slice_index_or names c.1 []) (not (high (values_behind values cs) c.1))
told_push names values [] c = append-nil (told_change c.0 (slice_index_or names c.1 []) (not (high values c.1)))
told_push names values (d ∷ cs) c =
    let here = told_change d.0 (slice_index_or names d.1 []) (not (high values d.1)) in
    ap (λ t. here ++ t) (told_push names (fired values d.1) cs c)
    ∙ sym (append_assoc here (told_changes names (fired values d.1) cs)
    (told_change c.0 (slice_index_or names c.1 []) (not (high (values_behind (fired values d.1) cs) c.1))))

-- the value that a node has after a change of it
value_given : (t : Told) (w : WaveValue) (time node : ℕ) → IsSoFar t (with_turn w time (Some node)) → node < length t.values.items →
    high t.values.items node ≡ not (high (values_behind w.first w.changes) node)
value_given t w time node is below =
    let vs = values_behind w.first w.changes in
    let given : t.values.items ≡ fired vs node = is.values ∙ values_push w.first w.changes (time, node) in
    let count = ap length given ∙ length-set vs node (not (high vs node)) in
    ap (λ (v : List Bool). high v node) given ∙ get_or-set_same vs node (not (high vs node)) false (omega (arith, count, below))

pub turn_printed : (p q : Printed) (t : Told) (w : WaveValue) (time node : ℕ) (name : List ℕ) (value : Bool) →
    IsSoFar t (with_turn w time (Some node)) → node < length t.values.items → name ≡ slice_index_or t.names.items node [] →
    value ≡ high t.values.items node → q.text.items ≡ p.text.items ++ told_change time name value → q.count ≡ p.count + 1 → IsPrinted p w →
    IsPrinted q (with_turn w time (Some node))
turn_printed p q t w time node name value is below named valued text count so_far = record {
  told = text ∙ ap (λ (x : List ℕ). x ++ told_change time name value) so_far.told
      ∙ ap (λ (x : List ℕ). told_changes w.names w.first w.changes ++ told_change time x value)
      (named ∙ ap (λ (ns : List (List ℕ)). slice_index_or ns node []) is.names)
      ∙ ap (λ (b : Bool). told_changes w.names w.first w.changes ++ told_change time (slice_index_or w.names node []) b)
      (valued ∙ value_given t w time node is below)
      ∙ sym (told_push w.names w.first w.changes (time, node));
  count = count ∙ ap (λ n. n + 1) so_far.count ∙ sym (length_push w.changes (time, node));
}
