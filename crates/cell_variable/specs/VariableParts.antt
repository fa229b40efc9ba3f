-- The contracts of a merge and of a variable, each alone.
use Rattle.std.specs.Prelude.{ℕ, ◌+◌, ◌*◌, Bool, ◌&&◌, ◌||◌, List, [], ◌∷◌, ◌++◌, map}
use Rattle.std.specs.List.{list_any, list_all, flat_map}
use Rattle.prs_core.specs.Pairs.{rails_of, or_of}
use Rattle.prs_core.specs.Parts.{Owned, Part, Wire, Moment, owned, wire, all_low, is_valid, never_blocked, no_notes}
use Rattle.cell_parallel.specs.Trees.{tree_owned}
use Rattle.cell_variable.specs.Variables.{Bit, bits_from, variable_owned, written_leaves, all_written}

-- The output is to rise where an input is high, and to fall where all are low. An input may rise where all inputs and
-- the output are low, and fall where the output is high.
abbrev pub merge_part : (inputs : List ℕ) → (output : ℕ) → Part
merge_part inputs output = record {
  own = owned output (or_of inputs) ∷ [];
  promises = wire output (λ m. list_any m.value inputs) (λ m. all_low m.value inputs) ∷ [];
  allows = map (λ input. wire input (λ m. all_low m.value (output ∷ inputs)) (λ m. m.value output)) inputs;
  lows = output ∷ [];
  bits = [];
  ports = output ∷ inputs;
  blocked = never_blocked;
  notes = no_notes;
}

-- the value of the bit is the one that is written: of both pairs one rail is high, and it is the same one
abbrev pub has_written : (ℕ → Bool) → Bit → Bool
has_written v b = is_valid v b.w && is_valid v b.x && (v b.w.t && v b.x.t || v b.w.f && v b.x.f)

-- a rail of the bit is to rise under the one by which it is written, and to fall under the other
abbrev pub bit_promises : Bit → List Wire
bit_promises b =
    wire b.x.t (λ m. m.value b.w.t) (λ m. m.value b.w.f)
    ∷ wire b.x.f (λ m. m.value b.w.f) (λ m. m.value b.w.t)
    ∷ []

-- one rail by which the bit is written may rise where the acknowledge is low, and fall where it is high
abbrev pub bit_allows : (ack : ℕ) → Bit → List Wire
bit_allows ack b =
    let may_rise = λ (m : Moment). all_low m.value (ack ∷ b.w.t ∷ b.w.f ∷ []) in
    wire b.w.t may_rise (λ m. m.value ack)
    ∷ wire b.w.f may_rise (λ m. m.value ack)
    ∷ []

-- The acknowledge is to rise once each bit has the value that is written, and to fall once all rails are low by which
-- the variable is written.
abbrev pub variable_part : (width from : ℕ) → Part
variable_part width from =
    let ack = all_written width from in
    let bits = bits_from width from in
    let written_by = rails_of (map (λ (b : Bit). b.w) bits) in record {
      own = variable_owned width from;
      promises = wire ack (λ m. list_all (has_written m.value) bits) (λ m. all_low m.value written_by)
          ∷ flat_map bit_promises bits;
      allows = flat_map (bit_allows ack) bits;
      lows = written_leaves width from
          ++ map (λ (o : Owned). o.node) (tree_owned (written_leaves width from) (from + 5 * width));
      bits = map (λ (b : Bit). b.x) bits;
      ports = ack ∷ written_by;
      blocked = never_blocked;
      notes = no_notes;
    }
