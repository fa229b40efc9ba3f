-- The name in a node's line.
use Rattle.std.proofs.Common.{◌≡◌, ℕ, ◌+◌, ◌-◌, ◌≤◌, Bool, true, false, List, [], ◌++◌, length, take, drop, refl, ap, sym, ◌∙◌, arith, length-append}
use Rattle.std.specs.Prelude.{bytes_eq}
use Rattle.std.specs.Cmp.Lexicographic.{bytes_decides}
use Rattle.std.proofs.lemmas.List.{take_at, append-nil}
use Rattle.prs_file.specs.Spelling.{node_spelling, value_spelling}

value_length : (first : Bool) → length (value_spelling first) ≡ 3
value_length true = refl
value_length false = refl

node_length : (name : List ℕ) (first : Bool) → length (node_spelling name first) ≡ length name + 8
node_length name first = omega (arith, length-append name (value_spelling first ++ []), ap length (append-nil (value_spelling first)), value_length first)

pub node_text : (line name : List ℕ) (first : Bool) → line ≡ node_spelling name first → take (length line - 3 - 5) (drop 5 line) ≡ name
node_text line name first e =
    let count : length line - 3 - 5 ≡ length name = omega (arith, ap length e, node_length name first) in
    ap (λ n. take n (drop 5 line)) count ∙ ap (λ l. take (length name) (drop 5 l)) e ∙ take_at name (value_spelling first ++ []) (length name) refl

pub no_node : (line text : List ℕ) → text ≡ take (length line - 3 - 5) (drop 5 line) → bytes_eq line (node_spelling text true) ≡ false →
    bytes_eq line (node_spelling text false) ≡ false → (name : List ℕ) (first : Bool) → line ≡ node_spelling name first → ⊥
no_node line text is high low name true e =
    let said : line ≡ node_spelling text true = e ∙ ap (λ n. node_spelling n true) (sym (node_text line name true e) ∙ sym is) in
    absurd (cc (high, (bytes_decides line (node_spelling text true)).1 said))
no_node line text is high low name false e =
    let said : line ≡ node_spelling text false = e ∙ ap (λ n. node_spelling n false) (sym (node_text line name false e) ∙ sym is) in
    absurd (cc (low, (bytes_decides line (node_spelling text false)).1 said))
