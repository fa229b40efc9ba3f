-- From one line of a rule file to the next.
use Rattle.std.proofs.Common.{◌≡◌, ◌∙◌, ℕ, suc, ◌+◌, ◌-◌, ◌<◌, ◌≤◌, true, false, List, [], ◌++◌, length, sym, ap, arith}
use Rattle.std.specs.List.{flat_map, range_with_len}
use Rattle.std.proofs.lemmas.List.{append_assoc}
use Rattle.prs_core.specs.Nets.{NetValue, name_at, first_at, up_of, down_of}
use Rattle.prs_file.specs.Spelling.{node_spelling, rule_spelling, rules_spelling}
use Rattle.net_stream.specs.declared.place.Place.{Place}
use Rattle.net_stream.specs.declared.place.Place.TheVariants.{Node, Up, Down}
use Rattle.net_stream.specs.Places.{node_lines_from, channel_lines_from, rule_lines_from, text_from, IsMadeAt}

range_front : (f : ℕ → List ℕ) (count k : ℕ) → k < count →
    flat_map f (range_with_len k (count - k)) ≡ f k ++ flat_map f (range_with_len (k + 1) (count - (k + 1)))
range_front f count k within =
    let e : count - k ≡ suc (count - (k + 1)) = omega arith in
    ap (λ m. flat_map f (range_with_len k m)) e

abbrev node_line_of : NetValue → ℕ → List ℕ
node_line_of n k = node_spelling (name_at n k) (first_at n k)

-- a line is appended, and what is left is the text behind it
line_behind : (n : NetValue) (place next : Place) (line before now : List ℕ) → now ≡ before ++ line → line ++ text_from n next ≡ text_from n place →
    now ++ text_from n next ≡ before ++ text_from n place
line_behind n place next line before now e rest =
    ap (λ t. t ++ text_from n next) e ∙ append_assoc before line (text_from n next) ∙ ap (λ t. before ++ t) rest

pub node_made : (n : NetValue) (k : ℕ) (before now : List ℕ) → k < length n.first → now ≡ before ++ node_spelling (name_at n k) (first_at n k) →
    IsMadeAt n (Node k) (Node (k + 1)) before now
node_made n k before now within e =
    let rest = channel_lines_from n 0 ++ rule_lines_from n 0 in
    record {
      text = line_behind n (Node k) (Node (k + 1)) (node_line_of n k) before now e
          (sym (append_assoc (node_line_of n k) (node_lines_from n (k + 1)) rest)
          ∙ ap (λ t. t ++ rest) (sym (range_front (node_line_of n) (length n.first) k within)));
      within = omega arith;
      fewer = omega arith;
    }

pub up_made : (n : NetValue) (k : ℕ) (before now : List ℕ) → k < length n.first → now ≡ before ++ rule_spelling n (up_of n k) k true →
    IsMadeAt n (Up k) (Down k) before now
up_made n k before now within e = record {
  text = line_behind n (Up k) (Down k) (rule_spelling n (up_of n k) k true) before now e
      (sym (append_assoc (rule_spelling n (up_of n k) k true) (rule_spelling n (down_of n k) k false) (rule_lines_from n (k + 1)))
      ∙ sym (range_front (rules_spelling n) (length n.first) k within));
  within = within;
  fewer = omega arith;
}
