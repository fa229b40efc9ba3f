-- The text of a rule, literal by literal, each after its lead.
use Rattle.std.specs.Prelude.{◌≡◌, ℕ, zero, suc, ◌+◌, ◌*◌, ◌/◌, ◌%◌, ◌≤◌, ◌==◌, Bool, true, false, List, [], ◌∷◌, ◌++◌, length, map, filter}
use Rattle.prs_core.specs.declared.rule.Literal.{Literal}
use Rattle.prs_core.specs.Nets.{GuardValue, NetValue, name_at, guard_literals}
use Rattle.prs_core.specs.Pairs.{Pair}
use Rattle.prs_file.specs.declared.forms.Lead.{Lead}
use Rattle.prs_file.specs.declared.forms.Lead.TheVariants.{Rule, And, Or}
use Rattle.prs_file.specs.Spelling.{literal_behind}
use Rattle.function_blocks.specs.Gates.{minterm}

abbrev pub literals_behind : NetValue → Lead → List Literal → List ℕ
literals_behind net lead [] = []
literals_behind net lead (l ∷ ls) = literal_behind lead l.high (name_at net l.node) ++ literals_behind net And ls

abbrev pub terms_behind : NetValue → Lead → GuardValue → List ℕ
terms_behind net lead [] = []
terms_behind net lead (t ∷ ts) = literals_behind net lead t ++ terms_behind net Or ts

-- the lead of what follows some literals of a term, and some terms
abbrev pub and_behind : Lead → List Literal → Lead
and_behind lead [] = lead
and_behind lead (l ∷ ls) = And

abbrev pub lead_behind : Lead → GuardValue → Lead
lead_behind lead [] = lead
lead_behind lead (t ∷ ts) = Or

-- whether some term comes before
abbrev pub has_begun : Lead → Bool
has_begun Rule = false
has_begun And = true
has_begun Or = true

-- a text, before of so many bytes and now of so many, has these literals more, after their leads
pub record IsTermPut (net : NetValue) (lead next : Lead) (ls : List Literal) (before now : List ℕ)
    (start end : ℕ) : Type 0 where
  pub text : now ≡ before ++ literals_behind net lead ls
  pub leads : next ≡ and_behind lead ls
  pub long : end ≤ start + 64 * length ls

-- and these terms more
pub record IsPut (net : NetValue) (lead next : Lead) (g : GuardValue) (before now : List ℕ)
    (start end : ℕ) : Type 0 where
  pub text : now ≡ before ++ terms_behind net lead g
  pub leads : next ≡ lead_behind lead g
  pub long : end ≤ start + 64 * guard_literals g

-- the row of this number in a truth table of so many inputs: an input's value is the number's bit at its place
abbrev pub row_at : (inputs number : ℕ) → List Bool
row_at zero number = []
row_at (suc n) number = (number % 2 == 1) ∷ row_at n (number / 2)

-- the terms of a gate's guard on some rows, those on which the function holds
abbrev pub on_rows : List Pair → (List Bool → Bool) → List (List Bool) → GuardValue
on_rows inputs f rows = map (minterm inputs) (filter f rows)

abbrev pub on_row : List Pair → (List Bool → Bool) → List Bool → GuardValue
on_row inputs f row = on_rows inputs f (row ∷ [])
