-- The first three lines of a file.
use Rattle.std.proofs.Common.{◌≡◌, ℕ, zero, suc, ◌+◌, ◌-◌, ◌*◌, ◌^◌, ◌<◌, ◌≤◌, Bool, true, false, None, Some, List, [], ◌∷◌, ◌++◌, length, get_or, take, refl, ap, sym, ◌∙◌, subst, inl, inr, arith}
use Rattle.std.specs.Prelude.{◌⊎◌, ◌&&◌, not, ◌==◌, All, bytes_eq, codes}
use Rattle.std.specs.Str.Parse.{digits_value}
use Rattle.std.specs.Char.{digit_value}
use Rattle.std.specs.Cmp.Lexicographic.{bytes_decides}
use Rattle.std.proofs.lemmas.Bool.{and_left, and_right, false_from_ne_true}
use Rattle.std.proofs.lemmas.Bool.Decides.{nat_tests}
use Rattle.std.proofs.lemmas.Int.Digits.{digits_value_more}
use Rattle.std.proofs.lemmas.Nat.{pow-add}
use Rattle.std.proofs.lemmas.List.{length-take, get_or_default, get_or_push, length_push, append_cancel_left}
use Rattle.chp_base.specs.Names.{IsNodeName, digit}
use Rattle.prs_file.specs.declared.fault.NetFault.{NetFault}
use Rattle.prs_file.specs.declared.fault.NetFault.TheVariants.{BadLine, BadVersion}
use Rattle.prs_file.specs.Lines.{line_length, first_line, behind_line}
use Rattle.prs_file.specs.Openings.{opening}
use Rattle.prs_file.specs.Spelling.{head_spelling, node_spelling}
use Rattle.prs_file.specs.Reading.{Form, Says, may_stand, ends_nodes, form_fault, IsTaken, IsBadVersion, RefusedBehind, IsRefused}
use Rattle.prs_file.specs.Reading.Form.{head, node, channel, rule}
use Rattle.prs_file.specs.Reading.LineFault.{bad_version}
use Rattle.prs_file.specs.Reading.RefusedBehind.{at_line}
use Rattle.prs_file.proofs.Taking.{line_and_rest, taken_more, refused_here, not_here}

abbrev pub Digits : List ℕ → Type 0
Digits digits = All (λ b. digit b ≡ true) digits

digit_number : (b : ℕ) → digit b ≡ true → digit_value b ≡ b - 48
digit_number b is = grind (arith, nat_tests)

digit_range : (b : ℕ) → digit b ≡ true → (48 ≤ b) × (b ≤ 57)
digit_range b is = (grind (arith, nat_tests), grind (arith, nat_tests))

ten_power : (i : ℕ) → i < 9 → 10 ^ i ≤ 100000000
ten_power zero within = omega arith
ten_power (suc zero) within = omega arith
ten_power (suc (suc zero)) within = omega arith
ten_power (suc (suc (suc zero))) within = omega arith
ten_power (suc (suc (suc (suc zero)))) within = omega arith
ten_power (suc (suc (suc (suc (suc zero))))) within = omega arith
ten_power (suc (suc (suc (suc (suc (suc zero)))))) within = omega arith
ten_power (suc (suc (suc (suc (suc (suc (suc zero))))))) within = omega arith
ten_power (suc (suc (suc (suc (suc (suc (suc (suc zero)))))))) within = omega arith
ten_power (suc (suc (suc (suc (suc (suc (suc (suc (suc n))))))))) within = absurd (omega arith)

-- a digit more fits
pub digit_fits : (i n d : ℕ) → i < 9 → n < 10 ^ i → d < 10 → (n * 10 + d < 10 ^ (i + 1)) × (n * 10 + d < 2 ^ 32)
digit_fits i n d within small digit =
    let more : 10 ^ (i + 1) ≡ 10 ^ i * 10 = pow-add 10 i 1 in
    let most = ten_power i within in
    (omega arith, omega arith)

-- one digit more
pub digit_more : (digits : List ℕ) (i : ℕ) (b : ℕ) → Digits digits → i < length digits → b ≡ get_or digits i b →
    (digits_value 10 (take (i + 1) digits) ≡ digits_value 10 (take i digits) * 10 + (b - 48)) × (48 ≤ b) × (b ≤ 57)
digit_more digits i b all within is =
    let at : b ≡ get_or digits i 0 = is ∙ get_or_default digits i b 0 within in
    let range = digit_range b (subst (λ x. digit x ≡ true) (sym at) (all i 0 within)) in (
      digits_value_more 10 digits i within ∙ ap (λ v. digits_value 10 (take i digits) * 10 + v) (ap digit_value (sym at)
          ∙ digit_number b (subst (λ x. digit x ≡ true) (sym at) (all i 0 within))),
      range.0,
      range.1,
    )

-- the end of a line isn't a digit
no_digit_end : (xs : List ℕ) → All (λ b. digit b ≡ true) (xs ++ 10 ∷ []) → ⊥
no_digit_end xs all =
    let here : digit 10 ≡ true = subst (λ b. digit b ≡ true) (get_or_push xs 10 0 (length xs) refl) (all (length xs) 0 (omega (arith, length_push xs 10))) in
    absurd (cc here)

-- the digits, where the line is a first line of a version that isn't known
pub digits_are : (text bare digits : List ℕ) → (bare ≡ text) ⊎ (text ≡ bare ++ codes "\n") → ((t : List ℕ) → text ≡ t ++ codes "\n" → bare ≡ t) →
    Digits digits → (text ≡ digits) ⊎ (text ≡ digits ++ codes "\n") → bare ≡ digits
digits_are text bare digits two ended all (inr e) = ended digits e
digits_are text bare digits (inl same) ended all (inl e) = same ∙ e
digits_are text bare digits (inr more) ended all (inl e) = absurd (no_digit_end bare (subst Digits (sym e ∙ more) all))

pub behind_word : (line text digits : List ℕ) → line ≡ codes "prs " ++ text → (line ≡ codes "prs " ++ digits) ⊎ (line ≡ codes "prs " ++ digits ++ codes "\n") →
    (text ≡ digits) ⊎ (text ≡ digits ++ codes "\n")
behind_word line text digits is (inl e) = inl (append_cancel_left (codes "prs ") text digits (sym is ∙ e))
behind_word line text digits is (inr e) = inr (append_cancel_left (codes "prs ") text (digits ++ codes "\n") (sym is ∙ e))

line_some : (text : List ℕ) → 0 < length (first_line text) → 0 < length text
line_some text some = omega (arith, length-take (line_length text) text)

bad_version_long : (line digits : List ℕ) → IsBadVersion line digits → 0 < length line
bad_version_long line digits is = by_end is.spelled
  where
    by_end : (line ≡ codes "prs " ++ digits) ⊎ (line ≡ codes "prs " ++ digits ++ codes "\n") → 0 < length line
    by_end (inl e) = rw e (omega arith)
    by_end (inr e) = rw e (omega arith)

not_at_first : (text : List ℕ) → ((version : ℕ) → 1 ≤ version → version ≤ 2 → first_line text ≡ head_spelling version → ⊥) → (f : Form) →
    Says (first_line text) f → may_stand [] f ≡ false
not_at_first text none (head v) says = absurd (none v says.form.0 says.form.1 says.spelled)
not_at_first text none (node name first) says = refl
not_at_first text none (channel c) says = refl
not_at_first text none (rule g name up) says = refl

first_here : (text : List ℕ) (fault : NetFault) → ((version : ℕ) → 1 ≤ version → version ≤ 2 → first_line text ≡ head_spelling version → ⊥) →
    (fault ≡ BadVersion → (digits : List ℕ) × IsBadVersion (first_line text) digits) →
    (fault ≡ BadLine → (digits : List ℕ) → IsBadVersion (first_line text) digits → ⊥) → (fault ≡ BadVersion) ⊎ (fault ≡ BadLine) → RefusedBehind [] text fault
first_here text fault none bad known (inl is) =
    let here = bad is in
    subst (λ k. RefusedBehind [] text k) (sym is) (at_line (line_some text (bad_version_long _ here.0 here.1)) (bad_version (refl, here.0, here.1)))
first_here text fault none bad known (inr is) =
    subst (λ k. RefusedBehind [] text k) (sym is) (not_here [] text (λ at. known is at.1 at.2) (not_at_first text none) refl)

none_taken : (text : List ℕ) → IsTaken text [] text
none_taken text = record { told = refl; stand = tt }

pub first_refused : (text : List ℕ) (fault : NetFault) → ((version : ℕ) → 1 ≤ version → version ≤ 2 → first_line text ≡ head_spelling version → ⊥) →
    (fault ≡ BadVersion → (digits : List ℕ) × IsBadVersion (first_line text) digits) →
    (fault ≡ BadLine → (digits : List ℕ) → IsBadVersion (first_line text) digits → ⊥) → (fault ≡ BadVersion) ⊎ (fault ≡ BadLine) → IsRefused text fault 1
first_refused text fault none bad known two = refused_here text [] text fault 1 (none_taken text) (first_here text fault none bad known two) refl

pub head_taken : (text : List ℕ) (v : ℕ) → 1 ≤ v → v ≤ 2 → first_line text ≡ head_spelling v → IsTaken text (head v ∷ []) (behind_line text)
head_taken text v some most says = taken_more text [] (head v) text (first_line text) (behind_line text) (none_taken text) (line_and_rest text) says (
  some,
  most,
) refl refl

abbrev go_line : Form
go_line = node (codes "go") false

abbrev done_line : Form
done_line = node (codes "done") false

go_good : (v : ℕ) → 1 ≤ v → v ≤ 2 → form_fault (head v ∷ []) go_line ≡ None
go_good zero some most = absurd (omega arith)
go_good (suc zero) some most = refl
go_good (suc (suc zero)) some most = refl
go_good (suc (suc (suc n))) some most = absurd (omega arith)

done_good : (v : ℕ) → 1 ≤ v → v ≤ 2 → form_fault (head v ∷ go_line ∷ []) done_line ≡ None
done_good zero some most = absurd (omega arith)
done_good (suc zero) some most = refl
done_good (suc (suc zero)) some most = refl
done_good (suc (suc (suc n))) some most = absurd (omega arith)

pub go_name : IsNodeName (codes "go")
go_name = record { short = omega arith; first = refl; parts = refl }

pub done_name : IsNodeName (codes "done")
done_name = record { short = omega arith; first = refl; parts = refl }

pub go_taken : (text rest : List ℕ) (v : ℕ) → 1 ≤ v → v ≤ 2 → IsTaken text (head v ∷ []) rest → bytes_eq (first_line rest) (codes "node go 0\n") ≡ true →
    IsTaken text (head v ∷ go_line ∷ []) (behind_line rest)
go_taken text rest v some most taken says =
    taken_more text (head v ∷ []) go_line rest (first_line rest) (behind_line rest) taken (line_and_rest rest) ((bytes_decides _ _).0 says) go_name refl
    (go_good v some most)

pub done_taken : (text rest : List ℕ) (v : ℕ) → 1 ≤ v → v ≤ 2 → IsTaken text (head v ∷ go_line ∷ []) rest →
    bytes_eq (first_line rest) (codes "node done 0\n") ≡ true → IsTaken text (opening v) (behind_line rest)
done_taken text rest v some most taken says =
    taken_more text (head v ∷ go_line ∷ []) done_line rest (first_line rest) (behind_line rest) taken (line_and_rest rest) ((bytes_decides _ _).0 says)
    done_name refl (done_good v some most)

-- a line of another node than the one that is asked for
other_node : (line name asked : List ℕ) (first : Bool) → bytes_eq line (node_spelling asked false) ≡ false → line ≡ node_spelling name first →
    (bytes_eq name asked && not first) ≡ false
other_node line name asked true apart says = and_right (bytes_eq name asked) false refl
other_node line name asked false apart says =
    and_left (bytes_eq name asked) true (false_from_ne_true (bytes_eq name asked)
    (λ same. absurd (cc (
      apart,
      (bytes_decides line (node_spelling asked false)).1 (says
          ∙ ap (λ n. node_spelling n false) ((bytes_decides name asked).0 same)),
    ))))

not_go : (rest : List ℕ) (v : ℕ) → bytes_eq (first_line rest) (codes "node go 0\n") ≡ false → (f : Form) → Says (first_line rest) f →
    may_stand (head v ∷ []) f ≡ false
not_go rest v apart (head w) says = refl
not_go rest v apart (node name first) says = and_left _ _ (other_node (first_line rest) name (codes "go") first apart says.spelled)
not_go rest v apart (channel c) says = refl
not_go rest v apart (rule g name up) says = refl

not_done : (rest : List ℕ) (v : ℕ) → bytes_eq (first_line rest) (codes "node done 0\n") ≡ false → (f : Form) → Says (first_line rest) f →
    may_stand (head v ∷ go_line ∷ []) f ≡ false
not_done rest v apart (head w) says = refl
not_done rest v apart (node name first) says = other_node (first_line rest) name (codes "done") first apart says.spelled
not_done rest v apart (channel c) says = and_right (ends_nodes (v == 2) (Some go_line)) false refl
not_done rest v apart (rule g name up) says = and_right (ends_nodes (v == 2) (Some go_line)) false refl

pub go_refused : (text rest : List ℕ) (v : ℕ) → IsTaken text (head v ∷ []) rest → bytes_eq (first_line rest) (codes "node go 0\n") ≡ false →
    IsRefused text BadLine 2
go_refused text rest v taken apart =
    refused_here text (head v ∷ []) rest BadLine 2 taken (not_here (head v ∷ []) rest (λ at. absurd (cc at.0)) (not_go rest v apart) refl) refl

pub done_refused : (text rest : List ℕ) (v : ℕ) → IsTaken text (head v ∷ go_line ∷ []) rest → bytes_eq (first_line rest) (codes "node done 0\n") ≡ false →
    IsRefused text BadLine 3
done_refused text rest v taken apart =
    refused_here text (head v ∷ go_line ∷ []) rest BadLine 3 taken (not_here (head v ∷ go_line ∷ []) rest (λ at. absurd (cc at.0)) (not_done rest v apart) refl)
    refl
