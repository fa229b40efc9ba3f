-- The text of a line has one end, its last byte.
use Rattle.std.proofs.Common.{◌≡◌, ℕ, ◌+◌, ◌<◌, ◌≤◌, Bool, true, false, List, [], ◌∷◌, ◌++◌, length, take, drop, refl, ap, sym, ◌∙◌, arith, length-append}
use Rattle.std.specs.Prelude.{◌&&◌, ◌==◌, ◌^◌, ◌%◌, All, Contains, not, codes, decimal}
use Rattle.std.specs.List.{list_all, join_by, flat_map, position_or_len}
use Rattle.std.proofs.lemmas.Bool.{and_parts, eqb-true, ne_eqb, or_left}
use Rattle.std.proofs.lemmas.Fmt.{decimal_by_steps}
use Rattle.std.proofs.lemmas.List.{append_assoc, append-nil, take_at, drop_at}
use Rattle.std.proofs.lemmas.List.Elements.{All-contains, Contains-get_or, Contains-append_right}
use Rattle.std.proofs.lemmas.List.Folds.{list_all-append}
use Rattle.chp_base.specs.Names.{IsNodeName, node_part, word_part}
use Rattle.chp_base.specs.declared.channel.Kind.{Kind}
use Rattle.chp_base.specs.declared.channel.Kind.TheVariants.{In, Out, Chan}
use Rattle.prs_file.specs.Lines.{line_length, first_line, behind_line}
use Rattle.prs_file.specs.Reading.{Form, IsForm, IsTermForm, Signed, signed_spelling, form_spelling}
use Rattle.prs_file.specs.Reading.Form.{head, node, channel, rule}
use Rattle.prs_file.specs.Spelling.{kind_spelling, sign_spelling}

-- without an end of a line
abbrev plain : List ℕ → Bool
plain bs = list_all (λ b. not (b == 10)) bs

plain_append : (xs ys : List ℕ) → plain xs ≡ true → plain ys ≡ true → plain (xs ++ ys) ≡ true
plain_append xs ys one two = list_all-append (λ b. not (b == 10)) xs ys ∙ ap (λ b. b && plain ys) one ∙ two

no_end : (b : ℕ) → node_part b ≡ true → (b == 10) ≡ false
no_end b part = by_case (b == 10) refl
  where
    by_case : (e : Bool) → (b == 10) ≡ e → e ≡ false
    by_case true is = absurd (cc (part, ap node_part (eqb-true b 10 is)))
    by_case false is = refl

plain_name : (name : List ℕ) → list_all node_part name ≡ true → plain name ≡ true
plain_name [] parts = refl
plain_name (b ∷ bs) parts =
    let both = and_parts (node_part b) (list_all node_part bs) parts in
    rw (no_end b both.0) (plain_name bs both.1)

wider : (name : List ℕ) → list_all word_part name ≡ true → list_all node_part name ≡ true
wider [] parts = refl
wider (b ∷ bs) parts =
    let both = and_parts (word_part b) (list_all word_part bs) parts in
    let here : node_part b ≡ true = or_left (word_part b) (b == 46) both.0 in
    rw here (wider bs both.1)

-- where the first line of a text ends
ended_at : (body rest : List ℕ) → plain body ≡ true → position_or_len (λ b. b == 10) (body ++ (10 ∷ rest)) ≡ length body
ended_at [] rest free = refl
ended_at (b ∷ bs) rest free =
    let both = and_parts (not (b == 10)) (plain bs) free in
    by_case (b == 10) refl both.0 (ended_at bs rest both.1)
  where
    by_case : (e : Bool) → (b == 10) ≡ e → not (b == 10) ≡ true → position_or_len (λ b. b == 10) (bs ++ (10 ∷ rest)) ≡ length bs →
        position_or_len (λ b. b == 10) ((b ∷ bs) ++ (10 ∷ rest)) ≡ length (b ∷ bs)
    by_case true is other more = absurd (cc (is, other))
    by_case false is other more = rw is (omega (arith, more))

pub record IsLine (text : List ℕ) : Type 0 where
  pub body : List ℕ
  pub is : text ≡ body ++ 10 ∷ []
  pub free : plain body ≡ true

line_len : (body rest : List ℕ) → plain body ≡ true → line_length (body ++ (10 ∷ rest)) ≡ length (body ++ 10 ∷ [])
line_len body rest free = omega (arith, ended_at body rest free, length-append body (10 ∷ rest), length-append body (10 ∷ []))

pub cut_at : (text rest : List ℕ) → IsLine text → (first_line (text ++ rest) ≡ text) × (behind_line (text ++ rest) ≡ rest)
cut_at text rest line =
    let whole : text ++ rest ≡ line.body ++ (10 ∷ rest) = ap (λ t. t ++ rest) line.is ∙ append_assoc line.body (10 ∷ []) rest in
    let count : line_length (text ++ rest) ≡ length text = ap line_length whole ∙ line_len line.body rest line.free ∙ ap length (sym line.is) in
    (ap (λ n. take n (text ++ rest)) count ∙ take_at text rest (length text) refl, ap (λ n. drop n (text ++ rest)) count ∙ drop_at text rest (length text) refl)

-- each line of a file is one

line_by : (text body : List ℕ) → text ≡ body ++ 10 ∷ [] → plain body ≡ true → IsLine text
line_by text body is free = record { body = body; is = is; free = free }

plain_decimal : (n : ℕ) → n < 2 ^ 64 → plain (decimal n) ≡ true
plain_decimal n small = decimal_by_steps (λ n ds. plain ds ≡ true) one more n small
  where
    digit_plain : (d : ℕ) → (48 + d == 10) ≡ false
    digit_plain d = ne_eqb (48 + d) 10 (λ e. absurd (omega (arith, e)))

    one : (n : ℕ) → n < 10 → plain ((48 + n) ∷ []) ≡ true
    one n below = rw (digit_plain n) refl

    more : (n : ℕ) (ds : List ℕ) → 10 ≤ n → plain ds ≡ true → plain (ds ++ ((48 + n % 10) ∷ [])) ≡ true
    more n ds above so_far = plain_append ds ((48 + n % 10) ∷ []) so_far (rw (digit_plain (n % 10)) refl)

signed_plain : (s : Signed) → IsNodeName s.name → plain (signed_spelling s) ≡ true
signed_plain s named = by_sign s.high
  where
    by_sign : (high : Bool) → plain (sign_spelling high ++ s.name) ≡ true
    by_sign true = plain_name s.name named.parts
    by_sign false = plain_name s.name named.parts

more_plain : {X : Type 0} (f : X → List ℕ) (sep : List ℕ) (xs : List X) → plain sep ≡ true → ((x : X) → Contains xs x → plain (f x) ≡ true) →
    plain (flat_map (λ x. sep ++ f x) xs) ≡ true
more_plain f sep [] free each = refl
more_plain f sep (x ∷ xs) free each =
    plain_append (sep ++ f x) (flat_map (λ x. sep ++ f x) xs) (plain_append sep (f x) free (each x (Contains-get_or (x ∷ xs) 0 x (omega arith))))
    (more_plain f sep xs free (λ y in'. each y (Contains-append_right (x ∷ []) xs y in')))

joined_plain : {X : Type 0} (f : X → List ℕ) (sep : List ℕ) (xs : List X) → plain sep ≡ true → ((x : X) → Contains xs x → plain (f x) ≡ true) →
    plain (join_by f sep xs) ≡ true
joined_plain f sep [] free each = refl
joined_plain f sep (x ∷ xs) free each =
    plain_append (f x) (flat_map (λ x. sep ++ f x) xs) (each x (Contains-get_or (x ∷ xs) 0 x (omega arith)))
    (more_plain f sep xs free (λ y in'. each y (Contains-append_right (x ∷ []) xs y in')))

guard_plain : (g : List (List Signed)) → All IsTermForm g → plain (join_by (join_by signed_spelling (codes " & ")) (codes " | ") g) ≡ true
guard_plain g all = joined_plain (join_by signed_spelling (codes " & ")) (codes " | ") g refl (λ t in'.
    joined_plain signed_spelling (codes " & ") t refl
    (λ s here. signed_plain s (All-contains (λ (s : Signed). IsNodeName s.name) t s (All-contains IsTermForm g t all in').names here)))

pub line_of_form : (f : Form) → IsForm f → IsLine (form_spelling f)
line_of_form (head version) form =
    line_by (form_spelling (head version)) (codes "prs " ++ decimal version) (sym (append_assoc (codes "prs ") (decimal version) (10 ∷ [])))
    (plain_append (codes "prs ") (decimal version) refl (plain_decimal version (omega (arith, form.1))))
line_of_form (node name true) form =
    line_by (form_spelling (node name true)) (codes "node " ++ (name ++ codes " 1"))
    (ap (λ t. codes "node " ++ t) (sym (append_assoc name (codes " 1") (10 ∷ [])))) (plain_append name (codes " 1") (plain_name name form.parts) refl)
line_of_form (node name false) form =
    line_by (form_spelling (node name false)) (codes "node " ++ (name ++ codes " 0"))
    (ap (λ t. codes "node " ++ t) (sym (append_assoc name (codes " 0") (10 ∷ [])))) (plain_append name (codes " 0") (plain_name name form.parts) refl)
line_of_form (channel c) form =
    line_by (form_spelling (channel c)) (kind_spelling c.kind ++ (c.name ++ (codes " " ++ decimal c.width)))
    (sym (append_assoc (kind_spelling c.kind) (c.name ++ (codes " " ++ decimal c.width)) (10 ∷ [])
    ∙ ap (λ t. kind_spelling c.kind ++ t) (append_assoc c.name (codes " " ++ decimal c.width) (10 ∷ []))))
    (plain_append (kind_spelling c.kind) (c.name ++ (codes " " ++ decimal c.width)) (plain_kind c.kind)
    (plain_append c.name (codes " " ++ decimal c.width) (plain_name c.name (wider c.name form.name.parts))
    (plain_decimal c.width (omega (arith, form.most)))))
  where
    plain_kind : (k : Kind) → plain (kind_spelling k) ≡ true
    plain_kind In = refl
    plain_kind Out = refl
    plain_kind Chan = refl
line_of_form (rule g name up) form = by_direction up
  where
    guard : List ℕ
    guard = join_by (join_by signed_spelling (codes " & ")) (codes " | ") g

    ended : (sign : List ℕ) → codes "rule " ++ (guard ++ ((codes " -> " ++ (name ++ ((sign ++ 10 ∷ []) ++ []))) ++ [])) ≡
        (codes "rule " ++ (guard ++ (codes " -> " ++ (name ++ sign)))) ++ 10 ∷ []
    ended sign = sym (ap (λ t. codes "rule " ++ t) (append_assoc guard (codes " -> " ++ (name ++ sign)) (10 ∷ [])
        ∙ ap (λ t. guard ++ (codes " -> " ++ t)) (append_assoc name sign (10 ∷ []) ∙ ap (λ t. name ++ t) (sym (append-nil (sign ++ 10 ∷ []))))
        ∙ ap (λ t. guard ++ t) (sym (append-nil (codes " -> " ++ (name ++ ((sign ++ 10 ∷ []) ++ [])))))))

    free : (sign : List ℕ) → plain sign ≡ true → plain (codes "rule " ++ (guard ++ (codes " -> " ++ (name ++ sign)))) ≡ true
    free sign is = plain_append guard (codes " -> " ++ (name ++ sign)) (guard_plain g form.1) (plain_append name sign (plain_name name form.2.parts) is)

    by_direction : (up : Bool) → IsLine (form_spelling (rule g name up))
    by_direction true = line_by (form_spelling (rule g name true)) (codes "rule " ++ (guard ++ (codes " -> " ++ (name ++ codes "+")))) (ended (codes "+"))
        (free (codes "+") refl)
    by_direction false = line_by (form_spelling (rule g name false)) (codes "rule " ++ (guard ++ (codes " -> " ++ (name ++ codes "-")))) (ended (codes "-"))
        (free (codes "-") refl)
