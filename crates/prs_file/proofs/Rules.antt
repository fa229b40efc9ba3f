-- The lines of a file one after another, and the text of a rule with its leads.
use Rattle.std.proofs.Common.{◌≡◌, ℕ, Bool, ◌+◌, ◌<◌, ◌≤◌, List, [], ◌∷◌, ◌++◌, length, drop, refl, ap, sym, ◌∙◌, arith}
use Rattle.std.specs.Prelude.{codes}
use Rattle.std.specs.List.{concat, flat_map, range_with_len}
use Rattle.std.proofs.lemmas.List.{append_assoc, append-nil, map-id, drop_all}
use Rattle.std.proofs.lemmas.List.Concat.{flat_map-append}
use Rattle.std.proofs.lemmas.List.FromFn.{map-range_with_len_more}
use Rattle.prs_core.specs.declared.rule.Literal.{Literal}
use Rattle.prs_core.specs.Nets.{GuardValue, NetValue, name_at}
use Rattle.prs_file.specs.declared.forms.Lead.{Lead}
use Rattle.prs_file.specs.declared.forms.Lead.TheVariants.{Rule, And, Or}
use Rattle.prs_file.specs.Spelling.{lead_spelling, sign_spelling, literal_behind, literal_spelling, term_spelling, guard_spelling, end_spelling, rule_spelling}

range_more : (n : ℕ) → range_with_len 0 (n + 1) ≡ range_with_len 0 n ++ n ∷ []
range_more n = sym (map-id (range_with_len 0 (n + 1))) ∙ map-range_with_len_more (λ k. k) 0 n n (omega arith)
    ∙ ap (λ xs. xs ++ n ∷ []) (map-id (range_with_len 0 n))

-- one more line
pub lines_more : (f : ℕ → List ℕ) (n : ℕ) (before now : List ℕ) → now ≡ before ++ flat_map f (range_with_len 0 n) →
    now ++ f n ≡ before ++ flat_map f (range_with_len 0 (n + 1))
lines_more f n before now e =
    let more : flat_map f (range_with_len 0 (n + 1)) ≡ flat_map f (range_with_len 0 n) ++ f n =
    ap (flat_map f) (range_more n) ∙ flat_map-append f (range_with_len 0 n) (n ∷ []) ∙ ap (λ xs. flat_map f (range_with_len 0 n) ++ xs) (append-nil (f n)) in
    ap (λ xs. xs ++ f n) e ∙ append_assoc before (flat_map f (range_with_len 0 n)) (f n) ∙ ap (λ xs. before ++ xs) (sym more)

abbrev pub literals_behind : NetValue → Lead → List Literal → List ℕ
literals_behind net lead [] = []
literals_behind net lead (l ∷ ls) = literal_behind lead l.high (name_at net l.node) ++ literals_behind net And ls

abbrev pub terms_behind : NetValue → Lead → GuardValue → List ℕ
terms_behind net lead [] = []
terms_behind net lead (t ∷ ts) = (lead_spelling lead ++ term_spelling net t) ++ terms_behind net Or ts

-- a literal behind its lead, in the pieces of a term
literal_is : (net : NetValue) (lead : Lead) (l : Literal) → literal_behind lead l.high (name_at net l.node) ≡ lead_spelling lead ++ literal_spelling net l
literal_is net lead l = ap (λ xs. (lead_spelling lead ++ sign_spelling l.high) ++ xs) (append-nil (name_at net l.node))
    ∙ append_assoc (lead_spelling lead) (sign_spelling l.high) (name_at net l.node)

literals_and : (net : NetValue) (ls : List Literal) → literals_behind net And ls ≡ flat_map (λ y. codes " & " ++ literal_spelling net y) ls
literals_and net [] = refl
literals_and net (l ∷ ls) = ap (λ xs. xs ++ literals_behind net And ls) (literal_is net And l)
    ∙ ap (λ xs. (codes " & " ++ literal_spelling net l) ++ xs) (literals_and net ls)

-- the literals of a term make up its text
pub term_is : (net : NetValue) (lead : Lead) (t : List Literal) → 0 < length t → literals_behind net lead t ≡ lead_spelling lead ++ term_spelling net t
term_is net lead [] some = absurd (omega arith)
term_is net lead (l ∷ ls) some =
    ap (λ xs. xs ++ literals_behind net And ls) (literal_is net lead l)
    ∙ append_assoc (lead_spelling lead) (literal_spelling net l) (literals_behind net And ls)
    ∙ ap (λ xs. lead_spelling lead ++ (literal_spelling net l ++ xs)) (literals_and net ls)

terms_or : (net : NetValue) (ts : GuardValue) → terms_behind net Or ts ≡ flat_map (λ y. codes " | " ++ term_spelling net y) ts
terms_or net [] = refl
terms_or net (t ∷ ts) = ap (λ xs. (codes " | " ++ term_spelling net t) ++ xs) (terms_or net ts)

-- the terms of a guard make up its text
pub guard_is : (net : NetValue) (t : List Literal) (ts : GuardValue) → terms_behind net Rule (t ∷ ts) ≡ codes "rule " ++ guard_spelling net (t ∷ ts)
guard_is net t ts = append_assoc (codes "rule ") (term_spelling net t) (terms_behind net Or ts)
    ∙ ap (λ xs. codes "rule " ++ (term_spelling net t ++ xs)) (terms_or net ts)

-- after the last literal, and after the last term
pub term_over : (net : NetValue) (lead next : Lead) (t : List Literal) (i : ℕ) (before now : List ℕ) → 0 < length t → length t ≤ i →
    now ++ literals_behind net next (drop i t) ≡ before ++ literals_behind net lead t → now ≡ before ++ (lead_spelling lead ++ term_spelling net t)
term_over net lead next t i before now some over e =
    let rest : drop i t ≡ [] = drop_all i t over in
    let e' = rw rest at e in
    sym (append-nil now) ∙ e' ∙ ap (λ xs. before ++ xs) (term_is net lead t some)

pub guard_over : (net : NetValue) (next : Lead) (g : GuardValue) (i : ℕ) (before now : List ℕ) → 0 < length g → length g ≤ i →
    now ++ terms_behind net next (drop i g) ≡ before ++ terms_behind net Rule g → now ≡ before ++ (codes "rule " ++ guard_spelling net g)
guard_over net next [] i before now some over e = absurd (omega arith)
guard_over net next (t ∷ ts) i before now some over e =
    let rest : drop i (t ∷ ts) ≡ [] = drop_all i (t ∷ ts) over in
    let e' = rw rest at e in
    sym (append-nil now) ∙ e' ∙ ap (λ xs. before ++ xs) (guard_is net t ts)

-- a rule that is there
pub rule_is : (net : NetValue) (g : GuardValue) (node : ℕ) (up : Bool) (before : List ℕ) → 0 < length g → (before ++ (codes "rule " ++ guard_spelling net g))
    ++ end_spelling (name_at net node) up ≡ before ++ rule_spelling net g node up
rule_is net [] node up before some = absurd (omega arith)
rule_is net (t ∷ ts) node up before some =
    append_assoc before (codes "rule " ++ guard_spelling net (t ∷ ts)) (end_spelling (name_at net node) up)
    ∙ ap (λ xs. before ++ xs) (append_assoc (codes "rule ") (guard_spelling net (t ∷ ts)) (end_spelling (name_at net node) up)
    ∙ ap (λ xs. codes "rule " ++ (guard_spelling net (t ∷ ts) ++ xs)) (sym (append-nil (end_spelling (name_at net node) up))))

-- the parts of a file, one after another
pub whole_text : (head nodes channels rules t0 t1 t2 t3 t4 : List ℕ) → t0 ≡ [] → t1 ≡ t0 ++ head → t2 ≡ t1 ++ nodes → t3 ≡ t2 ++ channels → t4 ≡ t3 ++ rules →
    t4 ≡ concat (head ∷ nodes ∷ channels ∷ rules ∷ [])
whole_text head nodes channels rules t0 t1 t2 t3 t4 e0 e1 e2 e3 e4 =
    let all : t4 ≡ ((head ++ nodes) ++ channels) ++ rules =
    e4 ∙ ap (λ t. t ++ rules) (e3 ∙ ap (λ t. t ++ channels) (e2 ∙ ap (λ t. t ++ nodes) (e1 ∙ ap (λ t. t ++ head) e0))) in
    all ∙ append_assoc (head ++ nodes) channels rules ∙ append_assoc head nodes (channels ++ rules)
    ∙ ap (λ t. head ++ (nodes ++ (channels ++ t))) (sym (append-nil rules))
