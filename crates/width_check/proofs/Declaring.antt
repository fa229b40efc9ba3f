-- Names that are declared, and that none is declared twice.
use Rattle.std.proofs.Common.{◌≡◌, ◌≢◌, ℕ, ◌<◌, ◌≤◌, Bool, true, false, List, [], ◌∷◌, ◌+◌, ◌-◌, length, map, get_or, take, drop, refl, sym, ap, ◌∙◌, subst, arith}
use Rattle.std.specs.Prelude.{◌||◌, ◌&&◌, ◌==◌, not, nat_eq, AllPairs}
use Rattle.std.specs.Bool.{Decides}
use Rattle.std.specs.List.{list_any, list_all, IsDistinct, AllByRecursion}
use Rattle.std.specs.Str.{bytes_eq}
use Rattle.std.proofs.lemmas.Bool.Decides.{Decides-eqb, nat_tests}
use Rattle.std.proofs.lemmas.List.{drop_more, length-drop, take_all}
use lib.Dec.{leb}
use Rattle.std.proofs.lemmas.List.Folds.{list_any-append}
use Rattle.std.proofs.lemmas.Map.Made.{AllPairs-from_IsDistinct, IsDistinct-from_AllPairs}
use Rattle.std.proofs.lemmas.Slice.Eq.{bytes_eq-Decides}
use Rattle.chp_base.specs.Names.{IsName, IsNodeName, word_part, node_part, is_keyword}
use Rattle.chp_base.specs.declared.channel.Channel.{Channel}
use Rattle.width_check.specs.declared.typed.Var.{Var}
use Rattle.width_check.specs.Typing.{names_of}
use Rattle.width_check.proofs.Alike.{Alike}

pub true_false : (b : Bool) → b ≡ true → b ≡ false → ⊥
true_false true is other = absurd (cc other)
true_false false is other = absurd (cc is)

-- a dot is all that the parts of a node's name may have and those of a word may not

word_or_dot : (b : ℕ) (w : Bool) → (w || b == 46) ≡ true → (b == 46) ≡ false → w ≡ true
word_or_dot b true is other = refl
word_or_dot b false is other = absurd (cc (is, other))

both : (a b : Bool) → (a && b) ≡ true → (a ≡ true) × (b ≡ true)
both true b is = (refl, is)
both false b is = absurd (cc is)

neither : (a b : Bool) → (a || b) ≡ false → (a ≡ false) × (b ≡ false)
neither true b is = absurd (cc is)
neither false b is = (refl, is)

and_true : (a b : Bool) → a ≡ true → b ≡ true → (a && b) ≡ true
and_true true b x y = y
and_true false b x y = absurd (cc x)

or_false : (a b : Bool) → a ≡ false → b ≡ false → (a || b) ≡ false
or_false true b x y = absurd (cc x)
or_false false b x y = y

pub no_dots : (bs : List ℕ) → list_all node_part bs ≡ true → list_any (λ b. nat_eq b 46) bs ≡ false → list_all word_part bs ≡ true
no_dots [] parts none = refl
no_dots (b ∷ bs) parts none =
    let here = both (node_part b) (list_all node_part bs) parts in
    let no = neither (nat_eq b 46) (list_any (λ b. nat_eq b 46) bs) none in
    and_true (word_part b) (list_all word_part bs) (word_or_dot b (word_part b) here.0 no.0) (no_dots bs here.1 no.1)

dot_or_not : (b : ℕ) (e : Bool) → nat_eq b 46 ≡ e → word_part b ≡ true → nat_eq b 46 ≡ false
dot_or_not b false is word = is
dot_or_not b true is word =
    let e : b ≡ 46 = (Decides-eqb b 46).0 is in
    let w : word_part 46 ≡ true = subst (λ n. word_part n ≡ true) e word in
    absurd (cc w)

pub words_no_dots : (bs : List ℕ) → list_all word_part bs ≡ true → list_any (λ b. nat_eq b 46) bs ≡ false
words_no_dots [] parts = refl
words_no_dots (b ∷ bs) parts =
    let here = both (word_part b) (list_all word_part bs) parts in
    or_false (nat_eq b 46) (list_any (λ b. nat_eq b 46) bs) (dot_or_not b (nat_eq b 46) refl here.0) (words_no_dots bs here.1)

-- names of channels and of variables

any_mapped : {X : Type 0} (f : X → List ℕ) (p : List ℕ → Bool) (xs : List X) → list_any p (map f xs) ≡ list_any (λ x. p (f x)) xs
any_mapped f p [] = refl
any_mapped f p (x ∷ xs) = ap (λ b. p (f x) || b) (any_mapped f p xs)

pub among : (name : List ℕ) (cs : List Channel) (vs : List Var) →
    list_any (bytes_eq name) (names_of cs vs) ≡ (list_any (λ (c : Channel). bytes_eq name c.name) cs || list_any (λ (v : Var). bytes_eq name v.name) vs)
among name cs vs =
    list_any-append (bytes_eq name) (map (λ (c : Channel). c.name) cs) (map (λ (v : Var). v.name) vs)
    ∙ ap (λ b. b || list_any (bytes_eq name) (map (λ (v : Var). v.name) vs)) (any_mapped (λ (c : Channel). c.name) (bytes_eq name) cs)
    ∙ ap (λ b. list_any (λ (c : Channel). bytes_eq name c.name) cs || b) (any_mapped (λ (v : Var). v.name) (bytes_eq name) vs)

-- no name stands twice

pub none_equal : (name : List ℕ) (names : List (List ℕ)) → list_any (bytes_eq name) names ≡ false → AllByRecursion (λ other. bytes_eq name other ≡ false) names
none_equal name [] none = tt
none_equal name (x ∷ xs) none =
    let no = neither (bytes_eq name x) (list_any (bytes_eq name) xs) none in
    (no.0, none_equal name xs no.1)

pub equal_none : (name : List ℕ) (names : List (List ℕ)) → AllByRecursion (λ other. bytes_eq name other ≡ false) names → list_any (bytes_eq name) names ≡ false
equal_none name [] none = refl
equal_none name (x ∷ xs) none = or_false (bytes_eq name x) (list_any (bytes_eq name) xs) none.0 (equal_none name xs none.1)

pub name_more : (P : Type 0) (name : List ℕ) (names : List (List ℕ)) → Alike P (IsDistinct bytes_eq (name ∷ names)) → list_any (bytes_eq name) names ≡ false →
    Alike P (IsDistinct bytes_eq names)
unfolding IsDistinct
name_more P name names same none = record { whole = λ rest. same.whole (none_equal name names none, rest); rest = λ all. (same.rest all).1 }

pub name_twice : (P : Type 0) (name : List ℕ) (names : List (List ℕ)) → Alike P (IsDistinct bytes_eq (name ∷ names)) → list_any (bytes_eq name) names ≡ true →
    ¬ P
unfolding IsDistinct
name_twice P name names same found all = let none = equal_none name names (same.rest all).0 in absurd (cc (found, none))

pub no_name_twice : (names : List (List ℕ)) → Alike (IsDistinct bytes_eq names) (IsDistinct bytes_eq []) → AllPairs (λ (a b : List ℕ). a ≢ b) names
unfolding IsDistinct
no_name_twice names same = AllPairs-from_IsDistinct bytes_eq-Decides names (same.whole tt)

pub some_name_twice : (names : List (List ℕ)) → ¬ IsDistinct bytes_eq names → ¬ AllPairs (λ (a b : List ℕ). a ≢ b) names
some_name_twice names twice apart = twice (IsDistinct-from_AllPairs bytes_eq-Decides names apart)

-- the names from a place on

pub channel_at : (P : Type 0) (cs : List Channel) (vs : List Var) (i : ℕ) (c : Channel) → i < length cs → c ≡ get_or cs i c →
    Alike P (IsDistinct bytes_eq (names_of (drop i cs) vs)) → Alike P (IsDistinct bytes_eq (c.name ∷ names_of (drop (i + 1) cs) vs))
channel_at P cs vs i c within is same =
    let e : drop i cs ≡ c ∷ drop (i + 1) cs = drop_more cs i c within ∙ ap (λ x. x ∷ drop (i + 1) cs) (sym is) in
    subst (λ (rest : List Channel). Alike P (IsDistinct bytes_eq (names_of rest vs))) e same

pub var_at : (P : Type 0) (vs : List Var) (i : ℕ) (v : Var) → i < length vs → v ≡ get_or vs i v → Alike P (IsDistinct bytes_eq (names_of [] (drop i vs))) →
    Alike P (IsDistinct bytes_eq (v.name ∷ names_of [] (drop (i + 1) vs)))
var_at P vs i v within is same =
    let e : drop i vs ≡ v ∷ drop (i + 1) vs = drop_more vs i v within ∙ ap (λ x. x ∷ drop (i + 1) vs) (sym is) in
    subst (λ (rest : List Var). Alike P (IsDistinct bytes_eq (names_of [] rest))) e same

pub rest_all : {X : Type 0} (xs : List X) (k : ℕ) → take (length xs - k) (drop k xs) ≡ drop k xs
rest_all xs k = take_all (length xs - k) (drop k xs) (omega (arith, length-drop k xs))

-- names that a program may declare among names of nodes

pub name_decided : (bs : List ℕ) (reserved : Bool) → IsNodeName bs → length bs ≤ 24 → list_any (λ b. nat_eq b 46) bs ≡ false → reserved ≡ is_keyword bs →
    Decides (not reserved) (IsName bs)
name_decided bs true node short none is = (λ e. absurd (cc e), λ name. let free = name.free in absurd (cc (free, is)))
name_decided bs false node short none is = (λ _. record { short = short; first = node.first; parts = no_dots bs node.parts none; free = sym is }, λ _. refl)

pub not_short : (v : Bool) (n : ℕ) → v ≡ leb n 24 → 24 < n → v ≡ false
not_short v n is long = grind (arith, nat_tests)

pub name_long : (bs : List ℕ) (v : Bool) → 24 < length bs → v ≡ false → Decides v (IsName bs)
name_long bs v long is = (λ e. absurd (true_false v e is), λ name. absurd (omega (arith, name.short)))

pub name_dotted : (bs : List ℕ) (v : Bool) → list_any (λ b. nat_eq b 46) bs ≡ true → v ≡ false → Decides v (IsName bs)
name_dotted bs v dotted is = (
  λ e. absurd (true_false v e is),
  λ name. absurd (true_false (list_any (λ b. nat_eq b 46) bs) dotted (words_no_dots bs name.parts)),
)

pub turned_true : (v r : Bool) → v ≡ not r → v ≡ true → r ≡ false
turned_true v true is so = absurd (true_false v so is)
turned_true v false is so = refl

pub turned_false : (v r : Bool) → v ≡ not r → v ≡ false → r ≡ true
turned_false v true is so = refl
turned_false v false is so = absurd (true_false v is so)
