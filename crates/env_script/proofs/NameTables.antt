-- The table of the names of channels, one channel after the other.
use Rattle.std.proofs.Common.{◌≡◌, ℕ, suc, ◌+◌, ◌<◌, ◌≤◌, Bool, true, false, List, [], ◌∷◌, ◌++◌, length, get_or, take, Option, Some, None, cond, refl, sym, ap, ◌∙◌, subst, arith, length-take}
use Rattle.std.specs.Prelude.{is_some, option_map, position, bytes_eq}
use Rattle.std.specs.Borrow.{Bor}
use Rattle.std.specs.BTreeMap.{BTreeMap, get_by}
use Rattle.std.specs.Cmp.Lexicographic.{slice_cmp, bytes_decides}
use Rattle.std.specs.Ordering.{nat_cmp}
use Rattle.std.proofs.lemmas.List.{take_more, take_all}
use Rattle.chp_base.specs.declared.channel.Channel.{Channel}
use Rattle.env_script.specs.NamePlaces.{IsPlaceTable}
use Rattle.env_script.proofs.Places.{position_cases}

abbrev Table : Type 0
Table = BTreeMap (Bor (List ℕ)) ℕ

abbrev at_name : Table → List ℕ → Option ℕ
at_name table name = get_by (λ k. slice_cmp nat_cmp name k.now) table

-- what a search answers that goes on at one more element, the one at n
abbrev longer : Option ℕ → Bool → ℕ → Option ℕ
longer (Some k) b n = Some k
longer None b n = cond b (Some n) None

longer_up : (o : Option ℕ) (b : Bool) (n : ℕ) → option_map (λ k. suc k) (longer o b n) ≡ longer (option_map (λ k. suc k) o) b (suc n)
longer_up (Some k) b n = refl
longer_up None true n = refl
longer_up None false n = refl

longer_not : (o : Option ℕ) (n : ℕ) → longer o false n ≡ o
longer_not (Some k) n = refl
longer_not None n = refl

longer_known : (o : Option ℕ) (b : Bool) (n : ℕ) → is_some o ≡ true → longer o b n ≡ o
longer_known (Some k) b n h = refl
longer_known None b n h = absurd (cc h)

longer_new : (o : Option ℕ) (n : ℕ) → is_some o ≡ false → longer o true n ≡ Some n
longer_new (Some k) n h = absurd (cc h)
longer_new None n h = refl

position_push : {X : Type 0} (p : X → Bool) (xs : List X) (y : X) → position p (xs ++ y ∷ []) ≡ longer (position p xs) (p y) (length xs)
position_push p [] y = position_cases p y [] (p y) refl
position_push {X} p (x ∷ xs) y = by_first (p x) refl (position_push p xs y)
  where
    by_first : (b : Bool) → p x ≡ b → position p (xs ++ y ∷ []) ≡ longer (position p xs) (p y) (length xs) →
        position p (x ∷ (xs ++ y ∷ [])) ≡ longer (position p (x ∷ xs)) (p y) (suc (length xs))
    by_first true is rest = position_cases p x (xs ++ y ∷ []) true is
        ∙ sym (ap (λ (o : Option ℕ). longer o (p y) (suc (length xs))) (position_cases p x xs true is))
    by_first false is rest = position_cases p x (xs ++ y ∷ []) false is ∙ (ap (option_map (λ k. suc k)) rest
        ∙ (longer_up (position p xs) (p y) (length xs)
        ∙ sym (ap (λ (o : Option ℕ). longer o (p y) (suc (length xs))) (position_cases p x xs false is))))

front_more : (cs : List Channel) (i : ℕ) (c : Channel) → i < length cs → c ≡ get_or cs i c → take (i + 1) cs ≡ take i cs ++ c ∷ []
front_more cs i c within is = take_more cs i c within ∙ ap (λ (x : Channel). take i cs ++ x ∷ []) (sym is)

front_counted : (cs : List Channel) (i : ℕ) → i < length cs → length (take i cs) ≡ i
front_counted cs i within = let h = length-take i cs in omega (arith, h, within)

-- where the name stands among one channel more, by what a table has at it
first_more : (cs : List Channel) (i : ℕ) (c : Channel) (table : Table) (name : List ℕ) → i < length cs → c ≡ get_or cs i c → IsPlaceTable (take i cs) table →
    position (λ (c : Channel). bytes_eq c.name name) (take (i + 1) cs) ≡ longer (at_name table name) (bytes_eq c.name name) i
first_more cs i c table name within is so_far =
    ap (position (λ (c : Channel). bytes_eq c.name name)) (front_more cs i c within is)
    ∙ (position_push (λ (c : Channel). bytes_eq c.name name) (take i cs) c
    ∙ (ap (λ (o : Option ℕ). longer o (bytes_eq c.name name) (length (take i cs))) (sym (so_far name))
    ∙ ap (λ (n : ℕ). longer (at_name table name) (bytes_eq c.name name) n) (front_counted cs i within)))

pub table_begun : (table : Table) → table.entries ≡ [] → IsPlaceTable [] table
table_begun table empty name = rw empty refl

-- a channel whose name the table has
pub table_known : (cs : List Channel) (i : ℕ) (c : Channel) (called : List ℕ) (table : Table) → i < length cs → c ≡ get_or cs i c → called ≡ c.name →
    IsPlaceTable (take i cs) table → is_some (at_name table called) ≡ true → IsPlaceTable (take (i + 1) cs) table
table_known cs i c called table within is same so_far known name = by_test (bytes_eq c.name name) refl ∙ sym (first_more cs i c table name within is so_far)
  where
    by_test : (b : Bool) → bytes_eq c.name name ≡ b → at_name table name ≡ longer (at_name table name) (bytes_eq c.name name) i
    by_test false test = sym (ap (λ (b : Bool). longer (at_name table name) b i) test ∙ longer_not (at_name table name) i)
    by_test true test =
        let its : called ≡ name = same ∙ (bytes_decides c.name name).0 test in
        sym (longer_known (at_name table name) (bytes_eq c.name name) i (ap (λ (n : List ℕ). is_some (at_name table n)) (sym its) ∙ known))

-- a channel whose name the table gets
pub table_more : (cs : List Channel) (i : ℕ) (c : Channel) (called : List ℕ) (old new : Table) → i < length cs → c ≡ get_or cs i c → called ≡ c.name →
    IsPlaceTable (take i cs) old → is_some (at_name old called) ≡ false →
    ((name : List ℕ) → at_name new name ≡ cond (bytes_eq called name) (Some i) (at_name old name)) → IsPlaceTable (take (i + 1) cs) new
table_more cs i c called old new within is same so_far unknown added name =
    added name ∙ (ap (λ (n : List ℕ). cond (bytes_eq n name) (Some i) (at_name old name)) same
    ∙ (by_test (bytes_eq c.name name) refl ∙ sym (first_more cs i c old name within is so_far)))
  where
    by_test : (b : Bool) → bytes_eq c.name name ≡ b →
        cond (bytes_eq c.name name) (Some i) (at_name old name) ≡ longer (at_name old name) (bytes_eq c.name name) i
    by_test false test = ap (λ (b : Bool). cond b (Some i) (at_name old name)) test
        ∙ sym (ap (λ (b : Bool). longer (at_name old name) b i) test ∙ longer_not (at_name old name) i)
    by_test true test =
        let its : called ≡ name = same ∙ (bytes_decides c.name name).0 test in
        ap (λ (b : Bool). cond b (Some i) (at_name old name)) test
        ∙ sym (ap (λ (b : Bool). longer (at_name old name) b i) test
        ∙ longer_new (at_name old name) i (ap (λ (n : List ℕ). is_some (at_name old n)) (sym its) ∙ unknown))

pub table_done : (cs : List Channel) (i : ℕ) (table : Table) → length cs ≤ i → IsPlaceTable (take i cs) table → IsPlaceTable cs table
table_done cs i table over so_far = subst (λ (xs : List Channel). IsPlaceTable xs table) (take_all i cs over) so_far
