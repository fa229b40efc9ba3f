-- What is put behind a text, literal by literal and term by term, and what is left of a list of them.
use Rattle.std.proofs.Common.{◌≡◌, ◌∙◌, ℕ, zero, suc, ◌+◌, ◌*◌, ◌<◌, ◌≤◌, Bool, true, false, List, [], ◌∷◌, ◌++◌, length, get_or, drop, All, refl, sym, ap, subst, arith}
use Rattle.std.proofs.lemmas.List.{append_assoc, append-nil, length-append, map-append, drop_more}
use Rattle.std.proofs.lemmas.List.Elements.{All-nil, All-cons, All-head, All-tail}
use Rattle.std.proofs.lemmas.List.Sums.{sum_by-append, sum_by-cons}
use Rattle.chp_base.specs.Names.{IsNodeName}
use Rattle.prs_core.specs.declared.rule.Literal.{Literal}
use Rattle.prs_core.specs.Nets.{GuardValue, NetValue, name_at, guard_literals}
use Rattle.prs_file.specs.declared.forms.Lead.{Lead}
use Rattle.prs_file.specs.declared.forms.Lead.TheVariants.{Rule, And, Or}
use Rattle.prs_file.specs.Spelling.{literal_behind}
use Rattle.net_compose.specs.declared.ending.Ending.{Ending}
use Rattle.net_compose.specs.Circuits.{term_end, with_ends}
use Rattle.net_stream.specs.Led.{literals_behind, terms_behind, and_behind, lead_behind, IsTermPut, IsPut}

-- leads
and_over : (ls : List Literal) → and_behind And ls ≡ And
and_over [] = refl
and_over (l ∷ ls) = refl

or_over : (g : GuardValue) → lead_behind Or g ≡ Or
or_over [] = refl
or_over (t ∷ g) = refl

and_more : (lead : Lead) (ls ms : List Literal) → and_behind lead (ls ++ ms) ≡ and_behind (and_behind lead ls) ms
and_more lead [] ms = refl
and_more lead (l ∷ ls) ms = sym (and_over ms)

lead_more : (lead : Lead) (g h : GuardValue) → lead_behind lead (g ++ h) ≡ lead_behind (lead_behind lead g) h
lead_more lead [] h = refl
lead_more lead (t ∷ g) h = sym (or_over h)

-- texts
literals_more : (net : NetValue) (lead : Lead) (ls ms : List Literal)
    → literals_behind net lead (ls ++ ms) ≡ literals_behind net lead ls ++ literals_behind net (and_behind lead ls) ms
literals_more net lead [] ms = refl
literals_more net lead (l ∷ ls) ms =
    let head = literal_behind lead l.high (name_at net l.node) in
    ap (λ t. head ++ t) (literals_more net And ls ms)
    ∙ (ap (λ x. head ++ (literals_behind net And ls ++ literals_behind net x ms)) (and_over ls)
    ∙ sym (append_assoc head (literals_behind net And ls) (literals_behind net And ms)))

terms_more : (net : NetValue) (lead : Lead) (g h : GuardValue)
    → terms_behind net lead (g ++ h) ≡ terms_behind net lead g ++ terms_behind net (lead_behind lead g) h
terms_more net lead [] h = refl
terms_more net lead (t ∷ g) h =
    let head = literals_behind net lead t in
    ap (λ u. head ++ u) (terms_more net Or g h)
    ∙ (ap (λ x. head ++ (terms_behind net Or g ++ terms_behind net x h)) (or_over g)
    ∙ sym (append_assoc head (terms_behind net Or g) (terms_behind net Or h)))

-- literals one behind the other
pub no_literals : (net : NetValue) (lead : Lead) (a : List ℕ) (k : ℕ) → IsTermPut net lead lead [] a a k k
no_literals net lead a k = record { text = sym (append-nil a); leads = refl; long = omega arith }

pub term_more : (net : NetValue) (lead mid next : Lead) (ls ms : List Literal) (a b c : List ℕ) (k m n : ℕ)
    → IsTermPut net lead mid ls a b k m → IsTermPut net mid next ms b c m n → IsTermPut net lead next (ls ++ ms) a c k n
term_more net lead mid next ls ms a b c k m n h i =
    let count = length-append ls ms in
    let first = h.long in
    let second = i.long in
    record {
      text = i.text ∙ (ap (λ t. t ++ literals_behind net mid ms) h.text
          ∙ (ap (λ x. (a ++ literals_behind net lead ls) ++ literals_behind net x ms) h.leads
          ∙ (append_assoc a (literals_behind net lead ls) (literals_behind net (and_behind lead ls) ms)
          ∙ ap (λ t. a ++ t) (sym (literals_more net lead ls ms)))));
      leads = i.leads ∙ (ap (λ x. and_behind x ms) h.leads ∙ sym (and_more lead ls ms));
      long = omega (arith, count, first, second);
    }

-- terms one behind the other
pub no_terms : (net : NetValue) (lead : Lead) (a : List ℕ) (k : ℕ) → IsPut net lead lead [] a a k k
no_terms net lead a k = record { text = sym (append-nil a); leads = refl; long = omega arith }

pub put_more : (net : NetValue) (lead mid next : Lead) (g h : GuardValue) (a b c : List ℕ) (k m n : ℕ)
    → IsPut net lead mid g a b k m → IsPut net mid next h b c m n → IsPut net lead next (g ++ h) a c k n
put_more net lead mid next g h a b c k m n p q =
    let count = sum_by-append (λ (t : List Literal). length t) g h in
    let first = p.long in
    let second = q.long in
    record {
      text = q.text ∙ (ap (λ t. t ++ terms_behind net mid h) p.text
          ∙ (ap (λ x. (a ++ terms_behind net lead g) ++ terms_behind net x h) p.leads
          ∙ (append_assoc a (terms_behind net lead g) (terms_behind net (lead_behind lead g) h)
          ∙ ap (λ t. a ++ t) (sym (terms_more net lead g h)))));
      leads = q.leads ∙ (ap (λ x. lead_behind x h) p.leads ∙ sym (lead_more lead g h));
      long = omega (arith, count, first, second);
    }

pub one_count : (t : List Literal) → guard_literals (t ∷ []) ≡ length t
one_count t = let e = sum_by-cons (λ (t : List Literal). length t) t [] in omega (arith, e)

pub one_put : (net : NetValue) (lead next : Lead) (t : List Literal) (a b : List ℕ) (k m : ℕ)
    → IsTermPut net lead next t a b k m → IsPut net lead Or (t ∷ []) a b k m
one_put net lead next t a b k m h =
    let count = one_count t in
    let most = h.long in
    record {
      text = h.text ∙ ap (λ u. a ++ u) (sym (append-nil (literals_behind net lead t)));
      leads = refl;
      long = omega (arith, count, most);
    }

length_drop : (i : ℕ) (ls : List Literal) → i < length ls → 1 ≤ length (drop i ls)
length_drop zero [] l = absurd (omega (arith, l))
length_drop zero (x ∷ ls) l = omega arith
length_drop (suc i) [] l = absurd (omega (arith, l))
length_drop (suc i) (x ∷ ls) l = length_drop i ls (omega (arith, l))

-- what is left of literals
pub record IsTermLeft (net : NetValue) (first lead : Lead) (ls left : List Literal) (before now : List ℕ) (start end : ℕ) : Type 0 where
  pub text : now ++ literals_behind net lead left ≡ before ++ literals_behind net first ls
  pub leads : and_behind lead left ≡ and_behind first ls
  pub long : end + 64 * length left ≤ start + 64 * length ls

pub term_begins : (net : NetValue) (lead : Lead) (ls left : List Literal) (a : List ℕ) (k : ℕ) → left ≡ ls → IsTermLeft net lead lead ls left a a k k
term_begins net lead ls left a k e =
    subst (λ x. IsTermLeft net lead lead ls x a a k k) (sym e) (record { text = refl; leads = refl; long = omega arith })

pub term_left : (net : NetValue) (first lead next : Lead) (ls left h rest : List Literal) (a b c : List ℕ) (k m n : ℕ) → left ≡ h ++ rest
    → IsTermLeft net first lead ls left a b k m → IsTermPut net lead next h b c m n → IsTermLeft net first next ls rest a c k n
term_left net first lead next ls left h rest a b c k m n e p q =
    let count = length-append h rest in
    let same = ap (λ (x : List Literal). length x) e in
    let most = p.long in
    let more = q.long in
    record {
      text = ap (λ t. t ++ literals_behind net next rest) q.text
          ∙ (ap (λ x. (b ++ literals_behind net lead h) ++ literals_behind net x rest) q.leads
          ∙ (append_assoc b (literals_behind net lead h) (literals_behind net (and_behind lead h) rest)
          ∙ (ap (λ t. b ++ t) (sym (literals_more net lead h rest))
          ∙ (ap (λ x. b ++ literals_behind net lead x) (sym e) ∙ p.text))));
      leads = ap (λ x. and_behind x rest) q.leads ∙ (sym (and_more lead h rest) ∙ (ap (and_behind lead) (sym e) ∙ p.leads));
      long = omega (arith, count, same, most, more);
    }

pub term_step : (net : NetValue) (first lead next : Lead) (ls : List Literal) (i : ℕ) (l d : Literal) (a b c : List ℕ) (k m n : ℕ)
    → IsTermPut net lead next (l ∷ []) b c m n → IsTermLeft net first lead ls (drop i ls) a b k m → i < length ls → l ≡ get_or ls i d
    → IsTermLeft net first next ls (drop (i + 1) ls) a c k n
term_step net first lead next ls i l d a b c k m n put left within is =
    term_left net first lead next ls (drop i ls) (l ∷ []) (drop (i + 1) ls) a b c k m n
    (drop_more ls i d within ∙ ap (λ y. y ∷ drop (i + 1) ls) (sym is)) left put

pub term_step_room : (net : NetValue) (first lead : Lead) (ls : List Literal) (i : ℕ) (a b : List ℕ) (k m cap now : ℕ)
    → IsTermLeft net first lead ls (drop i ls) a b k m → i < length ls → now < m + 64 → cap ≤ now → cap < k + 64 * length ls
term_step_room net first lead ls i a b k m cap now left within full more =
    let most = left.long in
    let some = length_drop i ls within in
    omega (arith, most, some, full, more)

pub term_over : (net : NetValue) (first lead : Lead) (ls left : List Literal) (a b : List ℕ) (k m : ℕ) → left ≡ []
    → IsTermLeft net first lead ls left a b k m → IsTermPut net first lead ls a b k m
term_over net first lead ls left a b k m e p =
    let same = ap (λ (x : List Literal). length x) e in
    let most = p.long in
    record {
      text = sym (append-nil b) ∙ (ap (λ x. b ++ literals_behind net lead x) (sym e) ∙ p.text);
      leads = ap (and_behind lead) (sym e) ∙ p.leads;
      long = omega (arith, same, most);
    }

pub term_room : (net : NetValue) (first lead : Lead) (ls left h rest : List Literal) (a b : List ℕ) (k m cap now : ℕ) → left ≡ h ++ rest
    → IsTermLeft net first lead ls left a b k m → now < m + 64 * length h → cap ≤ now → cap < k + 64 * length ls
term_room net first lead ls left h rest a b k m cap now e p full more =
    let count = length-append h rest in
    let same = ap (λ (x : List Literal). length x) e in
    let most = p.long in
    omega (arith, count, same, most, full, more)

-- what is left of terms
pub record IsLeft (net : NetValue) (first lead : Lead) (g left : GuardValue) (before now : List ℕ) (start end : ℕ) : Type 0 where
  pub text : now ++ terms_behind net lead left ≡ before ++ terms_behind net first g
  pub leads : lead_behind lead left ≡ lead_behind first g
  pub long : end + 64 * guard_literals left ≤ start + 64 * guard_literals g

pub begins : (net : NetValue) (lead : Lead) (g left : GuardValue) (a : List ℕ) (k : ℕ) → left ≡ g → IsLeft net lead lead g left a a k k
begins net lead g left a k e =
    subst (λ x. IsLeft net lead lead g x a a k k) (sym e) (record { text = refl; leads = refl; long = omega arith })

pub left_more : (net : NetValue) (first lead next : Lead) (g left h rest : GuardValue) (a b c : List ℕ) (k m n : ℕ) → left ≡ h ++ rest
    → IsLeft net first lead g left a b k m → IsPut net lead next h b c m n → IsLeft net first next g rest a c k n
left_more net first lead next g left h rest a b c k m n e p q =
    let count = sum_by-append (λ (t : List Literal). length t) h rest in
    let same = ap guard_literals e in
    let most = p.long in
    let more = q.long in
    record {
      text = ap (λ t. t ++ terms_behind net next rest) q.text
          ∙ (ap (λ x. (b ++ terms_behind net lead h) ++ terms_behind net x rest) q.leads
          ∙ (append_assoc b (terms_behind net lead h) (terms_behind net (lead_behind lead h) rest)
          ∙ (ap (λ t. b ++ t) (sym (terms_more net lead h rest))
          ∙ (ap (λ x. b ++ terms_behind net lead x) (sym e) ∙ p.text))));
      leads = ap (λ x. lead_behind x rest) q.leads ∙ (sym (lead_more lead h rest) ∙ (ap (lead_behind lead) (sym e) ∙ p.leads));
      long = omega (arith, count, same, most, more);
    }

pub left_over : (net : NetValue) (first lead : Lead) (g left : GuardValue) (a b : List ℕ) (k m : ℕ) → left ≡ []
    → IsLeft net first lead g left a b k m → IsPut net first lead g a b k m
left_over net first lead g left a b k m e p =
    let same = ap guard_literals e in
    let most = p.long in
    record {
      text = sym (append-nil b) ∙ (ap (λ x. b ++ terms_behind net lead x) (sym e) ∙ p.text);
      leads = ap (lead_behind lead) (sym e) ∙ p.leads;
      long = omega (arith, same, most);
    }

pub left_room : (net : NetValue) (first lead : Lead) (g left h rest : GuardValue) (a b : List ℕ) (k m cap now : ℕ) → left ≡ h ++ rest
    → IsLeft net first lead g left a b k m → now < m + 64 * guard_literals h → cap ≤ now → cap < k + 64 * guard_literals g
left_room net first lead g left h rest a b k m cap now e p full more =
    let count = sum_by-append (λ (t : List Literal). length t) h rest in
    let same = ap guard_literals e in
    let most = p.long in
    omega (arith, count, same, most, full, more)

-- no room for a part is no room for all
pub room_first : (g h : GuardValue) (k cap : ℕ) → cap < k + 64 * guard_literals g → cap < k + 64 * guard_literals (g ++ h)
room_first g h k cap full = let count = sum_by-append (λ (t : List Literal). length t) g h in omega (arith, count, full)

pub room_second : (net : NetValue) (lead next : Lead) (g h : GuardValue) (a b : List ℕ) (k m cap now : ℕ) → IsPut net lead next g a b k m
    → now < m + 64 * guard_literals h → cap ≤ now → cap < k + 64 * guard_literals (g ++ h)
room_second net lead next g h a b k m cap now p full more =
    let count = sum_by-append (λ (t : List Literal). length t) g h in
    let most = p.long in
    omega (arith, count, most, full, more)

pub ends_more : (ending : Ending) (g h : GuardValue) → with_ends ending (g ++ h) ≡ with_ends ending g ++ with_ends ending h
ends_more ending g h = map-append (λ (t : List Literal). t ++ term_end ending) g h

-- one literal
literal_length : (lead : Lead) (high : Bool) (name : List ℕ) → length name ≤ 32 → length (literal_behind lead high name) ≤ 64
literal_length Rule true name short = let e = length-append name [] in omega (arith, e, short)
literal_length Rule false name short = let e = length-append name [] in omega (arith, e, short)
literal_length And true name short = let e = length-append name [] in omega (arith, e, short)
literal_length And false name short = let e = length-append name [] in omega (arith, e, short)
literal_length Or true name short = let e = length-append name [] in omega (arith, e, short)
literal_length Or false name short = let e = length-append name [] in omega (arith, e, short)

pub literal_put : (net : NetValue) (lead : Lead) (l : Literal) (name a b : List ℕ) (k m : ℕ) → name ≡ name_at net l.node → IsNodeName name
    → k ≡ length a → m ≡ length b → b ≡ a ++ literal_behind lead l.high name → IsTermPut net lead And (l ∷ []) a b k m
literal_put net lead l name a b k m is named start end e =
    let most = literal_length lead l.high name named.short in
    let count = length-append a (literal_behind lead l.high name) in
    let all = ap (λ (t : List ℕ). length t) e in
    record {
      text = e ∙ (ap (λ n. a ++ literal_behind lead l.high n) is ∙ ap (λ t. a ++ t) (sym (append-nil (literal_behind lead l.high (name_at net l.node)))));
      leads = refl;
      long = omega (arith, most, count, all, start, end);
    }

-- all of a front, and of what is behind it
pub front_all : {X : Type 0} (P : X → Type 0) (xs ys : List X) → All P (xs ++ ys) → All P xs
front_all P [] ys h = All-nil P
front_all P (x ∷ xs) ys h = All-cons P x xs (All-head P x (xs ++ ys) h) (front_all P xs ys (All-tail P x (xs ++ ys) h))

pub behind_all : {X : Type 0} (P : X → Type 0) (xs ys : List X) → All P (xs ++ ys) → All P ys
behind_all P [] ys h = h
behind_all P (x ∷ xs) ys h = behind_all P xs ys (All-tail P x (xs ++ ys) h)

-- the literals of a term
pub term_count : (first wanted end : List Literal) → guard_literals (((first ++ wanted) ++ end) ∷ []) ≡ length first + length wanted + length end
term_count first wanted end =
    let one = one_count ((first ++ wanted) ++ end) in
    let a = length-append (first ++ wanted) end in
    let b = length-append first wanted in
    omega (arith, one, a, b)
