-- Reading a part of the grammar from left to right: what is still to come.
use Rattle.std.proofs.Common.{◌≡◌, ℕ, ◌+◌, ◌<◌, ◌≤◌, List, [], ◌∷◌, ◌++◌, true, false, IsTrue, drop, length, Option, Some, None, refl, sym, ap, ◌∙◌, subst, arith, append_assoc}
use Rattle.std.proofs.lemmas.List.{drop-drop, length-drop}
use Rattle.std.proofs.lemmas.Result.{err_from_is_err_and}
use Rattle.std.specs.Prelude.{Result}
use Rattle.std.specs.Result.{IfErr, IsErrAnd}
use Rattle.chp_base.specs.declared.span.Span.{Span}
use Rattle.chp_syntax.specs.declared.token.Token.{Token}
use Rattle.chp_syntax.specs.declared.token.TokenKind.{TokenKind}
use Rattle.chp_syntax.specs.declared.token.TokenKind.TheVariants.{Word, Ident, Number, Sign}
use Rattle.chp_syntax.specs.declared.tree.Ident.{Ident as Named}
use Rattle.chp_syntax.specs.declared.parser.sight.Stop.{Stop}
use Rattle.chp_syntax.specs.declared.parser.sight.Stop.TheVariants.{Fault, NoMemory}
use Rattle.chp_syntax.specs.declared.parser.sight.Numeral.{Numeral}
use Rattle.chp_syntax.specs.Grammar.{name, numeral}
use Rattle.chp_syntax.specs.Parts.{GrammarPart, sees, here, IsKind, kind_read, rank, name_of, numeral_value, StopsAt, Anything, Exactly, exactly, Operator, operator, AName, the_name, ANumber, the_number, Good, Bad, WhenFault}

-- a part of the grammar, and then what is to come after it
pub data Then {A B : Type 0} (R : List Token → List Token → B → Type 0) (Q : B → List Token → List Token → A → Type 0) : List Token → List Token → A →
    Type 0 where
  and_then : {l mid rest : List Token} {b : B} {a : A} → R l mid b → Q b mid rest a → Then R Q l rest a

pub data Done {A : Type 0} (a : A) : List Token → List Token → A → Type 0 where
  all_done : {l : List Token} → Done a l l a

pub data Either {A : Type 0} (P Q : List Token → List Token → A → Type 0) : List Token → List Token → A → Type 0 where
  one : {l rest : List Token} {a : A} → P l rest a → Either P Q l rest a
  other : {l rest : List Token} {a : A} → Q l rest a → Either P Q l rest a

pub then_parts : {A B : Type 0} {R : GrammarPart B} {Q : B → GrammarPart A} {l rest : List Token} {a : A} → Then R Q l rest a →
    (mid : List Token) × (b : B) × R l mid b
    × Q b mid rest a
then_parts (and_then {mid = mid} {b = b} r q) = (mid, b, r, q)

pub done_parts : {A : Type 0} {a b : A} {l rest : List Token} → Done a l rest b → (rest ≡ l) × (b ≡ a)
done_parts all_done = (refl, refl)

-- ts has been read up to left, and what is left has to be read by Q for ts to be read by W
pub record SoFar {A : Type 0} (W : List Token → List Token → A → Type 0) (F : Option Token → Type 0) (ts left : List Token) (Q : List Token → List Token → A →
    Type 0) : Type 0 where
  pub done : List Token
  pub is : ts ≡ done ++ left
  pub into : (l rest : List Token) (a : A) → Q l rest a → W (done ++ l) rest a
  pub out : (l rest : List Token) (a : A) → sees l ≡ sees left → F (sees rest) → W (done ++ l) rest a → Q l rest a

-- some tokens end it
abbrev pub Ends : {A : Type 0} → GrammarPart A → Type 0
Ends {A} Q = (l : List Token) × (a : A) × ((rest : List Token) → Q (l ++ rest) rest a)

-- where a part ends and what is to come begins: that stops the part, and can be ended
pub record Seam {A B : Type 0} (R : List Token → List Token → B → Type 0) (G : Option Token → Type 0) (F : Option Token → Type 0) (Q : B → List Token →
    List Token → A → Type 0) : Type 0 where
  pub stops : (b : B) (l rest : List Token) (a : A) → F (sees rest) → Q b l rest a → G (sees l)
  pub ends : (b : B) → Ends (Q b)

pub start : {A : Type 0} (W : GrammarPart A) (F : Option Token → Type 0) (ts : List Token) → SoFar W F ts ts W
start W F ts = record { done = []; is = refl; into = λ l rest a q. q; out = λ l rest a s f w. w }

pub sees_same : (d l left : List Token) → sees l ≡ sees left → sees (d ++ l) ≡ sees (d ++ left)
sees_same [] l left e = e
sees_same (t ∷ d) l left e = refl

-- another way to say what is to come
pub instead : {A : Type 0} {W : GrammarPart A} {F : Option Token → Type 0} {ts left : List Token} {Q : GrammarPart A} (P : GrammarPart A) →
    SoFar W F ts left Q →
    ((l rest : List Token) (a : A) → P l rest a → Q l rest a) → ((l rest : List Token) (a : A) → sees l ≡ sees left → F (sees rest) → Q l rest a → P l rest a) →
    SoFar W F ts left P
instead P so i o = record {
  done = so.done;
  is = so.is;
  into = λ l rest a p. so.into l rest a (i l rest a p);
  out = λ l rest a s f w. o l rest a s f (so.out l rest a s f w);
}

pub by_part : {A B : Type 0} {W : GrammarPart A} {F : Option Token → Type 0} {ts mid left : List Token} {R : GrammarPart B} {G : Option Token →
    Type 0} {b : B} {Q : B →
    GrammarPart A} → Seam R G F Q → SoFar W F ts mid (Then R Q) → Good R G mid left b → SoFar W F ts left (Q b)
by_part {A} {B} {W} {F} {ts} {mid} {left} {R} {G} {b} {Q} seam so good = record {
  done = so.done ++ good.done;
  is = so.is ∙ (ap (λ x. so.done ++ x) good.is ∙ sym (append_assoc so.done good.done left));
  into = λ l rest a q. subst (λ (x : List Token). W x rest a) (sym (append_assoc so.done good.done l))
      (so.into (good.done ++ l) rest a (and_then (good.derives l) q));
  out = λ l rest a s f w.
      let same : sees (good.done ++ l) ≡ sees mid = sees_same good.done l left s ∙ ap sees (sym good.is) in
      let p = then_parts (so.out (good.done ++ l) rest a same f (subst (λ (x : List Token). W x rest a) (append_assoc so.done good.done l) w)) in
      let e = good.only l p.0 p.1 s (seam.stops p.1 p.0 rest a f p.3) p.2 in
      subst (λ (c : B). Q c l rest a) e.1 (subst (λ (x : List Token). Q p.1 x rest a) e.0 p.3);
}

pub part_bad : {A B : Type 0} {W : GrammarPart A} {F : Option Token → Type 0} {ts mid left : List Token} {R : GrammarPart B} {G : Option Token →
    Type 0} {Q : B → GrammarPart A} →
    Seam R G F Q → SoFar W F ts mid (Then R Q) → Bad R G mid left → Bad W F ts left
part_bad {A} {B} {W} {F} {ts} {mid} {left} {R} {G} {Q} seam so bad = record {
  done = so.done ++ bad.done;
  is = so.is ∙ (ap (λ x. so.done ++ x) bad.is ∙ sym (append_assoc so.done bad.done left));
  stuck = λ l rest a s f w.
      let same : sees (bad.done ++ l) ≡ sees mid = sees_same bad.done l left s ∙ ap sees (sym bad.is) in
      let p = then_parts (so.out (bad.done ++ l) rest a same f (subst (λ (x : List Token). W x rest a) (append_assoc so.done bad.done l) w)) in
      bad.stuck l p.0 p.1 s (seam.stops p.1 p.0 rest a f p.3) p.2;
  viable =
      let v = bad.viable in
      let e = seam.ends v.1 in (
        v.0 ++ e.0,
        e.1,
        λ rest.
            subst (λ (x : List Token). W x rest e.1) (sym (append_assoc so.done bad.done ((v.0 ++ e.0) ++ rest)))
            (subst (λ (x : List Token). W (so.done ++ (bad.done ++ x)) rest e.1) (sym (append_assoc v.0 e.0 rest))
            (so.into (bad.done ++ (v.0 ++ (e.0 ++ rest))) rest e.1 (and_then (v.2 (e.0 ++ rest)) (e.2 rest)))),
      );
}

-- nothing that begins as what is left can be read
pub bad_here : {A : Type 0} {W : GrammarPart A} {F : Option Token → Type 0} {ts left : List Token} {Q : GrammarPart A} → SoFar W F ts left Q →
    ((l rest : List Token) (a : A) → sees l ≡ sees left → F (sees rest) → Q l rest a → ⊥) → Ends Q → Bad W F ts left
bad_here so never e = record {
  done = so.done;
  is = so.is;
  stuck = λ l rest a s f w. never l rest a s f (so.out l rest a s f w);
  viable = (e.0, e.1, λ rest. so.into (e.0 ++ rest) rest e.1 (e.2 rest));
}

pub good_here : {A : Type 0} {W : GrammarPart A} {F : Option Token → Type 0} {ts left : List Token} {Q : GrammarPart A} (a : A) → SoFar W F ts left Q →
    ((l : List Token) → Q l l a) → ((l rest : List Token) (b : A) → sees l ≡ sees left → F (sees rest) → Q l rest b → (rest ≡ l) × (b ≡ a)) → Good W F ts left a
good_here a so i o = record {
  done = so.done;
  is = so.is;
  derives = λ l. so.into l l a (i l);
  only = λ l rest b s g w. o l rest b s g (so.out l rest b s g w);
}

pub good_done : {A : Type 0} {W : GrammarPart A} {F : Option Token → Type 0} {ts left : List Token} {a : A} → SoFar W F ts left (Done a) → Good W F ts left a
good_done {a = a} so = good_here a so (λ l. all_done) (λ l rest b s g q. done_parts q)

-- a choice of which the front tells that it isn't the other
pub not_other : {A : Type 0} {W : GrammarPart A} {F : Option Token → Type 0} {ts left : List Token} {P Q : GrammarPart A} → SoFar W F ts left (Either P Q) →
    ((l rest : List Token) (a : A) → sees l ≡ sees left → F (sees rest) → Q l rest a → ⊥) → SoFar W F ts left P
not_other {A} {W} {F} {ts} {left} {P} {Q} so never = instead P so (λ l rest a p. one p) (λ l rest a s f q. pick l rest a s f q)
  where
    pick : (l rest : List Token) (a : A) → sees l ≡ sees left → F (sees rest) → Either P Q l rest a → P l rest a
    pick l rest a s f (one p) = p
    pick l rest a s f (other q) = absurd (never l rest a s f q)

pub not_one : {A : Type 0} {W : GrammarPart A} {F : Option Token → Type 0} {ts left : List Token} {P Q : GrammarPart A} → SoFar W F ts left (Either P Q) →
    ((l rest : List Token) (a : A) → sees l ≡ sees left → F (sees rest) → P l rest a → ⊥) → SoFar W F ts left Q
not_one {A} {W} {F} {ts} {left} {P} {Q} so never = instead Q so (λ l rest a p. other p) (λ l rest a s f q. pick l rest a s f q)
  where
    pick : (l rest : List Token) (a : A) → sees l ≡ sees left → F (sees rest) → Either P Q l rest a → Q l rest a
    pick l rest a s f (one p) = absurd (never l rest a s f p)
    pick l rest a s f (other q) = q

-- single tokens
abbrev pub zero_span : Span
zero_span = record { from = 0; to = 0 }

split_front : (xs : List Token) (t : Token) → sees xs ≡ Some t → xs ≡ t ∷ drop 1 xs
split_front [] t e = absurd (cc e)
split_front (x ∷ xs) t e = let s : x ≡ t = cc e in ap (λ (y : Token). y ∷ xs) s

front_kind : (k : TokenKind) (xs : List Token) → IsKind k (sees xs) → xs ≡ record { kind = k; at = here xs } ∷ drop 1 xs
front_kind k [] h = absurd h
front_kind k (t ∷ xs) h = ap (λ (j : TokenKind). let u : Token = record { kind = j; at = t.at } in u ∷ xs) h

exactly_parts : {k : TokenKind} {l rest : List Token} {s : Span} → Exactly k l rest s → l ≡ record { kind = k; at = s } ∷ rest
exactly_parts exactly = refl

exactly_only : (k : TokenKind) (t : Span) (l rest : List Token) (s : Span) → Exactly k (record { kind = k; at = t } ∷ l) rest s → (rest ≡ l) × (s ≡ t)
exactly_only k t l rest s e =
    let p = exactly_parts e in
    (sym (ap (λ (x : List Token). drop 1 x) p), sym (ap here p))

exactly_here : (k : TokenKind) (xs : List Token) → IsKind k (sees xs) → Good (Exactly k) Anything xs (drop 1 xs) (here xs)
exactly_here k xs h = record {
  done = record { kind = k; at = here xs } ∷ [];
  is = front_kind k xs h;
  derives = λ l. exactly;
  only = λ l rest s same f e. exactly_only k (here xs) l rest s e;
}

pub exactly_good : (k : TokenKind) (all : List Token) (at : ℕ) → IsKind k (sees (drop at all)) →
    Good (Exactly k) Anything (drop at all) (drop (at + 1) all) (here (drop at all))
exactly_good k all at h = subst (λ (l : List Token). Good (Exactly k) Anything (drop at all) l (here (drop at all))) (drop-drop 1 at all)
    (exactly_here k (drop at all) h)

pub exactly_seen : {k : TokenKind} {l rest : List Token} {s : Span} → Exactly k l rest s → IsKind k (sees l)
exactly_seen exactly = refl

pub exactly_bad : (k : TokenKind) (xs : List Token) → (IsKind k (sees xs) → ⊥) → Bad (Exactly k) Anything xs xs
exactly_bad k xs never = record {
  done = [];
  is = refl;
  stuck = λ l rest s same f e. never (subst (λ (o : Option Token). IsKind k o) same (exactly_seen e));
  viable = (record { kind = k; at = zero_span } ∷ [], zero_span, λ rest. exactly);
}

pub ends_exactly : (k : TokenKind) → Ends (Exactly k)
ends_exactly k = (record { kind = k; at = zero_span } ∷ [], zero_span, λ rest. exactly)

name_only : (i j : Named) (l rest : List Token) → AName (name i.name i.at ∷ l) rest j → (rest ≡ l) × (j ≡ i)
name_only i j l rest the_name = (refl, refl)

pub name_seen : {i : Named} {l rest : List Token} → AName l rest i → kind_read name_of (sees l) ≡ Some i.name
name_seen the_name = refl

name_here : (xs : List Token) (i : Named) → sees xs ≡ Some (name i.name i.at) → Good AName Anything xs (drop 1 xs) i
name_here xs i h = record {
  done = name i.name i.at ∷ [];
  is = split_front xs (name i.name i.at) h;
  derives = λ l. the_name;
  only = λ l rest j same f e. name_only i j l rest e;
}

pub name_good : (all : List Token) (at : ℕ) (i : Named) → sees (drop at all) ≡ Some (name i.name i.at) → Good AName Anything (drop at all) (drop (at + 1) all) i
name_good all at i h = subst (λ (l : List Token). Good AName Anything (drop at all) l i) (drop-drop 1 at all) (name_here (drop at all) i h)

pub ends_name : Ends AName
ends_name = let i : Named = record { name = []; at = zero_span } in (name [] zero_span ∷ [], i, λ rest. the_name)

pub name_bad : (xs : List Token) → kind_read name_of (sees xs) ≡ None → Bad AName Anything xs xs
name_bad xs none = record {
  done = [];
  is = refl;
  stuck = λ l rest i same f e. let x : ◌≡◌ {A = Option (List ℕ)} None (Some i.name) =
      sym none ∙ (sym (ap (λ (o : Option Token). kind_read name_of o) same) ∙ name_seen e) in cc x;
  viable = ends_name;
}

number_only : (n m : Numeral) (l rest : List Token) → ANumber (numeral n.value n.at ∷ l) rest m → (rest ≡ l) × (m ≡ n)
number_only n m l rest the_number = (refl, refl)

pub number_seen : {n : Numeral} {l rest : List Token} → ANumber l rest n → kind_read numeral_value (sees l) ≡ Some n.value
number_seen the_number = refl

number_front : (xs : List Token) (n : ℕ) → kind_read numeral_value (sees xs) ≡ Some n → xs ≡ numeral n (here xs) ∷ drop 1 xs
number_front [] n h = absurd (cc h)
number_front (t ∷ xs) n h = ap (λ (k : TokenKind). let u : Token = record { kind = k; at = t.at } in u ∷ xs) (is_number t.kind h)
  where
    is_number : (k : TokenKind) → numeral_value k ≡ Some n → k ≡ Number n
    is_number (Number m) h = cc h
    is_number (Word m) h = absurd (cc h)
    is_number (Ident m) h = absurd (cc h)
    is_number (Sign m) h = absurd (cc h)

number_here : (xs : List Token) (n : ℕ) → kind_read numeral_value (sees xs) ≡ Some n → Good ANumber Anything xs (drop 1 xs) (record { value = n; at = here xs })
number_here xs n h = record {
  done = numeral n (here xs) ∷ [];
  is = number_front xs n h;
  derives = λ l. the_number;
  only = λ l rest j same f e. number_only (record { value = n; at = here xs }) j l rest e;
}

pub number_good : (all : List Token) (at n : ℕ) → kind_read numeral_value (sees (drop at all)) ≡ Some n →
    Good ANumber Anything (drop at all) (drop (at + 1) all) (record { value = n; at = here (drop at all) })
number_good all at n h = subst (λ (l : List Token). Good ANumber Anything (drop at all) l (record { value = n; at = here (drop at all) })) (drop-drop 1 at all)
    (number_here (drop at all) n h)

pub ends_number : Ends ANumber
ends_number = let n : Numeral = record { value = 0; at = zero_span } in (numeral 0 zero_span ∷ [], n, λ rest. the_number)

pub number_bad : (xs : List Token) → kind_read numeral_value (sees xs) ≡ None → Bad ANumber Anything xs xs
number_bad xs none = record {
  done = [];
  is = refl;
  stuck = λ l rest n same f e. let x : ◌≡◌ {A = Option ℕ} None (Some n.value) =
      sym none ∙ (sym (ap (λ (o : Option Token). kind_read numeral_value o) same) ∙ number_seen e) in cc x;
  viable = ends_number;
}

pub operator_seen : {O : Type 0} {op : TokenKind → Option O} {l rest : List Token} {o : O} → Operator op l rest o → kind_read op (sees l) ≡ Some o
operator_seen (operator e) = e

operator_only : {O : Type 0} (op : TokenKind → Option O) (t : Token) (o p : O) (l rest : List Token) → op t.kind ≡ Some o → Operator op (t ∷ l) rest p →
    (rest ≡ l) × (p ≡ o)
operator_only {O} op t o p l rest h (operator e) = (refl, let x : ◌≡◌ {A = Option O} (Some p) (Some o) = sym e ∙ h in cc x)

operator_here : {O : Type 0} (op : TokenKind → Option O) (xs : List Token) (o : O) → kind_read op (sees xs) ≡ Some o →
    Good (Operator op) Anything xs (drop 1 xs) o
operator_here op [] o h = absurd (cc h)
operator_here op (t ∷ xs) o h = record {
  done = t ∷ [];
  is = refl;
  derives = λ l. operator h;
  only = λ l rest p same f e. operator_only op t o p l rest h e;
}

pub operator_good : {O : Type 0} (op : TokenKind → Option O) (all : List Token) (at : ℕ) (o : O) → kind_read op (sees (drop at all)) ≡ Some o →
    Good (Operator op) Anything (drop at all) (drop (at + 1) all) o
operator_good op all at o h = subst (λ (l : List Token). Good (Operator op) Anything (drop at all) l o) (drop-drop 1 at all)
    (operator_here op (drop at all) o h)

-- what ends, and what stops
pub ends_done : {A : Type 0} (a : A) → Ends (Done a)
ends_done a = ([], a, λ rest. all_done)

pub ends_then : {A B : Type 0} {R : GrammarPart B} {Q : B → GrammarPart A} → Ends R → ((b : B) → Ends (Q b)) → Ends (Then R Q)
ends_then {A} {B} {R} {Q} r q =
    let x = q r.1 in
    (r.0 ++ x.0, x.1, λ rest. subst (λ (l : List Token). Then R Q l rest x.1) (sym (append_assoc r.0 x.0 rest)) (and_then (r.2 (x.0 ++ rest)) (x.2 rest)))

pub ends_one : {A : Type 0} {P Q : GrammarPart A} → Ends P → Ends (Either P Q)
ends_one e = (e.0, e.1, λ rest. one (e.2 rest))

pub any_seam : {A B : Type 0} {R : GrammarPart B} {F : Option Token → Type 0} {Q : B → GrammarPart A} → ((b : B) → Ends (Q b)) → Seam R Anything F Q
any_seam e = record { stops = λ b l rest a f q. tt; ends = e }

pub kind_stops : (k : TokenKind) (n : ℕ) (o : Option Token) → rank k < n → IsKind k o → StopsAt n o
kind_stops k n None lt h = absurd h
kind_stops k n (Some t) lt h = subst (λ (x : TokenKind). rank x < n) (sym h) lt

pub then_kind : {A : Type 0} {k : TokenKind} {Q : Span → GrammarPart A} {l rest : List Token} {a : A} → Then (Exactly k) Q l rest a → IsKind k (sees l)
then_kind (and_then e q) = exactly_seen e

-- a part before a token of this kind
pub kind_seam : {A B : Type 0} {R : GrammarPart B} {F : Option Token → Type 0} (k : TokenKind) (n : ℕ) {Q : B → Span → GrammarPart A} → rank k < n →
    ((b : B) (s : Span) → Ends (Q b s)) → Seam R (StopsAt n) F (λ b. Then (Exactly k) (Q b))
kind_seam k n lt e = record {
  stops = λ b l rest a f q. kind_stops k n (sees l) lt (then_kind q);
  ends = λ b. ends_then (ends_exactly k) (e b);
}

pub stops_done : {A : Type 0} (F : Option Token → Type 0) {b a : A} (l rest : List Token) → F (sees rest) → Done b l rest a → F (sees l)
stops_done F l rest f q = subst (λ (x : List Token). F (sees x)) (done_parts q).0 f

pub last_any : {A B : Type 0} {R : GrammarPart B} {F : Option Token → Type 0} (V : B → A) → Seam R Anything F (λ b. Done (V b))
last_any V = any_seam (λ b. ends_done (V b))

-- the last part of a rule
pub last_seam : {A B : Type 0} {R : GrammarPart B} {F : Option Token → Type 0} (V : B → A) → Seam R F F (λ b. Done (V b))
last_seam {F = F} V = record {
  stops = λ b l rest a f q. stops_done F l rest f q;
  ends = λ b. ends_done (V b);
}

pub stops_more : (k n : ℕ) (o : Option Token) → k ≤ n → StopsAt k o → StopsAt n o
stops_more k n None le h = tt
stops_more k n (Some t) le h = let lt : rank t.kind < k = h in omega (arith, lt)

-- answers
pub fault_by : {P Q : Type 0} (e : Stop) → (P → Q) → WhenFault e P → WhenFault e Q
fault_by Fault f p = f p
fault_by (NoMemory e) f p = tt

pub not_so : {P : Type 0} → (P → IsTrue false) → P → ⊥
not_so f p = let e : false ≡ true = f p in cc e

-- the exit of a `?`
pub exit : {T P Q : Type 0} (r : Result T Stop) (e : Stop) → IsErrAnd r (λ x. x ≡ e) → (P → Q) → WhenFault e P → IfErr r (λ d. WhenFault d Q)
exit {T} {P} {Q} r e h f w =
    let p = err_from_is_err_and r h in
    subst (λ (s : Result T Stop). IfErr s (λ d. WhenFault d Q)) (sym p.1) (subst (λ (d : Stop). WhenFault d Q) (sym p.2) (fault_by e f w))

pub kind_within : (k : TokenKind) (all : List Token) (at : ℕ) → IsKind k (sees (drop at all)) → at + 1 ≤ length all
kind_within k all at h = omega (arith, some (drop at all) h, length-drop at all)
  where
    some : (xs : List Token) → IsKind k (sees xs) → 0 < length xs
    some [] h = absurd h
    some (x ∷ xs) h = omega arith
