-- Each cause for which tokens are refused has one place.
use Rattle.std.proofs.Common.{◌≡◌, ℕ, ◌+◌, ◌<◌, Bool, true, false, List, [], ◌∷◌, ◌++◌, take, drop, sym, ap, ◌∙◌, subst, arith, append_assoc, inl, inr}
use Rattle.std.proofs.lemmas.List.{take-append-drop, take-take}
use Rattle.std.proofs.lemmas.Bool.{cases_lt}
use Rattle.chp_base.specs.declared.span.Span.{Span}
use Rattle.chp_syntax.specs.declared.token.Token.{Token}
use Rattle.chp_syntax.specs.declared.token.Mark.TheVariants as mark
use Rattle.chp_syntax.specs.Grammar.{sign, Derives}
use Rattle.chp_syntax.specs.Reading.{FirstFault}
use Rattle.chp_syntax.specs.Seventeenth.{IsSeventeenth}
use Rattle.chp_syntax.specs.Refusals.{spot}
use Rattle.chp_syntax.proofs.FewArms.{not_narrow}

pub clash : {b : Bool} → b ≡ true → b ≡ false → ⊥
clash h k = let e : true ≡ false = sym h ∙ k in cc e

-- two tokens of a list, of which neither stands before the other, are one
pub one_place : (b c d e : List Token) (x y : Token) → b ++ x ∷ d ≡ c ++ y ∷ e → ((m : List Token) → c ≡ b ++ x ∷ m → ⊥) →
    ((m : List Token) → b ≡ c ++ y ∷ m → ⊥) → x ≡ y
one_place [] [] d e x y h f g = cc h
one_place [] (z ∷ c) d e x y h f g = absurd (f c (let k : x ≡ z = cc h in ap (λ (t : Token). t ∷ c) (sym k)))
one_place (z ∷ b) [] d e x y h f g = absurd (g b (let k : z ≡ y = cc h in ap (λ (t : Token). t ∷ b) k))
one_place (z ∷ b) (w ∷ c) d e x y h f g =
    let k : z ≡ w = cc h in
    one_place b c d e x y (ap (λ (l : List Token). drop 1 l) h)
    (λ m i. f m (ap (λ (t : Token). t ∷ c) (sym k) ∙ ap (λ (l : List Token). z ∷ l) i))
    (λ m i. g m (ap (λ (t : Token). t ∷ b) k ∙ ap (λ (l : List Token). w ∷ l) i))

before_narrow : {ts c : List Token} {s : Span} (a : IsSeventeenth ts s) (m : List Token) → c ≡ a.before ++ sign mark.Choice s ∷ m → IsSeventeenth c s
before_narrow a m i = record { before = a.before; behind = m; is = i; narrow = a.narrow; full = a.full }

pub seventeenth_once : {ts : List Token} {s t : Span} → IsSeventeenth ts s → IsSeventeenth ts t → s ≡ t
seventeenth_once {s = s} {t = t} a b =
    ap (λ (u : Token). u.at)
    (one_place a.before b.before a.behind b.behind (sign mark.Choice s) (sign mark.Choice t) (sym a.is ∙ b.is)
    (λ m i. clash b.narrow (not_narrow (before_narrow a m i)))
    (λ m i. clash a.narrow (not_narrow (before_narrow b m i))))

no_later : {ts : List Token} {n m : ℕ} → FirstFault ts n → FirstFault ts m → n < m → ⊥
no_later {ts} {n} {m} f g lt =
    let v = g.viable in
    let between = drop (n + 1) (take m ts) in
    let front : take m ts ≡ take (n + 1) ts ++ between = sym (take-append-drop (n + 1) (take m ts))
    ∙ ap (λ (us : List Token). us ++ between) (take-take (n + 1) m ts (omega (arith, lt))) in
    f.never (omega (arith, lt, g.within)) (between ++ v.0) v.1
    (subst (λ (us : List Token). Derives us v.1) (ap (λ (us : List Token). us ++ v.0) front ∙ append_assoc (take (n + 1) ts) between v.0) v.2)

fault_once : {ts : List Token} {n m : ℕ} → FirstFault ts n → FirstFault ts m → n ≡ m
fault_once {ts} {n} {m} f g =
    elim (cases_lt n m) [
      | inl lt ↦ absurd (no_later f g lt)
      | inr ge ↦ elim (cases_lt m n) [
        | inl lt ↦ absurd (no_later g f lt)
        | inr le ↦ omega (
          arith,
          ge,
          le,
        )
      ]
    ]

pub spot_once : {ts : List Token} {n m : ℕ} (end : ℕ) → FirstFault ts n → FirstFault ts m → spot (drop n ts) end ≡ spot (drop m ts) end
spot_once {ts} end f g = ap (λ (place : ℕ). spot (drop place ts) end) (fault_once f g)
