-- A text that is refused reads as no program.
use Rattle.std.proofs.Common.{◌≡◌, ℕ, ◌+◌, ◌≤◌, Bool, true, false, List, [], ◌∷◌, ◌++◌, length, take, drop, refl, sym, ap, ◌∙◌, subst, arith, append_assoc, inl, inr}
use Rattle.std.specs.Prelude.{◌||◌}
use Rattle.std.proofs.lemmas.List.{take-append-drop, take_at}
use Rattle.std.proofs.lemmas.Bool.{cases_lt}
use Rattle.chp_base.specs.declared.span.Span.{Span}
use Rattle.chp_base.specs.declared.fault.FaultCode.{FaultCode}
use Rattle.chp_syntax.specs.declared.token.Token.{Token}
use Rattle.chp_syntax.specs.declared.token.TokenKind.{TokenKind}
use Rattle.chp_syntax.specs.Trees.{ProgramTree}
use Rattle.chp_syntax.specs.Tokens.{Tokens}
use Rattle.chp_syntax.specs.Grammar.{Derives}
use Rattle.chp_syntax.specs.Reading.{depth_of, IsShallow, FirstFault, Reads}
use Rattle.chp_syntax.specs.Limits.{is_probe, is_arbiter, has_kind, IsFirstToken, GoesOver}
use Rattle.chp_syntax.specs.Refusals.{RefusedTokens, a_probe, an_arbiter, too_deep, no_program, too_many_arms}
use Rattle.chp_syntax.proofs.OwnTokens.{no_probe, no_arbiter}
use Rattle.chp_syntax.proofs.FewArms.{many_in_program}
use Rattle.chp_syntax.proofs.OneFault.{clash, one_place, seventeenth_once, spot_once}

or_left : (a b : Bool) → a ≡ true → (a || b) ≡ true
or_left true b h = refl
or_left false b h = absurd (cc h)

or_right : (a b : Bool) → b ≡ true → (a || b) ≡ true
or_right true b h = refl
or_right false b h = h

has_at : (test : TokenKind → Bool) (before behind : List Token) (t : Token) → test t.kind ≡ true → has_kind test (before ++ t ∷ behind) ≡ true
has_at test [] behind t h = or_left (test t.kind) _ h
has_at test (x ∷ before) behind t h = or_right (test x.kind) _ (has_at test before behind t h)

first_has : (test : TokenKind → Bool) {ts : List Token} {s : Span} → IsFirstToken test ts s → has_kind test ts ≡ true
first_has test {ts} {s} f =
    let t : Token = record { kind = f.kind; at = s } in
    ap (λ (us : List Token). has_kind test us) f.is ∙ has_at test f.before f.behind t f.passes

not_shallow : {ts : List Token} {s : Span} → GoesOver ts s → IsShallow ts → ⊥
not_shallow {ts} {s} g shallow =
    let t : Token = record { kind = g.kind; at = s } in
    let upto = g.before ++ t ∷ [] in
    let n = length upto in
    let front : take n ts ≡ upto = ap (λ (us : List Token). take n us) (g.is ∙ sym (append_assoc g.before (t ∷ []) g.behind)) ∙ take_at upto g.behind n refl in
    let few : depth_of 0 upto ≤ 256 = subst (λ (us : List Token). depth_of 0 us ≤ 256) front (shallow n) in
    omega (arith, few, g.over)

no_derivation : {ts : List Token} {n : ℕ} {p : ProgramTree} → FirstFault ts n → Derives ts p → ⊥
no_derivation {ts} {n} {p} f d = elim (cases_lt n (length ts)) [
  | inl lt ↦ f.never lt (drop (n + 1) ts) p (subst (λ (us : List Token). Derives us p) (sym (take-append-drop (n + 1) ts)) d)
  | inr ge ↦ f.short
      (omega (arith, ge, f.within)) p d
]

reads_none : {ts : List Token} {end : ℕ} {k : FaultCode} {s : Span} {p : ProgramTree} {text : List ℕ} → RefusedTokens ts end k s → Derives ts p → IsShallow ts →
    Reads text p → ⊥
reads_none (a_probe f) d shallow r = let e : true ≡ false = sym (first_has is_probe f) ∙ no_probe d in cc e
reads_none (an_arbiter n f) d shallow r = let e : true ≡ false = sym (first_has is_arbiter f) ∙ no_arbiter d in cc e
reads_none (too_deep n g) d shallow r = not_shallow g shallow
reads_none (no_program n s f) d shallow r = no_derivation f d
reads_none (too_many_arms p n s e g) d shallow r = many_in_program d g r.few_in_procs r.few_in_body

pub refused_none : {text : List ℕ} {ts : List Token} {end : ℕ} {k : FaultCode} {s : Span} → ((us : List Token) → Tokens text us → us ≡ ts) →
    RefusedTokens ts end k s → (p : ProgramTree) → Reads text p → ⊥
refused_none {text} {ts} only refused p r =
    let e = only r.tokens r.cut in
    reads_none refused (subst (λ (us : List Token). Derives us p) e r.derives) (subst (λ (us : List Token). IsShallow us) e r.shallow) r

-- tokens are refused for at most one cause, at one place
first_before : {test : TokenKind → Bool} {ts c : List Token} {s : Span} (a : IsFirstToken test ts s) (m : List Token) →
    c ≡ a.before ++ record { kind = a.kind; at = s } ∷ m → IsFirstToken test c s
first_before a m i = record { before = a.before; kind = a.kind; behind = m; is = i; passes = a.passes; none = a.none }

first_once : (test : TokenKind → Bool) {ts : List Token} {s t : Span} → IsFirstToken test ts s → IsFirstToken test ts t → s ≡ t
first_once test {s = s} {t = t} a b =
    ap (λ (u : Token). u.at)
    (one_place a.before b.before a.behind b.behind (record { kind = a.kind; at = s }) (record { kind = b.kind; at = t }) (sym a.is ∙ b.is)
    (λ m i. clash (first_has test (first_before a m i)) b.none)
    (λ m i. clash (first_has test (first_before b m i)) a.none))

over_before : {ts c : List Token} {s : Span} (a : GoesOver ts s) (m : List Token) → c ≡ a.before ++ record { kind = a.kind; at = s } ∷ m → GoesOver c s
over_before a m i = record { before = a.before; kind = a.kind; behind = m; is = i; shallow = a.shallow; over = a.over }

over_once : {ts : List Token} {s t : Span} → GoesOver ts s → GoesOver ts t → s ≡ t
over_once {s = s} {t = t} a b =
    ap (λ (u : Token). u.at)
    (one_place a.before b.before a.behind b.behind (record { kind = a.kind; at = s }) (record { kind = b.kind; at = t }) (sym a.is ∙ b.is)
    (λ m i. not_shallow (over_before a m i) b.shallow)
    (λ m i. not_shallow (over_before b m i) a.shallow))

pub refused_once : {ts : List Token} {end : ℕ} {k j : FaultCode} {s t : Span} → RefusedTokens ts end k s → RefusedTokens ts end j t → (k ≡ j) × (s ≡ t)
refused_once (a_probe f) (a_probe g) = (refl, first_once is_probe f g)
refused_once (a_probe f) (an_arbiter n g) = absurd (clash (first_has is_probe f) n)
refused_once (a_probe f) (too_deep n g) = absurd (clash (first_has is_probe f) n.probes)
refused_once (a_probe f) (no_program n h g) = absurd (clash (first_has is_probe f) n.probes)
refused_once (a_probe f) (too_many_arms p n h d g) = absurd (clash (first_has is_probe f) n.probes)
refused_once (an_arbiter n f) (a_probe g) = absurd (clash (first_has is_probe g) n)
refused_once (an_arbiter n f) (an_arbiter m g) = (refl, first_once is_arbiter f g)
refused_once (an_arbiter n f) (too_deep m g) = absurd (clash (first_has is_arbiter f) m.arbiters)
refused_once (an_arbiter n f) (no_program m h g) = absurd (clash (first_has is_arbiter f) m.arbiters)
refused_once (an_arbiter n f) (too_many_arms p m h d g) = absurd (clash (first_has is_arbiter f) m.arbiters)
refused_once (too_deep n f) (a_probe g) = absurd (clash (first_has is_probe g) n.probes)
refused_once (too_deep n f) (an_arbiter m g) = absurd (clash (first_has is_arbiter g) n.arbiters)
refused_once (too_deep n f) (too_deep m g) = (refl, over_once f g)
refused_once (too_deep n f) (no_program m h g) = absurd (not_shallow f h)
refused_once (too_deep n f) (too_many_arms p m h d g) = absurd (not_shallow f h)
refused_once (no_program n h f) (a_probe g) = absurd (clash (first_has is_probe g) n.probes)
refused_once (no_program n h f) (an_arbiter m g) = absurd (clash (first_has is_arbiter g) n.arbiters)
refused_once (no_program n h f) (too_deep m g) = absurd (not_shallow g h)
refused_once {end = end} (no_program n h f) (no_program m i g) = (refl, spot_once end f g)
refused_once (no_program n h f) (too_many_arms p m i d g) = absurd (no_derivation f d)
refused_once (too_many_arms p n h d f) (a_probe g) = absurd (clash (first_has is_probe g) n.probes)
refused_once (too_many_arms p n h d f) (an_arbiter m g) = absurd (clash (first_has is_arbiter g) n.arbiters)
refused_once (too_many_arms p n h d f) (too_deep m g) = absurd (not_shallow g h)
refused_once (too_many_arms p n h d f) (no_program m i g) = absurd (no_derivation g d)
refused_once (too_many_arms p n h d f) (too_many_arms q m i c g) = (refl, seventeenth_once f g)
