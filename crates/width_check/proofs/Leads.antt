-- The width that is wanted of the members of a chain, by the member that gives it.
use Rattle.std.proofs.Common.{◌≡◌, ℕ, Bool, true, false, List, Option, Some, None, ◌⊎◌, inl, inr, refl, sym, ap, ◌∙◌, arith}
use Rattle.std.specs.Prelude.{if◌then◌else◌, is_none, option_map, unwrap_or}
use Rattle.chp_base.specs.declared.span.Span.{Span}
use Rattle.chp_syntax.specs.declared.tree.Decl.{Decl}
use Rattle.chp_syntax.specs.Trees.{Expression, chain, Links}
use Rattle.width_check.specs.declared.findings.Findings.{Findings}
use Rattle.width_check.specs.declared.lead.Lead.{Lead}
use Rattle.width_check.specs.declared.lead.Lead.TheVariants.{First, Later, Nothing}
use Rattle.width_check.specs.Leading.{IsLead, IsLeadTo, lacks, known, width}
use Rattle.width_check.specs.Places.{compares, own_width, first_width}
use Rattle.width_check.specs.Walk.{capped_width, side_width, own_or, with_part, with_leaf, met_chain, noted}
use Rattle.width_check.proofs.Scopes.{own_of_chain}
use Rattle.width_check.proofs.Walks.{wanted_of, chain_alone}

pub none_capped : (o : Option ℕ) → is_none (option_map capped_width o) ≡ is_none o
none_capped None = refl
none_capped (Some v) = refl

pub capped_twice : (n : ℕ) → capped_width (capped_width n) ≡ capped_width n
capped_twice n = grind arith

some_of : (o : Option ℕ) → is_none o ≡ false → (v : ℕ) × (o ≡ Some v)
some_of None h = absurd (cc h)
some_of (Some v) h = (v, refl)

capped_of : (o : Option ℕ) (w : ℕ) → Some w ≡ option_map capped_width o → (v : ℕ) × (o ≡ Some v) × (w ≡ capped_width v)
capped_of None w h = absurd (cc h)
capped_of (Some v) w h = (v, refl, let e : w ≡ capped_width v = cc h in e)

-- where the lead isn't given from outside, the members have the width of the sides
pub of_sides : (ds : List Decl) (wanted : Option ℕ) (e : Expression) (more : Links) (at : Span) → (compares more ≡ true) ⊎ (wanted ≡ None) →
    wanted_of ds (own_or ds wanted (chain e more at)) e more ≡ unwrap_or (side_width ds e more) 0
of_sides ds wanted e more at (inl is) = rw is refl
of_sides ds wanted e more at (inr none) = by_test (compares more) refl
  where
    by_test : (b : Bool) → compares more ≡ b → wanted_of ds (own_or ds wanted (chain e more at)) e more ≡ unwrap_or (side_width ds e more) 0
    by_test true is = rw is refl
    by_test false is = rw (is, none) (ap (λ (o : Option ℕ). unwrap_or o 0) (own_of_chain ds e more at is))

-- the facts about the sides
side_first : (ds : List Decl) (e : Expression) (more : Links) (v : ℕ) → own_width ds e ≡ Some v → side_width ds e more ≡ Some v
side_first ds e more v is = rw is refl

side_later : (ds : List Decl) (e : Expression) (more : Links) (o : Option ℕ) → own_width ds e ≡ None → first_width ds more ≡ o → side_width ds e more ≡ o
side_later ds e more o none is = rw none is

first_wanted : (ds : List Decl) (e : Expression) (more : Links) (lead : Lead) → IsLead ds e more lead →
    capped_width (own_or ds (known lead) e) ≡ capped_width (unwrap_or (side_width ds e more) 0)
first_wanted ds e more First is = let v = some_of (own_width ds e) is in let side = side_first ds e more v.0 v.1 in
    ap (λ (o : Option ℕ). capped_width (unwrap_or o 0)) (v.1 ∙ sym side)
first_wanted ds e more (Later w) is = let v = capped_of (first_width ds more) w is.1 in let side = side_later ds e more (Some v.0) is.0 v.1 in
    ap capped_width v.2 ∙ capped_twice v.0 ∙ ap (λ (o : Option ℕ). capped_width (unwrap_or o 0)) (sym side)
first_wanted ds e more Nothing is = ap (λ (o : Option ℕ). capped_width (unwrap_or o 0)) (sym is)

rest_wanted : (ds : List Decl) (e : Expression) (more : Links) (lead : Lead) (own : Option ℕ) → IsLead ds e more lead →
    (known lead ≡ None → own ≡ option_map capped_width (own_width ds e)) → width lead own ≡ option_map capped_width (side_width ds e more)
rest_wanted ds e more First own is owned = let v = some_of (own_width ds e) is in let side = side_first ds e more v.0 v.1 in
    owned refl ∙ ap (option_map capped_width) (v.1 ∙ sym side)
rest_wanted ds e more (Later w) own is owned = is.1 ∙ ap (option_map capped_width) (sym (side_later ds e more (first_width ds more) is.0 refl))
rest_wanted ds e more Nothing own is owned = sym (ap (option_map capped_width) is)

capped_or : (o : Option ℕ) → capped_width (unwrap_or (option_map capped_width o) 0) ≡ capped_width (unwrap_or o 0)
capped_or None = refl
capped_or (Some v) = capped_twice v

pub lead_first : (ds : List Decl) (wanted : Option ℕ) (e : Expression) (more : Links) (at : Span) (lead : Lead) → IsLeadTo ds wanted e more lead →
    capped_width (own_or ds (known lead) e) ≡ capped_width (wanted_of ds (own_or ds wanted (chain e more at)) e more)
lead_first ds wanted e more at lead (inl h) = rw (h.3, h.2, h.1) refl
lead_first ds wanted e more at lead (inr h) = first_wanted ds e more lead h.1 ∙ sym (ap capped_width (of_sides ds wanted e more at h.0))

pub lead_rest : (ds : List Decl) (wanted : Option ℕ) (e : Expression) (more : Links) (at : Span) (lead : Lead) (own : Option ℕ) →
    IsLeadTo ds wanted e more lead → (known lead ≡ None → own ≡ option_map capped_width (own_width ds e)) →
    capped_width (unwrap_or (width lead own) 0) ≡ capped_width (wanted_of ds (own_or ds wanted (chain e more at)) e more)
lead_rest ds wanted e more at lead own (inl h) owned = rw (h.3, h.2, h.1) refl
lead_rest ds wanted e more at lead own (inr h) owned =
    ap (λ (o : Option ℕ). capped_width (unwrap_or o 0)) (rest_wanted ds e more lead own h.1 owned) ∙ capped_or (side_width ds e more)
    ∙ sym (ap capped_width (of_sides ds wanted e more at h.0))

own_of : (ds : List Decl) (e : Expression) (more : Links) (at : Span) (b : Bool) → b ≡ compares more →
    (if b then Some 1 else option_map capped_width (side_width ds e more)) ≡ option_map capped_width (own_width ds (chain e more at))
own_of ds e more at true is = rw (← is) refl
own_of ds e more at false is = rw (← is) refl

clash : {b : Bool} → b ≡ true → b ≡ false → ⊥
clash h k = let e : true ≡ false = sym h ∙ k in cc e

pub lead_own : (ds : List Decl) (wanted : Option ℕ) (e : Expression) (more : Links) (at : Span) (lead : Lead) (own : Option ℕ) (b : Bool) → b ≡ compares more →
    IsLeadTo ds wanted e more lead → (known lead ≡ None → own ≡ option_map capped_width (own_width ds e)) → wanted ≡ None →
    (if b then Some 1 else width lead own) ≡ option_map capped_width (own_width ds (chain e more at))
lead_own ds wanted e more at lead own b is (inl h) owned none = absurd (let k : Some h.0 ≡ None = sym h.2 ∙ none in cc k)
lead_own ds wanted e more at lead own b is (inr h) owned none =
    ap (λ (o : Option ℕ). let x : Option ℕ = if b then Some 1 else o in x) (rest_wanted ds e more lead own h.1 owned) ∙ own_of ds e more at b is

lacking_lead : (ds : List Decl) (e : Expression) (more : Links) (lead : Lead) → IsLead ds e more lead → lacks lead ≡ is_none (side_width ds e more)
lacking_lead ds e more First is = let v = some_of (own_width ds e) is in let side = side_first ds e more v.0 v.1 in ap (λ (o : Option ℕ). is_none o) (sym side)
lacking_lead ds e more (Later w) is = let v = capped_of (first_width ds more) w is.1 in let side = side_later ds e more (Some v.0) is.0 v.1 in
    ap (λ (o : Option ℕ). is_none o) (sym side)
lacking_lead ds e more Nothing is = ap (λ (o : Option ℕ). is_none o) (sym is)

-- the chain alone
pub chain_node : (ds : List Decl) (f : Findings) (wanted : Option ℕ) (e : Expression) (more : Links) (at : Span) (lead : Lead) (b : Bool) → b ≡ compares more →
    IsLeadTo ds wanted e more lead → (if b then with_leaf (with_part f (lacks lead) at) 1 (unwrap_or wanted 1) at else f) ≡
    noted ds f (met_chain (own_or ds wanted (chain e more at)) e more at)
chain_node ds f wanted e more at lead false is leads = chain_alone ds f (own_or ds wanted (chain e more at)) e more at false is
chain_node ds f wanted e more at lead true is (inl h) = absurd (clash (sym is) h.1)
chain_node ds f wanted e more at lead true is (inr h) =
    ap (λ (c : Bool). with_leaf (with_part f c at) 1 (unwrap_or wanted 1) at) (lacking_lead ds e more lead h.1)
    ∙ ap (λ (n : ℕ). with_leaf (with_part f (is_none (side_width ds e more)) at) 1 n at) (one_wanted wanted)
    ∙ chain_alone ds f (own_or ds wanted (chain e more at)) e more at true is
  where
    one_wanted : (o : Option ℕ) → unwrap_or o 1 ≡ own_or ds o (chain e more at)
    one_wanted None = rw (← is) refl
    one_wanted (Some w) = refl
