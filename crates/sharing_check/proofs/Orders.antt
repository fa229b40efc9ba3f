-- The order of places is total, and pairs of places are in order by it.
use Rattle.std.proofs.Common.{◌≡◌, ℕ, ◌⊎◌, inl, inr, Bool, true, false, ltb, refl, sym, ap₂, ◌∙◌, subst, arith, ltb-true, ltb-false}
use Rattle.chp_base.specs.declared.span.Span.{Span}
use Rattle.width_check.specs.Order.{IsNoLater}
use Rattle.sharing_check.specs.declared.clash.Clash.{Clash}
use Rattle.sharing_check.specs.Leasts.{IsNoLaterPair, IsInOrder}

pub no_later_refl : (s : Span) → IsNoLater s s
no_later_refl s = inr (refl, omega arith)

pub no_later_trans : (s t u : Span) → IsNoLater s t → IsNoLater t u → IsNoLater s u
no_later_trans s t u (inl a) (inl b) = inl (omega arith)
no_later_trans s t u (inl a) (inr b) = inl (omega (arith, b.0))
no_later_trans s t u (inr a) (inl b) = inl (omega (arith, a.0))
no_later_trans s t u (inr a) (inr b) = inr (a.0 ∙ b.0, omega (arith, a.1, b.1))

same_span : (s t : Span) → s.from ≡ t.from → s.to ≡ t.to → s ≡ t
same_span s t a b = let make : ℕ → ℕ → Span = λ x y. record { from = x; to = y } in ap₂ make a b

pub no_later_one : (s t : Span) → IsNoLater s t → IsNoLater t s → s ≡ t
no_later_one s t (inl a) (inl b) = absurd (omega arith)
no_later_one s t (inl a) (inr b) = absurd (omega (arith, b.0))
no_later_one s t (inr a) (inl b) = absurd (omega (arith, a.0))
no_later_one s t (inr a) (inr b) = same_span s t a.0 (omega (arith, a.1, b.1))

pub no_later_total : (s t : Span) → IsNoLater s t ⊎ IsNoLater t s
no_later_total s t = by_from (ltb s.from t.from) refl (ltb t.from s.from) refl (ltb t.to s.to) refl
  where
    by_from : (a : Bool) → ltb s.from t.from ≡ a → (b : Bool) → ltb t.from s.from ≡ b → (c : Bool) → ltb t.to s.to ≡ c → IsNoLater s t ⊎ IsNoLater t s
    by_from true p b q c r = inl (inl (ltb-true s.from t.from p))
    by_from false p true q c r = inr (inl (ltb-true t.from s.from q))
    by_from false p false q true r =
        let x = ltb-false s.from t.from p in
        let y = ltb-false t.from s.from q in
        let z = ltb-true t.to s.to r in
        inl (inr (omega (arith, x, y), omega (arith, z)))
    by_from false p false q false r =
        let x = ltb-false s.from t.from p in
        let y = ltb-false t.from s.from q in
        let z = ltb-false t.to s.to r in
        inr (inr (omega (arith, x, y), omega (arith, z)))

pub pair_trans : (c d e : Clash) → IsNoLaterPair c d → IsNoLaterPair d e → IsNoLaterPair c e
pair_trans c d e p q = record {
  by_second = no_later_trans _ _ _ p.by_second q.by_second;
  by_first = λ same.
      let back : IsNoLater d.second c.second = subst (λ (s : Span). IsNoLater d.second s) (sym same) q.by_second in
      let one : c.second ≡ d.second = no_later_one _ _ p.by_second back in
      no_later_trans _ _ _ (p.by_first one) (q.by_first (sym one ∙ same));
}

-- two places have a pair in order
pub ordered : (s t : Span) → (c : Clash) × IsInOrder s t c
ordered s t = by_order (no_later_total s t)
  where
    by_order : IsNoLater s t ⊎ IsNoLater t s → (c : Clash) × IsInOrder s t c
    by_order (inl h) = (record { first = s; second = t }, record { order = h; these = inl (refl, refl) })
    by_order (inr h) = (record { first = t; second = s }, record { order = h; these = inr (refl, refl) })

pub order_sym : (s t : Span) (c : Clash) → IsInOrder s t c → IsInOrder t s c
order_sym s t c h = record { order = h.order; these = other h.these }
  where
    other : ((c.first ≡ s) × (c.second ≡ t)) ⊎ ((c.first ≡ t) × (c.second ≡ s)) → ((c.first ≡ t) × (c.second ≡ s)) ⊎ ((c.first ≡ s) × (c.second ≡ t))
    other (inl e) = inr e
    other (inr e) = inl e

first_before : (s t : Span) (c : Clash) → IsInOrder s t c → IsNoLater c.first s × IsNoLater c.first t
first_before s t c h = by_these h.these
  where
    by_these : ((c.first ≡ s) × (c.second ≡ t)) ⊎ ((c.first ≡ t) × (c.second ≡ s)) → IsNoLater c.first s × IsNoLater c.first t
    by_these (inl e) = (subst (λ (u : Span). IsNoLater c.first u) e.0 (no_later_refl c.first), subst (λ (u : Span). IsNoLater c.first u) e.1 h.order)
    by_these (inr e) = (subst (λ (u : Span). IsNoLater c.first u) e.1 h.order, subst (λ (u : Span). IsNoLater c.first u) e.0 (no_later_refl c.first))

second_after : (s t : Span) (c : Clash) → IsInOrder s t c → IsNoLater s c.second × IsNoLater t c.second
second_after s t c h = by_these h.these
  where
    by_these : ((c.first ≡ s) × (c.second ≡ t)) ⊎ ((c.first ≡ t) × (c.second ≡ s)) → IsNoLater s c.second × IsNoLater t c.second
    by_these (inl e) = (subst (λ (u : Span). IsNoLater u c.second) e.0 h.order, subst (λ (u : Span). IsNoLater u c.second) e.1 (no_later_refl c.second))
    by_these (inr e) = (subst (λ (u : Span). IsNoLater u c.second) e.1 (no_later_refl c.second), subst (λ (u : Span). IsNoLater u c.second) e.0 h.order)

-- where both places are no later, so is their pair
pub pair_monotone : (s t u v : Span) (c d : Clash) → IsNoLater s u → IsNoLater t v → IsInOrder s t c → IsInOrder u v d → IsNoLaterPair c d
pair_monotone s t u v c d su tv h k = record { by_second = by_second h.these; by_first = λ same. by_first k.these }
  where
    by_second : ((c.first ≡ s) × (c.second ≡ t)) ⊎ ((c.first ≡ t) × (c.second ≡ s)) → IsNoLater c.second d.second
    by_second (inl e) = subst (λ (w : Span). IsNoLater w d.second) (sym e.1) (no_later_trans t v d.second tv (second_after u v d k).1)
    by_second (inr e) = subst (λ (w : Span). IsNoLater w d.second) (sym e.1) (no_later_trans s u d.second su (second_after u v d k).0)

    by_first : ((d.first ≡ u) × (d.second ≡ v)) ⊎ ((d.first ≡ v) × (d.second ≡ u)) → IsNoLater c.first d.first
    by_first (inl e) = subst (λ (w : Span). IsNoLater c.first w) (sym e.0) (no_later_trans c.first s u (first_before s t c h).0 su)
    by_first (inr e) = subst (λ (w : Span). IsNoLater c.first w) (sym e.0) (no_later_trans c.first t v (first_before s t c h).1 tv)
