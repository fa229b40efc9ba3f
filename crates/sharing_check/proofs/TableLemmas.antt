-- Tables of first places: one more place, the entries of another table, and the names of two.
use Rattle.std.proofs.Common.{◌≡◌, ℕ, ◌⊎◌, inl, inr, Bool, true, false, cond, List, [], ◌∷◌, ◌++◌, Option, Some, None, nat_eq, Contains, refl, sym, ap, ap₂, ◌∙◌, subst, arith}
use Rattle.std.proofs.lemmas.Bool.Decides.{Decides-eqb}
use Rattle.std.proofs.lemmas.List.Elements.{Contains-push, Contains-push_cases, Contains-append_left}
use Rattle.std.proofs.lemmas.Map.Views.{lookup-from_Contains, Contains-from_lookup}
use Rattle.std.specs.Cmp.{nat_eq_equiv}
use Rattle.std.specs.List.{IsDistinct}
use Rattle.std.specs.Map.{lookup, keys_of}
use Rattle.chp_base.specs.declared.span.Span.{Span}
use Rattle.width_check.specs.Order.{IsNoLater}
use Rattle.sharing_check.specs.declared.clash.Clash.{Clash}
use Rattle.sharing_check.specs.Leasts.{IsLeast, IsEither, IsNoLaterPair, IsInOrder}
use Rattle.sharing_check.specs.Places.{Lookup, Joins, Meeting}
use Rattle.sharing_check.proofs.Orders.{no_later_refl, no_later_trans, pair_trans, ordered, order_sym, pair_monotone}
use Rattle.sharing_check.proofs.LeastLemmas.{least_none, least_same, least_more, least_both}

-- a place at which a table has none that is no later
pub noted : (old new : Option Span) (x name : ℕ) (at : Span) → new ≡ cond (nat_eq name x) (Some at) old
    → ((s : Span) → name ≡ x → old ≡ Some s → IsNoLater at s)
    → IsLeast IsNoLater (λ s. (old ≡ Some s) ⊎ ((x ≡ name) × (s ≡ at))) new
noted old new x name at is later = by_test (nat_eq name x) refl
  where
    here : new ≡ Some at → name ≡ x → IsLeast IsNoLater (λ s. (old ≡ Some s) ⊎ ((x ≡ name) × (s ≡ at))) new
    here found same = record { there = λ a e. inr (sym same, cc); least = below }
      where
        below : (b : Span) → (old ≡ Some b) ⊎ ((x ≡ name) × (b ≡ at)) → (a : Span) × (new ≡ Some a) × IsNoLater a b
        below b (inl e) = (at, found, later b same e)
        below b (inr e) = (at, found, subst (λ (s : Span). IsNoLater at s) (sym e.1) (no_later_refl at))

    apart : new ≡ old → ¬ (name ≡ x) → IsLeast IsNoLater (λ s. (old ≡ Some s) ⊎ ((x ≡ name) × (s ≡ at))) new
    apart kept other = record { there = λ a e. inl (sym kept ∙ e); least = below }
      where
        below : (b : Span) → (old ≡ Some b) ⊎ ((x ≡ name) × (b ≡ at)) → (a : Span) × (new ≡ Some a) × IsNoLater a b
        below b (inl e) = (b, kept ∙ e, no_later_refl b)
        below b (inr e) = absurd (other (sym e.0))

    by_test : (b : Bool) → nat_eq name x ≡ b → IsLeast IsNoLater (λ s. (old ≡ Some s) ⊎ ((x ≡ name) × (s ≡ at))) new
    by_test true e = here (is ∙ ap (λ (v : Bool). cond v (Some at) old) e) ((Decides-eqb name x).0 e)
    by_test false e = apart (is ∙ ap (λ (v : Bool). cond v (Some at) old) e) (λ same. absurd (cc (e, (Decides-eqb name x).1 same)))

abbrev entry : ℕ → Span → ℕ × Span
entry name at = (name, at)

-- the places of a table and those of some entries
abbrev pub IsOneOf : Option Span → List (ℕ × Span) → ℕ → Span → Type 0
IsOneOf first es x s = (first ≡ Some s) ⊎ Contains es (x, s)

pub noted_none : (first : Option Span) (x : ℕ) → IsLeast IsNoLater (IsOneOf first [] x) first
noted_none first x = record { there = λ a e. inl e; least = below }
  where
    below : (b : Span) → IsOneOf first [] x b → (a : Span) × (first ≡ Some a) × IsNoLater a b
    below b (inl e) = (b, e, no_later_refl b)
    below b (inr h) = let within = h.1 in absurd (omega arith)

pub noted_more : (first old new : Option Span) (es : List (ℕ × Span)) (x name : ℕ) (at : Span) → IsLeast IsNoLater (IsOneOf first es x) old
    → IsLeast IsNoLater (λ s. (old ≡ Some s) ⊎ ((x ≡ name) × (s ≡ at))) new
    → IsLeast IsNoLater (IsOneOf first (es ++ (name, at) ∷ []) x) new
noted_more first old new es x name at l k = least_same (least_more no_later_trans l k) into from
  where
    into : (s : Span) → IsOneOf first es x s ⊎ ((x ≡ name) × (s ≡ at)) → IsOneOf first (es ++ (name, at) ∷ []) x s
    into s (inl (inl e)) = inl e
    into s (inl (inr h)) = inr (Contains-append_left es ((name, at) ∷ []) (x, s) h)
    into s (inr e) =
        inr (subst (λ (y : ℕ × Span). Contains (es ++ (name, at) ∷ []) y) (ap₂ entry (sym e.0) (sym e.1)) (Contains-push es (name, at)))

    from : (s : Span) → IsOneOf first (es ++ (name, at) ∷ []) x s → IsOneOf first es x s ⊎ ((x ≡ name) × (s ≡ at))
    from s (inl e) = inl (inl e)
    from s (inr h) = by_end (Contains-push_cases es (name, at) (x, s) h)
      where
        by_end : Contains es (x, s) ⊎ (entry name at ≡ entry x s) → IsOneOf first es x s ⊎ ((x ≡ name) × (s ≡ at))
        by_end (inl k') = inl (inr k')
        by_end (inr e) = inr (sym (ap (λ (y : ℕ × Span). y.0) e), sym (ap (λ (y : ℕ × Span). y.1) e))

pub entry_found : (es : List (ℕ × Span)) (x : ℕ) (s : Span) → IsDistinct nat_eq (keys_of es) → Contains es (x, s) → lookup (nat_eq x) es ≡ Some s
entry_found es x s unique h = lookup-from_Contains nat_eq_equiv x s es unique h

pub found_entry : (es : List (ℕ × Span)) (x : ℕ) (s : Span) → lookup (nat_eq x) es ≡ Some s → Contains es (x, s)
found_entry es x s e = Contains-from_lookup (λ a b same. (Decides-eqb a b).0 same) x s es e

pub noted_all : (first new : Option Span) (es : List (ℕ × Span)) (x : ℕ) → IsDistinct nat_eq (keys_of es) → IsLeast IsNoLater (IsOneOf first es x) new
    → IsLeast IsNoLater (IsEither first (lookup (nat_eq x) es)) new
noted_all first new es x unique l = least_same l into from
  where
    into : (s : Span) → IsOneOf first es x s → IsEither first (lookup (nat_eq x) es) s
    into s (inl e) = inl e
    into s (inr h) = inr (entry_found es x s unique h)

    from : (s : Span) → IsEither first (lookup (nat_eq x) es) s → IsOneOf first es x s
    from s (inl e) = inl e
    from s (inr e) = inr (found_entry es x s e)

-- the places that some entries and a table have for one name
pub record MeetingAmong (es : List (ℕ × Span)) (other : Lookup) (c : Clash) : Type 0 where
  pub name : ℕ
  pub here : Span
  pub there : Span
  pub in_one : Contains es (name, here)
  pub in_other : other name ≡ Some there
  pub pair : IsInOrder here there c

abbrev pub MeetsAt : Span → Option Span → Clash → Type 0
MeetsAt one other c = (s : Span) × (other ≡ Some s) × IsInOrder one s c

pub met_none : (other : Lookup) → IsLeast IsNoLaterPair (MeetingAmong [] other) None
met_none other = least_none IsNoLaterPair (MeetingAmong [] other) (λ c m. let within = m.in_one.1 in omega arith)

pub met_more : (first one new : Option Clash) (es : List (ℕ × Span)) (other : Lookup) (name : ℕ) (at : Span)
    → IsLeast IsNoLaterPair (MeetingAmong es other) first → IsLeast IsNoLaterPair (MeetsAt at (other name)) one
    → IsLeast IsNoLaterPair (IsEither first one) new → IsLeast IsNoLaterPair (MeetingAmong (es ++ (name, at) ∷ []) other) new
met_more first one new es other name at l k m = least_same (least_both pair_trans l k m) into from
  where
    into : (c : Clash) → MeetingAmong es other c ⊎ MeetsAt at (other name) c → MeetingAmong (es ++ (name, at) ∷ []) other c
    into c (inl h) = record {
      name = h.name;
      here = h.here;
      there = h.there;
      in_one = Contains-append_left es ((name, at) ∷ []) (h.name, h.here) h.in_one;
      in_other = h.in_other;
      pair = h.pair;
    }
    into c (inr h) = record { name = name; here = at; there = h.0; in_one = Contains-push es (name, at); in_other = h.1; pair = h.2 }

    from : (c : Clash) → MeetingAmong (es ++ (name, at) ∷ []) other c → MeetingAmong es other c ⊎ MeetsAt at (other name) c
    from c h = by_end (Contains-push_cases es (name, at) (h.name, h.here) h.in_one)
      where
        by_end : Contains es (h.name, h.here) ⊎ (entry name at ≡ entry h.name h.here) → MeetingAmong es other c ⊎ MeetsAt at (other name) c
        by_end (inl k') = inl (record { name = h.name; here = h.here; there = h.there; in_one = k'; in_other = h.in_other; pair = h.pair })
        by_end (inr e) =
            let same : name ≡ h.name = ap (λ (y : ℕ × Span). y.0) e in
            let place : at ≡ h.here = ap (λ (y : ℕ × Span). y.1) e in
            inr (h.there, ap other same ∙ h.in_other, subst (λ (s : Span). IsInOrder s h.there c) (sym place) h.pair)

pub met_all : (first : Option Clash) (es : List (ℕ × Span)) (other : Lookup) → IsDistinct nat_eq (keys_of es)
    → IsLeast IsNoLaterPair (MeetingAmong es other) first
    → IsLeast IsNoLaterPair (Meeting (λ x. lookup (nat_eq x) es) other) first
met_all first es other unique l = least_same l (λ c h. record {
  name = h.name;
  here = h.here;
  there = h.there;
  in_one = entry_found es h.name h.here unique h.in_one;
  in_other = h.in_other;
  pair = h.pair;
}) (λ c h. record {
  name = h.name;
  here = h.here;
  there = h.there;
  in_one = found_entry es h.name h.here h.in_one;
  in_other = h.in_other;
  pair = h.pair;
})

pub meeting_sym : (f g : Lookup) (c : Clash) → Meeting f g c → Meeting g f c
meeting_sym f g c h = record {
  name = h.name;
  here = h.there;
  there = h.here;
  in_one = h.in_other;
  in_other = h.in_one;
  pair =
      order_sym h.here h.there c h.pair;
}

-- Two tables meet where two kinds of places do, of which they have the first ones: at one name none of these pairs is
-- before that of the first places.
pub record MeetingOf (P Q : ℕ → Span → Type 0) (c : Clash) : Type 0 where
  pub name : ℕ
  pub here : Span
  pub there : Span
  pub in_one : P name here
  pub in_other : Q name there
  pub pair : IsInOrder here there c

pub meeting_there : (P Q : ℕ → Span → Type 0) (f g : Lookup) → ((x : ℕ) → IsLeast IsNoLater (P x) (f x)) → ((x : ℕ) → IsLeast IsNoLater (Q x) (g x))
    → (c : Clash) → Meeting f g c → MeetingOf P Q c
meeting_there P Q f g l k c h = record {
  name = h.name;
  here = h.here;
  there = h.there;
  in_one = (l h.name).there h.here h.in_one;
  in_other = (k h.name).there h.there h.in_other;
  pair = h.pair;
}

pub meeting_below : (P Q : ℕ → Span → Type 0) (f g : Lookup) → ((x : ℕ) → IsLeast IsNoLater (P x) (f x)) → ((x : ℕ) → IsLeast IsNoLater (Q x) (g x))
    → (d : Clash) → MeetingOf P Q d → (c : Clash) × Meeting f g c × IsNoLaterPair c d
meeting_below P Q f g l k d h =
    let m = (l h.name).least h.here h.in_one in
    let n = (k h.name).least h.there h.in_other in
    let pair = ordered m.0 n.0 in (
      pair.0,
      record { name = h.name; here = m.0; there = n.0; in_one = m.1; in_other = n.1; pair = pair.1 },
      pair_monotone m.0 n.0 h.here h.there pair.0 d m.2 n.2 pair.1 h.pair,
    )

pub joins_sym : (f g h : Lookup) → Joins f g h → Joins g f h
joins_sym f g h l = λ x. least_same (l x) (swap (f x) (g x)) (swap (g x) (f x))
  where
    swap : (o p : Option Span) (s : Span) → IsEither o p s → IsEither p o s
    swap o p s (inl e) = inr e
    swap o p s (inr e) = inl e
