-- What the tables of a statement tell, from those of its parts.
use Rattle.std.proofs.Common.{◌≡◌, ℕ, ◌⊎◌, inl, inr, Bool, List, [], ◌∷◌, ◌++◌, Option, Some, None, nat_eq, Contains, zero, suc, refl, sym, ap, ◌∙◌, subst, arith, BuildHasherDefault, FoldHasher}
use Rattle.std.proofs.lemmas.List.Elements.{Contains-append_left, Contains-append_right, Contains-append_cases}
use Rattle.std.specs.HashMap.{HashMap, get}
use Rattle.chp_base.specs.declared.span.Span.{Span}
use Rattle.chp_base.specs.declared.fault.FaultCode.{FaultCode}
use Rattle.chp_base.specs.declared.fault.FaultCode.TheVariants as code
use Rattle.width_check.specs.Order.{IsNoLater}
use Rattle.width_check.specs.Processes.{Formula, Process, skipping, in_turn, side_by_side, choosing, repeating, Processes, no_members, Choices, no_choices}
use Rattle.width_check.specs.Sharing.{Deed, reads_var, writes_var, sends_on, receives_on, Occurrence, done_at, reads_of, occurrences, occurrences_of_each, occurrences_of_choices, IsAcross, Parallel, ParallelInside, ParallelAcross, Clashes, SharedAt, IsUnshared, IsFirstShared}
use Rattle.sharing_check.specs.declared.clash.Clash.{Clash}
use Rattle.sharing_check.specs.declared.deeds.Deeds.{Deeds}
use Rattle.sharing_check.specs.Leasts.{IsLeast, IsEither, IsNoLaterPair, IsInOrder}
use Rattle.sharing_check.specs.Places.{Lookup, Notes, Joins}
use Rattle.sharing_check.specs.Tells.{IsExclusive, IsCommon, IsDoneAt, Tells, Adds, Crosses, Merges}
use Rattle.sharing_check.proofs.Orders.{no_later_refl, no_later_trans, no_later_total, pair_trans}
use Rattle.sharing_check.proofs.LeastLemmas.{least_none, least_same, least_refine, least_more, least_both}
use Rattle.sharing_check.proofs.TableLemmas.{MeetingOf, meeting_there, meeting_below}
use Rattle.sharing_check.proofs.Pairs.{clashes_sym, parallel_sym, with_member, with_choice, member_occurrences, choice_occurrences, inside_more, more_inside, choice_more, more_choice, members_more, more_members}

-- ---- places of some occurrences

place_in : {Is : Deed → ℕ → Type 0} {os : List Occurrence} {x : ℕ} {s : Span} (ps : List Occurrence)
    → ((o : Occurrence) → Contains os o → Contains ps o) → IsDoneAt Is os x s → IsDoneAt Is ps x s
place_in ps within h = record { occurrence = h.occurrence; among = within h.occurrence h.among; kind = h.kind; at = h.at }

place_left : {Is : Deed → ℕ → Type 0} (os ps : List Occurrence) {x : ℕ} {s : Span} → IsDoneAt Is os x s → IsDoneAt Is (os ++ ps) x s
place_left os ps h = place_in (os ++ ps) (λ o. Contains-append_left os ps o) h

place_right : {Is : Deed → ℕ → Type 0} (os ps : List Occurrence) {x : ℕ} {s : Span} → IsDoneAt Is ps x s → IsDoneAt Is (os ++ ps) x s
place_right os ps h = place_in (os ++ ps) (λ o. Contains-append_right os ps o) h

place_cases : (Is : Deed → ℕ → Type 0) (os ps : List Occurrence) (x : ℕ) (s : Span) → IsDoneAt Is (os ++ ps) x s → IsDoneAt Is os x s ⊎ IsDoneAt Is ps x s
place_cases Is os ps x s h = by_list (Contains-append_cases os ps h.occurrence h.among)
  where
    by_list : Contains os h.occurrence ⊎ Contains ps h.occurrence → IsDoneAt Is os x s ⊎ IsDoneAt Is ps x s
    by_list (inl k) = inl (record { occurrence = h.occurrence; among = k; kind = h.kind; at = h.at })
    by_list (inr k) = inr (record { occurrence = h.occurrence; among = k; kind = h.kind; at = h.at })

place_none : (Is : Deed → ℕ → Type 0) (x : ℕ) (s : Span) → ¬ IsDoneAt Is [] x s
place_none Is x s h = let within = h.among.1 in omega arith

place_one : (Is : Deed → ℕ → Type 0) (d : Deed) (at : Span) (x : ℕ) (s : Span) → IsDoneAt Is (done_at d at ∷ []) x s → Is d x × (s ≡ at)
place_one Is d at x s h = by_index h.among
  where
    by_index : Contains (done_at d at ∷ []) h.occurrence → Is d x × (s ≡ at)
    by_index (zero, within, is) = (subst (λ (o : Occurrence). Is o.deed x) (sym is) h.kind, h.at ∙ ap (λ (o : Occurrence). o.at) (sym is))
    by_index (suc k, within, is) = absurd (omega (arith, within))

one_place : (Is : Deed → ℕ → Type 0) (d : Deed) (at : Span) (x : ℕ) (s : Span) → Is d x → s ≡ at → IsDoneAt Is (done_at d at ∷ []) x s
one_place Is d at x s kind same = record { occurrence = done_at d at; among = (0, omega arith, refl); kind = kind; at = same }

-- ---- one more occurrence, and more of them

-- a table with the places of some more occurrences
abbrev pub AddsIn : (Deed → ℕ → Type 0) → List Occurrence → Lookup → Lookup → Type 0
AddsIn Is os f g = (x : ℕ) → IsLeast IsNoLater (λ s. (f x ≡ Some s) ⊎ IsDoneAt Is os x s) (g x)

-- an occurrence of the kind
pub one_in : (Is : Deed → ℕ → Type 0) (d : Deed) (name : ℕ) (at : Span) (f g : Lookup) → ((x : ℕ) → Is d x → x ≡ name) → Is d name → Notes f name at g
    → AddsIn Is (done_at d at ∷ []) f g
one_in Is d name at f g only is notes x = least_same (notes x) into from
  where
    into : (s : Span) → (f x ≡ Some s) ⊎ ((x ≡ name) × (s ≡ at)) → (f x ≡ Some s) ⊎ IsDoneAt Is (done_at d at ∷ []) x s
    into s (inl e) = inl e
    into s (inr e) = inr (one_place Is d at x s (subst (λ (y : ℕ). Is d y) (sym e.0) is) e.1)

    from : (s : Span) → (f x ≡ Some s) ⊎ IsDoneAt Is (done_at d at ∷ []) x s → (f x ≡ Some s) ⊎ ((x ≡ name) × (s ≡ at))
    from s (inl e) = inl e
    from s (inr h) = let k = place_one Is d at x s h in inr (only x k.0, k.1)

-- none of the kind
pub none_in : (Is : Deed → ℕ → Type 0) (os : List Occurrence) (f : Lookup) → ((x : ℕ) (s : Span) → ¬ IsDoneAt Is os x s) → AddsIn Is os f f
none_in Is os f none x = record { there = λ s e. inl e; least = below }
  where
    below : (s : Span) → (f x ≡ Some s) ⊎ IsDoneAt Is os x s → (a : Span) × (f x ≡ Some a) × IsNoLater a s
    below s (inl e) = (s, e, no_later_refl s)
    below s (inr h) = absurd (none x s h)

pub not_in : (Is : Deed → ℕ → Type 0) (d : Deed) (at : Span) (f : Lookup) → ((x : ℕ) → ¬ Is d x) → AddsIn Is (done_at d at ∷ []) f f
not_in Is d at f none = none_in Is (done_at d at ∷ []) f (λ x s h. none x (place_one Is d at x s h).0)

more_in : (Is : Deed → ℕ → Type 0) (os ps : List Occurrence) (f g h : Lookup) → AddsIn Is os f g → AddsIn Is ps g h → AddsIn Is (os ++ ps) f h
more_in Is os ps f g h l k x = least_same (least_more no_later_trans (l x) (k x)) into from
  where
    into : (s : Span) → ((f x ≡ Some s) ⊎ IsDoneAt Is os x s) ⊎ IsDoneAt Is ps x s → (f x ≡ Some s) ⊎ IsDoneAt Is (os ++ ps) x s
    into s (inl (inl e)) = inl e
    into s (inl (inr p)) = inr (place_left os ps p)
    into s (inr p) = inr (place_right os ps p)

    from : (s : Span) → (f x ≡ Some s) ⊎ IsDoneAt Is (os ++ ps) x s → ((f x ≡ Some s) ⊎ IsDoneAt Is os x s) ⊎ IsDoneAt Is ps x s
    from s (inl e) = inl (inl e)
    from s (inr p) = by_list (place_cases Is os ps x s p)
      where
        by_list : IsDoneAt Is os x s ⊎ IsDoneAt Is ps x s → ((f x ≡ Some s) ⊎ IsDoneAt Is os x s) ⊎ IsDoneAt Is ps x s
        by_list (inl q) = inl (inr q)
        by_list (inr q) = inr q

pub adds_more : (cause : FaultCode) (os ps : List Occurrence) (a b d : Deeds) → Adds cause os a b → Adds cause ps b d → Adds cause (os ++ ps) a d
adds_more cause os ps a b d l k = record {
  exclusive = more_in (IsExclusive cause) os ps (get nat_eq a.exclusive) (get nat_eq b.exclusive) (get nat_eq d.exclusive) l.exclusive k.exclusive;
  common = more_in (IsCommon cause) os ps (get nat_eq a.common) (get nat_eq b.common) (get nat_eq d.common) l.common k.common;
  clash = k.clash ∙ l.clash;
}

pub adds_none : (cause : FaultCode) (a : Deeds) → Adds cause [] a a
adds_none cause a = record {
  exclusive = none_in (IsExclusive cause) [] (get nat_eq a.exclusive) (place_none (IsExclusive cause));
  common = none_in (IsCommon cause) [] (get nat_eq a.common) (place_none (IsCommon cause));
  clash = refl;
}

-- ---- statements without parts

-- no two occurrences in the process are parallel
abbrev pub IsAlone : Process → Type 0
IsAlone p = (a b : Occurrence) → ¬ Parallel p a b

-- what a statement tells by which no two occurrences are parallel
pub tells_alone : (cause : FaultCode) (p : Process) (a b : Deeds) → IsAlone p → Tells cause skipping a → Adds cause (occurrences p) a b → Tells cause p b
tells_alone cause p a b alone empty adds = record {
  exclusive = λ x. own (IsExclusive cause) (get nat_eq a.exclusive) (get nat_eq b.exclusive) x (empty.exclusive x) (adds.exclusive x);
  common = λ x. own (IsCommon cause) (get nat_eq a.common) (get nat_eq b.common) x (empty.common x) (adds.common x);
  clash = subst (λ (o : Option Clash). IsLeast IsNoLaterPair (λ c. SharedAt p cause c.first c.second) o) (sym adds.clash)
      (least_same empty.clash (λ c h. absurd h.parallel) (λ c h. absurd (alone h.a h.b h.parallel)));
}
  where
    own : (Is : Deed → ℕ → Type 0) (f g : Lookup) (x : ℕ) → IsLeast IsNoLater (IsDoneAt Is [] x) (f x)
        → IsLeast IsNoLater (λ s. (f x ≡ Some s) ⊎ IsDoneAt Is (occurrences p) x s) (g x)
        → IsLeast IsNoLater (IsDoneAt Is (occurrences p) x) (g x)
    own Is f g x none l = least_same l into (λ s h. inr h)
      where
        into : (s : Span) → (f x ≡ Some s) ⊎ IsDoneAt Is (occurrences p) x s → IsDoneAt Is (occurrences p) x s
        into s (inl e) = absurd (place_none Is x s (none.there s e))
        into s (inr h) = h

-- ---- statements with parts

-- the tables of two statements, joined, are those of one with the occurrences of both
joined_in : (Is : Deed → ℕ → Type 0) (os ps qs : List Occurrence) (f g h : Lookup) → qs ≡ os ++ ps
    → ((x : ℕ) → IsLeast IsNoLater (IsDoneAt Is os x) (f x)) → ((x : ℕ) → IsLeast IsNoLater (IsDoneAt Is ps x) (g x))
    → Joins f g h → (x : ℕ) → IsLeast IsNoLater (IsDoneAt Is qs x) (h x)
joined_in Is os ps qs f g h are l k joins x =
    subst (λ (rs : List Occurrence). IsLeast IsNoLater (IsDoneAt Is rs x) (h x)) (sym are)
    (least_same (least_both no_later_trans (l x) (k x) (joins x)) into (place_cases Is os ps x))
  where
    into : (s : Span) → IsDoneAt Is os x s ⊎ IsDoneAt Is ps x s → IsDoneAt Is (os ++ ps) x s
    into s (inl p) = place_left os ps p
    into s (inr p) = place_right os ps p

-- a clash of two occurrences that are related, at these places
pub record SharedBy (R : Occurrence → Occurrence → Type 0) (cause : FaultCode) (c : Clash) : Type 0 where
  pub a : Occurrence
  pub b : Occurrence
  pub related : R a b
  pub clash : Clashes cause a.deed b.deed
  pub at_first : c.first ≡ a.at
  pub at_second : c.second ≡ b.at
  pub order : IsNoLater c.first c.second

shared_as : (p : Process) (cause : FaultCode) (c : Clash) → SharedAt p cause c.first c.second → SharedBy (Parallel p) cause c
shared_as p cause c h = record { a = h.a; b = h.b; related = h.parallel; clash = h.clash; at_first = h.at_first; at_second = h.at_second; order = h.order }

as_shared : (p : Process) (cause : FaultCode) (c : Clash) → SharedBy (Parallel p) cause c → SharedAt p cause c.first c.second
as_shared p cause c h = record { a = h.a; b = h.b; parallel = h.related; clash = h.clash; at_first = h.at_first; at_second = h.at_second; order = h.order }

related_as : (R S : Occurrence → Occurrence → Type 0) (cause : FaultCode) (c : Clash) → ((a b : Occurrence) → R a b → S a b) → SharedBy R cause c
    → SharedBy S cause c
related_as R S cause c into h = record {
  a = h.a;
  b = h.b;
  related = into h.a h.b h.related;
  clash = h.clash;
  at_first = h.at_first;
  at_second = h.at_second;
  order = h.order;
}

related_cases : (R S T : Occurrence → Occurrence → Type 0) (cause : FaultCode) (c : Clash) → ((a b : Occurrence) → R a b → S a b ⊎ T a b)
    → SharedBy R cause c → SharedBy S cause c ⊎ SharedBy T cause c
related_cases R S T cause c cases h = by_case (cases h.a h.b h.related)
  where
    by_case : S h.a h.b ⊎ T h.a h.b → SharedBy S cause c ⊎ SharedBy T cause c
    by_case (inl k) = inl (record { a = h.a; b = h.b; related = k; clash = h.clash; at_first = h.at_first; at_second = h.at_second; order = h.order })
    by_case (inr k) = inr (record { a = h.a; b = h.b; related = k; clash = h.clash; at_first = h.at_first; at_second = h.at_second; order = h.order })

-- two deeds clash by a name that one of them has exclusively, and the other one has too
clash_name : (cause : FaultCode) (d e : Deed) → Clashes cause d e
    → (x : ℕ) × ((IsExclusive cause d x × IsExclusive cause e x) ⊎
    ((IsExclusive cause d x × IsCommon cause e x) ⊎ (IsCommon cause d x × IsExclusive cause e x)))
clash_name code.SharedVariable (writes_var x) (writes_var y) h = (x, inl (refl, h))
clash_name code.SharedVariable (writes_var x) (reads_var y) h = (x, inr (inl (refl, h)))
clash_name code.SharedVariable (reads_var x) (writes_var y) h = (x, inr (inr (refl, h)))
clash_name code.SharedSend (sends_on x) (sends_on y) h = (x, inl (refl, h))
clash_name code.SharedReceive (receives_on x) (receives_on y) h = (x, inl (refl, h))
clash_name _ _ _ h = absurd h

both_exclusive : (cause : FaultCode) (d e : Deed) (x : ℕ) → IsExclusive cause d x → IsExclusive cause e x → Clashes cause d e
both_exclusive code.SharedVariable (writes_var y) (writes_var z) x h k = sym h ∙ k
both_exclusive code.SharedSend (sends_on y) (sends_on z) x h k = sym h ∙ k
both_exclusive code.SharedReceive (receives_on y) (receives_on z) x h k = sym h ∙ k
both_exclusive code.SharedVariable (writes_var y) _ x h k = absurd k
both_exclusive code.SharedSend (sends_on y) _ x h k = absurd k
both_exclusive code.SharedReceive (receives_on y) _ x h k = absurd k
both_exclusive _ _ _ x h k = absurd h

one_common : (cause : FaultCode) (d e : Deed) (x : ℕ) → IsExclusive cause d x → IsCommon cause e x → Clashes cause d e
one_common code.SharedVariable (writes_var y) (reads_var z) x h k = sym h ∙ k
one_common code.SharedVariable (writes_var y) _ x h k = absurd k
one_common code.SharedVariable _ _ x h k = absurd h
one_common _ _ _ x h k = absurd k

-- ---- pairs across two statements

-- the places of the kind in some occurrences
abbrev kept_by : (Deed → ℕ → Type 0) → List Occurrence → Lookup → Type 0
kept_by Is os f = (x : ℕ) → IsLeast IsNoLater (IsDoneAt Is os x) (f x)

-- a meeting of two places, in which the deeds clash
meeting_shared : (Is It : Deed → ℕ → Type 0) (cause : FaultCode) (os ps : List Occurrence) (c : Clash)
    → ((d e : Deed) (x : ℕ) → Is d x → It e x → Clashes cause d e)
    → MeetingOf (IsDoneAt Is os) (IsDoneAt It ps) c → SharedBy (IsAcross os ps) cause c
meeting_shared Is It cause os ps c clash h = by_order h.pair.these
  where
    by_order : ((c.first ≡ h.here) × (c.second ≡ h.there)) ⊎ ((c.first ≡ h.there) × (c.second ≡ h.here)) → SharedBy (IsAcross os ps) cause c
    by_order (inl e) = record {
      a = h.in_one.occurrence;
      b = h.in_other.occurrence;
      related = inl (h.in_one.among, h.in_other.among);
      clash = clash h.in_one.occurrence.deed h.in_other.occurrence.deed h.name h.in_one.kind h.in_other.kind;
      at_first = e.0 ∙ h.in_one.at;
      at_second = e.1 ∙ h.in_other.at;
      order = h.pair.order;
    }
    by_order (inr e) = record {
      a = h.in_other.occurrence;
      b = h.in_one.occurrence;
      related = inr (h.in_other.among, h.in_one.among);
      clash = clashes_sym cause h.in_one.occurrence.deed h.in_other.occurrence.deed
          (clash h.in_one.occurrence.deed h.in_other.occurrence.deed h.name h.in_one.kind h.in_other.kind);
      at_first = e.0 ∙ h.in_other.at;
      at_second = e.1 ∙ h.in_one.at;
      order = h.pair.order;
    }

-- the meeting of two occurrences in the order of their lists
meets_there : (Is It : Deed → ℕ → Type 0) (os ps : List Occurrence) (x : ℕ) (a b : Occurrence) (c : Clash) → Contains os a → Contains ps b
    → Is a.deed x → It b.deed x → IsInOrder a.at b.at c
    → MeetingOf (IsDoneAt Is os) (IsDoneAt It ps) c
meets_there Is It os ps x a b c in_os in_ps is it pair = record {
  name = x;
  here = a.at;
  there = b.at;
  in_one = record { occurrence = a; among = in_os; kind = is; at = refl };
  in_other = record { occurrence = b; among = in_ps; kind = it; at = refl };
  pair = pair;
}

abbrev CrossedBelow : Deeds → Deeds → Clash → Type 0
CrossedBelow a b d = (c : Clash) × Crosses a b c × IsNoLaterPair c d

-- the least pair of places that the tables of two statements have for one name is that of the clashes across them
pub crossing : (cause : FaultCode) (os ps : List Occurrence) (a b : Deeds) (o : Option Clash)
    → kept_by (IsExclusive cause) os (get nat_eq a.exclusive) → kept_by (IsCommon cause) os (get nat_eq a.common)
    → kept_by (IsExclusive cause) ps (get nat_eq b.exclusive) → kept_by (IsCommon cause) ps (get nat_eq b.common) → IsLeast IsNoLaterPair (Crosses a b) o →
    IsLeast IsNoLaterPair (SharedBy (IsAcross os ps) cause) o
crossing cause os ps a b o a_exclusive a_common b_exclusive b_common l = least_refine pair_trans l into below
  where
    into : (c : Clash) → Crosses a b c → SharedBy (IsAcross os ps) cause c
    into c (inl h) = meeting_shared (IsExclusive cause) (IsExclusive cause) cause os ps c (both_exclusive cause)
        (meeting_there _ _ _ _ a_exclusive b_exclusive c h)
    into c (inr (inl h)) = meeting_shared (IsExclusive cause) (IsCommon cause) cause os ps c (one_common cause) (meeting_there _ _ _ _ a_exclusive b_common c h)
    into c (inr (inr h)) =
        meeting_shared (IsCommon cause) (IsExclusive cause) cause os ps c (λ d e x k m. clashes_sym cause e d (one_common cause e d x m k))
        (meeting_there _ _ _ _ a_common b_exclusive c h)

    both : (d : Clash) → MeetingOf (IsDoneAt (IsExclusive cause) os) (IsDoneAt (IsExclusive cause) ps) d → CrossedBelow a b d
    both d h = let m = meeting_below _ _ _ _ a_exclusive b_exclusive d h in (m.0, inl m.1, m.2)

    left : (d : Clash) → MeetingOf (IsDoneAt (IsExclusive cause) os) (IsDoneAt (IsCommon cause) ps) d → CrossedBelow a b d
    left d h = let m = meeting_below _ _ _ _ a_exclusive b_common d h in (m.0, inr (inl m.1), m.2)

    right : (d : Clash) → MeetingOf (IsDoneAt (IsCommon cause) os) (IsDoneAt (IsExclusive cause) ps) d → CrossedBelow a b d
    right d h = let m = meeting_below _ _ _ _ a_common b_exclusive d h in (m.0, inr (inr m.1), m.2)

    -- an occurrence of the first list with one of the second
    one_way : (u v : Occurrence) (d : Clash) → Contains os u → Contains ps v → Clashes cause u.deed v.deed → IsInOrder u.at v.at d → CrossedBelow a b d
    one_way u v d in_os in_ps clash pair = by_name (clash_name cause u.deed v.deed clash)
      where
        by_name : (x : ℕ) × ((IsExclusive cause u.deed x × IsExclusive cause v.deed x) ⊎
            ((IsExclusive cause u.deed x × IsCommon cause v.deed x) ⊎ (IsCommon cause u.deed x × IsExclusive cause v.deed x))) → CrossedBelow a b d
        by_name (x, inl k) = both d (meets_there (IsExclusive cause) (IsExclusive cause) os ps x u v d in_os in_ps k.0 k.1 pair)
        by_name (x, inr (inl k)) = left d (meets_there (IsExclusive cause) (IsCommon cause) os ps x u v d in_os in_ps k.0 k.1 pair)
        by_name (x, inr (inr k)) = right d (meets_there (IsCommon cause) (IsExclusive cause) os ps x u v d in_os in_ps k.0 k.1 pair)

    below : (d : Clash) → SharedBy (IsAcross os ps) cause d → CrossedBelow a b d
    below d h = by_side h.related
      where
        by_side : IsAcross os ps h.a h.b → CrossedBelow a b d
        by_side (inl k) = one_way h.a h.b d k.0 k.1 h.clash (record { order = h.order; these = inl (h.at_first, h.at_second) })
        by_side (inr k) = one_way h.b h.a d k.1 k.0 (clashes_sym cause h.a.deed h.b.deed h.clash)
            (record { order = h.order; these = inr (h.at_first, h.at_second) })

-- ---- one more part

abbrev IsBelow : Option Clash → Clash → Type 0
IsBelow o e = (c : Clash) × (o ≡ Some c) × IsNoLaterPair c e

-- what two statements tell, of one that has the occurrences of both, and whose pairs are those of both and those across
tells_more : (cause : FaultCode) (p q r : Process) (R : Occurrence → Occurrence → Type 0) (a b d : Deeds) (across : Option Clash)
    → occurrences r ≡ occurrences p ++ occurrences q
    → ((u v : Occurrence) → Parallel r u v → (Parallel p u v ⊎ Parallel q u v) ⊎ R u v) →
    ((u v : Occurrence) → (Parallel p u v ⊎ Parallel q u v) ⊎ R u v → Parallel r u v)
    → Tells cause p a → Tells cause q b → IsLeast IsNoLaterPair (SharedBy R cause) across → Merges a b across d → Tells cause r d
tells_more cause p q r R a b d across are cases pairs tells others least merges = record {
  exclusive = joined_in (IsExclusive cause) (occurrences p) (occurrences q) (occurrences r) _ _ _ are tells.exclusive others.exclusive merges.exclusive;
  common = joined_in (IsCommon cause) (occurrences p) (occurrences q) (occurrences r) _ _ _ are tells.common others.common merges.common;
  clash = record { there = λ c e. into c (merges.clash.there c e); least = below };
}
  where
    into : (c : Clash) → IsEither a.clash b.clash c ⊎ (across ≡ Some c) → SharedAt r cause c.first c.second
    into c (inl (inl e)) = as_shared r cause c (related_as (Parallel p) (Parallel r) cause c (λ u v h. pairs u v (inl (inl h)))
        (shared_as p cause c (tells.clash.there c e)))
    into c (inl (inr e)) = as_shared r cause c (related_as (Parallel q) (Parallel r) cause c (λ u v h. pairs u v (inl (inr h)))
        (shared_as q cause c (others.clash.there c e)))
    into c (inr e) = as_shared r cause c (related_as R (Parallel r) cause c (λ u v h. pairs u v (inr h)) (least.there c e))

    lower : (e c : Clash) → IsEither a.clash b.clash c ⊎ (across ≡ Some c) → IsNoLaterPair c e → IsBelow d.clash e
    lower e c is order =
        let m = merges.clash.least c is in
        (m.0, m.1, pair_trans m.0 c e m.2 order)

    below : (e : Clash) → SharedAt r cause e.first e.second → IsBelow d.clash e
    below e h = by_case (related_cases (Parallel r) (λ u v. Parallel p u v ⊎ Parallel q u v) R cause e cases (shared_as r cause e h))
      where
        by_part : SharedBy (Parallel p) cause e ⊎ SharedBy (Parallel q) cause e → IsBelow d.clash e
        by_part (inl k) = let m = tells.clash.least e (as_shared p cause e k) in lower e m.0 (inl (inl m.1)) m.2
        by_part (inr k) = let m = others.clash.least e (as_shared q cause e k) in lower e m.0 (inl (inr m.1)) m.2

        by_case : SharedBy (λ u v. Parallel p u v ⊎ Parallel q u v) cause e ⊎ SharedBy R cause e → IsBelow d.clash e
        by_case (inl k) = by_part (related_cases (λ u v. Parallel p u v ⊎ Parallel q u v) (Parallel p) (Parallel q) cause e (λ u v h. h) k)
        by_case (inr k) = let m = least.least e k in lower e m.0 (inr m.1) m.2

-- no pairs across
abbrev Never : Occurrence → Occurrence → Type 0
Never u v = ⊥

never_least : (cause : FaultCode) → IsLeast IsNoLaterPair (SharedBy Never cause) None
never_least cause = least_none IsNoLaterPair (SharedBy Never cause) (λ c h. h.related)

as_either : (R S T : Type 0) → (R ⊎ S → T) → (R ⊎ S) ⊎ ⊥ → T
as_either R S T into (inl h) = into h
as_either R S T into (inr h) = absurd h

pub turn_more : (cause : FaultCode) (members : Processes) (p : Process) (a b d : Deeds) → Tells cause (in_turn members) a → Tells cause p b
    → Merges a b None d → Tells cause (in_turn (with_member members p)) d
turn_more cause members p a b d tells own merges =
    tells_more cause (in_turn members) p (in_turn (with_member members p)) Never a b d None (member_occurrences members p)
    (λ u v h. inl (inside_more members p u v h))
    (λ u v. as_either _ _ _ (more_inside members p u v)) tells own (never_least cause) merges

pub choice_told : (cause : FaultCode) (again : Bool) (choices : Choices) (g : Formula) (p : Process) (a b d e : Deeds)
    → Tells cause (choosing again choices) a → Tells cause p b → Adds cause (reads_of g) b d → Merges a d None e
    → Tells cause (choosing again (with_choice choices g p)) e
choice_told cause again choices g p a b d e tells own adds merges = record {
  exclusive = joined_in (IsExclusive cause) (occurrences_of_choices choices) (reads_of g ++ occurrences p) _ _ _ _ (choice_occurrences choices g p)
      tells.exclusive
      (λ x. branch (IsExclusive cause) (get nat_eq b.exclusive) (get nat_eq d.exclusive) x (own.exclusive x) (adds.exclusive x)) merges.exclusive;
  common = joined_in (IsCommon cause) (occurrences_of_choices choices) (reads_of g ++ occurrences p) _ _ _ _ (choice_occurrences choices g p) tells.common
      (λ x. branch (IsCommon cause) (get nat_eq b.common) (get nat_eq d.common) x (own.common x) (adds.common x)) merges.common;
  clash = least_same (least_both pair_trans tells.clash (subst (λ (o : Option Clash). IsLeast IsNoLaterPair (λ c. SharedAt p cause c.first c.second) o)
      (sym adds.clash) own.clash) (least_same merges.clash only (λ c h. inl h))) into from;
}
  where
    branch : (Is : Deed → ℕ → Type 0) (f h : Lookup) (x : ℕ) → IsLeast IsNoLater (IsDoneAt Is (occurrences p) x) (f x)
        → IsLeast IsNoLater (λ s. (f x ≡ Some s) ⊎ IsDoneAt Is (reads_of g) x s) (h x)
        → IsLeast IsNoLater (IsDoneAt Is (reads_of g ++ occurrences p) x) (h x)
    branch Is f h x l k = least_same (least_more no_later_trans l k) put got
      where
        put : (s : Span) → IsDoneAt Is (occurrences p) x s ⊎ IsDoneAt Is (reads_of g) x s → IsDoneAt Is (reads_of g ++ occurrences p) x s
        put s (inl m) = place_right (reads_of g) (occurrences p) m
        put s (inr m) = place_left (reads_of g) (occurrences p) m

        got : (s : Span) → IsDoneAt Is (reads_of g ++ occurrences p) x s → IsDoneAt Is (occurrences p) x s ⊎ IsDoneAt Is (reads_of g) x s
        got s m = by_list (place_cases Is (reads_of g) (occurrences p) x s m)
          where
            by_list : IsDoneAt Is (reads_of g) x s ⊎ IsDoneAt Is (occurrences p) x s → IsDoneAt Is (occurrences p) x s ⊎ IsDoneAt Is (reads_of g) x s
            by_list (inl n) = inr n
            by_list (inr n) = inl n

    only : (c : Clash) → IsEither a.clash d.clash c ⊎ (None ≡ Some c) → IsEither a.clash d.clash c
    only c (inl h) = h
    only c (inr e) = absurd (cc e)

    into : (c : Clash) → SharedAt (choosing again choices) cause c.first c.second ⊎ SharedAt p cause c.first c.second
        → SharedAt (choosing again (with_choice choices g p)) cause c.first c.second
    into c (inl h) = as_shared _ cause c (related_as (Parallel (choosing again choices)) _ cause c (λ u v k. more_choice choices g p u v (inl k))
        (shared_as _ cause c h))
    into c (inr h) = as_shared _ cause c (related_as (Parallel p) _ cause c (λ u v k. more_choice choices g p u v (inr k)) (shared_as _ cause c h))

    from : (c : Clash) → SharedAt (choosing again (with_choice choices g p)) cause c.first c.second
        → SharedAt (choosing again choices) cause c.first c.second ⊎ SharedAt p cause c.first c.second
    from c h = by_case (related_cases _ (Parallel (choosing again choices)) (Parallel p) cause c (choice_more choices g p) (shared_as _ cause c h))
      where
        by_case : SharedBy (Parallel (choosing again choices)) cause c ⊎ SharedBy (Parallel p) cause c
            → SharedAt (choosing again choices) cause c.first c.second ⊎ SharedAt p cause c.first c.second
        by_case (inl k) = inl (as_shared _ cause c k)
        by_case (inr k) = inr (as_shared _ cause c k)

pub branch_more : (cause : FaultCode) (members : Processes) (p : Process) (a b d : Deeds) (across : Option Clash)
    → Tells cause (side_by_side members) a → Tells cause p b → IsLeast IsNoLaterPair (Crosses a b) across
    → Merges a b across d → Tells cause (side_by_side (with_member members p)) d
branch_more cause members p a b d across tells own least merges =
    tells_more cause (side_by_side members) p (side_by_side (with_member members p)) (IsAcross (occurrences_of_each members) (occurrences p)) a b d across
    (member_occurrences members p) cases pairs tells own
    (crossing cause (occurrences_of_each members) (occurrences p) a b across tells.exclusive tells.common own.exclusive own.common least) merges
  where
    cases : (u v : Occurrence) → Parallel (side_by_side (with_member members p)) u v
        → (Parallel (side_by_side members) u v ⊎ Parallel p u v) ⊎ IsAcross (occurrences_of_each members) (occurrences p) u v
    cases u v (inl h) = by_inside (inside_more members p u v h)
      where
        by_inside : ParallelInside members u v ⊎ Parallel p u v
            → (Parallel (side_by_side members) u v ⊎ Parallel p u v) ⊎ IsAcross (occurrences_of_each members) (occurrences p) u v
        by_inside (inl k) = inl (inl (inl k))
        by_inside (inr k) = inl (inr k)
    cases u v (inr h) = by_across (members_more members p u v h)
      where
        by_across : ParallelAcross members u v ⊎ IsAcross (occurrences_of_each members) (occurrences p) u v
            → (Parallel (side_by_side members) u v ⊎ Parallel p u v) ⊎ IsAcross (occurrences_of_each members) (occurrences p) u v
        by_across (inl k) = inl (inl (inr k))
        by_across (inr k) = inr k

    pairs : (u v : Occurrence) → (Parallel (side_by_side members) u v ⊎ Parallel p u v) ⊎ IsAcross (occurrences_of_each members) (occurrences p) u v
        → Parallel (side_by_side (with_member members p)) u v
    pairs u v (inl (inl (inl h))) = inl (more_inside members p u v (inl h))
    pairs u v (inl (inl (inr h))) = inr (more_members members p u v (inl h))
    pairs u v (inl (inr h)) = inl (more_inside members p u v (inr h))
    pairs u v (inr h) = inr (more_members members p u v (inr h))

-- ---- a whole program

-- with none that is reported, nothing of the kind is shared
pub unshared : (p : Process) (cause : FaultCode) (o : Option Clash) → o ≡ None → IsLeast IsNoLaterPair (λ c. SharedAt p cause c.first c.second) o
    → IsUnshared p cause
unshared p cause o is l a b parallel clash = by_order (no_later_total a.at b.at)
  where
    none : (c : Clash) → ¬ SharedAt p cause c.first c.second
    none c h = let m = l.least c h in cc (m.1, is)

    by_order : IsNoLater a.at b.at ⊎ IsNoLater b.at a.at → ⊥
    by_order (inl h) = none (record { first = a.at; second = b.at }) (record {
      a = a;
      b = b;
      parallel = parallel;
      clash = clash;
      at_first = refl;
      at_second =
          refl;
      order = h;
    })
    by_order (inr h) =
        none (record { first = b.at; second = a.at })
        (record {
          a = b;
          b = a;
          parallel = parallel_sym p a b parallel;
          clash = clashes_sym cause a.deed b.deed clash;
          at_first = refl;
          at_second = refl;
          order = h;
        })

-- the least pair is the one that is reported
pub first_shared : (p : Process) (cause : FaultCode) (o : Option Clash) (c : Clash) → o ≡ Some c
    → IsLeast IsNoLaterPair (λ d. SharedAt p cause d.first d.second) o → IsFirstShared p cause c.first c.second
first_shared p cause o c is l = record {
  shared = l.there c is;
  least_second = λ s t h. (below s t h).by_second;
  least_first =
      λ s h. (below s c.second h).by_first refl;
}
  where
    below : (s t : Span) → SharedAt p cause s t → IsNoLaterPair c (record { first = s; second = t })
    below s t h =
        let d : Clash = record { first = s; second = t } in
        let m = l.least d h in
        let same : m.0 ≡ c = cc (m.1, is) in
        subst (λ (e : Clash). IsNoLaterPair e d) same m.2

-- ---- one occurrence, by its deed

abbrev Table : Type 0
Table = HashMap ℕ Span (BuildHasherDefault FoldHasher)

kept_in : (Is : Deed → ℕ → Type 0) (d : Deed) (at : Span) (t u : Table) → u ≡ t → ((x : ℕ) → ¬ Is d x)
    → AddsIn Is (done_at d at ∷ []) (get nat_eq t) (get nat_eq u)
kept_in Is d at t u same none = subst (λ (v : Table). AddsIn Is (done_at d at ∷ []) (get nat_eq t) (get nat_eq v)) (sym same)
    (not_in Is d at (get nat_eq t) none)

pub adds_exclusive : (cause is : FaultCode) (d : Deed) (name : ℕ) (at : Span) (a b : Deeds) → cause ≡ is → ((x : ℕ) → IsExclusive is d x → x ≡ name)
    → IsExclusive is d name → ((x : ℕ) → ¬ IsCommon is d x)
    → Notes (get nat_eq a.exclusive) name at (get nat_eq b.exclusive) → b.common ≡ a.common → b.clash ≡ a.clash → Adds cause (done_at d at ∷ []) a b
adds_exclusive cause is d name at a b same only kind none notes common clash = subst (λ (c : FaultCode). Adds c (done_at d at ∷ []) a b) (sym same) (record {
  exclusive = one_in (IsExclusive is) d name at (get nat_eq a.exclusive) (get nat_eq b.exclusive) only kind notes;
  common = kept_in (IsCommon is) d at a.common b.common common none;
  clash = clash;
})

pub adds_common : (cause : FaultCode) (var : ℕ) (at : Span) (a b : Deeds) → cause ≡ code.SharedVariable
    → Notes (get nat_eq a.common) var at (get nat_eq b.common) → b.exclusive ≡ a.exclusive → b.clash ≡ a.clash
    → Adds cause (done_at (reads_var var) at ∷ []) a b
adds_common cause var at a b same notes exclusive clash = subst (λ (c : FaultCode). Adds c (done_at (reads_var var) at ∷ []) a b) (sym same) (record {
  exclusive = kept_in (IsExclusive code.SharedVariable) (reads_var var) at a.exclusive b.exclusive exclusive (λ x h. h);
  common = one_in (IsCommon code.SharedVariable) (reads_var var) var at (get nat_eq a.common) (get nat_eq b.common) (λ x h. h) refl notes;
  clash = clash;
})

-- ---- statements with the same occurrences and pairs tell the same

pub tells_as : (cause : FaultCode) (p q : Process) (d : Deeds) → occurrences q ≡ occurrences p
    → ((u v : Occurrence) → Parallel p u v → Parallel q u v) → ((u v : Occurrence) → Parallel q u v → Parallel p u v)
    → Tells cause p d → Tells cause q d
tells_as cause p q d are into from tells = record {
  exclusive = λ x. subst (λ (os : List Occurrence). IsLeast IsNoLater (IsDoneAt (IsExclusive cause) os x) (get nat_eq d.exclusive x)) (sym are)
      (tells.exclusive x);
  common = λ x. subst (λ (os : List Occurrence). IsLeast IsNoLater (IsDoneAt (IsCommon cause) os x) (get nat_eq d.common x)) (sym are) (tells.common x);
  clash = least_same tells.clash (λ c h. as_shared q cause c (related_as (Parallel p) (Parallel q) cause c into (shared_as p cause c h)))
      (λ c h. as_shared p cause c (related_as (Parallel q) (Parallel p) cause c from (shared_as q cause c h)));
}

pub again_told : (cause : FaultCode) (again other : Bool) (choices : Choices) (d : Deeds) → Tells cause (choosing again choices) d
    → Tells cause (choosing other choices) d
again_told cause again other choices d = tells_as cause (choosing again choices) (choosing other choices) d refl (λ u v h. h) (λ u v h. h)

pub repeat_told : (cause : FaultCode) (p : Process) (d : Deeds) → Tells cause p d → Tells cause (repeating p) d
repeat_told cause p d = tells_as cause p (repeating p) d refl (λ u v h. h) (λ u v h. h)

-- no members, no branches
pub no_turn : (cause : FaultCode) (d : Deeds) → Tells cause skipping d → Tells cause (in_turn no_members) d
no_turn cause d = tells_as cause skipping (in_turn no_members) d refl (λ u v h. h) (λ u v h. h)

pub no_branch : (cause : FaultCode) (d : Deeds) → Tells cause skipping d → Tells cause (side_by_side no_members) d
no_branch cause d = tells_as cause skipping (side_by_side no_members) d refl (λ u v h. absurd h) none
  where
    none : (u v : Occurrence) → Parallel (side_by_side no_members) u v → Parallel skipping u v
    none u v (inl h) = h
    none u v (inr h) = h

pub no_choice : (cause : FaultCode) (again : Bool) (d : Deeds) → Tells cause skipping d → Tells cause (choosing again no_choices) d
no_choice cause again d = tells_as cause skipping (choosing again no_choices) d refl (λ u v h. h) (λ u v h. h)
