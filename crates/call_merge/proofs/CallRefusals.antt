-- The first fault of procedures and calls, from the first fault of the program of calls alone.
use Rattle.std.proofs.Common.{◌≡◌, ◌≢◌, ◌⊎◌, ℕ, zero, suc, Bool, true, false, List, [], ◌∷◌, map, Some, None, refl, sym, ap, ◌∙◌, subst, inl, inr, ⊎_elim, arith}
use Rattle.std.specs.Prelude.{Contains, slice_get}
use Rattle.std.specs.Str.{bytes_eq}
use Rattle.std.proofs.lemmas.List.Elements.{Contains-append_right, Contains-append_cases}
use Rattle.std.proofs.lemmas.Slice.Eq.{bytes_eq-Decides}
use Rattle.chp_base.specs.declared.span.Span.{Span}
use Rattle.chp_base.specs.declared.fault.FaultCode.{FaultCode}
use Rattle.chp_base.specs.declared.fault.FaultCode.TheVariants as code
use Rattle.chp_syntax.specs.declared.tree.Decl.{Decl}
use Rattle.chp_syntax.specs.Trees.{Procedure, ProgramTree}
use Rattle.width_check.specs.Faults.{IsDouble, IsUndeclared, naming_faults, HasNone, IsFirstFault}
use Rattle.width_check.specs.Order.{IsFirst}
use Rattle.width_check.specs.Places.{declaration, Use}
use Rattle.width_check.specs.Sharing.{IsUnshared}
use Rattle.width_check.proofs.Least.{in_rest, front_or_rest, no_item}
use Rattle.call_merge.specs.CallSites.{calls_in, nested_calls, call_channel, calls_program, calls_process}
use Rattle.call_merge.specs.CallFaults.{IsDoubleProcedure, IsNestedCall, IsUnknownCall, IsUnusedProcedure, call_faults, IsFirstCallFault, MeetsCalling}
use Rattle.call_merge.proofs.CallsAlone.{sent, uses_are_calls, of_map, in_map, in_range, right_kind, right_way, no_slice, no_width_lacks, no_misfit, no_wide}

first_same : (P Q : Span → Type 0) (s : Span) → ((t : Span) → P t → Q t) → ((t : Span) → Q t → P t) → IsFirst P s → IsFirst Q s
first_same P Q s to from h = record { there = to s h.there; first = λ t q. h.first t (from t q) }

-- the fault is a name that is declared twice, or else one that isn't declared
pub names_alone : (p : ProgramTree) (c : FaultCode) (s : Span) → IsFirstFault (calls_program p) naming_faults c s →
    ((c ≡ code.DoubleName) × IsFirst (IsDouble (calls_program p)) s)
    ⊎ ((c ≡ code.Undeclared) × ((t : Span) → ¬ IsDouble (calls_program p) t) × IsFirst (IsUndeclared (calls_program p)) s)
names_alone p c s (inl h) = inl h
names_alone p c s (inr (h, inl k)) = absurd (in_range p s k.1.there)
names_alone p c s (inr (h, inr (k, inl l))) = inr (l.0, h, l.1)
names_alone p c s (inr (h, inr (k, inr (l, inl m)))) = absurd (right_kind p s m.1.there)
names_alone p c s (inr (h, inr (k, inr (l, inr (m, inl n))))) = absurd (right_way p s n.1.there)
names_alone p c s (inr (h, inr (k, inr (l, inr (m, inr (n, inl o)))))) = absurd (no_slice p s o.1.there)
names_alone p c s (inr (h, inr (k, inr (l, inr (m, inr (n, inr (o, inl q))))))) = absurd (no_width_lacks p s q.1.there)
names_alone p c s (inr (h, inr (k, inr (l, inr (m, inr (n, inr (o, inr (q, inl r)))))))) = absurd (no_misfit p s r.1.there)
names_alone p c s (inr (h, inr (k, inr (l, inr (m, inr (n, inr (o, inr (q, inr (r, inl u))))))))) = absurd (no_wide p s u.1.there)
names_alone p c s (inr (h, inr (k, inr (l, inr (m, inr (n, inr (o, inr (q, inr (r, inr u))))))))) = absurd u.1

-- procedures with one name, and channels with one name

got_mapped : (qs : List Procedure) (i : ℕ) (q : Procedure) → slice_get qs i ≡ Some q → slice_get (map call_channel qs) i ≡ Some (call_channel q)
got_mapped [] i q is = absurd (cc is)
got_mapped (r ∷ qs) zero q is = let same : r ≡ q = cc is in ap (λ (x : Procedure). Some (call_channel x)) same
got_mapped (r ∷ qs) (suc i) q is = got_mapped qs i q is

got_before : (qs : List Procedure) (i : ℕ) (d : Decl) → slice_get (map call_channel qs) i ≡ Some d →
    (q : Procedure) × (slice_get qs i ≡ Some q) × (call_channel q ≡ d)
got_before [] i d is = absurd (cc is)
got_before (r ∷ qs) zero d is = (r, refl, let same : call_channel r ≡ d = cc is in same)
got_before (r ∷ qs) (suc i) d is = got_before qs i d is

pub double_of_channels : (p : ProgramTree) (s : Span) → IsDouble (calls_program p) s → IsDoubleProcedure p s
double_of_channels p s h =
    let a = got_before p.procs h.earlier h.first h.first_is in
    let b = got_before p.procs h.later h.second h.second_is in
    record {
      earlier = h.earlier;
      later = h.later;
      order = h.order;
      first = a.0;
      second = b.0;
      first_is = a.1;
      second_is = b.1;
      same = ap (λ (d : Decl). d.name.name) a.2 ∙ (h.same ∙ sym (ap (λ (d : Decl). d.name.name) b.2));
      at = h.at ∙ sym (ap (λ (d : Decl). d.name.at) b.2);
    }

pub channels_double : (p : ProgramTree) (s : Span) → IsDoubleProcedure p s → IsDouble (calls_program p) s
channels_double p s h = record {
  earlier = h.earlier;
  later = h.later;
  order = h.order;
  first = call_channel h.first;
  second = call_channel h.second;
  first_is = got_mapped p.procs h.earlier h.first h.first_is;
  second_is = got_mapped p.procs h.later h.second h.second_is;
  same = h.same;
  at = h.at;
}

-- names that no procedure has, and those that aren't declared

none_declared : (qs : List Procedure) (name : List ℕ) → declaration (map call_channel qs) name ≡ None → (q : Procedure) → Contains qs q → q.name.name ≢ name
none_declared [] name none q c = absurd (no_item q c)
none_declared (r ∷ qs) name none q c = by_test (bytes_eq r.name.name name) refl (λ h k. none_declared qs name h q k)
  where
    by_test : (b : Bool) → bytes_eq r.name.name name ≡ b → (declaration (map call_channel qs) name ≡ None → Contains qs q → q.name.name ≢ name)
        → q.name.name ≢ name
    by_test true so rest same = absurd (let h = rw so at none in cc h)
    by_test false so rest same =
        ⊎_elim
        (λ (e : r ≡ q). let t : true ≡ false = sym ((bytes_eq-Decides r.name.name name).1 (ap (λ (x : Procedure). x.name.name) e ∙ same)) ∙ so in cc t)
        (λ k. rest (rw so at none) k same) (front_or_rest r q qs c)

declared_none : (qs : List Procedure) (name : List ℕ) → ((q : Procedure) → Contains qs q → q.name.name ≢ name) → declaration (map call_channel qs) name ≡ None
declared_none [] name other = refl
declared_none (r ∷ qs) name other =
    by_test (bytes_eq r.name.name name) refl (declared_none qs name (λ q c. other q (in_rest r q qs c)))
  where
    by_test : (b : Bool) → bytes_eq r.name.name name ≡ b → declaration (map call_channel qs) name ≡ None
        → declaration (map call_channel (r ∷ qs)) name ≡ None
    by_test true so rest = absurd (other r (0, omega arith, refl) ((bytes_eq-Decides r.name.name name).0 so))
    by_test false so rest = rw so rest

pub unknown_of_undeclared : (p : ProgramTree) (s : Span) → IsUndeclared (calls_program p) s → IsUnknownCall p s
unknown_of_undeclared p s h =
    let u = of_map sent (calls_in p.body) h.usage (subst (λ (us : List Use). Contains us h.usage) (uses_are_calls p.body) h.among) in
    let name : u.0.name ≡ h.usage.name = ap (λ (x : Use). x.name) u.2 in
    record {
      call = u.0;
      among = Contains-append_right (nested_calls p.procs) (calls_in p.body) u.0 u.1;
      unknown = λ q c. none_declared p.procs u.0.name (ap (λ (n : List ℕ). declaration (map call_channel p.procs) n) name ∙ h.missing) q c;
      at = h.at ∙ sym (ap (λ (x : Use). x.at) u.2);
    }

pub undeclared_of_unknown : (p : ProgramTree) → ((s : Span) → ¬ IsNestedCall p s) → (s : Span) → IsUnknownCall p s → IsUndeclared (calls_program p) s
undeclared_of_unknown p flat s h = ⊎_elim
    (λ nested. absurd (flat h.call.at (record { call = h.call; among = nested; at = refl })))
    (λ own. record {
      usage = sent h.call;
      among = subst (λ (us : List Use). Contains us (sent h.call)) (sym (uses_are_calls p.body)) (in_map sent (calls_in p.body) h.call own);
      missing = declared_none p.procs h.call.name h.unknown;
      at = h.at;
    })
    (Contains-append_cases (nested_calls p.procs) (calls_in p.body) h.call h.among)

-- what is refused

pub refused_double : (p : ProgramTree) (s : Span) → IsFirst (IsDouble (calls_program p)) s → IsFirstCallFault p call_faults code.DoubleProcedure s s
refused_double p s h = inl (refl, first_same _ _ s (double_of_channels p) (channels_double p) h, refl)

pub no_double : (p : ProgramTree) → ((t : Span) → ¬ IsDouble (calls_program p) t) → (t : Span) → ¬ IsDoubleProcedure p t
no_double p none t h = none t (channels_double p t h)

pub refused_unknown : (p : ProgramTree) (s : Span) → ((t : Span) → ¬ IsDouble (calls_program p) t) → ((t : Span) → ¬ IsNestedCall p t)
    → IsFirst (IsUndeclared (calls_program p)) s → IsFirstCallFault p call_faults code.UnknownProcedure s s
refused_unknown p s none flat h = inr (
  no_double p none,
  inr (flat, inl (refl, first_same _ _ s (unknown_of_undeclared p) (undeclared_of_unknown p flat) h, refl)),
)

pub no_unknown : (p : ProgramTree) → HasNone (calls_program p) naming_faults → ((t : Span) → ¬ IsNestedCall p t) → (t : Span) → ¬ IsUnknownCall p t
no_unknown p none flat t h = none.1.1.0 t (undeclared_of_unknown p flat t h)

pub meets_calling : (p : ProgramTree) → HasNone (calls_program p) naming_faults → ((t : Span) → ¬ IsNestedCall p t)
    → ((t : Span) → ¬ IsUnusedProcedure p t) → IsUnshared (calls_process p) code.SharedSend → MeetsCalling p
meets_calling p none flat used apart = record { named = (no_double p none.0, (flat, (no_unknown p none flat, (used, tt)))); apart = apart }
