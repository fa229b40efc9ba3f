-- Small programs by hand: what parallel branches share, in the order of places and in the order of causes.
use Rattle.std.proofs.Common.{◌≡◌, ℕ, zero, suc, ◌+◌, [], ◌∷◌, Contains, ◌⊎◌, inl, inr, false, refl, sym, ap, ◌∙◌, subst, arith}
use Rattle.chp_base.specs.declared.span.Span.{Span}
use Rattle.chp_base.specs.declared.fault.FaultCode.TheVariants as code
use Rattle.width_check.specs.Order.{IsNoLater}
use Rattle.width_check.specs.Processes.{constant, reading, Process, skipping, assigning, sending, receiving, side_by_side, choosing, no_members, and_member, no_choices, and_choice}
use Rattle.width_check.specs.Sharing.{writes_var, reads_var, sends_on, receives_on, Occurrence, done_at, Parallel, Clashes, SharedAt, IsUnshared, IsFirstShared, IsFirstSharedFault, sharing_faults}

abbrev place : ℕ → Span
place n = record { from = n; to = n + 1 }

abbrev both : Process → Process → Process
both p q = side_by_side (and_member p (and_member q no_members))

-- x := 1 and R!x, with their names at these places
abbrev writes : ℕ → Process
writes at = assigning 0 (place at) (constant 1 1)

abbrev reads : ℕ → Process
reads at = sending 0 (place 90) (reading 0 0 0 (place at))

-- x := 1 || R!x
write_first : SharedAt (both (writes 5) (reads 8)) code.SharedVariable (place 5) (place 8)
write_first = record {
  a = done_at (writes_var 0) (place 5);
  b = done_at (reads_var 0) (place 8);
  parallel = inr (inl (inl ((0, omega arith, refl), (1, omega arith, refl))));
  clash = refl;
  at_first = refl;
  at_second = refl;
  order = inl (omega arith);
}

-- R!x || x := 1, where the place of the read is the first one
read_first : SharedAt (both (reads 5) (writes 8)) code.SharedVariable (place 5) (place 8)
read_first = record {
  a = done_at (reads_var 0) (place 5);
  b = done_at (writes_var 0) (place 8);
  parallel = inr (inl (inl ((1, omega arith, refl), (0, omega arith, refl))));
  clash = refl;
  at_first = refl;
  at_second = refl;
  order = inl (omega arith);
}

-- two places that are the same, as they may be in a program that no text has
same_place : SharedAt (both (writes 5) (writes 5)) code.SharedVariable (place 5) (place 5)
same_place = record {
  a = done_at (writes_var 0) (place 5);
  b = done_at (writes_var 0) (place 5);
  parallel = inr (inl (inl ((0, omega arith, refl), (0, omega arith, refl))));
  clash = refl;
  at_first = refl;
  at_second = refl;
  order = inr (refl, omega arith);
}

-- [G -> x := 1 || R!x]
in_selection : SharedAt (choosing false (and_choice (constant 1 1) (both (writes 5) (reads 8)) no_choices)) code.SharedVariable (place 5) (place 8)
in_selection = record {
  a = write_first.a;
  b = write_first.b;
  parallel = inl write_first.parallel;
  clash = write_first.clash;
  at_first = write_first.at_first;
  at_second = write_first.at_second;
  order = write_first.order;
}

-- x := 1 || [x -> skip]
in_guard : SharedAt (both (writes 5) (choosing false (and_choice (reading 0 0 0 (place 8)) skipping no_choices))) code.SharedVariable (place 5) (place 8)
in_guard = record {
  a = done_at (writes_var 0) (place 5);
  b = done_at (reads_var 0) (place 8);
  parallel = inr (inl (inl ((0, omega arith, refl), (0, omega arith, refl))));
  clash = refl;
  at_first = refl;
  at_second = refl;
  order = inl (omega arith);
}

-- A?x || A?y
two_receives : SharedAt (both (receiving 0 (place 3) 0 (place 4)) (receiving 0 (place 7) 1 (place 8))) code.SharedReceive (place 3) (place 7)
two_receives = record {
  a = done_at (receives_on 0) (place 3);
  b = done_at (receives_on 0) (place 7);
  parallel = inr (inl (inl ((0, omega arith, refl), (0, omega arith, refl))));
  clash = refl;
  at_first = refl;
  at_second = refl;
  order = inl (omega arith);
}

-- A!1 || A!1, of which all is told: no variable is shared, and the sends are at these two places
abbrev send_at : ℕ → Occurrence
send_at n = done_at (sends_on 0) (place n)

abbrev two_sends : Process
two_sends = both (sending 0 (place 3) (constant 1 1)) (sending 0 (place 7) (constant 1 1))

the_only : (x a : Occurrence) → Contains (x ∷ []) a → x ≡ a
the_only x a (zero, within, is) = is
the_only x a (suc k, within, is) = absurd (omega (arith, within))

abbrev AreSends : Occurrence → Occurrence → Type 0
AreSends a b = ((send_at 3 ≡ a) × (send_at 7 ≡ b)) ⊎ ((send_at 7 ≡ a) × (send_at 3 ≡ b))

pairs : (a b : Occurrence) → Parallel two_sends a b → AreSends a b
pairs a b (inl (inl h)) = absurd h
pairs a b (inl (inr (inl h))) = absurd h
pairs a b (inl (inr (inr h))) = absurd h
pairs a b (inr (inl (inl h))) = inl (the_only (send_at 3) a h.0, the_only (send_at 7) b h.1)
pairs a b (inr (inl (inr h))) = inr (the_only (send_at 7) a h.0, the_only (send_at 3) b h.1)
pairs a b (inr (inr (inl (inl h)))) = let within = h.1.1 in absurd (omega arith)
pairs a b (inr (inr (inl (inr h)))) = let within = h.0.1 in absurd (omega arith)
pairs a b (inr (inr (inr h))) = absurd h

no_variable : IsUnshared two_sends code.SharedVariable
no_variable a b h clash = by_pair (pairs a b h)
  where
    by_pair : AreSends a b → ⊥
    by_pair (inl e) = subst (λ (o : Occurrence). ¬ Clashes code.SharedVariable o.deed b.deed) e.0 (λ c. c) clash
    by_pair (inr e) = subst (λ (o : Occurrence). ¬ Clashes code.SharedVariable o.deed b.deed) e.0 (λ c. c) clash

sends_at : SharedAt two_sends code.SharedSend (place 3) (place 7)
sends_at = record {
  a = send_at 3;
  b = send_at 7;
  parallel = inr (inl (inl ((0, omega arith, refl), (0, omega arith, refl))));
  clash = refl;
  at_first = refl;
  at_second = refl;
  order = inl (omega arith);
}

the_places : (s t : Span) → SharedAt two_sends code.SharedSend s t → (s ≡ place 3) × (t ≡ place 7)
the_places s t h = by_pair (pairs h.a h.b h.parallel)
  where
    by_pair : AreSends h.a h.b → (s ≡ place 3) × (t ≡ place 7)
    by_pair (inl e) = (h.at_first ∙ ap (λ (o : Occurrence). o.at) (sym e.0), h.at_second ∙ ap (λ (o : Occurrence). o.at) (sym e.1))
    by_pair (inr e) =
        let first : s ≡ place 7 = h.at_first ∙ ap (λ (o : Occurrence). o.at) (sym e.0) in
        let second : t ≡ place 3 = h.at_second ∙ ap (λ (o : Occurrence). o.at) (sym e.1) in
        absurd (not_before (subst (λ (u : Span). IsNoLater u (place 3)) first (subst (λ (u : Span). IsNoLater s u) second h.order)))
      where
        not_before : ¬ IsNoLater (place 7) (place 3)
        not_before (inl h) = omega (arith, h)
        not_before (inr h) = let begins = h.0 in omega arith

itself : (s t : Span) → t ≡ s → IsNoLater s t
itself s t same = inr (ap (λ (u : Span). u.from) (sym same), let ends = ap (λ (u : Span). u.to) same in omega arith)

sends_first : IsFirstShared two_sends code.SharedSend (place 3) (place 7)
sends_first = record {
  shared = sends_at;
  least_second = λ s t h. itself (place 7) t (the_places s t h).1;
  least_first =
      λ s h. itself (place 3) s (the_places s (place 7) h).0;
}

sends_told : IsFirstSharedFault two_sends sharing_faults code.SharedSend (place 3) (place 7)
sends_told = inr (no_variable, inl (refl, sends_first))
