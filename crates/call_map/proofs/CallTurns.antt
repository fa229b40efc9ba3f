-- Copies keep their handshakes along the runs of the net of the program with copies, since they are parts of that program.
--
-- C: the program with calls; P: that with copies; is: what is asked of C; st: a state of the net of P; c, j: calls.
use Rattle.std.proofs.Common.{◌≡◌, ℕ, ◌+◌, ◌<◌, List, [], ◌∷◌, Bool, true, false, length, inl, inr, refl, sym, ap, ◌∙◌, subst, arith, ⊎_elim, length-set, get_or-set_same}
use Rattle.std.specs.Prelude.{◌||◌, not}
use Rattle.std.proofs.lemmas.Bool.{cases_lt, cases_eq}
use Rattle.prs_core.specs.Nets.{NetValue}
use Rattle.prs_core.specs.Moves.{high, fired}
use Rattle.env_script.specs.Scripts.{OfferValue}
use Rattle.env_script.specs.Runs.{RunState, move_enabled, moved, after}
use Rattle.width_check.specs.Processes.{TypedProgram}
use Rattle.handshake_expand.specs.Layout.{size_of}
use Rattle.handshake_expand.specs.Answers.{answer_of}
use Rattle.chp_meaning.specs.Halves.{ReadsNoTarget}
use Rattle.circuit_places.specs.Within.{Phased}
use Rattle.net_compose.specs.Translation.{translation, first_values}
use Rattle.net_compose.specs.PartNumbers.{first_of_part, request_of_part, answer_of_part, PartsInTurns}
use Rattle.call_map.specs.Shared.{asked}
use Rattle.call_map.specs.CallsApart.{CallsApart}
use Rattle.call_map.specs.CallNet.{CallProgram, inlined_program, procs_from, call_root, body_at, proc_answer}
use Rattle.call_map.proofs.CallParts.{Copy, copies_in, Turning, copies_turn, Fits, copies_fit, paired_at, pair_at}
use Rattle.call_map.proofs.CallNet.{points}
use Rattle.call_map.proofs.Merged.{nowhere}
use Rattle.call_map.proofs.CallPlaces.{point}
use Rattle.call_map.proofs.CallOrder.{CallFacts}
use Rattle.call_map.proofs.CallStands.{node_asked}
use Rattle.call_map.proofs.CallFirsts.{firsts_fit, below_there}
use Rattle.call_map.proofs.CallCarries.{PointsKeep}

pub length_after : (net : NetValue) (st : RunState) (ns : List ℕ) → length (after net st ns).values ≡ length st.values
length_after net st [] = refl
length_after net st (n ∷ ns) = length_after net (moved net st n) ns ∙ length-set st.values n (not (high st.values n))

not_other : (r d : Bool) → not r ≡ not d → r ≡ d
not_other true true e = refl
not_other true false e = absurd (cc e)
not_other false true e = absurd (cc e)
not_other false false e = refl

not_itself : (r : Bool) → not r ≡ r → ⊥
not_itself true e = cc e
not_itself false e = cc e

resting : (r d : Bool) → (r ≡ false) × (d ≡ false) → (r || d) ≡ false
resting r d h = ap (λ z. z || d) h.0 ∙ h.1

module _ (C : CallProgram) (is : CallFacts C) (unread : (q : ℕ) → q < length C.procs → ReadsNoTarget (body_at C q)) (apart : CallsApart C.body) where
  abbrev P : TypedProgram
  P = inlined_program C

  abbrev CopyOf : Type 0
  CopyOf = Copy C.procs P.body

  abbrev Stands : (c : ℕ) → CopyOf → Type 0
  Stands c k = Fits C.procs P (proc_answer C) P.body (procs_from C) (procs_from C + 2) (point C is c) k

  copy_at : (c : ℕ) → c < length (points C) → (k : CopyOf) × Stands c k
  copy_at c l = paired_at (Fits C.procs P (proc_answer C) P.body (procs_from C) (procs_from C + 2)) nowhere (points C) (copies_in C.procs C.body)
      (copies_fit C.procs P (proc_answer C) C.body (call_root C) (call_root C + 2) (procs_from C) (procs_from C + 2)) c l

  two_at : (c j : ℕ) → c < j → j < length (points C) → (k : CopyOf) × (l : CopyOf) × Stands c k × Stands j l × Turning C.procs P.body k l
  two_at c j less l =
      pair_at (Fits C.procs P (proc_answer C) P.body (procs_from C) (procs_from C + 2)) nowhere (Turning C.procs P.body) (points C) (copies_in C.procs C.body)
      (copies_fit C.procs P (proc_answer C) C.body (call_root C) (call_root C + 2) (procs_from C) (procs_from C + 2))
      (copies_turn C.procs C.body apart) c j less l

  -- its numbers
  answer_is : (c : ℕ) (k : CopyOf) → Stands c k → answer_of_part P k.at ≡ answer_of P (body_at C (point C is c).proc) (point C is c).copy
  answer_is c k s = ap (λ q. answer_of P (body_at C q) (first_of_part P k.at)) (sym s.0) ∙ ap (answer_of P (body_at C (point C is c).proc)) s.2

  free : (c : ℕ) → c < length (points C) → (k : CopyOf) → Stands c k → ReadsNoTarget (body_at C k.proc)
  free c l k s = subst (λ q. ReadsNoTarget (body_at C q)) s.0 (unread (point C is c).proc (is.within c l))

  sized : (c : ℕ) (k : CopyOf) → Stands c k → (y : ℕ) → y < size_of P (body_at C (point C is c).proc) → y < size_of P (body_at C k.proc)
  sized c k s y h = subst (λ q. y < size_of P (body_at C q)) s.0 h

  module _ (script : List OfferValue) (st : RunState) (long : length st.values ≡ length (first_values P)) (t : PartsInTurns P script st) where
    abbrev value : ℕ → Bool
    value n = high st.values n

    abbrev ask : ℕ → ℕ
    ask c = (point C is c).request_there

    abbrev end : ℕ → ℕ
    end c = answer_of P (body_at C (point C is c).proc) (point C is c).copy

    within : (c : ℕ) → c < length (points C) → ask c < length st.values
    within c l =
        let a = below_there C is unread (asked c) l in
        let b = node_asked C is c l in
        let e = (firsts_fit C is unread).long_there in
        omega (arith, a, b, e, long)

    turns_over : (n : ℕ) → n < length st.values → high (fired st.values n) n ≡ not (value n)
    turns_over n l = get_or-set_same st.values n (not (value n)) false l

    by_phase : (r d now : Bool) → now ≡ not r → Phased now r d → r ≡ d
    by_phase r d now e (inl f) = absurd (not_itself r (sym e ∙ f))
    by_phase r d now e (inr f) = not_other r d (sym e ∙ f)

    turn_of : (c : ℕ) → c < length (points C) → move_enabled (translation P) script st (ask c) ≡ true → value (ask c) ≡ value (end c)
    turn_of c l on =
        let z = copy_at c l in
        let h = z.0.at in
        let phase = t.asks h (free c l z.0 z.1) (ask c) on in
        subst (λ n. value (ask c) ≡ value n) (answer_is c z.0 z.1)
        (by_phase (value (ask c)) (value (answer_of_part P h)) (high (fired st.values (ask c)) (ask c)) (turns_over (ask c) (within c l))
        (subst (λ n. Phased (high (fired st.values (ask c)) n) (value n) (value (answer_of_part P h))) z.1.1 phase))

    quiet_of : (c y : ℕ) → c < length (points C) → y < size_of P (body_at C (point C is c).proc) → value (ask c) ≡ value (end c)
        → move_enabled (translation P) script st ((point C is c).copy + y) ≡ false
    quiet_of c y l h e =
        let z = copy_at c l in
        let k = z.0 in
        let s = z.1 in
        let r : value (request_of_part P k.at) ≡ value (ask c) = ap value s.1 in
        let d : value (answer_of_part P k.at) ≡ value (end c) = ap value (answer_is c k s) in
        subst (λ n. move_enabled (translation P) script st (n + y) ≡ false) s.2
        (by k (free c l k s) (sized c k s y h) (value (ask c)) r (d ∙ sym e))
      where
        by : (k : CopyOf) → ReadsNoTarget (body_at C k.proc) → y < size_of P (body_at C k.proc) → (b : Bool) → value (request_of_part P k.at) ≡ b
            → value (answer_of_part P k.at) ≡ b
            → move_enabled (translation P) script st (first_of_part P k.at + y) ≡ false
        by k f g true r d = t.still k.at f r d y g
        by k f g false r d = t.rests k.at f r d y g

    clear_of : (c y : ℕ) → c < length (points C) → y < size_of P (body_at C (point C is c).proc) → value (ask c) ≡ false → value (end c) ≡ false
        → value ((point C is c).copy + y) ≡ false
    clear_of c y l h e f =
        let z = copy_at c l in
        let k = z.0 in
        let s = z.1 in
        subst (λ n. value (n + y) ≡ false) s.2 (t.low_at_rest k.at (free c l k s) (ap value s.1 ∙ e) (ap value (answer_is c k s) ∙ f) y (sized c k s y h))

    -- of two calls of one procedure one rests at least
    one_busy : (c j : ℕ) → c < j → j < length (points C) → (point C is c).proc ≡ (point C is j).proc → (value (ask c) || value (end c)) ≡ true
        → (value (ask j) || value (end j)) ≡ true → ⊥
    one_busy c j less l e f g =
        let z = two_at c j less l in
        let k = z.0 in
        let m = z.1 in
        let s = z.2 in
        let u = z.3 in
        ⊎_elim
        (λ h. let r = resting (value (ask c)) (value (end c)) (ap value (sym s.1) ∙ h.0, ap value (sym (answer_is c k s)) ∙ h.1) in cc (f, r))
        (λ h. let r = resting (value (ask j)) (value (end j)) (ap value (sym u.1) ∙ h.0, ap value (sym (answer_is j m u)) ∙ h.1) in cc (g, r))
        (t.one_rests k.at m.at (free c (omega (arith, less, l)) k s) (free j l m u) (z.4 (sym s.0 ∙ (e ∙ u.0))))

    pub points_kept : PointsKeep C script st
    points_kept = record {
      turn = turn_of;
      quiet = quiet_of;
      clear = clear_of;
      alone = λ c j l m e f g. ⊎_elim (λ (same : c ≡ j). same)
          (λ ne. ⊎_elim (λ (less : c < j). absurd (one_busy c j less m e f g))
          (λ more. absurd (one_busy j c (omega (arith, ne, more)) l (sym e) g f)) (cases_lt c j))
          (cases_eq c j);
    }
