-- The loops of a statement, one after the other.
use Rattle.std.proofs.Common.{◌≡◌, ℕ, ◌-◌, false, List, [], ◌∷◌, ◌++◌, map, set, length, refl, sym, ap, ◌∙◌, append_assoc, arith}
use Rattle.std.specs.Prelude.{slice_set}
use Rattle.std.proofs.lemmas.List.{append-nil, map-append, map-set, set-append_right}
use Rattle.width_check.specs.Processes.{Process, skipping, assigning, sending, receiving, in_turn, side_by_side, choosing, repeating, Processes, no_members, and_member, Choices, no_choices, and_choice, TypedProgram}
use Rattle.handshake_expand.specs.Layout.{capped}
use Rattle.round_time.specs.Ways.{Loop, looping, loops_within, each_loops, choice_loops}
use Rattle.pace_bound.specs.declared.within.Loop.{Loop as Held}
use Rattle.pace_bound.specs.Whereabouts.{loop_of, capped_loop, measured}
use Rattle.pace_bound.proofs.Whole.{within_whole}

-- one more statement's are noted, and then those of what is left
pub noted_more : (f : Loop → Loop) (now next all : List Loop) (before here left : List Loop) → now ++ map f before ≡ all → before ≡ here ++ left
    → next ≡ now ++ map f here → next ++ map f left ≡ all
noted_more f now next all before here left h parts is =
    ap (λ l. l ++ map f left) is
    ∙ (append_assoc now (map f here) (map f left)
    ∙ (ap (λ l. now ++ l) (sym (map-append f here left)) ∙ (ap (λ l. now ++ map f l) (sym parts) ∙ h)))

pub noted_all : (f : Loop → Loop) (now all left : List Loop) → now ++ map f left ≡ all → left ≡ [] → now ≡ all
noted_all f now all left h none = sym (append-nil now) ∙ (ap (λ l. now ++ map f l) (sym none) ∙ h)

-- A loop stands behind those before, and those within its body behind it, when its number takes the place of the one that
-- it had so far.
pub number_put : (place : ℕ) (before rest : List Loop) (all : List Held) (x : Held) (y : Loop) → length before ≡ place
    → map loop_of all ≡ (before ++ y ∷ []) ++ rest → map loop_of (slice_set all place x) ≡ before ++ loop_of x ∷ rest
number_put place before rest all x y there h =
    let none : place - place ≡ 0 = omega arith in
    map-set loop_of all place x
    ∙ (ap (λ l. set l place (loop_of x)) (h ∙ append_assoc before (y ∷ []) rest)
    ∙ (set-append_right before (y ∷ rest) place place (loop_of x) there (omega arith)
    ∙ ap (λ k. before ++ set (y ∷ rest) k (loop_of x)) none))

-- of the program as it is, a loop is measured by the longest way inside of it
module _ (P : TypedProgram) where
  own : (ls ms : List Loop) → map (measured false P) ls ≡ map capped_loop ls → map (measured false P) ms ≡ map capped_loop ms
      → map (measured false P) (ls ++ ms) ≡ map capped_loop (ls ++ ms)
  own ls ms g h =
      map-append (measured false P) ls ms ∙ (ap (λ l. l ++ map (measured false P) ms) g
      ∙ (ap (λ l. map capped_loop ls ++ l) h ∙ sym (map-append capped_loop ls ms)))

  mutual
    pub loops_exact : (p : Process) → map (measured false P) (loops_within P p) ≡ map capped_loop (loops_within P p)
    loops_exact skipping = refl
    loops_exact (assigning x at e) = refl
    loops_exact (sending c at e) = refl
    loops_exact (receiving c at x to) = refl
    loops_exact (in_turn ms) = each_exact ms
    loops_exact (side_by_side ms) = each_exact ms
    loops_exact (choosing again cs) = choices_exact cs
    loops_exact (repeating p) =
        ap (λ n. record { statement = repeating p; length = capped n } ∷ map (measured false P) (loops_within P p)) (within_whole P (repeating p))
        ∙ ap (λ l. capped_loop (looping P p) ∷ l) (loops_exact p)

    each_exact : (ms : Processes) → map (measured false P) (each_loops P ms) ≡ map capped_loop (each_loops P ms)
    each_exact no_members = refl
    each_exact (and_member p more) = own (loops_within P p) (each_loops P more) (loops_exact p) (each_exact more)

    choices_exact : (cs : Choices) → map (measured false P) (choice_loops P cs) ≡ map capped_loop (choice_loops P cs)
    choices_exact no_choices = refl
    choices_exact (and_choice g p more) = own (loops_within P p) (choice_loops P more) (loops_exact p) (choices_exact more)
