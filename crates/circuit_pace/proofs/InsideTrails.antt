-- Own moves of the branch that is under way, seen from its core.
--
-- P: the program; K: how many moves follow the falls of lines; N: the numbers of the core; a: where the branch is; w: where the core is; s, q: spots;
-- z: that a rule fires; l: what is said of the move of the branch.
use Rattle.std.proofs.Common.{◌≡◌, ◌+◌, Bool, true, false, refl, sym, ap, ◌∙◌, inl, inr, arith}
use Rattle.std.specs.Prelude.{not, ◌&&◌, if◌then◌else◌}
use Rattle.width_check.specs.Processes.{Choices, choice_count, TypedProgram}
use Rattle.circuit_places.specs.Lines.{Seen}
use Rattle.circuit_places.specs.Heads.{some_bit, hot}
use Rattle.circuit_places.specs.Cores.{of_joined, of_ask, of_any, of_latch, of_start}
use Rattle.circuit_places.specs.Circuit.{ChoiceSpot, choice_answers, turned_choice}
use Rattle.circuit_places.proofs.HeadFacts.{some_hot}
use Rattle.circuit_places.proofs.Flow.{Clean, not_both}
use Rattle.circuit_places.proofs.Begin.{chosen_answered_moves, chosen_idle_moves}
use Rattle.circuit_places.proofs.CoreControl.{Way, works, worked, reported, letting, backs, way_any, way_latch}
use Rattle.circuit_places.proofs.CoreMoves.{own, guard, branch}
use Rattle.circuit_places.proofs.Places.{Mode, idle, running, answered, returning, asks, acks, ChoiceAt, inside_at, ChosenAt, chosen_index, chosen_cells, ChosenFits, chosen_moves}
use Rattle.circuit_time.proofs.Trails.{Clearing, choice_back, choice_trail}
use Rattle.circuit_time.proofs.OwnTrails.{Shorter}
use Rattle.circuit_time.proofs.TurnTrails.{wrapped}
use Rattle.circuit_pace.proofs.Never.{never}
use Rattle.circuit_pace.proofs.ChosenTrails.{ChosenLed, backs_less, latches_less, starts_less, joined_less}
use Rattle.circuit_pace.proofs.CoreTrails.{CoreSpots, Numbers, Room, core_can, core_can_is, own_in, branch_in, branch_apart, CoreEach, CoreLed}

module _ (P : TypedProgram) (K : Clearing) (N : Numbers) (env : Seen) (clean : Clean P env) {again : Bool} {choices : Choices} where
  abbrev in_way : {m k : Mode} → ChosenAt choices k → Way m k → ChoiceAt again choices m
  in_way a w = inside_at a w

  pub chosen_branch : {m k : Mode} (a : ChosenAt choices k) (w : Way m k) (s : ChoiceSpot choices) → Room P N choices → ChosenFits a env
      → chosen_moves env a s ≡ true → ChosenLed P K N.holds N.any choices k env a s → CoreLed P K N env (in_way a w) (branch s)
  chosen_branch {m = m} {k = k} a w s room f e l = record {
    each = here;
    up = λ b z. absurd (not_both b z);
    falls = λ b z. absurd (not_both z b);
    less = backs_less P K N.any N.any choices (hot (chosen_index a) (way_latch w)) (chosen_cells a) (turned_choice choices (chosen_cells a) s) l.less;
  }
    where
      says : some_bit (choice_count choices) (choice_answers choices (turned_choice choices (chosen_cells a) s)) ≡ l.says
      says = ap (some_bit (choice_count choices)) l.only ∙ some_hot (chosen_index a) l.says

      joined : {m k : Mode} (a : ChosenAt choices k) (w : Way m k) (s : ChoiceSpot choices) (f : ChosenFits a env) (e : chosen_moves env a s ≡ true)
          (l : ChosenLed P K N.holds N.any choices k env a s) (b : Bool) → b ≡ l.says
          → (if acks m then not (way_any w) && not b else b) ≡ true
          → Shorter (branch_in choices s) (own_in choices of_joined) (core_can env (in_way a w) (own of_joined))
          (if acks m then N.lowers
          else N.joins + choice_back P K N.any N.any choices (hot (chosen_index a) (way_latch w)) (turned_choice choices (chosen_cells a) s))
          (if acks m then N.lowers else N.joins + choice_back P K N.any N.any choices (hot (chosen_index a) (way_latch w)) (chosen_cells a))
          (choice_trail P K N.holds N.any choices (chosen_cells a) s)
      joined a works s f e l b is z = let r = room.held in inl (joined_less P K N.joins N.holds N.any N.any env a s l r (omega arith) refl (sym is ∙ z))
      joined a worked s f e l b is z = absurd (not_both (chosen_answered_moves P env clean a f s) e)
      joined a reported s f e l b is z = absurd (not_both (chosen_answered_moves P env clean a f s) e)
      joined a letting s f e l b is z = absurd (not_both (chosen_answered_moves P env clean a f s) e)
      joined {k = idle} a (backs any h) s f e l b is z = absurd (not_both (chosen_idle_moves env a s) e)
      joined {k = answered} a (backs any h) s f e l b is z = absurd (not_both (chosen_answered_moves P env clean a f s) e)
      joined {k = running} a (backs any h) s f e l b is z = never h
      joined {k = returning} a (backs any h) s f e l b is z =
          let low : l.says ≡ false = sym is ∙ last any b z in
          let t = l.falls refl low in
          let r = room.lower in
          inl (omega (arith, t, r))
        where
          last : (c d : Bool) → (not c && not d) ≡ true → d ≡ false
          last c false q = refl
          last true true q = absurd (cc q)
          last false true q = absurd (cc q)

      here : (q : CoreSpots choices) → CoreEach P K N env (in_way a w) (branch s) q
      here (own of_joined) z plain =
          joined a w s f e l (some_bit (choice_count choices) (choice_answers choices (turned_choice choices (chosen_cells a) s))) says z
      here (own of_ask) z plain = inr ((λ t. cc t), sym (core_can_is env (in_way a w) (own of_ask)) ∙ z, omega arith)
      here (own of_any) z plain = inr ((λ t. cc t), sym (core_can_is env (in_way a w) (own of_any)) ∙ z, omega arith)
      here (own (of_latch i)) z plain = inr (
        (λ t. cc t),
        sym (core_can_is env (in_way a w) (own (of_latch i))) ∙ z,
        latches_less P K N.any N.any choices (chosen_cells a) (turned_choice choices (chosen_cells a) s) l.less i,
      )
      here (own (of_start i)) z plain = inr (
        (λ t. cc t),
        sym (core_can_is env (in_way a w) (own (of_start i))) ∙ z,
        starts_less P K N.any choices (hot (chosen_index a) (asks k)) (chosen_cells a) (turned_choice choices (chosen_cells a) s) l.less i,
      )
      here (guard q) z plain = inr ((λ t. cc t), sym (core_can_is env (in_way a w) (guard q)) ∙ z, omega arith)
      here (branch q) z plain = wrapped s q (branch s) (branch q) branch_apart (chosen_moves env a q) _ _ _ (l.each q z plain)
