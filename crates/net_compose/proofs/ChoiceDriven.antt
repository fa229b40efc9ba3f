-- The drivers of a selection's own nodes and of a guarded repetition's, one behind the other.
use Rattle.std.proofs.Common.{◌≡◌, ◌∙◌, ℕ, ◌+◌, List, [], ◌∷◌, ◌++◌, length, refl, sym, ap, arith, append_assoc}
use Rattle.std.specs.Prelude.{slice_set}
use Rattle.std.specs.List.{range_with_len}
use Rattle.prs_core.specs.Nets.{NodeRules, is_low, one_term}
use Rattle.prs_core.specs.Pairs.{Pair, or_of, rails_of}
use Rattle.width_check.specs.Processes.{Choices, choice_count, TypedProgram}
use Rattle.handshake_expand.specs.Answers.{guards_from, bodies_from, select_own, again_own}
use Rattle.cell_sequence.specs.Sequence.{q_child}
use Rattle.cell_select.specs.Selections.{joined_answer, turn_request, latches, starts, select_rules, again_rules}
use Rattle.net_compose.specs.Translation.{branch_answers, guard_pairs, guards_rules, choosing_at, repeating_at}
use Rattle.net_compose.specs.Drivers.{wanted_latch, let_go}
use Rattle.net_compose.specs.Wanted.{all_unwanted}
use Rattle.net_compose.proofs.BodyDriven.{two_on, set_on}
use Rattle.net_compose.proofs.Latched.{falses_high}

-- items, one after the other
pub three_on : (old d1 d2 new : List NodeRules) (a b c : NodeRules) → d1 ≡ old ++ a ∷ [] → d2 ≡ d1 ++ b ∷ [] → new ≡ d2 ++ c ∷ []
    → new ≡ old ++ a ∷ b ∷ c ∷ []
three_on old d1 d2 new a b c e1 e2 e3 = two_on old d1 new (a ∷ []) (b ∷ c ∷ []) e1 (two_on d1 d2 new (b ∷ []) (c ∷ []) e2 e3)

pub six_on : (old d1 d2 d3 d4 d5 new : List NodeRules) (a b c d e f : NodeRules) → d1 ≡ old ++ a ∷ [] → d2 ≡ d1 ++ b ∷ [] → d3 ≡ d2 ++ c ∷ []
    → d4 ≡ d3 ++ d ∷ [] → d5 ≡ d4 ++ e ∷ [] → new ≡ d5 ++ f ∷ [] → new ≡ old ++ a ∷ b ∷ c ∷ d ∷ e ∷ f ∷ []
six_on old d1 d2 d3 d4 d5 new a b c d e f e1 e2 e3 e4 e5 e6 =
    two_on old d3 new (a ∷ b ∷ c ∷ []) (d ∷ e ∷ f ∷ []) (three_on old d1 d2 d3 a b c e1 e2 e3) (three_on d3 d4 d5 new d e f e4 e5 e6)

module _ (p : TypedProgram) (cs : Choices) (request from : ℕ) (answers : List ℕ) (bits : List Pair) (inner old : List NodeRules) where
  pub select_driven : (unjoined : NodeRules) (latched : List ℕ) (d3 d4 d5 d6 : List NodeRules)
      → answers ≡ branch_answers p cs (bodies_from cs select_own from)
      → latched ≡ range_with_len (from + 3) (choice_count cs) → bits ≡ guard_pairs cs (guards_from cs select_own from)
      → inner ≡ guards_rules p cs (from + 1) (guards_from cs select_own from)
      → d3 ≡ old ++ unjoined ∷ q_child request (from + 2) ∷ or_of latched ∷ [] → d4 ≡ d3 ++ latches request bits → d5 ≡ d4 ++ starts latched bits
      → d6 ≡ d5 ++ inner
      → slice_set d6 (length old) (joined_answer (from + 2) answers)
      ≡ old ++ (select_rules (choosing_at p cs request (from + 2) select_own from) ++ guards_rules p cs (from + 1) (guards_from cs select_own from))
  select_driven unjoined latched d3 d4 d5 d6 answered numbered valued guarded e3 e4 e5 e6 =
      set_on old d6 (unjoined ∷ q_child request (from + 2) ∷ or_of latched ∷ (latches request bits ++ (starts latched bits ++ inner))) 0 (length old) _
      (omega arith) (two_on old d3 d6 (unjoined ∷ q_child request (from + 2) ∷ or_of latched ∷ []) _ e3
      (two_on d3 d4 d6 (latches request bits) (starts latched bits ++ inner) e4 (two_on d4 d5 d6 (starts latched bits) inner e5 e6)))
      ∙ (ap (λ rs. old ++ (joined_answer (from + 2) answers ∷ q_child request (from + 2) ∷ or_of latched ∷ rs))
      (sym (append_assoc (latches request bits) (starts latched bits) inner))
      ∙ (ap (λ a. old ++ (select_rules (record { request = request; any = from + 2; latched = latched; guards = bits; answers = a }) ++ inner)) answered
      ∙ (ap (λ l. old ++ (select_rules (record {
        request = request;
        any = from + 2;
        latched = l;
        guards = bits;
        answers = branch_answers p cs (bodies_from cs select_own from);
      }) ++ inner)) numbered
      ∙ (ap (λ g. old ++ (select_rules (record {
        request = request;
        any = from + 2;
        latched = range_with_len (from + 3) (choice_count cs);
        guards = g;
        answers = branch_answers p cs (bodies_from cs select_own from);
      }) ++ inner)) valued
      ∙ ap (λ i. old ++ (select_rules (choosing_at p cs request (from + 2) select_own from) ++ i)) guarded))))

  -- the latch of the end stands before those of the branches
  pub again_driven : (unjoined : NodeRules) (leaves latched : List ℕ) (d6 d7 d8 d9 : List NodeRules)
      → answers ≡ branch_answers p cs (bodies_from cs again_own from)
      → leaves ≡ (from + 5) ∷ latched → latched ≡ range_with_len (from + 6) (choice_count cs) → bits ≡ guard_pairs cs (guards_from cs again_own from)
      → inner ≡ guards_rules p cs (from + 3) (guards_from cs again_own from)
      → d6 ≡ old ++ let_go (from + 5) (from + 4) (rails_of bits) ∷ turn_request request (from + 2) ∷ unjoined ∷ q_child (from + 1) (from + 4)
      ∷ or_of leaves ∷ wanted_latch (from + 1) (all_unwanted bits) ∷ []
      → d7 ≡ d6 ++ latches (from + 1) bits → d8 ≡ d7 ++ starts latched bits → d9 ≡ d8 ++ inner
      → slice_set d9 (length old + 2) (joined_answer (from + 4) answers)
      ≡ old ++ (again_rules (repeating_at p cs request from) ++ guards_rules p cs (from + 3) (guards_from cs again_own from))
  again_driven unjoined leaves latched d6 d7 d8 d9 answered led numbered valued guarded e6 e7 e8 e9 =
      let turn = from + 1 in
      let any = from + 4 in
      set_on old d9 (let_go (from + 5) any (rails_of bits) ∷ turn_request request (from + 2) ∷ unjoined ∷ q_child turn any
      ∷ or_of leaves ∷ wanted_latch turn (all_unwanted bits) ∷ (latches turn bits ++ (starts latched bits ++ inner))) 2 (length old + 2) _ refl
      (two_on old d6 d9 (let_go (from + 5) any (rails_of bits) ∷ turn_request request (from + 2) ∷ unjoined ∷ q_child turn any
      ∷ or_of leaves ∷ wanted_latch turn (all_unwanted bits) ∷ []) _ e6
      (two_on d6 d7 d9 (latches turn bits) (starts latched bits ++ inner) e7 (two_on d7 d8 d9 (starts latched bits) inner e8 e9)))
      ∙ (ap (λ rs. old ++ (let_go (from + 5) any (rails_of bits) ∷ turn_request request (from + 2) ∷ joined_answer any answers ∷ q_child turn any
      ∷ or_of leaves ∷ wanted_latch turn (all_unwanted bits) ∷ rs)) (sym (append_assoc (latches turn bits) (starts latched bits) inner))
      ∙ (ap (λ ls. old ++ (let_go (from + 5) any (rails_of bits) ∷ turn_request request (from + 2) ∷ joined_answer any answers ∷ q_child turn any
      ∷ or_of ls ∷ wanted_latch turn (all_unwanted bits) ∷ ((latches turn bits ++ starts latched bits) ++ inner))) led
      ∙ (ap (λ w. old ++ (let_go (from + 5) any (rails_of bits) ∷ turn_request request (from + 2) ∷ joined_answer any answers ∷ q_child turn any
      ∷ or_of ((from + 5) ∷ latched) ∷ record { up = one_term w; down = one_term (is_low turn ∷ []) }
      ∷ ((latches turn bits ++ starts latched bits) ++ inner))) (falses_high bits)
      ∙ (ap (λ a. old ++ (again_rules (record {
        request = request;
        joined = from + 2;
        leave = from + 5;
        turn = record { request = turn; any = any; latched = latched; guards = bits; answers = a };
      }) ++ inner)) answered
      ∙ (ap (λ l. old ++ (again_rules (record {
        request = request;
        joined = from + 2;
        leave = from + 5;
        turn = record { request = turn; any = any; latched = l; guards = bits; answers = branch_answers p cs (bodies_from cs again_own from) };
      }) ++ inner)) numbered
      ∙ (ap (λ g. old ++ (again_rules (record {
        request = request;
        joined = from + 2;
        leave = from + 5;
        turn = record {
          request = turn;
          any = any;
          latched = range_with_len (from + 6) (choice_count cs);
          guards = g;
          answers = branch_answers p cs (bodies_from cs again_own from);
        };
      }) ++ inner)) valued
      ∙ ap (λ i. old ++ (again_rules (repeating_at p cs request from) ++ i)) guarded))))))
