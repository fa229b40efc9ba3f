-- The rules of the templates, read at node numbers, are those of the core and of what stands round it.
use Rattle.std.proofs.Common.{◌≡◌, ℕ, zero, suc, Bool, true, false, List, [], ◌∷◌, ◌++◌, map, get_or, refl, sym, ap, ◌∙◌}
use Rattle.std.specs.Prelude.{not, ◌&&◌, ◌||◌}
use Rattle.std.proofs.lemmas.List.Folds.{list_all-append}
use Rattle.prs_core.specs.declared.rule.Literal.{Literal}
use Rattle.prs_core.specs.Nets.{NodeRules, is_high, is_low, one_term}
use Rattle.prs_core.specs.Pairs.{no_rules, or_of, lows, rails_of}
use Rattle.prs_core.specs.Pairs as net
use Rattle.prs_core.specs.Moves.{term_holds, guard_holds}
use Rattle.cell_select.specs.Selections.{only_one_true, latches, starts, evaluation, joined_answer, turn_request, leave_latch, leave_answer}
use Rattle.cell_select.specs.Selections as template
use Rattle.circuit_places.specs.Heads.{Index, top, under, Bits, bit_of, some_bit, each_false, all_neutral, alone}
use Rattle.circuit_places.specs.Cores.{Core, Turning, of_joined, of_ask, of_any, of_latch, of_start, of_answer, of_turn, of_leave, core_rule, turning_rule}
use Rattle.function_blocks.specs.Rails.{Pairs, Rule}

-- the nodes have these values
abbrev pub BitsAt : (n : ℕ) → (ℕ → Bool) → List ℕ → Bits n → Type 0
BitsAt zero v [] x = Unit {0}
BitsAt (suc n) v (k ∷ ks) x = (v k ≡ x.0) × BitsAt n v ks x.1
BitsAt _ v ks x = ⊥

abbrev pub HeadsAt : (n : ℕ) → (ℕ → Bool) → List net.Pair → Pairs n → Type 0
HeadsAt zero v [] x = Unit {0}
HeadsAt (suc n) v (h ∷ hs) x = (v h.t ≡ x.0.t) × (v h.f ≡ x.0.f) × HeadsAt n v hs x.1
HeadsAt _ v hs x = ⊥

abbrev pub number_of : {n : ℕ} → Index n → ℕ
number_of top = 0
number_of (under i) = suc (number_of i)

-- a rule's guards hold where those of the cells do
pub record SaysSo (v : ℕ → Bool) (rules : NodeRules) (r : Rule) : Type 0 where
  pub up : guard_holds v rules.up ≡ r.up
  pub down : guard_holds v rules.down ≡ r.down

or_false : (b : Bool) → (b || false) ≡ b
or_false true = refl
or_false false = refl

and_true : (b : Bool) → (b && true) ≡ b
and_true true = refl
and_true false = refl

module _ (v : ℕ → Bool) where
  -- one term, of one literal or two
  one_is : (t : List Literal) → guard_holds v (one_term t) ≡ term_holds v t
  one_is t = or_false (term_holds v t)

  high_is : (n : ℕ) → guard_holds v (one_term (is_high n ∷ [])) ≡ v n
  high_is n = one_is (is_high n ∷ []) ∙ and_true (v n)

  low_is : (n : ℕ) → guard_holds v (one_term (is_low n ∷ [])) ≡ not (v n)
  low_is n = one_is (is_low n ∷ []) ∙ and_true (not (v n))

  joined_terms : (s t : List Literal) → term_holds v (s ++ t) ≡ (term_holds v s && term_holds v t)
  joined_terms s t = list_all-append _ s t

  -- over all nodes of a list
  some_is : (n : ℕ) (ks : List ℕ) (x : Bits n) → BitsAt n v ks x → guard_holds v (map (λ k. is_high k ∷ []) ks) ≡ some_bit n x
  some_is zero [] x h = refl
  some_is (suc n) (k ∷ ks) x h = ap (λ b. (b && true) || guard_holds v (map (λ k. is_high k ∷ []) ks)) h.0
      ∙ (ap (λ b. b || guard_holds v (map (λ k. is_high k ∷ []) ks)) (and_true x.0) ∙ ap (λ b. x.0 || b) (some_is n ks x.1 h.1))
  some_is zero (k ∷ ks) x h = absurd h
  some_is (suc n) [] x h = absurd h

  none_is : (n : ℕ) (ks : List ℕ) (x : Bits n) → BitsAt n v ks x → term_holds v (lows ks) ≡ not (some_bit n x)
  none_is zero [] x h = refl
  none_is (suc n) (k ∷ ks) x h = ap (λ b. not b && term_holds v (lows ks)) h.0 ∙ (ap (λ b. not x.0 && b) (none_is n ks x.1 h.1) ∙ here x.0 (some_bit n x.1))
    where
      here : (a b : Bool) → (not a && not b) ≡ not (a || b)
      here true b = refl
      here false b = refl
  none_is zero (k ∷ ks) x h = absurd h
  none_is (suc n) [] x h = absurd h

  false_is : (n : ℕ) (hs : List net.Pair) (x : Pairs n) → HeadsAt n v hs x → term_holds v (template.all_false hs) ≡ each_false n x
  false_is zero [] x h = refl
  false_is (suc n) (k ∷ hs) x h = ap (λ b. b && term_holds v (template.all_false hs)) h.1 ∙ ap (λ b. x.0.f && b) (false_is n hs x.1 h.2)
  false_is zero (k ∷ hs) x h = absurd h
  false_is (suc n) [] x h = absurd h

  neutral_is : (n : ℕ) (hs : List net.Pair) (x : Pairs n) → HeadsAt n v hs x → term_holds v (lows (rails_of hs)) ≡ all_neutral n x
  neutral_is zero [] x h = refl
  neutral_is (suc n) (k ∷ hs) x h = ap (λ b. not b && (not (v k.f) && term_holds v (lows (rails_of hs)))) h.0
      ∙ (ap (λ b. not x.0.t && (not b && term_holds v (lows (rails_of hs)))) h.1 ∙ ap (λ b. not x.0.t && (not x.0.f && b)) (neutral_is n hs x.1 h.2))
  neutral_is zero (k ∷ hs) x h = absurd h
  neutral_is (suc n) [] x h = absurd h

  -- the latch of a branch, behind the guards before it
  shifted : (a b c d : Bool) → (a && d) ≡ b → (b && c) ≡ (a && (d && c))
  shifted true b c d e = ap (λ z. z && c) (sym e)
  shifted false b c d e = ap (λ z. z && c) (sym e)

  latch_is : {n : ℕ} (request : ℕ) (i : Index n) (before hs : List net.Pair) (x : Pairs n) → HeadsAt n v hs x
      → (guard_holds v (get_or (map (λ (wanted : List Literal). record { up = one_term wanted; down = one_term (is_low request ∷ []) })
      (only_one_true before hs)) (number_of i) no_rules).up ≡ (term_holds v (template.all_false before) && alone i x))
      × (guard_holds v (get_or (map (λ (wanted : List Literal). record { up = one_term wanted; down = one_term (is_low request ∷ []) })
      (only_one_true before hs)) (number_of i) no_rules).down ≡ not (v request))
  latch_is request (top {n = n}) before (k ∷ hs) x h = (
    one_is (template.all_false before ++ is_high k.t ∷ template.all_false hs)
        ∙ (joined_terms (template.all_false before) (is_high k.t ∷ template.all_false hs)
        ∙ (ap (λ b. term_holds v (template.all_false before) && (b && term_holds v (template.all_false hs))) h.0
        ∙ ap (λ b. term_holds v (template.all_false before) && (x.0.t && b)) (false_is n hs x.1 h.2))),
    low_is request,
  )
  latch_is request (under i) before (k ∷ hs) x h =
      let r = latch_is request i (before ++ k ∷ []) hs x.1 h.2 in (
        r.0 ∙ shifted (term_holds v (template.all_false before)) (term_holds v (template.all_false (before ++ k ∷ []))) (alone i x.1) x.0.f
            (sym (false_then before k x.0.f h.1)),
        r.1,
      )
    where
      false_then : (before : List net.Pair) (k : net.Pair) (f : Bool) → v k.f ≡ f
          → term_holds v (template.all_false (before ++ k ∷ [])) ≡ (term_holds v (template.all_false before) && f)
      false_then [] k f e = and_true (v k.f) ∙ e
      false_then (b ∷ bs) k f e = ap (λ z. v b.f && z) (false_then bs k f e) ∙ here (v b.f) (term_holds v (template.all_false bs)) f
        where
          here : (a b c : Bool) → (a && (b && c)) ≡ ((a && b) && c)
          here true b c = refl
          here false b c = refl
  latch_is request top before [] x h = absurd h
  latch_is request (under i) before [] x h = absurd h

  start_at : {n : ℕ} (i : Index n) (ks : List ℕ) (hs : List net.Pair) (l : Bits n) (z : Bool) → BitsAt n v ks l → term_holds v (lows (rails_of hs)) ≡ z
      → SaysSo v (get_or (starts ks hs) (number_of i) no_rules) (record { now = false; up = bit_of i l && z; down = not (bit_of i l) })
  start_at top (k ∷ ks) hs l z h e = record {
    up = one_is (is_high k ∷ lows (rails_of hs)) ∙ (ap (λ b. b && term_holds v (lows (rails_of hs))) h.0 ∙ ap (λ b. l.0 && b) e);
    down = low_is k ∙ ap not h.0;
  }
  start_at (under i) (k ∷ ks) hs l z h e = start_at i ks hs l.1 z h.1 e
  start_at top [] hs l z h e = absurd h
  start_at (under i) [] hs l z h e = absurd h

  -- The core's nodes, at their numbers.
  module _ {n : ℕ} {G B : Type 0} (request any : ℕ) (latched answers : List ℕ) (guards : List net.Pair) (x : Core n G B) (hs : Pairs n) (ans : Bits n)
      (at_any : v any ≡ x.any) (at_latched : BitsAt n v latched x.latched) (at_answers : BitsAt n v answers ans) (at_guards : HeadsAt n v guards hs) where
    pub joined_told : (r l : Bool) → SaysSo v (joined_answer any answers) (core_rule r l hs ans x of_joined)
    joined_told r l = record {
      up = some_is n answers ans at_answers;
      down = one_is (is_low any ∷ lows answers) ∙ (ap (λ b. not b && term_holds v (lows answers)) at_any
          ∙ ap (λ b. not x.any && b) (none_is n answers ans at_answers));
    }

    pub ask_told : (l : Bool) → SaysSo v (evaluation request any) (core_rule (v request) l hs ans x of_ask)
    ask_told l = record {
      up = one_is (is_high request ∷ is_low any ∷ []) ∙ (ap (λ b. v request && b) (and_true (not (v any))) ∙ ap (λ b. v request && not b) at_any);
      down = high_is any ∙ at_any;
    }

    -- of a selection, and of a repetition
    pub any_told : (r : Bool) (k : ℕ) (ks : List ℕ) → latched ≡ k ∷ ks → SaysSo v (or_of latched) (core_rule r false hs ans x of_any)
    any_told r k ks e = record {
      up = ap (λ (l : List ℕ). guard_holds v (or_of l).up) e ∙ (sym (ap (λ (l : List ℕ). guard_holds v (map (λ j. is_high j ∷ []) l)) e)
          ∙ some_is n latched x.latched at_latched);
      down = ap (λ (l : List ℕ). guard_holds v (or_of l).down) e ∙ (one_is (lows (k ∷ ks))
          ∙ (sym (ap (λ (l : List ℕ). term_holds v (lows l)) e) ∙ none_is n latched x.latched at_latched));
    }

    pub any_again_told : (r : Bool) (leave : ℕ) → SaysSo v (or_of (leave ∷ latched)) (core_rule r (v leave) hs ans x of_any)
    any_again_told r leave = record {
      up = ap (λ b. b || guard_holds v (map (λ j. is_high j ∷ []) latched)) (and_true (v leave))
          ∙ ap (λ b. v leave || b) (some_is n latched x.latched at_latched);
      down = one_is (lows (leave ∷ latched)) ∙ ap (λ b. not (v leave) && b) (none_is n latched x.latched at_latched);
    }

    pub latch_told : (l : Bool) (i : Index n)
        → SaysSo v (get_or (latches request guards) (number_of i) no_rules) (core_rule (v request) l hs ans x (of_latch i))
    latch_told l i = let r = latch_is request i [] guards hs at_guards in record { up = r.0; down = r.1 }

    pub start_told : (r l : Bool) (i : Index n) → SaysSo v (get_or (starts latched guards) (number_of i) no_rules) (core_rule r l hs ans x (of_start i))
    start_told r l i = let s = start_at i latched guards x.latched (all_neutral n hs) at_latched (neutral_is n guards hs at_guards) in record {
      up = s.up;
      down = s.down;
    }

  -- What stands round it, where there is a guard.
  module _ {n : ℕ} {G B : Type 0} (request joined leave turn any : ℕ) (guards : List net.Pair) (x : Turning (Core (suc n) G B)) (hs : Pairs (suc n))
      (at_joined : v joined ≡ x.core.answer) (at_leave : v leave ≡ x.leave) (at_turn : v turn ≡ x.turn) (at_any : v any ≡ x.core.any)
      (at_guards : HeadsAt (suc n) v guards hs) where
    pub turn_told : SaysSo v (turn_request request joined) (turning_rule (v request) hs x of_turn)
    turn_told = record {
      up = one_is (is_high request ∷ is_low joined ∷ []) ∙ (ap (λ b. v request && b) (and_true (not (v joined))) ∙ ap (λ b. v request && not b) at_joined);
      down = ap (λ b. b || guard_holds v ((is_low request ∷ []) ∷ [])) (and_true (v joined))
          ∙ (ap (λ b. v joined || b) (low_is request) ∙ ap (λ b. b || not (v request)) at_joined);
    }

    pub leave_told : SaysSo v (leave_latch turn guards) (turning_rule (v request) hs x of_leave)
    leave_told = record { up = one_is (template.all_false guards) ∙ false_is (suc n) guards hs at_guards; down = low_is turn ∙ ap not at_turn }

    pub answer_told : SaysSo v (leave_answer leave any guards) (turning_rule (v request) hs x of_answer)
    answer_told = record {
      up = one_is (is_high leave ∷ lows (rails_of guards)) ∙ (ap (λ b. b && term_holds v (lows (rails_of guards))) at_leave
          ∙ ap (λ b. x.leave && b) (neutral_is (suc n) guards hs at_guards));
      down = low_is any ∙ ap not at_any;
    }
