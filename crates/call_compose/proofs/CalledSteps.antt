-- What the walk over a body with calls has made, and what is left, member by member.
use Rattle.std.proofs.Common.{◌≡◌, ◌∙◌, ℕ, suc, ◌+◌, ◌<◌, Bool, true, false, List, [], ◌∷◌, ◌++◌, length, refl, sym, ap, subst, arith, append_assoc}
use Rattle.std.specs.Prelude.{slice_set, if◌then◌else◌}
use Rattle.std.proofs.lemmas.List.{length-append, set-append_left, set-set}
use Rattle.prs_core.specs.Nets.{NodeRules}
use Rattle.prs_core.specs.Pairs.{no_rules}
use Rattle.cell_parallel.specs.Trees.{tree_rules}
use Rattle.cell_select.specs.Selections.{joined_answer, select_rules, again_rules}
use Rattle.cell_sequence.specs.Sequence.{q_child, q_latch, q_next, loop_request}
use Rattle.width_check.specs.Processes.{Choices, choice_count, member_count, TypedProgram, Process, Formula}
use Rattle.width_check.specs.Typing.{IsProcess}
use Rattle.handshake_expand.specs.Answers.{guards_from, bodies_from, select_own, again_own}
use Rattle.handshake_expand.specs.PartTree.{own_before}
use Rattle.handshake_expand.proofs.Branches.{sites_more, sites_done}
use Rattle.net_compose.specs.Contacts.{every_contact}
use Rattle.net_compose.specs.Translation.{branch_answers, guards_rules, choosing_at, repeating_at, q_rules, hidden_high}
use Rattle.net_compose.proofs.BodyDriven.{two_on, set_on, element_answered, loop_answered, joined_within}
use Rattle.net_compose.proofs.BodyWritten.{raised_more, raised_done}
use Rattle.net_compose.proofs.Raised.{with_raised}
use Rattle.call_map.specs.Calling.{Called, turned, abreast, chosen, looped, Calleds, no_calleds, and_called, CalledChoices, no_called, or_called, inlined, inlined_each, inlined_choices, called_size, called_turn_size, called_branches_size, called_bodies_size, called_answer, called_turn_answer, called_branch_answers, called_bodies_from, called_starts_from, called_ends, called_choosing, called_repeating, called_rules, called_turn_rules, called_branches_rules, called_bodies_rules, called_sites, called_turn_sites, called_branch_sites, called_body_sites, called_requests, called_turn_requests, called_branch_requests, called_body_requests}
use Rattle.call_map.proofs.CallNodes.{called_long}
use Rattle.call_compose.specs.Walking.{requests_of, Pieces, pieces, HasAdded}

module _ (bs : List Process) (p : TypedProgram) (d : ℕ → ℕ) where
  -- so many nodes are added
  pub rules_long : (x : Called) (request from : ℕ) (old new : List NodeRules) → IsProcess p.channels p.vars (inlined bs x)
      → new ≡ old ++ called_rules bs p d x request from → length new ≡ length old + called_size bs p x
  rules_long x request from old new typed made =
      omega (arith, ap length made, length-append old (called_rules bs p d x request from), called_long p bs d x typed request from)

  pub ends_long : (ms : Calleds) (from : ℕ) → length (called_ends bs p ms from) ≡ member_count (inlined_each bs ms)
  ends_long no_calleds from = refl
  ends_long (and_called x more) from = ap suc (ends_long more (from + 3 + called_size bs p x))

  -- a Q-element with its child
  pub record IsElement (x : Called) (request from : ℕ) (old new : Pieces) : Type 0 where
    pub made : new.drivers ≡ old.drivers ++ (q_rules request (called_answer bs p x (from + 3)) from ++ called_rules bs p d x from (from + 3))
    pub contacts : new.contacts ≡ old.contacts ++ called_sites bs p (every_contact p) x (from + 3)
    pub first : new.first ≡ with_raised old.first (called_sites bs p (hidden_high p) x (from + 3))
    pub calls : (proc : ℕ) → requests_of proc new.calls ≡ requests_of proc old.calls ++ called_requests bs p proc x from (from + 3)

  pub element_made : (x : Called) (request from answer place : ℕ) (old new : Pieces) (begun done : List NodeRules) → place ≡ length old.drivers
      → begun ≡ old.drivers ++ q_child request (from + 1) ∷ no_rules ∷ no_rules ∷ []
      → HasAdded bs p d x from (from + 3) answer (pieces begun old.contacts old.first old.calls) new
      → done ≡ slice_set (slice_set new.drivers (place + 1) (q_latch request answer)) (place + 2) (q_next (from + 1) answer)
      → IsElement x request from old (pieces done new.contacts new.first new.calls)
  element_made x request from answer place old new begun done at own added set = record {
    made = element_answered old.drivers begun new.drivers done (called_rules bs p d x from (from + 3)) place request (from + 1) answer at own added.made set
        ∙ ap (λ a. old.drivers ++ (q_rules request a from ++ called_rules bs p d x from (from + 3))) added.answered;
    contacts = added.contacts;
    first = added.first;
    calls = added.calls;
  }

  pub element_long : (x : Called) (request from : ℕ) (old new : Pieces) → IsProcess p.channels p.vars (inlined bs x) → IsElement x request from old new
      → length new.drivers ≡ length old.drivers + 3 + called_size bs p x
  element_long x request from old new typed h =
      let q = q_rules request (called_answer bs p x (from + 3)) from in
      let all = length-append old.drivers (q ++ called_rules bs p d x from (from + 3)) in
      omega (arith, ap length h.made, all, called_long p bs d x typed from (from + 3))

  pub element_counted : (x : Called) (request from answer place : ℕ) (old new : Pieces) (begun done : List NodeRules) → place ≡ length old.drivers
      → begun ≡ old.drivers ++ q_child request (from + 1) ∷ no_rules ∷ no_rules ∷ []
      → HasAdded bs p d x from (from + 3) answer (pieces begun old.contacts old.first old.calls) new
      → done ≡ slice_set (slice_set new.drivers (place + 1) (q_latch request answer)) (place + 2) (q_next (from + 1) answer)
      → IsProcess p.channels p.vars (inlined bs x) → length done ≡ place + 3 + called_size bs p x
  element_counted x request from answer place old new begun done at own added set typed =
      let long = element_long x request from old (pieces done new.contacts new.first new.calls) typed
      (element_made x request from answer place old new begun done at own added set) in
      omega (arith, long, at)

  -- of a sequence
  pub record TurnLeft (all rest : Calleds) (request from asked next : ℕ) (old now : Pieces) : Type 0 where
    pub made : now.drivers ++ called_turn_rules bs p d rest asked next ≡ old.drivers ++ called_turn_rules bs p d all request from
    pub contacts : now.contacts ++ called_turn_sites bs p (every_contact p) rest next ≡ old.contacts ++ called_turn_sites bs p (every_contact p) all from
    pub first : with_raised now.first (called_turn_sites bs p (hidden_high p) rest next)
        ≡ with_raised old.first (called_turn_sites bs p (hidden_high p) all from)
    pub calls : (proc : ℕ) → requests_of proc now.calls ++ called_turn_requests bs p proc rest asked next
        ≡ requests_of proc old.calls ++ called_turn_requests bs p proc all request from
    pub answer : called_turn_answer bs p rest next ≡ called_turn_answer bs p all from
    pub size : next + called_turn_size bs p rest ≡ from + called_turn_size bs p all

  pub turn_begun : (all : Calleds) (request from : ℕ) (old : Pieces) → TurnLeft all all request from request from old old
  turn_begun all request from old = record {
    made = refl;
    contacts = refl;
    first = refl;
    calls = λ proc. refl;
    answer = refl;
    size = refl;
  }

  pub turn_more : (all : Calleds) (x : Called) (more : Calleds) (request from asked next after : ℕ) (old now new : Pieces)
      → 0 < member_count (inlined_each bs more) → after ≡ next + 3 + called_size bs p x → TurnLeft all (and_called x more) request from asked next old now
      → IsElement x asked next now new → TurnLeft all more request from (next + 2) after old new
  turn_more all x no_calleds request from asked next after old now new some at left h = absurd (omega (arith, some))
  turn_more all x (and_called y more) request from asked next after old now new some at left h =
      let rest = and_called y more in
      let q = q_rules asked (called_answer bs p x (next + 3)) next in
      let rules = called_rules bs p d x next (next + 3) in
      let sites = called_sites bs p (every_contact p) x (next + 3) in
      let high = called_sites bs p (hidden_high p) x (next + 3) in
      record {
        made = sites_more now.drivers new.drivers (q ++ rules) (called_turn_rules bs p d rest (next + 2) after) _ _ h.made
            (ap (λ n. q ++ (rules ++ called_turn_rules bs p d rest (next + 2) n)) (sym at)) left.made;
        contacts = sites_more now.contacts new.contacts sites (called_turn_sites bs p (every_contact p) rest after) _ _ h.contacts
            (ap (λ n. sites ++ called_turn_sites bs p (every_contact p) rest n) (sym at)) left.contacts;
        first = raised_more now.first new.first _ high (called_turn_sites bs p (hidden_high p) rest after) _ h.first
            (ap (λ n. high ++ called_turn_sites bs p (hidden_high p) rest n) (sym at)) left.first;
        calls = λ proc. sites_more (requests_of proc now.calls) (requests_of proc new.calls) (called_requests bs p proc x next (next + 3))
            (called_turn_requests bs p proc rest (next + 2) after) _ _ (h.calls proc)
            (ap (λ n. called_requests bs p proc x next (next + 3) ++ called_turn_requests bs p proc rest (next + 2) n) (sym at)) (left.calls proc);
        answer = ap (called_turn_answer bs p rest) at ∙ left.answer;
        size = omega (arith, at, left.size);
      }

  pub turn_done : (all : Calleds) (x : Called) (request from asked next answer : ℕ) (old now new : Pieces)
      → TurnLeft all (and_called x no_calleds) request from asked next old now → HasAdded bs p d x asked next answer now new
      → HasAdded bs p d (turned all) request from answer old new
  turn_done all x request from asked next answer old now new left h = record {
    made = h.made ∙ left.made;
    answered = h.answered ∙ left.answer;
    contacts = h.contacts ∙ left.contacts;
    first = h.first ∙ left.first;
    calls = λ proc. h.calls proc ∙ left.calls proc;
  }

  -- of a parallel composition; the nodes at which its branches have ended are its tree's leaves
  pub record BranchesLeft (all rest : Calleds) (request from next : ℕ) (old now : Pieces) (ends : List ℕ) : Type 0 where
    pub made : now.drivers ++ called_branches_rules bs p d rest request next ≡ old.drivers ++ called_branches_rules bs p d all request from
    pub contacts : now.contacts ++ called_branch_sites bs p (every_contact p) rest next ≡ old.contacts ++ called_branch_sites bs p (every_contact p) all from
    pub first : with_raised now.first (called_branch_sites bs p (hidden_high p) rest next)
        ≡ with_raised old.first (called_branch_sites bs p (hidden_high p) all from)
    pub calls : (proc : ℕ) → requests_of proc now.calls ++ called_branch_requests bs p proc rest next
        ≡ requests_of proc old.calls ++ called_branch_requests bs p proc all from
    pub ended : ends ++ called_ends bs p rest next ≡ called_ends bs p all from
    pub size : next + called_branches_size bs p rest ≡ from + called_branches_size bs p all

  pub branches_begun : (all : Calleds) (request from : ℕ) (old : Pieces) (ends : List ℕ) → ends ≡ [] → BranchesLeft all all request from from old old ends
  branches_begun all request from old ends none = record {
    made = refl;
    contacts = refl;
    first = refl;
    calls = λ proc. refl;
    ended = ap (λ ns. ns ++ called_ends bs p all from) none;
    size = refl;
  }

  pub branch_more : (all : Calleds) (x : Called) (more : Calleds) (request from next after : ℕ) (old now new : Pieces) (ends longer : List ℕ)
      → after ≡ next + 3 + called_size bs p x → longer ≡ ends ++ (next + 2) ∷ [] → BranchesLeft all (and_called x more) request from next old now ends
      → IsElement x request next now new → BranchesLeft all more request from after old new longer
  branch_more all x more request from next after old now new ends longer at pushed left h =
      let q = q_rules request (called_answer bs p x (next + 3)) next in
      let rules = called_rules bs p d x next (next + 3) in
      let sites = called_sites bs p (every_contact p) x (next + 3) in
      let high = called_sites bs p (hidden_high p) x (next + 3) in
      record {
        made = sites_more now.drivers new.drivers (q ++ rules) (called_branches_rules bs p d more request after) _ _ h.made
            (ap (λ n. q ++ (rules ++ called_branches_rules bs p d more request n)) (sym at)) left.made;
        contacts = sites_more now.contacts new.contacts sites (called_branch_sites bs p (every_contact p) more after) _ _ h.contacts
            (ap (λ n. sites ++ called_branch_sites bs p (every_contact p) more n) (sym at)) left.contacts;
        first = raised_more now.first new.first _ high (called_branch_sites bs p (hidden_high p) more after) _ h.first
            (ap (λ n. high ++ called_branch_sites bs p (hidden_high p) more n) (sym at)) left.first;
        calls = λ proc. sites_more (requests_of proc now.calls) (requests_of proc new.calls) (called_requests bs p proc x next (next + 3))
            (called_branch_requests bs p proc more after) _ _ (h.calls proc)
            (ap (λ n. called_requests bs p proc x next (next + 3) ++ called_branch_requests bs p proc more n) (sym at)) (left.calls proc);
        ended = sites_more ends longer ((next + 2) ∷ []) (called_ends bs p more after) _ _ pushed
            (ap (λ n. (next + 2) ∷ called_ends bs p more n) (sym at)) left.ended;
        size = omega (arith, at, left.size);
      }

  -- no branch is left: the leaves are all there, and the tree stands behind the branches
  pub all_ended : (all : Calleds) (request from next : ℕ) (old now : Pieces) (ends : List ℕ) → BranchesLeft all no_calleds request from next old now ends
      → ends ≡ called_ends bs p all from
  all_ended all request from next old now ends left = sites_done ends _ _ refl left.ended

  pub branches_made : (all : Calleds) (request from next : ℕ) (old now : Pieces) (ends nodes : List ℕ) (new : List NodeRules)
      → BranchesLeft all no_calleds request from next old now ends → nodes ≡ ends → new ≡ now.drivers ++ tree_rules nodes next
      → new ≡ old.drivers ++ called_rules bs p d (abreast all) request from
  branches_made all request from next old now ends nodes new left same tree =
      let leaves = same ∙ all_ended all request from next old now ends left in
      let end : next ≡ from + called_branches_size bs p all = omega (arith, left.size) in
      two_on old.drivers now.drivers new (called_branches_rules bs p d all request from) _ (sites_done now.drivers _ _ refl left.made)
      (tree ∙ (ap (λ ns. now.drivers ++ tree_rules ns next) leaves ∙ ap (λ n. now.drivers ++ tree_rules (called_ends bs p all from) n) end))

  pub branches_done : (all : Calleds) (request from next answer : ℕ) (old now : Pieces) (ends nodes : List ℕ) (new : List NodeRules)
      → BranchesLeft all no_calleds request from next old now ends → nodes ≡ ends → new ≡ now.drivers ++ tree_rules nodes next
      → answer ≡ called_answer bs p (abreast all) from
      → HasAdded bs p d (abreast all) request from answer old (pieces new now.contacts now.first now.calls)
  branches_done all request from next answer old now ends nodes new left same tree is = record {
    made = branches_made all request from next old now ends nodes new left same tree;
    answered = is;
    contacts = sites_done now.contacts _ _ refl left.contacts;
    first = raised_done now.first _ _ refl left.first;
    calls = λ proc. sites_done (requests_of proc now.calls) _ _ refl (left.calls proc);
  }

  -- of a selection or a guarded repetition; some drivers once its joined answer is set
  abbrev pub with_ends : Bool → CalledChoices → (from place : ℕ) → List NodeRules → List NodeRules
  with_ends again choices from place rules =
      slice_set rules (place + (if again then 2 else 0))
      (joined_answer (from + (if again then 4 else 2)) (called_branch_answers bs p choices (called_bodies_from bs p choices (own_before again) from)))

  pub record ChoicesLeft (again : Bool) (all rest : CalledChoices) (request from start next : ℕ) (old now : Pieces) (ends : List ℕ) : Type 0 where
    pub made : with_ends again all from (length old.drivers) now.drivers ++ called_bodies_rules bs p d rest start next
        ≡ old.drivers ++ called_rules bs p d (chosen again all) request from
    pub contacts : now.contacts ++ called_body_sites bs p (every_contact p) rest next
        ≡ old.contacts ++ called_sites bs p (every_contact p) (chosen again all) from
    pub first : with_raised now.first (called_body_sites bs p (hidden_high p) rest next)
        ≡ with_raised old.first (called_sites bs p (hidden_high p) (chosen again all) from)
    pub calls : (proc : ℕ) → requests_of proc now.calls ++ called_body_requests bs p proc rest start next
        ≡ requests_of proc old.calls ++ called_requests bs p proc (chosen again all) request from
    pub ended : ends ++ called_branch_answers bs p rest next ≡ called_branch_answers bs p all (called_bodies_from bs p all (own_before again) from)
    pub size : next + called_bodies_size bs p rest ≡ from + called_size bs p (chosen again all)

  -- the answers of the branches with calls in place of others
  answered_anew : (now old tail : List NodeRules) (place : ℕ) (joined other : NodeRules) → place ≡ length old
      → slice_set now place joined ≡ old ++ joined ∷ tail → slice_set now place other ≡ old ++ other ∷ tail
  answered_anew now old tail place joined other at set =
      sym (set-set now place joined other) ∙ set_on old (slice_set now place joined) (joined ∷ tail) 0 place other (omega (arith, at)) set

  answered_third : (now old tail : List NodeRules) (place : ℕ) (a b joined other : NodeRules) → place ≡ length old + 2
      → slice_set now place joined ≡ old ++ a ∷ b ∷ joined ∷ tail → slice_set now place other ≡ old ++ a ∷ b ∷ other ∷ tail
  answered_third now old tail place a b joined other at set =
      sym (set-set now place joined other) ∙ set_on old (slice_set now place joined) (a ∷ b ∷ joined ∷ tail) 2 place other at set

  -- the own nodes and the guards are written
  select_begun : (c : Choices) (all : CalledChoices) → c ≡ inlined_choices bs all → (request from : ℕ) (old now : List NodeRules)
      → slice_set now (length old) (joined_answer (from + 2) (branch_answers p c (bodies_from c select_own from)))
      ≡ old ++ (select_rules (choosing_at p c request (from + 2) select_own from) ++ guards_rules p c (from + 1) (guards_from c select_own from))
      → slice_set now (length old) (joined_answer (from + 2) (called_branch_answers bs p all (called_bodies_from bs p all select_own from)))
      ≡ old ++ (select_rules (called_choosing bs p all request (from + 2) select_own from) ++ guards_rules p (inlined_choices bs all) (from + 1)
      (guards_from (inlined_choices bs all) select_own from))
  select_begun c all same request from old now set =
      answered_anew now old _ (length old) _ _ refl
      (subst (λ c. slice_set now (length old) (joined_answer (from + 2) (branch_answers p c (bodies_from c select_own from)))
      ≡ old ++ (select_rules (choosing_at p c request (from + 2) select_own from) ++ guards_rules p c (from + 1) (guards_from c select_own from))) same set)

  again_begun : (c : Choices) (all : CalledChoices) → c ≡ inlined_choices bs all → (request from : ℕ) (old now : List NodeRules)
      → slice_set now (length old + 2) (joined_answer (from + 4) (branch_answers p c (bodies_from c again_own from)))
      ≡ old ++ (again_rules (repeating_at p c request from) ++ guards_rules p c (from + 3) (guards_from c again_own from))
      → slice_set now (length old + 2) (joined_answer (from + 4) (called_branch_answers bs p all (called_bodies_from bs p all again_own from)))
      ≡ old ++ (again_rules (called_repeating bs p all request from) ++ guards_rules p (inlined_choices bs all) (from + 3)
      (guards_from (inlined_choices bs all) again_own from))
  again_begun c all same request from old now set =
      answered_third now old _ (length old + 2) _ _ _ _ refl
      (subst (λ c. slice_set now (length old + 2) (joined_answer (from + 4) (branch_answers p c (bodies_from c again_own from)))
      ≡ old ++ (again_rules (repeating_at p c request from) ++ guards_rules p c (from + 3) (guards_from c again_own from))) same set)

  -- the branches are left
  branches_behind : (old own guards rest front : List NodeRules) → front ≡ old ++ (own ++ guards) → front ++ rest ≡ old ++ (own ++ (guards ++ rest))
  branches_behind old own guards rest front is =
      ap (λ l. l ++ rest) is ∙ (append_assoc old (own ++ guards) rest ∙ ap (λ l. old ++ l) (append_assoc own guards rest))

  pub choices_begun : (again : Bool) (c : Choices) (all : CalledChoices) → c ≡ inlined_choices bs all → (request from start next : ℕ) (old : Pieces)
      (now : List NodeRules) (ends : List ℕ) → ends ≡ [] → start ≡ from + own_before again + choice_count c → next ≡ bodies_from c (own_before again) from
      → (again ≡ false → slice_set now (length old.drivers) (joined_answer (from + 2) (branch_answers p c (bodies_from c select_own from)))
      ≡ old.drivers ++ (select_rules (choosing_at p c request (from + 2) select_own from) ++ guards_rules p c (from + 1) (guards_from c select_own from)))
      → (again ≡ true → slice_set now (length old.drivers + 2) (joined_answer (from + 4) (branch_answers p c (bodies_from c again_own from)))
      ≡ old.drivers ++ (again_rules (repeating_at p c request from) ++ guards_rules p c (from + 3) (guards_from c again_own from)))
      → ChoicesLeft again all all request from start next old (pieces now old.contacts old.first old.calls) ends
  choices_begun false c all same request from start next old now ends none starts at once repeated =
      let first : start ≡ called_starts_from bs p all select_own from = starts ∙ ap (λ c. from + select_own + choice_count c) same in
      let place : next ≡ called_bodies_from bs p all select_own from = at ∙ ap (λ c. bodies_from c select_own from) same in
      let front = length old.drivers in
      let joined = joined_answer (from + 2) (called_branch_answers bs p all (called_bodies_from bs p all select_own from)) in
      let left = branches_behind old.drivers (select_rules (called_choosing bs p all request (from + 2) select_own from))
      (guards_rules p (inlined_choices bs all) (from + 1) (guards_from (inlined_choices bs all) select_own from))
      (called_bodies_rules bs p d all (called_starts_from bs p all select_own from) (called_bodies_from bs p all select_own from))
      (slice_set now front joined) (select_begun c all same request from old.drivers now (once refl)) in
      let none_before : front + 0 ≡ front = omega arith in
      record {
        made = ap (λ k. slice_set now k joined ++ called_bodies_rules bs p d all start next) none_before
            ∙ (ap (λ n. slice_set now front joined ++ called_bodies_rules bs p d all n next) first
            ∙ (ap (λ n. slice_set now front joined ++ called_bodies_rules bs p d all (called_starts_from bs p all select_own from) n) place ∙ left));
        contacts = ap (λ n. old.contacts ++ called_body_sites bs p (every_contact p) all n) place;
        first = ap (λ n. with_raised old.first (called_body_sites bs p (hidden_high p) all n)) place;
        calls = λ proc. ap (λ n. requests_of proc old.calls ++ called_body_requests bs p proc all n next) first
            ∙ ap (λ n. requests_of proc old.calls ++ called_body_requests bs p proc all (called_starts_from bs p all select_own from) n) place;
        ended = ap (λ ns. ns ++ called_branch_answers bs p all next) none ∙ ap (called_branch_answers bs p all) place;
        size = omega (arith, place);
      }
  choices_begun true c all same request from start next old now ends none starts at once repeated =
      let first : start ≡ called_starts_from bs p all again_own from = starts ∙ ap (λ c. from + again_own + choice_count c) same in
      let place : next ≡ called_bodies_from bs p all again_own from = at ∙ ap (λ c. bodies_from c again_own from) same in
      let joined = joined_answer (from + 4) (called_branch_answers bs p all (called_bodies_from bs p all again_own from)) in
      let set = slice_set now (length old.drivers + 2) joined in
      let left = branches_behind old.drivers (again_rules (called_repeating bs p all request from))
      (guards_rules p (inlined_choices bs all) (from + 3) (guards_from (inlined_choices bs all) again_own from))
      (called_bodies_rules bs p d all (called_starts_from bs p all again_own from) (called_bodies_from bs p all again_own from))
      set (again_begun c all same request from old.drivers now (repeated refl)) in
      record {
        made = ap (λ n. set ++ called_bodies_rules bs p d all n next) first
            ∙ (ap (λ n. set ++ called_bodies_rules bs p d all (called_starts_from bs p all again_own from) n) place ∙ left);
        contacts = ap (λ n. old.contacts ++ called_body_sites bs p (every_contact p) all n) place;
        first = ap (λ n. with_raised old.first (called_body_sites bs p (hidden_high p) all n)) place;
        calls = λ proc. ap (λ n. requests_of proc old.calls ++ called_body_requests bs p proc all n next) first
            ∙ ap (λ n. requests_of proc old.calls ++ called_body_requests bs p proc all (called_starts_from bs p all again_own from) n) place;
        ended = ap (λ ns. ns ++ called_branch_answers bs p all next) none ∙ ap (called_branch_answers bs p all) place;
        size = omega (arith, place);
      }

  pub choice_more : (again : Bool) (all : CalledChoices) (g : Formula) (x : Called) (more : CalledChoices) (request from start next after answer : ℕ)
      (old now new : Pieces) (ends longer : List ℕ) → length old.drivers + 2 < length now.drivers → after ≡ next + called_size bs p x
      → longer ≡ ends ++ answer ∷ [] → ChoicesLeft again all (or_called g x more) request from start next old now ends
      → HasAdded bs p d x start next answer now new
      → ChoicesLeft again all more request from (start + 1) after old new longer
  choice_more again all g x more request from start next after answer old now new ends longer within at pushed left h =
      let place = length old.drivers in
      let rules = called_rules bs p d x start next in
      let sites = called_sites bs p (every_contact p) x next in
      let high = called_sites bs p (hidden_high p) x next in
      let longer_set : with_ends again all from place new.drivers ≡ with_ends again all from place now.drivers ++ rules =
      ap (with_ends again all from place) h.made ∙ set-append_left now.drivers rules _ _ (omega (arith, within, joined_within again)) in
      record {
        made = sites_more (with_ends again all from place now.drivers) (with_ends again all from place new.drivers) rules
            (called_bodies_rules bs p d more (start + 1) after) _ _ longer_set
            (ap (λ n. rules ++ called_bodies_rules bs p d more (start + 1) n) (sym at)) left.made;
        contacts = sites_more now.contacts new.contacts sites (called_body_sites bs p (every_contact p) more after) _ _ h.contacts
            (ap (λ n. sites ++ called_body_sites bs p (every_contact p) more n) (sym at)) left.contacts;
        first = raised_more now.first new.first _ high (called_body_sites bs p (hidden_high p) more after) _ h.first
            (ap (λ n. high ++ called_body_sites bs p (hidden_high p) more n) (sym at)) left.first;
        calls = λ proc. sites_more (requests_of proc now.calls) (requests_of proc new.calls) (called_requests bs p proc x start next)
            (called_body_requests bs p proc more (start + 1) after) _ _ (h.calls proc)
            (ap (λ n. called_requests bs p proc x start next ++ called_body_requests bs p proc more (start + 1) n) (sym at)) (left.calls proc);
        ended = sites_more ends longer (called_answer bs p x next ∷ []) (called_branch_answers bs p more after) _ _
            (pushed ∙ ap (λ n. ends ++ n ∷ []) h.answered) (ap (λ n. called_answer bs p x next ∷ called_branch_answers bs p more n) (sym at)) left.ended;
        size = omega (arith, at, left.size);
      }

  pub choices_done : (again : Bool) (all : CalledChoices) (request from start next : ℕ) (old now : Pieces) (ends : List ℕ) (new : List NodeRules)
      → ChoicesLeft again all no_called request from start next old now ends
      → new ≡ slice_set now.drivers (length old.drivers + (if again then 2 else 0)) (joined_answer (from + (if again then 4 else 2)) ends)
      → HasAdded bs p d (chosen again all) request from from old (pieces new now.contacts now.first now.calls)
  choices_done again all request from start next old now ends new left set = record {
    made = set
        ∙ (ap (λ ns. slice_set now.drivers (length old.drivers + (if again then 2 else 0)) (joined_answer (from + (if again then 4 else 2)) ns))
        (sites_done ends _ _ refl left.ended)
        ∙ sites_done (with_ends again all from (length old.drivers) now.drivers) _ _ refl left.made);
    answered = refl;
    contacts = sites_done now.contacts _ _ refl left.contacts;
    first = raised_done now.first _ _ refl left.first;
    calls = λ proc. sites_done (requests_of proc now.calls) _ _ refl (left.calls proc);
  }

  -- of a loop
  pub loop_done : (x : Called) (request from answer place : ℕ) (old new : Pieces) (begun done : List NodeRules) → place ≡ length old.drivers
      → begun ≡ old.drivers ++ no_rules ∷ no_rules ∷ []
      → HasAdded bs p d x (from + 1) (from + 2) answer (pieces begun old.contacts old.first old.calls) new
      → done ≡ slice_set new.drivers (place + 1) (loop_request request answer)
      → HasAdded bs p d (looped x) request from from old (pieces done new.contacts new.first new.calls)
  loop_done x request from answer place old new begun done at own added set = record {
    made = loop_answered old.drivers begun new.drivers done (called_rules bs p d x (from + 1) (from + 2)) place request answer at own added.made set
        ∙ ap (λ a. old.drivers ++ no_rules ∷ loop_request request a ∷ called_rules bs p d x (from + 1) (from + 2)) added.answered;
    answered = refl;
    contacts = added.contacts;
    first = added.first;
    calls = added.calls;
  }
