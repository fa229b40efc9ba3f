-- The nodes of a statement that stand in both nets, in the net with shared bodies and in that with copies, one by one.
--
-- P: the program with copies; ps: the bodies of the procedures; d: the answer of each body in the net with shared bodies;
-- x, y: statements with calls; r, s: a statement's request in the net with shared bodies and in that with copies; from, to:
-- its first node in either net; v, u: values of the nodes of the one and of the other.
use Rattle.std.proofs.Common.{◌≡◌, ℕ, zero, suc, ◌+◌, ◌-◌, ◌<◌, Bool, true, false, List, [], ◌∷◌, ◌++◌, length, ap, ◌∙◌, arith}
use Rattle.std.specs.Prelude.{if◌then◌else◌, nat_lt, slice_index_or}
use Rattle.prs_core.specs.Nets.{NodeRules}
use Rattle.prs_core.specs.Pairs.{no_rules}
use Rattle.prs_core.specs.Moves.{guard_holds}
use Rattle.width_check.specs.Processes.{Process, skipping, choice_count, TypedProgram}
use Rattle.handshake_expand.specs.Layout.{size_of}
use Rattle.handshake_expand.specs.Answers.{answer_of, guards_from, bodies_from, select_own, again_own}
use Rattle.cell_sequence.specs.Sequence.{q_child, q_latch, q_next, loop_request}
use Rattle.cell_parallel.specs.Trees.{tree_rules}
use Rattle.cell_select.specs.Selections.{select_rules, again_rules}
use Rattle.net_compose.specs.Translation.{rules_of, guards_rules, choosing_at, repeating_at, branch_ends, branches_end}
use Rattle.net_compose.proofs.HalvedNodes.{Numbered}
use Rattle.net_compose.proofs.FlatTrees.{RulesAlike}
use Rattle.call_map.specs.Calling.{Called, calling, atom, turned, abreast, chosen, looped, Calleds, no_calleds, and_called, CalledChoices, no_called, or_called, inlined, inlined_each, inlined_choices, called_size, called_branches_size, called_answer, called_choosing, called_repeating, called_ends}

-- something of each member of a list
abbrev pub Each : {A : Type 0} → (A → Type 0) → List A → Type 0
Each P [] = Unit {0}
Each P (x ∷ xs) = P x × Each P xs

pub each_left : {A : Type 0} (P : A → Type 0) (xs ys : List A) → Each P (xs ++ ys) → Each P xs
each_left P [] ys h = tt
each_left P (x ∷ xs) ys h = (h.0, each_left P xs ys h.1)

pub each_right : {A : Type 0} (P : A → Type 0) (xs ys : List A) → Each P (xs ++ ys) → Each P ys
each_right P [] ys h = h
each_right P (x ∷ xs) ys h = each_right P xs ys h.1

pub each_append : {A : Type 0} (P : A → Type 0) (xs ys : List A) → Each P xs → Each P ys → Each P (xs ++ ys)
each_append P [] ys h k = k
each_append P (x ∷ xs) ys h k = (h.0, each_append P xs ys h.1 k)

-- a node of both nets: whether it is the request of a call, and its number and its rules in each
pub record Item : Type 0 where
  pub asked : Bool
  pub here : Numbered
  pub there : Numbered

abbrev pub item : Bool → (from to : ℕ) → (r s : NodeRules) → Item
item asked from to r s = record { asked = asked; here = record { node = from; rules = r }; there = record { node = to; rules = s } }

abbrev pub paired : (ℕ → Bool) → (i from to : ℕ) → (rs ss : List NodeRules) → List Item
paired tag i from to [] ss = []
paired tag i from to (r ∷ rs) [] = []
paired tag i from to (r ∷ rs) (s ∷ ss) = item (tag i) from to r s ∷ paired tag (suc i) (suc from) (suc to) rs ss

abbrev pub Same : (v u : ℕ → Bool) → Item → Type 0
Same v u i = i.asked ≡ false → v i.here.node ≡ u i.there.node

abbrev pub SaysSame : (v u : ℕ → Bool) → Item → Type 0
SaysSame v u i = (guard_holds v i.here.rules.up ≡ guard_holds u i.there.rules.up) × (guard_holds v i.here.rules.down ≡ guard_holds u i.there.rules.down)

pub paired_same : (v u : ℕ → Bool) (tag : ℕ → Bool) (i from to : ℕ) (rs ss : List NodeRules) → length rs ≡ length ss
    → Each (Same v u) (paired tag i from to rs ss)
    → (k : ℕ) → k < length rs → tag (i + k) ≡ false → v (from + k) ≡ u (to + k)
paired_same v u tag i from to [] ss e h k l off = absurd (omega (arith, l))
paired_same v u tag i from to (r ∷ rs) [] e h k l off = absurd (omega (arith, e))
paired_same v u tag i from to (r ∷ rs) (s ∷ ss) e h zero l off =
    ap v (let z : from + 0 ≡ from = omega arith in z)
    ∙ (h.0 (ap tag (let z : i ≡ i + 0 = omega arith in z) ∙ off) ∙ ap u (let z : to ≡ to + 0 = omega arith in z))
paired_same v u tag i from to (r ∷ rs) (s ∷ ss) e h (suc k) l off =
    ap v (let z : from + suc k ≡ suc from + k = omega arith in z)
    ∙ (paired_same v u tag (suc i) (suc from) (suc to) rs ss (omega (arith, e)) h.1 k (omega (arith, l))
    (ap tag (let z : suc i + k ≡ i + suc k = omega arith in z) ∙ off)
    ∙ ap u (let z : suc to + k ≡ to + suc k = omega arith in z))

pub paired_says : (v u : ℕ → Bool) (tag : ℕ → Bool) (i from to : ℕ) (rs ss : List NodeRules) → RulesAlike v u rs ss
    → Each (SaysSame v u) (paired tag i from to rs ss)
paired_says v u tag i from to [] ss h = tt
paired_says v u tag i from to (r ∷ rs) [] h = tt
paired_says v u tag i from to (r ∷ rs) (s ∷ ss) h = ((h.0, h.1), paired_says v u tag (suc i) (suc from) (suc to) rs ss h.2)

abbrev pub untagged : ℕ → Bool
untagged i = false

-- where a call stands in both nets
pub record CallPoint : Type 0 where
  pub proc : ℕ
  pub request : ℕ
  pub request_there : ℕ
  pub answer : ℕ
  pub copy : ℕ

abbrev pub is_calling : Called → Bool
is_calling (calling q) = true
is_calling (atom s) = false
is_calling (turned members) = false
is_calling (abreast members) = false
is_calling (chosen again choices) = false
is_calling (looped s) = false

-- what stands last in a sequence is a call, and nothing before it
abbrev pub one_calling : Calleds → Bool
one_calling no_calleds = false
one_calling (and_called s no_calleds) = is_calling s
one_calling (and_called s (and_called t more)) = false

-- the branch of this place is a call
abbrev pub branch_calling : CalledChoices → ℕ → Bool
branch_calling no_called i = false
branch_calling (or_called g s more) zero = is_calling s
branch_calling (or_called g s more) (suc i) = branch_calling more i

-- whether this node of a selection is the start of a branch that is a call: the starts come after its own nodes and the latches
abbrev pub front_tag : CalledChoices → (before : ℕ) → ℕ → Bool
front_tag choices before i = if nat_lt i before then false else branch_calling choices (i - before)

module _ (P : TypedProgram) (ps : List Process) (d : ℕ → ℕ) where
  abbrev pub there_size : Called → ℕ
  there_size s = size_of P (inlined ps s)

  abbrev pub there_answer : Called → ℕ → ℕ
  there_answer s to = answer_of P (inlined ps s) to

  abbrev pub element_items : (a b : Bool) → (r answer from s other to : ℕ) → List Item
  element_items a b r answer from s other to =
      item a from to (q_child r (from + 1)) (q_child s (to + 1)) ∷ item false (from + 1) (to + 1) (q_latch r answer) (q_latch s other)
      ∷ item b (from + 2) (to + 2) (q_next (from + 1) answer) (q_next (to + 1) other) ∷ []

  abbrev pub select_here : CalledChoices → (r from : ℕ) → List NodeRules
  select_here choices r from = select_rules (called_choosing ps P choices r (from + 2) select_own from)
      ++ guards_rules P (inlined_choices ps choices) (from + 1) (guards_from (inlined_choices ps choices) select_own from)

  abbrev pub select_there : CalledChoices → (s to : ℕ) → List NodeRules
  select_there choices s to = select_rules (choosing_at P (inlined_choices ps choices) s (to + 2) select_own to)
      ++ guards_rules P (inlined_choices ps choices) (to + 1) (guards_from (inlined_choices ps choices) select_own to)

  abbrev pub again_here : CalledChoices → (r from : ℕ) → List NodeRules
  again_here choices r from = again_rules (called_repeating ps P choices r from)
      ++ guards_rules P (inlined_choices ps choices) (from + 3) (guards_from (inlined_choices ps choices) again_own from)

  abbrev pub again_there : CalledChoices → (s to : ℕ) → List NodeRules
  again_there choices s to = again_rules (repeating_at P (inlined_choices ps choices) s to)
      ++ guards_rules P (inlined_choices ps choices) (to + 3) (guards_from (inlined_choices ps choices) again_own to)

  -- the nodes that belong to no copy and are no answer of a call
  abbrev mutual
    pub items : Called → (r from s to : ℕ) → List Item
    items (calling q) r from s to = []
    items (atom p) r from s to = paired untagged 0 from to (rules_of P p r from) (rules_of P p s to)
    items (turned members) r from s to = turn_items members r from s to
    items (abreast members) r from s to =
        branch_items members r from s to
        ++ paired untagged 0 (from + called_branches_size ps P members) (branches_end P (inlined_each ps members) to)
        (tree_rules (called_ends ps P members from) (from + called_branches_size ps P members))
        (tree_rules (branch_ends P (inlined_each ps members) to) (branches_end P (inlined_each ps members) to))
    items (chosen false choices) r from s to =
        paired (front_tag choices (select_own + choice_count (inlined_choices ps choices))) 0 from to (select_here choices r from) (select_there choices s to)
        ++ body_items choices (from + select_own + choice_count (inlined_choices ps choices)) (bodies_from (inlined_choices ps choices) select_own from)
        (to + select_own + choice_count (inlined_choices ps choices)) (bodies_from (inlined_choices ps choices) select_own to)
    items (chosen true choices) r from s to =
        paired (front_tag choices (again_own + choice_count (inlined_choices ps choices))) 0 from to (again_here choices r from) (again_there choices s to)
        ++ body_items choices (from + again_own + choice_count (inlined_choices ps choices)) (bodies_from (inlined_choices ps choices) again_own from)
        (to + again_own + choice_count (inlined_choices ps choices)) (bodies_from (inlined_choices ps choices) again_own to)
    items (looped x) r from s to =
        item false from to no_rules no_rules
        ∷ item (is_calling x) (from + 1) (to + 1) (loop_request r (called_answer ps P x (from + 2))) (loop_request s (there_answer x (to + 2)))
        ∷ items x (from + 1) (from + 2) (to + 1) (to + 2)

    pub turn_items : Calleds → (r from s to : ℕ) → List Item
    turn_items no_calleds r from s to = []
    turn_items (and_called x no_calleds) r from s to = items x r from s to
    turn_items (and_called x (and_called y more)) r from s to =
        element_items (is_calling x) (one_calling (and_called y more)) r (called_answer ps P x (from + 3)) from s (there_answer x (to + 3)) to
        ++ (items x from (from + 3) to (to + 3)
        ++ turn_items (and_called y more) (from + 2) (from + 3 + called_size ps P x) (to + 2) (to + 3 + there_size x))

    pub branch_items : Calleds → (r from s to : ℕ) → List Item
    branch_items no_calleds r from s to = []
    branch_items (and_called x more) r from s to =
        element_items (is_calling x) false r (called_answer ps P x (from + 3)) from s (there_answer x (to + 3)) to
        ++ (items x from (from + 3) to (to + 3) ++ branch_items more r (from + 3 + called_size ps P x) s (to + 3 + there_size x))

    pub body_items : CalledChoices → (start from s to : ℕ) → List Item
    body_items no_called start from s to = []
    body_items (or_called g x more) start from s to =
        items x start from s to ++ body_items more (start + 1) (from + called_size ps P x) (s + 1) (to + there_size x)

  -- the calls
  abbrev mutual
    pub calls : Called → (r from s to : ℕ) → List CallPoint
    calls (calling q) r from s to = record { proc = q; request = r; request_there = s; answer = from; copy = to } ∷ []
    calls (atom p) r from s to = []
    calls (turned members) r from s to = turn_calls members r from s to
    calls (abreast members) r from s to = branch_calls members r from s to
    calls (chosen false choices) r from s to =
        body_calls choices (from + select_own + choice_count (inlined_choices ps choices)) (bodies_from (inlined_choices ps choices) select_own from)
        (to + select_own + choice_count (inlined_choices ps choices)) (bodies_from (inlined_choices ps choices) select_own to)
    calls (chosen true choices) r from s to =
        body_calls choices (from + again_own + choice_count (inlined_choices ps choices)) (bodies_from (inlined_choices ps choices) again_own from)
        (to + again_own + choice_count (inlined_choices ps choices)) (bodies_from (inlined_choices ps choices) again_own to)
    calls (looped x) r from s to = calls x (from + 1) (from + 2) (to + 1) (to + 2)

    pub turn_calls : Calleds → (r from s to : ℕ) → List CallPoint
    turn_calls no_calleds r from s to = []
    turn_calls (and_called x no_calleds) r from s to = calls x r from s to
    turn_calls (and_called x (and_called y more)) r from s to =
        calls x from (from + 3) to (to + 3) ++ turn_calls (and_called y more) (from + 2) (from + 3 + called_size ps P x) (to + 2) (to + 3 + there_size x)

    pub branch_calls : Calleds → (r from s to : ℕ) → List CallPoint
    branch_calls no_calleds r from s to = []
    branch_calls (and_called x more) r from s to =
        calls x from (from + 3) to (to + 3) ++ branch_calls more r (from + 3 + called_size ps P x) s (to + 3 + there_size x)

    pub body_calls : CalledChoices → (start from s to : ℕ) → List CallPoint
    body_calls no_called start from s to = []
    body_calls (or_called g x more) start from s to =
        calls x start from s to ++ body_calls more (start + 1) (from + called_size ps P x) (s + 1) (to + there_size x)

  -- the answer of a call has the value that the answer of its copy has
  abbrev pub CallSame : (v u : ℕ → Bool) → CallPoint → Type 0
  CallSame v u c = v c.answer ≡ u (answer_of P (slice_index_or ps c.proc skipping) c.copy)
