-- The drivers of statements, one behind the other.
use Rattle.std.proofs.Common.{◌≡◌, ◌∙◌, ℕ, suc, ◌+◌, ◌-◌, ◌*◌, ◌<◌, ◌≤◌, Bool, true, false, List, [], ◌∷◌, ◌++◌, length, get_or, take, map, refl, sym, ap, arith, append_assoc}
use Rattle.std.specs.Prelude.{slice_set, if◌then◌else◌}
use Rattle.std.proofs.lemmas.List.{map_more, length-append, length-set, set-append_left, set-append_right}
use Rattle.prs_core.specs.Nets.{NodeRules}
use Rattle.prs_core.specs.Pairs.{no_rules}
use Rattle.width_check.specs.Processes.{choosing, Choices, choice_count, TypedProgram}
use Rattle.handshake_expand.specs.Layout.{size_of, guards_size, bodies_size}
use Rattle.handshake_expand.specs.Answers.{guards_from, bodies_from, select_own, again_own}
use Rattle.handshake_expand.specs.PartTree.{own_before}
use Rattle.handshake_expand.proofs.Branches.{choosing_size, sites_more}
use Rattle.cell_sequence.specs.Sequence.{q_child, q_latch, q_next, loop_request}
use Rattle.cell_select.specs.Selections.{joined_answer, select_rules, again_rules}
use Rattle.net_compose.specs.Translation.{branch_answers, rules_of, bodies_rules, guards_rules, choosing_at, repeating_at}

-- one item more has its image
pub mapped_more : {X Y : Type 0} (f : X → Y) (xs : List X) (i : ℕ) (x : X) (y : Y) (old new : List Y) → i < length xs → x ≡ get_or xs i x → y ≡ f x
    → old ≡ map f (take i xs) → new ≡ old ++ y ∷ [] → new ≡ map f (take (i + 1) xs)
mapped_more f xs i x y old new within at is so_far more = more ∙ (ap (λ z. old ++ z ∷ []) (is ∙ ap f at)
    ∙ (ap (λ l. l ++ f (get_or xs i x) ∷ []) so_far ∙ sym (map_more f xs i x within)))

pub two_on : (now mid new xs ys : List NodeRules) → mid ≡ now ++ xs → new ≡ mid ++ ys → new ≡ now ++ (xs ++ ys)
two_on now mid new xs ys first after = after ∙ (ap (λ l. l ++ ys) first ∙ append_assoc now xs ys)

-- An item is set among those that stand behind others.
pub set_on : (old new xs : List NodeRules) (k place : ℕ) (r : NodeRules) → place ≡ length old + k → new ≡ old ++ xs → slice_set new place r
    ≡ old ++ slice_set xs k r
set_on old new xs k place r at is =
    let over : place - length old ≡ k = omega (arith, at) in
    ap (λ l. slice_set l place r) is ∙ (set-append_right old xs (length old) place r refl (omega (arith, at)) ∙ ap (λ n. old ++ slice_set xs n r) over)

-- two pieces are written of what is left
pub element_then : (now mid new whole xs ys rest before : List NodeRules) → mid ≡ now ++ xs → new ≡ mid ++ ys → before ≡ xs ++ (ys ++ rest)
    → now ++ before ≡ whole → new ++ rest ≡ whole
element_then now mid new whole xs ys rest before first after step so_far =
    sites_more mid new ys rest (ys ++ rest) whole after refl (sites_more now mid xs (ys ++ rest) before whole first step so_far)

-- A Q-element stands before a child, and its latch and its next request are set once the child's answer is known.
module _ (old begun written done child : List NodeRules) (place request latch answer : ℕ) (at : place ≡ length old)
    (own : begun ≡ old ++ q_child request latch ∷ no_rules ∷ no_rules ∷ []) (behind : written ≡ begun ++ child)
    (set : done ≡ slice_set (slice_set written (place + 1) (q_latch request answer)) (place + 2) (q_next latch answer)) where
  pub element_answered : done ≡ old ++ q_child request latch ∷ q_latch request answer ∷ q_next latch answer ∷ child
  element_answered =
      let both : written ≡ old ++ q_child request latch ∷ no_rules ∷ no_rules ∷ child =
      two_on old begun written (q_child request latch ∷ no_rules ∷ no_rules ∷ []) child own behind in
      let latched : slice_set written (place + 1) (q_latch request answer) ≡ old ++ q_child request latch ∷ q_latch request answer ∷ no_rules ∷ child =
      set_on old written (q_child request latch ∷ no_rules ∷ no_rules ∷ child) 1 (place + 1) (q_latch request answer) (omega (arith, at)) both in
      set ∙ set_on old (slice_set written (place + 1) (q_latch request answer)) (q_child request latch ∷ q_latch request answer ∷ no_rules ∷ child) 2
      (place + 2) (q_next latch answer) (omega (arith, at)) latched

  pub element_counted : length done ≡ length old + 3 + length child
  element_counted =
      let all : length (old ++ q_child request latch ∷ q_latch request answer ∷ q_next latch answer ∷ child) ≡ length old + suc (suc (suc (length child))) =
      length-append old (q_child request latch ∷ q_latch request answer ∷ q_next latch answer ∷ child) in
      omega (arith, ap length element_answered, all)

-- there is room for the two
pub element_within : (old begun written child own : List NodeRules) (place : ℕ) → place ≡ length old → begun ≡ old ++ own → length own ≡ 3
    → written ≡ begun ++ child → place + 2 < length written
element_within old begun written child own place at is three behind = omega
    (arith, at, ap length is, length-append old own, three, ap length behind, length-append begun child)

-- a loop's own nodes stand before its body, and the body's request is set once the body's answer is known
pub loop_answered : (old begun written done body : List NodeRules) (place request answer : ℕ) → place ≡ length old
    → begun ≡ old ++ no_rules ∷ no_rules ∷ [] → written ≡ begun ++ body → done ≡ slice_set written (place + 1) (loop_request request answer)
    → done ≡ old ++ no_rules ∷ loop_request request answer ∷ body
loop_answered old begun written done body place request answer at own behind set =
    let both : written ≡ old ++ no_rules ∷ no_rules ∷ body = two_on old begun written (no_rules ∷ no_rules ∷ []) body own behind in
    set ∙ set_on old written (no_rules ∷ no_rules ∷ body) 1 (place + 1) (loop_request request answer) (omega (arith, at)) both

-- what some drivers are once the joined answer of a selection is set, whose own drivers begin at a place
abbrev pub with_joined : TypedProgram → Bool → Choices → (from place : ℕ) → List NodeRules → List NodeRules
with_joined p again cs from place rules =
    slice_set rules (place + (if again then 2 else 0))
    (joined_answer (from + (if again then 4 else 2)) (branch_answers p cs (bodies_from cs (own_before again) from)))

pub own_some : (again : Bool) → 3 ≤ own_before again
own_some true = omega arith
own_some false = omega arith

pub joined_within : (again : Bool) → (if again then 2 else 0) ≤ 2
joined_within true = omega arith
joined_within false = omega arith

pub joined_more : (p : TypedProgram) (again : Bool) (cs : Choices) (from place : ℕ) (now new body : List NodeRules) → place + 2 < length now → new ≡ now ++ body
    → with_joined p again cs from place new ≡ with_joined p again cs from place now ++ body
joined_more p again cs from place now new body within is =
    ap (with_joined p again cs from place) is ∙ set-append_left now body _ _ (omega (arith, within, joined_within again))

-- the branches of a selection are left, whose own nodes and guards are written
pub choice_left : (p : TypedProgram) (again : Bool) (cs : Choices) (request from start next : ℕ) (old now : List NodeRules)
    → start ≡ from + own_before again + choice_count cs → next ≡ bodies_from cs (own_before again) from
    → (again ≡ false → slice_set now (length old) (joined_answer (from + 2) (branch_answers p cs (bodies_from cs select_own from)))
    ≡ old ++ (select_rules (choosing_at p cs request (from + 2) select_own from) ++ guards_rules p cs (from + 1) (guards_from cs select_own from)))
    → (again ≡ true → slice_set now (length old + 2) (joined_answer (from + 4) (branch_answers p cs (bodies_from cs again_own from)))
    ≡ old ++ (again_rules (repeating_at p cs request from) ++ guards_rules p cs (from + 3) (guards_from cs again_own from)))
    → with_joined p again cs from (length old) now ++ bodies_rules p cs start next ≡ old ++ rules_of p (choosing again cs) request from
choice_left p false cs request from start next old now starts at once repeated =
    let own = select_rules (choosing_at p cs request (from + 2) select_own from) in
    let guards = guards_rules p cs (from + 1) (guards_from cs select_own from) in
    let rest = bodies_rules p cs (from + select_own + choice_count cs) (bodies_from cs select_own from) in
    let joined = joined_answer (from + 2) (branch_answers p cs (bodies_from cs select_own from)) in
    let same : length old + 0 ≡ length old = omega arith in
    ap (λ k. slice_set now k joined ++ bodies_rules p cs start next) same
    ∙ (ap (λ n. slice_set now (length old) joined ++ bodies_rules p cs n next) starts
    ∙ (ap (λ n. slice_set now (length old) joined ++ bodies_rules p cs (from + select_own + choice_count cs) n) at
    ∙ (ap (λ l. l ++ rest) (once refl)
    ∙ (append_assoc old (own ++ guards) rest ∙ ap (λ l. old ++ l) (append_assoc own guards rest)))))
choice_left p true cs request from start next old now starts at once repeated =
    let own = again_rules (repeating_at p cs request from) in
    let guards = guards_rules p cs (from + 3) (guards_from cs again_own from) in
    let rest = bodies_rules p cs (from + again_own + choice_count cs) (bodies_from cs again_own from) in
    let set = slice_set now (length old + 2) (joined_answer (from + 4) (branch_answers p cs (bodies_from cs again_own from))) in
    ap (λ n. set ++ bodies_rules p cs n next) starts
    ∙ (ap (λ n. set ++ bodies_rules p cs (from + again_own + choice_count cs) n) at
    ∙ (ap (λ l. l ++ rest) (repeated refl)
    ∙ (append_assoc old (own ++ guards) rest ∙ ap (λ l. old ++ l) (append_assoc own guards rest))))

-- so many own nodes and guards are written
pub choice_counted : (p : TypedProgram) (again : Bool) (cs : Choices) (request from : ℕ) (old now : List NodeRules)
    → (again ≡ false → slice_set now (length old) (joined_answer (from + 2) (branch_answers p cs (bodies_from cs select_own from)))
    ≡ old ++ (select_rules (choosing_at p cs request (from + 2) select_own from) ++ guards_rules p cs (from + 1) (guards_from cs select_own from)))
    → (again ≡ true → slice_set now (length old + 2) (joined_answer (from + 4) (branch_answers p cs (bodies_from cs again_own from)))
    ≡ old ++ (again_rules (repeating_at p cs request from) ++ guards_rules p cs (from + 3) (guards_from cs again_own from)))
    → length (rules_of p (choosing again cs) request from) ≡ size_of p (choosing again cs)
    → length (bodies_rules p cs (from + own_before again + choice_count cs) (bodies_from cs (own_before again) from)) ≡ bodies_size p cs
    → length now ≡ length old + own_before again + 2 * choice_count cs + guards_size cs
choice_counted p again cs request from old now once repeated whole bodies =
    let start = from + own_before again + choice_count cs in
    let next = bodies_from cs (own_before again) from in
    let left = choice_left p again cs request from start next old now refl refl once repeated in
    let set : length (with_joined p again cs from (length old) now) ≡ length now = length-set now _ _ in
    let sum = length-append (with_joined p again cs from (length old) now) (bodies_rules p cs start next) in
    let all = length-append old (rules_of p (choosing again cs) request from) in
    omega (arith, ap length left, set, sum, all, whole, bodies, choosing_size p again cs)
