-- Templates with one mistake each, and for each a run of moves after which it breaks a promise. The numbers of the nodes are
-- those of the examples.
use Rattle.std.proofs.Common.{ℕ, Bool, false, List, [], ◌∷◌, ◌++◌, map, refl}
use Rattle.std.specs.Prelude.{if◌then◌else◌, ◌==◌}
use Rattle.prs_core.specs.Nets.{NodeRules, is_high, is_low, one_term}
use Rattle.prs_core.specs.Pairs.{no_rules, rails_of, lows, or_of}
use Rattle.prs_core.specs.Parts.{Owned, owned, owned_at, Part, Keeps, at_first}
use Rattle.prs_core.specs.Breaking.{broken}
use Rattle.cell_select.specs.Selections.{joined_answer, evaluation, latches, starts}
use Rattle.cell_select.specs.Contract.{Branch, SelectNodes, select_owned, select_part, select_inner, AgainNodes, again_owned, again_part, guards_of}

abbrev all_low_first : ℕ → Bool
all_low_first n = false

abbrev two_branches : List Branch
two_branches =
    record { latch = 13; start = 15; answer = 30; guard = record { t = 20; f = 21 } } ∷ record {
      latch = 14;
      start = 16;
      answer = 31;
      guard =
          record { t = 22; f = 23 };
    } ∷ []

abbrev two_guards : SelectNodes
two_guards = record { request = 5; answer = 10; eval = 11; any = 12; branches = two_branches }

abbrev two_turns : AgainNodes
two_turns = record { request = 5; answer = 10; turn = 17; joined = 18; eval = 11; any = 12; leave = 19; branches = two_branches }

-- the template with other rules of one node
abbrev with_other : ℕ → NodeRules → List Owned → List Owned
with_other node rules os = map (λ (o : Owned). if o.node == node then owned node rules else o) os

-- It takes its answer back while the start of the old branch is still high: ~m -> a-, without the branches' answers.
abbrev hasty_answer : NodeRules
hasty_answer = record { up = (joined_answer 12 (30 ∷ 31 ∷ [])).up; down = one_term (is_low 12 ∷ []) }

abbrev hasty_select : Part
hasty_select = record (select_part two_guards) { own = with_other 10 hasty_answer (select_owned two_guards) }

-- the first branch runs; then its latch is down and no latch is up, and the branch hasn't let go
pub hasty_breaks : ¬ Keeps hasty_select
hasty_breaks =
    broken hasty_select _ (5 ∷ 11 ∷ 20 ∷ 23 ∷ 13 ∷ 12 ∷ 11 ∷ 20 ∷ 23 ∷ 15 ∷ 30 ∷ 10 ∷ 5 ∷ 13 ∷ 12 ∷ [])
    (at_first all_low_first (record { outside = refl; own = refl; bits = refl })) refl

-- It takes the first guard that is true: h_i.t -> l_i+, whatever the others are.
abbrev eager_latches : List NodeRules
eager_latches = map (λ (b : Branch). record { up = one_term (is_high b.guard.t ∷ []); down = one_term (is_low 5 ∷ []) }) two_branches

abbrev eager_select : Part
eager_select = record (select_part two_guards) {
  own = owned_at (select_inner two_guards) (joined_answer 12 (30 ∷ 31 ∷ []) ∷ evaluation 5 12 ∷ or_of (13 ∷ 14 ∷ [])
      ∷ (eager_latches ++ starts (13 ∷ 14 ∷ []) (guards_of two_branches)));
}

-- the first guard is true, and the second not yet evaluated when the guards are let go
pub eager_breaks : ¬ Keeps eager_select
eager_breaks = broken eager_select _ (5 ∷ 11 ∷ 20 ∷ 13 ∷ 12 ∷ []) (at_first all_low_first (record { outside = refl; own = refl; bits = refl })) refl

-- It runs its branch for ever: l_i & ~a_i & all rails low -> s_i+, a_i -> s_i-, and never answers.
abbrev restarted : Branch → NodeRules
restarted b = record { up = one_term (is_high b.latch ∷ is_low b.answer ∷ lows (rails_of (guards_of two_branches))); down = one_term (is_high b.answer ∷ []) }

abbrev restless_select : Part
restless_select = record (select_part two_guards) {
  own = owned_at (select_inner two_guards) (no_rules ∷ evaluation 5 12 ∷ or_of (13 ∷ 14 ∷ [])
      ∷ (latches 5 (guards_of two_branches) ++ map restarted two_branches));
}

-- the first branch has run once
pub restless_breaks : ¬ Keeps restless_select
restless_breaks =
    broken restless_select _ (5 ∷ 11 ∷ 20 ∷ 23 ∷ 13 ∷ 12 ∷ 11 ∷ 20 ∷ 23 ∷ 15 ∷ 30 ∷ 15 ∷ 30 ∷ [])
    (at_first all_low_first (record { outside = refl; own = refl; bits = refl })) refl

-- It asks for its guards again once the branch has run: a_i -> l_i-, and never answers.
abbrev let_go_latches : List NodeRules
let_go_latches =
    record { up = one_term (is_high 20 ∷ is_high 23 ∷ []); down = one_term (is_high 30 ∷ []) } ∷ record {
      up = one_term (is_high 21 ∷ is_high 22 ∷ []);
      down =
          one_term (is_high 31 ∷ []);
    } ∷ []

abbrev asking_select : Part
asking_select = record (select_part two_guards) {
  own = owned_at (select_inner two_guards) (no_rules ∷ evaluation 5 12 ∷ or_of (13 ∷ 14 ∷ [])
      ∷ (let_go_latches ++ starts (13 ∷ 14 ∷ []) (guards_of two_branches)));
}

pub asking_breaks : ¬ Keeps asking_select
asking_breaks =
    broken asking_select _ (5 ∷ 11 ∷ 20 ∷ 23 ∷ 13 ∷ 12 ∷ 11 ∷ 20 ∷ 23 ∷ 15 ∷ 30 ∷ 13 ∷ 15 ∷ 30 ∷ 12 ∷ [])
    (at_first all_low_first (record { outside = refl; own = refl; bits = refl })) refl

-- It answers where all guards are false and hasn't let them go: l_0 -> a+, without the rails.
abbrev hasty_end : NodeRules
hasty_end = record { up = one_term (is_high 19 ∷ []); down = one_term (is_low 12 ∷ []) }

abbrev hasty_again : Part
hasty_again = record (again_part two_turns) { own = with_other 10 hasty_end (again_owned two_turns) }

-- both guards are false, and their rails are high
pub hasty_end_breaks : ¬ Keeps hasty_again
hasty_end_breaks = broken hasty_again _ (5 ∷ 17 ∷ 11 ∷ 21 ∷ 23 ∷ 19 ∷ []) (at_first all_low_first (record { outside = refl; own = refl; bits = refl })) refl

-- It ends where one guard is false: h_1.f | h_2.f -> l_0+.
abbrev early_latch : NodeRules
early_latch = record { up = (is_high 21 ∷ []) ∷ (is_high 23 ∷ []) ∷ []; down = one_term (is_low 17 ∷ []) }

abbrev early_again : Part
early_again = record (again_part two_turns) { own = with_other 19 early_latch (again_owned two_turns) }

-- the first guard is false, and the second not yet evaluated when the guards are let go
pub early_end_breaks : ¬ Keeps early_again
early_end_breaks = broken early_again _ (5 ∷ 17 ∷ 11 ∷ 21 ∷ 19 ∷ 12 ∷ []) (at_first all_low_first (record { outside = refl; own = refl; bits = refl })) refl

-- It runs its branch for ever in one turn: the starts as above, and the branches' answers aren't joined.
abbrev restless_again : Part
restless_again = record (again_part two_turns) {
  own = with_other 18 no_rules (map (λ (o : Owned).
      if o.node == 15 then owned 15 (restarted (record { latch = 13; start = 15; answer = 30; guard = record { t = 20; f = 21 } })) else o)
      (again_owned two_turns));
}

pub restless_again_breaks : ¬ Keeps restless_again
restless_again_breaks =
    broken restless_again _ (5 ∷ 17 ∷ 11 ∷ 20 ∷ 23 ∷ 13 ∷ 12 ∷ 11 ∷ 20 ∷ 23 ∷ 15 ∷ 30 ∷ 15 ∷ 30 ∷ [])
    (at_first all_low_first (record { outside = refl; own = refl; bits = refl })) refl

-- It answers its second request as it did the first, and doesn't ask: l_0 is never let go, and ~r -> a-.
abbrev kept_end : List Owned
kept_end = with_other 19 (record { up = one_term (is_high 21 ∷ is_high 23 ∷ []); down = [] }) (again_owned two_turns)

abbrev unasking_answer : NodeRules
unasking_answer = record { up = one_term (is_high 5 ∷ is_high 19 ∷ lows (rails_of (guards_of two_branches))); down = one_term (is_low 5 ∷ []) }

abbrev unasking_again : Part
unasking_again = record (again_part two_turns) { own = with_other 10 unasking_answer kept_end }

pub unasking_breaks : ¬ Keeps unasking_again
unasking_breaks =
    broken unasking_again _ (5 ∷ 17 ∷ 11 ∷ 21 ∷ 23 ∷ 19 ∷ 12 ∷ 11 ∷ 21 ∷ 23 ∷ 10 ∷ 5 ∷ 10 ∷ 5 ∷ [])
    (at_first all_low_first (record { outside = refl; own = refl; bits = refl })) refl
