-- The rules, the sites and the first values of a program's body, written statement by statement.
use Rattle.std.proofs.Common.{◌≡◌, ℕ, ◌+◌, Bool, true, List, [], ◌++◌, length, sym, ap, ◌∙◌}
use Rattle.std.specs.Prelude.{slice_set, Result, Ok, Err, IfOk, OnOk}
use Rattle.std.proofs.lemmas.List.Sums.{fold-append}
use Rattle.prs_core.specs.Nets.{RulesValue, NodeRules}
use Rattle.prs_core.specs.Parts.{owned_from, with_owned}
use Rattle.width_check.specs.Processes.{Process, TypedProgram}
use Rattle.handshake_expand.specs.Layout.{size_of}
use Rattle.handshake_expand.specs.Answers.{answer_of}
use Rattle.net_compose.specs.Translation.{q_rules, rules_of}
use Rattle.net_compose.proofs.Raised.{with_raised}

-- first values

pub raised_more : (now new all : List Bool) (first rest before : List ℕ) → new ≡ with_raised now first → before ≡ first ++ rest
    → with_raised now before ≡ all → with_raised new rest ≡ all
raised_more now new all first rest before raised step so_far =
    ap (λ vs. with_raised vs rest) raised
    ∙ (sym (fold-append (λ vs node. slice_set vs node true) now first rest)
    ∙ (ap (with_raised now) (sym step) ∙ so_far))

pub raised_done : (now all : List Bool) (rest : List ℕ) → rest ≡ [] → with_raised now rest ≡ all → now ≡ all
raised_done now all rest none so_far = ap (with_raised now) (sym none) ∙ so_far

-- a Q-element with its child
module _ (p : TypedProgram) (s : Process) (request from answer : ℕ) (counted : length (rules_of p s from (from + 3)) ≡ size_of p s)
    (answers : answer ≡ answer_of p s (from + 3))
    (now mid new : RulesValue) (element : mid ≡ with_owned (owned_from from (q_rules request answer from)) now)
    (child : new ≡ with_owned (owned_from (from + 3) (rules_of p s from (from + 3))) mid) where
  abbrev both : List NodeRules
  both = q_rules request (answer_of p s (from + 3)) from ++ rules_of p s from (from + 3)

-- what is known of a call that succeeded
pub on_ok : {T E P Q : Type 0} (r : Result T E) → (P → Q) → OnOk r P → OnOk r Q
on_ok (Ok v) f h = f h
on_ok (Err e) f h = tt

-- what holds whether the call succeeded or not
pub given : {T E P : Type 0} (r : Result T E) → P → OnOk r P
given (Ok v) h = h
given (Err e) h = tt

pub if_ok : {T E : Type 0} (r : Result T E) (P Q : T → Type 0) → ((v : T) → P v → Q v) → IfOk r P → IfOk r Q
if_ok (Ok v) P Q f h = f v h
if_ok (Err e) P Q f h = tt
