-- What is left of a statement, as a term.
use Rattle.std.proofs.Common.{◌≡◌, ◌⊎◌, ℕ, zero, suc, ◌+◌, ◌<◌, ◌≤◌, Bool, true, false, List, [], ◌∷◌, ◌++◌, refl, sym, ap, ◌∙◌, subst, inl, inr, arith}
use Rattle.std.specs.Prelude.{◌&&◌, if◌then◌else◌, nat_lt, Option, Some, None}
use Rattle.std.proofs.lemmas.Bool.{ltb-true, ltb-false}
use Rattle.width_check.specs.Processes.{Process, skipping, assigning, sending, receiving, in_turn, side_by_side, choosing, repeating, Processes, no_members, and_member, Choices, member_count}
use Rattle.chp_meaning.specs.declared.effect.Move.{Move}
use Rattle.chp_meaning.specs.declared.effect.TrueGuards.{TrueGuards}
use Rattle.chp_meaning.specs.declared.effect.TrueGuards.TheVariants.{Zero, One, Several as Many}
use Rattle.chp_meaning.specs.Terms.{Term, Terms, finished, active, in_sequence, in_parallel, no_branches, and_branch, is_finished, all_finished, together, opened, opened_turn, opened_each, followed}
use Rattle.chp_meaning.specs.Remaining.{Remains, over, whole, within, alongside, Several, no_more, and_left, none_remains, all_over, how_many, member_at, part_of, part_count, members_from, coming, before, term_of, branch_terms, is_beside, is_group, CanRemain, EachCanRemain, begun, each_begun, after_part, resumed, gathered, IsRunnable, AreRunnable}
use Rattle.chp_meaning.specs.AtOnce.{Outset, true_guards, guards_counted, ending_move, is_met, entered, chosen_remains, ended, step_remains, advanced, each_advanced, statements, each_statements}
use Rattle.chp_meaning.proofs.Places.{In, in_either}
use Rattle.chp_meaning.proofs.Rows.{part_runnable}
use Rattle.chp_meaning.proofs.Planning.{one_below}
use Rattle.chp_meaning.proofs.Leaving.{Lively, EachLively, all_left, each_left}

-- the active statements of a term
abbrev mutual
  pub actives : Term → List Process
  actives finished = []
  actives (active p) = p ∷ []
  actives (in_sequence t more) = actives t
  actives (in_parallel ts) = branch_actives ts

  pub branch_actives : Terms → List Process
  branch_actives no_branches = []
  branch_actives (and_branch t more) = actives t ++ branch_actives more

before_actives : (t : Term) (more : Processes) → actives (before t more) ≡ actives t
before_actives t no_members = refl
before_actives t (and_member p more) = refl

mutual
  pub statements_are : (p : Process) (r : Remains) → statements p r ≡ actives (term_of p r)
  statements_are p over = refl
  statements_are p whole = refl
  statements_are p (within k r) = statements_are (part_of p k) r ∙ sym (before_actives (term_of (part_of p k) r) (coming p k))
  statements_are p (alongside rs) = each_are p 0 rs

  each_are : (p : Process) (k : ℕ) (rs : Several) → each_statements p k rs ≡ branch_actives (branch_terms p k rs)
  each_are p k no_more = refl
  each_are p k (and_left r rest) = ap (λ xs. xs ++ each_statements p (suc k) rest) (statements_are (part_of p k) r)
      ∙ ap (λ xs. actives (term_of (part_of p k) r) ++ xs) (each_are p (suc k) rest)

-- finished is what is over

before_unfinished : (t : Term) (more : Processes) → is_finished t ≡ false → is_finished (before t more) ≡ false
before_unfinished t no_members h = h
before_unfinished t (and_member p more) h = refl

pub goes_on : (p : Process) (r : Remains) → CanRemain p r → none_remains r ≡ false → is_finished (term_of p r) ≡ false
goes_on p over c h = absurd (cc h)
goes_on p whole c h = refl
goes_on p (within k r) c h = before_unfinished (term_of (part_of p k) r) (coming p k) (goes_on (part_of p k) r c.3 c.2)
goes_on p (alongside rs) c h = refl

pub finished_is : (p : Process) (r : Remains) → CanRemain p r → is_finished (term_of p r) ≡ none_remains r
finished_is p over c = refl
finished_is p whole c = refl
finished_is p (within k r) c = goes_on p (within k r) c refl
finished_is p (alongside rs) c = refl

all_finished_is : (p : Process) (k : ℕ) (rs : Several) → EachCanRemain p k rs → all_finished (branch_terms p k rs) ≡ all_over rs
all_finished_is p k no_more c = refl
all_finished_is p k (and_left r rest) c = ap (λ b. b && all_finished (branch_terms p (suc k) rest)) (finished_is (part_of p k) r c.0)
    ∙ ap (λ b. none_remains r && b) (all_finished_is p (suc k) rest c.1)

before_lively : (t : Term) (more : Processes) → is_finished t ≡ false → Lively t → Lively (before t more)
before_lively t no_members h v = v
before_lively t (and_member p more) h v = (h, v)

mutual
  pub lively : (p : Process) (r : Remains) → CanRemain p r → Lively (term_of p r)
  lively p over c = tt
  lively p whole c = tt
  lively p (within k r) c = before_lively (term_of (part_of p k) r) (coming p k) (goes_on (part_of p k) r c.3 c.2) (lively (part_of p k) r c.3)
  lively p (alongside rs) c = (all_finished_is p 0 rs c.3 ∙ c.2, each_lively p 0 rs c.3)

  each_lively : (p : Process) (k : ℕ) (rs : Several) → EachCanRemain p k rs → EachLively (branch_terms p k rs)
  each_lively p k no_more c = tt
  each_lively p k (and_left r rest) c = (lively (part_of p k) r c.0, each_lively p (suc k) rest c.1)

-- a statement, begun

pub record Begins (p : Process) : Type 0 where
  pub term : term_of p (begun p) ≡ opened p
  pub can : CanRemain p (begun p)
  pub goes : none_remains (begun p) ≡ false

-- the members of all are from this number on these
abbrev From : Processes → ℕ → Processes → Type 0
From all k ms = members_from all k ≡ ms

from_next : (all : Processes) (k : ℕ) (p : Process) (more : Processes) → From all k (and_member p more) → From all (suc k) more
from_next no_members zero p more e = absurd (cc e)
from_next no_members (suc k) p more e = absurd (cc e)
from_next (and_member q rest) zero p more e = cc e
from_next (and_member q rest) (suc k) p more e = from_next rest k p more e

from_at : (all : Processes) (k : ℕ) (p : Process) (more : Processes) → From all k (and_member p more) → member_at all k ≡ p
from_at no_members zero p more e = absurd (cc e)
from_at no_members (suc k) p more e = absurd (cc e)
from_at (and_member q rest) zero p more e = cc e
from_at (and_member q rest) (suc k) p more e = from_at rest k p more e

-- the members, from a number on, are begun as branches
abbrev AllGo : Processes → Type 0
AllGo no_members = Unit {0}
AllGo (and_member p more) = (none_remains (begun p) ≡ false) × (is_finished (opened p) ≡ false) × AllGo more

record EachBegins (p : Process) (k : ℕ) (ms : Processes) : Type 0 where
  terms : branch_terms p k (each_begun ms) ≡ opened_each ms
  can : EachCanRemain p k (each_begun ms)
  go : AllGo ms

count_begun : (ms : Processes) → how_many (each_begun ms) ≡ member_count ms
count_begun no_members = refl
count_begun (and_member p more) = ap suc (count_begun more)

pub begun_goes : (p : Process) → Begins p → is_finished (opened p) ≡ false
begun_goes p b = sym (ap is_finished b.term) ∙ goes_on p (begun p) b.can b.goes

beside_begins : (ms : Processes) → 1 ≤ member_count ms → EachBegins (side_by_side ms) 0 ms → Begins (side_by_side ms)
beside_begins no_members some each = absurd (omega (arith, some))
beside_begins (and_member p more) some each = record {
  term = ap in_parallel each.terms ∙ sym (ap (λ x. if x then finished else in_parallel (opened_each (and_member p more)))
      (ap (λ x. x && all_finished (opened_each more)) each.go.1));
  can = (refl, count_begun (and_member p more), ap (λ x. x && all_over (each_begun more)) each.go.0, each.can);
  goes = refl;
}

mutual
  pub begins : (n m : ℕ) (p : Process) → IsRunnable n m p → Begins p
  begins n m skipping r = record { term = refl; can = refl; goes = refl }
  begins n m (assigning x s e) r = record { term = refl; can = refl; goes = refl }
  begins n m (sending k s e) r = record { term = refl; can = refl; goes = refl }
  begins n m (receiving k s x t) r = record { term = refl; can = refl; goes = refl }
  begins n m (choosing again cs) r = record { term = refl; can = refl; goes = refl }
  begins n m (repeating p) r = record { term = refl; can = refl; goes = refl }
  begins n m (in_turn ms) r = turn_begins n m ms r.0 r.1
  begins n m (side_by_side ms) r = beside_begins ms r.0 (each_begins n m ms ms 0 refl r.1)

  turn_begins : (n m : ℕ) (ms : Processes) → 1 ≤ member_count ms → AreRunnable n m ms → Begins (in_turn ms)
  turn_begins n m no_members some r = absurd (omega (arith, some))
  turn_begins n m (and_member p no_members) some r =
      let b = begins n m p r.0 in
      record { term = b.term; can = (omega arith, refl, b.goes, b.can); goes = refl }
  turn_begins n m (and_member p (and_member q more)) some r =
      let b = begins n m p r.0 in
      record { term = ap (λ t. in_sequence t (and_member q more)) b.term; can = (omega arith, refl, b.goes, b.can); goes = refl }

  each_begins : (n m : ℕ) (all ms : Processes) (k : ℕ) → From all k ms → AreRunnable n m ms → EachBegins (side_by_side all) k ms
  each_begins n m all no_members k from r = record { terms = refl; can = tt; go = tt }
  each_begins n m all (and_member p more) k from r =
      let b = begins n m p r.0 in
      let rest = each_begins n m all more (suc k) (from_next all k p more from) r.1 in
      let at = from_at all k p more from in
      record {
        terms = ap (λ q. and_branch (term_of q (begun p)) (branch_terms (side_by_side all) (suc k) (each_begun more))) at
            ∙ (ap (λ t. and_branch t (branch_terms (side_by_side all) (suc k) (each_begun more))) b.term ∙ ap (and_branch (opened p)) rest.terms);
        can = (subst (λ q. CanRemain q (begun p)) (sym at) b.can, rest.can);
        go = (b.goes, begun_goes p b, rest.go);
      }

-- behind a part that has ended

turned : (n m : ℕ) (ms : Processes) (k : ℕ) → AreRunnable n m ms → k < member_count ms →
    before (term_of (member_at ms k) (begun (member_at ms k))) (members_from ms (suc k)) ≡ opened_turn (members_from ms k)
turned n m no_members k r lt = absurd (omega (arith, lt))
turned n m (and_member p no_members) zero r lt = (begins n m p r.0).term
turned n m (and_member p (and_member q more)) zero r lt = ap (λ t. in_sequence t (and_member q more)) (begins n m p r.0).term
turned n m (and_member p more) (suc k) r lt = turned n m more k r.1 (omega (arith, lt))

none_from : (ms : Processes) (k : ℕ) → member_count ms ≤ k → members_from ms k ≡ no_members
none_from no_members zero le = refl
none_from no_members (suc k) le = refl
none_from (and_member p more) zero le = absurd (omega (arith, le))
none_from (and_member p more) (suc k) le = none_from more k (omega (arith, le))

pub after_term : (n m : ℕ) (p : Process) (k : ℕ) → IsRunnable n m p → term_of p (after_part p k) ≡ opened_turn (coming p k)
after_term n m skipping k r = refl
after_term n m (assigning x s e) k r = refl
after_term n m (sending c s e) k r = refl
after_term n m (receiving c s x t) k r = refl
after_term n m (side_by_side ms) k r = refl
after_term n m (choosing true cs) k r = refl
after_term n m (choosing false cs) k r = refl
after_term n m (repeating p) k r = refl
after_term n m (in_turn ms) k r = by_test (nat_lt (k + 1) (member_count ms)) refl
  where
    by_test : (b : Bool) → nat_lt (k + 1) (member_count ms) ≡ b → term_of (in_turn ms) (if b then within (k + 1) (begun (member_at ms (k + 1))) else over) ≡
        opened_turn (members_from ms (suc k))
    by_test true e = let s : k + 1 ≡ suc k = omega arith in
        subst (λ j. term_of (in_turn ms) (within j (begun (member_at ms j))) ≡ opened_turn (members_from ms (suc k))) (sym s)
        (turned n m ms (suc k) r.1 (omega (arith, ltb-true (k + 1) (member_count ms) e)))
    by_test false e = sym (ap opened_turn (none_from ms (suc k) (omega (arith, ltb-false (k + 1) (member_count ms) e))))

pub after_can : (n m : ℕ) (p : Process) (k : ℕ) → IsRunnable n m p → CanRemain p (after_part p k)
after_can n m skipping k r = tt
after_can n m (assigning x s e) k r = tt
after_can n m (sending c s e) k r = tt
after_can n m (receiving c s x t) k r = tt
after_can n m (side_by_side ms) k r = tt
after_can n m (choosing true cs) k r = refl
after_can n m (choosing false cs) k r = tt
after_can n m (repeating p) k r = refl
after_can n m (in_turn ms) k r = by_test (nat_lt (k + 1) (member_count ms)) refl
  where
    by_test : (b : Bool) → nat_lt (k + 1) (member_count ms) ≡ b → CanRemain (in_turn ms) (if b then within (k + 1) (begun (member_at ms (k + 1))) else over)
    by_test true e =
        let lt = ltb-true (k + 1) (member_count ms) e in
        let b = begins n m (member_at ms (k + 1)) (part_runnable n m (in_turn ms) (k + 1) lt r) in
        (lt, refl, b.goes, b.can)
    by_test false e = tt

-- what a step leaves

entered_can : (n m : ℕ) (p : Process) (k : ℕ) → IsRunnable n m p → is_beside p ≡ false → k < part_count p → CanRemain p (entered p k)
entered_can n m p k r plain lt = let b = begins n m (part_of p k) (part_runnable n m p k lt r) in (lt, plain, b.goes, b.can)

ended_can : (p : Process) (x : Option Move) (met : Bool) → is_group p ≡ false → CanRemain p (ended x met)
ended_can p (Some step) met g = tt
ended_can p None true g = tt
ended_can p None false g = g

chosen_can : (n m : ℕ) (again : Bool) (cs : Choices) (g : TrueGuards) → IsRunnable n m (choosing again cs) →
    ((k : ℕ) → g ≡ One k → k < part_count (choosing again cs)) → CanRemain (choosing again cs) (chosen_remains (choosing again cs) again g)
chosen_can n m true cs Zero r below = tt
chosen_can n m false cs Zero r below = refl
chosen_can n m true cs (One k) r below = entered_can n m (choosing true cs) k r refl (below k refl)
chosen_can n m false cs (One k) r below = entered_can n m (choosing false cs) k r refl (below k refl)
chosen_can n m true cs Many r below = refl
chosen_can n m false cs Many r below = refl

pub step_can : (n m : ℕ) (o : Outset) (p : Process) → IsRunnable n m p → is_group p ≡ false → CanRemain p (step_remains o p)
step_can n m o skipping r g = tt
step_can n m o (assigning x s e) r g = tt
step_can n m o (sending k s e) r g = ended_can (sending k s e) (ending_move o (sending k s e)) false g
step_can n m o (receiving k s x t) r g = ended_can (receiving k s x t) (ending_move o (receiving k s x t)) (is_met o (receiving k s x t)) g
step_can n m o (in_turn ms) r g = absurd (cc g)
step_can n m o (side_by_side ms) r g = absurd (cc g)
step_can n m o (choosing again cs) r g = chosen_can n m again cs (guards_counted (true_guards o.store 0 cs)) r (λ k e. one_below o.store cs k (sym e))
step_can n m o (repeating p) r g = entered_can n m (repeating p) 0 r refl (omega arith)

-- what a round leaves

resumed_can : (n m : ℕ) (p : Process) (k : ℕ) (r : Remains) → IsRunnable n m p → k < part_count p → is_beside p ≡ false → CanRemain (part_of p k) r →
    CanRemain p (resumed p k r)
resumed_can n m p k over r lt plain c = after_can n m p k r
resumed_can n m p k whole r lt plain c = (lt, plain, refl, c)
resumed_can n m p k (within j s) r lt plain c = (lt, plain, refl, c)
resumed_can n m p k (alongside rs) r lt plain c = (lt, plain, refl, c)

gathered_can : (p : Process) (rs : Several) → is_beside p ≡ true → how_many rs ≡ part_count p → EachCanRemain p 0 rs → CanRemain p (gathered rs)
gathered_can p rs b n c = by_test (all_over rs) refl
  where
    by_test : (x : Bool) → all_over rs ≡ x → CanRemain p (if x then over else alongside rs)
    by_test true e = tt
    by_test false e = (b, n, e, c)

count_advanced : (o : Outset) (p : Process) (k : ℕ) (rs : Several) → how_many (each_advanced o p k rs) ≡ how_many rs
count_advanced o p k no_more = refl
count_advanced o p k (and_left r rest) = ap suc (count_advanced o p (suc k) rest)

mutual
  pub advanced_can : (n m : ℕ) (o : Outset) (p : Process) (r : Remains) → IsRunnable n m p → CanRemain p r → CanRemain p (advanced o p r)
  advanced_can n m o p over q c = tt
  advanced_can n m o p whole q c = step_can n m o p q c
  advanced_can n m o p (within k r) q c = resumed_can n m p k (advanced o (part_of p k) r) q c.0 c.1
      (advanced_can n m o (part_of p k) r (part_runnable n m p k c.0 q) c.3)
  advanced_can n m o p (alongside rs) q c =
      gathered_can p (each_advanced o p 0 rs) c.0 (count_advanced o p 0 rs ∙ c.1) (each_advanced_can n m o p 0 rs q (λ k lt. omega (arith, lt, c.1)) c.3)

  each_advanced_can : (n m : ℕ) (o : Outset) (p : Process) (k : ℕ) (rs : Several) → IsRunnable n m p → ((j : ℕ) → j < how_many rs → k + j < part_count p) →
      EachCanRemain p k rs → EachCanRemain p k (each_advanced o p k rs)
  each_advanced_can n m o p k no_more q lt c = tt
  each_advanced_can n m o p k (and_left r rest) q lt c = (
    advanced_can n m o (part_of p k) r (part_runnable n m p k (let first = lt 0 (omega arith) in omega (arith, first)) q) c.0,
    each_advanced_can n m o p (suc k) rest q (λ j h. let later = lt (suc j) (omega (arith, h)) in omega (arith, later)) c.1,
  )

-- the same of terms

abbrev pub left_of : Outset → Process → Term
left_of o q = term_of q (step_remains o q)

all_left_before : (f : Process → Term) (t : Term) (more : Processes) (u : Term) → all_left f t ≡ u → is_finished u ≡ false →
    all_left f (before t more) ≡ before u more
all_left_before f t no_members u e h = e
all_left_before f t (and_member p more) u e h = ap (λ x. followed x (and_member p more)) e ∙ unfinished u (and_member p more) h
  where
    unfinished : (v : Term) (ms : Processes) → is_finished v ≡ false → followed v ms ≡ in_sequence v ms
    unfinished finished ms g = absurd (cc g)
    unfinished (active q) ms g = refl
    unfinished (in_sequence v vs) ms g = refl
    unfinished (in_parallel vs) ms g = refl

all_left_over : (f : Process → Term) (t : Term) (more : Processes) → all_left f t ≡ finished → all_left f (before t more) ≡ opened_turn more
all_left_over f t no_members e = e
all_left_over f t (and_member p more) e = ap (λ x. followed x (and_member p more)) e

resumed_term : (n m : ℕ) (f : Process → Term) (p : Process) (k : ℕ) (t : Term) (r : Remains) → IsRunnable n m p → CanRemain (part_of p k) r →
    all_left f t ≡ term_of (part_of p k) r → term_of p (resumed p k r) ≡ all_left f (before t (coming p k))
resumed_term n m f p k t over q c e = after_term n m p k q ∙ sym (all_left_over f t (coming p k) e)
resumed_term n m f p k t whole q c e = sym (all_left_before f t (coming p k) (term_of (part_of p k) whole) e (goes_on (part_of p k) whole c refl))
resumed_term n m f p k t (within j s) q c e =
    sym (all_left_before f t (coming p k) (term_of (part_of p k) (within j s)) e (goes_on (part_of p k) (within j s) c refl))
resumed_term n m f p k t (alongside rs) q c e = sym (all_left_before f t (coming p k) (term_of (part_of p k) (alongside rs)) e refl)

gathered_term : (p : Process) (rs : Several) → EachCanRemain p 0 rs → term_of p (gathered rs) ≡ together (branch_terms p 0 rs)
gathered_term p rs c = by_test (all_over rs) ∙ ap (λ b. if b then finished else in_parallel (branch_terms p 0 rs)) (sym (all_finished_is p 0 rs c))
  where
    by_test : (x : Bool) → term_of p (if x then over else alongside rs) ≡ (if x then finished else in_parallel (branch_terms p 0 rs))
    by_test true = refl
    by_test false = refl

mutual
  pub advanced_term : (n m : ℕ) (o : Outset) (p : Process) (r : Remains) → IsRunnable n m p → CanRemain p r →
      term_of p (advanced o p r) ≡ all_left (left_of o) (term_of p r)
  advanced_term n m o p over q c = refl
  advanced_term n m o p whole q c = refl
  advanced_term n m o p (within k r) q c =
      let inner = part_runnable n m p k c.0 q in
      resumed_term n m (left_of o) p k (term_of (part_of p k) r) (advanced o (part_of p k) r) q (advanced_can n m o (part_of p k) r inner c.3)
      (sym (advanced_term n m o (part_of p k) r inner c.3))
  advanced_term n m o p (alongside rs) q c =
      let below : (j : ℕ) → j < how_many rs → 0 + j < part_count p = λ j lt. omega (arith, lt, c.1) in
      gathered_term p (each_advanced o p 0 rs) (each_advanced_can n m o p 0 rs q below c.3) ∙ ap together (each_advanced_terms n m o p 0 rs q below c.3)

  each_advanced_terms : (n m : ℕ) (o : Outset) (p : Process) (k : ℕ) (rs : Several) → IsRunnable n m p → ((j : ℕ) → j < how_many rs → k + j < part_count p) →
      EachCanRemain p k rs
      → branch_terms p k (each_advanced o p k rs) ≡ each_left (left_of o) (branch_terms p k rs)
  each_advanced_terms n m o p k no_more q lt c = refl
  each_advanced_terms n m o p k (and_left r rest) q lt c =
      ap (λ t. and_branch t (branch_terms p (suc k) (each_advanced o p (suc k) rest)))
      (advanced_term n m o (part_of p k) r (part_runnable n m p k (let first = lt 0 (omega arith) in omega (arith, first)) q) c.0)
      ∙ ap (and_branch (all_left (left_of o) (term_of (part_of p k) r))) (each_advanced_terms n m o p (suc k) rest q (λ j h. let later =
      lt (suc j) (omega (arith, h)) in omega (arith, later)) c.1)

-- each active statement is one of the program

abbrev pub Runs : ℕ → ℕ → Process → Type 0
Runs n m q = IsRunnable n m q × (is_group q ≡ false)

-- what is so of a statement, and of all parts of such a one, is so of the active ones
module _ (Has : Process → Type 0) (part : (p : Process) (k : ℕ) → k < part_count p → Has p → Has (part_of p k)) where
  mutual
    pub statements_have : (p : Process) (r : Remains) → Has p → CanRemain p r → (q : Process) → In (statements p r) q → Has q × (is_group q ≡ false)
    statements_have p over a c q i = absurd i
    statements_have p whole a c q (inl e) = subst (λ x. Has x × (is_group x ≡ false)) e (a, c)
    statements_have p whole a c q (inr i) = absurd i
    statements_have p (within k r) a c q i = statements_have (part_of p k) r (part p k c.0 a) c.3 q i
    statements_have p (alongside rs) a c q i = each_have p 0 rs a (λ j lt. omega (arith, lt, c.1)) c.3 q i

    each_have : (p : Process) (k : ℕ) (rs : Several) → Has p → ((j : ℕ) → j < how_many rs → k + j < part_count p) → EachCanRemain p k rs → (q : Process) →
        In (each_statements p k rs) q → Has q × (is_group q ≡ false)
    each_have p k no_more a lt c q i = absurd i
    each_have p k (and_left r rest) a lt c q i = either (in_either (statements (part_of p k) r) (each_statements p (suc k) rest) q i)
        (statements_have (part_of p k) r (part p k (let first = lt 0 (omega arith) in omega (arith, first)) a) c.0 q)
        (each_have p (suc k) rest a (λ j h. let later = lt (suc j) (omega (arith, h)) in omega (arith, later)) c.1 q)
      where
        either : In (statements (part_of p k) r) q ⊎ In (each_statements p (suc k) rest) q →
            (In (statements (part_of p k) r) q → Has q × (is_group q ≡ false)) →
            (In (each_statements p (suc k) rest) q → Has q × (is_group q ≡ false)) → Has q × (is_group q ≡ false)
        either (inl x) f g = f x
        either (inr x) f g = g x

pub statements_run : (n m : ℕ) (p : Process) (r : Remains) → IsRunnable n m p → CanRemain p r → (q : Process) → In (statements p r) q → Runs n m q
statements_run n m = statements_have (IsRunnable n m) (part_runnable n m)
