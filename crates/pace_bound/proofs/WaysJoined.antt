-- The longest way, as it is looked for: the best of those so far, and of those that follow.
use Rattle.std.proofs.Common.{◌≡◌, ℕ, zero, suc, ◌+◌, ◌<◌, ◌≤◌, ◌-◌, ◌^◌, true, false, List, [], ◌∷◌, ◌++◌, length, get_or, drop, refl, sym, ap, subst, ◌∙◌, arith}
use Rattle.std.proofs.lemmas.List.{append-nil}
use Rattle.std.specs.Prelude.{max}
use Rattle.chp_base.specs.declared.channel.Channel.{Channel}
use Rattle.width_check.specs.declared.typed.Var.{Var}
use Rattle.width_check.specs.declared.typed.TStmt.{TStmt}
use Rattle.width_check.specs.Processes.{Process, choosing, repeating, Processes, no_members, and_member, Choices, TypedProgram}
use Rattle.width_check.specs.Typing.{AreProcesses}
use Rattle.width_check.specs.View.{process_of, members_in}
use Rattle.handshake_expand.specs.Layout.{capped}
use Rattle.handshake_expand.proofs.Rows.{member_at}
use Rattle.round_time.specs.Longest.{guards_depth, first, low}
use Rattle.round_time.specs.Ways as told
use Rattle.round_time.specs.Ways.{step_of, way, first_longest, first_step, last_step, to_turn, to_body, to_loop, ways_within, turn_ways, choice_ways}
use Rattle.round_time.proofs.WaysLengths.{number_of, greatest_append, lengths_append}
use Rattle.pace_bound.specs.declared.ways.Way.{Way}
use Rattle.pace_bound.specs.Whereabouts.{way_of, IsWay, IsLongestOf, onward_ways}

pub way_same : (from to other : told.Point) (m n : ℕ) → to ≡ other → m ≡ n → way from to m ≡ way from other n
way_same from to other m n t e = ap (λ (p : told.Point). way from p m) t ∙ ap (λ (k : ℕ). way from other k) e

-- the end of a way is known where it isn't too long
pub ends_at : (from to other : told.Point) (m n : ℕ) (found : Way) → IsWay (way from to m) found → m ≡ n → (n < 2 ^ 64 - 1 → to ≡ other)
    → IsWay (way from other n) found
ends_at from to other m n found h e t = record {
  long = h.long ∙ ap capped e;
  exact = λ small. h.exact small ∙ way_same from to other m n (t (let l = h.long in omega (arith, l, e, small))) e;
}

pub nothing : (best : Way) → IsLongestOf best best []
nothing best = record { long = omega arith; exact = λ small. refl }

pub single : (best next found : Way) (w : told.Way) → way_of found ≡ first_longest (way_of best) (way_of next ∷ []) → IsWay w next
    → IsLongestOf best found (w ∷ [])
single best next found w is h =
    let length : found.length ≡ max best.length (max next.length 0) =
    ap (λ (v : told.Way). v.length) is ∙ number_of (λ (v : told.Way). v.length) (way_of best) (way_of next ∷ []) in
    let long = h.long in
    record {
      long = omega (arith, length, long);
      exact = λ small. is ∙ ap (λ (v : told.Way). first_longest (way_of best) (v ∷ [])) (h.exact (omega (arith, long, small)));
    }

pub joined : (first mid last : Way) (xs ys : List told.Way) → IsLongestOf first mid xs → IsLongestOf mid last ys → IsLongestOf first last (xs ++ ys)
joined first mid last xs ys h g =
    let both = lengths_append xs ys in
    let one = h.long in
    let two = g.long in
    record {
      long = omega (arith, both, one, two);
      exact = λ small.
          g.exact (omega (arith, both, small))
          ∙ (ap (λ (v : told.Way). first_longest v ys) (h.exact (omega (arith, both, small)))
          ∙ sym (greatest_append (λ (v : told.Way). v.length) (way_of first) xs ys));
    }

pub whole : (begun : told.Way) (first found : Way) (ws : List told.Way) → IsWay begun first → IsLongestOf first found ws → IsWay (first_longest begun ws) found
whole begun first found ws h g =
    let length = number_of (λ (v : told.Way). v.length) begun ws in
    let one = h.long in
    let two = g.long in
    record {
      long = omega (arith, length, one, two);
      exact = λ small.
          g.exact (omega (arith, two, small)) ∙ ap (λ (v : told.Way). first_longest v ws) (h.exact (omega (arith, two, small)));
    }

-- from a member of a sequence on: inside of it, on to the next one, and what is behind
pub turn_ways_at : (P : TypedProgram) (ss : List TStmt) (i : ℕ) (s : TStmt) → i < length ss → s ≡ get_or ss i s
    → turn_ways P (members_in (drop i ss)) ≡
    ways_within P (process_of s) ++ (onward_ways P (members_in (drop i ss)) ++ turn_ways P (members_in (drop (i + 1) ss)))
turn_ways_at P ss i s inside is =
    ap (turn_ways P) (member_at ss i s inside is) ∙ (by (members_in (drop (i + 1) ss))
    ∙ ap (λ m. ways_within P (process_of s) ++ (onward_ways P m ++ turn_ways P (members_in (drop (i + 1) ss)))) (sym (member_at ss i s inside is)))
  where
    by : (more : Processes)
        → turn_ways P (and_member (process_of s) more) ≡
        ways_within P (process_of s) ++ (onward_ways P (and_member (process_of s) more) ++ turn_ways P more)
    by no_members = sym (append-nil (ways_within P (process_of s)))
    by (and_member q more) = refl

pub none_onward : (P : TypedProgram) (ss : List TStmt) → length ss ≤ 1 → onward_ways P (members_in ss) ≡ []
none_onward P [] few = refl
none_onward P (a ∷ []) few = refl
none_onward P (a ∷ x ∷ ss) few = absurd (omega arith)

pub rest_typed : (channels : List Channel) (vars : List Var) (ss : List TStmt) (i : ℕ) → i < length ss → AreProcesses channels vars (members_in (drop i ss))
    → AreProcesses channels vars (members_in (drop (i + 1) ss))
rest_typed channels vars ss i inside h =
    let on : suc i ≡ i + 1 = omega arith in
    subst (λ (k : ℕ). AreProcesses channels vars (members_in (drop k ss))) on (by ss i inside h)
  where
    by : (ss : List TStmt) (i : ℕ) → i < length ss → AreProcesses channels vars (members_in (drop i ss))
        → AreProcesses channels vars (members_in (drop (suc i) ss))
    by [] i inside h = absurd (omega (arith, inside))
    by (s ∷ ss) zero inside h = h.1
    by (s ∷ ss) (suc i) inside h = by ss i (omega (arith, inside)) h

-- in a selection and in a repetition
pub once : (P : TypedProgram) (p : Process) (cs : Choices) (best found : Way) → p ≡ choosing false cs
    → IsLongestOf best found (choice_ways P p (3 + guards_depth cs) cs) → IsLongestOf best found (ways_within P p)
once P p cs best found is h =
    subst (λ (q : Process). IsLongestOf best found (ways_within P q)) (sym is)
    (subst (λ (q : Process). IsLongestOf best found (choice_ways P q (3 + guards_depth cs) cs)) is h)

pub again : (P : TypedProgram) (p : Process) (cs : Choices) (best mid found : Way) → p ≡ choosing true cs
    → IsLongestOf best mid (choice_ways P p (3 + guards_depth cs) cs) → IsLongestOf mid found (to_turn P cs ∷ [])
    → IsLongestOf best found (ways_within P p)
again P p cs best mid found is h g =
    subst (λ (q : Process). IsLongestOf best found (ways_within P q)) (sym is)
    (joined best mid found (choice_ways P (choosing true cs) (3 + guards_depth cs) cs) (to_turn P cs ∷ [])
    (subst (λ (q : Process). IsLongestOf best mid (choice_ways P q (3 + guards_depth cs) cs)) is h) g)

-- in a loop: to its body, inside of that, and back to its own step
pub repeated : (P : TypedProgram) (p q : Process) (best begins begun inner ends found : Way) → p ≡ repeating q
    → IsWay (way (step_of p) (step_of (first_step P q)) (0 + first P q)) begins → way_of begun ≡ first_longest (way_of best) (way_of begins ∷ [])
    → IsLongestOf begun inner (ways_within P q)
    → IsWay (way (step_of (last_step P 1 q)) (step_of p) (low P 1 q + 1)) ends → way_of found ≡ first_longest (way_of inner) (way_of ends ∷ [])
    → IsLongestOf best found (ways_within P p)
repeated P p q best begins begun inner ends found is to begun_is h back found_is =
    let one : IsWay (to_body P q) begins =
    subst (λ (w : told.Way). IsWay w begins)
    (ap (λ (r : Process). way (step_of r) (step_of (first_step P q)) (0 + first P q)) is
    ∙ ap (way (step_of (repeating q)) (step_of (first_step P q))) (omega arith)) to in
    let two : IsWay (to_loop P q) ends =
    subst (λ (r : Process). IsWay (way (step_of (last_step P 1 q)) (step_of r) (low P 1 q + 1)) ends) is back in
    subst (λ (r : Process). IsLongestOf best found (ways_within P r)) (sym is)
    (joined best inner found (to_body P q ∷ ways_within P q) (to_loop P q ∷ [])
    (joined best begun inner (to_body P q ∷ []) (ways_within P q) (single best begins begun (to_body P q) begun_is one) h)
    (single inner ends found (to_loop P q) found_is two))
