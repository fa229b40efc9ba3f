-- The plan of a round is the round.
use Rattle.std.proofs.Common.{◌≡◌, ◌⊎◌, ℕ, zero, suc, ◌+◌, ◌<◌, Bool, true, false, cond, List, [], ◌∷◌, ◌++◌, length, get_or, map, set, replicate, refl, sym, ap, ◌∙◌, subst, inl, inr, arith}
use Rattle.std.specs.Prelude.{if◌then◌else◌, fold, All, is_some, option_to_list, slice_index_or, count_by, Option, Some, None}
use Rattle.std.proofs.lemmas.Bool.{lt-ltb, ltb-true}
use Rattle.std.proofs.lemmas.List.{length-map, length-set, length-append}
use Rattle.std.proofs.lemmas.List.Sums.{sum_by-cons}
use Rattle.chp_base.specs.declared.span.Span.{Span}
use Rattle.env_script.specs.Scripts.{OfferValue, gives, takes, nothing, offer_at, is_over}
use Rattle.env_script.specs.Runs.{history_at}
use Rattle.width_check.specs.Processes.{Process, skipping, assigning, sending, receiving, in_turn, side_by_side, choosing, repeating}
use Rattle.width_check.specs.Values.{value}
use Rattle.chp_meaning.specs.declared.config.Config.{Config}
use Rattle.chp_meaning.specs.declared.effect.Move.{Move}
use Rattle.chp_meaning.specs.declared.effect.TrueGuards.{TrueGuards}
use Rattle.chp_meaning.specs.declared.effect.TrueGuards.TheVariants.{Zero, One, Several as Many}
use Rattle.chp_meaning.specs.Terms.{Place}
use Rattle.chp_meaning.specs.Steps.{Configuration, Step}
use Rattle.chp_meaning.specs.Rounds.{round}
use Rattle.chp_meaning.specs.Remaining.{Remains, remains_of, term_of, CanRemain, IsRunnable}
use Rattle.chp_meaning.specs.AtOnce.{Outset, plain_move, sent_move, meeting_move, next_of, received_move, choosing_move, true_guards, guards_counted, move_of, moves_of, noted_send, noted_receive, statements, written, written_in, less, used, used_on, passed, passed_on, is_below, number_below, held_values}
use Rattle.chp_meaning.specs.Standing.{offer_of_rest, histories_of, configuration_of, IsStanding, IsUnchanged, IsPlan, HaveMoved, AreWithin, next_outset, next_moves}
use Rattle.chp_meaning.proofs.Places.{In, in_either}
use Rattle.chp_meaning.proofs.Fitting.{Fits}
use Rattle.chp_meaning.proofs.Settling.{all_passed_length}
use Rattle.chp_meaning.proofs.Remainders.{actives, statements_are, lively, advanced_can, advanced_term, left_of, Runs, statements_run}
use Rattle.chp_meaning.proofs.Leaving.{all_left}
use Rattle.chp_meaning.proofs.Tables.{noted_receives, none_there}
use Rattle.chp_meaning.proofs.AtOnceRounds.{outset_for, AllRun, AtOnce, at_once, still_if_none, step_if_some}

-- where each move comes from

in_moves : (o : Outset) (ps : List Process) (w : Move) → In (moves_of o ps) w → (q : Process) × In ps q × (move_of o q ≡ Some w)
in_moves o [] w i = absurd i
in_moves o (p ∷ ps) w i = by_side (in_either (option_to_list (move_of o p)) (moves_of o ps) w i) (in_moves o ps w)
  where
    here : (x : Option Move) → In (option_to_list x) w → x ≡ Some w
    here None j = absurd j
    here (Some u) (inl e) = ap Some e
    here (Some u) (inr j) = absurd j

    by_side : In (option_to_list (move_of o p)) w ⊎ In (moves_of o ps) w → (In (moves_of o ps) w → (q : Process) × In ps q × (move_of o q ≡ Some w)) →
        (q : Process) × In (p ∷ ps) q × (move_of o q ≡ Some w)
    by_side (inl j) rest = (p, inl refl, here (move_of o p) j)
    by_side (inr j) rest = let r = rest j in (r.0, inr r.1, r.2)

in_get : {X : Type 0} (xs : List X) (k : ℕ) (d : X) → k < length xs → In xs (get_or xs k d)
in_get [] k d lt = absurd (omega (arith, lt))
in_get (x ∷ xs) zero d lt = inl refl
in_get (x ∷ xs) (suc k) d lt = inr (in_get xs k d (omega (arith, lt)))

pub all_from_in : {X : Type 0} (P : X → Type 0) (xs : List X) → ((x : X) → In xs x → P x) → All P xs
all_from_in P xs h = λ k d lt. h (get_or xs k d) (in_get xs k d lt)

record Within (n m : ℕ) (w : Move) : Type 0 where
  passes : is_below n w.pass ≡ true
  writes : is_below m w.write ≡ true
  uses : number_below n w.uses ≡ true

plain_within : (n m : ℕ) (w : Move) → Some plain_move ≡ Some w → Within n m w
plain_within n m w e = let same : plain_move ≡ w = cc e in subst (Within n m) same (record { passes = refl; writes = refl; uses = refl })

meeting_within : (n m k v : ℕ) (x : Option ℕ) (w : Move) → k < n → ((y : ℕ) → x ≡ Some y → y < m) → meeting_move k v x ≡ Some w → Within n m w
meeting_within n m k v None w lt below e = absurd (cc e)
meeting_within n m k v (Some x) w lt below e =
    let made : Move = record { write = Some (x, v); uses = None; pass = Some (k, v) } in
    let same : made ≡ w = cc e in
    subst (Within n m) same (record { passes = lt-ltb k n lt; writes = lt-ltb x m (below x refl); uses = refl })

sent_within : (n m : ℕ) (o : Outset) (k v : ℕ) (offer : OfferValue) (w : Move) → k < n → ((y : ℕ) → slice_index_or o.receives k None ≡ Some y → y < m) →
    sent_move o k v offer ≡ Some w → Within n m w
sent_within n m o k v (gives vs) w lt below e = absurd (cc e)
sent_within n m o k v nothing w lt below e = meeting_within n m k v (slice_index_or o.receives k None) w lt below e
sent_within n m o k v (takes count) w lt below e = by_count (is_over count 0) e
  where
    made : Move
    made = record { write = None; uses = Some k; pass = Some (k, v) }

    by_count : (b : Bool) → (if b then Some (record { write = None; uses = Some k; pass = Some (k, v) }) else None) ≡ Some w → Within n m w
    by_count true g = let same : ◌≡◌ {A = Move} (record { write = None; uses = Some k; pass = Some (k, v) }) w = cc g in
        subst (Within n m) same (record { passes = lt-ltb k n lt; writes = refl; uses = lt-ltb k n lt })
    by_count false g = absurd (cc g)

received_within : (n m k x : ℕ) (v : Option ℕ) (w : Move) → k < n → x < m → received_move k x v ≡ Some w → Within n m w
received_within n m k x None w lt below e = absurd (cc e)
received_within n m k x (Some v) w lt below e =
    let same : ◌≡◌ {A = Move} (record { write = Some (x, v); uses = Some k; pass = Some (k, v) }) w = cc e in
    subst (Within n m) same (record { passes = lt-ltb k n lt; writes = lt-ltb x m below; uses = lt-ltb k n lt })

chosen_within : (n m : ℕ) (again : Bool) (g : TrueGuards) (w : Move) → choosing_move again g ≡ Some w → Within n m w
chosen_within n m true Zero w e = plain_within n m w e
chosen_within n m false Zero w e = absurd (cc e)
chosen_within n m true (One k) w e = plain_within n m w e
chosen_within n m false (One k) w e = plain_within n m w e
chosen_within n m true Many w e = absurd (cc e)
chosen_within n m false Many w e = absurd (cc e)

move_within : (n m : ℕ) (o : Outset) (q : Process) (w : Move) → IsRunnable n m q → ((k y : ℕ) → slice_index_or o.receives k None ≡ Some y → y < m) →
    move_of o q ≡ Some w → Within n m w
move_within n m o skipping w r below e = plain_within n m w e
move_within n m o (assigning x s i) w r below e =
    let same : ◌≡◌ {A = Move} (record { write = Some (x, value (λ j. slice_index_or o.store j 0) i); uses = None; pass = None }) w = cc e in
    subst (Within n m) same (record { passes = refl; writes = lt-ltb x m r.0; uses = refl })
move_within n m o (sending k s i) w r below e = sent_within n m o k (value (λ j. slice_index_or o.store j 0) i) (offer_at o.rests k) w r.0 (below k) e
move_within n m o (receiving k s x t) w r below e = received_within n m k x (next_of (offer_at o.rests k)) w r.0 r.1 e
move_within n m o (in_turn ms) w r below e = absurd (cc e)
move_within n m o (side_by_side ms) w r below e = absurd (cc e)
move_within n m o (choosing again cs) w r below e = chosen_within n m again (guards_counted (true_guards o.store 0 cs)) w e
move_within n m o (repeating p) w r below e = plain_within n m w e

-- how a program stands

all_run : (body : Process) (c : Config) → IsStanding body c → (q : Process) → In (statements body (remains_of c.left)) q →
    Runs (length c.rests.items) (length c.store.items) q
all_run body c s q i = statements_run (length c.rests.items) (length c.store.items) body (remains_of c.left) s.runnable s.remains q i

noted_below : (body : Process) (c : Config) → IsStanding body c → (k y : ℕ) → slice_index_or (next_outset body c).receives k None ≡ Some y →
    y < length c.store.items
noted_below body c s k y e = by_case (noted_receives (statements body (remains_of c.left)) (replicate (length c.rests.items) None) k y e)
  where
    by_case : (get_or (replicate (length c.rests.items) None) k None ≡ Some y) ⊎ ((a : Span) × (b : Span)
        × In (statements body (remains_of c.left)) (receiving k a y b)) → y < length c.store.items
    by_case (inl g) = absurd (cc (sym (none_there (length c.rests.items) k None) ∙ g))
    by_case (inr (a, b, i)) = (all_run body c s (receiving k a y b) i).0.1

each_within : (body : Process) (c : Config) → IsStanding body c → (w : Move) → In (next_moves body c) w → Within (length c.rests.items) (length c.store.items) w
each_within body c s w i =
    let r = in_moves (next_outset body c) (statements body (remains_of c.left)) w i in
    move_within (length c.rests.items) (length c.store.items) (next_outset body c) r.0 w (all_run body c s r.0 r.1).0 (noted_below body c s) r.2

pub plan_within : (body : Process) (c : Config) (moves : List Move) → IsStanding body c → moves ≡ next_moves body c → AreWithin c moves
plan_within body c moves s e = subst (AreWithin c) (sym e) (record {
  passes = all_from_in (λ (w : Move). is_below (length c.histories.items) w.pass ≡ true) (next_moves body c)
      (λ w i. subst (λ n. is_below n w.pass ≡ true) (sym s.histories) (each_within body c s w i).passes);
  writes = all_from_in (λ (w : Move). is_below (length c.store.items) w.write ≡ true) (next_moves body c) (λ w i. (each_within body c s w i).writes);
  uses = all_from_in (λ (w : Move). number_below (length c.rests.items) w.uses ≡ true) (next_moves body c) (λ w i. (each_within body c s w i).uses);
})

-- lengths stay

written_length : (store : List ℕ) (ms : List Move) → length (fold written store ms) ≡ length store
written_length store [] = refl
written_length store (w ∷ ms) = written_length (written store w) ms ∙ one w.write
  where
    one : (x : Option (ℕ × ℕ)) → length (written_in store x) ≡ length store
    one None = refl
    one (Some p) = length-set store p.0 p.1

used_length : (rests : List OfferValue) (ms : List Move) → length (fold used rests ms) ≡ length rests
used_length rests [] = refl
used_length rests (w ∷ ms) = used_length (used rests w) ms ∙ one w.uses
  where
    one : (x : Option ℕ) → length (used_on rests x) ≡ length rests
    one None = refl
    one (Some k) = length-set rests k (less (offer_at rests k))

settled_rests : (c d : Config) (left : Remains) (moves : List Move) → HaveMoved c d left moves → length d.rests.items ≡ length c.rests.items
settled_rests c d left moves s =
    sym (length-map d.rests.items offer_of_rest) ∙ (ap (λ (xs : List OfferValue). length xs) s.rests
    ∙ (used_length (map offer_of_rest c.rests.items) moves ∙ length-map c.rests.items offer_of_rest))

settled_store : (c d : Config) (left : Remains) (moves : List Move) → HaveMoved c d left moves → length d.store.items ≡ length c.store.items
settled_store c d left moves s = ap (λ (xs : List ℕ). length xs) s.store ∙ written_length c.store.items moves

settled_histories : (c d : Config) (left : Remains) (moves : List Move) → HaveMoved c d left moves → length d.histories.items ≡ length c.histories.items
settled_histories c d left moves s =
    sym (length-map d.histories.items (λ h. h.items))
    ∙ (ap (λ (xs : List (List ℕ)). length xs) s.histories ∙ (all_passed_length (histories_of c) moves ∙ length-map c.histories.items (λ h. h.items)))

pub settled_stands : (body : Process) (c d : Config) (left : Remains) (moves : List Move) → IsStanding body c → IsPlan body c left moves →
    HaveMoved c d left moves → IsStanding body d
settled_stands body c d left moves s p t =
    let n = settled_rests c d left moves t in
    let m = settled_store c d left moves t in
    record {
      runnable = subst (λ k. IsRunnable k (length d.store.items) body) (sym n) (subst (λ k. IsRunnable (length c.rests.items) k body) (sym m) s.runnable);
      remains = subst (CanRemain body) (sym (t.left_is ∙ p.left_is))
          (advanced_can (length c.rests.items) (length c.store.items) (next_outset body c) body (remains_of c.left) s.runnable s.remains);
      histories = settled_histories c d left moves t ∙ (s.histories ∙ sym n);
      sends = t.sends ∙ (s.sends ∙ ap (λ k. replicate k false) (sym n));
      receives = t.receives ∙ (s.receives ∙ ap (λ k. replicate k None) (sym n));
    }

-- what was planned is the round

pub outset_same : (body : Process) (c : Config) → outset_for (configuration_of body c) ≡ next_outset body c
outset_same body c =
    let ss : actives (term_of body (remains_of c.left)) ≡ statements body (remains_of c.left) = sym (statements_are body (remains_of c.left)) in
    let n : length (map offer_of_rest c.rests.items) ≡ length c.rests.items = length-map c.rests.items offer_of_rest in
    ap (λ (k : ℕ). outset_of k (actives (term_of body (remains_of c.left)))) n ∙ ap (λ (ps : List Process). outset_of (length c.rests.items) ps) ss
  where
    outset_of : ℕ → List Process → Outset
    outset_of k ps = record {
      store = c.store.items;
      rests = map offer_of_rest c.rests.items;
      sends = fold (noted_send true) (replicate k false) ps;
      receives =
          fold (noted_receive true) (replicate k None) ps;
    }

pub runs_all : (body : Process) (c : Config) → IsStanding body c → AllRun (configuration_of body c) (length c.store.items)
runs_all body c s q i =
    let j = subst (λ (ps : List Process). In ps q) (sym (statements_are body (remains_of c.left))) i in
    subst (λ k. Runs k (length c.store.items) q) (sym (length-map c.rests.items offer_of_rest)) (all_run body c s q j)

round_parts : (body : Process) (c : Config) → IsStanding body c → Fits (configuration_of body c).term → AtOnce (configuration_of body c)
round_parts body c s f = at_once (configuration_of body c) (length c.store.items) f (lively body (remains_of c.left) s.remains) (runs_all body c s)

moves_same : (body : Process) (c : Config) → moves_of (outset_for (configuration_of body c)) (actives (configuration_of body c).term) ≡ next_moves body c
moves_same body c = ap (λ o. moves_of o (actives (term_of body (remains_of c.left)))) (outset_same body c)
    ∙ ap (moves_of (next_outset body c)) (sym (statements_are body (remains_of c.left)))

same_parts : (c d : Configuration) → c.term ≡ d.term → c.store ≡ d.store → c.rests ≡ d.rests → c.histories ≡ d.histories → c ≡ d
same_parts c d e f g h = λ i. record { term = e i; store = f i; rests = g i; histories = h i }

pub settled_round : (body : Process) (c d : Config) (left : Remains) (moves : List Move) → IsStanding body c → Fits (configuration_of body c).term →
    IsPlan body c left moves → HaveMoved c d left moves → configuration_of body d ≡ round (configuration_of body c)
settled_round body c d left moves s f p t =
    let r = round_parts body c s f in
    let ms : moves ≡ moves_of (outset_for (configuration_of body c)) (actives (configuration_of body c).term) = p.moves_are ∙ sym (moves_same body c) in
    same_parts (configuration_of body d) (round (configuration_of body c))
    (ap (term_of body) (t.left_is ∙ p.left_is)
    ∙ (advanced_term (length c.rests.items) (length c.store.items) (next_outset body c) body (remains_of c.left) s.runnable s.remains
    ∙ (ap (λ o. all_left (left_of o) (term_of body (remains_of c.left))) (sym (outset_same body c)) ∙ sym r.term)))
    (t.store ∙ (ap (fold written c.store.items) ms ∙ sym r.store))
    (t.rests ∙ (ap (fold used (map offer_of_rest c.rests.items)) ms ∙ sym r.rests))
    (t.histories ∙ (ap (fold passed (histories_of c)) ms ∙ sym r.histories))

pub no_step_planned : (body : Process) (c : Config) → IsStanding body c → Fits (configuration_of body c).term → next_moves body c ≡ [] →
    (at : Place) (d : Configuration) → ¬ Step (configuration_of body c) at d
no_step_planned body c s f e = still_if_none (configuration_of body c) (length c.store.items) f (runs_all body c s) (moves_same body c ∙ e)

pub step_planned : (body : Process) (c : Config) (w : Move) (ws : List Move) → next_moves body c ≡ w ∷ ws →
    (at : Place) × (d : Configuration) × Step (configuration_of body c) at d
step_planned body c w ws e = step_if_some (configuration_of body c) w ws (moves_same body c ∙ e)

-- nothing has changed

pub unchanged_same : (body : Process) (c d : Config) → IsUnchanged c d → configuration_of body d ≡ configuration_of body c
unchanged_same body c d u = same_parts (configuration_of body d) (configuration_of body c) (ap (λ l. term_of body (remains_of l)) u.left_is) u.store
    (ap (λ v. map offer_of_rest v.items) u.rests) u.histories

-- how many values have passed

pub held_set : (hs : List (List ℕ)) (k : ℕ) (h : List ℕ) → k < length hs → held_values (set hs k (get_or hs k [] ++ h)) ≡ held_values hs + length h
held_set [] k h lt = absurd (omega (arith, lt))
held_set (x ∷ xs) zero h lt = omega (arith, sum_by-cons length (x ++ h) xs, sum_by-cons length x xs, length-append x h)
held_set (x ∷ xs) (suc k) h lt = omega (
  arith,
  sum_by-cons length x (set xs k (get_or xs k [] ++ h)),
  sum_by-cons length x xs,
  held_set xs k h (omega (arith, lt)),
)

abbrev pub passing : List Move → ℕ
passing ms = count_by (λ (w : Move). is_some w.pass) ms

one_held : (hs : List (List ℕ)) (x : Option (ℕ × ℕ)) → is_below (length hs) x ≡ true → held_values (passed_on hs x) ≡ held_values hs + cond (is_some x) 1 0
one_held hs None b = omega arith
one_held hs (Some p) b = held_set hs p.0 (p.1 ∷ []) (ltb-true p.0 (length hs) b)

passed_length : (hs : List (List ℕ)) (x : Option (ℕ × ℕ)) → length (passed_on hs x) ≡ length hs
passed_length hs None = refl
passed_length hs (Some p) = length-set hs p.0 (history_at hs p.0 ++ p.1 ∷ [])

pub held_passed : (ms : List Move) (hs : List (List ℕ)) → ((w : Move) → In ms w → is_below (length hs) w.pass ≡ true) →
    held_values (fold passed hs ms) ≡ held_values hs + passing ms
held_passed [] hs below = omega arith
held_passed (w ∷ ms) hs below =
    let next = held_passed ms (passed hs w) (λ u i. subst (λ n. is_below n u.pass ≡ true) (sym (passed_length hs w.pass)) (below u (inr i))) in
    omega (arith, next, one_held hs w.pass (below w (inl refl)), sum_by-cons (λ (x : Move). cond (is_some x.pass) 1 0) w ms)

pub settled_held : (body : Process) (c d : Config) (left : Remains) (moves : List Move) → IsStanding body c → IsPlan body c left moves →
    HaveMoved c d left moves → held_values (histories_of d) ≡ held_values (histories_of c) + passing moves
settled_held body c d left moves s p t =
    ap held_values t.histories ∙ held_passed moves (histories_of c) (λ w i.
    let j = subst (λ (ms : List Move). In ms w) p.moves_are i in
    subst (λ n. is_below n w.pass ≡ true) (sym (length-map c.histories.items (λ h. h.items) ∙ s.histories)) (each_within body c s w j).passes)

-- a plan stays one where nothing has changed

pub within_after : (c d : Config) (moves : List Move) → IsUnchanged c d → AreWithin c moves → AreWithin d moves
within_after c d moves u w =
    let n : length d.rests.items ≡ length c.rests.items = ap (λ v. length v.items) u.rests in
    let m : length d.store.items ≡ length c.store.items = ap (λ (xs : List ℕ). length xs) u.store in
    let h : length d.histories.items ≡ length c.histories.items = sym (length-map d.histories.items (λ x. x.items))
    ∙ (ap (λ (xs : List (List ℕ)). length xs) u.histories ∙ length-map c.histories.items (λ x. x.items)) in
    record {
      passes = subst (λ k. All (λ (x : Move). is_below k x.pass ≡ true) moves) (sym h) w.passes;
      writes = subst (λ k. All (λ (x : Move). is_below k x.write ≡ true) moves) (sym m) w.writes;
      uses = subst (λ k. All (λ (x : Move). number_below k x.uses ≡ true) moves) (sym n) w.uses;
    }

pub settled_after : (c d e : Config) (left : Remains) (moves : List Move) → IsUnchanged c d → HaveMoved d e left moves → HaveMoved c e left moves
settled_after c d e left moves u s = record {
  left_is = s.left_is;
  store = s.store ∙ ap (λ xs. fold written xs moves) u.store;
  rests = s.rests ∙ ap (λ v. fold used (map offer_of_rest v.items) moves) u.rests;
  histories = s.histories ∙ ap (λ hs. fold passed hs moves) u.histories;
  sends = s.sends ∙ u.sends;
  receives = s.receives ∙ u.receives;
}

-- the same where what is left is told as a change of what was left
pub settled_changed : (c d e : Config) (f : Remains → Remains) (moves : List Move) → IsUnchanged c d → HaveMoved d e (f (remains_of d.left)) moves →
    HaveMoved c e (f (remains_of c.left)) moves
settled_changed c d e f moves u s =
    settled_after c d e (f (remains_of c.left)) moves u (subst (λ l. HaveMoved d e (f (remains_of l)) moves) u.left_is s)

pub unchanged_self : (c : Config) → IsUnchanged c c
unchanged_self c = record { left_is = refl; store = refl; rests = refl; histories = refl; sends = refl; receives = refl }

pub unchanged_after : (c d e : Config) → IsUnchanged c d → IsUnchanged d e → IsUnchanged c e
unchanged_after c d e u v = record {
  left_is = v.left_is ∙ u.left_is;
  store = v.store ∙ u.store;
  rests = v.rests ∙ u.rests;
  histories = v.histories ∙ u.histories;
  sends = v.sends ∙ u.sends;
  receives = v.receives ∙ u.receives;
}

pub planned_of : (body : Process) (c : Config) (left : Remains) (all some : List Move) → some ≡ all → IsPlan body c left all → IsPlan body c left some
planned_of body c left all some e p = record { left_is = p.left_is; moves_are = e ∙ p.moves_are }

pub planned_held : (body : Process) (c : Config) (left : Remains) (moves : List Move) → IsStanding body c → Fits (configuration_of body c).term →
    IsPlan body c left moves → held_values (round (configuration_of body c)).histories ≡ held_values (histories_of c) + passing moves
planned_held body c left moves s f p =
    let r = round_parts body c s f in
    let ms : moves ≡ moves_of (outset_for (configuration_of body c)) (actives (configuration_of body c).term) = p.moves_are ∙ sym (moves_same body c) in
    ap held_values (r.histories ∙ ap (fold passed (histories_of c)) (sym ms)) ∙ held_passed moves (histories_of c) (λ w i.
    let j = subst (λ (xs : List Move). In xs w) p.moves_are i in
    subst (λ n. is_below n w.pass ≡ true) (sym (length-map c.histories.items (λ h. h.items) ∙ s.histories)) (each_within body c s w j).passes)
