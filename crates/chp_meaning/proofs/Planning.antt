-- What a plan makes of each statement.
use Rattle.std.proofs.Common.{◌≡◌, ℕ, suc, ◌+◌, ◌<◌, ◌≤◌, Bool, true, false, List, [], ◌∷◌, ◌++◌, length, get_or, drop, refl, sym, ap, ◌∙◌, subst, inl, inr, arith}
use Rattle.std.specs.Prelude.{if◌then◌else◌, ◌==◌, slice_index, fold, option_to_list, Option}
use Rattle.std.proofs.lemmas.List.{drop_more, drop_all, length-set, append_assoc, append-nil}
use Rattle.std.specs.declared.alloc.Global.{Global}
use Rattle.std.specs.declared.boxed.Box.{Box}
use Rattle.std.specs.declared.vec.Vec.{Vec}
use Rattle.width_check.specs.declared.typed.TStmt.{TStmt, Select}
use Rattle.width_check.specs.declared.typed.TArm.{TArm}
use Rattle.width_check.specs.Processes.{Process, skipping, assigning, sending, receiving, in_turn, side_by_side, choosing, repeating, Choices, no_choices, and_choice, choice_count}
use Rattle.width_check.specs.Values.{value}
use Rattle.width_check.specs.View.{process_of, choices_in}
use Rattle.chp_meaning.specs.declared.effect.TrueGuards.{TrueGuards}
use Rattle.chp_meaning.specs.declared.effect.TrueGuards.TheVariants.{Zero, One, Several as Many}
use Rattle.chp_meaning.specs.declared.left.Left.{Left, Branches, Inside}
use Rattle.chp_meaning.specs.declared.config.Config.{Config}
use Rattle.chp_meaning.specs.Remaining.{no_more, and_left, remains_of, several_of, part_of, part_count, CanRemain, EachCanRemain, IsRunnable, RunsOn, ChoicesRunnable, GuardsHaveValues}
use Rattle.chp_meaning.specs.AtOnce.{Outset, true_guards, guards_counted, choosing_move, HasBranch, move_of, chosen_remains, step_remains, statements, each_statements, moves_of, noted_send, noted_receive, if_waiting}
use Rattle.chp_meaning.specs.Standing.{CanRun}
use Rattle.chp_meaning.proofs.Places.{In}
use Rattle.chp_meaning.proofs.Rows.{select_said, inside_said, branches_said, count_lefts, part_runnable}

-- a selection

guards_formed : (n m : ℕ) (cs : Choices) → ChoicesRunnable n m cs → GuardsHaveValues cs
guards_formed n m no_choices r = tt
guards_formed n m (and_choice g p more) r = (r.0, guards_formed n m more r.2)

pub guards_have : (n m : ℕ) (s : TStmt) (again : Bool) (v : Vec TArm Global) (xs : List TArm) → s ≡ Select again v → xs ≡ v.items →
    IsRunnable n m (process_of s) → GuardsHaveValues (choices_in xs)
guards_have n m s again v xs is same r =
    subst (λ (ys : List TArm). GuardsHaveValues (choices_in ys)) (sym same)
    (guards_formed n m (choices_in v.items) (subst (λ p. IsRunnable n m p) (select_said s again v is) r))

guards_below : (store : List ℕ) (j : ℕ) (cs : Choices) (k : ℕ) → In (true_guards store j cs) k → k < j + choice_count cs
guards_below store j no_choices k i = absurd i
guards_below store j (and_choice g p more) k i = by_test (value (slice_index store) g == 1) i (guards_below store (j + 1) more k)
  where
    by_test : (b : Bool) → In (if b then j ∷ true_guards store (j + 1) more else true_guards store (j + 1) more) k →
        (In (true_guards store (j + 1) more) k → k < j + 1 + choice_count more) → k < j + suc (choice_count more)
    by_test true (inl e) rest = omega (arith, e)
    by_test true (inr h) rest = omega (arith, rest h)
    by_test false h rest = omega (arith, rest h)

one_counted : (ks : List ℕ) (k : ℕ) → One k ≡ guards_counted ks → In ks k
one_counted [] k e = absurd (cc e)
one_counted (j ∷ []) k e = inl (cc e)
one_counted (j ∷ i ∷ ks) k e = absurd (cc e)

pub one_below : (store : List ℕ) (cs : Choices) (k : ℕ) → One k ≡ guards_counted (true_guards store 0 cs) → k < choice_count cs
one_below store cs k e = let below = guards_below store 0 cs k (one_counted (true_guards store 0 cs) k e) in omega (arith, below)

pub one_within : (store : List ℕ) (s : TStmt) (again : Bool) (v : Vec TArm Global) (xs : List TArm) (k : ℕ) → s ≡ Select again v → xs ≡ v.items →
    One k ≡ guards_counted (true_guards store 0 (choices_in xs)) → k < part_count (process_of s)
one_within store s again v xs k is same e =
    let below = guards_below store 0 (choices_in xs) k (one_counted (true_guards store 0 (choices_in xs)) k e) in
    let count : choice_count (choices_in xs) ≡ part_count (process_of s) = ap (λ (ys : List TArm). choice_count (choices_in ys)) same
    ∙ ap part_count (sym (select_said s again v is)) in
    omega (arith, below, count)

pub has_branch : (store : List ℕ) (s : TStmt) (again : Bool) (v : Vec TArm Global) (xs : List TArm) (g : TrueGuards) → s ≡ Select again v → xs ≡ v.items →
    g ≡ guards_counted (true_guards store 0 (choices_in xs)) → HasBranch (process_of s) g
has_branch store s again v xs Zero is same e = tt
has_branch store s again v xs (One k) is same e = one_within store s again v xs k is same e
has_branch store s again v xs Many is same e = tt

pub select_remains : (o : Outset) (s : TStmt) (again : Bool) (v : Vec TArm Global) (xs : List TArm) (g : TrueGuards) → s ≡ Select again v → xs ≡ v.items →
    g ≡ guards_counted (true_guards o.store 0 (choices_in xs))
    → step_remains o (process_of s) ≡ chosen_remains (process_of s) again g
select_remains o s again v xs g is same e =
    ap (step_remains o) (select_said s again v is)
    ∙ (ap (λ p. chosen_remains p again (guards_counted (true_guards o.store 0 (choices_in v.items)))) (sym (select_said s again v is))
    ∙ ap (chosen_remains (process_of s) again) (ap (λ (ys : List TArm). guards_counted (true_guards o.store 0 (choices_in ys))) (sym same) ∙ sym e))

pub select_move : (o : Outset) (s : TStmt) (again : Bool) (v : Vec TArm Global) (xs : List TArm) (g : TrueGuards) → s ≡ Select again v → xs ≡ v.items →
    g ≡ guards_counted (true_guards o.store 0 (choices_in xs))
    → move_of o (process_of s) ≡ choosing_move again g
select_move o s again v xs g is same e =
    ap (move_of o) (select_said s again v is)
    ∙ ap (choosing_move again) (ap (λ (ys : List TArm). guards_counted (true_guards o.store 0 (choices_in ys))) (sym same) ∙ sym e)

-- what is left of a part

pub inner_remains : (l : Left) (k : ℕ) (b : Box Left Global) (p : Process) → l ≡ Inside k b → CanRemain p (remains_of l) →
    (k < part_count p) × CanRemain (part_of p k) (remains_of b.value)
inner_remains l k b p is h = let r = subst (λ x. CanRemain p x) (inside_said l k b is) h in (r.0, r.3)

pub branch_remains : (l : Left) (v : Vec Left Global) (p : Process) → l ≡ Branches v → CanRemain p (remains_of l) →
    (length v.items ≡ part_count p) × EachCanRemain p 0 (several_of v.items)
branch_remains l v p is h = let r = subst (λ x. CanRemain p x) (branches_said l v is) h in (sym (count_lefts v.items) ∙ r.1, r.3)

pub left_more : (xs : List Left) (i : ℕ) (x : Left) → i < length xs → x ≡ get_or xs i x →
    several_of (drop i xs) ≡ and_left (remains_of x) (several_of (drop (i + 1) xs))
left_more xs i x lt at = ap several_of (drop_more xs i x lt) ∙ ap (λ y. and_left (remains_of y) (several_of (drop (i + 1) xs))) (sym at)

pub no_left_more : (xs : List Left) (i : ℕ) → length xs ≤ i → several_of (drop i xs) ≡ no_more
no_left_more xs i all = ap several_of (drop_all i xs all)

pub remains_more : (p : Process) (xs : List Left) (i : ℕ) (x : Left) → i < length xs → x ≡ get_or xs i x → EachCanRemain p i (several_of (drop i xs)) →
    CanRemain (part_of p i) (remains_of x) × EachCanRemain p (suc i) (several_of (drop (i + 1) xs))
remains_more p xs i x lt at h = subst (EachCanRemain p i) (left_more xs i x lt at) h

pub runs_part : (n : ℕ) (p : Process) (k : ℕ) → k < part_count p → RunsOn n p → RunsOn n (part_of p k)
runs_part n p k lt r = (r.0, part_runnable n r.0 p k lt r.1)

pub carries_part : (c : Config) (p : Process) (k : ℕ) → k < part_count p → CanRun c p → CanRun c (part_of p k)
carries_part c p k lt r = record { tables = r.tables; numbers = part_runnable (length c.rests.items) (length c.store.items) p k lt r.numbers }

-- what is noted

pub send_length : (w : Bool) (sends : List Bool) (p : Process) → length (noted_send w sends p) ≡ length sends
send_length w sends skipping = refl
send_length w sends (assigning x s e) = refl
send_length w sends (sending k s e) = length-set sends k w
send_length w sends (receiving k s x t) = refl
send_length w sends (in_turn ms) = refl
send_length w sends (side_by_side ms) = refl
send_length w sends (choosing again cs) = refl
send_length w sends (repeating p) = refl

pub receive_length : (w : Bool) (receives : List (Option ℕ)) (p : Process) → length (noted_receive w receives p) ≡ length receives
receive_length w receives skipping = refl
receive_length w receives (assigning x s e) = refl
receive_length w receives (sending k s e) = refl
receive_length w receives (receiving k s x t) = length-set receives k (if_waiting w x)
receive_length w receives (in_turn ms) = refl
receive_length w receives (side_by_side ms) = refl
receive_length w receives (choosing again cs) = refl
receive_length w receives (repeating p) = refl

pub sends_length : (w : Bool) (sends : List Bool) (ps : List Process) → length (fold (noted_send w) sends ps) ≡ length sends
sends_length w sends [] = refl
sends_length w sends (p ∷ ps) = sends_length w (noted_send w sends p) ps ∙ send_length w sends p

pub receives_length : (w : Bool) (receives : List (Option ℕ)) (ps : List Process) → length (fold (noted_receive w) receives ps) ≡ length receives
receives_length w receives [] = refl
receives_length w receives (p ∷ ps) = receives_length w (noted_receive w receives p) ps ∙ receive_length w receives p

pub statements_more : (p : Process) (xs : List Left) (i : ℕ) (x : Left) → i < length xs → x ≡ get_or xs i x
    → each_statements p i (several_of (drop i xs)) ≡ statements (part_of p i) (remains_of x) ++ each_statements p (i + 1) (several_of (drop (i + 1) xs))
statements_more p xs i x lt at =
    let e : suc i ≡ i + 1 = omega arith in
    ap (each_statements p i) (left_more xs i x lt at) ∙ ap (λ k. statements (part_of p i) (remains_of x) ++ each_statements p k (several_of (drop (i + 1) xs)))
    e

pub folded_start : {B : Type 0} (f : B → Process → B) (p : Process) (l : Left) (v : Vec Left Global) (xs : List Left) (b : B) → l ≡ Branches v → xs ≡ v.items
    → fold f b (each_statements p 0 (several_of (drop 0 xs))) ≡ fold f b (statements p (remains_of l))
folded_start f p l v xs b is same = ap (λ (ys : List Left). fold f b (each_statements p 0 (several_of ys))) same
    ∙ ap (λ r. fold f b (statements p r)) (sym (branches_said l v is))

pub remains_start : (l : Left) (v : Vec Left Global) (xs : List Left) (p : Process) → l ≡ Branches v → xs ≡ v.items → CanRemain p (remains_of l) →
    (length xs ≡ part_count p) × EachCanRemain p 0 (several_of (drop 0 xs))
remains_start l v xs p is same h =
    let r = branch_remains l v p is h in
    (ap (λ (ys : List Left). length ys) same ∙ r.0, subst (λ (ys : List Left). EachCanRemain p 0 (several_of ys)) (sym same) r.1)

pub remains_next : (p : Process) (xs : List Left) (i : ℕ) (x : Left) → i < length xs → x ≡ get_or xs i x → EachCanRemain p i (several_of (drop i xs)) →
    EachCanRemain p (i + 1) (several_of (drop (i + 1) xs))
remains_next p xs i x lt at h =
    let e : suc i ≡ i + 1 = omega arith in
    subst (λ k. EachCanRemain p k (several_of (drop (i + 1) xs))) e (remains_more p xs i x lt at h).1

-- what is planned

pub moves_append : (o : Outset) (xs ys : List Process) → moves_of o (xs ++ ys) ≡ moves_of o xs ++ moves_of o ys
moves_append o [] ys = refl
moves_append o (p ∷ xs) ys = ap (λ ms. option_to_list (move_of o p) ++ ms) (moves_append o xs ys)
    ∙ sym (append_assoc (option_to_list (move_of o p)) (moves_of o xs) (moves_of o ys))

-- of lists that are told of statements, one statement after the other

pub told_more : {X : Type 0} (told : List Process → List X) → ((ps qs : List Process) → told (ps ++ qs) ≡ told ps ++ told qs) →
    (p : Process) (xs : List Left) (i : ℕ) (x : Left) (before after all : List X) → i < length xs → x ≡ get_or xs i x →
    after ≡ before ++ told (statements (part_of p i) (remains_of x))
    → before ++ told (each_statements p i (several_of (drop i xs))) ≡ all → after ++ told (each_statements p (i + 1) (several_of (drop (i + 1) xs))) ≡ all
told_more told append p xs i x before after all lt at is so_far =
    let here = statements (part_of p i) (remains_of x) in
    let rest = each_statements p (i + 1) (several_of (drop (i + 1) xs)) in
    ap (λ ms. ms ++ told rest) is
    ∙ (append_assoc before (told here) (told rest)
    ∙ (ap (λ ms. before ++ ms) (sym (append here rest) ∙ ap told (sym (statements_more p xs i x lt at))) ∙ so_far))

pub told_start : {X : Type 0} (told : List Process → List X) (p : Process) (l : Left) (v : Vec Left Global) (xs : List Left) (before : List X) →
    l ≡ Branches v → xs ≡ v.items → before ++ told (each_statements p 0 (several_of (drop 0 xs))) ≡ before ++ told (statements p (remains_of l))
told_start told p l v xs before is same = ap (λ ss. before ++ told ss) (ap (λ (ys : List Left). each_statements p 0 (several_of ys)) same
    ∙ ap (λ r. statements p r) (sym (branches_said l v is)))

pub told_end : {X : Type 0} (told : List Process → List X) (p : Process) (xs : List Left) (i : ℕ) (before all : List X) → told [] ≡ [] → length xs ≤ i →
    before ++ told (each_statements p i (several_of (drop i xs))) ≡ all → before ≡ all
told_end told p xs i before all none le so_far =
    sym (append-nil before) ∙ (ap (λ ms. before ++ ms) (sym none ∙ ap told (ap (each_statements p i) (sym (no_left_more xs i le)))) ∙ so_far)
