-- The net with a reset node is a net.
use Rattle.std.proofs.Common.{◌≡◌, ℕ, ◌+◌, ◌-◌, ◌*◌, ◌<◌, ◌≤◌, Bool, true, false, cond, not, List, [], ◌∷◌, ◌++◌, length, get_or, map, Some, None, refl, ap, sym, ◌∙◌, arith}
use Rattle.std.specs.Prelude.{◌≢◌, All, sum_by, codes}
use Rattle.std.specs.List.{range_with_len}
use Rattle.std.proofs.lemmas.List.{get_or_append_left, get_or_push, length_push}
use Rattle.std.proofs.lemmas.List.Elements.{All-push, All-map, All-weaker, All-nil, All-cons, All-head, All-tail}
use Rattle.std.proofs.lemmas.List.Quantifiers.{all_pairs_push}
use Rattle.std.proofs.lemmas.List.Sums.{sum_by-cons, sum_by_push}
use Rattle.std.proofs.lemmas.List.FromFn.{length-map-range_with_len, get_or-map-range_with_len, fill_by_all, length-range_with_len}
use Rattle.chp_base.specs.Names.{IsNodeName}
use Rattle.chp_base.specs.declared.channel.Kind.{Kind}
use Rattle.chp_base.specs.declared.channel.Kind.TheVariants.{In, Out, Chan}
use Rattle.prs_core.specs.declared.wires.Wires.{Wires}
use Rattle.prs_core.specs.Nets.{GuardValue, NetValue, RulesValue, IsNet, IsBelow, IsFilled, IsUndriven, IsChannel, guard_literals, literals_of, name_at, first_at, up_of, down_of, net_of, net_rules, wires_from_outside}
use Rattle.reset_net.specs.Resets.{reset_guard, reset_up, reset_down, reset_of, has_rules}
use Rattle.reset_net.proofs.Guards.{at_each, guard_below, guard_filled, both_literals, nothing_below}

-- a net of these first values and rules, whose names and channels are left open
abbrev pub bare : List Bool → RulesValue → NetValue
bare first rules = net_of [] first rules [] None

-- what each guard keeps, each guard of the net with a reset node keeps
choice : (P : GuardValue → Type 0) (b : Bool) (g : GuardValue) → P [] → P g → P (cond b g [])
choice P true g none some = some
choice P false g none some = none

pub up_below : (n : NetValue) → All (IsBelow (length n.first)) n.up → (node : ℕ) → IsBelow (length n.first + 1) (reset_up n node)
up_below n within node =
    choice (IsBelow (length n.first + 1)) (has_rules (up_of n node) (down_of n node)) _ (nothing_below _)
    (guard_below (length n.first) (first_at n node) (up_of n node) (at_each (IsBelow (length n.first)) n.up (nothing_below _) within node))

pub down_below : (n : NetValue) → All (IsBelow (length n.first)) n.down → (node : ℕ) → IsBelow (length n.first + 1) (reset_down n node)
down_below n within node =
    choice (IsBelow (length n.first + 1)) (has_rules (up_of n node) (down_of n node)) _ (nothing_below _)
    (guard_below (length n.first) (not (first_at n node)) (down_of n node) (at_each (IsBelow (length n.first)) n.down (nothing_below _) within node))

nothing_filled : IsFilled []
nothing_filled = All-nil (λ t. 0 < length t)

up_filled : (n : NetValue) → IsNet n → (node : ℕ) → IsFilled (reset_up n node)
up_filled n is node =
    choice IsFilled (has_rules (up_of n node) (down_of n node)) _ nothing_filled
    (guard_filled (length n.first) (first_at n node) (up_of n node) (at_each IsFilled n.up nothing_filled is.up_filled node))

down_filled : (n : NetValue) → IsNet n → (node : ℕ) → IsFilled (reset_down n node)
down_filled n is node =
    choice IsFilled (has_rules (up_of n node) (down_of n node)) _ nothing_filled
    (guard_filled (length n.first) (not (first_at n node)) (down_of n node) (at_each IsFilled n.down nothing_filled is.down_filled node))

-- of all nodes together
all_laid : (P : GuardValue → Type 0) (f : ℕ → GuardValue) (count : ℕ) → P [] → ((node : ℕ) → P (f node)) → All P (map f (range_with_len 0 count) ++ [] ∷ [])
all_laid P f count none each = All-push P (map f (range_with_len 0 count)) []
    (All-map P f (range_with_len 0 count) (λ i d within. each (get_or (range_with_len 0 count) i d))) none

-- a node without rules has none with a reset node
undriven_stays : (n : NetValue) (node : ℕ) → node < length n.first → IsUndriven n node → IsUndriven (reset_of n) node
undriven_stays n node within is = record {
  up = laid_at (reset_up n) ∙ rw (is.up, is.down) refl;
  down = laid_at (reset_down n) ∙ rw (is.up, is.down) refl;
}
  where
    laid_at : (f : ℕ → GuardValue) → get_or (map f (range_with_len 0 (length n.first)) ++ [] ∷ []) node [] ≡ f node
    laid_at f =
        get_or_append_left (map f (range_with_len 0 (length n.first))) ([] ∷ []) [] node (omega (arith, length-map-range_with_len f 0 (length n.first)))
        ∙ get_or-map-range_with_len f 0 (length n.first) node node [] within (omega arith)

name_stays : (n : NetValue) (node : ℕ) → node < length n.names → name_at (reset_of n) node ≡ name_at n node
name_stays n node within = get_or_append_left n.names (codes "reset" ∷ []) [] node within

first_stays : (n : NetValue) (node : ℕ) → node < length n.first → first_at (reset_of n) node ≡ first_at n node
first_stays n node within = get_or_append_left n.first (true ∷ []) false node within

names_stay : (n : NetValue) → length n.names ≡ length n.first → (rails : List ℕ) → All (λ rail. rail < length n.first) rails →
    map (name_at (reset_of n)) rails ≡ map (name_at n) rails
names_stay n same [] within = refl
names_stay n same (r ∷ rails) within =
    let here : r < length n.names = omega (arith, All-head (λ rail. rail < length n.first) r rails within) in
    ap (λ x. x ∷ map (name_at (reset_of n)) rails) (name_stays n r here)
    ∙ ap (λ xs. name_at n r ∷ xs) (names_stay n same rails (All-tail (λ rail. rail < length n.first) r rails within))

wider : (n : NetValue) → length n.first < length (reset_of n).first
wider n = omega (arith, length_push n.first true)

lows_stay : (n : NetValue) (rails : List ℕ) → All (λ rail. rail < length n.first) rails → All (λ rail. first_at n rail ≡ false) rails →
    All (λ rail. first_at (reset_of n) rail ≡ false) rails
lows_stay n rails within low = λ i d at. first_stays n (get_or rails i d) (within i d at) ∙ low i d at

outside_within : (k : Kind) (P : ℕ → Type 0) (rails : List ℕ) (ack : ℕ) → All P rails → P ack → All P (wires_from_outside k rails ack)
outside_within In P rails ack each one = each
outside_within Out P rails ack each one = All-cons P ack [] one (All-nil P)
outside_within Chan P rails ack each one = All-nil P

channel_stays : (n : NetValue) → length n.names ≡ length n.first → (w : Wires) → IsChannel n w → IsChannel (reset_of n) w
channel_stays n same w is = record {
  name = is.name;
  some = is.some;
  most = is.most;
  count = is.count;
  rails = names_stay n same w.rails is.rails_within ∙ is.rails;
  rails_within = λ i d at. omega (arith, is.rails_within i d at, wider n);
  rails_low = lows_stay n w.rails is.rails_within is.rails_low;
  ack = name_stays n w.ack (omega (arith, is.ack_within)) ∙ is.ack;
  ack_within = omega (arith, is.ack_within, wider n);
  ack_low = first_stays n w.ack is.ack_within ∙ is.ack_low;
  outside = λ i d at. undriven_stays n _ (outside_within w.channel.kind (λ k. k < length n.first) w.rails w.ack is.rails_within is.ack_within i d at)
      (is.outside i d at);
}

-- the literals

literals_over : (a b c d : ℕ → ℕ) → ((k : ℕ) → a k + b k ≤ 2 * (c k + d k) + 1) → (xs : List ℕ) →
    sum_by a xs + sum_by b xs ≤ 2 * (sum_by c xs + sum_by d xs) + length xs
literals_over a b c d each [] = omega arith
literals_over a b c d each (x ∷ xs) =
    omega (arith, each x, literals_over a b c d each xs, sum_by-cons a x xs, sum_by-cons b x xs, sum_by-cons c x xs, sum_by-cons d x xs)

sum_of_map : (f : ℕ → GuardValue) (xs : List ℕ) → sum_by guard_literals (map f xs) ≡ sum_by (λ k. guard_literals (f k)) xs
sum_of_map f [] = refl
sum_of_map f (x ∷ xs) = sum_by-cons guard_literals (f x) (map f xs) ∙ ap (λ s. guard_literals (f x) + s) (sum_of_map f xs)
    ∙ sym (sum_by-cons (λ k. guard_literals (f k)) x xs)

each_literals : (n : NetValue) → IsNet n → (k : ℕ) →
    guard_literals (reset_up n k) + guard_literals (reset_down n k) ≤ 2 * (guard_literals (up_of n k) + guard_literals (down_of n k)) + 1
each_literals n is k = by_test (has_rules (up_of n k) (down_of n k))
  where
    by_test : (b : Bool) → guard_literals (cond b (reset_guard (length n.first) (first_at n k) (up_of n k)) []) +
        guard_literals (cond b (reset_guard (length n.first) (not (first_at n k)) (down_of n k)) []) ≤ 2 *
        (guard_literals (up_of n k) + guard_literals (down_of n k)) + 1
    by_test true = both_literals (length n.first) (first_at n k) (up_of n k) (down_of n k) (at_each IsFilled n.up nothing_filled is.up_filled k)
        (at_each IsFilled n.down nothing_filled is.down_filled k)
    by_test false = omega arith

laid_literals : (f : ℕ → GuardValue) (count : ℕ) →
    sum_by guard_literals (map f (range_with_len 0 count) ++ [] ∷ []) ≡ sum_by (λ k. guard_literals (f k)) (range_with_len 0 count)
laid_literals f count = sum_by_push guard_literals (map f (range_with_len 0 count)) [] ∙ omega (arith, sum_of_map f (range_with_len 0 count))

own_literals : (gs : List GuardValue) (count : ℕ) → length gs ≡ count →
    sum_by guard_literals gs ≡ sum_by (λ k. guard_literals (get_or gs k [])) (range_with_len 0 count)
own_literals gs count same = ap (sum_by guard_literals) (fill_by_all (λ k. get_or gs k []) gs count [] same (λ k h. refl))
    ∙ sum_of_map (λ k. get_or gs k []) (range_with_len 0 count)

literals_within : (n : NetValue) → IsNet n → literals_of (reset_of n) ≤ 2 * literals_of n + length n.first
literals_within n is =
    let nodes = range_with_len 0 (length n.first) in
    omega (
      arith,
      literals_over (λ k. guard_literals (reset_up n k)) (λ k. guard_literals (reset_down n k)) (λ k. guard_literals (up_of n k))
          (λ k. guard_literals (down_of n k)) (each_literals n is) nodes,
      laid_literals (reset_up n) (length n.first),
      laid_literals (reset_down n) (length n.first),
      own_literals n.up (length n.first) is.ups,
      own_literals n.down (length n.first) is.downs,
      length-range_with_len 0 (length n.first),
    )

reset_named : IsNodeName (codes "reset")
reset_named = record { short = omega arith; first = refl; parts = refl }

pub reset_is_net : (n : NetValue) → IsNet n → n.reset ≡ None → All (λ name. name ≢ codes "reset") n.names → IsNet (reset_of n)
reset_is_net n is plain free =
    let count = length n.first in
    let more : length (n.first ++ true ∷ []) ≡ count + 1 = length_push n.first true in
    let more_names : length (n.names ++ codes "reset" ∷ []) ≡ length n.names + 1 = length_push n.names (codes "reset") in
    let most = rw plain at is.most in
    let literals = rw plain at is.literals in
    let zero_within : 0 < count = omega (arith, is.some) in
    let one_within : 1 < count = omega (arith, is.some) in
    record {
      named = omega (arith, is.named);
      ups = omega (arith, length_push (map (reset_up n) (range_with_len 0 count)) [], length-map-range_with_len (reset_up n) 0 count);
      downs = omega (arith, length_push (map (reset_down n) (range_with_len 0 count)) [], length-map-range_with_len (reset_down n) 0 count);
      some = omega (arith, is.some);
      most = omega (arith, most);
      names = All-push IsNodeName n.names (codes "reset") is.names reset_named;
      distinct = all_pairs_push (λ (a b : List ℕ). a ≢ b) n.names (codes "reset") is.distinct free;
      go = name_stays n 0 (omega (arith, is.named)) ∙ is.go;
      go_low = first_stays n 0 zero_within ∙ is.go_low;
      go_undriven = undriven_stays n 0 zero_within is.go_undriven;
      done = name_stays n 1 (omega (arith, is.named)) ∙ is.done;
      done_low = first_stays n 1 one_within ∙ is.done_low;
      up_within = rw more (all_laid (IsBelow (count + 1)) (reset_up n) count (nothing_below _) (up_below n is.up_within));
      down_within = rw more (all_laid (IsBelow (count + 1)) (reset_down n) count (nothing_below _) (down_below n is.down_within));
      up_filled = all_laid IsFilled (reset_up n) count nothing_filled (up_filled n is);
      down_filled = all_laid IsFilled (reset_down n) count nothing_filled (down_filled n is);
      literals = omega (arith, literals_within n is, most, literals);
      channels = All-weaker (IsChannel n) (IsChannel (reset_of n)) (channel_stays n is.named) n.channels is.channels;
      channels_distinct = is.channels_distinct;
      reset = record {
        last = sym more;
        name = get_or_push n.names (codes "reset") [] count is.named;
        high = get_or_push n.first true false count refl;
        undriven = record {
          up = get_or_push (map (reset_up n) (range_with_len 0 count)) [] [] count (length-map-range_with_len (reset_up n) 0 count);
          down = get_or_push (map (reset_down n) (range_with_len 0 count)) [] [] count (length-map-range_with_len (reset_down n) 0 count);
        };
      };
    }

pub parts_are : (n : NetValue) (names : List (List ℕ)) (first : List Bool) (rules : RulesValue) (channels : List Wires) →
    names ≡ n.names ++ codes "reset" ∷ [] → first ≡ n.first ++ true ∷ [] → rules ≡ net_rules (reset_of n) → channels ≡ n.channels →
    net_of names first rules channels (Some (length first - 1)) ≡ reset_of n
parts_are n names first rules channels a b c d =
    let last : length (n.first ++ true ∷ []) - 1 ≡ length n.first = omega (arith, length_push n.first true) in
    rw (a, b, c, d, last) refl
