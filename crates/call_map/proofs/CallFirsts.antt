-- The first values of both nets: high are one rail of each bit of each variable, and no node of a procedure, since its body has
-- no hidden variables.
--
-- C: the program with calls; P: that with copies; is: what is asked of C; v, u: values of the nodes of the net with shared
-- bodies and of that with copies; q: a procedure; c: a call; k: a place in the list of all other nodes.
use Rattle.std.proofs.Common.{◌≡◌, ◌≢◌, ℕ, zero, suc, ◌+◌, ◌*◌, ◌-◌, ◌/◌, ◌%◌, ◌<◌, ◌≤◌, ◌==◌, Bool, true, false, List, [], ◌∷◌, ◌++◌, map, length, get_or, refl, sym, ap, ◌∙◌, arith, ⊎_elim, length-append}
use Rattle.std.specs.Prelude.{◌||◌, if◌then◌else◌, replicate, slice_index_or}
use Rattle.std.proofs.lemmas.Bool.{cases_lt, cases_eq, eq-eqb, ne_eqb}
use Rattle.std.proofs.lemmas.List.{get_or-replicate, length-replicate}
use Rattle.prs_core.specs.Moves.{high}
use Rattle.width_check.specs.Processes.{Formula, Process, skipping, assigning, sending, receiving, in_turn, side_by_side, choosing, repeating, TypedProgram}
use Rattle.width_check.specs.Reads.{reads}
use Rattle.width_check.specs.Typing.{var_width, IsProcess}
use Rattle.handshake_expand.specs.Layout.{formula_size, through_size, size_of, nodes_of}
use Rattle.handshake_expand.specs.Answers.{answer_of, second_answer}
use Rattle.handshake_expand.specs.Sites.{in_body}
use Rattle.cell_variable.specs.Variables.{high_first}
use Rattle.chp_meaning.specs.Halves.{ReadsNoTarget}
use Rattle.net_compose.specs.Translation.{hidden_high, vars_high, first_values, all_rules}
use Rattle.net_compose.proofs.Sizes.{all_length}
use Rattle.net_compose.proofs.FlatRules.{counted}
use Rattle.net_compose.proofs.FlatBlocks.{blocks_below, side}
use Rattle.net_compose.proofs.FlatFirst.{member, member_append, raised_is, length-raised, high_member, high_at}
use Rattle.net_compose.proofs.PlainPasses.{none_hidden}
use Rattle.net_compose.proofs.HalvedNodes.{Numbered}
use Rattle.net_compose.proofs.NumberedOnce.{nowhere as no_node, node_in, one_place}
use Rattle.call_map.specs.Shared.{Here, plain, asks, answers, enters, body, There, plainly, asked, copied}
use Rattle.call_map.specs.Calling.{called_size, called_sites, IsAtom}
use Rattle.call_map.specs.CallNet.{body_sites, CallProgram, inlined_program, procs_from, call_root, body_at, proc_answer, all_sites, call_rules, call_firsts}
use Rattle.call_map.proofs.Truths.{or_false}
use Rattle.call_map.proofs.Items.{Each, Same, CallPoint}
use Rattle.call_map.proofs.Picks.{any, never_any, IsPick, copy_any, picks_split}
use Rattle.call_map.proofs.CallNodes.{called_long}
use Rattle.call_map.proofs.Ranks.{no_item}
use Rattle.call_map.proofs.Merged.{nowhere}
use Rattle.call_map.proofs.CallNet.{points}
use Rattle.call_map.proofs.CallOrder.{CallFacts, front, front_long, rest_rules, rules_are, order, order_all, order_there, order_there_all}
use Rattle.call_map.proofs.CallPlaces.{its, count_items, plain_test, PlainAt, a_low, an_item, plain_at, low_is_plain, item_is_plain, place, place_there, IsNodeHere, IsNodeThere, one_here, one_there}
use Rattle.call_map.proofs.CallStands.{within_here, within_there, item_plain, at_item_there, at_low, at_low_there}
use Rattle.call_map.proofs.CallShared.{each_of, FirstsFit}

highs_placed : (v u : ℕ → Bool) (n value from to : ℕ) → ((i : ℕ) → i < 5 * n → v (from + i) ≡ u (to + i))
    → map v (high_first n value from) ≡ map u (high_first n value to)
highs_placed v u zero value from to h = refl
highs_placed v u (suc n) value from to h =
    ap (λ b. b ∷ map v (high_first n (value / 2) (from + 5))) (by (value % 2 == 1))
    ∙ ap (λ l. u (if value % 2 == 1 then to else to + 1) ∷ l) (highs_placed v u n (value / 2) (from + 5) (to + 5)
    (λ i l. ap v (let z : from + 5 + i ≡ from + (5 + i) = omega arith in z)
    ∙ (h (5 + i) (omega (arith, l)) ∙ ap u (let z : to + (5 + i) ≡ to + 5 + i = omega arith in z))))
  where
    by : (b : Bool) → v (if b then from else from + 1) ≡ u (if b then to else to + 1)
    by true = ap v (let z : from ≡ from + 0 = omega arith in z) ∙ (h 0 (omega arith) ∙ ap u (let z : to + 0 ≡ to = omega arith in z))
    by false = h 1 (omega arith)

any_member : (m : ℕ) (xs : List ℕ) → any (map (λ n. n == m) xs) ≡ member m xs
any_member m [] = refl
any_member m (x ∷ xs) = ap (λ b. (x == m) || b) (any_member m xs)

module _ (C : CallProgram) (is : CallFacts C) (unread : (q : ℕ) → q < length C.procs → ReadsNoTarget (body_at C q)) where
  abbrev P : TypedProgram
  P = inlined_program C

  abbrev here_of : Here → ℕ
  here_of s = (get_or (order C is) (place C is s) no_node).node

  abbrev there_of : There → ℕ
  there_of t = (get_or (order_there C is) (place_there C is t) no_node).node

  hidden_pick : IsPick P (hidden_high P)
  hidden_pick = record { atoms = atoms }
    where
      assigned : (v u : ℕ → Bool) (x : ℕ) (e : Formula) (b : Bool) → 1 ≤ var_width C.vars x → (from to : ℕ)
          → ((i : ℕ) → i < (if b then through_size (var_width C.vars x) e else 1 + formula_size e)
          → from + i ≢ (if b then second_answer P x from (formula_size e) else from)
          → v (from + i) ≡ u (to + i))
          → map v (if b then high_first (var_width C.vars x) 0 from else []) ≡ map u (if b then high_first (var_width C.vars x) 0 to else [])
      assigned v u x e false some from to same = refl
      assigned v u x e true some from to same = highs_placed v u (var_width C.vars x) 0 from to
          (λ i l. same i (omega (arith, l, some)) (λ z. absurd (let g : ⊥ = omega (arith, z, l, some) in g)))

      atoms : (v u : ℕ → Bool) (p : Process) → IsAtom p → IsProcess P.channels P.vars p → (from to : ℕ)
          → ((i : ℕ) → i < size_of P p → from + i ≢ answer_of P p from → v (from + i) ≡ u (to + i)) → map v (hidden_high P p from) ≡ map u (hidden_high P p to)
      atoms v u skipping a t from to same = refl
      atoms v u (assigning x at e) a t from to same = assigned v u x e (reads x e) (is.some x t.0) from to same
      atoms v u (sending chan at e) a t from to same = refl
      atoms v u (receiving chan at x into) a t from to same = refl
      atoms v u (in_turn _) a t from to same = absurd a
      atoms v u (side_by_side _) a t from to same = absurd a
      atoms v u (choosing _ _) a t from to same = absurd a
      atoms v u (repeating _) a t from to same = absurd a

  none_in_bodies : (bs : List Process) (from : ℕ) → ((q : ℕ) → q < length bs → ReadsNoTarget (slice_index_or bs q skipping))
      → body_sites P (hidden_high P) bs from ≡ []
  none_in_bodies [] from h = refl
  none_in_bodies (b ∷ bs) from h =
      ap (λ l. l ++ body_sites P (hidden_high P) bs (from + 1 + size_of P b)) (none_hidden P b (h 0 (omega arith)) (from + 1))
      ∙ none_in_bodies bs (from + 1 + size_of P b) (λ q l. h (suc q) (omega (arith, l)))

  module _ (v u : ℕ → Bool) where
    none_in_copies : (cs : List CallPoint) → ((k : ℕ) → k < length cs → (get_or cs k nowhere).proc < length C.procs)
        → any (map (copy_any P (hidden_high P) hidden_pick v u C.procs (proc_answer C)) cs) ≡ false
    none_in_copies [] h = refl
    none_in_copies (c ∷ cs) h =
        ap (λ l. any (map u l) || any (map (copy_any P (hidden_high P) hidden_pick v u C.procs (proc_answer C)) cs))
        (none_hidden P (body_at C c.proc) (unread c.proc (h 0 (omega arith))) c.copy)
        ∙ none_in_copies cs (λ k l. h (suc k) (omega (arith, l)))

    -- the hidden rails that are high
    hidden_any : Each (Same v u) (its C is) → any (map u (in_body P (hidden_high P))) ≡ any (map v (all_sites C (hidden_high P)))
    hidden_any same =
        picks_split P (hidden_high P) hidden_pick v u C.procs (proc_answer C) C.body is.atoms is.typed (call_root C) (call_root C + 2) (procs_from C)
        (procs_from C + 2) same.1.1
        ∙ (ap (λ z. any (map v (called_sites C.procs P (hidden_high P) C.body (call_root C + 2))) || z) (none_in_copies (points C) is.within)
        ∙ (or_false (any (map v (called_sites C.procs P (hidden_high P) C.body (call_root C + 2))))
        ∙ ap (λ l. any (map v (l ++ called_sites C.procs P (hidden_high P) C.body (call_root C + 2)))) (sym (none_in_bodies C.procs (procs_from C) unread))))

    pointwise : ((k : ℕ) → plain_test C is (procs_from C + k) ≡ true → k < count_items C is
        → v (here_of (plain (procs_from C + k))) ≡ u (there_of (plainly (procs_from C + k)))) → Each (Same v u) (its C is)
    pointwise h = each_of (Same v u) (its C is) no_item (λ k l off.
        ap v (sym (ap (λ (x : Numbered). x.node) (item_plain C is k l)))
        ∙ (h k (item_is_plain C is k l off) l ∙ ap u (ap (λ (x : Numbered). x.node) (at_item_there C is k l))))

  -- nodes have numbers of their own
  apart_here : (s t : Here) → IsNodeHere C is s → IsNodeHere C is t → s ≢ t → (here_of s == here_of t) ≡ false
  apart_here s t hs ht ne = ne_eqb (here_of s) (here_of t) (λ e. ne (one_here C is s t hs ht
      (one_place (order C is) (call_rules C) (order_all C is) (place C is s) (place C is t) (within_here C is s hs) (within_here C is t ht) e)))

  apart_there : (s t : There) → IsNodeThere C is s → IsNodeThere C is t → s ≢ t → (there_of s == there_of t) ≡ false
  apart_there s t hs ht ne = ne_eqb (there_of s) (there_of t) (λ e. ne (one_there C is s t hs ht
      (one_place (order_there C is) (all_rules P) (order_there_all C is) (place_there C is s) (place_there C is t) (within_there C is s hs)
      (within_there C is t ht) e)))

  plain_key : (k j : ℕ) → plain k ≡ plain j → k ≡ j
  plain_key k j e = cc

  plainly_key : (k j : ℕ) → plainly k ≡ plainly j → k ≡ j
  plainly_key k j e = cc

  abbrev hidden_here : List ℕ
  hidden_here = all_sites C (hidden_high P)

  abbrev hidden_there : List ℕ
  hidden_there = in_body P (hidden_high P)

  -- a node that isn't plain, or is a low one, is no rail of a hidden variable
  none_here : (s : Here) → IsNodeHere C is s → ((k : ℕ) → s ≢ plain (procs_from C + k)) → member (here_of s) hidden_here ≡ false
  none_here s hs ne =
      sym (any_member (here_of s) hidden_here)
      ∙ (sym (hidden_any (λ n. n == here_of s) (λ n. false) (pointwise (λ n. n == here_of s) (λ n. false)
      (λ k h l. apart_here (plain (procs_from C + k)) s h hs (λ e. ne k (sym e))))) ∙ never_any hidden_there)

  none_there : (t : There) → IsNodeThere C is t → ((k : ℕ) → t ≢ plainly (procs_from C + k)) → member (there_of t) hidden_there ≡ false
  none_there t ht ne =
      sym (any_member (there_of t) hidden_there)
      ∙ (hidden_any (λ n. false) (λ n. n == there_of t) (pointwise (λ n. false) (λ n. n == there_of t)
      (λ k h l. sym (apart_there (plainly (procs_from C + k)) t h ht (λ e. ne k (sym e))))) ∙ never_any hidden_here)

  both_same : (j : ℕ) → plain_test C is (procs_from C + j) ≡ true
      → member (here_of (plain (procs_from C + j))) hidden_here ≡ member (there_of (plainly (procs_from C + j))) hidden_there
  both_same j hj =
      let a = here_of (plain (procs_from C + j)) in
      let b = there_of (plainly (procs_from C + j)) in
      sym (any_member a hidden_here)
      ∙ (sym (hidden_any (λ n. n == a) (λ n. n == b) (pointwise (λ n. n == a) (λ n. n == b) (λ k h l. ⊎_elim
      (λ (e : k ≡ j). eq-eqb (here_of (plain (procs_from C + k))) a (ap (λ i. here_of (plain (procs_from C + i))) e)
      ∙ sym (eq-eqb (there_of (plainly (procs_from C + k))) b (ap (λ i. there_of (plainly (procs_from C + i))) e)))
      (λ (ne : k ≢ j). apart_here (plain (procs_from C + k)) (plain (procs_from C + j)) h hj
      (λ e. ne (let z = plain_key (procs_from C + k) (procs_from C + j) e in omega (arith, z)))
      ∙ sym (apart_there (plainly (procs_from C + k)) (plainly (procs_from C + j)) h hj
      (λ e. ne (let z = plainly_key (procs_from C + k) (procs_from C + j) e in omega (arith, z)))))
      (cases_eq k j)))) ∙ any_member b hidden_there)

  -- the rails of declared variables
  declared_below : (m : ℕ) → member m (vars_high P 0 C.vars) ≡ true → m < procs_from C
  declared_below m h =
      let r = high_member P 0 P.vars m h in
      let at = high_at P m r in
      let b = blocks_below P.vars r.var r.some in
      let less = r.below in
      let s = side_least r.one in
      omega (arith, at, b, less, s)
    where
      side_least : (one : Bool) → side one < 2
      side_least true = omega arith
      side_least false = omega arith

  no_member : (m : ℕ) → procs_from C ≤ m → member m (vars_high P 0 C.vars) ≡ false
  no_member m l = by (member m (vars_high P 0 C.vars)) (declared_below m)
    where
      by : (b : Bool) → (b ≡ true → m < procs_from C) → b ≡ false
      by true f = absurd (let z = f refl in omega (arith, z, l))
      by false f = refl

  -- first values
  pub rules_long : length (call_rules C) ≡ call_root C + 2 + called_size C.procs P C.body
  rules_long =
      let a = ap length (rules_are C is) in
      let b = length-append (front C is) (rest_rules C is) in
      let c = called_long P C.procs (proc_answer C) C.body is.typed (call_root C) (call_root C + 2) in
      let f = front_long C is in
      omega (arith, a, b, c, f)

  pub first_here : (n : ℕ) → n < length (call_rules C) → high (call_firsts C) n ≡ (member n (vars_high P 0 C.vars) || member n hidden_here)
  first_here n l =
      let count = call_root C + 2 + called_size C.procs P C.body in
      let whole = vars_high P 0 C.vars ++ hidden_here in
      raised_is whole (replicate count false) n (let e = length-replicate count false in omega (arith, l, e, rules_long))
      ∙ (ap (λ b. b || member n whole) (get_or-replicate count n false false (omega (arith, l, rules_long)))
      ∙ member_append n (vars_high P 0 C.vars) hidden_here)

  first_there : (n : ℕ) → n < length (all_rules P) → high (first_values P) n ≡ (member n (vars_high P 0 C.vars) || member n hidden_there)
  first_there n l =
      let whole = vars_high P 0 C.vars ++ hidden_there in
      let long = all_length counted P is.typed in
      raised_is whole (replicate (nodes_of P) false) n (let e = length-replicate (nodes_of P) false in omega (arith, l, e, long))
      ∙ (ap (λ b. b || member n whole) (get_or-replicate (nodes_of P) n false false (omega (arith, l, long)))
      ∙ member_append n (vars_high P 0 C.vars) hidden_there)

  below_here : (s : Here) → IsNodeHere C is s → here_of s < length (call_rules C)
  below_here s h = (node_in (order C is) (call_rules C) (order_all C is) (place C is s) (within_here C is s h)).within

  pub below_there : (t : There) → IsNodeThere C is t → there_of t < length (all_rules P)
  below_there t h = (node_in (order_there C is) (all_rules P) (order_there_all C is) (place_there C is t) (within_there C is t h)).within

  -- a node that is no low one has a higher number than those
  behind_here : (s : Here) → IsNodeHere C is s → ((k : ℕ) → k < procs_from C → s ≢ plain k) → procs_from C ≤ here_of s
  behind_here s h ne = ⊎_elim
      (λ (l : here_of s < procs_from C). absurd (ne (here_of s) l (one_here C is s (plain (here_of s)) h (low_is_plain C is (here_of s) l)
      (one_place (order C is) (call_rules C) (order_all C is) (place C is s) (place C is (plain (here_of s))) (within_here C is s h)
      (within_here C is (plain (here_of s)) (low_is_plain C is (here_of s) l)) (sym (ap (λ (x : Numbered). x.node) (at_low C is (here_of s) l)))))))
      (λ (l : procs_from C ≤ here_of s). l)
      (cases_lt (here_of s) (procs_from C))

  behind_there : (t : There) → IsNodeThere C is t → ((k : ℕ) → k < procs_from C → t ≢ plainly k) → procs_from C ≤ there_of t
  behind_there t h ne = ⊎_elim
      (λ (l : there_of t < procs_from C). absurd (ne (there_of t) l (one_there C is t (plainly (there_of t)) h (low_is_plain C is (there_of t) l)
      (one_place (order_there C is) (all_rules P) (order_there_all C is) (place_there C is t) (place_there C is (plainly (there_of t))) (within_there C is t h)
      (within_there C is (plainly (there_of t)) (low_is_plain C is (there_of t) l)) (sym (ap (λ (x : Numbered). x.node) (at_low_there C is (there_of t) l)))))))
      (λ (l : procs_from C ≤ there_of t). l)
      (cases_lt (there_of t) (procs_from C))

  low_here : (s : Here) → IsNodeHere C is s → ((k : ℕ) → s ≢ plain k) → high (call_firsts C) (here_of s) ≡ false
  low_here s h ne =
      first_here (here_of s) (below_here s h)
      ∙ (ap (λ b. b || member (here_of s) hidden_here) (no_member (here_of s) (behind_here s h (λ k l. ne k))) ∙ none_here s h (λ k. ne (procs_from C + k)))

  low_there : (t : There) → IsNodeThere C is t → ((k : ℕ) → t ≢ plainly k) → high (first_values P) (there_of t) ≡ false
  low_there t h ne =
      first_there (there_of t) (below_there t h)
      ∙ (ap (λ b. b || member (there_of t) hidden_there) (no_member (there_of t) (behind_there t h (λ k l. ne k)))
      ∙ none_there t h (λ k. ne (procs_from C + k)))

  plain_first : (k : ℕ) → plain_test C is k ≡ true → high (call_firsts C) (here_of (plain k)) ≡ high (first_values P) (there_of (plainly k))
  plain_first k h = by (plain_at C is k h)
    where
      by : PlainAt C is k → high (call_firsts C) (here_of (plain k)) ≡ high (first_values P) (there_of (plainly k))
      by (a_low l) =
          let e = ap (λ (x : Numbered). x.node) (at_low C is k l) in
          let f = ap (λ (x : Numbered). x.node) (at_low_there C is k l) in
          first_here (here_of (plain k)) (below_here (plain k) h)
          ∙ (ap (λ b. member (here_of (plain k)) (vars_high P 0 C.vars) || b)
          (none_here (plain k) h (λ j z. absurd (let y = plain_key k (procs_from C + j) z in omega (arith, y, l))))
          ∙ (ap (λ n. member n (vars_high P 0 C.vars) || false) (e ∙ sym f)
          ∙ (ap (λ b. member (there_of (plainly k)) (vars_high P 0 C.vars) || b)
          (sym (none_there (plainly k) h (λ j z. absurd (let y = plainly_key k (procs_from C + j) z in omega (arith, y, l)))))
          ∙ sym (first_there (there_of (plainly k)) (below_there (plainly k) h)))))
      by (an_item l m off) =
          let e : procs_from C + (k - procs_from C) ≡ k = omega (arith, l) in
          let same = both_same (k - procs_from C) (ap (plain_test C is) e ∙ h) in
          first_here (here_of (plain k)) (below_here (plain k) h)
          ∙ (ap (λ b. b || member (here_of (plain k)) hidden_here) (no_member (here_of (plain k)) (behind_here (plain k) h
          (λ j z w. absurd (let y = plain_key k j w in omega (arith, y, z, l)))))
          ∙ (ap (λ j. member (here_of (plain j)) hidden_here) (sym e) ∙ (same ∙ (ap (λ j. member (there_of (plainly j)) hidden_there) e
          ∙ (ap (λ b. b || member (there_of (plainly k)) hidden_there) (sym (no_member (there_of (plainly k)) (behind_there (plainly k) h
          (λ j z w. absurd (let y = plainly_key k j w in omega (arith, y, z, l))))))
          ∙ sym (first_there (there_of (plainly k)) (below_there (plainly k) h)))))))

  pub firsts_fit : FirstsFit C is (call_firsts C)
  firsts_fit = record {
    long = length-raised (vars_high P 0 C.vars ++ hidden_here) (replicate (call_root C + 2 + called_size C.procs P C.body) false)
        ∙ (length-replicate (call_root C + 2 + called_size C.procs P C.body) false ∙ sym rules_long);
    long_there = length-raised (vars_high P 0 C.vars ++ hidden_there) (replicate (nodes_of P) false)
        ∙ (length-replicate (nodes_of P) false ∙ sym (all_length counted P is.typed));
    plain = plain_first;
    asks = λ c l. low_here (asks c) l (λ k e. cc);
    answers = λ c l. low_here (answers c) l (λ k e. cc);
    enters = λ q l. low_here (enters q) l (λ k e. cc);
    body = λ q y l h. low_here (body q y) (l, h) (λ k e. cc);
    asked = λ c l. low_there (asked c) l (λ k e. cc);
    copied = λ c y l h. low_there (copied c y) (l, h) (λ k e. cc);
  }
