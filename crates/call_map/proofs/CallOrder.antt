-- All nodes of both nets in an order in which nodes that stand in both come one by one: those of wires and variables, in the
-- one net then the bodies, then the nodes of the root and of statements, and last the answers of calls, or the copies.
--
-- C: the program with calls; P: that with copies; is: what is asked of C; its nodes in order are those of both nets (both_items)
-- between what only one net has.
use Rattle.std.proofs.Common.{◌≡◌, ℕ, zero, suc, ◌+◌, ◌<◌, ◌≤◌, Bool, true, false, List, [], ◌∷◌, ◌++◌, map, length, get_or, inl, refl, sym, ap, ◌∙◌, subst, arith, length-append, append_assoc}
use Rattle.std.specs.Prelude.{if◌then◌else◌, replicate, slice_index_or}
use Rattle.std.specs.List.Sorted.{IsPermutation, apply_swaps, SwapsInRange}
use Rattle.std.proofs.lemmas.List.{length-map, length-replicate}
use Rattle.std.proofs.lemmas.List.Sorted.{IsPermutation-sym, IsPermutation-append_right}
use Rattle.prs_core.specs.Nets.{NodeRules}
use Rattle.prs_core.specs.Pairs.{no_rules}
use Rattle.width_check.specs.Processes.{Process, skipping, TypedProgram}
use Rattle.width_check.specs.Typing.{var_width, IsProcess}
use Rattle.handshake_expand.specs.Layout.{size_of, go_node}
use Rattle.handshake_expand.specs.Answers.{answer_of}
use Rattle.cell_sequence.specs.Sequence.{q_child, q_latch, q_next}
use Rattle.net_compose.specs.Translation.{channels_rules, vars_rules, rules_of, all_rules}
use Rattle.net_compose.proofs.Sizes.{statement_length, all_length}
use Rattle.net_compose.proofs.FlatRules.{counted}
use Rattle.net_compose.proofs.HalvedNodes.{Numbered, numbered, length-numbered, numbered_append}
use Rattle.net_compose.proofs.NumberedOnce.{nowhere as no_node}
use Rattle.net_compose.proofs.SameValues.{alike_length}
use Rattle.call_map.specs.Calling.{inlined, called_rules, OfAtoms}
use Rattle.call_map.specs.CallNet.{CallProgram, inlined_program, procs_from, call_root, body_at, proc_answer, proc_rules, procs_size, call_channels_rules, call_vars_rules, call_answer, call_rules}
use Rattle.call_map.proofs.Items.{Each, Item, item, Same, is_calling, items}
use Rattle.call_map.proofs.CallNodes.{heres, theres, answer_nodes, copies, all_here, all_there}
use Rattle.call_map.proofs.Requests.{Twin, twin, request_of, requests_of, asked_in, requests_all}
use Rattle.call_map.proofs.Merged.{nowhere}
use Rattle.call_map.proofs.CallNet.{points, MergesFit, declared_alike}

pub get_left : {A : Type 0} (xs ys : List A) (i : ℕ) (e : A) → i < length xs → get_or (xs ++ ys) i e ≡ get_or xs i e
get_left [] ys i e l = absurd (omega (arith, l))
get_left (x ∷ xs) ys zero e l = refl
get_left (x ∷ xs) ys (suc i) e l = get_left xs ys i e (omega (arith, l))

pub get_right : {A : Type 0} (xs ys : List A) (n i : ℕ) (e : A) → length xs ≡ n → get_or (xs ++ ys) (n + i) e ≡ get_or ys i e
get_right [] ys n i e l = ap (λ k. get_or ys k e) (let z : n + i ≡ i = omega (arith, l) in z)
get_right (x ∷ xs) ys n i e l =
    ap (λ k. get_or (x ∷ (xs ++ ys)) k e) (let z : n + i ≡ suc (length xs + i) = omega (arith, l) in z) ∙ get_right xs ys (length xs) i e refl

pub get_numbered : (from : ℕ) (rs : List NodeRules) (i : ℕ) → i < length rs
    → get_or (numbered from rs) i no_node ≡ record { node = from + i; rules = get_or rs i no_rules }
get_numbered from [] i l = absurd (omega (arith, l))
get_numbered from (r ∷ rs) zero l = ap (λ k. record { node = k; rules = r }) (let z : from ≡ from + 0 = omega arith in z)
get_numbered from (r ∷ rs) (suc i) l = get_numbered (suc from) rs i (omega (arith, l))
    ∙ ap (λ k. record { node = k; rules = get_or rs i no_rules }) (let z : suc from + i ≡ from + suc i = omega arith in z)

pub get_mapped : {A B : Type 0} (f : A → B) (xs : List A) (i : ℕ) (d : A) (e : B) → i < length xs → get_or (map f xs) i e ≡ f (get_or xs i d)
get_mapped f [] i d e l = absurd (omega (arith, l))
get_mapped f (x ∷ xs) zero d e l = refl
get_mapped f (x ∷ xs) (suc i) d e l = get_mapped f xs i d e (omega (arith, l))

-- what is asked of a program
pub record CallFacts (C : CallProgram) : Type 0 where
  pub atoms : OfAtoms C.body
  pub typed : IsProcess C.channels C.vars (inlined C.procs C.body)
  pub bodies : (q : ℕ) → q < length C.procs → IsProcess C.channels C.vars (body_at C q)
  pub within : (c : ℕ) → c < length (points C) → (get_or (points C) c nowhere).proc < length C.procs
  pub called : (q : ℕ) → q < length C.procs → (c : ℕ) × (c < length (points C)) × ((get_or (points C) c nowhere).proc ≡ q)
  pub some : (y : ℕ) → y < length C.vars → 1 ≤ var_width C.vars y

module _ (C : CallProgram) (is : CallFacts C) where
  abbrev P : TypedProgram
  P = inlined_program C

  abbrev pub answer_there : ℕ
  answer_there = answer_of P P.body (procs_from C + 2)

  -- the nodes that stand in both nets after the wires and variables
  abbrev pub both_items : List Item
  both_items =
      item (is_calling C.body) (call_root C) (procs_from C) (q_child go_node (call_root C + 1)) (q_child go_node (procs_from C + 1))
      ∷ item false (call_root C + 1) (procs_from C + 1) (q_latch go_node (call_answer C)) (q_latch go_node answer_there)
      ∷ items P C.procs (proc_answer C) C.body (call_root C) (call_root C + 2) (procs_from C) (procs_from C + 2)

  abbrev pub low_rules : List NodeRules
  low_rules = no_rules ∷ q_next (call_root C + 1) (call_answer C) ∷ (call_channels_rules C 0 C.channels ++ call_vars_rules C 0 C.vars)

  abbrev pub low_rules_there : List NodeRules
  low_rules_there = no_rules ∷ q_next (procs_from C + 1) answer_there ∷ (channels_rules P 0 C.channels ++ vars_rules P 0 C.vars)

  abbrev pub rest_rules : List NodeRules
  rest_rules =
      q_child go_node (call_root C + 1) ∷ q_latch go_node (call_answer C) ∷ called_rules C.procs P (proc_answer C) C.body (call_root C) (call_root C + 2)

  abbrev pub rest_rules_there : List NodeRules
  rest_rules_there = q_child go_node (procs_from C + 1) ∷ q_latch go_node answer_there ∷ rules_of P P.body (procs_from C) (procs_from C + 2)

  pub rules_are : call_rules C ≡ (low_rules ++ proc_rules C 0 C.procs (procs_from C)) ++ rest_rules
  rules_are =
      let a = call_channels_rules C 0 C.channels in
      let b = call_vars_rules C 0 C.vars in
      let c = proc_rules C 0 C.procs (procs_from C) in
      ap (λ l. no_rules ∷ q_next (call_root C + 1) (call_answer C) ∷ l)
      (sym (append_assoc a b (c ++ rest_rules)) ∙ sym (append_assoc (a ++ b) c rest_rules))

  rules_there_are : all_rules P ≡ low_rules_there ++ rest_rules_there
  rules_there_are =
      ap (λ l. no_rules ∷ q_next (procs_from C + 1) answer_there ∷ l)
      (sym (append_assoc (channels_rules P 0 C.channels) (vars_rules P 0 C.vars) rest_rules_there))

  pub low_long_there : length low_rules_there ≡ procs_from C
  low_long_there =
      let a = all_length counted P is.typed in
      let b = ap length rules_there_are ∙ length-append low_rules_there rest_rules_there in
      let c = statement_length counted P P.body (procs_from C) (procs_from C + 2) is.typed in
      omega (arith, a, b, c)

  all_same : MergesFit C is.atoms is.typed is.bodies (λ n. true) (λ n. true)
  all_same = record {
    low_same = λ m l. refl;
    items_same = trivially (items P C.procs (proc_answer C) C.body (call_root C) (call_root C + 2) (procs_from C) (procs_from C + 2));
    within = is.within;
    each = λ c l. inl (λ i h ne. refl);
    current = λ q l. let c = is.called q l in (c.0, c.1, c.2, λ i h ne. refl);
  }
    where
      trivially : (xs : List Item) → Each (Same (λ n. true) (λ n. true)) xs
      trivially [] = tt
      trivially (i ∷ is) = ((λ e. refl), trivially is)

  pub low_long : length low_rules ≡ procs_from C
  low_long =
      let a = alike_length (λ n. true) (λ n. true) (call_channels_rules C 0 C.channels ++ call_vars_rules C 0 C.vars)
      (channels_rules P 0 C.channels ++ vars_rules P 0 C.vars) (declared_alike C is.atoms is.typed is.bodies (λ n. true) (λ n. true) all_same) in
      omega (arith, a, low_long_there)

  procs_long : (q : ℕ) (bs : List Process) (from : ℕ) → ((j : ℕ) → j < length bs → IsProcess C.channels C.vars (slice_index_or bs j skipping))
      → length (proc_rules C q bs from) ≡ procs_size P bs
  procs_long q [] from t = refl
  procs_long q (b ∷ bs) from t =
      let a = statement_length counted P b from (from + 1) (t 0 (omega arith)) in
      let e = length-append (rules_of P b from (from + 1)) (proc_rules C (suc q) bs (from + 1 + size_of P b)) in
      let c = procs_long (suc q) bs (from + 1 + size_of P b) (λ j l. t (suc j) (omega (arith, l))) in
      omega (arith, a, e, c)

  abbrev pub front : List NodeRules
  front = low_rules ++ proc_rules C 0 C.procs (procs_from C)

  pub front_long : length front ≡ call_root C
  front_long =
      let a = length-append low_rules (proc_rules C 0 C.procs (procs_from C)) in
      let b = procs_long 0 C.procs (procs_from C) is.bodies in
      omega (arith, a, b, low_long)

  -- in the net with shared bodies
  abbrev pub order : List Numbered
  order = numbered 0 front ++ (heres both_items ++ answer_nodes P C.procs (proc_answer C) (points C))

  two_numbers : (from : ℕ) (x y : NodeRules) → record { node = from; rules = x } ∷ record { node = from + 1; rules = y } ∷ [] ≡ numbered from (x ∷ y ∷ [])
  two_numbers from x y = ap (λ k. record { node = from; rules = x } ∷ record { node = k; rules = y } ∷ []) (let e : from + 1 ≡ suc from = omega arith in e)

  rest_here : IsPermutation (heres both_items ++ answer_nodes P C.procs (proc_answer C) (points C)) (numbered (call_root C) rest_rules)
  rest_here =
      let x = q_child go_node (call_root C + 1) in
      let y = q_latch go_node (call_answer C) in
      let rules = called_rules C.procs P (proc_answer C) C.body (call_root C) (call_root C + 2) in
      let z = all_here P C.procs (proc_answer C) C.body is.atoms is.typed (call_root C) (call_root C + 2) (procs_from C) (procs_from C + 2) in
      let own =
      heres (items P C.procs (proc_answer C) C.body (call_root C) (call_root C + 2) (procs_from C) (procs_from C + 2))
      ++ answer_nodes P C.procs (proc_answer C) (points C) in
      subst (λ l. IsPermutation (record { node = call_root C; rules = x } ∷ record { node = call_root C + 1; rules = y } ∷ own) l)
      (ap (λ l. l ++ numbered (call_root C + 2) rules) (two_numbers (call_root C) x y) ∙ sym (numbered_append (call_root C) (x ∷ y ∷ []) rules))
      (IsPermutation-append_right (record { node = call_root C; rules = x } ∷ record { node = call_root C + 1; rules = y } ∷ []) own
      (numbered (call_root C + 2) rules) z)

  pub order_all : IsPermutation order (numbered 0 (call_rules C))
  order_all =
      let z : 0 + length front ≡ call_root C = omega (arith, front_long) in
      subst (λ l. IsPermutation order l)
      (ap (λ k. numbered 0 front ++ numbered k rest_rules) (sym z) ∙ (sym (numbered_append 0 front rest_rules) ∙ ap (numbered 0) (sym rules_are)))
      (IsPermutation-append_right (numbered 0 front) (heres both_items ++ answer_nodes P C.procs (proc_answer C) (points C))
      (numbered (call_root C) rest_rules) rest_here)

  -- in the net with copies
  abbrev pub order_there : List Numbered
  order_there = numbered 0 low_rules_there ++ (theres both_items ++ copies P C.procs (proc_answer C) (points C))

  rest_there : IsPermutation (theres both_items ++ copies P C.procs (proc_answer C) (points C)) (numbered (procs_from C) rest_rules_there)
  rest_there =
      let x = q_child go_node (procs_from C + 1) in
      let y = q_latch go_node answer_there in
      let rules = rules_of P P.body (procs_from C) (procs_from C + 2) in
      let z = all_there P C.procs (proc_answer C) C.body is.atoms is.typed (call_root C) (call_root C + 2) (procs_from C) (procs_from C + 2) in
      let own =
      theres (items P C.procs (proc_answer C) C.body (call_root C) (call_root C + 2) (procs_from C) (procs_from C + 2))
      ++ copies P C.procs (proc_answer C) (points C) in
      subst (λ l. IsPermutation (record { node = procs_from C; rules = x } ∷ record { node = procs_from C + 1; rules = y } ∷ own) l)
      (ap (λ l. l ++ numbered (procs_from C + 2) rules) (two_numbers (procs_from C) x y) ∙ sym (numbered_append (procs_from C) (x ∷ y ∷ []) rules))
      (IsPermutation-append_right (record { node = procs_from C; rules = x } ∷ record { node = procs_from C + 1; rules = y } ∷ []) own
      (numbered (procs_from C + 2) rules) z)

  pub order_there_all : IsPermutation order_there (numbered 0 (all_rules P))
  order_there_all =
      let z : 0 + length low_rules_there ≡ procs_from C = omega (arith, low_long_there) in
      subst (λ l. IsPermutation order_there l)
      (ap (λ k. numbered 0 low_rules_there ++ numbered k rest_rules_there) (sym z) ∙ (sym (numbered_append 0 low_rules_there rest_rules_there)
      ∙ ap (numbered 0) (sym rules_there_are)))
      (IsPermutation-append_right (numbered 0 low_rules_there) (theres both_items ++ copies P C.procs (proc_answer C) (points C))
      (numbered (procs_from C) rest_rules_there) rest_there)

  -- the requests of calls, and the marked nodes
  pub marked_requests : IsPermutation (asked_in both_items) (requests_of (points C))
  marked_requests =
      subst (λ l. IsPermutation l (requests_of (points C)))
      (by (is_calling C.body) (asked_in (items P C.procs (proc_answer C) C.body (call_root C) (call_root C + 2) (procs_from C) (procs_from C + 2))))
      (requests_all P C.procs (proc_answer C) C.body is.typed (call_root C) (call_root C + 2) (procs_from C) (procs_from C + 2))
    where
      by : (b : Bool) (l : List Twin)
          → (if b then twin (call_root C) (procs_from C) ∷ [] else []) ++ l ≡ (if b then twin (call_root C) (procs_from C) ∷ l else l)
      by true l = refl
      by false l = refl

  pub exchanged : IsPermutation (requests_of (points C)) (asked_in both_items)
  exchanged = IsPermutation-sym (asked_in both_items) (requests_of (points C)) marked_requests

  abbrev pub calls_count : ℕ
  calls_count = length (points C)

  abbrev pub blanks : List NodeRules
  blanks = replicate calls_count no_rules

  -- the calls in the order of the marked nodes
  abbrev pub in_rank : List Numbered
  in_rank = apply_swaps (numbered 0 blanks) exchanged.moves

  pub blanks_long : length blanks ≡ calls_count
  blanks_long = length-replicate calls_count no_rules

  pub rank_all : IsPermutation in_rank (numbered 0 blanks)
  rank_all = IsPermutation-sym (numbered 0 blanks) in_rank (record {
    moves = exchanged.moves;
    below = subst (λ n. SwapsInRange n exchanged.moves) (length-map (points C) request_of ∙ sym (length-numbered 0 blanks ∙ blanks_long)) exchanged.below;
    is = refl;
  })
