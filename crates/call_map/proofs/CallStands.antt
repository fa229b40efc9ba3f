-- Which node of each net has which number and rules, in the layout of the net with shared bodies and in that of the program
-- with copies.
--
-- C: the program with calls; P: that with copies; s, t: nodes of the two nets; c: a call, counted in the order of the text;
-- q: a procedure; y: a node of its body; k: a place in the list of all nodes that aren't in a body or a copy.
use Rattle.std.proofs.Common.{◌≡◌, ℕ, zero, suc, ◌+◌, ◌-◌, ◌<◌, ◌≤◌, List, [], ◌∷◌, ◌++◌, map, length, get_or, inl, inr, refl, sym, ap, ◌∙◌, arith, length-append}
use Rattle.std.specs.Prelude.{◌⊎◌, slice_index_or}
use Rattle.std.proofs.lemmas.Bool.{cases_lt}
use Rattle.std.proofs.lemmas.List.{length-map}
use Rattle.prs_core.specs.Pairs.{no_rules, or_of}
use Rattle.prs_core.specs.Sites.{site_answer}
use Rattle.width_check.specs.Processes.{Process, skipping, TypedProgram}
use Rattle.width_check.specs.Typing.{IsProcess}
use Rattle.handshake_expand.specs.Layout.{size_of}
use Rattle.handshake_expand.specs.Answers.{answer_of}
use Rattle.net_compose.specs.Translation.{all_rules, rules_of}
use Rattle.net_compose.proofs.Sizes.{statement_length}
use Rattle.net_compose.proofs.FlatRules.{counted}
use Rattle.net_compose.proofs.HalvedNodes.{Numbered, numbered, length-numbered}
use Rattle.net_compose.proofs.NumberedOnce.{nowhere as no_node, as_long, node_in}
use Rattle.call_map.specs.Shared.{Here, plain, asks, answers, enters, body, There, plainly, asked, copied, Sharing, IsHere, IsThere}
use Rattle.call_map.specs.CallNet.{body_start, CallProgram, inlined_program, procs_from, call_root, body_at, body_begins, proc_answer, asks_of, proc_rules, call_rules}
use Rattle.call_map.proofs.Items.{Item, CallPoint}
use Rattle.call_map.proofs.CallNodes.{heres, theres, answer_nodes, copies}
use Rattle.call_map.proofs.Ranks.{no_item, total, begins, within_total}
use Rattle.call_map.proofs.Merged.{nowhere}
use Rattle.call_map.proofs.CallNet.{points}
use Rattle.call_map.proofs.CallOrder.{get_left, get_right, get_numbered, get_mapped, CallFacts, low_rules, low_rules_there, low_long, low_long_there, front, front_long, order, order_all, order_there, order_there_all}
use Rattle.call_map.proofs.CallPlaces.{its, count_items, count_calls, point, ask_place, asked_at, sizes, sizes_there, plain_test, PlainAt, a_low, an_item, plain_at, place, place_there, place_low, place_item, IsNodeHere, IsNodeThere, Bounds, bounds, sizes_there_long, size_there_at}

module _ (C : CallProgram) (is : CallFacts C) where
  abbrev P : TypedProgram
  P = inlined_program C

  abbrev one_by : (q : ℕ) → (q < length C.procs) ⊎ (length C.procs ≤ q) → ℕ
  one_by q (inl l) = (is.called q l).0
  one_by q (inr l) = 0

  pub one_told : (q : ℕ) → q < length C.procs → (h : (q < length C.procs) ⊎ (length C.procs ≤ q))
      → (one_by q h < count_calls C is) × ((point C is (one_by q h)).proc ≡ q)
  one_told q l (inl m) = let z = is.called q m in (z.1, z.2)
  one_told q l (inr m) = absurd (omega (arith, l, m))

  abbrev pub sharing : Sharing
  sharing = record {
    is_plain = plain_test C is;
    calls = count_calls C is;
    procs = length C.procs;
    of = λ c. (point C is c).proc;
    one_call = λ q. one_by q (cases_lt q (length C.procs));
    size = λ q. size_of P (body_at C q);
    last = λ q. answer_of P (body_at C q) 0;
    here = λ s. (get_or (order C is) (place C is s) no_node).node;
    there = λ t. (get_or (order_there C is) (place_there C is t) no_node).node;
    count = length (call_rules C);
    count_there = length (all_rules P);
    low = procs_from C;
  }

  abbrev pub here_at : Here → Numbered
  here_at s = get_or (order C is) (place C is s) no_node

  abbrev pub there_at : There → Numbered
  there_at t = get_or (order_there C is) (place_there C is t) no_node

  pub is_here : (s : Here) → IsHere sharing s → IsNodeHere C is s
  is_here (plain k) h = h
  is_here (asks c) h = h
  is_here (answers c) h = h
  is_here (enters q) h = h
  is_here (body q y) h = h

  pub is_there : (t : There) → IsThere sharing t → IsNodeThere C is t
  is_there (plainly k) h = h
  is_there (asked c) h = h
  is_there (copied c y) h = h

  pub as_here : (s : Here) → IsNodeHere C is s → IsHere sharing s
  as_here (plain k) h = h
  as_here (asks c) h = h
  as_here (answers c) h = h
  as_here (enters q) h = h
  as_here (body q y) h = h

  pub as_there : (t : There) → IsNodeThere C is t → IsThere sharing t
  as_there (plainly k) h = h
  as_there (asked c) h = h
  as_there (copied c y) h = h

  -- lengths
  heres_long : length (heres (its C is)) ≡ count_items C is
  heres_long = length-map (its C is) _

  theres_long : length (theres (its C is)) ≡ count_items C is
  theres_long = length-map (its C is) _

  front_numbered : length (numbered 0 (front C is)) ≡ call_root C
  front_numbered = length-numbered 0 (front C is) ∙ front_long C is

  low_numbered : length (numbered 0 (low_rules_there C is)) ≡ procs_from C
  low_numbered = length-numbered 0 (low_rules_there C is) ∙ low_long_there C is

  copies_long : (cs : List CallPoint) → ((k : ℕ) → k < length cs → (get_or cs k nowhere).proc < length C.procs)
      → length (copies P C.procs (proc_answer C) cs) ≡ total (map (λ (c : CallPoint). size_of P (body_at C c.proc)) cs)
  copies_long [] h = refl
  copies_long (c ∷ cs) h =
      let a = statement_length counted P (body_at C c.proc) c.request_there c.copy (is.bodies c.proc (h 0 (omega arith))) in
      let b = length-numbered c.copy (rules_of P (body_at C c.proc) c.request_there c.copy) in
      let e = length-append (numbered c.copy (rules_of P (body_at C c.proc) c.request_there c.copy)) (copies P C.procs (proc_answer C) cs) in
      let f = copies_long cs (λ k l. h (suc k) (omega (arith, l))) in
      omega (arith, a, b, e, f)

  pub order_long : length (order C is) ≡ call_root C + (count_items C is + count_calls C is)
  order_long =
      let a = length-append (numbered 0 (front C is)) (heres (its C is) ++ answer_nodes P C.procs (proc_answer C) (points C)) in
      let b = length-append (heres (its C is)) (answer_nodes P C.procs (proc_answer C) (points C)) in
      let e : length (answer_nodes P C.procs (proc_answer C) (points C)) ≡ count_calls C is = length-map (points C) _ in
      omega (arith, a, b, e, front_numbered, heres_long)

  pub order_there_long : length (order_there C is) ≡ procs_from C + (count_items C is + total (sizes_there C is))
  order_there_long =
      let a = length-append (numbered 0 (low_rules_there C is)) (theres (its C is) ++ copies P C.procs (proc_answer C) (points C)) in
      let b = length-append (theres (its C is)) (copies P C.procs (proc_answer C) (points C)) in
      let e = copies_long (points C) is.within in
      omega (arith, a, b, e, low_numbered, theres_long)

  pub count_is : length (order C is) ≡ length (call_rules C)
  count_is = as_long (order C is) (call_rules C) (order_all C is)

  pub count_there_is : length (order_there C is) ≡ length (all_rules P)
  count_there_is = as_long (order_there C is) (all_rules P) (order_there_all C is)

  pub within_here : (s : Here) → IsNodeHere C is s → place C is s < length (order C is)
  within_here (plain k) h = by (bounds C is (plain k) h)
    where
      by : Bounds C is (plain k) → place C is (plain k) < length (order C is)
      by (inl a) = let x = a.0 in let y = a.1 in omega (arith, x, y, order_long)
      by (inr a) = let x = a.1 in let y = a.2 in omega (arith, x, y, order_long)
  within_here (asks c) h = let a = bounds C is (asks c) h in omega (arith, a, order_long)
  within_here (answers c) h = omega (arith, h, order_long)
  within_here (enters q) h = let a = bounds C is (enters q) h in omega (arith, a, order_long)
  within_here (body q y) h = let a = bounds C is (body q y) h in omega (arith, a, order_long)

  pub within_there : (t : There) → IsNodeThere C is t → place_there C is t < length (order_there C is)
  within_there (plainly k) h = by (plain_at C is k h)
    where
      by : PlainAt C is k → k < length (order_there C is)
      by (a_low l) = omega (arith, l, order_there_long)
      by (an_item l m off) = omega (arith, l, m, order_there_long)
  within_there (asked c) h = let a = (asked_at C is c h).within in omega (arith, a, order_there_long)
  within_there (copied c y) h =
      let l = h.0 in
      let m = h.1 in
      let a = size_there_at C is c l in
      let b = within_total (sizes_there C is) c (let n = sizes_there_long C is in omega (arith, l, n)) in
      omega (arith, a, b, m, order_there_long)

  -- the rules of a node
  pub rule_here : (s : Here) → IsNodeHere C is s → get_or (call_rules C) (here_at s).node no_rules ≡ (here_at s).rules
  rule_here s h = (node_in (order C is) (call_rules C) (order_all C is) (place C is s) (within_here s h)).is

  pub rule_there : (t : There) → IsNodeThere C is t → get_or (all_rules P) (there_at t).node no_rules ≡ (there_at t).rules
  rule_there t h = (node_in (order_there C is) (all_rules P) (order_there_all C is) (place_there C is t) (within_there t h)).is

  -- what stands at each place
  pub at_low : (k : ℕ) → k < procs_from C → here_at (plain k) ≡ record { node = k; rules = get_or (low_rules C is) k no_rules }
  at_low k l =
      let a : k < length (front C is) = (let f = front_long C is in omega (arith, l, f)) in
      ap (λ j. get_or (order C is) j no_node) (place_low C is k l)
      ∙ (get_left (numbered 0 (front C is)) _ k no_node (omega (arith, l, front_numbered))
      ∙ (get_numbered 0 (front C is) k a
      ∙ (ap (λ r. record { node = 0 + k; rules = r })
      (get_left (low_rules C is) (proc_rules C 0 C.procs (procs_from C)) k no_rules (let f = low_long C is in omega (arith, l, f)))
      ∙ ap (λ j. record { node = j; rules = get_or (low_rules C is) k no_rules }) (let z : 0 + k ≡ k = omega arith in z))))

  pub at_low_there : (k : ℕ) → k < procs_from C → there_at (plainly k) ≡ record { node = k; rules = get_or (low_rules_there C is) k no_rules }
  at_low_there k l =
      get_left (numbered 0 (low_rules_there C is)) _ k no_node (omega (arith, l, low_numbered))
      ∙ (get_numbered 0 (low_rules_there C is) k (let f = low_long_there C is in omega (arith, l, f))
      ∙ ap (λ j. record { node = j; rules = get_or (low_rules_there C is) k no_rules }) (let z : 0 + k ≡ k = omega arith in z))

  pub at_item : (k : ℕ) → k < count_items C is → get_or (order C is) (call_root C + k) no_node ≡ (get_or (its C is) k no_item).here
  at_item k l =
      get_right (numbered 0 (front C is)) _ (call_root C) k no_node front_numbered
      ∙ (get_left (heres (its C is)) _ k no_node (omega (arith, l, heres_long)) ∙ get_mapped (λ (i : Item). i.here) (its C is) k no_item no_node l)

  pub at_item_there : (k : ℕ) → k < count_items C is → get_or (order_there C is) (procs_from C + k) no_node ≡ (get_or (its C is) k no_item).there
  at_item_there k l =
      get_right (numbered 0 (low_rules_there C is)) _ (procs_from C) k no_node low_numbered
      ∙ (get_left (theres (its C is)) _ k no_node (omega (arith, l, theres_long)) ∙ get_mapped (λ (i : Item). i.there) (its C is) k no_item no_node l)

  pub at_answer : (c : ℕ) → c < count_calls C is
      → here_at (answers c) ≡ record { node = (point C is c).answer; rules = site_answer (point C is c).request (proc_answer C (point C is c).proc) }
  at_answer c l =
      get_right (numbered 0 (front C is)) _ (call_root C) (count_items C is + c) no_node front_numbered
      ∙ (get_right (heres (its C is)) _ (count_items C is) c no_node heres_long ∙ get_mapped _ (points C) c nowhere no_node l)

  proc_entry : (q0 : ℕ) (bs : List Process) (from q : ℕ) → q < length bs
      → ((j : ℕ) → j < length bs → IsProcess C.channels C.vars (slice_index_or bs j skipping))
      → get_or (proc_rules C q0 bs from) (begins (map (λ (b : Process). 1 + size_of P b) bs) q) no_rules ≡ or_of (asks_of C (q0 + q))
  proc_entry q0 [] from q l t = absurd (omega (arith, l))
  proc_entry q0 (b ∷ bs) from zero l t = ap (λ j. or_of (asks_of C j)) (let z : q0 ≡ q0 + 0 = omega arith in z)
  proc_entry q0 (b ∷ bs) from (suc q) l t =
      let k = begins (map (λ (b : Process). 1 + size_of P b) bs) q in
      let n = statement_length counted P b from (from + 1) (t 0 (omega arith)) in
      ap (λ j. get_or (proc_rules C q0 (b ∷ bs) from) j no_rules) (let z : 1 + size_of P b + k ≡ suc (size_of P b + k) = omega arith in z)
      ∙ (get_right (rules_of P b from (from + 1)) (proc_rules C (suc q0) bs (from + 1 + size_of P b)) (size_of P b) k no_rules n
      ∙ (proc_entry (suc q0) bs (from + 1 + size_of P b) q (omega (arith, l)) (λ j h. t (suc j) (omega (arith, h)))
      ∙ ap (λ j. or_of (asks_of C j)) (let z : suc q0 + q ≡ q0 + suc q = omega arith in z)))

  proc_inside : (q0 : ℕ) (bs : List Process) (from q y : ℕ) → q < length bs
      → ((j : ℕ) → j < length bs → IsProcess C.channels C.vars (slice_index_or bs j skipping))
      → y < size_of P (slice_index_or bs q skipping)
      → get_or (proc_rules C q0 bs from) (begins (map (λ (b : Process). 1 + size_of P b) bs) q + suc y) no_rules
      ≡ get_or (rules_of P (slice_index_or bs q skipping) (from + begins (map (λ (b : Process). 1 + size_of P b) bs) q)
      (from + begins (map (λ (b : Process). 1 + size_of P b) bs) q + 1)) y no_rules
  proc_inside q0 [] from q y l t h = absurd (omega (arith, l))
  proc_inside q0 (b ∷ bs) from zero y l t h =
      let n = statement_length counted P b from (from + 1) (t 0 (omega arith)) in
      ap (λ j. get_or (proc_rules C q0 (b ∷ bs) from) j no_rules) (let z : 0 + suc y ≡ suc y = omega arith in z)
      ∙ (get_left (rules_of P b from (from + 1)) (proc_rules C (suc q0) bs (from + 1 + size_of P b)) y no_rules (omega (arith, h, n))
      ∙ ap (λ j. get_or (rules_of P b j (j + 1)) y no_rules) (let z : from ≡ from + 0 = omega arith in z))
  proc_inside q0 (b ∷ bs) from (suc q) y l t h =
      let k = begins (map (λ (b : Process). 1 + size_of P b) bs) q in
      let n = statement_length counted P b from (from + 1) (t 0 (omega arith)) in
      ap (λ j. get_or (proc_rules C q0 (b ∷ bs) from) j no_rules) (let z : 1 + size_of P b + k + suc y ≡ suc (size_of P b + (k + suc y)) = omega arith in z)
      ∙ (get_right (rules_of P b from (from + 1)) (proc_rules C (suc q0) bs (from + 1 + size_of P b)) (size_of P b) (k + suc y) no_rules n
      ∙ (proc_inside (suc q0) bs (from + 1 + size_of P b) q y (omega (arith, l)) (λ j g. t (suc j) (omega (arith, g))) h
      ∙ ap (λ j. get_or (rules_of P (slice_index_or bs q skipping) j (j + 1)) y no_rules)
      (let z : from + 1 + size_of P b + k ≡ from + (1 + size_of P b + k) = omega arith in z)))

  start_is : (bs : List Process) (from q : ℕ) → q < length bs → body_start P bs from q ≡ from + begins (map (λ (b : Process). 1 + size_of P b) bs) q + 1
  start_is [] from q l = absurd (omega (arith, l))
  start_is (b ∷ bs) from zero l = omega arith
  start_is (b ∷ bs) from (suc q) l = let e = start_is bs (from + 1 + size_of P b) q (omega (arith, l)) in omega (arith, e)

  abbrev pub entry_at : ℕ → ℕ
  entry_at q = procs_from C + begins (sizes C is) q

  start_here : (q : ℕ) → q < length C.procs → body_begins C q ≡ entry_at q + 1
  start_here q l = start_is C.procs (procs_from C) q l

  at_front : (n : ℕ) → procs_from C + n < call_root C
      → get_or (order C is) (procs_from C + n) no_node ≡ record { node = procs_from C + n; rules = get_or (proc_rules C 0 C.procs (procs_from C)) n no_rules }
  at_front n l =
      get_left (numbered 0 (front C is)) _ (procs_from C + n) no_node (omega (arith, l, front_numbered))
      ∙ (get_numbered 0 (front C is) (procs_from C + n) (let f = front_long C is in omega (arith, l, f))
      ∙ (ap (λ r. record { node = 0 + (procs_from C + n); rules = r })
      (get_right (low_rules C is) (proc_rules C 0 C.procs (procs_from C)) (procs_from C) n no_rules (low_long C is))
      ∙ ap (λ j. record { node = j; rules = get_or (proc_rules C 0 C.procs (procs_from C)) n no_rules })
      (let z : 0 + (procs_from C + n) ≡ procs_from C + n = omega arith in z)))

  pub at_enters : (q : ℕ) → q < length C.procs → here_at (enters q) ≡ record { node = entry_at q; rules = or_of (asks_of C q) }
  at_enters q l =
      at_front (begins (sizes C is) q) (bounds C is (enters q) l)
      ∙ ap (λ r. record { node = entry_at q; rules = r })
      (proc_entry 0 C.procs (procs_from C) q l is.bodies ∙ ap (λ j. or_of (asks_of C j)) (let z : 0 + q ≡ q = omega arith in z))

  pub at_body : (q y : ℕ) → q < length C.procs → y < size_of P (body_at C q)
      → here_at (body q y) ≡ record { node = body_begins C q + y; rules = get_or (rules_of P (body_at C q) (entry_at q) (body_begins C q)) y no_rules }
  at_body q y l h =
      let e = start_here q l in
      at_front (begins (sizes C is) q + suc y) (bounds C is (body q y) (l, h))
      ∙ (ap (λ r. record { node = procs_from C + (begins (sizes C is) q + suc y); rules = r }) (proc_inside 0 C.procs (procs_from C) q y l is.bodies h)
      ∙ (ap (λ j. record { node = j; rules = get_or (rules_of P (body_at C q) (entry_at q) (entry_at q + 1)) y no_rules })
      (let z : procs_from C + (begins (sizes C is) q + suc y) ≡ body_begins C q + y = omega (arith, e) in z)
      ∙ ap (λ j. record { node = body_begins C q + y; rules = get_or (rules_of P (body_at C q) (entry_at q) j) y no_rules }) (sym e)))

  copies_at : (cs : List CallPoint) (c y : ℕ) → ((k : ℕ) → k < length cs → (get_or cs k nowhere).proc < length C.procs) → c < length cs
      → y < size_of P (body_at C (get_or cs c nowhere).proc)
      → get_or (copies P C.procs (proc_answer C) cs) (begins (map (λ (c : CallPoint). size_of P (body_at C c.proc)) cs) c + y) no_node
      ≡ get_or (numbered (get_or cs c nowhere).copy
      (rules_of P (body_at C (get_or cs c nowhere).proc) (get_or cs c nowhere).request_there (get_or cs c nowhere).copy)) y no_node
  copies_at [] c y t l h = absurd (omega (arith, l))
  copies_at (x ∷ cs) zero y t l h =
      let rules = rules_of P (body_at C x.proc) x.request_there x.copy in
      let n = statement_length counted P (body_at C x.proc) x.request_there x.copy (is.bodies x.proc (t 0 (omega arith))) in
      let m = length-numbered x.copy rules in
      ap (λ j. get_or (copies P C.procs (proc_answer C) (x ∷ cs)) j no_node) (let z : 0 + y ≡ y = omega arith in z)
      ∙ get_left (numbered x.copy rules) (copies P C.procs (proc_answer C) cs) y no_node (omega (arith, h, n, m))
  copies_at (x ∷ cs) (suc c) y t l h =
      let rules = rules_of P (body_at C x.proc) x.request_there x.copy in
      let n = statement_length counted P (body_at C x.proc) x.request_there x.copy (is.bodies x.proc (t 0 (omega arith))) in
      let k = begins (map (λ (c : CallPoint). size_of P (body_at C c.proc)) cs) c in
      ap (λ j. get_or (copies P C.procs (proc_answer C) (x ∷ cs)) j no_node)
      (let z : size_of P (body_at C x.proc) + k + y ≡ size_of P (body_at C x.proc) + (k + y) = omega arith in z)
      ∙ (get_right (numbered x.copy rules) (copies P C.procs (proc_answer C) cs) (size_of P (body_at C x.proc)) (k + y) no_node
      (length-numbered x.copy rules ∙ n)
      ∙ copies_at cs c y (λ j g. t (suc j) (omega (arith, g))) (omega (arith, l)) h)

  pub at_copied : (c y : ℕ) → c < count_calls C is → y < size_of P (body_at C (point C is c).proc)
      → there_at (copied c y) ≡ record {
        node = (point C is c).copy + y;
        rules = get_or (rules_of P (body_at C (point C is c).proc) (point C is c).request_there (point C is c).copy) y no_rules;
      }
  at_copied c y l h =
      let x = point C is c in
      let n = statement_length counted P (body_at C x.proc) x.request_there x.copy (is.bodies x.proc (is.within c l)) in
      get_right (numbered 0 (low_rules_there C is)) _ (procs_from C) (count_items C is + (begins (sizes_there C is) c + y)) no_node low_numbered
      ∙ (get_right (theres (its C is)) _ (count_items C is) (begins (sizes_there C is) c + y) no_node theres_long
      ∙ (copies_at (points C) c y is.within l h ∙ get_numbered x.copy (rules_of P (body_at C x.proc) x.request_there x.copy) y (omega (arith, h, n))))

  -- numbers
  pub node_asks : (c : ℕ) → c < count_calls C is → (here_at (asks c)).node ≡ (point C is c).request
  node_asks c l = let a = asked_at C is c l in ap (λ (x : Numbered). x.node) (at_item (ask_place C is c) a.within) ∙ a.here

  pub node_asked : (c : ℕ) → c < count_calls C is → (there_at (asked c)).node ≡ (point C is c).request_there
  node_asked c l = let a = asked_at C is c l in ap (λ (x : Numbered). x.node) (at_item_there (ask_place C is c) a.within) ∙ a.there

  pub node_answers : (c : ℕ) → c < count_calls C is → (here_at (answers c)).node ≡ (point C is c).answer
  node_answers c l = ap (λ (x : Numbered). x.node) (at_answer c l)

  pub node_enters : (q : ℕ) → q < length C.procs → (here_at (enters q)).node ≡ entry_at q
  node_enters q l = ap (λ (x : Numbered). x.node) (at_enters q l)

  pub node_body : (q y : ℕ) → q < length C.procs → y < size_of P (body_at C q) → (here_at (body q y)).node ≡ body_begins C q + y
  node_body q y l h = ap (λ (x : Numbered). x.node) (at_body q y l h)

  pub node_copied : (c y : ℕ) → c < count_calls C is → y < size_of P (body_at C (point C is c).proc) → (there_at (copied c y)).node ≡ (point C is c).copy + y
  node_copied c y l h = ap (λ (x : Numbered). x.node) (at_copied c y l h)

  pub item_plain : (k : ℕ) → k < count_items C is → here_at (plain (procs_from C + k)) ≡ (get_or (its C is) k no_item).here
  item_plain k l =
      ap (λ j. get_or (order C is) j no_node)
      (place_item C is (procs_from C + k) (omega arith) ∙ (let z : call_root C + (procs_from C + k - procs_from C) ≡ call_root C + k = omega arith in z))
      ∙ at_item k l
