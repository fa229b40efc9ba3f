-- The net of a program is that of the program in halves with its nodes numbered otherwise.
use Rattle.std.proofs.Common.{◌≡◌, ℕ, zero, suc, ◌+◌, ◌*◌, ◌<◌, ◌≤◌, Bool, true, false, List, [], ◌∷◌, ◌++◌, map, length, get_or, replicate, refl, sym, ap, ◌∙◌, subst, arith, length-append, append_assoc}
use Rattle.std.specs.List.Sorted.{IsPermutation}
use Rattle.std.proofs.lemmas.List.Sorted.{IsPermutation-append_comm, IsPermutation-append_right, IsPermutation-trans}
use Rattle.chp_base.specs.declared.channel.Channel.{Channel}
use Rattle.chp_base.specs.declared.channel.Kind.{Kind}
use Rattle.chp_base.specs.declared.channel.Kind.TheVariants.{In, Out, Chan}
use Rattle.prs_core.specs.Nets.{NodeRules}
use Rattle.prs_core.specs.Pairs.{no_rules, or_of}
use Rattle.width_check.specs.declared.typed.Var.{Var}
use Rattle.width_check.specs.Processes.{TypedProgram}
use Rattle.width_check.specs.Typing.{channel_width, var_width, IsProcess}
use Rattle.handshake_expand.specs.Layout.{block_size, blocks_before, vars_from, var_from, root_request, root_latch, body_from, nodes_of, go_node}
use Rattle.cell_sequence.specs.Sequence.{q_child, q_latch, q_next}
use Rattle.cell_variable.specs.Variables.{variable_rules}
use Rattle.circuit_places.specs.Lines.{of_channel, of_var}
use Rattle.chp_meaning.specs.Halves.{hidden_vars, halved, halved_program, ReadsNoTarget}
use Rattle.handshake_expand.specs.Sites.{in_body}
use Rattle.net_compose.specs.Translation.{all_rules, channel_rules, channels_rules, vars_rules, rail_rules, rules_of, body_answer, send_site, receive_site, write_site}
use Rattle.net_compose.proofs.Sizes.{Counted, all_length}
use Rattle.net_compose.proofs.FlatTrees.{RulesAlike, rules_append}
use Rattle.net_compose.proofs.FlatSites.{at_site, at_sites}
use Rattle.net_compose.proofs.FlatWires.{length-channels_rules}
use Rattle.net_compose.proofs.FlatBlocks.{length-vars_rules}
use Rattle.net_compose.proofs.HalvedNumbers.{blocks, halved_size}
use Rattle.net_compose.proofs.HalvedNodes.{Numbered, numbered, length-numbered, numbered_append, own, hidden, own_all}
use Rattle.net_compose.proofs.NumberedOnce.{nowhere, as_long}
use Rattle.net_compose.proofs.SameValues.{same_high, same_low, same_mixed, merges_alike, blocks_alike}
use Rattle.net_compose.proofs.HalvedAlike.{Values, rules_in, rules_in_append, rules_numbered, values_left, values_right, values_at, blocks_front, declared_from, HiddenAt, hidden_long, same_block, answers_same, own_alike}
use Rattle.net_compose.proofs.HalvedSites.{lines_same, takers_same}
use Rattle.net_compose.proofs.HiddenBlocks.{vars_rules_append, hidden_alike}

-- variables behind others
blocks_whole : (vs hs : List Var) → blocks_before (vs ++ hs) (length (vs ++ hs)) ≡ blocks_before vs (length vs) + blocks hs
blocks_whole [] [] = refl
blocks_whole [] (h ∷ hs) = let e = blocks_whole [] hs in omega (arith, e)
blocks_whole (v ∷ vs) hs = let e = blocks_whole vs hs in omega (arith, e)

width_there : (pre : List Var) (h : Var) (rest : List Var) → var_width (pre ++ h ∷ rest) (length pre) ≡ h.width
width_there [] h rest = refl
width_there (p ∷ pre) h rest = width_there pre h rest

pub rules_in_at : (xs : List Numbered) (i : ℕ) → get_or (rules_in xs) i no_rules ≡ (get_or xs i nowhere).rules
rules_in_at [] i = refl
rules_in_at (x ∷ xs) zero = refl
rules_in_at (x ∷ xs) (suc i) = rules_in_at xs i

pub values_from : {A : Type 0} (v u : ℕ → A) (to : ℕ) (xs : List Numbered) → ((i : ℕ) → i < length xs → v (get_or xs i nowhere).node ≡ u (to + i)) →
    Values v u to xs
values_from v u to [] h = tt
values_from v u to (x ∷ xs) h = (
  h 0 (omega arith) ∙ ap u (let z : to + 0 ≡ to = omega arith in z),
  values_from v u (suc to) xs (λ i l. h (suc i) (omega (arith, l)) ∙ ap u (let z : to + suc i ≡ suc to + i = omega arith in z)),
)

module _ (counted : Counted) (P : TypedProgram) (typed : IsProcess P.channels P.vars P.body)
    (plain : ReadsNoTarget (halved (length P.vars) P.body)) (some : (y : ℕ) → y < length P.vars → 1 ≤ var_width P.vars y) where
  abbrev Q : TypedProgram
  Q = halved_program P

  abbrev hs : List Var
  hs = hidden_vars P.body

  abbrev front_rules : List NodeRules
  front_rules = no_rules ∷ q_next (root_latch P) (body_answer P) ∷ (channels_rules P 0 P.channels ++ vars_rules P 0 P.vars)

  abbrev root_rules : List NodeRules
  root_rules = q_child go_node (root_latch P) ∷ q_latch go_node (body_answer P) ∷ []

  -- the nodes of P's net in the order of those of Q's
  abbrev pub order : List Numbered
  order = numbered 0 front_rules
      ++ (hidden P P.body (body_from P) ++ (numbered (root_request P) root_rules ++ own P P.body (root_request P) (body_from P)))

  front_long : length front_rules ≡ root_request P
  front_long =
      let a = length-append (channels_rules P 0 P.channels) (vars_rules P 0 P.vars) in
      let b = length-channels_rules P 0 P.channels in
      let c = length-vars_rules P 0 P.vars in
      omega (arith, a, b, c)

  whole_rules : all_rules P ≡ front_rules ++ (root_rules ++ rules_of P P.body (root_request P) (body_from P))
  whole_rules =
      ap (λ l. no_rules ∷ q_next (root_latch P) (body_answer P) ∷ l)
      (sym (append_assoc (channels_rules P 0 P.channels) (vars_rules P 0 P.vars) (root_rules ++ rules_of P P.body (root_request P) (body_from P))))

  pub order_all : IsPermutation order (numbered 0 (all_rules P))
  order_all =
      let front = numbered 0 front_rules in
      let h = hidden P P.body (body_from P) in
      let r = numbered (root_request P) root_rules in
      let o = own P P.body (root_request P) (body_from P) in
      let body = rules_of P P.body (root_request P) (body_from P) in
      let rest : IsPermutation (h ++ (r ++ o)) (r ++ numbered (body_from P) body) =
      IsPermutation-trans (h ++ (r ++ o)) ((r ++ o) ++ h) (r ++ numbered (body_from P) body) (IsPermutation-append_comm h (r ++ o))
      (subst (λ l. IsPermutation l (r ++ numbered (body_from P) body)) (sym (append_assoc r o h))
      (IsPermutation-append_right r (o ++ h) (numbered (body_from P) body) (own_all counted P P.body typed (root_request P) (body_from P)))) in
      let number : 0 + length front_rules ≡ root_request P = omega (arith, front_long) in
      let split : front ++ (r ++ numbered (body_from P) body) ≡ numbered 0 (all_rules P) =
      ap (λ l. front ++ l) (sym (numbered_append (root_request P) root_rules body))
      ∙ (ap (λ k. front ++ numbered k (root_rules ++ body)) (sym number)
      ∙ (sym (numbered_append 0 front_rules (root_rules ++ body)) ∙ ap (numbered 0) (sym whole_rules))) in
      subst (λ l. IsPermutation order l) split (IsPermutation-append_right front (h ++ (r ++ o)) (r ++ numbered (body_from P) body) rest)

  pub all_long : length (all_rules P) ≡ nodes_of P
  all_long = all_length counted P typed

  -- node n of Q's net
  abbrev pub renamed : ℕ → ℕ
  renamed n = (get_or order n nowhere).node

  pub order_long : length order ≡ nodes_of P
  order_long = as_long order (all_rules P) order_all ∙ all_long

  -- numbers of Q's net
  pub root_there : root_request Q ≡ root_request P + blocks hs
  root_there = let e = blocks_whole P.vars hs in omega (arith, e)

  pub nodes_there : nodes_of Q ≡ nodes_of P
  nodes_there =
      let e = blocks_whole P.vars hs in
      let s = halved_size P Q refl (length P.vars) P.body typed plain in
      omega (arith, e, s)

  hidden_at : (pre rest : List Var) → pre ++ rest ≡ Q.vars → HiddenAt counted P (length pre) rest (vars_from P + blocks_before pre (length pre))
  hidden_at pre [] e = tt
  hidden_at pre (h ∷ rest) e =
      let longer = length-append pre (h ∷ []) in
      let shifted : (pre ++ h ∷ []) ++ rest ≡ Q.vars = append_assoc pre (h ∷ []) rest ∙ e in
      let number : length (pre ++ h ∷ []) ≡ suc (length pre) = omega (arith, longer) in
      let more = blocks_whole pre (h ∷ []) in
      let start : vars_from P + blocks_before (pre ++ h ∷ []) (length (pre ++ h ∷ [])) ≡ vars_from P + blocks_before pre (length pre) + block_size h.width =
      omega (arith, more) in (
        ap (λ vs. vars_from P + blocks_before vs (length pre)) (sym e)
            ∙ ap (λ k. vars_from P + k) (blocks_front pre (h ∷ rest) (length pre) (omega arith)),
        ap (λ vs. var_width vs (length pre)) (sym e) ∙ width_there pre h rest,
        subst (λ k. HiddenAt counted P k rest (vars_from P + blocks_before pre (length pre) + block_size h.width)) number
            (subst (λ b. HiddenAt counted P (length (pre ++ h ∷ [])) rest b) start (hidden_at (pre ++ h ∷ []) rest shifted)),
      )

  pub where_hidden : HiddenAt counted P (length P.vars) hs (root_request P)
  where_hidden = hidden_at P.vars hs refl

  -- the parts of the order
  module _ {A : Type 0} (v u : ℕ → A) (values : Values v u 0 order) where
    behind_front : Values v u (root_request P)
        (hidden P P.body (body_from P) ++ (numbered (root_request P) root_rules ++ own P P.body (root_request P) (body_from P)))
    behind_front =
        let z : 0 + root_request P ≡ root_request P = omega arith in
        subst (λ k. Values v u k (hidden P P.body (body_from P) ++ (numbered (root_request P) root_rules ++ own P P.body (root_request P) (body_from P)))) z
        (values_right v u 0 (root_request P) (numbered 0 front_rules)
        (hidden P P.body (body_from P) ++ (numbered (root_request P) root_rules ++ own P P.body (root_request P) (body_from P)))
        (length-numbered 0 front_rules ∙ front_long) values)

    pub below_root : (m : ℕ) → m < root_request P → v m ≡ u m
    below_root m l =
        let z : 0 + m ≡ m = omega arith in
        ap v (sym z)
        ∙ (values_at v u 0 0 front_rules (values_left v u 0 (numbered 0 front_rules)
        (hidden P P.body (body_from P) ++ (numbered (root_request P) root_rules ++ own P P.body (root_request P) (body_from P))) values) m
        (omega (arith, l, front_long)) ∙ ap u z)

    pub in_hidden : Values v u (root_request P) (hidden P P.body (body_from P))
    in_hidden = values_left v u (root_request P) (hidden P P.body (body_from P))
        (numbered (root_request P) root_rules ++ own P P.body (root_request P) (body_from P)) behind_front

    behind_hidden : Values v u (root_request Q) (numbered (root_request P) root_rules ++ own P P.body (root_request P) (body_from P))
    behind_hidden = subst (λ k. Values v u k (numbered (root_request P) root_rules ++ own P P.body (root_request P) (body_from P))) (sym root_there)
        (values_right v u (root_request P) (blocks hs) (hidden P P.body (body_from P))
        (numbered (root_request P) root_rules ++ own P P.body (root_request P) (body_from P)) (hidden_long counted P P.body typed (body_from P))
        behind_front)

    pub in_root : (i : ℕ) → i < 2 → v (root_request P + i) ≡ u (root_request Q + i)
    in_root i l = values_at v u (root_request P) (root_request Q) root_rules (values_left v u (root_request Q) (numbered (root_request P) root_rules)
        (own P P.body (root_request P) (body_from P)) behind_hidden) i (omega (arith, l))

    pub in_own : Values v u (body_from Q) (own P P.body (root_request P) (body_from P))
    in_own = values_right v u (root_request Q) 2 (numbered (root_request P) root_rules) (own P P.body (root_request P) (body_from P)) refl behind_hidden

  -- all rules
  module _ (v u : ℕ → Bool) (values : Values v u 0 order) where
    low : (m : ℕ) → m < root_request P → v m ≡ u m
    low = below_root v u values

    start : v (root_request P) ≡ u (root_request Q)
    start = ap v (let z : root_request P ≡ root_request P + 0 = omega arith in z) ∙ (in_root v u values 0 (omega arith)
        ∙ ap u (let z : root_request Q + 0 ≡ root_request Q = omega arith in z))

    latch : v (root_latch P) ≡ u (root_latch Q)
    latch = in_root v u values 1 (omega arith)

    answer : v (body_answer P) ≡ u (body_answer Q)
    answer = answers_same counted P v u low some (length P.vars) P.body typed plain (root_request P) (body_from P) (root_request Q) (body_from Q)
        (root_request P) where_hidden start (in_hidden v u values) (in_own v u values)

    sends : (k i : ℕ) (one : Bool) → i < channel_width P.channels k → at_sites v i one (in_body P (send_site k)) ≡ at_sites u i one (in_body Q (send_site k))
    sends k i one l = lines_same counted P v u (of_channel k) tt i one l (length P.vars) P.body typed plain (omega arith) (root_request P) (body_from P)
        (body_from Q) (in_own v u values)

    writes : (x i : ℕ) (one : Bool) → x < length P.vars → i < var_width P.vars x
        → at_sites v i one (in_body P (write_site P x)) ≡ at_sites u i one (in_body Q (write_site Q x))
    writes x i one h l = lines_same counted P v u (of_var x) h i one l (length P.vars) P.body typed plain (omega arith) (root_request P) (body_from P)
        (body_from Q) (in_own v u values)

    takes_all : (k : ℕ) → map v (in_body P (receive_site k)) ≡ map u (in_body Q (receive_site k))
    takes_all k = takers_same counted P v u k (length P.vars) P.body typed plain (omega arith) (root_request P) (body_from P)
        (body_from Q) (in_own v u values)

    rails_alike : (k place n : ℕ) → place + n ≤ channel_width P.channels k
        → RulesAlike v u (rail_rules (in_body P (send_site k)) place n) (rail_rules (in_body Q (send_site k)) place n)
    rails_alike k place zero l = tt
    rails_alike k place (suc n) l =
        merges_alike v u (map (at_site place true) (in_body P (send_site k))) (map (at_site place true) (in_body Q (send_site k)))
        (or_of (map (at_site place false) (in_body P (send_site k))) ∷ rail_rules (in_body P (send_site k)) (suc place) n)
        (or_of (map (at_site place false) (in_body Q (send_site k))) ∷ rail_rules (in_body Q (send_site k)) (suc place) n)
        (sends k place true (omega (arith, l)))
        (merges_alike v u (map (at_site place false) (in_body P (send_site k))) (map (at_site place false) (in_body Q (send_site k)))
        (rail_rules (in_body P (send_site k)) (suc place) n) (rail_rules (in_body Q (send_site k)) (suc place) n)
        (sends k place false (omega (arith, l))) (rails_alike k (suc place) n (omega (arith, l))))

    nothing_alike : (n : ℕ) → RulesAlike v u (replicate n no_rules) (replicate n no_rules)
    nothing_alike zero = tt
    nothing_alike (suc n) = (refl, refl, nothing_alike n)

    acks_alike : (k : ℕ) → RulesAlike v u (or_of (in_body P (receive_site k)) ∷ []) (or_of (in_body Q (receive_site k)) ∷ [])
    acks_alike k = merges_alike v u (in_body P (receive_site k)) (in_body Q (receive_site k)) [] [] (takes_all k) tt

    channel_alike : (k w : ℕ) (kind : Kind) → w ≤ channel_width P.channels k → RulesAlike v u (channel_rules P k w kind) (channel_rules Q k w kind)
    channel_alike k w In l = rules_append v u (replicate (2 * w) no_rules) (replicate (2 * w) no_rules) (or_of (in_body P (receive_site k)) ∷ [])
        (or_of (in_body Q (receive_site k)) ∷ []) (nothing_alike (2 * w)) (acks_alike k)
    channel_alike k w Out l = rules_append v u (rail_rules (in_body P (send_site k)) 0 w) (rail_rules (in_body Q (send_site k)) 0 w) (no_rules ∷ []) (no_rules
        ∷ [])
        (rails_alike k 0 w (omega (arith, l))) (refl, refl, tt)
    channel_alike k w Chan l = rules_append v u (rail_rules (in_body P (send_site k)) 0 w) (rail_rules (in_body Q (send_site k)) 0 w)
        (or_of (in_body P (receive_site k)) ∷ []) (or_of (in_body Q (receive_site k)) ∷ []) (rails_alike k 0 w (omega (arith, l))) (acks_alike k)

    channels_alike : (k : ℕ) (cs : List Channel) → ((j : ℕ) → j < length cs → channel_width cs j ≡ channel_width P.channels (k + j))
        → RulesAlike v u (channels_rules P k cs) (channels_rules Q k cs)
    channels_alike k [] h = tt
    channels_alike k (c ∷ cs) h =
        let e : c.width ≡ channel_width P.channels k = h 0 (omega arith) ∙ ap (channel_width P.channels) (let z : k + 0 ≡ k = omega arith in z) in
        rules_append v u (channel_rules P k c.width c.kind) (channel_rules Q k c.width c.kind) (channels_rules P (suc k) cs) (channels_rules Q (suc k) cs)
        (channel_alike k c.width c.kind (omega (arith, e)))
        (channels_alike (suc k) cs (λ j l. h (suc j) (omega (arith, l)) ∙ ap (channel_width P.channels) (let z : k + suc j ≡ suc k + j = omega arith in z)))

    vars_alike : (k : ℕ) (vs : List Var) → k + length vs ≡ length P.vars → ((j : ℕ) → j < length vs → var_width vs j ≡ var_width P.vars (k + j))
        → RulesAlike v u (vars_rules P k vs) (vars_rules Q k vs)
    vars_alike k [] long h = tt
    vars_alike k (w ∷ vs) long h =
        let e : w.width ≡ var_width P.vars k = h 0 (omega arith) ∙ ap (var_width P.vars) (let z : k + 0 ≡ k = omega arith in z) in
        let within : k < length P.vars = omega (arith, long) in
        rules_append v u (variable_rules w.width (var_from P k) (in_body P (write_site P k)))
        (variable_rules w.width (var_from Q k) (in_body Q (write_site Q k)))
        (vars_rules P (suc k) vs) (vars_rules Q (suc k) vs)
        (subst (λ n. RulesAlike v u (variable_rules n (var_from P k) (in_body P (write_site P k)))
        (variable_rules n (var_from Q k) (in_body Q (write_site Q k)))) (sym e)
        (subst (λ b. RulesAlike v u (variable_rules (var_width P.vars k) (var_from P k) (in_body P (write_site P k)))
        (variable_rules (var_width P.vars k) b (in_body Q (write_site Q k)))) (sym (declared_from counted P k (omega (arith, within))))
        (blocks_alike v u (var_width P.vars k) (var_from P k) (var_from P k) (same_block counted P v u low some k within) (in_body P (write_site P k))
        (in_body Q (write_site Q k)) (λ i one l. writes k i one within l))))
        (vars_alike (suc k) vs (omega (arith, long))
        (λ j l. h (suc j) (omega (arith, l)) ∙ ap (var_width P.vars) (let z : k + suc j ≡ suc k + j = omega arith in z)))

    whole_there : all_rules Q ≡ (no_rules ∷ q_next (root_latch Q) (body_answer Q) ∷ (channels_rules Q 0 P.channels ++ vars_rules Q 0 P.vars))
        ++ (vars_rules Q (length P.vars) hs ++ ((q_child go_node (root_latch Q) ∷ q_latch go_node (body_answer Q) ∷ [])
        ++ rules_of Q (halved (length P.vars) P.body) (root_request Q) (body_from Q)))
    whole_there =
        let rest = (q_child go_node (root_latch Q) ∷ q_latch go_node (body_answer Q) ∷ [])
        ++ rules_of Q (halved (length P.vars) P.body) (root_request Q) (body_from Q) in
        let cs = channels_rules Q 0 P.channels in
        let vs = vars_rules Q 0 P.vars in
        let zero_more : 0 + length P.vars ≡ length P.vars = omega arith in
        ap (λ l. no_rules ∷ q_next (root_latch Q) (body_answer Q) ∷ (cs ++ (l ++ rest)))
        (vars_rules_append Q 0 P.vars hs ∙ ap (λ k. vs ++ vars_rules Q k hs) zero_more)
        ∙ ap (λ l. no_rules ∷ q_next (root_latch Q) (body_answer Q) ∷ l)
        (ap (λ l. cs ++ l) (append_assoc vs (vars_rules Q (length P.vars) hs) rest) ∙ sym (append_assoc cs vs (vars_rules Q (length P.vars) hs ++ rest)))

    joined : (xs ys : List Numbered) (rs ss : List NodeRules) → RulesAlike v u (rules_in xs) rs → RulesAlike v u (rules_in ys) ss
        → RulesAlike v u (rules_in (xs ++ ys)) (rs ++ ss)
    joined xs ys rs ss f g = subst (λ l. RulesAlike v u l (rs ++ ss)) (sym (rules_in_append xs ys)) (rules_append v u (rules_in xs) rs (rules_in ys) ss f g)

    as_numbered : (from : ℕ) (rs ss : List NodeRules) → RulesAlike v u rs ss → RulesAlike v u (rules_in (numbered from rs)) ss
    as_numbered from rs ss f = subst (λ l. RulesAlike v u l ss) (sym (rules_numbered from rs)) f

    go_same : v go_node ≡ u go_node
    go_same = low 0 (omega arith)

    pub order_alike : RulesAlike v u (rules_in order) (all_rules Q)
    order_alike =
        let o = own P P.body (root_request P) (body_from P) in
        let h = hidden P P.body (body_from P) in
        let r = numbered (root_request P) root_rules in
        let there = rules_of Q (halved (length P.vars) P.body) (root_request Q) (body_from Q) in
        let root_of_q = q_child go_node (root_latch Q) ∷ q_latch go_node (body_answer Q) ∷ [] in
        let front_of_q = no_rules ∷ q_next (root_latch Q) (body_answer Q) ∷ (channels_rules Q 0 P.channels ++ vars_rules Q 0 P.vars) in
        let zero_more : (j : ℕ) → 0 + j ≡ j = λ j. omega arith in
        subst (λ l. RulesAlike v u (rules_in order) l) (sym whole_there)
        (joined (numbered 0 front_rules) (h ++ (r ++ o)) front_of_q (vars_rules Q (length P.vars) hs ++ (root_of_q ++ there))
        (as_numbered 0 front_rules front_of_q (
          refl,
          refl,
          (
            same_mixed v u (root_latch P) (body_answer P) (root_latch Q) (body_answer Q) latch answer,
            same_low v u (root_latch P) (root_latch Q) latch,
            rules_append v u (channels_rules P 0 P.channels) (channels_rules Q 0 P.channels) (vars_rules P 0 P.vars) (vars_rules Q 0 P.vars)
                (channels_alike 0 P.channels (λ j l. ap (channel_width P.channels) (sym (zero_more j))))
                (vars_alike 0 P.vars (zero_more (length P.vars)) (λ j l. ap (var_width P.vars) (sym (zero_more j)))),
          ),
        ))
        (joined h (r ++ o) (vars_rules Q (length P.vars) hs) (root_of_q ++ there)
        (hidden_alike counted P v u (length P.vars) P.body typed plain (omega arith) (root_request P) (body_from P) (body_from Q) (root_request P)
        where_hidden (in_hidden v u values) (in_own v u values) (λ y a b. refl))
        (joined r o root_of_q there
        (as_numbered (root_request P) root_rules root_of_q (
          same_mixed v u go_node (root_latch P) go_node (root_latch Q) go_same latch,
          same_high v u (root_latch P) (root_latch Q) latch,
          (same_high v u (body_answer P) (body_answer Q) answer, same_low v u go_node go_node go_same, tt),
        ))
        (own_alike counted P v u low some (length P.vars) P.body typed plain (root_request P) (body_from P) (root_request Q) (body_from Q)
        (root_request P) where_hidden start (in_hidden v u values) (in_own v u values)))))
