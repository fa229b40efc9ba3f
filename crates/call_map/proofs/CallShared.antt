-- The net with shared bodies is the net of the program with copies with one body for all calls of each procedure. What is left
-- open here, and asked for, is what the first values are.
--
-- C: the program with calls; P: that with copies; A, B: their nets; v, u: values of the nodes of A and of B; cur: of each
-- procedure the call that is under way, or was last; c: a call; q: a procedure; k: a place in the list of all other nodes.
use Rattle.std.proofs.Common.{◌≡◌, ◌≢◌, ℕ, zero, suc, ◌+◌, ◌-◌, ◌<◌, ◌≤◌, ◌==◌, Bool, true, false, List, [], ◌∷◌, map, length, get_or, inl, inr, refl, sym, ap, ◌∙◌, subst, arith, ⊎_elim, None}
use Rattle.std.specs.Prelude.{◌&&◌, ◌||◌, not, if◌then◌else◌, filter}
use Rattle.std.proofs.lemmas.Bool.{cases_lt, cases_eq, eq-eqb, eqb-true}
use Rattle.std.proofs.lemmas.List.{get_or_past}
use Rattle.prs_core.specs.Nets.{NodeRules, NetValue, net_of, up_of, down_of}
use Rattle.chp_base.specs.declared.channel.Channel.{Channel}
use Rattle.prs_core.specs.Pairs.{no_rules, or_of}
use Rattle.prs_core.specs.Moves.{high, guard_holds}
use Rattle.width_check.specs.Processes.{Process, skipping, assigning, sending, receiving, in_turn, side_by_side, choosing, repeating, Processes, no_members, and_member, member_count, TypedProgram}
use Rattle.width_check.specs.Reads.{reads}
use Rattle.width_check.specs.Typing.{channel_width, IsProcess, AreProcesses}
use Rattle.handshake_expand.specs.Layout.{formula_size, size_of, channel_from, root_request, go_node}
use Rattle.handshake_expand.specs.Answers.{answer_of, turn_answer, second_answer}
use Rattle.net_compose.specs.Translation.{translation, all_rules, rules_of, first_values, wires_from}
use Rattle.net_compose.specs.WiresBelow.{WiresBelow}
use Rattle.net_compose.proofs.FlatTrees.{RulesAlike, rules_at}
use Rattle.net_compose.proofs.FlatRules.{or_up, or_down, both_high, one_low}
use Rattle.net_compose.proofs.FlatWires.{wires_below}
use Rattle.net_compose.proofs.FlatNet.{up_told, down_told}
use Rattle.net_compose.proofs.HalvedNodes.{Numbered}
use Rattle.net_compose.proofs.NumberedOnce.{nowhere as no_node, node_in, standing, one_place}
use Rattle.net_compose.proofs.SameValues.{same_high, same_low, same_mixed}
use Rattle.net_compose.proofs.HalvedRenamed.{rails_below}
use Rattle.call_map.specs.Shared.{Here, plain, asks, answers, enters, body, There, plainly, asked, copied, IsInStep, IsBodyAlike, SameGuards, SharesBodies}
use Rattle.call_map.specs.CallNet.{CallProgram, inlined_program, procs_from, call_root, body_at, body_begins, proc_answer, asks_of, call_answer, call_rules, call_composed}
use Rattle.call_map.proofs.Truths.{or_left, or_right}
use Rattle.call_map.proofs.Items.{Each, Same, SaysSame, CallPoint, CallSame}
use Rattle.call_map.proofs.ItemsAlike.{answer_same, says_same}
use Rattle.call_map.proofs.PlacedAlike.{placed_alike}
use Rattle.call_map.proofs.Picks.{any, answer_range}
use Rattle.call_map.proofs.Ranks.{no_item}
use Rattle.call_map.proofs.Merged.{lows_are, all_true, nowhere}
use Rattle.call_map.proofs.CallNet.{points, asks_listed, MergesFit, declared_alike}
use Rattle.call_map.proofs.CallListed.{asks_are}
use Rattle.call_map.proofs.CallOrder.{CallFacts, answer_there, low_rules, low_rules_there, order, order_all, order_there, order_there_all}
use Rattle.call_map.proofs.CallPlaces.{its, count_calls, point, ask_place, asked_at, plain_test, PlainAt, a_low, an_item, plain_at, low_is_plain, item_is_plain, place, place_there, IsNodeHere, IsNodeThere, one_here, one_there, stands_here, stands_there}
use Rattle.call_map.proofs.CallStands.{one_told, sharing, here_at, there_at, is_here, is_there, as_here, as_there, order_long, order_there_long, count_is, count_there_is, within_here, within_there, rule_here, rule_there, at_low, at_low_there, at_item, at_item_there, at_answer, entry_at, at_enters, at_body, at_copied, node_asks, node_asked, node_answers, node_enters, node_body, node_copied, item_plain}

-- an answer is as many nodes after the first one as if that were node 0
module _ (P : TypedProgram) where
  mutual
    pub answer_shift : (p : Process) → IsProcess P.channels P.vars p → (from : ℕ) → answer_of P p from ≡ from + answer_of P p 0
    answer_shift skipping t from = omega arith
    answer_shift (assigning x at e) t from = by (reads x e)
      where
        by : (b : Bool) → (if b then second_answer P x from (formula_size e) else from) ≡ from + (if b then second_answer P x 0 (formula_size e) else 0)
        by true = omega arith
        by false = omega arith
    answer_shift (sending chan at e) t from = omega arith
    answer_shift (receiving chan at x into) t from = omega arith
    answer_shift (in_turn ms) t from = turn_shift ms t.1 from
    answer_shift (side_by_side ms) t from = let m : 2 ≤ member_count ms = t.0 in omega (arith, m)
    answer_shift (choosing false c) t from = omega arith
    answer_shift (choosing true c) t from = omega arith
    answer_shift (repeating p) t from = omega arith

    turn_shift : (ms : Processes) → AreProcesses P.channels P.vars ms → (from : ℕ) → turn_answer P ms from ≡ from + turn_answer P ms 0
    turn_shift no_members t from = omega arith
    turn_shift (and_member p no_members) t from = answer_shift p t.0 from
    turn_shift (and_member p (and_member q more)) t from =
        let a = turn_shift (and_member q more) t.1 (from + 3 + size_of P p) in
        let b = turn_shift (and_member q more) t.1 (0 + 3 + size_of P p) in
        omega (arith, a, b)

pub each_of : {A : Type 0} (R : A → Type 0) (xs : List A) (e : A) → ((k : ℕ) → k < length xs → R (get_or xs k e)) → Each R xs
each_of R [] e h = tt
each_of R (x ∷ xs) e h = (h 0 (omega arith), each_of R xs e (λ k l. h (suc k) (omega (arith, l))))

each_at : {A : Type 0} (R : A → Type 0) (xs : List A) (e : A) → Each R xs → (k : ℕ) → k < length xs → R (get_or xs k e)
each_at R [] e h k l = absurd (omega (arith, l))
each_at R (x ∷ xs) e h zero l = h.0
each_at R (x ∷ xs) e h (suc k) l = each_at R xs e h.1 k (omega (arith, l))

-- the requests of one procedure's calls
module _ (v : ℕ → Bool) (q : ℕ) where
  abbrev chosen_any : List CallPoint → Bool
  chosen_any cs = any (map v (map (λ (c : CallPoint). c.request) (filter (λ (c : CallPoint). c.proc == q) cs)))

  any_asked : (cs : List CallPoint) (k : ℕ) → k < length cs → (get_or cs k nowhere).proc ≡ q → v (get_or cs k nowhere).request ≡ true → chosen_any cs ≡ true
  any_asked [] k l e h = absurd (omega (arith, l))
  any_asked (c ∷ cs) zero l e h =
      ap (λ b. any (map v (map (λ (c : CallPoint). c.request)
      (if b then c ∷ filter (λ (c : CallPoint). c.proc == q) cs else filter (λ (c : CallPoint). c.proc == q) cs))))
      (eq-eqb c.proc q e) ∙ or_left (v c.request) (chosen_any cs) h
  any_asked (c ∷ cs) (suc k) l e h = by (c.proc == q) (any_asked cs k (omega (arith, l)) e h)
    where
      by : (b : Bool) → chosen_any cs ≡ true
          → any (map v (map (λ (c : CallPoint). c.request)
          (if b then c ∷ filter (λ (c : CallPoint). c.proc == q) cs else filter (λ (c : CallPoint). c.proc == q) cs))) ≡ true
      by true later = or_right (v c.request) (chosen_any cs) later
      by false later = later

  none_asked : (cs : List CallPoint) → ((k : ℕ) → k < length cs → (get_or cs k nowhere).proc ≡ q → v (get_or cs k nowhere).request ≡ false)
      → chosen_any cs ≡ false
  none_asked [] h = refl
  none_asked (c ∷ cs) h = by (c.proc == q) refl (none_asked cs (λ k l. h (suc k) (omega (arith, l))))
    where
      by : (b : Bool) → (c.proc == q) ≡ b → chosen_any cs ≡ false
          → any (map v (map (λ (c : CallPoint). c.request)
          (if b then c ∷ filter (λ (c : CallPoint). c.proc == q) cs else filter (λ (c : CallPoint). c.proc == q) cs))) ≡ false
      by true e later = ap (λ z. z || chosen_any cs) (h 0 (omega arith) (eqb-true c.proc q e)) ∙ later
      by false e later = later

-- the wires of channels
channels_below : (P : TypedProgram) (k : ℕ) (cs : List Channel) → k + length cs ≡ length P.channels → WiresBelow (root_request P) (wires_from P k cs)
channels_below P k [] l = tt
channels_below P k (c ∷ cs) l =
    let b = wires_below P.channels k (omega (arith, l)) in (
      omega (arith, b),
      rails_below (root_request P) (channel_width P.channels k) (channel_from P k) (omega (arith, b)),
      channels_below P (suc k) cs (omega (arith, l)),
    )

module _ (C : CallProgram) (is : CallFacts C) where
  abbrev P : TypedProgram
  P = inlined_program C

  -- values
  module _ (v u : ℕ → Bool) where
    low_of : ((k : ℕ) → plain_test C is k ≡ true → v (here_at C is (plain k)).node ≡ u (there_at C is (plainly k)).node) → (m : ℕ) → m < procs_from C
        → v m ≡ u m
    low_of h m l =
        ap v (sym (ap (λ (x : Numbered). x.node) (at_low C is m l)))
        ∙ (h m (low_is_plain C is m l) ∙ ap u (ap (λ (x : Numbered). x.node) (at_low_there C is m l)))

    items_of : ((k : ℕ) → plain_test C is k ≡ true → v (here_at C is (plain k)).node ≡ u (there_at C is (plainly k)).node) → Each (Same v u) (its C is)
    items_of h = each_of (Same v u) (its C is) no_item (λ k l off.
        ap v (sym (ap (λ (x : Numbered). x.node) (item_plain C is k l)))
        ∙ (h (procs_from C + k) (item_is_plain C is k l off) ∙ ap u (ap (λ (x : Numbered). x.node) (at_item_there C is k l))))

    last_answer : (q : ℕ) → q < length C.procs → body_begins C q + answer_of P (body_at C q) 0 ≡ proc_answer C q
    last_answer q l = sym (answer_shift P (body_at C q) (is.bodies q l) (body_begins C q))

    module _ (cur : ℕ → ℕ) (a : IsInStep (sharing C is) cur v u) where
      low_same : (m : ℕ) → m < procs_from C → v m ≡ u m
      low_same = low_of a.plain

      its_same : Each (Same v u) (its C is)
      its_same = items_of a.plain

      copy_alike : (c : ℕ) → c < count_calls C is → cur (point C is c).proc ≡ c
          → (i : ℕ) → i < size_of P (body_at C (point C is c).proc) → body_begins C (point C is c).proc + i ≢ proc_answer C (point C is c).proc
          → v (body_begins C (point C is c).proc + i) ≡ u ((point C is c).copy + i)
      copy_alike c l on i h ne =
          let q = (point C is c).proc in
          let lq = is.within c l in
          ap v (sym (node_body C is q i lq h))
          ∙ (a.inside c i l on h (λ e. ne (ap (λ j. body_begins C q + j) e ∙ last_answer q lq)) ∙ ap u (node_copied C is c i l h))

      copy_low : (c : ℕ) → c < count_calls C is → cur (point C is c).proc ≢ c → (i : ℕ) → i < size_of P (body_at C (point C is c).proc)
          → u ((point C is c).copy + i) ≡ false
      copy_low c l off i h = ap u (sym (node_copied C is c i l h)) ∙ a.blank c i l off h

      fits : MergesFit C is.atoms is.typed is.bodies v u
      fits = record {
        low_same = low_same;
        items_same = its_same.1.1;
        within = is.within;
        each = λ c l. ⊎_elim (λ (on : cur (point C is c).proc ≡ c). inl (copy_alike c l on)) (λ (off : cur (point C is c).proc ≢ c). inr (copy_low c l off))
            (cases_eq (cur (point C is c).proc) c);
        current = λ q l. let z = a.current q l in (cur q, z.0, z.1, copy_alike (cur q) z.0 (ap cur z.1));
      }

      last_below : (q : ℕ) → q < length C.procs → answer_of P (body_at C q) 0 < size_of P (body_at C q)
      last_below q l = let z = (answer_range P (body_at C q) (is.bodies q l) 0).1 in omega (arith, z)

      calls_same : Each (CallSame P C.procs (proc_answer C) v u) (points C)
      calls_same = each_of (CallSame P C.procs (proc_answer C) v u) (points C) nowhere (λ c l.
          let q = (point C is c).proc in
          let lq = is.within c l in
          ap v (sym (node_answers C is c l))
          ∙ (a.answers c l ∙ ap u (node_copied C is c (answer_of P (body_at C q) 0) l (last_below q lq)
          ∙ sym (answer_shift P (body_at C q) (is.bodies q lq) (point C is c).copy))))

      latch_same : v (call_root C + 1) ≡ u (procs_from C + 1)
      latch_same = its_same.1.0 refl

      go_same : v go_node ≡ u go_node
      go_same = low_same 0 (omega arith)

      end_same : v (call_answer C) ≡ u (answer_there C is)
      end_same =
          answer_same P C.procs (proc_answer C) is.some v u low_same C.body is.atoms is.typed (call_root C) (call_root C + 2) (procs_from C) (procs_from C + 2)
          its_same.0 its_same.1.1 calls_same

      its_says : Each (SaysSame v u) (its C is)
      its_says = (
        (same_mixed v u go_node (call_root C + 1) go_node (procs_from C + 1) go_same latch_same, same_high v u (call_root C + 1) (procs_from C + 1) latch_same),
        (
          (same_high v u (call_answer C) (answer_there C is) end_same, same_low v u go_node go_node go_same),
          says_same P C.procs (proc_answer C) is.some v u low_same C.body is.atoms is.typed (call_root C) (call_root C + 2) (procs_from C)
              (procs_from C + 2) its_same.0 its_same.1.1 calls_same,
        ),
      )

      low_says : RulesAlike v u (low_rules C is) (low_rules_there C is)
      low_says = (
        refl,
        refl,
        (
          same_mixed v u (call_root C + 1) (call_answer C) (procs_from C + 1) (answer_there C is) latch_same end_same,
          same_low v u (call_root C + 1) (procs_from C + 1) latch_same,
          declared_alike C is.atoms is.typed is.bodies v u fits,
        ),
      )

  -- what is asked of first values
  pub record FirstsFit (firsts : List Bool) : Type 0 where
    pub long : length firsts ≡ length (call_rules C)
    pub long_there : length (first_values P) ≡ length (all_rules P)
    pub plain : (k : ℕ) → plain_test C is k ≡ true → high firsts (here_at C is (plain k)).node ≡ high (first_values P) (there_at C is (plainly k)).node
    pub asks : (c : ℕ) → c < count_calls C is → high firsts (here_at C is (asks c)).node ≡ false
    pub answers : (c : ℕ) → c < count_calls C is → high firsts (here_at C is (answers c)).node ≡ false
    pub enters : (q : ℕ) → q < length C.procs → high firsts (here_at C is (enters q)).node ≡ false
    pub body : (q y : ℕ) → q < length C.procs → y < size_of P (body_at C q) → high firsts (here_at C is (body q y)).node ≡ false
    pub asked : (c : ℕ) → c < count_calls C is → high (first_values P) (there_at C is (asked c)).node ≡ false
    pub copied : (c y : ℕ) → c < count_calls C is → y < size_of P (body_at C (point C is c).proc)
        → high (first_values P) (there_at C is (copied c y)).node ≡ false

  module _ (names : List (List ℕ)) (firsts : List Bool) where
    abbrev A : NetValue
    A = net_of names firsts (call_composed C) (wires_from P 0 C.channels) None

    abbrev B : NetValue
    B = translation P

    abbrev SaysRules : (v u : ℕ → Bool) → NodeRules → NodeRules → Type 0
    SaysRules v u r s = (guard_holds v r.up ≡ guard_holds u s.up) × (guard_holds v r.down ≡ guard_holds u s.down)

    up_here : (s : Here) → IsNodeHere C is s → up_of A (here_at C is s).node ≡ (here_at C is s).rules.up
    up_here s h = up_told (call_rules C) (here_at C is s).node ∙ ap (λ (r : NodeRules). r.up) (rule_here C is s h)

    down_here : (s : Here) → IsNodeHere C is s → down_of A (here_at C is s).node ≡ (here_at C is s).rules.down
    down_here s h = down_told (call_rules C) (here_at C is s).node ∙ ap (λ (r : NodeRules). r.down) (rule_here C is s h)

    up_there : (t : There) → IsNodeThere C is t → up_of B (there_at C is t).node ≡ (there_at C is t).rules.up
    up_there t h = up_told (all_rules P) (there_at C is t).node ∙ ap (λ (r : NodeRules). r.up) (rule_there C is t h)

    down_there : (t : There) → IsNodeThere C is t → down_of B (there_at C is t).node ≡ (there_at C is t).rules.down
    down_there t h = down_told (all_rules P) (there_at C is t).node ∙ ap (λ (r : NodeRules). r.down) (rule_there C is t h)

    same_guards : (v u : ℕ → Bool) (s : Here) (t : There) → IsNodeHere C is s → IsNodeThere C is t
        → SaysRules v u (here_at C is s).rules (there_at C is t).rules
        → SameGuards A B v u (here_at C is s).node (there_at C is t).node
    same_guards v u s t hs ht e = (
      ap (guard_holds v) (up_here s hs) ∙ (e.0 ∙ ap (guard_holds u) (sym (up_there t ht))),
      ap (guard_holds v) (down_here s hs) ∙ (e.1 ∙ ap (guard_holds u) (sym (down_there t ht))),
    )

    by_rules : (v u : ℕ → Bool) (s : Here) (t : There) (x y : Numbered) → here_at C is s ≡ x → there_at C is t ≡ y → SaysRules v u x.rules y.rules
        → SaysRules v u (here_at C is s).rules (there_at C is t).rules
    by_rules v u s t x y e f h = subst (λ z. SaysRules v u z.rules (there_at C is t).rules) (sym e) (subst (λ z. SaysRules v u x.rules z.rules) (sym f) h)

    plain_guards : (cur : ℕ → ℕ) (v u : ℕ → Bool) → IsInStep (sharing C is) cur v u → (k : ℕ) → plain_test C is k ≡ true
        → SameGuards A B v u (here_at C is (plain k)).node (there_at C is (plainly k)).node
    plain_guards cur v u a k h = same_guards v u (plain k) (plainly k) h h (by (plain_at C is k h))
      where
        by : PlainAt C is k → SaysRules v u (here_at C is (plain k)).rules (there_at C is (plainly k)).rules
        by (a_low l) =
            by_rules v u (plain k) (plainly k) _ _ (at_low C is k l) (at_low_there C is k l)
            (rules_at v u (low_rules C is) (low_rules_there C is) (low_says v u cur a) k)
        by (an_item l m off) =
            let e : procs_from C + (k - procs_from C) ≡ k = omega (arith, l) in
            by_rules v u (plain k) (plainly k) _ _ (ap (λ j. here_at C is (plain j)) (sym e) ∙ item_plain C is (k - procs_from C) m)
            (ap (λ j. get_or (order_there C is) j no_node) (sym e) ∙ at_item_there C is (k - procs_from C) m)
            (each_at (SaysSame v u) (its C is) no_item (its_says v u cur a) (k - procs_from C) m)

    asks_guards : (cur : ℕ → ℕ) (v u : ℕ → Bool) → IsInStep (sharing C is) cur v u → (c : ℕ) → c < count_calls C is
        → SameGuards A B v u (here_at C is (asks c)).node (there_at C is (asked c)).node
    asks_guards cur v u a c l =
        let z = asked_at C is c l in
        same_guards v u (asks c) (asked c) l l
        (by_rules v u (asks c) (asked c) _ _ (at_item C is (ask_place C is c) z.within) (at_item_there C is (ask_place C is c) z.within)
        (each_at (SaysSame v u) (its C is) no_item (its_says v u cur a) (ask_place C is c) z.within))

    body_guards : (c : ℕ) (v u : ℕ → Bool) → c < count_calls C is → IsBodyAlike (sharing C is) c v u → (x : ℕ) → x < size_of P (body_at C (point C is c).proc)
        → SameGuards A B v u (here_at C is (body (point C is c).proc x)).node (there_at C is (copied c x)).node
    body_guards c v u l b x h =
        let q = (point C is c).proc in
        let lq = is.within c l in
        let asked_same : v (entry_at C is q) ≡ u (point C is c).request_there = ap v (sym (node_enters C is q lq)) ∙ (b.request ∙ ap u (node_asked C is c l)) in
        let alike =
        placed_alike P is.some v u (low_of v u b.plain) (body_at C q) (is.bodies q lq) (entry_at C is q) (body_begins C q) (point C is c).request_there
        (point C is c).copy
        asked_same (λ i g. ap v (sym (node_body C is q i lq g)) ∙ (b.inside i g ∙ ap u (node_copied C is c i l g))) in
        same_guards v u (body q x) (copied c x) (lq, h) (l, h)
        (by_rules v u (body q x) (copied c x) _ _ (at_body C is q x lq h) (at_copied C is c x l h)
        (rules_at v u (rules_of P (body_at C q) (entry_at C is q) (body_begins C q))
        (rules_of P (body_at C q) (point C is c).request_there (point C is c).copy) alike x))

    -- the request of a body
    enters_up : (v : ℕ → Bool) (q : ℕ) → q < length C.procs → guard_holds v (up_of A (here_at C is (enters q)).node) ≡ chosen_any v q (points C)
    enters_up v q l =
        ap (guard_holds v) (up_here (enters q) l ∙ ap (λ (x : Numbered). x.rules.up) (at_enters C is q l))
        ∙ (or_up v (asks_of C q) ∙ ap (λ l. any (map v l)) (asks_are C q))

    enters_down : (v : ℕ → Bool) (q : ℕ) → q < length C.procs
        → guard_holds v (down_of A (here_at C is (enters q)).node) ≡ not (chosen_any v q (points C))
    enters_down v q l =
        let c = is.called q l in
        ap (guard_holds v) (down_here (enters q) l ∙ ap (λ (x : Numbered). x.rules.down) (at_enters C is q l))
        ∙ (ap (λ l. guard_holds v (or_of l).down) (asks_are C q) ∙ (or_down v (asks_listed C q) ∙ (lows_are (map v (asks_listed C q))
        ∙ (ap (λ z. any z && not (chosen_any v q (points C))) (all_true v (asks_listed C q))
        ∙ ap (λ z. z && not (chosen_any v q (points C))) (any_asked (λ n. true) q (points C) c.0 c.1 c.2 refl)))))

    some_asked : (v : ℕ → Bool) (c : ℕ) → c < count_calls C is → v (here_at C is (asks c)).node ≡ true → chosen_any v (point C is c).proc (points C) ≡ true
    some_asked v c l h = any_asked v (point C is c).proc (points C) c l refl (ap v (sym (node_asks C is c l)) ∙ h)

    no_asked : (v : ℕ → Bool) (q : ℕ) → ((c : ℕ) → c < count_calls C is → (point C is c).proc ≡ q → v (here_at C is (asks c)).node ≡ false)
        → chosen_any v q (points C) ≡ false
    no_asked v q h = none_asked v q (points C) (λ c l e. ap v (sym (node_asks C is c l)) ∙ h c l e)

    answers_guards : (v : ℕ → Bool) (c : ℕ) → c < count_calls C is
        → (guard_holds v (up_of A (here_at C is (answers c)).node)
        ≡ (v (here_at C is (asks c)).node && v (here_at C is (body (point C is c).proc (answer_of P (body_at C (point C is c).proc) 0))).node))
        × (guard_holds v (down_of A (here_at C is (answers c)).node)
        ≡ not (v (here_at C is (body (point C is c).proc (answer_of P (body_at C (point C is c).proc) 0))).node))
    answers_guards v c l =
        let q = (point C is c).proc in
        let lq = is.within c l in
        let lt : answer_of P (body_at C q) 0 < size_of P (body_at C q) = (let z = (answer_range P (body_at C q) (is.bodies q lq) 0).1 in omega (arith, z)) in
        let e : (here_at C is (body q (answer_of P (body_at C q) 0))).node ≡ proc_answer C q =
        node_body C is q (answer_of P (body_at C q) 0) lq lt ∙ sym (answer_shift P (body_at C q) (is.bodies q lq) (body_begins C q)) in (
          ap (guard_holds v) (up_here (answers c) l ∙ ap (λ (x : Numbered). x.rules.up) (at_answer C is c l))
              ∙ (both_high v (point C is c).request (proc_answer C q)
              ∙ (ap (λ n. v n && v (proc_answer C q)) (sym (node_asks C is c l)) ∙ ap (λ n. v (here_at C is (asks c)).node && v n) (sym e))),
          ap (guard_holds v) (down_here (answers c) l ∙ ap (λ (x : Numbered). x.rules.down) (at_answer C is c l))
              ∙ (one_low v (proc_answer C q) ∙ ap (λ n. not (v n)) (sym e)),
        )

    pub is_shared : FirstsFit firsts → SharesBodies A B (sharing C is)
    is_shared fit = record {
      here_below = λ s h. (node_in (order C is) (call_rules C) (order_all C is) (place C is s) (within_here C is s (is_here C is s h))).within;
      here_back = λ n l.
          let z = standing (order C is) (call_rules C) (order_all C is) n l in
          let w = z.within in
          let s = stands_here C is z.place (omega (arith, w, order_long C is)) in
          (s.node, as_here C is s.node s.fine, ap (λ i. (get_or (order C is) i no_node).node) s.stands ∙ z.is);
      here_apart = λ s t hs ht e. one_here C is s t (is_here C is s hs) (is_here C is t ht)
          (one_place (order C is) (call_rules C) (order_all C is) (place C is s) (place C is t) (within_here C is s (is_here C is s hs))
          (within_here C is t (is_here C is t ht)) e);
      there_below =
          λ t h. (node_in (order_there C is) (all_rules P) (order_there_all C is) (place_there C is t) (within_there C is t (is_there C is t h))).within;
      there_back = λ n l.
          let z = standing (order_there C is) (all_rules P) (order_there_all C is) n l in
          let w = z.within in
          let t = stands_there C is z.place (omega (arith, w, order_there_long C is)) in
          (t.node, as_there C is t.node t.fine, ap (λ i. (get_or (order_there C is) i no_node).node) t.stands ∙ z.is);
      there_apart = λ s t hs ht e. one_there C is s t (is_there C is s hs) (is_there C is t ht)
          (one_place (order_there C is) (all_rules P) (order_there_all C is) (place_there C is s) (place_there C is t)
          (within_there C is s (is_there C is s hs))
          (within_there C is t (is_there C is t ht)) e);
      long = fit.long;
      long_there = fit.long_there;
      within = omega (arith, order_long C is, count_is C is);
      within_there = omega (arith, order_there_long C is, count_there_is C is);
      of_below = is.within;
      called = λ q l. one_told C is q l (cases_lt q (length C.procs));
      last_within = λ q l. let z = (answer_range P (body_at C q) (is.bodies q l) 0).1 in omega (arith, z);
      some = omega arith;
      low_plain = λ r l. (low_is_plain C is r l, ap (λ (x : Numbered). x.node) (at_low C is r l), ap (λ (x : Numbered). x.node) (at_low_there C is r l));
      wires = channels_below P 0 C.channels (omega arith);
      first_plain = fit.plain;
      first_asks = fit.asks;
      first_answers = fit.answers;
      first_enters = fit.enters;
      first_body = fit.body;
      first_asked = fit.asked;
      first_copied = fit.copied;
      plain_rules = plain_guards;
      asks_rules = asks_guards;
      body_rules = body_guards;
      enters_on = λ v c l h.
          let q = is.within c l in
          let e = some_asked v c l h in
          (enters_up v (point C is c).proc q ∙ e, enters_down v (point C is c).proc q ∙ ap not e);
      enters_off = λ v q l h. let e = no_asked v q h in (enters_up v q l ∙ e, enters_down v q l ∙ ap not e);
      answers_rules = answers_guards;
      past = λ n h. let e = get_or_past (call_rules C) n no_rules h in
          (up_told (call_rules C) n ∙ ap (λ (r : NodeRules). r.up) e, down_told (call_rules C) n ∙ ap (λ (r : NodeRules). r.down) e);
      past_there = λ n h. let e = get_or_past (all_rules P) n no_rules h in
          (up_told (all_rules P) n ∙ ap (λ (r : NodeRules). r.up) e, down_told (all_rules P) n ∙ ap (λ (r : NodeRules). r.down) e);
    }
