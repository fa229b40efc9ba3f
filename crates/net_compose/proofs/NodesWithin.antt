-- The guards of a typed program's net are over its own nodes alone.
use Rattle.std.proofs.Common.{◌≡◌, ℕ, zero, suc, ◌+◌, ◌*◌, ◌/◌, ◌<◌, ◌≤◌, ◌==◌, Bool, true, false, ◌^◌, List, [], ◌∷◌, ◌++◌, length, map, All, refl, sym, ap, subst, ◌∙◌, arith}
use Rattle.std.specs.Prelude.{if◌then◌else◌, replicate}
use Rattle.std.specs.List.{range_with_len}
use Rattle.std.proofs.lemmas.Bool.{eqb-true}
use Rattle.std.proofs.lemmas.List.{length-map}
use Rattle.std.proofs.lemmas.List.Elements.{All-nil, All-cons, All-head, All-tail, All-append, All-weaker, All-map, All-replicate}
use Rattle.chp_base.specs.declared.channel.Channel.{Channel}
use Rattle.chp_base.specs.declared.channel.Kind.{Kind}
use Rattle.chp_base.specs.declared.channel.Kind.TheVariants.{In, Out, Chan}
use Rattle.prs_core.specs.declared.rule.Literal.{Literal}
use Rattle.prs_core.specs.Nets.{NodeRules, RulesValue, IsBelow, IsRules, is_high, is_low}
use Rattle.prs_core.specs.Pairs.{Pair, pair_at, pair_of, pairs_from, no_rules, or_of, lows, rails_of, merged_true, merged_false}
use Rattle.width_check.specs.declared.typed.Var.{Var}
use Rattle.width_check.specs.Processes.{Formula, Process, skipping, assigning, sending, receiving, in_turn, side_by_side, choosing, repeating, Processes, no_members, and_member, Choices, no_choices, and_choice, choice_count, TypedProgram}
use Rattle.width_check.specs.Values.{IsWellFormed}
use Rattle.width_check.specs.Typing.{channel_width, var_width, ReadsFrom, IsProcess, AreProcesses, AreChoices, IsDeclaredVar, IsTyped}
use Rattle.width_check.specs.Reads.{reads}
use Rattle.handshake_expand.specs.Layout.{formula_size, block_size, through_size, size_of, guards_size, bodies_size, branches_size, turn_size, blocks_before, var_from, root_request, root_latch, body_from, nodes_of, go_node}
use Rattle.handshake_expand.specs.Answers.{answer_of, guards_from, bodies_from, select_own, again_own}
use Rattle.handshake_expand.specs.Sites.{Sites, sites_in, sites_in_turn, sites_in_branches, sites_in_bodies, in_body}
use Rattle.handshake_expand.proofs.Ranges.{answer_within}
use Rattle.cell_sequence.specs.Sequence.{q_child, q_latch, q_next, skip_answer, loop_request}
use Rattle.cell_parallel.specs.Trees.{c_element, level_rules, next_level, levels_rules, tree_rules}
use Rattle.cell_parallel.specs.Sizes.{next_length}
use Rattle.cell_variable.specs.Variables.{Bit, bit_at, bits_from, kept_rail, bit_written, bits_rules, written_leaves, variable_rules, all_written, write_answer}
use Rattle.cell_channel.specs.Ends.{taken_rail, port_rules}
use Rattle.cell_select.specs.Selections.{Choosing, Repeating, all_false, only_one_true, latches, started, starts, joined_answer, evaluation, turn_request, leave_latch, leave_answer, select_rules, again_rules}
use Rattle.function_blocks.specs.Blocks.{AreBelow}
use Rattle.function_blocks.specs.Expressions.{read_rail, read_bits, formula_result, formula_rules}
use Rattle.function_blocks.proofs.Callers.{rules_in_blocks}
use Rattle.function_blocks.proofs.Within.{rules_within}
use Rattle.net_compose.specs.Begins.{var_firsts}
use Rattle.net_compose.specs.Translation.{rails_at, bits_at, block_bits, ack_at, written_at, q_rules, read_back, through_at, assigned_rails, through_rules, guard_pairs, branch_answers, guards_rules, choosing_at, repeating_at, branch_ends, branches_end, rules_of, turn_rules, branches_rules, bodies_rules, send_site, receive_site, write_site, rail_rules, wire_rules, channel_rules, channels_rules, vars_rules, body_answer, all_rules, composed}
use Rattle.net_compose.proofs.EndsReady.{all_written_is, var_some}
use Rattle.net_compose.proofs.FlatBlocks.{blocks_below}
use Rattle.net_compose.proofs.FlatWires.{wires_below}
use Rattle.net_compose.proofs.FormulaReady.{bit_pair, bits_there, first_at}
use Rattle.net_compose.proofs.ResultsOwn.{rails_own}
use Rattle.net_compose.proofs.Sizes.{Counted, has_bits, root_and_body, all_length, ends_length}

-- single rules

module _ (count : ℕ) where
  abbrev pub IsNear : ℕ → Type 0
  IsNear n = n < count

  abbrev pub AreNear : List ℕ → Type 0
  AreNear ns = All IsNear ns

  abbrev pub Near : Literal → Type 0
  Near l = l.node < count

  abbrev Term : List Literal → Type 0
  Term t = All Near t

  abbrev pub Within : NodeRules → Type 0
  Within r = AreBelow count r

  abbrev pub AreWithin : List NodeRules → Type 0
  AreWithin rs = All Within rs

  no_terms : IsBelow count []
  no_terms = All-nil Term

  one_term_in : (t : List Literal) → Term t → IsBelow count (t ∷ [])
  one_term_in t h = All-cons Term t [] h no_terms

  single : (l : Literal) → Near l → Term (l ∷ [])
  single l h = All-cons Near l [] h (All-nil Near)

  double : (l m : Literal) → Near l → Near m → Term (l ∷ m ∷ [])
  double l m h k = All-cons Near l (m ∷ []) h (single m k)

  pub one_one : (a b : Literal) → Near a → Near b → Within (record { up = (a ∷ []) ∷ []; down = (b ∷ []) ∷ [] })
  one_one a b h k = (one_term_in (a ∷ []) (single a h), one_term_in (b ∷ []) (single b k))

  pub two_one : (a b c : Literal) → Near a → Near b → Near c → Within (record { up = (a ∷ b ∷ []) ∷ []; down = (c ∷ []) ∷ [] })
  two_one a b c h k l = (one_term_in (a ∷ b ∷ []) (double a b h k), one_term_in (c ∷ []) (single c l))

  two_two : (a b c d : Literal) → Near a → Near b → Near c → Near d → Within (record { up = (a ∷ b ∷ []) ∷ []; down = (c ∷ d ∷ []) ∷ [] })
  two_two a b c d h k l m = (one_term_in (a ∷ b ∷ []) (double a b h k), one_term_in (c ∷ d ∷ []) (double c d l m))

  pub none_in : Within no_rules
  none_in = (no_terms, no_terms)

  pub none : AreWithin []
  none = All-nil Within

  pub more : (r : NodeRules) (rs : List NodeRules) → Within r → AreWithin rs → AreWithin (r ∷ rs)
  more r rs h k = All-cons Within r rs h k

  pub joined : (rs ss : List NodeRules) → AreWithin rs → AreWithin ss → AreWithin (rs ++ ss)
  joined rs ss h k = All-append Within rs ss h k

  pub q_in : (request child_answer from : ℕ) → request < count → child_answer < count → from + 2 < count → AreWithin (q_rules request child_answer from)
  q_in request child_answer from asked answered room =
      let latch : from + 1 < count = omega (arith, room) in
      more (q_child request (from + 1)) (q_latch request child_answer ∷ q_next (from + 1) child_answer ∷ [])
      (two_one (is_high request) (is_low (from + 1)) (is_high (from + 1)) asked latch latch)
      (more (q_latch request child_answer) (q_next (from + 1) child_answer ∷ [])
      (one_one (is_high child_answer) (is_low request) answered asked)
      (more (q_next (from + 1) child_answer) [] (two_one (is_high (from + 1)) (is_low child_answer) (is_low (from + 1)) latch answered latch) none))

  pub site_in : (request ack : ℕ) → request < count → ack < count → Within (write_answer request ack)
  site_in request ack asked answered = two_one (is_high request) (is_high ack) (is_low ack) asked answered answered

  -- rules over lists of nodes

  lows_in : (ns : List ℕ) → AreNear ns → Term (lows ns)
  lows_in ns h = All-map Near is_low ns h

  singles_in : (ns : List ℕ) → AreNear ns → IsBelow count (map (λ k. is_high k ∷ []) ns)
  singles_in ns h = All-map Term (λ k. is_high k ∷ []) ns (All-weaker IsNear (λ k. Term (is_high k ∷ [])) (λ k l. single (is_high k) l) ns h)

  pub or_in : (ns : List ℕ) → AreNear ns → Within (or_of ns)
  or_in [] h = none_in
  or_in (n ∷ ns) h = (singles_in (n ∷ ns) h, one_term_in (lows (n ∷ ns)) (lows_in (n ∷ ns) h))

  level_in : (ls : List ℕ) → AreNear ls → AreWithin (level_rules ls)
  level_in [] h = none
  level_in (p ∷ []) h = none
  level_in (p ∷ q ∷ rest) h =
      let tail = All-tail IsNear p (q ∷ rest) h in
      let a : p < count = All-head IsNear p (q ∷ rest) h in
      let b : q < count = All-head IsNear q rest tail in
      more (c_element p q) (level_rules rest) (two_two (is_high p) (is_high q) (is_low p) (is_low q) a b a b)
      (level_in rest (All-tail IsNear q rest tail))

  next_in : (ls : List ℕ) (from : ℕ) → AreNear ls → from + length ls ≤ count + 1 → AreNear (next_level ls from)
  next_in [] from h room = h
  next_in (p ∷ []) from h room = h
  next_in (p ∷ q ∷ rest) from h room =
      All-cons IsNear from (next_level rest (from + 1)) (omega (arith, room))
      (next_in rest (from + 1) (All-tail IsNear q rest (All-tail IsNear p (q ∷ rest) h)) (omega (arith, room)))

  levels_in : (n : ℕ) (ls : List ℕ) (from : ℕ) → AreNear ls → from + length ls ≤ count + 1 → AreWithin (levels_rules n ls from)
  levels_in zero ls from h room = none
  levels_in (suc n) ls from h room =
      let next = next_length ls from in
      joined (level_rules ls) (levels_rules n (next_level ls from) (from + length ls / 2)) (level_in ls h)
      (levels_in n (next_level ls from) (from + length ls / 2) (next_in ls from h room) (omega (arith, next, room)))

  -- a tree over these leaves has one node fewer
  pub tree_in : (ls : List ℕ) (from : ℕ) → AreNear ls → from + length ls ≤ count + 1 → AreWithin (tree_rules ls from)
  tree_in ls from h room = levels_in (length ls) ls from h room

  -- rules over bits

  abbrev IsBit : Pair → Type 0
  IsBit p = (p.t < count) × (p.f < count)

  bit_of : (ps : List Pair) (i : ℕ) → 1 < count → AreNear (rails_of ps) → IsBit (pair_of ps i)
  bit_of [] i some h = (omega (arith, some), some)
  bit_of (p ∷ ps) zero some h = (All-head IsNear p.t (p.f ∷ rails_of ps) h, All-head IsNear p.f (rails_of ps) (All-tail IsNear p.t (p.f ∷ rails_of ps) h))
  bit_of (p ∷ ps) (suc i) some h = bit_of ps i some (All-tail IsNear p.f (rails_of ps) (All-tail IsNear p.t (p.f ∷ rails_of ps) h))

  abbrev pub AreSites : List (List Pair) → Type 0
  AreSites sites = All (λ (site : List Pair). AreNear (rails_of site)) sites

  module _ (some : 1 < count) (sites : List (List Pair)) (near : AreSites sites) where
    true_in : (place : ℕ) → Within (merged_true sites place)
    true_in place = or_in (map (λ site. (pair_of site place).t) sites) (All-map IsNear (λ site. (pair_of site place).t) sites
        (All-weaker (λ (site : List Pair). AreNear (rails_of site)) (λ site. (pair_of site place).t < count) (λ site h.
        (bit_of site place some h).0) sites near))

    false_in : (place : ℕ) → Within (merged_false sites place)
    false_in place = or_in (map (λ site. (pair_of site place).f) sites) (All-map IsNear (λ site. (pair_of site place).f) sites
        (All-weaker (λ (site : List Pair). AreNear (rails_of site)) (λ site. (pair_of site place).f < count) (λ site h.
        (bit_of site place some h).1) sites near))

    merges_in : (place : ℕ) (rest : List NodeRules) → AreWithin rest → AreWithin (merged_true sites place ∷ merged_false sites place ∷ rest)
    merges_in place rest h = more (merged_true sites place) (merged_false sites place ∷ rest) (true_in place)
        (more (merged_false sites place) rest (false_in place) h)

    rails_in : (place width : ℕ) → AreWithin (rail_rules sites place width)
    rails_in place zero = none
    rails_in place (suc n) = merges_in place (rail_rules sites (suc place) n) (rails_in (suc place) n)

    ack_in : (taken : List ℕ) → AreNear taken → AreWithin (or_of taken ∷ [])
    ack_in taken h = more (or_of taken) [] (or_in taken h) none

    pub wire_in : (taken : List ℕ) → AreNear taken → (width : ℕ) (kind : Kind) → AreWithin (wire_rules sites taken width kind)
    wire_in taken h width In =
        joined (replicate (2 * width) no_rules) (or_of taken ∷ []) (All-replicate Within (2 * width) no_rules none_in) (ack_in taken h)
    wire_in taken h width Out = joined (rail_rules sites 0 width) (no_rules ∷ []) (rails_in 0 width) (more no_rules [] none_in none)
    wire_in taken h width Chan = joined (rail_rules sites 0 width) (or_of taken ∷ []) (rails_in 0 width) (ack_in taken h)

    kept_in : (set other reset : ℕ) → set < count → other < count → reset < count → Within (kept_rail set other reset)
    kept_in set other reset h k l = two_one (is_high set) (is_low other) (is_high reset) h k l

    written_in : (b : Bit) → IsBit b.x → IsBit b.w → Within (bit_written b)
    written_in b x w = (
      All-cons Term (is_high b.w.t ∷ is_high b.x.t ∷ []) ((is_high b.w.f ∷ is_high b.x.f ∷ []) ∷ []) (double (is_high b.w.t) (is_high b.x.t) w.0 x.0)
          (one_term_in (is_high b.w.f ∷ is_high b.x.f ∷ []) (double (is_high b.w.f) (is_high b.x.f) w.1 x.1)),
      one_term_in (is_low b.w.t ∷ is_low b.w.f ∷ []) (double (is_low b.w.t) (is_low b.w.f) w.0 w.1),
    )

    bits_in : (place n from : ℕ) → from + 5 * n ≤ count → AreWithin (bits_rules sites place (bits_from n from))
    bits_in place zero from room = none
    bits_in place (suc n) from room =
        let b = bit_at from in
        let xt : from < count = omega (arith, room) in
        let xf : from + 1 < count = omega (arith, room) in
        let wt : from + 2 < count = omega (arith, room) in
        let wf : from + 3 < count = omega (arith, room) in
        let rest = bits_rules sites (suc place) (bits_from n (from + 5)) in
        more (kept_rail (from + 2) (from + 1) (from + 3)) (kept_rail (from + 3) from (from + 2) ∷ merged_true sites place ∷ merged_false sites place
        ∷ bit_written b ∷ rest) (kept_in (from + 2) (from + 1) (from + 3) wt xf wf)
        (more (kept_rail (from + 3) from (from + 2)) (merged_true sites place ∷ merged_false sites place ∷ bit_written b ∷ rest)
        (kept_in (from + 3) from (from + 2) wf xt wt)
        (merges_in place (bit_written b ∷ rest) (more (bit_written b) rest (written_in b (xt, xf) (wt, wf))
        (bits_in (suc place) n (from + 5) (omega (arith, room))))))

    leaves_near : (n from : ℕ) → from + 5 * n ≤ count → AreNear (written_leaves n from)
    leaves_near zero from room = All-nil IsNear
    leaves_near (suc n) from room = All-cons IsNear (from + 4) (written_leaves n (from + 5)) (omega (arith, room)) (leaves_near n (from + 5) (omega
        (arith, room)))

    leaves_count : (n from : ℕ) → length (written_leaves n from) ≡ n
    leaves_count zero from = refl
    leaves_count (suc n) from = ap suc (leaves_count n (from + 5))

    pub block_in : (width from : ℕ) → 1 ≤ width → from + block_size width ≤ count → AreWithin (variable_rules width from sites)
    block_in width from wide room =
        let n = leaves_count width from in
        joined (bits_rules sites 0 (bits_from width from)) (tree_rules (written_leaves width from) (from + 5 * width))
        (bits_in 0 width from (omega (arith, room, wide)))
        (tree_in (written_leaves width from) (from + 5 * width) (leaves_near width from (omega (arith, room, wide))) (omega (arith, n, room, wide)))

  reads_in : (request : ℕ) (xs : List Pair) → request < count → AreNear (rails_of xs) → AreWithin (read_bits request xs)
  reads_in request [] asked h = none
  reads_in request (x ∷ xs) asked h =
      let tail = All-tail IsNear x.t (x.f ∷ rails_of xs) h in
      more (read_rail request x.t) (read_rail request x.f ∷ read_bits request xs)
      (two_one (is_high request) (is_high x.t) (is_low request) asked (All-head IsNear x.t (x.f ∷ rails_of xs) h) asked)
      (more (read_rail request x.f) (read_bits request xs)
      (two_one (is_high request) (is_high x.f) (is_low request) asked (All-head IsNear x.f (rails_of xs) tail) asked)
      (reads_in request xs asked (All-tail IsNear x.f (rails_of xs) tail)))

  ports_in : (request : ℕ) (xs : List Pair) → request < count → AreNear (rails_of xs) → AreWithin (port_rules request xs)
  ports_in request xs asked h = All-map Within (taken_rail request) (rails_of xs)
      (All-weaker IsNear (λ rail. Within (taken_rail request rail))
      (λ rail l. two_two (is_high request) (is_high rail) (is_low request) (is_low rail) asked l asked l) (rails_of xs) h)

  pairs_near : (bits from : ℕ) → from + 2 * bits ≤ count → AreNear (rails_of (pairs_from bits from))
  pairs_near zero from room = All-nil IsNear
  pairs_near (suc n) from room = All-cons IsNear from ((from + 1) ∷ rails_of (pairs_from n (from + 2))) (omega (arith, room))
      (All-cons IsNear (from + 1) (rails_of (pairs_from n (from + 2))) (omega (arith, room)) (pairs_near n (from + 2) (omega (arith, room))))

  block_near : (n from : ℕ) → from + 5 * n ≤ count → AreNear (rails_of (block_bits n from))
  block_near zero from room = All-nil IsNear
  block_near (suc n) from room = All-cons IsNear from ((from + 1) ∷ rails_of (block_bits n (from + 5))) (omega (arith, room))
      (All-cons IsNear (from + 1) (rails_of (block_bits n (from + 5))) (omega (arith, room)) (block_near n (from + 5) (omega (arith, room))))

  pub range_near : (from n : ℕ) → from + n ≤ count → AreNear (range_with_len from n)
  range_near from zero room = All-nil IsNear
  range_near from (suc n) room = All-cons IsNear from (range_with_len (from + 1) n) (omega (arith, room)) (range_near (from + 1) n (omega (arith, room)))

  rails_append : (ps qs : List Pair) → AreNear (rails_of ps) → AreNear (rails_of qs) → AreNear (rails_of (ps ++ qs))
  rails_append [] qs h k = k
  rails_append (p ∷ ps) qs h k =
      let tail = All-tail IsNear p.t (p.f ∷ rails_of ps) h in
      All-cons IsNear p.t (p.f ∷ rails_of (ps ++ qs)) (All-head IsNear p.t (p.f ∷ rails_of ps) h)
      (All-cons IsNear p.f (rails_of (ps ++ qs)) (All-head IsNear p.f (rails_of ps) tail) (rails_append ps qs (All-tail IsNear p.f (rails_of ps) tail) k))

  -- selections

  falses_in : (hs : List Pair) → AreNear (rails_of hs) → Term (all_false hs)
  falses_in [] h = All-nil Near
  falses_in (x ∷ hs) h =
      let tail = All-tail IsNear x.t (x.f ∷ rails_of hs) h in
      All-cons Near (is_high x.f) (all_false hs) (All-head IsNear x.f (rails_of hs) tail) (falses_in hs (All-tail IsNear x.f (rails_of hs) tail))

  ones_in : (before behind : List Pair) → AreNear (rails_of before) → AreNear (rails_of behind) → All Term (only_one_true before behind)
  ones_in before [] h k = All-nil Term
  ones_in before (x ∷ behind) h k =
      let tail = All-tail IsNear x.t (x.f ∷ rails_of behind) k in
      let xt : x.t < count = All-head IsNear x.t (x.f ∷ rails_of behind) k in
      let xf : x.f < count = All-head IsNear x.f (rails_of behind) tail in
      let rest = All-tail IsNear x.f (rails_of behind) tail in
      let one : AreNear (rails_of (x ∷ [])) = All-cons IsNear x.t (x.f ∷ []) xt (All-cons IsNear x.f [] xf (All-nil IsNear)) in
      All-cons Term (all_false before ++ is_high x.t ∷ all_false behind) (only_one_true (before ++ x ∷ []) behind)
      (All-append Near (all_false before) (is_high x.t ∷ all_false behind) (falses_in before h)
      (All-cons Near (is_high x.t) (all_false behind) xt (falses_in behind rest)))
      (ones_in (before ++ x ∷ []) behind (rails_append before (x ∷ []) h one) rest)

  latches_in : (request : ℕ) (hs : List Pair) → request < count → AreNear (rails_of hs) → AreWithin (latches request hs)
  latches_in request hs asked h =
      let latch : List Literal → NodeRules = λ wanted. record { up = wanted ∷ []; down = (is_low request ∷ []) ∷ [] } in
      let one : (wanted : List Literal) → Term wanted → Within (latch wanted) =
      λ wanted t. (one_term_in wanted t, one_term_in (is_low request ∷ []) (single (is_low request) asked)) in
      All-map Within latch (only_one_true [] hs) (All-weaker Term (λ wanted. Within (latch wanted)) one (only_one_true [] hs)
      (ones_in [] hs (All-nil IsNear) h))

  started_in : (latch : ℕ) (hs : List Pair) → latch < count → AreNear (rails_of hs) → Within (started latch hs)
  started_in latch hs l h = (
    one_term_in (is_high latch ∷ lows (rails_of hs)) (All-cons Near (is_high latch) (lows (rails_of hs)) l (lows_in (rails_of hs) h)),
    one_term_in (is_low latch ∷ []) (single (is_low latch) l),
  )

  starts_in : (ls : List ℕ) (hs : List Pair) → AreNear ls → AreNear (rails_of hs) → AreWithin (starts ls hs)
  starts_in ls hs h k = All-map Within (λ l. started l hs) ls (All-weaker IsNear (λ l. Within (started l hs)) (λ l m. started_in l hs m k) ls h)

  answers_in : (any : ℕ) (answers : List ℕ) → any < count → AreNear answers → Within (joined_answer any answers)
  answers_in any answers l h = (
    singles_in answers h,
    one_term_in (is_low any ∷ lows answers) (All-cons Near (is_low any) (lows answers) l (lows_in answers h)),
  )

  evaluation_in : (request any : ℕ) → request < count → any < count → Within (evaluation request any)
  evaluation_in request any h k = two_one (is_high request) (is_low any) (is_high any) h k k

  pub select_in : (c : Choosing) → c.request < count → c.any < count → AreNear c.latched → AreNear (rails_of c.guards) → AreNear c.answers →
      AreWithin (select_rules c)
  select_in c asked l latched guards answers =
      let own = latches c.request c.guards ++ starts c.latched c.guards in
      more (joined_answer c.any c.answers) (evaluation c.request c.any ∷ or_of c.latched ∷ own) (answers_in c.any c.answers l answers)
      (more (evaluation c.request c.any) (or_of c.latched ∷ own) (evaluation_in c.request c.any asked l)
      (more (or_of c.latched) own (or_in c.latched latched)
      (joined (latches c.request c.guards) (starts c.latched c.guards) (latches_in c.request c.guards asked guards)
      (starts_in c.latched c.guards latched guards))))

  pub again_in : (r : Repeating) → r.request < count → r.joined < count → r.leave < count → r.turn.request < count → r.turn.any < count
      → AreNear r.turn.latched → AreNear (rails_of r.turn.guards) → AreNear r.turn.answers → AreWithin (again_rules r)
  again_in r asked joins leaves turns l latched guards answers =
      let c = r.turn in
      let own = latches c.request c.guards ++ starts c.latched c.guards in
      let behind = or_of (r.leave ∷ c.latched) ∷ leave_latch c.request c.guards ∷ own in
      let inner = joined_answer c.any c.answers ∷ evaluation c.request c.any ∷ behind in
      more (leave_answer r.leave c.any c.guards) (turn_request r.request r.joined ∷ inner) (
        one_term_in (is_high r.leave ∷ lows (rails_of c.guards)) (All-cons Near (is_high r.leave) (lows (rails_of c.guards)) leaves
            (lows_in (rails_of c.guards) guards)),
        one_term_in (is_low c.any ∷ []) (single (is_low c.any) l),
      )
      (more (turn_request r.request r.joined) inner (
        one_term_in (is_high r.request ∷ is_low r.joined ∷ []) (double (is_high r.request) (is_low r.joined) asked joins),
        All-cons Term (is_high r.joined ∷ []) ((is_low r.request ∷ []) ∷ []) (single (is_high r.joined) joins)
            (one_term_in (is_low r.request ∷ []) (single (is_low r.request) asked)),
      )
      (more (joined_answer c.any c.answers) (evaluation c.request c.any ∷ behind) (answers_in c.any c.answers l answers)
      (more (evaluation c.request c.any) behind (evaluation_in c.request c.any turns l)
      (more (or_of (r.leave ∷ c.latched)) (leave_latch c.request c.guards ∷ own)
      (or_in (r.leave ∷ c.latched) (All-cons IsNear r.leave c.latched leaves latched))
      (more (leave_latch c.request c.guards) own (
        one_term_in (all_false c.guards) (falses_in c.guards guards),
        one_term_in (is_low c.request ∷ []) (single (is_low c.request) turns),
      )
      (joined (latches c.request c.guards) (starts c.latched c.guards) (latches_in c.request c.guards turns guards)
      (starts_in c.latched c.guards latched guards)))))))

-- what is there under a condition
pub one_if : {A : Type 0} (Good : A → Type 0) (b : Bool) (a : A) → (b ≡ true → Good a) → All Good (if b then a ∷ [] else [])
one_if Good true a h = All-cons Good a [] (h refl) (All-nil Good)
one_if Good false a h = All-nil Good

-- statements

module _ (p : TypedProgram) (typed : IsTyped p.channels p.vars p.body) (count : ℕ) (room : root_request p + 2 ≤ count) where
  written_near : (x : ℕ) → x < length p.vars → written_at p x < count
  written_near x l =
      let wide = var_some p.vars x typed.each_var l in
      let is = all_written_is (var_width p.vars x) (var_from p x) wide in
      let below = blocks_below p.vars x l in
      omega (arith, is, below, wide, room)

  ack_near : (k : ℕ) → k < length p.channels → ack_at p k < count
  ack_near k l = let below = wires_below p.channels k l in omega (arith, below, room)

  wires_near : (k : ℕ) → k < length p.channels → AreNear count (rails_of (rails_at p k))
  wires_near k l = let below = wires_below p.channels k l in pairs_near count (channel_width p.channels k) _ (omega (arith, below, room))

  formula_in : (e : Formula) (request from : ℕ) → IsWellFormed e → ReadsFrom p.vars e → root_request p ≤ request → request < count →
      from + formula_size e ≤ count → AreWithin count (formula_rules (bits_at p) e request from)
  formula_in e request from formed read low asked end =
      subst (AreWithin count)
      (rules_in_blocks p.vars (bits_at p) (var_firsts p) (has_bits p)
      (λ x i l m. bit_pair (var_width p.vars x) _ i m ∙ ap (λ n. pair_at (n + 5 * i)) (sym (first_at p (var_firsts p) refl x l)))
      e formed read request from)
      (rules_within count (var_firsts p) e request from formed (bits_there p (var_firsts p) refl e formed read count request low asked) asked end)

  result_near : (e : Formula) (from : ℕ) → IsWellFormed e → from + formula_size e ≤ count → AreNear count (rails_of (formula_result e from))
  result_near e from formed end = λ i d l. let b = rails_own e from formed i d l in omega (arith, b.1, end)

  through_in : (x : ℕ) (e : Formula) (request from : ℕ) → x < length p.vars → IsWellFormed e → ReadsFrom p.vars e → root_request p ≤ from → request < count
      → from + through_size (var_width p.vars x) e ≤ count → AreWithin count (through_rules p x e request from)
  through_in x e request from l formed read low asked end =
      let h = through_at (var_width p.vars x) (formula_size e) from in
      let wide = var_some p.vars x typed.each_var l in
      let some : 1 < count = omega (arith, room) in
      let site = formula_result e (h.first + 1) in
      let own = formula_rules (bits_at p) e h.element (h.first + 1) in
      let back = read_bits (h.element + 2) (block_bits h.width h.block) in
      let is = all_written_is h.width h.block wide in
      let last = write_answer (h.element + 2) (written_at p x) ∷ back in
      let inner = write_answer h.element (all_written h.width h.block) ∷ (own ++ last) in
      joined count (variable_rules h.width h.block (site ∷ [])) (q_rules request h.first h.element ++ inner)
      (block_in count some (site ∷ []) (All-cons (λ (s : List Pair). AreNear count (rails_of s)) site []
      (result_near e (h.first + 1) formed (omega (arith, end))) (All-nil (λ (s : List Pair). AreNear count (rails_of s))))
      h.width h.block wide (omega (arith, end)))
      (joined count (q_rules request h.first h.element) inner
      (q_in count request h.first h.element asked (omega (arith, end)) (omega (arith, end)))
      (more count (write_answer h.element (all_written h.width h.block)) (own ++ last)
      (site_in count h.element (all_written h.width h.block) (omega (arith, end)) (omega (arith, is, wide, end)))
      (joined count own last
      (formula_in e h.element (h.first + 1) formed read (omega (arith, low)) (omega (arith, end)) (omega (arith, end)))
      (more count (write_answer (h.element + 2) (written_at p x)) back
      (site_in count (h.element + 2) (written_at p x) (omega (arith, end)) (written_near x l))
      (reads_in count (h.element + 2) (block_bits h.width h.block) (omega (arith, end)) (block_near count h.width h.block (omega (arith, wide, end))))))))

  either_in : (b : Bool) (xs ys : List NodeRules) (m n from : ℕ) → (from + m ≤ count → AreWithin count xs) → (from + n ≤ count → AreWithin count ys)
      → from + (if b then m else n) ≤ count → AreWithin count (if b then xs else ys)
  either_in true xs ys m n from h k end = h end
  either_in false xs ys m n from h k end = k end

  pub guards_in : (choices : Choices) (request from : ℕ) → AreChoices p.channels p.vars choices → root_request p ≤ request → request < count →
      from + guards_size choices ≤ count → AreWithin count (guards_rules p choices request from)
  guards_in no_choices request from h low asked end = none count
  guards_in (and_choice g s more_choices) request from h low asked end =
      joined count (formula_rules (bits_at p) g request from) (guards_rules p more_choices request (from + formula_size g))
      (formula_in g request from h.0.formed h.0.reads low asked (omega (arith, end)))
      (guards_in more_choices request (from + formula_size g) h.2 low asked (omega (arith, end)))

  pub guards_near : (choices : Choices) (from : ℕ) → AreChoices p.channels p.vars choices → from + guards_size choices ≤ count →
      AreNear count (rails_of (guard_pairs choices from))
  guards_near no_choices from h end = All-nil (IsNear count)
  guards_near (and_choice g s more_choices) from h end =
      rails_append count (formula_result g from) (guard_pairs more_choices (from + formula_size g)) (result_near g from h.0.formed (omega (arith, end)))
      (guards_near more_choices (from + formula_size g) h.2 (omega (arith, end)))

  bodies_near : (choices : Choices) (from : ℕ) → AreChoices p.channels p.vars choices → from + bodies_size p choices ≤ count →
      AreNear count (branch_answers p choices from)
  bodies_near no_choices from h end = All-nil (IsNear count)
  bodies_near (and_choice g s more_choices) from h end =
      let inside = answer_within p s from h.1 in
      All-cons (IsNear count) (answer_of p s from) (branch_answers p more_choices (from + size_of p s)) (omega (arith, inside.1, end))
      (bodies_near more_choices (from + size_of p s) h.2 (omega (arith, end)))

  ends_near : (members : Processes) (from : ℕ) → from + branches_size p members ≤ count → AreNear count (branch_ends p members from)
  ends_near no_members from end = All-nil (IsNear count)
  ends_near (and_member s more_members) from end =
      All-cons (IsNear count) (from + 2) (branch_ends p more_members (from + 3 + size_of p s)) (omega (arith, end))
      (ends_near more_members (from + 3 + size_of p s) (omega (arith, end)))

  branches_end_is : (members : Processes) (from : ℕ) → branches_end p members from ≡ from + branches_size p members
  branches_end_is no_members from = omega arith
  branches_end_is (and_member s more_members) from = let e = branches_end_is more_members (from + 3 + size_of p s) in omega (arith, e)

  mutual
    pub statement_in : (s : Process) (request from : ℕ) → IsProcess p.channels p.vars s → root_request p ≤ request → request < count → root_request p ≤ from
        → from + size_of p s ≤ count → AreWithin count (rules_of p s request from)
    statement_in skipping request from h low asked base end =
        more count (skip_answer request) [] (one_one count (is_high request) (is_low request) asked asked) (none count)
    statement_in (assigning x at e) request from h low asked base end =
        either_in (reads x e) (through_rules p x e request from) (write_answer request (written_at p x) ∷ formula_rules (bits_at p) e request (from + 1))
        (through_size (var_width p.vars x) e) (1 + formula_size e) from
        (λ fits. through_in x e request from h.0 h.1.formed h.1.reads base asked fits)
        (λ fits. more count (write_answer request (written_at p x)) (formula_rules (bits_at p) e request (from + 1))
        (site_in count request (written_at p x) asked (written_near x h.0))
        (formula_in e request (from + 1) h.1.formed h.1.reads low asked (omega (arith, fits))))
        end
    statement_in (sending chan at e) request from h low asked base end =
        more count (write_answer request (ack_at p chan)) (formula_rules (bits_at p) e request (from + 1))
        (site_in count request (ack_at p chan) asked (ack_near chan h.within))
        (formula_in e request (from + 1) h.sent.formed h.sent.reads low asked (omega (arith, end)))
    statement_in (receiving chan chan_at x var_at) request from h low asked base end =
        more count (write_answer request (ack_at p chan)) (write_answer request (written_at p x) ∷ port_rules request (rails_at p chan))
        (site_in count request (ack_at p chan) asked (ack_near chan h.within))
        (more count (write_answer request (written_at p x)) (port_rules request (rails_at p chan))
        (site_in count request (written_at p x) asked (written_near x h.target))
        (ports_in count request (rails_at p chan) asked (wires_near chan h.within)))
    statement_in (in_turn members) request from h low asked base end = turn_in members request from h.1 low asked base end
    statement_in (side_by_side members) request from h low asked base end =
        let ends = ends_length p members from in
        let last = branches_end_is members from in
        joined count (branches_rules p members request from) (tree_rules (branch_ends p members from) (branches_end p members from))
        (branches_in members request from h.1 low asked base (omega (arith, end)))
        (tree_in count (branch_ends p members from) (branches_end p members from) (ends_near members from (omega (arith, end)))
        (omega (arith, ends, last, end, h.0)))
    statement_in (choosing false choices) request from h low asked base end =
        let starts = from + select_own + choice_count choices in
        joined count (select_rules (choosing_at p choices request (from + 2) select_own from))
        (guards_rules p choices (from + 1) (guards_from choices select_own from) ++ bodies_rules p choices starts (bodies_from choices select_own from))
        (select_in count (choosing_at p choices request (from + 2) select_own from) asked (omega (arith, end))
        (range_near count (from + select_own) (choice_count choices) (omega (arith, end)))
        (guards_near choices (guards_from choices select_own from) h.2 (omega (arith, end)))
        (bodies_near choices (bodies_from choices select_own from) h.2 (omega (arith, end))))
        (joined count (guards_rules p choices (from + 1) (guards_from choices select_own from)) (bodies_rules p choices starts
        (bodies_from choices select_own from))
        (guards_in choices (from + 1) (guards_from choices select_own from) h.2 (omega (arith, base)) (omega (arith, end)) (omega (arith, end)))
        (bodies_in choices starts (bodies_from choices select_own from) h.2 (omega (arith, base)) (omega (arith, end)) (omega (arith, base)) (omega
        (arith, end))))
    statement_in (choosing true choices) request from h low asked base end =
        let starts = from + again_own + choice_count choices in
        joined count (again_rules (repeating_at p choices request from))
        (guards_rules p choices (from + 3) (guards_from choices again_own from) ++ bodies_rules p choices starts (bodies_from choices again_own from))
        (again_in count (repeating_at p choices request from) asked (omega (arith, end)) (omega (arith, end)) (omega (arith, end)) (omega (arith, end))
        (range_near count (from + again_own) (choice_count choices) (omega (arith, end)))
        (guards_near choices (guards_from choices again_own from) h.2 (omega (arith, end)))
        (bodies_near choices (bodies_from choices again_own from) h.2 (omega (arith, end))))
        (joined count (guards_rules p choices (from + 3) (guards_from choices again_own from)) (bodies_rules p choices starts
        (bodies_from choices again_own from))
        (guards_in choices (from + 3) (guards_from choices again_own from) h.2 (omega (arith, base)) (omega (arith, end)) (omega (arith, end)))
        (bodies_in choices starts (bodies_from choices again_own from) h.2 (omega (arith, base)) (omega (arith, end)) (omega (arith, base)) (omega
        (arith, end))))
    statement_in (repeating s) request from h low asked base end =
        let inside = answer_within p s (from + 2) h in
        let answer = answer_of p s (from + 2) in
        more count no_rules (loop_request request answer ∷ rules_of p s (from + 1) (from + 2)) (none_in count)
        (more count (loop_request request answer) (rules_of p s (from + 1) (from + 2))
        (two_one count (is_high request) (is_low (answer_of p s (from + 2))) (is_high (answer_of p s (from + 2))) asked (omega (arith, inside.1, end))
        (omega (arith, inside.1, end)))
        (statement_in s (from + 1) (from + 2) h (omega (arith, base)) (omega (arith, end)) (omega (arith, base)) (omega (arith, end))))

    turn_in : (members : Processes) (request from : ℕ) → AreProcesses p.channels p.vars members → root_request p ≤ request → request < count
        → root_request p ≤ from → from + turn_size p members ≤ count → AreWithin count (turn_rules p members request from)
    turn_in no_members request from h low asked base end = none count
    turn_in (and_member s no_members) request from h low asked base end = statement_in s request from h.0 low asked base end
    turn_in (and_member s (and_member t more_members)) request from h low asked base end =
        let inside = answer_within p s (from + 3) h.0 in
        joined count (q_rules request (answer_of p s (from + 3)) from)
        (rules_of p s from (from + 3) ++ turn_rules p (and_member t more_members) (from + 2) (from + 3 + size_of p s))
        (q_in count request (answer_of p s (from + 3)) from asked (omega (arith, inside.1, end)) (omega (arith, end)))
        (joined count (rules_of p s from (from + 3)) (turn_rules p (and_member t more_members) (from + 2) (from + 3 + size_of p s))
        (statement_in s from (from + 3) h.0 base (omega (arith, end)) (omega (arith, base)) (omega (arith, end)))
        (turn_in (and_member t more_members) (from + 2) (from + 3 + size_of p s) h.1 (omega (arith, base)) (omega (arith, end)) (omega (arith, base))
        (omega (arith, end))))

    branches_in : (members : Processes) (request from : ℕ) → AreProcesses p.channels p.vars members → root_request p ≤ request → request < count
        → root_request p ≤ from → from + branches_size p members ≤ count → AreWithin count (branches_rules p members request from)
    branches_in no_members request from h low asked base end = none count
    branches_in (and_member s more_members) request from h low asked base end =
        let inside = answer_within p s (from + 3) h.0 in
        joined count (q_rules request (answer_of p s (from + 3)) from)
        (rules_of p s from (from + 3) ++ branches_rules p more_members request (from + 3 + size_of p s))
        (q_in count request (answer_of p s (from + 3)) from asked (omega (arith, inside.1, end)) (omega (arith, end)))
        (joined count (rules_of p s from (from + 3)) (branches_rules p more_members request (from + 3 + size_of p s))
        (statement_in s from (from + 3) h.0 base (omega (arith, end)) (omega (arith, base)) (omega (arith, end)))
        (branches_in more_members request (from + 3 + size_of p s) h.1 low asked (omega (arith, base)) (omega (arith, end))))

    bodies_in : (choices : Choices) (start from : ℕ) → AreChoices p.channels p.vars choices → root_request p ≤ start → start + choice_count choices ≤ count
        → root_request p ≤ from → from + bodies_size p choices ≤ count → AreWithin count (bodies_rules p choices start from)
    bodies_in no_choices start from h low asked base end = none count
    bodies_in (and_choice g s more_choices) start from h low asked base end =
        joined count (rules_of p s start from) (bodies_rules p more_choices (start + 1) (from + size_of p s))
        (statement_in s start from h.1 low (omega (arith, asked)) base (omega (arith, end)))
        (bodies_in more_choices (start + 1) (from + size_of p s) h.2 (omega (arith, low)) (omega (arith, asked)) (omega (arith, base)) (omega (arith, end)))

  -- what a statement contributes at its sites

  abbrev RailsNear : List Pair → Type 0
  RailsNear bits = AreNear count (rails_of bits)

  pub send_near : (k : ℕ) (s : Process) (from : ℕ) → IsProcess p.channels p.vars s → from + size_of p s ≤ count → AreSites count (send_site k s from)
  send_near k skipping from h end = All-nil RailsNear
  send_near k (assigning x at e) from h end = All-nil RailsNear
  send_near k (sending chan at e) from h end =
      one_if RailsNear (chan == k) (formula_result e (from + 1)) (λ same. result_near e (from + 1) h.sent.formed (omega (arith, end)))
  send_near k (receiving chan chan_at x var_at) from h end = All-nil RailsNear
  send_near k (in_turn _) from h end = All-nil RailsNear
  send_near k (side_by_side _) from h end = All-nil RailsNear
  send_near k (choosing _ _) from h end = All-nil RailsNear
  send_near k (repeating s) from h end = All-nil RailsNear

  pub receive_near : (k : ℕ) (s : Process) (from : ℕ) → IsProcess p.channels p.vars s → from + size_of p s ≤ count → AreNear count (receive_site k s from)
  receive_near k skipping from h end = All-nil (IsNear count)
  receive_near k (assigning x at e) from h end = All-nil (IsNear count)
  receive_near k (sending chan at e) from h end = All-nil (IsNear count)
  receive_near k (receiving chan chan_at x var_at) from h end = one_if (IsNear count) (chan == k) (from + 1) (λ same. omega (arith, end))
  receive_near k (in_turn _) from h end = All-nil (IsNear count)
  receive_near k (side_by_side _) from h end = All-nil (IsNear count)
  receive_near k (choosing _ _) from h end = All-nil (IsNear count)
  receive_near k (repeating s) from h end = All-nil (IsNear count)

  assigned_near : (b : Bool) (x : ℕ) (e : Formula) (from : ℕ) → IsWellFormed e
      → from + (if b then through_size (var_width p.vars x) e else 1 + formula_size e) ≤ count
      → RailsNear (if b then read_back (through_at (var_width p.vars x) (formula_size e) from) else formula_result e (from + 1))
  assigned_near true x e from formed end = pairs_near count (var_width p.vars x) _ (omega (arith, end))
  assigned_near false x e from formed end = result_near e (from + 1) formed (omega (arith, end))

  pub write_near : (x : ℕ) (s : Process) (from : ℕ) → IsProcess p.channels p.vars s → from + size_of p s ≤ count → AreSites count (write_site p x s from)
  write_near x skipping from h end = All-nil RailsNear
  write_near x (assigning y at e) from h end =
      one_if RailsNear (y == x) (assigned_rails p x e from)
      (λ same. subst (λ z. RailsNear (assigned_rails p z e from)) (eqb-true y x same) (assigned_near (reads y e) y e from h.1.formed end))
  write_near x (sending chan at e) from h end = All-nil RailsNear
  write_near x (receiving chan chan_at y var_at) from h end =
      one_if RailsNear (y == x) (pairs_from (channel_width p.channels chan) (from + 2))
      (λ same. pairs_near count (channel_width p.channels chan) (from + 2) (omega (arith, end)))
  write_near x (in_turn _) from h end = All-nil RailsNear
  write_near x (side_by_side _) from h end = All-nil RailsNear
  write_near x (choosing _ _) from h end = All-nil RailsNear
  write_near x (repeating s) from h end = All-nil RailsNear

  -- what holds of each site of a statement's nodes holds of those of its parts
  module _ {A : Type 0} (Good : A → Type 0) (site : Sites A)
      (own : (s : Process) (from : ℕ) → IsProcess p.channels p.vars s → from + size_of p s ≤ count → All Good (site s from)) where
    mutual
      pub sites_near : (s : Process) (from : ℕ) → IsProcess p.channels p.vars s → from + size_of p s ≤ count → All Good (sites_in p site s from)
      sites_near skipping from h end = own skipping from h end
      sites_near (assigning x at e) from h end = own (assigning x at e) from h end
      sites_near (sending chan at e) from h end = own (sending chan at e) from h end
      sites_near (receiving chan chan_at x var_at) from h end = own (receiving chan chan_at x var_at) from h end
      sites_near (in_turn members) from h end = turn_near members from h.1 end
      sites_near (side_by_side members) from h end = branches_near members from h.1 (omega (arith, end))
      sites_near (choosing false choices) from h end = arms_near choices (bodies_from choices select_own from) h.2 (omega (arith, end))
      sites_near (choosing true choices) from h end = arms_near choices (bodies_from choices again_own from) h.2 (omega (arith, end))
      sites_near (repeating s) from h end = sites_near s (from + 2) h (omega (arith, end))

      turn_near : (members : Processes) (from : ℕ) → AreProcesses p.channels p.vars members → from + turn_size p members ≤ count
          → All Good (sites_in_turn p site members from)
      turn_near no_members from h end = All-nil Good
      turn_near (and_member s no_members) from h end = sites_near s from h.0 end
      turn_near (and_member s (and_member t more_members)) from h end =
          All-append Good (sites_in p site s (from + 3)) (sites_in_turn p site (and_member t more_members) (from + 3 + size_of p s))
          (sites_near s (from + 3) h.0 (omega (arith, end)))
          (turn_near (and_member t more_members) (from + 3 + size_of p s) h.1 (omega (arith, end)))

      branches_near : (members : Processes) (from : ℕ) → AreProcesses p.channels p.vars members → from + branches_size p members ≤ count
          → All Good (sites_in_branches p site members from)
      branches_near no_members from h end = All-nil Good
      branches_near (and_member s more_members) from h end =
          All-append Good (sites_in p site s (from + 3)) (sites_in_branches p site more_members (from + 3 + size_of p s))
          (sites_near s (from + 3) h.0 (omega (arith, end)))
          (branches_near more_members (from + 3 + size_of p s) h.1 (omega (arith, end)))

      arms_near : (choices : Choices) (from : ℕ) → AreChoices p.channels p.vars choices → from + bodies_size p choices ≤ count
          → All Good (sites_in_bodies p site choices from)
      arms_near no_choices from h end = All-nil Good
      arms_near (and_choice g s more_choices) from h end =
          All-append Good (sites_in p site s from) (sites_in_bodies p site more_choices (from + size_of p s))
          (sites_near s from h.1 (omega (arith, end)))
          (arms_near more_choices (from + size_of p s) h.2 (omega (arith, end)))

-- rules over their own nodes

ups_in : (n : ℕ) (rs : List NodeRules) → AreWithin n rs → All (IsBelow n) (map (λ (r : NodeRules). r.up) rs)
ups_in n rs h = All-map (IsBelow n) (λ (r : NodeRules). r.up) rs (All-weaker (AreBelow n) (λ (r : NodeRules). IsBelow n r.up) (λ r k. k.0) rs h)

downs_in : (n : ℕ) (rs : List NodeRules) → AreWithin n rs → All (IsBelow n) (map (λ (r : NodeRules). r.down) rs)
downs_in n rs h = All-map (IsBelow n) (λ (r : NodeRules). r.down) rs (All-weaker (AreBelow n) (λ (r : NodeRules). IsBelow n r.down) (λ r k. k.1) rs h)

abbrev pub rules_listed : List NodeRules → RulesValue
rules_listed rs = record { up = map (λ (r : NodeRules). r.up) rs; down = map (λ (r : NodeRules). r.down) rs }

pub are_rules : (n : ℕ) (rs : List NodeRules) → length rs ≡ n → n < 2 ^ 32 → AreWithin n rs → IsRules (rules_listed rs)
are_rules n rs long few h =
    let up : length (map (λ (r : NodeRules). r.up) rs) ≡ n = length-map rs (λ (r : NodeRules). r.up) ∙ long in
    let down : length (map (λ (r : NodeRules). r.down) rs) ≡ n = length-map rs (λ (r : NodeRules). r.down) ∙ long in
    record {
      few = omega (arith, up, few);
      downs = omega (arith, up, down);
      up_within = subst (λ m. All (IsBelow m) (map (λ (r : NodeRules). r.up) rs)) (sym up) (ups_in n rs h);
      down_within = subst (λ m. All (IsBelow m) (map (λ (r : NodeRules). r.down) rs)) (sym up) (downs_in n rs h);
    }

-- all rules

module _ (p : TypedProgram) (typed : IsTyped p.channels p.vars p.body) where
  some_nodes : 1 < nodes_of p
  some_nodes = omega arith

  -- what the sites contribute
  sends_near : (k : ℕ) → AreSites (nodes_of p) (in_body p (send_site k))
  sends_near k =
      sites_near p typed (nodes_of p) (omega arith) (λ (s : List Pair). AreNear (nodes_of p) (rails_of s)) (send_site k)
      (send_near p typed (nodes_of p) (omega arith) k) p.body (body_from p) typed.body_is (omega arith)

  writes_near : (x : ℕ) → AreSites (nodes_of p) (in_body p (write_site p x))
  writes_near x =
      sites_near p typed (nodes_of p) (omega arith) (λ (s : List Pair). AreNear (nodes_of p) (rails_of s)) (write_site p x)
      (write_near p typed (nodes_of p) (omega arith) x) p.body (body_from p) typed.body_is (omega arith)

  takes_near : (k : ℕ) → AreNear (nodes_of p) (in_body p (receive_site k))
  takes_near k =
      sites_near p typed (nodes_of p) (omega arith) (IsNear (nodes_of p)) (receive_site k)
      (receive_near p typed (nodes_of p) (omega arith) k) p.body (body_from p) typed.body_is (omega arith)

  channel_in : (k width : ℕ) (kind : Kind) → AreWithin (nodes_of p) (channel_rules p k width kind)
  channel_in k width kind =
      wire_in (nodes_of p) some_nodes (in_body p (send_site k)) (sends_near k) (in_body p (receive_site k)) (takes_near k) width kind

  channels_in : (k : ℕ) (cs : List Channel) → AreWithin (nodes_of p) (channels_rules p k cs)
  channels_in k [] = none (nodes_of p)
  channels_in k (c ∷ cs) = joined (nodes_of p) (channel_rules p k c.width c.kind) (channels_rules p (suc k) cs) (channel_in k c.width c.kind)
      (channels_in (suc k) cs)

  var_in : (x : ℕ) (v : Var) → IsDeclaredVar v → var_from p x + block_size v.width ≤ nodes_of p →
      AreWithin (nodes_of p) (variable_rules v.width (var_from p x) (in_body p (write_site p x)))
  var_in x v declared room = block_in (nodes_of p) some_nodes (in_body p (write_site p x)) (writes_near x) v.width (var_from p x) declared.some room

  vars_in : (x : ℕ) (vs : List Var) → All IsDeclaredVar vs → var_from p x + blocks_before vs (length vs) ≤ nodes_of p
      → ((i : ℕ) → i < length vs → var_from p (x + i) ≡ var_from p x + blocks_before vs i) → AreWithin (nodes_of p) (vars_rules p x vs)
  vars_in x [] declared room at = none (nodes_of p)
  vars_in x (v ∷ []) declared room at =
      joined (nodes_of p) (variable_rules v.width (var_from p x) (in_body p (write_site p x))) [] (var_in x v (All-head IsDeclaredVar v [] declared)
      (omega (arith, room))) (none (nodes_of p))
  vars_in x (v ∷ w ∷ vs) declared room at =
      let one : x + 1 ≡ suc x = omega arith in
      let here = at 1 (omega arith) in
      let next : var_from p (suc x) ≡ var_from p (x + 1) = ap (var_from p) (sym one) in
      joined (nodes_of p) (variable_rules v.width (var_from p x) (in_body p (write_site p x))) (vars_rules p (suc x) (w ∷ vs))
      (var_in x v (All-head IsDeclaredVar v (w ∷ vs) declared) (omega (arith, room)))
      (vars_in (suc x) (w ∷ vs) (All-tail IsDeclaredVar v (w ∷ vs) declared) (omega (arith, next, here, room))
      (λ i l. let same : suc x + i ≡ x + suc i = omega arith in let there = at (suc i) (omega (arith, l)) in
      ap (var_from p) same ∙ (let e : var_from p (x + suc i) ≡ var_from p (suc x) + blocks_before (w ∷ vs) i = omega (arith, there, next, here) in e)))

  pub all_in : AreWithin (nodes_of p) (all_rules p)
  all_in =
      let count = nodes_of p in
      let inside = answer_within p p.body (body_from p) typed.body_is in
      let answered : body_answer p < count = omega (arith, inside.1) in
      let latch : root_latch p < count = omega arith in
      let body = rules_of p p.body (root_request p) (body_from p) in
      let all = channels_rules p 0 p.channels ++ (vars_rules p 0 p.vars ++ root_and_body p) in
      more count no_rules (q_next (root_latch p) (body_answer p) ∷ all) (none_in count)
      (more count (q_next (root_latch p) (body_answer p)) all
      (two_one count (is_high (root_latch p)) (is_low (body_answer p)) (is_low (root_latch p)) latch answered latch)
      (joined count (channels_rules p 0 p.channels) (vars_rules p 0 p.vars ++ root_and_body p) (channels_in 0 p.channels)
      (joined count (vars_rules p 0 p.vars) (root_and_body p)
      (vars_in 0 p.vars typed.each_var (let none_before = first_block p.vars in omega (arith, none_before))
      (λ i l. let none_before = first_block p.vars in let same : blocks_before p.vars (0 + i) ≡ blocks_before p.vars i =
      ap (blocks_before p.vars) (let e : 0 + i ≡ i = omega arith in e) in omega (arith, none_before, same)))
      (more count (q_child go_node (root_latch p)) (q_latch go_node (body_answer p) ∷ body)
      (two_one count (is_high go_node) (is_low (root_latch p)) (is_high (root_latch p)) (omega arith) latch latch)
      (more count (q_latch go_node (body_answer p)) body (one_one count (is_high (body_answer p)) (is_low go_node) answered (omega arith))
      (statement_in p typed count (omega arith) p.body (root_request p) (body_from p) typed.body_is (omega arith) (omega arith) (omega arith)
      (omega arith)))))))
    where
      first_block : (vs : List Var) → blocks_before vs 0 ≡ 0
      first_block [] = refl
      first_block (v ∷ vs) = refl

  pub rules_hold : Counted → nodes_of p < 2 ^ 32 → IsRules (composed p)
  rules_hold counted few = are_rules (nodes_of p) (all_rules p) (all_length counted p typed.body_is) few all_in
