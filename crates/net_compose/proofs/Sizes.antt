-- The net of a typed program has as many nodes as its layout counts.
use Rattle.std.proofs.Common.{◌≡◌, ℕ, zero, suc, ◌+◌, ◌-◌, ◌*◌, Bool, true, false, List, [], ◌∷◌, ◌++◌, length, refl, ap, ◌∙◌, arith}
use Rattle.std.specs.Prelude.{if◌then◌else◌, replicate, slice_set, fold, flat_map}
use Rattle.std.specs.List.{range_with_len}
use Rattle.std.proofs.lemmas.List.{length-append, length-map, length-replicate, length-set}
use Rattle.std.proofs.lemmas.List.Concat.{flat_map-cons}
use Rattle.std.proofs.lemmas.List.FromFn.{length-range_with_len}
use Rattle.chp_base.specs.declared.channel.Channel.{Channel}
use Rattle.chp_base.specs.declared.channel.Kind.{Kind}
use Rattle.chp_base.specs.declared.channel.Kind.TheVariants.{In, Out, Chan}
use Rattle.prs_core.specs.Nets.{NodeRules, true_rail, false_rail, rail_names, ack_name}
use Rattle.prs_core.specs.Pairs.{Pair, pairs_from}
use Rattle.width_check.specs.declared.typed.Var.{Var}
use Rattle.width_check.specs.Processes.{Formula, Process, skipping, assigning, sending, receiving, in_turn, side_by_side, choosing, repeating, Processes, no_members, and_member, member_count, Choices, no_choices, and_choice, choice_count, TypedProgram}
use Rattle.width_check.specs.Values.{width_of, IsWellFormed}
use Rattle.width_check.specs.Typing.{channel_width, var_width, ReadsFrom, IsProcess, AreProcesses, AreChoices, IsTyped}
use Rattle.width_check.specs.Reads.{reads}
use Rattle.handshake_expand.specs.Layout.{formula_size, block_size, through_size, size_of, turn_size, branches_size, guards_size, bodies_size, wires_size, wires_before, blocks_before, vars_from, root_request, root_latch, body_from, nodes_of, go_node}
use Rattle.handshake_expand.specs.Answers.{guards_from, bodies_from, select_own, again_own}
use Rattle.handshake_expand.specs.Named.{numbered_from, wire_names, bit_names, block_names, node_names}
use Rattle.cell_sequence.specs.Sequence.{q_child, q_latch}
use Rattle.cell_parallel.specs.Trees.{tree_rules}
use Rattle.cell_variable.specs.Variables.{Bit, bits_from, bits_rules, written_leaves, variable_rules, all_written, write_answer}
use Rattle.cell_channel.specs.Ends.{port_rules}
use Rattle.cell_select.specs.Selections.{only_one_true, latches, starts, select_rules, again_rules}
use Rattle.function_blocks.specs.Expressions.{HasBits, read_bits, formula_rules, formula_result}
use Rattle.net_compose.specs.Sized.{IsOfSize}
use Rattle.handshake_expand.specs.Sites.{in_body}
use Rattle.net_compose.specs.Translation.{rails_at, bits_at, block_bits, written_at, q_rules, Through, through_at, through_rules, guard_pairs, guards_rules, choosing_at, repeating_at, branch_ends, branches_end, rules_of, turn_rules, branches_rules, bodies_rules, rail_rules, channel_rules, channels_rules, vars_rules, all_rules, translation, send_site, write_site, body_answer, vars_high, hidden_high, first_values}

-- what is known of expressions and of completion trees
pub record Counted : Type 0 where
  pub bits : (e : Formula) (from : ℕ) → IsWellFormed e → length (formula_result e from) ≡ width_of e
  pub rules : (vars : List Var) (bits : ℕ → List Pair) → HasBits vars bits → (e : Formula) (request from : ℕ) → IsWellFormed e → ReadsFrom vars e →
      length (formula_rules bits e request from) ≡ formula_size e
  pub tree : (leaves : List ℕ) (from : ℕ) → length (tree_rules leaves from) ≡ length leaves - 1

-- one list behind another
both : {A : Type 0} (xs ys : List A) (m n : ℕ) → length xs ≡ m → length ys ≡ n → length (xs ++ ys) ≡ m + n
both xs ys m n h k = let e : length (xs ++ ys) ≡ length xs + length ys = length-append xs ys in omega (arith, e, h, k)

either : (b : Bool) (xs ys : List NodeRules) (m n : ℕ) → length xs ≡ m → length ys ≡ n → length (if b then xs else ys) ≡ (if b then m else n)
either true xs ys m n h k = h
either false xs ys m n h k = k

pub pairs_length : (bits from : ℕ) → length (pairs_from bits from) ≡ bits
pairs_length zero from = refl
pairs_length (suc n) from = ap suc (pairs_length n (from + 2))

-- variables

bits_length : (width from : ℕ) → length (bits_from width from) ≡ width
bits_length zero from = refl
bits_length (suc n) from = ap suc (bits_length n (from + 5))

pub block_length : (width from : ℕ) → length (block_bits width from) ≡ width
block_length width from = length-map (bits_from width from) (λ (b : Bit). b.x) ∙ bits_length width from

pub has_bits : (p : TypedProgram) → HasBits p.vars (bits_at p)
has_bits p x within = block_length _ _

bits_rules_length : (sites : List (List Pair)) (place : ℕ) (bs : List Bit) → length (bits_rules sites place bs) ≡ 5 * length bs
bits_rules_length sites place [] = refl
bits_rules_length sites place (b ∷ bs) = let e = bits_rules_length sites (suc place) bs in omega (arith, e)

variable_length : Counted → (width from : ℕ) (sites : List (List Pair)) → length (variable_rules width from sites) ≡ block_size width
variable_length k width from sites =
    let leaves : length (written_leaves width from) ≡ width = length-map (bits_from width from) (λ (b : Bit). b.written) ∙ bits_length width from in
    let tree = k.tree (written_leaves width from) (from + 5 * width) in
    let bits = bits_rules_length sites 0 (bits_from width from) in
    let count = bits_length width from in
    let all = both (bits_rules sites 0 (bits_from width from)) (tree_rules (written_leaves width from) (from + 5 * width)) _ _ bits tree in
    omega (arith, leaves, count, all)

reads_length : (request : ℕ) (xs : List Pair) → length (read_bits request xs) ≡ 2 * length xs
reads_length request [] = refl
reads_length request (x ∷ xs) = let e = reads_length request xs in omega (arith, e)

ports_length : (request : ℕ) (xs : List Pair) → length (port_rules request xs) ≡ 2 * length xs
ports_length request [] = refl
ports_length request (x ∷ xs) = let e = ports_length request xs in omega (arith, e)

-- what an assignment through a hidden variable has behind that variable's block and its Q-element
abbrev back_rules : TypedProgram → ℕ → Through → List NodeRules
back_rules p x h = write_answer (h.element + 2) (written_at p x) ∷ read_bits (h.element + 2) (block_bits h.width h.block)

abbrev own_rules : TypedProgram → ℕ → Formula → Through → List NodeRules
own_rules p x e h = write_answer h.element (all_written h.width h.block) ∷ (formula_rules (bits_at p) e h.element (h.first + 1) ++ back_rules p x h)

through_length : Counted → (p : TypedProgram) (x : ℕ) (e : Formula) (request from : ℕ) → IsWellFormed e → ReadsFrom p.vars e →
    length (through_rules p x e request from) ≡ through_size (var_width p.vars x) e
through_length k p x e request from formed read =
    let h : Through = through_at (var_width p.vars x) (formula_size e) from in
    let block = variable_length k h.width h.block (formula_result e (h.first + 1) ∷ []) in
    let own = k.rules p.vars (bits_at p) (has_bits p) e h.element (h.first + 1) formed read in
    let bits = block_length h.width h.block in
    let back = reads_length (h.element + 2) (block_bits h.width h.block) in
    let last = both (formula_rules (bits_at p) e h.element (h.first + 1)) (back_rules p x h) _ _ own (ap suc back) in
    let all = both (variable_rules h.width h.block (formula_result e (h.first + 1) ∷ [])) (q_rules request h.first h.element ++ own_rules p x e h) _ _ block
    (ap (λ n. suc (suc (suc n))) (ap suc last)) in
    omega (arith, all, bits)

-- selections

ones_length : (before behind : List Pair) → length (only_one_true before behind) ≡ length behind
ones_length before [] = refl
ones_length before (h ∷ behind) = ap suc (ones_length (before ++ h ∷ []) behind)

pub latches_length : (request : ℕ) (hs : List Pair) → length (latches request hs) ≡ length hs
latches_length request hs = length-map _ _ ∙ ones_length [] hs

pub starts_length : (ls : List ℕ) (hs : List Pair) → length (starts ls hs) ≡ length ls
starts_length ls hs = length-map _ _

pub pairs_of_guards : Counted → (p : TypedProgram) (choices : Choices) (from : ℕ) → AreChoices p.channels p.vars choices →
    length (guard_pairs choices from) ≡ choice_count choices
pairs_of_guards k p no_choices from h = refl
pairs_of_guards k p (and_choice g s more) from h =
    let one = k.bits g from h.0.formed ∙ h.0.agrees in
    let rest = pairs_of_guards k p more (from + formula_size g) h.2 in
    let all = both (formula_result g from) (guard_pairs more (from + formula_size g)) 1 (choice_count more) one rest in
    omega (arith, all)

pub latches_and_starts : Counted → (p : TypedProgram) (choices : Choices) (request any own from : ℕ) → AreChoices p.channels p.vars choices
    → length (latches request (guard_pairs choices (guards_from choices own from))
    ++ starts (range_with_len (from + own) (choice_count choices)) (guard_pairs choices (guards_from choices own from))) ≡ 2 * choice_count choices
latches_and_starts k p choices request any own from h =
    let pairs = pairs_of_guards k p choices (guards_from choices own from) h in
    let ls = latches_length request (guard_pairs choices (guards_from choices own from)) in
    let ss = starts_length (range_with_len (from + own) (choice_count choices)) (guard_pairs choices (guards_from choices own from)) in
    let count = length-range_with_len (from + own) (choice_count choices) in
    let all = both (latches request (guard_pairs choices (guards_from choices own from)))
    (starts (range_with_len (from + own) (choice_count choices)) (guard_pairs choices (guards_from choices own from))) _ _ ls ss in
    omega (arith, pairs, count, all)

pub guards_length : Counted → (p : TypedProgram) (choices : Choices) (request from : ℕ) → AreChoices p.channels p.vars choices →
    length (guards_rules p choices request from) ≡ guards_size choices
guards_length k p no_choices request from h = refl
guards_length k p (and_choice g s more) request from h =
    both (formula_rules (bits_at p) g request from) (guards_rules p more request (from + formula_size g)) _ _
    (k.rules p.vars (bits_at p) (has_bits p) g request from h.0.formed h.0.reads) (guards_length k p more request (from + formula_size g) h.2)

-- statements

pub ends_length : (p : TypedProgram) (members : Processes) (from : ℕ) → length (branch_ends p members from) ≡ member_count members
ends_length p no_members from = refl
ends_length p (and_member s more) from = ap suc (ends_length p more (from + 3 + size_of p s))

mutual
  pub statement_length : Counted → (p : TypedProgram) (s : Process) (request from : ℕ) → IsProcess p.channels p.vars s →
      length (rules_of p s request from) ≡ size_of p s
  statement_length k p skipping request from h = refl
  statement_length k p (assigning x at e) request from h =
      let rules = k.rules p.vars (bits_at p) (has_bits p) e request (from + 1) h.1.formed h.1.reads in
      let plain : length (write_answer request (written_at p x) ∷ formula_rules (bits_at p) e request (from + 1)) ≡ 1 + formula_size e = omega (arith, rules) in
      either (reads x e) (through_rules p x e request from) (write_answer request (written_at p x) ∷ formula_rules (bits_at p) e request (from + 1)) _ _
      (through_length k p x e request from h.1.formed h.1.reads) plain
  statement_length k p (sending chan at e) request from h =
      let rules = k.rules p.vars (bits_at p) (has_bits p) e request (from + 1) h.sent.formed h.sent.reads in
      omega (arith, rules)
  statement_length k p (receiving chan chan_at x var_at) request from h =
      let ports = ports_length request (rails_at p chan) in
      let rails : length (rails_at p chan) ≡ channel_width p.channels chan = pairs_length _ _ in
      omega (arith, ports, rails)
  statement_length k p (in_turn members) request from h = turn_length k p members request from h.1
  statement_length k p (side_by_side members) request from h =
      let branches = branches_length k p members request from h.1 in
      let tree = k.tree (branch_ends p members from) (branches_end p members from) in
      let ends = ends_length p members from in
      let all = both (branches_rules p members request from) (tree_rules (branch_ends p members from) (branches_end p members from)) _ _ branches tree in
      omega (arith, all, ends)
  statement_length k p (choosing false choices) request from h =
      let own = latches_and_starts k p choices request (from + 2) select_own from h.2 in
      let guards = guards_length k p choices (from + 1) (guards_from choices select_own from) h.2 in
      let bodies = bodies_length k p choices (from + select_own + choice_count choices) (bodies_from choices select_own from) h.2 in
      let back = both (guards_rules p choices (from + 1) (guards_from choices select_own from))
      (bodies_rules p choices (from + select_own + choice_count choices) (bodies_from choices select_own from)) _ _ guards bodies in
      let all = both (select_rules (choosing_at p choices request (from + 2) select_own from))
      (guards_rules p choices (from + 1) (guards_from choices select_own from)
      ++ bodies_rules p choices (from + select_own + choice_count choices) (bodies_from choices select_own from)) _ _ (ap (λ n. suc (suc (suc n))) own) back
      in
      omega (arith, all)
  statement_length k p (choosing true choices) request from h =
      let own = latches_and_starts k p choices (from + 1) (from + 4) again_own from h.2 in
      let guards = guards_length k p choices (from + 3) (guards_from choices again_own from) h.2 in
      let bodies = bodies_length k p choices (from + again_own + choice_count choices) (bodies_from choices again_own from) h.2 in
      let back = both (guards_rules p choices (from + 3) (guards_from choices again_own from))
      (bodies_rules p choices (from + again_own + choice_count choices) (bodies_from choices again_own from)) _ _ guards bodies in
      let all = both (again_rules (repeating_at p choices request from)) (guards_rules p choices (from + 3) (guards_from choices again_own from)
      ++ bodies_rules p choices (from + again_own + choice_count choices) (bodies_from choices again_own from)) _ _
      (ap (λ n. suc (suc (suc (suc (suc (suc n)))))) own) back in
      omega (arith, all)
  statement_length k p (repeating s) request from h = let e = statement_length k p s (from + 1) (from + 2) h in omega (arith, e)

  turn_length : Counted → (p : TypedProgram) (members : Processes) (request from : ℕ) → AreProcesses p.channels p.vars members →
      length (turn_rules p members request from) ≡ turn_size p members
  turn_length k p no_members request from h = refl
  turn_length k p (and_member s no_members) request from h = statement_length k p s request from h.0
  turn_length k p (and_member s (and_member t more)) request from h =
      let one = statement_length k p s from (from + 3) h.0 in
      let rest = turn_length k p (and_member t more) (from + 2) (from + 3 + size_of p s) h.1 in
      let all = both (rules_of p s from (from + 3)) (turn_rules p (and_member t more) (from + 2) (from + 3 + size_of p s)) _ _ one rest in
      omega (arith, all)

  pub branches_length : Counted → (p : TypedProgram) (members : Processes) (request from : ℕ) → AreProcesses p.channels p.vars members →
      length (branches_rules p members request from) ≡ branches_size p members
  branches_length k p no_members request from h = refl
  branches_length k p (and_member s more) request from h =
      let one = statement_length k p s from (from + 3) h.0 in
      let rest = branches_length k p more request (from + 3 + size_of p s) h.1 in
      let all = both (rules_of p s from (from + 3)) (branches_rules p more request (from + 3 + size_of p s)) _ _ one rest in
      omega (arith, all)

  pub bodies_length : Counted → (p : TypedProgram) (choices : Choices) (start from : ℕ) → AreChoices p.channels p.vars choices →
      length (bodies_rules p choices start from) ≡ bodies_size p choices
  bodies_length k p no_choices start from h = refl
  bodies_length k p (and_choice g s more) start from h =
      both (rules_of p s start from) (bodies_rules p more (start + 1) (from + size_of p s)) _ _ (statement_length k p s start from h.1)
      (bodies_length k p more (start + 1) (from + size_of p s) h.2)

-- all rules

pub rails_length : (sites : List (List Pair)) (place width : ℕ) → length (rail_rules sites place width) ≡ 2 * width
rails_length sites place zero = refl
rails_length sites place (suc n) = let e = rails_length sites (suc place) n in omega (arith, e)

pub wires_length : (p : TypedProgram) (k width : ℕ) (kind : Kind) → length (channel_rules p k width kind) ≡ wires_size width
wires_length p k width In = both (replicate (2 * width) _) (_ ∷ []) _ 1 (length-replicate (2 * width) _) refl
wires_length p k width Out = both (rail_rules (in_body p (send_site k)) 0 width) (_ ∷ []) _ 1 (rails_length _ 0 width) refl
wires_length p k width Chan = both (rail_rules (in_body p (send_site k)) 0 width) (_ ∷ []) _ 1 (rails_length _ 0 width) refl

channels_length : (p : TypedProgram) (k : ℕ) (cs : List Channel) → length (channels_rules p k cs) ≡ wires_before cs (length cs)
channels_length p k [] = refl
channels_length p k (c ∷ cs) = both (channel_rules p k c.width c.kind) (channels_rules p (suc k) cs) _ _ (wires_length p k c.width c.kind)
    (channels_length p (suc k) cs)

vars_length : Counted → (p : TypedProgram) (x : ℕ) (vs : List Var) → length (vars_rules p x vs) ≡ blocks_before vs (length vs)
vars_length k p x [] = refl
vars_length k p x (v ∷ vs) = both (variable_rules v.width _ (in_body p (write_site p x))) (vars_rules p (suc x) vs) _ _ (variable_length k v.width _ _)
    (vars_length k p (suc x) vs)

abbrev pub root_and_body : TypedProgram → List NodeRules
root_and_body p = q_child go_node (root_latch p) ∷ q_latch go_node (body_answer p) ∷ rules_of p p.body (root_request p) (body_from p)

pub all_length : Counted → (p : TypedProgram) → IsProcess p.channels p.vars p.body → length (all_rules p) ≡ nodes_of p
all_length k p h =
    let body = statement_length k p p.body (root_request p) (body_from p) h in
    let vars = both (vars_rules p 0 p.vars) (root_and_body p) _ _ (vars_length k p 0 p.vars) (ap (λ n. suc (suc n)) body) in
    let all = both (channels_rules p 0 p.channels) (vars_rules p 0 p.vars ++ root_and_body p) _ _ (channels_length p 0 p.channels) vars in
    omega (arith, all)

-- names and first values

two_each : {X : Type 0} (f : X → List (List ℕ)) (xs : List X) → ((x : X) → length (f x) ≡ 2) → length (flat_map f xs) ≡ 2 * length xs
two_each f [] h = refl
two_each f (x ∷ xs) h =
    let rest = two_each f xs h in
    let one = h x in
    let cons : length (flat_map f (x ∷ xs)) ≡ length (f x ++ flat_map f xs) = ap length (flat_map-cons f x xs) in
    let all = both (f x) (flat_map f xs) _ _ one rest in
    omega (arith, cons, all)

five_each : {X : Type 0} (f : X → List (List ℕ)) (xs : List X) → ((x : X) → length (f x) ≡ 5) → length (flat_map f xs) ≡ 5 * length xs
five_each f [] h = refl
five_each f (x ∷ xs) h =
    let rest = five_each f xs h in
    let one = h x in
    let cons : length (flat_map f (x ∷ xs)) ≡ length (f x ++ flat_map f xs) = ap length (flat_map-cons f x xs) in
    let all = both (f x) (flat_map f xs) _ _ one rest in
    omega (arith, cons, all)

numbers_length : (from count : ℕ) → length (numbered_from from count) ≡ count
numbers_length from count = length-map _ _ ∙ length-range_with_len from count

wire_names_length : (cs : List Channel) → length (wire_names cs) ≡ wires_before cs (length cs)
wire_names_length [] = refl
wire_names_length (c ∷ cs) =
    let rails = two_each (λ bit. true_rail c.name bit ∷ false_rail c.name bit ∷ []) (range_with_len 0 c.width) (λ n. refl) in
    let count = length-range_with_len 0 c.width in
    let one = both (rail_names c.name c.width) (ack_name c.name ∷ []) _ 1 rails refl in
    let all = both (rail_names c.name c.width ++ ack_name c.name ∷ []) (wire_names cs) _ _ one (wire_names_length cs) in
    omega (arith, all, count)

block_names_length : (vs : List Var) (from : ℕ) → length (block_names vs from) ≡ blocks_before vs (length vs)
block_names_length [] from = refl
block_names_length (v ∷ vs) from =
    let bits = five_each (bit_names v.name) (range_with_len 0 v.width) (λ n. refl) in
    let count = length-range_with_len 0 v.width in
    let tree = numbers_length (from + 5 * v.width) (v.width - 1) in
    let rest = block_names_length vs (from + block_size v.width) in
    let back = both (numbered_from (from + 5 * v.width) (v.width - 1)) (block_names vs (from + block_size v.width)) _ _ tree rest in
    let all = both (flat_map (bit_names v.name) (range_with_len 0 v.width)) (numbered_from (from + 5 * v.width) (v.width - 1)
    ++ block_names vs (from + block_size v.width)) _ _ bits back in
    omega (arith, all, count)

names_length : (p : TypedProgram) → length (node_names p) ≡ nodes_of p
names_length p =
    let vars = both (block_names p.vars (vars_from p)) (numbered_from (root_request p) (2 + size_of p p.body)) _ _ (block_names_length p.vars (vars_from p))
    (numbers_length (root_request p) (2 + size_of p p.body)) in
    let all = both (wire_names p.channels) (block_names p.vars (vars_from p) ++ numbered_from (root_request p) (2 + size_of p p.body)) _ _
    (wire_names_length p.channels) vars in
    omega (arith, all)

set_length : (highs : List ℕ) (values : List Bool) → length (fold (λ vs node. slice_set vs node true) values highs) ≡ length values
set_length [] values = refl
set_length (n ∷ ns) values = set_length ns (slice_set values n true) ∙ length-set values n true

pub first_length : (p : TypedProgram) → length (first_values p) ≡ nodes_of p
first_length p = set_length (vars_high p 0 p.vars ++ in_body p (hidden_high p)) (replicate (nodes_of p) false) ∙ length-replicate (nodes_of p) false

pub all_counted : Counted → (p : TypedProgram) → IsTyped p.channels p.vars p.body → IsOfSize (translation p) (nodes_of p)
all_counted k p typed = record {
  names = names_length p;
  first = first_length p;
  up = length-map (all_rules p) (λ (r : NodeRules). r.up) ∙ all_length k p typed.body_is;
  down = length-map (all_rules p) (λ (r : NodeRules). r.down) ∙ all_length k p typed.body_is;
}
