-- The net of a program: how its nodes are numbered and named, and the rules of each. One row for each construct.
use Rattle.std.specs.Prelude.{ℕ, zero, suc, ◌+◌, ◌*◌, ◌==◌, Bool, true, false, if◌then◌else◌, List, [], ◌∷◌, ◌++◌, map, fold, replicate, slice_set, None}
use Rattle.std.specs.List.{range_with_len}
use Rattle.chp_base.specs.declared.channel.Channel.{Channel}
use Rattle.chp_base.specs.declared.channel.Kind.{Kind}
use Rattle.chp_base.specs.declared.channel.Kind.TheVariants.{In, Out, Chan}
use Rattle.prs_core.specs.declared.wires.Wires.{Wires}
use Rattle.prs_core.specs.Nets.{NodeRules, RulesValue, NetValue, net_of}
use Rattle.prs_core.specs.Pairs.{Pair, pairs_from, rails_of, no_rules, or_of, merged_true, merged_false}
use Rattle.width_check.specs.declared.typed.Var.{Var}
use Rattle.width_check.specs.Processes.{Formula, Process, skipping, assigning, sending, receiving, in_turn, side_by_side, choosing, repeating, Processes, no_members, and_member, Choices, no_choices, and_choice, choice_count, TypedProgram}
use Rattle.width_check.specs.Typing.{channel_width, var_width}
use Rattle.width_check.specs.Reads.{reads}
use Rattle.handshake_expand.specs.Sites.{Sites, in_body}
use Rattle.handshake_expand.specs.Layout.{formula_size, block_size, size_of, channel_from, var_from, root_request, root_latch, body_from, nodes_of, go_node}
use Rattle.handshake_expand.specs.Answers.{answer_of, guards_from, bodies_from, select_own, again_own}
use Rattle.handshake_expand.specs.Named.{node_names}
use Rattle.cell_sequence.specs.Sequence.{q_child, q_latch, q_next, skip_answer, loop_request}
use Rattle.cell_parallel.specs.Trees.{tree_rules}
use Rattle.cell_variable.specs.Variables.{Bit, bits_from, all_written, variable_rules, high_first, write_answer}
use Rattle.cell_channel.specs.Ends.{end_answer, port_rules}
use Rattle.cell_select.specs.Selections.{Choosing, Repeating, select_rules, again_rules}
use Rattle.function_blocks.specs.Expressions.{read_bits, formula_rules, formula_result}

-- the rails and the acknowledge of a channel
abbrev pub rails_at : TypedProgram → ℕ → List Pair
rails_at p chan = pairs_from (channel_width p.channels chan) (channel_from p chan)

abbrev pub ack_at : TypedProgram → ℕ → ℕ
ack_at p chan = channel_from p chan + 2 * channel_width p.channels chan

-- the bits of a variable, and the node that says that it is written
abbrev pub block_bits : (width from : ℕ) → List Pair
block_bits width from = map (λ (b : Bit). b.x) (bits_from width from)

abbrev pub bits_at : TypedProgram → ℕ → List Pair
bits_at p x = block_bits (var_width p.vars x) (var_from p x)

abbrev pub written_at : TypedProgram → ℕ → ℕ
written_at p x = all_written (var_width p.vars x) (var_from p x)

-- the child's request, the latch and the next request of a Q-element, numbered in this order
abbrev pub q_rules : (request child_answer from : ℕ) → List NodeRules
q_rules request child_answer from =
    q_child request (from + 1) ∷ q_latch request child_answer ∷ q_next (from + 1) child_answer ∷ []

-- An assignment to a variable that its own expression reads goes through a hidden variable h of its own: h := e, and
-- then x := h, one after the other.
pub record Through : Type 0 where
  pub width : ℕ
  pub block : ℕ  -- h
  pub element : ℕ  -- the Q-element of h := e
  pub first : ℕ  -- the answer of h := e, and behind it e
  pub second : ℕ  -- the answer of x := h, and behind it what is read of h

abbrev pub through_at : (width size from : ℕ) → Through
through_at width size from = record {
  width = width;
  block = from;
  element = from + block_size width;
  first = from + block_size width + 3;
  second = from + block_size width + 4 + size;
}

-- what is read of the hidden variable
abbrev pub read_back : Through → List Pair
read_back h = pairs_from h.width (h.second + 1)

abbrev pub through_rules : TypedProgram → ℕ → Formula → (request from : ℕ) → List NodeRules
through_rules p x e request from =
    let h = through_at (var_width p.vars x) (formula_size e) from in
    variable_rules h.width h.block (formula_result e (h.first + 1) ∷ [])
    ++ (q_rules request h.first h.element
    ++ (write_answer h.element (all_written h.width h.block) ∷ (formula_rules (bits_at p) e h.element (h.first + 1)
    ++ (write_answer (h.element + 2) (written_at p x) ∷ read_bits (h.element + 2) (block_bits h.width h.block)))))

-- the one rail pair of each guard, and the answer of each branch
abbrev pub guard_pairs : Choices → (from : ℕ) → List Pair
guard_pairs no_choices from = []
guard_pairs (and_choice g s more) from = formula_result g from ++ guard_pairs more (from + formula_size g)

abbrev pub branch_answers : TypedProgram → Choices → (from : ℕ) → List ℕ
branch_answers p no_choices from = []
branch_answers p (and_choice g s more) from = answer_of p s from ∷ branch_answers p more (from + size_of p s)

abbrev pub guards_rules : TypedProgram → Choices → (request from : ℕ) → List NodeRules
guards_rules p no_choices request from = []
guards_rules p (and_choice g s more) request from =
    formula_rules (bits_at p) g request from ++ guards_rules p more request (from + formula_size g)

-- the nodes of a selection, with so many before its latches
abbrev pub choosing_at : TypedProgram → Choices → (request any own from : ℕ) → Choosing
choosing_at p choices request any own from = record {
  request = request;
  any = any;
  latched = range_with_len (from + own) (choice_count choices);
  guards = guard_pairs choices (guards_from choices own from);
  answers = branch_answers p choices (bodies_from choices own from);
}

abbrev pub repeating_at : TypedProgram → Choices → (request from : ℕ) → Repeating
repeating_at p choices request from = record {
  request = request;
  joined = from + 2;
  leave = from + 5;
  turn = choosing_at p choices (from + 1) (from + 4) again_own from;
}

-- the next requests of the Q-elements before some branches
abbrev pub branch_ends : TypedProgram → Processes → (from : ℕ) → List ℕ
branch_ends p no_members from = []
branch_ends p (and_member s more) from = (from + 2) ∷ branch_ends p more (from + 3 + size_of p s)

abbrev pub branches_end : TypedProgram → Processes → (from : ℕ) → ℕ
branches_end p no_members from = from
branches_end p (and_member s more) from = branches_end p more (from + 3 + size_of p s)

-- the rules of a statement's own nodes in order, where they are numbered from a node on
abbrev mutual
  pub rules_of : TypedProgram → Process → (request from : ℕ) → List NodeRules
  rules_of p skipping request from = skip_answer request ∷ []
  rules_of p (assigning x at e) request from =
      if reads x e then through_rules p x e request from
      else (write_answer request (written_at p x) ∷ formula_rules (bits_at p) e request (from + 1))
  rules_of p (sending chan at e) request from =
      end_answer request (ack_at p chan) ∷ formula_rules (bits_at p) e request (from + 1)
  rules_of p (receiving chan chan_at x var_at) request from =
      end_answer request (ack_at p chan) ∷ write_answer request (written_at p x) ∷ port_rules request (rails_at p chan)
  rules_of p (in_turn members) request from = turn_rules p members request from
  rules_of p (side_by_side members) request from =
      branches_rules p members request from ++ tree_rules (branch_ends p members from) (branches_end p members from)
  rules_of p (choosing false choices) request from =
      select_rules (choosing_at p choices request (from + 2) select_own from)
      ++ (guards_rules p choices (from + 1) (guards_from choices select_own from)
      ++ bodies_rules p choices (from + select_own + choice_count choices) (bodies_from choices select_own from))
  rules_of p (choosing true choices) request from =
      again_rules (repeating_at p choices request from)
      ++ (guards_rules p choices (from + 3) (guards_from choices again_own from)
      ++ bodies_rules p choices (from + again_own + choice_count choices) (bodies_from choices again_own from))
  rules_of p (repeating s) request from =
      no_rules ∷ loop_request request (answer_of p s (from + 2)) ∷ rules_of p s (from + 1) (from + 2)

  -- all members except the last have a Q-element, whose next request is that of what follows
  pub turn_rules : TypedProgram → Processes → (request from : ℕ) → List NodeRules
  turn_rules p no_members request from = []
  turn_rules p (and_member s no_members) request from = rules_of p s request from
  turn_rules p (and_member s (and_member t more)) request from =
      q_rules request (answer_of p s (from + 3)) from
      ++ (rules_of p s from (from + 3) ++ turn_rules p (and_member t more) (from + 2) (from + 3 + size_of p s))

  -- each branch has a Q-element under the common request
  pub branches_rules : TypedProgram → Processes → (request from : ℕ) → List NodeRules
  branches_rules p no_members request from = []
  branches_rules p (and_member s more) request from =
      q_rules request (answer_of p s (from + 3)) from
      ++ (rules_of p s from (from + 3) ++ branches_rules p more request (from + 3 + size_of p s))

  -- each branch is run under its start
  pub bodies_rules : TypedProgram → Choices → (start from : ℕ) → List NodeRules
  bodies_rules p no_choices start from = []
  bodies_rules p (and_choice g s more) start from =
      rules_of p s start from ++ bodies_rules p more (start + 1) (from + size_of p s)

-- the rails of a send on the channel
abbrev pub send_site : ℕ → Sites (List Pair)
send_site k (sending chan at e) from = if chan == k then formula_result e (from + 1) ∷ [] else []
send_site k s from = []

-- the node by which a receive on the channel has stored the value
abbrev pub receive_site : ℕ → Sites ℕ
receive_site k (receiving chan chan_at x var_at) from = if chan == k then (from + 1) ∷ [] else []
receive_site k s from = []

-- the rails by which the variable is written
abbrev pub assigned_rails : TypedProgram → ℕ → Formula → (from : ℕ) → List Pair
assigned_rails p x e from =
    if reads x e then read_back (through_at (var_width p.vars x) (formula_size e) from) else formula_result e (from + 1)

abbrev pub write_site : TypedProgram → ℕ → Sites (List Pair)
write_site p x (assigning y at e) from = if y == x then assigned_rails p x e from ∷ [] else []
write_site p x (receiving chan chan_at y var_at) from =
    if y == x then pairs_from (channel_width p.channels chan) (from + 2) ∷ [] else []
write_site p x s from = []

-- the rails of a hidden variable that are high at first
abbrev pub hidden_high : TypedProgram → Sites ℕ
hidden_high p (assigning x at e) from = if reads x e then high_first (var_width p.vars x) 0 from else []
hidden_high p s from = []

-- The wires of a channel. The environment moves the rails of an `in` channel and the acknowledge of an `out` channel;
-- all others merge what the sites do.
abbrev pub rail_rules : (sites : List (List Pair)) → (place width : ℕ) → List NodeRules
rail_rules sites place zero = []
rail_rules sites place (suc n) = merged_true sites place ∷ merged_false sites place ∷ rail_rules sites (suc place) n

abbrev pub wire_rules : (sent : List (List Pair)) → (taken : List ℕ) → (width : ℕ) → Kind → List NodeRules
wire_rules sent taken width In = replicate (2 * width) no_rules ++ or_of taken ∷ []
wire_rules sent taken width Out = rail_rules sent 0 width ++ no_rules ∷ []
wire_rules sent taken width Chan = rail_rules sent 0 width ++ or_of taken ∷ []

abbrev pub channel_rules : TypedProgram → ℕ → (width : ℕ) → Kind → List NodeRules
channel_rules p k width kind = wire_rules (in_body p (send_site k)) (in_body p (receive_site k)) width kind

-- of the channels and of the variables from a number on
abbrev pub channels_rules : TypedProgram → (k : ℕ) → List Channel → List NodeRules
channels_rules p k [] = []
channels_rules p k (c ∷ cs) = channel_rules p k c.width c.kind ++ channels_rules p (suc k) cs

abbrev pub vars_rules : TypedProgram → (x : ℕ) → List Var → List NodeRules
vars_rules p x [] = []
vars_rules p x (v ∷ vs) = variable_rules v.width (var_from p x) (in_body p (write_site p x)) ++ vars_rules p (suc x) vs

abbrev pub body_answer : TypedProgram → ℕ
body_answer p = answer_of p p.body (body_from p)

-- The rules of all nodes in order. The root is a Q-element between go and done, with the body as its child.
abbrev pub all_rules : TypedProgram → List NodeRules
all_rules p =
    no_rules ∷ q_next (root_latch p) (body_answer p)
    ∷ (channels_rules p 0 p.channels ++ (vars_rules p 0 p.vars
    ++ (q_child go_node (root_latch p) ∷ q_latch go_node (body_answer p)
    ∷ rules_of p p.body (root_request p) (body_from p))))

abbrev pub composed : TypedProgram → RulesValue
composed p = record {
  up = map (λ (r : NodeRules). r.up) (all_rules p);
  down =
      map (λ (r : NodeRules). r.down) (all_rules p);
}

-- at first all nodes are low except one rail of each bit of each variable, declared or hidden
abbrev pub vars_high : TypedProgram → (x : ℕ) → List Var → List ℕ
vars_high p x [] = []
vars_high p x (v ∷ vs) = high_first v.width v.first (var_from p x) ++ vars_high p (suc x) vs

abbrev pub first_values : TypedProgram → List Bool
first_values p = fold (λ values node. slice_set values node true) (replicate (nodes_of p) false) (vars_high p 0 p.vars
    ++ in_body p (hidden_high p))

-- the channels with their wires, from a number on
abbrev pub wires_from : TypedProgram → (k : ℕ) → List Channel → List Wires
wires_from p k [] = []
wires_from p k (c ∷ cs) = record { channel = c; rails = rails_of (rails_at p k); ack = ack_at p k }
    ∷ wires_from p (suc k) cs

-- the net of the program
abbrev pub translation : TypedProgram → NetValue
translation p = net_of (node_names p) (first_values p) (composed p) (wires_from p 0 p.channels) None
