-- Programs with procedures: the program in which each call is a copy of the body, and the net in which all calls of a
-- procedure share one body.
use Rattle.std.specs.Prelude.{ℕ, zero, suc, ◌+◌, ◌*◌, ◌<◌, Bool, true, false, List, [], ◌∷◌, ◌++◌, map, length, ◌≤◌, fold, replicate, slice_set, slice_index_or, None}
use Rattle.chp_base.specs.declared.channel.Channel.{Channel}
use Rattle.chp_base.specs.declared.channel.Kind.{Kind}
use Rattle.chp_base.specs.declared.channel.Kind.TheVariants.{In, Out, Chan}
use Rattle.prs_core.specs.Nets.{NodeRules, RulesValue, NetValue, net_of, IsRules, IsNet}
use Rattle.prs_core.specs.Pairs.{no_rules, or_of}
use Rattle.width_check.specs.declared.typed.Var.{Var}
use Rattle.width_check.specs.Processes.{Process, skipping, TypedProgram}
use Rattle.handshake_expand.specs.Layout.{size_of, var_from, root_request, go_node}
use Rattle.handshake_expand.specs.Answers.{answer_of}
use Rattle.handshake_expand.specs.Sites.{Sites, sites_in}
use Rattle.cell_sequence.specs.Sequence.{q_child, q_latch, q_next}
use Rattle.cell_variable.specs.Variables.{variable_rules}
use Rattle.reset_net.specs.Resets.{reset_of}
use Rattle.chp_meaning.specs.Halves.{ReadsNoTarget}
use Rattle.net_compose.specs.Translation.{send_site, receive_site, write_site, hidden_high, vars_high, rail_rules, rules_of, wires_from}
use Rattle.net_compose.specs.NamesTo.{names_to}
use Rattle.net_compose.specs.Carries.{Carries, CarriesReset}
use Rattle.net_compose.specs.Points.{IsTranslated}
use Rattle.net_compose.specs.Sized.{IsOfSize}
use Rattle.call_map.specs.Calling.{Called, OfAtoms, inlined, called_size, called_answer, called_rules, called_sites, called_requests}
use Rattle.call_map.specs.CallsApart.{Calls, CallsApart}

-- declarations, the bodies of the procedures, which call none, and a body that calls them by their numbers
pub record CallProgram : Type 0 where
  pub channels : List Channel
  pub vars : List Var
  pub procs : List Process
  pub body : Called

-- how many nodes the procedures have: each has a request, and its body
abbrev pub procs_size : TypedProgram → List Process → ℕ
procs_size p [] = 0
procs_size p (b ∷ bs) = 1 + size_of p b + procs_size p bs

-- where a procedure's body begins
abbrev pub body_start : TypedProgram → List Process → (from q : ℕ) → ℕ
body_start p [] from q = from + 1
body_start p (b ∷ bs) from zero = from + 1
body_start p (b ∷ bs) from (suc q) = body_start p bs (from + 1 + size_of p b) q

-- what the bodies contribute to the wires of channels and to variables
abbrev pub body_sites : {A : Type 0} → TypedProgram → Sites A → List Process → (from : ℕ) → List A
body_sites p site [] from = []
body_sites p site (b ∷ bs) from = sites_in p site b (from + 1) ++ body_sites p site bs (from + 1 + size_of p b)

module _ (C : CallProgram) where
  -- the program with a copy of the body in place of each call
  abbrev pub inlined_program : TypedProgram
  inlined_program = record { channels = C.channels; vars = C.vars; body = inlined C.procs C.body }

  -- the procedures are numbered after the variables, and followed by the root and the body
  abbrev pub procs_from : ℕ
  procs_from = root_request inlined_program

  abbrev pub call_root : ℕ
  call_root = procs_from + procs_size inlined_program C.procs

  abbrev pub body_at : ℕ → Process
  body_at q = slice_index_or C.procs q skipping

  abbrev pub body_begins : ℕ → ℕ
  body_begins q = body_start inlined_program C.procs procs_from q

  abbrev pub proc_answer : ℕ → ℕ
  proc_answer q = answer_of inlined_program (body_at q) (body_begins q)

  abbrev pub call_answer : ℕ
  call_answer = called_answer C.procs inlined_program C.body (call_root + 2)

  -- a procedure's request is the OR of those of its calls
  abbrev pub asks_of : ℕ → List ℕ
  asks_of q = called_requests C.procs inlined_program q C.body call_root (call_root + 2)

  abbrev pub proc_rules : (q : ℕ) → List Process → (from : ℕ) → List NodeRules
  proc_rules q [] from = []
  proc_rules q (b ∷ bs) from =
      or_of (asks_of q)
      ∷ (rules_of inlined_program b from (from + 1)
      ++ proc_rules (suc q) bs (from + 1 + size_of inlined_program b))

  -- a wire of a channel, or a bit of a variable, joins what the bodies and what is no call contribute
  abbrev pub all_sites : {A : Type 0} → Sites A → List A
  all_sites site =
      body_sites inlined_program site C.procs procs_from
      ++ called_sites C.procs inlined_program site C.body (call_root + 2)

  abbrev pub call_channel_rules : ℕ → (width : ℕ) → Kind → List NodeRules
  call_channel_rules k width In = replicate (2 * width) no_rules ++ or_of (all_sites (receive_site k)) ∷ []
  call_channel_rules k width Out = rail_rules (all_sites (send_site k)) 0 width ++ no_rules ∷ []
  call_channel_rules k width Chan =
      rail_rules (all_sites (send_site k)) 0 width ++ or_of (all_sites (receive_site k)) ∷ []

  abbrev pub call_channels_rules : (k : ℕ) → List Channel → List NodeRules
  call_channels_rules k [] = []
  call_channels_rules k (c ∷ cs) = call_channel_rules k c.width c.kind ++ call_channels_rules (suc k) cs

  abbrev pub call_vars_rules : (x : ℕ) → List Var → List NodeRules
  call_vars_rules x [] = []
  call_vars_rules x (v ∷ vs) =
      variable_rules v.width (var_from inlined_program x) (all_sites (write_site inlined_program x))
      ++ call_vars_rules (suc x) vs

  abbrev pub call_rules : List NodeRules
  call_rules =
      no_rules ∷ q_next (call_root + 1) call_answer
      ∷ (call_channels_rules 0 C.channels ++ (call_vars_rules 0 C.vars
      ++ (proc_rules 0 C.procs procs_from
      ++ (q_child go_node (call_root + 1) ∷ q_latch go_node call_answer
      ∷ called_rules C.procs inlined_program proc_answer C.body call_root (call_root + 2)))))

  abbrev pub call_count : ℕ
  call_count = call_root + 2 + called_size C.procs inlined_program C.body

  abbrev pub call_firsts : List Bool
  call_firsts = fold (λ values node. slice_set values node true) (replicate call_count false)
      (vars_high inlined_program 0 C.vars ++ all_sites (hidden_high inlined_program))

  abbrev pub call_composed : RulesValue
  call_composed = record {
    up = map (λ (r : NodeRules). r.up) call_rules;
    down = map (λ (r : NodeRules). r.down) call_rules;
  }

  -- wires and variables have the names that they have in a program, and all other nodes are called by their numbers
  abbrev pub call_names : List (List ℕ)
  call_names =
      names_to inlined_program (procs_size inlined_program C.procs + (2 + called_size C.procs inlined_program C.body))

  -- the net in which all calls of a procedure share one body, whatever the names of its nodes are
  abbrev pub call_net : (names : List (List ℕ)) → NetValue
  call_net names = net_of names call_firsts call_composed (wires_from inlined_program 0 C.channels) None

-- what is required of a program with procedures: all that it calls are its own, each is called, no two parallel
-- branches call the same one, and in no body an assignment reads its own target
pub record IsCallProgram (C : CallProgram) : Type 0 where
  pub atoms : OfAtoms C.body
  pub declared : (q : ℕ) → Calls C.body q → q < length C.procs
  pub called : (q : ℕ) → q < length C.procs → Calls C.body q
  pub apart : CallsApart C.body
  pub unread : (q : ℕ) → q < length C.procs → ReadsNoTarget (body_at C q)

-- The net with shared bodies carries the program with copies, if that is typed and meets the sharing rule.
abbrev pub SharedBodiesCarry : Type 0
SharedBodiesCarry = (C : CallProgram) → IsCallProgram C → IsTranslated (inlined_program C) → (names : List (List ℕ))
    → Carries (call_net C names) (inlined_program C)

-- It has a name, a first value and two guards for each of its nodes.
abbrev pub SharedBodiesCounted : Type 0
SharedBodiesCounted = (C : CallProgram) → IsCallProgram C → IsTranslated (inlined_program C)
    → IsOfSize (call_net C (call_names C)) (call_count C)

-- The guards of a net of at most 65,536 nodes are over its own nodes only, and it is a net that a rule file can hold.
abbrev pub SharedBodiesWithin : Type 0
SharedBodiesWithin = (C : CallProgram) → IsCallProgram C → IsTranslated (inlined_program C) → call_count C ≤ 65536
    → IsRules (call_composed C)

abbrev pub SharedBodiesHold : Type 0
SharedBodiesHold = (C : CallProgram) → IsCallProgram C → IsTranslated (inlined_program C) → call_count C ≤ 65536
    → IsNet (call_net C (call_names C))

-- So it carries the program with a reset node too, from every power-up state.
abbrev pub SharedBodiesCarryReset : Type 0
SharedBodiesCarryReset = (C : CallProgram) → IsCallProgram C → IsTranslated (inlined_program C) → call_count C ≤ 65536
    → CarriesReset (reset_of (call_net C (call_names C))) (inlined_program C)
