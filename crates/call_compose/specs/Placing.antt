-- How the procedures of a net with shared bodies are numbered, and the rules of their nodes.
use Rattle.std.specs.Prelude.{ℕ, suc, ◌+◌, ◌-◌, List, [], ◌∷◌, ◌++◌, slice_set}
use Rattle.chp_syntax.specs.Trees.{ProgramTree}
use Rattle.prs_core.specs.Nets.{NodeRules}
use Rattle.prs_core.specs.Pairs.{no_rules}
use Rattle.width_check.specs.Processes.{Process, TypedProgram}
use Rattle.handshake_expand.specs.Layout.{size_of, go_node}
use Rattle.handshake_expand.specs.Answers.{answer_of}
use Rattle.cell_sequence.specs.Sequence.{q_child, q_latch}
use Rattle.net_compose.specs.Translation.{rules_of}
use Rattle.call_map.specs.Calling.{called_rules}
use Rattle.call_map.specs.CallNet.{CallProgram, inlined_program, procs_from, call_root, proc_answer, call_answer, proc_rules}
use Rattle.call_compose.specs.CalledForm.{call_program}
use Rattle.call_compose.specs.Inlined.{AreInlined}

-- the program with its bodies apart
abbrev pub shared_of : {P : ProgramTree} {p : TypedProgram} → AreInlined P p → CallProgram
shared_of {P} {p} h = call_program P h.inlined.vars

-- the request of each procedure, numbered from a node on, and the node that answers for its body
abbrev pub requests_from : TypedProgram → List Process → (from : ℕ) → List ℕ
requests_from p [] from = []
requests_from p (b ∷ bs) from = from ∷ requests_from p bs (from + 1 + size_of p b)

abbrev pub answers_from : TypedProgram → List Process → (from : ℕ) → List ℕ
answers_from p [] from = []
answers_from p (b ∷ bs) from = answer_of p b (from + 1) ∷ answers_from p bs (from + 1 + size_of p b)

-- the rules of their nodes, as long as no request is driven
abbrev pub unasked_rules : TypedProgram → List Process → (from : ℕ) → List NodeRules
unasked_rules p [] from = []
unasked_rules p (b ∷ bs) from =
    no_rules ∷ (rules_of p b from (from + 1) ++ unasked_rules p bs (from + 1 + size_of p b))

-- and where they are driven so
abbrev pub procs_rules : TypedProgram → (ask : ℕ → NodeRules) → (q : ℕ) → List Process → (from : ℕ) → List NodeRules
procs_rules p ask q [] from = []
procs_rules p ask q (b ∷ bs) from =
    ask q ∷ (rules_of p b from (from + 1) ++ procs_rules p ask (suc q) bs (from + 1 + size_of p b))

-- rules numbered from a node on, with these at the requests of the procedures from one on
abbrev pub with_asked : (ask : ℕ → NodeRules) → (from q : ℕ) → (requests : List ℕ) → List NodeRules → List NodeRules
with_asked ask from q [] rules = rules
with_asked ask from q (r ∷ rs) rules = with_asked ask from (suc q) rs (slice_set rules (r - from) (ask q))

-- the rules of the procedures, of the root and of the body
abbrev pub inner_rules : CallProgram → List NodeRules
inner_rules C =
    proc_rules C 0 C.procs (procs_from C)
    ++ (q_child go_node (call_root C + 1) ∷ q_latch go_node (call_answer C)
    ∷ called_rules C.procs (inlined_program C) (proc_answer C) C.body (call_root C) (call_root C + 2))
