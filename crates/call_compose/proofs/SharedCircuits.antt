-- The parts of a circuit with shared bodies are those of its net.
use Rattle.std.proofs.Common.{◌≡◌, ◌∙◌, ℕ, ◌+◌, ◌-◌, Bool, true, false, List, [], ◌∷◌, ◌++◌, length, drop, take, All, sym, ap, subst, arith}
use Rattle.std.specs.Prelude.{replicate, slice_set}
use Rattle.std.proofs.lemmas.List.Sums.{fold-append}
use Rattle.chp_syntax.specs.Trees.{ProgramTree}
use Rattle.prs_core.specs.declared.wires.Wires.{Wires}
use Rattle.prs_core.specs.Nets.{NodeRules}
use Rattle.prs_core.specs.Pairs.{no_rules}
use Rattle.width_check.specs.Processes.{Process, TypedProgram}
use Rattle.width_check.specs.Typing.{IsProcess}
use Rattle.handshake_expand.specs.Layout.{size_of, root_request, go_node}
use Rattle.cell_sequence.specs.Sequence.{q_child, q_latch, q_next}
use Rattle.net_compose.specs.Contacts.{ContactValue, every_contact}
use Rattle.net_compose.specs.NamesTo.{names_to}
use Rattle.net_compose.specs.SortedContacts.{IsDeclaredContact, contact_wires, contact_blocks}
use Rattle.net_compose.specs.Translation.{rules_of, hidden_high, vars_high, wires_from}
use Rattle.net_compose.proofs.Raised.{with_raised}
use Rattle.call_map.specs.Calling.{Called}
use Rattle.call_map.specs.CallNet.{inlined_program, call_root, call_answer, call_count, call_names, call_firsts, call_rules, all_sites}
use Rattle.call_compose.specs.declared.walk.Call.{Call}
use Rattle.call_compose.specs.CallsCarried.{CallsAsked}
use Rattle.call_compose.specs.Inlined.{AreInlined}
use Rattle.call_compose.specs.Placing.{shared_of, inner_rules}
use Rattle.call_compose.proofs.CallsSorted.{all_declared}
use Rattle.call_compose.proofs.InnerDriven.{IsDrawn, IsListed, drawn, listed, raised_all, all_called}
use Rattle.call_compose.proofs.SharedFacts.{same_program, meant, bodies_typed, count_is}

module _ (P : ProgramTree) (p : TypedProgram) (h : AreInlined P p) (bs : List Process) (x : Called) (bodies : bs ≡ (shared_of h).procs)
    (body : x ≡ (shared_of h).body) where
  pub inner_drawn : CallsAsked → ((q : TypedProgram) (s : Process) (request from : ℕ) → IsProcess q.channels q.vars s
      → length (rules_of q s request from) ≡ size_of q s)
      → (root answer latch : ℕ) (answers requests : List ℕ) (calls : List Call) (own d2 before after d5 d6 : List NodeRules)
      → IsDrawn p bs x root answer answers requests calls own before after d5
      → d2 ≡ own ++ q_child go_node (root + 1) ∷ [] → before ≡ d2 ++ no_rules ∷ [] → latch ≡ length own + 1
      → d6 ≡ slice_set d5 latch (q_latch go_node answer) → d6 ≡ inner_rules (shared_of h)
  inner_drawn asked counted root answer latch answers requests calls own d2 before after d5 d6 is second third at last =
      let C = shared_of h in
      let here : IsDrawn (inlined_program C) C.procs C.body root answer answers requests calls own before after d5 =
      subst (λ (y : Called). IsDrawn (inlined_program C) C.procs y root answer answers requests calls own before after d5) body
      (subst (λ (qs : List Process). IsDrawn (inlined_program C) qs x root answer answers requests calls own before after d5) bodies
      (subst (λ (q : TypedProgram). IsDrawn q bs x root answer answers requests calls own before after d5) (same_program P p h) is)) in
      drawn C (meant P p h asked).declared (counted (inlined_program C)) root answer latch answers requests calls own d2 before after d5 d6 here second third at
      last

  module _ (root : ℕ) (mid new : List ContactValue) (old raised first : List Bool) (is : IsListed p bs x root mid new old raised first) where
    abbrev here : IsListed (inlined_program (shared_of h)) (shared_of h).procs (shared_of h).body root mid new old raised first
    here =
        let C = shared_of h in
        subst (λ (y : Called). IsListed (inlined_program C) C.procs y root mid new old raised first) body
        (subst (λ (qs : List Process). IsListed (inlined_program C) qs x root mid new old raised first) bodies
        (subst (λ (q : TypedProgram). IsListed q bs x root mid new old raised first) (same_program P p h) is))

    pub inner_listed : new ≡ all_sites (shared_of h) (every_contact p)
    inner_listed = listed (shared_of h) root mid new old raised first here
        ∙ ap (λ (q : TypedProgram). all_sites (shared_of h) (every_contact q)) (sym (same_program P p h))

    pub inner_raised : first ≡ with_raised old (all_sites (shared_of h) (hidden_high p))
    inner_raised = raised_all (shared_of h) root mid new old raised first here
        ∙ ap (λ (q : TypedProgram). with_raised old (all_sites (shared_of h) (hidden_high q))) (sym (same_program P p h))

module _ (P : ProgramTree) (p : TypedProgram) (h : AreInlined P p) where
  -- its sites are on what is declared
  pub sites_declared : CallsAsked → IsProcess p.channels p.vars p.body → (contacts : List ContactValue)
      → contacts ≡ all_sites (shared_of h) (every_contact p) → All (IsDeclaredContact (length p.channels) (length p.vars)) contacts
  sites_declared asked typed contacts are =
      let C = shared_of h in
      let same = same_program P p h in
      let all = subst (λ (q : TypedProgram). All (IsProcess q.channels q.vars) C.procs) same (bodies_typed P p h asked typed) in
      let body = subst (λ (q : TypedProgram). IsProcess q.channels q.vars q.body) same typed in
      subst (λ (vs : List ContactValue). All (IsDeclaredContact (length p.channels) (length p.vars)) vs) (sym are)
      (subst (λ (q : TypedProgram). All (IsDeclaredContact (length q.channels) (length q.vars)) (all_sites C (every_contact q))) (sym same)
      (all_declared C all body))

  pub all_drawn : (latch answer own : ℕ) (contacts : List ContactValue) (inner whole turned : List NodeRules) → latch ≡ call_root (shared_of h) + 1
      → answer ≡ call_answer (shared_of h) → contacts ≡ all_sites (shared_of h) (every_contact p) → inner ≡ inner_rules (shared_of h) → own ≡ length inner
      → whole ≡ inner ++ no_rules ∷ q_next latch answer ∷ (contact_wires contacts 0 p.channels ++ contact_blocks p contacts 0 p.vars)
      → turned ≡ drop own whole ++ take own whole → turned ≡ call_rules (shared_of h)
  all_drawn latch answer own contacts inner whole turned latched answered are body count both over =
      all_called (shared_of h) latch answer own inner whole turned latched answered body count
      (both ∙ (ap (λ vs. inner ++ no_rules ∷ q_next latch answer ∷ (contact_wires vs 0 p.channels ++ contact_blocks p vs 0 p.vars)) are
      ∙ ap (λ (q : TypedProgram). inner ++ no_rules ∷ q_next latch answer ∷ (contact_wires (all_sites (shared_of h) (every_contact q)) 0 q.channels
      ++ contact_blocks q (all_sites (shared_of h) (every_contact q)) 0 q.vars)) (same_program P p h))) over

  -- its names, first values and wires
  module _ (count : ℕ) (whole : call_count (shared_of h) ≡ count) where
    pub named : names_to p (count - root_request p) ≡ call_names (shared_of h)
    named =
        let same = same_program P p h in
        let left : count - root_request (inlined_program (shared_of h)) ≡ call_count (shared_of h) - root_request (inlined_program (shared_of h)) =
        ap (λ n. n - root_request (inlined_program (shared_of h))) (sym whole) in
        ap (λ (q : TypedProgram). names_to q (count - root_request q)) same
        ∙ ap (names_to (inlined_program (shared_of h))) (omega (arith, left))

    pub valued : (low first : List Bool) → low ≡ with_raised (replicate count false) (vars_high p 0 p.vars)
        → first ≡ with_raised low (all_sites (shared_of h) (hidden_high p)) → first ≡ call_firsts (shared_of h)
    valued low first before then =
        let C = shared_of h in
        then ∙ (ap (λ vs. with_raised vs (all_sites C (hidden_high p))) before
        ∙ (ap (λ (q : TypedProgram). with_raised (with_raised (replicate count false) (vars_high q 0 q.vars)) (all_sites C (hidden_high q)))
        (same_program P p h)
        ∙ (sym (fold-append (λ vs node. slice_set vs node true) (replicate count false) (vars_high (inlined_program C) 0 C.vars)
        (all_sites C (hidden_high (inlined_program C))))
        ∙ ap (λ n. with_raised (replicate n false) (vars_high (inlined_program C) 0 C.vars ++ all_sites C (hidden_high (inlined_program C)))) (sym whole))))

  pub wired : (channels : List Wires) → channels ≡ wires_from p 0 p.channels
      → channels ≡ wires_from (inlined_program (shared_of h)) 0 (shared_of h).channels
  wired channels are = are ∙ ap (λ (q : TypedProgram). wires_from q 0 q.channels) (same_program P p h)
