-- The rules of the procedures, of the root and of the body of a net with shared bodies, one list behind the other.
use Rattle.std.proofs.Common.{◌≡◌, ◌∙◌, ℕ, suc, ◌+◌, ◌-◌, ◌<◌, ◌≤◌, Bool, true, List, [], ◌∷◌, ◌++◌, length, drop, take, All, refl, sym, ap, subst, arith, append_assoc, length-append}
use Rattle.std.specs.Prelude.{slice_set}
use Rattle.std.proofs.lemmas.List.Sums.{fold-append}
use Rattle.prs_core.specs.Nets.{NodeRules}
use Rattle.prs_core.specs.Pairs.{no_rules, or_of}
use Rattle.width_check.specs.Processes.{Process, TypedProgram}
use Rattle.width_check.specs.Typing.{IsProcess}
use Rattle.handshake_expand.specs.Layout.{size_of, root_request, go_node}
use Rattle.cell_sequence.specs.Sequence.{q_child, q_latch, q_next}
use Rattle.net_compose.specs.Contacts.{ContactValue, every_contact}
use Rattle.net_compose.specs.SortedContacts.{contact_wires, contact_blocks}
use Rattle.net_compose.specs.Translation.{rules_of, hidden_high}
use Rattle.net_compose.proofs.AllDriven.{turned_over}
use Rattle.net_compose.proofs.BodyDriven.{two_on, set_on}
use Rattle.net_compose.proofs.Raised.{with_raised}
use Rattle.call_map.specs.Calling.{Called, called_answer, called_rules, called_sites, called_requests}
use Rattle.call_map.specs.CallNet.{CallProgram, inlined_program, procs_from, procs_size, body_sites, call_root, call_answer, proc_answer, asks_of, proc_rules, all_sites, call_channels_rules, call_vars_rules, call_rules}
use Rattle.call_map.specs.CallsApart.{Calls}
use Rattle.call_compose.specs.declared.walk.Call.{Call}
use Rattle.call_compose.specs.Placing.{requests_from, answers_from, unasked_rules, procs_rules, with_asked, inner_rules}
use Rattle.call_compose.specs.Walking.{answer_at, requests_of}
use Rattle.call_compose.proofs.BodiesPlaced.{asked}
use Rattle.call_compose.proofs.CallsDriven.{answer_found, rules_same, asked_same, procs_are}
use Rattle.call_compose.proofs.CallsSorted.{called_wires, called_blocks}

-- what is made of them, of a program with these bodies and this one with calls
pub record IsDrawn (p : TypedProgram) (bs : List Process) (x : Called) (root answer : ℕ) (answers requests : List ℕ) (calls : List Call)
    (own before after new : List NodeRules) : Type 0 where
  pub typed : All (IsProcess p.channels p.vars) bs
  pub answers_are : answers ≡ answers_from p bs (root_request p)
  pub requests_are : requests ≡ requests_from p bs (root_request p)
  pub root_is : root ≡ root_request p + procs_size p bs
  pub answered : answer ≡ called_answer bs p x (root + 2)
  pub asking : (q : ℕ) → requests_of q calls ≡ called_requests bs p q x root (root + 2)
  pub bodies : own ≡ unasked_rules p bs (root_request p)
  pub behind : after ≡ before ++ called_rules bs p (answer_at answers) x root (root + 2)
  pub set : new ≡ with_asked (λ q. or_of (requests_of q calls)) (root_request p) 0 requests after

-- and of their sites and first values
pub record IsListed (p : TypedProgram) (bs : List Process) (x : Called) (root : ℕ) (mid new : List ContactValue) (old raised first : List Bool)
    : Type 0 where
  pub root_is : root ≡ root_request p + procs_size p bs
  pub bodies : mid ≡ body_sites p (every_contact p) bs (root_request p)
  pub body : new ≡ mid ++ called_sites bs p (every_contact p) x (root + 2)
  pub low : raised ≡ with_raised old (body_sites p (hidden_high p) bs (root_request p))
  pub high : first ≡ with_raised raised (called_sites bs p (hidden_high p) x (root + 2))

-- so many drivers, with the two of the root
pub inner_long : (own mid before after : List NodeRules) (a b : NodeRules) (rest : List NodeRules) → mid ≡ own ++ a ∷ [] → before ≡ mid ++ b ∷ []
    → after ≡ before ++ rest → length after ≡ length own + 2 + length rest
inner_long own mid before after a b rest first second third =
    let l = ap length first ∙ length-append own (a ∷ []) in
    let m = ap length second ∙ length-append mid (b ∷ []) in
    let n = ap length third ∙ length-append before rest in
    omega (arith, l, m, n)

same_length : (p : TypedProgram) (ask : ℕ → NodeRules) (q : ℕ) (bs : List Process) (from : ℕ)
    → length (unasked_rules p bs from) ≡ length (procs_rules p ask q bs from)
same_length p ask q [] from = refl
same_length p ask q (b ∷ bs) from =
    let own = rules_of p b from (from + 1) in
    let next = from + 1 + size_of p b in
    let rest = same_length p ask (suc q) bs (from + 1 + size_of p b) in
    let l = length-append own (unasked_rules p bs next) in
    let r = length-append own (procs_rules p ask (suc q) bs next) in
    omega (arith, rest, l, r)

module _ (C : CallProgram) where
  abbrev P : TypedProgram
  P = inlined_program C

  module _ (known : (q : ℕ) → Calls C.body q → q < length C.procs)
      (counted : (s : Process) (request from : ℕ) → IsProcess C.channels C.vars s → length (rules_of P s request from) ≡ size_of P s) where
    pub drawn : (root answer latch : ℕ) (answers requests : List ℕ) (calls : List Call) (own d2 before after d5 d6 : List NodeRules)
        → IsDrawn P C.procs C.body root answer answers requests calls own before after d5
        → d2 ≡ own ++ q_child go_node (root + 1) ∷ [] → before ≡ d2 ++ no_rules ∷ [] → latch ≡ length own + 1
        → d6 ≡ slice_set d5 latch (q_latch go_node answer) → d6 ≡ inner_rules C
    drawn root answer latch answers requests calls own d2 before after d5 d6 is second third at last =
        let from = procs_from C in
        let unasked = unasked_rules P C.procs from in
        let ask = λ (q : ℕ). or_of (requests_of q calls) in
        let placed = procs_rules P ask 0 C.procs from in
        let body = called_rules C.procs P (answer_at answers) C.body root (root + 2) in
        let tail = q_child go_node (root + 1) ∷ no_rules ∷ body in
        let joined : after ≡ own ++ tail =
        two_on own d2 after (q_child go_node (root + 1) ∷ []) (no_rules ∷ body) second (two_on d2 before after (no_rules ∷ []) body third is.behind) in
        let all : after ≡ unasked ++ tail = joined ∙ ap (λ l. l ++ tail) is.bodies in
        let asked_all : d5 ≡ placed ++ tail =
        is.set ∙ (ap (λ l. with_asked ask from 0 requests l) all
        ∙ (ap (λ l. with_asked ask from 0 l (unasked ++ tail)) is.requests_are
        ∙ asked P ask from counted C.procs 0 from [] tail is.typed (omega arith) (omega arith))) in
        let long = same_length P ask 0 C.procs from in
        let latched : d6 ≡ placed ++ q_child go_node (root + 1) ∷ q_latch go_node answer ∷ body =
        last ∙ set_on placed d5 tail 1 latch (q_latch go_node answer) (omega (arith, at, ap length is.bodies, long)) asked_all in
        let requested : placed ≡ proc_rules C 0 C.procs from =
        asked_same P (λ q. requests_of q calls) (asks_of C) (λ q. is.asking q ∙ ap (λ n. called_requests C.procs P q C.body n (n + 2)) is.root_is) 0 C.procs
        from ∙ procs_are C 0 C.procs from in
        let by_answers : body ≡ called_rules C.procs P (proc_answer C) C.body root (root + 2) =
        rules_same C.procs P (answer_at answers) (proc_answer C) C.body root (root + 2)
        (λ q calls_it. ap (λ l. answer_at l q) is.answers_are ∙ answer_found P C.procs from q (known q calls_it)) in
        latched
        ∙ (ap (λ l. l ++ q_child go_node (root + 1) ∷ q_latch go_node answer ∷ body) requested
        ∙ (ap (λ l. proc_rules C 0 C.procs from ++ q_child go_node (root + 1) ∷ q_latch go_node answer ∷ l) by_answers
        ∙ (ap (λ a. proc_rules C 0 C.procs from ++ q_child go_node (root + 1) ∷ q_latch go_node a
        ∷ called_rules C.procs P (proc_answer C) C.body root (root + 2)) is.answered
        ∙ ap (λ n. proc_rules C 0 C.procs from ++ q_child go_node (n + 1) ∷ q_latch go_node (called_answer C.procs P C.body (n + 2))
        ∷ called_rules C.procs P (proc_answer C) C.body n (n + 2)) is.root_is)))

  pub listed : (root : ℕ) (mid new : List ContactValue) (old raised first : List Bool) → IsListed P C.procs C.body root mid new old raised first
      → new ≡ all_sites C (every_contact P)
  listed root mid new old raised first is =
      is.body ∙ (ap (λ l. l ++ called_sites C.procs P (every_contact P) C.body (root + 2)) is.bodies
      ∙ ap (λ n. body_sites P (every_contact P) C.procs (procs_from C) ++ called_sites C.procs P (every_contact P) C.body (n + 2)) is.root_is)

  pub raised_all : (root : ℕ) (mid new : List ContactValue) (old raised first : List Bool) → IsListed P C.procs C.body root mid new old raised first
      → first ≡ with_raised old (all_sites C (hidden_high P))
  raised_all root mid new old raised first is =
      let bodies = body_sites P (hidden_high P) C.procs (procs_from C) in
      let body = λ (n : ℕ). called_sites C.procs P (hidden_high P) C.body (n + 2) in
      is.high ∙ (ap (λ l. with_raised l (body root)) is.low
      ∙ (sym (fold-append (λ vs node. slice_set vs node true) old bodies (body root))
      ∙ ap (λ n. with_raised old (bodies ++ body n)) is.root_is))

  -- the declared nodes are turned before them
  pub all_called : (latch answer own : ℕ) (inner whole turned : List NodeRules) → latch ≡ call_root C + 1 → answer ≡ call_answer C
      → inner ≡ inner_rules C → own ≡ length inner
      → whole ≡ inner ++ no_rules ∷ q_next latch answer ∷ (contact_wires (all_sites C (every_contact P)) 0 C.channels
      ++ contact_blocks P (all_sites C (every_contact P)) 0 C.vars)
      → turned ≡ drop own whole ++ take own whole → turned ≡ call_rules C
  all_called latch answer own inner whole turned latched answered body count both over =
      let wires = call_channels_rules C 0 C.channels in
      let blocks = call_vars_rules C 0 C.vars in
      let found = contact_wires (all_sites C (every_contact P)) 0 C.channels in
      let stored = contact_blocks P (all_sites C (every_contact P)) 0 C.vars in
      let declared = no_rules ∷ q_next latch answer ∷ (found ++ stored) in
      let first : turned ≡ declared ++ inner =
      over ∙ (ap (λ n. drop n whole ++ take n whole) count ∙ (ap (λ l. drop (length inner) l ++ take (length inner) l) both ∙ turned_over inner declared)) in
      first
      ∙ (ap (λ l. no_rules ∷ q_next latch answer ∷ l) (append_assoc found stored inner)
      ∙ (ap (λ l. no_rules ∷ q_next latch answer ∷ (l ++ (stored ++ inner))) (called_wires C 0 C.channels)
      ∙ (ap (λ l. no_rules ∷ q_next latch answer ∷ (wires ++ (l ++ inner))) (called_blocks C 0 C.vars)
      ∙ (ap (λ n. no_rules ∷ q_next n answer ∷ (wires ++ (blocks ++ inner))) latched
      ∙ (ap (λ n. no_rules ∷ q_next (call_root C + 1) n ∷ (wires ++ (blocks ++ inner))) answered
      ∙ ap (λ l. no_rules ∷ q_next (call_root C + 1) (call_answer C) ∷ (wires ++ (blocks ++ l))) body)))))
