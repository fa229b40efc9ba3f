-- The calls of a program as a list: it holds each call, and each call in it is of a procedure that is called. And what follows
-- of a program with calls from what is asked of it.
--
-- P: the program with copies; ps: the bodies of the procedures; d: the answer of each body in the net with shared bodies;
-- x, y: statements with calls; r, s: a statement's request in the net with shared bodies and in that with copies; from, to:
-- its first node in either net; q: a procedure; C: the program with calls.
use Rattle.std.proofs.Common.{◌≡◌, ℕ, ◌+◌, ◌<◌, ◌==◌, Bool, true, false, List, [], ◌∷◌, ◌++◌, map, length, get_or, inl, inr, refl, sym, ap, ◌∙◌, subst, arith, length-append}
use Rattle.std.specs.Prelude.{filter, if◌then◌else◌}
use Rattle.width_check.specs.Processes.{Process, choice_count, TypedProgram}
use Rattle.width_check.specs.Typing.{IsProcess}
use Rattle.handshake_expand.specs.Answers.{bodies_from, select_own, again_own}
use Rattle.net_compose.specs.Points.{IsTranslated}
use Rattle.net_compose.proofs.HalvedCarried.{declared_bits}
use Rattle.net_compose.proofs.PartStands.{part_typed}
use Rattle.call_map.specs.Calling.{Called, calling, atom, turned, abreast, chosen, looped, Calleds, no_calleds, and_called, CalledChoices, no_called, or_called, inlined_choices, called_size, called_requests, called_turn_requests, called_branch_requests, called_body_requests}
use Rattle.call_map.specs.CallsApart.{Calls, OneCalls, ChoiceCalls}
use Rattle.call_map.specs.CallNet.{CallProgram, inlined_program, procs_from, call_root, body_at, proc_answer, asks_of, IsCallProgram}
use Rattle.call_map.proofs.Items.{CallPoint, there_size, calls, turn_calls, branch_calls, body_calls}
use Rattle.call_map.proofs.Merged.{nowhere}
use Rattle.call_map.proofs.CallNet.{points, asks_listed}
use Rattle.call_map.proofs.CallOrder.{get_left, get_right, CallFacts}
use Rattle.call_map.proofs.CallParts.{Copy, copies_in, copies_called, Fits, copies_fit, paired_at, each_paired}

module _ (P : TypedProgram) (ps : List Process) (d : ℕ → ℕ) (q : ℕ) where
  abbrev listed : List CallPoint → List ℕ
  listed cs = map (λ (c : CallPoint). c.request) (filter (λ (c : CallPoint). c.proc == q) cs)

  listed_append : (xs ys : List CallPoint) → listed (xs ++ ys) ≡ listed xs ++ listed ys
  listed_append [] ys = refl
  listed_append (c ∷ xs) ys = by (c.proc == q) (listed_append xs ys)
    where
      by : (b : Bool) → listed (xs ++ ys) ≡ listed xs ++ listed ys
          → map (λ (c : CallPoint). c.request)
          (if b then c ∷ filter (λ (c : CallPoint). c.proc == q) (xs ++ ys) else filter (λ (c : CallPoint). c.proc == q) (xs ++ ys))
          ≡ map (λ (c : CallPoint). c.request) (if b then c ∷ filter (λ (c : CallPoint). c.proc == q) xs else filter (λ (c : CallPoint). c.proc == q) xs)
          ++ listed ys
      by true e = ap (λ l. c.request ∷ l) e
      by false e = e

  both_listed : (xs ys : List CallPoint) (ns ms : List ℕ) → ns ≡ listed xs → ms ≡ listed ys → ns ++ ms ≡ listed (xs ++ ys)
  both_listed xs ys ns ms e f = ap (λ l. l ++ ms) e ∙ (ap (λ l. listed xs ++ l) f ∙ sym (listed_append xs ys))

  -- the requests of the procedure's calls
  mutual
    pub requests_listed : (x : Called) (r from s to : ℕ) → called_requests ps P q x r from ≡ listed (calls P ps d x r from s to)
    requests_listed (calling t) r from s to = by (t == q)
      where
        by : (b : Bool) → (if b then r ∷ [] else []) ≡ map (λ (c : CallPoint). c.request)
            (if b then record { proc = t; request = r; request_there = s; answer = from; copy = to } ∷ [] else [])
        by true = refl
        by false = refl
    requests_listed (atom p) r from s to = refl
    requests_listed (turned members) r from s to = turns_listed members r from s to
    requests_listed (abreast members) r from s to = sides_listed members r from s to
    requests_listed (chosen false choices) r from s to =
        arms_listed choices (from + select_own + choice_count (inlined_choices ps choices)) (bodies_from (inlined_choices ps choices) select_own from)
        (to + select_own + choice_count (inlined_choices ps choices)) (bodies_from (inlined_choices ps choices) select_own to)
    requests_listed (chosen true choices) r from s to =
        arms_listed choices (from + again_own + choice_count (inlined_choices ps choices)) (bodies_from (inlined_choices ps choices) again_own from)
        (to + again_own + choice_count (inlined_choices ps choices)) (bodies_from (inlined_choices ps choices) again_own to)
    requests_listed (looped x) r from s to = requests_listed x (from + 1) (from + 2) (to + 1) (to + 2)

    turns_listed : (members : Calleds) (r from s to : ℕ) → called_turn_requests ps P q members r from ≡ listed (turn_calls P ps d members r from s to)
    turns_listed no_calleds r from s to = refl
    turns_listed (and_called x no_calleds) r from s to = requests_listed x r from s to
    turns_listed (and_called x (and_called y more)) r from s to =
        let next = from + 3 + called_size ps P x in
        let next_there = to + 3 + there_size P ps d x in
        both_listed (calls P ps d x from (from + 3) to (to + 3)) (turn_calls P ps d (and_called y more) (from + 2) next (to + 2) next_there)
        (called_requests ps P q x from (from + 3)) (called_turn_requests ps P q (and_called y more) (from + 2) next)
        (requests_listed x from (from + 3) to (to + 3)) (turns_listed (and_called y more) (from + 2) next (to + 2) next_there)

    sides_listed : (members : Calleds) (r from s to : ℕ) → called_branch_requests ps P q members from ≡ listed (branch_calls P ps d members r from s to)
    sides_listed no_calleds r from s to = refl
    sides_listed (and_called x more) r from s to =
        let next = from + 3 + called_size ps P x in
        let next_there = to + 3 + there_size P ps d x in
        both_listed (calls P ps d x from (from + 3) to (to + 3)) (branch_calls P ps d more r next s next_there)
        (called_requests ps P q x from (from + 3)) (called_branch_requests ps P q more next)
        (requests_listed x from (from + 3) to (to + 3)) (sides_listed more r next s next_there)

    arms_listed : (choices : CalledChoices) (start from s to : ℕ)
        → called_body_requests ps P q choices start from ≡ listed (body_calls P ps d choices start from s to)
    arms_listed no_called start from s to = refl
    arms_listed (or_called g x more) start from s to =
        let next = from + called_size ps P x in
        let next_there = to + there_size P ps d x in
        both_listed (calls P ps d x start from s to) (body_calls P ps d more (start + 1) next (s + 1) next_there)
        (called_requests ps P q x start from) (called_body_requests ps P q more (start + 1) next)
        (requests_listed x start from s to) (arms_listed more (start + 1) next (s + 1) next_there)

  -- a procedure that is called has a call in the list
  abbrev pub Found : List CallPoint → Type 0
  Found cs = (c : ℕ) × (c < length cs) × ((get_or cs c nowhere).proc ≡ q)

  found_left : (xs ys : List CallPoint) → Found xs → Found (xs ++ ys)
  found_left xs ys f =
      let l = f.1 in
      (f.0, (let e = length-append xs ys in omega (arith, l, e)), ap (λ (c : CallPoint). c.proc) (get_left xs ys f.0 nowhere l) ∙ f.2)

  found_right : (xs ys : List CallPoint) → Found ys → Found (xs ++ ys)
  found_right xs ys f =
      let l = f.1 in (
        length xs + f.0,
        (let e = length-append xs ys in omega (arith, l, e)),
        ap (λ (c : CallPoint). c.proc) (get_right xs ys (length xs) f.0 nowhere refl)
            ∙ f.2,
      )

  mutual
    pub found_in : (x : Called) (r from s to : ℕ) → Calls x q → Found (calls P ps d x r from s to)
    found_in (calling t) r from s to h = (0, omega arith, h)
    found_in (atom p) r from s to h = absurd h
    found_in (turned members) r from s to h = found_turn members r from s to h
    found_in (abreast members) r from s to h = found_side members r from s to h
    found_in (chosen false choices) r from s to h =
        found_arm choices (from + select_own + choice_count (inlined_choices ps choices)) (bodies_from (inlined_choices ps choices) select_own from)
        (to + select_own + choice_count (inlined_choices ps choices)) (bodies_from (inlined_choices ps choices) select_own to) h
    found_in (chosen true choices) r from s to h =
        found_arm choices (from + again_own + choice_count (inlined_choices ps choices)) (bodies_from (inlined_choices ps choices) again_own from)
        (to + again_own + choice_count (inlined_choices ps choices)) (bodies_from (inlined_choices ps choices) again_own to) h
    found_in (looped x) r from s to h = found_in x (from + 1) (from + 2) (to + 1) (to + 2) h

    found_turn : (members : Calleds) (r from s to : ℕ) → OneCalls members q → Found (turn_calls P ps d members r from s to)
    found_turn no_calleds r from s to h = absurd h
    found_turn (and_called x no_calleds) r from s to (inl h) = found_in x r from s to h
    found_turn (and_called x no_calleds) r from s to (inr h) = absurd h
    found_turn (and_called x (and_called y more)) r from s to (inl h) =
        found_left (calls P ps d x from (from + 3) to (to + 3))
        (turn_calls P ps d (and_called y more) (from + 2) (from + 3 + called_size ps P x) (to + 2) (to + 3 + there_size P ps d x))
        (found_in x from (from + 3) to (to + 3) h)
    found_turn (and_called x (and_called y more)) r from s to (inr h) =
        found_right (calls P ps d x from (from + 3) to (to + 3))
        (turn_calls P ps d (and_called y more) (from + 2) (from + 3 + called_size ps P x) (to + 2) (to + 3 + there_size P ps d x))
        (found_turn (and_called y more) (from + 2) (from + 3 + called_size ps P x) (to + 2) (to + 3 + there_size P ps d x) h)

    found_side : (members : Calleds) (r from s to : ℕ) → OneCalls members q → Found (branch_calls P ps d members r from s to)
    found_side no_calleds r from s to h = absurd h
    found_side (and_called x more) r from s to (inl h) =
        found_left (calls P ps d x from (from + 3) to (to + 3)) (branch_calls P ps d more r (from + 3 + called_size ps P x) s (to + 3 + there_size P ps d x))
        (found_in x from (from + 3) to (to + 3) h)
    found_side (and_called x more) r from s to (inr h) =
        found_right (calls P ps d x from (from + 3) to (to + 3)) (branch_calls P ps d more r (from + 3 + called_size ps P x) s (to + 3 + there_size P ps d x))
        (found_side more r (from + 3 + called_size ps P x) s (to + 3 + there_size P ps d x) h)

    found_arm : (choices : CalledChoices) (start from s to : ℕ) → ChoiceCalls choices q → Found (body_calls P ps d choices start from s to)
    found_arm no_called start from s to h = absurd h
    found_arm (or_called g x more) start from s to (inl h) =
        found_left (calls P ps d x start from s to) (body_calls P ps d more (start + 1) (from + called_size ps P x) (s + 1) (to + there_size P ps d x))
        (found_in x start from s to h)
    found_arm (or_called g x more) start from s to (inr h) =
        found_right (calls P ps d x start from s to) (body_calls P ps d more (start + 1) (from + called_size ps P x) (s + 1) (to + there_size P ps d x))
        (found_arm more (start + 1) (from + called_size ps P x) (s + 1) (to + there_size P ps d x) h)

pub asks_are : (C : CallProgram) (q : ℕ) → asks_of C q ≡ asks_listed C q
asks_are C q = requests_listed (inlined_program C) C.procs (proc_answer C) q C.body (call_root C) (call_root C + 2) (procs_from C) (procs_from C + 2)

module _ (C : CallProgram) (is : IsCallProgram C) (t : IsTranslated (inlined_program C)) where
  abbrev P : TypedProgram
  P = inlined_program C

  abbrev Stands : CallPoint → Copy C.procs P.body → Type 0
  Stands c k = Fits C.procs P (proc_answer C) P.body (procs_from C) (procs_from C + 2) c k

  found : (q : ℕ) → q < length C.procs → (c : ℕ) × (c < length (points C)) × ((get_or (points C) c nowhere).proc ≡ q)
  found q l = found_in P C.procs (proc_answer C) q C.body (call_root C) (call_root C + 2) (procs_from C) (procs_from C + 2) (is.called q l)

  -- its body is a part of the program with copies
  typed_body : (q : ℕ) → q < length C.procs → IsProcess C.channels C.vars (body_at C q)
  typed_body q l =
      let f = found q l in
      let z = paired_at Stands nowhere (points C) (copies_in C.procs C.body)
      (copies_fit C.procs P (proc_answer C) C.body (call_root C) (call_root C + 2) (procs_from C) (procs_from C + 2)) f.0 f.1 in
      subst (λ n. IsProcess C.channels C.vars (body_at C n)) (sym z.1.0 ∙ f.2) (part_typed P z.0.at t.typed.body_is)

  called_within : (c : ℕ) → c < length (points C) → (get_or (points C) c nowhere).proc < length C.procs
  called_within c l =
      let z = each_paired Stands nowhere (λ (k : Copy C.procs P.body). Calls C.body k.proc) (points C) (copies_in C.procs C.body)
      (copies_fit C.procs P (proc_answer C) C.body (call_root C) (call_root C + 2) (procs_from C) (procs_from C + 2)) (copies_called C.procs C.body) c l in
      subst (λ n. n < length C.procs) (sym z.1.0) (is.declared z.0.proc z.2)

  pub call_facts : CallFacts C
  call_facts = record {
    atoms = is.atoms;
    typed = t.typed.body_is;
    bodies = typed_body;
    within = called_within;
    called = found;
    some = declared_bits C.vars t.typed.each_var;
  }
