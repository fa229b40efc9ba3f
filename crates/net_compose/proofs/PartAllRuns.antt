-- In each state of each run of the net of any typed program its parts take turns: the net is that of the program in halves
-- with its nodes numbered otherwise.
use Rattle.std.proofs.Common.{◌≡◌, ◌⊎◌, inl, inr, ℕ, ◌+◌, ◌<◌, ◌≤◌, true, false, List, length, sym, ap, ◌∙◌, subst, arith}
use Rattle.std.specs.Prelude.{not}
use Rattle.prs_core.specs.Nets.{NetValue}
use Rattle.prs_core.specs.Moves.{high}
use Rattle.env_script.specs.Scripts.{OfferValue, IsScript}
use Rattle.env_script.specs.Runs.{RunState, move_enabled, moved, after, begin_at, IsRun}
use Rattle.width_check.specs.Processes.{Process, TypedProgram}
use Rattle.width_check.specs.Typing.{var_width, IsProcess}
use Rattle.handshake_expand.specs.Layout.{size_of, root_request, body_from, nodes_of}
use Rattle.handshake_expand.specs.Named.{node_names}
use Rattle.chp_meaning.specs.Halves.{halved, halved_program, ReadsNoTarget, HalvesArePlain}
use Rattle.circuit_places.specs.Within.{PartOf, InTurns, Phased, CircuitsTakeTurns, part_spot}
use Rattle.net_compose.specs.Translation.{translation, composed, first_values, wires_from, rules_of}
use Rattle.net_compose.specs.PartNumbers.{first_of_part, request_of_part, answer_of_part, PartsInTurns, TranslationTakesTurns}
use Rattle.net_compose.proofs.Sizes.{statement_length}
use Rattle.net_compose.proofs.FlatCells.{place_lt, spot_of}
use Rattle.net_compose.proofs.HalvedAlike.{Values, values_at, HiddenAt, answers_same}
use Rattle.net_compose.proofs.HalvedNet.{renamed, nodes_there, below_root, in_root, in_own, order}
use Rattle.net_compose.proofs.HalvedRenamed.{numbers, values_of, net_there, translation_there, is_renaming}
use Rattle.net_compose.proofs.HalvedCarried.{declared_bits, counted}
use Rattle.net_compose.proofs.Renamed.{IsRenaming, Mirrors, enabled_same, moved_same, found, mirror, mirrors_first}
use Rattle.net_compose.proofs.PartStands.{part_free, part_typed, part_place, part_fine}
use Rattle.net_compose.proofs.PartHalves.{plain_hidden, none_stored, part_n, there, in_turns_there, own_plain, PartThere, walk, same_size}
use Rattle.net_compose.proofs.PartRuns.{plain_parts}

module _ (P : TypedProgram) (typed : IsProcess P.channels P.vars P.body) (plain : ReadsNoTarget (halved (length P.vars) P.body))
    (some : (y : ℕ) → y < length P.vars → 1 ≤ var_width P.vars y)
    (typed_there : IsProcess (halved_program P).channels (halved_program P).vars (halved_program P).body) where
  abbrev Q : TypedProgram
  Q = halved_program P

  abbrev f : ℕ → ℕ
  f = renamed counted P typed plain some

  abbrev B : NetValue
  B = net_there counted P typed plain some plain

  pub renaming : IsRenaming (translation P) (net_there counted P typed plain some plain) (renamed counted P typed plain some) (nodes_of P) (root_request P)
  renaming = is_renaming counted P typed plain some plain typed_there

  -- the states of both nets
  abbrev Both : List OfferValue → RunState → RunState → Type 0
  Both script st other = Mirrors (node_names P) (node_names Q) (first_values P) (first_values Q) (composed P) (composed Q) (wires_from P 0 P.channels) f
      (nodes_of P) (root_request P) renaming script st other

  abbrev part_of : {q : Process} (h : PartOf q P.body) → PartOf (halved (part_n (length P.vars) h) q) Q.body
  part_of h = there (length P.vars) h

  plain_part : {q : Process} (h : PartOf q P.body) → ReadsNoTarget (halved (part_n (length P.vars) h) q)
  plain_part h = part_free Q (part_of h) plain

  -- a part's numbers in both nets
  part_numbers : {q : Process} (h : PartOf q P.body)
      → PartThere counted P (λ n. n) f q (request_of_part P h) (first_of_part P h) (request_of_part Q (part_of h)) (first_of_part Q (part_of h))
  part_numbers h =
      let z : root_request P ≡ root_request P + 0 = omega arith in
      let y : root_request Q + 0 ≡ root_request Q = omega arith in
      walk counted P (λ n. n) f (length P.vars) h typed plain (root_request P) (body_from P) (root_request Q) (body_from Q)
      (z ∙ (in_root counted P typed plain some (λ n. n) f (numbers counted P typed plain some) 0 (omega arith) ∙ ap f y))
      (in_own counted P typed plain some (λ n. n) f (numbers counted P typed plain some))

  same_number : {q : Process} (h : PartOf q P.body) → ReadsNoTarget q → (i : ℕ) → i < size_of P q → first_of_part P h + i ≡ f (first_of_part Q (part_of h) + i)
  same_number {q = q} h c i less =
      let rules = rules_of P q (request_of_part P h) (first_of_part P h) in
      let t = part_typed P h typed in
      values_at (λ n. n) f (first_of_part P h) (first_of_part Q (part_of h)) rules
      (subst (λ l. Values (λ n. n) f (first_of_part Q (part_of h)) l) (own_plain counted P q t c (request_of_part P h) (first_of_part P h))
      (part_numbers h).nodes) i
      (let e = statement_length counted P q (request_of_part P h) (first_of_part P h) t in omega (arith, e, less))

  below_there : {q : Process} (h : PartOf q P.body) → ReadsNoTarget q → (i : ℕ) → i < size_of P q → i < size_of Q (halved (part_n (length P.vars) h) q)
  below_there {q = q} h c i less =
      let e = same_size counted P (part_n (length P.vars) h) q (part_typed P h typed) c (plain_part h) in
      omega (arith, e, less)

  within : {q : Process} (h : PartOf q P.body) → ReadsNoTarget q → (i : ℕ) → i < size_of P q → first_of_part Q (part_of h) + i < nodes_of P
  within {q = q} h c i less =
      let s = spot_of Q (halved (part_n (length P.vars) h) q) (plain_part h) i (below_there h c i less) in
      let e = part_place Q (part_of h) (body_from Q) s.spot in
      let l = place_lt Q Q.body plain (part_spot (part_of h) s.spot) (part_fine Q (part_of h) s.spot s.fine) in
      let is = s.is in
      let n = nodes_there counted P typed plain some in
      omega (arith, e, l, is, n)

  module _ (script : List OfferValue) (st other : RunState) (m : Both script st other) where
    values : Values (high st.values) (high other.values) 0 (order counted P typed plain some)
    values = values_of counted P typed plain some (high st.values) (high other.values) m.same

    part_values : {q : Process} (h : PartOf q P.body) → PartThere counted P (high st.values) (high other.values) q (request_of_part P h) (first_of_part P h)
        (request_of_part Q (part_of h)) (first_of_part Q (part_of h))
    part_values h =
        let z : root_request P ≡ root_request P + 0 = omega arith in
        let y : root_request Q + 0 ≡ root_request Q = omega arith in
        walk counted P (high st.values) (high other.values) (length P.vars) h typed plain (root_request P) (body_from P) (root_request Q) (body_from Q)
        (ap (high st.values) z ∙ (in_root counted P typed plain some (high st.values) (high other.values) values 0 (omega arith) ∙ ap (high other.values) y))
        (in_own counted P typed plain some (high st.values) (high other.values) values)

    asked : {q : Process} (h : PartOf q P.body) → high st.values (request_of_part P h) ≡ high other.values (request_of_part Q (part_of h))
    asked h = (part_values h).asked

    answered : {q : Process} (h : PartOf q P.body) → ReadsNoTarget q → high st.values (answer_of_part P h) ≡ high other.values (answer_of_part Q (part_of h))
    answered {q = q} h c = answers_same counted P (high st.values) (high other.values)
        (below_root counted P typed plain some (high st.values) (high other.values) values) some (part_n (length P.vars) h) q (part_typed P h typed)
        (plain_part h) (request_of_part P h) (first_of_part P h) (request_of_part Q (part_of h)) (first_of_part Q (part_of h)) 0
        (subst (λ l. HiddenAt counted P (part_n (length P.vars) h) l 0) (sym (plain_hidden q c)) tt) (asked h)
        (subst (λ l. Values (high st.values) (high other.values) 0 l) (sym (none_stored P q c (first_of_part P h))) tt) (part_values h).nodes

    can : (n : ℕ) → n < nodes_of P → move_enabled (translation P) script st (f n) ≡ move_enabled (translation Q) script other n
    can n l = enabled_same (node_names P) (node_names Q) (first_values P) (first_values Q) (composed P) (composed Q) (wires_from P 0 P.channels) f (nodes_of P)
        (root_request P) renaming script st other m n l
        ∙ sym (ap (λ net. move_enabled net script other n) (translation_there counted P typed plain some plain))

    can_part : {q : Process} (h : PartOf q P.body) → ReadsNoTarget q → (i : ℕ) → i < size_of P q
        → move_enabled (translation P) script st (first_of_part P h + i) ≡ move_enabled (translation Q) script other (first_of_part Q (part_of h) + i)
    can_part h c i less = ap (move_enabled (translation P) script st) (same_number h c i less) ∙ can (first_of_part Q (part_of h) + i) (within h c i less)

  module _ (script : List OfferValue) (st other : RunState) (m : Both script st other) (turns : PartsInTurns Q script other) where
    -- a move
    record Goes (n : ℕ) : Type 0 where
      number : ℕ
      on : move_enabled (translation Q) script other number ≡ true
      both : Both script (moved (translation P) st n) (moved B other number)

    goes : (n : ℕ) → move_enabled (translation P) script st n ≡ true → Goes n
    goes n on =
        let b = found (node_names P) (node_names Q) (first_values P) (first_values Q) (composed P) (composed Q) (wires_from P 0 P.channels) f (nodes_of P)
        (root_request P) renaming script st n on in
        record {
          number = b.0;
          on = sym (can script st other m b.0 b.1) ∙ (ap (move_enabled (translation P) script st) b.2 ∙ on);
          both = subst (λ k. Both script (moved (translation P) st k) (moved B other b.0)) b.2
              (moved_same (node_names P) (node_names Q) (first_values P) (first_values Q) (composed P) (composed Q) (wires_from P 0 P.channels) f (nodes_of P)
              (root_request P) renaming script st other m b.0 b.1);
        }

    asks_at : {q : Process} (h : PartOf q P.body) → ReadsNoTarget q → (n : ℕ) → move_enabled (translation P) script st n ≡ true
        → Phased (high (moved (translation P) st n).values (request_of_part P h)) (high st.values (request_of_part P h)) (high st.values (answer_of_part P h))
    asks_at h c n on =
        let g = goes n on in
        by g.number g.both (turns.asks (part_of h) (plain_part h) g.number g.on)
      where
        by : (k : ℕ) → Both script (moved (translation P) st n) (moved B other k)
            → Phased (high (moved (translation Q) other k).values (request_of_part Q (part_of h))) (high other.values (request_of_part Q (part_of h)))
            (high other.values (answer_of_part Q (part_of h)))
            → Phased (high (moved (translation P) st n).values (request_of_part P h)) (high st.values (request_of_part P h))
            (high st.values (answer_of_part P h))
        by k both (inl e) = inl (asked script (moved (translation P) st n) (moved B other k) both h ∙ (e ∙ sym (asked script st other m h)))
        by k both (inr e) = inr (asked script (moved (translation P) st n) (moved B other k) both h ∙ (e ∙ ap not (sym (answered script st other m h c))))

    ends_at : {q : Process} (h : PartOf q P.body) → ReadsNoTarget q → (n : ℕ) → move_enabled (translation P) script st n ≡ true
        → (high (moved (translation P) st n).values (answer_of_part P h) ≡ high st.values (answer_of_part P h))
        ⊎ (high (moved (translation P) st n).values (answer_of_part P h) ≡ high st.values (request_of_part P h))
    ends_at h c n on =
        let g = goes n on in
        by g.number g.both (turns.ends (part_of h) (plain_part h) g.number g.on)
      where
        by : (k : ℕ) → Both script (moved (translation P) st n) (moved B other k)
            → (high (moved (translation Q) other k).values (answer_of_part Q (part_of h)) ≡ high other.values (answer_of_part Q (part_of h)))
            ⊎ (high (moved (translation Q) other k).values (answer_of_part Q (part_of h)) ≡ high other.values (request_of_part Q (part_of h)))
            → (high (moved (translation P) st n).values (answer_of_part P h) ≡ high st.values (answer_of_part P h))
            ⊎ (high (moved (translation P) st n).values (answer_of_part P h) ≡ high st.values (request_of_part P h))
        by k both (inl e) = inl (answered script (moved (translation P) st n) (moved B other k) both h c ∙ (e ∙ sym (answered script st other m h c)))
        by k both (inr e) = inr (answered script (moved (translation P) st n) (moved B other k) both h c ∙ (e ∙ sym (asked script st other m h)))

    one_at : {q s : Process} (h : PartOf q P.body) (k : PartOf s P.body) → ReadsNoTarget q → ReadsNoTarget s → InTurns h k
        → ((high st.values (request_of_part P h) ≡ false) × (high st.values (answer_of_part P h) ≡ false))
        ⊎ ((high st.values (request_of_part P k) ≡ false) × (high st.values (answer_of_part P k) ≡ false))
    one_at h k c d i = by (turns.one_rests (part_of h) (part_of k) (plain_part h) (plain_part k) (in_turns_there (length P.vars) h k i))
      where
        by : ((high other.values (request_of_part Q (part_of h)) ≡ false) × (high other.values (answer_of_part Q (part_of h)) ≡ false))
            ⊎ ((high other.values (request_of_part Q (part_of k)) ≡ false) × (high other.values (answer_of_part Q (part_of k)) ≡ false))
            → ((high st.values (request_of_part P h) ≡ false) × (high st.values (answer_of_part P h) ≡ false))
            ⊎ ((high st.values (request_of_part P k) ≡ false) × (high st.values (answer_of_part P k) ≡ false))
        by (inl z) = inl (asked script st other m h ∙ z.0, answered script st other m h c ∙ z.1)
        by (inr z) = inr (asked script st other m k ∙ z.0, answered script st other m k d ∙ z.1)

    pub in_turns_here : PartsInTurns P script st
    in_turns_here = record {
      still = λ h c a d i less. can_part script st other m h c i less
          ∙ turns.still (part_of h) (plain_part h) (sym (asked script st other m h) ∙ a) (sym (answered script st other m h c) ∙ d) i (below_there h c i less);
      low_at_rest = λ h c a d i less. ap (high st.values) (same_number h c i less)
          ∙ (m.same (first_of_part Q (part_of h) + i) (within h c i less)
          ∙ turns.low_at_rest (part_of h) (plain_part h) (sym (asked script st other m h) ∙ a) (sym (answered script st other m h c) ∙ d) i
          (below_there h c i less));
      rests = λ h c a d i less. can_part script st other m h c i less
          ∙ turns.rests (part_of h) (plain_part h) (sym (asked script st other m h) ∙ a) (sym (answered script st other m h c) ∙ d) i (below_there h c i less);
      one_rests = one_at;
      asks = asks_at;
      ends = ends_at;
    }

-- in each run of the program's net, by that of the net of the program in halves
abbrev OnNet : TypedProgram → NetValue → Type 0
OnNet Q net = (script : List OfferValue) → IsScript Q.channels script → (ns : List ℕ) → IsRun net script (begin_at net net.first) ns
    → PartsInTurns Q script (after net (begin_at net net.first) ns)

pub all_parts : HalvesArePlain → CircuitsTakeTurns → TranslationTakesTurns
all_parts halves law P is script fits ns run =
    let Q = halved_program P in
    let h = halves P is.typed is.sharing in
    let some = declared_bits P.vars is.typed.each_var in
    let t = is.typed.body_is in
    let on : OnNet Q (net_there counted P t h.plain some h.plain) = subst (λ net. OnNet Q net) (translation_there counted P t h.plain some h.plain)
    (plain_parts law Q h) in
    let r = renaming P t h.plain some h.sized.body_is in
    let z = mirror (node_names P) (node_names Q) (first_values P) (first_values Q) (composed P) (composed Q) (wires_from P 0 P.channels)
    (renamed counted P t h.plain some) (nodes_of P) (root_request P) r script ns (begin_at (translation P) (translation P).first)
    (begin_at (net_there counted P t h.plain some h.plain) (first_values Q))
    (mirrors_first (node_names P) (node_names Q) (first_values P) (first_values Q) (composed P) (composed Q) (wires_from P 0 P.channels)
    (renamed counted P t h.plain some) (nodes_of P) (root_request P) r script) run in
    in_turns_here P t h.plain some h.sized.body_is script (after (translation P) (begin_at (translation P) (translation P).first) ns)
    (after (net_there counted P t h.plain some h.plain) (begin_at (net_there counted P t h.plain some h.plain) (first_values Q)) z.moves) z.last
    (on script fits z.moves z.run)
