-- In each state of each run of a program's net its parts take turns, where no assignment reads its own target.
use Rattle.std.proofs.Common.{◌≡◌, ◌⊎◌, inl, inr, ℕ, ◌+◌, ◌<◌, Bool, true, false, List, length, get_or, sym, ap, ◌∙◌, arith}
use Rattle.std.specs.Prelude.{not}
use Rattle.prs_core.specs.Moves.{high}
use Rattle.env_script.specs.Scripts.{OfferValue, IsScript}
use Rattle.env_script.specs.Runs.{RunState, move_enabled, moved, after, begin_at}
use Rattle.width_check.specs.Processes.{Process, TypedProgram}
use Rattle.handshake_expand.specs.Layout.{size_of, root_request, body_from}
use Rattle.chp_meaning.specs.Halves.{ReadsNoTarget, IsPlain}
use Rattle.circuit_places.specs.Circuit.{Spot}
use Rattle.circuit_places.specs.Whole.{enabled, cells_moved}
use Rattle.circuit_places.specs.Within.{PartOf, InTurns, Phased, cells_in, asked_in, answers_in, part_node, CellsTakeTurns, CircuitsTakeTurns}
use Rattle.net_compose.specs.Translation.{translation}
use Rattle.net_compose.specs.PartNumbers.{first_of_part, request_of_part, answer_of_part, PartsInTurns, PartsTakeTurns}
use Rattle.net_compose.proofs.FlatCells.{bits, low_bits, length-bits, spot_of}
use Rattle.net_compose.proofs.FlatRules.{answer_is}
use Rattle.net_compose.proofs.FlatNet.{Given, Shows, number_of, enabled_is}
use Rattle.net_compose.proofs.PlainPasses.{Reached, Moving, moving, next_shows, arrived, all_low_at}
use Rattle.net_compose.proofs.HalvedCarried.{sized_bits}
use Rattle.net_compose.proofs.PartStands.{part_free, part_typed, part_place, part_fine, StandsAt, part_stands}

module _ (P : TypedProgram) (given : Given P) where
  module _ (st : RunState) where
    -- a part in a state of the net that shows one of the cells
    pub record Seen {q : Process} (h : PartOf q P.body) (r d : Bool) : Type 0 where
      pub asked : high st.values (request_of_part P h) ≡ r
      pub answered : high st.values (answer_of_part P h) ≡ d

  module _ (script : List OfferValue) (fits : IsScript P.channels script) (st : RunState) (moves : ℕ) (r : Reached P given script fits st moves)
      (turns : CellsTakeTurns P script r.cells) where
    here : {q : Process} (h : PartOf q P.body)
        → StandsAt P (high st.values) q (request_of_part P h) (first_of_part P h) (asked_in h r.cells) (cells_in h r.cells)
    here h = part_stands P (high st.values) h given.covered given.typed (root_request P) (body_from P) r.cells.root.child r.cells.root.inner r.shows.child
        r.shows.body

    seen : {q : Process} (h : PartOf q P.body) → Seen st h (asked_in h r.cells) (answers_in h r.cells)
    seen {q = q} h = record {
      asked = (here h).asked;
      answered = answer_is P (high st.values) q (part_free P h given.covered) (part_typed P h given.typed) (first_of_part P h) (cells_in h r.cells)
          (here h).stands;
    }

    record AtNumber {q : Process} (h : PartOf q P.body) (i : ℕ) : Type 0 where
      spot : Spot q
      can : move_enabled (translation P) script st (first_of_part P h + i) ≡ enabled P script r.cells (part_node h spot)

    at_number : {q : Process} (h : PartOf q P.body) (i : ℕ) → i < size_of P q → AtNumber h i
    at_number {q = q} h i less =
        let s = spot_of P q (part_free P h given.covered) i less in
        let e : number_of P given (part_node h s.spot) ≡ first_of_part P h + i = sym (part_place P h (body_from P) s.spot)
        ∙ ap (λ n. first_of_part P h + n) s.is in
        record {
          spot = s.spot;
          can = ap (move_enabled (translation P) script st) (sym e)
              ∙ enabled_is P given st r.cells r.shows script (part_node h s.spot) (part_fine P h s.spot s.fine);
        }

    still_at : {q : Process} (h : PartOf q P.body) → ReadsNoTarget q → high st.values (request_of_part P h) ≡ true → high st.values (answer_of_part P h) ≡ true
        → (i : ℕ) → i < size_of P q → move_enabled (translation P) script st (first_of_part P h + i) ≡ false
    still_at h c a d i less = let n = at_number h i less in n.can ∙ turns.still h (sym (seen h).asked ∙ a) (sym (seen h).answered ∙ d) n.spot

    rests_at : {q : Process} (h : PartOf q P.body) → ReadsNoTarget q → high st.values (request_of_part P h) ≡ false
        → high st.values (answer_of_part P h) ≡ false
        → (i : ℕ) → i < size_of P q → move_enabled (translation P) script st (first_of_part P h + i) ≡ false
    rests_at h c a d i less = let n = at_number h i less in n.can ∙ turns.rests h (sym (seen h).asked ∙ a) (sym (seen h).answered ∙ d) n.spot

    low_at : {q : Process} (h : PartOf q P.body) → ReadsNoTarget q → high st.values (request_of_part P h) ≡ false → high st.values (answer_of_part P h) ≡ false
        → (i : ℕ) → i < size_of P q → high st.values (first_of_part P h + i) ≡ false
    low_at {q = q} h c a d i less =
        (here h).stands.at i (let e = length-bits P q c (cells_in h r.cells) in omega (arith, e, less))
        ∙ (ap (λ y. get_or (bits P q y) i false) (turns.low_at_rest h (sym (seen h).asked ∙ a) (sym (seen h).answered ∙ d))
        ∙ (ap (λ l. get_or l i false) (low_bits P q c) ∙ all_low_at (size_of P q) i))

    one_at : {q s : Process} (h : PartOf q P.body) (k : PartOf s P.body) → ReadsNoTarget q → ReadsNoTarget s → InTurns h k
        → ((high st.values (request_of_part P h) ≡ false) × (high st.values (answer_of_part P h) ≡ false))
        ⊎ ((high st.values (request_of_part P k) ≡ false) × (high st.values (answer_of_part P k) ≡ false))
    one_at h k c d i = by (turns.one_rests h k i)
      where
        by : ((asked_in h r.cells ≡ false) × (answers_in h r.cells ≡ false)) ⊎ ((asked_in k r.cells ≡ false) × (answers_in k r.cells ≡ false))
            → ((high st.values (request_of_part P h) ≡ false) × (high st.values (answer_of_part P h) ≡ false))
            ⊎ ((high st.values (request_of_part P k) ≡ false) × (high st.values (answer_of_part P k) ≡ false))
        by (inl z) = inl ((seen h).asked ∙ z.0, (seen h).answered ∙ z.1)
        by (inr z) = inr ((seen k).asked ∙ z.0, (seen k).answered ∙ z.1)

    module _ (n : ℕ) (on : move_enabled (translation P) script st n ≡ true) where
      abbrev move : Moving P given script fits st moves r n
      move = moving P given script fits st moves r n on

      abbrev next : RunState
      next = moved (translation P) st n

      abbrev shown : Shows P given (moved (translation P) st n) (cells_moved P r.cells (moving P given script fits st moves r n on).node)
      shown = next_shows P given script fits st moves r n (moving P given script fits st moves r n on)

      there : {q : Process} (h : PartOf q P.body) → StandsAt P (high (moved (translation P) st n).values) q (request_of_part P h) (first_of_part P h)
          (asked_in h (cells_moved P r.cells move.node)) (cells_in h (cells_moved P r.cells move.node))
      there h =
          let x = cells_moved P r.cells move.node in
          part_stands P (high (moved (translation P) st n).values) h given.covered given.typed (root_request P) (body_from P) x.root.child x.root.inner
          shown.child shown.body

      then : {q : Process} (h : PartOf q P.body)
          → Seen (moved (translation P) st n) h (asked_in h (cells_moved P r.cells move.node)) (answers_in h (cells_moved P r.cells move.node))
      then {q = q} h = record {
        asked = (there h).asked;
        answered = answer_is P (high (moved (translation P) st n).values) q (part_free P h given.covered) (part_typed P h given.typed) (first_of_part P h)
            (cells_in h (cells_moved P r.cells move.node)) (there h).stands;
      }

      asks_at : {q : Process} (h : PartOf q P.body)
          → Phased (high (moved (translation P) st n).values (request_of_part P h)) (high st.values (request_of_part P h)) (high st.values (answer_of_part P h))
      asks_at h = by (turns.asks h move.node move.may)
        where
          by : Phased (asked_in h (cells_moved P r.cells move.node)) (asked_in h r.cells) (answers_in h r.cells)
              → Phased (high (moved (translation P) st n).values (request_of_part P h)) (high st.values (request_of_part P h))
              (high st.values (answer_of_part P h))
          by (inl e) = inl ((then h).asked ∙ (e ∙ sym (seen h).asked))
          by (inr e) = inr ((then h).asked ∙ (e ∙ ap not (sym (seen h).answered)))

      ends_at : {q : Process} (h : PartOf q P.body)
          → (high (moved (translation P) st n).values (answer_of_part P h) ≡ high st.values (answer_of_part P h))
          ⊎ (high (moved (translation P) st n).values (answer_of_part P h) ≡ high st.values (request_of_part P h))
      ends_at h = by (turns.ends h move.node move.may)
        where
          by : (answers_in h (cells_moved P r.cells move.node) ≡ answers_in h r.cells) ⊎ (answers_in h (cells_moved P r.cells move.node) ≡ asked_in h r.cells)
              → (high (moved (translation P) st n).values (answer_of_part P h) ≡ high st.values (answer_of_part P h))
              ⊎ (high (moved (translation P) st n).values (answer_of_part P h) ≡ high st.values (request_of_part P h))
          by (inl e) = inl ((then h).answered ∙ (e ∙ sym (seen h).answered))
          by (inr e) = inr ((then h).answered ∙ (e ∙ sym (seen h).asked))

    pub in_turns : PartsInTurns P script st
    in_turns = record {
      still = still_at;
      low_at_rest = low_at;
      rests = rests_at;
      one_rests = one_at;
      asks = λ h c n on. asks_at n on h;
      ends = λ h c n on. ends_at n on h;
    }

pub plain_parts : CircuitsTakeTurns → (P : TypedProgram) → IsPlain P → PartsTakeTurns P
plain_parts law P is script fits ns run =
    let given : Given P = record { typed = is.sized.body_is; covered = is.plain; some = sized_bits P.vars is.sized.each_var } in
    let r = arrived P given script fits ns run in
    in_turns P given script fits (after (translation P) (begin_at (translation P) (translation P).first) ns) (length ns) r
    (law P is script fits (length ns) r.cells r.reaches)
