use Rattle.std.proofs.Common.{◌≡◌, ◌+◌, [], ◌∷◌, ◌++◌, refl, sym, ap, subst, ◌∙◌}
use Rattle.width_check.specs.Processes.{TypedProgram}
use Rattle.width_check.specs.Typed.{program_of}
use Rattle.width_check.specs.View.{process_of}
use Rattle.handshake_expand.specs.Layout.{capped}
use Rattle.round_time.specs.Longest.{first, low, longest}
use Rattle.round_time.specs.Ways.{started, ended, step_of, way, first_step, last_step, to_begin, to_end, ways_within, longest_way}
use Rattle.round_time.proofs.WaysLengths.{longest_is}
use Rattle.pace_bound.specs.declared.ways.Way.{Way}
use Rattle.pace_bound.specs.Whereabouts.{IsWay, IsLongestOf}
use Rattle.pace_bound.proofs.WaysJoined.{single, joined, whole}
use Rattle.pace_bound.proofs.ways.longest_way.Goals as goal

is_longest : (P : TypedProgram) (found : Way) → IsWay (longest_way P) found → found.length ≡ capped (longest P)
is_longest P found h = h.long ∙ ap capped (sym (longest_is P))

pub returns : goal.returns
returns c =
    let P = program_of c.args.program.now in
    let body = c.body-body.ensures.body in
    let begun = c.to_first-begun.result in
    let inner = c.longest_within-inner.result in
    let last = c.from_last.result in
    let to = subst (λ b. IsWay (way started (step_of (first_step P (process_of b))) (2 + first P (process_of b))) begun) body
    (c.to_first-begun.ensures 2 refl) in
    let own = subst (λ b. IsLongestOf begun inner (ways_within P (process_of b))) body c.longest_within-inner.ensures in
    let from = subst (λ b. IsWay (way (step_of (last_step P 2 (process_of b))) ended (low P 2 (process_of b) + 2)) last) body (c.from_last.ensures 2 refl) in
    let found = whole (to_begin P) begun c.longer.result (ways_within P P.body ++ to_end P ∷ []) to
    (joined begun inner c.longer.result (ways_within P P.body) (to_end P ∷ []) own (single inner last c.longer.result (to_end P) c.longer.ensures from)) in
    record { way = found; longest = is_longest P c.longer.result found }
