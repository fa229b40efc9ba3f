-- The net of each program carries it: that of the program in halves passes what that does, so what the program does;
-- and it is the program's own net with its nodes numbered otherwise.
use Rattle.std.proofs.Common.{◌≡◌, ℕ, zero, suc, ◌*◌, ◌<◌, ◌≤◌, false, List, [], ◌∷◌, map, length, Some, refl, sym, ap, ◌∙◌, subst, arith}
use Rattle.std.specs.Prelude.{All}
use Rattle.std.proofs.lemmas.List.Elements.{All-head, All-tail}
use Rattle.chp_base.specs.declared.channel.Channel.{Channel}
use Rattle.prs_core.specs.declared.wires.Wires.{Wires}
use Rattle.env_script.specs.Scripts.{OfferValue}
use Rattle.width_check.specs.declared.typed.Var.{Var}
use Rattle.width_check.specs.Processes.{TypedProgram}
use Rattle.width_check.specs.Typing.{var_width, IsDeclaredVar, IsTyped}
use Rattle.width_check.specs.Sharing.{MeetsSharing}
use Rattle.handshake_expand.specs.Layout.{root_request, nodes_of}
use Rattle.handshake_expand.specs.Named.{node_names}
use Rattle.function_blocks.proofs.Sizes.{result_length, rules_length}
use Rattle.cell_parallel.specs.Sizes.{tree_length}
use Rattle.chp_meaning.specs.Terms.{Place}
use Rattle.chp_meaning.specs.Steps.{Configuration, Step, Leads}
use Rattle.chp_meaning.specs.Rounds.{step_at}
use Rattle.chp_meaning.specs.Laws.{IsBehind, OneHistory, RoundsHold}
use Rattle.chp_meaning.specs.Halves.{halved_program, IsSizedVar, ReadsNoTarget, HalvesFollow, HalvesArePlain}
use Rattle.chp_meaning.proofs.HalvedTyping.{typed_sized}
use Rattle.circuit_places.specs.Carried.{CircuitsCarry}
use Rattle.net_compose.specs.Translation.{translation, composed, first_values, wires_from}
use Rattle.circuit_places.specs.Bounds.{circuit_most}
use Rattle.net_compose.specs.Carries.{Carries}
use Rattle.env_script.specs.Runs.{RunState, move_enabled}
use Rattle.net_compose.proofs.Renamed.{past_here}
use Rattle.net_compose.proofs.CircuitSizes.{two_each}
use Rattle.net_compose.proofs.Sizes.{Counted, first_length}
use Rattle.net_compose.proofs.Passing.{Passes, IsPaid, halves_pass, renamed_passes, renamed_paid, passes_carry}
use Rattle.net_compose.proofs.PlainPasses.{plain_passes, plain_paid}
use Rattle.net_compose.proofs.FlatNet.{Given}
use Rattle.net_compose.proofs.HalvedNet.{renamed}
use Rattle.net_compose.proofs.HalvedRenamed.{net_there, translation_there, is_renaming}

-- each variable has a bit
pub declared_bits : (vs : List Var) → All IsDeclaredVar vs → (y : ℕ) → y < length vs → 1 ≤ var_width vs y
declared_bits [] each y h = absurd (omega (arith, h))
declared_bits (v ∷ vs) each zero h = (All-head IsDeclaredVar v vs each).some
declared_bits (v ∷ vs) each (suc y) h = declared_bits vs (All-tail IsDeclaredVar v vs each) y (omega (arith, h))

pub sized_bits : (vs : List Var) → All IsSizedVar vs → (y : ℕ) → y < length vs → 1 ≤ var_width vs y
sized_bits [] each y h = absurd (omega (arith, h))
sized_bits (v ∷ vs) each zero h = (All-head IsSizedVar v vs each).some
sized_bits (v ∷ vs) each (suc y) h = sized_bits vs (All-tail IsSizedVar v vs each) y (omega (arith, h))

same_channels : (P : TypedProgram) (k : ℕ) (cs : List Channel) → map (λ (w : Wires). w.channel) (wires_from P k cs) ≡ cs
same_channels P k [] = refl
same_channels P k (c ∷ cs) = ap (λ l. c ∷ l) (same_channels P (suc k) cs)

pub counted : Counted
counted = record { bits = result_length; rules = rules_length; tree = tree_length }

-- what is assumed here are laws of steps and rounds, of programs in halves, and that of circuits as trees of cells
pub translation_carries : ((c d : Configuration) (at : Place) → step_at c at ≡ Some d → Step c at d) →
    ((c d : Configuration) (n : ℕ) → Leads c n d → IsBehind c d)
    → ((p : TypedProgram) (script : List OfferValue) → MeetsSharing p.body → OneHistory p script)
    → ((p : TypedProgram) (script : List OfferValue) → MeetsSharing p.body → RoundsHold p script)
    → HalvesFollow → HalvesArePlain → CircuitsCarry
    → (P : TypedProgram) → IsTyped P.channels P.vars P.body → MeetsSharing P.body → Carries (translation P) P
translation_carries steps_taken append one hold follow halves circuits P typed meets =
    let Q = halved_program P in
    let h = halves P typed meets in
    let plainly = h.plain in
    let passes = plain_passes circuits Q (record { typed = h.sized.body_is; covered = plainly; some = sized_bits Q.vars h.sized.each_var }) h in
    let some = declared_bits P.vars typed.each_var in
    let renaming = is_renaming counted P typed.body_is h.plain some plainly h.sized.body_is in
    let numbered : Passes (net_there counted P typed.body_is h.plain some plainly) Q = subst (λ net. Passes net Q)
    (translation_there counted P typed.body_is h.plain some plainly) passes in
    let mine : Passes (translation P) Q = renamed_passes (node_names P) (node_names Q) (first_values P) (first_values Q) (composed P) (composed Q)
    (wires_from P 0 P.channels) (renamed counted P typed.body_is h.plain some) (nodes_of P) (root_request P) renaming (omega arith) Q numbered in
    passes_carry steps_taken append one hold (translation P) P meets (same_channels P 0 P.channels) (halves_pass follow (translation P) P typed meets mine)

pub scaled : (b c n : ℕ) → b ≤ c → b * n ≤ c * n
scaled b c zero h = omega arith
scaled b c (suc n) h = let e = scaled b c n h in omega (arith, e, h)

-- between two steps of the program in halves each node moves twice at most
pub translation_paid : HalvesArePlain → CircuitsCarry → (P : TypedProgram) → IsTyped P.channels P.vars P.body → MeetsSharing P.body
    → IsPaid (translation P) (halved_program P) (2 * nodes_of P)
translation_paid halves circuits P typed meets script fits moves run =
    let Q = halved_program P in
    let h = halves P typed meets in
    let plainly = h.plain in
    let paid = plain_paid circuits Q (record { typed = h.sized.body_is; covered = plainly; some = sized_bits Q.vars h.sized.each_var }) h in
    let some = declared_bits P.vars typed.each_var in
    let renaming = is_renaming counted P typed.body_is h.plain some plainly h.sized.body_is in
    let numbered : IsPaid (net_there counted P typed.body_is h.plain some plainly) Q (circuit_most Q) = subst (λ net. IsPaid net Q (circuit_most Q))
    (translation_there counted P typed.body_is h.plain some plainly) paid in
    let r = renamed_paid (node_names P) (node_names Q) (first_values P) (first_values Q) (composed P) (composed Q)
    (wires_from P 0 P.channels) (renamed counted P typed.body_is h.plain some) (nodes_of P) (root_request P) renaming Q (circuit_most Q) numbered script fits
    moves run in
    let as_many : nodes_of Q ≡ nodes_of P = sym (first_length Q) ∙ renaming.long_there in
    let two = two_each Q in
    let each : circuit_most Q * suc r.0 ≤ 2 * nodes_of P * suc r.0 = scaled (circuit_most Q) (2 * nodes_of P) (suc r.0) (omega (arith, two, as_many)) in
    let long = r.4 in
    (r.0, r.1, r.2, r.3, omega (arith, long, each))

-- and beyond the last node nothing moves
pub translation_past : HalvesArePlain → (P : TypedProgram) → IsTyped P.channels P.vars P.body → MeetsSharing P.body → (script : List OfferValue) (st : RunState)
    (n : ℕ) → nodes_of P ≤ n → move_enabled (translation P) script st n ≡ false
translation_past halves P typed meets script st n far =
    let Q = halved_program P in
    let h = halves P typed meets in
    let plainly = h.plain in
    let some = declared_bits P.vars typed.each_var in
    let renaming = is_renaming counted P typed.body_is h.plain some plainly h.sized.body_is in
    past_here (node_names P) (node_names Q) (first_values P) (first_values Q) (composed P) (composed Q)
    (wires_from P 0 P.channels) (renamed counted P typed.body_is h.plain some) (nodes_of P) (root_request P) renaming script st n far

-- of a program no assignment of which reads its own target, the same counts its own steps
pub plainly_paid : CircuitsCarry → (P : TypedProgram) → IsTyped P.channels P.vars P.body → MeetsSharing P.body → ReadsNoTarget P.body
    → IsPaid (translation P) P (2 * nodes_of P)
plainly_paid circuits P typed meets plain script fits moves run =
    let sized = typed_sized P.channels P.vars P.body typed in
    let given : Given P = record { typed = typed.body_is; covered = plain; some = declared_bits P.vars typed.each_var } in
    let r = plain_paid circuits P given (record { sized = sized; unshared = meets; plain = plain }) script fits moves run in
    let two = two_each P in
    let each : circuit_most P * suc r.0 ≤ 2 * nodes_of P * suc r.0 = scaled (circuit_most P) (2 * nodes_of P) (suc r.0) two in
    let long = r.4 in
    (r.0, r.1, r.2, r.3, omega (arith, long, each))
