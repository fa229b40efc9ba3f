use Rattle.std.proofs.Common.{◌≡◌, ap, ◌∙◌, length, map}
use Rattle.std.specs.List.{range_with_len}
use Rattle.prs_core.specs.Moves.{high}
use Rattle.env_script.specs.Phases.{phase_fault}
use Rattle.env_script.specs.Runs.{moved, move_enabled}
use Rattle.plain_runs.specs.Running.{RunValue}
use Rattle.plain_runs.proofs.Least.{hazard_is, counts_fit}
use Rattle.plain_runs.proofs.run.Run.make.Goals as goal

pub hazard-requires-clause-before : goal.hazard-requires-clause-before
hazard-requires-clause-before c =
    let old = c.args.self.now in
    let now : RunValue = record old { now = moved old.net old.now c.args.node } in
    let same : c.self-2.inside.net ≡ old.net = ap (λ (r : RunValue). r.net) (c.self-2.view_is ∙ c.in_ok-pass.ensures) in
    ap length c.deref.ensures.value ∙ counts_fit old c.self-2.inside.net c.in_ok-before.before.items c.in_ok-before.before.items same c.in_ok-before.ensures

pub returns-clause-hazard : goal.returns-clause-hazard
returns-clause-hazard c =
    let old = c.args.self.now in
    let n = c.args.node in
    let now : RunValue = record old { now = moved old.net old.now n } in
    let there = c.self-2.view_is ∙ c.in_ok-pass.ensures in
    let same_net : c.self-2.inside.net ≡ old.net = ap (λ (r : RunValue). r.net) there in
    let same_state : c.self-2.inside.state ≡ (moved old.net old.now n).values = ap (λ (r : RunValue). r.now.values) there in
    let keeps : c.keeps_phases-broken.result ≡ phase_fault old.net (high old.now.values) n =
    c.keeps_phases-broken.ensures ∙ ap (λ (r : RunValue). phase_fault r.net (high r.now.values) n) c.self.view_is in
    let after : c.in_ok-after.after.items ≡ map (move_enabled old.net old.script (moved old.net old.now n)) (range_with_len 0 (length old.net.first)) =
    c.in_ok-after.ensures ∙ ap (λ (r : RunValue). map (move_enabled r.net r.script r.now) (range_with_len 0 (length r.net.first))) c.in_ok-pass.ensures in
    let base = hazard_is old c.self-2.inside.net c.self-2.inside.state n c.in_ok-before.before.items c.in_ok-after.after.items c.keeps_phases-broken.result
    same_net same_state c.in_ok-before.ensures after keeps in
    c.hazard.ensures ∙ rw (c.deref.ensures.value, c.deref-2.ensures.value) base
