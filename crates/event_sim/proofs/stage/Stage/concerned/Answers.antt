use Rattle.std.proofs.Common.{◌≡◌, ◌<◌, ◌-◌, ◌∙◌, ◌++◌, ◌∷◌, [], ℕ, List, All, false, length, get_or, sym, ap, subst, vec_capacity, arith}
use Rattle.std.specs.Prelude.{◌==◌}
use Rattle.prs_core.specs.declared.wires.Wires.{Wires}
use Rattle.prs_core.specs.Nets.{NetValue}
use Rattle.env_script.specs.Environment.{is_reset}
use Rattle.guard_rows.specs.Places.{readers_in}
use Rattle.event_sim.specs.Stages.{StageValue, stage_with, now_of, AreConcerned}
use Rattle.event_sim.proofs.Following.{enabled_below}
use Rattle.event_sim.proofs.Behind.{near_alone, near_wires}
use Rattle.event_sim.proofs.Concerning.{concerned_alone, concerned_wires, concerned_all}
use Rattle.event_sim.proofs.Staged.{listed_same}
use Rattle.event_sim.proofs.Tested.{readers_within}
use Rattle.event_sim.proofs.stage.Stage.concerned.Goals as goal

pub edges-readers-requires : goal.edges-readers-requires
edges-readers-requires c =
    let whole = ap (λ (v : StageValue). length v.net.first) c.self.view_is in
    omega (arith, whole, c.requires, c.self.invariant.rows_are.edges)

pub returns-then-is_reset-clause-concerned : goal.returns-then-is_reset-clause-concerned
returns-then-is_reset-clause-concerned c =
    let s = c.self.inside in
    let n = c.args.node in
    let v : StageValue = stage_with s.indexed.net s.indexed.script s.state s.passed.items (vec_capacity s.passed - length s.passed.items) in
    subst (λ (w : StageValue). AreConcerned w n ([] ++ c.nodes.result.now ++ n ∷ n ∷ n ∷ [])) c.self.view_is
    (subst (λ (xs : List ℕ). AreConcerned v n ([] ++ xs ++ n ∷ n ∷ n ∷ []))
    (sym (c.nodes.ensures ∙ listed_same s.indexed.net s.indexed.script _ s.moves c.self.invariant.moves_are)) (concerned_all v n []))

pub returns-then-is_reset-clause-rails : goal.returns-then-is_reset-clause-rails
returns-then-is_reset-clause-rails c =
    let s = c.self.inside in
    let v : StageValue = stage_with s.indexed.net s.indexed.script s.state s.passed.items (vec_capacity s.passed - length s.passed.items) in
    subst (λ (w : StageValue). All (λ n. n < length w.net.first) c.nodes.result.now) c.self.view_is
    (subst (λ (xs : List ℕ). All (λ n. n < length v.net.first) xs)
    (sym (c.nodes.ensures ∙ listed_same s.indexed.net s.indexed.script _ s.moves c.self.invariant.moves_are))
    (enabled_below v.net v.script (now_of v)))

pub returns-in-None-clause-concerned : goal.returns-in-None-clause-concerned
returns-in-None-clause-concerned c =
    let s = c.self.inside in
    let x = s.indexed in
    let n = c.args.node in
    let readers = readers_in c.edges-readers.result.now in
    let reset = c.reset_or-reset.result in
    let other : is_reset x.net.reset n ≡ false =
    ap (λ (net : NetValue). is_reset net.reset n) (sym c.net-net.ensures.net) ∙ sym c.is_reset.ensures ∙ c.if-is_reset.false in
    let last : (m : ℕ) → (reset == m) ≡ false → is_reset x.net.reset m ≡ false =
    λ m e. ap (λ (net : NetValue). is_reset net.reset m) (sym c.net-net.ensures.net) ∙ c.reset_or-reset.ensures.other m e in
    subst (λ (w : StageValue). AreConcerned w n (readers ++ [] ++ n ∷ n ∷ reset ∷ [])) c.self.view_is
    (concerned_alone x s.state s.passed.items (vec_capacity s.passed - length s.passed.items) n reset readers []
    (near_alone x n readers (c.edges-readers.ensures x.net s.state c.self.invariant.rows_are) c.in-None.ensures) other last)

pub returns-in-None-clause-readers : goal.returns-in-None-clause-readers
returns-in-None-clause-readers c =
    let net = c.self.inside.indexed.net in
    let readers = readers_in c.edges-readers.result.now in
    subst (λ (w : StageValue). All (λ n. n < length w.net.first) readers) c.self.view_is
    (readers_within net c.args.node readers (c.edges-readers.ensures net c.self.inside.state c.self.invariant.rows_are))

pub returns-in-Some-clause-concerned : goal.returns-in-Some-clause-concerned
returns-in-Some-clause-concerned c =
    let s = c.self.inside in
    let x = s.indexed in
    let n = c.args.node in
    let k = c.in-Some.chan in
    let w = c.index-channels-chan.result in
    let readers = readers_in c.edges-readers.result.now in
    let reset = c.reset_or-reset.result in
    let other : is_reset x.net.reset n ≡ false =
    ap (λ (net : NetValue). is_reset net.reset n) (sym c.net-net.ensures.net) ∙ sym c.is_reset.ensures ∙ c.if-is_reset.false in
    let last : (m : ℕ) → (reset == m) ≡ false → is_reset x.net.reset m ≡ false =
    λ m e. ap (λ (net : NetValue). is_reset net.reset m) (sym c.net-net.ensures.net) ∙ c.reset_or-reset.ensures.other m e in
    let all : c.channels.result.now ≡ x.net.channels = c.channels.ensures.channels ∙ ap (λ (net : NetValue). net.channels) c.net-net.ensures.net in
    let here : w ≡ get_or x.net.channels k w = c.index-channels-chan.is ∙ ap (λ (ws : List Wires). get_or ws k w) all in
    subst (λ (v : StageValue). AreConcerned v n (readers ++ c.nodes-in-Some.result.now ++ n ∷ w.ack ∷ reset ∷ [])) c.self.view_is
    (subst (λ (rails : List ℕ). AreConcerned (stage_with x.net x.script s.state s.passed.items (vec_capacity s.passed - length s.passed.items)) n
    (readers ++ rails ++ n ∷ w.ack ∷ reset ∷ [])) (sym c.nodes-in-Some.ensures)
    (concerned_wires x s.state s.passed.items (vec_capacity s.passed - length s.passed.items) n w.ack reset readers w.rails
    (near_wires x n k w readers (c.edges-readers.ensures x.net s.state c.self.invariant.rows_are) c.in-Some.ensures here) other last))

pub returns-in-Some-clause-readers : goal.returns-in-Some-clause-readers
returns-in-Some-clause-readers c =
    let net = c.self.inside.indexed.net in
    let readers = readers_in c.edges-readers.result.now in
    subst (λ (w : StageValue). All (λ n. n < length w.net.first) readers) c.self.view_is
    (readers_within net c.args.node readers (c.edges-readers.ensures net c.self.inside.state c.self.invariant.rows_are))
