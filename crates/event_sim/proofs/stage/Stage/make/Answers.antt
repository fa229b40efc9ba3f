use Rattle.std.proofs.Common.{◌≡◌, ◌∙◌, ◌++◌, refl, sym, ap, subst, length, true, Bool, List, ℕ, map}
use Rattle.std.specs.Prelude.{Option, option_to_list}
use Rattle.std.proofs.lemmas.List.{length-set}
use Rattle.std.proofs.lemmas.List.FromFn.{length-map-range_with_len}
use Rattle.std.specs.List.{find}
use Rattle.prs_core.specs.Nets.{NetValue}
use Rattle.prs_core.specs.Fans.{readers_below}
use Rattle.prs_core.specs.Moves.{high, both_ways, fired}
use Rattle.guard_rows.specs.Places.{AreRows}
use Rattle.env_script.specs.Runs.{RunState, move_enabled, histories_after}
use Rattle.env_script.specs.Hazards.{least_below}
use Rattle.event_sim.specs.Passing.{channel_histories, values_through}
use Rattle.event_sim.specs.Locality.{IsCountedMove, IsRelisted}
use Rattle.event_sim.specs.Stages.{StageValue, now_of}
use Rattle.event_sim.proofs.Passed.{completion_within}
use Rattle.event_sim.proofs.Histories.{counts_themselves, counts_whole, passed_within, histories_more}
use Rattle.event_sim.proofs.Staged.{passing_same, move_is, lost_is, hazard_is}
use Rattle.event_sim.proofs.stage.Stage.make.Goals as goal

pub note-requires-clause-counts : goal.note-requires-clause-counts
note-requires-clause-counts c =
    counts_themselves (length c.self.inside.indexed.net.channels) c.self.inside.passed.items c.self.inside.done.items c.self.invariant.counts_are

pub note-requires-clause-chan : goal.note-requires-clause-chan
note-requires-clause-chan c =
    let s = c.self.inside in
    completion_within s.indexed.net (high s.state) c.args.node c.completion-completed.result (length s.done.items) c.completion-completed.ensures.completion
    (counts_whole (length s.indexed.net.channels) s.passed.items s.done.items c.self.invariant.counts_are)

pub relist-found-requires-clause-done : goal.relist-found-requires-clause-done
relist-found-requires-clause-done c =
    let s = c.self.inside in
    ap length c.deref.ensures.value ∙ counts_whole (length s.done.items) c.note.new.passed.items c.note.new.done.items c.note.ensures.counts
    ∙ counts_whole (length s.indexed.net.channels) s.passed.items s.done.items c.self.invariant.counts_are

pub turn-requires-clause-rows : goal.turn-requires-clause-rows
turn-requires-clause-rows c =
    let s = c.self.inside in
    subst (λ (net : NetValue). AreRows net s.state s.rows) (sym c.net.ensures.net) c.self.invariant.rows_are

pub relist-found-requires-clause-rows : goal.relist-found-requires-clause-rows
relist-found-requires-clause-rows c =
    let s = c.self.inside in
    subst (λ (vs : List Bool). AreRows s.indexed.net vs c.turn.new.self) (sym c.fire.ensures)
    (subst (λ (net : NetValue). AreRows net (fired s.state c.args.node) c.turn.new.self) c.net.ensures.net c.turn.ensures)

pub invariant_of-self : goal.invariant_of-self
invariant_of-self c =
    let s = c.self.inside in
    let x = s.indexed in
    let n = c.args.node in
    let channels = length x.net.channels in
    let whole : length s.done.items ≡ channels = counts_whole channels s.passed.items s.done.items c.self.invariant.counts_are in
    let counts : c.note.new.done.items ≡ map (λ (h : List ℕ). length h) (channel_histories channels c.note.new.passed.items) =
    rw whole at c.note.ensures.counts in
    let st : RunState = record { values = s.state; histories = channel_histories channels s.passed.items } in
    let later : channel_histories channels c.note.new.passed.items ≡ histories_after x.net st n =
    ap (channel_histories channels) (c.note.ensures.passed
    ∙ ap (λ (o : Option (ℕ × ℕ)). s.passed.items ++ option_to_list o) c.completion-completed.ensures.completion)
    ∙ histories_more x.net c.completion-completed.ensures.net s.state s.passed.items n in
    let enabled : move_enabled x.net x.script st n ≡ true =
    subst (λ (v : StageValue). move_enabled v.net v.script (now_of v) n ≡ true) (sym c.self.view_is) c.requires.enabled in
    let move = move_is x st n s.done.items c.deref.result.now s.moves c.self.invariant.counts_are
    (c.deref.ensures.value ∙ counts ∙ ap (map (λ (h : List ℕ). length h)) later)
    (length-map-range_with_len (λ k. values_through k s.passed.items) 0 channels)
    c.self.invariant.values c.self.invariant.moves_are enabled in
    let relisted = c.relist-found.ensures.relisted s.done.items s.state
    (subst (λ (vs : List Bool). IsCountedMove x n s.done.items c.deref.result.now s.state vs s.moves) (sym c.fire.ensures) move) in
    let now : RunState = record { values = c.fire.new.state; histories = channel_histories channels c.note.new.passed.items } in
    let pulled : c.pulled_behind-self-inside.result ≡ least_below (length x.net.first) (both_ways x.net (high c.fire.new.state)) =
    subst (λ (net : NetValue). c.pulled_behind-self-inside.result ≡ least_below (length net.first) (both_ways net (high c.fire.new.state)))
    c.net-2.ensures.net
    (c.pulled_behind-self-inside.ensures s.state n c.fire.ensures
    (subst (λ (net : NetValue). s.pulled ≡ least_below (length net.first) (both_ways net (high s.state))) (sym c.net-2.ensures.net) c.self.invariant.pulled_is)
    (subst (λ (net : NetValue). c.relist-found.result.pulled ≡ find (both_ways net (high c.fire.new.state)) (readers_below net (length net.first) n))
    (sym c.net-2.ensures.net) c.relist-found.ensures.pulled)) in
    record {
      net = c.self.invariant.net;
      script = c.self.invariant.script;
      values = ap length c.fire.ensures ∙ length-set s.state n _ ∙ c.self.invariant.values;
      counts_are = counts;
      passed = passed_within channels s.passed.items c.note.new.passed.items c.completion-completed.result c.self.invariant.passed
          (completion_within x.net (high s.state) n c.completion-completed.result channels c.completion-completed.ensures.completion refl)
          c.note.ensures.passed;
      rows_are = subst (λ (vs : List Bool). AreRows x.net vs c.turn.new.self) (sym c.fire.ensures)
          (subst (λ (net : NetValue). AreRows net (fired s.state n) c.turn.new.self) c.net.ensures.net c.turn.ensures);
      moves_are = passing_same x.net x.script now c.deref.result.now c.relist-found.new.moves (c.deref.ensures.value ∙ counts) relisted.set_is;
      pulled_is = pulled;
    }

pub returns-clause-moved : goal.returns-clause-moved
returns-clause-moved c =
    let s = c.self.inside in
    let histories = histories_more s.indexed.net c.completion-completed.ensures.net s.state s.passed.items c.args.node in
    rw (← c.self.view_is, c.fire.ensures, c.note.ensures.passed, c.completion-completed.ensures.completion)
    (ap (λ (hs : List (List ℕ)). record { values = fired s.state c.args.node; histories = hs }) histories)

pub returns-clause-hazard : goal.returns-clause-hazard
returns-clause-hazard c =
    let s = c.self.inside in
    let x = s.indexed in
    let n = c.args.node in
    let channels = length x.net.channels in
    let whole : length s.done.items ≡ channels = counts_whole channels s.passed.items s.done.items c.self.invariant.counts_are in
    let counts : c.note.new.done.items ≡ map (λ (h : List ℕ). length h) (channel_histories channels c.note.new.passed.items) =
    rw whole at c.note.ensures.counts in
    let st : RunState = record { values = s.state; histories = channel_histories channels s.passed.items } in
    let later : channel_histories channels c.note.new.passed.items ≡ histories_after x.net st n =
    ap (channel_histories channels) (c.note.ensures.passed
    ∙ ap (λ (o : Option (ℕ × ℕ)). s.passed.items ++ option_to_list o) c.completion-completed.ensures.completion)
    ∙ histories_more x.net c.completion-completed.ensures.net s.state s.passed.items n in
    let enabled : move_enabled x.net x.script st n ≡ true =
    subst (λ (v : StageValue). move_enabled v.net v.script (now_of v) n ≡ true) (sym c.self.view_is) c.requires.enabled in
    let counted_then : c.deref.result.now ≡ map (λ (h : List ℕ). length h) (histories_after x.net st n) =
    c.deref.ensures.value ∙ counts ∙ ap (map (λ (h : List ℕ). length h)) later in
    let move = move_is x st n s.done.items c.deref.result.now s.moves c.self.invariant.counts_are counted_then
    (length-map-range_with_len (λ k. values_through k s.passed.items) 0 channels) c.self.invariant.values c.self.invariant.moves_are enabled in
    let relisted = c.relist-found.ensures.relisted s.done.items s.state
    (subst (λ (vs : List Bool). IsCountedMove x n s.done.items c.deref.result.now s.state vs s.moves) (sym c.fire.ensures) move) in
    let there : IsRelisted x n s.done.items c.deref.result.now s.state (fired s.state n) c.relist-found.new.moves c.relist-found.result.lost =
    subst (λ (vs : List Bool). IsRelisted x n s.done.items c.deref.result.now s.state vs c.relist-found.new.moves c.relist-found.result.lost)
    c.fire.ensures relisted in
    let pulled : c.pulled_behind-self-inside.result ≡ least_below (length x.net.first) (both_ways x.net (high (fired s.state n))) =
    subst (λ (net : NetValue). c.pulled_behind-self-inside.result ≡ least_below (length net.first) (both_ways net (high c.fire.new.state)))
    c.net-2.ensures.net
    (c.pulled_behind-self-inside.ensures s.state n c.fire.ensures
    (subst (λ (net : NetValue). s.pulled ≡ least_below (length net.first) (both_ways net (high s.state))) (sym c.net-2.ensures.net) c.self.invariant.pulled_is)
    (subst (λ (net : NetValue). c.relist-found.result.pulled ≡ find (both_ways net (high c.fire.new.state)) (readers_below net (length net.first) n))
    (sym c.net-2.ensures.net) c.relist-found.ensures.pulled))
    ∙ ap (λ (vs : List Bool). least_below (length x.net.first) (both_ways x.net (high vs))) c.fire.ensures in
    rw (← c.self.view_is) (c.worst_cause.ensures ∙ hazard_is x.net x.script st n c.pulled_behind-self-inside.result c.relist-found.result.lost
    c.broken_phases-broken.result pulled
    (there.lost_is ∙ lost_is x st n s.done.items c.deref.result.now c.self.invariant.counts_are counted_then) c.broken_phases-broken.ensures)
