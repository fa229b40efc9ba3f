use Rattle.std.proofs.Common.{◌≡◌, ◌<◌, ◌-◌, ◌^◌, ◌∙◌, sym, ap, subst, true, false, length, get_or, vec_capacity, ℕ, List, arith}
use Rattle.std.specs.Prelude.{IfSome, Option}
use Rattle.prs_core.specs.Moves.{high}
use Rattle.env_script.specs.Scripts.{IsScript}
use Rattle.env_script.specs.Environment.{net_channels, in_reset}
use Rattle.env_script.specs.Runs.{RunState, completed}
use Rattle.event_sim.specs.Locality.{IndexedValue}
use Rattle.event_sim.specs.Passing.{channel_histories}
use Rattle.event_sim.specs.Standings.{is_idle, script_and, IsRetestedOn}
use Rattle.guard_rows.specs.Places.{AreRows}
use Rattle.event_sim.specs.Stages.{StageValue, stage_with, now_of, IsKeptBeside}
use Rattle.event_sim.proofs.Histories.{counts_whole, count_few}
use Rattle.event_sim.proofs.Staged.{counts_are}
use Rattle.event_sim.proofs.Added.{idle_number, passing_added}
use Rattle.event_sim.proofs.stage.Stage.add.Goals as goal

pub add-requires-clause-few : goal.add-requires-clause-few
add-requires-clause-few c =
    let s = c.self.inside in
    let net = s.indexed.net in
    let k = c.args.chan in
    let hs = channel_histories (length net.channels) s.passed.items in
    let st : RunState = record { values = s.state; histories = hs } in
    let idle : is_idle net s.indexed.script st k ≡ true =
    subst (λ (v : StageValue). is_idle v.net v.script (now_of v) k ≡ true) (sym c.self.view_is) c.requires.idle in
    let within : k < length net.channels = omega (arith, c.requires.chan, ap (λ (v : StageValue). length v.net.channels) c.self.view_is) in
    let counted = idle_number net s.indexed.script st k idle in
    let few = count_few (length net.channels) s.passed.items s.done.items k 0 c.self.invariant.counts_are within in
    let same : get_or s.done.items k 0 ≡ completed hs k =
    ap (λ (ks : List ℕ). get_or ks k 0) c.self.invariant.counts_are ∙ counts_are hs k in
    subst (λ (o : Option ℕ). IfSome o (λ n. n < 2 ^ 63)) (sym counted.1) (omega (arith, counted.2, same, few, s.passed.ok.0, s.passed.small))

pub retest_channel-requires-clause-done : goal.retest_channel-requires-clause-done
retest_channel-requires-clause-done c =
    let s = c.self.inside in
    ap length c.deref.ensures.value ∙ counts_whole (length s.indexed.net.channels) s.passed.items s.done.items c.self.invariant.counts_are
    ∙ sym (ap (λ (x : IndexedValue). length x.net.channels) c.add.ensures)

pub retest_channel-requires-clause-rows : goal.retest_channel-requires-clause-rows
retest_channel-requires-clause-rows c =
    let s = c.self.inside in
    subst (λ (x : IndexedValue). AreRows x.net s.state s.rows) (sym c.add.ensures) c.self.invariant.rows_are

pub invariant_of-self : goal.invariant_of-self
invariant_of-self c =
    let s = c.self.inside in
    let x = s.indexed in
    let k = c.args.chan in
    let value = c.args.value in
    let room = vec_capacity s.passed - length s.passed.items in
    let st : RunState = record { values = s.state; histories = channel_histories (length x.net.channels) s.passed.items } in
    let later : IndexedValue = record { net = x.net; script = script_and k value x.script } in
    let within : k < length x.net.channels = omega (arith, c.requires.chan, ap (λ (v : StageValue). length v.net.channels) c.self.view_is) in
    let off : in_reset x.net.reset (high s.state) ≡ false =
    subst (λ (v : StageValue). in_reset v.net.reset (high v.values) ≡ false) (sym c.self.view_is) c.requires.low in
    let retested : IsRetestedOn later s.done.items s.state k s.moves c.retest_channel.new.moves =
    subst (λ (ks : List ℕ). IsRetestedOn later ks s.state k s.moves c.retest_channel.new.moves) c.deref.ensures.value
    (subst (λ (y : IndexedValue). IsRetestedOn y c.deref.result.now s.state k s.moves c.retest_channel.new.moves) c.add.ensures c.retest_channel.ensures) in
    subst (λ (y : IndexedValue). IsKeptBeside (stage_with y.net y.script s.state s.passed.items room) s.done.items s.rows c.retest_channel.new.moves
    s.pulled)
    (sym c.add.ensures) (record {
      net = c.self.invariant.net;
      script = subst (λ (v : StageValue). IsScript (net_channels v.net) (script_and k value v.script)) (sym c.self.view_is) c.requires.script;
      values = c.self.invariant.values;
      counts_are = c.self.invariant.counts_are;
      passed = c.self.invariant.passed;
      rows_are = c.self.invariant.rows_are;
      moves_are = passing_added x.net x.script st s.done.items k value s.moves c.retest_channel.new.moves c.self.invariant.counts_are off within
          c.self.invariant.moves_are retested;
      pulled_is = c.self.invariant.pulled_is;
    })
