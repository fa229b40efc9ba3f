use Rattle.std.proofs.Common.{◌≡◌, ℕ, ◌<◌, ◌∙◌, sym, ap, subst, length}
use Rattle.std.specs.Prelude.{All}
use Rattle.event_sim.specs.Following.{power_of}
use Rattle.delay_script.specs.declared.noted.NotedMove.{NotedMove}
use Rattle.wave_file.specs.CauseChains.{values_given}
use Rattle.wave_file.proofs.Chains.{causes_told}
use Rattle.wave_file.proofs.TimedWaves.{given_many}
use Rattle.wave_file.proofs.causes.causes_text.Goals as goal

pub values_from_start-requires : goal.values_from_start-requires
values_from_start-requires c = rw c.deref.ensures.value c.requires.nodes

pub chain_lines-requires-clause-earlier : goal.chain_lines-requires-clause-earlier
chain_lines-requires-clause-earlier c = rw c.deref-3.ensures.value c.requires.caused.earlier

pub chain_lines-requires-clause-given : goal.chain_lines-requires-clause-given
chain_lines-requires-clause-given c =
    rw (c.deref-2.ensures.value, c.deref-3.ensures.value) (ap length c.in_ok-given.ensures.values ∙ given_many _ _ ∙ ap length c.deref.ensures.value)

pub chain_lines-requires-clause-names : goal.chain_lines-requires-clause-names
chain_lines-requires-clause-names c =
    let same = ap length c.names.ensures.names ∙ c.names.ensures.net.named in
    rw c.deref-3.ensures.value (subst (λ (n : ℕ). All (λ (m : NotedMove). m.node < n) c.args.ran.now.moves.items) (sym same) c.requires.nodes)

pub chain_lines-requires-clause-delays : goal.chain_lines-requires-clause-delays
chain_lines-requires-clause-delays c = c.requires.delays.rises ∙ sym (ap length c.names.ensures.names ∙ c.names.ensures.net.named)

pub returns : goal.returns
returns c =
    let ms = c.args.ran.now.moves.items in
    let given : c.in_ok-given.given.items ≡ values_given (power_of c.args.net.now c.args.high) ms =
    rw c.deref.ensures.value at c.in_ok-given.ensures.values in
    let told =
    rw (c.names.ensures.names, c.deref-2.ensures.value, given, c.deref-3.ensures.value, c.new-text.ensures.items) at c.in_ok-chain_lines.ensures in
    causes_told c.args.net.now.names c.args.delays.now (values_given (power_of c.args.net.now c.args.high) ms) ms told.0 _ _
    c.args.ran.now.timed.time c.requires.caused told.1 c.requires.time told.2 c.in_ok-end_line.ensures
