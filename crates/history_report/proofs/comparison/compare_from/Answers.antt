use Rattle.std.proofs.Common.{◌≡◌, ◌∙◌, ◌<◌, ◌-◌, ℕ, List, length, sym, ap, subst, below_more, arith}
use Rattle.std.specs.Prelude.{Option, Some, None, IfSome, IfNone}
use Rattle.std.proofs.lemmas.List.{length-map}
use Rattle.chp_base.specs.declared.channel.Channel.{Channel}
use Rattle.prs_core.specs.declared.wires.Wires.{Wires}
use Rattle.prs_core.specs.Nets.{NetValue}
use Rattle.env_script.specs.Environment.{net_channels}
use Rattle.env_script.specs.Runs.{history_at}
use Rattle.width_check.specs.Typed.{program_of}
use Rattle.chp_meaning.specs.Steps.{Configuration, start_of}
use Rattle.chp_meaning.specs.Rounds.{rounds_from}
use Rattle.chp_meaning.specs.Ends.{seen}
use Rattle.chp_meaning.specs.Prefixes.{IsPrefixOf}
use Rattle.history_report.specs.Comparing.{IsFirstDifference, run_history, IsAgainst, IsAgainstIn}
use Rattle.history_report.proofs.Few.{channels_fit}
use Rattle.history_report.proofs.Ands.{nothing_of_err}
use Rattle.history_report.proofs.Onward.{all_lead, made_further, from_start}
use Rattle.history_report.proofs.comparison.compare_from.Goals as goal
use Rattle.history_report.proofs.comparison.compare_from.Goals.{In_ok-place}

pub overflow_cast-chan-end : goal.overflow_cast-chan-end
overflow_cast-chan-end c =
    let few = channels_fit c.net.result.now c.channels-channels.ensures.net in
    omega (arith, few, ap length c.channels-channels.ensures.channels)

-- as many channels as the program has
as_many : (net run : NetValue) (ws : List Wires) (cs : List Channel) → net ≡ run → ws ≡ net.channels → net_channels run ≡ cs → length ws ≡ length cs
as_many net run ws cs held read alike =
    ap length (read ∙ ap (λ (n : NetValue). n.channels) held) ∙ (sym (length-map run.channels (λ (w : Wires). w.channel)) ∙ ap length alike)

-- the rounds that are left lead where all do
leads : (c : In_ok-place) → rounds_from (seen c.args.program.now c.difference_on.new.config) c.difference_on.new.left
    ≡ rounds_from (seen c.args.program.now c.args.config.now) c.moves-left.result
leads c =
    let t = c.args.program.now in
    let at = c.loop-chan.invariant in
    all_lead (seen t c.args.config.now) (seen t c.loop-chan.config) (seen t c.difference_on.new.config) c.moves-left.result c.loop-chan.left
    c.difference_on.new.left at.fewer c.in_ok-place.ensures.fewer at.made c.in_ok-place.ensures.made

-- so what is found is found of that
front : (c : In_ok-place) → c.in_ok-place.field-0 ≡ None → IsPrefixOf (run_history c.args.ran.now c.loop-chan.chan)
    (history_at (rounds_from (seen c.args.program.now c.args.config.now) c.moves-left.result).histories c.loop-chan.chan)
front c none =
    let chan = c.loop-chan.chan in
    let run = run_history c.args.ran.now chan in
    let t = c.args.program.now in
    let is = subst (λ (o : Option ℕ). IfNone o (IsPrefixOf run
    (history_at (rounds_from (seen t c.difference_on.new.config) c.difference_on.new.left).histories chan))) none c.in_ok-place.ensures.none in
    subst (λ (x : Configuration). IsPrefixOf run (history_at x.histories chan)) (leads c) is

difference : (c : In_ok-place) (place : ℕ) → c.in_ok-place.field-0 ≡ Some place → IsFirstDifference (run_history c.args.ran.now c.loop-chan.chan)
    (history_at (rounds_from (seen c.args.program.now c.args.config.now) c.moves-left.result).histories c.loop-chan.chan) place
difference c place some =
    let chan = c.loop-chan.chan in
    let run = run_history c.args.ran.now chan in
    let t = c.args.program.now in
    let is = subst (λ (o : Option ℕ). IfSome o (λ k. IsFirstDifference run
    (history_at (rounds_from (seen t c.difference_on.new.config) c.difference_on.new.left).histories chan) k)) some c.in_ok-place.ensures.some in
    subst (λ (x : Configuration). IsFirstDifference run (history_at x.histories chan) place) (leads c) is

pub loop-chan-preserved : goal.loop-chan-preserved
loop-chan-preserved c =
    let here = (goal.at.loop-chan-preserved c).In_ok-place in
    let t = c.args.program.now in
    let at = c.loop-chan.invariant in
    record {
      of = c.difference_on.ensures.of;
      fewer = omega (arith, at.fewer, c.in_ok-place.ensures.fewer);
      made = made_further (seen t c.args.config.now) (seen t c.loop-chan.config) (seen t c.difference_on.new.config) c.moves-left.result c.loop-chan.left
          c.difference_on.new.left at.fewer c.in_ok-place.ensures.fewer at.made c.in_ok-place.ensures.made;
      behind = below_more _ _ at.behind (front here c.in_default.is);
    }

pub returns-in-Some-clause-against : goal.returns-in-Some-clause-against
returns-in-Some-clause-against c script starts =
    let here = (goal.at.returns-in-Some-clause-against c).In_ok-place in
    let chan = c.loop-chan.chan in
    let t = c.args.program.now in
    let start = start_of (program_of t) script in
    let all = as_many c.net.result.now c.args.ran.now.net c.channels-channels.result.now t.channels c.net.ensures.net
    c.channels-channels.ensures.channels c.requires.alike in
    let there : chan < length t.channels = omega (arith, all, c.loop-chan-test.true) in
    let lead = from_start (seen t c.args.config.now) start c.moves-left.result c.args.ran.now.moves starts c.moves-left.ensures in (
      c.requires.alike,
      there,
      λ earlier less. subst (λ (x : Configuration). IsPrefixOf (run_history c.args.ran.now earlier) (history_at x.histories earlier)) lead
          (c.loop-chan.invariant.behind earlier less),
      subst (λ (x : Configuration). IsFirstDifference (run_history c.args.ran.now chan) (history_at x.histories chan) c.in-Some.place) lead
          (difference here c.in-Some.place c.in-Some.is),
    )

pub returns-clause-against : goal.returns-clause-against
returns-clause-against c script starts =
    let t = c.args.program.now in
    let start = start_of (program_of t) script in
    let all = as_many c.net.result.now c.args.ran.now.net c.channels-channels.result.now t.channels c.net.ensures.net
    c.channels-channels.ensures.channels c.requires.alike in
    let lead = from_start (seen t c.args.config.now) start c.moves-left.result c.args.ran.now.moves starts c.moves-left.ensures in (
      c.requires.alike,
      λ chan within. subst (λ (x : Configuration). IsPrefixOf (run_history c.args.ran.now chan) (history_at x.histories chan)) lead
          (c.loop-chan.invariant.behind chan (omega (arith, all, c.loop-chan-test.false, within))),
    )

pub difference_on-requires-clause-within : goal.difference_on-requires-clause-within
difference_on-requires-clause-within c =
    let all = as_many c.net.result.now c.args.ran.now.net c.channels-channels.result.now c.args.program.now.channels c.net.ensures.net
    c.channels-channels.ensures.channels c.requires.alike in
    omega (arith, all, c.loop-chan-test.true)

pub returns-in-Some-clause-within : goal.returns-in-Some-clause-within
returns-in-Some-clause-within c =
    subst (λ (ws : List Wires). c.loop-chan.chan < length ws) (c.channels-channels.ensures.channels ∙ ap (λ (n : NetValue). n.channels) c.net.ensures.net)
    c.loop-chan-test.true

none_before : (k : ℕ) → k < 0 → ⊥
none_before k less = omega arith

pub loop-chan-init : goal.loop-chan-init
loop-chan-init c =
    let none : 0 ≡ c.moves-left.result - c.moves-left.result = omega arith in
    record {
      of = c.requires.of;
      fewer = omega arith;
      made = ap (rounds_from (seen c.args.program.now c.args.config.now)) none;
      behind = λ earlier less. absurd (none_before earlier less);
    }

pub returns-in_err-place-clause-against : goal.returns-in_err-place-clause-against
returns-in_err-place-clause-against c script starts =
    nothing_of_err (IsAgainst c.args.ran.now (program_of c.args.program.now) script) c.from_residual.result c.from_residual.ensures.0

pub returns-in_err-place-clause-within : goal.returns-in_err-place-clause-within
returns-in_err-place-clause-within c = nothing_of_err (IsAgainstIn c.args.ran.now.net) c.from_residual.result c.from_residual.ensures.0
