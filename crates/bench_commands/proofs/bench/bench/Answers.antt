use Rattle.std.proofs.Common.{◌∙◌, sym}
use Rattle.command_words.specs.BenchWords.{bench_asked}
use Rattle.command_words.proofs.Results.{ok_in}
use Rattle.command_steps.specs.RunSteps.{an_order, no_order}
use Rattle.command_steps.proofs.Stopping.{err_in}
use Rattle.bench_commands.specs.Peers.{no_peer}
use Rattle.bench_commands.proofs.BenchStopping.{named_answers, named_stops}
use Rattle.bench_commands.proofs.Staying.{stay_named}
use Rattle.bench_commands.proofs.bench.bench.Goals as goal

pub returns-in_default-clause-stopped : goal.returns-in_default-clause-stopped
returns-in_default-clause-stopped g c = no_order (sym c.place_of.ensures.place ∙ c.in_default.is)

pub returns-in_default-place_of_peer-clause-stopped : goal.returns-in_default-place_of_peer-clause-stopped
returns-in_default-place_of_peer-clause-stopped g c =
    an_order (sym c.place_of.ensures.place ∙ c.in-Some.is) (no_peer (sym c.place_of_peer.ensures.place ∙ c.in_default-place_of_peer.is))

pub returns-clause-answered : goal.returns-clause-answered
returns-clause-answered g c =
    ok_in c.bench_at.result _ _
    (λ output is. named_answers (bench_asked c.args.asked.now) _ _ _ _ (sym c.place_of.ensures.place ∙ c.in-Some.is)
    (sym c.place_of_peer.ensures.place ∙ c.in-Some-place_of_peer.is) _ is) c.bench_at.ensures.answered

pub returns-clause-stopped : goal.returns-clause-stopped
returns-clause-stopped g c =
    err_in c.bench_at.result _ _
    (λ stop stops. named_stops (bench_asked c.args.asked.now) _ _ _ _ (sym c.place_of.ensures.place ∙ c.in-Some.is)
    (sym c.place_of_peer.ensures.place ∙ c.in-Some-place_of_peer.is) _ _ stop stops) c.bench_at.ensures.stopped

pub returns-clause-stay : goal.returns-clause-stay
returns-clause-stay g c =
    stay_named _ _ _ _ c.in-Some.place c.in-Some-place_of_peer.which _ _ _ _ (sym c.place_of.ensures.place ∙ c.in-Some.is)
    (sym c.place_of_peer.ensures.place ∙ c.in-Some-place_of_peer.is) c.bench_at.ensures.stay

pub returns-clause-asked : goal.returns-clause-asked
returns-clause-asked g c =
    ok_in c.bench_at.result _ _
    (λ output asks. record {
      place = c.in-Some.place;
      which = c.in-Some-place_of_peer.which;
      named = sym c.place_of.ensures.place ∙ c.in-Some.is;
      device = sym c.place_of_peer.ensures.place ∙ c.in-Some-place_of_peer.is;
      asked = asks;
    }) c.bench_at.ensures.asked
