use Rattle.std.proofs.Common.{◌∙◌, sym}
use Rattle.command_steps.specs.RunSteps.{an_order, no_order}
use Rattle.simulation_commands.proofs.Keeping.{only_named, objects_named, unplayed}
use Rattle.command_steps.proofs.Stopping.{err_in}
use Rattle.command_words.proofs.Results.{ok_in}
use Rattle.grown_commands.proofs.grow_summary.sum_up.Goals as goal

pub returns-in-None-clause-stopped : goal.returns-in-None-clause-stopped
returns-in-None-clause-stopped g c = no_order (sym c.place_of.ensures.place ∙ c.in-None.is)

pub returns-in-None-clause-orders : goal.returns-in-None-clause-orders
returns-in-None-clause-orders g c = unplayed _ _

pub returns-in-Some-clause-answered : goal.returns-in-Some-clause-answered
returns-in-Some-clause-answered g c =
    ok_in c.sum_up_at.result _ _ (λ output is. an_order (sym c.place_of.ensures.place ∙ c.in-Some.is) is) c.sum_up_at.ensures.answered

pub returns-in-Some-clause-stopped : goal.returns-in-Some-clause-stopped
returns-in-Some-clause-stopped g c = err_in c.sum_up_at.result _ _ (λ stop is. rw is tt) c.sum_up_at.ensures.stopped

pub returns-in-Some-clause-orders : goal.returns-in-Some-clause-orders
returns-in-Some-clause-orders g c = only_named _ _ c.in-Some.place (sym c.place_of.ensures.place ∙ c.in-Some.is) c.sum_up_at.ensures.played

pub returns-in-Some-clause-objects : goal.returns-in-Some-clause-objects
returns-in-Some-clause-objects g c = objects_named _ _ _ c.in-Some.place (sym c.place_of.ensures.place ∙ c.in-Some.is) c.sum_up_at.ensures.objects

pub returns-in-Some-clause-asked : goal.returns-in-Some-clause-asked
returns-in-Some-clause-asked g c =
    ok_in c.sum_up_at.result _ _
    (λ output asks. record { place = c.in-Some.place; named = sym c.place_of.ensures.place ∙ c.in-Some.is; asked = asks }) c.sum_up_at.ensures.asked
