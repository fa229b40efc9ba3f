use Rattle.width_check.specs.Form.{typed_form}
use Rattle.net_compose.specs.Points.{IsTranslated}
use Rattle.pace_command.proofs.Keeping.{bound_kept, sum_kept}
use Rattle.pace_command.proofs.laws.bounds_are_kept.Goals as goal

pub returns : goal.returns
returns c = λ given asked text is bodies has few.
    let shaped = c.meant_programs_are_shaped.ensures is.text is.program is.plain is.read.reads is.short is.means in
    let translated : IsTranslated (typed_form is.plain) =
    record { typed = c.form_is_typed.ensures is.plain shaped is.accepted.named; sharing = is.accepted.sharing } in (
      bound_kept c.carries.ensures c.whole_nets.ensures c.shared_nets_are_faithful.ensures c.calls_asked.ensures c.calls_typed.ensures
          c.keeps_timed_pace.ensures.net c.keeps_time_reset.ensures.net c.keeps_timed_pace_reset.ensures.net c.keeps_time.ensures
          c.shared_bodies_keep_time.ensures is.program translated bodies has few is.bound is.bounds,
      sum_kept c.carries.ensures c.whole_nets.ensures c.shared_nets_are_faithful.ensures c.calls_asked.ensures c.calls_typed.ensures
          c.rounds_pass.ensures.net c.rounds_pass.ensures.every c.rounds_pass.ensures.shared is.program translated bodies has few is.under,
    )
