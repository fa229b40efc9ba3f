use Rattle.std.proofs.Common.{sym, ap}
use Rattle.delay_script.specs.Calendars.{CalendarValue}
use Rattle.delay_script.proofs.Queued.{new_is}
use Rattle.delay_script.proofs.queue.Queue.new.Goals as goal

pub invariant_of-result : goal.invariant_of-result
invariant_of-result c =
    new_is c.in_ok-dues.dues.items c.in_ok-calendar.calendar.entries c.in_ok-calendar.calendar.room c.args.nodes c.in_ok-dues.ensures
    (ap (λ (v : CalendarValue). v.entries) c.in_ok-calendar.ensures) (sym (ap (λ (v : CalendarValue). v.room) c.in_ok-calendar.ensures))
