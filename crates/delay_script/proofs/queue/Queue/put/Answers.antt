use Rattle.std.proofs.Common.{◌≡◌, ◌<◌, ◌∙◌, List, length, None, ap, arith}
use Rattle.std.specs.Prelude.{Option}
use Rattle.delay_script.specs.declared.due.Due.{Due}
use Rattle.delay_script.specs.Dues.{due_at}
use Rattle.delay_script.proofs.Queued.{put_room, put_is}
use Rattle.delay_script.proofs.queue.Queue.put.Goals as goal

pub put-requires : goal.put-requires
put-requires c =
    let s = c.self.inside in
    let within : c.args.node < length s.dues.items = omega (arith, c.requires.node, ap length c.self.view_is) in
    let free : due_at s.dues.items c.args.node ≡ None = ap (λ (ds : List (Option Due)). due_at ds c.args.node) c.self.view_is ∙ c.requires.free in
    put_room s.dues.items s.calendar.entries s.calendar.room c.args.node c.self.invariant within free

pub invariant_of-self : goal.invariant_of-self
invariant_of-self c =
    let s = c.self.inside in
    let within : c.args.node < length s.dues.items = omega (arith, c.requires.node, ap length c.self.view_is) in
    let free : due_at s.dues.items c.args.node ≡ None = ap (λ (ds : List (Option Due)). due_at ds c.args.node) c.self.view_is ∙ c.requires.free in
    put_is s.dues.items s.calendar.entries c.put.new.self.entries s.calendar.room c.put.new.self.room c.args.node c.args.due c.self.invariant within free
    c.put.ensures.sums c.put.ensures.room
