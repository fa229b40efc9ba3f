use Rattle.std.proofs.Common.{◌≡◌, ◌∙◌, List, length, None, sym, ap, subst, arith}
use Rattle.std.specs.Prelude.{Option}
use Rattle.std.proofs.lemmas.List.{get_or_read}
use Rattle.delay_script.specs.declared.due.Due.{Due}
use Rattle.delay_script.specs.declared.due.Next.{Next}
use Rattle.delay_script.specs.Dues.{due_at, next_due, without, IsFirstOf}
use Rattle.delay_script.proofs.Queued.{empty_first, still_is, taken_within, taken_due, taken_first, take_is, rest_is}
use Rattle.delay_script.proofs.queue.Queue.take.Goals as goal

pub invariant_of-self : goal.invariant_of-self
invariant_of-self c =
    let s = c.self.inside in
    still_is s.dues.items s.calendar.entries c.take.new.self.entries s.calendar.room c.take.new.self.room c.self.invariant c.in_err-node.ensures.none
    c.in_err-node.ensures.left c.take.ensures.room

pub returns-in_err-node-clause-first : goal.returns-in_err-node-clause-first
returns-in_err-node-clause-first c =
    let s = c.self.inside in
    subst (λ (o : Option Next). IsFirstOf c.args.self.now (length c.args.self.now) o) (sym c.from_residual.ensures)
    (subst (λ (ds : List (Option Due)). IsFirstOf ds (length ds) None) c.self.view_is
    (empty_first s.dues.items s.calendar.entries s.calendar.room c.self.invariant c.in_err-node.ensures.none))

pub index-due-requires : goal.index-due-requires
index-due-requires c =
    let s = c.self.inside in
    let taken = c.in_ok-node.ensures.some in
    let within = taken_within s.dues.items s.calendar.entries c.take.new.self.entries (taken.0, c.in_ok-node.node) c.self.invariant.sums taken.1.sums in
    omega (arith, within, s.dues.ok.0)

pub index_mut-requires : goal.index_mut-requires
index_mut-requires c =
    let s = c.self.inside in
    let taken = c.in_ok-node.ensures.some in
    let within = taken_within s.dues.items s.calendar.entries c.take.new.self.entries (taken.0, c.in_ok-node.node) c.self.invariant.sums taken.1.sums in
    omega (arith, within, s.dues.ok.0)

pub invariant_of-self-2 : goal.invariant_of-self-2
invariant_of-self-2 c =
    let s = c.self.inside in
    let taken = c.in_ok-node.ensures.some in
    take_is s.dues.items s.calendar.entries c.take.new.self.entries s.calendar.room c.take.new.self.room (taken.0, c.in_ok-node.node) c.self.invariant
    taken.1.sums c.take.ensures.room

pub returns-clause-first : goal.returns-clause-first
returns-clause-first c =
    let s = c.self.inside in
    let taken = c.in_ok-node.ensures.some in
    let n = c.in_ok-node.node in
    let within = taken_within s.dues.items s.calendar.entries c.take.new.self.entries (taken.0, n) c.self.invariant.sums taken.1.sums in
    let read : c.index-due.result.now ≡ due_at s.dues.items n = get_or_read s.dues.items n c.index-due.result.now within c.index-due.ensures None in
    subst (λ (ds : List (Option Due)). IsFirstOf ds (length ds) c.next_due.result) c.self.view_is
    (subst (λ (o : Option Next). IsFirstOf s.dues.items (length s.dues.items) o) (sym (c.next_due.ensures ∙ ap (next_due n) read))
    (taken_first s.dues.items s.calendar.entries c.take.new.self.entries (taken.0, n) c.self.invariant.sums taken.1))

pub returns-clause-rest : goal.returns-clause-rest
returns-clause-rest c =
    let s = c.self.inside in
    let taken = c.in_ok-node.ensures.some in
    let n = c.in_ok-node.node in
    let own = taken_due s.dues.items s.calendar.entries c.take.new.self.entries (taken.0, n) c.self.invariant.sums taken.1.sums in
    let within = taken_within s.dues.items s.calendar.entries c.take.new.self.entries (taken.0, n) c.self.invariant.sums taken.1.sums in
    let read : c.index-due.result.now ≡ due_at s.dues.items n = get_or_read s.dues.items n c.index-due.result.now within c.index-due.ensures None in
    rest_is s.dues.items n own.0 own.1 ∙ ap (λ (o : Option Due). without s.dues.items (next_due n o)) (sym read)
    ∙ ap (without s.dues.items) (sym c.next_due.ensures) ∙ ap (λ (ds : List (Option Due)). without ds c.next_due.result) c.self.view_is
