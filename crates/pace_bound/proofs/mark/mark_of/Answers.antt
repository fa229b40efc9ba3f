use Rattle.std.proofs.Common.{sym, subst}
use Rattle.handshake_expand.proofs.Rows.{select_is}
use Rattle.width_check.specs.Processes.{Process}
use Rattle.width_check.specs.Typed.{program_of}
use Rattle.width_check.specs.Typing.{IsProcess, AreChoices}
use Rattle.width_check.specs.View.{choices_in}
use Rattle.pace_bound.specs.Noting.{of_step, noted_count, AreMarked}
use Rattle.pace_bound.proofs.mark.mark_of.Goals as goal

pub select_mark-requires : goal.select_mark-requires
select_mark-requires c =
    let facts = subst (λ (s : Process). IsProcess c.args.program.now.channels c.args.program.now.vars s) (select_is _ _ _ c.in-Select.is) c.requires.process in
    record {
      arms = subst (λ l. AreChoices c.args.program.now.channels c.args.program.now.vars (choices_in l)) (sym c.deref.ensures.value) facts.2;
    }

pub returns-in-Skip : goal.returns-in-Skip
returns-in-Skip c = rw c.in-Skip.is (c.skip_mark.ensures (program_of c.args.program.now))

pub returns-in-Assign : goal.returns-in-Assign
returns-in-Assign c = rw c.in-Assign.is (c.assign_mark.ensures c.in-Assign.at)

pub returns-in-Send : goal.returns-in-Send
returns-in-Send c = rw c.in-Send.is (c.send_mark.ensures c.in-Send.at)

pub returns-in-Receive : goal.returns-in-Receive
returns-in-Receive c = rw c.in-Receive.is (c.receive_mark.ensures c.in-Receive.chan_at c.in-Receive.var_at)

pub returns-in-Select : goal.returns-in-Select
returns-in-Select c =
    let P = program_of c.args.program.now in
    subst (λ p. AreMarked (noted_count P c.args.noted) (λ k. of_step P c.args.noted k c.args.at.held c.args.at.down p) c.select_mark.result)
    (sym (select_is _ _ _ c.in-Select.is)) (rw c.deref.ensures.value at c.select_mark.ensures)
