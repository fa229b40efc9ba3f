use Rattle.std.proofs.Common.{refl}
use Rattle.chp_syntax.specs.View.{program_tree}
use Rattle.command_steps.proofs.buffered.buffered.Goals as goal

pub returns-in-None-clause-goes_on : goal.returns-in-None-clause-goes_on
returns-in-None-clause-goes_on c = rw c.in-None.is (record {
  made = program_tree c.args.program.now;
  buffered = refl;
  keeps = tt;
  shaped = c.requires.shaped;
  form = c.requires.form;
})

pub returns-in-Some-clause-goes_on : goal.returns-in-Some-clause-goes_on
returns-in-Some-clause-goes_on c = rw c.in-Some.is c.with_named_buffer.ensures.goes_on

pub returns-in-Some-clause-stopped : goal.returns-in-Some-clause-stopped
returns-in-Some-clause-stopped c = rw c.in-Some.is c.with_named_buffer.ensures.stopped
