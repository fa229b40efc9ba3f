use Rattle.command_steps.proofs.laws.meant_buffers_are_right.Goals as goal

pub returns : goal.returns
returns c text program plain made chan reads short means accepted puts =
    c.buffers_keep.ensures.right plain made chan puts.buffer (c.meant_programs_are_shaped.ensures text program plain reads short means) accepted puts.inner
