use Rattle.chp_syntax.specs.View.{program_tree}
use Rattle.command_steps.proofs.Buffering.{few_more}
use Rattle.command_words.proofs.Results.{ok_in}
use Rattle.command_steps.proofs.buffered.resolved_with_buffer.Goals as goal

pub resolved-requires-clause-few : goal.resolved-requires-clause-few
resolved-requires-clause-few c =
    let has = c.in_ok-made.ensures.buffer in
    few_more (program_tree c.args.program.now) (program_tree c.in_ok-made.made) c.args.chan.now has.number has.tree c.requires.few

pub returns : goal.returns
returns c =
    ok_in c.resolved.result _ _ (λ disjoint form. record {
      made = program_tree c.in_ok-made.made;
      buffered = record { inner = c.requires.inner; buffer = c.in_ok-made.ensures.buffer };
      keeps = λ has. record {
        typed = c.in_ok-made.ensures.typed has;
        keeps = c.in_ok-made.ensures.keeps has;
        accepted = c.in_ok-made.ensures.accepted;
      };
      shaped = c.in_ok-made.ensures.shaped;
      form = form;
    }) c.resolved.ensures
