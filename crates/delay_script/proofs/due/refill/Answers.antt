use Rattle.std.proofs.Common.{◌∙◌, ◌++◌, ℕ, map}
use Rattle.delay_script.proofs.DueLists.{filled_append}
use Rattle.delay_script.proofs.due.refill.Goals as goal

pub fill-requires-clause-queue : goal.fill-requires-clause-queue
fill-requires-clause-queue c = c.fill_readers.ensures.count ∙ c.requires.queue

pub fill-requires-2-clause-queue : goal.fill-requires-2-clause-queue
fill-requires-2-clause-queue c = c.fill.ensures.count ∙ c.fill_readers.ensures.count ∙ c.requires.queue

pub returns : goal.returns
returns c =
    let s = c.args.stage.now in
    let d = c.args.delays.now in
    let near = c.concerned-concerned.result in (
      map (λ (e : ℕ × ℕ). e.0) near.readers.now ++ near.rails.now ++ near.others,
      c.concerned-concerned.ensures.concerned,
      filled_append s d c.args.made (map (λ (e : ℕ × ℕ). e.0) near.readers.now ++ near.rails.now) near.others _ _ _
          (filled_append s d c.args.made (map (λ (e : ℕ × ℕ). e.0) near.readers.now) near.rails.now _ _ _ c.fill_readers.ensures c.fill.ensures)
          c.fill-2.ensures,
    )
