use Rattle.std.proofs.Common.{◌∙◌, ◌∷◌, [], sym, ap, subst, get_or, take, ℕ, List, arith}
use Rattle.std.specs.Prelude.{Option, Some, None, if◌then◌else◌}
use Rattle.std.specs.List.{find}
use Rattle.std.proofs.lemmas.List.{take_all}
use Rattle.prs_core.specs.Moves.{high, both_ways}
use Rattle.env_script.specs.Hazards.{or_else}
use Rattle.guard_rows.specs.Places.{readers_in}
use Rattle.event_sim.specs.Locality.{is_ready, once_left, IsRetested}
use Rattle.event_sim.proofs.Behind.{retested_more}
use Rattle.event_sim.proofs.Lists.{first_of_both}
use Rattle.event_sim.proofs.Tested.{reader_more, reader_within, unasked_there}
use Rattle.event_sim.proofs.listing.retest_readers.Goals as goal

pub retest_reader-found-requires-clause-node : goal.retest_reader-found-requires-clause-node
retest_reader-found-requires-clause-node c =
    reader_within _ c.args.edges.now c.loop-reader.reader-index c.requires.readers c.loop-reader-test.true

pub returns-clause-retested : goal.returns-clause-retested
returns-clause-retested c = λ done none.
    let es = c.args.edges.now in
    let past = c.loop-reader-test.false in
    subst (λ (ys : List (ℕ × ℕ)). IsRetested (is_ready c.args.indexed.now done c.args.state.now) (readers_in ys)
    (once_left c.args.moves.now c.args.leaving) (once_left c.loop-reader.moves c.loop-reader.found.leaving) None c.loop-reader.found.trouble.lost)
    (take_all c.loop-reader.reader-index es (omega arith)) (c.loop-reader.invariant.retested done none)

pub loop-reader-preserved : goal.loop-reader-preserved
loop-reader-preserved c =
    let x = c.args.indexed.now in
    let both = both_ways x.net (high c.args.state.now) in
    let es = c.args.edges.now in
    let i = c.loop-reader.reader-index in
    let n = (get_or es i (0, 0)).0 in
    let before = readers_in (take i es) in
    let more = reader_more es i c.loop-reader-test.true in
    let is = c.loop-reader.invariant in
    let old = once_left c.args.moves.now c.args.leaving in
    let mid = once_left c.loop-reader.moves c.loop-reader.found.leaving in
    let new = once_left c.retest_reader-found.new.moves c.retest_reader-found.result.leaving in
    let lost = c.retest_reader-found.result.trouble.lost in
    let one = c.retest_reader-found.ensures in record {
      retested = λ done none.
          let ready = is_ready x done c.args.state.now in
          subst (λ (xs : List ℕ). IsRetested ready xs old new None lost) (sym more)
          (retested_more ready before (n ∷ []) old mid new None c.loop-reader.found.trouble.lost lost (is.retested done none)
          (one.retested done (unasked_there x done c.args.state.now es i none c.loop-reader-test.true)));
      pulled = one.pulled ∙ ap (λ (o : Option ℕ). or_else o (if both n then Some n else None)) is.pulled
          ∙ sym (ap (find both) more ∙ first_of_both both before (n ∷ []));
      count = one.count ∙ is.count;
      leaving = one.leaving;
    }
