use Rattle.std.proofs.Common.{◌≡◌, ◌∙◌, sym, ap, subst, set, length, false, Bool, ℕ, List, arith}
use Rattle.std.specs.Prelude.{All, None}
use Rattle.std.specs.List.{find}
use Rattle.std.proofs.lemmas.List.{length-set}
use Rattle.prs_core.specs.Moves.{high, both_ways}
use Rattle.prs_core.specs.Fans.{readers_below}
use Rattle.guard_rows.specs.Places.{readers_in}
use Rattle.event_sim.specs.Locality.{is_asked, is_ready, once_left, IsRetested}
use Rattle.event_sim.proofs.Leaving.{same_count}
use Rattle.event_sim.proofs.Tested.{readers_within}
use Rattle.event_sim.proofs.Unasked.{readers_unasked}
use Rattle.event_sim.proofs.listing.retest_own.Goals as goal

pub edges-requires : goal.edges-requires
edges-requires c = omega (arith, c.requires.node, c.requires.rows.edges)

pub retest_readers-found-requires-clause-moves : goal.retest_readers-found-requires-clause-moves
retest_readers-found-requires-clause-moves c =
    omega (
      arith,
      c.requires.moves,
      same_count c.leave_or_stay-leaving.new.moves c.leave_or_stay-leaving.result,
      ap length c.leave_or_stay-leaving.ensures.set,
      length-set c.args.moves.now c.args.node c.is_ready-ready.result,
    )

pub retest_readers-found-requires-clause-readers : goal.retest_readers-found-requires-clause-readers
retest_readers-found-requires-clause-readers c =
    let net = c.args.indexed.now.net in
    readers_within net c.args.node (readers_in c.edges.result.now) (c.edges.ensures net c.args.state.now c.requires.rows)

pub returns-clause-retested : goal.returns-clause-retested
returns-clause-retested c =
    let x = c.args.indexed.now in
    let n = c.args.node in
    let done = c.args.done.now in
    let values = c.args.state.now in
    let ready = is_ready x done values in
    let readers = readers_below x.net (length x.net.first) n in
    let lost = c.retest_readers-found.result.trouble.lost in
    let are : readers_in c.edges.result.now ≡ readers = c.edges.ensures x.net values c.requires.rows in
    let none : All (λ m. is_asked x done values m ≡ false) (readers_in c.edges.result.now) =
    subst (λ (xs : List ℕ). All (λ m. is_asked x done values m ≡ false) xs) (sym are)
    (readers_unasked x done values n c.net-net.ensures.is_net c.net-net.ensures.script) in
    let old : once_left c.leave_or_stay-leaving.new.moves c.leave_or_stay-leaving.result ≡ set c.args.moves.now n (ready n) =
    c.leave_or_stay-leaving.ensures.set ∙ ap (λ (b : Bool). set c.args.moves.now n b) c.is_ready-ready.ensures in
    subst (λ (xs : List ℕ). IsRetested ready xs (set c.args.moves.now n (ready n)) c.leave.new.moves None lost) are
    (subst (λ (new : List Bool). IsRetested ready (readers_in c.edges.result.now) (set c.args.moves.now n (ready n)) new None lost) (sym c.leave.ensures)
    (subst (λ (from : List Bool). IsRetested ready (readers_in c.edges.result.now) from
    (once_left c.retest_readers-found.new.moves c.retest_readers-found.result.leaving) None lost) old
    (c.retest_readers-found.ensures.retested done none)))

pub returns-clause-pulled : goal.returns-clause-pulled
returns-clause-pulled c =
    let net = c.args.indexed.now.net in
    c.retest_readers-found.ensures.pulled ∙ ap (find (both_ways net (high c.args.state.now))) (c.edges.ensures net c.args.state.now c.requires.rows)
