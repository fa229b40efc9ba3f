use Rattle.event_sim.proofs.listing.relist.Goals as goal

pub returns-clause-relisted : goal.returns-clause-relisted
returns-clause-relisted c = λ was before move.
    let behind = c.retest_behind-found.ensures.listed was before move in
    record {
      set_is = c.add_reset.ensures c.args.done.now behind.set_is;
      lost_is = behind.lost_is;
    }
