use Rattle.width_check.specs.View.{process_of}
use Rattle.chp_meaning.proofs.Starting.{first_stands, first_is}
use Rattle.chp_meaning.proofs.config.begun.Goals as goal

pub returns-clause-standing : goal.returns-clause-standing
returns-clause-standing c =
    first_stands (process_of c.args.body.now) c.args.channels c.args.script.now _ (record {
      runnable = c.requires.numbers;
      left_is = c.in_ok-opened.ensures;
      rests = c.in_ok-rests.ensures;
      histories = c.in_ok-histories.ensures;
      sends = c.in_ok-sends.ensures;
      receives = c.in_ok-receives.ensures;
    }) c.requires.script

pub returns-clause-start : goal.returns-clause-start
returns-clause-start c =
    first_is (process_of c.args.body.now) c.args.channels c.args.script.now (record {
      left = c.in_ok-opened.field-0;
      store = c.args.store;
      rests =
          c.in_ok-rests.rests;
      histories = c.in_ok-histories.histories;
      sends = c.in_ok-sends.sends;
      receives = c.in_ok-receives.receives;
    })
    (record {
      runnable = c.requires.numbers;
      left_is = c.in_ok-opened.ensures;
      rests = c.in_ok-rests.ensures;
      histories = c.in_ok-histories.ensures;
      sends = c.in_ok-sends.ensures;
      receives = c.in_ok-receives.ensures;
    })
