use Rattle.std.proofs.Common.{◌≡◌, [], List, length, sym, ap, ◌∙◌, subst, arith}
use Rattle.std.specs.Prelude.{◌==◌, replicate}
use Rattle.prs_core.specs.Nets.{RulesValue, GuardValue}
use Rattle.prs_file.specs.ChannelsTold.{channels_told}
use Rattle.prs_file.specs.DrivenTold.{AreDriven}
use Rattle.prs_file.specs.Openings.{text_behind}
use Rattle.prs_file.specs.Tables.{net_forms}
use Rattle.prs_file.specs.Terms.{terms_of}
use Rattle.prs_file.proofs.ChannelsRead.{count_told}
use Rattle.prs_file.proofs.NodesRead.{most_small}
use Rattle.prs_file.proofs.RulesRead.{rule_refused, line_refused}
use Rattle.prs_file.proofs.TableLoop.{some_left, channels_of, loop_begin, begin_count, loop_more}
use Rattle.prs_file.proofs.TableSteps.{table_begin}
use Rattle.prs_file.proofs.Wirings.{place_found}
use Rattle.prs_file.proofs.table.read_rules.Goals as goal

pub loop-rest-init : goal.loop-rest-init
loop-rest-init c =
    let n = c.args.nodes.now in
    let ws = c.args.channels.now in
    let none : List GuardValue → List GuardValue → RulesValue = λ us ds. record { up = us; down = ds } in
    let empty : c.in_ok-rules.rules ≡ record { up = replicate (length n.index) []; down = replicate (length n.index) [] } =
    c.in_ok-rules.ensures ∙ ap (λ k. none (replicate k []) (replicate k [])) c.len.ensures in
    let lines = begin_count n.version n.index n.first.items ws c.in_ok-rules.rules empty in
    record {
      read = loop_begin n.version n.index n.first.items ws c.in_ok-rules.rules (text_behind (channels_told n.version n.index n.first.items ws) c.args.text.now)
          c.args.text.now c.requires.nodes c.requires.read c.requires.over empty;
      table = table_begin (n.version == 2) (channels_of ws) n.index c.in_ok-rules.rules empty;
      line = omega (arith, c.len-2.ensures, lines, count_told n.version n.index n.first.items ws c.requires.nodes);
      room = omega (arith, c.len-2.ensures, c.requires.room, c.requires.nodes.most, most_small n.version);
    }

pub returns-in_default-clause-refused : goal.returns-in_default-clause-refused
returns-in_default-clause-refused c =
    let n = c.args.nodes.now in
    let ws = c.args.channels.now in
    let l = c.loop-rest in
    line_refused (net_forms n.version n.index n.first.items ws l.rules) n.version n.index n.first.items (channels_of ws) l.so_far.place l.so_far.literals
    (text_behind (channels_told n.version n.index n.first.items ws) c.args.text.now) l.rest.now _ l.invariant.read
    (some_left l.rest.now c.is_empty.result c.is_empty.ensures c.loop-rest-test.true) (rw c.in_default.is at c.in_ok-form.ensures.none) l.invariant.line

pub returns-in-Err-clause-refused : goal.returns-in-Err-clause-refused
returns-in-Err-clause-refused c =
    let n = c.args.nodes.now in
    let ws = c.args.channels.now in
    let l = c.loop-rest in
    let form = c.in-Some.form in
    let some = rw c.in-Some.is at c.in_ok-form.ensures.some in
    let bad = rw c.in-Err.is at c.in_ok-turn.ensures.fault in
    rule_refused (net_forms n.version n.index n.first.items ws l.rules) n.version n.index n.first.items (channels_of ws) l.so_far.place l.so_far.literals
    (text_behind (channels_told n.version n.index n.first.items ws) c.args.text.now) l.rest.now (terms_of form.leds.items) form.node form.up c.in-Err.fault
    _ c.requires.nodes.count l.invariant.read (omega (arith, some)) (rw c.in-Some.is at c.in_ok-form.ensures.line)
    (rw c.in-Some.is at c.in_ok-form.ensures.form)
    (bad (channels_of ws) (subst (AreDriven (n.version == 2) (channels_of ws) n.index) (sym c.deref.ensures.value) c.in_ok-driven.ensures)) l.invariant.line

pub place_of-requires : goal.place_of-requires
place_of-requires c =
    let n = c.args.nodes.now in
    let at = rw c.in-Ok.is at c.in_ok-turn.ensures.node in
    omega (arith, (place_found n.index c.in-Some.form.node c.in-Ok.turn.node at).0, c.requires.nodes.most, most_small n.version)

pub set_guard-requires-clause-node : goal.set_guard-requires-clause-node
set_guard-requires-clause-node c =
    let n = c.args.nodes.now in
    let at = rw c.in-Ok.is at c.in_ok-turn.ensures.node in
    omega (arith, (place_found n.index c.in-Some.form.node c.in-Ok.turn.node at).0, c.loop-rest.invariant.table.ups)

pub loop-rest-preserved : goal.loop-rest-preserved
loop-rest-preserved c =
    let n = c.args.nodes.now in
    let ws = c.args.channels.now in
    let l = c.loop-rest in
    let form = c.in-Some.form in
    let turn = c.in-Ok.turn in
    let some = rw c.in-Some.is at c.in_ok-form.ensures.some in
    let good = rw c.in-Ok.is at c.in_ok-turn.ensures.sound in
    let more = loop_more n.version n.index n.first.items ws l.so_far.place l.so_far.literals l.line l.rules c.set_guard.new.rules
    (text_behind (channels_told n.version n.index n.first.items ws) c.args.text.now) l.rest.now c.in-Some.behind.now form.leds.items form.node form.up
    turn.node turn.guard c.place_of.result c.len-in-loop-rest.result c.requires.nodes.count l.invariant.read l.invariant.table l.invariant.line
    (rw c.in-Some.is at c.in_ok-form.ensures.line) (rw c.in-Some.is at c.in_ok-form.ensures.rest) (rw c.in-Some.is at c.in_ok-form.ensures.form)
    (rw c.in-Ok.is at c.in_ok-turn.ensures.node) (rw c.in-Ok.is at c.in_ok-turn.ensures.guard) (rw c.in-Ok.is at c.in_ok-turn.ensures.within)
    (good (channels_of ws) (subst (AreDriven (n.version == 2) (channels_of ws) n.index) (sym c.deref.ensures.value) c.in_ok-driven.ensures))
    c.set_guard.ensures c.place_of.ensures (c.len-in-loop-rest.ensures ∙ form.leds.ok.0) in
    record { read = more.read; table = more.table; line = more.number; room = omega (arith, some, l.invariant.room) }
