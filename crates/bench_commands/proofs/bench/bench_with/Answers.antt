use Rattle.std.proofs.Common.{◌∙◌, arith}
use Rattle.command_answers.specs.Replies.{told_answer}
use Rattle.command_words.proofs.Results.{ok_in}
use Rattle.simulation_commands.proofs.Asking.{asked_through}
use Rattle.simulation_commands.proofs.Keeping.{log_after, log_same, objects_at}
use Rattle.bench_commands.proofs.Running.{holds_in, keeps_then, objects_both, prepared_against, prepared_asked, ready_keeps}
use Rattle.bench_commands.proofs.bench.bench_with.Goals as goal

pub returns-in_err-make_ready-clause-peers : goal.returns-in_err-make_ready-clause-peers
returns-in_err-make_ready-clause-peers g c =
    let e = c.make_ready.ensures in
    ready_keeps _ c.args.peers.now.items c.args.peers.now.items c.args.which c.index_mut.result.now c.make_ready.new.peer
    c.requires.which c.index_mut.ensures.value e.name e.log e.due e.willing

pub returns-in_err-make_ready-clause-peer_objects : goal.returns-in_err-make_ready-clause-peer_objects
returns-in_err-make_ready-clause-peer_objects g c =
    objects_at _ _ c.index_mut.result.now _ c.requires.which c.index_mut.ensures.value c.make_ready.ensures.kind

pub report_on-requires-clause-room : goal.report_on-requires-clause-room
report_on-requires-clause-room g c =
    holds_in c.args.peers.now.items c.args.which c.make_ready.new.peer _ c.requires.which
    (omega (arith, c.in_ok-make_ready.ensures.room, c.notes_for-notes.ensures))

pub returns-clause-answered : goal.returns-clause-answered
returns-clause-answered g c =
    let e = c.make_ready.ensures in
    ok_in c.report_on.result _ _
    (λ output r. prepared_against _ c.args.peers.now.items c.report_on.new.peers.items c.args.which c.index_mut.result.now c.make_ready.new.peer
    c.requires.which c.index_mut.ensures.value e.name e.log e.due e.willing _ c.args.asked.now.seed _ _ _ _ _ _ _ (told_answer output)
    (c.report_on.ensures.seeded ∙ c.prepare.ensures.seeded) c.prepare.ensures.log r) c.report_on.ensures.answered

pub returns-clause-peers : goal.returns-clause-peers
returns-clause-peers g c =
    let e = c.make_ready.ensures in
    keeps_then _ _ c.args.peers.now.items _ c.report_on.new.peers.items
    (ready_keeps _ c.args.peers.now.items c.report_on.new.peers.items c.args.which c.index_mut.result.now c.make_ready.new.peer
    c.requires.which
    c.index_mut.ensures.value e.name e.log e.due e.willing) c.report_on.ensures.peers

pub returns-clause-peer_objects : goal.returns-clause-peer_objects
returns-clause-peer_objects g c =
    objects_both _ c.args.peers.now.items _ c.report_on.new.peers.items
    (objects_at c.args.peers.now.items c.args.which c.index_mut.result.now c.make_ready.new.peer c.requires.which c.index_mut.ensures.value
    c.make_ready.ensures.kind)
    c.report_on.ensures.peer_objects

pub returns-clause-asked : goal.returns-clause-asked
returns-clause-asked g c =
    let e = c.make_ready.ensures in
    ok_in c.report_on.result _ _
    (λ output w. prepared_asked _ c.args.peers.now.items c.report_on.new.peers.items c.args.which c.index_mut.result.now c.make_ready.new.peer
    c.requires.which c.index_mut.ensures.value e.name e.log e.due e.willing _ _ _
    (λ enabled along. asked_through _ enabled c.args.asked.now.seed _ _ _ c.prepare.ensures.kind c.prepare.ensures.seeded
    c.prepare.ensures.log along) w) c.report_on.ensures.asked

pub returns-clause-grown : goal.returns-clause-grown
returns-clause-grown g c = log_after _ _ _ c.prepare.ensures.log c.report_on.ensures.grown

pub returns-in_err-prepare-clause-grown : goal.returns-in_err-prepare-clause-grown
returns-in_err-prepare-clause-grown g c = log_same _ _ c.prepare.ensures.log

pub returns-in_err-make_ready-clause-grown : goal.returns-in_err-make_ready-clause-grown
returns-in_err-make_ready-clause-grown g c = log_same _ _ c.prepare.ensures.log
