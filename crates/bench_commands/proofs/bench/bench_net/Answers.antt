use Rattle.command_answers.specs.Replies.{told_answer}
use Rattle.command_words.proofs.Results.{ok_in}
use Rattle.simulation_commands.proofs.Asking.{asked_at}
use Rattle.bench_commands.proofs.Running.{asked_then, net_benched, net_stays}
use Rattle.bench_commands.proofs.bench.bench_net.Goals as goal

pub returns-clause-answered : goal.returns-clause-answered
returns-clause-answered g c =
    ok_in c.bench_with.result _ _
    (λ output is. net_benched _ _ c.args.orders.now.items _ _ c.args.place c.args.which c.index_mut.result.now c.bench_with.new.picker c.requires.place
    c.index_mut.ensures.value c.args.asked.now.seed _ (told_answer output) is) c.bench_with.ensures.answered

pub returns-clause-stay : goal.returns-clause-stay
returns-clause-stay g c =
    net_stays _ _ c.args.orders.now.items _ _ c.args.place c.args.which c.index_mut.result.now c.bench_with.new.picker c.requires.place
    c.index_mut.ensures.value c.bench_with.ensures.name c.bench_with.ensures.grown c.bench_with.ensures.kind c.bench_with.ensures.peers
    c.bench_with.ensures.peer_objects

pub returns-clause-asked : goal.returns-clause-asked
returns-clause-asked g c =
    ok_in c.bench_with.result _ _
    (λ output w. asked_then _ _
    (λ enabled through. asked_at _ enabled c.args.asked.now.seed _ c.args.place c.index_mut.result.now _ c.requires.place c.index_mut.ensures.value through)
    w) c.bench_with.ensures.asked
