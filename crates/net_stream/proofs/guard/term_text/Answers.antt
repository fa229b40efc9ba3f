use Rattle.std.proofs.Common.{◌<◌, List, length, [], ◌++◌, All, arith}
use Rattle.std.proofs.lemmas.Result.{err_from_is_err_and}
use Rattle.std.proofs.lemmas.List.Elements.{All-head}
use Rattle.prs_core.specs.declared.rule.Literal.{Literal}
use Rattle.net_compose.specs.Circuits.{term_end}
use Rattle.net_compose.specs.Shapes.{all_wanted}
use Rattle.net_stream.proofs.Puts.{term_more, one_put, front_all, behind_all, term_count}
use Rattle.net_stream.proofs.guard.term_text.Goals as goal

pub literals_text-requires : goal.literals_text-requires
literals_text-requires c = front_all (λ (l : Literal). l.node < length c.args.net.now.first) c.args.first.now (all_wanted c.args.high c.args.nodes.now)
    (All-head (λ (t : List Literal). All (λ (l : Literal). l.node < length c.args.net.now.first) t)
    (c.args.first.now ++ all_wanted c.args.high c.args.nodes.now) [] c.requires.within)

pub nodes_text-requires : goal.nodes_text-requires
nodes_text-requires c = behind_all (λ (l : Literal). l.node < length c.args.net.now.first) c.args.first.now (all_wanted c.args.high c.args.nodes.now)
    (All-head (λ (t : List Literal). All (λ (l : Literal). l.node < length c.args.net.now.first) t)
    (c.args.first.now ++ all_wanted c.args.high c.args.nodes.now) [] c.requires.within)

pub returns-in_err-behind-clause-room : goal.returns-in_err-behind-clause-room
returns-in_err-behind-clause-room c =
    let p = err_from_is_err_and c.from_residual.result c.from_residual.ensures.1 in
    let count = term_count c.args.first.now (all_wanted c.args.high c.args.nodes.now) (term_end c.args.ending) in
    rw p.1 (omega (arith, count, c.in_err-behind.ensures.room))

pub returns-in_err-next-clause-room : goal.returns-in_err-next-clause-room
returns-in_err-next-clause-room c =
    let p = err_from_is_err_and c.from_residual-in_err-next.result c.from_residual-in_err-next.ensures.1 in
    let count = term_count c.args.first.now (all_wanted c.args.high c.args.nodes.now) (term_end c.args.ending) in
    let first = c.in_ok-behind.ensures.put in
    rw p.1 (omega (arith, count, first.long, c.in_err-next.ensures.room, c.literals_text.ensures.capacity))

pub returns-in_err-term_end_text-clause-room : goal.returns-in_err-term_end_text-clause-room
returns-in_err-term_end_text-clause-room c =
    let p = err_from_is_err_and c.from_residual-in_err-term_end_text.result c.from_residual-in_err-term_end_text.ensures.1 in
    let count = term_count c.args.first.now (all_wanted c.args.high c.args.nodes.now) (term_end c.args.ending) in
    let first = c.in_ok-behind.ensures.put in
    let second = c.in_ok-next.ensures.put in
    rw p.1 (omega (arith, count, first.long, second.long, c.in_err-term_end_text.ensures.room, c.literals_text.ensures.capacity, c.nodes_text.ensures.capacity))

pub returns-clause-put : goal.returns-clause-put
returns-clause-put c =
    let wanted = all_wanted c.args.high c.args.nodes.now in
    one_put c.args.net.now c.args.lead _ ((c.args.first.now ++ wanted) ++ term_end c.args.ending) _ _ _ _
    (term_more c.args.net.now c.args.lead _ _ (c.args.first.now ++ wanted) (term_end c.args.ending) _ _ _ _ _ _
    (term_more c.args.net.now c.args.lead _ _ c.args.first.now wanted _ _ _ _ _ _ c.in_ok-behind.ensures.put c.in_ok-next.ensures.put)
    c.in_ok-term_end_text.ensures.put)
