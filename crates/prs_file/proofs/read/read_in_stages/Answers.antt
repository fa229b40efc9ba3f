use Rattle.std.proofs.Common.{◌≡◌, true, sym, ap, ◌∙◌, subst, arith}
use Rattle.prs_file.specs.NodesTold.{IsNodesRead}
use Rattle.prs_file.specs.Openings.{opening, text_behind}
use Rattle.prs_file.specs.Spelling.{spelling}
use Rattle.prs_file.proofs.NetMade.{is_net, reset_told}
use Rattle.prs_file.proofs.NetSpelled.{text_is}
use Rattle.prs_file.proofs.read.read_in_stages.Goals as goal

pub read_rules-requires-clause-reset : goal.read_rules-requires-clause-reset
read_rules-requires-clause-reset c =
    let n = c.in_ok-nodes.nodes in
    let version = c.in_ok-version.version in
    let whole = text_behind (opening version) c.in_ok-version.behind_opening.now in
    let read = subst (λ v. IsNodesRead v n.index n.first.items true whole c.in_ok-nodes.behind_nodes.now) (sym c.in_ok-nodes.ensures.version)
    c.in_ok-nodes.ensures.read in
    reset_told n.version n.index n.first.items whole c.in_ok-nodes.behind_nodes.now read

pub made-requires : goal.made-requires
made-requires c =
    let n = c.in_ok-nodes.nodes in
    let version = c.in_ok-version.version in
    let whole = text_behind (opening version) c.in_ok-version.behind_opening.now in
    let read = subst (λ v. IsNodesRead v n.index n.first.items true whole c.in_ok-nodes.behind_nodes.now) (sym c.in_ok-nodes.ensures.version)
    c.in_ok-nodes.ensures.read in
    let table = rw c.deref.ensures.value at c.in_ok-rules.ensures.table in
    is_net n.version n.index n.first.items c.in_ok-channels.channels.items c.in_ok-rules.rules _ c.in_ok-channels.behind_channels.now read.nodes
    (reset_told n.version n.index n.first.items whole c.in_ok-nodes.behind_nodes.now read) c.in_ok-channels.ensures.read table

pub returns-clause-text : goal.returns-clause-text
returns-clause-text c =
    let n = c.in_ok-nodes.nodes in
    let version = c.in_ok-version.version in
    let ws = c.in_ok-channels.channels.items in
    let rules = c.in_ok-rules.rules in
    let t1 = c.in_ok-version.behind_opening.now in
    let t2 = c.in_ok-nodes.behind_nodes.now in
    let t3 = c.in_ok-channels.behind_channels.now in
    let same = c.in_ok-nodes.ensures.version in
    let whole = text_behind (opening version) t1 in
    let read = subst (λ v. IsNodesRead v n.index n.first.items true whole t2) (sym same) c.in_ok-nodes.ensures.read in
    let e1 : c.args.text.now ≡ text_behind (opening n.version) t1 = c.in_ok-version.ensures.taken.told ∙ ap (λ v. text_behind (opening v) t1) (sym same) in
    let e2 = ap (λ v. text_behind (opening v) t1) same ∙ read.taken.told in
    let taken = rw c.deref.ensures.value at c.in_ok-rules.ensures.taken in
    text_is n.version n.index n.first.items ws rules c.args.text.now t1 t2 t3 e1 e2 c.in_ok-channels.ensures.read.taken.told taken.told read.nodes.count
    (omega (arith, same, c.in_ok-version.ensures.known)) (omega (arith, same, c.in_ok-version.ensures.known)) ∙ ap spelling (sym c.made.ensures)
