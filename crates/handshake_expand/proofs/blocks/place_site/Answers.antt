use Rattle.std.proofs.Common.{get_or, ap}
use Rattle.handshake_expand.specs.Expansions.{block_value, same_kind}
use Rattle.handshake_expand.specs.declared.site.SiteKind.TheVariants.{Send, Receive, Write}
use Rattle.handshake_expand.proofs.Placing.{channels_missed, vars_missed, send_placed, receive_placed, write_placed, send_unplaced, receive_unplaced, write_unplaced}
use Rattle.handshake_expand.proofs.blocks.place_site.Goals as goal

pub returns-in_ok-push-in-Send-clause-channels : goal.returns-in_ok-push-in-Send-clause-channels
returns-in_ok-push-in-Send-clause-channels c p before same =
    let old = get_or c.args.channels.now c.in-Send.chan c.index-channels-chan.result in
    send_placed p before c.args.site c.args.channels.now c.in-Send.chan old _ c.if-chan-channels.true
    (ap (λ d. get_or c.args.channels.now c.in-Send.chan d) c.index-channels-chan.is) c.in-Send.is
    (ap (λ ns. record (block_value old) { sends = ns }) c.in_ok-push-in-Send.ensures.items) same

pub returns-in_ok-push-in-Send-clause-vars : goal.returns-in_ok-push-in-Send-clause-vars
returns-in_ok-push-in-Send-clause-vars c p before same = vars_missed p before c.args.site c.args.vars.now (λ m low. ap (same_kind (Write m)) c.in-Send.is) same

pub returns-else-chan-channels-clause-channels : goal.returns-else-chan-channels-clause-channels
returns-else-chan-channels-clause-channels c p before same =
    send_unplaced p before c.args.site c.args.channels.now c.in-Send.chan c.if-chan-channels.false c.in-Send.is same

pub returns-else-chan-channels-clause-vars : goal.returns-else-chan-channels-clause-vars
returns-else-chan-channels-clause-vars c p before same = vars_missed p before c.args.site c.args.vars.now (λ m low. ap (same_kind (Write m)) c.in-Send.is) same

pub returns-in_ok-push-in-Receive-clause-channels : goal.returns-in_ok-push-in-Receive-clause-channels
returns-in_ok-push-in-Receive-clause-channels c p before same =
    let old = get_or c.args.channels.now c.in-Receive.chan c.index-channels-chan-then-chan-channels-2.result in
    receive_placed p before c.args.site c.args.channels.now c.in-Receive.chan old _ c.if-chan-channels-2.true
    (ap (λ d. get_or c.args.channels.now c.in-Receive.chan d) c.index-channels-chan-then-chan-channels-2.is) c.in-Receive.is
    (ap (λ ns. record (block_value old) { receives = ns }) c.in_ok-push-in-Receive.ensures.items) same

pub returns-in_ok-push-in-Receive-clause-vars : goal.returns-in_ok-push-in-Receive-clause-vars
returns-in_ok-push-in-Receive-clause-vars c p before same =
    vars_missed p before c.args.site c.args.vars.now (λ m low. ap (same_kind (Write m)) c.in-Receive.is) same

pub returns-else-chan-channels-2-clause-channels : goal.returns-else-chan-channels-2-clause-channels
returns-else-chan-channels-2-clause-channels c p before same =
    receive_unplaced p before c.args.site c.args.channels.now c.in-Receive.chan c.if-chan-channels-2.false c.in-Receive.is same

pub returns-else-chan-channels-2-clause-vars : goal.returns-else-chan-channels-2-clause-vars
returns-else-chan-channels-2-clause-vars c p before same =
    vars_missed p before c.args.site c.args.vars.now (λ m low. ap (same_kind (Write m)) c.in-Receive.is) same

pub returns-in_ok-push-in-Write-clause-vars : goal.returns-in_ok-push-in-Write-clause-vars
returns-in_ok-push-in-Write-clause-vars c p before same =
    let old = get_or c.args.vars.now c.in-Write.var c.index-vars-var.result in
    write_placed p before c.args.site c.args.vars.now c.in-Write.var old _ c.if-var-vars.true
    (ap (λ d. get_or c.args.vars.now c.in-Write.var d) c.index-vars-var.is) c.in-Write.is
    (ap (λ ns. record (block_value old) { writes = ns }) c.in_ok-push-in-Write.ensures.items) same

pub returns-in_ok-push-in-Write-clause-channels : goal.returns-in_ok-push-in-Write-clause-channels
returns-in_ok-push-in-Write-clause-channels c p before same =
    channels_missed p before c.args.site c.args.channels.now (λ m low. (ap (same_kind (Send m)) c.in-Write.is, ap (same_kind (Receive m)) c.in-Write.is)) same

pub returns-else-var-vars-clause-vars : goal.returns-else-var-vars-clause-vars
returns-else-var-vars-clause-vars c p before same = write_unplaced p before c.args.site c.args.vars.now c.in-Write.var c.if-var-vars.false c.in-Write.is same

pub returns-else-var-vars-clause-channels : goal.returns-else-var-vars-clause-channels
returns-else-var-vars-clause-channels c p before same =
    channels_missed p before c.args.site c.args.channels.now (λ m low. (ap (same_kind (Send m)) c.in-Write.is, ap (same_kind (Receive m)) c.in-Write.is)) same
