use Rattle.std.proofs.Common.{drop, sym}
use Rattle.chp_syntax.proofs.Steps.{by_part, part_bad, good_done, exit}
use Rattle.chp_syntax.proofs.Statements.{act_start, target_seam, assigned_start, sent_start, received_start, action_bad, assign_1, assign_2, send_1, send_2, receive_1, receive_2}
use Rattle.chp_syntax.proofs.parser.statement.action.Goals as goal

pub returns-in_err-name-clause-bad : goal.returns-in_err-name-clause-bad
returns-in_err-name-clause-bad c =
    let s0 = act_start (drop c.args.at.now c.args.tokens.now) c.requires.front in
    exit c.from_residual.result c.in_err-name.field-0.0 c.from_residual.ensures.1 (part_bad target_seam s0) c.in_err-name.ensures.bad

pub returns-in_err-take_mark-in-Assign-clause-bad : goal.returns-in_err-take_mark-in-Assign-clause-bad
returns-in_err-take_mark-in-Assign-clause-bad c =
    let s0 = act_start (drop c.args.at.now c.args.tokens.now) c.requires.front in
    let i = c.in_ok-name.name in
    let s1 = by_part target_seam s0 c.in_ok-name.ensures.good in
    let s2 = assigned_start i s1 (sym c.in-Assign.ensures) in
    exit c.from_residual-in_err-take_mark-in-Assign.result c.in_err-take_mark-in-Assign.field-0.0 c.from_residual-in_err-take_mark-in-Assign.ensures.1
    (part_bad (assign_1 i) s2) c.in_err-take_mark-in-Assign.ensures.bad

pub returns-in_err-value-in-Assign-clause-bad : goal.returns-in_err-value-in-Assign-clause-bad
returns-in_err-value-in-Assign-clause-bad c =
    let s0 = act_start (drop c.args.at.now c.args.tokens.now) c.requires.front in
    let i = c.in_ok-name.name in
    let s1 = by_part target_seam s0 c.in_ok-name.ensures.good in
    let s2 = assigned_start i s1 (sym c.in-Assign.ensures) in
    let s3 = by_part (assign_1 i) s2 c.in_ok-take_mark-in-Assign.ensures.good in
    exit c.from_residual-in_err-value-in-Assign.result c.in_err-value-in-Assign.field-0.0 c.from_residual-in_err-value-in-Assign.ensures.1
    (part_bad (assign_2 i) s3) c.in_err-value-in-Assign.ensures.bad

pub returns-in_ok-value-in-Assign-clause-good : goal.returns-in_ok-value-in-Assign-clause-good
returns-in_ok-value-in-Assign-clause-good c =
    let s0 = act_start (drop c.args.at.now c.args.tokens.now) c.requires.front in
    let i = c.in_ok-name.name in
    let s1 = by_part target_seam s0 c.in_ok-name.ensures.good in
    let s2 = assigned_start i s1 (sym c.in-Assign.ensures) in
    let s3 = by_part (assign_1 i) s2 c.in_ok-take_mark-in-Assign.ensures.good in
    good_done (by_part (assign_2 i) s3 c.in_ok-value-in-Assign.ensures.good)

pub returns-in_err-take_mark-in-Send-clause-bad : goal.returns-in_err-take_mark-in-Send-clause-bad
returns-in_err-take_mark-in-Send-clause-bad c =
    let s0 = act_start (drop c.args.at.now c.args.tokens.now) c.requires.front in
    let i = c.in_ok-name.name in
    let s1 = by_part target_seam s0 c.in_ok-name.ensures.good in
    let s2 = sent_start i s1 (sym c.in-Send.ensures) in
    exit c.from_residual-in_err-take_mark-in-Send.result c.in_err-take_mark-in-Send.field-0.0 c.from_residual-in_err-take_mark-in-Send.ensures.1
    (part_bad (send_1 i) s2) c.in_err-take_mark-in-Send.ensures.bad

pub returns-in_err-value-in-Send-clause-bad : goal.returns-in_err-value-in-Send-clause-bad
returns-in_err-value-in-Send-clause-bad c =
    let s0 = act_start (drop c.args.at.now c.args.tokens.now) c.requires.front in
    let i = c.in_ok-name.name in
    let s1 = by_part target_seam s0 c.in_ok-name.ensures.good in
    let s2 = sent_start i s1 (sym c.in-Send.ensures) in
    let s3 = by_part (send_1 i) s2 c.in_ok-take_mark-in-Send.ensures.good in
    exit c.from_residual-in_err-value-in-Send.result c.in_err-value-in-Send.field-0.0 c.from_residual-in_err-value-in-Send.ensures.1 (part_bad (send_2 i) s3)
    c.in_err-value-in-Send.ensures.bad

pub returns-in_ok-value-in-Send-clause-good : goal.returns-in_ok-value-in-Send-clause-good
returns-in_ok-value-in-Send-clause-good c =
    let s0 = act_start (drop c.args.at.now c.args.tokens.now) c.requires.front in
    let i = c.in_ok-name.name in
    let s1 = by_part target_seam s0 c.in_ok-name.ensures.good in
    let s2 = sent_start i s1 (sym c.in-Send.ensures) in
    let s3 = by_part (send_1 i) s2 c.in_ok-take_mark-in-Send.ensures.good in
    good_done (by_part (send_2 i) s3 c.in_ok-value-in-Send.ensures.good)

pub returns-in_err-take_mark-in-Receive-clause-bad : goal.returns-in_err-take_mark-in-Receive-clause-bad
returns-in_err-take_mark-in-Receive-clause-bad c =
    let s0 = act_start (drop c.args.at.now c.args.tokens.now) c.requires.front in
    let i = c.in_ok-name.name in
    let s1 = by_part target_seam s0 c.in_ok-name.ensures.good in
    let s2 = received_start i s1 (sym c.in-Receive.ensures) in
    exit c.from_residual-in_err-take_mark-in-Receive.result c.in_err-take_mark-in-Receive.field-0.0 c.from_residual-in_err-take_mark-in-Receive.ensures.1
    (part_bad (receive_1 i) s2) c.in_err-take_mark-in-Receive.ensures.bad

pub returns-in_err-target-in-Receive-clause-bad : goal.returns-in_err-target-in-Receive-clause-bad
returns-in_err-target-in-Receive-clause-bad c =
    let s0 = act_start (drop c.args.at.now c.args.tokens.now) c.requires.front in
    let i = c.in_ok-name.name in
    let s1 = by_part target_seam s0 c.in_ok-name.ensures.good in
    let s2 = received_start i s1 (sym c.in-Receive.ensures) in
    let s3 = by_part (receive_1 i) s2 c.in_ok-take_mark-in-Receive.ensures.good in
    exit c.from_residual-in_err-target-in-Receive.result c.in_err-target-in-Receive.field-0.0 c.from_residual-in_err-target-in-Receive.ensures.1
    (part_bad (receive_2 i) s3) c.in_err-target-in-Receive.ensures.bad

pub returns-in_ok-target-in-Receive-clause-good : goal.returns-in_ok-target-in-Receive-clause-good
returns-in_ok-target-in-Receive-clause-good c =
    let s0 = act_start (drop c.args.at.now c.args.tokens.now) c.requires.front in
    let i = c.in_ok-name.name in
    let s1 = by_part target_seam s0 c.in_ok-name.ensures.good in
    let s2 = received_start i s1 (sym c.in-Receive.ensures) in
    let s3 = by_part (receive_1 i) s2 c.in_ok-take_mark-in-Receive.ensures.good in
    good_done (by_part (receive_2 i) s3 c.in_ok-target-in-Receive.ensures.good)

pub returns-in-Other-clause-bad : goal.returns-in-Other-clause-bad
returns-in-Other-clause-bad c =
    let s0 = act_start (drop c.args.at.now c.args.tokens.now) c.requires.front in
    let i = c.in_ok-name.name in
    let s1 = by_part target_seam s0 c.in_ok-name.ensures.good in
    action_bad i s1 (sym c.in-Other.ensures)
