use Rattle.std.proofs.Common.{drop, arith, length-drop}
use Rattle.chp_syntax.specs.Tokens.{so_far, IsGap, IsToken, IsNoToken}
use Rattle.chp_syntax.proofs.Cutting.{gap_within, token_within, cut_gap, cut_token, cut_bad, cut_end, bad_no_cut, one_bad, one_cut, in_order}
use Rattle.chp_syntax.proofs.Fronts.{front_at}
use Rattle.chp_syntax.proofs.scan.tokens.Goals as goal

pub loop-at-init : goal.loop-at-init
loop-at-init c = (omega arith, rw c.new-tokens.ensures.items so_far)

pub overflow_add-at : goal.overflow_add-at
overflow_add-at c =
    let gap : IsGap c.in-Gap.length (drop c.loop-at.at c.args.text.now) = front_at c.args.text.now c.loop-at.at _ _ c.in_ok-length.ensures c.in-Gap.is in
    omega (arith, (gap_within _ _ gap).1, length-drop c.loop-at.at c.args.text.now)

pub loop-at-preserved-in-Gap : goal.loop-at-preserved-in-Gap
loop-at-preserved-in-Gap c =
    let gap : IsGap c.in-Gap.length (drop c.loop-at.at c.args.text.now) = front_at c.args.text.now c.loop-at.at _ _ c.in_ok-length.ensures c.in-Gap.is in
    (omega (arith, (gap_within _ _ gap).1, length-drop c.loop-at.at c.args.text.now), cut_gap _ _ _ _ c.loop-at.invariant.1 gap)

pub loop-at-preserved : goal.loop-at-preserved
loop-at-preserved c =
    let token : IsToken c.in-Piece.kind c.in-Piece.length (drop c.loop-at.at c.args.text.now) =
    front_at c.args.text.now c.loop-at.at _ _ c.in_ok-length.ensures c.in-Piece.is in (
      omega (arith, (token_within _ _ _ token).1, length-drop c.loop-at.at c.args.text.now),
      rw (c.in_ok-push-in-Piece.ensures.items, c.span.ensures) (cut_token _ _ _ _ _ c.loop-at.invariant.1 token),
    )

pub returns-in-Bad-clause-refused : goal.returns-in-Bad-clause-refused
returns-in-Bad-clause-refused c =
    let bad : IsNoToken c.in-Bad.length (drop c.loop-at.at c.args.text.now) = front_at c.args.text.now c.loop-at.at _ _ c.in_ok-length.ensures c.in-Bad.is in
    rw (c.bad_token.ensures) (bad_no_cut _ _ (cut_bad _ _ _ _ c.loop-at.invariant.1 bad))

pub returns-in-Bad-clause-first : goal.returns-in-Bad-clause-first
returns-in-Bad-clause-first c =
    let bad : IsNoToken c.in-Bad.length (drop c.loop-at.at c.args.text.now) = front_at c.args.text.now c.loop-at.at _ _ c.in_ok-length.ensures c.in-Bad.is in
    rw (c.bad_token.ensures, c.span-in-Bad.ensures) (λ s h. one_bad c.args.text.now s _ h (cut_bad _ _ _ _ c.loop-at.invariant.1 bad))

pub returns-clause-only : goal.returns-clause-only
returns-clause-only c = λ us h. one_cut _ _ _ h (cut_end _ _ _ c.loop-at.invariant.0 c.loop-at-test.false c.loop-at.invariant.1)

pub returns-clause-within : goal.returns-clause-within
returns-clause-within c = in_order (cut_end _ _ _ c.loop-at.invariant.0 c.loop-at-test.false c.loop-at.invariant.1)
