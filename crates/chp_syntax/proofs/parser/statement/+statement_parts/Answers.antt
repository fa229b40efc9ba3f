use Rattle.std.proofs.Common.{List, true, drop, map, arith, refl, sym, ap}
use Rattle.chp_syntax.specs.declared.token.TokenKind.TheVariants.{Sign}
use Rattle.chp_syntax.specs.declared.token.Mark.TheVariants as mark
use Rattle.chp_syntax.specs.declared.tree.Arm.{Arm}
use Rattle.chp_syntax.specs.declared.tree.Stmt.{Stmt}
use Rattle.chp_syntax.specs.Trees.{no_arms}
use Rattle.chp_syntax.specs.Grammar.{Atom, Guarded, guarded}
use Rattle.chp_syntax.specs.Parts.{Good, StopsAt, group_mark}
use Rattle.chp_syntax.specs.View.{expression_of, statement_of, guarded_of, armed_of, onto, and_guarded}
use Rattle.chp_syntax.proofs.Ands.{and_good, and_bad, made_good, made_on, on_both, made_bad, well_on, exit_of}
use Rattle.chp_syntax.proofs.Steps.{by_part, part_bad, good_done, exactly_good, exit, not_so, kind_within}
use Rattle.chp_syntax.proofs.Group.{group_bad_first, members_bad, members_end}
use Rattle.chp_syntax.proofs.Rows.{select_tree}
use Rattle.chp_syntax.proofs.Statements.{ahead_start, ahead_bad, ahead_more, joined_good, joined_on, choices_group, chosen_first, chosen_more, chosen_arm, branch_start, branch_seam, body_seam, round_start, round_1, round_2, round_3, star_start, star_1, star_2, star_3, star_4, square_start, square_1, square_2, square_3, atom_bad}
use Rattle.chp_syntax.proofs.Insides.{body_good, body_bad, arms_good, arms_bad}
use Rattle.chp_syntax.proofs.parser.statement.+statement_parts.Goals as goal

pub bracketed-returns-in_err-take_mark-clause-bad : goal.bracketed-returns-in_err-take_mark-clause-bad
bracketed-returns-in_err-take_mark-clause-bad t c =
    let s0 = round_start (drop c.args.at.now c.args.tokens.now) c.requires.front in
    exit c.from_residual.result c.in_err-take_mark.field-0.0 c.from_residual.ensures.1
    (part_bad round_1 s0) c.in_err-take_mark.ensures.bad

pub bracketed-returns-in_err-inner-clause-bad : goal.bracketed-returns-in_err-inner-clause-bad
bracketed-returns-in_err-inner-clause-bad t c =
    let s0 = round_start (drop c.args.at.now c.args.tokens.now) c.requires.front in
    let s1 = by_part round_1 s0 c.in_ok-take_mark.ensures.good in
    exit c.from_residual-in_err-inner.result c.in_err-inner.field-0.0 c.from_residual-in_err-inner.ensures.1 (part_bad round_2 s1)
    c.in_err-inner.ensures.bad

pub bracketed-returns-clause-bad : goal.bracketed-returns-clause-bad
bracketed-returns-clause-bad t c =
    let s0 = round_start (drop c.args.at.now c.args.tokens.now) c.requires.front in
    let s1 = by_part round_1 s0 c.in_ok-take_mark.ensures.good in
    let i = statement_of c.in_ok-inner.inner in
    let s2 = by_part round_2 s1 c.in_ok-inner.ensures.good in
    and_bad c.take_mark-close.result _ c.closed.ensures (part_bad (round_3 i) s2) c.take_mark-close.ensures.bad

pub bracketed-returns-clause-good : goal.bracketed-returns-clause-good
bracketed-returns-clause-good t c =
    let s0 = round_start (drop c.args.at.now c.args.tokens.now) c.requires.front in
    let s1 = by_part round_1 s0 c.in_ok-take_mark.ensures.good in
    let i = statement_of c.in_ok-inner.inner in
    let s2 = by_part round_2 s1 c.in_ok-inner.ensures.good in
    and_good (λ s. Good Atom (StopsAt 5) (drop c.args.at.now c.args.tokens.now) (drop c.take_mark-close.new.at c.args.tokens.now) (statement_of s))
    c.take_mark-close.result _ c.closed.ensures (λ e good. good_done (by_part (round_3 i) s2 good)) c.take_mark-close.ensures.good

pub repetition-returns-in_err-take_mark-clause-bad : goal.repetition-returns-in_err-take_mark-clause-bad
repetition-returns-in_err-take_mark-clause-bad t c =
    let s0 = star_start (drop c.args.at.now c.args.tokens.now) c.requires.front in
    exit c.from_residual.result c.in_err-take_mark.field-0.0 c.from_residual.ensures.1
    (part_bad star_1 s0) c.in_err-take_mark.ensures.bad

pub repetition-returns-in_err-take_mark-2-clause-bad : goal.repetition-returns-in_err-take_mark-2-clause-bad
repetition-returns-in_err-take_mark-2-clause-bad t c =
    let s0 = star_start (drop c.args.at.now c.args.tokens.now) c.requires.front in
    let s1 = by_part star_1 s0 c.in_ok-take_mark.ensures.good in
    exit c.from_residual-in_err-take_mark-2.result c.in_err-take_mark-2.field-0.0 c.from_residual-in_err-take_mark-2.ensures.1
    (part_bad star_2 s1) c.in_err-take_mark-2.ensures.bad

pub repetition-returns-in_err-inner-clause-bad : goal.repetition-returns-in_err-inner-clause-bad
repetition-returns-in_err-inner-clause-bad t c =
    let s0 = star_start (drop c.args.at.now c.args.tokens.now) c.requires.front in
    let s1 = by_part star_1 s0 c.in_ok-take_mark.ensures.good in
    let s2 = by_part star_2 s1 c.in_ok-take_mark-2.ensures.good in
    exit c.from_residual-in_err-inner.result c.in_err-inner.field-0.0 c.from_residual-in_err-inner.ensures.1 (part_bad star_3 s2)
    c.in_err-inner.ensures.bad

pub repetition-returns-clause-bad : goal.repetition-returns-clause-bad
repetition-returns-clause-bad t c =
    let s0 = star_start (drop c.args.at.now c.args.tokens.now) c.requires.front in
    let s1 = by_part star_1 s0 c.in_ok-take_mark.ensures.good in
    let s2 = by_part star_2 s1 c.in_ok-take_mark-2.ensures.good in
    let i = statement_of c.in_ok-inner.inner in
    let s3 = by_part star_3 s2 c.in_ok-inner.ensures.good in
    and_bad c.take_mark-close.result _ c.closed.ensures (part_bad (star_4 i) s3) c.take_mark-close.ensures.bad

pub repetition-returns-clause-good : goal.repetition-returns-clause-good
repetition-returns-clause-good t c =
    let s0 = star_start (drop c.args.at.now c.args.tokens.now) c.requires.front in
    let s1 = by_part star_1 s0 c.in_ok-take_mark.ensures.good in
    let s2 = by_part star_2 s1 c.in_ok-take_mark-2.ensures.good in
    let i = statement_of c.in_ok-inner.inner in
    let s3 = by_part star_3 s2 c.in_ok-inner.ensures.good in
    and_good (λ s. Good Atom (StopsAt 5) (drop c.args.at.now c.args.tokens.now) (drop c.take_mark-close.new.at c.args.tokens.now) (statement_of s))
    c.take_mark-close.result _ c.closed.ensures (λ e good. good_done (by_part (star_4 i) s3 good)) c.take_mark-close.ensures.good

pub selection-returns-in_err-take_mark-clause-bad : goal.selection-returns-in_err-take_mark-clause-bad
selection-returns-in_err-take_mark-clause-bad t c =
    let s0 = square_start (drop c.args.at.now c.args.tokens.now) c.requires.front in
    exit c.from_residual.result c.in_err-take_mark.field-0.0 c.from_residual.ensures.1
    (part_bad square_1 s0) c.in_err-take_mark.ensures.bad

pub selection-returns-in_err-arms-clause-bad : goal.selection-returns-in_err-arms-clause-bad
selection-returns-in_err-arms-clause-bad t c =
    let s0 = square_start (drop c.args.at.now c.args.tokens.now) c.requires.front in
    let s1 = by_part square_1 s0 c.in_ok-take_mark.ensures.good in
    exit c.from_residual-in_err-arms.result c.in_err-arms.field-0.0 c.from_residual-in_err-arms.ensures.1 (part_bad square_2 s1)
    c.in_err-arms.ensures.bad

pub selection-returns-clause-moved : goal.selection-returns-clause-moved
selection-returns-clause-moved t c =
    made_on _ c.take_mark-close.result c.select.result c.select.ensures.done c.take_mark-close.ensures.moved
    (λ m. omega (arith, m, c.in_ok-take_mark.ensures.moved, c.in_ok-arms.ensures.moved))

pub selection-returns-clause-good : goal.selection-returns-clause-good
selection-returns-clause-good t c =
    let s0 = square_start (drop c.args.at.now c.args.tokens.now) c.requires.front in
    let s1 = by_part square_1 s0 c.in_ok-take_mark.ensures.good in
    let i = armed_of c.in_ok-arms.arms in
    let s2 = by_part square_2 s1 c.in_ok-arms.ensures.good in
    made_good c.take_mark-close.result c.select.result c.select.ensures.done c.take_mark-close.ensures.good
    (λ s x is good. rw is (good_done (by_part (square_3 i) s2 good)))

pub selection-returns-clause-bad : goal.selection-returns-clause-bad
selection-returns-clause-bad t c =
    let s0 = square_start (drop c.args.at.now c.args.tokens.now) c.requires.front in
    let s1 = by_part square_1 s0 c.in_ok-take_mark.ensures.good in
    let i = armed_of c.in_ok-arms.arms in
    let s2 = by_part square_2 s1 c.in_ok-arms.ensures.good in
    made_bad c.take_mark-close.result c.select.result c.select.ensures.fault c.take_mark-close.ensures.bad (part_bad (square_3 i) s2)

pub atom-returns-in-Other-clause-bad : goal.atom-returns-in-Other-clause-bad
atom-returns-in-Other-clause-bad t c =
    atom_bad (drop c.args.at.now c.args.tokens.now) (sym c.in-Other.ensures)

pub branch-returns-in_err-guard-clause-bad : goal.branch-returns-in_err-guard-clause-bad
branch-returns-in_err-guard-clause-bad t c =
    let s0 = branch_start (drop c.args.at.now c.args.tokens.now) in
    exit c.from_residual.result c.in_err-guard.field-0.0 c.from_residual.ensures.1 (part_bad branch_seam s0) c.in_err-guard.ensures.bad

pub branch-returns-clause-moved : goal.branch-returns-clause-moved
branch-returns-clause-moved t c =
    on_both _ c.grouped-body.result c.add_arm.result c.add_arm.ensures.done c.grouped-body.ensures.moved
    (λ m. omega (arith, m, c.in_ok-guard.ensures.moved))

pub branch-returns-clause-good : goal.branch-returns-clause-good
branch-returns-clause-good t c =
    let s0 = branch_start (drop c.args.at.now c.args.tokens.now) in
    let e = expression_of c.in_ok-guard.guard in
    let s1 = by_part branch_seam s0 c.in_ok-guard.ensures.good in
    chosen_arm _ _ (λ s. guarded e (statement_of s)) c.grouped-body.result c.add_arm.result c.add_arm.ensures.done c.grouped-body.ensures.good
    (λ s good. good_done (by_part (body_seam e) s1 good))

pub branch-returns-clause-bad : goal.branch-returns-clause-bad
branch-returns-clause-bad t c =
    let s0 = branch_start (drop c.args.at.now c.args.tokens.now) in
    let e = expression_of c.in_ok-guard.guard in
    let s1 = by_part branch_seam s0 c.in_ok-guard.ensures.good in
    made_bad c.grouped-body.result c.add_arm.result c.add_arm.ensures.fault c.grouped-body.ensures.bad (part_bad (body_seam e) s1)

pub inside-returns-then-begins_statement-clause-moved : goal.inside-returns-then-begins_statement-clause-moved
inside-returns-then-begins_statement-clause-moved t c =
    made_on _ c.grouped-body.result c.repeat.result c.repeat.ensures.done c.grouped-body.ensures.moved (λ m. m)

pub inside-returns-then-begins_statement-clause-good : goal.inside-returns-then-begins_statement-clause-good
inside-returns-then-begins_statement-clause-good t c =
    made_good c.grouped-body.result c.repeat.result c.repeat.ensures.done c.grouped-body.ensures.good (λ b x is good. rw is (body_good good))

pub inside-returns-then-begins_statement-clause-bad : goal.inside-returns-then-begins_statement-clause-bad
inside-returns-then-begins_statement-clause-bad t c =
    made_bad c.grouped-body.result c.repeat.result c.repeat.ensures.fault c.grouped-body.ensures.bad (body_bad (sym c.if-begins_statement.ensures))

pub inside-returns-in_err-arms-clause-bad : goal.inside-returns-in_err-arms-clause-bad
inside-returns-in_err-arms-clause-bad t c =
    exit c.from_residual.result c.in_err-arms.field-0.0 c.from_residual.ensures.1 (arms_bad (sym c.if-begins_statement.ensures)) c.in_err-arms.ensures.bad

pub inside-returns-clause-good : goal.inside-returns-clause-good
inside-returns-clause-good t c =
    rw (select_tree true c.in_ok-arms.arms) (arms_good c.in_ok-arms.ensures.good)

pub choices-returns-in_err-branch-clause-bad : goal.choices-returns-in_err-branch-clause-bad
choices-returns-in_err-branch-clause-bad t c =
    exit c.from_residual.result c.in_err-branch.field-0.0 c.from_residual.ensures.1 (group_bad_first choices_group) c.in_err-branch.ensures.bad

pub choices-loop-alloc-init : goal.choices-loop-alloc-init
choices-loop-alloc-init t c =
    record {
      within = c.in_ok-branch.ensures.within;
      moved = c.in_ok-branch.ensures.moved;
      read = chosen_first (ap (λ (vs : List Arm). map guarded_of vs) c.new-arms.ensures.items) c.in_ok-branch.ensures.good;
    }

pub choices-returns-in_err-branch-2-clause-bad : goal.choices-returns-in_err-branch-2-clause-bad
choices-returns-in_err-branch-2-clause-bad t c =
    let sign = exactly_good (Sign mark.Choice) c.args.tokens.now c.loop-alloc.at (c.loop-alloc-test.ensures.0 refl) in
    exit c.from_residual-in_err-branch-2.result c.in_err-branch-2.field-0.0 c.from_residual-in_err-branch-2.ensures.1
    (members_bad choices_group c.loop-alloc.invariant.read sign) c.in_err-branch-2.ensures.bad

pub choices-loop-alloc-preserved : goal.choices-loop-alloc-preserved
choices-loop-alloc-preserved t c =
    let sign = exactly_good (Sign mark.Choice) c.args.tokens.now c.loop-alloc.at (c.loop-alloc-test.ensures.0 refl) in
    record {
      within = c.in_ok-branch-2.ensures.within;
      moved = omega (arith, c.loop-alloc.invariant.moved, c.in_ok-branch-2.ensures.moved);
      read = chosen_more c.loop-alloc.invariant.read sign c.in_ok-branch-2.ensures.good;
    }

pub choices-returns-clause-good : goal.choices-returns-clause-good
choices-returns-clause-good t c =
    members_end choices_group (armed_of c.loop-alloc.arms) c.loop-alloc.invariant.read (not_so c.loop-alloc-test.ensures.1)
    (λ b got e. ap (λ (ys : List Guarded). onto and_guarded ys no_arms) (sym e))

pub member-returns-in-Both-clause-good : goal.member-returns-in-Both-clause-good
member-returns-in-Both-clause-good t c = rw c.in-Both.is c.atom.ensures.good

pub member-returns-in-Both-clause-bad : goal.member-returns-in-Both-clause-bad
member-returns-in-Both-clause-bad t c = rw c.in-Both.is c.atom.ensures.bad

pub member-returns-in-Seq-clause-good : goal.member-returns-in-Seq-clause-good
member-returns-in-Seq-clause-good t c = rw c.in-Seq.is c.grouped.ensures.good

pub member-returns-in-Seq-clause-bad : goal.member-returns-in-Seq-clause-bad
member-returns-in-Seq-clause-bad t c = rw c.in-Seq.is c.grouped.ensures.bad

pub member-returns-in-Par-clause-good : goal.member-returns-in-Par-clause-good
member-returns-in-Par-clause-good t c = rw c.in-Par.is c.grouped-in-Par.ensures.good

pub member-returns-in-Par-clause-bad : goal.member-returns-in-Par-clause-bad
member-returns-in-Par-clause-bad t c = rw c.in-Par.is c.grouped-in-Par.ensures.bad

pub grouped-loop-alloc-init : goal.grouped-loop-alloc-init
grouped-loop-alloc-init t c =
    record {
      within = c.requires;
      moved = omega arith;
      read = ahead_start (ap (λ (vs : List Stmt). map statement_of vs) c.new-parts.ensures.items);
    }

pub grouped-returns-then-not-continues-clause-moved : goal.grouped-returns-then-not-continues-clause-moved
grouped-returns-then-not-continues-clause-moved t c =
    joined_on _ c.loop-alloc.parts.items c.member-next.result c.joined.result c.joined.ensures.alone c.joined.ensures.several c.member-next.ensures.moved
    (λ m. omega (arith, m, c.loop-alloc.invariant.moved))

pub grouped-returns-then-not-continues-clause-good : goal.grouped-returns-then-not-continues-clause-good
grouped-returns-then-not-continues-clause-good t c =
    joined_good c.args.group _ c.loop-alloc.parts.items c.member-next.result c.joined.result c.joined.ensures.alone c.joined.ensures.several
    c.loop-alloc.invariant.read (not_so c.if-not-continues.ensures.1) c.member-next.ensures.good

pub grouped-returns-then-not-continues-clause-bad : goal.grouped-returns-then-not-continues-clause-bad
grouped-returns-then-not-continues-clause-bad t c =
    made_bad c.member-next.result c.joined.result c.joined.ensures.fault c.member-next.ensures.bad (ahead_bad c.args.group c.loop-alloc.invariant.read)

pub grouped-returns-in_err-add_member-clause-bad : goal.grouped-returns-in_err-add_member-clause-bad
grouped-returns-in_err-add_member-clause-bad t c =
    exit_of c.member-next.result c.from_residual.result c.in_err-add_member.field-0.0 c.from_residual.ensures.1 c.in_err-add_member.ensures.fault
    c.member-next.ensures.bad (ahead_bad c.args.group c.loop-alloc.invariant.read)

pub grouped-loop-alloc-preserved : goal.grouped-loop-alloc-preserved
grouped-loop-alloc-preserved t c =
    let k = Sign (group_mark c.args.group) in
    let here = c.if-not-continues.ensures.0 refl in
    record {
      within = kind_within k c.args.tokens.now c.member-next.new.at here;
      moved = omega (arith, c.loop-alloc.invariant.moved, well_on _ c.member-next.result c.in_ok-add_member.ensures.done c.member-next.ensures.moved);
      read = ahead_more c.args.group c.member-next.result c.loop-alloc.invariant.read c.in_ok-add_member.ensures.done c.member-next.ensures.good
          (exactly_good k c.args.tokens.now c.member-next.new.at here);
    }
