use Rattle.std.proofs.Common.{◌≡◌, true, sym, ◌∙◌, arith}
use Rattle.std.proofs.lemmas.Bool.{both_ways}
use Rattle.std.proofs.lemmas.Bool.Decides.{nat_tests}
use Rattle.std.proofs.lemmas.List.Sums.{list_all-from_AllPass}
use Rattle.chp_base.specs.Names.{digit}
use Rattle.std.specs.Prelude.{length, ◌≤◌}
use Rattle.std.specs.List.{list_all}
use Rattle.prs_file.proofs.Openings.{digits_are, behind_word}
use Rattle.prs_file.proofs.opening.is_bad_version.Goals as goal
use Rattle.prs_file.proofs.opening.is_bad_version.Goals.{then-is_empty-via-then-is_empty, then-is_empty-via-else-is_empty+then-digits-gt9, then-is_empty-via-else-is_empty+else-digits-gt9+then-not-are_digits}

pub returns-then-is_empty-clause-no : goal.returns-then-is_empty-clause-no
returns-then-is_empty-clause-no c = λ e digits is.
    let bare = c.bare-digits.result.now in
    let same : bare ≡ digits = digits_are c.in-Some.text.now bare digits c.bare-digits.ensures.two c.bare-digits.ensures.ended is.numeral
    (behind_word c.args.line.now c.in-Some.text.now digits c.in-Some.ensures.some is.spelled) in
    let some : 1 ≤ length bare = rw same is.some in
    let most : length bare ≤ 9 = rw same is.most in
    let all : list_all digit bare ≡ true = rw same (list_all-from_AllPass digit digits is.numeral) in
    elim c.then-is_empty.branch [
      | then-is_empty-via-then-is_empty w ↦ grind (arith, nat_tests, c.is_empty.ensures, w.if-is_empty.true)
      | then-is_empty-via-else-is_empty+then-digits-gt9 w ↦ absurd (omega (arith, w.if-digits-gt9.true))
      | then-is_empty-via-else-is_empty+else-digits-gt9+then-not-are_digits w ↦ both_ways (list_all digit bare) (sym w.are_digits.ensures
          ∙ w.if-not-are_digits.true) all
    ]
