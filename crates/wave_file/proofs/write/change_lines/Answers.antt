use Rattle.std.proofs.Common.{◌≡◌, ℕ, suc, ◌+◌, ◌<◌, ◌^◌, List, take, sym, subst, arith}
use Rattle.std.specs.Prelude.{All}
use Rattle.std.proofs.Math.Seq.{take-suc}
use Rattle.std.proofs.lemmas.Grind.{common_steps}
use Rattle.std.proofs.lemmas.List.{take_all}
use Rattle.std.proofs.lemmas.List.Elements.{All-push}
use Rattle.wave_file.proofs.write.change_lines.Goals as goal

pub loop-time-preserved : goal.loop-time-preserved
loop-time-preserved c =
    let changes = c.args.changes.now in
    let i = c.loop-time.time-index in
    let next : suc i ≡ i + 1 = omega arith in
    record {
      told = grind (arith, common_steps);
      count = grind (arith, common_steps);
      small = subst (λ (n : ℕ). All (λ (c : ℕ × ℕ). c.0 < 2 ^ 64) (take n changes)) next
          (subst (λ (cs : List (ℕ × ℕ)). All (λ (c : ℕ × ℕ). c.0 < 2 ^ 64) cs) (sym (take-suc changes i (0, 0) c.loop-time-test.true))
          (All-push (λ (c : ℕ × ℕ). c.0 < 2 ^ 64) (take i changes) _ c.loop-time.invariant.small c.change_line.ensures.small));
    }

pub returns-clause-small : goal.returns-clause-small
returns-clause-small c =
    subst (λ (cs : List (ℕ × ℕ)). All (λ (c : ℕ × ℕ). c.0 < 2 ^ 64) cs) (take_all c.loop-time.time-index c.args.changes.now c.loop-time-test.false)
    c.loop-time.invariant.small
