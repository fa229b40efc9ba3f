use Rattle.std.proofs.Common.{◌≡◌, ◌∙◌, ℕ, suc, ◌+◌, ◌<◌, List, length, get_or, take, sym, subst, arith}
use Rattle.std.specs.Prelude.{All}
use Rattle.std.proofs.Math.Seq.{take-suc}
use Rattle.std.proofs.lemmas.List.{take_all}
use Rattle.std.proofs.lemmas.List.Elements.{All-push}
use Rattle.chp_base.specs.Names.{IsNodeName}
use Rattle.wave_file.proofs.Dumps.{var_more}
use Rattle.wave_file.proofs.write.var_lines.Goals as goal

pub loop-node-preserved : goal.loop-node-preserved
loop-node-preserved c =
    let names = c.args.names.now in
    let i = c.loop-node.node in
    let next : suc i ≡ i + 1 = omega arith in
    record {
      told = var_more names i _ c.loop-node.to.items _ (omega (arith, c.loop-node-test.true)) c.index-names-node.is
          c.in_ok-name_line.ensures.line ∙ c.loop-node.invariant.told;
      named =
          let name = c.index-names-node.result in
          let within : i < length names = omega (arith, c.loop-node-test.true) in
          subst (λ (n : ℕ). All IsNodeName (take n names)) next
          (subst (λ (ns : List (List ℕ)). All IsNodeName ns) (sym (take-suc names i name within))
          (All-push IsNodeName (take i names) (get_or names i name) c.loop-node.invariant.named
          (subst IsNodeName c.index-names-node.is c.name_line.ensures.named)));
    }

pub returns-clause-named : goal.returns-clause-named
returns-clause-named c =
    let names = c.args.names.now in
    subst (λ (ns : List (List ℕ)). All IsNodeName ns) (take_all c.loop-node.node names (omega (arith, c.loop-node-test.false)))
    c.loop-node.invariant.named
