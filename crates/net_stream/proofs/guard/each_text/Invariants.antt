use Rattle.std.proofs.Common.{◌≤◌, [], ◌∷◌, drop, map, vec_len, vec_capacity}
use Rattle.prs_core.specs.Nets.{is_high}
use Rattle.prs_file.specs.declared.forms.Lead.TheVariants.{Rule}
use Rattle.net_compose.specs.Circuits.{with_ends}
use Rattle.net_stream.proofs.Puts.{IsLeft}
use Rattle.net_stream.proofs.guard.each_text.Given as goal

abbrev pub invariant-loop-node : goal.invariant-loop-node
invariant-loop-node l = record {
  left : IsLeft l.net Rule l.lead (with_ends l.ending (map (λ k. is_high k ∷ []) l.nodes))
      (with_ends l.ending (map (λ k. is_high k ∷ []) (drop l.node-index l.nodes))) l.initial.to.items l.to.items (vec_len l.initial.to) (vec_len l.to);
  capacity : vec_capacity l.initial.to ≤ vec_capacity l.to;
}
