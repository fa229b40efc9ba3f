use Rattle.std.proofs.Common.{◌≡◌, [], map, take}
use Rattle.width_check.specs.Processes.{TypedProgram}
use Rattle.handshake_expand.specs.Expansions.{block_value, channel_blocks, var_blocks}
use Rattle.handshake_expand.proofs.blocks.place_sites.Given as goal

abbrev pub invariant-loop-site : goal.invariant-loop-site
invariant-loop-site l = record {
  channels : (p : TypedProgram) → map block_value l.initial.channels ≡ channel_blocks p [] →
      map block_value l.channels ≡ channel_blocks p (take l.site-index l.sites);
  vars : (p : TypedProgram) → map block_value l.initial.vars ≡ var_blocks p [] → map block_value l.vars ≡ var_blocks p (take l.site-index l.sites);
}
