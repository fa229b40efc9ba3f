use Rattle.handshake_expand.specs.Expansions.{expansion}
use Rattle.handshake_expand.specs.Layout.{nodes_of}
use Rattle.handshake_expand.specs.PartLaws.{outer_ranges}
use Rattle.handshake_expand.proofs.Ranges.{blocks_follow, follow_apart, follow_all}
use Rattle.handshake_expand.proofs.laws.blocks_cover.Goals as goal

pub returns-clause-follow : goal.returns-clause-follow
returns-clause-follow c = blocks_follow

pub returns-clause-apart : goal.returns-clause-apart
returns-clause-apart c p = follow_apart 2 (nodes_of p) (outer_ranges (expansion p)) (blocks_follow p)

pub returns-clause-all : goal.returns-clause-all
returns-clause-all c p node low high = follow_all 2 (nodes_of p) (outer_ranges (expansion p)) node (blocks_follow p) low high
