use Rattle.cell_channel.proofs.PortKeeps.{port_kept}
use Rattle.cell_channel.proofs.PortPlaces.{numbered}
use Rattle.cell_channel.proofs.laws.ends_keep.Goals as goal

pub returns : goal.returns
returns c = record { answer = c.site_keeps.ensures; port = port_kept; numbered = λ request ack from rails. numbered request from rails }
