use Rattle.cell_sequence.proofs.Kept.{skip_kept, q_kept, loop_kept}
use Rattle.cell_sequence.proofs.laws.q_keeps.Goals as goal

pub returns : goal.returns
returns c = record { q_element = q_kept; skip = skip_kept; repetition = loop_kept }
