use Rattle.env_script.proofs.reader.read_offers.Goals as goal

pub returns : goal.returns
returns c = rw c.in_ok-index.ensures at c.read_lines.ensures
