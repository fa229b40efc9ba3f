use Rattle.std.specs.Prelude.{codes}
use Rattle.std.proofs.Common.{◌++◌}
use Rattle.wave_file.specs.Waves.{naming_lines, first_lines, change_lines}
use Rattle.wave_file.proofs.Dumps.{five_pieces}
use Rattle.wave_file.proofs.write.write_wave.Goals as goal

pub returns : goal.returns
returns c =
    let w = c.args.wave.now in
    record {
      wave = c.requires;
      kept = record { named = rw c.deref.ensures.value at c.in_ok-var_lines.ensures.named; small = c.in_ok-changes_of.ensures.small };
      spelled = five_pieces (codes "$timescale 1 ns $end\n" ++ codes "$scope module top $end\n") (naming_lines 0 w.names.items)
          (codes "$upscope $end\n" ++ (codes "$enddefinitions $end\n" ++ codes "#0\n")) (first_lines 0 w.first.items)
          (change_lines 0 w.first.items w.changes.items) _ _ _ _ _ _ c.new-text.ensures.items c.in_ok-append.ensures
          (rw c.deref.ensures.value at c.in_ok-var_lines.ensures.lines) c.in_ok-append-2.ensures
          (rw c.deref-2.ensures.value at c.in_ok-first_lines.ensures) c.in_ok-changes_of.ensures.lines;
    }
