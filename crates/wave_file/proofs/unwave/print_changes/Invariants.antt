use Rattle.std.proofs.Common.{[], ◌≤◌, ◌+◌, ◌*◌, ◌≡◌, length}
use Rattle.wave_file.specs.WaveReading.{at_changes}
use Rattle.wave_file.specs.WaveTold.{ComesOn, IsPrinted, IsSoFar}
use Rattle.wave_file.specs.Waves.{WaveValue, wave_of}
use Rattle.wave_file.proofs.unwave.print_changes.Given as goal

abbrev pub invariant-loop-rest : goal.invariant-loop-rest
invariant-loop-rest l =
    let t = l.fn.told in
    record {
      few : length l.told.names.items ≤ 65537;
      count : length l.told.values.items ≡ length l.told.names.items;
      so_far : (w : WaveValue) × IsSoFar l.told w × IsPrinted l.printed w
          × ComesOn (2 * length t.names.items + 5) (at_changes (wave_of t.names.items t.values.items []) t.time) l.text l.lines
          (at_changes w l.told.time) l.rest;
      short : l.lines + length l.rest ≤ 268566535;
      counted : l.printed.count + length l.rest ≤ 268435456;
    }

abbrev pub decreases-loop-rest : goal.decreases-loop-rest
decreases-loop-rest l = length l.rest
