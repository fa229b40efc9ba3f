-- What is known of a device along a run on a bench, whatever the device is.
use Rattle.std.proofs.Common.{ℕ, ◌+◌, Bool, true, false, List, [], ◌∷◌, ◌++◌, length, ap}
use Rattle.std.specs.List.{range_with_len}
use Rattle.prs_core.specs.Nets.{NetValue}
use Rattle.env_script.specs.Runs.{RunState, after}
use Rattle.event_sim.specs.Simulating.{RanValue}
use Rattle.peer_bench.specs.declared.note.Note.{Note}
use Rattle.peer_bench.specs.Asking.{PeerValue, asked_on, IsPassOver, ArePasses, no_pass, and_pass}
use Rattle.peer_bench.specs.Along.{low_reset, lets_ask, IsAskedIf, IsNotedAlong, at_first, behind_move}
use Rattle.peer_bench.specs.Benches.{SetupValue, IsBenchRun}

abbrev pub itself : PeerValue → PeerValue
itself p = p

pass_seen : {P : Type 0} (known : P → PeerValue) (net : NetValue) (st : RunState) (at : ℕ) (cs : List ℕ) (notes more : List Note) (was is : P) →
    IsPassOver known net st at cs notes more was is → IsPassOver itself net st at cs notes more (known was) (known is)
pass_seen known net st at [] notes more was is by = (by.0, ap known by.1)
pass_seen known net st at (c ∷ cs) notes more was is by = (
  known by.0,
  (by.1.0, by.1.1, by.1.2, pass_seen known net st at cs (notes ++ asked_on net notes st (known was) at c) by.1.0 by.0 is by.1.3),
)

passes_seen : {P : Type 0} (known : P → PeerValue) (net : NetValue) (st : RunState) (at : ℕ) (notes : List Note) (was : P) {more : List Note} {is : P} →
    ArePasses known net st at notes was more is → ArePasses itself net st at notes (known was) more (known is)
passes_seen known net st at notes was no_pass = no_pass
passes_seen known net st at notes was (and_pass more last mid is before pass) =
    and_pass more last (known mid) (known is) (passes_seen known net st at notes was before)
    (pass_seen known net st at (range_with_len 0 (length net.channels)) (notes ++ more) last mid is pass)

asked_seen : {P : Type 0} (known : P → PeerValue) (b : Bool) (net : NetValue) (st : RunState) (at : ℕ) (notes more : List Note) (was is : P) →
    IsAskedIf b known net st at notes more was is → IsAskedIf b itself net st at notes more (known was) (known is)
asked_seen known true net st at notes more was is asked = record {
  mid = known asked.mid;
  passes = passes_seen known net st at notes was asked.passes;
  last = pass_seen known net st at (range_with_len 0 (length net.channels)) (notes ++ more) [] asked.mid is asked.last;
}
asked_seen known false net st at notes more was is asked = (asked.0, ap known asked.1)

along_seen : {P : Type 0} (known : P → PeerValue) (net : NetValue) (start : RunState) (was : P) {moves : List ℕ} {notes : List Note} {is : P} →
    IsNotedAlong known net start was moves notes is → IsNotedAlong itself net start (known was) moves notes (known is)
along_seen known net start was (at_first more is asked) =
    at_first more (known is) (asked_seen known (low_reset net start) net start 0 [] more was is asked)
along_seen known net start was (behind_move ns n notes more mid late is before noted asked) =
    behind_move ns n notes more (known mid) (known late) (known is) (along_seen known net start was before) noted
    (asked_seen known (lets_ask net (after net start ns) (after net start (ns ++ n ∷ [])) n) net (after net start (ns ++ n ∷ [])) (length ns + 1) _ more late is
    asked)

pub run_seen : {P : Type 0} (known : P → PeerValue) (s : SetupValue) (picks : List ℕ) (notes : List Note) (was is : P) (ran : RanValue) →
    IsBenchRun known s picks notes was is ran → IsBenchRun itself s picks notes (known was) (known is) ran
run_seen known s picks notes was is ran by = record {
  picked = by.picked;
  run = by.run;
  suits = by.suits;
  noted = along_seen known s.net _ was by.noted;
  placed = by.placed;
  took = by.took;
  ends = by.ends;
  quiet = by.quiet;
  one_length = by.one_length;
  net = by.net;
  moves = by.moves;
  done = by.done;
  passed = by.passed;
}
