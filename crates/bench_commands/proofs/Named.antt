-- A device keeps its name along a run on a bench.
use Rattle.std.proofs.Common.{◌≡◌, ◌∙◌, ℕ, ◌+◌, Bool, true, false, List, [], ◌∷◌, ◌++◌, length, refl, ap}
use Rattle.std.specs.List.{range_with_len}
use Rattle.env_script.specs.Runs.{RunState, after}
use Rattle.peer_bench.specs.declared.note.Note.{Note}
use Rattle.peer_bench.specs.Asking.{PeerValue, asked_on, IsPassOver, ArePasses, no_pass, and_pass}
use Rattle.peer_bench.specs.Along.{low_reset, lets_ask, IsAskedIf, IsNotedAlong, at_first, behind_move}
use Rattle.prs_core.specs.Nets.{NetValue}

abbrev itself : PeerValue → PeerValue
itself p = p

abbrev name_of : PeerValue → List ℕ
name_of p = p.name

pass_named : (net : NetValue) (st : RunState) (at : ℕ) (cs : List ℕ) (notes more : List Note) (was is : PeerValue) →
    IsPassOver itself net st at cs notes more was is → is.name ≡ was.name
pass_named net st at [] notes more was is by = ap name_of by.1
pass_named net st at (c ∷ cs) notes more was is by =
    pass_named net st at cs (notes ++ asked_on net notes st was at c) by.1.0 by.0 is by.1.3 ∙ by.1.2.name

passes_named : (net : NetValue) (st : RunState) (at : ℕ) (notes : List Note) (was : PeerValue) {more : List Note} {is : PeerValue} →
    ArePasses itself net st at notes was more is → is.name ≡ was.name
passes_named net st at notes was no_pass = refl
passes_named net st at notes was (and_pass more last mid is before pass) =
    pass_named net st at (range_with_len 0 (length net.channels)) (notes ++ more) last mid is pass ∙ passes_named net st at notes was before

asked_named : (b : Bool) (net : NetValue) (st : RunState) (at : ℕ) (notes more : List Note) (was is : PeerValue) →
    IsAskedIf b itself net st at notes more was is → is.name ≡ was.name
asked_named true net st at notes more was is asked =
    pass_named net st at (range_with_len 0 (length net.channels)) (notes ++ more) [] asked.mid is asked.last ∙ passes_named net st at notes was asked.passes
asked_named false net st at notes more was is asked = ap name_of asked.1

pub along_named : (net : NetValue) (start : RunState) (was : PeerValue) {moves : List ℕ} {notes : List Note} {is : PeerValue} →
    IsNotedAlong itself net start was moves notes is → is.name ≡ was.name
along_named net start was (at_first more is asked) = asked_named (low_reset net start) net start 0 [] more was is asked
along_named net start was (behind_move ns n notes more mid late is before noted asked) =
    asked_named (lets_ask net (after net start ns) (after net start (ns ++ n ∷ [])) n) net (after net start (ns ++ n ∷ [])) (length ns + 1) _ more late is asked
    ∙ (noted.name ∙ along_named net start was before)
