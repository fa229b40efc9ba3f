-- Passes one behind the other, and a pass that brings nothing.
use Rattle.std.proofs.Common.{◌≡◌, ℕ, zero, suc, ◌+◌, ◌-◌, ◌<◌, ◌≤◌, Bool, true, false, List, [], ◌∷◌, ◌++◌, length, refl, sym, ap, subst, ◌∙◌, arith}
use Rattle.std.specs.Prelude.{nat_lt, ◌||◌}
use Rattle.std.specs.List.{range_with_len}
use Rattle.std.proofs.lemmas.Bool.{lt-ltb, ltb-true}
use Rattle.std.proofs.lemmas.List.{append-nil, append_assoc, length-append}
use Rattle.prs_core.specs.Nets.{NetValue}
use Rattle.env_script.specs.Scripts.{OfferValue}
use Rattle.env_script.specs.Runs.{RunState}
use Rattle.peer_bench.specs.declared.note.Note.{Note}
use Rattle.peer_bench.specs.Asking.{PeerValue, HasNoted}
use Rattle.event_sim.specs.Stages.{StageValue, now_of}
use Rattle.peer_bench.specs.Steps.{script_noting, asked_under, IsPassBy, IsWholePassBy, ArePassesBy, no_pass_by, and_pass_by, IsAskedBy}
use Rattle.peer_bench.specs.Sets.{IsPassFrom, IsQuietBut}
use Rattle.peer_bench.proofs.Known.{noted_none}
use Rattle.peer_bench.proofs.Ranges.{range_on, range_next}

some_more : (a b : ℕ) → nat_lt 0 (a + b) ≡ (nat_lt 0 a || nat_lt 0 b)
some_more zero b = let same : 0 + b ≡ b = omega arith in ap (nat_lt 0) same
some_more (suc a) b = lt-ltb 0 (suc a + b) (omega arith) ∙ sym (ap (λ (t : Bool). t || nat_lt 0 b) (lt-ltb 0 (suc a) (omega arith)))

pub some_both : (xs ys : List Note) → nat_lt 0 (length (xs ++ ys)) ≡ (nat_lt 0 (length xs) || nat_lt 0 (length ys))
some_both xs ys = ap (nat_lt 0) (length-append xs ys) ∙ some_more (length xs) (length ys)

-- one pass behind another
pub pass_both : {P : Type 0} (known : P → PeerValue) (net : NetValue) (st : RunState) (at : ℕ) (cs ds : List ℕ) (script mid behind : List OfferValue)
    (more last : List Note) (was between is : P) → IsPassBy known net st at cs script mid more was between →
    IsPassBy known net st at ds mid behind last between is → IsPassBy known net st at (cs ++ ds) script behind (more ++ last) was is
pass_both {P} known net st at [] ds script mid behind more last was between is one two =
    subst (λ (xs : List Note). IsPassBy known net st at ds script behind (xs ++ last) was is) (sym one.0)
    (subst (λ (m : List OfferValue). IsPassBy known net st at ds m behind last was is) one.1
    (subst (λ (b : P). IsPassBy known net st at ds mid behind last b is) one.2 two))
pass_both known net st at (d ∷ cs) ds script mid behind more last was between is one two = (
  one.0,
  (
    one.1.0 ++ last,
    ap (λ (xs : List Note). xs ++ last) one.1.1 ∙ append_assoc (asked_under net script st (known was) at d) one.1.0 last,
    one.1.2,
    pass_both known net st at cs ds (script_noting (asked_under net script st (known was) at d) script) mid behind one.1.0 last one.0 between is one.1.3 two,
  ),
)

-- where no answer would come
pass_still : {P : Type 0} (known : P → PeerValue) (net : NetValue) (st : RunState) (at k n : ℕ) (script : List OfferValue) (was : P) →
    ((i : ℕ) → k ≤ i → i < k + n → asked_under net script st (known was) at i ≡ []) →
    IsPassBy known net st at (range_with_len k n) script script [] was was
pass_still known net st at k zero script was still = (refl, refl, refl)
pass_still known net st at k (suc n) script was still =
    let none : asked_under net script st (known was) at k ≡ [] = still k (omega arith) (omega arith) in (
      was,
      (
        [],
        ap (λ (xs : List Note). xs ++ []) (sym none),
        subst (λ (xs : List Note). HasNoted xs (known was) (known was)) (sym none) (noted_none (known was) (known was) refl),
        subst (λ (xs : List Note). IsPassBy known net st at (range_with_len (k + 1) n) (script_noting xs script) script [] was was) (sym none)
            (pass_still known net st at (k + 1) n script was (λ i past less. still i (omega arith) (omega arith))),
      ),
    )

-- on one channel
pass_one : {P : Type 0} (known : P → PeerValue) (net : NetValue) (st : RunState) (at k : ℕ) (script behind : List OfferValue) (was is : P) →
    behind ≡ script_noting (asked_under net script st (known was) at k) script →
    HasNoted (asked_under net script st (known was) at k) (known was) (known is) →
    IsPassBy known net st at (k ∷ []) script behind (asked_under net script st (known was) at k) was is
pass_one known net st at k script behind was is same noted =
    (is, ([], sym (append-nil (asked_under net script st (known was) at k)), noted, (refl, same, refl)))

-- up to a channel, and on from it
pub pass_on_from : {P : Type 0} (known : P → PeerValue) (net : NetValue) (st : RunState) (at from mid end : ℕ) (script middle behind : List OfferValue)
    (more last : List Note) (was between is : P) → from ≤ mid → mid ≤ end →
    IsPassBy known net st at (range_with_len from (mid - from)) script middle more was between →
    IsPassBy known net st at (range_with_len mid (end - mid)) middle behind last between is →
    IsPassBy known net st at (range_with_len from (end - from)) script behind (more ++ last) was is
pass_on_from known net st at from mid end script middle behind more last was between is first within one two =
    subst (λ (cs : List ℕ). IsPassBy known net st at cs script behind (more ++ last) was is) (sym (range_on from mid end first within))
    (pass_both known net st at (range_with_len from (mid - from)) (range_with_len mid (end - mid)) script middle behind more last was between is one two)

-- nothing comes from there on
pub pass_rests : {P : Type 0} (known : P → PeerValue) (net : NetValue) (st : RunState) (at from mid end : ℕ) (script behind : List OfferValue)
    (more : List Note) (was is : P) → from ≤ mid → mid ≤ end →
    IsPassBy known net st at (range_with_len from (mid - from)) script behind more was is →
    ((i : ℕ) → mid ≤ i → i < end → asked_under net behind st (known is) at i ≡ []) →
    IsPassBy known net st at (range_with_len from (end - from)) script behind more was is
pass_rests known net st at from mid end script behind more was is first within pass still =
    subst (λ (xs : List Note). IsPassBy known net st at (range_with_len from (end - from)) script behind xs was is) (append-nil more)
    (pass_on_from known net st at from mid end script behind behind more [] was is is first within pass
    (pass_still known net st at mid (end - mid) behind is (λ i past less. still i past (omega arith))))

-- nothing comes up to a channel, and then this on it
pub pass_up : {P : Type 0} (known : P → PeerValue) (net : NetValue) (st : RunState) (at from mid k : ℕ) (script middle behind : List OfferValue)
    (more : List Note) (was between is : P) → from ≤ mid → mid ≤ k →
    IsPassBy known net st at (range_with_len from (mid - from)) script middle more was between →
    ((i : ℕ) → mid ≤ i → i < k → asked_under net middle st (known between) at i ≡ []) →
    behind ≡ script_noting (asked_under net middle st (known between) at k) middle →
    HasNoted (asked_under net middle st (known between) at k) (known between) (known is) →
    IsPassBy known net st at (range_with_len from (k + 1 - from)) script behind (more ++ asked_under net middle st (known between) at k) was is
pass_up known net st at from mid k script middle behind more was between is first within pass still same noted =
    subst (λ (cs : List ℕ). IsPassBy known net st at cs script behind (more ++ asked_under net middle st (known between) at k) was is)
    (sym (range_next from k (omega arith)))
    (pass_both known net st at (range_with_len from (k - from)) (k ∷ []) script middle behind more (asked_under net middle st (known between) at k)
    was between is (pass_rests known net st at from mid k script middle more was between first within pass still)
    (pass_one known net st at k middle behind between is same noted))

-- whoever noted an answer has room for fewer
pub fewer_on : (a b : Bool) (given : List Note) (now before first : ℕ) → b ≡ nat_lt 0 (length given) → now + length given ≡ before → before ≤ first →
    (a ≡ true → before < first) → (a || b) ≡ true → now < first
fewer_on true b given now before first came spare most less e = let fewer = less refl in omega arith
fewer_on false b given now before first came spare most less e = let some = ltb-true 0 (length given) (sym came ∙ e) in omega arith

nothing_first : (xs ys : List Note) → [] ≡ xs ++ ys → (xs ≡ []) × (ys ≡ [])
nothing_first [] ys e = (refl, sym e)
nothing_first (x ∷ xs) ys e = absurd (cc e)

-- a pass that brings nothing leaves the script as it is
pub pass_none : {P : Type 0} (known : P → PeerValue) (net : NetValue) (st : RunState) (at : ℕ) (cs : List ℕ) (script behind : List OfferValue)
    (was is : P) → IsPassBy known net st at cs script behind [] was is → behind ≡ script
pass_none known net st at [] script behind was is by = by.1
pass_none {P} known net st at (c ∷ cs) script behind was is by =
    pass_none known net st at cs (script_noting first script) behind by.0 is
    (subst (λ (xs : List Note). IsPassBy known net st at cs (script_noting first script) behind xs by.0 is) none.1 by.1.3)
    ∙ ap (λ (xs : List Note). script_noting xs script) none.0
  where
    first : List Note
    first = asked_under net script st (known was) at c

    none : (first ≡ []) × (by.1.0 ≡ [])
    none = nothing_first first by.1.0 by.1.1

-- passes on a stage of which only the script changes

pub pass_then : {P : Type 0} (known : P → PeerValue) (fs ls : StageValue) (at : ℕ) (script behind : List OfferValue) (more last : List Note)
    (was between is : P) → ls ≡ record fs { script = ls.script } →
    ArePassesBy known fs.net (now_of fs) at script was ls.script more between →
    IsWholePassBy known ls.net (now_of ls) at ls.script behind last between is →
    ArePassesBy known fs.net (now_of fs) at script was behind (more ++ last) is
pass_then known fs ls at script behind more last was between is same before pass =
    and_pass_by ls.script behind more last between is before
    (subst (λ (s : StageValue). IsWholePassBy known s.net (now_of s) at ls.script behind last between is) same pass)

pub nothing_came : (xs : List Note) → false ≡ nat_lt 0 (length xs) → xs ≡ []
nothing_came [] e = refl
nothing_came (x ∷ xs) e = absurd (cc (e, lt-ltb 0 (length (x ∷ xs)) (omega arith)))

pub pass_last : {P : Type 0} (known : P → PeerValue) (fs ls : StageValue) (at : ℕ) (script behind : List OfferValue) (more last : List Note)
    (was between is : P) → ls ≡ record fs { script = ls.script } →
    ArePassesBy known fs.net (now_of fs) at script was ls.script more between →
    IsWholePassBy known ls.net (now_of ls) at ls.script behind last between is → false ≡ nat_lt 0 (length last) →
    IsAskedBy known fs.net (now_of fs) at script behind more was is
pass_last {P} known fs ls at script behind more last was between is same before pass none = record {
  mid = between;
  passes = subst (λ (s : List OfferValue). ArePassesBy known fs.net (now_of fs) at script was s more between) (sym still) before;
  last = subst (λ (s : List OfferValue). IsWholePassBy known fs.net (now_of fs) at s behind [] between is) (sym still) empty;
}
  where
    here : IsWholePassBy known fs.net (now_of fs) at ls.script behind last between is
    here = subst (λ (s : StageValue). IsWholePassBy known s.net (now_of s) at ls.script behind last between is) same pass

    empty : IsWholePassBy known fs.net (now_of fs) at ls.script behind [] between is
    empty = subst (λ (xs : List Note). IsWholePassBy known fs.net (now_of fs) at ls.script behind xs between is) (nothing_came last none) here

    still : behind ≡ ls.script
    still = pass_none known fs.net (now_of fs) at (range_with_len 0 (length fs.net.channels)) ls.script behind between is empty

-- a whole pass from the first channel on
pub whole_pass : {P : Type 0} (known : P → PeerValue) (net : NetValue) (st : RunState) (at : ℕ) (script behind : List OfferValue) (more : List Note)
    (was is : P) → IsPassFrom known net st at 0 script behind more was is → IsWholePassBy known net st at script behind more was is
whole_pass known net st at script behind more was is pass =
    let all : length net.channels - 0 ≡ length net.channels = omega arith in
    subst (λ (n : ℕ). IsPassBy known net st at (range_with_len 0 n) script behind more was is) all pass

-- passes behind a first one

passes_behind : {P : Type 0} (known : P → PeerValue) (net : NetValue) (st : RunState) (at : ℕ) (script mid : List OfferValue) (first : List Note)
    (was between : P) → IsWholePassBy known net st at script mid first was between → {behind : List OfferValue} → {more : List Note} → {is : P} →
    ArePassesBy known net st at mid between behind more is → ArePassesBy known net st at script was behind (first ++ more) is
passes_behind known net st at script mid first was between pass no_pass_by =
    subst (λ (xs : List Note). ArePassesBy known net st at script was mid xs between) (sym (append-nil first))
    (and_pass_by script mid [] first was between no_pass_by pass)
passes_behind known net st at script mid first was between pass (and_pass_by m behind more last b is before after) =
    subst (λ (xs : List Note). ArePassesBy known net st at script was behind xs is) (append_assoc first more last)
    (and_pass_by m behind (first ++ more) last b is (passes_behind known net st at script mid first was between pass before) after)

pub asked_behind : {P : Type 0} (known : P → PeerValue) (net : NetValue) (st : RunState) (at : ℕ) (script mid behind : List OfferValue)
    (first more : List Note) (was between is : P) → IsWholePassBy known net st at script mid first was between →
    IsAskedBy known net st at mid behind more between is → IsAskedBy known net st at script behind (first ++ more) was is
asked_behind known net st at script mid behind first more was between is pass asked = record {
  mid = asked.mid;
  passes = passes_behind known net st at script mid first was between pass asked.passes;
  last = asked.last;
}

-- a whole pass that brings nothing, alone
pub asked_none : {P : Type 0} (known : P → PeerValue) (net : NetValue) (st : RunState) (at : ℕ) (script behind : List OfferValue) (more : List Note)
    (was is : P) → more ≡ [] → IsWholePassBy known net st at script behind more was is → IsAskedBy known net st at script behind [] was is
asked_none known net st at script behind more was is none pass =
    let empty : IsWholePassBy known net st at script behind [] was is =
    subst (λ (xs : List Note). IsWholePassBy known net st at script behind xs was is) none pass in
    let same : behind ≡ script = pass_none known net st at (range_with_len 0 (length net.channels)) script behind was is empty in
    record {
      mid = was;
      passes = subst (λ (s : List OfferValue). ArePassesBy known net st at script was s [] was) (sym same) no_pass_by;
      last = subst (λ (s : List OfferValue). IsWholePassBy known net st at s behind [] was is) (sym same) empty;
    }

-- A whole pass in which nothing comes up to one channel, by what comes on it and behind it.
pub first_pass : {P : Type 0} (known : P → PeerValue) (net : NetValue) (st : RunState) (at k : ℕ) (script middle behind : List OfferValue)
    (last : List Note) (was between is : P) → k < length net.channels → IsQuietBut net script st (known was) k →
    middle ≡ script_noting (asked_under net script st (known was) at k) script →
    HasNoted (asked_under net script st (known was) at k) (known was) (known between) →
    IsPassFrom known net st at (k + 1) middle behind last between is →
    IsWholePassBy known net st at script behind (asked_under net script st (known was) at k ++ last) was is
first_pass known net st at k script middle behind last was between is within quiet same noted pass =
    whole_pass known net st at script behind (asked_under net script st (known was) at k ++ last) was is
    (pass_on_from known net st at 0 (k + 1) (length net.channels) script middle behind (asked_under net script st (known was) at k) last was between is
    (omega arith) (omega arith)
    (pass_up known net st at 0 0 k script script middle [] was was between (omega arith) (omega arith) (refl, refl, refl)
    (λ i past less. quiet i at (λ e. absurd (omega arith))) same noted) pass)

-- and where nothing comes on it
pub asked_silent : {P : Type 0} (known : P → PeerValue) (net : NetValue) (st : RunState) (at k : ℕ) (script behind : List OfferValue) (was is : P) →
    k < length net.channels → IsQuietBut net script st (known was) k → asked_under net script st (known was) at k ≡ [] →
    behind ≡ script_noting (asked_under net script st (known was) at k) script →
    HasNoted (asked_under net script st (known was) at k) (known was) (known is) → IsAskedBy known net st at script behind [] was is
asked_silent {P} known net st at k script behind was is within quiet none same noted =
    asked_none known net st at script behind (asked_under net script st (known was) at k ++ []) was is (ap (λ (xs : List Note). xs ++ []) none)
    (first_pass known net st at k script behind behind [] was is is within quiet same noted
    (pass_still known net st at (k + 1) (length net.channels - (k + 1)) behind is (λ i past less. still i past)))
  where
    unchanged : behind ≡ script
    unchanged = same ∙ ap (λ (xs : List Note). script_noting xs script) none

    still : (i : ℕ) → k + 1 ≤ i → asked_under net behind st (known is) at i ≡ []
    still i past =
        ap (λ (s : List OfferValue). asked_under net s st (known is) at i) unchanged
        ∙ ap (λ (p : PeerValue). asked_under net script st p at i) (noted.same none) ∙ quiet i at (λ e. absurd (omega arith))

-- and passes behind it, on a stage of which only the script changes
pub asked_first : {P : Type 0} (known : P → PeerValue) (fs ls ms : StageValue) (at k : ℕ) (behind : List OfferValue) (last more : List Note)
    (was between mid is : P) → k < length fs.net.channels → IsQuietBut fs.net fs.script (now_of fs) (known was) k →
    ls ≡ record fs { script = script_noting (asked_under fs.net fs.script (now_of fs) (known was) at k) fs.script } →
    HasNoted (asked_under fs.net fs.script (now_of fs) (known was) at k) (known was) (known between) → ms ≡ record ls { script = ms.script } →
    IsPassFrom known ls.net (now_of ls) at (k + 1) ls.script ms.script last between mid →
    IsAskedBy known ms.net (now_of ms) at ms.script behind more mid is →
    IsAskedBy known fs.net (now_of fs) at fs.script behind ((asked_under fs.net fs.script (now_of fs) (known was) at k ++ last) ++ more) was is
asked_first known fs ls ms at k behind last more was between mid is within quiet one noted two pass asked =
    asked_behind known fs.net (now_of fs) at fs.script ms.script behind (asked_under fs.net fs.script (now_of fs) (known was) at k ++ last) more was mid is
    (first_pass known fs.net (now_of fs) at k fs.script ls.script ms.script last was between mid within quiet (ap (λ (s : StageValue). s.script) one) noted
    (subst (λ (s : StageValue). IsPassFrom known s.net (now_of s) at (k + 1) ls.script ms.script last between mid) one pass))
    (subst (λ (s : StageValue). IsAskedBy known s.net (now_of s) at ms.script behind more mid is)
    (two ∙ ap (λ (s : StageValue). record s { script = ms.script }) one) asked)
