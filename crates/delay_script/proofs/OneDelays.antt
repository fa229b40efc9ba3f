-- A text says at most one table of delays, and a text that is refused says none, for one cause at one line.
use Rattle.std.proofs.Common.{◌≡◌, ◌≢◌, ℕ, suc, ◌<◌, false, List, [], ◌∷◌, ◌++◌, length, get_or, refl, sym, ap, ◌∙◌, inl, inr, subst, arith, Contains}
use Rattle.std.specs.Prelude.{◌⊎◌, bytes_eq, Result, Ok, Err, IfErr}
use Rattle.std.specs.List.{AllZip}
use Rattle.std.proofs.lemmas.Bool.{cases_order, or_from, both_ways}
use Rattle.std.proofs.lemmas.List.{get_or_append_left, get_or_at, length-append}
use Rattle.env_script.specs.Numbers.{IsNumber}
use Rattle.env_script.specs.Cutting.{lines_of, words_of}
use Rattle.env_script.proofs.OneMore.{differ}
use Rattle.env_script.proofs.OneReading.{number_once, worded, worded_parts, worded_here, longer, same_front}
use Rattle.delay_script.specs.declared.line.DelayLine.{DelayLine}
use Rattle.delay_script.specs.declared.fault.DelayFault.{DelayFault}
use Rattle.delay_script.specs.declared.fault.DelayError.{DelayError}
use Rattle.delay_script.specs.declared.fault.DelayError.TheVariants.{Refused, NoMemory}
use Rattle.delay_script.specs.DelayTables.{DelayTable}
use Rattle.delay_script.specs.DelayText.{SaysDelays, has_line, IsQuick, AreDelays, AreDelaysTold, delays_said, IsDelayText, DelayLineFault, no_delays, no_node, again, slow, IsDelayRefused, IsOnlyDelayRefusal, IsNoDelayText, OfDelayRefusal}

-- Words say one thing.

line_same : (n m : List ℕ) (a b c d : ℕ) → n ≡ m → a ≡ b → c ≡ d →
    ◌≡◌ {A = DelayLine} (record { node = n; up = a; down = c }) (record { node = m; up = b; down = d })
line_same n m a b c d one two three = cc

says_once : (words : List (List ℕ)) (l m : DelayLine) → SaysDelays words l → SaysDelays words m → l ≡ m
says_once words l m one two =
    let both : l.node ∷ one.up ∷ one.down ∷ [] ≡ m.node ∷ two.up ∷ two.down ∷ [] = sym one.spelled ∙ two.spelled in
    let node : l.node ≡ m.node = cc both in
    let ups : one.up ≡ two.up = cc both in
    let downs : one.down ≡ two.down = cc both in
    line_same l.node m.node l.up m.up l.down m.down node
    (number_once two.up l.up m.up (subst (λ (w : List ℕ). IsNumber w l.up) ups one.rise) two.rise)
    (number_once two.down l.down m.down (subst (λ (w : List ℕ). IsNumber w l.down) downs one.fall) two.fall)

lines_once : (wss : List (List (List ℕ))) (ls ms : List DelayLine) → AllZip SaysDelays wss ls → AllZip SaysDelays wss ms → ls ≡ ms
lines_once [] [] [] one two = refl
lines_once [] [] (m ∷ ms) one two = absurd two
lines_once [] (l ∷ ls) ms one two = absurd one
lines_once (w ∷ wss) [] ms one two = absurd one
lines_once (w ∷ wss) (l ∷ ls) [] one two = absurd two
lines_once (w ∷ wss) (l ∷ ls) (m ∷ ms) one two =
    let head = says_once w l m one.0 two.0 in
    let tail = lines_once wss ls ms one.1 two.1 in
    cc

pub one_table : (names : List (List ℕ)) (text : List ℕ) (d e : DelayTable) → IsDelayText names text d → IsDelayText names text e → d ≡ e
one_table names text d e one two =
    one.is ∙ ap (delays_said names) (lines_once _ one.lines two.lines one.told.says two.told.says) ∙ sym two.is

-- A line of a delay file has no fault behind those before it.

not_told : (fs : List DelayLine) (name : List ℕ) → ((k : ℕ) (d : DelayLine) → k < length fs → (get_or fs k d).node ≢ name) → has_line fs name ≡ false
not_told [] name apart = refl
not_told (f ∷ fs) name apart =
    or_from (bytes_eq f.node name) (has_line fs name) (differ f.node name (apart 0 f (omega arith)))
    (not_told fs name (λ k d within. apart (suc k) d (omega arith)))

long_enough : {X : Type 0} (fs : List X) (l : X) (rest : List X) → length fs < length (fs ++ l ∷ rest)
long_enough fs l rest = omega (arith, length-append fs (l ∷ rest))

-- what a line of good ones is behind those in front of it
record IsFine (names : List (List ℕ)) (fs : List DelayLine) (l : DelayLine) : Type 0 where
  node : Contains names l.node
  fresh : has_line fs l.node ≡ false
  quick : IsQuick l

fine : (names : List (List ℕ)) (fs : List DelayLine) (l : DelayLine) (rest : List DelayLine) → AreDelays names (fs ++ l ∷ rest) → IsFine names fs l
fine names fs l rest good = record {
  node = subst (λ (m : DelayLine). Contains names m.node) (get_or_at fs l rest l (length fs) refl) (good.nodes (length fs) l (long_enough fs l rest));
  fresh = not_told fs l.node
      (λ k d within same. good.once k (length fs) d within (long_enough fs l rest)
      (ap (λ (m : DelayLine). m.node) (get_or_append_left fs (l ∷ rest) d k within) ∙ same
      ∙ ap (λ (m : DelayLine). m.node) (sym (get_or_at fs l rest d (length fs) refl))));
  quick = subst IsQuick (get_or_at fs l rest l (length fs) refl) (good.quick (length fs) l (long_enough fs l rest));
}

-- Lines of a text in front of a line.

record Parted (wss vss : List (List (List ℕ))) (ls : List DelayLine) : Type 0 where
  front : List DelayLine
  back : List DelayLine
  whole : ls ≡ front ++ back
  fronts : AllZip SaysDelays wss front
  backs : AllZip SaysDelays vss back

parted : (wss vss : List (List (List ℕ))) (ls : List DelayLine) → AllZip SaysDelays (wss ++ vss) ls → Parted wss vss ls
parted [] vss ls all = record { front = []; back = ls; whole = refl; fronts = tt; backs = all }
parted (w ∷ wss) vss [] all = absurd all
parted (w ∷ wss) vss (l ∷ ls) all =
    let rest = parted wss vss ls all.1 in
    record {
      front = l ∷ rest.front;
      back = rest.back;
      whole = ap (λ (ms : List DelayLine). l ∷ ms) rest.whole;
      fronts = (all.0, rest.fronts);
      backs = rest.backs;
    }

says_some : (words : List (List ℕ)) (l : DelayLine) → SaysDelays words l → 0 < length words
says_some words l says = let e : length words ≡ 3 = ap length says.spelled in omega arith

no_fault_at : (names : List (List ℕ)) (fs : List DelayLine) (words : List (List ℕ)) (wss : List (List (List ℕ))) (back : List DelayLine) (fault : DelayFault) →
    AreDelays names (fs ++ back) → AllZip SaysDelays (words ∷ wss) back → DelayLineFault names fs words fault → ⊥
no_fault_at names fs words wss [] fault good all is = all
no_fault_at names fs words wss (l ∷ back) fault good all is = by_fault is
  where
    is_fine : IsFine names fs l
    is_fine = fine names fs l back good

    one : (m : DelayLine) → SaysDelays words m → m ≡ l
    one m says = says_once words m l says all.0

    by_fault : {f : DelayFault} → DelayLineFault names fs words f → ⊥
    by_fault (no_delays some none) = none l all.0
    by_fault (no_node m says none) = none (subst (λ (v : DelayLine). Contains names v.node) (sym (one m says)) is_fine.node)
    by_fault (again m says there told) =
        both_ways _ (ap (λ (v : DelayLine). has_line fs v.node) (one m says) ∙ is_fine.fresh) told
    by_fault (slow m says there fresh late) = late (subst IsQuick (sym (one m says)) is_fine.quick)

fault_some : (names : List (List ℕ)) (fs : List DelayLine) (words : List (List ℕ)) (fault : DelayFault) → DelayLineFault names fs words fault →
    0 < length words
fault_some names fs words fault (no_delays some none) = some
fault_some names fs words fault (no_node l says none) = says_some words l says
fault_some names fs words fault (again l says there told) = says_some words l says
fault_some names fs words fault (slow l says there fresh late) = says_some words l says

-- lines that are told have no fault among them
no_fault_within : (names lines : List (List ℕ)) (ls : List DelayLine) (before : List (List ℕ)) (here : List ℕ) (behind : List (List ℕ))
    (fs : List DelayLine) (fault : DelayFault) → AreDelaysTold names lines ls → lines ≡ before ++ here ∷ behind → AreDelaysTold names before fs →
    DelayLineFault names fs (words_of here) fault → ⊥
no_fault_within names lines ls before here behind fs fault told parts front fault_here =
    let cut : worded lines ≡ worded before ++ (words_of here ∷ worded behind) = ap worded parts ∙ worded_parts before here behind
    ∙ ap (λ (v : List (List (List ℕ))). worded before ++ v) (worded_here here behind (fault_some names fs (words_of here) fault fault_here)) in
    let two = parted (worded before) (words_of here ∷ worded behind) ls (subst (λ (v : List (List (List ℕ))). AllZip SaysDelays v ls) cut told.says) in
    let one : two.front ≡ fs = lines_once (worded before) two.front fs two.fronts front.says in
    let good : AreDelays names (fs ++ two.back) = subst (AreDelays names) (two.whole ∙ ap (λ (v : List DelayLine). v ++ two.back) one) told.good in
    no_fault_at names fs (words_of here) (worded behind) two.back fault good two.backs fault_here

pub no_text : (names : List (List ℕ)) (text : List ℕ) (d : DelayTable) (fault : DelayFault) (line : ℕ) → IsDelayRefused names text fault line →
    IsDelayText names text d → ⊥
no_text names text d fault line refused is =
    no_fault_within names (lines_of text) is.lines refused.before refused.here refused.behind refused.lines fault is.told refused.parts refused.told
    refused.fault_here

-- Two refusals are one.

fault_once : (names : List (List ℕ)) (fs : List DelayLine) (words : List (List ℕ)) (f g : DelayFault) → DelayLineFault names fs words f →
    DelayLineFault names fs words g → f ≡ g
fault_once names fs words f g (no_delays some none) (no_delays some_too none_too) = refl
fault_once names fs words f g (no_delays some none) (no_node l says far) = absurd (none l says)
fault_once names fs words f g (no_delays some none) (again l says there told) = absurd (none l says)
fault_once names fs words f g (no_delays some none) (slow l says there fresh late) = absurd (none l says)
fault_once names fs words f g (no_node l says far) (no_delays some none) = absurd (none l says)
fault_once names fs words f g (no_node l says far) (no_node m says_too far_too) = refl
fault_once names fs words f g (no_node l says far) (again m says_too there told) =
    absurd (far (subst (λ (v : DelayLine). Contains names v.node) (says_once words m l says_too says) there))
fault_once names fs words f g (no_node l says far) (slow m says_too there fresh late) =
    absurd (far (subst (λ (v : DelayLine). Contains names v.node) (says_once words m l says_too says) there))
fault_once names fs words f g (again l says there told) (no_delays some none) = absurd (none l says)
fault_once names fs words f g (again l says there told) (no_node m says_too far) =
    absurd (far (subst (λ (v : DelayLine). Contains names v.node) (says_once words l m says says_too) there))
fault_once names fs words f g (again l says there told) (again m says_too there_too told_too) = refl
fault_once names fs words f g (again l says there told) (slow m says_too there_too fresh late) =
    absurd (both_ways _ (ap (λ (v : DelayLine). has_line fs v.node) (says_once words l m says says_too) ∙ fresh) told)
fault_once names fs words f g (slow l says there fresh late) (no_delays some none) = absurd (none l says)
fault_once names fs words f g (slow l says there fresh late) (no_node m says_too far) =
    absurd (far (subst (λ (v : DelayLine). Contains names v.node) (says_once words l m says says_too) there))
fault_once names fs words f g (slow l says there fresh late) (again m says_too there_too told) =
    absurd (both_ways _ (ap (λ (v : DelayLine). has_line fs v.node) (says_once words m l says_too says) ∙ fresh) told)
fault_once names fs words f g (slow l says there fresh late) (slow m says_too there_too fresh_too late_too) = refl

pub one_refusal : (names : List (List ℕ)) (text : List ℕ) (f g : DelayFault) (n m : ℕ) → IsDelayRefused names text f n → IsDelayRefused names text g m →
    (f ≡ g) × (n ≡ m)
one_refusal names text f g n m one two = by_order (cases_order (length one.before) (length two.before))
  where
    same : one.before ++ one.here ∷ one.behind ≡ two.before ++ two.here ∷ two.behind
    same = sym one.parts ∙ two.parts

    by_order : (length one.before ≡ length two.before) ⊎ ((length one.before < length two.before) ⊎ (length two.before < length one.before)) → (f ≡ g) × (n ≡ m)
    by_order (inl count) =
        let front = same_front one.before one.here one.behind two.before two.here two.behind same count in
        let told : AreDelaysTold names two.before one.lines = subst (λ (v : List (List ℕ)). AreDelaysTold names v one.lines) front.fronts one.told in
        let lines : one.lines ≡ two.lines = lines_once (worded two.before) one.lines two.lines told.says two.told.says in
        let moved : DelayLineFault names two.lines (words_of two.here) f =
        subst (λ (v : List ℕ). DelayLineFault names two.lines (words_of v) f) front.heres
        (subst (λ (ls : List DelayLine). DelayLineFault names ls (words_of one.here) f) lines one.fault_here) in
        (fault_once names two.lines (words_of two.here) f g moved two.fault_here, omega (arith, one.number, two.number))
    by_order (inr (inl less)) =
        let more = longer one.before one.here one.behind two.before two.here two.behind same less in
        absurd (no_fault_within names two.before two.lines one.before one.here more.between one.lines f two.told more.whole one.told one.fault_here)
    by_order (inr (inr less)) =
        let more = longer two.before two.here two.behind one.before one.here one.behind (sym same) less in
        absurd (no_fault_within names one.before one.lines two.before two.here more.between two.lines g one.told more.whole two.told two.fault_here)

-- What is so of every refusal is so of the one that is told.

pub told_once : {T : Type 0} (names : List (List ℕ)) (text : List ℕ) (r : Result T DelayError) → IfErr r (OfDelayRefusal (IsDelayRefused names text)) →
    IfErr r (OfDelayRefusal (IsOnlyDelayRefusal names text))
told_once names text (Ok x) refused = tt
told_once names text (Err (Refused fault line)) refused = λ f n other. one_refusal names text f fault n line other refused
told_once names text (Err (NoMemory e)) refused = tt

pub told_of_none : {T : Type 0} (names : List (List ℕ)) (text : List ℕ) (r : Result T DelayError) →
    IfErr r (OfDelayRefusal (IsDelayRefused names text)) → IfErr r (OfDelayRefusal (λ fault line. IsNoDelayText names text))
told_of_none names text (Ok x) refused = tt
told_of_none names text (Err (Refused fault line)) refused = λ d. no_text names text d fault line refused
told_of_none names text (Err (NoMemory e)) refused = tt
