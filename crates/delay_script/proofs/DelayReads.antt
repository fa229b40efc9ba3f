-- The lines of a delay file, one after another.
use Rattle.std.proofs.Common.{◌≡◌, ◌≢◌, ℕ, zero, suc, ◌+◌, ◌<◌, ◌≤◌, Bool, true, false, List, [], ◌∷◌, ◌++◌, length, get_or, set, map, take, drop, replicate, refl, sym, ap, ◌∙◌, subst, arith, length-take, Contains}
use Rattle.std.specs.Prelude.{◌==◌, if◌then◌else◌, filter, bytes_eq, All}
use Rattle.std.specs.Borrow.{Bor}
use Rattle.std.specs.List.{AllZip}
use Rattle.std.proofs.lemmas.Bool.{or_parts}
use Rattle.std.proofs.lemmas.List.{append-nil, length-map, take_all}
use Rattle.std.proofs.lemmas.List.Elements.{All-nil, All-cons, All-push}
use Rattle.std.proofs.lemmas.List.Quantifiers.{all_pairs_push}
use Rattle.std.proofs.lemmas.List.Splits.{length-slice_split}
use Rattle.std.proofs.lemmas.List.Sums.{count_by-le-length}
use Rattle.env_script.specs.Cutting.{lines_of, words_of}
use Rattle.env_script.specs.ScriptText.{is_some_line}
use Rattle.env_script.proofs.Sayings.{Words, texts}
use Rattle.env_script.proofs.OneMore.{other_name}
use Rattle.env_script.proofs.ReadLines.{lines_more, no_line, one_line, texts_more, texts_parts}
use Rattle.delay_script.specs.declared.line.DelayLine.{DelayLine}
use Rattle.delay_script.specs.declared.fault.DelayFault.{DelayFault}
use Rattle.delay_script.specs.declared.step.TakenDelay.{TakenDelay}
use Rattle.delay_script.specs.DelayTables.{DelayTable, IsDelayTable, delay_table}
use Rattle.delay_script.specs.DelayText.{SaysDelays, has_line, IsQuick, AreDelaysTold, rise_said, fall_said, IsDelayText, DelayLineFault, no_delays, no_node, again, slow, IsDelayRefused}
use Rattle.delay_script.specs.DelaySteps.{marked_at, DelayStepFault, says_no_delays, of_no_node, of_marked, of_slow, IsTakenDelay, AreDelaysSoFar}
use Rattle.delay_script.proofs.NameMaps.{AreDistinctNames, place_contains, rises_more, falls_more, marks_more, mark_is}

ones : (names : List (List ℕ)) → map (rise_said []) names ≡ replicate (length names) 1
ones [] = refl
ones (n ∷ names) = ap (λ (xs : List ℕ). 1 ∷ xs) (ones names)

falling_ones : (names : List (List ℕ)) → map (fall_said []) names ≡ replicate (length names) 1
falling_ones [] = refl
falling_ones (n ∷ names) = ap (λ (xs : List ℕ). 1 ∷ xs) (falling_ones names)

no_marks : (names : List (List ℕ)) → map (has_line []) names ≡ replicate (length names) false
no_marks [] = refl
no_marks (n ∷ names) = ap (λ (bs : List Bool). false ∷ bs) (no_marks names)

pub begun : (names : List (List ℕ)) (up down : List ℕ) (marks : List Bool) → up ≡ replicate (length names) 1 → down ≡ replicate (length names) 1 →
    marks ≡ replicate (length names) false → AreDelaysSoFar names [] [] up down marks
begun names up down marks rises falls unmarked = record {
  lines_told = record {
    says = tt;
    good = record {
      nodes = All-nil (λ (l : DelayLine). Contains names l.node);
      once = λ i j d less within. absurd (omega arith);
      quick = All-nil IsQuick;
    };
  };
  rises = rises ∙ sym (ones names);
  falls = falls ∙ sym (falling_ones names);
  marks_are = unmarked ∙ sym (no_marks names);
}

says_push : (wss : List (List (List ℕ))) (ls : List DelayLine) (words : List (List ℕ)) (l : DelayLine) → AllZip SaysDelays wss ls → SaysDelays words l →
    AllZip SaysDelays (wss ++ words ∷ []) (ls ++ l ∷ [])
says_push [] [] words l all says = (says, tt)
says_push [] (m ∷ ls) words l all says = absurd all
says_push (v ∷ wss) [] words l all says = absurd all
says_push (v ∷ wss) (m ∷ ls) words l all says = (all.0, says_push wss ls words l all.1 says)

skipped : (names ws : List (List ℕ)) (line : List ℕ) (ls : List DelayLine) (up down : List ℕ) (marks : List Bool) →
    AreDelaysSoFar names ws ls up down marks → words_of line ≡ [] → AreDelaysSoFar names (ws ++ line ∷ []) ls up down marks
skipped names ws line ls up down marks so_far none =
    let still : filter is_some_line (map words_of (ws ++ line ∷ [])) ≡ filter is_some_line (map words_of ws) =
    lines_more ws line ∙ ap (λ (vs : List (List (List ℕ))). filter is_some_line (map words_of ws) ++ vs) (no_line (words_of line) none)
    ∙ append-nil (filter is_some_line (map words_of ws)) in
    record {
      lines_told = record {
        says = subst (λ (vs : List (List (List ℕ))). AllZip SaysDelays vs ls) (sym still) so_far.lines_told.says;
        good = so_far.lines_told.good;
      };
      rises = so_far.rises;
      falls = so_far.falls;
      marks_are = so_far.marks_are;
    }

fresh_each : (ls : List DelayLine) (name : List ℕ) → has_line ls name ≡ false → (k : ℕ) (d : DelayLine) → k < length ls → (get_or ls k d).node ≢ name
fresh_each [] name fresh k d within = absurd (omega arith)
fresh_each (l ∷ ls) name fresh zero d within = other_name l.node name (or_parts (bytes_eq l.node name) (has_line ls name) fresh).0
fresh_each (l ∷ ls) name fresh (suc k) d within =
    fresh_each ls name (or_parts (bytes_eq l.node name) (has_line ls name) fresh).1 k d (omega arith)

taken : (names ws : List (List ℕ)) (line : List ℕ) (ls : List DelayLine) (up down : List ℕ) (marks : List Bool) (t : TakenDelay) → AreDistinctNames names →
    AreDelaysSoFar names ws ls up down marks → IsTakenDelay names marks (words_of line) t →
    (more : List DelayLine) × AreDelaysSoFar names (ws ++ line ∷ []) more (set up t.node t.up) (set down t.node t.down) (set marks t.node true)
taken names ws line ls up down marks t distinct so_far step =
    let l : DelayLine = step.line in
    let mark : marked_at marks t.node ≡ has_line ls l.node = mark_is names ls marks l.node t.node so_far.marks_are step.place in
    let fresh : has_line ls l.node ≡ false = sym mark ∙ step.fresh in
    let more_lines : filter is_some_line (map words_of (ws ++ line ∷ [])) ≡ filter is_some_line (map words_of ws) ++ words_of line ∷ [] =
    lines_more ws line ∙ ap (λ (vs : List (List (List ℕ))). filter is_some_line (map words_of ws) ++ vs)
    (one_line (words_of line) _ _ step.says.spelled) in (
      ls ++ l ∷ [],
      record {
        lines_told = record {
          says = subst (λ (vs : List (List (List ℕ))). AllZip SaysDelays vs (ls ++ l ∷ [])) (sym more_lines)
              (says_push (filter is_some_line (map words_of ws)) ls (words_of line) l so_far.lines_told.says step.says);
          good = record {
            nodes = All-push (λ (m : DelayLine). Contains names m.node) ls l so_far.lines_told.good.nodes (place_contains names l.node t.node step.place);
            once = all_pairs_push (λ (a b : DelayLine). a.node ≢ b.node) ls l so_far.lines_told.good.once (fresh_each ls l.node fresh);
            quick = All-push IsQuick ls l so_far.lines_told.good.quick step.quick;
          };
        };
        rises = ap (λ (ns : List ℕ). set ns t.node t.up) so_far.rises ∙ ap (λ (n : ℕ). set (map (rise_said ls) names) t.node n) step.rise
            ∙ sym (rises_more names ls l t.node distinct step.place fresh);
        falls = ap (λ (ns : List ℕ). set ns t.node t.down) so_far.falls ∙ ap (λ (n : ℕ). set (map (fall_said ls) names) t.node n) step.fall
            ∙ sym (falls_more names ls l t.node distinct step.place fresh);
        marks_are = ap (λ (bs : List Bool). set bs t.node true) so_far.marks_are ∙ sym (marks_more names ls l t.node distinct step.place);
      },
    )

fault_is : (names ws : List (List ℕ)) (ls : List DelayLine) (up down : List ℕ) (marks : List Bool) (words : List (List ℕ)) (fault : DelayFault) →
    AreDelaysSoFar names ws ls up down marks → DelayStepFault names marks words fault → DelayLineFault names ls words fault
fault_is names ws ls up down marks words fault so_far (says_no_delays some none) = no_delays some none
fault_is names ws ls up down marks words fault so_far (of_no_node l says none) = no_node l says none
fault_is names ws ls up down marks words fault so_far (of_marked l place says here marked) =
    again l says (place_contains names l.node place here) (sym (mark_is names ls marks l.node place so_far.marks_are here) ∙ marked)
fault_is names ws ls up down marks words fault so_far (of_slow l place says here fresh late) =
    slow l says (place_contains names l.node place here) (sym (mark_is names ls marks l.node place so_far.marks_are here) ∙ fresh) late

-- what was read of the lines before this place
pub record AreReadTo (names : List (List ℕ)) (lines : Words) (at : ℕ) (up down : List ℕ) (marks : List Bool) : Type 0 where
  pub ls : List DelayLine
  pub so_far : AreDelaysSoFar names (texts (take at lines)) ls up down marks

-- each node has its delays and its mark
pub counts : (names : List (List ℕ)) (lines : Words) (at : ℕ) (up down : List ℕ) (marks : List Bool) → AreReadTo names lines at up down marks →
    (length up ≡ length names) × (length down ≡ length names) × (length marks ≡ length names)
counts names lines at up down marks read = (
  ap length read.so_far.rises ∙ length-map names (rise_said read.ls),
  ap length read.so_far.falls ∙ length-map names (fall_said read.ls),
  ap length read.so_far.marks_are ∙ length-map names (has_line read.ls),
)

pub refused_at : (names : List (List ℕ)) (text : List ℕ) (lines : Words) (at : ℕ) (d : Bor (List ℕ)) (up down : List ℕ) (marks flags : List Bool)
    (fault : DelayFault) → texts lines ≡ lines_of text → at < length lines → AreReadTo names lines at up down marks → flags ≡ marks →
    DelayStepFault names flags (words_of (get_or lines at d).now) fault → IsDelayRefused names text fault (at + 1)
refused_at names text lines at d up down marks flags fault cut within read same step =
    let line : List ℕ = (get_or lines at d).now in
    let here : DelayStepFault names marks (words_of line) fault =
    subst (λ (bs : List Bool). DelayStepFault names bs (words_of line) fault) same step in
    record {
      before = texts (take at lines);
      here = line;
      behind = texts (drop (at + 1) lines);
      parts = sym cut ∙ texts_parts lines at d within;
      lines = read.ls;
      told = read.so_far.lines_told;
      fault_here = fault_is names (texts (take at lines)) read.ls up down marks (words_of line) fault read.so_far here;
      number = omega (arith, length-map (take at lines) (λ (w : Bor (List ℕ)). w.now), length-take at lines);
    }

pub skip_line : (names : List (List ℕ)) (lines : Words) (at : ℕ) (d : Bor (List ℕ)) (up down : List ℕ) (marks : List Bool) → at < length lines →
    AreReadTo names lines at up down marks → words_of (get_or lines at d).now ≡ [] → AreReadTo names lines (at + 1) up down marks
skip_line names lines at d up down marks within read none =
    let more = skipped names (texts (take at lines)) (get_or lines at d).now read.ls up down marks read.so_far none in
    record {
      ls = read.ls;
      so_far = subst (λ (ws : List (List ℕ)). AreDelaysSoFar names ws read.ls up down marks) (sym (texts_more lines at d within)) more;
    }

pub take_line : (names : List (List ℕ)) (lines : Words) (at : ℕ) (d : Bor (List ℕ)) (up down ups downs : List ℕ) (marks flags marked : List Bool)
    (t : TakenDelay) → AreDistinctNames names → at < length lines → AreReadTo names lines at up down marks → flags ≡ marks →
    IsTakenDelay names flags (words_of (get_or lines at d).now) t → ups ≡ set up t.node t.up → downs ≡ set down t.node t.down →
    marked ≡ set marks t.node true → AreReadTo names lines (at + 1) ups downs marked
take_line names lines at d up down ups downs marks flags marked t distinct within read same step is_up is_down is_marked =
    let line : List ℕ = (get_or lines at d).now in
    let here : IsTakenDelay names marks (words_of line) t = subst (λ (bs : List Bool). IsTakenDelay names bs (words_of line) t) same step in
    let more = taken names (texts (take at lines)) line read.ls up down marks t distinct read.so_far here in
    record { ls = more.0; so_far = rw (is_up, is_down, is_marked, texts_more lines at d within) more.1 }

-- few lines
pub few_lines : (text : List ℕ) (lines : Words) → length text ≤ 4194304 → texts lines ≡ lines_of text → length lines ≤ 4194305
few_lines text lines size cut =
    omega (arith, ap length cut, length-map lines (λ (w : Bor (List ℕ)). w.now), length-slice_split (λ b. b == 10) text, count_by-le-length (λ b. b == 10) text)

-- the delays that lines without a fault give

rise_quick : (ls : List DelayLine) (name : List ℕ) → All IsQuick ls → rise_said ls name ≤ 1000000
rise_quick [] name quick = omega arith
rise_quick (l ∷ ls) name quick = by_name (bytes_eq l.node name) (rise_quick ls name (λ k d within. quick (suc k) d (omega arith)))
  where
    by_name : (b : Bool) → rise_said ls name ≤ 1000000 → (if b then l.up else rise_said ls name) ≤ 1000000
    by_name true later = (quick 0 l (omega arith)).rise
    by_name false later = later

fall_quick : (ls : List DelayLine) (name : List ℕ) → All IsQuick ls → fall_said ls name ≤ 1000000
fall_quick [] name quick = omega arith
fall_quick (l ∷ ls) name quick = by_name (bytes_eq l.node name) (fall_quick ls name (λ k d within. quick (suc k) d (omega arith)))
  where
    by_name : (b : Bool) → fall_said ls name ≤ 1000000 → (if b then l.down else fall_said ls name) ≤ 1000000
    by_name true later = (quick 0 l (omega arith)).fall
    by_name false later = later

all_few : (f : List ℕ → ℕ) (names : List (List ℕ)) → ((name : List ℕ) → f name ≤ 1000000) → All (λ delay. delay ≤ 1000000) (map f names)
all_few f [] few = All-nil (λ delay. delay ≤ 1000000)
all_few f (n ∷ names) few = All-cons (λ delay. delay ≤ 1000000) (f n) (map f names) (few n) (all_few f names few)

-- what a text says is a table of delays
pub text_table : (names : List (List ℕ)) (text up down : List ℕ) → IsDelayText names text (delay_table up down) →
    IsDelayTable (length up) (delay_table up down)
text_table names text up down is =
    let quick : All IsQuick is.lines = is.told.good.quick in
    let rises : up ≡ map (rise_said is.lines) names = ap (λ (d : DelayTable). d.up) is.is in
    let falls : down ≡ map (fall_said is.lines) names = ap (λ (d : DelayTable). d.down) is.is in
    record {
      rises = refl;
      falls = ap length falls ∙ (length-map names (fall_said is.lines) ∙ sym (ap length rises ∙ length-map names (rise_said is.lines)));
      rises_few = subst (All (λ delay. delay ≤ 1000000)) (sym rises) (all_few (rise_said is.lines) names (λ name. rise_quick is.lines name quick));
      falls_few = subst (All (λ delay. delay ≤ 1000000)) (sym falls) (all_few (fall_said is.lines) names (λ name. fall_quick is.lines name quick));
    }

pub all_read : (names : List (List ℕ)) (text : List ℕ) (lines : Words) (at : ℕ) (up down : List ℕ) (marks : List Bool) → texts lines ≡ lines_of text →
    length lines ≤ at → AreReadTo names lines at up down marks → IsDelayText names text (delay_table up down)
all_read names text lines at up down marks cut past read =
    let whole : texts (take at lines) ≡ lines_of text = ap texts (take_all at lines past) ∙ cut in
    record {
      lines = read.ls;
      told = subst (λ (ws : List (List ℕ)). AreDelaysTold names ws read.ls) whole read.so_far.lines_told;
      is = ap (λ (ns : List ℕ). delay_table ns down) read.so_far.rises
          ∙ ap (λ (ns : List ℕ). delay_table (map (rise_said read.ls) names) ns) read.so_far.falls;
    }
