-- The lines of a script, one after another.
use Rattle.std.proofs.Common.{◌≡◌, ◌≢◌, ℕ, zero, suc, ◌+◌, ◌<◌, ◌≤◌, Bool, true, false, Option, None, Some, List, [], ◌∷◌, ◌++◌, length, get_or, set, map, take, drop, refl, sym, ap, ◌∙◌, subst, arith, length-take}
use Rattle.std.specs.Prelude.{not, ◌==◌, nat_lt, filter, bytes_eq, if◌then◌else◌}
use Rattle.std.specs.Borrow.{Bor}
use Rattle.std.specs.List.{AllZip}
use Rattle.std.proofs.lemmas.Bool.{or_parts, ne_eqb, ltb-false}
use Rattle.std.proofs.lemmas.List.{length-map, map-append, take_all, take_more, take-append-drop, drop_more}
use Rattle.std.proofs.lemmas.List.Elements.{All-nil, All-push, filter-append}
use Rattle.std.proofs.lemmas.List.Quantifiers.{all_pairs_push}
use Rattle.std.proofs.lemmas.List.Splits.{length-slice_split}
use Rattle.std.proofs.lemmas.List.Sums.{sum_by_push, count_by-le-length}
use Rattle.chp_base.specs.declared.channel.Channel.{Channel}
use Rattle.env_script.specs.declared.line.Said.{Said}
use Rattle.env_script.specs.declared.line.Line.{Line}
use Rattle.env_script.specs.declared.fault.ScriptFault.{ScriptFault}
use Rattle.env_script.specs.declared.fault.ScriptFault.TheVariants.{BadLine, NoSuchChannel, TooWide, DoubleChannel, TooManyValues}
use Rattle.env_script.specs.declared.step.Taken.{Taken}
use Rattle.env_script.specs.Scripts.{OfferValue}
use Rattle.env_script.specs.Offers.{offered}
use Rattle.env_script.specs.Cutting.{lines_of, words_of}
use Rattle.env_script.specs.ScriptText.{LineSays, channel_named, is_inside, suits, fits, values_in, values_on, values_told, IsLineOf, is_some_line, IsTold, is_told, script_of, fault_on, fault_at, ScriptLineFault, bad_line, of_line, IsScriptRefused}
use Rattle.env_script.specs.LineSteps.{told_at, StepFault, says_nothing, of_nothing, of_channel, IsStep, IsReadSoFar, AreTold}
use Rattle.env_script.proofs.Sayings.{Words, texts}
use Rattle.env_script.proofs.OneMore.{other_name, script_more, flags_more, flag_at, AreDistinct}

pub begun : (channels : List Channel) (offers : List OfferValue) (told : List Bool) → offers ≡ script_of channels [] →
    told ≡ map (λ (c : Channel). is_told [] c.name) channels → IsReadSoFar channels [] [] offers told 0
begun channels offers told made flags = record {
  lines_told = record {
    says = tt;
    good = record { each = All-nil (IsLineOf channels); once = λ i j d less within. absurd (omega arith); few = omega arith };
  };
  made = made;
  flags = flags;
  count = refl;
}

-- what the lines before and one more say
pub lines_more : (ws : List (List ℕ)) (line : List ℕ) → filter is_some_line (map words_of (ws ++ line ∷ [])) ≡ filter is_some_line (map words_of ws)
    ++ filter is_some_line (words_of line ∷ [])
lines_more ws line = ap (filter is_some_line) (map-append words_of ws (line ∷ [])) ∙ filter-append is_some_line (map words_of ws) (words_of line ∷ [])

pub no_line : (words : List (List ℕ)) → words ≡ [] → filter is_some_line (words ∷ []) ≡ []
no_line words none = ap (λ (v : List (List ℕ)). filter is_some_line (v ∷ [])) none

pub one_line : (words : List (List ℕ)) (w : List ℕ) (behind : List (List ℕ)) → words ≡ w ∷ behind → filter is_some_line (words ∷ []) ≡ words ∷ []
one_line words w behind is = rw (is_some words is) refl
  where
    is_some : (v : List (List ℕ)) → v ≡ w ∷ behind → is_some_line v ≡ true
    is_some v e = ap is_some_line e ∙ ap not (ne_eqb (suc (length behind)) 0 (omega arith))

append-none : (xs : List (List (List ℕ))) → xs ++ [] ≡ xs
append-none [] = refl
append-none (x ∷ xs) = ap (λ (ys : List (List (List ℕ))). x ∷ ys) (append-none xs)

says_push : (wss : List (List (List ℕ))) (ls : List Line) (words : List (List ℕ)) (l : Line) → AllZip LineSays wss ls → LineSays words l →
    AllZip LineSays (wss ++ words ∷ []) (ls ++ l ∷ [])
says_push [] [] words l all says = (says, tt)
says_push [] (m ∷ ls) words l all says = absurd all
says_push (v ∷ wss) [] words l all says = absurd all
says_push (v ∷ wss) (m ∷ ls) words l all says = (all.0, says_push wss ls words l all.1 says)

skipped : (channels : List Channel) (ws : List (List ℕ)) (line : List ℕ) (ls : List Line) (offers : List OfferValue) (told : List Bool) (values : ℕ) →
    IsReadSoFar channels ws ls offers told values → words_of line ≡ [] → IsReadSoFar channels (ws ++ line ∷ []) ls offers told values
skipped channels ws line ls offers told values so_far none =
    let still : filter is_some_line (map words_of (ws ++ line ∷ [])) ≡ filter is_some_line (map words_of ws) =
    lines_more ws line ∙ ap (λ (vs : List (List (List ℕ))). filter is_some_line (map words_of ws) ++ vs) (no_line (words_of line) none)
    ∙ append-none (filter is_some_line (map words_of ws)) in
    record {
      lines_told = record {
        says = subst (λ (vs : List (List (List ℕ))). AllZip LineSays vs ls) (sym still) so_far.lines_told.says;
        good =
            so_far.lines_told.good;
      };
      made = so_far.made;
      flags = so_far.flags;
      count = so_far.count;
    }

-- a line without a fault has none of the five
record IsFree (c : Channel) (again : Bool) (before : ℕ) (said : Said) : Type 0 where
  first_one : again ≡ false
  suited : suits c.kind said ≡ true
  fitting : fits c.kind c.width said ≡ true
  few : before + values_in c.kind said ≤ 65536

free : (c : Channel) (again : Bool) (before : ℕ) (said : Said) → fault_on c again before said ≡ None → IsFree c again before said
free c again before said none = by_tests (is_inside c.kind) again (suits c.kind said) (fits c.kind c.width said) (nat_lt 65536 (before + values_in c.kind said))
    none refl refl refl refl
  where
    by_tests : (i a s f m : Bool) → (if i then Some NoSuchChannel else
        (if a then Some DoubleChannel else (if not s then Some BadLine else (if not f then Some TooWide else (if m then Some TooManyValues else None))))) ≡ None
        → again ≡ a → suits c.kind said ≡ s → fits c.kind c.width said ≡ f → nat_lt 65536 (before + values_in c.kind said) ≡ m → IsFree c again before said
    by_tests true a s f m faultless is_a is_s is_f is_m = absurd (cc faultless)
    by_tests false true s f m faultless is_a is_s is_f is_m = absurd (cc faultless)
    by_tests false false false f m faultless is_a is_s is_f is_m = absurd (cc faultless)
    by_tests false false true false m faultless is_a is_s is_f is_m = absurd (cc faultless)
    by_tests false false true true true faultless is_a is_s is_f is_m = absurd (cc faultless)
    by_tests false false true true false faultless is_a is_s is_f is_m =
        record { first_one = is_a; suited = is_s; fitting = is_f; few = ltb-false 65536 (before + values_in c.kind said) is_m }

fresh_each : (ls : List Line) (name : List ℕ) → is_told ls name ≡ false → (k : ℕ) (d : Line) → k < length ls → (get_or ls k d).name ≢ name
fresh_each [] name fresh k d within = absurd (omega arith)
fresh_each (l ∷ ls) name fresh zero d within = other_name l.name name (or_parts (bytes_eq l.name name) (is_told ls name) fresh).0
fresh_each (l ∷ ls) name fresh (suc k) d within = fresh_each ls name (or_parts (bytes_eq l.name name) (is_told ls name) fresh).1 k d (omega arith)

taken : (channels : List Channel) (ws : List (List ℕ)) (line : List ℕ) (ls : List Line) (offers : List OfferValue) (told : List Bool) (values : ℕ) (t : Taken) →
    AreDistinct channels → IsReadSoFar channels ws ls offers told values → IsStep channels told values (words_of line) t →
    (more : List Line) × IsReadSoFar channels (ws ++ line ∷ []) more (set offers t.place (offered t.offer)) (set told t.place true) (values + t.values)
taken channels ws line ls offers told values t distinct so_far step =
    let l : Line = step.line in
    let c : Channel = step.channel in
    let flag : told_at told t.place ≡ is_told ls l.name = flag_at channels ls told l.name t.place c so_far.flags step.place in
    let is_free : IsFree c (told_at told t.place) values l.said = free c (told_at told t.place) values l.said step.faultless in
    let fresh : is_told ls l.name ≡ false = sym flag ∙ is_free.first_one in
    let more_lines : filter is_some_line (map words_of (ws ++ line ∷ [])) ≡ filter is_some_line (map words_of ws) ++ words_of line ∷ [] =
    lines_more ws line ∙ ap (λ (vs : List (List (List ℕ))). filter is_some_line (map words_of ws) ++ vs)
    (one_line (words_of line) _ step.says.behind step.says.spelled) in
    let count : values_told channels (ls ++ l ∷ []) ≡ values_told channels ls + values_on (channel_named channels l.name) l.said =
    sum_by_push (λ (m : Line). values_on (channel_named channels m.name) m.said) ls l in
    let here : values_on (channel_named channels l.name) l.said ≡ values_in c.kind l.said =
    ap (λ (o : Option Channel). values_on o l.said) step.place.found in (
      ls ++ l ∷ [],
      record {
        lines_told = record {
          says = subst (λ (vs : List (List (List ℕ))). AllZip LineSays vs (ls ++ l ∷ [])) (sym more_lines)
              (says_push (filter is_some_line (map words_of ws)) ls (words_of line) l so_far.lines_told.says step.says);
          good = record {
            each = All-push (IsLineOf channels) ls l so_far.lines_told.good.each (record {
              channel = c;
              named = step.place.found;
              suited = is_free.suited;
              fitting = is_free.fitting;
            });
            once = all_pairs_push (λ (a b : Line). a.name ≢ b.name) ls l so_far.lines_told.good.once (fresh_each ls l.name fresh);
            few = omega (arith, count, here, is_free.few, so_far.count);
          };
        };
        made = ap (λ (os : List OfferValue). set os t.place (offered t.offer)) so_far.made
            ∙ ap (λ (o : OfferValue). set (script_of channels ls) t.place o) step.offer ∙ sym (script_more channels ls l t.place c distinct step.place fresh);
        flags = ap (λ (bs : List Bool). set bs t.place true) so_far.flags ∙ sym (flags_more channels ls l t.place c distinct step.place);
        count = omega (arith, count, here, so_far.count, step.count);
      },
    )

-- what the step needs to know
pub one_offer_each : (channels : List Channel) (ws : List (List ℕ)) (ls : List Line) (offers : List OfferValue) (told : List Bool) (values : ℕ) →
    IsReadSoFar channels ws ls offers told values → length offers ≡ length channels
one_offer_each channels ws ls offers told values so_far = ap length so_far.made ∙ length-map channels _

fault_is : (channels : List Channel) (ws : List (List ℕ)) (ls : List Line) (offers : List OfferValue) (told : List Bool) (values : ℕ) (words : List (List ℕ))
    (fault : ScriptFault) → IsReadSoFar channels ws ls offers told values → StepFault channels told values words fault → ScriptLineFault channels ls words fault
fault_is channels ws ls offers told values words fault so_far (says_nothing some none) = bad_line some none
fault_is channels ws ls offers told values words fault so_far (of_nothing l says none) =
    of_line l says (ap (λ (o : Option Channel). fault_at o (is_told ls l.name) (values_told channels ls) l.said) none)
fault_is channels ws ls offers told values words fault so_far (of_channel l c place says here is) =
    let flag : told_at told place ≡ is_told ls l.name = flag_at channels ls told l.name place c so_far.flags here in
    of_line l says (ap (λ (o : Option Channel). fault_at o (is_told ls l.name) (values_told channels ls) l.said) here.found
    ∙ ap (λ (b : Bool). fault_on c b (values_told channels ls) l.said) (sym flag)
    ∙ ap (λ (n : ℕ). fault_on c (told_at told place) n l.said) (sym so_far.count) ∙ is)

pub texts_append : (vs ws : Words) → texts (vs ++ ws) ≡ texts vs ++ texts ws
texts_append vs ws = map-append (λ (word : Bor (List ℕ)). word.now) vs ws

pub texts_more : (lines : Words) (at : ℕ) (d : Bor (List ℕ)) → at < length lines →
    texts (take (at + 1) lines) ≡ texts (take at lines) ++ (get_or lines at d).now
    ∷ []
texts_more lines at d within = ap texts (take_more lines at d within) ∙ texts_append (take at lines) (get_or lines at d ∷ [])

pub texts_parts : (lines : Words) (at : ℕ) (d : Bor (List ℕ)) → at < length lines → texts lines ≡ texts (take at lines) ++ (get_or lines at d).now
    ∷ texts (drop (at + 1) lines)
texts_parts lines at d within =
    ap texts (sym (take-append-drop at lines)) ∙ texts_append (take at lines) (drop at lines)
    ∙ ap (λ (ws : Words). texts (take at lines) ++ texts ws) (drop_more lines at d within)

-- what was read of the lines before this place
abbrev IsReadTo : List Channel → Words → ℕ → List OfferValue → List Bool → ℕ → Type 0
IsReadTo channels lines at offers told values = (ls : List Line) × IsReadSoFar channels (texts (take at lines)) ls offers told values

pub refused_at : (channels : List Channel) (text : List ℕ) (lines : Words) (at : ℕ) (d : Bor (List ℕ)) (offers : List OfferValue) (told : List Bool)
    (values : ℕ) (fault : ScriptFault) → texts lines ≡ lines_of text → at < length lines → IsReadTo channels lines at offers told values →
    StepFault channels told values (words_of (get_or lines at d).now) fault → IsScriptRefused channels text fault (at + 1)
refused_at channels text lines at d offers told values fault cut within so_far here =
    let line : List ℕ = (get_or lines at d).now in
    record {
      before = texts (take at lines);
      here = line;
      behind = texts (drop (at + 1) lines);
      parts = sym cut ∙ texts_parts lines at d within;
      lines = so_far.0;
      told = so_far.1.lines_told;
      fault_here = fault_is channels (texts (take at lines)) so_far.0 offers told values (words_of line) fault so_far.1 here;
      number = omega (arith, length-map (take at lines) (λ (w : Bor (List ℕ)). w.now), length-take at lines);
    }

pub skip_line : (channels : List Channel) (lines : Words) (at : ℕ) (d : Bor (List ℕ)) (offers : List OfferValue) (told : List Bool) (values : ℕ) →
    at < length lines → IsReadTo channels lines at offers told values → words_of (get_or lines at d).now ≡ [] →
    IsReadTo channels lines (at + 1) offers told values
skip_line channels lines at d offers told values within so_far none =
    let more = skipped channels (texts (take at lines)) (get_or lines at d).now so_far.0 offers told values so_far.1 none in
    (so_far.0, subst (λ (ws : List (List ℕ)). IsReadSoFar channels ws so_far.0 offers told values) (sym (texts_more lines at d within)) more)

pub take_line : (channels : List Channel) (lines : Words) (at : ℕ) (d : Bor (List ℕ)) (offers made : List OfferValue) (told marked : List Bool)
    (values : ℕ) (t : Taken) → AreDistinct channels → at < length lines → IsReadTo channels lines at offers told values →
    IsStep channels told values (words_of (get_or lines at d).now) t → made ≡ set offers t.place (offered t.offer) → marked ≡ set told t.place true →
    IsReadTo channels lines (at + 1) made marked (values + t.values)
take_line channels lines at d offers made told marked values t distinct within so_far here is_made is_marked =
    let line : List ℕ = (get_or lines at d).now in
    let more = taken channels (texts (take at lines)) line so_far.0 offers told values t distinct so_far.1 here in
    (more.0, rw (is_made, is_marked, texts_more lines at d within) more.1)

-- few lines
pub few_lines : (text : List ℕ) (lines : Words) → length text ≤ 2097152 → texts lines ≡ lines_of text → length lines ≤ 2097153
few_lines text lines size cut =
    omega (arith, ap length cut, length-map lines (λ (w : Bor (List ℕ)). w.now), length-slice_split (λ b. b == 10) text, count_by-le-length (λ b. b == 10) text)

pub all_told : (channels : List Channel) (lines : Words) (at : ℕ) (ls : List Line) (offers : List OfferValue) (told : List Bool) (values : ℕ) →
    length lines ≤ at → IsReadSoFar channels (texts (take at lines)) ls offers told values → AreTold channels (texts lines) offers
all_told channels lines at ls offers told values past so_far =
    (ls, subst (λ (ws : List (List ℕ)). IsTold channels ws ls) (ap texts (take_all at lines past)) so_far.lines_told, so_far.made)
