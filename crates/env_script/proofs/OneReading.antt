-- A text is at most one script, and a text that is refused is none, for one cause at one line.
use Rattle.std.proofs.Common.{◌≡◌, ◌≢◌, ℕ, zero, suc, ◌+◌, ◌<◌, ◌≤◌, Bool, true, false, Option, None, Some, List, [], ◌∷◌, ◌++◌, length, get_or, map, refl, sym, ap, ◌∙◌, inl, inr, subst, arith}
use Rattle.std.specs.Prelude.{◌⊎◌, not, ◌==◌, filter, codes, bytes_eq}
use Rattle.std.specs.List.{AllZip, list_all}
use Rattle.std.proofs.lemmas.Bool.{cases_order, le-ltb, ne_eqb, or_from}
use Rattle.std.proofs.lemmas.List.{append_cancel_left, append_cancel_right, map-append}
use Rattle.std.proofs.lemmas.List.Elements.{filter-append}
use Rattle.std.proofs.lemmas.List.Sums.{sum_by-append, sum_by-cons}
use Rattle.chp_base.specs.Names.{digit}
use Rattle.chp_base.specs.declared.channel.Channel.{Channel}
use Rattle.chp_base.specs.declared.channel.Kind.{Kind}
use Rattle.chp_base.specs.declared.channel.Kind.TheVariants.{In, Out, Chan}
use Rattle.env_script.specs.declared.line.Said.{Said}
use Rattle.env_script.specs.declared.line.Said.TheVariants.{Numbers, Every}
use Rattle.env_script.specs.declared.line.Line.{Line}
use Rattle.env_script.specs.declared.fault.ScriptFault.{ScriptFault}
use Rattle.env_script.specs.declared.fault.ScriptError.{ScriptError}
use Rattle.env_script.specs.declared.fault.ScriptError.TheVariants.{Refused, NoMemory}
use Rattle.env_script.specs.Scripts.{OfferValue}
use Rattle.env_script.specs.Numbers.{IsNumber, IsDecimalWord, IsHexadecimalWord, number_of_word}
use Rattle.env_script.specs.Cutting.{lines_of, words_of}
use Rattle.env_script.specs.ScriptText.{SaysBehind, LineSays, channel_named, is_inside, suits, fits, values_in, values_on, values_told, IsLineOf, IsGood, is_some_line, IsTold, is_told, script_of, fault_at, fault_on, line_fault, ScriptLineFault, bad_line, of_line, IsScriptText, IsScriptRefused, OfScriptRefusal}
use Rattle.env_script.proofs.OneMore.{differ}

-- Words say one thing.

hex_is_no_decimal : (word : List ℕ) (n m : ℕ) → IsDecimalWord n word → IsHexadecimalWord m word → ⊥
hex_is_no_decimal word n m d h =
    let wrong : list_all digit (codes "0x" ++ h.tail) ≡ true = ap (list_all digit) (sym h.begins) ∙ d.digits in
    absurd (cc wrong)

pub number_once : (word : List ℕ) (n m : ℕ) → IsNumber word n → IsNumber word m → n ≡ m
number_once word n m (inl d) (inl e) = sym d.value ∙ e.value
number_once word n m (inl d) (inr h) = absurd (hex_is_no_decimal word n m d h)
number_once word n m (inr h) (inl d) = absurd (hex_is_no_decimal word m n d h)
number_once word n m (inr h) (inr k) =
    sym h.value ∙ ap (number_of_word 16) (append_cancel_left (codes "0x") h.tail k.tail (sym h.begins ∙ k.begins)) ∙ k.value

numbers_once : (words : List (List ℕ)) (ns ms : List ℕ) → AllZip IsNumber words ns → AllZip IsNumber words ms → ns ≡ ms
numbers_once [] [] [] one two = refl
numbers_once [] [] (m ∷ ms) one two = absurd two
numbers_once [] (n ∷ ns) ms one two = absurd one
numbers_once (w ∷ words) [] ms one two = absurd one
numbers_once (w ∷ words) (n ∷ ns) [] one two = absurd two
numbers_once (w ∷ words) (n ∷ ns) (m ∷ ms) one two =
    let head = number_once w n m one.0 two.0 in
    let tail = numbers_once words ns ms one.1 two.1 in
    cc

all_is_no_number : (n : ℕ) → IsNumber (codes "all") n → ⊥
all_is_no_number n (inl d) = absurd (cc d.digits)
all_is_no_number n (inr h) =
    let e : ◌≡◌ {A = ℕ} 97 48 = cc h.begins in
    omega arith

all_or_numbers : (words : List (List ℕ)) (ns : List ℕ) → words ≡ codes "all" ∷ [] → AllZip IsNumber words ns → ⊥
all_or_numbers words ns is numbers = by_numbers ns (subst (λ (ws : List (List ℕ)). AllZip IsNumber ws ns) is numbers)
  where
    by_numbers : (ms : List ℕ) → AllZip IsNumber (codes "all" ∷ []) ms → ⊥
    by_numbers [] wrong = wrong
    by_numbers (m ∷ ms) wrong = all_is_no_number m wrong.0

behind_once : (words : List (List ℕ)) (s t : Said) → SaysBehind words s → SaysBehind words t → s ≡ t
behind_once words Every Every one two = refl
behind_once words Every (Numbers ns) one two = absurd (all_or_numbers words ns one two)
behind_once words (Numbers ns) Every one two = absurd (all_or_numbers words ns two one)
behind_once words (Numbers ns) (Numbers ms) one two = ap Numbers (numbers_once words ns ms one two)

line_same : (n m : List ℕ) (s t : Said) → n ≡ m → s ≡ t → ◌≡◌ {A = Line} (record { name = n; said = s }) (record { name = m; said = t })
line_same n m s t one two = cc

says_once : (words : List (List ℕ)) (l m : Line) → LineSays words l → LineSays words m → l ≡ m
says_once words l m one two =
    let both : (l.name ++ codes ":") ∷ one.behind ≡ (m.name ++ codes ":") ∷ two.behind = sym one.spelled ∙ two.spelled in
    let head : l.name ++ codes ":" ≡ m.name ++ codes ":" = cc both in
    let tail : one.behind ≡ two.behind = cc both in
    let name : l.name ≡ m.name = append_cancel_right l.name m.name (codes ":") head in
    let said : l.said ≡ m.said = behind_once two.behind l.said m.said (subst (λ (ws : List (List ℕ)). SaysBehind ws l.said) tail one.said) two.said in
    line_same l.name m.name l.said m.said name said

lines_once : (wss : List (List (List ℕ))) (ls ms : List Line) → AllZip LineSays wss ls → AllZip LineSays wss ms → ls ≡ ms
lines_once [] [] [] one two = refl
lines_once [] [] (m ∷ ms) one two = absurd two
lines_once [] (l ∷ ls) ms one two = absurd one
lines_once (w ∷ wss) [] ms one two = absurd one
lines_once (w ∷ wss) (l ∷ ls) [] one two = absurd two
lines_once (w ∷ wss) (l ∷ ls) (m ∷ ms) one two =
    let head = says_once w l m one.0 two.0 in
    let tail = lines_once wss ls ms one.1 two.1 in
    cc

pub one_script : (channels : List Channel) (text : List ℕ) (s t : List OfferValue) → IsScriptText channels text s → IsScriptText channels text t → s ≡ t
one_script channels text s t one two =
    one.is ∙ ap (script_of channels) (lines_once _ one.lines two.lines one.told.says two.told.says) ∙ sym two.is

-- A line of a script has no fault behind those before it.

suits_outside : (kind : Kind) (said : Said) → suits kind said ≡ true → is_inside kind ≡ false
suits_outside In said suited = refl
suits_outside Out said suited = refl
suits_outside Chan said suited = absurd (cc suited)

not_told : (fs : List Line) (name : List ℕ) → ((k : ℕ) (d : Line) → k < length fs → (get_or fs k d).name ≢ name) → is_told fs name ≡ false
not_told [] name apart = refl
not_told (f ∷ fs) name apart =
    or_from (bytes_eq f.name name) (is_told fs name) (differ f.name name (apart 0 f (omega arith)))
    (not_told fs name (λ k d within. apart (suc k) d (omega arith)))

at_end : {X : Type 0} (fs : List X) (l : X) (rest : List X) (d : X) → get_or (fs ++ l ∷ rest) (length fs) d ≡ l
at_end [] l rest d = refl
at_end (f ∷ fs) l rest d = at_end fs l rest d

long_enough : {X : Type 0} (fs : List X) (l : X) (rest : List X) → length fs < length (fs ++ l ∷ rest)
long_enough [] l rest = omega arith
long_enough (f ∷ fs) l rest = let more = long_enough fs l rest in omega arith

in_front : {X : Type 0} (fs : List X) (rest : List X) (k : ℕ) (d : X) → k < length fs → get_or (fs ++ rest) k d ≡ get_or fs k d
in_front [] rest k d within = absurd (omega arith)
in_front (f ∷ fs) rest zero d within = refl
in_front (f ∷ fs) rest (suc k) d within = in_front fs rest k d (omega arith)

no_fault : (c : Channel) (again : Bool) (before : ℕ) (said : Said) → again ≡ false → suits c.kind said ≡ true → fits c.kind c.width said ≡ true →
    before + values_in c.kind said ≤ 65536 → fault_on c again before said ≡ None
no_fault c again before said fresh suited fitting few =
    rw (suits_outside c.kind said suited, fresh, suited, fitting, le-ltb 65536 (before + values_in c.kind said) few) refl

faultless : (channels : List Channel) (fs : List Line) (l : Line) (rest : List Line) → IsGood channels (fs ++ l ∷ rest) → line_fault channels fs l ≡ None
faultless channels fs l rest good =
    let here : IsLineOf channels l = subst (IsLineOf channels) (at_end fs l rest l) (good.each (length fs) l (long_enough fs l rest)) in
    let c : Channel = here.channel in
    let fresh : is_told fs l.name ≡ false = not_told fs l.name
    (λ k d within same. good.once k (length fs) d within (long_enough fs l rest) (ap (λ (m : Line). m.name) (in_front fs (l ∷ rest) k d within) ∙ same
    ∙ ap (λ (m : Line). m.name) (sym (at_end fs l rest d)))) in
    let value : Line → ℕ = λ m. values_on (channel_named channels m.name) m.said in
    let parts : values_told channels (fs ++ l ∷ rest) ≡ values_told channels fs + values_told channels (l ∷ rest) =
    sum_by-append (λ (m : Line). values_on (channel_named channels m.name) m.said) fs (l ∷ rest) in
    let first : values_told channels (l ∷ rest) ≡ values_on (channel_named channels l.name) l.said + values_told channels rest =
    sum_by-cons (λ (m : Line). values_on (channel_named channels m.name) m.said) l rest in
    let own : values_on (channel_named channels l.name) l.said ≡ values_in c.kind l.said = ap (λ (o : Option Channel). values_on o l.said) here.named in
    ap (λ (o : Option Channel). fault_at o (is_told fs l.name) (values_told channels fs) l.said) here.named
    ∙ no_fault c (is_told fs l.name) (values_told channels fs) l.said fresh here.suited here.fitting (omega (arith, good.few))

-- Lines of a text in front of a line.

abbrev pub worded : List (List ℕ) → List (List (List ℕ))
worded lines = filter is_some_line (map words_of lines)

pub worded_parts : (before : List (List ℕ)) (here : List ℕ) (behind : List (List ℕ)) →
    worded (before ++ here ∷ behind) ≡ worded before ++ worded (here ∷ behind)
worded_parts before here behind = ap (filter is_some_line) (map-append words_of before (here ∷ behind))
    ∙ filter-append is_some_line (map words_of before) (map words_of (here ∷ behind))

pub worded_here : (here : List ℕ) (behind : List (List ℕ)) → 0 < length (words_of here) → worded (here ∷ behind) ≡ words_of here ∷ worded behind
worded_here here behind some = rw (is_some (length (words_of here)) some) refl
  where
    is_some : (n : ℕ) → 0 < n → not (n == 0) ≡ true
    is_some n some = ap not (ne_eqb n 0 (λ e. omega arith))

record Parted (wss vss : List (List (List ℕ))) (ls : List Line) : Type 0 where
  front : List Line
  back : List Line
  whole : ls ≡ front ++ back
  fronts : AllZip LineSays wss front
  backs : AllZip LineSays vss back

parted : (wss vss : List (List (List ℕ))) (ls : List Line) → AllZip LineSays (wss ++ vss) ls → Parted wss vss ls
parted [] vss ls all = record { front = []; back = ls; whole = refl; fronts = tt; backs = all }
parted (w ∷ wss) vss [] all = absurd all
parted (w ∷ wss) vss (l ∷ ls) all =
    let rest = parted wss vss ls all.1 in
    record { front = l ∷ rest.front; back = rest.back; whole = ap (λ (ms : List Line). l ∷ ms) rest.whole; fronts = (all.0, rest.fronts); backs = rest.backs }

says_some : (words : List (List ℕ)) (l : Line) → LineSays words l → 0 < length words
says_some words l says = let e : length words ≡ suc (length says.behind) = ap length says.spelled in omega arith

no_fault_at : (channels : List Channel) (fs : List Line) (words : List (List ℕ)) (wss : List (List (List ℕ))) (back : List Line) (fault : ScriptFault) →
    IsGood channels (fs ++ back) → AllZip LineSays (words ∷ wss) back → ScriptLineFault channels fs words fault → ⊥
no_fault_at channels fs words wss [] fault good all is = all
no_fault_at channels fs words wss (l ∷ back) fault good all (bad_line some none) = none l all.0
no_fault_at channels fs words wss (l ∷ back) fault good all (of_line m says is) =
    let one : m ≡ l = says_once words m l says all.0 in
    let none : line_fault channels fs m ≡ None = ap (line_fault channels fs) one ∙ faultless channels fs l back good in
    absurd (cc (is, none))

fault_some : (channels : List Channel) (fs : List Line) (words : List (List ℕ)) (fault : ScriptFault) → ScriptLineFault channels fs words fault →
    0 < length words
fault_some channels fs words fault (bad_line some none) = some
fault_some channels fs words fault (of_line l says is) = says_some words l says

-- lines that are told have no fault among them
no_fault_within : (channels : List Channel) (lines : List (List ℕ)) (ls : List Line) (before : List (List ℕ)) (here : List ℕ) (behind : List (List ℕ))
    (fs : List Line) (fault : ScriptFault) → IsTold channels lines ls → lines ≡ before ++ here ∷ behind → IsTold channels before fs →
    ScriptLineFault channels fs (words_of here) fault → ⊥
no_fault_within channels lines ls before here behind fs fault told parts front fault_here =
    let cut : worded lines ≡ worded before ++ (words_of here ∷ worded behind) = ap worded parts ∙ worded_parts before here behind
    ∙ ap (λ (v : List (List (List ℕ))). worded before ++ v) (worded_here here behind (fault_some channels fs (words_of here) fault fault_here)) in
    let two = parted (worded before) (words_of here ∷ worded behind) ls (subst (λ (v : List (List (List ℕ))). AllZip LineSays v ls) cut told.says) in
    let one : two.front ≡ fs = lines_once (worded before) two.front fs two.fronts front.says in
    let good : IsGood channels (fs ++ two.back) = subst (IsGood channels) (two.whole ∙ ap (λ (v : List Line). v ++ two.back) one) told.good in
    no_fault_at channels fs (words_of here) (worded behind) two.back fault good two.backs fault_here

pub no_script : (channels : List Channel) (text : List ℕ) (s : List OfferValue) (fault : ScriptFault) (line : ℕ) → IsScriptRefused channels text fault line →
    IsScriptText channels text s → ⊥
no_script channels text s fault line refused is =
    no_fault_within channels (lines_of text) is.lines refused.before refused.here refused.behind refused.lines fault is.told refused.parts refused.told
    refused.fault_here

-- Two refusals are one.

fault_once : (channels : List Channel) (fs : List Line) (words : List (List ℕ)) (f g : ScriptFault) → ScriptLineFault channels fs words f →
    ScriptLineFault channels fs words g → f ≡ g
fault_once channels fs words f g (bad_line some none) (bad_line some_too none_too) = refl
fault_once channels fs words f g (bad_line some none) (of_line l says is) = absurd (none l says)
fault_once channels fs words f g (of_line l says is) (bad_line some none) = absurd (none l says)
fault_once channels fs words f g (of_line l says is) (of_line m says_too is_too) =
    let one : Some f ≡ Some g = sym is ∙ ap (line_fault channels fs) (says_once words l m says says_too) ∙ is_too in
    cc one

pub record Longer (before : List (List ℕ)) (here : List ℕ) (others : List (List ℕ)) : Type 0 where
  pub between : List (List ℕ)
  pub whole : others ≡ before ++ here ∷ between

pub longer : (before : List (List ℕ)) (here : List ℕ) (behind others : List (List ℕ)) (there : List ℕ) (rest : List (List ℕ)) →
    before ++ here ∷ behind ≡ others ++ there ∷ rest → length before < length others → Longer before here others
longer before here behind [] there rest same less = absurd (omega arith)
longer [] here behind (o ∷ others) there rest same less =
    let e : here ≡ o = cc same in
    record { between = others; whole = ap (λ (x : List ℕ). x ∷ others) (sym e) }
longer (b ∷ before) here behind (o ∷ others) there rest same less =
    let head : b ≡ o = cc same in
    let tail : before ++ here ∷ behind ≡ others ++ there ∷ rest = cc same in
    let more = longer before here behind others there rest tail (omega arith) in
    record { between = more.between; whole = ap (λ (x : List ℕ). x ∷ others) (sym head) ∙ ap (λ (xs : List (List ℕ)). b ∷ xs) more.whole }

pub record SameFront (before others : List (List ℕ)) (here there : List ℕ) : Type 0 where
  pub fronts : before ≡ others
  pub heres : here ≡ there

pub same_front : (before : List (List ℕ)) (here : List ℕ) (behind others : List (List ℕ)) (there : List ℕ) (rest : List (List ℕ)) →
    before ++ here ∷ behind ≡ others ++ there ∷ rest → length before ≡ length others → SameFront before others here there
same_front [] here behind [] there rest same count = record { fronts = refl; heres = cc same }
same_front [] here behind (o ∷ others) there rest same count = absurd (omega arith)
same_front (b ∷ before) here behind [] there rest same count = absurd (omega arith)
same_front (b ∷ before) here behind (o ∷ others) there rest same count =
    let head : b ≡ o = cc same in
    let tail : before ++ here ∷ behind ≡ others ++ there ∷ rest = cc same in
    let more = same_front before here behind others there rest tail (omega arith) in
    record { fronts = ap (λ (x : List ℕ). x ∷ before) head ∙ ap (λ (xs : List (List ℕ)). o ∷ xs) more.fronts; heres = more.heres }

pub one_refusal : (channels : List Channel) (text : List ℕ) (f g : ScriptFault) (n m : ℕ) → IsScriptRefused channels text f n →
    IsScriptRefused channels text g m →
    (f ≡ g) × (n ≡ m)
one_refusal channels text f g n m one two = by_order (cases_order (length one.before) (length two.before))
  where
    same : one.before ++ one.here ∷ one.behind ≡ two.before ++ two.here ∷ two.behind
    same = sym one.parts ∙ two.parts

    by_order : (length one.before ≡ length two.before) ⊎ ((length one.before < length two.before) ⊎ (length two.before < length one.before)) → (f ≡ g) × (n ≡ m)
    by_order (inl count) =
        let front = same_front one.before one.here one.behind two.before two.here two.behind same count in
        let told : IsTold channels two.before one.lines = subst (λ (v : List (List ℕ)). IsTold channels v one.lines) front.fronts one.told in
        let lines : one.lines ≡ two.lines = lines_once (worded two.before) one.lines two.lines told.says two.told.says in
        let moved : ScriptLineFault channels two.lines (words_of two.here) f =
        subst (λ (v : List ℕ). ScriptLineFault channels two.lines (words_of v) f) front.heres
        (subst (λ (ls : List Line). ScriptLineFault channels ls (words_of one.here) f) lines one.fault_here) in
        (fault_once channels two.lines (words_of two.here) f g moved two.fault_here, omega (arith, one.number, two.number))
    by_order (inr (inl less)) =
        let more = longer one.before one.here one.behind two.before two.here two.behind same less in
        absurd (no_fault_within channels two.before two.lines one.before one.here more.between one.lines f two.told more.whole one.told one.fault_here)
    by_order (inr (inr less)) =
        let more = longer two.before two.here two.behind one.before one.here one.behind (sym same) less in
        absurd (no_fault_within channels one.before one.lines two.before two.here more.between two.lines g one.told more.whole two.told two.fault_here)

pub of_refusal : (P Q : ScriptFault → ℕ → Type 0) (e : ScriptError) → ((f : ScriptFault) (n : ℕ) → P f n → Q f n) → OfScriptRefusal P e → OfScriptRefusal Q e
of_refusal P Q (Refused fault line) more is = more fault line is
of_refusal P Q (NoMemory e) more is = tt
