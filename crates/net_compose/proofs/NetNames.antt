-- The names of a typed program's nodes: each is the name of a node, and no two are alike.
use Rattle.std.proofs.Common.{◌≡◌, ◌≢◌, ℕ, zero, suc, ◌+◌, ◌-◌, ◌*◌, ◌<◌, ◌≤◌, ◌^◌, ◌==◌, Bool, true, false, List, [], ◌∷◌, ◌++◌, map, length, get_or, refl, sym, ap, subst, ◌∙◌, ⊎_elim, arith, lit<, lit≤, length-append, append_assoc, get_or-append-add}
use Rattle.std.specs.Prelude.{◌&&◌, ◌||◌, if◌then◌else◌, All, AllPairs, codes, decimal, drop}
use Rattle.std.specs.List.{list_all, range_with_len, flat_map}
use Rattle.std.specs.Str.Parse.{AllDigits}
use Rattle.std.proofs.lemmas.Bool.{and_from, and_parts, cases_lt}
use Rattle.std.proofs.lemmas.Bool.Decides.{nat_tests}
use Rattle.std.proofs.lemmas.Str.Parse.{tells_digits}
use Rattle.std.proofs.lemmas.List.{length-map, get_or_append_left, get_or-map, get_or_default}
use Rattle.std.proofs.lemmas.List.FromFn.{get_or-range_with_len, length-range_with_len}
use Rattle.std.proofs.lemmas.List.Elements.{All-from_get_or, All-head, All-tail}
use Rattle.std.proofs.lemmas.Fmt.{decimal_injective, decimal_is_IsNumeral, length-decimal-le}
use Rattle.chp_base.specs.Names.{IsName, IsNodeName, letter, digit, word_part, node_part}
use Rattle.chp_base.specs.declared.channel.Channel.{Channel}
use Rattle.prs_core.specs.Nets.{true_rail, false_rail, rail_names, ack_name}
use Rattle.width_check.specs.declared.typed.Var.{Var}
use Rattle.width_check.specs.Processes.{TypedProgram}
use Rattle.width_check.specs.Typing.{channel_width, var_width, names_of, IsTyped, IsDeclaredChannel, IsDeclaredVar}
use Rattle.handshake_expand.specs.Layout.{wires_size, block_size, wires_before, blocks_before, channel_from, var_from, vars_from, root_request}
use Rattle.handshake_expand.specs.Named.{numbered, numbered_from, wire_names, bit_names, block_names}
use Rattle.circuit_places.specs.Lines.{Line, of_channel, of_var}
use Rattle.net_compose.specs.Translation.{ack_at}
use Rattle.net_compose.specs.NamesTo.{names_to}
use Rattle.net_compose.proofs.FlatCells.{rail_place_is, rail_place_lt, rail_place}
use Rattle.net_compose.proofs.FlatWires.{Wire, a_rail, an_ack, wire_of}
use Rattle.net_compose.proofs.FlatBlocks.{owner, Part, PartAt, part_of, IsPart, offset, blocks_below}
use Rattle.net_compose.proofs.FlatBlocks as b
use Rattle.net_compose.proofs.FlatTrees.{joint_count_is}
use Rattle.net_compose.proofs.NameLemmas.{numbered_is_name, parts_are, all_append, wire_is_name, go_is_name, done_is_name}

-- what stands before the first mark, and what stands behind it
spans : (p : ℕ → Bool) (mark : ℕ) → p mark ≡ false → (xs ys s t : List ℕ) → list_all p xs ≡ true → list_all p ys ≡ true → xs ++ mark ∷ s ≡ ys ++ mark ∷ t →
    (xs ≡ ys) × (s ≡ t)
spans p mark out [] [] s t h k e = (refl, cc e)
spans p mark out [] (y ∷ ys) s t h k e =
    let b = and_parts (p y) (list_all p ys) k in
    let same : mark ≡ y = cc e in
    absurd (cc (sym (subst (λ n. p n ≡ true) (sym same) b.0) ∙ out))
spans p mark out (x ∷ xs) [] s t h k e =
    let b = and_parts (p x) (list_all p xs) h in
    let same : x ≡ mark = cc e in
    absurd (cc (sym (subst (λ n. p n ≡ true) same b.0) ∙ out))
spans p mark out (x ∷ xs) (y ∷ ys) s t h k e =
    let b = and_parts (p x) (list_all p xs) h in
    let c = and_parts (p y) (list_all p ys) k in
    let first : x ≡ y = cc e in
    let rest : xs ++ mark ∷ s ≡ ys ++ mark ∷ t = cc e in
    let r = spans p mark out xs ys s t b.1 c.1 rest in
    (ap (λ n. n ∷ xs) first ∙ ap (λ l. y ∷ l) r.0, r.1)

-- the ends of the names of a bit's nodes, by their places
abbrev side : ℕ → List ℕ
side zero = codes "t"
side (suc zero) = codes "f"
side (suc (suc zero)) = codes "wt"
side (suc (suc (suc zero))) = codes "wf"
side (suc (suc (suc (suc zero)))) = codes "wa"
side _ = []

-- what stands behind a declared name and its dot: a bit with the end of a rail, or the acknowledge
pub data Tail : Type 0 where
  a_bit : (bit place : ℕ) → Tail
  the_ack : Tail

abbrev tail_text : Tail → List ℕ
tail_text (a_bit bit place) = decimal bit ++ 46 ∷ side place
tail_text the_ack = 97 ∷ []

abbrev pub IsFineTail : Tail → Type 0
IsFineTail (a_bit bit place) = (bit < 64) × (place < 5)
IsFineTail the_ack = 0 ≤ 0

-- the name of a node: go, done and those that are called by their numbers, or one of a declared name
pub data Key : Type 0 where
  plain : ℕ → Key
  dotted : Line → Tail → Key

abbrev pub channel_name : List Channel → ℕ → List ℕ
channel_name [] k = []
channel_name (c ∷ cs) zero = c.name
channel_name (c ∷ cs) (suc k) = channel_name cs k

abbrev var_name : List Var → ℕ → List ℕ
var_name [] x = []
var_name (v ∷ vs) zero = v.name
var_name (v ∷ vs) (suc x) = var_name vs x

abbrev line_name : TypedProgram → Line → List ℕ
line_name p (of_channel k) = channel_name p.channels k
line_name p (of_var x) = var_name p.vars x

abbrev pub IsDeclared : TypedProgram → Line → Type 0
IsDeclared p (of_channel k) = k < length p.channels
IsDeclared p (of_var x) = x < length p.vars

abbrev pub text : TypedProgram → Key → List ℕ
text p (plain zero) = codes "go"
text p (plain (suc zero)) = codes "done"
text p (plain (suc (suc n))) = numbered (suc (suc n))
text p (dotted line tail) = line_name p line ++ 46 ∷ tail_text tail

-- the node of a name
abbrev pub node : TypedProgram → Key → ℕ
node p (plain n) = n
node p (dotted (of_channel k) (a_bit bit place)) = channel_from p k + (2 * bit + place)
node p (dotted (of_channel k) the_ack) = ack_at p k
node p (dotted (of_var x) (a_bit bit place)) = var_from p x + (5 * bit + place)
node p (dotted (of_var x) the_ack) = 0

abbrev pub IsFineKey : TypedProgram → Key → Type 0
IsFineKey p (plain n) = n < 2 ^ 32
IsFineKey p (dotted line tail) = IsDeclared p line × IsFineTail tail

-- digits

or_left : (a b : Bool) → a ≡ true → (a || b) ≡ true
or_left true b e = refl
or_left false b e = absurd (cc e)

or_right : (a b : Bool) → b ≡ true → (a || b) ≡ true
or_right true b e = refl
or_right false b e = e

in_order : (c : ℕ) → 48 ≤ c → c ≤ 57 → digit c ≡ true
in_order c low high = grind (arith, nat_tests)

all_digits : (ds : List ℕ) → AllDigits 10 ds → list_all digit ds ≡ true
all_digits [] h = refl
all_digits (c ∷ cs) h = let t = tells_digits.parts c cs h in and_from (digit c) (list_all digit cs) (in_order c t.0.0 t.0.1) (all_digits cs t.1)

digits_of : (n : ℕ) → n < 2 ^ 32 → list_all digit (decimal n) ≡ true
digits_of n small = all_digits (decimal n) (decimal_is_IsNumeral n (omega (arith, small))).0.1

words_of_digits : (ds : List ℕ) → list_all digit ds ≡ true → list_all word_part ds ≡ true
words_of_digits [] h = refl
words_of_digits (c ∷ cs) h =
    let t = and_parts (digit c) (list_all digit cs) h in
    and_from (word_part c) (list_all word_part cs) (or_left _ _ (or_right (letter c) _ t.0)) (words_of_digits cs t.1)

-- plain names have no dot, the others have one
plain_words : (p : TypedProgram) (n : ℕ) → n < 2 ^ 32 → list_all word_part (text p (plain n)) ≡ true
plain_words p zero small = refl
plain_words p (suc zero) small = refl
plain_words p (suc (suc n)) small = words_of_digits (decimal (suc (suc n))) (digits_of (suc (suc n)) small)

dot_stands_out : (xs s : List ℕ) → list_all word_part (xs ++ 46 ∷ s) ≡ false
dot_stands_out [] s = refl
dot_stands_out (x ∷ xs) s = elim (word_part x) as (λ b. (b && list_all word_part (xs ++ 46 ∷ s)) ≡ false) [ true ↦ dot_stands_out xs s | false ↦ refl ]

plain_no_dotted : (p : TypedProgram) (n : ℕ) (xs s : List ℕ) → n < 2 ^ 32 → text p (plain n) ≢ xs ++ 46 ∷ s
plain_no_dotted p n xs s small e = absurd (cc (sym (plain_words p n small) ∙ (ap (list_all word_part) e ∙ dot_stands_out xs s)))

abbrev first_of : List ℕ → ℕ
first_of [] = 0
first_of (x ∷ xs) = x

-- two lists with other first bytes differ
apart_at_first : (a b : ℕ) (xs ys : List ℕ) → (a == b) ≡ false → xs ≡ ys → first_of xs ≡ a → first_of ys ≡ b → ⊥
apart_at_first a b xs ys out e f g =
    let same : a ≡ b = sym f ∙ (ap first_of e ∙ g) in
    grind (arith, nat_tests)

plain_same : (p : TypedProgram) (n m : ℕ) → n < 2 ^ 32 → m < 2 ^ 32 → text p (plain n) ≡ text p (plain m) → n ≡ m
plain_same p zero zero h k e = refl
plain_same p zero (suc zero) h k e = absurd (apart_at_first 103 100 _ _ refl e refl refl)
plain_same p zero (suc (suc m)) h k e = absurd (apart_at_first 103 110 _ _ refl e refl refl)
plain_same p (suc zero) zero h k e = absurd (apart_at_first 100 103 _ _ refl e refl refl)
plain_same p (suc zero) (suc zero) h k e = refl
plain_same p (suc zero) (suc (suc m)) h k e = absurd (apart_at_first 100 110 _ _ refl e refl refl)
plain_same p (suc (suc n)) zero h k e = absurd (apart_at_first 110 103 _ _ refl e refl refl)
plain_same p (suc (suc n)) (suc zero) h k e = absurd (apart_at_first 110 100 _ _ refl e refl refl)
plain_same p (suc (suc n)) (suc (suc m)) h k e = decimal_injective (suc (suc n)) (suc (suc m)) (omega (arith, h)) (omega (arith, k)) (ap (drop 1) e)

-- tails

abbrev place_of : List ℕ → ℕ
place_of [] = 5
place_of (a ∷ []) = if a == 116 then 0 else 1
place_of (a ∷ b ∷ rest) = if b == 116 then 2 else (if b == 102 then 3 else 4)

side_place : (n : ℕ) → n < 5 → place_of (side n) ≡ n
side_place zero h = refl
side_place (suc zero) h = refl
side_place (suc (suc zero)) h = refl
side_place (suc (suc (suc zero))) h = refl
side_place (suc (suc (suc (suc zero)))) h = refl
side_place (suc (suc (suc (suc (suc n))))) h = absurd (omega (arith, h))

place_same : (n m : ℕ) → n < 5 → m < 5 → side n ≡ side m → n ≡ m
place_same n m h k e = sym (side_place n h) ∙ (ap place_of e ∙ side_place m k)

digit_no_a : (d : ℕ) → digit d ≡ true → d ≢ 97
digit_no_a d is e = absurd (cc (sym (subst (λ n. digit n ≡ true) e is)))

bit_no_ack : (ds s : List ℕ) → list_all digit ds ≡ true → ds ++ 46 ∷ s ≢ 97 ∷ []
bit_no_ack [] s h e = apart_at_first 46 97 _ _ refl e refl refl
bit_no_ack (d ∷ ds) s h e = digit_no_a d (and_parts (digit d) (list_all digit ds) h).0 (ap first_of e)

tail_same : (t u : Tail) → IsFineTail t → IsFineTail u → tail_text t ≡ tail_text u → t ≡ u
tail_same (a_bit i n) (a_bit j m) h k e =
    let r = spans digit 46 refl (decimal i) (decimal j) (side n) (side m) (digits_of i (omega (arith, h.0))) (digits_of j (omega (arith, k.0))) e in
    let bits : i ≡ j = decimal_injective i j (omega (arith, h.0)) (omega (arith, k.0)) r.0 in
    ap (λ b. a_bit b n) bits ∙ ap (a_bit j) (place_same n m h.1 k.1 r.1)
tail_same (a_bit i n) the_ack h k e = absurd (bit_no_ack (decimal i) (side n) (digits_of i (omega (arith, h.0))) e)
tail_same the_ack (a_bit j m) h k e = absurd (bit_no_ack (decimal j) (side m) (digits_of j (omega (arith, k.0))) (sym e))
tail_same the_ack the_ack h k e = refl

-- declared names

abbrev line_place : TypedProgram → Line → ℕ
line_place p (of_channel k) = k
line_place p (of_var x) = length p.channels + x

pub channel_name_at : (cs : List Channel) (more : List (List ℕ)) (k : ℕ) → k < length cs →
    get_or (map (λ (c : Channel). c.name) cs ++ more) k [] ≡ channel_name cs k
channel_name_at [] more k h = absurd (omega (arith, h))
channel_name_at (c ∷ cs) more zero h = refl
channel_name_at (c ∷ cs) more (suc k) h = channel_name_at cs more k (omega (arith, h))

var_name_at : (vs : List Var) (x : ℕ) → x < length vs → get_or (map (λ (v : Var). v.name) vs) x [] ≡ var_name vs x
var_name_at [] x h = absurd (omega (arith, h))
var_name_at (v ∷ vs) zero h = refl
var_name_at (v ∷ vs) (suc x) h = var_name_at vs x (omega (arith, h))

vars_behind : (cs : List Channel) (more : List (List ℕ)) (x : ℕ) → get_or (map (λ (c : Channel). c.name) cs ++ more) (length cs + x) [] ≡ get_or more x []
vars_behind [] more x = ap (λ n. get_or more n []) (let e : 0 + x ≡ x = omega arith in e)
vars_behind (c ∷ cs) more x = ap (λ n. get_or (c.name ∷ (map (λ (c : Channel). c.name) cs ++ more)) n []) (let e : suc (length cs) + x ≡ suc (length cs + x) =
    omega arith in e) ∙ vars_behind cs more x

line_name_at : (p : TypedProgram) (l : Line) → IsDeclared p l → get_or (names_of p.channels p.vars) (line_place p l) [] ≡ line_name p l
line_name_at p (of_channel k) h = channel_name_at p.channels (map (λ (v : Var). v.name) p.vars) k h
line_name_at p (of_var x) h = vars_behind p.channels (map (λ (v : Var). v.name) p.vars) x ∙ var_name_at p.vars x h

pub names_count : (p : TypedProgram) → length (names_of p.channels p.vars) ≡ length p.channels + length p.vars
names_count p =
    let e = length-append (map (λ (c : Channel). c.name) p.channels) (map (λ (v : Var). v.name) p.vars) in
    let c : length (map (λ (c : Channel). c.name) p.channels) ≡ length p.channels = length-map p.channels _ in
    let v : length (map (λ (v : Var). v.name) p.vars) ≡ length p.vars = length-map p.vars _ in
    omega (arith, e, c, v)

place_within : (p : TypedProgram) (l : Line) → IsDeclared p l → line_place p l < length (names_of p.channels p.vars)
place_within p (of_channel k) h = let e = names_count p in omega (arith, e, h)
place_within p (of_var x) h = let e = names_count p in omega (arith, e, h)

one_line : (p : TypedProgram) (l m : Line) → IsDeclared p l → IsDeclared p m → line_place p l ≡ line_place p m → l ≡ m
one_line p (of_channel k) (of_channel j) h i e = ap of_channel e
one_line p (of_channel k) (of_var y) h i e = absurd (omega (arith, e, h))
one_line p (of_var x) (of_channel j) h i e = absurd (omega (arith, e, i))
one_line p (of_var x) (of_var y) h i e = let s : x ≡ y = omega (arith, e) in ap of_var s

module _ (p : TypedProgram) (typed : IsTyped p.channels p.vars p.body) where
  line_same : (l m : Line) → IsDeclared p l → IsDeclared p m → line_name p l ≡ line_name p m → l ≡ m
  line_same l m h k e =
      let same : get_or (names_of p.channels p.vars) (line_place p l) [] ≡ get_or (names_of p.channels p.vars) (line_place p m) [] =
      line_name_at p l h ∙ (e ∙ sym (line_name_at p m k)) in
      ⊎_elim
      (λ (lt : line_place p l < line_place p m). absurd (typed.distinct (line_place p l) (line_place p m) [] lt (place_within p m k) same))
      (λ (le : line_place p m ≤ line_place p l).
      ⊎_elim
      (λ (gt : line_place p m < line_place p l). absurd (typed.distinct (line_place p m) (line_place p l) [] gt (place_within p l h) (sym same)))
      (λ (ge : line_place p l ≤ line_place p m). let here : l ≡ m = one_line p l m h k (omega (arith, le, ge)) in here)
      (cases_lt (line_place p m) (line_place p l)))
      (cases_lt (line_place p l) (line_place p m))

  channel_is_name : (cs : List Channel) → All IsDeclaredChannel cs → (k : ℕ) → k < length cs → IsName (channel_name cs k)
  channel_is_name [] h k lt = absurd (omega (arith, lt))
  channel_is_name (c ∷ cs) h zero lt = (All-head IsDeclaredChannel c cs h).name
  channel_is_name (c ∷ cs) h (suc k) lt = channel_is_name cs (All-tail IsDeclaredChannel c cs h) k (omega (arith, lt))

  var_is_name : (vs : List Var) → All IsDeclaredVar vs → (x : ℕ) → x < length vs → IsName (var_name vs x)
  var_is_name [] h x lt = absurd (omega (arith, lt))
  var_is_name (v ∷ vs) h zero lt = (All-head IsDeclaredVar v vs h).name
  var_is_name (v ∷ vs) h (suc x) lt = var_is_name vs (All-tail IsDeclaredVar v vs h) x (omega (arith, lt))

  line_is_name : (l : Line) → IsDeclared p l → IsName (line_name p l)
  line_is_name (of_channel k) h = channel_is_name p.channels typed.each_channel k h
  line_is_name (of_var x) h = var_is_name p.vars typed.each_var x h

  -- one text, one node
  key_same : (a b : Key) → IsFineKey p a → IsFineKey p b → text p a ≡ text p b → a ≡ b
  key_same (plain n) (plain m) h k e = ap plain (plain_same p n m h k e)
  key_same (plain n) (dotted l t) h k e = absurd (plain_no_dotted p n (line_name p l) (tail_text t) h e)
  key_same (dotted l t) (plain m) h k e = absurd (plain_no_dotted p m (line_name p l) (tail_text t) k (sym e))
  key_same (dotted l t) (dotted m u) h k e =
      let r = spans word_part 46 refl (line_name p l) (line_name p m) (tail_text t) (tail_text u) (line_is_name l h.0).parts (line_is_name m k.0).parts e in
      ap (λ x. dotted x t) (line_same l m h.0 k.0 r.0) ∙ ap (dotted m) (tail_same t u h.1 k.1 r.1)

  -- each is the name of a node
  tail_parts : (t : Tail) → IsFineTail t → list_all node_part (46 ∷ tail_text t) ≡ true
  tail_parts (a_bit i n) h = all_append node_part (46 ∷ decimal i) (46 ∷ side n)
      (parts_are (decimal i) (words_of_digits (decimal i) (digits_of i (omega (arith, h.0))))) (side_parts n h.1)
    where
      side_parts : (n : ℕ) → n < 5 → list_all node_part (46 ∷ side n) ≡ true
      side_parts zero h = refl
      side_parts (suc zero) h = refl
      side_parts (suc (suc zero)) h = refl
      side_parts (suc (suc (suc zero))) h = refl
      side_parts (suc (suc (suc (suc zero)))) h = refl
      side_parts (suc (suc (suc (suc (suc n))))) h = absurd (omega (arith, h))
  tail_parts the_ack h = refl

  tail_short : (t : Tail) → IsFineTail t → length (46 ∷ tail_text t) ≤ 8
  tail_short (a_bit i n) h =
      let d = length-decimal-le 2 i (omega arith) (omega (arith, h.0)) (omega (arith, h.0)) in
      let e = length-append (decimal i) (46 ∷ side n) in
      let s = side_short n h.1 in
      omega (arith, d, e, s)
    where
      side_short : (n : ℕ) → n < 5 → length (side n) ≤ 2
      side_short zero h = lit≤ tt
      side_short (suc zero) h = lit≤ tt
      side_short (suc (suc zero)) h = lit≤ tt
      side_short (suc (suc (suc zero))) h = lit≤ tt
      side_short (suc (suc (suc (suc zero)))) h = lit≤ tt
      side_short (suc (suc (suc (suc (suc n))))) h = absurd (omega (arith, h))
  tail_short the_ack h = lit≤ tt

  key_is_name : (a : Key) → IsFineKey p a → IsNodeName (text p a)
  key_is_name (plain zero) h = go_is_name
  key_is_name (plain (suc zero)) h = done_is_name
  key_is_name (plain (suc (suc n))) h = numbered_is_name (suc (suc n)) h
  key_is_name (dotted l t) h = wire_is_name (line_name p l) (46 ∷ tail_text t) (line_is_name l h.0) (tail_parts t h.1) (tail_short t h.1)

-- where the names stand

numbered_at : (from count i : ℕ) → i < count → get_or (numbered_from from count) i [] ≡ numbered (from + i)
numbered_at from count i h = get_or-map numbered (range_with_len from count) i 0 [] (omega (arith, h, length-range_with_len from count))
    ∙ ap numbered (get_or-range_with_len from count i 0 h)

numbered_length : (from count : ℕ) → length (numbered_from from count) ≡ count
numbered_length from count = length-map (range_with_len from count) numbered ∙ length-range_with_len from count

abbrev pub rails_named : List ℕ → (from width : ℕ) → List (List ℕ)
rails_named name from width = flat_map (λ bit. true_rail name bit ∷ false_rail name bit ∷ []) (range_with_len from width)

pub rails_length : (name : List ℕ) (from width : ℕ) → length (rails_named name from width) ≡ 2 * width
rails_length name from zero = refl
rails_length name from (suc w) = let e = rails_length name (from + 1) w in omega (arith, e)

abbrev pub rail_text : List ℕ → ℕ → Bool → List ℕ
rail_text name bit one = if one then true_rail name bit else false_rail name bit

pub rail_at : (name : List ℕ) (from width i : ℕ) (one : Bool) → i < width →
    get_or (rails_named name from width) (rail_place i one) [] ≡ rail_text name (from + i) one
rail_at name from zero i one h = absurd (omega (arith, h))
rail_at name from (suc w) zero true h = ap (true_rail name) (let e : from ≡ from + 0 = omega arith in e)
rail_at name from (suc w) zero false h = ap (false_rail name) (let e : from ≡ from + 0 = omega arith in e)
rail_at name from (suc w) (suc i) one h = rail_at name (from + 1) w i one (omega (arith, h))
    ∙ ap (λ n. rail_text name n one) (let e : from + 1 + i ≡ from + suc i = omega arith in e)

abbrev wires_named : List ℕ → ℕ → List (List ℕ)
wires_named name width = rail_names name width ++ ack_name name ∷ []

wires_named_length : (name : List ℕ) (width : ℕ) → length (wires_named name width) ≡ wires_size width
wires_named_length name width = let e = length-append (rail_names name width) (ack_name name ∷ []) in let f = rails_length name 0 width in omega (arith, e, f)

pub wire_at : (cs : List Channel) (more : List (List ℕ)) (k m : ℕ) → k < length cs → m < wires_size (channel_width cs k)
    → get_or (wire_names cs ++ more) (wires_before cs k + m) [] ≡ get_or (wires_named (channel_name cs k) (channel_width cs k)) m []
wire_at [] more k m h lt = absurd (omega (arith, h))
wire_at (c ∷ cs) more zero m h lt =
    let own = wires_named c.name c.width in
    let n = wires_named_length c.name c.width in
    ap (λ xs. get_or xs (0 + m) []) (append_assoc own (wire_names cs) more)
    ∙ (ap (λ i. get_or (own ++ (wire_names cs ++ more)) i []) (let e : 0 + m ≡ m = omega arith in e)
    ∙ get_or_append_left own (wire_names cs ++ more) [] m (omega (arith, n, lt)))
wire_at (c ∷ cs) more (suc k) m h lt =
    let own = wires_named c.name c.width in
    let n = wires_named_length c.name c.width in
    ap (λ xs. get_or xs (wires_size c.width + wires_before cs k + m) []) (append_assoc own (wire_names cs) more)
    ∙ (ap (λ i. get_or (own ++ (wire_names cs ++ more)) i []) (let e : wires_size c.width + wires_before cs k + m ≡ length own + (wires_before cs k + m) =
    omega (arith, n) in e)
    ∙ (get_or-append-add own (wire_names cs ++ more) (wires_before cs k + m) [] ∙ wire_at cs more k m (omega (arith, h)) lt))

wire_names_length : (cs : List Channel) → length (wire_names cs) ≡ wires_before cs (length cs)
wire_names_length [] = refl
wire_names_length (c ∷ cs) =
    let e = length-append (wires_named c.name c.width) (wire_names cs) in
    let n = wires_named_length c.name c.width in
    let rest = wire_names_length cs in
    omega (arith, e, n, rest)

-- blocks

abbrev bits_named : List ℕ → (from width : ℕ) → List (List ℕ)
bits_named name from width = flat_map (bit_names name) (range_with_len from width)

bits_named_length : (name : List ℕ) (from width : ℕ) → length (bits_named name from width) ≡ 5 * width
bits_named_length name from zero = refl
bits_named_length name from (suc w) = let e = bits_named_length name (from + 1) w in omega (arith, e)

bit_at : (name : List ℕ) (from width i r : ℕ) → i < width → r < 5 → get_or (bits_named name from width) (5 * i + r) [] ≡ get_or (bit_names name (from + i)) r []
bit_at name from zero i r h k = absurd (omega (arith, h))
bit_at name from (suc w) zero r h k =
    ap (λ n. get_or (bits_named name from (suc w)) n []) (let e : 5 * 0 + r ≡ r = omega arith in e)
    ∙ (get_or_append_left (bit_names name from) (bits_named name (from + 1) w) [] r k
    ∙ ap (λ n. get_or (bit_names name n) r []) (let e : from ≡ from + 0 = omega arith in e))
bit_at name from (suc w) (suc i) r h k =
    ap (λ n. get_or (bits_named name from (suc w)) n []) (let e : 5 * suc i + r ≡ 5 + (5 * i + r) = omega arith in e)
    ∙ (get_or-append-add (bit_names name from) (bits_named name (from + 1) w) (5 * i + r) []
    ∙ (bit_at name (from + 1) w i r (omega (arith, h)) k
    ∙ ap (λ n. get_or (bit_names name n) r []) (let e : from + 1 + i ≡ from + suc i = omega arith in e)))

abbrev block_named : List ℕ → (width from : ℕ) → List (List ℕ)
block_named name width from = bits_named name 0 width ++ numbered_from (from + 5 * width) (width - 1)

block_named_length : (name : List ℕ) (width from : ℕ) → length (block_named name width from) ≡ block_size width
block_named_length name width from =
    let e = length-append (bits_named name 0 width) (numbered_from (from + 5 * width) (width - 1)) in
    let b = bits_named_length name 0 width in
    let n = numbered_length (from + 5 * width) (width - 1) in
    omega (arith, e, b, n)

block_first : (v : Var) (vs : List Var) (from : ℕ) (more : List (List ℕ)) → block_names (v ∷ vs) from ++ more ≡ block_named v.name v.width from
    ++ (block_names vs (from + block_size v.width) ++ more)
block_first v vs from more =
    let bits = bits_named v.name 0 v.width in
    let tree = numbered_from (from + 5 * v.width) (v.width - 1) in
    let later = block_names vs (from + block_size v.width) in
    ap (λ xs. xs ++ more) (sym (append_assoc bits tree later)) ∙ append_assoc (bits ++ tree) later more

block_at : (vs : List Var) (from : ℕ) (more : List (List ℕ)) (x m : ℕ) → x < length vs → m < block_size (var_width vs x)
    → get_or (block_names vs from ++ more) (blocks_before vs x + m) [] ≡ get_or (block_named (var_name vs x) (var_width vs x) (from + blocks_before vs x)) m []
block_at [] from more x m h lt = absurd (omega (arith, h))
block_at (v ∷ vs) from more zero m h lt =
    let own = block_named v.name v.width from in
    let rest = block_names vs (from + block_size v.width) ++ more in
    let n = block_named_length v.name v.width from in
    ap (λ xs. get_or xs (0 + m) []) (block_first v vs from more)
    ∙ (ap (λ i. get_or (own ++ rest) i []) (let e : 0 + m ≡ m = omega arith in e)
    ∙ (get_or_append_left own rest [] m (omega (arith, n, lt))
    ∙ ap (λ f. get_or (block_named v.name v.width f) m []) (let e : from ≡ from + 0 = omega arith in e)))
block_at (v ∷ vs) from more (suc x) m h lt =
    let own = block_named v.name v.width from in
    let rest = block_names vs (from + block_size v.width) ++ more in
    let n = block_named_length v.name v.width from in
    ap (λ xs. get_or xs (block_size v.width + blocks_before vs x + m) []) (block_first v vs from more)
    ∙ (ap (λ i. get_or (own ++ rest) i []) (let e : block_size v.width + blocks_before vs x + m ≡ length own + (blocks_before vs x + m) = omega (arith, n) in e)
    ∙ (get_or-append-add own rest (blocks_before vs x + m) []
    ∙ (block_at vs (from + block_size v.width) more x m (omega (arith, h)) lt
    ∙ ap (λ f. get_or (block_named (var_name vs x) (var_width vs x) f) m []) (let e : from + block_size v.width + blocks_before vs x ≡ from +
    (block_size v.width + blocks_before vs x) = omega arith in e))))

block_names_length : (vs : List Var) (from : ℕ) → length (block_names vs from) ≡ blocks_before vs (length vs)
block_names_length [] from = refl
block_names_length (v ∷ vs) from =
    let bits = bits_named_length v.name 0 v.width in
    let tree = numbered_length (from + 5 * v.width) (v.width - 1) in
    let rest = block_names_length vs (from + block_size v.width) in
    let e = length-append (numbered_from (from + 5 * v.width) (v.width - 1)) (block_names vs (from + block_size v.width)) in
    let f = length-append (bits_named v.name 0 v.width) (numbered_from (from + 5 * v.width) (v.width - 1) ++ block_names vs (from + block_size v.width)) in
    omega (arith, bits, tree, rest, e, f)

-- the name of each node

named_is : (name digits s : List ℕ) → name ++ codes "." ++ digits ++ 46 ∷ s ≡ name ++ 46 ∷ (digits ++ 46 ∷ s)
named_is name digits s = append_assoc (name ++ codes ".") digits (46 ∷ s) ∙ append_assoc name (codes ".") (digits ++ 46 ∷ s)

pub record Found (p : TypedProgram) (count n : ℕ) : Type 0 where
  pub key : Key
  pub fine : IsFineKey p key
  pub text_is : get_or (names_to p count) n [] ≡ text p key
  pub node_is : node p key ≡ n

pub count_of_names : (p : TypedProgram) (count : ℕ) → length (names_to p count) ≡ root_request p + count
count_of_names p count =
    let w = wire_names_length p.channels in
    let b = block_names_length p.vars (vars_from p) in
    let n = numbered_length (root_request p) count in
    let e = length-append (block_names p.vars (vars_from p)) (numbered_from (root_request p) count) in
    let f = length-append (wire_names p.channels) (block_names p.vars (vars_from p) ++ numbered_from (root_request p) count) in
    omega (arith, w, b, n, e, f)

module _ (p : TypedProgram) (typed : IsTyped p.channels p.vars p.body) (count : ℕ) (small : root_request p + count ≤ 65536) where
  abbrev pub blocks_and_body : List (List ℕ)
  blocks_and_body = block_names p.vars (vars_from p) ++ numbered_from (root_request p) count

  narrow_channel : (cs : List Channel) → All IsDeclaredChannel cs → (k : ℕ) → k < length cs → channel_width cs k ≤ 64
  narrow_channel [] h k lt = absurd (omega (arith, lt))
  narrow_channel (c ∷ cs) h zero lt = (All-head IsDeclaredChannel c cs h).most
  narrow_channel (c ∷ cs) h (suc k) lt = narrow_channel cs (All-tail IsDeclaredChannel c cs h) k (omega (arith, lt))

  narrow_var : (vs : List Var) → All IsDeclaredVar vs → (x : ℕ) → x < length vs → var_width vs x ≤ 64
  narrow_var [] h x lt = absurd (omega (arith, lt))
  narrow_var (v ∷ vs) h zero lt = (All-head IsDeclaredVar v vs h).most
  narrow_var (v ∷ vs) h (suc x) lt = narrow_var vs (All-tail IsDeclaredVar v vs h) x (omega (arith, lt))

  abbrev pub rail_side : Bool → ℕ
  rail_side true = 0
  rail_side false = 1

  side_small : (one : Bool) → rail_side one < 5
  side_small true = omega arith
  side_small false = omega arith

  pub rail_text_is : (name : List ℕ) (bit : ℕ) (one : Bool) → rail_text name (0 + bit) one ≡ name ++ 46 ∷ tail_text (a_bit bit (rail_side one))
  rail_text_is name bit true = ap (λ b. true_rail name b) (let e : 0 + bit ≡ bit = omega arith in e) ∙ named_is name (decimal bit) (side 0)
  rail_text_is name bit false = ap (λ b. false_rail name b) (let e : 0 + bit ≡ bit = omega arith in e) ∙ named_is name (decimal bit) (side 1)

  pub rail_named : (k i : ℕ) (one : Bool) → k < length p.channels → i < channel_width p.channels k →
      get_or (wire_names p.channels ++ blocks_and_body) (wires_before p.channels k + rail_place i one) [] ≡
      text p (dotted (of_channel k) (a_bit i (rail_side one)))
  rail_named k i one h lt =
      let name = channel_name p.channels k in
      let w = channel_width p.channels k in
      let below = rail_place_lt i w one lt in
      let n = rails_length name 0 w in
      wire_at p.channels blocks_and_body k (rail_place i one) h (omega (arith, below))
      ∙ (get_or_append_left (rail_names name w) (ack_name name ∷ []) [] (rail_place i one) (omega (arith, below, n))
      ∙ (rail_at name 0 w i one lt ∙ rail_text_is name i one))

  pub ack_named : (k : ℕ) → k < length p.channels →
      get_or (wire_names p.channels ++ blocks_and_body) (wires_before p.channels k + 2 * channel_width p.channels k) [] ≡ text p (dotted (of_channel k) the_ack)
  ack_named k h =
      let name = channel_name p.channels k in
      let w = channel_width p.channels k in
      let n = rails_length name 0 w in
      wire_at p.channels blocks_and_body k (2 * w) h (omega arith)
      ∙ (ap (λ m. get_or (wires_named name w) m []) (let e : 2 * w ≡ length (rail_names name w) + 0 = omega (arith, n) in e)
      ∙ get_or-append-add (rail_names name w) (ack_name name ∷ []) 0 [])

  found_wire : (m : ℕ) → m < wires_before p.channels (length p.channels) → Found p count (suc (suc m))
  found_wire m lt = by (wire_of p m lt)
    where
      by : Wire p (2 + m) → Found p count (suc (suc m))
      by (a_rail k i one h k_lt e) =
          let narrow = narrow_channel p.channels typed.each_channel k h in
          let place = rail_place_is i one in
          let at : m ≡ wires_before p.channels k + rail_place i one = omega (arith, e) in
          record {
            key = dotted (of_channel k) (a_bit i (rail_side one));
            fine = (h, (omega (arith, narrow, k_lt), side_small one));
            text_is = ap (λ n. get_or (wire_names p.channels ++ blocks_and_body) n []) at ∙ rail_named k i one h k_lt;
            node_is = sides one (let f : channel_from p k + (2 * i + (if one then 0 else 1)) ≡ suc (suc m) = omega (arith, place, e) in f);
          }
        where
          sides : (b : Bool) → channel_from p k + (2 * i + (if b then 0 else 1)) ≡ suc (suc m) → channel_from p k + (2 * i + rail_side b) ≡ suc (suc m)
          sides true f = f
          sides false f = f
      by (an_ack k h e) =
          let at : m ≡ wires_before p.channels k + 2 * channel_width p.channels k = omega (arith, e) in
          record {
            key = dotted (of_channel k) the_ack;
            fine = (h, omega arith);
            text_is = ap (λ n. get_or (wire_names p.channels ++ blocks_and_body) n []) at
                ∙ ack_named k h;
            node_is = omega (arith, e);
          }

  block_bit : (x i r : ℕ) → x < length p.vars → i < var_width p.vars x → r < 5 →
      get_or (block_named (var_name p.vars x) (var_width p.vars x) (vars_from p + blocks_before p.vars x)) (5 * i + r) [] ≡
      text p (dotted (of_var x) (a_bit i r))
  block_bit x i r h lt below =
      let name = var_name p.vars x in
      let w = var_width p.vars x in
      let n = bits_named_length name 0 w in
      get_or_append_left (bits_named name 0 w) (numbered_from (vars_from p + blocks_before p.vars x + 5 * w) (w - 1)) [] (5 * i + r)
      (omega (arith, n, lt, below))
      ∙ (bit_at name 0 w i r lt below ∙ (ap (λ b. get_or (bit_names name b) r []) (let e : 0 + i ≡ i = omega arith in e) ∙ ends name i r below))
    where
      ends : (name : List ℕ) (i r : ℕ) → r < 5 → get_or (bit_names name i) r [] ≡ name ++ 46 ∷ tail_text (a_bit i r)
      ends name i zero k = named_is name (decimal i) (side 0)
      ends name i (suc zero) k = named_is name (decimal i) (side 1)
      ends name i (suc (suc zero)) k = named_is name (decimal i) (side 2)
      ends name i (suc (suc (suc zero))) k = named_is name (decimal i) (side 3)
      ends name i (suc (suc (suc (suc zero)))) k = named_is name (decimal i) (side 4)
      ends name i (suc (suc (suc (suc (suc r))))) k = absurd (omega (arith, k))

  -- of nodes that are called by their numbers
  plain_text : (n : ℕ) → 2 ≤ n → numbered n ≡ text p (plain n)
  plain_text zero h = absurd (omega (arith, h))
  plain_text (suc zero) h = absurd (omega (arith, h))
  plain_text (suc (suc n)) h = refl

  block_joint : (x k : ℕ) → x < length p.vars → k < var_width p.vars x - 1 →
      get_or (block_named (var_name p.vars x) (var_width p.vars x) (vars_from p + blocks_before p.vars x)) (5 * var_width p.vars x + k) [] ≡
      text p (plain (var_from p x + (5 * var_width p.vars x + k)))
  block_joint x k h lt =
      let name = var_name p.vars x in
      let w = var_width p.vars x in
      let from = vars_from p + blocks_before p.vars x + 5 * w in
      let n = bits_named_length name 0 w in
      ap (λ m. get_or (block_named name w (vars_from p + blocks_before p.vars x)) (m + k) []) (sym n)
      ∙ (get_or-append-add (bits_named name 0 w) (numbered_from from (w - 1)) k []
      ∙ (numbered_at from (w - 1) k lt
      ∙ (ap numbered (let e : from + k ≡ var_from p x + (5 * w + k) = omega arith in e) ∙ plain_text (var_from p x + (5 * w + k)) (omega arith))))

  found_part : (x m : ℕ) → x < length p.vars → m < block_size (var_width p.vars x)
      → (n : ℕ) → n ≡ var_from p x + m → get_or (names_to p count) n [] ≡
      get_or (block_named (var_name p.vars x) (var_width p.vars x) (vars_from p + blocks_before p.vars x)) m [] → Found p count n
  found_part x m h lt n is names = by (part_of (var_width p.vars x) m lt)
    where
      w : ℕ
      w = var_width p.vars x

      narrow : var_width p.vars x ≤ 64
      narrow = narrow_var p.vars typed.each_var x h

      bit : (i r : ℕ) → i < var_width p.vars x → r < 5 → 5 * i + r ≡ m → Found p count n
      bit i r k below e = record {
        key = dotted (of_var x) (a_bit i r);
        fine = (h, (omega (arith, narrow, k), below));
        text_is = names ∙ (ap (λ j. get_or (block_named (var_name p.vars x) (var_width p.vars x) (vars_from p + blocks_before p.vars x)) j []) (sym e)
            ∙ block_bit x i r h k below);
        node_is = omega (arith, is, e);
      }

      by : PartAt (var_width p.vars x) m → Found p count n
      by r = part r.part r.fine r.is
        where
          part : (q : Part) → IsPart (var_width p.vars x) q → offset (var_width p.vars x) q ≡ m → Found p count n
          part (b.a_bit i true) k e = bit i 0 k (omega arith) e
          part (b.a_bit i false) k e = bit i 1 k (omega arith) e
          part (b.a_put i true) k e = bit i 2 k (omega arith) e
          part (b.a_put i false) k e = bit i 3 k (omega arith) e
          part (b.a_mark i) k e = bit i 4 k (omega arith) e
          part (b.a_joint j) k e =
              let c = joint_count_is (var_width p.vars x) in
              let blocks = blocks_below p.vars x h in
              record {
                key = plain (var_from p x + (5 * var_width p.vars x + j));
                fine = omega (arith, small, blocks, lt, e);
                text_is = names ∙ (ap (λ i. get_or (block_named (var_name p.vars x) (var_width p.vars x) (vars_from p + blocks_before p.vars x)) i []) (sym e)
                    ∙ block_joint x j h (omega (arith, k, c)));
                node_is = omega (arith, is, e);
              }

  found_number : (j : ℕ) → j < count → get_or (names_to p count) (root_request p + j) [] ≡ numbered (root_request p + j) →
      Found p count (root_request p + j)
  found_number j lt names = record {
    key = plain (root_request p + j);
    fine = omega (arith, small, lt);
    text_is =
        names ∙ plain_text (root_request p + j) (omega arith);
    node_is = refl;
  }

  past_wires : (m : ℕ) → get_or (wire_names p.channels ++ blocks_and_body) (wires_before p.channels (length p.channels) + m) [] ≡ get_or blocks_and_body m []
  past_wires m =
      let n = wire_names_length p.channels in
      ap (λ i. get_or (wire_names p.channels ++ blocks_and_body) (i + m) []) (sym n) ∙ get_or-append-add (wire_names p.channels) blocks_and_body m []

  past_blocks : (m : ℕ) → get_or blocks_and_body (blocks_before p.vars (length p.vars) + m) [] ≡ get_or (numbered_from (root_request p) count)
      m []
  past_blocks m =
      let n = block_names_length p.vars (vars_from p) in
      ap (λ i. get_or blocks_and_body (i + m) []) (sym n)
      ∙ get_or-append-add (block_names p.vars (vars_from p)) (numbered_from (root_request p) count) m []

  found_at : (n : ℕ) → n < root_request p + count → Found p count n
  found_at zero lt = record { key = plain 0; fine = lit< tt; text_is = refl; node_is = refl }
  found_at (suc zero) lt = record { key = plain 1; fine = lit< tt; text_is = refl; node_is = refl }
  found_at (suc (suc m)) lt =
      ⊎_elim
      (λ (wire : m < wires_before p.channels (length p.channels)). found_wire m wire)
      (λ (le : wires_before p.channels (length p.channels) ≤ m). behind (m - wires_before p.channels (length p.channels)) (omega (arith, le)))
      (cases_lt m (wires_before p.channels (length p.channels)))
    where
      at_body : (j : ℕ) → j < count → suc (suc m) ≡ root_request p + j →
          m ≡ wires_before p.channels (length p.channels) + (blocks_before p.vars (length p.vars) + j) → Found p count (suc (suc m))
      at_body j less whole is =
          let names : get_or (names_to p count) (suc (suc m)) [] ≡ numbered (root_request p + j) =
          ap (λ i. get_or (wire_names p.channels ++ blocks_and_body) i []) is
          ∙ (past_wires (blocks_before p.vars (length p.vars) + j) ∙ (past_blocks j ∙ numbered_at (root_request p) count j less)) in
          subst (Found p count) (sym whole) (found_number j less (ap (λ i. get_or (names_to p count) i []) (sym whole) ∙ names))

      behind : (j : ℕ) → m ≡ wires_before p.channels (length p.channels) + j → Found p count (suc (suc m))
      behind j is =
          ⊎_elim
          (λ (block : j < blocks_before p.vars (length p.vars)).
          let o = owner p.vars j block in
          let names : get_or (names_to p count) (suc (suc m)) [] ≡
          get_or (block_named (var_name p.vars o.var) (var_width p.vars o.var) (vars_from p + blocks_before p.vars o.var)) o.place [] =
          ap (λ i. get_or (wire_names p.channels ++ blocks_and_body) i []) is
          ∙ (past_wires j
          ∙ (ap (λ i. get_or blocks_and_body i []) (sym o.is)
          ∙ block_at p.vars (vars_from p) (numbered_from (root_request p) count) o.var o.place o.some o.below)) in
          let place = o.is in
          found_part o.var o.place o.some o.below (suc (suc m)) (omega (arith, is, place)) names)
          (λ (le : blocks_before p.vars (length p.vars) ≤ j).
          at_body (j - blocks_before p.vars (length p.vars)) (omega (arith, is, le, lt)) (omega (arith, is, le)) (omega (arith, is, le)))
          (cases_lt j (blocks_before p.vars (length p.vars)))

  pub each_is_name : All IsNodeName (names_to p count)
  each_is_name = All-from_get_or IsNodeName (names_to p count) [] (λ i lt.
      let r = found_at i (omega (arith, lt, count_of_names p count)) in
      subst IsNodeName (sym r.text_is) (key_is_name p typed r.key r.fine))

  pub all_differ : AllPairs (λ (a b : List ℕ). a ≢ b) (names_to p count)
  all_differ i j d less within same =
      let r = found_at i (omega (arith, less, within, count_of_names p count)) in
      let s = found_at j (omega (arith, within, count_of_names p count)) in
      let first : get_or (names_to p count) i [] ≡ get_or (names_to p count) i d = get_or_default (names_to p count) i [] d (omega (arith, less, within)) in
      let second : get_or (names_to p count) j d ≡ get_or (names_to p count) j [] = get_or_default (names_to p count) j d [] within in
      let texts : text p r.key ≡ text p s.key = sym r.text_is ∙ (first ∙ (same ∙ (second ∙ s.text_is))) in
      let keys = key_same p typed r.key s.key r.fine s.fine texts in
      let nodes : i ≡ j = sym r.node_is ∙ (ap (node p) keys ∙ s.node_is) in
      absurd (omega (arith, less, nodes))
