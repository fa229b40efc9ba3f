-- Which name stands at which place of the list of names.
use Rattle.std.proofs.Common.{◌≡◌, ℕ, zero, suc, ◌+◌, ◌-◌, ◌*◌, ◌/◌, ◌%◌, ◌<◌, ◌≤◌, List, [], ◌∷◌, ◌++◌, length, get_or, drop, refl, sym, ap, ◌∙◌, subst, arith, length-append, append_assoc}
use Rattle.std.specs.Prelude.{codes, decimal, flat_map}
use Rattle.std.specs.List.{range_with_len}
use Rattle.std.proofs.lemmas.List.{get_or_append_left, get_or-append-add, get_or-append_right, drop_more, drop_all}
use Rattle.std.specs.List.{All}
use Rattle.std.proofs.lemmas.List.Elements.{All-get_or, All-head, All-tail}
use Rattle.std.proofs.lemmas.List.FromFn.{get_or-map-range_with_len, length-map-range_with_len}
use Rattle.chp_base.specs.declared.channel.Channel.{Channel}
use Rattle.prs_core.specs.Nets.{true_rail, false_rail, rail_names, ack_name}
use Rattle.width_check.specs.declared.typed.Var.{Var}
use Rattle.width_check.specs.Processes.{TypedProgram}
use Rattle.width_check.specs.Typing.{IsDeclaredVar}
use Rattle.handshake_expand.specs.Layout.{wires_size, block_size, wires_before, blocks_before, vars_from, root_request, size_of, nodes_of}
use Rattle.handshake_expand.specs.Named.{numbered, numbered_from, wires_named, wire_names, bit_tails, bit_names, bits_named, block_names, node_names, name_of_node}

-- lists of one length, one after another

module _ {X : Type 0} (f : ℕ → List X) (m : ℕ) (each : (k : ℕ) → length (f k) ≡ m) where
  flat_length : (from w : ℕ) → length (flat_map f (range_with_len from w)) ≡ w * m
  flat_length from zero = omega arith
  flat_length from (suc w) =
      let rest : length (flat_map f (range_with_len (from + 1) w)) ≡ w * m = flat_length (from + 1) w in
      let both : length (f from ++ flat_map f (range_with_len (from + 1) w)) ≡ length (f from) + length (flat_map f (range_with_len (from + 1) w)) =
      length-append (f from) (flat_map f (range_with_len (from + 1) w)) in
      omega (arith, both, each from, rest)

  flat_at : (from w i j : ℕ) (d : X) → i < w → j < m → get_or (flat_map f (range_with_len from w)) (i * m + j) d ≡ get_or (f (from + i)) j d
  flat_at from zero i j d within small = absurd (omega arith)
  flat_at from (suc w) zero j d within small =
      let place : zero * m + j ≡ j = omega arith in
      let first : from + zero ≡ from = omega arith in
      ap (λ n. get_or (f from ++ flat_map f (range_with_len (from + 1) w)) n d) place
      ∙ (get_or_append_left (f from) (flat_map f (range_with_len (from + 1) w)) d j (omega (arith, each from))
      ∙ ap (λ n. get_or (f n) j d) (sym first))
  flat_at from (suc w) (suc i) j d within small =
      let place : suc i * m + j ≡ length (f from) + (i * m + j) = omega (arith, each from) in
      let next : from + 1 + i ≡ from + suc i = omega arith in
      ap (λ n. get_or (f from ++ flat_map f (range_with_len (from + 1) w)) n d) place
      ∙ (get_or-append-add (f from) (flat_map f (range_with_len (from + 1) w)) (i * m + j) d
      ∙ (flat_at (from + 1) w i j d (omega arith) small
      ∙ ap (λ n. get_or (f n) j d) next))

-- the wires of a channel

abbrev pair_named : List ℕ → ℕ → List (List ℕ)
pair_named name bit = true_rail name bit ∷ false_rail name bit ∷ []

pub wires_length : (c : Channel) → length (wires_named c) ≡ wires_size c.width
wires_length c = omega (arith, length-append (rail_names c.name c.width) (ack_name c.name ∷ []), flat_length (pair_named c.name) 2 (λ k. refl) 0 c.width)

pub ack_named : (c : Channel) (wire : ℕ) → wire ≡ 2 * c.width → get_or (wires_named c) wire [] ≡ ack_name c.name
ack_named c wire is =
    let rails : length (rail_names c.name c.width) ≡ c.width * 2 = flat_length (pair_named c.name) 2 (λ k. refl) 0 c.width in
    let place : wire ≡ length (rail_names c.name c.width) + 0 = omega (arith, is, rails) in
    ap (λ n. get_or (wires_named c) n []) place ∙ get_or-append-add (rail_names c.name c.width) (ack_name c.name ∷ []) 0 []

rail_named : (c : Channel) (bit side : ℕ) → bit < c.width → side < 2 → get_or (wires_named c) (bit * 2 + side) [] ≡ get_or (pair_named c.name bit) side []
rail_named c bit side within small =
    let rails : length (rail_names c.name c.width) ≡ c.width * 2 = flat_length (pair_named c.name) 2 (λ k. refl) 0 c.width in
    let first : 0 + bit ≡ bit = omega arith in
    get_or_append_left (rail_names c.name c.width) (ack_name c.name ∷ []) [] (bit * 2 + side) (omega (arith, rails))
    ∙ (flat_at (pair_named c.name) 2 (λ k. refl) 0 c.width bit side [] within small
    ∙ ap (λ n. get_or (pair_named c.name n) side []) first)

pub true_named : (c : Channel) (wire : ℕ) → wire < 2 * c.width → wire % 2 ≡ 0 → get_or (wires_named c) wire [] ≡ true_rail c.name (wire / 2)
true_named c wire within side =
    let place : wire ≡ wire / 2 * 2 + 0 = omega (arith, side) in
    ap (λ n. get_or (wires_named c) n []) place ∙ rail_named c (wire / 2) 0 (omega (arith, within)) (omega arith)

pub false_named : (c : Channel) (wire : ℕ) → wire < 2 * c.width → 0 < wire % 2 → get_or (wires_named c) wire [] ≡ false_rail c.name (wire / 2)
false_named c wire within side =
    let place : wire ≡ wire / 2 * 2 + 1 = omega (arith, side) in
    ap (λ n. get_or (wires_named c) n []) place ∙ rail_named c (wire / 2) 1 (omega (arith, within)) (omega arith)

-- the bits of a variable

bits_length : (v : Var) → length (bits_named v) ≡ v.width * 5
bits_length v = flat_length (bit_names v.name) 5 (λ k. refl) 0 v.width

-- each node of a bit has its own tail
of_tail : (name : List ℕ) (bit place : ℕ) → place < 5 → get_or (bit_names name bit) place [] ≡ name ++ codes "." ++ decimal bit ++ get_or bit_tails place []
of_tail name bit zero small = refl
of_tail name bit (suc zero) small = refl
of_tail name bit (suc (suc zero)) small = refl
of_tail name bit (suc (suc (suc zero))) small = refl
of_tail name bit (suc (suc (suc (suc zero)))) small = refl
of_tail name bit (suc (suc (suc (suc (suc n))))) small = absurd (omega arith)

pub bit_named : (v : Var) (node : ℕ) → node < 5 * v.width → get_or (bits_named v) node [] ≡ v.name ++ codes "." ++ decimal (node / 5)
    ++ get_or bit_tails (node % 5) []
bit_named v node within =
    let at : node ≡ node / 5 * 5 + node % 5 = omega arith in
    let first : 0 + node / 5 ≡ node / 5 = omega arith in
    ap (λ n. get_or (bits_named v) n []) at
    ∙ (flat_at (bit_names v.name) 5 (λ k. refl) 0 v.width (node / 5) (node % 5) [] (omega (arith, within)) (omega arith)
    ∙ (ap (λ n. get_or (bit_names v.name n) (node % 5) []) first
    ∙ of_tail v.name (node / 5) (node % 5) (omega arith)))

-- a node that is called by its number
pub number_named : (from count place node : ℕ) → place < count → from + place ≡ node → get_or (numbered_from from count) place [] ≡ numbered node
number_named from count place node within is = get_or-map-range_with_len numbered from count place node [] within is

numbers_length : (from count : ℕ) → length (numbered_from from count) ≡ count
numbers_length from count = length-map-range_with_len numbered from count

-- the place of a name, counted from the list's beginning or from behind a part of it
abbrev at_place : List (List ℕ) → ℕ → List ℕ
at_place names place = get_or names place []

front_named : (front behind : List (List ℕ)) (place count : ℕ) → length front ≡ count → place < count → at_place (front ++ behind) place ≡ at_place front place
front_named front behind place count is within = get_or_append_left front behind [] place (omega (arith, is, within))

behind_named : (front behind : List (List ℕ)) (place count : ℕ) → length front ≡ count → count ≤ place →
    at_place (front ++ behind) place ≡ at_place behind (place - count)
behind_named front behind place count is over = get_or-append_right front behind count place [] is over

-- the names from the wires of a channel on, and from the block of a variable on

abbrev pub last_names : TypedProgram → List (List ℕ)
last_names p = numbered_from (root_request p) (2 + size_of p p.body)

abbrev pub names_from_wires : TypedProgram → List Channel → List (List ℕ)
names_from_wires p cs = wire_names cs ++ (block_names p.vars (vars_from p) ++ last_names p)

abbrev pub names_from_blocks : TypedProgram → List Var → (from : ℕ) → List (List ℕ)
names_from_blocks p vs from = block_names vs from ++ last_names p

pub first_named : (p : TypedProgram) (node : ℕ) → 2 ≤ node → name_of_node p node ≡ at_place (names_from_wires p p.channels) (node - 2)
first_named p node low =
    let at : node ≡ suc (suc (node - 2)) = omega (arith, low) in
    ap (λ n. at_place (node_names p) n) at

pub wire_here : (p : TypedProgram) (cs : List Channel) (i place : ℕ) (c : Channel) → i < length cs → c ≡ get_or cs i c → place < wires_size c.width
    → at_place (names_from_wires p (drop i cs)) place ≡ at_place (wires_named c) place
wire_here p cs i place c within is small =
    let rest = wire_names (drop (i + 1) cs) in
    let more : drop i cs ≡ c ∷ drop (i + 1) cs = drop_more cs i c within ∙ ap (λ x. x ∷ drop (i + 1) cs) (sym is) in
    ap (λ xs. at_place (names_from_wires p xs) place) more
    ∙ (front_named (wires_named c ++ rest) (block_names p.vars (vars_from p) ++ last_names p) place (wires_size c.width + length rest)
    (length-append (wires_named c) rest ∙ ap (λ n. n + length rest) (wires_length c)) (omega (arith, small))
    ∙ front_named (wires_named c) rest place (wires_size c.width) (wires_length c) small)

pub wire_behind : (p : TypedProgram) (cs : List Channel) (i place : ℕ) (c : Channel) → i < length cs → c ≡ get_or cs i c → wires_size c.width ≤ place
    → at_place (names_from_wires p (drop i cs)) place ≡ at_place (names_from_wires p (drop (i + 1) cs)) (place - wires_size c.width)
wire_behind p cs i place c within is over =
    let rest = wire_names (drop (i + 1) cs) in
    let tail = block_names p.vars (vars_from p) ++ last_names p in
    let more : drop i cs ≡ c ∷ drop (i + 1) cs = drop_more cs i c within ∙ ap (λ x. x ∷ drop (i + 1) cs) (sym is) in
    ap (λ xs. at_place (names_from_wires p xs) place) more
    ∙ (ap (λ xs. at_place xs place) (append_assoc (wires_named c) rest tail)
    ∙ behind_named (wires_named c) (rest ++ tail) place (wires_size c.width) (wires_length c) over)

pub wires_over : (p : TypedProgram) (cs : List Channel) (i place : ℕ) → length cs ≤ i →
    at_place (names_from_wires p (drop i cs)) place ≡ at_place (names_from_blocks p p.vars (vars_from p)) place
wires_over p cs i place all = ap (λ xs. at_place (names_from_wires p xs) place) (drop_all i cs all)

-- the nodes of a block
abbrev block_named : Var → (from : ℕ) → List (List ℕ)
block_named v from = bits_named v ++ numbered_from (from + 5 * v.width) (v.width - 1)

block_length : (v : Var) (from : ℕ) → 1 ≤ v.width → length (block_named v from) ≡ block_size v.width
block_length v from some =
    let numbers = numbers_length (from + 5 * v.width) (v.width - 1) in
    let bits = bits_length v in
    let both : length (block_named v from) ≡ length (bits_named v) + length (numbered_from (from + 5 * v.width) (v.width - 1)) =
    length-append (bits_named v) (numbered_from (from + 5 * v.width) (v.width - 1)) in
    omega (arith, numbers, bits, both, some)

module _ (p : TypedProgram) (vs : List Var) (i from place : ℕ) (v : Var) (within : i < length vs) (is : v ≡ get_or vs i v) (some : 1 ≤ v.width) where
  block_first : names_from_blocks p (drop i vs) from ≡ block_named v from ++ (names_from_blocks p (drop (i + 1) vs) (from + block_size v.width))
  block_first =
      let more : drop i vs ≡ v ∷ drop (i + 1) vs = drop_more vs i v within ∙ ap (λ x. x ∷ drop (i + 1) vs) (sym is) in
      let numbers = numbered_from (from + 5 * v.width) (v.width - 1) in
      let rest = block_names (drop (i + 1) vs) (from + block_size v.width) in
      ap (λ xs. names_from_blocks p xs from) more
      ∙ (append_assoc (bits_named v) (numbers ++ rest) (last_names p)
      ∙ (ap (λ xs. bits_named v ++ xs) (append_assoc numbers rest (last_names p))
      ∙ sym (append_assoc (bits_named v) numbers (rest ++ last_names p))))

  pub bit_here : place < 5 * v.width → at_place (names_from_blocks p (drop i vs) from) place ≡ at_place (bits_named v) place
  bit_here small =
      ap (λ xs. at_place xs place) block_first
      ∙ (front_named (block_named v from) (names_from_blocks p (drop (i + 1) vs) (from + block_size v.width)) place (block_size v.width)
      (block_length v from some) (omega (arith, small, some))
      ∙ front_named (bits_named v) (numbered_from (from + 5 * v.width) (v.width - 1)) place (v.width * 5) (bits_length v) (omega (arith, small)))

  pub tree_here : (node : ℕ) → 5 * v.width ≤ place → place < block_size v.width → from + place ≡ node →
      at_place (names_from_blocks p (drop i vs) from) place ≡ numbered node
  tree_here node over small at =
      ap (λ xs. at_place xs place) block_first
      ∙ (front_named (block_named v from) (names_from_blocks p (drop (i + 1) vs) (from + block_size v.width)) place (block_size v.width)
      (block_length v from some) small
      ∙ (behind_named (bits_named v) (numbered_from (from + 5 * v.width) (v.width - 1)) place (v.width * 5) (bits_length v) (omega (arith, over))
      ∙ number_named (from + 5 * v.width) (v.width - 1) (place - v.width * 5) node (omega (arith, over, small)) (omega (arith, over, at))))

  pub block_behind : block_size v.width ≤ place →
      at_place (names_from_blocks p (drop i vs) from) place ≡ at_place (names_from_blocks p (drop (i + 1) vs) (from + block_size v.width))
      (place - block_size v.width)
  block_behind over =
      ap (λ xs. at_place xs place) block_first
      ∙ behind_named (block_named v from) (names_from_blocks p (drop (i + 1) vs) (from + block_size v.width)) place (block_size v.width)
      (block_length v from some) over

pub blocks_over : (p : TypedProgram) (vs : List Var) (i from place node : ℕ) → length vs ≤ i → root_request p + place ≡ node → node < nodes_of p →
    from ≡ root_request p
    → at_place (names_from_blocks p (drop i vs) from) place ≡ numbered node
blocks_over p vs i from place node all at within is =
    ap (λ xs. at_place (names_from_blocks p xs from) place) (drop_all i vs all)
    ∙ number_named (root_request p) (2 + size_of p p.body) place node (omega (arith, at, within)) at

pub no_wires_before : (xs : List Channel) → wires_before xs zero ≡ 0
no_wires_before [] = refl
no_wires_before (y ∷ ys) = refl

pub no_blocks_before : (xs : List Var) → blocks_before xs zero ≡ 0
no_blocks_before [] = refl
no_blocks_before (y ∷ ys) = refl

-- the wires before the next channel, and the blocks before the next variable
pub next_wires : (cs : List Channel) (i : ℕ) (c : Channel) → i < length cs → c ≡ get_or cs i c →
    wires_before cs (i + 1) ≡ wires_before cs i + wires_size c.width
next_wires [] i c within is = absurd (omega arith)
next_wires (x ∷ xs) zero c within is =
    let same : c.width ≡ x.width = ap (λ (y : Channel). y.width) is in
    let none : wires_before xs zero ≡ 0 = no_wires_before xs in
    let step : zero + 1 ≡ suc zero = omega arith in
    let whole : wires_before (x ∷ xs) (zero + 1) ≡ wires_size x.width + wires_before xs zero = ap (wires_before (x ∷ xs)) step in
    omega (arith, same, none, whole)
next_wires (x ∷ xs) (suc i) c within is =
    let rest : wires_before xs (i + 1) ≡ wires_before xs i + wires_size c.width = next_wires xs i c (omega (arith, within)) is in
    let step : suc i + 1 ≡ suc (i + 1) = omega arith in
    let whole : wires_before (x ∷ xs) (suc i + 1) ≡ wires_size x.width + wires_before xs (i + 1) = ap (wires_before (x ∷ xs)) step in
    omega (arith, rest, whole)

pub next_blocks : (vs : List Var) (i : ℕ) (v : Var) → i < length vs → v ≡ get_or vs i v → blocks_before vs (i + 1) ≡ blocks_before vs i + block_size v.width
next_blocks [] i v within is = absurd (omega arith)
next_blocks (x ∷ xs) zero v within is =
    let same : v.width ≡ x.width = ap (λ (y : Var). y.width) is in
    let none : blocks_before xs zero ≡ 0 = no_blocks_before xs in
    let step : zero + 1 ≡ suc zero = omega arith in
    let whole : blocks_before (x ∷ xs) (zero + 1) ≡ block_size x.width + blocks_before xs zero = ap (blocks_before (x ∷ xs)) step in
    omega (arith, same, none, whole)
next_blocks (x ∷ xs) (suc i) v within is =
    let rest : blocks_before xs (i + 1) ≡ blocks_before xs i + block_size v.width = next_blocks xs i v (omega (arith, within)) is in
    let step : suc i + 1 ≡ suc (i + 1) = omega arith in
    let whole : blocks_before (x ∷ xs) (suc i + 1) ≡ block_size x.width + blocks_before xs (i + 1) = ap (blocks_before (x ∷ xs)) step in
    omega (arith, rest, whole)

-- a declared variable has a bit
pub some_width : (vs items : List Var) (i : ℕ) (v : Var) → items ≡ vs → i < length items → v ≡ get_or items i v → All IsDeclaredVar vs → 1 ≤ v.width
some_width vs items i v same within is all =
    let inside : i < length vs = subst (λ (xs : List Var). i < length xs) same within in
    let at : v ≡ get_or vs i v = subst (λ (xs : List Var). v ≡ get_or xs i v) same is in
    subst (λ (x : Var). 1 ≤ x.width) (sym at) (All-get_or IsDeclaredVar vs i v inside all).some

-- the nodes from the root's first one on are called by their numbers
wires_all : (cs : List Channel) → length (wire_names cs) ≡ wires_before cs (length cs)
wires_all [] = refl
wires_all (c ∷ cs) = length-append (wires_named c) (wire_names cs)
    ∙ (ap (λ n. n + length (wire_names cs)) (wires_length c) ∙ ap (λ n. wires_size c.width + n) (wires_all cs))

blocks_all : (vs : List Var) (from : ℕ) → All IsDeclaredVar vs → length (block_names vs from) ≡ blocks_before vs (length vs)
blocks_all [] from declared = refl
blocks_all (v ∷ vs) from declared =
    let numbers = numbered_from (from + 5 * v.width) (v.width - 1) in
    let rest = block_names vs (from + block_size v.width) in
    let first : length (bits_named v ++ numbers) ≡ block_size v.width = block_length v from (All-head IsDeclaredVar v vs declared).some in
    let behind : length rest ≡ blocks_before vs (length vs) = blocks_all vs (from + block_size v.width) (All-tail IsDeclaredVar v vs declared) in
    ap length (sym (append_assoc (bits_named v) numbers rest))
    ∙ (length-append (bits_named v ++ numbers) rest
    ∙ (ap (λ n. n + length rest) first
    ∙ ap (λ n. block_size v.width + n) behind))

pub names_counted : (p : TypedProgram) → All IsDeclaredVar p.vars → length (node_names p) ≡ nodes_of p
names_counted p declared =
    let wires = wires_all p.channels in
    let blocks = blocks_all p.vars (vars_from p) declared in
    let last : length (last_names p) ≡ 2 + size_of p p.body = numbers_length (root_request p) (2 + size_of p p.body) in
    let tail : length (block_names p.vars (vars_from p) ++ last_names p) ≡ length (block_names p.vars (vars_from p)) + length (last_names p) =
    length-append (block_names p.vars (vars_from p)) (last_names p) in
    let whole : length (wire_names p.channels ++ (block_names p.vars (vars_from p) ++ last_names p)) ≡ length (wire_names p.channels) +
    length (block_names p.vars (vars_from p) ++ last_names p) = length-append (wire_names p.channels) (block_names p.vars (vars_from p) ++ last_names p) in
    omega (arith, wires, blocks, last, tail, whole)

pub inner_named : (p : TypedProgram) (node : ℕ) → All IsDeclaredVar p.vars → root_request p ≤ node → node < nodes_of p → name_of_node p node ≡ numbered node
inner_named p node declared low high =
    let blocks = block_names p.vars (vars_from p) in
    let place : vars_from p - 2 ≡ wires_before p.channels (length p.channels) = omega arith in
    first_named p node (omega (arith, low))
    ∙ (behind_named (wire_names p.channels) (blocks ++ last_names p) (node - 2) (wires_before p.channels (length p.channels)) (wires_all p.channels)
    (omega (arith, low))
    ∙ (behind_named blocks (last_names p) (node - 2 - wires_before p.channels (length p.channels)) (blocks_before p.vars (length p.vars))
    (blocks_all p.vars (vars_from p) declared) (omega (arith, low))
    ∙ number_named (root_request p) (2 + size_of p p.body) (node - 2 - wires_before p.channels (length p.channels) - blocks_before p.vars (length p.vars)) node
    (omega (arith, low, high)) (omega (arith, low))))
