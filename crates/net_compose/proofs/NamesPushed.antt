-- Names that are appended piece by piece.
use Rattle.std.proofs.Common.{◌≡◌, ◌∙◌, ℕ, ◌+◌, ◌-◌, ◌*◌, ◌<◌, List, [], ◌∷◌, ◌++◌, length, get_or, drop, take, sym, ap, arith, append_assoc, append-nil, map-id, le_refl}
use Rattle.std.specs.Prelude.{codes}
use Rattle.std.specs.List.{flat_map, range_with_len}
use Rattle.std.proofs.lemmas.List.{take-append-le, drop_more, take_more, take_all}
use Rattle.std.proofs.lemmas.List.Concat.{flat_map-append}
use Rattle.std.proofs.lemmas.List.FromFn.{map-range_with_len_more}
use Rattle.chp_base.specs.declared.channel.Channel.{Channel}
use Rattle.width_check.specs.declared.typed.Var.{Var}
use Rattle.width_check.specs.Processes.{TypedProgram}
use Rattle.handshake_expand.specs.Layout.{block_size, wires_before, blocks_before, vars_from, root_request, size_of, nodes_of}
use Rattle.handshake_expand.specs.Named.{numbered, numbered_from, wires_named, wire_names, bits_named, block_names, node_names}
use Rattle.net_compose.specs.NamesTo.{names_to}

-- what is appended leaves what was there before it
pub front_kept : (xs ys zs : List ℕ) → zs ≡ xs ++ ys → take (length xs) zs ≡ xs
front_kept xs ys zs is =
    ap (take (length xs)) is
    ∙ (take-append-le (length xs) xs ys (le_refl (length xs))
    ∙ take_all (length xs) xs (le_refl (length xs)))

-- one more number
pub numbers_more : (from place : ℕ) (before now after : List (List ℕ)) → now ≡ before ++ numbered_from from place → after ≡ now ++ numbered (from + place) ∷ []
    → after ≡ before ++ numbered_from from (place + 1)
numbers_more from place before now after so_far one =
    let more : numbered_from from (place + 1) ≡ numbered_from from place ++ numbered (from + place) ∷ [] =
    map-range_with_len_more numbered from place (from + place) (omega arith) in
    one
    ∙ (ap (λ xs. xs ++ numbered (from + place) ∷ []) so_far
    ∙ (append_assoc before (numbered_from from place) (numbered (from + place) ∷ [])
    ∙ ap (λ xs. before ++ xs) (sym more)))

range_more : (i : ℕ) → range_with_len 0 (i + 1) ≡ range_with_len 0 i ++ i ∷ []
range_more i =
    sym (map-id (range_with_len 0 (i + 1)))
    ∙ (map-range_with_len_more (λ k. k) 0 i i (omega arith)
    ∙ ap (λ xs. xs ++ i ∷ []) (map-id (range_with_len 0 i)))

-- the names of one more bit
pub bits_more : (f : ℕ → List (List ℕ)) (i : ℕ) (before now after : List (List ℕ)) → now ≡ before ++ flat_map f (range_with_len 0 i) → after ≡ now ++ f i
    → after ≡ before ++ flat_map f (range_with_len 0 (i + 1))
bits_more f i before now after so_far one =
    let more : flat_map f (range_with_len 0 (i + 1)) ≡ flat_map f (range_with_len 0 i) ++ f i =
    ap (flat_map f) (range_more i) ∙ (flat_map-append f (range_with_len 0 i) (i ∷ []) ∙ ap (λ xs. flat_map f (range_with_len 0 i) ++ xs) (append-nil (f i))) in
    one
    ∙ (ap (λ xs. xs ++ f i) so_far
    ∙ (append_assoc before (flat_map f (range_with_len 0 i)) (f i)
    ∙ ap (λ xs. before ++ xs) (sym more)))

-- the wires of one more channel
pub wires_more : (cs : List Channel) (i : ℕ) (c : Channel) (before now after : List (List ℕ)) → i < length cs → c ≡ get_or cs i c
    → now ≡ before ++ wire_names (take i cs) → after ≡ now ++ wires_named c → after ≡ before ++ wire_names (take (i + 1) cs)
wires_more cs i c before now after within is so_far one =
    let here : take (i + 1) cs ≡ take i cs ++ c ∷ [] = take_more cs i c within ∙ ap (λ x. take i cs ++ x ∷ []) (sym is) in
    let more : wire_names (take (i + 1) cs) ≡ wire_names (take i cs) ++ wires_named c =
    ap wire_names here ∙ (flat_map-append wires_named (take i cs) (c ∷ []) ∙ ap (λ xs. wire_names (take i cs) ++ xs) (append-nil (wires_named c))) in
    one
    ∙ (ap (λ xs. xs ++ wires_named c) so_far
    ∙ (append_assoc before (wire_names (take i cs)) (wires_named c)
    ∙ ap (λ xs. before ++ xs) (sym more)))

-- the block of one more variable
pub block_more : (vs : List Var) (i from : ℕ) (v : Var) (before now after : List (List ℕ)) → i < length vs → v ≡ get_or vs i v
    → now ++ block_names (drop i vs) from ≡ before
    → after ≡ now ++ (bits_named v ++ numbered_from (from + 5 * v.width) (v.width - 1))
    → after ++ block_names (drop (i + 1) vs) (from + block_size v.width) ≡ before
block_more vs i from v before now after within is so_far one =
    let numbers = numbered_from (from + 5 * v.width) (v.width - 1) in
    let rest = block_names (drop (i + 1) vs) (from + block_size v.width) in
    let here : drop i vs ≡ v ∷ drop (i + 1) vs = drop_more vs i v within ∙ ap (λ x. x ∷ drop (i + 1) vs) (sym is) in
    ap (λ xs. xs ++ rest) one
    ∙ (append_assoc now (bits_named v ++ numbers) rest
    ∙ (ap (λ xs. now ++ xs) (append_assoc (bits_named v) numbers rest)
    ∙ (ap (λ vars. now ++ block_names vars from) (sym here)
    ∙ so_far)))

-- the names of all nodes
pub nodes_more : (p : TypedProgram) (cs : List Channel) (vs : List Var) (all from root count : ℕ) (before ends wires blocks after : List (List ℕ))
    → cs ≡ p.channels → vs ≡ p.vars → ends ≡ before ++ codes "go" ∷ codes "done" ∷ [] → wires ≡ ends ++ wire_names cs → blocks ≡ wires ++ block_names vs from
    → after ≡ blocks ++ numbered_from root count → from ≡ 2 + wires_before cs (length cs) → root ≡ from + blocks_before vs (length vs)
    → count ≡ all - root → after ≡ before ++ names_to p (all - root_request p)
nodes_more p cs vs all from root count before ends wires blocks after same_channels same_vars first second third fourth at_from at_root at_count =
    let heads = codes "go" ∷ codes "done" ∷ [] in
    let channel_part = wire_names p.channels in
    let var_part = block_names p.vars (vars_from p) in
    let last_part = numbered_from (root_request p) (all - root_request p) in
    let vars_at : from ≡ vars_from p = at_from ∙ ap (λ (l : List Channel). 2 + wires_before l (length l)) same_channels in
    let root_at : root ≡ root_request p =
    at_root ∙ (ap (λ n. n + blocks_before vs (length vs)) vars_at ∙ ap (λ (l : List Var). vars_from p + blocks_before l (length l)) same_vars) in
    let left : count ≡ all - root_request p = at_count ∙ ap (λ n. all - n) root_at in
    let two : wires ≡ ends ++ channel_part = second ∙ ap (λ (l : List Channel). ends ++ wire_names l) same_channels in
    let three : blocks ≡ wires ++ var_part =
    third ∙ (ap (λ (l : List Var). wires ++ block_names l from) same_vars ∙ ap (λ n. wires ++ block_names p.vars n) vars_at) in
    let four : after ≡ blocks ++ last_part =
    fourth ∙ (ap (λ n. blocks ++ numbered_from n count) root_at ∙ ap (λ n. blocks ++ numbered_from (root_request p) n) left) in
    four
    ∙ (ap (λ xs. xs ++ last_part) (three ∙ ap (λ xs. xs ++ var_part) (two ∙ ap (λ xs. xs ++ channel_part) first))
    ∙ (append_assoc ((before ++ heads) ++ channel_part) var_part last_part
    ∙ (append_assoc (before ++ heads) channel_part (var_part ++ last_part)
    ∙ append_assoc before heads (channel_part ++ (var_part ++ last_part)))))

-- those of a program's circuit
pub program_names : (p : TypedProgram) (count : ℕ) → count ≡ nodes_of p → names_to p (count - root_request p) ≡ node_names p
program_names p count is =
    let left : count - root_request p ≡ 2 + size_of p p.body = omega (arith, is) in
    ap (names_to p) left
