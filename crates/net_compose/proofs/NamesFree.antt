-- No node of a program's circuit is named reset, whose name has no dot and begins neither as go and done do nor as numbered nodes do.
use Rattle.std.proofs.Common.{◌≡◌, ◌≢◌, ◌∙◌, ℕ, ◌+◌, ◌-◌, ◌*◌, ◌==◌, Bool, true, false, List, [], ◌∷◌, ◌++◌, map, refl, sym, ap, arith}
use Rattle.std.specs.Prelude.{◌||◌, All, codes, decimal, flat_map}
use Rattle.std.specs.List.{range_with_len}
use Rattle.std.proofs.lemmas.Bool.Decides.{nat_tests}
use Rattle.std.proofs.lemmas.List.Elements.{All-nil, All-cons, All-append}
use Rattle.chp_base.specs.declared.channel.Channel.{Channel}
use Rattle.prs_core.specs.Nets.{true_rail, false_rail, rail_names, ack_name}
use Rattle.width_check.specs.declared.typed.Var.{Var}
use Rattle.width_check.specs.Processes.{TypedProgram}
use Rattle.handshake_expand.specs.Layout.{block_size, vars_from, root_request, size_of}
use Rattle.handshake_expand.specs.Named.{numbered, numbered_from, wires_named, wire_names, bit_tails, bit_names, bits_named, block_names, node_names}
use Rattle.net_compose.specs.NamesTo.{names_to}

abbrev IsFree : List ℕ → Type 0
IsFree name = name ≢ codes "reset"

-- ---- a name with a dot in it, and one that begins otherwise

abbrev has_dot : List ℕ → Bool
has_dot [] = false
has_dot (c ∷ cs) = (c == 46) || has_dot cs

or_right : (a b : Bool) → b ≡ true → (a || b) ≡ true
or_right true b e = refl
or_right false b e = e

dot_in : (xs s : List ℕ) → has_dot (xs ++ 46 ∷ s) ≡ true
dot_in [] s = refl
dot_in (x ∷ xs) s = or_right (x == 46) _ (dot_in xs s)

either : (a b c : Bool) → (b ≡ true → c ≡ true) → (a || b) ≡ true → (a || c) ≡ true
either true b c then is = refl
either false b c then is = then is

dot_kept : (xs s : List ℕ) → has_dot xs ≡ true → has_dot (xs ++ s) ≡ true
dot_kept [] s is = cc
dot_kept (x ∷ xs) s is = either (x == 46) (has_dot xs) (has_dot (xs ++ s)) (dot_kept xs s) is

dotted : (name : List ℕ) → has_dot name ≡ true → IsFree name
dotted name is e = absurd (cc (sym is ∙ ap has_dot e))

-- a name, a dot, a number and what is behind it
wire : (name digits tail : List ℕ) → IsFree (name ++ codes "." ++ digits ++ tail)
wire name digits tail = dotted (name ++ codes "." ++ digits ++ tail)
    (dot_kept (name ++ codes "." ++ digits) tail (dot_kept (name ++ codes ".") digits (dot_in name [])))

abbrev first_of : List ℕ → ℕ
first_of [] = 0
first_of (x ∷ xs) = x

begins : (x : ℕ) (xs : List ℕ) → (x == 114) ≡ false → IsFree (x ∷ xs)
begins x xs out e =
    let same : x ≡ 114 = ap first_of e in
    grind (arith, nat_tests)

numbered_free : (node : ℕ) → IsFree (numbered node)
numbered_free node = begins 110 (decimal node) refl

-- ---- lists of names

all_mapped : {A : Type 0} (f : A → List ℕ) (xs : List A) → ((x : A) → IsFree (f x)) → All IsFree (map f xs)
all_mapped f [] each = All-nil IsFree
all_mapped f (x ∷ xs) each = All-cons IsFree (f x) (map f xs) (each x) (all_mapped f xs each)

all_flat : {A : Type 0} (f : A → List (List ℕ)) (xs : List A) → ((x : A) → All IsFree (f x)) → All IsFree (flat_map f xs)
all_flat f [] each = All-nil IsFree
all_flat f (x ∷ xs) each = All-append IsFree (f x) (flat_map f xs) (each x) (all_flat f xs each)

one : (name : List ℕ) → IsFree name → All IsFree (name ∷ [])
one name is = All-cons IsFree name [] is (All-nil IsFree)

wires_free : (c : Channel) → All IsFree (wires_named c)
wires_free c = All-append IsFree (rail_names c.name c.width) (ack_name c.name ∷ [])
    (all_flat (λ bit. true_rail c.name bit ∷ false_rail c.name bit ∷ []) (range_with_len 0 c.width)
    (λ bit. All-cons IsFree (true_rail c.name bit) (false_rail c.name bit ∷ []) (wire c.name (decimal bit) (codes ".t"))
    (one (false_rail c.name bit) (wire c.name (decimal bit) (codes ".f")))))
    (one (ack_name c.name) (dotted (ack_name c.name) (dot_in c.name (codes "a"))))

bits_free : (v : Var) → All IsFree (bits_named v)
bits_free v = all_flat (bit_names v.name) (range_with_len 0 v.width) (λ bit. all_mapped (λ tail. v.name ++ codes "." ++ decimal bit ++ tail) bit_tails
    (λ tail. wire v.name (decimal bit) tail))

all_numbered : (from count : ℕ) → All IsFree (numbered_from from count)
all_numbered from count = all_mapped numbered (range_with_len from count) numbered_free

blocks_free : (vs : List Var) (from : ℕ) → All IsFree (block_names vs from)
blocks_free [] from = All-nil IsFree
blocks_free (v ∷ vs) from = All-append IsFree (bits_named v) _ (bits_free v)
    (All-append IsFree (numbered_from (from + 5 * v.width) (v.width - 1)) _ (all_numbered _ _) (blocks_free vs (from + block_size v.width)))

pub some_names_free : (p : TypedProgram) (count : ℕ) → All (λ name. name ≢ codes "reset") (names_to p count)
some_names_free p count =
    let body = numbered_from (root_request p) count in
    let blocks = block_names p.vars (vars_from p) ++ body in
    let blocks_are = All-append IsFree (block_names p.vars (vars_from p)) body (blocks_free p.vars (vars_from p))
    (all_numbered (root_request p) count) in
    let wires_are = All-append IsFree (wire_names p.channels) blocks (all_flat wires_named p.channels wires_free) blocks_are in
    All-cons IsFree (codes "go") (codes "done" ∷ (wire_names p.channels ++ blocks)) (begins 103 (codes "o") refl)
    (All-cons IsFree (codes "done") (wire_names p.channels ++ blocks) (begins 100 (codes "one") refl) wires_are)

pub names_free : (p : TypedProgram) → All (λ name. name ≢ codes "reset") (node_names p)
names_free p = some_names_free p (2 + size_of p p.body)
