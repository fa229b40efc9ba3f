-- The parts of an expression and of a statement, as lists, and what they count.
use Rattle.std.proofs.Common.{◌≡◌, ℕ, zero, suc, ◌+◌, ◌-◌, ◌*◌, ◌<◌, ◌≤◌, Bool, true, false, List, [], ◌∷◌, length, get_or, drop, refl, sym, ap, ◌∙◌, arith}
use Rattle.std.specs.Prelude.{if◌then◌else◌}
use Rattle.std.proofs.lemmas.List.{drop_more, drop_all}
use Rattle.std.specs.declared.alloc.Global.{Global}
use Rattle.std.specs.declared.boxed.Box.{Box}
use Rattle.std.specs.declared.vec.Vec.{Vec}
use Rattle.chp_base.specs.declared.channel.Channel.{Channel}
use Rattle.width_check.specs.declared.typed.Var.{Var}
use Rattle.width_check.specs.declared.typed.TExpr.{TExpr, Join, Chain, Row_of-TExpr, end_of-TExpr, more_of-TExpr, Row_of-TLink, end_of-TLink, more_of-TLink, items-the_row-TExpr, items-the_row-TLink, items_hidden-the_row-TExpr-0, items_hidden-the_row-TLink-1}
use Rattle.width_check.specs.declared.typed.TExpr.TheBlock.{hidden-the_row-TExpr-0, hidden-the_row-TLink-1}
use Rattle.width_check.specs.declared.typed.TLink.{TLink}
use Rattle.width_check.specs.declared.typed.TStmt.{TStmt, Then, Beside, Select, Row_of-TStmt, end_of-TStmt, more_of-TStmt, Row_of-TArm, end_of-TArm, more_of-TArm, items-the_row-TStmt, items-the_row-TArm, items_hidden-the_row-TStmt-0, items_hidden-the_row-TArm-1}
use Rattle.width_check.specs.declared.typed.TStmt.TheBlock.{hidden-the_row-TStmt-0, hidden-the_row-TArm-1}
use Rattle.width_check.specs.declared.typed.TArm.{TArm}
use Rattle.width_check.specs.Processes.{joined, chained, Formulas, no_parts, and_part, Operations, no_operations, and_operation, in_turn, side_by_side, choosing, Processes, no_members, and_member, member_count, Choices, no_choices, and_choice, choice_count, TypedProgram}
use Rattle.width_check.specs.Typing.{channel_width, var_width}
use Rattle.width_check.specs.View.{formula_of, formulas_of, operations_of, process_of, processes_of, choices_of}
pub use Rattle.width_check.specs.View.{members_in, choices_in}
use Rattle.handshake_expand.specs.Answers.{select_own, again_own}
use Rattle.handshake_expand.specs.Layout.{wires_size, block_size, wires_before, blocks_before, size_of, turn_size, branches_size, guards_size, bodies_size}

abbrev pub parts_of : List TExpr → Formulas
parts_of [] = no_parts
parts_of (e ∷ es) = and_part (formula_of e) (parts_of es)

abbrev pub links_of : List TLink → Operations
links_of [] = no_operations
links_of (l ∷ ls) = and_operation l.op (formula_of l.right) (links_of ls)

parts_row : {m : _} (row : Row_of-TExpr m) → formulas_of row ≡ parts_of (items-the_row-TExpr m row)
parts_row end_of-TExpr = refl
parts_row (more_of-TExpr e rest) = ap (and_part (formula_of e)) (parts_row rest)

links_row : {m : _} (row : Row_of-TLink m) → operations_of row ≡ links_of (items-the_row-TLink m row)
links_row end_of-TLink = refl
links_row (more_of-TLink op right rest) = ap (and_operation op (formula_of right)) (links_row rest)

members_row : {m : _} (row : Row_of-TStmt m) → processes_of row ≡ members_in (items-the_row-TStmt m row)
members_row end_of-TStmt = refl
members_row (more_of-TStmt s rest) = ap (and_member (process_of s)) (members_row rest)

arms_row : {m : _} (row : Row_of-TArm m) → choices_of row ≡ choices_in (items-the_row-TArm m row)
arms_row end_of-TArm = refl
arms_row (more_of-TArm guard body rest) = ap (and_choice (formula_of guard) (process_of body)) (arms_row rest)

pub join_is : (e : TExpr) (v : Vec TExpr Global) → e ≡ Join v → formula_of e ≡ joined (parts_of v.items)
join_is e v is = ap formula_of is ∙ ap joined (parts_row (hidden-the_row-TExpr-0 v) ∙ ap parts_of (items_hidden-the_row-TExpr-0 v))

pub chain_is : (e : TExpr) (first : Box TExpr Global) (v : Vec TLink Global) → e ≡ Chain first v →
    formula_of e ≡ chained (formula_of first.value) (links_of v.items)
chain_is e first v is = ap formula_of is ∙ ap (chained (formula_of first.value)) (links_row (hidden-the_row-TLink-1 v)
    ∙ ap links_of (items_hidden-the_row-TLink-1 v))

pub then_is : (s : TStmt) (v : Vec TStmt Global) → s ≡ Then v → process_of s ≡ in_turn (members_in v.items)
then_is s v is = ap process_of is ∙ ap in_turn (members_row (hidden-the_row-TStmt-0 v) ∙ ap members_in (items_hidden-the_row-TStmt-0 v))

pub beside_is : (s : TStmt) (v : Vec TStmt Global) → s ≡ Beside v → process_of s ≡ side_by_side (members_in v.items)
beside_is s v is = ap process_of is ∙ ap side_by_side (members_row (hidden-the_row-TStmt-0 v) ∙ ap members_in (items_hidden-the_row-TStmt-0 v))

pub select_is : (s : TStmt) (again : Bool) (v : Vec TArm Global) → s ≡ Select again v → process_of s ≡ choosing again (choices_in v.items)
select_is s again v is = ap process_of is ∙ ap (choosing again) (arms_row (hidden-the_row-TArm-1 v) ∙ ap choices_in (items_hidden-the_row-TArm-1 v))

-- from a place on there is the one there and those behind it
pub part_at : (es : List TExpr) (i : ℕ) (e : TExpr) → i < length es → e ≡ get_or es i e →
    parts_of (drop i es) ≡ and_part (formula_of e) (parts_of (drop (i + 1) es))
part_at es i e within is = ap parts_of (drop_more es i e within) ∙ ap (λ x. and_part (formula_of x) (parts_of (drop (i + 1) es))) (sym is)

pub no_more_parts : (es : List TExpr) (i : ℕ) → length es ≤ i → parts_of (drop i es) ≡ no_parts
no_more_parts es i all = ap parts_of (drop_all i es all)

pub link_at : (ls : List TLink) (i : ℕ) (l : TLink) → i < length ls → l ≡ get_or ls i l →
    links_of (drop i ls) ≡ and_operation l.op (formula_of l.right) (links_of (drop (i + 1) ls))
link_at ls i l within is = ap links_of (drop_more ls i l within) ∙ ap (λ (x : TLink). and_operation x.op (formula_of x.right) (links_of (drop (i + 1) ls)))
    (sym is)

pub no_more_links : (ls : List TLink) (i : ℕ) → length ls ≤ i → links_of (drop i ls) ≡ no_operations
no_more_links ls i all = ap links_of (drop_all i ls all)

pub member_at : (ss : List TStmt) (i : ℕ) (s : TStmt) → i < length ss → s ≡ get_or ss i s →
    members_in (drop i ss) ≡ and_member (process_of s) (members_in (drop (i + 1) ss))
member_at ss i s within is = ap members_in (drop_more ss i s within) ∙ ap (λ x. and_member (process_of x) (members_in (drop (i + 1) ss))) (sym is)

pub no_more_members : (ss : List TStmt) (i : ℕ) → length ss ≤ i → members_in (drop i ss) ≡ no_members
no_more_members ss i all = ap members_in (drop_all i ss all)

pub arm_at : (arms : List TArm) (i : ℕ) (a : TArm) → i < length arms → a ≡ get_or arms i a →
    choices_in (drop i arms) ≡ and_choice (formula_of a.guard) (process_of a.body) (choices_in (drop (i + 1) arms))
arm_at arms i a within is = ap choices_in (drop_more arms i a within)
    ∙ ap (λ (x : TArm). and_choice (formula_of x.guard) (process_of x.body) (choices_in (drop (i + 1) arms))) (sym is)

pub no_more_arms : (arms : List TArm) (i : ℕ) → length arms ≤ i → choices_in (drop i arms) ≡ no_choices
no_more_arms arms i all = ap choices_in (drop_all i arms all)

-- what the members have together, their Q-elements aside
abbrev pub members_size : TypedProgram → Processes → ℕ
members_size p no_members = 0
members_size p (and_member s more) = size_of p s + members_size p more

-- what the guards and the branches have together
abbrev pub arms_size : TypedProgram → Choices → ℕ
arms_size p cs = guards_size cs + bodies_size p cs

pub members_counted : (ss : List TStmt) → member_count (members_in ss) ≡ length ss
members_counted [] = refl
members_counted (s ∷ ss) = ap suc (members_counted ss)

pub arms_counted : (arms : List TArm) → choice_count (choices_in arms) ≡ length arms
arms_counted [] = refl
arms_counted (a ∷ rest) = ap suc (arms_counted rest)

pub turn_is : (p : TypedProgram) (ms : Processes) → turn_size p ms ≡ 3 * (member_count ms - 1) + members_size p ms
turn_is p no_members = refl
turn_is p (and_member s no_members) = omega arith
turn_is p (and_member s (and_member t more)) =
    let e : turn_size p (and_member t more) ≡ 3 * (member_count (and_member t more) - 1) + members_size p (and_member t more) = turn_is p (and_member t more) in
    omega arith

pub branches_are : (p : TypedProgram) (ms : Processes) → branches_size p ms ≡ 3 * member_count ms + members_size p ms
branches_are p no_members = refl
branches_are p (and_member s more) =
    let e : branches_size p more ≡ 3 * member_count more + members_size p more = branches_are p more in
    omega arith

-- the width that is declared
pub channel_found : (cs : List Channel) (i : ℕ) (c : Channel) → i < length cs → c ≡ get_or cs i c → c.width ≡ channel_width cs i
channel_found [] i c within is = absurd (omega arith)
channel_found (x ∷ xs) zero c within is = ap (λ (y : Channel). y.width) is
channel_found (x ∷ xs) (suc i) c within is = channel_found xs i c (omega arith) is

pub no_channel : (cs : List Channel) (i : ℕ) → length cs ≤ i → 0 ≡ channel_width cs i
no_channel [] i all = refl
no_channel (x ∷ xs) zero all = absurd (omega arith)
no_channel (x ∷ xs) (suc i) all = no_channel xs i (omega arith)

pub var_found : (vs : List Var) (i : ℕ) (v : Var) → i < length vs → v ≡ get_or vs i v → v.width ≡ var_width vs i
var_found [] i v within is = absurd (omega arith)
var_found (x ∷ xs) zero v within is = ap (λ (y : Var). y.width) is
var_found (x ∷ xs) (suc i) v within is = var_found xs i v (omega arith) is

pub no_var : (vs : List Var) (i : ℕ) → length vs ≤ i → 0 ≡ var_width vs i
no_var [] i all = refl
no_var (x ∷ xs) zero all = absurd (omega arith)
no_var (x ∷ xs) (suc i) all = no_var xs i (omega arith)

pub choosing_is : (p : TypedProgram) (again : Bool) (cs : Choices) →
    size_of p (choosing again cs) ≡ (if again then again_own else select_own) + 2 * choice_count cs + arms_size p cs
choosing_is p true cs = omega arith
choosing_is p false cs = omega arith

-- the wires of all channels, and the blocks of all variables
abbrev pub all_wires : List Channel → ℕ
all_wires [] = 0
all_wires (c ∷ cs) = wires_size c.width + all_wires cs

abbrev pub all_blocks : List Var → ℕ
all_blocks [] = 0
all_blocks (v ∷ vs) = block_size v.width + all_blocks vs

pub wires_are : (cs : List Channel) → wires_before cs (length cs) ≡ all_wires cs
wires_are [] = refl
wires_are (c ∷ cs) = ap (λ n. wires_size c.width + n) (wires_are cs)

pub blocks_are : (vs : List Var) → blocks_before vs (length vs) ≡ all_blocks vs
blocks_are [] = refl
blocks_are (v ∷ vs) = ap (λ n. block_size v.width + n) (blocks_are vs)

pub no_more_wires : (cs : List Channel) (i : ℕ) → length cs ≤ i → all_wires (drop i cs) ≡ 0
no_more_wires cs i all = ap all_wires (drop_all i cs all)

pub no_more_blocks : (vs : List Var) (i : ℕ) → length vs ≤ i → all_blocks (drop i vs) ≡ 0
no_more_blocks vs i all = ap all_blocks (drop_all i vs all)
