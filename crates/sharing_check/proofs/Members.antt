-- Members, arms, parts and links up to a place, and one more.
use Rattle.std.proofs.Common.{◌≡◌, ℕ, ◌+◌, ◌<◌, ◌≤◌, Bool, true, List, [], ◌∷◌, ◌++◌, length, get_or, take, refl, sym, ap, ◌∙◌, subst, append-nil, append_assoc, Option, None}
use Rattle.std.proofs.lemmas.List.{take_more, take_all}
use Rattle.std.specs.Prelude.{Result, Ok, Err, IfOk, IsOkAnd, OnOk}
use Rattle.std.specs.Result.{result_and}
use Rattle.std.specs.declared.alloc.Global.{Global}
use Rattle.std.specs.declared.boxed.Box.{Box}
use Rattle.std.specs.declared.vec.Vec.{Vec}
use Rattle.chp_base.specs.declared.fault.FaultCode.{FaultCode}
use Rattle.chp_syntax.specs.declared.tree.Op.{Op}
use Rattle.width_check.specs.declared.typed.TExpr.{TExpr, Join, Chain, Compare}
use Rattle.width_check.specs.declared.typed.TLink.{TLink}
use Rattle.width_check.specs.declared.typed.TArm.{TArm}
use Rattle.width_check.specs.declared.typed.TStmt.{TStmt, Then, Beside, Select, Repeat}
use Rattle.width_check.specs.Processes.{Process, in_turn, side_by_side, choosing, repeating, and_member, and_choice}
use Rattle.width_check.specs.Sharing.{Occurrence, reads_of, reads_of_parts, reads_of_operations}
use Rattle.width_check.specs.View.{formula_of, process_of}
use Rattle.width_check.proofs.Rows.{parts_of, links_of, joined_parts, chained_links}
use Rattle.width_check.proofs.Statements.{members_of, arms_of, then_is, beside_is, select_is}
use Rattle.sharing_check.specs.declared.clash.Clash.{Clash}
use Rattle.sharing_check.specs.declared.deeds.Deeds.{Deeds}
use Rattle.sharing_check.specs.Leasts.{IsLeast, IsNoLaterPair}
use Rattle.sharing_check.specs.Tells.{Tells, Adds, Crosses, Merges}
use Rattle.sharing_check.proofs.Pairs.{with_member, with_choice}
use Rattle.sharing_check.proofs.Telling.{adds_more, turn_more, branch_more, choice_told, again_told}

-- the first of a list and the one behind them
one_more : {X : Type 0} (xs : List X) (i : ℕ) (x : X) → i < length xs → x ≡ get_or xs i x → take (i + 1) xs ≡ take i xs ++ x ∷ []
one_more xs i x within is = take_more xs i x within ∙ ap (λ y. take i xs ++ y ∷ []) (sym is)

member_last : (ss : List TStmt) (s : TStmt) → members_of (ss ++ s ∷ []) ≡ with_member (members_of ss) (process_of s)
member_last [] s = refl
member_last (t ∷ ss) s = ap (λ more. and_member (process_of t) more) (member_last ss s)

arm_last : (arms : List TArm) (a : TArm) → arms_of (arms ++ a ∷ []) ≡ with_choice (arms_of arms) (formula_of a.guard) (process_of a.body)
arm_last [] a = refl
arm_last (b ∷ arms) a = ap (λ more. and_choice (formula_of b.guard) (process_of b.body) more) (arm_last arms a)

part_last : (es : List TExpr) (e : TExpr) → reads_of_parts (parts_of (es ++ e ∷ [])) ≡ reads_of_parts (parts_of es) ++ reads_of (formula_of e)
part_last [] e = append-nil (reads_of (formula_of e))
part_last (f ∷ es) e = ap (λ (os : List Occurrence). reads_of (formula_of f) ++ os) (part_last es e)
    ∙ sym (append_assoc (reads_of (formula_of f)) (reads_of_parts (parts_of es)) (reads_of (formula_of e)))

link_last : (ls : List TLink) (l : TLink) → reads_of_operations (links_of (ls ++ l ∷ [])) ≡ reads_of_operations (links_of ls) ++ reads_of (formula_of l.right)
link_last [] l = append-nil (reads_of (formula_of l.right))
link_last (k ∷ ls) l = ap (λ (os : List Occurrence). reads_of (formula_of k.right) ++ os) (link_last ls l)
    ∙ sym (append_assoc (reads_of (formula_of k.right)) (reads_of_operations (links_of ls)) (reads_of (formula_of l.right)))

-- ---- what an expression reads

pub part_more : (cause : FaultCode) (es : List TExpr) (i : ℕ) (e : TExpr) (a b d : Deeds) → i < length es → e ≡ get_or es i e
    → Adds cause (reads_of_parts (parts_of (take i es))) a b → Adds cause (reads_of (formula_of e)) b d
    → Adds cause (reads_of_parts (parts_of (take (i + 1) es))) a d
part_more cause es i e a b d within is l k =
    let same = ap (λ (xs : List TExpr). reads_of_parts (parts_of xs)) (one_more es i e within is) ∙ part_last (take i es) e in
    subst (λ (os : List Occurrence). Adds cause os a d) (sym same) (adds_more cause _ _ a b d l k)

pub link_more : (cause : FaultCode) (ls : List TLink) (i : ℕ) (l : TLink) (a b d : Deeds) → i < length ls → l ≡ get_or ls i l
    → Adds cause (reads_of_operations (links_of (take i ls))) a b
    → Adds cause (reads_of (formula_of l.right)) b d → Adds cause (reads_of_operations (links_of (take (i + 1) ls))) a d
link_more cause ls i l a b d within is m k =
    let same = ap (λ (xs : List TLink). reads_of_operations (links_of xs)) (one_more ls i l within is) ∙ link_last (take i ls) l in
    subst (λ (os : List Occurrence). Adds cause os a d) (sym same) (adds_more cause _ _ a b d m k)

pub join_read : (cause : FaultCode) (e : TExpr) (v : Vec TExpr Global) (es : List TExpr) (n : ℕ) (a b : Deeds) → e ≡ Join v → es ≡ v.items
    → length es ≤ n → Adds cause (reads_of_parts (parts_of (take n es))) a b
    → Adds cause (reads_of (formula_of e)) a b
join_read cause e v es n a b is items all adds =
    let same = ap reads_of (joined_parts e v is) ∙ ap (λ (xs : List TExpr). reads_of_parts (parts_of xs)) (sym items ∙ sym (take_all n es all)) in
    subst (λ (os : List Occurrence). Adds cause os a b) (sym same) adds

pub chain_read : (cause : FaultCode) (e : TExpr) (first : Box TExpr Global) (v : Vec TLink Global) (ls : List TLink) (n : ℕ) (a b d : Deeds)
    → e ≡ Chain first v → ls ≡ v.items → length ls ≤ n
    → Adds cause (reads_of (formula_of first.value)) a b → Adds cause (reads_of_operations (links_of (take n ls))) b d →
    Adds cause (reads_of (formula_of e)) a d
chain_read cause e first v ls n a b d is items all l k =
    let same = ap reads_of (chained_links e first v is)
    ∙ ap (λ (xs : List TLink). reads_of (formula_of first.value) ++ reads_of_operations (links_of xs)) (sym items ∙ sym (take_all n ls all)) in
    subst (λ (os : List Occurrence). Adds cause os a d) (sym same) (adds_more cause _ _ a b d l k)

-- the same of what may have failed

pub parts_noted : {T E : Type 0} (cause : FaultCode) (es : List TExpr) (i : ℕ) (e : TExpr) (a b d : Deeds) (so_far one all : Result T E) → i < length es
    → e ≡ get_or es i e → OnOk so_far (Adds cause (reads_of_parts (parts_of (take i es))) a b)
    → OnOk one (Adds cause (reads_of (formula_of e)) b d) → all ≡ result_and so_far one →
    OnOk all (Adds cause (reads_of_parts (parts_of (take (i + 1) es))) a d)
parts_noted cause es i e a b d (Ok x) (Ok y) all within is l k both = rw both (part_more cause es i e a b d within is l k)
parts_noted cause es i e a b d (Ok x) (Err y) all within is l k both = rw both tt
parts_noted cause es i e a b d (Err x) one all within is l k both = rw both tt

pub links_begun : {T E : Type 0} (first : Result T E) (P : Type 0) → P → OnOk first (IsOkAnd first (λ (x : T). P))
links_begun (Ok x) P p = p
links_begun (Err x) P p = tt

pub links_noted : {T E : Type 0} (cause : FaultCode) (ls : List TLink) (i : ℕ) (l : TLink) (a b d : Deeds) (first so_far one all : Result T E) →
    i < length ls → l ≡ get_or ls i l → OnOk so_far (IsOkAnd first (λ (x : T). Adds cause (reads_of_operations (links_of (take i ls))) a b))
    → OnOk one (Adds cause (reads_of (formula_of l.right)) b d) → all ≡ result_and so_far one →
    OnOk all (IsOkAnd first (λ (x : T). Adds cause (reads_of_operations (links_of (take (i + 1) ls))) a d))
links_noted cause ls i l a b d (Ok f) (Ok x) (Ok y) all within is m k both = rw both (link_more cause ls i l a b d within is m k)
links_noted cause ls i l a b d (Err f) (Ok x) (Ok y) all within is m k both = absurd m
links_noted cause ls i l a b d first (Ok x) (Err y) all within is m k both = rw both tt
links_noted cause ls i l a b d first (Err x) one all within is m k both = rw both tt

pub chain_noted : {T E : Type 0} (cause : FaultCode) (e : TExpr) (first : Box TExpr Global) (v : Vec TLink Global) (f : TExpr) (ls : List TLink) (n : ℕ)
    (a b d : Deeds) (one all : Result T E) → e ≡ Chain first v → f ≡ first.value → ls ≡ v.items → length ls ≤ n
    → OnOk one (Adds cause (reads_of (formula_of f)) a b)
    → OnOk all (IsOkAnd one (λ (x : T). Adds cause (reads_of_operations (links_of (take n ls))) b d)) →
    OnOk all (Adds cause (reads_of (formula_of e)) a d)
chain_noted cause e first v f ls n a b d (Ok x) (Ok y) is here items over l k =
    chain_read cause e first v ls n a b d is items over (subst (λ (t : TExpr). Adds cause (reads_of (formula_of t)) a b) here l) k
chain_noted cause e first v f ls n a b d (Err x) (Ok y) is here items over l k = absurd k
chain_noted cause e first v f ls n a b d one (Err y) is here items over l k = tt

pub sides_noted : {T E : Type 0} (cause : FaultCode) (e : TExpr) (op : Op) (left right : Box TExpr Global) (f g : TExpr) (a b d : Deeds)
    (one other all : Result T E) → e ≡ Compare op left right → f ≡ left.value → g ≡ right.value → OnOk one (Adds cause (reads_of (formula_of f)) a b)
    → OnOk other (Adds cause (reads_of (formula_of g)) b d) → all ≡ result_and one other → OnOk all (Adds cause (reads_of (formula_of e)) a d)
sides_noted cause e op left right f g a b d (Ok x) (Ok y) all is here there l k both =
    rw both (subst (λ (t : TExpr). Adds cause (reads_of (formula_of t)) a d) (sym is) (adds_more cause _ _ a b d
    (subst (λ (t : TExpr). Adds cause (reads_of (formula_of t)) a b) here l) (subst (λ (t : TExpr). Adds cause (reads_of (formula_of t)) b d) there k)))
sides_noted cause e op left right f g a b d (Ok x) (Err y) all is here there l k both = rw both tt
sides_noted cause e op left right f g a b d (Err x) other all is here there l k both = rw both tt

-- ---- what the members of a statement do

pub turn_next : (cause : FaultCode) (ss : List TStmt) (i : ℕ) (s : TStmt) (a b d : Deeds) → i < length ss → s ≡ get_or ss i s
    → Tells cause (in_turn (members_of (take i ss))) a → Tells cause (process_of s) b
    → Merges a b None d → Tells cause (in_turn (members_of (take (i + 1) ss))) d
turn_next cause ss i s a b d within is tells own merges =
    let same = ap (λ (xs : List TStmt). in_turn (members_of xs)) (one_more ss i s within is) ∙ ap in_turn (member_last (take i ss) s) in
    subst (λ (p : Process). Tells cause p d) (sym same) (turn_more cause _ _ a b d tells own merges)

pub branch_next : (cause : FaultCode) (ss : List TStmt) (i : ℕ) (s : TStmt) (a b d : Deeds) (across : Option Clash) → i < length ss
    → s ≡ get_or ss i s → Tells cause (side_by_side (members_of (take i ss))) a
    → Tells cause (process_of s) b → IsLeast IsNoLaterPair (Crosses a b) across → Merges a b across d →
    Tells cause (side_by_side (members_of (take (i + 1) ss))) d
branch_next cause ss i s a b d across within is tells own least merges =
    let same = ap (λ (xs : List TStmt). side_by_side (members_of xs)) (one_more ss i s within is) ∙ ap side_by_side (member_last (take i ss) s) in
    subst (λ (p : Process). Tells cause p d) (sym same) (branch_more cause _ _ a b d across tells own least merges)

pub choice_next : (cause : FaultCode) (arms : List TArm) (i : ℕ) (arm : TArm) (a b d e : Deeds) → i < length arms → arm ≡ get_or arms i arm
    → Tells cause (choosing true (arms_of (take i arms))) a
    → Tells cause (process_of arm.body) b → Adds cause (reads_of (formula_of arm.guard)) b d → Merges a d None e →
    Tells cause (choosing true (arms_of (take (i + 1) arms))) e
choice_next cause arms i arm a b d e within is tells own adds merges =
    let same = ap (λ (xs : List TArm). choosing true (arms_of xs)) (one_more arms i arm within is) ∙ ap (choosing true) (arm_last (take i arms) arm) in
    subst (λ (p : Process). Tells cause p e) (sym same) (choice_told cause true _ _ _ a b d e tells own adds merges)

-- the same of what was collected

pub turn_collected : {E : Type 0} (cause : FaultCode) (ss : List TStmt) (i : ℕ) (s : TStmt) (all own new : Result (Box Deeds Global) E) → i < length ss
    → s ≡ get_or ss i s → IfOk all (λ (a : Box Deeds Global). Tells cause (in_turn (members_of (take i ss))) a.value)
    → IfOk own (λ (b : Box Deeds Global). Tells cause (process_of s) b.value)
    → IfOk new (λ (n : Box Deeds Global). IsOkAnd all (λ (a : Box Deeds Global). IsOkAnd own (λ (b : Box Deeds Global).
    Merges a.value b.value None n.value))) →
    IfOk new (λ (n : Box Deeds Global). Tells cause (in_turn (members_of (take (i + 1) ss))) n.value)
turn_collected cause ss i s (Ok a) (Ok b) (Ok n) within is tells own merges = turn_next cause ss i s a.value b.value n.value within is tells own merges
turn_collected cause ss i s (Ok a) (Err e) (Ok n) within is tells own merges = absurd merges
turn_collected cause ss i s (Err e) own (Ok n) within is tells one merges = absurd merges
turn_collected cause ss i s all own (Err e) within is tells one merges = tt

pub branch_collected : {E : Type 0} (cause : FaultCode) (ss : List TStmt) (i : ℕ) (s : TStmt) (all own new : Result (Box Deeds Global) E) → i < length ss
    → s ≡ get_or ss i s → IfOk all (λ (a : Box Deeds Global). Tells cause (side_by_side (members_of (take i ss))) a.value)
    → IfOk own (λ (b : Box Deeds Global). Tells cause (process_of s) b.value)
    → IfOk new (λ (n : Box Deeds Global). IsOkAnd all (λ (a : Box Deeds Global). IsOkAnd own (λ (b : Box Deeds Global).
    (across : Option Clash) × IsLeast IsNoLaterPair (Crosses a.value b.value) across × Merges a.value b.value across n.value))) →
    IfOk new (λ (n : Box Deeds Global). Tells cause (side_by_side (members_of (take (i + 1) ss))) n.value)
branch_collected cause ss i s (Ok a) (Ok b) (Ok n) within is tells own merges =
    branch_next cause ss i s a.value b.value n.value merges.0 within is tells own merges.1 merges.2
branch_collected cause ss i s (Ok a) (Err e) (Ok n) within is tells own merges = absurd merges
branch_collected cause ss i s (Err e) own (Ok n) within is tells one merges = absurd merges
branch_collected cause ss i s all own (Err e) within is tells one merges = tt

pub choice_collected : {E : Type 0} (cause : FaultCode) (arms : List TArm) (i : ℕ) (arm : TArm) (all body own new : Result (Box Deeds Global) E) →
    i < length arms → arm ≡ get_or arms i arm → IfOk all (λ (a : Box Deeds Global). Tells cause (choosing true (arms_of (take i arms))) a.value)
    → IfOk body (λ (b : Box Deeds Global). Tells cause (process_of arm.body) b.value)
    → IfOk own (λ (d : Box Deeds Global). IsOkAnd body (λ (b : Box Deeds Global). Adds cause (reads_of (formula_of arm.guard)) b.value d.value))
    → IfOk new (λ (n : Box Deeds Global). IsOkAnd all (λ (a : Box Deeds Global). IsOkAnd own (λ (d : Box Deeds Global).
    Merges a.value d.value None n.value))) →
    IfOk new (λ (n : Box Deeds Global). Tells cause (choosing true (arms_of (take (i + 1) arms))) n.value)
choice_collected cause arms i arm (Ok a) (Ok b) (Ok d) (Ok n) within is tells own adds merges =
    choice_next cause arms i arm a.value b.value d.value n.value within is tells own adds merges
choice_collected cause arms i arm (Ok a) (Err e) (Ok d) (Ok n) within is tells own adds merges = absurd adds
choice_collected cause arms i arm (Ok a) body (Err e) (Ok n) within is tells own adds merges = absurd merges
choice_collected cause arms i arm (Err e) body own (Ok n) within is tells one adds merges = absurd merges
choice_collected cause arms i arm all body own (Err e) within is tells one adds merges = tt

pub then_told : (cause : FaultCode) (s : TStmt) (v : Vec TStmt Global) (ss : List TStmt) (n : ℕ) (d : Deeds) → s ≡ Then v → ss ≡ v.items
    → length ss ≤ n → Tells cause (in_turn (members_of (take n ss))) d
    → Tells cause (process_of s) d
then_told cause s v ss n d is items all tells =
    let same = then_is s v is ∙ ap (λ (xs : List TStmt). in_turn (members_of xs)) (sym items ∙ sym (take_all n ss all)) in
    subst (λ (p : Process). Tells cause p d) (sym same) tells

pub beside_told : (cause : FaultCode) (s : TStmt) (v : Vec TStmt Global) (ss : List TStmt) (n : ℕ) (d : Deeds) → s ≡ Beside v → ss ≡ v.items → length ss ≤ n
    → Tells cause (side_by_side (members_of (take n ss))) d → Tells cause (process_of s) d
beside_told cause s v ss n d is items all tells =
    let same = beside_is s v is ∙ ap (λ (xs : List TStmt). side_by_side (members_of xs)) (sym items ∙ sym (take_all n ss all)) in
    subst (λ (p : Process). Tells cause p d) (sym same) tells

pub select_told : (cause : FaultCode) (s : TStmt) (again : Bool) (v : Vec TArm Global) (arms : List TArm) (n : ℕ) (d : Deeds) → s ≡ Select again v
    → arms ≡ v.items → length arms ≤ n
    → Tells cause (choosing true (arms_of (take n arms))) d → Tells cause (process_of s) d
select_told cause s again v arms n d is items all tells =
    let same = select_is s again v is ∙ ap (λ (xs : List TArm). choosing again (arms_of xs)) (sym items ∙ sym (take_all n arms all)) in
    subst (λ (p : Process). Tells cause p d) (sym same) (again_told cause true again _ d tells)

pub repeat_is : (s t : TStmt) (b : Box TStmt Global) → s ≡ Repeat b → t ≡ b.value → process_of s ≡ repeating (process_of t)
repeat_is s t b is value = ap process_of is ∙ ap (λ (u : TStmt). repeating (process_of u)) (sym value)
