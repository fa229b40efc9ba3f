-- When a statement is one over some channels and variables, member by member and arm by arm.
use Rattle.std.proofs.Common.{◌≡◌, ◌≢◌, ℕ, suc, ◌+◌, ◌<◌, ◌≤◌, Bool, true, false, List, [], ◌∷◌, length, get_or, drop, refl, sym, ap, ◌∙◌, subst, inl, inr, arith}
use Rattle.std.specs.Bool.{Decides}
use Rattle.std.specs.Prelude.{nat_eq, ◌⊎◌}
use Rattle.std.proofs.lemmas.Bool.{le-leb, leb-true, ltb-true}
use Rattle.std.proofs.lemmas.Bool.Decides.{Decides-eqb}
use lib.Dec.{leb, ltb}
use Rattle.std.proofs.lemmas.List.{drop_more, drop_all}
use Rattle.std.specs.declared.alloc.Global.{Global}
use Rattle.std.specs.declared.vec.Vec.{Vec}
use Rattle.chp_base.specs.declared.channel.Channel.{Channel}
use Rattle.width_check.specs.declared.typed.Var.{Var}
use Rattle.width_check.specs.declared.typed.TArm.{TArm}
use Rattle.width_check.specs.declared.typed.TStmt.{TStmt, Skip, Then, Beside, Select, Row_of-TStmt, end_of-TStmt, more_of-TStmt, Row_of-TArm, end_of-TArm, more_of-TArm, items-the_row-TStmt, items-the_row-TArm, items_hidden-the_row-TStmt-0, items_hidden-the_row-TArm-1}
use Rattle.width_check.specs.declared.typed.TStmt.TheBlock.{hidden-the_row-TStmt-0, hidden-the_row-TArm-1}
use Rattle.chp_base.specs.declared.channel.Kind.TheVariants.{In, Out}
use Rattle.width_check.specs.Processes.{Formula, Process, in_turn, side_by_side, choosing, Processes, no_members, and_member, Choices, no_choices, and_choice, member_count, choice_count}
use Rattle.width_check.specs.Typing.{var_width, IsOfWidth, IsSend, IsReceive, IsProcess, AreProcesses, AreChoices}
use Rattle.width_check.specs.View.{formula_of, process_of, processes_of, choices_of}
use Rattle.width_check.proofs.Widths.{var_found, channel_found, kind_found}
use Rattle.width_check.proofs.Alike.{Alike, one_wrong, first_wrong, second_wrong, fails, not_so}

-- the members of a statement and the arms of a selection, as lists

abbrev pub members_of : List TStmt → Processes
members_of [] = no_members
members_of (s ∷ ss) = and_member (process_of s) (members_of ss)

abbrev pub arms_of : List TArm → Choices
arms_of [] = no_choices
arms_of (a ∷ rest) = and_choice (formula_of a.guard) (process_of a.body) (arms_of rest)

members_row : {m : _} (row : Row_of-TStmt m) → processes_of row ≡ members_of (items-the_row-TStmt m row)
members_row end_of-TStmt = refl
members_row (more_of-TStmt s rest) = ap (and_member (process_of s)) (members_row rest)

arms_row : {m : _} (row : Row_of-TArm m) → choices_of row ≡ arms_of (items-the_row-TArm m row)
arms_row end_of-TArm = refl
arms_row (more_of-TArm guard body rest) = ap (and_choice (formula_of guard) (process_of body)) (arms_row rest)

pub then_is : (s : TStmt) (v : Vec TStmt Global) → s ≡ Then v → process_of s ≡ in_turn (members_of v.items)
then_is s v is = ap process_of is ∙ ap in_turn (members_row (hidden-the_row-TStmt-0 v) ∙ ap members_of (items_hidden-the_row-TStmt-0 v))

pub beside_is : (s : TStmt) (v : Vec TStmt Global) → s ≡ Beside v → process_of s ≡ side_by_side (members_of v.items)
beside_is s v is = ap process_of is ∙ ap side_by_side (members_row (hidden-the_row-TStmt-0 v) ∙ ap members_of (items_hidden-the_row-TStmt-0 v))

pub select_is : (s : TStmt) (again : Bool) (v : Vec TArm Global) → s ≡ Select again v → process_of s ≡ choosing again (arms_of v.items)
select_is s again v is = ap process_of is ∙ ap (choosing again) (arms_row (hidden-the_row-TArm-1 v) ∙ ap arms_of (items_hidden-the_row-TArm-1 v))

members_counted : (ss : List TStmt) → member_count (members_of ss) ≡ length ss
members_counted [] = refl
members_counted (s ∷ ss) = ap suc (members_counted ss)

arms_counted : (arms : List TArm) → choice_count (arms_of arms) ≡ length arms
arms_counted [] = refl
arms_counted (a ∷ rest) = ap suc (arms_counted rest)

-- What is asked of all the members is what is asked of those from a place on, and so for arms.

abbrev pub MembersLeft : List Channel → List Var → List TStmt → ℕ → Type 0
MembersLeft channels vars ss i = Alike (AreProcesses channels vars (members_of ss)) (AreProcesses channels vars (members_of (drop i ss)))

abbrev pub ArmsLeft : List Channel → List Var → List TArm → ℕ → Type 0
ArmsLeft channels vars arms i = Alike (AreChoices channels vars (arms_of arms)) (AreChoices channels vars (arms_of (drop i arms)))

member_here : (channels : List Channel) (vars : List Var) (ss : List TStmt) (i : ℕ) (s : TStmt) → i < length ss → s ≡ get_or ss i s →
    MembersLeft channels vars ss i → Alike (AreProcesses channels vars (members_of ss)) (IsProcess channels vars (process_of s)
    × AreProcesses channels vars (members_of (drop (i + 1) ss)))
member_here channels vars ss i s within is =
    let e : drop i ss ≡ s ∷ drop (i + 1) ss = drop_more ss i s within ∙ ap (λ x. x ∷ drop (i + 1) ss) (sym is) in
    subst (λ (rest : List TStmt). Alike (AreProcesses channels vars (members_of ss)) (AreProcesses channels vars (members_of rest))) e

pub member_wrong : (channels : List Channel) (vars : List Var) (ss : List TStmt) (i : ℕ) (s : TStmt) (r : Bool) → i < length ss → s ≡ get_or ss i s →
    MembersLeft channels vars ss i → Decides r (IsProcess channels vars (process_of s)) → r ≡ false → ¬ AreProcesses channels vars (members_of ss)
member_wrong channels vars ss i s r within is left decides so = one_wrong _ _ _ (member_here channels vars ss i s within is left) (not_so r _ decides so)

pub members_so : (channels : List Channel) (vars : List Var) (ss : List TStmt) (i : ℕ) (s : TStmt) (r : Bool) → i < length ss → s ≡ get_or ss i s →
    MembersLeft channels vars ss i → Decides r (IsProcess channels vars (process_of s)) → r ≡ true → MembersLeft channels vars ss (i + 1)
members_so channels vars ss i s r within is left decides so =
    let here = member_here channels vars ss i s within is left in
    let holds = decides.0 so in
    record { whole = λ rest. here.whole (holds, rest); rest = λ all. (here.rest all).1 }

pub all_members : (channels : List Channel) (vars : List Var) (ss : List TStmt) (i : ℕ) → length ss ≤ i → MembersLeft channels vars ss i →
    AreProcesses channels vars (members_of ss)
all_members channels vars ss i all left =
    let e : drop i ss ≡ [] = drop_all i ss all in
    (subst (λ (rest : List TStmt). Alike (AreProcesses channels vars (members_of ss)) (AreProcesses channels vars (members_of rest))) e left).whole tt

arm_here : (channels : List Channel) (vars : List Var) (arms : List TArm) (i : ℕ) (a : TArm) → i < length arms → a ≡ get_or arms i a →
    ArmsLeft channels vars arms i → Alike (AreChoices channels vars (arms_of arms)) (IsOfWidth vars 1 (formula_of a.guard)
    × IsProcess channels vars (process_of a.body) × AreChoices channels vars (arms_of (drop (i + 1) arms)))
arm_here channels vars arms i a within is =
    let e : drop i arms ≡ a ∷ drop (i + 1) arms = drop_more arms i a within ∙ ap (λ x. x ∷ drop (i + 1) arms) (sym is) in
    subst (λ (rest : List TArm). Alike (AreChoices channels vars (arms_of arms)) (AreChoices channels vars (arms_of rest))) e

pub guard_wrong : (channels : List Channel) (vars : List Var) (arms : List TArm) (i : ℕ) (a : TArm) (g : Bool) → i < length arms → a ≡ get_or arms i a →
    ArmsLeft channels vars arms i → Decides g (IsOfWidth vars 1 (formula_of a.guard)) → g ≡ false → ¬ AreChoices channels vars (arms_of arms)
guard_wrong channels vars arms i a g within is left decides so = first_wrong _ _ _ _ (arm_here channels vars arms i a within is left) (not_so g _ decides so)

pub body_wrong : (channels : List Channel) (vars : List Var) (arms : List TArm) (i : ℕ) (a : TArm) (b : Bool) → i < length arms → a ≡ get_or arms i a →
    ArmsLeft channels vars arms i → Decides b (IsProcess channels vars (process_of a.body)) → b ≡ false → ¬ AreChoices channels vars (arms_of arms)
body_wrong channels vars arms i a b within is left decides so = second_wrong _ _ _ _ (arm_here channels vars arms i a within is left) (not_so b _ decides so)

pub arms_so : (channels : List Channel) (vars : List Var) (arms : List TArm) (i : ℕ) (a : TArm) (g b : Bool) → i < length arms → a ≡ get_or arms i a →
    ArmsLeft channels vars arms i → Decides g (IsOfWidth vars 1 (formula_of a.guard)) → g ≡ true → Decides b (IsProcess channels vars (process_of a.body)) →
    b ≡ true → ArmsLeft channels vars arms (i + 1)
arms_so channels vars arms i a g b within is left guard is_guard body is_body =
    let here = arm_here channels vars arms i a within is left in
    let one = guard.0 is_guard in
    let other = body.0 is_body in
    record { whole = λ rest. here.whole (one, other, rest); rest = λ all. (here.rest all).2 }

pub all_arms : (channels : List Channel) (vars : List Var) (arms : List TArm) (i : ℕ) → length arms ≤ i → ArmsLeft channels vars arms i →
    AreChoices channels vars (arms_of arms)
all_arms channels vars arms i all left =
    let e : drop i arms ≡ [] = drop_all i arms all in
    (subst (λ (rest : List TArm). Alike (AreChoices channels vars (arms_of arms)) (AreChoices channels vars (arms_of rest))) e left).whole tt

-- what the answers say of the statement

same_answer : (r : Bool) (P : Process → Type 0) (p q : Process) → p ≡ q → Decides r (P q) → Decides r (P p)
same_answer r P p q is = subst (λ x. Decides r (P x)) (sym is)

pub told_of : (channels : List Channel) (vars : List Var) (s u : TStmt) (r : Bool) → s ≡ u → Decides r (IsProcess channels vars (process_of u)) →
    Decides r (IsProcess channels vars (process_of s))
told_of channels vars s u r is = subst (λ (x : TStmt). Decides r (IsProcess channels vars (process_of x))) (sym is)

pub skip_told : (channels : List Channel) (vars : List Var) (s : TStmt) → s ≡ Skip → Decides true (IsProcess channels vars (process_of s))
skip_told channels vars s is = told_of channels vars s Skip true is (λ _. tt, λ _. refl)

two : (r : Bool) (n : ℕ) → Decides r (2 ≤ n) → (P : Type 0) → P → Decides r ((2 ≤ n) × P)
two r n decides P all = (λ so. (decides.0 so, all), λ whole. decides.1 whole.0)

then_no : (channels : List Channel) (vars : List Var) (s : TStmt) (v : Vec TStmt Global) (ss : List TStmt) → s ≡ Then v → ss ≡ v.items →
    ¬ AreProcesses channels vars (members_of ss) → Decides false (IsProcess channels vars (process_of s))
then_no channels vars s v ss is items wrong =
    same_answer false (IsProcess channels vars) _ (in_turn (members_of ss)) (then_is s v is ∙ ap (λ xs. in_turn (members_of xs)) (sym items))
    (fails _ (λ whole. wrong whole.1))

beside_no : (channels : List Channel) (vars : List Var) (s : TStmt) (v : Vec TStmt Global) (ss : List TStmt) → s ≡ Beside v → ss ≡ v.items →
    ¬ AreProcesses channels vars (members_of ss) → Decides false (IsProcess channels vars (process_of s))
beside_no channels vars s v ss is items wrong =
    same_answer false (IsProcess channels vars) _ (side_by_side (members_of ss)) (beside_is s v is ∙ ap (λ xs. side_by_side (members_of xs)) (sym items))
    (fails _ (λ whole. wrong whole.1))

pub group_no : (channels : List Channel) (vars : List Var) (s : TStmt) (v : Vec TStmt Global) (ss : List TStmt) → (s ≡ Then v) ⊎ (s ≡ Beside v) →
    ss ≡ v.items → ¬ AreProcesses channels vars (members_of ss) → Decides false (IsProcess channels vars (process_of s))
group_no channels vars s v ss (inl is) = then_no channels vars s v ss is
group_no channels vars s v ss (inr is) = beside_no channels vars s v ss is

pub select_no : (channels : List Channel) (vars : List Var) (s : TStmt) (again : Bool) (v : Vec TArm Global) (arms : List TArm) → s ≡ Select again v →
    arms ≡ v.items → ¬ AreChoices channels vars (arms_of arms) → Decides false (IsProcess channels vars (process_of s))
select_no channels vars s again v arms is items wrong =
    same_answer false (IsProcess channels vars) _ (choosing again (arms_of arms)) (select_is s again v is ∙ ap (λ xs. choosing again (arms_of xs)) (sym items))
    (fails _ (λ whole. wrong whole.2))

then_so : (channels : List Channel) (vars : List Var) (s : TStmt) (v : Vec TStmt Global) (ss : List TStmt) (r : Bool) → s ≡ Then v → ss ≡ v.items →
    AreProcesses channels vars (members_of ss) → Decides r (2 ≤ length ss) → Decides r (IsProcess channels vars (process_of s))
then_so channels vars s v ss r is items all decides =
    same_answer r (IsProcess channels vars) _ (in_turn (members_of ss)) (then_is s v is ∙ ap (λ xs. in_turn (members_of xs)) (sym items))
    (two r _ (subst (λ n. Decides r (2 ≤ n)) (sym (members_counted ss)) decides) _ all)

beside_so : (channels : List Channel) (vars : List Var) (s : TStmt) (v : Vec TStmt Global) (ss : List TStmt) (r : Bool) → s ≡ Beside v → ss ≡ v.items →
    AreProcesses channels vars (members_of ss) → Decides r (2 ≤ length ss) → Decides r (IsProcess channels vars (process_of s))
beside_so channels vars s v ss r is items all decides =
    same_answer r (IsProcess channels vars) _ (side_by_side (members_of ss)) (beside_is s v is ∙ ap (λ xs. side_by_side (members_of xs)) (sym items))
    (two r _ (subst (λ n. Decides r (2 ≤ n)) (sym (members_counted ss)) decides) _ all)

pub group_so : (channels : List Channel) (vars : List Var) (s : TStmt) (v : Vec TStmt Global) (ss : List TStmt) (r : Bool) → (s ≡ Then v) ⊎ (s ≡ Beside v) →
    ss ≡ v.items → AreProcesses channels vars (members_of ss) → Decides r (2 ≤ length ss) → Decides r (IsProcess channels vars (process_of s))
group_so channels vars s v ss r (inl is) = then_so channels vars s v ss r is
group_so channels vars s v ss r (inr is) = beside_so channels vars s v ss r is

pub select_so : (channels : List Channel) (vars : List Var) (s : TStmt) (again : Bool) (v : Vec TArm Global) (arms : List TArm) (r : Bool) →
    s ≡ Select again v → arms ≡ v.items → AreChoices channels vars (arms_of arms) → Decides r ((1 ≤ length arms) × (length arms ≤ 16)) →
    Decides r (IsProcess channels vars (process_of s))
select_so channels vars s again v arms r is items all decides =
    let counted = subst (λ n. Decides r ((1 ≤ n) × (n ≤ 16))) (sym (arms_counted arms)) decides in
    same_answer r (IsProcess channels vars) _ (choosing again (arms_of arms)) (select_is s again v is ∙ ap (λ xs. choosing again (arms_of xs)) (sym items))
    (λ so. let count = counted.0 so in (count.0, count.1, all), λ whole. counted.1 (whole.0, whole.1))

pub at_least : (k r n : ℕ) → r ≡ n → Decides (leb k r) (k ≤ n)
at_least k r n is = (λ so. let below = leb-true k r so in omega arith, λ below. le-leb k r (omega arith))

pub in_range : (r n : ℕ) → r ≡ n → 1 ≤ n → Decides (leb r 16) ((1 ≤ n) × (n ≤ 16))
in_range r n is some =
    (λ so. let below = leb-true r 16 so in (some, omega arith), λ whole. le-leb r 16 (omega (arith, whole.1)))

pub below_range : (r n : ℕ) → r ≡ n → r < 1 → Decides (leb 1 r) ((1 ≤ n) × (n ≤ 16))
below_range r n is none =
    (λ so. let one = leb-true 1 r so in absurd (omega arith), λ whole. le-leb 1 r (omega (arith, whole.0)))

-- what a number names

pub assign_decided : (vars : List Var) (var : ℕ) (v : Var) (e : Formula) (r : Bool) → true ≡ ltb var (length vars) → v ≡ get_or vars var v →
    Decides r (IsOfWidth vars v.width e) → Decides r ((var < length vars) × IsOfWidth vars (var_width vars var) e)
assign_decided vars var v e r there is decides =
    let within = ltb-true var (length vars) (sym there) in
    let same = var_found vars var v within is in
    (λ so. (within, subst (λ n. IsOfWidth vars n e) same (decides.0 so)), λ whole. decides.1 (subst (λ n. IsOfWidth vars n e) (sym same) whole.1))

pub send_decided : (channels : List Channel) (vars : List Var) (c : ℕ) (channel : Channel) (e : Formula) (r : Bool) → true ≡ ltb c (length channels) →
    channel ≡ get_or channels c channel → channel.kind ≢ In → Decides r (IsOfWidth vars channel.width e) → Decides r (IsSend channels vars c e)
send_decided channels vars c channel e r there is sends decides =
    let within = ltb-true c (length channels) (sym there) in
    let same = channel_found channels c channel within is in
    let kind = kind_found channels c channel within is in (
      λ so. record { within = within; direction = subst (λ k. k ≢ In) kind sends; sent = subst (λ n. IsOfWidth vars n e) same (decides.0 so) },
      λ whole. decides.1 (subst (λ n. IsOfWidth vars n e) (sym same) whole.sent),
    )

pub send_refused : (channels : List Channel) (vars : List Var) (c : ℕ) (channel : Channel) (e : Formula) (r : Bool) → true ≡ ltb c (length channels) →
    channel ≡ get_or channels c channel → Decides r (channel.kind ≢ In) → r ≡ false → Decides r (IsSend channels vars c e)
send_refused channels vars c channel e r there is decides so =
    let within = ltb-true c (length channels) (sym there) in
    let kind = kind_found channels c channel within is in
    (λ t. absurd (cc (t, so)), λ whole. absurd (not_so r _ decides so (subst (λ k. k ≢ In) (sym kind) whole.direction)))

pub receive_decided : (channels : List Channel) (vars : List Var) (c var : ℕ) (channel : Channel) (v : Var) → true ≡ ltb c (length channels) →
    channel ≡ get_or channels c channel → true ≡ ltb var (length vars) → v ≡ get_or vars var v → channel.kind ≢ Out →
    Decides (nat_eq v.width channel.width) (IsReceive channels vars c var)
receive_decided channels vars c var channel v there is target declared receives =
    let within = ltb-true c (length channels) (sym there) in
    let owned = ltb-true var (length vars) (sym target) in
    let wide = channel_found channels c channel within is in
    let same = var_found vars var v owned declared in
    let kind = kind_found channels c channel within is in
    let test = Decides-eqb v.width channel.width in (
      λ so. record { within = within; direction = subst (λ k. k ≢ Out) kind receives; target = owned; widths = sym same ∙ (test.0 so ∙ wide) },
      λ whole. test.1 (same ∙ (whole.widths ∙ sym wide)),
    )

pub receive_refused : (channels : List Channel) (vars : List Var) (c var : ℕ) (channel : Channel) (r : Bool) → true ≡ ltb c (length channels) →
    channel ≡ get_or channels c channel → Decides r (channel.kind ≢ Out) → r ≡ false → Decides r (IsReceive channels vars c var)
receive_refused channels vars c var channel r there is decides so =
    let within = ltb-true c (length channels) (sym there) in
    let kind = kind_found channels c channel within is in
    (λ t. absurd (cc (t, so)), λ whole. absurd (not_so r _ decides so (subst (λ k. k ≢ Out) (sym kind) whole.direction)))
