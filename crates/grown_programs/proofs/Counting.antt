-- How many nodes the circuit of a generated program has at most; and that it has no calls and no selections.
use Rattle.std.proofs.Common.{◌≡◌, ◌∙◌, ℕ, zero, suc, ◌+◌, ◌-◌, ◌*◌, ◌<◌, ◌≤◌, ◌&&◌, ◌||◌, Bool, true, false, cond, List, [], ◌∷◌, ◌++◌, length, refl, sym, ap, ap₂, subst, arith}
use Rattle.chp_base.specs.declared.channel.Channel.{Channel}
use Rattle.chp_syntax.specs.declared.tree.Decl.{Decl}
use Rattle.chp_syntax.specs.declared.tree.DeclKind.{DeclKind}
use Rattle.chp_syntax.specs.declared.tree.DeclKind.TheVariants.{In, Out, Chan, Var}
use Rattle.chp_syntax.specs.Grammar.{parallel_of}
use Rattle.chp_syntax.specs.Reading.{few_arms, few_arms_each}
use Rattle.chp_syntax.specs.Trees.{Statement, Statements, no_members, and_member, ProgramTree}
use Rattle.handshake_expand.specs.Layout.{wires_before, blocks_before, size_of, branches_size, nodes_of, node_count}
use Rattle.width_check.specs.declared.typed.Var as V
use Rattle.width_check.specs.Calls.{has_call, some_has_call}
use Rattle.width_check.specs.Form.{channel_number, channels_of, process_form, processes_form, typed_form, vars_of, with_channel, with_var}
use Rattle.width_check.specs.Places.{declared_width}
use Rattle.width_check.specs.Processes.{TypedProgram, member_count}
use Rattle.width_check.specs.Typing.{channel_width}
use Rattle.grown_programs.proofs.Lookups.{channel_wide, variable_wide}
use Rattle.grown_programs.proofs.Plans.{AreStages, AreWanted, IsBody, IsStage, Wanted, a_complement, a_difference, a_stage, a_sum, all_wanted, an_exclusive_or, channel_at, inner_channels, no_stage, one_more_stage, stage_variables, variable_at, wanted}

-- ---- what is declared

abbrev kind_cost : DeclKind → ℕ
kind_cost Var = 47
kind_cost _ = 17

abbrev cost : List Wanted → ℕ
cost [] = 0
cost (w ∷ ws) = kind_cost w.kind + cost ws

abbrev declared_nodes : List Channel → List V.Var → ℕ
declared_nodes cs vs = wires_before cs (length cs) + blocks_before vs (length vs)

one_cost : (d : Decl) (kind : DeclKind) (cs : List Channel) (vs : List V.Var) → d.width ≡ 8
    → declared_nodes (with_channel d kind cs) (with_var d kind vs) ≡ kind_cost kind + declared_nodes cs vs
one_cost d In cs vs wide = omega (arith, wide)
one_cost d Out cs vs wide = omega (arith, wide)
one_cost d Chan cs vs wide = omega (arith, wide)
one_cost d Var cs vs wide = omega (arith, wide)

all_cost : (ws : List Wanted) (ds : List Decl) → AreWanted ws ds → declared_nodes (channels_of ds) (vars_of ds) ≡ cost ws
all_cost [] [] are = refl
all_cost [] (d ∷ ds) are = absurd are
all_cost (w ∷ ws) [] are = absurd are
all_cost (w ∷ ws) (d ∷ ds) are =
    let here = one_cost d d.kind (channels_of ds) (vars_of ds) are.0.width in
    let behind = all_cost ws ds are.1 in
    here ∙ ap₂ (λ a b. a + b) (ap kind_cost are.0.kind) behind

inner_cost : (from count : ℕ) (more : List Wanted) → cost (inner_channels from count more) ≡ 17 * count + cost more
inner_cost from zero more = omega arith
inner_cost from (suc count) more = let behind = inner_cost (from + 1) count more in omega (arith, behind)

variables_cost : (from count : ℕ) → cost (stage_variables from count) ≡ 47 * count
variables_cost from zero = omega arith
variables_cost from (suc count) = let behind = variables_cost (from + 1) count in omega (arith, behind)

wanted_cost : (n : ℕ) → 1 ≤ n → cost (all_wanted n) ≡ 17 * (n + 1) + 47 * n
wanted_cost n some =
    let inner = inner_cost 1 (n - 1) (wanted Out 99 n ∷ stage_variables 1 n) in
    let behind = variables_cost 1 n in
    omega (arith, inner, behind, some)

-- ---- the body

any_width : (d : Decl) (kind : DeclKind) (cs : List Channel) (c : ℕ) → d.width ≡ 8 → ((k : ℕ) → channel_width cs k ≤ 8)
    → channel_width (with_channel d kind cs) c ≤ 8
any_width d In cs zero wide next = omega (arith, wide)
any_width d In cs (suc c) wide next = next c
any_width d Out cs zero wide next = omega (arith, wide)
any_width d Out cs (suc c) wide next = next c
any_width d Chan cs zero wide next = omega (arith, wide)
any_width d Chan cs (suc c) wide next = next c
any_width d Var cs c wide next = next c

widths : (ws : List Wanted) (ds : List Decl) (c : ℕ) → AreWanted ws ds → channel_width (channels_of ds) c ≤ 8
widths [] [] c are = omega arith
widths [] (d ∷ ds) c are = absurd are
widths (w ∷ ws) [] c are = absurd are
widths (w ∷ ws) (d ∷ ds) c are = any_width d d.kind (channels_of ds) c are.0.width (λ k. widths ws ds k are.1)

module _ (n : ℕ) (some : 1 ≤ n) (few : n ≤ 400) (ds : List Decl) (are : AreWanted (all_wanted n) ds) (p : TypedProgram) (channels : p.channels ≡ channels_of ds)
  where
    narrow : (c : ℕ) → channel_width p.channels c ≤ 8
    narrow c = subst (λ cs. channel_width cs c ≤ 8) (sym channels) (widths (all_wanted n) ds c are)

    stage_size : (i : ℕ) (t : Statement) → 1 ≤ i → i ≤ n → IsStage i t → size_of p (process_form ds t) ≤ 86
    stage_size i t low high (a_stage (a_sum small)) =
        let sent = channel_wide n some few ds are i high in
        let own = variable_wide n some few ds are i low high in
        omega (arith, sent, own, narrow (channel_number ds (channel_at (i - 1))))
    stage_size i t low high (a_stage (a_difference small)) =
        let sent = channel_wide n some few ds are i high in
        let own = variable_wide n some few ds are i low high in
        omega (arith, sent, own, narrow (channel_number ds (channel_at (i - 1))))
    stage_size i t low high (a_stage (an_exclusive_or small)) =
        let sent = channel_wide n some few ds are i high in
        let own = variable_wide n some few ds are i low high in
        omega (arith, sent, own, narrow (channel_number ds (channel_at (i - 1))))
    stage_size i t low high (a_stage a_complement) =
        let sent = channel_wide n some few ds are i high in
        let own = variable_wide n some few ds are i low high in
        omega (arith, sent, own, narrow (channel_number ds (channel_at (i - 1))))

    stages_size : (from count : ℕ) (us : Statements) → 1 ≤ from → from + count ≤ n + 1 → AreStages from count us →
        branches_size p (processes_form ds us) ≤ 89 * count
    stages_size from zero us low high no_stage = omega arith
    stages_size from (suc count) us low high (one_more_stage {t = t} {us = more} is others) =
        let here = stage_size from t low (omega arith) is in
        let behind = stages_size (from + 1) count more (omega arith) (omega arith) others in
        omega (arith, here, behind)

    stages_count : (from count : ℕ) (us : Statements) → AreStages from count us → member_count (processes_form ds us) ≡ count
    stages_count from zero us no_stage = refl
    stages_count from (suc count) us (one_more_stage {t = t} {us = more} is others) =
        let behind = stages_count (from + 1) count more others in
        omega (arith, behind)

    body_size : (body : Statement) → IsBody n body → size_of p (process_form ds body) ≤ 90 * n - 1
    body_size body b = subst (λ t. size_of p (process_form ds t) ≤ 90 * n - 1) (sym b.is) (go b.others (n - 1) (omega arith) b.are_others)
      where
        go : (us : Statements) (count : ℕ) → 1 + count ≡ n → AreStages 2 count us → size_of p (process_form ds (parallel_of b.first us)) ≤ 90 * n - 1
        go no_members count all others = let here = stage_size 1 b.first (omega arith) some b.is_first in omega (arith, here)
        go (and_member u us) count all others =
            let stages : AreStages 1 (suc count) (and_member b.first (and_member u us)) = one_more_stage b.is_first others in
            let size = stages_size 1 (suc count) (and_member b.first (and_member u us)) (omega arith) (omega arith) stages in
            let members = stages_count 1 (suc count) (and_member b.first (and_member u us)) stages in
            omega (arith, size, members)

pub few_nodes : (n : ℕ) (program : ProgramTree) → 1 ≤ n → n ≤ 400 → AreWanted (all_wanted n) program.decls → IsBody n program.body
    → node_count (typed_form program) ≤ 20 + 154 * n
few_nodes n program some few are b =
    let declared = all_cost (all_wanted n) program.decls are in
    let wanted = wanted_cost n some in
    let body = body_size n some few program.decls are (typed_form program) refl program.body b in
    omega (arith, declared, wanted, body)

-- ---- no calls, no selections

stage_free : (i : ℕ) (t : Statement) → IsStage i t → (has_call t ≡ false) × (few_arms t ≡ true)
stage_free i t (a_stage is) = (refl, refl)

stages_free : (from count : ℕ) (us : Statements) → AreStages from count us → (some_has_call us ≡ false) × (few_arms_each us ≡ true)
stages_free from zero us no_stage = (refl, refl)
stages_free from (suc count) us (one_more_stage {t = t} {us = more} is others) =
    let here = stage_free from t is in
    let behind = stages_free (from + 1) count more others in
    (rw (here.0, behind.0) refl, rw (here.1, behind.1) refl)

pub body_free : (n : ℕ) (body : Statement) → IsBody n body → (has_call body ≡ false) × (few_arms body ≡ true)
body_free n body b = subst (λ t. (has_call t ≡ false) × (few_arms t ≡ true)) (sym b.is) (go b.others (n - 1) b.are_others)
  where
    go : (us : Statements) (count : ℕ) → AreStages 2 count us → (has_call (parallel_of b.first us) ≡ false) × (few_arms (parallel_of b.first us) ≡ true)
    go no_members count others = stage_free 1 b.first b.is_first
    go (and_member u us) count others = stages_free 1 (suc count) (and_member b.first (and_member u us)) (one_more_stage b.is_first others)
