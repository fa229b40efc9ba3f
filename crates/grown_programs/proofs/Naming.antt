-- No name, kind or width of a generated program is at fault.
use Rattle.std.proofs.Common.{◌≡◌, ◌∙◌, ◌≢◌, ℕ, zero, suc, ◌+◌, ◌-◌, ◌*◌, ◌^◌, ◌<◌, ◌≤◌, ◌==◌, ◌⊎◌, inl, inr, Bool, true, false, List, [], ◌∷◌, ◌++◌, length, Option, Some, None, refl, sym, ap, subst, arith}
use Rattle.std.specs.Prelude.{Contains, slice_get}
use Rattle.std.specs.List.{flat_map}
use Rattle.std.specs.Str.{bytes_eq}
use Rattle.std.proofs.lemmas.Slice.Eq.{bytes_eq-Decides}
use Rattle.chp_base.specs.declared.span.Span.{Span}
use Rattle.chp_syntax.specs.declared.tree.Decl.{Decl}
use Rattle.chp_syntax.specs.declared.tree.DeclKind.{DeclKind}
use Rattle.chp_syntax.specs.declared.tree.DeclKind.TheVariants.{In, Out, Chan, Var}
use Rattle.chp_syntax.specs.Grammar.{parallel_of}
use Rattle.chp_syntax.specs.Trees as tree
use Rattle.chp_syntax.specs.Trees.{Expression, Statement, Statements, no_members, and_member, ProgramTree}
use Rattle.width_check.specs.Faults.{naming_faults, HasNone, IsDouble, IsOutOfRange, IsUndeclared, IsOfWrongKind, IsMisdirected, IsBadPart, IsBadSlice, LacksWidth, IsOfUnknownWidth, IsMisfit, IsMisfitLeaf, IsMisfitReceive, IsWideNumber, IsWideFirst, all_expressions, all_leaves, wants_var}
use Rattle.width_check.specs.Places.{declaration, declared_width, is_var, Role, sent_on, received_on, stored, read, Use, uses_in, uses_in_each, Expected, expect, leaves, expressions_in, expressions_in_each, inside, Reception, receptions_in, receptions_in_each}
use Rattle.grown_programs.proofs.Decimals.{numbered, one_number}
use Rattle.grown_programs.proofs.Lookups.{Each, each_append, each_contains, each_flat_map, each_found, each_get, found_passes, IsOurDecl, IsOurs, all_ours, channel_declared, channel_wide, ours, variable_declared, variable_wide}
use Rattle.grown_programs.proofs.Plans.{AreStages, AreWanted, IsBody, IsSent, IsStage, IsWanted, Wanted, a_complement, a_difference, a_stage, a_sum, all_wanted, an_exclusive_or, channel_at, inner_channels, name_wanted, no_stage, one_more_stage, stage_variables, variable_at, wanted}

-- ---- names are declared once

-- the place of a name in the order of the declarations
abbrev rank : Wanted → ℕ
rank w = w.letter * 1000 + w.number

abbrev Rising : ℕ → List Wanted → Type 0
Rising low [] = Unit {0}
Rising low (w ∷ ws) = (low ≤ rank w) × Rising (rank w + 1) ws

rising_from : (low least : ℕ) (ws : List Wanted) → low ≤ least → Rising least ws → Rising low ws
rising_from low least [] less rises = tt
rising_from low least (w ∷ ws) less rises = (omega (arith, rises.0), rises.1)

rising_inner : (from count : ℕ) (more : List Wanted) (low : ℕ) → low ≤ 99000 + from → Rising (99000 + (from + count)) more →
    Rising low (inner_channels from count more)
rising_inner from zero more low less rises = rising_from low (99000 + (from + 0)) more (omega arith) rises
rising_inner from (suc count) more low less rises =
    let count_on : from + suc count ≡ from + 1 + count = omega arith in
    (omega arith, rising_inner (from + 1) count more (99 * 1000 + from + 1) (omega arith) (subst (λ n. Rising (99000 + n) more) count_on rises))

rising_variables : (from count low : ℕ) → low ≤ 118000 + from → Rising low (stage_variables from count)
rising_variables from zero low less = tt
rising_variables from (suc count) low less = (omega arith, rising_variables (from + 1) count (118 * 1000 + from + 1) (omega arith))

all_rising : (n : ℕ) → 1 ≤ n → n ≤ 400 → Rising 0 (all_wanted n)
all_rising n some few = (
  omega arith,
  rising_inner 1 (n - 1) (wanted Out 99 n ∷ stage_variables 1 n) (99 * 1000 + 0 + 1) (omega arith) (
    omega arith,
    rising_variables 1 n (99 * 1000 + n + 1) (omega arith),
  ),
)

rising_get : (low : ℕ) (ws : List Wanted) (k : ℕ) (w : Wanted) → Rising low ws → slice_get ws k ≡ Some w → low ≤ rank w
rising_get low [] k w rises is = absurd (cc (is))
rising_get low (v ∷ ws) zero w rises is = let same : v ≡ w = cc (is) in subst (λ x. low ≤ rank x) same rises.0
rising_get low (v ∷ ws) (suc k) w rises is = let least = rising_get (rank v + 1) ws k w rises.1 is in omega (arith, rises.0, least)

rising_order : (low : ℕ) (ws : List Wanted) (i j : ℕ) (v w : Wanted) → Rising low ws → i < j → slice_get ws i ≡ Some v → slice_get ws j ≡ Some w →
    rank v < rank w
rising_order low [] i j v w rises less is also = absurd (cc (is))
rising_order low (x ∷ ws) i zero v w rises less is also = absurd (omega arith)
rising_order low (x ∷ ws) zero (suc j) v w rises less is also =
    let same : x ≡ v = cc (is) in
    let least = rising_get (rank x + 1) ws j w rises.1 also in
    subst (λ y. rank y < rank w) same (omega (arith, least))
rising_order low (x ∷ ws) (suc i) (suc j) v w rises less is also = rising_order (rank x + 1) ws i j v w rises.1 (omega arith) is also

wanted_at : (ws : List Wanted) (ds : List Decl) (k : ℕ) (d : Decl) → AreWanted ws ds → slice_get ds k ≡ Some d →
    (w : Wanted) × (slice_get ws k ≡ Some w) × IsWanted w d
wanted_at [] [] k d are is = absurd (cc (is))
wanted_at [] (x ∷ ds) k d are is = absurd are
wanted_at (w ∷ ws) [] k d are is = absurd are
wanted_at (w ∷ ws) (x ∷ ds) zero d are is = let same : x ≡ d = cc (is) in (w, refl, subst (IsWanted w) same are.0)
wanted_at (w ∷ ws) (x ∷ ds) (suc k) d are is = wanted_at ws ds k d are.1 is

-- ---- what the body is made of

-- names and their uses
data IsOurUse (n : ℕ) : Use → Type 0 where
  our_send : {j : ℕ} {s : Span} → 1 ≤ j → j ≤ n → IsOurUse n (record { name = channel_at j; at = s; role = sent_on })
  our_receive : {j : ℕ} {s : Span} → j < n → IsOurUse n (record { name = channel_at j; at = s; role = received_on })
  our_target : {j : ℕ} {s : Span} → 1 ≤ j → j ≤ n → IsOurUse n (record { name = variable_at j; at = s; role = stored })
  our_read : {j : ℕ} {s : Span} → 1 ≤ j → j ≤ n → IsOurUse n (record { name = variable_at j; at = s; role = read })

stage_uses : (n i : ℕ) (t : Statement) → 1 ≤ i → i ≤ n → IsStage i t → Each (IsOurUse n) (uses_in t)
stage_uses n i t low high (a_stage (a_sum small)) = (our_receive (omega arith), (our_target low high, (our_send low high, (our_read low high, tt))))
stage_uses n i t low high (a_stage (a_difference small)) = (our_receive (omega arith), (our_target low high, (our_send low high, (our_read low high, tt))))
stage_uses n i t low high (a_stage (an_exclusive_or small)) = (our_receive (omega arith), (our_target low high, (our_send low high, (our_read low high, tt))))
stage_uses n i t low high (a_stage a_complement) = (our_receive (omega arith), (our_target low high, (our_send low high, (our_read low high, tt))))

stages_uses : (n from count : ℕ) (us : Statements) → 1 ≤ from → from + count ≤ n + 1 → AreStages from count us → Each (IsOurUse n) (uses_in_each us)
stages_uses n from zero us low high no_stage = tt
stages_uses n from (suc count) us low high (one_more_stage {t = t} {us = more} is others) =
    each_append (IsOurUse n) (uses_in t) (uses_in_each more) (stage_uses n from t low (omega arith) is)
    (stages_uses n (from + 1) count more (omega arith) (omega arith) others)

body_uses : (n : ℕ) (body : Statement) → 1 ≤ n → IsBody n body → Each (IsOurUse n) (uses_in body)
body_uses n body some b = subst (λ t. Each (IsOurUse n) (uses_in t)) (sym b.is) (go b.others b.are_others)
  where
    go : (us : Statements) → AreStages 2 (n - 1) us → Each (IsOurUse n) (uses_in (parallel_of b.first us))
    go no_members others = stage_uses n 1 b.first (omega arith) some b.is_first
    go (and_member u us) others =
        each_append (IsOurUse n) (uses_in b.first) (uses_in_each (and_member u us)) (stage_uses n 1 b.first (omega arith) some b.is_first)
        (stages_uses n 2 (n - 1) (and_member u us) (omega arith) (omega arith) others)

-- expressions
data IsOurSent (n : ℕ) (ds : List Decl) : Expected → Type 0 where
  our_sent : {i : ℕ} {e : Expression} → 1 ≤ i → i ≤ n → IsSent i e → IsOurSent n ds (expect e (declared_width ds (channel_at i)))

stage_sent : (n : ℕ) (ds : List Decl) (i : ℕ) (t : Statement) → 1 ≤ i → i ≤ n → IsStage i t → Each (IsOurSent n ds) (expressions_in ds t)
stage_sent n ds i t low high (a_stage is) = (our_sent low high is, tt)

stages_sent : (n : ℕ) (ds : List Decl) (from count : ℕ) (us : Statements) → 1 ≤ from → from + count ≤ n + 1 → AreStages from count us →
    Each (IsOurSent n ds) (expressions_in_each ds us)
stages_sent n ds from zero us low high no_stage = tt
stages_sent n ds from (suc count) us low high (one_more_stage {t = t} {us = more} is others) =
    each_append (IsOurSent n ds) (expressions_in ds t) (expressions_in_each ds more) (stage_sent n ds from t low (omega arith) is)
    (stages_sent n ds (from + 1) count more (omega arith) (omega arith) others)

body_sent : (n : ℕ) (ds : List Decl) (body : Statement) → 1 ≤ n → IsBody n body → Each (IsOurSent n ds) (expressions_in ds body)
body_sent n ds body some b = subst (λ t. Each (IsOurSent n ds) (expressions_in ds t)) (sym b.is) (go b.others b.are_others)
  where
    go : (us : Statements) → AreStages 2 (n - 1) us → Each (IsOurSent n ds) (expressions_in ds (parallel_of b.first us))
    go no_members others = stage_sent n ds 1 b.first (omega arith) some b.is_first
    go (and_member u us) others =
        each_append (IsOurSent n ds) (expressions_in ds b.first) (expressions_in_each ds (and_member u us))
        (stage_sent n ds 1 b.first (omega arith) some b.is_first)
        (stages_sent n ds 2 (n - 1) (and_member u us) (omega arith) (omega arith) others)

-- receives
data IsOurReception (n : ℕ) : Reception → Type 0 where
  our_reception : {i : ℕ} {s t : Span} → 1 ≤ i → i ≤ n → IsOurReception n (record {
    chan = record { name = channel_at (i - 1); at = s };
    target = record { name = variable_at i; at = t };
  })

stage_receptions : (n i : ℕ) (t : Statement) → 1 ≤ i → i ≤ n → IsStage i t → Each (IsOurReception n) (receptions_in t)
stage_receptions n i t low high (a_stage is) = (our_reception low high, tt)

stages_receptions : (n from count : ℕ) (us : Statements) → 1 ≤ from → from + count ≤ n + 1 → AreStages from count us →
    Each (IsOurReception n) (receptions_in_each us)
stages_receptions n from zero us low high no_stage = tt
stages_receptions n from (suc count) us low high (one_more_stage {t = t} {us = more} is others) =
    each_append (IsOurReception n) (receptions_in t) (receptions_in_each more) (stage_receptions n from t low (omega arith) is)
    (stages_receptions n (from + 1) count more (omega arith) (omega arith) others)

body_receptions : (n : ℕ) (body : Statement) → 1 ≤ n → IsBody n body → Each (IsOurReception n) (receptions_in body)
body_receptions n body some b = subst (λ t. Each (IsOurReception n) (receptions_in t)) (sym b.is) (go b.others b.are_others)
  where
    go : (us : Statements) → AreStages 2 (n - 1) us → Each (IsOurReception n) (receptions_in (parallel_of b.first us))
    go no_members others = stage_receptions n 1 b.first (omega arith) some b.is_first
    go (and_member u us) others =
        each_append (IsOurReception n) (receptions_in b.first) (receptions_in_each (and_member u us))
        (stage_receptions n 1 b.first (omega arith) some b.is_first)
        (stages_receptions n 2 (n - 1) (and_member u us) (omega arith) (omega arith) others)

-- ---- no part of an expression is at fault

record IsSound (ds : List Decl) (e : Expression) : Type 0 where
  pub part : IsBadPart ds e → ⊥
  pub width : (s : Span) → LacksWidth ds e s → ⊥

sent_sound : (n : ℕ) (ds : List Decl) (x : Expected) → IsOurSent n ds x → Each (IsSound ds) (inside x.expression)
sent_sound n ds x (our_sent low high (a_sum small)) = (
  record { part = λ bad. bad; width = λ s lacks. cc (lacks.0) },
  (record { part = λ bad. bad; width = λ s lacks. lacks }, (record { part = λ bad. bad; width = λ s lacks. lacks }, tt)),
)
sent_sound n ds x (our_sent low high (a_difference small)) = (
  record { part = λ bad. bad; width = λ s lacks. cc (lacks.0) },
  (record { part = λ bad. bad; width = λ s lacks. lacks }, (record { part = λ bad. bad; width = λ s lacks. lacks }, tt)),
)
sent_sound n ds x (our_sent low high (an_exclusive_or small)) = (
  record { part = λ bad. bad; width = λ s lacks. cc (lacks.0) },
  (record { part = λ bad. bad; width = λ s lacks. lacks }, (record { part = λ bad. bad; width = λ s lacks. lacks }, tt)),
)
sent_sound n ds x (our_sent low high a_complement) = (
  record { part = λ bad. bad; width = λ s lacks. lacks },
  (record { part = λ bad. bad; width = λ s lacks. lacks }, tt),
)

record IsFitting (ds : List Decl) (x : Expected) : Type 0 where
  pub own : IsMisfit ds x → ⊥
  pub value : (s : Span) (v : ℕ) → x.expression ≡ tree.number v s → 2 ^ x.width ≤ v → ⊥

name_fits : (ds : List Decl) (i w : ℕ) (s : Span) → declared_width ds (variable_at i) ≡ 8 → w ≡ 8 →
    IsFitting ds (expect (tree.whole (record { name = variable_at i; at = s })) w)
name_fits ds i w s own wide = record { own = fits; value = λ t v is large. absurd (cc (is)) }
  where
    fits : IsMisfit ds (expect (tree.whole (record { name = variable_at i; at = s })) w) → ⊥
    fits (inl bad) =
        let same : declared_width ds (variable_at i) ≡ bad.0 = cc (bad.1) in
        bad.2 (omega (arith, same, own, wide))
    fits (inr bad) = bad

number_fits : (ds : List Decl) (k w : ℕ) (s : Span) → k < 256 → w ≡ 8 → IsFitting ds (expect (tree.number k s) w)
number_fits ds k w s small wide = record { own = fits; value = large }
  where
    fits : IsMisfit ds (expect (tree.number k s) w) → ⊥
    fits (inl bad) = absurd (cc (bad.1))
    fits (inr bad) = bad

    large : (t : Span) (v : ℕ) → tree.number k s ≡ tree.number v t → 2 ^ w ≤ v → ⊥
    large t v is much =
        let same : k ≡ v = cc (is) in
        let power : 2 ^ 8 ≤ v = subst (λ x. 2 ^ x ≤ v) wide much in
        absurd (omega (arith, same, power, small))

module _ (n : ℕ) (some : 1 ≤ n) (few : n ≤ 400) (ds : List Decl) (are : AreWanted (all_wanted n) ds) where
  sent_fits : (x : Expected) → IsOurSent n ds x → Each (IsFitting ds) (leaves ds x.width x.expression)
  sent_fits x (our_sent {i} low high (a_sum {k} small)) =
      let wide = channel_wide n some few ds are i high in
      (name_fits ds i _ _ (variable_wide n some few ds are i low high) wide, (number_fits ds k _ _ small wide, tt))
  sent_fits x (our_sent {i} low high (a_difference {k} small)) =
      let wide = channel_wide n some few ds are i high in
      (name_fits ds i _ _ (variable_wide n some few ds are i low high) wide, (number_fits ds k _ _ small wide, tt))
  sent_fits x (our_sent {i} low high (an_exclusive_or {k} small)) =
      let wide = channel_wide n some few ds are i high in
      (name_fits ds i _ _ (variable_wide n some few ds are i low high) wide, (number_fits ds k _ _ small wide, tt))
  sent_fits x (our_sent {i} low high a_complement) =
      (name_fits ds i _ _ (variable_wide n some few ds are i low high) (channel_wide n some few ds are i high), tt)

  -- ---- names are declared, and used as what they are

  use_declared : (u : Use) → IsOurUse n u → declaration ds u.name ≡ None → ⊥
  use_declared u (our_send {j} low high) none = let d = channel_declared n some few ds are j high in cc (d.1, none)
  use_declared u (our_receive {j} less) none = let d = channel_declared n some few ds are j (omega arith) in cc (d.1, none)
  use_declared u (our_target {j} low high) none = let d = variable_declared n some few ds are j low high in cc (d.1, none)
  use_declared u (our_read {j} low high) none = let d = variable_declared n some few ds are j low high in cc (d.1, none)

  -- the declaration of a name
  record IsFor (name : List ℕ) (d : Decl) : Type 0 where
    pub own : Wanted
    pub ours : IsOurs n own
    pub kind : d.kind ≡ own.kind
    pub same : name_wanted own ≡ name

  declared_for : (name : List ℕ) (d : Decl) → declaration ds name ≡ Some d → IsFor name d
  declared_for name d is =
      let own = each_found (IsOurDecl n) (λ (x : Decl). bytes_eq x.name.name name) ds d (ours n some few ds are) is in
      let passes = found_passes (λ (x : Decl). bytes_eq x.name.name name) ds d is in
      record { own = own.own; ours = own.ours; kind = own.is.kind; same = sym own.is.name ∙ (bytes_eq-Decides d.name.name name).0 passes }

  letter_kind : (letter j : ℕ) (d : Decl) → IsFor (numbered letter j) d → is_var d.kind ≡ (letter == 118)
  letter_kind letter j d for =
      let same : for.own.letter ≡ letter = cc (for.same) in
      ap is_var for.kind ∙ (for.ours.letter ∙ ap (λ l. l == 118) same)

  use_kind : (u : Use) (d : Decl) → IsOurUse n u → declaration ds u.name ≡ Some d → is_var d.kind ≡ wants_var u.role
  use_kind u d (our_send {j} low high) is = letter_kind 99 j d (declared_for (channel_at j) d is)
  use_kind u d (our_receive {j} less) is = letter_kind 99 j d (declared_for (channel_at j) d is)
  use_kind u d (our_target {j} low high) is = letter_kind 118 j d (declared_for (variable_at j) d is)
  use_kind u d (our_read {j} low high) is = letter_kind 118 j d (declared_for (variable_at j) d is)

  same_number : (letter j : ℕ) (d : Decl) → j ≤ 400 → (for : IsFor (numbered letter j) d) → for.own.number ≡ j
  same_number letter j d within for =
      let same : for.own.letter ≡ letter = cc (for.same) in
      one_number letter for.own.number j for.ours.few within (subst (λ l. numbered l for.own.number ≡ numbered letter j) same for.same)

  use_direction : (u : Use) (d : Decl) → IsOurUse n u → declaration ds u.name ≡ Some d
      → ((u.role ≡ sent_on) × (d.kind ≡ In)) ⊎ ((u.role ≡ received_on) × (d.kind ≡ Out)) → ⊥
  use_direction u d (our_send {j} low high) is (inl bad) =
      let for = declared_for (channel_at j) d is in
      let at : for.own.number ≡ j = same_number 99 j d (omega arith) for in
      let leads : for.own.number ≡ 0 = for.ours.leads_in (sym for.kind ∙ bad.1) in
      absurd (omega (arith, at, leads, low))
  use_direction u d (our_send {j} low high) is (inr bad) = absurd (cc (bad.0))
  use_direction u d (our_receive {j} less) is (inl bad) = absurd (cc (bad.0))
  use_direction u d (our_receive {j} less) is (inr bad) =
      let for = declared_for (channel_at j) d is in
      let at : for.own.number ≡ j = same_number 99 j d (omega arith) for in
      let leads : for.own.number ≡ n = for.ours.leads_out (sym for.kind ∙ bad.1) in
      absurd (omega (arith, at, leads, less))
  use_direction u d (our_target low high) is (inl bad) = absurd (cc (bad.0))
  use_direction u d (our_target low high) is (inr bad) = absurd (cc (bad.0))
  use_direction u d (our_read low high) is (inl bad) = absurd (cc (bad.0))
  use_direction u d (our_read low high) is (inr bad) = absurd (cc (bad.0))

  reception_fits : (r : Reception) → IsOurReception n r → declared_width ds r.target.name ≢ declared_width ds r.chan.name → ⊥
  reception_fits r (our_reception {i} low high) misfit =
      misfit (variable_wide n some few ds are i low high ∙ sym (channel_wide n some few ds are (i - 1) (omega arith)))

  -- ---- no cause holds

  module _ (p : ProgramTree) (decls : p.decls ≡ ds) (b : IsBody n p.body) where
    no_double : (s : Span) → IsDouble p s → ⊥
    no_double s bad =
        let first = wanted_at (all_wanted n) ds bad.earlier bad.first are (subst (λ xs. slice_get xs bad.earlier ≡ Some bad.first) decls bad.first_is) in
        let second = wanted_at (all_wanted n) ds bad.later bad.second are (subst (λ xs. slice_get xs bad.later ≡ Some bad.second) decls bad.second_is) in
        let v = each_get (IsOurs n) (all_wanted n) bad.earlier first.0 (all_ours n some few) first.1 in
        let w = each_get (IsOurs n) (all_wanted n) bad.later second.0 (all_ours n some few) second.1 in
        let same : name_wanted first.0 ≡ name_wanted second.0 = sym first.2.name ∙ (bad.same ∙ second.2.name) in
        let letter : first.0.letter ≡ second.0.letter = cc (same) in
        let number : first.0.number ≡ second.0.number =
        one_number second.0.letter first.0.number second.0.number v.few w.few (subst (λ l. numbered l first.0.number ≡ name_wanted second.0) letter same) in
        let order = rising_order 0 (all_wanted n) bad.earlier bad.later first.0 second.0 (all_rising n some few) bad.order first.1 second.1 in
        absurd (omega (arith, letter, number, order))

    our_decl : (d : Decl) → Contains p.decls d → IsOurDecl n d
    our_decl d among = each_contains (IsOurDecl n) ds d (ours n some few ds are) (subst (λ xs. Contains xs d) decls among)

    no_range : (s : Span) → IsOutOfRange p s → ⊥
    no_range s bad = let width = (our_decl bad.decl bad.among).is.width in go width bad.range
      where
        go : bad.decl.width ≡ 8 → (bad.decl.width < 1) ⊎ (64 < bad.decl.width) → ⊥
        go width (inl less) = absurd (omega arith)
        go width (inr more) = absurd (omega arith)

    our_use : (u : Use) → Contains (uses_in p.body) u → IsOurUse n u
    our_use u among = each_contains (IsOurUse n) (uses_in p.body) u (body_uses n p.body some b) among

    no_undeclared : (s : Span) → IsUndeclared p s → ⊥
    no_undeclared s bad = use_declared bad.usage (our_use bad.usage bad.among) (subst (λ xs. declaration xs bad.usage.name ≡ None) decls bad.missing)

    no_wrong_kind : (s : Span) → IsOfWrongKind p s → ⊥
    no_wrong_kind s bad = bad.wrong (use_kind bad.usage bad.decl (our_use bad.usage bad.among)
        (subst (λ xs. declaration xs bad.usage.name ≡ Some bad.decl) decls bad.declared))

    no_misdirected : (s : Span) → IsMisdirected p s → ⊥
    no_misdirected s bad = use_direction bad.usage bad.decl (our_use bad.usage bad.among)
        (subst (λ xs. declaration xs bad.usage.name ≡ Some bad.decl) decls bad.declared) bad.wrong

    our_sents : Each (IsOurSent n ds) (expressions_in p.decls p.body)
    our_sents = subst (λ xs. Each (IsOurSent n ds) (expressions_in xs p.body)) (sym decls) (body_sent n ds p.body some b)

    all_sound : Each (IsSound ds) (all_expressions p)
    all_sound = each_flat_map (IsOurSent n ds) (IsSound ds) (λ (e : Expected). inside e.expression) (expressions_in p.decls p.body) our_sents (sent_sound n ds)

    sound : (e : Expression) → Contains (all_expressions p) e → IsSound ds e
    sound e among = each_contains (IsSound ds) (all_expressions p) e all_sound among

    no_bad_slice : (s : Span) → IsBadSlice p s → ⊥
    no_bad_slice s bad = (sound bad.expression bad.among).part (subst (λ xs. IsBadPart xs bad.expression) decls bad.bad)

    no_unknown : (s : Span) → IsOfUnknownWidth p s → ⊥
    no_unknown s bad = (sound bad.expression bad.among).width s (subst (λ xs. LacksWidth xs bad.expression s) decls bad.lacks)

    all_fitting : Each (IsFitting ds) (all_leaves p)
    all_fitting = subst (λ xs. Each (IsFitting ds) (flat_map (λ (e : Expected). leaves xs e.width e.expression) (expressions_in xs p.body))) (sym decls)
        (each_flat_map (IsOurSent n ds) (IsFitting ds) (λ (e : Expected). leaves ds e.width e.expression) (expressions_in ds p.body)
        (body_sent n ds p.body some b)
        sent_fits)

    fitting : (x : Expected) → Contains (all_leaves p) x → IsFitting ds x
    fitting x among = each_contains (IsFitting ds) (all_leaves p) x all_fitting among

    no_misfit : (s : Span) → IsMisfitLeaf p s ⊎ IsMisfitReceive p s → ⊥
    no_misfit s (inl bad) = (fitting bad.leaf bad.among).own (subst (λ xs. IsMisfit xs bad.leaf) decls bad.misfit)
    no_misfit s (inr bad) =
        reception_fits bad.receive
        (each_contains (IsOurReception n) (receptions_in p.body) bad.receive (body_receptions n p.body some b) bad.among)
        (subst (λ xs. declared_width xs bad.receive.target.name ≢ declared_width xs bad.receive.chan.name) decls bad.misfit)

    no_wide : (s : Span) → IsWideNumber p s ⊎ IsWideFirst p s → ⊥
    no_wide s (inl bad) = (fitting (expect (tree.number bad.value s) bad.width) bad.among).value s bad.value refl bad.wide
    no_wide s (inr bad) =
        let d = our_decl bad.decl bad.among in
        let wide : 2 ^ 8 ≤ bad.decl.first = subst (λ w. 2 ^ w ≤ bad.decl.first) d.is.width bad.wide in
        absurd (omega (arith, wide, d.is.first))

    pub no_naming_fault : HasNone p naming_faults
    no_naming_fault = (no_double, (no_range, (no_undeclared, (no_wrong_kind, (no_misdirected, (no_bad_slice, (no_unknown, (no_misfit, (no_wide, tt)))))))))
