-- Two stages of a generated program share nothing but the channel between them.
use Rattle.std.proofs.Common.{◌≡◌, ◌∙◌, ◌≢◌, ℕ, zero, suc, ◌+◌, ◌-◌, ◌<◌, ◌≤◌, ◌⊎◌, inl, inr, List, [], ◌∷◌, ◌++◌, refl, sym, ap, subst, arith}
use Rattle.std.specs.Prelude.{Contains}
use Rattle.chp_base.specs.declared.fault.FaultCode.TheVariants as code
use Rattle.chp_syntax.specs.declared.tree.Decl.{Decl}
use Rattle.chp_syntax.specs.Grammar.{parallel_of}
use Rattle.chp_syntax.specs.Trees.{Statement, Statements, no_members, and_member}
use Rattle.width_check.specs.Form.{channel_number, process_form, processes_form, var_number}
use Rattle.width_check.specs.Sharing.{Deed, reads_var, writes_var, sends_on, receives_on, Occurrence, occurrences, occurrences_of_each, IsAcross, Parallel, ParallelInside, ParallelAcross, Clashes, IsUnshared, MeetsSharing}
use Rattle.grown_programs.proofs.Lookups.{Each, each_append, each_contains, one_channel, one_variable}
use Rattle.grown_programs.proofs.Plans.{AreStages, AreWanted, IsBody, IsStage, a_complement, a_difference, a_stage, a_sum, all_wanted, an_exclusive_or, channel_at, no_stage, one_more_stage, variable_at}

-- what a stage does
pub data IsOwn (ds : List Decl) (i : ℕ) : Deed → Type 0 where
  own_receive : IsOwn ds i (receives_on (channel_number ds (channel_at (i - 1))))
  own_write : IsOwn ds i (writes_var (var_number ds (variable_at i)))
  own_send : IsOwn ds i (sends_on (channel_number ds (channel_at i)))
  own_read : IsOwn ds i (reads_var (var_number ds (variable_at i)))

stage_own : (ds : List Decl) (i : ℕ) (t : Statement) → IsStage i t → Each (λ (o : Occurrence). IsOwn ds i o.deed) (occurrences (process_form ds t))
stage_own ds i t (a_stage (a_sum small)) = (own_receive, (own_write, (own_send, (own_read, tt))))
stage_own ds i t (a_stage (a_difference small)) = (own_receive, (own_write, (own_send, (own_read, tt))))
stage_own ds i t (a_stage (an_exclusive_or small)) = (own_receive, (own_write, (own_send, (own_read, tt))))
stage_own ds i t (a_stage a_complement) = (own_receive, (own_write, (own_send, (own_read, tt))))

-- a deed of a stage from one on
pub record IsOwnFrom (n : ℕ) (ds : List Decl) (from : ℕ) (deed : Deed) : Type 0 where
  pub stage : ℕ
  pub low : from ≤ stage
  pub high : stage ≤ n
  pub own : IsOwn ds stage deed

-- deeds of two stages
pub record AreForeign (n : ℕ) (ds : List Decl) (a b : Deed) : Type 0 where
  pub one : ℕ
  pub other : ℕ
  pub apart : one ≢ other
  pub one_low : 1 ≤ one
  pub one_high : one ≤ n
  pub other_low : 1 ≤ other
  pub other_high : other ≤ n
  pub one_own : IsOwn ds one a
  pub other_own : IsOwn ds other b

module _ (n : ℕ) (ds : List Decl) where
  each_from : (from i : ℕ) → from ≤ i → i ≤ n → (os : List Occurrence) → Each (λ (o : Occurrence). IsOwn ds i o.deed) os →
      Each (λ (o : Occurrence). IsOwnFrom n ds from o.deed) os
  each_from from i low high [] all = tt
  each_from from i low high (o ∷ os) all = (record { stage = i; low = low; high = high; own = all.0 }, each_from from i low high os all.1)

  later : (from least : ℕ) → from ≤ least → (os : List Occurrence) → Each (λ (o : Occurrence). IsOwnFrom n ds least o.deed) os →
      Each (λ (o : Occurrence). IsOwnFrom n ds from o.deed) os
  later from least less [] all = tt
  later from least less (o ∷ os) all =
      (record { stage = all.0.stage; low = omega (arith, all.0.low); high = all.0.high; own = all.0.own }, later from least less os all.1)

  stages_own : (from count : ℕ) (us : Statements) → from + count ≤ n + 1 → AreStages from count us
      → Each (λ (o : Occurrence). IsOwnFrom n ds from o.deed) (occurrences_of_each (processes_form ds us))
  stages_own from zero us high no_stage = tt
  stages_own from (suc count) us high (one_more_stage {t = t} {us = more} is others) =
      let own = occurrences (process_form ds t) in
      let behind = occurrences_of_each (processes_form ds more) in
      each_append (λ (o : Occurrence). IsOwnFrom n ds from o.deed) own behind
      (each_from from from (omega arith) (omega arith) own (stage_own ds from t is))
      (later from (from + 1) (omega arith) behind (stages_own (from + 1) count more (omega arith) others))

  -- nothing in a stage is parallel
  none_parallel : ⊥ ⊎ (⊥ ⊎ ⊥) → ⊥
  none_parallel (inl bad) = bad
  none_parallel (inr (inl bad)) = bad
  none_parallel (inr (inr bad)) = bad

  stage_parallel : (i : ℕ) (t : Statement) (a b : Occurrence) → IsStage i t → Parallel (process_form ds t) a b → ⊥
  stage_parallel i t a b (a_stage is) both = none_parallel both

  inside : (from count : ℕ) (us : Statements) (a b : Occurrence) → AreStages from count us → ParallelInside (processes_form ds us) a b → ⊥
  inside from zero us a b no_stage both = both
  inside from (suc count) us a b (one_more_stage {t = t} {us = more} is others) (inl both) = stage_parallel from t a b is both
  inside from (suc count) us a b (one_more_stage {t = t} {us = more} is others) (inr both) = inside (from + 1) count more a b others both

  foreign : (from : ℕ) (a b : Deed) → 1 ≤ from → from ≤ n → IsOwn ds from a → IsOwnFrom n ds (from + 1) b → AreForeign n ds a b
  foreign from a b low high own other = record {
    one = from;
    other = other.stage;
    apart = λ same. absurd (omega (arith, same, other.low));
    one_low = low;
    one_high = high;
    other_low = omega (arith, other.low);
    other_high = other.high;
    one_own = own;
    other_own = other.own;
  }

  turned : (a b : Deed) → AreForeign n ds a b → AreForeign n ds b a
  turned a b f = record {
    one = f.other;
    other = f.one;
    apart = λ same. f.apart (sym same);
    one_low = f.other_low;
    one_high = f.other_high;
    other_low = f.one_low;
    other_high = f.one_high;
    one_own = f.other_own;
    other_own = f.one_own;
  }

  across : (from count : ℕ) (us : Statements) (a b : Occurrence) → 1 ≤ from → from + count ≤ n + 1 → AreStages from count us
      → ParallelAcross (processes_form ds us) a b → AreForeign n ds a.deed b.deed
  across from zero us a b low high no_stage both = absurd both
  across from (suc count) us a b low high (one_more_stage {t = t} {us = more} is others) (inr both) =
      across (from + 1) count more a b (omega arith) (omega arith) others both
  across from (suc count) us a b low high (one_more_stage {t = t} {us = more} is others) (inl both) = go both
    where
      own : (o : Occurrence) → Contains (occurrences (process_form ds t)) o → IsOwn ds from o.deed
      own o among = each_contains (λ (x : Occurrence). IsOwn ds from x.deed) (occurrences (process_form ds t)) o (stage_own ds from t is) among

      behind : (o : Occurrence) → Contains (occurrences_of_each (processes_form ds more)) o → IsOwnFrom n ds (from + 1) o.deed
      behind o among = each_contains (λ (x : Occurrence). IsOwnFrom n ds (from + 1) x.deed) (occurrences_of_each (processes_form ds more)) o
          (stages_own (from + 1) count more (omega arith) others) among

      go : IsAcross (occurrences (process_form ds t)) (occurrences_of_each (processes_form ds more)) a b → AreForeign n ds a.deed b.deed
      go (inl pair) = foreign from a.deed b.deed low (omega arith) (own a pair.0) (behind b pair.1)
      go (inr pair) = turned b.deed a.deed (foreign from b.deed a.deed low (omega arith) (own b pair.1) (behind a pair.0))

  body_foreign : (body : Statement) (a b : Occurrence) → 1 ≤ n → IsBody n body → Parallel (process_form ds body) a b → AreForeign n ds a.deed b.deed
  body_foreign body a b some is both =
      go is.others (n - 1) (omega arith) is.are_others (subst (λ t. Parallel (process_form ds t) a b) is.is both)
    where
      go : (us : Statements) (count : ℕ) → 1 + count ≤ n → AreStages 2 count us → Parallel (process_form ds (parallel_of is.first us)) a b →
          AreForeign n ds a.deed b.deed
      go no_members count few others both = absurd (stage_parallel 1 is.first a b is.is_first both)
      go (and_member u us) count few others (inl both) =
          absurd (inside 1 (suc count) (and_member is.first (and_member u us)) a b (one_more_stage is.is_first others) both)
      go (and_member u us) count few others (inr both) =
          across 1 (suc count) (and_member is.first (and_member u us)) a b (omega arith) (omega arith) (one_more_stage is.is_first others) both

module _ (n : ℕ) (some : 1 ≤ n) (few : n ≤ 400) (ds : List Decl) (are : AreWanted (all_wanted n) ds) where
  variables_apart : (a b : Deed) → AreForeign n ds a b → Clashes code.SharedVariable a b → ⊥
  variables_apart a b f clash = go a b f.one_own f.other_own clash
    where
      one : var_number ds (variable_at f.one) ≡ var_number ds (variable_at f.other) → ⊥
      one same = f.apart (one_variable n some few ds are f.one f.other f.one_low f.one_high f.other_low f.other_high same)

      go : (a b : Deed) → IsOwn ds f.one a → IsOwn ds f.other b → Clashes code.SharedVariable a b → ⊥
      go a b own_write own_write same = one same
      go a b own_write own_read same = one same
      go a b own_read own_write same = one same
      go a b own_read own_read same = same
      go a b own_write own_send same = same
      go a b own_write own_receive same = same
      go a b own_read own_send same = same
      go a b own_read own_receive same = same
      go a b own_send other same = same
      go a b own_receive other same = same

  sends_apart : (a b : Deed) → AreForeign n ds a b → Clashes code.SharedSend a b → ⊥
  sends_apart a b f clash = go a b f.one_own f.other_own clash
    where
      go : (a b : Deed) → IsOwn ds f.one a → IsOwn ds f.other b → Clashes code.SharedSend a b → ⊥
      go a b own_send own_send same = f.apart (one_channel n some few ds are f.one f.other f.one_high f.other_high same)
      go a b own_send own_write same = same
      go a b own_send own_read same = same
      go a b own_send own_receive same = same
      go a b own_write other same = same
      go a b own_read other same = same
      go a b own_receive other same = same

  receives_apart : (a b : Deed) → AreForeign n ds a b → Clashes code.SharedReceive a b → ⊥
  receives_apart a b f clash = go a b f.one_own f.other_own clash
    where
      one : channel_number ds (channel_at (f.one - 1)) ≡ channel_number ds (channel_at (f.other - 1)) → ⊥
      one same =
          let before : f.one - 1 ≡ f.other - 1 =
          one_channel n some few ds are (f.one - 1) (f.other - 1) (omega (arith, f.one_high)) (omega (arith, f.other_high)) same in
          f.apart (omega (arith, before, f.one_low, f.other_low))

      go : (a b : Deed) → IsOwn ds f.one a → IsOwn ds f.other b → Clashes code.SharedReceive a b → ⊥
      go a b own_receive own_receive same = one same
      go a b own_receive own_write same = same
      go a b own_receive own_read same = same
      go a b own_receive own_send same = same
      go a b own_write other same = same
      go a b own_read other same = same
      go a b own_send other same = same

  pub nothing_shared : (body : Statement) → IsBody n body → MeetsSharing (process_form ds body)
  nothing_shared body is = record {
    variables = λ a b both. variables_apart a.deed b.deed (body_foreign n ds body a b some is both);
    sends = λ a b both. sends_apart a.deed b.deed (body_foreign n ds body a b some is both);
    receives = λ a b both. receives_apart a.deed b.deed (body_foreign n ds body a b some is both);
  }
