-- Which branches are open, by the heads of the guards.
use Rattle.std.proofs.Common.{◌≡◌, ◌≢◌, ℕ, zero, suc, ◌==◌, Bool, true, false, [], ◌∷◌, refl, sym, ap, ◌∙◌, arith, ◌≤◌}
use Rattle.std.specs.Prelude.{◌||◌, if◌then◌else◌}
use Rattle.width_check.specs.Processes.{Formula, Process, Choices, no_choices, and_choice, choice_count, TypedProgram}
use Rattle.width_check.specs.Typing.{var_width}
use Rattle.width_check.specs.Values.{value}
use Rattle.width_check.specs.Reads.{reads}
use Rattle.function_blocks.specs.Rails.{Pairs, Rails, Single, number_on}
use Rattle.function_blocks.specs.Parts.{gate_count}
use Rattle.function_blocks.specs.Waves.{good, out_rail, store_of}
use Rattle.circuit_places.specs.Heads.{Index, top, under, each_false, all_valid, alone, over}
use Rattle.circuit_places.specs.Circuit.{GuardCells, guard_head, guards_read, heads, guards_good}
use Rattle.circuit_places.proofs.HeadFacts.{fst_true, snd_true, both_true}
use Rattle.circuit_places.proofs.Meets.{GuardMeets, GuardsMeet}
use Rattle.circuit_places.proofs.Left.{body_at, open_by}

or_so : (a b : Bool) → b ≡ true → (a || b) ≡ true
or_so true b h = refl
or_so false b h = h

-- in a store that has the numbers on the rails of what the guards read
module _ (P : TypedProgram) (bits : ℕ → Rails) (lone : Single bits) (store : ℕ → ℕ) where
  abbrev Agrees : Choices → Type 0
  Agrees choices = (x : ℕ) → guards_read choices x ≡ true → number_on (var_width P.vars x) (bits x) ≡ store x

  behind : (g : Formula) (p : Process) (more : Choices) → Agrees (and_choice g p more) → Agrees more
  behind g p more h x z = h x (or_so (reads x g) (guards_read more x) z)

  tells : (g : Formula) → GuardMeets P g → ((x : ℕ) → reads x g ≡ true → number_on (var_width P.vars x) (bits x) ≡ store x) → (u : Pairs (gate_count g))
      → good true bits g u ≡ true → (one : Bool) → out_rail g u 0 one ≡ true → (value store g == 1) ≡ one
  tells g m agree u f one h = ap (λ v. v == 1) (sym (m.known.agrees (store_of P.vars bits) store agree)) ∙ m.known.head P.vars bits u m.one m.reads lone f one h

  closed : (g : Formula) (p : Process) (more : Choices) → (value store g == 1) ≡ false → open_by store (and_choice g p more) ≡ open_by store more
  closed g p more e = ap (λ b. if b then p ∷ open_by store more else open_by store more) e

  opens : (g : Formula) (p : Process) (more : Choices) → (value store g == 1) ≡ true → open_by store (and_choice g p more) ≡ p ∷ open_by store more
  opens g p more e = ap (λ b. if b then p ∷ open_by store more else open_by store more) e

  says : (g : Formula) (p : Process) (more : Choices) → GuardsMeet P (and_choice g p more) → Agrees (and_choice g p more)
      → (x : GuardCells (and_choice g p more)) → guards_good (and_choice g p more) bits true x ≡ true → (one : Bool) → out_rail g x.0 0 one ≡ true
      → (value store g == 1) ≡ one
  says g p more h a x f one e = tells g h.0 (λ v z. a v (ap (λ b. b || guards_read more v) z)) x.0 (fst_true (good true bits g x.0) _ f) one e

  none_open : (choices : Choices) → GuardsMeet P choices → Agrees choices → (x : GuardCells choices) → guards_good choices bits true x ≡ true
      → each_false (choice_count choices) (heads choices x) ≡ true → open_by store choices ≡ []
  none_open no_choices h a x f o = refl
  none_open (and_choice g p more) h a x f o =
      closed g p more (says g p more h a x f false (fst_true (guard_head g x.0).f _ o))
      ∙ none_open more h.1 (behind g p more a) x.1 (snd_true (good true bits g x.0) _ f) (snd_true (guard_head g x.0).f _ o)

  over_all : (n : ℕ) (hs : Pairs n) → over n hs ≡ true → each_false n hs ≡ true
  over_all zero hs h = refl
  over_all (suc n) hs h = h

  pub open_none : (choices : Choices) → GuardsMeet P choices → Agrees choices → (x : GuardCells choices) → guards_good choices bits true x ≡ true
      → over (choice_count choices) (heads choices x) ≡ true → open_by store choices ≡ []
  open_none choices h a x f o = none_open choices h a x f (over_all (choice_count choices) (heads choices x) o)

  pub open_alone : (choices : Choices) → GuardsMeet P choices → Agrees choices → (x : GuardCells choices) → guards_good choices bits true x ≡ true
      → (i : Index (choice_count choices)) → alone i (heads choices x) ≡ true → open_by store choices ≡ body_at choices i ∷ []
  open_alone (and_choice g p more) h a x f top o =
      opens g p more (says g p more h a x f true (fst_true (guard_head g x.0).t _ o))
      ∙ ap (λ ps. p ∷ ps) (none_open more h.1 (behind g p more a) x.1 (snd_true (good true bits g x.0) _ f) (snd_true (guard_head g x.0).t _ o))
  open_alone (and_choice g p more) h a x f (under i) o =
      closed g p more (says g p more h a x f false (fst_true (guard_head g x.0).f _ o))
      ∙ open_alone more h.1 (behind g p more a) x.1 (snd_true (good true bits g x.0) _ f) i (snd_true (guard_head g x.0).f _ o)
  open_alone no_choices h a x f i o = elim i [ ]

  -- where all heads are valid: no branch is open only where all guards are false, and one alone only where its guard is true alone
  none_false : (choices : Choices) → GuardsMeet P choices → Agrees choices → (x : GuardCells choices) → guards_good choices bits true x ≡ true
      → all_valid (choice_count choices) (heads choices x) ≡ true → open_by store choices ≡ [] → each_false (choice_count choices) (heads choices x) ≡ true
  none_false no_choices h a x f v e = refl
  none_false (and_choice g p more) h a x f v e = by_head
      (λ z. none_false more h.1 (behind g p more a) x.1 (snd_true (good true bits g x.0) _ f)
      (snd_true ((guard_head g x.0).t || (guard_head g x.0).f) _ v) z) (guard_head g x.0).t (guard_head g x.0).f refl refl
    where
      by_head : (open_by store more ≡ [] → each_false (choice_count more) (heads more x.1) ≡ true) → (t r : Bool) → (guard_head g x.0).t ≡ t
          → (guard_head g x.0).f ≡ r → each_false (choice_count (and_choice g p more)) (heads (and_choice g p more) x) ≡ true
      by_head again true r z w = absurd (cc (opens g p more (says g p more h a x f true z), e))
      by_head again false true z w = both_true (guard_head g x.0).f _ w (again (sym (closed g p more (says g p more h a x f false w)) ∙ e))
      by_head again false false z w = absurd (cc (
        ap (λ b. b || (guard_head g x.0).f) z,
        w,
        fst_true ((guard_head g x.0).t || (guard_head g x.0).f) _ v,
      ))

  one_true : (choices : Choices) → GuardsMeet P choices → Agrees choices → (x : GuardCells choices) → guards_good choices bits true x ≡ true
      → all_valid (choice_count choices) (heads choices x) ≡ true → (q : Process) → open_by store choices ≡ q ∷ []
      → (i : Index (choice_count choices)) × (alone i (heads choices x) ≡ true)
  one_true no_choices h a x f v q e = absurd (cc e)
  one_true (and_choice g p more) h a x f v q e = by_head
      (λ z. one_true more h.1 (behind g p more a) x.1 (snd_true (good true bits g x.0) _ f)
      (snd_true ((guard_head g x.0).t || (guard_head g x.0).f) _ v) q z) (guard_head g x.0).t (guard_head g x.0).f refl refl
    where
      by_head : (open_by store more ≡ q ∷ [] → (i : Index (choice_count more)) × (alone i (heads more x.1) ≡ true)) → (t r : Bool)
          → (guard_head g x.0).t ≡ t → (guard_head g x.0).f ≡ r
          → (i : Index (choice_count (and_choice g p more))) × (alone i (heads (and_choice g p more) x) ≡ true)
      by_head again true r z w =
          let rest : open_by store more ≡ [] = cc (opens g p more (says g p more h a x f true z), e) in (
            top,
            both_true (guard_head g x.0).t _ z (none_false more h.1 (behind g p more a) x.1 (snd_true (good true bits g x.0) _ f)
                (snd_true ((guard_head g x.0).t || (guard_head g x.0).f) _ v) rest),
          )
      by_head again false true z w =
          let r = again (sym (closed g p more (says g p more h a x f false w)) ∙ e) in
          (under r.0, both_true (guard_head g x.0).f _ w r.1)
      by_head again false false z w = absurd (cc (
        ap (λ b. b || (guard_head g x.0).f) z,
        w,
        fst_true ((guard_head g x.0).t || (guard_head g x.0).f) _ v,
      ))

  pub open_stuck : (choices : Choices) → GuardsMeet P choices → Agrees choices → (x : GuardCells choices) → guards_good choices bits true x ≡ true
      → all_valid (choice_count choices) (heads choices x) ≡ true → ((i : Index (choice_count choices)) → alone i (heads choices x) ≡ false) → (q : Process)
      → open_by store choices ≢ q ∷ []
  open_stuck choices h a x f v n q e = let r = one_true choices h a x f v q e in cc (r.1, n r.0)

  pub open_some : (choices : Choices) → GuardsMeet P choices → Agrees choices → 1 ≤ choice_count choices → (x : GuardCells choices)
      → guards_good choices bits true x ≡ true → all_valid (choice_count choices) (heads choices x) ≡ true
      → over (choice_count choices) (heads choices x) ≡ false → open_by store choices ≢ []
  open_some no_choices h a some x f v o e = absurd (let g : ⊥ = omega (arith, some) in g)
  open_some (and_choice g p more) h a some x f v o e = cc (none_false (and_choice g p more) h a x f v e, o)
