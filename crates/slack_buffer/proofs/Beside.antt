-- A program beside the same program with a buffer on one of its channels: each step of the one is up to three of the other.
use Rattle.std.proofs.Common.{◌≡◌, ◌≢◌, ◌⊎◌, ℕ, zero, suc, ◌+◌, ◌-◌, ◌/◌, ◌%◌, ◌^◌, ◌<◌, ◌≤◌, Bool, true, false, List, [], ◌∷◌, ◌++◌, map, length, refl, sym, ap, ◌∙◌, subst, inl, inr, arith}
use Rattle.std.specs.Prelude.{if◌then◌else◌, ◌==◌, slice_index, slice_set, Some}
use Rattle.std.proofs.Math.ListN.{get_or-append}
use Rattle.std.proofs.Math.Nat.{div-one, mod-eq_of_lt}
use Rattle.std.proofs.lemmas.List.{set-append_left, get_or-set_other}
use Rattle.std.proofs.lemmas.Bool.Decides.{eqb_tells}
use Rattle.chp_base.specs.declared.span.Span.{Span}
use Rattle.chp_base.specs.declared.channel.Channel.{Channel}
use Rattle.env_script.specs.Scripts.{OfferValue, nothing, offer_at}
use Rattle.env_script.specs.Runs.{history_at}
use Rattle.width_check.specs.declared.typed.Var.{Var}
use Rattle.width_check.specs.Processes.{Formula, constant, reading, joined, inverted, chained, compared, Formulas, no_parts, and_part, Operations, no_operations, and_operation, Process, sending, receiving, Choices, no_choices, and_choice}
use Rattle.width_check.specs.Values.{width_of, value, joined_value, chained_value, operated}
use Rattle.width_check.specs.Typing.{channel_width, ReadsFrom, EachReadsFrom, AllReadFrom, IsOfWidth, IsSend, IsReceive, IsProcess}
use Rattle.width_check.proofs.Bounds.{value_fits, width_some}
use Rattle.chp_meaning.specs.Terms.{Term, finished, active, in_parallel, no_branches, and_branch, is_finished, Place, in_branch, statement_at, with_left}
use Rattle.chp_meaning.specs.Steps.{Configuration, value_in, open_branches, leaving, storing, passing, offering, Step, a_communication, Leads, no_step, one_step}
use Rattle.slack_buffer.specs.Buffers.{rerouted, rerouted_choices, passing_on}
use Rattle.slack_buffer.proofs.Rerouting.{rerouted_term, at_same, with_same, together_open}
use Rattle.slack_buffer.proofs.Holding.{HoldsIn, HoldsChoices, at_holds}

-- two statements side by side
abbrev pub pair : Term → Term → List ℕ → List OfferValue → List (List ℕ) → Configuration
pair t u s r h = record { term = in_parallel (and_branch t (and_branch u no_branches)); store = s; rests = r; histories = h }

pub pair_same : (t t' u u' : Term) (s s' : List ℕ) (r r' : List OfferValue) (h h' : List (List ℕ)) → t ≡ t' → u ≡ u' → s ≡ s' → r ≡ r' → h ≡ h' →
    pair t u s r h ≡ pair t' u' s' r' h'
pair_same t t' u u' s s' r r' h h' et eu es er eh =
    ap (λ z. pair z u s r h) et ∙ (ap (λ z. pair t' z s r h) eu
    ∙ (ap (λ z. pair t' u' z r h) es ∙ (ap (λ z. pair t' u' s' z h) er ∙ ap (λ z. pair t' u' s' r' z) eh)))

pub left_first : (t u l : Term) (s : List ℕ) (r : List OfferValue) (h : List (List ℕ)) (w : Place) → is_finished u ≡ false →
    leaving (pair t u s r h) (in_branch zero w) l ≡ pair (with_left t w l) u s r h
left_first t u l s r h w e =
    let conf : Term → Configuration = λ z. record { term = z; store = s; rests = r; histories = h } in ap conf (together_open (with_left t w l) u e)

pub left_second : (t u l : Term) (s : List ℕ) (r : List OfferValue) (h : List (List ℕ)) (w : Place) → is_finished (with_left u w l) ≡ false →
    leaving (pair t u s r h) (in_branch (suc zero) w) l ≡ pair t (with_left u w l) s r h
left_second t u l s r h w e =
    let conf : Term → Configuration = λ z. record { term = z; store = s; rests = r; histories = h } in ap conf (together_open t (with_left u w l) e)

-- The program's configurations: numbers of its channels and variables, and no part of the environment in the channel.
abbrev pub Made : List Channel → List Var → Term → Type 0
Made cs vs t = HoldsIn (IsProcess cs vs) (IsOfWidth vs 1) t

pub record IsOn (cs : List Channel) (vs : List Var) (x : ℕ) (c : Configuration) : Type 0 where
  pub made : Made cs vs c.term
  pub store : length c.store ≡ length vs
  pub rests : length c.rests ≡ length cs
  pub histories : length c.histories ≡ length cs
  pub inner : offer_at c.rests x ≡ nothing

-- what the buffer does
abbrev pub buffer_on : List Channel → List Var → ℕ → Process
buffer_on cs vs x = passing_on x (channel_width cs x) (length cs) (length vs)

-- the same configuration with an empty buffer, in whose variable is v
abbrev pub beside : List Channel → List Var → ℕ → ℕ → Configuration → Configuration
beside cs vs x v c = pair (rerouted_term x (length cs) c.term) (active (buffer_on cs vs x)) (c.store ++ v ∷ []) (c.rests ++ nothing ∷ [])
    (c.histories ++ history_at c.histories x ∷ [])

pub record Ahead (cs : List Channel) (vs : List Var) (x v : ℕ) (c d : Configuration) : Type 0 where
  pub last : ℕ
  pub steps : ℕ
  pub few : steps ≤ 3
  pub leads : Leads (beside cs vs x v c) steps (beside cs vs x last d)

-- values

mutual
  pub value_more : (vs : List Var) (s : List ℕ) (v : ℕ) (e : Formula) → length s ≡ length vs → ReadsFrom vs e →
      value (slice_index (s ++ v ∷ [])) e ≡ value (slice_index s) e
  value_more vs s v (constant w n) same f = refl
  value_more vs s v (reading y high low at) same f =
      let below : y < length s = let b = f.0 in omega arith in
      ap (λ n. n / 2 ^ low % 2 ^ (high + 1 - low)) (get_or-append s (v ∷ []) 0 y below)
  value_more vs s v (joined parts) same f = joined_more vs s v parts same f
  value_more vs s v (inverted e) same f = ap (λ n. 2 ^ width_of e - 1 - n) (value_more vs s v e same f)
  value_more vs s v (chained e more) same f =
      ap (λ n. chained_value (slice_index (s ++ v ∷ [])) (width_of e) n more) (value_more vs s v e same f.0)
      ∙ chained_more vs s v (width_of e) (value (slice_index s) e) more same f.1
  value_more vs s v (compared op d e) same f =
      ap (λ n. operated op (width_of d) n (value (slice_index (s ++ v ∷ [])) e)) (value_more vs s v d same f.0)
      ∙ ap (λ n. operated op (width_of d) (value (slice_index s) d) n) (value_more vs s v e same f.1)

  joined_more : (vs : List Var) (s : List ℕ) (v : ℕ) (parts : Formulas) → length s ≡ length vs → EachReadsFrom vs parts →
      joined_value (slice_index (s ++ v ∷ [])) parts ≡ joined_value (slice_index s) parts
  joined_more vs s v no_parts same f = refl
  joined_more vs s v (and_part e more) same f = rw (value_more vs s v e same f.0, joined_more vs s v more same f.1) refl

  chained_more : (vs : List Var) (s : List ℕ) (v w n : ℕ) (more : Operations) → length s ≡ length vs → AllReadFrom vs more →
      chained_value (slice_index (s ++ v ∷ [])) w n more ≡ chained_value (slice_index s) w n more
  chained_more vs s v w n no_operations same f = refl
  chained_more vs s v w n (and_operation op e more) same f =
      ap (λ m. chained_value (slice_index (s ++ v ∷ [])) w (operated op w n m) more) (value_more vs s v e same f.0)
      ∙ chained_more vs s v w (operated op w n (value (slice_index s) e)) more same f.1

pub whole_value : (v w : ℕ) → 1 ≤ w → v < 2 ^ w → v / 2 ^ 0 % 2 ^ (w - 1 + 1 - 0) ≡ v
whole_value v w some small =
    let e : w - 1 + 1 - 0 ≡ w = omega arith in
    subst (λ k. v / 2 ^ 0 % 2 ^ k ≡ v) (sym e) (ap (λ n. n % 2 ^ w) (div-one v) ∙ mod-eq_of_lt small)

pub sent_small : (cs : List Channel) (vs : List Var) (k : ℕ) (e : Formula) (store : ℕ → ℕ) → IsSend cs vs k e → value store e < 2 ^ channel_width cs k
sent_small cs vs k e store h = subst (λ w. value store e < 2 ^ w) h.sent.agrees (value_fits store e h.sent.formed)

pub sent_some : (cs : List Channel) (vs : List Var) (k : ℕ) (e : Formula) → IsSend cs vs k e → 1 ≤ channel_width cs k
sent_some cs vs k e h = subst (λ w. 1 ≤ w) h.sent.agrees (width_some e h.sent.formed)

-- numbers of channels

pub kept_channel : (x n k : ℕ) → k ≢ x → (if k == x then n else k) ≡ k
kept_channel x n k ne = by_test (eqb_tells k x)
  where
    by_test : (((k == x) ≡ true) × (k ≡ x)) ⊎ (((k == x) ≡ false) × (k ≢ x)) → (if k == x then n else k) ≡ k
    by_test (inl h) = absurd (ne h.1)
    by_test (inr h) = ap (λ b. if b then n else k) h.0

pub put_channel : (x n : ℕ) → (if x == x then n else x) ≡ n
put_channel x n = by_test (eqb_tells x x)
  where
    by_test : (((x == x) ≡ true) × (x ≡ x)) ⊎ (((x == x) ≡ false) × (x ≢ x)) → (if x == x then n else x) ≡ n
    by_test (inl h) = ap (λ b. if b then n else x) h.0
    by_test (inr h) = absurd (h.1 refl)

-- what the parts of a step do to both

pub left_beside : (cs : List Channel) (vs : List Var) (x v : ℕ) (c : Configuration) (w : Place) (l : Term) →
    leaving (beside cs vs x v c) (in_branch zero w) (rerouted_term x (length cs) l) ≡ beside cs vs x v (leaving c w l)
left_beside cs vs x v c w l =
    left_first (rerouted_term x (length cs) c.term) (active (buffer_on cs vs x)) (rerouted_term x (length cs) l) (c.store ++ v ∷ []) (c.rests ++ nothing ∷ [])
    (c.histories ++ history_at c.histories x ∷ []) w refl
    ∙ ap (λ z. pair z (active (buffer_on cs vs x)) (c.store ++ v ∷ []) (c.rests ++ nothing ∷ []) (c.histories ++ history_at c.histories x ∷ []))
    (with_same x (length cs) c.term w l)

pub stored_beside : (cs : List Channel) (vs : List Var) (x v : ℕ) (c : Configuration) (y n : ℕ) → y < length c.store →
    storing (beside cs vs x v c) y n ≡ beside cs vs x v (storing c y n)
stored_beside cs vs x v c y n below =
    ap (λ z. pair (rerouted_term x (length cs) c.term) (active (buffer_on cs vs x)) z (c.rests ++ nothing ∷ []) (c.histories ++ history_at c.histories x ∷ []))
    (set-append_left c.store (v ∷ []) y n below)

pub offered_beside : (cs : List Channel) (vs : List Var) (x v : ℕ) (c : Configuration) (k : ℕ) (o : OfferValue) → k < length c.rests →
    offering (beside cs vs x v c) k o ≡ beside cs vs x v (offering c k o)
offered_beside cs vs x v c k o below =
    ap (λ z. pair (rerouted_term x (length cs) c.term) (active (buffer_on cs vs x)) (c.store ++ v ∷ []) z (c.histories ++ history_at c.histories x ∷ []))
    (set-append_left c.rests (nothing ∷ []) k o below)

pub passed_beside : (cs : List Channel) (vs : List Var) (x v : ℕ) (c : Configuration) (k n : ℕ) → k < length c.histories → k ≢ x →
    passing (beside cs vs x v c) k n ≡ beside cs vs x v (passing c k n)
passed_beside cs vs x v c k n below ne =
    ap (λ z. pair (rerouted_term x (length cs) c.term) (active (buffer_on cs vs x)) (c.store ++ v ∷ []) (c.rests ++ nothing ∷ []) z) histories_are
  where
    histories_are : slice_set (c.histories ++ history_at c.histories x ∷ []) k (history_at (c.histories ++ history_at c.histories x ∷ []) k ++ n ∷ [])
        ≡ slice_set c.histories k (history_at c.histories k ++ n ∷ [])
        ++ history_at (slice_set c.histories k (history_at c.histories k ++ n ∷ [])) x ∷ []
    histories_are =
        ap (λ z. slice_set (c.histories ++ history_at c.histories x ∷ []) k (z ++ n ∷ []))
        (get_or-append c.histories (history_at c.histories x ∷ []) [] k below)
        ∙ (set-append_left c.histories (history_at c.histories x ∷ []) k (history_at c.histories k ++ n ∷ []) below
        ∙ ap (λ z. slice_set c.histories k (history_at c.histories k ++ n ∷ []) ++ z ∷ [])
        (sym (get_or-set_other c.histories k x (history_at c.histories k ++ n ∷ []) [] (λ e. ne (sym e)))))

pub offer_beside : (cs : List Channel) (vs : List Var) (x v : ℕ) (c : Configuration) (k : ℕ) → k < length c.rests →
    offer_at (beside cs vs x v c).rests k ≡ offer_at c.rests k
offer_beside cs vs x v c k below = get_or-append c.rests (nothing ∷ []) nothing k below

pub open_beside : (cs : List Channel) (vs : List Var) (x v : ℕ) (c : Configuration) (choices : Choices) → length c.store ≡ length vs →
    HoldsChoices (IsProcess cs vs) (IsOfWidth vs 1) choices →
    open_branches (beside cs vs x v c) (rerouted_choices x (length cs) choices) ≡ map (rerouted x (length cs)) (open_branches c choices)
open_beside cs vs x v c no_choices same h = refl
open_beside cs vs x v c (and_choice g p more) same h =
    ap (λ n. if n == 1 then rerouted x (length cs) p ∷ open_branches (beside cs vs x v c) (rerouted_choices x (length cs) more)
    else open_branches (beside cs vs x v c) (rerouted_choices x (length cs) more)) (value_more vs c.store v g same h.0.reads)
    ∙ by_test (value_in c g == 1) (open_beside cs vs x v c more same h.2)
  where
    by_test : (b : Bool) → open_branches (beside cs vs x v c) (rerouted_choices x (length cs) more) ≡ map (rerouted x (length cs)) (open_branches c more) →
        (if b then rerouted x (length cs) p ∷ open_branches (beside cs vs x v c) (rerouted_choices x (length cs) more)
        else open_branches (beside cs vs x v c) (rerouted_choices x (length cs) more))
        ≡ map (rerouted x (length cs)) (if b then p ∷ open_branches c more else open_branches c more)
    by_test true e = ap (λ ps. rerouted x (length cs) p ∷ ps) e
    by_test false e = e

-- one step of each

pub at_once : (cs : List Channel) (vs : List Var) (x v : ℕ) (c d e : Configuration) (at : Place) → Step (beside cs vs x v c) at e → e ≡ beside cs vs x v d →
    Ahead cs vs x v c d
at_once cs vs x v c d e at s same = record {
  last = v;
  steps = 1;
  few = omega arith;
  leads =
      subst (λ z. Leads (beside cs vs x v c) 1 z) same (one_step s no_step);
}

-- a step that only leaves something at its place
pub left_at_once : (cs : List Channel) (vs : List Var) (x v : ℕ) (c : Configuration) (w : Place) (l m : Term) → m ≡ rerouted_term x (length cs) l →
    Step (beside cs vs x v c) (in_branch zero w) (leaving (beside cs vs x v c) (in_branch zero w) m) → Ahead cs vs x v c (leaving c w l)
left_at_once cs vs x v c w l m same s =
    at_once cs vs x v c (leaving c w l) (leaving (beside cs vs x v c) (in_branch zero w) m) (in_branch zero w) s
    (ap (λ z. leaving (beside cs vs x v c) (in_branch zero w) z) same ∙ left_beside cs vs x v c w l)

-- a communication on another channel
pub elsewhere : (cs : List Channel) (vs : List Var) (x v : ℕ) (c : Configuration) → IsOn cs vs x c → (at other : Place) (k y : ℕ) (s t u : Span) (e : Formula) →
    k ≢ x → statement_at c.term at ≡ Some (sending k s e) → statement_at c.term other ≡ Some (receiving k t y u) → offer_at c.rests k ≡ nothing →
    Ahead cs vs x v c (passing (storing (leaving (leaving c at finished) other finished) y (value_in c e)) k (value_in c e))
elsewhere cs vs x v c is at other k y s t u e ne on there inside =
    at_once cs vs x v c (passing (storing (leaving (leaving c at finished) other finished) y (value_in c e)) k (value_in c e))
    (passing (storing (leaving (leaving (beside cs vs x v c) (in_branch zero at) finished) (in_branch zero other) finished) y
    (value_in (beside cs vs x v c) e)) k (value_in (beside cs vs x v c) e))
    (in_branch zero at)
    (a_communication (in_branch zero other) (at_same x (length cs) c.term at (sending k s e) on)
    (at_same x (length cs) c.term other (receiving k t y u) there ∙ ap (λ n. Some (receiving n t y u)) (kept_channel x (length cs) k ne))
    (offer_beside cs vs x v c k offers ∙ inside))
    (ap (λ z. passing (storing (leaving z (in_branch zero other) finished) y (value_in (beside cs vs x v c) e)) k (value_in (beside cs vs x v c) e))
    (left_beside cs vs x v c at finished)
    ∙ (ap (λ z. passing (storing z y (value_in (beside cs vs x v c) e)) k (value_in (beside cs vs x v c) e))
    (left_beside cs vs x v (leaving c at finished) other finished)
    ∙ (ap (λ n. passing (storing (beside cs vs x v both_left) y n) k n) (value_more vs c.store v e is.store sends.sent.reads)
    ∙ (ap (λ z. passing z k (value_in c e)) (stored_beside cs vs x v both_left y (value_in c e) writes)
    ∙ passed_beside cs vs x v (storing both_left y (value_in c e)) k (value_in c e) passes ne))))
  where
    sends : IsSend cs vs k e
    sends = at_holds (IsProcess cs vs) (IsOfWidth vs 1) c.term at (sending k s e) is.made on

    receives : IsReceive cs vs k y
    receives = at_holds (IsProcess cs vs) (IsOfWidth vs 1) c.term other (receiving k t y u) is.made there

    both_left : Configuration
    both_left = leaving (leaving c at finished) other finished

    offers : k < length c.rests
    offers = let a = sends.within in let b = is.rests in omega arith

    writes : y < length c.store
    writes = let a = receives.target in let b = is.store in omega arith

    passes : k < length c.histories
    passes = let a = sends.within in let b = is.histories in omega arith
