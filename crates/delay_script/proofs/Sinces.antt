-- Since which move a node's move is enabled, behind one more move.
use Rattle.std.proofs.Common.{◌≡◌, ◌≢◌, ℕ, zero, suc, ◌+◌, ◌<◌, ◌≤◌, Bool, true, false, List, [], ◌∷◌, ◌++◌, length, get_or, take, refl, sym, ap, subst, ◌∙◌, inl, inr, arith}
use Rattle.std.specs.Prelude.{◌⊎◌}
use Rattle.std.proofs.lemmas.Bool.{cases_lt, cases_eq, cases_order, both_ways}
use Rattle.std.proofs.lemmas.List.{length_push, take-append-le, take_all, get_or_append_left, append-nil, append_assoc}
use Rattle.std.proofs.Math.Seq.{get_or-append_seam}
use Rattle.prs_core.specs.Nets.{NetValue}
use Rattle.env_script.specs.Scripts.{OfferValue}
use Rattle.env_script.specs.Runs.{RunState, move_enabled, after}
use Rattle.delay_script.specs.Causes.{IsEnabledSince, enabled_behind}

front : (ns : List ℕ) (node k : ℕ) → k ≤ length ns → take k (ns ++ node ∷ []) ≡ take k ns
front ns node k within = take-append-le k ns (node ∷ []) within

whole : (ns : List ℕ) (node k : ℕ) → length ns + 1 ≤ k → take k (ns ++ node ∷ []) ≡ ns ++ node ∷ []
whole ns node k past = take_all k (ns ++ node ∷ []) (omega (arith, length_push ns node))

last : (ns : List ℕ) (node k : ℕ) → k ≡ length ns → get_or (ns ++ node ∷ []) k 0 ≡ node
last ns node k same = ap (λ (i : ℕ). get_or (ns ++ node ∷ []) i 0) same ∙ get_or-append_seam ns node [] 0

pub is_enabled : (net : NetValue) (script : List OfferValue) (st : RunState) (ns : List ℕ) (n number : ℕ) → IsEnabledSince net script st ns n number →
    move_enabled net script (after net st ns) n ≡ true
is_enabled net script st ns n number is =
    ap (λ (xs : List ℕ). move_enabled net script (after net st xs) n) (sym (take_all (length ns) ns (omega arith)))
    ∙ is.stays (length ns) is.within (omega arith)

pub from_start : (net : NetValue) (script : List OfferValue) (st : RunState) (n : ℕ) → move_enabled net script st n ≡ true →
    IsEnabledSince net script st [] n 0
from_start net script st n enabled = record {
  within = omega arith;
  stays = λ k from to. ap (λ (xs : List ℕ). move_enabled net script (after net st xs) n) (take_all k [] (omega arith)) ∙ enabled;
  others = λ k from less. absurd (omega arith);
  begins = λ k at. absurd (omega arith);
}

-- another node moved
pub still : (net : NetValue) (script : List OfferValue) (st : RunState) (ns : List ℕ) (node n number : ℕ) → IsEnabledSince net script st ns n number →
    (n ≡ node → ⊥) → move_enabled net script (after net st (ns ++ node ∷ [])) n ≡ true → IsEnabledSince net script st (ns ++ node ∷ []) n number
still net script st ns node n number is apart enabled = record {
  within = omega (arith, is.within, length_push ns node);
  stays = λ k from to. stays_at k from to (cases_lt k (length ns + 1));
  others = λ k from less. others_at k from less (cases_lt k (length ns));
  begins = λ k at. begins_at k at (is.begins k at);
}
  where
    stays_at : (k : ℕ) → number ≤ k → k ≤ length (ns ++ node ∷ []) → (k < length ns + 1) ⊎ (length ns + 1 ≤ k) →
        enabled_behind net script st (ns ++ node ∷ []) k n ≡ true
    stays_at k from to (inl below) =
        ap (λ (xs : List ℕ). move_enabled net script (after net st xs) n) (front ns node k (omega arith)) ∙ is.stays k from (omega arith)
    stays_at k from to (inr past) = ap (λ (xs : List ℕ). move_enabled net script (after net st xs) n) (whole ns node k past) ∙ enabled

    others_at : (k : ℕ) → number ≤ k → k < length (ns ++ node ∷ []) → (k < length ns) ⊎ (length ns ≤ k) → get_or (ns ++ node ∷ []) k 0 ≢ n
    others_at k from less (inl below) e = is.others k from below (sym (get_or_append_left ns (node ∷ []) 0 k below) ∙ e)
    others_at k from less (inr past) e = apart (sym e ∙ last ns node k (omega (arith, length_push ns node)))

    begins_at : (k : ℕ) → k + 1 ≡ number → (get_or ns k 0 ≡ n) ⊎ (enabled_behind net script st ns k n ≡ false) →
        (get_or (ns ++ node ∷ []) k 0 ≡ n) ⊎ (enabled_behind net script st (ns ++ node ∷ []) k n ≡ false)
    begins_at k at (inl own) = inl (get_or_append_left ns (node ∷ []) 0 k (omega (arith, is.within)) ∙ own)
    begins_at k at (inr off) =
        inr (ap (λ (xs : List ℕ). move_enabled net script (after net st xs) n) (front ns node k (omega (arith, is.within))) ∙ off)

-- the node moved, or its move wasn't enabled
pub anew : (net : NetValue) (script : List OfferValue) (st : RunState) (ns : List ℕ) (node n : ℕ) →
    (node ≡ n) ⊎ (move_enabled net script (after net st ns) n ≡ false) → move_enabled net script (after net st (ns ++ node ∷ [])) n ≡ true →
    IsEnabledSince net script st (ns ++ node ∷ []) n (length ns + 1)
anew net script st ns node n cause enabled = record {
  within = omega (arith, length_push ns node);
  stays = λ k from to. ap (λ (xs : List ℕ). move_enabled net script (after net st xs) n) (whole ns node k from) ∙ enabled;
  others = λ k from less. absurd (omega (arith, length_push ns node));
  begins = λ k at. begins_at k at cause;
}
  where
    begins_at : (k : ℕ) → k + 1 ≡ length ns + 1 → (node ≡ n) ⊎ (move_enabled net script (after net st ns) n ≡ false) →
        (get_or (ns ++ node ∷ []) k 0 ≡ n) ⊎ (enabled_behind net script st (ns ++ node ∷ []) k n ≡ false)
    begins_at k at (inl own) = inl (last ns node k (omega arith) ∙ own)
    begins_at k at (inr off) =
        inr (ap (λ (xs : List ℕ). move_enabled net script (after net st xs) n) (front ns node k (omega arith) ∙ take_all k ns (omega arith)) ∙ off)

not_later : (net : NetValue) (script : List OfferValue) (st : RunState) (ns : List ℕ) (n a b : ℕ) → IsEnabledSince net script st ns n a →
    IsEnabledSince net script st ns n b → a < b → ⊥
not_later net script st ns n a zero one two less = omega arith
not_later net script st ns n a (suc k) one two less = by_begin (two.begins k (omega arith))
  where
    by_begin : (get_or ns k 0 ≡ n) ⊎ (enabled_behind net script st ns k n ≡ false) → ⊥
    by_begin (inl own) = one.others k (omega arith) (omega (arith, two.within)) own
    by_begin (inr off) = both_ways _ off (one.stays k (omega arith) (omega (arith, two.within)))

-- a node's move is enabled since one move
pub one_cause : (net : NetValue) (script : List OfferValue) (st : RunState) (ns : List ℕ) (n a b : ℕ) → IsEnabledSince net script st ns n a →
    IsEnabledSince net script st ns n b → a ≡ b
one_cause net script st ns n a b one two = by_order (cases_order a b)
  where
    by_order : (a ≡ b) ⊎ ((a < b) ⊎ (b < a)) → a ≡ b
    by_order (inl same) = same
    by_order (inr (inl less)) = absurd (not_later net script st ns n a b one two less)
    by_order (inr (inr less)) = absurd (not_later net script st ns n b a two one less)

-- a move that is enabled has a cause

abbrev HasCause : NetValue → List OfferValue → RunState → List ℕ → ℕ → Type 0
HasCause net script st ns n = (number : ℕ) × IsEnabledSince net script st ns n number

abbrev OffOrCaused : NetValue → List OfferValue → RunState → List ℕ → ℕ → Type 0
OffOrCaused net script st ns n = (move_enabled net script (after net st ns) n ≡ false) ⊎ HasCause net script st ns n

behind_one : (net : NetValue) (script : List OfferValue) (st : RunState) (ns : List ℕ) (node n : ℕ) → OffOrCaused net script st ns n →
    OffOrCaused net script st (ns ++ node ∷ []) n
behind_one net script st ns node n was = by_now (move_enabled net script (after net st (ns ++ node ∷ [])) n) refl
  where
    by_own : (n ≡ node) ⊎ (n ≡ node → ⊥) → OffOrCaused net script st ns n → move_enabled net script (after net st (ns ++ node ∷ [])) n ≡ true →
        HasCause net script st (ns ++ node ∷ []) n
    by_own (inl same) was on = (length ns + 1, anew net script st ns node n (inl (sym same)) on)
    by_own (inr apart) (inl off) on = (length ns + 1, anew net script st ns node n (inr off) on)
    by_own (inr apart) (inr caused) on = (caused.0, still net script st ns node n caused.0 caused.1 apart on)

    by_now : (b : Bool) → move_enabled net script (after net st (ns ++ node ∷ [])) n ≡ b → OffOrCaused net script st (ns ++ node ∷ []) n
    by_now false off = inl off
    by_now true on = inr (by_own (cases_eq n node) was on)

behind_all : (net : NetValue) (script : List OfferValue) (st : RunState) (ns ms : List ℕ) (n : ℕ) → OffOrCaused net script st ns n →
    OffOrCaused net script st (ns ++ ms) n
behind_all net script st ns [] n was = subst (λ (xs : List ℕ). OffOrCaused net script st xs n) (sym (append-nil ns)) was
behind_all net script st ns (m ∷ ms) n was =
    subst (λ (xs : List ℕ). OffOrCaused net script st xs n) (append_assoc ns (m ∷ []) ms)
    (behind_all net script st (ns ++ m ∷ []) ms n (behind_one net script st ns m n was))

at_first : (net : NetValue) (script : List OfferValue) (st : RunState) (n : ℕ) → OffOrCaused net script st [] n
at_first net script st n = by_value (move_enabled net script st n) refl
  where
    by_value : (b : Bool) → move_enabled net script st n ≡ b → OffOrCaused net script st [] n
    by_value false off = inl off
    by_value true on = inr (0, from_start net script st n on)

pub some_cause : (net : NetValue) (script : List OfferValue) (st : RunState) (ns : List ℕ) (n : ℕ) → move_enabled net script (after net st ns) n ≡ true →
    (number : ℕ) × IsEnabledSince net script st ns n number
some_cause net script st ns n on = by_case (behind_all net script st [] ns n (at_first net script st n))
  where
    by_case : OffOrCaused net script st ns n → (number : ℕ) × IsEnabledSince net script st ns n number
    by_case (inl off) = absurd (both_ways _ off on)
    by_case (inr caused) = caused
