-- A communication on the channel: the buffer begins a turn, takes the value, and gives it on.
use Rattle.std.proofs.Common.{◌≡◌, ◌≢◌, ℕ, zero, suc, ◌+◌, ◌-◌, ◌/◌, ◌%◌, ◌^◌, ◌<◌, List, [], ◌∷◌, ◌++◌, length, refl, sym, ap, ◌∙◌, subst, arith}
use Rattle.std.specs.Prelude.{slice_index, slice_set, Some}
use Rattle.std.proofs.Math.ListN.{get_or-append}
use Rattle.std.proofs.Math.Seq.{get_or-append_seam, set-append_seam}
use Rattle.std.proofs.lemmas.List.{set-append_left, length-set, get_or-set_same}
use Rattle.chp_base.specs.declared.span.Span.{Span}
use Rattle.chp_base.specs.declared.channel.Channel.{Channel}
use Rattle.env_script.specs.Scripts.{OfferValue, nothing, offer_at}
use Rattle.env_script.specs.Runs.{history_at}
use Rattle.width_check.specs.declared.typed.Var.{Var}
use Rattle.width_check.specs.Processes.{Formula, reading, Process, sending, receiving, in_turn, no_members, and_member}
use Rattle.width_check.specs.Typing.{channel_width, IsOfWidth, IsSend, IsReceive, IsProcess}
use Rattle.chp_meaning.specs.Terms.{Term, finished, active, in_sequence, Place, here, in_first, in_branch, statement_at, with_left}
use Rattle.chp_meaning.specs.Steps.{Configuration, value_in, leaving, storing, passing, Step, a_repetition, a_communication, no_step, one_step}
use Rattle.chp_meaning.proofs.Places.{still}
use Rattle.slack_buffer.specs.Buffers.{nowhere, passing_on}
use Rattle.slack_buffer.proofs.Rerouting.{rerouted_term, at_same, with_same}
use Rattle.slack_buffer.proofs.Holding.{at_holds}
use Rattle.slack_buffer.proofs.Beside.{pair, pair_same, left_first, left_second, IsOn, buffer_on, beside, Ahead, value_more, whole_value, sent_small, sent_some, put_channel}

-- what is left of the buffer while it waits for a value, and while it has one
abbrev pub taking : (chan width copy slot : ℕ) → Process
taking chan width copy slot = receiving chan nowhere slot nowhere

abbrev pub giving : (chan width copy slot : ℕ) → Process
giving chan width copy slot = sending copy nowhere (reading slot (width - 1) 0 nowhere)

abbrev pub empty : (chan width copy slot : ℕ) → Term
empty chan width copy slot = in_sequence (in_sequence (active (taking chan width copy slot)) (and_member (giving chan width copy slot) no_members))
    (and_member (passing_on chan width copy slot) no_members)

abbrev pub full : (chan width copy slot : ℕ) → Term
full chan width copy slot = in_sequence (active (giving chan width copy slot)) (and_member (passing_on chan width copy slot) no_members)

pub through : (cs : List Channel) (vs : List Var) (x v : ℕ) (c : Configuration) → IsOn cs vs x c → x < length cs →
    (at other : Place) (y : ℕ) (s t u : Span) (e : Formula) →
    statement_at c.term at ≡ Some (sending x s e) → statement_at c.term other ≡ Some (receiving x t y u) →
    Ahead cs vs x v c (passing (storing (leaving (leaving c at finished) other finished) y (value_in c e)) x (value_in c e))
through cs vs x v c is within at other y s t u e on there = record {
  last = val;
  steps = 3;
  few = omega arith;
  leads = one_step begins (one_step takes_it (one_step gives_it no_step));
}
  where
    n : ℕ
    n = length cs

    w : ℕ
    w = channel_width cs x

    b : ℕ
    b = length vs

    val : ℕ
    val = value_in c e

    history : List ℕ
    history = history_at c.histories x

    sends : IsSend cs vs x e
    sends = at_holds (IsProcess cs vs) (IsOfWidth vs 1) c.term at (sending x s e) is.made on

    receives : IsReceive cs vs x y
    receives = at_holds (IsProcess cs vs) (IsOfWidth vs 1) c.term other (receiving x t y u) is.made there

    apart : at ≢ other
    apart same = absurd (cc (on, ap (λ z. statement_at c.term z) same, there))

    first_left : Term
    first_left = with_left c.term at finished

    both_left : Term
    both_left = with_left first_left other finished

    rests : List OfferValue
    rests = c.rests ++ nothing ∷ []

    -- the configurations on the way
    begun : Configuration
    begun = pair (rerouted_term x n c.term) (empty x w n b) (c.store ++ v ∷ []) rests (c.histories ++ history ∷ [])

    taken : Configuration
    taken = pair (rerouted_term x n first_left) (full x w n b) (c.store ++ val ∷ []) rests (slice_set c.histories x (history ++ val ∷ []) ++ history ∷ [])

    given : Configuration
    given = beside cs vs x val (passing (storing (leaving (leaving c at finished) other finished) y val) x val)

    -- the first step
    begins : Step (beside cs vs x v c) (in_branch (suc zero) here) begun
    begins = subst (λ z. Step (beside cs vs x v c) (in_branch (suc zero) here) z)
        (left_second (rerouted_term x n c.term) (active (buffer_on cs vs x)) (empty x w n b) (c.store ++ v ∷ []) rests (c.histories ++ history ∷ []) here refl)
        (a_repetition {c = beside cs vs x v c} {at = in_branch (suc zero) here}
        {p = in_turn (and_member (taking x w n b) (and_member (giving x w n b) no_members))} refl)

    -- the second one
    same_value : value_in begun e ≡ val
    same_value = value_more vs c.store v e is.store sends.sent.reads

    slot_at_end : b ≡ length c.store
    slot_at_end = sym is.store

    stores_it : slice_set (c.store ++ v ∷ []) b val ≡ c.store ++ val ∷ []
    stores_it = ap (λ z. slice_set (c.store ++ v ∷ []) z val) slot_at_end ∙ set-append_seam c.store v [] val

    among : x < length c.histories
    among = let a = is.histories in omega arith

    passes_it : slice_set (c.histories ++ history ∷ []) x (history_at (c.histories ++ history ∷ []) x ++ val ∷ [])
        ≡ slice_set c.histories x (history ++ val ∷ []) ++ history ∷ []
    passes_it =
        ap (λ z. slice_set (c.histories ++ history ∷ []) x (z ++ val ∷ [])) (get_or-append c.histories (history ∷ []) [] x among)
        ∙ set-append_left c.histories (history ∷ []) x (history ++ val ∷ []) among

    offered : offer_at rests x ≡ nothing
    offered = let below : x < length c.rests = let a = is.rests in omega arith in get_or-append c.rests (nothing ∷ []) nothing x below ∙ is.inner

    takes_it : Step begun (in_branch zero at) taken
    takes_it = subst (λ z. Step begun (in_branch zero at) z)
        (ap (λ z. passing (storing (leaving z (in_branch (suc zero) (in_first (in_first here))) finished) b (value_in begun e)) x (value_in begun e))
        (left_first (rerouted_term x n c.term) (empty x w n b) finished (c.store ++ v ∷ []) rests (c.histories ++ history ∷ []) at refl)
        ∙ (ap (λ z. passing (storing z b (value_in begun e)) x (value_in begun e))
        (left_second (with_left (rerouted_term x n c.term) at finished) (empty x w n b) finished (c.store ++ v ∷ []) rests (c.histories ++ history ∷ [])
        (in_first (in_first here)) refl)
        ∙ (ap (λ z. pair (with_left (rerouted_term x n c.term) at finished) (full x w n b) (slice_set (c.store ++ v ∷ []) b z) rests
        (slice_set (c.histories ++ history ∷ []) x (history_at (c.histories ++ history ∷ []) x ++ z ∷ []))) same_value
        ∙ pair_same (with_left (rerouted_term x n c.term) at finished) (rerouted_term x n first_left) (full x w n b) (full x w n b)
        (slice_set (c.store ++ v ∷ []) b val) (c.store ++ val ∷ []) rests rests
        (slice_set (c.histories ++ history ∷ []) x (history_at (c.histories ++ history ∷ []) x ++ val ∷ []))
        (slice_set c.histories x (history ++ val ∷ []) ++ history ∷ []) (with_same x n c.term at finished) refl stores_it refl passes_it)))
        (a_communication {c = begun} {at = in_branch zero at} (in_branch (suc zero) (in_first (in_first here))) {k = x} {x = b} {s = s} {t = nowhere} {u =
        nowhere} {e = e}
        (at_same x n c.term at (sending x s e) on) refl offered)

    -- the third one
    whole : Formula
    whole = reading b (w - 1) 0 nowhere

    its_value : value_in taken whole ≡ val
    its_value =
        ap (λ z. slice_index (c.store ++ val ∷ []) z / 2 ^ 0 % 2 ^ (w - 1 + 1 - 0)) slot_at_end
        ∙ (ap (λ z. z / 2 ^ 0 % 2 ^ (w - 1 + 1 - 0)) (get_or-append_seam c.store val [] 0)
        ∙ whole_value val w (sent_some cs vs x e sends) (sent_small cs vs x e (slice_index c.store) sends))

    stays : statement_at first_left other ≡ Some (receiving x t y u)
    stays = still c.term at other finished (receiving x t y u) apart there

    passed : List (List ℕ)
    passed = slice_set c.histories x (history ++ val ∷ [])

    copy_at_end : n ≡ length passed
    copy_at_end = sym is.histories ∙ sym (length-set c.histories x (history ++ val ∷ []))

    stores_again : slice_set (c.store ++ val ∷ []) y val ≡ slice_set c.store y val ++ val ∷ []
    stores_again = let below : y < length c.store = let a = receives.target in let l = is.store in omega arith in set-append_left c.store (val ∷ []) y val below

    passes_again : slice_set (passed ++ history ∷ []) n (history_at (passed ++ history ∷ []) n ++ val ∷ []) ≡ passed ++ history_at passed x ∷ []
    passes_again =
        ap (λ z. slice_set (passed ++ history ∷ []) z (history_at (passed ++ history ∷ []) z ++ val ∷ [])) copy_at_end
        ∙ (ap (λ z. slice_set (passed ++ history ∷ []) (length passed) (z ++ val ∷ [])) (get_or-append_seam passed history [] [])
        ∙ (set-append_seam passed history [] (history ++ val ∷ [])
        ∙ ap (λ z. passed ++ z ∷ []) (sym (get_or-set_same c.histories x (history ++ val ∷ []) [] among))))

    offered_too : offer_at rests n ≡ nothing
    offered_too = ap (λ z. offer_at rests z) (sym is.rests) ∙ get_or-append_seam c.rests nothing [] nothing

    gives_it : Step taken (in_branch (suc zero) (in_first here)) given
    gives_it = subst (λ z. Step taken (in_branch (suc zero) (in_first here)) z)
        (ap (λ z. passing (storing (leaving z (in_branch zero other) finished) y (value_in taken whole)) n (value_in taken whole))
        (left_second (rerouted_term x n first_left) (full x w n b) finished (c.store ++ val ∷ []) rests (passed ++ history ∷ []) (in_first here) refl)
        ∙ (ap (λ z. passing (storing z y (value_in taken whole)) n (value_in taken whole))
        (left_first (rerouted_term x n first_left) (active (buffer_on cs vs x)) finished (c.store ++ val ∷ []) rests (passed ++ history ∷ []) other refl)
        ∙ (ap (λ z. pair (with_left (rerouted_term x n first_left) other finished) (active (buffer_on cs vs x)) (slice_set (c.store ++ val ∷ []) y z) rests
        (slice_set (passed ++ history ∷ []) n (history_at (passed ++ history ∷ []) n ++ z ∷ []))) its_value
        ∙ pair_same (with_left (rerouted_term x n first_left) other finished) (rerouted_term x n both_left) (active (buffer_on cs vs x))
        (active (buffer_on cs vs x))
        (slice_set (c.store ++ val ∷ []) y val) (slice_set c.store y val ++ val ∷ []) rests rests
        (slice_set (passed ++ history ∷ []) n (history_at (passed ++ history ∷ []) n ++ val ∷ [])) (passed ++ history_at passed x ∷ [])
        (with_same x n first_left other finished) refl stores_again refl passes_again)))
        (a_communication {c = taken} {at = in_branch (suc zero) (in_first here)} (in_branch zero other) {k = n} {x = y} {s = nowhere} {t = t} {u = u} {e =
        whole}
        refl (at_same x n first_left other (receiving x t y u) stays ∙ ap (λ z. Some (receiving z t y u)) (put_channel x n)) offered_too)
