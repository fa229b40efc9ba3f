-- Where a whole pass brings nothing, nothing is due.
use Rattle.std.proofs.Common.{◌≡◌, ℕ, zero, suc, ◌+◌, ◌<◌, Bool, true, false, List, [], ◌∷◌, ◌++◌, length, refl, sym, ap, subst, ◌∙◌, arith}
use Rattle.std.specs.Prelude.{if◌then◌else◌, slice_get, Option, Some, None}
use Rattle.std.specs.List.{range_with_len}
use Rattle.std.proofs.lemmas.List.{append-nil}
use Rattle.std.proofs.lemmas.Option.{slice_get_within}
use Rattle.chp_base.specs.declared.channel.Kind.{Kind}
use Rattle.chp_base.specs.declared.channel.Kind.TheVariants.{In, Out, Chan}
use Rattle.prs_core.specs.declared.wires.Wires.{Wires}
use Rattle.prs_core.specs.Nets.{NetValue}
use Rattle.env_script.specs.Runs.{RunState}
use Rattle.peer_bench.specs.declared.note.Note.{Note}
use Rattle.peer_bench.specs.Asking.{PeerValue, offer_note, ready_note, answer, answer_on, asked_on, IsPassOver, IsAsked}
use Rattle.peer_bench.specs.Along.{IsSilent, NothingComes}

front_nil : (xs ys : List Note) → [] ≡ xs ++ ys → xs ≡ []
front_nil [] ys e = refl
front_nil (x ∷ xs) ys e = absurd (cc e)

-- on each channel of a pass
pass_quiet : {P : Type 0} (known : P → PeerValue) (net : NetValue) (st : RunState) (at : ℕ) (k n : ℕ) (notes : List Note) (was is : P) →
    IsPassOver known net st at (range_with_len k n) notes [] was is →
    (known is ≡ known was) × ((i : ℕ) → i < n → asked_on net notes st (known was) at (k + i) ≡ [])
pass_quiet known net st at k zero notes was is pass = (ap known pass.1, λ i less. absurd (omega arith))
pass_quiet {P} known net st at k (suc n) notes was is pass =
    let next = pass_quiet known net st at (k + 1) n notes mid is behind in
    (next.0 ∙ same, λ i less. each next.1 i less)
  where
    mid : P
    mid = pass.0

    rest : List Note
    rest = pass.1.0

    none : asked_on net notes st (known was) at k ≡ []
    none = front_nil (asked_on net notes st (known was) at k) rest pass.1.1

    same : known mid ≡ known was
    same = pass.1.2.same none

    rest_none : rest ≡ []
    rest_none = sym (pass.1.1 ∙ ap (λ (xs : List Note). xs ++ rest) none)

    behind : IsPassOver known net st at (range_with_len (k + 1) n) notes [] mid is
    behind =
        subst (λ (xs : List Note). IsPassOver known net st at (range_with_len (k + 1) n) xs [] mid is)
        (ap (λ (xs : List Note). notes ++ xs) none ∙ append-nil notes)
        (subst (λ (xs : List Note). IsPassOver known net st at (range_with_len (k + 1) n)
        (notes ++ asked_on net notes st (known was) at k) xs mid is) rest_none pass.1.3)

    each : ((i : ℕ) → i < n → asked_on net notes st (known mid) at (k + 1 + i) ≡ []) → (i : ℕ) → i < suc n →
        asked_on net notes st (known was) at (k + i) ≡ []
    each later zero less = let here : k + 0 ≡ k = omega arith in ap (asked_on net notes st (known was) at) here ∙ none
    each later (suc i) less =
        let there : k + suc i ≡ k + 1 + i = omega arith in
        ap (asked_on net notes st (known was) at) there
        ∙ ap (λ (p : PeerValue). asked_on net notes st p at (k + 1 + i)) (sym same) ∙ later i (omega arith)

silent_offer : (at chan : ℕ) (o : Option ℕ) → offer_note at chan o ≡ [] → o ≡ None
silent_offer at chan None e = refl
silent_offer at chan (Some value) e = absurd (cc e)

silent_ready : (at chan : ℕ) (b : Bool) → ready_note at chan b ≡ [] → b ≡ false
silent_ready at chan false e = refl
silent_ready at chan true e = absurd (cc e)

silent : (p : PeerValue) (kind : Kind) (width at chan : ℕ) → answer p kind width at chan ≡ [] → IsSilent p kind width chan
silent p In width at chan none = silent_offer at chan (p.due chan width) none
silent p Out width at chan none = silent_ready at chan (p.willing chan) none
silent p Chan width at chan none = tt

-- behind an asking
pub asked_quiet : {P : Type 0} (known : P → PeerValue) (net : NetValue) (st : RunState) (at : ℕ) (notes more : List Note) (was is : P) →
    IsAsked known net st at notes more was is → NothingComes net (notes ++ more) st (known is)
asked_quiet known net st at notes more was is asked = λ chan w here idle.
    let quiet = pass_quiet known net st at 0 (length net.channels) (notes ++ more) asked.mid is asked.last in
    let within : chan < length net.channels = slice_get_within net.channels chan w here in
    let start : 0 + chan ≡ chan = omega arith in
    let none : asked_on net (notes ++ more) st (known asked.mid) at chan ≡ [] = rw start at (quiet.1 chan within) in
    subst (λ (p : PeerValue). IsSilent p w.channel.kind w.channel.width chan) (sym quiet.0)
    (silent (known asked.mid) w.channel.kind w.channel.width at chan
    (sym (ap (λ (b : Bool). if b then answer_on (known asked.mid) (slice_get net.channels chan) at chan else []) idle
    ∙ ap (λ (o : Option Wires). answer_on (known asked.mid) o at chan) here) ∙ none))
