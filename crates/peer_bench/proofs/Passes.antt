-- Passes by the script that is kept are passes by the notes.
use Rattle.std.proofs.Common.{◌≡◌, ℕ, List, [], ◌∷◌, ◌++◌, length, sym, ap, subst, ◌∙◌}
use Rattle.std.specs.List.{range_with_len}
use Rattle.std.proofs.lemmas.List.{append-nil, append_assoc}
use Rattle.prs_core.specs.Nets.{NetValue}
use Rattle.env_script.specs.Scripts.{OfferValue}
use Rattle.env_script.specs.Runs.{RunState}
use Rattle.peer_bench.specs.declared.note.Note.{Note}
use Rattle.peer_bench.specs.Asking.{PeerValue, HasNoted, asked_on, IsPassOver, ArePasses, no_pass, and_pass, IsAsked}
use Rattle.peer_bench.specs.Steps.{script_noting, asked_under, IsPassBy, ArePassesBy, no_pass_by, and_pass_by, IsAskedBy}
use Rattle.peer_bench.proofs.Liking.{StandsFor}
use Rattle.peer_bench.proofs.Noting.{asked_same, answer_stands}

pub record PassesOn {P : Type 0} (known : P → PeerValue) (net : NetValue) (st : RunState) (at : ℕ) (channels : List ℕ) (notes more : List Note)
    (behind : List OfferValue) (was is : P) : Type 0 where
  pub pass : IsPassOver known net st at channels notes more was is
  pub stands : StandsFor net st (notes ++ more) behind

pub pass_on : {P : Type 0} (known : P → PeerValue) (net : NetValue) (st : RunState) (at : ℕ) (cs : List ℕ) (notes : List Note)
    (script behind : List OfferValue) (more : List Note) (was is : P) → StandsFor net st notes script →
    IsPassBy known net st at cs script behind more was is → PassesOn known net st at cs notes more behind was is
pass_on known net st at [] notes script behind more was is stands by = record {
  pass = (by.0, by.2);
  stands = subst (λ (xs : List Note). StandsFor net st xs behind) (sym (ap (λ (xs : List Note). notes ++ xs) by.0 ∙ append-nil notes))
      (subst (λ (s : List OfferValue). StandsFor net st notes s) (sym by.1) stands);
}
pass_on {P} known net st at (c ∷ cs) notes script behind more was is stands by =
    let next = pass_on known net st at cs (notes ++ given) (script_noting given script) behind by.1.0 by.0 is
    (answer_stands net st notes script (known was) at c stands) by.1.3 in
    record {
      pass = (
        by.0,
        (
          by.1.0,
          by.1.1 ∙ ap (λ (xs : List Note). xs ++ by.1.0) same,
          subst (λ (xs : List Note). HasNoted xs (known was) (known by.0)) same by.1.2,
          subst (λ (xs : List Note). IsPassOver known net st at cs (notes ++ xs) by.1.0 by.0 is) same next.pass,
        ),
      );
      stands = subst (λ (xs : List Note). StandsFor net st xs behind)
          (append_assoc notes given by.1.0 ∙ ap (λ (xs : List Note). notes ++ xs) (sym by.1.1)) next.stands;
    }
  where
    given : List Note
    given = asked_under net script st (known was) at c

    same : asked_under net script st (known was) at c ≡ asked_on net notes st (known was) at c
    same = asked_same net st notes script (known was) at c stands

pub record PassedOn {P : Type 0} (known : P → PeerValue) (net : NetValue) (st : RunState) (at : ℕ) (notes more : List Note)
    (behind : List OfferValue) (was is : P) : Type 0 where
  pub passes : ArePasses known net st at notes was more is
  pub stands : StandsFor net st (notes ++ more) behind

passes_on : {P : Type 0} (known : P → PeerValue) (net : NetValue) (st : RunState) (at : ℕ) (notes : List Note) (script : List OfferValue) (was : P)
    {behind : List OfferValue} {more : List Note} {is : P} → StandsFor net st notes script → ArePassesBy known net st at script was behind more is →
    PassedOn known net st at notes more behind was is
passes_on known net st at notes script was stands no_pass_by = record {
  passes = no_pass;
  stands = subst (λ (xs : List Note). StandsFor net st xs script) (sym (append-nil notes)) stands;
}
passes_on known net st at notes script was stands (and_pass_by mid behind more last between is before pass) =
    let first = passes_on known net st at notes script was stands before in
    let next = pass_on known net st at (range_with_len 0 (length net.channels)) (notes ++ more) mid behind last between is first.stands pass in
    record {
      passes = and_pass more last between is first.passes next.pass;
      stands = subst (λ (xs : List Note). StandsFor net st xs behind) (append_assoc notes more last) next.stands;
    }

pub record AskedOn {P : Type 0} (known : P → PeerValue) (net : NetValue) (st : RunState) (at : ℕ) (notes more : List Note)
    (behind : List OfferValue) (was is : P) : Type 0 where
  pub asked : IsAsked known net st at notes more was is
  pub stands : StandsFor net st (notes ++ more) behind

pub asked_on_notes : {P : Type 0} (known : P → PeerValue) (net : NetValue) (st : RunState) (at : ℕ) (notes : List Note) (script behind : List OfferValue)
    (more : List Note) (was is : P) → StandsFor net st notes script → IsAskedBy known net st at script behind more was is →
    AskedOn known net st at notes more behind was is
asked_on_notes known net st at notes script behind more was is stands by =
    let first = passes_on known net st at notes script was stands by.passes in
    let last = pass_on known net st at (range_with_len 0 (length net.channels)) (notes ++ more) behind behind [] by.mid is first.stands by.last in
    record { asked = record { mid = by.mid; passes = first.passes; last = last.pass }; stands = first.stands }
