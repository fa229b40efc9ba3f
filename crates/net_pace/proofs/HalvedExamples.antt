-- Two rounds in halves for one, computed: with x = 255 at 8 bits the program x := x + 1; R!x sends in its second round, in halves in
-- the third one.
use Rattle.std.proofs.Common.{◌≡◌, ℕ, List, [], ◌∷◌, ◌++◌, refl}
use Rattle.chp_base.specs.declared.span.Span.{Span}
use Rattle.chp_base.specs.declared.channel.Kind.TheVariants.{Out}
use Rattle.chp_syntax.specs.declared.tree.Op.TheVariants as op
use Rattle.env_script.specs.declared.script.Count.TheVariants.{All}
use Rattle.env_script.specs.Scripts.{OfferValue, takes}
use Rattle.width_check.specs.Processes.{constant, reading, chained, no_operations, and_operation, assigning, sending, in_turn, no_members, and_member, TypedProgram}
use Rattle.chp_meaning.specs.Rounds.{rounds}
use Rattle.chp_meaning.specs.Laws.{IsBehind}
use Rattle.chp_meaning.specs.Halves.{halved_program}

abbrev here : Span
here = record { from = 0; to = 1 }

abbrev adds : TypedProgram
adds = record {
  channels = record { name = []; kind = Out; width = 8 } ∷ [];
  vars = record { name = []; width = 8; first = 255 } ∷ [];
  body =
      in_turn (and_member (assigning 0 here (chained (reading 0 7 0 here) (and_operation op.Add (constant 8 1) no_operations)))
      (and_member (sending 0 here (reading 0 7 0 here)) no_members));
}

abbrev takes_all : List OfferValue
takes_all = takes All ∷ []

after_two : (rounds adds takes_all 2).histories ≡ (0 ∷ []) ∷ []
after_two = refl

in_halves_after_two : (rounds (halved_program adds) takes_all 2).histories ≡ [] ∷ []
in_halves_after_two = refl

in_halves_after_four : (rounds (halved_program adds) takes_all 4).histories ≡ (0 ∷ []) ∷ []
in_halves_after_four = refl

-- so one round in halves for one isn't enough
pub one_for_one : ¬ IsBehind (rounds adds takes_all 2) (rounds (halved_program adds) takes_all 2)
one_for_one is = let r = is 0 in absurd (none r.0 r.1)
  where
    none : (rest : List ℕ) → [] ≡ (0 ∷ []) ++ rest → ⊥
    none rest e = cc e
