-- The first words of a seed, and a program with its values, written down by hand.
use Rattle.std.proofs.Common.{◌≡◌, [], ◌∷◌, refl, arith}
use Rattle.std.specs.Prelude.{codes}
use Rattle.std.proofs.lemmas.Fmt.{decimal_digit}
use Rattle.rand_pcg.specs.Lcg.{state_after}
use Rattle.program_maker.specs.Drawn.{word_at, drawn_values}
use Rattle.program_maker.specs.Generated.{generated_text}

first_word : word_at 42 0 ≡ 0xa15c02b7
unfolding state_after
first_word = refl

sixth_word : word_at 42 5 ≡ 0xcbed606e
unfolding state_after
sixth_word = refl

values_behind_two : drawn_values 42 2 ≡ 48 ∷ 147 ∷ 75 ∷ 110 ∷ []
unfolding state_after
values_behind_two = refl

two_stages : generated_text 42 2
    ≡ codes "in c0 : 8;\nchan c1 : 8;\nout c2 : 8;\nvar v1 : 8;\nvar v2 : 8;\nbegin\n*[c0?v1; c1!~v1]\n|| *[c1?v2; c2!v2 ^ 2]\nend\n"
unfolding state_after
two_stages = rw (decimal_digit 0 (omega arith)) (rw (decimal_digit 1 (omega arith)) (rw (decimal_digit 2 (omega arith)) refl))
