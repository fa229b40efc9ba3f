-- What is printed of the circuit that is compiled.
use Rattle.std.proofs.Common.{◌≡◌, ◌∙◌, ℕ, ◌*◌, List, [], ◌++◌, sym, ap, subst, append-nil, arith}
use Rattle.chp_syntax.specs.Trees.{ProgramTree}
use Rattle.handshake_expand.specs.Layout.{capped}
use Rattle.width_check.specs.Calls.{IsCallFree}
use Rattle.width_check.specs.Processes.{TypedProgram}
use Rattle.round_time.specs.Longest.{longest}
use Rattle.round_time.specs.Ways.{Loop, longest_way}
use Rattle.command_answers.specs.declared.answer.Ending.TheVariants.{Done}
use Rattle.command_answers.specs.Answers.{writes}
use Rattle.pace_bound.specs.declared.ways.Way.{Way}
use Rattle.pace_bound.specs.Whereabouts.{way_of, IsWay}
use Rattle.pace_command.specs.Pacing.{IsCompiled, IsLongestIfCounted, as_it_is, shared}
use Rattle.pace_command.specs.WayTexts.{loops_text}

module _ {program : ProgramTree} {whole n : ℕ} where
  pub plainly_compiled : IsCallFree program → n ≡ capped whole → IsCompiled program whole n
  plainly_compiled free is = subst (λ k. IsCompiled program whole k) (sym is) (as_it_is free)

  pub shared_compiled : ¬ IsCallFree program → n ≡ capped (2 * whole) → IsCompiled program whole n
  shared_compiled calls is = subst (λ k. IsCompiled program whole k) (sym is) (shared calls)

-- where the longest way lies, as it is found
pub lies_there : (P : TypedProgram) (found : Way) → IsWay (longest_way P) found → found.length ≡ capped (longest P) → IsLongestIfCounted P (way_of found)
lies_there P found is long few = is.exact (omega (arith, long, few))

-- what is written behind the lines of a program
pub told_behind : (new old more told : List ℕ) → new ≡ old ++ more → writes Done old ≡ writes Done (told ++ []) → writes Done new ≡ writes Done (told ++ more)
told_behind new old more told is same = ap (λ text. writes Done text) (is ∙ ap (λ text. text ++ more) (texts_are same ∙ append-nil told))
  where
    texts_are : {text other : List ℕ} → writes Done text ≡ writes Done other → text ≡ other
    texts_are same = cc same

-- two lines for the longest way, and then the loops
pub ways_told : (new now old way : List ℕ) (noted found : List Loop) → new ≡ now ++ loops_text noted → noted ≡ found → now ≡ old ++ way
    → new ≡ old ++ way ++ loops_text found
ways_told new now old way noted found is same before =
    is ∙ (ap (λ l. now ++ loops_text l) same ∙ ap (λ l. l ++ loops_text found) before)
