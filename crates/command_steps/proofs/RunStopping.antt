-- Steps of commands that make runs, by themselves and within these.
use Rattle.std.proofs.Common.{ℕ, List, [], ◌∷◌, zero, suc, arith}
use Rattle.std.specs.Prelude.{Contains}
use Rattle.chp_base.specs.declared.channel.Channel.{Channel}
use Rattle.env_script.specs.Scripts.{OfferValue}
use Rattle.command_answers.specs.Answers.{Given, Answer}
use Rattle.command_steps.specs.RunSteps.{FromScript, no_script, a_script}
use Rattle.command_steps.specs.Steps.{FromFile, no_file, long_file, a_file, Never}

-- ---- a file goes on as what is made of its text does

pub file_as : {given : Given} {name : List ℕ} {most : ℕ} {One Next : List ℕ → Answer → Type 0} {a : Answer} →
    ((text : List ℕ) → One text a → Next text a) → FromFile given name most One a → FromFile given name most Next a
file_as goes (no_file lacks) = no_file lacks
file_as goes (long_file long) = long_file long
file_as goes (a_file {text = text} gives short is) = a_file gives short (goes text is)

pub script_goes : {channels : List Channel} {text : List ℕ} {Next : List OfferValue → Answer → Type 0} {a : Answer} → FromScript channels text Never a →
    FromScript channels text Next a
script_goes (no_script none) = no_script none
script_goes (a_script is never) = absurd never

pub first_file : (a b : List ℕ) (rest : List (List ℕ)) (name : List ℕ) → Contains (a ∷ []) name → Contains (a ∷ b ∷ rest) name
first_file a b rest name (zero, within, is) = (0, omega arith, is)
first_file a b rest name (suc k, within, is) = absurd (omega arith)

pub second_file : (a b : List ℕ) (rest : List (List ℕ)) (name : List ℕ) → Contains (b ∷ []) name → Contains (a ∷ b ∷ rest) name
second_file a b rest name (zero, within, is) = (1, omega arith, is)
second_file a b rest name (suc k, within, is) = absurd (omega arith)
