-- What a file holds that can be read.
use Rattle.std.specs.Prelude.{◌≡◌, ℕ, ◌≤◌, List, length, Option, Some, None}
use Rattle.chp_base.specs.declared.channel.Channel.{Channel}
use Rattle.chp_syntax.specs.Reading.{Reads}
use Rattle.chp_syntax.specs.Trees.{ProgramTree}
use Rattle.delay_script.specs.DelayTables.{DelayTable, unit_delays}
use Rattle.delay_script.specs.DelayText.{IsDelayText}
use Rattle.env_script.specs.Scripts.{OfferValue}
use Rattle.env_script.specs.ScriptText.{IsScriptText}
use Rattle.prs_core.specs.Nets.{NetValue, IsNet}
use Rattle.prs_file.specs.Spelling.{NetText}
use Rattle.width_check.specs.Accepted.{IsAccepted}
use Rattle.command_answers.specs.Answers.{Given}
use Rattle.command_steps.specs.DelaySteps.{most_of_delays}
use Rattle.command_steps.specs.Inlined.{Means}
use Rattle.command_steps.specs.RunSteps.{most_of_script}
use Rattle.command_steps.specs.Steps.{most_of_net, most_of_text}

-- this text, which has at most so many bytes
pub record HoldsText (given : Given) (name : List ℕ) (most : ℕ) (text : List ℕ) : Type 0 where
  pub held : given.files name ≡ Some text
  pub short : length text ≤ most

-- the text of this program; and the plain program that it means, which has neither procedures nor calls, is accepted
pub record IsSource (given : Given) (file : List ℕ) (program plain : ProgramTree) : Type 0 where
  pub text : List ℕ
  pub held : HoldsText given file most_of_text text
  pub reads : Reads text program
  pub means : Means program plain
  pub accepted : IsAccepted plain

-- the rule file of this net
pub record IsRuleFile (given : Given) (file : List ℕ) (net : NetValue) : Type 0 where
  pub text : List ℕ
  pub held : HoldsText given file most_of_net text
  pub kept : IsNet net
  pub spelled : NetText text net

-- this script of these channels
pub record IsScriptFile (given : Given) (file : List ℕ) (channels : List Channel) (script : List OfferValue) : Type 0
  where
    pub text : List ℕ
    pub held : HoldsText given file most_of_script text
    pub says : IsScriptText channels text script

-- these delays of the nodes of these names
pub record IsDelayFile (given : Given) (file : List ℕ) (names : List (List ℕ)) (delays : DelayTable) : Type 0 where
  pub text : List ℕ
  pub held : HoldsText given file most_of_delays text
  pub says : IsDelayText names text delays

-- the delays of the file that is named; where none is, each delay is 1
abbrev pub HasDelays : Given → (file : Option (List ℕ)) → (names : List (List ℕ)) → DelayTable → Type 0
HasDelays given None names delays = delays ≡ unit_delays (length names)
HasDelays given (Some file) names delays = IsDelayFile given file names delays
