-- What a file holds that was read.
use Rattle.std.specs.Prelude.{ℕ, ◌≤◌, List, length}
use Rattle.chp_base.specs.declared.channel.Channel.{Channel}
use Rattle.env_script.specs.Scripts.{OfferValue}
use Rattle.prs_core.specs.Nets.{NetValue}
use Rattle.command_answers.specs.Answers.{Given, Gives}
use Rattle.command_steps.specs.RunSteps.{IsScriptOf, most_of_script}
use Rattle.command_steps.specs.Steps.{IsFileOf, most_of_net}

-- the rule file of this net, within its limit
pub record HoldsNet (given : Given) (file : List ℕ) (net : NetValue) : Type 0 where
  pub text : List ℕ
  pub gives : Gives given file text
  pub short : length text ≤ most_of_net
  pub is : IsFileOf text net

-- this script of these channels, within its limit
pub record HoldsScript (given : Given) (file : List ℕ) (channels : List Channel) (script : List OfferValue) : Type 0
  where
    pub text : List ℕ
    pub gives : Gives given file text
    pub short : length text ≤ most_of_script
    pub is : IsScriptOf channels text script
