-- Steps of commands that make runs: what they need besides a net.
use Rattle.std.specs.Prelude.{◌≡◌, ℕ, ◌&&◌, Bool, true, false, not, List, Option, Some, None, is_some}
use Rattle.chp_base.specs.declared.channel.Channel.{Channel}
use Rattle.env_script.specs.declared.fault.ScriptFault.{ScriptFault}
use Rattle.env_script.specs.Scripts.{OfferValue, IsScript}
use Rattle.env_script.specs.ScriptText.{IsScriptText, IsOnlyScript, IsNoScript, IsScriptRefused, IsOnlyRefusal}
use Rattle.prs_core.specs.Nets.{NetValue}
use Rattle.command_answers.specs.declared.status.Status.TheVariants.{BadFile, NoOrder}
use Rattle.command_answers.specs.Answers.{Answer, refuses}
use Rattle.command_answers.specs.Lines.{bad_script_line, no_order_line, no_reset_line}
use Rattle.command_steps.specs.Orders.{Played, place_named}

-- ---- from a name to an order

-- it requires an order of this name
pub data FromOrder (played : Played) (name : List ℕ) (Next : ℕ → Answer → Type 0) : Answer → Type 0 where
  no_order : place_named played.before name ≡ None → FromOrder played name Next (refuses NoOrder (no_order_line name))
  an_order : {place : ℕ} {answer : Answer} → place_named played.before name ≡ Some place → Next place answer →
      FromOrder played name Next answer

-- ---- from a net to one that can have this power

-- a power is given, and there is no reset node
abbrev pub lacks_reset : (power : Option Bool) → (reset : Option ℕ) → Bool
lacks_reset power reset = is_some power && not (is_some reset)

-- where a power is given it requires a net with a reset node
pub data FromPower (net : NetValue) (power : Option Bool) (Next : Answer → Type 0) : Answer → Type 0 where
  no_reset : lacks_reset power net.reset ≡ true → FromPower net power Next (refuses BadFile no_reset_line)
  has_power : {answer : Answer} → lacks_reset power net.reset ≡ false → Next answer → FromPower net power Next answer

-- ---- from a text to a script

-- the most bytes of a script
abbrev pub most_of_script : ℕ
most_of_script = 2097152

-- the text is this script of the channels, and no other one
pub record IsScriptOf (channels : List Channel) (text : List ℕ) (script : List OfferValue) : Type 0 where
  pub kept : IsScript channels script
  pub told : IsScriptText channels text script
  pub only : IsOnlyScript channels text script

-- the text is no script of the channels, for this cause at this line, and for no other
pub record IsNoScriptOf (channels : List Channel) (text : List ℕ) (fault : ScriptFault) (line : ℕ) : Type 0 where
  pub never : IsNoScript channels text
  pub cause : IsScriptRefused channels text fault line
  pub only : IsOnlyRefusal channels text fault line

-- it reads the text as a script of these channels
pub data FromScript (channels : List Channel) (text : List ℕ) (Next : List OfferValue → Answer → Type 0) : Answer →
    Type 0 where
  no_script : {fault : ScriptFault} {line : ℕ} → IsNoScriptOf channels text fault line →
      FromScript channels text Next (refuses BadFile (bad_script_line fault line))
  a_script : {script : List OfferValue} {answer : Answer} → IsScriptOf channels text script → Next script answer →
      FromScript channels text Next answer
