-- Which statuses are those of whole outputs and of refusals.
use Rattle.std.proofs.Common.{◌≡◌, ◌≢◌, true, false, refl, ap}
use Rattle.command_answers.specs.declared.answer.Ending.{Ending}
use Rattle.command_answers.specs.declared.answer.Ending.TheVariants as ending
use Rattle.command_answers.specs.declared.answer.Refusal.{Refusal}
use Rattle.command_answers.specs.declared.answer.Refusal.TheVariants as refusal
use Rattle.command_answers.specs.declared.status.Status.{Status}
use Rattle.command_answers.specs.declared.status.Status.TheVariants.{Usage, Read, Write}
use Rattle.command_answers.specs.Answers.{status_with}
use Rattle.command_answers.specs.Replies.{refusal_status}
use Rattle.command_answers.specs.Statuses.{is_whole, is_refusing}

pub whole_status : (end : Ending) → is_whole (status_with end) ≡ true
whole_status ending.Done = refl
whole_status ending.Hazard = refl
whole_status ending.Differs = refl

pub refusing_status : (r : Refusal) → is_refusing (refusal_status r) ≡ true
refusing_status (refusal.Text fault) = refl
refusing_status (refusal.TooLong name limit) = refl
refusing_status (refusal.TooManyNodes count) = refl
refusing_status (refusal.TooManyForms count) = refl
refusing_status refusal.TooManyValues = refl
refusing_status (refusal.BadFile number cause line) = refl
refusing_status refusal.NoReset = refl
refusing_status (refusal.NoOrder name) = refl
refusing_status (refusal.NoChannel name) = refl
refusing_status (refusal.NoPeer name) = refl

-- the statuses of whole outputs and of refusals are none of the call's own
pub own_status : (end : Ending) → (status_with end ≢ Usage) × (status_with end ≢ Read) × (status_with end ≢ Write)
own_status ending.Done = (λ e. cc, λ e. cc, λ e. cc)
own_status ending.Hazard = (λ e. cc, λ e. cc, λ e. cc)
own_status ending.Differs = (λ e. cc, λ e. cc, λ e. cc)

pub no_refusal : (s other : Status) → is_refusing s ≡ true → is_refusing other ≡ false → s ≢ other
no_refusal s other is not same = cc (ap is_refusing same, is, not)
