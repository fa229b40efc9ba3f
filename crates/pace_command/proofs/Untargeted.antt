-- Where no assignment is found that reads its own target, none does.
use Rattle.std.proofs.Common.{◌≡◌, Bool, true, false, refl}
use Rattle.std.specs.Prelude.{◌||◌}
use Rattle.width_check.specs.Processes.{Process, skipping, assigning, sending, receiving, in_turn, side_by_side, choosing, repeating, Processes, no_members, and_member, Choices, no_choices, and_choice}
use Rattle.chp_meaning.specs.Halves.{ReadsNoTarget, EachReadsNoTarget, ChoicesReadNoTarget}
use Rattle.pace_command.specs.Targets.{reads_target, member_reads_target, choice_reads_target}

neither : (a b : Bool) → (a || b) ≡ false → (a ≡ false) × (b ≡ false)
neither false b is = (refl, is)
neither true b is = absurd (cc is)

mutual
  pub untargeted : (p : Process) → reads_target p ≡ false → ReadsNoTarget p
  untargeted skipping is = tt
  untargeted (assigning x at e) is = is
  untargeted (sending c at e) is = tt
  untargeted (receiving c at x to) is = tt
  untargeted (in_turn members) is = untargeted_each members is
  untargeted (side_by_side members) is = untargeted_each members is
  untargeted (choosing again choices) is = untargeted_choices choices is
  untargeted (repeating p) is = untargeted p is

  untargeted_each : (members : Processes) → member_reads_target members ≡ false → EachReadsNoTarget members
  untargeted_each no_members is = tt
  untargeted_each (and_member p more) is =
      let both = neither (reads_target p) (member_reads_target more) is in (untargeted p both.0, untargeted_each more both.1)

  untargeted_choices : (choices : Choices) → choice_reads_target choices ≡ false → ChoicesReadNoTarget choices
  untargeted_choices no_choices is = tt
  untargeted_choices (and_choice g p more) is =
      let both = neither (reads_target p) (choice_reads_target more) is in (untargeted p both.0, untargeted_choices more both.1)
