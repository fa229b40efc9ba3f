-- How a call ends, and what follows from it.
use Rattle.std.proofs.Common.{◌≡◌, ◌≢◌, ℕ, ◌<◌, List, [], length, take, false, Option, Some, None, refl, subst}
use Rattle.std.specs.Prelude.{◌++◌, Contains}
use Rattle.chp_edge.specs.Faults.{Rose, IsReadFault}
use Rattle.chp_syntax.specs.Trees.{ProgramTree}
use Rattle.width_check.specs.Form.{typed_form}
use Rattle.width_check.specs.Processes.{TypedProgram}
use Rattle.round_time.specs.Ways.{Way}
use Rattle.command_answers.specs.declared.answer.Ending.{Ending}
use Rattle.command_answers.specs.declared.answer.Ending.TheVariants as ending
use Rattle.command_answers.specs.declared.answer.Stop.{Stop}
use Rattle.command_answers.specs.declared.answer.Stop.TheVariants as stopped
use Rattle.command_answers.specs.declared.status.Status.{Status}
use Rattle.command_answers.specs.declared.status.Status.TheVariants.{Done, Read, Write}
use Rattle.command_answers.specs.Answers.{Given, writes, status_with, line_with}
use Rattle.command_answers.specs.Lines.{write_line}
use Rattle.command_answers.specs.Replies.{Stops, refusal_status, refusal_line, stop_status, stop_line}
use Rattle.command_answers.specs.Statuses.{is_whole}
use Rattle.command_answers.proofs.StatusKinds.{no_refusal, refusing_status}
use Rattle.command_steps.specs.RunSteps.{a_script}
use Rattle.command_steps.specs.Steps.{a_file, a_program, accepted}
use Rattle.pace_command.specs.Pacing.{AskedPace, IsBound, IsLongestIfCounted, IsPaceOf, Paces, PacesUnder, SummedIf, unscripted, scripted, files_of, pace_text, sum_lines}
use Rattle.pace_command.specs.Ends.{Counts, Ends, formless, whole, cut_off, refused, unread, no_memory}

-- ---- what is written is the text for the program of the file, and for the script

-- of a program that is accepted
record Said (given : Given) (file : Option (List ℕ)) (program : ProgramTree) (plain : TypedProgram) (end : Ending) (text : List ℕ) : Type 0 where
  is_done : end ≡ ending.Done
  bound : ℕ
  bounds : IsBound program plain bound
  way : Way
  lies : IsLongestIfCounted plain way
  under : SummedIf given program plain file
  told : text ≡ pace_text plain bound way ++ sum_lines under

said : (given : Given) (file : Option (List ℕ)) (program : ProgramTree) (plain : TypedProgram) (end : Ending) (text : List ℕ)
    → PacesUnder given file program plain (writes end text) → Said given file program plain end text
said given None program plain end text report =
    record {
      is_done = cc report.told;
      bound = report.bound;
      bounds = report.bounds;
      way = report.way;
      lies = report.lies;
      under = unscripted;
      told = cc report.told;
    }
said given (Some file) program plain end text (a_file {text = x} gives short (a_script is more)) = record {
  is_done = cc more.report.told;
  bound = more.report.bound;
  bounds = more.report.bounds;
  way = more.report.way;
  lies = more.report.lies;
  under = scripted (record { text = x; gives = gives; short = short; is = is }) more.of;
  told = cc more.report.told;
}

pub pace_of : (given : Given) (asked : AskedPace) (end : Ending) (text : List ℕ) → Paces given asked (writes end text) →
    (end ≡ ending.Done) × IsPaceOf given asked text
pace_of given asked end text (a_file {text = x} gives short (a_program {program = p} read (accepted {plain = r} means are paces))) =
    let it = said given asked.script p (typed_form r) end text paces in (
      it.is_done,
      record {
        text = x;
        program = p;
        plain = r;
        gives = gives;
        short = short;
        read = read;
        means = means;
        accepted = are;
        bound = it.bound;
        bounds = it.bounds;
        way = it.way;
        lies = it.lies;
        under = it.under;
        told = it.told;
      },
    )

-- ---- what follows from an end

module _ (words : Option AskedPace) (given : Given) (read put : Counts) where
  pub paced_of : {status : Status} {appended line : List ℕ} → Ends words given read put status appended line → status ≡ Done →
      (asked : AskedPace) × (words ≡ Some asked) × IsPaceOf given asked appended
  paced_of (formless none) e = absurd (cc e)
  paced_of (whole asked text named is) e = (asked, named, (pace_of given asked ending.Done text is).1)
  paced_of (cut_off asked text n named is less rose) e = absurd (cc e)
  paced_of (refused asked status line named r is) e = absurd (no_refusal status Done r refl e)
  paced_of (unread asked name named own fault missed) e = absurd (cc e)
  paced_of no_memory e = absurd (cc e)

  pub read_of : {status : Status} {appended line : List ℕ} → Ends words given read put status appended line → status ≡ Read →
      (asked : AskedPace) × (name : List ℕ) × (words ≡ Some asked) × Contains (files_of asked) name
      × IsReadFault read.before read.after given.tells (given.files name)
  read_of (formless none) e = absurd (cc e)
  read_of (whole asked text named is) e = absurd (cc e)
  read_of (cut_off asked text n named is less rose) e = absurd (cc e)
  read_of (refused asked status line named r is) e = absurd (no_refusal status Read r refl e)
  read_of (unread asked name named own fault missed) e = (asked, name, named, own, fault)
  read_of no_memory e = absurd (cc e)

  -- with every other status nothing was written
  pub silent_of : {status : Status} {appended line : List ℕ} → Ends words given read put status appended line → is_whole status ≡ false →
      status ≢ Write → appended ≡ []
  silent_of (formless none) w n = refl
  silent_of (whole asked text named is) w n = absurd (cc w)
  silent_of (cut_off asked text k named is less rose) w n = absurd (n refl)
  silent_of (refused asked status line named r is) w n = refl
  silent_of (unread asked name named own fault missed) w n = refl
  silent_of no_memory w n = refl

  module _ (asked : AskedPace) (named : words ≡ Some asked) where
    -- what was answered ends the call, whether it was written whole or not
    pub whole_ends : (end : Ending) (text : List ℕ) → Paces given asked (writes end text)
        → Ends words given read put (status_with end) text (line_with end)
    whole_ends end text is = by end (pace_of given asked end text is).0 is
      where
        by : (e : Ending) → e ≡ ending.Done → Paces given asked (writes e text) → Ends words given read put (status_with e) text (line_with e)
        by ending.Done done is = whole asked text named is
        by ending.Hazard done is = absurd (cc done)
        by ending.Differs done is = absurd (cc done)

    pub cut_ends : (end : Ending) (text : List ℕ) (n : ℕ) → Paces given asked (writes end text) → n < length text → Rose put.before put.after
        → Ends words given read put Write (take n text) write_line
    cut_ends end text n is less rose =
        cut_off asked text n named (subst (λ e. Paces given asked (writes e text)) (pace_of given asked end text is).0 is) less rose

    -- what stops the answer ends the call
    pub stopped_ends : (stop : Stop) → Stops (Paces given asked) (files_of asked) given read.before read.after stop
        → Ends words given read put (stop_status stop) [] (stop_line stop)
    stopped_ends (stopped.Refused r) stops = refused asked (refusal_status r) (refusal_line r) named (refusing_status r) stops
    stopped_ends (stopped.Unread name) stops = unread asked name.now named stops.own stops.fault stops.missed
    stopped_ends stopped.NoMemory stops = no_memory
