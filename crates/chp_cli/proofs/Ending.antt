-- What follows from the way in which a call ended.
use Rattle.std.proofs.Common.{◌≡◌, ◌≢◌, ℕ, List, [], false, Option, Some, None, ◌⊎◌, inl, inr, refl, sym, ap, subst}
use Rattle.chp_edge.specs.Faults.{Rose, IsReadFault}
use Rattle.command_answers.specs.declared.answer.Stop.{Stop}
use Rattle.command_answers.specs.declared.answer.Stop.TheVariants as stopped
use Rattle.command_answers.specs.declared.status.Status.{Status}
use Rattle.command_answers.specs.declared.status.Status.TheVariants.{Usage, Read, Write, NoMemory}
use Rattle.bench_commands.specs.HandedIn.{HandedIn}
use Rattle.command_answers.specs.Answers.{Given, Answer, writes, refuses, misses, OneAnswer, status_of}
use Rattle.command_words.specs.CommandWords.{Asked}
use Rattle.chp_cli.specs.Commands.{EndsServed, IsAnswer, files_of}
use Rattle.chp_cli.specs.Ends.{AnswersAsked, AnswersTo, IsFile, Ends, formless, whole, cut_off, refused, unread, no_memory}
use Rattle.chp_cli.specs.Settings.{Setting}
use Rattle.command_answers.specs.Replies.{Stops, refusing, refusal_status, refusal_line, stop_status, stop_line}
use Rattle.command_answers.specs.Statuses.{is_whole}
use Rattle.command_answers.proofs.StatusKinds.{no_refusal, own_status, refusing_status, whole_status}

pub answers_of : (asked : Option Asked) (given : Given) (handed : HandedIn) (command : Asked) (answer : Answer) → asked ≡ Some command →
    IsAnswer command given handed answer → AnswersAsked asked given handed answer
answers_of asked given handed command answer named is = subst (λ o. AnswersAsked o given handed answer) (sym named) is

-- and the other way round
pub answer_of : (s : Setting) (command : Asked) (answer : Answer) → s.asked ≡ Some command → AnswersTo s answer →
    IsAnswer command s.given s.handed answer
answer_of s command answer named are = subst (λ o. AnswersAsked o s.given s.handed answer) named are

-- the setting in which a call ended
abbrev pub setting_of : {s : Setting} {status : Status} {appended line : List ℕ} → Ends s status appended line → Setting
setting_of {s} ends = s

module _ (s : Setting) where
  -- with every other status nothing was written
  pub silent_of : {status : Status} {appended line : List ℕ} → Ends s status appended line → is_whole status ≡ false → status ≢ Write → appended ≡ []
  silent_of (formless none) w n = refl
  silent_of (whole end text is) w n = absurd (cc (whole_status end, w))
  silent_of (cut_off end text k is less rose) w n = absurd (n refl)
  silent_of (refused status line r is) w n = refl
  silent_of (unread name own fault missed) w n = refl
  silent_of no_memory w n = refl

  pub usage_of : {status : Status} {appended line : List ℕ} → Ends s status appended line → status ≡ Usage → s.asked ≡ None
  usage_of (formless none) e = none
  usage_of (whole end text is) e = absurd ((own_status end).0 e)
  usage_of (cut_off end text k is less rose) e = absurd (cc e)
  usage_of (refused status line r is) e = absurd (no_refusal status Usage r refl e)
  usage_of (unread name own fault missed) e = absurd (cc e)
  usage_of no_memory e = absurd (cc e)

  pub read_of : {status : Status} {appended line : List ℕ} → Ends s status appended line → status ≡ Read →
      (name : List ℕ) × IsFile s.asked name × IsReadFault s.read.before s.read.after s.given.tells (s.given.files name)
  read_of (formless none) e = absurd (cc e)
  read_of (whole end text is) e = absurd ((own_status end).1 e)
  read_of (cut_off end text k is less rose) e = absurd (cc e)
  read_of (refused status line r is) e = absurd (no_refusal status Read r refl e)
  read_of (unread name own fault missed) e = (name, own, fault)
  read_of no_memory e = absurd (cc e)

  pub write_of : {status : Status} {appended line : List ℕ} → Ends s status appended line → status ≡ Write → Rose s.put.before s.put.after
  write_of (formless none) e = absurd (cc e)
  write_of (whole end text is) e = absurd ((own_status end).2 e)
  write_of (cut_off end text k is less rose) e = rose
  write_of (refused status line r is) e = absurd (no_refusal status Write r refl e)
  write_of (unread name own fault missed) e = absurd (cc e)
  write_of no_memory e = absurd (cc e)

  one : ((command : Asked) → OneAnswer (IsAnswer command s.given s.handed)) → (o : Option Asked) (a b : Answer) → AnswersAsked o s.given s.handed a →
      AnswersAsked o s.given s.handed b → a ≡ b
  one law None a b is are = absurd is
  one law (Some command) a b is are = law command a b is are

  -- where nothing fails, the status is that of the answer
  pub complete_of : ((command : Asked) → OneAnswer (IsAnswer command s.given s.handed)) → {status : Status} {appended line : List ℕ} →
      Ends s status appended line
      → (answer : Answer) → AnswersTo s answer → ¬ Rose s.read.before s.read.after → ¬ Rose s.put.before s.put.after
      → (status ≡ status_of answer) ⊎ (status ≡ NoMemory)
  complete_of law (formless none) answer are calm quiet = absurd (subst (λ o. AnswersAsked o s.given s.handed answer) none are)
  complete_of law (whole end text is) answer are calm quiet = inl (ap status_of (one law s.asked _ answer is are))
  complete_of law (cut_off end text k is less rose) answer are calm quiet = absurd (quiet rose)
  complete_of law (refused status line r is) answer are calm quiet = inl (ap status_of (one law s.asked _ answer is are))
  complete_of law (unread name own fault (inl rose)) answer are calm quiet = absurd (calm rose)
  complete_of law (unread name own fault (inr is)) answer are calm quiet = inl (ap status_of (one law s.asked _ answer is are))
  complete_of law no_memory answer are calm quiet = inr refl

  -- where the files and orders hold what the command is served with and nothing fails, it ends as one that is served
  pub served_of : (command : Asked) → s.asked ≡ Some command → ((a : Answer) → IsAnswer command s.given s.handed a → EndsServed command (status_of a))
      → {status : Status} {appended line : List ℕ} → Ends s status appended line → ¬ Rose s.read.before s.read.after
      → ¬ Rose s.put.before s.put.after → EndsServed command status ⊎ (status ≡ NoMemory)
  served_of command named all (formless none) calm quiet = absurd (cc (none, named))
  served_of command named all (whole end text is) calm quiet = inl (all _ (answer_of s command (writes end text) named is))
  served_of command named all (cut_off end text k is less rose) calm quiet = absurd (quiet rose)
  served_of command named all (refused status line r is) calm quiet = inl (all _ (answer_of s command (refuses status line) named is))
  served_of command named all (unread name own fault (inl rose)) calm quiet = absurd (calm rose)
  served_of command named all (unread name own fault (inr is)) calm quiet = inl (all _ (answer_of s command (misses name) named is))
  served_of command named all no_memory calm quiet = inr refl

  -- a command that stops ends the call
  pub stopped_ends : (command : Asked) → s.asked ≡ Some command → (stop : Stop)
      → Stops (IsAnswer command s.given s.handed) (files_of command) s.given s.read.before s.read.after stop
      → Ends s (stop_status stop) [] (stop_line stop)
  stopped_ends command is (stopped.Refused r) stops =
      refused (refusal_status r) (refusal_line r) (refusing_status r) (answers_of s.asked s.given s.handed command (refusing r) is stops)
  stopped_ends command is (stopped.Unread name) stops =
      unread name.now (subst (λ o. IsFile o name.now) (sym is) stops.own) stops.fault (missed stops.missed)
    where
      missed : Rose s.read.before s.read.after ⊎ IsAnswer command s.given s.handed (misses name.now)
          → Rose s.read.before s.read.after ⊎ AnswersTo s (misses name.now)
      missed (inl rose) = inl rose
      missed (inr answer) = inr (answers_of s.asked s.given s.handed command (misses name.now) is answer)
  stopped_ends command is stopped.NoMemory stops = no_memory
