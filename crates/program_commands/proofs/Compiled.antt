-- What the net of a program that is compiled is, and that its text is written.
use Rattle.std.proofs.Common.{◌≡◌, ◌≤◌, ℕ, List, length, Option, Some, None, refl, sym, subst}
use Rattle.std.specs.Prelude.{Result, Ok, Err, IfOk, IfErr, OnOk, IsOk}
use Rattle.net_compose.specs.declared.net.NetError.{NetError}
use Rattle.net_compose.specs.declared.net.NetError.TheVariants.{NoMemory, TooManyNodes}
use Rattle.net_compose.specs.Errors.{IfTooMany}
use Rattle.prs_file.specs.Spelling.{NetText}
use Rattle.chp_syntax.specs.Trees.{ProgramTree}
use Rattle.width_check.specs.Calls.{IsCallFree}
use Rattle.width_check.specs.Form.{typed_form}
use Rattle.width_check.specs.Processes.{TypedProgram}
use Rattle.command_answers.specs.declared.answer.Ending.TheVariants.{Done}
use Rattle.command_answers.specs.declared.answer.Stop.{Stop}
use Rattle.command_answers.specs.declared.status.Status.TheVariants.{TooLarge}
use Rattle.command_answers.specs.Answers.{Given, Gives, Answer, refuses, writes}
use Rattle.command_answers.specs.Lines.{nodes_line}
use Rattle.command_answers.specs.Replies.{Halts}
use Rattle.command_steps.specs.BufferSteps.{FromBuffer, IsBuffered, KeepsPassed, has_channel}
use Rattle.command_steps.specs.HeldBuffered.{IsBufferedFrom}
use Rattle.command_steps.specs.Inlined.{AreShaped, IsFormOf, Means}
use Rattle.command_steps.specs.Steps.{FromChecks, IsTextOf, Never, accepted, most_of_nodes, most_of_text}
use Rattle.command_steps.proofs.BufferStopping.{buffer_goes, checks_as}
use Rattle.command_words.specs.CompileWords.{AskedCompilation}
use Rattle.program_commands.specs.declared.reply.Reply.{Reply}
use Rattle.program_commands.specs.Bodies.{Bodies, HasBodies, IsCopied, IsFaithful, as_copies, as_shared, copies_of, counted_with, net_for, shared}
use Rattle.program_commands.specs.Compiling.{CompilesForm, CompilesNet, CompilesProgram, IsFaithfulFile, IsFaithfulTo, compiled, too_large}
use Rattle.program_commands.specs.RepliesTold.{StopsFor, reply_bytes, told_reply}
use Rattle.program_commands.specs.Streamed.{IsOver, IsSharedOver, IsSharedText, IsTextWith}

-- ---- a reply is what its streamer makes

pub reply_told : (Is : Answer → Type 0) (made : Result (List ℕ) NetError) (r : Result Reply Stop) → OnOk r (IsOk made)
    → IfOk r (λ reply. IfOk made (λ s. told_reply reply ≡ writes Done s)) → IfOk made (λ s. Is (writes Done s)) → IfOk r (λ reply. Is (told_reply reply))
reply_told Is (Ok s) (Ok reply) ok told is = subst Is (sym told) is
reply_told Is (Err e) (Ok reply) ok told is = absurd (cc ok)
reply_told Is made (Err stop) ok told is = tt

pub reply_text : (Is : List ℕ → Type 0) (made : Result (List ℕ) NetError) (r : Result Reply Stop) → OnOk r (IsOk made)
    → IfOk r (λ reply. IfOk made (λ s. told_reply reply ≡ writes Done s)) → IfOk made Is → IfOk r (λ reply. Is (reply_bytes reply))
reply_text Is (Ok s) (Ok reply) ok told is = let same : s ≡ reply_bytes reply = cc told in subst Is same is
reply_text Is (Err e) (Ok reply) ok told is = absurd (cc ok)
reply_text Is made (Err stop) ok told is = tt

pub reply_stops : (Is : Answer → Type 0) (made : Result (List ℕ) NetError) (r : Result Reply Stop) → IfErr r (StopsFor made)
    → IfErr made (IfTooMany (λ count. Is (refuses TooLarge (nodes_line count)))) → IfErr r (Halts Is)
reply_stops Is made (Ok reply) stops is = tt
reply_stops Is (Ok s) (Err stop) stops is = subst (Halts Is) (sym stops) tt
reply_stops Is (Err (TooManyNodes count)) (Err stop) stops is = subst (Halts Is) (sym stops) is
reply_stops Is (Err (NoMemory e)) (Err stop) stops is = subst (Halts Is) (sym stops) tt

-- what holds of each number of nodes that are too many
pub over_in : (P Q : ℕ → Type 0) → ((count : ℕ) → P count → Q count) → (r : Result (List ℕ) NetError) → IfErr r (IfTooMany P) → IfErr r (IfTooMany Q)
over_in P Q is (Ok s) many = tt
over_in P Q is (Err (TooManyNodes count)) many = is count many
over_in P Q is (Err (NoMemory e)) many = tt

-- ---- of the net that is made so

module _ (c : AskedCompilation) (program : ProgramTree) (p : TypedProgram) (from : IsBufferedFrom program c.buffer p) where
  module _ (bodies : Bodies p) (has : HasBodies program c.buffer bodies) where
    net_answers : (a : Answer) → CompilesNet c.reset bodies a → CompilesProgram c program a
    net_answers a net =
        accepted from.means from.accepted (has_channel from.is.made from.is.buffered from.is.keeps
        (subst (λ (q : TypedProgram). CompilesForm c program q a) from.is.form (record { bodies = bodies; has = has; net = net })))

    pub text_answers : (s : List ℕ) → IsTextWith c.reset bodies s → CompilesProgram c program (writes Done s)
    text_answers s is = net_answers (writes Done s) (compiled is.few is.spells)

    pub text_faithful : (s : List ℕ) → IsTextWith c.reset bodies s → IsFaithfulTo c program s
    text_faithful s is = record { typed = p; bodies = bodies; from = from; has = has; few = is.few; spells = is.spells; faithful = is.faithful }

    pub over_answers : (count : ℕ) → IsOver bodies count → CompilesProgram c program (refuses TooLarge (nodes_line count))
    over_answers count is = subst (λ n. CompilesProgram c program (refuses TooLarge (nodes_line n))) (sym is.is) (net_answers _ (too_large is.many))

  -- with copies
  pub copied_answers : (is : IsCopied program c.buffer) (s : List ℕ) → IsTextWith c.reset (copies_of p) s → CompilesProgram c program (writes Done s)
  copied_answers is = text_answers (copies_of p) (as_copies is)

  pub copied_faithful : (is : IsCopied program c.buffer) (s : List ℕ) → IsTextWith c.reset (copies_of p) s → IsFaithfulTo c program s
  copied_faithful is = text_faithful (copies_of p) (as_copies is)

  pub copied_over : (is : IsCopied program c.buffer) (count : ℕ) → IsOver (copies_of p) count → CompilesProgram c program (refuses TooLarge (nodes_line count))
  copied_over is = over_answers (copies_of p) (as_copies is)

  -- with shared bodies
  pub shared_answers : (not : ¬ IsCopied program c.buffer) (s : List ℕ) → IsSharedText c.reset program p s → CompilesProgram c program (writes Done s)
  shared_answers not s is = text_answers (shared is.0) (as_shared not is.0) s is.1

  pub shared_faithful : (not : ¬ IsCopied program c.buffer) (s : List ℕ) → IsSharedText c.reset program p s → IsFaithfulTo c program s
  shared_faithful not s is = text_faithful (shared is.0) (as_shared not is.0) s is.1

  pub shared_over : (not : ¬ IsCopied program c.buffer) (count : ℕ) → IsSharedOver program p count
      → CompilesProgram c program (refuses TooLarge (nodes_line count))
  shared_over not count is = over_answers (shared is.0) (as_shared not is.0) count is.1

-- ---- which net it is

pub free_copied : (program : ProgramTree) (buffer : Option (List ℕ)) → IsCallFree program → IsCopied program buffer
free_copied program None free = free
free_copied program (Some chan) free = tt

-- one whose bodies aren't copied has calls, and gets no buffer
module _ (program : ProgramTree) (buffer : Option (List ℕ)) (not : ¬ IsCopied program buffer) where
  pub has_calls : ¬ IsCallFree program
  has_calls free = not (free_copied program buffer free)

  pub unbuffered : (p : TypedProgram) → IsFormOf program p → AreShaped (Means program) → IsBufferedFrom program buffer p
  unbuffered p f shaped = record {
    plain = f.plain;
    means = f.means;
    accepted = f.accepted;
    is = record { made = f.plain; buffered = as_it_is buffer not; keeps = none_kept buffer not; shaped = shaped f.plain f.means; form = f.form };
  }
    where
      as_it_is : (o : Option (List ℕ)) → ¬ IsCopied program o → IsBuffered f.plain o f.plain
      as_it_is None apart = refl
      as_it_is (Some chan) apart = absurd (apart tt)

      none_kept : (o : Option (List ℕ)) → ¬ IsCopied program o → KeepsPassed f.plain o f.plain
      none_kept None apart = tt
      none_kept (Some chan) apart = absurd (apart tt)

-- ---- of the file

-- the checks behind which the net is made
pub checks_stop : (c : AskedCompilation) (program : ProgramTree) (a : Answer) →
    FromChecks program (λ plain. FromBuffer plain c.buffer Never) a → CompilesProgram c program a
checks_stop c program a is = checks_as (λ plain also. buffer_goes also) is

pub faithful_file : (c : AskedCompilation) (given : Given) (text : List ℕ) (program : ProgramTree) → Gives given c.file text → length text ≤ most_of_text
    → IsTextOf text program →
    (written : List ℕ) → IsFaithfulTo c program written → IsFaithfulFile c given written
faithful_file c given text program gives short read written is =
    by is.typed is.from.is.form is.bodies is.has is.few is.spells is.faithful
  where
    by : (p : TypedProgram) → p ≡ typed_form is.from.is.made → (bodies : Bodies p) → HasBodies program c.buffer bodies
        → counted_with bodies ≤ most_of_nodes → NetText written (net_for c.reset bodies) → IsFaithful c.reset bodies → IsFaithfulFile c given written
    by p form =
        subst (λ (q : TypedProgram). (bodies : Bodies q) → HasBodies program c.buffer bodies → counted_with bodies ≤ most_of_nodes
        → NetText written (net_for c.reset bodies) → IsFaithful c.reset bodies → IsFaithfulFile c given written) (sym form)
        (λ bodies has few spells faithful. record {
          file = record {
            text = text;
            program = program;
            plain = is.from.plain;
            made = is.from.is.made;
            bodies = bodies;
            gives = gives;
            short = short;
            reads = read;
            means = is.from.means;
            accepted = is.from.accepted;
            buffered = is.from.is.buffered;
            has = has;
            few = few;
            spells = spells;
          };
          shaped = is.from.is.shaped;
          keeps = is.from.is.keeps;
          faithful = faithful;
        })
