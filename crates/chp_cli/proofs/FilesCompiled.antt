-- What is premised of a file that `compile` wrote is enough for what is promised of it.
use Rattle.std.proofs.Common.{◌≡◌, ◌∙◌, ℕ, ◌≤◌, Bool, true, false, List, [], ◌∷◌, ◌++◌, length, Option, None, Some, refl, sym, subst}
use Rattle.std.specs.Prelude.{fold, replicate, slice_set}
use Rattle.std.proofs.lemmas.List.{length-replicate, length-set}
use Rattle.chp_syntax.specs.Reading.{Reads}
use Rattle.chp_syntax.specs.Shape.{IsShaped}
use Rattle.chp_syntax.specs.Trees.{ProgramTree}
use Rattle.env_script.specs.Environment.{net_channels}
use Rattle.handshake_expand.specs.Layout.{nodes_of}
use Rattle.net_compose.specs.Carries.{ResetCarries}
use Rattle.net_compose.specs.Points.{IsTranslated, TranslationCarries}
use Rattle.net_compose.specs.Progress.{ResetProgresses, TranslationProgresses, PlainTranslationProgresses}
use Rattle.net_compose.specs.Translation.{translation, hidden_high, vars_high}
use Rattle.net_compose.proofs.NamesFree.{names_free}
use Rattle.net_compose.proofs.Sizes.{first_length}
use Rattle.call_map.specs.CallNet.{all_sites, call_count, inlined_program}
use Rattle.call_compose.specs.Placing.{shared_of}
use Rattle.prs_core.specs.Nets.{NetValue, IsNet}
use Rattle.width_check.specs.Accepted.{IsAccepted}
use Rattle.width_check.specs.Faults.{naming_faults, HasNone}
use Rattle.width_check.specs.Form.{channels_of, vars_of, process_form, typed_form}
use Rattle.width_check.specs.Processes.{TypedProgram}
use Rattle.width_check.specs.Typing.{IsTyped}
use Rattle.command_answers.specs.Answers.{Given}
use Rattle.command_steps.specs.BufferSteps.{IsBuffered, PutsBuffer}
use Rattle.command_steps.specs.Inlined.{Means}
use Rattle.command_steps.specs.Steps.{most_of_nodes, most_of_text}
use Rattle.command_words.specs.CompileWords.{AskedCompilation}
use Rattle.program_commands.specs.Bodies.{Bodies, copied, copies_of, shared, counted_with, net_for, net_with, nodes_with, IsFaithful, NetCarries, SharedNetsAreFaithful}
use Rattle.program_commands.specs.Compiling.{IsFaithfulFile}
use Rattle.program_commands.proofs.BodyCounts.{few_nodes, few_shared}
use Rattle.program_commands.proofs.Promised.{plain_faithful, reset_faithful}
use Rattle.chp_cli.specs.Simulated.{HoldsCompiled}

-- a file that holds what `compile` writes is as is promised of what it writes
abbrev pub AreCompiled : Type 0
AreCompiled = (given : Given) (file : List ℕ) (p : TypedProgram) (h : HoldsCompiled given file p) → IsFaithful h.reset h.bodies

-- the net that is written has the program's channels
pub same_channels : (reset : Bool) {p : TypedProgram} (bodies : Bodies p) → NetCarries reset bodies → net_channels (net_for reset bodies) ≡ p.channels
same_channels false bodies carries = carries.channels
same_channels true bodies carries = carries.channels

-- it has so many nodes as are counted, the reset node aside
set_length : (highs : List ℕ) (values : List Bool) → length (fold (λ vs node. slice_set vs node true) values highs) ≡ length values
set_length [] values = refl
set_length (n ∷ ns) values = set_length ns (slice_set values n true) ∙ length-set values n true

pub firsts_counted : {p : TypedProgram} (bodies : Bodies p) → length (net_with bodies).first ≡ nodes_with bodies
firsts_counted {p} copied = first_length p
firsts_counted (shared h) =
    let C = shared_of h in
    let highs = vars_high (inlined_program C) 0 C.vars ++ all_sites C (hidden_high (inlined_program C)) in
    set_length highs (replicate (call_count C) false) ∙ length-replicate (call_count C) false

-- the program of such a file is typed, and meets the sharing rule
abbrev pub AreTranslated : Type 0
AreTranslated = (given : Given) (file : List ℕ) (p : TypedProgram) → HoldsCompiled given file p → IsTranslated p

pub are_translated : ((t : ProgramTree) → IsShaped t → HasNone t naming_faults → IsTyped (channels_of t.decls) (vars_of t.decls) (process_form t.decls t.body))
    → AreTranslated
are_translated is_typed given file p h =
    subst IsTranslated (sym h.form) (record { typed = is_typed h.program h.shaped h.accepted.named; sharing = h.accepted.sharing })

module _ (is_typed : (t : ProgramTree) → IsShaped t → HasNone t naming_faults → IsTyped (channels_of t.decls) (vars_of t.decls) (process_form t.decls t.body))
    (whole : (p : TypedProgram) → IsTyped p.channels p.vars p.body → nodes_of p ≤ 65536 → IsNet (translation p))
    (carry : TranslationCarries) (ends : TranslationProgresses) (plain_ends : PlainTranslationProgresses)
    (carry_reset : (net : NetValue) (p : TypedProgram) → ResetCarries net p)
    (end_reset : (net : NetValue) (p : TypedProgram) (most : ℕ → ℕ) → ResetProgresses net p most) (faithful : SharedNetsAreFaithful) where
  copies_promised : (reset : Bool) (p : TypedProgram) → IsTranslated p → nodes_of p ≤ 65536 → IsFaithful reset (copies_of p)
  copies_promised false p is few = plain_faithful ends plain_ends p is (whole p is.typed few) (carry p is)
  copies_promised true p is few =
      let net = whole p is.typed few in
      reset_faithful ends plain_ends end_reset p is net (carry_reset (translation p) p (carry p is) net refl net.most (names_free p))

  promised : (reset : Bool) {p : TypedProgram} (bodies : Bodies p) → IsTranslated p → counted_with bodies ≤ most_of_nodes → IsFaithful reset bodies
  promised reset {p} copied is few = copies_promised reset p is (few_nodes (copies_of p) few)
  promised reset {p} (shared {program = t} h) is few = faithful reset t p h (few_shared h few)

  pub are_compiled : AreCompiled
  are_compiled given file p h =
      promised h.reset h.bodies (are_translated is_typed given file p h) h.few

-- ---- what was written is such a file

-- a program with a buffer is accepted where it is put into what a text means
abbrev pub BuffersAccepted : Type 0
BuffersAccepted = (text : List ℕ) (program plain made : ProgramTree) (chan : List ℕ) → Reads text program → length text ≤ most_of_text → Means program plain
    → IsAccepted plain → PutsBuffer plain chan made → IsAccepted made

accepted_made : BuffersAccepted → (text : List ℕ) (program plain made : ProgramTree) (buffer : Option (List ℕ)) → Reads text program
    → length text ≤ most_of_text → Means program plain → IsAccepted plain → IsBuffered plain buffer made → IsAccepted made
accepted_made by text program plain made None reads short means is same = subst IsAccepted (sym same) is
accepted_made by text program plain made (Some chan) reads short means is puts = by text program plain made chan reads short means is puts

pub written_holds : BuffersAccepted → (c : AskedCompilation) (given more : Given) (file written : List ℕ) (is : IsFaithfulFile c given written)
    → more.files file ≡ Some written → HoldsCompiled more file (typed_form is.file.made)
written_holds by c given more file written is held = record {
  reset = c.reset;
  text = written;
  program = is.file.made;
  bodies = is.file.bodies;
  held = held;
  shaped = is.shaped;
  accepted = accepted_made by is.file.text is.file.program is.file.plain is.file.made c.buffer is.file.reads.reads is.file.short is.file.means
      is.file.accepted is.file.buffered;
  form = refl;
  few = is.file.few;
  spells = is.file.spells;
}
