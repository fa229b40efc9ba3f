use Rattle.std.proofs.Common.{◌≡◌, ◌∙◌, Bool, true, false, refl, sym}
use Rattle.clap.specs.Words.{app_of, is_simple, takes}
use Rattle.clap.proofs.WalkLemmas.{both}
use Rattle.clap.specs.declared.error.kind.ErrorKind.TheVariants.{OutOfMemory}
use Rattle.command_words.specs.Forms.{texts_of}
use Rattle.command_words.proofs.Taken.{no_fault_takes, simple_of}
use Rattle.command_words.proofs.arguments.matches_in.Goals as goal

pub returns-in-Ok-clause-taken : goal.returns-in-Ok-clause-taken
returns-in-Ok-clause-taken c =
    let form = app_of c.args.form in
    sym (no_fault_takes form (texts_of c.args.words.now) c.requires (c.in-Ok.ensures.kinds (simple_of form c.requires)))

pub returns-in-Ok-clause-matches : goal.returns-in-Ok-clause-matches
returns-in-Ok-clause-matches c =
    let form = app_of c.args.form in
    (c.in-Ok.ensures.matches (both (is_simple form) _ (simple_of form c.requires)).0).0

pub returns-clause-taken : goal.returns-clause-taken
returns-clause-taken c = go (takes (app_of c.args.form) (texts_of c.args.words.now)) refl
  where
    go : (t : Bool) → takes (app_of c.args.form) (texts_of c.args.words.now) ≡ t → false ≡ t
    go false e = refl
    go true e =
        let kind_is : c.kind.result ≡ OutOfMemory = c.kind.ensures ∙ c.in-Err.ensures.passes e in
        let same : c.eq.result ≡ true = rw kind_is at c.eq.ensures in
        sym c.if-eq.false ∙ same
