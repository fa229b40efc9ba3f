use Rattle.std.proofs.Common.{◌≡◌, ℕ, List, length, sym, subst}
use Rattle.chp_base.specs.declared.fault.FaultCode.{FaultCode}
use Rattle.chp_base.specs.declared.fault.FaultCode.TheVariants as code
use Rattle.chp_base.specs.declared.fault.TextError.{TextError}
use Rattle.chp_base.specs.declared.fault.TextError.TheVariants.{Refused, NoMemory}
use Rattle.chp_syntax.specs.declared.token.Token.{Token}
use Rattle.chp_syntax.specs.Tokens.{Tokens, BadToken, IfRefused}
use Rattle.chp_syntax.specs.Refusals.{RefusedTokens, RefusedText, bad_token, bad_tokens}
use Rattle.chp_syntax.specs.Trees.{ProgramTree}
use Rattle.chp_syntax.specs.Reading.{Reads}
use Rattle.chp_syntax.specs.View.{program_tree}
use Rattle.chp_syntax.proofs.Shapes.{read_shaped}
use Rattle.chp_syntax.proofs.RefusedLemmas.{refused_none}
use Rattle.chp_syntax.proofs.parser.parse.Goals as goal

-- bytes that are no token
of_bytes : (text : List ℕ) (e : TextError) → IfRefused (λ f. f.code ≡ code.BadToken) e → IfRefused (λ f. BadToken text f.at) e →
    IfRefused (λ f. RefusedText text f.code f.at) e
of_bytes text (Refused f) k b = subst (λ (c : FaultCode). RefusedText text c f.at) (sym k) (bad_token b)
of_bytes text (NoMemory m) k b = tt

-- tokens that are refused
of_tokens : (text : List ℕ) (ts : List Token) (e : TextError) → Tokens text ts → IfRefused (λ f. RefusedTokens ts (length text) f.code f.at) e →
    IfRefused (λ f. RefusedText text f.code f.at) e
of_tokens text ts (Refused f) cut r = bad_tokens ts cut r
of_tokens text ts (NoMemory m) cut r = tt

pub returns-in-Err-clause-place : goal.returns-in-Err-clause-place
returns-in-Err-clause-place c = of_bytes c.args.text.now c.in-Err.e c.in-Err.ensures.code c.in-Err.ensures.place

pub returns-clause-place : goal.returns-clause-place
returns-clause-place c =
    of_tokens c.args.text.now c.in-Ok.tokens.items c.in-Err-parse_list.e c.in-Ok.ensures.read (rw c.deref.ensures.value at c.in-Err-parse_list.ensures.place)

uncut : (text : List ℕ) (e : TextError) → IfRefused (λ f. (ts : List Token) → ¬ Tokens text ts) e → IfRefused (λ f. (q : ProgramTree) → ¬ Reads text q) e
uncut text (Refused f) h = λ q r. h r.tokens r.cut
uncut text (NoMemory m) h = tt

unread : (text : List ℕ) (ts : List Token) (end : ℕ) (e : TextError) → ((us : List Token) → Tokens text us → us ≡ ts) →
    IfRefused (λ f. RefusedTokens ts end f.code f.at) e → IfRefused (λ f. (q : ProgramTree) → ¬ Reads text q) e
unread text ts end (Refused f) only r = λ q reads. refused_none only r q reads
unread text ts end (NoMemory m) only r = tt

pub returns-in-Err-clause-refused : goal.returns-in-Err-clause-refused
returns-in-Err-clause-refused c = uncut c.args.text.now c.in-Err.e c.in-Err.ensures.refused

pub returns-clause-refused : goal.returns-clause-refused
returns-clause-refused c =
    unread c.args.text.now c.in-Ok.tokens.items (length c.args.text.now) c.in-Err-parse_list.e c.in-Ok.ensures.only
    (rw c.deref.ensures.value at c.in-Err-parse_list.ensures.place)

pub returns-in-Ok-parse_list-clause-shaped : goal.returns-in-Ok-parse_list-clause-shaped
returns-in-Ok-parse_list-clause-shaped c =
    let ensured = c.in-Ok-parse_list.ensures in
    read_shaped c.args.text.now (program_tree c.in-Ok-parse_list.program)
    (record {
      tokens = c.in-Ok.tokens.items;
      cut = c.in-Ok.ensures.read;
      derives = rw (← c.deref.ensures.value) ensured.derives;
      shallow = rw (← c.deref.ensures.value) ensured.shallow;
      few_in_procs = ensured.few_in_procs;
      few_in_body = ensured.few_in_body;
    })
