use Rattle.std.proofs.Common.{◌≡◌, ℕ, List, length, map, ap, ◌∙◌, subst, rules}
use Rattle.std.proofs.lemmas.List.{with_items_is}
use Rattle.env_script.specs.Offers.{offered}
use Rattle.env_script.specs.Cutting.{lines_of}
use Rattle.env_script.specs.LineSteps.{IsRefusedLine}
use Rattle.env_script.specs.ScriptText.{IsTold, IsScriptRefused, IsOnlyRefusal, IsNoScript, OfScriptRefusal}
use Rattle.env_script.proofs.Sayings.{texts}
use Rattle.env_script.proofs.MadeScripts.{is_script}
use Rattle.env_script.proofs.OneReading.{one_script, no_script, one_refusal, of_refusal}
use Rattle.env_script.proofs.ReadLines.{few_lines}
use Rattle.env_script.proofs.reader.read_script.Goals as goal

pub read_offers-requires-clause-few : goal.read_offers-requires-clause-few
read_offers-requires-clause-few c = few_lines c.args.text.now _ c.requires.size (ap texts c.deref.ensures.value ∙ c.in_ok-lines.ensures)

pub returns-in_err-read_offers-clause-refused : goal.returns-in_err-read_offers-clause-refused
returns-in_err-read_offers-clause-refused c =
    let cut : texts c.deref.result.now ≡ lines_of c.args.text.now = ap texts c.deref.ensures.value ∙ c.in_ok-lines.ensures in
    let refused : OfScriptRefusal (IsScriptRefused c.args.channels.now c.args.text.now) c.in_err-read_offers.field-0.0 =
    of_refusal (IsRefusedLine c.args.channels.now (texts c.deref.result.now)) (IsScriptRefused c.args.channels.now c.args.text.now)
    c.in_err-read_offers.field-0.0 (λ f n is. is c.args.text.now cut) c.in_err-read_offers.ensures.refused in
    search rules

pub returns-in_err-read_offers-clause-first : goal.returns-in_err-read_offers-clause-first
returns-in_err-read_offers-clause-first c =
    let cut : texts c.deref.result.now ≡ lines_of c.args.text.now = ap texts c.deref.ensures.value ∙ c.in_ok-lines.ensures in
    let refused : OfScriptRefusal (IsOnlyRefusal c.args.channels.now c.args.text.now) c.in_err-read_offers.field-0.0 =
    of_refusal (IsRefusedLine c.args.channels.now (texts c.deref.result.now)) (IsOnlyRefusal c.args.channels.now c.args.text.now)
    c.in_err-read_offers.field-0.0 (λ f n is. λ g m other. one_refusal c.args.channels.now c.args.text.now g f m n other (is c.args.text.now cut))
    c.in_err-read_offers.ensures.refused in
    search rules

pub returns-in_err-read_offers-clause-none : goal.returns-in_err-read_offers-clause-none
returns-in_err-read_offers-clause-none c =
    let cut : texts c.deref.result.now ≡ lines_of c.args.text.now = ap texts c.deref.ensures.value ∙ c.in_ok-lines.ensures in
    let refused : OfScriptRefusal (λ fault line. IsNoScript c.args.channels.now c.args.text.now) c.in_err-read_offers.field-0.0 =
    of_refusal (IsRefusedLine c.args.channels.now (texts c.deref.result.now)) (λ fault line. IsNoScript c.args.channels.now c.args.text.now)
    c.in_err-read_offers.field-0.0 (λ f n is. λ t. no_script c.args.channels.now c.args.text.now t f n (is c.args.text.now cut))
    c.in_err-read_offers.ensures.refused in
    search rules

pub returns-clause-read : goal.returns-clause-read
returns-clause-read c =
    let kept : length c.read_offers.new.offers ≡ c.in_ok-offers.offers.len = search rules in
    let told = c.in_ok-read_offers.ensures.read in
    record {
      lines = told.0;
      told = subst (λ (ws : List (List ℕ)). IsTold c.args.channels.now ws told.0) (ap texts c.deref.ensures.value ∙ c.in_ok-lines.ensures) told.1;
      is = c.new.ensures ∙ (ap (map offered) (with_items_is c.in_ok-offers.offers c.read_offers.new.offers kept) ∙ told.2);
    }

pub returns-clause-script : goal.returns-clause-script
returns-clause-script c =
    let read = returns-clause-read c in
    is_script c.args.channels.now read.lines _ c.requires.distinct read.told.good read.is

pub returns-clause-only : goal.returns-clause-only
returns-clause-only c = λ t is. one_script c.args.channels.now c.args.text.now t _ is (returns-clause-read c)
