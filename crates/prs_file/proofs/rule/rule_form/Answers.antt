use Rattle.std.proofs.Common.{◌≡◌, ◌++◌, [], ◌∷◌, ap, ◌∙◌}
use Rattle.prs_file.proofs.RuleLines.{read_first, read_more, no_first, no_more, no_rule_end}
use Rattle.prs_file.proofs.rule.rule_form.Goals as goal

pub returns-in_default-led_form-clause-none : goal.returns-in_default-led_form-clause-none
returns-in_default-led_form-clause-none c =
    no_first c.args.line.now c.in-Some.text.now c.in-Some.ensures.some c.in_default-led_form.ensures.none

pub loop-next-init : goal.loop-next-init
loop-next-init c =
    let items : c.push.new.self.items ≡ c.in-Some-led_form.first ∷ [] =
    c.in_ok-push.ensures.items ∙ ap (λ xs. xs ++ c.in-Some-led_form.first ∷ []) c.new-leds.ensures.items in
    let led = c.in-Some-led_form in
    rw items (read_first c.args.line.now c.in-Some.text.now led.rest.now led.first c.in-Some.ensures.some led.ensures.lead led.ensures.high led.ensures.word
    led.ensures.name led.ensures.rest)

pub loop-next-preserved : goal.loop-next-preserved
loop-next-preserved c =
    let lead = c.in-Some-lead_form in
    let led = c.in-Some-led_form-2 in
    rw c.in_ok-push-2.ensures.items (read_more c.args.line.now c.loop-next.leds.items c.loop-next.rest.now lead.behind.now led.after.now lead.next led.led
    c.loop-next.invariant lead.ensures.some lead.ensures.further led.ensures.lead led.ensures.high led.ensures.word led.ensures.name led.ensures.rest)

pub returns-in_default-led_form-2-clause-none : goal.returns-in_default-led_form-2-clause-none
returns-in_default-led_form-2-clause-none c =
    no_more c.args.line.now c.loop-next.leds.items c.loop-next.rest.now c.in-Some-lead_form.behind.now c.in-Some-lead_form.next c.loop-next.invariant
    c.in-Some-lead_form.ensures.some c.in-Some-lead_form.ensures.further c.in_default-led_form-2.ensures.none

pub returns-in_default-end_form-clause-none : goal.returns-in_default-end_form-clause-none
returns-in_default-end_form-clause-none c =
    no_rule_end c.args.line.now c.loop-next.leds.items c.loop-next.rest.now c.loop-next.invariant c.in_default-lead_form.ensures.none
    c.in_default-end_form.ensures.none
