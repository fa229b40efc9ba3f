use Rattle.std.proofs.Common.{◌∙◌, length, sym, ap}
use Rattle.std.proofs.lemmas.List.{length-map}
use Rattle.history_report.proofs.rounds.rounds_lines.Goals as goal

pub passed_lines-requires : goal.passed_lines-requires
passed_lines-requires c =
    sym (length-map c.histories.result.now (λ h. h.items))
    ∙ (ap length c.histories.ensures ∙ (c.requires.of.channels ∙ sym (ap length c.channels.ensures)))
