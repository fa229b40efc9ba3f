use Rattle.std.proofs.Common.{◌≡◌, ◌∙◌, ◌<◌, ℕ, List, [], length, get_or, sym, ap, subst}
use Rattle.std.specs.Prelude.{slice_get}
use Rattle.std.specs.Option.{option_map_or}
use Rattle.std.proofs.lemmas.Option.{slice_get-get_or}
use Rattle.prs_core.specs.declared.wires.Wires.{Wires}
use Rattle.history_report.proofs.report.channel_name.Goals as goal

pub bounds-channels-chan : goal.bounds-channels-chan
bounds-channels-chan c = subst (λ (ws : List Wires). c.args.chan < length ws) (sym c.channels.ensures.channels) c.requires

named : (ws : List Wires) (i : ℕ) (d : Wires) → i < length ws
    → (get_or ws i d).channel.name ≡ option_map_or (λ (w : Wires). w.channel.name) (slice_get ws i) []
named ws i d within = sym (ap (λ o. option_map_or (λ (w : Wires). w.channel.name) o []) (slice_get-get_or ws i d within))

pub returns : goal.returns
returns c =
    let wires = c.args.net.now.channels in
    let first = c.index-channels-chan.result in
    c.bytes.ensures.bytes
    ∙ (ap (λ (ws : List Wires). (get_or ws c.args.chan first).channel.name) c.channels.ensures.channels ∙ named wires c.args.chan first c.requires)
