use Rattle.std.proofs.Common.{[], ◌∷◌, ◌++◌, ◌*◌, length, sym, ap, ◌∙◌}
use Rattle.std.specs.Prelude.{replicate}
use Rattle.prs_core.specs.Pairs.{no_rules}
use Rattle.net_compose.specs.SortedContacts.{listed_at}
use Rattle.net_compose.proofs.BodyWritten.{on_ok}
use Rattle.net_compose.proofs.DeclaredRules.{channel_wide, channel_kind}
use Rattle.net_compose.proofs.ContactsSorted.{sent_here, taken_here}
use Rattle.net_compose.proofs.DeclaredDriven.{in_driven, out_driven, chan_driven}
use Rattle.net_compose.proofs.declared.channel.Goals as goal

pub returns-in_ok-silent-in-In : goal.returns-in_ok-silent-in-In
returns-in_ok-silent-in-In c =
    let sorted = c.args.sorted.now in
    let declared = c.args.program.now.channels in
    let k = c.args.chan in
    let old = c.args.drivers.now.items in
    let w = c.index-channels-chan.result.width in
    let wide = channel_wide c.channels-channels.result.now declared k c.index-channels-chan.result c.channels-channels.ensures c.requires.within
    c.index-channels-chan.is in
    let kind = channel_kind c.channels-channels.result.now declared k c.index-channels-chan.result c.channels-channels.ensures c.requires.within
    c.index-channels-chan.is in
    on_ok c.add.result (λ then. in_driven declared k w wide (listed_at sorted.sent.items k) (listed_at sorted.taken.items k) old
    c.silent.new.drivers.items c.add.new.drivers.items c.in_ok-taken.taken.items (sym c.in-In.is ∙ kind)
    (c.in_ok-taken.ensures.items ∙ (c.deref.ensures.value
    ∙ taken_here sorted (length declared) (length c.args.program.now.vars) c.requires.lists k c.requires.within c.index-2.result.now c.index-2.ensures))
    (c.in_ok-silent-in-In.ensures ∙ ap (λ n. old ++ replicate (2 * n) no_rules) c.from.ensures)
    (then ∙ ap (λ d. c.silent.new.drivers.items ++ d ∷ []) c.any.ensures)) c.add.ensures

pub returns-in_ok-rails-in-Out : goal.returns-in_ok-rails-in-Out
returns-in_ok-rails-in-Out c =
    let sorted = c.args.sorted.now in
    let declared = c.args.program.now.channels in
    let k = c.args.chan in
    let old = c.args.drivers.now.items in
    let w = c.index-channels-chan.result.width in
    let wide = channel_wide c.channels-channels.result.now declared k c.index-channels-chan.result c.channels-channels.ensures c.requires.within
    c.index-channels-chan.is in
    let kind = channel_kind c.channels-channels.result.now declared k c.index-channels-chan.result c.channels-channels.ensures c.requires.within
    c.index-channels-chan.is in
    on_ok c.add-in-Out.result (λ then. out_driven declared k w wide (listed_at sorted.sent.items k) (listed_at sorted.taken.items k) old
    c.rails.new.drivers.items c.add-in-Out.new.drivers.items c.deref-sites.result.now (sym c.in-Out.is ∙ kind)
    (c.deref-sites.ensures.value
    ∙ sent_here sorted (length declared) (length c.args.program.now.vars) c.requires.lists k c.requires.within c.index.result.now c.index.ensures)
    c.in_ok-rails-in-Out.ensures (then ∙ ap (λ d. c.rails.new.drivers.items ++ d ∷ []) c.undriven.ensures)) c.add-in-Out.ensures

pub returns-in_ok-rails-in-Chan : goal.returns-in_ok-rails-in-Chan
returns-in_ok-rails-in-Chan c =
    let sorted = c.args.sorted.now in
    let declared = c.args.program.now.channels in
    let k = c.args.chan in
    let old = c.args.drivers.now.items in
    let w = c.index-channels-chan.result.width in
    let wide = channel_wide c.channels-channels.result.now declared k c.index-channels-chan.result c.channels-channels.ensures c.requires.within
    c.index-channels-chan.is in
    let kind = channel_kind c.channels-channels.result.now declared k c.index-channels-chan.result c.channels-channels.ensures c.requires.within
    c.index-channels-chan.is in
    on_ok c.add-in-Chan.result (λ then. chan_driven declared k w wide (listed_at sorted.sent.items k) (listed_at sorted.taken.items k) old
    c.rails-in-Chan.new.drivers.items c.add-in-Chan.new.drivers.items c.deref-sites.result.now c.in_ok-taken.taken.items (sym c.in-Chan.is ∙ kind)
    (c.deref-sites.ensures.value
    ∙ sent_here sorted (length declared) (length c.args.program.now.vars) c.requires.lists k c.requires.within c.index.result.now c.index.ensures)
    (c.in_ok-taken.ensures.items ∙ (c.deref.ensures.value
    ∙ taken_here sorted (length declared) (length c.args.program.now.vars) c.requires.lists k c.requires.within c.index-2.result.now c.index-2.ensures))
    c.in_ok-rails-in-Chan.ensures (then ∙ ap (λ d. c.rails-in-Chan.new.drivers.items ++ d ∷ []) c.any-in-Chan.ensures)) c.add-in-Chan.ensures
