use Rattle.std.proofs.Common.{◌≡◌, ◌++◌, ◌∷◌, [], true, false, cond, Some, None, length, sym, ap, ◌∙◌, subst, arith}
use Rattle.std.specs.Prelude.{is_some}
use Rattle.std.proofs.lemmas.List.{length_push, map_push}
use Rattle.prs_core.specs.declared.wires.Wires.{Wires}
use Rattle.prs_file.specs.declared.fault.NetFault.TheVariants.{DoubleName}
use Rattle.prs_file.specs.ChannelsTold.{channel_names}
use Rattle.prs_file.specs.Indexes.{place_in}
use Rattle.prs_file.specs.NodesTold.{nodes_told}
use Rattle.prs_file.specs.Openings.{text_behind}
use Rattle.prs_file.specs.Reading.{IsChannelForm}
use Rattle.prs_file.specs.Spelling.{channel_spelling}
use Rattle.prs_file.specs.WiresFound.{wires_fault_of}
use Rattle.prs_file.proofs.ChannelsRead.{channels_begin, channel_refused, channels_more, none_is}
use Rattle.prs_file.proofs.channels.read_channels.Goals as goal

pub loop-names-init : goal.loop-names-init
loop-names-init c =
    let n = c.args.nodes.now in
    record {
      read = channels_begin n.version n.index n.first.items c.new-channels.result.items
          (text_behind (nodes_told n.version n.index n.first.items) c.args.text.now) c.args.text.now c.new-channels.ensures.items c.requires.read
          c.requires.over;
      named = c.in_ok-names.ensures ∙ sym (ap channel_names c.new-channels.ensures.items);
      room = omega (arith, ap length c.new-channels.ensures.items);
    }

pub returns-then-is_some-clause-refused : goal.returns-then-is_some-clause-refused
returns-then-is_some-clause-refused c =
    let n = c.args.nodes.now in
    let l = c.loop-names in
    let ch = c.in-Some.channel in
    let is : is_some (place_in (channel_names l.channels.items) ch.name) ≡ true = ap (λ ns. is_some (place_in ns ch.name)) (sym l.invariant.named)
    ∙ ap (λ b. is_some (place_in l.names b)) (sym c.bytes.ensures.bytes) ∙ ap is_some (sym c.find.ensures) ∙ sym c.is_some.ensures ∙ c.if-is_some.true in
    let some = rw c.in-Some.is at c.in_ok-channel.ensures.some in
    channel_refused n.version n.index n.first.items l.channels.items (text_behind (nodes_told n.version n.index n.first.items) c.args.text.now) l.rest.now ch
    DoubleName _ c.requires.read.nodes l.invariant.read (omega (arith, some)) (rw c.in-Some.is at c.in_ok-channel.ensures.line)
    (rw c.in-Some.is at c.in_ok-channel.ensures.form) (ap (λ b. cond b (Some DoubleName) (wires_fault_of n.index n.first.items ch)) is)
    (omega (arith, c.len.ensures, c.len-in-Some.ensures, l.channels.ok.0))

pub returns-in-Err-clause-refused : goal.returns-in-Err-clause-refused
returns-in-Err-clause-refused c =
    let n = c.args.nodes.now in
    let l = c.loop-names in
    let ch = c.in-Some.channel in
    let is : is_some (place_in (channel_names l.channels.items) ch.name) ≡ false = ap (λ ns. is_some (place_in ns ch.name)) (sym l.invariant.named)
    ∙ ap (λ b. is_some (place_in l.names b)) (sym c.bytes.ensures.bytes) ∙ ap is_some (sym c.find.ensures) ∙ sym c.is_some.ensures ∙ c.if-is_some.false in
    let some = rw c.in-Some.is at c.in_ok-channel.ensures.some in
    channel_refused n.version n.index n.first.items l.channels.items (text_behind (nodes_told n.version n.index n.first.items) c.args.text.now) l.rest.now ch
    c.in-Err.fault _ c.requires.read.nodes l.invariant.read (omega (arith, some)) (rw c.in-Some.is at c.in_ok-channel.ensures.line)
    (rw c.in-Some.is at c.in_ok-channel.ensures.form) (ap (λ b. cond b (Some DoubleName) (wires_fault_of n.index n.first.items ch)) is
    ∙ rw c.in-Err.is at c.in_ok-wires.ensures.fault) (omega (arith, c.len.ensures, c.len-in-Some.ensures, l.channels.ok.0))

pub loop-names-preserved : goal.loop-names-preserved
loop-names-preserved c =
    let n = c.args.nodes.now in
    let l = c.loop-names in
    let ch = c.in-Some.channel in
    let w = c.in-Ok.wires in
    let same = rw c.in-Ok.is at c.in_ok-wires.ensures.channel in
    let is : is_some (place_in (channel_names l.channels.items) ch.name) ≡ false = ap (λ ns. is_some (place_in ns ch.name)) (sym l.invariant.named)
    ∙ ap (λ b. is_some (place_in l.names b)) (sym c.bytes.ensures.bytes) ∙ ap is_some (sym c.find.ensures) ∙ sym c.is_some.ensures ∙ c.if-is_some.false in
    let fresh : place_in (channel_names l.channels.items) w.channel.name ≡ None = ap (λ k. place_in (channel_names l.channels.items) k.name) same
    ∙ none_is (place_in (channel_names l.channels.items) ch.name) is in
    let some = rw c.in-Some.is at c.in_ok-channel.ensures.some in
    record {
      read = rw c.in_ok-push-in-Ok.ensures.items
          (channels_more n.version n.index n.first.items l.channels.items w (text_behind (nodes_told n.version n.index n.first.items) c.args.text.now)
          l.rest.now c.in-Some.behind.now c.requires.read.nodes l.invariant.read (rw c.in-Some.is at c.in_ok-channel.ensures.line
          ∙ ap channel_spelling (sym same)) (rw c.in-Some.is at c.in_ok-channel.ensures.rest)
          (subst IsChannelForm (sym same) (rw c.in-Some.is at c.in_ok-channel.ensures.form)) (rw c.in-Ok.is at c.in_ok-wires.ensures.wired) fresh);
      named = c.in_ok-add.ensures.ok ∙ ap (λ ns. ns ++ c.in_ok-name.name ∷ []) l.invariant.named
          ∙ ap (λ k. channel_names l.channels.items ++ k ∷ []) (c.in_ok-name.ensures ∙ ap (λ k. k.name) (sym same))
          ∙ sym (map_push (λ (w : Wires). w.channel.name) l.channels.items w) ∙ ap channel_names (sym c.in_ok-push-in-Ok.ensures.items);
      room = omega (arith, ap length c.in_ok-push-in-Ok.ensures.items, length_push l.channels.items w, some, l.invariant.room);
    }
