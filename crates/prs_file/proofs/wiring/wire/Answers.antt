use Rattle.std.proofs.Common.{◌≡◌, ◌<◌, ◌++◌, ◌∷◌, [], false, length, get_or, sym, ◌∙◌, arith}
use Rattle.std.specs.List.{list_any}
use Rattle.std.proofs.lemmas.List.{get_or_read}
use Rattle.prs_core.specs.Nets.{rail_names, ack_name}
use Rattle.prs_file.proofs.Lookups.{found_more}
use Rattle.prs_file.proofs.Wirings.{numbers_within, place_found, fault_high, fault_none, rail_high, ack_high, none_is_high, all_low}
use Rattle.prs_file.proofs.wiring.wire.Goals as goal
use Rattle.prs_file.proofs.wiring.wire.Goals.{then-any_high-via-then-any_high, then-any_high-via-else-any_high+then-index}

pub any_high-requires : goal.any_high-requires
any_high-requires c =
    let rails = rw c.in-Some.is at c.in_ok-rails.ensures.found in
    rw (
      c.deref.ensures.value,
      c.deref-2.ensures.value,
      c.requires.count,
    ) (numbers_within c.args.nodes.now.index (rail_names c.bytes-name.result.now c.args.channel.width) c.in-Some.rails.items rails)

pub index-requires : goal.index-requires
index-requires c =
    let ack = rw c.in-Some-2.is at c.in_ok-ack.ensures in
    let within = place_found c.args.nodes.now.index (ack_name c.bytes-name.result.now) c.in-Some-2.ack (sym ack) in
    omega (arith, within.0, c.requires.count, c.args.nodes.now.first.ok.0)

pub returns-then-any_high-clause-fault : goal.returns-then-any_high-clause-fault
returns-then-any_high-clause-fault c =
    let names = c.args.nodes.now.index in
    let first = c.args.nodes.now.first.items in
    let rails = rw c.bytes-name.ensures.bytes at (rw c.in-Some.is at c.in_ok-rails.ensures.found) in
    let ack = rw c.bytes-name.ensures.bytes at (rw c.in-Some-2.is at c.in_ok-ack.ensures) in
    let found = found_more names (rail_names c.args.channel.name c.args.channel.width) c.in-Some.rails.items (ack_name c.args.channel.name) c.in-Some-2.ack
    rails (sym ack) in
    let within : c.in-Some-2.ack < length first = omega (
      arith,
      (place_found names (ack_name c.args.channel.name) c.in-Some-2.ack (sym ack)).0,
      c.requires.count,
    ) in
    let any = rw (c.deref.ensures.value, c.deref-2.ensures.value) at c.any_high.ensures in
    fault_high names first c.args.channel (c.in-Some.rails.items ++ c.in-Some-2.ack ∷ []) c.requires.count c.requires.distinct found
    (elim c.then-any_high.branch [
      | then-any_high-via-then-any_high w ↦ rail_high first c.in-Some.rails.items c.in-Some-2.ack (sym any ∙ w.if-any_high.true)
      | then-any_high-via-else-any_high+then-index w ↦ ack_high first c.in-Some.rails.items c.in-Some-2.ack
          (sym (get_or_read first c.in-Some-2.ack w.index.result.now within w.index.ensures false) ∙ w.if-index.true)
    ])

pub returns-clause-wired : goal.returns-clause-wired
returns-clause-wired c =
    let names = c.args.nodes.now.index in
    let first = c.args.nodes.now.first.items in
    let rails = rw c.bytes-name.ensures.bytes at (rw c.in-Some.is at c.in_ok-rails.ensures.found) in
    let ack = rw c.bytes-name.ensures.bytes at (rw c.in-Some-2.is at c.in_ok-ack.ensures) in
    let found = found_more names (rail_names c.args.channel.name c.args.channel.width) c.in-Some.rails.items (ack_name c.args.channel.name) c.in-Some-2.ack
    rails (sym ack) in
    let within : c.in-Some-2.ack < length first = omega (
      arith,
      (place_found names (ack_name c.args.channel.name) c.in-Some-2.ack (sym ack)).0,
      c.requires.count,
    ) in
    let any = rw (c.deref.ensures.value, c.deref-2.ensures.value) at c.any_high.ensures in
    let low : list_any (λ n. get_or first n false) (c.in-Some.rails.items ++ c.in-Some-2.ack ∷ []) ≡ false =
    none_is_high first c.in-Some.rails.items c.in-Some-2.ack (sym any ∙ c.if-any_high.false)
    (sym (get_or_read first c.in-Some-2.ack c.index.result.now within c.index.ensures false) ∙ c.if-index.false) in
    rw c.new-rails.ensures (record {
      found = found;
      low = all_low first (c.in-Some.rails.items ++ c.in-Some-2.ack ∷ []) low;
      sound = fault_none names first c.args.channel (c.in-Some.rails.items ++ c.in-Some-2.ack ∷ []) c.requires.count c.requires.distinct found low;
    })
