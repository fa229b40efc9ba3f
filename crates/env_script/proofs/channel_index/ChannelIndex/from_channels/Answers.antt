use Rattle.std.proofs.Common.{sym, ◌∙◌, arith}
use Rattle.std.proofs.lemmas.Map.Text.{btree_map_updates_str}
use Rattle.env_script.proofs.NameTables.{table_begun, table_known, table_more, table_done}
use Rattle.env_script.proofs.channel_index.ChannelIndex.from_channels.Goals as goal
use Rattle.env_script.proofs.channel_index.ChannelIndex.from_channels.Goals.{then-not-contains_key+in_ok-insert, else-not-contains_key}

pub loop-place-init : goal.loop-place-init
loop-place-init c = table_begun c.new-places.result c.new-places.ensures.empty

pub loop-place-preserved : goal.loop-place-preserved
loop-place-preserved c = elim c.if-not-contains_key.branch [
  | then-not-contains_key+in_ok-insert w ↦ rw w.places-is (table_more c.args.channels.now c.loop-place.place c.index-channels-place.result
      c.bytes-name.result.now c.loop-place.places w.insert.new.self c.loop-place-test.true c.index-channels-place.is c.bytes-name.ensures.bytes
      c.loop-place.invariant (sym c.contains_key.ensures ∙ w.if-not-contains_key.true)
      (btree_map_updates_str c.bytes-name.result.now c.loop-place.places w.insert.new.self _ w.in_ok-insert.ensures.updates))
  | else-not-contains_key w ↦ rw w.places-is (table_known c.args.channels.now c.loop-place.place c.index-channels-place.result
      c.bytes-name.result.now c.loop-place.places c.loop-place-test.true c.index-channels-place.is c.bytes-name.ensures.bytes
      c.loop-place.invariant (sym c.contains_key.ensures ∙ w.if-not-contains_key.false))
]

pub invariant_of-result : goal.invariant_of-result
invariant_of-result c = table_done c.args.channels.now c.loop-place.place c.loop-place.places (omega arith) c.loop-place.invariant
