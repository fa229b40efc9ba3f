use Rattle.std.proofs.Common.{arith}
use Rattle.std.proofs.lemmas.Map.Text.{btree_map_updates_str}
use Rattle.delay_script.proofs.TableNames.{table_begun, table_more, table_done}
use Rattle.delay_script.proofs.name_table.NameTable.from_names.Goals as goal

pub loop-place-init : goal.loop-place-init
loop-place-init c = table_begun c.new-places.result c.new-places.ensures.empty

pub loop-place-preserved : goal.loop-place-preserved
loop-place-preserved c =
    table_more c.args.names.now c.loop-place.place c.index-names-place.result c.bytes.result.now c.loop-place.places c.insert.new.self
    c.loop-place-test.true c.index-names-place.is c.bytes.ensures.bytes c.loop-place.invariant
    (btree_map_updates_str c.bytes.result.now c.loop-place.places c.insert.new.self _ c.in_ok-insert.ensures.updates)

pub invariant_of-result : goal.invariant_of-result
invariant_of-result c = table_done c.args.names.now c.loop-place.place c.loop-place.places (omega arith) c.loop-place.invariant
