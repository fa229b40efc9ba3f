use Rattle.std.proofs.Common.{◌≡◌, ◌++◌, drop}
use Rattle.width_check.specs.Walk.{join_parts, links_in}
use Rattle.call_merge.proofs.Mapping.{names_read_join, names_read_links}
use Rattle.call_merge.proofs.own_vars.+note_reads.Given as goal

abbrev pub invariant-loop-part : goal.invariant-loop-part
invariant-loop-part l =
    l.names.items ++ names_read_join (join_parts (drop l.part-index l.part-items)) ≡ l.initial.names.items ++ names_read_join (join_parts l.part-items)

abbrev pub invariant-loop-link : goal.invariant-loop-link
invariant-loop-link l =
    l.names.items ++ names_read_links (links_in (drop l.link-index l.link-items)) ≡ l.initial.names.items ++ names_read_links (links_in l.link-items)
