use Rattle.std.proofs.Common.{◌≡◌, ◌++◌, take, All, flat_map, string_bytes}
use Rattle.pmf_storelog.specs.{Canonical.{line_of_event, line_of_marker}, Spelling.{AllValid}}
use Rattle.pmf_storelog.proofs.writing.write_section.Given as goal

abbrev pub invariant-loop-index : goal.invariant-loop-index
invariant-loop-index l =
    (string_bytes l.text ≡ line_of_marker l.section.name.number ++ flat_map line_of_event (take l.index l.events))
    × All AllValid (take l.index l.events)
