use Rattle.std.proofs.Common.{◌≡◌, ◌++◌, take, All, flat_map, string_bytes}
use Rattle.pmf_storelog.specs.{Canonical.{line_of_event}, Spelling.{AllValid}}
use Rattle.pmf_ledger.proofs.writing.push_events.Given as goal

abbrev pub invariant-loop-index : goal.invariant-loop-index
invariant-loop-index l = record {
  text : string_bytes l.text ≡ string_bytes l.initial.text ++ flat_map line_of_event (take l.index l.events);
  valid : All AllValid (take l.index l.events);
}
