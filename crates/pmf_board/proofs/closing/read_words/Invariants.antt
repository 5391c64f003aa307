use Rattle.std.{proofs.Common.{◌≡◌, ◌-◌, ◌≤◌, map, take, vec_capacity}, specs.Mem.Slots.{slots_items}}
use Rattle.pmf_board.specs.Rule.{entry_of}
use Rattle.pmf_board.proofs.closing.read_words.Given as goal

abbrev pub invariant-loop-section : goal.invariant-loop-section
invariant-loop-section l = record {
  so_far : l.entries.items ≡ map entry_of (take l.section (slots_items l.closed.words));
  within : l.section ≤ l.count;
  room : l.count ≤ vec_capacity l.entries;
}

abbrev pub decreases-loop-section : goal.decreases-loop-section
decreases-loop-section l = l.count - l.section
