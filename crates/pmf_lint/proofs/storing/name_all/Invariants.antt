use Rattle.std.proofs.Common.{◌≤◌, ◌*◌, length, map, sum_by, take}
use Rattle.pmf_event.specs.Section.{Trace}
use Rattle.pmf_query.specs.Standing.{located_in}
use Rattle.pmf_lint.specs.StoreNames.{AreNamed}
use Rattle.pmf_lint.proofs.storing.name_all.Given as goal

abbrev pub invariant-loop-looked : goal.invariant-loop-looked
invariant-loop-looked l = record {
  named : AreNamed (located_in l.standing) l.unasserted (map (λ k. k.section.value) (take l.looked-index l.sections)) l.names;
  few : sum_by (λ (t : Trace). length t.events) (map (λ k. k.section.value) (take l.looked-index l.sections)) ≤ l.looked-index * 1048576;
}
