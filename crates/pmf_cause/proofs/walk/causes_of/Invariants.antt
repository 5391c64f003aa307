use Rattle.std.proofs.Common.{◌≡◌, ◌<◌, ◌≤◌, suc, length, get_or, map, take}
use Rattle.pmf_event.specs.declared.row.Row.{Row}
use Rattle.pmf_cause.specs.{Cause.{cause_of}, Later.{AllAsk}, Past.{IsPast}}
use Rattle.pmf_cause.proofs.walk.causes_of.Given as goal

abbrev pub invariant-loop-index : goal.invariant-loop-index
invariant-loop-index l = record {
  past : IsPast l.past l.events;
  asks : AllAsk l.past.watch l.rows;
  before : (r : Row) → l.index < length l.rows → suc l.past.place ≤ (get_or l.rows l.index r).place;
  causes : l.causes.items ≡ map (cause_of l.events) (take l.index l.rows);
}
