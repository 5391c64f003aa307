use Rattle.std.proofs.Common.{◌≡◌, suc, drop}
use Rattle.pmf_cause.proofs.ChangedLemmas.{Changing}
use Rattle.pmf_cause.proofs.changing.change.Given as goal

abbrev pub invariant-loop-index : goal.invariant-loop-index
invariant-loop-index l = record {
  at : l.place ≡ suc l.index;
  changing : Changing l.edits l.fn.name l.events l.made l.rest l.place (drop l.index l.events);
}
