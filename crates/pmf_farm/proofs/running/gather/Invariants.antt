use Rattle.pmf_ledger.specs.Gathered.{IsLedgerOf}
use Rattle.pmf_farm.specs.Rolls.{checks, sections_of}
use Rattle.pmf_farm.proofs.running.gather.Given as goal

abbrev pub invariant-loop-slot : goal.invariant-loop-slot
invariant-loop-slot g l = IsLedgerOf l.fn.profile (sections_of (checks l.yielded)) l.ledger
