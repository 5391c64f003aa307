use Rattle.std.proofs.Common.{◌≡◌}
use Rattle.pmf_event.specs.Exclusion.{is_included}
use Rattle.pmf_image.proofs.transactions.is_included.Given as goal

abbrev pub invariant-loop-index : goal.invariant-loop-index
invariant-loop-index l = l.included ≡ is_included l.events l.index l.byte
