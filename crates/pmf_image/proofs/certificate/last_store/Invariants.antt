use Rattle.std.proofs.Common.{◌≡◌}
use Rattle.pmf_event.specs.Store.{last_store}
use Rattle.pmf_image.proofs.certificate.last_store.Given as goal

abbrev pub invariant-loop-index : goal.invariant-loop-index
invariant-loop-index l = l.last ≡ last_store l.events l.index l.byte
