use Rattle.pmf_event.specs.{Line.{line_of_byte}, Store.{last_store}}
use Rattle.pmf_image.proofs.CertificateLemmas.{Carried}
use Rattle.pmf_image.proofs.certificate.shows.Given as goal

abbrev pub invariant-loop-index : goal.invariant-loop-index
invariant-loop-index l = Carried l.events (line_of_byte l.byte) (λ k. last_store l.events k l.byte) l.index l.places
