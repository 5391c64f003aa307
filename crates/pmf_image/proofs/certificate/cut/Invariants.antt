use Rattle.pmf_image.{specs.Image.{count_of}, proofs.CertificateLemmas.{Carried}}
use Rattle.pmf_image.proofs.certificate.cut.Given as goal

abbrev pub invariant-loop-index : goal.invariant-loop-index
invariant-loop-index l = Carried l.events l.line (λ k. count_of l.events k l.line) l.index l.counts
