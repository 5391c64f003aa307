use Rattle.std.proofs.Common.{subst}
use Rattle.pmf_verdict.specs.Explained.{Explains}
use Rattle.pmf_verdict.proofs.explaining.explain.Goals as goal

pub returns-clause-fits : goal.returns-clause-fits
returns-clause-fits c = λ k is. (c.rows.ensures.real c.args.place k (subst (Explains c.rows.result.now c.args.place) is c.first_certificate.ensures)).0

pub returns-clause-allowed : goal.returns-clause-allowed
returns-clause-allowed c = λ k is. (c.rows.ensures.real c.args.place k (subst (Explains c.rows.result.now c.args.place) is c.first_certificate.ensures)).1

pub returns-clause-real : goal.returns-clause-real
returns-clause-real c = λ k is. (c.rows.ensures.real c.args.place k (subst (Explains c.rows.result.now c.args.place) is c.first_certificate.ensures)).2
