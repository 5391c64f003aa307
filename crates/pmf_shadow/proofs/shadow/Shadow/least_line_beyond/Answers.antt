use Rattle.pmf_shadow.specs.Bytes.{passing}
use Rattle.pmf_shadow.proofs.TotalsLemmas.{lacks_beyond}
use Rattle.pmf_shadow.proofs.shadow.Shadow.least_line_beyond.Goals as goal

pub returns : goal.returns
returns g c =
    lacks_beyond (passing (g.T.Test.passes c.args.test.now) c.args.self.now.bytes) c.args.first c.args.known c.args.end c.least_line_without.result c.requires.from c.requires.ordered c.requires.known c.least_line_without.ensures
