use Rattle.std.proofs.Common.{arith}
use Rattle.pmf_storelog.proofs.SectionLemmas.{only_one, one_item}
use Rattle.pmf_storelog.proofs.sections.OpenSections.only.Goals as goal

pub returns-then-len-eq1 : goal.returns-then-len-eq1
returns-then-len-eq1 c = λ run numbers events current has.
    only_one run numbers events current c.args.self.now has c.index.result.now (one_item c.args.self.now.sections.items c.index.result.now (omega arith) c.index.ensures)
