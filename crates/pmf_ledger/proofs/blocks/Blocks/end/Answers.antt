use Rattle.std.proofs.Common.{sym, ◌∙◌, ap}
use Rattle.pmf_ledger.{specs.Loading.{after_end}, proofs.lemmas.ReadingLemmas.{stopped, end-otherwise}}
use Rattle.pmf_ledger.proofs.blocks.Blocks.end.Goals as goal

pub returns-else-blocks-self-clause-reaches : goal.returns-else-blocks-self-clause-reaches
returns-else-blocks-self-clause-reaches c = λ r read of_text.
    stopped r c.args.self.now read _ _
    (ap (after_end r c.args.line) (sym c.read_end.ensures ∙ c.in-Some.is) ∙ end-otherwise r c.args.line c.in-Some.blocks c.args.self.now.count read.count c.if-blocks-self.false)

pub returns-in-None-clause-reaches : goal.returns-in-None-clause-reaches
returns-in-None-clause-reaches c = λ r read of_text. stopped r c.args.self.now read _ _ (ap (after_end r c.args.line) (sym c.read_end.ensures ∙ c.in-None.is))
