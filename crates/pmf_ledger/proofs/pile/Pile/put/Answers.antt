use Rattle.pmf_ledger.proofs.lemmas.PileLemmas.{filled-more, last-more}
use Rattle.pmf_ledger.proofs.pile.Pile.put.Goals as goal

pub invariant_of-self : goal.invariant_of-self
invariant_of-self c = record {
  filled = filled-more c.args.self.now.last c.take.new.self c.args.verdict.section c.take.result c.args.self.now.full.items c.take.ensures.gains c.take.ensures.unchanged c.args.self.now.filled;
}

pub returns-clause-taken : goal.returns-clause-taken
returns-clause-taken c = λ profile set are.
    last-more profile set c.args.self.now.full.items c.args.self.now.last c.take.new.self c.args.verdict.section are c.in-Ok.ensures.gains c.in-Ok.ensures.gathers c.requires.absent
