use Rattle.pmf_ledger.proofs.lemmas.CountLemmas.{one_within, one_within_last}
use Rattle.pmf_ledger.proofs.telling.Teller.add.Goals as goal

pub invariant_of-self : goal.invariant_of-self
invariant_of-self c =
    let old = c.args.self.now in record {
      within = one_within old.totals c.add-2.new.self c.args.counts c.args.verdict.now c.requires.counts c.add-2.ensures old.within c.requires.small;
      last_within = one_within_last old.totals c.add-2.new.self old.last.totals c.add.new.self.totals c.args.counts c.args.verdict.now c.requires.counts c.add-2.ensures old.last_within c.requires.small c.add.ensures.sums;
    }
