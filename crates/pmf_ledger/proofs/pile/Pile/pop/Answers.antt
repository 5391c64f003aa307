use Rattle.pmf_ledger.{proofs.lemmas.BlockReadingLemmas.{emptied_pile, popped}}
use Rattle.pmf_ledger.proofs.pile.Pile.pop.Goals as goal

pub returns : goal.returns
returns c = λ profile set are few.
    let old = c.args.self.now in
    let out = popped profile set old.full.items old.last c.pop.new.self c.pop.result are old.filled few c.pop.ensures.profile c.pop.ensures.last c.pop.ensures.none in
    (emptied_pile profile _ c.pop.new.self c.clear.ensures.items out.0 out.1, out.2)
