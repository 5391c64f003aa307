use Rattle.pmf_ledger.specs.RawText.{RawBlock}
use Rattle.pmf_merge.{specs.Trusting.{heads_of, raw_names_of}, proofs.lemmas.NamesLemmas.{least_of_names}, proofs.lemmas.RawHeadsLemmas.{least_raw}}
use Rattle.pmf_merge.proofs.raw_heads.RawHeads.least.Goals as goal

pub returns : goal.returns
returns c =
    let feeds = c.args.self.now.feeds.items in
    least_raw feeds c.first.result (least_of_names (λ (b : RawBlock). b.name) (heads_of feeds) c.first.result (c.first.ensures (raw_names_of feeds) c.requires))
