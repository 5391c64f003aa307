use Rattle.std.proofs.Common.{◌∙◌, ap, arith}
use Rattle.pmf_runs.{specs.Ranks.{low_rank, high_rank}, proofs.RankLemmas.{high_rank-bound}, proofs.LeafLemmas.{leaf-counted}}
use Rattle.pmf_runs.proofs.leaf.Leaf.change_all.Goals as goal

pub change_runs-requires : goal.change_runs-requires
change_runs-requires g c = grind (arith, high_rank-bound, leaf-counted)

pub returns : goal.returns
returns g c = c.change_runs.ensures c.args.from c.args.end (record {
  begins = c.requires.from;
  ends = c.requires.end;
  order = c.requires.order;
  first = c.low_rank-low.ensures ∙ ap (λ ks. low_rank ks c.args.from) c.deref.ensures.value;
  beyond = c.high_rank-high.ensures ∙ ap (λ ks. high_rank ks c.args.end) c.deref-2.ensures.value;
})
