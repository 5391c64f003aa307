use Rattle.std.proofs.Common.{nat_lt, rules}
use Rattle.std.proofs.lemmas.List.Sorted.{IsPartitionPoint-from_clause, IsPartitionedBy-ltb}
use Rattle.pmf_images.proofs.CountLemmas.{cut_from}
use Rattle.pmf_images.proofs.counts.index_of.Goals as goal

pub returns : goal.returns
returns c =
    let lines = c.args.lines.now in
    let address = c.args.address in
    cut_from lines address c.partition_point.result c.partition_point.ensures.bound
    (IsPartitionPoint-from_clause (λ y. nat_lt y address) lines c.partition_point.result c.partition_point.ensures.partitioned
    (IsPartitionedBy-ltb (λ y. y) lines address c.requires.rise) (λ a r q k. search rules))
