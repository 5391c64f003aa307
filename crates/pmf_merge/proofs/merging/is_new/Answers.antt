use Rattle.std.proofs.Common.{subst}
use Rattle.pmf_ledger.specs.Names.{IsBefore}
use Rattle.pmf_merge.proofs.lemmas.TellingLemmas.{not_after}
use Rattle.pmf_merge.proofs.merging.is_new.Goals as goal

pub unreachable-requires : goal.unreachable-requires
unreachable-requires c =
    let before = subst (λ n. IsBefore n c.in-Some.last.section.name) c.name-2.ensures (subst (IsBefore c.name-2.result) c.name.ensures (c.order.ensures.greater c.in-Greater.is)) in
    not_after c.requires.0 c.in-Some.last c.args.verdict.now c.args.last.now c.requires.1 c.in-Some.is c.requires.2 before
