use Rattle.std.proofs.Common.{Some, ap, refl}
use Rattle.pmf_event.specs.declared.name.Name.{Name}
use Rattle.pmf_ledger.proofs.lemmas.TellingLemmas.{told_other, told_same}
use Rattle.pmf_ledger.proofs.last_run.LastRun.add.Goals as goal

pub returns-then-is_of-clause-told : goal.returns-then-is_of-clause-told
returns-then-is_of-clause-told c =
    λ sections is. told_same sections c.args.verdict.now c.args.counts c.requires.counts c.args.self.now (record { run = c.args.self.now.run; totals = c.add.new.self }) is (c.is_of.ensures.of c.if-is_of.true) refl c.add.ensures

pub returns-else-is_of-clause-told : goal.returns-else-is_of-clause-told
returns-else-is_of-clause-told c =
    λ sections is. told_other sections c.args.verdict.now c.args.counts c.requires.counts c.args.self.now (record { run = Some c.name.result.run; totals = c.args.counts }) is (c.is_of.ensures.other c.if-is_of.false)
    (ap (λ (name : Name). Some name.run) c.name.ensures) refl
