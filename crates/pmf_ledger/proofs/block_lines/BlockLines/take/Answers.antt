use Rattle.std.proofs.Common.{rules, subst, sym, ◌∙◌}
use Rattle.pmf_ledger.{specs.LoneBlock.{IsLone}, proofs.lemmas.LoneBlockLemmas.{lines_stand}}
use Rattle.pmf_ledger.proofs.block_lines.BlockLines.take.Goals as goal

pub returns-clause-taken : goal.returns-clause-taken
returns-clause-taken c = λ r line profile bytes are is _.
    let comes = c.is_between.ensures r line are c.if-not-is_between.false in
    let own = c.is_by.ensures c.if-not-is_by.false r line are in
    let by = sym is.by ∙ sym c.profile.ensures ∙ own in (
      lines_stand r line bytes c.args.lone.now (subst (λ p. IsLone p bytes c.args.lone.now) by is) comes c.args.self.now c.in-Some-Some.line c.in-Some-Some.count c.name-name.result are
          (search rules) (search rules) c.name-name.ensures (c.comes_next.ensures.next c.if-not-comes_next.false),
      comes,
      by,
    )
