use Rattle.std.proofs.Common.{sym, ◌∙◌, ap, Some}
use Rattle.pmf_ledger.{specs.Following.{is_over}, specs.declared.loading.LedgerFault.TheVariants.{NotALedger}, proofs.lemmas.TextFrontLemmas.{not_over, over, reading_is}}
use Rattle.pmf_ledger.proofs.block_reader.BlockReader.finish.Goals as goal

pub returns-then-is_over : goal.returns-then-is_over
returns-then-is_over c = λ text r taken.
    let is = ap (is_over c.args.self.now.lines.next) (sym c.deref.ensures.value) ∙ sym c.is_over.ensures ∙ c.if-is_over.true in (
      over text c.args.self.now.front.items taken.line r taken.within c.args.self.now.lines.next taken.lines.stands.1 is,
      reading_is text c.args.self.now.front.items taken.line r taken.within,
    )

pub returns-else-is_over : goal.returns-else-is_over
returns-else-is_over c = λ text r taken.
    let is = ap (is_over c.args.self.now.lines.next) (sym c.deref.ensures.value) ∙ sym c.is_over.ensures ∙ c.if-is_over.false in
    not_over text c.args.self.now.front.items taken.line r taken.within c.args.self.now.lines.next taken.lines.stands.1 is
    ∙ ap (λ n. Some (NotALedger n)) (sym (c.line.ensures r taken.line taken.lines))
