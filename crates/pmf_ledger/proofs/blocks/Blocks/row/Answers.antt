use Rattle.std.proofs.Common.{◌≡◌, ◌++◌, false, get_or, List, sym, ◌∙◌, ap, codes, bytes_eq}
use Rattle.pmf_event.specs.declared.{finding.Finding.TheVariants.{PersistPass}, row.Row.{Row}}
use Rattle.pmf_verdict.specs.{Checked.{rows_in}, Text.{text_of_row}}
use Rattle.pmf_ledger.proofs.lemmas.ReadingLemmas.{stopped, row-other}
use Rattle.pmf_ledger.proofs.blocks.Blocks.row.Goals as goal

pub returns-in-Ok-false : goal.returns-in-Ok-false
returns-in-Ok-false c = λ r read of_text.
    let d : Row = record { place = 0; finding = PersistPass } in let x = get_or c.rows.result.now c.args.row d in
    let is : x ≡ get_or (rows_in c.args.verdict) c.args.row d = ap (λ (rows : List Row). get_or rows c.args.row d) c.rows.ensures.value in
    let other : bytes_eq (c.args.text.now ++ codes "\n") (text_of_row x) ≡ false = sym c.in-Ok-false.ensures.same ∙ c.in-Ok-false.field-0-test in rw c.name.ensures
    (stopped r c.args.self.now read _ _ (row-other r c.args.line c.args.text.now c.args.verdict.section (rows_in c.args.verdict) c.args.row x d c.requires.within is other))
