use Rattle.std.proofs.Common.{◌<◌, length, drop, List, refl, sym, ◌∙◌, subst}
use Rattle.pmf_event.specs.declared.row.Row.{Row}
use Rattle.pmf_verdict.specs.Checked.{rows_in}
use Rattle.pmf_ledger.{specs.Following.{StandsFor}, specs.Loading.{AtRows}, proofs.lemmas.ReadingLemmas.{HasRead_at, own_profile, rows_more}}
use Rattle.pmf_ledger.specs.declared.blocks.Next.TheVariants as next
use Rattle.pmf_ledger.proofs.blocks.Blocks.with_rows.Goals as goal

pub returns-then-row-rows : goal.returns-then-row-rows
returns-then-row-rows c = λ r read.
    let v = c.args.verdict in
    let below = subst (λ (rows : List Row). c.args.row < length rows) c.rows.ensures.value c.if-row-rows.true in
    subst (λ e. StandsFor e c.args.self.now (next.Rows v c.args.row)) (sym (rows_more r v.section (rows_in v) c.args.row below))
    (HasRead_at r (AtRows v.section (drop c.args.row (rows_in v))) c.args.self.now read, (refl, c.requires.profile ∙ own_profile r c.args.self.now read, below))
