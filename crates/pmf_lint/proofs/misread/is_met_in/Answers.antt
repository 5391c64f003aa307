use Rattle.std.proofs.Common.{◌∙◌, Ok, ap, sym}
use Rattle.pmf_storelog.specs.declared.record.Saying.TheVariants.{Happens}
use Rattle.pmf_lint.specs.Misread.{is_met_as_read}
use Rattle.pmf_lint.proofs.misread.is_met_in.Goals as goal

pub returns-in-Persist : goal.returns-in-Persist
returns-in-Persist c = λ told es p stands.
    c.written_included.ensures told es p stands ∙ ap (λ e. is_met_as_read es p (Ok (Happens e))) (sym c.in-Persist.is) ∙ ap (is_met_as_read es p) (ap Ok (sym c.in-Ok-Happens.field-0-is) ∙ sym c.in-Ok-Happens.is ∙ c.read_record.ensures)
