use Rattle.std.proofs.Common.{◌∙◌, ℕ, ap}
use Rattle.pmf_storelog.specs.Records.{record_of}
use Rattle.pmf_lint.specs.Misread.{is_met_as_read, text_as_hexadecimal}
use Rattle.pmf_lint.proofs.misread.is_met_as_hexadecimal.Goals as goal

pub returns : goal.returns
returns c = λ told es p stands.
    c.is_met_in.ensures told es p stands ∙ ap (λ text. is_met_as_read es p (record_of text)) (c.as_bytes.ensures.value ∙ c.in_ok-text.ensures)
    ∙ ap (λ (n : ℕ). is_met_as_read es p (record_of (text_as_hexadecimal n c.size.result))) c.first.ensures.value
    ∙ ap (λ (n : ℕ). is_met_as_read es p (record_of (text_as_hexadecimal c.args.span.first n))) c.size.ensures.value
