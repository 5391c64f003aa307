use Rattle.std.proofs.Common.{Some, ap, sym, ◌∙◌}
use Rattle.pmf_query.proofs.FirstLemmas.{none_told}
use Rattle.pmf_query.proofs.explaining.section_text.Goals as goal

pub returns-in-Some-eq0-clause-text : goal.returns-in-Some-eq0-clause-text
returns-in-Some-eq0-clause-text c = c.new.ensures.bytes ∙ none_told c.args.left.now _ (c.in-Some-eq0.is ∙ ap (λ n. Some n) (sym c.in-Some-eq0.field-0-is ∙ c.in-Some-eq0.field-0-test))
