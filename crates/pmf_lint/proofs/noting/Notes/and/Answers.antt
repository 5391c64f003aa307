use Rattle.std.proofs.Common.{◌∙◌, ◌||◌, ap}
use Rattle.pmf_lint.proofs.NotingLemmas.{notes_more}
use Rattle.pmf_lint.proofs.noting.Notes.and.Goals as goal

pub returns : goal.returns
returns c = λ records notes.
    notes_more c.args.self _ records c.args.text.now c.args.name.now c.args.skipped c.is_near_skipped.result c.is_strange_skipped.result c.asserts_decimal.result notes c.requires.name c.requires.skipped
    c.is_near_skipped.ensures c.either.ensures c.is_strange_skipped.ensures c.either-2.ensures
    (c.either-3.ensures ∙ ap (λ b. c.args.self.starts || b) c.is_named.ensures) (c.either-4.ensures ∙ ap (λ b. c.args.self.stops || b) c.is_named-2.ensures) c.asserts_decimal.ensures c.either-5.ensures
