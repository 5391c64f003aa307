use Rattle.std.proofs.{Common.{sym, ◌∙◌}, lemmas.Bool.{not-true}}
use Rattle.pmf_storelog.specs.Separators.{records_of}
use Rattle.pmf_query.proofs.NumberFoundLemmas.{read_so}
use Rattle.pmf_lint.proofs.MisreadLemmas.{none_decimal}
use Rattle.pmf_lint.proofs.lint.is_misread.Goals as goal

pub returns-then-not-notes : goal.returns-then-not-notes
returns-then-not-notes c = none_decimal (records_of c.args.log.now) (sym c.requires.notes.decimal ∙ not-true c.args.notes.has_decimal c.if-not-notes.true)

pub has_misread-requires-clause-faultless : goal.has_misread-requires-clause-faultless
has_misread-requires-clause-faultless c = (read_so c.requires.read.0 c.args.log.now c.args.read.now c.requires.read.1).0

pub has_misread-requires-clause-sections : goal.has_misread-requires-clause-sections
has_misread-requires-clause-sections c = (c.requires.read.0, c.sections.ensures ∙ (read_so c.requires.read.0 c.args.log.now c.args.read.now c.requires.read.1).1)
