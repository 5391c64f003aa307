-- The lemmas that functions of src/ name in their attributes.
use Rattle.std.proofs.lemmas.{Bool.{cases_eq}, Bool.Decides.{nat_tests}}
use Rattle.pmf_event.proofs.{LineLemmas.{line-bounds}, RangeLemmas.{first-passes}}
use Rattle.pmf_shadow.proofs.{BoundsLemmas.{joined-left, joined-right}, PieceLemmas.{least-off, least-on, piece-before, piece-within, piece-after, least-of_span}, QuestionLemmas.{lacks-late, late-alone, interval-same-some, interval-same-none}, StretchLemmas.{lacks-here, none_before-all, none_before-more, lacks-not, but-found, but-more, but-end, but-never_end, stretch-none, stretch-bounds, stretch-some, line_has-is, least_with-none, least_with-some, found-below, alone-none, alone-from, lines-none, lines-some, count-but, count-lacks, lines_by-is, one-but, one-lacks}, TotalsLemmas.{lacks_beyond}, UnorderedLemmas.{lines-none as pairs-none, epochs-none, never-lost}}

pub ruleset joined = (joined-left, joined-right)

pub ruleset has_on = (line_has-is)

pub ruleset least_line_with = (least_with-none, least_with-some)

pub ruleset least_line_but = (found-below, but-found, but-more, but-end, but-never_end)

pub ruleset least_line_alone = (alone-none, found-below, alone-from)

pub ruleset lines_with_but = (lines-none, found-below, lines-some, count-but)

pub ruleset least_line_beyond = (lacks_beyond)

pub ruleset lines_without = (lines-none, found-below, lines-some, count-lacks)

pub ruleset lines_apart = (lines_by-is, one-but, one-lacks)

pub ruleset least_opening_off = (least-off)

pub ruleset least_place_on = (least-on)

pub ruleset first_by_line = (piece-before, piece-within, piece-after)

pub ruleset least_by_lines = (least-of_span, pairs-none, first-passes, line-bounds)

pub ruleset least_by_epochs = (least-of_span, epochs-none, first-passes, never-lost)

pub ruleset flush_lines = (lacks-late, late-alone)

pub ruleset interval_at = (interval-same-some, interval-same-none)

pub ruleset stretch_end = (stretch-none, stretch-bounds, stretch-some)

pub ruleset least_line_without = (lacks-here, none_before-all, none_before-more, lacks-not, nat_tests, cases_eq)
